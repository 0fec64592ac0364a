-- Rounds: a round joins a district's pieces as if the others were not there.
-- The starts go by piece number. A start of the district makes the walk of the district alone, lifted; another's walk stays in its group, and so
-- visits no piece of the district. What is visited of the district is the same in both, start by start.
use Prim.Native.Nat.{ℕ, suc, ◌+◌, ◌<◌}
use mathlib.Core.Path.{◌≡◌, refl, sym, ap, ap₂, ◌∙◌, subst}
use mathlib.Core.Bool.{Bool, true, false}
use mathlib.Core.List.{List, [], ◌∷◌, ◌++◌, map, nil≢cons}
use mathlib.Core.Option.{Option}
use native.Mathlib.Omega.{arith}
use native.Mathlib.Decide.{ℕ_discrete}
use native.Mathlib.Nat.{add-zero, zero-add}
use lib.Dec.{ltb}
use lib.ListN.{length, get_or}
use borrow.Author.Tests.{ltb-true, ltb-false}
use Rattle.rules.specs.Lists.{count, stands, keep, from, upto}
use Rattle.rules.specs.Walking.{piece_of, walk, walks_from, walks}
use Rattle.rules.specs.Chaining.{Piece, Rule, nothing, piece_at, partner, merge, join}
use Rattle.chain_laws.proofs.Counts.{Each, nil, cons, each_get_d, one_same, one_other, zero_of, count_append, stands_false}
use Rattle.chain_laws.proofs.Kept.{keep_yes, keep_no}
use Rattle.chain_laws.proofs.Walks.{Visited, Proper, walks_skip, walks_next, visited_none, visited_walk, proper_walk, passes_start, walks_proper}
use Rattle.chain_laws.proofs.Partners.{partner_joins}
use Rattle.chain_laws.proofs.Sound.{walk_group}
use Rattle.pair_laws.proofs.Renaming.{same_count}
use Rattle.chain_districts.proofs.Places.{pick, ones, place, lift, place_rising, place_past, place_get_d, ones_le, keep_map}
use Rattle.chain_districts.proofs.Fuel.{walk_fuel}
use Rattle.chain_districts.proofs.Along.{map_lift, walk_lift}
use Rattle.chain_districts.proofs.Partners.{mask, mask_length, pick_keep, picked, picked_length, unmasked, piece_lift, partner_lift, merge_lift}

module _ (D : ℕ → Bool) (rule : Rule) where
  module _ (ps : List Piece) where
    abbrev b : List Bool
    b = mask D ps

    abbrev qs : List Piece
    qs = pick (mask D ps) ps

    abbrev partner_all : ℕ → Option ℕ
    partner_all = partner rule ps

    abbrev partner_own : ℕ → Option ℕ
    partner_own = partner rule qs

    of_district : List ℕ → Bool
    of_district w = D (piece_at rule ps (get_or w 0 0)).group

    group_at : (g : ℕ) (w : List ℕ) → Each (λ x. (piece_at rule ps x).group ≡ g) w
        → (i : ℕ) → 0 < count i (map piece_of w) → (get_or ps i nothing).group ≡ g
    unfolding count piece_at
    group_at g w nil i h = absurd (omega arith)
    group_at g w (cons {a = e} {l = w'} q a) i h =
        elim (ℕ_discrete i (piece_of e)) [
          | yes d ↦ ap (λ (m : ℕ). (get_or ps m nothing).group) d ∙ q
          | no d ↦ group_at g w' a i (omega (arith, one_other i (piece_of e) d))
        ]

    -- the pieces of the district by place
    at_place : (x : ℕ) → x < ones b → D (get_or ps (place b x) nothing).group ≡ true
    at_place x h =
        ap (λ (p : Piece). D p.group) (place_get_d b ps x nothing (mask_length D ps))
        ∙ each_get_d (λ p. D p.group ≡ true) qs x nothing (picked D ps) (omega (arith, picked_length D ps))

    module _ (v : List ℕ) (seen : Visited (length ps) partner_all v) (k : ℕ) (i : k < length ps) (fresh : count k v ≡ 0)
        (out : D (get_or ps k nothing).group ≡ false) where
      abbrev w : List ℕ
      w = walk partner_all (length ps) v k

      here : (j : ℕ) → 0 < count j (map piece_of w) → (get_or ps j nothing).group ≡ (piece_at rule ps (get_or w 0 0)).group
      here =
          group_at (piece_at rule ps (get_or w 0 0)).group w
          (walk_group rule ps r.head (piece_at rule ps (get_or w 0 0)).group w r.goes refl)
        where
          r : Proper (length ps) partner_all (walk partner_all (length ps) v k)
          r = proper_walk (length ps) partner_all (partner_joins rule ps) v seen k i fresh

      foreign_walk : of_district w ≡ false
      unfolding of_district
      foreign_walk = ap D (sym (here k (passes_start (length ps) partner_all (partner_joins rule ps) v seen k i fresh))) ∙ out

      foreign_count : (x : ℕ) → count (place b x) (map piece_of w) ≡ 0
      unfolding of_district
      foreign_count x = zero_of (count (place b x) (map piece_of w)) λ c. go c (ltb x (ones b)) refl
        where
          go : 0 < count (place b x) (map piece_of w) → (t : Bool) → ltb x (ones b) ≡ t → ⊥
          go c true q =
              let g = here (place b x) c in
              let a = at_place x (ltb-true x (ones b) q) in
              let f = foreign_walk in
              let z : ◌≡◌ {A = ℕ} 0 1 = cc in omega arith
          go c false q =
              omega (
                arith,
                place_past b x (ltb-false x (ones b) q),
                mask_length D ps,
                (proper_walk (length ps) partner_all (partner_joins rule ps) v seen k i fresh).inside (place b x) c,
              )

    abbrev Seen : List ℕ → Type 0
    Seen v = Visited (length ps) partner_all v

    abbrev Seen' : List ℕ → Type 0
    Seen' u = Visited (length qs) partner_own u

    -- what is visited of the district is visited in both
    abbrev Like : List ℕ → List ℕ → Type 0
    Like v u = (x : ℕ) → count (place b x) v ≡ count x u

    district_at : (e : ℕ) → piece_of e < length qs → D (piece_at rule qs e).group ≡ true
    unfolding piece_at
    district_at e h = each_get_d (λ p. D p.group ≡ true) qs (piece_of e) nothing (picked D ps) h

    home_empty : {e : ℕ} {w : List ℕ} → ◌≡◌ {A = List ℕ} [] (e ∷ w) → ⊥
    home_empty q = nil≢cons q

    home_first : (e : ℕ) (w : List ℕ) → 0 < count (piece_of e) (map piece_of (e ∷ w))
    unfolding count
    home_first e w = omega (arith, one_same (piece_of e) (piece_of e) refl)

    -- a start of the district
    home_walk : (v u : List ℕ) → Seen' u → Like v u → (c : ℕ) → c < ones b → count c u ≡ 0
        → walk partner_all (length ps) v (place b c) ≡ map (lift b) (walk partner_own (length qs) u c)
    home_walk v u t h c i z =
        walk_lift b partner_all partner_own (partner_lift D rule ps) (length ps) v u c h
        ∙ ap (map (lift b))
        (walk_fuel (length qs) partner_own (partner_joins rule qs) (length ps)
        (omega (arith, picked_length D ps, ones_le b, mask_length D ps)) u t c (omega (arith, picked_length D ps)) z)

    home_test : (u : List ℕ) → Seen' u → (c : ℕ) → c < ones b → count c u ≡ 0 → of_district (map (lift b) (walk partner_own (length qs) u c)) ≡ true
    unfolding of_district
    home_test u t c i z = go (walk partner_own (length qs) u c) refl
      where
        r : Proper (length qs) partner_own (walk partner_own (length qs) u c)
        r = proper_walk (length qs) partner_own (partner_joins rule qs) u t c (omega (arith, picked_length D ps)) z

        go : (w : List ℕ) → walk partner_own (length qs) u c ≡ w → D (piece_at rule ps (get_or (map (lift b) w) 0 0)).group ≡ true
        go [] q = absurd (home_empty (sym q ∙ r.starts))
        go (e ∷ w) q =
            ap (λ (p : Piece). D p.group) (piece_lift D rule ps e)
            ∙ district_at e (r.inside (piece_of e) (rw q (home_first e w)))

    home_like : (v u : List ℕ) → Like v u → (w : List ℕ) → Like (map piece_of (map (lift b) w) ++ v) (map piece_of w ++ u)
    home_like v u h w x =
        count_append (place b x) (map piece_of (map (lift b) w)) v
        ∙ ap₂ ◌+◌ (ap (count (place b x)) (map_lift b w) ∙ same_count (place b) (place_rising b) x (map piece_of w)) (h x)
        ∙ sym (count_append x (map piece_of w) u)

    abbrev Goal : List Bool → ℕ → ℕ → List ℕ → List ℕ → Type 0
    Goal bs c k v u =
        keep of_district (walks_from partner_all (length ps) v (from k (length bs))) ≡ map (map (lift b)) (walks_from partner_own (length qs) u (from c (ones bs)))

    stands_like : (v u : List ℕ) → Like v u → (c k : ℕ) → place b c ≡ k → stands k v ≡ stands c u
    unfolding stands
    stands_like v u h c k q = ap (ltb 0) (ap (λ (m : ℕ). count m v) (sym q) ∙ h c)

    ends_here : (v u : List ℕ) (c k : ℕ) → Goal [] c k v u
    unfolding walks_from from keep ones
    ends_here v u c k = refl

    home : (bs : List Bool) (c k : ℕ) (v u : List ℕ) → place b c ≡ k → k < length ps → c < ones b → Seen v → Seen' u → Like v u
        → ((v u : List ℕ) → Seen v → Seen' u → Like v u → Goal bs (suc c) (suc k) v u)
        → Goal (true ∷ bs) c k v u
    unfolding ones from
    home bs c k v u q i j seen seen' like ih = go (stands c u) refl
      where
        go : (t : Bool) → stands c u ≡ t → Goal (true ∷ bs) c k v u
        go true t =
            ap (keep of_district) (walks_skip partner_all (length ps) v k (from (suc k) (length bs)) (stands_like v u like c k q ∙ t))
            ∙ ih v u seen seen' like
            ∙ sym (ap (map (map (lift b))) (walks_skip partner_own (length qs) u c (from (suc c) (ones bs)) t))
        go false t =
            ap (keep of_district) (walks_next partner_all (length ps) v k (from (suc k) (length bs)) (stands_like v u like c k q ∙ t))
            ∙ ap (λ (w : List ℕ). keep of_district (w ∷ walks_from partner_all (length ps) (map piece_of w ++ v) (from (suc k) (length bs)))) same
            ∙ keep_yes of_district (map (lift b) w') _ (home_test u seen' c j fresh)
            ∙ ap {B = List (List ℕ)} (λ r. map (lift b) w' ∷ r)
            (ih (map piece_of (map (lift b) w') ++ v) (map piece_of w' ++ u)
            (subst (λ (w : List ℕ). Seen (map piece_of w ++ v)) same
            (visited_walk (length ps) partner_all (partner_joins rule ps) v seen k i (stands_false k v (stands_like v u like c k q ∙ t))))
            (visited_walk (length qs) partner_own (partner_joins rule qs) u seen' c (omega (arith, picked_length D ps)) fresh)
            (home_like v u like w'))
            ∙ sym (ap (map (map (lift b))) (walks_next partner_own (length qs) u c (from (suc c) (ones bs)) t))
          where
            fresh : count c u ≡ 0
            fresh = stands_false c u t

            w' : List ℕ
            w' = walk partner_own (length qs) u c

            same : walk partner_all (length ps) v k ≡ map (lift b) w'
            same = ap (walk partner_all (length ps) v) (sym q) ∙ home_walk v u seen' like c j fresh

    abroad : (bs : List Bool) (c k : ℕ) (v u : List ℕ) → k < length ps → D (get_or ps k nothing).group ≡ false → Seen v → Seen' u → Like v u
        → ((v u : List ℕ) → Seen v → Seen' u → Like v u → Goal bs c (suc k) v u)
        → Goal (false ∷ bs) c k v u
    unfolding ones from
    abroad bs c k v u i out seen seen' like ih = go (stands k v) refl
      where
        go : (t : Bool) → stands k v ≡ t → Goal (false ∷ bs) c k v u
        go true t =
            ap (keep of_district) (walks_skip partner_all (length ps) v k (from (suc k) (length bs)) t)
            ∙ ih v u seen seen' like
        go false t =
            ap (keep of_district) (walks_next partner_all (length ps) v k (from (suc k) (length bs)) t)
            ∙ keep_no of_district (walk partner_all (length ps) v k) _ (foreign_walk v seen k i (stands_false k v t) out)
            ∙ ih (map piece_of (walk partner_all (length ps) v k) ++ v) u
            (visited_walk (length ps) partner_all (partner_joins rule ps) v seen k i (stands_false k v t))
            seen'
            (λ x. count_append (place b x) (map piece_of (walk partner_all (length ps) v k)) v
            ∙ ap (λ (m : ℕ). m + count (place b x) v) (foreign_count v seen k i (stands_false k v t) out x)
            ∙ zero-add (count (place b x) v)
            ∙ like x)

    walks_lift : (bs : List Bool) (c k : ℕ) (v u : List ℕ)
        → ((x : ℕ) → place b (c + x) ≡ k + place bs x)
        → ((i : ℕ) → get_or bs i true ≡ false → D (get_or ps (k + i) nothing).group ≡ false)
        → k + length bs ≡ length ps
        → c + ones bs ≡ ones b
        → Seen v → Seen' u → Like v u
        → Goal bs c k v u
    unfolding ones place
    walks_lift [] c k v u h o l m seen seen' like = ends_here v u c k
    walks_lift (true ∷ bs) c k v u h o l m seen seen' like =
        home bs c k v u (ap (place b) (sym (add-zero c)) ∙ h 0 ∙ add-zero k) (omega arith) (omega arith) seen seen' like
        (λ v u seen seen' like.
        walks_lift bs (suc c) (suc k) v u
        (λ x. ap (place b) (omega arith) ∙ h (suc x) ∙ (omega arith))
        (λ i q. ap (λ (m : ℕ). D (get_or ps m nothing).group) (omega arith) ∙ o (suc i) q)
        (omega arith) (omega arith) seen seen' like)
    walks_lift (false ∷ bs) c k v u h o l m seen seen' like =
        abroad bs c k v u (omega arith) (ap (λ (m : ℕ). D (get_or ps m nothing).group) (sym (add-zero k)) ∙ o 0 refl) seen seen' like
        (λ v u seen seen' like.
        walks_lift bs c (suc k) v u
        (λ x. h x ∙ (omega arith))
        (λ i q. ap (λ (m : ℕ). D (get_or ps m nothing).group) (omega arith) ∙ o (suc i) q)
        (omega arith) (omega arith) seen seen' like)

    merges_lift : (ws : List (List ℕ)) → Each (Proper (length qs) partner_own) ws
        → map (merge rule ps) (map (map (lift b)) ws) ≡ map (merge rule qs) ws
    merges_lift ws nil = refl
    merges_lift ws (cons {a = w} {l = ws'} r a) = ap₂ {C = List Piece} (λ x l. x ∷ l) (go w r.starts) (merges_lift ws' a)
      where
        go : (w : List ℕ) → w ≡ r.head ∷ r.rest → merge rule ps (map (lift b) w) ≡ merge rule qs w
        go [] q = absurd (home_empty q)
        go (e ∷ w) q = merge_lift D rule ps e w

    all_walks : keep of_district (walks partner_all (length ps)) ≡ map (map (lift b)) (walks partner_own (length qs))
    unfolding walks upto count
    all_walks =
        ap (λ (n : ℕ). keep of_district (walks_from partner_all (length ps) [] (from 0 n))) (sym (mask_length D ps))
        ∙ walks_lift b 0 0 [] [] (λ x. ap (place b) (zero-add x) ∙ sym (zero-add (place b x)))
        (λ i q. ap (λ (m : ℕ). D (get_or ps m nothing).group) (zero-add i) ∙ unmasked D ps i q)
        (omega (arith, mask_length D ps)) (omega arith)
        (visited_none (length ps) partner_all (partner_joins rule ps)) (visited_none (length qs) partner_own (partner_joins rule qs)) (λ x. refl)
        ∙ ap (λ (n : ℕ). map (map (lift b)) (walks_from partner_own (length qs) [] (from 0 n))) (sym (picked_length D ps))

    join_picked : keep (λ p. D p.group) (join rule ps) ≡ join rule qs
    unfolding join merge of_district
    join_picked =
        keep_map (λ p. D p.group) (merge rule ps) (walks partner_all (length ps))
        ∙ ap (map (merge rule ps)) all_walks
        ∙ merges_lift (walks partner_own (length qs)) (walks_proper (length qs) partner_own (partner_joins rule qs))

  -- A ROUND JOINS A DISTRICT'S PIECES AS IF THE OTHERS WERE NOT THERE
  pub join_district : (ps : List Piece) → keep (λ p. D p.group) (join rule ps) ≡ join rule (keep (λ p. D p.group) ps)
  join_district ps = join_picked ps ∙ ap (join rule) (pick_keep D ps)
