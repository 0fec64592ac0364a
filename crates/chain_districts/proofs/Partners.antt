-- Partners of a district: an end of the district has the partner that it has among the district's pieces alone, and the pieces of a walk merge alike.
-- It is true because a key tells its group, so that no end of another district stands in its node. A district is any test of groups here.
use Prim.Native.Nat.{ℕ, zero, suc, ◌+◌, ◌*◌, ◌%◌, ◌≤◌, ◌<◌}
use mathlib.Core.Path.{◌≡◌, refl, sym, ap, ap₂, ◌∙◌, fun_ext}
use mathlib.Core.Bool.{Bool, true, false, cond}
use mathlib.Core.List.{List, [], ◌∷◌, ◌++◌, map, flat_map, reverse}
use mathlib.Core.Option.{Option, none, some}
use native.Mathlib.Omega.{arith}
use lib.Dec.{ltb, eqb}
use lib.Ieee.{Float}
use lib.ListN.{length, get_or, length-map}
use borrow.Author.Tests.{ltb-true, ltb-false}
use Rattle.rules.specs.Lists.{keep, upto}
use Rattle.rules.specs.Plane.{Point, point, same_key, key_of, direction_of}
use Rattle.rules.specs.Selecting.{End, Pair, select}
use Rattle.rules.specs.Walking.{piece_of, side_of}
use Rattle.rules.specs.Chaining.{Piece, Rule, nothing, piece_at, run, key_at, node, end_at, chosen, joined, mate, partner, lay, merged, passed, turned, merge}
use Rattle.pair_laws.specs.Ends.{renamed, named}
use Rattle.pair_laws.proofs.Renaming.{same_eqb}
use Rattle.chain_laws.proofs.Counts.{Each, nil, cons, each_get_d}
use Rattle.chain_laws.proofs.Partners.{same_key_true, partner_none}
use Rattle.chain_laws.proofs.Sound.{key_tells}
use Rattle.chain_districts.proofs.Renaming.{mapped, both, moved, same_mate, moved_select}
use Rattle.chain_districts.proofs.Places.{pick, ones, place, lift, place_rising, place_past, place_get_d, length_pick, lift_piece, lift_side, lift_rising, keep_map, keep_place}

-- ---- the pieces of a district

module _ (D : ℕ → Bool) where
  -- which pieces are of the district
  abbrev pub mask : List Piece → List Bool
  mask ps = map (λ p. D p.group) ps

  pub pick_keep : (ps : List Piece) → pick (mask ps) ps ≡ keep (λ p. D p.group) ps
  unfolding pick keep
  pick_keep [] = refl
  pick_keep (p ∷ ps) = go (D p.group) refl (pick_keep ps)
    where
      go : (t : Bool) → D p.group ≡ t → pick (mask ps) ps ≡ keep (λ p. D p.group) ps → pick (mask (p ∷ ps)) (p ∷ ps) ≡ keep (λ p. D p.group) (p ∷ ps)
      go true e h = rw (e, pick, keep) (ap {B = List Piece} (λ r. p ∷ r) h)
      go false e h = rw (e, pick, keep) h

  pub picked : (ps : List Piece) → Each (λ p. D p.group ≡ true) (pick (mask ps) ps)
  unfolding pick
  picked [] = nil
  picked (p ∷ ps) = go (D p.group) refl (picked ps)
    where
      go : (t : Bool) → D p.group ≡ t → Each (λ p. D p.group ≡ true) (pick (mask ps) ps) → Each (λ p. D p.group ≡ true) (pick (mask (p ∷ ps)) (p ∷ ps))
      go true e h = rw (e, pick) (cons e h)
      go false e h = rw (e, pick) h

  pub unmasked : (ps : List Piece) (i : ℕ) → get_or (mask ps) i true ≡ false → D (get_or ps i nothing).group ≡ false
  unmasked [] i h = let z : ◌≡◌ {A = ℕ} 0 1 = cc in absurd (omega arith)
  unmasked (p ∷ ps) zero h = h
  unmasked (p ∷ ps) (suc i) h = unmasked ps i h

  pub mask_length : (ps : List Piece) → length (mask ps) ≡ length ps
  mask_length ps = length-map ps (λ p. D p.group)

  pub picked_length : (ps : List Piece) → length (pick (mask ps) ps) ≡ ones (mask ps)
  picked_length ps = length_pick (mask ps) ps (mask_length ps)

-- ---- their ends, among all pieces and among the district's alone

module _ (D : ℕ → Bool) (rule : Rule) (ps : List Piece) where
  abbrev b : List Bool
  b = mask D ps

  abbrev qs : List Piece
  qs = pick (mask D ps) ps

  pub piece_lift : (e : ℕ) → piece_at rule ps (lift (mask D ps) e) ≡ piece_at rule (pick (mask D ps) ps) e
  unfolding piece_at
  piece_lift e = ap (λ (i : ℕ). get_or ps i nothing) (lift_piece b e) ∙ place_get_d b ps (piece_of e) nothing (mask_length D ps)

  run_lift : (e : ℕ) → run rule ps (lift b e) ≡ run rule qs e
  unfolding run
  run_lift e =
      ap (λ (s : ℕ). cond (eqb s 0) (piece_at rule ps (lift b e)).points (reverse (piece_at rule ps (lift b e)).points)) (lift_side b e)
      ∙ ap (λ (p : Piece). cond (eqb (side_of e) 0) p.points (reverse p.points)) (piece_lift e)

  key_lift : (e : ℕ) → key_at rule ps (lift b e) ≡ key_at rule qs e
  unfolding key_at
  key_lift e =
      ap₂ (λ (g : ℕ) (l : List Point). key_of rule.grid g (get_or l 0 (point 0 0))) (ap (λ (p : Piece). p.group) (piece_lift e)) (run_lift e)

  -- ---- joining

  end_lift : (e : ℕ) → end_at rule ps (lift b e) ≡ named (lift b) (moved (place b) (end_at rule qs e))
  unfolding end_at
  end_lift e =
      ap₂ {C = End} (λ (i : ℕ) (l : List Point). record { name = lift b e; piece = i; direction = direction_of l }) (lift_piece b e) (run_lift e)

  ends_lift : (l : List ℕ) → map (end_at rule ps) (map (lift b) l) ≡ map (named (lift b)) (map (moved (place b)) (map (end_at rule qs) l))
  ends_lift [] = refl
  ends_lift (e ∷ l) = ap₂ {C = List End} (λ a m. a ∷ m) (end_lift e) (ends_lift l)

  chosen_lift : (o : Option Float) (l : List ℕ) → chosen rule ps o (map (lift b) l) ≡ map (renamed (lift b)) (chosen rule qs o l)
  unfolding chosen
  chosen_lift none l = refl
  chosen_lift (some limit) l =
      ap (select limit) (ends_lift l)
      ∙ moved_select (place b) (same_eqb (place b) (place_rising b)) limit (lift b) (lift_rising b) (map (end_at rule qs) l)

  pairs_lift : (l : List Pair)
      → map {B = ℕ × ℕ} (λ p. (p.i, p.j)) (map (renamed (lift b)) l) ≡ map (both (lift b)) (map {B = ℕ × ℕ} (λ p. (p.i, p.j)) l)
  pairs_lift [] = refl
  pairs_lift (p ∷ l) = ap {B = List (ℕ × ℕ)} (λ m. (lift b p.i, lift b p.j) ∷ m) (pairs_lift l)

  pieces_test : (i j : ℕ) → eqb (piece_of (lift b i)) (piece_of (lift b j)) ≡ eqb (piece_of i) (piece_of j)
  pieces_test i j = ap₂ eqb (lift_piece b i) (lift_piece b j) ∙ same_eqb (place b) (place_rising b) (piece_of i) (piece_of j)

  joined_lift : (l : List ℕ) → joined rule ps (map (lift b) l) ≡ map (both (lift b)) (joined rule qs l)
  unfolding joined
  joined_lift [] = refl
  joined_lift (x ∷ []) = refl
  joined_lift (x ∷ y ∷ []) = go (eqb (piece_of x) (piece_of y)) refl
    where
      go : (t : Bool) → eqb (piece_of x) (piece_of y) ≡ t → joined rule ps (map (lift b) (x ∷ y ∷ [])) ≡ map (both (lift b)) (joined rule qs (x ∷ y ∷ []))
      go true e = rw (pieces_test x y ∙ e, e, joined)
      go false e = rw (pieces_test x y ∙ e, e, joined)
  joined_lift (x ∷ y ∷ z ∷ l) =
      ap (map {B = ℕ × ℕ} (λ p. (p.i, p.j))) (chosen_lift rule.limit (x ∷ y ∷ z ∷ l))
      ∙ pairs_lift (chosen rule qs rule.limit (x ∷ y ∷ z ∷ l))

  -- ---- nodes and partners

  map_same : (l : List ℕ) → map (λ e. e) l ≡ l
  map_same [] = refl
  map_same (a ∷ l) = ap {B = List ℕ} (λ m. a ∷ m) (map_same l)

  clash : (e x : ℕ) → e < 2 * ones b → get_or b (piece_of x) true ≡ false → key_at rule qs e ≡ key_at rule ps x → ⊥
  unfolding key_at piece_at
  clash e x h q k =
      let g = key_tells rule.grid _ _ _ _ k in
      let u = unmasked D ps (piece_of x) q in
      let i = each_get_d (λ p. D p.group ≡ true) qs (piece_of e) nothing (picked D ps) (omega (arith, picked_length D ps)) in
      let z : ◌≡◌ {A = ℕ} 0 1 = cc in omega arith

  -- an end of the district has no other district's end in its node
  foreign : (e x : ℕ) → e < 2 * ones b → get_or b (piece_of x) true ≡ false → same_key (key_at rule ps (lift b e)) (key_at rule ps x) ≡ false
  foreign e x h q = go (same_key (key_at rule ps (lift b e)) (key_at rule ps x)) refl
    where
      go : (t : Bool) → same_key (key_at rule ps (lift b e)) (key_at rule ps x) ≡ t → t ≡ false
      go false k = refl
      go true k = absurd (clash e x h q (sym (key_lift e) ∙ same_key_true (key_at rule ps (lift b e)) (key_at rule ps x) k))

  node_lift : (e : ℕ) → e < 2 * ones b → node rule ps (lift b e) ≡ map (lift b) (node rule qs e)
  unfolding node
  node_lift e h =
      ap (keep t) (sym (map_same (upto (2 * length ps))))
      ∙ ap (λ (n : ℕ). keep t (map (λ x. x) (upto (2 * n)))) (sym (mask_length D ps))
      ∙ keep_place b t (λ x. x) (λ x i q. foreign e x h q)
      ∙ keep_map t (lift b) (upto (2 * ones b))
      ∙ ap₂ (λ (u : ℕ → Bool) (n : ℕ). map (lift b) (keep u (upto (2 * n))))
      (fun_ext λ f. ap₂ same_key (key_lift e) (key_lift f)) (sym (picked_length D ps))
    where
      t : ℕ → Bool
      t x = same_key (key_at rule ps (lift b e)) (key_at rule ps x)

  beyond : (e : ℕ) → 2 * ones b ≤ e → partner rule ps (lift b e) ≡ mapped (lift b) (partner rule qs e)
  unfolding lift
  beyond e h =
      partner_none rule ps (lift b e)
      (omega (arith, place_past b (piece_of e) (omega arith), mask_length D ps))
      ∙ sym (ap (mapped (lift b)) (partner_none rule qs e (omega (arith, picked_length D ps))))

  -- PARTNERS OF THE DISTRICT ARE PARTNERS OF THE DISTRICT ALONE
  pub partner_lift : (e : ℕ) → partner rule ps (lift (mask D ps) e) ≡ mapped (lift (mask D ps)) (partner rule (pick (mask D ps) ps) e)
  unfolding partner
  partner_lift e = go (ltb e (2 * ones b)) refl
    where
      go : (t : Bool) → ltb e (2 * ones b) ≡ t → partner rule ps (lift b e) ≡ mapped (lift b) (partner rule qs e)
      go true q =
          ap (λ (l : List ℕ). mate (lift b e) (joined rule ps l)) (node_lift e (ltb-true e (2 * ones b) q))
          ∙ ap (mate (lift b e)) (joined_lift (node rule qs e))
          ∙ same_mate (lift b) (lift_rising b) e (joined rule qs (node rule qs e))
      go false q = beyond e (ltb-false e (2 * ones b) q)

  -- ---- merging

  flat_lift : {B : Type 0} (g h : ℕ → List B) → ((e : ℕ) → g (lift b e) ≡ h e) → (w : List ℕ) → flat_map g (map (lift b) w) ≡ flat_map h w
  unfolding flat_map
  flat_lift g h q [] = refl
  flat_lift g h q (e ∷ w) = ap₂ ◌++◌ (q e) (flat_lift g h q w)

  merged_lift : (w : List ℕ) → merged rule ps (map (lift b) w) ≡ merged rule qs w
  unfolding merged
  merged_lift [] = refl
  merged_lift (e ∷ []) = ap (λ (p : Piece). p.points) (piece_lift e)
  merged_lift (e ∷ f ∷ w) = ap (lay none) (flat_lift (run rule ps) (run rule qs) run_lift (e ∷ f ∷ w))

  lines_lift : (e : ℕ) → (piece_at rule ps (lift b e)).lines ≡ (piece_at rule qs e).lines
  lines_lift e = ap (λ (p : Piece). p.lines) (piece_lift e)

  turned_lift : (e : ℕ) → turned rule ps (lift b e) ≡ turned rule qs e
  unfolding turned
  turned_lift e =
      ap₂ (λ (s : ℕ) (l : List ℕ). map (λ mark. (mark + s) % 2) l) (lift_side b e) (ap (λ (p : Piece). p.marks) (piece_lift e))

  passed_lift : (e : ℕ) → passed rule ps (lift b e) ≡ passed rule qs e
  unfolding passed
  passed_lift e =
      ap₂ (λ (s : ℕ) (l : List ℕ). cond (eqb s 0) l (reverse l)) (lift_side b e) (ap (λ (p : Piece). p.listing) (piece_lift e))

  -- a walk merges to the same piece
  pub merge_lift : (e : ℕ) (w : List ℕ) → merge rule ps (map (lift (mask D ps)) (e ∷ w)) ≡ merge rule (pick (mask D ps) ps) (e ∷ w)
  unfolding merge
  merge_lift e w = λ i.
      record {
        lines = flat_lift (λ e. (piece_at rule ps e).lines) (λ e. (piece_at rule qs e).lines) lines_lift (e ∷ w) i;
        marks = flat_lift (turned rule ps) (turned rule qs) turned_lift (e ∷ w) i;
        listing = flat_lift (passed rule ps) (passed rule qs) passed_lift (e ∷ w) i;
        points = merged_lift (e ∷ w) i;
        group = ap (λ (p : Piece). p.group) (piece_lift e) i;
      }
