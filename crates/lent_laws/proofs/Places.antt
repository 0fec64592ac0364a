-- Points through a round: joining drops points and makes none, so that what holds of each point that goes in holds of each that comes out; and a piece of
-- pieces that have points has one.
use Prim.Native.Nat.{ℕ, zero, suc, ◌<◌}
use mathlib.Core.Path.{◌≡◌, refl, sym, subst, ◌∙◌}
use mathlib.Core.Bool.{Bool, true, false, cond, true≢false}
use mathlib.Core.List.{[], List, ◌∷◌, map, flat_map, reverse, reverse_aux}
use mathlib.Core.Option.{Option, none, some}
use native.Mathlib.Omega.{arith}
use lib.Dec.{eqb}
use lib.ListN.{length, take, drop, length-append, length-reverse}
use Rattle.rules.specs.Lists.{count}
use Rattle.rules.specs.Plane.{Point, equal}
use Rattle.rules.specs.Walking.{piece_of, side_of, walks}
use Rattle.rules.specs.Chaining.{Piece, Rule, nothing, piece_at, run, lay, merged, merge, join, partner}
use Rattle.rules.specs.Refusals.{nowhere, any_nowhere}
use Rattle.chain_laws.proofs.Counts.{Each, nil, cons, each_append, each_map, each_weak, each_get_d, one_same}
use Rattle.chain_laws.proofs.Partners.{partner_joins}
use Rattle.chain_laws.proofs.Walks.{Proper, walks_proper}
use Rattle.point_numbers.specs.Width.{Wide, AllWide, none_wide, more_wide}

-- ---- lists

each_flat_map : {A B : Type 0} (P : B → Type 0) (f : A → List B) (xs : List A) → Each (λ a. Each P (f a)) xs → Each P (flat_map f xs)
unfolding flat_map
each_flat_map P f xs nil = nil
each_flat_map P f xs (cons p e) = each_append p (each_flat_map P f _ e)

pub each_take : {A : Type 0} (P : A → Type 0) (xs : List A) (q : ℕ) → Each P xs → Each P (take q xs)
each_take P xs zero a = nil
each_take P xs (suc q) nil = nil
each_take P xs (suc q) (cons p a) = cons p (each_take P _ q a)

pub each_drop : {A : Type 0} (P : A → Type 0) (xs : List A) (q : ℕ) → Each P xs → Each P (drop q xs)
each_drop P xs zero a = a
each_drop P xs (suc q) nil = nil
each_drop P xs (suc q) (cons p a) = each_drop P _ q a

each_reverse_aux : {A : Type 0} (P : A → Type 0) (l r : List A) → Each P l → Each P r → Each P (reverse_aux l r)
each_reverse_aux P l r nil b = b
each_reverse_aux P l r (cons {a = a} {l = m} p e) b = each_reverse_aux P m (a ∷ r) e (cons p b)

each_reverse : {A : Type 0} (P : A → Type 0) (l : List A) → Each P l → Each P (reverse l)
each_reverse P l e = each_reverse_aux P l [] e nil

-- ---- points laid

lay_some : (l : List Point) → 0 < length l → 0 < length (lay none l)
unfolding lay
lay_some [] h = absurd (omega arith)
lay_some (p ∷ l) h = omega arith

module _ (P : Point → Type 0) where
  each_lay : (o : Option Point) (l : List Point) → Each P l → Each P (lay o l)
  unfolding lay
  each_lay o l nil = nil
  each_lay none l (cons {a = p} {l = r} h e) = cons h (each_lay (some p) r e)
  each_lay (some q) l (cons {a = p} {l = r} h e) = go (equal q p) refl (each_lay (some q) r e) (each_lay (some p) r e)
    where
      go : (t : Bool) → equal q p ≡ t → Each P (lay (some q) r) → Each P (lay (some p) r) → Each P (lay (some q) (p ∷ r))
      go true f a b = rw (f, lay) a
      go false f a b = rw (f, lay) (cons h b)

  -- a piece has points, and each passes
  pub record Pointed (p : Piece) : Type 0 where
    pub some_point : 0 < length p.points
    pub each_point : Each P p.points

  module _ (rule : Rule) (ps : List Piece) (pointed : Each Pointed ps) where
    walk_pointed : (w : List ℕ) → ((x : ℕ) → 0 < count x (map piece_of w) → x < length ps) → Each (λ e. Pointed (piece_at rule ps e)) w
    unfolding count piece_at
    walk_pointed [] h = nil
    walk_pointed (e ∷ w) h =
        cons (each_get_d Pointed ps (piece_of e) nothing pointed (h (piece_of e) (omega (arith, one_same (piece_of e) (piece_of e) refl))))
        (walk_pointed w (λ x i. h x (omega arith)))

    run_pointed : (e : ℕ) → Pointed (piece_at rule ps e) → (0 < length (run rule ps e)) × Each P (run rule ps e)
    unfolding run
    run_pointed e h = go (eqb (side_of e) 0)
      where
        go : (t : Bool) → (0 < length (cond t (piece_at rule ps e).points (reverse (piece_at rule ps e).points)))
            × Each P (cond t (piece_at rule ps e).points (reverse (piece_at rule ps e).points))
        go true = (h.some_point, h.each_point)
        go false = (omega (arith, length-reverse (piece_at rule ps e).points, h.some_point), each_reverse P (piece_at rule ps e).points h.each_point)

    merged_pointed : (w : List ℕ) → 0 < length w → Each (λ e. Pointed (piece_at rule ps e)) w → (0 < length (merged rule ps w)) × Each P (merged rule ps w)
    unfolding merged flat_map
    merged_pointed [] h a = absurd (omega arith)
    merged_pointed (e ∷ []) h (cons s a) = (s.some_point, s.each_point)
    merged_pointed (e ∷ f ∷ w) h (cons s a) =
        let all : Each (λ (i : ℕ). Each P (run rule ps i)) (e ∷ f ∷ w) = each_weak (λ i. Pointed (piece_at rule ps i)) (λ i. Each P (run rule ps i)) (e ∷ f ∷ w) (λ i r. (run_pointed i r).1) (cons s a) in (
          lay_some (flat_map (run rule ps) (e ∷ f ∷ w)) (omega (arith, length-append (run rule ps e) (flat_map (run rule ps) (f ∷ w)), (run_pointed e s).0)),
          each_lay none (flat_map (run rule ps) (e ∷ f ∷ w)) (each_flat_map P (run rule ps) (e ∷ f ∷ w) all),
        )

    merge_pointed : (w : List ℕ) → Proper (length ps) (partner rule ps) w → Pointed (merge rule ps w)
    unfolding merge
    merge_pointed w r =
        let m = merged_pointed w (subst (λ (v : List ℕ). 0 < length v) (sym r.starts) (omega arith)) (walk_pointed w r.inside) in
        record { some_point = m.0; each_point = m.1 }

    -- WHAT COMES OUT OF A ROUND
    pub join_pointed : Each Pointed (join rule ps)
    unfolding join
    join_pointed =
        each_map (merge rule ps) Pointed (walks (partner rule ps) (length ps))
        (each_weak (Proper (length ps) (partner rule ps)) (λ w. Pointed (merge rule ps w)) (walks (partner rule ps) (length ps)) merge_pointed
        (walks_proper (length ps) (partner rule ps) (partner_joins rule ps)))

-- ---- places of a width

abbrev pub Place : ℕ → Point → Type 0
Place w p = Wide w p × (nowhere p ≡ false)

here_no : (p : Point) (l : List Point) → nowhere p ≡ false → any_nowhere (p ∷ l) ≡ any_nowhere l
unfolding any_nowhere
here_no p l e = rw (e, any_nowhere)

here_yes : (p : Point) (l : List Point) → nowhere p ≡ true → any_nowhere (p ∷ l) ≡ true
unfolding any_nowhere
here_yes p l e = rw (e, any_nowhere)

pub all_places : {w : ℕ} (l : List Point) → AllWide w l → any_nowhere l ≡ false → Each (Place w) l
all_places l none_wide e = nil
all_places {w} l (more_wide {p} {l = r} h a) e = go (nowhere p) refl (λ f. all_places r a f)
  where
    go : (t : Bool) → nowhere p ≡ t → (any_nowhere r ≡ false → Each (Place w) r) → Each (Place w) (p ∷ r)
    go true f ih = absurd (true≢false (sym (here_yes p r f) ∙ e))
    go false f ih = cons (h, f) (ih (sym (here_no p r f) ∙ e))

pub places_wide : {w : ℕ} (l : List Point) → Each (Place w) l → AllWide w l
places_wide l nil = none_wide
places_wide l (cons p e) = more_wide p.0 (places_wide _ e)

pub places_none : {w : ℕ} (l : List Point) → Each (Place w) l → any_nowhere l ≡ false
unfolding any_nowhere
places_none l nil = refl
places_none l (cons {a = p} {l = r} h e) = here_no p r h.1 ∙ places_none r e
