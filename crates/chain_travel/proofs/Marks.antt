-- The mark of a line: where members and marks are laid piece by piece, a line's mark is the one that it has in its own piece. Marks stand at the
-- members' places, and a line's place is in the first piece that has it.
use Prim.Native.Nat.{ℕ, zero, suc, ◌+◌, ◌<◌}
use mathlib.Core.Path.{◌≡◌, refl, sym, ap, ◌∙◌}
use mathlib.Core.Bool.{Bool, true, false}
use mathlib.Core.List.{List, [], ◌∷◌, ◌++◌, map}
use native.Mathlib.Omega.{arith}
use lib.Dec.{eqb}
use lib.ListN.{length, get_or, get_or-append}
use lib.Seq.{get_or-append-add}
use Rattle.rules.specs.Lists.{one, count, first_place}
use Rattle.chain_laws.proofs.Counts.{Each, each_get_d}
use Rattle.chain_travel.specs.Travel.{mark_of}

-- ---- the place of a line among members

place_found : (k a : ℕ) (l : List ℕ) → eqb k a ≡ true → first_place (eqb k) (a ∷ l) ≡ 0
unfolding first_place
place_found k a l e = rw (e, first_place)

place_later : (k a : ℕ) (l : List ℕ) → eqb k a ≡ false → first_place (eqb k) (a ∷ l) ≡ suc (first_place (eqb k) l)
unfolding first_place
place_later k a l e = rw (e, first_place)

place_within : (k : ℕ) (l : List ℕ) → 0 < count k l → first_place (eqb k) l < length l
unfolding count
place_within k [] h = absurd (omega arith)
place_within k (a ∷ l) h = go (eqb k a) refl (place_within k l)
  where
    go : (t : Bool) → eqb k a ≡ t → (0 < count k l → first_place (eqb k) l < length l) → first_place (eqb k) (a ∷ l) < suc (length l)
    go true e ih = omega (arith, place_found k a l e)
    go false e ih = omega (arith, place_later k a l e, ih (omega (arith, ap one e)))

place_here : (k : ℕ) (l r : List ℕ) → 0 < count k l → first_place (eqb k) (l ++ r) ≡ first_place (eqb k) l
unfolding count
place_here k [] r h = absurd (omega arith)
place_here k (a ∷ l) r h = go (eqb k a) refl (place_here k l r)
  where
    go : (t : Bool) → eqb k a ≡ t → (0 < count k l → first_place (eqb k) (l ++ r) ≡ first_place (eqb k) l)
        → first_place (eqb k) (a ∷ (l ++ r)) ≡ first_place (eqb k) (a ∷ l)
    go true e ih = place_found k a (l ++ r) e ∙ sym (place_found k a l e)
    go false e ih = place_later k a (l ++ r) e ∙ ap suc (ih (omega (arith, ap one e))) ∙ sym (place_later k a l e)

place_behind : (k : ℕ) (l r : List ℕ) → count k l ≡ 0 → first_place (eqb k) (l ++ r) ≡ length l + first_place (eqb k) r
unfolding count
place_behind k [] r h = omega arith
place_behind k (a ∷ l) r h = go (eqb k a) refl (place_behind k l r)
  where
    go : (t : Bool) → eqb k a ≡ t → (count k l ≡ 0 → first_place (eqb k) (l ++ r) ≡ length l + first_place (eqb k) r)
        → first_place (eqb k) (a ∷ (l ++ r)) ≡ suc (length l) + first_place (eqb k) r
    go true e ih = absurd (omega (arith, ap one e))
    go false e ih = omega (arith, place_later k a (l ++ r) e, ih (omega arith))

-- ---- its mark

get_d_map_within : (f : ℕ → ℕ) (l : List ℕ) (i : ℕ) → i < length l → get_or (map f l) i 0 ≡ f (get_or l i 0)
get_d_map_within f [] i h = absurd (omega arith)
get_d_map_within f (a ∷ l) zero h = refl
get_d_map_within f (a ∷ l) (suc i) h = get_d_map_within f l i (omega arith)

module _ (k : ℕ) (members marks : List ℕ) (marked : length marks ≡ length members) where
  pub mark_here_lem : (l m : List ℕ) → 0 < count k members → mark_of (members ++ l) (marks ++ m) k ≡ mark_of members marks k
  unfolding mark_of
  mark_here_lem l m h =
      ap (λ (i : ℕ). get_or (marks ++ m) i 0) (place_here k members l h)
      ∙ get_or-append marks m 0 (first_place (eqb k) members) (omega (arith, place_within k members h))

  pub mark_behind : (l m : List ℕ) → count k members ≡ 0 → mark_of (members ++ l) (marks ++ m) k ≡ mark_of l m k
  unfolding mark_of
  mark_behind l m h =
      ap (λ (i : ℕ). get_or (marks ++ m) i 0) (place_behind k members l h ∙ ap (λ (j : ℕ). j + first_place (eqb k) l) (sym marked))
      ∙ get_or-append-add marks m (first_place (eqb k) l) 0

  pub mark_changed : (f : ℕ → ℕ) → 0 < count k members → mark_of members (map f marks) k ≡ f (mark_of members marks k)
  unfolding mark_of
  mark_changed f h = get_d_map_within f marks (first_place (eqb k) members) (omega (arith, place_within k members h))

  pub mark_each : (P : ℕ → Type 0) → Each P marks → 0 < count k members → P (mark_of members marks k)
  unfolding mark_of
  mark_each P a h = each_get_d P marks (first_place (eqb k) members) 0 a (omega (arith, place_within k members h))
