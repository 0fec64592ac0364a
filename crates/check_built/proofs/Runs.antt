-- Runs that meet: one row of them behind another, where the last of the one meets the first of the other; and from the other end.
use Prim.Native.Nat.{ℕ, ◌+◌, ◌<◌}
use mathlib.Core.Path.{◌≡◌, refl, sym, ap, ap₂, ◌∙◌}
use mathlib.Core.Bool.{Bool, true, false, ◌&&◌, ◌||◌, and-eq-true_iff}
use mathlib.Core.List.{List, [], ◌∷◌, ◌++◌, map, reverse, reverse-cons, reverse-append, reverse-reverse, map-append}
use native.Mathlib.Omega.{arith}
use lib.Dec.{eqb}
use lib.IntN.{ℤ, pos, negsuc}
use lib.Ieee.{lt}
use lib.ListN.{length, get_or}
use borrow.Author.Tests.{eqb-true, eq-eqb, ne_eqb, eqb-false}
use Rattle.rules.specs.declared.Meeting.{Meeting}
use Rattle.rules.specs.Answers.{Exact, Cells}
use Rattle.rules.specs.Plane.{Point, Key, key, same_int, same_key, key_of, nought}
use Rattle.rules.specs.Check.{one_key, meet}
use Rattle.check_built.specs.Runs.{first_of, last_of, meets_all, turned_runs}

-- ---- a meeting is one from either side

eqb_turned : (a b : ℕ) → eqb a b ≡ eqb b a
eqb_turned a b = go (eqb a b) refl
  where
    go : (x : Bool) → eqb a b ≡ x → eqb a b ≡ eqb b a
    go true e = e ∙ sym (eq-eqb b a (sym (eqb-true a b e)))
    go false e = e ∙ sym (ne_eqb b a (λ q. eqb-false a b e (sym q)))

int_turned : (a b : ℤ) → same_int a b ≡ same_int b a
int_turned (pos a) (pos b) = eqb_turned a b
int_turned (pos a) (negsuc b) = refl
int_turned (negsuc a) (pos b) = refl
int_turned (negsuc a) (negsuc b) = eqb_turned a b

key_turned : (a b : Key) → same_key a b ≡ same_key b a
unfolding same_key
key_turned (key g a b) (key h c d) = ap₂ (λ (x y : Bool). x && y) (eqb_turned g h) (ap₂ (λ (x y : Bool). x && y) (int_turned a c) (int_turned b d))

pub meet_turned : (m : Meeting) (p q : Point) → meet m p q ≡ meet m q p
unfolding meet one_key
meet_turned m p q =
    ap₂ (λ (x y : Bool). x || (lt nought m.tolerance && y))
    (key_turned (key_of Exact 0 p) (key_of Exact 0 q))
    (key_turned (key_of (Cells m.tolerance m.origin_x m.origin_y) 0 p) (key_of (Cells m.tolerance m.origin_x m.origin_y) 0 q))

-- ---- rows of runs

-- the first run of a row, and its last
abbrev pub first_run : List (List Point) → List Point
first_run rs = get_or rs 0 []

abbrev pub last_run : List (List Point) → List Point
last_run rs = first_run (reverse rs)

pub first_append : (a b : List (List Point)) → 0 < length a → first_run (a ++ b) ≡ first_run a
first_append [] b h = absurd (omega arith)
first_append (x ∷ a) b h = refl

last_cons : (r s : List Point) (rs : List (List Point)) → last_run (r ∷ s ∷ rs) ≡ last_run (s ∷ rs)
last_cons r s rs = ap first_run (reverse-cons r (s ∷ rs)) ∙ front (reverse (s ∷ rs)) r (filled s rs)
  where
    front : (l : List (List Point)) (x : List Point) → 0 < length l → first_run (l ++ (x ∷ [])) ≡ first_run l
    front [] x h = absurd (omega arith)
    front (y ∷ l) x h = refl

    filled : (s : List Point) (rs : List (List Point)) → 0 < length (reverse (s ∷ rs))
    filled s rs = omega (arith, lib.ListN.length-reverse (s ∷ rs))

-- the last of turned runs is the first one turned
pub turned_last : (s : List Point) (rs : List (List Point)) → reverse (last_run (turned_runs (s ∷ rs))) ≡ s
turned_last s rs =
    ap (λ (l : List (List Point)). reverse (last_run (map (λ (r : List Point). reverse r) l))) (reverse-cons s rs)
    ∙ ap (λ (l : List (List Point)). reverse (last_run l)) (map-append (λ (r : List Point). reverse r) (reverse rs) (s ∷ []))
    ∙ ap (λ (l : List (List Point)). reverse (first_run l)) (reverse-append (map (λ (r : List Point). reverse r) (reverse rs)) (reverse s ∷ []))
    ∙ reverse-reverse s

module _ (m : Meeting) where
  -- one row behind another
  pub meets_append : (a b : List (List Point)) → meets_all m a ≡ true → meets_all m b ≡ true
      → (0 < length a → 0 < length b → meet m (last_of (last_run a)) (first_of (first_run b)) ≡ true) → meets_all m (a ++ b) ≡ true
  unfolding meets_all
  meets_append [] b p q h = q
  meets_append (r ∷ []) [] p q h = refl
  meets_append (r ∷ []) (s ∷ b) p q h = (and-eq-true_iff (meet m (last_of r) (first_of s)) (meets_all m (s ∷ b))).1 (h (omega arith) (omega arith), q)
  meets_append (r ∷ s ∷ a) b p q h =
      let t = (and-eq-true_iff (meet m (last_of r) (first_of s)) (meets_all m (s ∷ a))).0 p in
      (and-eq-true_iff (meet m (last_of r) (first_of s)) (meets_all m ((s ∷ a) ++ b))).1
      (t.0, meets_append (s ∷ a) b t.1 q (λ x y. ap (λ (z : List Point). meet m (last_of z) (first_of (first_run b))) (sym (last_cons r s a)) ∙ h (omega arith) y))

  -- from the other end
  pub meets_turned : (rs : List (List Point)) → meets_all m rs ≡ true → meets_all m (turned_runs rs) ≡ true
  unfolding meets_all
  meets_turned [] p = refl
  meets_turned (r ∷ []) p = refl
  meets_turned (r ∷ s ∷ rs) p =
      let t = (and-eq-true_iff (meet m (last_of r) (first_of s)) (meets_all m (s ∷ rs))).0 p in
      ap (λ (l : List (List Point)). meets_all m (map (λ (r : List Point). reverse r) l)) (reverse-cons r (s ∷ rs))
      ∙ ap (meets_all m) (map-append (λ (r : List Point). reverse r) (reverse (s ∷ rs)) (r ∷ []))
      ∙ meets_append (turned_runs (s ∷ rs)) (reverse r ∷ []) (meets_turned (s ∷ rs) t.1) refl
      (λ x y. ap (λ (z : List Point). meet m (first_of z) (first_of (reverse r))) (turned_last s rs) ∙ meet_turned m (first_of s) (last_of r) ∙ t.0)

-- the first of the turned runs is the last one turned
pub turned_first : (rs : List (List Point)) → 0 < length rs → first_run (turned_runs rs) ≡ reverse (last_run rs)
turned_first rs h = first_map (reverse rs) (omega (arith, lib.ListN.length-reverse rs))
  where
    first_map : (l : List (List Point)) → 0 < length l → first_run (map (λ (r : List Point). reverse r) l) ≡ reverse (first_run l)
    first_map [] h = absurd (omega arith)
    first_map (x ∷ l) h = refl
