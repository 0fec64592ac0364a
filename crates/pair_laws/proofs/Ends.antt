-- The ends of a pairing call: one for each piece number, named by its place, with the direction that stands there. So what a call selects is the
-- ranked selection of their node, and has room in an output of a number per end.
use Prim.Native.Nat.{ℕ, zero, suc, ◌+◌, ◌*◌, ◌<◌}
use mathlib.Core.Path.{◌≡◌, refl, ◌∙◌, ap}
use mathlib.Core.Bool.{not}
use mathlib.Core.List.{List, [], ◌∷◌}
use native.Mathlib.Omega.{arith}
use native.Mathlib.Numerals.{one-add}
use lib.ListN.{length, get_or, drop}
use lib.Seq.{get_or-drop}
use lib.Dec.{T}
use lib.Ieee.{Float, nan, binary64, is_nan, fits}
use borrow.Author.Tests.{eq-eqb}
use Rattle.rules.specs.Answers.{Direction}
use Rattle.rules.specs.Answers.{Absent, Toward}
use Rattle.rules.specs.Selecting.{End, select}
use Rattle.rules.specs.Layout.{given, ends, listed}
use Rattle.float_order.specs.Key.{key}
use Rattle.float_order.proofs.Dot.{measure_sym}
use Rattle.pair_laws.specs.Ranked as ranked
use Rattle.pair_laws.specs.Taking as taking
use Rattle.pair_laws.specs.Ends.{end_at, key_of, node_of, ByPlace}
use Rattle.pair_laws.proofs.Bridge.{select_count, select_listed}

-- the end that is lent at the place e, where k is the name of the first
abbrev pub lent_end : ℕ → List ℕ → List Float → List ℕ → ℕ → End
lent_end k marks ways pieces e =
    record { name = k + e; piece = get_or pieces e 0; direction = given (get_or marks e 0) (get_or ways (e * 2) nan) (get_or ways (e * 2 + 1) nan) }

pub ends_length : (k : ℕ) (marks : List ℕ) (ways : List Float) (pieces : List ℕ) → length (ends k marks ways pieces) ≡ length pieces
unfolding ends
ends_length k marks ways [] = refl
ends_length k marks ways (p ∷ ps) = ap suc (ends_length (suc k) (drop 1 marks) (drop 2 ways) ps)

pub ends_at : (k : ℕ) (marks : List ℕ) (ways : List Float) (pieces : List ℕ) (e : ℕ) → e < length pieces
    → end_at (ends k marks ways pieces) e ≡ lent_end k marks ways pieces e
unfolding ends
ends_at k marks ways [] e h = absurd (omega arith)
ends_at k marks ways (p ∷ ps) zero h = λ t. record { name = first t; piece = p; direction = given (get_or marks 0 0) (get_or ways 0 nan) (get_or ways 1 nan) }
  where
    first : k ≡ k + 0
    first = omega arith
ends_at k marks ways (p ∷ ps) (suc e) h =
    ends_at (suc k) (drop 1 marks) (drop 2 ways) ps e (omega arith)
    ∙ (λ t. record { name = next t; piece = get_or ps e 0; direction = given (mark t) (x t) (y t) })
  where
    next : suc k + e ≡ k + suc e
    next = omega arith

    mark : get_or (drop 1 marks) e 0 ≡ get_or marks (suc e) 0
    mark = get_or-drop 1 marks e 0 ∙ ap (λ (i : ℕ). get_or marks i 0) (one-add e)

    past_x : 2 + e * 2 ≡ suc e * 2
    past_x = omega arith

    past_y : 2 + (e * 2 + 1) ≡ suc e * 2 + 1
    past_y = omega arith

    x : get_or (drop 2 ways) (e * 2) nan ≡ get_or ways (suc e * 2) nan
    x = get_or-drop 2 ways (e * 2) nan ∙ ap (λ (i : ℕ). get_or ways i nan) past_x

    y : get_or (drop 2 ways) (e * 2 + 1) nan ≡ get_or ways (suc e * 2 + 1) nan
    y = get_or-drop 2 ways (e * 2 + 1) nan ∙ ap (λ (i : ℕ). get_or ways i nan) past_y

pub ends_placed : (marks : List ℕ) (ways : List Float) (pieces : List ℕ) → ByPlace (ends 0 marks ways pieces)
ends_placed marks ways pieces =
    record { placed = λ e h. ap (λ (x : End). x.name) (ends_at 0 marks ways pieces e (omega (arith, ends_length 0 marks ways pieces))) ∙ nought e }
  where
    nought : (e : ℕ) → 0 + e ≡ e
    nought e = omega arith

-- ---- the node of these ends, by what is lent

pub given_there : (mark : ℕ) {x y : Float} → mark ≡ 1 → given mark x y ≡ Toward x y
unfolding given
given_there mark e = rw (eq-eqb mark 1 e, given)

-- a key does not ask which end comes first
pub key_sym : (a b : Direction) → key_of a b ≡ key_of b a
unfolding key_of
key_sym Absent Absent = refl
key_sym Absent (Toward bx by) = refl
key_sym (Toward ax ay) Absent = refl
key_sym (Toward ax ay) (Toward bx by) = ap key (measure_sym ax ay bx by)

-- ---- what a call selects

module _ (marks : List ℕ) (ways : List Float) (pieces : List ℕ) (limit : Float) where
  module _ (fitting : T (fits binary64 limit)) (number : T (not (is_nan limit))) where
    pub paired_count : length (select limit (ends 0 marks ways pieces)) ≡ length (ranked.select (node_of (ends 0 marks ways pieces)) (key limit))
    paired_count = select_count limit fitting number (ends 0 marks ways pieces) (ends_placed marks ways pieces)

    pub paired_listed : listed (select limit (ends 0 marks ways pieces)) ≡ taking.listed (ranked.select (node_of (ends 0 marks ways pieces)) (key limit))
    paired_listed = select_listed limit fitting number (ends 0 marks ways pieces) (ends_placed marks ways pieces)
