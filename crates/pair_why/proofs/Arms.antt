-- The reason, arm by arm, in what the code reads: the listed pairs stand for the selected ones, and each end is read from the slices.
use Prim.Native.Nat.{ℕ, ◌≤◌}
use mathlib.Core.Path.{◌≡◌, refl, sym, ap, ap₂, ◌∙◌}
use mathlib.Core.Bool.{Bool, true, false, ◌||◌}
use mathlib.Core.Logic.{◌⊎◌, inl, inr}
use mathlib.Core.List.{List}
use native.Mathlib.Omega.{arith}
use lib.Dec.{eqb}
use lib.Ieee.{Float, le}
use lib.ListN.{length, get_or}
use borrow.Author.Tests.{eq-eqb, ne_eqb}
use Rattle.rules.specs.Answers.{Direction}
use Rattle.rules.specs.Answers.{Absent, Toward}
use Rattle.rules.specs.Plane.{measure}
use Rattle.rules.specs.Selecting.{End, Pair, select}
use Rattle.rules.specs.Layout.{ends}
use Rattle.rules.specs.declared.Reason.{Reason}
use Rattle.rules.specs.declared.Reason.TheVariants.{Selected, SamePiece, AbsentDirection, NotQualifying, Blocked}
use Rattle.rules.specs.Lists.{any_of, first_place}
use Rattle.rules.specs.Reasons.{joins, touches, absent, unfit, end_of}
use Rattle.pair_laws.proofs.Order.{two, tf}
use Rattle.pair_laws.proofs.Ends.{ends_length, ends_at, ends_placed}
use Rattle.pair_laws.proofs.Settled.{select_settled}
use Rattle.pair_laws.proofs.Calls.{length_listed}
use Rattle.pair_reasons.proofs.Places.{place_rises, place_most}
use Rattle.pair_reasons.proofs.Tests.{is_present, cases_absent, unfit_high, high_unfit, reason_selected, reason_same, reason_absent, reason_high, reason_blocked}
use Rattle.pair_why.specs.Looking.{way_at, first_meeting, joins_at, Questioned, reason_here}
use Rattle.pair_why.proofs.Looking.{meeting_listed, selected_listed}

module _ {present : List ℕ} {directions : List Float} {pieces : List ℕ} {limit : Float} {words : List ℕ} {a b : ℕ} (k : Questioned present directions pieces limit words a b) where
  abbrev all : List End
  all = ends 0 present directions pieces

  abbrev chosen : List Pair
  chosen = select limit (ends 0 present directions pieces)

  abbrev x : End
  x = end_of (ends 0 present directions pieces) a

  abbrev y : End
  y = end_of (ends 0 present directions pieces) b

  -- ---- the two ends

  long : length (ends 0 present directions pieces) ≡ length pieces
  long = ends_length 0 present directions pieces

  name_x : x.name ≡ a
  name_x = (ends_placed present directions pieces).placed a (omega (arith, k.first, long))

  name_y : y.name ≡ b
  name_y = (ends_placed present directions pieces).placed b (omega (arith, k.second, long))

  piece_x : x.piece ≡ get_or pieces a 0
  piece_x = ap (λ (e : End). e.piece) (ends_at 0 present directions pieces a k.first)

  piece_y : y.piece ≡ get_or pieces b 0
  piece_y = ap (λ (e : End). e.piece) (ends_at 0 present directions pieces b k.second)

  way_x : x.direction ≡ way_at present directions a
  way_x = ap (λ (e : End). e.direction) (ends_at 0 present directions pieces a k.first)

  way_y : y.direction ≡ way_at present directions b
  way_y = ap (λ (e : End). e.direction) (ends_at 0 present directions pieces b k.second)

  -- ---- the selected pairs

  pub place_here : first_meeting a b words ≡ first_place (touches x.name y.name) chosen
  place_here =
      ap (first_meeting a b) k.words_are
      ∙ meeting_listed a b chosen
      ∙ ap₂ (λ (m n : ℕ). first_place (touches m n) chosen) (sym name_x) (sym name_y)

  -- at most as many places as there are ends
  pub few_places : first_meeting a b words ≤ length pieces
  few_places = omega (arith, place_here, place_most (touches x.name y.name) chosen, k.short, ap length k.words_are, length_listed chosen)

  selected_here : joins_at a b (first_meeting a b words) words ≡ any_of (joins x.name y.name) chosen
  selected_here =
      ap (λ (w : List ℕ). joins_at a b (first_meeting a b w) w) k.words_are
      ∙ selected_listed chosen (select_settled limit all (place_rises all (ends_placed present directions pieces))).apart a b
      ∙ ap₂ (λ (m n : ℕ). any_of (joins m n) chosen) (sym name_x) (sym name_y)

  pub looked : (p : ℕ) (t : Bool) → p ≡ first_meeting a b words → t ≡ joins_at a b p words → t ≡ any_of (joins x.name y.name) chosen
  looked p t e f = f ∙ ap (λ (q : ℕ). joins_at a b q words) e ∙ selected_here

  -- no selected pair is that of the two
  abbrev pub Unpicked : Type 0
  Unpicked = any_of (joins x.name y.name) chosen ≡ false

  -- ---- the arms

  abbrev here : Reason
  here = reason_here present directions pieces limit a b

  pub here_selected : any_of (joins x.name y.name) chosen ≡ true → Selected ≡ here
  unfolding reason_here
  here_selected e = sym (reason_selected limit chosen x y e)

  module _ (n : Unpicked) where
    pub here_same : get_or pieces a 0 ≡ get_or pieces b 0 → SamePiece ≡ here
    unfolding reason_here
    here_same e = sym (reason_same limit chosen x y n (eq-eqb x.piece y.piece (piece_x ∙ e ∙ sym piece_y)))

    module _ (d : get_or pieces a 0 ≡ get_or pieces b 0 → ⊥) where
      differ : eqb x.piece y.piece ≡ false
      differ = ne_eqb x.piece y.piece (λ e. d (sym piece_x ∙ e ∙ piece_y))

      pub here_absent : (r : Direction) → r ≡ way_at present directions a → r ≡ Absent → AbsentDirection ≡ here
      unfolding reason_here
      here_absent r e f = sym (reason_absent limit chosen x y n differ (cases_absent x.direction y.direction (inl (way_x ∙ sym e ∙ f))))

      pub there_absent : (r : Direction) → r ≡ way_at present directions b → r ≡ Absent → AbsentDirection ≡ here
      unfolding reason_here
      there_absent r e f = sym (reason_absent limit chosen x y n differ (cases_absent x.direction y.direction (inr (way_y ∙ sym e ∙ f))))

      module _
          (q r : Direction)
          (ax ay bx by m : Float)
          (from : q ≡ way_at present directions a)
          (from_is : q ≡ Toward ax ay)
          (to : r ≡ way_at present directions b)
          (to_is : r ≡ Toward bx by)
          (size : m ≡ measure ax ay bx by) where
        toward_x : x.direction ≡ Toward ax ay
        toward_x = way_x ∙ sym from ∙ from_is

        toward_y : y.direction ≡ Toward bx by
        toward_y = way_y ∙ sym to ∙ to_is

        present_both : (absent x.direction || absent y.direction) ≡ false
        present_both = rw (is_present x.direction ax ay toward_x, is_present y.direction bx by toward_y) refl

        pub here_blocked : (p : ℕ) → p ≡ first_meeting a b words → le m limit ≡ true → Blocked p ≡ here
        unfolding reason_here
        here_blocked p e f = ap Blocked (e ∙ place_here) ∙ sym (reason_blocked limit chosen x y n differ present_both (go (two (unfit limit x y))))
          where
            go : (unfit limit x y ≡ true) ⊎ (unfit limit x y ≡ false) → unfit limit x y ≡ false
            go (inl u) = absurd (tf (ap (λ (z : Float). le z limit) (sym size) ∙ f) (unfit_high limit x y ax ay bx by differ toward_x toward_y u))
            go (inr u) = u

        pub here_high : le m limit ≡ false → NotQualifying ≡ here
        unfolding reason_here
        here_high f =
            sym (reason_high limit chosen x y n differ present_both
            (high_unfit limit x y ax ay bx by toward_x toward_y (ap (λ (z : Float). le z limit) (sym size) ∙ f)))
