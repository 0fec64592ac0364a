-- The refusals in their order, and what a call that none of the lines' meets has.
use Prim.Native.Nat.{ℕ, zero, suc, ◌*◌, ◌≤◌}
use mathlib.Core.Path.{◌≡◌, refl, sym, ap, ap₂, ◌∙◌, subst, fun_ext}
use mathlib.Core.Bool.{Bool, true, false, not}
use mathlib.Core.List.{List, [], ◌∷◌, ◌++◌, map, append_assoc}
use native.Mathlib.Omega.{arith}
use lib.Dec.{ltb}
use lib.ListN.{length}
use borrow.Author.Tests.{ltb-false}
use Rattle.rules.specs.Answers.{Answer, Accepted, Refused}
use Rattle.rules.specs.declared.Meeting.{Meeting}
use Rattle.rules.specs.Lists.{upto, any_of}
use Rattle.rules.specs.Plane.{points}
use Rattle.rules.specs.Layout.{Lines, lines_in}
use Rattle.rules.specs.Types.{width_of}
use Rattle.rules.specs.Refusals.{first_of, line_tests, origin_bad, line_room}
use Rattle.rules.specs.Calls.{unless, answer_of, cleared}
use Rattle.rules.specs.Check.{Delivered, Delivery, delivered_at, bad_record, acceptable, accepted, check_refusal_of, Checked}
use Rattle.point_numbers.proofs.Widths.{width_most}
use Rattle.build_refusals.specs.Admitted.{LinesAdmitted}
use Rattle.build_refusals.proofs.Laws.{Left, Numbered, lines_numbered, climbed, stayed, parted, lines_admitted, rung, halt, top, off}
use Rattle.build_question.proofs.Laws.{viewed_part}
use Rattle.check_fits.specs.Fits.{Lined}
use Rattle.check_calls.specs.Deliveries.{bad_at, delivered_by}

-- ---- answers

refused_answer : (k r : ℕ) → (k ≡ 0 → ⊥) → Refused k ≡ answer_of k r
unfolding answer_of unless
refused_answer zero r d = absurd (d refl)
refused_answer (suc k) r d = refl

refused_room : (k : ℕ) (a b : List ℕ) → (k ≡ 0 → ⊥) → a ≡ unless k a b
unfolding unless
refused_room zero a b d = absurd (d refl)
refused_room (suc k) a b d = refl

pub refused : (i : Delivery) (k : ℕ) → k ≡ check_refusal_of i → (k ≡ 0 → ⊥) → Checked i (Refused k) i.workspace
refused i k e d =
    record {
      answer = ap Refused e ∙ refused_answer (check_refusal_of i) 0 (λ z. d (e ∙ z));
      workspace = refused_room (check_refusal_of i) i.workspace _ (λ z. d (e ∙ z));
    }

pub admitted : (i : Delivery) (w : List ℕ) → 0 ≡ check_refusal_of i → w ≡ cleared (length i.lines.counts * line_room) i.workspace → Checked i (Accepted 0) w
unfolding answer_of unless
admitted i w e c =
    record {
      answer = ap (λ (k : ℕ). answer_of k 0) e;
      workspace = c ∙ ap (λ (k : ℕ). unless k i.workspace (cleared (length i.lines.counts * line_room) i.workspace)) e;
    }

-- ---- the first ladder: of the lines, of the corner and of the room

abbrev pub room_tests : Meeting → ℕ → ℕ → List (ℕ × Bool)
room_tests m room n = (17, origin_bad m.origin_x m.origin_y) ∷ (7, ltb room (n * line_room)) ∷ []

abbrev pub first_tests : ℕ → Lines → Meeting → ℕ → List (ℕ × Bool)
first_tests t l m room = line_tests t l ++ room_tests m room (length l.counts)

first_numbered : (t : ℕ) (l : Lines) (m : Meeting) (room : ℕ) → Numbered (first_tests t l m room)
first_numbered t l m room =
    (omega arith, (omega arith, (omega arith, (omega arith, (omega arith, (omega arith, (omega arith, (omega arith, (omega arith, (omega arith, (omega arith, tt)))))))))))

pub first_left : (t : ℕ) (l : Lines) (m : Meeting) (room : ℕ) → Left (first_of (first_tests t l m room)) (line_tests t l ++ room_tests m room (length l.counts))
first_left t l m room = record { is = refl }

-- none of the lines' refuses
pub few_lines : (t : ℕ) (l : Lines) → 0 ≡ first_of (line_tests t l) → LinesAdmitted t l
few_lines t l e = lines_admitted t l (record { is = e })

-- none of the first refuses
pub first_none : (t : ℕ) (l : Lines) (m : Meeting) (room : ℕ) → 0 ≡ first_of (first_tests t l m room) → LinesAdmitted t l × (length l.counts * line_room ≤ room)
first_none t l m room e =
    let p = parted (line_tests t l) (room_tests m room (length l.counts)) (lines_numbered t l) (record { is = e }) in
    let q = off p.1 in
    let r = off q.1 in
    (lines_admitted t l p.0, ltb-false room (length l.counts * line_room) r.0)

pub lined : (t w : ℕ) (l : Lines) → w ≡ width_of t → LinesAdmitted t l → Lined w l.coordinates l.counts l.groups l.kinds
lined t w l e a =
    subst (λ (v : ℕ). Lined v l.coordinates l.counts l.groups l.kinds) (sym e)
    (record {
      two = a.two;
      four = width_most t;
      few = a.few;
      groups_long = a.groups_long;
      kinds_long = a.kinds_long;
      adds = a.adds;
      small = a.small;
      places = a.places;
    })

-- ---- the whole ladder

module _ (i : Delivery) where
  abbrev l : Lines
  l = i.lines

  abbrev last_tests : List (ℕ × Bool)
  last_tests = (23, any_of (bad_record i) (upto i.number)) ∷ (24, not (accepted i)) ∷ []

  whole : Left (check_refusal_of i) (first_tests i.type l i.meeting (length i.workspace) ++ last_tests)
  unfolding check_refusal_of
  whole = record { is = ap first_of (sym (append_assoc (line_tests i.type l) (room_tests i.meeting (length i.workspace) (length l.counts)) last_tests)) }

  module _ (k : ℕ) (e : k ≡ first_of (first_tests i.type l i.meeting (length i.workspace))) where
    pub first_refused : (k ≡ 0 → ⊥) → k ≡ check_refusal_of i
    first_refused d = stayed (first_tests i.type l i.meeting (length i.workspace)) last_tests whole e d

    module _ (z : k ≡ 0) where
      left : Left (check_refusal_of i) last_tests
      left = climbed (first_tests i.type l i.meeting (length i.workspace)) last_tests whole (first_numbered i.type l i.meeting (length i.workspace)) e z

      -- by a width that is the type's
      module _ (w : ℕ) (v : w ≡ width_of i.type) (bad : Bool) (b : bad ≡ any_of (bad_at w (length l.counts) l.coordinates i.merged i.table i.listing) (upto i.number)) where
        bad_is : any_of (bad_record i) (upto i.number) ≡ bad
        unfolding bad_record bad_at
        bad_is = sym (b ∙ ap (λ (u : ℕ). any_of (bad_at u (length l.counts) l.coordinates i.merged i.table i.listing) (upto i.number)) v)

        pub record_refused : bad ≡ true → 23 ≡ check_refusal_of i
        record_refused y = halt left (bad_is ∙ y)

        module _ (n : bad ≡ false) (good : Bool)
            (g : good ≡ acceptable i.meeting (lines_in w l) (map (delivered_by w l.coordinates i.merged i.table i.listing) (upto i.number))) where
          chains_are : (u : ℕ) → u ≡ width_of i.type → (k : ℕ) → delivered_by u l.coordinates i.merged i.table i.listing k ≡ delivered_at i k
          unfolding delivered_at
          chains_are u q k =
              ap (λ (x : ℕ). delivered_by x l.coordinates i.merged i.table i.listing k) q
              ∙ ap (λ (c : List ℕ). record { listed = Rattle.rules.specs.Check.listed_at i.table i.listing k; coordinates = points (width_of i.type) c })
              (sym (viewed_part i.type l.coordinates i.merged i.table k))

          good_is : accepted i ≡ good
          unfolding accepted
          good_is =
              sym
              (g
              ∙ ap₂ (λ (u : ℕ) (f : ℕ → Delivered). acceptable i.meeting (lines_in u l) (map f (upto i.number))) v (fun_ext (chains_are w v)))

          pub chain_refused : good ≡ false → 24 ≡ check_refusal_of i
          chain_refused y = halt (rung left (bad_is ∙ n)) (ap not (good_is ∙ y))

          pub none_refused : good ≡ true → 0 ≡ check_refusal_of i
          none_refused y = top (rung (rung left (bad_is ∙ n)) (ap not (good_is ∙ y)))

-- ---- one call

pub checked_once : {i : Delivery} {r r' : Answer} {w w' : List ℕ} → Checked i r w → Checked i r' w' → (r ≡ r') × (w ≡ w')
checked_once a b = (a.answer ∙ sym b.answer, a.workspace ∙ sym b.workspace)
