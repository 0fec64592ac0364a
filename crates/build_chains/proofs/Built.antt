-- From what the rounds leave to the book's record of a building call: what each step asks of a call that no refusal meets, and what a refused one answers.
use Prim.Native.Nat.{ℕ, zero, suc, ◌*◌, ◌≤◌}
use mathlib.Core.Path.{◌≡◌, refl, sym, ◌∙◌, ap, subst}
use mathlib.Core.List.{List, ◌++◌}
use native.Mathlib.Omega.{arith}
use lib.ListN.{length}
use Rattle.rules.specs.declared.Settings.{Settings}
use Rattle.std.specs.declared.result.Result.{Result}
use Rattle.std.specs.Prelude.{Ok, Err}
use Rattle.std.specs.Result.{IsErrAnd}
use Rattle.rules.specs.declared.Refusal.{Refusal}
use Rattle.rules.specs.Answers.{Answer, Accepted, Refused, refusal_number, answered}
use Rattle.build_refusals.proofs.Found.{no_none}
use Rattle.rules.specs.Boxes.{stacked, box_numbers}
use Rattle.rules.specs.Chaining.{chains}
use Rattle.rules.specs.Layout.{Lines, Laid, laid_out, build}
use Rattle.rules.specs.Types.{width_of}
use Rattle.rules.specs.Refusals.{Rooms, rooms, line_room, refusal_of}
use Rattle.rules.specs.Calls.{unless, answer_of, written, cleared, built_of, filled, Built}
use Rattle.build_refusals.specs.Admitted.{Admitted}
use Rattle.build_refusals.proofs.Laws.{admitted}
use Rattle.build_lines.specs.Taken.{Adds}
use Rattle.chain_laws.proofs.Counts.{each_weak}
use Rattle.build_boxes.specs.Boxing.{chain_boxes, Boxable}
use Rattle.build_layout.specs.Laying.{passing_of, left_of, Layable, Outputs}
use Rattle.build_layout.proofs.Left.{pieces_all, members_all, left_low, left_size, merged_left}
use Rattle.build_chains.specs.Building.{Buildable, part_from, AllLeft}
use Rattle.build_chains.proofs.Parts.{cleared_same}
use Rattle.build_chains.proofs.Boxes.{chains_boxing, boxable, boxes_are}

pub unless_refused : {A : Type 0} (k : ℕ) (a b : A) → (k ≡ 0 → ⊥) → a ≡ unless k a b
unfolding unless
unless_refused zero a b d = absurd (d refl)
unless_refused (suc k) a b d = refl

pub unless_fine : {A : Type 0} (k : ℕ) (a b : A) → k ≡ 0 → b ≡ unless k a b
unfolding unless
unless_fine k a b z = sym (ap (λ (m : ℕ). unless m a b) z)

pub refused_is : (refusal k result : ℕ) → k ≡ refusal → (k ≡ 0 → ⊥) → Refused k ≡ answer_of refusal result
unfolding answer_of
refused_is refusal k result e d = unless_refused k (Refused k) (Accepted result) d ∙ ap (λ (m : ℕ). answer_of m result) e

pub accepted_is : (refusal k result : ℕ) → k ≡ result → refusal ≡ 0 → Accepted k ≡ answer_of refusal result
unfolding answer_of
accepted_is refusal k result e z = ap Accepted e ∙ unless_fine refusal (Refused refusal) (Accepted result) z

module _ (t : ℕ) (l : Lines) (s : Settings) (o : Rooms) where
  -- a refused call answers with its number and stores nothing
  pub refused : (k : ℕ) → k ≡ refusal_of t l s o → (k ≡ 0 → ⊥) → Built t l s o (Refused k) o
  refused k e d =
      record {
        answer = refused_is (refusal_of t l s o) k (built_of t l s).number e d;
        rooms = unless_refused (refusal_of t l s o) o (filled t l s o) (λ z. d (e ∙ z));
      }

  -- so does one whose refusal is handed on
  pub refused_on : (x : Result ℕ Refusal) (r : Refusal) → IsErrAnd x (λ q. q ≡ r) → refusal_number r ≡ refusal_of t l s o → Built t l s o (answered x) o
  refused_on (Ok n) r h e = absurd h
  refused_on (Err q) r h e = refused (refusal_number q) (ap refusal_number h ∙ e) (no_none q)

  module _ (z : refusal_of t l s o ≡ 0) where
    abbrev a : Admitted t l s o
    a = admitted t l s o z

    abbrev adds : Adds (width_of t) l.counts l.coordinates
    adds = record { two = a.two; sum = a.adds }

    -- one that isn't has its lines joined
    pub joinable : Buildable (width_of t) l s o.merged o.workspace
    joinable = record {
      few = a.few;
      groups_long = a.groups_long;
      kinds_long = a.kinds_long;
      adds = adds;
      switched = a.switched;
      out_long = a.merged_long;
      workspace_long = a.workspace_long;
    }

    -- by the width that is at hand
    pub joinable_by : {w : ℕ} → w ≡ width_of t → Buildable w l s o.merged o.workspace
    joinable_by e = subst (λ (v : ℕ). Buildable v l s o.merged o.workspace) (sym e) joinable

    pub spare_long : length l.coordinates ≤ length o.spare
    spare_long = a.spare_long

    module _
        {w at number lines : ℕ}
        {merged' spare₁ workspace₁ : List ℕ}
        (e : w ≡ width_of t)
        (L : AllLeft w l s at number lines merged' o.merged spare₁ o.spare workspace₁ o.workspace) where
      -- has the pieces laid out that the rounds leave
      unfoldable pub layable : Layable w (part_from (length l.counts) at workspace₁) (length l.counts) number lines l.coordinates merged' l.counts l.kinds o.table o.members o.marks o.listing
      layable = record {
        groups = l.groups;
        ps = left_of w s l;
        held = L.left.held;
        number = L.left.number_is;
        listed = L.lines_are;
        members_low = each_weak _ _ _ (λ x h. omega (arith, a.few)) (left_low w s l.coordinates l.counts l.groups l.kinds);
        points_few = omega (arith, left_size w s l.coordinates l.counts l.groups l.kinds, a.small);
        pieces_all = pieces_all w s l.coordinates l.counts l.groups l.kinds;
        members_all = omega (arith, members_all w s l.coordinates l.counts l.groups l.kinds);
        few = a.few;
        counts_long = refl;
        kinds_long = a.kinds_long;
        adds = (joinable_by e).adds;
        small = a.small;
        table_long = a.table_long;
        members_long = a.members_long;
        marks_long = a.marks_long;
        listing_long = a.listing_long;
      }

      module _
          {table' members' marks' listing' : List ℕ}
          {r : ℕ}
          (q : Outputs (laid_out w l.counts (left_of w s l ++ passing_of w l)) table' o.table members' o.members marks' o.marks listing' o.listing r) where
        same : build w s l ≡ built_of t l s
        same = ap (λ (v : ℕ). build v s l) e

        outputs : Outputs (built_of t l s) table' o.table members' o.members marks' o.marks listing' o.listing r
        unfolding build chains
        outputs = subst (λ (b : Laid). Outputs b table' o.table members' o.members marks' o.marks listing' o.listing r) same q

        copies_are : merged' ≡ written (built_of t l s).merged o.merged
        unfolding build chains
        copies_are =
            L.left.copied_is ∙ ap (λ (m : List ℕ). written m o.merged) (sym (merged_left w s l.coordinates l.counts l.groups l.kinds) ∙ ap (λ (b : Laid). b.merged) same)

        -- the boxes of what was laid out
        pub boxed : Boxable w l.coordinates merged' table' r o.boxes
        unfolding build
        boxed = boxable (chains_boxing a) o.table o.merged e outputs.records copies_are outputs.number

        -- and clears what it used
        pub accepted : {boxes' spare' workspace' : List ℕ}
            → boxes' ≡ written (box_numbers (stacked (chain_boxes w l.coordinates merged' table' r))) o.boxes
            → spare' ≡ cleared (length l.coordinates) spare₁
            → workspace' ≡ cleared (length l.counts * line_room) workspace₁
            → Built t l s o (Accepted r) (rooms table' members' marks' listing' merged' boxes' spare' workspace')
        unfolding filled build
        accepted b p c =
            record {
              answer = accepted_is (refusal_of t l s o) _ (built_of t l s).number outputs.number z;
              rooms =
                  (λ i. rooms
                  (outputs.records i)
                  (outputs.listed i)
                  (outputs.turned i)
                  (outputs.passed i)
                  (copies_are i)
                  ((b ∙ ap (λ (x : List ℕ). written x o.boxes) (boxes_are (chains_boxing a) o.table o.merged e outputs.records copies_are outputs.number)) i)
                  ((p ∙ cleared_same (length l.coordinates) spare₁ o.spare L.spare_rest) i)
                  ((c ∙ cleared_same (length l.counts * line_room) workspace₁ o.workspace L.left.rest) i))
                  ∙ unless_fine (refusal_of t l s o) o (filled t l s o) z;
            }

-- ---- one record, one answer

-- two results that the record of a building call allows are equal, each room too
pub built_once : {t : ℕ} {l : Lines} {s : Settings} {o : Rooms} {r r' : Answer} {o₁ o₂ : Rooms} → Built t l s o r o₁ → Built t l s o r' o₂ → (r ≡ r') × (o₁ ≡ o₂)
built_once a b = (a.answer ∙ sym b.answer, a.rooms ∙ sym b.rooms)
