-- From the pieces that are taken in, and what round two leaves of them, to the book's record of the second call.
use Prim.Native.Nat.{ℕ, ◌+◌, ◌-◌, ◌*◌, ◌≤◌}
use mathlib.Core.Path.{◌≡◌, refl, sym, ap, subst, ◌∙◌}
use mathlib.Core.Bool.{false}
use mathlib.Core.List.{List, ◌++◌, flat_map}
use native.Mathlib.Omega.{arith}
use lib.ListN.{length, drop, length-drop}
use lib.Seq.{take-take, length-take-le}
use Rattle.rules.specs.declared.Settings.{Settings}
use Rattle.rules.specs.Answers.{Answer}
use Rattle.rules.specs.Answers.{Accepted, Refused}
use Rattle.rules.specs.Plane.{flat}
use Rattle.rules.specs.Boxes.{stacked, box_numbers}
use Rattle.rules.specs.Chaining.{Piece, round_two}
use Rattle.rules.specs.Layout.{Lines, lines_in, copy, Laid, laid_out}
use Rattle.rules.specs.Types.{width_of}
use Rattle.rules.specs.Refusals.{line_room}
use Rattle.rules.specs.Calls.{written, cleared}
use Rattle.rules.specs.Pieces.{LentPieces, stood_for, finished_of, FinishRooms, finish_rooms, finish_refusal_of, finished_in, Finished}
use Rattle.chain_laws.proofs.Totals.{same_length}
use Rattle.point_slices.proofs.Laws.{rest_drop}
use Rattle.chain_pieces.specs.Held.{lines_of}
use Rattle.chain_pieces.specs.Map.{join_block, node_block, taken_block}
use Rattle.chain_pieces.proofs.Reading.{held_block}
use Rattle.build_lines.specs.Taken.{Adds}
use Rattle.build_lines.proofs.Passing.{pieces_lone}
use Rattle.build_layout.specs.Laying.{passing_of, Layable, Outputs}
use Rattle.build_layout.proofs.Left.{merged_lone}
use Rattle.build_boxes.specs.Boxing.{chain_boxes, Boxable}
use Rattle.build_chains.specs.Building.{part_from, Left, Second, Boxing}
use Rattle.build_walks.proofs.Walks.{limit_fair}
use Rattle.build_chains.proofs.Parts.{cleared_same}
use Rattle.build_chains.proofs.Boxes.{boxable, boxes_are}
use Rattle.build_chains.proofs.Built.{unless_refused, unless_fine, refused_is, accepted_is}
use Rattle.lent_laws.specs.Passes.{Passes}
use Rattle.lent_laws.specs.Good.{Good}
use Rattle.lent_laws.proofs.Round.{two_good}
use Rattle.lent_laws.proofs.Fitting.{stood_good}
use Rattle.lent_refusals.specs.Admitted.{FinishAdmitted}
use Rattle.lent_refusals.proofs.Ladders.{finish_admitted}
use Rattle.lent_taking.specs.Taking.{PiecesTakable, Took}
use Rattle.lent_taking.proofs.Standing.{stood_long, takable, taken_held, taken_lines}
use Rattle.lent_calls.proofs.Pieces.{members_fit, pieces_fit, lines_low, points_fit, numbers_fit, one_group_lem}
use Rattle.lent_calls.proofs.Boxes.{finish_boxing}
use Rattle.std.specs.Prelude.{Ok, Err}
use Rattle.std.specs.declared.result.Result.{Result}
use Rattle.std.specs.Result.{IsErrAnd}
use Rattle.rules.specs.declared.Refusal.{Refusal}
use Rattle.rules.specs.Answers.{refusal_number, answered}
use Rattle.build_refusals.proofs.Found.{no_none}

module _ (t : ℕ) (l : Lines) (p : LentPieces) (s : Settings) (o : FinishRooms) where
  -- a refused call answers with its number and stores nothing
  pub refused : (k : ℕ) → k ≡ finish_refusal_of t l p s o → (k ≡ 0 → ⊥) → Finished t l p s o (Refused k) o
  refused k e d =
      record {
        answer = refused_is (finish_refusal_of t l p s o) k (finished_of (width_of t) l p s).number e d;
        rooms = unless_refused (finish_refusal_of t l p s o) o (finished_in t l p s o) (λ z. d (e ∙ z));
      }

  -- so does one whose refusal is handed on
  pub refused_on : (x : Result ℕ Refusal) (r : Refusal) → IsErrAnd x (λ q. q ≡ r) → refusal_number r ≡ finish_refusal_of t l p s o → Finished t l p s o (answered x) o
  refused_on (Ok n) r h e = absurd h
  refused_on (Err q) r h e = refused (refusal_number q) (ap refusal_number h ∙ e) (no_none q)

  module _ (z : finish_refusal_of t l p s o ≡ 0) where
    abbrev a : FinishAdmitted t l p s o
    a = finish_admitted t l p s o z

    abbrev n : ℕ
    n = length l.counts

    pub few : length l.counts ≤ 4096
    few = a.lines.few

    pub workspace_long : length l.counts * line_room ≤ length o.workspace
    workspace_long = a.roomy.workspace_long

    pub room : n * node_block ≤ length o.workspace
    room = omega (arith, workspace_long)

    -- the lent pieces are taken in
    pub taking : PiecesTakable o.workspace (length l.counts) p.number p.records p.members p.marks p.listing
    taking = takable (width_of t) l (record { two = a.lines.two; sum = a.lines.adds }) p a.passes o.workspace a.lines.few room

    module _ {w : ℕ} (e : w ≡ width_of t) {ws₁ : List ℕ} {m : ℕ}
        (T : Took ws₁ o.workspace (length l.counts) p.number p.records p.members p.marks p.listing m) where
      pub adds : Adds w l.counts l.coordinates
      adds = subst (λ (v : ℕ). Adds v l.counts l.coordinates) (sym e) (record { two = a.lines.two; sum = a.lines.adds })

      pub ok : Passes w l p
      ok = subst (λ (v : ℕ). Passes v l p) (sym e) a.passes

      abbrev ps : List Piece
      ps = stood_for w l p

      pub good : Good w l (stood_for w l p)
      good = stood_good w l adds p ok

      pub room₁ : n * node_block ≤ length ws₁
      room₁ = omega (arith, room, T.size)

      -- round two takes them as they are
      unfoldable pub second : Second w (length l.counts) p.number s l.coordinates l.groups p.merged o.merged ws₁
      second =
          record {
            counts = l.counts;
            ps = stood_for w l p;
            two = adds.two;
            few = a.lines.few;
            number = sym (stood_long w l adds p ok);
            held =
                held_block w (part_from n (n * taken_block) ws₁) ws₁ 0 (n * taken_block) n l.coordinates p.merged l.counts ps
                (take-take (n * join_block) (n * line_room - n * taken_block) (drop (n * taken_block) ws₁) (omega arith))
                part_room (taken_held w l adds p ok room₁ T);
            grouped = one_group_lem ps good a.lines.groups_long;
            fair = limit_fair s.switch s.limit a.switched;
            fits = numbers_fit ps good adds.sum a.roomy.merged_long;
            workspace_long = omega (arith, workspace_long, T.size);
          }
        where
          part_room : 0 + n * join_block ≤ length (part_from n (n * taken_block) ws₁)
          part_room =
              omega (
                arith,
                length-take-le (n * line_room - n * taken_block) (drop (n * taken_block) ws₁) (omega (arith, length-drop (n * taken_block) ws₁, workspace_long, T.size)),
              )

      module _ {r : ℕ} {merged' ws₂ : List ℕ} (L : Left w (length l.counts) l.coordinates l.counts (round_two s (stood_for w l p)) 0 r merged' o.merged ws₂ ws₁) where
        abbrev qs : List Piece
        qs = round_two s (stood_for w l p)

        pub good₂ : Good w l (round_two s (stood_for w l p))
        good₂ = two_good s (stood_for w l p) good

        -- what it leaves is laid out
        unfoldable pub layable : Layable w (part_from (length l.counts) 0 ws₂) (length l.counts) r m l.coordinates merged' l.counts l.kinds o.table o.members o.marks o.listing
        layable =
            record {
              groups = l.groups;
              ps = round_two s (stood_for w l p);
              held = L.held;
              number = L.number_is;
              listed = taken_lines w l adds p ok room₁ T ∙ same_length (lines_of ps) (lines_of qs) (λ y. good.once y ∙ sym (good₂.once y));
              members_low = lines_low qs good₂ a.lines.few;
              points_few = points_fit qs good₂ a.lines.small;
              pieces_all = pieces_fit qs good₂;
              members_all = members_fit qs good₂;
              few = a.lines.few;
              counts_long = refl;
              kinds_long = a.lines.kinds_long;
              adds = adds;
              small = a.lines.small;
              table_long = a.roomy.table_long;
              members_long = a.roomy.members_long;
              marks_long = a.roomy.marks_long;
              listing_long = a.roomy.listing_long;
            }

        beyond : drop (n * line_room) ws₂ ≡ drop (n * line_room) o.workspace
        beyond = L.rest ∙ rest_drop ws₁ o.workspace (n * node_block) T.rest (n * line_room) (omega arith)

        copies : (finished_of w l p s).merged ≡ flat w (flat_map copy qs)
        unfolding finished_of laid_out
        copies = merged_lone w l.counts qs (passing_of w l) (pieces_lone false 0 (lines_in w l))

        module _
            {table' members' marks' listing' : List ℕ}
            {k : ℕ}
            (q : Outputs (laid_out w l.counts (round_two s (stood_for w l p) ++ passing_of w l)) table' o.table members' o.members marks' o.marks listing' o.listing k) where
          same : finished_of w l p s ≡ finished_of (width_of t) l p s
          same = ap (λ (v : ℕ). finished_of v l p s) e

          outputs : Outputs (finished_of (width_of t) l p s) table' o.table members' o.members marks' o.marks listing' o.listing k
          unfolding finished_of
          outputs = subst (λ (b : Laid). Outputs b table' o.table members' o.members marks' o.marks listing' o.listing k) same q

          copies_are : merged' ≡ written (finished_of (width_of t) l p s).merged o.merged
          copies_are = L.copied_is ∙ ap (λ (x : List ℕ). written x o.merged) (sym copies ∙ ap (λ (b : Laid). b.merged) same)

          boxing : Boxing t l (round_two s (stood_for (width_of t) l p) ++ passing_of (width_of t) l) o.boxes
          boxing =
              finish_boxing t l a.lines (round_two s (stood_for (width_of t) l p))
              (two_good s (stood_for (width_of t) l p) (stood_good (width_of t) l (record { two = a.lines.two; sum = a.lines.adds }) p a.passes)) a.boxes_long

          -- the boxes of what was laid out
          pub boxed : Boxable w l.coordinates merged' table' k o.boxes
          unfolding finished_of
          boxed = boxable boxing o.table o.merged e outputs.records copies_are outputs.number

          -- and the call answers as the book says
          pub accepted : {boxes' workspace' : List ℕ}
              → boxes' ≡ written (box_numbers (stacked (chain_boxes w l.coordinates merged' table' k))) o.boxes
              → workspace' ≡ cleared (length l.counts * line_room) ws₂
              → Finished t l p s o (Accepted k) (finish_rooms table' members' marks' listing' merged' boxes' workspace')
          unfolding finished_in finished_of
          accepted b c =
              record {
                answer = accepted_is (finish_refusal_of t l p s o) k (finished_of (width_of t) l p s).number outputs.number z;
                rooms =
                    (λ i. finish_rooms
                    (outputs.records i)
                    (outputs.listed i)
                    (outputs.turned i)
                    (outputs.passed i)
                    (copies_are i)
                    ((b ∙ ap (λ (x : List ℕ). written x o.boxes) (boxes_are boxing o.table o.merged e outputs.records copies_are outputs.number)) i)
                    ((c ∙ cleared_same (length l.counts * line_room) ws₂ o.workspace beyond) i))
                    ∙ unless_fine (finish_refusal_of t l p s o) o (finished_in t l p s o) z;
              }

-- ---- one record, one answer

pub finish_once : {t : ℕ} {l : Lines} {p : LentPieces} {s : Settings} {o : FinishRooms} {r r' : Answer} {o₁ o₂ : FinishRooms}
    → Finished t l p s o r o₁ → Finished t l p s o r' o₂ → (r ≡ r') × (o₁ ≡ o₂)
finish_once a b = (a.answer ∙ sym b.answer, a.rooms ∙ sym b.rooms)
