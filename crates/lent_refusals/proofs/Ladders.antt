-- The refusals of the two calls in their order, and what a call has that none meets.
use Prim.Native.Nat.{ℕ, ◌*◌, ◌≤◌}
use mathlib.Core.Path.{◌≡◌, refl, sym, subst, ◌∙◌}
use mathlib.Core.Bool.{Bool, false}
use mathlib.Core.List.{List, [], ◌∷◌, ◌++◌}
use native.Mathlib.Omega.{arith}
use lib.Dec.{ltb}
use lib.Ieee.{Float}
use lib.ListN.{length}
use Rattle.rules.specs.declared.Settings.{Settings}
use Rattle.rules.specs.Boxes.{box_room}
use Rattle.rules.specs.Layout.{Lines}
use Rattle.rules.specs.Types.{width_of}
use Rattle.rules.specs.Refusals.{origin_bad, first_of, line_tests, piece_size, record_size, line_room}
use Rattle.rules.specs.Pieces.{LentPieces, lent_bad, FirstRooms, first_refusal_of, FinishRooms, finish_refusal_of}
use Rattle.build_refusals.specs.Tests.{switch_bad, any_short}
use Rattle.build_refusals.specs.Admitted.{LinesAdmitted}
use Rattle.build_refusals.proofs.Laws.{Left, Numbered, lines_numbered, parted, off, or_false, all_long, lines_admitted}
use Rattle.lent_laws.proofs.Clauses.{passed}
use Rattle.lent_judging.specs.Judging.{LinesSized}
use Rattle.lent_refusals.specs.Tests.{call_tests}
use Rattle.lent_refusals.specs.Admitted.{FirstAdmitted, FinishAdmitted}

-- ---- what both calls begin with

pub calls_numbered : (t : ℕ) (l : Lines) (switch : ℕ) (limit : Float) → Numbered (call_tests t l switch limit)
calls_numbered t l switch limit =
    (omega arith, (omega arith, (omega arith, (omega arith, (omega arith, (omega arith, (omega arith, (omega arith, (omega arith, (omega arith, tt))))))))))

-- one test behind those of the lines
pub line_stays : (t : ℕ) (l : Lines) (switch : ℕ) (limit : Float) → Left (first_of (call_tests t l switch limit)) (line_tests t l ++ ((6, switch_bad switch limit) ∷ []))
line_stays t l switch limit = record { is = refl }

pub call_admitted : (t : ℕ) (l : Lines) (switch : ℕ) (limit : Float) → Left 0 (call_tests t l switch limit) → LinesAdmitted t l × (switch_bad switch limit ≡ false)
call_admitted t l switch limit e =
    let parts = parted (line_tests t l) ((6, switch_bad switch limit) ∷ []) (lines_numbered t l) e in
    (lines_admitted t l parts.0, (off parts.1).0)

-- a call's lines are such as judging lent pieces asks for
pub sized : (t w : ℕ) (l : Lines) → LinesAdmitted t l → w ≡ width_of t → w ≤ 4 → LinesSized w l
sized t w l a e four =
    subst (λ (v : ℕ). LinesSized v l) (sym e) (
    record {
      two = a.two;
      four = omega arith;
      tabled = record { few = a.few; groups_long = a.groups_long; kinds_long = a.kinds_long };
      adds = a.adds;
      small = a.small;
      places = a.places;
    }
    )

-- ---- the first call

-- its rooms, and what is asked of each
abbrev pub first_asked : Lines → FirstRooms → List (ℕ × ℕ)
first_asked l o =
    let n = length l.counts in
    (length o.pieces, n * piece_size)
    ∷ (length o.members, n)
    ∷ (length o.marks, n)
    ∷ (length o.listing, n)
    ∷ (length o.merged, length l.coordinates)
    ∷ (length o.workspace, n * line_room)
    ∷ []

abbrev pub first_rest : Lines → FirstRooms → List (ℕ × Bool)
first_rest l o = (7, any_short (first_asked l o)) ∷ []

pub first_opened : (t : ℕ) (l : Lines) (switch : ℕ) (limit : Float) (o : FirstRooms) → Left (first_refusal_of t l switch limit o) (call_tests t l switch limit ++ first_rest l o)
unfolding first_refusal_of switch_bad
first_opened t l switch limit o = record { is = rw (or_false (ltb (length o.workspace) (length l.counts * line_room))) }

pub first_admitted : (t : ℕ) (l : Lines) (switch : ℕ) (limit : Float) (o : FirstRooms) → first_refusal_of t l switch limit o ≡ 0 → FirstAdmitted t l switch limit o
first_admitted t l switch limit o z =
    let parts = parted (call_tests t l switch limit) (first_rest l o) (calls_numbered t l switch limit) (record { is = sym z ∙ (first_opened t l switch limit o).is }) in
    let begun = call_admitted t l switch limit parts.0 in
    let r = all_long (first_asked l o) (off parts.1).0 in
    record {
      lines = begun.0;
      switched = begun.1;
      roomy =
          record {
            table_long = r.0;
            members_long = r.1.0;
            marks_long = r.1.1.0;
            listing_long = r.1.1.1.0;
            merged_long = r.1.1.1.1.0;
            workspace_long = r.1.1.1.1.1.0;
          };
    }

-- ---- the second call

abbrev pub finish_asked : Lines → FinishRooms → List (ℕ × ℕ)
finish_asked l o =
    let n = length l.counts in
    (length o.table, n * record_size)
    ∷ (length o.members, n)
    ∷ (length o.marks, n)
    ∷ (length o.listing, n)
    ∷ (length o.merged, length l.coordinates)
    ∷ (length o.boxes, box_room n)
    ∷ (length o.workspace, n * line_room)
    ∷ []

abbrev pub finish_rest : ℕ → Lines → LentPieces → Settings → FinishRooms → List (ℕ × Bool)
finish_rest t l p s o = (17, origin_bad s.origin_x s.origin_y) ∷ (19, lent_bad (width_of t) l p) ∷ (7, any_short (finish_asked l o)) ∷ []

pub finish_opened : (t : ℕ) (l : Lines) (p : LentPieces) (s : Settings) (o : FinishRooms) → Left (finish_refusal_of t l p s o) (call_tests t l s.switch s.limit ++ finish_rest t l p s o)
unfolding finish_refusal_of switch_bad
finish_opened t l p s o = record { is = rw (or_false (ltb (length o.workspace) (length l.counts * line_room))) }

pub finish_admitted : (t : ℕ) (l : Lines) (p : LentPieces) (s : Settings) (o : FinishRooms) → finish_refusal_of t l p s o ≡ 0 → FinishAdmitted t l p s o
finish_admitted t l p s o z =
    let parts = parted (call_tests t l s.switch s.limit) (finish_rest t l p s o) (calls_numbered t l s.switch s.limit) (record { is = sym z ∙ (finish_opened t l p s o).is }) in
    let begun = call_admitted t l s.switch s.limit parts.0 in
    let a = off parts.1 in
    let b = off a.1 in
    let r = all_long (finish_asked l o) (off b.1).0 in
    record {
      lines = begun.0;
      switched = begun.1;
      cornered = a.0;
      passes = passed (width_of t) l p b.0;
      roomy =
          record {
            table_long = r.0;
            members_long = r.1.0;
            marks_long = r.1.1.0;
            listing_long = r.1.1.1.0;
            merged_long = r.1.1.1.1.0;
            workspace_long = r.1.1.1.1.1.1.0;
          };
      boxes_long = r.1.1.1.1.1.0;
    }
