-- From what round one leaves to the book's record of the first call.
use Prim.Native.Nat.{ℕ, ◌*◌, ◌≤◌}
use mathlib.Core.Path.{◌≡◌, sym, ap, subst, ◌∙◌}
use mathlib.Core.List.{List}
use lib.Ieee.{Float}
use lib.ListN.{length}
use Rattle.rules.specs.declared.Settings.{Settings}
use Rattle.rules.specs.Answers.{Answer}
use Rattle.rules.specs.Answers.{Accepted, Refused}
use Rattle.rules.specs.Chaining.{Piece, round_one}
use Rattle.rules.specs.Layout.{Lines}
use Rattle.rules.specs.Types.{width_of}
use Rattle.rules.specs.Refusals.{line_room}
use Rattle.rules.specs.Calls.{written, cleared}
use Rattle.rules.specs.Pieces.{LentPieces, leaving, exactly, left_of, FirstRooms, first_rooms, first_refusal_of, left_in, FirstLeft}
use Rattle.build_lines.specs.Taken.{Adds, plain_of}
use Rattle.build_chains.specs.Building.{Buildable, part_from, Left}
use Rattle.build_chains.proofs.Parts.{cleared_same}
use Rattle.build_chains.proofs.Built.{unless_refused, unless_fine, refused_is, accepted_is}
use Rattle.lent_laws.specs.Good.{Good}
use Rattle.lent_laws.proofs.Round.{round_good}
use Rattle.lent_refusals.specs.Admitted.{FirstAdmitted}
use Rattle.lent_refusals.proofs.Ladders.{first_admitted}
use Rattle.lent_taking.specs.Leaving.{Leavable, PiecesLeft}
use Rattle.lent_calls.proofs.Pieces.{lines_many, small_pieces}
use Rattle.std.specs.Prelude.{Ok, Err}
use Rattle.std.specs.declared.result.Result.{Result}
use Rattle.std.specs.Result.{IsErrAnd}
use Rattle.rules.specs.declared.Refusal.{Refusal}
use Rattle.rules.specs.Answers.{refusal_number, answered}
use Rattle.build_refusals.proofs.Found.{no_none}

module _ (t : ℕ) (l : Lines) (switch : ℕ) (limit : Float) (o : FirstRooms) where
  -- a refused call answers with its number and stores nothing
  pub refused : (k : ℕ) → k ≡ first_refusal_of t l switch limit o → (k ≡ 0 → ⊥) → FirstLeft t l switch limit o (Refused k) o
  refused k e d =
      record {
        answer = refused_is (first_refusal_of t l switch limit o) k (left_of t l switch limit).number e d;
        rooms = unless_refused (first_refusal_of t l switch limit o) o (left_in t l switch limit o) (λ z. d (e ∙ z));
      }

  -- so does one whose refusal is handed on
  pub refused_on : (x : Result ℕ Refusal) (r : Refusal) → IsErrAnd x (λ q. q ≡ r) → refusal_number r ≡ first_refusal_of t l switch limit o
      → FirstLeft t l switch limit o (answered x) o
  refused_on (Ok n) r h e = absurd h
  refused_on (Err q) r h e = refused (refusal_number q) (ap refusal_number h ∙ e) (no_none q)

  module _ (z : first_refusal_of t l switch limit o ≡ 0) where
    abbrev a : FirstAdmitted t l switch limit o
    a = first_admitted t l switch limit o z

    abbrev s : Settings
    s = exactly switch limit

    pub few : length l.counts ≤ 4096
    few = a.lines.few

    pub workspace_long : length l.counts * line_room ≤ length o.workspace
    workspace_long = a.roomy.workspace_long

    module _ {w : ℕ} (e : w ≡ width_of t) where
      pub adds : Adds w l.counts l.coordinates
      adds = subst (λ (v : ℕ). Adds v l.counts l.coordinates) (sym e) (record { two = a.lines.two; sum = a.lines.adds })

      pub joinable : Buildable w l (exactly switch limit) o.merged o.workspace
      joinable =
          record {
            few = a.lines.few;
            groups_long = a.lines.groups_long;
            kinds_long = a.lines.kinds_long;
            adds = adds;
            switched = a.switched;
            out_long = a.roomy.merged_long;
            workspace_long = a.roomy.workspace_long;
          }

      abbrev ps : List Piece
      ps = round_one (exactly switch limit) (plain_of w l)

      pub good : Good w l (round_one (exactly switch limit) (plain_of w l))
      good = subst (λ (v : ℕ). Good v l (round_one s (plain_of v l))) (sym e) (round_good (width_of t) l a.lines.two a.lines.places s)

      module _ {at number lines : ℕ} {merged' ws₁ : List ℕ}
          (L : Left w (length l.counts) l.coordinates l.counts (round_one (exactly switch limit) (plain_of w l)) at number merged' o.merged ws₁ o.workspace)
          (c : lines ≡ length (plain_of w l)) where
        -- the pieces are left
        unfoldable pub leavable : Leavable (part_from (length l.counts) at ws₁) (length l.counts) number lines o.pieces o.members o.marks o.listing
        leavable =
            record {
              width = w;
              coordinates = l.coordinates;
              copies = merged';
              counts = l.counts;
              small = small_pieces ps good a.lines.few a.lines.small L.held L.number_is (c ∙ sym (lines_many ps good));
              pieces_long = a.roomy.table_long;
              members_long = a.roomy.members_long;
              marks_long = a.roomy.marks_long;
              listing_long = a.roomy.listing_long;
            }

        -- and the call answers as the book says
        pub accepted : {pieces' members' marks' listing' workspace' : List ℕ}
            → PiecesLeft l.counts (round_one (exactly switch limit) (plain_of w l)) pieces' o.pieces members' o.members marks' o.marks listing' o.listing
            → workspace' ≡ cleared (length l.counts * line_room) ws₁
            → FirstLeft t l switch limit o (Accepted number) (first_rooms pieces' members' marks' listing' merged' workspace')
        unfolding left_in leaving
        accepted {pieces'} {members'} {marks'} {listing'} {workspace'} P q =
            let same : leaving w l.counts ps ≡ left_of t l switch limit = ap (λ (v : ℕ). leaving v l.counts (round_one s (plain_of v l))) e in
            record {
              answer = accepted_is (first_refusal_of t l switch limit o) number (left_of t l switch limit).number (L.number_is ∙ ap (λ (p : LentPieces). p.number) same) z;
              rooms =
                  (λ i. first_rooms
                  ((P.records ∙ ap (λ (p : LentPieces). written p.records o.pieces) same) i)
                  ((P.listed ∙ ap (λ (p : LentPieces). written p.members o.members) same) i)
                  ((P.turned ∙ ap (λ (p : LentPieces). written p.marks o.marks) same) i)
                  ((P.passed ∙ ap (λ (p : LentPieces). written p.listing o.listing) same) i)
                  ((L.copied_is ∙ ap (λ (p : LentPieces). written p.merged o.merged) same) i)
                  ((q ∙ cleared_same (length l.counts * line_room) ws₁ o.workspace L.rest) i))
                  ∙ unless_fine (first_refusal_of t l switch limit o) o (left_in t l switch limit o) z;
            }

-- ---- one record, one answer

pub first_once : {t : ℕ} {l : Lines} {switch : ℕ} {limit : Float} {o : FirstRooms} {r r' : Answer} {o₁ o₂ : FirstRooms}
    → FirstLeft t l switch limit o r o₁ → FirstLeft t l switch limit o r' o₂ → (r ≡ r') × (o₁ ≡ o₂)
first_once a b = (a.answer ∙ sym b.answer, a.rooms ∙ sym b.rooms)
