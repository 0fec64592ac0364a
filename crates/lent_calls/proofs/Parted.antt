-- ONE CALL IS TWO: what building answers, and what it writes, is what the first call and then the second answer and write, with the same switch and limit, for
-- every tolerance and origin. It is true because what the first leaves passes 19 and stands for what round one left, and the second goes on from there.
use Prim.Native.Nat.{ℕ, zero, suc, ◌*◌, ◌≤◌}
use mathlib.Core.Path.{◌≡◌, refl, sym, ap, ap₂, ◌∙◌, subst}
use mathlib.Core.Bool.{Bool, true, false, ◌||◌, true≢false}
use mathlib.Core.List.{List, [], ◌∷◌, ◌++◌, flat_map}
use native.Mathlib.Omega.{arith}
use lib.ListN.{length, take, drop}
use lib.Seq.{take_at}
use borrow.Author.Tests.{le-ltb}
use Rattle.rules.specs.declared.Settings.{Settings}
use Rattle.rules.specs.Answers.{Answer}
use Rattle.rules.specs.Answers.{Accepted, Refused}
use Rattle.rules.specs.Plane.{flat}
use Rattle.rules.specs.Boxes.{box_room}
use Rattle.rules.specs.Chaining.{Piece, pieces, limit_of, round_one}
use Rattle.rules.specs.Layout.{Lines, lines_in, copy, five, piece_table, Laid}
use Rattle.rules.specs.Types.{width_of}
use Rattle.rules.specs.Refusals.{Rooms, first_of, short, origin_bad, line_tests, setting_tests, refusal_of, record_size, piece_size, line_room}
use Rattle.rules.specs.Calls.{unless, answer_of, written, cleared, built_of, filled, Built}
use Rattle.rules.specs.Pieces.{LentPieces, lent_bad, leaving, exactly, finished_of, FirstRooms, first_refusal_of, left_in, FirstLeft, FinishRooms, finish_refusal_of, finished_in, Finished}
use Rattle.chain_laws.proofs.Records.{five_length, rows_length}
use Rattle.point_numbers.proofs.Points.{flat_length}
use Rattle.chain_pieces.specs.Held.{lines_of, marks_of, listing_of}
use Rattle.chain_pieces.specs.Compact.{Compact}
use Rattle.build_lines.specs.Taken.{Adds}
use Rattle.lent_laws.proofs.Clauses.{passes}
use Rattle.lent_laws.proofs.Round.{round_passes, round_finished}
use Rattle.lent_refusals.specs.Admitted.{FirstAdmitted}
use Rattle.lent_refusals.proofs.Ladders.{first_admitted}
use Rattle.lent_calls.specs.Parted.{SameRooms, lent_from}

-- ---- answers

-- an accepted answer is that of a call without a refusal
accepted_none : (k refusal result : ℕ) → Accepted k ≡ answer_of refusal result → refusal ≡ 0
unfolding answer_of unless
accepted_none k zero result e = refl
accepted_none k (suc refusal) result e = let z : ◌≡◌ {A = ℕ} 0 1 = cc in absurd (omega arith)

accepted_result : (k refusal result : ℕ) → Accepted k ≡ answer_of refusal result → k ≡ result
unfolding answer_of unless
accepted_result k zero result e = cc
accepted_result k (suc refusal) result e = let z : ◌≡◌ {A = ℕ} 0 1 = cc in absurd (omega arith)

refused_number : (k refusal result : ℕ) → Refused k ≡ answer_of refusal result → k ≡ refusal
unfolding answer_of unless
refused_number k zero result e = let z : ◌≡◌ {A = ℕ} 0 1 = cc in absurd (omega arith)
refused_number k (suc refusal) result e = cc

unless_none : {A : Type 0} (k : ℕ) (a b : A) → k ≡ 0 → unless k a b ≡ b
unfolding unless
unless_none k a b e = ap (λ (i : ℕ). unless i a b) e

-- ---- what is written stands at the front

front : (x room : List ℕ) (k : ℕ) → length x ≡ k → take k (written x room) ≡ x
unfolding written
front x room k h = take_at x (drop (length x) room) k h

-- ---- ladders

-- two that go on alike
same_rest : (a b c : List (ℕ × Bool)) → first_of b ≡ first_of c → first_of (a ++ b) ≡ first_of (a ++ c)
unfolding first_of
same_rest [] b c e = e
same_rest ((k, true) ∷ a) b c e = refl
same_rest ((k, false) ∷ a) b c e = same_rest a b c e

-- a test that doesn't hold is no test
skipped : (k : ℕ) (o b : Bool) (j : ℕ) (r : List (ℕ × Bool)) → b ≡ false → first_of ((k, o) ∷ (j, b) ∷ r) ≡ first_of ((k, o) ∷ r)
unfolding first_of
skipped k true b j r e = refl
skipped k false true j r e = absurd (true≢false e)
skipped k false false j r e = refl

-- the last test's number, or one before it
last_or : (a : List (ℕ × Bool)) (b : Bool) → (first_of (a ++ ((7, b) ∷ [])) ≡ 0 → ⊥) → (first_of (a ++ ((7, b) ∷ [])) ≡ 7 → ⊥) → first_of (a ++ ((7, b) ∷ [])) ≡ first_of a
unfolding first_of
last_or [] true d e = absurd (e refl)
last_or [] false d e = absurd (d refl)
last_or ((k, true) ∷ a) b d e = refl
last_or ((k, false) ∷ a) b d e = last_or a b d e

stops : (a b : List (ℕ × Bool)) → (first_of a ≡ 0 → ⊥) → first_of (a ++ b) ≡ first_of a
unfolding first_of
stops [] b n = absurd (n refl)
stops ((k, true) ∷ a) b n = refl
stops ((k, false) ∷ a) b n = stops a b n

module _ (t : ℕ) (l : Lines) (s : Settings) where
  abbrev w : ℕ
  w = width_of t

  abbrev n : ℕ
  n = length l.counts

  -- ---- what the first call leaves

  module _ {f f' : FirstRooms} {k : ℕ} (F : FirstLeft t l s.switch s.limit f (Accepted k) f') where
    abbrev p : LentPieces
    p = lent_from f' k

    abbrev ps : List Piece
    ps = round_one (exactly s.switch s.limit) (pieces true 0 (lines_in w l))

    none : first_refusal_of t l s.switch s.limit f ≡ 0
    none = accepted_none k _ _ F.answer

    admitted : FirstAdmitted t l s.switch s.limit f
    admitted = first_admitted t l s.switch s.limit f none

    adds : Adds w l.counts l.coordinates
    adds = record { two = admitted.lines.two; sum = admitted.lines.adds }

    rooms_are : f' ≡ left_in t l s.switch s.limit f
    rooms_are = F.rooms ∙ unless_none _ f (left_in t l s.switch s.limit f) none

    compact : Compact w l.counts ps p
    unfolding left_in leaving
    compact =
        record {
          number = accepted_result k _ _ F.answer;
          records =
              ap (λ (r : FirstRooms). take (length ps * piece_size) r.pieces) rooms_are
              ∙ front (piece_table l.counts 0 0 ps) f.pieces (length ps * piece_size) (rows_length (five l.counts) piece_size (five_length l.counts) 0 0 ps);
          members = ap (λ (r : FirstRooms). take (length (lines_of ps)) r.members) rooms_are ∙ front (lines_of ps) f.members (length (lines_of ps)) refl;
          marks = ap (λ (r : FirstRooms). take (length (marks_of ps)) r.marks) rooms_are ∙ front (marks_of ps) f.marks (length (marks_of ps)) refl;
          listing = ap (λ (r : FirstRooms). take (length (listing_of ps)) r.listing) rooms_are ∙ front (listing_of ps) f.listing (length (listing_of ps)) refl;
          merged =
              ap (λ (r : FirstRooms). take (length (flat_map copy ps) * w) r.merged) rooms_are
              ∙ front (flat w (flat_map copy ps)) f.merged (length (flat_map copy ps) * w) (flat_length w (flat_map copy ps));
        }

    -- it passes, and it is finished as building finishes it
    fine : lent_bad w l p ≡ false
    fine = passes w l p (round_passes w l adds admitted.lines.places (exactly s.switch s.limit) p compact)

    finished_is : finished_of w l p s ≡ built_of t l s
    unfolding limit_of
    finished_is = round_finished w l adds admitted.lines.places (exactly s.switch s.limit) p compact s refl

    module _ {o : Rooms} {g : FinishRooms} (R : SameRooms o g) (spare_long : length l.coordinates ≤ length o.spare) where
      -- ---- the same refusal

      rooms_same : short o.table (n * record_size) || (short o.members n || (short o.marks n || (short o.listing n
          || (short o.merged (length l.coordinates)
          || (short o.boxes (box_room n) || (short o.spare (length l.coordinates) || short o.workspace (n * line_room)))))))
          ≡ short g.table (n * record_size) || (short g.members n || (short g.marks n || (short g.listing n
          || (short g.merged (length l.coordinates) || (short g.boxes (box_room n) || short g.workspace (n * line_room))))))
      rooms_same =
          rw (R.table, R.members, R.marks, R.listing, R.merged, R.boxes, R.workspace, le-ltb (length o.spare) (length l.coordinates) spare_long)

      refusal_same : finish_refusal_of t l p s g ≡ refusal_of t l s o
      unfolding finish_refusal_of refusal_of
      refusal_same =
          same_rest (line_tests t l ++ setting_tests s.switch s.limit) _ _ (skipped 17 (origin_bad s.origin_x s.origin_y) (lent_bad w l p) 19 _ fine)
          ∙ ap
          (λ (b : Bool). first_of (line_tests t l ++ (setting_tests s.switch s.limit ++ ((17, origin_bad s.origin_x s.origin_y) ∷ (7, b) ∷ []))))
          (sym rooms_same)

      -- ---- the same rooms

      filled_same : (k : ℕ) → SameRooms (unless k o (filled t l s o)) (unless k g (finished_in t l p s g))
      unfolding unless filled finished_in
      filled_same zero =
          record {
            table = ap₂ (λ (a : Laid) (x : List ℕ). written a.records x) (sym finished_is) R.table;
            members = ap₂ (λ (a : Laid) (x : List ℕ). written a.members x) (sym finished_is) R.members;
            marks = ap₂ (λ (a : Laid) (x : List ℕ). written a.marks x) (sym finished_is) R.marks;
            listing = ap₂ (λ (a : Laid) (x : List ℕ). written a.listing x) (sym finished_is) R.listing;
            merged = ap₂ (λ (a : Laid) (x : List ℕ). written a.merged x) (sym finished_is) R.merged;
            boxes = ap₂ (λ (a : Laid) (x : List ℕ). written a.boxes x) (sym finished_is) R.boxes;
            workspace = ap (λ (x : List ℕ). cleared (length l.counts * line_room) x) R.workspace;
          }
      filled_same (suc k) = R

      -- ONE CALL, AND THE FIRST AND THEN THE SECOND
      pub one_is_two : {r r' : Answer} {o' : Rooms} {g' : FinishRooms} → Built t l s o r o' → Finished t l (lent_from f' k) s g r' g' → (r ≡ r') × SameRooms o' g'
      one_is_two {r} {r'} {o'} {g'} B C = (
        B.answer ∙ ap₂ answer_of (sym refusal_same) (ap (λ (a : Laid). a.number) (sym finished_is)) ∙ sym C.answer,
        subst (λ (x : Rooms). SameRooms x g') (sym B.rooms)
            (subst (SameRooms (unless (refusal_of t l s o) o (filled t l s o))) (sym (C.rooms ∙ ap (λ (i : ℕ). unless i g (finished_in t l (lent_from f' k) s g)) refusal_same))
            (filled_same (refusal_of t l s o))),
      )

  -- ---- where the first call is refused for another reason than its rooms, building is refused for the same

  early : (f : FirstRooms) → (first_refusal_of t l s.switch s.limit f ≡ 0 → ⊥) → (first_refusal_of t l s.switch s.limit f ≡ 7 → ⊥)
      → first_refusal_of t l s.switch s.limit f ≡ first_of (line_tests t l ++ setting_tests s.switch s.limit)
  unfolding first_refusal_of
  early f d e = last_or (line_tests t l ++ setting_tests s.switch s.limit) _ d e

  pub refused_alike : {f f' : FirstRooms} {k : ℕ} {o o' : Rooms} {r : Answer} → (k ≡ 0 → ⊥) → (k ≡ 7 → ⊥) → FirstLeft t l s.switch s.limit f (Refused k) f' → Built t l s o r o' → r ≡ Refused k
  unfolding refusal_of answer_of unless
  refused_alike {f} {f'} {k} {o} {o'} {r} d e F B =
      let is : k ≡ first_refusal_of t l s.switch s.limit f = refused_number k _ _ F.answer in
      let first : k ≡ first_of (line_tests t l ++ setting_tests s.switch s.limit) = is ∙ early f (λ z. d (is ∙ z)) (λ z. e (is ∙ z)) in
      B.answer ∙ go (refusal_of t l s o) (stops (line_tests t l ++ setting_tests s.switch s.limit) _ (λ z. d (first ∙ z)) ∙ sym first)
    where
      go : (j : ℕ) → j ≡ k → answer_of j (built_of t l s).number ≡ Refused k
      go zero q = absurd (d (sym q))
      go (suc j) q = ap Refused q
