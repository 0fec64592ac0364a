-- What is read of an accepted building call: the chains of its lines, and so every line in exactly one chain.
-- The contract has the rooms begin with the layout of the book's chains, and reading gives these back.
use Prim.Native.Nat.{ℕ, zero, suc, ◌*◌, ◌≤◌, ◌<◌}
use mathlib.Core.Path.{◌≡◌, refl, sym, ap, subst, ◌∙◌}
use mathlib.Core.List.{List, [], ◌∷◌, ◌++◌, map, flat_map}
use native.Mathlib.Omega.{arith}
use lib.ListN.{length, drop, get_or}
use Rattle.rules.specs.Answers.{Accepted}
use Rattle.rules.specs.declared.Settings.{Settings}
use Rattle.rules.specs.Lists.{one, count}
use Rattle.rules.specs.Plane.{points, flat}
use Rattle.rules.specs.Boxes.{box_of, stacked, box_numbers}
use Rattle.rules.specs.Chaining.{Piece, nothing, chains}
use Rattle.rules.specs.Types.{width_of}
use Rattle.rules.specs.Layout.{Lines, lines_in, copy, loop as loop_of, table as table_of, laid_out, build}
use Rattle.rules.specs.Refusals.{Rooms, refusal_of, line_room, entry}
use Rattle.rules.specs.Calls.{unless, answer_of, written, cleared, built_of, filled, Built, viewed}
use Rattle.build_refusals.specs.Admitted.{Admitted}
use Rattle.build_refusals.proofs.Laws.{admitted}
use Rattle.build_lines.specs.Taken.{Adds}
use Rattle.chain_pieces.specs.Held.{lines_of}
use Rattle.chain_laws.proofs.Counts.{Each, nil, cons, each_map, each_weak, count_append, upto_once}
use Rattle.chain_laws.proofs.Drawn.{Drawn}
use Rattle.chain_laws.proofs.Lines.{chains_count, in_one_chain, no_other_line}
use Rattle.chain_laws.proofs.Room.{lines_length}
use Rattle.chain_laws.proofs.Sound.{chains_sound, chains_drawn}
use Rattle.chain_travel.specs.Travel.{Travelled}
use Rattle.chain_travel.proofs.Lent.{written_travelled}
use Rattle.build_reading.specs.Reading.{ChainRead, read_all, read_of}
use Rattle.build_reading.proofs.Reading.{line_stands, view_read, mark_read, chains_read}

-- a call that answers with a result was not refused, and the result is that of its record
pub accepted : (refusal result n : ℕ) → answer_of refusal result ≡ Accepted n → (refusal ≡ 0) × (n ≡ result)
unfolding answer_of unless
accepted zero result n e = (refl, cc)
accepted (suc k) result n e = (let z : ◌≡◌ {A = ℕ} 0 1 = cc in absurd (omega arith))

members_read : (w : ℕ) (ps : List Piece) → flat_map (λ c. c.members) (map (read_of w) ps) ≡ lines_of ps
unfolding flat_map read_of
members_read w [] = refl
members_read w (p ∷ ps) = ap (λ (l : List ℕ). p.lines ++ l) (members_read w ps)

-- a line stands in one of many lists no oftener than in all of them
part_fewer : (f : Piece → List ℕ) (y : ℕ) (ps : List Piece) → Each (λ p. count y (f p) ≤ count y (flat_map f ps)) ps
unfolding flat_map
part_fewer f y [] = nil
part_fewer f y (p ∷ ps) =
    cons {a = p} (omega (arith, count_append y (f p) (flat_map f ps)))
    (each_weak (λ q. count y (f q) ≤ count y (flat_map f ps)) (λ q. count y (f q) ≤ count y (f p ++ flat_map f ps)) ps
    (λ q h. omega (arith, count_append y (f p) (flat_map f ps))) (part_fewer f y ps))

module _ {t : ℕ} {l : Lines} {s : Settings} {o o' : Rooms} {n : ℕ} (built : Built t l s o (Accepted n) o') where
  abbrev ps : List Piece
  ps = chains s (lines_in (width_of t) l)

  pub taken : (refusal_of t l s o ≡ 0) × (n ≡ length (chains s (lines_in (width_of t) l)))
  unfolding build laid_out
  taken = accepted (refusal_of t l s o) (built_of t l s).number n (sym built.answer)

  abbrev pub let_in : Admitted t l s o
  let_in = admitted t l s o taken.0

  adds : Adds (width_of t) l.counts l.coordinates
  adds = record { two = let_in.two; sum = let_in.adds }

  pub filled_is : o' ≡ filled t l s o
  unfolding unless
  filled_is = built.rooms ∙ ap (λ (k : ℕ). unless k o (filled t l s o)) taken.0

  -- WHAT IS READ OF AN ACCEPTED CALL IS THE CHAINS OF ITS LINES
  pub call_read : read_all t l.coordinates o' n ≡ map (read_of (width_of t)) (chains s (lines_in (width_of t) l))
  unfolding filled build laid_out written
  call_read =
      (λ x. read_all t l.coordinates (filled_is x) (taken.1 x))
      ∙ chains_read t (width_of t) refl l.coordinates l.counts (lines_in (width_of t) l) ps (chains_sound s (lines_in (width_of t) l))
      (λ k. line_stands (width_of t) l.coordinates l.counts l.groups l.kinds k adds)
      (drop (length (table_of l.counts 0 0 ps)) o.table)
      (drop (length (flat_map (λ p. p.lines) ps)) o.members)
      (drop (length (flat_map (λ p. p.marks) ps)) o.marks)
      (drop (length (flat_map (λ p. p.listing) ps)) o.listing)
      (drop (length (flat (width_of t) (flat_map copy ps))) o.merged)
      (drop (length (box_numbers (stacked (map (λ p. box_of p.points) ps)))) o.boxes)
      (cleared (length l.coordinates) o.spare)
      (cleared (length l.counts * line_room) o.workspace)

  -- THE VIEW OF CHAIN k IS ITS POINTS
  pub call_viewed : (k : ℕ) → k < n → viewed t l.coordinates o'.merged o'.table k ≡ flat (width_of t) (get_or (chains s (lines_in (width_of t) l)) k nothing).points
  unfolding filled build laid_out written
  call_viewed k h =
      subst (λ (r : Rooms). viewed t l.coordinates r.merged r.table k ≡ flat (width_of t) (get_or ps k nothing).points) (sym filled_is)
      (view_read t (width_of t) refl l.coordinates l.counts (lines_in (width_of t) l) ps (chains_sound s (lines_in (width_of t) l))
      (λ k. line_stands (width_of t) l.coordinates l.counts l.groups l.kinds k adds)
      (drop (length (table_of l.counts 0 0 ps)) o.table)
      (drop (length (flat_map (λ p. p.lines) ps)) o.members)
      (drop (length (flat_map (λ p. p.marks) ps)) o.marks)
      (drop (length (flat_map (λ p. p.listing) ps)) o.listing)
      (drop (length (flat (width_of t) (flat_map copy ps))) o.merged)
      (drop (length (box_numbers (stacked (map (λ p. box_of p.points) ps)))) o.boxes)
      (cleared (length l.coordinates) o.spare)
      (cleared (length l.counts * line_room) o.workspace)
      k (omega (arith, taken.1)))

  -- A CHAIN'S LAST NUMBER IS 1 EXACTLY IF ITS COORDINATES, BY THE VIEW, ARE A LOOP, ELSE 0
  pub loop-read : (k : ℕ) → k < n → entry o'.table k 5 ≡ one (loop_of (points (width_of t) (viewed t l.coordinates o'.merged o'.table k)))
  unfolding filled build laid_out written
  loop-read k h =
      subst (λ (r : Rooms). entry r.table k 5 ≡ one (loop_of (points (width_of t) (viewed t l.coordinates r.merged r.table k)))) (sym filled_is)
      (mark_read t (width_of t) refl l.coordinates l.counts (lines_in (width_of t) l) ps (chains_sound s (lines_in (width_of t) l))
      (λ k. line_stands (width_of t) l.coordinates l.counts l.groups l.kinds k adds)
      (drop (length (table_of l.counts 0 0 ps)) o.table)
      (drop (length (flat_map (λ p. p.lines) ps)) o.members)
      (drop (length (flat_map (λ p. p.marks) ps)) o.marks)
      (drop (length (flat_map (λ p. p.listing) ps)) o.listing)
      (drop (length (flat (width_of t) (flat_map copy ps))) o.merged)
      (drop (length (box_numbers (stacked (map (λ p. box_of p.points) ps)))) o.boxes)
      (cleared (length l.coordinates) o.spare)
      (cleared (length l.counts * line_room) o.workspace)
      k (omega (arith, taken.1)) adds.two)

  members_are : flat_map (λ (c : ChainRead). c.members) (read_all t l.coordinates o' n) ≡ lines_of (chains s (lines_in (width_of t) l))
  members_are = ap (flat_map (λ (c : ChainRead). c.members)) call_read ∙ members_read (width_of t) ps

  lines_are : length (lines_in (width_of t) l) ≡ length l.counts
  lines_are = lines_length (points (width_of t) l.coordinates) l.counts l.groups l.kinds

  -- EVERY LINE STANDS IN EXACTLY ONE CHAIN, ONCE
  pub line_in_one_chain : (y : ℕ) → y < length l.counts → count y (flat_map (λ (c : ChainRead). c.members) (read_all t l.coordinates o' n)) ≡ 1
  line_in_one_chain y h = ap (count y) members_are ∙ in_one_chain s (lines_in (width_of t) l) y (omega (arith, lines_are))

  -- AND NOTHING ELSE DOES
  pub nothing_else_in_a_chain : (y : ℕ) → length l.counts ≤ y → count y (flat_map (λ (c : ChainRead). c.members) (read_all t l.coordinates o' n)) ≡ 0
  nothing_else_in_a_chain y h = ap (count y) members_are ∙ no_other_line s (lines_in (width_of t) l) y (omega (arith, lines_are))

  -- EACH CHAIN'S LISTING HAS ITS MEMBERS, and each of them once
  pub listing_has_members : (y : ℕ) → Each (λ (c : ChainRead). (count y c.listing ≡ count y c.members) × (count y c.listing ≤ 1)) (read_all t l.coordinates o' n)
  unfolding read_of
  listing_has_members y =
      rw call_read
      (each_map (read_of (width_of t)) (λ (c : ChainRead). (count y c.listing ≡ count y c.members) × (count y c.listing ≤ 1)) ps
      (each_both ps (each_weak Drawn (λ p. count y p.listing ≡ count y p.lines) ps (λ p d. d.passes y) (chains_drawn s (lines_in (width_of t) l))) (part_fewer (λ p. p.lines) y ps)))
    where
      each_both : (qs : List Piece) → Each (λ p. count y p.listing ≡ count y p.lines) qs → Each (λ p. count y p.lines ≤ count y (lines_of ps)) qs
          → Each (λ p. (count y p.listing ≡ count y p.lines) × (count y p.listing ≤ 1)) qs
      each_both qs nil nil = nil
      each_both qs (cons h a) (cons k b) =
          cons (h, omega (arith, chains_count s (lines_in (width_of t) l) y, upto_once (length (lines_in (width_of t) l)) y)) (each_both _ a b)

  -- a chain that is read is passed as its listing and its marks say
  abbrev pub ReadTravelled : ChainRead → Type 0
  ReadTravelled c = Travelled (lines_in (width_of t) l) c.members c.marks c.listing (points (width_of t) c.coordinates)

  -- THE LINES OF A CHAIN, IN THE ORDER OF ITS LISTING AND EACH AS ITS MARK SAYS, ARE ITS COORDINATES
  pub call_travelled : Each ReadTravelled (read_all t l.coordinates o' n)
  unfolding read_of
  call_travelled =
      subst (Each ReadTravelled) (sym call_read)
      (each_map (read_of (width_of t)) ReadTravelled (chains s (lines_in (width_of t) l)) (written_travelled (width_of t) s l let_in.places let_in.two))
