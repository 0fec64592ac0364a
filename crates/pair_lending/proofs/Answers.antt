-- From what a route leaves to the book's record of a pairing call: what a call does that isn't refused, step by step, and what a refused one answers.
use Prim.Native.Nat.{ℕ, zero, suc, ◌+◌, ◌*◌, ◌≤◌, ◌<◌}
use mathlib.Core.Path.{◌≡◌, refl, sym, ◌∙◌, ap, ap₂}
use mathlib.Core.Bool.{Bool}
use mathlib.Core.Logic.{inl, inr}
use mathlib.Core.List.{List, [], ◌∷◌, ◌++◌, map}
use native.Mathlib.Omega.{arith}
use lib.Dec.{T}
use lib.Ieee.{Float, binary64, fits}
use lib.ListN.{length, get_or, drop, replicate, length-append, length-drop, length-map}
use lib.Seq.{slice}
use Rattle.rules.specs.Answers.{Accepted, Refused}
use Rattle.rules.specs.Selecting.{End}
use Rattle.rules.specs.Layout.{ends, listed}
use Rattle.rules.specs.Refusals.{LentEnds, end_room, pair_refusal_of}
use Rattle.rules.specs.Calls.{unless, answer_of, written, cleared, pairs_of, Paired}
use Rattle.float_bits.specs.Bits.{bits_of}
use Rattle.float_order.specs.Key.{key}
use Rattle.pair_laws.specs.Ranked.{RankedPair, Node, select}
use Rattle.pair_laws.specs.Sets.{In}
use Rattle.pair_laws.specs.Taking as taking
use Rattle.pair_laws.specs.Ends.{node_of}
use Rattle.pair_laws.proofs.Taking.{length_listed}
use Rattle.pair_laws.proofs.Laws.{in_candidates, select_settled}
use Rattle.pair_laws.proofs.Room.{ranked_room}
use Rattle.pair_laws.proofs.Refusals.{admitted, limit_number}
use Rattle.pair_laws.proofs.Ends.{paired_count, paired_listed}
use Rattle.point_slices.proofs.Laws.{drop_beyond}
use Rattle.pair_ends.specs.Blocks.{pairs_from}
use Rattle.pair_ends.specs.Ends.{EndsRoom, Selected, ends_in}
use Rattle.pair_ends.proofs.Reading.{get_d_slice, ends_in_length}
use Rattle.pair_lending.specs.Lent.{lent_words, Matched, Put, Takeable}

-- ---- the ends in the workspace

-- a call that isn't refused lends a mark and two numbers for each end, and room
pub matched : (alone : Bool) (i : LentEnds) → pair_refusal_of alone i ≡ 0 → Matched i.workspace i.present i.directions i.pieces
matched alone i z =
    let a = admitted alone i z in
    record { room = record { few = a.number; long = a.workroom }; marked = a.marked; directed = a.directed }

module _ {w' w present : List ℕ} {directions : List Float} {pieces : List ℕ} (m : Matched w present directions pieces) (p : Put w' w present directions pieces) where
  lent_length : length (lent_words present directions pieces) ≡ length pieces * pairs_from
  unfolding lent_words
  lent_length =
      omega (
        arith,
        length-append (present ++ map bits_of directions) pieces,
        length-append present (map bits_of directions),
        length-map directions bits_of,
        m.marked,
        m.directed,
      )

  -- beyond the room the workspace is as it was, and it is as long
  pub put_beyond : drop (length pieces * end_room) w' ≡ drop (length pieces * end_room) w
  unfolding written
  put_beyond =
      ap (drop (length pieces * end_room)) p.list
      ∙ drop_beyond (lent_words present directions pieces) w (length (lent_words present directions pieces)) (length pieces * end_room) refl (omega (arith, lent_length))

  pub put_room : EndsRoom w' (length pieces)
  unfolding written
  put_room = record {
    few = m.room.few;
    long =
        omega (
          arith,
          ap length p.list,
          length-append (lent_words present directions pieces) (drop (length (lent_words present directions pieces)) w),
          length-drop (length (lent_words present directions pieces)) w,
          lent_length,
          m.room.long,
        );
  }

-- ---- the pairs out of it

listed_below : (d : ℕ) (l : List RankedPair) → ((q : RankedPair) → In q l → (q.i < d) × (q.j < d)) → (i : ℕ) → i < length (taking.listed l) → get_or (taking.listed l) i 0 < d
unfolding taking.listed
listed_below d [] h i k = absurd (omega arith)
listed_below d (p ∷ l) h zero k = (h p (inl refl)).0
listed_below d (p ∷ l) h (suc zero) k = (h p (inl refl)).1
listed_below d (p ∷ l) h (suc (suc i)) k = listed_below d l (λ q m. h q (inr m)) i (omega arith)

-- a pair's ends are places of the node
selected_below : (n : Node) (limit i : ℕ) → i < length (taking.listed (select n limit)) → get_or (taking.listed (select n limit)) i 0 < n.d
selected_below n limit =
    listed_below n.d (select n limit) (λ q m.
    let e = (in_candidates n limit q ((select_settled n limit).within q m)).0 in
    (omega (arith, e.lower, e.below), e.below))

module _ {w w' : List ℕ} {d limit r : ℕ} (room : EndsRoom w d) (s : Selected w d limit r w') where
  node : Node
  node = node_of (ends_in w d)

  node_length : length (ends_in w d) ≡ d
  node_length = ends_in_length w d (omega (arith, room.long))

  -- at most as many words as ends
  pub few_words : r * 2 ≤ d
  unfolding node
  few_words = omega (arith, ranked_room node limit, s.count, node_length)

  words : length (taking.listed (select node limit)) ≡ r + r
  unfolding node
  words = omega (arith, length_listed (select node limit), s.count)

  -- each of them is below d, and so a number of 32 binary digits
  pub takeable : length w' ≡ length w → (pairs : List ℕ) → d ≤ length pairs → Takeable w' (d * pairs_from) (r * 2) pairs
  unfolding node
  takeable long pairs h = record {
    within = omega (arith, few_words, room.long);
    room = omega (arith, few_words);
    small = λ i k.
        omega (
          arith,
          get_d_slice (d * pairs_from) (d * pairs_from + r * 2) w' i (omega arith),
          ap (λ (l : List ℕ). get_or l i 0) s.pairs,
          selected_below node limit i (omega (arith, words)),
          node_length,
          room.few,
        );
  }

-- ---- the record

accepted_is : (refusal n result : ℕ) → refusal ≡ 0 → n ≡ result → Accepted n ≡ answer_of refusal result
unfolding answer_of unless
accepted_is refusal n result z e = ap Accepted e ∙ sym (ap (λ (k : ℕ). answer_of k result) z)

after_is : (refusal : ℕ) (before after : List ℕ) → refusal ≡ 0 → after ≡ unless refusal before after
unfolding unless
after_is refusal before after z = sym (ap (λ (k : ℕ). unless k before after) z)

-- a refused call answers with its number and stores nothing
pub refused : (alone : Bool) (i : LentEnds) (r : ℕ) → r ≡ pair_refusal_of alone i → (r ≡ 0 → ⊥) → Paired alone i (Refused r) i.pairs i.workspace
refused alone i r e d = go r e d
  where
    go : (k : ℕ) → k ≡ pair_refusal_of alone i → (k ≡ 0 → ⊥) → Paired alone i (Refused k) i.pairs i.workspace
    go zero e d = absurd (d refl)
    go (suc k) e d = record {
      answer = unfold answer_of unless in ap (λ (m : ℕ). answer_of m (length (pairs_of i))) e;
      pairs = unfold unless in ap (λ (m : ℕ). unless m i.pairs (written (listed (pairs_of i)) i.pairs)) e;
      workspace = unfold unless in ap (λ (m : ℕ). unless m i.workspace (cleared (length i.pieces * end_room) i.workspace)) e;
    }

-- one that isn't puts the ends into its workspace, has a route select, takes the pairs out, and clears what it used
module _
    (alone : Bool)
    (i : LentEnds)
    (z : pair_refusal_of alone i ≡ 0)
    (fitting : T (fits binary64 i.limit))
    {w₁ w₂ pairs' workspace' : List ℕ}
    {n : ℕ}
    (p : Put w₁ i.workspace i.present i.directions i.pieces)
    (s : Selected w₁ (length i.pieces) (key i.limit) n w₂)
    (taken : pairs' ≡ slice (length i.pieces * pairs_from) (length i.pieces * pairs_from + n * 2) w₂ ++ drop (n * 2) i.pairs)
    (clean : workspace' ≡ cleared (length i.pieces * end_room) w₂) where
  lent : List End
  lent = ends 0 i.present i.directions i.pieces

  chosen : List RankedPair
  unfolding lent
  chosen = select (node_of lent) (key i.limit)

  same : select (node_of (ends_in w₁ (length i.pieces))) (key i.limit) ≡ chosen
  unfolding chosen lent
  same = ap (λ (l : List End). select (node_of l) (key i.limit)) p.held

  count_is : n ≡ length (pairs_of i)
  unfolding pairs_of chosen lent
  count_is =
      s.count ∙ ap length same
      ∙ sym (paired_count i.present i.directions i.pieces i.limit fitting (limit_number i.limit (admitted alone i z).limited))

  words_are : slice (length i.pieces * pairs_from) (length i.pieces * pairs_from + n * 2) w₂ ≡ listed (pairs_of i)
  unfolding pairs_of chosen lent
  words_are =
      s.pairs ∙ ap taking.listed same
      ∙ sym (paired_listed i.present i.directions i.pieces i.limit fitting (limit_number i.limit (admitted alone i z).limited))

  words_number : n * 2 ≡ length (listed (pairs_of i))
  words_number =
      omega (
        arith,
        ap length (sym s.pairs ∙ words_are),
        length_listed (select (node_of (ends_in w₁ (length i.pieces))) (key i.limit)),
        s.count,
      )

  pub accepted : Paired alone i (Accepted n) pairs' workspace'
  accepted = record {
    answer = accepted_is (pair_refusal_of alone i) n (length (pairs_of i)) z count_is;
    pairs =
        unfold written in
        (taken ∙ ap₂ (λ (l : List ℕ) (k : ℕ). l ++ drop k i.pairs) words_are words_number)
        ∙ after_is (pair_refusal_of alone i) i.pairs (written (listed (pairs_of i)) i.pairs) z;
    workspace =
        unfold cleared in
        (clean ∙ ap (λ (l : List ℕ). replicate (length i.pieces * end_room) 0 ++ l) (s.beyond ∙ put_beyond (matched alone i z) p))
        ∙ after_is (pair_refusal_of alone i) i.workspace (cleared (length i.pieces * end_room) i.workspace) z;
  }
