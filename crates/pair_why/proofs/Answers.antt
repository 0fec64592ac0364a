-- From the plain route's call to the record of the question: refused by either, nothing is touched; accepted, the pairs that were written are those that the
-- reason looks at.
use Prim.Native.Nat.{ℕ, zero, suc, ◌*◌, ◌≤◌}
use mathlib.Core.Path.{◌≡◌, refl, sym, ap, ◌∙◌}
use mathlib.Core.Bool.{Bool, true, false}
use mathlib.Core.List.{List, [], ◌∷◌}
use native.Mathlib.Omega.{arith}
use lib.ListN.{length, take}
use Rattle.rules.specs.Answers.{Answer}
use Rattle.rules.specs.Answers.{Accepted, Refused}
use Rattle.rules.specs.Layout.{listed}
use Rattle.rules.specs.Refusals.{LentEnds, first_of, pair_refusal_of, most_ends, end_room}
use Rattle.rules.specs.Calls.{unless, answer_of, written, cleared, ends_of, pairs_of}
use Rattle.rules.specs.declared.Reason.{Reason}
use Rattle.rules.specs.Reasons.{reason_number, reason_of, no_ends, why_refusal_of, Why}
use Rattle.float_order.specs.Key.{key}
use Rattle.pair_laws.specs.Ends.{node_of}
use Rattle.pair_laws.proofs.Refusals.{admitted, limit_number}
use Rattle.pair_laws.proofs.Ends.{ends_length, paired_count}
use Rattle.pair_laws.proofs.Room.{ranked_room}
use Rattle.pair_laws.proofs.Calls.{accepted, length_listed, written_pairs}
use Rattle.pair_refusals.specs.Ladder.{pair_refusal_by}
use Rattle.pair_refusals.proofs.Ladder.{refusal_by}
use Rattle.pair_reasons.proofs.Calls.{two_ends, refusal_plain, refusal_ends}
use Rattle.pair_why.specs.Looking.{Questioned, reason_here, Called}

-- ---- refused

module _ (i : LentEnds) (a b : ℕ) where
  refused_with : (k : ℕ) → suc k ≡ why_refusal_of i a b → Why i a b (Refused (suc k)) i.pairs i.workspace
  unfolding answer_of unless
  refused_with k e = record {
    answer = ap (λ (m : ℕ). answer_of m (reason_number (reason_of i a b))) e;
    pairs = ap (λ (m : ℕ). unless m i.pairs (written (listed (pairs_of i)) i.pairs)) e;
    workspace = ap (λ (m : ℕ). unless m i.workspace (cleared (length i.pieces * end_room) i.workspace)) e;
  }

  -- what the plain route refuses, by what it looks at
  abbrev plainly : ℕ
  plainly = pair_refusal_by false i.present i.directions i.pieces i.limit (length i.pairs) (length i.workspace)

  -- as the plain route
  pub refused_plain : (r : ℕ) → r ≡ plainly → (r ≡ 0 → ⊥) → Why i a b (Refused r) i.pairs i.workspace
  refused_plain zero e d = absurd (d refl)
  refused_plain (suc k) e d = refused_with k (sym (refusal_plain i a b k (refusal_by false i ∙ sym e)))

  -- and then for the ends
  pub refused_ends : (r : ℕ) → r ≡ plainly → r ≡ 0 → no_ends (length i.pieces) a b ≡ true → Why i a b (Refused 26) i.pairs i.workspace
  unfolding first_of
  refused_ends r e z n = refused_with 25 (sym (refusal_ends i a b (refusal_by false i ∙ sym e ∙ z) ∙ ap (λ (t : Bool). first_of ((26, t) ∷ [])) n))

-- ---- two ends

same_refusal : (i : LentEnds) (a b : ℕ) → no_ends (length i.pieces) a b ≡ false → pair_refusal_of false i ≡ why_refusal_of i a b
unfolding first_of
same_refusal i a b n = go (pair_refusal_of false i) refl
  where
    go : (k : ℕ) → pair_refusal_of false i ≡ k → pair_refusal_of false i ≡ why_refusal_of i a b
    go zero e = e ∙ sym (refusal_ends i a b e ∙ ap (λ (t : Bool). first_of ((26, t) ∷ [])) n)
    go (suc k) e = e ∙ sym (refusal_plain i a b k e)

module _ {i : LentEnds} {a b : ℕ} {r : Answer} {pairs workspace : List ℕ} (k : Called i a b r pairs workspace) where
  -- pairs and workspace are as by the plain route, whatever the answer
  with_answer : (s : Answer) → s ≡ answer_of (why_refusal_of i a b) (reason_number (reason_of i a b)) → Why i a b s pairs workspace
  with_answer s e = record {
    answer = e;
    pairs = k.paired.pairs ∙ ap (λ (m : ℕ). unless m i.pairs (written (listed (pairs_of i)) i.pairs)) (same_refusal i a b k.two_ends);
    workspace = k.paired.workspace ∙ ap (λ (m : ℕ). unless m i.workspace (cleared (length i.pieces * end_room) i.workspace)) (same_refusal i a b k.two_ends);
  }

  pub passed_on : {n : ℕ} → r ≡ Refused n → Why i a b (Refused n) pairs workspace
  unfolding answer_of unless
  passed_on {n} e =
      with_answer (Refused n) (go (pair_refusal_of false i) (sym e ∙ k.paired.answer) ∙ ap (λ (m : ℕ). answer_of m (reason_number (reason_of i a b))) (same_refusal i a b k.two_ends))
    where
      go : (m : ℕ) → Refused n ≡ answer_of m (length (pairs_of i)) → Refused n ≡ answer_of m (reason_number (reason_of i a b))
      go zero f = (let z : ◌≡◌ {A = ℕ} 0 1 = cc in absurd (omega arith))
      go (suc m) f = f

  module _ {c : ℕ} (e : r ≡ Accepted c) where
    free : (pair_refusal_of false i ≡ 0) × (c ≡ length (pairs_of i))
    free = accepted (pair_refusal_of false i) (length (pairs_of i)) c (sym k.paired.answer ∙ e)

    words : take (c * 2) pairs ≡ listed (pairs_of i)
    words = written_pairs false i r c pairs workspace k.paired e

    -- two numbers a pair, and no more than there are ends
    fitting_words : c * 2 ≤ length i.pieces
    unfolding pairs_of
    fitting_words =
        omega (
          arith,
          free.1,
          paired_count i.present i.directions i.pieces i.limit k.fitting (limit_number i.limit (admitted false i free.0).limited),
          ranked_room (node_of (ends_of i)) (key i.limit),
          ends_length 0 i.present i.directions i.pieces,
        )

    pub few_words : c * 2 ≤ most_ends
    few_words = omega (arith, fitting_words, (admitted false i free.0).number)

    pub words_there : c * 2 ≡ length (take (c * 2) pairs)
    words_there = omega (arith, ap length words, length_listed (pairs_of i), free.1)

    pub words_within : c * 2 ≤ length pairs
    words_within = long (c * 2) pairs (sym words_there)
      where
        long : (n : ℕ) (l : List ℕ) → length (take n l) ≡ n → n ≤ length l
        long zero l h = omega arith
        long (suc n) [] h = absurd (omega arith)
        long (suc n) (x ∷ l) h = (let t = long n l (omega arith) in omega (arith, t))

    pub asks : Questioned i.present i.directions i.pieces i.limit (take (c * 2) pairs) a b
    unfolding pairs_of
    asks =
        let d = admitted false i free.0 in
        let t = two_ends (length i.pieces) a b k.two_ends in
        record {
          few = d.number;
          marked = d.marked;
          directed = d.directed;
          first = t.0;
          second = t.1;
          short = omega (arith, words_there, fitting_words);
          words_are = words;
        }

    pub answered_by : (w : Reason) (q : ℕ) → w ≡ reason_here i.present i.directions i.pieces i.limit a b → q ≡ reason_number w
        → Why i a b (Accepted q) pairs workspace
    unfolding reason_here reason_of pairs_of answer_of unless
    answered_by w q f g =
        with_answer (Accepted q)
        (ap Accepted (g ∙ ap reason_number f) ∙ ap (λ (m : ℕ). answer_of m (reason_number (reason_of i a b))) (sym free.0 ∙ same_refusal i a b k.two_ends))
