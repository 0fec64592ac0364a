-- What the records of the public calls tell: two answers that satisfy one record are equal, each lent slice too; and demand 3 between two pairing
-- calls, by whichever routes, as between the indexed one under the first limit and the plain one under the second.
use Prim.Native.Nat.{ℕ, zero, suc, ◌+◌, ◌*◌}
use mathlib.Core.Path.{◌≡◌, refl, sym, ◌∙◌, ap, ap₂}
use mathlib.Core.Bool.{Bool, true, not}
use mathlib.Core.List.{List, ◌++◌, map, map-append, append_assoc}
use native.Mathlib.Omega.{arith}
use lib.ListN.{length, take, drop, length-append, length-map}
use lib.Seq.{take_at}
use lib.Ieee.{le}
use Rattle.rules.specs.Answers.{Answer}
use Rattle.rules.specs.Answers.{Accepted}
use Rattle.rules.specs.Lists.{keep}
use Rattle.rules.specs.Selecting.{End, Pair, select}
use Rattle.rules.specs.Layout.{ends, listed}
use Rattle.rules.specs.Refusals.{LentEnds, pair_refusal_of}
use Rattle.rules.specs.Calls.{unless, answer_of, written, pairs_of, Paired}
use Rattle.pair_laws.specs.Taking.{listed as ranked_listed}
use Rattle.pair_laws.specs.Ends.{keyed}
use Rattle.pair_laws.specs.Demand.{Begins}
use Rattle.pair_laws.proofs.Taking as taking
use Rattle.pair_laws.proofs.Bridge.{listed_keyed}
use Rattle.pair_laws.proofs.Demand.{select_low, select_begins}

-- ---- one record, one answer

pub paired_once : (alone : Bool) (i : LentEnds) (r r' : Answer) (pairs pairs' workspace workspace' : List ℕ)
    → Paired alone i r pairs workspace → Paired alone i r' pairs' workspace' → (r ≡ r') × (pairs ≡ pairs') × (workspace ≡ workspace')
paired_once alone i r r' pairs pairs' workspace workspace' a b =
    (a.answer ∙ sym b.answer, a.pairs ∙ sym b.pairs, a.workspace ∙ sym b.workspace)

-- ---- an accepted call

-- a call that answers with a result was not refused, and the result is that of its record
pub accepted : (refusal result n : ℕ) → answer_of refusal result ≡ Accepted n → (refusal ≡ 0) × (n ≡ result)
unfolding answer_of unless
accepted zero result n e = (refl, cc)
accepted (suc k) result n e = (let z : ◌≡◌ {A = ℕ} 0 1 = cc in absurd (omega arith))

pub length_listed : (l : List Pair) → length (listed l) ≡ length l * 2
length_listed l = omega (arith, ap length (listed_keyed l), taking.length_listed (map keyed l), length-map l keyed)

listed_append : (a b : List Pair) → listed (a ++ b) ≡ listed a ++ listed b
listed_append a b =
    listed_keyed (a ++ b)
    ∙ ap ranked_listed (map-append keyed a b)
    ∙ taking.listed_append (map keyed a) (map keyed b)
    ∙ ap₂ ◌++◌ (sym (listed_keyed a)) (sym (listed_keyed b))

-- what it has written is the selected pairs
module _ (alone : Bool) (i : LentEnds) (r : Answer) (n : ℕ) (pairs workspace : List ℕ) (p : Paired alone i r pairs workspace) (e : r ≡ Accepted n) where
  taken : (pair_refusal_of alone i ≡ 0) × (n ≡ length (pairs_of i))
  taken = accepted (pair_refusal_of alone i) (length (pairs_of i)) n (sym p.answer ∙ e)

  pairs_are : pairs ≡ listed (pairs_of i) ++ drop (length (listed (pairs_of i))) i.pairs
  unfolding unless written
  pairs_are = p.pairs ∙ ap (λ (k : ℕ). unless k i.pairs (written (listed (pairs_of i)) i.pairs)) taken.0

  pub written_pairs : take (n * 2) pairs ≡ listed (pairs_of i)
  written_pairs =
      ap (take (n * 2)) pairs_are
      ∙ take_at (listed (pairs_of i)) (drop (length (listed (pairs_of i))) i.pairs) (n * 2)
      (length_listed (pairs_of i) ∙ ap (λ (k : ℕ). k * 2) (sym taken.1))

-- ---- demand 3

module _
    (alone₁ alone₂ : Bool)
    (i₁ i₂ : LentEnds)
    (present : i₁.present ≡ i₂.present)
    (directions : i₁.directions ≡ i₂.directions)
    (pieces : i₁.pieces ≡ i₂.pieces)
    (limits : le i₁.limit i₂.limit ≡ true)
    (r₁ r₂ : Answer)
    (n₁ n₂ : ℕ)
    (pairs₁ pairs₂ workspace₁ workspace₂ : List ℕ)
    (p₁ : Paired alone₁ i₁ r₁ pairs₁ workspace₁)
    (p₂ : Paired alone₂ i₂ r₂ pairs₂ workspace₂)
    (accepted₁ : r₁ ≡ Accepted n₁)
    (accepted₂ : r₂ ≡ Accepted n₂) where
  lent : List End
  lent = ends 0 i₂.present i₂.directions i₂.pieces

  first : pairs_of i₁ ≡ select i₁.limit lent
  unfolding pairs_of lent
  first = λ t. select i₁.limit (ends 0 (present t) (directions t) (pieces t))

  second : pairs_of i₂ ≡ select i₂.limit lent
  unfolding pairs_of lent
  second = refl

  low_is : pairs_of i₁ ≡ keep (λ p. le p.size i₁.limit) (pairs_of i₂)
  low_is = first ∙ select_low i₁.limit i₂.limit lent limits ∙ ap (keep (λ (p : Pair). le p.size i₁.limit)) (sym second)

  rest : List Pair
  rest = keep (λ p. not (le p.size i₁.limit)) (pairs_of i₂)

  begins_is : pairs_of i₂ ≡ pairs_of i₁ ++ rest
  unfolding rest
  begins_is =
      second
      ∙ select_begins i₁.limit i₂.limit lent limits
      ∙ ap₂ ◌++◌ (sym first) (ap (keep (λ (p : Pair). not (le p.size i₁.limit))) (sym second))

  count₁ : n₁ ≡ length (pairs_of i₁)
  count₁ = (taken alone₁ i₁ r₁ n₁ pairs₁ workspace₁ p₁ accepted₁).1

  count₂ : n₂ ≡ length (pairs_of i₂)
  count₂ = (taken alone₂ i₂ r₂ n₂ pairs₂ workspace₂ p₂ accepted₂).1

  pub demand_three : Begins i₁.limit (pairs_of i₂) n₁ n₂ pairs₁ pairs₂
  demand_three =
      record {
        fewer = omega (arith, count₁, count₂, ap length begins_is, length-append (pairs_of i₁) rest);
        all = written_pairs alone₂ i₂ r₂ n₂ pairs₂ workspace₂ p₂ accepted₂;
        low = one ∙ ap listed low_is;
        begins = two ∙ sym one;
      }
    where
      one : take (n₁ * 2) pairs₁ ≡ listed (pairs_of i₁)
      one = written_pairs alone₁ i₁ r₁ n₁ pairs₁ workspace₁ p₁ accepted₁

      after : List ℕ
      after = drop (length (listed (pairs_of i₂))) i₂.pairs

      two : take (n₁ * 2) pairs₂ ≡ listed (pairs_of i₁)
      two =
          ap (take (n₁ * 2))
          (pairs_are alone₂ i₂ r₂ n₂ pairs₂ workspace₂ p₂ accepted₂
          ∙ ap (λ (l : List ℕ). l ++ after) (ap listed begins_is ∙ listed_append (pairs_of i₁) rest)
          ∙ append_assoc (listed (pairs_of i₁)) (listed rest) after)
          ∙ take_at (listed (pairs_of i₁)) (listed rest ++ after) (n₁ * 2) (length_listed (pairs_of i₁) ∙ ap (λ (k : ℕ). k * 2) (sym count₁))
