-- What the records of the calls tell: every accepted selection, by whichever route, is the one set that is settled; an accepted question answers the number
-- of the one reason that is told; and two answers that satisfy one record are equal.
use Prim.Native.Nat.{ℕ, zero, suc, ◌*◌, ◌<◌}
use mathlib.Core.Path.{◌≡◌, refl, sym, ap, ◌∙◌}
use mathlib.Core.Bool.{Bool, true, false, not, ◌||◌}
use mathlib.Core.List.{List, [], ◌∷◌}
use native.Mathlib.Omega.{arith}
use lib.Dec.{eqb, ltb}
use lib.Ieee.{Float}
use lib.ListN.{length}
use borrow.Author.Tests.{ltb-true, eqb-false}
use Rattle.rules.specs.Answers.{Answer}
use Rattle.rules.specs.Answers.{Accepted}
use Rattle.rules.specs.Selecting.{End, select}
use Rattle.rules.specs.Layout.{listed}
use Rattle.rules.specs.Refusals.{LentEnds, first_of, pair_refusal_of, end_room}
use Rattle.rules.specs.Calls.{unless, answer_of, written, cleared, pairs_of, Paired, ends_of}
use Rattle.rules.specs.declared.Reason.{Reason}
use Rattle.rules.specs.declared.Reason.TheVariants.{Selected, SamePiece, AbsentDirection, NotQualifying, Blocked}
use Rattle.rules.specs.Reasons.{reason_number, reason_of, no_ends, why_refusal_of, Why}
use Rattle.pair_laws.specs.Ends.{ByName}
use Rattle.pair_laws.proofs.Order.{tf}
use Rattle.pair_laws.proofs.Ends.{ends_length, ends_placed}
use Rattle.pair_laws.proofs.Settled.{select_settled, select_ordered, settled_selected, selected_settled, settled_is}
use Rattle.pair_laws.proofs.Calls.{accepted, written_pairs}
use Rattle.pair_reasons.specs.Told.{Decided, Output, Answered}
use Rattle.pair_reasons.proofs.Places.{place_rises}
use Rattle.pair_reasons.proofs.Sorting.{settled_sorted}
use Rattle.pair_reasons.proofs.Telling.{told, told_is}

-- ---- every accepted selection

pub decided : (limit : Float) (l : List End) → ByName l → Decided limit l (select limit l)
decided limit l n = record {
  settled = select_settled limit l n;
  ordered = select_ordered limit l n;
  same = λ s h p. (settled_selected limit l n s h p, selected_settled limit l n s h p);
  only = settled_is limit l n;
  once_sorted = settled_sorted limit l n;
}

pub lent_named : (i : LentEnds) → ByName (ends_of i)
lent_named i = place_rises (ends_of i) (ends_placed i.present i.directions i.pieces)

pub selection_decided : (alone : Bool) (i : LentEnds) (r : Answer) (n : ℕ) (pairs workspace : List ℕ) → Paired alone i r pairs workspace → r ≡ Accepted n
    → Output i.limit (ends_of i) n pairs
unfolding pairs_of
selection_decided alone i r n pairs workspace p e = record {
  chosen = select i.limit (ends_of i);
  decided = decided i.limit (ends_of i) (lent_named i);
  number = (accepted (pair_refusal_of alone i) (length (pairs_of i)) n (sym p.answer ∙ e)).1;
  words = written_pairs alone i r n pairs workspace p e;
}

-- ---- the question

-- its number tells the reason
pub number_once : (r s : Reason) → reason_number r ≡ reason_number s → r ≡ s
unfolding reason_number
number_once Selected Selected e = refl
number_once Selected SamePiece e = absurd (omega arith)
number_once Selected AbsentDirection e = absurd (omega arith)
number_once Selected NotQualifying e = absurd (omega arith)
number_once Selected (Blocked q) e = absurd (omega arith)
number_once SamePiece Selected e = absurd (omega arith)
number_once SamePiece SamePiece e = refl
number_once SamePiece AbsentDirection e = absurd (omega arith)
number_once SamePiece NotQualifying e = absurd (omega arith)
number_once SamePiece (Blocked q) e = absurd (omega arith)
number_once AbsentDirection Selected e = absurd (omega arith)
number_once AbsentDirection SamePiece e = absurd (omega arith)
number_once AbsentDirection AbsentDirection e = refl
number_once AbsentDirection NotQualifying e = absurd (omega arith)
number_once AbsentDirection (Blocked q) e = absurd (omega arith)
number_once NotQualifying Selected e = absurd (omega arith)
number_once NotQualifying SamePiece e = absurd (omega arith)
number_once NotQualifying AbsentDirection e = absurd (omega arith)
number_once NotQualifying NotQualifying e = refl
number_once NotQualifying (Blocked q) e = absurd (omega arith)
number_once (Blocked p) Selected e = absurd (omega arith)
number_once (Blocked p) SamePiece e = absurd (omega arith)
number_once (Blocked p) AbsentDirection e = absurd (omega arith)
number_once (Blocked p) NotQualifying e = absurd (omega arith)
number_once (Blocked p) (Blocked q) e = ap Blocked (omega arith)

pub why_once : (i : LentEnds) (a b : ℕ) (r r' : Answer) (pairs pairs' workspace workspace' : List ℕ)
    → Why i a b r pairs workspace → Why i a b r' pairs' workspace' → (r ≡ r') × (pairs ≡ pairs') × (workspace ≡ workspace')
why_once i a b r r' pairs pairs' workspace workspace' x y =
    (x.answer ∙ sym y.answer, x.pairs ∙ sym y.pairs, x.workspace ∙ sym y.workspace)

-- the refusal is the plain route's, and then 26
pub refusal_plain : (i : LentEnds) (a b k : ℕ) → pair_refusal_of false i ≡ suc k → why_refusal_of i a b ≡ suc k
unfolding why_refusal_of unless
refusal_plain i a b k e = rw e refl

pub refusal_ends : (i : LentEnds) (a b : ℕ) → pair_refusal_of false i ≡ 0 → why_refusal_of i a b ≡ first_of ((26, no_ends (length i.pieces) a b) ∷ [])
unfolding why_refusal_of unless
refusal_ends i a b e = rw e refl

no_refusal : (i : LentEnds) (a b : ℕ) → why_refusal_of i a b ≡ 0 → (pair_refusal_of false i ≡ 0) × (no_ends (length i.pieces) a b ≡ false)
unfolding why_refusal_of unless first_of
no_refusal i a b e = go (pair_refusal_of false i) (no_ends (length i.pieces) a b) e
  where
    go : (k : ℕ) (t : Bool) → unless k k (first_of ((26, t) ∷ [])) ≡ 0 → (k ≡ 0) × (t ≡ false)
    go zero true e = absurd (omega arith)
    go zero false e = (refl, refl)
    go (suc k) t e = absurd (omega arith)

pub two_ends : (d a b : ℕ) → no_ends d a b ≡ false → (a < d) × (b < d) × (a ≡ b → ⊥)
unfolding no_ends
two_ends d a b e = go (ltb a d) (ltb b d) (eqb a b) refl refl refl e
  where
    go : (s t u : Bool) → ltb a d ≡ s → ltb b d ≡ t → eqb a b ≡ u → (not s || (not t || u)) ≡ false → (a < d) × (b < d) × (a ≡ b → ⊥)
    go true true false h k m e = (ltb-true a d h, ltb-true b d k, eqb-false a b m)
    go true true true h k m e = absurd (tf refl e)
    go true false u h k m e = absurd (tf refl e)
    go false t u h k m e = absurd (tf refl e)

module _ (i : LentEnds) (a b : ℕ) (r : Answer) (n : ℕ) (pairs workspace : List ℕ) (w : Why i a b r pairs workspace) (e : r ≡ Accepted n) where
  taken : (why_refusal_of i a b ≡ 0) × (n ≡ reason_number (reason_of i a b))
  taken = accepted (why_refusal_of i a b) (reason_number (reason_of i a b)) n (sym w.answer ∙ e)

  -- the pairs and the workspace are as the plain route leaves them
  pub why_plain : Paired false i (Accepted (length (pairs_of i))) pairs workspace
  unfolding answer_of unless
  why_plain =
      let z = (no_refusal i a b taken.0).0 in
      record {
        answer = sym (ap (λ (k : ℕ). answer_of k (length (pairs_of i))) z);
        pairs = w.pairs ∙ ap (λ (k : ℕ). unless k i.pairs (written (listed (pairs_of i)) i.pairs)) (taken.0 ∙ sym z);
        workspace = w.workspace ∙ ap (λ (k : ℕ). unless k i.workspace (cleared (length i.pieces * end_room) i.workspace)) (taken.0 ∙ sym z);
      }

  pub why_answered : Answered i a b n pairs
  unfolding reason_of pairs_of
  why_answered =
      let t = two_ends (length i.pieces) a b (no_refusal i a b taken.0).1 in
      let long = ends_length 0 i.present i.directions i.pieces in
      let placed = ends_placed i.present i.directions i.pieces in
      let a<d : a < length (ends_of i) = omega (arith, t.0, long) in
      let b<d : b < length (ends_of i) = omega (arith, t.1, long) in
      record {
        two_ends = t;
        names = (placed.placed a a<d, placed.placed b b<d);
        because = reason_of i a b;
        number = taken.1;
        true_of = told i.limit (ends_of i) (lent_named i) a b a<d b<d t.2;
        alone = told_is i.limit (ends_of i) (lent_named i) a b a<d b<d t.2;
        output = selection_decided false i (Accepted (length (pairs_of i))) (length (pairs_of i)) pairs workspace why_plain refl;
      }
