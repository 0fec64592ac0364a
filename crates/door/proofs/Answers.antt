-- One call has one number at the door, and leaves each lent slice in one way.
use Prim.Native.Nat.{ℕ, zero, suc}
use mathlib.Core.Path.{◌≡◌, sym, subst, ap, ◌∙◌}
use mathlib.Core.Bool.{Bool}
use mathlib.Core.List.{List}
use native.Mathlib.Omega.{arith}
use Rattle.rules.specs.Answers.{Answer}
use Rattle.rules.specs.declared.Settings.{Settings}
use Rattle.rules.specs.Layout.{Lines}
use Rattle.rules.specs.Refusals.{Rooms, LentEnds, refusal_of, pair_refusal_of, chain_refusal_of}
use Rattle.rules.specs.Calls.{unless, answer_of, asked, viewed, Built, built_of, Paired, pairs_of, Numbered, number_of}
use Rattle.rules.specs.Reasons.{reason_number, reason_of, why_refusal_of, Why}
use Rattle.pair_laws.proofs.Calls.{paired_once}
use Rattle.pair_reasons.proofs.Calls.{why_once}
use Rattle.build_chains.proofs.Built.{built_once}
use lib.ListN.{length}

-- ---- one number

pub numbered_once : {P Q : Answer → Type 0} {r r' : ℕ} → ((a b : Answer) → P a → Q b → a ≡ b) → Numbered P r → Numbered Q r' → r ≡ r'
numbered_once same a b = a.number ∙ ap number_of (same a.answer b.answer a.determined b.determined) ∙ sym b.number

pub one_building : {t : ℕ} {l : Lines} {s : Settings} {o : Rooms} {r r' : ℕ} {o₁ o₂ : Rooms}
    → Numbered (λ a. Built t l s o a o₁) r → Numbered (λ a. Built t l s o a o₂) r' → (r ≡ r') × (o₁ ≡ o₂)
one_building a b = (numbered_once (λ x y p q. (built_once p q).0) a b, (built_once a.determined b.determined).1)

pub one_pairing : (alone : Bool) (i : LentEnds) (r r' : ℕ) (pairs pairs' workspace workspace' : List ℕ)
    → Numbered (λ a. Paired alone i a pairs workspace) r
    → Numbered (λ a. Paired alone i a pairs' workspace') r'
    → (r ≡ r') × (pairs ≡ pairs') × (workspace ≡ workspace')
one_pairing alone i r r' pairs pairs' workspace workspace' a b =
    let same = paired_once alone i _ _ pairs pairs' workspace workspace' a.determined b.determined in
    (numbered_once (λ x y p q. (paired_once alone i x y pairs pairs' workspace workspace' p q).0) a b, same.1, same.2)

pub one_why : (i : LentEnds) (a b r r' : ℕ) (pairs pairs' workspace workspace' : List ℕ)
    → Numbered (λ s. Why i a b s pairs workspace) r
    → Numbered (λ s. Why i a b s pairs' workspace') r'
    → (r ≡ r') × (pairs ≡ pairs') × (workspace ≡ workspace')
one_why i a b r r' pairs pairs' workspace workspace' x y =
    let same = why_once i a b _ _ pairs pairs' workspace workspace' x.determined y.determined in
    (numbered_once (λ s t p q. (why_once i a b s t pairs pairs' workspace workspace' p q).0) x y, same.1, same.2)

-- the chain question and the view are equations: one number, and one list of coordinates
pub one_question : (t : ℕ) (input merged table : List ℕ) (k : ℕ) {r r' : ℕ}
    → r ≡ number_of (asked t input merged table k) → r' ≡ number_of (asked t input merged table k) → r ≡ r'
one_question t input merged table k a b = a ∙ sym b

pub one_view : (t : ℕ) (input merged table : List ℕ) (k : ℕ) {v v' : List ℕ}
    → v ≡ viewed t input merged table k → v' ≡ viewed t input merged table k → v ≡ v'
one_view t input merged table k a b = a ∙ sym b
