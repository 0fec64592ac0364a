-- The check of chains made elsewhere at the door: one call has one number and leaves the workspace in one way.
use Prim.Native.Nat.{ℕ}
use mathlib.Core.Path.{◌≡◌, sym, subst}
use mathlib.Core.List.{List}
use Rattle.rules.specs.Answers.{Answer}
use Rattle.rules.specs.Calls.{Numbered}
use Rattle.rules.specs.Check.{Delivery, check_refusal_of, Checked}
use Rattle.check_calls.proofs.Ladder.{checked_once}
use Rattle.door.proofs.Answers.{numbered_once}

pub one_check : {i : Delivery} {r r' : ℕ} {workspace₁ workspace₂ : List ℕ}
    → Numbered (λ a. Checked i a workspace₁) r → Numbered (λ a. Checked i a workspace₂) r' → (r ≡ r') × (workspace₁ ≡ workspace₂)
one_check a b = (numbered_once (λ x y p q. (checked_once p q).0) a b, (checked_once a.determined b.determined).1)
