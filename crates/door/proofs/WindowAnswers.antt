-- The window question at the door: one call has one number and leaves the listing in one way.
use Prim.Native.Nat.{ℕ}
use mathlib.Core.Path.{◌≡◌, sym, subst}
use mathlib.Core.List.{List}
use lib.ListN.{length}
use Rattle.rules.specs.Answers.{Answer}
use Rattle.rules.specs.Calls.{Numbered}
use Rattle.rules.specs.Windows.{LentBoxes, window_refusal_of, found_of, Windowed}
use Rattle.box_laws.proofs.Calls.{windowed_once}
use Rattle.door.proofs.Answers.{numbered_once}

pub one_window : {i : LentBoxes} {r r' : ℕ} {found₁ found₂ : List ℕ}
    → Numbered (λ a. Windowed i a found₁) r → Numbered (λ a. Windowed i a found₂) r' → (r ≡ r') × (found₁ ≡ found₂)
one_window a b = (numbered_once (λ x y p q. (windowed_once p q).0) a b, (windowed_once a.determined b.determined).1)
