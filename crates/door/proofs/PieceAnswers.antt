-- The two calls that part building: each has one number at the door and leaves each lent slice in one way. And what building
-- answers at the door is what the first and then the second answer.
use Prim.Native.Nat.{ℕ, ◌≤◌}
use mathlib.Core.Path.{◌≡◌, sym, ap, subst, ◌∙◌}
use lib.Ieee.{Float}
use lib.ListN.{length}
use Rattle.rules.specs.Answers.{Answer}
use Rattle.rules.specs.Answers.{Accepted}
use Rattle.rules.specs.declared.Settings.{Settings}
use Rattle.rules.specs.Layout.{Lines}
use Rattle.rules.specs.Types.{width_of}
use Rattle.rules.specs.Refusals.{Rooms}
use Rattle.rules.specs.Calls.{Built, Numbered, number_of}
use Rattle.rules.specs.Pieces.{LentPieces, left_of, finished_of, FirstRooms, first_refusal_of, FirstLeft, FinishRooms, finish_refusal_of, Finished}
use Rattle.lent_calls.specs.Parted.{SameRooms, lent_from}
use Rattle.lent_calls.proofs.FirstCall.{first_once}
use Rattle.lent_calls.proofs.SecondCall.{finish_once}
use Rattle.lent_calls.proofs.Parted.{one_is_two}
use Rattle.door.proofs.Answers.{numbered_once}

pub one_first : {t : ℕ} {l : Lines} {switch : ℕ} {limit : Float} {o : FirstRooms} {r r' : ℕ} {o₁ o₂ : FirstRooms}
    → Numbered (λ a. FirstLeft t l switch limit o a o₁) r → Numbered (λ a. FirstLeft t l switch limit o a o₂) r' → (r ≡ r') × (o₁ ≡ o₂)
one_first a b = (numbered_once (λ x y p q. (first_once p q).0) a b, (first_once a.determined b.determined).1)

pub one_finish : {t : ℕ} {l : Lines} {p : LentPieces} {s : Settings} {o : FinishRooms} {r r' : ℕ} {o₁ o₂ : FinishRooms}
    → Numbered (λ a. Finished t l p s o a o₁) r → Numbered (λ a. Finished t l p s o a o₂) r' → (r ≡ r') × (o₁ ≡ o₂)
one_finish a b = (numbered_once (λ x y p q. (finish_once p q).0) a b, (finish_once a.determined b.determined).1)

-- ONE CALL AT THE DOOR, AND TWO: where the first is accepted with k pieces
pub building_parted : (t : ℕ) (l : Lines) (s : Settings) {f f' : FirstRooms} {k r r' : ℕ} {o o' : Rooms} {g g' : FinishRooms}
    → FirstLeft t l s.switch s.limit f (Accepted k) f' → SameRooms o g → length l.coordinates ≤ length o.spare
    → Numbered (λ a. Built t l s o a o') r → Numbered (λ a. Finished t l (lent_from f' k) s g a g') r'
    → (r ≡ r') × SameRooms o' g'
building_parted t l s F R spare B C =
    let same = one_is_two t l s F R spare B.determined C.determined in
    (B.number ∙ ap number_of same.0 ∙ sym C.number, same.1)
