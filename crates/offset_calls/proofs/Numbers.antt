-- A renumbered refusal: what it is, and that it refuses where the other did.
use Prim.Native.Nat.{ℕ, zero, suc, ◌≤◌, ◌<◌}
use mathlib.Core.Path.{◌≡◌, refl, sym, ap, ap₂, ◌∙◌}
use mathlib.Core.Bool.{Bool, true, false, cond}
use native.Mathlib.Omega.{arith}
use lib.Dec.{ltb, eqb}
use borrow.Author.Tests.{lt-ltb, le-ltb, ne_eqb}
use Rattle.std.specs.declared.result.Result.{Result}
use Rattle.std.specs.Prelude.{Ok, Err}
use denote.Enum.Bare.{sameb}
use Rattle.rules.specs.contracts.Refusal.{the_type}
use Rattle.rules.specs.declared.Refusal.{Refusal}
use Rattle.rules.specs.declared.Refusal.TheVariants.{BadLimit, TooMany, TablesDiffer, MarkAboveOne, CountsDoNotAddUp, TooManyCoordinates, RoomTooShort, PieceTooOften, NotFinite, NoSuchChain, BadByteOrder, BadType, BadLength, RecordRoomTooShort, NoPlace, UnknownOrder, BadOrigin, BadWindow, BadPieces, DistrictOverLines, DistrictOverCoordinates, BadOffset, BadRecord, NotAcceptable, MixedTypes, NoTwoEnds}
use Rattle.rules.specs.Answers.{Answer, answered, refusal_number}
use Rattle.rules.specs.Answers.{Accepted, Refused}
use Rattle.rules.specs.Calls.{unless, answer_of}
use Rattle.offset_calls.specs.Renumbered.{renumber, renumbered}

-- another number than 6 stays
pub stays : (switch k : ℕ) → eqb k 6 ≡ false → k ≡ renumber switch k
unfolding renumber
stays switch k e = go (ltb 1 switch) (eqb k 6) e
  where
    go : (s t : Bool) → t ≡ false → k ≡ cond s k (cond t 22 k)
    go true t e = refl
    go false t e = sym (ap (λ (t : Bool). cond t 22 k) e)

-- with a switch above 1 every number does
pub stays_all : (switch k : ℕ) → ltb 1 switch ≡ true → k ≡ renumber switch k
unfolding renumber
stays_all switch k e = sym (ap (λ (s : Bool). cond s k (cond (eqb k 6) 22 k)) e)

pub six : (switch : ℕ) → ltb 1 switch ≡ false → 22 ≡ renumber switch 6
unfolding renumber
six switch e = sym (ap (λ (s : Bool). cond s 6 22) e)

-- ---- a call is refused under both numbers, or under neither

pub as_before : {A : Type 0} (switch k : ℕ) (a b : A) → unless (renumber switch k) a b ≡ unless k a b
unfolding unless renumber
as_before {A} switch zero a b = go (ltb 1 switch)
  where
    go : (s : Bool) → unless (cond s 0 0) a b ≡ b
    go true = refl
    go false = refl
as_before {A} switch (suc k) a b = go (ltb 1 switch) (eqb (suc k) 6)
  where
    go : (s t : Bool) → unless (cond s (suc k) (cond t 22 (suc k))) a b ≡ a
    go true t = refl
    go false true = refl
    go false false = refl

pub answers : (switch k n : ℕ) → answer_of (renumber switch k) n ≡ renumbered switch (answer_of k n)
unfolding answer_of unless renumbered
answers switch k n = as_before switch k (Refused (renumber switch k)) (Accepted n) ∙ go k
  where
    go : (k : ℕ) → unless k (Refused (renumber switch k)) (Accepted n) ≡ renumbered switch (unless k (Refused k) (Accepted n))
    go zero = refl
    go (suc k) = refl

pub accepted_before : (switch k : ℕ) → renumber switch k ≡ 0 → k ≡ 0
unfolding renumber
accepted_before switch zero e = refl
accepted_before switch (suc k) e = go (ltb 1 switch) (eqb (suc k) 6) e
  where
    go : (s t : Bool) → cond s (suc k) (cond t 22 (suc k)) ≡ 0 → suc k ≡ 0
    go true t e = e
    go false true e = absurd (omega arith)
    go false false e = e

-- ---- the refusals of the code

-- 6 is the number of one refusal
same_number : (k : Refusal) → eqb (refusal_number k) 6 ≡ sameb the_type k BadLimit
same_number TooMany = refl
same_number TablesDiffer = refl
same_number MarkAboveOne = refl
same_number CountsDoNotAddUp = refl
same_number TooManyCoordinates = refl
same_number BadLimit = refl
same_number RoomTooShort = refl
same_number PieceTooOften = refl
same_number NotFinite = refl
same_number NoSuchChain = refl
same_number BadByteOrder = refl
same_number BadType = refl
same_number BadLength = refl
same_number RecordRoomTooShort = refl
same_number NoPlace = refl
same_number UnknownOrder = refl
same_number BadOrigin = refl
same_number BadWindow = refl
same_number BadPieces = refl
same_number DistrictOverLines = refl
same_number DistrictOverCoordinates = refl
same_number BadOffset = refl
same_number BadRecord = refl
same_number NotAcceptable = refl
same_number MixedTypes = refl
same_number NoTwoEnds = refl

pub turned : (switch : ℕ) (k : Refusal) → switch ≤ 1 → sameb the_type k BadLimit ≡ true → 22 ≡ renumber switch (refusal_number k)
unfolding renumber
turned switch k h e =
    sym (ap₂ (λ (s t : Bool). cond s (refusal_number k) (cond t 22 (refusal_number k))) (le-ltb 1 switch h) (same_number k ∙ e))

pub other : (switch : ℕ) (k : Refusal) → sameb the_type k BadLimit ≡ false → refusal_number k ≡ renumber switch (refusal_number k)
other switch k e = stays switch (refusal_number k) (same_number k ∙ e)

pub switched : (switch : ℕ) (k : Refusal) → 1 < switch → refusal_number k ≡ renumber switch (refusal_number k)
switched switch k h = stays_all switch (refusal_number k) (lt-ltb 1 switch h)

-- an answer whose refusal is renumbered
pub accepted : (switch n : ℕ) {a : Result ℕ Refusal} → a ≡ Ok n → Accepted n ≡ renumbered switch (answered a)
unfolding renumbered
accepted switch n e = sym (ap (λ (a : Result ℕ Refusal). renumbered switch (answered a)) e)

pub refused : (switch : ℕ) (k j : Refusal) {a : Result ℕ Refusal} → a ≡ Err k → refusal_number j ≡ renumber switch (refusal_number k)
    → Refused (refusal_number j) ≡ renumbered switch (answered a)
unfolding renumbered
refused switch k j e h = ap Refused h ∙ sym (ap (λ (a : Result ℕ Refusal). renumbered switch (answered a)) e)
