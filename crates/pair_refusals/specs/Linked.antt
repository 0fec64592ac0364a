-- Places of a list linked by bucket. A word that names a place is 1 more than it, and 0 names none.
use Rattle.std.specs.Prelude.{ℕ, suc, ◌*◌, ◌/◌, ◌%◌, ◌≤◌, ◌<◌, ◌≡◌, List, length, get_or}
use Rattle.rules.specs.Refusals.{most_ends}

-- the bucket of a piece, one of 8,192: any fixed function below that would do
unfoldable pub bucket_of : ℕ → ℕ
bucket_of p = p * 2654435769 % 4294967296 / 524288

-- k names the last place before i of the bucket b
pub record LastBefore (l : List ℕ) (b i k : ℕ) : Type 0 where
  pub within : k ≤ i
  pub here : (g : ℕ) → k ≡ suc g → bucket_of (get_or l g 0) ≡ b
  pub past : (g : ℕ) → k ≤ g → g < i → bucket_of (get_or l g 0) ≡ b → ⊥

-- each of the first i places has a word in `next`, which names the last place before it of its bucket
abbrev pub Linked : List ℕ → List ℕ → ℕ → Type 0
Linked l next i = (g : ℕ) → g < i → LastBefore l (bucket_of (get_or l g 0)) g (get_or next g 0)

-- what is gone through from the word k on, in p's bucket
pub record LinkedChain (l next : List ℕ) (k p : ℕ) : Type 0 where
  pub within : k ≤ length l
  pub few : k ≤ most_ends
  pub here : (g : ℕ) → k ≡ suc g → bucket_of (get_or l g 0) ≡ bucket_of p
  pub linked : Linked l next k
