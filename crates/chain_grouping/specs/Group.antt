-- Ends grouped by key without a sort. A workspace holds for m ends, from 0 on: the heads of m buckets, then for each end a word of chain, one of next and
-- one of last, and then the three words of its key.
use Rattle.std.specs.Prelude.{ℕ, zero, suc, ◌+◌, ◌*◌, ◌/◌, ◌%◌, ◌≤◌, ◌<◌, ◌≡◌, Bool, true, false, ◌&&◌, Option, Some, None, List, [], ◌∷◌, eqb, length, get_or}
use Rattle.rules.specs.Lists.{keep, upto}
use Rattle.rules.specs.Refusals.{most_ends}
use Rattle.chain_grouping.specs.declared.KeyWords.{KeyWords}
use Rattle.chain_grouping.specs.Map.{group_room, key_block, key_size, last_block, next_block}

-- ---- the words of a key

pub data Words : Type 0 where
  words : ℕ → ℕ → ℕ → Words

abbrev pub key_words : KeyWords → Words
key_words k = words k.group k.x k.y

unfoldable pub same_words : Words → Words → Bool
same_words (words g x y) (words h u v) = eqb g h && (eqb x u && eqb y v)

-- those of end e, where all ends' stand from `keys` on
unfoldable pub words_at : List ℕ → ℕ → ℕ → Words
words_at w keys e = words (get_or w (keys + e * key_size) 0) (get_or w (keys + e * key_size + 1) 0) (get_or w (keys + e * key_size + 2) 0)

abbrev pub words_of : List ℕ → ℕ → ℕ → Words
words_of w m e = words_at w (m * key_block) e

-- ---- the bucket of a key, one of m: any fixed function below m would do

abbrev pub half : ℕ → ℕ
half t = (t / 4294967296 + t % 4294967296) % 4294967296

unfoldable pub bucket_of : ℕ → Words → ℕ
bucket_of m (words g x y) = half (half x * 739982445 + half y * 1013904223 + half g * 668265263) * m / 4294967296

-- ---- the ends from e on, as `next` says; 0 says that there is none

unfoldable pub follow : (ℕ → ℕ) → ℕ → ℕ → List ℕ
follow next zero e = []
follow next (suc k) e = e ∷ elim (next e) [ zero ↦ [] | suc f ↦ follow next k (suc f) ]

-- ---- the invariant after i ends, over the four tables as functions. An end f leads where f ≤ last f, and `last` is then its node's last end;
-- another end's `last` is its leader. A bucket's head and a leader's chain are 1 more than a leader, or 0, and fall: all older leaders of the bucket are below.

pub record Grouped (Q : Type 0) (m : ℕ) (hash : Q → ℕ) (of : ℕ → Q) (i : ℕ) (heads chain next last : ℕ → ℕ) : Type 0 where
  pub follows : (e : ℕ) → e < i → last e < e → (of (last e) ≡ of e) × (last e ≤ last (last e))
  pub least : (f e : ℕ) → f < i → f ≤ last f → e < f → of e ≡ of f → ⊥
  pub last_in : (f : ℕ) → f < i → f ≤ last f → (last f < i) × (of (last f) ≡ of f)
  pub last_out : (f g : ℕ) → f < i → f ≤ last f → last f < g → g < i → of g ≡ of f → ⊥
  pub next_in : (e : ℕ) → e < i → 0 < next e → (e < next e) × (next e < i) × (of (next e) ≡ of e)
  pub next_gap : (e g : ℕ) → e < i → e < g → g < i → of g ≡ of e → (0 < next e) × (next e ≤ g)
  pub head_in : (b g : ℕ) → b < m → heads b ≡ suc g → (g < i) × (g ≤ last g) × (hash (of g) ≡ b)
  pub head_gap : (b g : ℕ) → b < m → g < i → g ≤ last g → hash (of g) ≡ b → g < heads b
  pub chain_in : (f g : ℕ) → f < i → f ≤ last f → chain f ≡ suc g → (g < f) × (g ≤ last g) × (hash (of g) ≡ hash (of f))
  pub chain_gap : (f g : ℕ) → f < i → f ≤ last f → g < f → g ≤ last g → hash (of g) ≡ hash (of f) → g < chain f

-- ---- in the workspace

pub record GroupingRoom (w : List ℕ) (m : ℕ) : Type 0 where
  pub few : m ≤ most_ends
  pub fits : m * group_room ≤ length w

-- the first i ends are grouped in w, by the keys that stand in w₀
abbrev pub GroupedIn : List ℕ → List ℕ → ℕ → ℕ → Type 0
GroupedIn w₀ w m i =
    Grouped Words m (bucket_of m) (words_of w₀ m) i
    (λ b. get_or w b 0)
    (λ e. get_or w (m + e) 0)
    (λ e. get_or w (m * next_block + e) 0)
    (λ e. get_or w (m * last_block + e) 0)

-- after a step the first i ends are grouped, and the keys stand as they did
pub record EndPlaced (w' w : List ℕ) (m i : ℕ) : Type 0 where
  pub grouped : GroupedIn w w' m i
  pub kept : (j : ℕ) → m * key_block ≤ j → get_or w' j 0 ≡ get_or w j 0

-- the word that names a leader: 1 more than it, or 0 for none
abbrev pub word_of : Option ℕ → ℕ
word_of None = 0
word_of (Some g) = suc g

-- what the search for a leader of end e's key answers
pub record Found (w : List ℕ) (m e : ℕ) (r : Option ℕ) : Type 0 where
  pub there : (g : ℕ) → r ≡ Some g → (g < e) × (g ≤ get_or w (m * last_block + g) 0) × (words_of w m g ≡ words_of w m e)
  pub nowhere : r ≡ None → (f : ℕ) → f < e → f ≤ get_or w (m * last_block + f) 0 → words_of w m f ≡ words_of w m e → ⊥

-- What grouping is for: each leader is the least end of its key, and the list behind it is its node. Where `last e` is below e it is the leader of e.
pub record Nodes (w' w : List ℕ) (m : ℕ) : Type 0 where
  pub leader : (e : ℕ) → e < m → get_or w' (m * last_block + e) 0 < e
      → (same_words (words_of w m (get_or w' (m * last_block + e) 0)) (words_of w m e) ≡ true)
      × (get_or w' (m * last_block + e) 0 ≤ get_or w' (m * last_block + get_or w' (m * last_block + e) 0) 0)
  pub least : (f e : ℕ) → f < m → f ≤ get_or w' (m * last_block + f) 0 → e < f → same_words (words_of w m f) (words_of w m e) ≡ false
  pub rises : (e : ℕ) → e < m → 0 < get_or w' (m * next_block + e) 0 → (e < get_or w' (m * next_block + e) 0) × (get_or w' (m * next_block + e) 0 < m)
  pub node : (f : ℕ) → f < m → f ≤ get_or w' (m * last_block + f) 0
      → follow (λ e. get_or w' (m * next_block + e) 0) m f ≡ keep (λ e. same_words (words_of w m f) (words_of w m e)) (upto m)
  pub kept : (j : ℕ) → m * key_block ≤ j → get_or w' j 0 ≡ get_or w j 0
