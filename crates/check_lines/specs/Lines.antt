-- What is asked of the lines that chains list, by their numbers.
use Rattle.std.specs.Prelude.{ℕ, ◌+◌, ◌<◌, ◌≡◌, Bool, true, false, ◌&&◌, List, eqb, leb, length, get_or}
use Rattle.rules.specs.Lists.{one, count}
use Rattle.rules.specs.Refusals.{most_lines}

-- all numbers of a row are below n
abbrev pub Below : ℕ → List ℕ → Type 0
Below n l = (i : ℕ) → i < length l → get_or l i 0 < n

-- line y is plain, and has a group
abbrev pub plain_at : List ℕ → List ℕ → ℕ → Bool
plain_at counts kinds y = eqb (get_or kinds y 0) 0 && leb 2 (get_or counts y 0)

abbrev pub group_is : List ℕ → ℕ → ℕ → Bool
group_is groups g y = eqb g (get_or groups y 0)

-- how often a mark has line y
abbrev pub mark : List Bool → ℕ → ℕ
mark seen y = one (get_or seen y false)

-- r tells whether no line of a row was listed before, or twice in it; then each has its mark
pub record Noted (seen' seen : List Bool) (listed : List ℕ) (r : Bool) : Type 0 where
  pub added : r ≡ true → (y : ℕ) → y < most_lines → mark seen' y ≡ mark seen y + count y listed
  pub twice : r ≡ false → (y : ℕ) × (y < most_lines) × (1 < mark seen y + count y listed)

-- r tells whether the first n lines have their marks
pub record AllSeen (seen : List Bool) (n : ℕ) (r : Bool) : Type 0 where
  pub every : r ≡ true → (y : ℕ) → y < n → mark seen y ≡ 1
  pub missing : r ≡ false → (y : ℕ) × (y < n) × (mark seen y ≡ 0)
