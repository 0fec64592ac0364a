-- The levels of boxes of k chains, and the boxes that begin at one chain.
use Rattle.std.specs.Prelude.{ℕ, zero, suc, ◌+◌, ◌*◌, ◌/◌, ◌%◌, ◌≤◌, ◌<◌, ◌≡◌, true, false, List, eqb, length, get_or}
use Rattle.box_window.specs.declared.Place.{Place}

-- how many boxes a level has, and with which box it begins
unfoldable pub many : ℕ → ℕ → ℕ
many k zero = k
many k (suc l) = (many k l + 1) / 2

unfoldable pub start : ℕ → ℕ → ℕ
start k zero = 0
start k (suc l) = start k l + many k l

-- the first chain below box i of a level
unfoldable pub first : ℕ → ℕ → ℕ
first zero i = i
first (suc l) i = first l (i * 2)

-- box i of level l
abbrev pub place : ℕ → ℕ → Place
place l i = record { level = l; j = i }

-- of the boxes that begin where box i of level l does, the one of the highest level, up to f levels above
unfoldable pub highest : ℕ → ℕ → ℕ → Place
highest zero l i = place l i
highest (suc f) l i = elim (eqb (i % 2) 1) [ true ↦ place l i | false ↦ highest f (suc l) (i / 2) ]

-- where each level up to `top` begins, and where that one, which is the last, ends
pub record Leveled (k : ℕ) (starts : List ℕ) (top : ℕ) : Type 0 where
  pub size : length starts ≡ 34
  pub few : top ≤ 32
  pub begun : (l : ℕ) → l ≤ top + 1 → get_or starts l 0 ≡ start k l
  pub more : (l : ℕ) → l < top → 1 < many k l
  pub last : many k top ≤ 1
