-- 02 [10]: a district's lines and its chains among those of a call, each of its lines named by its rank.
use Rattle.std.specs.Prelude.{ℕ, List, map, length, take}
use Rattle.rules.specs.Lists.{keep}
use Rattle.rules.specs.Districts.{is_of}
use Rattle.rules.specs.Chaining.{Piece, Line}

-- a district's lines, in their order
unfoldable pub district_lines : ℕ → List Line → List Line
district_lines d ls = keep (λ l. is_of d l.group) ls

-- the rank of the line at position k: how many of the district's lines stand before it
unfoldable pub rank : ℕ → List Line → ℕ → ℕ
rank d ls k = length (district_lines d (take k ls))

-- a piece with its lines named anew
unfoldable pub relabel : (ℕ → ℕ) → Piece → Piece
relabel r p = record { lines = map r p.lines; marks = p.marks; listing = map r p.listing; points = p.points; group = p.group }

-- a district's chains, in their order, each line named by its rank
unfoldable pub district_chains : ℕ → List Line → List Piece → List Piece
district_chains d ls ps = map (relabel (rank d ls)) (keep (λ p. is_of d p.group) ps)
