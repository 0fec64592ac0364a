-- What decides the book's selection: no two selected pairs share an end, and each qualifying pair that isn't selected shares an end with a
-- selected one before it.
use Rattle.std.specs.Prelude.{Bool, ◌||◌, List, eqb}
use Rattle.rules.specs.Selecting.{Pair, before}
use Rattle.pair_laws.specs.Sets as sets

-- p and q share an end
unfoldable pub shares : Pair → Pair → Bool
shares p q = eqb q.i p.i || eqb q.i p.j || eqb q.j p.i || eqb q.j p.j

-- s is settled in l: no two of it share an end, and each of l that is not in it shares an end with one of it that is before
abbrev pub Settled : List Pair → List Pair → Type 0
Settled l s = sets.Settled before shares l s

-- each pair is before each later one
abbrev pub InOrder : List Pair → Type 0
InOrder s = sets.InOrder before s
