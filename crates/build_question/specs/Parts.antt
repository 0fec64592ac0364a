-- Chain k's coordinates by their width, for whichever type has it.
use Rattle.std.specs.Prelude.{ℕ, ◌*◌, true, false, List, [], take, drop}
use Rattle.rules.specs.Refusals.{no_chain, source_of, entry}

-- a part of the slice that its source names, of points of w numbers each, and nothing where there is no such chain
unfoldable pub part_of : ℕ → List ℕ → List ℕ → List ℕ → ℕ → List ℕ
part_of w input merged table k =
    elim (no_chain w input merged table k) [ true ↦ [] | false ↦ take (entry table k 4 * w) (drop (entry table k 3 * w) (source_of (entry table k 2) input merged)) ]
