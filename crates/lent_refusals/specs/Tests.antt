-- The tests that both calls begin with.
use Rattle.std.specs.Prelude.{ℕ, Bool, List, [], ◌∷◌, ◌++◌, Float}
use Rattle.rules.specs.Layout.{Lines}
use Rattle.rules.specs.Refusals.{line_tests}
use Rattle.build_refusals.specs.Tests.{switch_bad}

-- of lines of type t, a switch and a limit
abbrev pub call_tests : ℕ → Lines → ℕ → Float → List (ℕ × Bool)
call_tests t l switch limit = line_tests t l ++ ((6, switch_bad switch limit) ∷ [])
