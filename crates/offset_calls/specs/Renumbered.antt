-- How the answer of a call with a limit becomes that of the call with an offset in the limit's place: a limit refused by 6 is an offset refused by 22.
-- A switch above 1 is what 6 was for.
use Rattle.std.specs.Prelude.{ℕ, cond, ltb, eqb}
use Rattle.rules.specs.Answers.{Answer}
use Rattle.rules.specs.Answers.{Accepted, Refused}

unfoldable pub renumber : ℕ → ℕ → ℕ
renumber switch k = cond (ltb 1 switch) k (cond (eqb k 6) 22 k)

unfoldable pub renumbered : ℕ → Answer → Answer
unfolding renumber
renumbered switch (Accepted n) = Accepted n
renumbered switch (Refused k) = Refused (renumber switch k)
