-- What a route asks of a workspace of d ends: the indexed one, called on its own, which is the book's `alone`, asks for finite directions too.
use Rattle.std.specs.Prelude.{ℕ, ◌≡◌, Bool, true, false, List, Float}
use Rattle.rules.specs.Refusals.{limit_bad}
use Rattle.pair_laws.specs.Ends.{end_at}
use Rattle.pair_laws.specs.Owners.{AtMostTwice}
use Rattle.pair_ends.specs.Ends.{EndsRoom, ends_in}
use Rattle.pair_index.specs.Index.{Finite}

pub record Routed (alone : Bool) (w : List ℕ) (d : ℕ) (limit : Float) : Type 0 where
  pub room : EndsRoom w d
  pub limited : limit_bad limit ≡ false
  pub twice : AtMostTwice (λ e. (end_at (ends_in w d) e).piece) d
  pub finite_ends : alone ≡ true → Finite (ends_in w d)
