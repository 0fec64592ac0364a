-- What the indexed route asks: ends whose directions are all tame are finite ends, and the key of a limit that is a number is below the greatest.
use Prim.Native.Nat.{ℕ}
use mathlib.Core.Path.{◌≡◌, sym}
use mathlib.Core.Bool.{Bool, true, false}
use mathlib.Core.List.{List}
use native.Mathlib.Omega.{arith}
use lib.Dec.{T}
use lib.Ieee.{Float, binary64, fits}
use Rattle.rules.specs.Refusals.{limit_bad}
use Rattle.float_order.specs.Key.{key}
use Rattle.pair_laws.specs.Ends.{end_at}
use Rattle.pair_laws.specs.Owners.{AtMostTwice}
use Rattle.pair_laws.proofs.Refusals.{limit_number, limit_under}
use Rattle.pair_ends.specs.Ends.{EndsRoom, direction_at, ends_in}
use Rattle.pair_all_directions.specs.Around.{Every, tame}
use Rattle.pair_all_directions.proofs.Nothing.{tame_finite}
use Rattle.pair_indexed.specs.Start.{Asks}

pub asks : {w : List ℕ} {d : ℕ} (limit : Float) {r : Bool} {k : ℕ} → EndsRoom w d → T (fits binary64 limit) → limit_bad limit ≡ false
    → AtMostTwice (λ e. (end_at (ends_in w d) e).piece) d → Every (λ e. tame (direction_at w d e)) d r → r ≡ true → k ≡ key limit → Asks w d k
asks limit room fit fair twice t told e =
    record {
      room = room;
      limited = omega (arith, limit_under limit fit fair);
      bounded = (limit, record { fitting = fit; number = limit_number limit fair; is = sym e });
      finite_ends = tame_finite room (t.yes told);
      twice = twice;
    }
