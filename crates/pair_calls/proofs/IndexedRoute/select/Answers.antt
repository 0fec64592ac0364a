-- The index is asked what its own contract asks, and takes the limit by its key.
use borrow.Author.Rules.{rules}
use Prim.Native.Nat.{ℕ, ◌<◌}
use mathlib.Core.Path.{refl, sym, subst}
use lib.Dec.{T}
use lib.Ieee.{binary64, fits}
use Rattle.pair_tree.specs.Places.{gone}
use Rattle.pair_laws.proofs.Refusals.{limit_number, limit_under}
use Rattle.pair_calls.proofs.IndexedRoute.select.Goals as goal
use Rattle.pair_calls.proofs.IndexedRoute.select.Goals.{Start}

fitting : (s : Start) → T (fits binary64 s.args.limit)
fitting s = search rules

pub indexed-requires : goal.indexed-requires
indexed-requires c =
    record {
      room = c.requires.room;
      limited = subst (λ (k : ℕ). k < gone) (sym c.key.ensures) (limit_under c.args.limit (fitting (goal.at.indexed-requires c).Start) c.requires.limited);
      bounded = (c.args.limit, record { fitting = fitting (goal.at.indexed-requires c).Start; number = limit_number c.args.limit c.requires.limited; is = sym c.key.ensures });
      finite_ends = c.requires.finite_ends refl;
      twice = c.requires.twice;
    }
