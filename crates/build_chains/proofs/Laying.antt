-- Walks that are laid in round one's part: what comes out stands in the whole workspace.
use Prim.Native.Nat.{ℕ, ◌+◌, ◌-◌, ◌*◌, ◌≤◌}
use mathlib.Core.Path.{◌≡◌, sym, subst}
use mathlib.Core.List.{List}
use native.Mathlib.Omega.{arith}
use lib.ListN.{length}
use borrow.Rule.Slice.PartMut.{mid_of, put_mid}
use Rattle.rules.specs.Chaining.{join}
use Rattle.rules.specs.Refusals.{line_room}
use Rattle.chain_pieces.specs.Map.{taken_block}
use Rattle.chain_round.specs.Round.{RoundEmitted}
use Rattle.build_chains.specs.Building.{Layable, WalksLaid}
use Rattle.build_chains.proofs.Parts.{put_mid_lem, put_behind}

pub walks_laid : {width n m r : ℕ} {coordinates out w : List ℕ} (y : Layable width n m r coordinates out w) {sub out' : List ℕ}
    → length sub ≡ length (mid_of (n * taken_block) (n * line_room - n * taken_block) w)
    → RoundEmitted width sub (mid_of (n * taken_block) (n * line_room - n * taken_block) w) n r coordinates out' out y.emits.counts (join y.emits.rule y.emits.ps)
    → WalksLaid width n r coordinates y.emits.counts (join y.emits.rule y.emits.ps) out' out (put_mid (n * taken_block) (n * line_room - n * taken_block) w sub) w
walks_laid {width} {n} {r = r} {coordinates} {out} {w} y {sub} {out'} size E =
    let k = n * line_room - n * taken_block in
    let inside : n * taken_block + k ≤ length w = omega (arith, y.workspace_long) in
    record {
      emitted =
          subst (λ (v : List ℕ). RoundEmitted width v (mid_of (n * taken_block) k w) n r coordinates out' out y.emits.counts (join y.emits.rule y.emits.ps))
          (sym (put_mid_lem w sub (n * taken_block) k inside size)) E;
      rest = put_behind w sub (n * taken_block) k inside size (n * line_room) (omega arith);
    }
