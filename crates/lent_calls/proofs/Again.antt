-- Round two of lent pieces, or the pieces as they are: both leave the book's `round_two`.
use Prim.Native.Nat.{ℕ, ◌-◌, ◌*◌}
use mathlib.Core.Path.{◌≡◌, subst}
use mathlib.Core.Bool.{true, false}
use mathlib.Core.List.{List}
use lib.Ieee.{lt}
use lib.ListN.{length}
use borrow.Rule.Slice.PartMut.{mid_of, put_mid}
use Rattle.rules.specs.declared.Settings.{Settings}
use Rattle.rules.specs.Plane.{nought}
use Rattle.rules.specs.Chaining.{cells_of, Piece, join, rule_of, round_two}
use Rattle.rules.specs.Refusals.{line_room}
use Rattle.chain_keeping.specs.Keeping.{Keepable, Kept}
use Rattle.build_chains.specs.Building.{Left, Second}
use Rattle.build_chains.proofs.Second.{two_asks, two_left}
use Rattle.build_chains.proofs.Rounds.{two_on, two_off}

module _ {width n m : ℕ} {s : Settings} {coordinates groups copies merged w₀ : List ℕ} (y : Second width n m s coordinates groups copies merged w₀) where
  pub joined_left : lt nought s.tolerance ≡ true → {r : ℕ} {merged' w₁ : List ℕ}
      → Left width n coordinates y.counts (join (rule_of (cells_of s) s) y.ps) 0 r merged' merged w₁ w₀ → Left width n coordinates y.counts (round_two s y.ps) 0 r merged' merged w₁ w₀
  joined_left on {r} {merged'} {w₁} L = subst (λ (ps : List Piece). Left width n coordinates y.counts ps 0 r merged' merged w₁ w₀) (two_on s y.ps on) L

  unfoldable pub keep_asks : Keepable width (mid_of 0 (n * line_room - 0) w₀) n m coordinates copies merged
  unfolding two_asks
  keep_asks =
      let r = (two_asks y).walkable.rounding in
      record { counts = y.counts; ps = y.ps; two = y.two; number = y.number; room = r.room; held = r.held; fits = y.fits }

  pub kept_left : lt nought s.tolerance ≡ false → {sub merged' : List ℕ} → length sub ≡ length (mid_of 0 (n * line_room - 0) w₀)
      → Kept width sub (mid_of 0 (n * line_room - 0) w₀) n coordinates merged' merged y.counts y.ps
      → Left width n coordinates y.counts (round_two s y.ps) 0 m merged' merged (put_mid 0 (n * line_room - 0) w₀ sub) w₀
  kept_left off {sub} {merged'} size K =
      subst (λ (ps : List Piece). Left width n coordinates y.counts ps 0 m merged' merged (put_mid 0 (n * line_room - 0) w₀ sub) w₀) (two_off s y.ps off)
      (two_left y size (record { size = K.size; number = y.number; held = K.held; merged_is = K.merged_is }))
