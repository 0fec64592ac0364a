-- A leader of the key is always at or below the one that is looked at.
use Rattle.std.proofs.Common.{arith, sym, ◌∙◌, suc}
use Rattle.chain_grouping.specs.Group.{key_words, same_words}
use Rattle.chain_grouping.proofs.Keys.{same_false}
use Rattle.chain_grouping.proofs.Seek.{Seek, seek_start, seek_below, seek_less, seek_step}
use Rattle.chain_grouping.proofs.find.Goals as goal
use Rattle.chain_grouping.proofs.find.Goals.{In-Some}

here : (c : In-Some) → Seek c.args.w.now c.args.m c.args.e c.args.b (suc c.in-Some.f)
here c = rw c.in-Some.is at c.loop-leader.invariant

pub loop-leader-init : goal.loop-leader-init
loop-leader-init c = rw c.named-leader.ensures (seek_start _ _ _ _ c.requires.2 c.requires.4 c.requires.5)

pub key_at-requires : goal.key_at-requires
key_at-requires c = omega (arith, seek_below _ _ _ _ c.requires.2 c.requires.4 c.requires.5 _ (here c))

pub loop-leader-smaller : goal.loop-leader-smaller
loop-leader-smaller c = rw (c.in-Some.is, c.named-leader-in-Some.ensures) (seek_less _ _ _ _ c.requires.2 c.requires.4 c.requires.5 _ (here (goal.at.loop-leader-smaller c).In-Some))

pub loop-leader-preserved : goal.loop-leader-preserved
unfolding same_words
loop-leader-preserved c =
    rw c.named-leader-in-Some.ensures
    (seek_step _ _ _ _ c.requires.2 c.requires.4 c.requires.5 _ (here (goal.at.loop-leader-preserved c).In-Some)
    (λ q. same_false (key_words c.key_at.result) (key_words c.args.key) (sym c.eq.ensures ∙ c.if-eq.false) (c.key_at.ensures ∙ q ∙ sym c.requires.3)))
