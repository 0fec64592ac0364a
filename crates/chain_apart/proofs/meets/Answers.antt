-- `meets` tells by the words behind e how many ends its node has; each answer is that of the node's list.
use mathlib.Core.Path.{refl, sym}
use native.Mathlib.Omega.{arith}
use Rattle.chain_apart.proofs.Arms.{meets_other, meets_alone, meets_two, meets_many}
use Rattle.chain_apart.proofs.meets.Goals as goal
use Rattle.chain_apart.proofs.meets.Goals.{then-v-m-via-then-v-m, then-v-m-via-else-v-m+then-f-eq0}

pub returns-then-v-m : goal.returns-then-v-m
returns-then-v-m c =
    let a = c.args in
    elim c.then-v-m.branch [
      | then-v-m-via-then-v-m w ↦ sym (meets_other a.on a.v.now a.m a.e w.if-v-m.true)
      | then-v-m-via-else-v-m+then-f-eq0 w ↦ sym (meets_alone a.on a.v.now a.m a.e c.requires.1 c.requires.2 w.if-v-m.false w.if-f-eq0.true)
    ]

pub returns-then-v-m-eq0 : goal.returns-then-v-m-eq0
returns-then-v-m-eq0 c =
    let a = c.args in
    sym (meets_two a.on a.v.now a.m a.e c.requires.1 c.requires.2 c.if-v-m.false _ refl (omega (arith, c.if-f-eq0.false)) c.if-v-m-eq0.true)

pub returns-else-v-m-eq0 : goal.returns-else-v-m-eq0
returns-else-v-m-eq0 c =
    let a = c.args in
    sym (meets_many a.on a.v.now a.m a.e c.requires.1 c.requires.2 c.if-v-m.false _ refl (omega (arith, c.if-f-eq0.false)) c.if-v-m-eq0.false)
