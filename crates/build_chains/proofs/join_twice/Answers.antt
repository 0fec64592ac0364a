-- `join_twice` takes what each step left: the walks of round one, what they are laid to, and round two over it, or nothing where nothing can be joined.
use mathlib.Core.Path.{refl}
use Rattle.build_chains.proofs.Twice.{lay_asks, apart_left, second, grouped, both_left}
use Rattle.build_chains.proofs.join_twice.Goals as goal

pub lay_walks-requires : goal.lay_walks-requires
lay_walks-requires c =
    let s = c.requires in
    let o = c.walk_lines-one in
    lay_asks s o.auto.w o.ensures s.buildable.out_long

pub returns-then-one : goal.returns-then-one
returns-then-one c =
    let s = c.requires in
    let o = c.walk_lines-one in
    let e = c.lay_walks in
    apart_left s o.auto.w o.ensures e.auto.workspace (e.ensures (lay_asks s o.auto.w o.ensures s.buildable.out_long)) refl c.if-one.true

pub lay_walks-requires-2 : goal.lay_walks-requires-2
lay_walks-requires-2 c =
    let s = c.requires in
    let o = c.walk_lines-one in
    lay_asks s o.auto.w o.ensures s.spare_long

pub join_grouped-number-requires : goal.join_grouped-number-requires
join_grouped-number-requires c =
    let s = c.requires in
    let o = c.walk_lines-one in
    let e = c.lay_walks-2 in
    grouped s o.auto.w o.ensures e.auto.workspace (e.ensures (lay_asks s o.auto.w o.ensures s.spare_long)) refl c.pairing_limit.ensures

pub returns : goal.returns
unfolding grouped second
returns c =
    let s = c.requires in
    let o = c.walk_lines-one in
    let e = c.lay_walks-2 in
    let E = e.ensures (lay_asks s o.auto.w o.ensures s.spare_long) in
    let j = c.join_grouped-number in
    both_left s o.auto.w o.ensures e.auto.workspace E refl j.auto.w (j.ensures (grouped s o.auto.w o.ensures e.auto.workspace E refl c.pairing_limit.ensures))
