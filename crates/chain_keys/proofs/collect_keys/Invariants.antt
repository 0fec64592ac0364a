-- The keys are written piece by piece. What is read stands below them and so stays as it was.
use Prim.Native.Nat.{◌*◌}
use Rattle.chain_keys.proofs.Laws.{Keying}
use Rattle.chain_keys.proofs.collect_keys.Given as goal

abbrev pub invariant-loop-q : goal.invariant-loop-q
invariant-loop-q l = Keying l.width l.records l.members l.keys l.count l.groups l.input l.spare l.grid (λ f. f) l.w l.initial.w (l.q * 2)
