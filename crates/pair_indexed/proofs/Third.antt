-- The heap never holds a third owner of a direction. A slot's entry names its owner, which has that slot and has not handed it on; ends of one direction are of one
-- group; and no group has a third such owner.
use Prim.Native.Nat.{ℕ, ◌*◌, ◌≤◌, ◌<◌}
use mathlib.Core.Path.{◌≡◌, sym, ◌∙◌, ap, subst}
use mathlib.Core.Logic.{⊎_elim}
use mathlib.Core.List.{List}
use native.Mathlib.Omega.{arith}
use Rattle.rules.specs.Selecting.{End}
use Rattle.pair_ends.specs.Blocks.{heap_from}
use Rattle.pair_tree.proofs.Flat.{same_or, below_or}
use Rattle.pair_heap.specs.Heap.{Enters}
use Rattle.pair_heap.proofs.Top.{coded_owner}
use Rattle.pair_owners.specs.Tables.{OneDirection}
use Rattle.pair_owners.specs.Owners.{KeepsSlot}
use Rattle.pair_owners.proofs.Next.{no_third_owner}
use Rattle.pair_owners.proofs.Grouping.{same_sym}
use Rattle.pair_indexed.specs.Route.{taken_in, NoThird, Owning}
use Rattle.pair_indexed.proofs.Choosing.{plausible}

module _ {l : List End} {w : List ℕ} {d height slots limit : ℕ} (s : Owning l w d height slots limit (taken_in w d) slots) where
  -- the owner that the entry of a slot names
  entered : (x o : ℕ) → x < slots → Enters w (d * heap_from) slots x o → (0 < (s.P x).j) × (s.owner x ≡ o)
  entered x o h e =
      coded_owner (s.owner x) o (s.P x) e.pair (sym (s.heaped.leaf x h (λ y. omega arith)) ∙ e.here) e.some e.i_below e.j_below e.owned
      (λ k. let p = plausible s in (omega (arith, p.lower x h k, p.below x h k), p.below x h k, p.owned x h k))

  holds : (x o : ℕ) → x < slots → Enters w (d * heap_from) slots x o → KeepsSlot d s.slot (taken_in w d) o × (s.slot o ≡ x)
  holds x o h e =
      let t = entered x o h e in
      let u = s.filled.holder x h (λ y. omega arith) t.0 in
      let v : s.slot o ≡ x = ap s.slot (sym t.1) ∙ u.1 in (
        record { inside = subst (λ (y : ℕ). y < d) t.1 u.0; owner = subst (λ (y : ℕ). y < d) (sym v) u.3; kept = ap (taken_in w d) (sym t.1) ∙ u.2 },
        v,
      )

  one_group_lem : (a b : ℕ) → a < d → b < d → OneDirection w d a b → s.group a ≡ s.group b
  one_group_lem a b i j t =
      ⊎_elim
      (λ (h : s.pos a < s.pos b). ordered a b i j h t)
      (λ (h : s.pos b ≤ s.pos a).
      ⊎_elim
      (λ (e : s.pos a ≡ s.pos b). ap s.group (sym (s.ground.ordered.seat a i) ∙ ap s.order e ∙ s.ground.ordered.seat b j))
      (λ (e : s.pos a ≡ s.pos b → ⊥). sym (ordered b a j i (omega arith) (same_sym t)))
      (same_or (s.pos a) (s.pos b)))
      (below_or (s.pos a) (s.pos b))
    where
      ordered : (a b : ℕ) → a < d → b < d → s.pos a < s.pos b → OneDirection w d a b → s.group a ≡ s.group b
      ordered a b i j h t =
          let u = s.ground.ordered.seat a i in
          let v = s.ground.ordered.seat b j in
          ap s.group (sym u)
          ∙ s.ground.whole (s.pos a) (s.pos b) h (s.ground.ordered.pos_in b j)
          (subst (λ (y : ℕ). OneDirection w d y (s.order (s.pos b))) (sym u) (subst (OneDirection w d a) (sym v) t))
          ∙ ap s.group v

  pub no_third : NoThird w d slots
  no_third x y z a b c x<y y<z z<n e f g t u =
      let h = holds x a (omega arith) e in
      let i = holds y b (omega arith) f in
      let j = holds z c z<n g in
      let k = sym (one_group_lem a b h.0.inside i.0.inside t) in
      no_third_owner s.ground.ordered s.owners a b c h.0 i.0 j.0
      (λ q. omega (arith, ap s.slot q, h.1, i.1, x<y)) (λ q. omega (arith, ap s.slot q, h.1, j.1, x<y, y<z)) (λ q. omega (arith, ap s.slot q, i.1, j.1, y<z))
      k (sym (one_group_lem b c i.0.inside j.0.inside u) ∙ k)
