-- The heap's first pair is the next one, if it is free, and where the heap holds none, none is left. Each owner's pair in the heap is at or before all that the
-- owner still has, and the owners are enough; so this is the lazy law of selection.
use Prim.Native.Nat.{ℕ, ◌+◌, ◌*◌, ◌<◌}
use mathlib.Core.Path.{◌≡◌, refl, sym, ◌∙◌, ap, subst}
use mathlib.Core.Bool.{Bool, true, false}
use mathlib.Core.List.{List}
use mathlib.Core.Logic.{inl, inr, ⊎_elim}
use native.Mathlib.Omega.{arith}
use lib.Dec.{ltb}
use lib.ListN.{length, get_or}
use borrow.Author.Tests.{ltb-true, leb-true}
use Rattle.rules.specs.Selecting.{End}
use Rattle.pair_laws.specs.Ranked.{RankedPair, Node, qualifies, candidates, busy, before}
use Rattle.pair_laws.specs.Sets.{In, Entry, EndOf, Covers, Enough}
use Rattle.pair_laws.specs.Ends.{end_at, node_of}
use Rattle.pair_laws.specs.Owners.{AtMostTwice}
use Rattle.pair_laws.specs.Taking.{IsLeast}
use Rattle.pair_laws.proofs.Order.{two, and_right}
use Rattle.pair_laws.proofs.Owners.{ends_enough}
use Rattle.pair_laws.proofs.Lazy.{lazy_least, lazy_done, taken_end}
use Rattle.pair_laws.proofs.Laws.{in_candidates}
use Rattle.pair_ends.specs.Blocks.{heap_from}
use Rattle.pair_ends.proofs.Reading.{ends_in_length}
use Rattle.pair_tree.specs.Flat.{own}
use Rattle.pair_tree.proofs.Flat.{same_or, kept_same}
use Rattle.pair_tree.specs.Places.{gone}
use Rattle.pair_heap.specs.declared.Entry as heap
use Rattle.pair_tree.specs.Rows.{Any}
use Rattle.pair_heap.specs.Heap.{node_at, Heaps, coded, Decoded}
use Rattle.pair_heap.proofs.Top.{Plausible, AtSlot, no_pair, a_pair, code_pair}
use Rattle.pair_owners.proofs.Next.{owners_lead}
use Rattle.pair_indexed.specs.Route.{taken_in, Bound, Owning}
use Rattle.pair_indexed.proofs.Keeping.{there_in}

module _ {l : List End} {w : List ℕ} {d height slots limit : ℕ} (s : Owning l w d height slots limit (taken_in w d) slots) where
  abbrev n : Node
  n = node_of l

  pub many : length l ≡ d
  many = ap length (sym s.ground.ends) ∙ ends_in_length w d (omega (arith, s.ground.room.long))

  -- ---- the pairs of the slots

  pub pair_bound : (x : ℕ) → x < slots → 0 < (s.P x).j → Bound n limit (taken_in w d) (s.owner x) (s.P x)
  pair_bound x h k =
      let t = s.filled.holder x h (λ y. omega arith) k in
      let b = s.filled.held (s.owner x) t.0 (subst (λ (y : ℕ). y < d) (sym t.1) t.3) t.2 in
      subst (λ (y : ℕ). Bound n limit (taken_in w d) (s.owner x) (s.P y)) t.1 (b.1 (λ y. omega (arith, b.0, y)))

  pub member : (x : ℕ) → x < slots → 0 < (s.P x).j → In (s.P x) (candidates n limit)
  member x h k = (pair_bound x h k).member k

  pub plausible : Plausible s.owner s.P slots
  unfolding qualifies
  plausible =
      record {
        lower = λ x h k. (in_candidates n limit (s.P x) (member x h k)).0.lower;
        below = λ x h k. omega (arith, (in_candidates n limit (s.P x) (member x h k)).0.below, many, s.ground.room.few);
        owned = λ x h k. (pair_bound x h k).owned k;
        keyed =
            λ x h k. omega (
              arith,
              leb-true (s.P x).key limit (and_right (n.may (s.P x).i (s.P x).j) _ (in_candidates n limit (s.P x) (member x h k)).1),
              s.ground.limited,
            );
      }

  heap_leaves : Heaps w (d * heap_from) slots (λ x. coded (s.owner x) (s.P x))
  heap_leaves =
      kept_same _ Any (node_at w (d * heap_from)) slots 1 0 (own (node_at w (d * heap_from)) slots) (λ x. coded (s.owner x) (s.P x)) (λ x h. s.heaped.leaf x h (λ y. omega arith)) s.heaped.whole

  -- ---- the owners are enough, and their pairs cover

  abbrev active : ℕ → Bool
  active e = ltb (s.slot e) d

  enough : Enough (taken_in w d) (candidates n limit) active
  enough =
      ends_enough l limit (taken_in w d) active (subst (λ (m : ℕ). AtMostTwice (λ e. (end_at l e).piece) m) (sym many) s.ground.twice)
      (owners_lead s.ground.ordered s.ground.runs s.owners (there_in s.ground) (λ e. refl) active (λ e h. refl))

  abbrev Held : Entry → Type 0
  Held e = (x : ℕ) × (x < slots) × (0 < (s.P x).j) × (e.best ≡ s.P x)

  covers : Covers (taken_in w d) (candidates n limit) active Held
  covers q o m b a f =
      ⊎_elim
      (λ (z : (s.P (s.slot o)).j ≡ 0). absurd (bound.nothing z q m b f))
      (λ (z : (s.P (s.slot o)).j ≡ 0 → ⊥).
      let k : 0 < (s.P (s.slot o)).j = omega arith in
      (record { owner = o; best = s.P (s.slot o) }, (s.slot o, t.0, k, refl), refl, bound.first k q m b f))
      (same_or (s.P (s.slot o)).j 0)
    where
      in_d : EndOf o q → o < d
      in_d (inl e) = let c = (in_candidates n limit q m).0 in omega (arith, e, c.lower, c.below, many)
      in_d (inr e) = let c = (in_candidates n limit q m).0 in omega (arith, e, c.below, many)

      free : taken_in w d o ≡ false
      free = ⊎_elim (λ (y : taken_in w d o ≡ true). absurd (taken_end (taken_in w d) o y q b f)) (λ (y : taken_in w d o ≡ false). y) (two (taken_in w d o))

      t : (s.slot o < slots) × ((s.slot o ≡ slots → ⊥) → Bound n limit (taken_in w d) o (s.P (s.slot o)))
      t = s.filled.held o (in_d f) (ltb-true (s.slot o) d a) free

      bound : Bound n limit (taken_in w d) o (s.P (s.slot o))
      bound = t.1 (λ y. omega (arith, t.0, y))

  -- ---- the heap's first node

  module _ (r : heap.Entry) (c : Decoded (get_or w (d * heap_from + 3) 0) r) where
    pub none_left : r.j ≡ 0 → (p : RankedPair) → p.j ≡ 0 → IsLeast n limit (taken_in w d) p
    none_left e p z =
        record {
          nothing =
              λ _. lazy_done (taken_in w d) (candidates n limit) active Held covers enough
              (λ x g. omega (arith, g.2, no_pair w (d * heap_from) slots s.owner s.P s.ground.sized.some plausible heap_leaves r c e g.0 g.1));
          something = λ k. absurd (omega arith);
        }

    -- the slot that it is
    pub at_slot : (r.j ≡ 0 → ⊥) → (x : ℕ) × AtSlot s.owner s.P slots r x
    at_slot = a_pair w (d * heap_from) slots s.owner s.P s.ground.sized.some plausible heap_leaves r c

    -- a node that is not of no pair is a pair's
    pub some_pair : (get_or w (d * heap_from + 3) 0 ≡ gone → ⊥) → r.j ≡ 0 → ⊥
    some_pair = code_pair w (d * heap_from) slots s.owner s.P s.ground.sized.some plausible heap_leaves r c

    module _ {x : ℕ} (t : AtSlot s.owner s.P slots r x) where
      holder : (s.owner x < d) × (s.slot (s.owner x) ≡ x) × (taken_in w d (s.owner x) ≡ false) × (x < d)
      holder = s.filled.holder x t.within (λ y. omega (arith, y, t.within)) t.some

      pub owner_in : r.owner < d
      owner_in = subst (λ (y : ℕ). y < d) t.owner_is holder.0

      pub owner_slot : s.slot r.owner ≡ x
      owner_slot = ap s.slot (sym t.owner_is) ∙ holder.1

      pub owner_free : taken_in w d r.owner ≡ false
      owner_free = ap (taken_in w d) (sym t.owner_is) ∙ holder.2

      pub slot_in : x < d
      slot_in = holder.3

      pub pair_lower : r.i < r.j
      pair_lower = omega (arith, t.i_is, t.j_is, plausible.lower x t.within t.some)

      pub pair_below : r.j < d
      pair_below = omega (arith, t.j_is, (in_candidates n limit (s.P x) (member x t.within t.some)).0.below, many)

      pub next_pair : busy (taken_in w d) (s.P x) ≡ false → IsLeast n limit (taken_in w d) (s.P x)
      next_pair b =
          record {
            nothing = λ e. absurd (omega (arith, t.some));
            something =
                λ k. lazy_least (taken_in w d) (candidates n limit) active Held covers enough (record { owner = s.owner x; best = s.P x })
                (λ e g. subst (λ (p : RankedPair). before p (s.P x) ≡ false) (sym g.3) (t.first g.0 g.1 g.2))
                (member x t.within t.some) b;
          }
