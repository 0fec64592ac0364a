-- Whether the node of e can join ends, by the words behind e that the code reads.
use Prim.Native.Nat.{ℕ, ◌+◌, ◌*◌, ◌/◌, ◌≤◌, ◌<◌}
use mathlib.Core.Path.{◌≡◌, ap, ◌∙◌}
use mathlib.Core.Bool.{Bool, false, not}
use mathlib.Core.List.{List}
use lib.Dec.{eqb}
use lib.ListN.{get_or}
use borrow.Author.Tests.{le-leb, lt-leb}
use Rattle.chain_grouping.specs.Group.{Nodes}
use Rattle.chain_grouping.specs.Map.{last_block, next_block}
use Rattle.chain_joins.specs.Node.{node_of, leading}
use Rattle.chain_joins.proofs.Cases.{node_alone, node_pair, node_many}
use Rattle.chain_apart.specs.Apart.{joinable, meets_at}

module _ (on : Bool) (v : List ℕ) (m e : ℕ) where
  pub meets_leader : e ≤ get_or v (m * last_block + e) 0 → meets_at on v m e ≡ joinable on (node_of v m e)
  unfolding meets_at leading
  meets_leader h = rw (le-leb e (get_or v (m * last_block + e) 0) h, meets_at)

  pub meets_other : get_or v (m * last_block + e) 0 < e → meets_at on v m e ≡ false
  unfolding meets_at leading
  meets_other h = rw (lt-leb e (get_or v (m * last_block + e) 0) h, meets_at)

  module _ (N : Nodes v v m) (he : e < m) (le : e ≤ get_or v (m * last_block + e) 0) where
    pub meets_alone : get_or v (m * next_block + e) 0 ≡ 0 → meets_at on v m e ≡ false
    unfolding joinable
    meets_alone z = meets_leader le ∙ ap (joinable on) (node_alone N he le z)

    module _ (f : ℕ) (at : get_or v (m * next_block + e) 0 ≡ f) (p : 0 < f) where
      pub meets_two : get_or v (m * next_block + f) 0 ≡ 0 → meets_at on v m e ≡ not (eqb (e / 2) (f / 2))
      unfolding joinable
      meets_two z = meets_leader le ∙ ap (joinable on) (node_pair N he le f at p z)

      pub meets_many : (get_or v (m * next_block + f) 0 ≡ 0 → ⊥) → meets_at on v m e ≡ on
      unfolding joinable
      meets_many z = meets_leader le ∙ ap (joinable on) (node_many N he le f at p z).2
