-- The arms of one node's step, in the words that the code reads: what is put, if anything, are the joins that the node adds.
use Prim.Native.Nat.{ℕ, ◌+◌, ◌*◌, ◌/◌, ◌≤◌, ◌<◌}
use mathlib.Core.Path.{◌≡◌, sym, ap, ◌∙◌, subst}
use mathlib.Core.Logic.{◌≢◌}
use mathlib.Core.List.{List, []}
use native.Mathlib.Omega.{arith}
use lib.Ieee.{Float}
use lib.ListN.{get_or, drop}
use lib.Seq.{slice, get_or-drop}
use Rattle.std.specs.Prelude.{Option as Maybe, Some, None}
use Rattle.rules.specs.Chaining.{joined}
use Rattle.chain_laws.specs.Table.{put, fill}
use Rattle.point_slices.specs.Holds.{HoldsFrom}
use Rattle.chain_joins.specs.Node.{node_of}
use Rattle.chain_joins.proofs.Cases.{second}
use Rattle.chain_nodes.specs.Noded.{limit_in, Noded, Junction, Joined, joins_at}
use Rattle.chain_nodes.proofs.Frames.{joined_same, joined_put, joins_room, ends_few}
use Rattle.chain_nodes.proofs.Turns.{fill_none, at_leader, at_other, at_alone, at_own, at_two, at_off}
use Rattle.chain_grouping.specs.Map.{last_block, next_block}
use Rattle.chain_pieces.specs.Map.{group_block, join_block}

-- a word of the groups
pub word : (w : List ℕ) (a b i : ℕ) → get_or w (a + b + i) 0 ≡ get_or (drop a w) (b + i) 0
word w a b i = let p : a + b + i ≡ a + (b + i) = omega arith in ap (λ (j : ℕ). get_or w j 0) p ∙ sym (get_or-drop a w (b + i) 0)

module _ {width : ℕ} {w : List ℕ} {n m : ℕ} {limit : Maybe Float} {input spare : List ℕ} (y : Noded width w n m limit input spare) (e : ℕ) (he : e < m) where
  abbrev v : List ℕ
  v = drop (n * group_block) w

  abbrev before : List ℕ
  before = slice (n * join_block) (n * join_block + m) w

  abbrev adds : List (ℕ × ℕ)
  adds = joins_at y.rule y.ps (drop (n * group_block) w) m e

  stays : adds ≡ [] → Joined w w n m (fill before adds)
  stays q = joined_same w n m (fill before adds) (fill_none before adds q)

  pub step_other : get_or w (n * group_block + m * last_block + e) 0 < e → Joined w w n m (fill before adds)
  step_other h = stays (at_other y.rule y.ps v m e (omega (arith, word w (n * group_block) (m * last_block) e)))

  module _ (led : e ≤ get_or w (n * group_block + m * last_block + e) 0) where
    pub leads : e ≤ get_or v (m * last_block + e) 0
    leads = omega (arith, word w (n * group_block) (m * last_block) e)

    pub step_alone : get_or w (n * group_block + m * next_block + e) 0 ≡ 0 → Joined w w n m (fill before adds)
    step_alone z = stays (at_alone y.rule y.ps v m e y.nodes he leads (sym (word w (n * group_block) (m * next_block) e) ∙ z))

    module _ (f : ℕ) (at : get_or w (n * group_block + m * next_block + e) 0 ≡ f) (p : f ≡ 0 → ⊥) where
      pub at_v : get_or v (m * next_block + e) 0 ≡ f
      at_v = sym (word w (n * group_block) (m * next_block) e) ∙ at

      pub next_in : (e < f) × (f < m)
      next_in = second y.nodes he leads f at_v (omega arith)

      next_word : {k : ℕ} → get_or w (n * group_block + m * next_block + f) 0 ≡ k → get_or v (m * next_block + f) 0 ≡ k
      next_word q = sym (word w (n * group_block) (m * next_block) f) ∙ q

      pub step_own : get_or w (n * group_block + m * next_block + f) 0 ≡ 0 → e / 2 ≡ f / 2 → Joined w w n m (fill before adds)
      step_own z q = stays (at_own y.rule y.ps v m e y.nodes he leads f at_v (omega arith) (next_word z) q)

      pub step_two : get_or w (n * group_block + m * next_block + f) 0 ≡ 0 → e / 2 ≢ f / 2 → {w' : List ℕ} → HoldsFrom w' w (n * join_block) m (put before (e, f)) → Joined w' w n m (fill before adds)
      unfolding fill
      step_two z q {w'} H =
          subst (λ (t : List ℕ). Joined w' w n m t)
          (sym (ap (fill before) (at_two y.rule y.ps v m e y.nodes he leads f at_v (omega arith) (next_word z) q)))
          (joined_put H (joins_room y) (omega (arith, ends_few y)))

      pub step_off : (get_or w (n * group_block + m * next_block + f) 0 ≡ 0 → ⊥) → limit ≡ None → Joined w w n m (fill before adds)
      step_off z o =
          stays
          (at_off y.rule y.ps v m e y.nodes he leads f at_v (omega arith) (λ q. z (word w (n * group_block) (m * next_block) f ∙ q))
          (y.limited ∙ ap limit_in o))

      unfoldable pub step_junction : (get_or w (n * group_block + m * next_block + f) 0 ≡ 0 → ⊥) → {x : Float} → limit ≡ Some x → Junction width w n m e x input spare
      step_junction z {x} o =
          record {
            noded = record {
              rule = y.rule;
              counts = y.counts;
              ps = y.ps;
              two = y.two;
              few = y.few;
              ends = y.ends;
              room = y.room;
              held = y.held;
              limited = y.limited ∙ ap limit_in o;
              fair = λ z q. y.fair z (o ∙ q);
              nodes = y.nodes;
              keys = y.keys;
            };
            within = he;
            leads = leads;
            more = omega (arith, at_v);
            many = omega (arith, word w (n * group_block) (m * next_block) f, ap (λ (i : ℕ). get_or v (m * next_block + i) 0) at_v, z);
          }

  pub step_many : {w' : List ℕ} → e ≤ get_or w (n * group_block + m * last_block + e) 0
      → Joined w' w n m (fill (slice (n * join_block) (n * join_block + m) w) (joined y.rule y.ps (node_of (drop (n * group_block) w) m e))) → Joined w' w n m (fill before adds)
  step_many {w'} led j =
      subst (λ (t : List (ℕ × ℕ)). Joined w' w n m (fill before t))
      (sym (at_leader y.rule y.ps v m e (omega (arith, word w (n * group_block) (m * last_block) e)))) j
