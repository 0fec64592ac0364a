-- One node more: what an end adds to the pairs, by the words behind it, and the pairs of the ends so far.
use Prim.Native.Nat.{ℕ, ◌+◌, ◌*◌, ◌/◌, ◌≤◌, ◌<◌}
use mathlib.Core.Path.{◌≡◌, refl, sym, ap, ◌∙◌, subst}
use mathlib.Core.Logic.{◌≢◌}
use mathlib.Core.List.{List, [], ◌∷◌, ◌++◌, map, flat_map, append-nil, append_assoc}
use mathlib.Core.Option.{Option, none}
use native.Mathlib.Omega.{arith}
use native.Mathlib.Decide.{dec_lt}
use borrow.Author.Tests.{le-leb, lt-leb}
use lib.Ieee.{Float}
use lib.ListN.{get_or, drop}
use lib.Seq.{slice}
use Rattle.std.specs.Prelude.{Option as Maybe}
use Rattle.rules.specs.Selecting.{Pair}
use Rattle.rules.specs.Chaining.{Piece, Rule, chosen, joined}
use Rattle.rules.specs.Lists.{keep, from, upto}
use Rattle.chain_laws.specs.Table.{put, fill}
use Rattle.chain_grouping.specs.Group.{Nodes}
use Rattle.chain_joins.specs.Node.{node_of, leading, runs_to}
use Rattle.chain_joins.proofs.Cases.{node_alone, node_pair, node_many, joined_alone, joined_own, joined_two, joined_many}
use Rattle.chain_joins.proofs.Runs.{runs_on, runs_off}
use Rattle.chain_nodes.specs.Noded.{Noded, Joined, joins_at}
use Rattle.chain_nodes.proofs.Frames.{joined_same, joined_then, groups_same}
use Rattle.chain_grouping.specs.Map.{last_block, next_block}
use Rattle.chain_pieces.specs.Map.{group_block, join_block}

pub fill_none : (t : List ℕ) (l : List (ℕ × ℕ)) → l ≡ [] → t ≡ fill t l
unfolding fill
fill_none t l e = sym (ap (fill t) e)

fill_append : (t : List ℕ) (l r : List (ℕ × ℕ)) → fill t (l ++ r) ≡ fill (fill t l) r
unfolding fill
fill_append t [] r = refl
fill_append t (q ∷ l) r = fill_append (put t q) l r

-- ---- what an end adds

module _ (rule : Rule) (ps : List Piece) (v : List ℕ) (m e : ℕ) where
  pub at_leader : e ≤ get_or v (m * last_block + e) 0 → joins_at rule ps v m e ≡ joined rule ps (node_of v m e)
  unfolding joins_at leading
  at_leader h = rw (le-leb e (get_or v (m * last_block + e) 0) h, joins_at)

  pub at_other : get_or v (m * last_block + e) 0 < e → joins_at rule ps v m e ≡ []
  unfolding joins_at leading
  at_other h = rw (lt-leb e (get_or v (m * last_block + e) 0) h, joins_at)

  module _ (N : Nodes v v m) (he : e < m) (le : e ≤ get_or v (m * last_block + e) 0) where
    pub at_alone : get_or v (m * next_block + e) 0 ≡ 0 → joins_at rule ps v m e ≡ []
    at_alone z = at_leader le ∙ ap (joined rule ps) (node_alone N he le z) ∙ joined_alone rule ps e

    module _ (f : ℕ) (at : get_or v (m * next_block + e) 0 ≡ f) (p : 0 < f) where
      pub at_own : get_or v (m * next_block + f) 0 ≡ 0 → e / 2 ≡ f / 2 → joins_at rule ps v m e ≡ []
      at_own z q = at_leader le ∙ ap (joined rule ps) (node_pair N he le f at p z) ∙ joined_own rule ps e f q

      pub at_two : get_or v (m * next_block + f) 0 ≡ 0 → e / 2 ≢ f / 2 → joins_at rule ps v m e ≡ (e, f) ∷ []
      at_two z q = at_leader le ∙ ap (joined rule ps) (node_pair N he le f at p z) ∙ joined_two rule ps e f q

      pub at_off : (get_or v (m * next_block + f) 0 ≡ 0 → ⊥) → rule.limit ≡ none → joins_at rule ps v m e ≡ []
      unfolding chosen
      at_off z o =
          let k = node_many N he le f at p z in
          at_leader le ∙ ap (joined rule ps) k.2 ∙ joined_many rule ps e f k.0 k.1
          ∙ ap (λ (x : Option Float). map (λ (q : Pair). (q.i, q.j)) (chosen rule ps x (e ∷ f ∷ k.0 ∷ k.1))) o

-- ---- end by end

flat_snoc : (rule : Rule) (ps : List Piece) (rs : List (List ℕ)) (r : List ℕ) → flat_map (joined rule ps) (rs ++ (r ∷ [])) ≡ flat_map (joined rule ps) rs ++ joined rule ps r
unfolding flat_map
flat_snoc rule ps [] r = append-nil (joined rule ps r)
flat_snoc rule ps (a ∷ rs) r =
    ap (λ (l : List (ℕ × ℕ)). joined rule ps a ++ l) (flat_snoc rule ps rs r) ∙ sym (append_assoc (joined rule ps a) (flat_map (joined rule ps) rs) (joined rule ps r))

one_more : (rule : Rule) (ps : List Piece) (v : List ℕ) (m i : ℕ)
    → flat_map (joined rule ps) (runs_to v m (i + 1)) ≡ flat_map (joined rule ps) (runs_to v m i) ++ joins_at rule ps v m i
one_more rule ps v m i =
    elim (dec_lt (get_or v (m * last_block + i) 0) i) [
      | yes h ↦
          ap (flat_map (joined rule ps)) (runs_off v m i h) ∙ sym (append-nil (flat_map (joined rule ps) (runs_to v m i)))
          ∙ ap (λ (l : List (ℕ × ℕ)). flat_map (joined rule ps) (runs_to v m i) ++ l) (sym (at_other rule ps v m i h))
      | no h ↦
          ap (flat_map (joined rule ps)) (runs_on v m i (omega arith)) ∙ flat_snoc rule ps (runs_to v m i) (node_of v m i)
          ∙ ap (λ (l : List (ℕ × ℕ)). flat_map (joined rule ps) (runs_to v m i) ++ l) (sym (at_leader rule ps v m i (omega arith)))
    ]

module _ {width : ℕ} {w₀ : List ℕ} {n m : ℕ} {limit : Maybe Float} {input spare : List ℕ} (y : Noded width w₀ n m limit input spare) where
  -- the joins of the nodes that the first e ends lead
  abbrev pub Joining : List ℕ → ℕ → Type 0
  Joining w e = Joined w w₀ n m (fill (slice (n * join_block) (n * join_block + m) w₀) (flat_map (joined y.rule y.ps) (runs_to (drop (n * group_block) w₀) m e)))

  pub joining_start : Joining w₀ 0
  unfolding runs_to fill keep upto from flat_map
  joining_start = joined_same w₀ n m _ refl

  pub joining_step : {w w' : List ℕ} (e : ℕ) (j : Joining w e)
      → Joined w' w n m (fill (slice (n * join_block) (n * join_block + m) w) (joins_at y.rule y.ps (drop (n * group_block) w) m e)) → Joining w' (e + 1)
  joining_step {w} {w'} e j k =
      let B = joined_then j k in
      record {
        size = B.size;
        joins =
            B.joins
            ∙ ap (λ (v : List ℕ). fill (slice (n * join_block) (n * join_block + m) w) (joins_at y.rule y.ps v m e)) (groups_same y j)
            ∙ ap (λ (t : List ℕ). fill t (joins_at y.rule y.ps (drop (n * group_block) w₀) m e)) j.joins
            ∙ sym (fill_append (slice (n * join_block) (n * join_block + m) w₀) (flat_map (joined y.rule y.ps) (runs_to (drop (n * group_block) w₀) m e)) (joins_at y.rule y.ps (drop (n * group_block) w₀) m e))
            ∙ ap (fill (slice (n * join_block) (n * join_block + m) w₀)) (sym (one_more y.rule y.ps (drop (n * group_block) w₀) m e));
        kept = B.kept;
        beyond = B.beyond;
      }

  pub joining_done : {w : List ℕ} (e : ℕ) → Joining w e → e ≡ m → Joining w m
  joining_done {w} e j q = subst (λ (i : ℕ). Joining w i) q j
