-- A round whose nodes can join no ends leaves the pieces as they are: no node has a pair, so no end has a partner, and each piece is a walk of its own.
use Prim.Native.Nat.{ℕ, zero, suc, ◌+◌, ◌*◌, ◌<◌}
use mathlib.Core.Path.{◌≡◌, refl, sym, ap, ◌∙◌}
use mathlib.Core.Bool.{Bool, true, false, cond}
use mathlib.Core.List.{List, [], ◌∷◌, ◌++◌, map, flat_map}
use mathlib.Core.Option.{Option, none, some}
use native.Mathlib.Omega.{arith}
use native.Mathlib.Decide.{dec_lt}
use lib.Dec.{eqb}
use lib.Ieee.{Float}
use lib.ListN.{length, get_or, replicate, length-replicate}
use borrow.Author.Tests.{eqb-true, not-false}
use Rattle.rules.specs.Lists.{keep, from, upto}
use Rattle.rules.specs.Plane.{same_key}
use Rattle.rules.specs.Selecting.{Pair}
use Rattle.rules.specs.Walking.{piece_of}
use Rattle.rules.specs.Chaining.{Piece, Rule, nothing, key_at, chosen, joined, partner, merge, join}
use Rattle.chain_laws.specs.Table.{decode, table_of, from_table, fill}
use Rattle.chain_laws.proofs.Drawn.{Drawn}
use Rattle.chain_laws.proofs.Tables.{partners_table}
use Rattle.chain_grouping.specs.Group.{same_words, words_of, Nodes}
use Rattle.chain_grouping.specs.Map.{last_block}
use Rattle.chain_joins.specs.Node.{node_of, runs_to}
use Rattle.chain_joins.proofs.Cases.{joined_own, joined_many}
use Rattle.chain_joins.proofs.Runs.{runs_on, runs_off, runs_table}
use Rattle.chain_keeping.proofs.Alone.{alones_merged}
use Rattle.chain_apart.specs.Apart.{joinable, apart_to}
use Rattle.chain_apart.proofs.Arms.{meets_leader}
use Rattle.chain_apart.proofs.Turns.{apart_parts}
use Rattle.chain_apart.proofs.Alone.{walks_free}

flat_none : {A B : Type 0} (g : A → List B) (rs : List A) (r : A) → flat_map g rs ≡ [] → g r ≡ [] → flat_map g (rs ++ (r ∷ [])) ≡ []
unfolding flat_map
flat_none g [] r h k = ap (λ l. l ++ []) k
flat_none {B = B} g (a ∷ rs) r h k = both (g a) h (λ q. flat_none g rs r q k)
  where
    both : (l : List B) → l ++ flat_map g rs ≡ [] → (flat_map g rs ≡ [] → flat_map g (rs ++ (r ∷ [])) ≡ []) → l ++ flat_map g (rs ++ (r ∷ [])) ≡ []
    both [] q rec = rec q
    both (b ∷ l) q rec = let z : ◌≡◌ {A = ℕ} 0 1 = cc in absurd (omega arith)

-- a row of zeros
zeros_at : (n e : ℕ) → get_or {A = ℕ} (replicate n 0) e 0 ≡ 0
zeros_at zero e = refl
zeros_at (suc n) zero = refl
zeros_at (suc n) (suc e) = zeros_at n e

module _ (rule : Rule) (ps : List Piece) (on : Bool) (limit : Float) (limited : rule.limit ≡ cond on (some limit) none) where
  -- ends that can't be joined aren't
  joined_none : (l : List ℕ) → joinable on l ≡ false → joined rule ps l ≡ []
  unfolding joinable joined chosen
  joined_none [] h = refl
  joined_none (a ∷ []) h = refl
  joined_none (a ∷ b ∷ []) h = joined_own rule ps a b (eqb-true (piece_of a) (piece_of b) (not-false (eqb (piece_of a) (piece_of b)) h))
  joined_none (a ∷ b ∷ c ∷ l) h =
      joined_many rule ps a b c l
      ∙ ap (λ (x : Option Float). map (λ (q : Pair). (q.i, q.j)) (chosen rule ps x (a ∷ b ∷ c ∷ l))) (limited ∙ ap (λ (t : Bool). cond t (some limit) none) h)

  module _ (v : List ℕ) (m : ℕ) where
    runs_none : (i : ℕ) → apart_to on v m i ≡ true → flat_map (joined rule ps) (runs_to v m i) ≡ []
    unfolding runs_to keep upto from flat_map
    runs_none zero h = refl
    runs_none (suc i) h =
        let k = apart_parts on v m i h in
        let rest = runs_none i k.1 in
        let q : suc i ≡ i + 1 = omega arith in
        elim (dec_lt (get_or v (m * last_block + i) 0) i) [
          | yes l ↦ ap (λ (j : ℕ). flat_map (joined rule ps) (runs_to v m j)) q ∙ ap (flat_map (joined rule ps)) (runs_off v m i l) ∙ rest
          | no l ↦
              ap (λ (j : ℕ). flat_map (joined rule ps) (runs_to v m j)) q ∙ ap (flat_map (joined rule ps)) (runs_on v m i (omega arith))
              ∙ flat_none (joined rule ps) (runs_to v m i) (node_of v m i) rest (joined_none (node_of v m i) (sym (meets_leader on v m i (omega arith)) ∙ k.0))
        ]

    module _ (size : m ≡ 2 * length ps) (N : Nodes v v m)
        (keys : (e f : ℕ) → e < m → f < m → same_words (words_of v m e) (words_of v m f) ≡ same_key (key_at rule ps e) (key_at rule ps f))
        (none-meet : apart_to on v m m ≡ true)
      where
        table_zeros : table_of (partner rule ps) (2 * length ps) ≡ replicate (2 * length ps) 0
        unfolding fill
        table_zeros =
            sym (runs_table v m N rule ps size keys (replicate (2 * length ps) 0) (length-replicate (2 * length ps) 0) (zeros_at (2 * length ps)))
            ∙ ap (fill (replicate (2 * length ps) 0)) (runs_none m none-meet)

        partners_none : (e : ℕ) → partner rule ps e ≡ none
        unfolding from_table decode
        partners_none e =
            ap (λ (p : ℕ → Option ℕ). p e) (sym (partners_table rule ps))
            ∙ ap (λ (t : List ℕ). from_table t e) table_zeros
            ∙ ap decode (zeros_at (2 * length ps) e)

-- A ROUND THAT CAN JOIN NO ENDS LEAVES THE PIECES AS THEY ARE
pub apart_join : (rule : Rule) (ps : List Piece) (v : List ℕ) (m : ℕ) (on : Bool) (limit : Float)
    → m ≡ 2 * length ps
    → Nodes v v m
    → ((e f : ℕ) → e < m → f < m → same_words (words_of v m e) (words_of v m f) ≡ same_key (key_at rule ps e) (key_at rule ps f))
    → rule.limit ≡ cond on (some limit) none
    → ((q : ℕ) → q < length ps → Drawn (get_or ps q nothing))
    → apart_to on v m m ≡ true
    → join rule ps ≡ ps
unfolding join
apart_join rule ps v m on limit size N keys limited drawn none-meet =
    ap (map (merge rule ps)) (walks_free (partner rule ps) (partners_none rule ps on limit limited v m size N keys none-meet) (length ps)) ∙ alones_merged rule ps drawn
