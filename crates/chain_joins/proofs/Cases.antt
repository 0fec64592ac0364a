-- The node of a leader by the words behind it: alone, with one more end, or with several; and what the book joins of each.
use Prim.Native.Nat.{ℕ, zero, suc, ◌+◌, ◌-◌, ◌*◌, ◌/◌, ◌≤◌, ◌<◌}
use mathlib.Core.Path.{◌≡◌, refl, sym, ap, ◌∙◌}
use mathlib.Core.Logic.{◌≢◌}
use mathlib.Core.List.{List, [], ◌∷◌, map}
use native.Mathlib.Omega.{arith}
use lib.ListN.{get_or}
use borrow.Author.Tests.{eq-eqb, ne_eqb}
use Rattle.rules.specs.Selecting.{Pair}
use Rattle.rules.specs.Chaining.{Piece, Rule, chosen, joined}
use Rattle.chain_grouping.specs.Group.{follow, Nodes}
use Rattle.chain_grouping.proofs.Nodes.{follow_stop, follow_next}
use Rattle.chain_joins.specs.Node.{node_of}
use Rattle.chain_grouping.specs.Map.{last_block, next_block}

-- a list begins with the end that it is followed from
begins : (next : ℕ → ℕ) (n e : ℕ) → 0 < n → (l : List ℕ) × (follow next n e ≡ e ∷ l)
unfolding follow
begins next zero e h = absurd (omega arith)
begins next (suc n) e h = (elim (next e) [ zero ↦ [] | suc f ↦ follow next n (suc f) ], refl)

module _ {v : List ℕ} {m e : ℕ} (N : Nodes v v m) (he : e < m) (le : e ≤ get_or v (m * last_block + e) 0) where
  behind : node_of v m e ≡ follow (λ x. get_or v (m * next_block + x) 0) m e
  unfolding node_of
  behind = sym (N.node e he le)

  pub node_alone : get_or v (m * next_block + e) 0 ≡ 0 → node_of v m e ≡ e ∷ []
  node_alone z = behind ∙ follow_stop (λ x. get_or v (m * next_block + x) 0) m e (omega arith) z

  module _ (b : ℕ) (at : get_or v (m * next_block + e) 0 ≡ b) (p : 0 < b) where
    pub second : (e < b) × (b < m)
    second = let r = N.rises e he (omega arith) in (omega (arith, r.0), omega (arith, r.1))

    two : node_of v m e ≡ e ∷ follow (λ x. get_or v (m * next_block + x) 0) (m - 1) b
    two =
        behind ∙ follow_next (λ x. get_or v (m * next_block + x) 0) m e (omega arith) (omega arith)
        ∙ ap {B = List ℕ} (λ y. e ∷ follow (λ x. get_or v (m * next_block + x) 0) (m - 1) y) at

    pub node_pair : get_or v (m * next_block + b) 0 ≡ 0 → node_of v m e ≡ e ∷ b ∷ []
    node_pair z =
        two ∙ ap {B = List ℕ} (λ l. e ∷ l) (follow_stop (λ x. get_or v (m * next_block + x) 0) (m - 1) b (omega (arith, second.0, second.1)) z)

    pub node_many : (get_or v (m * next_block + b) 0 ≡ 0 → ⊥) → (c : ℕ) × (l : List ℕ) × (node_of v m e ≡ e ∷ b ∷ c ∷ l)
    node_many h =
        let z : 0 < get_or v (m * next_block + b) 0 = omega arith in
        let r = N.rises b second.1 z in
        let l = begins (λ x. get_or v (m * next_block + x) 0) (m - 1 - 1) (get_or v (m * next_block + b) 0) (omega (arith, r.0, r.1, second.0)) in (
          get_or v (m * next_block + b) 0,
          l.0,
          two
              ∙ ap {B = List ℕ} (λ l. e ∷ l)
              (follow_next (λ x. get_or v (m * next_block + x) 0) (m - 1) b (omega (arith, second.0, second.1)) z
              ∙ ap {B = List ℕ} (λ l. b ∷ l) l.1),
        )

-- ---- what the book joins

module _ (rule : Rule) (ps : List Piece) where
  pub joined_alone : (a : ℕ) → joined rule ps (a ∷ []) ≡ []
  unfolding joined
  joined_alone a = refl

  pub joined_own : (a b : ℕ) → a / 2 ≡ b / 2 → joined rule ps (a ∷ b ∷ []) ≡ []
  unfolding joined
  joined_own a b h = rw (eq-eqb (a / 2) (b / 2) h, joined)

  pub joined_two : (a b : ℕ) → a / 2 ≢ b / 2 → joined rule ps (a ∷ b ∷ []) ≡ (a, b) ∷ []
  unfolding joined
  joined_two a b h = rw (ne_eqb (a / 2) (b / 2) h, joined)

  pub joined_many : (a b c : ℕ) (l : List ℕ) → joined rule ps (a ∷ b ∷ c ∷ l) ≡ map (λ (p : Pair). (p.i, p.j)) (chosen rule ps rule.limit (a ∷ b ∷ c ∷ l))
  unfolding joined
  joined_many a b c l = refl
