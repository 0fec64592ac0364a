-- Partners: joining is mutual, of two pieces, among the pieces' ends, and of ends with one key.
-- It is true because the ends of one key have one node, and the pairs that a node joins have no end twice.
use Prim.Native.Nat.{ℕ, ◌*◌, ◌≤◌, ◌<◌, zero-le}
use mathlib.Core.Path.{◌≡◌, refl, sym, ap, ◌∙◌}
use mathlib.Core.Logic.{◌≢◌}
use mathlib.Core.Bool.{Bool, true, false, ◌&&◌, and-eq-true_iff}
use mathlib.Core.List.{List, [], ◌∷◌, map}
use mathlib.Core.Option.{Option, none, some}
use native.Mathlib.Omega.{arith}
use native.Mathlib.Decide.{ℕ_discrete}
use lib.Dec.{eqb}
use lib.IntN.{ℤ, pos, negsuc}
use lib.Ieee.{Float}
use lib.ListN.{length}
use borrow.Author.Tests.{eqb-true, eqb-false}
use Rattle.rules.specs.Lists.{count, keep, upto}
use Rattle.rules.specs.Plane.{Key, key, same_int, same_key}
use Rattle.rules.specs.Walking.{piece_of}
use Rattle.rules.specs.Chaining.{Piece, Rule, key_at, node, chosen, joined, partner}
use Rattle.chain_laws.specs.Joins.{Joins}
use Rattle.chain_laws.proofs.Counts.{Each, nil, cons, each_map, each_weak, one_le, one_same, one_other, upto_out}
use Rattle.chain_laws.proofs.Kept.{keep_in}
use Rattle.chain_laws.proofs.Mates.{names, mate_in, mate_mutual, mate_each}
use Rattle.chain_laws.proofs.Selected.{ends, Good, names_in, select_good, select_once}

-- ---- keys

same_int_true : (a b : ℤ) → same_int a b ≡ true → a ≡ b
same_int_true (pos a) (pos b) h = ap pos (eqb-true a b h)
same_int_true (pos a) (negsuc b) h = let z : ◌≡◌ {A = ℕ} 0 1 = cc in absurd (omega arith)
same_int_true (negsuc a) (pos b) h = let z : ◌≡◌ {A = ℕ} 0 1 = cc in absurd (omega arith)
same_int_true (negsuc a) (negsuc b) h = ap negsuc (eqb-true a b h)

pub same_key_true : (a b : Key) → same_key a b ≡ true → a ≡ b
unfolding same_key
same_key_true (key g a b) (key h c d) t =
    let s = (and-eq-true_iff (eqb g h) (same_int a c && same_int b d)).0 t in
    let r = (and-eq-true_iff (same_int a c) (same_int b d)).0 s.1 in
    cc (eqb-true g h s.0, same_int_true a c r.0, same_int_true b d r.1)

module _ (rule : Rule) (ps : List Piece) where
  pub joined_good : (l : List ℕ) → Each (λ (q : ℕ × ℕ). Good l q.0 q.1) (joined rule ps l)
  unfolding joined count chosen
  joined_good [] = nil
  joined_good (a ∷ []) = nil
  joined_good (a ∷ b ∷ []) = go (eqb (piece_of a) (piece_of b)) refl
    where
      go : (t : Bool) → eqb (piece_of a) (piece_of b) ≡ t → Each (λ (q : ℕ × ℕ). Good (a ∷ b ∷ []) q.0 q.1) (joined rule ps (a ∷ b ∷ []))
      go true e = rw (e, joined) nil
      go false e = rw (e, joined) (cons (eqb-false (piece_of a) (piece_of b) e, omega (arith, one_same a a refl), omega (arith, one_same b b refl)) nil)
  joined_good (a ∷ b ∷ c ∷ l) = go rule.limit
    where
      go : (o : Option Float) → Each (λ (q : ℕ × ℕ). Good (a ∷ b ∷ c ∷ l) q.0 q.1) (map ends (chosen rule ps o (a ∷ b ∷ c ∷ l)))
      go none = nil
      go (some limit) = each_map ends (λ (q : ℕ × ℕ). Good (a ∷ b ∷ c ∷ l) q.0 q.1) _ (select_good rule ps (a ∷ b ∷ c ∷ l) limit)

  pub joined_once : (l : List ℕ) (x : ℕ) → count x (names (joined rule ps l)) ≤ 1
  unfolding joined count names chosen
  joined_once [] x = zero-le
  joined_once (a ∷ []) x = zero-le
  joined_once (a ∷ b ∷ []) x = go (eqb (piece_of a) (piece_of b)) refl
    where
      go : (t : Bool) → eqb (piece_of a) (piece_of b) ≡ t → count x (names (joined rule ps (a ∷ b ∷ []))) ≤ 1
      go true e = rw (e, joined, names, count) zero-le
      go false e =
          rw (e, joined, names, count)
          (elim (ℕ_discrete x a) [
            | yes q ↦ omega (arith, one_same x a q, one_other x b (λ r. eqb-false (piece_of a) (piece_of b) e (ap piece_of (sym q ∙ r))))
            | no q ↦ omega (arith, one_other x a q, one_le (eqb x b))
          ])
  joined_once (a ∷ b ∷ c ∷ l) x = go rule.limit
    where
      go : (o : Option Float) → count x (names (map ends (chosen rule ps o (a ∷ b ∷ c ∷ l)))) ≤ 1
      go none = zero-le
      go (some limit) = select_once rule ps (a ∷ b ∷ c ∷ l) limit x

  -- ---- partners

  pub node_key : (e x : ℕ) → 0 < count x (node rule ps e) → key_at rule ps e ≡ key_at rule ps x
  unfolding node
  node_key e x h =
      same_key_true (key_at rule ps e) (key_at rule ps x)
      (keep_in (λ f. same_key (key_at rule ps e) (key_at rule ps f)) x (upto (2 * length ps)) h).0

  pub node_same : (e x : ℕ) → key_at rule ps e ≡ key_at rule ps x → node rule ps x ≡ node rule ps e
  unfolding node
  node_same e x h = ap (λ (k : Key). keep (λ f. same_key k (key_at rule ps f)) (upto (2 * length ps))) (sym h)

  pub node_within : (e x : ℕ) → 0 < count x (node rule ps e) → x < 2 * length ps
  unfolding node
  node_within e x h =
      upto_out (2 * length ps) x
      (keep_in (λ f. same_key (key_at rule ps e) (key_at rule ps f)) x (upto (2 * length ps)) h).1

  -- both ends of a join are in the node
  both_in : (e f : ℕ) → partner rule ps e ≡ some f → (0 < count e (node rule ps e)) × (0 < count f (node rule ps e))
  unfolding partner
  both_in e f h =
      let m = mate_in e f (joined rule ps (node rule ps e)) h in (
        names_in (node rule ps e) (joined rule ps (node rule ps e)) (joined_good (node rule ps e)) e m.0,
        names_in (node rule ps e) (joined rule ps (node rule ps e)) (joined_good (node rule ps e)) f m.1,
      )

  pub partner_key : (e f : ℕ) → partner rule ps e ≡ some f → key_at rule ps e ≡ key_at rule ps f
  partner_key e f h = node_key e f (both_in e f h).1

  -- PARTNERS ARE MUTUAL, OF TWO PIECES, AND AMONG THE PIECES' ENDS
  pub partner_joins : Joins (length ps) (partner rule ps)
  unfolding partner
  partner_joins =
      record {
        mutually = λ e f h.
            rw (node_same e f (partner_key e f h)) (mate_mutual e f (joined rule ps (node rule ps e)) (joined_once (node rule ps e)) h);
        apart = λ e f h q.
            mate_each (λ a b. piece_of a ≢ piece_of b) (λ a b d r. d (sym r)) e f (joined rule ps (node rule ps e))
            (each_weak _ _ _ (λ q g. g.0) (joined_good (node rule ps e))) h (sym q);
        within = λ e f h. omega (arith, node_within e f (both_in e f h).1);
      }

  -- no end beyond the pieces has a partner
  pub partner_none : (e : ℕ) → 2 * length ps ≤ e → partner rule ps e ≡ none
  partner_none e h = go (partner rule ps e) refl
    where
      go : (o : Option ℕ) → partner rule ps e ≡ o → o ≡ none
      go none q = refl
      go (some f) q = absurd (omega (arith, node_within e e (both_in e f q).0))
