-- An owner's candidates: each is the owner with another end, and the order of pairs is that of their measures and other ends.
use Prim.Native.Nat.{ℕ, ◌≤◌, ◌<◌, min}
use mathlib.Core.Path.{◌≡◌, refl, sym, ap, ◌∙◌}
use mathlib.Core.Bool.{Bool, true, false}
use mathlib.Core.List.{List}
use mathlib.Core.Logic.{◌⊎◌, inl, inr, ⊎_elim}
use native.Mathlib.Omega.{arith}
use lib.Dec.{leb}
use borrow.Author.Tests.{leb-true, eqb-false, not-true}
use Rattle.rules.specs.Selecting.{End}
use Rattle.pair_bounds.specs.Search.{place}
use Rattle.pair_laws.specs.Ranked.{RankedPair, candidates, busy, before, qualifies}
use Rattle.pair_laws.specs.Sets.{In, EndOf}
use Rattle.pair_laws.specs.Ends.{end_at, there, key_of, node_of}
use Rattle.pair_laws.proofs.Order.{and_left, and_right, of_at_before}
use Rattle.pair_laws.proofs.Greedy.{or_false_left, or_false_right}
use Rattle.pair_laws.proofs.Laws.{in_candidates}
use Rattle.pair_laws.proofs.Ends.{key_sym}
use Rattle.pair_tree.specs.Places.{gone, none}
use Rattle.pair_tree.proofs.Flat.{below_or}

-- ---- a candidate of the owner o

module _ (l : List End) (limit : ℕ) where
  -- at its other end
  pub record Other (used : ℕ → Bool) (o : ℕ) (q : RankedPair) (e : ℕ) : Type 0 where
    pub free : used e ≡ false
    pub present : there (end_at l e).direction ≡ true
    pub differs : (end_at l e).piece ≡ (end_at l o).piece → ⊥
    pub keyed : q.key ≡ key_of (end_at l o).direction (end_at l e).direction
    pub limited : q.key ≤ limit
    pub which : ((q.i ≡ o) × (q.j ≡ e)) ⊎ ((q.i ≡ e) × (q.j ≡ o))
    pub lower : q.i < q.j

  pub other : (used : ℕ → Bool) (o : ℕ) (q : RankedPair) → In q (candidates (node_of l) limit) → busy used q ≡ false → EndOf o q → (e : ℕ) × Other used o q e
  unfolding qualifies busy
  other used o q m f w =
      let c = in_candidates (node_of l) limit q m in
      let may = and_left ((node_of l).may q.i q.j) (leb q.key limit) c.1 in
      let pi = and_left (there (end_at l q.i).direction) _ may in
      let rest = and_right (there (end_at l q.i).direction) _ may in
      let pj = and_left (there (end_at l q.j).direction) _ rest in
      let apart = eqb-false (end_at l q.i).piece (end_at l q.j).piece (not-true _ (and_right (there (end_at l q.j).direction) _ rest)) in
      let under : q.key ≤ limit = leb-true q.key limit (and_right ((node_of l).may q.i q.j) _ c.1) in
      ⊎_elim
      (λ (x : o ≡ q.i). (
        q.j,
        record {
          free = or_false_right (used q.i) (used q.j) f;
          present = pj;
          differs = λ z. apart (ap (λ (y : ℕ). (end_at l y).piece) (sym x) ∙ sym z);
          keyed = c.0.keyed ∙ ap (λ (y : ℕ). key_of (end_at l y).direction (end_at l q.j).direction) (sym x);
          limited = under;
          which = inl (sym x, refl);
          lower = c.0.lower;
        },
      ))
      (λ (x : o ≡ q.j). (
        q.i,
        record {
          free = or_false_left (used q.i) (used q.j) f;
          present = pi;
          differs = λ z. apart (z ∙ ap (λ (y : ℕ). (end_at l y).piece) x);
          keyed =
              c.0.keyed
              ∙ key_sym (end_at l q.i).direction (end_at l q.j).direction
              ∙ ap (λ (y : ℕ). key_of (end_at l y).direction (end_at l q.i).direction) (sym x);
          limited = under;
          which = inr (refl, sym x);
          lower = c.0.lower;
        },
      ))
      w

-- ---- the order of an owner's pairs

-- b's pair: the ends o and x, the lower first
abbrev pub Made : ℕ → ℕ → ℕ → RankedPair → Type 0
Made k o x b = (b.key ≡ k) × (((b.i ≡ x) × (b.j ≡ o) × (x < o)) ⊎ ((b.i ≡ o) × (b.j ≡ x) × (o < x)))

pub in_order : (k o x e : ℕ) (b : RankedPair) (q : RankedPair) → Made k o x b → q.i < q.j → ((q.i ≡ o) × (q.j ≡ e)) ⊎ ((q.i ≡ e) × (q.j ≡ o))
    → x < gone → e < gone → place k x ≤ place q.key e → before q b ≡ false
in_order k o x e b q (u, m) l w hx he h =
    of_at_before b q (⊎_elim
    (λ (c : k < q.key). inl (omega arith))
    (λ (c : q.key ≤ k). inr (omega arith, ends m w (omega arith)))
    (below_or k q.key))
  where
    ends : ((b.i ≡ x) × (b.j ≡ o) × (x < o)) ⊎ ((b.i ≡ o) × (b.j ≡ x) × (o < x)) → ((q.i ≡ o) × (q.j ≡ e)) ⊎ ((q.i ≡ e) × (q.j ≡ o)) → x ≤ e
        → (b.i < q.i) ⊎ ((b.i ≡ q.i) × (b.j ≤ q.j))
    ends (inl (p, r, s)) (inl (y, z)) c = inl (omega arith)
    ends (inl (p, r, s)) (inr (y, z)) c = ⊎_elim (λ (d : x < e). inl (omega arith)) (λ (d : e ≤ x). inr (omega arith, omega arith)) (below_or x e)
    ends (inr (p, r, s)) (inl (y, z)) c = inr (omega arith, omega arith)
    ends (inr (p, r, s)) (inr (y, z)) c = absurd (omega arith)

-- ---- places and their least, over variables

above : (k i l j : ℕ) → k < l → i ≤ gone → place k i < place l j
above k i l j h g = omega arith

pub under_all : (k i : ℕ) → k < gone → i ≤ gone → place k i < none
unfolding none
under_all k i h g = above k i gone gone h g

pub strictly : (a b : ℕ) → a ≤ b → (b ≡ a → ⊥) → a < b
strictly a b h e = omega arith

pub key_under : (k i l : ℕ) → place k i ≤ place l gone → k ≤ l
key_under k i l h = omega arith

pub place_below : (k e l : ℕ) → k ≤ l → e < gone → place k e < place l gone
place_below k e l h g = omega arith

pub min_under : (a b c x : ℕ) → a ≡ min b c → c ≤ x → a ≤ x
min_under a b c x e h = omega arith

pub min_apart : (a b c : ℕ) → a ≡ min b c → (a ≡ b → ⊥) → a ≡ c
min_apart a b c e h = omega arith

pub min_top : (a b c : ℕ) → a ≡ min b c → a ≤ b
min_top a b c e = omega arith
