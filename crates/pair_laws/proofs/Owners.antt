-- Two owners of a direction are enough for all later ends of it, where no piece number occurs more than twice. Let the lower end i of a free
-- candidate (i, j) be no owner. Of its two owners one is of another piece than j; with j it makes a free candidate of the same key, before (i, j).
use Prim.Native.Nat.{ℕ, ◌<◌}
use mathlib.Core.Path.{◌≡◌, refl, sym, ◌∙◌, ap}
use mathlib.Core.Bool.{Bool, true, false}
use mathlib.Core.Logic.{◌⊎◌, inl, inr, ⊎_elim}
use mathlib.Core.List.{List}
use native.Mathlib.Omega.{arith}
use lib.ListN.{length}
use lib.Dec.{eqb, leb}
use borrow.Author.Tests.{eqb-true, eqb-false, ne_eqb}
use Rattle.rules.specs.Answers.{Direction}
use Rattle.rules.specs.Selecting.{End}
use Rattle.pair_laws.specs.Ranked.{RankedPair, Node, before, qualifies, candidates, busy}
use Rattle.pair_laws.specs.Sets.{In, EndOf, Enough, PairEnds}
use Rattle.pair_laws.specs.Ends.{end_at, there, key_of, node_of}
use Rattle.pair_laws.specs.Owners.{Stands, Led, AtMostTwice}
use Rattle.pair_laws.proofs.Order.{two, and_left, and_right, irrefl, of_at_before}
use Rattle.pair_laws.proofs.Greedy.{or_false_left, or_false_right}
use Rattle.pair_laws.proofs.Laws.{in_candidates, candidates_in}

module _
    (n : Node)
    (There : ℕ → Type 0)
    (Alike : ℕ → ℕ → Type 0)
    (piece : ℕ → ℕ)
    (there : (x z : ℕ) → n.may x z ≡ true → There x)
    (same_key : (y x z : ℕ) → Alike y x → n.key y z ≡ n.key x z)
    (same_may : (y x z : ℕ) → There y → n.may x z ≡ true → (piece y ≡ piece z → ⊥) → n.may y z ≡ true)
    (twice : AtMostTwice piece n.d) where
  -- of two owners one is not of the piece of z
  other_piece : (a b z : ℕ) → a < b → b < z → z < n.d → (piece a ≡ piece z → ⊥) ⊎ (piece b ≡ piece z → ⊥)
  other_piece a b z h k l = go (two (eqb (piece a) (piece z)))
    where
      go : (eqb (piece a) (piece z) ≡ true) ⊎ (eqb (piece a) (piece z) ≡ false) → (piece a ≡ piece z → ⊥) ⊎ (piece b ≡ piece z → ⊥)
      go (inl e) = inr (λ f. twice a b z h k l (eqb-true (piece a) (piece z) e ∙ sym f) f)
      go (inr e) = inl (eqb-false (piece a) (piece z) e)

  pub led_enough : (limit : ℕ) (used active : ℕ → Bool) → Led There Alike used active → Enough used (candidates n limit) active
  unfolding qualifies busy
  led_enough limit used active led q m f = which (two (active q.i))
    where
      e : PairEnds n.key n.d q
      e = (in_candidates n limit q m).0

      ok : qualifies n limit q ≡ true
      ok = (in_candidates n limit q m).1

      may_q : n.may q.i q.j ≡ true
      may_q = and_left (n.may q.i q.j) (leb q.key limit) ok

      leb_q : leb q.key limit ≡ true
      leb_q = and_right (n.may q.i q.j) (leb q.key limit) ok

      instead : (y : ℕ) → Stands There Alike used active q.i y → (piece y ≡ piece q.j → ⊥)
          → (p : RankedPair) × (o : ℕ) × In p (candidates n limit) × (busy used p ≡ false) × (before q p ≡ false) × (active o ≡ true) × EndOf o p
      instead y h d =
          let p : RankedPair = record { key = n.key y q.j; i = y; j = q.j } in
          let k : n.key y q.j ≡ q.key = same_key y q.i q.j h.alike ∙ sym e.keyed in (
            p,
            y,
            candidates_in n limit p (record { lower = omega (arith, h.below, e.lower); below = e.below; keyed = refl })
                (rw (same_may y q.i q.j h.there may_q d, k) leb_q),
            rw h.free (or_false_right (used q.i) (used q.j) f),
            of_at_before p q (inr (k, inl h.below)),
            h.owner,
            inl refl,
          )

      which : (active q.i ≡ true) ⊎ (active q.i ≡ false)
          → (p : RankedPair) × (o : ℕ) × In p (candidates n limit) × (busy used p ≡ false) × (before q p ≡ false) × (active o ≡ true) × EndOf o p
      which (inl a) = (q, q.i, m, f, irrefl q, a, inl refl)
      which (inr a) =
          let t = led q.i (there q.i q.j may_q) (or_false_left (used q.i) (used q.j) f) a in
          ⊎_elim
          (λ (d : piece t.0 ≡ piece q.j → ⊥). instead t.0 t.3 d)
          (λ (d : piece t.1 ≡ piece q.j → ⊥). instead t.1 t.4 d)
          (other_piece t.0 t.1 q.j t.2 (omega (arith, t.4.below, e.lower)) e.below)

-- ---- the ends of a list: those with a direction, and those of one direction

module _ (l : List End) where
  abbrev pub There : ℕ → Type 0
  There e = there (end_at l e).direction ≡ true

  abbrev pub Alike : ℕ → ℕ → Type 0
  Alike a e = (end_at l a).direction ≡ (end_at l e).direction

  pub alike_trans : (a b c : ℕ) → Alike a b → Alike b c → Alike a c
  alike_trans a b c h k = h ∙ k

  pub ends_enough : (limit : ℕ) (used active : ℕ → Bool) → AtMostTwice (λ e. (end_at l e).piece) (length l) → Led There Alike used active
      → Enough used (candidates (node_of l) limit) active
  ends_enough limit used active twice led =
      led_enough (node_of l) There Alike (λ e. (end_at l e).piece)
      (λ x z h. and_left (there (end_at l x).direction) _ h)
      (λ y x z h. ap (λ (a : Direction). key_of a (end_at l z).direction) h)
      same_may twice limit used active led
    where
      same_may : (y x z : ℕ) → There y → (node_of l).may x z ≡ true → ((end_at l y).piece ≡ (end_at l z).piece → ⊥) → (node_of l).may y z ≡ true
      same_may y x z h m n =
          rw (h, and_left (there (end_at l z).direction) _ (and_right (there (end_at l x).direction) _ m), ne_eqb (end_at l y).piece (end_at l z).piece n)
