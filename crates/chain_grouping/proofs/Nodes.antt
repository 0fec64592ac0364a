-- The lists behind the leaders are the nodes.
use Prim.Native.Nat.{ℕ, zero, suc, ◌+◌, ◌-◌, ◌*◌, ◌≤◌, ◌<◌}
use mathlib.Core.Path.{◌≡◌, refl, sym, ap, ◌∙◌}
use mathlib.Core.Bool.{Bool, false}
use mathlib.Core.List.{List, [], ◌∷◌}
use native.Mathlib.Omega.{arith}
use lib.ListN.{get_or}
use Rattle.rules.specs.Lists.{keep, from, upto}
use Rattle.chain_laws.proofs.Kept.{keep_yes, keep_no}
use Rattle.chain_grouping.specs.Group.{Words, same_words, words_of, bucket_of, follow, Grouped, EndPlaced, Nodes}
use Rattle.chain_grouping.proofs.Space.{keys_kept}
use Rattle.chain_grouping.proofs.Keys.{same_of, other_false}
use Rattle.chain_grouping.specs.Map.{last_block}

from_cons : (a n : ℕ) → 0 < n → from a n ≡ a ∷ from (suc a) (n - 1)
unfolding from
from_cons a zero h = absurd (omega arith)
from_cons a (suc n) h = let q : suc n - 1 ≡ n = omega arith in rw q

-- numbers that fail the test are passed over
pub skip : (t : ℕ → Bool) (d a m : ℕ) → a + d ≤ m → ((g : ℕ) → a ≤ g → g < a + d → t g ≡ false) → keep t (from a (m - a)) ≡ keep t (from (a + d) (m - (a + d)))
skip t zero a m h f = let q : a + 0 ≡ a = omega arith in rw q
skip t (suc d) a m h f =
    let q : suc a + d ≡ a + suc d = omega arith in
    let p : m - a - 1 ≡ m - suc a = omega arith in
    ap (keep t) (from_cons a (m - a) (omega arith) ∙ ap (λ (n : ℕ). a ∷ from (suc a) n) p)
    ∙ keep_no t a (from (suc a) (m - suc a)) (f a (omega arith) (omega arith))
    ∙ skip t d (suc a) m (omega arith) (λ g i j. f g (omega arith) (omega arith))
    ∙ ap (λ (n : ℕ). keep t (from n (m - n))) q

keep_nil : (t : ℕ → Bool) (a m : ℕ) → m ≤ a → keep t (from a (m - a)) ≡ []
unfolding from keep
keep_nil t a m h = let q : m - a ≡ 0 = omega arith in rw q

follow_end : (next : ℕ → ℕ) (k e : ℕ) → next e ≡ 0 → follow next (suc k) e ≡ e ∷ []
unfolding follow
follow_end next k e h = rw (h, follow)

follow_on : (next : ℕ → ℕ) (k e f : ℕ) → next e ≡ suc f → follow next (suc k) e ≡ e ∷ follow next k (suc f)
unfolding follow
follow_on next k e f h = rw (h, follow)

module _ {of : ℕ → Words} {m : ℕ} {H C N T : ℕ → ℕ} (G : Grouped Words m (bucket_of m) of m H C N T) (q : Words) where
  abbrev test : ℕ → Bool
  test g = same_words q (of g)

  -- from an end of the words on
  tail : (fuel e : ℕ) → e < m → m ≤ e + fuel → q ≡ of e → follow N fuel e ≡ keep (λ g. same_words q (of g)) (from e (m - e))
  tail zero e h l s = absurd (omega arith)
  tail (suc fuel) e h l s = go (N e) refl (λ f i b. tail fuel f i b)
    where
      first : keep (λ g. same_words q (of g)) (from e (m - e)) ≡ e ∷ keep (λ g. same_words q (of g)) (from (suc e) (m - suc e))
      first =
          let p : m - e - 1 ≡ m - suc e = omega arith in
          ap (keep (λ g. same_words q (of g))) (from_cons e (m - e) (omega arith) ∙ ap (λ (n : ℕ). e ∷ from (suc e) n) p)
          ∙ keep_yes (λ g. same_words q (of g)) e (from (suc e) (m - suc e)) (same_of q (of e) s)

      go : (n : ℕ) → N e ≡ n
          → ((f : ℕ) → f < m → m ≤ f + fuel → q ≡ of f → follow N fuel f ≡ keep (λ g. same_words q (of g)) (from f (m - f)))
          → follow N (suc fuel) e ≡ keep (λ g. same_words q (of g)) (from e (m - e))
      go zero z rec =
          let d : suc e + (m - suc e) ≡ m = omega arith in
          follow_end N fuel e z
          ∙ ap {B = List ℕ} (λ l. e ∷ l) (sym
          (skip (λ g. same_words q (of g)) (m - suc e) (suc e) m (omega arith)
          (λ g i j. other_false q (of g) (λ r. omega (arith, (G.next_gap e g h (omega arith) (omega arith) (sym r ∙ s)).0)))
          ∙ keep_nil (λ g. same_words q (of g)) (suc e + (m - suc e)) m (omega arith)))
          ∙ sym first
      go (suc f) z rec =
          let i = G.next_in e h (omega arith) in
          let n : N e ≡ suc e + (suc f - suc e) = omega (arith, i.0) in
          let c : suc e + (suc f - suc e) ≡ suc f = omega (arith, i.0) in
          follow_on N fuel e f z
          ∙ ap {B = List ℕ} (λ l. e ∷ l)
          (rec (suc f) (omega (arith, i.1)) (omega (arith, i.0)) (s ∙ sym i.2 ∙ ap of z)
          ∙ sym
          (skip (λ g. same_words q (of g)) (suc f - suc e) (suc e) m (omega (arith, i.1, i.0))
          (λ g a b. other_false q (of g) (λ r. omega (arith, i.0, i.1, (G.next_gap e g h (omega arith) (omega (arith, i.0, i.1)) (sym r ∙ s)).1)))
          ∙ ap (λ (x : ℕ). keep (λ g. same_words q (of g)) (from x (m - x))) c))
          ∙ sym first

  -- from its leader on
  pub all : (f : ℕ) → f < m → f ≤ T f → q ≡ of f → follow N m f ≡ keep (λ g. same_words q (of g)) (upto m)
  unfolding upto
  all f h l s =
      let z : 0 + f ≡ f = omega arith in
      let n : m - 0 ≡ m = omega arith in
      tail m f h (omega arith) s
      ∙ sym
      (ap (λ (x : ℕ). keep (λ g. same_words q (of g)) (from 0 x)) (sym n)
      ∙ skip (λ g. same_words q (of g)) f 0 m (omega arith) (λ g a b. other_false q (of g) (λ r. G.least f g h l (omega arith) (sym r ∙ s)))
      ∙ ap (λ (x : ℕ). keep (λ g. same_words q (of g)) (from x (m - x))) z)

pub nodes : {w' w : List ℕ} {m : ℕ} → EndPlaced w' w m m → Nodes w' w m
nodes {w'} {w} {m} P =
    let G = P.grouped in
    record {
      leader = λ e h l. let r = G.follows e h l in (same_of (words_of w m (get_or w' (m * last_block + e) 0)) (words_of w m e) r.0, r.1);
      least = λ f e h l b. other_false (words_of w m f) (words_of w m e) (λ q. G.least f e h l b (sym q));
      rises = λ e h z. (let r = G.next_in e h z in (r.0, r.1));
      node = λ f h l. all G (words_of w m f) f h l refl;
      kept = P.kept;
    }

-- ---- for those who read the lists

-- the keys stand in the workspace still
pub nodes_own : {w' w : List ℕ} {m : ℕ} → Nodes w' w m → Nodes w' w' m
nodes_own {w'} {w} {m} N =
    let q = sym (keys_kept w' w m N.kept) in
    record {
      leader = λ e h l. let r = N.leader e h l in (ap (λ (o : ℕ → Words). same_words (o (get_or w' (m * last_block + e) 0)) (o e)) (sym q) ∙ r.0, r.1);
      least = λ f e h l b. ap (λ (o : ℕ → Words). same_words (o f) (o e)) (sym q) ∙ N.least f e h l b;
      rises = N.rises;
      node = λ f h l. N.node f h l ∙ ap (λ (o : ℕ → Words). keep (λ e. same_words (o f) (o e)) (upto m)) q;
      kept = λ j h. refl;
    }

pub follow_stop : (next : ℕ → ℕ) (n e : ℕ) → 0 < n → next e ≡ 0 → follow next n e ≡ e ∷ []
follow_stop next zero e h z = absurd (omega arith)
follow_stop next (suc n) e h z = follow_end next n e z

pub follow_next : (next : ℕ → ℕ) (n e : ℕ) → 0 < n → 0 < next e → follow next n e ≡ e ∷ follow next (n - 1) (next e)
follow_next next zero e h z = absurd (omega arith)
follow_next next (suc n) e h z = go (next e) refl
  where
    go : (f : ℕ) → next e ≡ f → follow next (suc n) e ≡ e ∷ follow next (suc n - 1) f
    go zero q = absurd (omega arith)
    go (suc f) q = let p : suc n - 1 ≡ n = omega arith in follow_on next n e f q ∙ rw p
