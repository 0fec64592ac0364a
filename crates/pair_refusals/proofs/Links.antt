-- Places linked by bucket: what a chain's words pass over is of other buckets, so that going along it counts all.
use Prim.Native.Nat.{ℕ, suc, ◌+◌, ◌-◌, ◌≤◌, ◌<◌}
use mathlib.Core.Path.{◌≡◌, sym, ◌∙◌, ap, subst}
use mathlib.Core.List.{List}
use native.Mathlib.Decide.{ℕ_discrete}
use native.Mathlib.Omega.{arith}
use lib.ListN.{length, get_or, take, set, replicate, get_or-replicate, length-replicate, length-set}
use lib.Seq.{get_or-set_same, get_or-set_other}
use Rattle.rules.specs.Lists.{count}
use Rattle.rules.specs.Refusals.{most_ends}
use Rattle.pair_refusals.specs.Linked.{bucket_of, LastBefore, Linked, LinkedChain}
use Rattle.pair_refusals.proofs.Times.{count_gap, count_same, count_other}

-- among the first i, p stands as often as among those up to its bucket's last
pub count_last : (l : List ℕ) (p i k : ℕ) → i ≤ length l → LastBefore l (bucket_of p) i k → count p (take i l) ≡ count p (take k l)
count_last l p i k h w =
    let e : k + (i - k) ≡ i = omega (arith, w.within) in
    rw (← e) (count_gap p l k (i - k) (omega arith) (λ g a b q. w.past g a (omega arith) (ap bucket_of q)))

-- ---- along a chain

module _ {l next : List ℕ} {k p : ℕ} (C : LinkedChain l next k p) (h : 0 < k) where
  word : LastBefore l (bucket_of p) (k - 1) (get_or next (k - 1) 0)
  word =
      let e : k ≡ suc (k - 1) = omega arith in
      subst (λ (b : ℕ). LastBefore l b (k - 1) (get_or next (k - 1) 0)) (C.here (k - 1) e) (C.linked (k - 1) (omega arith))

  pub chain_less : get_or next (k - 1) 0 < k
  chain_less = omega (arith, word.within)

  pub chain_next : LinkedChain l next (get_or next (k - 1) 0) p
  chain_next = record {
    within = omega (arith, word.within, C.within);
    few = omega (arith, word.within, C.few);
    here = word.here;
    linked = λ g a. C.linked g (omega (arith, word.within));
  }

  before : count p (take (k - 1) l) ≡ count p (take (get_or next (k - 1) 0) l)
  before = count_last l p (k - 1) (get_or next (k - 1) 0) (omega (arith, C.within)) word

  whole : count p (take (k - 1 + 1) l) ≡ count p (take k l)
  whole = let e : k - 1 + 1 ≡ k = omega arith in rw e

  pub count_met : get_or l (k - 1) 0 ≡ p → count p (take k l) ≡ count p (take (get_or next (k - 1) 0) l) + 1
  count_met e = omega (arith, whole, before, count_same p l (k - 1) (omega (arith, C.within)) e)

  pub count_passed : (get_or l (k - 1) 0 ≡ p → ⊥) → count p (take k l) ≡ count p (take (get_or next (k - 1) 0) l)
  count_passed d = omega (arith, whole, before, count_other p l (k - 1) (omega (arith, C.within)) d)

-- ---- the table of the first i places: each bucket's last, and each place's word

pub record Table (l last next : List ℕ) (i : ℕ) : Type 0 where
  pub last_long : length last ≡ 8192
  pub next_long : length next ≡ 8192
  pub heads : (b : ℕ) → b < 8192 → LastBefore l b i (get_or last b 0)
  pub linked : Linked l next i

pub table_start : (l : List ℕ) (n : ℕ) → n ≡ 8192 → Table l (replicate n 0) (replicate n 0) 0
table_start l n h = record {
  last_long = length-replicate n 0 ∙ h;
  next_long = length-replicate n 0 ∙ h;
  heads = λ b k.
      let z : ◌≡◌ {A = ℕ} (get_or (replicate n 0) b 0) 0 = get_or-replicate n b 0 0 (omega arith) in
      record {
        within = omega arith;
        here = λ g e. absurd (omega arith);
        past = λ g a c. absurd (omega arith);
      };
  linked = λ g a. absurd (omega arith);
}

module _ {l last next : List ℕ} {i : ℕ} (t : Table l last next i) (p b : ℕ) (e : bucket_of p ≡ b) (h : b < 8192) where
  -- p's bucket is gone through from its last place on
  pub table_chain : i ≤ length l → i ≤ most_ends → LinkedChain l next (get_or last b 0) p
  table_chain n m =
      let w = t.heads b h in
      record {
        within = omega (arith, w.within);
        few = omega (arith, w.within);
        here = λ g q. w.here g q ∙ sym e;
        linked = λ g a. t.linked g (omega (arith, w.within));
      }

  pub table_count : i ≤ length l → count p (take i l) ≡ count p (take (get_or last b 0) l)
  table_count n = count_last l p i (get_or last b 0) n (subst (λ (c : ℕ). LastBefore l c i (get_or last b 0)) (sym e) (t.heads b h))

  -- place i, which holds p, is put in front of its bucket
  pub table_step : get_or l i 0 ≡ p → i < most_ends → Table l (set last b (i + 1)) (set next i (get_or last b 0)) (i + 1)
  table_step here n = record {
    last_long = simp length-set t.last_long;
    next_long = simp length-set t.next_long;
    heads = λ c k.
        elim (ℕ_discrete c b) [
          | yes q ↦ subst (λ (a : ℕ). LastBefore l a (i + 1) (get_or (set last b (i + 1)) a 0)) (sym q) fresh
          | no d ↦ subst (LastBefore l c (i + 1)) (sym (get_or-set_other last b c (i + 1) 0 d)) (kept c k d)
        ];
    linked = λ g a.
        elim (ℕ_discrete g i) [
          | yes q ↦ subst (λ (j : ℕ). LastBefore l (bucket_of (get_or l j 0)) j (get_or (set next i (get_or last b 0)) j 0)) (sym q) link
          | no d ↦ subst (LastBefore l (bucket_of (get_or l g 0)) g) (sym (get_or-set_other next i g (get_or last b 0) 0 d)) (t.linked g (omega arith))
        ];
  }
    where
      own : bucket_of (get_or l i 0) ≡ b
      own = ap bucket_of here ∙ e

      fresh : LastBefore l b (i + 1) (get_or (set last b (i + 1)) b 0)
      fresh =
          subst (LastBefore l b (i + 1)) (sym (get_or-set_same last b (i + 1) 0 (omega (arith, t.last_long))))
          (record {
            within = omega arith;
            here = λ g q. let s : i ≡ g = omega arith in ap (λ (j : ℕ). bucket_of (get_or l j 0)) (sym s) ∙ own;
            past = λ g a c. absurd (omega arith);
          })

      kept : (c : ℕ) → c < 8192 → (c ≡ b → ⊥) → LastBefore l c (i + 1) (get_or last c 0)
      kept c k d =
          let w = t.heads c k in
          record {
            within = omega (arith, w.within);
            here = w.here;
            past = λ g a x q.
                elim (ℕ_discrete g i) [
                  | yes s ↦ d (sym q ∙ ap (λ (j : ℕ). bucket_of (get_or l j 0)) s ∙ own)
                  | no s ↦ w.past g a (omega arith) q
                ];
          }

      link : LastBefore l (bucket_of (get_or l i 0)) i (get_or (set next i (get_or last b 0)) i 0)
      link =
          subst (LastBefore l (bucket_of (get_or l i 0)) i) (sym (get_or-set_same next i (get_or last b 0) 0 (omega (arith, t.next_long))))
          (subst (λ (c : ℕ). LastBefore l c i (get_or last b 0)) (sym own) (t.heads b h))
