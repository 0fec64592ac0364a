-- The search along a bucket's leaders.
use Prim.Native.Nat.{ℕ, zero, suc, ◌+◌, ◌*◌, ◌≤◌, ◌<◌}
use mathlib.Core.Path.{◌≡◌, refl, sym, ap, ◌∙◌}
use mathlib.Core.List.{List}
use native.Mathlib.Omega.{arith}
use native.Mathlib.Decide.{ℕ_discrete}
use lib.ListN.{get_or}
use Rattle.std.specs.Prelude.{Some, None}
use Rattle.chain_grouping.specs.Group.{GroupedIn, Found, words_of, bucket_of}
use Rattle.chain_grouping.specs.Map.{last_block}

-- c is 1 more than a leader in the bucket, or 0, and a leader of e's words is below c
pub record Seek (w : List ℕ) (m e b c : ℕ) : Type 0 where
  pub here : (g : ℕ) → c ≡ suc g → (g < e) × (g ≤ get_or w (m * last_block + g) 0) × (bucket_of m (words_of w m g) ≡ b)
  pub rest : (f : ℕ) → f < e → f ≤ get_or w (m * last_block + f) 0 → words_of w m f ≡ words_of w m e → f < c

module _ (w : List ℕ) (m e b : ℕ) (hb : b < m) (at : b ≡ bucket_of m (words_of w m e)) (G : GroupedIn w w m e) where
  pub seek_start : Seek w m e b (get_or w b 0)
  seek_start =
      record {
        here = λ g q. G.head_in b g hb q;
        rest = λ f h l q. G.head_gap b f hb h l (ap (bucket_of m) q ∙ sym at);
      }

  module _ (g : ℕ) (S : Seek w m e b (suc g)) where
    this : (g < e) × (g ≤ get_or w (m * last_block + g) 0) × (bucket_of m (words_of w m g) ≡ b)
    this = S.here g refl

    pub seek_below : g < e
    seek_below = this.0

    pub seek_less : get_or w (m + g) 0 < suc g
    seek_less = go (get_or w (m + g) 0) refl
      where
        go : (n : ℕ) → get_or w (m + g) 0 ≡ n → n < suc g
        go zero q = omega arith
        go (suc f) q = omega (arith, (G.chain_in g f this.0 this.1 q).0)

    pub seek_step : (words_of w m g ≡ words_of w m e → ⊥) → Seek w m e b (get_or w (m + g) 0)
    seek_step d =
        record {
          here = λ f q.
              let r = G.chain_in g f this.0 this.1 q in
              (omega (arith, r.0, this.0), r.1, r.2 ∙ this.2);
          rest = λ f h l q.
              elim (ℕ_discrete f g) [
                | yes s ↦ absurd (d (ap (words_of w m) (sym s) ∙ q))
                | no s ↦ G.chain_gap g f this.0 this.1 (omega (arith, S.rest f h l q)) l (ap (bucket_of m) q ∙ sym at ∙ sym this.2)
              ];
        }

    pub seek_found : words_of w m g ≡ words_of w m e → Found w m e (Some g)
    seek_found q =
        record {
          there = λ f r.
              let s : g ≡ f = cc in
              let h = S.here f (ap suc s) in
              (h.0, h.1, ap (words_of w m) (sym s) ∙ q);
          nowhere = λ z. cc;
        }

  pub seek_none : Seek w m e b 0 → Found w m e None
  seek_none S =
      record {
        there = λ g r. cc;
        nowhere = λ r f h l q. omega (arith, S.rest f h l q);
      }
