-- One more end: the invariant over the four tables as functions.
use Prim.Native.Nat.{ℕ, ◌+◌, ◌≤◌, ◌<◌}
use mathlib.Core.Path.{◌≡◌, sym, ap, ◌∙◌}
use mathlib.Core.Logic.{◌≢◌}
use native.Mathlib.Omega.{arith}
use native.Mathlib.Decide.{ℕ_discrete, dec_lt}
use Rattle.chain_grouping.specs.Group.{Grouped}

-- no end, and empty buckets
pub grouped_none : (Q : Type 0) (k : ℕ) (hash : Q → ℕ) (of : ℕ → Q) (H C N T : ℕ → ℕ) → ((b : ℕ) → b < k → H b ≡ 0) → Grouped Q k hash of 0 H C N T
grouped_none Q k hash of H C N T z =
    record {
      follows = λ e h. absurd (omega arith);
      least = λ f e h. absurd (omega arith);
      last_in = λ f h. absurd (omega arith);
      last_out = λ f g h. absurd (omega arith);
      next_in = λ e h. absurd (omega arith);
      next_gap = λ e g h. absurd (omega arith);
      head_in = λ b g h q. absurd (omega (arith, z b h));
      head_gap = λ b g l h. absurd (omega arith);
      chain_in = λ f g h. absurd (omega arith);
      chain_gap = λ f g h. absurd (omega arith);
    }

module _ {Q : Type 0} {k : ℕ} {hash : Q → ℕ} {of : ℕ → Q} {e : ℕ} {H C N T : ℕ → ℕ} (G : Grouped Q k hash of e H C N T) where
  -- an end behind the last of its key's leader f
  module _ (f : ℕ) (hf : f < e) (lf : f ≤ T f) (same : of f ≡ of e) (H' C' N' T' : ℕ → ℕ)
      (H-same : (b : ℕ) → b < k → H' b ≡ H b)
      (C-same : (x : ℕ) → x < e → C' x ≡ C x)
      (N-last : N' (T f) ≡ e) (N-new : N' e ≡ 0) (N-same : (x : ℕ) → x < e → x ≢ T f → N' x ≡ N x)
      (T-lead : T' f ≡ e) (T-new : T' e ≡ f) (T-same : (x : ℕ) → x < e → x ≢ f → T' x ≡ T x) where
    append_old : (x : ℕ) → x < e → x ≤ T' x → x ≤ T x
    append_old x h l = elim (ℕ_discrete x f) [ yes q ↦ omega (arith, ap T q) | no q ↦ omega (arith, T-same x h q) ]

    append_new : (x : ℕ) → x < e → x ≤ T x → x ≤ T' x
    append_new x h l = elim (ℕ_discrete x f) [ yes q ↦ omega (arith, ap T' q) | no q ↦ omega (arith, T-same x h q) ]

    -- e leads nothing
    append_not : (x : ℕ) → x < e + 1 → x ≤ T' x → x < e
    append_not x h l = elim (ℕ_discrete x e) [ yes q ↦ absurd (omega (arith, ap T' q)) | no q ↦ omega arith ]

    -- no other leader has the key
    append_sole : (x : ℕ) → x < e → x ≤ T x → x ≢ f → of e ≡ of x → ⊥
    append_sole x h l d q =
        elim (dec_lt x f) [
          | yes r ↦ G.least f x hf lf r (sym (same ∙ q))
          | no r ↦ G.least x f h l (omega arith) (same ∙ q)
        ]

    pub append_step : Grouped Q k hash of (e + 1) H' C' N' T'
    append_step =
        let t = G.last_in f hf lf in
        record {
          follows = λ x h l. elim (ℕ_discrete x e) [
            | yes q ↦ (ap of (ap T' q ∙ T-new) ∙ same ∙ ap of (sym q), omega (arith, ap T' (ap T' q ∙ T-new), ap T' q))
            | no q ↦ elim (ℕ_discrete x f) [
              | yes p ↦ absurd (omega (arith, ap T' p))
              | no p ↦
                  (let h' : x < e = omega arith in
                  let s = T-same x h' p in
                  let l' : T x < x = omega arith in
                  let r = G.follows x h' l' in
                  (ap of s ∙ r.0, omega (arith, ap T' s, s, append_new (T x) (omega arith) r.1)))
            ]
          ];
          least = λ x y h l b q. G.least x y (append_not x h l) (append_old x (append_not x h l) l) b q;
          last_in = λ x h l. elim (ℕ_discrete x f) [
            | yes p ↦ (omega (arith, ap T' p), ap of (ap T' p ∙ T-lead) ∙ sym same ∙ ap of (sym p))
            | no p ↦
                (let h' = append_not x h l in
                let s = T-same x h' p in
                let r = G.last_in x h' (append_old x h' l) in
                (omega (arith, s, r.0), ap of s ∙ r.1))
          ];
          last_out = λ x g h l b i q. elim (ℕ_discrete x f) [
            | yes p ↦ omega (arith, ap T' p)
            | no p ↦
                (let h' = append_not x h l in
                let s = T-same x h' p in
                let o = append_old x h' l in
                elim (ℕ_discrete g e) [
                  | yes r ↦ append_sole x h' o p (ap of (sym r) ∙ q)
                  | no r ↦ G.last_out x g h' o (omega (arith, s)) (omega arith) q
                ])
          ];
          next_in = λ x h z. elim (ℕ_discrete x e) [
            | yes q ↦ absurd (omega (arith, ap N' q))
            | no q ↦ elim (ℕ_discrete x (T f)) [
              | yes p ↦ (omega (arith, ap N' p, t.0), omega (arith, ap N' p), ap of (ap N' p ∙ N-last) ∙ sym same ∙ sym t.1 ∙ ap of (sym p))
              | no p ↦
                  (let h' : x < e = omega arith in
                  let s = N-same x h' p in
                  let r = G.next_in x h' (omega (arith, s)) in
                  (omega (arith, s, r.0), omega (arith, s, r.1), ap of s ∙ r.2))
            ]
          ];
          next_gap = λ x g h b i q.
              let h' : x < e = omega arith in
              elim (ℕ_discrete x (T f)) [
                | yes p ↦ elim (ℕ_discrete g e) [
                  | yes r ↦ omega (arith, ap N' p)
                  | no r ↦ absurd (G.last_out f g hf lf (omega arith) (omega arith) (q ∙ ap of p ∙ t.1))
                ]
                | no p ↦ elim (ℕ_discrete g e) [
                  | yes r ↦
                      (let u : of f ≡ of x = same ∙ ap of (sym r) ∙ q in
                      elim (dec_lt x (T f)) [
                        | yes w ↦ omega (arith, N-same x h' p, G.next_gap x (T f) h' w t.0 (t.1 ∙ u), t.0)
                        | no w ↦ absurd (G.last_out f x hf lf (omega arith) h' (sym u))
                      ])
                  | no r ↦ omega (arith, N-same x h' p, G.next_gap x g h' b (omega arith) q)
                ]
              ];
          head_in = λ b g h q.
              let r = G.head_in b g h (sym (H-same b h) ∙ q) in
              (omega (arith, r.0), append_new g r.0 r.1, r.2);
          head_gap = λ b g h i l q.
              let i' = append_not g i l in
              omega (arith, H-same b h, G.head_gap b g h i' (append_old g i' l) q);
          chain_in = λ x g h l q.
              let h' = append_not x h l in
              let r = G.chain_in x g h' (append_old x h' l) (sym (C-same x h') ∙ q) in
              (r.0, append_new g (omega (arith, r.0)) r.1, r.2);
          chain_gap = λ x g h l b i q.
              let h' = append_not x h l in
              omega (arith, C-same x h', G.chain_gap x g h' (append_old x h' l) b (append_old g (omega arith) i) q);
        }

  -- a leader with the key of an end
  any_fresh : ((f : ℕ) → f < e → f ≤ T f → of f ≡ of e → ⊥) → (f : ℕ) → f < e → of f ≡ of e → ⊥
  any_fresh fresh f h q =
      elim (dec_lt (T f) f) [
        | yes r ↦ (let s = G.follows f h r in fresh (T f) (omega arith) s.1 (s.0 ∙ q))
        | no r ↦ fresh f h (omega arith) q
      ]

  -- a new leader, in front of its bucket
  module _ (fresh : (f : ℕ) → f < e → f ≤ T f → of f ≡ of e → ⊥) (b : ℕ) (hb : b < k) (at : b ≡ hash (of e)) (H' C' N' T' : ℕ → ℕ)
      (H-new : H' b ≡ e + 1) (H-same : (y : ℕ) → y < k → y ≢ b → H' y ≡ H y)
      (C-new : C' e ≡ H b) (C-same : (x : ℕ) → x < e → C' x ≡ C x)
      (N-new : N' e ≡ 0) (N-same : (x : ℕ) → x < e → N' x ≡ N x)
      (T-new : T' e ≡ e) (T-same : (x : ℕ) → x < e → T' x ≡ T x) where
    pub lead_step : Grouped Q k hash of (e + 1) H' C' N' T'
    lead_step =
        record {
          follows = λ x h l. elim (ℕ_discrete x e) [
            | yes q ↦ absurd (omega (arith, ap T' q))
            | no q ↦
                (let h' : x < e = omega arith in
                let s = T-same x h' in
                let l' : T x < x = omega arith in
                let r = G.follows x h' l' in
                (ap of s ∙ r.0, omega (arith, ap T' s, s, T-same (T x) (omega arith), r.1)))
          ];
          least = λ x y h l i q. elim (ℕ_discrete x e) [
            | yes p ↦ any_fresh fresh y (omega arith) (q ∙ ap of p)
            | no p ↦ G.least x y (omega arith) (omega (arith, T-same x (omega arith))) i q
          ];
          last_in = λ x h l. elim (ℕ_discrete x e) [
            | yes p ↦ (omega (arith, ap T' p), ap of (ap T' p ∙ T-new ∙ sym p))
            | no p ↦
                (let s = T-same x (omega arith) in
                let r = G.last_in x (omega arith) (omega (arith, s)) in
                (omega (arith, s, r.0), ap of s ∙ r.1))
          ];
          last_out = λ x g h l i j q. elim (ℕ_discrete x e) [
            | yes p ↦ omega (arith, ap T' p)
            | no p ↦
                (let s = T-same x (omega arith) in
                elim (ℕ_discrete g e) [
                  | yes r ↦ any_fresh fresh x (omega arith) (sym q ∙ ap of r)
                  | no r ↦ G.last_out x g (omega arith) (omega (arith, s)) (omega (arith, s)) (omega arith) q
                ])
          ];
          next_in = λ x h z. elim (ℕ_discrete x e) [
            | yes q ↦ absurd (omega (arith, ap N' q))
            | no q ↦
                (let s = N-same x (omega arith) in
                let r = G.next_in x (omega arith) (omega (arith, s)) in
                (omega (arith, s, r.0), omega (arith, s, r.1), ap of s ∙ r.2))
          ];
          next_gap = λ x g h i j q.
              let h' : x < e = omega arith in
              elim (ℕ_discrete g e) [
                | yes r ↦ absurd (any_fresh fresh x h' (sym q ∙ ap of r))
                | no r ↦ omega (arith, N-same x h', G.next_gap x g h' i (omega arith) q)
              ];
          head_in = λ y g h q. elim (ℕ_discrete y b) [
            | yes p ↦
                (let s : g ≡ e = omega (arith, ap H' p) in
                (omega arith, omega (arith, ap T' s), ap (λ (x : ℕ). hash (of x)) s ∙ sym at ∙ sym p))
            | no p ↦
                (let r = G.head_in y g h (sym (H-same y h p) ∙ q) in
                (omega (arith, r.0), omega (arith, T-same g r.0, r.1), r.2))
          ];
          head_gap = λ y g h i l q. elim (ℕ_discrete y b) [
            | yes p ↦ omega (arith, ap H' p)
            | no p ↦ elim (ℕ_discrete g e) [
              | yes r ↦ absurd (p (sym q ∙ ap (λ (x : ℕ). hash (of x)) r ∙ sym at))
              | no r ↦
                  (let i' : g < e = omega arith in
                  omega (arith, H-same y h p, G.head_gap y g h i' (omega (arith, T-same g i')) q))
            ]
          ];
          chain_in = λ x g h l q. elim (ℕ_discrete x e) [
            | yes p ↦
                (let r = G.head_in b g hb (sym (ap C' p ∙ C-new) ∙ q) in
                (omega (arith, r.0), omega (arith, T-same g r.0, r.1), r.2 ∙ at ∙ ap (λ (x : ℕ). hash (of x)) (sym p)))
            | no p ↦
                (let h' : x < e = omega arith in
                let r = G.chain_in x g h' (omega (arith, T-same x h')) (sym (C-same x h') ∙ q) in
                (r.0, omega (arith, T-same g (omega (arith, r.0)), r.1), r.2))
          ];
          chain_gap = λ x g h l i j q. elim (ℕ_discrete x e) [
            | yes p ↦
                (let g' : g < e = omega arith in
                omega (arith, ap C' p, G.head_gap b g hb g' (omega (arith, T-same g g')) (q ∙ ap (λ (x : ℕ). hash (of x)) p ∙ sym at)))
            | no p ↦
                (let h' : x < e = omega arith in
                omega (arith, C-same x h', G.chain_gap x g h' (omega (arith, T-same x h')) i (omega (arith, T-same g (omega arith))) q))
          ];
        }
