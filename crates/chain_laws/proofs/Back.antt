-- Back: from a start's end 0 the way back comes to a free end, or to the start's own end 1.
-- It is true because no piece stands twice on the way: each end has one partner, so the way can only be met again at its beginning, and the fuel
-- cannot run out before the pieces do. Then a walk from that head leaves no end open, and it passes its start.
use Prim.Native.Nat.{ℕ, zero, suc, ◌+◌, ◌*◌, ◌≤◌, ◌<◌}
use mathlib.Core.Path.{◌≡◌, refl, sym, ap, ◌∙◌}
use mathlib.Core.Logic.{◌≢◌}
use mathlib.Core.Bool.{Bool, true, false}
use mathlib.Core.List.{List, [], ◌∷◌, map}
use mathlib.Core.Option.{Option, none, some}
use native.Mathlib.Omega.{arith}
use native.Mathlib.Decide.{ℕ_discrete}
use lib.Dec.{eqb}
use lib.ListN.{length}
use borrow.Author.Tests.{eqb-true, eqb-false}
use Rattle.rules.specs.Lists.{count}
use Rattle.rules.specs.Walking.{piece_of, other, back}
use Rattle.chain_laws.specs.Joins.{Joins}
use Rattle.chain_laws.proofs.Counts.{one_same, one_other, pos_of, zero_of, once_cons, below_cons, pigeon}
use Rattle.chain_laws.proofs.Ends.{other_piece, other_other, other_ne, two_ends, end_zero, some_same, not_both}
use Rattle.chain_laws.proofs.Forward.{Shut, Ajar}

-- the ends passed on the way back from b: the last, and those before it
pub data Trail (p : ℕ → Option ℕ) (b : ℕ) : ℕ → List ℕ → Type 0 where
  here : Trail p b b []
  step : {t c : ℕ} {u : List ℕ} → Trail p b c u → p c ≡ some (other t) → Trail p b t (c ∷ u)

-- no piece stands twice among these ends
abbrev pub Once : List ℕ → Type 0
Once u = (x : ℕ) → count x (map piece_of u) ≤ 1

-- the head of the walk of s: a free end to which a trail leads back; or, in a ring, the end 0 of s, and the trail comes back to its end 1
pub data Head (n : ℕ) (p : ℕ → Option ℕ) (s : ℕ) : ℕ → Type 0 where
  open_head : {h : ℕ} {u : List ℕ} → Trail p (2 * s) h u → Once (h ∷ u) → piece_of h < n → p h ≡ none → Head n p s h
  ring_head : {c : ℕ} {u : List ℕ} → Trail p (2 * s) c u → Once (c ∷ u) → p c ≡ some (other (2 * s)) → Head n p s (2 * s)

module _ (n : ℕ) (p : ℕ → Option ℕ) (J : Joins n p) where
  pub bottom : (b t : ℕ) (u : List ℕ) → Trail p b t u → 0 < count (piece_of b) (map piece_of (t ∷ u))
  unfolding count
  bottom b t u here = omega (arith, one_same (piece_of b) (piece_of b) refl)
  bottom b t u (step {c} {u = u'} r j) = omega (arith, bottom b c u' r)

  -- c leads to g, and is on no piece of the trail, which leads on to a. If g is the other end of the trail's last, that is b
  turn : (b t : ℕ) (u : List ℕ) → Trail p b t u → (c g : ℕ)
      → p c ≡ some g
      → count (piece_of c) (map piece_of (t ∷ u)) ≡ 0
      → g ≡ other t
      → g ≡ other b
  unfolding count
  turn b t u here c g jc z q = q
  turn b t u (step {c = c'} r j) c g jc z q =
      absurd (omega (
        arith,
        one_same (piece_of c) (piece_of c')
            (ap piece_of (some_same (p g) c c' (J.mutually c g jc) (rw q (J.mutually c' (other t) j)))),
      ))

  off_last : (b t : ℕ) (u : List ℕ) → Trail p b t u → (a c g : ℕ)
      → p t ≡ some (other a)
      → (piece_of a ≡ piece_of c → a ≡ c)
      → p c ≡ some g
      → g ≢ other b
      → count (piece_of c) (map piece_of (t ∷ u)) ≡ 0
      → piece_of g ≢ piece_of t
  off_last b t u r a c g ja above jc d z q = go (ℕ_discrete g t)
    where
      go : Dec (g ≡ t) → ⊥
      go (yes e) =
          let k : c ≡ other a = some_same (p t) c (other a) (rw e at (J.mutually c g jc)) ja in
          omega (arith, above (omega arith))
      go (no e) = d (turn b t u r c g jc z (two_ends g t q e))

  -- so g is on no piece of the trail, unless it is the other end of b
  off_trail : (b t : ℕ) (u : List ℕ) → Trail p b t u → (a c g : ℕ)
      → p t ≡ some (other a)
      → (piece_of a ≡ piece_of c → a ≡ c)
      → p c ≡ some g
      → g ≢ other b
      → count (piece_of c) (map piece_of (t ∷ u)) ≡ 0
      → count (piece_of g) (map piece_of (t ∷ u)) ≡ 0
  unfolding count
  off_trail b t u here a c g ja above jc d z =
      omega (arith, one_other (piece_of g) (piece_of t) (off_last b b [] here a c g ja above jc d z))
  off_trail b t u (step {c = c'} {u = u'} r j) a c g ja above jc d z =
      omega (
        arith,
        one_other (piece_of g) (piece_of t) (off_last b t (c' ∷ u') (step r j) a c g ja above jc d z),
        off_trail b c' u' r t c g j
            (λ q. absurd (omega (arith, one_same (piece_of c) (piece_of t) (sym q))))
            jc d (omega arith),
      )

  -- the trail's last leads to a piece that is not on the trail, or to the other end of b
  pub onward : (b t : ℕ) (u : List ℕ) → Trail p b t u → (g : ℕ)
      → Once (t ∷ u)
      → p t ≡ some g
      → g ≢ other b
      → count (piece_of g) (map piece_of (t ∷ u)) ≡ 0
  unfolding count
  onward b t u here g once j d = omega (arith, one_other (piece_of g) (piece_of b) (J.apart b g j))
  onward b t u (step {c = c} {u = u'} r k) g once j d =
      omega (
        arith,
        one_other (piece_of g) (piece_of t) (J.apart t g j),
        off_trail b c u' r t t g k (λ q. refl) j d
            (omega (arith, once (piece_of t), one_same (piece_of t) (piece_of t) refl)),
      )

  module _ (s k e : ℕ) (u : List ℕ) (r : Trail p (2 * s) e u)
      (once : Once (e ∷ u))
      (b : piece_of e < n)
      (ih : (f : ℕ) → p e ≡ some f → count (piece_of f) (map piece_of (e ∷ u)) ≡ 0 → Head n p s (back p s k (other f)))
    where
      back_some : (f : ℕ) → p e ≡ some f → (t : Bool) → eqb (piece_of f) s ≡ t → Head n p s (back p s (suc k) e)
      unfolding back
      back_some f j true q = rw (j, q, back) (ring_head r once (go (ℕ_discrete f (other (2 * s)))))
        where
          go : Dec (f ≡ other (2 * s)) → p e ≡ some (other (2 * s))
          go (yes d) = rw d at j
          go (no d) =
              absurd (omega (
                arith,
                onward (2 * s) e u r f once j d,
                bottom (2 * s) e u r,
                ap (λ (m : ℕ). count m (map piece_of (e ∷ u))) same,
              ))
            where
              same : piece_of f ≡ piece_of (2 * s)
              same = omega (arith, eqb-true (piece_of f) s q)
      back_some f j false q =
          rw (j, q, back) (ih f j (onward (2 * s) e u r f once j (λ d. eqb-false (piece_of f) s q (omega arith))))

      back_on : (q : Option ℕ) → p e ≡ q → Head n p s (back p s (suc k) e)
      unfolding back
      back_on none j = rw (j, back) (open_head r once b j)
      back_on (some f) j = back_some f j (eqb (piece_of f) s) refl

  pub back_head : (s k e : ℕ) (u : List ℕ) → Trail p (2 * s) e u
      → Once (e ∷ u)
      → ((x : ℕ) → 0 < count x (map piece_of (e ∷ u)) → x < n)
      → piece_of e < n
      → n ≤ k + length (map piece_of u)
      → Head n p s (back p s k e)
  back_head s zero e u r once below b fuel = absurd (omega (arith, pigeon n (map piece_of (e ∷ u)) once below))
  back_head s (suc k) e u r once below b fuel =
      back_on s k e u r once b
      (λ f j z. back_head s k (other f) (e ∷ u) (step r (rw other_other j))
      (rw other_piece (once_cons (piece_of f) (map piece_of (e ∷ u)) once z))
      (rw other_piece (below_cons n (piece_of f) (map piece_of (e ∷ u)) below (J.within e f j)))
      (rw other_piece (J.within e f j))
      (omega arith))
      (p e) refl

  -- ---- what a trail carries over

  -- none of its pieces is visited, if that of b is not and the visited ones are shut
  trail_out : (c : ℕ → ℕ) → Shut p c → (b t : ℕ) (u : List ℕ) → Trail p b t u → c (piece_of b) ≡ 0 → c (piece_of t) ≡ 0
  trail_out c shut b t u here z = z
  trail_out c shut b t u (step {c = d} {u = u'} r j) z =
      zero_of (c (piece_of t)) λ i.
      omega (arith, trail_out c shut b d u' r z, shut (other t) d (J.mutually d (other t) j) (rw other_piece i))

  -- all of its pieces are counted, if its last one is
  trail_in : (c : ℕ → ℕ) (b t : ℕ) (u : List ℕ) → Ajar p c b → Trail p b t u
      → Once (t ∷ u)
      → 0 < c (piece_of t)
      → (x : ℕ) → 0 < count x (map piece_of (t ∷ u)) → 0 < c x
  unfolding count
  trail_in c b t u ajar here once i x h =
      elim (ℕ_discrete x (piece_of b)) [ yes q ↦ rw q i | no q ↦ absurd (omega (arith, one_other x (piece_of b) q)) ]
  trail_in c b t u ajar (step {c = d} {u = u'} r j) once i x h =
      elim (ℕ_discrete x (piece_of t)) [
        | yes q ↦ rw q i
        | no q ↦ trail_in c b d u' ajar r (λ y. omega (arith, once y)) below x (omega (arith, one_other x (piece_of t) q))
      ]
    where
      below : 0 < c (piece_of d)
      below = pos_of (c (piece_of d)) λ z.
          let q : other t ≡ b = ajar (other t) d (J.mutually d (other t) j) (rw other_piece i) z in
          omega (arith, once (piece_of b), bottom b d u' r, one_same (piece_of b) (piece_of t) (ap piece_of (sym q) ∙ other_piece t))

  -- where the trail left b, b led to a piece of the trail
  left : (b t : ℕ) (u : List ℕ) → Trail p b t u → t ≢ b → (g : ℕ) → p b ≡ some g → 0 < count (piece_of g) (map piece_of (t ∷ u))
  unfolding count
  left b t u here d g j = absurd (d refl)
  left b t u (step {c = c} {u = u'} r k) d g j =
      elim (ℕ_discrete c b) [
        | yes q ↦ omega (arith, one_same (piece_of g) (piece_of t) (ap piece_of (some_same (p b) g (other t) j (rw q at k)) ∙ other_piece t))
        | no q ↦ omega (arith, left b c u' r q g j)
      ]

  -- ---- a whole walk

  pub head_in : (s h : ℕ) → s < n → Head n p s h → piece_of h < n
  head_in s h b (open_head r once i j) = i
  head_in s h b (ring_head r once j) = omega arith

  pub head_out : (c : ℕ → ℕ) → Shut p c → (s h : ℕ) → c s ≡ 0 → Head n p s h → c (piece_of h) ≡ 0
  head_out c shut s h z (open_head {u = u} r once i j) = trail_out c shut (2 * s) h u r (rw (end_zero s) z)
  head_out c shut s h z (ring_head r once j) = rw (end_zero s) z

  -- from the head to a free end or round the ring, no end is left open
  pub head_shut : (c : ℕ → ℕ) (s h : ℕ) → Head n p s h → Ajar p c h → 0 < c (piece_of h) → Shut p c
  head_shut c s h (open_head r once b j) ajar i g g' k o =
      pos_of (c (piece_of g')) λ z. not_both (p h) g' j (rw (ajar g g' k o z) at k)
  head_shut c s h (ring_head {c = d} {u = u} r once j) ajar i g g' k o =
      pos_of (c (piece_of g')) λ z.
      let q : g ≡ 2 * s = ajar g g' k o z in
      let l : p (2 * s) ≡ some g' = rw q at k in
      elim (ℕ_discrete d (2 * s)) [
        | yes e ↦ J.apart (2 * s) (other (2 * s)) (rw e at j) (other_piece (2 * s))
        | no e ↦ omega (arith, trail_in c (2 * s) d u ajar r once last (piece_of g') (left (2 * s) d u r e g' l))
      ]
    where
      last : 0 < c (piece_of d)
      last = pos_of (c (piece_of d)) λ z.
          other_ne (2 * s) (ajar (other (2 * s)) d (J.mutually d (other (2 * s)) j) (rw other_piece i) z)

  -- and the walk passes its start
  pub head_covers : (c : ℕ → ℕ) (s h : ℕ) → Head n p s h → Shut p c → 0 < c (piece_of h) → 0 < c s
  head_covers c s h (open_head {u = u} r once b j) shut i =
      rw (end_zero s) at
      (trail_in c (2 * s) h u (λ g g' k o z. absurd (omega (arith, shut g g' k o))) r once i (piece_of (2 * s)) (bottom (2 * s) h u r))
  head_covers c s h (ring_head r once j) shut i = rw (end_zero s) at i
