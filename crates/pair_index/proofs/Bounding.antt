-- An index that was built of unions bounds its ends: no pair with an end below a node is before the node's bound. A box holds each direction below it and its
-- first index is at most each end's, since a union holds what either box holds; so its low key is at most the key of each pair (`key_bound`).
-- And the first index is that of an end below the node, so that the first pair below is at or before the pair with that end.
use Prim.Native.Nat.{ℕ, zero, suc, ◌+◌, ◌*◌, ◌≤◌, ◌<◌, min}
use mathlib.Core.Path.{◌≡◌, sym, ap, ◌∙◌, subst}
use mathlib.Core.Bool.{Bool, true, false, cond}
use mathlib.Core.Logic.{◌⊎◌, inl, inr, ⊎_elim}
use native.Mathlib.Nat.{le_trans, le_of_eq}
use native.Mathlib.Omega.{arith}
use lib.Dec.{T, eqb}
use lib.Ieee.{Float}
use lib.Ieee.Scale.{finite}
use borrow.Author.Tests.{eq-eqb, ne_eqb}
use Rattle.rules.specs.Answers.{Direction}
use Rattle.rules.specs.Answers.{Toward}
use Rattle.rules.specs.Plane.{measure}
use Rattle.float_order.specs.Key.{key, low_key}
use Rattle.pair_bounds.specs.declared.Bounds.{Bounds}
use Rattle.pair_bounds.specs.Box.{round_way, lower_of, Sound, BoxHolds}
use Rattle.pair_bounds.specs.Search.{place, least, Bounded}
use Rattle.pair_bounds.proofs.Bound.{low_key_lower, key_bound}
use Rattle.pair_bounds.proofs.Union.{empty_sound, point_sound, point_holds, union_sound, union_left, union_right}
use Rattle.pair_laws.specs.Ends.{key_of}
use Rattle.pair_tree.specs.Places.{gone, none}
use Rattle.pair_tree.proofs.Flat.{below_or}
use Rattle.pair_index.specs.Search.{Seat, Built, bound_of, pair_at, leaf_at}

-- ---- places

place_mono : (k i l j : ℕ) → k ≤ l → i ≤ j → place k i ≤ place l j
place_mono k i l j p q = omega arith

pub under_none : (k i : ℕ) → k ≤ gone → i ≤ gone → place k i ≤ none
unfolding none
under_none k i p q = place_mono k i gone gone p q

pub chosen : {A : Type 0} (b : Bool) (x y : A) → b ≡ true → cond b x y ≡ x
chosen b x y e = rw e

pub left_out : {A : Type 0} (b : Bool) (x y : A) → b ≡ false → cond b x y ≡ y
left_out b x y e = rw e

-- ---- what the nodes are

first_of : {a b : Bounds} → a ≡ b → a.first ≡ b.first
first_of e = ap (λ (v : Bounds). v.first) e

module _ (N : ℕ → Bounds) (way : ℕ → Direction) (d : ℕ) (few : d ≤ gone) where
  pub sound : (h n : ℕ) → Built N way d h n → Sound (N n)
  unfolding Built
  sound zero n (inl e) = subst (λ (v : Bounds). Sound v) (sym e) empty_sound
  sound zero n (inr s) = subst (λ (v : Bounds). Sound v) (sym s.box) (point_sound s.x s.y s.e s.x_finite s.y_finite)
  sound (suc h) n b =
      subst (λ (v : Bounds). Sound v) (sym b.0) (union_sound (N (2 * n)) (N (2 * n + 1)) (sound h (2 * n) b.1) (sound h (2 * n + 1) b.2))

  -- the first index is that of no end, or of one below d
  pub first_in : (h n : ℕ) → Built N way d h n → ((N n).first ≡ gone) ⊎ ((N n).first < d)
  unfolding Built
  first_in zero n (inl e) = inl (first_of e)
  first_in zero n (inr s) = inr (omega (arith, first_of s.box, s.within))
  first_in (suc h) n b = go (first_in h (2 * n) b.1) (first_in h (2 * n + 1) b.2)
    where
      least_first : (N n).first ≡ min (N (2 * n)).first (N (2 * n + 1)).first
      least_first = first_of b.0

      go : ((N (2 * n)).first ≡ gone) ⊎ ((N (2 * n)).first < d) → ((N (2 * n + 1)).first ≡ gone) ⊎ ((N (2 * n + 1)).first < d) → ((N n).first ≡ gone) ⊎ ((N n).first < d)
      go (inl a) (inl b) = inl (omega (arith, least_first))
      go (inl a) (inr b) = inr (omega (arith, least_first))
      go (inr a) c = inr (omega (arith, least_first))

  pub first_le : (h n : ℕ) → Built N way d h n → (N n).first ≤ gone
  first_le h n b = ⊎_elim (λ (e : (N n).first ≡ gone). omega arith) (λ (e : (N n).first < d). omega arith) (first_in h n b)

  -- every leaf h steps below n is empty, or its direction is in the box b, whose first index is at most the leaf's
  Covers : Bounds → ℕ → ℕ → Type 0
  Covers b zero n = ((N n).first ≡ gone) ⊎ ((s : Seat N way d n) × BoxHolds b s.x s.y × (b.first ≤ s.e))
  Covers b (suc h) n = Covers b h (2 * n) × Covers b h (2 * n + 1)

  wider : (a b : Bounds) (h n : ℕ) → ((x y : Float) → BoxHolds a x y → BoxHolds b x y) → b.first ≤ a.first → Covers a h n → Covers b h n
  unfolding Covers
  wider a b zero n f g (inl e) = inl e
  wider a b zero n f g (inr (s, w, i)) = inr (s, f s.x s.y w, omega arith)
  wider a b (suc h) n f g c = (wider a b h (2 * n) f g c.0, wider a b h (2 * n + 1) f g c.1)

  covers : (h n : ℕ) → Built N way d h n → Covers (N n) h n
  unfolding Built Covers
  covers zero n (inl e) = inl (first_of e)
  covers zero n (inr s) =
      inr (
        s,
        subst (λ (v : Bounds). BoxHolds v s.x s.y) (sym s.box) (point_holds s.x s.y s.e s.x_finite s.y_finite),
        omega (arith, first_of s.box),
      )
  covers (suc h) n b =
      let p = sound h (2 * n) b.1 in
      let q = sound h (2 * n + 1) b.2 in
      let e = first_of b.0 in (
        wider (N (2 * n)) (N n) h (2 * n)
            (λ x y w. subst (λ (v : Bounds). BoxHolds v x y) (sym b.0) (union_left (N (2 * n)) (N (2 * n + 1)) p q x y w))
            (omega arith) (covers h (2 * n) b.1),
        wider (N (2 * n + 1)) (N n) h (2 * n + 1)
            (λ x y w. subst (λ (v : Bounds). BoxHolds v x y) (sym b.0) (union_right (N (2 * n)) (N (2 * n + 1)) p q x y w))
            (omega arith) (covers h (2 * n + 1) b.2),
      )

  -- ---- the bounds

  module _ (r : Bool) (piece : ℕ → ℕ) (ax ay : Float) (own : ℕ) where
    abbrev pairs : ℕ → ℕ
    pairs = pair_at way piece ax ay own

    abbrev leaf : ℕ → ℕ
    leaf = leaf_at way piece ax ay own N

    -- r tells the truth of (ax, ay) and of the directions below d
    abbrev pub Told : Type 0
    Told = (r ≡ true → T (round_way ax ay)) × (r ≡ true → (e : ℕ) (x y : Float) → e < d → way e ≡ Toward x y → T (round_way x y))

    pub bound_le : (b : Bounds) → b.first ≤ gone → bound_of r ax ay b ≤ none
    unfolding bound_of
    bound_le b l = go (eqb b.first gone)
      where
        go : (e : Bool) → cond e none (place (low_key (lower_of r b ax ay)) b.first) ≤ none
        go true = omega arith
        go false = under_none (low_key (lower_of r b ax ay)) b.first (low_key_lower r b ax ay) l

    pub bound_some : (b : Bounds) → (b.first ≡ gone → ⊥) → bound_of r ax ay b ≡ place (low_key (lower_of r b ax ay)) b.first
    unfolding bound_of
    bound_some b p = left_out _ _ _ (ne_eqb b.first gone p)

    pub leaf_some : (n : ℕ) → ((N n).first ≡ gone → ⊥) → leaf n ≡ pairs (N n).first
    unfolding leaf_at
    leaf_some n p = left_out _ _ _ (ne_eqb (N n).first gone p)

    leaf_none : (n : ℕ) → (N n).first ≡ gone → leaf n ≡ none
    unfolding leaf_at
    leaf_none n p = chosen _ _ _ (eq-eqb (N n).first gone p)

    -- the pair with an end of the box
    module _ (b : Bounds) (s : Sound b) (l : b.first ≤ gone) (fx : T (finite ax)) (fy : T (finite ay)) (t : Told) where
      seated : (n : ℕ) (z : Seat N way d n) → BoxHolds b z.x z.y → b.first ≤ z.e → bound_of r ax ay b ≤ pairs z.e
      unfolding pair_at key_of
      seated n z w i =
          go (eqb (piece z.e) own)
          (le_trans (le_of_eq (bound_some b (λ e. omega (arith, e, z.within))))
          (subst (λ (k : ℕ). place (low_key (lower_of r b ax ay)) b.first ≤ place k z.e) (sym (ap (key_of (Toward ax ay)) z.toward))
          (place_mono (low_key (lower_of r b ax ay)) b.first (key (measure ax ay z.x z.y)) z.e
          (key_bound b s ax ay z.x z.y fx fy z.x_finite z.y_finite w r (λ e. (t.0 e, t.1 e z.e z.x z.y z.within z.toward))) i)))
        where
          go : (o : Bool) → bound_of r ax ay b ≤ place (key_of (Toward ax ay) (way z.e)) z.e
              → bound_of r ax ay b ≤ cond o none (place (key_of (Toward ax ay) (way z.e)) z.e)
          go true p = bound_le b l
          go false p = p

      under : (h n : ℕ) → Covers b h n → bound_of r ax ay b ≤ least leaf h n
      unfolding Covers least
      under zero n (inl e) = le_trans (bound_le b l) (le_of_eq (sym (leaf_none n e)))
      under zero n (inr (z, w, i)) =
          let e = first_of z.box in
          le_trans (seated n z w i) (le_of_eq (sym (leaf_some n (λ g. omega (arith, g, e, z.within)) ∙ ap pairs e)))
      under (suc h) n c =
          let p = under h (2 * n) c.0 in
          let q = under h (2 * n + 1) c.1 in
          omega arith

    pub bounded : T (finite ax) → T (finite ay) → Told → (h n : ℕ) → Built N way d h n → Bounded (λ m. bound_of r ax ay (N m)) leaf h n
    unfolding Built Bounded least
    bounded fx fy t zero n b = under (N n) (sound zero n b) (first_le zero n b) fx fy t zero n (covers zero n b)
    bounded fx fy t (suc h) n b =
        (under (N n) (sound (suc h) n b) (first_le (suc h) n b) fx fy t (suc h) n (covers (suc h) n b), bounded fx fy t h (2 * n) b.1, bounded fx fy t h (2 * n + 1) b.2)

    -- the first end is below the node
    pub first_under : (h n : ℕ) → Built N way d h n → ((N n).first ≡ gone → ⊥) → least leaf h n ≤ pairs (N n).first
    unfolding Built least
    first_under zero n b g = le_of_eq (leaf_some n g)
    first_under (suc h) n b g = ⊎_elim
        (λ (c : (N (2 * n)).first < (N (2 * n + 1)).first).
        let e : (N (2 * n)).first ≡ (N n).first = omega (arith, first_of b.0) in
        let i = first_under h (2 * n) b.1 (λ x. g (sym e ∙ x)) in
        omega (arith, ap pairs e))
        (λ (c : (N (2 * n + 1)).first ≤ (N (2 * n)).first).
        let e : (N (2 * n + 1)).first ≡ (N n).first = omega (arith, first_of b.0) in
        let i = first_under h (2 * n + 1) b.2 (λ x. g (sym e ∙ x)) in
        omega (arith, ap pairs e))
        (below_or (N (2 * n)).first (N (2 * n + 1)).first)
