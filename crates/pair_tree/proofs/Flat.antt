-- What a store keeps of a tree in a row of nodes. After a store at q only the equation of the parent of q can be wrong, so "every node but one" is all that
-- has to be said on the way up from a leaf; and from the last inner node to the first, "every node from here on".
use Prim.Native.Nat.{ℕ, zero, suc, ◌+◌, ◌-◌, ◌*◌, ◌/◌, ◌^◌, ◌≤◌, ◌<◌}
use mathlib.Core.Path.{◌≡◌, refl, sym, ◌∙◌, ap, ap₂, subst}
use mathlib.Core.Bool.{Bool, true, false, cond}
use mathlib.Core.Logic.{◌⊎◌, inl, inr, ⊎_elim}
use native.Mathlib.Omega.{arith}
use native.Mathlib.Nat.{mul_assoc, add-mul, mul_left_comm, le-mul_of_pos_right, pow-succ', one-mul}
use lib.Dec.{eqb, ltb}
use lib.Pow.{pow_pos}
use borrow.Author.Tests.{eqb-true, eqb-false, eq-eqb, ne_eqb, ltb-true, ltb-false}
use Rattle.pair_tree.specs.Flat.{Stored, changed, NodesKept, own}

two : (b : Bool) → (b ≡ true) ⊎ (b ≡ false)
two true = inl refl
two false = inr refl

pub same_or : (m n : ℕ) → (m ≡ n) ⊎ (m ≡ n → ⊥)
same_or m n = ⊎_elim (λ (e : eqb m n ≡ true). inl (eqb-true m n e)) (λ (e : eqb m n ≡ false). inr (eqb-false m n e)) (two (eqb m n))

pub below_or : (m n : ℕ) → (m < n) ⊎ (n ≤ m)
below_or m n = ⊎_elim (λ (e : ltb m n ≡ true). inl (ltb-true m n e)) (λ (e : ltb m n ≡ false). inr (ltb-false m n e)) (two (ltb m n))

module _ {A : Type 0} (join : A → A → A) (S : A → Type 0) where
  module _ (S-join : (a b : A) → S a → S b → S (join a b)) (N N' : ℕ → A) (base : ℕ) (l : ℕ → A) where
    -- a node is made anew: only its parent is then out of date
    pub kept_up : (q : ℕ) → 0 < q → q < base → NodesKept join S N base 1 q l → Stored N N' q (join (N (2 * q)) (N (2 * q + 1))) → NodesKept join S N' base 1 (q / 2) l
    kept_up q p h k s = record {
      leaves = λ e g. s.other (base + e) (λ x. omega arith) ∙ k.leaves e g;
      inner = λ n a b c. ⊎_elim
          (λ (e : n ≡ q). subst (λ (m : ℕ). N' m ≡ join (N' (2 * m)) (N' (2 * m + 1))) (sym e)
          (s.same ∙ ap₂ join (sym (s.other (2 * q) (λ x. omega arith))) (sym (s.other (2 * q + 1) (λ x. omega arith)))))
          (λ (e : n ≡ q → ⊥). s.other n e ∙ k.inner n a b e ∙ ap₂ join (sym (s.other (2 * n) (λ x. c (omega arith)))) (sym (s.other (2 * n + 1) (λ x. c (omega arith)))))
          (same_or n q);
      sound = λ n a b. ⊎_elim
          (λ (e : n ≡ q). subst (λ (m : ℕ). S (N' m)) (sym e) (subst S (sym s.same) (S-join (N (2 * q)) (N (2 * q + 1)) (k.sound (2 * q) (omega arith) (omega arith)) (k.sound (2 * q + 1) (omega arith) (omega arith)))))
          (λ (e : n ≡ q → ⊥). subst S (sym (s.other n e)) (k.sound n a b))
          (same_or n q);
    }

    -- from the last inner node down to the first
    pub kept_down : (q : ℕ) → 0 < q → q < base → NodesKept join S N base (q + 1) 0 l → Stored N N' q (join (N (2 * q)) (N (2 * q + 1))) → NodesKept join S N' base q 0 l
    kept_down q p h k s = record {
      leaves = λ e g. s.other (base + e) (λ x. omega arith) ∙ k.leaves e g;
      inner = λ n a b c. ⊎_elim
          (λ (e : n ≡ q). subst (λ (m : ℕ). N' m ≡ join (N' (2 * m)) (N' (2 * m + 1))) (sym e)
          (s.same ∙ ap₂ join (sym (s.other (2 * q) (λ x. omega arith))) (sym (s.other (2 * q + 1) (λ x. omega arith)))))
          (λ (e : n ≡ q → ⊥). s.other n e ∙ k.inner n (omega arith) b c ∙ ap₂ join (sym (s.other (2 * n) (λ x. omega arith))) (sym (s.other (2 * n + 1) (λ x. omega arith))))
          (same_or n q);
      sound = λ n a b. ⊎_elim
          (λ (e : n ≡ q). subst (λ (m : ℕ). S (N' m)) (sym e) (subst S (sym s.same) (S-join (N (2 * q)) (N (2 * q + 1)) (k.sound (2 * q) (omega arith) (omega arith)) (k.sound (2 * q + 1) (omega arith) (omega arith)))))
          (λ (e : n ≡ q → ⊥). subst S (sym (s.other n e)) (k.sound n (omega arith) b))
          (same_or n q);
    }

    -- a leaf is replaced
    pub kept_leaf : (e : ℕ) (v : A) → e < base → S v → NodesKept join S N base 1 0 l → Stored N N' (base + e) v → NodesKept join S N' base 1 ((base + e) / 2) (changed l e v)
    kept_leaf e v h z k s = record {
      leaves = λ x g. ⊎_elim
          (λ (w : x ≡ e). ap (λ (y : ℕ). N' (base + y)) w ∙ s.same ∙ sym (chosen (eqb x e) v (l x) (eq-eqb x e w)))
          (λ (w : x ≡ e → ⊥). s.other (base + x) (λ y. w (omega arith)) ∙ k.leaves x g ∙ sym (left (eqb x e) v (l x) (ne_eqb x e w)))
          (same_or x e);
      inner = λ n a b c. s.other n (λ x. omega arith) ∙ k.inner n a b (omega arith) ∙ ap₂ join (sym (s.other (2 * n) (λ x. c (omega arith)))) (sym (s.other (2 * n + 1) (λ x. c (omega arith))));
      sound = λ n a b. ⊎_elim
          (λ (w : n ≡ base + e). subst (λ (m : ℕ). S (N' m)) (sym w) (subst S (sym s.same) z))
          (λ (w : n ≡ base + e → ⊥). subst S (sym (s.other n w)) (k.sound n a b))
          (same_or n (base + e));
    }
      where
        chosen : (b : Bool) (x y : A) → b ≡ true → cond b x y ≡ x
        chosen b x y e = rw e

        left : (b : Bool) (x y : A) → b ≡ false → cond b x y ≡ y
        left b x y e = rw e

  -- the leaves under other names
  pub kept_same : (N : ℕ → A) (base low skip : ℕ) (l l' : ℕ → A) → ((e : ℕ) → e < base → l e ≡ l' e) → NodesKept join S N base low skip l → NodesKept join S N base low skip l'
  kept_same N base low skip l l' f k = record { leaves = λ e h. k.leaves e h ∙ f e h; inner = k.inner; sound = k.sound }

  -- the leaves alone
  pub kept_leaves : (N : ℕ → A) (base : ℕ) (l : ℕ → A) → ((e : ℕ) → e < base → N (base + e) ≡ l e) → ((e : ℕ) → e < base → S (l e)) → NodesKept join S N base base 0 l
  kept_leaves N base l f g = record {
    leaves = f;
    inner = λ n a b c. absurd (omega arith);
    sound = λ n a b. subst (λ (m : ℕ). S (N m)) (back n a) (subst S (sym (f (n - base) (omega arith))) (g (n - base) (omega arith)));
  }
    where
      back : (n : ℕ) → base ≤ n → base + (n - base) ≡ n
      back n h = omega arith

  -- a row that agrees on the tree's nodes
  pub kept_agree : (N N' : ℕ → A) (base : ℕ) (l : ℕ → A) → ((n : ℕ) → n < 2 * base → N' n ≡ N n) → NodesKept join S N base 1 0 l → NodesKept join S N' base 1 0 l
  kept_agree N N' base l f k =
      record {
        leaves = λ e h. f (base + e) (omega arith) ∙ k.leaves e h;
        inner =
            λ n a b c. f n (omega arith) ∙ k.inner n a b c ∙ ap₂ join (sym (f (2 * n) (omega arith))) (sym (f (2 * n + 1) (omega arith)));
        sound = λ n a b. subst S (sym (f n b)) (k.sound n a b);
      }

-- ---- the turns of a loop

module _ {A : Type 0} (join : A → A → A) (S : A → Type 0) (S-join : (a b : A) → S a → S b → S (join a b)) where
  -- each inner node is made of its children, from the last to n
  pub record Joining (N₀ N : ℕ → A) (base n : ℕ) : Type 0 where
    pub some : 0 < n
    pub within : n ≤ base
    pub kept : NodesKept join S N base n 0 (own N₀ base)

  pub joining_start : (N : ℕ → A) (base : ℕ) → 0 < base → ((x : ℕ) → x < base → S (own N base x)) → Joining N N base base
  joining_start N base h f = record { some = h; within = omega arith; kept = kept_leaves join S N base (own N base) (λ x k. refl) f }

  module _ {N₀ N : ℕ → A} {base n : ℕ} (s : Joining N₀ N base n) where
    pub joining_next : {N' : ℕ → A} → 1 < n → Stored N N' (n - 1) (join (N (2 * (n - 1))) (N (2 * (n - 1) + 1))) → Joining N₀ N' base (n - 1)
    joining_next {N'} h r =
        record {
          some = omega arith;
          within = omega (arith, s.within);
          kept =
              kept_down join S S-join N N' base (own N₀ base) (n - 1) (omega arith) (omega (arith, s.within))
              (subst (λ (m : ℕ). NodesKept join S N base m 0 (own N₀ base)) up s.kept)
              r;
        }
      where
        up : n ≡ n - 1 + 1
        up = omega arith

    pub joining_stop : n ≤ 1 → NodesKept join S N base 1 0 (own N₀ base)
    joining_stop h = subst (λ (m : ℕ). NodesKept join S N base m 0 (own N₀ base)) one s.kept
      where
        one : n ≡ 1
        one = omega (arith, s.some)

  -- the way up from a leaf: every node but q is made of its children
  pub record Climbing (N₀ N : ℕ → A) (base q : ℕ) : Type 0 where
    pub within : q < base
    pub kept : NodesKept join S N base 1 q (own N₀ base)

  module _ {N N₁ : ℕ → A} {base e : ℕ} {v : A} (h : e < base) (z : S v) (k : NodesKept join S N base 1 0 (own N base)) (s : Stored N N₁ (base + e) v) where
    leaf_changed : NodesKept join S N₁ base 1 ((base + e) / 2) (changed (own N base) e v)
    leaf_changed = kept_leaf join S S-join N N₁ base (own N base) e v h z k s

    pub climbing_start : Climbing N₁ N₁ base ((base + e) / 2)
    climbing_start =
        record {
          within = omega arith;
          kept = kept_same join S N₁ base 1 ((base + e) / 2) (changed (own N base) e v) (own N₁ base) (λ x l. sym (leaf_changed.leaves x l)) leaf_changed;
        }

    pub climbing_stop : {N' : ℕ → A} {q : ℕ} → Climbing N₁ N' base q → q ≡ 0 → NodesKept join S N' base 1 0 (changed (own N base) e v)
    climbing_stop {N'} {q} c g =
        kept_same join S N' base 1 0 (own N₁ base) (changed (own N base) e v) (λ x l. leaf_changed.leaves x l)
        (subst (λ (m : ℕ). NodesKept join S N' base 1 m (own N₁ base)) g c.kept)

  module _ {N₀ N : ℕ → A} {base q : ℕ} (s : Climbing N₀ N base q) (h : q ≡ 0 → ⊥) where
    pub climbing_next : {N' : ℕ → A} → Stored N N' q (join (N (2 * q)) (N (2 * q + 1))) → Climbing N₀ N' base (q / 2)
    climbing_next {N'} r = record { within = omega (arith, s.within); kept = kept_up join S S-join N N' base (own N₀ base) q (omega arith) s.within s.kept r }

-- ---- heights
pub twice : (h : ℕ) → 2 ^ suc h ≡ 2 * 2 ^ h
twice h = pow-succ' 2 h

pub left_is : (n q : ℕ) → 2 * n * q ≡ n * (2 * q)
left_is n q = mul_assoc 2 n q ∙ mul_left_comm 2 n q

pub right_is : (n q : ℕ) → (2 * n + 1) * q ≡ n * (2 * q) + q
right_is n q = add-mul (2 * n) 1 q ∙ ap₂ ◌+◌ (left_is n q) (one-mul q)

pub last_is : (n q : ℕ) → (2 * n + 1 + 1) * q ≡ (n + 1) * (2 * q)
last_is n q = ap (λ (x : ℕ). x * q) (again n) ∙ left_is (n + 1) q
  where
    again : (n : ℕ) → 2 * n + 1 + 1 ≡ 2 * (n + 1)
    again n = omega arith

pub next_is : (n q : ℕ) → (n + 1) * q ≡ n * q + q
next_is n q = add-mul n 1 q ∙ ap (λ (x : ℕ). n * q + x) (one-mul q)

-- what holds of the leaves and goes up from two children holds of each node, h steps above the leaves
pub climb : (P : ℕ → ℕ → Type 0) (base : ℕ) → ((n : ℕ) → base ≤ n → n < 2 * base → P zero n) → ((h n : ℕ) → 0 < n → n < base → P h (2 * n) → P h (2 * n + 1) → P (suc h) n)
    → (h n : ℕ) → 0 < n → base ≤ n * 2 ^ h → (n + 1) * 2 ^ h ≤ 2 * base → P h n
climb P base f g zero n p a b = f n (omega arith) (omega arith)
climb P base f g (suc h) n p a b =
    let q = 2 ^ h in
    let a' : base ≤ n * (2 * 2 ^ h) = rw (twice h) at a in
    let b' : (n + 1) * (2 * 2 ^ h) ≤ 2 * base = rw (twice h) at b in
    let u : n + 1 ≤ (n + 1) * 2 ^ h = le-mul_of_pos_right (n + 1) (pow_pos h) in
    g h n p (omega (arith, left_is (n + 1) (2 ^ h), mul_assoc 2 (n + 1) (2 ^ h)))
    (climb P base f g h (2 * n) (omega arith) (omega (arith, left_is n (2 ^ h))) (omega (arith, right_is n (2 ^ h), next_is n (2 * 2 ^ h), pow_pos h)))
    (climb P base f g h (2 * n + 1) (omega arith) (omega (arith, right_is n (2 ^ h))) (omega (arith, last_is n (2 ^ h))))
