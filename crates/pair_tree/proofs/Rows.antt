-- A tree in a row of nodes: what a write leaves, and the turns of joining all leaves, from the last inner node to the first, and of the way up from one leaf.
use Prim.Native.Nat.{ℕ, ◌+◌, ◌-◌, ◌*◌, ◌/◌, ◌≤◌, ◌<◌}
use mathlib.Core.Path.{◌≡◌, sym, ◌∙◌}
use mathlib.Core.Logic.{⊎_elim}
use mathlib.Core.List.{List}
use native.Mathlib.Omega.{arith}
use native.Mathlib.Nat.{mul_assoc, mul_left_comm, mul-add, mul-one, mul-le-mul_left}
use Rattle.pair_bounds.specs.Reading.{SameWords}
use Rattle.pair_tree.specs.Words.{Changes}
use Rattle.pair_tree.specs.Rows.{row, RowPut, RowRoom, RowLeaves, RowJoined, RowWhole, RowSets}
use Rattle.pair_tree.proofs.Flat as flat
use Rattle.pair_tree.proofs.Flat.{below_or}
use Rattle.pair_tree.proofs.Words.{changes_none, changes_then, changes_wider}

-- ---- where nodes stand

pub step : (words m n : ℕ) → m < n → words * m + words ≤ words * n
step words m n h = let l : words * (m + 1) ≤ words * n = mul-le-mul_left words (omega arith) in omega (arith, l, mul-add words m 1, mul-one words)

twice_is : (words base : ℕ) → words * (2 * base) ≡ 2 * words * base
twice_is words base = mul_left_comm words 2 base ∙ sym (mul_assoc 2 words base)

pub room_node : (words base t n len : ℕ) → n < 2 * base → t + 2 * words * base ≤ len → t + words * n + words ≤ len
room_node words base t n len h r = omega (arith, step words n (2 * base) h, twice_is words base)

module _ {A : Type 0} (at : List ℕ → ℕ → A) (words : ℕ) (join : A → A → A) (S : A → Type 0) (S-join : (a b : A) → S a → S b → S (join a b))
    (alone : (w w' : List ℕ) (k : ℕ) → SameWords w w' k words → at w' k ≡ at w k) where
  -- a node is written
  pub puts : {w w' : List ℕ} {t n : ℕ} {v : A} → at w' (t + words * n) ≡ v → Changes w w' (t + words * n) (t + words * n + words) → RowPut at words w w' t n v
  puts {w} {w'} {t} {n} e c =
      record {
        stored = record { same = e; other = λ m f. alone w w' (t + words * m) (past m f) };
        kept = c;
      }
    where
      past : (m : ℕ) → (m ≡ n → ⊥) → SameWords w w' (t + words * m) words
      past m f i h =
          ⊎_elim
          (λ (l : m < n). c.below (t + words * m + i) (omega (arith, step words m n l)))
          (λ (l : n ≤ m). c.beyond (t + words * m + i) (omega (arith, step words n m (omega arith))))
          (below_or m n)

  puts_in : {w w' : List ℕ} {t n : ℕ} {v : A} (base : ℕ) → n < 2 * base → RowPut at words w w' t n v → Changes w w' t (t + 2 * words * base)
  puts_in {w} {w'} {t} {n} base l p =
      changes_wider t (t + 2 * words * base) (omega arith) (room_node words base t n (t + 2 * words * base) l (omega arith)) p.kept

  wide_kept : {w w' : List ℕ} {t base a b : ℕ} → Changes w w' a b → RowRoom words w t base → RowRoom words w' t base
  wide_kept c z = record { some = z.some; inside = omega (arith, c.long, z.inside) }

  -- the turns of joining all leaves
  pub record Joining (w₀ w : List ℕ) (t base n : ℕ) : Type 0 where
    pub wide : RowRoom words w t base
    pub tree : flat.Joining join S S-join (row at words w₀ t) (row at words w t) base n
    pub frame : Changes w₀ w t (t + 2 * words * base)

  pub joining_start : {w : List ℕ} {t base : ℕ} → RowLeaves at words S w t base → Joining w w t base base
  joining_start {w} {t} {base} s =
      record {
        wide = s.wide;
        tree = flat.joining_start join S S-join (row at words w t) base s.wide.some s.sound;
        frame = changes_none w t (t + 2 * words * base);
      }

  module _ {w₀ w : List ℕ} {t base n : ℕ} (s : Joining w₀ w t base n) where
    pub joining_next : {w' : List ℕ} → 1 < n → RowPut at words w w' t (n - 1) (join (row at words w t (2 * (n - 1))) (row at words w t (2 * (n - 1) + 1)))
        → Joining w₀ w' t base (n - 1)
    joining_next h r =
        let c = puts_in base (omega (arith, s.tree.within)) r in
        record { wide = wide_kept c s.wide; tree = flat.joining_next join S S-join s.tree h r.stored; frame = changes_then s.frame c }

    pub joining_stop : n ≤ 1 → RowJoined at words join S w₀ w t base
    joining_stop h = record { whole = flat.joining_stop join S S-join s.tree h; kept = s.frame }

  -- the turns of the way up from a leaf
  pub record Climbing (w₀ w : List ℕ) (t base q : ℕ) : Type 0 where
    pub wide : RowRoom words w t base
    pub tree : flat.Climbing join S S-join (row at words w₀ t) (row at words w t) base q
    pub frame : Changes w₀ w t (t + 2 * words * base)

  module _ {w w₁ : List ℕ} {t base p : ℕ} {v : A} (z : RowWhole at words join S w t base p) (sound : S v) (s : RowPut at words w w₁ t (base + p) v) where
    pub climbing_start : Climbing w₁ w₁ t base ((base + p) / 2)
    climbing_start =
        record {
          wide = wide_kept s.kept z.wide;
          tree = flat.climbing_start join S S-join z.within sound z.whole s.stored;
          frame = changes_none w₁ t (t + 2 * words * base);
        }

    pub climbing_stop : {w' : List ℕ} {q : ℕ} → Climbing w₁ w' t base q → q ≡ 0 → RowSets at words join S w w' t base p v
    climbing_stop c g =
        record {
          whole = flat.climbing_stop join S S-join z.within sound z.whole s.stored c.tree g;
          kept = changes_then (puts_in base (omega (arith, z.within)) s) c.frame;
        }

  module _ {w₀ w : List ℕ} {t base q : ℕ} (s : Climbing w₀ w t base q) (h : q ≡ 0 → ⊥) where
    pub climbing_next : {w' : List ℕ} → RowPut at words w w' t q (join (row at words w t (2 * q)) (row at words w t (2 * q + 1))) → Climbing w₀ w' t base (q / 2)
    climbing_next r =
        let c = puts_in base (omega (arith, s.tree.within)) r in
        record { wide = wide_kept c s.wide; tree = flat.climbing_next join S S-join s.tree h r.stored; frame = changes_then s.frame c }
