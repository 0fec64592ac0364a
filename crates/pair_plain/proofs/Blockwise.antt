-- The least of some keys, found by going through them, and the least of all rows, found from the least of each block: the first block with the least key has
-- the first row with it.
use Prim.Native.Nat.{ℕ, ◌+◌, ◌*◌, ◌/◌, ◌≤◌, ◌<◌}
use mathlib.Core.Path.{◌≡◌, refl, sym, ap, ◌∙◌, subst}
use mathlib.Core.Bool.{Bool, true, false, cond}
use mathlib.Core.Logic.{◌⊎◌, inl, inr}
use mathlib.Core.List.{List}
use native.Mathlib.Omega.{arith}
use lib.Dec.{ltb, eqb}
use lib.ListN.{length, get_or, set, length-set}
use lib.Seq.{get_or-set_same, get_or-set_other}
use borrow.Author.Tests.{ltb-true, ltb-false, eqb-true, eqb-false}
use Rattle.float_order.specs.Key.{key_nan}
use Rattle.pair_laws.proofs.Order.{two, Three, three}
use Rattle.pair_ends.specs.Blocks.{pairs_from, row_keys_from, lows_from, tops_from, tops_end}
use Rattle.pair_plain.specs.declared.Low.{Low}
use Rattle.pair_plain.specs.Lows.{lesser_of, IsLow, upper_of, blocks_of, low_at, LowsSettled, Lows, all}
use Rattle.pair_plain.specs.Steps.{Outside}

-- ---- going through keys

module _ (w : List ℕ) (at from : ℕ) where
  pub low_start : (place : ℕ) → IsLow w at from from (record { key = key_nan; place = place })
  low_start place =
      record {
        least = λ x g h. absurd (omega arith);
        first = λ x g h. absurd (omega arith);
        there = λ h. absurd (omega arith);
      }

  pub low_step : (x : ℕ) (low : Low) → from ≤ x → IsLow w at from x low → IsLow w at from (x + 1) (lesser_of low (get_or w (at + x) 0) x)
  unfolding lesser_of
  low_step x low f s = go (ltb (get_or w (at + x) 0) low.key) refl
    where
      -- what is below x + 1 is below x or is x
      last : (y : ℕ) {P : Type 0} → y < x + 1 → (y < x → P) → (y ≡ x → P) → P
      last y {P} h p q = which (three y x)
        where
          which : Three y x → P
          which (inl k) = p k
          which (inr (inl k)) = q k
          which (inr (inr k)) = absurd (omega arith)

      here : (y : ℕ) → y ≡ x → get_or w (at + y) 0 ≡ get_or w (at + x) 0
      here y e = ap (λ (z : ℕ). get_or w (at + z) 0) e

      go : (t : Bool) → ltb (get_or w (at + x) 0) low.key ≡ t → IsLow w at from (x + 1) (cond t (record { key = get_or w (at + x) 0; place = x }) low)
      go true e =
          let k : get_or w (at + x) 0 < low.key = ltb-true (get_or w (at + x) 0) low.key e in
          record {
            least = λ y g h. last y h (λ a. omega (arith, s.least y g a)) (λ a. omega (arith, here y a));
            first = λ y g h n q. last y h (λ a. absurd (omega (arith, s.least y g a))) (λ a. omega arith);
            there = λ h. (f, omega arith, refl);
          }
      go false e =
          let k : low.key ≤ get_or w (at + x) 0 = ltb-false (get_or w (at + x) 0) low.key e in
          record {
            least = λ y g h. last y h (λ a. s.least y g a) (λ a. omega (arith, here y a));
            first = λ y g h n q. last y h (λ a. s.first y g a n q) (λ a. omega (arith, (s.there n).1));
            there = λ h. (let t = s.there h in (t.0, omega (arith, t.1), t.2));
          }

-- ---- blocks

upper_most : (d b : ℕ) → (upper_of d b ≤ d) × (upper_of d b ≤ b * 16 + 16)
unfolding upper_of
upper_most d b = omega arith

-- a row is in its block
in_block : (d x : ℕ) → x < d → (x / 16 * 16 ≤ x) × (x < upper_of d (x / 16))
unfolding upper_of
in_block d x h = omega arith

pub block_below : (d x : ℕ) → x < d → x / 16 < blocks_of d
block_below d x h = omega arith

pub blocks_fit : (d b : ℕ) → b < blocks_of d → (b < d) × (b * 16 ≤ upper_of d b) × (upper_of d b ≤ d)
unfolding upper_of
blocks_fit d b h = omega arith

module _ (w : List ℕ) (d : ℕ) (lows : Lows w d all) (low : Low) (s : IsLow w (d * lows_from) 0 (blocks_of d) low) where
  low_all : (x : ℕ) → x < d → low.key ≤ get_or w (d * row_keys_from + x) 0
  low_all x h =
      let b = lows (x / 16) (block_below d x h) tt in
      let i = in_block d x h in
      omega (arith, s.least (x / 16) (omega arith) (block_below d x h), b.least x i.0 i.1)

  pub top_none : low.key ≡ key_nan → IsLow w (d * row_keys_from) 0 d low
  top_none e =
      record {
        least = λ x g h. low_all x h;
        first = λ x g h n. absurd (omega arith);
        there = λ h. absurd (omega arith);
      }

  pub top_row : low.key < key_nan → IsLow w (d * row_keys_from) 0 d (record { key = low.key; place = get_or w (d * tops_from + low.place) 0 })
  top_row n =
      record {
        least = λ x g h. low_all x h;
        first = first;
        there = λ h. (omega arith, omega (arith, row.1, (upper_most d low.place).0), row.2 ∙ here.2);
      }
    where
      here : (0 ≤ low.place) × (low.place < blocks_of d) × (get_or w (d * lows_from + low.place) 0 ≡ low.key)
      here = s.there n

      row : (low.place * 16 ≤ get_or w (d * tops_from + low.place) 0) × (get_or w (d * tops_from + low.place) 0 < upper_of d low.place)
          × (get_or w (d * row_keys_from + get_or w (d * tops_from + low.place) 0) 0 ≡ get_or w (d * lows_from + low.place) 0)
      row = (lows low.place here.1 tt).there (omega (arith, here.2))

      first : (x : ℕ) → 0 ≤ x → x < d → low.key < key_nan → get_or w (d * row_keys_from + x) 0 ≡ low.key → get_or w (d * tops_from + low.place) 0 ≤ x
      first x g h k e = go (three low.place (x / 16))
        where
          i : (x / 16 * 16 ≤ x) × (x < upper_of d (x / 16))
          i = in_block d x h

          -- the block of x has the least key too
          level : get_or w (d * lows_from + x / 16) 0 ≡ low.key
          level =
              omega (
                arith,
                s.least (x / 16) (omega arith) (block_below d x h),
                (lows (x / 16) (block_below d x h) tt).least x i.0 i.1,
              )

          go : Three low.place (x / 16) → get_or w (d * tops_from + low.place) 0 ≤ x
          go (inl a) = omega (arith, row.1, (upper_most d low.place).1, i.0)
          go (inr (inl a)) =
              (lows low.place here.1 tt).first x
              (omega (arith, i.0))
              (subst (λ (b : ℕ). x < upper_of d b) (sym a) i.1)
              (omega (arith, here.2))
              (e ∙ sym here.2)
          go (inr (inr a)) = absurd (omega (arith, s.first (x / 16) (omega arith) (block_below d x h) k level))

-- ---- changes elsewhere

pub low_same : {w w' : List ℕ} {at from to : ℕ} {low : Low} → ((x : ℕ) → from ≤ x → x < to → get_or w' (at + x) 0 ≡ get_or w (at + x) 0) → IsLow w at from to low → IsLow w' at from to low
low_same same s =
    record {
      least = λ x g h. omega (arith, s.least x g h, same x g h);
      first = λ x g h n e. s.first x g h n (sym (same x g h) ∙ e);
      there = λ n. (let t = s.there n in (t.0, t.1, same _ t.0 t.1 ∙ t.2));
    }

-- other rows, and no least key of a block that is still spoken of
pub lows_kept : (w w' : List ℕ) (d : ℕ) (P P' : ℕ → Type 0) → Lows w d P → ((b : ℕ) → P' b → P b)
    → ((x : ℕ) → x < d → P' (x / 16) → get_or w' (d * row_keys_from + x) 0 ≡ get_or w (d * row_keys_from + x) 0)
    → Outside (d * pairs_from) (d * lows_from) w w' → Lows w' d P'
lows_kept w w' d P P' lows f rows out b h p =
    subst (λ (low : Low). IsLow w' (d * row_keys_from) (b * 16) (upper_of d b) low) same
    (low_same (λ x g k. rows x (omega (arith, k, (upper_most d b).0)) (subst P' (block x g k) p)) (lows b h (f b p)))
  where
    block : (x : ℕ) → b * 16 ≤ x → x < upper_of d b → b ≡ x / 16
    block x g k = omega (arith, (upper_most d b).1)

    same : low_at w d b ≡ low_at w' d b
    same = λ t. record { key = sym (out (d * lows_from + b) (inr (omega arith))) t; place = sym (out (d * tops_from + b) (inr (omega arith))) t }

module _ (w w' : List ℕ) (d b : ℕ) (room : d * tops_end ≤ length w) (h : b < blocks_of d) (s : LowsSettled w d b w') where
  settled_other : (x : ℕ) → (x ≡ d * lows_from + b → ⊥) → (x ≡ d * tops_from + b → ⊥) → get_or w' x 0 ≡ get_or w x 0
  settled_other x f g =
      ap (λ (l : List ℕ). get_or l x 0) s.list
      ∙ get_or-set_other (set w (d * lows_from + b) s.low.key) (d * tops_from + b) x s.low.place 0 g
      ∙ get_or-set_other w (d * lows_from + b) x s.low.key 0 f

  pub settled_outside : Outside (d * lows_from) (d * tops_end) w w'
  settled_outside x (inl o) = settled_other x (λ e. omega arith) (λ e. omega arith)
  settled_outside x (inr o) = settled_other x (λ e. omega (arith, (blocks_fit d b h).0)) (λ e. omega (arith, (blocks_fit d b h).0))

  settled_low : low_at w' d b ≡ s.low
  settled_low = λ t. record { key = key_there t; place = place_there t }
    where
      key_there : get_or w' (d * lows_from + b) 0 ≡ s.low.key
      key_there =
          ap (λ (l : List ℕ). get_or l (d * lows_from + b) 0) s.list
          ∙ get_or-set_other (set w (d * lows_from + b) s.low.key) (d * tops_from + b) (d * lows_from + b) s.low.place 0 (λ e. omega (arith, (blocks_fit d b h).0))
          ∙ get_or-set_same w (d * lows_from + b) s.low.key 0 (omega (arith, (blocks_fit d b h).0))

      place_there : get_or w' (d * tops_from + b) 0 ≡ s.low.place
      place_there =
          ap (λ (l : List ℕ). get_or l (d * tops_from + b) 0) s.list
          ∙ get_or-set_same (set w (d * lows_from + b) s.low.key) (d * tops_from + b) s.low.place 0 (simp length-set (omega (arith, (blocks_fit d b h).0)))

  -- block b too has its least key
  pub lows_more : (P : ℕ → Type 0) → Lows w d P → Lows w' d (λ x. (x ≡ b → ⊥) → P x)
  lows_more P lows x k p = go (two (eqb x b))
    where
      rows : (y : ℕ) → x * 16 ≤ y → y < upper_of d x → get_or w' (d * row_keys_from + y) 0 ≡ get_or w (d * row_keys_from + y) 0
      rows y g u = settled_outside (d * row_keys_from + y) (inl (omega (arith, (upper_most d x).0)))

      go : (eqb x b ≡ true) ⊎ (eqb x b ≡ false) → IsLow w' (d * row_keys_from) (x * 16) (upper_of d x) (low_at w' d x)
      go (inl e) =
          let f = eqb-true x b e in
          rw (ap (low_at w' d) f ∙ settled_low) (low_same rows (subst (λ (y : ℕ). IsLow w (d * row_keys_from) (y * 16) (upper_of d y) s.low) (sym f) s.is))
      go (inr e) =
          let f = eqb-false x b e in
          rw (settled_other (d * lows_from + x) (λ g. f (omega arith)) (λ g. omega (arith, (blocks_fit d x k).0)), settled_other (d * tops_from + x) (λ g. omega (arith, (blocks_fit d b h).0)) (λ g. f (omega arith)))
          (low_same rows (lows x k (p f)))
