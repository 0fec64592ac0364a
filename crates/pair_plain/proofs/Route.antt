-- The whole route: what holds between turns, with every block settled, holds before the first turn and is kept by each.
use Prim.Native.Nat.{ℕ, ◌+◌, ◌*◌, ◌/◌, ◌≤◌, ◌<◌}
use mathlib.Core.Path.{◌≡◌, sym, ap, ◌∙◌, subst}
use mathlib.Core.Bool.{Bool, true, false}
use mathlib.Core.Logic.{◌⊎◌, inl, inr}
use mathlib.Core.List.{List}
use native.Mathlib.Omega.{arith}
use lib.Ieee.{Float}
use lib.ListN.{length, get_or}
use Rattle.rules.specs.Refusals.{limit_bad, end_room}
use Rattle.float_order.specs.Key.{key_nan, key}
use Rattle.pair_ends.specs.Blocks.{pairs_from, marks_from, row_keys_from, partners_from, lows_from, tops_end}
use Rattle.pair_ends.specs.Ends.{EndsRoom}
use Rattle.pair_first_of_end.specs.Near.{numbered}
use Rattle.pair_first_of_end.specs.Row.{mark_at, RowReady}
use Rattle.pair_plain.specs.declared.Low.{Low}
use Rattle.pair_plain.specs.Lows.{IsLow, RowSettled, Lows, all}
use Rattle.pair_plain.specs.Steps.{Outside, Marked, Renewed, Rows, Levelled, taken_from}
use Rattle.pair_plain.proofs.Blockwise.{block_below, lows_kept, lows_more, settled_outside}
use Rattle.pair_plain.proofs.Frames.{direction_same, renewed_long, renewed_other}
use Rattle.pair_plain.proofs.Turns.{Core, core_start, core_same, core_renew}
use Rattle.pair_plain.proofs.Taking.{taken_long, taken_other, take_fits, top_partner, core_take}

-- What holds between turns, in blocks or not: where rows stand in blocks, each block is settled.
pub record Going (blocks : Bool) (w₀ : List ℕ) (d : ℕ) (limit : Float) (w : List ℕ) (n : ℕ) : Type 0 where
  pub core : Core w₀ d limit w n
  pub lows : blocks ≡ true → Lows w d all

-- every block is settled, where rows stand in blocks; where they do not, nothing is
abbrev pub AllSettled : Bool → List ℕ → ℕ → List ℕ → Type 0
AllSettled true w d w' = Levelled w d w'
AllSettled false w d w' = w' ≡ w

module _ (blocks : Bool) (w₀ : List ℕ) (d : ℕ) (limit : Float) (room : EndsRoom w₀ d) (below : key limit < key_nan) where
  pub room_of : (w : List ℕ) → length w ≡ length w₀ → EndsRoom w d
  room_of w e = record { few = room.few; long = omega (arith, room.long) }

  pub walkable_row : (w : List ℕ) (n : ℕ) → Going blocks w₀ d limit w n → (i : ℕ) → i < d → limit_bad limit ≡ false → RowReady w d limit i
  walkable_row w n s i h ok =
      record {
        room = room_of w s.core.long;
        row = h;
        admitted = ok;
        free = λ e g m. ap numbered (direction_same w₀ w s.core.long d (omega (arith, room.long)) s.core.kept e g) ∙ s.core.free e g m;
      }

  pub going_start : (w₁ w₂ w₃ : List ℕ) → length w₁ ≡ length w₀ → Marked w₀ d w₁ → length w₂ ≡ length w₁ → Rows w₁ d limit d w₂ → length w₃ ≡ length w₂ → AllSettled blocks w₂ d w₃
      → Going blocks w₀ d limit w₃ 0
  going_start w₁ w₂ w₃ e m f r g l = go blocks l
    where
      core : Core w₀ d limit w₂ 0
      core = core_start w₀ d limit room below w₁ w₂ e m f r

      go : (b : Bool) → AllSettled b w₂ d w₃ → Going b w₀ d limit w₃ 0
      go true l =
          record {
            core = core_same w₀ d limit room below w₂ w₃ 0 g same core;
            lows = λ _. l.lows;
          }
        where
          same : (x : ℕ) → (x < d * lows_from) ⊎ (d * end_room ≤ x) → get_or w₃ x 0 ≡ get_or w₂ x 0
          same x (inl o) = l.others x (inl o)
          same x (inr o) = l.others x (inr (omega arith))
      go false l = record { core = subst (λ (w : List ℕ). Core w₀ d limit w 0) (sym l) core; lows = λ e. cc }

  -- a row's block is settled
  settled_core : (b : Bool) (w₁ w₂ : List ℕ) (m i : ℕ) → length w₁ ≡ length w₀ → length w₂ ≡ length w₁ → i < d → RowSettled b w₁ d i w₂ → Core w₀ d limit w₁ m → Core w₀ d limit w₂ m
  settled_core true w₁ w₂ m i e f h t c = core_same w₀ d limit room below w₁ w₂ m f same c
    where
      out : Outside (d * lows_from) (d * tops_end) w₁ w₂
      out = settled_outside w₁ w₂ d (i / 16) (omega (arith, room.long)) (block_below d i h) t

      same : (x : ℕ) → (x < d * lows_from) ⊎ (d * end_room ≤ x) → get_or w₂ x 0 ≡ get_or w₁ x 0
      same x (inl o) = out x (inl o)
      same x (inr o) = out x (inr (omega arith))
  settled_core false w₁ w₂ m i e f h t c = subst (λ (w : List ℕ). Core w₀ d limit w m) (sym t) c

  pub settled_same : (b : Bool) (w₁ w₂ : List ℕ) (i : ℕ) → length w₁ ≡ length w₀ → i < d → RowSettled b w₁ d i w₂ → (x : ℕ) → x < d * lows_from → get_or w₂ x 0 ≡ get_or w₁ x 0
  settled_same true w₁ w₂ i e h t x g = settled_outside w₁ w₂ d (i / 16) (omega (arith, room.long)) (block_below d i h) t x (inl g)
  settled_same false w₁ w₂ i e h t x g = ap (λ (l : List ℕ). get_or l x 0) t

  module _ (w : List ℕ) (n : ℕ) (s : Going blocks w₀ d limit w n) where
    ten : d * tops_end ≤ length w
    ten = omega (arith, room.long, s.core.long)

    -- row i is gone through again
    module _ (i : ℕ) (i<d : i < d) (w₁ w₂ : List ℕ) (r : Renewed w d limit i w₁) (f : length w₂ ≡ length w₁) (t : RowSettled blocks w₁ d i w₂) where
      now_long : length w₁ ≡ length w
      now_long = renewed_long w w₁ d limit i r

      other : (x : ℕ) → (x ≡ d * row_keys_from + i → ⊥) → (x ≡ d * partners_from + i → ⊥) → get_or w₁ x 0 ≡ get_or w x 0
      other = renewed_other w w₁ d limit i r

      outside : Outside (d * pairs_from) (d * lows_from) w w₁
      outside x (inl o) = other x (λ e. omega arith) (λ e. omega arith)
      outside x (inr o) = other x (λ e. omega arith) (λ e. omega arith)

      pub going_renew : Going blocks w₀ d limit w₂ n
      going_renew =
          record {
            core = settled_core blocks w₁ w₂ n i (now_long ∙ s.core.long) f i<d t (core_renew w₀ d limit room below w w₁ n i i<d r s.core);
            lows = lows blocks t s.lows;
          }
        where
          same : {x : ℕ} → d * row_keys_from + x ≡ d * row_keys_from + i → x ≡ i
          same e = omega arith

          lows : (b : Bool) → RowSettled b w₁ d i w₂ → (b ≡ true → Lows w d all) → b ≡ true → Lows w₂ d all
          lows true t s e b h _ =
              lows_more w₁ w₂ d (i / 16) (omega (arith, ten, now_long)) (block_below d i i<d) t (λ x. x ≡ i / 16 → ⊥)
              (lows_kept w w₁ d all (λ x. x ≡ i / 16 → ⊥) (s e) (λ x _. tt) (λ x h p. other (d * row_keys_from + x) (λ e. p (ap (λ (y : ℕ). y / 16) (same e))) (λ e. omega arith)) outside)
              b h (λ p. p)
          lows false t s e b h _ = cc

    -- the least pair held is taken
    module _
        (low : Low)
        (top : IsLow w (d * row_keys_from) 0 d low)
        (some : low.key < key_nan)
        (free : mark_at w d (get_or w (d * partners_from + low.place) 0) ≡ 0)
        (w₁ w₂ w₃ : List ℕ)
        (e : w₁ ≡ taken_from w d n low.place (get_or w (d * partners_from + low.place) 0))
        (f : length w₂ ≡ length w₁)
        (t : RowSettled blocks w₁ d low.place w₂)
        (g : length w₃ ≡ length w₂)
        (u : RowSettled blocks w₂ d (get_or w (d * partners_from + low.place) 0) w₃) where
      partner : (low.place < get_or w (d * partners_from + low.place) 0) × (get_or w (d * partners_from + low.place) 0 < d)
      partner = top_partner w₀ d limit room below w n s.core low top some

      row_below : low.place < d
      row_below = omega (arith, partner)

      long : length w₁ ≡ length w
      long = ap length e ∙ taken_long w d n low.place (get_or w (d * partners_from + low.place) 0)

      unstored : (x : ℕ) → (x ≡ d * pairs_from + n * 2 → ⊥) → (x ≡ d * pairs_from + n * 2 + 1 → ⊥) → (x ≡ d * marks_from + low.place → ⊥) → (x ≡ d * marks_from + get_or w (d * partners_from + low.place) 0 → ⊥)
          → (x ≡ d * row_keys_from + low.place → ⊥) → (x ≡ d * row_keys_from + get_or w (d * partners_from + low.place) 0 → ⊥) → get_or w₁ x 0 ≡ get_or w x 0
      unstored x a b c q h k = ap (λ (l : List ℕ). get_or l x 0) e ∙ taken_other w d n low.place (get_or w (d * partners_from + low.place) 0) x a b c q h k

      fits : n * 2 + 2 ≤ d
      fits = take_fits w₀ d limit room below w n s.core low top some free

      away : Outside (d * pairs_from) (d * lows_from) w w₁
      away x (inl o) =
          unstored x (λ q. omega arith) (λ q. omega arith) (λ q. omega arith) (λ q. omega arith) (λ q. omega arith) (λ q. omega arith)
      away x (inr o) =
          unstored x (λ q. omega (arith, fits)) (λ q. omega (arith, fits)) (λ q. omega (arith, partner)) (λ q. omega (arith, partner)) (λ q. omega (arith, partner)) (λ q. omega (arith, partner))

      -- the blocks of neither end
      untouched : Lows w d all → Lows w₁ d (λ b. (b ≡ low.place / 16 → ⊥) × (b ≡ get_or w (d * partners_from + low.place) 0 / 16 → ⊥))
      untouched s =
          lows_kept w w₁ d all (λ b. (b ≡ low.place / 16 → ⊥) × (b ≡ get_or w (d * partners_from + low.place) 0 / 16 → ⊥)) s (λ x _. tt)
          (λ x h p. unstored (d * row_keys_from + x) (λ q. omega (arith, fits)) (λ q. omega (arith, fits)) (λ q. omega (arith, partner)) (λ q. omega (arith, partner))
          (λ q. p.0 (ap (λ (y : ℕ). y / 16) (same q)))
          (λ q. p.1 (ap (λ (y : ℕ). y / 16) (same q))))
          away
        where
          same : {x y : ℕ} → d * row_keys_from + x ≡ d * row_keys_from + y → x ≡ y
          same q = omega arith

      pub going_take : Going blocks w₀ d limit w₃ (n + 1)
      going_take =
          record {
            core = settled_core blocks w₂ w₃ (n + 1) (get_or w (d * partners_from + low.place) 0) (f ∙ long ∙ s.core.long) g partner.1 u
                (settled_core blocks w₁ w₂ (n + 1) low.place (long ∙ s.core.long) f row_below t
                (subst (λ (l : List ℕ). Core w₀ d limit l (n + 1)) (sym e) (core_take w₀ d limit room below w n s.core low top some free)));
            lows = lows blocks t u s.lows;
          }
        where
          lows : (b : Bool) → RowSettled b w₁ d low.place w₂ → RowSettled b w₂ d (get_or w (d * partners_from + low.place) 0) w₃ → (b ≡ true → Lows w d all) → b ≡ true → Lows w₃ d all
          lows true t u s e b h _ =
              lows_more w₂ w₃ d (get_or w (d * partners_from + low.place) 0 / 16) (omega (arith, ten, f, long)) (block_below d (get_or w (d * partners_from + low.place) 0) partner.1) u
              (λ x. (x ≡ low.place / 16 → ⊥) → (x ≡ low.place / 16 → ⊥) × (x ≡ get_or w (d * partners_from + low.place) 0 / 16 → ⊥))
              (lows_more w₁ w₂ d (low.place / 16) (omega (arith, ten, long)) (block_below d low.place row_below) t (λ x. (x ≡ low.place / 16 → ⊥) × (x ≡ get_or w (d * partners_from + low.place) 0 / 16 → ⊥)) (untouched (s e)))
              b h (λ p q. (q, p))
          lows false t u s e b h _ = cc
