-- The steps before the first turn, one end, row or block at a time: the marks, what each row holds, and the least key of each block.
use Prim.Native.Nat.{ℕ, ◌+◌, ◌*◌, ◌≤◌, ◌<◌}
use mathlib.Core.Path.{◌≡◌, refl, sym, ap, ◌∙◌, subst}
use mathlib.Core.Bool.{Bool, true, false, not}
use mathlib.Core.Logic.{inl, inr}
use mathlib.Core.List.{List}
use native.Mathlib.Omega.{arith}
use lib.Ieee.{Float}
use lib.ListN.{length, get_or, set}
use lib.Seq.{get_or-set_same, get_or-set_other}
use Rattle.rules.specs.Answers.{Direction}
use Rattle.std.specs.Int.{from_bool}
use Rattle.rules.specs.Lists.{one}
use Rattle.rules.specs.Refusals.{limit_bad}
use Rattle.pair_laws.proofs.Order.{Three, three}
use Rattle.pair_ends.specs.Blocks.{pairs_from, marks_from, row_keys_from, partners_from, lows_from, tops_end}
use Rattle.pair_ends.specs.Ends.{EndsRoom, direction_at}
use Rattle.pair_first_of_end.specs.Near.{numbered}
use Rattle.pair_first_of_end.specs.Row.{mark_at, RowReady, First}
use Rattle.pair_plain.specs.Lows.{blocks_of, LowsSettled, Lows}
use Rattle.pair_plain.specs.Steps.{Outside, held_at, mark_of, Marked, Playable, Renewed, Rows}
use Rattle.pair_plain.proofs.Blockwise.{settled_outside, lows_more}
use Rattle.pair_plain.proofs.Frames.{direction_same, first_same, renewed_other, renewed_row, renewed_rows}

-- what is below k + 1 is below k or is k
pub last : (P : ℕ → Type 0) (k x : ℕ) → x < k + 1 → (x < k → P x) → P k → P x
last P k x h p q = which (three x k)
  where
    which : Three x k → P x
    which (inl a) = p a
    which (inr (inl a)) = subst P (sym a) q
    which (inr (inr a)) = absurd (omega arith)

-- ---- marks

pub byte_one : (b : Bool) → from_bool b ≡ one b
byte_one true = refl
byte_one false = refl

pub record MarkedTo (w : List ℕ) (d k : ℕ) (w' : List ℕ) : Type 0 where
  pub marks : (e : ℕ) → e < k → mark_at w' d e ≡ mark_of w d e
  pub others : Outside (d * marks_from) (d * row_keys_from) w w'

pub marked_start : (w : List ℕ) (d : ℕ) → MarkedTo w d 0 w
marked_start w d = record { marks = λ e h. absurd (omega arith); others = λ x o. refl }

pub marked_step : (w w' : List ℕ) (d k m : ℕ) → d * row_keys_from ≤ length w → length w' ≡ length w → k < d → MarkedTo w d k w' → m ≡ mark_of w' d k → MarkedTo w d (k + 1) (set w' (d * marks_from + k) m)
marked_step w w' d k m room long h s e =
    record {
      marks = λ x g. last (λ x. mark_at (set w' (d * marks_from + k) m) d x ≡ mark_of w d x) k x g
          (λ a. get_or-set_other w' (d * marks_from + k) (d * marks_from + x) m 0 (λ q. omega arith) ∙ s.marks x a)
          (get_or-set_same w' (d * marks_from + k) m 0 (omega arith) ∙ e ∙ ap (λ (a : Direction). one (not (numbered a))) (direction_same w w' long d room (λ x g. s.others x (inl (omega arith))) k h));
      others = others;
    }
  where
    others : Outside (d * marks_from) (d * row_keys_from) w (set w' (d * marks_from + k) m)
    others x (inl o) = get_or-set_other w' (d * marks_from + k) x m 0 (λ q. omega arith) ∙ s.others x (inl o)
    others x (inr o) = get_or-set_other w' (d * marks_from + k) x m 0 (λ q. omega arith) ∙ s.others x (inr o)

-- ---- rows

module _ (w w' : List ℕ) (d : ℕ) (limit : Float) (long : length w' ≡ length w) (ok : Playable w d limit) (out : Outside (d * row_keys_from) (d * lows_from) w w') where
  kept : (x : ℕ) → x < d * pairs_from → get_or w' x 0 ≡ get_or w x 0
  kept x h = out x (inl (omega arith))

  marks : (e : ℕ) → e < d → mark_at w' d e ≡ mark_at w d e
  marks e h = out (d * marks_from + e) (inl (omega arith))

  room : d * row_keys_from ≤ length w
  room = omega (arith, ok.room.long)

  -- rows do not stand in the way of another walk
  pub walkable : (i : ℕ) → i < d → RowReady w' d limit i
  walkable i h =
      record {
        room = record { few = ok.room.few; long = omega (arith, ok.room.long) };
        row = h;
        admitted = ok.admitted;
        free = λ e g m. ap numbered (direction_same w w' long d room kept e g) ∙ ok.free e g (sym (marks e g) ∙ m);
      }

  pub rows_step : (k : ℕ) (w'' : List ℕ) → k < d → Rows w d limit k w' → Renewed w' d limit k w'' → Rows w d limit (k + 1) w''
  rows_step k w'' h s r =
      record {
        first = λ x g. last (λ x. First w d limit x (held_at w'' d x)) k x g
            (λ a. rw (renewed_rows w' w'' d limit k r h x (omega arith) (λ e. omega arith)) (s.first x a))
            (rw (renewed_row w' w'' d limit k r (omega (arith, ok.room.long)) h) (first_same w w' long d room kept limit k r.held marks r.first));
        others = others;
      }
    where
      other : (x : ℕ) → (x ≡ d * row_keys_from + k → ⊥) → (x ≡ d * partners_from + k → ⊥) → get_or w'' x 0 ≡ get_or w' x 0
      other = renewed_other w' w'' d limit k r

      others : Outside (d * row_keys_from) (d * lows_from) w w''
      others x (inl o) = other x (λ e. omega arith) (λ e. omega arith) ∙ s.others x (inl o)
      others x (inr o) = other x (λ e. omega arith) (λ e. omega arith) ∙ s.others x (inr o)

-- ---- blocks

pub record LevelTo (w : List ℕ) (d b : ℕ) (w' : List ℕ) : Type 0 where
  pub lows : Lows w' d (λ x. x < b)
  pub others : Outside (d * lows_from) (d * tops_end) w w'

pub level_start : (w : List ℕ) (d : ℕ) → LevelTo w d 0 w
level_start w d = record { lows = λ x h p. absurd (omega arith); others = λ x o. refl }

pub level_step : (w w' w'' : List ℕ) (d b : ℕ) → d * tops_end ≤ length w' → b < blocks_of d → LevelTo w d b w' → LowsSettled w' d b w'' → LevelTo w d (b + 1) w''
level_step w w' w'' d b room h s t =
    record {
      lows = λ x g p. lows_more w' w'' d b room h t (λ x. x < b) s.lows x g (λ n. below x p n);
      others = λ x o. settled_outside w' w'' d b room h t x o ∙ s.others x o;
    }
  where
    below : (x : ℕ) → x < b + 1 → (x ≡ b → ⊥) → x < b
    below x p n = go (three x b)
      where
        go : Three x b → x < b
        go (inl a) = a
        go (inr (inl a)) = absurd (n a)
        go (inr (inr a)) = absurd (omega arith)

-- ---- after the marks each row may be walked along

pub playable : (w w' : List ℕ) (d : ℕ) (limit : Float) → length w' ≡ length w → EndsRoom w d → limit_bad limit ≡ false → Marked w d w' → Playable w' d limit
playable w w' d limit long room ok m =
    record {
      room = record { few = room.few; long = omega (arith, room.long) };
      admitted = ok;
      free = λ e h z. (let s = direction_same w w' long d (omega (arith, room.long)) (λ x k. m.others x (inl (omega arith))) e h in
          ap numbered s ∙ go (numbered (direction_at w d e)) (sym (m.marks e h) ∙ z));
    }
  where
    go : (t : Bool) → one (not t) ≡ 0 → t ≡ true
    go true k = refl
    go false k = absurd (omega arith)
