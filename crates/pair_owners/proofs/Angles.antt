-- The angle of a direction by the cases of the code, and the turns of writing the keys: the three words of one end more are written, and those of the ends
-- before it stay, since each end has three words of its own behind all that is read.
use Prim.Native.Nat.{ℕ, ◌+◌, ◌*◌, ◌/◌, ◌≤◌, ◌<◌}
use mathlib.Core.Path.{◌≡◌, ◌∙◌, ap, ap₂}
use mathlib.Core.Bool.{true, false}
use mathlib.Core.List.{List}
use mathlib.Core.Logic.{⊎_elim}
use native.Mathlib.Omega.{arith}
use lib.Ieee.{Float, binary64, add, sub, div, lt}
use lib.ListN.{length, get_or, set}
use lib.Seq.{get_or-set_same, get_or-set_other}
use Rattle.rules.specs.Plane.{float, nought, unity}
use Rattle.rules.specs.Layout.{given}
use Rattle.float_order.specs.Key.{key}
use Rattle.float_order.proofs.Pick.{chosen, other}
use Rattle.pair_ends.specs.Blocks.{sort_keys_from, groups_from}
use Rattle.pair_ends.specs.Ends.{EndsRoom, direction_at}
use Rattle.pair_tree.specs.Words.{Changes}
use Rattle.pair_tree.proofs.Flat.{same_or}
use Rattle.pair_tree.proofs.Words.{changes_none, changes_then, changes_wider, changes_set}
use Rattle.pair_owners.specs.Angles.{three, size_of, share_of, angle_toward, angle_along, angle_at, AngleKeyed}

-- ---- one direction

module _ (x y : Float) {a b : Float} (p : a ≡ size_of x) (q : b ≡ size_of y) where
  share : div binary64 x (add binary64 a b) ≡ share_of x y
  unfolding share_of
  share = ap₂ (λ (u v : Float). div binary64 x (add binary64 u v)) p q

  pub angle_lower : {r : ℕ} → lt y nought ≡ true → r ≡ key (add binary64 three (div binary64 x (add binary64 a b))) / 2 → r ≡ angle_toward x y
  unfolding angle_toward
  angle_lower h e = e ∙ ap (λ (t : Float). key (add binary64 three t) / 2) share ∙ chosen (lt y nought) _ _ h

  pub angle_upper : {r : ℕ} → lt y nought ≡ false → r ≡ key (sub binary64 unity (div binary64 x (add binary64 a b))) / 2 → r ≡ angle_toward x y
  unfolding angle_toward
  angle_upper h e = e ∙ ap (λ (t : Float). key (sub binary64 unity t) / 2) share ∙ other (lt y nought) _ _ h

-- ---- the turns of writing the keys

pub record Keying (w₀ w : List ℕ) (d e : ℕ) : Type 0 where
  pub within : e ≤ d
  pub each : (q : ℕ) → q < e → AngleKeyed w₀ w d q
  pub kept : Changes w₀ w (d * sort_keys_from) (d * groups_from)

pub keying_start : (w : List ℕ) (d : ℕ) → Keying w w d 0
keying_start w d = record { within = omega arith; each = λ q h. absurd (omega arith); kept = changes_none w (d * sort_keys_from) (d * groups_from) }

-- an end's direction is read before the keys
direction_kept : {w₀ w : List ℕ} {d e : ℕ} → Changes w₀ w (d * sort_keys_from) (d * groups_from) → e < d → direction_at w d e ≡ direction_at w₀ d e
unfolding direction_at
direction_kept {w₀} {w} {d} {e} c h = λ t. given (mark t) (float (x t)) (float (y t))
  where
    mark : get_or w e 0 ≡ get_or w₀ e 0
    mark = c.below e (omega arith)

    x : get_or w (d + e * 2) 0 ≡ get_or w₀ (d + e * 2) 0
    x = c.below (d + e * 2) (omega arith)

    y : get_or w (d + e * 2 + 1) 0 ≡ get_or w₀ (d + e * 2 + 1) 0
    y = c.below (d + e * 2 + 1) (omega arith)

module _ {w₀ w : List ℕ} {d e : ℕ} (room : EndsRoom w₀ d) (s : Keying w₀ w d e) (h : e < d) {r : ℕ} (told : r ≡ angle_at w d e) where
  abbrev k : ℕ
  k = d * sort_keys_from + e * 3

  abbrev x : ℕ
  x = get_or w (d + e * 2) 0

  abbrev y : ℕ
  y = get_or w (d + e * 2 + 1) 0

  -- the three words that are written
  abbrev w₁ : List ℕ
  w₁ = set w k r

  abbrev w₂ : List ℕ
  w₂ = set w₁ (k + 1) x

  abbrev w₃ : List ℕ
  w₃ = set w₂ (k + 2) y

  c₁ : Changes w w₁ k (k + 3)
  c₁ = changes_set w k r k (k + 3) (omega arith) (omega arith)

  c₂ : Changes w₁ w₂ k (k + 3)
  c₂ = changes_set w₁ (k + 1) x k (k + 3) (omega arith) (omega arith)

  written : Changes w w₃ k (k + 3)
  written = changes_then c₁ (changes_then c₂ (changes_set w₂ (k + 2) y k (k + 3) (omega arith) (omega arith)))

  long : k + 3 ≤ length w
  long = omega (arith, room.long, s.kept.long)

  here : AngleKeyed w₀ w₃ d e
  here =
      record {
        angle =
            get_or-set_other w₂ (k + 2) k y 0 (λ z. omega arith)
            ∙ get_or-set_other w₁ (k + 1) k x 0 (λ z. omega arith)
            ∙ get_or-set_same w k r 0 (omega (arith, long))
            ∙ told
            ∙ ap angle_along (direction_kept s.kept h);
        first =
            get_or-set_other w₂ (k + 2) (k + 1) y 0 (λ z. omega arith)
            ∙ get_or-set_same w₁ (k + 1) x 0 (omega (arith, long, c₁.long))
            ∙ s.kept.below (d + e * 2) (omega arith);
        second = get_or-set_same w₂ (k + 2) y 0 (omega (arith, long, c₁.long, c₂.long)) ∙ s.kept.below (d + e * 2 + 1) (omega arith);
      }

  past : (q : ℕ) → q < e → AngleKeyed w₀ w₃ d q
  past q i =
      let t = s.each q i in
      record {
        angle = written.below (d * sort_keys_from + q * 3) (omega arith) ∙ t.angle;
        first = written.below (d * sort_keys_from + q * 3 + 1) (omega arith) ∙ t.first;
        second = written.below (d * sort_keys_from + q * 3 + 2) (omega arith) ∙ t.second;
      }

  pub keying_next : Keying w₀ w₃ d (e + 1)
  keying_next =
      record {
        within = omega arith;
        each = λ q i. ⊎_elim (λ (z : q ≡ e). rw z here) (λ (z : q ≡ e → ⊥). past q (omega arith)) (same_or q e);
        kept = changes_then s.kept (changes_wider (d * sort_keys_from) (d * groups_from) (omega arith) (omega arith) written);
      }
