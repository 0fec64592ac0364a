-- What words that did not change decide: parts of the workspace, the ends that it holds, which of them are marked, and the first pair of a row.
use Prim.Native.Nat.{ℕ, ◌+◌, ◌*◌, ◌-◌, ◌≤◌, ◌<◌, min}
use mathlib.Core.Path.{◌≡◌, sym, ap, ◌∙◌, subst}
use mathlib.Core.Bool.{Bool}
use mathlib.Core.List.{List}
use native.Mathlib.Omega.{arith}
use lib.Ieee.{Float}
use lib.ListN.{length, get_or, take, drop, set, length-take, length-drop, length-set}
use lib.Seq.{slice, length-slice, get_or-take, get_or-drop, ext_get_or, get_or-set_same, get_or-set_other}
use Rattle.rules.specs.Plane.{float}
use Rattle.rules.specs.Layout.{given}
use Rattle.rules.specs.Selecting.{End}
use Rattle.float_order.specs.Key.{key}
use Rattle.pair_laws.specs.Taking.{used_of, IsFirst}
use Rattle.pair_laws.specs.Ends.{node_of}
use Rattle.pair_ends.specs.Blocks.{pairs_from, marks_from, row_keys_from, partners_from, lows_from}
use Rattle.pair_ends.specs.Ends.{direction_at, ends_in}
use Rattle.pair_ends.proofs.Reading.{get_d_slice, ends_in_kept}
use Rattle.pair_first_of_end.specs.declared.Held.{Held}
use Rattle.pair_first_of_end.specs.Row.{mark_at, used_in, pair_of, First}
use Rattle.pair_plain.specs.Steps.{held_at, Renewed}

module _ (w w' : List ℕ) (long : length w' ≡ length w) where
  pub take_same : (k : ℕ) → ((x : ℕ) → x < k → get_or w' x 0 ≡ get_or w x 0) → take k w' ≡ take k w
  take_same k same =
      ext_get_or 0 (take k w') (take k w) (length-take k w' ∙ ap (λ (n : ℕ). min k n) long ∙ sym (length-take k w))
      (λ x h. (let g : x < k = omega (arith, length-take k w') in get_or-take k w' x 0 g ∙ same x g ∙ sym (get_or-take k w x 0 g)))

  pub drop_same : (k : ℕ) → ((x : ℕ) → k ≤ x → get_or w' x 0 ≡ get_or w x 0) → drop k w' ≡ drop k w
  drop_same k same =
      ext_get_or 0 (drop k w') (drop k w) (length-drop k w' ∙ ap (λ (n : ℕ). n - k) long ∙ sym (length-drop k w))
      (λ x h. get_or-drop k w' x 0 ∙ same (k + x) (omega arith) ∙ sym (get_or-drop k w x 0))

  pub slice_same : (a b : ℕ) → b ≤ length w → ((x : ℕ) → a ≤ x → x < b → get_or w' x 0 ≡ get_or w x 0) → slice a b w' ≡ slice a b w
  slice_same a b h same =
      ext_get_or 0 (slice a b w') (slice a b w) (length-slice a b w' (omega arith) ∙ sym (length-slice a b w h))
      (λ x k. (let g : a + x < b = omega (arith, length-slice a b w' (omega arith)) in get_d_slice a b w' x g ∙ same (a + x) (omega arith) g ∙ sym (get_d_slice a b w x g)))

  module _ (d : ℕ) (room : d * row_keys_from ≤ length w) where
    pub used_same : ((e : ℕ) → e < d → mark_at w' d e ≡ mark_at w d e) → used_in w' d ≡ used_in w d
    used_same same = ap used_of (slice_same (d * marks_from) (d * row_keys_from) room (λ x g h. at x g h))
      where
        at : (x : ℕ) → d * marks_from ≤ x → x < d * row_keys_from → get_or w' x 0 ≡ get_or w x 0
        at x g h =
            let e : d * marks_from + (x - d * marks_from) ≡ x = omega arith in
            subst (λ (y : ℕ). get_or w' y 0 ≡ get_or w y 0) e (same (x - d * marks_from) (omega arith))

    module _ (kept : (x : ℕ) → x < d * pairs_from → get_or w' x 0 ≡ get_or w x 0) where
      pub ends_same : ends_in w' d ≡ ends_in w d
      ends_same = ends_in_kept w w' d (take_same (d * pairs_from) kept)

      pub direction_same : (e : ℕ) → e < d → direction_at w' d e ≡ direction_at w d e
      unfolding direction_at
      direction_same e h = λ t. given (kept e (omega arith) t) (float (kept (d + e * 2) (omega arith) t)) (float (kept (d + e * 2 + 1) (omega arith) t))

      pub first_same : (limit : Float) (i : ℕ) (held : Held) → ((e : ℕ) → e < d → mark_at w' d e ≡ mark_at w d e) → First w' d limit i held → First w d limit i held
      first_same limit i held marks f =
          record {
            pair = subst (λ (u : ℕ → Bool). IsFirst (node_of (ends_in w d)) (key limit) u i (pair_of i held)) (used_same marks)
                (subst (λ (l : List End). IsFirst (node_of l) (key limit) (used_in w' d) i (pair_of i held)) ends_same f.pair);
            none = f.none;
          }

-- ---- what a row holds was stored

module _ (w w' : List ℕ) (d : ℕ) (limit : Float) (i : ℕ) (r : Renewed w d limit i w') where
  pub renewed_long : length w' ≡ length w
  renewed_long = ap length r.list ∙ simp length-set

  pub renewed_other : (x : ℕ) → (x ≡ d * row_keys_from + i → ⊥) → (x ≡ d * partners_from + i → ⊥) → get_or w' x 0 ≡ get_or w x 0
  renewed_other x f g =
      ap (λ (l : List ℕ). get_or l x 0) r.list
      ∙ get_or-set_other (set w (d * row_keys_from + i) r.held.key) (d * partners_from + i) x r.held.partner 0 g
      ∙ get_or-set_other w (d * row_keys_from + i) x r.held.key 0 f

  pub renewed_row : d * lows_from ≤ length w → i < d → held_at w' d i ≡ r.held
  renewed_row room i<d = λ t. record { key = key_here t; partner = partner_here t }
    where
      key_here : get_or w' (d * row_keys_from + i) 0 ≡ r.held.key
      key_here =
          ap (λ (l : List ℕ). get_or l (d * row_keys_from + i) 0) r.list
          ∙ get_or-set_other (set w (d * row_keys_from + i) r.held.key) (d * partners_from + i) (d * row_keys_from + i) r.held.partner 0 (λ e. omega arith)
          ∙ get_or-set_same w (d * row_keys_from + i) r.held.key 0 (omega arith)

      partner_here : get_or w' (d * partners_from + i) 0 ≡ r.held.partner
      partner_here =
          ap (λ (l : List ℕ). get_or l (d * partners_from + i) 0) r.list
          ∙ get_or-set_same (set w (d * row_keys_from + i) r.held.key) (d * partners_from + i) r.held.partner 0 (simp length-set (omega arith))

  -- other rows hold what they held
  pub renewed_rows : i < d → (x : ℕ) → x < d → (x ≡ i → ⊥) → held_at w' d x ≡ held_at w d x
  renewed_rows i<d x h f =
      λ t. record {
        key = renewed_other (d * row_keys_from + x) (λ e. f (omega arith)) (λ e. omega arith) t;
        partner = renewed_other (d * partners_from + x) (λ e. omega arith) (λ e. f (omega arith)) t;
      }
