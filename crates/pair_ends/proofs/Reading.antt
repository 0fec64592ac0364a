-- The ends that a workspace holds, place by place: end e has the direction and the piece number that are read for it. So the words before the pairs
-- decide them, and they are the ends of a call where those words are what the call lent.
use Prim.Native.Nat.{ℕ, zero, suc, ◌+◌, ◌*◌, ◌-◌, ◌≤◌, ◌<◌}
use mathlib.Core.Path.{◌≡◌, refl, sym, ◌∙◌, ap}
use mathlib.Core.Bool.{not, ◌&&◌}
use mathlib.Core.List.{List, [], ◌∷◌, map}
use native.Mathlib.Omega.{arith}
use lib.Dec.{eqb}
use lib.Ieee.{Float, nan}
use lib.ListN.{length, get_or, take, drop, length-map, get_or-map}
use lib.Seq.{slice, length-slice, get_or-take, get_or-drop, take-take}
use borrow.Author.Tests.{ne_eqb}
use Rattle.rules.specs.Answers.{Absent, Toward}
use Rattle.rules.specs.Plane.{float}
use Rattle.rules.specs.Layout.{given, ends}
use Rattle.pair_laws.specs.Ends.{end_at, there, key_of, node_of, ByPlace}
use Rattle.pair_laws.proofs.Ends.{ends_length, ends_at, ends_placed, given_there}
use Rattle.pair_ends.specs.Blocks.{pieces_from, pairs_from}
use Rattle.pair_ends.specs.Ends.{direction_at, piece_at, ends_in}

-- what stands at a place of a list, whatever stands for no element
pub get_d_in : {A : Type 0} (l : List A) (i : ℕ) (x y : A) → i < length l → get_or l i x ≡ get_or l i y
get_d_in [] i x y h = absurd (omega arith)
get_d_in (a ∷ l) zero x y h = refl
get_d_in (a ∷ l) (suc i) x y h = get_d_in l i x y (omega arith)

-- the word i of a part from a on
pub get_d_slice : (a b : ℕ) (l : List ℕ) (i : ℕ) → a + i < b → get_or (slice a b l) i 0 ≡ get_or l (a + i) 0
get_d_slice a b l i h = get_or-drop a (take b l) i 0 ∙ get_or-take b l (a + i) 0 h

float_slice : (a b : ℕ) (l : List ℕ) (i : ℕ) → a + i < b → b ≤ length l → get_or (map float (slice a b l)) i nan ≡ float (get_or l (a + i) 0)
float_slice a b l i h k =
    get_d_in (map float (slice a b l)) i nan (float 0) (omega (arith, length-map (slice a b l) float, length-slice a b l k))
    ∙ get_or-map float (slice a b l) i 0
    ∙ ap float (get_d_slice a b l i h)

-- a direction is read by the end's mark
pub direction_toward : (w : List ℕ) (d e : ℕ) → get_or w e 0 ≡ 1 → Toward (float (get_or w (d + e * 2) 0)) (float (get_or w (d + e * 2 + 1) 0)) ≡ direction_at w d e
unfolding direction_at
direction_toward w d e h = sym (given_there (get_or w e 0) h)

pub direction_absent : (w : List ℕ) (d e : ℕ) → (get_or w e 0 ≡ 1 → ⊥) → Absent ≡ direction_at w d e
unfolding direction_at given
direction_absent w d e h = rw (ne_eqb (get_or w e 0) 1 h, given)

module _ (w : List ℕ) (d : ℕ) (long : d * pairs_from ≤ length w) where
  pub ends_in_length : length (ends_in w d) ≡ d
  unfolding ends_in
  ends_in_length =
      ends_length 0 (slice 0 d w) (map float (slice d (d * pieces_from) w)) (slice (d * pieces_from) (d * pairs_from) w)
      ∙ length-slice (d * pieces_from) (d * pairs_from) w long
      ∙ left
    where
      left : d * pairs_from - d * pieces_from ≡ d
      left = omega arith

  pub ends_in_placed : ByPlace (ends_in w d)
  unfolding ends_in
  ends_in_placed = ends_placed (slice 0 d w) (map float (slice d (d * pieces_from) w)) (slice (d * pieces_from) (d * pairs_from) w)

  pub ends_in_at : (e : ℕ) → e < d → end_at (ends_in w d) e ≡ record { name = e; piece = piece_at w d e; direction = direction_at w d e }
  unfolding ends_in direction_at
  ends_in_at e h =
      ends_at 0 (slice 0 d w) (map float (slice d (d * pieces_from) w)) (slice (d * pieces_from) (d * pairs_from) w) e (omega (arith, length-slice (d * pieces_from) (d * pairs_from) w long))
      ∙ (λ t. record { name = named t; piece = piece t; direction = given (mark t) (x t) (y t) })
    where
      named : 0 + e ≡ e
      named = omega arith

      piece : get_or (slice (d * pieces_from) (d * pairs_from) w) e 0 ≡ piece_at w d e
      piece = get_d_slice (d * pieces_from) (d * pairs_from) w e (omega arith)

      mark : get_or (slice 0 d w) e 0 ≡ get_or w e 0
      mark = get_or-take d w e 0 h

      x : get_or (map float (slice d (d * pieces_from) w)) (e * 2) nan ≡ float (get_or w (d + e * 2) 0)
      x = float_slice d (d * pieces_from) w (e * 2) (omega arith) (omega arith)

      further : d + (e * 2 + 1) ≡ d + e * 2 + 1
      further = omega arith

      y : get_or (map float (slice d (d * pieces_from) w)) (e * 2 + 1) nan ≡ float (get_or w (d + e * 2 + 1) 0)
      y = float_slice d (d * pieces_from) w (e * 2 + 1) (omega arith) (omega arith) ∙ ap (λ (i : ℕ). float (get_or w i 0)) further

  -- the node of these ends, by what is read
  module _ (i j : ℕ) (i<d : i < d) (j<d : j < d) where
    pub key_in : (node_of (ends_in w d)).key i j ≡ key_of (direction_at w d i) (direction_at w d j)
    key_in = rw (ends_in_at i i<d, ends_in_at j j<d)

    pub may_in : (node_of (ends_in w d)).may i j ≡ (there (direction_at w d i) && (there (direction_at w d j) && not (eqb (piece_at w d i) (piece_at w d j))))
    may_in = rw (ends_in_at i i<d, ends_in_at j j<d)

-- the words before the pairs decide the ends
pub ends_in_kept : (w w' : List ℕ) (d : ℕ) → take (d * pairs_from) w' ≡ take (d * pairs_from) w → ends_in w' d ≡ ends_in w d
unfolding ends_in
ends_in_kept w w' d e =
    λ t. ends 0 (part 0 d (omega arith) t) (map float (part d (d * pieces_from) (omega arith) t)) (part (d * pieces_from) (d * pairs_from) (omega arith) t)
  where
    part : (a b : ℕ) → b ≤ d * pairs_from → slice a b w' ≡ slice a b w
    part a b h = ap (drop a) (sym (take-take b (d * pairs_from) w' h) ∙ ap (take b) e ∙ take-take b (d * pairs_from) w h)

-- they are those of a call that lent what stands there
pub ends_in_lent : (w : List ℕ) (d : ℕ) (present pieces : List ℕ) (directions : List Float)
    → slice 0 d w ≡ present → map float (slice d (d * pieces_from) w) ≡ directions → slice (d * pieces_from) (d * pairs_from) w ≡ pieces → ends_in w d ≡ ends 0 present directions pieces
unfolding ends_in
ends_in_lent w d present pieces directions e f g = λ t. ends 0 (e t) (f t) (g t)
