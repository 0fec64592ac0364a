-- The piece of a walk: where it is a line alone its record is the old one's but for the first member, and nothing is copied; any other is copied, and
-- its record says where to. A walk of one line in all is a walk of one piece, since every piece has a line.
use Prim.Native.Nat.{ℕ, ◌+◌, ◌-◌, ◌*◌, ◌/◌, ◌≤◌, ◌<◌}
use mathlib.Core.Path.{◌≡◌, sym, ap, ap₂, ◌∙◌, subst}
use mathlib.Core.Logic.{◌≢◌}
use mathlib.Core.List.{List, [], ◌∷◌, ◌++◌, flat_map}
use native.Mathlib.Omega.{arith}
use native.Mathlib.Nat.{zero-mul, mul-le-mul_left, div-mul-le_self}
use native.Mathlib.Decide.{ℕ_discrete}
use lib.Arith.{digits_div}
use lib.ListN.{length, get_or, length-append}
use lib.Seq.{slice}
use Rattle.rules.specs.Plane.{Point, flat}
use Rattle.rules.specs.Walking.{piece_of}
use Rattle.rules.specs.Chaining.{Piece, nothing, piece_at, merge}
use Rattle.rules.specs.Refusals.{piece_size}
use Rattle.point_numbers.proofs.Points.{flat_length}
use Rattle.point_slices.specs.Holds.{HoldsFrom}
use Rattle.point_slices.proofs.Laws.{from_start}
use Rattle.chain_pieces.specs.Held.{record_of, place_of}
use Rattle.chain_pieces.proofs.Reading.{copy_none, copy_all, five_own, five_copied, first_own, point_count_lem, record_inside}
use Rattle.chain_merging.specs.Emit.{Entered, joined_of, Emittable, Emitted}
use Rattle.chain_merging.proofs.Coordinates.{slice_more, one_lines, one_points}

-- points of at least two numbers each are no more than their numbers, in two slices together
pub sum_fits : (c h width most : ℕ) → 2 ≤ width → c * width ≤ most → h ≤ most → c + h / width ≤ most
sum_fits c h width most two a b = omega (arith, mul-le-mul_left c two, mul-le-mul_left (h / width) two, div-mul-le_self h width)

module _ (width : ℕ) (w : List ℕ) (old from to : ℕ) (input spare : List ℕ) (z : Entered width w old from to input spare) where
  abbrev q : ℕ
  q = piece_of (get_or w from 0)

  below : q < length z.ps
  below = z.below from (omega arith) z.some

  pub first_inside : record_of old (piece_of (get_or w from 0)) + piece_size ≤ length w
  first_inside = omega (arith, record_inside width w old z.n input spare z.counts z.ps z.held q below, z.held.room)

  -- every piece has a line
  filled : (k : ℕ) → from ≤ k → k < to → 0 < length (piece_at z.rule z.ps (get_or w k 0)).lines
  unfolding piece_at
  filled k a b = z.held.full (piece_of (get_or w k 0)) (z.below k a b)

  -- so a walk of one line is of one piece
  pub one_entry : length (joined_of z).lines ≡ 1 → to - from ≡ 1
  unfolding merge flat_map
  one_entry h = elim (ℕ_discrete (to - from) 1) [ yes d ↦ d | no d ↦ absurd (more d) ]
    where
      more : to - from ≢ 1 → ⊥
      more d =
          let a = filled from (omega arith) z.some in
          let b = filled (from + 1) (omega arith) (omega (arith, z.some)) in
          let l₁ = (piece_at z.rule z.ps (get_or w from 0)).lines in
          let l₂ = (piece_at z.rule z.ps (get_or w (from + 1) 0)).lines in
          let l₃ = flat_map (λ e. (piece_at z.rule z.ps e).lines) (slice (from + 1 + 1) to w) in
          omega (
            arith,
            h,
            ap (λ (l : List ℕ). length (merge z.rule z.ps l).lines) (slice_more width w old from to input spare z d),
            length-append l₁ (l₂ ++ l₃),
            length-append l₂ l₃,
            a,
            b,
          )

module _ (width : ℕ) (w : List ℕ) (old from to : ℕ) (input spare m₀ : List ℕ) (at b c : ℕ) (y : Emittable width w old from to input spare m₀ at b c) where
  abbrev v : Entered width w old from to input spare
  v = y.laying.entered

  abbrev p : Piece
  p = joined_of v

  -- ---- a line alone

  module _ (one : b ≡ 1) where
    alone : length p.lines ≡ 1
    alone = sym y.members ∙ one

    single : to - from ≡ 1
    single = one_entry width w old from to input spare v alone

    abbrev here : ℕ
    here = piece_of (get_or w from 0)

    own : length (get_or v.ps here nothing).lines ≡ 1
    unfolding piece_at
    own = sym (ap length (one_lines width w old from to input spare v single)) ∙ alone

    in_pieces : here < length v.ps
    in_pieces = v.below from (omega arith) v.some

    first_word : get_or w (record_of old here + 3) 0 ≡ place_of v.counts p
    unfolding piece_at
    first_word =
        first_own width w old v.n input spare v.counts v.ps v.held here in_pieces own
        ∙ ap (λ (l : List ℕ). place_of v.counts (record { lines = l; marks = []; listing = []; points = []; group = 0 })) (sym (one_lines width w old from to input spare v single))

    count_word : get_or w (record_of old here + 4) 0 ≡ length p.points
    unfolding piece_at
    count_word =
        point_count_lem width w old v.n input spare v.counts v.ps v.held here in_pieces ∙ ap length (sym (one_points width w old from to input spare v single))

    pub emitted_alone : (w' : List ℕ) (m : ℕ)
        → HoldsFrom w' w at 5 (m ∷ 1 ∷ 0 ∷ get_or w (record_of old (piece_of (get_or w from 0)) + 3) 0 ∷ get_or w (record_of old (piece_of (get_or w from 0)) + 4) 0 ∷ [])
        → Emitted width w' w m₀ m₀ y.laying.entered.counts (joined_of y.laying.entered) at m c c
    unfolding flat
    emitted_alone w' m h =
        record {
          count = omega (arith, ap length (copy_none p alone));
          row =
              subst (HoldsFrom w' w at 5)
              (ap₂ (λ (x g : ℕ). m ∷ 1 ∷ 0 ∷ x ∷ g ∷ []) first_word count_word
              ∙ ap (λ (x : ℕ). m ∷ x ∷ 0 ∷ place_of v.counts p ∷ length p.points ∷ []) (sym alone)
              ∙ sym (five_own v.counts m c p alone))
              h;
          copied = subst (λ (l : List Point). HoldsFrom m₀ m₀ (c * width) (length l * width) (flat width l)) (sym (copy_none p alone))
              (subst (λ (i : ℕ). HoldsFrom m₀ m₀ (c * width) i []) (sym (zero-mul width)) (from_start m₀ (c * width)));
        }

  -- ---- any other

  module _ (many : b ≢ 1) where
    pub several : length p.lines ≢ 1
    several e = many (y.members ∙ e)

    pub emitted_copied : (w' m' : List ℕ) (m h : ℕ)
        → HoldsFrom m' m₀ (c * width) h (flat width (joined_of y.laying.entered).points)
        → HoldsFrom w' w at 5 (m ∷ b ∷ 1 ∷ c ∷ h / width ∷ [])
        → Emitted width w' w m' m₀ y.laying.entered.counts (joined_of y.laying.entered) at m c (c + h / width)
    emitted_copied w' m' m h k r =
        let whole : h ≡ length p.points * width = k.count ∙ flat_length width p.points in
        let padded : h ≡ length p.points * width + 0 = omega (arith, whole) in
        let part : h / width ≡ length p.points = ap (λ (i : ℕ). i / width) padded ∙ digits_div (length p.points) (omega (arith, v.two)) in
        record {
          count = omega (arith, part, ap length (copy_all p several));
          row =
              subst (HoldsFrom w' w at 5)
              (ap₂ (λ (x g : ℕ). m ∷ x ∷ 1 ∷ c ∷ g ∷ []) y.members part ∙ sym (five_copied v.counts m c p several))
              r;
          copied =
              subst (λ (l : List Point). HoldsFrom m' m₀ (c * width) (length l * width) (flat width l)) (sym (copy_all p several))
              (subst (λ (i : ℕ). HoldsFrom m' m₀ (c * width) i (flat width p.points)) whole k);
        }
