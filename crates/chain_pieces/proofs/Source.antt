-- The slice that a record names, by its source, and the part of it.
use Prim.Native.Nat.{ℕ, zero, suc, ◌+◌, ◌-◌, ◌*◌, ◌≤◌}
use mathlib.Core.Path.{◌≡◌, refl, sym, ap, ◌∙◌}
use mathlib.Core.List.{List}
use native.Mathlib.Omega.{arith}
use native.Mathlib.Nat.{add-mul}
use native.Mathlib.Decide.{ℕ_discrete}
use lib.ListN.{length, get_or, take, drop, length-drop}
use lib.Seq.{length-take-le}
use Rattle.rules.specs.Refusals.{source_of}
use Rattle.point_numbers.specs.Width.{Whole}
use Rattle.chain_pieces.specs.Held.{coordinates_at, Reads, Recorded}
use Rattle.chain_pieces.specs.declared.Record.{Record}

source_other : (k : ℕ) (a b : List ℕ) → (k ≡ 0 → ⊥) → source_of k a b ≡ b
unfolding source_of
source_other zero a b h = absurd (h refl)
source_other (suc k) a b h = refl

module _ (width : ℕ) (w : List ℕ) (p : ℕ) (input spare : List ℕ) where
  source_input : get_or w (p + 2) 0 ≡ 0 → source_of (get_or w (p + 2) 0) input spare ≡ input
  unfolding source_of
  source_input e = ap (λ (k : ℕ). source_of k input spare) e

  source_spare : (get_or w (p + 2) 0 ≡ 0 → ⊥) → source_of (get_or w (p + 2) 0) input spare ≡ spare
  source_spare h = source_other (get_or w (p + 2) 0) input spare h

  -- a bound of both slices is one of the source
  source_bound : (most : ℕ) → length input ≤ most → length spare ≤ most → length (source_of (get_or w (p + 2) 0) input spare) ≤ most
  source_bound most a b =
      elim (ℕ_discrete (get_or w (p + 2) 0) 0) [
        | yes e ↦ omega (arith, ap length (source_input e))
        | no e ↦ omega (arith, ap length (source_spare e))
      ]

  -- what a record names is so many points and nothing more
  pub recorded_length : Recorded width w p input spare → length (coordinates_at width w p input spare) ≡ get_or w (p + 4) 0 * width
  unfolding coordinates_at
  recorded_length r =
      let source = source_of (get_or w (p + 2) 0) input spare in
      length-take-le (get_or w (p + 4) 0 * width) (drop (get_or w (p + 3) 0 * width) source)
      (omega (arith, r.within, length-drop (get_or w (p + 3) 0 * width) source, add-mul (get_or w (p + 3) 0) (get_or w (p + 4) 0) width))

  pub recorded_whole : Recorded width w p input spare → Whole width (coordinates_at width w p input spare)
  recorded_whole r = record { number = get_or w (p + 4) 0; long = recorded_length r }

  -- a record that is read: the part of its source, and that it is lent
  module _ (r : Record) (is : Reads w p r) where
    from_input : r.source ≡ 0 → get_or w (p + 2) 0 ≡ 0
    from_input e = sym is.source ∙ e

    from_spare : (r.source ≡ 0 → ⊥) → get_or w (p + 2) 0 ≡ 0 → ⊥
    from_spare h e = h (is.source ∙ e)

    pub within_input : Recorded width w p input spare → r.source ≡ 0 → (r.point + r.points) * width ≤ length input
    within_input z e = let h = z.within in rw (is.point, is.points) (rw (source_input (from_input e)) at h)

    pub within_spare : Recorded width w p input spare → (r.source ≡ 0 → ⊥) → (r.point + r.points) * width ≤ length spare
    within_spare z e = let h = z.within in rw (is.point, is.points) (rw (source_spare (from_spare e)) at h)

    -- first and count, each times the width
    pub parts_bound : Recorded width w p input spare → (most : ℕ) → length input ≤ most → length spare ≤ most → r.point * width + r.points * width ≤ most
    parts_bound z most a b =
        rw (is.point, is.points)
        (omega (arith, z.within, source_bound most a b, add-mul (get_or w (p + 3) 0) (get_or w (p + 4) 0) width))

    -- the part that is lent
    pub part_input : r.source ≡ 0 → take (r.point * width + r.points * width - r.point * width) (drop (r.point * width) input) ≡ coordinates_at width w p input spare
    unfolding coordinates_at
    part_input e =
        let n : r.point * width + r.points * width - r.point * width ≡ r.points * width = omega arith in
        rw (n, is.point, is.points, source_input (from_input e))

    pub part_spare : (r.source ≡ 0 → ⊥) → take (r.point * width + r.points * width - r.point * width) (drop (r.point * width) spare) ≡ coordinates_at width w p input spare
    unfolding coordinates_at
    part_spare e =
        let n : r.point * width + r.points * width - r.point * width ≡ r.points * width = omega arith in
        rw (n, is.point, is.points, source_spare (from_spare e))
