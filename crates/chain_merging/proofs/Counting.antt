-- The members of a walk, counted: what is counted and what is left are the members of its piece.
use Prim.Native.Nat.{ℕ, ◌+◌, ◌≤◌, ◌<◌}
use mathlib.Core.Path.{◌≡◌, sym, ap, ◌∙◌}
use mathlib.Core.List.{List, [], flat_map}
use native.Mathlib.Omega.{arith}
use lib.ListN.{length, get_or, length-append}
use lib.Seq.{slice, slice_empty}
use Rattle.rules.specs.Walking.{piece_of}
use Rattle.rules.specs.Chaining.{piece_at, merge}
use Rattle.rules.specs.Refusals.{piece_size}
use Rattle.chain_pieces.specs.Held.{record_of}
use Rattle.chain_pieces.proofs.Reading.{member_count_lem, record_inside}
use Rattle.chain_merging.specs.Emit.{Entered, Counted, joined_of}
use Rattle.chain_merging.proofs.Coordinates.{entry_next}

module _ (w : List ℕ) (old from to : ℕ) (y : Counted w old from to) where
  abbrev z : Entered y.width w old from to y.input y.spare
  z = y.entered

  abbrev lines_at : ℕ → List ℕ
  lines_at e = (piece_at z.rule z.ps e).lines

  pub record Counting (r k : ℕ) : Type 0 where
    pub goes : r + length (flat_map (λ e. (piece_at z.rule z.ps e).lines) (slice k to w)) ≡ length (joined_of y.entered).lines
    pub low : from ≤ k
    pub high : k ≤ to

  pub counting_start : Counting 0 from
  unfolding merge
  counting_start = record { goes = omega arith; low = omega arith; high = omega (arith, z.some) }

  pub counting_done : (r k : ℕ) → Counting r k → to ≤ k → r ≡ length (joined_of y.entered).lines
  unfolding flat_map
  counting_done r k o h =
      let e : k ≡ to = omega (arith, o.high) in
      let past : slice k to w ≡ [] = ap (λ (i : ℕ). slice i to w) e ∙ slice_empty to w in
      omega (arith, o.goes, ap (λ (l : List ℕ). length (flat_map lines_at l)) past)

  module _ (r k : ℕ) (o : Counting r k) (h : k < to) where
    abbrev q : ℕ
    q = piece_of (get_or w k 0)

    below : q < length z.ps
    below = z.below k o.low h

    counted_inside : record_of old (piece_of (get_or w k 0)) + piece_size ≤ length w
    counted_inside =
        omega (arith, record_inside y.width w old z.n y.input y.spare z.counts z.ps z.held q below, z.held.room)

    count_is : get_or w (record_of old q + 1) 0 ≡ length (lines_at (get_or w k 0))
    unfolding piece_at
    count_is = member_count_lem y.width w old z.n y.input y.spare z.counts z.ps z.held q below

    split : length (flat_map lines_at (slice k to w)) ≡ get_or w (record_of old q + 1) 0 + length (flat_map lines_at (slice (k + 1) to w))
    unfolding flat_map
    split =
        ap (λ (l : List ℕ). length (flat_map lines_at l)) (entry_next y.width w old from to y.input y.spare z k o.low h)
        ∙ length-append (lines_at (get_or w k 0)) (flat_map lines_at (slice (k + 1) to w))
        ∙ ap (λ (i : ℕ). i + length (flat_map lines_at (slice (k + 1) to w))) (sym count_is)

    -- the entry, as it is read, and the members of its piece
    module _ (x : ℕ) (is : x ≡ get_or w k 0) where
      pub counted_read : record_of old (piece_of x) + piece_size ≤ length w
      counted_read = rw is counted_inside

      module _ (b : ℕ) (members : b ≡ get_or w (record_of old (piece_of x) + 1) 0) where
        counted : b ≡ get_or w (record_of old q + 1) 0
        counted = members ∙ ap (λ (e : ℕ). get_or w (record_of old (piece_of e) + 1) 0) is

        pub counting_fits : r + b ≤ length w
        counting_fits = omega (arith, counted, split, o.goes, z.listed, z.held.room)

        pub counting_step : (j : ℕ) → j ≡ k + 1 → Counting (r + b) j
        counting_step j next = rw next (record { goes = omega (arith, counted, split, o.goes); low = omega (arith, o.low); high = omega arith })
