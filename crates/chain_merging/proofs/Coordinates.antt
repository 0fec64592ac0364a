-- The coordinates of a walk: the loop of `append_walk` lays one piece after another behind what is laid, which is the book's `lay` of all their runs;
-- and those of one piece are copied.
use Prim.Native.Nat.{ℕ, zero, suc, ◌+◌, ◌-◌, ◌*◌, ◌%◌, ◌≤◌, ◌<◌}
use mathlib.Core.Path.{◌≡◌, refl, sym, ap, ◌∙◌, subst}
use mathlib.Core.Logic.{◌≢◌}
use mathlib.Core.Bool.{cond}
use mathlib.Core.List.{List, [], ◌∷◌, flat_map, reverse, append-nil}
use mathlib.Core.Option.{none}
use native.Mathlib.Omega.{arith}
use native.Mathlib.Nat.{add-mul}
use lib.Dec.{eqb}
use lib.ListN.{length, get_or, take, drop, length-drop}
use Rattle.std.proofs.lemmas.List.{get_or-take, get_or-drop}
use lib.Seq.{slice, slice-cons, slice_empty}
use borrow.Rule.Slice.PartMut.{mid_of, put_mid}
use Rattle.rules.specs.Lists.{total}
use Rattle.rules.specs.Plane.{Point, points, flat}
use Rattle.rules.specs.Walking.{piece_of}
use Rattle.rules.specs.Chaining.{Piece, Rule, lay, piece_at, run, merged, merge}
use Rattle.point_numbers.proofs.Points.{flat_length}
use Rattle.chain_laws.proofs.Room.{run_size}
use Rattle.point_slices.specs.Holds.{Holds, HoldsFrom}
use Rattle.point_slices.specs.Run.{laid, walked}
use Rattle.point_slices.proofs.Laws.{mid_rest, from_start, from_take, from_step, from_length}
use Rattle.point_slices.proofs.Runs.{laid_none, laid_append, laid_start, laid_length}
use Rattle.chain_pieces.specs.Held.{record_of, coordinates_at, Recorded}
use Rattle.chain_pieces.proofs.Reading.{coordinates_are, points_are, recorded}
use Rattle.chain_merging.specs.Emit.{points_in, Entered, Mergeable, joined_of}

-- ---- a run, from either end

run_walked : (width : ℕ) (rule : Rule) (ps : List Piece) (e : ℕ) (l : List ℕ) → points width l ≡ (piece_at rule ps e).points
    → walked width (eqb (e % 2) 1) l ≡ run rule ps e
unfolding walked run
run_walked width rule ps e l h =
    ap (λ (t : List Point). cond (eqb (e % 2) 1) (reverse t) t) h ∙ go (e % 2) refl
  where
    go : (k : ℕ) → e % 2 ≡ k
        → cond (eqb (e % 2) 1) (reverse (piece_at rule ps e).points) (piece_at rule ps e).points
        ≡ cond (eqb (e % 2) 0) (piece_at rule ps e).points (reverse (piece_at rule ps e).points)
    go zero q = rw q
    go (suc zero) q = rw q
    go (suc (suc k)) q = absurd (omega arith)

-- ---- the pieces that a walk enters

module _ (width : ℕ) (w : List ℕ) (old from to : ℕ) (input spare : List ℕ) (y : Entered width w old from to input spare) (k : ℕ) (low : from ≤ k) (high : k < to) where
  abbrev pub entry : ℕ
  entry = get_or w k 0

  pub entered_recorded : Recorded width w (record_of old (piece_of (get_or w k 0))) input spare
  entered_recorded = recorded width w old y.n input spare y.counts y.ps y.held (piece_of entry) (y.below k low high)

  pub entered_coordinates : coordinates_at width w (record_of old (piece_of (get_or w k 0))) input spare ≡ flat width (piece_at y.rule y.ps (get_or w k 0)).points
  unfolding piece_at
  entered_coordinates = coordinates_are width w old y.n input spare y.counts y.ps y.held (piece_of entry) (y.below k low high)

  pub entered_points : points width (coordinates_at width w (record_of old (piece_of (get_or w k 0))) input spare) ≡ (piece_at y.rule y.ps (get_or w k 0)).points
  unfolding piece_at
  entered_points = points_are width w old y.n input spare y.counts y.ps y.held (piece_of entry) (y.below k low high) y.two

  pub entry_next : slice k to w ≡ get_or w k 0 ∷ slice (k + 1) to w
  entry_next = let q : suc k ≡ k + 1 = omega arith in slice-cons k to w 0 high y.inside ∙ ap (λ (i : ℕ). entry ∷ slice i to w) q

-- an entry, read among those of its walk
pub entry_read : (w : List ℕ) (from to i : ℕ) → i < to - from → get_or (take (to - from) (drop from w)) i 0 ≡ get_or w (from + i) 0
entry_read w from to i h = get_or-take (to - from) (drop from w) i 0 h ∙ get_or-drop from w i 0

-- ---- the loop of `append_walk`

module _ (width : ℕ) (w : List ℕ) (old from to : ℕ) (input spare m₀ : List ℕ) (at : ℕ) (y : Mergeable width w old from to input spare m₀ at) where
  abbrev z : Entered width w old from to input spare
  z = y.entered

  abbrev goal : List ℕ
  goal = flat width (lay none (flat_map (run z.rule z.ps) (slice from to w)))

  -- k is the next entry; `have` numbers are laid, and the runs that are left take them to the goal
  pub record Laying (m : List ℕ) (have k : ℕ) : Type 0 where
    pub out : List ℕ
    pub holds : HoldsFrom m m₀ at have out
    pub goes : laid width out (flat_map (run z.rule z.ps) (slice k to w)) ≡ goal
    pub fits : at + have + points_in z.rule z.ps (slice k to w) * width ≤ length m₀
    pub low : from ≤ k
    pub high : k ≤ to
    pub size : length m ≡ length m₀

  pub laying_start : Laying m₀ 0 from
  laying_start =
      record {
        out = [];
        holds = from_start m₀ at;
        goes = laid_start width (flat_map (run z.rule z.ps) (slice from to w)) (omega (arith, z.two));
        fits = omega (arith, y.fits);
        low = omega arith;
        high = omega (arith, z.some);
        size = refl;
      }

  module _ (m : List ℕ) (have k : ℕ) (o : Laying m have k) where
    pub laying_done : to ≤ k → HoldsFrom m m₀ at have (flat width (lay none (flat_map (run z.rule z.ps) (slice from to w))))
    unfolding flat_map
    laying_done h =
        let e : k ≡ to = omega (arith, o.high) in
        let past : slice k to w ≡ [] = ap (λ (i : ℕ). slice i to w) e ∙ slice_empty to w in
        subst (HoldsFrom m m₀ at have)
        (sym (laid_none width o.out) ∙ ap (λ (l : List ℕ). laid width o.out (flat_map (run z.rule z.ps) l)) (sym past) ∙ o.goes) o.holds

    module _ (h : k < to) where
      abbrev e : ℕ
      e = get_or w k 0

      abbrev at_record : ℕ
      at_record = record_of old (piece_of e)

      next : slice k to w ≡ e ∷ slice (k + 1) to w
      next = entry_next width w old from to input spare z k o.low h

      abbrev pts : List Point
      pts = (piece_at z.rule z.ps e).points

      named : coordinates_at width w at_record input spare ≡ flat width pts
      named = entered_coordinates width w old from to input spare z k o.low h

      more : at + have + (length pts + points_in z.rule z.ps (slice (k + 1) to w)) * width ≤ length m₀
      unfolding total
      more = rw next at o.fits

      -- the same, entry by entry
      apart : (length pts + points_in z.rule z.ps (slice (k + 1) to w)) * width ≡ length pts * width + points_in z.rule z.ps (slice (k + 1) to w) * width
      apart = add-mul (length pts) (points_in z.rule z.ps (slice (k + 1) to w)) width

      -- x is the entry, as it is read
      pub laying_asks : (x : ℕ) → x ≡ get_or w k 0 → (2 ≤ width) × Recorded width w (record_of old (piece_of x)) input spare
          × (have + length (coordinates_at width w (record_of old (piece_of x)) input spare) ≤ length (mid_of at (length m - at) m))
      laying_asks x is = rw is (
        z.two,
        entered_recorded width w old from to input spare z k o.low h,
        rw (mid_rest m at) (simp length-drop (omega (arith, more, apart, o.size, ap length named, flat_length width pts))),
      )

      step : (p : List ℕ) (r : ℕ)
          → Holds p (mid_of at (length m - at) m) r
          (laid width (take have (mid_of at (length m - at) m)) (walked width (eqb (get_or w k 0 % 2) 1) (coordinates_at width w (record_of old (piece_of (get_or w k 0))) input spare)))
          → Laying (put_mid at (length m - at) m p) r (k + 1)
      unfolding flat_map
      step p r s =
          let c : at + have ≤ length m₀ = omega (arith, more) in
          let run_is : walked width (eqb (e % 2) 1) (coordinates_at width w at_record input spare) ≡ run z.rule z.ps e =
          run_walked width z.rule z.ps e (coordinates_at width w at_record input spare) (entered_points width w old from to input spare z k o.low h) in
          let s' : Holds p (mid_of at (length m - at) m) r (laid width o.out (run z.rule z.ps e)) = rw (from_take o.holds c, run_is) at s in
          let g = laid_length width z.two o.out (run z.rule z.ps e) in
          let v : length (run z.rule z.ps e) * width ≡ length pts * width = ap (λ (i : ℕ). i * width) (run_size z.rule z.ps e) in
          let x : HoldsFrom (put_mid at (length m - at) m p) m₀ at r (laid width o.out (run z.rule z.ps e)) =
          from_step o.holds c s' (omega (arith, g, s'.count, o.holds.count)) in
          record {
            out = laid width o.out (run z.rule z.ps e);
            holds = x;
            goes =
                sym (laid_append width z.two o.out (run z.rule z.ps e) (flat_map (run z.rule z.ps) (slice (k + 1) to w)))
                ∙ sym (ap (λ (l : List ℕ). laid width o.out (flat_map (run z.rule z.ps) l)) next)
                ∙ o.goes;
            fits = omega (arith, more, apart, g, v, s'.count, o.holds.count);
            low = omega (arith, o.low);
            high = omega arith;
            size = from_length x (omega (arith, more, apart, g, v, s'.count, o.holds.count));
          }

      pub laying_step : (x : ℕ) → x ≡ get_or w k 0 → (p : List ℕ) (r : ℕ)
          → Holds p (mid_of at (length m - at) m) r
          (laid width (take have (mid_of at (length m - at) m)) (walked width (eqb (x % 2) 1) (coordinates_at width w (record_of old (piece_of x)) input spare)))
          → Laying (put_mid at (length m - at) m p) r (k + 1)
      laying_step x is p r s = step p r (rw is at s)

-- ---- a walk of one piece, and one of more

module _ (width : ℕ) (w : List ℕ) (old from to : ℕ) (input spare : List ℕ) (y : Entered width w old from to input spare) where
  abbrev first : ℕ
  first = get_or w from 0

  pub slice_one : to - from ≡ 1 → slice from to w ≡ get_or w from 0 ∷ []
  slice_one e =
      let q : from + 1 ≡ to = omega (arith, y.some) in
      entry_next width w old from to input spare y from (omega arith) y.some
      ∙ ap (λ (l : List ℕ). first ∷ l) (ap (λ (i : ℕ). slice i to w) q ∙ slice_empty to w)

  pub slice_more : to - from ≢ 1 → slice from to w ≡ get_or w from 0 ∷ get_or w (from + 1) 0 ∷ slice (from + 1 + 1) to w
  slice_more e =
      entry_next width w old from to input spare y from (omega arith) y.some
      ∙ ap (λ (l : List ℕ). first ∷ l) (entry_next width w old from to input spare y (from + 1) (omega arith) (omega (arith, y.some)))

  pub one_lines : to - from ≡ 1 → (joined_of y).lines ≡ (piece_at y.rule y.ps (get_or w from 0)).lines
  unfolding merge flat_map
  one_lines e = ap (λ (l : List ℕ). (merge y.rule y.ps l).lines) (slice_one e) ∙ append-nil (piece_at y.rule y.ps first).lines

  pub one_points : to - from ≡ 1 → (joined_of y).points ≡ (piece_at y.rule y.ps (get_or w from 0)).points
  unfolding merge merged
  one_points e = ap (λ (l : List ℕ). (merge y.rule y.ps l).points) (slice_one e)

  pub more_points : to - from ≢ 1 → (joined_of y).points ≡ lay none (flat_map (run y.rule y.ps) (slice from to w))
  unfolding merge merged
  more_points e =
      ap (λ (l : List ℕ). (merge y.rule y.ps l).points) (slice_more e)
      ∙ sym (ap (λ (l : List ℕ). lay none (flat_map (run y.rule y.ps) l)) (slice_more e))

-- ---- what `lay_walk` copies of one piece

module _ (width : ℕ) (w : List ℕ) (old from to : ℕ) (input spare m₀ : List ℕ) (at : ℕ) (y : Mergeable width w old from to input spare m₀ at) (one : to - from ≡ 1) where
  abbrev z' : Entered width w old from to input spare
  z' = y.entered

  lone_is : coordinates_at width w (record_of old (piece_of (get_or w from 0))) input spare ≡ flat width (joined_of z').points
  lone_is =
      entered_coordinates width w old from to input spare z' from (omega arith) z'.some
      ∙ ap (flat width) (sym (one_points width w old from to input spare z' one))

  lone_size : points_in z'.rule z'.ps (slice from to w) ≡ length (joined_of z').points
  unfolding total
  lone_size =
      omega (
        arith,
        ap (λ (l : List ℕ). points_in z'.rule z'.ps l) (slice_one width w old from to input spare z' one),
        ap length (one_points width w old from to input spare z' one),
      )

  pub lone_recorded : Recorded width w (record_of old (piece_of (get_or w from 0))) input spare
  lone_recorded = entered_recorded width w old from to input spare z' from (omega arith) z'.some

  module _ (l : List ℕ) (e : l ≡ coordinates_at width w (record_of old (piece_of (get_or w from 0))) input spare) where
    pub lone_asks : at + length l ≤ length m₀
    lone_asks =
        omega (
          arith,
          y.fits,
          ap (λ (i : ℕ). i * width) lone_size,
          ap length e,
          ap length lone_is,
          flat_length width (joined_of z').points,
        )

    pub lone_held : (m' : List ℕ) → HoldsFrom m' m₀ at (length l) l → HoldsFrom m' m₀ at (length l) (flat width (joined_of y.entered).points)
    lone_held m' h = subst (HoldsFrom m' m₀ at (length l)) (e ∙ lone_is) h
