-- Where no pair is a candidate nothing is selected, and a workspace that stays as it was says so.
use Prim.Native.Nat.{ℕ, ◌+◌, ◌*◌, ◌≤◌, ◌<◌}
use mathlib.Core.Path.{◌≡◌, refl, sym, ◌∙◌, ap}
use mathlib.Core.Bool.{Bool, true, false, ◌&&◌}
use mathlib.Core.List.{List, [], ◌∷◌}
use native.Mathlib.Omega.{arith}
use lib.Dec.{T, leb}
use lib.Ieee.Scale.{finite}
use lib.ListN.{length}
use lib.Seq.{slice, length-slice}
use borrow.Author.Tests.{leb-true}
use Rattle.rules.specs.Answers.{Direction}
use Rattle.rules.specs.Answers.{Absent, Toward}
use Rattle.pair_laws.specs.Ranked.{RankedPair, candidates, qualifies, select, none as nobody}
use Rattle.pair_laws.specs.Sets.{In}
use Rattle.pair_laws.specs.Taking.{listed}
use Rattle.pair_laws.specs.Ends.{end_at, there, key_of, node_of}
use Rattle.pair_laws.proofs.Order.{and_left, and_right}
use Rattle.pair_laws.proofs.Laws.{in_candidates, select_stop}
use Rattle.pair_ends.specs.Blocks.{pairs_from}
use Rattle.pair_ends.specs.Ends.{EndsRoom, Selected, direction_at, ends_in}
use Rattle.pair_index.specs.Index.{Finite, Round}
use Rattle.pair_index.proofs.Leaves.{toward_of, is_there, direction_is, there_below}
use Rattle.pair_all_directions.specs.Around.{Every, tame, round_of, around_of, beyond_of}
use Rattle.pair_all_directions.proofs.Scan.{tame_parts, round_part}
use Rattle.pair_all_directions.proofs.Box.{beyond_above}

-- ---- no pair is listed, and nothing is changed

pub none_selected : (w : List ℕ) (d limit : ℕ) → EndsRoom w d → ((q : RankedPair) → In q (candidates (node_of (ends_in w d)) limit) → ⊥) → Selected w d limit 0 w
none_selected w d limit r h =
    record {
      count = sym (ap length empty);
      pairs = short ∙ sym (ap listed empty ∙ (unfold listed in refl));
      kept = refl;
      beyond = refl;
    }
  where
    empty : select (node_of (ends_in w d)) limit ≡ []
    empty = (unfold select in select_stop (node_of (ends_in w d)) limit nobody (λ q m. absurd (h q m)))

    nothing : (l : List ℕ) → length l ≡ 0 → l ≡ []
    nothing [] e = refl
    nothing (x ∷ l) e = absurd (omega arith)

    short : slice (d * pairs_from) (d * pairs_from + 0 * 2) w ≡ []
    short = nothing (slice (d * pairs_from) (d * pairs_from + 0 * 2) w) (length-slice (d * pairs_from) (d * pairs_from + 0 * 2) w (omega (arith, r.long)) ∙ omega arith)

-- ---- tame directions are the index's finite ones, and those in the disk its round ones

holds : (b : Bool) → T b → b ≡ true
holds true t = refl
holds false t = absurd t

module _ {w : List ℕ} {d : ℕ} (room : EndsRoom w d) where
  pub tame_finite : ((e : ℕ) → e < d → tame (direction_at w d e) ≡ true) → Finite (ends_in w d)
  tame_finite t e x y q =
      let h = there_below room e (is_there q) in
      tame_parts x y (ap tame (sym q ∙ direction_is room e h) ∙ t e h)

  pub finite_tame : Finite (ends_in w d) → (e : ℕ) → e < d → tame (direction_at w d e) ≡ true
  unfolding tame
  finite_tame f e h = go (direction_at w d e) (direction_is room e h)
    where
      go : (a : Direction) → (end_at (ends_in w d) e).direction ≡ a → tame a ≡ true
      go Absent q = refl
      go (Toward x y) q = let t = f e x y q in ap (λ (b : Bool). b && finite y) (holds (finite x) t.0) ∙ holds (finite y) t.1

  pub all_round : ((e : ℕ) → e < d → round_of (direction_at w d e) ≡ true) → Round (ends_in w d)
  all_round t e x y q =
      let h = there_below room e (is_there q) in
      round_part x y (ap round_of (sym q ∙ direction_is room e h) ∙ t e h)

  -- each direction is beyond the box around all
  pub apart_none : (limit : ℕ) → ((e : ℕ) → e < d → tame (direction_at w d e) ≡ true)
      → ((e : ℕ) → e < d → beyond_of (around_of (direction_at w d) d) limit (direction_at w d e) ≡ true) → Selected w d limit 0 w
  unfolding qualifies
  apart_none limit t f = none_selected w d limit room candidate
    where
      candidate : (q : RankedPair) → In q (candidates (node_of (ends_in w d)) limit) → ⊥
      candidate q m =
          let l = ends_in w d in
          let c = in_candidates (node_of l) limit q m in
          let may = and_left ((node_of l).may q.i q.j) (leb q.key limit) c.1 in
          let pi = and_left (there (end_at l q.i).direction) _ may in
          let pj = and_left (there (end_at l q.j).direction) _ (and_right (there (end_at l q.i).direction) _ may) in
          let hi = there_below room q.i pi in
          let hj = there_below room q.j pj in
          let a = toward_of (end_at l q.i).direction pi in
          let b = toward_of (end_at l q.j).direction pj in
          let under : q.key ≤ limit = leb-true q.key limit (and_right ((node_of l).may q.i q.j) _ c.1) in
          let above = beyond_above (direction_at w d) d limit t f q.i q.j a.0 a.1 b.0 b.1 hi hj (sym (direction_is room q.i hi) ∙ a.2) (sym (direction_is room q.j hj) ∙ b.2) in
          let same : q.key ≡ key_of (direction_at w d q.i) (direction_at w d q.j) =
          c.0.keyed ∙ ap (λ (x : Direction). key_of x (end_at l q.j).direction) (direction_is room q.i hi) ∙ ap (key_of (direction_at w d q.i)) (direction_is room q.j hj) in
          omega (arith, under, above, same)

  -- and both are asked of each in one scan
  pub idle_none : (limit : ℕ) {r : Bool} → Every (λ e. tame (direction_at w d e) && beyond_of (around_of (direction_at w d) d) limit (direction_at w d e)) d r → r ≡ true
      → Selected w d limit 0 w
  idle_none limit s told =
      apart_none limit
      (λ e h. and_left (tame (direction_at w d e)) _ (s.yes told e h))
      (λ e h. and_right (tame (direction_at w d e)) _ (s.yes told e h))
