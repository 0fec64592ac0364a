-- The extent of points, four at a time: after each turn it is that of the points before the i-th number, and the last four, of which some may have been taken, end it.
use Prim.Native.Nat.{ℕ, ◌+◌, ◌-◌, ◌*◌, ◌≤◌, ◌<◌}
use mathlib.Core.Path.{◌≡◌, sym, ap, ap₂, subst, ◌∙◌}
use mathlib.Core.List.{List, ◌++◌}
use native.Mathlib.Omega.{arith}
use native.Mathlib.Nat.{mul-le-mul_right, le_of_mul-le-mul_right, lt_of_mul-lt-mul_right, add-mul, zero-mul}
use lib.ListN.{length, drop}
use lib.Seq.{drop-drop}
use Rattle.rules.specs.Plane.{Point, reads, points}
use Rattle.rules.specs.Boxes.{union, box_of}
use Rattle.point_numbers.proofs.Points.{points_exact, reads_add}
use Rattle.chain_laws.proofs.Counts.{each_parts}
use Rattle.box_laws.specs.Sound.{Places}
use Rattle.box_laws.proofs.Unions.{box_append, box_overlap}
use Rattle.box_levels.specs.declared.Extent.{Extent}
use Rattle.box_levels.specs.Extents.{joined, Boxed}
use Rattle.box_levels.specs.Lying.{Lying, FourAt}
use Rattle.box_levels.proofs.Extents.{boxed_around}

-- r points behind the first p
abbrev points_behind : ℕ → List ℕ → ℕ → ℕ → List Point
points_behind w part p r = reads w r (drop (p * w) part)

-- where the loop stands: the extent of the points before the i-th number
pub record Reached (w : ℕ) (part : List ℕ) (e : Extent) (i : ℕ) : Type 0 where
  pub taken : ℕ
  pub place : i ≡ taken * w
  pub few : i ≤ length part
  pub boxed : Boxed e (box_of (points_behind w part 0 taken))

module _ {w : ℕ} {part : List ℕ} (l : Lying w part) where
  abbrev many : ℕ
  many = l.whole.number

  abbrev run : ℕ → ℕ → List Point
  run p r = points_behind w part p r

  run_add : (p r s : ℕ) → run p (r + s) ≡ run p r ++ run (p + r) s
  run_add p r s =
      let e : p * w + r * w ≡ (p + r) * w = sym (add-mul p r w) in
      reads_add w r s (drop (p * w) part) ∙ ap (λ (t : List ℕ). run p r ++ reads w s t) (drop-drop (r * w) (p * w) part ∙ ap (λ (k : ℕ). drop k part) e)

  all_read : points w part ≡ run 0 many
  all_read = points_exact w many part (omega (arith, l.two)) l.whole.long ∙ ap (λ (k : ℕ). reads w many (drop k part)) (sym (zero-mul w))

  run_places : (p r : ℕ) → p + r ≤ many → Places (run p r)
  run_places p r h =
      let a : many ≡ p + (many - p) = omega arith in
      let b : many - p ≡ r + (many - p - r) = omega arith in
      let z : 0 + p ≡ p = omega arith in
      let one = (each_parts (run 0 p) (run (0 + p) (many - p)) (subst Places (all_read ∙ ap (run 0) a ∙ run_add 0 p (many - p)) l.places)).1 in
      let two = subst (λ (k : ℕ). Places (run k (many - p))) z one in
      (each_parts (run p r) (run (p + r) (many - p - r)) (subst Places (ap (run p) b ∙ run_add p r (many - p - r)) two)).0

  -- four points there
  pub four_at : (p : ℕ) → p + 4 ≤ many → FourAt w part (p * w)
  four_at p h = record {
    two = l.two;
    narrow = l.narrow;
    there = omega (arith, l.whole.long, mul-le-mul_right w h, add-mul p 4 w);
    places = run_places p 4 h;
  }

  -- there are four points, and so the last four
  pub enough : w * 4 ≤ length part → 4 ≤ many
  enough h =
      let e : 4 * w ≤ many * w = omega (arith, l.whole.long) in
      le_of_mul-le-mul_right e (omega (arith, l.two))

  pub last_place : w * 4 ≤ length part → length part - w * 4 ≡ (many - 4) * w
  last_place h =
      let a : many ≡ many - 4 + 4 = omega (arith, enough h) in
      omega (arith, l.whole.long, ap (λ (k : ℕ). k * w) a, add-mul (many - 4) 4 w)

  module _ (h : w * 4 ≤ length part) where
    pub reached_start : {e : Extent} → Boxed e (box_of (reads w 4 (drop 0 part))) → Reached w part e (w * 4)
    reached_start {e} b = record {
      taken = 4;
      place = omega arith;
      few = h;
      boxed = subst (λ (k : ℕ). Boxed e (box_of (reads w 4 (drop k part)))) (sym (zero-mul w)) b;
    }

    pub first_four : FourAt w part 0
    first_four = subst (FourAt w part) (zero-mul w) (four_at 0 (omega (arith, enough h)))

    pub last_four : FourAt w part (length part - w * 4)
    last_four = subst (FourAt w part) (sym (last_place h)) (four_at (many - 4) (omega (arith, enough h)))

    module _ {e : Extent} {i : ℕ} (r : Reached w part e i) where
      module _ (b : i < length part - w * 4) where
        fewer : r.taken + 4 ≤ many
        fewer =
            let c : r.taken * w < (many - 4) * w = omega (arith, r.place, last_place h) in
            omega (arith, lt_of_mul-lt-mul_right w {m = r.taken} {n = many - 4} c)

        pub next_four : FourAt w part i
        next_four = subst (FourAt w part) (sym r.place) (four_at r.taken fewer)

        pub reached_more : {f g : Extent} → Boxed f (box_of (reads w 4 (drop i part))) → g ≡ joined e f → Reached w part g (i + w * 4)
        reached_more {f} {g} c z =
            let p = r.taken in
            let k : 0 + p ≡ p = omega arith in
            let four = subst (λ (j : ℕ). Boxed f (box_of (reads w 4 (drop j part)))) r.place c in
            let both : union (box_of (run 0 p)) (box_of (run p 4)) ≡ box_of (run 0 (p + 4)) =
            sym (box_append (run 0 p) (run p 4) (run_places 0 p (omega (arith, fewer))) (run_places p 4 fewer))
            ∙ ap box_of (ap (λ (j : ℕ). run 0 p ++ run j 4) (sym k) ∙ sym (run_add 0 p 4)) in
            record {
              taken = p + 4;
              place = omega (arith, r.place, add-mul p 4 w);
              few = omega (arith, b);
              boxed = subst (Boxed g) both (boxed_around z r.boxed four);
            }

      -- the last four begin among the points that were taken, or right behind them
      pub reached_done : {f g : Extent} → length part - w * 4 ≤ i → Boxed f (box_of (reads w 4 (drop (length part - w * 4) part))) → g ≡ joined e f
          → Boxed g (box_of (points w part))
      reached_done {f} {g} b c z =
          let p = r.taken in
          let q = many - 4 in
          let m : 4 ≤ many = enough h in
          let d : q * w ≤ p * w = omega (arith, r.place, last_place h) in
          let o : q ≤ p = le_of_mul-le-mul_right d (omega (arith, l.two)) in
          let front : p ≡ q + (p - q) = omega arith in
          let few : p * w ≤ many * w = omega (arith, r.place, r.few, l.whole.long) in
          let pm : p ≤ many = le_of_mul-le-mul_right few (omega (arith, l.two)) in
          let back : 4 ≡ p - q + (many - p) = omega arith in
          let total : q + 4 ≡ many = omega arith in
          let zq : 0 + q ≡ q = omega arith in
          let qp : q + (p - q) ≡ p = omega arith in
          let A = run 0 q in
          let B = run q (p - q) in
          let C = run p (many - p) in
          let ab : run 0 p ≡ A ++ B = ap (run 0) front ∙ run_add 0 q (p - q) ∙ ap (λ (j : ℕ). A ++ run j (p - q)) zq in
          let bc : run q 4 ≡ B ++ C = ap (run q) back ∙ run_add q (p - q) (many - p) ∙ ap (λ (j : ℕ). B ++ run j (many - p)) qp in
          let abc : A ++ (B ++ C) ≡ points w part =
          ap (λ (t : List Point). A ++ t) (sym bc) ∙ ap (λ (j : ℕ). A ++ run j 4) (sym zq) ∙ sym (run_add 0 q 4) ∙ ap (run 0) total ∙ sym all_read in
          let four = subst (λ (j : ℕ). Boxed f (box_of (reads w 4 (drop j part)))) (last_place h) c in
          let whole : union (box_of (run 0 p)) (box_of (run q 4)) ≡ box_of (points w part) =
          ap₂ (λ (s t : List Point). union (box_of s) (box_of t)) ab bc
          ∙ box_overlap A B C (run_places 0 q (omega arith)) (run_places q (p - q) (omega arith)) (run_places p (many - p) (omega arith))
          ∙ ap box_of abc in
          subst (Boxed g) whole (boxed_around z r.boxed four)
