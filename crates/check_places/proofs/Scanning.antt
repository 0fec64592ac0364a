-- Place by place: the best place so far has the most of the line's points, and how many of those stand at the next place is how many of the line's do, unless
-- that one is better. So the line is read once more only where more of it stands than anywhere before.
use Prim.Native.Nat.{ℕ, suc, ◌+◌, ◌-◌, ◌*◌, ◌/◌, ◌≤◌, ◌<◌}
use mathlib.Core.Path.{◌≡◌, refl, sym, ap, ap₂, ◌∙◌, subst}
use mathlib.Core.Bool.{Bool, true, false, ◌&&◌}
use mathlib.Core.Logic.{◌⊎◌, inl, inr}
use mathlib.Core.List.{List}
use native.Mathlib.Decide.{ℕ_discrete, dec_lt}
use native.Mathlib.Omega.{arith}
use native.Mathlib.Nat.{mul-le-mul_left, mul-le-mul_right, div-mul-le_self}
use lib.Dec.{leb, eqb}
use lib.ListN.{length, take, drop, get_or, set, length-set, length-take, length-drop}
use lib.Seq.{get_or-set_same, get_or-set_other, get_or-take, get_or-drop}
use borrow.Author.Tests.{eqb-true, eq-eqb, ne_eqb, le-leb}
use Rattle.rules.specs.Plane.{Point, point, points, equal}
use Rattle.point_numbers.specs.Width.{point_at}
use Rattle.point_numbers.proofs.Points.{points_length, points_at}
use Rattle.chain_laws.proofs.Counts.{Each, each_of}
use Rattle.chain_laws.proofs.Room.{lay_short}
use Rattle.chain_travel.proofs.Values.{Number, same, self}
use Rattle.chain_travel.proofs.Values as travel
use Rattle.std.specs.Prelude.{Option, Some, None, is_none}
use Rattle.check_laws.specs.Standing.{common, run, laid_run, standing, fit_at}
use Rattle.check_laws.proofs.Common.{common_left, common_each, common_cut, common_first, common_take}
use Rattle.check_laws.proofs.Points.{equal_number, values, standing_right, standing_values}
use Rattle.check_laws.proofs.Ways.{run_length}
use Rattle.check_places.specs.declared.Extent.{Extent}
use Rattle.check_places.specs.declared.Scan.{Scan}
use Rattle.check_places.specs.Places.{far, PlaceGround, Reached, alike_at, next_stands, whole, Known, Scanned, Anew, Ahead, Advanced}
use Rattle.check_places.proofs.Reading.{there_stands}
use Rattle.check_places.proofs.Stretching.{alike_right, alike_values}

module _ (w : ℕ) (chain line : List ℕ) (turned : Bool) (g : PlaceGround w chain line) where
  abbrev t : List Point
  t = points w chain

  abbrev l : List Point
  l = points w line

  abbrev laid : List Point
  laid = laid_run turned l

  -- ---- sizes

  laid_short : length laid < far
  unfolding laid_run
  laid_short =
      omega (
        arith,
        lay_short mathlib.Core.Option.none (run turned l),
        run_length turned l,
        points_length w line,
        div-mul-le_self (length line) w,
        mul-le-mul_left (length line / w) g.two,
        g.short,
      )

  pub standing_short : (i : ℕ) → standing t turned l i < far
  standing_short i = omega (arith, standing_right t turned l i, laid_short)

  -- what stands at a place is inside the chain
  pub standing_inside : (i n : ℕ) → n ≤ standing t turned l i → 0 < n → (i + n) * w ≤ length chain
  unfolding standing
  standing_inside i n h b =
      let q : i + n ≤ length t = omega (arith, common_left equal (drop i t) laid, length-drop i t) in
      omega (arith, mul-le-mul_right w q, ap (λ (k : ℕ). k * w) (points_length w chain), div-mul-le_self (length chain) w)

  standing_numbers : (i : ℕ) → Each Number (take (standing t turned l i) (drop i t))
  unfolding standing
  standing_numbers i =
      each_of Number (take (common equal (drop i t) laid) (drop i t)) (point 0 0)
      (λ j h.
      let b : j < common equal (drop i t) laid = omega (arith, length-take (common equal (drop i t) laid) (drop i t)) in
      subst Number (sym (get_or-take (common equal (drop i t) laid) (drop i t) j (point 0 0) b))
      (equal_number (get_or (drop i t) j (point 0 0)) (get_or laid j (point 0 0)) (common_each equal (drop i t) laid j (point 0 0) (point 0 0) b)))

  -- ---- a place that is read anew

  pub scan_start : (i : ℕ) (r : Extent) → Reached w chain line turned i r
      → Anew w chain line turned (record { here = r.points; best = i; reached = r; low = i; high = i }) i
  scan_start i r h =
      record {
        scanned =
            λ near.
            record {
              known =
                  record {
                    best_before = omega arith;
                    best_inside = λ b. standing_inside i r.points (omega (arith, h.count)) b;
                    best_numbers = subst (λ (n : ℕ). Each Number (take n (drop i t))) (sym h.count) (standing_numbers i);
                    short = omega (arith, h.count, standing_short i);
                    table = λ d b c. absurd (omega arith);
                    low_before = omega arith;
                    low_behind = omega arith;
                    low_best = λ e. refl;
                    high_is = λ b. absurd (omega arith);
                  };
              reached = h;
              here_is = h.count;
              here_low = omega arith;
            };
        best_is = refl;
      }

  -- ---- the next place

  module _ (s : Scan) (r : Reached w chain line turned s.best s.reached) (numbers : Each Number (take s.reached.points (drop s.best t))) (i : ℕ) where
    abbrev m : ℕ
    m = s.reached.points

    abbrev n : ℕ
    n = alike_at t s.best m i

    abbrev v : List (ℕ × ℕ)
    v = values laid

    -- the points at the best place are the line's
    best_values : take m (drop s.best (values t)) ≡ take m v
    best_values =
        let q : m ≡ common same (drop s.best (values t)) v = r.count ∙ standing_values t turned l s.best g.numbers in
        ap (λ (k : ℕ). take k (drop s.best (values t))) q ∙ common_take same travel.one self (drop s.best (values t)) v ∙ ap (λ (k : ℕ). take k v) (sym q)

    alike_is : n ≡ common same (drop i (values t)) (take m v)
    alike_is = alike_values t s.best m i numbers ∙ ap (common same (drop i (values t))) best_values

    standing_is : standing t turned l i ≡ common same (drop i (values t)) v
    standing_is = standing_values t turned l i g.numbers

    -- where more of the line's points stand, the best place doesn't have all, and the next one stands here
    more_better : m < standing t turned l i → (leb m n && next_stands s.reached.next chain ((i + n) * w)) ≡ true
    unfolding standing next_stands
    more_better h =
        let e : n ≡ m = alike_is ∙ common_first same m (drop i (values t)) v (omega (arith, standing_is)) in
        let f : whole s.reached ≡ false = r.all ∙ ne_eqb m (length laid) (λ q. omega (arith, standing_right t turned l i)) in
        let b : (i + m) * w + w ≤ length chain = omega (arith, sums i m w, standing_inside i (suc m) h (omega arith)) in
        let c : (i + m) * w < length chain = omega (arith, g.two) in
        let k : i + m < length chain / w = omega (arith, common_left equal (drop i t) laid, length-drop i t, points_length w chain) in
        let q : equal (point_at w chain ((i + m) * w)) (get_or laid m (point 0 0)) ≡ true =
        ap (λ (p : Point). equal p (get_or laid m (point 0 0))) (sym (points_at w chain (i + m) (point 0 0) k) ∙ sym (get_or-drop i t m (point 0 0)))
        ∙ common_each equal (drop i t) laid m (point 0 0) (point 0 0) h in
        ap₂ (λ (x : Bool) (j : ℕ). leb m j && next_stands s.reached.next chain ((i + j) * w)) f e
        ∙ ap₂ (λ (x y : Bool). x && y) (le-leb m m (omega arith)) (stood s.reached.next refl f c q)
      where
        sums : (i m w : ℕ) → (i + suc m) * w ≡ (i + m) * w + w
        sums i m w = omega arith

        stood : (o : Option (ℕ × ℕ)) → s.reached.next ≡ o → is_none s.reached.next ≡ false → (i + m) * w < length chain
            → equal (point_at w chain ((i + m) * w)) (get_or laid m (point 0 0)) ≡ true → next_stands o chain ((i + m) * w) ≡ true
        stood None e f c q = absurd (cc)
        stood (Some p) e f c q =
            there_stands w chain g.two g.chain_whole (i + m) (point p.0 p.1) c (sym (r.next p e (point_at w chain ((i + m) * w))) ∙ q)

    -- and else as many of its points stand here as of those at the best place
    pub no_better : (leb m n && next_stands s.reached.next chain ((i + n) * w)) ≡ false → n ≡ standing t turned l i
    no_better e =
        elim (dec_lt m (standing t turned l i)) [
          | yes h ↦ let q = more_better h in let z : ◌≡◌ {A = ℕ} 0 1 = cc in absurd (omega arith)
          | no h ↦ alike_is ∙ common_cut same m (drop i (values t)) v (omega (arith, standing_is)) ∙ sym standing_is
        ]

  -- what is known with it in the table
  module _ (near : List ℕ) (s : Scan) (i : ℕ) (a : Ahead w chain line turned near s i) where
    abbrev k : Known w chain near s a.last
    k = a.scanned.known

    abbrev here : ℕ
    here = alike_at t s.best s.reached.points i

    abbrev near' : List ℕ
    near' = set near (i - s.best) here

    table_next : (d : ℕ) → 0 < d → s.best + d ≤ i → get_or near' d 0 ≡ alike_at t s.best s.reached.points (s.best + d)
    table_next d b c =
        elim (ℕ_discrete d (i - s.best)) [
          | yes q ↦
              let f : i ≡ s.best + d = omega (arith, k.best_before, a.next) in
              ap (λ (j : ℕ). get_or near' j 0) q ∙ get_or-set_same near (i - s.best) here 0 (omega (arith, a.long, a.room, k.best_before, a.next))
              ∙ ap (alike_at t s.best s.reached.points) f
          | no q ↦ get_or-set_other near (i - s.best) d here 0 q ∙ k.table d b (omega (arith, other d q c))
        ]
      where
        other : (d : ℕ) → (d ≡ i - s.best → ⊥) → s.best + d ≤ i → s.best + d ≤ a.last
        other d q c = elim (dec_lt (s.best + d) i) [ yes y ↦ omega (arith, a.next) | no n ↦ absurd (q (omega arith)) ]

    -- the next scan, with the farthest points told
    module _ (low high : ℕ) (is : ((low ≡ i) × (high ≡ i + here)) ⊎ ((low ≡ s.low) × (high ≡ s.high))) where
      abbrev next : Scan
      next = record { here = here; best = s.best; reached = s.reached; low = low; high = high }

      known_next : Known w chain near' next i
      known_next =
          record {
            best_before = omega (arith, k.best_before, a.next);
            best_inside = k.best_inside;
            best_numbers = k.best_numbers;
            short = k.short;
            table = table_next;
            low_before = before is;
            low_behind = behind is;
            low_best = best is;
            high_is = high_of is;
          }
        where
          before : ((low ≡ i) × (high ≡ i + here)) ⊎ ((low ≡ s.low) × (high ≡ s.high)) → low ≤ i
          before (inl q) = omega arith
          before (inr q) = omega (arith, k.low_before, a.next)

          behind : ((low ≡ i) × (high ≡ i + here)) ⊎ ((low ≡ s.low) × (high ≡ s.high)) → s.best ≤ low
          behind (inl q) = omega (arith, k.best_before, a.next)
          behind (inr q) = omega (arith, k.low_behind)

          best : ((low ≡ i) × (high ≡ i + here)) ⊎ ((low ≡ s.low) × (high ≡ s.high)) → low ≡ s.best → high ≡ s.best
          best (inl q) e = absurd (omega (arith, k.best_before, a.next))
          best (inr q) e = omega (arith, k.low_best (omega arith))

          high_of : ((low ≡ i) × (high ≡ i + here)) ⊎ ((low ≡ s.low) × (high ≡ s.high)) → s.best < low → high ≡ low + alike_at t s.best s.reached.points low
          high_of (inl q) b = q.1 ∙ ap (λ (j : ℕ). j + alike_at t s.best s.reached.points j) (sym q.0)
          high_of (inr q) b = q.1 ∙ k.high_is (omega arith) ∙ ap (λ (j : ℕ). j + alike_at t s.best s.reached.points j) (sym q.0)

      pub scan_on : here ≡ standing t turned l i → Advanced w chain line turned near' s next i
      scan_on e =
          record {
            scanned = record { known = known_next; reached = a.scanned.reached; here_is = e; here_low = alike_right t s.best s.reached.points i };
            whole_kept = λ q. q;
            best_kept = omega arith;
            long = length-set near (i - s.best) here ∙ a.long;
          }

  -- a place that is better
  pub scan_better : (near : List ℕ) (s s' : Scan) (i c : ℕ) (b : Bool) → Ahead w chain line turned near s i → Anew w chain line turned s' i
      → (b && next_stands s.reached.next chain c) ≡ true → Advanced w chain line turned near s s' i
  unfolding next_stands
  scan_better near s s' i c b a h e =
      record {
        scanned = h.scanned near;
        whole_kept = λ q. absurd (never q);
        best_kept = omega (arith, h.best_is, a.scanned.known.best_before, a.next);
        long = a.long;
      }
    where
      never : whole s.reached ≡ true → ⊥
      never q = go s.reached.next q b e
        where
          go : (o : Option (ℕ × ℕ)) → is_none o ≡ true → (b : Bool) → (b && next_stands o chain c) ≡ true → ⊥
          go None q true e = cc
          go None q false e = cc
          go (Some p) q b e = cc

  -- ---- whether the whole line stands at the place that was looked at

  pub fit_is : (near : List ℕ) (s : Scan) (i : ℕ) → Scanned w chain line turned near s i → (whole s.reached && eqb s.here s.reached.points) ≡ fit_at t turned l i
  unfolding fit_at
  fit_is near s i h = go (whole s.reached) refl
    where
      go : (b : Bool) → whole s.reached ≡ b → (whole s.reached && eqb s.here s.reached.points) ≡ eqb (standing t turned l i) (length laid)
      go true e =
          let q : s.reached.points ≡ length laid = eqb-true s.reached.points (length laid) (sym h.reached.all ∙ e) in
          ap (λ (b : Bool). b && eqb s.here s.reached.points) e ∙ ap₂ eqb h.here_is q
      go false e =
          let q : s.reached.points ≡ length laid → ⊥ = λ z. different (sym h.reached.all ∙ e) (eq-eqb s.reached.points (length laid) z) in
          ap (λ (b : Bool). b && eqb s.here s.reached.points) e
          ∙ sym (ne_eqb (standing t turned l i) (length laid) (λ z. q (omega (arith, h.here_is, h.here_low, h.reached.count, standing_right t turned l s.best))))
        where
          different : {b : Bool} → b ≡ false → b ≡ true → ⊥
          different x y = let z : ◌≡◌ {A = ℕ} 0 1 = cc in omega arith

  pub whole_size : (near : List ℕ) (s : Scan) (i : ℕ) → Scanned w chain line turned near s i → whole s.reached ≡ true → s.reached.points ≡ length laid
  whole_size near s i h e = eqb-true s.reached.points (length laid) (sym h.reached.all ∙ e)
