-- Place after place: where the whole line stands at those that were looked at, and that it stood at one.
use Prim.Native.Nat.{ℕ, suc, ◌+◌, ◌≤◌, ◌<◌}
use mathlib.Core.Path.{◌≡◌, refl, sym, ap, ◌∙◌}
use mathlib.Core.Bool.{Bool, true, false, ◌&&◌, and-eq-true_iff}
use mathlib.Core.List.{List}
use native.Mathlib.Decide.{ℕ_discrete, dec_lt}
use native.Mathlib.Omega.{arith}
use lib.Dec.{eqb}
use lib.ListN.{length, get_or, set, length-set}
use lib.Seq.{get_or-set_same, get_or-set_other}
use Rattle.rules.specs.Plane.{Point, points}
use Rattle.rules.specs.Refusals.{most_lines}
use Rattle.check_laws.specs.Standing.{fit_at}
use Rattle.check_places.specs.declared.Scan.{Scan}
use Rattle.check_places.specs.Places.{PlaceGround, Scanned, Anew, Ahead, Advanced, whole}
use Rattle.check_places.proofs.Scanning.{fit_is}

-- the first i places from `from` on were looked at
pub record Filling (w : ℕ) (chain line : List ℕ) (turned : Bool) (from : ℕ) (fits : List Bool) (near : List ℕ) (s : Scan) (i : ℕ) : Type 0 where
  pub fits_long : length fits ≡ most_lines
  pub near_long : length near ≡ most_lines
  pub last : ℕ
  pub next : i ≡ suc last
  pub scanned : Scanned w chain line turned near s (from + last)
  pub behind : from ≤ s.best
  pub told : (x : ℕ) → x < i → get_or fits x false ≡ fit_at (points w chain) turned (points w line) (from + x)
  pub stood : (x : ℕ) → x < i → fit_at (points w chain) turned (points w line) (from + x) ≡ true → whole s.reached ≡ true

module _ (w : ℕ) (chain line : List ℕ) (turned : Bool) (g : PlaceGround w chain line) (from : ℕ) where
  abbrev t : List Point
  t = points w chain

  abbrev l : List Point
  l = points w line

  -- the row with one place more
  more_told : (fits : List Bool) (i : ℕ) (r : Bool) → length fits ≡ most_lines → i < most_lines
      → ((x : ℕ) → x < i → get_or fits x false ≡ fit_at t turned l (from + x)) → r ≡ fit_at t turned l (from + i)
      → (x : ℕ) → x < suc i → get_or (set fits i r) x false ≡ fit_at t turned l (from + x)
  more_told fits i r long h f e x b =
      elim (ℕ_discrete x i) [
        | yes q ↦
            ap (λ (n : ℕ). get_or (set fits i r) n false) q ∙ get_or-set_same fits i r false (omega arith) ∙ e
            ∙ ap (λ (n : ℕ). fit_at t turned l (from + n)) (sym q)
        | no q ↦ get_or-set_other fits i x r false q ∙ f x (earlier x q b)
      ]
    where
      earlier : (x : ℕ) → (x ≡ i → ⊥) → x < suc i → x < i
      earlier x q b = elim (dec_lt x i) [ yes y ↦ y | no n ↦ absurd (q (omega arith)) ]

  -- where the line stands at the place that was looked at last, the whole of it was met
  here_whole : (near : List ℕ) (s : Scan) (i : ℕ) → Scanned w chain line turned near s i → fit_at t turned l i ≡ true → whole s.reached ≡ true
  here_whole near s i h e = ((and-eq-true_iff (whole s.reached) (eqb s.here s.reached.points)).0 (fit_is w chain line turned g near s i h ∙ e)).0

  pub filling_start : (fits : List Bool) (near : List ℕ) (s : Scan) (r : Bool) → length fits ≡ most_lines → length near ≡ most_lines → Anew w chain line turned s from
      → r ≡ (whole s.reached && eqb s.here s.reached.points) → Filling w chain line turned from (set fits 0 r) near s 1
  filling_start fits near s r long near-long n e =
      let z : from + 0 ≡ from = omega arith in
      let h : Scanned w chain line turned near s (from + 0) = rw z (n.scanned near) in
      record {
        fits_long = length-set fits 0 r ∙ long;
        near_long = near-long;
        last = 0;
        next = refl;
        scanned = h;
        behind = omega (arith, n.best_is);
        told = more_told fits 0 r long (omega arith) (λ x b. absurd (omega arith)) (e ∙ fit_is w chain line turned g near s (from + 0) h);
        stood = λ x b q.
            let y : x ≡ 0 = omega arith in
            here_whole near s (from + 0) h (ap (λ (n : ℕ). fit_at t turned l (from + n)) (sym y) ∙ q);
      }

  module _ (fits : List Bool) (near : List ℕ) (s : Scan) (i : ℕ) (f : Filling w chain line turned from fits near s i) (few : i < most_lines) where
    pub filling_ahead : Ahead w chain line turned near s (from + i)
    filling_ahead =
        record {
          last = from + f.last;
          next = omega (arith, f.next);
          scanned = f.scanned;
          room = omega (arith, f.behind);
          long = f.near_long;
        }

    pub filling_next : (near' : List ℕ) (s' : Scan) (r : Bool) → Advanced w chain line turned near' s s' (from + i)
        → r ≡ (whole s'.reached && eqb s'.here s'.reached.points) → Filling w chain line turned from (set fits i r) near' s' (i + 1)
    filling_next near' s' r a e =
        record {
          fits_long = length-set fits i r ∙ f.fits_long;
          near_long = a.long;
          last = i;
          next = omega arith;
          scanned = a.scanned;
          behind = omega (arith, f.behind, a.best_kept);
          told = λ x b.
              more_told fits i r f.fits_long few f.told (e ∙ fit_is w chain line turned g near' s' (from + i) a.scanned) x (omega arith);
          stood = λ x b q.
              elim (ℕ_discrete x i) [
                | yes y ↦ here_whole near' s' (from + i) a.scanned (ap (λ (n : ℕ). fit_at t turned l (from + n)) (sym y) ∙ q)
                | no y ↦ a.whole_kept (f.stood x (earlier x y b) q)
              ];
        }
      where
        earlier : (x : ℕ) → (x ≡ i → ⊥) → x < i + 1 → x < i
        earlier x q b = elim (dec_lt x i) [ yes y ↦ y | no n ↦ absurd (q (omega arith)) ]
