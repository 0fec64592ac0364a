-- Joins put into the table, pair by pair: the table so far, filled with the pairs that are left, is the table filled with all.
use Prim.Native.Nat.{ℕ, suc, ◌+◌, ◌-◌, ◌*◌, ◌≤◌, ◌<◌}
use mathlib.Core.Path.{◌≡◌, sym, ap, ◌∙◌, subst}
use mathlib.Core.List.{List, ◌∷◌}
use native.Mathlib.Omega.{arith}
use lib.ListN.{length, get_or, set}
use lib.Seq.{slice}
use Rattle.chain_laws.specs.Table.{put, fill}
use Rattle.point_slices.specs.Holds.{HoldsFrom}
use Rattle.point_slices.proofs.Laws.{from_beyond, from_part}
use Rattle.chain_joins.specs.Node.{named_pairs, Puttable}
use Rattle.chain_joins.proofs.Regions.{from_own, from_in, from_over}

-- ---- one pair

pub put_holds : (w : List ℕ) (joins m a b : ℕ) → joins + m ≤ length w → a < m → b < m
    → HoldsFrom (set (set w (joins + a) (b + 1)) (joins + b) (a + 1)) w joins m (put (slice joins (joins + m) w) (a, b))
unfolding put
put_holds w joins m a b h i j =
    let p : b + 1 ≡ suc b = omega arith in
    let q : a + 1 ≡ suc a = omega arith in
    rw (← p, ← q) (from_in (from_in (from_own w joins m h) h a (b + 1) i) h b (a + 1) j)

-- ---- pair by pair

pairs_more : (w : List ℕ) (list pairs k r : ℕ) → k < r
    → named_pairs w list (pairs + k * 2) (r - k)
    ≡ (get_or w (list + get_or w (pairs + k * 2) 0) 0, get_or w (list + get_or w (pairs + k * 2 + 1) 0) 0) ∷ named_pairs w list (pairs + (k + 1) * 2) (r - (k + 1))
unfolding named_pairs
pairs_more w list pairs k r h =
    let p : r - k ≡ suc (r - (k + 1)) = omega arith in
    let q : pairs + k * 2 + 2 ≡ pairs + (k + 1) * 2 = omega arith in
    ap (named_pairs w list (pairs + k * 2)) p
    ∙ ap {B = List (ℕ × ℕ)} (λ i. (get_or w (list + get_or w (pairs + k * 2) 0) 0, get_or w (list + get_or w (pairs + k * 2 + 1) 0) 0) ∷ named_pairs w list i (r - (k + 1))) q

module _ {w₀ : List ℕ} {joins m list d pairs r : ℕ} (P : Puttable w₀ joins m list d pairs r) where
  -- after k pairs
  pub record Putting (w : List ℕ) (k : ℕ) : Type 0 where
    pub table : List ℕ
    pub holds : HoldsFrom w w₀ joins m table
    pub goes : fill table (named_pairs w₀ list (pairs + k * 2) (r - k)) ≡ fill (slice joins (joins + m) w₀) (named_pairs w₀ list pairs r)

  fits : joins + m ≤ length w₀
  fits = let a = P.below in let b = P.listed in let c = P.room in omega arith

  pub putting_start : Putting w₀ 0
  putting_start =
      let p : pairs + 0 * 2 ≡ pairs = omega arith in
      let q : r - 0 ≡ r = omega arith in
      record { table = slice joins (joins + m) w₀; holds = from_own w₀ joins m fits; goes = rw (p, q) }

  module _ {w : List ℕ} {k : ℕ} (Y : Putting w k) (h : k < r) where
    -- what stands beyond the table is as it was
    pub past : (j : ℕ) → joins + m ≤ j → get_or w j 0 ≡ get_or w₀ j 0
    past j b = from_beyond Y.holds fits j b

    first_read : get_or w (pairs + k * 2) 0 ≡ get_or w₀ (pairs + k * 2) 0
    first_read = let a = P.below in let b = P.listed in past (pairs + k * 2) (omega arith)

    second_read : get_or w (pairs + k * 2 + 1) 0 ≡ get_or w₀ (pairs + k * 2 + 1) 0
    second_read = let a = P.below in let b = P.listed in past (pairs + k * 2 + 1) (omega arith)

    end_read : (i : ℕ) → get_or w (list + i) 0 ≡ get_or w₀ (list + i) 0
    end_read i = let a = P.below in past (list + i) (omega arith)

    pub first_place_lem : get_or w (pairs + k * 2) 0 < d
    first_place_lem = omega (arith, first_read, P.places (k * 2) (omega arith))

    pub second_place : get_or w (pairs + k * 2 + 1) 0 < d
    second_place =
        let p : pairs + (k * 2 + 1) ≡ pairs + k * 2 + 1 = omega arith in
        omega (arith, second_read, P.places (k * 2 + 1) (omega arith), ap (λ (i : ℕ). get_or w₀ i 0) p)

    pub first_end : get_or w (list + get_or w (pairs + k * 2) 0) 0 < m
    first_end = omega (arith, end_read (get_or w (pairs + k * 2) 0), P.ends (get_or w (pairs + k * 2) 0) first_place_lem)

    pub second_end : get_or w (list + get_or w (pairs + k * 2 + 1) 0) 0 < m
    second_end = omega (arith, end_read (get_or w (pairs + k * 2 + 1) 0), P.ends (get_or w (pairs + k * 2 + 1) 0) second_place)

    -- the ends of the pair, as they stood
    first_named : get_or w (list + get_or w (pairs + k * 2) 0) 0 ≡ get_or w₀ (list + get_or w₀ (pairs + k * 2) 0) 0
    first_named = end_read (get_or w (pairs + k * 2) 0) ∙ ap (λ (i : ℕ). get_or w₀ (list + i) 0) first_read

    second_named : get_or w (list + get_or w (pairs + k * 2 + 1) 0) 0 ≡ get_or w₀ (list + get_or w₀ (pairs + k * 2 + 1) 0) 0
    second_named = end_read (get_or w (pairs + k * 2 + 1) 0) ∙ ap (λ (i : ℕ). get_or w₀ (list + i) 0) second_read

    pub putting_step : {w' : List ℕ}
        → HoldsFrom w' w joins m (put (slice joins (joins + m) w) (get_or w (list + get_or w (pairs + k * 2) 0) 0, get_or w (list + get_or w (pairs + k * 2 + 1) 0) 0))
        → Putting w' (k + 1)
    unfolding fill
    putting_step {w'} H =
        record {
          table = put Y.table (get_or w₀ (list + get_or w₀ (pairs + k * 2) 0) 0, get_or w₀ (list + get_or w₀ (pairs + k * 2 + 1) 0) 0);
          holds = subst (λ (t : List ℕ). HoldsFrom w' w₀ joins m t) named (again Y.holds H);
          goes =
              sym (ap (fill Y.table) (pairs_more w₀ list pairs k r h)) ∙ Y.goes;
        }
      where
        named : put (slice joins (joins + m) w) (get_or w (list + get_or w (pairs + k * 2) 0) 0, get_or w (list + get_or w (pairs + k * 2 + 1) 0) 0)
            ≡ put Y.table (get_or w₀ (list + get_or w₀ (pairs + k * 2) 0) 0, get_or w₀ (list + get_or w₀ (pairs + k * 2 + 1) 0) 0)
        named = λ i. put (from_part Y.holds fits i) (first_named i, second_named i)

        again : {x : List ℕ} {t u : List ℕ} → HoldsFrom w w₀ joins m t → HoldsFrom x w joins m u → HoldsFrom x w₀ joins m u
        again {x} {t} {u} A B = from_over A fits B

  pub putting_done : {w : List ℕ} {k : ℕ} → Putting w k → r ≤ k → HoldsFrom w w₀ joins m (fill (slice joins (joins + m) w₀) (named_pairs w₀ list pairs r))
  unfolding named_pairs fill
  putting_done {w} {k} Y h =
      let q : r - k ≡ 0 = omega arith in
      subst (λ (t : List ℕ). HoldsFrom w w₀ joins m t) (ap (λ (n : ℕ). fill Y.table (named_pairs w₀ list (pairs + k * 2) n)) (sym q) ∙ Y.goes) Y.holds
