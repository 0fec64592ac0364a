-- The walk along row i: after each end what is near is the first of the free qualifying pairs that were passed. An end is passed by if it is marked, if its
-- measure isn't nearer, or if it is of the same piece. Where the nearest is at -1, no later pair is before it.
use Prim.Native.Nat.{ℕ, ◌+◌, ◌*◌, ◌≤◌, ◌<◌}
use mathlib.Core.Path.{◌≡◌, refl, sym, ap, ap₂, ◌∙◌, subst}
use mathlib.Core.Bool.{Bool, true, false, not, ◌&&◌, and-false, or-true}
use mathlib.Core.Logic.{◌⊎◌, inl, inr, ⊎_elim}
use mathlib.Core.List.{List}
use native.Mathlib.Omega.{arith}
use lib.Dec.{T, leb, ltb, eqb}
use lib.Ieee.{Float, binary64, le, is_nan, fits}
use lib.ListN.{length}
use Rattle.std.specs.Prelude.{Option, Some, None}
use Rattle.std.specs.Option.{unwrap_or}
use borrow.Author.Tests.{eq-eqb, ne_eqb, leb-true, le-leb, not-false}
use Rattle.rules.specs.Answers.{Direction}
use Rattle.rules.specs.Answers.{Absent, Toward}
use Rattle.rules.specs.Plane.{unity, minus_unity}
use Rattle.rules.specs.Refusals.{limit_bad}
use Rattle.float_order.specs.Key.{key}
use Rattle.float_order.proofs.Order.{le_num_l, lt_to_le, trans}
use Rattle.float_order.proofs.Keys.{key_le_is, key_lt_is}
use Rattle.pair_laws.specs.Ranked.{RankedPair, Node, candidates, qualifies, busy, before}
use Rattle.pair_laws.specs.Sets.{In}
use Rattle.pair_laws.specs.Taking.{pair_at, better, IsFirst}
use Rattle.pair_laws.specs.Ends.{there, node_of}
use Rattle.pair_laws.proofs.Order.{Three, three, of_at_before, and_right}
use Rattle.pair_laws.proofs.Laws.{in_candidates}
use Rattle.pair_laws.proofs.Row.{SoFar, Passed, open_of, member_of, row_start, row_next, row_done}
use Rattle.pair_laws.proofs.Rows.{row_taken}
use Rattle.pair_ends.specs.Blocks.{pairs_from, marks_from, row_keys_from}
use Rattle.pair_ends.specs.Ends.{direction_at, piece_at, ends_in}
use Rattle.pair_ends.proofs.Reading.{get_d_slice, ends_in_length, key_in, may_in}
use Rattle.pair_first_of_end.specs.declared.Near.{Near}
use Rattle.pair_first_of_end.specs.Near.{numbered, measure_of, below_of, closer_to}
use Rattle.pair_first_of_end.specs.Row.{mark_at, used_in, held_words, held_by, held_of, RowReady, First}
use Rattle.pair_first_of_end.proofs.Measures.{holds, held, measure_of_fits, key_of_measure, least_measure}

-- ---- the better of a pair and the next one

module _ (n : Node) (limit : ℕ) (used : ℕ → Bool) (i j : ℕ) (p : RankedPair) where
  passed_busy : busy used (pair_at n i j) ≡ true → better n limit used i j p ≡ p
  unfolding better
  passed_busy e = rw e

  passed_shut : qualifies n limit (pair_at n i j) ≡ false → better n limit used i j p ≡ p
  unfolding better
  passed_shut e = rw (e, and-false (not (busy used (pair_at n i j))))

  passed_far : (p.j ≡ 0 → ⊥) → ltb (n.key i j) p.key ≡ false → better n limit used i j p ≡ p
  unfolding better
  passed_far h e = rw (ne_eqb p.j 0 h, e, and-false (not (busy used (pair_at n i j)) && qualifies n limit (pair_at n i j)))

  better_first : busy used (pair_at n i j) ≡ false → qualifies n limit (pair_at n i j) ≡ true → p.j ≡ 0 → better n limit used i j p ≡ pair_at n i j
  unfolding better
  better_first f q e = rw (f, q, eq-eqb p.j 0 e)

  better_next : busy used (pair_at n i j) ≡ false → qualifies n limit (pair_at n i j) ≡ true → ltb (n.key i j) p.key ≡ true → better n limit used i j p ≡ pair_at n i j
  unfolding better
  better_next f q e = rw (f, q, e, or-true (eqb p.j 0))

less_or_level : {a b : ℕ} → a ≤ b → (a < b) ⊎ (a ≡ b)
less_or_level {a} {b} h = go (three a b)
  where
    go : Three a b → (a < b) ⊎ (a ≡ b)
    go (inl k) = inl k
    go (inr (inl k)) = inr k
    go (inr (inr k)) = absurd (omega arith)

-- ---- marks

used_is : (w : List ℕ) (d e : ℕ) → e < d → used_in w d e ≡ not (eqb (mark_at w d e) 0)
used_is w d e h = ap (λ (m : ℕ). not (eqb m 0)) (get_d_slice (d * marks_from) (d * row_keys_from) w e (omega arith))

pub used_marked : (w : List ℕ) (d e : ℕ) → e < d → (mark_at w d e ≡ 0 → ⊥) → used_in w d e ≡ true
used_marked w d e h k = used_is w d e h ∙ ap not (ne_eqb (mark_at w d e) 0 k)

pub used_free : (w : List ℕ) (d e : ℕ) → e < d → mark_at w d e ≡ 0 → used_in w d e ≡ false
used_free w d e h k = used_is w d e h ∙ ap not (eq-eqb (mark_at w d e) 0 k)

-- ---- what is near, as a pair of row i

abbrev pub node : List ℕ → ℕ → Node
node w d = node_of (ends_in w d)

abbrev pub between : List ℕ → ℕ → ℕ → ℕ → Float
between w d i j = measure_of (direction_at w d i) (direction_at w d j)

abbrev pub seen : ℕ → Near → RankedPair
seen i near = record { key = key near.measure; i = i; j = unwrap_or near.partner 0 }

pub record Walk (w : List ℕ) (d : ℕ) (limit : Float) (i : ℕ) (near : Near) (next : ℕ) : Type 0 where
  pub so_far : SoFar (node w d) (key limit) (used_in w d) (Passed (node w d) (key limit) (used_in w d) i next) (seen i near)
  pub unmet : near.partner ≡ None → near.measure ≡ limit
  pub met : (j : ℕ) → near.partner ≡ Some j → i < j
  pub top : T (le near.measure unity)
  pub fitting : T (fits binary64 near.measure)
  pub beyond : i < next
  pub within : next ≤ d

pub limit_top : (limit : Float) → limit_bad limit ≡ false → T (le limit unity)
unfolding limit_bad
limit_top limit h = held (and_right (le minus_unity limit) (le limit unity) (not-false (le minus_unity limit && le limit unity) h))

numbered_there : (a : Direction) → numbered a ≡ true → there a ≡ true
unfolding numbered there
numbered_there Absent h = h
numbered_there (Toward x y) h = refl

module _ (w : List ℕ) (d : ℕ) (limit : Float) (i : ℕ) (ok : RowReady w d limit i) (fitting : T (fits binary64 limit)) where
  long : d * pairs_from ≤ length w
  long = omega (arith, ok.room.long)

  ends_are : length (ends_in w d) ≡ d
  ends_are = ends_in_length w d long

  pub walk_start : Walk w d limit i (record { measure = limit; partner = None }) (i + 1)
  walk_start =
      record {
        so_far = row_start (node w d) (key limit) (used_in w d) i (seen i (record { measure = limit; partner = None })) refl;
        unmet = λ e. refl;
        met = λ j e. cc;
        top = limit_top limit ok.admitted;
        fitting = fitting;
        beyond = omega arith;
        within = omega (arith, ok.row);
      }

  -- the end j is passed
  module _ (near : Near) (j : ℕ) (s : Walk w d limit i near j) (j<d : j < d) where
    fits_here : T (fits binary64 (between w d i j))
    fits_here = measure_of_fits (direction_at w d i) (direction_at w d j)

    pair_key : (node w d).key i j ≡ key (between w d i j)
    pair_key = key_in w d long i j ok.row j<d ∙ key_of_measure (direction_at w d i) (direction_at w d j)

    number : T (not (is_nan near.measure))
    number = le_num_l near.measure unity s.top

    walk_pass : better (node w d) (key limit) (used_in w d) i j (seen i near) ≡ seen i near → Walk w d limit i near (j + 1)
    walk_pass e =
        record {
          so_far = rw e at (row_next (node w d) (key limit) (used_in w d) i j s.beyond (omega (arith, ends_are)) (seen i near) s.so_far);
          unmet = s.unmet;
          met = s.met;
          top = s.top;
          fitting = s.fitting;
          beyond = omega (arith, s.beyond);
          within = omega arith;
        }

    partnered : {k : ℕ} → near.partner ≡ Some k → unwrap_or near.partner 0 ≡ 0 → ⊥
    partnered {k} e z = omega (arith, s.met k e, ap (λ (o : Option ℕ). unwrap_or o 0) e)

    pub walk_marked : (mark_at w d j ≡ 0 → ⊥) → Walk w d limit i near (j + 1)
    unfolding busy
    walk_marked h =
        walk_pass (passed_busy (node w d) (key limit) (used_in w d) i j (seen i near) (rw (used_marked w d j j<d h) (or-true (used_in w d i))))

    pub walk_farther : closer_to near (between w d i j) ≡ false → Walk w d limit i near (j + 1)
    unfolding below_of qualifies
    walk_farther h = walk_pass (go near.partner refl h)
      where
        go : (t : Option ℕ) → near.partner ≡ t → below_of t (between w d i j) near.measure ≡ false → better (node w d) (key limit) (used_in w d) i j (seen i near) ≡ seen i near
        go None e f =
            passed_shut (node w d) (key limit) (used_in w d) i j (seen i near)
            (ap (λ (t : Bool). (node w d).may i j && t) (over f) ∙ and-false ((node w d).may i j))
          where
            over : le (between w d i j) near.measure ≡ false → leb ((node w d).key i j) (key limit) ≡ false
            over f =
                ap₂ leb pair_key (ap key (sym (s.unmet e)))
                ∙ sym (key_le_is (between w d i j) near.measure fits_here s.fitting number)
                ∙ f
        go (Some k) e f =
            passed_far (node w d) (key limit) (used_in w d) i j (seen i near) (partnered e)
            (ap (λ (k : ℕ). ltb k (key near.measure)) pair_key
            ∙ sym (key_lt_is (between w d i j) near.measure fits_here s.fitting number)
            ∙ f)

    pub walk_same : piece_at w d j ≡ piece_at w d i → Walk w d limit i near (j + 1)
    unfolding qualifies
    walk_same h =
        walk_pass
        (passed_shut (node w d) (key limit) (used_in w d) i j (seen i near)
        (rw (may_in w d long i j ok.row j<d, eq-eqb (piece_at w d i) (piece_at w d j) (sym h), and-false (there (direction_at w d j)), and-false (there (direction_at w d i)))))

    pub walk_nearer : mark_at w d i ≡ 0 → mark_at w d j ≡ 0 → closer_to near (between w d i j) ≡ true → (piece_at w d j ≡ piece_at w d i → ⊥)
        → Walk w d limit i (record { measure = between w d i j; partner = Some j }) (j + 1)
    unfolding below_of qualifies busy
    walk_nearer free_i free_j h apart =
        record {
          so_far = rw (is near.partner refl h ∙ (λ t. record { key = pair_key t; i = i; j = j }))
              at (row_next (node w d) (key limit) (used_in w d) i j s.beyond (omega (arith, ends_are)) (seen i near) s.so_far);
          unmet = λ e. cc;
          met = λ k e. omega (arith, s.beyond, ap (λ (o : Option ℕ). unwrap_or o 0) e);
          top = trans (between w d i j) near.measure unity (held low) s.top;
          fitting = fits_here;
          beyond = omega (arith, s.beyond);
          within = omega arith;
        }
      where
        at_or_below : (t : Option ℕ) → below_of t (between w d i j) near.measure ≡ true → le (between w d i j) near.measure ≡ true
        at_or_below None e = e
        at_or_below (Some k) e = holds (le (between w d i j) near.measure) (lt_to_le (between w d i j) near.measure (held e))

        low : le (between w d i j) near.measure ≡ true
        low = at_or_below near.partner h

        -- what is near is at or below the limit
        near_low : (t : Option ℕ) → near.partner ≡ t → key near.measure ≤ key limit
        near_low None e = omega (arith, ap key (s.unmet e))
        near_low (Some k) e =
            leb-true (key near.measure) (key limit)
            (and_right ((node w d).may i (unwrap_or near.partner 0)) (leb (key near.measure) (key limit)) (s.so_far.opened (omega (arith, partnered e))).ok)

        keys : key (between w d i j) ≤ key near.measure
        keys = leb-true (key (between w d i j)) (key near.measure) (sym (key_le_is (between w d i j) near.measure fits_here s.fitting number) ∙ low)

        there_at : (e : ℕ) → e < d → mark_at w d e ≡ 0 → there (direction_at w d e) ≡ true
        there_at e g f = numbered_there (direction_at w d e) (ok.free e g f)

        may : (node w d).may i j ≡ true
        may =
            may_in w d long i j ok.row j<d
            ∙ rw (there_at i ok.row free_i, there_at j j<d free_j, ne_eqb (piece_at w d i) (piece_at w d j) (λ e. apart (sym e)))

        qualified : qualifies (node w d) (key limit) (pair_at (node w d) i j) ≡ true
        qualified = rw (may, pair_key, le-leb (key (between w d i j)) (key limit) (omega (arith, keys, near_low near.partner refl)))

        free : busy (used_in w d) (pair_at (node w d) i j) ≡ false
        free = rw (used_free w d i ok.row free_i, used_free w d j j<d free_j)

        is : (t : Option ℕ) → near.partner ≡ t → below_of t (between w d i j) near.measure ≡ true
            → better (node w d) (key limit) (used_in w d) i j (seen i near) ≡ pair_at (node w d) i j
        is None e f = better_first (node w d) (key limit) (used_in w d) i j (seen i near) free qualified (ap (λ (o : Option ℕ). unwrap_or o 0) e)
        is (Some k) e f =
            better_next (node w d) (key limit) (used_in w d) i j (seen i near) free qualified
            (ap (λ (k : ℕ). ltb k (key near.measure)) pair_key
            ∙ sym (key_lt_is (between w d i j) near.measure fits_here s.fitting number)
            ∙ f)

    -- the same, where the measure is told
    pub walk_nearer_at : {m : Float} → m ≡ between w d i j → mark_at w d i ≡ 0 → mark_at w d j ≡ 0 → closer_to near m ≡ true → (piece_at w d j ≡ piece_at w d i → ⊥)
        → Walk w d limit i (record { measure = m; partner = Some j }) (j + 1)
    walk_nearer_at e free_i free_j h apart = rw e (walk_nearer free_i free_j (ap (closer_to near) (sym e) ∙ h) apart)

-- ---- the end of the walk

-- where no pair of the row is free, it holds none
none_held : (w : List ℕ) (d : ℕ) (limit : Float) (i : ℕ)
    → ((q : RankedPair) → In q (candidates (node w d) (key limit)) → busy (used_in w d) q ≡ false → q.i ≡ i → ⊥)
    → First w d limit i (held_words None)
none_held w d limit i h =
    record {
      pair = record {
        nothing = λ _ q m b o. h q m b o;
        member = λ e. absurd (omega arith);
        free = λ e. absurd (omega arith);
        here = λ e. absurd (omega arith);
        first = λ e. absurd (omega arith);
      };
      none = λ _. refl;
    }

module _ (w : List ℕ) (d : ℕ) (limit : Float) (i : ℕ) (near : Near) where
  first_held : ((j : ℕ) → near.partner ≡ Some j → i < j) → IsFirst (node w d) (key limit) (used_in w d) i (seen i near) → First w d limit i (held_of near)
  first_held met f = go near.partner refl
    where
      go : (t : Option ℕ) → near.partner ≡ t → First w d limit i (held_by t (key near.measure))
      go None e = none_held w d limit i (f.nothing (ap (λ (o : Option ℕ). unwrap_or o 0) e))
      go (Some j) e =
          record {
            pair = subst (λ (o : Option ℕ). IsFirst (node w d) (key limit) (used_in w d) i (record { key = key near.measure; i = i; j = unwrap_or o 0 })) e f;
            none = λ h. absurd (omega (arith, met j e));
          }

  module _ (ok : RowReady w d limit i) where
    -- the row is passed
    pub walk_done : (next : ℕ) → Walk w d limit i near next → d ≤ next → First w d limit i (held_of near)
    walk_done next s h =
        first_held s.met (row_done (node w d) (key limit) (used_in w d) i next (seen i near) (omega (arith, ends_in_length w d (omega (arith, ok.room.long)))) s.so_far)

    -- what is near is at -1
    pub walk_least : (next : ℕ) → Walk w d limit i near next → 0 < unwrap_or near.partner 0 → le near.measure minus_unity ≡ true → First w d limit i (held_of near)
    walk_least next s g h =
        first_held s.met
        (record {
          nothing = λ e. absurd (omega arith);
          member = λ e. member_of (node w d) (key limit) (used_in w d) (seen i near) (s.so_far.opened e);
          free = λ e. (s.so_far.opened e).free;
          here = λ e. refl;
          first = λ e q m b o. later q m b o (three q.j next);
        })
      where
        keyed : (q : RankedPair) → In q (candidates (node w d) (key limit)) → key near.measure ≤ q.key
        keyed q m =
            let t = (in_candidates (node w d) (key limit) q m).0 in
            let l = ends_in_length w d (omega (arith, ok.room.long)) in
            omega (
              arith,
              t.keyed,
              key_in w d (omega (arith, ok.room.long)) q.i q.j (omega (arith, t.lower, t.below, l)) (omega (arith, t.below, l)),
              key_of_measure (direction_at w d q.i) (direction_at w d q.j),
              least_measure near.measure s.fitting h (direction_at w d q.i) (direction_at w d q.j),
            )

        after : (q : RankedPair) → q.i ≡ i → next ≤ q.j → key near.measure ≤ q.key → before q (seen i near) ≡ false
        after q o k e = of_at_before (seen i near) q (⊎_elim (λ (a : key near.measure < q.key). inl a) (λ (a : key near.measure ≡ q.key). inr (a, inr (sym o, omega (arith, (s.so_far.seen g).1)))) (less_or_level e))

        later : (q : RankedPair) → In q (candidates (node w d) (key limit)) → busy (used_in w d) q ≡ false → q.i ≡ i → Three q.j next → before q (seen i near) ≡ false
        later q m b o (inl k) = s.so_far.first g q (open_of (node w d) (key limit) (used_in w d) q m b) (o, k)
        later q m b o (inr (inl k)) = after q o (omega arith) (keyed q m)
        later q m b o (inr (inr k)) = after q o (omega arith) (keyed q m)

-- a marked end has no free pair
pub walk_none : (w : List ℕ) (d : ℕ) (limit : Float) (i : ℕ) → i < d → (mark_at w d i ≡ 0 → ⊥) → First w d limit i (held_words None)
walk_none w d limit i i<d h = none_held w d limit i (λ q m b o. row_taken (used_in w d) (candidates (node w d) (key limit)) i (used_marked w d i i<d h) q m b o)
