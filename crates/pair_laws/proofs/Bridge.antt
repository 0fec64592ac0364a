-- The bridge: where the ends are named by their places, the book's selection with each measure replaced by its key is the ranked selection of
-- their node, under the limit's key. Both take, in the same order, what qualifies, and the same pairs qualify in both: a measure is at or below
-- the limit exactly if its key is at or below the limit's, and the key of a NaN is above every limit's.
use Prim.Native.Nat.{ℕ, ◌<◌}
use mathlib.Core.Path.{◌≡◌, refl, sym, ◌∙◌, ap, ap₂, subst}
use mathlib.Core.Bool.{true, false, not, ◌&&◌}
use mathlib.Core.List.{List, [], ◌∷◌, map, flat_map}
use native.Mathlib.Omega.{arith}
use lib.ListN.{length, length-map}
use lib.Dec.{T, eqb, leb}
use lib.Ieee.{Float, binary64, le, is_nan, fits}
use borrow.Author.Tests.{not-true}
use Rattle.rules.specs.Answers.{Direction}
use Rattle.rules.specs.Answers.{Absent, Toward}
use Rattle.rules.specs.Plane.{measure}
use Rattle.rules.specs.Selecting.{End, Pair, within, pair, qualifying, select}
use Rattle.rules.specs.Layout.{listed}
use Rattle.float_order.specs.Key.{key}
use Rattle.float_order.proofs.Keys.{key_le_is}
use Rattle.float_order.proofs.Dot.{measure_fits}
use Rattle.pair_laws.specs.Ranked as ranked
use Rattle.pair_laws.specs.Ranked.{qualifies, candidates}
use Rattle.pair_laws.specs.Sets.{In, PairEnds}
use Rattle.pair_laws.specs.Taking as taking
use Rattle.pair_laws.specs.Ends.{end_at, name_at, there, key_of, node_of, ByPlace, keyed}
use Rattle.pair_laws.proofs.Order.{tf, and_left, and_right}
use Rattle.pair_laws.proofs.Lists.{in_map, map_in}
use Rattle.pair_laws.proofs.Laws.{in_candidates, candidates_in, same_taken}
use Rattle.pair_laws.proofs.Qualifying.{Within, in_pair, pair_is, within_in, in_qualifying, qualifying_in}
use Rattle.pair_laws.proofs.Keyed.{select_keyed}

-- a direction that is present
toward_there : (x y : Float) → there (Toward x y) ≡ true
unfolding there
toward_there x y = refl

there_toward : (d : Direction) → there d ≡ true → (x y : Float) × (d ≡ Toward x y)
unfolding there
there_toward Absent h = absurd (tf h refl)
there_toward (Toward x y) h = (x, y, refl)

key_toward : (ax ay bx by : Float) → key_of (Toward ax ay) (Toward bx by) ≡ key (measure ax ay bx by)
unfolding key_of
key_toward ax ay bx by = refl

-- two numbers per pair, with keys or with measures
pub listed_keyed : (l : List Pair) → listed l ≡ taking.listed (map keyed l)
unfolding listed taking.listed flat_map
listed_keyed [] = refl
listed_keyed (p ∷ l) = ap (λ (m : List ℕ). p.i ∷ p.j ∷ m) (listed_keyed l)

-- the ends at two places face each other: both have a direction
record Facing (ends : List End) (i j : ℕ) : Type 0 where
  ax : Float
  ay : Float
  bx : Float
  by : Float
  from : (end_at ends i).direction ≡ Toward ax ay
  to : (end_at ends j).direction ≡ Toward bx by

size : {ends : List End} {i j : ℕ} → Facing ends i j → Float
size f = measure f.ax f.ay f.bx f.by

module _ (limit : Float) (fitting : T (fits binary64 limit)) (number : T (not (is_nan limit))) (ends : List End) where
  -- the node has the measure's key, and admits the pair where the pieces differ; the limit's key decides as the limit does
  module _ (i j : ℕ) (f : Facing ends i j) where
    key_at_lem : (node_of ends).key i j ≡ key (size f)
    unfolding size
    key_at_lem = ap₂ key_of f.from f.to ∙ key_toward f.ax f.ay f.bx f.by

    may_at : eqb (end_at ends i).piece (end_at ends j).piece ≡ false → (node_of ends).may i j ≡ true
    may_at e = rw (f.from, f.to, toward_there f.ax f.ay, toward_there f.bx f.by, e)

    low_is : le (size f) limit ≡ leb (key (size f)) (key limit)
    unfolding size
    low_is = key_le_is (size f) limit (measure_fits f.ax f.ay f.bx f.by) fitting number

  module _ (b : ByPlace ends) where
    pub candidate : (q : ranked.RankedPair) → In q (map keyed (qualifying limit ends)) → In q (candidates (node_of ends) (key limit))
    unfolding size
    candidate q h = subst (λ (p : ranked.RankedPair). In p (candidates (node_of ends) (key limit))) (sym is) member
      where
        t : (p : Pair) × In p (qualifying limit ends) × (q ≡ keyed p)
        t = in_map keyed q (qualifying limit ends) h

        s : (i j : ℕ) × (i < j) × (j < length ends) × In t.0 (pair limit (end_at ends i) (end_at ends j))
        s = in_qualifying limit t.0 ends t.1

        w : (eqb (end_at ends s.0).piece (end_at ends s.1).piece ≡ false)
            × Within limit (name_at ends s.0) (name_at ends s.1) (end_at ends s.0).direction (end_at ends s.1).direction t.0
        w = in_pair limit (end_at ends s.0) (end_at ends s.1) t.0 s.4

        f : Facing ends s.0 s.1
        f = record { ax = w.1.ax; ay = w.1.ay; bx = w.1.bx; by = w.1.by; from = w.1.from; to = w.1.to }

        it : ranked.RankedPair
        it = record { key = key (size f); i = s.0; j = s.1 }

        is : q ≡ it
        is =
            t.2
            ∙ ap keyed w.1.is
            ∙ (λ x. record { key = key (size f); i = b.placed s.0 (omega (arith, s.2, s.3)) x; j = b.placed s.1 s.3 x })

        ok : qualifies (node_of ends) (key limit) it ≡ true
        ok = unfold qualifies in rw (may_at s.0 s.1 f w.0) (sym (low_is s.0 s.1 f) ∙ w.1.low)

        member : In it (candidates (node_of ends) (key limit))
        member = candidates_in (node_of ends) (key limit) it (record { lower = s.2; below = s.3; keyed = sym (key_at_lem s.0 s.1 f) }) ok

    pub candidate_qualifies : (q : ranked.RankedPair) → In q (candidates (node_of ends) (key limit)) → In q (map keyed (qualifying limit ends))
    unfolding qualifies size
    candidate_qualifies q h = subst (λ (p : ranked.RankedPair). In p (map keyed (qualifying limit ends))) is (map_in keyed it (qualifying limit ends) member)
      where
        e : PairEnds (node_of ends).key (length ends) q
        e = (in_candidates (node_of ends) (key limit) q h).0

        ok : ((node_of ends).may q.i q.j && leb q.key (key limit)) ≡ true
        ok = (in_candidates (node_of ends) (key limit) q h).1

        a : End
        a = end_at ends q.i

        z : End
        z = end_at ends q.j

        may : (node_of ends).may q.i q.j ≡ true
        may = and_left ((node_of ends).may q.i q.j) (leb q.key (key limit)) ok

        rest : (there z.direction && not (eqb a.piece z.piece)) ≡ true
        rest = and_right (there a.direction) _ may

        f : Facing ends q.i q.j
        f =
            let from = there_toward a.direction (and_left (there a.direction) _ may) in
            let to = there_toward z.direction (and_left (there z.direction) _ rest) in
            record { ax = from.0; ay = from.1; bx = to.0; by = to.1; from = from.2; to = to.2 }

        it : Pair
        it = record { size = size f; i = a.name; j = z.name }

        key_is : q.key ≡ key (size f)
        key_is = e.keyed ∙ key_at_lem q.i q.j f

        low : le (size f) limit ≡ true
        low =
            low_is q.i q.j f
            ∙ ap (λ (k : ℕ). leb k (key limit)) (sym key_is)
            ∙ and_right ((node_of ends).may q.i q.j) (leb q.key (key limit)) ok

        apart : eqb a.piece z.piece ≡ false
        apart = not-true (eqb a.piece z.piece) (and_right (there z.direction) _ rest)

        member : In it (qualifying limit ends)
        member =
            qualifying_in limit it ends q.i q.j e.lower e.below
            (subst (In it) (sym (pair_is limit a z apart ∙ ap₂ (within limit a.name z.name) f.from f.to))
            (within_in limit a.name z.name f.ax f.ay f.bx f.by low))

        is : keyed it ≡ q
        is = λ x. record { key = sym key_is x; i = b.placed q.i (omega (arith, e.lower, e.below)) x; j = b.placed q.j e.below x }

    pub select_ranked : map keyed (select limit ends) ≡ ranked.select (node_of ends) (key limit)
    unfolding ranked.select ranked.select_from
    select_ranked =
        select_keyed limit ends
        ∙ same_taken (map keyed (qualifying limit ends)) (candidates (node_of ends) (key limit)) candidate candidate_qualifies

    pub select_count : length (select limit ends) ≡ length (ranked.select (node_of ends) (key limit))
    select_count = sym (length-map (select limit ends) keyed) ∙ ap length select_ranked

    pub select_listed : listed (select limit ends) ≡ taking.listed (ranked.select (node_of ends) (key limit))
    select_listed = listed_keyed (select limit ends) ∙ ap taking.listed select_ranked
