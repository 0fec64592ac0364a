-- The search compares keys, and the book measures: where the ends are named by their places, an end's first pair by keys is its first pair in the book, since the
-- same pairs qualify in both, and measures that are numbers are in the order of their keys.
use Prim.Native.Nat.{ℕ}
use mathlib.Core.Path.{◌≡◌, sym, ◌∙◌, subst}
use mathlib.Core.Bool.{Bool, false}
use mathlib.Core.List.{List}
use lib.Ieee.{Float}
use Rattle.rules.specs.Selecting.{End, Pair, qualifying, before}
use Rattle.pair_laws.specs.Ranked.{RankedPair, candidates, busy}
use Rattle.pair_laws.specs.Ranked as ranked
use Rattle.pair_laws.specs.Sets.{In, EndOf}
use Rattle.pair_laws.specs.Ends.{node_of, keyed, ByPlace}
use Rattle.pair_laws.proofs.Lists.{in_map, map_in}
use Rattle.pair_laws.proofs.Qualifying.{qualifying_measured}
use Rattle.pair_laws.proofs.Keyed.{before_keyed}
use Rattle.pair_laws.proofs.Bridge.{candidate, candidate_qualifies}
use Rattle.pair_index.specs.Index.{FirstPair, RankedFirst, KeyOf}

module _ {limit : Float} {k : ℕ} (y : KeyOf limit k) {l : List End} (placed : ByPlace l) where
  -- a qualifying pair is a candidate, by its key, and each candidate is one
  to_candidate : (q : Pair) → In q (qualifying limit l) → In (keyed q) (candidates (node_of l) k)
  to_candidate q h =
      subst (λ (x : ℕ). In (keyed q) (candidates (node_of l) x)) y.is
      (candidate limit y.fitting y.number l placed (keyed q) (map_in keyed q (qualifying limit l) h))

  of_candidate : (q : RankedPair) → In q (candidates (node_of l) k) → (p : Pair) × In p (qualifying limit l) × (q ≡ keyed p)
  of_candidate q h =
      in_map keyed q (qualifying limit l)
      (candidate_qualifies limit y.fitting y.number l placed q (subst (λ (x : ℕ). In q (candidates (node_of l) x)) (sym y.is) h))

  order_same : (q p : Pair) → In q (qualifying limit l) → In p (qualifying limit l) → before q p ≡ ranked.before (keyed q) (keyed p)
  order_same q p h g = before_keyed q p (qualifying_measured limit l q h) (qualifying_measured limit l p g)

  module _ {used : ℕ → Bool} {o : ℕ} {b : RankedPair} where
    pub to_book : RankedFirst (node_of l) k used o b → FirstPair limit l used o b
    unfolding busy
    to_book r =
        record {
          nothing = λ z q h f. r.nothing z (keyed q) (to_candidate q h) f.1 f.0;
          found =
              λ z.
              let t = of_candidate b (r.member z) in (
                t.0,
                sym t.2,
                t.1,
                (subst (EndOf o) t.2 (r.owned z), subst (λ (p : RankedPair). busy used p ≡ false) t.2 (r.free z)),
                λ q h f.
                    order_same q t.0 h t.1
                    ∙ subst (λ (p : RankedPair). ranked.before (keyed q) p ≡ false) t.2 (r.first z (keyed q) (to_candidate q h) f.1 f.0),
              );
        }

    pub from_book : FirstPair limit l used o b → RankedFirst (node_of l) k used o b
    unfolding busy
    from_book r =
        record {
          nothing =
              λ z q h f e.
              let t = of_candidate q h in
              r.nothing z t.0 t.1 (subst (EndOf o) t.2 e, subst (λ (p : RankedPair). busy used p ≡ false) t.2 f);
          member = λ z. let t = r.found z in subst (λ (p : RankedPair). In p (candidates (node_of l) k)) t.1 (to_candidate t.0 t.2);
          free = λ z. let t = r.found z in subst (λ (p : RankedPair). busy used p ≡ false) t.1 t.3.1;
          owned = λ z. let t = r.found z in subst (EndOf o) t.1 t.3.0;
          first =
              λ z q h f e.
              let t = r.found z in
              let s = of_candidate q h in
              subst (λ (p : RankedPair). ranked.before q p ≡ false) t.1
              (subst (λ (p : RankedPair). ranked.before p (keyed t.0) ≡ false) (sym s.2)
              (sym (order_same s.0 t.0 s.1 t.2)
              ∙ t.4 s.0 s.1 (subst (EndOf o) s.2 e, subst (λ (p : RankedPair). busy used p ≡ false) s.2 f)));
        }
