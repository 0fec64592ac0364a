-- The pairs of a junction by name: places of the node's list, selected and then named, are the book's selected pairs of the node's ends.
use Prim.Native.Nat.{ℕ, zero, suc, ◌+◌, ◌*◌, ◌≤◌, ◌<◌}
use mathlib.Core.Path.{◌≡◌, refl, sym, ap, ap₂, ◌∙◌}
use mathlib.Core.Logic.{inl, inr}
use mathlib.Core.Bool.{not, ◌&&◌}
use mathlib.Core.List.{List, [], ◌∷◌, map}
use native.Mathlib.Omega.{arith}
use native.Mathlib.Decide.{dec_lt}
use lib.Dec.{T, eqb}
use lib.Ieee.{Float, binary64, is_nan, fits}
use lib.ListN.{length, get_or, length-map, get_or-eq_default}
use Rattle.rules.specs.Answers.{Absent}
use Rattle.rules.specs.Selecting.{End, Pair, select}
use Rattle.rules.specs.Chaining.{Piece, Rule, run, end_at}
use Rattle.rules.specs.Plane.{direction_of}
use Rattle.rules.specs.Walking.{piece_of}
use Rattle.float_order.specs.Key.{key}
use Rattle.pair_laws.specs.Ranked as ranked
use Rattle.pair_laws.specs.Sets.{In}
use Rattle.pair_laws.specs.Taking.{listed}
use Rattle.pair_laws.specs.Ends.{end_at as at, name_at, there, key_of, node_of, ByName, sides_by}
use Rattle.pair_laws.proofs.Lists.{map_same}
use Rattle.pair_laws.proofs.Laws.{select_settled, in_candidates}
use Rattle.pair_laws.proofs.Names.{select_named}
use Rattle.chain_laws.proofs.Kept.{Up, stop, then}
use Rattle.chain_joins.specs.Node.{named_pairs}

-- ---- rising lists

first_least : (b : ℕ) (l : List ℕ) (i : ℕ) → Up b l → i < length l → b ≤ get_or l i 0
first_least b l i stop h = absurd (omega arith)
first_least b l zero (then u v) h = u
first_least b l (suc i) (then {a = a} {l = l'} u v) h = omega (arith, first_least (suc a) l' i v (omega arith))

pub up_rises : (b : ℕ) (l : List ℕ) (i j : ℕ) → Up b l → i < j → j < length l → get_or l i 0 < get_or l j 0
up_rises b l i j stop h k = absurd (omega arith)
up_rises b l i zero (then u v) h k = absurd (omega arith)
up_rises b l zero (suc j) (then {a = a} {l = l'} u v) h k = omega (arith, first_least (suc a) l' j v (omega arith))
up_rises b l (suc i) (suc j) (then {a = a} {l = l'} u v) h k = up_rises (suc a) l' i j v (omega arith) (omega arith)

-- ---- the ends of a node's list

module _ (rule : Rule) (ps : List Piece) (l : List ℕ) where
  abbrev pub ends : List End
  ends = map (end_at rule ps) l

  at_in : (i : ℕ) → i < length l → at ends i ≡ end_at rule ps (get_or l i 0)
  at_in i h = in_map l i h
    where
      in_map : (x : List ℕ) (k : ℕ) → k < length x → at (map (end_at rule ps) x) k ≡ end_at rule ps (get_or x k 0)
      in_map [] k c = absurd (omega arith)
      in_map (a ∷ x) zero c = refl
      in_map (a ∷ x) (suc k) c = in_map x k (omega arith)

  pub name_in : (i : ℕ) → i < length l → name_at ends i ≡ get_or l i 0
  unfolding end_at
  name_in i h = ap (λ (e : End). e.name) (at_in i h)

  pub by_name : Up 0 l → ByName ends
  by_name u =
      record {
        rises = λ a b h k.
            let n = length-map l (end_at rule ps) in
            omega (arith, name_in a (omega arith), name_in b (omega arith), up_rises 0 l a b u h (omega arith));
      }

  -- a list of ends with the same pieces and directions makes the same node
  module _ (o : List End) (size : length o ≡ length l)
      (piece : (i : ℕ) → i < length l → (at o i).piece ≡ piece_of (get_or l i 0))
      (direction : (i : ℕ) → i < length l → (at o i).direction ≡ direction_of (run rule ps (get_or l i 0))) where
    none_o : (i : ℕ) → length l ≤ i → at o i ≡ record { name = 0; piece = 0; direction = Absent }
    none_o i h = get_or-eq_default o (record { name = 0; piece = 0; direction = Absent }) {n = i} (omega arith)

    none_l : (i : ℕ) → length l ≤ i → at ends i ≡ record { name = 0; piece = 0; direction = Absent }
    none_l i h = get_or-eq_default ends (record { name = 0; piece = 0; direction = Absent }) {n = i} (omega (arith, length-map l (end_at rule ps)))

    piece_same : (i : ℕ) → (at o i).piece ≡ (at ends i).piece
    unfolding end_at
    piece_same i =
        elim (dec_lt i (length l)) [
          | yes h ↦ piece i h ∙ sym (ap (λ (e : End). e.piece) (at_in i h))
          | no h ↦ ap (λ (e : End). e.piece) (none_o i (omega arith) ∙ sym (none_l i (omega arith)))
        ]

    direction_same : (i : ℕ) → (at o i).direction ≡ (at ends i).direction
    unfolding end_at
    direction_same i =
        elim (dec_lt i (length l)) [
          | yes h ↦ direction i h ∙ sym (ap (λ (e : End). e.direction) (at_in i h))
          | no h ↦ ap (λ (e : End). e.direction) (none_o i (omega arith) ∙ sym (none_l i (omega arith)))
        ]

    pub node_same : node_of o ≡ node_of ends
    node_same =
        λ t. record {
          d = (size ∙ sym (length-map l (end_at rule ps))) t;
          may = λ i j. there (direction_same i t) && (there (direction_same j t) && not (eqb (piece_same i t) (piece_same j t)));
          key = λ i j. key_of (direction_same i t) (direction_same j t);
        }

-- ---- pairs of places, read and named

pub places_below : (d : ℕ) (s : List ranked.RankedPair) → ((q : ranked.RankedPair) → In q s → (q.i < d) × (q.j < d)) → (k : ℕ) → k < length s * 2 → get_or (listed s) k 0 < d
unfolding listed
places_below d [] h k b = absurd (omega arith)
places_below d (q ∷ s) h zero b = (h q (inl refl)).0
places_below d (q ∷ s) h (suc zero) b = (h q (inl refl)).1
places_below d (q ∷ s) h (suc (suc k)) b = places_below d s (λ p m. h p (inr m)) k (omega arith)

-- the words from `pairs` on are the pairs s
pub pairs_named : (w : List ℕ) (list pairs : ℕ) (s : List ranked.RankedPair) → ((k : ℕ) → k < length s * 2 → get_or w (pairs + k) 0 ≡ get_or (listed s) k 0)
    → named_pairs w list pairs (length s) ≡ map (sides_by (λ i. get_or w (list + i) 0)) s
unfolding named_pairs listed
pairs_named w list pairs [] h = refl
pairs_named w list pairs (q ∷ s) h =
    let a : pairs + 0 ≡ pairs = omega arith in
    ap₂ {C = List (ℕ × ℕ)} (λ (p : ℕ × ℕ) (l : List (ℕ × ℕ)). p ∷ l)
    (λ t. (get_or w (list + (ap (λ (i : ℕ). get_or w i 0) (sym a) ∙ h 0 (omega arith)) t) 0, get_or w (list + h 1 (omega arith) t) 0))
    (pairs_named w list (pairs + 2) s (λ k b.
    let p : pairs + 2 + k ≡ pairs + suc (suc k) = omega arith in
    ap (λ (i : ℕ). get_or w i 0) p ∙ h (suc (suc k)) (omega arith)))

-- ---- the selection

module _ (rule : Rule) (ps : List Piece) (limit : Float) (fitting : T (fits binary64 limit)) (number : T (not (is_nan limit))) (l : List ℕ) (u : Up 0 l) where
  -- selected places are places of the list
  pub inside : (q : ranked.RankedPair) → In q (ranked.select (node_of (map (end_at rule ps) l)) (key limit)) → (q.i < length l) × (q.j < length l)
  inside q m =
      let n = node_of (map (end_at rule ps) l) in
      let e = (in_candidates n (key limit) q ((select_settled n (key limit)).within q m)).0 in
      let z = length-map l (end_at rule ps) in
      (omega (arith, e.lower, e.below, z), omega (arith, e.below, z))

  -- and by their names they are the book's pairs
  pub selected_named : (name : ℕ → ℕ) → ((i : ℕ) → i < length l → name i ≡ get_or l i 0)
      → map (sides_by name) (ranked.select (node_of (map (end_at rule ps) l)) (key limit)) ≡ map (λ (p : Pair). (p.i, p.j)) (select limit (map (end_at rule ps) l))
  selected_named name h =
      map_same (sides_by name) (sides_by (name_at (map (end_at rule ps) l))) (ranked.select (node_of (map (end_at rule ps) l)) (key limit))
      (λ q m. let c = inside q m in
      λ t. ((h q.i c.0 ∙ sym (name_in rule ps l q.i c.0)) t, (h q.j c.1 ∙ sym (name_in rule ps l q.j c.1)) t))
      ∙ sym (select_named limit fitting number (map (end_at rule ps) l) (by_name rule ps l u))
