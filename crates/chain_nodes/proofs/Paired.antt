-- A junction: its ends are listed, put before the pairing, paired, and the pairs joined. Each step leaves the pieces, the groups and the other joins as they
-- were, and the pairs are those that the book selects.
use Prim.Native.Nat.{ℕ, zero, suc, ◌+◌, ◌-◌, ◌*◌, ◌/◌, ◌%◌, ◌≤◌, ◌<◌, zero-le}
use mathlib.Core.Path.{◌≡◌, refl, sym, ap, ap₂, ◌∙◌}
use mathlib.Core.Bool.{Bool, true, false, not}
use mathlib.Core.List.{List, ◌∷◌, map}
use mathlib.Core.Option.{Option}
use native.Mathlib.Omega.{arith}
use lib.Dec.{T}
use lib.Ieee.{Float, binary64, is_nan, fits}
use lib.ListN.{length, get_or, drop, length-drop}
use lib.Seq.{slice, get_or-drop}
use borrow.Rule.Slice.PartMut.{mid_of, put_mid}
use Rattle.std.specs.Prelude.{Some}
use Rattle.rules.specs.Lists.{keep, from, upto}
use Rattle.rules.specs.Plane.{Point, direction_of}
use Rattle.rules.specs.Selecting.{Pair, select}
use Rattle.rules.specs.Chaining.{Piece, Rule, piece_at, run, end_at, chosen, joined}
use Rattle.rules.specs.Refusals.{end_room}
use Rattle.float_order.specs.Key.{key}
use Rattle.pair_laws.specs.Ranked as ranked
use Rattle.pair_laws.specs.Ranked.{Node}
use Rattle.pair_laws.specs.Taking.{listed}
use Rattle.pair_laws.specs.Ends.{node_of as ranked_of, end_at as paired_at}
use Rattle.pair_laws.specs.Owners.{AtMostTwice}
use Rattle.pair_laws.proofs.Room.{ranked_room}
use Rattle.pair_laws.proofs.Refusals.{limit_number}
use Rattle.chain_laws.specs.Table.{fill}
use Rattle.chain_laws.proofs.Kept.{keep_yes, keep_no, Up, up_keep, up_upto}
use Rattle.point_direction.specs.Seen.{seen}
use Rattle.point_slices.specs.Holds.{HoldsFrom}
use Rattle.point_slices.proofs.Laws.{mid_rest, from_length, from_below, from_beyond, from_part}
use Rattle.chain_pieces.specs.Held.{Held}
use Rattle.chain_pieces.proofs.Reading.{recorded, points_are, get_d_part}
use Rattle.pair_ends.specs.Ends.{EndsRoom, direction_at, ends_in, Selected}
use Rattle.pair_ends.specs.Ends as paired
use Rattle.pair_ends.proofs.Reading.{ends_in_length, ends_in_at}
use Rattle.chain_junctions.specs.Junction.{way_at, EndsPut}
use Rattle.chain_junctions.specs.Junction as junction
use Rattle.chain_junctions.proofs.Laws.{back_drop, back_front, back_length}
use Rattle.chain_grouping.specs.Group.{same_words, words_of}
use Rattle.chain_joins.specs.Node.{node_of, named_pairs, NodeListable, Puttable}
use Rattle.chain_joins.proofs.Cases.{node_many, joined_many}
use Rattle.chain_joins.proofs.Regions.{slice_same}
use Rattle.chain_nodes.specs.Noded.{Noded, Junction, Joined}
use Rattle.chain_nodes.proofs.Frames.{held_same, ends_few, joined_put}
use Rattle.chain_nodes.proofs.Steps.{word}
use Rattle.chain_nodes.proofs.Named.{up_rises, node_same, places_below, pairs_named, inside, selected_named}
use Rattle.chain_grouping.specs.Map.{last_block, next_block}
use Rattle.chain_pieces.specs.Map.{group_block, join_block, node_block, pair_block, taken_block}
use Rattle.pair_ends.specs.Blocks.{pairs_from}

-- ---- kept numbers

kept_few : (t : ℕ → Bool) (a n : ℕ) → length (keep t (from a n)) ≤ n
unfolding keep from
kept_few t a zero = zero-le
kept_few t a (suc n) = go (t a) refl (kept_few t (suc a) n)
  where
    go : (b : Bool) → t a ≡ b → length (keep t (from (suc a) n)) ≤ n → length (keep t (a ∷ from (suc a) n)) ≤ suc n
    go true e h = rw (keep_yes t a (from (suc a) n) e) (omega arith)
    go false e h = rw (keep_no t a (from (suc a) n) e) (omega arith)

kept_below : (t : ℕ → Bool) (a n i : ℕ) → i < length (keep t (from a n)) → get_or (keep t (from a n)) i 0 < a + n
unfolding keep from
kept_below t a zero i h = absurd (omega arith)
kept_below t a (suc n) i h = go (t a) refl i h (λ k c. kept_below t (suc a) n k c)
  where
    go : (b : Bool) → t a ≡ b → (i : ℕ) → i < length (keep t (a ∷ from (suc a) n))
        → ((k : ℕ) → k < length (keep t (from (suc a) n)) → get_or (keep t (from (suc a) n)) k 0 < suc a + n)
        → get_or (keep t (a ∷ from (suc a) n)) i 0 < a + suc n
    go true e zero c rec = rw (keep_yes t a (from (suc a) n) e) (omega arith)
    go true e (suc k) c rec =
        let s = keep_yes t a (from (suc a) n) e in
        rw s (omega (arith, rec k (omega (arith, ap length s))))
    go false e k c rec =
        let s = keep_no t a (from (suc a) n) e in
        rw s (omega (arith, rec k (omega (arith, ap length s))))

-- ---- a node's list

module _ (v : List ℕ) (m e : ℕ) where
  node_few : length (node_of v m e) ≤ m
  unfolding node_of upto
  node_few = kept_few (λ f. same_words (words_of v m e) (words_of v m f)) 0 m

  node_below : (i : ℕ) → i < length (node_of v m e) → get_or (node_of v m e) i 0 < m
  unfolding node_of upto
  node_below i h = omega (arith, kept_below (λ f. same_words (words_of v m e) (words_of v m f)) 0 m i h)

  node_up : Up 0 (node_of v m e)
  unfolding node_of
  node_up = up_keep (λ f. same_words (words_of v m e) (words_of v m f)) 0 (upto m) (up_upto m)

-- ---- the steps of a junction

module _ {width : ℕ} {w₀ : List ℕ} {n m e : ℕ} {limit : Float} {input spare : List ℕ} (J : Junction width w₀ n m e limit input spare) where
  abbrev y : Noded width w₀ n m (Some limit) input spare
  y = J.noded

  abbrev rule : Rule
  rule = J.noded.rule

  abbrev ps : List Piece
  ps = J.noded.ps

  -- the ends of the node
  abbrev pub node_ends : List ℕ
  node_ends = node_of (drop (n * group_block) w₀) m e

  few_ends : m ≤ n * 2
  few_ends = ends_few J.noded

  node_size : length node_ends ≤ n * 2
  node_size = omega (arith, few_ends, node_few (drop (n * group_block) w₀) m e)

  pub list_asks : NodeListable w₀ (n * node_block) (n * group_block) m e
  list_asks =
      let f = few_ends in
      let g = J.noded.few in
      let r = J.noded.room in
      record {
        few = omega arith;
        below = omega arith;
        room = omega arith;
        within = J.within;
        leads = omega (arith, J.leads, word w₀ (n * group_block) (m * last_block) e);
        nodes = J.noded.nodes;
      }

  module _ {w₁ : List ℕ} {d : ℕ} (H : HoldsFrom w₁ w₀ (n * node_block) d (node_of (drop (n * group_block) w₀) m e)) where
    pub d_few : d ≤ n * 2
    d_few = omega (arith, H.count, node_size)

    list_fits : n * node_block + d ≤ length w₀
    list_fits = let r = J.noded.room in omega (arith, d_few)

    pub size₁ : length w₁ ≡ length w₀
    size₁ = from_length H list_fits

    pub end_at_lem : (i : ℕ) → i < d → get_or w₁ (n * node_block + i) 0 ≡ get_or node_ends i 0
    end_at_lem i h = sym (get_d_part (n * node_block) d w₁ i h) ∙ ap (λ (l : List ℕ). get_or l i 0) (from_part H list_fits)

    end_below : (i : ℕ) → i < d → get_or w₁ (n * node_block + i) 0 < m
    end_below i h = omega (arith, end_at_lem i h, node_below (drop (n * group_block) w₀) m e i (omega (arith, H.count)))

    piece_below : (i : ℕ) → i < d → get_or w₁ (n * node_block + i) 0 / 2 < length ps
    piece_below i h = let b = end_below i h in omega (arith, J.noded.ends)

    held₁ : Held width w₁ (n * taken_block) n input spare J.noded.counts ps
    held₁ =
        held_same width w₁ w₀ (n * taken_block) n input spare J.noded.counts ps size₁ (λ j a b. from_below H list_fits j (omega arith)) J.noded.held

    pub ends_ask : junction.JunctionEnds width w₁ (n * taken_block) (n * node_block) (n * pair_block) d input spare
    ends_ask =
        let r = J.noded.room in
        let f = J.noded.few in
        let c = d_few in
        let z = size₁ in
        record {
          two = J.noded.two;
          few = omega arith;
          room = omega arith;
          listed = omega arith;
          below = λ i h. let b = piece_below i h in omega (arith, J.noded.held.few);
          recorded = λ i h. recorded width w₁ (n * taken_block) n input spare J.noded.counts ps held₁ (get_or w₁ (n * node_block + i) 0 / 2) (piece_below i h);
        }

    -- the direction of an end, by its piece
    way_is : (i : ℕ) → i < d → way_at width w₁ (n * taken_block) input spare (get_or w₁ (n * node_block + i) 0) ≡ direction_of (run rule ps (get_or node_ends i 0))
    unfolding way_at run piece_at
    way_is i h =
        ap (λ (l : List Point). direction_of (seen (get_or w₁ (n * node_block + i) 0 % 2) l))
        (points_are width w₁ (n * taken_block) n input spare J.noded.counts ps held₁ (get_or w₁ (n * node_block + i) 0 / 2) (piece_below i h) J.noded.two)
        ∙ ap (λ (x : ℕ). direction_of (run rule ps x)) (end_at_lem i h)

    module _ {w₂ : List ℕ} (size₂ : length w₂ ≡ length w₁) (E : EndsPut width w₂ w₁ (n * taken_block) (n * node_block) (n * pair_block) d input spare) where
      abbrev part : List ℕ
      part = mid_of (n * pair_block) (length w₂ - n * pair_block) w₂

      part_fits : n * pair_block + d * end_room ≤ length w₂
      part_fits = let r = J.noded.room in let c = d_few in let z = size₁ in omega arith

      part_long : d * end_room ≤ length part
      part_long = rw (mid_rest w₂ (n * pair_block), length-drop (n * pair_block) w₂) (let f = part_fits in omega arith)

      pub pair_asks : EndsRoom part d
      pair_asks = record { few = let f = J.noded.few in omega (arith, d_few); long = part_long }

      part_words : d * pairs_from ≤ length part
      part_words = let p = part_long in omega arith

      piece_is : (i : ℕ) → i < d → (paired_at (ends_in part d) i).piece ≡ get_or node_ends i 0 / 2
      piece_is i h =
          ap (λ x. x.piece) (ends_in_at part d part_words i h)
          ∙ ap (λ (t : List ℕ). paired.piece_at t d i) (mid_rest w₂ (n * pair_block))
          ∙ E.number i h ∙ ap (λ (x : ℕ). x / 2) (end_at_lem i h)

      -- a piece has two ends, and the node lists no end twice
      pub part_twice : AtMostTwice (λ i. (paired_at (ends_in part d) i).piece) d
      part_twice i j k i<j j<k k<d p q =
          let c = H.count in
          let u = node_up (drop (n * group_block) w₀) m e in
          omega (
            arith,
            piece_is i (omega arith),
            piece_is j (omega arith),
            piece_is k k<d,
            up_rises 0 node_ends i j u i<j (omega arith),
            up_rises 0 node_ends j k u j<k (omega arith),
          )

      -- the node that is paired is that of the ends
      paired_node : ranked_of (ends_in part d) ≡ ranked_of (map (end_at rule ps) node_ends)
      paired_node =
          let c = H.count in
          node_same rule ps node_ends (ends_in part d) (ends_in_length part d part_words ∙ c)
          (λ i h. piece_is i (omega arith))
          (λ i h.
          let b : i < d = omega arith in
          ap (λ x. x.direction) (ends_in_at part d part_words i b)
          ∙ ap (λ (t : List ℕ). direction_at t d i) (mid_rest w₂ (n * pair_block))
          ∙ E.direction i b ∙ way_is i b)

      abbrev chosen_pairs : List ranked.RankedPair
      chosen_pairs = ranked.select (ranked_of (map (end_at rule ps) node_ends)) (key limit)

      module _ {r : ℕ} {sub : List ℕ} (size₃ : length sub ≡ length part) (S : Selected part d (key limit) r sub) where
        abbrev pub w₃ : List ℕ
        w₃ = put_mid (n * pair_block) (length w₂ - n * pair_block) w₂ sub

        part_in : n * pair_block ≤ length w₂
        part_in = let f = part_fits in omega arith

        pairs_are : ranked.select (ranked_of (ends_in part d)) (key limit) ≡ chosen_pairs
        pairs_are = ap (λ (x : Node). ranked.select x (key limit)) paired_node

        number_is : r ≡ length chosen_pairs
        number_is = S.count ∙ ap length pairs_are

        pairs_few : r * 2 ≤ d
        pairs_few =
            let c = ends_in_length part d part_words in
            omega (arith, S.count, ranked_room (ranked_of (ends_in part d)) (key limit), c)

        pub whole_size : length w₃ ≡ length w₀
        whole_size = back_length w₂ sub (n * pair_block) part_in size₃ ∙ size₂ ∙ size₁

        -- below the list nothing has changed, nor from the groups on
        front_same : (j : ℕ) → j < n * node_block → get_or w₃ j 0 ≡ get_or w₀ j 0
        front_same j h =
            back_front w₂ sub (n * pair_block) part_in j (omega arith) ∙ E.front j (omega arith) ∙ from_below H list_fits j h

        list_same : (i : ℕ) → i < d → get_or w₃ (n * node_block + i) 0 ≡ get_or node_ends i 0
        list_same i h =
            let c = d_few in
            back_front w₂ sub (n * pair_block) part_in (n * node_block + i) (omega arith) ∙ E.front (n * node_block + i) (omega arith) ∙ end_at_lem i h

        -- a word of the part
        word₃ : (k : ℕ) → get_or w₃ (n * pair_block + k) 0 ≡ get_or sub k 0
        word₃ k = sym (get_or-drop (n * pair_block) w₃ k 0) ∙ ap (λ (t : List ℕ). get_or t k 0) (back_drop w₂ sub (n * pair_block) part_in)

        beyond_same : (j : ℕ) → n * group_block ≤ j → get_or w₃ j 0 ≡ get_or w₀ j 0
        beyond_same j h =
            let c = d_few in
            let p : n * pair_block + (j - n * pair_block) ≡ j = omega arith in
            let q : d * end_room + (j - n * pair_block - d * end_room) ≡ j - n * pair_block = omega arith in
            ap (λ (i : ℕ). get_or w₃ i 0) (sym p)
            ∙ word₃ (j - n * pair_block)
            ∙ ap (λ (i : ℕ). get_or sub i 0) (sym q)
            ∙ sym (get_or-drop (d * end_room) sub (j - n * pair_block - d * end_room) 0)
            ∙ ap (λ (t : List ℕ). get_or t (j - n * pair_block - d * end_room) 0) S.beyond
            ∙ get_or-drop (d * end_room) part (j - n * pair_block - d * end_room) 0
            ∙ ap (λ (i : ℕ). get_or part i 0) q
            ∙ ap (λ (t : List ℕ). get_or t (j - n * pair_block) 0) (mid_rest w₂ (n * pair_block))
            ∙ get_or-drop (n * pair_block) w₂ (j - n * pair_block) 0
            ∙ ap (λ (i : ℕ). get_or w₂ i 0) p
            ∙ E.beyond j (omega arith)
            ∙ from_beyond H list_fits j (omega arith)

        pair_word : (k : ℕ) → k < r * 2 → get_or w₃ (n * pair_block + d * pairs_from + k) 0 ≡ get_or (listed chosen_pairs) k 0
        pair_word k h =
            let p : n * pair_block + d * pairs_from + k ≡ n * pair_block + (d * pairs_from + k) = omega arith in
            ap (λ (i : ℕ). get_or w₃ i 0) p ∙ word₃ (d * pairs_from + k)
            ∙ sym (get_d_part (d * pairs_from) (r * 2) sub k h)
            ∙ ap (λ (t : List ℕ). get_or t k 0) (S.pairs ∙ ap listed pairs_are)

        module _ (fitting : T (fits binary64 limit)) where
          number : T (not (is_nan limit))
          number = limit_number limit (J.noded.fair limit refl)

          pub put_asks : Puttable w₃ (n * join_block) m (n * node_block) d (n * pair_block + d * pairs_from) r
          put_asks =
              let f = few_ends in
              let c = d_few in
              let z = whole_size in
              let g = J.noded.room in
              let u = number_is in
              record {
                below = omega arith;
                listed = omega arith;
                room = omega (arith, pairs_few);
                places = λ k h.
                    omega (
                      arith,
                      pair_word k h,
                      H.count,
                      places_below (length node_ends) chosen_pairs (inside rule ps limit fitting number node_ends (node_up (drop (n * group_block) w₀) m e)) k (omega arith),
                    );
                ends = λ i h. omega (arith, list_same i h, node_below (drop (n * group_block) w₀) m e i (omega (arith, H.count)));
              }

          -- the pairs, named, are the book's
          named_are : named_pairs w₃ (n * node_block) (n * pair_block + d * pairs_from) r ≡ joined rule ps node_ends
          unfolding chosen
          named_are =
              let u = number_is in
              let k = node_many J.noded.nodes J.within J.leads (get_or (drop (n * group_block) w₀) (m * next_block + e) 0) refl J.more
              (λ z. let q = J.many in omega arith) in
              ap (named_pairs w₃ (n * node_block) (n * pair_block + d * pairs_from)) number_is
              ∙ pairs_named w₃ (n * node_block) (n * pair_block + d * pairs_from) chosen_pairs (λ i h. pair_word i (omega arith))
              ∙ selected_named rule ps limit fitting number node_ends (node_up (drop (n * group_block) w₀) m e) (λ i. get_or w₃ (n * node_block + i) 0)
              (λ i h. list_same i (omega (arith, H.count)))
              ∙ sym
              (ap (joined rule ps) k.2
              ∙ joined_many rule ps e (get_or (drop (n * group_block) w₀) (m * next_block + e) 0) k.0 k.1
              ∙ ap (λ (o : Option Float). map (λ (p : Pair). (p.i, p.j)) (chosen rule ps o (e ∷ get_or (drop (n * group_block) w₀) (m * next_block + e) 0 ∷ k.0 ∷ k.1)))
              J.noded.limited
              ∙ ap (λ (l : List ℕ). map (λ (p : Pair). (p.i, p.j)) (select limit (map (end_at rule ps) l))) (sym k.2))

          -- THE JUNCTION'S PAIRS ARE JOINED, AND NOTHING ELSE HAS CHANGED
          pub junction_joined : {w₄ : List ℕ}
              → HoldsFrom w₄ w₃ (n * join_block) m (fill (slice (n * join_block) (n * join_block + m) w₃) (named_pairs w₃ (n * node_block) (n * pair_block + d * pairs_from) r))
              → Joined w₄ w₀ n m (fill (slice (n * join_block) (n * join_block + m) w₀) (joined rule ps node_ends))
          junction_joined {w₄} K =
              let f = few_ends in
              let z = whole_size in
              let g = J.noded.room in
              let P = joined_put K (omega arith) (omega arith) in
              record {
                size = P.size ∙ z;
                joins =
                    P.joins
                    ∙ ap₂ fill (slice_same w₃ w₀ (n * join_block) m z (omega arith) (λ j a b. front_same j (omega arith))) named_are;
                kept = λ j a b. P.kept j a b ∙ front_same j b;
                beyond = λ j a. P.beyond j a ∙ beyond_same j a;
              }
