-- From grouped ends to walks: a table of zeros, filled node by node, is that of the partners, and the walks over it are the book's.
use Prim.Native.Nat.{ℕ, ◌+◌, ◌-◌, ◌*◌, ◌≤◌, ◌<◌}
use mathlib.Core.Path.{◌≡◌, sym, ap, ◌∙◌, subst}
use mathlib.Core.Option.{Option}
use mathlib.Core.List.{List, map, flatten, flat_map}
use native.Mathlib.Omega.{arith}
use native.Mathlib.Decide.{dec_lt}
use lib.Ieee.{Float}
use lib.ListN.{length, get_or, take, drop, replicate, length-drop, length-replicate, get_or-replicate, get_or-eq_default}
use lib.Seq.{slice, get_or-drop, ext_get_or, drop-drop}
use borrow.Rule.Slice.PartMut.{mid_of, put_mid}
use Rattle.std.specs.Prelude.{Option as Maybe}
use Rattle.rules.specs.Walking.{walks}
use Rattle.rules.specs.Chaining.{Piece, Rule, joined, partner}
use Rattle.rules.specs.Calls.{cleared}
use Rattle.chain_laws.specs.Joins.{Joins}
use Rattle.chain_laws.specs.Table.{table_of, from_table, Table, fill}
use Rattle.chain_laws.proofs.Partners.{partner_joins}
use Rattle.chain_laws.proofs.Tables.{partners_table, partners_fit}
use Rattle.chain_laws.proofs.Walks.{walks_length, walks_few}
use Rattle.point_slices.proofs.Laws.{mid_rest, slice_part, part_length}
use Rattle.chain_grouping.proofs.Space.{cleared_zero, cleared_kept}
use Rattle.chain_pieces.proofs.Reading.{get_d_part}
use Rattle.chain_joins.specs.Node.{runs_to}
use Rattle.chain_joins.proofs.Regions.{drop_same}
use Rattle.chain_joins.proofs.Runs.{runs_table}
use Rattle.chain_junctions.proofs.Laws.{back_drop, back_length}
use Rattle.chain_nodes.specs.Noded.{Noded, Joined}
use Rattle.chain_nodes.proofs.Frames.{held_same, noded_kept}
use Rattle.chain_walks.specs.Walks.{joins_of, marks_of, walks_of, WalksReady, AllWalked}
use Rattle.chain_round.specs.Round.{RoundWalked}
use Rattle.chain_round.proofs.WalkedParts.{walked_entries, walked_lengths, walked_beyond}
use Rattle.chain_pieces.specs.Map.{group_block, join_block, node_block, taken_block}
use Rattle.chain_walks.specs.Map.{entry_block, length_block, walk_room}

-- a word of a part that is back
back_word : (w sub : List ℕ) (part j : ℕ) → part ≤ length w → get_or (put_mid part (length w - part) w sub) (part + j) 0 ≡ get_or sub j 0
back_word w sub part j h =
    sym (get_or-drop part (put_mid part (length w - part) w sub) j 0) ∙ ap (λ (l : List ℕ). get_or l j 0) (back_drop w sub part h)

-- a list of zeros, by its numbers
zeros_are : (l : List ℕ) (k : ℕ) → length l ≡ k → ((i : ℕ) → i < k → get_or l i 0 ≡ 0) → l ≡ replicate k 0
zeros_are l k e z =
    ext_get_or 0 l (replicate k 0) (e ∙ sym (length-replicate {A = ℕ} k 0)) (λ i h. z i (omega arith) ∙ sym (get_or-replicate k i 0 0 (omega arith)))

module _ {width : ℕ} {w₀ : List ℕ} {n : ℕ} (m : ℕ) {limit : Maybe Float} {input spare : List ℕ} (y : Noded width w₀ n (m * 2) limit input spare) where
  abbrev rule : Rule
  rule = y.rule

  abbrev ps : List Piece
  ps = y.ps

  pieces_are : length ps ≡ m
  pieces_are = omega (arith, y.ends)

  pub few : m ≤ n
  few = omega (arith, pieces_are, y.held.few)

  in₀ : n * join_block ≤ length w₀
  in₀ = let r = y.room in omega arith

  -- ---- the zeros

  module _ {sub : List ℕ} (size : length sub ≡ length (mid_of (n * join_block) (length w₀ - n * join_block) w₀)) (Z : sub ≡ cleared (m * entry_block) (mid_of (n * join_block) (length w₀ - n * join_block) w₀)) where
    abbrev pub w₁ : List ℕ
    w₁ = put_mid (n * join_block) (length w₀ - n * join_block) w₀ sub

    pub size₁ : length w₁ ≡ length w₀
    size₁ = back_length w₀ sub (n * join_block) in₀ size

    zero₁ : (j : ℕ) → j < m * entry_block → get_or w₁ (n * join_block + j) 0 ≡ 0
    zero₁ j h = back_word w₀ sub (n * join_block) j in₀ ∙ cleared_zero sub (mid_of (n * join_block) (length w₀ - n * join_block) w₀) (m * entry_block) Z j h

    same₁ : (j : ℕ) → n * join_block + m * entry_block ≤ j → get_or w₁ j 0 ≡ get_or w₀ j 0
    same₁ j h =
        let p : n * join_block + (j - n * join_block) ≡ j = omega arith in
        ap (λ (i : ℕ). get_or w₁ i 0) (sym p)
        ∙ back_word w₀ sub (n * join_block) (j - n * join_block) in₀
        ∙ cleared_kept sub (mid_of (n * join_block) (length w₀ - n * join_block) w₀) (m * entry_block) Z (j - n * join_block) (omega arith)
        ∙ ap (λ (l : List ℕ). get_or l (j - n * join_block) 0) (mid_rest w₀ (n * join_block))
        ∙ get_or-drop (n * join_block) w₀ (j - n * join_block) 0
        ∙ ap (λ (i : ℕ). get_or w₀ i 0) p

    pub block_kept : (j : ℕ) → n * taken_block ≤ j → j < n * node_block → get_or w₁ j 0 ≡ get_or w₀ j 0
    block_kept j a b = same₁ j (omega (arith, few))

    pub groups_kept : drop (n * group_block) w₁ ≡ drop (n * group_block) w₀
    groups_kept = drop_same w₁ w₀ (n * group_block) size₁ (λ j a. same₁ j (omega (arith, few)))

    abbrev pub noded₁ : Noded width w₁ n (m * 2) limit input spare
    noded₁ = noded_kept y w₁ size₁ block_kept groups_kept

    -- ---- the joins

    module _ {w₂ : List ℕ} (J : Joined w₂ w₁ n (m * 2) (fill (slice (n * join_block) (n * join_block + m * 2) w₁) (flat_map (joined y.rule y.ps) (runs_to (drop (n * group_block) w₁) (m * 2) (m * 2))))) where
      pub size₂ : length w₂ ≡ length w₀
      size₂ = J.size ∙ size₁

      in₁ : n * join_block + m * 2 ≤ length w₁
      in₁ = let r = y.room in omega (arith, few, size₁)

      in₂ : n * join_block ≤ length w₂
      in₂ = omega (arith, in₀, size₂)

      zeros : (e : ℕ) → get_or (slice (n * join_block) (n * join_block + m * 2) w₁) e 0 ≡ 0
      zeros e =
          elim (dec_lt e (m * 2)) [
            | yes h ↦ get_d_part (n * join_block) (m * 2) w₁ e h ∙ zero₁ e (omega arith)
            | no h ↦ get_or-eq_default (slice (n * join_block) (n * join_block + m * 2) w₁) 0 (omega (arith, part_length (n * join_block) (m * 2) w₁ in₁))
          ]

      table₂ : slice (n * join_block) (n * join_block + m * 2) w₂ ≡ table_of (partner rule ps) (2 * length ps)
      unfolding noded_kept
      table₂ =
          J.joins
          ∙ runs_table (drop (n * group_block) w₁) (m * 2) noded₁.nodes rule ps y.ends noded₁.keys
          (slice (n * join_block) (n * join_block + m * 2) w₁) (part_length (n * join_block) (m * 2) w₁ in₁ ∙ y.ends) zeros

      abbrev part₂ : List ℕ
      part₂ = mid_of (n * join_block) (length w₂ - n * join_block) w₂

      joins_are : joins_of m part₂ ≡ table_of (partner rule ps) (2 * length ps)
      joins_are =
          let p : 2 * m ≡ m * 2 = omega arith in
          ap (take (2 * m)) (mid_rest w₂ (n * join_block)) ∙ ap (λ (k : ℕ). take k (drop (n * join_block) w₂)) p ∙ sym (slice_part (n * join_block) (m * 2) w₂) ∙ table₂

      partners_are : from_table (joins_of m part₂) ≡ partner rule ps
      partners_are = ap from_table joins_are ∙ partners_table rule ps

      part_length₂ : length part₂ ≡ length w₂ - n * join_block
      part_length₂ = ap length (mid_rest w₂ (n * join_block)) ∙ length-drop (n * join_block) w₂

      marks_zero : marks_of m part₂ ≡ replicate m 0
      marks_zero =
          let p : entry_block * m ≡ 2 * m + m = omega arith in
          let f = few in
          let g = in₂ in
          let r = y.room in
          ap (λ (k : ℕ). slice (2 * m) k part₂) p
          ∙ zeros_are (slice (2 * m) (2 * m + m) part₂) m (part_length (2 * m) m part₂ (omega (arith, part_length₂, size₂)))
          (λ i h.
          get_d_part (2 * m) m part₂ i h
          ∙ ap (λ (l : List ℕ). get_or l (2 * m + i) 0) (mid_rest w₂ (n * join_block))
          ∙ get_or-drop (n * join_block) w₂ (2 * m + i) 0
          ∙ J.kept (n * join_block + (2 * m + i)) (omega arith) (omega arith)
          ∙ zero₁ (2 * m + i) (omega arith))

      pub walk_asks : WalksReady part₂ m
      walk_asks =
          let f = few in
          let r = y.room in
          let s = size₂ in
          record {
            table =
                subst (λ (t : List ℕ). Table m t) (sym joins_are)
                (subst (λ (k : ℕ). Table k (table_of (partner rule ps) (2 * length ps))) pieces_are (partners_fit rule ps (omega (arith, pieces_are, y.few))));
            joins =
                subst (λ (q : ℕ → Option ℕ). Joins m q) (sym partners_are)
                (subst (λ (k : ℕ). Joins k (partner rule ps)) pieces_are (partner_joins rule ps));
            room = omega (arith, part_length₂);
            zeros = marks_zero;
          }

      -- ---- the walks

      joins_m : Joins m (partner rule ps)
      joins_m = subst (λ (k : ℕ). Joins k (partner rule ps)) pieces_are (partner_joins rule ps)

      walks_are : walks_of part₂ m ≡ walks (partner rule ps) m
      walks_are = ap (λ (q : ℕ → Option ℕ). walks q m) partners_are

      module _ {r : ℕ} {sub₃ : List ℕ} (size₃ : length sub₃ ≡ length part₂) (T : AllWalked sub₃ part₂ m r) where
        abbrev w₃ : List ℕ
        w₃ = put_mid (n * join_block) (length w₂ - n * join_block) w₂ sub₃

        fits₃ : walk_room * m ≤ length part₂
        fits₃ = walk_asks.room

        all₃ : length (flatten (walks_of part₂ m)) ≡ m
        all₃ = ap (λ (x : List (List ℕ)). length (flatten x)) walks_are ∙ walks_length m (partner rule ps) joins_m

        number₃ : r ≡ length (walks (partner rule ps) m)
        number₃ = T.count ∙ ap length walks_are

        r_few : r ≤ m
        r_few = omega (arith, number₃, walks_few m (partner rule ps) joins_m)

        sub_is : drop (n * join_block) w₃ ≡ sub₃
        sub_is = back_drop w₂ sub₃ (n * join_block) in₂

        -- a part of the walks' part
        part_at_lem : (k c : ℕ) → slice (n * join_block + k) (n * join_block + k + c) w₃ ≡ take c (drop k sub₃)
        part_at_lem k c = slice_part (n * join_block + k) c w₃ ∙ ap (take c) (sym (drop-drop k (n * join_block) w₃) ∙ ap (drop k) sub_is)

        beyond₃ : (j : ℕ) → n * taken_block ≤ j → get_or w₃ j 0 ≡ get_or w₂ j 0
        beyond₃ j h =
            let p : n * join_block + (j - n * join_block) ≡ j = omega arith in
            let f = few in
            let g = r_few in
            ap (λ (i : ℕ). get_or w₃ i 0) (sym p)
            ∙ back_word w₂ sub₃ (n * join_block) (j - n * join_block) in₂
            ∙ walked_beyond T fits₃ all₃ (j - n * join_block) (omega arith)
            ∙ ap (λ (l : List ℕ). get_or l (j - n * join_block) 0) (mid_rest w₂ (n * join_block))
            ∙ get_or-drop (n * join_block) w₂ (j - n * join_block) 0
            ∙ ap (λ (i : ℕ). get_or w₂ i 0) p

        -- THE WALKS ARE THE BOOK'S
        pub pieces_walked : RoundWalked width w₃ n m r rule y.counts ps input spare
        pieces_walked =
            let z = back_length w₂ sub₃ (n * join_block) in₂ size₃ in
            let p : entry_block * m ≡ m * entry_block = omega arith in
            let q : length_block * m ≡ m * length_block = omega arith in
            let f = few in
            record {
              room = omega (arith, y.room, size₂);
              held =
                  held_same width w₃ w₀ (n * taken_block) n input spare y.counts ps (z ∙ size₂)
                  (λ j a b. beyond₃ j a ∙ J.kept j (omega arith) (omega arith) ∙ block_kept j a (omega arith)) y.held;
              number = number₃;
              entered =
                  part_at_lem (m * entry_block) m ∙ ap (λ (k : ℕ). take m (drop k sub₃)) (sym p) ∙ walked_entries T fits₃ all₃ ∙ ap flatten walks_are;
              measured =
                  part_at_lem (m * length_block) r ∙ ap (λ (k : ℕ). take r (drop k sub₃)) (sym q) ∙ walked_lengths T fits₃ all₃
                  ∙ ap (map length) walks_are;
            }
