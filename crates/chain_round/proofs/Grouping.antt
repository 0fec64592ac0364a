-- The ends grouped by key: the keys are collected beyond the pieces, the groups are made in the part beyond them all, and the words tell ends apart as
-- the book's keys do.
use Prim.Native.Nat.{ℕ, ◌+◌, ◌-◌, ◌*◌, ◌/◌, ◌%◌, ◌≤◌, ◌<◌}
use mathlib.Core.Path.{◌≡◌, sym, ap, ap₂, ◌∙◌, subst}
use mathlib.Core.List.{List}
use native.Mathlib.Omega.{arith}
use lib.ListN.{length, get_or, drop, length-drop}
use lib.Seq.{get_or-drop}
use borrow.Rule.Slice.PartMut.{mid_of, put_mid}
use Rattle.rules.specs.declared.Settings.{Settings}
use Rattle.rules.specs.Answers.{Grid}
use Rattle.rules.specs.Plane.{same_key}
use Rattle.rules.specs.Chaining.{key_at, rule_of}
use Rattle.point_slices.proofs.Laws.{mid_rest}
use Rattle.chain_pieces.specs.Held.{record_of}
use Rattle.chain_grouping.specs.Group.{Words, words, same_words, words_at, words_of, GroupingRoom, Nodes}
use Rattle.chain_grouping.proofs.Space.{keys_kept}
use Rattle.chain_grouping.proofs.Nodes.{nodes_own}
use Rattle.chain_keys.specs.Keys.{words_for, Keyable, Keyed}
use Rattle.chain_keys.proofs.Same.{held_keyable, words_tell}
use Rattle.chain_junctions.proofs.Laws.{back_drop, back_front, back_length}
use Rattle.chain_nodes.proofs.Frames.{held_same}
use Rattle.chain_round.specs.Round.{Rounding, EndsStand}
use Rattle.chain_grouping.specs.Map.{key_size}
use Rattle.chain_pieces.specs.Map.{group_block, member_block, taken_block}

-- words read from a part
pub words_shift : (w : List ℕ) (a k e : ℕ) → words_at (drop a w) k e ≡ words_at w (a + k) e
unfolding words_at
words_shift w a k e =
    let p : a + (k + e * key_size) ≡ a + k + e * key_size = omega arith in
    let q : a + (k + e * key_size + 1) ≡ a + k + e * key_size + 1 = omega arith in
    let r : a + (k + e * key_size + 2) ≡ a + k + e * key_size + 2 = omega arith in
    λ i. words
    ((get_or-drop a w (k + e * key_size) 0 ∙ ap (λ (j : ℕ). get_or w j 0) p) i)
    ((get_or-drop a w (k + e * key_size + 1) 0 ∙ ap (λ (j : ℕ). get_or w j 0) q) i)
    ((get_or-drop a w (k + e * key_size + 2) 0 ∙ ap (λ (j : ℕ). get_or w j 0) r) i)

module _ {width : ℕ} {w₀ : List ℕ} {n m : ℕ} {groups input spare : List ℕ} (y : Rounding width w₀ n m groups input spare) where
  pub pieces_few : m ≤ n
  pieces_few = omega (arith, y.number, y.held.few)

  pub key_asks : Keyable width w₀ (n * taken_block) (n * taken_block + n * member_block) (n * group_block + m * 2 * 4) m groups input spare
  key_asks =
      let f = pieces_few in
      let r = y.room in
      let u = y.number in
      subst (λ (i : ℕ). Keyable width w₀ (n * taken_block) (n * taken_block + n * member_block) (n * group_block + m * 2 * 4) i groups input spare) (sym y.number)
      (held_keyable width y.two w₀ (n * taken_block) n (n * group_block + m * 2 * 4) input spare y.counts groups y.ps y.held y.grouped (omega arith) (omega arith))

  module _ {grid : Grid} {w₁ : List ℕ} (size₁ : length w₁ ≡ length w₀) (K : Keyed width w₁ w₀ (n * taken_block) (n * taken_block + n * member_block) (n * group_block + m * 2 * 4) m groups input spare grid) where
    abbrev part : List ℕ
    part = mid_of (n * group_block) (length w₁ - n * group_block) w₁

    part_in : n * group_block ≤ length w₁
    part_in = let r = y.room in omega arith

    pub group_room_lem : GroupingRoom part (m * 2)
    group_room_lem =
        let f = pieces_few in
        let r = y.room in
        let g = y.few in
        record { few = omega arith; fits = rw (mid_rest w₁ (n * group_block), length-drop (n * group_block) w₁) (omega arith) }

    module _ {sub : List ℕ} (size₂ : length sub ≡ length part) (N : Nodes sub part (m * 2)) where
      abbrev w₂ : List ℕ
      w₂ = put_mid (n * group_block) (length w₁ - n * group_block) w₁ sub

      sub_is : drop (n * group_block) w₂ ≡ sub
      sub_is = back_drop w₁ sub (n * group_block) part_in

      -- the words of an end's key
      words_are : (e : ℕ) → e < m * 2
          → words_of sub (m * 2) e ≡ words_for width w₀ (record_of (n * taken_block) (e / 2)) (e % 2) (n * taken_block + n * member_block) groups input spare grid
      words_are e h =
          ap (λ (o : ℕ → Words). o e) (keys_kept sub part (m * 2) N.kept)
          ∙ ap (λ (l : List ℕ). words_at l (m * 2 * 4) e) (mid_rest w₁ (n * group_block))
          ∙ words_shift w₁ (n * group_block) (m * 2 * 4) e
          ∙ K.each e h

      keys_tell : (s : Settings) (e f : ℕ) → e < m * 2 → f < m * 2 → same_words (words_of sub (m * 2) e) (words_of sub (m * 2) f) ≡ same_key (key_at (rule_of grid s) y.ps e) (key_at (rule_of grid s) y.ps f)
      keys_tell s e f a b =
          let u = y.number in
          ap₂ same_words (words_are e a) (words_are f b)
          ∙ words_tell width y.two w₀ (n * taken_block) n input spare y.counts groups y.ps y.held y.grouped (rule_of grid s) e f (omega arith) (omega arith)

      pub grouped_ended : (s : Settings) → EndsStand width w₂ n (m * 2) (rule_of grid s) y.counts y.ps input spare
      grouped_ended s =
          let z = back_length w₁ sub (n * group_block) part_in size₂ in
          record {
            room = omega (arith, y.room);
            held =
                held_same width w₂ w₀ (n * taken_block) n input spare y.counts y.ps (z ∙ size₁)
                (λ j a b. back_front w₁ sub (n * group_block) part_in j (omega arith) ∙ K.kept j (omega arith)) y.held;
            nodes = subst (λ (v : List ℕ). Nodes v v (m * 2)) (sym sub_is) (nodes_own N);
            keys =
                subst (λ (v : List ℕ). (e f : ℕ) → e < m * 2 → f < m * 2
                → same_words (words_of v (m * 2) e) (words_of v (m * 2) f) ≡ same_key (key_at (rule_of grid s) y.ps e) (key_at (rule_of grid s) y.ps f))
                (sym sub_is) (keys_tell s);
          }
