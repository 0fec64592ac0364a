-- The words of the keys tell ends apart as the book's keys do, where the workspace holds the pieces.
-- It is true because a record names its piece's coordinates and members, an exact key is the bits themselves, and a cell's number stands for the cell.
use Prim.Native.Nat.{ℕ, suc, ◌+◌, ◌-◌, ◌*◌, ◌/◌, ◌%◌, ◌≤◌, ◌<◌}
use mathlib.Core.Path.{◌≡◌, refl, sym, ap, ap₂, ◌∙◌}
use mathlib.Core.Bool.{Bool, ◌&&◌, cond}
use mathlib.Core.List.{List, [], ◌∷◌, reverse, reverse-append}
use native.Mathlib.Omega.{arith}
use native.Mathlib.Nat.{suc-mul, zero-mul}
use native.Mathlib.Decide.{ℕ_discrete}
use borrow.Author.Tests.{eq-eqb, ne_eqb}
use lib.Dec.{eqb}
use lib.ListN.{length, get_or, take}
use lib.Seq.{get_or-take, get_or-drop, take-suc, take-length}
use Rattle.std.specs.Prelude.{Some}
use Rattle.rules.specs.Answers.{Grid}
use Rattle.rules.specs.Answers.{Exact}
use Rattle.rules.specs.Plane.{Point, point, flat, same_key, exact_key, cell_key, key_of}
use Rattle.rules.specs.Chaining.{Piece, Rule, nothing, piece_at, run, key_at}
use Rattle.float_cell.proofs.Same.{cell_same_is}
use Rattle.chain_pieces.specs.Held.{record_of, Held}
use Rattle.chain_pieces.proofs.Reading.{recorded, members_are, members_inside, member_count_lem, point_count_lem, coordinates_are}
use Rattle.chain_grouping.specs.Group.{words, same_words}
use Rattle.chain_keys.specs.Tells.{OneGroup}
use Rattle.chain_keys.specs.Keys.{group_at, number_at, word_of, words_for, Keyable}
use Rattle.point_numbers.proofs.Points.{flat_length, flat_x, flat_y}
use Rattle.chain_keys.specs.Map.{both_keys}
use Rattle.chain_pieces.specs.Map.{mark_block, member_block}

-- the last of a list is the first of it turned
last_first : (l : List Point) (n : ℕ) (d : Point) → length l ≡ suc n → get_or (reverse l) 0 d ≡ get_or l n d
last_first l n d e =
    let h : n < length l = omega arith in
    ap (λ (t : List Point). get_or (reverse t) 0 d)
    (sym (ap (λ (k : ℕ). take k l) (sym e) ∙ take-length l) ∙ take-suc l n d h)
    ∙ ap (λ (t : List Point). get_or t 0 d) (reverse-append (take n l) (get_or l n d ∷ []))

-- ---- the words of a piece that is held

module _ (width : ℕ) (two : 2 ≤ width) (w : List ℕ) (base n : ℕ) (input copies counts : List ℕ) (ps : List Piece) (h : Held width w base n input copies counts ps) (e : ℕ) (b : e / 2 < length ps)
    (long : 0 < length (get_or ps (e / 2) nothing).points) where
  abbrev p : Piece
  p = get_or ps (e / 2) nothing

  abbrev at : ℕ
  at = record_of base (e / 2)

  -- the pair at a side, counted from the piece's first
  place : ℕ → ℕ
  place side = cond (eqb side 0) 0 (length p.points - 1)

  place_first : (side : ℕ) → side ≡ 0 → place side ≡ 0
  unfolding place
  place_first side z = rw (eq-eqb side 0 z)

  place_last : (side : ℕ) → (side ≡ 0 → ⊥) → place side ≡ length p.points - 1
  unfolding place
  place_last side z = rw (ne_eqb side 0 z)

  place_in : (side : ℕ) → place side < length p.points
  place_in side =
      elim (ℕ_discrete side 0) [ yes z ↦ omega (arith, place_first side z) | no z ↦ omega (arith, place_last side z) ]

  last_place : length (flat width p.points) - width ≡ (length p.points - 1) * width
  last_place =
      let e : length p.points ≡ suc (length p.points - 1) = omega arith in
      omega (arith, flat_length width p.points ∙ ap (λ (i : ℕ). i * width) e, suc-mul (length p.points - 1) width)

  number_is : (side axis : ℕ) → number_at width w at side axis input copies ≡ get_or (flat width p.points) (place side * width + axis) 0
  unfolding number_at
  number_is side axis =
      ap (λ (l : List ℕ). get_or l (cond (eqb side 0) 0 (length l - width) + axis) 0) (coordinates_are width w base n input copies counts ps h (e / 2) b)
      ∙ ap (λ (i : ℕ). get_or (flat width p.points) (i + axis) 0)
      (elim (ℕ_discrete side 0) [
        | yes z ↦ rw (eq-eqb side 0 z, place_first side z) (sym (zero-mul width))
        | no z ↦ rw (ne_eqb side 0 z, place_last side z) last_place
      ])

  run_first : (rule : Rule) → get_or (run rule ps e) 0 (point 0 0) ≡ get_or p.points (place (e % 2)) (point 0 0)
  unfolding run piece_at
  run_first rule =
      elim (ℕ_discrete (e % 2) 0) [
        | yes z ↦ rw (eq-eqb (e % 2) 0 z, place_first (e % 2) z)
        | no z ↦
            (let s : length p.points ≡ suc (length p.points - 1) = omega arith in
            rw (ne_eqb (e % 2) 0 z, place_last (e % 2) z) (last_first p.points (length p.points - 1) (point 0 0) s))
      ]

  pub x_is : (rule : Rule) → number_at width w at (e % 2) 0 input copies ≡ (get_or (run rule ps e) 0 (point 0 0)).x
  x_is rule =
      number_is (e % 2) 0 ∙ flat_x width two p.points (place (e % 2)) (point 0 0) (place_in (e % 2)) ∙ ap (λ (q : Point). q.x) (sym (run_first rule))

  pub y_is : (rule : Rule) → number_at width w at (e % 2) 1 input copies ≡ (get_or (run rule ps e) 0 (point 0 0)).y
  y_is rule =
      number_is (e % 2) 1 ∙ flat_y width two p.points (place (e % 2)) (point 0 0) (place_in (e % 2)) ∙ ap (λ (q : Point). q.y) (sym (run_first rule))

  -- its first member
  pub first_line : get_or w (base + n * member_block + get_or w at 0) 0 ≡ get_or p.lines 0 0
  first_line =
      let a = base + n * member_block + get_or w at 0 in
      let k = get_or w (at + 1) 0 in
      let f = h.full (e / 2) b in
      let c = member_count_lem width w base n input copies counts ps h (e / 2) b in
      let z : a + 0 ≡ a = omega arith in
      let y : 0 < a + k - a = omega arith in
      sym
      (ap (λ (l : List ℕ). get_or l 0 0) (sym (members_are width w base n input copies counts ps h (e / 2) b))
      ∙ get_or-drop a (take (a + k) w) 0 0
      ∙ get_or-take (a + k) w (a + 0) 0 (omega arith)
      ∙ ap (λ (i : ℕ). get_or w i 0) z)

-- ---- the words and the keys

words_told : (grid : Grid) (g k : ℕ) (p q : Point)
    → same_words (words g (word_of grid 0 p.x) (word_of grid 1 p.y)) (words k (word_of grid 0 q.x) (word_of grid 1 q.y)) ≡ same_key (key_of grid g p) (key_of grid k q)
unfolding word_of same_words same_key key_of exact_key cell_key
words_told Exact g k p q = refl
words_told (Some m) g k p q =
    ap₂ (λ (x y : Bool). eqb g k && (x && y)) (sym (cell_same_is m.tolerance m.origin_x p.x q.x)) (sym (cell_same_is m.tolerance m.origin_y p.y q.y))

-- ---- what collecting the keys asks

module _ (width : ℕ) (two : 2 ≤ width) (w : List ℕ) (base n keys : ℕ) (input copies counts groups : List ℕ) (ps : List Piece) (h : Held width w base n input copies counts ps) (g : OneGroup groups ps) where
  line_in : (q : ℕ) → q < length ps → get_or w (base + n * member_block + get_or w (record_of base q) 0) 0 < length groups
  line_in q b =
      let e : q * 2 / 2 ≡ q = omega arith in
      let c : q * 2 / 2 < length ps = omega arith in
      let f = first_line width two w base n input copies counts ps h (q * 2) c (g.long (q * 2 / 2) c) in
      let l = g.line (q * 2 / 2) c in
      rw (← e) (rw f l)

  pub held_keyable : base + n * mark_block ≤ keys → keys + length ps * both_keys ≤ length w → Keyable width w base (base + n * member_block) keys (length ps) groups input copies
  held_keyable o r =
      record {
        room = r;
        below = omega (arith, h.few);
        placed = λ q b. record {
          two = two;
          recorded = recorded width w base n input copies counts ps h q b;
          long = omega (arith, point_count_lem width w base n input copies counts ps h q b, g.long q b);
        };
        member = λ q b. omega (arith, members_inside width w base n input copies counts ps h q b, member_count_lem width w base n input copies counts ps h q b, h.full q b);
        line = line_in;
      }

module _ (width : ℕ) (two : 2 ≤ width) (w : List ℕ) (base n : ℕ) (input copies counts groups : List ℕ) (ps : List Piece) (h : Held width w base n input copies counts ps) (g : OneGroup groups ps)
    (rule : Rule) where
  words_are : (e : ℕ) → e < 2 * length ps
      → words_for width w (record_of base (e / 2)) (e % 2) (base + n * member_block) groups input copies rule.grid
      ≡ words (piece_at rule ps e).group (word_of rule.grid 0 (get_or (run rule ps e) 0 (point 0 0)).x) (word_of rule.grid 1 (get_or (run rule ps e) 0 (point 0 0)).y)
  unfolding words_for group_at piece_at
  words_are e b =
      let c : e / 2 < length ps = omega arith in
      let l = g.long (e / 2) c in
      λ i. words
      ((ap (λ (k : ℕ). get_or groups k 0) (first_line width two w base n input copies counts ps h e c l) ∙ g.group (e / 2) c) i)
      (word_of rule.grid 0 (x_is width two w base n input copies counts ps h e c l rule i))
      (word_of rule.grid 1 (y_is width two w base n input copies counts ps h e c l rule i))

  pub words_tell : (e f : ℕ) → e < 2 * length ps → f < 2 * length ps
      → same_words (words_for width w (record_of base (e / 2)) (e % 2) (base + n * member_block) groups input copies rule.grid)
      (words_for width w (record_of base (f / 2)) (f % 2) (base + n * member_block) groups input copies rule.grid)
      ≡ same_key (key_at rule ps e) (key_at rule ps f)
  unfolding key_at
  words_tell e f b c =
      ap₂ same_words (words_are e b) (words_are f c)
      ∙ words_told rule.grid (piece_at rule ps e).group (piece_at rule ps f).group (get_or (run rule ps e) 0 (point 0 0)) (get_or (run rule ps f) 0 (point 0 0))
