-- The words of one end in the workspace, and those of one end more.
use Prim.Native.Nat.{ℕ, ◌+◌, ◌-◌, ◌*◌, ◌/◌, ◌%◌, ◌≤◌, ◌<◌}
use mathlib.Core.Path.{◌≡◌, refl, sym, ap, subst, ◌∙◌}
use mathlib.Core.Logic.{◌≢◌}
use mathlib.Core.Bool.{cond}
use mathlib.Core.List.{List}
use native.Mathlib.Omega.{arith}
use native.Mathlib.Decide.{ℕ_discrete}
use lib.Dec.{eqb}
use native.Mathlib.Nat.{mul-le-mul_right, one-mul}
use lib.ListN.{length, get_or, take, drop, set, length-set}
use lib.Seq.{get_or-set_same, get_or-set_other}
use Rattle.rules.specs.Answers.{Grid}
use Rattle.rules.specs.Refusals.{source_of}
use Rattle.chain_pieces.specs.Held.{record_of, coordinates_at}
use Rattle.chain_pieces.proofs.Source.{recorded_length}
use Rattle.chain_grouping.specs.Group.{words, words_at}
use Rattle.chain_keys.specs.Keys.{group_at, number_at, word_of, words_for, keyed_at, keyed, both_keyed, PiecePlaced, Grouping, Keyable}
use Rattle.chain_grouping.specs.Map.{key_size}
use Rattle.chain_keys.specs.Map.{both_keys}

-- a piece has a point
module _ (width : ℕ) (w : List ℕ) (p : ℕ) (input spare : List ℕ) where
  pub number_long : PiecePlaced width w p input spare → width ≤ length (coordinates_at width w p input spare)
  number_long P = omega (arith, recorded_length width w p input spare P.recorded, mul-le-mul_right width P.long, one-mul width)

-- ---- three stores

module _ (w : List ℕ) (a x y z : ℕ) where
  abbrev pub three : List ℕ
  three = set (set (set w a x) (a + 1) y) (a + 2) z

  pub three_other : (j : ℕ) → j ≢ a → j ≢ a + 1 → j ≢ a + 2 → get_or three j 0 ≡ get_or w j 0
  three_other j p q r =
      get_or-set_other (set (set w a x) (a + 1) y) (a + 2) j z 0 r
      ∙ get_or-set_other (set w a x) (a + 1) j y 0 q
      ∙ get_or-set_other w a j x 0 p

  pub three_first : a + 3 ≤ length w → get_or three a 0 ≡ x
  three_first h =
      get_or-set_other (set (set w a x) (a + 1) y) (a + 2) a z 0 (λ q. omega arith)
      ∙ get_or-set_other (set w a x) (a + 1) a y 0 (λ q. omega arith)
      ∙ get_or-set_same w a x 0 (omega arith)

  pub three_second : a + 3 ≤ length w → get_or three (a + 1) 0 ≡ y
  three_second h =
      get_or-set_other (set (set w a x) (a + 1) y) (a + 2) (a + 1) z 0 (λ q. omega arith)
      ∙ get_or-set_same (set w a x) (a + 1) y 0 (omega (arith, length-set w a x))

  pub three_third : a + 3 ≤ length w → get_or three (a + 2) 0 ≡ z
  three_third h = get_or-set_same (set (set w a x) (a + 1) y) (a + 2) z 0 (omega (arith, length-set w a x, length-set (set w a x) (a + 1) y))

-- ---- records and members stay while keys are written above them

-- two workspaces agree below k
abbrev pub Same : List ℕ → List ℕ → ℕ → Type 0
Same w' w k = (j : ℕ) → j < k → get_or w' j 0 ≡ get_or w j 0

module _ (w' w : List ℕ) (k p members : ℕ) (s : Same w' w k) (hp : p + 5 ≤ k) (hm : members + get_or w p 0 < k) where
  at_first : get_or w' p 0 ≡ get_or w p 0
  at_first = s p (omega arith)

  pub group_same : (groups : List ℕ) → group_at w' p members groups ≡ group_at w p members groups
  unfolding group_at
  group_same groups =
      ap (λ (i : ℕ). get_or groups (get_or w' (members + i) 0) 0) at_first
      ∙ ap (λ (i : ℕ). get_or groups i 0) (s (members + get_or w p 0) hm)

  pub source_same : (input spare : List ℕ) → source_of (get_or w' (p + 2) 0) input spare ≡ source_of (get_or w (p + 2) 0) input spare
  source_same input spare = ap (λ (i : ℕ). source_of i input spare) (s (p + 2) (omega arith))

  pub coordinates_same : (width : ℕ) (input spare : List ℕ) → coordinates_at width w' p input spare ≡ coordinates_at width w p input spare
  unfolding coordinates_at
  coordinates_same width input spare = λ i. take (s (p + 4) (omega arith) i * width) (drop (s (p + 3) (omega arith) i * width) (source_same input spare i))

  pub number_same : (width side axis : ℕ) (input spare : List ℕ) → number_at width w' p side axis input spare ≡ number_at width w p side axis input spare
  unfolding number_at
  number_same width side axis input spare =
      ap (λ (l : List ℕ). get_or l (cond (eqb side 0) 0 (length l - width) + axis) 0) (coordinates_same width input spare)

  pub words_same : (width side : ℕ) (groups input spare : List ℕ) (grid : Grid)
      → words_for width w' p side members groups input spare grid ≡ words_for width w p side members groups input spare grid
  unfolding words_for
  words_same width side groups input spare grid = λ i.
      words (group_same groups i) (word_of grid 0 (number_same width side 0 input spare i)) (word_of grid 1 (number_same width side 1 input spare i))

  pub placed_same : (width : ℕ) (input spare : List ℕ) → length w' ≡ length w → PiecePlaced width w p input spare → PiecePlaced width w' p input spare
  placed_same width input spare n P =
      record {
        two = P.two;
        recorded = record {
          inside = omega (arith, P.recorded.inside);
          within = rw (source_same input spare, s (p + 3) (omega arith), s (p + 4) (omega arith)) P.recorded.within;
        };
        long = rw (s (p + 4) (omega arith)) P.long;
      }

  pub grouping_same : (groups : List ℕ) → length w' ≡ length w → Grouping w p members groups → Grouping w' p members groups
  grouping_same groups n G =
      let e = at_first in
      record {
        inside = omega (arith, G.inside);
        member = omega (arith, G.member);
        line = rw (e, s (members + get_or w p 0) hm) G.line;
      }

-- ---- one end more

-- `of` says which end of the pieces has its key at a place
module _ (width records members keys count : ℕ) (groups input spare : List ℕ) (grid : Grid) (of : ℕ → ℕ) where
  -- after e ends
  pub record Keying (w w₀ : List ℕ) (e : ℕ) : Type 0 where
    pub size : length w ≡ length w₀
    pub each : (f : ℕ) → f < e → words_at w keys f ≡ words_for width w₀ (record_of records (of f / 2)) (of f % 2) members groups input spare grid
    pub kept : Same w w₀ keys

  pub keying_start : (w : List ℕ) → Keying w w 0
  keying_start w = record { size = refl; each = λ f h. absurd (omega arith); kept = λ j h. refl }

  module _ (w w₀ : List ℕ) (e : ℕ) (K : Keying w w₀ e) (Y : Keyable width w₀ records members keys count groups input spare) (h : e < count * 2) (q-in : of e / 2 < count) where
    above : record_of records (of e / 2) + 5 ≤ keys
    above = let b = Y.below in omega arith

    pub keying_placed : PiecePlaced width w (record_of records (of e / 2)) input spare
    keying_placed =
        placed_same w w₀ keys (record_of records (of e / 2)) members K.kept above (Y.member (of e / 2) q-in) width input spare K.size (Y.placed (of e / 2) q-in)

    pub keying_group : Grouping w (record_of records (of e / 2)) members groups
    keying_group =
        grouping_same w w₀ keys (record_of records (of e / 2)) members K.kept above (Y.member (of e / 2) q-in) groups K.size
        (record {
          inside = (Y.placed (of e / 2) q-in).recorded.inside;
          member = let r = Y.room in omega (arith, Y.member (of e / 2) q-in);
          line = Y.line (of e / 2) q-in;
        })

    step : Keying (keyed_at width w (record_of records (of e / 2)) (of e % 2) members (keys + e * key_size) groups input spare grid) w₀ (e + 1)
    unfolding keyed_at words_at words_for
    step =
        let g = group_at w (record_of records (of e / 2)) members groups in
        let x = word_of grid 0 (number_at width w (record_of records (of e / 2)) (of e % 2) 0 input spare) in
        let y = word_of grid 1 (number_at width w (record_of records (of e / 2)) (of e % 2) 1 input spare) in
        let n = K.size in
        let r = Y.room in
        let fit : keys + e * key_size + 3 ≤ length w = omega arith in
        record {
          size = simp length-set K.size;
          kept = λ j l. three_other w (keys + e * key_size) g x y j (λ p. omega arith) (λ p. omega arith) (λ p. omega arith) ∙ K.kept j l;
          each = λ f l. elim (ℕ_discrete f e) [
            | yes p ↦
                ap (words_at (three w (keys + e * key_size) g x y) keys) p
                ∙ here g x y fit
                ∙ words_same w w₀ keys (record_of records (of e / 2)) members K.kept above (Y.member (of e / 2) q-in) width (of e % 2) groups input spare grid
                ∙ ap (λ (i : ℕ). words_for width w₀ (record_of records (of i / 2)) (of i % 2) members groups input spare grid) (sym p)
            | no p ↦
                (λ i. words
                (three_other w (keys + e * key_size) g x y (keys + f * key_size) (λ s. omega arith) (λ s. omega arith) (λ s. omega arith) i)
                (three_other w (keys + e * key_size) g x y (keys + f * key_size + 1) (λ s. omega arith) (λ s. omega arith) (λ s. omega arith) i)
                (three_other w (keys + e * key_size) g x y (keys + f * key_size + 2) (λ s. omega arith) (λ s. omega arith) (λ s. omega arith) i))
                ∙ K.each f (omega arith)
          ];
        }
      where
        here : (g x y : ℕ) → keys + e * key_size + 3 ≤ length w → words_at (three w (keys + e * key_size) g x y) keys e ≡ words g x y
        here g x y fit = λ i. words
            (three_first w (keys + e * key_size) g x y fit i)
            (three_second w (keys + e * key_size) g x y fit i)
            (three_third w (keys + e * key_size) g x y fit i)

    pub keying_step : (w' : List ℕ) → w' ≡ keyed_at width w (record_of records (of e / 2)) (of e % 2) members (keys + e * key_size) groups input spare grid → Keying w' w₀ (e + 1)
    keying_step w' q = subst (λ (v : List ℕ). Keying v w₀ (e + 1)) (sym q) step

-- ---- both ends of a piece

module _ (width records members keys count : ℕ) (groups input spare : List ℕ) (grid : Grid) where
  -- the key of end e is three stores
  first_keyed : (w : List ℕ) (q : ℕ)
      → three w (keys + q * both_keys) (group_at w (record_of records q) members groups) (word_of grid 0 (number_at width w (record_of records q) 0 0 input spare)) (word_of grid 1 (number_at width w (record_of records q) 0 1 input spare))
      ≡ keyed width w records members keys (q * 2) groups input spare grid
  unfolding keyed_at word_of
  first_keyed w q =
      let a : keys + q * both_keys ≡ keys + q * 2 * 3 = omega arith in
      let p : q ≡ q * 2 / 2 = omega arith in
      let s : 0 ≡ q * 2 % 2 = omega arith in
      λ i. three w (a i) (group_at w (record_of records (p i)) members groups) (word_of grid 0 (number_at width w (record_of records (p i)) (s i) 0 input spare)) (word_of grid 1 (number_at width w (record_of records (p i)) (s i) 1 input spare))

  second_keyed : (w : List ℕ) (q : ℕ)
      → three w (keys + q * both_keys + 3) (group_at w (record_of records q) members groups) (word_of grid 0 (number_at width w (record_of records q) 1 0 input spare)) (word_of grid 1 (number_at width w (record_of records q) 1 1 input spare))
      ≡ keyed width w records members keys (q * 2 + 1) groups input spare grid
  unfolding keyed_at word_of
  second_keyed w q =
      let a : keys + q * both_keys + 3 ≡ keys + (q * 2 + 1) * 3 = omega arith in
      let p : q ≡ (q * 2 + 1) / 2 = omega arith in
      let s : 1 ≡ (q * 2 + 1) % 2 = omega arith in
      λ i. three w (a i) (group_at w (record_of records (p i)) members groups) (word_of grid 0 (number_at width w (record_of records (p i)) (s i) 0 input spare)) (word_of grid 1 (number_at width w (record_of records (p i)) (s i) 1 input spare))

  module _ (w w₀ : List ℕ) (q : ℕ) (K : Keying width records members keys count groups input spare grid (λ f. f) w w₀ (q * 2)) (Y : Keyable width w₀ records members keys count groups input spare) (h : q < count) where
    pub both_placed : PiecePlaced width w (record_of records q) input spare
    both_placed =
        let p : q * 2 / 2 ≡ q = omega arith in
        subst (λ (i : ℕ). PiecePlaced width w (record_of records i) input spare) p (keying_placed width records members keys count groups input spare grid (λ f. f) w w₀ (q * 2) K Y (omega arith) (omega arith))

    pub both_group : Grouping w (record_of records q) members groups
    both_group =
        let p : q * 2 / 2 ≡ q = omega arith in
        subst (λ (i : ℕ). Grouping w (record_of records i) members groups) p (keying_group width records members keys count groups input spare grid (λ f. f) w w₀ (q * 2) K Y (omega arith) (omega arith))

    abbrev once : List ℕ
    once = keyed width w records members keys (q * 2) groups input spare grid

    half : Keying width records members keys count groups input spare grid (λ f. f) once w₀ (q * 2 + 1)
    half = keying_step width records members keys count groups input spare grid (λ f. f) w w₀ (q * 2) K Y (omega arith) (omega arith) once refl

    -- what the second key reads is as it was before the first
    below : Same once w keys
    below j l = half.kept j l ∙ sym (K.kept j l)

    member_in : members + get_or w (record_of records q) 0 < keys
    member_in = let b = Y.below in let e = K.kept (record_of records q) (omega arith) in omega (arith, Y.member q h)

    twice : both_keyed width w records members keys q groups input spare grid ≡ keyed width once records members keys (q * 2 + 1) groups input spare grid
    unfolding both_keyed
    twice =
        let b = Y.below in
        let u : record_of records q + 5 ≤ keys = omega arith in
        let g = group_same once w keys (record_of records q) members below u member_in groups in
        let x = number_same once w keys (record_of records q) members below u member_in width 1 0 input spare in
        let y = number_same once w keys (record_of records q) members below u member_in width 1 1 input spare in
        (λ i. three (first_keyed w q i) (keys + q * both_keys + 3) (sym g i) (word_of grid 0 (sym x i)) (word_of grid 1 (sym y i))) ∙ second_keyed once q

    pub both_step : (w' : List ℕ) → w' ≡ both_keyed width w records members keys q groups input spare grid → Keying width records members keys count groups input spare grid (λ f. f) w' w₀ ((q + 1) * 2)
    both_step w' e =
        let n : q * 2 + 1 + 1 ≡ (q + 1) * 2 = omega arith in
        subst (λ (k : ℕ). Keying width records members keys count groups input spare grid (λ f. f) w' w₀ k) n
        (keying_step width records members keys count groups input spare grid (λ f. f) once w₀ (q * 2 + 1) half Y (omega arith) (omega arith) w' (e ∙ twice))
