-- The levels, one above another. After each turn the boxes below the level reached are written, and that level and those above it make up the rest.
-- A level has half as many boxes as the one below it, rounded up, and so k boxes and all above them are at most 2 * k + 16, for a k up to 2 ^ 16.
use Prim.Native.Nat.{ℕ, zero, suc, ◌+◌, ◌-◌, ◌*◌, ◌/◌, ◌^◌, ◌≤◌, ◌<◌}
use mathlib.Core.Path.{◌≡◌, refl, sym, ap, subst, ◌∙◌}
use mathlib.Core.List.{List, [], ◌++◌, append_assoc}
use native.Mathlib.Nat.{pow-suc}
use native.Mathlib.Omega.{arith}
use lib.ListN.{length, take, drop, length-append}
use lib.Seq.{take_at, drop_at}
use Rattle.rules.specs.declared.Box.{Box}
use Rattle.rules.specs.Boxes.{empty, in_pairs, levels, stacked, box_numbers, box_at}
use Rattle.rules.specs.Calls.{written}
use Rattle.point_slices.specs.Holds.{HoldsFrom}
use Rattle.point_slices.proofs.Laws.{drop_beyond, from_length}
use Rattle.chain_laws.proofs.Counts.{each_of, each_get_d}
use Rattle.box_laws.specs.Sound.{BoxSound, Sounds}
use Rattle.box_laws.specs.Rows.{row, nth}
use Rattle.box_laws.proofs.Rows.{boxes_append, boxes_length, pairs_length, row_length, row_numbers, row_back, row_at}
use Rattle.box_laws.proofs.Levels.{levels_top, levels_more}
use Rattle.box_laws.proofs.Wider.{pairs_sound}
use Rattle.box_levels.specs.Lying.{Raisable}

-- a level of at most 2 ^ left boxes has one above it of at most half as many
half_left : (n left : ℕ) → 1 < n → n ≤ 2 ^ left → (0 < left) × ((n + 1) / 2 ≤ 2 ^ (left - 1))
half_left n zero h s = absurd (omega arith)
half_left n (suc left) h s =
    let z : suc left - 1 ≡ left = omega arith in
    (omega arith, subst (λ (x : ℕ). (n + 1) / 2 ≤ 2 ^ x) (sym z) (omega (arith, pow-suc 2 left)))

-- ---- what is written
module _ (b₀ : List ℕ) (k : ℕ) where
  pub record Stacking (b : List ℕ) (at n : ℕ) : Type 0 where
    pub left : ℕ
    pub small : n ≤ 2 ^ left
    pub room : at + n * 2 + left ≤ k * 2 + 16
    pub size : length b ≡ length b₀
    pub before : List Box
    pub level : List Box
    pub begins : length before ≡ at
    pub has : length level ≡ n
    pub sound : Sounds level
    pub fuel : ℕ
    pub enough : n ≤ fuel
    pub goes : before ++ levels fuel level ≡ stacked (row b₀ 0 k)
    pub stands : b ≡ box_numbers (before ++ level) ++ drop ((at + n) * 4) b₀

  pub stacking_start : Raisable b₀ k → Stacking b₀ 0 k
  unfolding stacked
  stacking_start s = record {
    left = 16;
    small = s.few;
    room = omega arith;
    size = refl;
    before = [];
    level = row b₀ 0 k;
    begins = refl;
    has = row_length b₀ 0 k;
    sound = each_of BoxSound (row b₀ 0 k) empty (λ i h.
        let e : i < k = omega (arith, row_length b₀ 0 k) in
        let z : i ≡ 0 + i = omega arith in
        subst BoxSound (ap (box_at b₀) z ∙ sym (row_at b₀ 0 k i e)) (s.sound i e));
    fuel = k;
    enough = omega arith;
    goes = ap (λ (x : ℕ). levels x (row b₀ 0 k)) (sym (row_length b₀ 0 k));
    stands = row_numbers b₀ 0 k (omega (arith, s.room));
  }

  module _ {b : List ℕ} {at n : ℕ} (s : Stacking b at n) where
    written_length : length (box_numbers (s.before ++ s.level)) ≡ (at + n) * 4
    written_length = boxes_length (s.before ++ s.level) ∙ ap (λ (x : ℕ). x * 4) (length-append s.before s.level ∙ (omega (arith, s.begins, s.has)))

    level_is : row b at n ≡ s.level
    level_is =
        let e : drop (at * 4) b ≡ box_numbers s.level ++ drop ((at + n) * 4) b₀ =
        ap (drop (at * 4)) (s.stands ∙ ap {B = List ℕ} (λ (x : List ℕ). x ++ drop ((at + n) * 4) b₀) (boxes_append s.before s.level) ∙ append_assoc (box_numbers s.before) (box_numbers s.level) (drop ((at + n) * 4) b₀))
        ∙ drop_at (box_numbers s.before) (box_numbers s.level ++ drop ((at + n) * 4) b₀) (at * 4) (boxes_length s.before ∙ ap (λ (x : ℕ). x * 4) s.begins) in
        ap (row b at) (sym s.has) ∙ row_back b at s.level (drop ((at + n) * 4) b₀) e

    pub stacking_sound : (i : ℕ) → i < n → BoxSound (box_at b (at + i))
    stacking_sound i h =
        subst BoxSound (ap (λ (l : List Box). nth l i) (sym level_is) ∙ row_at b at n i h) (each_get_d BoxSound s.level i empty s.sound (omega (arith, s.has)))

    pub stacking_room : 1 < n → k * 8 + 64 ≤ length b₀ → (at + n + (n + 1) / 2) * 4 ≤ length b
    stacking_room h r = omega (arith, s.room, s.size)

    pub stacking_more : {b' : List ℕ} → 1 < n → k * 8 + 64 ≤ length b₀ → HoldsFrom b' b ((at + n) * 4) ((n + 1) / 2 * 4) (box_numbers (in_pairs (row b at n)))
        → Stacking b' (at + n) ((n + 1) / 2)
    stacking_more {b'} h r w =
        let p = half_left n s.left h s.small in
        let m = (n + 1) / 2 in
        let one : s.fuel ≡ suc (s.fuel - 1) = omega (arith, s.enough) in
        let place : (at + n) * 4 + m * 4 ≡ (at + n + m) * 4 = omega arith in
        let front : take ((at + n) * 4) b ≡ box_numbers (s.before ++ s.level) =
        ap (take ((at + n) * 4)) s.stands ∙ take_at (box_numbers (s.before ++ s.level)) (drop ((at + n) * 4) b₀) ((at + n) * 4) written_length in
        let back : drop ((at + n) * 4 + m * 4) b ≡ drop ((at + n + m) * 4) b₀ =
        ap (drop ((at + n) * 4 + m * 4)) s.stands ∙ drop_beyond (box_numbers (s.before ++ s.level)) b₀ ((at + n) * 4) ((at + n) * 4 + m * 4) (sym written_length) (omega arith) ∙ ap (λ (x : ℕ). drop x b₀) place in
        record {
          left = s.left - 1;
          small = p.1;
          room = omega (arith, p.0, s.room);
          size = from_length w (omega (arith, stacking_room h r)) ∙ s.size;
          before = s.before ++ s.level;
          level = in_pairs s.level;
          begins = length-append s.before s.level ∙ (omega (arith, s.begins, s.has));
          has = pairs_length s.level ∙ ap (λ (x : ℕ). (x + 1) / 2) s.has;
          sound = pairs_sound s.level s.sound;
          fuel = s.fuel - 1;
          enough = omega (arith, s.enough);
          goes = append_assoc s.before s.level (levels (s.fuel - 1) (in_pairs s.level))
              ∙ ap {B = List Box} (λ (x : List Box). s.before ++ x) (sym (levels_more (s.fuel - 1) s.level (omega (arith, s.has))) ∙ ap (λ (x : ℕ). levels x s.level) (sym one))
              ∙ s.goes;
          stands = w.list
              ∙ ap {B = List ℕ} (λ (x : List ℕ). x ++ (box_numbers (in_pairs (row b at n)) ++ drop ((at + n) * 4 + m * 4) b)) front
              ∙ ap {B = List ℕ} (λ (x : List ℕ). box_numbers (s.before ++ s.level) ++ (box_numbers (in_pairs (row b at n)) ++ x)) back
              ∙ ap {B = List ℕ} (λ (x : List Box). box_numbers (s.before ++ s.level) ++ (box_numbers (in_pairs x) ++ drop ((at + n + m) * 4) b₀)) level_is
              ∙ sym (append_assoc (box_numbers (s.before ++ s.level)) (box_numbers (in_pairs s.level)) (drop ((at + n + m) * 4) b₀))
              ∙ ap {B = List ℕ} (λ (x : List ℕ). x ++ drop ((at + n + m) * 4) b₀) (sym (boxes_append (s.before ++ s.level) (in_pairs s.level)));
        }

    pub stacking_done : n ≤ 1 → b ≡ written (box_numbers (stacked (row b₀ 0 k))) b₀
    unfolding written
    stacking_done h =
        let all : s.before ++ s.level ≡ stacked (row b₀ 0 k) = ap {B = List Box} (λ (x : List Box). s.before ++ x) (sym (levels_top s.fuel s.level (omega (arith, s.has)))) ∙ s.goes in
        s.stands
        ∙ ap {B = List ℕ} (λ (x : ℕ). box_numbers (s.before ++ s.level) ++ drop x b₀) (sym written_length)
        ∙ ap {B = List ℕ} (λ (x : List Box). box_numbers x ++ drop (length (box_numbers x)) b₀) all
