-- What the walks leave in their part, read back: the entries, the lengths, and what stands beyond.
use Prim.Native.Nat.{ℕ, ◌+◌, ◌-◌, ◌*◌, ◌≤◌}
use mathlib.Core.Path.{◌≡◌, sym, ap, ◌∙◌}
use mathlib.Core.List.{List, ◌++◌, map, flatten, append_assoc}
use native.Mathlib.Omega.{arith}
use lib.ListN.{length, get_or, take, drop, replicate, length-append, length-replicate, length-map}
use lib.Seq.{length-take-le, take_at, drop_at, get_or-append-add, get_or-drop}
use Rattle.chain_walks.specs.Walks.{joins_of, walks_of, AllWalked}
use Rattle.chain_walks.specs.Map.{entry_block, length_block, walk_room}

module _ {w' w : List ℕ} {n r : ℕ} (T : AllWalked w' w n r) (fits : walk_room * n ≤ length w) (all : length (flatten (walks_of w n)) ≡ n) where
  abbrev a : List ℕ
  a = joins_of n w

  abbrev b : List ℕ
  b = replicate n 1

  abbrev c : List ℕ
  c = flatten (walks_of w n)

  abbrev d : List ℕ
  d = map length (walks_of w n)

  length_a : length a ≡ 2 * n
  length_a = length-take-le (2 * n) w (omega arith)

  length_ab : length (a ++ b) ≡ entry_block * n
  length_ab = length-append a b ∙ (omega (arith, length_a, length-replicate {A = ℕ} n 1))

  length_abc : length ((a ++ b) ++ c) ≡ length_block * n
  length_abc = length-append (a ++ b) c ∙ (omega (arith, length_ab, all))

  length_d : length d ≡ r
  length_d = length-map (walks_of w n) length ∙ sym T.count

  length_all : length (((a ++ b) ++ c) ++ d) ≡ length_block * n + r
  length_all = length-append ((a ++ b) ++ c) d ∙ (omega (arith, length_abc, length_d))

  after_marks : w' ≡ (a ++ b) ++ (c ++ (d ++ drop (length_block * n + r) w))
  after_marks = T.whole ∙ sym (append_assoc a b (c ++ (d ++ drop (length_block * n + r) w)))

  after_entries : w' ≡ ((a ++ b) ++ c) ++ (d ++ drop (length_block * n + r) w)
  after_entries = after_marks ∙ sym (append_assoc (a ++ b) c (d ++ drop (length_block * n + r) w))

  after_all : w' ≡ (((a ++ b) ++ c) ++ d) ++ drop (length_block * n + r) w
  after_all = after_entries ∙ sym (append_assoc ((a ++ b) ++ c) d (drop (length_block * n + r) w))

  pub walked_entries : take n (drop (entry_block * n) w') ≡ flatten (walks_of w n)
  walked_entries =
      ap (λ (l : List ℕ). take n (drop (entry_block * n) l)) after_marks
      ∙ ap (take n) (drop_at (a ++ b) (c ++ (d ++ drop (length_block * n + r) w)) (entry_block * n) length_ab)
      ∙ take_at c (d ++ drop (length_block * n + r) w) n all

  pub walked_lengths : take r (drop (length_block * n) w') ≡ map length (walks_of w n)
  walked_lengths =
      ap (λ (l : List ℕ). take r (drop (length_block * n) l)) after_entries
      ∙ ap (take r) (drop_at ((a ++ b) ++ c) (d ++ drop (length_block * n + r) w) (length_block * n) length_abc)
      ∙ take_at d (drop (length_block * n + r) w) r length_d

  pub walked_beyond : (j : ℕ) → length_block * n + r ≤ j → get_or w' j 0 ≡ get_or w j 0
  walked_beyond j h =
      let p : length_block * n + r + (j - (length_block * n + r)) ≡ j = omega arith in
      let z = length_all in
      ap (λ (l : List ℕ). get_or l j 0) after_all
      ∙ ap (λ (i : ℕ). get_or ((((a ++ b) ++ c) ++ d) ++ drop (length_block * n + r) w) i 0) (sym p ∙ ap (λ (i : ℕ). i + (j - (length_block * n + r))) (sym z))
      ∙ get_or-append-add (((a ++ b) ++ c) ++ d) (drop (length_block * n + r) w) (j - (length_block * n + r)) 0
      ∙ get_or-drop (length_block * n + r) w (j - (length_block * n + r)) 0
      ∙ ap (λ (i : ℕ). get_or w i 0) p
