-- One record: what was written is read, and what was read is written back.
use Prim.Native.Nat.{ℕ, zero, suc, ◌+◌, ◌-◌, ◌*◌, ◌/◌, ◌≤◌, ◌<◌}
use mathlib.Core.Path.{◌≡◌, refl, sym, ap, ap₂, ◌∙◌}
use mathlib.Core.Bool.{not}
use mathlib.Core.List.{List, [], ◌∷◌, ◌++◌, flat_map}
use native.Mathlib.Omega.{arith}
use lib.ListN.{length, take, drop, length-drop, take-append-drop}
use lib.Seq.{take_at, drop_at, drop-drop, length-take-le}
use borrow.Author.Tests.{le-ltb, eq-eqb, ne_eqb}
use Rattle.build_refusals.proofs.Laws.{rung, top}
use Rattle.rules.specs.Types.{width_of}
use Rattle.rules.specs.Wkb.{number_by, bytes_by, byte_order, type_of, count_of, size_of, doubles_by, doubles_of, record_refusal, record_by}
use Rattle.wkb_records.proofs.Records.{Good}
use Rattle.wkb_reading.proofs.Laws.{opened}
use Rattle.wkb_writing.proofs.Laws.{four_length, eight_length, record_length}
use Rattle.wkb_trips.specs.Trips.{Below}
use Rattle.wkb_trips.proofs.Numbers.{number_of_bytes, bytes_of_number, below_take, below_drop}

-- ---- a record that passes every test

pub passes : (t : ℕ) (r : List ℕ) → Good t r → record_refusal t r ≡ 0
passes t r g =
    let width : width_of (type_of r) ≡ width_of t = ap (width_of) g.typed in
    let size : length r ≡ 9 + count_of r * width_of (type_of r) * 8 = g.long ∙ ap (λ (w : ℕ). size_of w (count_of r)) (sym width) in
    sym (top (rung (rung (rung (rung (rung (opened t r)
    (le-ltb (length r) 9 g.headed))
    (le-ltb 1 (byte_order r) g.ordered))
    (ne_eqb (width_of (type_of r)) 0 (λ z. g.known (sym width ∙ z))))
    (ap not (eq-eqb (type_of r) t g.typed)))
    (ap not (eq-eqb (length r) (9 + count_of r * width_of (type_of r) * 8) size))))

-- ---- what was written is read

numbers_read : (o : ℕ) (numbers : List ℕ) → Below 18446744073709551616 numbers → doubles_by o (length numbers) (flat_map (bytes_by o 8) numbers) ≡ numbers
unfolding doubles_by flat_map Below
numbers_read o [] h = refl
numbers_read o (n ∷ l) h =
    ap₂ (λ (x : ℕ) (t : List ℕ). x ∷ t)
    (ap (number_by o) (take_at (bytes_by o 8 n) (flat_map (bytes_by o 8) l) 8 (eight_length o n)) ∙ number_of_bytes o 8 n h.0)
    (ap (doubles_by o (length l)) (drop_at (bytes_by o 8 n) (flat_map (bytes_by o 8) l) 8 (eight_length o n)) ∙ numbers_read o l h.1)

module _ (o t count : ℕ) (numbers : List ℕ) where
  behind : drop 9 (record_by o t count numbers) ≡ flat_map (bytes_by o 8) numbers
  unfolding record_by
  behind =
      sym (drop-drop 4 4 (bytes_by o 4 t ++ (bytes_by o 4 count ++ flat_map (bytes_by o 8) numbers)))
      ∙ ap (drop 4) (drop_at (bytes_by o 4 t) (bytes_by o 4 count ++ flat_map (bytes_by o 8) numbers) 4 (four_length o t))
      ∙ drop_at (bytes_by o 4 count) (flat_map (bytes_by o 8) numbers) 4 (four_length o count)

  pub order_read : byte_order (record_by o t count numbers) ≡ o
  unfolding byte_order record_by
  order_read = refl

  pub type_read : t < 4294967296 → type_of (record_by o t count numbers) ≡ t
  unfolding type_of byte_order record_by
  type_read h = ap (number_by o) (take_at (bytes_by o 4 t) (bytes_by o 4 count ++ flat_map (bytes_by o 8) numbers) 4 (four_length o t)) ∙ number_of_bytes o 4 t h

  pub count_read : count < 4294967296 → count_of (record_by o t count numbers) ≡ count
  unfolding count_of byte_order record_by
  count_read h =
      ap (λ (l : List ℕ). number_by o (take 4 l)) (drop_at (bytes_by o 4 t) (bytes_by o 4 count ++ flat_map (bytes_by o 8) numbers) 4 (four_length o t))
      ∙ ap (number_by o) (take_at (bytes_by o 4 count) (flat_map (bytes_by o 8) numbers) 4 (four_length o count)) ∙ number_of_bytes o 4 count h

  pub numbers_back : Below 18446744073709551616 numbers → doubles_of (record_by o t count numbers) ≡ numbers
  unfolding doubles_of
  numbers_back h =
      let n : (length (record_by o t count numbers) - 9) / 8 ≡ length numbers = omega (arith, record_length o t count numbers) in
      rw (order_read, n, behind) (numbers_read o numbers h)

  pub record_read : o ≤ 1 → t < 4294967296 → (width_of t ≡ 0 → ⊥) → count < 4294967296 → length numbers ≡ count * width_of t
      → Good t (record_by o t count numbers)
  record_read a b c d e = record {
    headed = omega (arith, record_length o t count numbers);
    ordered = rw order_read a;
    typed = type_read b;
    known = c;
    long = record_length o t count numbers ∙ ap (λ (n : ℕ). 9 + n * 8) e ∙ ap (size_of (width_of t)) (sym (count_read d));
  }

-- ---- what was read is written back

numbers_written : (o n : ℕ) (l : List ℕ) → Below 256 l → length l ≡ n * 8 → flat_map (bytes_by o 8) (doubles_by o n l) ≡ l
unfolding doubles_by flat_map
numbers_written o zero [] h e = refl
numbers_written o zero (b ∷ l) h e = absurd (omega arith)
numbers_written o (suc n) l h e =
    let k : length (take 8 l) ≡ 8 = length-take-le 8 l (omega arith) in
    let d : length (drop 8 l) ≡ n * 8 = simp length-drop (omega arith) in
    let first : bytes_by o 8 (number_by o (take 8 l)) ≡ take 8 l = ap (λ (m : ℕ). bytes_by o m (number_by o (take 8 l))) (sym k) ∙ bytes_of_number o (take 8 l) (below_take 256 8 l h) in
    ap₂ (λ (x y : List ℕ). x ++ y) first (numbers_written o n (drop 8 l) (below_drop 256 8 l h) d) ∙ take-append-drop 8 l

word_written : (o : ℕ) (l : List ℕ) → Below 256 l → 4 ≤ length l → bytes_by o 4 (number_by o (take 4 l)) ≡ take 4 l
word_written o l h k =
    ap (λ (m : ℕ). bytes_by o m (number_by o (take 4 l))) (sym (length-take-le 4 l k)) ∙ bytes_of_number o (take 4 l) (below_take 256 4 l h)

pub record_back : (o t : ℕ) (r : List ℕ) → Below 256 r → Good t r → byte_order r ≡ o → record_by o t (count_of r) (doubles_of r) ≡ r
unfolding record_by count_of type_of doubles_of byte_order Below
record_back o t [] h g e = absurd (let z = g.headed in omega arith)
record_back o t (b ∷ l) h g e =
    let head = g.headed in
    let long = g.long in
    let d : length (drop 4 l) ≡ length l - 4 = length-drop 4 l in
    let f : length (drop 8 l) ≡ length l - 8 = length-drop 8 l in
    let w : ℕ = width_of t in
    let size : length (drop 8 l) ≡ (suc (length l) - 9) / 8 * 8 = omega arith in
    let type : bytes_by b 4 t ≡ take 4 l = ap (bytes_by b 4) (sym g.typed) ∙ word_written b l h.1 (omega arith) in
    let count : bytes_by b 4 (number_by b (take 4 (drop 4 l))) ≡ take 4 (drop 4 l) = word_written b (drop 4 l) (below_drop 256 4 l h.1) (omega arith) in
    let rest : flat_map (bytes_by b 8) (doubles_by b ((suc (length l) - 9) / 8) (drop 8 l)) ≡ drop 8 l = numbers_written b ((suc (length l) - 9) / 8) (drop 8 l) (below_drop 256 8 l h.1) size in
    let all : take 4 l ++ (take 4 (drop 4 l) ++ drop 8 l) ≡ l =
    ap (λ (x : List ℕ). take 4 l ++ (take 4 (drop 4 l) ++ x)) (sym (drop-drop 4 4 l)) ∙ ap (λ (x : List ℕ). take 4 l ++ x) (take-append-drop 4 (drop 4 l)) ∙ take-append-drop 4 l in
    rw (← e) (ap (λ (x : List ℕ). b ∷ x)
    (ap₂ (λ (x y : List ℕ). x ++ y) type (ap₂ (λ (x y : List ℕ). x ++ y) count rest) ∙ all))
