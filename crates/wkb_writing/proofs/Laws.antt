-- Laws of writing bytes: numbers one after another, and a record as its parts.
use Prim.Native.Nat.{ℕ, zero, suc, ◌+◌, ◌-◌, ◌*◌, ◌/◌, ◌≤◌, ◌<◌}
use mathlib.Core.Path.{◌≡◌, refl, sym, ap, ap₂, ◌∙◌, subst}
use mathlib.Core.List.{List, [], ◌∷◌, ◌++◌, flat_map, append_assoc, append-nil}
use native.Mathlib.Omega.{arith}
use native.Mathlib.Nat.{div-mul-le_self}
use native.Mathlib.Numerals.{add-one}
use lib.ListN.{length, take, drop, get_or, set, length-append, length-drop, take-append-drop}
use lib.Seq.{take-suc, take_all}
use Rattle.point_slices.specs.Holds.{HoldsFrom}
use Rattle.point_slices.proofs.Laws.{from_start, from_set, from_then}
use Rattle.rules.specs.Wkb.{little_bytes, bytes_by, record_by}
use Rattle.wkb_writing.specs.Writing.{RecordPut}

-- ---- stores

pub one_put : (l : List ℕ) (at a : ℕ) → at < length l → HoldsFrom (set l at a) l at 1 (a ∷ [])
one_put l at a h =
    let z : at + 0 ≡ at = omega arith in
    subst (λ (n : ℕ). HoldsFrom (set l n a) l at 1 (a ∷ [])) z (from_set (from_start l at) (omega arith) a)

-- ---- numbers, one after another

pub flat_append : (f : ℕ → List ℕ) (a b : List ℕ) → flat_map f (a ++ b) ≡ flat_map f a ++ flat_map f b
unfolding flat_map
flat_append f [] b = refl
flat_append f (x ∷ a) b = ap (λ (t : List ℕ). f x ++ t) (flat_append f a b) ∙ sym (append_assoc (f x) (flat_map f a) (flat_map f b))

flat_one : (f : ℕ → List ℕ) (x : ℕ) → flat_map f (x ∷ []) ≡ f x
unfolding flat_map
flat_one f x = append-nil (f x)

pub none_put : (o at : ℕ) (l numbers : List ℕ) → HoldsFrom l l at 0 (flat_map (bytes_by o 8) (take 0 numbers))
unfolding flat_map
none_put o at l numbers = from_start l at

-- the bytes of the first i numbers, and those of the next
flat_next : (numbers : List ℕ) (o i : ℕ) → i < length numbers
    → flat_map (bytes_by o 8) (take i numbers) ++ bytes_by o 8 (get_or numbers i 0) ≡ flat_map (bytes_by o 8) (take (i + 1) numbers)
flat_next numbers o i b =
    sym (rw (add-one, take-suc numbers i 0 b) (flat_append (bytes_by o 8) (take i numbers) (get_or numbers i 0 ∷ [])
    ∙ ap (λ (t : List ℕ). flat_map (bytes_by o 8) (take i numbers) ++ t) (flat_one (bytes_by o 8) (get_or numbers i 0))))

-- the bytes of the first i numbers stand from `at` on
abbrev pub Begun : (l' l numbers : List ℕ) (o at i : ℕ) → Type 0
Begun l' l numbers o at i = HoldsFrom l' l at (i * 8) (flat_map (bytes_by o 8) (take i numbers))

module _ (numbers : List ℕ) (o at : ℕ) where
  pub number_put : {l'' l' l : List ℕ} (i k : ℕ) → k ≡ i + 1 → Begun l' l numbers o at i → at + length numbers * 8 ≤ length l → i < length numbers
      → HoldsFrom l'' l' (at + i * 8) 8 (bytes_by o 8 (get_or numbers i 0)) → Begun l'' l numbers o at k
  number_put {l''} {l'} {l} i k q h room b s =
      let e : i * 8 + 8 ≡ k * 8 = omega arith in
      subst (λ (n : ℕ). HoldsFrom l'' l at n (flat_map (bytes_by o 8) (take k numbers))) e
      (subst (HoldsFrom l'' l at (i * 8 + 8)) (flat_next numbers o i b ∙ ap (λ (n : ℕ). flat_map (bytes_by o 8) (take n numbers)) (sym q)) (from_then h (omega arith) s))

  -- two numbers at once, those at x and y
  pub pair_put : {l'' l' l : List ℕ} {x y : ℕ} (j : ℕ) → Begun l' l numbers o at (j * 2) → at + length numbers * 8 ≤ length l → j < length numbers / 2
      → HoldsFrom l'' l' (at + j * 2 * 8) 16 (flat_map (bytes_by o 8) (get_or numbers x 0 ∷ get_or numbers y 0 ∷ [])) → x ≡ j * 2 → y ≡ j * 2 + 1 → Begun l'' l numbers o at ((j + 1) * 2)
  pair_put {l''} {l'} {l} {x} {y} j h room b s e q =
      let f = bytes_by o 8 in
      let m = get_or numbers x 0 in
      let n = get_or numbers y 0 in
      let within : j * 2 + 1 < length numbers = omega (arith, div-mul-le_self (length numbers) 2) in
      let first : f m ≡ f (get_or numbers (j * 2) 0) = ap (λ i. f (get_or numbers i 0)) e in
      let second : f n ≡ f (get_or numbers (j * 2 + 1) 0) = ap (λ i. f (get_or numbers i 0)) q in
      let whole : flat_map f (take (j * 2) numbers) ++ flat_map f (m ∷ n ∷ []) ≡ flat_map f (take (j * 2 + 1 + 1) numbers) =
      ap (λ t. flat_map f (take (j * 2) numbers) ++ t) (flat_append f (m ∷ []) (n ∷ []) ∙ ap₂ (λ (u v : List ℕ). u ++ v) (flat_one f m ∙ first) (flat_one f n ∙ second))
      ∙ sym (append_assoc (flat_map f (take (j * 2) numbers)) (f (get_or numbers (j * 2) 0)) (f (get_or numbers (j * 2 + 1) 0)))
      ∙ ap (λ t. t ++ f (get_or numbers (j * 2 + 1) 0)) (flat_next numbers o (j * 2) (omega arith)) ∙ flat_next numbers o (j * 2 + 1) within in
      let many : j * 2 * 8 + 16 ≡ (j * 2 + 1 + 1) * 8 = omega arith in
      let next : j * 2 + 1 + 1 ≡ (j + 1) * 2 = omega arith in
      subst (Begun l'' l numbers o at) next
      (subst (λ (m : ℕ). HoldsFrom l'' l at m (flat_map f (take (j * 2 + 1 + 1) numbers))) many (subst (HoldsFrom l'' l at (j * 2 * 8 + 16)) whole (from_then h (omega arith) s)))

  -- the numbers from i on, behind the first i
  pub rest_put : {l'' l' l : List ℕ} {k : ℕ} (i : ℕ) (rest : List ℕ) → i ≤ length numbers → rest ≡ take (length numbers - k) (drop k numbers) → k ≡ i → Begun l' l numbers o at i → at + length numbers * 8 ≤ length l
      → HoldsFrom l'' l' (at + i * 8) (length rest * 8) (flat_map (bytes_by o 8) rest) → HoldsFrom l'' l at (length numbers * 8) (flat_map (bytes_by o 8) numbers)
  rest_put {l''} {l'} {l} {k} i rest b e q h room s =
      let f = bytes_by o 8 in
      let place : rest ≡ drop i numbers = e ∙ ap (λ m. take (length numbers - m) (drop m numbers)) q ∙ take_all (length numbers - i) (drop i numbers) (omega (arith, length-drop i numbers)) in
      let many : i * 8 + length rest * 8 ≡ length numbers * 8 = omega (arith, ap length place, length-drop i numbers) in
      let whole : flat_map f (take i numbers) ++ flat_map f rest ≡ flat_map f numbers =
      sym (flat_append f (take i numbers) rest) ∙ ap (λ t. flat_map f (take i numbers ++ t)) place ∙ ap (flat_map f) (take-append-drop i numbers) in
      subst (λ (m : ℕ). HoldsFrom l'' l at m (flat_map f numbers)) many (subst (HoldsFrom l'' l at (i * 8 + length rest * 8)) whole (from_then h (omega arith) s))

-- ---- a record as its parts

pub record_put : {l₃ l₂ l₁ l : List ℕ} (o t count at : ℕ) (numbers : List ℕ) → at + (9 + length numbers * 8) ≤ length l
    → HoldsFrom l₁ (set l at o) (at + 1) 4 (bytes_by o 4 t) → HoldsFrom l₂ l₁ (at + 5) 4 (bytes_by o 4 count)
    → HoldsFrom l₃ l₂ (at + 9) (length numbers * 8) (flat_map (bytes_by o 8) numbers)
    → HoldsFrom l₃ l at (9 + length numbers * 8) (record_by o t count numbers)
unfolding record_by
record_put {l₃} {l₂} {l₁} {l} o t count at numbers h a b c =
    subst (HoldsFrom l₃ l at (9 + length numbers * 8))
    (append_assoc (o ∷ (bytes_by o 4 t)) (bytes_by o 4 count) (flat_map (bytes_by o 8) numbers))
    (from_then (from_then (from_then (one_put l at o (omega arith)) (omega arith) a) (omega arith) b) (omega arith) c)

pub four_length : (o n : ℕ) → length (bytes_by o 4 n) ≡ 4
unfolding bytes_by little_bytes
four_length zero n = refl
four_length (suc o) n = refl

pub eight_length : (o n : ℕ) → length (bytes_by o 8 n) ≡ 8
unfolding bytes_by little_bytes
eight_length zero n = refl
eight_length (suc o) n = refl

numbers_length : (o : ℕ) (numbers : List ℕ) → length (flat_map (bytes_by o 8) numbers) ≡ length numbers * 8
unfolding flat_map
numbers_length o [] = refl
numbers_length o (n ∷ l) = omega (arith, length-append (bytes_by o 8 n) (flat_map (bytes_by o 8) l), eight_length o n, numbers_length o l)

-- how long a record is
pub record_length : (o t count : ℕ) (numbers : List ℕ) → length (record_by o t count numbers) ≡ 9 + length numbers * 8
unfolding record_by
record_length o t count numbers =
    omega (
      arith,
      length-append (bytes_by o 4 t) (bytes_by o 4 count ++ flat_map (bytes_by o 8) numbers),
      length-append (bytes_by o 4 count) (flat_map (bytes_by o 8) numbers),
      four_length o t,
      four_length o count,
      numbers_length o numbers,
    )

-- a record put whole, by its own length
pub put_whole : {l' l : List ℕ} {at r : ℕ} (o t count : ℕ) (numbers : List ℕ) → r ≡ at + (9 + length numbers * 8)
    → HoldsFrom l' l at (9 + length numbers * 8) (record_by o t count numbers) → RecordPut l' l at r (record_by o t count numbers)
put_whole {l'} {l} {at} {r} o t count numbers e h = record {
  end = e ∙ ap (λ (n : ℕ). at + n) (sym (record_length o t count numbers));
  holds = subst (λ (n : ℕ). HoldsFrom l' l at n (record_by o t count numbers)) (sym (record_length o t count numbers)) h;
}
