-- Numbers as bytes: four and eight bytes of a list by their places, the eight as two fours, and that bytes and numbers give each other back.
use Prim.Native.Nat.{ℕ, zero, suc, ◌+◌, ◌*◌, ◌≤◌, ◌<◌}
use mathlib.Core.Path.{◌≡◌, refl, sym, ap, ap₂, ◌∙◌}
use mathlib.Core.List.{List, [], ◌∷◌, reverse}
use native.Mathlib.Omega.{arith}
use lib.ListN.{length, take, drop, get_or}
use lib.Seq.{drop-cons, take_all}
use borrow.Author.Tests.{ne_eqb}
use Rattle.std.specs.Int.{from_le_bytes, from_be_bytes, to_le_bytes, to_be_bytes, w32, w64}
use Rattle.rules.specs.Wkb.{little, little_bytes, number_by, bytes_by}
use denote.Enum.Declared.{tag_of}
use Rattle.wkb_records.specs.contracts.Order.{the_type}
use Rattle.wkb_records.specs.declared.Order.{Order}
use Rattle.wkb_records.specs.declared.Order.TheVariants.{Big, Little}
use Rattle.wkb_records.specs.Orders.{order_of, byte_of, number_in}

-- ---- bytes by their places

-- one more element of a part
take_one : (l : List ℕ) (at k : ℕ) → at < length l → take (suc k) (drop at l) ≡ get_or l at 0 ∷ take k (drop (suc at) l)
take_one l at k h = ap (take (suc k)) (drop-cons l at 0 h)

pub four_is : (l : List ℕ) (at : ℕ) → at + 4 ≤ length l
    → take 4 (drop at l) ≡ get_or l at 0 ∷ get_or l (at + 1) 0 ∷ get_or l (at + 2) 0 ∷ get_or l (at + 3) 0 ∷ []
four_is l at h =
    let e₁ : at + 1 ≡ suc at = omega arith in
    let e₂ : at + 2 ≡ suc (suc at) = omega arith in
    let e₃ : at + 3 ≡ suc (suc (suc at)) = omega arith in
    rw (e₁, e₂, e₃, take_one l at 3 (omega arith), take_one l (suc at) 2 (omega arith), take_one l (suc (suc at)) 1 (omega arith), take_one l (suc (suc (suc at))) 0 (omega arith))

eight_is : (l : List ℕ) (at : ℕ) → at + 8 ≤ length l
    → take 8 (drop at l) ≡ get_or l at 0 ∷ get_or l (at + 1) 0 ∷ get_or l (at + 2) 0 ∷ get_or l (at + 3) 0 ∷ take 4 (drop (at + 4) l)
eight_is l at h =
    let e₁ : at + 1 ≡ suc at = omega arith in
    let e₂ : at + 2 ≡ suc (suc at) = omega arith in
    let e₃ : at + 3 ≡ suc (suc (suc at)) = omega arith in
    let e₄ : at + 4 ≡ suc (suc (suc (suc at))) = omega arith in
    rw (e₁, e₂, e₃, e₄, take_one l at 7 (omega arith), take_one l (suc at) 6 (omega arith), take_one l (suc (suc at)) 5 (omega arith), take_one l (suc (suc (suc at))) 4 (omega arith))

module _ (l : List ℕ) (at : ℕ) where
  pub little_four : at + 4 ≤ length l
      → get_or l at 0 + get_or l (at + 1) 0 * 256 + get_or l (at + 2) 0 * 65536 + get_or l (at + 3) 0 * 16777216 ≡ little (take 4 (drop at l))
  unfolding little
  little_four h = rw (four_is l at h) (omega arith)

  pub big_four : at + 4 ≤ length l
      → get_or l (at + 3) 0 + get_or l (at + 2) 0 * 256 + get_or l (at + 1) 0 * 65536 + get_or l at 0 * 16777216 ≡ little (reverse (take 4 (drop at l)))
  unfolding little
  big_four h = rw (four_is l at h) (omega arith)

-- ---- what the library reads

pub four_le : (l : List ℕ) (at : ℕ) → at + 4 ≤ length l → from_le_bytes w32 (get_or l at 0 ∷ get_or l (at + 1) 0 ∷ get_or l (at + 2) 0 ∷ get_or l (at + 3) 0 ∷ []) ≡ little (take 4 (drop at l))
four_le l at h = omega (arith, little_four l at h)

pub four_be : (l : List ℕ) (at : ℕ) → at + 4 ≤ length l → from_be_bytes w32 (get_or l at 0 ∷ get_or l (at + 1) 0 ∷ get_or l (at + 2) 0 ∷ get_or l (at + 3) 0 ∷ []) ≡ little (reverse (take 4 (drop at l)))
four_be l at h = omega (arith, big_four l at h)

module _ (l : List ℕ) (h : length l ≡ 8) where
  all_eight : l ≡ get_or l 0 0 ∷ get_or l 1 0 ∷ get_or l 2 0 ∷ get_or l 3 0 ∷ get_or l 4 0 ∷ get_or l 5 0 ∷ get_or l 6 0 ∷ get_or l 7 0 ∷ []
  all_eight = sym (take_all 8 l (omega arith)) ∙ eight_is l 0 (omega arith) ∙ ap (λ r. get_or l 0 0 ∷ get_or l 1 0 ∷ get_or l 2 0 ∷ get_or l 3 0 ∷ r) (four_is l 4 (omega arith))

  pub eight_le : from_le_bytes w64 l ≡ little l
  unfolding little
  eight_le = sym (ap little all_eight ∙ omega arith)

  pub eight_be : from_be_bytes w64 l ≡ little (reverse l)
  unfolding little
  eight_be = sym (ap (λ r. little (reverse r)) all_eight ∙ omega arith)

pub by_order : (o : ℕ) (l : List ℕ) → number_in (order_of o) l ≡ number_by o l
unfolding number_in number_by
by_order zero l = refl
by_order (suc o) l = rw (ne_eqb (suc o) 0 (λ z. omega arith), number_in)

-- ---- and what it writes

both : {a b : ℕ} {l m : List ℕ} → a ≡ b → l ≡ m → a ∷ l ≡ b ∷ m
both e f = ap₂ {C = List ℕ} (λ (x : ℕ) (r : List ℕ). x ∷ r) e f

le_four : (n : ℕ) → to_le_bytes w32 n ≡ little_bytes 4 n
unfolding little_bytes
le_four n = both refl (both (omega arith) (both (omega arith) (both (omega arith) refl)))

le_eight : (n : ℕ) → to_le_bytes w64 n ≡ little_bytes 8 n
unfolding little_bytes
le_eight n = both refl (both (omega arith) (both (omega arith) (both (omega arith) (both (omega arith) (both (omega arith) (both (omega arith) (both (omega arith) refl)))))))

pub four_big : (n : ℕ) → to_be_bytes w32 n ≡ bytes_by 0 4 n
unfolding bytes_by
four_big n = ap reverse (le_four n)

pub four_little : (n : ℕ) → to_le_bytes w32 n ≡ bytes_by 1 4 n
unfolding bytes_by
four_little n = le_four n

pub eight_big : (n : ℕ) → to_be_bytes w64 n ≡ bytes_by 0 8 n
unfolding bytes_by
eight_big n = ap reverse (le_eight n)

pub eight_little : (n : ℕ) → to_le_bytes w64 n ≡ bytes_by 1 8 n
unfolding bytes_by
eight_little n = le_eight n

-- a byte that tells an order is the order's
pub told_order : (o : ℕ) → o ≤ 1 → byte_of (order_of o) ≡ o
told_order zero h = refl
told_order (suc zero) h = refl
told_order (suc (suc o)) h = absurd (omega arith)

-- an order, as it is written
pub tag_is : (o : Order) → tag_of the_type o ≡ byte_of o
tag_is Big = refl
tag_is Little = refl
