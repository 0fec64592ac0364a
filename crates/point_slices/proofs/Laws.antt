-- Laws of `Holds` and `HoldsFrom`: one write after another, a part lent from the middle, and what stands before, in and beyond what was written.
-- A record determines its lists, so that every argument but the records and the bounds is found.
use Prim.Native.Nat.{ℕ, zero, suc, ◌+◌, ◌-◌, ◌≤◌, ◌<◌}
use mathlib.Core.Path.{◌≡◌, refl, sym, ap, ap₂, ◌∙◌, subst}
use mathlib.Core.List.{List, [], ◌∷◌, ◌++◌, append_assoc, append-nil, reverse, reverse-cons}
use native.Mathlib.Omega.{arith}
use native.Mathlib.Nat.{add-zero}
use native.Mathlib.Numerals.{add-one}
use lib.ListN.{length, take, drop, get_or, set, replicate, length-append, length-reverse, get_or-append, take-append-drop, length-drop, drop_of_length-le, replicate-append-replicate}
use lib.Seq.{length-slice, drop-append-le, length-take-le, get_or-take, take_at, take-add, take-suc, take_all, take-take, drop-append-add, drop-drop, drop-cons, drop_at, get_or-drop, get_or-append_seam, set_at, slice}
use borrow.Rule.Slice.PartMut.{mid_of, put_mid}
use Rattle.point_slices.specs.Holds.{Holds, HoldsFrom}

-- ---- a beginning

-- beyond w, a list with another beginning of w numbers is as before
pub drop_beyond : (out l : List ℕ) (w r : ℕ) → w ≡ length out → w ≤ r → drop r (out ++ drop w l) ≡ drop r l
drop_beyond out l w r e h =
    let s : r ≡ length out + (r - w) = omega arith in
    let t : w + (r - w) ≡ r = omega arith in
    ap (λ (n : ℕ). drop n (out ++ drop w l)) s ∙ drop-append-add out (drop w l) (r - w) ∙ drop-drop (r - w) w l ∙ ap (λ (n : ℕ). drop n l) t

-- two steps, one after the other: the second starts where the first ended
pub holds_then : {l'' l' l : List ℕ} {w r : ℕ} {out more : List ℕ} → Holds l' l w out → Holds l'' l' r more → w ≤ r → Holds l'' l r more
holds_then {l''} {l'} {l} {w} {r} {out} {more} a b h = record {
  count = b.count;
  list = b.list ∙ ap (λ (t : List ℕ). more ++ t) (ap (drop r) a.list ∙ drop_beyond out l w r a.count h);
}

-- a beginning, read back
pub holds_take : {l' l : List ℕ} {r : ℕ} {out : List ℕ} → Holds l' l r out → take r l' ≡ out
holds_take {l'} {l} {r} {out} h = ap (take r) h.list ∙ take_at out (drop r l) r (sym h.count)

-- before anything is written
pub holds_start : (l : List ℕ) (h : ℕ) → h ≤ length l → Holds l l h (take h l)
holds_start l h k = record { count = sym (length-take-le h l k); list = sym (take-append-drop h l) }

-- ---- a part lent from the middle, `&mut s[at..]`: what the callee says of the part, said of the whole

-- the part is the rest of the list
pub mid_rest : (l : List ℕ) (at : ℕ) → mid_of at (length l - at) l ≡ drop at l
mid_rest l at = take_all (length l - at) (drop at l) (simp length-drop (omega arith))

-- the whole when the part is back
pub put_rest : (l p : List ℕ) (at : ℕ) → put_mid at (length l - at) l p ≡ take at l ++ p
put_rest l p at = rw (drop_of_length-le (drop at l) {i = length l - at} (simp length-drop (omega arith)), append-nil)

-- nothing is written yet
pub from_start : (l : List ℕ) (at : ℕ) → HoldsFrom l l at 0 []
from_start l at = record { count = refl; list = rw add-zero (sym (take-append-drop at l)) }

pub from_length : {l' l : List ℕ} {at r : ℕ} {out : List ℕ} → HoldsFrom l' l at r out → at + r ≤ length l → length l' ≡ length l
from_length {l'} {l} {at} {r} {out} h k =
    let a : at ≤ length l = omega arith in
    ap length h.list ∙ simp (length-append, length-drop, length-take-le at l a) (omega (arith, h.count))

-- what a callee that is lent the rest finds there
pub from_rest : {l' l : List ℕ} {at r : ℕ} {out : List ℕ} → HoldsFrom l' l at r out → at + r ≤ length l → mid_of at (length l' - at) l' ≡ out ++ drop (at + r) l
from_rest {l'} {l} {at} {r} {out} h k =
    let a : at ≤ length l = omega arith in
    mid_rest l' at ∙ ap (drop at) h.list ∙ drop_at (take at l) (out ++ drop (at + r) l) at (length-take-le at l a)

pub from_take : {l' l : List ℕ} {at r : ℕ} {out : List ℕ} → HoldsFrom l' l at r out → at + r ≤ length l → take r (mid_of at (length l' - at) l') ≡ out
from_take {l'} {l} {at} {r} {out} h k = ap (take r) (from_rest h k) ∙ take_at out (drop (at + r) l) r (sym h.count)

-- one more step through `&mut s[at..]`
pub from_step : {l' l p : List ℕ} {at w r : ℕ} {out more : List ℕ} → HoldsFrom l' l at w out → at + w ≤ length l → Holds p (mid_of at (length l' - at) l') r more → w ≤ r → HoldsFrom (put_mid at (length l' - at) l' p) l at r more
from_step {l'} {l} {p} {at} {w} {r} {out} {more} h k s m =
    let a : at ≤ length l = omega arith in
    let before : take at l' ≡ take at l = ap (take at) h.list ∙ take_at (take at l) (out ++ drop (at + w) l) at (length-take-le at l a) in
    let beyond : drop r (mid_of at (length l' - at) l') ≡ drop (at + r) l =
    ap (drop r) (from_rest h k ∙ ap (λ (t : List ℕ). out ++ t) (sym (drop-drop w at l))) ∙ drop_beyond out (drop at l) w r h.count m ∙ drop-drop r at l in
    record {
      count = s.count;
      list = put_rest l' p at ∙ ap₂ (λ (x y : List ℕ). x ++ y) before (s.list ∙ ap (λ (t : List ℕ). more ++ t) beyond);
    }

-- ---- a part written in the middle: what stands before, in and beyond it

pub from_front : {l' l : List ℕ} {at r : ℕ} {out : List ℕ} → HoldsFrom l' l at r out → at + r ≤ length l → take at l' ≡ take at l
from_front {l'} {l} {at} {r} {out} h k =
    let a : at ≤ length l = omega arith in
    ap (take at) h.list ∙ take_at (take at l) (out ++ drop (at + r) l) at (length-take-le at l a)

-- the list as what was written, with what stands before it, and the rest
from_cut : {l' l : List ℕ} {at r : ℕ} {out : List ℕ} → HoldsFrom l' l at r out → l' ≡ take at l ++ out ++ drop (at + r) l
from_cut {l'} {l} {at} {r} {out} h = h.list ∙ sym (append_assoc (take at l) out (drop (at + r) l))

from_head : {l' l : List ℕ} {at r : ℕ} {out : List ℕ} → HoldsFrom l' l at r out → at + r ≤ length l → length (take at l ++ out) ≡ at + r
from_head {l'} {l} {at} {r} {out} h k =
    let a : at ≤ length l = omega arith in
    simp (length-append, length-take-le at l a) (omega (arith, h.count))

pub from_back : {l' l : List ℕ} {at r : ℕ} {out : List ℕ} → HoldsFrom l' l at r out → at + r ≤ length l → drop (at + r) l' ≡ drop (at + r) l
from_back {l'} {l} {at} {r} {out} h k = ap (drop (at + r)) (from_cut h) ∙ drop_at (take at l ++ out) (drop (at + r) l) (at + r) (from_head h k)

pub from_part : {l' l : List ℕ} {at r : ℕ} {out : List ℕ} → HoldsFrom l' l at r out → at + r ≤ length l → slice at (at + r) l' ≡ out
from_part {l'} {l} {at} {r} {out} h k =
    let a : at ≤ length l = omega arith in
    ap (λ (t : List ℕ). slice at (at + r) t) (from_cut h) ∙ ap (drop at) (take_at (take at l ++ out) (drop (at + r) l) (at + r) (from_head h k))
    ∙ drop_at (take at l) out at (length-take-le at l a)

pub from_below : {l' l : List ℕ} {at r : ℕ} {out : List ℕ} → HoldsFrom l' l at r out → at + r ≤ length l → (i : ℕ) → i < at → get_or l' i 0 ≡ get_or l i 0
from_below {l'} {l} {at} {r} {out} h k i b = sym (get_or-take at l' i 0 b) ∙ ap (λ (t : List ℕ). get_or t i 0) (from_front h k) ∙ get_or-take at l i 0 b

pub from_beyond : {l' l : List ℕ} {at r : ℕ} {out : List ℕ} → HoldsFrom l' l at r out → at + r ≤ length l → (i : ℕ) → at + r ≤ i → get_or l' i 0 ≡ get_or l i 0
from_beyond {l'} {l} {at} {r} {out} h k i b =
    let e : at + r + (i - (at + r)) ≡ i = omega arith in
    ap (λ (n : ℕ). get_or l' n 0) (sym e) ∙ sym (get_or-drop (at + r) l' (i - (at + r)) 0)
    ∙ ap (λ (t : List ℕ). get_or t (i - (at + r)) 0) (from_back h k) ∙ get_or-drop (at + r) l (i - (at + r)) 0 ∙ ap (λ (n : ℕ). get_or l n 0) e

-- one number more is written
pub from_set : {l' l : List ℕ} {at r : ℕ} {out : List ℕ} → HoldsFrom l' l at r out → at + r < length l → (v : ℕ) → HoldsFrom (set l' (at + r) v) l at (r + 1) (out ++ (v ∷ []))
from_set {l'} {l} {at} {r} {out} h k v =
    let k₀ : at + r ≤ length l = omega arith in
    let e : at + (r + 1) ≡ suc (at + r) = omega arith in
    record {
      count = omega (arith, h.count, length-append out (v ∷ []));
      list = ap (λ (t : List ℕ). set t (at + r) v) (from_cut h ∙ ap (λ (t : List ℕ). take at l ++ out ++ t) (drop-cons l (at + r) 0 k))
          ∙ set_at (take at l ++ out) (get_or l (at + r) 0) (drop (suc (at + r)) l) v (at + r) (from_head h k₀)
          ∙ rw e (append_assoc (take at l) out (v ∷ drop (suc (at + r)) l) ∙ ap (λ (t : List ℕ). take at l ++ t) (sym (append_assoc out (v ∷ []) (drop (suc (at + r)) l))));
    }

-- two parts written one behind the other
pub from_then : {l'' l' l : List ℕ} {at r n : ℕ} {out x : List ℕ} → HoldsFrom l' l at r out → at + r ≤ length l → HoldsFrom l'' l' (at + r) n x
    → HoldsFrom l'' l at (r + n) (out ++ x)
from_then {l''} {l'} {l} {at} {r} {n} {out} {x} h k s =
    record {
      count = omega (arith, h.count, s.count, length-append out x);
      list =
          s.list
          ∙ ap₂ (λ (a b : List ℕ). a ++ (x ++ b)) front back
          ∙ append_assoc (take at l) out (x ++ drop (at + (r + n)) l)
          ∙ ap (λ (t : List ℕ). take at l ++ t) (sym (append_assoc out x (drop (at + (r + n)) l)));
    }
  where
    whole : l' ≡ (take at l ++ out) ++ drop (at + r) l
    whole = h.list ∙ sym (append_assoc (take at l) out (drop (at + r) l))

    long : length (take at l ++ out) ≡ at + r
    long = length-append (take at l) out ∙ omega (arith, length-take-le at l (omega arith), h.count)

    front : take (at + r) l' ≡ take at l ++ out
    front = ap (take (at + r)) whole ∙ take_at (take at l ++ out) (drop (at + r) l) (at + r) long

    back : drop (at + r + n) l' ≡ drop (at + (r + n)) l
    back =
        let e : at + r + n ≡ at + (r + n) = omega arith in
        sym (drop-drop n (at + r) l')
        ∙ ap (drop n) (ap (drop (at + r)) whole ∙ drop_at (take at l ++ out) (drop (at + r) l) (at + r) long)
        ∙ drop-drop n (at + r) l ∙ ap (λ (i : ℕ). drop i l) e

-- ---- other parts, after a write

-- a beginning before what was written, a part below it, and one beyond it
pub take_before : {l' l : List ℕ} {at r : ℕ} {out : List ℕ} → HoldsFrom l' l at r out → at + r ≤ length l → (a : ℕ) → a ≤ at → take a l' ≡ take a l
take_before {l'} {l} {at} h k a c = sym (take-take a at l' c) ∙ ap (take a) (from_front h k) ∙ take-take a at l c

pub slice_below : {l' l : List ℕ} {at r : ℕ} {out : List ℕ} → HoldsFrom l' l at r out → at + r ≤ length l → (a b : ℕ) → b ≤ at → slice a b l' ≡ slice a b l
slice_below h k a b c = ap (drop a) (take_before h k b c)

pub drop_past : {l' l : List ℕ} {at r : ℕ} {out : List ℕ} → HoldsFrom l' l at r out → at + r ≤ length l → (a : ℕ) → at + r ≤ a → drop a l' ≡ drop a l
drop_past {l'} {l} {at} {r} h k a c =
    let e : at + r + (a - (at + r)) ≡ a = omega arith in
    rw (← e) (sym (drop-drop (a - (at + r)) (at + r) l') ∙ ap (drop (a - (at + r))) (from_back h k) ∙ drop-drop (a - (at + r)) (at + r) l)

-- the part of k numbers from a on
pub slice_part : (a k : ℕ) (l : List ℕ) → slice a (a + k) l ≡ take k (drop a l)
slice_part zero k l = let e : 0 + k ≡ k = omega arith in rw e
slice_part (suc a) k [] = let e : suc a + k ≡ suc (a + k) = omega arith in rw e (sym (nothing k))
  where
    nothing : (k : ℕ) → take {A = ℕ} k [] ≡ []
    nothing zero = refl
    nothing (suc k) = refl
slice_part (suc a) k (x ∷ l) = let e : suc a + k ≡ suc (a + k) = omega arith in rw e (slice_part a k l)

pub slice_beyond : {l' l : List ℕ} {at r : ℕ} {out : List ℕ} → HoldsFrom l' l at r out → at + r ≤ length l → (a k : ℕ) → at + r ≤ a → slice a (a + k) l' ≡ slice a (a + k) l
slice_beyond {l'} {l} h k a n c = slice_part a n l' ∙ ap (take n) (drop_past h k a c) ∙ sym (slice_part a n l)

-- a part that what was written makes longer
pub slice_more : {l' l : List ℕ} {at r : ℕ} {out : List ℕ} → HoldsFrom l' l at r out → at + r ≤ length l → (a : ℕ) → a ≤ at → slice a (at + r) l' ≡ slice a at l ++ out
slice_more {l'} {l} {at} {r} {out} h k a c =
    ap (drop a) (ap (take (at + r)) (from_cut h) ∙ take_at (take at l ++ out) (drop (at + r) l) (at + r) (from_head h k))
    ∙ drop-append-le a (take at l) out (omega (arith, length-take-le at l (omega arith)))

-- ---- where two lists are the same from k on, so are their parts there

module _ (l' l : List ℕ) (k : ℕ) (e : drop k l' ≡ drop k l) where
  pub rest_drop : (a : ℕ) → k ≤ a → drop a l' ≡ drop a l
  rest_drop a h =
      let s : k + (a - k) ≡ a = omega arith in
      rw (← s) (sym (drop-drop (a - k) k l') ∙ ap (drop (a - k)) e ∙ drop-drop (a - k) k l)

  pub rest_get_d : (a : ℕ) → k ≤ a → get_or l' a 0 ≡ get_or l a 0
  rest_get_d a h =
      let s : a + 0 ≡ a = omega arith in
      ap (λ (i : ℕ). get_or l' i 0) (sym s)
      ∙ sym (get_or-drop a l' 0 0) ∙ ap (λ (t : List ℕ). get_or t 0 0) (rest_drop a h) ∙ get_or-drop a l 0 0
      ∙ ap (λ (i : ℕ). get_or l i 0) s

  pub rest_slice : (a m : ℕ) → k ≤ a → slice a (a + m) l' ≡ slice a (a + m) l
  rest_slice a m h = slice_part a m l' ∙ ap (take m) (rest_drop a h) ∙ sym (slice_part a m l)

-- ---- the loops of the leaves: one number more of a copy, of a part copied down, in its order or the last first, and of a fill

pub copy_more : (d d₀ s : List ℕ) (at i : ℕ) → HoldsFrom d d₀ at i (take i s) → at + length s ≤ length d₀ → i < length s
    → HoldsFrom (set d (at + i) (get_or s i 0)) d₀ at (i + 1) (take (i + 1) s)
copy_more d d₀ s at i h r b =
    subst (HoldsFrom (set d (at + i) (get_or s i 0)) d₀ at (i + 1)) (sym (rw add-one (take-suc s i 0 b))) (from_set h (omega arith) (get_or s i 0))

pub copy_done : (d d₀ s : List ℕ) (at i n : ℕ) → HoldsFrom d d₀ at i (take i s) → i ≡ n → length s ≡ n → HoldsFrom d d₀ at n s
copy_done d d₀ s at i n h e k =
    subst (λ (m : ℕ). HoldsFrom d d₀ at m s) e (subst (HoldsFrom d d₀ at i) (take_all i s (omega arith)) h)

pub part_length : (a k : ℕ) (l : List ℕ) → a + k ≤ length l → length (slice a (a + k) l) ≡ k
part_length a k l h = length-slice a (a + k) l h ∙ omega arith

-- what is read beyond what was written is as it was
pub read_beyond : {d d₀ : List ℕ} {at i : ℕ} {out : List ℕ} (from n j : ℕ) → HoldsFrom d d₀ at i out → at + n ≤ from → from + n ≤ length d₀ → i ≤ n → j < n
    → get_or d (from + j) 0 ≡ get_or (slice from (from + n) d₀) j 0
read_beyond {d₀ = d₀} from n j h a b k c =
    from_beyond h (omega arith) (from + j) (omega arith)
    ∙ sym (ap (λ (t : List ℕ). get_or t j 0) (slice_part from n d₀) ∙ get_or-take n (drop from d₀) j 0 c ∙ get_or-drop from d₀ j 0)

pub down_more : (d d₀ : List ℕ) (from at n i : ℕ) → HoldsFrom d d₀ at i (take i (slice from (from + n) d₀)) → at + n ≤ from → from + n ≤ length d₀ → i < n
    → HoldsFrom (set d (at + i) (get_or d (from + i) 0)) d₀ at (i + 1) (take (i + 1) (slice from (from + n) d₀))
down_more d d₀ from at n i h a b c =
    let k : length (slice from (from + n) d₀) ≡ n = part_length from n d₀ (omega arith) in
    rw (read_beyond from n i h a b (omega arith) c) (copy_more d d₀ (slice from (from + n) d₀) at i h (omega arith) (omega arith))

-- a number of a list that is turned round
pub get_d_back : (l : List ℕ) (i j : ℕ) → i + j + 1 ≡ length l → get_or (reverse l) i 0 ≡ get_or l j 0
get_d_back [] i j e = absurd (omega arith)
get_d_back (a ∷ l) i zero e =
    let n : length (reverse l) ≡ i = omega (arith, length-reverse l) in
    ap (λ (t : List ℕ). get_or t i 0) (reverse-cons a l)
    ∙ ap (λ (k : ℕ). get_or (reverse l ++ (a ∷ [])) k 0) (sym n) ∙ get_or-append_seam (reverse l) a [] 0
get_d_back (a ∷ l) i (suc j) e =
    ap (λ (t : List ℕ). get_or t i 0) (reverse-cons a l)
    ∙ get_or-append (reverse l) (a ∷ []) 0 i (omega (arith, length-reverse l)) ∙ get_d_back l i j (omega arith)

pub back_more : (d d₀ : List ℕ) (from at n i : ℕ) → HoldsFrom d d₀ at i (take i (reverse (slice from (from + n) d₀))) → at + n ≤ from → from + n ≤ length d₀ → i < n
    → HoldsFrom (set d (at + i) (get_or d (from + (n - 1 - i)) 0)) d₀ at (i + 1) (take (i + 1) (reverse (slice from (from + n) d₀)))
back_more d d₀ from at n i h a b c =
    let l = slice from (from + n) d₀ in
    let k : length l ≡ n = part_length from n d₀ (omega arith) in
    let e : i + (n - 1 - i) + 1 ≡ length l = omega arith in
    let same : get_or d (from + (n - 1 - i)) 0 ≡ get_or (reverse l) i 0 =
    read_beyond from n (n - 1 - i) h a b (omega arith) (omega arith) ∙ sym (get_d_back l i (n - 1 - i) e) in
    rw same (copy_more d d₀ (reverse l) at i h (omega (arith, length-reverse l)) (omega (arith, length-reverse l)))

pub fill_more : (d d₀ : List ℕ) (at i v : ℕ) → HoldsFrom d d₀ at i (replicate i v) → at + i < length d₀ → HoldsFrom (set d (at + i) v) d₀ at (i + 1) (replicate (i + 1) v)
fill_more d d₀ at i v h r =
    subst (HoldsFrom (set d (at + i) v) d₀ at (i + 1)) (replicate-append-replicate i 1 v) (from_set h r v)

-- ---- two numbers stored, and a part of another slice

pub two_put : (l : List ℕ) (at x y : ℕ) → at + 2 ≤ length l → HoldsFrom (set (set l at x) (at + 1) y) l at 2 (x ∷ y ∷ [])
two_put l at x y h =
    let one : HoldsFrom (set l at x) l at 1 (x ∷ []) = rw add-zero at (from_set (from_start l at) (omega arith) x) in
    from_set one (omega arith) y

pub part_stored : {l' l : List ℕ} {h : ℕ} (src : List ℕ) (j n : ℕ) → j + n ≤ length src
    → HoldsFrom l' l h (length (mid_of j (j + n - j) src)) (mid_of j (j + n - j) src) → HoldsFrom l' l h n (take n (drop j src))
part_stored {l'} {l} {h} src j n b s =
    let e : j + n - j ≡ n = omega arith in
    let s' : HoldsFrom l' l h (length (take n (drop j src))) (take n (drop j src)) = subst (λ (i : ℕ). HoldsFrom l' l h (length (mid_of j i src)) (mid_of j i src)) e s in
    subst (λ (i : ℕ). HoldsFrom l' l h i (take n (drop j src))) (length-take-le n (drop j src) (omega (arith, length-drop j src))) s'

-- one number more of a part of another slice, stored by itself, and a part of three and of four so
pub part_more : {d l : List ℕ} {at i : ℕ} (src : List ℕ) (j : ℕ) → HoldsFrom d l at i (take i (drop j src)) → at + i < length l → j + i < length src
    → HoldsFrom (set d (at + i) (get_or src (j + i) 0)) l at (i + 1) (take (i + 1) (drop j src))
part_more {d} {l} {at} {i} src j h r b =
    let one : HoldsFrom (set d (at + i) (get_or (drop j src) i 0)) l at (i + 1) (take (i + 1) (drop j src)) =
    subst (HoldsFrom (set d (at + i) (get_or (drop j src) i 0)) l at (i + 1)) (sym (rw add-one (take-suc (drop j src) i 0 (omega (arith, length-drop j src)))))
    (from_set h r (get_or (drop j src) i 0)) in
    subst (λ (v : ℕ). HoldsFrom (set d (at + i) v) l at (i + 1) (take (i + 1) (drop j src))) (get_or-drop j src i 0) one

module _ (l src : List ℕ) (at j : ℕ) where
  pub three_put : at + 3 ≤ length l → j + 3 ≤ length src
      → HoldsFrom (set (set (set l at (get_or src j 0)) (at + 1) (get_or src (j + 1) 0)) (at + 2) (get_or src (j + 2) 0)) l at 3 (take 3 (drop j src))
  three_put h k =
      let one : HoldsFrom (set l at (get_or src j 0)) l at 1 (take 1 (drop j src)) =
      rw (add-zero at, add-zero j) at (part_more src j (from_start l at) (omega arith) (omega arith)) in
      part_more src j (part_more src j one (omega arith) (omega arith)) (omega arith) (omega arith)

  pub four_put : at + 4 ≤ length l → j + 4 ≤ length src
      → HoldsFrom (set (set (set (set l at (get_or src j 0)) (at + 1) (get_or src (j + 1) 0)) (at + 2) (get_or src (j + 2) 0)) (at + 3) (get_or src (j + 3) 0)) l at 4 (take 4 (drop j src))
  four_put h k = part_more src j (three_put (omega arith) (omega arith)) (omega arith) (omega arith)

-- a part of another slice, and more of it behind that
pub part_then : {d' d l : List ℕ} {at i n : ℕ} (src : List ℕ) (j w : ℕ) → HoldsFrom d l at i (take i (drop j src)) → at + i ≤ length l
    → HoldsFrom d' d (at + i) n (take n (drop (j + i) src)) → i + n ≡ w → HoldsFrom d' l at w (take w (drop j src))
part_then {d'} {d} {l} {at} {i} {n} src j w a h b e =
    subst (λ (m : ℕ). HoldsFrom d' l at m (take m (drop j src))) e
    (subst (HoldsFrom d' l at (i + n)) (sym (take-add i n (drop j src) ∙ ap (λ (t : List ℕ). take i (drop j src) ++ take n t) (drop-drop i j src))) (from_then a h b))

-- ---- a slice cut in two: the part before `from` is written with the first n numbers of the other
pub down_held : (l d f b : List ℕ) (from at n : ℕ) → at + n ≤ from → from + n ≤ length l → f ≡ take from l → b ≡ drop from l
    → HoldsFrom d f at (length (take n b)) (take n b) → HoldsFrom (d ++ b) l at n (slice from (from + n) l)
down_held l d f b from at n h k e g s =
    let q : slice from (from + n) l ≡ take n b = slice_part from n l ∙ ap (take n) (sym g) in
    let m : length (take n b) ≡ n = ap length (sym q) ∙ part_length from n l k in
    let front : take at f ≡ take at l = ap (take at) e ∙ take-take at from l (omega arith) in
    let beyond : drop (at + length (take n b)) f ++ b ≡ drop (at + n) l =
    ap₂ (λ (t u : List ℕ). drop (at + length (take n b)) t ++ u) e g ∙ ap (λ (x : ℕ). drop (at + x) (take from l) ++ drop from l) m
    ∙ sym (drop-append-le (at + n) (take from l) (drop from l) (omega (arith, length-take-le from l (omega arith)))) ∙ ap (drop (at + n)) (take-append-drop from l) in
    record {
      count = sym (ap length q ∙ m);
      list = ap (λ (t : List ℕ). t ++ b) s.list
          ∙ append_assoc (take at f) (take n b ++ drop (at + length (take n b)) f) b
          ∙ ap₂ (λ (x y : List ℕ). x ++ y) front (append_assoc (take n b) (drop (at + length (take n b)) f) b ∙ ap₂ (λ (x y : List ℕ). x ++ y) (sym q) beyond);
    }
