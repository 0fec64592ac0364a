-- A number's bytes stand for the number, and the number that bytes stand for has those bytes, in either order.
use Prim.Native.Nat.{ℕ, zero, suc, ◌+◌, ◌*◌, ◌/◌, ◌%◌, ◌<◌}
use mathlib.Core.Path.{◌≡◌, refl, sym, ap, ap₂, ◌∙◌}
use mathlib.Core.List.{List, [], ◌∷◌, ◌++◌, reverse, reverse-cons, reverse-reverse}
use native.Mathlib.Omega.{arith}
use lib.ListN.{length, take, drop, length-reverse}
use Rattle.rules.specs.Wkb.{little, number_by, little_bytes, bytes_by}
use Rattle.wkb_trips.specs.Trips.{Below}

-- how many numbers k bytes have
abbrev pub most : ℕ → ℕ
most zero = 1
most (suc k) = 256 * most k

little_of_bytes : (k n : ℕ) → n < most k → little (little_bytes k n) ≡ n
unfolding little little_bytes
little_of_bytes zero n h = omega arith
little_of_bytes (suc k) n h =
    let m : ℕ = most k in
    let b : n / 256 < most k = omega arith in
    omega (arith, ap (λ (x : ℕ). 256 * x) (little_of_bytes k (n / 256) b))

bytes_of_little : (l : List ℕ) → Below 256 l → little_bytes (length l) (little l) ≡ l
unfolding little little_bytes Below
bytes_of_little [] h = refl
bytes_of_little (b ∷ l) h =
    let s = h.0 in
    let e : (b + 256 * little l) % 256 ≡ b = omega arith in
    let f : (b + 256 * little l) / 256 ≡ little l = omega arith in
    ap₂ (λ (x : ℕ) (t : List ℕ). x ∷ t) e (ap (little_bytes (length l)) f ∙ bytes_of_little l h.1)

pub number_of_bytes : (o k n : ℕ) → n < most k → number_by o (bytes_by o k n) ≡ n
unfolding number_by bytes_by
number_of_bytes zero k n h = ap little (reverse-reverse (little_bytes k n)) ∙ little_of_bytes k n h
number_of_bytes (suc o) k n h = little_of_bytes k n h

-- ---- numbers below a bound, in parts

pub below_append : (b : ℕ) (x y : List ℕ) → Below b x → Below b y → Below b (x ++ y)
unfolding Below
below_append b [] y h k = k
below_append b (n ∷ x) y h k = (h.0, below_append b x y h.1 k)

pub below_take : (b n : ℕ) (l : List ℕ) → Below b l → Below b (take n l)
unfolding Below
below_take b zero l h = tt
below_take b (suc n) [] h = tt
below_take b (suc n) (x ∷ l) h = (h.0, below_take b n l h.1)

pub below_drop : (b n : ℕ) (l : List ℕ) → Below b l → Below b (drop n l)
unfolding Below
below_drop b zero l h = h
below_drop b (suc n) [] h = tt
below_drop b (suc n) (x ∷ l) h = below_drop b n l h.1

below_reverse : (b : ℕ) (l : List ℕ) → Below b l → Below b (reverse l)
unfolding Below
below_reverse b [] h = tt
below_reverse b (x ∷ l) h = rw (reverse-cons x l) (below_append b (reverse l) (x ∷ []) (below_reverse b l h.1) (h.0, tt))

pub bytes_of_number : (o : ℕ) (l : List ℕ) → Below 256 l → bytes_by o (length l) (number_by o l) ≡ l
unfolding number_by bytes_by
bytes_of_number zero l h =
    ap reverse (ap (λ (n : ℕ). little_bytes n (little (reverse l))) (sym (length-reverse l)) ∙ bytes_of_little (reverse l) (below_reverse 256 l h)) ∙ reverse-reverse l
bytes_of_number (suc o) l h = bytes_of_little l h
