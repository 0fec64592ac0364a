-- What `leading` and `guess` answer, to the last bit: each operation is that of lib.Ieee on doubles, in the order of the code.
use Rattle.std.specs.Prelude.{false, ◌&&◌, cond, ℕ, ◌+◌, ◌-◌, ◌*◌, ◌/◌, ◌^◌, leb, pos, Float}
use Rattle.std.specs.Float.{binary64}
use Rattle.std.specs.Float.Ieee.{round, of_int, add, mul, div}
use Rattle.float_bits.specs.Bits.{bits_of}

-- How far the bits n stand above those of 1/2, which for a double from 1 to 2 is the double times 2 ^ 52; and 2 where that is not from 2 to 2 ^ 53.
unfoldable pub leading_of : ℕ → ℕ
leading_of n = cond (leb (1022 * 2 ^ 52 + 2) n && leb n (1024 * 2 ^ 52)) (n - 1022 * 2 ^ 52) 2

-- the sum of two doubles
abbrev pub plus : Float → Float → Float
plus a b = add binary64 a b

-- the product of two doubles
abbrev pub times : Float → Float → Float
times a b = mul binary64 a b

-- the double nearest to n / d
unfoldable pub fraction : ℕ → ℕ → Float
unfolding round
fraction n d = round binary64 false n d

-- x: half of w, without its fraction, divided by 2 ^ 51, which is w / 2 ^ 52 but for w's last digit
unfoldable pub radicand : ℕ → Float
radicand w = div binary64 (of_int binary64 (pos (w / 2))) (fraction (2 ^ 51) 1)

-- y: what the straight line nearest to the root has at x
unfoldable pub start : Float → Float
start x = plus (fraction 6862915003646809 (10 ^ 16)) (times x (fraction 34314575018234034 (10 ^ 17)))

-- t: a step of the fifth order from y to the root of x, where s is the square of y, a that of s, p ten times s by x, and q the square of x
unfoldable pub step : Float → Float → Float
step x y =
    let s = times y y in
    let a = times s s in
    let p = times (times s x) (fraction 10 1) in
    let q = times x x in
    div binary64 (times y (plus (plus a p) (times q (fraction 5 1)))) (plus (plus (times a (fraction 5 1)) p) q)

-- the mean of t and x / t, which is Newton's step from t to the root of x
unfoldable pub mean : Float → Float → Float
mean x t = times (plus t (div binary64 x t)) (fraction 1 2)

-- the digits that these steps give, one after the other
unfoldable pub guess_of : ℕ → ℕ
guess_of w = let x = radicand w in leading_of (bits_of (mean x (step x (start x))))
