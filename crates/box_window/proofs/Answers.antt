-- The window question's answers: refused with 18, refused with 7, and accepted with the number of the chains listed.
use Prim.Native.Nat.{ℕ, suc, ◌+◌, ◌*◌, ◌^◌, ◌≤◌, ◌<◌}
use mathlib.Core.Path.{◌≡◌, refl}
use mathlib.Core.Bool.{Bool, true, false, ◌||◌}
use mathlib.Core.List.{List}
use borrow.Author.Tests.{lt-ltb, le-ltb}
use lib.Dec.{ltb}
use lib.ListN.{length}
use Rattle.rules.specs.Refusals.{first_of}
use Rattle.rules.specs.Calls.{answer_of, unless, written}
use Rattle.rules.specs.Answers.{Accepted, Refused}
use Rattle.point_slices.specs.Holds.{Holds}
use Rattle.rules.specs.Windows.{LentBoxes, window_bad, window_refusal_of, found_of, Windowed}

or_true : (a b : Bool) → b ≡ true → a || b ≡ true
or_true true b e = refl
or_true false b e = e

module _ (i : LentBoxes) where
  window_refused : (k : ℕ) → window_refusal_of i ≡ suc k → Windowed i (Refused (suc k)) i.found
  unfolding answer_of unless
  window_refused k e = record { answer = rw e; found = rw e }

  pub refused_18 : window_bad i.window ≡ true → Windowed i (Refused 18) i.found
  unfolding window_refusal_of first_of
  refused_18 e = window_refused 17 (rw (e, first_of))

  module _ (good : window_bad i.window ≡ false) where
    seven : (ltb (length i.boxes) (i.k * 8 + 64) || (ltb (length i.found) i.k || ltb (2 ^ 32) i.k)) ≡ true → Windowed i (Refused 7) i.found
    unfolding window_refusal_of first_of
    seven e = window_refused 6 (rw (good, e, first_of))

    pub few_boxes : length i.boxes < i.k * 8 + 64 → Windowed i (Refused 7) i.found
    few_boxes h = seven (rw (lt-ltb (length i.boxes) (i.k * 8 + 64) h))

    pub few_found : length i.found < i.k → Windowed i (Refused 7) i.found
    few_found h = seven (or_true (ltb (length i.boxes) (i.k * 8 + 64)) (ltb (length i.found) i.k || ltb (2 ^ 32) i.k) (rw (lt-ltb (length i.found) i.k h)))

    pub too_many : 2 ^ 32 < i.k → Windowed i (Refused 7) i.found
    too_many h =
        seven
        (or_true (ltb (length i.boxes) (i.k * 8 + 64)) (ltb (length i.found) i.k || ltb (2 ^ 32) i.k) (or_true (ltb (length i.found) i.k) (ltb (2 ^ 32) i.k) (lt-ltb (2 ^ 32) i.k h)))

    pub accepted : i.k * 8 + 64 ≤ length i.boxes → i.k ≤ length i.found → i.k ≤ 2 ^ 32 → (found' : List ℕ) (r : ℕ)
        → Holds found' i.found r (found_of i) → Windowed i (Accepted r) found'
    unfolding answer_of unless written window_refusal_of first_of
    accepted a b c found' r h =
        let e : window_refusal_of i ≡ 0 = rw (good, le-ltb (length i.boxes) (i.k * 8 + 64) a, le-ltb (length i.found) i.k b, le-ltb (2 ^ 32) i.k c, first_of) in
        record { answer = rw (e, ← h.count); found = rw (e, ← h.count) h.list }
