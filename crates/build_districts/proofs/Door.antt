-- 02 [10] at the door: a host knows an accepted call by a number that counts up from 0, below 2^63; so the law of two accepted calls is one of two such
-- numbers.
use Prim.Native.Nat.{ℕ, zero, suc, ◌^◌, ◌≤◌, ◌<◌, zero-le}
use mathlib.Core.Path.{◌≡◌, refl, sym, subst}
use mathlib.Core.Bool.{Bool, true, false, ◌&&◌, and-eq-true_iff}
use mathlib.Core.List.{List, [], ◌∷◌, ◌++◌}
use native.Mathlib.Omega.{arith}
use lib.Dec.{leb}
use borrow.Author.Tests.{leb-true}
use Rattle.rules.specs.Answers.{Answer}
use Rattle.rules.specs.Answers.{Accepted, Refused}
use Rattle.rules.specs.declared.Settings.{Settings}
use Rattle.rules.specs.Types.{width_of}
use Rattle.rules.specs.Layout.{Lines, lines_in}
use Rattle.rules.specs.Refusals.{Rooms, refusal_of, first_of, line_tests}
use Rattle.rules.specs.Calls.{unless, answer_of, number_of, Numbered, built_of, Built}
use Rattle.chain_districts.specs.Districts.{district_lines}
use Rattle.build_refusals.proofs.Laws.{rest_tests, opened}
use Rattle.build_reading.specs.Reading.{read_all}
use Rattle.build_districts.specs.Reading.{district_read}
use Rattle.build_districts.proofs.Calls.{calls_district}

-- ---- refusals are small

abbrev most_refusal : ℕ
most_refusal = 26

abbrev below : ℕ → List (ℕ × Bool) → Bool
below m [] = true
below m (t ∷ l) = leb t.0 m && below m l

first_small : (m : ℕ) (l : List (ℕ × Bool)) → below m l ≡ true → first_of l ≤ m
unfolding first_of
first_small m [] h = zero-le
first_small m (t ∷ l) h =
    let s = (and-eq-true_iff (leb t.0 m) (below m l)).0 h in
    go t.1 refl (leb-true t.0 m s.0) (first_small m l s.1)
  where
    go : (b : Bool) → t.1 ≡ b → t.0 ≤ m → first_of l ≤ m → first_of (t ∷ l) ≤ m
    go true q here later = rw (q, first_of) here
    go false q here later = rw (q, first_of) later

refusal_small : (t : ℕ) (l : Lines) (s : Settings) (o : Rooms) → refusal_of t l s o ≤ most_refusal
refusal_small t l s o = subst (λ (k : ℕ). k ≤ most_refusal) (sym (opened t l s o).is) (first_small most_refusal (line_tests t l ++ rest_tests l s o) refl)

refused_is : (refusal result k : ℕ) → Refused k ≡ answer_of refusal result → k ≡ refusal
unfolding answer_of unless
refused_is zero result k e = let z : ◌≡◌ {A = ℕ} 0 1 = cc in absurd (omega arith)
refused_is (suc m) result k e = cc

-- ---- a number below 2^63 is an accepted call's

pub counted_up : {t : ℕ} {l : Lines} {s : Settings} {o o' : Rooms} {r : ℕ} → Numbered (λ a. Built t l s o a o') r → r < 2 ^ 63 → Built t l s o (Accepted r) o'
unfolding number_of
counted_up {t} {l} {s} {o} {o'} {r} n h = go n.answer n.number n.determined
  where
    go : (a : Answer) → r ≡ number_of a → Built t l s o a o' → Built t l s o (Accepted r) o'
    go (Accepted k) e b = subst (λ (x : ℕ). Built t l s o (Accepted x) o') (sym e) b
    go (Refused k) e b = absurd (omega (arith, refused_is (refusal_of t l s o) (built_of t l s).number k b.answer, refusal_small t l s o))

-- TWO CALLS AT THE DOOR that answer by counting up: one district's chains as a host reads them are the same
pub door_district : (d : ℕ) {t : ℕ} {l m : Lines} {s : Settings} {o o' u u' : Rooms} {a b : ℕ}
    → district_lines d (lines_in (width_of t) l) ≡ district_lines d (lines_in (width_of t) m)
    → Numbered (λ r. Built t l s o r o') a
    → Numbered (λ r. Built t m s u r u') b
    → a < 2 ^ 63
    → b < 2 ^ 63
    → district_read d l.groups (read_all t l.coordinates o' a) ≡ district_read d m.groups (read_all t m.coordinates u' b)
door_district d same one two h k = calls_district d same (counted_up one h) (counted_up two k)
