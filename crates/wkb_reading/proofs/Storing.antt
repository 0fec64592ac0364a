-- Storing a run record by record. What is written so far and what the records that are left give is the whole; so the end is the whole, and each step
-- has room.
use Prim.Native.Nat.{ℕ, ◌+◌, ◌-◌, ◌/◌, ◌≤◌, ◌<◌}
use mathlib.Core.Path.{◌≡◌, refl, sym, ap, ◌∙◌, subst}
use mathlib.Core.List.{List, [], ◌∷◌, ◌++◌, append_assoc, append-nil}
use native.Mathlib.Omega.{arith}
use lib.ListN.{length, take, drop, get_or, set, length-append, length-set}
use Rattle.rules.specs.Lists.{total}
use Rattle.point_slices.specs.Holds.{Holds, HoldsFrom}
use Rattle.point_slices.proofs.Laws.{from_length}
use Rattle.point_slices.proofs.Beginnings.{holds_more, holds_set, whole}
use Rattle.rules.specs.Wkb.{count_of, doubles_of, records_of, records_refusal, coordinates_of, counts_of}
use Rattle.wkb_records.proofs.Records.{record_numbers, records_none, first_good}
use Rattle.wkb_reading.specs.Storing.{Headed, Storable, RunStored}
use Rattle.wkb_reading.proofs.Laws.{next, total_drop}

-- ---- the headers

pub headed : (t : ℕ) (l : List (List ℕ)) → records_refusal t l ≡ 0 → Headed l
unfolding Headed
headed t [] e = tt
headed t (r ∷ l) e = let g = first_good t r l e in (g.0.headed, headed t l g.1)

head_first : (r : List ℕ) (l : List (List ℕ)) → Headed (r ∷ l) → (9 ≤ length r) × Headed l
unfolding Headed
head_first r l h = h

-- ---- the loop

pub record Storing (run lengths coordinates₀ counts₀ coordinates counts : List ℕ) (at have i : ℕ) : Type 0 where
  pub few : i ≤ length lengths
  pub place : at + total (drop i lengths) ≡ length run
  pub heads : Headed (records_of (drop i lengths) (drop at run))
  pub same_numbers : length coordinates ≡ length coordinates₀
  pub same_tally : length counts ≡ length counts₀
  pub numbers : List ℕ
  pub holds : Holds coordinates coordinates₀ have numbers
  pub numbers_left : numbers ++ coordinates_of (records_of (drop i lengths) (drop at run)) ≡ coordinates_of (records_of lengths run)
  pub tally : List ℕ
  pub held : Holds counts counts₀ i tally
  pub tally_left : tally ++ counts_of (records_of (drop i lengths) (drop at run)) ≡ counts_of (records_of lengths run)

pub start : (run lengths coordinates counts : List ℕ) → Storable run lengths coordinates counts → Storing run lengths coordinates counts coordinates counts 0 0 0
start run lengths coordinates counts s = record {
  few = omega arith;
  place = omega (arith, s.adds);
  heads = s.headed;
  same_numbers = refl;
  same_tally = refl;
  numbers = [];
  holds = record { count = refl; list = refl };
  numbers_left = refl;
  tally = [];
  held = record { count = refl; list = refl };
  tally_left = refl;
}

coordinates_cons : (r : List ℕ) (l : List (List ℕ)) → coordinates_of (r ∷ l) ≡ doubles_of r ++ coordinates_of l
unfolding coordinates_of
coordinates_cons r l = refl

counts_cons : (r : List ℕ) (l : List (List ℕ)) → counts_of (r ∷ l) ≡ count_of r ∷ counts_of l
unfolding counts_of
counts_cons r l = refl

module _ {run lengths coordinates₀ counts₀ coordinates counts : List ℕ} {at have i : ℕ}
    (s : Storing run lengths coordinates₀ counts₀ coordinates counts at have i) (b : i < length lengths) where
  -- the record that is next, as the code lends it
  abbrev pub part : List ℕ
  part = take (at + get_or lengths i 0 - at) (drop at run)

  abbrev others : List (List ℕ)
  others = records_of (drop (i + 1) lengths) (drop (at + get_or lengths i 0) run)

  pub inside : at + get_or lengths i 0 ≤ length run
  inside = omega (arith, s.place, total_drop lengths i b)

  both : (9 ≤ length part) × Headed others
  both = head_first part others (subst Headed (next lengths run i at b) s.heads)

  pub part_headed : 9 ≤ length part
  part_headed = both.0

  numbers_next : (s.numbers ++ doubles_of part) ++ coordinates_of others ≡ coordinates_of (records_of lengths run)
  numbers_next =
      append_assoc s.numbers (doubles_of part) (coordinates_of others)
      ∙ ap (λ (t : List ℕ). s.numbers ++ t) (sym (ap coordinates_of (next lengths run i at b) ∙ coordinates_cons part others)) ∙ s.numbers_left

  tally_next : (s.tally ++ (count_of part ∷ [])) ++ counts_of others ≡ counts_of (records_of lengths run)
  tally_next =
      append_assoc s.tally (count_of part ∷ []) (counts_of others)
      ∙ ap (λ (t : List ℕ). s.tally ++ t) (sym (ap counts_of (next lengths run i at b) ∙ counts_cons part others)) ∙ s.tally_left

  pub room : length (coordinates_of (records_of lengths run)) ≤ length coordinates₀ → have + (length part - 9) / 8 ≤ length coordinates
  room k =
      let e : length ((s.numbers ++ doubles_of part) ++ coordinates_of others) ≡ length (coordinates_of (records_of lengths run)) = ap length numbers_next in
      omega (arith, e, length-append (s.numbers ++ doubles_of part) (coordinates_of others), length-append s.numbers (doubles_of part), record_numbers part, s.holds.count, s.same_numbers)

  pub step : {coordinates' : List ℕ} {count end : ℕ} → Storable run lengths coordinates₀ counts₀ → count ≡ count_of part → end ≡ have + (length part - 9) / 8
      → HoldsFrom coordinates' coordinates have ((length part - 9) / 8) (doubles_of part)
      → Storing run lengths coordinates₀ counts₀ coordinates' (set counts i count) (at + get_or lengths i 0) end (i + 1)
  step {coordinates'} {count} {end} a c e h = record {
    few = omega arith;
    place = omega (arith, s.place, total_drop lengths i b);
    heads = both.1;
    same_numbers = from_length h (room a.room) ∙ s.same_numbers;
    same_tally = simp length-set s.same_tally;
    numbers = s.numbers ++ doubles_of part;
    holds = subst (λ (n : ℕ). Holds coordinates' coordinates₀ n (s.numbers ++ doubles_of part)) (sym e) (holds_more s.holds h);
    numbers_left = numbers_next;
    tally = s.tally ++ (count_of part ∷ []);
    held = subst (λ (n : ℕ). Holds (set counts i n) counts₀ (i + 1) (s.tally ++ (count_of part ∷ []))) (sym c) (holds_set s.held (omega (arith, a.rows)) (count_of part));
    tally_left = tally_next;
  }

pub stop : {run lengths coordinates₀ counts₀ coordinates counts : List ℕ} {at have i : ℕ}
    → Storing run lengths coordinates₀ counts₀ coordinates counts at have i → length lengths ≤ i → RunStored run lengths coordinates coordinates₀ counts counts₀
unfolding coordinates_of counts_of
stop {run} {lengths} {coordinates₀} {counts₀} {coordinates} {counts} {at} {have} {i} s b = record {
  numbers = whole s.holds (sym (append-nil s.numbers) ∙ ap (λ (t : List ℕ). s.numbers ++ t) (sym nothing) ∙ s.numbers_left);
  tally = whole s.held (sym (append-nil s.tally) ∙ ap (λ (t : List ℕ). s.tally ++ t) (sym none) ∙ s.tally_left);
}
  where
    nothing : coordinates_of (records_of (drop i lengths) (drop at run)) ≡ []
    nothing = ap coordinates_of (records_none lengths (drop at run) i b)

    none : counts_of (records_of (drop i lengths) (drop at run)) ≡ []
    none = ap counts_of (records_none lengths (drop at run) i b)
