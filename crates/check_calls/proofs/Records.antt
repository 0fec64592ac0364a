-- Records one after another: which are bad, what a good one gives, and how often a line is listed in all.
use Prim.Native.Nat.{ℕ, zero, suc, ◌+◌, ◌-◌, ◌*◌, ◌≤◌, ◌<◌}
use mathlib.Core.Path.{◌≡◌, refl, sym, ap, ap₂, ◌∙◌}
use mathlib.Core.Bool.{Bool, true, false, ◌||◌}
use mathlib.Core.List.{List, [], ◌∷◌, flat_map}
use native.Mathlib.Decide.{dec_lt}
use native.Mathlib.Omega.{arith}
use native.Mathlib.Nat.{add-mul}
use lib.Dec.{leb, ltb}
use lib.ListN.{length, get_or, take, drop, length-take, length-drop}
use borrow.Author.Tests.{lt-ltb, le-ltb, ltb-false, leb-false}
use Rattle.rules.specs.Lists.{one, count, upto, any_of}
use Rattle.rules.specs.Refusals.{entry, no_chain, source_of, record_size, most_lines}
use Rattle.rules.specs.Check.{listed_at}
use Rattle.point_numbers.specs.Width.{Whole}
use Rattle.chain_laws.proofs.Counts.{one_other, pigeon}
use Rattle.build_question.specs.Parts.{part_of}
use Rattle.build_question.proofs.Laws.{stands, part_there}
use Rattle.lent_laws.proofs.Tests.{flat_suc, flat_none}
use Rattle.check_laws.proofs.Rows.{none_each, upto_at}
use Rattle.check_laws.proofs.Tests.{or_no, or_yes}
use Rattle.check_lines.specs.Lines.{Below, mark}
use Rattle.check_calls.specs.Deliveries.{bad_at, RecordFine}

-- ---- a line that is listed is below n

pub count_below : (n y : ℕ) (l : List ℕ) → Below n l → 0 < count y l → y < n
unfolding count
count_below n y [] b h = absurd (omega arith)
count_below n y (a ∷ l) b h =
    elim (native.Mathlib.Decide.ℕ_discrete y a) [
      | yes q ↦ let c : a < n = b 0 (omega arith) in omega arith
      | no q ↦ count_below n y l (λ i k. b (suc i) (omega arith)) (omega (arith, one_other y a q))
    ]

pub flat_below : (n : ℕ) (f : ℕ → List ℕ) (k : ℕ) → ((j : ℕ) → j < k → Below n (f j)) → (y : ℕ) → 0 < count y (flat_map f (upto k)) → y < n
flat_below n f zero b y h = absurd (omega (arith, flat_none f y))
flat_below n f (suc k) b y h =
    elim (dec_lt 0 (count y (f k))) [
      | yes q ↦ count_below n y (f k) (b k (omega arith)) q
      | no q ↦ flat_below n f k (λ j c. b j (omega arith)) y (omega (arith, flat_suc f k y))
    ]

-- lines that are listed once each are not more than there are
pub few_listed : (n : ℕ) (l : List ℕ) → n ≤ most_lines → Below n l → ((y : ℕ) → y < most_lines → count y l ≤ 1) → length l ≤ most_lines
few_listed n l h b o =
    omega (arith, pigeon n l once (λ y c. count_below n y l b c))
  where
    once : (y : ℕ) → count y l ≤ 1
    once y =
        elim (dec_lt y most_lines) [
          | yes q ↦ o y q
          | no q ↦
              elim (dec_lt 0 (count y l)) [
                | yes c ↦ absurd (omega (arith, count_below n y l b c))
                | no c ↦ omega arith
              ]
        ]

-- a mark stands for one line at most
pub mark_few : (seen : List Bool) (y : ℕ) → mark seen y ≤ 1
mark_few seen y = one_few (get_or seen y false)
  where
    one_few : (b : Bool) → one b ≤ 1
    one_few true = omega arith
    one_few false = omega arith

-- ---- a good record

or_off : (a b : Bool) → (a || b) ≡ false → (a ≡ false) × (b ≡ false)
or_off true b e = let z : ◌≡◌ {A = ℕ} 0 1 = cc in absurd (omega arith)
or_off false b e = (refl, e)

module _ (w n : ℕ) (coordinates merged table listing : List ℕ) where
  pub recorded : (k : ℕ) → bad_at w n coordinates merged table listing k ≡ false → RecordFine w n coordinates merged table listing k
  unfolding bad_at
  recorded k e =
      let a = or_off (no_chain w coordinates merged table k) _ e in
      let b = or_off (ltb (length listing) (entry table k 0 + entry table k 1)) _ a.1 in
      record {
        stands = a.0;
        inside = ltb-false (length listing) (entry table k 0 + entry table k 1) b.0;
        below = λ i h. leb-false n (get_or (listed_at table listing k) i 0) (none_each (leb n) (listed_at table listing k) i 0 b.1 h);
      }

  -- none of the first k is bad
  pub all_recorded : (number : ℕ) → any_of (bad_at w n coordinates merged table listing) (upto number) ≡ false → (k : ℕ) → k < number
      → RecordFine w n coordinates merged table listing k
  all_recorded number e k h =
      recorded k
      (ap (bad_at w n coordinates merged table listing) (sym (upto_at number k h))
      ∙ none_each (bad_at w n coordinates merged table listing) (upto number) k 0 e (omega (arith, Rattle.chain_laws.proofs.Counts.upto_length number)))

  module _ (k : ℕ) where
    pub bad_chain : (p : Bool) → p ≡ no_chain w coordinates merged table k → p ≡ true → true ≡ bad_at w n coordinates merged table listing k
    unfolding bad_at
    bad_chain p e y = or_yes p _ _ e y

    -- where its lines begin in the listing
    abbrev start : ℕ
    start = get_or table (k * record_size) 0

    start_is : start ≡ entry table k 0
    start_is = let z : k * record_size ≡ k * record_size + 0 = omega arith in ap (λ (i : ℕ). get_or table i 0) z

    pub bad_reach : (p : Bool) → p ≡ no_chain w coordinates merged table k → p ≡ false → length listing < start + entry table k 1
        → true ≡ bad_at w n coordinates merged table listing k
    unfolding bad_at
    bad_reach p e y h =
        or_no p true _ _ e y
        (or_yes true _ _ (sym (lt-ltb (length listing) (entry table k 0 + entry table k 1) (omega (arith, start_is)))) refl)

    -- the part of the listing that is looked at
    pub part_listed : take (start + entry table k 1 - start) (drop start listing) ≡ listed_at table listing k
    unfolding listed_at
    part_listed =
        let q : start + entry table k 1 - start ≡ entry table k 1 = omega arith in
        ap₂ (λ (i j : ℕ). take i (drop j listing)) q start_is

    pub bad_line : (p r : Bool) → p ≡ no_chain w coordinates merged table k → p ≡ false → start + entry table k 1 ≤ length listing
        → r ≡ any_of (leb n) (take (start + entry table k 1 - start) (drop start listing)) → r ≡ bad_at w n coordinates merged table listing k
    unfolding bad_at
    bad_line p r e y h f =
        or_no p r _ _ e y
        (or_no false r _ _ (sym (le-ltb (length listing) (entry table k 0 + entry table k 1) (omega (arith, start_is)))) refl (f ∙ ap (any_of (leb n)) part_listed))

    pub part_inside : entry table k 0 + entry table k 1 ≤ length listing → start + entry table k 1 ≤ length listing
    part_inside h = omega (arith, start_is)

    -- its coordinates are whole points
    pub part_whole : no_chain w coordinates merged table k ≡ false → Whole w (part_of w coordinates merged table k)
    part_whole e =
        let s = stands w coordinates merged table k e in
        record {
          number = entry table k 4;
          long = ap length (part_there w coordinates merged table k e)
              ∙ length-take (entry table k 4 * w) (drop (entry table k 3 * w) (source_of (entry table k 2) coordinates merged))
              ∙ omega (
                arith,
                length-drop (entry table k 3 * w) (source_of (entry table k 2) coordinates merged),
                s.part,
                add-mul (entry table k 3) (entry table k 4) w,
              );
        }

    pub row_inside : no_chain w coordinates merged table k ≡ false → k * record_size + record_size ≤ length table
    row_inside e = (stands w coordinates merged table k e).row
