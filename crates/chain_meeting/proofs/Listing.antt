-- The loop of `list_outer`: after j walks the outer ends of these stand from `at` on. What is read stands below, and so stays as it was.
use Prim.Native.Nat.{ℕ, suc, ◌+◌, ◌-◌, ◌*◌, ◌≤◌, ◌<◌}
use mathlib.Core.Path.{◌≡◌, refl, sym, ap, ◌∙◌, subst}
use mathlib.Core.List.{List, [], ◌∷◌, ◌++◌, flatten, append-nil}
use native.Mathlib.Omega.{arith}
use native.Mathlib.Numerals.{add-one}
use lib.ListN.{length, get_or, take, drop, set, length-append, get_or-map, get_or-append}
use lib.Seq.{split_at, take-suc, take_all, get_or-append-add}
use Rattle.rules.specs.Walking.{piece_of, other}
use Rattle.rules.specs.Refusals.{most_lines}
use Rattle.point_slices.specs.Holds.{HoldsFrom}
use Rattle.point_slices.proofs.Laws.{from_start, from_length, from_below, from_set}
use Rattle.chain_pieces.proofs.Reading.{get_d_part}
use Rattle.chain_merging.proofs.Emitting.{flatten_append}
use Rattle.chain_outer.specs.Outer.{entry_of, exit_of, outer_of}
use Rattle.chain_outer.proofs.Listed.{outer_more}
use Rattle.chain_meeting.specs.Meeting.{OuterListable}

module _ (w₀ : List ℕ) (entries lengths r at : ℕ) (y : OuterListable w₀ entries lengths r at) where
  pub record Listing (w : List ℕ) (from j : ℕ) : Type 0 where
    pub high : j ≤ r
    pub from_is : from ≡ entries + length (flatten (take j y.ws))
    pub holds : HoldsFrom w w₀ at (j * 2) (outer_of (take j y.ws))

  pub listing_start : Listing w₀ entries 0
  unfolding flatten outer_of
  listing_start = record { high = omega arith; from_is = omega arith; holds = from_start w₀ at }

  pub listing_done : (w : List ℕ) (from j : ℕ) → Listing w from j → r ≤ j → HoldsFrom w w₀ at (r * 2) (outer_of y.ws)
  listing_done w from j o h =
      let k : j ≡ r = omega (arith, o.high) in
      subst (λ (i : ℕ). HoldsFrom w w₀ at (i * 2) (outer_of y.ws)) k
      (subst (λ (l : List (List ℕ)). HoldsFrom w w₀ at (j * 2) (outer_of l)) (take_all j y.ws (omega (arith, y.number))) o.holds)

  -- ---- a turn

  module _ (w : List ℕ) (from j : ℕ) (o : Listing w from j) where
    pub size : length w ≡ length w₀
    size = from_length o.holds (omega (arith, o.high, y.room))

    below : (i : ℕ) → i < at → get_or w i 0 ≡ get_or w₀ i 0
    below i b = from_below o.holds (omega (arith, o.high, y.room)) i b

    module _ (h : j < r) where
      abbrev es : List ℕ
      es = get_or y.ws j []

      abbrev before : List (List ℕ)
      before = take j y.ws

      abbrev behind : List (List ℕ)
      behind = drop (suc j) y.ws

      flat_whole : flatten y.ws ≡ flatten before ++ (es ++ flatten behind)
      unfolding flatten
      flat_whole = ap flatten (split_at y.ws j [] (omega (arith, y.number))) ∙ flatten_append before (es ∷ behind)

      pub sizes : length (flatten before) + (length es + length (flatten behind)) ≡ y.m
      sizes = omega (arith, y.all, ap length flat_whole, length-append (flatten before) (es ++ flatten behind), length-append es (flatten behind))

      -- the length of the walk
      pub long : get_or w (lengths + j) 0 ≡ length es
      long =
          below (lengths + j) (omega (arith, y.lengths_below))
          ∙ sym (get_d_part lengths r w₀ j h)
          ∙ ap (λ (l : List ℕ). get_or l j 0) y.measured
          ∙ get_or-map length y.ws j []

      pub filled : 0 < get_or w (lengths + j) 0
      filled = omega (arith, long, y.filled j h)

      pub inside : from + get_or w (lengths + j) 0 ≤ at
      inside = omega (arith, long, o.from_is, sizes, y.entries_below)

      -- its entries
      whole_entry : (i : ℕ) → i < length es → get_or (flatten y.ws) (length (flatten before) + i) 0 ≡ get_or es i 0
      whole_entry i b =
          ap (λ (l : List ℕ). get_or l (length (flatten before) + i) 0) flat_whole
          ∙ get_or-append-add (flatten before) (es ++ flatten behind) i 0
          ∙ get_or-append es (flatten behind) 0 i b

      entry_is : (i : ℕ) → i < length es → get_or w (from + i) 0 ≡ get_or es i 0
      entry_is i b =
          let k : from + i ≡ entries + (length (flatten before) + i) = omega (arith, o.from_is) in
          below (from + i) (omega (arith, o.from_is, sizes, y.entries_below))
          ∙ ap (λ (x : ℕ). get_or w₀ x 0) k
          ∙ sym (get_d_part entries y.m w₀ (length (flatten before) + i) (omega (arith, sizes)))
          ∙ ap (λ (l : List ℕ). get_or l (length (flatten before) + i) 0) y.entered
          ∙ whole_entry i b

      pub first_is : get_or w from 0 ≡ entry_of es
      first_is = let k : from ≡ from + 0 = omega arith in ap (λ (x : ℕ). get_or w x 0) k ∙ entry_is 0 (y.filled j h)

      pub last_is : get_or w (from + get_or w (lengths + j) 0 - 1) 0 ≡ get_or es (length es - 1) 0
      last_is =
          let k : from + get_or w (lengths + j) 0 - 1 ≡ from + (length es - 1) = omega (arith, long, y.filled j h) in
          ap (λ (x : ℕ). get_or w x 0) k ∙ entry_is (length es - 1) (omega (arith, y.filled j h))

      -- it is small
      pub last_low : piece_of (get_or w (from + get_or w (lengths + j) 0 - 1) 0) < most_lines
      last_low =
          let b : length es - 1 < length es = omega (arith, y.filled j h) in
          rw (last_is ∙ sym (whole_entry (length es - 1) b)) (y.low (length (flatten before) + (length es - 1)) (omega (arith, sizes)))

      pub listing_step : Listing (set (set w (at + j * 2) (get_or w from 0)) (at + j * 2 + 1) (other (get_or w (from + get_or w (lengths + j) 0 - 1) 0))) (from + get_or w (lengths + j) 0) (j + 1)
      unfolding flatten
      listing_step =
          let taken : take (j + 1) y.ws ≡ before ++ (es ∷ []) = rw add-one (take-suc y.ws j [] (omega (arith, y.number))) in
          let more : flatten (before ++ (es ∷ [])) ≡ flatten before ++ es = flatten_append before (es ∷ []) ∙ ap (λ (l : List ℕ). flatten before ++ l) (append-nil es) in
          let x = get_or w from 0 in
          let z = other (get_or w (from + get_or w (lengths + j) 0 - 1) 0) in
          let one = from_set o.holds (omega (arith, y.room)) x in
          let p : at + (j * 2 + 1) ≡ at + j * 2 + 1 = omega arith in
          let q : j * 2 + 1 + 1 ≡ (j + 1) * 2 = omega arith in
          record {
            high = omega arith;
            from_is =
                omega (arith, o.from_is, long, ap (λ (l : List (List ℕ)). length (flatten l)) taken, ap length more, length-append (flatten before) es);
            holds =
                subst (λ (out : List ℕ). HoldsFrom (set (set w (at + j * 2) x) (at + j * 2 + 1) z) w₀ at ((j + 1) * 2) out) (listed taken x z first_is (ap other last_is))
                (subst (λ (i : ℕ). HoldsFrom (set (set w (at + j * 2) x) (at + j * 2 + 1) z) w₀ at i ((outer_of before ++ (x ∷ [])) ++ (z ∷ []))) q
                (subst (λ (i : ℕ). HoldsFrom (set (set w (at + j * 2) x) i z) w₀ at (j * 2 + 1 + 1) ((outer_of before ++ (x ∷ [])) ++ (z ∷ []))) p
                (from_set one (omega (arith, y.room)) z)));
          }
        where
          listed : take (j + 1) y.ws ≡ before ++ (es ∷ []) → (x z : ℕ) → x ≡ entry_of es → z ≡ exit_of es → (outer_of before ++ (x ∷ [])) ++ (z ∷ []) ≡ outer_of (take (j + 1) y.ws)
          listed taken x z p q =
              append_two (outer_of before) x z
              ∙ (λ i. outer_of before ++ (p i ∷ q i ∷ []))
              ∙ sym (outer_more before es)
              ∙ ap outer_of (sym taken)
            where
              append_two : (l : List ℕ) (a b : ℕ) → (l ++ (a ∷ [])) ++ (b ∷ []) ≡ l ++ (a ∷ b ∷ [])
              append_two [] a b = refl
              append_two (c ∷ l) a b = ap {B = List ℕ} (λ t. c ∷ t) (append_two l a b)
