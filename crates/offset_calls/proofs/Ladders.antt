-- The refusals of a call with an offset, which the book lists in their order, are those of the call with the offset's limit, renumbered; and up to 1,000
-- they are the same.
use Prim.Native.Nat.{ℕ, ◌≤◌}
use mathlib.Core.Path.{◌≡◌, refl, sym, ap, ◌∙◌}
use mathlib.Core.Bool.{Bool, true, false, ◌&&◌, ◌||◌, true≢false}
use mathlib.Core.List.{List, [], ◌∷◌, ◌++◌}
use lib.Dec.{ltb, eqb}
use lib.Ieee.{Float}
use borrow.Author.Tests.{le-ltb}
use Rattle.rules.specs.Layout.{Lines}
use Rattle.rules.specs.Refusals.{first_of, limit_bad, Rooms, LentEnds, refusal_with, refusal_of, pair_refusal_with, pair_refusal_of}
use Rattle.rules.specs.Offset.{limit_for, settings_for, build_offset_refusal_of, pair_offset_refusal_of}
use Rattle.float_offset.proofs.Limits.{limit_bad_lem}
use Rattle.offset_calls.specs.Renumbered.{renumber}
use Rattle.offset_calls.proofs.Numbers.{stays, stays_all, six}

-- ---- two ladders that differ in the tests of the limit alone

-- the first test that holds in the one has the number, turned by f, of that in the other
record Turned (f : ℕ → ℕ) (l m : List (ℕ × Bool)) : Type 0 where
  is : first_of l ≡ f (first_of m)

module _ (f : ℕ → ℕ) (stay : (k : ℕ) → eqb k 6 ≡ false → k ≡ f k) where
  -- one test more of both
  more : {k : ℕ} {b : Bool} {l m : List (ℕ × Bool)} → eqb k 6 ≡ false → Turned f l m → Turned f ((k, b) ∷ l) ((k, b) ∷ m)
  unfolding first_of
  more {k} {b} {l} {m} e p = go b
    where
      go : (b : Bool) → Turned f ((k, b) ∷ l) ((k, b) ∷ m)
      go true = record { is = stay k e }
      go false = record { is = p.is }

  none : Turned f [] []
  unfolding first_of
  none = record { is = stay 0 refl }

  building : (s t : List (ℕ × Bool)) (ox oy : Float) (type : ℕ) (l : Lines) (o : Rooms)
      → ((rest : List (ℕ × Bool)) → Turned f rest rest → Turned f (s ++ rest) (t ++ rest))
      → refusal_with s ox oy type l o ≡ f (refusal_with t ox oy type l o)
  building s t ox oy type l o middle =
      (more refl (more refl (more refl (more refl (more refl (more refl (more refl (more refl (more refl (middle _ (more refl (more refl none)))))))))))).is

  pairing : (s t : ℕ × Bool) (alone : Bool) (i : LentEnds)
      → ((rest : List (ℕ × Bool)) → Turned f rest rest → Turned f (s ∷ rest) (t ∷ rest))
      → pair_refusal_with s alone i ≡ f (pair_refusal_with t alone i)
  pairing s t alone i middle = (more refl (more refl (more refl (middle _ (more refl (more refl (more refl none))))))).is

-- ---- 22 for 6

-- the tests of the switch and of what stands in the limit's place, in two parts and in one
abbrev two : ℕ → Bool → List (ℕ × Bool)
two switch b = (6, ltb 1 switch) ∷ (22, b) ∷ []

abbrev one : ℕ → Bool → List (ℕ × Bool)
one switch b = (6, ltb 1 switch || b) ∷ []

turn : (switch : ℕ) (b : Bool) (rest : List (ℕ × Bool)) → ltb 1 switch ≡ false → Turned (renumber switch) rest rest
    → Turned (renumber switch) ((22, b) ∷ rest) ((6, b) ∷ rest)
unfolding first_of
turn switch true rest e p = record { is = six switch e }
turn switch false rest e p = record { is = p.is }

-- the part of the switch stays 6, the part of the limit is 22
parts : (switch : ℕ) (b : Bool) (rest : List (ℕ × Bool)) → Turned (renumber switch) rest rest
    → Turned (renumber switch) ((6, ltb 1 switch) ∷ (22, b) ∷ rest) ((6, ltb 1 switch || b) ∷ rest)
unfolding first_of
parts switch b rest p = go (ltb 1 switch) refl
  where
    go : (s : Bool) → ltb 1 switch ≡ s → Turned (renumber switch) ((6, s) ∷ (22, b) ∷ rest) ((6, s || b) ∷ rest)
    go true e = record { is = stays_all switch 6 e }
    go false e = record { is = (turn switch b rest e p).is }

module _ (switch g : ℕ) where
  limit_part : (limit : Float) → limit ≡ limit_for g → (eqb switch 1 && ltb 1000 g) ≡ (eqb switch 1 && limit_bad limit)
  limit_part limit e = ap (λ (t : Bool). eqb switch 1 && t) (sym (ap limit_bad e ∙ limit_bad_lem g))

  pub build_renumbered : (type : ℕ) (l : Lines) (tolerance ox oy : Float) (o : Rooms)
      → build_offset_refusal_of type l ox oy switch g o ≡ renumber switch (refusal_of type l (settings_for tolerance ox oy switch g) o)
  unfolding build_offset_refusal_of refusal_of
  build_renumbered type l tolerance ox oy o =
      let b = eqb switch 1 && limit_bad (limit_for g) in
      ap (λ (t : Bool). refusal_with (two switch t) ox oy type l o) (limit_part (limit_for g) refl)
      ∙ building (renumber switch) (stays switch) (two switch b) (one switch b) ox oy type l o (parts switch b)

pub pair_renumbered : (g : ℕ) (alone : Bool) (i : LentEnds) → i.limit ≡ limit_for g → pair_offset_refusal_of alone g i ≡ renumber 1 (pair_refusal_of alone i)
unfolding pair_offset_refusal_of pair_refusal_of
pair_renumbered g alone i e =
    ap (λ (t : Bool). pair_refusal_with (22, t) alone i) (sym (ap limit_bad e ∙ limit_bad_lem g))
    ∙ pairing (renumber 1) (stays 1) (22, limit_bad i.limit) (6, limit_bad i.limit) alone i (λ rest p. turn 1 (limit_bad i.limit) rest refl p)

-- ---- up to 1,000 the numbers are the same

same_parts : (a b : Bool) (rest : List (ℕ × Bool)) → b ≡ false → Turned (λ k. k) ((6, a) ∷ (22, b) ∷ rest) ((6, a || b) ∷ rest)
unfolding first_of
same_parts true b rest e = record { is = refl }
same_parts false true rest e = absurd (true≢false e)
same_parts false false rest e = record { is = refl }

same_turn : (b : Bool) (rest : List (ℕ × Bool)) → b ≡ false → Turned (λ k. k) ((22, b) ∷ rest) ((6, b) ∷ rest)
unfolding first_of
same_turn true rest e = absurd (true≢false e)
same_turn false rest e = record { is = refl }

and_no : (a b : Bool) → b ≡ false → (a && b) ≡ false
and_no true b e = e
and_no false b e = refl

module _ (g : ℕ) (h : g ≤ 1000) where
  fine : limit_bad (limit_for g) ≡ false
  fine = limit_bad_lem g ∙ le-ltb 1000 g h

  pub build_same : (type : ℕ) (l : Lines) (tolerance ox oy : Float) (switch : ℕ) (o : Rooms)
      → build_offset_refusal_of type l ox oy switch g o ≡ refusal_of type l (settings_for tolerance ox oy switch g) o
  unfolding build_offset_refusal_of refusal_of
  build_same type l tolerance ox oy switch o =
      let b = eqb switch 1 && limit_bad (limit_for g) in
      ap (λ (t : Bool). refusal_with (two switch t) ox oy type l o) (limit_part switch g (limit_for g) refl)
      ∙ building (λ k. k) (λ k e. refl) (two switch b) (one switch b) ox oy type l o
      (λ rest p. same_parts (ltb 1 switch) b rest (and_no (eqb switch 1) (limit_bad (limit_for g)) fine))

  pub pair_same : (alone : Bool) (i : LentEnds) → i.limit ≡ limit_for g → pair_offset_refusal_of alone g i ≡ pair_refusal_of alone i
  unfolding pair_offset_refusal_of pair_refusal_of
  pair_same alone i e =
      ap (λ (t : Bool). pair_refusal_with (22, t) alone i) (sym (ap limit_bad e ∙ limit_bad_lem g))
      ∙ pairing (λ k. k) (λ k e. refl) (22, limit_bad i.limit) (6, limit_bad i.limit) alone i (λ rest p. same_turn (limit_bad i.limit) rest (ap limit_bad e ∙ fine))
