-- The book's refusals of pairing over the lists that are looked into and the lengths of the two rooms, which are not.
use Rattle.std.specs.Prelude.{ℕ, ◌*◌, Bool, not, ◌&&◌, ◌||◌, List, [], ◌∷◌, eqb, ltb, Float, length}
use Rattle.rules.specs.Refusals.{most_ends, end_room, first_of, any_above, limit_bad, more_than_twice, any_wild}

module _ (alone : Bool) (present : List ℕ) (directions : List Float) (pieces : List ℕ) (limit : Float) (pairs workspace : ℕ) where
  -- the tests, in order
  abbrev pub pair_tests : List (ℕ × Bool)
  pair_tests =
      let d = length pieces in
      (1, ltb most_ends d)
      ∷ (2, not (eqb (length present) d) || not (eqb (length directions) (d * 2)))
      ∷ (3, any_above 1 present)
      ∷ (6, limit_bad limit)
      ∷ (7, ltb pairs d || ltb workspace (d * end_room))
      ∷ (8, more_than_twice pieces pieces)
      ∷ (9, alone && any_wild present directions)
      ∷ []

  unfoldable pub pair_refusal_by : ℕ
  unfolding first_of
  pair_refusal_by = first_of pair_tests
