-- 02 [10]: a district's chains among those that a host reads in the rooms of a building call. A chain is of the district of its first member, and each of its
-- lines is named by its rank.
use Rattle.std.specs.Prelude.{ℕ, Bool, List, map, get_or, take}
use Rattle.rules.specs.Lists.{keep}
use Rattle.rules.specs.Districts.{is_of, lines_brought}
use Rattle.build_reading.specs.Reading.{ChainRead}

-- the rank of line k, by the lines' groups: how many of the district's lines stand before it
unfoldable pub rank_of : ℕ → List ℕ → ℕ → ℕ
rank_of d groups k = lines_brought d (take k groups)

-- a chain with its lines named anew
unfoldable pub renamed : (ℕ → ℕ) → ChainRead → ChainRead
renamed r c =
    record {
      members = map r c.members;
      marks = c.marks;
      listing = map r c.listing;
      source = c.source;
      loop = c.loop;
      coordinates = c.coordinates;
      box = c.box;
    }

unfoldable pub is_of_district : ℕ → List ℕ → ChainRead → Bool
is_of_district d groups c = is_of d (get_or groups (get_or c.members 0 0) 0)

unfoldable pub district_read : ℕ → List ℕ → List ChainRead → List ChainRead
district_read d groups cs = map (renamed (rank_of d groups)) (keep (is_of_district d groups) cs)
