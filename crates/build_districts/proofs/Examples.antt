-- Two calls, computed: a district's two lines alone, and mixed with lines that meet them at their node and whose group is theirs but for the top bit. Both are
-- accepted and have the same lines of the district, as `calls_district` asks, and what is read of it is the same.
use Prim.Native.Nat.{ℕ}
use mathlib.Core.Path.{◌≡◌, refl}
use mathlib.Core.Bool.{Bool, ◌&&◌}
use mathlib.Core.List.{List, [], ◌∷◌, ◌++◌, flat_map}
use lib.Dec.{T, eqb}
use lib.Ieee.{lt, eq}
use lib.ListN.{length}
use Rattle.rules.specs.Layout.{lines_in}
use Rattle.rules.specs.Refusals.{rooms, refusal_of, chain_refusal_of, no_chain, source_of}
use Rattle.rules.specs.Calls.{viewed, unless, built_of}
use Rattle.rules.proofs.Computing.{book}
use Rattle.rules.proofs.Given.{+0, +1, +2, same, Call, exactly, lines_by, settings_by, rooms_by}
use Rattle.chain_districts.specs.Districts.{district_lines}
use Rattle.build_reading.specs.Reading.{ChainRead, read_at, read_all}
use Rattle.build_districts.specs.Reading.{rank_of, renamed, is_of_district, district_read}

-- the numbers of what is read, one after another
numbers : List ChainRead → List ℕ
unfolding flat_map
numbers cs = flat_map (λ c. length c.members ∷ c.members ++ (c.marks ++ (c.listing ++ c.source ∷ c.loop ∷ c.coordinates))) cs

-- what is read of district d
district : ℕ → Call → List ChainRead
unfolding book lines_by district_read read_all read_at rank_of renamed is_of_district viewed unless chain_refusal_of no_chain source_of
district d c =
    let l = lines_by c in
    let b = built_of 2 l (settings_by c) in
    district_read d l.groups (read_all 2 l.coordinates (rooms b.records b.members b.marks b.listing b.merged b.boxes [] []) b.number)

-- a group of the second district, which is 7 but for the top bit
abbrev far : ℕ
far = 2147483655

-- `0,0 1,0` and `2,0 1,0`, and `1,0 1,1` of the other district
a : List ℕ
a = +0 ∷ +0 ∷ +1 ∷ +0 ∷ []

b : List ℕ
b = +2 ∷ +0 ∷ +1 ∷ +0 ∷ []

c : List ℕ
c = +1 ∷ +0 ∷ +1 ∷ +1 ∷ []

unfoldable pub alone : Call
unfolding a b
alone = exactly (7 ∷ 7 ∷ []) (a ∷ b ∷ [])

unfoldable pub mixed : Call
unfolding a b c
mixed = exactly (far ∷ 7 ∷ far ∷ 7 ∷ far ∷ []) (c ∷ a ∷ c ∷ b ∷ c ∷ [])

-- one chain of two lines, the second turned, of source 1 and no loop
expected : List ℕ
expected = 2 ∷ 0 ∷ 1 ∷ 0 ∷ 1 ∷ 0 ∷ 1 ∷ 1 ∷ 0 ∷ +0 ∷ +0 ∷ +1 ∷ +0 ∷ +2 ∷ +0 ∷ []

unfoldable pub read_alike : Bool
unfolding numbers district alone mixed expected
read_alike =
    same (numbers (district 0 alone)) expected
    && same (numbers (district 0 mixed)) expected
    && eqb (length (district 1 mixed)) 3
    && eqb (length (district 1 alone)) 0

pub examples : T read_alike
unfolding read_alike book lines_by numbers lt eq
examples = tt

pub same_lines : district_lines 0 (lines_in 2 (lines_by alone)) ≡ district_lines 0 (lines_in 2 (lines_by mixed))
unfolding book lines_by alone mixed a b c district_lines
same_lines = refl

abbrev refusal : Call → ℕ
refusal c = refusal_of 2 (lines_by c) (settings_by c) (rooms_by c)

pub both_accepted : (refusal alone ≡ 0) × (refusal mixed ≡ 0)
unfolding book lines_by rooms_by alone mixed a b c
both_accepted = (refl, refl)
