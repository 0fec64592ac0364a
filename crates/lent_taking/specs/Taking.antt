-- Lent pieces as a round takes them in: k records that count the members before each, and members, marks and listing one after another. In each record a name
-- with a prime is what the workspace is at return, and the plain name what it was.
use Rattle.std.specs.Prelude.{ℕ, ◌+◌, ◌*◌, ◌≤◌, ◌<◌, ◌≡◌, length, get_or, take, drop}
use mathlib.Core.List.{List, [], ◌∷◌, flat_map}
use Rattle.std.proofs.Math.Seq.{slice}
use Rattle.rules.specs.Lists.{upto}
use Rattle.rules.specs.Refusals.{most_lines, piece_size}
use Rattle.chain_pieces.specs.Map.{node_block, taken_block, taken_listing, taken_marks, taken_members}
use Rattle.std.specs.List.{AllZip}
use Rattle.point_slices.specs.Holds.{HoldsFrom}
use Rattle.lent_laws.specs.declared.Pieces.{Pieces}

-- what record q names of a slice that has a number for each member
abbrev pub part_at : List ℕ → List ℕ → ℕ → List ℕ
part_at pieces s q = take (get_or pieces (q * piece_size + 1) 0) (drop (get_or pieces (q * piece_size) 0) s)

-- what the first q records name
abbrev pub parts_to : List ℕ → List ℕ → ℕ → List ℕ
parts_to pieces s q = flat_map (part_at pieces s) (upto q)

-- record q, behind the members of those before it
abbrev pub taken_row : List ℕ → List ℕ → ℕ → List ℕ
taken_row pieces members q =
    let at = q * piece_size in
    length (parts_to pieces members q)
    ∷ get_or pieces (at + 1) 0
    ∷ get_or pieces (at + 2) 0
    ∷ get_or pieces (at + 3) 0
    ∷ get_or pieces (at + 4) 0
    ∷ []

-- record q names parts of the slices
pub record Inside (pieces members marks listing : List ℕ) (q : ℕ) : Type 0 where
  pub members_in : get_or pieces (q * piece_size) 0 + get_or pieces (q * piece_size + 1) 0 ≤ length members
  pub marks_in : get_or pieces (q * piece_size) 0 + get_or pieces (q * piece_size + 1) 0 ≤ length marks
  pub listing_in : get_or pieces (q * piece_size) 0 + get_or pieces (q * piece_size + 1) 0 ≤ length listing

-- k pieces of at most n members in all
pub record PiecesTakable (w : List ℕ) (n k : ℕ) (pieces members marks listing : List ℕ) : Type 0 where
  pub few : n ≤ most_lines
  pub number : k ≤ n
  pub room : n * node_block ≤ length w
  pub records_in : k * piece_size ≤ length pieces
  pub inside : (q : ℕ) → q < k → Inside pieces members marks listing q
  pub members_few : length (parts_to pieces members k) ≤ n

-- the first q stand in the block of those that go in, with m members in all; outside it w is as before
pub record Took (w' w : List ℕ) (n q : ℕ) (pieces members marks listing : List ℕ) (m : ℕ) : Type 0 where
  pub size : length w' ≡ length w
  pub rest : drop (n * node_block) w' ≡ drop (n * node_block) w
  pub number : m ≡ length (parts_to pieces members q)
  pub records : slice (n * taken_block) (n * taken_block + q * piece_size) w' ≡ flat_map (taken_row pieces members) (upto q)
  pub listed : slice (n * taken_members) (n * taken_members + m) w' ≡ parts_to pieces members q
  pub turned : slice (n * taken_marks) (n * taken_marks + m) w' ≡ parts_to pieces marks q
  pub passed : slice (n * taken_listing) (n * taken_listing + m) w' ≡ parts_to pieces listing q

-- ---- one piece, behind q pieces and m members

pub record PieceTakable (w : List ℕ) (n q m : ℕ) (pieces members marks listing : List ℕ) : Type 0 where
  pub few : n ≤ most_lines
  pub below : q < n
  pub room : n * node_block ≤ length w
  pub records_in : q * piece_size + piece_size ≤ length pieces
  pub inside : Inside pieces members marks listing q
  pub members_fit : m + get_or pieces (q * piece_size + 1) 0 ≤ n

-- its record, its members, its marks and its listing are put one after another
pub record PieceTook (w' w : List ℕ) (n q m : ℕ) (pieces members marks listing : List ℕ) (r : ℕ) : Type 0 where
  pub count : r ≡ get_or pieces (q * piece_size + 1) 0
  pub one : List ℕ
  pub two : List ℕ
  pub three : List ℕ
  pub row : HoldsFrom one w (n * taken_block + q * piece_size) piece_size
      (m ∷ get_or pieces (q * piece_size + 1) 0 ∷ get_or pieces (q * piece_size + 2) 0 ∷ get_or pieces (q * piece_size + 3) 0 ∷ get_or pieces (q * piece_size + 4) 0 ∷ [])
  pub listed : HoldsFrom two one (n * taken_members + m) (get_or pieces (q * piece_size + 1) 0) (part_at pieces members q)
  pub turned : HoldsFrom three two (n * taken_marks + m) (get_or pieces (q * piece_size + 1) 0) (part_at pieces marks q)
  pub passed : HoldsFrom w' three (n * taken_listing + m) (get_or pieces (q * piece_size + 1) 0) (part_at pieces listing q)

-- ---- the pieces that a call lends

abbrev pub Takable : List ℕ → ℕ → Pieces → Type 0
Takable w n p = PiecesTakable w n p.number p.records.now p.members.now p.marks.now p.listing.now

abbrev pub Taken : List ℕ → List ℕ → ℕ → Pieces → ℕ → Type 0
Taken w' w n p m = Took w' w n p.number p.records.now p.members.now p.marks.now p.listing.now m

-- numbers stand from `at` on as the words that they convert to
abbrev pub Converted : {T : Type 0} → (T → ℕ → Type 0) → List T → List ℕ → List ℕ → ℕ → Type 0
Converted converts numbers w' w at = (ns : List ℕ) × AllZip converts numbers ns × HoldsFrom w' w at (length numbers) ns
