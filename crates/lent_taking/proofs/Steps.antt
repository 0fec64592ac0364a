-- Lent pieces taken one by one: each is put behind those before it, in each of the four blocks, and what stands there already stays.
use Prim.Native.Nat.{ℕ, ◌+◌, ◌*◌, ◌-◌, ◌≤◌, ◌<◌}
use mathlib.Core.Path.{◌≡◌, refl, sym, ap, ap₂, ◌∙◌, subst}
use mathlib.Core.List.{[], List, ◌∷◌, ◌++◌, flat_map}
use native.Mathlib.Omega.{arith}
use lib.ListN.{length, get_or, take, drop, length-append, length-drop}
use lib.Seq.{slice, slice_empty, length-take-le}
use Rattle.rules.specs.Lists.{upto}
use Rattle.rules.specs.Refusals.{piece_size}
use Rattle.chain_pieces.specs.Map.{node_block, taken_block, taken_listing, taken_marks, taken_members}
use Rattle.point_slices.specs.Holds.{HoldsFrom}
use Rattle.point_slices.proofs.Laws.{from_length, slice_below, slice_beyond, slice_more, drop_past}
use Rattle.lent_taking.specs.Taking.{part_at, parts_to, taken_row, PiecesTakable, Took, PieceTakable, PieceTook}
use Rattle.lent_taking.proofs.Parts.{flat_next, flat_start, part_fits}

empty : (a : ℕ) (w : List ℕ) → slice a (a + 0) w ≡ []
empty a w = let e : a + 0 ≡ a = omega arith in ap (λ (i : ℕ). slice a i w) e ∙ slice_empty a w

pub took_start : (w : List ℕ) (n : ℕ) (pieces members marks listing : List ℕ) → Took w w n 0 pieces members marks listing 0
took_start w n pieces members marks listing =
    record {
      size = refl;
      rest = refl;
      number = ap length (sym (flat_start (part_at pieces members)));
      records = empty (n * taken_block) w ∙ sym (flat_start (taken_row pieces members));
      listed = empty (n * taken_members) w ∙ sym (flat_start (part_at pieces members));
      turned = empty (n * taken_marks) w ∙ sym (flat_start (part_at pieces marks));
      passed = empty (n * taken_listing) w ∙ sym (flat_start (part_at pieces listing));
    }

pub part_long : (pieces s : List ℕ) (q : ℕ) → get_or pieces (q * piece_size) 0 + get_or pieces (q * piece_size + 1) 0 ≤ length s
    → length (part_at pieces s q) ≡ get_or pieces (q * piece_size + 1) 0
part_long pieces s q h =
    length-take-le (get_or pieces (q * piece_size + 1) 0) (drop (get_or pieces (q * piece_size) 0) s) (omega (arith, length-drop (get_or pieces (q * piece_size) 0) s))

-- a part as it is lent, from its first to its last
abbrev pub cut : ℕ → ℕ → List ℕ → List ℕ
cut f c s = take (f + c - f) (drop f s)

module _ (f c : ℕ) (s : List ℕ) (h : f + c ≤ length s) where
  span : f + c - f ≡ c
  span = omega arith

  pub cut_long : length (cut f c s) ≡ c
  cut_long = ap (λ (k : ℕ). length (take k (drop f s))) span ∙ length-take-le c (drop f s) (omega (arith, length-drop f s))

  pub cut_holds : {l' l : List ℕ} {at : ℕ} → HoldsFrom l' l at (length (cut f c s)) (cut f c s) → HoldsFrom l' l at c (take c (drop f s))
  cut_holds {l'} {l} {at} g =
      subst (λ (k : ℕ). HoldsFrom l' l at c (take k (drop f s))) span (subst (λ (k : ℕ). HoldsFrom l' l at k (cut f c s)) cut_long g)

module _ {w w₀ : List ℕ} {n q k m : ℕ} {pieces members marks listing : List ℕ} (y : PiecesTakable w₀ n k pieces members marks listing)
    (t : Took w w₀ n q pieces members marks listing m) (b : q < k) where
  abbrev count : ℕ
  count = get_or pieces (q * piece_size + 1) 0

  members_long : length (part_at pieces members q) ≡ count
  members_long = part_long pieces members q (y.inside q b).members_in

  fits : m + count ≤ n
  fits = omega (arith, t.number, part_fits (part_at pieces members) q k b, members_long, y.members_few)

  room : n * node_block ≤ length w
  room = omega (arith, y.room, t.size)

  pub piece_takable : PieceTakable w n q m pieces members marks listing
  piece_takable =
      record {
        few = y.few;
        below = omega (arith, y.number);
        room = room;
        records_in = omega (arith, y.records_in);
        inside = y.inside q b;
        members_fit = fits;
      }

  module _ {w' : List ℕ} {r : ℕ} (p : PieceTook w' w n q m pieces members marks listing r) where
    abbrev at : ℕ
    at = n * taken_block + q * piece_size

    row_in : at + piece_size ≤ length w
    row_in = omega (arith, room, y.number)

    size_one : length p.one ≡ length w
    size_one = from_length p.row row_in

    members_in : n * taken_members + m + count ≤ length p.one
    members_in = omega (arith, fits, room, size_one)

    size_two : length p.two ≡ length p.one
    size_two = from_length p.listed members_in

    marks_in : n * taken_marks + m + count ≤ length p.two
    marks_in = omega (arith, fits, room, size_one, size_two)

    size_three : length p.three ≡ length p.two
    size_three = from_length p.turned marks_in

    listing_in : n * taken_listing + m + count ≤ length p.three
    listing_in = omega (arith, fits, room, size_one, size_two, size_three)

    size : length w' ≡ length p.three
    size = from_length p.passed listing_in

    -- the row is the one that is asked for
    row_is : taken_row pieces members q ≡ m ∷ count ∷ get_or pieces (q * piece_size + 2) 0 ∷ get_or pieces (q * piece_size + 3) 0 ∷ get_or pieces (q * piece_size + 4) 0 ∷ []
    row_is = ap (λ (i : ℕ). i ∷ count ∷ get_or pieces (q * piece_size + 2) 0 ∷ get_or pieces (q * piece_size + 3) 0 ∷ get_or pieces (q * piece_size + 4) 0 ∷ []) (sym t.number)

    records : slice (n * taken_block) (n * taken_block + (q + 1) * piece_size) w' ≡ flat_map (taken_row pieces members) (upto (q + 1))
    records =
        let e : n * taken_block + (q + 1) * piece_size ≡ at + piece_size = omega arith in
        ap (λ (i : ℕ). slice (n * taken_block) i w') e
        ∙ slice_below p.passed listing_in (n * taken_block) (at + piece_size) (omega (arith, y.number))
        ∙ slice_below p.turned marks_in (n * taken_block) (at + piece_size) (omega (arith, y.number))
        ∙ slice_below p.listed members_in (n * taken_block) (at + piece_size) (omega (arith, y.number))
        ∙ slice_more p.row row_in (n * taken_block) (omega arith)
        ∙ ap₂ (λ (a c : List ℕ). a ++ c) t.records (sym row_is)
        ∙ sym (flat_next (taken_row pieces members) q)

    -- a block behind the records, and before what is put later
    listed : slice (n * taken_members) (n * taken_members + (m + count)) w' ≡ parts_to pieces members (q + 1)
    listed =
        let e : n * taken_members + (m + count) ≡ n * taken_members + m + count = omega arith in
        ap (λ (i : ℕ). slice (n * taken_members) i w') e
        ∙ slice_below p.passed listing_in (n * taken_members) (n * taken_members + m + count) (omega (arith, fits))
        ∙ slice_below p.turned marks_in (n * taken_members) (n * taken_members + m + count) (omega (arith, fits))
        ∙ slice_more p.listed members_in (n * taken_members) (omega arith)
        ∙ ap (λ (a : List ℕ). a ++ part_at pieces members q) (slice_beyond p.row row_in (n * taken_members) m (omega (arith, y.number)) ∙ t.listed)
        ∙ sym (flat_next (part_at pieces members) q)

    turned : slice (n * taken_marks) (n * taken_marks + (m + count)) w' ≡ parts_to pieces marks (q + 1)
    turned =
        let e : n * taken_marks + (m + count) ≡ n * taken_marks + m + count = omega arith in
        ap (λ (i : ℕ). slice (n * taken_marks) i w') e
        ∙ slice_below p.passed listing_in (n * taken_marks) (n * taken_marks + m + count) (omega (arith, fits))
        ∙ slice_more p.turned marks_in (n * taken_marks) (omega arith)
        ∙ ap (λ (a : List ℕ). a ++ part_at pieces marks q)
        (slice_beyond p.listed members_in (n * taken_marks) m (omega (arith, fits))
        ∙ slice_beyond p.row row_in (n * taken_marks) m (omega (arith, y.number))
        ∙ t.turned)
        ∙ sym (flat_next (part_at pieces marks) q)

    passed : slice (n * taken_listing) (n * taken_listing + (m + count)) w' ≡ parts_to pieces listing (q + 1)
    passed =
        let e : n * taken_listing + (m + count) ≡ n * taken_listing + m + count = omega arith in
        ap (λ (i : ℕ). slice (n * taken_listing) i w') e
        ∙ slice_more p.passed listing_in (n * taken_listing) (omega arith)
        ∙ ap (λ (a : List ℕ). a ++ part_at pieces listing q)
        (slice_beyond p.turned marks_in (n * taken_listing) m (omega (arith, fits))
        ∙ slice_beyond p.listed members_in (n * taken_listing) m (omega (arith, fits))
        ∙ slice_beyond p.row row_in (n * taken_listing) m (omega (arith, y.number))
        ∙ t.passed)
        ∙ sym (flat_next (part_at pieces listing) q)

    -- ONE PIECE MORE IS TAKEN
    pub took_next : Took w' w₀ n (q + 1) pieces members marks listing (m + r)
    took_next =
        subst (λ (i : ℕ). Took w' w₀ n (q + 1) pieces members marks listing (m + i)) (sym p.count)
        (record {
          size = size ∙ size_three ∙ size_two ∙ size_one ∙ t.size;
          rest =
              drop_past p.passed listing_in (n * node_block) (omega (arith, fits))
              ∙ drop_past p.turned marks_in (n * node_block) (omega (arith, fits))
              ∙ drop_past p.listed members_in (n * node_block) (omega (arith, fits))
              ∙ drop_past p.row row_in (n * node_block) (omega (arith, y.number))
              ∙ t.rest;
          number = omega (arith, t.number, members_long, ap length (flat_next (part_at pieces members) q), length-append (parts_to pieces members q) (part_at pieces members q));
          records = records;
          listed = listed;
          turned = turned;
          passed = passed;
        })

-- all are taken
pub took_all : {w w₀ : List ℕ} {n q k m : ℕ} {pieces members marks listing : List ℕ} → Took w w₀ n q pieces members marks listing m → q ≡ k → Took w w₀ n k pieces members marks listing m
took_all {w = w} {w₀ = w₀} {n = n} {m = m} {pieces = pieces} {members = members} {marks = marks} {listing = listing} t e =
    subst (λ (i : ℕ). Took w w₀ n i pieces members marks listing m) e t
