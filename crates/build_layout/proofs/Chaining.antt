-- The loop of `lay_pieces`: after q turns the first q pieces are chains of the table. A piece's record is five words where it stands, and its coordinates,
-- which these name, are its points; so the sixth number is the book's, and one record more is one row more behind the others.
use Prim.Native.Nat.{ℕ, suc, ◌+◌, ◌*◌, ◌^◌, ◌≤◌, ◌<◌}
use mathlib.Core.Path.{◌≡◌, refl, sym, ap, ap₂, ◌∙◌}
use mathlib.Core.List.{List, [], ◌∷◌, ◌++◌, flat_map, append-nil}
use native.Mathlib.Omega.{arith}
use native.Mathlib.Nat.{zero-add}
use native.Mathlib.Numerals.{add-one}
use lib.ListN.{length, get_or, take, drop, set, length-set}
use lib.Seq.{slice, split_at, take-suc, take_all, length-take-le}
use Rattle.rules.specs.Lists.{one}
use Rattle.rules.specs.Plane.{points}
use Rattle.rules.specs.Chaining.{Piece, nothing}
use Rattle.rules.specs.Layout.{copy, loop, five, six, rows, table as table_of}
use Rattle.rules.specs.Refusals.{piece_size, record_size}
use Rattle.chain_laws.proofs.Records.{five_length, rows_append, row_at}
use Rattle.point_slices.specs.Holds.{HoldsFrom}
use Rattle.point_slices.proofs.Laws.{from_start, from_set, from_length, slice_part}
use Rattle.chain_pieces.specs.Held.{lines_of, coordinates_at, Recorded}
use Rattle.chain_pieces.proofs.Reading.{part_part, points_are, recorded}
use Rattle.chain_pieces.proofs.Packed.{packed_held}
use Rattle.build_layout.specs.Laying.{Narrow, PiecesLayable}
use Rattle.build_layout.proofs.Parts.{behind}

-- one chain more
pub row_last : (counts : List ℕ) (m c : ℕ) (ps : List Piece) (p : Piece)
    → table_of counts m c (ps ++ (p ∷ [])) ≡ table_of counts m c ps ++ six counts (m + length (lines_of ps)) (c + length (flat_map copy ps)) p
unfolding rows
row_last counts m c ps p =
    rows_append (six counts) m c ps (p ∷ [])
    ∙ ap (λ (l : List ℕ). table_of counts m c ps ++ l) (append-nil (six counts (m + length (lines_of ps)) (c + length (flat_map copy ps)) p))

-- q pieces are chains
pub record Chaining (counts : List ℕ) (ps : List Piece) (p q : ℕ) (table table₀ : List ℕ) : Type 0 where
  pub within : q ≤ p
  pub size : length table ≡ length table₀
  pub rested : HoldsFrom table table₀ 0 (q * record_size) (table_of counts 0 0 (take q ps))

pub chaining_start : (counts : List ℕ) (ps : List Piece) (p : ℕ) (table : List ℕ) → Chaining counts ps p 0 table table
unfolding rows
chaining_start counts ps p table = record { within = omega arith; size = refl; rested = from_start table 0 }

module _ {width : ℕ} {w : List ℕ} {p : ℕ} {coordinates copies table₀ : List ℕ} (y : PiecesLayable width w p coordinates copies table₀)
    {q : ℕ} {table : List ℕ} (s : Chaining y.counts y.ps p q table table₀) where
  abbrev counts : List ℕ
  counts = y.counts

  abbrev pre : List Piece
  pre = take q y.ps

  abbrev piece : Piece
  piece = get_or y.ps q nothing

  module _ (b : q < p) where
    below : q < length y.ps
    below = omega (arith, y.number)

    -- ---- its record, where it stands and where it goes

    pub row_narrow : Narrow w (q * piece_size) piece_size (2 ^ 32) table (q * record_size)
    row_narrow =
        record {
          inside = omega (arith, y.held.room, y.held.few, y.number);
          room = omega (arith, y.room, s.size);
          below = λ i h. y.small (q * piece_size + i) (omega arith);
        }

    pub row_fits : q * record_size + record_size ≤ length table
    row_fits = omega (arith, y.room, s.size)

    words : slice (q * piece_size) (q * piece_size + piece_size) w ≡ five counts (length (lines_of pre)) (length (flat_map copy pre)) piece
    words =
        let e : 0 + q * piece_size ≡ q * piece_size = omega arith in
        slice_part (q * piece_size) piece_size w
        ∙ ap (λ (i : ℕ). take piece_size (drop i w)) (sym e)
        ∙ sym (part_part 0 (length y.ps * piece_size) w (q * piece_size) piece_size (omega (arith, below)))
        ∙ ap (λ (l : List ℕ). take piece_size (drop (q * piece_size) l)) y.held.records
        ∙ ap₂ (λ (k : ℕ) (l : List Piece). take piece_size (drop (k * piece_size) (rows (five counts) 0 0 l))) (sym (length-take-le q y.ps (omega (arith, below))))
        (split_at y.ps q nothing below)
        ∙ row_at (five counts) piece_size (five_length counts) pre piece (drop (suc q) y.ps)

    -- ---- its coordinates

    pub part_there : Recorded width w (q * piece_size) coordinates copies
    part_there = rw zero-add at (recorded width w 0 y.n coordinates copies counts y.ps (packed_held width w 0 y.n coordinates copies counts y.ps y.held) q below)

    closed : {mark : ℕ} {part : List ℕ} → part ≡ coordinates_at width w (q * piece_size) coordinates copies → mark ≡ one (loop (points width part)) → mark ≡ one (loop piece.points)
    closed {mark} {part} e f =
        let z : 0 + q * piece_size ≡ q * piece_size = omega arith in
        f ∙ ap (λ (l : List ℕ). one (loop (points width l))) (e ∙ ap (λ (i : ℕ). coordinates_at width w i coordinates copies) (sym z))
        ∙ ap (λ l. one (loop l)) (points_are width w 0 y.n coordinates copies counts y.ps (packed_held width w 0 y.n coordinates copies counts y.ps y.held) q below y.two)

    -- ---- one chain more

    chain_more : table_of counts 0 0 (take (q + 1) y.ps) ≡ table_of counts 0 0 pre ++ (slice (q * piece_size) (q * piece_size + piece_size) w ++ (one (loop piece.points) ∷ []))
    unfolding six
    chain_more =
        rw add-one
        (ap (table_of counts 0 0) (take-suc y.ps q nothing below)
        ∙ row_last counts 0 0 pre piece
        ∙ ap₂ (λ (i j : ℕ). table_of counts 0 0 pre ++ six counts i j piece) (zero-add (length (lines_of pre))) (zero-add (length (flat_map copy pre)))
        ∙ ap (λ (l : List ℕ). table_of counts 0 0 pre ++ (l ++ (one (loop piece.points) ∷ []))) (sym words))

    pub chaining_more : {table₁ part : List ℕ} {mark : ℕ} → HoldsFrom table₁ table (q * record_size) piece_size (slice (q * piece_size) (q * piece_size + piece_size) w)
        → part ≡ coordinates_at width w (q * piece_size) coordinates copies → mark ≡ one (loop (points width part))
        → Chaining y.counts y.ps p (q + 1) (set table₁ (q * record_size + piece_size) mark) table₀
    chaining_more {table₁} {part} {mark} a e f =
        record {
          within = omega arith;
          size = length-set table₁ (q * record_size + piece_size) mark ∙ from_length a (omega (arith, row_fits)) ∙ s.size;
          rested =
              behind s.rested (omega (arith, row_fits, s.size)) (from_set a (omega (arith, row_fits)) mark) (omega arith) (omega arith)
              (chain_more ∙ ap (λ (i : ℕ). table_of counts 0 0 pre ++ (slice (q * piece_size) (q * piece_size + piece_size) w ++ (i ∷ []))) (sym (closed e f)));
        }

  pub chaining_done : p ≤ q → HoldsFrom table table₀ 0 (p * record_size) (table_of y.counts 0 0 y.ps)
  chaining_done h =
      let e : q ≡ p = omega (arith, s.within) in
      rw (take_all q y.ps (omega (arith, y.number)), e) at s.rested
