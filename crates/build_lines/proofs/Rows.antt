-- Numbers of pieces of one line: what one line more adds to records, members and marks.
use Prim.Native.Nat.{ℕ, ◌+◌, ◌<◌}
use mathlib.Core.Path.{◌≡◌, refl, ap, ap₂, ◌∙◌}
use mathlib.Core.Bool.{Bool, true, false, beq}
use mathlib.Core.List.{List, [], ◌∷◌, ◌++◌, flat_map, append-nil}
use native.Mathlib.Omega.{arith}
use lib.ListN.{length, get_or, take, length-append}
use Rattle.rules.specs.Lists.{total}
use Rattle.rules.specs.Plane.{points}
use Rattle.rules.specs.Chaining.{Piece, Line, plain, alone}
use Rattle.rules.specs.Layout.{lines, copy, five, rows, piece_table}
use Rattle.build_lines.specs.Taken.{Adds}
use Rattle.chain_laws.proofs.Lines.{flat_map_append}
use Rattle.chain_laws.proofs.Records.{rows_append}
use Rattle.chain_laws.proofs.Room.{lines_length}
use Rattle.chain_laws.proofs.Sound.{no_line}
use Rattle.chain_pieces.specs.Held.{lines_of, marks_of, listing_of}
use Rattle.chain_pieces.proofs.Reading.{five_own}
use Rattle.build_lines.proofs.Passing.{plain_at, passed, passed_one, passed_none, pieces_lone, lone_lines, points_at, plain_at_lem}

-- ---- a line alone

alone_table : (counts : List ℕ) (m c k : ℕ) (l : Line) → piece_table counts m c (alone k l ∷ []) ≡ m ∷ 1 ∷ 0 ∷ total (take k counts) ∷ length l.points ∷ []
unfolding rows alone
alone_table counts m c k l = append-nil (five counts m c (alone k l)) ∙ five_own counts m c (alone k l) refl

-- ---- one line more

-- line k is a piece behind the pieces qs: what it adds, where m members and c points stand before them all
pub record More (counts : List ℕ) (k : ℕ) (qs qs' : List Piece) : Type 0 where
  pub number : length qs' ≡ length qs + 1
  pub records : (m c : ℕ) → piece_table counts m c qs' ≡ piece_table counts m c qs ++ ((m + length qs) ∷ 1 ∷ 0 ∷ total (take k counts) ∷ get_or counts k 0 ∷ [])
  pub members : lines_of qs' ≡ lines_of qs ++ (k ∷ [])
  pub marks : marks_of qs' ≡ marks_of qs ++ (0 ∷ [])
  pub listing : listing_of qs' ≡ listing_of qs ++ (k ∷ [])

module _ (want : Bool) (width : ℕ) (input counts groups kinds : List ℕ) (adds : Adds width counts input) (k : ℕ) (b : k < length counts) where
  abbrev ls : List Line
  ls = lines (points width input) counts groups kinds

  abbrev line : Line
  line = get_or ls k no_line

  abbrev qs : List Piece
  qs = passed want ls k

  inside : k < length ls
  inside = omega (arith, lines_length (points width input) counts groups kinds)

  asked : {t : Bool} → beq want (plain_at counts kinds k) ≡ t → beq want (plain line) ≡ t
  asked e = ap (beq want) (plain_at_lem width input counts groups kinds adds k b) ∙ e

  pub one_wanted : beq want (plain_at counts kinds k) ≡ true → More counts k (passed want ls k) (passed want ls (k + 1))
  unfolding flat_map alone
  one_wanted e =
      rw (passed_one want ls k inside (asked e))
      (record {
        number = length-append qs (alone k line ∷ []);
        records = λ m c.
            rows_append (five counts) m c qs (alone k line ∷ [])
            ∙ ap (λ (r : List ℕ). piece_table counts m c qs ++ r)
            (alone_table counts (m + length (lines_of qs)) (c + length (flat_map copy qs)) k line
            ∙ ap₂ (λ (i j : ℕ). (m + i) ∷ 1 ∷ 0 ∷ total (take k counts) ∷ j ∷ [])
            (lone_lines qs (pieces_lone want 0 (take k ls))) (points_at width input counts groups kinds adds k b));
        members = flat_map_append (λ (p : Piece). p.lines) qs (alone k line ∷ []);
        marks = flat_map_append (λ (p : Piece). p.marks) qs (alone k line ∷ []);
        listing = flat_map_append (λ (p : Piece). p.listing) qs (alone k line ∷ []);
      })

  pub none_wanted : beq want (plain_at counts kinds k) ≡ false → passed want ls (k + 1) ≡ passed want ls k
  none_wanted e = passed_none want ls k inside (asked e)
