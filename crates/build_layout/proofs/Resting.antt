-- The loop of `lay_rest`: after k lines those of them that pass through are chains. A line more that does is a record, a member, a mark and a place in the
-- listing behind the others, and its places are there because the lines that pass through are counted in the rooms.
use Prim.Native.Nat.{ℕ, ◌+◌, ◌-◌, ◌*◌, ◌≤◌, ◌<◌}
use mathlib.Core.Path.{◌≡◌, refl, sym, ap, ap₂, ◌∙◌}
use mathlib.Core.Bool.{true, false, beq}
use mathlib.Core.List.{List, [], ◌∷◌, ◌++◌, flat_map}
use native.Mathlib.Omega.{arith}
use native.Mathlib.Nat.{add-mul, mul-le-mul_right}
use lib.ListN.{length, get_or, take, drop, length-drop}
use Rattle.rules.specs.Lists.{one, total}
use Rattle.rules.specs.Plane.{points}
use Rattle.rules.specs.Chaining.{Piece, Line, alone, pieces}
use Rattle.rules.specs.Layout.{lines, copy, loop, six, rows, table as table_of, lent}
use Rattle.rules.specs.Refusals.{most_points, record_size}
use Rattle.chain_laws.proofs.Records.{line_at}
use Rattle.chain_laws.proofs.Room.{lines_length}
use Rattle.chain_laws.proofs.Sound.{no_line}
use Rattle.point_numbers.proofs.Points.{points_drop, points_take}
use Rattle.point_slices.proofs.Laws.{from_start, from_length}
use Rattle.build_lines.proofs.Passing.{plain_at, passed, passed_one, passed_all, passed_few, total_next, total_part, pieces_lone, lone_lines, plain_at_lem, points_at}
use Rattle.build_lines.proofs.Rows.{More, one_wanted, none_wanted}
use Rattle.chain_pieces.specs.Held.{lines_of}
use Rattle.chain_pieces.proofs.Reading.{five_own}
use Rattle.build_layout.proofs.Parts.{behind}
use Rattle.build_layout.proofs.Chaining.{row_last}
use Rattle.build_layout.specs.Laying.{passing_of, ChainLayable, Chained, Rest, Rested}

-- r lines of the first k pass through, and `first` is the first coordinate of line k
pub record Resting (width : ℕ) (counts kinds coordinates groups : List ℕ) (j m : ℕ) (table table₀ members members₀ marks marks₀ listing listing₀ : List ℕ) (k r first : ℕ) : Type 0 where
  pub within : k ≤ length counts
  pub fewer : r ≤ length (passing_of width (lent coordinates counts groups kinds))
  pub first_is : first ≡ total (take k counts)
  pub first_small : first ≤ most_points
  pub table_size : length table ≡ length table₀
  pub members_size : length members ≡ length members₀
  pub marks_size : length marks ≡ length marks₀
  pub listing_size : length listing ≡ length listing₀
  pub rested : Rested counts j m (passed false (lines (points width coordinates) counts groups kinds) k) table table₀ members members₀ marks marks₀ listing listing₀ (j + r)

pub resting_start : (width : ℕ) (counts kinds coordinates groups : List ℕ) (j m : ℕ) (table members marks listing : List ℕ)
    → Resting width counts kinds coordinates groups j m table table members members marks marks listing listing 0 0 0
unfolding pieces rows flat_map total
resting_start width counts kinds coordinates groups j m table members marks listing =
    record {
      within = omega arith;
      fewer = omega arith;
      first_is = refl;
      first_small = omega arith;
      table_size = refl;
      members_size = refl;
      marks_size = refl;
      listing_size = refl;
      rested = record {
        number = refl;
        records = λ c. from_start table (j * record_size);
        listed = from_start members m;
        turned = from_start marks m;
        passed = from_start listing m;
      };
    }

module _ {counts kinds : List ℕ} {j m : ℕ} {table table₀ members members₀ marks marks₀ listing listing₀ : List ℕ} {k r first : ℕ}
    {width : ℕ} {coordinates : List ℕ} (y : Rest width coordinates counts kinds j m table₀ members₀ marks₀ listing₀)
    (s : Resting width counts kinds coordinates y.groups j m table table₀ members members₀ marks marks₀ listing listing₀ k r first) where
  abbrev ls : List Line
  ls = lines (points width coordinates) counts y.groups kinds

  abbrev qs : List Piece
  qs = passed false ls k

  abbrev line : Line
  line = get_or ls k no_line

  number : r ≡ length qs
  number = omega (arith, s.rested.number)

  -- ---- one line more

  module _ (b : k < length counts) where
    next : first + get_or counts k 0 ≡ total (take (k + 1) counts)
    next = omega (arith, total_next counts k b, s.first_is)

    pub next_small : first + get_or counts k 0 ≤ most_points
    next_small = omega (arith, next, total_part counts (k + 1), y.small)

    -- ---- its coordinates

    pub part_inside : first * width + get_or counts k 0 * width ≤ length coordinates
    part_inside =
        let all : first + get_or counts k 0 ≤ total counts = omega (arith, next, total_part counts (k + 1)) in
        omega (arith, mul-le-mul_right width all, add-mul first (get_or counts k 0) width, y.adds.sum)

    part_points : points width (take (get_or counts k 0 * width) (drop (first * width) coordinates)) ≡ line.points
    part_points =
        let o : 0 < width = omega (arith, y.adds.two) in
        points_take width (drop (first * width) coordinates) (get_or counts k 0) o (omega (arith, length-drop (first * width) coordinates, part_inside))
        ∙ ap (take (get_or counts k 0)) (points_drop width coordinates first o)
        ∙ ap (λ (i : ℕ). take (get_or counts k 0) (drop i (points width coordinates))) s.first_is
        ∙ sym (line_at (points width coordinates) counts y.groups kinds k)

    closed : {mark : ℕ} → mark ≡ one (loop (points width (take (first * width + get_or counts k 0 * width - first * width) (drop (first * width) coordinates))))
        → mark ≡ one (loop line.points)
    closed f =
        let e : first * width + get_or counts k 0 * width - first * width ≡ get_or counts k 0 * width = omega arith in
        f ∙ ap (λ (i : ℕ). one (loop (points width (take i (drop (first * width) coordinates))))) e ∙ ap (λ l. one (loop l)) part_points

    module _ (t : plain_at counts kinds k ≡ false) where
      inside : k < length ls
      inside = omega (arith, lines_length (points width coordinates) counts y.groups kinds)

      more : More counts k qs (passed false ls (k + 1))
      more = one_wanted false width coordinates counts y.groups kinds y.adds k b (ap (beq false) t)

      less : r < length (passing_of width (lent coordinates counts y.groups kinds))
      less = omega (arith, number, more.number, passed_few false ls (k + 1))

      pub resting_room : ChainLayable k (j + r) (m + r) table members marks listing
      resting_room =
          record {
            narrow = (omega (arith, y.few), omega (arith, less, y.members_few));
            record_fits = omega (arith, less, y.table_fits, s.table_size);
            member_fits = omega (arith, less, y.members_fit, s.members_size);
            mark_fits = omega (arith, less, y.marks_fit, s.marks_size);
            line_fits = omega (arith, less, y.listing_fit, s.listing_size);
          }

      -- its record behind the others
      chain_more : (c : ℕ) → table_of counts m c (passed false ls (k + 1)) ≡ table_of counts m c qs ++ ((m + r) ∷ 1 ∷ 0 ∷ first ∷ get_or counts k 0 ∷ one (loop line.points) ∷ [])
      unfolding six alone
      chain_more c =
          ap (table_of counts m c) (passed_one false ls k inside (ap (beq false) (plain_at_lem width coordinates counts y.groups kinds y.adds k b ∙ t)))
          ∙ row_last counts m c qs (alone k line)
          ∙ ap (λ (l : List ℕ). table_of counts m c qs ++ (l ++ (one (loop line.points) ∷ [])))
          (five_own counts (m + length (lines_of qs)) (c + length (flat_map copy qs)) (alone k line) refl)
          ∙ ap₂ (λ (i f : ℕ). table_of counts m c qs ++ ((m + i) ∷ 1 ∷ 0 ∷ f ∷ length line.points ∷ one (loop line.points) ∷ []))
          (lone_lines qs (pieces_lone false 0 (take k ls)) ∙ sym number) (sym s.first_is)
          ∙ ap (λ (i : ℕ). table_of counts m c qs ++ ((m + r) ∷ 1 ∷ 0 ∷ first ∷ i ∷ one (loop line.points) ∷ [])) (points_at width coordinates counts y.groups kinds y.adds k b)

      pub resting_passes : {mark : ℕ} {table' members' marks' listing' table'' members'' marks'' listing'' : List ℕ} {r' : ℕ}
          → mark ≡ one (loop (points width (take (first * width + get_or counts k 0 * width - first * width) (drop (first * width) coordinates))))
          → Chained k first (get_or counts k 0) mark (j + r) (m + r) table' table members' members marks' marks listing' listing
          → table'' ≡ table' → members'' ≡ members' → marks'' ≡ marks' → listing'' ≡ listing' → r' ≡ r + 1
          → Resting width counts kinds coordinates y.groups j m table'' table₀ members'' members₀ marks'' marks₀ listing'' listing₀ (k + 1) r' (first + get_or counts k 0)
      resting_passes {mark} {table'} {members'} {marks'} {listing'} f g e₁ e₂ e₃ e₄ e₅ =
          rw (e₁, e₂, e₃, e₄, e₅)
          (record {
            within = omega arith;
            fewer = omega (arith, less);
            first_is = next;
            first_small = next_small;
            table_size = from_length g.row resting_room.record_fits ∙ s.table_size;
            members_size = from_length g.member (omega (arith, resting_room.member_fits)) ∙ s.members_size;
            marks_size = from_length g.mark (omega (arith, resting_room.mark_fits)) ∙ s.marks_size;
            listing_size = from_length g.line (omega (arith, resting_room.line_fits)) ∙ s.listing_size;
            rested = record {
              number = omega (arith, number, more.number);
              records = λ c.
                  behind (s.rested.records c) (omega (arith, number, less, y.table_fits)) g.row (omega (arith, number)) (omega (arith, more.number))
                  (chain_more c ∙ ap (λ (i : ℕ). table_of counts m c qs ++ ((m + r) ∷ 1 ∷ 0 ∷ first ∷ get_or counts k 0 ∷ i ∷ [])) (sym (closed f)));
              listed = behind s.rested.listed (omega (arith, number, less, y.members_fit)) g.member (omega (arith, number)) more.number more.members;
              turned = behind s.rested.turned (omega (arith, number, less, y.marks_fit)) g.mark (omega (arith, number)) more.number more.marks;
              passed = behind s.rested.passed (omega (arith, number, less, y.listing_fit)) g.line (omega (arith, number)) more.number more.listing;
            };
          })

    pub resting_plain : {table'' members'' marks'' listing'' : List ℕ} {r' : ℕ} → plain_at counts kinds k ≡ true
        → table'' ≡ table → members'' ≡ members → marks'' ≡ marks → listing'' ≡ listing → r' ≡ r
        → Resting width counts kinds coordinates y.groups j m table'' table₀ members'' members₀ marks'' marks₀ listing'' listing₀ (k + 1) r' (first + get_or counts k 0)
    resting_plain t e₁ e₂ e₃ e₄ e₅ =
        rw (e₁, e₂, e₃, e₄, e₅)
        (record {
          within = omega arith;
          fewer = s.fewer;
          first_is = next;
          first_small = next_small;
          table_size = s.table_size;
          members_size = s.members_size;
          marks_size = s.marks_size;
          listing_size = s.listing_size;
          rested = rw (none_wanted false width coordinates counts y.groups kinds y.adds k b (ap (beq false) t)) s.rested;
        })

  -- ---- all lines

  pub resting_done : length counts ≤ k
      → Rested counts j m (passing_of width (lent coordinates counts y.groups kinds)) table table₀ members members₀ marks marks₀ listing listing₀ (j + r)
  resting_done h =
      rw (passed_all false ls k (omega (arith, lines_length (points width coordinates) counts y.groups kinds))) at s.rested
