-- The loop of `take_lines`: after k lines, of which m are plain, m records, members, marks and places in the listing stand in the block. A plain line adds
-- one to each behind those that stand there, and none touches another's part.
use Prim.Native.Nat.{ℕ, ◌+◌, ◌*◌, ◌≤◌, ◌<◌}
use mathlib.Core.Path.{◌≡◌, refl, sym, ap, ap₂, ◌∙◌}
use mathlib.Core.Bool.{true, false, beq}
use mathlib.Core.List.{List, [], ◌∷◌, ◌++◌, flat_map}
use native.Mathlib.Omega.{arith}
use native.Mathlib.Nat.{add-zero, zero-add, zero-mul}
use lib.ListN.{length, get_or, take, drop, set, length-set}
use lib.Seq.{slice, slice_empty}
use Rattle.rules.specs.Lists.{total}
use Rattle.rules.specs.Plane.{points, flat}
use Rattle.rules.specs.Chaining.{Piece, nothing, pieces}
use Rattle.rules.specs.Layout.{lines, rows, piece_table, lent}
use Rattle.point_numbers.specs.Width.{AllWide}
use Rattle.chain_laws.proofs.Counts.{Each, each_get_d}
use Rattle.chain_laws.proofs.Drawn.{Drawn, alone_drawn, marks_all, listings_long}
use Rattle.chain_laws.proofs.Sound.{no_line}
use Rattle.chain_laws.proofs.Room.{lines_length}
use Rattle.point_slices.specs.Holds.{HoldsFrom}
use Rattle.point_slices.proofs.Laws.{from_length, take_before, drop_past, slice_below, slice_beyond, slice_more}
use Rattle.chain_pieces.specs.Held.{lines_of, marks_of, listing_of, Own, Packed}
use Rattle.chain_pieces.proofs.Packed.{packed_held}
use Rattle.build_lines.specs.Taken.{Adds, Takable, plain_of, Taken}
use Rattle.build_lines.proofs.Passing.{plain_at, every, passed, passed_all, pieces_few, pieces_lone, lone_lines, lone_copies, total_next}
use Rattle.build_lines.proofs.Rows.{More, one_wanted, none_wanted}
use Rattle.chain_pieces.proofs.Storing.{one_put}
use Rattle.build_lines.proofs.Own.{alone_own, alone_wide}
use Rattle.chain_pieces.specs.Map.{listing_block, mark_block, member_block, node_block, taken_block, taken_listing, taken_marks, taken_members}
use Rattle.rules.specs.Refusals.{piece_size}

-- the pieces qs, m of them, stand in the block as far as they go
pub record Standing (w : List ℕ) (n m : ℕ) (counts : List ℕ) (qs : List Piece) : Type 0 where
  pub number : m ≡ length qs
  pub records : slice (n * taken_block) (n * taken_block + m * piece_size) w ≡ piece_table counts 0 0 qs
  pub members : slice (n * taken_members) (n * taken_members + m) w ≡ lines_of qs
  pub marks : slice (n * taken_marks) (n * taken_marks + m) w ≡ marks_of qs
  pub listing : slice (n * taken_listing) (n * taken_listing + m) w ≡ listing_of qs

-- `first` is the first coordinate of line k; a count is a u32
pub record Taking (w w₀ : List ℕ) (n k m first : ℕ) (counts kinds : List ℕ) : Type 0 where
  pub within : k ≤ n
  pub fewer : m ≤ k
  pub first_is : first ≡ total (take k counts)
  pub first_small : first ≤ k * 4294967295
  pub size : length w ≡ length w₀
  pub front : take (n * taken_block) w ≡ take (n * taken_block) w₀
  pub rest : drop (n * node_block) w ≡ drop (n * node_block) w₀
  pub standing : (width : ℕ) (input groups : List ℕ) → Adds width counts input → Standing w n m counts (passed true (lines (points width input) counts groups kinds) k)

pub taking_start : (w : List ℕ) (n : ℕ) (counts kinds : List ℕ) → Taking w w n 0 0 0 counts kinds
unfolding pieces rows flat_map total
taking_start w n counts kinds =
    record {
      within = omega arith;
      fewer = omega arith;
      first_is = refl;
      first_small = omega arith;
      size = refl;
      front = refl;
      rest = refl;
      standing = λ width input groups e.
          record {
            number = refl;
            records = rw add-zero (slice_empty (n * taken_block) w);
            members = rw add-zero (slice_empty (n * taken_members) w);
            marks = rw add-zero (slice_empty (n * taken_marks) w);
            listing = rw add-zero (slice_empty (n * taken_listing) w);
          };
    }

-- ---- a plain line: its record, and then its member, its mark and its place in the listing

module _ (v w : List ℕ) (n k m : ℕ) (counts : List ℕ) (room : n * node_block ≤ length w) (b : m < n)
    (put : HoldsFrom v w (n * taken_block + m * piece_size) 5 (m ∷ 1 ∷ 0 ∷ total (take k counts) ∷ get_or counts k 0 ∷ [])) where
  abbrev v₁ : List ℕ
  v₁ = set v (n * taken_members + m) k

  abbrev v₂ : List ℕ
  v₂ = set v₁ (n * taken_marks + m) 0

  abbrev v₃ : List ℕ
  v₃ = set v₂ (n * taken_listing + m) k

  in_record : n * taken_block + m * piece_size + 5 ≤ length w
  in_record = omega arith

  same : length v ≡ length w
  same = from_length put in_record

  member : HoldsFrom v₁ v (n * taken_members + m) 1 (k ∷ [])
  member = one_put v (n * taken_members + m) k (omega (arith, same))

  in_members : n * taken_members + m + 1 ≤ length v
  in_members = omega (arith, same)

  same₁ : length v₁ ≡ length w
  same₁ = length-set v (n * taken_members + m) k ∙ same

  mark : HoldsFrom v₂ v₁ (n * taken_marks + m) 1 (0 ∷ [])
  mark = one_put v₁ (n * taken_marks + m) 0 (omega (arith, same₁))

  in_marks : n * taken_marks + m + 1 ≤ length v₁
  in_marks = omega (arith, same₁)

  same₂ : length v₂ ≡ length w
  same₂ = length-set v₁ (n * taken_marks + m) 0 ∙ same₁

  listed : HoldsFrom v₃ v₂ (n * taken_listing + m) 1 (k ∷ [])
  listed = one_put v₂ (n * taken_listing + m) k (omega (arith, same₂))

  in_listing : n * taken_listing + m + 1 ≤ length v₂
  in_listing = omega (arith, same₂)

  kept_size : length (set (set (set v (n * taken_members + m) k) (n * taken_marks + m) 0) (n * taken_listing + m) k) ≡ length w
  kept_size = length-set v₂ (n * taken_listing + m) k ∙ same₂

  kept_front : take (n * taken_block) (set (set (set v (n * taken_members + m) k) (n * taken_marks + m) 0) (n * taken_listing + m) k) ≡ take (n * taken_block) w
  kept_front =
      take_before listed in_listing (n * taken_block) (omega arith) ∙ take_before mark in_marks (n * taken_block) (omega arith)
      ∙ take_before member in_members (n * taken_block) (omega arith) ∙ take_before put in_record (n * taken_block) (omega arith)

  kept_rest : drop (n * node_block) (set (set (set v (n * taken_members + m) k) (n * taken_marks + m) 0) (n * taken_listing + m) k) ≡ drop (n * node_block) w
  kept_rest =
      drop_past listed in_listing (n * node_block) (omega arith) ∙ drop_past mark in_marks (n * node_block) (omega arith)
      ∙ drop_past member in_members (n * node_block) (omega arith) ∙ drop_past put in_record (n * node_block) (omega arith)

  standing_more : (qs qs' : List Piece) → More counts k qs qs' → Standing w n m counts qs
      → Standing (set (set (set v (n * taken_members + m) k) (n * taken_marks + m) 0) (n * taken_listing + m) k) n (m + 1) counts qs'
  standing_more qs qs' more s =
      record {
        number = omega (arith, s.number, more.number);
        records =
            let e : n * taken_block + (m + 1) * 5 ≡ n * taken_block + m * piece_size + 5 = omega arith in
            let f : m ≡ 0 + length qs = omega (arith, s.number) in
            ap (λ (i : ℕ). slice (n * taken_block) i v₃) e
            ∙ slice_below listed in_listing (n * taken_block) (n * taken_block + m * piece_size + 5) (omega arith)
            ∙ slice_below mark in_marks (n * taken_block) (n * taken_block + m * piece_size + 5) (omega arith)
            ∙ slice_below member in_members (n * taken_block) (n * taken_block + m * piece_size + 5) (omega arith)
            ∙ slice_more put in_record (n * taken_block) (omega arith)
            ∙ ap₂ (λ (t : List ℕ) (i : ℕ). t ++ (i ∷ 1 ∷ 0 ∷ total (take k counts) ∷ get_or counts k 0 ∷ [])) s.records f
            ∙ sym (more.records 0 0);
        members =
            let e : n * taken_members + (m + 1) ≡ n * taken_members + m + 1 = omega arith in
            ap (λ (i : ℕ). slice (n * taken_members) i v₃) e
            ∙ slice_below listed in_listing (n * taken_members) (n * taken_members + m + 1) (omega arith)
            ∙ slice_below mark in_marks (n * taken_members) (n * taken_members + m + 1) (omega arith)
            ∙ slice_more member in_members (n * taken_members) (omega arith)
            ∙ ap (λ (t : List ℕ). t ++ (k ∷ [])) (slice_beyond put in_record (n * taken_members) m (omega arith) ∙ s.members)
            ∙ sym more.members;
        marks =
            let e : n * taken_marks + (m + 1) ≡ n * taken_marks + m + 1 = omega arith in
            ap (λ (i : ℕ). slice (n * taken_marks) i v₃) e
            ∙ slice_below listed in_listing (n * taken_marks) (n * taken_marks + m + 1) (omega arith)
            ∙ slice_more mark in_marks (n * taken_marks) (omega arith)
            ∙ ap (λ (t : List ℕ). t ++ (0 ∷ []))
            (slice_beyond member in_members (n * taken_marks) m (omega arith) ∙ slice_beyond put in_record (n * taken_marks) m (omega arith) ∙ s.marks)
            ∙ sym more.marks;
        listing =
            let e : n * taken_listing + (m + 1) ≡ n * taken_listing + m + 1 = omega arith in
            ap (λ (i : ℕ). slice (n * taken_listing) i v₃) e
            ∙ slice_more listed in_listing (n * taken_listing) (omega arith)
            ∙ ap (λ (t : List ℕ). t ++ (k ∷ []))
            (slice_beyond mark in_marks (n * taken_listing) m (omega arith) ∙ slice_beyond member in_members (n * taken_listing) m (omega arith)
            ∙ slice_beyond put in_record (n * taken_listing) m (omega arith) ∙ s.listing)
            ∙ sym more.listing;
      }

module _ {w w₀ : List ℕ} {n k m first : ℕ} {counts kinds : List ℕ} (s : Taking w w₀ n k m first counts kinds) (y : Takable w₀ n counts kinds) (b : k < n)
    (small : get_or counts k 0 ≤ 4294967295) where
  below : k < length counts
  below = omega (arith, y.counts_long)

  next : first + get_or counts k 0 ≡ total (take (k + 1) counts)
  next = omega (arith, total_next counts k below, s.first_is)

  pub taking_plain : {w' v : List ℕ} {m' : ℕ} → plain_at counts kinds k ≡ true
      → HoldsFrom v w (n * taken_block + m * piece_size) 5 (m ∷ 1 ∷ 0 ∷ first ∷ get_or counts k 0 ∷ [])
      → w' ≡ set (set (set v (n * taken_members + m) k) (n * taken_marks + m) 0) (n * taken_listing + m) k → m' ≡ m + 1
      → Taking w' w₀ n (k + 1) m' (first + get_or counts k 0) counts kinds
  taking_plain {w'} {v} {m'} t put e g =
      let room : n * node_block ≤ length w = omega (arith, y.room, s.size) in
      let less : m < n = omega (arith, s.fewer) in
      let put' : HoldsFrom v w (n * taken_block + m * piece_size) 5 (m ∷ 1 ∷ 0 ∷ total (take k counts) ∷ get_or counts k 0 ∷ []) = rw s.first_is at put in
      rw (e, g)
      (record {
        within = omega arith;
        fewer = omega (arith, s.fewer);
        first_is = next;
        first_small = omega (arith, s.first_small);
        size = kept_size v w n k m counts room less put' ∙ s.size;
        front = kept_front v w n k m counts room less put' ∙ s.front;
        rest = kept_rest v w n k m counts room less put' ∙ s.rest;
        standing = λ width input groups a.
            standing_more v w n k m counts room less put' _ _ (one_wanted true width input counts groups kinds a k below (ap (beq true) t))
            (s.standing width input groups a);
      })

  -- a line that passes through
  pub taking_other : {w' : List ℕ} {m' : ℕ} → plain_at counts kinds k ≡ false → w' ≡ w → m' ≡ m
      → Taking w' w₀ n (k + 1) m' (first + get_or counts k 0) counts kinds
  taking_other {w'} {m'} t e g =
      rw (e, g)
      (record {
        within = omega arith;
        fewer = omega (arith, s.fewer);
        first_is = next;
        first_small = omega (arith, s.first_small);
        size = s.size;
        front = s.front;
        rest = s.rest;
        standing = λ width input groups a.
            rw (none_wanted true width input counts groups kinds a k below (ap (beq true) t)) (s.standing width input groups a);
      })

-- ---- all lines

module _ (width : ℕ) (w : List ℕ) (n : ℕ) (input copies counts groups kinds : List ℕ) (y : Takable w n counts kinds) (adds : Adds width counts input) where
  abbrev qs : List Piece
  qs = plain_of width (lent input counts groups kinds)

  few : length qs ≤ n
  few = omega (arith, pieces_few true 0 (lines (points width input) counts groups kinds), lines_length (points width input) counts groups kinds, y.counts_long)

  one_line : length (lines_of qs) ≡ length qs
  one_line = lone_lines qs (pieces_lone true 0 (lines (points width input) counts groups kinds))

  standing_packed : {m : ℕ} → Standing w n m counts (plain_of width (lent input counts groups kinds)) → Packed width w (n * taken_block) n input copies counts (plain_of width (lent input counts groups kinds))
  unfolding flat
  standing_packed {m} s =
      record {
        few = few;
        listed = omega (arith, one_line, few);
        room = omega (arith, y.room);
        records = ap (λ (i : ℕ). slice (n * taken_block) (n * taken_block + i * piece_size) w) (sym s.number) ∙ s.records;
        members =
            let e : n * taken_block + n * member_block ≡ n * taken_members = omega arith in
            let f : length (lines_of qs) ≡ m = omega (arith, one_line, s.number) in
            ap₂ (λ (i j : ℕ). slice i (i + j) w) e f ∙ s.members;
        marks =
            let e : n * taken_block + n * mark_block ≡ n * taken_marks = omega arith in
            let f : length (marks_of qs) ≡ m = omega (arith, marks_all qs drawns, one_line, s.number) in
            ap₂ (λ (i j : ℕ). slice i (i + j) w) e f ∙ s.marks;
        listing =
            let e : n * taken_block + n * listing_block ≡ n * taken_listing = omega arith in
            let f : length (listing_of qs) ≡ m = omega (arith, listings_long qs drawns, one_line, s.number) in
            ap₂ (λ (i j : ℕ). slice i (i + j) w) e f ∙ s.listing;
        drawn = λ q b. each_get_d Drawn qs q nothing drawns b;
        full = λ q b. omega (arith, each_get_d (λ (p : Piece). length p.lines ≡ 1) qs q nothing (pieces_lone true 0 (lines (points width input) counts groups kinds)) b);
        own = λ q b d. each_get_d (Own width input counts) qs q nothing owns b;
        wide = λ q b. each_get_d (λ (p : Piece). AllWide width p.points) qs q nothing wides b;
        copied = rw (lone_copies qs (pieces_lone true 0 (lines (points width input) counts groups kinds))) (ap (λ (i : ℕ). take i copies) (zero-mul width));
      }
    where
      drawns : Each Drawn qs
      drawns = every true Drawn 0 (lines (points width input) counts groups kinds) (λ i b. alone_drawn (0 + i) (get_or (lines (points width input) counts groups kinds) i no_line))

      wides : Each (λ (p : Piece). AllWide width p.points) qs
      wides =
          every true (λ (p : Piece). AllWide width p.points) 0 (lines (points width input) counts groups kinds)
          (λ i b. rw zero-add (alone_wide width input counts groups kinds adds i (omega (arith, lines_length (points width input) counts groups kinds))))

      owns : Each (Own width input counts) qs
      owns =
          every true (Own width input counts) 0 (lines (points width input) counts groups kinds)
          (λ i b. rw zero-add (alone_own width input counts groups kinds adds i (omega (arith, lines_length (points width input) counts groups kinds))))

pub taking_done : {w w₀ : List ℕ} {n k m first : ℕ} {counts kinds : List ℕ} → Taking w w₀ n k m first counts kinds → Takable w₀ n counts kinds → n ≤ k
    → Taken w w₀ n counts kinds m
taking_done {w} {w₀} {n} {k} {m} {first} {counts} {kinds} s y h =
    record {
      size = s.size;
      front = s.front;
      rest = s.rest;
      number = λ width input groups a. (all width input groups a).number;
      held = λ width input groups copies a.
          packed_held width w (n * taken_block) n input copies counts (plain_of width (lent input counts groups kinds))
          (standing_packed width w n input copies counts groups kinds ready a (all width input groups a));
    }
  where
    ready : Takable w n counts kinds
    ready = record { few = y.few; counts_long = y.counts_long; kinds_long = y.kinds_long; room = omega (arith, y.room, s.size) }

    all : (width : ℕ) (input groups : List ℕ) → Adds width counts input → Standing w n m counts (plain_of width (lent input counts groups kinds))
    all width input groups a =
        rw (passed_all true (lines (points width input) counts groups kinds) k (omega (arith, lines_length (points width input) counts groups kinds, y.counts_long))) at
        (s.standing width input groups a)
