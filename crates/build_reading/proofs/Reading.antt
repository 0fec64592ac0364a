-- Reading: the rooms that the layout of some chains begins give back those chains, each with its members, marks and coordinates.
-- A record counts what the chains before it wrote, and that is what stands before; a chain of one line has that line's own coordinates, which stand
-- in the input.
use Prim.Native.Nat.{ℕ, zero, suc, ◌+◌, ◌*◌, ◌≤◌, ◌<◌}
use mathlib.Core.Path.{◌≡◌, refl, sym, ap, ap₂, ◌∙◌}
use mathlib.Core.Bool.{Bool, true, false, ◌||◌}
use mathlib.Core.List.{List, [], ◌∷◌, ◌++◌, map, flat_map, append_assoc}
use native.Mathlib.Omega.{arith}
use native.Mathlib.Nat.{add-mul, mul-le-mul_right, eq_of_mul-eq-mul_right}
use lib.Dec.{eqb}
use lib.ListN.{length, get_or, take, drop, length-append, take-append-drop, get_or-append, length-map, get_or-map}
use lib.Seq.{split_at, length-take-le, get_or-take, get_or-drop, take_at, drop_at, get_or-append-add}
use borrow.Author.Tests.{le-ltb, eqb-true}
use Rattle.rules.specs.Lists.{one, from, upto, total}
use Rattle.rules.specs.Plane.{Point, points, flat}
use Rattle.rules.specs.Boxes.{grown, box_of, stacked, box_numbers, box_at}
use Rattle.rules.specs.Chaining.{Piece, nothing, Line}
use Rattle.rules.specs.Layout.{lines, copied, copy, loop as loop_of, five, six, table as table_of}
use Rattle.rules.specs.Types.{width_of}
use Rattle.rules.specs.Refusals.{rooms, record_size, piece_size, entry, source_of, no_chain}
use Rattle.rules.specs.Calls.{viewed}
use Rattle.box_laws.proofs.Rows.{first_boxes}
use Rattle.build_question.specs.Parts.{part_of}
use Rattle.build_question.proofs.Laws.{part_there, viewed_part}
use Rattle.chain_laws.proofs.Counts.{Each, nil, cons, each_get_d}
use Rattle.chain_laws.proofs.Lines.{flat_map_append, map_from}
use Rattle.chain_laws.proofs.Drawn.{Drawn, listing_long, marks_all, listings_long}
use Rattle.chain_laws.proofs.Sound.{no_line, Sound}
use Rattle.chain_laws.proofs.Records.{five_length, six_length, rows_length, row_at, line_at}
use Rattle.point_numbers.proofs.Points.{flat_append, flat_length, points_back}
use Rattle.point_numbers.proofs.Loops.{loop-flat}
use Rattle.build_lines.specs.Taken.{Adds}
use Rattle.build_lines.proofs.Passing.{total_part}
use Rattle.build_reading.specs.Reading.{read_at, read_all, read_of}

-- ---- lists

pub by_index : {A B : Type 0} (f : ℕ → B) (g : A → B) (d : A) (l : List A) → ((k : ℕ) → k < length l → f k ≡ g (get_or l k d)) → map f (upto (length l)) ≡ map g l
unfolding upto from
by_index f g d [] h = refl
by_index {B = B} f g d (a ∷ l) h =
    ap₂ {C = List B} (λ x r. x ∷ r) (h 0 (omega arith))
    (map_from f 0 (length l) ∙ by_index (λ i. f (suc i)) g d l (λ k b. h (suc k) (omega arith)))

-- what one element gives, among what all give, whatever lies behind
part_of_lem : {A B : Type 0} (f : A → List B) (pre : List A) (p : A) (post : List A) (behind : List B) (m n : ℕ)
    → length (flat_map f pre) ≡ m → length (f p) ≡ n
    → take n (drop m (flat_map f (pre ++ (p ∷ post)) ++ behind)) ≡ f p
unfolding flat_map
part_of_lem {B = B} f pre p post behind m n h k =
    ap (λ (l : List B). take n (drop m (l ++ behind))) (flat_map_append f pre (p ∷ post))
    ∙ ap (λ (l : List B). take n (drop m l))
    (append_assoc (flat_map f pre) (f p ++ flat_map f post) behind ∙ ap (λ (l : List B). flat_map f pre ++ l) (append_assoc (f p) (flat_map f post) behind))
    ∙ ap (take n) (drop_at (flat_map f pre) (f p ++ (flat_map f post ++ behind)) m h)
    ∙ take_at (f p) (flat_map f post ++ behind) n k

length_of_lem : {A B : Type 0} (f : A → List B) (pre : List A) (p : A) (post : List A)
    → length (flat_map f pre) + length (f p) ≤ length (flat_map f (pre ++ (p ∷ post)))
unfolding flat_map
length_of_lem f pre p post =
    omega (
      arith,
      ap length (flat_map_append f pre (p ∷ post)),
      length-append (flat_map f pre) (f p ++ flat_map f post),
      length-append (f p) (flat_map f post),
    )

flat_copies : (w : ℕ) (ps : List Piece) → flat w (flat_map copy ps) ≡ flat_map (λ p. flat w (copy p)) ps
unfolding flat_map flat
flat_copies w [] = refl
flat_copies w (p ∷ ps) = flat_append w (copy p) (flat_map copy ps) ∙ ap (λ (l : List ℕ). flat w (copy p) ++ l) (flat_copies w ps)

-- ---- the view of a record whose numbers are known

-- record k has source s, and names c points from the f-th on of the slice that s names
pub record Named (w : ℕ) (input merged table : List ℕ) (k s f c : ℕ) : Type 0 where
  pub source : entry table k 2 ≡ s
  pub first : entry table k 3 ≡ f
  pub count : entry table k 4 ≡ c
  pub row : k * record_size + record_size ≤ length table
  pub low : s ≤ 1
  pub inside : (f + c) * w ≤ length (source_of s input merged)

module _ {w : ℕ} {input merged table : List ℕ} {k s f c : ℕ} (n : Named w input merged table k s f c) where
  there : entry table k 2 ≤ 1 → (entry table k 3 + entry table k 4) * w ≤ length (source_of (entry table k 2) input merged) → no_chain w input merged table k ≡ false
  unfolding no_chain
  there a b = ap₂ ◌||◌ (le-ltb _ _ n.row) (ap₂ ◌||◌ (le-ltb _ _ a) (le-ltb _ _ b))

  chain_named : no_chain w input merged table k ≡ false
  chain_named = there (rw n.source n.low) (rw (n.source, n.first, n.count) n.inside)

  view_is : part_of w input merged table k ≡ take (c * w) (drop (f * w) (source_of s input merged))
  view_is = part_there w input merged table k chain_named ∙ rw (n.source, n.first, n.count)

-- ---- a line's own points, in the input

-- points stand in the input from o on
pub record Stands (w : ℕ) (input : List ℕ) (o : ℕ) (ps : List Point) : Type 0 where
  pub within : (o + length ps) * w ≤ length input
  pub same : take (length ps * w) (drop (o * w) input) ≡ flat w ps

stands_in : (w : ℕ) (a b c : List Point) (input : List ℕ) (o : ℕ) → input ≡ flat w (a ++ (b ++ c)) → length a ≡ o → Stands w input o b
stands_in w a b c input o h e =
    record {
      within =
          omega (arith, ap length all, length-append (flat w a) (flat w b ++ flat w c), length-append (flat w b) (flat w c), flat_length w a, flat_length w b, add-mul o (length b) w, ap (λ (k : ℕ). k * w) e);
      same =
          ap (λ (l : List ℕ). take (length b * w) (drop (o * w) l)) all
          ∙ ap (take (length b * w)) (drop_at (flat w a) (flat w b ++ flat w c) (o * w) (flat_length w a ∙ ap (λ (k : ℕ). k * w) e))
          ∙ take_at (flat w b) (flat w c) (length b * w) (flat_length w b);
    }
  where
    all : input ≡ flat w a ++ (flat w b ++ flat w c)
    all = h ∙ flat_append w a (b ++ c) ∙ ap (λ (l : List ℕ). flat w a ++ l) (flat_append w b c)

pub line_stands : (w : ℕ) (input counts groups kinds : List ℕ) (k : ℕ) → Adds w counts input
    → Stands w input (total (take k counts)) (get_or (lines (points w input) counts groups kinds) k no_line).points
line_stands w input counts groups kinds k h =
    rw (line_at (points w input) counts groups kinds k)
    (stands_in w (take o (points w input)) (take c (drop o (points w input))) (drop c (drop o (points w input))) input o
    (sym back
    ∙ ap (flat w)
    (sym (take-append-drop o (points w input))
    ∙ ap (λ (l : List Point). take o (points w input) ++ l) (sym (take-append-drop c (drop o (points w input))))))
    (length-take-le o (points w input) (omega (arith, total_part counts k, long))))
  where
    o : ℕ
    o = total (take k counts)

    c : ℕ
    c = get_or counts k 0

    back : flat w (points w input) ≡ input
    back = points_back w input h.two (record { number = total counts; long = sym h.sum })

    long : length (points w input) ≡ total counts
    long =
        eq_of_mul-eq-mul_right w (omega (arith, h.two)) (length (points w input)) (total counts) (sym (flat_length w (points w input)) ∙ ap length back ∙ sym h.sum)

-- ---- chains laid out, with anything behind them

module _
    (type w : ℕ)
    (wide : w ≡ width_of type)
    (input counts : List ℕ)
    (ls : List Line)
    (ps : List Piece)
    (sound : Each (Sound ls) ps)
    (own : (k : ℕ) → Stands w input (total (take k counts)) (get_or ls k no_line).points)
    (t m a d c x s z : List ℕ) where
  abbrev table' : List ℕ
  table' = table_of counts 0 0 ps ++ t

  abbrev members' : List ℕ
  members' = flat_map (λ p. p.lines) ps ++ m

  abbrev marks' : List ℕ
  marks' = flat_map (λ p. p.marks) ps ++ a

  abbrev listing' : List ℕ
  listing' = flat_map (λ p. p.listing) ps ++ d

  abbrev merged' : List ℕ
  merged' = flat w (flat_map copy ps) ++ c

  abbrev boxes' : List ℕ
  boxes' = box_numbers (stacked (map (λ p. box_of p.points) ps)) ++ x

  -- marked and listed, up to any chain
  drawn_before : (q : ℕ) (rs : List Piece) → Each (Sound ls) rs → Each Drawn (take q rs)
  drawn_before zero rs e = nil
  drawn_before (suc q) rs nil = nil
  drawn_before (suc q) rs (cons {l = rs'} s e) = cons s.drawn (drawn_before q rs' e)

  module _ (q : ℕ) (b : q < length ps) where
    abbrev p : Piece
    p = get_or ps q nothing

    abbrev pre : List Piece
    pre = take q ps

    abbrev post : List Piece
    post = drop (suc q) ps

    abbrev before : ℕ
    before = length (flat_map (λ p. p.lines) pre)

    abbrev copies : ℕ
    copies = length (flat_map copy pre)

    whole : ps ≡ pre ++ (p ∷ post)
    whole = split_at ps q nothing b

    here : Sound ls p
    here = each_get_d (Sound ls) ps q nothing sound b

    pre_size : length pre ≡ q
    pre_size = length-take-le q ps (omega arith)

    -- its numbers: the five of a piece, and the loop mark
    words : take record_size (drop (q * record_size) (table_of counts 0 0 ps)) ≡ six counts before copies p
    words =
        ap₂ (λ (k : ℕ) (l : List Piece). take record_size (drop (k * record_size) (table_of counts 0 0 l))) (sym pre_size) whole ∙ row_at (six counts) record_size (six_length counts) pre p post

    row_word : (i : ℕ) → i < record_size → entry table' q i ≡ get_or (six counts before copies p) i 0
    row_word i h =
        get_or-append (table_of counts 0 0 ps) t 0 (q * record_size + i) (omega (arith, rows_length (six counts) record_size (six_length counts) 0 0 ps))
        ∙ sym (get_or-drop (q * record_size) (table_of counts 0 0 ps) i 0)
        ∙ sym (get_or-take record_size (drop (q * record_size) (table_of counts 0 0 ps)) i 0 h)
        ∙ ap (λ (l : List ℕ). get_or l i 0) words

    word : (i : ℕ) → i < piece_size → entry table' q i ≡ get_or (five counts before copies p) i 0
    unfolding six
    word i h =
        row_word i (omega arith) ∙ get_or-append (five counts before copies p) (one (loop_of p.points) ∷ []) 0 i (omega (arith, five_length counts before copies p))

    loop-is : entry table' q 5 ≡ one (loop_of p.points)
    unfolding six
    loop-is =
        row_word 5 (omega arith)
        ∙ ap (λ (i : ℕ). get_or (six counts before copies p) i 0) (sym e)
        ∙ get_or-append-add (five counts before copies p) (one (loop_of p.points) ∷ []) 0 0
      where
        e : length (five counts before copies p) + 0 ≡ 5
        e = omega (arith, five_length counts before copies p)

    common : let r = five counts before copies p in (get_or r 0 0 ≡ before) × (get_or r 1 0 ≡ length p.lines) × (get_or r 4 0 ≡ length p.points)
    unfolding five
    common = go (copied p) refl
      where
        go : (u : Bool) → copied p ≡ u → let r = five counts before copies p in
            (get_or r 0 0 ≡ before) × (get_or r 1 0 ≡ length p.lines) × (get_or r 4 0 ≡ length p.points)
        go true e = rw (e, five) (refl, refl, refl)
        go false e = rw (e, five) (refl, refl, refl)

    first_is : entry table' q 0 ≡ before
    first_is = word 0 (omega arith) ∙ common.0

    count_is : entry table' q 1 ≡ length p.lines
    count_is = word 1 (omega arith) ∙ common.1

    members_are : take (entry table' q 1) (drop (entry table' q 0) members') ≡ p.lines
    members_are =
        ap₂ (λ (n o : ℕ). take n (drop o members')) count_is first_is
        ∙ ap (λ (l : List Piece). take (length p.lines) (drop before (flat_map (λ p. p.lines) l ++ m))) whole
        ∙ part_of_lem (λ (p : Piece). p.lines) pre p post m before (length p.lines) refl refl

    marks_are : take (entry table' q 1) (drop (entry table' q 0) marks') ≡ p.marks
    marks_are =
        ap₂ (λ (n o : ℕ). take n (drop o marks')) count_is first_is
        ∙ ap (λ (l : List Piece). take (length p.lines) (drop before (flat_map (λ p. p.marks) l ++ a))) whole
        ∙ part_of_lem (λ (p : Piece). p.marks) pre p post a before (length p.lines) (marks_all pre (drawn_before q ps sound)) here.drawn.marked

    listing_is : take (entry table' q 1) (drop (entry table' q 0) listing') ≡ p.listing
    listing_is =
        ap₂ (λ (n o : ℕ). take n (drop o listing')) count_is first_is
        ∙ ap (λ (l : List Piece). take (length p.lines) (drop before (flat_map (λ p. p.listing) l ++ d))) whole
        ∙ part_of_lem (λ (p : Piece). p.listing) pre p post d before (length p.lines) (listings_long pre (drawn_before q ps sound)) (listing_long p here.drawn)

    source_is : entry table' q 2 ≡ one (copied p)
    unfolding five
    source_is = word 2 (omega arith) ∙ go (copied p) refl
      where
        go : (u : Bool) → copied p ≡ u → get_or (five counts before copies p) 2 0 ≡ one u
        go true e = rw (e, five)
        go false e = rw (e, five)

    -- ---- the coordinates

    row : q * record_size + record_size ≤ length table'
    row = omega (arith, length-append (table_of counts 0 0 ps) t, rows_length (six counts) record_size (six_length counts) 0 0 ps)

    mine_copied : copied p ≡ true → copy p ≡ p.points
    unfolding copy
    mine_copied e = rw (e, copy)

    named_copied : copied p ≡ true → Named w input merged' table' q 1 copies (length p.points)
    unfolding five source_of
    named_copied e = record {
      source = source_is ∙ ap one e;
      first = word 3 (omega arith) ∙ rw (e, five);
      count = word 4 (omega arith) ∙ common.2;
      row = row;
      low = omega arith;
      inside = omega (arith, length-append (flat w (flat_map copy ps)) c, flat_length w (flat_map copy ps), mul-le-mul_right w inside);
    }
      where
        inside : copies + length p.points ≤ length (flat_map copy ps)
        inside = omega (arith, length_of_lem copy pre p post, ap (λ (l : List Piece). length (flat_map copy l)) whole, ap length (mine_copied e))

    view_copied : copied p ≡ true → part_of w input merged' table' q ≡ flat w p.points
    unfolding source_of
    view_copied e =
        view_is (named_copied e)
        ∙ ap (λ (l : List Piece). take (length p.points * w) (drop (copies * w) (flat w (flat_map copy l) ++ c))) whole
        ∙ ap (λ (l : List ℕ). take (length p.points * w) (drop (copies * w) (l ++ c))) (flat_copies w (pre ++ (p ∷ post)))
        ∙ part_of_lem (λ (p : Piece). flat w (copy p)) pre p post c (copies * w) (length p.points * w)
        (ap length (sym (flat_copies w pre)) ∙ flat_length w (flat_map copy pre))
        (flat_length w (copy p) ∙ ap (λ (l : List Point). length l * w) (mine_copied e))
        ∙ ap (flat w) (mine_copied e)

    lone : (l : List ℕ) → length l ≡ 1 → l ≡ get_or l 0 0 ∷ []
    lone [] h = absurd (omega arith)
    lone (x ∷ []) h = refl
    lone (x ∷ y ∷ l) h = absurd (omega arith)

    one_line : copied p ≡ false → length p.lines ≡ 1
    unfolding copied
    one_line e = go (eqb (length p.lines) 1) refl
      where
        go : (u : Bool) → eqb (length p.lines) 1 ≡ u → length p.lines ≡ 1
        go true h = eqb-true (length p.lines) 1 h
        go false h = absurd (clash (sym e ∙ rw (h, copied)))
          where
            clash : false ≡ true → ⊥
            clash k = let z : ◌≡◌ {A = ℕ} 0 1 = cc in omega arith

    abbrev own_first : ℕ
    own_first = total (take (get_or p.lines 0 0) counts)

    mine_own : copied p ≡ false → Stands w input own_first p.points
    mine_own e = let k = get_or p.lines 0 0 in rw (here.own k (lone p.lines (one_line e))) (own k)

    named_own : copied p ≡ false → Named w input merged' table' q 0 own_first (length p.points)
    unfolding five source_of
    named_own e = record {
      source = source_is ∙ ap one e;
      first = word 3 (omega arith) ∙ rw (e, five);
      count = word 4 (omega arith) ∙ common.2;
      row = row;
      low = omega arith;
      inside = (mine_own e).within;
    }

    view_own : copied p ≡ false → part_of w input merged' table' q ≡ flat w p.points
    unfolding source_of
    view_own e = view_is (named_own e) ∙ (mine_own e).same

    -- the record names a chain, and the part that it names is the chain's points
    pub chain_there : no_chain w input (flat w (flat_map copy ps) ++ c) (table_of counts 0 0 ps ++ t) q ≡ false
    chain_there = go (copied p) refl
      where
        go : (u : Bool) → copied p ≡ u → no_chain w input merged' table' q ≡ false
        go true e = chain_named (named_copied e)
        go false e = chain_named (named_own e)

    pub chain_part : part_of w input (flat w (flat_map copy ps) ++ c) (table_of counts 0 0 ps ++ t) q ≡ flat w (get_or ps q nothing).points
    chain_part = go (copied p) refl
      where
        go : (u : Bool) → copied p ≡ u → part_of w input merged' table' q ≡ flat w p.points
        go true e = view_copied e
        go false e = view_own e

    -- THE VIEW OF A RECORD IS ITS CHAIN'S POINTS
    pub view_read : viewed type input (flat w (flat_map copy ps) ++ c) (table_of counts 0 0 ps ++ t) q ≡ flat w (get_or ps q nothing).points
    view_read = viewed_part type input merged' table' q ∙ ap (λ (v : ℕ). part_of v input merged' table' q) (sym wide) ∙ chain_part

    -- THE LOOP MARK OF A RECORD IS THAT OF THE COORDINATES THAT IT NAMES
    pub mark_read : 2 ≤ w → entry (table_of counts 0 0 ps ++ t) q 5
        ≡ one (loop_of (points w (viewed type input (flat w (flat_map copy ps) ++ c) (table_of counts 0 0 ps ++ t) q)))
    mark_read two = loop-is ∙ ap one (sym (loop-flat w two p.points) ∙ ap (λ (l : List ℕ). loop_of (points w l)) (sym view_read))

    box_is : box_at boxes' q ≡ box_of p.points
    unfolding box_of grown
    box_is = first_boxes (map (λ r. box_of r.points) ps) x q (omega (arith, length-map ps (λ r. box_of r.points))) ∙ get_or-map (λ r. box_of r.points) ps q nothing

    chain_read : read_at type input (rooms table' members' marks' listing' merged' boxes' s z) q ≡ read_of w p
    unfolding read_at read_of
    chain_read = λ j. record {
      members = members_are j;
      marks = marks_are j;
      listing = listing_is j;
      source = source_is j;
      loop = loop-is j;
      coordinates = view_read j;
      box = box_is j;
    }

  -- WHAT IS READ IS THE CHAINS
  pub chains_read : read_all type input
      (rooms (table_of counts 0 0 ps ++ t) (flat_map (λ p. p.lines) ps ++ m) (flat_map (λ p. p.marks) ps ++ a) (flat_map (λ p. p.listing) ps ++ d)
      (flat w (flat_map copy ps) ++ c) (box_numbers (stacked (map (λ p. box_of p.points) ps)) ++ x) s z) (length ps)
      ≡ map (read_of w) ps
  unfolding read_all
  chains_read = by_index (read_at type input (rooms table' members' marks' listing' merged' boxes' s z)) (read_of w) nothing ps chain_read
