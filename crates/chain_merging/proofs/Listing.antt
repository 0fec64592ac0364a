-- The members, marks and listing of all walks, one piece after another: what stands at the front after k entries are those of their pieces. The pieces
-- that went in stand beyond, and are read as they were; and the three blocks lie one behind another, so that writing in one leaves the others.
use Prim.Native.Nat.{ℕ, ◌+◌, ◌*◌, ◌%◌, ◌≤◌, ◌<◌}
use mathlib.Core.Path.{◌≡◌, refl, sym, ap, ◌∙◌, subst}
use mathlib.Core.List.{List, [], ◌∷◌, ◌++◌, flat_map, append-nil}
use native.Mathlib.Omega.{arith}
use native.Mathlib.Numerals.{add-one}
use lib.ListN.{length, take-append-drop, get_or, take, drop, length-append}
use lib.Seq.{slice, slice_empty, take-suc, take_all}
use Rattle.rules.specs.Walking.{piece_of}
use Rattle.rules.specs.Chaining.{Piece, piece_at, passed, turned, merge}
use Rattle.rules.specs.Refusals.{piece_size}
use Rattle.chain_laws.proofs.Counts.{each_of}
use Rattle.chain_laws.proofs.Drawn.{Low, Drawn, listing_long, merge_drawn}
use Rattle.chain_laws.proofs.Lines.{flat_map_append}
use Rattle.point_slices.specs.Holds.{HoldsFrom}
use Rattle.point_slices.proofs.Laws.{rest_get_d, from_length, slice_below, slice_beyond, slice_more, part_length, take_before, drop_past}
use Rattle.chain_pieces.specs.Held.{record_of, Held}
use Rattle.chain_pieces.proofs.Reading.{get_d_part, member_count_lem, members_are, marks_are, listing_is, members_inside, record_inside, held_beyond}
use Rattle.chain_merging.specs.Emit.{turned_by, passed_by, Listable, Members, PiecesListable, Listed}
use Rattle.chain_pieces.specs.Map.{join_block, listing_block, mark_block, member_block}

-- a block at a with r numbers in it, and c more
block_more : {w' w new : List ℕ} {c : ℕ} {out : List ℕ} (r a : ℕ) → HoldsFrom w' w (r + a) c new → r + a + c ≤ length w → slice a (r + a) w ≡ out
    → slice a (r + c + a) w' ≡ out ++ new
block_more {w'} {w} {new} {c} r a h k e =
    let s : r + c + a ≡ r + a + c = omega arith in
    ap (λ (i : ℕ). slice a i w') s ∙ slice_more h k a (omega arith) ∙ ap (λ (l : List ℕ). l ++ new) e

module _ (w₀ : List ℕ) (n old entries m : ℕ) (y : PiecesListable w₀ n old entries m) where
  abbrev es : List ℕ
  es = slice entries (entries + m) w₀

  abbrev lines_on : List ℕ → List ℕ
  lines_on l = flat_map (λ e. (piece_at y.rule y.ps e).lines) l

  abbrev marks_on : List ℕ → List ℕ
  marks_on l = flat_map (turned y.rule y.ps) l

  abbrev listing_on : List ℕ → List ℕ
  listing_on l = flat_map (passed y.rule y.ps) l

  -- the first k entries are done: r numbers stand in each block at the front
  pub record Listing (w : List ℕ) (r k : ℕ) : Type 0 where
    pub high : k ≤ m
    pub size : length w ≡ length w₀
    pub front : take (n * member_block) w ≡ take (n * member_block) w₀
    pub rest : drop (n * join_block) w ≡ drop (n * join_block) w₀
    pub count : r ≡ length (flat_map (λ e. (piece_at y.rule y.ps e).lines) (take k (slice entries (entries + m) w₀)))
    pub members : slice (n * member_block) (r + n * member_block) w ≡ flat_map (λ e. (piece_at y.rule y.ps e).lines) (take k (slice entries (entries + m) w₀))
    pub marks : slice (n * mark_block) (r + n * mark_block) w ≡ flat_map (turned y.rule y.ps) (take k (slice entries (entries + m) w₀))
    pub listing : slice (n * listing_block) (r + n * listing_block) w ≡ flat_map (passed y.rule y.ps) (take k (slice entries (entries + m) w₀))

  nothing_yet : (a : ℕ) → slice a (0 + a) w₀ ≡ []
  nothing_yet a = let e : 0 + a ≡ a = omega arith in ap (λ (i : ℕ). slice a i w₀) e ∙ slice_empty a w₀

  pub listing_start : Listing w₀ 0 0
  unfolding flat_map
  listing_start =
      record {
        high = omega arith;
        size = refl;
        front = refl;
        rest = refl;
        count = refl;
        members = nothing_yet (n * member_block);
        marks = nothing_yet (n * mark_block);
        listing = nothing_yet (n * listing_block);
      }

  es_size : length es ≡ m
  es_size = part_length entries m w₀ y.inside

  drawn_at : (e : ℕ) → piece_of e < length y.ps → Drawn (piece_at y.rule y.ps e)
  unfolding piece_at
  drawn_at e b = y.held.drawn (piece_of e) b

  all_drawn : Drawn (merge y.rule y.ps es)
  all_drawn =
      merge_drawn y.rule y.ps es
      (each_of (λ e. Drawn (piece_at y.rule y.ps e)) es 0
      (λ k h.
      let b : k < m = omega (arith, es_size) in
      drawn_at (get_or es k 0) (rw (get_d_part entries m w₀ k b) (y.below k b))))

  pub listing_done : (w : List ℕ) (r k : ℕ) → Listing w r k → m ≤ k → Listed w w₀ n (merge y.rule y.ps (slice entries (entries + m) w₀))
  unfolding merge
  listing_done w r k o h =
      let all : take k es ≡ es = take_all k es (omega (arith, es_size)) in
      let c : r ≡ length (lines_on es) = o.count ∙ ap (λ (l : List ℕ). length (lines_on l)) all in
      let a : n * member_block + length (lines_on es) ≡ r + n * member_block = omega arith in
      let b : n * mark_block + length (marks_on es) ≡ r + n * mark_block = omega (arith, all_drawn.marked) in
      let d : n * listing_block + length (listing_on es) ≡ r + n * listing_block = omega (arith, listing_long (merge y.rule y.ps es) all_drawn) in
      record {
        size = o.size;
        front = o.front;
        members = ap (λ (i : ℕ). slice (n * member_block) i w) a ∙ o.members ∙ ap lines_on all;
        marks = ap (λ (i : ℕ). slice (n * mark_block) i w) b ∙ o.marks ∙ ap marks_on all;
        listing = ap (λ (i : ℕ). slice (n * listing_block) i w) d ∙ o.listing ∙ ap listing_on all;
        rest = o.rest;
      }

  module _ (w : List ℕ) (r k : ℕ) (o : Listing w r k) (h : k < m) where
    abbrev e : ℕ
    e = get_or w (entries + k) 0

    abbrev p : Piece
    p = piece_at y.rule y.ps e

    entry_is : e ≡ get_or es k 0
    entry_is = rest_get_d w w₀ (n * join_block) o.rest (entries + k) (omega (arith, y.beyond)) ∙ sym (get_d_part entries m w₀ k h)

    held : Held y.width w old n y.input y.copies y.counts y.ps
    held = held_beyond y.width w w₀ old n (n * join_block) y.input y.copies y.counts y.ps o.rest o.size y.front y.held

    abbrev q : ℕ
    q = piece_of e

    below : q < length y.ps
    below = rw (rest_get_d w w₀ (n * join_block) o.rest (entries + k) (omega (arith, y.beyond))) (y.below k h)

    abbrev at : ℕ
    at = record_of old q

    abbrev count_here : ℕ
    count_here = get_or w (at + 1) 0

    abbrev from : ℕ
    from = old + get_or w at 0

    pub listing_record : record_of old (piece_of (get_or w (entries + k) 0)) + piece_size ≤ length w
    listing_record = omega (arith, record_inside y.width w old n y.input y.copies y.counts y.ps held q below, held.room)

    part_inside : old + n * member_block + get_or w at 0 + count_here ≤ old + n * mark_block
    part_inside = members_inside y.width w old n y.input y.copies y.counts y.ps held q below

    lines_here : slice (from + n * member_block) (from + n * member_block + count_here) w ≡ p.lines
    unfolding piece_at
    lines_here =
        let s : from + n * member_block ≡ old + n * member_block + get_or w at 0 = omega arith in
        ap (λ (i : ℕ). slice i (i + count_here) w) s ∙ members_are y.width w old n y.input y.copies y.counts y.ps held q below

    marks_here : slice (from + n * mark_block) (from + n * mark_block + count_here) w ≡ p.marks
    unfolding piece_at
    marks_here =
        let s : from + n * mark_block ≡ old + n * mark_block + get_or w at 0 = omega arith in
        ap (λ (i : ℕ). slice i (i + count_here) w) s ∙ marks_are y.width w old n y.input y.copies y.counts y.ps held q below

    listing_here : slice (from + n * listing_block) (from + n * listing_block + count_here) w ≡ p.listing
    unfolding piece_at
    listing_here =
        let s : from + n * listing_block ≡ old + n * listing_block + get_or w at 0 = omega arith in
        ap (λ (i : ℕ). slice i (i + count_here) w) s ∙ listing_is y.width w old n y.input y.copies y.counts y.ps held q below

    count_is : count_here ≡ length p.lines
    unfolding piece_at
    count_is = member_count_lem y.width w old n y.input y.copies y.counts y.ps held q below

    taken : take (k + 1) es ≡ take k es ++ (e ∷ [])
    taken = rw add-one (take-suc es k 0 (omega (arith, es_size)) ∙ ap (λ (i : ℕ). take k es ++ (i ∷ [])) (sym entry_is))

    -- what one entry more adds, of any kind
    next : (f : ℕ → List ℕ) → flat_map f (take (k + 1) es) ≡ flat_map f (take k es) ++ f e
    unfolding flat_map
    next f =
        ap (λ (l : List ℕ). flat_map f l) taken ∙ flat_map_append f (take k es) (e ∷ []) ∙ ap (λ (l : List ℕ). flat_map f (take k es) ++ l) (append-nil (f e))

    lines_next : lines_on (take (k + 1) es) ≡ lines_on (take k es) ++ p.lines
    lines_next = next (λ e. (piece_at y.rule y.ps e).lines)

    -- no more members than all entries have
    prefix : length (lines_on (take (k + 1) es)) ≤ length (lines_on es)
    prefix =
        omega (
          arith,
          ap (λ (l : List ℕ). length (lines_on l)) (sym (take-append-drop (k + 1) es)),
          ap length (flat_map_append (λ e. (piece_at y.rule y.ps e).lines) (take (k + 1) es) (drop (k + 1) es)),
          length-append (lines_on (take (k + 1) es)) (lines_on (drop (k + 1) es)),
        )

    pub listing_fits : r + get_or w (record_of old (piece_of (get_or w (entries + k) 0)) + 1) 0 ≤ n
    unfolding merge
    listing_fits =
        omega (
          arith,
          prefix,
          ap length lines_next,
          length-append (lines_on (take k es)) p.lines,
          o.count,
          count_is,
          y.fits,
        )

    pub listing_listable : Listable w n (old + get_or w (record_of old (piece_of (get_or w (entries + k) 0))) 0) r
        (get_or w (record_of old (piece_of (get_or w (entries + k) 0)) + 1) 0) (get_or w (entries + k) 0 % 2)
    listing_listable =
        record {
          fits = listing_fits;
          beyond = omega (arith, y.front);
          inside = omega (arith, part_inside, held.room);
          one = omega arith;
          low = subst (Low 1) (sym marks_here) (drawn_at e below).low;
        }

    module _ (w₃ : List ℕ) (g : Members w₃ w n (old + get_or w (record_of old (piece_of (get_or w (entries + k) 0))) 0) r
        (get_or w (record_of old (piece_of (get_or w (entries + k) 0)) + 1) 0) (get_or w (entries + k) 0 % 2))
      where
        abbrev w₁ : List ℕ
        w₁ = g.copied

        abbrev w₂ : List ℕ
        w₂ = g.marked

        in_one : r + n * member_block + count_here ≤ length w
        in_one = omega (arith, listing_fits, held.room, y.front)

        size_one : length w₁ ≡ length w
        size_one = from_length g.members in_one

        in_two : r + n * mark_block + count_here ≤ length w₁
        in_two = omega (arith, size_one, listing_fits, held.room, y.front)

        size_two : length w₂ ≡ length w
        size_two = from_length g.marks in_two ∙ size_one

        in_three : r + n * listing_block + count_here ≤ length w₂
        in_three = omega (arith, size_two, listing_fits, held.room, y.front)

        marks_more : turned_by (e % 2) (slice (from + n * mark_block) (from + n * mark_block + count_here) w) ≡ turned y.rule y.ps e
        unfolding turned
        marks_more = ap (turned_by (e % 2)) marks_here

        listing_more : passed_by (e % 2) (slice (from + n * listing_block) (from + n * listing_block + count_here) w) ≡ passed y.rule y.ps e
        unfolding passed
        listing_more = ap (passed_by (e % 2)) listing_here

        -- what stands before the numbers that are added, in the marks and in the listing
        marks_before : slice (n * mark_block) (r + n * mark_block) w₁ ≡ marks_on (take k es)
        marks_before =
            let s : r + n * mark_block ≡ n * mark_block + r = omega arith in
            ap (λ (i : ℕ). slice (n * mark_block) i w₁) s ∙ slice_beyond g.members in_one (n * mark_block) r (omega (arith, listing_fits))
            ∙ ap (λ (i : ℕ). slice (n * mark_block) i w) (sym s) ∙ o.marks

        listing_before : slice (n * listing_block) (r + n * listing_block) w₂ ≡ listing_on (take k es)
        listing_before =
            let s : r + n * listing_block ≡ n * listing_block + r = omega arith in
            ap (λ (i : ℕ). slice (n * listing_block) i w₂) s
            ∙ slice_beyond g.marks in_two (n * listing_block) r (omega (arith, listing_fits))
            ∙ slice_beyond g.members in_one (n * listing_block) r (omega (arith, listing_fits))
            ∙ ap (λ (i : ℕ). slice (n * listing_block) i w) (sym s) ∙ o.listing

        pub listing_step : Listing w₃ (r + get_or w (record_of old (piece_of (get_or w (entries + k) 0)) + 1) 0) (k + 1)
        listing_step =
            record {
              high = omega arith;
              size = from_length g.listing in_three ∙ size_two ∙ o.size;
              front =
                  take_before g.listing in_three (n * member_block) (omega arith)
                  ∙ take_before g.marks in_two (n * member_block) (omega arith) ∙ take_before g.members in_one (n * member_block) (omega arith) ∙ o.front;
              rest =
                  drop_past g.listing in_three (n * join_block) (omega (arith, listing_fits))
                  ∙ drop_past g.marks in_two (n * join_block) (omega (arith, listing_fits))
                  ∙ drop_past g.members in_one (n * join_block) (omega (arith, listing_fits)) ∙ o.rest;
              count = omega (arith, o.count, count_is, ap length lines_next, length-append (lines_on (take k es)) p.lines);
              members =
                  slice_below g.listing in_three (n * member_block) (r + count_here + n * member_block) (omega (arith, listing_fits))
                  ∙ slice_below g.marks in_two (n * member_block) (r + count_here + n * member_block) (omega (arith, listing_fits))
                  ∙ block_more r (n * member_block) g.members in_one o.members ∙ ap (λ (l : List ℕ). lines_on (take k es) ++ l) lines_here ∙ sym lines_next;
              marks =
                  slice_below g.listing in_three (n * mark_block) (r + count_here + n * mark_block) (omega (arith, listing_fits))
                  ∙ block_more r (n * mark_block) g.marks in_two marks_before ∙ ap (λ (l : List ℕ). marks_on (take k es) ++ l) marks_more ∙ sym (next (turned y.rule y.ps));
              listing =
                  block_more r (n * listing_block) g.listing in_three listing_before ∙ ap (λ (l : List ℕ). listing_on (take k es) ++ l) listing_more ∙ sym (next (passed y.rule y.ps));
            }
