-- The loop of `emit_walks`: after j walks their pieces' records stand at the front, and their copies in `merged`. What is read stands beyond the front and
-- is as it was; and the copies fit, because merging drops points and adds none.
use Prim.Native.Nat.{ℕ, suc, ◌+◌, ◌-◌, ◌*◌, ◌≤◌, ◌<◌}
use mathlib.Core.Path.{◌≡◌, refl, sym, ap, ap₂, ◌∙◌, subst}
use mathlib.Core.List.{List, [], ◌∷◌, ◌++◌, map, flat_map, flatten, append_assoc, append-nil, map-append}
use native.Mathlib.Omega.{arith}
use native.Mathlib.Nat.{zero-mul, add-mul, mul-le-mul_right}
use native.Mathlib.Numerals.{add-one}
use lib.ListN.{length, get_or, take, drop, take-append-drop, length-append, length-map, get_or-map}
use lib.Seq.{slice, split_at, take-suc, take_all, take_at, drop_at}
use Rattle.rules.specs.Lists.{total}
use Rattle.rules.specs.Plane.{Point, flat}
use Rattle.rules.specs.Walking.{piece_of}
use Rattle.rules.specs.Chaining.{Piece, Rule, piece_at, merge}
use Rattle.rules.specs.Layout.{copy, five, rows, piece_table}
use Rattle.rules.specs.Refusals.{piece_size}
use Rattle.rules.specs.Calls.{written}
use Rattle.chain_laws.proofs.Totals.{total_append}
use Rattle.chain_laws.proofs.Lines.{flat_map_append, along}
use Rattle.chain_laws.proofs.Records.{rows_behind}
use Rattle.chain_laws.proofs.Room.{size, merges_size, copies_size}
use Rattle.point_numbers.proofs.Points.{flat_append, flat_length}
use Rattle.point_slices.specs.Holds.{HoldsFrom}
use Rattle.point_slices.proofs.Laws.{rest_drop, rest_get_d, from_start, from_length, from_then, slice_more, slice_part, drop_past}
use Rattle.chain_pieces.specs.Held.{lines_of, Held}
use Rattle.chain_pieces.proofs.Reading.{get_d_part, part_part, held_beyond}
use Rattle.chain_merging.specs.Emit.{points_in, Entered, Counted, Emittable, Emitted, Walks, Tabled}
use Rattle.chain_pieces.specs.Map.{member_block}

-- ---- lists of walks

pub flatten_append : (a b : List (List ℕ)) → flatten (a ++ b) ≡ flatten a ++ flatten b
unfolding flatten
flatten_append [] b = refl
flatten_append (l ∷ a) b = ap (λ (t : List ℕ). l ++ t) (flatten_append a b) ∙ sym (append_assoc l (flatten a) (flatten b))

module _ (rule : Rule) (ps : List Piece) where
  points_append : (a b : List ℕ) → points_in rule ps (a ++ b) ≡ points_in rule ps a + points_in rule ps b
  points_append a b =
      ap total (map-append (λ e. length (piece_at rule ps e).points) a b)
      ∙ total_append (map (λ e. length (piece_at rule ps e).points) a) (map (λ e. length (piece_at rule ps e).points) b)

  pub points_all : (ws : List (List ℕ)) → total (map (along rule ps size) ws) ≡ points_in rule ps (flatten ws)
  unfolding flatten total along
  points_all [] = refl
  points_all (es ∷ ws) = omega (arith, points_all ws, points_append es (flatten ws))

  -- the copies of the pieces of some walks are no more than the points of the pieces that went in
  copies_few : (ws : List (List ℕ)) → length (flat_map copy (map (merge rule ps) ws)) ≤ points_in rule ps (flatten ws)
  copies_few ws = omega (arith, copies_size (map (merge rule ps) ws), merges_size rule ps ws, points_all ws)

-- one record more
table_more : (counts : List ℕ) (ps : List Piece) (p : Piece)
    → piece_table counts 0 0 (ps ++ (p ∷ [])) ≡ piece_table counts 0 0 ps ++ five counts (length (lines_of ps)) (length (flat_map copy ps)) p
unfolding rows
table_more counts ps p =
    rows_behind (five counts) ps (p ∷ [])
    ∙ ap (λ (l : List ℕ). piece_table counts 0 0 ps ++ l) (append-nil (five counts (length (lines_of ps)) (length (flat_map copy ps)) p))

module _ (width : ℕ) (w₀ : List ℕ) (n old m entries lengths r : ℕ) (input spare g₀ : List ℕ) (y : Walks width w₀ n old m entries lengths r input spare g₀) where
  abbrev merging : List ℕ → Piece
  merging = merge y.rule y.ps

  abbrev made : ℕ → List Piece
  made j = map merging (take j y.ws)

  pub record Emitting (w merged : List ℕ) (from members points j : ℕ) : Type 0 where
    pub high : j ≤ r
    pub size_same : length w ≡ length w₀
    pub rest : drop (n * member_block) w ≡ drop (n * member_block) w₀
    pub records : slice 0 (j * piece_size) w ≡ piece_table y.counts 0 0 (map (merge y.rule y.ps) (take j y.ws))
    pub from_is : from ≡ entries + length (flatten (take j y.ws))
    pub members_is : members ≡ length (lines_of (map (merge y.rule y.ps) (take j y.ws)))
    pub points_is : points ≡ length (flat_map copy (map (merge y.rule y.ps) (take j y.ws)))
    pub copied : HoldsFrom merged g₀ 0 (points * width) (flat width (flat_map copy (map (merge y.rule y.ps) (take j y.ws))))
    pub merged_size : length merged ≡ length g₀

  pub emitting_start : Emitting w₀ g₀ entries 0 0 0
  unfolding flatten flat_map rows flat
  emitting_start =
      record {
        high = omega arith;
        size_same = refl;
        rest = refl;
        records = refl;
        from_is = omega arith;
        members_is = refl;
        points_is = refl;
        copied = subst (λ (i : ℕ). HoldsFrom g₀ g₀ 0 i []) (sym (zero-mul width)) (from_start g₀ 0);
        merged_size = refl;
      }

  pub emitting_done : (w merged : List ℕ) (from members points j : ℕ) → Emitting w merged from members points j → r ≤ j
      → Tabled width w w₀ n merged g₀ y.counts (map (merge y.rule y.ps) y.ws)
  unfolding written
  emitting_done w merged from members points j o h =
      let all : take j y.ws ≡ y.ws = take_all j y.ws (omega (arith, y.number)) in
      let qs : List Piece = map merging y.ws in
      let k : j ≡ length qs = omega (arith, o.high, y.number, length-map y.ws merging) in
      let number : points ≡ length (flat_map copy qs) = o.points_is ∙ ap (λ (l : List (List ℕ)). length (flat_map copy (map merging l))) all in
      let c : 0 + points * width ≡ length (flat width (flat_map copy qs)) = omega (arith, ap (λ (i : ℕ). i * width) number, flat_length width (flat_map copy qs)) in
      record {
        size = o.size_same;
        records = ap (λ (i : ℕ). slice 0 (i * piece_size) w) (sym k) ∙ o.records ∙ ap (λ (l : List (List ℕ)). piece_table y.counts 0 0 (map merging l)) all;
        rest = o.rest;
        merged_is =
            o.copied.list
            ∙ ap₂ (λ (l : List (List ℕ)) (i : ℕ). flat width (flat_map copy (map merging l)) ++ drop i g₀) all c;
      }

  -- ---- a turn

  module _ (w merged : List ℕ) (from members points j : ℕ) (o : Emitting w merged from members points j) (h : j < r) where
    abbrev es : List ℕ
    es = get_or y.ws j []

    abbrev before : List (List ℕ)
    before = take j y.ws

    abbrev behind : List (List ℕ)
    behind = drop (suc j) y.ws

    whole : y.ws ≡ before ++ (es ∷ behind)
    whole = split_at y.ws j [] (omega (arith, y.number))

    flat_whole : flatten y.ws ≡ flatten before ++ (es ++ flatten behind)
    unfolding flatten
    flat_whole = ap flatten whole ∙ flatten_append before (es ∷ behind)

    taken : take (j + 1) y.ws ≡ before ++ (es ∷ [])
    taken = rw add-one (take-suc y.ws j [] (omega (arith, y.number)))

    pub held : Held width w old n input spare y.counts y.ps
    held = held_beyond width w w₀ old n (n * member_block) input spare y.counts y.ps o.rest o.size_same (omega (arith, y.front)) y.held

    -- the walk's length and its entries
    pub long : get_or w (lengths + j) 0 ≡ length es
    long =
        rest_get_d w w₀ (n * member_block) o.rest (lengths + j) (omega (arith, y.lengths_in))
        ∙ sym (get_d_part lengths r w₀ j h)
        ∙ ap (λ (l : List ℕ). get_or l j 0) y.measured
        ∙ get_or-map length y.ws j []

    sizes : length (flatten before) + (length es + length (flatten behind)) ≡ m
    sizes =
        omega (
          arith,
          y.all,
          ap length flat_whole,
          length-append (flatten before) (es ++ flatten behind),
          length-append es (flatten behind),
        )

    pub entries_are : slice from (from + get_or w (lengths + j) 0) w ≡ es
    entries_are =
        slice_part from (get_or w (lengths + j) 0) w
        ∙ ap₂ (λ (i k : ℕ). take k (drop i w)) o.from_is long
        ∙ ap (take (length es)) (rest_drop w w₀ (n * member_block) o.rest (entries + length (flatten before)) (omega (arith, y.entries_in)))
        ∙ sym (part_part entries m w₀ (length (flatten before)) (length es) (omega (arith, sizes)))
        ∙ ap (λ (l : List ℕ). take (length es) (drop (length (flatten before)) l)) (y.entered ∙ flat_whole)
        ∙ ap (take (length es)) (drop_at (flatten before) (es ++ flatten behind) (length (flatten before)) refl)
        ∙ take_at es (flatten behind) (length es) refl

    pub turn_length : lengths + j < length w
    turn_length = omega (arith, y.lengths_in, o.size_same)

    pub turn_entries : from + get_or w (lengths + j) 0 ≤ length w
    turn_entries = omega (arith, long, o.from_is, sizes, y.entries_in, o.size_same)

    pub below : (k : ℕ) → from ≤ k → k < from + get_or w (lengths + j) 0 → piece_of (get_or w k 0) < length y.ps
    below k a b =
        let i : entries + (k - entries) ≡ k = omega (arith, o.from_is) in
        let s : k - entries < m = omega (arith, o.from_is, long, sizes) in
        rw (
        rest_get_d w w₀ (n * member_block) o.rest k (omega (arith, y.entries_in, o.from_is))
        ∙ ap (λ (x : ℕ). get_or w₀ x 0) (sym i) ∙ sym (get_d_part entries m w₀ (k - entries) s) ∙ ap (λ (l : List ℕ). get_or l (k - entries) 0) y.entered
        ) (y.below (k - entries) s)

    pub lines_whole : length (lines_of (map merging y.ws)) ≡ length (lines_of (made j)) + (length (merging es).lines + length (lines_of (map merging behind)))
    unfolding flat_map
    lines_whole =
        ap (λ (l : List (List ℕ)). length (lines_of (map merging l))) whole
        ∙ ap (λ (l : List Piece). length (lines_of l)) (map-append merging before (es ∷ behind))
        ∙ ap length (flat_map_append (λ (p : Piece). p.lines) (made j) (map merging (es ∷ behind)))
        ∙ length-append (lines_of (made j)) ((merging es).lines ++ lines_of (map merging behind))
        ∙ ap (λ (k : ℕ). length (lines_of (made j)) + k) (length-append (merging es).lines (lines_of (map merging behind)))

    abbrev pub entered : Entered width w old from (from + get_or w (lengths + j) 0) input spare
    entered =
        record {
          n = n;
          rule = y.rule;
          counts = y.counts;
          ps = y.ps;
          held = held;
          two = y.two;
          some = omega (arith, long, y.filled j h);
          inside = turn_entries;
          below = below;
          listed = rw entries_are (omega (arith, lines_whole, y.listed));
        }

    abbrev pub counted : Counted w old from (from + get_or w (lengths + j) 0)
    counted = record { width = width; input = input; spare = spare; entered = entered }

    points_few : points + points_in y.rule y.ps es ≤ points_in y.rule y.ps (flatten y.ws)
    points_few =
        omega (
          arith,
          o.points_is,
          copies_few y.rule y.ps before,
          ap (points_in y.rule y.ps) flat_whole,
          points_append y.rule y.ps (flatten before) (es ++ flatten behind),
          points_append y.rule y.ps es (flatten behind),
        )

    pub points_fit : points * width + points_in y.rule y.ps es * width ≤ length merged
    points_fit = omega (arith, mul-le-mul_right width points_few, add-mul points (points_in y.rule y.ps es) width, y.fits, o.merged_size)

    abbrev pub emittable : (b : ℕ) → b ≡ length (merge y.rule y.ps (slice from (from + get_or w (lengths + j) 0) w)).lines
        → Emittable width w old from (from + get_or w (lengths + j) 0) input spare merged (j * piece_size) b points
    emittable b e =
        record {
          laying = record { entered = entered; fits = rw entries_are points_fit };
          front = omega (arith, y.few, y.front);
          members = e;
        }

    pub members_fit : (b : ℕ) → b ≡ length (merge y.rule y.ps (slice from (from + get_or w (lengths + j) 0) w)).lines → members + b ≤ n
    members_fit b e = omega (arith, o.members_is, e, ap (λ (l : List ℕ). length (merging l).lines) entries_are, lines_whole, y.listed)

    module _ (b : ℕ) (e : b ≡ length (merge y.rule y.ps (slice from (from + get_or w (lengths + j) 0) w)).lines)
        (w' merged' : List ℕ) (c : ℕ)
        (s : Emitted width w' w merged' merged y.counts (merge y.rule y.ps (slice from (from + get_or w (lengths + j) 0) w)) (j * piece_size) members points c)
      where
        abbrev p : Piece
        p = merging es

        t : Emitted width w' w merged' merged y.counts p (j * piece_size) members points c
        t = rw entries_are at s

        made_next : made (j + 1) ≡ made j ++ (p ∷ [])
        made_next = ap (map merging) taken ∙ map-append merging before (es ∷ [])

        in_front : j * piece_size + 5 ≤ length w
        in_front = omega (arith, y.few, y.front, y.held.room, o.size_same)

        copies_next : flat_map copy (made (j + 1)) ≡ flat_map copy (made j) ++ copy p
        unfolding flat_map
        copies_next =
            ap (flat_map copy) made_next ∙ flat_map_append copy (made j) (p ∷ []) ∙ ap (λ (l : List Point). flat_map copy (made j) ++ l) (append-nil (copy p))

        lines_next : lines_of (made (j + 1)) ≡ lines_of (made j) ++ p.lines
        unfolding flat_map
        lines_next =
            ap lines_of made_next ∙ flat_map_append (λ (q : Piece). q.lines) (made j) (p ∷ []) ∙ ap (λ (l : List ℕ). lines_of (made j) ++ l) (append-nil p.lines)

        copies_all : points + length (copy p) ≤ points_in y.rule y.ps (flatten y.ws)
        copies_all =
            omega (
              arith,
              o.points_is,
              ap length copies_next,
              length-append (flat_map copy (made j)) (copy p),
              copies_few y.rule y.ps (take (j + 1) y.ws),
              ap (λ (l : List (List ℕ)). points_in y.rule y.ps (flatten l)) (sym (take-append-drop (j + 1) y.ws)),
              ap (points_in y.rule y.ps) (flatten_append (take (j + 1) y.ws) (drop (j + 1) y.ws)),
              points_append y.rule y.ps (flatten (take (j + 1) y.ws)) (flatten (drop (j + 1) y.ws)),
            )

        copies_in : points * width + length (copy p) * width ≤ length g₀
        copies_in = omega (arith, mul-le-mul_right width copies_all, add-mul points (length (copy p)) width, y.fits)

        written_next : HoldsFrom merged' g₀ 0 (points * width + length (copy p) * width) (flat width (flat_map copy (made j)) ++ flat width (copy p))
        written_next =
            let e₀ : points * width ≡ 0 + points * width = omega arith in
            from_then o.copied (omega (arith, copies_in)) (subst (λ (i : ℕ). HoldsFrom merged' merged i (length (copy p) * width) (flat width (copy p))) e₀ t.copied)

        pub emitting_step : Emitting w' merged' (from + get_or w (lengths + j) 0) (members + b) c (j + 1)
        unfolding flatten
        emitting_step =
            let f : points * width + length (copy p) * width ≡ c * width = omega (arith, ap (λ (i : ℕ). i * width) t.count, add-mul points (length (copy p)) width) in
            let g : j * piece_size + 5 ≡ (j + 1) * piece_size = omega arith in
            record {
              high = omega arith;
              size_same = from_length t.row in_front ∙ o.size_same;
              rest = drop_past t.row in_front (n * member_block) (omega (arith, y.few)) ∙ o.rest;
              records =
                  ap (λ (i : ℕ). slice 0 i w') (sym g)
                  ∙ slice_more t.row in_front 0 (omega arith)
                  ∙ ap₂ (λ (a : List ℕ) (i : ℕ). a ++ five y.counts i points p) o.records o.members_is
                  ∙ ap (λ (i : ℕ). piece_table y.counts 0 0 (made j) ++ five y.counts (length (lines_of (made j))) i p) o.points_is
                  ∙ sym (table_more y.counts (made j) p)
                  ∙ ap (piece_table y.counts 0 0) (sym made_next);
              from_is =
                  omega (
                    arith,
                    o.from_is,
                    long,
                    ap (λ (l : List (List ℕ)). length (flatten l)) taken,
                    ap length (flatten_append before (es ∷ [])),
                    length-append (flatten before) (es ++ []),
                    length-append es [],
                  );
              members_is =
                  omega (
                    arith,
                    o.members_is,
                    e,
                    ap (λ (l : List ℕ). length (merging l).lines) entries_are,
                    ap length lines_next,
                    length-append (lines_of (made j)) p.lines,
                  );
              points_is = omega (arith, o.points_is, t.count, ap length copies_next, length-append (flat_map copy (made j)) (copy p));
              copied =
                  subst (λ (l : List ℕ). HoldsFrom merged' g₀ 0 (c * width) l)
                  (sym (flat_append width (flat_map copy (made j)) (copy p)) ∙ ap (flat width) (sym copies_next))
                  (subst (λ (i : ℕ). HoldsFrom merged' g₀ 0 i (flat width (flat_map copy (made j)) ++ flat width (copy p))) f written_next);
              merged_size = from_length written_next (omega (arith, copies_in));
            }
