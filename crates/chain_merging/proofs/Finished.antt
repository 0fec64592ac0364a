-- The pieces that come out: what `emit_walks` and `list_pieces` leave together is the block of the pieces that the walks make. A piece of one line is a
-- piece that went in, and has its line's own points.
use Prim.Native.Nat.{ℕ, ◌+◌, ◌*◌, ◌≤◌, ◌<◌}
use mathlib.Core.Path.{◌≡◌, refl, sym, ap, ap₂, ◌∙◌, subst}
use mathlib.Core.List.{List, [], ◌∷◌, ◌++◌, map, flat_map, flatten, append-nil}
use native.Mathlib.Omega.{arith}
use lib.ListN.{length, get_or, take, drop, length-append, length-map}
use lib.Seq.{slice, take-take, take_at}
use Rattle.rules.specs.Plane.{flat}
use Rattle.rules.specs.Walking.{piece_of}
use Rattle.rules.specs.Chaining.{Piece, Rule, nothing, piece_at, merged, passed, turned, merge}
use Rattle.rules.specs.Layout.{copy, piece_table}
use Rattle.rules.specs.Refusals.{piece_size}
use Rattle.rules.specs.Calls.{written}
use Rattle.chain_laws.proofs.Counts.{Each, nil, cons, each_map, each_weak, each_get_d, each_of}
use Rattle.chain_laws.proofs.Drawn.{Drawn, merge_drawn}
use Rattle.chain_laws.proofs.Lines.{flat_map_append}
use Rattle.chain_laws.proofs.Wide.{wide_merge}
use Rattle.point_numbers.specs.Width.{AllWide}
use Rattle.point_numbers.proofs.Points.{flat_length}
use Rattle.point_slices.proofs.Laws.{rest_drop, rest_slice}
use Rattle.chain_pieces.specs.Held.{lines_of, marks_of, listing_of, Own, Held}
use Rattle.chain_pieces.proofs.Reading.{get_d_part, held_beyond}
use Rattle.chain_merging.specs.Emit.{PiecesListable, Listed, Walks, Tabled, Done}
use Rattle.chain_pieces.specs.Map.{join_block, listing_block, mark_block, member_block}

-- ---- a walk over pieces that are held

module _ {A : Type 0} (P : A → Type 0) where
  each_left : (a b : List A) → Each P (a ++ b) → Each P a × Each P b
  each_left [] b e = (nil, e)
  each_left (x ∷ a) b (cons h e) = let r = each_left a b e in (cons h r.0, r.1)

  each_flatten : (ws : List (List A)) → Each P (flatten ws) → Each (Each P) ws
  unfolding flatten
  each_flatten [] e = nil
  each_flatten (w ∷ ws) e = let r = each_left w (flatten ws) e in cons r.0 (each_flatten ws r.1)

  each_both : {Q : A → Type 0} (l : List A) → Each P l → Each Q l → Each (λ a. P a × Q a) l
  each_both l nil nil = nil
  each_both l (cons h a) (cons k b) = cons (h, k) (each_both _ a b)

module _ (rule : Rule) (ps : List Piece) where
  -- what the pieces of all walks have of a kind, entry by entry
  field_flat : (f : ℕ → List ℕ) (g : Piece → List ℕ) → ((es : List ℕ) → g (merge rule ps es) ≡ flat_map f es)
      → (ws : List (List ℕ)) → flat_map f (flatten ws) ≡ flat_map g (map (merge rule ps) ws)
  unfolding flatten flat_map
  field_flat f g h [] = refl
  field_flat f g h (es ∷ ws) = flat_map_append f es (flatten ws) ∙ ap₂ (λ (a b : List ℕ). a ++ b) (sym (h es)) (field_flat f g h ws)

  pub lines_flat : (ws : List (List ℕ)) → (merge rule ps (flatten ws)).lines ≡ lines_of (map (merge rule ps) ws)
  unfolding merge
  lines_flat ws = field_flat (λ e. (piece_at rule ps e).lines) (λ p. p.lines) (λ es. refl) ws

  pub marks_flat : (ws : List (List ℕ)) → (merge rule ps (flatten ws)).marks ≡ marks_of (map (merge rule ps) ws)
  unfolding merge
  marks_flat ws = field_flat (turned rule ps) (λ p. p.marks) (λ es. refl) ws

  pub listing_flat : (ws : List (List ℕ)) → (merge rule ps (flatten ws)).listing ≡ listing_of (map (merge rule ps) ws)
  unfolding merge
  listing_flat ws = field_flat (passed rule ps) (λ p. p.listing) (λ es. refl) ws

  module _ (width : ℕ) (input counts : List ℕ)
      (full : (q : ℕ) → q < length ps → 0 < length (get_or ps q nothing).lines)
      (own : (q : ℕ) → q < length ps → length (get_or ps q nothing).lines ≡ 1 → Own width input counts (get_or ps q nothing))
      (wide : (q : ℕ) → q < length ps → AllWide width (get_or ps q nothing).points)
      (drawn : (q : ℕ) → q < length ps → Drawn (get_or ps q nothing))
    where
      full_at : (e : ℕ) → piece_of e < length ps → 0 < length (piece_at rule ps e).lines
      unfolding piece_at
      full_at e b = full (piece_of e) b

      own_at : (e : ℕ) → piece_of e < length ps → length (piece_at rule ps e).lines ≡ 1 → Own width input counts (piece_at rule ps e)
      unfolding piece_at
      own_at e b = own (piece_of e) b

      wide_at : (e : ℕ) → piece_of e < length ps → AllWide width (piece_at rule ps e).points
      unfolding piece_at
      wide_at e b = wide (piece_of e) b

      -- the piece of a walk has a line
      merge_full : (es : List ℕ) → 0 < length es → Each (λ e. piece_of e < length ps) es → 0 < length (merge rule ps es).lines
      unfolding merge flat_map
      merge_full [] h a = absurd (omega arith)
      merge_full (e ∷ es) h (cons b a) =
          omega (arith, length-append (piece_at rule ps e).lines (flat_map (λ e. (piece_at rule ps e).lines) es), full_at e b)

      drawn_at : (e : ℕ) → piece_of e < length ps → Drawn (piece_at rule ps e)
      unfolding piece_at
      drawn_at e b = drawn (piece_of e) b

      -- its lines are marked and listed
      merged_drawn : (es : List ℕ) → Each (λ e. piece_of e < length ps) es → Drawn (merge rule ps es)
      merged_drawn es a = merge_drawn rule ps es (each_weak (λ e. piece_of e < length ps) (λ e. Drawn (piece_at rule ps e)) es drawn_at a)

      -- its points have the width
      merge_wide : (es : List ℕ) → Each (λ e. piece_of e < length ps) es → AllWide width (merge rule ps es).points
      merge_wide es a = wide_merge width rule ps es (λ k h. wide_at (get_or es k 0) (each_get_d (λ e. piece_of e < length ps) es k 0 a h))

      -- and where it has one alone, that line's own points
      merge_own : (es : List ℕ) → 0 < length es → Each (λ e. piece_of e < length ps) es → length (merge rule ps es).lines ≡ 1 → Own width input counts (merge rule ps es)
      unfolding merge merged flat_map
      merge_own [] h a k = absurd (omega arith)
      merge_own (e ∷ []) h (cons b a) k =
          let same : (piece_at rule ps e).lines ++ [] ≡ (piece_at rule ps e).lines = append-nil (piece_at rule ps e).lines in
          let o = own_at e b (sym (ap length same) ∙ k) in
          record {
            within = rw same o.within;
            same = rw same o.same;
          }
      merge_own (e ∷ f ∷ es) h (cons b (cons d a)) k =
          absurd (omega (
            arith,
            length-append (piece_at rule ps e).lines ((piece_at rule ps f).lines ++ flat_map (λ e. (piece_at rule ps e).lines) es),
            length-append (piece_at rule ps f).lines (flat_map (λ e. (piece_at rule ps e).lines) es),
            full_at e b,
            full_at f d,
          ))

module _ (width : ℕ) (w₀ : List ℕ) (n old m entries lengths r : ℕ) (input spare g₀ : List ℕ) (y : Walks width w₀ n old m entries lengths r input spare g₀) where
  abbrev qs : List Piece
  qs = map (merge y.rule y.ps) y.ws

  -- ---- between the two calls

  module _ (w₁ g₁ : List ℕ) (t : Tabled width w₁ w₀ n g₁ g₀ y.counts (map (merge y.rule y.ps) y.ws)) where
    pub entries_same : slice entries (entries + m) w₁ ≡ flatten y.ws
    entries_same = rest_slice w₁ w₀ (n * member_block) t.rest entries m (omega (arith, y.entries_in)) ∙ y.entered

    pub held_same : Held width w₁ old n input spare y.counts y.ps
    held_same = held_beyond width w₁ w₀ old n (n * member_block) input spare y.counts y.ps t.rest t.size (omega (arith, y.front)) y.held

    pub below_same : (k : ℕ) → k < m → piece_of (get_or w₁ (entries + k) 0) < length y.ps
    below_same k h =
        rw (sym (get_d_part entries m w₁ k h) ∙ ap (λ (l : List ℕ). get_or l k 0) entries_same) (y.below k h)

    pub lines_fit : length (merge y.rule y.ps (slice entries (entries + m) w₁)).lines ≤ n
    lines_fit = rw (entries_same, lines_flat y.rule y.ps y.ws) y.listed

    abbrev pub listable : PiecesListable w₁ n old entries m
    listable =
        record {
          width = width;
          rule = y.rule;
          counts = y.counts;
          ps = y.ps;
          input = input;
          copies = spare;
          held = held_same;
          front = y.front;
          beyond = y.entries_in.0;
          inside = omega (arith, y.entries_in, t.size);
          below = below_same;
          fits = lines_fit;
        }

    -- ---- after both

    walks_good : Each (λ es. (0 < length es) × Each (λ e. piece_of e < length y.ps) es) y.ws
    walks_good =
        each_both (λ es. 0 < length es) y.ws
        (each_of (λ es. 0 < length es) y.ws [] (λ j k. y.filled j (omega (arith, y.number))))
        (each_flatten (λ e. piece_of e < length y.ps) y.ws
        (each_of (λ e. piece_of e < length y.ps) (flatten y.ws) 0 (λ k h. y.below k (omega (arith, y.all)))))

    pieces_full : Each (λ p. 0 < length p.lines) qs
    pieces_full =
        each_map (merge y.rule y.ps) (λ p. 0 < length p.lines) y.ws
        (each_weak _ _ y.ws (λ es g. merge_full y.rule y.ps width input y.counts y.held.full y.held.own y.held.wide y.held.drawn es g.0 g.1) walks_good)

    pieces_drawn : Each Drawn qs
    pieces_drawn =
        each_map (merge y.rule y.ps) Drawn y.ws
        (each_weak _ _ y.ws
        (λ es g. merged_drawn y.rule y.ps width input y.counts y.held.full y.held.own y.held.wide y.held.drawn es g.1) walks_good)

    pieces_own : Each (λ p. length p.lines ≡ 1 → Own width input y.counts p) qs
    pieces_own =
        each_map (merge y.rule y.ps) (λ p. length p.lines ≡ 1 → Own width input y.counts p) y.ws
        (each_weak _ _ y.ws (λ es g. merge_own y.rule y.ps width input y.counts y.held.full y.held.own y.held.wide y.held.drawn es g.0 g.1) walks_good)

    pieces_wide : Each (λ p. AllWide width p.points) qs
    pieces_wide =
        each_map (merge y.rule y.ps) (λ p. AllWide width p.points) y.ws
        (each_weak _ _ y.ws (λ es g. merge_wide y.rule y.ps width input y.counts y.held.full y.held.own y.held.wide y.held.drawn es g.1) walks_good)

    qs_size : length qs ≡ r
    qs_size = length-map y.ws (merge y.rule y.ps) ∙ y.number

    module _ (w₂ : List ℕ)
        (s : Listed w₂ w₁ n (merge y.rule y.ps (slice entries (entries + m) w₁)))
      where
        abbrev p : Piece
        p = merge y.rule y.ps (slice entries (entries + m) w₁)

        lines_are : p.lines ≡ lines_of qs
        lines_are = ap (λ (l : List ℕ). (merge y.rule y.ps l).lines) entries_same ∙ lines_flat y.rule y.ps y.ws

        marks_are : p.marks ≡ marks_of qs
        marks_are = ap (λ (l : List ℕ). (merge y.rule y.ps l).marks) entries_same ∙ marks_flat y.rule y.ps y.ws

        listing_are : p.listing ≡ listing_of qs
        listing_are = ap (λ (l : List ℕ). (merge y.rule y.ps l).listing) entries_same ∙ listing_flat y.rule y.ps y.ws

        size : length w₂ ≡ length w₀
        size = s.size ∙ t.size

        records_are : slice 0 (0 + length qs * piece_size) w₂ ≡ piece_table y.counts 0 0 qs
        records_are =
            let e : 0 + length qs * piece_size ≡ length qs * piece_size = omega arith in
            let b : length qs * piece_size ≤ n * member_block = omega (arith, qs_size, y.few) in
            ap (λ (k : ℕ). slice 0 k w₂) e
            ∙ sym (take-take (length qs * piece_size) (n * member_block) w₂ b) ∙ ap (take (length qs * piece_size)) s.front ∙ take-take (length qs * piece_size) (n * member_block) w₁ b
            ∙ t.records

        -- what stands in a block from the start of w on
        block_is : (block : ℕ) (l l' : List ℕ) → l ≡ l' → slice (n * block) (n * block + length l) w₂ ≡ l → slice (0 + n * block) (0 + n * block + length l') w₂ ≡ l'
        block_is block l l' e h =
            let z : 0 + n * block ≡ n * block = omega arith in
            rw z (subst (λ (l : List ℕ). slice (n * block) (n * block + length l) w₂ ≡ l) e h)

        copies_are : take (length (flat_map copy qs) * width) g₁ ≡ flat width (flat_map copy qs)
        unfolding written
        copies_are =
            ap (take (length (flat_map copy qs) * width)) t.merged_is
            ∙ take_at (flat width (flat_map copy qs)) (drop (length (flat width (flat_map copy qs))) g₀) (length (flat_map copy qs) * width) (flat_length width (flat_map copy qs))

        pub finished : Done width w₂ w₀ n input g₁ g₀ y.counts (map (merge y.rule y.ps) y.ws)
        finished =
            record {
              size = size;
              held =
                  record {
                    few = omega (arith, qs_size, y.few);
                    listed = y.listed;
                    room = omega (arith, y.front, y.held.room, size);
                    records = records_are;
                    members = block_is member_block p.lines (lines_of qs) lines_are s.members;
                    marks = block_is mark_block p.marks (marks_of qs) marks_are s.marks;
                    listing = block_is listing_block p.listing (listing_of qs) listing_are s.listing;
                    drawn = λ q b. each_get_d Drawn qs q nothing pieces_drawn b;
                    full = λ q b. each_get_d (λ p. 0 < length p.lines) qs q nothing pieces_full b;
                    own = λ q b. each_get_d (λ p. length p.lines ≡ 1 → Own width input y.counts p) qs q nothing pieces_own b;
                    wide = λ q b. each_get_d (λ p. AllWide width p.points) qs q nothing pieces_wide b;
                    copied = copies_are;
                  };
              rest = s.rest ∙ rest_drop w₁ w₀ (n * member_block) t.rest (n * join_block) (omega arith);
              merged_is = t.merged_is;
            }
