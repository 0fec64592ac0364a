-- A round keeps this of its pieces: a piece's points lay as its lines do, in the order of the listing and each as its mark says. A walk passes its
-- pieces one after another; one that is entered at end 1 is passed from its other end, so that its lines come in the other order and each is turned once
-- more, which is what `passed` and `turned` write. Repeats that the round before has dropped would be dropped here as well.
use Prim.Native.Nat.{ℕ, zero, suc, ◌+◌, ◌%◌, ◌≤◌, ◌<◌}
use mathlib.Core.Path.{◌≡◌, refl, sym, ap, ap₂, ◌∙◌}
use mathlib.Core.Bool.{Bool, true, false, cond}
use mathlib.Core.List.{List, [], ◌∷◌, ◌++◌, map, flat_map, reverse, reverse-reverse, append-nil}
use mathlib.Core.Option.{none}
use native.Mathlib.Omega.{arith}
use lib.Dec.{eqb}
use lib.ListN.{length, get_or, length-append}
use Rattle.rules.specs.Lists.{count}
use Rattle.rules.specs.Plane.{Point}
use Rattle.rules.specs.Walking.{piece_of, side_of, walks}
use Rattle.rules.specs.Chaining.{Piece, nothing, Rule, Line, lay, piece_at, run, partner, merged, passed, turned, merge, join}
use Rattle.chain_laws.proofs.Counts.{Each, nil, cons, each_append, each_get_d, count_append, one_same}
use Rattle.chain_laws.proofs.Lines.{flat_map_append, lines_of, join_count}
use Rattle.chain_laws.proofs.Walks.{Proper, lone_entry, walks_proper}
use Rattle.chain_laws.proofs.Partners.{partner_joins}
use Rattle.chain_laws.proofs.Drawn.{Drawn, count_reverse, passed_count, turned_long, listing_count, merge_drawn}
use Rattle.chain_laws.proofs.Sound.{Sound}
use Rattle.chain_extras.specs.Bare.{own_points}
use Rattle.chain_extras.proofs.Bare.{map_turned}
use Rattle.chain_extras.proofs.Riding.{each_reverse, each_lay}
use Rattle.chain_travel.specs.Travel.{drawn, mark_of, passing}
use Rattle.chain_travel.proofs.Laying.{laid, laid_again, laid_alike_lem, laid_reverse}
use Rattle.chain_travel.proofs.Values.{Number, value, same, one, self, lay_values}
use Rattle.chain_travel.proofs.Lists.{flat_map_same, flat_map_reverse, map_flat_map}
use Rattle.chain_travel.proofs.Marks.{mark_here_lem, mark_behind, mark_changed, mark_each}

-- points, laid by what they are
abbrev pub laid_values : List Point → List (ℕ × ℕ)
laid_values l = laid same none (map value l)

laid_turned : (l : List Point) → laid_values (reverse l) ≡ reverse (laid_values l)
laid_turned l = ap (laid same none) (map_turned value l []) ∙ laid_reverse same one self (map value l)

pub drawn_as_before : (m : ℕ) (l : List Point) → m ≤ 1 → drawn ((m + 0) % 2) l ≡ drawn m l
drawn_as_before m l h = ap (λ (i : ℕ). drawn i l) (omega arith)

pub drawn_turned : (m : ℕ) (l : List Point) → m ≤ 1 → drawn ((m + 1) % 2) l ≡ reverse (drawn m l)
unfolding drawn
drawn_turned zero l h = refl
drawn_turned (suc zero) l h = sym (reverse-reverse l)
drawn_turned (suc (suc m)) l h = absurd (omega arith)

module _ (ls : List Line) where
  -- the lines of a piece, as its points pass them
  abbrev pub way : Piece → List Point
  way p = passing ls p.lines p.marks p.listing

  -- what a round keeps of a piece
  pub record Passes (p : Piece) : Type 0 where
    pub drawn : Drawn p
    pub numbers : Each Number p.points
    pub lays : laid_values p.points ≡ laid_values (way p)
    pub settled : 2 ≤ length p.lines → laid_values p.points ≡ map value p.points
    pub lone : length p.lines ≡ 1 → p.marks ≡ 0 ∷ []

  passes_nothing : Passes nothing
  unfolding passing flat_map
  passes_nothing =
      record {
        drawn = record { marked = refl; low = nil; passes = λ y. refl };
        numbers = nil;
        lays = refl;
        settled = λ h. absurd (omega arith);
        lone = λ h. absurd (omega arith);
      }

  -- ---- a piece that is passed from one of its ends

  module _ (p : Piece) (keeps : Passes p) where
    -- a line of the listing has a mark, 0 or 1
    pub listed_in : (k : ℕ) → 0 < count k p.listing → 0 < count k p.lines
    listed_in k h = omega (arith, keeps.drawn.passes k)

    pub mark_low : (k : ℕ) → 0 < count k p.listing → mark_of p.lines p.marks k ≤ 1
    mark_low k h = mark_each k p.lines p.marks keeps.drawn.marked (λ m. m ≤ 1) keeps.drawn.low (listed_in k h)

    abbrev pub marks_from : ℕ → List ℕ
    marks_from side = map (λ mark. (mark + side) % 2) p.marks

    abbrev pub listing_from : ℕ → List ℕ
    listing_from side = cond (eqb side 0) p.listing (reverse p.listing)

    abbrev pub way_from : ℕ → List Point
    way_from side = cond (eqb side 0) (way p) (reverse (way p))

    pub drawn_from : (side k : ℕ) → 0 < count k p.listing → drawn (mark_of p.lines (marks_from side) k) (own_points ls k)
        ≡ drawn ((mark_of p.lines p.marks k + side) % 2) (own_points ls k)
    drawn_from side k h =
        ap (λ (m : ℕ). drawn m (own_points ls k)) (mark_changed k p.lines p.marks keeps.drawn.marked (λ mark. (mark + side) % 2) (listed_in k h))

    pub way_from_lem : (side : ℕ) → side < 2 → passing ls p.lines (marks_from side) (listing_from side) ≡ way_from side
    unfolding passing
    way_from_lem zero h =
        flat_map_same _ _ p.listing
        (λ k i. drawn_from 0 k i ∙ drawn_as_before (mark_of p.lines p.marks k) (own_points ls k) (mark_low k i))
    way_from_lem (suc zero) h =
        flat_map_same _ _ (reverse p.listing)
        (λ k i. let j : 0 < count k p.listing = omega (arith, count_reverse k p.listing) in
        drawn_from 1 k j ∙ drawn_turned (mark_of p.lines p.marks k) (own_points ls k) (mark_low k j))
        ∙ sym (flat_map_reverse (λ k. drawn (mark_of p.lines p.marks k) (own_points ls k)) p.listing)
    way_from_lem (suc (suc side)) h = absurd (omega arith)

    -- its points lay as its lines, from either end
    pub lays_from : (side : ℕ) → laid_values (cond (eqb side 0) p.points (reverse p.points)) ≡ laid_values (way_from side)
    lays_from side = go (eqb side 0)
      where
        go : (t : Bool) → laid_values (cond t p.points (reverse p.points)) ≡ laid_values (cond t (way p) (reverse (way p)))
        go true = keeps.lays
        go false = laid_turned p.points ∙ ap (λ (l : List (ℕ × ℕ)). reverse l) keeps.lays ∙ sym (laid_turned (way p))

  -- ---- a walk

  module _ (rule : Rule) (ps : List Piece) (keeps : Each Passes ps) (sound : Each (Sound ls) ps) where
    passes_at : (qs : List Piece) (i : ℕ) → Each Passes qs → Passes (get_or qs i nothing)
    passes_at qs i nil = passes_nothing
    passes_at qs zero (cons h a) = h
    passes_at qs (suc i) (cons {l = rs} h a) = passes_at rs i a

    pub at : (e : ℕ) → Passes (piece_at rule ps e)
    unfolding piece_at
    at e = passes_at ps (piece_of e) keeps

    abbrev pub lines_on : List ℕ → List ℕ
    lines_on w = flat_map (λ e. (piece_at rule ps e).lines) w

    abbrev pub way_on : ℕ → List Point
    way_on e = way_from (piece_at rule ps e) (at e) (side_of e)

    pub drawn_on : (w : List ℕ) → Each (λ e. Drawn (piece_at rule ps e)) w
    drawn_on [] = nil
    drawn_on (e ∷ w) = cons (at e).drawn (drawn_on w)

    pub turned_length : (e : ℕ) → length (turned rule ps e) ≡ length (piece_at rule ps e).lines
    turned_length e = turned_long rule ps e ∙ (at e).drawn.marked

    pub run_numbers : (e : ℕ) → Each Number (run rule ps e)
    unfolding run
    run_numbers e = go (eqb (side_of e) 0)
      where
        go : (t : Bool) → Each Number (cond t (piece_at rule ps e).points (reverse (piece_at rule ps e).points))
        go true = (at e).numbers
        go false = each_reverse Number (piece_at rule ps e).points (at e).numbers

    runs_numbers : (w : List ℕ) → Each Number (flat_map (run rule ps) w)
    unfolding flat_map
    runs_numbers [] = nil
    runs_numbers (e ∷ w) = each_append (run_numbers e) (runs_numbers w)

    -- the lines of a walk are those of its pieces, each passed from the end at which it is entered
    piece_way : (e : ℕ) → passing ls (piece_at rule ps e).lines (turned rule ps e) (passed rule ps e) ≡ way_on e
    unfolding turned passed
    piece_way e = way_from_lem (piece_at rule ps e) (at e) (side_of e) (omega arith)

    walk_way : (w : List ℕ) → ((y : ℕ) → count y (lines_on w) ≤ 1)
        → passing ls (lines_on w) (flat_map (turned rule ps) w) (flat_map (passed rule ps) w) ≡ flat_map way_on w
    unfolding flat_map passing
    walk_way [] h = refl
    walk_way (e ∷ w) h =
        let m = (piece_at rule ps e).lines in
        let t = turned rule ps e in
        let n = lines_on w in
        let u = flat_map (turned rule ps) w in
        flat_map_append (λ k. drawn (mark_of (m ++ n) (t ++ u) k) (own_points ls k)) (passed rule ps e) (flat_map (passed rule ps) w)
        ∙ ap₂ ◌++◌
        (flat_map_same _ _ (passed rule ps e)
        (λ k i. ap (λ (j : ℕ). drawn j (own_points ls k)) (mark_here_lem k m t (turned_length e) n u (omega (arith, passed_count rule ps k e, (at e).drawn.passes k))))
        ∙ piece_way e)
        (flat_map_same _ _ (flat_map (passed rule ps) w)
        (λ k i. ap (λ (j : ℕ). drawn j (own_points ls k))
        (mark_behind k m t (turned_length e) n u (omega (arith, h k, count_append k m n, listing_count rule ps k w (drawn_on w)))))
        ∙ walk_way w (λ y. omega (arith, h y, count_append y m n)))

    -- and its points lay as they do
    pub run_lays : (e : ℕ) → laid_values (run rule ps e) ≡ laid_values (way_on e)
    unfolding run
    run_lays e = lays_from (piece_at rule ps e) (at e) (side_of e)

    runs_lay : (w : List ℕ) → laid_values (flat_map (run rule ps) w) ≡ laid_values (flat_map way_on w)
    runs_lay w =
        ap (laid same none) (map_flat_map value (run rule ps) w)
        ∙ laid_alike_lem same one self (λ e. map value (run rule ps e)) (λ e. map value (way_on e)) run_lays none w
        ∙ ap (laid same none) (sym (map_flat_map value way_on w))

    -- ---- the piece that a walk makes

    -- two pieces have two lines
    piece_full : (e : ℕ) → piece_of e < length ps → 0 < length (piece_at rule ps e).lines
    unfolding piece_at
    piece_full e h = (each_get_d (Sound ls) ps (piece_of e) nothing sound h).full

    two_lines : (e f : ℕ) (w : List ℕ) → Proper (length ps) (partner rule ps) (e ∷ f ∷ w) → 2 ≤ length (lines_on (e ∷ f ∷ w))
    unfolding flat_map count
    two_lines e f w r =
        omega (
          arith,
          length-append (piece_at rule ps e).lines (lines_on (f ∷ w)),
          length-append (piece_at rule ps f).lines (lines_on w),
          piece_full e (r.inside (piece_of e) (omega (arith, one_same (piece_of e) (piece_of e) refl))),
          piece_full f (r.inside (piece_of f) (omega (arith, one_same (piece_of f) (piece_of f) refl))),
        )

    -- a walk of one piece enters it at end 0
    lone_side : (e : ℕ) → Proper (length ps) (partner rule ps) (e ∷ []) → side_of e ≡ 0
    lone_side e r = lone_entry (length ps) (partner rule ps) (partner_joins rule ps) e r

    lone_way : (e : ℕ) → Proper (length ps) (partner rule ps) (e ∷ []) → way_on e ++ [] ≡ way (piece_at rule ps e)
    lone_way e r = append-nil (way_on e) ∙ ap (λ (side : ℕ). way_from (piece_at rule ps e) (at e) side) (lone_side e r)

    laid_once : (w : List ℕ) → laid_values (lay none (flat_map (run rule ps) w)) ≡ laid_values (flat_map (run rule ps) w)
    laid_once w =
        ap (laid same none) (lay_values (flat_map (run rule ps) w) (runs_numbers w))
        ∙ laid_again same one self none (map value (flat_map (run rule ps) w))

    merged_numbers : (w : List ℕ) → Each Number (merged rule ps w)
    unfolding merged
    merged_numbers [] = nil
    merged_numbers (e ∷ []) = (at e).numbers
    merged_numbers (e ∷ f ∷ w) = each_lay Number none (flat_map (run rule ps) (e ∷ f ∷ w)) (runs_numbers (e ∷ f ∷ w))

    merged_lays : (w : List ℕ) → Proper (length ps) (partner rule ps) w → laid_values (merged rule ps w) ≡ laid_values (flat_map way_on w)
    unfolding merged flat_map
    merged_lays [] r = refl
    merged_lays (e ∷ []) r = (at e).lays ∙ ap laid_values (sym (lone_way e r))
    merged_lays (e ∷ f ∷ w) r = laid_once (e ∷ f ∷ w) ∙ runs_lay (e ∷ f ∷ w)

    merged_settled : (w : List ℕ) → 2 ≤ length (lines_on w) → laid_values (merged rule ps w) ≡ map value (merged rule ps w)
    unfolding merged flat_map
    merged_settled [] h = absurd (omega arith)
    merged_settled (e ∷ []) h = (at e).settled (omega (arith, ap length (append-nil (piece_at rule ps e).lines)))
    merged_settled (e ∷ f ∷ w) h = laid_once (e ∷ f ∷ w) ∙ sym (lay_values (flat_map (run rule ps) (e ∷ f ∷ w)) (runs_numbers (e ∷ f ∷ w)))

    lone_mark : (w : List ℕ) → Proper (length ps) (partner rule ps) w → length (lines_on w) ≡ 1 → flat_map (turned rule ps) w ≡ 0 ∷ []
    unfolding turned flat_map
    lone_mark [] r h = absurd (omega arith)
    lone_mark (e ∷ []) r h =
        append-nil (turned rule ps e)
        ∙ ap₂ (λ (side : ℕ) (l : List ℕ). map (λ mark. (mark + side) % 2) l) (lone_side e r)
        ((at e).lone (omega (arith, ap length (append-nil (piece_at rule ps e).lines))))
    lone_mark (e ∷ f ∷ w) r h = absurd (omega (arith, two_lines e f w r))

    merge_passes : (w : List ℕ) → Proper (length ps) (partner rule ps) w → ((y : ℕ) → count y (merge rule ps w).lines ≤ 1) → Passes (merge rule ps w)
    unfolding merge
    merge_passes w r h =
        record {
          drawn = merge_drawn rule ps w (drawn_on w);
          numbers = merged_numbers w;
          lays = merged_lays w r ∙ ap laid_values (sym (walk_way w h));
          settled = merged_settled w;
          lone = lone_mark w r;
        }

    -- ---- a round, where no line stands twice in its pieces

    all_pass : (ws : List (List ℕ)) → Each (Proper (length ps) (partner rule ps)) ws
        → ((y : ℕ) → count y (lines_of (map (merge rule ps) ws)) ≤ 1) → Each Passes (map (merge rule ps) ws)
    unfolding flat_map
    all_pass ws nil h = nil
    all_pass ws (cons {a = w} {l = v} r a) h =
        let m = (merge rule ps w).lines in
        let n = lines_of (map (merge rule ps) v) in
        cons (merge_passes w r (λ y. omega (arith, h y, count_append y m n))) (all_pass v a (λ y. omega (arith, h y, count_append y m n)))

    pub join_passes : ((y : ℕ) → count y (lines_of ps) ≤ 1) → Each Passes (join rule ps)
    unfolding join
    join_passes h =
        all_pass (walks (partner rule ps) (length ps)) (walks_proper (length ps) (partner rule ps) (partner_joins rule ps))
        (λ y. omega (arith, h y, join_count rule ps y))
