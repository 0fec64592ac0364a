-- Pieces that a call leaves pass every clause of 19, and stand for themselves: each record names its piece, and such pieces as a round leaves are sound.
use Prim.Native.Nat.{ℕ, zero, suc, ◌+◌, ◌*◌, ◌≤◌, ◌<◌}
use mathlib.Core.Path.{◌≡◌, refl, sym, ap, ap₂, ◌∙◌, subst}
use mathlib.Core.Bool.{false}
use mathlib.Core.List.{[], List, ◌∷◌, ◌++◌, map, flat_map, map-append}
use native.Mathlib.Omega.{arith}
use native.Mathlib.Nat.{add-zero}
use lib.ListN.{length, get_or, take, drop}
use lib.Seq.{take-suc, take-length}
use borrow.Author.Tests.{le-ltb}
use Rattle.rules.specs.Lists.{count, upto, total}
use Rattle.rules.specs.Plane.{Point, flat, points}
use Rattle.rules.specs.Chaining.{Piece, nothing, alone}
use Rattle.rules.specs.Layout.{Lines, lines, lines_in}
use Rattle.rules.specs.Refusals.{any_above, any_nowhere}
use Rattle.rules.specs.Pieces.{LentPieces, plain_lines, point_count, members_at, listing_at, numbers_at, leader, standing, stood_for}
use Rattle.chain_laws.proofs.Counts.{Each, nil, cons, each_get_d, each_weak, count_append, count_at, pigeon}
use Rattle.chain_laws.proofs.Drawn.{Drawn}
use Rattle.chain_laws.proofs.Lines.{flat_map_append, made_all}
use Rattle.chain_laws.proofs.Room.{size}
use Rattle.chain_laws.proofs.Sound.{Sound, no_line}
use Rattle.chain_laws.proofs.Totals.{total_append}
use Rattle.point_numbers.specs.Width.{AllWide}
use Rattle.point_numbers.proofs.Points.{points_flat}
use Rattle.chain_pieces.specs.Held.{place_of, Own}
use Rattle.chain_pieces.specs.Compact.{Compact}
use Rattle.chain_pieces.proofs.Compact.{records_inside, count_is, points_is, members_are, marks_are, listing_are, members_inside, marks_inside, listing_inside, source_own, place_own, source_copied, numbers_at_lem, points_inside}
use Rattle.build_lines.specs.Taken.{Adds}
use Rattle.build_lines.proofs.Passing.{points_at}
use Rattle.build_lines.proofs.Own.{alone_own}
use Rattle.lent_laws.specs.Passes.{FrameFine, PieceFine, Passes}
use Rattle.lent_laws.specs.Good.{Good}
use Rattle.lent_laws.proofs.Tests.{flat_suc, flat_none, sum_suc, sum_none}
use Rattle.lent_laws.proofs.Plain.{plain_low, plain_once, group_at}

-- ---- lists

none_above : (l : List ℕ) → Each (λ m. m ≤ 1) l → any_above 1 l ≡ false
unfolding any_above
none_above l nil = refl
none_above l (cons {a = a} {l = r} p e) = rw (le-ltb 1 a p, any_above) (none_above r e)

single : (l : List ℕ) → length l ≡ 1 → l ≡ get_or l 0 0 ∷ []
single [] h = absurd (omega arith)
single (a ∷ []) h = refl
single (a ∷ b ∷ l) h = absurd (omega arith)

part_of_lem : {A : Type 0} (f : A → List ℕ) (d : A) (xs : List A) (q y : ℕ) → q < length xs → count y (f (get_or xs q d)) ≤ count y (flat_map f xs)
unfolding flat_map count
part_of_lem f d [] q y b = absurd (omega arith)
part_of_lem f d (a ∷ xs) zero y b = omega (arith, count_append y (f a) (flat_map f xs))
part_of_lem f d (a ∷ xs) (suc q) y b = omega (arith, count_append y (f a) (flat_map f xs), part_of_lem f d xs q y (omega arith))

module _ {A : Type 0} (xs : List A) (d : A) where
  -- as often in what each number up to q names as in the first q
  by_piece : (f : ℕ → List ℕ) (h : A → List ℕ) (y : ℕ) → ((q : ℕ) → q < length xs → count y (f q) ≡ count y (h (get_or xs q d))) → (q : ℕ) → q ≤ length xs
      → count y (flat_map f (upto q)) ≡ count y (flat_map h (take q xs))
  unfolding flat_map count
  by_piece f h y e zero b = flat_none f y
  by_piece f h y e (suc q) b =
      flat_suc f q y
      ∙ ap₂ ◌+◌ (by_piece f h y e q (omega arith)) (e q (omega arith))
      ∙ sym (
      ap (λ (t : List A). count y (flat_map h t)) (take-suc xs q d (omega arith))
      ∙ ap (count y) (flat_map_append h (take q xs) (get_or xs q d ∷ []))
      ∙ count_append y (flat_map h (take q xs)) (h (get_or xs q d) ++ [])
      ∙ ap (λ (k : ℕ). count y (flat_map h (take q xs)) + k) (count_append y (h (get_or xs q d)) [] ∙ add-zero (count y (h (get_or xs q d))))
      )

  sum_piece : (f : ℕ → ℕ) (h : A → ℕ) → ((q : ℕ) → q < length xs → f q ≡ h (get_or xs q d)) → (q : ℕ) → q ≤ length xs
      → total (map f (upto q)) ≡ total (map h (take q xs))
  unfolding total
  sum_piece f h e zero b = sum_none f
  sum_piece f h e (suc q) b =
      sum_suc f q
      ∙ ap₂ ◌+◌ (sum_piece f h e q (omega arith)) (e q (omega arith))
      ∙ sym (
      ap (λ (t : List A). total (map h t)) (take-suc xs q d (omega arith))
      ∙ ap total (map-append h (take q xs) (get_or xs q d ∷ []))
      ∙ total_append (map h (take q xs)) (h (get_or xs q d) ∷ [])
      ∙ ap (λ (k : ℕ). total (map h (take q xs)) + k) (add-zero (h (get_or xs q d)))
      )

abbrev piece_with : List ℕ → List ℕ → List ℕ → List Point → ℕ → Piece
piece_with a b c d e = record { lines = a; marks = b; listing = c; points = d; group = e }

-- ---- good pieces

module _ (w : ℕ) (l : Lines) (adds : Adds w l.counts l.coordinates) (ps : List Piece) (h : Good w l ps) (q : ℕ) (b : q < length ps) where
  abbrev piece : Piece
  piece = get_or ps q nothing

  sound_at : Sound (lines_in w l) piece
  sound_at = each_get_d (Sound (lines_in w l)) ps q nothing h.sound b

  low_at_lem : (y : ℕ) → 0 < count y piece.lines → y < length l.counts
  low_at_lem y k = plain_low w l y (omega (arith, h.once y, part_of_lem (λ (r : Piece). r.lines) nothing ps q y b))

  abbrev head : ℕ
  head = get_or piece.lines 0 0

  head_low : head < length l.counts
  head_low = low_at_lem head (count_at piece.lines 0 sound_at.full)

  -- one line's points are its own
  module _ (d : length piece.lines ≡ 1) where
    own_points_lem : piece.points ≡ (get_or (lines_in w l) head no_line).points
    own_points_lem = sound_at.own head (single piece.lines d)

    count_own : length piece.points ≡ get_or l.counts head 0
    count_own = ap length own_points_lem ∙ points_at w l.coordinates l.counts l.groups l.kinds adds head head_low

    pub good_own : Own w l.coordinates l.counts (get_or ps q nothing)
    unfolding alone
    good_own =
        let a = alone_own w l.coordinates l.counts l.groups l.kinds adds head head_low in
        record {
          within = rw (ap length own_points_lem) a.within;
          same =
              ap (λ (t : List Point). take (length t * w) (drop (place_of l.counts piece * w) l.coordinates)) own_points_lem
              ∙ a.same
              ∙ ap (flat w) (sym own_points_lem);
        }

-- they have the plain lines, each once, and so no more than there are
module _ (w : ℕ) (l : Lines) (ps : List Piece) (h : Good w l ps) where
  pub good_low : (y : ℕ) → 0 < count y (flat_map (λ p. p.lines) ps) → y < length l.counts
  good_low y k = plain_low w l y (omega (arith, h.once y))

  pub good_lines : length (flat_map (λ p. p.lines) ps) ≤ length l.counts
  good_lines = pigeon (length l.counts) (flat_map (λ p. p.lines) ps) (λ y. omega (arith, h.once y, plain_once w l y)) good_low

-- ---- what is left passes

module _ (w : ℕ) (l : Lines) (adds : Adds w l.counts l.coordinates) (p : LentPieces) (ps : List Piece) (v : Compact w l.counts ps p) (h : Good w l ps) where
  abbrev drawn : Each Drawn ps
  drawn = each_weak (Sound (lines_in w l)) Drawn ps (λ p s. s.drawn) h.sound

  module _ (q : ℕ) (b : q < length ps) where
    abbrev at : Piece
    at = get_or ps q nothing

    sound : Sound (lines_in w l) at
    sound = sound_at w l adds ps h q b

    low : (y : ℕ) → 0 < count y at.lines → y < length l.counts
    low = low_at_lem w l adds ps h q b

    abbrev first : ℕ
    first = get_or at.lines 0 0

    own : length at.lines ≡ 1 → Own w l.coordinates l.counts at
    own d = good_own w l adds ps h q b d

    numbers_are : numbers_at w l p q ≡ flat w at.points
    numbers_are = numbers_at_lem w l p ps v drawn q b own

    points_are : points w (numbers_at w l p q) ≡ at.points
    points_are =
        ap (points w) numbers_are ∙ points_flat w at.points (omega (arith, adds.two)) (each_get_d (λ (r : Piece). AllWide w r.points) ps q nothing h.wide b)

    group_is_lem : (y : ℕ) → 0 < count y at.lines → get_or l.groups y 0 ≡ at.group
    group_is_lem y k = sym (group_at w l y (low y k)) ∙ sound.grouped y k

    leader_is : leader w l p q ≡ first
    leader_is = ap (λ (t : List ℕ). get_or t 0 0) (members_are w l p ps v drawn q b)

    leader_group : get_or l.groups (leader w l p q) 0 ≡ at.group
    leader_group = ap (λ (i : ℕ). get_or l.groups i 0) leader_is ∙ group_is_lem first (count_at at.lines 0 sound.full)

    frame : FrameFine w l p q
    frame =
        record {
          some_line = omega (arith, count_is w l p ps v drawn q b, sound.full);
          some_point = omega (arith, points_is w l p ps v drawn q b, each_get_d (λ (r : Piece). 0 < length r.points) ps q nothing h.pointed b);
          members_in = members_inside w l p ps v drawn q b;
          marks_in = marks_inside w l p ps v drawn q b;
          listing_in = listing_inside w l p ps v drawn q b;
          points_in = points_inside w l p ps v drawn q b own;
        }

    piece_passes : PieceFine w l p q
    piece_passes =
        record {
          frame = frame;
          names = λ y.
              ap (count y) (members_are w l p ps v drawn q b)
              ∙ sym (sound.drawn.passes y)
              ∙ ap (count y) (sym (listing_are w l p ps v drawn q b));
          groups = λ y k.
              group_is_lem y (subst (λ (t : List ℕ). 0 < count y t) (members_are w l p ps v drawn q b) k)
              ∙ sym leader_group;
          own = λ e.
              let d : length at.lines ≡ 1 = sym (count_is w l p ps v drawn q b) ∙ e in
              record {
                input = source_own w l p ps v drawn q b d;
                first = place_own w l p ps v drawn q b d ∙ ap (λ (i : ℕ). total (take i l.counts)) (sym leader_is);
                count = points_is w l p ps v drawn q b ∙ count_own w l adds ps h q b d ∙ ap (λ (i : ℕ). get_or l.counts i 0) (sym leader_is);
              };
          merged = λ n. source_copied w l p ps v drawn q b (λ d. n (count_is w l p ps v drawn q b ∙ d));
          marks = ap (any_above 1) (marks_are w l p ps v drawn q b) ∙ none_above at.marks sound.drawn.low;
          places = ap any_nowhere points_are ∙ each_get_d (λ (r : Piece). any_nowhere r.points ≡ false) ps q nothing h.placed b;
        }

    -- piece q stands for itself
    stands_for : standing w l p q ≡ at
    unfolding standing
    stands_for =
        ap₂ (λ (a b : List ℕ). piece_with a b (listing_at w l p q) (points w (numbers_at w l p q)) (get_or l.groups (leader w l p q) 0))
        (members_are w l p ps v drawn q b) (marks_are w l p ps v drawn q b)
        ∙ ap₂ (λ (c : List ℕ) (d : List Point). piece_with at.lines at.marks c d (get_or l.groups (leader w l p q) 0)) (listing_are w l p ps v drawn q b) points_are
        ∙ ap (λ (e : ℕ). piece_with at.lines at.marks at.listing at.points e) leader_group

  counted : (f : ℕ → List ℕ) → ((q : ℕ) → q < length ps → (y : ℕ) → count y (f q) ≡ count y (get_or ps q nothing).lines)
      → (y : ℕ) → count y (flat_map f (upto p.number)) ≡ count y (plain_lines w l)
  counted f e y =
      ap (λ (k : ℕ). count y (flat_map f (upto k))) v.number
      ∙ by_piece ps nothing f (λ p. p.lines) y (λ q b. e q b y) (length ps) (omega arith)
      ∙ ap (λ (t : List Piece). count y (flat_map (λ p. p.lines) t)) (take-length ps)
      ∙ h.once y

  points_counted : total (map (point_count w l p) (upto p.number)) ≡ total (map size ps)
  points_counted =
      ap (λ (k : ℕ). total (map (point_count w l p) (upto k))) v.number
      ∙ sum_piece ps nothing (point_count w l p) size (λ q b. points_is w l p ps v drawn q b) (length ps) (omega arith)
      ∙ ap (λ (t : List Piece). total (map size t)) (take-length ps)

  -- EVERY CLAUSE IS PASSED
  pub left_passes : Passes w l p
  left_passes =
      record {
        inside = records_inside w l p ps v;
        fine = λ q b. piece_passes q (omega (arith, v.number));
        members = counted (members_at w l p) (λ q b y. ap (count y) (members_are w l p ps v drawn q b));
        listing = counted (listing_at w l p) (λ q b y. ap (count y) (listing_are w l p ps v drawn q b) ∙ (sound q b).drawn.passes y);
        few = omega (arith, points_counted, h.few);
      }

  -- AND WHAT IS LENT STANDS FOR THE PIECES
  pub left_stands : stood_for w l p ≡ ps
  unfolding stood_for
  left_stands =
      ap (λ (k : ℕ). map (standing w l p) (upto k)) v.number
      ∙ made_all (standing w l p) ps nothing stands_for
