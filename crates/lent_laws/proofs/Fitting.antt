-- What passes 19 stands for good pieces: each has lines of one group, a mark for each, the same lines in its listing, coordinates that are places, and a
-- line's own where it has one line. This is what a round asks of its pieces, whoever made them.
use Prim.Native.Nat.{ℕ, zero, suc, ◌+◌, ◌*◌, ◌≤◌, ◌<◌}
use mathlib.Core.Path.{◌≡◌, refl, sym, ap, ap₂, ◌∙◌}
use mathlib.Core.Bool.{Bool, true, false, true≢false}
use mathlib.Core.List.{[], List, ◌∷◌, ◌++◌, map, flat_map}
use native.Mathlib.Omega.{arith}
use native.Mathlib.Nat.{add-mul}
use lib.Dec.{ltb}
use lib.ListN.{length, get_or, take, drop, length-append, length-drop}
use lib.Seq.{length-take-le}
use borrow.Author.Tests.{ltb-false}
use Rattle.rules.specs.Lists.{count, from, upto, total}
use Rattle.rules.specs.Plane.{points}
use Rattle.rules.specs.Chaining.{Piece, alone}
use Rattle.rules.specs.Layout.{Lines, lines_in}
use Rattle.rules.specs.Refusals.{any_above, any_nowhere, source_of}
use Rattle.rules.specs.Pieces.{LentPieces, first_member, member_count, first_point, point_count, part_of, members_at, marks_at, named, numbers_at, leader, standing, stood_for}
use Rattle.chain_laws.proofs.Counts.{Each, nil, cons, count_at, pigeon}
use Rattle.chain_laws.proofs.Drawn.{Drawn}
use Rattle.chain_laws.proofs.Room.{size}
use Rattle.chain_laws.proofs.Sound.{Sound, no_line}
use Rattle.point_numbers.specs.Width.{AllWide}
use Rattle.point_numbers.proofs.Points.{points_exact, reads_length, points_wide, points_flat}
use Rattle.build_lines.specs.Taken.{Adds}
use Rattle.build_lines.proofs.Passing.{points_at}
use Rattle.build_lines.proofs.Own.{alone_own, alone_wide}
use Rattle.lent_laws.specs.Passes.{PieceFine, Passes}
use Rattle.lent_laws.specs.Good.{Good}
use Rattle.lent_laws.proofs.Tests.{flat_within}
use Rattle.lent_laws.proofs.Plain.{plain_low, plain_once, group_at}

-- ---- lists

pub part_length : (i k : ℕ) (l : List ℕ) → i + k ≤ length l → length (take k (drop i l)) ≡ k
part_length i k l h = length-take-le k (drop i l) (omega (arith, length-drop i l))

-- at least as many as the numbers that each name some
full_long : (f : ℕ → List ℕ) (q : ℕ) → ((p : ℕ) → p < q → 0 < length (f p)) → q ≤ length (flat_map f (upto q))
unfolding upto from flat_map
full_long f q h = go 0 q (λ p b. h p (omega arith))
  where
    go : (k n : ℕ) → ((p : ℕ) → p < k + n → 0 < length (f p)) → n ≤ length (flat_map f (from k n))
    go k zero t = omega arith
    go k (suc n) t = omega (arith, length-append (f k) (flat_map f (from (suc k) n)), t k (omega arith), go (suc k) n (λ p b. t p (omega arith)))

each_upto : {A : Type 0} (P : A → Type 0) (f : ℕ → A) (n : ℕ) → ((q : ℕ) → q < n → P (f q)) → Each P (map f (upto n))
unfolding upto from
each_upto P f n h = go 0 n (λ q b. h q (omega arith))
  where
    go : (k n : ℕ) → ((q : ℕ) → q < k + n → P (f q)) → Each P (map f (from k n))
    go k zero t = nil
    go k (suc n) t = cons (t k (omega arith)) (go (suc k) n (λ q b. t q (omega arith)))

flat_map_lem : {A : Type 0} (g : A → List ℕ) (f : ℕ → A) (l : List ℕ) → flat_map g (map f l) ≡ flat_map (λ q. g (f q)) l
unfolding flat_map
flat_map_lem g f [] = refl
flat_map_lem g f (a ∷ l) = ap (λ (t : List ℕ). g (f a) ++ t) (flat_map_lem g f l)

sum_map : {A : Type 0} (g : A → ℕ) (f : ℕ → A) (h : ℕ → ℕ) (n : ℕ) → ((q : ℕ) → q < n → g (f q) ≡ h q) → total (map g (map f (upto n))) ≡ total (map h (upto n))
unfolding upto from total
sum_map {A} g f h n e = go 0 n (λ q b. e q (omega arith))
  where
    go : (k n : ℕ) → ((q : ℕ) → q < k + n → g (f q) ≡ h q) → total (map g (map f (from k n))) ≡ total (map h (from k n))
    go k zero t = refl
    go k (suc n) t = omega (arith, t k (omega arith), go (suc k) n (λ q b. t q (omega arith)))

all_low : (l : List ℕ) → any_above 1 l ≡ false → Each (λ m. m ≤ 1) l
unfolding any_above
all_low [] e = nil
all_low (a ∷ l) e = go (ltb 1 a) refl (λ f. all_low l f)
  where
    go : (t : Bool) → ltb 1 a ≡ t → (any_above 1 l ≡ false → Each (λ m. m ≤ 1) l) → Each (λ m. m ≤ 1) (a ∷ l)
    go true f ih = absurd (true≢false (rw (f, any_above) at e))
    go false f ih = cons (ltb-false 1 a f) (ih (rw (f, any_above) at e))

-- ---- one piece

module _ (w : ℕ) (l : Lines) (adds : Adds w l.counts l.coordinates) (p : LentPieces) (ok : Passes w l p) where
  module _ (q : ℕ) (b : q < p.number) where
    abbrev fine : PieceFine w l p q
    fine = ok.fine q b

    pub members_long : length (members_at w l p q) ≡ member_count w l p q
    unfolding part_of
    members_long = part_length (first_member w l p q) (member_count w l p q) p.members fine.frame.members_in

    pub marks_long : length (marks_at w l p q) ≡ member_count w l p q
    unfolding part_of
    marks_long = part_length (first_member w l p q) (member_count w l p q) p.marks fine.frame.marks_in

    pub numbers_long : length (numbers_at w l p q) ≡ point_count w l p q * w
    unfolding numbers_at
    numbers_long =
        part_length (first_point w l p q * w) (point_count w l p q * w) (named w l p q)
        (omega (arith, fine.frame.points_in, add-mul (first_point w l p q) (point_count w l p q) w))

    pub points_long : length (points w (numbers_at w l p q)) ≡ point_count w l p q
    points_long =
        ap length (points_exact w (point_count w l p q) (numbers_at w l p q) (omega (arith, adds.two)) numbers_long)
        ∙ reads_length w (point_count w l p q) (numbers_at w l p q)

    pub member_low : (y : ℕ) → 0 < count y (members_at w l p q) → y < length l.counts
    member_low y h = plain_low w l y (omega (arith, flat_within (members_at w l p) y q p.number b, ok.members y))

    abbrev first : ℕ
    first = leader w l p q

    pub leader_low : leader w l p q < length l.counts
    leader_low = member_low first (count_at (members_at w l p q) 0 (omega (arith, members_long, fine.frame.some_line)))

    own_points_lem : member_count w l p q ≡ 1 → points w (numbers_at w l p q) ≡ (get_or (lines_in w l) (leader w l p q) no_line).points
    unfolding numbers_at alone source_of
    own_points_lem d =
        let o = fine.own d in
        let a = alone_own w l.coordinates l.counts l.groups l.kinds adds first leader_low in
        ap (λ (s : ℕ). points w (take (point_count w l p q * w) (drop (first_point w l p q * w) (source_of s l.coordinates p.merged)))) o.input
        ∙ ap₂ (λ (i k : ℕ). points w (take (k * w) (drop (i * w) l.coordinates))) o.first
        (o.count ∙ sym (points_at w l.coordinates l.counts l.groups l.kinds adds first leader_low))
        ∙ ap (points w) a.same
        ∙ points_flat w (get_or (lines_in w l) first no_line).points (omega (arith, adds.two))
        (alone_wide w l.coordinates l.counts l.groups l.kinds adds first leader_low)

    stood_drawn : Drawn (standing w l p q)
    unfolding standing
    stood_drawn = record { marked = marks_long ∙ sym members_long; low = all_low (marks_at w l p q) fine.marks; passes = λ y. sym (fine.names y) }

    -- WHAT IS STOOD FOR IS SOUND
    stood_sound : Sound (lines_in w l) (standing w l p q)
    unfolding standing
    stood_sound =
        record {
          full = omega (arith, members_long, fine.frame.some_line);
          drawn = stood_drawn;
          own = λ k h.
              own_points_lem (sym members_long ∙ ap length h)
              ∙ ap (λ (t : List ℕ). (get_or (lines_in w l) (get_or t 0 0) no_line).points) h;
          grouped = λ k h. group_at w l k (member_low k h) ∙ fine.groups k h;
        }

  -- ---- all pieces

  abbrev k : ℕ
  k = p.number

  each : (P : Piece → Type 0) → ((q : ℕ) → q < k → P (standing w l p q)) → Each P (stood_for w l p)
  unfolding stood_for
  each P h = each_upto P (standing w l p) k h

  -- WHAT PASSES STANDS FOR GOOD PIECES
  pub stood_good : Good w l (stood_for w l p)
  unfolding stood_for standing
  stood_good =
      record {
        sound = each (Sound (lines_in w l)) stood_sound;
        pointed = each (λ r. 0 < length r.points) (λ q b. omega (arith, points_long q b, (ok.fine q b).frame.some_point));
        placed = each (λ r. any_nowhere r.points ≡ false) (λ q b. (ok.fine q b).places);
        wide = each (λ r. AllWide w r.points) (λ q b. points_wide w (numbers_at w l p q) adds.two);
        once = λ y. ap (count y) (flat_map_lem (λ (r : Piece). r.lines) (standing w l p) (upto k)) ∙ ok.members y;
        few = omega (arith, sum_map size (standing w l p) (point_count w l p) k points_long, ok.few);
      }

  -- no more pieces than lines
  pub stood_few : p.number ≤ length l.counts
  stood_few =
      omega (
        arith,
        full_long (members_at w l p) k (λ q b. omega (arith, members_long q b, (ok.fine q b).frame.some_line)),
        pigeon (length l.counts) (flat_map (members_at w l p) (upto k)) (λ y. omega (arith, ok.members y, plain_once w l y))
            (λ y h. plain_low w l y (omega (arith, ok.members y))),
      )
