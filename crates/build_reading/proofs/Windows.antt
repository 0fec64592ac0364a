-- A window question on the boxes that an accepted building call left lists exactly the chains whose own coordinates' extent overlaps or touches the window.
-- Every point of a chain is a point of a line, and a line has places only; so no box has a NaN, and a box around another meets what that one meets.
use Prim.Native.Nat.{ℕ, ◌+◌, ◌^◌, ◌≤◌, ◌<◌}
use mathlib.Core.Path.{◌≡◌, refl, sym, ap, ap₂, ◌∙◌}
use mathlib.Core.Bool.{false}
use mathlib.Core.List.{List, [], ◌∷◌, ◌++◌, map}
use native.Mathlib.Omega.{arith}
use borrow.Author.Tests.{le-ltb}
use lib.ListN.{length, drop, get_or, length-append, length-drop, length-map, get_or-map}
use Rattle.rules.specs.Answers.{Answer}
use Rattle.rules.specs.Answers.{Accepted}
use Rattle.rules.specs.declared.Box.{Box}
use Rattle.rules.specs.declared.Settings.{Settings}
use Rattle.rules.specs.declared.Window.{Window}
use Rattle.rules.specs.Lists.{upto, keep}
use Rattle.rules.specs.Plane.{Point, points}
use Rattle.rules.specs.Boxes.{box_of, stacked, box_numbers, box_room}
use Rattle.rules.specs.Chaining.{Piece, nothing, chains}
use Rattle.rules.specs.Types.{width_of}
use Rattle.rules.specs.Layout.{Lines, lines_in, laid_out, build}
use Rattle.rules.specs.Refusals.{Rooms, first_of}
use Rattle.rules.specs.Calls.{unless, answer_of, written, built_of, filled, viewed, Built}
use Rattle.rules.specs.Windows.{boxes_as, window_bad, window_refusal_of, in_window, found_of, Windowed}
use Rattle.chain_laws.proofs.Counts.{Each, each_map}
use Rattle.chain_laws.proofs.Room.{lines_length, chains_fit}
use Rattle.box_laws.specs.Sound.{BoxPlace, Places}
use Rattle.box_laws.specs.Spans.{spans}
use Rattle.box_laws.proofs.Places.{places_of}
use Rattle.box_laws.proofs.Runs.{keep_same}
use Rattle.box_laws.proofs.Calls.{plain_test}
use Rattle.build_refusals.specs.Admitted.{Admitted}
use Rattle.build_reading.proofs.Calls.{taken, let_in, filled_is, call_viewed}
use Rattle.build_reading.proofs.Points.{chains_have, points_read}

-- ---- an accepted building call

module _ {t : ℕ} {l : Lines} {s : Settings} {o o' : Rooms} {n : ℕ} (built : Built t l s o (Accepted n) o') where
  abbrev w : ℕ
  w = width_of t

  abbrev ps : List Piece
  ps = chains s (lines_in w l)

  abbrev a : Admitted t l s o
  a = let_in built

  -- the chains' points are places
  chains_places : Each Places (map (λ (p : Piece). p.points) ps)
  chains_places =
      each_map (λ (p : Piece). p.points) Places ps (chains_have w l s BoxPlace (places_of (points w l.coordinates) a.places))

  -- what stands in the boxes
  abbrev rest : List ℕ
  rest = drop (length (box_numbers (stacked (map (λ (p : Piece). box_of p.points) ps)))) o.boxes

  map_map : (qs : List Piece) → map (λ (p : Piece). box_of p.points) qs ≡ map box_of (map (λ (p : Piece). p.points) qs)
  map_map [] = refl
  map_map (p ∷ qs) = ap {B = List Box} (λ (r : List Box). box_of p.points ∷ r) (map_map qs)

  boxes_are : o'.boxes ≡ box_numbers (stacked (map box_of (map (λ (p : Piece). p.points) ps))) ++ rest
  unfolding filled build laid_out written
  boxes_are =
      ap (λ (r : Rooms). r.boxes) (filled_is built) ∙ ap {B = List ℕ} (λ (b : List Box). box_numbers (stacked b) ++ rest) (map_map ps)

  -- a chain's points, as they are read
  abbrev points_of : ℕ → List Point
  points_of j = points w (viewed t l.coordinates o'.merged o'.table j)

  views : (j : ℕ) → j < n → points_of j ≡ (get_or ps j nothing).points
  views j h =
      ap (points w) (call_viewed built j h) ∙ points_read w l s a.two j (omega (arith, (taken built).1))

  -- those whose extent overlaps or touches a window
  pub inside : Window → List ℕ
  inside v = keep (λ j. spans v (points_of j)) (upto n)

  listed : (v : Window) → in_window v o'.boxes n ≡ inside v
  unfolding inside
  listed v =
      let ls = map (λ (p : Piece). p.points) ps in
      let size : length ls ≡ n = length-map ps (λ (p : Piece). p.points) ∙ sym (taken built).1 in
      ap (λ (b : List ℕ). in_window v b n) boxes_are
      ∙ ap (in_window v (box_numbers (stacked (map box_of ls)) ++ rest)) (sym size)
      ∙ plain_test v ls rest chains_places
      ∙ ap (λ (k : ℕ). keep (λ j. spans v (get_or ls j [])) (upto k)) size
      ∙ keep_same (λ j. spans v (get_or ls j [])) (λ j. spans v (points_of j)) n
      (λ j h. ap (spans v) (get_or-map (λ (p : Piece). p.points) ps j nothing ∙ sym (views j h)))

  -- ---- the question

  -- its room is there: what was written over the boxes made them no shorter
  fewer : n ≤ length l.counts
  fewer =
      omega (arith, (taken built).1, chains_fit s (lines_in w l), lines_length (points w l.coordinates) l.counts l.groups l.kinds)

  boxes_long : box_room n ≤ length o'.boxes
  unfolding filled written
  boxes_long =
      let out = (built_of t l s).boxes in
      omega (arith, fewer, a.boxes_long, ap (λ (r : Rooms). length r.boxes) (filled_is built), length-append out (drop (length out) o.boxes), length-drop (length out) o.boxes)

  unrefused : (v : Window) (found : List ℕ) → window_bad v ≡ false → n ≤ length found → window_refusal_of (boxes_as o'.boxes n v found) ≡ 0
  unfolding window_refusal_of first_of
  unrefused v found g h =
      let many : n ≤ 2 ^ 32 = omega (arith, fewer, a.few) in
      rw (g, le-ltb (length o'.boxes) (box_room n) boxes_long, le-ltb (length found) n h, le-ltb (2 ^ 32) n many, first_of)

  -- WHAT LIES IN A WINDOW: the question on the boxes that building left, of all its chains, answers with those whose coordinates' extent overlaps or touches
  -- the window, and lists them
  pub window_of_building : (v : Window) {r : Answer} {found found' : List ℕ} → window_bad v ≡ false → n ≤ length found
      → Windowed (boxes_as o'.boxes n v found) r found' → (r ≡ Accepted (length (inside v))) × (found' ≡ written (inside v) found)
  unfolding found_of answer_of unless
  window_of_building v {found = found} g h c =
      let z = unrefused v found g h in (
        c.answer ∙ ap₂ (λ (k : ℕ) (f : List ℕ). answer_of k (length f)) z (listed v),
        c.found ∙ ap₂ (λ (k : ℕ) (f : List ℕ). unless k found (written f found)) z (listed v),
      )
