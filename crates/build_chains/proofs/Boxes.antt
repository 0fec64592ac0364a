-- The boxes of what was laid: each record names its chain's points, which are places, and so the boxes by the views are those of the chains.
use Prim.Native.Nat.{ℕ, ◌<◌}
use mathlib.Core.Path.{◌≡◌, refl, sym, ap, subst, ◌∙◌}
use mathlib.Core.List.{List, [], ◌++◌, map, flat_map}
use native.Mathlib.Omega.{arith}
use lib.ListN.{length, get_or, drop}
use Rattle.rules.specs.declared.Box.{Box}
use Rattle.rules.specs.declared.Settings.{Settings}
use Rattle.rules.specs.Plane.{points, flat}
use Rattle.rules.specs.Boxes.{box_of, stacked, box_numbers}
use Rattle.rules.specs.Chaining.{Piece, nothing, chains}
use Rattle.rules.specs.Types.{width_of}
use Rattle.rules.specs.Layout.{Lines, lines_in, copy, table as table_of, laid_out}
use Rattle.rules.specs.Refusals.{Rooms}
use Rattle.rules.specs.Calls.{written}
use Rattle.build_refusals.specs.Admitted.{Admitted}
use Rattle.point_numbers.proofs.Widths.{width_most}
use Rattle.chain_laws.proofs.Counts.{each_get_d}
use Rattle.chain_laws.proofs.Room.{lines_length, chains_fit}
use Rattle.chain_laws.proofs.Sound.{chains_sound}
use Rattle.box_laws.specs.Sound.{BoxPlace, Places}
use Rattle.box_laws.proofs.Places.{places_of}
use Rattle.build_boxes.specs.Boxing.{chain_points, chain_boxes, Boxable}
use Rattle.build_reading.proofs.Reading.{by_index, line_stands, chain_there, chain_part}
use Rattle.build_reading.proofs.Points.{chains_have, points_read}
use Rattle.build_chains.specs.Building.{Boxing}

-- the chains of an accepted call
pub chains_boxing : {t : ℕ} {l : Lines} {s : Settings} {o : Rooms} → Admitted t l s o → Boxing t l (chains s (lines_in (width_of t) l)) o.boxes
chains_boxing {t} {l} {s} {o} a =
    let w = width_of t in
    record {
      few = a.few;
      adds = record { two = a.two; sum = a.adds };
      fit = omega (arith, chains_fit s (lines_in w l), lines_length (points w l.coordinates) l.counts l.groups l.kinds);
      sound = chains_sound s (lines_in w l);
      read = points_read w l s a.two;
      placed = chains_have w l s BoxPlace (places_of (points w l.coordinates) a.places);
      room = a.boxes_long;
    }

module _ {t : ℕ} {l : Lines} {ps : List Piece} {boxes : List ℕ} (b : Boxing t l ps boxes) (T M : List ℕ) where
  abbrev w : ℕ
  w = width_of t

  abbrev table' : List ℕ
  table' = table_of l.counts 0 0 ps ++ T

  abbrev merged' : List ℕ
  merged' = flat w (flat_map copy ps) ++ M

  module _ (j : ℕ) (h : j < length ps) where
    points_are : chain_points w l.coordinates merged' table' j ≡ (get_or ps j nothing).points
    points_are =
        ap (points w)
        (chain_part t w refl l.coordinates l.counts (lines_in w l) ps b.sound
        (λ k. line_stands w l.coordinates l.counts l.groups l.kinds k b.adds)
        T [] [] [] M [] [] [] j h)
        ∙ b.read j h

    places : Places (chain_points w l.coordinates merged' table' j)
    places = subst Places (sym points_are) (each_get_d (λ (p : Piece). Places p.points) ps j nothing b.placed h)

  laid_boxable : Boxable w l.coordinates merged' table' (length ps) boxes
  laid_boxable =
      record {
        two = b.adds.two;
        narrow = width_most t;
        few = omega (arith, b.fit, b.few);
        room = omega (arith, b.fit, b.room);
        there = λ j h. chain_there t w refl l.coordinates l.counts (lines_in w l) ps b.sound
            (λ k. line_stands w l.coordinates l.counts l.groups l.kinds k b.adds)
            T [] [] [] M [] [] [] j h;
        places = places;
      }

  laid_boxes : chain_boxes w l.coordinates merged' table' (length ps) ≡ map (λ (p : Piece). box_of p.points) ps
  unfolding chain_boxes
  laid_boxes =
      by_index (λ j. box_of (chain_points w l.coordinates merged' table' j)) (λ (p : Piece). box_of p.points) nothing ps (λ j h. ap box_of (points_are j h))

-- by the width, the table, the merged coordinates and the number that are at hand
module _ {t : ℕ} {l : Lines} {ps : List Piece} {boxes : List ℕ} (b : Boxing t l ps boxes) (table merged : List ℕ) {w r : ℕ} {table' merged' : List ℕ}
    (e : w ≡ width_of t)
    (T : table' ≡ written (laid_out (width_of t) l.counts ps).records table)
    (M : merged' ≡ written (laid_out (width_of t) l.counts ps).merged merged)
    (N : r ≡ (laid_out (width_of t) l.counts ps).number) where
  abbrev behind_table : List ℕ
  behind_table = drop (length (laid_out (width_of t) l.counts ps).records) table

  abbrev behind_merged : List ℕ
  behind_merged = drop (length (laid_out (width_of t) l.counts ps).merged) merged

  pub boxable : Boxable w l.coordinates merged' table' r boxes
  unfolding written laid_out
  boxable = subst (λ (v : ℕ). Boxable v l.coordinates merged' table' r boxes) (sym e)
      (subst (λ (m : List ℕ). Boxable (width_of t) l.coordinates m table' r boxes) (sym M)
      (subst (λ (c : List ℕ). Boxable (width_of t) l.coordinates (written (laid_out (width_of t) l.counts ps).merged merged) c r boxes) (sym T)
      (subst (λ (k : ℕ). Boxable (width_of t) l.coordinates (written (laid_out (width_of t) l.counts ps).merged merged) (written (laid_out (width_of t) l.counts ps).records table) k boxes) (sym N)
      (laid_boxable b behind_table behind_merged))))

  pub boxes_are : box_numbers (stacked (chain_boxes w l.coordinates merged' table' r)) ≡ (laid_out (width_of t) l.counts ps).boxes
  unfolding written laid_out
  boxes_are =
      (λ i. box_numbers (stacked (chain_boxes (e i) l.coordinates (M i) (T i) (N i))))
      ∙ ap (λ (c : List Box). box_numbers (stacked c)) (laid_boxes b behind_table behind_merged)
