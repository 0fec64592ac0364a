-- Which way a line was drawn: every chain has in its listing the lines that its members are; the points of a chain of two lines or more are, under
-- `==`, those lines in the listing's order, each turned where its mark says so, laid end to end; and a line alone is as it was drawn.
-- It holds of a line alone, and a round keeps it (Joining). Under `==` only, since a round drops repeats in its own direction; and where every
-- coordinate is a place, since a NaN isn't equal to itself.
use Prim.Native.Nat.{ℕ, zero, suc, ◌+◌, ◌≤◌}
use mathlib.Core.Path.{◌≡◌, refl, sym, ap, ◌∙◌, subst}
use mathlib.Core.Bool.{Bool, true, false, cond, beq}
use mathlib.Core.List.{List, [], ◌∷◌, flat_map, reverse, append-nil}
use mathlib.Core.Option.{none}
use native.Mathlib.Omega.{arith}
use lib.Dec.{eqb}
use lib.Ieee.{lt}
use lib.ListN.{length, get_or}
use Rattle.rules.specs.declared.Settings.{Settings}
use Rattle.rules.specs.Answers.{Exact}
use Rattle.rules.specs.Lists.{count, upto, first_place}
use Rattle.rules.specs.Plane.{nought}
use Rattle.rules.specs.Chaining.{Piece, Line, lay, plain, alone, pieces, rule_of, cells_of, join, round_one, round_two, chains}
use Rattle.rules.specs.Refusals.{any_nowhere}
use Rattle.chain_laws.proofs.Counts.{Each, nil, cons, each_append, upto_once}
use Rattle.chain_laws.proofs.Lines.{lines_of, join_count, pieces_take, pieces_leave, pieces_count}
use Rattle.chain_laws.proofs.Drawn.{alone_drawn}
use Rattle.chain_laws.proofs.Sound.{no_line, Sound, alones, join_sound, chains_sound}
use Rattle.chain_extras.specs.Bare.{own_points}
use Rattle.chain_extras.proofs.Riding.{each_reverse}
use Rattle.chain_travel.specs.Travel.{drawn, mark_of, passing, ChainTravelled}
use Rattle.chain_travel.proofs.Values.{Number, places_numbers, same_agree, lay_values}
use Rattle.chain_travel.proofs.Joining.{laid_values, way, Passes, join_passes}

module _ (ls : List Line) (places : Each (λ l. any_nowhere l.points ≡ false) ls) where
  -- ---- the lines' points

  pub lines_numbers : (ms : List Line) → Each (λ l. any_nowhere l.points ≡ false) ms → (k : ℕ) → Each Number (own_points ms k)
  lines_numbers ms nil k = nil
  lines_numbers ms (cons {a = l} h a) zero = places_numbers l.points h
  lines_numbers ms (cons {l = rs} h a) (suc k) = lines_numbers rs a k

  drawn_numbers : (mark k : ℕ) → Each Number (drawn mark (own_points ls k))
  unfolding drawn
  drawn_numbers mark k = go (eqb mark 0)
    where
      go : (t : Bool) → Each Number (cond t (own_points ls k) (reverse (own_points ls k)))
      go true = lines_numbers ls places k
      go false = each_reverse Number (own_points ls k) (lines_numbers ls places k)

  passing_numbers : (members marks listing : List ℕ) → Each Number (passing ls members marks listing)
  unfolding passing flat_map
  passing_numbers members marks [] = nil
  passing_numbers members marks (k ∷ l) = each_append (drawn_numbers (mark_of members marks k) k) (passing_numbers members marks l)

  -- ---- a line alone

  no_mark : (i : ℕ) → ◌≡◌ {A = ℕ} (get_or (0 ∷ []) i 0) 0
  no_mark zero = refl
  no_mark (suc i) = refl

  alone_way : (k : ℕ) (l : Line) → get_or ls k no_line ≡ l → way ls (alone k l) ≡ l.points
  unfolding alone passing flat_map mark_of drawn
  alone_way k l h =
      append-nil (drawn (mark_of (k ∷ []) (0 ∷ []) k) (own_points ls k))
      ∙ ap (λ (m : ℕ). drawn m (own_points ls k)) (no_mark (first_place (eqb k) (k ∷ [])))
      ∙ ap (λ (l : Line). l.points) h

  alone_passes : (k : ℕ) (l : Line) → get_or ls k no_line ≡ l → Passes ls (alone k l)
  unfolding alone
  alone_passes k l h =
      record {
        drawn = alone_drawn k l;
        numbers = subst (λ (l : Line). Each Number l.points) h (lines_numbers ls places k);
        lays = ap laid_values (sym (alone_way k l h));
        settled = λ i. absurd (omega arith);
        lone = λ i. refl;
      }

  pub alones_pass : (want : Bool) (k : ℕ) (ms : List Line) → ((i : ℕ) → get_or ls (k + i) no_line ≡ get_or ms i no_line) → Each (Passes ls) (pieces want k ms)
  unfolding pieces
  alones_pass want k [] h = nil
  alones_pass want k (l ∷ ms) h =
      go (beq want (plain l)) refl (alones_pass want (suc k) ms (λ i. ap (λ (m : ℕ). get_or ls m no_line) (omega arith) ∙ h (suc i)))
    where
      go : (t : Bool) → beq want (plain l) ≡ t → Each (Passes ls) (pieces want (suc k) ms) → Each (Passes ls) (pieces want k (l ∷ ms))
      go true e ih = rw (pieces_take want k l ms e) (cons (alone_passes k l (ap (λ (m : ℕ). get_or ls m no_line) (omega arith) ∙ h 0)) ih)
      go false e ih = rw (pieces_leave want k l ms e) ih

  pub from_first : (i : ℕ) → get_or ls (0 + i) no_line ≡ get_or ls i no_line
  from_first i = ap (λ (m : ℕ). get_or ls m no_line) (omega arith)

  -- ---- the rounds

  pub plain_once : (y : ℕ) → count y (lines_of (pieces true 0 ls)) ≤ 1
  unfolding upto
  plain_once y = omega (arith, pieces_count y 0 ls, upto_once (length ls) y)

  module _ (s : Settings) where
    abbrev pub left : List Piece
    left = join (rule_of Exact s) (pieces true 0 ls)

    pub left_sound : Each (Sound ls) left
    left_sound = join_sound (rule_of Exact s) (pieces true 0 ls) ls (alones ls true 0 ls from_first)

    pub left_once : (y : ℕ) → count y (lines_of left) ≤ 1
    left_once y = omega (arith, join_count (rule_of Exact s) (pieces true 0 ls) y, plain_once y)

    pub left_passes : Each (Passes ls) left
    left_passes = join_passes ls (rule_of Exact s) (pieces true 0 ls) (alones_pass true 0 ls from_first) (alones ls true 0 ls from_first) plain_once

    two_passes : Each (Passes ls) (round_two s left)
    unfolding round_two
    two_passes = go (lt nought s.tolerance) refl
      where
        go : (t : Bool) → lt nought s.tolerance ≡ t → Each (Passes ls) (round_two s left)
        go true e = rw (e, round_two) (join_passes ls (rule_of (cells_of s) s) left left_passes left_sound left_once)
        go false e = rw (e, round_two) left_passes

    pub chains_pass : Each (Passes ls) (chains s ls)
    unfolding chains round_one
    chains_pass = each_append two_passes (alones_pass false 0 ls from_first)

    -- ---- the chains

    piece_travelled : (p : Piece) → Passes ls p → Sound ls p → ChainTravelled ls p
    piece_travelled p h a =
        record {
          listed = h.drawn.passes;
          joined = λ i. same_agree (lay none (way ls p)) p.points h.numbers
              (lay_values (way ls p) (passing_numbers p.lines p.marks p.listing) ∙ sym h.lays ∙ h.settled i);
          alone = λ k e. (h.lone (ap length e), a.own k e);
        }

    all_travelled : (ps : List Piece) → Each (Passes ls) ps → Each (Sound ls) ps → Each (ChainTravelled ls) ps
    all_travelled ps nil nil = nil
    all_travelled ps (cons {a = p} {l = qs} h hs) (cons a b) = cons (piece_travelled p h a) (all_travelled qs hs b)

    -- EVERY CHAIN'S POINTS ARE ITS LINES IN LISTING ORDER, EACH AS ITS MARK SAYS
    pub chains_travelled : Each (ChainTravelled ls) (chains s ls)
    chains_travelled = all_travelled (chains s ls) chains_pass (chains_sound s ls)
