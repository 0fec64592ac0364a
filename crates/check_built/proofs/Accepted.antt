-- THE CHAINS OF THE BOOK ARE ACCEPTABLE, each with its listing and its points: every line is listed once; a lone line has its own points; and two or more
-- are plain, of one group, and meet, with their marks for a choice of directions, and are its points laid end to end.
use Prim.Native.Nat.{ℕ, suc, ◌+◌, ◌≤◌, ◌<◌}
use mathlib.Core.Path.{◌≡◌, refl, sym, ap, ap₂, ◌∙◌}
use mathlib.Core.Bool.{Bool, true, false, not, ◌&&◌, cond, and-eq-true_iff}
use mathlib.Core.List.{List, [], ◌∷◌, ◌++◌, map, flat_map, reverse, reverse-reverse}
use mathlib.Core.Option.{none}
use native.Mathlib.Decide.{ℕ_discrete}
use native.Mathlib.Omega.{arith}
use lib.Dec.{eqb}
use lib.ListN.{length, get_or, length-map}
use borrow.Author.Tests.{eq-eqb}
use Rattle.rules.specs.declared.Meeting.{Meeting}
use Rattle.rules.specs.declared.Settings.{Settings}
use Rattle.rules.specs.Lists.{count, upto, all_of}
use Rattle.rules.specs.Plane.{Point, point, equal}
use Rattle.rules.specs.Chaining.{Piece, nothing, Line, plain, lay, chains}
use Rattle.rules.specs.Refusals.{any_nowhere}
use Rattle.rules.specs.Check.{no_line, meet, travelled, meetings, end_to_end, agree, suits, a_choice, same_numbers, untouched, one_group, joins, fits, Delivered, lines_of, acceptable}
use Rattle.chain_laws.proofs.Counts.{Each, nil, cons, each_get_d, count_at, one_same, one_other, upto_out}
use Rattle.chain_laws.proofs.Drawn.{listing_long, listing_all}
use Rattle.chain_laws.proofs.Lines.{in_one_chain}
use Rattle.chain_laws.proofs.Sound.{Sound, chains_sound, chains_drawn}
use Rattle.chain_extras.specs.Bare.{own_points}
use Rattle.chain_travel.specs.Travel.{drawn, mark_of, passing, ChainTravelled}
use Rattle.chain_travel.specs.Travel as travel
use Rattle.chain_travel.proofs.Travel.{chains_travelled}
use Rattle.check_laws.proofs.Choosing.{choice_there}
use Rattle.check_laws.proofs.Rows.{each_all, all_map}
use Rattle.check_built.specs.Runs.{meets_all, runs_by, runs_of}
use Rattle.check_built.specs.Built.{meeting_of}
use Rattle.check_built.proofs.Rounds.{AllPlain, chains_meet, chains_plain}

-- a chain of the book as it is delivered
abbrev pub delivered_of : Piece → Delivered
delivered_of p = record { listed = p.listing; coordinates = p.points }

-- ---- points are themselves

numbers_self : (a : List ℕ) → same_numbers a a ≡ true
unfolding same_numbers
numbers_self [] = refl
numbers_self (x ∷ a) = (and-eq-true_iff (eqb x x) (same_numbers a a)).1 (eq-eqb x x refl, numbers_self a)

untouched_self : (l : List Point) → untouched l l ≡ true
unfolding untouched
untouched_self [] = refl
untouched_self (p ∷ l) =
    (and-eq-true_iff (same_numbers (p.x ∷ p.y ∷ p.extras) (p.x ∷ p.y ∷ p.extras)) (untouched l l)).1 (numbers_self (p.x ∷ p.y ∷ p.extras), untouched_self l)

-- one test of coordinates
agree_same : (a b : List Point) → travel.agree a b ≡ agree a b
unfolding agree travel.agree
agree_same [] [] = refl
agree_same [] (q ∷ b) = refl
agree_same (p ∷ a) [] = refl
agree_same (p ∷ a) (q ∷ b) = ap (λ (t : Bool). equal p q && t) (agree_same a b)

-- ---- marks as a choice of directions

module _ (ls : List Line) (members marks : List ℕ) where
  abbrev line_of : ℕ → Line
  line_of k = get_or ls k no_line

  abbrev way_of : ℕ → Bool
  way_of k = not (eqb (mark_of members marks k) 0)

  abbrev run_of : ℕ → List Point
  run_of k = drawn (mark_of members marks k) (own_points ls k)

  run_way : (k : ℕ) → travelled (way_of k) (line_of k) ≡ run_of k
  unfolding travelled drawn
  run_way k = go (eqb (mark_of members marks k) 0)
    where
      go : (b : Bool) → cond (not b) (reverse (line_of k).points) (line_of k).points ≡ cond b (own_points ls k) (reverse (own_points ls k))
      go true = refl
      go false = refl

  back_way : (k : ℕ) → travelled (not (way_of k)) (line_of k) ≡ reverse (run_of k)
  unfolding travelled drawn
  back_way k = go (eqb (mark_of members marks k) 0)
    where
      go : (b : Bool) → cond (not (not b)) (reverse (line_of k).points) (line_of k).points ≡ reverse (cond b (own_points ls k) (reverse (own_points ls k)))
      go true = refl
      go false = sym (reverse-reverse (line_of k).points)

  ways_end : (l : List ℕ) → end_to_end (map line_of l) (map way_of l) ≡ flat_map run_of l
  unfolding end_to_end flat_map
  ways_end [] = refl
  ways_end (k ∷ l) = ap₂ (λ (x y : List Point). x ++ y) (run_way k) (ways_end l)

  ways_meet : (m : Meeting) (l : List ℕ) → meetings m (map line_of l) (map way_of l) ≡ meets_all m (flat_map (λ k. run_of k ∷ []) l)
  unfolding meetings meets_all flat_map
  ways_meet m [] = refl
  ways_meet m (k ∷ []) = refl
  ways_meet m (k ∷ j ∷ l) =
      ap₂ (λ (x y : Bool). x && y)
      (ap₂ (λ (a b : List Point). meet m (get_or a 0 (point 0 0)) (get_or b 0 (point 0 0))) (back_way k) (run_way j))
      (ways_meet m (j ∷ l))

-- ---- a chain

module _ (ls : List Line) (m : Meeting) (p : Piece) (sound : Sound ls p) (passes : ChainTravelled ls p) (meets : meets_all m (runs_of ls p) ≡ true)
    (plains : 2 ≤ length p.lines → (k : ℕ) → 0 < count k p.lines → plain (get_or ls k no_line) ≡ true) where
  abbrev line : ℕ → Line
  line k = get_or ls k no_line

  abbrev way : ℕ → Bool
  way k = way_of ls p.lines p.marks k

  listed_in : (i : ℕ) → i < length p.listing → 0 < count (get_or p.listing i 0) p.lines
  listed_in i h = omega (arith, count_at p.listing i h, passes.listed (get_or p.listing i 0))

  as_many : length p.listing ≡ length p.lines
  as_many = listing_long p sound.drawn

  -- one line
  only : (k : ℕ) → p.listing ≡ k ∷ [] → p.lines ≡ k ∷ []
  unfolding count
  only k e = go p.lines refl (omega (arith, as_many, ap length e)) (omega (arith, passes.listed k, ap (count k) e, one_same k k refl))
    where
      go : (l : List ℕ) → p.lines ≡ l → length p.lines ≡ 1 → 0 < count k p.lines → p.lines ≡ k ∷ []
      go [] q n c = absurd (omega (arith, ap length q))
      go (a ∷ b ∷ l) q n c = absurd (omega (arith, ap length q))
      go (a ∷ []) q n c =
          elim (ℕ_discrete k a) [
            | yes z ↦ q ∙ ap {B = List ℕ} (λ (x : ℕ). x ∷ []) (sym z)
            | no z ↦ absurd (omega (arith, ap (count k) q, one_other k a z))
          ]

  lone_fits : (k : ℕ) → p.listing ≡ k ∷ [] → untouched (line k).points p.points ≡ true
  lone_fits k e = ap (untouched (line k).points) (passes.alone k (only k e)).1 ∙ untouched_self (line k).points

  -- two or more
  module _ (two : 2 ≤ length p.listing) where
    plain_lines : all_of plain (map line p.listing) ≡ true
    plain_lines =
        all_map plain line p.listing
        ∙ each_all (λ (k : ℕ). plain (line k)) p.listing 0 (λ i h. plains (omega (arith, as_many)) (get_or p.listing i 0) (listed_in i h))

    group_of : (i : ℕ) → i < length p.listing → (line (get_or p.listing i 0)).group ≡ p.group
    group_of i h = sound.grouped (get_or p.listing i 0) (listed_in i h)

    one_group_lem : one_group (map line p.listing) ≡ true
    unfolding one_group
    one_group_lem = go p.listing group_of
      where
        go : (l : List ℕ) → ((i : ℕ) → i < length l → (line (get_or l i 0)).group ≡ p.group) → one_group (map line l) ≡ true
        go [] f = refl
        go (k ∷ l) f =
            all_map (λ (a : Line). eqb (line k).group a.group) line l
            ∙ each_all (λ (j : ℕ). eqb (line k).group (line j).group) l 0
            (λ i h. eq-eqb (line k).group (line (get_or l i 0)).group (f 0 (omega arith) ∙ sym (f (suc i) (omega arith))))

    choice : a_choice m (map line p.listing) p.points ≡ true
    unfolding a_choice suits passing runs_by
    choice =
        choice_there (length (map line p.listing)) (suits m (map line p.listing) p.points) (map way p.listing)
        (length-map p.listing way ∙ sym (length-map p.listing line))
        ((and-eq-true_iff (meetings m (map line p.listing) (map way p.listing)) (agree (lay none (end_to_end (map line p.listing) (map way p.listing))) p.points)).1 (
          ways_meet ls p.lines p.marks m p.listing ∙ meets,
          ap (λ (x : List Point). agree (lay none x) p.points) (ways_end ls p.lines p.marks p.listing)
              ∙ sym (agree_same (lay none (passing ls p.lines p.marks p.listing)) p.points)
              ∙ passes.joined (omega (arith, as_many)),
        ))

    joined : joins m (map line p.listing) p.points ≡ true
    unfolding joins
    joined =
        (and-eq-true_iff (all_of plain (map line p.listing)) (one_group (map line p.listing) && a_choice m (map line p.listing) p.points)).1
        (plain_lines, (and-eq-true_iff (one_group (map line p.listing)) (a_choice m (map line p.listing) p.points)).1 (one_group_lem, choice))

  pub piece_fits : fits m (map (λ (k : ℕ). get_or ls k no_line) p.listing) p.points ≡ true
  unfolding fits
  piece_fits = go p.listing refl
    where
      go : (l : List ℕ) → p.listing ≡ l → fits m (map line l) p.points ≡ true
      go [] e = absurd (omega (arith, ap length e, as_many, sound.full))
      go (k ∷ []) e = lone_fits k e
      go (k ∷ j ∷ l) e = ap (λ (x : List ℕ). joins m (map line x) p.points) (sym e) ∙ joined (omega (arith, ap length e))

-- ---- all chains

module _ (ls : List Line) (places : Each (λ l. any_nowhere l.points ≡ false) ls) (s : Settings) where
  abbrev ps : List Piece
  ps = chains s ls

  abbrev m : Meeting
  m = meeting_of s

  each_fits : (qs : List Piece) → Each (Sound ls) qs → Each (ChainTravelled ls) qs → Each (λ p. meets_all m (runs_of ls p) ≡ true) qs → Each (AllPlain ls places s) qs
      → Each (λ p. fits m (map (λ (k : ℕ). get_or ls k no_line) p.listing) p.points ≡ true) qs
  each_fits qs nil nil nil nil = nil
  each_fits qs (cons {a = p} {l = rs} a as-sound) (cons b as-travelled) (cons c as-meet) (cons d as_plain) =
      cons (piece_fits ls m p a b c d) (each_fits rs as-sound as-travelled as-meet as_plain)

  pub chains_fit : Each (λ p. fits m (map (λ (k : ℕ). get_or ls k no_line) p.listing) p.points ≡ true) (chains s ls)
  chains_fit = each_fits ps (chains_sound s ls) (chains_travelled ls places s) (chains_meet ls places s) (chains_plain ls places s)

  listings_are : (qs : List Piece) → flat_map (λ (c : Delivered). c.listed) (map delivered_of qs) ≡ flat_map (λ p. p.listing) qs
  unfolding flat_map
  listings_are [] = refl
  listings_are (p ∷ qs) = ap (λ (r : List ℕ). p.listing ++ r) (listings_are qs)

  once : (y : ℕ) → y < length ls → count y (flat_map (λ (c : Delivered). c.listed) (map delivered_of ps)) ≡ 1
  once y h = ap (count y) (listings_are ps) ∙ listing_all ps (chains_drawn s ls) y ∙ in_one_chain s ls y h

  pub chains_acceptable : acceptable (meeting_of s) ls (map delivered_of (chains s ls)) ≡ true
  unfolding acceptable
  chains_acceptable =
      (and-eq-true_iff
      (all_of (λ (y : ℕ). eqb (count y (flat_map (λ (c : Delivered). c.listed) (map delivered_of ps))) 1) (upto (length ls)))
      (all_of (λ (c : Delivered). fits m (lines_of ls c) c.coordinates) (map delivered_of ps))).1 (
        each_all (λ (y : ℕ). eqb (count y (flat_map (λ (c : Delivered). c.listed) (map delivered_of ps))) 1) (upto (length ls)) 0
            (λ i h.
            let y = get_or (upto (length ls)) i 0 in
            eq-eqb (count y (flat_map (λ (c : Delivered). c.listed) (map delivered_of ps))) 1 (once y (upto_out (length ls) y (count_at (upto (length ls)) i h)))),
        all_map (λ (c : Delivered). fits m (lines_of ls c) c.coordinates) delivered_of ps
            ∙ each_all (λ (p : Piece). fits m (map (λ (k : ℕ). get_or ls k no_line) p.listing) p.points) ps nothing
            (λ i h. each_get_d (λ p. fits m (map (λ (k : ℕ). get_or ls k no_line) p.listing) p.points ≡ true) ps i nothing chains_fit h),
      )
