-- The pieces of an accepted call: sound, with points, and of lines of the call. So they are at the start, and so every round leaves them.
use Prim.Native.Nat.{ℕ, zero, suc, ◌+◌, ◌<◌}
use mathlib.Core.Path.{◌≡◌, refl, sym, ap, ◌∙◌, subst}
use mathlib.Core.Bool.{Bool, true, false, beq, and-eq-true_iff}
use mathlib.Core.List.{List, [], ◌∷◌, ◌++◌, map, flat_map}
use mathlib.Core.Option.{none}
use native.Mathlib.Omega.{arith}
use native.Mathlib.Decide.{ℕ_discrete}
use lib.Dec.{eqb, leb}
use lib.ListN.{length, get_or, drop}
use borrow.Author.Tests.{leb-true}
use Rattle.rules.specs.Lists.{count}
use Rattle.rules.specs.Plane.{Point}
use Rattle.rules.specs.Walking.{piece_of, walks}
use Rattle.rules.specs.Chaining.{Line, Piece, Rule, nothing, plain, alone, pieces, piece_at, run, lay, merged, merge, join, partner}
use Rattle.rules.specs.Layout.{lines}
use Rattle.chain_laws.proofs.Counts.{Each, nil, cons, each_map, each_weak, each_get_d, one_same, one_other, count_append, count_at}
use Rattle.chain_laws.proofs.Lines.{lines_of, pieces_take, pieces_leave, join_count}
use Rattle.chain_laws.proofs.Partners.{partner_joins}
use Rattle.chain_laws.proofs.Room.{run_size, lines_length}
use Rattle.chain_laws.proofs.Sound.{no_line, Sound, join_sound, alones}
use Rattle.chain_laws.proofs.Walks.{Proper, walks_proper}
use Rattle.chain_keys.specs.Tells.{OneGroup}

pub record Good (ls : List Line) (ps : List Piece) : Type 0 where
  pub sound : Each (Sound ls) ps
  pub long : Each (λ p. 0 < length p.points) ps
  pub low : (k : ℕ) → 0 < count k (lines_of ps) → k < length ls

-- ---- at the start

plain_long : (l : Line) → plain l ≡ true → 0 < length l.points
unfolding plain
plain_long l e = omega (arith, leb-true 2 (length l.points) ((and-eq-true_iff (eqb l.kind 0) (leb 2 (length l.points))).0 e).1)

want_true : (b : Bool) → beq true b ≡ true → b ≡ true
want_true true e = refl
want_true false e = e

-- a line of the pieces from k on is one of theirs
low_from : (want : Bool) (k : ℕ) (ls : List Line) (y : ℕ) → 0 < count y (lines_of (pieces want k ls)) → y < k + length ls
unfolding pieces alone flat_map count
low_from want k [] y h = absurd (omega arith)
low_from want k (l ∷ ls) y h = go (beq want (plain l)) refl (λ i. low_from want (suc k) ls y i)
  where
    go : (t : Bool) → beq want (plain l) ≡ t → (0 < count y (lines_of (pieces want (suc k) ls)) → y < suc k + length ls) → y < k + length (l ∷ ls)
    go true e rec =
        let c : 0 < count y (lines_of (alone k l ∷ pieces want (suc k) ls)) = rw (pieces_take want k l ls e) at h in
        elim (ℕ_discrete y k) [
          | yes q ↦ omega arith
          | no q ↦ omega (arith, rec (omega (arith, one_other y k q)))
        ]
    go false e rec = let c : 0 < count y (lines_of (pieces want (suc k) ls)) = rw (pieces_leave want k l ls e) at h in omega (arith, rec c)

plains_long : (k : ℕ) (ls : List Line) → Each (λ p. 0 < length p.points) (pieces true k ls)
unfolding pieces alone
plains_long k [] = nil
plains_long k (l ∷ ls) = go (beq true (plain l)) refl (plains_long (suc k) ls)
  where
    go : (t : Bool) → beq true (plain l) ≡ t → Each (λ p. 0 < length p.points) (pieces true (suc k) ls) → Each (λ p. 0 < length p.points) (pieces true k (l ∷ ls))
    go true e ih = rw (pieces_take true k l ls e) (cons (plain_long l (want_true (plain l) e)) ih)
    go false e ih = rw (pieces_leave true k l ls e) ih

pub good_start : (ls : List Line) → Good ls (pieces true 0 ls)
good_start ls =
    record {
      sound = alones ls true 0 ls (λ i. ap (λ (m : ℕ). get_or ls m no_line) (omega arith));
      long = plains_long 0 ls;
      low = λ k h. omega (arith, low_from true 0 ls k h);
    }

-- ---- after a round

laid_long : (p : Point) (l : List Point) → 0 < length (lay none (p ∷ l))
unfolding lay
laid_long p l = omega arith

first_long : (l r : List Point) → 0 < length l → 0 < length (lay none (l ++ r))
first_long [] r h = absurd (omega arith)
first_long (p ∷ l) r h = laid_long p (l ++ r)

module _ (rule : Rule) (ps : List Piece) (long : Each (λ p. 0 < length p.points) ps) where
  piece_long : (e : ℕ) → piece_of e < length ps → 0 < length (piece_at rule ps e).points
  unfolding piece_at
  piece_long e h = each_get_d (λ p. 0 < length p.points) ps (piece_of e) nothing long h

  merge_long : (w : List ℕ) → 0 < length w → ((x : ℕ) → 0 < count x (map piece_of w) → x < length ps) → 0 < length (merge rule ps w).points
  unfolding merge merged flat_map count
  merge_long [] h i = absurd (omega arith)
  merge_long (e ∷ []) h i = piece_long e (i (piece_of e) (omega (arith, one_same (piece_of e) (piece_of e) refl)))
  merge_long (e ∷ f ∷ w) h i =
      first_long (run rule ps e) (flat_map (run rule ps) (f ∷ w))
      (omega (arith, run_size rule ps e, piece_long e (i (piece_of e) (omega (arith, one_same (piece_of e) (piece_of e) refl)))))

  join_long : Each (λ p. 0 < length p.points) (join rule ps)
  unfolding join
  join_long =
      each_map (merge rule ps) (λ p. 0 < length p.points) (walks (partner rule ps) (length ps))
      (each_weak (Proper (length ps) (partner rule ps)) (λ w. 0 < length (merge rule ps w).points) (walks (partner rule ps) (length ps))
      (λ w r. merge_long w (subst (λ (v : List ℕ). 0 < length v) (sym r.starts) (omega arith)) r.inside)
      (walks_proper (length ps) (partner rule ps) (partner_joins rule ps)))

pub good_join : (ls : List Line) (rule : Rule) (ps : List Piece) → Good ls ps → Good ls (join rule ps)
good_join ls rule ps g =
    record {
      sound = join_sound rule ps ls g.sound;
      long = join_long rule ps g.long;
      low = λ k h. g.low k (omega (arith, join_count rule ps k));
    }

-- ---- what keys ask

-- the group of a line
line_group : (ps : List Point) (cs gs ks : List ℕ) (k : ℕ) → k < length cs → (get_or (lines ps cs gs ks) k no_line).group ≡ get_or gs k 0
unfolding lines
line_group ps [] gs ks k h = absurd (omega arith)
line_group ps (c ∷ cs) gs ks zero h = refl
line_group ps (c ∷ cs) gs ks (suc k) h = line_group (drop c ps) cs (drop 1 gs) (drop 1 ks) k (omega arith) ∙ one_on gs k
  where
    one_on : (l : List ℕ) (i : ℕ) → get_or (drop 1 l) i 0 ≡ get_or l (suc i) 0
    one_on [] i = refl
    one_on (a ∷ l) i = refl

-- a piece's line is among all
in_all : (ps : List Piece) (q y : ℕ) → q < length ps → 0 < count y (get_or ps q nothing).lines → 0 < count y (lines_of ps)
unfolding flat_map
in_all [] q y h c = absurd (omega arith)
in_all (p ∷ ps) zero y h c = omega (arith, count_append y p.lines (lines_of ps))
in_all (p ∷ ps) (suc q) y h c = omega (arith, count_append y p.lines (lines_of ps), in_all ps q y (omega arith) c)

pub good_grouped : (coordinates : List Point) (counts groups kinds : List ℕ) (ps : List Piece) → length groups ≡ length counts
    → Good (lines coordinates counts groups kinds) ps → OneGroup groups ps
good_grouped coordinates counts groups kinds ps n g =
    record {
      line = λ q h. omega (arith, first_low q h);
      long = λ q h. each_get_d (λ p. 0 < length p.points) ps q nothing g.long h;
      group = λ q h.
          let s = each_get_d (Sound ls) ps q nothing g.sound h in
          sym (line_group coordinates counts groups kinds (first q) (first_low q h)) ∙ s.grouped (first q) (count_at (get_or ps q nothing).lines 0 s.full);
    }
  where
    ls : List Line
    ls = lines coordinates counts groups kinds

    first : ℕ → ℕ
    first q = get_or (get_or ps q nothing).lines 0 0

    first_low : (q : ℕ) → q < length ps → first q < length counts
    first_low q h =
        let s = each_get_d (Sound ls) ps q nothing g.sound h in
        omega (arith, g.low (first q) (in_all ps q (first q) h (count_at (get_or ps q nothing).lines 0 s.full)), lines_length coordinates counts groups kinds)
