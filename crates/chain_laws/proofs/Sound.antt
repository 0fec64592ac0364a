-- Sound chains: each has a line, a mark for each line and all of them in its listing, and lines of one group; and a chain of one line has that line's own points.
-- A piece is sound where it is a line alone, and a walk over sound pieces makes a sound one: joined ends have one key, and a key tells its group.
use Prim.Native.Nat.{ℕ, zero, suc, ◌+◌, ◌≤◌, ◌<◌, zero-le}
use mathlib.Core.Path.{◌≡◌, refl, sym, ap, ◌∙◌, subst}
use mathlib.Core.Bool.{Bool, true, false, beq}
use mathlib.Core.List.{List, [], ◌∷◌, map, flat_map, append-nil, head-eq_of_cons-eq}
use mathlib.Core.Option.{some}
use native.Mathlib.Omega.{arith}
use native.Mathlib.Decide.{ℕ_discrete}
use lib.Ieee.{lt}
use lib.ListN.{length, get_or, length-append}
use Rattle.rules.specs.declared.Settings.{Settings}
use Rattle.std.specs.Prelude.{Some}
use Rattle.rules.specs.Answers.{Grid}
use Rattle.rules.specs.Answers.{Exact, Cells}
use Rattle.rules.specs.Lists.{count}
use Rattle.rules.specs.Plane.{Point, nought, exact_key, cell_key, key_of}
use Rattle.rules.specs.Walking.{piece_of, other, walks}
use Rattle.rules.specs.Chaining.{cells_of, Piece, Rule, nothing, piece_at, key_at, merged, merge, join, partner, Line, plain, alone, pieces, round_one, round_two, chains, rule_of}
use Rattle.chain_laws.proofs.Counts.{Each, nil, cons, each_append, each_map, each_weak, each_get_d, one_same, one_other, count_append}
use Rattle.chain_laws.proofs.Ends.{other_piece}
use Rattle.chain_laws.proofs.Forward.{Goes, free, ring, next}
use Rattle.chain_laws.proofs.Walks.{Proper, walks_proper}
use Rattle.chain_laws.proofs.Lines.{pieces_take, pieces_leave}
use Rattle.chain_laws.proofs.Partners.{partner_joins, partner_key}
use Rattle.chain_laws.proofs.Drawn.{Drawn, alone_drawn, merge_drawn}

abbrev pub no_line : Line
no_line = record { points = []; group = 0; kind = 0 }

pub record Sound (ls : List Line) (p : Piece) : Type 0 where
  pub full : 0 < length p.lines
  pub drawn : Drawn p
  pub own : (k : ℕ) → p.lines ≡ k ∷ [] → p.points ≡ (get_or ls k no_line).points
  pub grouped : (k : ℕ) → 0 < count k p.lines → (get_or ls k no_line).group ≡ p.group

-- a key tells its group
pub key_tells : (grid : Grid) (g h : ℕ) (a b : Point) → key_of grid g a ≡ key_of grid h b → g ≡ h
unfolding key_of exact_key cell_key
key_tells Exact g h a b q = cc
key_tells (Some m) g h a b q = cc

module _ (rule : Rule) (ps : List Piece) where
  same_piece : (e f : ℕ) → piece_of e ≡ piece_of f → piece_at rule ps e ≡ piece_at rule ps f
  unfolding piece_at
  same_piece e f h = ap (λ (i : ℕ). get_or ps i nothing) h

  partner_group : (e f : ℕ) → partner rule ps e ≡ some f → (piece_at rule ps e).group ≡ (piece_at rule ps f).group
  unfolding key_at
  partner_group e f h = key_tells rule.grid _ _ _ _ (partner_key rule ps e f h)

  -- the pieces of a walk share a group
  pub walk_group : (h g : ℕ) (w : List ℕ) → Goes (partner rule ps) h w → (piece_at rule ps (get_or w 0 0)).group ≡ g
      → Each (λ x. (piece_at rule ps x).group ≡ g) w
  walk_group h g w (free j) q = cons q nil
  walk_group h g w (ring j) q = cons q nil
  walk_group h g w (next {e} {f} {w = w'} j r) q =
      cons q
      (walk_group h g (f ∷ w') r
      (sym (partner_group (other e) f j) ∙ ap (λ (p : Piece). p.group) (same_piece (other e) e (other_piece e)) ∙ q))

  module _ (ls : List Line) (sound : Each (Sound ls) ps) where
    pieces_sound : (w : List ℕ) → ((x : ℕ) → 0 < count x (map piece_of w) → x < length ps) → Each (λ e. Sound ls (piece_at rule ps e)) w
    unfolding count piece_at
    pieces_sound [] h = nil
    pieces_sound (e ∷ w) h =
        cons (each_get_d (Sound ls) ps (piece_of e) nothing sound (h (piece_of e) (omega (arith, one_same (piece_of e) (piece_of e) refl))))
        (pieces_sound w (λ x i. h x (omega arith)))

    lines_long : (w : List ℕ) → Each (λ e. Sound ls (piece_at rule ps e)) w → length w ≤ length (flat_map (λ e. (piece_at rule ps e).lines) w)
    unfolding flat_map
    lines_long w nil = zero-le
    lines_long w (cons {a = e} {l = v} s a) =
        omega (arith, length-append (piece_at rule ps e).lines (flat_map (λ e. (piece_at rule ps e).lines) v), s.full, lines_long v a)

    lines_group : (g : ℕ) (w : List ℕ) → Each (λ e. Sound ls (piece_at rule ps e)) w → Each (λ x. (piece_at rule ps x).group ≡ g) w
        → (k : ℕ) → 0 < count k (flat_map (λ e. (piece_at rule ps e).lines) w) → (get_or ls k no_line).group ≡ g
    unfolding flat_map count
    lines_group g w nil nil k h = absurd (omega arith)
    lines_group g w (cons {a = e} {l = v} s a) (cons q b) k h =
        go (count k (piece_at rule ps e).lines) refl
        (λ i. lines_group g v a b k i)
      where
        go : (m : ℕ) → count k (piece_at rule ps e).lines ≡ m
            → (0 < count k (flat_map (λ e. (piece_at rule ps e).lines) v) → (get_or ls k no_line).group ≡ g)
            → (get_or ls k no_line).group ≡ g
        go zero z ih = ih (omega (arith, count_append k (piece_at rule ps e).lines (flat_map (λ e. (piece_at rule ps e).lines) v)))
        go (suc m) z ih = s.grouped k (omega arith) ∙ q

    merge_own : (w : List ℕ) → 0 < length w → Each (λ e. Sound ls (piece_at rule ps e)) w
        → (k : ℕ) → (merge rule ps w).lines ≡ k ∷ [] → (merge rule ps w).points ≡ (get_or ls k no_line).points
    unfolding merge merged flat_map
    merge_own [] h a k q = absurd (omega arith)
    merge_own (e ∷ []) h (cons s a) k q = s.own k (sym (append-nil (piece_at rule ps e).lines) ∙ q)
    merge_own (e ∷ f ∷ w) h a k q = absurd (omega (arith, lines_long (e ∷ f ∷ w) a, ap length q))

    merge_sound : (w : List ℕ) → Proper (length ps) (partner rule ps) w → Sound ls (merge rule ps w)
    unfolding merge
    merge_sound w r =
        let a = pieces_sound w r.inside in
        let l : 0 < length w = subst (λ (v : List ℕ). 0 < length v) (sym r.starts) (omega arith) in
        record {
          full = omega (arith, lines_long w a);
          drawn = merge_drawn rule ps w (each_weak (λ e. Sound ls (piece_at rule ps e)) (λ e. Drawn (piece_at rule ps e)) w (λ e s. s.drawn) a);
          own = merge_own w l a;
          grouped = lines_group (piece_at rule ps (get_or w 0 0)).group w a
              (walk_group r.head (piece_at rule ps (get_or w 0 0)).group w r.goes refl);
        }

    pub join_sound : Each (Sound ls) (join rule ps)
    unfolding join
    join_sound =
        each_map (merge rule ps) (Sound ls) (walks (partner rule ps) (length ps))
        (each_weak (Proper (length ps) (partner rule ps)) (λ w. Sound ls (merge rule ps w))
        (walks (partner rule ps) (length ps)) merge_sound (walks_proper (length ps) (partner rule ps) (partner_joins rule ps)))

-- ---- a call

alone_sound : (all : List Line) (k : ℕ) (l : Line) → get_or all k no_line ≡ l → Sound all (alone k l)
unfolding alone count
alone_sound all k l q =
    record {
      full = omega arith;
      drawn = alone_drawn k l;
      own = λ j h. sym (ap (λ (i : ℕ). (get_or all i no_line).points) (head-eq_of_cons-eq (sym h)) ∙ ap (λ (l : Line). l.points) q);
      grouped = λ j h. elim (ℕ_discrete j k) [
        | yes e ↦ ap (λ (i : ℕ). (get_or all i no_line).group) e ∙ ap (λ (l : Line). l.group) q
        | no e ↦ absurd (omega (arith, one_other j k e))
      ];
    }

pub alones : (all : List Line) (want : Bool) (k : ℕ) (ls : List Line) → ((i : ℕ) → get_or all (k + i) no_line ≡ get_or ls i no_line)
    → Each (Sound all) (pieces want k ls)
unfolding pieces
alones all want k [] h = nil
alones all want k (l ∷ ls) h =
    go (beq want (plain l)) refl
    (alones all want (suc k) ls (λ i. ap (λ (m : ℕ). get_or all m no_line) (omega arith) ∙ h (suc i)))
  where
    go : (t : Bool) → beq want (plain l) ≡ t → Each (Sound all) (pieces want (suc k) ls) → Each (Sound all) (pieces want k (l ∷ ls))
    go true e ih = rw (pieces_take want k l ls e) (cons (alone_sound all k l (ap (λ (m : ℕ). get_or all m no_line) (omega arith) ∙ h 0)) ih)
    go false e ih = rw (pieces_leave want k l ls e) ih

two_sound : (ls : List Line) (s : Settings) (ps : List Piece) → Each (Sound ls) ps → Each (Sound ls) (round_two s ps)
unfolding round_two
two_sound ls s ps a = go (lt nought s.tolerance) refl
  where
    go : (t : Bool) → lt nought s.tolerance ≡ t → Each (Sound ls) (round_two s ps)
    go true e =
        rw (e, round_two)
        (join_sound (rule_of (cells_of s) s) ps ls a)
    go false e = rw (e, round_two) a

-- EVERY CHAIN IS SOUND
pub chains_sound : (s : Settings) (ls : List Line) → Each (Sound ls) (chains s ls)
unfolding chains round_one
chains_sound s ls =
    each_append
    (two_sound ls s (round_one s (pieces true 0 ls))
    (join_sound (rule_of Exact s) (pieces true 0 ls) ls
    (alones ls true 0 ls (λ i. ap (λ (m : ℕ). get_or ls m no_line) (omega arith)))))
    (alones ls false 0 ls (λ i. ap (λ (m : ℕ). get_or ls m no_line) (omega arith)))

-- and so the listing of each has its members, each as often as it is one
pub chains_drawn : (s : Settings) (ls : List Line) → Each Drawn (chains s ls)
chains_drawn s ls = each_weak (Sound ls) Drawn (chains s ls) (λ p a. a.drawn) (chains_sound s ls)
