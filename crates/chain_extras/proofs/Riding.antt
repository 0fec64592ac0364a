-- The extras ride along: every point of a chain is a point of one of its members, extras and all.
-- Joining takes whole points and makes none, and a chain's lines are those of the pieces that its points are taken from.
use Prim.Native.Nat.{ℕ, zero, suc, ◌+◌, ◌≤◌, ◌<◌}
use mathlib.Core.Path.{◌≡◌, refl, sym, ap, subst, ◌∙◌}
use mathlib.Core.Bool.{Bool, true, false, cond, beq}
use mathlib.Core.List.{List, [], ◌∷◌, ◌++◌, flat_map, reverse, reverse-append, append-nil}
use mathlib.Core.Option.{Option, none, some}
use native.Mathlib.Omega.{arith}
use lib.Dec.{eqb}
use lib.Ieee.{lt}
use lib.ListN.{length, get_or}
use Rattle.rules.specs.declared.Settings.{Settings}
use Rattle.rules.specs.Answers.{Exact}
use Rattle.rules.specs.Lists.{count}
use Rattle.rules.specs.Plane.{Point, point, equal, nought}
use Rattle.rules.specs.Walking.{piece_of, side_of, walks}
use Rattle.rules.specs.Chaining.{cells_of, Piece, nothing, Rule, lay, piece_at, run, partner, merged, merge, join, Line, plain, alone, pieces, rule_of, round_one, round_two, chains}
use Rattle.chain_laws.proofs.Counts.{Each, nil, cons, each_append, each_map, each_weak, each_get_d, each_of, count_append, one_same}
use Rattle.chain_laws.proofs.Lines.{pieces_take, pieces_leave}
use Rattle.chain_laws.proofs.Sound.{no_line}
use Rattle.chain_extras.specs.Bare.{own_points, From}

-- ---- what each point has

module _ (P : Point → Type 0) where
  pub each_reverse : (l : List Point) → Each P l → Each P (reverse l)
  each_reverse l nil = nil
  each_reverse l (cons {a = p} {l = m} h a) = rw (reverse-append (p ∷ []) m) (each_append (each_reverse m a) (cons h nil))

  pub each_lay : (o : Option Point) (l : List Point) → Each P l → Each P (lay o l)
  unfolding lay
  each_lay none l nil = nil
  each_lay (some q) l nil = nil
  each_lay none l (cons {a = p} {l = m} h a) = cons h (each_lay (some p) m a)
  each_lay (some q) l (cons {a = p} {l = m} h a) = go (equal q p) (each_lay (some q) m a) (each_lay (some p) m a)
    where
      go : (t : Bool) → Each P (lay (some q) m) → Each P (lay (some p) m) → Each P (elim t [ true ↦ lay (some q) m | false ↦ p ∷ lay (some p) m ])
      go true x y = x
      go false x y = cons h y

-- ---- points of lines

module _ (ls : List Line) where
  -- a piece's points are its lines'
  abbrev Owned : Piece → Type 0
  Owned c = Each (From ls c.lines) c.points

  -- in a list that has as much
  more : (m n : List ℕ) → ((y : ℕ) → count y m ≤ count y n) → (p : Point) → From ls m p → From ls n p
  more m n h p f =
      record { line = f.line; place = f.place; member = omega (arith, h f.line, f.member); within = f.within; same = f.same }

  -- ---- a round

  module _ (rule : Rule) (ps : List Piece) (owned : Each Owned ps) where
    owned_at : (qs : List Piece) (i : ℕ) → Each Owned qs → Owned (get_or qs i nothing)
    owned_at qs i nil = nil
    owned_at qs zero (cons h a) = h
    owned_at qs (suc i) (cons {l = rs} h a) = owned_at rs i a

    piece_owned : (e : ℕ) → Owned (piece_at rule ps e)
    unfolding piece_at
    piece_owned e = owned_at ps (piece_of e) owned

    run_owned : (e : ℕ) → Each (From ls (piece_at rule ps e).lines) (run rule ps e)
    unfolding run
    run_owned e = go (eqb (side_of e) 0)
      where
        go : (t : Bool) → Each (From ls (piece_at rule ps e).lines) (cond t (piece_at rule ps e).points (reverse (piece_at rule ps e).points))
        go true = piece_owned e
        go false = each_reverse (From ls (piece_at rule ps e).lines) (piece_at rule ps e).points (piece_owned e)

    abbrev lines_on : List ℕ → List ℕ
    lines_on w = flat_map (λ e. (piece_at rule ps e).lines) w

    runs_owned : (w : List ℕ) → Each (From ls (lines_on w)) (flat_map (run rule ps) w)
    unfolding flat_map
    runs_owned [] = nil
    runs_owned (e ∷ w) =
        let m = (piece_at rule ps e).lines in
        let n = lines_on w in
        each_append
        (each_weak (From ls m) (From ls (m ++ n)) (run rule ps e) (more m (m ++ n) (λ y. omega (arith, count_append y m n))) (run_owned e))
        (each_weak (From ls n) (From ls (m ++ n)) (flat_map (run rule ps) w) (more n (m ++ n) (λ y. omega (arith, count_append y m n))) (runs_owned w))

    merge_owned : (w : List ℕ) → Owned (merge rule ps w)
    unfolding merge merged flat_map
    merge_owned [] = nil
    merge_owned (e ∷ []) = subst (λ (m : List ℕ). Each (From ls m) (piece_at rule ps e).points) (sym (append-nil (piece_at rule ps e).lines)) (piece_owned e)
    merge_owned (e ∷ f ∷ w) =
        each_lay (From ls (lines_on (e ∷ f ∷ w))) none (flat_map (run rule ps) (e ∷ f ∷ w)) (runs_owned (e ∷ f ∷ w))

    all_owned : (ws : List (List ℕ)) → Each (λ w. Owned (merge rule ps w)) ws
    all_owned [] = nil
    all_owned (w ∷ ws) = cons (merge_owned w) (all_owned ws)

    join_owned : Each Owned (join rule ps)
    unfolding join
    join_owned = each_map (merge rule ps) Owned (walks (partner rule ps) (length ps)) (all_owned (walks (partner rule ps) (length ps)))

  -- ---- a call

  alone_owned : (k : ℕ) (l : Line) → get_or ls k no_line ≡ l → Owned (alone k l)
  unfolding alone count
  alone_owned k l h =
      each_of (From ls (k ∷ [])) l.points (point 0 0)
      (λ j b. record {
        line = k;
        place = j;
        member = omega (arith, one_same k k refl);
        within = subst (λ (m : Line). j < length m.points) (sym h) b;
        same = ap (λ (m : Line). get_or m.points j (point 0 0)) (sym h);
      })

  pieces_owned : (want : Bool) (k : ℕ) (ms : List Line) → ((i : ℕ) → get_or ls (k + i) no_line ≡ get_or ms i no_line) → Each Owned (pieces want k ms)
  unfolding pieces
  pieces_owned want k [] h = nil
  pieces_owned want k (l ∷ ms) h =
      go (beq want (plain l)) refl (pieces_owned want (suc k) ms (λ i. ap (λ (m : ℕ). get_or ls m no_line) (omega arith) ∙ h (suc i)))
    where
      go : (t : Bool) → beq want (plain l) ≡ t → Each Owned (pieces want (suc k) ms) → Each Owned (pieces want k (l ∷ ms))
      go true e ih = rw (pieces_take want k l ms e) (cons (alone_owned k l (ap (λ (m : ℕ). get_or ls m no_line) (omega arith) ∙ h 0)) ih)
      go false e ih = rw (pieces_leave want k l ms e) ih

  two_owned : (s : Settings) (ps : List Piece) → Each Owned ps → Each Owned (round_two s ps)
  unfolding round_two
  two_owned s ps a = go (lt nought s.tolerance)
    where
      go : (t : Bool) → Each Owned (elim t [ true ↦ join (rule_of (cells_of s) s) ps | false ↦ ps ])
      go true = join_owned (rule_of (cells_of s) s) ps a
      go false = a

  pub chains_owned : (s : Settings) → Each (λ (c : Piece). Each (From ls c.lines) c.points) (chains s ls)
  unfolding chains round_one
  chains_owned s =
      each_append
      (two_owned s (round_one s (pieces true 0 ls))
      (join_owned (rule_of Exact s) (pieces true 0 ls) (pieces_owned true 0 ls (λ i. ap (λ (m : ℕ). get_or ls m no_line) (omega arith)))))
      (pieces_owned false 0 ls (λ i. ap (λ (m : ℕ). get_or ls m no_line) (omega arith)))

  -- THE EXTRAS RIDE ALONG: every point of a chain is a point of one of its members, extras and all
  pub merged_from : (s : Settings) (k j : ℕ) → k < length (chains s ls) → let c = get_or (chains s ls) k nothing in
      j < length c.points → From ls c.lines (get_or c.points j (point 0 0))
  merged_from s k j b h =
      let c = get_or (chains s ls) k nothing in
      each_get_d (From ls c.lines) c.points j (point 0 0) (each_get_d Owned (chains s ls) k nothing (chains_owned s) b) h

  -- what holds of the points of every line holds of those of every chain
  pub chains_all : (P : Point → Type 0) → ((k : ℕ) → Each P (own_points ls k)) → (s : Settings) → Each (λ (c : Piece). Each P c.points) (chains s ls)
  chains_all P h s =
      each_weak Owned (λ (c : Piece). Each P c.points) (chains s ls)
      (λ c o. each_weak (From ls c.lines) P c.points
      (λ p f. subst P (sym f.same) (each_get_d P (own_points ls f.line) f.place (point 0 0) (h f.line) f.within)) o)
      (chains_owned s)
