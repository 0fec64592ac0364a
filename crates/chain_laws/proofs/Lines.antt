-- Lines: every line stands in exactly one chain, and so the members are a permutation of the lines.
-- It is true because a sum over all walks has each piece once, so that a round keeps how often each line stands in its pieces; and a line is plain,
-- or it passes through.
use Prim.Native.Nat.{ℕ, zero, suc, ◌+◌, ◌≤◌, ◌<◌}
use mathlib.Core.Path.{◌≡◌, refl, sym, ap, ap₂, ◌∙◌, fun_ext}
use mathlib.Core.Bool.{Bool, true, false, beq}
use mathlib.Core.List.{List, [], ◌∷◌, ◌++◌, map, flat_map, flatten, map-append, append_assoc}
use native.Mathlib.Omega.{arith}
use lib.Ieee.{lt}
use lib.ListN.{length, get_or}
use Rattle.rules.specs.declared.Settings.{Settings}
use Rattle.rules.specs.Answers.{Exact}
use Rattle.rules.specs.Lists.{count, from, upto, total}
use Rattle.rules.specs.Plane.{nought}
use Rattle.rules.specs.Walking.{piece_of, walks}
use Rattle.rules.specs.Chaining.{cells_of, Piece, Rule, nothing, piece_at, merge, join, partner, Line, plain, alone, pieces, round_one, round_two, chains, rule_of}
use Rattle.chain_laws.proofs.Counts.{zero_of, count_append, upto_in, upto_out, upto_once}
use Rattle.chain_laws.proofs.Totals.{total_append, total_same}
use Rattle.chain_laws.proofs.Walks.{walks_count}
use Rattle.chain_laws.proofs.Partners.{partner_joins}

-- ---- how often y stands in lists laid end to end

module _ {A : Type 0} where
  count_flat_map : (y : ℕ) (f : A → List ℕ) (l : List A) → count y (flat_map f l) ≡ total (map (λ a. count y (f a)) l)
  unfolding flat_map count total
  count_flat_map y f [] = refl
  count_flat_map y f (a ∷ l) = omega (arith, count_append y (f a) (flat_map f l), count_flat_map y f l)

  pub flat_map_append : {B : Type 0} (f : A → List B) (s t : List A) → flat_map f (s ++ t) ≡ flat_map f s ++ flat_map f t
  unfolding flat_map
  flat_map_append f [] t = refl
  flat_map_append f (a ∷ s) t = rw (flat_map_append f s t, append_assoc)

  pub map_from : (f : ℕ → A) (k n : ℕ) → map f (from (suc k) n) ≡ map (λ i. f (suc i)) (from k n)
  unfolding from
  map_from f k zero = refl
  map_from f k (suc n) = ap {B = List A} (λ l. f (suc k) ∷ l) (map_from f (suc k) n)

  -- a list, element by element
  pub by_place : (d : A) (l : List A) → map (λ i. get_or l i d) (upto (length l)) ≡ l
  unfolding upto from
  by_place d [] = refl
  by_place d (a ∷ l) = ap {B = List A} (λ r. a ∷ r) (map_from (λ i. get_or (a ∷ l) i d) 0 (length l) ∙ by_place d l)

pub map_map : {A B C : Type 0} (g : B → C) (f : A → B) (l : List A) → map g (map f l) ≡ map (λ a. g (f a)) l
map_map g f [] = refl
map_map g f (a ∷ l) = ap {B = List _} (λ r. g (f a) ∷ r) (map_map g f l)

-- a list made number by number, each what stands there, is the list
made_from : {A : Type 0} (f : ℕ → A) (k : ℕ) (xs : List A) (d : A) → ((q : ℕ) → q < length xs → f (k + q) ≡ get_or xs q d) → map f (from k (length xs)) ≡ xs
unfolding from
made_from f k [] d h = refl
made_from {A} f k (x ∷ xs) d h =
    let z : k ≡ k + 0 = omega arith in
    ap₂ (λ (a : A) (t : List A). a ∷ t) (ap f z ∙ h 0 (omega arith))
    (made_from f (suc k) xs d (λ q b. let e : suc k + q ≡ k + suc q = omega arith in ap f e ∙ h (suc q) (omega arith)))

pub made_all : {A : Type 0} (f : ℕ → A) (xs : List A) (d : A) → ((q : ℕ) → q < length xs → f q ≡ get_or xs q d) → map f (upto (length xs)) ≡ xs
unfolding upto
made_all f xs d h = made_from f 0 xs d (λ q b. let e : 0 + q ≡ q = omega arith in ap f e ∙ h q b)

-- ---- a round keeps the lines

abbrev pub lines_of : List Piece → List ℕ
lines_of ps = flat_map (λ p. p.lines) ps

module _ (rule : Rule) (ps : List Piece) where
  module _ (g : Piece → ℕ) where
    weight : ℕ → ℕ
    weight i = g (get_or ps i nothing)

    -- the pieces of a walk, summed
    unfoldable pub along : List ℕ → ℕ
    along w = total (map (λ e. g (piece_at rule ps e)) w)

    along_flat : (ws : List (List ℕ)) → total (map along ws) ≡ total (map weight (map piece_of (flatten ws)))
    unfolding flatten total along weight piece_at
    along_flat [] = refl
    along_flat (w ∷ ws) =
        rw (map-append piece_of w (flatten ws), map-append weight (map piece_of w) (map piece_of (flatten ws)), total_append)
        (omega (arith, along_flat ws, ap total (map_map weight piece_of w)))

    -- summed over all walks, each piece counts once
    pub spread : total (map along (walks (partner rule ps) (length ps))) ≡ total (map g ps)
    unfolding weight
    spread =
        along_flat (walks (partner rule ps) (length ps))
        ∙ total_same weight (map piece_of (flatten (walks (partner rule ps) (length ps)))) (upto (length ps)) (walks_count (length ps) (partner rule ps) (partner_joins rule ps))
        ∙ ap total (sym (map_map g (λ i. get_or ps i nothing) (upto (length ps))))
        ∙ ap (λ (l : List Piece). total (map g l)) (by_place nothing ps)

  pub join_count : (y : ℕ) → count y (lines_of (join rule ps)) ≡ count y (lines_of ps)
  unfolding join merge along
  join_count y =
      count_flat_map y (λ p. p.lines) (map (merge rule ps) (walks (partner rule ps) (length ps)))
      ∙ ap total (map_map (λ p. count y p.lines) (merge rule ps) (walks (partner rule ps) (length ps)))
      ∙ ap (λ (f : List ℕ → ℕ). total (map f (walks (partner rule ps) (length ps))))
      (fun_ext λ w. count_flat_map y (λ e. (piece_at rule ps e).lines) w)
      ∙ spread (λ p. count y p.lines)
      ∙ sym (count_flat_map y (λ p. p.lines) ps)

-- ---- a call

pub pieces_take : (want : Bool) (k : ℕ) (l : Line) (ls : List Line) → beq want (plain l) ≡ true
    → pieces want k (l ∷ ls) ≡ alone k l ∷ pieces want (suc k) ls
unfolding pieces
pieces_take want k l ls h = rw (h, pieces)

pub pieces_leave : (want : Bool) (k : ℕ) (l : Line) (ls : List Line) → beq want (plain l) ≡ false
    → pieces want k (l ∷ ls) ≡ pieces want (suc k) ls
unfolding pieces
pieces_leave want k l ls h = rw (h, pieces)

-- a line is plain, or it passes through
pub pieces_count : (y k : ℕ) (ls : List Line)
    → count y (lines_of (pieces true k ls)) + count y (lines_of (pieces false k ls)) ≡ count y (from k (length ls))
unfolding pieces from flat_map count alone
pieces_count y k [] = refl
pieces_count y k (l ∷ ls) = go (plain l) refl (pieces_count y (suc k) ls)
  where
    go : (t : Bool) → plain l ≡ t
        → count y (lines_of (pieces true (suc k) ls)) + count y (lines_of (pieces false (suc k) ls)) ≡ count y (from (suc k) (length ls))
        → count y (lines_of (pieces true k (l ∷ ls))) + count y (lines_of (pieces false k (l ∷ ls))) ≡ count y (from k (length (l ∷ ls)))
    go true e ih =
        rw (pieces_take true k l ls (ap (beq true) e), pieces_leave false k l ls (ap (beq false) e)) (omega arith)
    go false e ih =
        rw (pieces_leave true k l ls (ap (beq true) e), pieces_take false k l ls (ap (beq false) e)) (omega arith)

two_count : (s : Settings) (ps : List Piece) (y : ℕ) → count y (lines_of (round_two s ps)) ≡ count y (lines_of ps)
unfolding round_two
two_count s ps y = go (lt nought s.tolerance) refl
  where
    go : (t : Bool) → lt nought s.tolerance ≡ t → count y (lines_of (round_two s ps)) ≡ count y (lines_of ps)
    go true e = rw (e, round_two) (join_count (rule_of (cells_of s) s) ps y)
    go false e = rw (e, round_two)

pub chains_count : (s : Settings) (ls : List Line) (y : ℕ) → count y (lines_of (chains s ls)) ≡ count y (upto (length ls))
unfolding chains round_one upto
chains_count s ls y =
    rw (flat_map_append (λ (p : Piece). p.lines) (round_two s (round_one s (pieces true 0 ls))) (pieces false 0 ls), count_append)
    (omega (
      arith,
      two_count s (round_one s (pieces true 0 ls)) y,
      join_count (rule_of Exact s) (pieces true 0 ls) y,
      pieces_count y 0 ls,
    ))

-- EVERY LINE STANDS IN EXACTLY ONE CHAIN, once, and nothing else does: the members are a permutation of 0 .. n - 1
pub in_one_chain : (s : Settings) (ls : List Line) (y : ℕ) → y < length ls → count y (lines_of (chains s ls)) ≡ 1
in_one_chain s ls y b = omega (arith, chains_count s ls y, upto_in (length ls) y b, upto_once (length ls) y)

pub no_other_line : (s : Settings) (ls : List Line) (y : ℕ) → length ls ≤ y → count y (lines_of (chains s ls)) ≡ 0
no_other_line s ls y b = chains_count s ls y ∙ zero_of (count y (upto (length ls))) λ i. omega (arith, upto_out (length ls) y i)
