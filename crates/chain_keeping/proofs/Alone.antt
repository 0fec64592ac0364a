-- A walk of one piece, entered at its end 0, is the piece: nothing is turned and nothing is laid. So the walks of all pieces, each alone, are all pieces.
use Prim.Native.Nat.{ℕ, zero, suc, ◌+◌, ◌*◌, ◌/◌, ◌%◌, ◌≤◌, ◌<◌}
use mathlib.Core.Path.{◌≡◌, refl, sym, ap, ap₂, ◌∙◌, fun_ext}
use mathlib.Core.List.{[], List, ◌∷◌, ◌++◌, map, flat_map, flatten, append-nil, reverse}
use mathlib.Core.Bool.{cond}
use native.Mathlib.Omega.{arith}
use native.Mathlib.Numerals.{add-one}
use lib.Dec.{eqb}
use lib.ListN.{length, get_or, replicate}
use Rattle.rules.specs.Lists.{from, upto, total}
use Rattle.rules.specs.Plane.{Point}
use Rattle.rules.specs.Walking.{side_of}
use Rattle.rules.specs.Chaining.{Piece, Rule, nothing, piece_at, passed, turned, merged, merge}
use Rattle.chain_laws.proofs.Counts.{Each, nil, cons, upto_length}
use Rattle.chain_laws.proofs.Drawn.{Drawn}
use Rattle.chain_laws.proofs.Lines.{map_map, by_place, made_all}
use Rattle.chain_merging.specs.Emit.{points_in}
use Rattle.chain_keeping.specs.Keeping.{entries_of}

abbrev piece_with : List ℕ → List ℕ → List ℕ → List Point → ℕ → Piece
piece_with a b c d e = record { lines = a; marks = b; listing = c; points = d; group = e }

-- a mark of 0 or 1 is not turned by a round that enters at end 0
unturned : (e : ℕ) (l : List ℕ) → side_of e ≡ 0 → Each (λ m. m ≤ 1) l → map (λ mark. (mark + side_of e) % 2) l ≡ l
unturned e l s nil = refl
unturned e l s (cons {a = a} {l = r} h t) =
    let same : (a + side_of e) % 2 ≡ a = omega (arith, s) in
    ap₂ (λ (i : ℕ) (u : List ℕ). i ∷ u) same (unturned e r s t)

module _ (rule : Rule) (ps : List Piece) where
  piece_even : (q : ℕ) → piece_at rule ps (q * 2) ≡ get_or ps q nothing
  unfolding piece_at
  piece_even q = let e : q * 2 / 2 ≡ q = omega arith in ap (λ (i : ℕ). get_or ps i nothing) e

  even : (q : ℕ) → side_of (q * 2) ≡ 0
  even q = omega arith

  passed_even : (q : ℕ) → passed rule ps (q * 2) ≡ (piece_at rule ps (q * 2)).listing
  unfolding passed
  passed_even q = ap (λ (i : ℕ). cond (eqb i 0) (piece_at rule ps (q * 2)).listing (reverse (piece_at rule ps (q * 2)).listing)) (even q)

  turned_even : (q : ℕ) → Drawn (get_or ps q nothing) → turned rule ps (q * 2) ≡ (piece_at rule ps (q * 2)).marks
  unfolding turned
  turned_even q d = unturned (q * 2) (piece_at rule ps (q * 2)).marks (even q) (rw (piece_even q) d.low)

  alone_merged : (q : ℕ) → Drawn (get_or ps q nothing) → merge rule ps (q * 2 ∷ []) ≡ get_or ps q nothing
  unfolding merge merged flat_map
  alone_merged q d =
      let at = piece_at rule ps (q * 2) in
      ap₂ (λ (a b : List ℕ). piece_with a b (passed rule ps (q * 2) ++ []) at.points at.group) (append-nil at.lines) (append-nil (turned rule ps (q * 2)) ∙ turned_even q d)
      ∙ ap (λ (c : List ℕ). piece_with at.lines at.marks c at.points at.group) (append-nil (passed rule ps (q * 2)) ∙ passed_even q)
      ∙ piece_even q

  -- all of them
  abbrev pub alones : ℕ → List (List ℕ)
  alones m = map (λ q. q * 2 ∷ []) (upto m)

  pub alones_merged : ((q : ℕ) → q < length ps → Drawn (get_or ps q nothing)) → map (merge rule ps) (alones (length ps)) ≡ ps
  alones_merged drawn =
      map_map (merge rule ps) (λ q. q * 2 ∷ []) (upto (length ps)) ∙ made_all (λ q. merge rule ps (q * 2 ∷ [])) ps nothing (λ q b. alone_merged q (drawn q b))

  -- the points that are entered are all points
  pub alones_points : points_in rule ps (entries_of (length ps)) ≡ total (map (λ (p : Piece). length p.points) ps)
  alones_points =
      ap total
      (map_map (λ e. length (piece_at rule ps e).points) (λ q. q * 2) (upto (length ps))
      ∙ ap (λ (f : ℕ → ℕ). map f (upto (length ps))) (fun_ext λ q. ap (λ (p : Piece). length p.points) (piece_even q))
      ∙ sym (map_map (λ (p : Piece). length p.points) (λ q. get_or ps q nothing) (upto (length ps)))
      ∙ ap (map (λ (p : Piece). length p.points)) (by_place nothing ps))

-- ---- the walks as lists

flatten_alone : (l : List ℕ) → flatten (map (λ q. q * 2 ∷ []) l) ≡ map (λ q. q * 2) l
unfolding flatten
flatten_alone [] = refl
flatten_alone (a ∷ l) = ap {B = List ℕ} (λ t. a * 2 ∷ t) (flatten_alone l)

pub alones_entered : (m : ℕ) → flatten (map (λ q. q * 2 ∷ []) (upto m)) ≡ entries_of m
alones_entered m = flatten_alone (upto m)

ones : (k m : ℕ) → map length (map (λ q. q * 2 ∷ []) (from k m)) ≡ replicate m 1
unfolding from
ones k zero = refl
ones k (suc m) = ap {B = List ℕ} (λ t. 1 ∷ t) (ones (suc k) m)

pub alones_measured : (m : ℕ) → map length (map (λ q. q * 2 ∷ []) (upto m)) ≡ replicate m 1
unfolding upto
alones_measured m = ones 0 m

map_long : {A B : Type 0} (f : A → B) (l : List A) → length (map f l) ≡ length l
map_long f [] = refl
map_long f (a ∷ l) = ap suc (map_long f l)

pub alones_number : (m : ℕ) → length (map (λ q. q * 2 ∷ []) (upto m)) ≡ m
alones_number m = map_long (λ q. q * 2 ∷ []) (upto m) ∙ upto_length m

pub entries_number : (m : ℕ) → length (entries_of m) ≡ m
entries_number m = map_long (λ q. q * 2) (upto m) ∙ upto_length m

-- walk j has one entry, that of piece j
from_at : {A : Type 0} (g : ℕ → A) (d : A) (a n q : ℕ) → q < n → get_or (map g (from a n)) q d ≡ g (a + q)
unfolding from
from_at g d a zero q b = absurd (omega arith)
from_at g d a (suc n) zero b = let e : a ≡ a + 0 = omega arith in ap g e
from_at g d a (suc n) (suc q) b = let e : suc a + q ≡ a + suc q = omega arith in from_at g d (suc a) n q (omega arith) ∙ ap g e

pub entry_at : (m q : ℕ) → q < m → get_or (entries_of m) q 0 ≡ q * 2
unfolding upto
entry_at m q b = let e : 0 + q ≡ q = omega arith in from_at (λ q. q * 2) 0 0 m q b ∙ ap (λ (i : ℕ). i * 2) e

pub alone_filled : (m j : ℕ) → j < m → 0 < length (get_or (map (λ q. q * 2 ∷ []) (upto m)) j [])
unfolding upto
alone_filled m j b = let e = from_at {A = List ℕ} (λ q. q * 2 ∷ []) [] 0 m j b in rw e (omega arith)

-- one entry more
from_suc : (k n : ℕ) → map (λ q. q * 2) (from k (suc n)) ≡ map (λ q. q * 2) (from k n) ++ ((k + n) * 2 ∷ [])
unfolding from
from_suc k zero = let e : k ≡ k + 0 = omega arith in ap {B = List ℕ} (λ (i : ℕ). i * 2 ∷ []) e
from_suc k (suc n) =
    let e : suc k + n ≡ k + suc n = omega arith in
    ap {B = List ℕ} (λ (r : List ℕ). k * 2 ∷ r) (from_suc (suc k) n ∙ ap (λ (i : ℕ). map (λ q. q * 2) (from (suc k) n) ++ (i * 2 ∷ [])) e)

pub entries_next : (m : ℕ) → entries_of (m + 1) ≡ entries_of m ++ (m * 2 ∷ [])
unfolding upto
entries_next m = let e : 0 + m ≡ m = omega arith in rw add-one (from_suc 0 m ∙ ap (λ (i : ℕ). map (λ q. q * 2) (from 0 m) ++ (i * 2 ∷ [])) e)
