-- Lines passed one by one: those that are wanted, the plain ones or those that pass through, as pieces. One line more is one piece more behind the
-- others, or none. A piece of these has one line and no copy.
use Prim.Native.Nat.{ℕ, zero, suc, ◌+◌, ◌≤◌, ◌<◌, zero-le}
use mathlib.Core.Path.{◌≡◌, refl, sym, ap, ap₂, ◌∙◌, subst}
use mathlib.Core.Bool.{Bool, true, false, ◌&&◌, beq}
use mathlib.Core.List.{List, [], ◌∷◌, ◌++◌, flat_map, append-nil}
use native.Mathlib.Omega.{arith}
use native.Mathlib.Nat.{add-zero}
use native.Mathlib.Numerals.{add-one, one-add}
use lib.Dec.{leb, eqb}
use lib.ListN.{length, get_or, take, drop, length-append, length-take, length-drop, take-append-drop}
use lib.Seq.{take-suc, length-take-le, get_or-drop, take_all}
use Rattle.rules.specs.Lists.{total}
use Rattle.rules.specs.Plane.{Point, points}
use Rattle.rules.specs.Chaining.{Piece, Line, plain, alone, pieces}
use Rattle.rules.specs.Layout.{lines, copy}
use Rattle.point_numbers.proofs.Points.{points_exact, reads_length}
use Rattle.build_lines.specs.Taken.{Adds}
use Rattle.chain_laws.proofs.Counts.{Each, nil, cons}
use Rattle.chain_laws.proofs.Totals.{total_append}
use Rattle.chain_laws.proofs.Lines.{pieces_take, pieces_leave}
use Rattle.chain_laws.proofs.Sound.{no_line}
use Rattle.chain_laws.proofs.Records.{line_at}
use Rattle.chain_pieces.specs.Held.{lines_of}
use Rattle.chain_pieces.proofs.Reading.{copy_none}

-- ---- the lines of two lists, one after the other

module _ (want : Bool) where
  pub pieces_append : (k : ℕ) (a b : List Line) → pieces want k (a ++ b) ≡ pieces want k a ++ pieces want (k + length a) b
  unfolding pieces
  pieces_append k [] b = ap (λ (i : ℕ). pieces want i b) (sym (add-zero k))
  pieces_append k (l ∷ a) b = go (beq want (plain l)) refl (pieces_append (suc k) a b ∙ ap (λ (i : ℕ). pieces want (suc k) a ++ pieces want i b) e)
    where
      e : suc k + length a ≡ k + suc (length a)
      e = omega arith

      go : (t : Bool) → beq want (plain l) ≡ t → pieces want (suc k) (a ++ b) ≡ pieces want (suc k) a ++ pieces want (k + suc (length a)) b
          → pieces want k (l ∷ (a ++ b)) ≡ pieces want k (l ∷ a) ++ pieces want (k + suc (length a)) b
      go true q ih = rw (pieces_take want k l (a ++ b) q, pieces_take want k l a q) (ap {B = List Piece} (λ r. alone k l ∷ r) ih)
      go false q ih = rw (pieces_leave want k l (a ++ b) q, pieces_leave want k l a q) ih

  -- what holds of each line alone holds of each piece
  pub every : (P : Piece → Type 0) (k : ℕ) (ls : List Line) → ((i : ℕ) → i < length ls → P (alone (k + i) (get_or ls i no_line))) → Each P (pieces want k ls)
  unfolding pieces
  every P k [] h = nil
  every P k (l ∷ ls) h = go (beq want (plain l)) refl (every P (suc k) ls (λ i b. subst (λ (j : ℕ). P (alone j (get_or ls i no_line))) (omega arith) (h (suc i) (omega arith))))
    where
      go : (t : Bool) → beq want (plain l) ≡ t → Each P (pieces want (suc k) ls) → Each P (pieces want k (l ∷ ls))
      go true e ih = rw (pieces_take want k l ls e) (cons (subst (λ (j : ℕ). P (alone j l)) (add-zero k) (h 0 (omega arith))) ih)
      go false e ih = rw (pieces_leave want k l ls e) ih

  pub pieces_few : (k : ℕ) (ls : List Line) → length (pieces want k ls) ≤ length ls
  unfolding pieces
  pieces_few k [] = zero-le
  pieces_few k (l ∷ ls) = go (beq want (plain l)) refl (pieces_few (suc k) ls)
    where
      go : (t : Bool) → beq want (plain l) ≡ t → length (pieces want (suc k) ls) ≤ length ls → length (pieces want k (l ∷ ls)) ≤ length (l ∷ ls)
      go true e ih = rw (pieces_take want k l ls e) (omega arith)
      go false e ih = rw (pieces_leave want k l ls e) (omega arith)

-- ---- pieces of one line

abbrev pub Lone : List Piece → Type 0
Lone ps = Each (λ p. length p.lines ≡ 1) ps

pub pieces_lone : (want : Bool) (k : ℕ) (ls : List Line) → Lone (pieces want k ls)
unfolding alone
pieces_lone want k ls = every want (λ p. length p.lines ≡ 1) k ls (λ i b. refl)

-- as many numbers as pieces, where each piece has one
pub ones_long : (f : Piece → List ℕ) (ps : List Piece) → Each (λ p. length (f p) ≡ 1) ps → length (flat_map f ps) ≡ length ps
unfolding flat_map
ones_long f ps nil = refl
ones_long f ps (cons {a = p} {l = qs} e a) = omega (arith, length-append (f p) (flat_map f qs), ones_long f qs a)

pub lone_lines : (ps : List Piece) → Lone ps → length (lines_of ps) ≡ length ps
lone_lines ps a = ones_long (λ p. p.lines) ps a

pub lone_copies : (ps : List Piece) → Lone ps → flat_map copy ps ≡ []
unfolding flat_map
lone_copies ps nil = refl
lone_copies ps (cons {a = p} {l = qs} e a) = rw (copy_none p e) (lone_copies qs a)

-- ---- the first k lines

abbrev pub passed : Bool → List Line → ℕ → List Piece
passed want ls k = pieces want 0 (take k ls)

pub passed_all : (want : Bool) (ls : List Line) (k : ℕ) → length ls ≤ k → passed want ls k ≡ pieces want 0 ls
passed_all want ls k h = ap (pieces want 0) (take_all k ls h)

pub passed_few : (want : Bool) (ls : List Line) (k : ℕ) → length (passed want ls k) ≤ length (pieces want 0 ls)
passed_few want ls k =
    omega (
      arith,
      ap (λ (l : List Line). length (pieces want 0 l)) (take-append-drop k ls),
      ap length (pieces_append want 0 (take k ls) (drop k ls)),
      length-append (passed want ls k) (pieces want (0 + length (take k ls)) (drop k ls)),
    )

module _ (want : Bool) (ls : List Line) (k : ℕ) (b : k < length ls) where
  one_more : passed want ls (k + 1) ≡ passed want ls k ++ pieces want k (get_or ls k no_line ∷ [])
  one_more =
      let e : 0 + length (take k ls) ≡ k = omega (arith, length-take-le k ls (omega arith)) in
      rw add-one
      (ap (pieces want 0) (take-suc ls k no_line b)
      ∙ pieces_append want 0 (take k ls) (get_or ls k no_line ∷ [])
      ∙ ap (λ (i : ℕ). passed want ls k ++ pieces want i (get_or ls k no_line ∷ [])) e)

  pub passed_one : beq want (plain (get_or ls k no_line)) ≡ true → passed want ls (k + 1) ≡ passed want ls k ++ (alone k (get_or ls k no_line) ∷ [])
  unfolding pieces
  passed_one e = one_more ∙ ap (λ (r : List Piece). passed want ls k ++ r) (pieces_take want k (get_or ls k no_line) [] e)

  pub passed_none : beq want (plain (get_or ls k no_line)) ≡ false → passed want ls (k + 1) ≡ passed want ls k
  unfolding pieces
  passed_none e =
      one_more ∙ ap (λ (r : List Piece). passed want ls k ++ r) (pieces_leave want k (get_or ls k no_line) [] e) ∙ append-nil (passed want ls k)

-- ---- the lines of a call

pub total_next : (cs : List ℕ) (k : ℕ) → k < length cs → total (take (k + 1) cs) ≡ total (take k cs) + get_or cs k 0
unfolding total
total_next cs k b = rw (add-one, take-suc cs k 0 b) (total_append (take k cs) (get_or cs k 0 ∷ []) ∙ ap (λ (i : ℕ). total (take k cs) + i) (add-zero (get_or cs k 0)))

pub total_part : (cs : List ℕ) (k : ℕ) → total (take k cs) ≤ total cs
total_part cs k = omega (arith, ap total (take-append-drop k cs), total_append (take k cs) (drop k cs))

kind_at : (ps : List Point) (cs gs ks : List ℕ) (k : ℕ) → k < length cs → (get_or (lines ps cs gs ks) k no_line).kind ≡ get_or ks k 0
unfolding lines
kind_at ps [] gs ks k b = absurd (omega arith)
kind_at ps (c ∷ cs) gs ks zero b = refl
kind_at ps (c ∷ cs) gs ks (suc k) b =
    kind_at (drop c ps) cs (drop 1 gs) (drop 1 ks) k (omega arith) ∙ get_or-drop 1 ks k 0 ∙ ap (λ (i : ℕ). get_or ks i 0) (one-add k)

-- whether line k is plain, by its kind and its coordinate count
abbrev pub plain_at : List ℕ → List ℕ → ℕ → Bool
plain_at counts kinds k = eqb (get_or kinds k 0) 0 && leb 2 (get_or counts k 0)

module _ (width : ℕ) (input counts groups kinds : List ℕ) (adds : Adds width counts input) where
  abbrev ls : List Line
  ls = lines (points width input) counts groups kinds

  many : length (points width input) ≡ total counts
  many =
      let o : 0 < width = omega (arith, adds.two) in
      ap length (points_exact width (total counts) input o (sym adds.sum)) ∙ reads_length width (total counts) input

  -- a line has as many points as it says
  pub points_at : (k : ℕ) → k < length counts → length (get_or ls k no_line).points ≡ get_or counts k 0
  points_at k b =
      ap length (line_at (points width input) counts groups kinds k)
      ∙ length-take (get_or counts k 0) (drop (total (take k counts)) (points width input))
      ∙ omega (
        arith,
        length-drop (total (take k counts)) (points width input),
        many,
        total_next counts k b,
        total_part counts (k + 1),
      )

  pub plain_at_lem : (k : ℕ) → k < length counts → plain (get_or ls k no_line) ≡ plain_at counts kinds k
  unfolding plain
  plain_at_lem k b = ap₂ (λ (i c : ℕ). eqb i 0 && leb 2 c) (kind_at (points width input) counts groups kinds k b) (points_at k b)
