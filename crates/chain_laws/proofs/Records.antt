-- Records: record k of the table names chain k's members among the members, and its points among the merged ones or its own line's.
-- It is true because a record counts what the chains before it wrote, and what they wrote stands before.
use Prim.Native.Nat.{ℕ, zero, suc, ◌+◌, ◌-◌, ◌*◌}
use mathlib.Core.Path.{◌≡◌, refl, sym, ap, ap₂, ◌∙◌}
use mathlib.Core.Bool.{Bool, true, false}
use mathlib.Core.List.{List, [], ◌∷◌, ◌++◌, flat_map, append_assoc}
use native.Mathlib.Omega.{arith}
use native.Mathlib.Nat.{add-zero, zero-add, zero-mul, suc-mul}
use lib.ListN.{length, get_or, take, drop, length-append}
use lib.Seq.{take_at, drop_at, drop-drop}
use Rattle.rules.specs.Lists.{one, total}
use Rattle.rules.specs.Plane.{Point, flat}
use Rattle.rules.specs.Chaining.{Piece}
use Rattle.point_numbers.proofs.Points.{flat_append, flat_length}
use Rattle.rules.specs.Refusals.{piece_size, record_size}
use Rattle.rules.specs.Layout.{lines, copied, copy, loop, five, six, rows}
use Rattle.chain_laws.proofs.Lines.{flat_map_append}
use Rattle.chain_laws.proofs.Sound.{no_line}

-- what stands between two others
part : {A : Type 0} (a x b : List A) (m n : ℕ) → length a ≡ m → length x ≡ n → take n (drop m (a ++ (x ++ b))) ≡ x
part a x b m n h k = ap (take n) (drop_at a (x ++ b) m h) ∙ take_at x b n k

-- ---- the numbers of a record

pub five_length : (counts : List ℕ) (m c : ℕ) (p : Piece) → length (five counts m c p) ≡ piece_size
unfolding five
five_length counts m c p = go (copied p) refl
  where
    go : (t : Bool) → copied p ≡ t → length (five counts m c p) ≡ piece_size
    go true e = rw (e, five)
    go false e = rw (e, five)

pub six_length : (counts : List ℕ) (m c : ℕ) (p : Piece) → length (six counts m c p) ≡ record_size
unfolding six
six_length counts m c p = omega (arith, length-append (five counts m c p) (one (loop p.points) ∷ []), five_length counts m c p)

-- ---- records one after another, of any row

module _ (row : ℕ → ℕ → Piece → List ℕ) where
  -- those of some pieces, and those of the pieces behind them
  pub rows_append : (m c : ℕ) (a b : List Piece)
      → rows row m c (a ++ b) ≡ rows row m c a ++ rows row (m + length (flat_map (λ p. p.lines) a)) (c + length (flat_map copy a)) b
  unfolding rows flat_map
  rows_append m c [] b = ap₂ (λ (i j : ℕ). rows row i j b) (sym (add-zero m)) (sym (add-zero c))
  rows_append m c (p ∷ a) b =
      ap {B = List ℕ} (λ l. row m c p ++ l) (rows_append (m + length p.lines) (c + length (copy p)) a b)
      ∙ ap₂ (λ (i j : ℕ). row m c p ++ (rows row (m + length p.lines) (c + length (copy p)) a ++ rows row i j b))
      (omega (arith, length-append p.lines (flat_map (λ (p : Piece). p.lines) a)))
      (omega (arith, length-append (copy p) (flat_map copy a)))
      ∙ sym (append_assoc (row m c p) (rows row (m + length p.lines) (c + length (copy p)) a) _)

  -- from the first on
  pub rows_behind : (a b : List Piece)
      → rows row 0 0 (a ++ b) ≡ rows row 0 0 a ++ rows row (length (flat_map (λ p. p.lines) a)) (length (flat_map copy a)) b
  rows_behind a b =
      rows_append 0 0 a b
      ∙ ap₂ (λ (i j : ℕ). rows row 0 0 a ++ rows row i j b) (zero-add (length (flat_map (λ (p : Piece). p.lines) a))) (zero-add (length (flat_map copy a)))

  -- where all have one length
  module _ (size : ℕ) (long : (m c : ℕ) (p : Piece) → length (row m c p) ≡ size) where
    pub rows_length : (m c : ℕ) (ps : List Piece) → length (rows row m c ps) ≡ length ps * size
    unfolding rows
    rows_length m c [] = sym (zero-mul size)
    rows_length m c (p ∷ ps) =
        omega (
          arith,
          length-append (row m c p) (rows row (m + length p.lines) (c + length (copy p)) ps),
          long m c p,
          rows_length (m + length p.lines) (c + length (copy p)) ps,
          suc-mul (length ps) size,
        )

    -- record k is that of piece k
    pub row_at : (pre : List Piece) (p : Piece) (post : List Piece)
        → take size (drop (length pre * size) (rows row 0 0 (pre ++ (p ∷ post)))) ≡ row (length (flat_map (λ p. p.lines) pre)) (length (flat_map copy pre)) p
    unfolding rows
    row_at pre p post =
        ap (λ (l : List ℕ). take size (drop (length pre * size) l)) (rows_behind pre (p ∷ post))
        ∙ part (rows row 0 0 pre) (row (length (flat_map (λ p. p.lines) pre)) (length (flat_map copy pre)) p) _ (length pre * size) size
        (rows_length 0 0 pre) (long (length (flat_map (λ (p : Piece). p.lines) pre)) (length (flat_map copy pre)) p)

-- ---- what a record names

module _ (counts : List ℕ) (pre : List Piece) (p : Piece) (post : List Piece) where
  -- its members, its marks, its listing: what it has of a kind, n numbers, of which m stand before
  pub field_at : (f : Piece → List ℕ) (m n : ℕ) → length (flat_map f pre) ≡ m → length (f p) ≡ n → take n (drop m (flat_map f (pre ++ (p ∷ post)))) ≡ f p
  unfolding flat_map
  field_at f m n h k =
      ap (λ (l : List ℕ). take n (drop m l)) (flat_map_append f pre (p ∷ post)) ∙ part (flat_map f pre) (f p) (flat_map f post) m n h k

  -- its points, where they are copied
  pub copy_at : (w : ℕ) → copied p ≡ true
      → take (length p.points * w) (drop (length (flat_map copy pre) * w) (flat w (flat_map copy (pre ++ (p ∷ post))))) ≡ flat w p.points
  unfolding flat_map copy
  copy_at w h =
      ap (λ (l : List Point). take (length p.points * w) (drop (length (flat_map copy pre) * w) (flat w l))) (flat_map_append copy pre (p ∷ post))
      ∙ ap (λ (l : List ℕ). take (length p.points * w) (drop (length (flat_map copy pre) * w) l))
      (flat_append w (flat_map copy pre) (copy p ++ flat_map copy post) ∙ ap (λ (l : List ℕ). flat w (flat_map copy pre) ++ l) (flat_append w (copy p) (flat_map copy post)))
      ∙ part (flat w (flat_map copy pre)) (flat w (copy p)) (flat w (flat_map copy post)) _ _ (flat_length w (flat_map copy pre))
      (flat_length w (copy p) ∙ ap (λ (l : List Point). length l * w) own)
      ∙ ap (flat w) own
    where
      own : copy p ≡ p.points
      own = rw (h, copy)

-- a line's own points, where they are not
pub line_at : (ps : List Point) (cs gs ks : List ℕ) (k : ℕ)
    → (get_or (lines ps cs gs ks) k no_line).points ≡ take (get_or cs k 0) (drop (total (take k cs)) ps)
unfolding lines total
line_at ps [] gs ks k = refl
line_at ps (c ∷ cs) gs ks zero = refl
line_at ps (c ∷ cs) gs ks (suc k) = line_at (drop c ps) cs (drop 1 gs) (drop 1 ks) k ∙ ap (take (get_or cs k 0)) (drop-drop (total (take k cs)) c ps)
