-- Drawn pieces: each line has a mark, 0 or 1, and stands once in the listing. A line alone is drawn, and a walk over drawn pieces makes a drawn one: a mark
-- is a remainder by 2, and lines listed the other way round are the same lines.
use Prim.Native.Nat.{ℕ, ◌+◌, ◌%◌, ◌≤◌}
use mathlib.Core.Path.{◌≡◌, refl, sym, ap, ap₂, ◌∙◌}
use mathlib.Core.Bool.{Bool, true, false, cond}
use mathlib.Core.List.{List, [], ◌∷◌, map, flat_map, reverse, reverse-cons}
use native.Mathlib.Omega.{arith}
use lib.Dec.{eqb}
use lib.ListN.{length, length-append, length-map}
use Rattle.rules.specs.Lists.{count}
use Rattle.rules.specs.Walking.{side_of}
use Rattle.rules.specs.Chaining.{Piece, Rule, piece_at, passed, turned, merge, Line, alone}
use Rattle.chain_laws.proofs.Counts.{Each, nil, cons, each_append, count_append}
use Rattle.chain_laws.proofs.Totals.{same_length}

-- no number is above b
abbrev pub Low : ℕ → List ℕ → Type 0
Low b l = Each (λ x. x ≤ b) l

pub record Drawn (p : Piece) : Type 0 where
  pub marked : length p.marks ≡ length p.lines
  pub low : Low 1 p.marks
  pub passes : (y : ℕ) → count y p.listing ≡ count y p.lines

pub listing_long : (p : Piece) → Drawn p → length p.listing ≡ length p.lines
listing_long p d = same_length p.listing p.lines d.passes

pub alone_drawn : (k : ℕ) (l : Line) → Drawn (alone k l)
unfolding alone
alone_drawn k l = record { marked = refl; low = cons {a = 0} (omega arith) nil; passes = λ y. refl }

-- ---- one piece of a walk

pub count_reverse : (y : ℕ) (l : List ℕ) → count y (reverse l) ≡ count y l
unfolding count
count_reverse y [] = refl
count_reverse y (a ∷ l) = ap (count y) (reverse-cons a l) ∙ omega (arith, count_append y (reverse l) (a ∷ []), count_reverse y l)

remainders_low : (side : ℕ) (l : List ℕ) → Low 1 (map (λ mark. (mark + side) % 2) l)
remainders_low side [] = nil
remainders_low side (m ∷ l) = cons {a = (m + side) % 2} (omega arith) (remainders_low side l)

module _ (rule : Rule) (ps : List Piece) where
  pub passed_count : (y e : ℕ) → count y (passed rule ps e) ≡ count y (piece_at rule ps e).listing
  unfolding passed
  passed_count y e = go (eqb (side_of e) 0)
    where
      go : (t : Bool) → count y (cond t (piece_at rule ps e).listing (reverse (piece_at rule ps e).listing)) ≡ count y (piece_at rule ps e).listing
      go true = refl
      go false = count_reverse y (piece_at rule ps e).listing

  pub turned_long : (e : ℕ) → length (turned rule ps e) ≡ length (piece_at rule ps e).marks
  unfolding turned
  turned_long e = length-map (piece_at rule ps e).marks (λ mark. (mark + side_of e) % 2)

  turned_low : (e : ℕ) → Low 1 (turned rule ps e)
  unfolding turned
  turned_low e = remainders_low (side_of e) (piece_at rule ps e).marks

  -- ---- a walk

  marks_long : (w : List ℕ) → Each (λ e. Drawn (piece_at rule ps e)) w → length (flat_map (turned rule ps) w) ≡ length (flat_map (λ e. (piece_at rule ps e).lines) w)
  unfolding flat_map
  marks_long w nil = refl
  marks_long w (cons {a = e} {l = v} d a) =
      length-append (turned rule ps e) (flat_map (turned rule ps) v)
      ∙ ap₂ ◌+◌ (turned_long e ∙ d.marked) (marks_long v a)
      ∙ sym (length-append (piece_at rule ps e).lines (flat_map (λ e. (piece_at rule ps e).lines) v))

  pub marks_low : (w : List ℕ) → Low 1 (flat_map (turned rule ps) w)
  unfolding flat_map
  marks_low [] = nil
  marks_low (e ∷ w) = each_append (turned_low e) (marks_low w)

  pub listing_count : (y : ℕ) (w : List ℕ) → Each (λ e. Drawn (piece_at rule ps e)) w
      → count y (flat_map (passed rule ps) w) ≡ count y (flat_map (λ e. (piece_at rule ps e).lines) w)
  unfolding flat_map
  listing_count y w nil = refl
  listing_count y w (cons {a = e} {l = v} d a) =
      count_append y (passed rule ps e) (flat_map (passed rule ps) v)
      ∙ ap₂ ◌+◌ (passed_count y e ∙ d.passes y) (listing_count y v a)
      ∙ sym (count_append y (piece_at rule ps e).lines (flat_map (λ e. (piece_at rule ps e).lines) v))

  -- WHAT A WALK OVER DRAWN PIECES MAKES IS DRAWN
  pub merge_drawn : (w : List ℕ) → Each (λ e. Drawn (piece_at rule ps e)) w → Drawn (merge rule ps w)
  unfolding merge
  merge_drawn w a = record { marked = marks_long w a; low = marks_low w; passes = λ y. listing_count y w a }

-- ---- pieces one after another

pub marks_all : (ps : List Piece) → Each Drawn ps → length (flat_map (λ p. p.marks) ps) ≡ length (flat_map (λ p. p.lines) ps)
unfolding flat_map
marks_all ps nil = refl
marks_all ps (cons {a = p} {l = qs} d a) =
    length-append p.marks (flat_map (λ p. p.marks) qs) ∙ ap₂ ◌+◌ d.marked (marks_all qs a) ∙ sym (length-append p.lines (flat_map (λ p. p.lines) qs))

pub low_all : (ps : List Piece) → Each Drawn ps → Low 1 (flat_map (λ p. p.marks) ps)
unfolding flat_map
low_all ps nil = nil
low_all ps (cons {a = p} {l = qs} d a) = each_append d.low (low_all qs a)

pub listing_all : (ps : List Piece) → Each Drawn ps → (y : ℕ) → count y (flat_map (λ p. p.listing) ps) ≡ count y (flat_map (λ p. p.lines) ps)
unfolding flat_map
listing_all ps nil y = refl
listing_all ps (cons {a = p} {l = qs} d a) y =
    count_append y p.listing (flat_map (λ p. p.listing) qs)
    ∙ ap₂ ◌+◌ (d.passes y) (listing_all qs a y)
    ∙ sym (count_append y p.lines (flat_map (λ p. p.lines) qs))

pub listings_long : (ps : List Piece) → Each Drawn ps → length (flat_map (λ p. p.listing) ps) ≡ length (flat_map (λ p. p.lines) ps)
listings_long ps a = same_length (flat_map (λ p. p.listing) ps) (flat_map (λ p. p.lines) ps) (listing_all ps a)
