-- Small numbers: the members, the listing and the records of pieces are below a bound where the lines and the points are. A record's numbers are
-- counts of what stands before it, and so no greater than the counts of everything.
use Prim.Native.Nat.{ℕ, ◌+◌, ◌≤◌, ◌<◌}
use mathlib.Core.Path.{◌≡◌, refl, ◌∙◌}
use mathlib.Core.Bool.{Bool, true, false}
use mathlib.Core.List.{List, [], ◌∷◌, map, flat_map}
use native.Mathlib.Omega.{arith}
use native.Mathlib.Decide.{ℕ_discrete}
use lib.Dec.{ltb}
use lib.ListN.{length, get_or, length-append}
use borrow.Author.Tests.{ltb-true, ltb-false}
use Rattle.rules.specs.Lists.{count, total}
use Rattle.rules.specs.Chaining.{Piece}
use Rattle.rules.specs.Layout.{copy, five, rows, piece_table}
use Rattle.chain_laws.proofs.Counts.{one_same, one_other, nil, cons, each_append}
use Rattle.chain_laws.proofs.Drawn.{Low}
use Rattle.chain_laws.proofs.Room.{size, copy_size}
use Rattle.chain_pieces.specs.Held.{lines_of, place_of}
use Rattle.chain_pieces.proofs.Reading.{five_own, five_copied}
use Rattle.build_lines.proofs.Passing.{total_part}

-- ---- members, and lines in the listing

none_above : (b : ℕ) (l : List ℕ) (x : ℕ) → b < x → Low b l → count x l ≡ 0
unfolding count
none_above b l x k nil = refl
none_above b l x k (cons {a = y} {l = m} h a) = omega (arith, one_other x y (λ e. omega arith), none_above b m x k a)

pub members_low : (n : ℕ) (l : List ℕ) → ((x : ℕ) → n < x → count x l ≡ 0) → Low n l
unfolding count
members_low n [] h = nil
members_low n (a ∷ l) h = cons (go (ltb n a) refl) (members_low n l (λ x b. omega (arith, h x b)))
  where
    go : (t : Bool) → ltb n a ≡ t → a ≤ n
    go true e = absurd (omega (arith, h a (ltb-true n a e), one_same a a refl))
    go false e = ltb-false n a e

-- a list that has the same numbers as a low one
pub low_same : (b : ℕ) (l l' : List ℕ) → ((y : ℕ) → count y l' ≡ count y l) → Low b l → Low b l'
low_same b l l' h a = members_low b l' (λ x k. h x ∙ none_above b l x k a)

-- ---- records

module _ (b : ℕ) (counts : List ℕ) (one : 1 ≤ b) (places : total counts ≤ b) where
  five_low : (m c : ℕ) (p : Piece) → m ≤ b → length p.lines ≤ b → c ≤ b → length p.points ≤ b → Low b (five counts m c p)
  five_low m c p h₁ h₂ h₃ h₄ =
      let zero-low : 0 ≤ b = omega arith in
      let place-low : place_of counts p ≤ b = omega (arith, total_part counts (get_or p.lines 0 0)) in
      elim (ℕ_discrete (length p.lines) 1) [
        | yes d ↦ rw (five_own counts m c p d) (cons h₁ (cons h₂ (cons zero-low (cons place-low (cons h₄ nil)))))
        | no d ↦ rw (five_copied counts m c p d) (cons h₁ (cons h₂ (cons one (cons h₃ (cons h₄ nil)))))
      ]

  pub table_low : (m c : ℕ) (ps : List Piece) → m + length (lines_of ps) ≤ b → c + total (map size ps) ≤ b → Low b (piece_table counts m c ps)
  unfolding rows flat_map total
  table_low m c [] h k = nil
  table_low m c (p ∷ ps) h k =
      let g : m + (length p.lines + length (lines_of ps)) ≤ b = omega (arith, length-append p.lines (lines_of ps)) in
      each_append
      (five_low m c p (omega arith) (omega arith) (omega arith) (omega arith))
      (table_low (m + length p.lines) (c + length (copy p)) ps (omega arith) (omega (arith, copy_size p)))
