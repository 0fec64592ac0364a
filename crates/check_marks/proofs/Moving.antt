-- The marks from the last on: each is made of itself and of the one before it, which are as they were.
use Prim.Native.Nat.{ℕ, suc, ◌-◌, ◌≤◌, ◌<◌}
use mathlib.Core.Path.{◌≡◌, refl, sym, ap, ap₂, ◌∙◌, subst}
use mathlib.Core.Bool.{Bool, true, false}
use mathlib.Core.List.{List}
use native.Mathlib.Decide.{ℕ_discrete}
use native.Mathlib.Omega.{arith}
use lib.Dec.{ltb}
use lib.ListN.{length, get_or, set, length-set}
use lib.Seq.{get_or-set_same, get_or-set_other}
use borrow.Author.Tests.{lt-ltb, le-ltb}
use Rattle.rules.specs.Plane.{Point}
use Rattle.check_laws.specs.Standing.{fresh_at}
use Rattle.check_marks.specs.Marks.{set_of, mark_here, mark_before, goes_on, moved}

-- ---- a mark that is looked at

pub here_yes : (marks : List ℕ) (end j : ℕ) → j < end → get_or marks j 0 ≡ mark_here marks end j
unfolding mark_here
here_yes marks end j h = rw (lt-ltb j end h, mark_here)

pub here_no : (marks : List ℕ) (end j : ℕ) → end ≤ j → 0 ≡ mark_here marks end j
unfolding mark_here
here_no marks end j h = rw (le-ltb j end h, mark_here)

pub before_yes : (marks : List ℕ) (low j : ℕ) → low < j → get_or marks (j - 1) 0 ≡ mark_before marks low j
unfolding mark_before
before_yes marks low j h = rw (lt-ltb low j h, mark_before)

pub before_no : (marks : List ℕ) (low j : ℕ) → j ≤ low → 0 ≡ mark_before marks low j
unfolding mark_before
before_no marks low j h = rw (le-ltb low j h, mark_before)

-- marks that are the same up to j
here_same : (a b : List ℕ) (end j : ℕ) → get_or a j 0 ≡ get_or b j 0 → mark_here a end j ≡ mark_here b end j
unfolding mark_here
here_same a b end j e = go (ltb j end)
  where
    go : (t : Bool) → ◌≡◌ {A = ℕ} (elim t [ true ↦ get_or a j 0 | false ↦ 0 ]) (elim t [ true ↦ get_or b j 0 | false ↦ 0 ])
    go true = e
    go false = refl

before_same : (a b : List ℕ) (low j : ℕ) → get_or a (j - 1) 0 ≡ get_or b (j - 1) 0 → mark_before a low j ≡ mark_before b low j
unfolding mark_before
before_same a b low j e = go (ltb low j)
  where
    go : (t : Bool) → ◌≡◌ {A = ℕ} (elim t [ true ↦ get_or a (j - 1) 0 | false ↦ 0 ]) (elim t [ true ↦ get_or b (j - 1) 0 | false ↦ 0 ])
    go true = e
    go false = refl

-- ---- from the last mark down to j

module _ (chain : List Point) (base low end drawn turned : ℕ) (drawnFits turnedFits : List Bool) (old : List ℕ) where
  pub record Moving (j : ℕ) (marks : List ℕ) : Type 0 where
    pub order : low ≤ j
    pub within : j ≤ suc end
    pub long : length marks ≡ 4096
    pub done : (i : ℕ) → j ≤ i → i ≤ end → get_or marks i 0 ≡ moved chain base low end drawn turned drawnFits turnedFits old i
    pub left : (i : ℕ) → i < j → get_or marks i 0 ≡ get_or old i 0

  module _ (j : ℕ) (marks : List ℕ) (m : Moving (suc j) marks) (h : low ≤ j) (inside : end < 4096) where
    -- the mark that is put there
    abbrev put : ℕ
    put =
        set_of
        (goes_on (get_or drawnFits (end - j) false) drawn (fresh_at chain (base - j)) (mark_here marks end j) (mark_before marks low j))
        (goes_on (get_or turnedFits (end - j) false) turned (fresh_at chain (base - j)) (mark_here marks end j) (mark_before marks low j))

    pub put_told : (fresh : Bool) (here before : ℕ) (as-drawn as-turned : Bool) (r : ℕ) → fresh ≡ fresh_at chain (base - j) → here ≡ mark_here marks end j
        → before ≡ mark_before marks low j → as-drawn ≡ goes_on (get_or drawnFits (end - j) false) drawn fresh here before
        → as-turned ≡ goes_on (get_or turnedFits (end - j) false) turned fresh here before → r ≡ set_of as-drawn as-turned → r ≡ put
    put_told fresh here before as-drawn as-turned r f h b d t e =
        e
        ∙ ap₂ set_of
        (d ∙ ap₂ (λ (x y : ℕ). goes_on (get_or drawnFits (end - j) false) drawn fresh x y) h b
        ∙ ap (λ (x : Bool). goes_on (get_or drawnFits (end - j) false) drawn x (mark_here marks end j) (mark_before marks low j)) f)
        (t ∙ ap₂ (λ (x y : ℕ). goes_on (get_or turnedFits (end - j) false) turned fresh x y) h b
        ∙ ap (λ (x : Bool). goes_on (get_or turnedFits (end - j) false) turned x (mark_here marks end j) (mark_before marks low j)) f)

    put_is : put ≡ moved chain base low end drawn turned drawnFits turnedFits old j
    unfolding moved
    put_is =
        ap₂
        (λ (x y : ℕ).
        set_of (goes_on (get_or drawnFits (end - j) false) drawn (fresh_at chain (base - j)) x y) (goes_on (get_or turnedFits (end - j) false) turned (fresh_at chain (base - j)) x y))
        (here_same marks old end j (m.left j (omega arith))) (before_same marks old low j (m.left (j - 1) (omega arith)))

    moving_put : Moving j (set marks j put)
    moving_put =
        record {
          order = h;
          within = omega (arith, m.within);
          long = length-set marks j put ∙ m.long;
          done = λ i a b.
              elim (ℕ_discrete i j) [
                | yes q ↦
                    ap (λ (n : ℕ). get_or (set marks j put) n 0) q ∙ get_or-set_same marks j put 0 (omega (arith, m.long, m.within)) ∙ put_is
                    ∙ ap (moved chain base low end drawn turned drawnFits turnedFits old) (sym q)
                | no q ↦ get_or-set_other marks j i put 0 q ∙ m.done i (later i q a) b
              ];
          left = λ i b. get_or-set_other marks j i put 0 (λ q. omega arith) ∙ m.left i (omega arith);
        }
      where
        later : (i : ℕ) → (i ≡ j → ⊥) → j ≤ i → suc j ≤ i
        later i q a = elim (native.Mathlib.Decide.dec_lt j i) [ yes y ↦ omega arith | no n ↦ absurd (q (omega arith)) ]

    pub moving_next : (r : ℕ) → r ≡ put → Moving j (set marks j r)
    moving_next r e = subst (λ (n : ℕ). Moving j (set marks j n)) (sym e) moving_put
