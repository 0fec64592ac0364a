-- Refusal 9, one end after another.
use Prim.Native.Nat.{ℕ, suc, ◌+◌, ◌*◌, ◌≤◌, ◌<◌}
use mathlib.Core.Path.{◌≡◌, ◌∙◌, ap, ap₂}
use mathlib.Core.Bool.{Bool, true, false, not, ◌&&◌}
use mathlib.Core.List.{List, ◌∷◌}
use native.Mathlib.Omega.{arith}
use lib.Dec.{eqb}
use lib.Ieee.{Float, nan}
use lib.Ieee.Scale.{finite}
use lib.ListN.{length, drop, get_or, drop_of_length-le}
use lib.Seq.{drop-cons}
use Rattle.rules.specs.Refusals.{any_wild}

-- an end is present with a direction that isn't finite
abbrev pub wild_end : ℕ → Float → Float → Bool
wild_end mark x y = eqb mark 1 && not (finite x && finite y)

wild_yes : (mark : ℕ) (l : List ℕ) (x y : Float) (ways : List Float) → wild_end mark x y ≡ true → any_wild (mark ∷ l) (x ∷ y ∷ ways) ≡ true
unfolding any_wild
wild_yes mark l x y ways e = rw (e, any_wild)

wild_no : (mark : ℕ) (l : List ℕ) (x y : Float) (ways : List Float) → wild_end mark x y ≡ false → any_wild (mark ∷ l) (x ∷ y ∷ ways) ≡ any_wild l ways
unfolding any_wild
wild_no mark l x y ways e = rw (e, any_wild)

module _ (marks : List ℕ) (ways : List Float) (i : ℕ) (h : i < length marks) (k : i * 2 + 1 < length ways) where
  end_cons : any_wild (drop i marks) (drop (i * 2) ways)
      ≡ any_wild (get_or marks i 0 ∷ drop (i + 1) marks) (get_or ways (i * 2) nan ∷ get_or ways (i * 2 + 1) nan ∷ drop ((i + 1) * 2) ways)
  end_cons =
      let next : suc i ≡ i + 1 = omega arith in
      let second : suc (i * 2) ≡ i * 2 + 1 = omega arith in
      let further : suc (i * 2 + 1) ≡ (i + 1) * 2 = omega arith in
      ap₂ any_wild
      (drop-cons marks i 0 h ∙ ap (λ (n : ℕ). get_or marks i 0 ∷ drop n marks) next)
      (drop-cons ways (i * 2) nan (omega arith)
      ∙ ap (λ (n : ℕ). get_or ways (i * 2) nan ∷ drop n ways) second
      ∙ ap (λ (l : List Float). get_or ways (i * 2) nan ∷ l)
      (drop-cons ways (i * 2 + 1) nan k ∙ ap (λ (n : ℕ). get_or ways (i * 2 + 1) nan ∷ drop n ways) further))

  pub wild_here : wild_end (get_or marks i 0) (get_or ways (i * 2) nan) (get_or ways (i * 2 + 1) nan) ≡ true → any_wild (drop i marks) (drop (i * 2) ways) ≡ true
  wild_here e = end_cons ∙ wild_yes (get_or marks i 0) (drop (i + 1) marks) (get_or ways (i * 2) nan) (get_or ways (i * 2 + 1) nan) (drop ((i + 1) * 2) ways) e

  pub wild_step : wild_end (get_or marks i 0) (get_or ways (i * 2) nan) (get_or ways (i * 2 + 1) nan) ≡ false
      → any_wild (drop i marks) (drop (i * 2) ways) ≡ any_wild (drop (i + 1) marks) (drop ((i + 1) * 2) ways)
  wild_step e = end_cons ∙ wild_no (get_or marks i 0) (drop (i + 1) marks) (get_or ways (i * 2) nan) (get_or ways (i * 2 + 1) nan) (drop ((i + 1) * 2) ways) e

pub wild_none : (marks : List ℕ) (ways : List Float) (i : ℕ) → length marks ≤ i → any_wild (drop i marks) (drop (i * 2) ways) ≡ false
unfolding any_wild
wild_none marks ways i h = rw (drop_of_length-le marks {i = i} h)
