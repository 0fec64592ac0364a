-- The outer ends of walks as a list: two for each walk, its entry and then its exit.
use Prim.Native.Nat.{ℕ, zero, suc, ◌+◌, ◌*◌, ◌<◌}
use mathlib.Core.Path.{◌≡◌, refl, ap, ◌∙◌}
use mathlib.Core.List.{List, [], ◌∷◌, ◌++◌}
use native.Mathlib.Omega.{arith}
use lib.ListN.{length, get_or}
use Rattle.chain_outer.specs.Outer.{entry_of, exit_of, outer_of}

pub outer_length : (ws : List (List ℕ)) → length (outer_of ws) ≡ 2 * length ws
unfolding outer_of
outer_length [] = refl
outer_length (es ∷ ws) = omega (arith, outer_length ws)

pub outer_entry : (ws : List (List ℕ)) (j : ℕ) → j < length ws → get_or (outer_of ws) (j * 2) 0 ≡ entry_of (get_or ws j [])
unfolding outer_of
outer_entry [] j h = absurd (omega arith)
outer_entry (es ∷ ws) zero h = refl
outer_entry (es ∷ ws) (suc j) h =
    let two : suc j * 2 ≡ suc (suc (j * 2)) = omega arith in
    ap (λ (i : ℕ). get_or (outer_of (es ∷ ws)) i 0) two ∙ outer_entry ws j (omega arith)

pub outer_exit : (ws : List (List ℕ)) (j : ℕ) → j < length ws → get_or (outer_of ws) (j * 2 + 1) 0 ≡ exit_of (get_or ws j [])
unfolding outer_of
outer_exit [] j h = absurd (omega arith)
outer_exit (es ∷ ws) zero h = refl
outer_exit (es ∷ ws) (suc j) h =
    let two : suc j * 2 + 1 ≡ suc (suc (j * 2 + 1)) = omega arith in
    ap (λ (i : ℕ). get_or (outer_of (es ∷ ws)) i 0) two ∙ outer_exit ws j (omega arith)

-- one walk more
pub outer_more : (ws : List (List ℕ)) (es : List ℕ) → outer_of (ws ++ (es ∷ [])) ≡ outer_of ws ++ (entry_of es ∷ exit_of es ∷ [])
unfolding outer_of
outer_more [] es = refl
outer_more (w ∷ ws) es = ap {B = List ℕ} (λ (l : List ℕ). entry_of w ∷ exit_of w ∷ l) (outer_more ws es)
