-- Ranks: the rank of a line is its place among its district's lines, so that it names it there.
use Prim.Native.Nat.{ℕ, zero, suc, ◌<◌}
use mathlib.Core.Path.{◌≡◌, refl, ap, ◌∙◌}
use mathlib.Core.Bool.{Bool, true, false}
use mathlib.Core.List.{List, [], ◌∷◌}
use native.Mathlib.Omega.{arith}
use lib.ListN.{length, get_or}
use Rattle.rules.specs.Districts.{is_of}
use Rattle.rules.specs.Chaining.{Line}
use Rattle.chain_laws.proofs.Kept.{keep_yes, keep_no}
use Rattle.chain_laws.proofs.Sound.{no_line}
use Rattle.chain_districts.specs.Districts.{district_lines, rank}
use Rattle.chain_districts.proofs.Chains.{rank_first, rank_own, rank_foreign}

module _ (d : ℕ) where
  in_own : (l : Line) (ls : List Line) → is_of d l.group ≡ true → district_lines d (l ∷ ls) ≡ l ∷ district_lines d ls
  unfolding district_lines
  in_own l ls e = keep_yes (λ (l : Line). is_of d l.group) l ls e

  in_foreign : (l : Line) (ls : List Line) → is_of d l.group ≡ false → district_lines d (l ∷ ls) ≡ district_lines d ls
  unfolding district_lines
  in_foreign l ls e = keep_no (λ (l : Line). is_of d l.group) l ls e

  -- A RANK NAMES ITS LINE AMONG THE DISTRICT'S
  pub rank_names : (ls : List Line) (x : ℕ) → x < length ls → is_of d (get_or ls x no_line).group ≡ true → get_or (district_lines d ls) (rank d ls x) no_line ≡ get_or ls x no_line
  rank_names [] x b h = absurd (omega arith)
  rank_names (l ∷ ls) zero b h =
      ap (λ (i : ℕ). get_or (district_lines d (l ∷ ls)) i no_line) (rank_first d (l ∷ ls)) ∙ ap (λ (m : List Line). get_or m 0 no_line) (in_own l ls h)
  rank_names (l ∷ ls) (suc x) b h = go (is_of d l.group) refl (rank_names ls x (omega arith) h)
    where
      go : (t : Bool) → is_of d l.group ≡ t → get_or (district_lines d ls) (rank d ls x) no_line ≡ get_or ls x no_line
          → get_or (district_lines d (l ∷ ls)) (rank d (l ∷ ls) (suc x)) no_line ≡ get_or ls x no_line
      go true e ih = rw (in_own l ls e, rank_own d l ls x e) ih
      go false e ih = rw (in_foreign l ls e, rank_foreign d l ls x e) ih
