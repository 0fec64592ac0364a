-- The front of the merged coordinates: a part of it has places only, where it has; and what is found of it.
use Prim.Native.Nat.{ℕ, zero, suc, ◌+◌, ◌*◌, ◌-◌, ◌≤◌, ◌<◌}
use mathlib.Core.Path.{◌≡◌, refl, sym, ap, ◌∙◌, subst}
use mathlib.Core.Bool.{Bool, true, false}
use mathlib.Core.List.{List, [], ◌∷◌}
use native.Mathlib.Omega.{arith}
use native.Mathlib.Nat.{add-mul, zero-mul, mul-le-mul_right}
use lib.Dec.{ltb}
use lib.ListN.{length, get_or, take, drop}
use lib.Seq.{take-take, length-take-le}
use borrow.Author.Tests.{eq-eqb, ne_eqb, lt-ltb, le-ltb, ltb-false}
use Rattle.rules.specs.Plane.{reads, points}
use Rattle.rules.specs.Refusals.{any_nowhere, piece_size}
use Rattle.point_numbers.specs.Width.{Whole}
use Rattle.point_numbers.proofs.Points.{points_exact}
use Rattle.lent_judging.specs.declared.Record.{Record}
use Rattle.lent_judging.specs.Judging.{points_bad}
use Rattle.lent_judging.specs.Front.{last_end, clean_to, FrontClean}
use Rattle.lent_judging.proofs.Pieces.{part_places}

-- ---- a part of the front

part_front : (a b k : ℕ) (l : List ℕ) → a + b ≤ k → take b (drop a (take k l)) ≡ take b (drop a l)
part_front zero b k l h = take-take b k l (omega arith)
part_front (suc a) b zero l h = absurd (omega arith)
part_front (suc a) b (suc k) [] h = refl
part_front (suc a) b (suc k) (x ∷ l) h = part_front a b k l (omega arith)

pub front_fine : (w : ℕ) (r : Record) (clean : ℕ) (merged : List ℕ) → 2 ≤ w → FrontClean w merged clean → r.source ≡ 1 → r.point + r.points ≤ clean
    → false ≡ points_bad w r merged
unfolding points_bad
front_fine w r clean merged two y e h =
    let fits : (r.point + r.points) * w ≤ clean * w = mul-le-mul_right w h in
    let front = take (clean * w) merged in
    let long : length front ≡ clean * w = length-take-le (clean * w) merged y.inside in
    rw (eq-eqb r.source 1 e, points_bad)
    (sym (ap (λ (t : List ℕ). any_nowhere (points w t)) (sym (part_front (r.point * w) (r.points * w) (clean * w) merged (omega (arith, add-mul r.point r.points w))))
    ∙ part_places w front r.point r.points two y.places (omega arith)))

-- ---- the last end

module _ (pieces : List ℕ) where
  pub last_start : last_end pieces 0 ≡ 0
  unfolding last_end
  last_start = refl

  last_suc_input : (q : ℕ) → get_or pieces (q * piece_size + 2) 0 ≡ 0 → last_end pieces (suc q) ≡ last_end pieces q
  unfolding last_end
  last_suc_input q e = rw (eq-eqb (get_or pieces (q * piece_size + 2) 0) 0 e, last_end)

  last_suc_merged : (q : ℕ) → (get_or pieces (q * piece_size + 2) 0 ≡ 0 → ⊥) → last_end pieces (suc q) ≡ get_or pieces (q * piece_size + 3) 0 + get_or pieces (q * piece_size + 4) 0
  unfolding last_end
  last_suc_merged q d = rw (ne_eqb (get_or pieces (q * piece_size + 2) 0) 0 d, last_end)

  back : (q : ℕ) → 0 < q → q ≡ suc (q - 1)
  back q h = omega arith

  -- the record before q has coordinates of the input, or merged ones
  pub last_input : (q : ℕ) → 0 < q → get_or pieces ((q - 1) * piece_size + 2) 0 ≡ 0 → last_end pieces (q - 1) ≡ last_end pieces q
  last_input q h e = sym (ap (last_end pieces) (back q h) ∙ last_suc_input (q - 1) e)

  pub last_merged : (q : ℕ) → 0 < q → (get_or pieces ((q - 1) * piece_size + 2) 0 ≡ 0 → ⊥)
      → get_or pieces ((q - 1) * piece_size + 3) 0 + get_or pieces ((q - 1) * piece_size + 4) 0 ≡ last_end pieces q
  last_merged q h d = sym (ap (last_end pieces) (back q h) ∙ last_suc_merged (q - 1) d)

-- ---- what is found

module _ (w : ℕ) (merged : List ℕ) (end : ℕ) where
  pub clean_short : length merged < end * w → 0 ≡ clean_to w merged end
  unfolding clean_to
  clean_short h = rw (lt-ltb (length merged) (end * w) h, clean_to)

  module _ (h : end * w ≤ length merged) where
    pub clean_none : {r : Bool} → r ≡ any_nowhere (points w (take (end * w) merged)) → r ≡ true → 0 ≡ clean_to w merged end
    unfolding clean_to
    clean_none e t = rw (le-ltb (length merged) (end * w) h, ← e, t, clean_to)

    pub clean_all : {r : Bool} → r ≡ any_nowhere (points w (take (end * w) merged)) → r ≡ false → end ≡ clean_to w merged end
    unfolding clean_to
    clean_all e t = rw (le-ltb (length merged) (end * w) h, ← e, t, clean_to)

  nothing_clean : 2 ≤ w → FrontClean w merged 0
  unfolding any_nowhere reads
  nothing_clean two =
      record {
        inside = omega arith;
        places = ap (λ (k : ℕ). any_nowhere (points w (take k merged))) (zero-mul w) ∙ ap any_nowhere (points_exact w 0 [] (omega arith) (sym (zero-mul w)));
      }

  -- WHAT IS FOUND CLEAN IS CLEAN
  pub clean_told : {r : ℕ} → 2 ≤ w → r ≡ clean_to w merged end → FrontClean w merged r
  unfolding clean_to
  clean_told {r} two e = subst (FrontClean w merged) (sym e) (go (ltb (length merged) (end * w)) refl)
    where
      looked : end * w ≤ length merged → (b : Bool) → any_nowhere (points w (take (end * w) merged)) ≡ b → FrontClean w merged (elim b [ true ↦ 0 | false ↦ end ])
      looked h true q = nothing_clean two
      looked h false q = record { inside = h; places = q }

      go : (b : Bool) → ltb (length merged) (end * w) ≡ b
          → FrontClean w merged (elim b [ true ↦ 0 | false ↦ elim (any_nowhere (points w (take (end * w) merged))) [ true ↦ 0 | false ↦ end ] ])
      go true q = nothing_clean two
      go false q = looked (ltb-false (length merged) (end * w) q) (any_nowhere (points w (take (end * w) merged))) refl
