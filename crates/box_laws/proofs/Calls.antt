-- What the record of the window question tells: an accepted call lists what the definition lists; on the boxes of chains of places these are the chains whose
-- coordinates' extent overlaps or touches the window; and two answers that satisfy one record are equal.
use Prim.Native.Nat.{ℕ}
use mathlib.Core.Path.{◌≡◌, sym, ap, ◌∙◌}
use mathlib.Core.List.{List, [], ◌++◌, map}
use lib.ListN.{length, get_or, take}
use lib.Seq.{take_at}
use Rattle.rules.specs.Answers.{Answer}
use Rattle.rules.specs.Answers.{Accepted}
use Rattle.rules.specs.declared.Window.{Window}
use Rattle.rules.specs.Lists.{keep, upto}
use Rattle.rules.specs.Plane.{Point}
use Rattle.rules.specs.Boxes.{box_of, stacked, box_numbers}
use Rattle.rules.specs.Calls.{unless, written}
use Rattle.rules.specs.Windows.{meets, in_window, LentBoxes, window_refusal_of, found_of, Windowed}
use Rattle.chain_laws.proofs.Counts.{Each, each_get_d}
use Rattle.pair_laws.proofs.Calls.{accepted}
use Rattle.box_laws.specs.Sound.{Places}
use Rattle.box_laws.specs.Spans.{spans}
use Rattle.box_laws.proofs.Plain.{plain}
use Rattle.box_laws.proofs.Runs.{keep_same}
use Rattle.box_laws.proofs.Spans.{meets_spans}

pub windowed_once : {i : LentBoxes} {r r' : Answer} {found₁ found₂ : List ℕ} → Windowed i r found₁ → Windowed i r' found₂ → (r ≡ r') × (found₁ ≡ found₂)
windowed_once a b = (a.answer ∙ sym b.answer, a.found ∙ sym b.found)

-- what an accepted call has written
pub windowed_lists : {i : LentBoxes} {n : ℕ} {found' : List ℕ} → Windowed i (Accepted n) found' → take n found' ≡ found_of i
unfolding unless written
windowed_lists {i} {n} {found'} c =
    let a = accepted (window_refusal_of i) (length (found_of i)) n (sym c.answer) in
    ap (take n) (c.found ∙ ap (λ (k : ℕ). unless k i.found (written (found_of i) i.found)) a.0) ∙ take_at (found_of i) _ n (sym a.1)

-- THE PLAIN TEST OF EVERY CHAIN'S COORDINATES
pub plain_test : (w : Window) (ls : List (List Point)) (rest : List ℕ) → Each Places ls
    → in_window w (box_numbers (stacked (map box_of ls)) ++ rest) (length ls) ≡ keep (λ j. spans w (get_or ls j [])) (upto (length ls))
plain_test w ls rest t =
    plain w ls rest t
    ∙ keep_same (λ j. meets w (box_of (get_or ls j []))) (λ j. spans w (get_or ls j [])) (length ls)
    (λ j h. meets_spans w (get_or ls j []) (each_get_d Places ls j [] t h))
