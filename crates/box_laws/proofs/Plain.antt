-- For boxes as building leaves them the window question is the plain test of each chain's own box: each box above a box that meets the window meets it too.
use Prim.Native.Nat.{ℕ, zero, suc, ◌+◌, ◌-◌, ◌*◌, ◌/◌, ◌≤◌, ◌<◌}
use mathlib.Core.Path.{◌≡◌, refl, sym, ap, ap₂, ◌∙◌}
use mathlib.Core.Bool.{Bool, true, false, ◌&&◌}
use mathlib.Core.List.{List, [], ◌∷◌, ◌++◌, map, append_assoc}
use native.Mathlib.Omega.{arith}
use native.Mathlib.Decide.{dec_lt}
use borrow.Author.Tests.{le-ltb}
use lib.Dec.{T}
use lib.ListN.{length, drop, get_or, length-append, length-drop, length-map}
use lib.Seq.{drop-drop, drop_at}
use Rattle.rules.specs.declared.Box.{Box}
use Rattle.rules.specs.declared.Window.{Window}
use Rattle.rules.specs.Lists.{keep, upto}
use Rattle.rules.specs.Plane.{Point}
use Rattle.rules.specs.Boxes.{grown, box_of, in_pairs, levels, stacked, box_numbers, box_at}
use Rattle.rules.specs.Windows.{meets, shown, shown_up, seen, in_window}
use Rattle.chain_laws.proofs.Counts.{Each, each_map, each_weak}
use Rattle.box_laws.specs.Sound.{Places, BoxSound, Sounds}
use Rattle.box_laws.specs.Rows.{nth}
use Rattle.box_laws.proofs.Runs.{keep_same}
use Rattle.box_laws.proofs.Above.{up_top, up_more}
use Rattle.box_laws.proofs.Rows.{boxes_append, boxes_length, pairs_length, row_back, row_at}
use Rattle.box_laws.proofs.Levels.{levels_top, levels_more}
use Rattle.box_laws.proofs.Unions.{box_sound}
use Rattle.box_laws.proofs.Wider.{pairs_sound, meets_above}

-- ---- a box of a level that stands there

stands_at : (b : List ℕ) (at : ℕ) (l : List Box) (rest : List ℕ) → drop (at * 4) b ≡ box_numbers l ++ rest → (i : ℕ) → i < length l → box_at b (at + i) ≡ nth l i
stands_at b at l rest e i h = sym (row_at b at (length l) i h) ∙ ap (λ (x : List Box). nth x i) (row_back b at l rest e)

long : (b : List ℕ) (at : ℕ) (l : List Box) (rest : List ℕ) → drop (at * 4) b ≡ box_numbers l ++ rest → (i : ℕ) → i < length l → (at + i) * 4 + 4 ≤ length b
long b at l rest e i h = omega (arith, length-drop (at * 4) b, ap length e, length-append (box_numbers l) rest, boxes_length l)

shown_plain : (w : Window) (b : List ℕ) (at : ℕ) (l : List Box) (rest : List ℕ) → drop (at * 4) b ≡ box_numbers l ++ rest → (i : ℕ) → i < length l
    → shown w b (at + i) ≡ meets w (nth l i)
unfolding shown
shown_plain w b at l rest e i h = rw (le-ltb (length b) ((at + i) * 4 + 4) (long b at l rest e i h)) (ap (meets w) (stands_at b at l rest e i h))

-- ---- a test that follows from another adds nothing to it
and_follows : (a b : Bool) → (T a → T b) → a && b ≡ a
and_follows true true f = refl
and_follows true false f = absurd (f tt)
and_follows false b f = refl

-- ---- a level that stands there with all above it
up_plain : (w : Window) (b : List ℕ) (f at : ℕ) (l : List Box) (rest : List ℕ) → drop (at * 4) b ≡ box_numbers (levels f l) ++ rest → length l ≤ f → Sounds l
    → (i : ℕ) → i < length l → shown_up f w b at (length l) i ≡ meets w (nth l i)
up_plain w b zero at l rest e m s i h = absurd (omega arith)
up_plain w b (suc f) at l rest e m s i h = go (dec_lt 1 (length l)) (up_plain w b f (at + length l) (in_pairs l) rest)
  where
    go : Dec (1 < length l)
        → (drop ((at + length l) * 4) b ≡ box_numbers (levels f (in_pairs l)) ++ rest → length (in_pairs l) ≤ f → Sounds (in_pairs l)
        → (j : ℕ) → j < length (in_pairs l) → shown_up f w b (at + length l) (length (in_pairs l)) j ≡ meets w (nth (in_pairs l) j))
        → shown_up (suc f) w b at (length l) i ≡ meets w (nth l i)
    go (no k) r =
        let t : length l ≤ 1 = omega arith in
        up_top w b (suc f) at (length l) i t ∙ shown_plain w b at l rest (e ∙ ap {B = List ℕ} (λ (x : List Box). box_numbers x ++ rest) (levels_top (suc f) l t)) i h
    go (yes k) r =
        let n = length l in
        let p = pairs_length l in
        let two : drop (at * 4) b ≡ box_numbers l ++ (box_numbers (levels f (in_pairs l)) ++ rest) =
        e
        ∙ ap {B = List ℕ} (λ (x : List Box). box_numbers x ++ rest) (levels_more f l k)
        ∙ ap {B = List ℕ} (λ (x : List ℕ). x ++ rest) (boxes_append l (levels f (in_pairs l)))
        ∙ append_assoc (box_numbers l) (box_numbers (levels f (in_pairs l))) rest in
        let z : (at + n) * 4 ≡ at * 4 + n * 4 = omega arith in
        let next : drop ((at + n) * 4) b ≡ box_numbers (levels f (in_pairs l)) ++ rest =
        ap (λ (x : ℕ). drop x b) z
        ∙ sym (drop-drop (n * 4) (at * 4) b)
        ∙ ap (drop (n * 4)) two
        ∙ drop_at (box_numbers l) (box_numbers (levels f (in_pairs l)) ++ rest) (n * 4) (boxes_length l) in
        let above : shown_up f w b (at + n) ((n + 1) / 2) (i / 2) ≡ meets w (nth (in_pairs l) (i / 2)) =
        ap (λ (x : ℕ). shown_up f w b (at + n) x (i / 2)) (sym p) ∙ r next (omega arith) (pairs_sound l s) (i / 2) (omega arith) in
        up_more w b f at n i k
        ∙ ap₂ ◌&&◌ (shown_plain w b at l (box_numbers (levels f (in_pairs l)) ++ rest) two i h) above
        ∙ and_follows (meets w (nth l i)) (meets w (nth (in_pairs l) (i / 2))) (meets_above w l i s h)

-- ---- boxes as building leaves them, whatever lies beyond
pub stacked_plain : (w : Window) (l : List Box) (rest : List ℕ) → Sounds l
    → in_window w (box_numbers (stacked l) ++ rest) (length l) ≡ keep (λ i. meets w (nth l i)) (upto (length l))
unfolding in_window stacked
stacked_plain w l rest s =
    keep_same (seen w (box_numbers (levels (length l) l) ++ rest) 0 (length l)) (λ i. meets w (nth l i)) (length l)
    (λ i h. up_plain w (box_numbers (levels (length l) l) ++ rest) (length l) 0 l rest refl (omega arith) s i h)

nth_box : (ls : List (List Point)) (j : ℕ) → nth (map box_of ls) j ≡ box_of (get_or ls j [])
unfolding box_of grown
nth_box [] j = refl
nth_box (l ∷ ls) zero = refl
nth_box (l ∷ ls) (suc j) = nth_box ls j

-- A WINDOW QUESTION ON THE BOXES OF CHAINS OF PLACES LISTS THOSE WHOSE OWN BOX MEETS THE WINDOW
pub plain : (w : Window) (ls : List (List Point)) (rest : List ℕ) → Each Places ls
    → in_window w (box_numbers (stacked (map box_of ls)) ++ rest) (length ls) ≡ keep (λ j. meets w (box_of (get_or ls j []))) (upto (length ls))
plain w ls rest t =
    ap (in_window w (box_numbers (stacked (map box_of ls)) ++ rest)) (sym size)
    ∙ stacked_plain w (map box_of ls) rest (each_map box_of BoxSound ls (each_weak Places (λ l. BoxSound (box_of l)) ls box_sound t))
    ∙ ap (λ (n : ℕ). keep (λ i. meets w (nth (map box_of ls) i)) (upto n)) size
    ∙ keep_same (λ i. meets w (nth (map box_of ls) i)) (λ j. meets w (box_of (get_or ls j []))) (length ls) (λ i h. ap (meets w) (nth_box ls i))
  where
    size : length (map box_of ls) ≡ length ls
    size = length-map ls box_of
