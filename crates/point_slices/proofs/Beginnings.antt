-- Laws of `Holds`: a beginning made longer by a part or by one number, and a beginning that is the whole of what was to be written.
use Prim.Native.Nat.{ℕ, suc, ◌+◌, ◌<◌}
use mathlib.Core.Path.{◌≡◌, sym, ap, ap₂, ◌∙◌}
use mathlib.Core.List.{List, [], ◌∷◌, ◌++◌, append_assoc}
use native.Mathlib.Omega.{arith}
use native.Mathlib.Numerals.{add-one}
use lib.ListN.{length, drop, get_or, set, length-append}
use lib.Seq.{drop-cons, set_at}
use Rattle.rules.specs.Calls.{written}
use Rattle.point_slices.specs.Holds.{Holds, HoldsFrom}
use Rattle.point_slices.proofs.Laws.{holds_take, drop_beyond}

module _ {l' l out : List ℕ} {r : ℕ} (h : Holds l' l r out) where
  pub holds_more : {l'' x : List ℕ} {n : ℕ} → HoldsFrom l'' l' r n x → Holds l'' l (r + n) (out ++ x)
  holds_more {l''} {x} {n} s = record {
    count = omega (arith, h.count, s.count, length-append out x);
    list = s.list ∙ ap₂ (λ (a b : List ℕ). a ++ (x ++ b)) (holds_take h) (ap (drop (r + n)) h.list ∙ drop_beyond out l r (r + n) h.count (omega arith))
        ∙ sym (append_assoc out x (drop (r + n) l));
  }

  pub holds_set : r < length l → (v : ℕ) → Holds (set l' r v) l (r + 1) (out ++ (v ∷ []))
  holds_set k v = record {
    count = omega (arith, h.count, length-append out (v ∷ []));
    list = ap (λ (t : List ℕ). set t r v) (h.list ∙ ap (λ (t : List ℕ). out ++ t) (drop-cons l r 0 k))
        ∙ set_at out (get_or l r 0) (drop (suc r) l) v r (sym h.count)
        ∙ rw add-one (sym (append_assoc out (v ∷ []) (drop (suc r) l)));
  }

pub whole : {l' l out all : List ℕ} {r : ℕ} → Holds l' l r out → out ≡ all → l' ≡ written all l
unfolding written
whole {l'} {l} {out} {all} {r} h e = h.list ∙ ap (λ (n : ℕ). out ++ drop n l) h.count ∙ ap (λ (t : List ℕ). t ++ drop (length t) l) e
