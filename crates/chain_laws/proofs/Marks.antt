-- Marks: `forward` with a mark for each piece is `forward` with the list of visited pieces, since entering a piece marks it and lists it.
use Prim.Native.Nat.{ℕ, zero, suc, ◌+◌, ◌-◌, ◌<◌}
use mathlib.Core.Path.{◌≡◌, refl, sym, ap, ◌∙◌}
use mathlib.Core.Bool.{Bool, true, false}
use mathlib.Core.List.{List, [], ◌∷◌, ◌++◌, map}
use mathlib.Core.Option.{Option, none, some}
use native.Mathlib.Omega.{arith}
use native.Mathlib.Decide.{ℕ_discrete}
use lib.Dec.{ltb, eqb}
use lib.ListN.{length, get_or, set, length-set}
use lib.Seq.{get_or-set_same, get_or-set_other}
use borrow.Author.Tests.{lt-ltb, eq-eqb}
use Rattle.rules.specs.Lists.{one, count, stands}
use Rattle.rules.specs.Walking.{piece_of, other, forward}
use Rattle.chain_laws.specs.Table.{decode, from_table, Table, forward_m, marked}
use Rattle.chain_laws.proofs.Counts.{count_append, one_same, one_other}

-- the marks of the n pieces are those of the list
abbrev pub Agree : ℕ → List ℕ → List ℕ → Type 0
Agree n m v = (x : ℕ) → x < n → eqb (get_or m x 0) 1 ≡ stands x v

pub agree_next : (n : ℕ) (m v : List ℕ) (a : ℕ) → length m ≡ n → a < n → Agree n m v → Agree n (set m a 1) (a ∷ v)
unfolding stands count
agree_next n m v a l b h x i =
    elim (ℕ_discrete x a) [
      | yes q ↦
          eq-eqb (get_or (set m a 1) x 0) 1 (ap (λ (j : ℕ). get_or (set m a 1) j 0) q ∙ get_or-set_same m a 1 0 (omega arith))
          ∙ sym (lt-ltb 0 (one (eqb x a) + count x v) (omega (arith, one_same x a q)))
      | no q ↦
          (let same : count x v ≡ one (eqb x a) + count x v = omega (arith, one_other x a q) in
          ap (λ (j : ℕ). eqb j 1) (get_or-set_other m a x 1 0 q) ∙ h x i ∙ ap (ltb 0) same)
    ]

named_some : (t : List ℕ) (n e f : ℕ) → Table n t → from_table t e ≡ some f → piece_of f < n
unfolding from_table decode
named_some t n e f h q = go (get_or t e 0) refl
  where
    go : (m : ℕ) → get_or t e 0 ≡ m → piece_of f < n
    go zero r = let z : ◌≡◌ {A = ℕ} 0 1 = cc (ap decode r) in absurd (omega arith)
    go (suc g) r =
        let s : g ≡ f = cc (ap decode r) in
        omega (arith, h.named e)

pub forward_m_forward : (t : List ℕ) (n : ℕ) → Table n t → (k : ℕ) (m v : List ℕ) (e : ℕ)
    → length m ≡ n → piece_of e < n → Agree n m v → forward_m t k m e ≡ forward (from_table t) k v e
unfolding forward_m forward
forward_m_forward t n g zero m v e l b h = refl
forward_m_forward t n g (suc k) m v e l b h =
    go (from_table t (other e)) refl
    (λ f i. forward_m_forward t n g k (set m (piece_of e) 1) (piece_of e ∷ v) f (length-set m (piece_of e) 1 ∙ l) i (agree_next n m v (piece_of e) l b h))
  where
    at : (f : ℕ) → from_table t (other e) ≡ some f → (s : Bool) → stands (piece_of f) (piece_of e ∷ v) ≡ s
        → forward_m t k (set m (piece_of e) 1) f ≡ forward (from_table t) k (piece_of e ∷ v) f
        → forward_m t (suc k) m e ≡ forward (from_table t) (suc k) v e
    at f q true s ih = rw (q, agree_next n m v (piece_of e) l b h (piece_of f) (named_some t n (other e) f g q) ∙ s, s)
    at f q false s ih =
        rw (q, agree_next n m v (piece_of e) l b h (piece_of f) (named_some t n (other e) f g q) ∙ s, s) (ap {B = List ℕ} (λ w. e ∷ w) ih)

    go : (o : Option ℕ) → from_table t (other e) ≡ o
        → ((f : ℕ) → piece_of f < n → forward_m t k (set m (piece_of e) 1) f ≡ forward (from_table t) k (piece_of e ∷ v) f)
        → forward_m t (suc k) m e ≡ forward (from_table t) (suc k) v e
    go none q ih = rw q
    go (some f) q ih = at f q (stands (piece_of f) (piece_of e ∷ v)) refl (ih f (named_some t n (other e) f g q))

-- ---- the marks after a walk

pub marked_length : (m w : List ℕ) → length (marked m w) ≡ length m
unfolding marked
marked_length m [] = refl
marked_length m (e ∷ w) = marked_length (set m (piece_of e) 1) w ∙ length-set m (piece_of e) 1

stands_same : (x : ℕ) (l m : List ℕ) → count x l ≡ count x m → stands x l ≡ stands x m
unfolding stands
stands_same x l m h = ap (ltb 0) h

-- are those of the pieces that it passed, and of those visited before
pub agree_walk : (n : ℕ) (m v w : List ℕ) → length m ≡ n → ((x : ℕ) → 0 < count x (map piece_of w) → x < n) → Agree n m v
    → Agree n (marked m w) (map piece_of w ++ v)
unfolding marked count
agree_walk n m v [] l b h x i = h x i
agree_walk n m v (e ∷ w) l b h x i =
    agree_walk n (set m (piece_of e) 1) (piece_of e ∷ v) w (length-set m (piece_of e) 1 ∙ l) (λ y j. b y (omega arith))
    (agree_next n m v (piece_of e) l (b (piece_of e) (omega (arith, one_same (piece_of e) (piece_of e) refl))) h) x i
    ∙ stands_same x (map piece_of w ++ (piece_of e ∷ v)) (piece_of e ∷ (map piece_of w ++ v))
    (omega (arith, count_append x (map piece_of w) (piece_of e ∷ v), count_append x (map piece_of w) v))
