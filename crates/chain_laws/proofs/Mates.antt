-- Mates: in a list of pairs in which no end stands twice, the mate of an end's mate is that end; and lists of pairs one after another.
use Prim.Native.Nat.{ℕ, ◌+◌, ◌≤◌, ◌<◌}
use mathlib.Core.Path.{◌≡◌, refl, sym, ap, ◌∙◌}
use mathlib.Core.Logic.{◌≢◌}
use mathlib.Core.List.{List, [], ◌∷◌, ◌++◌}
use mathlib.Core.Option.{Option, none, some}
use native.Mathlib.Omega.{arith}
use native.Mathlib.Decide.{ℕ_discrete}
use borrow.Author.Tests.{eq-eqb, ne_eqb}
use Rattle.rules.specs.Lists.{count}
use Rattle.rules.specs.Chaining.{mate}
use Rattle.chain_laws.proofs.Counts.{Each, cons, one_same, one_other}
use Rattle.chain_laws.proofs.Ends.{some_same, not_both}

-- all ends of a list of pairs
unfoldable pub names : List (ℕ × ℕ) → List ℕ
names [] = []
names (q ∷ l) = q.0 ∷ q.1 ∷ names l

pub mate_first : (e : ℕ) (q : ℕ × ℕ) (l : List (ℕ × ℕ)) → e ≡ q.0 → mate e (q ∷ l) ≡ some q.1
unfolding mate
mate_first e q l h = rw (eq-eqb e q.0 h, mate)

pub mate_second : (e : ℕ) (q : ℕ × ℕ) (l : List (ℕ × ℕ)) → e ≢ q.0 → e ≡ q.1 → mate e (q ∷ l) ≡ some q.0
unfolding mate
mate_second e q l d h = rw (ne_eqb e q.0 d, eq-eqb e q.1 h, mate)

pub mate_later : (e : ℕ) (q : ℕ × ℕ) (l : List (ℕ × ℕ)) → e ≢ q.0 → e ≢ q.1 → mate e (q ∷ l) ≡ mate e l
unfolding mate
mate_later e q l d h = rw (ne_eqb e q.0 d, ne_eqb e q.1 h, mate)

pub mate_in : (e f : ℕ) (l : List (ℕ × ℕ)) → mate e l ≡ some f → (0 < count e (names l)) × (0 < count f (names l))
unfolding mate names count
mate_in e f [] h = let z : ◌≡◌ {A = ℕ} 0 1 = cc in absurd (omega arith)
mate_in e f (q ∷ l) h =
    elim (ℕ_discrete e q.0) [
      | yes a ↦ (omega (arith, one_same e q.0 a), omega (arith, one_same f q.1 (some_same (mate e (q ∷ l)) f q.1 h (mate_first e q l a))))
      | no a ↦ elim (ℕ_discrete e q.1) [
        | yes b ↦ (omega (arith, one_same e q.1 b), omega (arith, one_same f q.0 (some_same (mate e (q ∷ l)) f q.0 h (mate_second e q l a b))))
        | no b ↦ (let r = mate_in e f l (sym (mate_later e q l a b) ∙ h) in (omega (arith, r.0), omega (arith, r.1)))
      ]
    ]

-- a list in which no end stands twice mates mutually
pub mate_mutual : (e f : ℕ) (l : List (ℕ × ℕ)) → ((x : ℕ) → count x (names l) ≤ 1) → mate e l ≡ some f → mate f l ≡ some e
unfolding mate names count
mate_mutual e f [] once h = let z : ◌≡◌ {A = ℕ} 0 1 = cc in absurd (omega arith)
mate_mutual e f (q ∷ l) once h =
    elim (ℕ_discrete e q.0) [
      | yes a ↦
          (let k : f ≡ q.1 = some_same (mate e (q ∷ l)) f q.1 h (mate_first e q l a) in
          mate_second f q l (λ d. omega (arith, once f, one_same f q.0 d, one_same f q.1 k)) k ∙ ap some (sym a))
      | no a ↦ elim (ℕ_discrete e q.1) [
        | yes b ↦
            (let k : f ≡ q.0 = some_same (mate e (q ∷ l)) f q.0 h (mate_second e q l a b) in
            mate_first f q l k ∙ ap some (sym b))
        | no b ↦
            (let k : mate e l ≡ some f = sym (mate_later e q l a b) ∙ h in
            let i = mate_in e f l k in
            mate_later f q l
            (λ d. omega (arith, once f, one_same f q.0 d, i.1))
            (λ d. omega (arith, once f, one_same f q.1 d, i.1))
            ∙ mate_mutual e f l (λ x. omega (arith, once x)) k)
      ]
    ]

-- what holds of each pair holds of two mates
pub mate_each : (P : ℕ → ℕ → Type 0) → ((a b : ℕ) → P a b → P b a) → (e f : ℕ) (l : List (ℕ × ℕ))
    → Each (λ (q : ℕ × ℕ). P q.0 q.1) l → mate e l ≡ some f → P e f
unfolding mate
mate_each P s e f [] a h = let z : ◌≡◌ {A = ℕ} 0 1 = cc in absurd (omega arith)
mate_each P s e f (q ∷ l) (cons t a) h =
    elim (ℕ_discrete e q.0) [
      | yes d ↦ rw (d, some_same (mate e (q ∷ l)) f q.1 h (mate_first e q l d)) t
      | no d ↦ elim (ℕ_discrete e q.1) [
        | yes b ↦ rw (b, some_same (mate e (q ∷ l)) f q.0 h (mate_second e q l d b)) (s q.0 q.1 t)
        | no b ↦ mate_each P s e f l a (sym (mate_later e q l d b) ∙ h)
      ]
    ]

pub mate_out : (e : ℕ) (l : List (ℕ × ℕ)) → count e (names l) ≡ 0 → mate e l ≡ none
mate_out e l h = go (mate e l) refl
  where
    go : (o : Option ℕ) → mate e l ≡ o → o ≡ none
    go none q = refl
    go (some f) q = absurd (omega (arith, (mate_in e f l q).0))

-- an end without a mate is in no pair
pub none_out : (e : ℕ) (l : List (ℕ × ℕ)) → mate e l ≡ none → count e (names l) ≡ 0
unfolding mate names count
none_out e [] h = refl
none_out e (q ∷ l) h =
    elim (ℕ_discrete e q.0) [
      | yes a ↦ absurd (not_both (mate e (q ∷ l)) q.1 h (mate_first e q l a))
      | no a ↦ elim (ℕ_discrete e q.1) [
        | yes b ↦ absurd (not_both (mate e (q ∷ l)) q.0 h (mate_second e q l a b))
        | no b ↦ omega (arith, one_other e q.0 a, one_other e q.1 b, none_out e l (sym (mate_later e q l a b) ∙ h))
      ]
    ]

pub names_append : (l m : List (ℕ × ℕ)) → names (l ++ m) ≡ names l ++ names m
unfolding names
names_append [] m = refl
names_append (q ∷ l) m = ap {B = List ℕ} (λ r. q.0 ∷ q.1 ∷ r) (names_append l m)

pub mate_right : (e : ℕ) (l m : List (ℕ × ℕ)) → count e (names l) ≡ 0 → mate e (l ++ m) ≡ mate e m
unfolding names count
mate_right e [] m h = refl
mate_right e (q ∷ l) m h =
    mate_later e q (l ++ m) (λ d. omega (arith, one_same e q.0 d)) (λ d. omega (arith, one_same e q.1 d))
    ∙ mate_right e l m (omega arith)

pub mate_left : (e : ℕ) (l m : List (ℕ × ℕ)) → count e (names m) ≡ 0 → mate e (l ++ m) ≡ mate e l
unfolding mate
mate_left e [] m h = mate_out e m h
mate_left e (q ∷ l) m h =
    elim (ℕ_discrete e q.0) [
      | yes a ↦ mate_first e q (l ++ m) a ∙ sym (mate_first e q l a)
      | no a ↦ elim (ℕ_discrete e q.1) [
        | yes b ↦ mate_second e q (l ++ m) a b ∙ sym (mate_second e q l a b)
        | no b ↦ mate_later e q (l ++ m) a b ∙ mate_left e l m h ∙ sym (mate_later e q l a b)
      ]
    ]
