-- Lists that are made number by number: one number more is one part more at the end, and a part stands behind those of the numbers before.
use Prim.Native.Nat.{ℕ, zero, suc, ◌+◌, ◌*◌, ◌≤◌, ◌<◌}
use mathlib.Core.Path.{◌≡◌, refl, sym, ap, ◌∙◌}
use mathlib.Core.List.{[], List, ◌∷◌, ◌++◌, map, flat_map, append-nil, append_assoc}
use native.Mathlib.Decide.{ℕ_discrete}
use native.Mathlib.Omega.{arith}
use native.Mathlib.Numerals.{add-one}
use native.Mathlib.Nat.{zero-mul, suc-mul}
use lib.ListN.{length, get_or, take, drop, length-append}
use lib.Seq.{take_at, drop_at}
use Rattle.rules.specs.Lists.{from, upto}
use Rattle.chain_laws.proofs.Lines.{flat_map_append}
use Rattle.lent_laws.proofs.Tests.{upto_suc}

module _ (f : ℕ → List ℕ) where
  flat_suc : (q : ℕ) → flat_map f (upto (suc q)) ≡ flat_map f (upto q) ++ f q
  unfolding flat_map
  flat_suc q =
      ap (flat_map f) (upto_suc q) ∙ flat_map_append f (upto q) (q ∷ []) ∙ ap (λ (t : List ℕ). flat_map f (upto q) ++ t) (append-nil (f q))

  pub flat_next : (q : ℕ) → flat_map f (upto (q + 1)) ≡ flat_map f (upto q) ++ f q
  flat_next q = rw add-one (flat_suc q)

  pub flat_start : flat_map f (upto 0) ≡ []
  unfolding upto from flat_map
  flat_start = refl

  -- the parts of all numbers below k: those before q, that of q, and the rest
  pub record Split (q k : ℕ) : Type 0 where
    pub rest : List ℕ
    pub whole : flat_map f (upto k) ≡ flat_map f (upto q) ++ (f q ++ rest)

  pub split_at : (q k : ℕ) → q < k → Split q k
  split_at q zero b = absurd (omega arith)
  split_at q (suc k) b =
      elim (ℕ_discrete q k) [
        | yes e ↦
            record {
              rest = [];
              whole = flat_suc k ∙ ap (λ (i : ℕ). flat_map f (upto i) ++ f i) (sym e) ∙ ap (λ (t : List ℕ). flat_map f (upto q) ++ t) (sym (append-nil (f q)));
            }
        | no d ↦
            let s = split_at q k (omega arith) in
            record {
              rest = s.rest ++ f k;
              whole =
                  flat_suc k
                  ∙ ap (λ (t : List ℕ). t ++ f k) s.whole
                  ∙ append_assoc (flat_map f (upto q)) (f q ++ s.rest) (f k)
                  ∙ ap (λ (t : List ℕ). flat_map f (upto q) ++ t) (append_assoc (f q) s.rest (f k));
            }
      ]

  pub part_at_lem : (q k m n : ℕ) → q < k → length (flat_map f (upto q)) ≡ m → length (f q) ≡ n → take n (drop m (flat_map f (upto k))) ≡ f q
  part_at_lem q k m n b h c =
      let s = split_at q k b in
      ap (λ (t : List ℕ). take n (drop m t)) s.whole ∙ ap (take n) (drop_at (flat_map f (upto q)) (f q ++ s.rest) m h) ∙ take_at (f q) s.rest n c

  pub part_fits : (q k : ℕ) → q < k → length (flat_map f (upto q)) + length (f q) ≤ length (flat_map f (upto k))
  part_fits q k b =
      let s = split_at q k b in
      omega (arith, ap length s.whole, length-append (flat_map f (upto q)) (f q ++ s.rest), length-append (f q) s.rest)

  -- parts of one length
  pub parts_length : (n : ℕ) → ((q : ℕ) → length (f q) ≡ n) → (q : ℕ) → length (flat_map f (upto q)) ≡ q * n
  parts_length n h zero = ap length flat_start ∙ sym (zero-mul n)
  parts_length n h (suc q) = omega (arith, ap length (flat_suc q), length-append (flat_map f (upto q)) (f q), h q, parts_length n h q, suc-mul q n)

-- parts of two kinds that are as long as each other
pub same_length : (f g : ℕ → List ℕ) (k : ℕ) → ((q : ℕ) → q < k → length (f q) ≡ length (g q)) → length (flat_map f (upto k)) ≡ length (flat_map g (upto k))
same_length f g zero h = ap length (flat_start f) ∙ ap length (sym (flat_start g))
same_length f g (suc k) h =
    omega (
      arith,
      ap length (flat_suc f k),
      length-append (flat_map f (upto k)) (f k),
      ap length (flat_suc g k),
      length-append (flat_map g (upto k)) (g k),
      h k (omega arith),
      same_length f g k (λ q b. h q (omega arith)),
    )

-- what is made of number q
from_at : {A : Type 0} (g : ℕ → A) (d : A) (a n q : ℕ) → q < n → get_or (map g (from a n)) q d ≡ g (a + q)
unfolding from
from_at g d a zero q b = absurd (omega arith)
from_at g d a (suc n) zero b = let e : a ≡ a + 0 = omega arith in ap g e
from_at g d a (suc n) (suc q) b = let e : suc a + q ≡ a + suc q = omega arith in from_at g d (suc a) n q (omega arith) ∙ ap g e

pub made_at : {A : Type 0} (g : ℕ → A) (d : A) (k q : ℕ) → q < k → get_or (map g (upto k)) q d ≡ g q
unfolding upto
made_at g d k q b = let e : 0 + q ≡ q = omega arith in from_at g d 0 k q b ∙ ap g e
