-- Forward: from the head's entry on, each piece is entered once, and the walk ends at a free end or comes back to its first entry.
-- It is true because what is visited stays shut but for two ends: the first entry, and the end that leads to the next one. So a visited piece
-- that is met again can only be met at the first entry, and the fuel cannot run out before the pieces do.
use Prim.Native.Nat.{ℕ, zero, suc, ◌+◌, ◌≤◌, ◌<◌}
use mathlib.Core.Path.{◌≡◌, refl, sym, ap, ◌∙◌}
use mathlib.Core.Logic.{◌≢◌}
use mathlib.Core.Bool.{Bool, true, false}
use mathlib.Core.List.{List, [], ◌∷◌, map}
use mathlib.Core.Option.{Option, none, some}
use native.Mathlib.Omega.{arith}
use native.Mathlib.Decide.{ℕ_discrete}
use lib.ListN.{length}
use Rattle.rules.specs.Lists.{count, stands}
use Rattle.rules.specs.Walking.{piece_of, other, forward}
use Rattle.chain_laws.specs.Joins.{Joins}
use Rattle.chain_laws.proofs.Counts.{one_same, one_other, stands_true, stands_false, once_cons, below_cons, pigeon}
use Rattle.chain_laws.proofs.Ends.{other_piece, other_ne, two_ends, some_same, not_both}

-- c counts pieces. Each end of a counted piece leads to a counted one; in `Ajar`, or it is the end h; in `Open`, or it leads to the end e
abbrev pub Shut : (ℕ → Option ℕ) → (ℕ → ℕ) → Type 0
Shut p c = (g g' : ℕ) → p g ≡ some g' → 0 < c (piece_of g) → 0 < c (piece_of g')

abbrev pub Ajar : (ℕ → Option ℕ) → (ℕ → ℕ) → ℕ → Type 0
Ajar p c h = (g g' : ℕ) → p g ≡ some g' → 0 < c (piece_of g) → c (piece_of g') ≡ 0 → g ≡ h

abbrev pub Open : (ℕ → Option ℕ) → (ℕ → ℕ) → ℕ → ℕ → Type 0
Open p c h e = (g g' : ℕ) → p g ≡ some g' → 0 < c (piece_of g) → c (piece_of g') ≡ 0 → g' ≢ e → g ≡ h

-- A walk as 01 has it: from each entry to the other end, over the join to the next entry, until a free end, or back to the entry h
pub data Goes (p : ℕ → Option ℕ) (h : ℕ) : List ℕ → Type 0 where
  free : {e : ℕ} → p (other e) ≡ none → Goes p h (e ∷ [])
  ring : {e : ℕ} → p (other e) ≡ some h → Goes p h (e ∷ [])
  next : {e f : ℕ} {w : List ℕ} → p (other e) ≡ some f → Goes p h (f ∷ w) → Goes p h (e ∷ f ∷ w)

-- what a walk w from the entry e leaves, where v was visited before
pub record Walked (n : ℕ) (p : ℕ → Option ℕ) (h : ℕ) (v : List ℕ) (e : ℕ) (w : List ℕ) : Type 0 where
  pub ajar : Ajar p (λ x. count x (map piece_of w) + count x v) h
  pub once : (x : ℕ) → count x (map piece_of w) + count x v ≤ 1
  pub inside : (x : ℕ) → 0 < count x (map piece_of w) → x < n
  pub has : 0 < count (piece_of e) (map piece_of w)
  pub rest : List ℕ
  pub starts : w ≡ e ∷ rest
  pub goes : Goes p h w

module _ (n : ℕ) (p : ℕ → Option ℕ) (J : Joins n p) where
  -- the piece of e is visited now: what was open at e is open at the end that e leads on to
  open_step : (h e : ℕ) (v : List ℕ)
      → count (piece_of e) v ≡ 0
      → Open p (λ x. count x v) h e
      → ((g : ℕ) → p e ≡ some g → e ≢ h → 0 < count (piece_of g) v)
      → (f : ℕ) → ((g : ℕ) → p (other e) ≡ some g → g ≡ f)
      → Open p (λ x. count x (piece_of e ∷ v)) h f
  unfolding count
  open_step h e v fresh o came f lead g g' j i z d =
      elim (ℕ_discrete (piece_of g) (piece_of e)) [
        | no t ↦ o g g' j (omega (arith, one_other (piece_of g) (piece_of e) t)) (omega arith) (λ q. away (ap piece_of q))
        | yes t ↦ here t (ℕ_discrete g e)
      ]
    where
      away : piece_of g' ≢ piece_of e
      away q = omega (arith, one_same (piece_of g') (piece_of e) q)

      head : g ≡ e → Dec (e ≡ h) → g ≡ h
      head q (yes r) = q ∙ r
      head q (no r) = absurd (omega (arith, came g' (rw q at j) r))

      here : piece_of g ≡ piece_of e → Dec (g ≡ e) → g ≡ h
      here t (yes q) = head q (ℕ_discrete e h)
      here t (no q) = absurd (d (lead g' (rw (two_ends g e t q) at j)))

  -- a walk that stops at e
  stopped : (h e : ℕ) (v : List ℕ)
      → ((x : ℕ) → count x v ≤ 1)
      → piece_of e < n
      → count (piece_of e) v ≡ 0
      → Ajar p (λ x. count x (piece_of e ∷ v)) h
      → Goes p h (e ∷ [])
      → Walked n p h v e (e ∷ [])
  unfolding count
  stopped h e v once b fresh a g =
      record {
        ajar = λ g g' j i z. a g g' j (omega arith) (omega arith);
        once = λ x. omega (arith, once_cons (piece_of e) v once fresh x);
        inside = λ x i. elim (ℕ_discrete x (piece_of e)) [ yes q ↦ omega arith | no q ↦ absurd (omega (arith, one_other x (piece_of e) q)) ];
        has = omega (arith, one_same (piece_of e) (piece_of e) refl);
        rest = [];
        starts = refl;
        goes = g;
      }

  -- a walk that goes on from e to the entry f
  extended : (h e f : ℕ) (v w : List ℕ)
      → piece_of e < n
      → p (other e) ≡ some f
      → Walked n p h (piece_of e ∷ v) f w
      → Walked n p h v e (e ∷ w)
  unfolding count
  extended h e f v w b j r =
      record {
        ajar = λ g g' j i z. r.ajar g g' j (omega arith) (omega arith);
        once = λ x. omega (arith, r.once x);
        inside = λ x i. elim (ℕ_discrete x (piece_of e)) [
          | yes q ↦ omega arith
          | no q ↦ r.inside x (omega (arith, one_other x (piece_of e) q))
        ];
        has = omega (arith, one_same (piece_of e) (piece_of e) refl);
        rest = w;
        starts = refl;
        goes = rw r.starts (next j (rw r.starts at r.goes));
      }

  module _ (h k e : ℕ) (v : List ℕ)
      (once : (x : ℕ) → count x v ≤ 1)
      (below : (x : ℕ) → 0 < count x v → x < n)
      (b : piece_of e < n)
      (fresh : count (piece_of e) v ≡ 0)
      (o : Open p (λ x. count x v) h e)
      (came : (g : ℕ) → p e ≡ some g → e ≢ h → 0 < count (piece_of g) v)
      (ih : (f : ℕ) → piece_of f < n → count (piece_of f) (piece_of e ∷ v) ≡ 0
      → Open p (λ x. count x (piece_of e ∷ v)) h f
      → ((g : ℕ) → p f ≡ some g → f ≢ h → 0 < count (piece_of g) (piece_of e ∷ v))
      → Walked n p h (piece_of e ∷ v) f (forward p k (piece_of e ∷ v) f))
    where
      on_some : (f : ℕ) → p (other e) ≡ some f → (t : Bool) → stands (piece_of f) (piece_of e ∷ v) ≡ t → Walked n p h v e (forward p (suc k) v e)
      unfolding forward count
      on_some f j true s =
          rw (j, s)
          (stopped h e v once b fresh
          (λ g g' q i z. open_step h e v fresh o came f (λ g r. some_same (p (other e)) g f r j) g g' q i z
          (λ r. absurd (omega (arith, stands_true (piece_of f) (piece_of e ∷ v) s, ap (λ (m : ℕ). count (piece_of m) (piece_of e ∷ v)) r))))
          (ring (rw (closing) at j)))
        where
          closing : f ≡ h
          closing =
              o f (other e) (J.mutually (other e) f j)
              (omega (arith, stands_true (piece_of f) (piece_of e ∷ v) s, one_other (piece_of f) (piece_of e) (λ q. J.apart (other e) f j (q ∙ sym (other_piece e)))))
              (rw other_piece fresh)
              (other_ne e)
      on_some f j false s =
          rw (j, s)
          (extended h e f v (forward p k (piece_of e ∷ v) f) b j
          (ih f (J.within (other e) f j) (stands_false (piece_of f) (piece_of e ∷ v) s)
          (open_step h e v fresh o came f (λ g r. some_same (p (other e)) g f r j))
          (λ g r d. omega (
            arith,
            one_same (piece_of g) (piece_of e)
                (ap piece_of (some_same (p f) g (other e) r (J.mutually (other e) f j)) ∙ other_piece e),
          ))))

      on : (q : Option ℕ) → p (other e) ≡ q → Walked n p h v e (forward p (suc k) v e)
      unfolding forward
      on none j =
          rw j
          (stopped h e v once b fresh
          (λ g g' q i z. open_step h e v fresh o came (suc g') (λ g r. absurd (not_both (p (other e)) g j r)) g g' q i z (omega arith))
          (free j))
      on (some f) j = on_some f j (stands (piece_of f) (piece_of e ∷ v)) refl

  pub forward_walked : (h k : ℕ) (v : List ℕ) (e : ℕ)
      → n ≤ k + length v
      → ((x : ℕ) → count x v ≤ 1)
      → ((x : ℕ) → 0 < count x v → x < n)
      → piece_of e < n
      → count (piece_of e) v ≡ 0
      → Open p (λ x. count x v) h e
      → ((g : ℕ) → p e ≡ some g → e ≢ h → 0 < count (piece_of g) v)
      → Walked n p h v e (forward p k v e)
  unfolding count
  forward_walked h zero v e fuel once below b fresh o came =
      absurd (omega (arith, pigeon n (piece_of e ∷ v) (once_cons (piece_of e) v once fresh) (below_cons n (piece_of e) v below b)))
  forward_walked h (suc k) v e fuel once below b fresh o came =
      on h k e v once below b fresh o came
      (λ f b' fresh' o' came'.
      forward_walked h k (piece_of e ∷ v) f (omega arith)
      (once_cons (piece_of e) v once fresh) (below_cons n (piece_of e) v below b) b' fresh' o' came')
      (p (other e)) refl
