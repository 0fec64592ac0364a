-- A call that isn't refused leaves in its workspace what the routes ask for.
use Prim.Native.Nat.{ℕ, ◌<◌}
use mathlib.Core.Path.{◌≡◌, refl, sym, ◌∙◌, ap, subst}
use mathlib.Core.Bool.{Bool, true, false, ◌&&◌}
use mathlib.Core.Logic.{⊎_elim}
use mathlib.Core.List.{List}
use native.Mathlib.Omega.{arith}
use lib.Dec.{T, eqb, ltb}
use lib.Ieee.{Float}
use lib.Ieee.Scale.{finite}
use lib.ListN.{length, get_or, get_or-eq_default}
use borrow.Author.Tests.{eqb-true, ltb-true, ltb-false}
use Rattle.pair_laws.proofs.Settled.{toward_is}
use Rattle.rules.specs.Answers.{Direction}
use Rattle.std.specs.Prelude.{Ok, Err}
use Rattle.std.specs.declared.result.Result.{Result}
use Rattle.std.specs.Result.{IsErrAnd}
use Rattle.rules.specs.declared.Refusal.{Refusal}
use Rattle.rules.specs.Answers.{Absent, Toward, Refused, refusal_number, answered}
use Rattle.pair_refusals.specs.Ladder.{pair_refusal_by}
use Rattle.pair_refusals.proofs.Ladder.{refusal_by}
use Rattle.rules.specs.Selecting.{End}
use Rattle.rules.specs.Layout.{given, ends}
use Rattle.rules.specs.Refusals.{LentEnds, any_wild, pair_refusal_of}
use Rattle.pair_laws.specs.Ends.{end_at, there}
use Rattle.pair_laws.specs.Owners.{AtMostTwice}
use Rattle.pair_laws.proofs.Order.{two, tf}
use Rattle.pair_laws.proofs.Ends.{ends_length, ends_at}
use Rattle.pair_laws.proofs.Refusals.{admitted, at_most_twice, all_finite}
use Rattle.pair_index.specs.Index.{Finite}
use Rattle.pair_lending.specs.Lent.{Put}
use Rattle.pair_lending.proofs.Answers.{matched, put_room}
use Rattle.pair_calls.specs.Routed.{Routed}

-- ---- what is found is the book's refusal, and `?` hands it on

pub ruled : (alone a : Bool) (i : LentEnds) (k : ℕ) → a ≡ alone → k ≡ pair_refusal_by a i.present i.directions i.pieces i.limit (length i.pairs) (length i.workspace)
    → k ≡ pair_refusal_of alone i
ruled alone a i k e h =
    h ∙ ap (λ (t : Bool). pair_refusal_by t i.present i.directions i.pieces i.limit (length i.pairs) (length i.workspace)) e ∙ sym (refusal_by alone i)

pub handed_on : (x : Result ℕ Refusal) (r : Refusal) → IsErrAnd x (λ s. s ≡ r) → answered x ≡ Refused (refusal_number r)
handed_on (Ok n) r h = absurd h
handed_on (Err s) r h = ap (λ (t : Refusal). Refused (refusal_number t)) h

-- ---- what the routes ask for

-- an absent direction is not a present one
not_toward : {x y : Float} → Absent ≡ Toward x y → ⊥
unfolding there
not_toward h = tf (ap there h) refl

-- a direction that is read as present was marked so
given_toward : (mark : ℕ) (a b x y : Float) → given mark a b ≡ Toward x y → (mark ≡ 1) × (a ≡ x) × (b ≡ y)
unfolding given
given_toward mark a b x y = go (eqb mark 1) refl
  where
    go : (t : Bool) → eqb mark 1 ≡ t → ◌≡◌ {A = Direction} (elim t [ true ↦ Toward a b | false ↦ Absent ]) (Toward x y) → (mark ≡ 1) × (a ≡ x) × (b ≡ y)
    go true e h = let parts = toward_is a b x y h in (eqb-true mark 1 e, parts.0, parts.1)
    go false e h = absurd (not_toward h)

module _ (alone : Bool) (i : LentEnds) (z : pair_refusal_of alone i ≡ 0) where
  lent : List End
  lent = ends 0 i.present i.directions i.pieces

  lent_twice : AtMostTwice (λ e. (end_at lent e).piece) (length i.pieces)
  unfolding lent
  lent_twice x y v x<y y<v v<d e f =
      at_most_twice i.pieces (admitted alone i z).twice x y v x<y y<v v<d
      (sym (piece x (omega arith)) ∙ e ∙ piece y (omega arith))
      (sym (piece y (omega arith)) ∙ f ∙ piece v (omega arith))
    where
      piece : (e : ℕ) → e < length i.pieces → (end_at (ends 0 i.present i.directions i.pieces) e).piece ≡ get_or i.pieces e 0
      piece e h = ap (λ (x : End). x.piece) (ends_at 0 i.present i.directions i.pieces e h)

  lent_finite : alone ≡ true → Finite lent
  unfolding lent
  lent_finite here-alone e x y h = ⊎_elim here past (two (ltb e (length i.pieces)))
    where
      tame : any_wild i.present i.directions ≡ false
      tame = ap (λ (t : Bool). t && any_wild i.present i.directions) (sym here-alone) ∙ (admitted alone i z).tame

      here : ltb e (length i.pieces) ≡ true → T (finite x) × T (finite y)
      here l =
          let k = ltb-true e (length i.pieces) l in
          let g = given_toward (get_or i.present e 0) _ _ x y (ap (λ (x : End). x.direction) (sym (ends_at 0 i.present i.directions i.pieces e k)) ∙ h) in
          let f = all_finite i.present i.directions tame e (omega (arith, k, (admitted alone i z).marked)) (omega (arith, k, (admitted alone i z).directed)) g.0 in
          (subst (λ (v : Float). T (finite v)) g.1 f.0, subst (λ (v : Float). T (finite v)) g.2 f.1)

      past : ltb e (length i.pieces) ≡ false → T (finite x) × T (finite y)
      past l =
          let o : end_at (ends 0 i.present i.directions i.pieces) e ≡ record { name = 0; piece = 0; direction = Absent } =
          get_or-eq_default (ends 0 i.present i.directions i.pieces) (record { name = 0; piece = 0; direction = Absent }) {n = e}
          (omega (arith, ltb-false e (length i.pieces) l, ends_length 0 i.present i.directions i.pieces)) in
          absurd (not_toward (ap (λ (x : End). x.direction) (sym o) ∙ h))

  pub routed : {w : List ℕ} → Put w i.workspace i.present i.directions i.pieces → Routed alone w (length i.pieces) i.limit
  unfolding lent
  routed p = record {
    room = put_room (matched alone i z) p;
    limited = (admitted alone i z).limited;
    twice = subst (λ (l : List End). AtMostTwice (λ e. (end_at l e).piece) (length i.pieces)) (sym p.held) lent_twice;
    finite_ends = λ a. subst Finite (sym p.held) (lent_finite a);
  }
