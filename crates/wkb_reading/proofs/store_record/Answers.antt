-- After k turns the first k numbers behind the header stand from `at` on.
use Prim.Native.Nat.{ℕ, ◌+◌, ◌-◌, ◌/◌}
use mathlib.Core.Path.{◌≡◌, ap, ◌∙◌, subst}
use mathlib.Core.List.{[], ◌∷◌, ◌++◌, map}
use native.Mathlib.Omega.{arith}
use lib.ListN.{length, take, drop, set, length-take, length-drop}
use Rattle.rules.specs.Wkb.{doubles_of}
use Rattle.point_slices.specs.Holds.{HoldsFrom}
use Rattle.point_slices.proofs.Laws.{from_set}
use Rattle.wkb_records.specs.Orders.{number_in}
use Rattle.wkb_reading.proofs.Laws.{chunk_more, chunks_are}
use Rattle.wkb_reading.proofs.store_record.Goals as goal
use Rattle.wkb_reading.proofs.store_record.Goals.{After-loop-k}

pub loop-k-preserved : goal.loop-k-preserved
loop-k-preserved c =
    let a = c.args in
    let o = c.loop-k in
    let f = number_in c.of-order.result in
    let l = c.as_chunks.result.0.now in
    let n : length l ≡ (length a.bytes.now - 9) / 8 = omega (arith, c.as_chunks.ensures.front_len, length-take (length a.bytes.now - 9) (drop 9 a.bytes.now), length-drop 9 a.bytes.now) in
    subst (HoldsFrom (set o.coordinates (a.at + o.k) c.number.result) a.coordinates.now a.at (o.k + 1))
    (ap (λ (v : ℕ). map f (take o.k l) ++ (v ∷ [])) c.number.ensures ∙ chunk_more f l o.k c.loop-k-test.true)
    (from_set o.invariant (omega (arith, c.loop-k-test.true, c.requires.1)) c.number.result)

pub returns : goal.returns
returns c =
    let a = c.args in
    let o = c.loop-k in
    let l = c.as_chunks.result.0.now in
    let n : length l ≡ (length a.bytes.now - 9) / 8 = omega (arith, c.as_chunks.ensures.front_len, length-take (length a.bytes.now - 9) (drop 9 a.bytes.now), length-drop 9 a.bytes.now) in
    let k : o.k ≡ (length a.bytes.now - 9) / 8 = omega (arith, c.loop-k.auto.k-end, c.loop-k-test.false) in
    record {
      end = omega arith;
      holds = subst (λ (m : ℕ). HoldsFrom o.coordinates a.coordinates.now a.at m (doubles_of a.bytes.now)) k
          (subst (HoldsFrom o.coordinates a.coordinates.now a.at o.k)
          (ap (λ q. map (number_in q) (take o.k l)) c.of-order.ensures ∙ chunks_are a.bytes.now l o.k c.requires.0 c.as_chunks.ensures.front n (omega (arith, c.loop-k-test.false))) o.invariant);
    }
