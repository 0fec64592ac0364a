-- Words copied into a slice: the loops of `lay_words` and `lay_marks`, which differ in a width and a place only, and what is written behind.
use Prim.Native.Nat.{ℕ, ◌+◌, ◌≤◌, ◌<◌}
use mathlib.Core.Path.{◌≡◌, refl, ap, ◌∙◌}
use mathlib.Core.List.{List, ◌++◌}
use native.Mathlib.Omega.{arith}
use native.Mathlib.Nat.{zero-add}
use lib.ListN.{length, get_or, take, drop, set, length-set}
use lib.Seq.{slice, take_all}
use Rattle.rules.specs.Calls.{written}
use Rattle.point_slices.specs.Holds.{HoldsFrom}
use Rattle.point_slices.proofs.Laws.{from_start, from_then, copy_more, part_length}
use Rattle.chain_pieces.proofs.Reading.{get_d_part}
use Rattle.build_layout.specs.Laying.{Narrow}

-- ---- i of the k words are copied

pub record Copying (out out₀ w : List ℕ) (from k at i : ℕ) : Type 0 where
  pub within : i ≤ k
  pub size : length out ≡ length out₀
  pub holds : HoldsFrom out out₀ at i (take i (slice from (from + k) w))

pub copying_start : (out w : List ℕ) (from k at : ℕ) → Copying out out w from k at 0
copying_start out w from k at = record { within = omega arith; size = refl; holds = from_start out at }

module _ {out out₀ w : List ℕ} {from k at i most : ℕ} (s : Copying out out₀ w from k at i) (y : Narrow w from k most out₀ at) where
  abbrev part : List ℕ
  part = slice from (from + k) w

  part_long : length part ≡ k
  part_long = part_length from k w y.inside

  pub copying_more : i < k → Copying (set out (at + i) (get_or w (from + i) 0)) out₀ w from k at (i + 1)
  copying_more b =
      record {
        within = omega arith;
        size = length-set out (at + i) (get_or w (from + i) 0) ∙ s.size;
        holds = rw (get_d_part from k w i b) at (copy_more out out₀ part at i s.holds (omega (arith, part_long, y.room)) (omega (arith, part_long)));
      }

  pub copying_done : k ≤ i → HoldsFrom out out₀ at k (slice from (from + k) w)
  copying_done h =
      let e : i ≡ k = omega (arith, s.within) in
      rw (take_all i part (omega (arith, part_long)), e) at s.holds

-- from the front on
pub front_more : {out out₀ w : List ℕ} {from k i most : ℕ} → Copying out out₀ w from k 0 i → Narrow w from k most out₀ 0 → i < k
    → Copying (set out i (get_or w (from + i) 0)) out₀ w from k 0 (i + 1)
front_more s y b = rw zero-add at (copying_more s y b)

-- ---- what is written behind what stands

-- one part behind another, where its place, their length and what they are together is said in other words
pub behind : {l'' l' l out x out' : List ℕ} {at r at' n r' : ℕ} → HoldsFrom l' l at r out → at + r ≤ length l → HoldsFrom l'' l' at' n x
    → at' ≡ at + r → r' ≡ r + n → out' ≡ out ++ x → HoldsFrom l'' l at r' out'
behind h k g e₁ e₂ e₃ = rw (e₂, e₃) (from_then h k (rw e₁ at g))

pub written_on : {l'' l' l x y : List ℕ} {a b : ℕ} → HoldsFrom l' l 0 a x → HoldsFrom l'' l' a b y → a ≤ length l → l'' ≡ written (x ++ y) l
unfolding written
written_on {l''} {l'} {l} {x} {y} {a} {b} h g k =
    let s : HoldsFrom l'' l 0 (a + b) (x ++ y) = from_then h (rw zero-add k) (rw zero-add g) in
    s.list ∙ ap (λ (i : ℕ). (x ++ y) ++ drop i l) (zero-add (a + b) ∙ s.count)
