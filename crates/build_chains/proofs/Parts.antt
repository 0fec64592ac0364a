-- A part of a slice that is lent and comes back: it stands where it stood, and before and beyond it all is as it was.
use Prim.Native.Nat.{ℕ, ◌+◌, ◌-◌, ◌≤◌}
use mathlib.Core.Path.{◌≡◌, refl, sym, ap, ◌∙◌}
use mathlib.Core.List.{List, ◌++◌}
use native.Mathlib.Omega.{arith}
use lib.ListN.{length, take, drop, replicate, length-append, length-drop}
use lib.Seq.{length-take-le, take_at, drop_at, drop-drop}
use borrow.Rule.Slice.PartMut.{mid_of, put_mid}
use Rattle.rules.specs.Chaining.{Piece}
use Rattle.rules.specs.Calls.{written, cleared}
use Rattle.chain_pieces.specs.Held.{Held}
use Rattle.chain_pieces.proofs.Reading.{held_block}

module _ (w sub : List ℕ) (a k : ℕ) (fits : a + k ≤ length w) where
  pub mid_length : length (mid_of a k w) ≡ k
  mid_length = length-take-le k (drop a w) (omega (arith, length-drop a w))

  module _ (size : length sub ≡ length (mid_of a k w)) where
    size_k : length sub ≡ k
    size_k = size ∙ mid_length

    after : drop a (put_mid a k w sub) ≡ sub ++ drop k (drop a w)
    after = drop_at (take a w) (sub ++ drop k (drop a w)) a (length-take-le a w (omega arith))

    pub put_mid_lem : mid_of a k (put_mid a k w sub) ≡ sub
    put_mid_lem = ap (take k) after ∙ take_at sub (drop k (drop a w)) k size_k

    put_rest : drop (a + k) (put_mid a k w sub) ≡ drop (a + k) w
    put_rest =
        sym (drop-drop k a (put_mid a k w sub)) ∙ ap (drop k) after ∙ drop_at sub (drop k (drop a w)) k size_k ∙ drop-drop k a w

    -- and beyond it too, where its end goes by another name
    pub put_behind : (e : ℕ) → a + k ≡ e → drop e (put_mid a k w sub) ≡ drop e w
    put_behind e p = ap (λ (i : ℕ). drop i (put_mid a k w sub)) (sym p) ∙ put_rest ∙ ap (λ (i : ℕ). drop i w) p

    pub put_length : length (put_mid a k w sub) ≡ length w
    put_length =
        length-append (take a w) (sub ++ drop k (drop a w))
        ∙ (omega (
          arith,
          length-take-le a w (omega arith),
          length-append sub (drop k (drop a w)),
          size_k,
          length-drop k (drop a w),
          length-drop a w,
        ))

-- pieces at the front of a part stand in the whole from where the part begins
pub held_shift : (width : ℕ) (w : List ℕ) (a n : ℕ) (input copies counts : List ℕ) (ps : List Piece) → a ≤ length w → Held width (drop a w) 0 n input copies counts ps → Held width w a n input copies counts ps
held_shift width w a n input copies counts ps l h = held_block width w (drop a w) a 0 n input copies counts ps refl (omega (arith, h.room, length-drop a w)) h

-- ---- what is written at the front

pub written_rest : (out l : List ℕ) (k : ℕ) → length out ≤ k → k ≤ length l → drop k (written out l) ≡ drop k l
unfolding written
written_rest out l k h b =
    let p : length out + (k - length out) ≡ k = omega arith in
    ap (λ (i : ℕ). drop i (out ++ drop (length out) l)) (sym p)
    ∙ sym (drop-drop (k - length out) (length out) (out ++ drop (length out) l))
    ∙ ap (drop (k - length out)) (drop_at out (drop (length out) l) (length out) refl)
    ∙ drop-drop (k - length out) (length out) l
    ∙ ap (λ (i : ℕ). drop i l) p

pub cleared_same : (k : ℕ) (l' l : List ℕ) → drop k l' ≡ drop k l → cleared k l' ≡ cleared k l
unfolding cleared
cleared_same k l' l e = ap (λ (t : List ℕ). replicate k 0 ++ t) e
