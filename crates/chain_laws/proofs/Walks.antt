-- Walks: every piece stands in exactly one walk, once, and each walk goes as 01 says.
-- It is true because what earlier walks visited is shut: a later start's way back and forth never leads into it, so each walk adds pieces that
-- were not visited, its start among them.
use Prim.Native.Nat.{ℕ, zero, suc, ◌+◌, ◌*◌, ◌≤◌, ◌<◌, zero-le}
use mathlib.Core.Path.{◌≡◌, refl, sym, ap, ◌∙◌}
use mathlib.Core.Bool.{Bool, true, false}
use mathlib.Core.List.{List, [], ◌∷◌, ◌++◌, map, flatten, map-append, head-eq_of_cons-eq}
use mathlib.Core.Option.{Option}
use native.Mathlib.Omega.{arith}
use native.Mathlib.Decide.{ℕ_discrete}
use lib.Dec.{ltb}
use lib.ListN.{length, length-append, length-map}
use borrow.Author.Tests.{ltb-true, ltb-false}
use Rattle.rules.specs.Lists.{count, stands, upto}
use Rattle.rules.specs.Walking.{piece_of, side_of, back, walk, walks_from, walks}
use Rattle.chain_laws.specs.Joins.{Joins}
use Rattle.chain_laws.proofs.Counts.{each_weak, Each, nil, cons, one_same, one_other, zero_of, count_append, stands_true, stands_false, once_cons, below_cons, upto_in, upto_out, upto_once, upto_length}
use Rattle.chain_laws.proofs.Totals.{same_length}
use Rattle.chain_laws.proofs.Ends.{end_zero}
use Rattle.chain_laws.proofs.Forward.{Shut, Goes, Walked, forward_walked}
use Rattle.chain_laws.proofs.Back.{Trail, here, step, Once, Head, open_head, ring_head, bottom, back_head, head_in, head_out, head_shut, head_covers}

-- what earlier walks visited: no piece twice, pieces alone, and none that leads on to another
pub record Visited (n : ℕ) (p : ℕ → Option ℕ) (v : List ℕ) : Type 0 where
  pub once : (x : ℕ) → count x v ≤ 1
  pub below : (x : ℕ) → 0 < count x v → x < n
  pub shut : Shut p (λ x. count x v)

-- a walk as 01 has it: from the head of its start, to a free end or round the ring
pub record Proper (n : ℕ) (p : ℕ → Option ℕ) (w : List ℕ) : Type 0 where
  pub start : ℕ
  pub head : ℕ
  pub found : Head n p start head
  pub rest : List ℕ
  pub starts : w ≡ head ∷ rest
  pub goes : Goes p head w
  pub inside : (x : ℕ) → 0 < count x (map piece_of w) → x < n
  pub passes : 0 < count start (map piece_of w)

-- the two arms of `walks_from`
pub walks_skip : (p : ℕ → Option ℕ) (n : ℕ) (v : List ℕ) (s : ℕ) (l : List ℕ) → stands s v ≡ true → walks_from p n v (s ∷ l) ≡ walks_from p n v l
unfolding walks_from
walks_skip p n v s l h = rw (h, walks_from)

pub walks_next : (p : ℕ → Option ℕ) (n : ℕ) (v : List ℕ) (s : ℕ) (l : List ℕ) → stands s v ≡ false
    → walks_from p n v (s ∷ l) ≡ walk p n v s ∷ walks_from p n (map piece_of (walk p n v s) ++ v) l
unfolding walks_from
walks_next p n v s l h = rw (h, walks_from)

count_split : (x : ℕ) (w : List ℕ) (ws : List (List ℕ))
    → count x (map piece_of (flatten (w ∷ ws))) ≡ count x (map piece_of w) + count x (map piece_of (flatten ws))
unfolding flatten
count_split x w ws = ap (count x) (map-append piece_of w (flatten ws)) ∙ count_append x (map piece_of w) (map piece_of (flatten ws))

module _ (n : ℕ) (p : ℕ → Option ℕ) (J : Joins n p) where
  pub visited_none : Visited n p []
  unfolding count
  visited_none = record { once = λ x. zero-le; below = λ x i. absurd (omega arith); shut = λ g g' j i. absurd (omega arith) }

  -- ---- the walk of one start that is not visited

  module _ (v : List ℕ) (k : Visited n p v) (s : ℕ) (b : s < n) (fresh : count s v ≡ 0) where
    abbrev first : ℕ
    first = back p s n (2 * s)

    pub walk_head : Head n p s (back p s n (2 * s))
    unfolding count
    walk_head =
        back_head n p J s n (2 * s) [] here
        (once_cons (piece_of (2 * s)) [] (λ x. zero-le) refl)
        (below_cons n (piece_of (2 * s)) [] (λ x i. absurd (omega arith)) (rw (end_zero s) b))
        (rw (end_zero s) b)
        (omega arith)

    pub head_below : piece_of (back p s n (2 * s)) < n
    head_below = head_in n p J s first b walk_head

    pub head_fresh : count (piece_of (back p s n (2 * s))) v ≡ 0
    head_fresh = head_out n p J (λ x. count x v) k.shut s first fresh walk_head

    walked : Walked n p first v first (walk p n v s)
    unfolding walk
    walked =
        forward_walked n p J first n v first (omega arith) k.once k.below head_below head_fresh
        (λ g g' j i z d. absurd (omega (arith, k.shut g g' j i)))
        (λ g j d. absurd (d refl))

    abbrev seen : ℕ → ℕ
    seen x = count x (map piece_of (walk p n v s)) + count x v

    shut_after : Shut p seen
    shut_after = head_shut n p J seen s first walk_head walked.ajar (omega (arith, walked.has))

    pub passes_start : 0 < count s (map piece_of (walk p n v s))
    passes_start = omega (arith, head_covers n p J seen s first walk_head shut_after (omega (arith, walked.has)))

    pub visited_walk : Visited n p (map piece_of (walk p n v s) ++ v)
    visited_walk =
        record {
          once = λ x. omega (arith, count_append x (map piece_of (walk p n v s)) v, walked.once x);
          below = λ x i. go x (rw count_append at i) (count x v) refl;
          shut = λ g g' j i. rw count_append (shut_after g g' j (rw count_append at i));
        }
      where
        go : (x : ℕ) → 0 < seen x → (m : ℕ) → count x v ≡ m → x < n
        go x i zero e = walked.inside x (omega arith)
        go x i (suc m) e = k.below x (omega arith)

    pub proper_walk : Proper n p (walk p n v s)
    proper_walk =
        record {
          start = s;
          head = first;
          found = walk_head;
          rest = walked.rest;
          starts = walked.starts;
          goes = walked.goes;
          inside = walked.inside;
          passes = passes_start;
        }

  -- ---- the walks of all starts of a list

  record All (v l : List ℕ) (ws : List (List ℕ)) : Type 0 where
    once : (x : ℕ) → count x (map piece_of (flatten ws)) + count x v ≤ 1
    inside : (x : ℕ) → 0 < count x (map piece_of (flatten ws)) → x < n
    covers : (x : ℕ) → 0 < count x l → 0 < count x (map piece_of (flatten ws)) + count x v
    each : Each (Proper n p) ws

  all_skip : (v l : List ℕ) (s : ℕ) (ws : List (List ℕ)) → 0 < count s v → All v l ws → All v (s ∷ l) ws
  unfolding count
  all_skip v l s ws i a =
      record {
        once = a.once;
        inside = a.inside;
        covers = λ x h. elim (ℕ_discrete x s) [
          | yes q ↦ rw q (omega arith)
          | no q ↦ a.covers x (omega (arith, one_other x s q))
        ];
        each = a.each;
      }

  all_walk : (v l : List ℕ) (s : ℕ) (w : List ℕ) (ws : List (List ℕ)) → 0 < count s (map piece_of w) → Proper n p w
      → All (map piece_of w ++ v) l ws → All v (s ∷ l) (w ∷ ws)
  unfolding count
  all_walk v l s w ws passed q a =
      record {
        once = λ x. omega (arith, count_split x w ws, a.once x, count_append x (map piece_of w) v);
        inside = λ x i. go x (rw count_split at i) (count x (map piece_of w)) refl;
        covers = λ x h. elim (ℕ_discrete x s) [
          | yes r ↦ omega (arith, count_split x w ws, rw (← r) at passed)
          | no r ↦ omega (arith, count_split x w ws, count_append x (map piece_of w) v, a.covers x (omega (arith, one_other x s r)))
        ];
        each = cons q a.each;
      }
    where
      go : (x : ℕ) → 0 < count x (map piece_of w) + count x (map piece_of (flatten ws)) → (m : ℕ) → count x (map piece_of w) ≡ m → x < n
      go x i zero e = a.inside x (omega arith)
      go x i (suc m) e = q.inside x (omega arith)

  from_all : (l v : List ℕ) → Visited n p v → ((x : ℕ) → 0 < count x l → x < n) → All v l (walks_from p n v l)
  unfolding walks_from count flatten
  from_all [] v k b =
      record {
        once = λ x. omega (arith, k.once x);
        inside = λ x i. absurd (omega arith);
        covers = λ x i. absurd (omega arith);
        each = nil;
      }
  from_all (s ∷ l) v k b = go (stands s v) refl (λ v' k'. from_all l v' k' (λ x i. b x (omega arith)))
    where
      here_below : s < n
      here_below = b s (omega (arith, one_same s s refl))

      go : (t : Bool) → stands s v ≡ t → ((v' : List ℕ) → Visited n p v' → All v' l (walks_from p n v' l)) → All v (s ∷ l) (walks_from p n v (s ∷ l))
      go true q ih = rw (walks_skip p n v s l q) (all_skip v l s (walks_from p n v l) (stands_true s v q) (ih v k))
      go false q ih =
          let fresh : count s v ≡ 0 = stands_false s v q in
          let w : List ℕ = walk p n v s in
          rw (walks_next p n v s l q)
          (all_walk v l s w (walks_from p n (map piece_of w ++ v) l)
          (passes_start v k s here_below fresh)
          (proper_walk v k s here_below fresh)
          (ih (map piece_of w ++ v) (visited_walk v k s here_below fresh)))

  walks_all : All [] (upto n) (walks p n)
  unfolding walks
  walks_all = from_all (upto n) [] visited_none (upto_out n)

  -- EVERY PIECE STANDS IN EXACTLY ONE WALK, once, and nothing else does
  pub in_one_walk : (x : ℕ) → x < n → count x (map piece_of (flatten (walks p n))) ≡ 1
  unfolding count
  in_one_walk x b = omega (arith, walks_all.once x, walks_all.covers x (upto_in n x b))

  pub no_other : (x : ℕ) → n ≤ x → count x (map piece_of (flatten (walks p n))) ≡ 0
  no_other x b = zero_of (count x (map piece_of (flatten (walks p n)))) λ i. omega (arith, walks_all.inside x i)

  pub walks_count : (x : ℕ) → count x (map piece_of (flatten (walks p n))) ≡ count x (upto n)
  walks_count x = go (ltb x n) refl
    where
      go : (t : Bool) → ltb x n ≡ t → count x (map piece_of (flatten (walks p n))) ≡ count x (upto n)
      go true e =
          let b = ltb-true x n e in
          omega (arith, in_one_walk x b, upto_in n x b, upto_once n x)
      go false e = no_other x (ltb-false x n e) ∙ sym (zero_of (count x (upto n)) λ i. omega (arith, upto_out n x i, ltb-false x n e))

  -- so there are as many entries as pieces
  pub walks_length : length (flatten (walks p n)) ≡ n
  walks_length =
      sym (length-map (flatten (walks p n)) piece_of) ∙ same_length (map piece_of (flatten (walks p n))) (upto n) walks_count ∙ upto_length n

  -- and each walk is as 01 says
  pub walks_proper : Each (Proper n p) (walks p n)
  walks_proper = walks_all.each

  -- no walk is empty, so there are no more walks than pieces
  pub walks_filled : Each (λ w. 0 < length w) (walks p n)
  walks_filled = each_weak (Proper n p) (λ w. 0 < length w) (walks p n) (λ w r. rw r.starts (omega arith)) walks_proper

  filled_long : (ws : List (List ℕ)) → Each (λ w. 0 < length w) ws → length ws ≤ length (flatten ws)
  unfolding flatten
  filled_long ws nil = zero-le
  filled_long ws (cons {a = w} {l = v} h a) = omega (arith, length-append w (flatten v), filled_long v a)

  pub walks_few : length (walks p n) ≤ n
  walks_few = omega (arith, filled_long (walks p n) walks_filled, walks_length)

  -- ---- a walk of one piece enters it at end 0

  trail_lone : (b t : ℕ) (u : List ℕ) → Trail p b t u → Once (t ∷ u) → piece_of b ≡ piece_of t → t ≡ b
  unfolding count
  trail_lone b t u here once q = refl
  trail_lone b t u (step {c = c} {u = u'} r j) once q =
      absurd (omega (arith, once (piece_of b), bottom n p J b c u' r, one_same (piece_of b) (piece_of t) q))

  head_lone : (s h : ℕ) → Head n p s h → s ≡ piece_of h → h ≡ 2 * s
  head_lone s h (open_head {u = u} r once b j) q = trail_lone (2 * s) h u r once (end_zero s ∙ q)
  head_lone s h (ring_head r once j) q = refl

  pub lone_entry : (e : ℕ) → Proper n p (e ∷ []) → side_of e ≡ 0
  unfolding count
  lone_entry e r =
      let at : r.head ≡ e = head-eq_of_cons-eq (sym r.starts) in
      let of : r.start ≡ piece_of r.head = go (ℕ_discrete r.start (piece_of e)) ∙ ap piece_of (sym at) in
      omega (arith, head_lone r.start r.head r.found of)
    where
      go : Dec (r.start ≡ piece_of e) → r.start ≡ piece_of e
      go (yes q) = q
      go (no q) = absurd (omega (arith, r.passes, one_other r.start (piece_of e) q))
