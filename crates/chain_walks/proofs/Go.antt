-- The loop of `walk_on`: an entry and a mark are stored, the table names the next entry, and the walk that is left is one entry shorter.
use Prim.Native.Nat.{ℕ, suc, ◌+◌, ◌-◌, ◌*◌, ◌/◌, ◌≤◌, ◌<◌}
use mathlib.Core.Path.{◌≡◌, refl, sym, ap, ap₂, ◌∙◌, subst}
use mathlib.Core.Logic.{◌≢◌}
use mathlib.Core.List.{List, [], ◌∷◌, ◌++◌, append_assoc, append-nil}
use native.Mathlib.Omega.{arith}
use native.Mathlib.Nat.{sub-zero, add-zero}
use lib.ListN.{length, get_or, set, drop, length-set, length-append, take-append-drop, get_or-append}
use lib.Seq.{slice, length-take-le, length-slice, drop-cons, set_at, set-append_left}
use borrow.Author.Tests.{eq-eqb, ne_eqb}
use Rattle.rules.specs.Walking.{piece_of, other}
use Rattle.chain_laws.specs.Table.{decode, forward_m, marked}
use Rattle.chain_walks.specs.Walks.{joins_of, marks_of, ahead, Walkable, Walked}
use Rattle.chain_walks.proofs.Heads.{read}
use Rattle.chain_walks.proofs.Cut.{cut, set_right, get_d_right}
use Rattle.chain_walks.specs.Map.{entry_block}

-- one step of the walk, by what stands in the table and among the marks
module _ (t : List ℕ) (n : ℕ) (seen : List ℕ) (e k : ℕ) (h : k < n) where
  left : n - k ≡ suc (n - (k + 1))
  left = omega arith

  some_there : 0 < length (forward_m t (n - k) seen e)
  unfolding forward_m
  some_there = rw left (omega arith)

  step_free : get_or t (other e) 0 ≡ 0 → forward_m t (n - k) seen e ≡ e ∷ []
  unfolding forward_m decode
  step_free q = rw left (rw (read t (other e) 0 q))

  step_seen : (g : ℕ) → get_or t (other e) 0 ≡ suc g → get_or (set seen (e / 2) 1) (g / 2) 0 ≡ 1 → forward_m t (n - k) seen e ≡ e ∷ []
  unfolding forward_m decode
  step_seen g q m = rw left (rw (read t (other e) (suc g) q, eq-eqb (get_or (set seen (e / 2) 1) (piece_of g) 0) 1 m))

  step_on : (g : ℕ) → get_or t (other e) 0 ≡ suc g → get_or (set seen (e / 2) 1) (g / 2) 0 ≢ 1
      → forward_m t (n - k) seen e ≡ e ∷ forward_m t (n - (k + 1)) (set seen (e / 2) 1) g
  unfolding forward_m decode
  step_on g q m = rw left (rw (read t (other e) (suc g) q, ne_eqb (get_or (set seen (e / 2) 1) (piece_of g) 0) 1 m))

-- k entries of the walk are written, and it goes on at e
pub record Going (w₀ : List ℕ) (n first at : ℕ) (w : List ℕ) (e k : ℕ) : Type 0 where
  pub seen : List ℕ
  pub out : List ℕ
  pub seen_size : length seen ≡ n
  pub out_size : length out ≡ at + k
  pub low : e < 2 * n
  pub turns : k ≤ n
  pub size : length w ≡ length w₀
  pub whole : w ≡ joins_of n w₀ ++ (seen ++ (out ++ drop (entry_block * n + at + k) w₀))
  pub goes : out ++ forward_m (joins_of n w₀) (n - k) seen e ≡ slice (entry_block * n) (entry_block * n + at) w₀ ++ ahead w₀ n first
  pub marks : marked seen (forward_m (joins_of n w₀) (n - k) seen e) ≡ marked (marks_of n w₀) (ahead w₀ n first)

module _ (w₀ : List ℕ) (n first at : ℕ) (a : Walkable w₀ n first at) where
  joins_size : length (joins_of n w₀) ≡ 2 * n
  joins_size = length-take-le (2 * n) w₀ (omega (arith, a.room))

  below : at ≤ n
  below = omega (arith, a.fits)

  pub going_start : Going w₀ n first at w₀ first 0
  going_start =
      record {
        seen = marks_of n w₀;
        out = slice (entry_block * n) (entry_block * n + at) w₀;
        seen_size = length-slice (2 * n) (entry_block * n) w₀ (omega (arith, a.room)) ∙ omega arith;
        out_size = length-slice (entry_block * n) (entry_block * n + at) w₀ (omega (arith, a.room, below)) ∙ omega arith;
        low = a.entry;
        turns = omega arith;
        size = refl;
        whole =
            sym (take-append-drop (2 * n) w₀)
            ∙ ap (λ (l : List ℕ). joins_of n w₀ ++ l) (sym (cut (2 * n) (entry_block * n) w₀ (omega arith))
            ∙ ap (λ (l : List ℕ). marks_of n w₀ ++ l) (sym (cut (entry_block * n) (entry_block * n + at) w₀ (omega arith))
            ∙ ap (λ (k : ℕ). slice (entry_block * n) (entry_block * n + at) w₀ ++ drop k w₀) (sym (add-zero (entry_block * n + at)))));
        goes = rw sub-zero;
        marks = rw sub-zero;
      }

  module _ (w : List ℕ) (e k : ℕ) (o : Going w₀ n first at w e k) where
    tail_length : length o.out + length (forward_m (joins_of n w₀) (n - k) o.seen e) ≡ at + length (ahead w₀ n first)
    tail_length =
        sym (length-append o.out (forward_m (joins_of n w₀) (n - k) o.seen e)) ∙ ap length o.goes ∙ length-append (slice (entry_block * n) (entry_block * n + at) w₀) (ahead w₀ n first)
        ∙ ap (λ (j : ℕ). j + length (ahead w₀ n first)) (length-slice (entry_block * n) (entry_block * n + at) w₀ (omega (arith, a.room, below)) ∙ omega arith)

    -- the walk is at its end, with r entries
    ended : (w' seen out : List ℕ) (r : ℕ) → w' ≡ joins_of n w₀ ++ (seen ++ (out ++ drop (entry_block * n + at + r) w₀))
        → out ≡ slice (entry_block * n) (entry_block * n + at) w₀ ++ ahead w₀ n first → seen ≡ marked (marks_of n w₀) (ahead w₀ n first) → length out ≡ at + r → Walked w' w₀ n first at r
    ended w' seen out r p q s z =
        record {
          count = omega (arith, z, ap length q, length-append (slice (entry_block * n) (entry_block * n + at) w₀) (ahead w₀ n first), length-slice (entry_block * n) (entry_block * n + at) w₀ (omega (arith, a.room, below)));
          whole = p ∙ ap₂ (λ (x y : List ℕ). joins_of n w₀ ++ (x ++ (y ++ drop (entry_block * n + at + r) w₀))) s q
              ∙ ap (λ (l : List ℕ). joins_of n w₀ ++ (marked (marks_of n w₀) (ahead w₀ n first) ++ l)) (append_assoc (slice (entry_block * n) (entry_block * n + at) w₀) (ahead w₀ n first) (drop (entry_block * n + at + r) w₀));
        }

    pub going_done : n ≤ k → Walked w w₀ n first at k
    unfolding forward_m marked
    going_done h =
        let z : n - k ≡ 0 = omega arith in
        ended w o.seen o.out k o.whole (sym (append-nil o.out) ∙ subst (λ (j : ℕ). o.out ++ forward_m (joins_of n w₀) j o.seen e ≡ slice (entry_block * n) (entry_block * n + at) w₀ ++ ahead w₀ n first) z o.goes)
        (subst (λ (j : ℕ). marked o.seen (forward_m (joins_of n w₀) j o.seen e) ≡ marked (marks_of n w₀) (ahead w₀ n first)) z o.marks) o.out_size

    module _ (h : k < n) where
      pub room : at + k < n
      room = omega (arith, tail_length, o.out_size, a.fits, some_there (joins_of n w₀) n o.seen e k h)

      abbrev pub after : List ℕ
      after = set (set w (entry_block * n + at + k) e) (2 * n + e / 2) 1

      pub after_size : length after ≡ length w₀
      after_size = length-set (set w (entry_block * n + at + k) e) (2 * n + e / 2) 1 ∙ length-set w (entry_block * n + at + k) e ∙ o.size

      after_whole : after ≡ joins_of n w₀ ++ (set o.seen (e / 2) 1 ++ ((o.out ++ (e ∷ [])) ++ drop (entry_block * n + at + (k + 1)) w₀))
      after_whole =
          let i : entry_block * n + at + k ≡ 2 * n + (n + (at + k)) = omega arith in
          let j : suc (entry_block * n + at + k) ≡ entry_block * n + at + (k + 1) = omega arith in
          ap (λ (l : List ℕ). set l (2 * n + e / 2) 1)
          (ap₂ (λ (l : List ℕ) (x : ℕ). set l x e) (o.whole ∙ ap (λ (l : List ℕ). joins_of n w₀ ++ (o.seen ++ (o.out ++ l))) (drop-cons w₀ (entry_block * n + at + k) 0 (omega (arith, room, a.room)))) i
          ∙ set_right (joins_of n w₀) (o.seen ++ (o.out ++ (get_or w₀ (entry_block * n + at + k) 0 ∷ drop (suc (entry_block * n + at + k)) w₀))) (2 * n) (n + (at + k)) e joins_size
          ∙ ap (λ (l : List ℕ). joins_of n w₀ ++ l) (set_right o.seen (o.out ++ (get_or w₀ (entry_block * n + at + k) 0 ∷ drop (suc (entry_block * n + at + k)) w₀)) n (at + k) e o.seen_size
          ∙ ap (λ (l : List ℕ). o.seen ++ l) (set_at o.out (get_or w₀ (entry_block * n + at + k) 0) (drop (suc (entry_block * n + at + k)) w₀) e (at + k) o.out_size
          ∙ ap (λ (x : ℕ). o.out ++ (e ∷ drop x w₀)) j ∙ sym (append_assoc o.out (e ∷ []) (drop (entry_block * n + at + (k + 1)) w₀)))))
          ∙ set_right (joins_of n w₀) (o.seen ++ ((o.out ++ (e ∷ [])) ++ drop (entry_block * n + at + (k + 1)) w₀)) (2 * n) (e / 2) 1 joins_size
          ∙ ap (λ (l : List ℕ). joins_of n w₀ ++ l) (set-append_left o.seen ((o.out ++ (e ∷ [])) ++ drop (entry_block * n + at + (k + 1)) w₀) (e / 2) 1 (omega (arith, o.low, o.seen_size)))

      pub read_join : (x : ℕ) → x < 2 * n → get_or after x 0 ≡ get_or (joins_of n w₀) x 0
      read_join x b =
          ap (λ (l : List ℕ). get_or l x 0) after_whole
          ∙ get_or-append (joins_of n w₀) (set o.seen (e / 2) 1 ++ ((o.out ++ (e ∷ [])) ++ drop (entry_block * n + at + (k + 1)) w₀)) 0 x (omega (arith, joins_size))

      pub read_mark : (x : ℕ) → x < n → get_or after (2 * n + x) 0 ≡ get_or (set o.seen (e / 2) 1) x 0
      read_mark x b =
          ap (λ (l : List ℕ). get_or l (2 * n + x) 0) after_whole
          ∙ get_d_right (joins_of n w₀) (set o.seen (e / 2) 1 ++ ((o.out ++ (e ∷ [])) ++ drop (entry_block * n + at + (k + 1)) w₀)) (2 * n) x joins_size
          ∙ get_or-append (set o.seen (e / 2) 1) ((o.out ++ (e ∷ [])) ++ drop (entry_block * n + at + (k + 1)) w₀) 0 x (omega (arith, length-set o.seen (e / 2) 1, o.seen_size))

      out_long : length (o.out ++ (e ∷ [])) ≡ at + (k + 1)
      out_long = length-append o.out (e ∷ []) ∙ omega (arith, o.out_size)

      last : forward_m (joins_of n w₀) (n - k) o.seen e ≡ e ∷ [] → Walked after w₀ n first at (k + 1)
      unfolding marked
      last q =
          ended after (set o.seen (e / 2) 1) (o.out ++ (e ∷ [])) (k + 1) after_whole
          (ap (λ (l : List ℕ). o.out ++ l) (sym q) ∙ o.goes)
          (ap (marked o.seen) (sym q) ∙ o.marks) out_long

      join_is : get_or after (other e) 0 ≡ get_or (joins_of n w₀) (other e) 0
      join_is = read_join (other e) (omega (arith, o.low))

      pub at_free : get_or after (other e) 0 ≡ 0 → Walked after w₀ n first at (k + 1)
      at_free q = last (step_free (joins_of n w₀) n o.seen e k h (sym join_is ∙ q))

      module _ (g : ℕ) (q : get_or after (other e) 0 ≡ suc g) where
        pub partner_in : g < 2 * n
        partner_in = omega (arith, join_is, a.table.named (other e))

        pub at_seen : get_or after (2 * n + g / 2) 0 ≡ 1 → Walked after w₀ n first at (k + 1)
        at_seen m = last (step_seen (joins_of n w₀) n o.seen e k h g (sym join_is ∙ q) (sym (read_mark (g / 2) (omega (arith, partner_in))) ∙ m))

        pub at_next : get_or after (2 * n + g / 2) 0 ≢ 1 → Going w₀ n first at after g (k + 1)
        unfolding marked
        at_next m =
            let on = step_on (joins_of n w₀) n o.seen e k h g (sym join_is ∙ q) (λ z. m (read_mark (g / 2) (omega (arith, partner_in)) ∙ z)) in
            record {
              seen = set o.seen (e / 2) 1;
              out = o.out ++ (e ∷ []);
              seen_size = length-set o.seen (e / 2) 1 ∙ o.seen_size;
              out_size = out_long;
              low = partner_in;
              turns = omega arith;
              size = after_size;
              whole = after_whole;
              goes = append_assoc o.out (e ∷ []) (forward_m (joins_of n w₀) (n - (k + 1)) (set o.seen (e / 2) 1) g) ∙ ap (λ (l : List ℕ). o.out ++ l) (sym on) ∙ o.goes;
              marks = ap (marked o.seen) (sym on) ∙ o.marks;
            }
