-- The loop of `walk_all`: `StartsWalked` is the walks of the starts below s, with marks that agree with the visited pieces; `Bench` is that in the workspace.
-- A walk over marks is the book's walk over visited pieces, and its entries find room because no piece is visited twice.
use Prim.Native.Nat.{ℕ, zero, suc, ◌+◌, ◌-◌, ◌*◌, ◌≤◌, ◌<◌}
use mathlib.Core.Path.{◌≡◌, refl, sym, ap, ap₂, ◌∙◌, subst}
use mathlib.Core.Logic.{◌≢◌}
use mathlib.Core.List.{List, [], ◌∷◌, ◌++◌, map, flatten, append_assoc, append-nil, map-append}
use native.Mathlib.Omega.{arith}
use native.Mathlib.Nat.{sub-zero, add-zero}
use lib.Dec.{eqb}
use lib.ListN.{length, get_or, set, take, drop, replicate, length-set, length-append, length-drop, length-map, length-replicate, get_or-replicate, take-append-drop, get_or-append}
use lib.Seq.{slice, slice_empty, length-take-le, length-slice, take_at, drop-cons, set_at, drop-append-le, drop-drop, ext_get_or}
use borrow.Author.Tests.{eq-eqb, ne_eqb, eqb-true, lt-ltb}
use Rattle.rules.specs.Lists.{count, stands, from, upto}
use Rattle.chain_laws.specs.Joins.{Joins}
use Rattle.rules.specs.Walking.{piece_of, walk, walks_from, walks}
use Rattle.chain_laws.specs.Table.{from_table, Table, head_of, forward_m, marked}
use Rattle.chain_laws.proofs.Counts.{count_append, stands_false, pigeon}
use Rattle.chain_laws.proofs.Walks.{Visited, visited_none, visited_walk, proper_walk, head_below, in_one_walk, walks_length, walks_skip, walks_next}
use Rattle.chain_laws.proofs.Marks.{Agree, forward_m_forward, agree_walk, marked_length}
use Rattle.chain_walks.specs.Walks.{joins_of, marks_of, ahead, walks_of, Walkable, Walked, WalksReady, AllWalked}
use Rattle.chain_walks.proofs.Cut.{cut, set_right, get_d_right, drop_right, slice_at}
use Rattle.chain_walks.specs.Map.{entry_block, length_block}

flatten_snoc : (ws : List (List ℕ)) (w : List ℕ) → flatten (ws ++ (w ∷ [])) ≡ flatten ws ++ w
unfolding flatten
flatten_snoc [] w = append-nil w
flatten_snoc (u ∷ ws) w = ap (λ (l : List ℕ). u ++ l) (flatten_snoc ws w) ∙ sym (append_assoc u (flatten ws) w)

ahead_some : (t : List ℕ) (n : ℕ) (seen : List ℕ) (e : ℕ) → 0 < n → 0 < length (forward_m t n seen e)
unfolding forward_m
ahead_some t zero seen e h = absurd (omega arith)
ahead_some t (suc n) seen e h = omega arith

module _ (t : List ℕ) (n : ℕ) (T : Table n t) (J : Joins n (from_table t)) where
  -- ws are the walks of the starts below s, and their pieces are marked
  pub record StartsWalked (seen : List ℕ) (ws : List (List ℕ)) (s : ℕ) : Type 0 where
    pub v : List ℕ
    pub visited : Visited n (from_table t) v
    pub agree : Agree n seen v
    pub seen_size : length seen ≡ n
    pub filled : length v ≡ length (flatten ws)
    pub same : (x : ℕ) → count x v ≡ count x (map piece_of (flatten ws))
    pub few : length ws ≤ length (flatten ws)
    pub left : s ≤ n
    pub whole : walks (from_table t) n ≡ ws ++ walks_from (from_table t) n v (from s (n - s))

  pub starts_start : (seen : List ℕ) → seen ≡ replicate n 0 → StartsWalked seen [] 0
  unfolding walks upto stands count flatten
  starts_start seen z =
      record {
        v = [];
        visited = visited_none n (from_table t) J;
        agree = λ x i. ap (λ (l : List ℕ). eqb (get_or l x 0) 1) z ∙ ap (λ (m : ℕ). eqb m 1) (get_or-replicate n x 0 0 i);
        seen_size = ap length z ∙ length-replicate n 0;
        filled = refl;
        same = λ x. refl;
        few = omega arith;
        left = omega arith;
        whole = ap (λ (m : ℕ). walks_from (from_table t) n [] (from 0 m)) (sym (sub-zero n));
      }

  one_less : (s : ℕ) → s < n → from s (n - s) ≡ s ∷ from (s + 1) (n - (s + 1))
  unfolding from
  one_less s h =
      let less : n - s ≡ suc (n - (s + 1)) = omega arith in
      let more : suc s ≡ s + 1 = omega arith in
      rw (less, from, more)

  pub starts_skip : (seen : List ℕ) (ws : List (List ℕ)) (s : ℕ) → s < n → get_or seen s 0 ≡ 1 → StartsWalked seen ws s → StartsWalked seen ws (s + 1)
  starts_skip seen ws s h q o =
      record {
        v = o.v;
        visited = o.visited;
        agree = o.agree;
        seen_size = o.seen_size;
        filled = o.filled;
        same = o.same;
        few = o.few;
        left = omega arith;
        whole =
            o.whole
            ∙ ap (λ (l : List ℕ). ws ++ walks_from (from_table t) n o.v l) (one_less s h)
            ∙ ap (λ (us : List (List ℕ)). ws ++ us)
            (walks_skip (from_table t) n o.v s (from (s + 1) (n - (s + 1))) (sym (o.agree s h) ∙ eq-eqb (get_or seen s 0) 1 q));
      }

  pub starts_end : (seen : List ℕ) (ws : List (List ℕ)) (s : ℕ) → n ≤ s → StartsWalked seen ws s → ws ≡ walks (from_table t) n
  unfolding from walks_from
  starts_end seen ws s h o =
      let z : n - s ≡ 0 = omega arith in
      sym (o.whole ∙ ap (λ (m : ℕ). ws ++ walks_from (from_table t) n o.v (from s m)) z ∙ append-nil ws)

  -- at the end every piece is marked
  pub starts_marks : (seen : List ℕ) (ws : List (List ℕ)) (s : ℕ) → n ≤ s → StartsWalked seen ws s → seen ≡ replicate n 1
  unfolding stands
  starts_marks seen ws s h o =
      ext_get_or 0 seen (replicate n 1) (o.seen_size ∙ sym (length-replicate n 1)) λ i b.
      let i-low : i < n = omega (arith, o.seen_size) in
      eqb-true (get_or seen i 0) 1
      (o.agree i i-low
      ∙ lt-ltb 0 (count i o.v)
      (omega (arith, o.same i, ap (λ (us : List (List ℕ)). count i (map piece_of (flatten us))) (starts_end seen ws s h o), in_one_walk n (from_table t) J i i-low)))
      ∙ sym (get_or-replicate n i 1 0 i-low)

  -- a start that is not marked: its walk goes behind the others
  module _ (seen : List ℕ) (ws : List (List ℕ)) (s : ℕ) (h : s < n) (q : get_or seen s 0 ≢ 1) (o : StartsWalked seen ws s) where
    fresh : count s o.v ≡ 0
    fresh = stands_false s o.v (sym (o.agree s h) ∙ ne_eqb (get_or seen s 0) 1 q)

    pub head_fits : head_of t n s < 2 * n
    unfolding head_of
    head_fits = omega (arith, head_below n (from_table t) J o.v o.visited s h fresh)

    abbrev w : List ℕ
    w = walk (from_table t) n o.v s

    past : Visited n (from_table t) (map piece_of w ++ o.v)
    past = visited_walk n (from_table t) J o.v o.visited s h fresh

    abbrev pub F : List ℕ
    F = forward_m t n seen (head_of t n s)

    the-walk : F ≡ w
    unfolding head_of walk
    the-walk =
        forward_m_forward t n T n seen o.v (head_of t n s) o.seen_size (head_below n (from_table t) J o.v o.visited s h fresh) o.agree

    pub room : length F + length (flatten ws) ≤ n
    room =
        omega (
          arith,
          pigeon n (map piece_of w ++ o.v) past.once past.below,
          length-append (map piece_of w) o.v,
          length-map w piece_of,
          ap length the-walk,
          o.filled,
        )

    pub not_empty : 0 < length F
    not_empty = ahead_some t n seen (head_of t n s) (omega arith)

    pub starts_walk : StartsWalked (marked seen F) (ws ++ (F ∷ [])) (s + 1)
    starts_walk =
        record {
          v = map piece_of w ++ o.v;
          visited = past;
          agree =
              subst (λ (l : List ℕ). Agree n (marked seen l) (map piece_of w ++ o.v)) (sym the-walk)
              (agree_walk n seen o.v w o.seen_size (proper_walk n (from_table t) J o.v o.visited s h fresh).inside o.agree);
          seen_size = marked_length seen F ∙ o.seen_size;
          filled = omega (arith, length-append (map piece_of w) o.v, length-map w piece_of, o.filled, ap length (flatten_snoc ws F), length-append (flatten ws) F, ap length the-walk);
          same = λ x.
              count_append x (map piece_of w) o.v
              ∙ omega (arith, o.same x, ap (λ (l : List ℕ). count x (map piece_of l)) (flatten_snoc ws F), ap (count x) (map-append piece_of (flatten ws) F), count_append x (map piece_of (flatten ws)) (map piece_of F), ap (λ (l : List ℕ). count x (map piece_of l)) the-walk);
          few = omega (arith, o.few, length-append ws (F ∷ []), ap length (flatten_snoc ws F), length-append (flatten ws) F, not_empty);
          left = omega arith;
          whole =
              o.whole
              ∙ ap (λ (l : List ℕ). ws ++ walks_from (from_table t) n o.v l) (one_less s h)
              ∙ ap (λ (us : List (List ℕ)). ws ++ us)
              (walks_next (from_table t) n o.v s (from (s + 1) (n - (s + 1))) (sym (o.agree s h) ∙ ne_eqb (get_or seen s 0) 1 q))
              ∙ ap (λ (l : List ℕ). ws ++ (l ∷ walks_from (from_table t) n (map piece_of w ++ o.v) (from (s + 1) (n - (s + 1))))) (sym the-walk)
              ∙ sym (append_assoc ws (F ∷ []) (walks_from (from_table t) n (map piece_of w ++ o.v) (from (s + 1) (n - (s + 1)))));
        }

-- ---- the workspace on the way

regroup : (a b c d e x : List ℕ) (y : ℕ) (z : List ℕ) → (a ++ (b ++ (c ++ (d ++ e)))) ++ (x ++ (y ∷ z)) ≡ a ++ (b ++ ((c ++ d) ++ (e ++ ((x ++ (y ∷ [])) ++ z))))
regroup a b c d e x y z = simp append_assoc

pub record Bench (w₀ : List ℕ) (n : ℕ) (y : WalksReady w₀ n) (w : List ℕ) (s at c : ℕ) : Type 0 where
  pub seen : List ℕ
  pub ws : List (List ℕ)
  pub starts : StartsWalked (joins_of n w₀) n y.table y.joins seen ws s
  pub at_is : at ≡ length (flatten ws)
  pub c_is : c ≡ length ws
  pub size : length w ≡ length w₀
  pub whole : w ≡ joins_of n w₀ ++ (seen ++ (flatten ws ++ (slice (entry_block * n + at) (length_block * n) w₀ ++ (map length ws ++ drop (length_block * n + c) w₀))))

module _ (w₀ : List ℕ) (n : ℕ) (y : WalksReady w₀ n) where
  joins_size : length (joins_of n w₀) ≡ 2 * n
  joins_size = length-take-le (2 * n) w₀ (omega (arith, y.room))

  pub bench_start : Bench w₀ n y w₀ 0 0 0
  unfolding flatten
  bench_start =
      record {
        seen = marks_of n w₀;
        ws = [];
        starts = starts_start (joins_of n w₀) n y.table y.joins (marks_of n w₀) y.zeros;
        at_is = refl;
        c_is = refl;
        size = refl;
        whole =
            sym (take-append-drop (2 * n) w₀)
            ∙ ap (λ (l : List ℕ). joins_of n w₀ ++ l) (sym (cut (2 * n) (entry_block * n) w₀ (omega arith))
            ∙ ap (λ (l : List ℕ). marks_of n w₀ ++ l) (sym (cut (entry_block * n) (length_block * n) w₀ (omega arith))
            ∙ ap₂ (λ (i j : ℕ). slice i (length_block * n) w₀ ++ drop j w₀) (sym (add-zero (entry_block * n))) (sym (add-zero (length_block * n)))));
      }

  module _ (w : List ℕ) (s at c : ℕ) (o : Bench w₀ n y w s at c) where
    abbrev t : List ℕ
    t = joins_of n w₀

    abbrev E : List ℕ
    E = flatten o.ws

    abbrev tail : List ℕ
    tail = map length o.ws ++ drop (length_block * n + c) w₀

    pub bench_skip : s < n → get_or w (2 * n + s) 0 ≡ 1 → Bench w₀ n y w (s + 1) at c
    bench_skip h q =
        record {
          seen = o.seen;
          ws = o.ws;
          starts = starts_skip t n y.table y.joins o.seen o.ws s h (sym (mark s h) ∙ q) o.starts;
          at_is = o.at_is;
          c_is = o.c_is;
          size = o.size;
          whole = o.whole;
        }
      where
        mark : (x : ℕ) → x < n → get_or w (2 * n + x) 0 ≡ get_or o.seen x 0
        mark x b =
            ap (λ (l : List ℕ). get_or l (2 * n + x) 0) o.whole
            ∙ get_d_right t (o.seen ++ (E ++ (slice (entry_block * n + at) (length_block * n) w₀ ++ tail))) (2 * n) x joins_size
            ∙ get_or-append o.seen (E ++ (slice (entry_block * n + at) (length_block * n) w₀ ++ tail)) 0 x (omega (arith, o.starts.seen_size))

    pub bench_done : n ≤ s → AllWalked w w₀ n c
    bench_done h =
        let e = starts_end t n y.table y.joins o.seen o.ws s h o.starts in
        let all : at ≡ n = o.at_is ∙ ap (λ (us : List (List ℕ)). length (flatten us)) e ∙ walks_length n (from_table t) y.joins in
        let past : entry_block * n + at ≡ length_block * n = omega arith in
        let none : slice (entry_block * n + at) (length_block * n) w₀ ≡ [] = ap (λ (k : ℕ). slice k (length_block * n) w₀) past ∙ slice_empty (length_block * n) w₀ in
        record {
          count = o.c_is ∙ ap length e;
          whole =
              o.whole
              ∙ ap₂ (λ (m : List ℕ) (us : List (List ℕ)). t ++ (m ++ (flatten us ++ (slice (entry_block * n + at) (length_block * n) w₀ ++ (map length us ++ drop (length_block * n + c) w₀)))))
              (starts_marks t n y.table y.joins o.seen o.ws s h o.starts) e
              ∙ ap (λ (l : List ℕ). t ++ (replicate n 1 ++ (flatten (walks_of w₀ n) ++ (l ++ (map length (walks_of w₀ n) ++ drop (length_block * n + c) w₀))))) none;
        }

    pub joins_same : joins_of n w ≡ t
    joins_same = ap (take (2 * n)) o.whole ∙ take_at t (o.seen ++ (E ++ (slice (entry_block * n + at) (length_block * n) w₀ ++ tail))) (2 * n) joins_size

    module _ (h : s < n) (q : get_or w (2 * n + s) 0 ≢ 1) where
      mark : get_or w (2 * n + s) 0 ≡ get_or o.seen s 0
      mark =
          ap (λ (l : List ℕ). get_or l (2 * n + s) 0) o.whole
          ∙ get_d_right t (o.seen ++ (E ++ (slice (entry_block * n + at) (length_block * n) w₀ ++ tail))) (2 * n) s joins_size
          ∙ get_or-append o.seen (E ++ (slice (entry_block * n + at) (length_block * n) w₀ ++ tail)) 0 s (omega (arith, o.starts.seen_size))

      q' : get_or o.seen s 0 ≢ 1
      q' e = q (mark ∙ e)

      abbrev F' : List ℕ
      F' = F t n y.table y.joins o.seen o.ws s h q' o.starts

      marks_same : marks_of n w ≡ o.seen
      marks_same =
          ap (λ (l : List ℕ). slice (2 * n) (entry_block * n) l) o.whole
          ∙ slice_at t o.seen (E ++ (slice (entry_block * n + at) (length_block * n) w₀ ++ tail)) (2 * n) (entry_block * n) joins_size (omega (arith, o.starts.seen_size))

      ahead_same : ahead w n (head_of t n s) ≡ F'
      ahead_same = ap₂ (λ (j m : List ℕ). forward_m j n m (head_of t n s)) joins_same marks_same

      fits : at + length F' ≤ n
      fits = omega (arith, o.at_is, room t n y.table y.joins o.seen o.ws s h q' o.starts)

      pub count_fits : c < n
      count_fits = omega (arith, o.c_is, o.starts.few, fits, o.at_is, not_empty t n y.table y.joins o.seen o.ws s h q' o.starts)

      pub walkable : (e : ℕ) → e ≡ head_of t n s → Walkable w n e at
      walkable e z =
          record {
            table = rw joins_same y.table;
            room = omega (arith, o.size, y.room);
            entry = rw z (head_fits t n y.table y.joins o.seen o.ws s h q' o.starts);
            fits = rw z (omega (arith, fits, ap length ahead_same));
          }

      module _ (e : ℕ) (z : e ≡ head_of t n s) (w' : List ℕ) (r : ℕ) (k : Walked w' w n e at r) where
        r_is : r ≡ length F'
        r_is = k.count ∙ ap (λ (x : ℕ). length (ahead w n x)) z ∙ ap length ahead_same

        pub r_fits : at + r ≤ n
        r_fits = omega (arith, fits, r_is)

        abbrev front : List ℕ
        front = t ++ (marked o.seen F' ++ (E ++ (F' ++ slice (entry_block * n + (at + r)) (length_block * n) w₀)))

        front_size : length front ≡ length_block * n
        front_size =
            simp length-append
            (omega (arith, joins_size, marked_length o.seen F', o.starts.seen_size, o.at_is, r_is, r_fits, length-slice (entry_block * n + (at + r)) (length_block * n) w₀ (omega (arith, y.room))))

        rest : drop (entry_block * n + at + r) w ≡ slice (entry_block * n + (at + r)) (length_block * n) w₀ ++ tail
        rest =
            let i : entry_block * n + at + r ≡ 2 * n + (n + (at + r)) = omega arith in
            ap₂ (λ (j : ℕ) (l : List ℕ). drop j l) i o.whole
            ∙ drop_right t (o.seen ++ (E ++ (slice (entry_block * n + at) (length_block * n) w₀ ++ tail))) (2 * n) (n + (at + r)) joins_size
            ∙ drop_right o.seen (E ++ (slice (entry_block * n + at) (length_block * n) w₀ ++ tail)) n (at + r) o.starts.seen_size
            ∙ drop_right E (slice (entry_block * n + at) (length_block * n) w₀ ++ tail) at r (sym o.at_is)
            ∙ drop-append-le r (slice (entry_block * n + at) (length_block * n) w₀) tail (omega (arith, r_fits, length-slice (entry_block * n + at) (length_block * n) w₀ (omega (arith, y.room))))
            ∙ ap (λ (l : List ℕ). l ++ tail) (drop-drop r (entry_block * n + at) (take (length_block * n) w₀)
            ∙ (let i : entry_block * n + at + r ≡ entry_block * n + (at + r) = omega arith in ap (λ (j : ℕ). drop j (take (length_block * n) w₀)) i))

        entries : slice (entry_block * n) (entry_block * n + at) w ≡ E
        entries =
            ap (λ (l : List ℕ). slice (entry_block * n) (entry_block * n + at) l) (o.whole ∙ sym (append_assoc t o.seen (E ++ (slice (entry_block * n + at) (length_block * n) w₀ ++ tail))))
            ∙ slice_at (t ++ o.seen) E (slice (entry_block * n + at) (length_block * n) w₀ ++ tail) (entry_block * n) (entry_block * n + at) (length-append t o.seen ∙ omega (arith, joins_size, o.starts.seen_size)) (omega (arith, o.at_is))

        walked : w' ≡ front ++ tail
        walked =
            k.whole
            ∙ ap (λ (x : ℕ). joins_of n w ++ (marked (marks_of n w) (ahead w n x) ++ (slice (entry_block * n) (entry_block * n + at) w ++ (ahead w n x ++ drop (entry_block * n + at + r) w)))) z
            ∙ ap₂ (λ (j d : List ℕ). j ++ (marked (marks_of n w) (ahead w n (head_of t n s)) ++ (slice (entry_block * n) (entry_block * n + at) w ++ (ahead w n (head_of t n s) ++ d)))) joins_same rest
            ∙ ap₂ (λ (m a : List ℕ). t ++ (marked m a ++ (slice (entry_block * n) (entry_block * n + at) w ++ (a ++ (slice (entry_block * n + (at + r)) (length_block * n) w₀ ++ tail))))) marks_same ahead_same
            ∙ ap (λ (x : List ℕ). t ++ (marked o.seen F' ++ (x ++ (F' ++ (slice (entry_block * n + (at + r)) (length_block * n) w₀ ++ tail))))) entries
            ∙ simp append_assoc

        pub walked_size : length w' ≡ length w₀
        walked_size =
            ap length walked ∙ length-append front tail
            ∙ omega (arith, front_size, length-append (map length o.ws) (drop (length_block * n + c) w₀), length-map o.ws length, length-drop (length_block * n + c) w₀, o.c_is, count_fits, y.room)

        pub bench_walk : Bench w₀ n y (set w' (length_block * n + c) r) (s + 1) (at + r) (c + 1)
        bench_walk =
            record {
              seen = marked o.seen F';
              ws = o.ws ++ (F' ∷ []);
              starts = starts_walk t n y.table y.joins o.seen o.ws s h q' o.starts;
              at_is = omega (arith, o.at_is, r_is, ap length (flatten_snoc o.ws F'), length-append E F');
              c_is = omega (arith, o.c_is, length-append o.ws (F' ∷ []));
              size = length-set w' (length_block * n + c) r ∙ walked_size;
              whole =
                  let i : suc (length_block * n + c) ≡ length_block * n + (c + 1) = omega arith in
                  ap (λ (l : List ℕ). set l (length_block * n + c) r) (walked ∙ ap (λ (l : List ℕ). front ++ (map length o.ws ++ l)) (drop-cons w₀ (length_block * n + c) 0 (omega (arith, y.room, count_fits))))
                  ∙ set_right front (map length o.ws ++ (get_or w₀ (length_block * n + c) 0 ∷ drop (suc (length_block * n + c)) w₀)) (length_block * n) c r front_size
                  ∙ ap (λ (l : List ℕ). front ++ l) (set_at (map length o.ws) (get_or w₀ (length_block * n + c) 0) (drop (suc (length_block * n + c)) w₀) r c (length-map o.ws length ∙ sym o.c_is))
                  ∙ ap₂ (λ (x j : ℕ). front ++ (map length o.ws ++ (x ∷ drop j w₀))) r_is i
                  ∙ regroup t (marked o.seen F') E F' (slice (entry_block * n + (at + r)) (length_block * n) w₀) (map length o.ws) (length F') (drop (length_block * n + (c + 1)) w₀)
                  ∙ sym (ap₂ (λ (a b : List ℕ). t ++ (marked o.seen F' ++ (a ++ (slice (entry_block * n + (at + r)) (length_block * n) w₀ ++ (b ++ drop (length_block * n + (c + 1)) w₀))))) (flatten_snoc o.ws F') (map-append length o.ws (F' ∷ [])));
            }
