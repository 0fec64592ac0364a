-- The turns of the route: the pairs taken so far are written, and with what can still be selected they are all. With each turn two more ends are taken, or one pair
-- in the heap less has an end that is taken.
use Prim.Native.Nat.{ℕ, zero, suc, ◌+◌, ◌*◌, ◌/◌, ◌%◌, ◌^◌, ◌≤◌, ◌<◌}
use mathlib.Core.Path.{◌≡◌, refl, sym, ◌∙◌, ap, subst}
use mathlib.Core.Bool.{Bool, true, false, cond, not, ◌||◌}
use mathlib.Core.List.{List}
use mathlib.Core.Logic.{⊎_elim}
use native.Mathlib.Omega.{arith}
use native.Mathlib.Nat.{mul-le-mul_right}
use lib.Dec.{eqb}
use lib.ListN.{length, get_or, set, take, drop, replicate}
use lib.Seq.{slice, take_at, get_or-take, length-slice, length-take-le, ext_get_or}
use borrow.Author.Tests.{ne_eqb, not-true, not-false}
use Rattle.rules.specs.Lists.{one}
use Rattle.rules.specs.Selecting.{End}
use Rattle.pair_bounds.specs.Search.{place}
use Rattle.pair_laws.specs.Ranked.{RankedPair, busy, select}
use Rattle.pair_laws.specs.Ends.{node_of}
use Rattle.pair_laws.specs.Taking.{used_of, listed, IsLeast}
use Rattle.pair_laws.proofs.Greedy.{or_false_left, or_false_right}
use Rattle.pair_laws.proofs.Taking.{Taken, taken_start, taken_step, taken_all, turn_room, turn_falls, zeros, length_listed}
use Rattle.pair_ends.specs.Blocks.{pairs_from, marks_from, order_from, heap_from, index_from, note_from}
use Rattle.rules.specs.Refusals.{end_room}
use Rattle.pair_ends.specs.Ends.{EndsRoom, Selected, ends_in}
use Rattle.pair_ends.proofs.Reading.{get_d_slice}
use Rattle.pair_tree.specs.Flat.{own}
use Rattle.pair_tree.specs.Places.{gone, none}
use Rattle.pair_tree.specs.Words.{Changes}
use Rattle.pair_tree.proofs.Flat.{same_or}
use Rattle.pair_tree.proofs.Words.{changes_none, changes_then, changes_wider}
use Rattle.pair_heap.specs.declared.Entry.{Entry}
use Rattle.pair_heap.specs.Heap.{node_at, code_of, coded, Decoded}
use Rattle.pair_heap.proofs.Top.{AtSlot, coded_none, coded_some, code_at, code_small}
use Rattle.pair_owners.specs.Tables.{slot_at}
use Rattle.pair_owners.specs.Owners.{tally}
use Rattle.pair_owners.proofs.Next.{same_at, same_past}
use Rattle.pair_owners.proofs.Turns.{take_kept}
use Rattle.pair_indexed.specs.Route.{pairs_in, marks_in, taken_in, NoThird, Owning, Stale, Refreshed, Takes, Takings, RouteReady}
use Rattle.pair_indexed.proofs.Parts.{same_below, slice_kept, drop_kept, marks_kept, pairs_length}
use Rattle.pair_indexed.proofs.Third.{no_third}
use Rattle.pair_indexed.proofs.Keeping.{query, heap_whole, answered, slot_here}
use Rattle.pair_indexed.proofs.Filling.{owning_again, sets_changes}
use Rattle.pair_indexed.proofs.Choosing.{many, none_left, at_slot, some_pair, owner_in, owner_slot, owner_free, slot_in, pair_lower, pair_below, next_pair}

-- ---- what falls

-- a pair in the heap with an end that is taken, told from its node
unfoldable pub old : (ℕ → Bool) → ℕ → Bool
old used v = cond (eqb (v % 2 ^ 64) gone) false (used (v % 2 ^ 64 / 16384) || used (v % 2 ^ 64 / 2 % 8192))

low_word : (k c : ℕ) → c ≤ gone → place k c % 2 ^ 64 ≡ c
low_word k c h = omega arith

none_word : none % 2 ^ 64 ≡ gone
unfolding none
none_word = low_word gone gone (omega arith)

old_none : (used : ℕ → Bool) (o : ℕ) (p : RankedPair) → p.j ≡ 0 → old used (coded o p) ≡ false
unfolding old
old_none used o p e = rw (coded_none o p e, none_word)

old_busy : (used : ℕ → Bool) (o : ℕ) (p : RankedPair) → 0 < p.j → p.i < 8192 → p.j < 8192 → old used (coded o p) ≡ busy used p
unfolding old busy
old_busy used o p z a b =
    let t = code_at o p in
    let c = code_small o p a b in
    let i : code_of o p / 16384 ≡ p.i = omega (arith, t.1, t.2) in
    let j : code_of o p / 2 % 8192 ≡ p.j = omega (arith, t.1, t.2) in
    rw (coded_some o p z, low_word p.key (code_of o p) (omega arith), ne_eqb (code_of o p) gone (λ x. omega arith), i, j)

one_most : (b : Bool) → one b ≤ 1
one_most true = omega arith
one_most false = omega arith

tally_most : (f : ℕ → Bool) (n : ℕ) → tally f n ≤ n
unfolding tally
tally_most f zero = omega arith
tally_most f (suc n) = omega (arith, one_most (f n), tally_most f n)

tally_same : (f g : ℕ → Bool) (n : ℕ) → ((x : ℕ) → x < n → g x ≡ f x) → tally g n ≡ tally f n
unfolding tally
tally_same f g zero h = refl
tally_same f g (suc n) h = rw (h n (omega arith), tally_same f g n (λ x l. h x (omega arith)))

-- one less passes
tally_less : (f g : ℕ → Bool) (n m : ℕ) → m < n → f m ≡ true → g m ≡ false → ((x : ℕ) → x < n → (x ≡ m → ⊥) → g x ≡ f x) → tally g n < tally f n
unfolding tally
tally_less f g zero m h t u e = absurd (omega arith)
tally_less f g (suc n) m h t u e =
    ⊎_elim
    (λ (q : m ≡ n).
    let a : one (f n) ≡ 1 = ap one (ap f (sym q) ∙ t) in
    let b : one (g n) ≡ 0 = ap one (ap g (sym q) ∙ u) in
    omega (arith, tally_same f g n (λ x l. e x (omega arith) (λ y. omega arith))))
    (λ (q : m ≡ n → ⊥). omega (arith, ap one (e n (omega arith) (λ y. q (sym y))), tally_less f g n m (omega arith) t u (λ x l. e x (omega arith))))
    (same_or m n)

abbrev pub olds : List ℕ → ℕ → ℕ → ℕ
olds w d slots = tally (λ x. old (taken_in w d) (node_at w (d * heap_from) (slots + x))) slots

abbrev pub remaining : List ℕ → ℕ → ℕ → ℕ
remaining w d slots = zeros (marks_in w d) * suc slots + olds w d slots

falls_taken : (z z' n c c' : ℕ) → z' < z → c' ≤ n → z' * suc n + c' < z * suc n + c
falls_taken z z' n c c' e h = omega (arith, mul-le-mul_right (suc n) e)

-- ---- the turns

pub record Going (w₀ w : List ℕ) (d height slots limit n : ℕ) : Type 0 where
  pub owning : Owning (ends_in w₀ d) w d height slots limit (taken_in w d) slots
  pub taken : Taken (node_of (ends_in w₀ d)) limit (pairs_in w₀ d) (pairs_in w d) (marks_in w d) n
  pub few : NoThird w d slots
  pub kept : Changes w₀ w (d * pairs_from) (d * note_from)

pub going_start : (w : List ℕ) (d height slots limit : ℕ) → RouteReady w d height slots limit → Going w w d height slots limit 0
going_start w d height slots limit r =
    record {
      owning = r.owning;
      taken =
          taken_start (node_of (ends_in w d)) limit (pairs_in w d) (marks_in w d) (r.unmarked ∙ ap (λ (m : ℕ). replicate m 0) (sym (many r.owning)));
      few = r.few;
      kept = changes_none w (d * pairs_from) (d * note_from);
    }

module _ {w₀ w : List ℕ} {d height slots limit n : ℕ} (g : Going w₀ w d height slots limit n) where
  pub first_in : d * heap_from + 3 < length w
  first_in = omega (arith, g.owning.ground.room.long, g.owning.ground.sized.some, g.owning.ground.sized.narrow)

-- what `live` says
pub both_free : {q b : Bool} → q ≡ not b → q ≡ true → b ≡ false
both_free {q} {b} e h = not-true b (sym e ∙ h)

pub one_taken : {q b : Bool} → q ≡ not b → q ≡ false → b ≡ true
one_taken {q} {b} e h = not-false b (sym e ∙ h)

module _ {w₀ w : List ℕ} {d height slots limit n : ℕ} (g : Going w₀ w d height slots limit n) (r : Entry) (c : Decoded (get_or w (d * heap_from + 3) 0) r) where
  abbrev l : List End
  l = ends_in w₀ d

  room : EndsRoom w d
  room = g.owning.ground.room

  -- what a code that is found tells
  pub going_some : (get_or w (d * heap_from + 3) 0 ≡ gone → ⊥) → r.j ≡ 0 → ⊥
  going_some = some_pair g.owning r c

  -- ---- no pair is left
  module _ (e : r.j ≡ 0) where
    nothing : RankedPair
    nothing = record { key = 0; i = 0; j = 0 }

    all : g.taken.taken ≡ select (node_of l) limit
    unfolding nothing
    all =
        taken_all (node_of l) limit (pairs_in w₀ d) (pairs_in w d) (marks_in w d) n nothing g.taken
        (none_left g.owning r c e nothing refl) refl

    pub going_stop : Selected w₀ d limit n w
    going_stop =
        record {
          count = sym g.taken.counted ∙ ap length all;
          pairs = first_pairs ∙ ap listed all;
          kept = take_kept (d * pairs_from) g.kept (omega arith) (omega (arith, room.long, g.kept.long));
          beyond = drop_kept w₀ w (d * end_room) g.kept.long (λ k h. g.kept.beyond k (omega arith));
        }
      where
        two_each : length (listed g.taken.taken) ≡ n * 2
        two_each = length_listed g.taken.taken ∙ sums g.taken.counted
          where
            sums : length g.taken.taken ≡ n → length g.taken.taken + length g.taken.taken ≡ n * 2
            sums h = omega arith

        fits : n * 2 ≤ d
        fits = omega (arith, g.taken.room, many g.owning)

        shorter : slice (d * pairs_from) (d * pairs_from + n * 2) w ≡ take (n * 2) (pairs_in w d)
        shorter =
            ext_get_or 0 (slice (d * pairs_from) (d * pairs_from + n * 2) w) (take (n * 2) (pairs_in w d))
            (long ∙ sym (length-take-le (n * 2) (pairs_in w d) (omega (arith, fits, pairs_length w d room))))
            (λ i k.
            let j : i < n * 2 = omega (arith, k, long) in
            get_d_slice (d * pairs_from) (d * pairs_from + n * 2) w i (omega arith)
            ∙ sym (get_or-take (n * 2) (pairs_in w d) i 0 j ∙ get_d_slice (d * pairs_from) (d * marks_from) w i (omega (arith, fits))))
          where
            long : length (slice (d * pairs_from) (d * pairs_from + n * 2) w) ≡ n * 2
            long = length-slice (d * pairs_from) (d * pairs_from + n * 2) w (omega (arith, fits, room.long)) ∙ omega arith

        first_pairs : slice (d * pairs_from) (d * pairs_from + n * 2) w ≡ listed g.taken.taken
        first_pairs =
            shorter ∙ ap (take (n * 2)) g.taken.written
            ∙ take_at (listed g.taken.taken) (drop (n + n) (pairs_in w₀ d)) (n * 2) two_each

  -- ---- the heap's first pair
  module _ (e : r.j ≡ 0 → ⊥) where
    x : ℕ
    x = (at_slot g.owning r c e).0

    t : AtSlot g.owning.owner g.owning.P slots r x
    unfolding x
    t = (at_slot g.owning r c e).1

    P : RankedPair
    P = g.owning.P x

    o_in : r.owner < d
    o_in = owner_in g.owning r c t

    o_slot : g.owning.slot r.owner < d
    o_slot = subst (λ (y : ℕ). y < d) (sym (owner_slot g.owning r c t)) (slot_in g.owning r c t)

    pub j_in : r.j < d
    j_in = pair_below g.owning r c t

    pub i_in : r.i < d
    i_in = omega (arith, pair_lower g.owning r c t, j_in)

    busy_is : busy (taken_in w d) P ≡ (taken_in w d r.i || taken_in w d r.j)
    unfolding busy P
    busy_is = rw (t.i_is, t.j_is)

    -- one of its ends is taken: its owner's pair anew
    pub going_stale : Stale w d slots height limit r.owner
    going_stale =
        record {
          query = query g.owning.ground g.owning.indexed r.owner o_in;
          whole =
              heap_whole g.owning r.owner o_in o_slot (owner_free g.owning r c t);
        }

    module _ {w' : List ℕ} (f : Refreshed w w' d slots height limit r.owner) where
      changes : Changes w w' (d * heap_from) (d * index_from)
      changes = sets_changes g.owning f.sets

      marks_same : marks_in w' d ≡ marks_in w d
      marks_same = marks_kept w w' d room changes.long (same_below changes (d * marks_from) (d * order_from) (omega arith))

      pairs_same : pairs_in w' d ≡ pairs_in w d
      pairs_same = slice_kept w w' (d * pairs_from) (d * marks_from) changes.long (omega (arith, room.long)) (same_below changes (d * pairs_from) (d * marks_from) (omega arith))

      again : Owning l w' d height slots limit (taken_in w' d) slots
      again =
          subst (λ (m : List ℕ). Owning l w' d height slots limit (used_of m) slots) (sym marks_same)
          (owning_again g.owning r.owner o_in o_slot (owner_free g.owning r c t) (owner_free g.owning r c t) f)

      pub going_again : Going w₀ w' d height slots limit n
      going_again =
          record {
            owning = again;
            few = no_third again;
            taken =
                subst (λ (m : List ℕ). Taken (node_of l) limit (pairs_in w₀ d) (pairs_in w' d) m n) (sym marks_same)
                (subst (λ (m : List ℕ). Taken (node_of l) limit (pairs_in w₀ d) m (marks_in w d) n) (sym pairs_same) g.taken);
            kept = changes_then g.kept (changes_wider (d * pairs_from) (d * note_from) (omega arith) (omega arith) changes);
          }

      pub again_falls : (taken_in w d r.i || taken_in w d r.j) ≡ true → remaining w' d slots < remaining w d slots
      unfolding P
      again_falls b = fewer _ _ _ _ (ap zeros marks_same) less
        where
          fewer : (z z' a a' : ℕ) → z' ≡ z → a' < a → z' * suc slots + a' < z * suc slots + a
          fewer z z' a a' p q = subst (λ (y : ℕ). y * suc slots + a' < z * suc slots + a) (sym p) (omega arith)

          before_is : old (taken_in w d) (node_at w (d * heap_from) (slots + x)) ≡ true
          before_is =
              ap (old (taken_in w d)) (g.owning.heaped.leaf x t.within (λ y. omega (arith, y, t.within)))
              ∙ old_busy (taken_in w d) (g.owning.owner x) (g.owning.P x) t.some (omega (arith, t.i_is, i_in, room.few)) (omega (arith, t.j_is, j_in, room.few))
              ∙ busy_is ∙ b

          at_x : slot_at w d r.owner ≡ x
          at_x = slot_here g.owning r.owner o_in ∙ owner_slot g.owning r c t

          leaf : (y : ℕ) → y < slots → node_at w' (d * heap_from) (slots + y) ≡ cond (eqb y x) (coded r.owner f.best) (node_at w (d * heap_from) (slots + y))
          leaf y h = f.sets.whole.leaves y h ∙ ap (λ (z : ℕ). cond (eqb y z) (coded r.owner f.best) (node_at w (d * heap_from) (slots + y))) at_x

          fresh : old (taken_in w d) (coded r.owner f.best) ≡ false
          fresh =
              ⊎_elim
              (λ (q : f.best.j ≡ 0). old_none (taken_in w d) r.owner f.best q)
              (λ (q : f.best.j ≡ 0 → ⊥).
              let k : 0 < f.best.j = omega arith in
              old_busy (taken_in w d) r.owner f.best k (omega (arith, f.answers.i_below, room.few)) (omega (arith, f.answers.j_below, room.few))
              ∙ (answered g.owning.ground g.owning.indexed r.owner f.best f.answers (owner_free g.owning r c t)).free k)
              (same_or f.best.j 0)

          less : olds w' d slots < olds w d slots
          less =
              subst (λ (m : List ℕ). tally (λ y. old (used_of m) (node_at w' (d * heap_from) (slots + y))) slots < olds w d slots) (sym marks_same)
              (tally_less (λ y. old (taken_in w d) (node_at w (d * heap_from) (slots + y))) (λ y. old (taken_in w d) (node_at w' (d * heap_from) (slots + y))) slots x t.within before_is
              (ap (old (taken_in w d)) (leaf x t.within ∙ same_at (own (node_at w (d * heap_from)) slots) x (coded r.owner f.best) x refl) ∙ fresh)
              (λ y h q. ap (old (taken_in w d)) (leaf y h ∙ same_past (own (node_at w (d * heap_from)) slots) x (coded r.owner f.best) y q)))

    -- it is free, and taken
    module _ (b : (taken_in w d r.i || taken_in w d r.j) ≡ false) where
      least : IsLeast (node_of l) limit (taken_in w d) P
      unfolding P
      least = next_pair g.owning r c t (busy_is ∙ b)

      wide : (node_of l).d ≤ length (pairs_in w₀ d)
      wide = omega (arith, many g.owning, pairs_length w d room, g.taken.outs)

      some : 0 < P.j
      unfolding P
      some = t.some

      pub going_takes : Takes w d height slots limit n r.i r.j
      unfolding P
      going_takes =
          record {
            l = l;
            owning = g.owning;
            lower = pair_lower g.owning r c t;
            below = j_in;
            free_i = or_false_left (taken_in w d r.i) (taken_in w d r.j) b;
            free_j = or_false_right (taken_in w d r.i) (taken_in w d r.j) b;
            place =
                omega (arith, turn_room (node_of l) limit (pairs_in w₀ d) (pairs_in w d) (marks_in w d) n P g.taken least wide some, pairs_length w d room);
          }

      module _ {w' : List ℕ} (k : Takings w w' d height slots limit n r.i r.j) where
        marks_is : marks_in w' d ≡ set (set (marks_in w d) P.i 1) P.j 1
        unfolding P
        marks_is = rw (t.i_is, t.j_is) k.marks

        pairs_is : pairs_in w' d ≡ set (set (pairs_in w d) (n + n) P.i) (n + n + 1) P.j
        unfolding P
        pairs_is = rw (t.i_is, t.j_is) k.pairs

        pub going_took : Going w₀ w' d height slots limit (n + 1)
        going_took =
            record {
              owning = k.owning l g.owning;
              few = k.few;
              taken =
                  subst (λ (m : List ℕ). Taken (node_of l) limit (pairs_in w₀ d) (pairs_in w' d) m (n + 1)) (sym marks_is)
                  (subst (λ (m : List ℕ). Taken (node_of l) limit (pairs_in w₀ d) m (set (set (marks_in w d) P.i 1) P.j 1) (n + 1)) (sym pairs_is)
                  (taken_step (node_of l) limit (pairs_in w₀ d) (pairs_in w d) (marks_in w d) n P g.taken least wide some));
              kept = changes_then g.kept k.kept;
            }

        pub took_falls : remaining w' d slots < remaining w d slots
        took_falls =
            falls_taken (zeros (marks_in w d)) (zeros (marks_in w' d)) slots (olds w d slots) (olds w' d slots)
            (subst (λ (m : List ℕ). zeros m < zeros (marks_in w d)) (sym marks_is)
            (turn_falls (node_of l) limit (pairs_in w₀ d) (pairs_in w d) (marks_in w d) n P g.taken least wide some))
            (tally_most (λ y. old (taken_in w' d) (node_at w' (d * heap_from) (slots + y))) slots)
