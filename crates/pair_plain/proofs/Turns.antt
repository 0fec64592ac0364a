-- The turns of the plain route: what holds between them, that going through a row again and taking the least pair held keep it, and that the selection is listed
-- when no row holds a pair.
use Prim.Native.Nat.{ℕ, ◌+◌, ◌*◌, ◌≤◌, ◌<◌}
use mathlib.Core.Path.{◌≡◌, refl, sym, ap, ◌∙◌, subst}
use mathlib.Core.Bool.{Bool, true, false, not}
use mathlib.Core.Logic.{◌⊎◌, inl, inr}
use mathlib.Core.List.{List, [], ◌++◌}
use native.Mathlib.Omega.{arith}
use lib.Dec.{eqb}
use lib.Ieee.{Float}
use lib.ListN.{length, get_or, length-append}
use borrow.Author.Tests.{eqb-true, eqb-false}
use Rattle.rules.specs.Lists.{one}
use Rattle.rules.specs.Selecting.{End}
use Rattle.float_order.specs.Key.{key_nan, key}
use Rattle.pair_laws.specs.Ranked.{RankedPair, Node, candidates, select_from, select}
use Rattle.pair_laws.specs.Sets.{In}
use Rattle.pair_laws.specs.Taking.{listed, IsFirst}
use Rattle.pair_laws.specs.Ends.{node_of}
use Rattle.pair_laws.proofs.Order.{two}
use Rattle.pair_laws.proofs.Laws.{in_candidates}
use Rattle.pair_laws.proofs.Room.{ranked_room}
use Rattle.pair_ends.specs.Blocks.{pairs_from, marks_from, row_keys_from, partners_from, lows_from}
use Rattle.rules.specs.Refusals.{end_room}
use Rattle.pair_ends.specs.Ends.{EndsRoom, direction_at, ends_in}
use Rattle.pair_ends.proofs.Reading.{ends_in_length, key_in}
use Rattle.pair_first_of_end.specs.declared.Held.{Held}
use Rattle.pair_first_of_end.specs.Near.{numbered}
use Rattle.pair_first_of_end.specs.Row.{mark_at, used_in, pair_of, First}
use Rattle.pair_first_of_end.proofs.Measures.{low_numbered}
use Rattle.pair_first_of_end.proofs.Walk.{used_marked, used_free}
use Rattle.pair_plain.specs.Steps.{held_at, Marked, Renewed, Rows}
use Rattle.pair_plain.proofs.Frames.{used_same, ends_same, renewed_long, renewed_other, renewed_row, renewed_rows}
use Rattle.pair_plain.proofs.Holding.{Holding, holding_first, idle_first, candidate_low, select_out}

abbrev pub node : List ℕ → ℕ → Node
node w d = node_of (ends_in w d)

abbrev pub row : List ℕ → ℕ → ℕ → RankedPair
row w d i = pair_of i (held_at w d i)

-- Between two turns, w₀ being the workspace at entry: n pairs are taken and listed, and with what can still be selected they are the selection. An end that isn't
-- marked has a direction of two numbers, and the row of one that is marked holds none.
pub record Core (w₀ : List ℕ) (d : ℕ) (limit : Float) (w : List ℕ) (n : ℕ) : Type 0 where
  pub long : length w ≡ length w₀
  pub kept : (x : ℕ) → x < d * pairs_from → get_or w x 0 ≡ get_or w₀ x 0
  pub beyond : (x : ℕ) → d * end_room ≤ x → get_or w x 0 ≡ get_or w₀ x 0
  pub free : (e : ℕ) → e < d → mark_at w d e ≡ 0 → numbered (direction_at w₀ d e) ≡ true
  pub taken : List RankedPair
  pub count : length taken ≡ n
  pub pairs : (k : ℕ) → k < n * 2 → get_or w (d * pairs_from + k) 0 ≡ get_or (listed taken) k 0
  pub left : taken ++ select_from (node w₀ d) (key limit) (used_in w d) ≡ select (node w₀ d) (key limit)
  pub rows : (i : ℕ) → i < d → Holding (node w₀ d) (key limit) (used_in w d) i (row w d i)
  pub idle : (e : ℕ) → e < d → (mark_at w d e ≡ 0 → ⊥) → get_or w (d * row_keys_from + e) 0 ≡ key_nan

module _ (w₀ : List ℕ) (d : ℕ) (limit : Float) (room : EndsRoom w₀ d) (low : key limit < key_nan) where
  six : d * row_keys_from ≤ length w₀
  six = omega (arith, room.long)

  ends_are : length (ends_in w₀ d) ≡ d
  ends_are = ends_in_length w₀ d (omega (arith, room.long))

  -- a free row is gone through: over w₀'s ends
  first_of_w₀ : (w : List ℕ) (n i : ℕ) (held : Held) → Core w₀ d limit w n → First w d limit i held → IsFirst (node w₀ d) (key limit) (used_in w d) i (pair_of i held)
  first_of_w₀ w n i held c f =
      subst (λ (l : List End). IsFirst (node_of l) (key limit) (used_in w d) i (pair_of i held)) (ends_same w₀ w c.long d six c.kept) f.pair

  -- at most d / 2 pairs are selected
  pub pairs_fit : (w : List ℕ) (n : ℕ) → Core w₀ d limit w n → 2 * n ≤ d
  pairs_fit w n c =
      omega (
        arith,
        ranked_room (node w₀ d) (key limit),
        ends_are,
        c.count,
        ap length c.left,
        length-append c.taken (select_from (node w₀ d) (key limit) (used_in w d)),
      )

  -- ---- words that nothing here is read from

  pub core_same : (w w' : List ℕ) (n : ℕ) → length w' ≡ length w → ((x : ℕ) → (x < d * lows_from) ⊎ (d * end_room ≤ x) → get_or w' x 0 ≡ get_or w x 0) → Core w₀ d limit w n → Core w₀ d limit w' n
  core_same w w' n long same c =
      record {
        long = long ∙ c.long;
        kept = λ x h. same x (inl (omega arith)) ∙ c.kept x h;
        beyond = λ x h. same x (inr h) ∙ c.beyond x h;
        free = λ e h m. c.free e h (sym (marks e h) ∙ m);
        taken = c.taken;
        count = c.count;
        pairs = λ k h. same (d * pairs_from + k) (inl (omega (arith, pairs_fit w n c))) ∙ c.pairs k h;
        left = subst (λ (u : ℕ → Bool). c.taken ++ select_from (node w₀ d) (key limit) u ≡ select (node w₀ d) (key limit)) (sym used) c.left;
        rows = λ i h. rw used (subst (λ (p : Held). Holding (node w₀ d) (key limit) (used_in w d) i (pair_of i p)) (held i h) (c.rows i h));
        idle = λ e h m. same (d * row_keys_from + e) (inl (omega arith)) ∙ c.idle e h (λ z. m (marks e h ∙ z));
      }
    where
      marks : (e : ℕ) → e < d → mark_at w' d e ≡ mark_at w d e
      marks e h = same (d * marks_from + e) (inl (omega arith))

      used : used_in w' d ≡ used_in w d
      used = used_same w w' long d (omega (arith, six, c.long)) marks

      held : (i : ℕ) → i < d → held_at w d i ≡ held_at w' d i
      held i h = λ t. record { key = sym (same (d * row_keys_from + i) (inl (omega arith))) t; partner = sym (same (d * partners_from + i) (inl (omega arith))) t }

  -- ---- before the first turn

  module _ (w₁ w₂ : List ℕ) (long₁ : length w₁ ≡ length w₀) (m : Marked w₀ d w₁) (long₂ : length w₂ ≡ length w₁) (r : Rows w₁ d limit d w₂) where
    kept₁ : (x : ℕ) → x < d * pairs_from → get_or w₁ x 0 ≡ get_or w₀ x 0
    kept₁ x h = m.others x (inl (omega arith))

    marks₂ : (e : ℕ) → e < d → mark_at w₂ d e ≡ mark_at w₁ d e
    marks₂ e h = r.others (d * marks_from + e) (inl (omega arith))

    used₂ : used_in w₂ d ≡ used_in w₁ d
    used₂ = used_same w₁ w₂ long₂ d (omega (arith, six)) marks₂

    unmarked : (e : ℕ) → e < d → mark_at w₂ d e ≡ 0 → numbered (direction_at w₀ d e) ≡ true
    unmarked e h z = go (numbered (direction_at w₀ d e)) (sym (m.marks e h) ∙ sym (marks₂ e h) ∙ z)
      where
        go : (t : Bool) → one (not t) ≡ 0 → t ≡ true
        go true k = refl
        go false k = absurd (omega arith)

    free_end : (e : ℕ) → e < d → numbered (direction_at w₀ d e) ≡ true → used_in w₂ d e ≡ false
    free_end e h z = used_free w₂ d e h (marks₂ e h ∙ m.marks e h ∙ ap (λ (t : Bool). one (not t)) z)

    first₂ : (i : ℕ) → i < d → IsFirst (node w₀ d) (key limit) (used_in w₂ d) i (row w₂ d i)
    first₂ i h =
        rw used₂
        (subst (λ (l : List End). IsFirst (node_of l) (key limit) (used_in w₁ d) i (row w₂ d i)) (ends_same w₀ w₁ long₁ d six kept₁) (r.first i h).pair)

    pub core_start : Core w₀ d limit w₂ 0
    unfolding listed
    core_start =
        record {
          long = long₂ ∙ long₁;
          kept = λ x h. r.others x (inl (omega arith)) ∙ kept₁ x h;
          beyond = λ x h. r.others x (inr (omega arith)) ∙ m.others x (inr (omega arith));
          free = unmarked;
          taken = [];
          count = refl;
          pairs = λ k h. absurd (omega arith);
          left = select_out (node w₀ d) (key limit) (used_in w₂ d) (λ q i. free_pair q i);
          rows = λ i h. holding_first (node w₀ d) (key limit) low (used_in w₂ d) i (row w₂ d i) (first₂ i h) (r.first i h).none;
          idle = λ e h z. idle_first (node w₀ d) (key limit) (used_in w₂ d) e (row w₂ d e) (first₂ e h) (r.first e h).none (used_marked w₂ d e h z);
        }
      where
        -- a qualifying pair's ends have directions of two numbers, and so are not marked
        free_pair : (q : RankedPair) → In q (candidates (node w₀ d) (key limit)) → (used_in w₂ d q.i ≡ false) × (used_in w₂ d q.j ≡ false)
        free_pair q i = (free_end q.i hi numbers.0, free_end q.j hj numbers.1)
          where
            ends : (q.i < q.j) × (q.j < d)
            ends = (let t = (in_candidates (node w₀ d) (key limit) q i).0 in (t.lower, omega (arith, t.below, ends_are)))

            hi : q.i < d
            hi = omega (arith, ends)

            hj : q.j < d
            hj = ends.1

            numbers : (numbered (direction_at w₀ d q.i) ≡ true) × (numbered (direction_at w₀ d q.j) ≡ true)
            numbers =
                low_numbered (direction_at w₀ d q.i) (direction_at w₀ d q.j)
                (omega (
                  arith,
                  candidate_low (node w₀ d) (key limit) low q i,
                  (in_candidates (node w₀ d) (key limit) q i).0.keyed,
                  key_in w₀ d (omega (arith, room.long)) q.i q.j hi hj,
                ))

  -- ---- a row is gone through again

  pub core_renew : (w w' : List ℕ) (n i : ℕ) → i < d → Renewed w d limit i w' → Core w₀ d limit w n → Core w₀ d limit w' n
  core_renew w w' n i i<d r c =
      record {
        long = long ∙ c.long;
        kept = λ x h. other x (λ e. omega arith) (λ e. omega arith) ∙ c.kept x h;
        beyond = λ x h. other x (λ e. omega arith) (λ e. omega arith) ∙ c.beyond x h;
        free = λ e h m. c.free e h (sym (marks e h) ∙ m);
        taken = c.taken;
        count = c.count;
        pairs = λ k h. other (d * pairs_from + k) (λ e. omega (arith, pairs_fit w n c)) (λ e. omega (arith, pairs_fit w n c)) ∙ c.pairs k h;
        left = subst (λ (u : ℕ → Bool). c.taken ++ select_from (node w₀ d) (key limit) u ≡ select (node w₀ d) (key limit)) (sym used) c.left;
        rows = λ x h. rw used (rows x h (two (eqb x i)));
        idle = λ e h m. idle e h (λ z. m (marks e h ∙ z)) (two (eqb e i));
      }
    where
      long : length w' ≡ length w
      long = renewed_long w w' d limit i r

      other : (x : ℕ) → (x ≡ d * row_keys_from + i → ⊥) → (x ≡ d * partners_from + i → ⊥) → get_or w' x 0 ≡ get_or w x 0
      other = renewed_other w w' d limit i r

      marks : (e : ℕ) → e < d → mark_at w' d e ≡ mark_at w d e
      marks e h = other (d * marks_from + e) (λ q. omega arith) (λ q. omega arith)

      used : used_in w' d ≡ used_in w d
      used = used_same w w' long d (omega (arith, six, c.long)) marks

      here : held_at w' d i ≡ r.held
      here = renewed_row w w' d limit i r (omega (arith, room.long, c.long)) i<d

      first : IsFirst (node w₀ d) (key limit) (used_in w d) i (pair_of i r.held)
      first = first_of_w₀ w n i r.held c r.first

      rows : (x : ℕ) → x < d → (eqb x i ≡ true) ⊎ (eqb x i ≡ false) → Holding (node w₀ d) (key limit) (used_in w d) x (row w' d x)
      rows x h (inl e) =
          subst (λ (y : ℕ). Holding (node w₀ d) (key limit) (used_in w d) y (row w' d y)) (sym (eqb-true x i e))
          (subst (λ (p : Held). Holding (node w₀ d) (key limit) (used_in w d) i (pair_of i p)) (sym here)
          (holding_first (node w₀ d) (key limit) low (used_in w d) i (pair_of i r.held) first r.first.none))
      rows x h (inr e) = subst (λ (p : Held). Holding (node w₀ d) (key limit) (used_in w d) x (pair_of x p)) (sym (renewed_rows w w' d limit i r i<d x h (eqb-false x i e))) (c.rows x h)

      idle : (e : ℕ) → e < d → (mark_at w d e ≡ 0 → ⊥) → (eqb e i ≡ true) ⊎ (eqb e i ≡ false) → get_or w' (d * row_keys_from + e) 0 ≡ key_nan
      idle e h m (inl a) =
          let f = eqb-true e i a in
          ap (λ (y : ℕ). get_or w' (d * row_keys_from + y) 0) f ∙ ap (λ (p : Held). p.key) here
          ∙ idle_first (node w₀ d) (key limit) (used_in w d) i (pair_of i r.held) first r.first.none (used_marked w d i i<d (λ z. m (ap (mark_at w d) f ∙ z)))
      idle e h m (inr a) = other (d * row_keys_from + e) (λ q. eqb-false e i a (omega arith)) (λ q. omega arith) ∙ c.idle e h m
