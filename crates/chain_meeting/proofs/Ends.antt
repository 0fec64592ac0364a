-- What the walks ask to have their outer ends listed, keyed and grouped, and that the words tell the ends of the pieces that come of them apart as the
-- book's keys do: an end of such a piece has the key of an outer end of its walk (`outer_keys`).
use Prim.Native.Nat.{ℕ, ◌+◌, ◌-◌, ◌*◌, ◌/◌, ◌%◌, ◌≤◌, ◌<◌}
use mathlib.Core.Path.{◌≡◌, refl, sym, ap, ap₂, ◌∙◌, subst}
use mathlib.Core.List.{List}
use native.Mathlib.Omega.{arith}
use lib.ListN.{length, get_or, drop, length-drop, length-map}
use borrow.Rule.Slice.PartMut.{mid_of, put_mid}
use Rattle.rules.specs.declared.Settings.{Settings}
use Rattle.rules.specs.Plane.{same_key}
use Rattle.rules.specs.Walking.{walks}
use Rattle.rules.specs.Chaining.{Piece, Rule, key_at, partner, merge, join, rule_of, cells_of}
use Rattle.point_slices.specs.Holds.{HoldsFrom}
use Rattle.point_slices.proofs.Laws.{mid_rest, from_length, from_below, from_part}
use Rattle.chain_pieces.specs.Held.{record_of, Held}
use Rattle.chain_pieces.specs.Map.{join_block, member_block, node_block, taken_block}
use Rattle.chain_pieces.proofs.Reading.{get_d_part}
use Rattle.chain_grouping.specs.Group.{Words, same_words, words_at, words_of, GroupingRoom, Nodes}
use Rattle.chain_grouping.proofs.Space.{keys_kept}
use Rattle.chain_grouping.proofs.Nodes.{nodes_own}
use Rattle.chain_keys.specs.Keys.{words_for}
use Rattle.chain_keys.proofs.Same.{held_keyable, words_tell}
use Rattle.chain_junctions.proofs.Laws.{back_drop, back_front, back_length}
use Rattle.chain_walks.specs.Map.{entry_block, length_block}
use Rattle.chain_merging.proofs.Joined.{all_entered, few_walks, none_empty, all_pieces}
use Rattle.chain_nodes.proofs.Frames.{held_same}
use Rattle.chain_round.proofs.Grouping.{words_shift}
use Rattle.chain_outer.specs.Outer.{outer_of}
use Rattle.chain_outer.proofs.Outer.{outer_in, outer_keys}
use Rattle.chain_meeting.specs.Map.{meeting_block}
use Rattle.chain_meeting.specs.Meeting.{OuterListable, Collectable, Collected, Meetable, Met}

module _ {width : ℕ} {w₀ : List ℕ} {n m r : ℕ} {groups input : List ℕ} (y : Meetable width w₀ n m r groups input) where
  abbrev ps : List Piece
  ps = y.ps

  abbrev rule : Rule
  rule = y.rule

  pub pieces_are : length ps ≡ m
  pieces_are = sym y.number

  -- at most as many walks as lines, and as many lines as were counted
  pub few : (r ≤ m) × (m ≤ n)
  few = (omega (arith, y.walked.number, few_walks rule ps m pieces_are), omega (arith, y.number, y.walked.held.few))

  -- ---- the list

  abbrev pub listable : OuterListable w₀ (n * join_block + m * entry_block) (n * join_block + m * length_block) r (n * node_block)
  listable =
      record {
        m = m;
        ws = walks (partner y.rule y.ps) m;
        number = sym y.walked.number;
        all = all_entered rule ps m pieces_are;
        filled = λ j h. none_empty rule ps m pieces_are j (omega (arith, y.walked.number));
        entered = y.walked.entered;
        measured = y.walked.measured;
        low = λ k h. omega (arith, all_pieces rule ps m pieces_are k h, pieces_are, few, y.few);
        entries_below = omega (arith, few);
        lengths_below = omega (arith, few);
        room = omega (arith, few, y.walked.room);
      }

  -- ---- the keys

  module _ {w₁ : List ℕ} (H : HoldsFrom w₁ w₀ (n * node_block) (r * 2) (outer_of (walks (partner y.rule y.ps) m))) where
    fits : n * node_block + r * 2 ≤ length w₀
    fits = omega (arith, few, y.walked.room)

    size₁ : length w₁ ≡ length w₀
    size₁ = from_length H fits

    below₁ : (j : ℕ) → j < n * node_block → get_or w₁ j 0 ≡ get_or w₀ j 0
    below₁ j b = from_below H fits j b

    held₁ : Held width w₁ (n * taken_block) n input input y.counts ps
    held₁ = held_same width w₁ w₀ (n * taken_block) n input input y.counts ps size₁ (λ j a b. below₁ j (omega arith)) y.walked.held

    -- the end that is listed at t
    listed : (t : ℕ) → t < r * 2 → get_or w₁ (n * node_block + t) 0 ≡ get_or (outer_of (walks (partner rule ps) (length ps))) t 0
    listed t h =
        sym (get_d_part (n * node_block) (r * 2) w₁ t h)
        ∙ ap (λ (l : List ℕ). get_or l t 0) (from_part H fits)
        ∙ ap (λ (k : ℕ). get_or (outer_of (walks (partner rule ps) k)) t 0) (sym pieces_are)

    out_of : (t : ℕ) → t < r * 2 → t < 2 * length (join rule ps)
    unfolding join
    out_of t h =
        omega (
          arith,
          y.walked.number,
          ap (λ (k : ℕ). length (walks (partner rule ps) k)) pieces_are,
          length-map (walks (partner rule ps) (length ps)) (merge rule ps),
        )

    inside₁ : (t : ℕ) → t < r * 2 → get_or w₁ (n * node_block + t) 0 / 2 < length ps
    inside₁ t h = rw (listed t h) (outer_in rule ps t (out_of t h))

    pub collectable : Collectable width w₁ (n * taken_block) (n * taken_block + n * member_block) (n * node_block) (n * meeting_block + r * 2 * 4) (r * 2) groups input
    collectable =
        record {
          count = length ps;
          keyable =
              held_keyable width y.two w₁ (n * taken_block) n (n * meeting_block + r * 2 * 4) input input y.counts groups ps held₁ y.grouped (omega arith)
              (omega (arith, few, pieces_are, size₁, y.walked.room));
          few = omega (arith, few, pieces_are);
          below = omega (arith, few);
          inside = inside₁;
        }

    -- ---- the groups

    module _ (s : Settings) {w₂ : List ℕ} (same : length w₂ ≡ length w₁)
        (K : Collected width w₂ w₁ (n * taken_block) (n * taken_block + n * member_block) (n * node_block) (n * meeting_block + r * 2 * 4) (r * 2) groups input (cells_of s)) where
      abbrev part : List ℕ
      part = mid_of (n * meeting_block) (length w₂ - n * meeting_block) w₂

      part_in : n * meeting_block ≤ length w₂
      part_in = omega (arith, y.walked.room, size₁, same)

      pub group_room_lem : GroupingRoom part (r * 2)
      group_room_lem =
          record {
            few = omega (arith, few, y.few);
            fits = rw (mid_rest w₂ (n * meeting_block), length-drop (n * meeting_block) w₂) (omega (arith, few, y.walked.room, size₁, same));
          }

      module _ {sub : List ℕ} (size₂ : length sub ≡ length part) (N : Nodes sub part (r * 2)) where
        abbrev w₃ : List ℕ
        w₃ = put_mid (n * meeting_block) (length w₂ - n * meeting_block) w₂ sub

        sub_is : drop (n * meeting_block) w₃ ≡ sub
        sub_is = back_drop w₂ sub (n * meeting_block) part_in

        -- the words of an end's key are those of the end that is listed at its place
        words_are : (e : ℕ) → e < r * 2
            → words_of sub (r * 2) e
            ≡ words_for width w₁ (record_of (n * taken_block) (get_or w₁ (n * node_block + e) 0 / 2)) (get_or w₁ (n * node_block + e) 0 % 2) (n * taken_block + n * member_block) groups input input (cells_of s)
        words_are e h =
            ap (λ (o : ℕ → Words). o e) (keys_kept sub part (r * 2) N.kept)
            ∙ ap (λ (l : List ℕ). words_at l (r * 2 * 4) e) (mid_rest w₂ (n * meeting_block))
            ∙ words_shift w₂ (n * meeting_block) (r * 2 * 4) e
            ∙ K.each e h

        abbrev next : Rule
        next = rule_of (cells_of s) s

        key_is : (e : ℕ) → e < r * 2 → key_at next ps (get_or w₁ (n * node_block + e) 0) ≡ key_at next (join rule ps) e
        key_is e h =
            ap (key_at next ps) (listed e h)
            ∙ outer_keys rule next ps s.tolerance s.origin_x s.origin_y refl y.grouped.long e (out_of e h)

        keys_tell : (e f : ℕ) → e < r * 2 → f < r * 2
            → same_words (words_of sub (r * 2) e) (words_of sub (r * 2) f) ≡ same_key (key_at (rule_of (cells_of s) s) (join y.rule y.ps) e) (key_at (rule_of (cells_of s) s) (join y.rule y.ps) f)
        keys_tell e f a b =
            ap₂ same_words (words_are e a) (words_are f b)
            ∙ words_tell width y.two w₁ (n * taken_block) n input input y.counts groups ps held₁ y.grouped next
            (get_or w₁ (n * node_block + e) 0) (get_or w₁ (n * node_block + f) 0) (omega (arith, inside₁ e a)) (omega (arith, inside₁ f b))
            ∙ ap₂ same_key (key_is e a) (key_is f b)

        pub ends_met : Met w₃ w₀ n r s y.rule y.ps
        ends_met =
            record {
              size = back_length w₂ sub (n * meeting_block) part_in size₂ ∙ same ∙ size₁;
              nodes = subst (λ (v : List ℕ). Nodes v v (r * 2)) (sym sub_is) (nodes_own N);
              keys =
                  subst (λ (v : List ℕ). (e f : ℕ) → e < r * 2 → f < r * 2
                  → same_words (words_of v (r * 2) e) (words_of v (r * 2) f) ≡ same_key (key_at (rule_of (cells_of s) s) (join y.rule y.ps) e) (key_at (rule_of (cells_of s) s) (join y.rule y.ps) f))
                  (sym sub_is) keys_tell;
              kept = λ j b. back_front w₂ sub (n * meeting_block) part_in j (omega arith) ∙ K.kept j (omega arith) ∙ below₁ j b;
            }
