-- What stays while joins are put: the pieces, the groups and their keys. So each node's step starts from the same ends.
use Prim.Native.Nat.{ℕ, ◌+◌, ◌*◌, ◌≤◌, ◌<◌}
use mathlib.Core.Path.{◌≡◌, refl, sym, ◌∙◌, subst}
use mathlib.Core.List.{List}
use native.Mathlib.Omega.{arith}
use lib.Ieee.{Float}
use lib.ListN.{length, get_or, drop}
use lib.Seq.{slice}
use Rattle.std.specs.Prelude.{Option as Maybe}
use Rattle.rules.specs.Plane.{same_key}
use Rattle.rules.specs.Chaining.{Piece, key_at}
use Rattle.chain_pieces.specs.Held.{Held}
use Rattle.chain_pieces.proofs.Reading.{held_block}
use Rattle.point_slices.specs.Holds.{HoldsFrom}
use Rattle.point_slices.proofs.Laws.{slice_part, from_length, from_beyond, from_part}
use Rattle.chain_grouping.specs.Group.{same_words, words_of, Nodes}
use Rattle.chain_joins.proofs.Regions.{slice_same, drop_same}
use Rattle.chain_nodes.specs.Noded.{Noded, Joined}
use Rattle.chain_pieces.specs.Map.{group_block, join_block, node_block, taken_block}

-- pieces in a block that stays
pub held_same : (width : ℕ) (w' w : List ℕ) (base n : ℕ) (input copies counts : List ℕ) (ps : List Piece) → length w' ≡ length w
    → ((j : ℕ) → base ≤ j → j < base + n * join_block → get_or w' j 0 ≡ get_or w j 0)
    → Held width w base n input copies counts ps → Held width w' base n input copies counts ps
held_same width w' w base n input copies counts ps z s h =
    let r = h.room in
    held_block width w' w base base n input copies counts ps
    (sym (slice_part base (n * join_block) w') ∙ slice_same w' w base (n * join_block) z (omega arith) s ∙ slice_part base (n * join_block) w)
    (omega arith) h

pub joined_own : (w : List ℕ) (n m : ℕ) → Joined w w n m (slice (n * join_block) (n * join_block + m) w)
joined_own w n m = record { size = refl; joins = refl; kept = λ j a b. refl; beyond = λ j a. refl }

-- the joins are as they were, where nothing is to be put
pub joined_same : (w : List ℕ) (n m : ℕ) (t : List ℕ) → slice (n * join_block) (n * join_block + m) w ≡ t → Joined w w n m t
joined_same w n m t e = subst (λ (x : List ℕ). Joined w w n m x) e (joined_own w n m)

pub joined_then : {w'' w' w : List ℕ} {n m : ℕ} {t u : List ℕ} → Joined w' w n m t → Joined w'' w' n m u → Joined w'' w n m u
joined_then A B =
    record {
      size = B.size ∙ A.size;
      joins = B.joins;
      kept = λ j a b. B.kept j a b ∙ A.kept j a b;
      beyond = λ j a. B.beyond j a ∙ A.beyond j a;
    }

-- joins that are written as a region
pub joined_put : {w' w : List ℕ} {n m : ℕ} {t : List ℕ} → HoldsFrom w' w (n * join_block) m t → n * join_block + m ≤ length w → m ≤ n * taken_block → Joined w' w n m t
joined_put H h b =
    record {
      size = from_length H h;
      joins = from_part H h;
      kept = λ j a c. from_beyond H h j a;
      beyond = λ j a. from_beyond H h j (omega arith);
    }

module _ {width : ℕ} {w : List ℕ} {n m : ℕ} {limit : Maybe Float} {input spare : List ℕ} (y : Noded width w n m limit input spare) where
  -- there are at most two ends for each line
  pub ends_few : m ≤ n * 2
  ends_few = omega (arith, y.ends, y.held.few)

  pub joins_room : n * join_block + m ≤ length w
  joins_room = omega (arith, ends_few, y.room)

  -- the same ends, where the block of the pieces and the groups stay
  unfoldable pub noded_kept : (w' : List ℕ) → length w' ≡ length w → ((j : ℕ) → n * taken_block ≤ j → j < n * node_block → get_or w' j 0 ≡ get_or w j 0)
      → drop (n * group_block) w' ≡ drop (n * group_block) w → Noded width w' n m limit input spare
  noded_kept w' z s d =
      record {
        rule = y.rule;
        counts = y.counts;
        ps = y.ps;
        two = y.two;
        few = y.few;
        ends = y.ends;
        room = omega (arith, y.room);
        held = held_same width w' w (n * taken_block) n input spare y.counts y.ps z (λ i a b. s i a (omega arith)) y.held;
        limited = y.limited;
        fair = y.fair;
        nodes = subst (λ (v : List ℕ). Nodes v v m) (sym d) y.nodes;
        keys =
            subst (λ (v : List ℕ). (e f : ℕ) → e < m → f < m → same_words (words_of v m e) (words_of v m f) ≡ same_key (key_at y.rule y.ps e) (key_at y.rule y.ps f))
            (sym d) y.keys;
      }

  module _ {w' : List ℕ} {t : List ℕ} (j : Joined w' w n m t) where
    pub groups_same : drop (n * group_block) w' ≡ drop (n * group_block) w
    groups_same = drop_same w' w (n * group_block) j.size j.beyond

    pub block_same : (i : ℕ) → n * taken_block ≤ i → i < n * node_block → get_or w' i 0 ≡ get_or w i 0
    block_same i a b = j.kept i (omega (arith, ends_few)) (omega arith)

    abbrev pub noded_same : Noded width w' n m limit input spare
    noded_same = noded_kept w' j.size block_same groups_same
