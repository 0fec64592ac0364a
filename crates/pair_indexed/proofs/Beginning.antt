-- How the route begins: what is asked is asked again where words behind the ends are written, and so each step finds what it asks.
use Prim.Native.Nat.{ℕ, ◌+◌, ◌*◌, ◌^◌, ◌≤◌, ◌<◌}
use mathlib.Core.Path.{◌≡◌, sym, ◌∙◌, ap, subst}
use mathlib.Core.List.{List}
use mathlib.Core.Bool.{Bool, true, false, cond}
use mathlib.Core.Logic.{⊎_elim}
use native.Mathlib.Omega.{arith}
use lib.Dec.{ltb, eqb}
use lib.ListN.{length, set, replicate}
use lib.Seq.{slice, get_or-set_same}
use mir.Val.{bool_byte}
use Rattle.rules.specs.Selecting.{End}
use Rattle.pair_laws.specs.Ends.{end_at, node_of}
use Rattle.pair_laws.specs.Owners.{AtMostTwice}
use Rattle.pair_laws.specs.Ranked.{select, none as nobody}
use Rattle.pair_laws.specs.Taking.{listed}
use Rattle.pair_laws.proofs.Order.{tf}
use Rattle.point_slices.specs.Holds.{HoldsFrom}
use Rattle.point_slices.proofs.Laws.{from_length, from_part, from_below, from_beyond}
use Rattle.pair_ends.specs.Blocks.{pairs_from, marks_from, order_from, heap_from, index_from, note_from, note_end}
use Rattle.rules.specs.Refusals.{end_room}
use Rattle.pair_ends.specs.Ends.{EndsRoom, Selected, direction_at, ends_in}
use Rattle.pair_tree.specs.Words.{Changes}
use Rattle.pair_tree.proofs.Words.{changes_then, changes_wider, changes_set}
use Rattle.pair_tree.proofs.Flat.{below_or, kept_same}
use Rattle.pair_bounds.specs.Box.{union_of, Sound}
use Rattle.pair_index.specs.Nodes as index
use Rattle.pair_all_directions.specs.Around.{Every, round_of, around_of, beyond_of}
use Rattle.pair_all_directions.proofs.Nothing.{finite_tame, all_round, apart_none}
use Rattle.pair_index.specs.Search.{round_at}
use Rattle.pair_index.specs.Index.{leaf_of, Indexed, Finite, Noted}
use Rattle.pair_owners.specs.Tables.{order_at}
use Rattle.pair_owners.proofs.Seats.{seated}
use Rattle.pair_owners.proofs.Turns.{room_kept, take_kept, ends_kept}
use Rattle.pair_indexed.specs.declared.Size.{Size}
use Rattle.pair_indexed.specs.Route.{marks_in}
use Rattle.pair_indexed.specs.Start.{Asks, noted_from, Notes, Fits, Arranged, Planted, Cleared, Startable, Fills}
use Rattle.pair_indexed.proofs.Sizes.{sized}
use Rattle.pair_indexed.proofs.Parts.{same_below, same_beyond, drop_kept, marks_kept, indexes_kept}
use Rattle.pair_indexed.proofs.Arranging.{arranged_kept}
use Rattle.pair_indexed.proofs.Keeping.{note_kept}

asks_kept : {w w' : List ℕ} {d limit a b : ℕ} → Changes w w' a b → d * pairs_from ≤ a → Asks w d limit → Asks w' d limit
asks_kept {w} {w'} {d} c h x =
    let e : ends_in w d ≡ ends_in w' d = sym (ends_kept c h x.room) in
    record {
      room = room_kept c x.room;
      limited = x.limited;
      bounded = x.bounded;
      finite_ends = subst (λ (l : List End). Finite l) e x.finite_ends;
      twice = subst (λ (l : List End). AtMostTwice (λ i. (end_at l i).piece) d) e x.twice;
    }

-- the note, and the ends that it speaks of
noted_kept : {w w' : List ℕ} {d a b : ℕ} → Changes w w' a b → d * pairs_from ≤ a → b ≤ d * note_from → EndsRoom w d → Noted w d (ends_in w d) → Noted w' d (ends_in w' d)
noted_kept {w} {w'} {d} c h k r n =
    subst (λ (l : List End). Noted w' d l) (sym (ends_kept c h r)) (note_kept w w' d (ends_in w d) (c.beyond (d * note_from) k) n)

begins_kept : {w w' : List ℕ} {d height slots limit a b : ℕ} → Changes w w' a b → d * heap_from ≤ a → b ≤ d * note_from → Startable w d height slots limit → Startable w' d height slots limit
begins_kept {w} {w'} {d} c h k x =
    record {
      asks = asks_kept c (omega arith) x.asks;
      noted = noted_kept c (omega arith) k x.asks.room x.noted;
      m = x.m;
      arranged = arranged_kept c h x.arranged;
      fits = x.fits;
      sized = x.sized;
      unmarked = marks_kept w w' d x.asks.room c.long (same_below c (d * marks_from) (d * order_from) (omega arith)) ∙ x.unmarked;
    }

-- ---- the index and the heap

module _ {w : List ℕ} {d base height slots limit : ℕ} (e : base ≡ 2 ^ height) (x : Startable w d height slots limit) where
  module _ {w₁ : List ℕ} (p : Planted w w₁ d base) where
    module _ {w₂ : List ℕ} (k : Cleared w₁ w₂ d slots) where
      both : Changes w w₂ (d * heap_from) (d * note_from)
      both =
          changes_then (changes_wider (d * heap_from) (d * note_from) (omega arith) (omega arith) p.kept) (changes_wider (d * heap_from) (d * note_from) (omega arith) (omega arith) k.kept)

      pub begins_fills : Fills w₂ d height slots limit
      begins_fills =
          record {
            begins = begins_kept both (omega arith) (omega arith) x;
            indexed =
                subst (λ (b : ℕ). Indexed w₂ (d * index_from) b (ends_in w₂ d) nobody (seated (order_at w₂ d) d)) e
                (subst (λ (l : List End). Indexed w₂ (d * index_from) base l nobody (seated (order_at w₂ d) d)) (sym (ends_kept both (omega arith) x.asks.room))
                (kept_same union_of Sound (index.node_at w₂ (d * index_from)) base 1 0 (λ q. leaf_of (ends_in w d) nobody (seated (order_at w d) d q))
                (λ q. leaf_of (ends_in w d) nobody (seated (order_at w₂ d) d q)) same
                (indexes_kept w₁ w₂ (d * index_from) base (λ q. leaf_of (ends_in w d) nobody (seated (order_at w d) d q))
                (same_beyond k.kept (d * index_from) (d * index_from + 10 * base) (omega arith)) p.indexed)));
            empty = k.empty;
          }
        where
          same : (q : ℕ) → q < base → leaf_of (ends_in w d) nobody (seated (order_at w d) d q) ≡ leaf_of (ends_in w d) nobody (seated (order_at w₂ d) d q)
          same q h =
              ap (λ (y : ℕ). leaf_of (ends_in w d) nobody (cond (ltb q d) y d)) (sym (both.below (d * order_from + q) (omega (arith, h, e, x.sized.most))))

-- ---- the whole

-- each direction is beyond the box around all of them: no pair
pub none_selected : {w : List ℕ} {d limit : ℕ} {r : Bool} → Asks w d limit → Every (λ e. beyond_of (around_of (direction_at w d) d) limit (direction_at w d e)) d r → r ≡ true
    → Selected w d limit 0 w
none_selected {w} {d} {limit} x s told = apart_none x.room limit (finite_tame x.room x.finite_ends) (s.yes told)

-- one is not: there is an end
pub some_end : {p : ℕ → Bool} {d : ℕ} {r : Bool} → Every p d r → r ≡ false → d ≡ 0 → ⊥
some_end s told e = let t = s.other told in absurd (omega (arith, t.1))

-- the ends are those of a workspace whose words behind them were written
pub selected_from : {w w₁ : List ℕ} {d limit r : ℕ} {w₂ : List ℕ} → EndsRoom w d → Changes w w₁ (d * pairs_from) (d * end_room) → Selected w₁ d limit r w₂ → Selected w d limit r w₂
selected_from {w} {w₁} {d} {limit} {r} {w₂} x c s =
    let e : ends_in w₁ d ≡ ends_in w d = ends_kept c (omega arith) x in
    record {
      count = subst (λ (l : List End). r ≡ length (select (node_of l) limit)) e s.count;
      pairs = subst (λ (l : List End). slice (d * pairs_from) (d * pairs_from + r * 2) w₂ ≡ listed (select (node_of l) limit)) e s.pairs;
      kept = s.kept ∙ take_kept (d * pairs_from) c (omega arith) (omega (arith, x.long));
      beyond = s.beyond ∙ drop_kept w w₁ (d * end_room) c.long c.beyond;
    }

-- the note says what the scan has found, or among few ends nothing
module _ {w : List ℕ} {d : ℕ} (room : EndsRoom w d) (some : d ≡ 0 → ⊥) where
  note_wider : (k : ℕ) → (k ≡ 0 → ⊥) → k * note_from < k * note_end
  note_wider k h = omega arith

  note_inside : d * note_from < length w
  note_inside = omega (arith, note_wider d some, room.long)

  note_read : (t : Bool) → round_at (set w (d * note_from) (bool_byte t)) d ≡ t
  unfolding round_at
  note_read true = ap (λ (x : ℕ). eqb x 1) (get_or-set_same w (d * note_from) 1 0 note_inside)
  note_read false = ap (λ (x : ℕ). eqb x 1) (get_or-set_same w (d * note_from) 0 0 note_inside)

  note_changes : (v : ℕ) → Changes w (set w (d * note_from) v) (d * note_from) (d * note_end)
  note_changes v = changes_set w (d * note_from) v (d * note_from) (d * note_end) (omega arith) (note_wider d some)

  pub notes : {r : Bool} → noted_from ≤ d → Every (λ e. round_of (direction_at w d e)) d r → Notes w (set w (d * note_from) (bool_byte r)) d
  notes {r} h s =
      record {
        few = λ l. absurd (omega arith);
        told = λ _. subst (λ (t : Bool). Every (λ e. round_of (direction_at w d e)) d t) (sym (note_read r)) s;
        kept = note_changes (bool_byte r);
      }

  pub notes_few : d < noted_from → Notes w (set w (d * note_from) 0) d
  notes_few h = record { few = λ _. note_read false; told = λ l. absurd (omega arith); kept = note_changes 0 }

-- after the note
module _ {w₀ w : List ℕ} {d limit : ℕ} (x₀ : Asks w₀ d limit) (n : Notes w₀ w d) where
  pub noted_asks : Asks w d limit
  noted_asks = asks_kept n.kept (omega arith) x₀

  pub noted_here : Noted w d (ends_in w d)
  noted_here = subst (λ (l : List End). Noted w d l) (sym (ends_kept n.kept (omega arith) x₀.room)) (λ h. all_round x₀.room (found h))
    where
      found : round_at w d ≡ true → (e : ℕ) → e < d → round_of (direction_at w₀ d e) ≡ true
      found h = ⊎_elim (λ (c : d < noted_from). absurd (tf h (n.few c))) (λ (c : noted_from ≤ d). (n.told c).yes h) (below_or d noted_from)

  pub noted_selected : {w' : List ℕ} {r : ℕ} → Selected w d limit r w' → Selected w₀ d limit r w'
  noted_selected s = selected_from x₀.room (changes_wider (d * pairs_from) (d * end_room) (omega arith) (omega arith) n.kept) s

module _ {w w₁ : List ℕ} {d limit : ℕ} (x : Asks w d limit) (n : Noted w d (ends_in w d)) (some : d ≡ 0 → ⊥) (f : HoldsFrom w₁ w (d * marks_from) d (replicate d 0)) where
  inside : d * marks_from + d ≤ length w
  inside = omega (arith, x.room.long)

  cleared : Changes w w₁ (d * marks_from) (d * order_from)
  cleared = record { long = from_length f inside; below = from_below f inside; beyond = λ k h. from_beyond f inside k (omega arith) }

  pub cleared_room : EndsRoom w₁ d
  cleared_room = room_kept cleared x.room

  unmarked : marks_in w₁ d ≡ replicate d 0
  unmarked = ap (λ (k : ℕ). slice (d * marks_from) k w₁) six ∙ from_part f inside
    where
      six : d * order_from ≡ d * marks_from + d
      six = omega arith

  module _ {w₂ : List ℕ} {m : ℕ} (z : Arranged w₂ d m) (c : Changes w₁ w₂ (d * order_from) (d * heap_from)) where
    arranged : Changes w w₂ (d * marks_from) (d * heap_from)
    arranged = changes_then (changes_wider (d * marks_from) (d * heap_from) (omega arith) (omega arith) cleared) (changes_wider (d * marks_from) (d * heap_from) (omega arith) (omega arith) c)

    pub begins : {a b : Size} → Fits d a → Fits m b → Startable w₂ d a.height b.base limit
    begins {a} {b} p q =
        record {
          asks = asks_kept arranged (omega arith) x;
          noted = noted_kept arranged (omega arith) (omega arith) x.room n;
          m = m;
          arranged = z;
          fits = q.few;
          sized = sized (positive d some) z.started.few p q;
          unmarked = marks_kept w₁ w₂ d cleared_room c.long (same_below c (d * marks_from) (d * order_from) (omega arith)) ∙ unmarked;
        }
      where
        positive : (k : ℕ) → (k ≡ 0 → ⊥) → 0 < k
        positive k h = omega arith

    pub selected : {w₃ w₄ : List ℕ} {r : ℕ} → Changes w₂ w₃ (d * heap_from) (d * note_from) → Selected w₃ d limit r w₄ → Selected w d limit r w₄
    selected k s =
        selected_from x.room
        (changes_then (changes_wider (d * pairs_from) (d * end_room) (omega arith) (omega arith) arranged) (changes_wider (d * pairs_from) (d * end_room) (omega arith) (omega arith) k)) s
