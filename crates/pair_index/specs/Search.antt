-- The search for a partner: an index that was built of unions, and the first of its ends' pairs with a direction. N is the row of nodes, `way` the ends'
-- directions, `piece` their piece numbers.
use Rattle.std.specs.Prelude.{ℕ, zero, suc, ◌+◌, ◌*◌, ◌^◌, ◌≤◌, ◌<◌, min, ◌≡◌, Bool, true, ◌&&◌, List, ◌⊎◌, length, get_or, T, eqb, Float}
use Rattle.std.proofs.Math.Bool.{cond}
use Rattle.std.specs.Float.Ieee.Scale.{finite}
use Rattle.rules.specs.Answers.{Direction}
use Rattle.rules.specs.Answers.{Toward}
use Rattle.float_order.specs.Key.{low_key}
use Rattle.pair_bounds.specs.declared.Bounds.{Bounds}
use Rattle.pair_bounds.specs.Box.{empty_of, point_of, union_of, round_way, lower_of}
use Rattle.pair_bounds.specs.Search.{place, least}
use Rattle.pair_laws.specs.Ends.{key_of}
use Rattle.pair_ends.specs.Blocks.{note_from}
use Rattle.pair_ends.specs.Ends.{EndsRoom, direction_at, piece_at}
use Rattle.pair_tree.specs.declared.Place.{Place}
use Rattle.pair_tree.specs.Places.{worth, gone, none}
use Rattle.pair_index.specs.Nodes.{node_at}

-- node n is the box of the direction of an end below d, which is finite
pub record Seat (N : ℕ → Bounds) (way : ℕ → Direction) (d n : ℕ) : Type 0 where
  pub x : Float
  pub y : Float
  pub e : ℕ
  pub box : N n ≡ point_of x y e
  pub toward : way e ≡ Toward x y
  pub x_finite : T (finite x)
  pub y_finite : T (finite y)
  pub within : e < d

-- a leaf is empty, or an end's; any other node is the union of its two children
unfoldable pub Built : (ℕ → Bounds) → (ℕ → Direction) → ℕ → ℕ → ℕ → Type 0
Built N way d zero n = (N n ≡ empty_of) ⊎ Seat N way d n
Built N way d (suc h) n = (N n ≡ union_of (N (2 * n)) (N (2 * n + 1))) × Built N way d h (2 * n) × Built N way d h (2 * n + 1)

-- a box's bound on the pairs with (ax, ay): its low key, and then its first index; r says that all directions are in the disk
unfoldable pub bound_of : Bool → Float → Float → Bounds → ℕ
unfolding low_key lower_of
bound_of r ax ay b = cond (eqb b.first gone) none (place (low_key (lower_of r b ax ay)) b.first)

-- that all directions are in the disk is noted behind the index, in a word of its own
unfoldable pub round_at : List ℕ → ℕ → Bool
round_at w d = eqb (get_or w (d * note_from) 0) 1

module _ (way : ℕ → Direction) (piece : ℕ → ℕ) (ax ay : Float) (own : ℕ) where
  -- the place of the pair with end e; none where e is of the piece `own`
  unfoldable pub pair_at : ℕ → ℕ
  unfolding key_of
  pair_at e = cond (eqb (piece e) own) none (place (key_of (Toward ax ay) (way e)) e)

  -- of a leaf: the pair with its end; none where it is empty
  unfoldable pub leaf_at : (ℕ → Bounds) → ℕ → ℕ
  leaf_at N n = cond (eqb (N n).first gone) none (pair_at (N n).first)

  -- the first of the pairs with the ends h steps below n
  abbrev pub least_of : (ℕ → Bounds) → ℕ → ℕ → ℕ
  least_of N h n = least (leaf_at N) h n

-- ---- over the words of a workspace

-- all directions below node n are one, bit for bit, but for a zero's sign: each side of its box has one number at both ends
unfoldable pub pointed : List ℕ → ℕ → ℕ → Bool
pointed w t n = eqb (get_or w (t + 5 * n) 0) (get_or w (t + 5 * n + 2) 0) && eqb (get_or w (t + 5 * n + 1) 0) (get_or w (t + 5 * n + 3) 0)

-- the place of the pair with end e where that is so, and else none
unfoldable pub settled_at : List ℕ → ℕ → ℕ → Float → Float → ℕ → ℕ → ℕ → ℕ
settled_at w d t ax ay own n e = cond (pointed w t n) (pair_at (direction_at w d) (piece_at w d) ax ay own e) none

-- what the search asks: the tree below n, and a direction that is finite
pub record Searchable (w : List ℕ) (d t : ℕ) (ax ay : Float) (h n : ℕ) : Type 0 where
  pub room : EndsRoom w d
  pub nodes : ℕ
  pub inside : t + 5 * nodes ≤ length w
  pub within : (n + 1) * 2 ^ h ≤ nodes
  pub built : Built (node_at w t) (direction_at w d) d h n
  pub x_finite : T (finite ax)
  pub y_finite : T (finite ay)
  pub note : d * note_from < length w
  pub own_round : round_at w d ≡ true → T (round_way ax ay)
  pub all_round : round_at w d ≡ true → (e : ℕ) (x y : Float) → e < d → direction_at w d e ≡ Toward x y → T (round_way x y)

-- a place is the bound of node n
abbrev pub IsBound : List ℕ → ℕ → ℕ → Float → Float → ℕ → Place → Type 0
IsBound w d t ax ay n at = worth at ≡ bound_of (round_at w d) ax ay (node_at w t n)

-- and what it finds: the first of the best so far and of all pairs below n
abbrev pub Finds : List ℕ → ℕ → ℕ → Float → Float → ℕ → ℕ → ℕ → Place → Place → Type 0
Finds w d t ax ay own h n best r = worth r ≡ min (worth best) (least_of (direction_at w d) (piece_at w d) ax ay own (node_at w t) h n)
