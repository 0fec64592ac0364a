-- 01, How much a contract has to say: what each public call determines, its answer and every lent slice at return. A refused call stores nothing.
-- In each record the plain names are what is lent, as it stands at entry, and the names with a prime what it is at return.
use Rattle.std.specs.Prelude.{◌-◌, ◌*◌, ◌^◌, ◌≡◌, ◌++◌}
use Rattle.rules.specs.Library.{ℕ, zero, suc, Bool, List, [], length, take, drop, replicate, Answer, Accepted, Refused, Settings}
use Rattle.rules.specs.Selecting.{End, Pair, select}
use Rattle.rules.specs.Layout.{Lines, Laid, build, ends, listed}
use Rattle.rules.specs.Types.{width_of}
use Rattle.rules.specs.Refusals.{Rooms, LentEnds, refusal_of, pair_refusal_of, chain_refusal_of, source_of, entry, line_room, end_room}

-- the number that a host sees: a result counts up from 0, and refusal k is k below 2 ^ 64, which is -k
unfoldable pub number_of : Answer → ℕ
number_of (Accepted n) = n
number_of (Refused k) = 2 ^ 64 - k

-- what a call that answers a number at the door determines: the number is that of an answer of which P holds
pub record Numbered (P : Answer → Type 0) (r : ℕ) : Type 0 where
  pub answer : Answer
  pub number : r ≡ number_of answer
  pub determined : P answer

-- the first where a call is refused with a number above 0, the second where it isn't
unfoldable pub unless : {A : Type 0} → ℕ → A → A → A
unless zero a b = b
unless (suc k) a b = a

unfoldable pub answer_of : ℕ → ℕ → Answer
answer_of refusal result = unless refusal (Refused refusal) (Accepted result)

-- a list with another written over its beginning, and one with n zeros there
unfoldable pub written : List ℕ → List ℕ → List ℕ
written out l = out ++ drop (length out) l

unfoldable pub cleared : ℕ → List ℕ → List ℕ
cleared n l = replicate n 0 ++ drop n l

-- ---- building, of lines of type t
abbrev pub built_of : ℕ → Lines → Settings → Laid
built_of t l s = build (width_of t) s l

-- the rooms with the answer written over their beginnings, and with zeros where it was worked out
unfoldable pub filled : ℕ → Lines → Settings → Rooms → Rooms
filled t l s o =
    record {
      table = written (built_of t l s).records o.table;
      members = written (built_of t l s).members o.members;
      marks = written (built_of t l s).marks o.marks;
      listing = written (built_of t l s).listing o.listing;
      merged = written (built_of t l s).merged o.merged;
      boxes = written (built_of t l s).boxes o.boxes;
      spare = cleared (length l.coordinates) o.spare;
      workspace = cleared (length l.counts * line_room) o.workspace;
    }

pub record Built (t : ℕ) (l : Lines) (s : Settings) (o : Rooms) (r : Answer) (o' : Rooms) : Type 0 where
  pub answer : r ≡ answer_of (refusal_of t l s o) (built_of t l s).number
  pub rooms : o' ≡ unless (refusal_of t l s o) o (filled t l s o)

-- ---- pairing, by whichever route; `alone` for the indexed one
abbrev pub ends_of : LentEnds → List End
ends_of i = ends 0 i.present i.directions i.pieces

unfoldable pub pairs_of : LentEnds → List Pair
pairs_of i = select i.limit (ends_of i)

pub record Paired (alone : Bool) (i : LentEnds) (r : Answer) (pairs' workspace' : List ℕ) : Type 0 where
  pub answer : r ≡ answer_of (pair_refusal_of alone i) (length (pairs_of i))
  pub pairs : pairs' ≡ unless (pair_refusal_of alone i) i.pairs (written (listed (pairs_of i)) i.pairs)
  pub workspace : workspace' ≡ unless (pair_refusal_of alone i) i.workspace (cleared (length i.pieces * end_room) i.workspace)

-- ---- the chain question and the view, of chains of type t
unfoldable pub asked : ℕ → List ℕ → List ℕ → List ℕ → ℕ → Answer
asked t input merged table k = answer_of (chain_refusal_of t input merged table k) 0

-- chain k's coordinates, a part of the slice that its source names; no part of the input where there is no such chain
unfoldable pub viewed : ℕ → List ℕ → List ℕ → List ℕ → ℕ → List ℕ
viewed t input merged table k =
    unless (chain_refusal_of t input merged table k) []
    (take (entry table k 4 * width_of t) (drop (entry table k 3 * width_of t) (source_of (entry table k 2) input merged)))
