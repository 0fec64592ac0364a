-- What each reason tells of two ends, and what is told of every accepted selection.
use Rattle.std.specs.Prelude.{ℕ, ◌*◌, ◌<◌, ◌≡◌, true, false, ◌⊎◌, List, [], ◌∷◌, Float, length, get_or, take}
use Rattle.std.specs.Float.{nan}
use Rattle.std.specs.Float.Ieee.{le}
use Rattle.rules.specs.Answers.{Absent, Toward}
use Rattle.rules.specs.Plane.{measure}
use Rattle.rules.specs.Selecting.{End, Pair, qualifying, before, sorted, select}
use Rattle.rules.specs.Layout.{listed}
use Rattle.rules.specs.Refusals.{LentEnds}
use Rattle.rules.specs.Calls.{pairs_of, ends_of}
use Rattle.rules.specs.declared.Reason.{Reason}
use Rattle.rules.specs.declared.Reason.TheVariants.{Selected, SamePiece, AbsentDirection, NotQualifying, Blocked}
use Rattle.rules.specs.Reasons.{joins, end_of, reason_number}
use Rattle.pair_laws.specs.Sets.{In}
use Rattle.pair_laws.specs.Settled.{shares, Settled, InOrder}

-- the pair at a place of a list
abbrev pub pair_in : List Pair → ℕ → Pair
pair_in l p = get_or l p (record { size = nan; i = 0; j = 0 })

module _ (limit : Float) (l : List End) (a b : End) where
  -- no selected pair is that of a and b
  abbrev pub Unselected : Type 0
  Unselected = (p : Pair) → In p (select limit l) → joins a.name b.name p ≡ true → ⊥

  abbrev pub TwoPieces : Type 0
  TwoPieces = a.piece ≡ b.piece → ⊥

  -- both are present, and their measure isn't at or below the limit
  pub record High : Type 0 where
    pub ax : Float
    pub ay : Float
    pub bx : Float
    pub by : Float
    pub from : a.direction ≡ Toward ax ay
    pub to : b.direction ≡ Toward bx by
    pub high : le (measure ax ay bx by) limit ≡ false

  -- the pair of a and b qualifies, and selected pair p blocks it: it comes before and shares an end, and no earlier selected pair shares one
  pub record BlockedBy (p : ℕ) : Type 0 where
    pub ours : Pair
    pub joined : joins a.name b.name ours ≡ true
    pub qualifies : In ours (qualifying limit l)
    pub unselected : Unselected
    pub counted : p < length (select limit l)
    pub selected : In (pair_in (select limit l) p) (select limit l)
    pub sooner : before (pair_in (select limit l) p) ours ≡ true
    pub sharing : shares (pair_in (select limit l) p) ours ≡ true
    pub earliest : (q : ℕ) → q < p → shares (pair_in (select limit l) q) ours ≡ false

  abbrev pub Told : Reason → Type 0
  Told Selected = (p : Pair) × In p (select limit l) × (joins a.name b.name p ≡ true)
  Told SamePiece = Unselected × (a.piece ≡ b.piece)
  Told AbsentDirection = Unselected × TwoPieces × ((a.direction ≡ Absent) ⊎ (b.direction ≡ Absent))
  Told NotQualifying = Unselected × TwoPieces × High
  Told (Blocked p) = BlockedBy p

-- no pair stands twice in a list
abbrev pub NoRepeats : List Pair → Type 0
NoRepeats [] = Unit {0}
NoRepeats (p ∷ s) = (In p s → ⊥) × NoRepeats s

-- What is selected of ends: no two share an end, each qualifying pair that isn't selected shares one with a selected pair before it, and of the sets
-- of qualifying pairs this alone is so. A list of such a set that is in the order is the selection, and so is one without repeats once it is sorted.
pub record Decided (limit : Float) (l : List End) (selected : List Pair) : Type 0 where
  pub settled : Settled (qualifying limit l) selected
  pub ordered : InOrder selected
  pub same : (s : List Pair) → Settled (qualifying limit l) s → (p : Pair) → (In p s → In p selected) × (In p selected → In p s)
  pub only : (s : List Pair) → Settled (qualifying limit l) s → InOrder s → s ≡ selected
  pub once_sorted : (s : List Pair) → Settled (qualifying limit l) s → NoRepeats s → sorted s ≡ selected

-- n pairs stand at the beginning of what was lent for them, and they are those
pub record Output (limit : Float) (l : List End) (n : ℕ) (pairs : List ℕ) : Type 0 where
  pub chosen : List Pair
  pub decided : Decided limit l chosen
  pub number : n ≡ length chosen
  pub words : take (n * 2) pairs ≡ listed chosen

-- What an accepted question answers: the number of the one reason that is told of ends a and b; and the pairs are as every route selects them.
pub record Answered (i : LentEnds) (a b n : ℕ) (pairs : List ℕ) : Type 0 where
  pub two_ends : (a < length i.pieces) × (b < length i.pieces) × (a ≡ b → ⊥)
  pub names : ((end_of (ends_of i) a).name ≡ a) × ((end_of (ends_of i) b).name ≡ b)
  pub because : Reason
  pub number : n ≡ reason_number because
  pub true_of : Told i.limit (ends_of i) (end_of (ends_of i) a) (end_of (ends_of i) b) because
  pub alone : (r : Reason) → Told i.limit (ends_of i) (end_of (ends_of i) a) (end_of (ends_of i) b) r → because ≡ r
  pub output : Output i.limit (ends_of i) (length (pairs_of i)) pairs
