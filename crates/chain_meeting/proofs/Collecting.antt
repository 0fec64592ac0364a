-- The loop of `collect_outer`: after t ends their keys stand, each that of the end which is listed at its place. The list stands below the keys, and so stays.
use Prim.Native.Nat.{ℕ, ◌+◌, ◌*◌, ◌/◌, ◌%◌, ◌≤◌, ◌<◌}
use mathlib.Core.Path.{◌≡◌, sym, ap, ◌∙◌, subst}
use mathlib.Core.List.{List}
use native.Mathlib.Omega.{arith}
use lib.ListN.{length, get_or}
use Rattle.rules.specs.Answers.{Grid}
use Rattle.chain_pieces.specs.Held.{record_of}
use Rattle.chain_grouping.specs.Map.{key_size}
use Rattle.chain_keys.specs.Keys.{keyed_at, PiecePlaced, Grouping}
use Rattle.chain_keys.proofs.Laws.{Keying, keying_placed, keying_group, keying_step}
use Rattle.chain_meeting.specs.Meeting.{Collectable, Collected}

module _ (width records members ends keys k : ℕ) (groups input : List ℕ) (grid : Grid) (w₀ : List ℕ) (y : Collectable width w₀ records members ends keys k groups input) where
  -- the keys of the first t ends
  abbrev pub Collecting : List ℕ → ℕ → Type 0
  Collecting w t = Keying width records members keys y.count groups input input grid (λ f. get_or w₀ (ends + f) 0) w w₀ t

  pub collecting_done : (w : List ℕ) (t : ℕ) → Collecting w t → k ≤ t → Collected width w w₀ records members ends keys k groups input grid
  collecting_done w t K h = record { each = λ f l. K.each f (omega arith); kept = K.kept }

  module _ (w : List ℕ) (t : ℕ) (K : Collecting w t) (h : t < k) where
    listed : get_or w (ends + t) 0 ≡ get_or w₀ (ends + t) 0
    listed = K.kept (ends + t) (omega (arith, y.below))

    at_place : t < y.count * 2
    at_place = omega (arith, y.few)

    pub listed_in : get_or w (ends + t) 0 / 2 < y.count
    listed_in = rw listed (y.inside t h)

    pub listed_placed : PiecePlaced width w (record_of records (get_or w (ends + t) 0 / 2)) input input
    listed_placed =
        subst (λ (e : ℕ). PiecePlaced width w (record_of records (e / 2)) input input) (sym listed)
        (keying_placed width records members keys y.count groups input input grid (λ f. get_or w₀ (ends + f) 0) w w₀ t K y.keyable at_place (y.inside t h))

    pub listed_group : Grouping w (record_of records (get_or w (ends + t) 0 / 2)) members groups
    listed_group =
        subst (λ (e : ℕ). Grouping w (record_of records (e / 2)) members groups) (sym listed)
        (keying_group width records members keys y.count groups input input grid (λ f. get_or w₀ (ends + f) 0) w w₀ t K y.keyable at_place (y.inside t h))

    pub listed_fits : keys + t * key_size + 3 ≤ length w
    listed_fits = omega (arith, K.size, y.keyable.room, at_place)

    pub collecting_step : (w' : List ℕ)
        → w' ≡ keyed_at width w (record_of records (get_or w (ends + t) 0 / 2)) (get_or w (ends + t) 0 % 2) members (keys + t * key_size) groups input input grid
        → Collecting w' (t + 1)
    collecting_step w' e =
        keying_step width records members keys y.count groups input input grid (λ f. get_or w₀ (ends + f) 0) w w₀ t K y.keyable at_place (y.inside t h) w'
        (e ∙ ap (λ (i : ℕ). keyed_at width w (record_of records (i / 2)) (i % 2) members (keys + t * key_size) groups input input grid) listed)
