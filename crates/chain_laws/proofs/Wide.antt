-- Widths: joining drops points and makes none, so that the points of what comes out have the width of those that went in.
use Prim.Native.Nat.{ℕ, zero, suc, ◌<◌}
use mathlib.Core.Path.{sym, subst}
use mathlib.Core.Bool.{Bool, true, false, cond}
use mathlib.Core.List.{List, [], ◌∷◌, ◌++◌, flat_map, reverse, reverse-append}
use mathlib.Core.Option.{Option, none, some}
use native.Mathlib.Omega.{arith}
use lib.ListN.{length, get_or, take, drop}
use lib.Dec.{eqb}
use Rattle.rules.specs.Plane.{Point, equal}
use Rattle.rules.specs.Walking.{side_of}
use Rattle.rules.specs.Chaining.{Piece, Rule, lay, run, piece_at, merged, merge}
use Rattle.point_numbers.specs.Width.{AllWide, none_wide, more_wide}

pub wide_append : {w : ℕ} {a b : List Point} → AllWide w a → AllWide w b → AllWide w (a ++ b)
wide_append none_wide h = h
wide_append (more_wide p a) h = more_wide p (wide_append a h)

pub wide_reverse : {w : ℕ} {l : List Point} → AllWide w l → AllWide w (reverse l)
wide_reverse none_wide = none_wide
wide_reverse {w} (more_wide {p} {l} h a) = subst (AllWide w) (sym (reverse-append (p ∷ []) l)) (wide_append (wide_reverse a) (more_wide h none_wide))

pub wide_take : {w : ℕ} {l : List Point} (k : ℕ) → AllWide w l → AllWide w (take k l)
wide_take zero h = none_wide
wide_take (suc k) none_wide = none_wide
wide_take (suc k) (more_wide h a) = more_wide h (wide_take k a)

pub wide_drop : {w : ℕ} {l : List Point} (k : ℕ) → AllWide w l → AllWide w (drop k l)
wide_drop zero h = h
wide_drop (suc k) none_wide = none_wide
wide_drop (suc k) (more_wide h a) = wide_drop k a

pub wide_lay : {w : ℕ} (o : Option Point) {l : List Point} → AllWide w l → AllWide w (lay o l)
unfolding lay
wide_lay none none_wide = none_wide
wide_lay (some q) none_wide = none_wide
wide_lay none (more_wide {p} h a) = more_wide h (wide_lay (some p) a)
wide_lay {w} (some q) (more_wide {p} {l} h a) = go (equal q p) (wide_lay (some q) a) (wide_lay (some p) a)
  where
    go : (t : Bool) → AllWide w (lay (some q) l) → AllWide w (lay (some p) l) → AllWide w (elim t [ true ↦ lay (some q) l | false ↦ p ∷ lay (some p) l ])
    go true x y = x
    go false x y = more_wide h y

module _ (w : ℕ) (rule : Rule) (ps : List Piece) where
  -- the pieces that are entered have the width
  abbrev pub Enters : List ℕ → Type 0
  Enters es = (k : ℕ) → k < length es → AllWide w (piece_at rule ps (get_or es k 0)).points

  pub wide_run : (e : ℕ) → AllWide w (piece_at rule ps e).points → AllWide w (run rule ps e)
  unfolding run
  wide_run e h = go (eqb (side_of e) 0)
    where
      go : (t : Bool) → AllWide w (cond t (piece_at rule ps e).points (reverse (piece_at rule ps e).points))
      go true = h
      go false = wide_reverse h

  wide_runs : (es : List ℕ) → Enters es → AllWide w (flat_map (run rule ps) es)
  unfolding flat_map
  wide_runs [] h = none_wide
  wide_runs (e ∷ es) h = wide_append (wide_run e (h 0 (omega arith))) (wide_runs es (λ k b. h (suc k) (omega arith)))

  -- WHAT A WALK'S PIECE IS MADE OF HAS THEIR WIDTH
  pub wide_merge : (es : List ℕ) → Enters es → AllWide w (merge rule ps es).points
  unfolding merge merged
  wide_merge [] h = none_wide
  wide_merge (e ∷ []) h = h 0 (omega arith)
  wide_merge (e ∷ f ∷ es) h = wide_lay none (wide_runs (e ∷ f ∷ es) h)
