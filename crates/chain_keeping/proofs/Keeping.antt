-- What emission asks of walks that are pieces alone, and what comes out: the pieces themselves.
use Prim.Native.Nat.{ℕ, ◌+◌, ◌*◌, ◌≤◌}
use mathlib.Core.Path.{◌≡◌, sym, ap, ◌∙◌, subst}
use mathlib.Core.List.{List, map}
use mathlib.Core.Option.{none}
use native.Mathlib.Omega.{arith}
use lib.ListN.{length, get_or}
use lib.Seq.{slice}
use Rattle.rules.specs.Answers.{Exact}
use Rattle.rules.specs.Chaining.{Piece, Rule, merge}
use Rattle.chain_pieces.specs.Held.{Held}
use Rattle.chain_pieces.specs.Map.{join_block, taken_block}
use Rattle.chain_pieces.proofs.Reading.{held_beyond}
use Rattle.chain_walks.specs.Map.{entry_block}
use Rattle.chain_merging.specs.Emit.{Walks, Done}
use Rattle.point_slices.proofs.Laws.{from_length, from_part, slice_below, drop_past}
use Rattle.chain_keeping.specs.Keeping.{entries_of, EachWalked, Keepable, Kept}
use Rattle.chain_keeping.proofs.Alone.{alones, alones_merged, alones_points, alones_entered, alones_measured, alones_number, entries_number, entry_at, alone_filled}

-- no rule is looked at where no ends meet
abbrev idle : Rule
idle = record { grid = Exact; limit = none }

module _ {width : ℕ} {w₀ : List ℕ} {n m : ℕ} {input spare merged : List ℕ} (y : Keepable width w₀ n m input spare merged) where
  abbrev at : ℕ
  at = n * join_block + m * entry_block

  pub few : m ≤ n
  few = omega (arith, y.number, y.held.few)

  pub walks_fit : n * join_block + m * entry_block + m + m ≤ length w₀
  walks_fit = omega (arith, few, y.room)

  module _ {w₁ : List ℕ} (e : EachWalked w₁ w₀ (n * join_block + m * entry_block) m) where
    pub entries_fit : at + m ≤ length w₀
    entries_fit = omega (arith, walks_fit)

    pub size_one : length e.one ≡ length w₀
    size_one = from_length e.entered entries_fit

    pub lengths_fit : at + m + m ≤ length e.one
    lengths_fit = omega (arith, walks_fit, size_one)

    pub size : length w₁ ≡ length w₀
    size = from_length e.measured lengths_fit ∙ size_one

    pub held : Held width w₁ (n * taken_block) n input spare y.counts y.ps
    held =
        held_beyond width w₁ w₀ (n * taken_block) n (n * taken_block) input spare y.counts y.ps
        (drop_past e.measured lengths_fit (n * taken_block) (omega (arith, few)) ∙ drop_past e.entered entries_fit (n * taken_block) (omega (arith, few)))
        size (omega arith) y.held

    pub entered : slice at (at + m) w₁ ≡ entries_of m
    entered = slice_below e.measured lengths_fit at (at + m) (omega arith) ∙ from_part e.entered entries_fit

    pub out : map (merge idle y.ps) (alones idle y.ps m) ≡ y.ps
    out = ap (λ (i : ℕ). map (merge idle y.ps) (alones idle y.ps i)) y.number ∙ alones_merged idle y.ps y.held.drawn

    abbrev pub keeping_walks : Walks width w₁ n (n * taken_block) m (n * join_block + m * entry_block) (n * join_block + m * entry_block + m) m input spare merged
    keeping_walks =
        record {
          rule = idle;
          counts = y.counts;
          ps = y.ps;
          ws = alones idle y.ps m;
          held = held;
          two = y.two;
          front = omega arith;
          all = ap length (alones_entered m) ∙ entries_number m;
          number = alones_number m;
          few = few;
          entered = entered ∙ sym (alones_entered m);
          entries_in = (omega arith, omega (arith, entries_fit, size));
          measured = from_part e.measured lengths_fit ∙ sym (alones_measured m);
          lengths_in = (omega arith, omega (arith, walks_fit, size));
          filled = alone_filled m;
          below = λ k b.
              let z : get_or (entries_of m) k 0 ≡ k * 2 = entry_at m k b in
              rw (alones_entered m, z) (omega (arith, y.number));
          listed = rw out y.held.listed;
          fits = rw (alones_entered m, y.number, alones_points idle y.ps) y.fits;
        }

    pub kept : {w₂ merged' : List ℕ} → Done width w₂ w₁ n input merged' merged y.counts (map (merge idle y.ps) (alones idle y.ps m)) → Kept width w₂ w₀ n input merged' merged y.counts y.ps
    kept {w₂} {merged'} D =
        subst (λ (qs : List Piece). Kept width w₂ w₀ n input merged' merged y.counts qs) out (record { size = D.size ∙ size; held = D.held; merged_is = D.merged_is })
