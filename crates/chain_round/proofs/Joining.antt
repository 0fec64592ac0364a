-- The round as a whole: what each phase asks of the one before, and what comes out.
use Prim.Native.Nat.{ℕ, ◌+◌, ◌*◌, ◌≤◌}
use mathlib.Core.Path.{◌≡◌, refl, sym, ap, ◌∙◌, subst}
use mathlib.Core.Bool.{Bool, true, false, cond}
use mathlib.Core.Option.{Option, none, some}
use mathlib.Core.List.{List, map}
use native.Mathlib.Omega.{arith}
use lib.Dec.{eqb}
use lib.Ieee.{Float}
use lib.ListN.{length, length-map}
use Rattle.rules.specs.declared.Settings.{Settings}
use Rattle.std.specs.Prelude.{Option as Maybe, Some, None}
use Rattle.rules.specs.Refusals.{limit_bad}
use Rattle.rules.specs.Answers.{Grid}
use Rattle.rules.specs.Chaining.{Piece, limit_of, rule_of, merge, join, partner}
use Rattle.rules.specs.Walking.{walks}
use Rattle.chain_nodes.specs.Noded.{limit_in, Noded}
use Rattle.chain_merging.specs.Emit.{Walks, Done}
use Rattle.chain_merging.proofs.Joined.{walks_held, joined_are, few_walks}
use Rattle.chain_round.specs.Round.{paired_to, EndsStand, RoundWalked, Walkable, Joinable, GroupedRound, RoundEmits, Rounded, RoundEmitted}
use Rattle.chain_pieces.specs.Map.{join_block, taken_block}
use Rattle.chain_walks.specs.Map.{entry_block, length_block}

pub half_ends : (m k : ℕ) → m * 2 ≡ 2 * k → m ≡ k
half_ends m k e = omega arith

-- the limit of a rule, where the switch is tested
pub limit_is : (s : Settings) → limit_of s ≡ cond (eqb s.switch 1) (some s.limit) none
unfolding limit_of
limit_is s = go (eqb s.switch 1)
  where
    go : (t : Bool) → ◌≡◌ {A = Option Float} (elim t [ true ↦ some s.limit | false ↦ none ]) (cond t (some s.limit) none)
    go true = refl
    go false = refl

-- the same of the limit that is handed on, and that it is fair
pub paired_is : (s : Settings) → limit_of s ≡ limit_in (paired_to s)
unfolding limit_of
paired_is s = go (eqb s.switch 1)
  where
    go : (t : Bool) → ◌≡◌ {A = Option Float} (elim t [ true ↦ some s.limit | false ↦ none ]) (limit_in (cond t (Some s.limit) None))
    go true = refl
    go false = refl

pub fair_is : (s : Settings) → (eqb s.switch 1 ≡ true → limit_bad s.limit ≡ false) → (x : Float) → paired_to s ≡ Some x → limit_bad x ≡ false
fair_is s h x = go (eqb s.switch 1) h
  where
    go : (t : Bool) → (t ≡ true → limit_bad s.limit ≡ false) → cond t (Some s.limit) None ≡ Some x → limit_bad x ≡ false
    go true h e = let q : s.limit ≡ x = cc in subst (λ (y : Float). limit_bad y ≡ false) q (h refl)
    go false h e = cc

module _ (grid : Grid) {width : ℕ} {w₀ : List ℕ} {n m : ℕ} {s : Settings} {groups input spare : List ℕ}
    (y : Walkable width w₀ n m s groups input spare) where
  pub two_ends : m * 2 ≡ 2 * length y.rounding.ps
  two_ends = omega (arith, y.rounding.number)

  -- what walking asks
  abbrev pub grouped_noded : {l : Maybe Float} → l ≡ paired_to s → {w₁ : List ℕ} → EndsStand width w₁ n (m * 2) (rule_of grid s) y.rounding.counts y.rounding.ps input spare → Noded width w₁ n (m * 2) l input spare
  grouped_noded q E =
      record {
        rule = rule_of grid s;
        counts = y.rounding.counts;
        ps = y.rounding.ps;
        two = y.rounding.two;
        few = y.rounding.few;
        ends = two_ends;
        room = E.room;
        held = E.held;
        limited = paired_is s ∙ sym (ap limit_in q);
        fair = λ x p. fair_is s y.fair x (sym q ∙ p);
        nodes = E.nodes;
        keys = E.keys;
      }

-- the second half of a round
abbrev pub grouped_round : (grid : Grid) {width : ℕ} {w₀ w₁ : List ℕ} {n m : ℕ} {s : Settings} {groups input spare merged : List ℕ} {l : Maybe Float} → l ≡ paired_to s
    → (y : Joinable width w₀ n m s groups input spare merged) → EndsStand width w₁ n (m * 2) (rule_of grid s) y.walkable.rounding.counts y.walkable.rounding.ps input spare
    → GroupedRound width w₁ n m l input spare merged
grouped_round grid q y E = record { noded = grouped_noded grid y.walkable q E; fits = y.fits }

abbrev pub walked_round : {width : ℕ} {w₀ w₁ : List ℕ} {n m r : ℕ} {limit : Maybe Float} {input spare merged : List ℕ}
    (y : GroupedRound width w₀ n m limit input spare merged) → RoundWalked width w₁ n m r y.noded.rule y.noded.counts y.noded.ps input spare
    → RoundEmits width w₁ n m r input spare merged
walked_round {m = m} y W =
    record {
      rule = y.noded.rule;
      counts = y.noded.counts;
      ps = y.noded.ps;
      two = y.noded.two;
      number = half_ends m (length y.noded.ps) y.noded.ends;
      walked = W;
      fits = y.fits;
    }

module _ {width : ℕ} {w₂ : List ℕ} {n m r : ℕ} {input spare merged : List ℕ} (y : RoundEmits width w₂ n m r input spare merged) where
  few : m ≤ n
  few = omega (arith, y.number, y.walked.held.few)

  r_few : r ≤ m
  r_few = omega (arith, y.walked.number, few_walks y.rule y.ps m (sym y.number))

  -- what emission asks
  pub front : n * join_block ≤ n * taken_block
  front = omega arith

  pub entries_in : (n * join_block ≤ n * join_block + m * entry_block) × (n * join_block + m * entry_block + m ≤ length w₂)
  entries_in = let f = few in let q = y.walked.room in (omega arith, omega arith)

  pub lengths_in : (n * join_block ≤ n * join_block + m * length_block) × (n * join_block + m * length_block + r ≤ length w₂)
  lengths_in = let f = few in let q = y.walked.room in let e = r_few in (omega arith, omega arith)

  abbrev pub walked_emits : Walks width w₂ n (n * taken_block) m (n * join_block + m * entry_block) (n * join_block + m * length_block) r input spare merged
  walked_emits =
      walks_held width y.rule y.ps y.counts w₂ n (n * taken_block) m (n * join_block + m * entry_block) (n * join_block + m * length_block) r input spare merged
      (sym y.number) y.two y.walked.held front y.walked.number y.walked.entered entries_in y.walked.measured lengths_in y.fits

  -- THE PIECES THAT COME OUT ARE JOINED
  pub emitted_rounded : {w₃ merged' : List ℕ}
      → Done width w₃ w₂ n input merged' merged y.counts (map (merge y.rule y.ps) (walks (partner y.rule y.ps) m))
      → RoundEmitted width w₃ w₂ n r input merged' merged y.counts (join y.rule y.ps)
  emitted_rounded {w₃} {merged'} D =
      record {
        rounded =
            subst (λ (qs : List Piece). Rounded width w₃ w₂ n r input merged' merged y.counts qs)
            (joined_are y.rule y.ps m (sym y.number))
            (record {
              size = D.size;
              number = y.walked.number ∙ sym (length-map (walks (partner y.rule y.ps) m) (merge y.rule y.ps));
              held = D.held;
              merged_is = D.merged_is;
            });
        rest = D.rest;
      }

-- a round from any workspace of the same length
pub rounded_from : {width : ℕ} {w₂ w₁ w₀ : List ℕ} {n r : ℕ} {input merged' merged counts : List ℕ} {qs : List Piece} → length w₁ ≡ length w₀
    → Rounded width w₂ w₁ n r input merged' merged counts qs → Rounded width w₂ w₀ n r input merged' merged counts qs
rounded_from z R = record { size = R.size ∙ z; number = R.number; held = R.held; merged_is = R.merged_is }
