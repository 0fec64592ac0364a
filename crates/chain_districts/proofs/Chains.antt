-- A DISTRICT'S CHAINS, named by its own lines' ranks, are the chains of its lines alone: so they are the same in any two calls with the same
-- settings in which its lines are the same in the same order.
-- A line becomes a piece by its own district's leave alone, a round joins a district's pieces as if the others were not there, and ranks are labels.
use Prim.Native.Nat.{ℕ, suc, ◌+◌, ◌≤◌, ◌<◌}
use mathlib.Core.Path.{◌≡◌, refl, sym, ap, ap₂, ◌∙◌}
use mathlib.Core.Bool.{Bool, true, false, beq}
use mathlib.Core.List.{List, [], ◌∷◌, ◌++◌, map, map-append}
use native.Mathlib.Omega.{arith}
use native.Mathlib.Nat.{add-zero, zero-add}
use lib.Ieee.{lt}
use lib.ListN.{length, take}
use Rattle.rules.specs.declared.Settings.{Settings}
use Rattle.rules.specs.Answers.{Exact}
use Rattle.rules.specs.Lists.{count, keep}
use Rattle.rules.specs.Districts.{is_of}
use Rattle.rules.specs.Plane.{nought}
use Rattle.rules.specs.Chaining.{Piece, Rule, join, Line, plain, alone, pieces, rule_of, cells_of, round_one, round_two, chains}
use Rattle.pair_laws.proofs.Lists.{keep_append}
use Rattle.chain_laws.proofs.Kept.{keep_yes, keep_no}
use Rattle.chain_laws.proofs.Lines.{lines_of, pieces_take, pieces_leave, in_one_chain, no_other_line}
use Rattle.chain_districts.specs.Districts.{district_lines, rank, relabel, district_chains}
use Rattle.chain_districts.proofs.Rounds.{join_district}
use Rattle.chain_districts.proofs.Relabel.{join_relabel}

module _ (d : ℕ) where
  abbrev line_in : Line → Bool
  line_in l = is_of d l.group

  abbrev piece_in : Piece → Bool
  piece_in p = is_of d p.group

  -- the ranks from c on of the lines from position k on
  abbrev Ranks : (ℕ → ℕ) → ℕ → ℕ → List Line → Type 0
  Ranks r k c ls = (x : ℕ) → r (k + x) ≡ c + rank d ls x

  -- ---- ranks, line by line

  pub rank_first : (ls : List Line) → rank d ls 0 ≡ 0
  unfolding rank district_lines keep
  rank_first ls = refl

  pub rank_own : (l : Line) (ls : List Line) (x : ℕ) → is_of d l.group ≡ true → rank d (l ∷ ls) (suc x) ≡ suc (rank d ls x)
  unfolding rank district_lines
  rank_own l ls x e = ap length (keep_yes line_in l (take x ls) e)

  pub rank_foreign : (l : Line) (ls : List Line) (x : ℕ) → is_of d l.group ≡ false → rank d (l ∷ ls) (suc x) ≡ rank d ls x
  unfolding rank district_lines
  rank_foreign l ls x e = ap length (keep_no line_in l (take x ls) e)

  own_next : (r : ℕ → ℕ) (k c : ℕ) (l : Line) (ls : List Line) → is_of d l.group ≡ true → Ranks r k c (l ∷ ls) → Ranks r (suc k) (suc c) ls
  own_next r k c l ls e h x = ap r (omega arith) ∙ h (suc x) ∙ ap (λ (n : ℕ). c + n) (rank_own l ls x e) ∙ (omega arith)

  foreign_next : (r : ℕ → ℕ) (k c : ℕ) (l : Line) (ls : List Line) → is_of d l.group ≡ false → Ranks r k c (l ∷ ls) → Ranks r (suc k) c ls
  foreign_next r k c l ls e h x = ap r (omega arith) ∙ h (suc x) ∙ ap (λ (n : ℕ). c + n) (rank_foreign l ls x e)

  here : (r : ℕ → ℕ) (k c : ℕ) (ls : List Line) → Ranks r k c ls → r k ≡ c
  here r k c ls h = ap r (sym (add-zero k)) ∙ h 0 ∙ ap (λ (n : ℕ). c + n) (rank_first ls) ∙ add-zero c

  -- ---- lines to pieces

  module _ (want : Bool) (r : ℕ → ℕ) where
    abbrev Goal : ℕ → ℕ → List Line → Type 0
    Goal k c ls = map (relabel r) (keep piece_in (pieces want k ls)) ≡ pieces want c (district_lines d ls)

    own : (k c : ℕ) (l : Line) (ls : List Line) (t : Bool) → beq want (plain l) ≡ t → is_of d l.group ≡ true
        → r k ≡ c → Goal (suc k) (suc c) ls → Goal k c (l ∷ ls)
    unfolding relabel alone district_lines
    own k c l ls true q e h ih =
        ap (λ (ps : List Piece). map (relabel r) (keep piece_in ps)) (pieces_take want k l ls q)
        ∙ ap (map (relabel r)) (keep_yes piece_in (alone k l) (pieces want (suc k) ls) e)
        ∙ ap₂ {C = List Piece} (λ (i : ℕ) (m : List Piece). alone i l ∷ m) h ih
        ∙ sym (pieces_take want c l (keep line_in ls) q)
        ∙ sym (ap (pieces want c) (keep_yes line_in l ls e))
    own k c l ls false q e h ih =
        ap (λ (ps : List Piece). map (relabel r) (keep piece_in ps)) (pieces_leave want k l ls q)
        ∙ ih
        ∙ sym (pieces_leave want c l (keep line_in ls) q)
        ∙ sym (ap (pieces want c) (keep_yes line_in l ls e))

    foreign : (k c : ℕ) (l : Line) (ls : List Line) (t : Bool) → beq want (plain l) ≡ t → is_of d l.group ≡ false
        → Goal (suc k) c ls → Goal k c (l ∷ ls)
    unfolding alone district_lines
    foreign k c l ls true q e ih =
        ap (λ (ps : List Piece). map (relabel r) (keep piece_in ps)) (pieces_take want k l ls q)
        ∙ ap (map (relabel r)) (keep_no piece_in (alone k l) (pieces want (suc k) ls) e)
        ∙ ih
        ∙ sym (ap (pieces want c) (keep_no line_in l ls e))
    foreign k c l ls false q e ih =
        ap (λ (ps : List Piece). map (relabel r) (keep piece_in ps)) (pieces_leave want k l ls q)
        ∙ ih
        ∙ sym (ap (pieces want c) (keep_no line_in l ls e))

    pieces_district : (k c : ℕ) (ls : List Line) → Ranks r k c ls → Goal k c ls
    unfolding pieces keep district_lines
    pieces_district k c [] h = refl
    pieces_district k c (l ∷ ls) h =
        go (is_of d l.group) refl (λ j. pieces_district (suc k) (suc c) ls j) (λ j. pieces_district (suc k) c ls j)
      where
        go : (t : Bool) → is_of d l.group ≡ t → (Ranks r (suc k) (suc c) ls → Goal (suc k) (suc c) ls)
            → (Ranks r (suc k) c ls → Goal (suc k) c ls) → Goal k c (l ∷ ls)
        go true e yes-ih no-ih =
            own k c l ls (beq want (plain l)) refl e (here r k c (l ∷ ls) h) (yes-ih (own_next r k c l ls e h))
        go false e yes-ih no-ih =
            foreign k c l ls (beq want (plain l)) refl e (no-ih (foreign_next r k c l ls e h))

  -- ---- the rounds, and a call

  module _ (r : ℕ → ℕ) where
    abbrev ours : List Piece → List Piece
    ours ps = map (relabel r) (keep piece_in ps)

    round_district : (rule : Rule) (ps : List Piece) → ours (join rule ps) ≡ join rule (ours ps)
    round_district rule ps = ap (map (relabel r)) (join_district (is_of d) rule ps) ∙ sym (join_relabel r rule (keep piece_in ps))

    one_district : (s : Settings) (ps : List Piece) → ours (round_one s ps) ≡ round_one s (ours ps)
    unfolding round_one
    one_district s ps = round_district (rule_of Exact s) ps

    two_district : (s : Settings) (ps : List Piece) → ours (round_two s ps) ≡ round_two s (ours ps)
    unfolding round_two
    two_district s ps = go (lt nought s.tolerance) refl
      where
        go : (t : Bool) → lt nought s.tolerance ≡ t → ours (round_two s ps) ≡ round_two s (ours ps)
        go true e = rw (e, round_two) (round_district (rule_of (cells_of s) s) ps)
        go false e = rw (e, round_two)

    ours_append : (a b : List Piece) → ours (a ++ b) ≡ ours a ++ ours b
    ours_append a b = ap (map (relabel r)) (keep_append piece_in a b) ∙ map-append (relabel r) (keep piece_in a) (keep piece_in b)

  -- A DISTRICT'S CHAINS ARE THOSE OF ITS LINES ALONE
  pub district_alone : (s : Settings) (ls : List Line) → district_chains d ls (chains s ls) ≡ chains s (district_lines d ls)
  unfolding chains district_chains
  district_alone s ls =
      ours_append r (round_two s (round_one s (pieces true 0 ls))) (pieces false 0 ls)
      ∙ ap₂ ◌++◌
      (two_district r s (round_one s (pieces true 0 ls))
      ∙ ap (round_two s) (one_district r s (pieces true 0 ls) ∙ ap (round_one s) (pieces_district true r 0 0 ls base)))
      (pieces_district false r 0 0 ls base)
    where
      r : ℕ → ℕ
      r = rank d ls

      base : Ranks r 0 0 ls
      base x = ap r (zero-add x) ∙ sym (zero-add (r x))

  -- AND THE SAME IN TWO CALLS THAT HAVE THE SAME LINES OF IT, in the same order
  pub district_same : (s : Settings) (ls ms : List Line) → district_lines d ls ≡ district_lines d ms → district_chains d ls (chains s ls) ≡ district_chains d ms (chains s ms)
  district_same s ls ms h = district_alone s ls ∙ ap (chains s) h ∙ sym (district_alone s ms)

  -- the names are the district's ranks, each once, and nothing else
  pub ranks_once : (s : Settings) (ls : List Line) (j : ℕ) → j < length (district_lines d ls) → count j (lines_of (district_chains d ls (chains s ls))) ≡ 1
  ranks_once s ls j b = ap (λ (ps : List Piece). count j (lines_of ps)) (district_alone s ls) ∙ in_one_chain s (district_lines d ls) j b

  pub no_other_rank : (s : Settings) (ls : List Line) (j : ℕ) → length (district_lines d ls) ≤ j → count j (lines_of (district_chains d ls (chains s ls))) ≡ 0
  no_other_rank s ls j b = ap (λ (ps : List Piece). count j (lines_of ps)) (district_alone s ls) ∙ no_other_line s (district_lines d ls) j b
