-- Relabelling: line numbers are labels. A round of pieces whose lines are numbered anew is the round, numbered so, since nothing that it decides
-- looks at a line number.
use Prim.Native.Nat.{ℕ, ◌+◌, ◌*◌, ◌%◌}
use mathlib.Core.Path.{◌≡◌, refl, sym, ap, ap₂, ◌∙◌, fun_ext}
use mathlib.Core.Bool.{Bool, true, false, cond}
use mathlib.Core.List.{List, [], ◌∷◌, ◌++◌, map, flat_map, reverse, map-append}
use mathlib.Core.Option.{Option, none, some}
use mathlib.Mathlib.Data.List.Basic.{map-reverse_aux}
use lib.Dec.{eqb}
use lib.Ieee.{Float}
use lib.ListN.{length, get_or, length-map, get_or-map}
use Rattle.rules.specs.Lists.{keep, upto}
use Rattle.rules.specs.Plane.{Point, point, Key, same_key, key_of, direction_of}
use Rattle.rules.specs.Selecting.{End, select}
use Rattle.rules.specs.Walking.{piece_of, side_of, walks}
use Rattle.rules.specs.Chaining.{Piece, Rule, nothing, piece_at, run, key_at, node, end_at, chosen, joined, mate, partner, lay, merged, passed, turned, merge, join}
use Rattle.chain_districts.specs.Districts.{relabel}

module _ (r : ℕ → ℕ) (rule : Rule) (ps : List Piece) where
  abbrev rs : List Piece
  rs = map (relabel r) ps

  piece_re : (e : ℕ) → piece_at rule rs e ≡ relabel r (piece_at rule ps e)
  unfolding piece_at relabel
  piece_re e = get_or-map (relabel r) ps (piece_of e) nothing

  points_re : (e : ℕ) → (piece_at rule rs e).points ≡ (piece_at rule ps e).points
  unfolding relabel
  points_re e = ap (λ (p : Piece). p.points) (piece_re e)

  group_re : (e : ℕ) → (piece_at rule rs e).group ≡ (piece_at rule ps e).group
  unfolding relabel
  group_re e = ap (λ (p : Piece). p.group) (piece_re e)

  lines_re : (e : ℕ) → (piece_at rule rs e).lines ≡ map r (piece_at rule ps e).lines
  unfolding relabel
  lines_re e = ap (λ (p : Piece). p.lines) (piece_re e)

  turned_re : (e : ℕ) → turned rule rs e ≡ turned rule ps e
  unfolding turned relabel
  turned_re e = ap (λ (p : Piece). map (λ mark. (mark + side_of e) % 2) p.marks) (piece_re e)

  passed_re : (e : ℕ) → passed rule rs e ≡ map r (passed rule ps e)
  unfolding passed relabel
  passed_re e =
      ap (λ (p : Piece). cond (eqb (side_of e) 0) p.listing (reverse p.listing)) (piece_re e) ∙ go (eqb (side_of e) 0)
    where
      l : List ℕ
      l = (piece_at rule ps e).listing

      go : (t : Bool) → cond t (map r l) (reverse (map r l)) ≡ map r (cond t l (reverse l))
      go true = refl
      go false = sym (map-reverse_aux r l [])

  run_re : run rule rs ≡ run rule ps
  unfolding run
  run_re = fun_ext λ e. ap (λ (l : List Point). cond (eqb (side_of e) 0) l (reverse l)) (points_re e)

  key_re : key_at rule rs ≡ key_at rule ps
  unfolding key_at
  key_re = fun_ext λ e. ap₂ (λ (g : ℕ) (f : ℕ → List Point). key_of rule.grid g (get_or (f e) 0 (point 0 0))) (group_re e) run_re

  end_re : end_at rule rs ≡ end_at rule ps
  unfolding end_at
  end_re = ap {B = ℕ → End} (λ (f : ℕ → List Point). λ e. record { name = e; piece = piece_of e; direction = direction_of (f e) }) run_re

  node_re : (e : ℕ) → node rule rs e ≡ node rule ps e
  unfolding node
  node_re e =
      ap₂ (λ (k : ℕ → Key) (n : ℕ). keep (λ f. same_key (k e) (k f)) (upto (2 * n))) key_re (length-map ps (relabel r))

  chosen_re : (o : Option Float) (l : List ℕ) → chosen rule rs o l ≡ chosen rule ps o l
  unfolding chosen
  chosen_re none l = refl
  chosen_re (some limit) l = ap (λ (f : ℕ → End). select limit (map f l)) end_re

  joined_re : (l : List ℕ) → joined rule rs l ≡ joined rule ps l
  unfolding joined
  joined_re [] = refl
  joined_re (a ∷ []) = refl
  joined_re (a ∷ b ∷ []) = refl
  joined_re (a ∷ b ∷ c ∷ l) = ap (map {B = ℕ × ℕ} (λ p. (p.i, p.j))) (chosen_re rule.limit (a ∷ b ∷ c ∷ l))

  partner_re : partner rule rs ≡ partner rule ps
  unfolding partner
  partner_re = fun_ext λ e. ap (λ (l : List ℕ). mate e (joined rule rs l)) (node_re e) ∙ ap (mate e) (joined_re (node rule ps e))

  flat_re : {B : Type 0} (f g : ℕ → List B) → ((e : ℕ) → f e ≡ g e) → (w : List ℕ) → flat_map f w ≡ flat_map g w
  unfolding flat_map
  flat_re f g h [] = refl
  flat_re f g h (e ∷ w) = ap₂ ◌++◌ (h e) (flat_re f g h w)

  flat_map_lem : (g : ℕ → List ℕ) (w : List ℕ) → flat_map (λ e. map r (g e)) w ≡ map r (flat_map g w)
  unfolding flat_map
  flat_map_lem g [] = refl
  flat_map_lem g (e ∷ w) = ap (λ (l : List ℕ). map r (g e) ++ l) (flat_map_lem g w) ∙ sym (map-append r (g e) (flat_map g w))

  merged_re : (w : List ℕ) → merged rule rs w ≡ merged rule ps w
  unfolding merged
  merged_re [] = refl
  merged_re (e ∷ []) = points_re e
  merged_re (e ∷ f ∷ w) = ap (λ (g : ℕ → List Point). lay none (flat_map g (e ∷ f ∷ w))) run_re

  merge_re : (w : List ℕ) → merge rule rs w ≡ relabel r (merge rule ps w)
  unfolding merge relabel
  merge_re w = λ i.
      record {
        lines =
            (flat_re (λ e. (piece_at rule rs e).lines) (λ e. map r (piece_at rule ps e).lines) lines_re w
            ∙ flat_map_lem (λ e. (piece_at rule ps e).lines) w) i;
        marks = flat_re (turned rule rs) (turned rule ps) turned_re w i;
        listing = (flat_re (passed rule rs) (λ e. map r (passed rule ps e)) passed_re w ∙ flat_map_lem (passed rule ps) w) i;
        points = merged_re w i;
        group = group_re (get_or w 0 0) i;
      }

  merges_re : (ws : List (List ℕ)) → map (merge rule rs) ws ≡ map (relabel r) (map (merge rule ps) ws)
  merges_re [] = refl
  merges_re (w ∷ ws) = ap₂ {C = List Piece} (λ x l. x ∷ l) (merge_re w) (merges_re ws)

  pub join_relabel : join rule rs ≡ map (relabel r) (join rule ps)
  unfolding join
  join_relabel =
      ap₂ (λ (p : ℕ → Option ℕ) (n : ℕ). map (merge rule rs) (walks p n)) partner_re (length-map ps (relabel r))
      ∙ merges_re (walks (partner rule ps) (length ps))
