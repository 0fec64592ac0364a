-- A node written out, end by end: what is written, followed by the list from the present end on, is the node.
use Prim.Native.Nat.{ℕ, ◌+◌, ◌-◌, ◌*◌, ◌≤◌, ◌<◌}
use mathlib.Core.Path.{◌≡◌, sym, ap, ◌∙◌, subst}
use mathlib.Core.List.{List, [], ◌∷◌, ◌++◌, append-nil}
use native.Mathlib.Omega.{arith}
use lib.ListN.{length, get_or, set, drop}
use lib.Seq.{append_snoc, get_or-drop, get_or-set_other}
use Rattle.point_slices.specs.Holds.{HoldsFrom}
use Rattle.point_slices.proofs.Laws.{from_start, from_set, from_beyond}
use Rattle.chain_grouping.specs.Group.{follow}
use Rattle.chain_grouping.proofs.Nodes.{follow_stop, follow_next}
use Rattle.chain_joins.specs.Node.{node_of, NodeListable}
use Rattle.chain_grouping.specs.Map.{last_block, next_block}

module _ {w₀ : List ℕ} {list at m e : ℕ} (L : NodeListable w₀ list at m e) where
  -- the end behind f
  abbrev next : ℕ → ℕ
  next f = get_or (drop at w₀) (m * next_block + f) 0

  -- d ends are written, and the list from f on takes them to the node
  pub record Way (w : List ℕ) (f d : ℕ) : Type 0 where
    pub done : List ℕ
    pub within : f < m
    pub holds : HoldsFrom w w₀ list d done
    pub goes : done ++ follow (λ x. get_or (drop at w₀) (m * next_block + x) 0) (m - d) f ≡ follow (λ x. get_or (drop at w₀) (m * next_block + x) 0) m e

  pub way_start : Way w₀ e 0
  way_start =
      let q : m - 0 ≡ m = omega arith in
      record { done = []; within = L.within; holds = from_start w₀ list; goes = rw q }

  module _ {w : List ℕ} {f d : ℕ} (Y : Way w f d) (h : d < m) where
    room : list + d < length w₀
    room = let a = L.below in let b = L.room in omega arith

    -- the next word is read after f is written
    pub way_next : get_or (set w (list + d) f) (at + m * next_block + f) 0 ≡ next f
    way_next =
        let a = L.below in
        let r = room in
        let p : at + m * next_block + f ≡ at + (m * next_block + f) = omega arith in
        get_or-set_other w (list + d) (at + m * next_block + f) f 0 (λ q. omega arith)
        ∙ from_beyond Y.holds (omega arith) (at + m * next_block + f) (omega arith)
        ∙ ap (λ (i : ℕ). get_or w₀ i 0) p
        ∙ sym (get_or-drop at w₀ (m * next_block + f) 0)

    pub way_step : (g : ℕ) → next f ≡ g → 0 < g → Way (set w (list + d) f) g (d + 1)
    way_step g n p =
        let q : m - d - 1 ≡ m - (d + 1) = omega arith in
        record {
          done = Y.done ++ (f ∷ []);
          within = omega (arith, (L.nodes.rises f Y.within (omega arith)).1);
          holds = from_set Y.holds room f;
          goes =
              append_snoc Y.done f (follow (λ x. get_or (drop at w₀) (m * next_block + x) 0) (m - (d + 1)) g)
              ∙ ap (λ (l : List ℕ). Y.done ++ l)
              (ap {B = List ℕ} (λ j. f ∷ follow (λ x. get_or (drop at w₀) (m * next_block + x) 0) j g) (sym q)
              ∙ ap {B = List ℕ} (λ j. f ∷ follow (λ x. get_or (drop at w₀) (m * next_block + x) 0) (m - d - 1) j) (sym n)
              ∙ sym (follow_next (λ x. get_or (drop at w₀) (m * next_block + x) 0) (m - d) f (omega arith) (omega arith)))
              ∙ Y.goes;
        }

    pub way_stop : next f ≡ 0 → HoldsFrom (set w (list + d) f) w₀ list (d + 1) (node_of (drop at w₀) m e)
    unfolding node_of
    way_stop z =
        subst (λ (l : List ℕ). HoldsFrom (set w (list + d) f) w₀ list (d + 1) l)
        (ap (λ (l : List ℕ). Y.done ++ l) (sym (follow_stop (λ x. get_or (drop at w₀) (m * next_block + x) 0) (m - d) f (omega arith) z)) ∙ Y.goes ∙ L.nodes.node e L.within leads)
        (from_set Y.holds room f)
      where
        leads : e ≤ get_or (drop at w₀) (m * last_block + e) 0
        leads = let p : at + (m * last_block + e) ≡ at + m * last_block + e = omega arith in omega (arith, L.leads, get_or-drop at w₀ (m * last_block + e) 0, ap (λ (i : ℕ). get_or w₀ i 0) p)

  pub way_end : {w : List ℕ} {f d : ℕ} → Way w f d → m ≤ d → HoldsFrom w w₀ list d (node_of (drop at w₀) m e)
  unfolding node_of follow
  way_end {w} {f} {d} Y h =
      let q : m - d ≡ 0 = omega arith in
      subst (λ (l : List ℕ). HoldsFrom w w₀ list d l)
      (sym (append-nil Y.done) ∙ ap (λ (j : ℕ). Y.done ++ follow (λ x. get_or (drop at w₀) (m * next_block + x) 0) j f) (sym q) ∙ Y.goes ∙ L.nodes.node e L.within leads)
      Y.holds
    where
      leads : e ≤ get_or (drop at w₀) (m * last_block + e) 0
      leads = let p : at + (m * last_block + e) ≡ at + m * last_block + e = omega arith in omega (arith, L.leads, get_or-drop at w₀ (m * last_block + e) 0, ap (λ (i : ℕ). get_or w₀ i 0) p)
