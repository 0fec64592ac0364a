-- THE ENDS OF A ROUND'S PIECES HAVE THE CELLS OF THE OUTER ENDS OF ITS WALKS (`outer_keys`). The pieces of a walk share their group. A walk of one piece
-- enters it at end 0 and keeps its points. Any other starts with the first point of the piece that it enters first, and ends with the last of the one that
-- it leaves last, or with one that equals it, and equal points have one cell.
use Prim.Native.Nat.{ℕ, zero, suc, ◌+◌, ◌-◌, ◌*◌, ◌<◌}
use mathlib.Core.Path.{◌≡◌, refl, sym, ap, ap₂, ◌∙◌, subst}
use mathlib.Core.Bool.{Bool, true, false, cond}
use mathlib.Core.List.{List, [], ◌∷◌, map, flat_map, reverse, reverse-reverse}
use mathlib.Core.Option.{Option}
use native.Mathlib.Omega.{arith}
use borrow.Author.Tests.{eqb-true, eqb-false, eq-eqb, ne_eqb}
use lib.Dec.{eqb}
use lib.Ieee.{Float}
use lib.ListN.{length, get_or, length-map, length-reverse, get_or-map}
use Rattle.rules.specs.Answers.{Grid}
use Rattle.rules.specs.Answers.{Cells}
use Rattle.rules.specs.Lists.{count}
use Rattle.rules.specs.Plane.{Point, equal, key_of}
use Rattle.rules.specs.Walking.{piece_of, side_of, other, walks}
use Rattle.rules.specs.Chaining.{Piece, nothing, Rule, piece_at, run, key_at, partner, merged, merge, join}
use Rattle.chain_laws.proofs.Counts.{Each, each_get_d, each_of, count_at}
use Rattle.chain_laws.proofs.Ends.{other_piece}
use Rattle.chain_laws.proofs.Walks.{Proper, walks_proper, lone_entry}
use Rattle.chain_laws.proofs.Partners.{partner_joins}
use Rattle.chain_laws.proofs.Sound.{walk_group}
use Rattle.chain_outer.specs.Outer.{entry_of, exit_of, outer_of}
use Rattle.chain_outer.proofs.Cells.{equal_key}
use Rattle.chain_outer.proofs.Laid.{first_of, last_of, laid_first, laid_last, runs_first, runs_last}
use Rattle.chain_outer.proofs.Listed.{outer_entry, outer_exit}

-- the outer end that stands at t, for either side
outer_even : (ws : List (List ℕ)) (t : ℕ) → piece_of t < length ws → side_of t ≡ 0 → get_or (outer_of ws) t 0 ≡ entry_of (get_or ws (piece_of t) [])
outer_even ws t h e =
    let at : t ≡ piece_of t * 2 = omega arith in
    ap (λ (i : ℕ). get_or (outer_of ws) i 0) at ∙ outer_entry ws (piece_of t) h

outer_odd : (ws : List (List ℕ)) (t : ℕ) → piece_of t < length ws → (side_of t ≡ 0 → ⊥) → get_or (outer_of ws) t 0 ≡ exit_of (get_or ws (piece_of t) [])
outer_odd ws t h e =
    let at : t ≡ piece_of t * 2 + 1 = omega arith in
    ap (λ (i : ℕ). get_or (outer_of ws) i 0) at ∙ outer_exit ws (piece_of t) h

-- an element of a mapped list, whatever stands behind its end
map_at : {A B : Type 0} (f : A → B) (l : List A) (j : ℕ) (a : A) (b : B) → j < length l → get_or (map f l) j b ≡ f (get_or l j a)
map_at f [] j a b h = absurd (omega arith)
map_at f (x ∷ l) zero a b h = refl
map_at f (x ∷ l) (suc j) a b h = map_at f l j a b (omega arith)

-- ---- the ends of a piece

module _ (rule : Rule) (ps : List Piece) where
  -- both ends are of one piece, whose points are seen from end 0 as they stand and from end 1 the other way round
  at_other : (e : ℕ) → piece_at rule ps (other e) ≡ piece_at rule ps e
  unfolding piece_at
  at_other e = ap (λ (i : ℕ). get_or ps i nothing) (other_piece e)

  run_even : (e : ℕ) → side_of e ≡ 0 → run rule ps e ≡ (piece_at rule ps e).points
  unfolding run
  run_even e h = ap (λ (t : Bool). cond t (piece_at rule ps e).points (reverse (piece_at rule ps e).points)) (eq-eqb (side_of e) 0 h)

  run_odd : (e : ℕ) → (side_of e ≡ 0 → ⊥) → run rule ps e ≡ reverse (piece_at rule ps e).points
  unfolding run
  run_odd e h = ap (λ (t : Bool). cond t (piece_at rule ps e).points (reverse (piece_at rule ps e).points)) (ne_eqb (side_of e) 0 h)

  -- so from the other end they are reversed
  run_other : (e : ℕ) → run rule ps (other e) ≡ reverse (run rule ps e)
  run_other e = go (eqb (side_of e) 0) refl
    where
      go : (t : Bool) → eqb (side_of e) 0 ≡ t → run rule ps (other e) ≡ reverse (run rule ps e)
      go true q =
          let even : side_of e ≡ 0 = eqb-true (side_of e) 0 q in
          run_odd (other e) (λ z. omega arith) ∙ ap (λ (p : Piece). reverse p.points) (at_other e) ∙ sym (ap reverse (run_even e even))
      go false q =
          let odd = eqb-false (side_of e) 0 q in
          run_even (other e) (omega arith) ∙ ap (λ (p : Piece). p.points) (at_other e) ∙ sym (ap reverse (run_odd e odd) ∙ reverse-reverse (piece_at rule ps e).points)

  run_long : (e : ℕ) → length (run rule ps e) ≡ length (piece_at rule ps e).points
  unfolding run
  run_long e = go (eqb (side_of e) 0)
    where
      go : (t : Bool) → length (cond t (piece_at rule ps e).points (reverse (piece_at rule ps e).points)) ≡ length (piece_at rule ps e).points
      go true = refl
      go false = length-reverse (piece_at rule ps e).points

  key_of_run : (e g : ℕ) (l : List Point) → (piece_at rule ps e).group ≡ g → run rule ps e ≡ l → key_at rule ps e ≡ key_of rule.grid g (first_of l)
  unfolding key_at
  key_of_run e g l p q = ap₂ (λ (h : ℕ) (r : List Point). key_of rule.grid h (first_of r)) p q

-- ---- the ends of a walk

-- every entry of a walk is an end of a piece
walk_inside : (one : Rule) (ps : List Piece) (w : List ℕ) → Proper (length ps) (partner one ps) w → (i : ℕ) → i < length w → piece_of (get_or w i 0) < length ps
walk_inside one ps w r i h =
    r.inside (piece_of (get_or w i 0))
    (subst (λ (x : ℕ). 0 < count x (map piece_of w)) (get_or-map piece_of w i 0) (count_at (map piece_of w) i (omega (arith, length-map w piece_of))))

-- the walk that stands at j
walk_at : (one : Rule) (ps : List Piece) (j : ℕ) → j < length (walks (partner one ps) (length ps))
    → Proper (length ps) (partner one ps) (get_or (walks (partner one ps) (length ps)) j [])
walk_at one ps j h =
    each_get_d (Proper (length ps) (partner one ps)) (walks (partner one ps) (length ps)) j []
    (walks_proper (length ps) (partner one ps) (partner_joins one ps)) h

proper_long : (n : ℕ) (p : ℕ → Option ℕ) (w : List ℕ) → Proper n p w → 0 < length w
proper_long n p w r = omega (arith, ap length r.starts)

module _ (one two : Rule) (ps : List Piece)
    (alike : (g : ℕ) (p q : Point) → equal p q ≡ true → key_of two.grid g p ≡ key_of two.grid g q)
    (filled : (q : ℕ) → q < length ps → 0 < length (get_or ps q nothing).points)
  where
    abbrev Walk : List ℕ → Type 0
    Walk w = Proper (length ps) (partner one ps) w

    -- none of its runs is empty, and its pieces have the group of what it makes
    runs_filled : (w : List ℕ) → Walk w → Each (λ e. 0 < length (run one ps e)) w
    unfolding piece_at
    runs_filled w r =
        each_of (λ e. 0 < length (run one ps e)) w 0
        (λ i h. omega (arith, run_long one ps (get_or w i 0), filled (piece_of (get_or w i 0)) (walk_inside one ps w r i h)))

    group_at : (w : List ℕ) → Walk w → (i : ℕ) → i < length w → (piece_at two ps (get_or w i 0)).group ≡ (merge one ps w).group
    unfolding merge piece_at
    group_at w r i h =
        each_get_d (λ x. (piece_at one ps x).group ≡ (piece_at one ps (get_or w 0 0)).group) w i 0
        (walk_group one ps r.head (piece_at one ps (get_or w 0 0)).group w r.goes refl) h

    -- the end at which a walk is entered has the key of the first point that it makes, and the end at which it is left that of the last
    entry_key : (w : List ℕ) → Walk w → key_at two ps (entry_of w) ≡ key_of two.grid (merge one ps w).group (first_of (merge one ps w).points)
    unfolding merge merged run piece_at
    entry_key [] r = absurd (omega (arith, proper_long (length ps) (partner one ps) [] r))
    entry_key (e ∷ []) r =
        key_of_run two ps e _ _ (group_at (e ∷ []) r 0 (omega arith))
        (run_even two ps e (lone_entry (length ps) (partner one ps) (partner_joins one ps) e r))
    entry_key (e ∷ f ∷ w) r =
        key_of_run two ps e (merge one ps (e ∷ f ∷ w)).group (run one ps e) (group_at (e ∷ f ∷ w) r 0 (omega arith)) refl
        ∙ ap (key_of two.grid (merge one ps (e ∷ f ∷ w)).group)
        (sym (laid_first (flat_map (run one ps) (e ∷ f ∷ w))
        ∙ runs_first (run one ps) e (f ∷ w) (each_get_d (λ e. 0 < length (run one ps e)) (e ∷ f ∷ w) 0 0 (runs_filled (e ∷ f ∷ w) r) (omega arith))))

    exit_key : (w : List ℕ) → Walk w → key_at two ps (exit_of w) ≡ key_of two.grid (merge one ps w).group (last_of (merge one ps w).points)
    unfolding merge merged run piece_at
    exit_key [] r = absurd (omega (arith, proper_long (length ps) (partner one ps) [] r))
    exit_key (e ∷ []) r =
        key_of_run two ps (other e) _ _ (ap (λ (p : Piece). p.group) (at_other two ps e) ∙ group_at (e ∷ []) r 0 (omega arith))
        (run_other two ps e ∙ ap reverse (run_even two ps e (lone_entry (length ps) (partner one ps) (partner_joins one ps) e r)))
    exit_key (e ∷ f ∷ w) r =
        let g = (merge one ps (e ∷ f ∷ w)).group in
        let k = length (e ∷ f ∷ w) - 1 in
        let l = get_or (e ∷ f ∷ w) k 0 in
        key_of_run two ps (other l) g (reverse (run one ps l))
        (ap (λ (p : Piece). p.group) (at_other two ps l) ∙ group_at (e ∷ f ∷ w) r k (omega arith)) (run_other two ps l)
        ∙ ap (key_of two.grid g) (sym (runs_last (run one ps) e (f ∷ w) (runs_filled (e ∷ f ∷ w) r)))
        ∙ sym (laid_last (key_of two.grid g) (alike g) (flat_map (run one ps) (e ∷ f ∷ w)))

    -- ---- the ends of all walks

    abbrev ws : List (List ℕ)
    ws = walks (partner one ps) (length ps)

    piece_of_lem : (t : ℕ) → piece_of t < length ws → piece_at two (join one ps) t ≡ merge one ps (get_or ws (piece_of t) [])
    unfolding piece_at join
    piece_of_lem t h = map_at (merge one ps) ws (piece_of t) [] nothing h

    ends_keys : (t : ℕ) → piece_of t < length ws → key_at two ps (get_or (outer_of ws) t 0) ≡ key_at two (join one ps) t
    ends_keys t h = go (eqb (side_of t) 0) refl
      where
        w : List ℕ
        w = get_or ws (piece_of t) []

        walk : Walk w
        walk = walk_at one ps (piece_of t) h

        grouped : (piece_at two (join one ps) t).group ≡ (merge one ps w).group
        grouped = ap (λ (p : Piece). p.group) (piece_of_lem t h)

        go : (b : Bool) → eqb (side_of t) 0 ≡ b → key_at two ps (get_or (outer_of ws) t 0) ≡ key_at two (join one ps) t
        go true q =
            let even = eqb-true (side_of t) 0 q in
            ap (key_at two ps) (outer_even ws t h even) ∙ entry_key w walk
            ∙ sym (key_of_run two (join one ps) t _ _ grouped (run_even two (join one ps) t even ∙ ap (λ (p : Piece). p.points) (piece_of_lem t h)))
        go false q =
            let odd = eqb-false (side_of t) 0 q in
            ap (key_at two ps) (outer_odd ws t h odd) ∙ exit_key w walk
            ∙ sym (key_of_run two (join one ps) t _ _ grouped (run_odd two (join one ps) t odd ∙ ap (λ (p : Piece). reverse p.points) (piece_of_lem t h)))

-- ---- the laws

-- two ends for each walk
join_half : (one : Rule) (ps : List Piece) (t : ℕ) → t < 2 * length (join one ps) → piece_of t < length (walks (partner one ps) (length ps))
unfolding join
join_half one ps t h = omega (arith, length-map (walks (partner one ps) (length ps)) (merge one ps))

-- outer ends are ends of the pieces
pub outer_in : (one : Rule) (ps : List Piece) (t : ℕ) → t < 2 * length (join one ps)
    → piece_of (get_or (outer_of (walks (partner one ps) (length ps))) t 0) < length ps
outer_in one ps t h = go (eqb (side_of t) 0) refl
  where
    ws : List (List ℕ)
    ws = walks (partner one ps) (length ps)

    at : piece_of t < length ws
    at = join_half one ps t h

    w : List ℕ
    w = get_or ws (piece_of t) []

    walk : Proper (length ps) (partner one ps) w
    walk = walk_at one ps (piece_of t) at

    long : 0 < length w
    long = proper_long (length ps) (partner one ps) w walk

    go : (b : Bool) → eqb (side_of t) 0 ≡ b → piece_of (get_or (outer_of ws) t 0) < length ps
    go true q = rw (outer_even ws t at (eqb-true (side_of t) 0 q)) (walk_inside one ps w walk 0 long)
    go false q =
        rw (outer_odd ws t at (eqb-false (side_of t) 0 q), other_piece (get_or w (length w - 1) 0))
        (walk_inside one ps w walk (length w - 1) (omega (arith, long)))

-- AN END OF WHAT A ROUND LEAVES HAS THE CELLS OF AN OUTER END OF A WALK
pub outer_keys : (one two : Rule) (ps : List Piece) (tolerance ox oy : Float) → two.grid ≡ Cells tolerance ox oy
    → ((q : ℕ) → q < length ps → 0 < length (get_or ps q nothing).points)
    → (t : ℕ) → t < 2 * length (join one ps)
    → key_at two ps (get_or (outer_of (walks (partner one ps) (length ps))) t 0) ≡ key_at two (join one ps) t
outer_keys one two ps tolerance ox oy cells filled t h = ends_keys one two ps alike filled t (join_half one ps t h)
  where
    alike : (g : ℕ) (p q : Point) → equal p q ≡ true → key_of two.grid g p ≡ key_of two.grid g q
    alike g p q e = subst (λ (grid : Grid). key_of grid g p ≡ key_of grid g q) (sym cells) (equal_key tolerance ox oy g p q e)
