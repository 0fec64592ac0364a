-- The lines of a walk meet, where those of its pieces do and the keys of the pieces' ends are those of their lines.
use Prim.Native.Nat.{ℕ, zero, suc, ◌+◌, ◌-◌, ◌≤◌, ◌<◌}
use mathlib.Core.Path.{◌≡◌, refl, sym, ap, ap₂, ◌∙◌}
use mathlib.Core.Bool.{Bool, true, false, cond}
use mathlib.Core.List.{List, [], ◌∷◌, ◌++◌, map, flat_map, reverse, append-nil}
use mathlib.Core.Option.{some}
use native.Mathlib.Omega.{arith}
use lib.Dec.{eqb}
use lib.ListN.{length, get_or, length-reverse, length-map}
use Rattle.rules.specs.declared.Meeting.{Meeting}
use Rattle.rules.specs.Lists.{count}
use Rattle.rules.specs.Plane.{Point, key_of}
use Rattle.rules.specs.Walking.{piece_of, side_of, other, walks}
use Rattle.rules.specs.Chaining.{Piece, nothing, Rule, Line, piece_at, run, key_at, partner, passed, turned, merge, join}
use Rattle.rules.specs.Check.{meet}
use Rattle.chain_laws.proofs.Counts.{Each, nil, cons, each_get_d, count_append, one_same}
use Rattle.chain_laws.proofs.Lines.{flat_map_append, lines_of}
use Rattle.chain_laws.proofs.Ends.{other_piece}
use Rattle.chain_laws.proofs.Forward.{Goes, free, ring, next}
use Rattle.chain_laws.proofs.Walks.{Proper, walks_proper}
use Rattle.chain_laws.proofs.Partners.{partner_joins, partner_key}
use Rattle.chain_laws.proofs.Drawn.{Drawn, passed_count, listing_count}
use Rattle.chain_laws.proofs.Sound.{Sound}
use Rattle.chain_extras.specs.Bare.{own_points}
use Rattle.chain_travel.specs.Travel.{drawn, mark_of}
use Rattle.chain_travel.proofs.Lists.{flat_map_same}
use Rattle.chain_travel.proofs.Marks.{mark_here_lem, mark_behind}
use Rattle.chain_travel.proofs.Joining.{Passes, at, lines_on, turned_length, drawn_on}
use Rattle.check_built.specs.Runs.{first_of, last_of, meets_all, turned_runs, runs_by, runs_of}
use Rattle.check_built.proofs.Runs.{first_run, last_run, first_append, meets_append, turned_first, turned_last}
use Rattle.check_built.proofs.Pieces.{bare_key, Meets, meet_by, runs_from, runs_from_lem, meets_from}

module _ (ls : List Line) (m : Meeting) (rule : Rule) (ps : List Piece) (keeps : Each (Passes ls) ps) (sound : Each (Sound ls) ps) where
  -- the lines of the piece of an end, as they are passed from there
  abbrev pub runs_on : ℕ → List (List Point)
  runs_on e = runs_from ls (piece_at rule ps e) (at ls rule ps keeps sound e) (side_of e)

  piece_runs : (e : ℕ) → runs_by ls (piece_at rule ps e).lines (turned rule ps e) (passed rule ps e) ≡ runs_on e
  unfolding turned passed
  piece_runs e = runs_from_lem ls (piece_at rule ps e) (at ls rule ps keeps sound e) (side_of e) (omega arith)

  walk_runs : (w : List ℕ) → ((y : ℕ) → count y (lines_on ls rule ps keeps sound w) ≤ 1)
      → runs_by ls (lines_on ls rule ps keeps sound w) (flat_map (turned rule ps) w) (flat_map (passed rule ps) w) ≡ flat_map runs_on w
  unfolding flat_map runs_by
  walk_runs [] h = refl
  walk_runs (e ∷ w) h =
      let a = (piece_at rule ps e).lines in
      let t = turned rule ps e in
      let n = lines_on ls rule ps keeps sound w in
      let u = flat_map (turned rule ps) w in
      flat_map_append (λ k. drawn (mark_of (a ++ n) (t ++ u) k) (own_points ls k) ∷ []) (passed rule ps e) (flat_map (passed rule ps) w)
      ∙ ap₂ ◌++◌
      (flat_map_same _ _ (passed rule ps e)
      (λ k i. ap {B = List (List Point)} (λ (j : ℕ). drawn j (own_points ls k) ∷ [])
      (mark_here_lem k a t (turned_length ls rule ps keeps sound e) n u (omega (arith, passed_count rule ps k e, (at ls rule ps keeps sound e).drawn.passes k))))
      ∙ piece_runs e)
      (flat_map_same _ _ (flat_map (passed rule ps) w)
      (λ k i. ap {B = List (List Point)} (λ (j : ℕ). drawn j (own_points ls k) ∷ [])
      (mark_behind k a t (turned_length ls rule ps keeps sound e) n u
      (omega (arith, h k, count_append k a n, listing_count rule ps k w (drawn_on ls rule ps keeps sound w)))))
      ∙ walk_runs w (λ y. omega (arith, h y, count_append y a n)))

  -- ---- the ends of pieces that are there

  -- a piece has a line, and so a run
  runs_length : (members marks listing : List ℕ) → length (runs_by ls members marks listing) ≡ length listing
  unfolding runs_by flat_map
  runs_length members marks [] = refl
  runs_length members marks (k ∷ l) = ap suc (runs_length members marks l)

  runs_filled : (e : ℕ) → piece_of e < length ps → 0 < length (runs_of ls (piece_at rule ps e))
  unfolding piece_at
  runs_filled e h =
      let s = each_get_d (Sound ls) ps (piece_of e) nothing sound h in
      let p = get_or ps (piece_of e) nothing in
      omega (arith, runs_length p.lines p.marks p.listing, Rattle.chain_laws.proofs.Drawn.listing_long p s.drawn, s.full)

  pub on_filled : (e : ℕ) → piece_of e < length ps → 0 < length (runs_on e)
  on_filled e h = go (eqb (side_of e) 0)
    where
      go : (t : Bool) → 0 < length (cond t (runs_of ls (piece_at rule ps e)) (turned_runs (runs_of ls (piece_at rule ps e))))
      go true = runs_filled e h
      go false =
          omega (arith, runs_filled e h, length-map (reverse (runs_of ls (piece_at rule ps e))) (λ (r : List Point). reverse r), length-reverse (runs_of ls (piece_at rule ps e)))

  same_piece : (e f : ℕ) → piece_of e ≡ piece_of f → piece_at rule ps e ≡ piece_at rule ps f
  unfolding piece_at
  same_piece e f h = ap (λ (i : ℕ). get_or ps i nothing) h

  -- from the other end the last run comes first, turned
  other_first : (e : ℕ) → piece_of e < length ps → first_run (runs_on (other e)) ≡ reverse (last_run (runs_on e))
  other_first e h =
      ap (λ (p : Piece). first_run (cond (eqb (side_of (other e)) 0) (runs_of ls p) (turned_runs (runs_of ls p)))) (same_piece (other e) e (other_piece e))
      ∙ go (side_of e) (side_of (other e)) (sides e) (runs_of ls (piece_at rule ps e)) (runs_filled e h)
    where
      sides : (e : ℕ) → side_of e + side_of (other e) ≡ 1
      sides e = omega arith

      go : (s o : ℕ) → s + o ≡ 1 → (rs : List (List Point)) → 0 < length rs
          → first_run (cond (eqb o 0) rs (turned_runs rs)) ≡ reverse (last_run (cond (eqb s 0) rs (turned_runs rs)))
      go zero zero q rs f = absurd (omega arith)
      go zero (suc zero) q rs f = turned_first rs f
      go zero (suc (suc o)) q rs f = absurd (omega arith)
      go (suc zero) zero q [] f = absurd (omega arith)
      go (suc zero) zero q (r ∷ rs) f = sym (turned_last r rs)
      go (suc zero) (suc o) q rs f = absurd (omega arith)
      go (suc (suc s)) o q rs f = absurd (omega arith)

  -- ---- a walk

  module _ (grid-meets : Meets m rule.grid) (meets : Each (λ p. meets_all m (runs_of ls p) ≡ true) ps)
      (seen : (e : ℕ) → piece_of e < length ps → key_of rule.grid 0 (first_of (run rule ps e)) ≡ key_of rule.grid 0 (first_of (first_run (runs_on e)))) where
    on_meets : (e : ℕ) → piece_of e < length ps → meets_all m (runs_on e) ≡ true
    unfolding piece_at
    on_meets e h =
        meets_from ls (get_or ps (piece_of e) nothing) (at ls rule ps keeps sound e) m (side_of e)
        (each_get_d (λ p. meets_all m (runs_of ls p) ≡ true) ps (piece_of e) nothing meets h)

    seam : (e f : ℕ) → piece_of e < length ps → piece_of f < length ps → partner rule ps (other e) ≡ some f
        → meet m (last_of (last_run (runs_on e))) (first_of (first_run (runs_on f))) ≡ true
    unfolding key_at
    seam e f h k q =
        let o : piece_of (other e) < length ps = omega (arith, other_piece e) in
        let a : key_of rule.grid 0 (first_of (run rule ps (other e))) ≡ key_of rule.grid 0 (first_of (run rule ps f)) =
        bare_key rule.grid _ _ _ _ (partner_key rule ps (other e) f q) in
        meet_by m rule.grid (last_of (last_run (runs_on e))) (first_of (first_run (runs_on f))) grid-meets
        (ap (λ (r : List Point). key_of rule.grid 0 (first_of r)) (sym (other_first e h)) ∙ sym (seen (other e) o) ∙ a ∙ seen f k)

    walk_meets : (h : ℕ) (w : List ℕ) → Goes (partner rule ps) h w → ((x : ℕ) → 0 < count x (map piece_of w) → x < length ps)
        → meets_all m (flat_map runs_on w) ≡ true
    unfolding flat_map count
    walk_meets h w (free {e} j) b =
        ap (meets_all m) (append-nil (runs_on e)) ∙ on_meets e (b (piece_of e) (omega (arith, one_same (piece_of e) (piece_of e) refl)))
    walk_meets h w (ring {e} j) b =
        ap (meets_all m) (append-nil (runs_on e)) ∙ on_meets e (b (piece_of e) (omega (arith, one_same (piece_of e) (piece_of e) refl)))
    walk_meets h w (next {e} {f} {w = v} j r) b =
        let p : piece_of e < length ps = b (piece_of e) (omega (arith, one_same (piece_of e) (piece_of e) refl)) in
        let q : piece_of f < length ps = b (piece_of f) (omega (arith, one_same (piece_of f) (piece_of f) refl)) in
        meets_append m (runs_on e) (runs_on f ++ flat_map runs_on v) (on_meets e p) (walk_meets h (f ∷ v) r (λ x i. b x (omega arith)))
        (λ x y. ap (λ (z : List Point). meet m (last_of (last_run (runs_on e))) (first_of z)) (first_append (runs_on f) (flat_map runs_on v) (on_filled f q)) ∙ seam e f p q j)

    merge_meets : (w : List ℕ) → Proper (length ps) (partner rule ps) w → ((y : ℕ) → count y (merge rule ps w).lines ≤ 1)
        → meets_all m (runs_of ls (merge rule ps w)) ≡ true
    unfolding merge
    merge_meets w r h = ap (meets_all m) (walk_runs w h) ∙ walk_meets r.head w r.goes r.inside

    all_meet : (ws : List (List ℕ)) → Each (Proper (length ps) (partner rule ps)) ws
        → ((y : ℕ) → count y (lines_of (map (merge rule ps) ws)) ≤ 1) → Each (λ p. meets_all m (runs_of ls p) ≡ true) (map (merge rule ps) ws)
    unfolding flat_map
    all_meet ws nil h = nil
    all_meet ws (cons {a = w} {l = v} r a) h =
        let x = (merge rule ps w).lines in
        let y = lines_of (map (merge rule ps) v) in
        cons (merge_meets w r (λ k. omega (arith, h k, count_append k x y))) (all_meet v a (λ k. omega (arith, h k, count_append k x y)))

    -- A ROUND KEEPS IT THAT LINES MEET
    pub join_meets : ((y : ℕ) → count y (lines_of (join rule ps)) ≤ 1) → Each (λ p. meets_all m (runs_of ls p) ≡ true) (join rule ps)
    unfolding join
    join_meets h = all_meet (walks (partner rule ps) (length ps)) (walks_proper (length ps) (partner rule ps) (partner_joins rule ps)) h
