-- Building without the extras, from the numbers that are lent to those that are written.
-- Points of no extras are read as they were written, and so the lines without extras are the bare lines; the layout counts lines and points, and
-- copies points whole.
use Prim.Native.Nat.{ℕ, zero, suc, ◌+◌, ◌*◌, ◌≤◌, ◌<◌}
use mathlib.Core.Path.{◌≡◌, refl, sym, ap, ap₂, subst, ◌∙◌}
use mathlib.Core.Bool.{Bool, true, false}
use mathlib.Core.List.{List, [], ◌∷◌, ◌++◌, map, flat_map, map-append}
use native.Mathlib.Omega.{arith}
use lib.ListN.{length, get_or, take, drop, length-map}
use Rattle.rules.specs.declared.Settings.{Settings}
use Rattle.rules.specs.Lists.{one, total}
use Rattle.rules.specs.Plane.{Point, point, points, flat}
use Rattle.rules.specs.declared.Box.{Box}
use Rattle.rules.specs.Boxes.{union, empty, spot, grown, box_of, stacked, box_numbers}
use Rattle.rules.specs.Chaining.{Piece, Line, chains}
use Rattle.rules.specs.Layout.{Lines, lines, lines_in, copied, copy, loop, five, six, rows, table, laid_out, build}
use Rattle.rules.specs.Refusals.{nowhere, any_nowhere}
use Rattle.point_numbers.specs.Width.{Wide, AllWide, none_wide, more_wide}
use Rattle.point_numbers.proofs.Points.{points_wide, points_flat, points_back}
use Rattle.chain_laws.proofs.Counts.{Each, nil, cons}
use Rattle.chain_laws.proofs.Wide.{wide_append, wide_take, wide_drop}
use Rattle.chain_extras.specs.Bare.{bare, bare_line, bare_piece, bare_numbers, left_out, Alike, own_points, From}
use Rattle.chain_extras.proofs.Bare.{chains_bare}
use Rattle.chain_extras.proofs.Riding.{chains_owned}

-- ---- points without extras, written and read

bare_wide : (ps : List Point) → AllWide 2 (map bare ps)
bare_wide [] = none_wide
bare_wide (p ∷ ps) = more_wide refl (bare_wide ps)

bare_back : (w : ℕ) (l : List ℕ) → points 2 (bare_numbers w l) ≡ map bare (points w l)
bare_back w l = points_flat 2 (map bare (points w l)) (omega arith) (bare_wide (points w l))

-- one of width 2 has none to leave out
none_out : (ps : List Point) → AllWide 2 ps → map bare ps ≡ ps
none_out ps none_wide = refl
none_out ps (more_wide {p} {l} h a) =
    ap₂ {C = List Point} (λ (q : Point) (r : List Point). q ∷ r) (λ i. record { x = p.x; y = p.y; extras = empty p.extras h i }) (none_out l a)
  where
    empty : (t : List ℕ) → length t + 2 ≡ 2 → [] ≡ t
    empty [] e = refl
    empty (a ∷ t) e = absurd (omega arith)

-- WITH NO EXTRAS IT IS AS IT WAS: nothing is left out of lines of width 2
pub left_out_none : (l : Lines) → total l.counts * 2 ≡ length l.coordinates → left_out 2 l ≡ l
left_out_none l h =
    λ i. record { coordinates = all i; counts = l.counts; groups = l.groups; kinds = l.kinds }
  where
    all : bare_numbers 2 l.coordinates ≡ l.coordinates
    all =
        ap (flat 2) (none_out (points 2 l.coordinates) (points_wide 2 l.coordinates (omega arith)))
        ∙ points_back 2 l.coordinates (omega arith) (record { number = total l.counts; long = sym h })

-- ---- lines

take_bare : (k : ℕ) (ps : List Point) → take k (map bare ps) ≡ map bare (take k ps)
take_bare zero ps = refl
take_bare (suc k) [] = refl
take_bare (suc k) (p ∷ ps) = ap {B = List Point} (λ (r : List Point). bare p ∷ r) (take_bare k ps)

drop_bare : (k : ℕ) (ps : List Point) → drop k (map bare ps) ≡ map bare (drop k ps)
drop_bare zero ps = refl
drop_bare (suc k) [] = refl
drop_bare (suc k) (p ∷ ps) = drop_bare k ps

cut_bare : (ps : List Point) (cs gs ks : List ℕ) → lines (map bare ps) cs gs ks ≡ map bare_line (lines ps cs gs ks)
unfolding lines
cut_bare ps [] gs ks = refl
cut_bare ps (c ∷ cs) gs ks =
    ap₂ {C = List Line} (λ (q : List Point) (r : List Line). record { points = q; group = get_or gs 0 0; kind = get_or ks 0 0 } ∷ r) (take_bare c ps)
    (ap (λ (q : List Point). lines q cs (drop 1 gs) (drop 1 ks)) (drop_bare c ps) ∙ cut_bare (drop c ps) cs (drop 1 gs) (drop 1 ks))

-- THE LINES WITHOUT EXTRAS ARE THE BARE LINES
pub lines_bare : (w : ℕ) (l : Lines) → lines_in 2 (left_out w l) ≡ map bare_line (lines_in w l)
lines_bare w l =
    ap (λ (ps : List Point). lines ps l.counts l.groups l.kinds) (bare_back w l.coordinates)
    ∙ cut_bare (points w l.coordinates) l.counts l.groups l.kinds

-- ---- refusal 15

nowhere_bare : (ps : List Point) → any_nowhere (map bare ps) ≡ any_nowhere ps
unfolding any_nowhere nowhere
nowhere_bare [] = refl
nowhere_bare (p ∷ ps) = go (nowhere p) (nowhere_bare ps)
  where
    go : (t : Bool) → any_nowhere (map bare ps) ≡ any_nowhere ps
        → ◌≡◌ {A = Bool} (elim t [ true ↦ true | false ↦ any_nowhere (map bare ps) ]) (elim t [ true ↦ true | false ↦ any_nowhere ps ])
    go true ih = refl
    go false ih = ih

-- 15 LOOKS AT X AND Y ONLY
pub no_place_bare : (w : ℕ) (l : Lines) → any_nowhere (points 2 (left_out w l).coordinates) ≡ any_nowhere (points w l.coordinates)
no_place_bare w l = ap any_nowhere (bare_back w l.coordinates) ∙ nowhere_bare (points w l.coordinates)

-- ---- the layout

copy_bare : (p : Piece) → copy (bare_piece p) ≡ map bare (copy p)
unfolding copy copied
copy_bare p = go (copied p)
  where
    go : (t : Bool) → elim t [ true ↦ map bare p.points | false ↦ [] ] ≡ map bare (elim t [ true ↦ p.points | false ↦ [] ])
    go true = refl
    go false = refl

copies_bare : (ps : List Piece) → flat_map copy (map bare_piece ps) ≡ map bare (flat_map copy ps)
unfolding flat_map
copies_bare [] = refl
copies_bare (p ∷ ps) = ap₂ ◌++◌ (copy_bare p) (copies_bare ps) ∙ sym (map-append bare (copy p) (flat_map copy ps))

five_bare : (counts : List ℕ) (m c : ℕ) (p : Piece) → five counts m c (bare_piece p) ≡ five counts m c p
unfolding five copied
five_bare counts m c p =
    let own = total (take (get_or p.lines 0 0) counts) in
    ap {B = List ℕ} (λ (n : ℕ). m ∷ length p.lines ∷ elim (copied p) [ true ↦ 1 ∷ c ∷ n ∷ [] | false ↦ 0 ∷ own ∷ n ∷ [] ]) (length-map p.points bare)

get_d_bare : (ps : List Point) (k : ℕ) → get_or (map bare ps) k (point 0 0) ≡ bare (get_or ps k (point 0 0))
get_d_bare [] k = refl
get_d_bare (p ∷ ps) zero = refl
get_d_bare (p ∷ ps) (suc k) = get_d_bare ps k

-- LOOP MARKS LOOK AT X AND Y ONLY
pub loop-bare : (ps : List Point) → loop (map bare ps) ≡ loop ps
unfolding loop
loop-bare ps = simp (length-map, get_d_bare)

six_bare : (counts : List ℕ) (m c : ℕ) (p : Piece) → six counts m c (bare_piece p) ≡ six counts m c p
unfolding six
six_bare counts m c p = ap₂ (λ (l : List ℕ) (t : Bool). l ++ (one t ∷ [])) (five_bare counts m c p) (loop-bare p.points)

table_bare : (counts : List ℕ) (m c : ℕ) (ps : List Piece) → table counts m c (map bare_piece ps) ≡ table counts m c ps
unfolding rows
table_bare counts m c [] = refl
table_bare counts m c (p ∷ ps) =
    ap₂ ◌++◌ (six_bare counts m c p)
    (ap (λ (n : ℕ). table counts (m + length p.lines) (c + n) (map bare_piece ps)) (ap length (copy_bare p) ∙ length-map (copy p) bare)
    ∙ table_bare counts (m + length p.lines) (c + length (copy p)) ps)

members_bare : (ps : List Piece) → flat_map (λ p. p.lines) (map bare_piece ps) ≡ flat_map (λ p. p.lines) ps
unfolding flat_map
members_bare [] = refl
members_bare (p ∷ ps) = ap (λ (r : List ℕ). p.lines ++ r) (members_bare ps)

marks_bare : (ps : List Piece) → flat_map (λ p. p.marks) (map bare_piece ps) ≡ flat_map (λ p. p.marks) ps
unfolding flat_map
marks_bare [] = refl
marks_bare (p ∷ ps) = ap (λ (r : List ℕ). p.marks ++ r) (marks_bare ps)

listing_bare : (ps : List Piece) → flat_map (λ p. p.listing) (map bare_piece ps) ≡ flat_map (λ p. p.listing) ps
unfolding flat_map
listing_bare [] = refl
listing_bare (p ∷ ps) = ap (λ (r : List ℕ). p.listing ++ r) (listing_bare ps)

grown_bare : (b : Box) (ps : List Point) → grown b (map bare ps) ≡ grown b ps
unfolding grown
grown_bare b [] = refl
grown_bare b (p ∷ ps) = grown_bare (union b (spot p)) ps

-- BOXES LOOK AT X AND Y ONLY
pub box_bare : (ps : List Point) → box_of (map bare ps) ≡ box_of ps
unfolding box_of
box_bare ps = grown_bare empty ps

boxes_bare : (ps : List Piece) → map (λ p. box_of p.points) (map bare_piece ps) ≡ map (λ p. box_of p.points) ps
boxes_bare [] = refl
boxes_bare (p ∷ ps) = ap₂ {C = List Box} (λ (b : Box) (r : List Box). b ∷ r) (box_bare p.points) (boxes_bare ps)

-- ---- the points of what is built have the width of the lines

wide_at : (w : ℕ) (ps : List Point) (j : ℕ) (d : Point) → AllWide w ps → j < length ps → Wide w (get_or ps j d)
wide_at w ps j d none_wide h = absurd (omega arith)
wide_at w ps zero d (more_wide p a) h = p
wide_at w ps (suc j) d (more_wide {l = qs} p a) h = wide_at w qs j d a (omega arith)

pub lines_wide : (w : ℕ) (ps : List Point) (cs gs ks : List ℕ) (k : ℕ) → AllWide w ps → AllWide w (own_points (lines ps cs gs ks) k)
unfolding lines
lines_wide w ps [] gs ks k h = none_wide
lines_wide w ps (c ∷ cs) gs ks zero h = wide_take c h
lines_wide w ps (c ∷ cs) gs ks (suc k) h = lines_wide w (drop c ps) cs (drop 1 gs) (drop 1 ks) k (wide_drop c h)

module _ (w : ℕ) (ls : List Line) (wide : (k : ℕ) → AllWide w (own_points ls k)) where
  pub from_wide : (m : List ℕ) (ps : List Point) → Each (From ls m) ps → AllWide w ps
  from_wide m ps nil = none_wide
  from_wide m ps (cons {l = qs} f a) =
      more_wide (subst (Wide w) (sym f.same) (wide_at w (own_points ls f.line) f.place (point 0 0) (wide f.line) f.within)) (from_wide m qs a)

  copy_wide : (p : Piece) → AllWide w p.points → AllWide w (copy p)
  unfolding copy
  copy_wide p h = go (copied p)
    where
      go : (t : Bool) → AllWide w (elim t [ true ↦ p.points | false ↦ [] ])
      go true = h
      go false = none_wide

  copies_wide : (ps : List Piece) → Each (λ (c : Piece). Each (From ls c.lines) c.points) ps → AllWide w (flat_map copy ps)
  unfolding flat_map
  copies_wide ps nil = none_wide
  copies_wide ps (cons {a = p} {l = qs} h a) = wide_append (copy_wide p (from_wide p.lines p.points h)) (copies_wide qs a)

-- ---- a call

module _ (w : ℕ) (s : Settings) (l : Lines) (two : 2 ≤ w) where
  abbrev built : List Piece
  built = chains s (lines_in w l)

  same_chains : chains s (lines_in 2 (left_out w l)) ≡ map bare_piece built
  same_chains = ap (chains s) (lines_bare w l) ∙ chains_bare s (lines_in w l)

  built_wide : AllWide w (flat_map copy built)
  built_wide =
      copies_wide w (lines_in w l)
      (λ k. lines_wide w (points w l.coordinates) l.counts l.groups l.kinds k (points_wide w l.coordinates two))
      built (chains_owned (lines_in w l) s)

  -- X AND Y ARE JOINED AS BEFORE: what is built without the extras, and what is built of width w
  pub build_bare : Alike w (build 2 s (left_out w l)) (build w s l)
  unfolding build laid_out
  build_bare =
      record {
        number = ap length same_chains ∙ length-map built bare_piece;
        records = ap (table l.counts 0 0) same_chains ∙ table_bare l.counts 0 0 built;
        members = ap (flat_map (λ (p : Piece). p.lines)) same_chains ∙ members_bare built;
        marks = ap (flat_map (λ (p : Piece). p.marks)) same_chains ∙ marks_bare built;
        listing = ap (flat_map (λ (p : Piece). p.listing)) same_chains ∙ listing_bare built;
        merged =
            ap (λ (ps : List Piece). flat 2 (flat_map copy ps)) same_chains
            ∙ ap (flat 2) (copies_bare built ∙ ap (map bare) (sym (points_flat w (flat_map copy built) (omega arith) built_wide)));
        boxes = ap (λ (ps : List Piece). box_numbers (stacked (map (λ p. box_of p.points) ps))) same_chains ∙ ap (λ (b : List Box). box_numbers (stacked b)) (boxes_bare built);
      }
