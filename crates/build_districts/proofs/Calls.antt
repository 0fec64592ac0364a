-- 02 [10] of the public call: what a host reads of one district in the rooms that an accepted building leaves is the chains of that district's lines alone,
-- and so the same in two accepted buildings with the same settings that have the same lines of it in the same order.
-- Reading gives back the book's chains, and a chain's first member tells its district.
use Prim.Native.Nat.{ℕ, zero, suc}
use mathlib.Core.Path.{◌≡◌, refl, sym, ap, ◌∙◌, fun_ext}
use mathlib.Core.Bool.{Bool, true, false}
use mathlib.Core.List.{List, [], ◌∷◌, map}
use native.Mathlib.Omega.{arith}
use lib.Dec.{eqb}
use lib.ListN.{length, get_or, take, drop, length-map, get_or-map}
use Rattle.rules.specs.Answers.{Accepted}
use Rattle.rules.specs.declared.Settings.{Settings}
use Rattle.rules.specs.Lists.{one, keep}
use Rattle.rules.specs.Plane.{Point, points, flat}
use Rattle.rules.specs.Types.{width_of}
use Rattle.rules.specs.Districts.{is_of, lines_brought}
use Rattle.rules.specs.Boxes.{box_of}
use Rattle.rules.specs.Chaining.{Piece, Line, chains}
use Rattle.rules.specs.Layout.{Lines, lines, lines_in, copied, loop as loop_of}
use Rattle.rules.specs.Refusals.{Rooms}
use Rattle.rules.specs.Calls.{Built}
use Rattle.chain_laws.proofs.Counts.{Each, nil, cons, count_at}
use Rattle.chain_laws.proofs.Kept.{keep_yes, keep_no}
use Rattle.chain_laws.proofs.Lines.{map_map}
use Rattle.chain_laws.proofs.Sound.{no_line, Sound, chains_sound}
use Rattle.chain_districts.specs.Districts.{district_lines, rank, relabel, district_chains}
use Rattle.chain_districts.proofs.Places.{keep_map}
use Rattle.chain_districts.proofs.Chains.{district_alone}
use Rattle.build_refusals.proofs.Laws.{admitted}
use Rattle.build_reading.specs.Reading.{ChainRead, read_all, read_of}
use Rattle.build_reading.proofs.Calls.{taken, call_read}
use Rattle.build_districts.specs.Reading.{rank_of, renamed, is_of_district, district_read}

-- ---- groups as they are lent

pub lent_groups : (ps : List Point) (cs gs ks : List ℕ) → length gs ≡ length cs → map (λ l. l.group) (lines ps cs gs ks) ≡ gs
unfolding lines
lent_groups ps [] [] ks h = refl
lent_groups ps [] (g ∷ gs) ks h = absurd (omega arith)
lent_groups ps (c ∷ cs) [] ks h = absurd (omega arith)
lent_groups ps (c ∷ cs) (g ∷ gs) ks h = ap {B = List ℕ} (λ r. g ∷ r) (lent_groups (drop c ps) cs gs (drop 1 ks) (omega arith))

take_map : {A B : Type 0} (f : A → B) (k : ℕ) (l : List A) → take k (map f l) ≡ map f (take k l)
take_map f zero l = refl
take_map f (suc k) [] = refl
take_map {B = B} f (suc k) (a ∷ l) = ap {B = List B} (λ r. f a ∷ r) (take_map f k l)

keep_each : {A : Type 0} (t u : A → Bool) (l : List A) → Each (λ a. t a ≡ u a) l → keep t l ≡ keep u l
keep_each t u l nil = unfold keep in refl
keep_each {A} t u l (cons {a = a} {l = m} h e) = go (u a) refl (keep_each t u m e)
  where
    go : (b : Bool) → u a ≡ b → keep t m ≡ keep u m → keep t (a ∷ m) ≡ keep u (a ∷ m)
    go true q ih = keep_yes t a m (h ∙ q) ∙ ap {B = List A} (λ r. a ∷ r) ih ∙ sym (keep_yes u a m q)
    go false q ih = keep_no t a m (h ∙ q) ∙ ih ∙ sym (keep_no u a m q)

-- ---- a district's chains, as they are read

-- a chain is of as many lines by whatever names, and so of the same source
read_relabel : (w : ℕ) (r : ℕ → ℕ) (p : Piece) → renamed r (read_of w p) ≡ read_of w (relabel r p)
unfolding renamed relabel read_of copied
read_relabel w r p =
    ap {B = ChainRead}
    (λ (n : ℕ).
    record {
      members = map r p.lines;
      marks = p.marks;
      listing = map r p.listing;
      source = one (elim (eqb n 1) [ true ↦ false | false ↦ true ]);
      loop = one (loop_of p.points);
      coordinates = flat w p.points;
      box = box_of p.points;
    })
    (sym (length-map p.lines r))

module _ (d w : ℕ) (groups : List ℕ) (ls : List Line) (same : map (λ l. l.group) ls ≡ groups) where
  group_at : (k : ℕ) → get_or groups k 0 ≡ (get_or ls k no_line).group
  group_at k = ap (λ (l : List ℕ). get_or l k 0) (sym same) ∙ get_or-map (λ (l : Line). l.group) ls k no_line

  rank_is : (k : ℕ) → rank_of d groups k ≡ rank d ls k
  unfolding rank_of rank lines_brought district_lines
  rank_is k =
      ap (λ (l : List ℕ). length (keep (is_of d) (take k l))) (sym same)
      ∙ ap (λ (l : List ℕ). length (keep (is_of d) l)) (take_map (λ (l : Line). l.group) k ls)
      ∙ ap length (keep_map (is_of d) (λ (l : Line). l.group) (take k ls))
      ∙ length-map (keep (λ l. is_of d l.group) (take k ls)) (λ l. l.group)

  test_is : (p : Piece) → Sound ls p → is_of_district d groups (read_of w p) ≡ is_of d p.group
  unfolding is_of_district read_of
  test_is p s =
      ap (is_of d) (group_at (get_or p.lines 0 0) ∙ s.grouped (get_or p.lines 0 0) (count_at p.lines 0 s.full))

  tests_are : (ps : List Piece) → Each (Sound ls) ps → Each (λ p. is_of_district d groups (read_of w p) ≡ is_of d p.group) ps
  tests_are ps nil = nil
  tests_are ps (cons {a = p} {l = qs} s a) = cons (test_is p s) (tests_are qs a)

  pub read_district : (ps : List Piece) → Each (Sound ls) ps → district_read d groups (map (read_of w) ps) ≡ map (read_of w) (district_chains d ls ps)
  unfolding district_read district_chains
  read_district ps a =
      ap (map (renamed (rank_of d groups)))
      (keep_map (is_of_district d groups) (read_of w) ps
      ∙ ap (map (read_of w)) (keep_each (λ p. is_of_district d groups (read_of w p)) (λ p. is_of d p.group) ps (tests_are ps a)))
      ∙ map_map (renamed (rank_of d groups)) (read_of w) ours
      ∙ ap (λ (f : Piece → ChainRead). map f ours) (fun_ext (read_relabel w (rank_of d groups)))
      ∙ ap (λ (r : ℕ → ℕ). map (λ p. read_of w (relabel r p)) ours) (fun_ext rank_is)
      ∙ sym (map_map (read_of w) (relabel (rank d ls)) ours)
    where
      ours : List Piece
      ours = keep (λ p. is_of d p.group) ps

-- ---- accepted calls

-- WHAT IS READ OF ONE DISTRICT IS THE CHAINS OF ITS LINES ALONE
pub call_district : (d : ℕ) {t : ℕ} {l : Lines} {s : Settings} {o o' : Rooms} {n : ℕ} → Built t l s o (Accepted n) o'
    → district_read d l.groups (read_all t l.coordinates o' n) ≡ map (read_of (width_of t)) (chains s (district_lines d (lines_in (width_of t) l)))
call_district d {t} {l} {s} {o} {o'} {n} built =
    let ls = lines_in (width_of t) l in
    ap (district_read d l.groups) (call_read built)
    ∙ read_district d (width_of t) l.groups ls
    (lent_groups (points (width_of t) l.coordinates) l.counts l.groups l.kinds (admitted t l s o (taken built).0).groups_long)
    (chains s ls) (chains_sound s ls)
    ∙ ap (map (read_of (width_of t))) (district_alone d s ls)

-- TWO ACCEPTED CALLS with the same settings, in which one district's lines are the same in the same order: its chains come in the same order, with the same
-- members by rank, marks, listing, loop mark and coordinates
pub calls_district : (d : ℕ) {t : ℕ} {l m : Lines} {s : Settings} {o o' u u' : Rooms} {n k : ℕ}
    → district_lines d (lines_in (width_of t) l) ≡ district_lines d (lines_in (width_of t) m)
    → Built t l s o (Accepted n) o'
    → Built t m s u (Accepted k) u'
    → district_read d l.groups (read_all t l.coordinates o' n) ≡ district_read d m.groups (read_all t m.coordinates u' k)
calls_district d {t} {s = s} same one two =
    call_district d one ∙ ap (λ (ls : List Line). map (read_of (width_of t)) (chains s ls)) same ∙ sym (call_district d two)
