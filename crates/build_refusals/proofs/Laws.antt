-- Laws of the refusals of building: one more number summed or passed, and what a call has that no refusal meets.
use mathlib.Core.Path.{◌≡◌, refl, sym, ap, subst, ◌∙◌}
use mathlib.Core.Bool.{Bool, true, false, not, ◌||◌, true≢false}
use mathlib.Core.List.{List, [], ◌∷◌, ◌++◌}
use Prim.Native.Nat.{ℕ, suc, ◌*◌, ◌≤◌, ◌<◌}
use native.Mathlib.Nat.{mul-le-mul_right}
use native.Mathlib.Omega.{arith}
use lib.ListN.{length}
use lib.Dec.{ltb, eqb}
use borrow.Author.Tests.{ltb-false, eq-eqb, ne_eqb, eqb-true, eqb-false, not-false}
use mathlib.Core.Logic.{◌⊎◌, inl, inr}
use Rattle.std.specs.Prelude.{sum_by}
use Rattle.std.specs.List.{list_any}
use Rattle.std.proofs.lemmas.List.Recursion.{is_sum_by}
use Rattle.rules.specs.declared.Settings.{Settings}
use Rattle.rules.specs.Lists.{total}
use Rattle.rules.specs.Plane.{points}
use Rattle.point_numbers.proofs.Widths.{width_two}
use Rattle.rules.specs.Boxes.{box_room}
use Rattle.rules.specs.Layout.{Lines}
use Rattle.rules.specs.Types.{width_of, no_type}
use Rattle.build_refusals.specs.Admitted.{LinesAdmitted, Admitted}
use Rattle.rules.specs.Refusals.{Rooms, any_above, any_nowhere, origin_bad, first_of, line_tests, refusal_of, line_room, record_size}
use Rattle.build_refusals.specs.Tests.{switch_bad, any_short}

-- ---- sums and kinds

pub total_sum : (l : List ℕ) → total l ≡ sum_by (λ x. x) l
unfolding total
total_sum = is_sum_by total (λ x. x) refl (λ _ _. refl)

pub above_any : (m : ℕ) (l : List ℕ) → any_above m l ≡ list_any (ltb m) l
unfolding any_above
above_any m [] = refl
above_any m (x ∷ l) = elim (ltb m x) as (λ b. elim b [ true ↦ true | false ↦ any_above m l ] ≡ (b || list_any (ltb m) l)) [ true ↦ refl | false ↦ above_any m l ]

-- ---- the ladder

-- the rooms of n lines and their numbers of coordinates, and what is asked of each
abbrev pub rooms_asked : ℕ → ℕ → Rooms → List (ℕ × ℕ)
rooms_asked n numbers o =
    (length o.table, n * record_size)
    ∷ (length o.members, n)
    ∷ (length o.marks, n)
    ∷ (length o.listing, n)
    ∷ (length o.merged, numbers)
    ∷ (length o.boxes, box_room n)
    ∷ (length o.spare, numbers)
    ∷ (length o.workspace, n * line_room)
    ∷ []

-- the tests of a call behind those of its lines, in order
abbrev pub rest_tests : Lines → Settings → Rooms → List (ℕ × Bool)
rest_tests l s o =
    let n = length l.counts in
    let numbers = length l.coordinates in
    (6, switch_bad s.switch s.limit) ∷ (17, origin_bad s.origin_x s.origin_y) ∷ (7, any_short (rooms_asked n numbers o)) ∷ []

-- a test that doesn't hold is passed, and the first that holds gives its number
pub passed : (k : ℕ) (b : Bool) (l : List (ℕ × Bool)) → b ≡ false → first_of ((k, b) ∷ l) ≡ first_of l
unfolding first_of
passed k true l e = absurd (true≢false e)
passed k false l e = refl

pub stopped : (k : ℕ) (b : Bool) (l : List (ℕ × Bool)) → b ≡ true → first_of ((k, b) ∷ l) ≡ k
unfolding first_of
stopped k true l e = refl
stopped k false l e = absurd (true≢false (sym e))

-- the refusal r is that of the tests l, which are left
pub record Left (r : ℕ) (l : List (ℕ × Bool)) : Type 0 where
  pub is : r ≡ first_of l

pub or_false : (b : Bool) → (b || false) ≡ b
or_false true = refl
or_false false = refl

pub opened : (t : ℕ) (l : Lines) (s : Settings) (o : Rooms) → Left (refusal_of t l s o) (line_tests t l ++ rest_tests l s o)
unfolding refusal_of switch_bad
opened t l s o = record { is = rw (or_false (ltb (length o.workspace) (length l.counts * line_room))) }

-- one rung: the test doesn't hold, or it does
pub rung : {r k : ℕ} {b : Bool} {l : List (ℕ × Bool)} → Left r ((k, b) ∷ l) → b ≡ false → Left r l
rung {r} {k} {b} {l} e f = record { is = e.is ∙ passed k b l f }

pub halt : {r k : ℕ} {b : Bool} {l : List (ℕ × Bool)} → Left r ((k, b) ∷ l) → b ≡ true → k ≡ r
halt {r} {k} {b} {l} e f = sym (e.is ∙ stopped k b l f)

-- two rungs by the number of the first that holds
pub rungs : {r k i j : ℕ} {a b : Bool} {l : List (ℕ × Bool)} → Left r ((suc i, a) ∷ (suc j, b) ∷ l) → k ≡ first_of ((suc i, a) ∷ (suc j, b) ∷ []) → k ≡ 0 → Left r l
unfolding first_of
rungs {r} {k} {i} {j} {a} {b} {l} e f z = go a b e.is (sym z ∙ f)
  where
    go : (a b : Bool) → r ≡ first_of ((suc i, a) ∷ (suc j, b) ∷ l) → 0 ≡ first_of ((suc i, a) ∷ (suc j, b) ∷ []) → Left r l
    go true b e f = absurd (omega arith)
    go false true e f = absurd (omega arith)
    go false false e f = record { is = e }

pub halts : {r k i j : ℕ} {a b : Bool} {l : List (ℕ × Bool)} → Left r ((i, a) ∷ (j, b) ∷ l) → k ≡ first_of ((i, a) ∷ (j, b) ∷ []) → (k ≡ 0 → ⊥) → k ≡ r
unfolding first_of
halts {r} {k} {i} {j} {a} {b} {l} e f n = go a b e.is f
  where
    go : (a b : Bool) → r ≡ first_of ((i, a) ∷ (j, b) ∷ l) → k ≡ first_of ((i, a) ∷ (j, b) ∷ []) → k ≡ r
    go true b e f = f ∙ sym e
    go false true e f = f ∙ sym e
    go false false e f = absurd (n f)

pub top : {r : ℕ} → Left r [] → 0 ≡ r
unfolding first_of
top e = sym e.is

-- ---- two ladders, one behind the other

-- every number is above 0
abbrev pub Numbered : List (ℕ × Bool) → Type 0
Numbered [] = Unit {0}
Numbered (t ∷ l) = (0 < t.0) × Numbered l

pub lines_numbered : (t : ℕ) (l : Lines) → Numbered (line_tests t l)
lines_numbered t l = (omega arith, (omega arith, (omega arith, (omega arith, (omega arith, (omega arith, (omega arith, (omega arith, (omega arith, tt)))))))))

first_of_on : (a b : List (ℕ × Bool)) → Numbered a → first_of a ≡ 0 → first_of (a ++ b) ≡ first_of b
unfolding first_of
first_of_on [] b n e = refl
first_of_on ((k, true) ∷ a) b n e = absurd (omega (arith, n.0))
first_of_on ((k, false) ∷ a) b n e = first_of_on a b n.1 e

first_of_stop : (a b : List (ℕ × Bool)) → (first_of a ≡ 0 → ⊥) → first_of (a ++ b) ≡ first_of a
unfolding first_of
first_of_stop [] b n = absurd (n refl)
first_of_stop ((k, true) ∷ a) b n = refl
first_of_stop ((k, false) ∷ a) b n = first_of_stop a b n

first_of_none : (a b : List (ℕ × Bool)) → first_of (a ++ b) ≡ 0 → Numbered a → first_of a ≡ 0
unfolding first_of
first_of_none [] b e n = refl
first_of_none ((k, true) ∷ a) b e n = e
first_of_none ((k, false) ∷ a) b e n = first_of_none a b e n.1

-- the first ladder is passed, or gives its number
pub climbed : {r k : ℕ} (a b : List (ℕ × Bool)) → Left r (a ++ b) → Numbered a → k ≡ first_of a → k ≡ 0 → Left r b
climbed a b e n f z = record { is = e.is ∙ first_of_on a b n (sym f ∙ z) }

pub stayed : {r k : ℕ} (a b : List (ℕ × Bool)) → Left r (a ++ b) → k ≡ first_of a → (k ≡ 0 → ⊥) → k ≡ r
stayed a b e f d = f ∙ sym (e.is ∙ first_of_stop a b (λ z. d (f ∙ z)))

-- neither refuses
pub parted : (a b : List (ℕ × Bool)) → Numbered a → Left 0 (a ++ b) → Left 0 a × Left 0 b
parted a b n e =
    let z = first_of_none a b (sym e.is) n in
    (record { is = sym z }, record { is = e.is ∙ first_of_on a b n z })

-- the tests of 12, 4, 5 and 15, from a width and a sum that are at hand
pub typed : (t w : ℕ) {b : Bool} → w ≡ width_of t → eqb w 0 ≡ b → no_type t ≡ b
typed t w e f = rw (← e, f)

pub sums : (t s v w numbers : ℕ) {b : Bool} → s ≡ t → w ≡ v → eqb (s * w) numbers ≡ b → not (eqb (t * v) numbers) ≡ not b
sums t s v w numbers e g f = rw (← e, ← g, f)

-- a width that isn't 0 is that of a type
pub has_two : (t w : ℕ) → w ≡ width_of t → (w ≡ 0 → ⊥) → 2 ≤ w
has_two t w e n = subst (λ (v : ℕ). 2 ≤ v) (sym e) (width_two t (λ z. n (e ∙ z)))

pub many : (m t s : ℕ) {b : Bool} → s ≡ t → ltb m s ≡ b → ltb m t ≡ b
many m t s e f = rw (← e, f)

pub placed : (w v : ℕ) (l : List ℕ) {r b : Bool} → w ≡ v → r ≡ any_nowhere (points w l) → r ≡ b → any_nowhere (points v l) ≡ b
placed w v l e f g = ap (λ (u : ℕ). any_nowhere (points u l)) (sym e) ∙ sym f ∙ g

-- ---- what an accepted call has

off_first : (k : ℕ) (b : Bool) (l : List (ℕ × Bool)) → 0 ≡ first_of ((suc k, b) ∷ l) → (b ≡ false) × Left 0 l
unfolding first_of
off_first k true l e = absurd (omega arith)
off_first k false l e = (refl, record { is = e })

pub off : {k : ℕ} {b : Bool} {l : List (ℕ × Bool)} → Left 0 ((suc k, b) ∷ l) → (b ≡ false) × Left 0 l
off {k} {b} {l} e = off_first k b l e.is

pub or_off : (a b : Bool) → a || b ≡ false → (a ≡ false) × (b ≡ false)
or_off true b e = absurd (true≢false e)
or_off false b e = (refl, e)

-- where no room is too short, each has what is asked of it
abbrev pub AllLong : List (ℕ × ℕ) → Type 0
AllLong [] = Unit {0}
AllLong (r ∷ l) = (r.1 ≤ r.0) × AllLong l

pub all_long : (l : List (ℕ × ℕ)) → any_short l ≡ false → AllLong l
all_long [] e = tt
all_long (r ∷ l) e = let b = or_off (ltb r.0 r.1) (any_short l) e in (ltb-false r.0 r.1 b.0, all_long l b.1)

-- one of two lengths is another than n
pub unlike : (g k n : ℕ) → (g ≡ n → ⊥) ⊎ ((g ≡ n) × (k ≡ n → ⊥)) → not (eqb g n) || not (eqb k n) ≡ true
unlike g k n (inl h) = rw (ne_eqb g n h)
unlike g k n (inr h) = rw (eq-eqb g n h.0, ne_eqb k n h.1)

-- of its lines
pub lines_admitted : (t : ℕ) (l : Lines) → Left 0 (line_tests t l) → LinesAdmitted t l
lines_admitted t l e =
    let n = length l.counts in
    let numbers = length l.coordinates in
    let t₀ = off e in
    let t₁ = off t₀.1 in
    let t₂ = off t₁.1 in
    let t₃ = off t₂.1 in
    let t₄ = off t₃.1 in
    let t₅ = off t₄.1 in
    let t₆ = off t₅.1 in
    let t₇ = off t₆.1 in
    let t₈ = off t₇.1 in
    let both = or_off (not (eqb (length l.groups) n)) (not (eqb (length l.kinds) n)) t₂.0 in
    record {
      two = width_two t (eqb-false (width_of t) 0 t₀.0);
      few = ltb-false 4096 n t₁.0;
      groups_long = eqb-true (length l.groups) n (not-false _ both.0);
      kinds_long = eqb-true (length l.kinds) n (not-false _ both.1);
      adds = eqb-true (total l.counts * width_of t) numbers (not-false _ t₄.0);
      small = ltb-false 65536 (total l.counts) t₅.0;
      lines_shared = t₆.0;
      points_shared = t₇.0;
      places = t₈.0;
    }

pub admitted : (t : ℕ) (l : Lines) (s : Settings) (o : Rooms) → refusal_of t l s o ≡ 0 → Admitted t l s o
admitted t l s o z =
    let n = length l.counts in
    let parts = parted (line_tests t l) (rest_tests l s o) (lines_numbered t l) (record { is = sym z ∙ (opened t l s o).is }) in
    let a = lines_admitted t l parts.0 in
    let t₀ = off parts.1 in
    let t₁ = off t₀.1 in
    let r = all_long (rooms_asked n (length l.coordinates) o) (off t₁.1).0 in
    record {
      two = a.two;
      few = a.few;
      groups_long = a.groups_long;
      kinds_long = a.kinds_long;
      adds = a.adds;
      small = a.small;
      lines_shared = a.lines_shared;
      points_shared = a.points_shared;
      places = a.places;
      switched = t₀.0;
      cornered = t₁.0;
      table_long = r.0;
      members_long = r.1.0;
      marks_long = r.1.1.0;
      listing_long = r.1.1.1.0;
      merged_long = r.1.1.1.1.0;
      boxes_long = r.1.1.1.1.1.0;
      spare_long = r.1.1.1.1.1.1.0;
      workspace_long = r.1.1.1.1.1.1.1.0;
    }
