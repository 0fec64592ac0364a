-- The lines that a chain lists, one after another: with some passed, what is left of them leads from the possible places to the end exactly if all lead there
-- from the beginning.
use Prim.Native.Nat.{ℕ, suc, ◌+◌, ◌-◌, ◌*◌, ◌/◌, ◌≤◌, ◌<◌}
use mathlib.Core.Path.{◌≡◌, refl, sym, ap, ◌∙◌, subst}
use mathlib.Core.Bool.{Bool, false}
use mathlib.Core.List.{List, [], ◌∷◌, map}
use native.Mathlib.Decide.{dec_lt}
use native.Mathlib.Omega.{arith}
use native.Mathlib.Nat.{mul-le-mul_right}
use native.Mathlib.Numerals.{add-one}
use lib.ListN.{length, get_or, take, drop, length-take, length-drop, drop_of_length-le}
use lib.Seq.{drop-cons, get_or-take, get_or-drop}
use Rattle.rules.specs.declared.Meeting.{Meeting}
use Rattle.rules.specs.Plane.{Point, points}
use Rattle.point_numbers.proofs.Points.{points_length}
use Rattle.check_laws.specs.Standing.{Begun}
use Rattle.check_chains.specs.declared.Held.{Held}
use Rattle.check_chains.specs.Chains.{part, line_at, line_points, LineThere, Steady, ChainGround, FirstLineLies, Steps, LinesListed, ChainDecided, ended_at, Advancing}
use Rattle.check_chains.proofs.Passing.{Passing, passing_start, passing_step, passing_dead, passing_end}

pub part_length : (l : List ℕ) (a n : ℕ) → a + n ≤ length l → length (part l a (a + n)) ≡ n
part_length l a n h = omega (arith, length-take (a + n - a) (drop a l), length-drop a l)

-- the lines behind the first
pub behind_at : (l : List ℕ) (k : ℕ) → k < length (take (length l - 1) (drop 1 l)) → (k + 1 < length l) × (get_or (take (length l - 1) (drop 1 l)) k 0 ≡ get_or l (k + 1) 0)
behind_at l k h =
    let n = length-take (length l - 1) (drop 1 l) in
    let d = length-drop 1 l in
    let e : 1 + k ≡ k + 1 = omega arith in
    (omega arith, get_or-take (length l - 1) (drop 1 l) k 0 (omega arith) ∙ get_or-drop 1 l k 0 ∙ ap (λ (j : ℕ). get_or l j 0) e)

pub apart : (a b : ℕ) → a ≤ b → (a ≡ b → ⊥) → a < b
apart a b l n = elim (dec_lt a b) [ yes y ↦ y | no q ↦ absurd (n (omega arith)) ]

module _ (w : ℕ) (coordinates firsts counts listed chain : List ℕ) (g : LinesListed w coordinates firsts counts listed chain) where
  abbrev place : ℕ → ℕ
  place i = get_or firsts (get_or listed i 0) 0

  abbrev size : ℕ → ℕ
  size i = get_or counts (get_or listed i 0) 0

  -- a line's numbers are small
  pub coordinates_near : length coordinates ≤ 262144
  coordinates_near = omega (arith, g.short, g.four)

  -- each line is there
  pub there : (i : ℕ) → i < length listed → LineThere w coordinates firsts counts (get_or listed i 0)
  there i h = record { few = g.below i h; count_there = g.count_there i h; inside = g.inside i h; short = coordinates_near; two = g.two }

  pub ground_of : (i : ℕ) → i < length listed → ChainGround w chain (line_at w coordinates firsts counts (get_or listed i 0))
  ground_of i h =
      let n = part_length coordinates (place i * w) (size i * w) (g.inside i h) in
      record {
        two = g.two;
        four = g.four;
        chain_whole = g.chain_whole;
        line_whole = record { number = size i; long = n };
        filled = omega (arith, n, mul-le-mul_right w (g.a_point i h));
        short = omega (arith, n, g.inside i h, g.short);
        numbers = g.numbers i h;
      }

module _ (m : Meeting) (w : ℕ) (coordinates firsts counts listed chain : List ℕ) where
  abbrev line_of : ℕ → List Point
  line_of y = line_points w coordinates firsts counts y

  abbrev goal : Type 0
  goal = Begun m (points w chain) (line_of (get_or listed 0 0)) (map line_of (drop 1 listed))

-- i lines were passed, the last of which has the numbers p
pub record Choosing (m : Meeting) (w : ℕ) (coordinates firsts counts listed chain marks : List ℕ) (h : Held) (p : List ℕ) (i : ℕ) : Type 0 where
  pub last : ℕ
  pub next : i ≡ suc last
  pub within : i ≤ length listed
  pub p_is : p ≡ line_at w coordinates firsts counts (get_or listed last 0)
  pub steady : Steady marks h i
  pub passing : Passing m (points w chain) (goal m w coordinates firsts counts listed chain) marks h
      (line_points w coordinates firsts counts (get_or listed last 0)) (map (line_points w coordinates firsts counts) (drop i listed))

module _ (m : Meeting) (w : ℕ) (coordinates firsts counts listed chain : List ℕ) (g : LinesListed w coordinates firsts counts listed chain) where
  pub choosing_start : (marks : List ℕ) (h : Held) (p : List ℕ) → p ≡ line_at w coordinates firsts counts (get_or listed 0 0)
      → FirstLineLies (points w chain) (points w p) marks h → Choosing m w coordinates firsts counts listed chain marks h p 1
  choosing_start marks h p e b =
      record {
        last = 0;
        next = refl;
        within = g.some_line;
        p_is = e;
        steady = b.steady;
        passing = passing_start m (points w chain) (line_points w coordinates firsts counts (get_or listed 0 0))
            (map (line_points w coordinates firsts counts) (drop 1 listed)) marks h
            (subst (λ (n : List ℕ). FirstLineLies (points w chain) (points w n) marks h) e b);
      }

  module _ (marks : List ℕ) (h : Held) (p : List ℕ) (i : ℕ) (c : Choosing m w coordinates firsts counts listed chain marks h p i) where
    pub last_there : c.last < length listed
    last_there = omega (arith, c.next, c.within)

    -- no place is possible
    pub choosing_dead : h.low ≡ h.end → ChainDecided m w coordinates firsts counts listed chain false
    choosing_dead e =
        record {
          sound = λ q. let z : ◌≡◌ {A = ℕ} 0 1 = cc in absurd (omega arith);
          complete = λ x.
              absurd
              (passing_dead m (points w chain) (goal m w coordinates firsts counts listed chain) marks h
              (line_points w coordinates firsts counts (get_or listed c.last 0)) (map (line_points w coordinates firsts counts) (drop i listed)) c.passing e x);
        }

    -- ---- the next line

    module _ (h-there : i < length listed) where
      abbrev line : List ℕ
      line = line_at w coordinates firsts counts (get_or listed i 0)

      unfoldable pub choosing_ahead : (l : List ℕ) → l ≡ line → (h.low ≡ h.end → ⊥) → Advancing w chain p l marks h
      choosing_ahead l e d =
          record {
            before = subst (ChainGround w chain) (sym c.p_is) (ground_of w coordinates firsts counts listed chain g c.last last_there);
            after = subst (ChainGround w chain) (sym e) (ground_of w coordinates firsts counts listed chain g i h-there);
            passed = i;
            few = omega (arith, g.few);
            steady = c.steady;
            live = apart h.low h.end c.steady.order d;
          }

      left_is : map (line_points w coordinates firsts counts) (drop i listed)
          ≡ line_points w coordinates firsts counts (get_or listed i 0) ∷ map (line_points w coordinates firsts counts) (drop (i + 1) listed)
      left_is = ap (map (line_points w coordinates firsts counts)) (drop-cons listed i 0 h-there ∙ ap {B = List ℕ} (λ (n : ℕ). get_or listed i 0 ∷ drop n listed) (sym (add-one i)))

      pub choosing_next : (l : List ℕ) → l ≡ line → (marks' : List ℕ) (h' : Held) → Steps m (points w chain) (points w p) (points w l) i marks h marks' h'
          → Choosing m w coordinates firsts counts listed chain marks' h' l (i + 1)
      choosing_next l e marks' h' s =
          record {
            last = i;
            next = omega arith;
            within = omega arith;
            p_is = e;
            steady = s.steady;
            passing = passing_step m (points w chain) (goal m w coordinates firsts counts listed chain) marks marks' h h' i
                (line_points w coordinates firsts counts (get_or listed c.last 0)) (points w line) (map (line_points w coordinates firsts counts) (drop (i + 1) listed))
                (subst (λ (n : List ℕ). Steps m (points w chain) (points w n) (points w line) i marks h marks' h') c.p_is
                (subst (λ (n : List ℕ). Steps m (points w chain) (points w p) (points w n) i marks h marks' h') e s))
                (subst
                (Passing m (points w chain) (goal m w coordinates firsts counts listed chain) marks h (line_points w coordinates firsts counts (get_or listed c.last 0)))
                left_is c.passing);
          }

    -- ---- behind the last line

    pub choosing_end : length listed ≤ i → (r : Bool) → r ≡ ended_at marks h (length chain / w) → ChainDecided m w coordinates firsts counts listed chain r
    choosing_end all r e =
        let n : map (line_points w coordinates firsts counts) (drop i listed) ≡ [] = ap (map (line_points w coordinates firsts counts)) (drop_of_length-le listed all) in
        let q = passing_end m (points w chain) (goal m w coordinates firsts counts listed chain) marks h i (line_points w coordinates firsts counts (get_or listed c.last 0)) c.steady
        (subst (Passing m (points w chain) (goal m w coordinates firsts counts listed chain) marks h (line_points w coordinates firsts counts (get_or listed c.last 0))) n c.passing) in
        let z : ended_at marks h (length (points w chain)) ≡ r = ap (ended_at marks h) (points_length w chain) ∙ sym e in
        record { sound = λ x. q.0 (z ∙ x); complete = λ x. sym z ∙ q.1 x }
