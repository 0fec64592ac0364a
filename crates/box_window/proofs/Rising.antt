-- Where the levels begin, found from the lowest on. A level has at most half of 2 ^ 32 as often as there are levels below it, so that one of the first 33 has at most one box.
use Prim.Native.Nat.{ℕ, zero, suc, ◌+◌, ◌-◌, ◌*◌, ◌/◌, ◌^◌, ◌≤◌, ◌<◌}
use mathlib.Core.Path.{◌≡◌, refl, sym, ap, ◌∙◌, subst}
use mathlib.Core.List.{List}
use mathlib.Core.Logic.{◌⊎◌, inl, inr}
use native.Mathlib.Nat.{eq-or-lt_of_le, pow-suc}
use native.Mathlib.Omega.{arith}
use lib.ListN.{length, get_or, set, length-set}
use lib.Seq.{get_or-set_same, get_or-set_other}
use Rattle.box_window.specs.Levels.{many, start, Leveled}

-- ---- where the search for the last level stands
pub record Rising (k : ℕ) (starts : List ℕ) (n level at : ℕ) : Type 0 where
  pub size : length starts ≡ 34
  pub few : level ≤ 32
  pub count : n ≡ many k level
  pub place : at ≡ start k level
  pub begun : (l : ℕ) → l ≤ level → get_or starts l 0 ≡ start k l
  pub more : (l : ℕ) → l < level → 1 < many k l
  pub power : n ≤ 2 ^ (32 - level)
  pub room : at + n * 3 ≤ k * 3

half : (n level : ℕ) → level ≤ 32 → 1 < n → n ≤ 2 ^ (32 - level) → (level < 32) × ((n + 1) / 2 ≤ 2 ^ (32 - (level + 1)))
half n level few l p = go (32 - level) refl p
  where
    go : (left : ℕ) → 32 - level ≡ left → n ≤ 2 ^ left → (level < 32) × ((n + 1) / 2 ≤ 2 ^ (32 - (level + 1)))
    go zero e q = absurd (omega arith)
    go (suc left) e q =
        let z : 32 - (level + 1) ≡ left = omega arith in
        (omega arith, subst (λ (x : ℕ). (n + 1) / 2 ≤ 2 ^ x) (sym z) (omega (arith, pow-suc 2 left)))

-- one more level's beginning
begun_more : (k : ℕ) (starts : List ℕ) (level v : ℕ) → level + 1 < length starts → v ≡ start k (level + 1) → ((l : ℕ) → l ≤ level → get_or starts l 0 ≡ start k l)
    → (l : ℕ) → l ≤ level + 1 → get_or (set starts (level + 1) v) l 0 ≡ start k l
begun_more k starts level v room e h l m = go (eq-or-lt_of_le m)
  where
    go : (l ≡ level + 1) ⊎ (l < level + 1) → get_or (set starts (level + 1) v) l 0 ≡ start k l
    go (inl z) = ap (λ (x : ℕ). get_or (set starts (level + 1) v) x 0) z ∙ get_or-set_same starts (level + 1) v 0 room ∙ e ∙ ap (start k) (sym z)
    go (inr z) = get_or-set_other starts (level + 1) l v 0 (λ q. omega arith) ∙ h l (omega arith)

start_on : (k l : ℕ) → start k (l + 1) ≡ start k l + many k l
unfolding start
start_on k l = let z : l + 1 ≡ suc l = omega arith in ap (start k) z

many_on : (k l : ℕ) → many k (l + 1) ≡ (many k l + 1) / 2
unfolding many
many_on k l = let z : l + 1 ≡ suc l = omega arith in ap (many k) z

pub rising_start : (k : ℕ) (starts : List ℕ) → length starts ≡ 34 → k ≤ 2 ^ 32 → Rising k (set starts 0 0) k 0 0
unfolding many start
rising_start k starts size h = record {
  size = length-set starts 0 0 ∙ size;
  few = omega arith;
  count = refl;
  place = refl;
  begun = λ l m. let z : l ≡ 0 = omega arith in ap (λ (x : ℕ). get_or (set starts 0 0) x 0) z ∙ get_or-set_same starts 0 0 0 (omega (arith, size)) ∙ ap (start k) (sym z);
  more = λ l m. absurd (omega arith);
  power = h;
  room = omega arith;
}

module _ (k : ℕ) (starts : List ℕ) (n level at : ℕ) (r : Rising k starts n level at) where
  pub rising_few : 1 < n → level < 32
  rising_few l = (half n level r.few l r.power).0

  pub rising_more : 1 < n → Rising k (set starts (level + 1) (at + n)) ((n + 1) / 2) (level + 1) (at + n)
  rising_more l = record {
    size = length-set starts (level + 1) (at + n) ∙ r.size;
    few = omega (arith, rising_few l);
    count = ap (λ (x : ℕ). (x + 1) / 2) r.count ∙ sym (many_on k level);
    place = next;
    begun = begun_more k starts level (at + n) (omega (arith, r.size, rising_few l)) next r.begun;
    more = λ m b. go m (eq-or-lt_of_le (below m b));
    power = (half n level r.few l r.power).1;
    room = omega (arith, r.room);
  }
    where
      next : at + n ≡ start k (level + 1)
      next = omega (arith, r.place, r.count, start_on k level)

      below : (m : ℕ) → m < level + 1 → m ≤ level
      below m b = omega arith

      go : (m : ℕ) → (m ≡ level) ⊎ (m < level) → 1 < many k m
      go m (inl z) = subst (λ (x : ℕ). 1 < many k x) (sym z) (subst (λ (x : ℕ). 1 < x) r.count l)
      go m (inr b) = r.more m b

  pub rising_done : n ≤ 1 → Leveled k (set starts (level + 1) (at + n)) level
  rising_done l = record {
    size = length-set starts (level + 1) (at + n) ∙ r.size;
    few = r.few;
    begun = begun_more k starts level (at + n) (omega (arith, r.size, r.few)) (omega (arith, r.place, r.count, start_on k level)) r.begun;
    more = r.more;
    last = subst (λ (x : ℕ). x ≤ 1) r.count l;
  }
