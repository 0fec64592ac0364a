-- The groups and the first owners, made position by position. An end joins its predecessor's group where the two are alike, so that all of a group are; the first
-- two of a group have a slot each, in the order of the positions.
use Prim.Native.Nat.{ℕ, ◌+◌, ◌-◌, ◌≤◌, ◌<◌}
use mathlib.Core.Path.{◌≡◌, refl, sym, ◌∙◌, ap, subst}
use mathlib.Core.Bool.{true, false}
use mathlib.Core.Logic.{◌⊎◌, inl, inr, ⊎_elim}
use mathlib.Core.List.{List}
use native.Mathlib.Omega.{arith}
use Rattle.rules.specs.Selecting.{End}
use Rattle.pair_laws.specs.Ranked.{none as nobody}
use Rattle.pair_laws.proofs.Order.{tf}
use Rattle.pair_laws.proofs.Owners.{There, alike_trans}
use Rattle.pair_tree.specs.Flat.{changed}
use Rattle.pair_tree.proofs.Flat.{same_or, below_or}
use Rattle.pair_owners.specs.Tables.{owners, Ordered, OneDirection, Together, Like, GroupRuns, GroupOfDirection, Started}
use Rattle.pair_owners.specs.Owners.{leads, tally, Owners}
use Rattle.pair_owners.proofs.Tally.{tally_run, tally_within}
use Rattle.pair_owners.proofs.Next.{leads_is, is_leads, same_at, same_past}

like_trans : {l : List End} {a b e : ℕ} → Like l a b → Like l b e → Like l a e
like_trans {l} {a} {b} {e} p q =
    record { lower = omega (arith, p.lower, q.lower); first = p.first; second = q.second; alike = alike_trans l a b e p.alike q.alike }

pub same_sym : {w : List ℕ} {d a e : ℕ} → OneDirection w d a e → OneDirection w d e a
same_sym s = record { first = s.second; second = s.first; x = sym s.x; y = sym s.y }

pub same_trans : {w : List ℕ} {d a b e : ℕ} → OneDirection w d a b → OneDirection w d b e → OneDirection w d a e
same_trans s t = record { first = s.first; second = t.second; x = s.x ∙ t.x; y = s.y ∙ t.y }

-- position n of an order, once it is reached
module _ (l : List End) (order pos : ℕ → ℕ) (d n : ℕ) (ordered : Ordered order pos d) (n-in : n < d) where
  -- the ends before it are others
  other : (p : ℕ) → p < n → order p ≡ order n → ⊥
  other p h e = omega (arith, ordered.back p (omega arith), ordered.back n n-in, ap pos e)

  module _ (group group' : ℕ → ℕ) (g : ℕ) (here : group' (order n) ≡ g) (past : (e : ℕ) → e < d → (e ≡ order n → ⊥) → group' e ≡ group e) (r : GroupRuns l order group n)
      (w : (g ≡ n) ⊎ ((0 < n) × (g ≡ group (order (n - 1))) × Like l (order (n - 1)) (order n))) where
    same : (p : ℕ) → p < n → group' (order p) ≡ group (order p)
    same p h = past (order p) (ordered.order_in p (omega arith)) (other p h)

    low : g ≤ n
    low = ⊎_elim (λ (e : g ≡ n). omega arith) (λ (e : (0 < n) × (g ≡ group (order (n - 1))) × Like l (order (n - 1)) (order n)). omega (arith, e.0, e.1, r.below (n - 1) (omega (arith, e.0)))) w

    cases : (p : ℕ) → p < n + 1 → (p < n) ⊎ (p ≡ n)
    cases p h = ⊎_elim (λ (c : p < n). inl c) (λ (c : n ≤ p). inr (omega arith)) (below_or p n)

    pub runs_next : GroupRuns l order group' (n + 1)
    runs_next =
        record {
          below = λ p h. ⊎_elim (λ (c : p < n). omega (arith, same p c, r.below p c)) (λ (c : p ≡ n). omega (arith, ap (λ (x : ℕ). group' (order x)) c, here, low)) (cases p h);
          start = λ p h. ⊎_elim (λ (c : p < n). start_old p c) (λ (c : p ≡ n). rw c (start_here w)) (cases p h);
          rises = λ p q k h. ⊎_elim (λ (c : q < n). omega (arith, same p (omega arith), same q c, r.rises p q k c)) (λ (c : q ≡ n). rises_here p q k c (cases p (omega arith)) w) (cases q h);
          alike = λ p q k h e. ⊎_elim (λ (c : q < n). r.alike p q k c (sym (same p (omega arith)) ∙ e ∙ same q c)) (λ (c : q ≡ n). rw c (alike_here p (omega arith) (sym (same p (omega arith)) ∙ e ∙ ap (λ (x : ℕ). group' (order x)) c ∙ here) w)) (cases q h);
        }
      where
        start_old : (p : ℕ) → p < n → group' (order (group' (order p))) ≡ group' (order p)
        start_old p c =
            ap (λ (x : ℕ). group' (order x)) (same p c) ∙ same (group (order p)) (omega (arith, r.below p c)) ∙ r.start p c ∙ sym (same p c)

        start_here : (g ≡ n) ⊎ ((0 < n) × (g ≡ group (order (n - 1))) × Like l (order (n - 1)) (order n)) → group' (order (group' (order n))) ≡ group' (order n)
        start_here (inl e) = ap (λ (x : ℕ). group' (order x)) (here ∙ e)
        start_here (inr (z, e, k)) =
            let b = r.below (n - 1) (omega arith) in
            ap (λ (x : ℕ). group' (order x)) (here ∙ e)
            ∙ same (group (order (n - 1))) (omega arith)
            ∙ r.start (n - 1) (omega arith)
            ∙ sym (here ∙ e)

        rises_here : (p q : ℕ) → p ≤ q → q ≡ n → (p < n) ⊎ (p ≡ n) → (g ≡ n) ⊎ ((0 < n) × (g ≡ group (order (n - 1))) × Like l (order (n - 1)) (order n))
            → group' (order p) ≤ group' (order q)
        rises_here p q k c (inr a) v = let e : p ≡ q = a ∙ sym c in rw e (omega arith)
        rises_here p q k c (inl a) (inl e) = omega (arith, same p a, r.below p a, ap (λ (x : ℕ). group' (order x)) c, here)
        rises_here p q k c (inl a) (inr (z, e, m)) =
            omega (arith, same p a, r.rises p (n - 1) (omega arith) (omega arith), ap (λ (x : ℕ). group' (order x)) c, here)

        alike_here : (p : ℕ) → p < n → group (order p) ≡ g → (g ≡ n) ⊎ ((0 < n) × (g ≡ group (order (n - 1))) × Like l (order (n - 1)) (order n)) → Like l (order p) (order n)
        alike_here p a e (inl v) = absurd (omega (arith, r.below p a))
        alike_here p a e (inr (z, v, m)) =
            ⊎_elim
            (λ (c : p ≡ n - 1). rw c m)
            (λ (c : p ≡ n - 1 → ⊥). like_trans (r.alike p (n - 1) (strictly p (n - 1) (omega arith) c) (omega arith) (e ∙ v)) m)
            (same_or p (n - 1))
          where
            strictly : (a b : ℕ) → a ≤ b → (a ≡ b → ⊥) → a < b
            strictly a b h e = omega arith

    module _ (cursor cursor' slot slot' own : ℕ → ℕ) (m s : ℕ) (cursor_here : cursor' n ≡ n + owners) (cursor_past : (p : ℕ) → p < d → (p ≡ n → ⊥) → cursor' p ≡ cursor p)
        (slot_here : slot' (order n) ≡ s) (slot_past : (e : ℕ) → e < d → (e ≡ order n → ⊥) → slot' e ≡ slot e)
        (k : Started l order group cursor slot own d n m) (due : There l (order n) → n < g + owners → s ≡ m) where
      slot_same : (p : ℕ) → p < n → slot' (order p) ≡ slot (order p)
      slot_same p h = slot_past (order p) (ordered.order_in p (omega arith)) (other p h)

      cursors : (p : ℕ) → p < n + 1 → cursor' p ≡ p + owners
      cursors p h =
          ⊎_elim
          (λ (c : p < n). cursor_past p (omega arith) (λ e. omega arith) ∙ k.cursors p c)
          (λ (c : p ≡ n). ap cursor' c ∙ cursor_here ∙ ap (λ (x : ℕ). x + owners) (sym c))
          (cases p h)

      held_old : (p : ℕ) → p < n → (own' : ℕ → ℕ) (m' : ℕ) → m ≤ m' → ((x : ℕ) → x < m → own' x ≡ own x)
          → (slot' (order p) ≡ d) ⊎ ((slot' (order p) < m') × (own' (slot' (order p)) ≡ order p) × (p < group' (order p) + owners))
      held_old p h own' m' i f =
          ⊎_elim
          (λ (e : slot (order p) ≡ d). inl (slot_same p h ∙ e))
          (λ (e : (slot (order p) < m) × (own (slot (order p)) ≡ order p) × (p < group (order p) + owners)).
          inr (
            omega (arith, slot_same p h, e.0),
            ap own' (slot_same p h) ∙ f (slot (order p)) e.0 ∙ e.1,
            omega (arith, same p h, e.2),
          ))
          (k.held p h)

      holder_old : (x : ℕ) → x < m → (own' : ℕ → ℕ) → own' x ≡ own x
          → (slot' (own' x) ≡ x) × ((p : ℕ) × (p < n + 1) × (own' x ≡ order p)) × There l (own' x)
      holder_old x h own' e =
          let t = k.holder x h in
          let p = t.1 in (
            ap slot' (e ∙ p.2) ∙ slot_same p.0 p.1 ∙ ap slot (sym p.2) ∙ t.0,
            (p.0, omega (arith, p.1), e ∙ p.2),
            subst (λ (v : ℕ). There l v) (sym e) t.2,
          )

      due_old : (p : ℕ) → p < n → There l (order p) → p < group' (order p) + owners → slot' (order p) < m
      due_old p h t i = omega (arith, slot_same p h, k.due p h t (omega (arith, same p h)))

      -- it has no slot
      pub started_none : s ≡ d → Started l order group' cursor' slot' own d (n + 1) m
      started_none e =
          record {
            few = omega (arith, k.few);
            held =
                λ p h. ⊎_elim
                (λ (c : p < n). held_old p c own m (omega arith) (λ x i. refl))
                (λ (c : p ≡ n). inl (ap (λ (x : ℕ). slot' (order x)) c ∙ slot_here ∙ e))
                (cases p h);
            holder = λ x h. holder_old x h own refl;
            due =
                λ p h t i. ⊎_elim
                (λ (c : p < n). due_old p c t i)
                (λ (c : p ≡ n).
                absurd (omega (
                  arith,
                  due (subst (λ (x : ℕ). There l (order x)) c t) (omega (arith, ap (λ (x : ℕ). group' (order x)) c, here)),
                  e,
                  k.few,
                )))
                (cases p h);
            cursors = cursors;
          }

      -- it has the slot m
      pub started_one : s ≡ m → There l (order n) → n < g + owners → Started l order group' cursor' slot' (changed own m (order n)) d (n + 1) (m + 1)
      started_one e t i =
          record {
            few = omega (arith, k.few);
            held =
                λ p h. ⊎_elim
                (λ (c : p < n). held_old p c own' (m + 1) (omega arith) (λ x j. same_past own m (order n) x (λ y. omega arith)))
                (λ (c : p ≡ n). rw c (inr (
                  omega (arith, slot_here, e),
                  ap own' (slot_here ∙ e) ∙ same_at own m (order n) m refl,
                  omega (arith, here, i),
                )))
                (cases p h);
            holder =
                λ x h. ⊎_elim
                (λ (c : x < m). holder_old x c own' (same_past own m (order n) x (λ y. omega arith)))
                (λ (c : m ≤ x). newest x (omega arith))
                (below_or x m);
            due =
                λ p h y j. ⊎_elim
                (λ (c : p < n). omega (arith, due_old p c y j))
                (λ (c : p ≡ n). omega (arith, ap (λ (x : ℕ). slot' (order x)) c, slot_here, e))
                (cases p h);
            cursors = cursors;
          }
        where
          own' : ℕ → ℕ
          own' = changed own m (order n)

          newest : (x : ℕ) → x ≡ m → (slot' (own' x) ≡ x) × ((p : ℕ) × (p < n + 1) × (own' x ≡ order p)) × There l (own' x)
          newest x c =
              let o : own' x ≡ order n = same_at own m (order n) x c in
              (ap slot' o ∙ slot_here ∙ e ∙ sym c, (n, omega arith, o), subst (λ (v : ℕ). There l v) (sym o) t)

-- Ends of one direction are of one group: where one stands before the end at position n, the end right before that one is of the same direction, and of the group
-- that the end joins.
module _ {w : List ℕ} {d n : ℕ} {order : ℕ → ℕ} (group group' : ℕ → ℕ) (z : Together w d order) (n-in : n < d) (same : (p : ℕ) → p < n → group' (order p) ≡ group (order p))
    (joins : OneDirection w d (order (n - 1)) (order n) → order (n - 1) < order n → group' (order n) ≡ group (order (n - 1))) where
  pub whole_next : GroupOfDirection w d order group n → GroupOfDirection w d order group' (n + 1)
  whole_next whole p q h k t =
      ⊎_elim
      (λ (c : q < n). same p (omega arith) ∙ whole p q h c t ∙ sym (same q c))
      (λ (c : n ≤ q). let e : q ≡ n = omega arith in same p (omega arith) ∙ here (omega arith) (subst (λ (x : ℕ). OneDirection w d (order p) (order x)) e t) ∙ ap (λ (x : ℕ). group' (order x)) (sym e))
      (below_or q n)
    where
      here : p < n → OneDirection w d (order p) (order n) → group (order p) ≡ group' (order n)
      here l s =
          let b = z p n l n-in s in
          ⊎_elim
          (λ (c : p < n - 1). whole p (n - 1) c (omega arith) (same_trans s (same_sym b.0)))
          (λ (c : n - 1 ≤ p). let e : p ≡ n - 1 = omega arith in ap (λ (x : ℕ). group (order x)) e)
          (below_or p (n - 1))
          ∙ sym (joins b.0 b.1)

-- no position yet
pub runs_start : (l : List End) (order group : ℕ → ℕ) → GroupRuns l order group 0
runs_start l order group =
    record {
      below = λ p h. absurd (omega arith);
      start = λ p h. absurd (omega arith);
      rises = λ p q k h. absurd (omega arith);
      alike = λ p q k h. absurd (omega arith);
    }

pub started_start : (l : List End) (order group cursor slot own : ℕ → ℕ) (d : ℕ) → Started l order group cursor slot own d 0 0
started_start l order group cursor slot own d =
    record {
      few = omega arith;
      held = λ p h. absurd (omega arith);
      holder = λ s h. absurd (omega arith);
      due = λ p h. absurd (omega arith);
      cursors = λ p h. absurd (omega arith);
    }

-- all positions: the first owners lead the others, while no end is taken
module _ {l : List End} {d m : ℕ} {order pos group cursor slot own : ℕ → ℕ} (z : Ordered order pos d) (r : GroupRuns l order group d) (k : Started l order group cursor slot own d d m)
    (small : (e : ℕ) → There l e → e < d) where
  abbrev here : (e : ℕ) → e < d → order (pos e) ≡ e
  here = z.seat

  held_of : (e : ℕ) → e < d → slot e < d → (own (slot e) ≡ e) × (pos e < group e + owners)
  held_of e h i =
      ⊎_elim
      (λ (x : slot (order (pos e)) ≡ d). absurd (omega (arith, ap slot (here e h), x)))
      (λ (x : (slot (order (pos e)) < m) × (own (slot (order (pos e))) ≡ order (pos e)) × (pos e < group (order (pos e)) + owners)).
      (ap (λ (v : ℕ). own (slot v)) (sym (here e h)) ∙ x.1 ∙ here e h, omega (arith, x.2, ap group (here e h))))
      (k.held (pos e) (z.pos_in e h))

  cursor_of : (e : ℕ) → e < d → cursor (group e) ≡ group e + owners
  cursor_of e h = k.cursors (group e) (omega (arith, ap group (here e h), r.below (pos e) (z.pos_in e h), z.pos_in e h))

  pub owners_start : Owners l d order pos group cursor slot own nobody nobody
  unfolding nobody
  owners_start =
      record {
        past = λ e h. absurd (tf h refl);
        holds = λ e h i g. (held_of e h i).0;
        ahead = λ e h i. omega (arith, (held_of e h i).1, cursor_of e h);
        after = λ e t f n. later e t n;
        led = λ e t f n. subst (λ (c : ℕ). owners ≤ tally (leads d order group slot nobody (group e)) c) (sym (cursor_of e (small e t))) (enough e t n);
        most = λ g. tally_within (leads d order group slot nobody g) g owners d (λ p h t. first_of g p h (leads_is d order group slot nobody g p t));
      }
    where
      -- an owner is one of the first in its group
      first_of : (g p : ℕ) → p < d → (group (order p) ≡ g) × (slot (order p) < d) × (nobody (order p) ≡ false) → (g ≤ p) × (p < g + owners)
      first_of g p h a =
          ⊎_elim
          (λ (x : slot (order p) ≡ d). absurd (omega (arith, x, a.1)))
          (λ (x : (slot (order p) < m) × (own (slot (order p)) ≡ order p) × (p < group (order p) + owners)).
          (omega (arith, a.0, r.below p h), omega (arith, a.0, x.2)))
          (k.held p h)

      later : (e : ℕ) → There l e → (slot e < d → ⊥) → cursor (group e) ≤ pos e
      later e t n =
          let h = small e t in
          ⊎_elim
          (λ (c : pos e < group e + owners).
          absurd (n (omega (
            arith,
            k.due (pos e) (z.pos_in e h) (subst (λ (v : ℕ). There l v) (sym (here e h)) t) (omega (arith, ap group (here e h))),
            ap slot (here e h),
            k.few,
          ))))
          (λ (c : group e + owners ≤ pos e). omega (arith, cursor_of e h))
          (below_or (pos e) (group e + owners))

      enough : (e : ℕ) → There l e → (slot e < d → ⊥) → owners ≤ tally (leads d order group slot nobody (group e)) (group e + owners)
      enough e t n =
          let h = small e t in
          let c = later e t n in
          let ce = cursor_of e h in
          tally_run (leads d order group slot nobody (group e)) (group e) owners (λ p a b. each p a (omega (arith, b, c, ce)) b)
        where
          both : (a b : ℕ) → a ≤ b → b ≤ a → a ≡ b
          both a b p q = omega arith

          each : (p : ℕ) → group e ≤ p → p < pos e → p < group e + owners → leads d order group slot nobody (group e) p ≡ true
          each p a b c =
              let h = small e t in
              let i = z.pos_in e h in
              let ge : group (order (pos e)) ≡ group e = ap group (here e h) in
              let first : group (order (group e)) ≡ group e = ap (λ (v : ℕ). group (order v)) (sym ge) ∙ r.start (pos e) i ∙ ge in
              let up = r.rises (group e) p a (omega arith) in
              let down = r.rises p (pos e) (omega arith) i in
              let g : group (order p) ≡ group e = both (group (order p)) (group e) (omega (arith, down, ge)) (omega (arith, up, first)) in
              let y = r.alike p (pos e) b i (g ∙ sym ge) in
              let s = k.due p (omega arith) y.first (omega (arith, g)) in
              is_leads d order group slot nobody (group e) p g (omega (arith, s, k.few)) refl
