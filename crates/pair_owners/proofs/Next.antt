-- When an owner is taken, its slot goes to the first free end of its direction behind the cursor: every other free end that is no owner then stands behind that
-- one, and so before it there are as many owners as before. Where there is no such end, no free end of the direction is left that is no owner.
-- And so many owners are enough, since two of them before each other end are.
use Prim.Native.Nat.{ℕ, ◌+◌, ◌≤◌, ◌<◌}
use mathlib.Core.Path.{◌≡◌, refl, sym, ◌∙◌, ap, subst}
use mathlib.Core.Bool.{Bool, true, false, ◌||◌}
use mathlib.Core.Logic.{◌⊎◌, inl, inr, ⊎_elim}
use mathlib.Core.List.{List}
use native.Mathlib.Omega.{arith}
use lib.Dec.{eqb, ltb}
use borrow.Author.Tests.{eq-eqb, ne_eqb, eqb-true, eqb-false, lt-ltb, ltb-true, not-true}
use Rattle.rules.specs.Selecting.{End}
use Rattle.pair_laws.specs.Owners.{Led, Stands}
use Rattle.pair_laws.proofs.Order.{two, tf, and_left, and_right}
use Rattle.pair_laws.proofs.Owners.{There, Alike}
use Rattle.pair_tree.specs.Flat.{changed}
use Rattle.pair_tree.proofs.Flat.{same_or, below_or}
use Rattle.pair_owners.specs.Tables.{owners, Ordered, GroupRuns}
use Rattle.pair_owners.specs.Owners.{tally, without, leads, KeepsSlot, Owners}
use Rattle.pair_owners.proofs.Tally.{tally_le, tally_but, tally_less, tally_more, tally_next, tally_two, tally_three}

-- ---- tests

pub same_at : {A : Type 0} (f : ℕ → A) (x : ℕ) (v : A) (e : ℕ) → e ≡ x → changed f x v e ≡ v
same_at f x v e h = rw (eq-eqb e x h)

pub same_past : {A : Type 0} (f : ℕ → A) (x : ℕ) (v : A) (e : ℕ) → (e ≡ x → ⊥) → changed f x v e ≡ f e
same_past f x v e h = rw (ne_eqb e x h)

pub without_not : (gone : ℕ → Bool) (x e : ℕ) → without gone x e ≡ false → (e ≡ x → ⊥) × (gone e ≡ false)
without_not gone x e h = go (eqb e x) refl h
  where
    go : (b : Bool) → eqb e x ≡ b → (b || gone e) ≡ false → (e ≡ x → ⊥) × (gone e ≡ false)
    go true q k = absurd (tf refl k)
    go false q k = (eqb-false e x q, k)

pub is_without : (gone : ℕ → Bool) (x e : ℕ) → (e ≡ x → ⊥) → gone e ≡ false → without gone x e ≡ false
is_without gone x e h k = rw (ne_eqb e x h, k)

module _ (d : ℕ) (order group slot : ℕ → ℕ) (gone : ℕ → Bool) (g p : ℕ) where
  pub leads_is : leads d order group slot gone g p ≡ true → (group (order p) ≡ g) × (slot (order p) < d) × (gone (order p) ≡ false)
  leads_is h =
      let r = and_right (eqb (group (order p)) g) _ h in (
        eqb-true (group (order p)) g (and_left (eqb (group (order p)) g) _ h),
        ltb-true (slot (order p)) d (and_left (ltb (slot (order p)) d) _ r),
        not-true (gone (order p)) (and_right (ltb (slot (order p)) d) _ r),
      )

  pub is_leads : group (order p) ≡ g → slot (order p) < d → gone (order p) ≡ false → leads d order group slot gone g p ≡ true
  is_leads a b c = rw (eq-eqb (group (order p)) g a, lt-ltb (slot (order p)) d b, c)

-- an end less has its slot: no group has more owners for it
pub fewer : (d : ℕ) (order group slot : ℕ → ℕ) (gone : ℕ → Bool) (x g n : ℕ)
    → tally (leads d order group slot (without gone x) g) n ≤ tally (leads d order group slot gone g) n
fewer d order group slot gone x g n =
    tally_le (leads d order group slot (without gone x) g) (leads d order group slot gone g) n (λ p l t.
    let a = leads_is d order group slot (without gone x) g p t in is_leads d order group slot gone g p a.0 a.1 (without_not gone x (order p) a.2).1)

-- ---- an end that is taken hands on its slot

module _ {l : List End} {d : ℕ} {order pos group cursor slot own : ℕ → ℕ} {used gone : ℕ → Bool} (z : Ordered order pos d) (r : GroupRuns l order group d)
    (s : Owners l d order pos group cursor slot own used gone) (small : (e : ℕ) → There l e → e < d) where
  group_of : (e : ℕ) → e < d → group (order (pos e)) ≡ group e
  group_of e h = ap group (z.seat e h)

  module _ (x : ℕ) (x-in : x < d) (x_owner : slot x < d) (x_used : used x ≡ true) (x-holds : gone x ≡ false)
      (stop : ℕ) (reached : cursor (group x) ≤ stop) (passed : (q : ℕ) → cursor (group x) ≤ q → q < stop → q < d → used (order q) ≡ true) where
    -- a free end of the group that is no owner stands at `stop` or behind it
    behind : (e : ℕ) → There l e → used e ≡ false → (slot e < d → ⊥) → group e ≡ group x → stop ≤ pos e
    behind e t f n g =
        ⊎_elim
        (λ (c : pos e < stop).
        absurd (tf (ap used (sym (z.seat e (small e t))) ∙ passed (pos e) (subst (λ (v : ℕ). cursor v ≤ pos e) g (s.after e t f n)) c (z.pos_in e (small e t))) f))
        (λ (c : stop ≤ pos e). c)
        (below_or (pos e) stop)

    -- the owners of another group stay
    stays : (slot' : ℕ → ℕ) (h n : ℕ) → n ≤ d → (h ≡ group x → ⊥) → ((e : ℕ) → (group e ≡ group x → ⊥) → slot' e ≡ slot e)
        → tally (leads d order group slot gone h) n ≤ tally (leads d order group slot' (without gone x) h) n
    stays slot' h n k ne f =
        tally_le (leads d order group slot gone h) (leads d order group slot' (without gone x) h) n (λ p l t.
        let a = leads_is d order group slot gone h p t in
        let o : group (order p) ≡ group x → ⊥ = (λ w. ne (sym a.0 ∙ w)) in
        is_leads d order group slot' (without gone x) h p a.0 (subst (λ (v : ℕ). v < d) (sym (f (order p) o)) a.1)
        (is_without gone x (order p) (λ w. o (ap group w)) a.2))

    cursor_in : (e : ℕ) → There l e → used e ≡ false → (slot e < d → ⊥) → cursor (group e) ≤ d
    cursor_in e t f n = omega (arith, s.after e t f n, z.pos_in e (small e t))

    -- where the group ends there
    pub no_next : (d ≤ stop) ⊎ (group (order stop) ≡ group x → ⊥) → Owners l d order pos group cursor slot own used (without gone x)
    no_next w =
        record {
          past = λ e k. ⊎_elim (λ (q : e ≡ x). ap used q ∙ x_used) (λ (q : e ≡ x → ⊥). s.past e (old e q k)) (same_or e x);
          holds = λ e h k g. s.holds e h k (without_not gone x e g).1;
          ahead = s.ahead;
          after = s.after;
          led =
              λ e t f n. ⊎_elim
              (λ (q : group e ≡ group x). absurd (ends e t f n q w))
              (λ (q : group e ≡ group x → ⊥). le_trans (s.led e t f n) (stays slot (group e) (cursor (group e)) (cursor_in e t f n) q (λ _ _. refl)))
              (same_or (group e) (group x));
          most = λ h. le_trans (fewer d order group slot gone x h d) (s.most h);
        }
      where
        le_trans : {a b c : ℕ} → a ≤ b → b ≤ c → a ≤ c
        le_trans p q = omega arith

        old : (e : ℕ) → (e ≡ x → ⊥) → without gone x e ≡ true → gone e ≡ true
        old e q k = ⊎_elim (λ (y : gone e ≡ true). y) (λ (y : gone e ≡ false). absurd (tf k (is_without gone x e q y))) (two (gone e))

        ends : (e : ℕ) → There l e → used e ≡ false → (slot e < d → ⊥) → group e ≡ group x → (d ≤ stop) ⊎ (group (order stop) ≡ group x → ⊥) → ⊥
        ends e t f n q (inl y) = omega (arith, behind e t f n q, z.pos_in e (small e t))
        ends e t f n q (inr y) =
            let a = behind e t f n q in
            let i = z.pos_in e (small e t) in
            let up = r.rises stop (pos e) a i in
            let first : group (order (group x)) ≡ group x =
            ap (λ (v : ℕ). group (order v)) (sym (group_of x x-in)) ∙ r.start (pos x) (z.pos_in x x-in) ∙ group_of x x-in in
            let low : group x ≤ pos x = subst (λ (v : ℕ). v ≤ pos x) (group_of x x-in) (r.below (pos x) (z.pos_in x x-in)) in
            let down = r.rises (group x) stop (omega (arith, low, s.ahead x x-in x_owner)) (omega arith) in
            y (omega (arith, up, down, group_of e (small e t), first))

    -- where a free end stands there
    module _ (stop_in : stop < d) (g : group (order stop) ≡ group x) (free : used (order stop) ≡ false) where
      abbrev o : ℕ
      o = order stop

      abbrev cursor' : ℕ → ℕ
      cursor' = changed cursor (group x) (stop + 1)

      abbrev slot' : ℕ → ℕ
      slot' = changed slot o (slot x)

      abbrev own' : ℕ → ℕ
      own' = changed own (slot x) o

      o_in : o < d
      o_in = z.order_in stop stop_in

      o_not_x : o ≡ x → ⊥
      o_not_x e = tf (ap used e ∙ x_used) free

      pub o_none : slot o < d → ⊥
      o_none h = omega (arith, s.ahead o o_in h, z.back stop stop_in, ap cursor g)

      o_holds : gone o ≡ false
      o_holds = ⊎_elim (λ (y : gone o ≡ true). absurd (tf (s.past o y) free)) (λ (y : gone o ≡ false). y) (two (gone o))

      cursor_more : (h : ℕ) → cursor h ≤ cursor' h
      cursor_more h =
          ⊎_elim
          (λ (e : h ≡ group x). omega (arith, same_at cursor (group x) (stop + 1) h e, ap cursor e))
          (λ (e : h ≡ group x → ⊥). omega (arith, same_past cursor (group x) (stop + 1) h e))
          (same_or h (group x))

      slot_past : (e : ℕ) → (e ≡ o → ⊥) → slot' e ≡ slot e
      slot_past e h = same_past slot o (slot x) e h

      -- one owner less before the cursor, and one more at `stop`
      one_more : owners ≤ tally (leads d order group slot gone (group x)) (cursor (group x))
          → owners ≤ tally (leads d order group slot' (without gone x) (group x)) (stop + 1)
      one_more h =
          let f = leads d order group slot gone (group x) in
          let f' = leads d order group slot' (without gone x) (group x) in
          let a = tally_but f f' (cursor (group x)) (pos x) (λ p l n t.
          let i = leads_is d order group slot gone (group x) p t in
          let k : p < d = omega arith in
          let m : order p ≡ x → ⊥ = (λ w. n (sym (z.back p k) ∙ ap pos w)) in
          is_leads d order group slot' (without gone x) (group x) p i.0
          (subst (λ (v : ℕ). v < d) (sym (slot_past (order p) (λ w. o_none (subst (λ (v : ℕ). slot v < d) w i.1)))) i.1)
          (is_without gone x (order p) m i.2)) in
          let b = tally_more f' (cursor (group x)) stop reached in
          let c =
          tally_next f' stop
          (is_leads d order group slot' (without gone x) (group x) stop g (subst (λ (v : ℕ). v < d) (sym (same_at slot o (slot x) o refl)) x_owner)
          (is_without gone x o o_not_x o_holds)) in
          omega arith

      pub next : Owners l d order pos group cursor' slot' own' used (without gone x)
      next =
          record {
            past = λ e k. ⊎_elim (λ (q : e ≡ x). ap used q ∙ x_used) (λ (q : e ≡ x → ⊥). s.past e (old e q k)) (same_or e x);
            holds = λ e h k n. ⊎_elim (λ (q : e ≡ o). at_o e q) (λ (q : e ≡ o → ⊥). past_o e h k n q) (same_or e o);
            ahead =
                λ e h k. ⊎_elim
                (λ (q : e ≡ o). at_stop e q)
                (λ (q : e ≡ o → ⊥). le_trans (s.ahead e h (subst (λ (v : ℕ). v < d) (slot_past e q) k)) (cursor_more (group e)))
                (same_or e o);
            after =
                λ e t f n. ⊎_elim
                (λ (q : group e ≡ group x). after_here e t f n q)
                (λ (q : group e ≡ group x → ⊥). subst (λ (v : ℕ). v ≤ pos e) (sym (same_past cursor (group x) (stop + 1) (group e) q)) (s.after e t f (idle e n)))
                (same_or (group e) (group x));
            led =
                λ e t f n. ⊎_elim
                (λ (q : group e ≡ group x). led_here e t f n q)
                (λ (q : group e ≡ group x → ⊥). led_other e t f n q)
                (same_or (group e) (group x));
            most = λ h. ⊎_elim (λ (q : h ≡ group x). most_here h q) (λ (q : h ≡ group x → ⊥). most_other h q) (same_or h (group x));
          }
        where
          le_trans : {a b c : ℕ} → a ≤ b → b ≤ c → a ≤ c
          le_trans p q = omega arith

          old : (e : ℕ) → (e ≡ x → ⊥) → without gone x e ≡ true → gone e ≡ true
          old e q k = ⊎_elim (λ (y : gone e ≡ true). y) (λ (y : gone e ≡ false). absurd (tf k (is_without gone x e q y))) (two (gone e))

          at_o : (e : ℕ) → e ≡ o → own' (slot' e) ≡ e
          at_o e q = ap own' (same_at slot o (slot x) e q) ∙ same_at own (slot x) o (slot x) refl ∙ sym q

          past_o : (e : ℕ) → e < d → slot' e < d → without gone x e ≡ false → (e ≡ o → ⊥) → own' (slot' e) ≡ e
          past_o e h k n q =
              let u = without_not gone x e n in
              let se : slot' e ≡ slot e = slot_past e q in
              let k' : slot e < d = subst (λ (v : ℕ). v < d) se k in
              let apart : slot e ≡ slot x → ⊥ = (λ w. u.0 (sym (s.holds e h k' u.1) ∙ ap own w ∙ s.holds x x-in x_owner x-holds)) in
              ap own' se ∙ same_past own (slot x) o (slot e) apart ∙ s.holds e h k' u.1

          at_stop : (e : ℕ) → e ≡ o → pos e < cursor' (group e)
          at_stop e q =
              let c = same_at cursor (group x) (stop + 1) (group e) (ap group q ∙ g) in
              omega (arith, c, ap pos q, z.back stop stop_in)

          idle : (e : ℕ) → (slot' e < d → ⊥) → slot e < d → ⊥
          idle e n k = ⊎_elim
              (λ (q : e ≡ o). o_none (subst (λ (v : ℕ). slot v < d) q k))
              (λ (q : e ≡ o → ⊥). n (subst (λ (v : ℕ). v < d) (sym (slot_past e q)) k))
              (same_or e o)

          not_o : (e : ℕ) → (slot' e < d → ⊥) → e ≡ o → ⊥
          not_o e n q = n (subst (λ (v : ℕ). v < d) (sym (same_at slot o (slot x) e q)) x_owner)

          after_here : (e : ℕ) → There l e → used e ≡ false → (slot' e < d → ⊥) → group e ≡ group x → cursor' (group e) ≤ pos e
          after_here e t f n q =
              let b = behind e t f (idle e n) q in
              let i = small e t in
              let m : stop ≡ pos e → ⊥ = (λ w. not_o e n (sym (z.seat e i) ∙ ap order (sym w))) in
              omega (arith, same_at cursor (group x) (stop + 1) (group e) q, strictly stop (pos e) b m)
            where
              strictly : (a b : ℕ) → a ≤ b → (a ≡ b → ⊥) → a < b
              strictly a b h e = omega arith

          led_here : (e : ℕ) → There l e → used e ≡ false → (slot' e < d → ⊥) → group e ≡ group x
              → owners ≤ tally (leads d order group slot' (without gone x) (group e)) (cursor' (group e))
          led_here e t f n q =
              subst (λ (v : ℕ). owners ≤ tally (leads d order group slot' (without gone x) (group e)) v) (sym (same_at cursor (group x) (stop + 1) (group e) q))
              (subst (λ (v : ℕ). owners ≤ tally (leads d order group slot' (without gone x) v) (stop + 1)) (sym q)
              (one_more (subst (λ (v : ℕ). owners ≤ tally (leads d order group slot gone v) (cursor v)) q (s.led e t f (idle e n)))))

          led_other : (e : ℕ) → There l e → used e ≡ false → (slot' e < d → ⊥) → (group e ≡ group x → ⊥)
              → owners ≤ tally (leads d order group slot' (without gone x) (group e)) (cursor' (group e))
          led_other e t f n q =
              subst (λ (v : ℕ). owners ≤ tally (leads d order group slot' (without gone x) (group e)) v) (sym (same_past cursor (group x) (stop + 1) (group e) q))
              (le_trans (s.led e t f (idle e n))
              (stays slot' (group e) (cursor (group e)) (cursor_in e t f (idle e n)) q (λ a w. slot_past a (λ b. w (ap group b ∙ g)))))

          -- an owner of h but o was one before
          kept : (h p : ℕ) → p < d → (p ≡ stop → ⊥) → leads d order group slot' (without gone x) h p ≡ true → leads d order group slot (without gone x) h p ≡ true
          kept h p l n t =
              let a = leads_is d order group slot' (without gone x) h p t in
              let past : order p ≡ o → ⊥ = (λ w. n (sym (z.back p l) ∙ ap pos w ∙ z.back stop stop_in)) in
              is_leads d order group slot (without gone x) h p a.0 (subst (λ (v : ℕ). v < d) (slot_past (order p) past) a.1) a.2

          -- x has gone from its group, and o has come
          most_here : (h : ℕ) → h ≡ group x → tally (leads d order group slot' (without gone x) h) d ≤ owners
          most_here h q =
              let f = leads d order group slot gone h in
              let f₁ = leads d order group slot (without gone x) h in
              let f' = leads d order group slot' (without gone x) h in
              let at = z.pos_in x x-in in
              let xs = z.seat x x-in in
              let a = tally_but f' f₁ d stop (λ p l n t. kept h p l n t) in
              let b =
              tally_less f₁ f d (pos x) at (gone_x h)
              (is_leads d order group slot gone h (pos x) (ap group xs ∙ sym q) (subst (λ (v : ℕ). slot v < d) (sym xs) x_owner) (ap gone xs ∙ x-holds))
              (λ p l t. let u = leads_is d order group slot (without gone x) h p t in is_leads d order group slot gone h p u.0 u.1 (without_not gone x (order p) u.2).1) in
              omega (arith, a, b, s.most h)
            where
              gone_x : (h : ℕ) → leads d order group slot (without gone x) h (pos x) ≡ false
              gone_x h = ⊎_elim
                  (λ (t : leads d order group slot (without gone x) h (pos x) ≡ true).
                  absurd ((without_not gone x (order (pos x)) (leads_is d order group slot (without gone x) h (pos x) t).2).0 (z.seat x x-in)))
                  (λ (t : leads d order group slot (without gone x) h (pos x) ≡ false). t)
                  (two (leads d order group slot (without gone x) h (pos x)))

          most_other : (h : ℕ) → (h ≡ group x → ⊥) → tally (leads d order group slot' (without gone x) h) d ≤ owners
          most_other h q =
              le_trans
              (tally_le (leads d order group slot' (without gone x) h) (leads d order group slot (without gone x) h) d (λ p l t.
              kept h p l (λ w. q (sym (leads_is d order group slot' (without gone x) h p t).0 ∙ ap (λ (v : ℕ). group (order v)) w ∙ g)) t))
              (le_trans (fewer d order group slot gone x h d) (s.most h))

-- an end that was no owner has no slot to hand on
pub no_slot : {l : List End} {d : ℕ} {order pos group cursor slot own : ℕ → ℕ} {used gone : ℕ → Bool} → Owners l d order pos group cursor slot own used gone
    → (x : ℕ) → used x ≡ true → (slot x < d → ⊥) → Owners l d order pos group cursor slot own used (without gone x)
no_slot {l} {d} {order} {pos} {group} {cursor} {slot} {own} {used} {gone} s x u n =
    record {
      past = λ e k. ⊎_elim (λ (q : e ≡ x). ap used q ∙ u) (λ (q : e ≡ x → ⊥). s.past e (old e q k)) (same_or e x);
      holds = λ e h k g. s.holds e h k (without_not gone x e g).1;
      ahead = s.ahead;
      after = s.after;
      led =
          λ e t f k.
          let a = s.led e t f k in
          let b =
          tally_le (leads d order group slot gone (group e)) (leads d order group slot (without gone x) (group e)) (cursor (group e)) (λ p i y.
          let w = leads_is d order group slot gone (group e) p y in
          is_leads d order group slot (without gone x) (group e) p w.0 w.1
          (is_without gone x (order p) (λ v. n (subst (λ (c : ℕ). slot c < d) v w.1)) w.2)) in
          omega arith;
      most = λ g. let a = fewer d order group slot gone x g d in omega (arith, a, s.most g);
    }
  where
    old : (e : ℕ) → (e ≡ x → ⊥) → without gone x e ≡ true → gone e ≡ true
    old e q k = ⊎_elim (λ (y : gone e ≡ true). y) (λ (y : gone e ≡ false). absurd (tf k (is_without gone x e q y))) (two (gone e))

-- more ends are taken
pub more_used : {l : List End} {d : ℕ} {order pos group cursor slot own : ℕ → ℕ} {used used' gone : ℕ → Bool} → Owners l d order pos group cursor slot own used gone
    → ((e : ℕ) → used e ≡ true → used' e ≡ true) → Owners l d order pos group cursor slot own used' gone
more_used {l} {d} {order} {pos} {group} {cursor} {slot} {own} {used} {used'} s f =
    record {
      past = λ e k. f e (s.past e k);
      holds = s.holds;
      ahead = s.ahead;
      after = λ e t u. s.after e t (free e u);
      led = λ e t u. s.led e t (free e u);
      most = s.most;
    }
  where
    free : (e : ℕ) → used' e ≡ false → used e ≡ false
    free e u = ⊎_elim (λ (y : used e ≡ true). absurd (tf (f e y) u)) (λ (y : used e ≡ false). y) (two (used e))

-- ---- no group has a third owner

module _ {l : List End} {d : ℕ} {order pos group cursor slot own : ℕ → ℕ} {used gone : ℕ → Bool} (z : Ordered order pos d)
    (s : Owners l d order pos group cursor slot own used gone) where
  pub no_third_owner : (a b c : ℕ) → KeepsSlot d slot gone a → KeepsSlot d slot gone b → KeepsSlot d slot gone c → (b ≡ a → ⊥) → (c ≡ a → ⊥) → (c ≡ b → ⊥)
      → group b ≡ group a → group c ≡ group a → ⊥
  no_third_owner a b c x y w p q r f g =
      let k =
      tally_three (leads d order group slot gone (group a)) d (pos a) (pos b) (pos c) (z.pos_in a x.inside) (z.pos_in b y.inside) (z.pos_in c w.inside)
      (apart b a y.inside x.inside p) (apart c a w.inside x.inside q) (apart c b w.inside y.inside r)
      (leading a x refl) (leading b y f) (leading c w g) in
      omega (arith, k, s.most (group a))
    where
      apart : (e h : ℕ) → e < d → h < d → (e ≡ h → ⊥) → pos e ≡ pos h → ⊥
      apart e h i j n m = n (sym (z.seat e i) ∙ ap order m ∙ z.seat h j)

      leading : (e : ℕ) → KeepsSlot d slot gone e → group e ≡ group a → leads d order group slot gone (group a) (pos e) ≡ true
      leading e t m =
          let v = z.seat e t.inside in
          is_leads d order group slot gone (group a) (pos e) (ap group v ∙ m) (subst (λ (o : ℕ). slot o < d) (sym v) t.owner) (ap gone v ∙ t.kept)

-- ---- the owners lead the others

module _ {l : List End} {d : ℕ} {order pos group cursor slot own : ℕ → ℕ} {used gone : ℕ → Bool} (z : Ordered order pos d) (r : GroupRuns l order group d)
    (s : Owners l d order pos group cursor slot own used gone) (small : (e : ℕ) → There l e → e < d) (all : (e : ℕ) → gone e ≡ used e) (active : ℕ → Bool)
    (active-is : (e : ℕ) → e < d → active e ≡ ltb (slot e) d) where
  pub owners_lead : Led (There l) (Alike l) used active
  owners_lead e t f n =
      let i = small e t in
      let none : slot e < d → ⊥ = (λ k. tf (active-is e i ∙ lt-ltb (slot e) d k) n) in
      let c = s.after e t f none in
      let w = tally_two (leads d order group slot gone (group e)) (cursor (group e)) (omega (arith, s.led e t f none)) in
      let pe = z.pos_in e i in
      let ge : group (order (pos e)) ≡ group e = ap group (z.seat e i) in
      (order w.0, order w.1, lower w.0 w.1 w.2 (omega (arith, w.3)) w.4 w.5, stands w.0 (omega (arith, w.2, w.3)) w.4, stands w.1 (omega (arith, w.3)) w.5)
    where
      in_group : (p : ℕ) → leads d order group slot gone (group e) p ≡ true → group (order p) ≡ group (order (pos e))
      in_group p h = (leads_is d order group slot gone (group e) p h).0 ∙ sym (ap group (z.seat e (small e t)))

      lower : (a b : ℕ) → a < b → b < pos e → leads d order group slot gone (group e) a ≡ true → leads d order group slot gone (group e) b ≡ true → order a < order b
      lower a b h k x y = (r.alike a b h (omega (arith, z.pos_in e (small e t))) (in_group a x ∙ sym (in_group b y))).lower

      stands : (p : ℕ) → p < pos e → leads d order group slot gone (group e) p ≡ true → Stands (There l) (Alike l) used active e (order p)
      stands p h y =
          let m = leads_is d order group slot gone (group e) p y in
          let k = r.alike p (pos e) h (z.pos_in e (small e t)) (in_group p y) in
          let se = z.seat e (small e t) in
          record {
            below = subst (λ (v : ℕ). order p < v) se k.lower;
            there = k.first;
            free = sym (all (order p)) ∙ m.2;
            owner = active-is (order p) (z.order_in p (omega (arith, z.pos_in e (small e t)))) ∙ lt-ltb (slot (order p)) d m.1;
            alike = subst (λ (v : ℕ). Alike l (order p) v) se k.alike;
          }
