-- Chains one after another: the marks are how often each line was listed, so that at the end each line stands once exactly if each has its mark and none was
-- met again.
use Prim.Native.Nat.{ℕ, suc, ◌+◌, ◌≤◌, ◌<◌}
use mathlib.Core.Path.{◌≡◌, refl, sym, ap, ap₂, ◌∙◌}
use mathlib.Core.Bool.{Bool, true, false, ◌&&◌, true≢false}
use mathlib.Core.Logic.{◌⊎◌, inl, inr}
use mathlib.Core.List.{List, [], ◌∷◌, ◌++◌, map, flat_map}
use native.Mathlib.Omega.{arith}
use native.Mathlib.Numerals.{add-one}
use lib.Dec.{eqb}
use lib.ListN.{length, get_or, drop, replicate, get_or-replicate}
use borrow.Author.Tests.{eq-eqb, ne_eqb}
use Rattle.rules.specs.declared.Meeting.{Meeting}
use Rattle.rules.specs.Lists.{one, count, upto, all_of}
use Rattle.rules.specs.Plane.{points}
use Rattle.rules.specs.Chaining.{Line}
use Rattle.rules.specs.Layout.{lent, lines_in}
use Rattle.rules.specs.Refusals.{most_lines}
use Rattle.rules.specs.Check.{Delivered, lines_of, listed_at, fits, acceptable}
use Rattle.chain_laws.proofs.Counts.{upto_length}
use Rattle.chain_laws.proofs.Room.{lines_length}
use Rattle.lent_laws.proofs.Tests.{flat_suc, flat_none, flat_part}
use Rattle.check_laws.proofs.Rows.{all_next, all_stop, all_end, all_fails, each_all, all_map, upto_at}
use Rattle.check_lines.specs.Lines.{mark, AllSeen}
use Rattle.check_calls.specs.Deliveries.{RecordFine, fits_at, ChainJudged, delivered_by}
use Rattle.check_calls.proofs.Records.{flat_below}

flat_map_lem : {A : Type 0} (f : A → List ℕ) (g : ℕ → A) (l : List ℕ) → flat_map f (map g l) ≡ flat_map (λ (k : ℕ). f (g k)) l
unfolding flat_map
flat_map_lem f g [] = refl
flat_map_lem f g (a ∷ l) = ap (λ (r : List ℕ). f (g a) ++ r) (flat_map_lem f g l)

and_right : (a : Bool) → (a && false) ≡ false
and_right true = refl
and_right false = refl

module _ (m : Meeting) (w : ℕ) (coordinates counts groups kinds merged table listing : List ℕ) where
  abbrev listed : ℕ → List ℕ
  listed k = listed_at table listing k

  abbrev fitting : ℕ → Bool
  fitting k = fits_at m w coordinates counts groups kinds merged table listing k

  abbrev all : List Line
  all = lines_in w (lent coordinates counts groups kinds)

  abbrev chains : ℕ → List Delivered
  chains n = map (delivered_by w coordinates merged table listing) (upto n)

  -- how often y is listed in the first n
  abbrev listings : ℕ → ℕ → ℕ
  listings n y = count y (flat_map listed (upto n))

  -- the book's test by numbers
  accepted_is : (n : ℕ) → acceptable m all (chains n) ≡ (all_of (λ (y : ℕ). eqb (listings n y) 1) (upto (length counts)) && all_of fitting (upto n))
  unfolding acceptable
  accepted_is n =
      ap₂ (λ (x y : Bool). x && y)
      (ap₂ (λ (f : List ℕ) (i : ℕ). all_of (λ (y : ℕ). eqb (count y f) 1) (upto i))
      (flat_map_lem (λ (c : Delivered). c.listed) (delivered_by w coordinates merged table listing) (upto n)) (lines_length (points w coordinates) counts groups kinds))
      (all_map (λ (c : Delivered). fits m (lines_of all c) c.coordinates) (delivered_by w coordinates merged table listing) (upto n))

  -- with the first k looked at
  pub record Judging (n : ℕ) (seen : List Bool) (k : ℕ) : Type 0 where
    pub within : k ≤ n
    pub counted : (y : ℕ) → y < most_lines → mark seen y ≡ listings k y
    pub fit : all_of fitting (drop k (upto n)) ≡ all_of fitting (upto n)

  pub judging_start : (n : ℕ) → Judging n (replicate 4096 false) 0
  judging_start n =
      record {
        within = omega arith;
        counted = λ y h. ap one (get_or-replicate {A = Bool} 4096 y false false h) ∙ sym (flat_none listed y);
        fit = refl;
      }

  module _ (n : ℕ) (few : length counts ≤ most_lines) (good : (k : ℕ) → k < n → RecordFine w (length counts) coordinates merged table listing k) where
    -- a line that isn't listed once
    not_once : (y : ℕ) → y < length counts → (listings n y ≡ 1 → ⊥) → false ≡ acceptable m all (chains n)
    not_once y h d =
        sym
        (accepted_is n
        ∙ ap (λ (x : Bool). x && all_of fitting (upto n))
        (all_fails (λ (z : ℕ). eqb (listings n z) 1) (upto (length counts)) y 0 (omega (arith, upto_length (length counts)))
        (ap (λ (z : ℕ). eqb (listings n z) 1) (upto_at (length counts) y h) ∙ ne_eqb (listings n y) 1 d)))

    listed_below : (y : ℕ) → 0 < listings n y → y < length counts
    listed_below y h = flat_below (length counts) listed n (λ j b. (good j b).below) y h

    module _ (seen seen' : List Bool) (k : ℕ) (j : Judging n seen k) (h : k < n) (r : Bool) (d : ChainJudged m w coordinates counts groups kinds merged table listing k seen seen' r) where
      this : get_or (upto n) k 0 ≡ k
      this = upto_at n k h

      there : k < length (upto n)
      there = omega (arith, upto_length n)

      pub judging_next : r ≡ true → Judging n seen' (k + 1)
      judging_next e =
          record {
            within = omega arith;
            counted = λ y b. d.added e y b ∙ ap (λ (i : ℕ). i + count y (listed k)) (j.counted y b) ∙ sym (flat_suc listed k y) ∙ ap (λ (i : ℕ). listings i y) (sym (add-one k));
            fit = sym (all_next fitting (upto n) k 0 there (ap fitting this ∙ d.fitting e)) ∙ j.fit;
          }

      pub judging_stop : r ≡ false → false ≡ acceptable m all (chains n)
      judging_stop e = go (d.wrong e)
        where
          go : ((y : ℕ) × (y < most_lines) × (1 < mark seen y + count y (listed k))) ⊎ (fitting k ≡ false) → false ≡ acceptable m all (chains n)
          go (inl t) =
              let y = t.0 in
              let c : 1 < listings n y = omega (arith, t.2, j.counted y t.1, flat_suc listed k y, flat_part listed y (suc k) n (omega arith)) in
              not_once y (listed_below y (omega arith)) (λ q. omega arith)
          go (inr f) =
              sym
              (accepted_is n
              ∙ ap (λ (x : Bool). all_of (λ (y : ℕ). eqb (listings n y) 1) (upto (length counts)) && x)
              (sym j.fit ∙ all_stop fitting (upto n) k 0 there (ap fitting this ∙ f))
              ∙ and_right (all_of (λ (y : ℕ). eqb (listings n y) 1) (upto (length counts))))

    -- all were looked at
    pub judged_all : (seen : List Bool) (k : ℕ) → Judging n seen k → n ≤ k → (r : Bool) → AllSeen seen (length counts) r → r ≡ acceptable m all (chains n)
    judged_all seen k j h r a = go r refl
      where
        same : (y : ℕ) → y < length counts → mark seen y ≡ listings n y
        same y b = let q : k ≡ n = omega (arith, j.within) in j.counted y (omega arith) ∙ ap (λ (i : ℕ). listings i y) q

        go : (b : Bool) → r ≡ b → r ≡ acceptable m all (chains n)
        go false e = let t = a.missing e in e ∙ not_once t.0 t.1 (λ q. omega (arith, same t.0 t.1, t.2))
        go true e =
            e
            ∙ sym
            (accepted_is n
            ∙ ap₂ (λ (x y : Bool). x && y)
            (each_all (λ (y : ℕ). eqb (listings n y) 1) (upto (length counts)) 0
            (λ i b.
            let c : i < length counts = omega (arith, upto_length (length counts)) in
            ap (λ (z : ℕ). eqb (listings n z) 1) (upto_at (length counts) i c)
            ∙ eq-eqb (listings n i) 1 (omega (arith, same i c, a.every e i c))))
            (sym j.fit ∙ all_end fitting (upto n) k (omega (arith, upto_length n))))

  -- ---- one chain

  module _ (k : ℕ) (seen seen' : List Bool) where
    -- a line was met again
    pub judged_twice : ((y : ℕ) × (y < most_lines) × (1 < mark seen y + count y (listed k))) → ChainJudged m w coordinates counts groups kinds merged table listing k seen seen' false
    judged_twice t =
        record {
          added = λ e. absurd (true≢false (sym e));
          fitting = λ e. absurd (true≢false (sym e));
          wrong = λ e. inl t;
        }

    pub judged_fit : (r : Bool) → ((y : ℕ) → y < most_lines → mark seen' y ≡ mark seen y + count y (listed k)) → r ≡ fitting k → ChainJudged m w coordinates counts groups kinds merged table listing k seen seen' r
    judged_fit r a f =
        record {
          added = λ e. a;
          fitting = λ e. sym f ∙ e;
          wrong = λ e. inr (sym f ∙ e);
        }
