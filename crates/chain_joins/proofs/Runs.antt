-- The nodes of the leaders are runs: each end stands in exactly one. So a table filled from their joins is the partners' table, also where
-- junction pairing is on.
use Prim.Native.Nat.{ℕ, zero, suc, ◌+◌, ◌*◌, ◌≤◌, ◌<◌, zero-le}
use mathlib.Core.Path.{◌≡◌, refl, sym, ap, ◌∙◌}
use mathlib.Core.Bool.{Bool, true, false}
use mathlib.Core.List.{List, [], ◌∷◌, ◌++◌, map, flat_map, flatten, append-nil, map-append}
use native.Mathlib.Omega.{arith}
use native.Mathlib.Decide.{ℕ_discrete, dec_lt}
use lib.Dec.{eqb}
use lib.ListN.{length, get_or}
use borrow.Author.Tests.{leb-true, le-leb, lt-leb}
use Rattle.rules.specs.Lists.{one, count, keep, from, upto}
use Rattle.rules.specs.Plane.{same_key}
use Rattle.rules.specs.Chaining.{Piece, Rule, key_at, node, joined, partner}
use Rattle.chain_laws.specs.Table.{table_of, fill}
use Rattle.chain_laws.proofs.Counts.{Each, nil, cons, each_map, one_same, one_other, zero_of, count_append, upto_in, upto_out, upto_once}
use Rattle.chain_laws.proofs.Kept.{keep_yes, keep_no, keep_in, keep_all}
use Rattle.chain_laws.proofs.Tables.{Nodes as AreNodes, filled_table}
use Rattle.chain_grouping.specs.Group.{Words, same_words, words_of, Nodes}
use Rattle.chain_grouping.proofs.Keys.{same_true, same_refl, same_false}
use Rattle.chain_joins.specs.Node.{node_of, leading, runs_to, Leads}
use Rattle.chain_grouping.specs.Map.{last_block}

every : {A : Type 0} (P : A → Type 0) (l : List A) → ((a : A) → P a) → Each P l
every P [] h = nil
every P (a ∷ l) h = cons (h a) (every P l h)

keep_le : (t : ℕ → Bool) (x : ℕ) (l : List ℕ) → count x (keep t l) ≤ count x l
unfolding count keep
keep_le t x [] = zero-le
keep_le t x (a ∷ l) = go (t a) refl (keep_le t x l)
  where
    go : (s : Bool) → t a ≡ s → count x (keep t l) ≤ count x l → count x (keep t (a ∷ l)) ≤ count x (a ∷ l)
    go true e i = rw (keep_yes t a l e) (omega arith)
    go false e i = rw (keep_no t a l e) (omega arith)

-- two tests that agree below a bound
keep_same : (t u : ℕ → Bool) (n a : ℕ) → ((x : ℕ) → x < a + n → t x ≡ u x) → keep t (from a n) ≡ keep u (from a n)
unfolding keep from
keep_same t u zero a h = refl
keep_same t u (suc n) a h = go (t a) (u a) refl refl (keep_same t u n (suc a) (λ x i. h x (omega arith)))
  where
    go : (s r : Bool) → t a ≡ s → u a ≡ r → keep t (from (suc a) n) ≡ keep u (from (suc a) n) → keep t (a ∷ from (suc a) n) ≡ keep u (a ∷ from (suc a) n)
    go true true p q i = keep_yes t a (from (suc a) n) p ∙ ap {B = List ℕ} (λ l. a ∷ l) i ∙ sym (keep_yes u a (from (suc a) n) q)
    go false false p q i = keep_no t a (from (suc a) n) p ∙ i ∙ sym (keep_no u a (from (suc a) n) q)
    go true false p q i = let s = h a (omega arith) in let z : ◌≡◌ {A = ℕ} 0 1 = cc in absurd (omega arith)
    go false true p q i = let s = h a (omega arith) in let z : ◌≡◌ {A = ℕ} 0 1 = cc in absurd (omega arith)

-- ---- a list per element, all one behind the other

module _ (ν : ℕ → List ℕ) (x : ℕ) where
  flat_none : (fs : List ℕ) → ((f : ℕ) → count x (ν f) ≡ 0) → count x (flatten (map ν fs)) ≡ 0
  unfolding count flatten
  flat_none [] h = refl
  flat_none (f ∷ fs) h = omega (arith, count_append x (ν f) (flatten (map ν fs)), h f, flat_none fs h)

  flat_le : (g : ℕ) (fs : List ℕ) → ((f : ℕ) → 0 < count f fs → count x (ν f) ≤ one (eqb g f)) → count x (flatten (map ν fs)) ≤ count g fs
  unfolding count flatten
  flat_le g [] h = zero-le
  flat_le g (f ∷ fs) h =
      omega (
        arith,
        count_append x (ν f) (flatten (map ν fs)),
        h f (omega (arith, one_same f f refl)),
        flat_le g fs (λ a i. h a (omega arith)),
      )

  flat_ge : (g : ℕ) (fs : List ℕ) → 0 < count x (ν g) → count g fs ≤ count x (flatten (map ν fs))
  unfolding count flatten
  flat_ge g [] h = zero-le
  flat_ge g (f ∷ fs) h =
      elim (ℕ_discrete g f) [
        | yes q ↦ omega (arith, count_append x (ν f) (flatten (map ν fs)), one_same g f q, ap (λ (a : ℕ). count x (ν a)) q, flat_ge g fs h)
        | no q ↦ omega (arith, count_append x (ν f) (flatten (map ν fs)), one_other g f q, flat_ge g fs h)
      ]

-- ---- the runs of the leaders below i, for a loop over the ends

from_snoc : (a n : ℕ) → from a (suc n) ≡ from a n ++ ((a + n) ∷ [])
unfolding from
from_snoc a zero = let q : a + 0 ≡ a = omega arith in rw q
from_snoc a (suc n) = let q : suc a + n ≡ a + suc n = omega arith in ap {B = List ℕ} (λ l. a ∷ l) (from_snoc (suc a) n ∙ rw q)

keep_append : (t : ℕ → Bool) (l r : List ℕ) → keep t (l ++ r) ≡ keep t l ++ keep t r
unfolding keep
keep_append t [] r = refl
keep_append t (a ∷ l) r = go (t a) refl (keep_append t l r)
  where
    go : (s : Bool) → t a ≡ s → keep t (l ++ r) ≡ keep t l ++ keep t r → keep t (a ∷ (l ++ r)) ≡ keep t (a ∷ l) ++ keep t r
    go true e i = keep_yes t a (l ++ r) e ∙ ap {B = List ℕ} (λ x. a ∷ x) i ∙ sym (ap (λ (x : List ℕ). x ++ keep t r) (keep_yes t a l e))
    go false e i = keep_no t a (l ++ r) e ∙ i ∙ sym (ap (λ (x : List ℕ). x ++ keep t r) (keep_no t a l e))

upto_snoc : (i : ℕ) → upto (i + 1) ≡ upto i ++ (i ∷ [])
unfolding upto
upto_snoc i = let q : i + 1 ≡ suc i = omega arith in ap (from 0) q ∙ from_snoc 0 i ∙ ap (λ (x : ℕ). from 0 i ++ (x ∷ [])) (omega_zero i)
  where
    omega_zero : (i : ℕ) → 0 + i ≡ i
    omega_zero i = omega arith

-- a leader adds its node, and another end nothing
pub runs_on : (v : List ℕ) (m i : ℕ) → i ≤ get_or v (m * last_block + i) 0 → runs_to v m (i + 1) ≡ runs_to v m i ++ (node_of v m i ∷ [])
unfolding runs_to leading keep
runs_on v m i h =
    ap (map (node_of v m))
    (ap (keep (leading v m)) (upto_snoc i) ∙ keep_append (leading v m) (upto i) (i ∷ [])
    ∙ ap (λ (x : List ℕ). keep (leading v m) (upto i) ++ x) (keep_yes (leading v m) i [] (le-leb i (get_or v (m * last_block + i) 0) h)))
    ∙ map-append (node_of v m) (keep (leading v m) (upto i)) (i ∷ [])

pub runs_off : (v : List ℕ) (m i : ℕ) → get_or v (m * last_block + i) 0 < i → runs_to v m (i + 1) ≡ runs_to v m i
unfolding runs_to leading keep
runs_off v m i h =
    ap (map (node_of v m))
    (ap (keep (leading v m)) (upto_snoc i) ∙ keep_append (leading v m) (upto i) (i ∷ [])
    ∙ ap (λ (x : List ℕ). keep (leading v m) (upto i) ++ x) (keep_no (leading v m) i [] (lt-leb i (get_or v (m * last_block + i) 0) h))
    ∙ append-nil (keep (leading v m) (upto i)))

module _ (v : List ℕ) (m : ℕ) (N : Nodes v v m) where
  leader_in : (f : ℕ) → 0 < count f (keep (leading v m) (upto m)) → (f < m) × (f ≤ get_or v (m * last_block + f) 0)
  unfolding leading
  leader_in f h =
      let r = keep_in (leading v m) f (upto m) h in
      (upto_out m f r.1, leb-true f (get_or v (m * last_block + f) 0) r.0)

  in_leaders : (f : ℕ) → f < m → f ≤ get_or v (m * last_block + f) 0 → 0 < count f (keep (leading v m) (upto m))
  unfolding leading
  in_leaders f h l =
      omega (arith, upto_in m f h, keep_all (leading v m) f (upto m) (le-leb f (get_or v (m * last_block + f) 0) l))

  leaders_once : (f : ℕ) → count f (keep (leading v m) (upto m)) ≤ 1
  leaders_once f = omega (arith, keep_le (leading v m) f (upto m), upto_once m f)

  -- an end in a node
  in_node : (f x : ℕ) → 0 < count x (node_of v m f) → (same_words (words_of v m f) (words_of v m x) ≡ true) × (x < m)
  unfolding node_of
  in_node f x h = let r = keep_in (λ g. same_words (words_of v m f) (words_of v m g)) x (upto m) h in (r.0, upto_out m x r.1)

  node_in : (f x : ℕ) → x < m → same_words (words_of v m f) (words_of v m x) ≡ true → 0 < count x (node_of v m f)
  unfolding node_of
  node_in f x h q = omega (arith, upto_in m x h, keep_all (λ g. same_words (words_of v m f) (words_of v m g)) x (upto m) q)

  node_once : (f x : ℕ) → count x (node_of v m f) ≤ 1
  unfolding node_of
  node_once f x = omega (arith, keep_le (λ g. same_words (words_of v m f) (words_of v m g)) x (upto m), upto_once m x)

  -- two leaders have two keys
  apart : (f g : ℕ) → f < m → f ≤ get_or v (m * last_block + f) 0 → g < m → g ≤ get_or v (m * last_block + g) 0 → words_of v m f ≡ words_of v m g → f ≡ g
  apart f g hf lf hg lg q =
      elim (ℕ_discrete f g) [
        | yes r ↦ r
        | no r ↦ elim (dec_lt f g) [
          | yes s ↦ absurd (same_false (words_of v m g) (words_of v m f) (N.least g f hg lg s) (sym q))
          | no s ↦ absurd (same_false (words_of v m f) (words_of v m g) (N.least f g hf lf (omega arith)) q)
        ]
      ]

  leads_other : (e : ℕ) → e < m → get_or v (m * last_block + e) 0 < e → Leads v m e (get_or v (m * last_block + e) 0)
  leads_other e he h = let r = N.leader e he h in record { within = omega arith; leads = r.1; same = r.0 }

  leads_self : (e : ℕ) → e < m → e ≤ get_or v (m * last_block + e) 0 → Leads v m e e
  leads_self e he h = record { within = he; leads = h; same = same_refl (words_of v m e) }

  leader_of : (x : ℕ) → x < m → (g : ℕ) × Leads v m x g
  leader_of x h =
      elim (dec_lt (get_or v (m * last_block + x) 0) x) [
        | yes r ↦ (get_or v (m * last_block + x) 0, leads_other x h r)
        | no r ↦ (x, leads_self x h (omega arith))
      ]

  -- each end stands in exactly one run
  one_run : (x : ℕ) → x < m → (count x (flatten (runs_to v m m)) ≤ 1) × (0 < count x (flatten (runs_to v m m)))
  unfolding runs_to
  one_run x h =
      let p = leader_of x h in
      let g = p.0 in
      let L = p.1 in
      let most = flat_le (node_of v m) x g (keep (leading v m) (upto m)) (λ f i. only g L f (leader_in f i).0 (leader_in f i).1 (ℕ_discrete g f)) in
      let least = flat_ge (node_of v m) x g (keep (leading v m) (upto m)) (node_in g x h L.same) in
      (omega (arith, most, leaders_once g), omega (arith, least, in_leaders g L.within L.leads))
    where
      only : (g : ℕ) → Leads v m x g → (f : ℕ) → f < m → f ≤ get_or v (m * last_block + f) 0 → Dec (g ≡ f) → count x (node_of v m f) ≤ one (eqb g f)
      only g L f i l (yes q) = omega (arith, one_same g f q, node_once f x)
      only g L f i l (no q) =
          omega (
            arith,
            zero_of (count x (node_of v m f)) λ j.
                q (apart g f L.within L.leads i l
                (same_true (words_of v m g) (words_of v m x) L.same ∙ sym (same_true (words_of v m f) (words_of v m x) (in_node f x j).0))),
          )

  runs_below : (x : ℕ) → m ≤ x → count x (flatten (runs_to v m m)) ≡ 0
  unfolding runs_to
  runs_below x h =
      flat_none (node_of v m) x (keep (leading v m) (upto m)) (λ f. zero_of (count x (node_of v m f)) (λ j. omega (arith, (in_node f x j).1)))

  module _ (rule : Rule) (ps : List Piece) (size : m ≡ 2 * length ps)
      (keys : (e f : ℕ) → e < m → f < m → same_words (words_of v m e) (words_of v m f) ≡ same_key (key_at rule ps e) (key_at rule ps f)) where
    -- the node by the words of the workspace is the node by the keys of the pieces
    pub node_is : (e : ℕ) → e < m → node_of v m e ≡ node rule ps e
    unfolding node_of node upto
    node_is e h =
        keep_same (λ f. same_words (words_of v m e) (words_of v m f)) (λ f. same_key (key_at rule ps e) (key_at rule ps f)) m 0 (λ x i. keys e x h (omega arith))
        ∙ ap (λ (n : ℕ). keep (λ f. same_key (key_at rule ps e) (key_at rule ps f)) (from 0 n)) size

    runs_leaders : AreNodes rule ps (runs_to v m m)
    unfolding runs_to node_of
    runs_leaders =
        each_map (node_of v m) (λ r. (e : ℕ) → 0 < count e r → node rule ps e ≡ r) (keep (leading v m) (upto m))
        (every (λ f. (e : ℕ) → 0 < count e (node_of v m f) → node rule ps e ≡ node_of v m f) (keep (leading v m) (upto m)) at)
      where
        at : (f e : ℕ) → 0 < count e (node_of v m f) → node rule ps e ≡ node_of v m f
        at f e h =
            let r = in_node f e h in
            sym (node_is e r.1)
            ∙ ap (λ (q : Words). keep (λ g. same_words q (words_of v m g)) (upto m)) (sym (same_true (words_of v m f) (words_of v m e) r.0))

    -- A TABLE OF ZEROS, FILLED NODE BY NODE, IS THAT OF THE PARTNERS
    pub runs_table : (t : List ℕ) → length t ≡ 2 * length ps → ((e : ℕ) → get_or t e 0 ≡ 0)
        → fill t (flat_map (joined rule ps) (runs_to v m m)) ≡ table_of (partner rule ps) (2 * length ps)
    runs_table t n z =
        filled_table rule ps (runs_to v m m) runs_leaders
        (λ x. elim (dec_lt x m) [ yes h ↦ (one_run x h).0 | no h ↦ omega (arith, runs_below x (omega arith)) ])
        (λ x h. (one_run x (omega arith)).1)
        (λ x h. elim (dec_lt x m) [ yes i ↦ omega arith | no i ↦ absurd (omega (arith, runs_below x (omega arith))) ])
        t n z
