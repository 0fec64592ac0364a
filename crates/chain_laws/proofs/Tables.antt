-- Tables: a table of zeros that is filled node by node, with the pairs that each node joins, is the table of the partners.
-- It is true because each end stands in one node, and there at most in one pair.
use Prim.Native.Nat.{ℕ, zero, suc, ◌+◌, ◌*◌, ◌≤◌, ◌<◌, zero-le}
use mathlib.Core.Path.{◌≡◌, refl, sym, ap, ◌∙◌}
use mathlib.Core.Logic.{◌≢◌}
use mathlib.Core.Bool.{Bool, true, false}
use mathlib.Core.List.{List, [], ◌∷◌, ◌++◌, map, flat_map, flatten}
use mathlib.Core.Option.{Option, none, some}
use native.Mathlib.Omega.{arith}
use native.Mathlib.Nat.{zero-add}
use native.Mathlib.Decide.{ℕ_discrete}
use lib.Dec.{ltb}
use lib.ListN.{length, get_or, set, length-set, length-map, get_or-eq_default}
use lib.Seq.{get_or-set_same, get_or-set_other, ext_get_or}
use borrow.Author.Tests.{ltb-true, ltb-false}
use Rattle.rules.specs.Lists.{count, from, upto}
use Rattle.rules.specs.Chaining.{Piece, Rule, mate, node, joined, partner}
use Rattle.rules.specs.Refusals.{most_lines}
use Rattle.chain_laws.specs.Joins.{Joins}
use Rattle.chain_laws.specs.Table.{encode, decode, table_of, from_table, Table, put, fill}
use Rattle.chain_laws.proofs.Counts.{upto_length, Each, nil, cons, one_same, zero_of, count_append}
use Rattle.chain_laws.proofs.Ends.{some_same}
use Rattle.chain_laws.proofs.Mates.{names, names_append, mate_first, mate_second, mate_later, mate_out, mate_left, mate_right, none_out}
use Rattle.chain_laws.proofs.Selected.{names_in}
use Rattle.chain_laws.proofs.Partners.{joined_good, joined_once, partner_joins, partner_none}

-- ---- the words of a table

pub decode_encode : (o : Option ℕ) → decode (encode o) ≡ o
unfolding decode encode
decode_encode none = refl
decode_encode (some f) = refl

decode_zero : decode 0 ≡ none
unfolding decode
decode_zero = refl

encode_none : encode none ≡ 0
unfolding encode
encode_none = refl

encode_some : {f : ℕ} → encode (some f) ≡ suc f
unfolding encode
encode_some = refl

from_at : {A : Type 0} (g : ℕ → A) (k n e : ℕ) (d : A) → e < n → get_or (map g (from k n)) e d ≡ g (k + e)
unfolding from
from_at g k zero e d h = absurd (omega arith)
from_at g k (suc n) zero d h = ap g (omega arith)
from_at g k (suc n) (suc e) d h = from_at g (suc k) n e d (omega arith) ∙ ap g (omega arith)

pub table_length : (p : ℕ → Option ℕ) (m : ℕ) → length (table_of p m) ≡ m
unfolding table_of upto
table_length p m = length-map (upto m) (λ e. encode (p e)) ∙ upto_length m

pub table_at : (p : ℕ → Option ℕ) (m e : ℕ) → e < m → get_or (table_of p m) e 0 ≡ encode (p e)
unfolding table_of upto
table_at p m e h = from_at (λ e. encode (p e)) 0 m e 0 h ∙ ap (λ (i : ℕ). encode (p i)) (zero-add e)

-- ---- the joins of several nodes

module _ (rule : Rule) (ps : List Piece) where
  -- lists, each the node of every end in it
  abbrev pub Nodes : List (List ℕ) → Type 0
  Nodes rs = Each (λ r. (e : ℕ) → 0 < count e r → node rule ps e ≡ r) rs

  outside : (e : ℕ) (r : List ℕ) → count e r ≡ 0 → count e (names (joined rule ps r)) ≡ 0
  outside e r h = zero_of (count e (names (joined rule ps r))) λ i. omega (arith, names_in r (joined rule ps r) (joined_good rule ps r) e i)

  outside_all : (e : ℕ) (rs : List (List ℕ)) → count e (flatten rs) ≡ 0 → count e (names (flat_map (joined rule ps) rs)) ≡ 0
  unfolding flatten flat_map names count
  outside_all e [] h = refl
  outside_all e (r ∷ rs) h =
      ap (count e) (names_append (joined rule ps r) (flat_map (joined rule ps) rs))
      ∙ count_append e (names (joined rule ps r)) (names (flat_map (joined rule ps) rs))
      ∙ (omega (arith, outside e r (omega (arith, count_append e r (flatten rs))), outside_all e rs (omega (arith, count_append e r (flatten rs)))))

  -- the joins of all nodes, one after the other, have every end's partner
  pub nodes_mate : (rs : List (List ℕ)) → Nodes rs → ((x : ℕ) → count x (flatten rs) ≤ 1) → (e : ℕ) → 0 < count e (flatten rs)
      → mate e (flat_map (joined rule ps) rs) ≡ partner rule ps e
  unfolding flatten flat_map count partner
  nodes_mate rs nil once e h = absurd (omega arith)
  nodes_mate rs (cons {a = r} {l = rs'} k a) once e h =
      go (count e r) refl (λ i. nodes_mate rs' a (λ x. omega (arith, once x, count_append x r (flatten rs'))) e i)
    where
      go : (m : ℕ) → count e r ≡ m
          → (0 < count e (flatten rs') → mate e (flat_map (joined rule ps) rs') ≡ partner rule ps e)
          → mate e (joined rule ps r ++ flat_map (joined rule ps) rs') ≡ partner rule ps e
      go zero q ih =
          mate_right e (joined rule ps r) (flat_map (joined rule ps) rs') (outside e r q)
          ∙ ih (omega (arith, count_append e r (flatten rs')))
      go (suc m) q ih =
          mate_left e (joined rule ps r) (flat_map (joined rule ps) rs')
          (outside_all e rs' (omega (arith, once e, count_append e r (flatten rs'))))
          ∙ ap (λ (l : List ℕ). mate e (joined rule ps l)) (sym (k e (omega arith)))

  -- no end stands twice among them
  nodes_once : (rs : List (List ℕ)) → ((x : ℕ) → count x (flatten rs) ≤ 1) → (x : ℕ) → count x (names (flat_map (joined rule ps) rs)) ≤ 1
  unfolding flatten flat_map names count
  nodes_once [] once x = zero-le
  nodes_once (r ∷ rs) once x =
      rw (names_append (joined rule ps r) (flat_map (joined rule ps) rs), count_append)
      (go (count x r) refl (nodes_once rs (λ y. omega (arith, once y, count_append y r (flatten rs))) x))
    where
      go : (m : ℕ) → count x r ≡ m → count x (names (flat_map (joined rule ps) rs)) ≤ 1
          → count x (names (joined rule ps r)) + count x (names (flat_map (joined rule ps) rs)) ≤ 1
      go zero q ih = omega (arith, outside x r q)
      go (suc m) q ih =
          omega (arith, joined_once rule ps r x, outside_all x rs (omega (arith, once x, count_append x r (flatten rs))))

-- ---- a table filled pair by pair

put_other : (t : List ℕ) (q : ℕ × ℕ) (e : ℕ) → e ≢ q.0 → e ≢ q.1 → get_or (put t q) e 0 ≡ get_or t e 0
unfolding put
put_other t q e a b = get_or-set_other (set t q.0 (suc q.1)) q.1 e (suc q.0) 0 b ∙ get_or-set_other t q.0 e (suc q.1) 0 a

put_first : (t : List ℕ) (q : ℕ × ℕ) → q.0 ≢ q.1 → q.0 < length t → get_or (put t q) q.0 0 ≡ suc q.1
unfolding put
put_first t q d h = get_or-set_other (set t q.0 (suc q.1)) q.1 q.0 (suc q.0) 0 d ∙ get_or-set_same t q.0 (suc q.1) 0 h

put_second : (t : List ℕ) (q : ℕ × ℕ) → q.1 < length t → get_or (put t q) q.1 0 ≡ suc q.0
unfolding put
put_second t q h = get_or-set_same (set t q.0 (suc q.1)) q.1 (suc q.0) 0 (omega (arith, length-set t q.0 (suc q.1)))

pub put_length : (t : List ℕ) (q : ℕ × ℕ) → length (put t q) ≡ length t
unfolding put
put_length t q = length-set (set t q.0 (suc q.1)) q.1 (suc q.0) ∙ length-set t q.0 (suc q.1)

pub fill_length : (t : List ℕ) (l : List (ℕ × ℕ)) → length (fill t l) ≡ length t
unfolding fill
fill_length t [] = refl
fill_length t (q ∷ l) = fill_length (put t q) l ∙ put_length t q

pub fill_other : (t : List ℕ) (l : List (ℕ × ℕ)) (e : ℕ) → count e (names l) ≡ 0 → get_or (fill t l) e 0 ≡ get_or t e 0
unfolding fill names count
fill_other t [] e h = refl
fill_other t (q ∷ l) e h =
    fill_other (put t q) l e (omega arith)
    ∙ put_other t q e (λ d. omega (arith, one_same e q.0 d)) (λ d. omega (arith, one_same e q.1 d))

-- the table names each end's mate
pub fill_mate : (t : List ℕ) (l : List (ℕ × ℕ)) → ((x : ℕ) → count x (names l) ≤ 1) → ((x : ℕ) → 0 < count x (names l) → x < length t)
    → (e f : ℕ) → mate e l ≡ some f → get_or (fill t l) e 0 ≡ suc f
unfolding fill names count mate put
fill_mate t [] once below e f h = let z : ◌≡◌ {A = ℕ} 0 1 = cc in absurd (omega arith)
fill_mate t (q ∷ l) once below e f h =
    elim (ℕ_discrete e q.0) [
      | yes a ↦
          fill_other (put t q) l e (omega (arith, once e, one_same e q.0 a))
          ∙ ap (λ (i : ℕ). get_or (put t q) i 0) a
          ∙ put_first t q
          (λ d. omega (arith, once q.0, one_same q.0 q.0 refl, one_same q.0 q.1 d))
          (below q.0 (omega (arith, one_same q.0 q.0 refl)))
          ∙ ap suc (some_same (mate e (q ∷ l)) q.1 f (mate_first e q l a) h)
      | no a ↦ elim (ℕ_discrete e q.1) [
        | yes b ↦
            fill_other (put t q) l e (omega (arith, once e, one_same e q.1 b))
            ∙ ap (λ (i : ℕ). get_or (put t q) i 0) b
            ∙ put_second t q (below q.1 (omega (arith, one_same q.1 q.1 refl)))
            ∙ ap suc (some_same (mate e (q ∷ l)) q.0 f (mate_second e q l a b) h)
        | no b ↦
            fill_mate (put t q) l (λ x. omega (arith, once x)) (λ x i. omega (arith, put_length t q, below x (omega arith))) e f
            (sym (mate_later e q l a b) ∙ h)
      ]
    ]

-- ---- a table of zeros, filled from nodes that have every end once

module _ (rule : Rule) (ps : List Piece) (rs : List (List ℕ)) (runs : Nodes rule ps rs)
    (once : (x : ℕ) → count x (flatten rs) ≤ 1)
    (full : (x : ℕ) → x < 2 * length ps → 0 < count x (flatten rs))
    (below : (x : ℕ) → 0 < count x (flatten rs) → x < 2 * length ps)
    (t : List ℕ) (size : length t ≡ 2 * length ps) (zeros : (e : ℕ) → get_or t e 0 ≡ 0)
  where
    abbrev ms : List (ℕ × ℕ)
    ms = flat_map (joined rule ps) rs

    all_mate : (e : ℕ) → mate e ms ≡ partner rule ps e
    all_mate e = go (count e (flatten rs)) refl
      where
        go : (m : ℕ) → count e (flatten rs) ≡ m → mate e ms ≡ partner rule ps e
        go zero q =
            mate_out e ms (outside_all rule ps e rs q)
            ∙ sym (partner_none rule ps e (beyond (ltb e (2 * length ps)) refl))
          where
            beyond : (s : Bool) → ltb e (2 * length ps) ≡ s → 2 * length ps ≤ e
            beyond true s = absurd (omega (arith, full e (ltb-true e (2 * length ps) s)))
            beyond false s = ltb-false e (2 * length ps) s
        go (suc m) q = nodes_mate rule ps rs runs once e (omega arith)

    inside : (x : ℕ) → 0 < count x (names ms) → x < length t
    inside x i = go (count x (flatten rs)) refl
      where
        go : (m : ℕ) → count x (flatten rs) ≡ m → x < length t
        go zero q = absurd (omega (arith, outside_all rule ps x rs q))
        go (suc m) q = omega (arith, below x (omega arith))

    filled_at : (e : ℕ) → get_or (fill t ms) e 0 ≡ encode (partner rule ps e)
    unfolding encode
    filled_at e = go (partner rule ps e) refl
      where
        go : (o : Option ℕ) → partner rule ps e ≡ o → get_or (fill t ms) e 0 ≡ encode o
        go none q = fill_other t ms e (none_out e ms (all_mate e ∙ q)) ∙ zeros e
        go (some f) q = fill_mate t ms (nodes_once rule ps rs once) inside e f (all_mate e ∙ q)

    -- THE TABLE FILLED NODE BY NODE IS THAT OF THE PARTNERS
    pub filled_table : fill t ms ≡ table_of (partner rule ps) (2 * length ps)
    filled_table =
        ext_get_or 0 (fill t ms) (table_of (partner rule ps) (2 * length ps))
        (fill_length t ms ∙ size ∙ sym (table_length (partner rule ps) (2 * length ps)))
        (λ e h. filled_at e ∙ sym (table_at (partner rule ps) (2 * length ps) e (omega (arith, fill_length t ms))))

-- ---- the partners' table, read back

-- a table of partners that end where it ends names them
pub table_names : (p : ℕ → Option ℕ) (m : ℕ) → ((e : ℕ) → m ≤ e → p e ≡ none) → from_table (table_of p m) ≡ p
unfolding from_table
table_names p m h = λ i e. at e i
  where
    at : (e : ℕ) → decode (get_or (table_of p m) e 0) ≡ p e
    at e = go (ltb e m) refl
      where
        go : (s : Bool) → ltb e m ≡ s → decode (get_or (table_of p m) e 0) ≡ p e
        go true q = ap decode (table_at p m e (ltb-true e m q)) ∙ decode_encode (p e)
        go false q =
            ap decode (get_or-eq_default (table_of p m) 0 (omega (arith, table_length p m, ltb-false e m q)))
            ∙ decode_zero ∙ sym (h e (ltb-false e m q))

-- what walks ask of a table
pub table_fits : (p : ℕ → Option ℕ) (n : ℕ) → n ≤ most_lines → Joins n p → Table n (table_of p (2 * n))
table_fits p n h j = record { size = table_length p (2 * n); small = h; named = named }
  where
    encoded : (e : ℕ) (o : Option ℕ) → p e ≡ o → encode o ≤ 2 * n
    encoded e none q = rw encode_none (omega arith)
    encoded e (some f) q = rw encode_some (omega (arith, j.within e f q))

    named : (e : ℕ) → get_or (table_of p (2 * n)) e 0 ≤ 2 * n
    named e = go (ltb e (2 * n)) refl
      where
        go : (s : Bool) → ltb e (2 * n) ≡ s → get_or (table_of p (2 * n)) e 0 ≤ 2 * n
        go true q = rw (table_at p (2 * n) e (ltb-true e (2 * n) q)) (encoded e (p e) refl)
        go false q =
            rw (get_or-eq_default (table_of p (2 * n)) 0 {n = e} (omega (arith, table_length p (2 * n), ltb-false e (2 * n) q))) (omega arith)

module _ (rule : Rule) (ps : List Piece) where
  pub partners_table : from_table (table_of (partner rule ps) (2 * length ps)) ≡ partner rule ps
  partners_table = table_names (partner rule ps) (2 * length ps) (partner_none rule ps)

  pub partners_fit : length ps ≤ most_lines → Table (length ps) (table_of (partner rule ps) (2 * length ps))
  partners_fit h = table_fits (partner rule ps) (length ps) h (partner_joins rule ps)
