-- One more end in the workspace.
use Prim.Native.Nat.{ℕ, ◌+◌, ◌-◌, ◌*◌, ◌≤◌, ◌<◌}
use mathlib.Core.Path.{◌≡◌, sym, ap, ◌∙◌, subst}
use mathlib.Core.Logic.{◌≢◌}
use mathlib.Core.List.{List, ◌++◌}
use native.Mathlib.Omega.{arith}
use lib.ListN.{length, get_or, set, drop, replicate, length-replicate, get_or-replicate, get_or-append}
use lib.Seq.{get_or-set_same, get_or-set_other, lt-length-set, get_or-append-add, get_or-drop}
use Rattle.rules.specs.Calls.{cleared}
use Rattle.chain_grouping.specs.Group.{Words, words, words_at, words_of, bucket_of, Grouped, GroupedIn, GroupingRoom, EndPlaced}
use Rattle.chain_grouping.proofs.Steps.{append_step, lead_step, grouped_none}
use Rattle.chain_grouping.specs.Map.{key_block, key_size, last_block, next_block}

-- ---- four stores

abbrev pub four : List ℕ → ℕ → ℕ → ℕ → ℕ → ℕ → ℕ → ℕ → ℕ → List ℕ
four w a x b y c z d v = set (set (set (set w a x) b y) c z) d v

module _ (w : List ℕ) (a x b y c z d v : ℕ) where
  pub four_other : (j : ℕ) → j ≢ a → j ≢ b → j ≢ c → j ≢ d → get_or (four w a x b y c z d v) j 0 ≡ get_or w j 0
  four_other j p q r s =
      get_or-set_other (set (set (set w a x) b y) c z) d j v 0 s
      ∙ get_or-set_other (set (set w a x) b y) c j z 0 r
      ∙ get_or-set_other (set w a x) b j y 0 q
      ∙ get_or-set_other w a j x 0 p

  pub four_a : a < length w → a ≢ b → a ≢ c → a ≢ d → get_or (four w a x b y c z d v) a 0 ≡ x
  four_a h q r s =
      get_or-set_other (set (set (set w a x) b y) c z) d a v 0 s
      ∙ get_or-set_other (set (set w a x) b y) c a z 0 r
      ∙ get_or-set_other (set w a x) b a y 0 q
      ∙ get_or-set_same w a x 0 h

  pub four_b : b < length w → b ≢ c → b ≢ d → get_or (four w a x b y c z d v) b 0 ≡ y
  four_b h r s =
      get_or-set_other (set (set (set w a x) b y) c z) d b v 0 s
      ∙ get_or-set_other (set (set w a x) b y) c b z 0 r
      ∙ get_or-set_same (set w a x) b y 0 (lt-length-set w a x h)

  pub four_c : c < length w → c ≢ d → get_or (four w a x b y c z d v) c 0 ≡ z
  four_c h s =
      get_or-set_other (set (set (set w a x) b y) c z) d c v 0 s
      ∙ get_or-set_same (set (set w a x) b y) c z 0 (lt-length-set (set w a x) b y (lt-length-set w a x h))

  pub four_d : d < length w → get_or (four w a x b y c z d v) d 0 ≡ v
  four_d h =
      get_or-set_same (set (set (set w a x) b y) c z) d v 0 (lt-length-set (set (set w a x) b y) c z (lt-length-set (set w a x) b y (lt-length-set w a x h)))

-- ---- the two steps

module _ (w : List ℕ) (m e : ℕ) (R : GroupingRoom w m) (he : e < m) (G : GroupedIn w w m e) where
  -- the last end of a leader
  pub last_below : (f : ℕ) → f < e → f ≤ get_or w (m * last_block + f) 0 → get_or w (m * last_block + f) 0 < e
  last_below f h l = (G.last_in f h l).0

  module _ (f : ℕ) (hf : f < e) (lf : f ≤ get_or w (m * last_block + f) 0) (same : words_of w m f ≡ words_of w m e) where
    abbrev appended : List ℕ
    appended = four w (m * next_block + get_or w (m * last_block + f) 0) e (m * next_block + e) 0 (m * last_block + f) e (m * last_block + e) f

    beside : (j : ℕ) → j ≢ m * next_block + get_or w (m * last_block + f) 0 → j ≢ m * next_block + e → j ≢ m * last_block + f → j ≢ m * last_block + e → get_or appended j 0 ≡ get_or w j 0
    beside = four_other w (m * next_block + get_or w (m * last_block + f) 0) e (m * next_block + e) 0 (m * last_block + f) e (m * last_block + e) f

    pub append_placed : EndPlaced appended w m (e + 1)
    append_placed =
        let t : get_or w (m * last_block + f) 0 < e = last_below f hf lf in
        let fit = R.fits in
        record {
          grouped =
              append_step G f hf lf same
              (λ y. get_or appended y 0)
              (λ x. get_or appended (m + x) 0)
              (λ x. get_or appended (m * next_block + x) 0)
              (λ x. get_or appended (m * last_block + x) 0)
              (λ y h. beside y (λ q. omega arith) (λ q. omega arith) (λ q. omega arith) (λ q. omega arith))
              (λ x h. beside (m + x) (λ q. omega arith) (λ q. omega arith) (λ q. omega arith) (λ q. omega arith))
              (four_a w (m * next_block + get_or w (m * last_block + f) 0) e (m * next_block + e) 0 (m * last_block + f) e (m * last_block + e) f (omega arith) (λ q. omega arith) (λ q. omega arith) (λ q. omega arith))
              (four_b w (m * next_block + get_or w (m * last_block + f) 0) e (m * next_block + e) 0 (m * last_block + f) e (m * last_block + e) f (omega arith) (λ q. omega arith) (λ q. omega arith))
              (λ x h d. beside (m * next_block + x) (λ q. d (omega arith)) (λ q. omega arith) (λ q. omega arith) (λ q. omega arith))
              (four_c w (m * next_block + get_or w (m * last_block + f) 0) e (m * next_block + e) 0 (m * last_block + f) e (m * last_block + e) f (omega arith) (λ q. omega arith))
              (four_d w (m * next_block + get_or w (m * last_block + f) 0) e (m * next_block + e) 0 (m * last_block + f) e (m * last_block + e) f (omega arith))
              (λ x h d. beside (m * last_block + x) (λ q. omega arith) (λ q. omega arith) (λ q. d (omega arith)) (λ q. omega arith));
          kept = λ j h. beside j (λ q. omega arith) (λ q. omega arith) (λ q. omega arith) (λ q. omega arith);
        }

  module _ (b : ℕ) (hb : b < m) (at : b ≡ bucket_of m (words_of w m e)) (fresh : (f : ℕ) → f < e → f ≤ get_or w (m * last_block + f) 0 → words_of w m f ≡ words_of w m e → ⊥) where
    abbrev led : List ℕ
    led = four w (m + e) (get_or w b 0) b (e + 1) (m * next_block + e) 0 (m * last_block + e) e

    aside : (j : ℕ) → j ≢ m + e → j ≢ b → j ≢ m * next_block + e → j ≢ m * last_block + e → get_or led j 0 ≡ get_or w j 0
    aside = four_other w (m + e) (get_or w b 0) b (e + 1) (m * next_block + e) 0 (m * last_block + e) e

    pub lead_placed : EndPlaced led w m (e + 1)
    lead_placed =
        let fit = R.fits in
        record {
          grouped =
              lead_step G fresh b hb at
              (λ y. get_or led y 0)
              (λ x. get_or led (m + x) 0)
              (λ x. get_or led (m * next_block + x) 0)
              (λ x. get_or led (m * last_block + x) 0)
              (four_b w (m + e) (get_or w b 0) b (e + 1) (m * next_block + e) 0 (m * last_block + e) e (omega arith) (λ q. omega arith) (λ q. omega arith))
              (λ y h d. aside y (λ q. omega arith) d (λ q. omega arith) (λ q. omega arith))
              (four_a w (m + e) (get_or w b 0) b (e + 1) (m * next_block + e) 0 (m * last_block + e) e (omega arith) (λ q. omega arith) (λ q. omega arith) (λ q. omega arith))
              (λ x h. aside (m + x) (λ q. omega arith) (λ q. omega arith) (λ q. omega arith) (λ q. omega arith))
              (four_c w (m + e) (get_or w b 0) b (e + 1) (m * next_block + e) 0 (m * last_block + e) e (omega arith) (λ q. omega arith))
              (λ x h. aside (m * next_block + x) (λ q. omega arith) (λ q. omega arith) (λ q. omega arith) (λ q. omega arith))
              (four_d w (m + e) (get_or w b 0) b (e + 1) (m * next_block + e) 0 (m * last_block + e) e (omega arith))
              (λ x h. aside (m * last_block + x) (λ q. omega arith) (λ q. omega arith) (λ q. omega arith) (λ q. omega arith));
          kept = λ j h. aside j (λ q. omega arith) (λ q. omega arith) (λ q. omega arith) (λ q. omega arith);
        }

-- ---- all ends, one after the other

pub keys_kept : (w' w : List ℕ) (m : ℕ) → ((j : ℕ) → m * key_block ≤ j → get_or w' j 0 ≡ get_or w j 0) → words_of w' m ≡ words_of w m
unfolding words_at
keys_kept w' w m h = λ i e.
    words (h (m * key_block + e * key_size) (omega arith) i) (h (m * key_block + e * key_size + 1) (omega arith) i) (h (m * key_block + e * key_size + 2) (omega arith) i)

pub cleared_zero : (w' w : List ℕ) (m : ℕ) → w' ≡ cleared m w → (j : ℕ) → j < m → get_or w' j 0 ≡ 0
unfolding cleared
cleared_zero w' w m e j h =
    ap (λ (l : List ℕ). get_or l j 0) e
    ∙ get_or-append (replicate m 0) (drop m w) 0 j (rw (length-replicate {A = ℕ} m 0) h)
    ∙ get_or-replicate m j 0 0 h

pub cleared_kept : (w' w : List ℕ) (m : ℕ) → w' ≡ cleared m w → (j : ℕ) → m ≤ j → get_or w' j 0 ≡ get_or w j 0
unfolding cleared
cleared_kept w' w m e j h =
    let p : m + (j - m) ≡ j = omega arith in
    ap (λ (l : List ℕ). get_or l j 0) e
    ∙ ap (λ (i : ℕ). get_or (replicate m 0 ++ drop m w) i 0) (sym p ∙ ap (λ (i : ℕ). i + (j - m)) (sym (length-replicate {A = ℕ} m 0)))
    ∙ get_or-append-add (replicate m 0) (drop m w) (j - m) 0
    ∙ get_or-drop m w (j - m) 0
    ∙ ap (λ (i : ℕ). get_or w i 0) p

pub placed_start : (w' w : List ℕ) (m : ℕ) → ((j : ℕ) → j < m → get_or w' j 0 ≡ 0) → ((j : ℕ) → m ≤ j → get_or w' j 0 ≡ get_or w j 0) → EndPlaced w' w m 0
placed_start w' w m z h =
    record {
      grouped = grouped_none Words m (bucket_of m) (words_of w m) (λ b. get_or w' b 0) (λ e. get_or w' (m + e) 0) (λ e. get_or w' (m * next_block + e) 0) (λ e. get_or w' (m * last_block + e) 0) z;
      kept = λ j l. h j (omega arith);
    }

pub placed_own : {w' w : List ℕ} {m i : ℕ} → EndPlaced w' w m i → GroupedIn w' w' m i
placed_own {w'} {w} {m} {i} P =
    subst (λ (f : ℕ → Words). Grouped Words m (bucket_of m) f i (λ b. get_or w' b 0) (λ e. get_or w' (m + e) 0) (λ e. get_or w' (m * next_block + e) 0) (λ e. get_or w' (m * last_block + e) 0))
    (sym (keys_kept w' w m P.kept)) P.grouped

pub placed_then : {w'' w' w : List ℕ} {m i j : ℕ} → EndPlaced w' w m i → EndPlaced w'' w' m j → EndPlaced w'' w m j
placed_then {w''} {w'} {w} {m} {i} {j} P S =
    record {
      grouped =
          subst (λ (f : ℕ → Words). Grouped Words m (bucket_of m) f j (λ b. get_or w'' b 0) (λ e. get_or w'' (m + e) 0) (λ e. get_or w'' (m * next_block + e) 0) (λ e. get_or w'' (m * last_block + e) 0))
          (keys_kept w' w m P.kept) S.grouped;
      kept = λ x h. S.kept x h ∙ P.kept x h;
    }
