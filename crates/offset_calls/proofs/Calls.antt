-- From what the calls with a limit determine to what those with an offset do; back again up to 1,000, where they are the same call; and one record, one
-- answer.
use Prim.Native.Nat.{ℕ, ◌*◌, ◌≤◌}
use mathlib.Core.Path.{◌≡◌, refl, sym, ap, ◌∙◌, subst}
use mathlib.Core.Bool.{Bool}
use mathlib.Core.List.{List}
use lib.ListN.{length}
use lib.Ieee.{Float}
use Rattle.rules.specs.Answers.{Answer}
use Rattle.rules.specs.declared.Settings.{Settings}
use Rattle.rules.specs.Layout.{Lines, listed}
use Rattle.rules.specs.Refusals.{Rooms, LentEnds, lent_ends, refusal_of, pair_refusal_of, end_room}
use Rattle.rules.specs.Calls.{unless, answer_of, written, cleared, built_of, filled, Built, pairs_of, Paired}
use Rattle.rules.specs.Offset.{offset_limit, limit_for, settings_for, ends_for, build_offset_refusal_of, pair_offset_refusal_of, BuiltOffset, PairedOffset}
use Rattle.float_offset.proofs.Limits.{limit_is}
use Rattle.offset_calls.specs.Renumbered.{renumber, renumbered}
use Rattle.offset_calls.proofs.Numbers.{as_before, answers}
use Rattle.offset_calls.proofs.Ladders.{build_renumbered, pair_renumbered, build_same, pair_same}

-- ---- building

-- a call with this limit
abbrev settings : Float → Float → Float → ℕ → Float → Settings
settings tolerance ox oy switch limit = record { tolerance = tolerance; origin_x = ox; origin_y = oy; switch = switch; limit = limit }

module _ {t : ℕ} {l : Lines} {tolerance ox oy : Float} {switch g : ℕ} {o : Rooms} {r : Answer} {o' : Rooms} where
  by_limit : Built t l (settings_for tolerance ox oy switch g) o r o' → BuiltOffset t l tolerance ox oy switch g o (renumbered switch r) o'
  by_limit b =
      let s = settings_for tolerance ox oy switch g in
      let e : renumber switch (refusal_of t l s o) ≡ build_offset_refusal_of t l ox oy switch g o = sym (build_renumbered switch g t l tolerance ox oy o) in
      record {
        answer =
            ap (renumbered switch) b.answer
            ∙ sym (answers switch (refusal_of t l s o) (built_of t l s).number)
            ∙ ap (λ (k : ℕ). answer_of k (built_of t l s).number) e;
        rooms = b.rooms ∙ sym (as_before switch (refusal_of t l s o) o (filled t l s o)) ∙ ap (λ (k : ℕ). unless k o (filled t l s o)) e;
      }

  -- the call with the offset's limit, and its answer renumbered
  pub built : {limit : Float} {a : Answer} → limit ≡ limit_for g → a ≡ renumbered switch r → Built t l (settings tolerance ox oy switch limit) o r o'
      → BuiltOffset t l tolerance ox oy switch g o a o'
  built e f b =
      subst (λ (a : Answer). BuiltOffset t l tolerance ox oy switch g o a o') (sym f)
      (by_limit (subst (λ (limit : Float). Built t l (settings tolerance ox oy switch limit) o r o') e b))

  -- up to 1,000 it is the call with the offset's limit
  pub built_limit : g ≤ 1000 → BuiltOffset t l tolerance ox oy switch g o r o' → Built t l (settings tolerance ox oy switch (offset_limit g)) o r o'
  built_limit h b =
      let s = settings_for tolerance ox oy switch g in
      let e : build_offset_refusal_of t l ox oy switch g o ≡ refusal_of t l s o = build_same g h t l tolerance ox oy switch o in
      let there : Built t l s o r o' = record {
        answer = b.answer ∙ ap (λ (k : ℕ). answer_of k (built_of t l s).number) e;
        rooms = b.rooms ∙ ap (λ (k : ℕ). unless k o (filled t l s o)) e;
      } in
      subst (λ (limit : Float). Built t l (settings tolerance ox oy switch limit) o r o') (limit_is g h) there

pub built_offset_once : {t : ℕ} {l : Lines} {tolerance ox oy : Float} {switch g : ℕ} {o : Rooms} {r r' : Answer} {o₁ o₂ : Rooms}
    → BuiltOffset t l tolerance ox oy switch g o r o₁ → BuiltOffset t l tolerance ox oy switch g o r' o₂ → (r ≡ r') × (o₁ ≡ o₂)
built_offset_once a b = (a.answer ∙ sym b.answer, a.rooms ∙ sym b.rooms)

-- ---- pairing

module _ (alone : Bool) (g : ℕ) (i : LentEnds) {r : Answer} {pairs workspace : List ℕ} (limited : i.limit ≡ limit_for g) where
  by_limited : Paired alone i r pairs workspace → PairedOffset alone g i (renumbered 1 r) pairs workspace
  by_limited p =
      let e : renumber 1 (pair_refusal_of alone i) ≡ pair_offset_refusal_of alone g i = sym (pair_renumbered g alone i limited) in
      let out = written (listed (pairs_of i)) i.pairs in
      let zeros = cleared (length i.pieces * end_room) i.workspace in
      record {
        answer =
            ap (renumbered 1) p.answer
            ∙ sym (answers 1 (pair_refusal_of alone i) (length (pairs_of i)))
            ∙ ap (λ (k : ℕ). answer_of k (length (pairs_of i))) e;
        pairs = p.pairs ∙ sym (as_before 1 (pair_refusal_of alone i) i.pairs out) ∙ ap (λ (k : ℕ). unless k i.pairs out) e;
        workspace = p.workspace ∙ sym (as_before 1 (pair_refusal_of alone i) i.workspace zeros) ∙ ap (λ (k : ℕ). unless k i.workspace zeros) e;
      }

  pub paired_limited : pair_offset_refusal_of alone g i ≡ pair_refusal_of alone i → PairedOffset alone g i r pairs workspace → Paired alone i r pairs workspace
  paired_limited e p = record {
    answer = p.answer ∙ ap (λ (k : ℕ). answer_of k (length (pairs_of i))) e;
    pairs = p.pairs ∙ ap (λ (k : ℕ). unless k i.pairs (written (listed (pairs_of i)) i.pairs)) e;
    workspace = p.workspace ∙ ap (λ (k : ℕ). unless k i.workspace (cleared (length i.pieces * end_room) i.workspace)) e;
  }

module _ {alone : Bool} {present : List ℕ} {directions : List Float} {pieces : List ℕ} {g : ℕ} {pairs workspace : List ℕ} {r : Answer} {pairs' workspace' : List ℕ} where
  pub paired : {limit : Float} {a : Answer} → limit ≡ limit_for g → a ≡ renumbered 1 r
      → Paired alone (lent_ends present directions pieces limit pairs workspace) r pairs' workspace'
      → PairedOffset alone g (ends_for present directions pieces g pairs workspace) a pairs' workspace'
  paired e f p =
      let i = ends_for present directions pieces g pairs workspace in
      subst (λ (a : Answer). PairedOffset alone g i a pairs' workspace') (sym f)
      (by_limited alone g i refl (subst (λ (limit : Float). Paired alone (lent_ends present directions pieces limit pairs workspace) r pairs' workspace') e p))

  pub paired_limit : g ≤ 1000 → PairedOffset alone g (ends_for present directions pieces g pairs workspace) r pairs' workspace'
      → Paired alone (lent_ends present directions pieces (offset_limit g) pairs workspace) r pairs' workspace'
  paired_limit h p =
      let i = ends_for present directions pieces g pairs workspace in
      subst (λ (limit : Float). Paired alone (lent_ends present directions pieces limit pairs workspace) r pairs' workspace') (limit_is g h)
      (paired_limited alone g i refl (pair_same g h alone i refl) p)

pub paired_offset_once : (alone : Bool) (g : ℕ) (i : LentEnds) (r r' : Answer) (pairs pairs' workspace workspace' : List ℕ)
    → PairedOffset alone g i r pairs workspace → PairedOffset alone g i r' pairs' workspace' → (r ≡ r') × (pairs ≡ pairs') × (workspace ≡ workspace')
paired_offset_once alone g i r r' pairs pairs' workspace workspace' a b =
    (a.answer ∙ sym b.answer, a.pairs ∙ sym b.pairs, a.workspace ∙ sym b.workspace)
