-- The calls with an offset: one call has one number at the door and leaves each lent slice in one way.
use Prim.Native.Nat.{ℕ}
use mathlib.Core.Path.{◌≡◌, sym, subst, ◌∙◌}
use mathlib.Core.Bool.{Bool}
use mathlib.Core.List.{List}
use lib.Ieee.{Float, binary64, to_bits}
use lib.ListN.{length}
use Rattle.rules.specs.Answers.{Answer}
use Rattle.rules.specs.Layout.{Lines}
use Rattle.rules.specs.Refusals.{Rooms, LentEnds}
use Rattle.rules.specs.Calls.{number_of, Numbered, built_of, pairs_of}
use Rattle.rules.specs.Offset.{offset_limit, offset_refusal_of, offset_asked, settings_for, build_offset_refusal_of, pair_offset_refusal_of, BuiltOffset, PairedOffset}
use Rattle.offset_calls.proofs.Calls.{built_offset_once, paired_offset_once}
use Rattle.door.proofs.Answers.{numbered_once}

-- ---- one number

pub one_limit : (g : ℕ) {r r' : ℕ} → r ≡ number_of (offset_asked g) → r' ≡ number_of (offset_asked g) → r ≡ r'
one_limit g a b = a ∙ sym b

pub one_building_offset : {t : ℕ} {l : Lines} {tolerance ox oy : Float} {switch g : ℕ} {o : Rooms} {r r' : ℕ} {o₁ o₂ : Rooms}
    → Numbered (λ a. BuiltOffset t l tolerance ox oy switch g o a o₁) r → Numbered (λ a. BuiltOffset t l tolerance ox oy switch g o a o₂) r' → (r ≡ r') × (o₁ ≡ o₂)
one_building_offset a b = (numbered_once (λ x y p q. (built_offset_once p q).0) a b, (built_offset_once a.determined b.determined).1)

pub one_pairing_offset : (alone : Bool) (g : ℕ) (i : LentEnds) (r r' : ℕ) (pairs pairs' workspace workspace' : List ℕ)
    → Numbered (λ a. PairedOffset alone g i a pairs workspace) r
    → Numbered (λ a. PairedOffset alone g i a pairs' workspace') r'
    → (r ≡ r') × (pairs ≡ pairs') × (workspace ≡ workspace')
one_pairing_offset alone g i r r' pairs pairs' workspace workspace' a b =
    let same = paired_offset_once alone g i _ _ pairs pairs' workspace workspace' a.determined b.determined in
    (numbered_once (λ x y p q. (paired_offset_once alone g i x y pairs pairs' workspace workspace' p q).0) a b, same.1, same.2)
