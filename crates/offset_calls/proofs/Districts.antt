-- 02 [10] of the calls with an offset: an accepted one is the call with the offset's limit, so that a district's chains are the same in two of them, whatever
-- the other district brings.
use Prim.Native.Nat.{ℕ}
use mathlib.Core.Path.{◌≡◌, sym, ap, ◌∙◌}
use lib.Ieee.{Float}
use Rattle.rules.specs.Answers.{Accepted}
use Rattle.rules.specs.Types.{width_of}
use Rattle.rules.specs.Layout.{Lines, lines_in}
use Rattle.rules.specs.Refusals.{Rooms, refusal_of}
use Rattle.rules.specs.Calls.{unless, answer_of, built_of, filled, Built}
use Rattle.rules.specs.Offset.{settings_for, build_offset_refusal_of, BuiltOffset}
use Rattle.chain_districts.specs.Districts.{district_lines}
use Rattle.build_reading.specs.Reading.{read_all}
use Rattle.build_reading.proofs.Calls.{accepted}
use Rattle.build_districts.specs.Reading.{district_read}
use Rattle.build_districts.proofs.Calls.{calls_district}
use Rattle.offset_calls.proofs.Numbers.{accepted_before}
use Rattle.offset_calls.proofs.Ladders.{build_renumbered}

pub accepted_limit : {t : ℕ} {l : Lines} {tolerance ox oy : Float} {switch g : ℕ} {o o' : Rooms} {n : ℕ}
    → BuiltOffset t l tolerance ox oy switch g o (Accepted n) o' → Built t l (settings_for tolerance ox oy switch g) o (Accepted n) o'
accepted_limit {t} {l} {tolerance} {ox} {oy} {switch} {g} {o} {o'} {n} b =
    let s = settings_for tolerance ox oy switch g in
    let none : build_offset_refusal_of t l ox oy switch g o ≡ 0 =
    (accepted (build_offset_refusal_of t l ox oy switch g o) (built_of t l s).number n (sym b.answer)).0 in
    let same : build_offset_refusal_of t l ox oy switch g o ≡ refusal_of t l s o =
    none ∙ sym (accepted_before switch (refusal_of t l s o) (sym (build_renumbered switch g t l tolerance ox oy o) ∙ none)) in
    record {
      answer = b.answer ∙ ap (λ (k : ℕ). answer_of k (built_of t l s).number) same;
      rooms = b.rooms ∙ ap (λ (k : ℕ). unless k o (filled t l s o)) same;
    }

-- TWO ACCEPTED CALLS with one offset and the same settings, in which one district's lines are the same in the same order
pub offset_district : (d : ℕ) {t : ℕ} {l m : Lines} {tolerance ox oy : Float} {switch g : ℕ} {o o' u u' : Rooms} {n k : ℕ}
    → district_lines d (lines_in (width_of t) l) ≡ district_lines d (lines_in (width_of t) m)
    → BuiltOffset t l tolerance ox oy switch g o (Accepted n) o'
    → BuiltOffset t m tolerance ox oy switch g u (Accepted k) u'
    → district_read d l.groups (read_all t l.coordinates o' n) ≡ district_read d m.groups (read_all t m.coordinates u' k)
offset_district d same one two = calls_district d same (accepted_limit one) (accepted_limit two)
