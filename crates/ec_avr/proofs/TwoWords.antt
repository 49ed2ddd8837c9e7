-- Whether an instruction has two words shows in its first word.
use Rattle.std.proofs.Common.{◌≡◌, ℕ, ◌<◌, Bool, true, false, Option, Some, refl, sym}
use Rattle.std.proofs.lemmas.Bool.{and_parts, lt-ltb}
use Rattle.std.specs.Prelude.{nat_lt, IsTrue}
use Rattle.ec_isa.specs.declared.instructions.Instr.{Instr}
use Rattle.ec_isa.specs.declared.instructions.Instr.TheVariants.{Lds, Sts, Jmp, Call}
use Rattle.ec_isa.specs.Formats.{is_register}
use Rattle.ec_isa.specs.Reading.{instruction_at as decoded}
use Rattle.ec_isa.proofs.InstructionAt.{instruction_is}
use Rattle.ec_avr.specs.Effects.{has_two_words}

-- the table has these words with another second word too
with_other : (w0 a b : ℕ) → b < 65536 → (i : Option Instr) → decoded w0 a ≡ i → IsTrue (has_two_words i)
    → IsTrue (has_two_words (decoded w0 b))
with_other w0 a b small (Some (Lds d k)) e h =
    let d0 = (instruction_is (Lds d k) w0 a).0 e in
    let range = lt-ltb b 65536 small in
    let p = and_parts (is_register d) (nat_lt k 65536) d0.in_range in
    let same = (instruction_is (Lds d b) w0 b).1 (record { in_range = rw (p.0, range) refl; first = d0.first; second = refl }) in
    rw same refl
with_other w0 a b small (Some (Sts k r)) e h =
    let d0 = (instruction_is (Sts k r) w0 a).0 e in
    let range = lt-ltb b 65536 small in
    let p = and_parts (is_register r) (nat_lt k 65536) d0.in_range in
    let same = (instruction_is (Sts b r) w0 b).1 (record { in_range = rw (p.0, range) refl; first = d0.first; second = refl }) in
    rw same refl
with_other w0 a b small (Some (Jmp k)) e h =
    let d0 = (instruction_is (Jmp k) w0 a).0 e in
    let same = (instruction_is (Jmp b) w0 b).1 (record { in_range = lt-ltb b 65536 small; first = d0.first; second = refl }) in
    rw same refl
with_other w0 a b small (Some (Call k)) e h =
    let d0 = (instruction_is (Call k) w0 a).0 e in
    let same = (instruction_is (Call b) w0 b).1 (record { in_range = lt-ltb b 65536 small; first = d0.first; second = refl }) in
    rw same refl
with_other w0 a b small _ e h = cc

both : (x y : Bool) → (IsTrue x → IsTrue y) → (IsTrue y → IsTrue x) → x ≡ y
both true true f g = refl
both false false f g = refl
both true false f g = sym (f refl)
both false true f g = g refl

pub two_words_by_first : (w0 a b : ℕ) → a < 65536 → b < 65536 → has_two_words (decoded w0 a) ≡ has_two_words (decoded w0 b)
two_words_by_first w0 a b p q = both _ _ (with_other w0 a b q (decoded w0 a) refl) (with_other w0 b a p (decoded w0 b) refl)
