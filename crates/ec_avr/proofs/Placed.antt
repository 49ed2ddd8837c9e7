-- Instructions that stand in a flash, and where the program counter goes.
use Rattle.std.proofs.Common.{◌≡◌, ℕ, suc, ◌+◌, ◌*◌, ◌/◌, ◌%◌, ◌<◌, ◌≤◌, Bool, true, false, not, ◌&&◌, ◌||◌, Option, Some, None, List}
use Rattle.std.proofs.Common.{length, refl, ap, ◌∙◌, nat_lt, arith}
use Rattle.std.specs.Prelude.{IsTrue, if◌then◌else◌, slice_index, option_and_then}
use Rattle.std.proofs.lemmas.Bool.{lt-ltb}
use Rattle.ec_isa.specs.declared.instructions.Instr.{Instr}
use Rattle.ec_isa.specs.declared.instructions.Instr.TheVariants.{Lds, Sts, Jmp, Call}
use Rattle.ec_isa.specs.Table.{first_word, second_word, SecondIs}
use Rattle.ec_isa.proofs.InstructionAt.{instruction_is}
use Rattle.ec_avr.specs.declared.machine.FaultKind.TheVariants.{PcOut}
use Rattle.ec_avr.specs.State.{word_at, Keeps}
use Rattle.ec_avr.specs.Effects.{has_two_words, faulted}
use Rattle.ec_avr.specs.Machine.{step, is_whole, effect, instruction_at, port_at, load_address}
use Rattle.ec_avr.specs.Placed.{code_bytes, second_bytes}
use Rattle.ec_avr.specs.Laws.{IsWhatStands, StandsWhole, StepsByInstruction, NeedsByInstruction, StepKeeps, JumpsInside, RelativeForward}
use Rattle.ec_avr.specs.Laws.{RelativeBack}
use Rattle.ec_avr.proofs.Keeps.{keeps, unchanged}

-- ---- what stands at a word address

two_parts : (w x y : ℕ) → x ≡ w % 256 → y ≡ w / 256 → x + 256 * y ≡ w
two_parts w x y e f = omega arith

second_stands : (o : Option ℕ) (flash : List ℕ) (pc : ℕ)
    → ((k : ℕ) → k < length (second_bytes o) → slice_index flash (2 * pc + (2 + k)) ≡ slice_index (second_bytes o) k)
    → SecondIs o (slice_index flash (2 * (pc + 1)) + 256 * slice_index flash (2 * (pc + 1) + 1))
second_stands None flash pc h = tt
second_stands (Some w) flash pc h =
    let low : 2 * pc + (2 + 0) ≡ 2 * (pc + 1) = omega arith in
    let high : 2 * pc + (2 + 1) ≡ 2 * (pc + 1) + 1 = omega arith in
    two_parts w (slice_index flash (2 * (pc + 1))) (slice_index flash (2 * (pc + 1) + 1)) (rw low at (h 0 (omega arith)))
    (rw high at (h 1 (omega arith)))

pub is_what_stands : IsWhatStands
is_what_stands s i pc h =
    let flash = s.mem.flash in
    let none : 2 * pc + 0 ≡ 2 * pc = omega arith in
    (instruction_is i (word_at s pc) (word_at s (pc + 1))).1 (record {
      in_range = h.known;
      first = two_parts (first_word i) (slice_index flash (2 * pc)) (slice_index flash (2 * pc + 1)) (rw none at (h.bytes 0 (omega arith)))
          (h.bytes 1 (omega arith));
      second = second_stands (second_word i) flash pc (λ k l.
          let on : 2 + k ≡ suc (suc k) = omega arith in
          h.bytes (2 + k) (omega (arith, l)) ∙ ap (λ (n : ℕ). slice_index (code_bytes i) n) on);
    })

one : (size pc : ℕ) → 2 * pc + 2 ≤ size → IsTrue (nat_lt (2 * pc + 1) size && true)
one size pc h = let a = lt-ltb (2 * pc + 1) size (omega arith) in rw a refl

both : (size pc : ℕ) → 2 * pc + 4 ≤ size → IsTrue (nat_lt (2 * pc + 1) size && nat_lt (2 * (pc + 1) + 1) size)
both size pc h =
    let a = lt-ltb (2 * pc + 1) size (omega arith) in
    let b = lt-ltb (2 * (pc + 1) + 1) size (omega arith) in
    rw (a, b) refl

-- all words of an instruction that stands there lie in flash
words_within : (i : Instr) (size pc : ℕ) → 2 * pc + length (code_bytes i) ≤ size
    → IsTrue (nat_lt (2 * pc + 1) size && (not (has_two_words (Some i)) || nat_lt (2 * (pc + 1) + 1) size))
words_within (Lds d k) size pc h = both size pc h
words_within (Sts k r) size pc h = both size pc h
words_within (Jmp k) size pc h = both size pc h
words_within (Call k) size pc h = both size pc h
words_within _ size pc h = one size pc h

pub stands_whole : StandsWhole
stands_whole s i h =
    let inside = words_within i (length s.mem.flash) s.pc h.within in
    let is = is_what_stands s i s.pc h in
    rw is inside

-- ---- the step there

taken : {X : Type 0} (b : Bool) (x y : X) → IsTrue b → (if b then x else y) ≡ x
taken true x y h = refl
taken false x y h = cc

pub steps_by_instruction : StepsByInstruction
unfolding step
steps_by_instruction answer s i whole is =
    taken (is_whole s) (effect (instruction_at s s.pc) answer s) (faulted PcOut s) whole ∙ ap (λ (o : Option Instr). effect o answer s) is

pub needs_by_instruction : NeedsByInstruction
needs_by_instruction s i whole is =
    taken (is_whole s) (option_and_then (port_at s) (load_address (instruction_at s s.pc) s)) None whole
    ∙ ap (λ (o : Option Instr). option_and_then (port_at s) (load_address o s)) is

pub step_keeps : StepKeeps
unfolding step effect
step_keeps answer s = by_test (is_whole s) (by_table (instruction_at s s.pc) refl)
  where
    by_table : (i : Option Instr) → instruction_at s s.pc ≡ i → Keeps s (effect i answer s).state
    by_table None e = unchanged s
    by_table (Some i) e = keeps i ((instruction_is i (word_at s s.pc) (word_at s (s.pc + 1))).0 e).in_range answer s

    by_test : (b : Bool) → Keeps s (effect (instruction_at s s.pc) answer s).state
        → Keeps s (if b then effect (instruction_at s s.pc) answer s else faulted PcOut s).state
    by_test true h = h
    by_test false h = unchanged s

-- ---- the program counter

pub jumps_inside : JumpsInside
jumps_inside s to small = let e : to % 65536 ≡ to = omega arith in ap (λ (pc : ℕ). record s { pc = pc }) e

pub relative_forward : RelativeForward
relative_forward pc k small = omega arith

pub relative_back : RelativeBack
relative_back pc k small back = omega arith
