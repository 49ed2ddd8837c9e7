-- Instructions that stand in a flash.
use Rattle.std.specs.Prelude.{ℕ, ◌+◌, ◌*◌, ◌/◌, ◌%◌, ◌<◌, ◌≤◌, ◌≡◌, IsTrue, Option, Some, None, List, [], ◌∷◌, ◌++◌}
use Rattle.std.specs.Prelude.{length, slice_index, if◌then◌else◌}
use Rattle.ec_isa.specs.declared.instructions.Instr.{Instr}
use Rattle.ec_isa.specs.declared.instructions.Instr.TheVariants.{Pop, Push, Icall, Ret, Call, Rcall}
use Rattle.ec_isa.specs.Table.{in_table, first_word, second_word}
use Rattle.ec_avr.specs.State.{State, stack_pointer, raised, lowered}
use Rattle.ec_avr.specs.Effects.{instruction_at}
use Rattle.ec_avr.specs.Machine.{is_whole}

-- a word as bytes, the low one first
abbrev pub word_bytes : ℕ → List ℕ
word_bytes w = w % 256 ∷ w / 256 ∷ []

abbrev pub second_bytes : Option ℕ → List ℕ
second_bytes None = []
second_bytes (Some w) = word_bytes w

-- the bytes of an instruction's words
abbrev pub code_bytes : Instr → List ℕ
code_bytes i = word_bytes (first_word i) ++ second_bytes (second_word i)

-- an instruction of the table stands at a word address of a flash, with all its bytes
pub record StandsAt (i : Instr) (flash : List ℕ) (pc : ℕ) : Type 0 where
  pub known : IsTrue (in_table i)
  pub within : 2 * pc + length (code_bytes i) ≤ length flash
  pub bytes : (k : ℕ) → k < length (code_bytes i) → slice_index flash (2 * pc + k) ≡ slice_index (code_bytes i) k

-- the data addresses that an instruction pushes to or pops from, in order
abbrev pub stack_bytes_of : Option Instr → State → List ℕ
stack_bytes_of (Some (Push r)) s = stack_pointer s ∷ []
stack_bytes_of (Some (Pop d)) s = raised (stack_pointer s) ∷ []
stack_bytes_of (Some (Call k)) s = stack_pointer s ∷ lowered (stack_pointer s) ∷ []
stack_bytes_of (Some (Rcall k)) s = stack_pointer s ∷ lowered (stack_pointer s) ∷ []
stack_bytes_of (Some Icall) s = stack_pointer s ∷ lowered (stack_pointer s) ∷ []
stack_bytes_of (Some Ret) s = raised (stack_pointer s) ∷ raised (raised (stack_pointer s)) ∷ []
stack_bytes_of _ s = []

-- those of the next step
abbrev pub stack_bytes : State → List ℕ
stack_bytes s = if is_whole s then stack_bytes_of (instruction_at s s.pc) s else []
