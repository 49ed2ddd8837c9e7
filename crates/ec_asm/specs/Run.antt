-- Runs of code on the view.
use Rattle.std.specs.Prelude.{ℕ, zero, suc, ◌+◌, ◌*◌, ◌/◌, ◌%◌, ◌==◌, nat_lt, Bool, true, false, not, ◌&&◌, ◌||◌}
use Rattle.std.specs.Prelude.{if◌then◌else◌, List, slice_index, length, Option, Some, None}
use Rattle.std.specs.Int.{bit_at}
use Rattle.ec_isa.specs.declared.instructions.Instr.{Instr}
use Rattle.ec_isa.specs.declared.instructions.Instr.TheVariants.{Ret, Break, Jmp, Call, Rjmp, Rcall, Brbs, Brbc, Cpse}
use Rattle.ec_isa.specs.declared.instructions.Instr.TheVariants.{Sbrc, Sbrs}
use Rattle.ec_isa.specs.Reading.{instruction_at as decoded}
use Rattle.ec_avr.specs.Effects.{has_two_words, relative}
use Rattle.ec_avr.specs.State.{raised, lowered}
use Rattle.ec_asm.specs.Base.{leaves_base}
use Rattle.ec_asm.specs.View.{View, put, put_pair}
use Rattle.ec_asm.specs.Change.{Env, Kind, Stacked, change, goes_on, words, sp, flag_at}

pub data Status : Type 0 where
  Running : ℕ → View → Status
  Ended : View → Status
  Stuck : Status

-- the word at a word address
abbrev pub word_in : List ℕ → ℕ → ℕ
word_in flash at = slice_index flash (2 * at) + 256 * slice_index flash (2 * at + 1)

-- the instruction at a word address, if all its words lie in flash
abbrev pub stored : Env → ℕ → Option Instr
stored e pc =
    let i = decoded (word_in e.flash pc) (word_in e.flash (pc + 1)) in
    if nat_lt (2 * pc + 1) (length e.flash) && (not (has_two_words i) || nat_lt (2 * (pc + 1) + 1) (length e.flash))
    then i
    else None

-- where Y holds a base, no instruction changes Y
abbrev pub keeps_base : (base : ℕ) → Instr → Bool
keeps_base base i = not (nat_lt base 65536) || leaves_base i

abbrev pub fetch_by : (base : ℕ) → Option Instr → Option Instr
fetch_by base None = None
fetch_by base (Some i) = if keeps_base base i then Some i else None

-- the instruction at a word address, where code may have it
abbrev pub fetch : Env → ℕ → Option Instr
fetch e pc = fetch_by e.base (stored e pc)

-- the address to return to, low byte first, where the stack pointer stands and below it
abbrev pub pushed : ℕ → View → View
pushed back v =
    let bytes = put (put v.at (sp v) (back % 256)) (lowered (sp v)) (back / 256 % 256) in
    record v { at = put_pair bytes 0x5D (lowered (lowered (sp v))) }

abbrev pub popped : View → View
popped v = record v { at = put_pair v.at 0x5D (raised (raised (sp v))) }

abbrev pub back_at : View → ℕ
back_at v = 256 * v.at (raised (sp v)) + v.at (raised (raised (sp v)))

abbrev pub on_stack : Kind → Bool
on_stack Stacked = true
on_stack _ = false

-- a flag that the view has
abbrev pub is_flag : ℕ → Bool
is_flag zero = true
is_flag (suc zero) = true
is_flag (suc (suc zero)) = true
is_flag (suc (suc (suc zero))) = true
is_flag (suc (suc (suc (suc zero)))) = true
is_flag (suc (suc (suc (suc (suc (suc zero)))))) = true
is_flag _ = false

-- a call of a word address, where both bytes that it pushes are the stack's
abbrev pub call_by : Env → (to back : ℕ) → View → Status
call_by e to back v =
    if on_stack (e.kind (sp v)) && on_stack (e.kind (lowered (sp v))) then Running (to % 65536) (pushed back v)
    else Stuck

-- the word after the next instruction where it is passed over, and else the next word
abbrev pub skip_to : Env → Bool → ℕ → ℕ
skip_to e taken pc =
    let next = if has_two_words (decoded (word_in e.flash (pc + 1)) (word_in e.flash (pc + 1 + 1))) then 2 else 1 in
    (pc + 1 + (if taken then next else 0)) % 65536

-- what the instruction that stands at a word address does
abbrev pub act : Env → Option Instr → ℕ → View → Status
act e None pc v = Stuck
act e (Some (Jmp k)) pc v = Running (k % 65536) v
act e (Some (Rjmp k)) pc v = Running (relative pc k % 65536) v
act e (Some (Brbs b k)) pc v =
    if is_flag b then Running ((if flag_at v.flags b == 1 then relative pc k else pc + 1) % 65536) v else Stuck
act e (Some (Brbc b k)) pc v =
    if is_flag b then Running ((if flag_at v.flags b == 0 then relative pc k else pc + 1) % 65536) v else Stuck
act e (Some (Cpse d r)) pc v = Running (skip_to e (v.at d == v.at r) pc) v
act e (Some (Sbrc r b)) pc v = Running (skip_to e (bit_at (v.at r) b == 0) pc) v
act e (Some (Sbrs r b)) pc v = Running (skip_to e (bit_at (v.at r) b == 1) pc) v
act e (Some (Call k)) pc v = call_by e k (pc + 2) v
act e (Some (Rcall k)) pc v = call_by e (relative pc k) (pc + 1) v
act e (Some Ret) pc v =
    if on_stack (e.kind (raised (sp v))) && on_stack (e.kind (raised (raised (sp v)))) then
    Running (back_at v % 65536) (popped v)
    else Stuck
act e (Some Break) pc v = Ended v
act e (Some i) pc v = if goes_on i then Running ((pc + words i) % 65536) (change e i v) else Stuck

abbrev pub step : Env → Status → Status
step e (Running pc v) = act e (fetch e pc) pc v
step e (Ended v) = Ended v
step e Stuck = Stuck

abbrev pub run : Env → ℕ → Status → Status
run e zero st = st
run e (suc n) st = run e n (step e st)

-- all accesses were allowed
abbrev pub is_safe : Status → Bool
is_safe (Running pc v) = v.safe
is_safe (Ended v) = v.safe
is_safe Stuck = false
