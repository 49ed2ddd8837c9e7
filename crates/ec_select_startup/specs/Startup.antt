-- The code before `main`. Spans name their initial bytes and their object by the numbers of items. 1,281 is the last
-- byte of the stack.
use Rattle.std.specs.Prelude.{ℕ, ◌+◌, ◌*◌, ◌/◌, ◌%◌, nat_le, nat_lt, Bool, true, false, if◌then◌else◌, List, [], ◌∷◌, ◌++◌, negsuc}
use Rattle.ec_isa.specs.declared.instructions.Instr.{Instr}
use Rattle.ec_isa.specs.declared.instructions.Instr.TheVariants.{Ldi, Eor, LpmZPlus, StXPlus, Dec, Sbiw, Brbc, Break}
use Rattle.ec_isa.specs.declared.instructions.Instr.TheVariants.{Rjmp, Out as OutInstr}
use Rattle.ec_asm.specs.declared.items.AsmItem.{AsmItem}
use Rattle.ec_asm.specs.declared.items.AsmItem.TheVariants.{Plain, CallTo, LoadPart, StoreObj}
use Rattle.ec_asm.specs.Items.{chain}
use Rattle.ec_select_startup.specs.declared.spans.Filling.{Filling}
use Rattle.ec_select_startup.specs.declared.spans.Filling.TheVariants.{Copied, Cleared}
use Rattle.ec_select_startup.specs.declared.spans.Span.{Span}

-- a pair of registers is set to the address of an object
abbrev pub address_code : (d object : ℕ) → List AsmItem
address_code d object = LoadPart d object 0 0 ∷ LoadPart (d + 1) object 0 1 ∷ []

-- SPH and SPL are set
abbrev pub stack_code : List AsmItem
stack_code = address_code 24 1281 ++ (Plain (OutInstr 0x3E 25) ∷ Plain (OutInstr 0x3D 24) ∷ [])

-- ---- a span

-- Z points to the initial bytes, or R0 is cleared where it is not yet clear
abbrev pub source_code : (clear : Bool) → Filling → (from : ℕ) → List AsmItem
source_code clear Copied from = address_code 30 from
source_code true Cleared from = []
source_code false Cleared from = Plain (Eor 0 0) ∷ []

-- the next byte is in R0
abbrev pub byte_code : Filling → List AsmItem
byte_code Copied = Plain (LpmZPlus 0) ∷ []
byte_code Cleared = []

-- byte k is set by its address
abbrev pub store_code : Filling → (to k : ℕ) → List AsmItem
store_code filling to k = byte_code filling ++ (StoreObj to k 0 ∷ [])

-- the byte that X points to is set, and X goes on
abbrev pub next_code : Filling → List AsmItem
next_code filling = byte_code filling ++ (Plain (StXPlus 0) ∷ [])

-- ---- by X

-- so many bytes, one after another
abbrev pub row_code : Filling → ℕ → List AsmItem
row_code filling n = chain (λ i. next_code filling) n

-- turns are counted down in R24 where their number fits in a byte, and else in R25:R24
abbrev pub count_code : (small : Bool) → (turns : ℕ) → List AsmItem
count_code true turns = Plain (Ldi 24 turns) ∷ []
count_code false turns = Plain (Ldi 24 (turns % 256)) ∷ Plain (Ldi 25 (turns / 256)) ∷ []

abbrev pub down : (small : Bool) → Instr
down true = Dec 24
down false = Sbiw 24 1

-- the count goes down, and back over so many words of a turn where it is not yet 0
abbrev pub end_code : (small : Bool) → (words : ℕ) → List AsmItem
end_code small words = Plain (down small) ∷ Plain (Brbc 1 (negsuc (words + 1))) ∷ []

-- the words of a byte, which are its steps
abbrev pub byte_words : Filling → ℕ
byte_words Copied = 2
byte_words Cleared = 1

-- a loop of so many turns, each of which sets so many bytes
abbrev pub loop_code : Filling → (small : Bool) → (bytes turns : ℕ) → List AsmItem
loop_code filling small bytes turns =
    count_code small turns ++ (row_code filling bytes ++ end_code small (byte_words filling * bytes))

-- two bytes a turn are copied, and three cleared, or four where fewer are left over
abbrev pub bytes_a_turn : Filling → ℕ → ℕ
bytes_a_turn Copied n = 2
bytes_a_turn Cleared n = if nat_lt (n % 4) (n % 3) then 4 else 3

-- whole turns, and what is left over one after another
abbrev pub turns_code : Filling → (bytes n : ℕ) → List AsmItem
turns_code filling bytes n =
    loop_code filling (nat_le (n / bytes) 255) bytes (n / bytes) ++ row_code filling (n % bytes)

abbrev pub pointed_code : Filling → (to n : ℕ) → List AsmItem
pointed_code filling to n = address_code 26 to ++ turns_code filling (bytes_a_turn filling n) n

-- ---- the whole

abbrev pub stores_code : Filling → (to n : ℕ) → List AsmItem
stores_code filling to n = chain (store_code filling to) n

-- as many bytes are set by their addresses, and more in a loop
abbrev pub most_stores : Filling → ℕ
most_stores Copied = 3
most_stores Cleared = 8

abbrev pub bytes_by : Filling → (few : Bool) → (to n : ℕ) → List AsmItem
bytes_by filling true to n = stores_code filling to n
bytes_by filling false to n = pointed_code filling to n

abbrev pub bytes_code : Filling → (to n : ℕ) → List AsmItem
bytes_code filling to n = bytes_by filling (nat_le n (most_stores filling)) to n

abbrev pub span_code : (clear : Bool) → Span → List AsmItem
span_code clear s = source_code clear s.filling s.from ++ bytes_code s.filling s.to s.bytes

-- whether R0 is clear behind the code of a span
abbrev pub is_cleared : Filling → Bool
is_cleared Copied = false
is_cleared Cleared = true

abbrev pub spans_code : (clear : Bool) → List Span → List AsmItem
spans_code clear [] = []
spans_code clear (s ∷ ss) = span_code clear s ++ spans_code (is_cleared s.filling) ss

-- `main` is called, and the machine ends where it returns. Behind BREAK a jump to itself stands, since BREAK is passed
-- as NOP where no debugger is attached (Microchip AVR Instruction Set Manual)
abbrev pub main_code : (main : ℕ) → List AsmItem
main_code main = CallTo main ∷ Plain Break ∷ Plain (Rjmp (negsuc 0)) ∷ []

abbrev pub startup_code : List Span → (main : ℕ) → List AsmItem
startup_code spans main = stack_code ++ (spans_code false spans ++ main_code main)
