-- The code of operations on ports. Their bytes are read by rising address, and written by falling address.
use Rattle.std.specs.Prelude.{ℕ, zero, suc, ◌+◌, ◌-◌, ◌==◌, nat_le, Bool, ◌&&◌, if◌then◌else◌, List, [], ◌∷◌, ◌++◌}
use Rattle.std.specs.Prelude.{Option, Some, None, false, ⊤}
use Rattle.ec_isa.specs.declared.instructions.Instr.{Instr}
use Rattle.ec_isa.specs.declared.instructions.Instr.TheVariants.{In, Out, Lds, Sts, LddZ, StdZ, Ldi, Add}
use Rattle.ec_asm.specs.declared.items.AsmItem.{AsmItem}
use Rattle.ec_asm.specs.declared.items.AsmItem.TheVariants.{Plain, LoadObj, StoreObj}
use Rattle.ec_asm.specs.declared.pieces.Location.{Location}
use Rattle.ec_asm.specs.declared.pieces.Location.TheVariants.{InRegisters, InMemory}
use Rattle.ec_asm.specs.Items.{chain}
use Rattle.ec_asm.specs.Pieces.{HasBytes, copy_code}
use Rattle.ec_select_bytes.specs.Values.{extend_code}

-- ---- one byte. An index has a place, or there is none

-- the place of an index has a low byte
abbrev pub HasIndexByte : Option Location → Type 0
HasIndexByte None = ⊤
HasIndexByte (Some at) = HasBytes at 1

-- IN and OUT reach the addresses from 0x20 to 0x5F, which they count from 0x20 (AVR Instruction Set Manual: IN, OUT)
abbrev pub has_io_number : ℕ → Bool
has_io_number address = nat_le 0x20 address && nat_le address 0x5F

abbrev pub in_instruction : (register address : ℕ) → Instr
in_instruction d address = if has_io_number address then In d (address - 0x20) else Lds d address

abbrev pub out_instruction : (address register : ℕ) → Instr
out_instruction address r = if has_io_number address then Out (address - 0x20) r else Sts address r

-- byte i of a port and a register: the port's address is known, or where there is an index Z has that of the element
abbrev pub read_instruction : (index : Option Location) → (port register i : ℕ) → Instr
read_instruction None port d i = in_instruction d (port + i)
read_instruction (Some at) port d i = LddZ d i

abbrev pub write_instruction : (index : Option Location) → (port i register : ℕ) → Instr
write_instruction None port i r = out_instruction (port + i) r
write_instruction (Some at) port i r = StdZ i r

-- byte i of a number: where it stands in memory, it comes there and from there by R0
abbrev pub read_byte : (index : Option Location) → (port : ℕ) → (to : Location) → (i : ℕ) → List AsmItem
read_byte index port (InRegisters r) i = Plain (read_instruction index port (r + i) i) ∷ []
read_byte index port (InMemory o k) i = Plain (read_instruction index port 0 i) ∷ StoreObj o (k + i) 0 ∷ []

abbrev pub write_byte : (index : Option Location) → (port : ℕ) → (from : Location) → (i : ℕ) → List AsmItem
write_byte index port (InRegisters r) i = Plain (write_instruction index port i (r + i)) ∷ []
write_byte index port (InMemory o k) i = LoadObj 0 o (k + i) ∷ Plain (write_instruction index port i 0) ∷ []

-- ---- all bytes

-- n bytes from byte i on, the highest one first
abbrev pub write_code : (index : Option Location) → (port : ℕ) → (from : Location) → (i n : ℕ) → List AsmItem
write_code index port from i zero = []
write_code index port from i (suc n) = write_code index port from (suc i) n ++ write_byte index port from i

-- R30 times the bytes of an element, which are 1, 2 or 4
abbrev pub scale_code : (width : ℕ) → List AsmItem
scale_code width =
    if width == 1 then []
    else if width == 2 then Plain (Add 30 30) ∷ []
    else Plain (Add 30 30) ∷ Plain (Add 30 30) ∷ []

-- Z becomes the address of an element. It is below 0x100, so of the index the low byte is enough
abbrev pub point_code : (index : Option Location) → (port width : ℕ) → List AsmItem
point_code None port width = []
point_code (Some at) port width =
    copy_code at (InRegisters 30) 1
    ++ (scale_code width ++ Plain (Ldi 31 port) ∷ Plain (Add 30 31) ∷ Plain (Ldi 31 0) ∷ [])

-- a port of some width is read to a place, of which n bytes are needed: those past the width are 0
abbrev pub in_code : (index : Option Location) → (to : Location) → (port width n : ℕ) → List AsmItem
in_code index to port width n =
    point_code index port width ++ (chain (read_byte index port to) width ++ extend_code false to width n)

-- the low bytes of a number are written to a port
abbrev pub out_code : (index : Option Location) → (from : Location) → (port width : ℕ) → List AsmItem
out_code index from port width = point_code index port width ++ write_code index port from 0 width

-- ---- a port of a dynamic group: its address is so far behind what the group's cell holds

-- the cells are bytes of the object of the work bytes, behind the 64 work bytes
abbrev pub first_cell : ℕ
first_cell = 64

abbrev pub cell_place : (cell : ℕ) → Location
cell_place cell = InMemory 1280 (first_cell + cell)

-- what is given for an index where Z points, with an index or without: it tells that Z does, and is not looked at
abbrev pub pointed : Option Location
pointed = Some (InRegisters 30)

-- R30 goes further by an offset, and R31 becomes 0
abbrev pub further_code : (offset : ℕ) → List AsmItem
further_code offset = Plain (Ldi 31 offset) ∷ Plain (Add 30 31) ∷ Plain (Ldi 31 0) ∷ []

-- Z becomes the address of a port, or of an element of it. It is below 0x100, so one byte is enough
abbrev pub cell_point_code : (index : Option Location) → (cell offset width : ℕ) → List AsmItem
cell_point_code None cell offset width = LoadObj 30 1280 (first_cell + cell) ∷ further_code offset
cell_point_code (Some at) cell offset width =
    copy_code at (InRegisters 30) 1
    ++ (scale_code width ++ LoadObj 31 1280 (first_cell + cell) ∷ Plain (Add 30 31) ∷ further_code offset)

-- it is read to a place, of which n bytes are needed: those past the width are 0
abbrev pub cell_in_code : (index : Option Location) → (to : Location) → (cell offset width n : ℕ) → List AsmItem
cell_in_code index to cell offset width n =
    cell_point_code index cell offset width ++ (chain (read_byte pointed 0 to) width ++ extend_code false to width n)

-- the low bytes of a number are written to it
abbrev pub cell_out_code : (index : Option Location) → (from : Location) → (cell offset width : ℕ) → List AsmItem
cell_out_code index from cell offset width =
    cell_point_code index cell offset width ++ write_code pointed 0 from 0 width
