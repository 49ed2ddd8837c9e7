-- The form of the code of port operations.
use Rattle.std.proofs.Common.{◌≡◌, ℕ, zero, suc, ◌+◌, ◌-◌, ◌*◌, ◌≤◌, Bool, true, false, List, [], ◌∷◌, ◌++◌, Option, Some}
use Rattle.std.proofs.Common.{None, refl, arith}
use Rattle.std.specs.Prelude.{◌==◌, if◌then◌else◌}
use Rattle.ec_isa.specs.declared.instructions.Instr.TheVariants.{In, Out, Lds, Sts, Ldi, Add}
use Rattle.ec_asm.specs.declared.items.AsmItem.{AsmItem}
use Rattle.ec_asm.specs.declared.items.AsmItem.TheVariants.{Plain, LoadObj}
use Rattle.ec_asm.specs.declared.pieces.Location.{Location}
use Rattle.ec_asm.specs.declared.pieces.Location.TheVariants.{InRegisters, InMemory}
use Rattle.ec_asm.specs.Change.{goes_on}
use Rattle.ec_asm.specs.Items.{chain, all_straight, code_steps}
use Rattle.ec_asm.specs.Pieces.{copy_code}
use Rattle.ec_asm.proofs.Hoare.{steps-append, straight-append}
use Rattle.ec_select_bytes.specs.Values.{extend_code}
use Rattle.ec_select_bytes.proofs.Straight.{values_are_straight, values_take}
use Rattle.ec_select_operations.specs.Ports.{has_io_number, read_instruction}
use Rattle.ec_select_operations.specs.Ports.{write_instruction, read_byte, write_byte, write_code, scale_code}
use Rattle.ec_select_operations.specs.Ports.{point_code, in_code, out_code, first_cell, pointed, further_code}
use Rattle.ec_select_operations.specs.Ports.{cell_point_code, cell_in_code, cell_out_code}
use Rattle.ec_select_functions.proofs.Moves.{copy_straight, copy_steps}

-- ---- bytes

read_goes : (index : Option Location) (port d i : ℕ) → goes_on (read_instruction index port d i) ≡ true
read_goes None port d i = by_number (has_io_number (port + i))
  where
    by_number : (b : Bool) → goes_on (if b then In d (port + i - 0x20) else Lds d (port + i)) ≡ true
    by_number true = refl
    by_number false = refl
read_goes (Some l) port d i = refl

write_goes : (index : Option Location) (port i r : ℕ) → goes_on (write_instruction index port i r) ≡ true
write_goes None port i r = by_number (has_io_number (port + i))
  where
    by_number : (b : Bool) → goes_on (if b then Out (port + i - 0x20) r else Sts (port + i) r) ≡ true
    by_number true = refl
    by_number false = refl
write_goes (Some l) port i r = refl

read_straight : (index : Option Location) (port : ℕ) (q : Location) (i : ℕ) → all_straight (read_byte index port q i) ≡ true
read_straight index port (InRegisters r) i = rw (read_goes index port (r + i) i) refl
read_straight index port (InMemory o k) i = rw (read_goes index port 0 i) refl

read_steps : (index : Option Location) (port : ℕ) (q : Location) (i : ℕ)
    → (1 ≤ code_steps (read_byte index port q i)) × (code_steps (read_byte index port q i) ≤ 2)
read_steps index port (InRegisters r) i = (omega arith, omega arith)
read_steps index port (InMemory o k) i = (omega arith, omega arith)

write_straight : (index : Option Location) (port : ℕ) (q : Location) (i : ℕ)
    → all_straight (write_byte index port q i) ≡ true
write_straight index port (InRegisters r) i = rw (write_goes index port i (r + i)) refl
write_straight index port (InMemory o k) i = rw (write_goes index port i 0) refl

write_steps : (index : Option Location) (port : ℕ) (q : Location) (i : ℕ)
    → (1 ≤ code_steps (write_byte index port q i)) × (code_steps (write_byte index port q i) ≤ 2)
write_steps index port (InRegisters r) i = (omega arith, omega arith)
write_steps index port (InMemory o k) i = (omega arith, omega arith)

-- ---- all bytes

reads_straight : (index : Option Location) (port : ℕ) (q : Location) (n : ℕ)
    → all_straight (chain (read_byte index port q) n) ≡ true
reads_straight index port q zero = refl
reads_straight index port q (suc n) =
    straight-append (chain (read_byte index port q) n) (read_byte index port q n) (reads_straight index port q n)
    (read_straight index port q n)

reads_steps : (index : Option Location) (port : ℕ) (q : Location) (n : ℕ)
    → (n ≤ code_steps (chain (read_byte index port q) n)) × (code_steps (chain (read_byte index port q) n) ≤ 2 * n)
reads_steps index port q zero = (omega arith, omega arith)
reads_steps index port q (suc n) =
    let x = reads_steps index port q n in
    let z = read_steps index port q n in
    let s = steps-append (chain (read_byte index port q) n) (read_byte index port q n) in
    (omega (arith, x.0, z.0, s), omega (arith, x.1, z.1, s))

writes_straight : (index : Option Location) (port : ℕ) (q : Location) (i n : ℕ)
    → all_straight (write_code index port q i n) ≡ true
writes_straight index port q i zero = refl
writes_straight index port q i (suc n) =
    straight-append (write_code index port q (suc i) n) (write_byte index port q i) (writes_straight index port q (suc i) n)
    (write_straight index port q i)

writes_steps : (index : Option Location) (port : ℕ) (q : Location) (i n : ℕ)
    → (n ≤ code_steps (write_code index port q i n)) × (code_steps (write_code index port q i n) ≤ 2 * n)
writes_steps index port q i zero = (omega arith, omega arith)
writes_steps index port q i (suc n) =
    let x = writes_steps index port q (suc i) n in
    let z = write_steps index port q i in
    let s = steps-append (write_code index port q (suc i) n) (write_byte index port q i) in
    (omega (arith, x.0, z.0, s), omega (arith, x.1, z.1, s))

-- ---- the index

scale_straight : (width : ℕ) → all_straight (scale_code width) ≡ true
scale_straight width = by_one (width == 1)
  where
    by_two : (b : Bool) → all_straight (if b then Plain (Add 30 30) ∷ [] else Plain (Add 30 30) ∷ Plain (Add 30 30) ∷ []) ≡ true
    by_two true = refl
    by_two false = refl

    by_one : (b : Bool)
        → all_straight (if b then [] else if width == 2 then Plain (Add 30 30) ∷ [] else Plain (Add 30 30) ∷ Plain (Add 30 30) ∷ []) ≡ true
    by_one true = refl
    by_one false = by_two (width == 2)

scale_steps : (width : ℕ) → code_steps (scale_code width) ≤ 2
scale_steps width = by_one (width == 1)
  where
    by_two : (b : Bool) → code_steps (if b then Plain (Add 30 30) ∷ [] else Plain (Add 30 30) ∷ Plain (Add 30 30) ∷ []) ≤ 2
    by_two true = omega arith
    by_two false = omega arith

    by_one : (b : Bool)
        → code_steps (if b then [] else if width == 2 then Plain (Add 30 30) ∷ [] else Plain (Add 30 30) ∷ Plain (Add 30 30) ∷ []) ≤ 2
    by_one true = omega arith
    by_one false = by_two (width == 2)

point_straight : (index : Option Location) (port width : ℕ) → all_straight (point_code index port width) ≡ true
point_straight None port width = refl
point_straight (Some l) port width =
    straight-append (copy_code l (InRegisters 30) 1) (scale_code width ++ Plain (Ldi 31 port) ∷ Plain (Add 30 31) ∷ Plain (Ldi 31 0) ∷ [])
    (copy_straight l (InRegisters 30) 1)
    (straight-append (scale_code width) (Plain (Ldi 31 port) ∷ Plain (Add 30 31) ∷ Plain (Ldi 31 0) ∷ []) (scale_straight width) refl)

point_steps : (index : Option Location) (port width : ℕ) → code_steps (point_code index port width) ≤ 7
point_steps None port width = omega arith
point_steps (Some l) port width =
    let x = (copy_steps l (InRegisters 30) 1).1 in
    let z = scale_steps width in
    let s =
    steps-append (copy_code l (InRegisters 30) 1)
    (scale_code width ++ Plain (Ldi 31 port) ∷ Plain (Add 30 31) ∷ Plain (Ldi 31 0) ∷ []) in
    let t = steps-append (scale_code width) (Plain (Ldi 31 port) ∷ Plain (Add 30 31) ∷ Plain (Ldi 31 0) ∷ []) in
    omega (arith, x, z, s, t)

-- Z becomes the address of a cell's port
cell_point_straight : (index : Option Location) (cell offset width : ℕ) → all_straight (cell_point_code index cell offset width) ≡ true
cell_point_straight None cell offset width = refl
cell_point_straight (Some l) cell offset width =
    straight-append (copy_code l (InRegisters 30) 1)
    (scale_code width ++ LoadObj 31 1280 (first_cell + cell) ∷ Plain (Add 30 31) ∷ further_code offset)
    (copy_straight l (InRegisters 30) 1)
    (straight-append (scale_code width) (LoadObj 31 1280 (first_cell + cell) ∷ Plain (Add 30 31) ∷ further_code offset)
    (scale_straight width) refl)

cell_point_steps : (index : Option Location) (cell offset width : ℕ) → code_steps (cell_point_code index cell offset width) ≤ 9
cell_point_steps None cell offset width = omega arith
cell_point_steps (Some l) cell offset width =
    let x = (copy_steps l (InRegisters 30) 1).1 in
    let z = scale_steps width in
    let s =
    steps-append (copy_code l (InRegisters 30) 1)
    (scale_code width ++ LoadObj 31 1280 (first_cell + cell) ∷ Plain (Add 30 31) ∷ further_code offset) in
    let t = steps-append (scale_code width) (LoadObj 31 1280 (first_cell + cell) ∷ Plain (Add 30 31) ∷ further_code offset) in
    omega (arith, x, z, s, t)

-- ---- operations

module _ (pointing : List AsmItem) (most : ℕ) (is_straight : all_straight pointing ≡ true) (steps : code_steps pointing ≤ most)
    (index : Option Location) (q : Location) (port width : ℕ) where
  reads_to_straight : (n : ℕ) → all_straight (pointing ++ (chain (read_byte index port q) width ++ extend_code false q width n)) ≡ true
  reads_to_straight n =
      straight-append pointing (chain (read_byte index port q) width ++ extend_code false q width n) is_straight
      (straight-append (chain (read_byte index port q) width) (extend_code false q width n) (reads_straight index port q width)
      ((values_are_straight q 0 width n).2 false))

  reads_to_steps : (n : ℕ)
      → (width ≤ code_steps (pointing ++ (chain (read_byte index port q) width ++ extend_code false q width n)))
      × (code_steps (pointing ++ (chain (read_byte index port q) width ++ extend_code false q width n)) ≤ most + 3 + 2 * width + n)
  reads_to_steps n =
      let r = reads_steps index port q width in
      let z = (values_take q 0 width n).2 false in
      let s = steps-append pointing (chain (read_byte index port q) width ++ extend_code false q width n) in
      let t = steps-append (chain (read_byte index port q) width) (extend_code false q width n) in
      (omega (arith, r.0, s, t), omega (arith, steps, r.1, z, s, t))

  writes_to_straight : all_straight (pointing ++ write_code index port q 0 width) ≡ true
  writes_to_straight =
      straight-append pointing (write_code index port q 0 width) is_straight (writes_straight index port q 0 width)

  writes_to_steps : (width ≤ code_steps (pointing ++ write_code index port q 0 width))
      × (code_steps (pointing ++ write_code index port q 0 width) ≤ most + 2 * width)
  writes_to_steps =
      let r = writes_steps index port q 0 width in
      let s = steps-append pointing (write_code index port q 0 width) in
      (omega (arith, r.0, s), omega (arith, steps, r.1, s))

pub in_straight : (index : Option Location) (q : Location) (port width n : ℕ)
    → all_straight (in_code index q port width n) ≡ true
in_straight index q port width n =
    reads_to_straight (point_code index port width) 7 (point_straight index port width) (point_steps index port width) index q port width n

pub in_steps : (index : Option Location) (q : Location) (port width n : ℕ)
    → (width ≤ code_steps (in_code index q port width n)) × (code_steps (in_code index q port width n) ≤ 10 + 2 * width + n)
in_steps index q port width n =
    reads_to_steps (point_code index port width) 7 (point_straight index port width) (point_steps index port width) index q port width n

pub out_straight : (index : Option Location) (q : Location) (port width : ℕ)
    → all_straight (out_code index q port width) ≡ true
out_straight index q port width =
    writes_to_straight (point_code index port width) 7 (point_straight index port width) (point_steps index port width) index q port width

pub out_steps : (index : Option Location) (q : Location) (port width : ℕ)
    → (width ≤ code_steps (out_code index q port width)) × (code_steps (out_code index q port width) ≤ 7 + 2 * width)
out_steps index q port width =
    writes_to_steps (point_code index port width) 7 (point_straight index port width) (point_steps index port width) index q port width

module _ (index : Option Location) (q : Location) (cell offset width : ℕ) where
  abbrev pointing : List AsmItem
  pointing = cell_point_code index cell offset width

  is_straight : all_straight pointing ≡ true
  is_straight = cell_point_straight index cell offset width

  takes : code_steps pointing ≤ 9
  takes = cell_point_steps index cell offset width

  pub cell_in_straight : (n : ℕ) → all_straight (cell_in_code index q cell offset width n) ≡ true
  cell_in_straight n = reads_to_straight pointing 9 is_straight takes pointed q 0 width n

  pub cell_in_steps : (n : ℕ) → (width ≤ code_steps (cell_in_code index q cell offset width n))
      × (code_steps (cell_in_code index q cell offset width n) ≤ 12 + 2 * width + n)
  cell_in_steps n = reads_to_steps pointing 9 is_straight takes pointed q 0 width n

  pub cell_out_straight : all_straight (cell_out_code index q cell offset width) ≡ true
  cell_out_straight = writes_to_straight pointing 9 is_straight takes pointed q 0 width

  pub cell_out_steps : (width ≤ code_steps (cell_out_code index q cell offset width))
      × (code_steps (cell_out_code index q cell offset width) ≤ 9 + 2 * width)
  cell_out_steps = writes_to_steps pointing 9 is_straight takes pointed q 0 width
