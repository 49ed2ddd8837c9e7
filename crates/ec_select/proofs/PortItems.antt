-- The items of the code of port operations, and their words.
use Rattle.std.proofs.Common.{◌≡◌, ◌⊎◌, ⊎_elim, ℕ, zero, suc, ◌+◌, ◌-◌, ◌*◌, ◌<◌, ◌≤◌, ◌==◌, Bool, true, false, List, []}
use Rattle.std.proofs.Common.{◌∷◌, ◌++◌}
use Rattle.std.proofs.Common.{Option, Some, None, refl, arith, leb-true}
use Rattle.std.specs.Prelude.{⊤, nat_le, if◌then◌else◌}
use Rattle.std.proofs.lemmas.Bool.{lt-ltb, and_parts}
use Rattle.ec_isa.specs.declared.instructions.Instr.TheVariants.{In, Out, Lds, Sts, Ldi, Add}
use Rattle.ec_isa.specs.Table.{in_table}
use Rattle.ec_asm.specs.declared.items.AsmItem.{AsmItem}
use Rattle.ec_asm.specs.declared.items.AsmItem.TheVariants.{Plain, LoadObj}
use Rattle.ec_asm.specs.declared.pieces.Location.{Location}
use Rattle.ec_asm.specs.declared.pieces.Location.TheVariants.{InRegisters, InMemory}
use Rattle.ec_asm.specs.Change.{words}
use Rattle.ec_asm.specs.Items.{chain, code_words}
use Rattle.ec_asm.specs.Pieces.{copy_code}
use Rattle.ec_asm.specs.Valid.{Sizes, is_offset}
use Rattle.ec_select_bytes.specs.Laws.{ValuesHave}
use Rattle.ec_select_bytes.specs.Values.{extend_code}
use Rattle.ec_select_operations.specs.Ports.{has_io_number, read_instruction}
use Rattle.ec_select_operations.specs.Ports.{write_instruction, read_byte, write_byte, write_code, scale_code}
use Rattle.ec_select_operations.specs.Ports.{point_code, in_code, out_code, first_cell, pointed, further_code}
use Rattle.ec_select_operations.specs.Ports.{cell_point_code, cell_in_code, cell_out_code}
use Rattle.ec_select.proofs.Fitting.{fits, Fit, joined, chained, ByteFits, BytesFit, registers_fit, reg}
use Rattle.ec_select.proofs.Pieces.{copy_fits, extend_fits}
use Rattle.ec_select.proofs.Words.{joined_words, chained_words, copy_words_most}

-- ---- instructions

io_small : (a : ℕ) → has_io_number a ≡ true → a - 0x20 < 64
io_small a q = let z = leb-true a 0x5F (and_parts (nat_le 0x20 a) (nat_le a 0x5F) q).1 in omega arith

read_in_table : (index : Option Location) (port d i : ℕ) → port < 256 → i < 4 → d < 32
    → in_table (read_instruction index port d i) ≡ true
read_in_table None port d i l j h = by_number (has_io_number (port + i)) refl
  where
    by_number : (b : Bool) → has_io_number (port + i) ≡ b
        → in_table (if b then In d (port + i - 0x20) else Lds d (port + i)) ≡ true
    by_number true q = rw (reg d h, lt-ltb (port + i - 0x20) 64 (io_small (port + i) q)) refl
    by_number false q = rw (reg d h, lt-ltb (port + i) 65536 (omega arith)) refl
read_in_table (Some at) port d i l j h = rw (reg d h, lt-ltb i 64 (omega arith)) refl

write_in_table : (index : Option Location) (port i r : ℕ) → port < 256 → i < 4 → r < 32
    → in_table (write_instruction index port i r) ≡ true
write_in_table None port i r l j h = by_number (has_io_number (port + i)) refl
  where
    by_number : (b : Bool) → has_io_number (port + i) ≡ b
        → in_table (if b then Out (port + i - 0x20) r else Sts (port + i) r) ≡ true
    by_number true q = rw (reg r h, lt-ltb (port + i - 0x20) 64 (io_small (port + i) q)) refl
    by_number false q = rw (reg r h, lt-ltb (port + i) 65536 (omega arith)) refl
write_in_table (Some at) port i r l j h = rw (reg r h, lt-ltb i 64 (omega arith)) refl

read_words : (index : Option Location) (port d i : ℕ) → words (read_instruction index port d i) ≤ 2
read_words None port d i = by_number (has_io_number (port + i))
  where
    by_number : (b : Bool) → words (if b then In d (port + i - 0x20) else Lds d (port + i)) ≤ 2
    by_number true = omega arith
    by_number false = omega arith
read_words (Some at) port d i = omega arith

write_words : (index : Option Location) (port i r : ℕ) → words (write_instruction index port i r) ≤ 2
write_words None port i r = by_number (has_io_number (port + i))
  where
    by_number : (b : Bool) → words (if b then Out (port + i - 0x20) r else Sts (port + i) r) ≤ 2
    by_number true = omega arith
    by_number false = omega arith
write_words (Some at) port i r = omega arith

small_width : (width : ℕ) → (width ≡ 1) ⊎ ((width ≡ 2) ⊎ (width ≡ 4)) → (1 ≤ width) × (width ≤ 4)
small_width width cases =
    ⊎_elim (λ (q : width ≡ 1). (omega arith, omega arith))
    (λ (r : (width ≡ 2) ⊎ (width ≡ 4)).
    ⊎_elim (λ (q : width ≡ 2). (omega arith, omega arith)) (λ (q : width ≡ 4). (omega arith, omega arith)) r)
    cases

-- ---- the index

-- its place has a low byte
abbrev pub IndexFits : Sizes → Option Location → Type 0
IndexFits sizes None = ⊤
IndexFits sizes (Some at) = BytesFit sizes at 1

scale_fits : (sizes : Sizes) (width : ℕ) → Fit sizes (scale_code width)
scale_fits sizes width = by_one (width == 1)
  where
    by_two : (b : Bool) → Fit sizes (if b then Plain (Add 30 30) ∷ [] else Plain (Add 30 30) ∷ Plain (Add 30 30) ∷ [])
    by_two true = refl
    by_two false = refl

    by_one : (b : Bool)
        → Fit sizes (if b then [] else if width == 2 then Plain (Add 30 30) ∷ [] else Plain (Add 30 30) ∷ Plain (Add 30 30) ∷ [])
    by_one true = refl
    by_one false = by_two (width == 2)

scale_words : (width : ℕ) → code_words (scale_code width) ≤ 2
scale_words width = by_one (width == 1)
  where
    by_two : (b : Bool) → code_words (if b then Plain (Add 30 30) ∷ [] else Plain (Add 30 30) ∷ Plain (Add 30 30) ∷ []) ≤ 2
    by_two true = omega arith
    by_two false = omega arith

    by_one : (b : Bool)
        → code_words (if b then [] else if width == 2 then Plain (Add 30 30) ∷ [] else Plain (Add 30 30) ∷ Plain (Add 30 30) ∷ []) ≤ 2
    by_one true = omega arith
    by_one false = by_two (width == 2)

point_fits : (sizes : Sizes) (index : Option Location) (port width : ℕ) → port < 256 → IndexFits sizes index
    → Fit sizes (point_code index port width)
point_fits sizes None port width l h = refl
point_fits sizes (Some at) port width l h =
    joined (fits sizes) (copy_code at (InRegisters 30) 1)
    (scale_code width ++ Plain (Ldi 31 port) ∷ Plain (Add 30 31) ∷ Plain (Ldi 31 0) ∷ [])
    (copy_fits sizes at (InRegisters 30) 1 h (registers_fit sizes 30 1 (omega arith)))
    (joined (fits sizes) (scale_code width) (Plain (Ldi 31 port) ∷ Plain (Add 30 31) ∷ Plain (Ldi 31 0) ∷ []) (scale_fits sizes width)
    (rw (lt-ltb port 256 l) refl))

-- the words that an index takes
abbrev pub point_words : Option Location → ℕ
point_words None = 0
point_words (Some at) = 9

point_words_most : (index : Option Location) (port width : ℕ) → code_words (point_code index port width) ≤ point_words index
point_words_most None port width = omega arith
point_words_most (Some at) port width =
    let a = copy_words_most at (InRegisters 30) 1 in
    let b = scale_words width in
    let tail = Plain (Ldi 31 port) ∷ Plain (Add 30 31) ∷ Plain (Ldi 31 0) ∷ [] in
    omega (arith, joined_words (copy_code at (InRegisters 30) 1) (scale_code width ++ tail), joined_words (scale_code width) tail, a, b)

-- the address behind what a cell holds
cell_point_fits : (sizes : Sizes) (index : Option Location) (cell offset width : ℕ) → offset < 256 → IndexFits sizes index
    → is_offset sizes 1280 (first_cell + cell) ≡ true → Fit sizes (cell_point_code index cell offset width)
cell_point_fits sizes None cell offset width l h c = rw (c, lt-ltb offset 256 l) refl
cell_point_fits sizes (Some at) cell offset width l h c =
    joined (fits sizes) (copy_code at (InRegisters 30) 1)
    (scale_code width ++ LoadObj 31 1280 (first_cell + cell) ∷ Plain (Add 30 31) ∷ further_code offset)
    (copy_fits sizes at (InRegisters 30) 1 h (registers_fit sizes 30 1 (omega arith)))
    (joined (fits sizes) (scale_code width) (LoadObj 31 1280 (first_cell + cell) ∷ Plain (Add 30 31) ∷ further_code offset)
    (scale_fits sizes width) (rw (c, lt-ltb offset 256 l) refl))

cell_point_words : (index : Option Location) (cell offset width : ℕ) → code_words (cell_point_code index cell offset width) ≤ 12
cell_point_words None cell offset width = omega arith
cell_point_words (Some at) cell offset width =
    let a = copy_words_most at (InRegisters 30) 1 in
    let b = scale_words width in
    let tail = LoadObj 31 1280 (first_cell + cell) ∷ Plain (Add 30 31) ∷ further_code offset in
    omega (arith, joined_words (copy_code at (InRegisters 30) 1) (scale_code width ++ tail), joined_words (scale_code width) tail, a, b)

-- ---- bytes

read_byte_fits : (sizes : Sizes) (index : Option Location) (port : ℕ) (q : Location) (i : ℕ) → port < 256 → i < 4
    → ByteFits sizes q i → Fit sizes (read_byte index port q i)
read_byte_fits sizes index port (InRegisters r) i l j h = rw (read_in_table index port (r + i) i l j h) refl
read_byte_fits sizes index port (InMemory o k) i l j h = rw (read_in_table index port 0 i l j (omega arith), h) refl

write_byte_fits : (sizes : Sizes) (index : Option Location) (port : ℕ) (q : Location) (i : ℕ) → port < 256 → i < 4
    → ByteFits sizes q i → Fit sizes (write_byte index port q i)
write_byte_fits sizes index port (InRegisters r) i l j h = rw (write_in_table index port i (r + i) l j h) refl
write_byte_fits sizes index port (InMemory o k) i l j h = rw (h, write_in_table index port i 0 l j (omega arith)) refl

write_code_fits : (sizes : Sizes) (index : Option Location) (port : ℕ) (q : Location) (i n : ℕ) → port < 256
    → i + n ≤ 4 → BytesFit sizes q (i + n) → Fit sizes (write_code index port q i n)
write_code_fits sizes index port q i zero l j h = refl
write_code_fits sizes index port q i (suc n) l j h =
    joined (fits sizes) (write_code index port q (suc i) n) (write_byte index port q i)
    (write_code_fits sizes index port q (suc i) n l (omega arith) (λ k m. h k (omega arith)))
    (write_byte_fits sizes index port q i l (omega arith) (h i (omega arith)))

read_byte_words : (index : Option Location) (port : ℕ) (q : Location) (i : ℕ) → code_words (read_byte index port q i) ≤ 4
read_byte_words index port (InRegisters r) i = let a = read_words index port (r + i) i in omega (arith, a)
read_byte_words index port (InMemory o k) i = let a = read_words index port 0 i in omega (arith, a)

write_byte_words : (index : Option Location) (port : ℕ) (q : Location) (i : ℕ) → code_words (write_byte index port q i) ≤ 4
write_byte_words index port (InRegisters r) i = let a = write_words index port i (r + i) in omega (arith, a)
write_byte_words index port (InMemory o k) i = let a = write_words index port i 0 in omega (arith, a)

write_code_words : (index : Option Location) (port : ℕ) (q : Location) (i n : ℕ)
    → code_words (write_code index port q i n) ≤ 4 * n
write_code_words index port q i zero = omega arith
write_code_words index port q i (suc n) =
    let a = write_code_words index port q (suc i) n in
    let b = write_byte_words index port q i in
    omega (arith, joined_words (write_code index port q (suc i) n) (write_byte index port q i), a, b)

-- ---- operations

module _ (sizes : Sizes) (pointing : List AsmItem) (pointing_fits : Fit sizes pointing) (index : Option Location) (q : Location)
    (port width : ℕ) (l : port < 256) (cases : (width ≡ 1) ⊎ ((width ≡ 2) ⊎ (width ≡ 4))) (bytes : BytesFit sizes q width) where
  reads_fit : (n : ℕ) → BytesFit sizes q n → Fit sizes (pointing ++ (chain (read_byte index port q) width ++ extend_code false q width n))
  reads_fit n h =
      let w = small_width width cases in
      joined (fits sizes) pointing (chain (read_byte index port q) width ++ extend_code false q width n) pointing_fits
      (joined (fits sizes) (chain (read_byte index port q) width) (extend_code false q width n)
      (chained (fits sizes) (read_byte index port q) width (λ i m. read_byte_fits sizes index port q i l (omega (arith, w.1)) (bytes i m)))
      (extend_fits sizes false q width n w.0 h))

  writes_fit : Fit sizes (pointing ++ write_code index port q 0 width)
  writes_fit =
      let w = small_width width cases in
      joined (fits sizes) pointing (write_code index port q 0 width) pointing_fits
      (write_code_fits sizes index port q 0 width l (omega (arith, w.1)) (λ i m. bytes i (omega arith)))

module _ (sizes : Sizes) (index : Option Location) (q : Location) (port width : ℕ) (l : port < 256)
    (cases : (width ≡ 1) ⊎ ((width ≡ 2) ⊎ (width ≡ 4))) (point : IndexFits sizes index) (bytes : BytesFit sizes q width) where
  pub in_fits : (n : ℕ) → BytesFit sizes q n → Fit sizes (in_code index q port width n)
  in_fits n h =
      reads_fit sizes (point_code index port width) (point_fits sizes index port width l point) index q port width l cases bytes n h

  pub out_fits : Fit sizes (out_code index q port width)
  out_fits =
      writes_fit sizes (point_code index port width) (point_fits sizes index port width l point) index q port width l cases bytes

module _ (sizes : Sizes) (index : Option Location) (q : Location) (cell offset width : ℕ) (l : offset < 256)
    (cases : (width ≡ 1) ⊎ ((width ≡ 2) ⊎ (width ≡ 4))) (point : IndexFits sizes index) (bytes : BytesFit sizes q width)
    (there : is_offset sizes 1280 (first_cell + cell) ≡ true) where
  pub cell_in_fits : (n : ℕ) → BytesFit sizes q n → Fit sizes (cell_in_code index q cell offset width n)
  cell_in_fits n h =
      reads_fit sizes (cell_point_code index cell offset width) (cell_point_fits sizes index cell offset width l point there) pointed q 0
      width (omega arith) cases bytes n h

  pub cell_out_fits : Fit sizes (cell_out_code index q cell offset width)
  cell_out_fits =
      writes_fit sizes (cell_point_code index cell offset width) (cell_point_fits sizes index cell offset width l point there) pointed q 0
      width (omega arith) cases bytes

module _ (values : ValuesHave) (pointing : List AsmItem) (most : ℕ) (few : code_words pointing ≤ most) (index : Option Location)
    (q : Location) (port width n bytes : ℕ) (cases : (width ≡ 1) ⊎ ((width ≡ 2) ⊎ (width ≡ 4))) (within : n ≤ bytes) where
  reads_words : code_words (pointing ++ (chain (read_byte index port q) width ++ extend_code false q width n))
      ≤ most + 10 * width + 5 * bytes
  reads_words =
      let w = small_width width cases in
      let b = chained_words (read_byte index port q) width 4 (λ i. read_byte_words index port q i) in
      let c = (values q 0 width n).2 false in
      omega (
        arith,
        joined_words pointing (chain (read_byte index port q) width ++ extend_code false q width n),
        joined_words (chain (read_byte index port q) width) (extend_code false q width n),
        w.0,
        few,
        b,
        c,
        within,
      )

pub in_words_most : (values : ValuesHave) (index : Option Location) (q : Location) (port width n bytes : ℕ)
    → (width ≡ 1) ⊎ ((width ≡ 2) ⊎ (width ≡ 4)) → n ≤ bytes
    → code_words (in_code index q port width n) ≤ point_words index + 10 * width + 5 * bytes
in_words_most values index q port width n bytes cases most =
    reads_words values (point_code index port width) (point_words index) (point_words_most index port width) index q port width n bytes
    cases most

pub cell_in_words : (values : ValuesHave) (index : Option Location) (q : Location) (cell offset width n bytes : ℕ)
    → (width ≡ 1) ⊎ ((width ≡ 2) ⊎ (width ≡ 4)) → n ≤ bytes
    → code_words (cell_in_code index q cell offset width n) ≤ 12 + 10 * width + 5 * bytes
cell_in_words values index q cell offset width n bytes cases most =
    reads_words values (cell_point_code index cell offset width) 12 (cell_point_words index cell offset width) pointed q 0 width n bytes
    cases most

writes_words : (pointing : List AsmItem) (most : ℕ) → code_words pointing ≤ most → (index : Option Location) (q : Location)
    (port width : ℕ) → code_words (pointing ++ write_code index port q 0 width) ≤ most + 5 * width
writes_words pointing most few index q port width =
    let b = write_code_words index port q 0 width in
    omega (arith, joined_words pointing (write_code index port q 0 width), few, b)

pub out_words_most : (index : Option Location) (q : Location) (port width : ℕ)
    → code_words (out_code index q port width) ≤ point_words index + 5 * width
out_words_most index q port width =
    writes_words (point_code index port width) (point_words index) (point_words_most index port width) index q port width

pub cell_out_words : (index : Option Location) (q : Location) (cell offset width : ℕ)
    → code_words (cell_out_code index q cell offset width) ≤ 12 + 5 * width
cell_out_words index q cell offset width =
    writes_words (cell_point_code index cell offset width) 12 (cell_point_words index cell offset width) pointed q 0 width
