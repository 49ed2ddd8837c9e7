-- Operations on ports, each beside what the program does.
use Rattle.std.proofs.Common.{◌≡◌, ℕ, zero, suc, ◌+◌, ◌*◌, ◌/◌, ◌%◌, ◌^◌, ◌<◌, ◌≤◌, ◌⊎◌, Bool, true, false, ℤ, pos, negsuc, List, [], ◌∷◌}
use Rattle.std.proofs.Common.{length, Option, Some, None, Result, Ok, refl, sym, ap, ◌∙◌, subst, inl, inr, arith}
use Rattle.std.specs.Prelude.{⊤, IsTrue, if◌then◌else◌, bit_and, bit_or, bit_xor, slice_index}
use Rattle.std.specs.List.{AllByRecursion}
use Rattle.std.proofs.Math.Nat.{mod-eq_of_lt, pow-suc}
use Rattle.std.proofs.lemmas.Bool.{le-leb}
use Rattle.std.proofs.lemmas.Int.{ints}
use Rattle.std.proofs.lemmas.Nat.{or_lt, xor_lt, and_le_l}
use Rattle.ec_fx.specs.declared.numbers.Mode.{Mode}
use Rattle.ec_fx.specs.Ranges.{IsWithin}
use Rattle.ec_iohw.specs.declared.operations.IoOp.{IoOp}
use Rattle.ec_iohw.specs.declared.table.Choice.{Choice}
use Rattle.ec_iohw.specs.declared.table.Pair.{Pair}
use Rattle.ec_core.specs.declared.values.Undefined.{Undefined}
use Rattle.ec_core.specs.declared.values.Undefined.TheVariants.{BufferIndex}
use Rattle.ec_core.specs.declared.values.Value.{Value}
use Rattle.ec_core.specs.declared.values.Value.TheVariants.{Number, Pointer}
use Rattle.ec_core.specs.Accesses.{operand_of}
use Rattle.ec_core.specs.Integers.{low_bits}
use Rattle.ec_core.specs.Layout.{scalar_size, IsScalar}
use Rattle.ec_core.specs.Operators.{binary_result}
use Rattle.ec_core.specs.Plain.{PlainType, void, OptionPlainExpr, no_expr, an_expr, PlainProgram}
use Rattle.ec_core.specs.PortAccesses.{next_byte, byte_read, bytes_read, number_read, bytes_written, updated, no_value, unsigned}
use Rattle.ec_core.specs.PortAccesses.{port_accessed, pairs_written}
use Rattle.ec_core.specs.PortOperations.{PortAction, reads, writes, updates}
use Rattle.ec_core.specs.PortTable.{PlainPort, PlainTable}
use Rattle.ec_core.specs.State.{Inputs, In, Out, reads_of, GroupStates, State, worked, with_event, Outcome, got, undefined}
use Rattle.ec_core.specs.State.{next}
use Rattle.ec_core.specs.Typing.{unsigned_int, unsigned_long, type_of_expr, IsOperandIf, port_result}
use Rattle.ec_core.specs.ValueTypes.{HasType, GiveBytes}
use Rattle.ec_core.specs.Words.{port_words}
use Rattle.ec_ir.specs.declared.operations.Temp.{Temp}
use Rattle.ec_ir.specs.Costs.{op_words, op_steps, binary_words}
use Rattle.ec_ir.specs.Meaning.{Mach, machine, number_in, held_number, element_of_port, based, element_of_cell, port_read, port_written}
use Rattle.ec_ir.specs.Operations.{PlainIr, binary_op}
use Rattle.ec_ir.specs.Temporaries.{low_bytes, Temps, with_temp}
use Rattle.ec_lower_code.specs.Code.{temp, operand_temp, port_operator, read_from, write_to, port_code, byte_type, pairs_code}
use Rattle.ec_lower_code.specs.Correct.{IsBytePair}
use Rattle.ec_lower_code.proofs.Ops.{to_rest, Below, HasValue, constant_runs, binary_over}
use Rattle.ec_lower_code.proofs.Pays.{update_words_are, read_pays, write_pays, port_bytes}
use Rattle.ec_lower_code.proofs.PortOperators.{by_operator}
use Rattle.ec_lower_code.proofs.Shown.{held_of, bound_in, AreBased, Match}
use Rattle.ec_lower_code.proofs.Tables.{IsOperated}
use Rattle.ec_lower_code.proofs.Steps.{held_at, held_below, held_is, Spot, around, here, goes, Runs, stays, counts, after, ends}
use Rattle.ec_lower_code.proofs.Steps.{spent_on, less, event_match}

-- ---- the bytes of ports on both sides

module _ (program : PlainProgram) (table : PlainTable) (fs : List ℕ) where
  written_match : (width port low d : ℕ) (s : State) (temps : Temps) (t : State) → Match program table fs d s (machine temps t)
      → Match program table fs d (bytes_written width port low s) (machine temps (bytes_written width port low t))
  written_match zero port low d s temps t h = h
  written_match (suc n) port low d s temps t h =
      event_match program table (Out port (low % 256)) d (bytes_written n (port + 1) (low / 256) s) temps
      (bytes_written n (port + 1) (low / 256) t)
      (written_match n (port + 1) (low / 256) d s temps t h)

  module _ (inputs : Inputs) where
    -- the same number is read, and the same events come of it
    record Reads (width port d : ℕ) (s : State) (temps : Temps) (t : State) : Type 0 where
      match : Match program table fs d (bytes_read inputs width port s) (machine temps (bytes_read inputs width port t))
      number : number_read inputs width port t ≡ number_read inputs width port s

    byte_match : (port d : ℕ) (s : State) (temps : Temps) (t : State) → Match program table fs d s (machine temps t)
        → (next_byte inputs port t ≡ next_byte inputs port s) × Match program table fs d (byte_read inputs port s)
        (machine temps (byte_read inputs port t))
    byte_match port d s temps t h =
        let same : next_byte inputs port t ≡ next_byte inputs port s = ap (λ es. slice_index (inputs port) (reads_of port es)) h.events in (
          same,
          subst (λ (b : ℕ). Match program table fs d (byte_read inputs port s) (machine temps (with_event (In port b) t))) (sym same)
              (event_match program table (In port (next_byte inputs port s)) d s temps t h),
        )

    reads_match : (width port d : ℕ) (s : State) (temps : Temps) (t : State) → Match program table fs d s (machine temps t)
        → Reads width port d s temps t
    reads_match zero port d s temps t h = record { match = h; number = refl }
    reads_match (suc n) port d s temps t h =
        let b = byte_match port d s temps t h in
        let r = reads_match n (port + 1) d (byte_read inputs port s) temps (byte_read inputs port t) b.1 in
        record {
          match = r.match;
          number = ap (λ x. x + 256 * number_read inputs n (port + 1) (byte_read inputs port t)) b.0 ∙ ap
              (λ x. next_byte inputs port s + 256 * x) r.number;
        }

number_below : (inputs : Inputs) → GiveBytes inputs → (n port : ℕ) (s : State) → number_read inputs n port s < 256 ^ n
number_below inputs bytes zero port s = omega arith
number_below inputs bytes (suc n) port s =
    let b : next_byte inputs port s < 256 = bytes port _ in
    let r = number_below inputs bytes n (port + 1) (byte_read inputs port s) in
    let p : 256 ^ suc n ≡ 256 ^ n * 256 = pow-suc 256 n in
    omega (arith, b, r, p)

-- a read changes no groups
read_groups : (inputs : Inputs) (n port : ℕ) (s : State) → (bytes_read inputs n port s).groups ≡ s.groups
read_groups inputs zero port s = refl
read_groups inputs (suc n) port s = read_groups inputs n (port + 1) (byte_read inputs port s)

-- ---- unsigned values

abbrev pub value_type : Bool → PlainType
value_type long = if long then unsigned_long else unsigned_int

pub value_scalar : (long : Bool) → IsScalar (value_type long)
value_scalar true = inr (inr refl)
value_scalar false = inr (inl refl)

-- the value of an unsigned type is a number that its bytes hold
abbrev IsUnsigned : ℕ → Value → Type 0
IsUnsigned b v = (m : ℕ) × (v ≡ Number (pos m)) × (m < 256 ^ b)

within_16 : (n : ℤ) → IsWithin false 16 n → IsUnsigned 2 (Number n)
within_16 (pos m) h = let g = h.high in (m, refl, omega (arith, ints, g))
within_16 (negsuc m) h = let g = h.low in absurd (omega (arith, ints, g))

within_32 : (n : ℤ) → IsWithin false 32 n → IsUnsigned 4 (Number n)
within_32 (pos m) h = let g = h.high in (m, refl, omega (arith, ints, g))
within_32 (negsuc m) h = let g = h.low in absurd (omega (arith, ints, g))

pub unsigned_value : (program : PlainProgram) (long : Bool) (v : Value) → HasType program (value_type long) v
    → IsUnsigned (scalar_size (value_type long)) v
unsigned_value program true (Number n) h = within_32 n h.1
unsigned_value program true (Pointer p) h = absurd h
unsigned_value program false (Number n) h = within_16 n h.1
unsigned_value program false (Pointer p) h = absurd h

pub low_of : (b m : ℕ) → m < 256 ^ b → low_bytes b (pos m) ≡ m
low_of b m lt = mod-eq_of_lt lt

-- ---- updates

updated_below : (op : IoOp) (long : Bool) (m n : ℕ) → m < 256 ^ scalar_size (value_type long) → n < 256 ^ scalar_size (value_type long)
    → updated op m n < 256 ^ scalar_size (value_type long)
updated_below op true m n h k = by_operator (λ o f. f m n < 256 ^ 4) (let le = and_le_l m n in omega (arith, le, h)) (or_lt 32 m n h k)
    (xor_lt 32 m n h k) op
updated_below op false m n h k = by_operator (λ o f. f m n < 256 ^ 2) (let le = and_le_l m n in omega (arith, le, h)) (or_lt 16 m n h k)
    (xor_lt 16 m n h k) op

-- numbers that the type holds are their own bits
pub bits_same : (b : ℕ) (f : ℕ → ℕ → ℕ) (m n : ℕ) → m < 2 ^ (8 * b) → n < 2 ^ (8 * b)
    → f (low_bits (record { signed = false; bytes = b }) (pos m)) (low_bits (record { signed = false; bytes = b }) (pos n)) ≡ f m n
bits_same b f m n h k =
    ap (λ x. f x (low_bits (record { signed = false; bytes = b }) (pos n))) (mod-eq_of_lt h) ∙ ap (f m) (mod-eq_of_lt k)

abbrev number : ℕ → Result Value Undefined
number n = Ok (Number (pos n))

updated_is : (op : IoOp) (long : Bool) (mode : Mode) (program : PlainProgram) (s : State) (m n : ℕ)
    → m < 256 ^ scalar_size (value_type long) → n < 256 ^ scalar_size (value_type long)
    → binary_result (port_operator op) (value_type long) mode (operand_of program (value_type long) (Number (pos m)) s)
    (operand_of program (value_type long) (Number (pos n)) s) ≡ Ok (Number (pos (updated op m n)))
updated_is op true mode program s m n h k =
    by_operator (λ o f. binary_result o unsigned_long mode (operand_of program unsigned_long (Number (pos m)) s)
    (operand_of program unsigned_long (Number (pos n)) s) ≡ number (f m n))
    (ap number (bits_same 4 bit_and m n h k)) (ap number (bits_same 4 bit_or m n h k)) (ap number (bits_same 4 bit_xor m n h k)) op
updated_is op false mode program s m n h k =
    by_operator (λ o f. binary_result o unsigned_int mode (operand_of program unsigned_int (Number (pos m)) s)
    (operand_of program unsigned_int (Number (pos n)) s) ≡ number (f m n))
    (ap number (bits_same 2 bit_and m n h k)) (ap number (bits_same 2 bit_or m n h k)) (ap number (bits_same 2 bit_xor m n h k)) op

-- ---- operations

module _ (w : Spot) where
  -- where an operation on a port accesses it, whatever the work so far
  abbrev pub ElementAt : (port width : ℕ) → Option Temp → Temps → ℕ → Type 0
  ElementAt port width index temps a = (t : State) → element_of_port port width index (machine temps t) ≡ got a t

  -- an operand that may be absent, in its temporary
  abbrev pub IsHeld : PlainProgram → OptionPlainExpr → Value → ℕ → Temps → Type 0
  IsHeld program no_expr v t temps = v ≡ no_value
  IsHeld program (an_expr e) v t temps = (IsScalar (type_of_expr e) → temps t ≡ Some (held_of (type_of_expr e) v)) × HasType program
      (type_of_expr e) v

  -- it is kept where its place is
  pub held_kept : (program : PlainProgram) (e : OptionPlainExpr) (v : Value) (t : ℕ) (temps more : Temps) → more t ≡ temps t
      → IsHeld program e v t temps → IsHeld program e v t more
  held_kept program no_expr v t temps more same h = h
  held_kept program (an_expr e) v t temps more same h = ((λ i. same ∙ h.0 i), h.1)

  -- the value of an operand of a type
  pub value_held : (program : PlainProgram) (long : Bool) (e : OptionPlainExpr) (v : Value) (t : ℕ) (temps : Temps)
      → IsOperandIf true (value_type long) e → IsHeld program e v t temps
      → (temps t ≡ Some (held_of (value_type long) (Number (pos (unsigned v))))) × (unsigned v < 256 ^ scalar_size (value_type long))
  value_held program long no_expr v t temps h held = absurd h
  value_held program long (an_expr e) v t temps h held =
      let u = unsigned_value program long v (subst (λ (z : PlainType). HasType program z v) h held.1) in
      let same : unsigned v ≡ u.0 = ap unsigned u.1 in
      let lt = u.2 in
      let is : v ≡ Number (pos (unsigned v)) = u.1 ∙ ap (λ (m : ℕ). Number (pos m)) (sym same) in (
        held.0 (subst IsScalar (sym h) (value_scalar long)) ∙ ap (λ (z : PlainType). Some (held_of z v)) h ∙ ap
            (λ (z : Value). Some (held_of (value_type long) z)) is,
        subst (λ (m : ℕ). m < 256 ^ scalar_size (value_type long)) (sym same) lt,
      )

  -- a number is read as it was written
  pub number_held : (ty : PlainType) (q m : ℕ) (temps : Temps) (t : State) → temps q ≡ Some (held_of ty (Number (pos m)))
      → m < 256 ^ scalar_size ty → held_number (temp q ty) temps t ≡ got m t
  number_held ty q m temps t e lt =
      ap (λ z. next z number_in) (held_is ty q (Number (pos m)) temps t e) ∙ ap (λ (k : ℕ). got k t) (low_of (scalar_size ty) m lt)

  pub element_is : (program : PlainProgram) (indexed : Bool) (e : OptionPlainExpr) (v : Value) (t : ℕ) (temps : Temps) (port width : ℕ)
      → IsOperandIf indexed unsigned_int e → IsHeld program e v t temps
      → ElementAt port width (operand_temp e t) temps (port + unsigned v * width)
  element_is program true no_expr v t temps port width h held s = absurd h
  element_is program false no_expr v t temps port width h held s =
      let z : unsigned v ≡ 0 = ap unsigned held in
      ap (λ (a : ℕ). got a s) (let y : unsigned v * width ≡ 0 * width = ap (λ (k : ℕ). k * width) z in omega (arith, y))
  element_is program true (an_expr e) v t temps port width h held s =
      let x = value_held program false (an_expr e) v t temps h held in
      ap (λ (z : PlainType). next (held_number (temp t z) temps s) (λ i s1. got (port + i * width) s1)) h
      ∙ ap (λ z. next z (λ i s1. got (port + i * width) s1)) (number_held unsigned_int t (unsigned v) temps s x.0 x.1)
  element_is program false (an_expr e) v t temps port width h held s = absurd h

  -- ---- the address of a port

  -- the address of a port as it stands, which operations have as it is, or behind what the cell of its dynamic group
  -- holds
  abbrev pub IsAddress : (dynamic : Option ℕ) → GroupStates → (offset address : ℕ) → Type 0
  IsAddress None x offset address = address ≡ offset
  IsAddress (Some d) x offset address = (c : Choice) × (bound_in w.table x d ≡ Some c) × (address ≡ c.base + offset)

  abbrev element_from : (dynamic : Option ℕ) → (offset width : ℕ) → Option Temp → Mach → Outcome ℕ
  element_from None offset width index m = element_of_port offset width index m
  element_from (Some d) offset width index m = element_of_cell d offset width index m

  -- it is the element there
  element_same : (dynamic : Option ℕ) (x : GroupStates) (offset address width : ℕ) (index : Option Temp) (temps : Temps) (a : ℕ) (t : State)
      → IsAddress dynamic x offset address → AreBased w.table x t.groups → ElementAt address width index temps a
      → element_from dynamic offset width index (machine temps t) ≡ got a t
  element_same None x offset address width index temps a t e h el =
      ap (λ z. element_of_port z width index (machine temps t)) (sym e) ∙ el t
  element_same (Some d) x offset address width index temps a t e h el =
      ap (λ z. next (based z t) (λ base s. element_of_port (base + offset) width index (machine temps s))) (h.bases d e.0 e.1)
      ∙ ap (λ z. element_of_port z width index (machine temps t)) (sym e.2) ∙ el t

  -- ---- a read

  in_goes : (width a : ℕ) (o : Outcome ℕ) (t1 : State) (go : Value → State → Outcome Value) → o ≡ got a t1 → a + width ≤ 256
      → next o (λ a1 s1. next (port_read w.inputs a1 width s1) go)
      ≡ go (Number (pos (number_read w.inputs width a t1))) (bytes_read w.inputs width a t1)
  in_goes width a o t1 go e le =
      ap (λ z. next z (λ a1 s1. next (port_read w.inputs a1 width s1) go)) e
      ∙ ap (λ c. next (if c then got (Number (pos (number_read w.inputs width a t1))) (bytes_read w.inputs width a t1) else undefined
      BufferIndex t1) go) (le-leb (a + width) 256 le)

  in_step : (dynamic : Option ℕ) (t : ℕ) (ty : PlainType) (offset width : ℕ) (index : Option Temp) (a : ℕ) (u : Mach)
      (rest : List PlainIr) → a + width ≤ 256
      → let t1 = worked (op_steps (read_from dynamic (temp t ty) offset index width)) u.state in
      element_from dynamic offset width index (machine u.temps t1) ≡ got a t1
      → (k : ℕ) → goes w (suc k) (read_from dynamic (temp t ty) offset index width ∷ rest) u ≡ goes w k rest
      (machine (with_temp (temp t ty) (Number (pos (number_read w.inputs width a t1))) u.temps) (bytes_read w.inputs width a t1))
  in_step None t ty offset width index a u rest le e k =
      let t1 = worked (op_steps (read_from None (temp t ty) offset index width)) u.state in
      in_goes width a (element_from None offset width index (machine u.temps t1)) t1
      (λ v s2. goes w k rest (machine (with_temp (temp t ty) v u.temps) s2)) e le
  in_step (Some d) t ty offset width index a u rest le e k =
      let t1 = worked (op_steps (read_from (Some d) (temp t ty) offset index width)) u.state in
      in_goes width a (element_from (Some d) offset width index (machine u.temps t1)) t1
      (λ v s2. goes w k rest (machine (with_temp (temp t ty) v u.temps) s2)) e le

  pub in_runs : (n t d e : ℕ) (b : Temps) (ty : PlainType) (dynamic : Option ℕ) (offset address width : ℕ) (index : Option Temp) (a : ℕ)
      (s : State) (u : Mach) (rest : List PlainIr)
      → IsAddress dynamic s.groups offset address → ElementAt address width index u.temps a → a + width ≤ 256
      → op_words (read_from dynamic (temp t ty) offset index width) + d ≤ e → Match w.program w.table (around w) e s u → Below w t b u
      → Runs w n (read_from dynamic (temp t ty) offset index width ∷ rest) u (to_rest w rest) (HasValue w ty t d b)
      (got (Number (pos (number_read w.inputs width a s))) (bytes_read w.inputs width a s))
  in_runs n t d e b ty dynamic offset address width index a s u rest is el le pays h same =
      let i = read_from dynamic (temp t ty) offset index width in
      let t1 : State = worked (op_steps i) u.state in
      let held = with_temp (temp t ty) (Number (pos (number_read w.inputs width a t1))) u.temps in
      let r = reads_match w.program w.table (around w) w.inputs width a d s held t1 (spent_on w.program w.table e d i held s u pays h) in
      ends w (to_rest w rest) (HasValue w ty t d b) n (here w (i ∷ rest)) (here w rest) u
      (machine held (bytes_read w.inputs width a t1)) (Number (pos (number_read w.inputs width a s)))
      (bytes_read w.inputs width a s) refl
      (counts w (i ∷ rest) (here w rest) u (machine held (bytes_read w.inputs width a t1))
      (in_step dynamic t ty offset width index a u rest le
      (element_same dynamic s.groups offset address width index u.temps a t1 is h.cells el)))
      (record {
        match = r.match;
        value = λ z. held_at t (held_of ty (Number (pos (number_read w.inputs width a t1)))) u.temps ∙ ap
            (λ (m : ℕ). Some (held_of ty (Number (pos m)))) r.number;
        same = λ j lt. held_below t (held_of ty (Number (pos (number_read w.inputs width a t1)))) u.temps j lt ∙ same j lt;
      })

  -- ---- a write

  out_goes : (q : ℕ) (ty : PlainType) (width a low : ℕ) (temps : Temps) (o : Outcome ℕ) (t1 : State) (go : State → Outcome Value)
      → o ≡ got a t1 → a + width ≤ 256 → temps q ≡ Some (held_of ty (Number (pos low))) → low < 256 ^ scalar_size ty
      → next o (λ a1 s1. next (held_number (temp q ty) temps s1) (λ x s2. next (port_written a1 width x s2) (λ v s3. go s3)))
      ≡ go (bytes_written width a low t1)
  out_goes q ty width a low temps o t1 go e le held lt =
      ap (λ z. next z (λ a1 s1. next (held_number (temp q ty) temps s1)
      (λ x s2. next (port_written a1 width x s2) (λ v s3. go s3)))) e
      ∙ ap (λ z. next z (λ x s2. next (port_written a width x s2) (λ v s3. go s3)))
      (number_held ty q low temps t1 held lt)
      ∙ ap (λ c. next (if c then got (Number (pos low)) (bytes_written width a low t1) else undefined BufferIndex t1)
      (λ v s3. go s3)) (le-leb (a + width) 256 le)

  out_step : (dynamic : Option ℕ) (q : ℕ) (ty : PlainType) (offset width : ℕ) (index : Option Temp) (a low : ℕ) (u : Mach)
      (rest : List PlainIr) → a + width ≤ 256 → u.temps q ≡ Some (held_of ty (Number (pos low))) → low < 256 ^ scalar_size ty
      → let t1 = worked (op_steps (write_to dynamic (temp q ty) offset index width)) u.state in
      element_from dynamic offset width index (machine u.temps t1) ≡ got a t1
      → (k : ℕ) → goes w (suc k) (write_to dynamic (temp q ty) offset index width ∷ rest) u ≡ goes w k rest
      (machine u.temps (bytes_written width a low t1))
  out_step None q ty offset width index a low u rest le held lt e k =
      let t1 = worked (op_steps (write_to None (temp q ty) offset index width)) u.state in
      out_goes q ty width a low u.temps (element_from None offset width index (machine u.temps t1)) t1
      (λ s3. goes w k rest (machine u.temps s3)) e le held lt
  out_step (Some d) q ty offset width index a low u rest le held lt e k =
      let t1 = worked (op_steps (write_to (Some d) (temp q ty) offset index width)) u.state in
      out_goes q ty width a low u.temps (element_from (Some d) offset width index (machine u.temps t1)) t1
      (λ s3. goes w k rest (machine u.temps s3)) e le held lt

  pub out_runs : (n q t d e : ℕ) (b : Temps) (ty : PlainType) (dynamic : Option ℕ) (offset address width : ℕ) (index : Option Temp)
      (a low : ℕ) (s : State) (u : Mach) (rest : List PlainIr)
      → IsAddress dynamic s.groups offset address → ElementAt address width index u.temps a → a + width ≤ 256
      → u.temps q ≡ Some (held_of ty (Number (pos low))) → low < 256 ^ scalar_size ty
      → op_words (write_to dynamic (temp q ty) offset index width) + d ≤ e → Match w.program w.table (around w) e s u → Below w t b u
      → Runs w n (write_to dynamic (temp q ty) offset index width ∷ rest) u (to_rest w rest) (HasValue w void t d b)
      (got no_value (bytes_written width a low s))
  out_runs n q t d e b ty dynamic offset address width index a low s u rest is el le held lt pays h same =
      let i = write_to dynamic (temp q ty) offset index width in
      let t1 : State = worked (op_steps i) u.state in
      let u1 : Mach = machine u.temps (bytes_written width a low t1) in
      ends w (to_rest w rest) (HasValue w void t d b) n (here w (i ∷ rest)) (here w rest) u u1 no_value (bytes_written width a low s) refl
      (counts w (i ∷ rest) (here w rest) u u1 (out_step dynamic q ty offset width index a low u rest le held lt
      (element_same dynamic s.groups offset address width index u.temps a t1 is h.cells el)))
      (record {
        match = written_match w.program w.table (around w) width a low d s u.temps t1 (spent_on w.program w.table e d i u.temps s u pays h);
        value = λ z.
            absurd z;
        same = same;
      })

  -- ---- the pairs of a group

  pub pairs_run : (n t d : ℕ) (b : Temps) (ps : List Pair) (s : State) (u : Mach) (rest : List PlainIr) → AllByRecursion IsBytePair ps
      → Match w.program w.table (around w) (d + 10 * length ps) s u → Below w t b u
      → Runs w n (pairs_code ps t rest) u (to_rest w rest) (HasValue w void t d b) (got no_value (pairs_written ps s))
  pairs_run n t d b [] s u rest h m same = (
    u,
    record { match = less w.program w.table (d + 10 * 0) d s u (omega arith) m; value = λ z. absurd z; same = same },
    stays w (here
        w rest) u,
  )
  pairs_run n t d b (p ∷ ps) s u rest h m same =
      let after_pair = pairs_code ps t rest in
      let out : PlainIr = write_to None (temp t byte_type) p.port None 1 in
      let e = d + 10 * length ps in
      let lt = h.0.0 in
      let small : p.byte < 256 ^ 1 = h.0.1 in
      let x = constant_runs w n t (e + 5) (d + 10 * suc (length ps)) b byte_type (pos p.byte) s u (out ∷ after_pair) (omega arith) m same in
      let y = out_runs n t t e (e + 5) b byte_type None p.port p.port 1 None p.port p.byte s x.0 after_pair refl (λ s1. refl)
      (omega (arith, lt))
      (x.1.value (inl refl)) small (omega arith) x.1.match x.1.same in
      after w (to_rest w rest) (HasValue w void t d b) n (here w (pairs_code (p ∷ ps) t rest)) (here w (out ∷ after_pair)) u x.0
      (got no_value (pairs_written (p ∷ ps) s)) x.2
      (after w (to_rest w rest) (HasValue w void t d b) n (here w (out ∷ after_pair)) (here w after_pair) x.0 y.0
      (got no_value (pairs_written (p ∷ ps) s)) y.2
      (pairs_run n t d b ps (with_event (Out p.port p.byte) s) y.0 rest h.1
      (subst (λ (z : ℕ). Match w.program w.table (around w) e (with_event (Out p.port z) s) y.0) (mod-eq_of_lt small) y.1.match) y.1.same))

  -- ---- an operation on a port, from its operands on

  module _ (bytes : GiveBytes w.inputs) (program : PlainProgram) where
    -- the value at v, where the operation takes one
    abbrev pub HasValueAt : PortAction → Bool → (low v : ℕ) → Temps → Type 0
    HasValueAt reads long low v temps = ⊤
    HasValueAt writes long low v temps = (temps v ≡ Some (held_of (value_type long) (Number (pos low)))) ×
        (low < 256 ^ scalar_size (value_type long))
    HasValueAt updates long low v temps = (temps v ≡ Some (held_of (value_type long) (Number (pos low)))) ×
        (low < 256 ^ scalar_size (value_type long))

    pub port_runs : (action : PortAction) (n t v d : ℕ) (b : Temps) (op : IoOp) (long indexed : Bool) (mode : Mode) (port : PlainPort)
        (address : ℕ) (index : OptionPlainExpr) (x : Value) (low : ℕ) (s : State) (u : Mach) (rest : List PlainIr)
        → IsAddress port.dynamic s.groups port.address address
        → IsOperandIf indexed unsigned_int index → IsHeld program index x t u.temps → HasValueAt action long low v u.temps → t ≤ v
        → address + unsigned x * port.width + port.width ≤ 256 → IsOperated w.table long port
        → Match w.program w.table (around w) (d + port_words action port.width) s u → Below w t b u
        → Runs w n (port_code action (port_operator op) (value_type long) mode port (operand_temp index t) t v rest) u (to_rest w rest)
        (HasValue w (port_result action (value_type long)) t d b)
        (port_accessed w.inputs action op port.width (address + unsigned x * port.width) low s)
    port_runs reads n t v d b op long indexed mode port address index x low s u rest is oi hx hv tv le operated m same =
        let i = read_pays port.dynamic (temp t (value_type long)) port.address index t port.width in let c = port_bytes long in
        in_runs n t d (d + port_words reads port.width) b (value_type long) port.dynamic port.address address port.width
        (operand_temp index t) (address + unsigned x * port.width) s u rest is
        (element_is program indexed index x t u.temps address port.width oi hx) le (omega (arith, i, c)) m same
    port_runs writes n t v d b op long indexed mode port address index x low s u rest is oi hx hv tv le operated m same =
        let i = write_pays port.dynamic (temp v (value_type long)) port.address index t port.width in let c = port_bytes long in
        out_runs n v t d (d + port_words writes port.width) b (value_type long) port.dynamic port.address address port.width
        (operand_temp index t) (address + unsigned x * port.width) low s u rest is
        (element_is program indexed index x t u.temps address port.width oi hx) le hv.0 hv.1 (omega (arith, i, c)) m same
    port_runs updates n t v d b op long indexed mode port address index x low s u rest is oi hx hv tv le operated m same =
        let ty = value_type long in
        let a = address + unsigned x * port.width in
        let idx = operand_temp index t in
        let out_code : List PlainIr = write_to port.dynamic (temp (v + 1) ty) port.address idx port.width ∷ rest in
        let op_code : List PlainIr = binary_op (port_operator op) ty mode (temp (v + 1) ty) (temp (v + 1) ty) ty (temp v ty) ty ∷ out_code
        in
        let in_code : List PlainIr = read_from port.dynamic (temp (v + 1) ty) port.address idx port.width ∷ op_code in
        let s1 = bytes_read w.inputs port.width a s in
        let old = number_read w.inputs port.width a s in
        let z : Outcome Value = got no_value (bytes_written port.width a (updated op old low) s1) in
        let small = old_below long port.width a s operated.width operated.four in
        let d2 = d + (60 + 10 * port.width) in
        let d1 = d2 + binary_words (port_operator op) ty ty ty in
        let i = read_pays port.dynamic (temp (v + 1) ty) port.address index t port.width in
        let o = write_pays port.dynamic (temp (v + 1) ty) port.address index t port.width in
        let c = port_bytes long in let k = operator_words op long in
        let y = in_runs n (v + 1) d1 (d + port_words updates port.width) u.temps ty port.dynamic port.address address port.width idx a s u
        op_code is (element_is program indexed index x t u.temps address port.width oi hx) le (omega (arith, i, c, k)) m (λ j lt. refl) in
        let q = binary_over w n v d2 d1 (port_operator op) ty mode ty ty (Number (pos old)) (Number (pos low))
        (Number (pos (updated op old low))) s1 y.0 out_code (value_scalar long) (number_typed long old small) (value_scalar long)
        (number_typed long low hv.1) (omega arith)
        y.1.match (y.1.value (value_scalar long)) (y.1.same v (omega arith) ∙ hv.0)
        (updated_is op long mode w.program s1 old low small hv.1) in
        let kept : (j : ℕ) → j < v + 1 → q.0.temps j ≡ u.temps j = λ j lt. q.1.same j lt ∙ y.1.same j lt in
        after w (to_rest w rest) (HasValue w void t d b) n (here w in_code) (here w op_code) u y.0 z y.2
        (after w (to_rest w rest) (HasValue w void t d b) n (here w op_code) (here w out_code) y.0 q.0 z q.2
        (out_runs n (v + 1) t d d2 b ty port.dynamic port.address address port.width idx a (updated op old low) s1 q.0 rest
        (subst (λ (z : GroupStates). IsAddress port.dynamic z port.address address)
        (sym (read_groups w.inputs port.width a s)) is)
        (element_is program indexed index x t q.0.temps address port.width oi
        (held_kept program index x t u.temps q.0.temps (kept t (omega (arith, tv))) hx)) le
        (q.1.value (value_scalar long)) (updated_below op long old low small hv.1) (omega (arith, o, c)) q.1.match
        (λ j lt. kept j (omega (arith, lt, tv)) ∙ same j lt)))
      where
        old_below : (long : Bool) (width a : ℕ) (s : State) → ((width ≡ 1) ⊎ ((width ≡ 2) ⊎ (width ≡ 4))) → (width ≡ 4 → IsTrue long)
            → number_read w.inputs width a s < 256 ^ scalar_size (value_type long)
        old_below long width a s c four = by_width long c four (number_below w.inputs bytes width a s)
          where
            by_width : (long : Bool) → ((width ≡ 1) ⊎ ((width ≡ 2) ⊎ (width ≡ 4))) → (width ≡ 4 → IsTrue long)
                → number_read w.inputs width a s < 256 ^ width → number_read w.inputs width a s < 256 ^ scalar_size (value_type long)
            by_width true (inl e) four h = let g : number_read w.inputs width a s < 256 ^ 1 = subst
                (λ (k : ℕ). number_read w.inputs width a s < 256 ^ k) e h in omega (arith, g)
            by_width true (inr (inl e)) four h = let g : number_read w.inputs width a s < 256 ^ 2 = subst
                (λ (k : ℕ). number_read w.inputs width a s < 256 ^ k) e h in omega (arith, g)
            by_width true (inr (inr e)) four h = subst (λ (k : ℕ). number_read w.inputs width a s < 256 ^ k) e h
            by_width false (inl e) four h = let g : number_read w.inputs width a s < 256 ^ 1 = subst
                (λ (k : ℕ). number_read w.inputs width a s < 256 ^ k) e h in omega (arith, g)
            by_width false (inr (inl e)) four h = subst (λ (k : ℕ). number_read w.inputs width a s < 256 ^ k) e h
            by_width false (inr (inr e)) four h = let f : false ≡ true = four e in cc

        operator_words : (op : IoOp) (long : Bool)
            → binary_words (port_operator op) (value_type long) (value_type long) (value_type long) ≤ 40
        operator_words op true = let e = update_words_are op 4 in omega (arith, e)
        operator_words op false = let e = update_words_are op 2 in omega (arith, e)

        number_typed : (long : Bool) (m : ℕ) → m < 256 ^ scalar_size (value_type long) → HasType w.program (value_type long)
            (Number (pos m))
        number_typed true m lt = (inr (inr refl), record { low = omega (arith, ints); high = omega (arith, ints, lt) })
        number_typed false m lt = (inr (inl refl), record { low = omega (arith, ints); high = omega (arith, ints, lt) })
