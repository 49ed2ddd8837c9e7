-- What operations write are objects of the data bank: a store to one that is kept in flash has no meaning.
use Rattle.std.proofs.Common.{◌≡◌, ℕ, zero, suc, ◌+◌, ◌/◌, ◌%◌, Bool, true, false, List, [], ◌∷◌, Option, Some, None}
use Rattle.std.proofs.Common.{Result, Ok, Err, refl, ap}
use Rattle.std.specs.Prelude.{◌==◌, if◌then◌else◌, slice_get, nat_le, pos, ⊤, IsSomeAnd, option_and_then, option_map}
use Rattle.std.specs.List.{AllByRecursion}
use Rattle.ec_space.specs.declared.space.Bank.TheVariants.{Data as DataBank}
use Rattle.ec_space.specs.declared.space.Home.{Home}
use Rattle.ec_space.specs.declared.space.SpaceId.{SpaceId}
use Rattle.ec_space.specs.Spaces.{bank_of}
use Rattle.ec_core.specs.declared.values.Undefined.{Undefined}
use Rattle.ec_core.specs.declared.values.Undefined.TheVariants.{Unset, BufferIndex, ConstWrite}
use Rattle.ec_core.specs.declared.values.Value.{Value}
use Rattle.ec_core.specs.declared.values.Value.TheVariants.{Number, Pointer}
use Rattle.ec_core.specs.Accesses.{referent_of, operand_of, Access, recorded, leaf_of, is_readable, read_value, read}
use Rattle.ec_core.specs.Accesses.{first_write, with_leaf, is_read_only}
use Rattle.ec_core.specs.Meaning.{state_of}
use Rattle.ec_core.specs.Operators.{unary_result, binary_result, conversion_result, unsuited}
use Rattle.ec_core.specs.Plain.{PlainType, PlainObject, PlainStorage, static, local, param, register, PlainProgram}
use Rattle.ec_core.specs.Pointers.{Pointer as PointerValue, moved}
use Rattle.ec_core.specs.PortAccesses.{number_read, bytes_read, bytes_written, byte_read, next_byte}
use Rattle.ec_core.specs.State.{Inputs, Event, In, Out, Read, Write, told, ObjectState, State, worked, with_event}
use Rattle.ec_core.specs.State.{with_object, with_choice, chosen, Outcome, got, more, undefined, next, given}
use Rattle.ec_core.specs.Typing.{int}
use Rattle.ec_core.proofs.Homes.{home_written}
use Rattle.ec_ir.specs.Costs.{op_steps}
use Rattle.ec_ir.specs.Meaning.{Mach, machine, held_as, pointer_in, held_pointer, number_in, held_number, object_access}
use Rattle.ec_ir.specs.Meaning.{access_at, leaf_from, accessed_type, is_access_of, pointer_access, put_leaf, put, Frame}
use Rattle.ec_ir.specs.Meaning.{Place, place, find, Go, jump_to, enter, returned, resulted, leave, element_of_port}
use Rattle.ec_ir.specs.Meaning.{based, element_of_cell}
use Rattle.ec_ir.specs.Meaning.{put_named, put_object, before_store, kept_for, active}
use Rattle.ec_ir.specs.Meaning.{port_read, port_written, perform, exec_from, exec, start, pointer_at, run}
use Rattle.ec_ir.specs.Operations.{PlainIr, constant, copy, address, field, load_at, store_at, load_object}
use Rattle.ec_ir.specs.Operations.{store_object, binary_op, unary_op, conversion, label, jump, branch_zero}
use Rattle.ec_ir.specs.Operations.{call_function, return_from, port_in, port_out, load_cell, store_cell, cell_port}
use Rattle.ec_ir.specs.Operations.{PlainIrFunction, PlainIrProgram}
use Rattle.ec_ir.specs.Operations.{data_of}
use Rattle.ec_ir.specs.Temporaries.{Content, bits, points, value_in, value_of_type, is_zero, Held, Temps, no_temps}
use Rattle.ec_ir.specs.Temporaries.{with_content, with_temp, read_held, held}
use Rattle.ec_ir.specs.declared.operations.Temp.{Temp}
use Rattle.ec_build_laws.proofs.Guarded.{both_append}

-- ---- events

abbrev pub IsKeptInData : PlainProgram → ℕ → Type 0
IsKeptInData p o = IsSomeAnd (slice_get p.objects o) (λ d. bank_of d.home ≡ DataBank)

-- what is written is kept in the data bank
abbrev pub WritesData : PlainProgram → Event → Type 0
WritesData p (In port byte) = ⊤
WritesData p (Out port byte) = ⊤
WritesData p (Read o k space v) = ⊤
WritesData p (Write o k space v) = IsKeptInData p o

not_flash : (home : Home) → is_read_only home ≡ false → bank_of home ≡ DataBank
not_flash home h = ap bank_of (home_written home h)

-- ---- what comes of a state

module _ (p : PlainProgram) where
  abbrev Good : State → Type 0
  Good s = AllByRecursion (WritesData p) s.events

  -- where all events of a state are such, so are those of what comes of it
  abbrev Keeps : {A : Type 0} → State → Outcome A → Type 0
  Keeps s o = Good s → Good (state_of o)

  keeps_next : {A B : Type 0} (s : State) (o : Outcome A) (go : A → State → Outcome B) → Keeps s o
      → ((x : A) (t : State) → Keeps t (go x t)) → Keeps s (next o go)
  keeps_next s (got x t) go h f = λ g. f x t (h g)
  keeps_next s (more t) go h f = h
  keeps_next s (undefined point t) go h f = h

  keeps_if : {A : Type 0} (s : State) (b : Bool) (x y : Outcome A) → Keeps s x → Keeps s y → Keeps s (if b then x else y)
  keeps_if s true x y h k = h
  keeps_if s false x y h k = k

  one_more : (s : State) (e : Event) → WritesData p e → Good s → Good (with_event e s)
  one_more s e is g = both_append (WritesData p) s.events (e ∷ []) g (is, tt)

  -- ---- temporaries

  keeps_given : {A : Type 0} (r : Result A Undefined) (s : State) → Keeps s (given r s)
  keeps_given (Ok x) s = λ g. g
  keeps_given (Err point) s = λ g. g

  keeps_held : (t : Temp) (temps : Temps) (s : State) → Keeps s (held t temps s)
  keeps_held t temps s = at_place (temps t.at) where
    at_place : (h : Option Held) → Keeps s (read_held t.bytes h s)
    at_place None = λ g. g
    at_place (Some h) = keeps_if s (h.bytes == t.bytes) (got h.content s) (undefined Unset s) (λ g. g) (λ g. g)

  keeps_held_as : (ty : PlainType) (t : Temp) (temps : Temps) (s : State) → Keeps s (held_as p ty t temps s)
  keeps_held_as ty t temps s =
      keeps_next s (held t temps s) _ (keeps_held t temps s) (λ content s1. keeps_given (value_of_type p ty content) s1)

  keeps_pointer_in : (content : Content) (s : State) → Keeps s (pointer_in content s)
  keeps_pointer_in (bits zero) s = λ g. g
  keeps_pointer_in (bits (suc low)) s = keeps_given (unsuited {A = PointerValue}) s
  keeps_pointer_in (points q) s = λ g. g

  keeps_pointer : (t : Temp) (temps : Temps) (s : State) → Keeps s (held_pointer t temps s)
  keeps_pointer t temps s = keeps_next s (held t temps s) _ (keeps_held t temps s) (λ content s1. keeps_pointer_in content s1)

  keeps_number_in : (content : Content) (s : State) → Keeps s (number_in content s)
  keeps_number_in (bits low) s = λ g. g
  keeps_number_in (points q) s = keeps_given (unsuited {A = ℕ}) s

  keeps_number : (t : Temp) (temps : Temps) (s : State) → Keeps s (held_number t temps s)
  keeps_number t temps s = keeps_next s (held t temps s) _ (keeps_held t temps s) (λ content s1. keeps_number_in content s1)

  -- ---- objects

  record_keeps : (storage : PlainStorage) (e : Event) (s : State) → WritesData p e → Good s → Good (recorded storage e s)
  record_keeps (static inits) e s is g = one_more s e is g
  record_keeps (local f) e s is g = one_more s e is g
  record_keeps (param f) e s is g = one_more s e is g
  record_keeps (register r) e s is g = g

  keeps_read : (a : Option Access) (s : State) → Keeps s (read p a s)
  keeps_read None s = λ g. g
  keeps_read (Some a) s = of_value (leaf_of a.state a.leaf) where
    of_value : (v : Option Value) → Keeps s (read_value p a v s)
    of_value None = λ g. g
    of_value (Some v) =
        keeps_if s (is_readable p v s) (got v (recorded a.declared.storage (Read a.object a.leaf a.space (told v)) s)) (undefined Unset s)
        (record_keeps a.declared.storage (Read a.object a.leaf a.space (told v)) s tt) (λ g. g)

  -- an access of an object of the program, as it is declared
  abbrev IsAccess : Option Access → Type 0
  IsAccess None = ⊤
  IsAccess (Some a) = slice_get p.objects a.object ≡ Some a.declared

  keeps_put_leaf : (a : Option Access) (v : Value) (s : State) → IsAccess a → Keeps s (put_leaf a v s)
  keeps_put_leaf None v s is = λ g. g
  keeps_put_leaf (Some a) v s is = by_home (is_read_only a.declared.home) refl where
    by_home : (b : Bool) → is_read_only a.declared.home ≡ b → Keeps s (if b then undefined ConstWrite s else first_write (Some a) v s)
    by_home true h = λ g. g
    by_home false h =
        let kept : IsKeptInData p a.object = rw is (not_flash a.declared.home h) in
        λ g. record_keeps a.declared.storage (Write a.object a.leaf a.space (told v)) (with_object a.object (with_leaf a.leaf v) s) kept g

  keeps_put : (a : Option Access) (t : Temp) (temps : Temps) (s : State) → IsAccess a → Keeps s (put p a t temps s)
  keeps_put a t temps s is =
      keeps_next s (held_as p (accessed_type p a) t temps s) _ (keeps_held_as (accessed_type p a) t temps s)
      (λ v s1. keeps_put_leaf a v s1 is)

  access_is : (space : Option SpaceId) (o offset : ℕ) (s : State) → IsAccess (object_access p space o offset s)
  access_is space o offset s = by_object (slice_get p.objects o) refl where
    by_leaf : (d : PlainObject) → slice_get p.objects o ≡ Some d → (x : ObjectState) (k : Option ℕ)
        → IsAccess (option_map (access_at space o d x) k)
    by_leaf d is x None = tt
    by_leaf d is x (Some k) = is

    by_state : (d : PlainObject) → slice_get p.objects o ≡ Some d → (x : Option ObjectState)
        → IsAccess (option_and_then (λ x. option_map (access_at space o d x) (leaf_from p d offset)) x)
    by_state d is None = tt
    by_state d is (Some x) = by_leaf d is x (leaf_from p d offset)

    by_object : (z : Option PlainObject) → slice_get p.objects o ≡ z
        → IsAccess (option_and_then
        (λ d. option_and_then (λ x. option_map (access_at space o d x) (leaf_from p d offset)) (slice_get s.objects o)) z)
    by_object None is = tt
    by_object (Some d) is = by_state d is (slice_get s.objects o)

  -- so is one through a pointer
  through_is : (space : SpaceId) (bytes : ℕ) (to : PointerValue) (s : State) → IsAccess (pointer_access p space bytes to s)
  through_is space bytes None s = tt
  through_is space bytes (Some q) s =
      by_access (object_access p (Some space) q.object q.offset s) (access_is (Some space) q.object q.offset s) where
        by_test : (a : Access) (b : Bool) → IsAccess (Some a) → IsAccess (if b then Some a else None)
        by_test a true is = is
        by_test a false is = tt

        by_access : (z : Option Access) → IsAccess z
            → IsAccess (option_and_then (λ a. if is_access_of p space bytes a then Some a else None) z)
        by_access None is = tt
        by_access (Some a) is = by_test a (is_access_of p space bytes a) is

  -- a store to a named object, once it is settled which frames stand
  keeps_put_object : (fs : List ℕ) (o offset : ℕ) (t : Temp) (temps : Temps) (s : State) → Keeps s (put_object p fs o offset t temps s)
  keeps_put_object fs o offset t temps s = by_storage (option_map (λ (d : PlainObject). d.storage) (slice_get p.objects o)) where
    named : (s1 : State) → Keeps s1 (put_named p o offset t temps s1)
    named s1 = keeps_put (object_access p None o offset s1) t temps s1 (access_is None o offset s1)

    by_storage : (storage : Option PlainStorage) → Keeps s (put_named p o offset t temps (before_store p fs storage s))
    by_storage None = named s
    by_storage (Some (static inits)) = named s
    by_storage (Some (local f)) = named s
    by_storage (Some (param g)) = named (kept_for p (g ∷ fs) s)
    by_storage (Some (register r)) = named s

  -- ---- returns and ports

  keeps_returned : (t : Option Temp) (m : Mach) → Keeps m.state (returned t m)
  keeps_returned None m = λ g. g
  keeps_returned (Some t) m = keeps_next m.state (held t m.temps m.state) _ (keeps_held t m.temps m.state) (λ content s g. g)

  keeps_resulted : (to : Option Temp) (result : Option Held) (temps : Temps) (s : State) → Keeps s (resulted to result temps s)
  keeps_resulted None result temps s = λ g. g
  keeps_resulted (Some t) None temps s = λ g. g
  keeps_resulted (Some t) (Some result) temps s = λ g. g

  keeps_element : (port width : ℕ) (t : Option Temp) (m : Mach) → Keeps m.state (element_of_port port width t m)
  keeps_element port width None m = λ g. g
  keeps_element port width (Some t) m = keeps_next m.state (held_number t m.temps m.state) _ (keeps_number t m.temps m.state) (λ i s g. g)

  keeps_based : (base : Option ℕ) (s : State) → Keeps s (based base s)
  keeps_based None s = λ g. g
  keeps_based (Some base) s = λ g. g

  keeps_cell : (cell offset width : ℕ) (t : Option Temp) (m : Mach) → Keeps m.state (element_of_cell cell offset width t m)
  keeps_cell cell offset width t m =
      keeps_next m.state (based (chosen cell m.state) m.state) _ (keeps_based (chosen cell m.state) m.state)
      (λ base s. keeps_element (base + offset) width t (machine m.temps s))

  bytes_read_keep : (inputs : Inputs) (n port : ℕ) (s : State) → Good s → Good (bytes_read inputs n port s)
  bytes_read_keep inputs zero port s g = g
  bytes_read_keep inputs (suc n) port s g =
      bytes_read_keep inputs n (port + 1) (byte_read inputs port s) (one_more s (In port (next_byte inputs port s)) tt g)

  bytes_written_keep : (n port low : ℕ) (s : State) → Good s → Good (bytes_written n port low s)
  bytes_written_keep zero port low s g = g
  bytes_written_keep (suc n) port low s g =
      one_more (bytes_written n (port + 1) (low / 256) s) (Out port (low % 256)) tt (bytes_written_keep n (port + 1) (low / 256) s g)

  -- ---- operations

  module _ (functions : List PlainIrFunction) (inputs : Inputs) where
    module _ (on : Mach → Outcome Value) (go : Go) (h : (m : Mach) → Keeps m.state (on m))
        (g : (q : Place) (m : Mach) → Keeps m.state (go q m)) where
      jump_keeps : (o : Option (List PlainIr)) (code : List PlainIr) (stack : List Frame) (m : Mach)
          → Keeps m.state (jump_to o go code stack m)
      jump_keeps None code stack m = λ x. x
      jump_keeps (Some rest) code stack m = g (place code stack rest) m

      enter_keeps : (o : Option PlainIrFunction) (stack : List Frame) (m : Mach) → Keeps m.state (enter o go stack m)
      enter_keeps None stack m = λ x. x
      enter_keeps (Some f) stack m = g (place f.code stack f.code) m

      leave_keeps : (stack : List Frame) (result : Option Held) (s : State) → Keeps s (leave p stack result go s)
      leave_keeps [] None s = λ x. x
      leave_keeps [] (Some result) s = keeps_given (value_in int result.content) s
      leave_keeps (f ∷ stack) result s =
          keeps_next s (resulted f.to result f.temps s) _ (keeps_resulted f.to result f.temps s)
          (λ temps s1. g (place f.code stack f.rest) (machine temps (kept_for p (active p.main stack) s1)))

      -- bytes of a port are read to a temporary, or written from one
      read_keeps : (to : Temp) (at width : ℕ) (q : Place) (temps : Temps) (s : State)
          → Keeps s (next (port_read inputs at width s) (λ v s1. go q (machine (with_temp to v temps) s1)))
      read_keeps to at width q temps s =
          keeps_next s (port_read inputs at width s) _
          (keeps_if s (nat_le (at + width) 256) (got (Number (pos (number_read inputs width at s))) (bytes_read inputs width at s))
          (undefined BufferIndex s) (bytes_read_keep inputs width at s) (λ x. x))
          (λ v s1. g q (machine (with_temp to v temps) s1))

      write_keeps : (from : Temp) (at width : ℕ) (q : Place) (temps : Temps) (s : State)
          → Keeps s (next (held_number from temps s) (λ low s1. next (port_written at width low s1) (λ v s2. go q (machine temps s2))))
      write_keeps from at width q temps s =
          keeps_next s (held_number from temps s) _ (keeps_number from temps s)
          (λ low s1. keeps_next s1 (port_written at width low s1) _
          (keeps_if s1 (nat_le (at + width) 256) (got (Number (pos low)) (bytes_written width at low s1)) (undefined BufferIndex s1)
          (bytes_written_keep width at low s1) (λ x. x))
          (λ v s2. g q (machine temps s2)))

      perform_keeps : (i : PlainIr) (code : List PlainIr) (stack : List Frame) (rest : List PlainIr) (temps : Temps) (s : State)
          → Keeps s (perform functions p inputs i on go code stack rest temps s)
      perform_keeps (constant t n) code stack rest temps s = h (machine (with_temp t (Number n) temps) s)
      perform_keeps (copy to from) code stack rest temps s =
          keeps_next s (held from temps s) _ (keeps_held from temps s) (λ content s1. h (machine (with_content to content temps) s1))
      perform_keeps (address t o offset) code stack rest temps s = h (machine (with_temp t (pointer_at o offset) temps) s)
      perform_keeps (field ptr space offset) code stack rest temps s =
          keeps_next s (held_pointer ptr temps s) _ (keeps_pointer ptr temps s)
          (λ q s1. keeps_next s1 (given (moved q (referent_of p q s1) (pos offset)) s1) _
          (keeps_given (moved q (referent_of p q s1) (pos offset)) s1)
          (λ z s2. h (machine (with_temp ptr (Pointer z) temps) s2)))
      perform_keeps (load_at to ptr space) code stack rest temps s =
          keeps_next s (held_pointer ptr temps s) _ (keeps_pointer ptr temps s)
          (λ q s1. keeps_next s1 (read p (pointer_access p space to.bytes q s1) s1) _ (keeps_read (pointer_access p space to.bytes q s1) s1)
          (λ x s2. g (place code stack rest) (machine (with_temp to x temps) s2)))
      perform_keeps (store_at ptr space from) code stack rest temps s =
          keeps_next s (held_pointer ptr temps s) _ (keeps_pointer ptr temps s)
          (λ q s1. keeps_next s1 (put p (pointer_access p space from.bytes q s1) from temps s1) _
          (keeps_put (pointer_access p space from.bytes q s1) from temps s1 (through_is space from.bytes q s1))
          (λ x s2. g (place code stack rest) (machine temps s2)))
      perform_keeps (load_object t o offset) code stack rest temps s =
          keeps_next s (read p (object_access p None o offset s) s) _ (keeps_read (object_access p None o offset s) s)
          (λ x s1. g (place code stack rest) (machine (with_temp t x temps) s1))
      perform_keeps (store_object o offset t) code stack rest temps s =
          keeps_next s (put_object p (active p.main stack) o offset t temps s) _
          (keeps_put_object (active p.main stack) o offset t temps s)
          (λ x s1. g (place code stack rest) (machine temps s1))
      perform_keeps (binary_op op ty mode to a aty b bty) code stack rest temps s =
          keeps_next s (held_as p aty a temps s) _ (keeps_held_as aty a temps s)
          (λ x s1. keeps_next s1 (held_as p bty b temps s1) _ (keeps_held_as bty b temps s1)
          (λ y s2. keeps_next s2 (given (binary_result op ty mode (operand_of p aty x s2) (operand_of p bty y s2)) s2) _
          (keeps_given (binary_result op ty mode (operand_of p aty x s2) (operand_of p bty y s2)) s2)
          (λ v s3. h (machine (with_temp to v temps) s3))))
      perform_keeps (unary_op op ty mode to a) code stack rest temps s =
          keeps_next s (held_as p ty a temps s) _ (keeps_held_as ty a temps s)
          (λ x s1. keeps_next s1 (given (unary_result op ty mode x) s1) _ (keeps_given (unary_result op ty mode x) s1)
          (λ v s2. h (machine (with_temp to v temps) s2)))
      perform_keeps (conversion to ty mode a aty) code stack rest temps s =
          keeps_next s (held_as p aty a temps s) _ (keeps_held_as aty a temps s)
          (λ x s1. keeps_next s1 (given (conversion_result ty mode (operand_of p aty x s1)) s1) _
          (keeps_given (conversion_result ty mode (operand_of p aty x s1)) s1) (λ v s2. h (machine (with_temp to v temps) s2)))
      perform_keeps (label l) code stack rest temps s = h (machine temps s)
      perform_keeps (jump l) code stack rest temps s = jump_keeps (find l code) code stack (machine temps s)
      perform_keeps (branch_zero t l) code stack rest temps s =
          keeps_next s (held t temps s) _ (keeps_held t temps s)
          (λ content s1. keeps_if s1 (is_zero content) (jump_to (find l code) go code stack (machine temps s1))
          (go (place code stack rest) (machine temps s1))
          (jump_keeps (find l code) code stack (machine temps s1)) (g (place code stack rest) (machine temps s1)))
      perform_keeps (call_function f to) code stack rest temps s =
          enter_keeps (slice_get functions f) (record { code = code; rest = rest; temps = temps; to = to; called = f } ∷ stack)
          (machine no_temps (kept_for p (f ∷ active p.main stack) s))
      perform_keeps (return_from from) code stack rest temps s =
          keeps_next s (returned from (machine temps s)) _ (keeps_returned from (machine temps s))
          (λ result s1. leave_keeps stack result s1)
      perform_keeps (port_in to port index width) code stack rest temps s =
          keeps_next s (element_of_port port width index (machine temps s)) _ (keeps_element port width index (machine temps s))
          (λ at s1. read_keeps to at width (place code stack rest) temps s1)
      perform_keeps (port_out from port index width) code stack rest temps s =
          keeps_next s (element_of_port port width index (machine temps s)) _ (keeps_element port width index (machine temps s))
          (λ at s1. write_keeps from at width (place code stack rest) temps s1)
      perform_keeps (load_cell to cell) code stack rest temps s =
          keeps_next s (based (chosen cell s) s) _ (keeps_based (chosen cell s) s)
          (λ base s1. g (place code stack rest) (machine (with_temp to (Number (pos base)) temps) s1))
      perform_keeps (store_cell cell from) code stack rest temps s =
          keeps_next s (held_number from temps s) _ (keeps_number from temps s)
          (λ low s1. g (place code stack rest) (machine temps (with_choice cell low s1)))
      perform_keeps (cell_port true to cell offset index width) code stack rest temps s =
          keeps_next s (element_of_cell cell offset width index (machine temps s)) _
          (keeps_cell cell offset width index (machine temps s))
          (λ at s1. read_keeps to at width (place code stack rest) temps s1)
      perform_keeps (cell_port false from cell offset index width) code stack rest temps s =
          keeps_next s (element_of_cell cell offset width index (machine temps s)) _
          (keeps_cell cell offset width index (machine temps s))
          (λ at s1. write_keeps from at width (place code stack rest) temps s1)

    exec_keeps : (n : ℕ) (code : List PlainIr) (stack : List Frame) (rest : List PlainIr) (m : Mach)
        → Keeps m.state (exec_from functions p inputs n code stack rest m)
    exec_keeps zero code stack rest m = λ x. x
    exec_keeps (suc n) code stack [] m = λ x. x
    exec_keeps (suc n) code stack (i ∷ rest) m =
        perform_keeps (λ u. exec_from functions p inputs (suc n) code stack rest u)
        (λ q u. exec_from functions p inputs n q.code q.stack q.rest u)
        (λ u. exec_keeps (suc n) code stack rest u) (λ q u. exec_keeps n q.code q.stack q.rest u)
        i code stack rest m.temps (worked (op_steps i) m.state)

pub writes_in_data : (q : PlainIrProgram) (inputs : Inputs) (n : ℕ)
    → AllByRecursion (WritesData (data_of q)) (state_of (run q inputs n)).events
writes_in_data q inputs n =
    enter_keeps (data_of q) q.functions inputs (λ u. more u.state) (λ z u. exec q.functions (data_of q) inputs n z u) (λ u x. x)
    (λ z u. exec_keeps (data_of q) q.functions inputs n z.code z.stack z.rest u) (slice_get q.functions q.main) [] (start (data_of q)) tt
