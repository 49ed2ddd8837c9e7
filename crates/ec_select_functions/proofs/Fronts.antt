-- What comes of a state only adds events to it.
use Rattle.std.proofs.Common.{◌≡◌, ℕ, zero, suc, ◌+◌, ◌*◌, ◌/◌, ◌%◌, Bool, true, false, List, [], ◌∷◌, ◌++◌, Option}
use Rattle.std.proofs.Common.{Some, None, Result, Ok, Err, refl}
use Rattle.std.specs.Prelude.{◌==◌, if◌then◌else◌, slice_get, option_map, nat_le, pos}
use Rattle.ec_runs.specs.Behaviours.{BeginWith}
use Rattle.ec_runs.proofs.Runs.{begin_itself, begin_onward}
use Rattle.ec_core.specs.declared.values.Undefined.{Undefined}
use Rattle.ec_core.specs.declared.values.Undefined.TheVariants.{Unset, BufferIndex, ConstWrite, Access as NoAccess}
use Rattle.ec_core.specs.declared.values.Value.{Value}
use Rattle.ec_core.specs.declared.values.Value.TheVariants.{Number, Pointer}
use Rattle.ec_core.specs.Accesses.{referent_of, operand_of, Access, recorded, leaf_of, is_readable, read_value, read}
use Rattle.ec_core.specs.Accesses.{first_write, is_read_only}
use Rattle.ec_core.specs.Meaning.{state_of}
use Rattle.ec_core.specs.Operators.{unary_result, binary_result, conversion_result, unsuited}
use Rattle.ec_core.specs.Pointers.{Pointer as PointerValue, moved}
use Rattle.ec_core.specs.Plain.{PlainType, PlainStorage, static, local, param, register, PlainObject}
use Rattle.ec_core.specs.Plain.{PlainProgram}
use Rattle.ec_core.specs.PortAccesses.{number_read, bytes_read, bytes_written, byte_read}
use Rattle.ec_core.specs.State.{Inputs, Event, Out, Read, told, State, worked, Outcome, got, more, undefined, next}
use Rattle.ec_core.specs.State.{given, with_choice, chosen}
use Rattle.ec_core.specs.Typing.{int}
use Rattle.ec_ir.specs.Costs.{op_steps}
use Rattle.ec_ir.specs.Meaning.{Mach, machine, held_as, pointer_in, held_pointer, number_in, held_number, object_access}
use Rattle.ec_ir.specs.Meaning.{pointer_access, accessed_type, put_leaf, put, Frame, Place, place, find, Go, jump_to}
use Rattle.ec_ir.specs.Meaning.{enter, returned, resulted, leave, element_of_port, based, element_of_cell, in_ports, port_read}
use Rattle.ec_ir.specs.Meaning.{port_written}
use Rattle.ec_ir.specs.Meaning.{perform, pointer_at, put_named, put_object, before_store, kept_for, active}
use Rattle.ec_ir.specs.Operations.{PlainIr, constant, copy, address, field, load_at, store_at, load_object}
use Rattle.ec_ir.specs.Operations.{store_object, binary_op, unary_op, conversion, label, jump, branch_zero}
use Rattle.ec_ir.specs.Operations.{call_function, return_from, port_in, port_out, load_cell, store_cell, cell_port}
use Rattle.ec_ir.specs.Operations.{PlainIrFunction}
use Rattle.ec_ir.specs.Temporaries.{Content, bits, points, value_in, value_of_type, is_zero, Held, Temps, no_temps}
use Rattle.ec_ir.specs.Temporaries.{with_content, with_temp, read_held, held}
use Rattle.ec_ir.specs.declared.operations.Temp.{Temp}
use Rattle.ec_select_functions.proofs.Checked.{is_known, checked_on, performed}

-- the events of what comes of a state begin with those of the state
pub record Adds {A : Type 0} (s : State) (o : Outcome A) : Type 0 where
  pub events : BeginWith s.events (state_of o).events

stays : {A : Type 0} (s : State) (o : Outcome A) → state_of o ≡ s → Adds s o
stays s (got x t) e = record { events = subst_begin t e }
  where
    subst_begin : (t : State) → t ≡ s → BeginWith s.events t.events
    subst_begin t e = rw e (begin_itself s.events)
stays s (more t) e = record { events = rw e (begin_itself s.events) }
stays s (undefined point t) e = record { events = rw e (begin_itself s.events) }

adds_after : {A : Type 0} (s t : State) (o : Outcome A) → BeginWith s.events t.events → Adds t o → Adds s o
adds_after s t o b h = record { events = begin_onward s.events t.events (state_of o).events b h.events }

adds_next : {A B : Type 0} (s : State) (o : Outcome A) (go : A → State → Outcome B) → Adds s o → ((x : A) (t : State) → Adds t (go x t))
    → Adds s (next o go)
adds_next s (got x t) go h f = adds_after s t (go x t) h.events (f x t)
adds_next s (more t) go h f = record { events = h.events }
adds_next s (undefined point t) go h f = record { events = h.events }

one_more : (s : State) (e : Event) → BeginWith s.events (s.events ++ e ∷ [])
one_more s e = record { added = e ∷ []; is = refl }

-- ---- temporaries

adds_given : {A : Type 0} (r : Result A Undefined) (s : State) → Adds s (given r s)
adds_given (Ok x) s = stays s (got x s) refl
adds_given (Err point) s = stays s (undefined point s) refl

adds_held : (t : Temp) (temps : Temps) (s : State) → Adds s (held t temps s)
adds_held t temps s = at_place (temps t.at)
  where
    if_bytes : (b : Bool) (content : Content) → Adds s (if b then got content s else undefined Unset s)
    if_bytes true content = stays s (got content s) refl
    if_bytes false content = stays {A = Content} s (undefined Unset s) refl

    at_place : (h : Option Held) → Adds s (read_held t.bytes h s)
    at_place None = stays {A = Content} s (undefined Unset s) refl
    at_place (Some h) = if_bytes (h.bytes == t.bytes) h.content

adds_held_as : (program : PlainProgram) (ty : PlainType) (t : Temp) (temps : Temps) (s : State)
    → Adds s (held_as program ty t temps s)
adds_held_as program ty t temps s =
    adds_next s (held t temps s) _ (adds_held t temps s) (λ content s1. adds_given (value_of_type program ty content) s1)

adds_pointer_in : (content : Content) (s : State) → Adds s (pointer_in content s)
adds_pointer_in (bits zero) s = stays s (got None s) refl
adds_pointer_in (bits (suc low)) s = adds_given (unsuited {A = PointerValue}) s
adds_pointer_in (points p) s = stays s (got (Some p) s) refl

adds_pointer : (t : Temp) (temps : Temps) (s : State) → Adds s (held_pointer t temps s)
adds_pointer t temps s = adds_next s (held t temps s) _ (adds_held t temps s) (λ content s1. adds_pointer_in content s1)

adds_number_in : (content : Content) (s : State) → Adds s (number_in content s)
adds_number_in (bits low) s = stays s (got low s) refl
adds_number_in (points p) s = adds_given (unsuited {A = ℕ}) s

adds_number : (t : Temp) (temps : Temps) (s : State) → Adds s (held_number t temps s)
adds_number t temps s = adds_next s (held t temps s) _ (adds_held t temps s) (λ content s1. adds_number_in content s1)

-- ---- objects

record_adds : {A : Type 0} (storage : PlainStorage) (e : Event) (x : A) (s : State) → Adds s (got x (recorded storage e s))
record_adds (static inits) e x s = record { events = one_more s e }
record_adds (local f) e x s = record { events = one_more s e }
record_adds (param f) e x s = record { events = one_more s e }
record_adds (register r) e x s = record { events = begin_itself s.events }

adds_read : (program : PlainProgram) (a : Option Access) (s : State) → Adds s (read program a s)
adds_read program None s = stays {A = Value} s (read program None s) refl
adds_read program (Some a) s = value (leaf_of a.state a.leaf)
  where
    readable : (b : Bool) (v : Value)
        → Adds s (if b then got v (recorded a.declared.storage (Read a.object a.leaf a.space (told v)) s) else undefined Unset s)
    readable true v = record_adds a.declared.storage _ v s
    readable false v = stays {A = Value} s (undefined Unset s) refl

    value : (v : Option Value) → Adds s (read_value program a v s)
    value None = stays {A = Value} s (undefined Unset s) refl
    value (Some v) = readable (is_readable program v s) v

adds_put_leaf : (a : Option Access) (v : Value) (s : State) → Adds s (put_leaf a v s)
adds_put_leaf None v s = stays {A = Value} s (put_leaf None v s) refl
adds_put_leaf (Some a) v s = by_home (is_read_only a.declared.home)
  where
    by_home : (b : Bool) → Adds s (if b then undefined ConstWrite s else first_write (Some a) v s)
    by_home true = stays {A = Value} s (undefined ConstWrite s) refl
    by_home false = let k = record_adds a.declared.storage _ v _ in record { events = k.events }

adds_put : (program : PlainProgram) (a : Option Access) (t : Temp) (temps : Temps) (s : State) → Adds s (put program a t temps s)
adds_put program a t temps s =
    adds_next s (held_as program (accessed_type program a) t temps s) _
    (adds_held_as program (accessed_type program a) t temps s) (λ v s1. adds_put_leaf a v s1)

-- what is kept adds nothing
adds_kept : {A : Type 0} (program : PlainProgram) (fs : List ℕ) (s : State) (o : Outcome A) → Adds (kept_for program fs s) o → Adds s o
adds_kept program fs s o h = record { events = h.events }

adds_put_object : (program : PlainProgram) (fs : List ℕ) (o offset : ℕ) (t : Temp) (temps : Temps) (s : State)
    → Adds s (put_object program fs o offset t temps s)
adds_put_object program fs o offset t temps s = by_storage (option_map (λ (d : PlainObject). d.storage) (slice_get program.objects o))
  where
    named : (s1 : State) → Adds s1 (put_named program o offset t temps s1)
    named s1 = adds_put program (object_access program None o offset s1) t temps s1

    by_storage : (storage : Option PlainStorage) → Adds s (put_named program o offset t temps (before_store program fs storage s))
    by_storage None = named s
    by_storage (Some (static inits)) = named s
    by_storage (Some (local f)) = named s
    by_storage (Some (param g)) = adds_kept program (g ∷ fs) s _ (named (kept_for program (g ∷ fs) s))
    by_storage (Some (register r)) = named s

-- ---- returns and ports

adds_returned : (t : Option Temp) (m : Mach) → Adds m.state (returned t m)
adds_returned None m = stays m.state (got None m.state) refl
adds_returned (Some t) m =
    adds_next m.state (held t m.temps m.state) _ (adds_held t m.temps m.state)
    (λ content s. stays s (got (Some (record { bytes = t.bytes; content = content })) s) refl)

adds_resulted : (to : Option Temp) (result : Option Held) (temps : Temps) (s : State) → Adds s (resulted to result temps s)
adds_resulted None result temps s = stays s (got temps s) refl
adds_resulted (Some t) None temps s = stays {A = Temps} s (resulted (Some t) None temps s) refl
adds_resulted (Some t) (Some result) temps s = stays s (resulted (Some t) (Some result) temps s) refl

adds_element : (port width : ℕ) (t : Option Temp) (m : Mach) → Adds m.state (element_of_port port width t m)
adds_element port width None m = stays m.state (got port m.state) refl
adds_element port width (Some t) m =
    adds_next m.state (held_number t m.temps m.state) _ (adds_number t m.temps m.state) (λ i s. stays s (got (port + i * width) s) refl)

adds_based : (b : Option ℕ) (s : State) → Adds s (based b s)
adds_based None s = stays {A = ℕ} s (based None s) refl
adds_based (Some b) s = stays s (based (Some b) s) refl

adds_cell_element : (cell offset width : ℕ) (t : Option Temp) (m : Mach) → Adds m.state (element_of_cell cell offset width t m)
adds_cell_element cell offset width t m =
    adds_next m.state (based (chosen cell m.state) m.state) _ (adds_based (chosen cell m.state) m.state)
    (λ b s. adds_element (b + offset) width t (machine m.temps s))

adds_bytes_read : (inputs : Inputs) (n port : ℕ) (x : Value) (s : State) → Adds s (got x (bytes_read inputs n port s))
adds_bytes_read inputs zero port x s = stays s (got x s) refl
adds_bytes_read inputs (suc n) port x s =
    adds_after s (byte_read inputs port s) _ (one_more s _) (adds_bytes_read inputs n (port + 1) x (byte_read inputs port s))

adds_bytes_written : (n port low : ℕ) (x : Value) (s : State) → Adds s (got x (bytes_written n port low s))
adds_bytes_written zero port low x s = stays s (got x s) refl
adds_bytes_written (suc n) port low x s =
    let t = bytes_written n (port + 1) (low / 256) s in
    let k = adds_bytes_written n (port + 1) (low / 256) x s in
    adds_after s t _ k.events (record { events = one_more t (Out port (low % 256)) })

adds_ports : (port width : ℕ) (go : State → Outcome Value) (s : State) → Adds s (go s) → Adds s (in_ports port width go s)
adds_ports port width go s h = fits (nat_le (port + width) 256)
  where
    fits : (b : Bool) → Adds s (if b then go s else undefined BufferIndex s)
    fits true = h
    fits false = stays {A = Value} s (undefined BufferIndex s) refl

-- ---- operations

module _ (functions : List PlainIrFunction) (program : PlainProgram) (inputs : Inputs) where
  module _ (on : Mach → Outcome Value) (go : Go) (h : (m : Mach) → Adds m.state (on m))
      (g : (p : Place) (m : Mach) → Adds m.state (go p m)) where
    jump_adds : (o : Option (List PlainIr)) (code : List PlainIr) (stack : List Frame) (m : Mach) → Adds m.state (jump_to o go code stack m)
    jump_adds None code stack m = stays {A = Value} m.state (jump_to None go code stack m) refl
    jump_adds (Some rest) code stack m = g (place code stack rest) m

    enter_adds : (f : Option PlainIrFunction) (stack : List Frame) (m : Mach) → Adds m.state (enter f go stack m)
    enter_adds None stack m = stays {A = Value} m.state (enter None go stack m) refl
    enter_adds (Some f) stack m = g (place f.code stack f.code) m

    leave_adds : (stack : List Frame) (result : Option Held) (s : State) → Adds s (leave program stack result go s)
    leave_adds [] None s = stays {A = Value} s (leave program [] None go s) refl
    leave_adds [] (Some result) s = adds_given (value_in int result.content) s
    leave_adds (f ∷ stack) result s = adds_next s (resulted f.to result f.temps s) _ (adds_resulted f.to result f.temps s)
        (λ temps s1. adds_kept program (active program.main stack) s1 _
        (g (place f.code stack f.rest) (machine temps (kept_for program (active program.main stack) s1))))

    branch_adds : (b : Bool) (o p : Outcome Value) (s : State) → Adds s o → Adds s p → Adds s (if b then o else p)
    branch_adds true o p s x y = x
    branch_adds false o p s x y = y

    perform_adds : (i : PlainIr) (code : List PlainIr) (stack : List Frame) (rest : List PlainIr) (temps : Temps) (s : State)
        → Adds s (perform functions program inputs i on go code stack rest temps s)
    perform_adds (constant t n) code stack rest temps s = h (machine (with_temp t (Number n) temps) s)
    perform_adds (copy to from) code stack rest temps s =
        adds_next s (held from temps s) _ (adds_held from temps s) (λ content s1. h (machine (with_content to content temps) s1))
    perform_adds (address t o offset) code stack rest temps s = h (machine (with_temp t (pointer_at o offset) temps) s)
    perform_adds (field ptr space offset) code stack rest temps s =
        adds_next s (held_pointer ptr temps s) _ (adds_pointer ptr temps s)
        (λ p s1. adds_next s1 (given (moved p (referent_of program p s1) (pos offset)) s1) _
        (adds_given (moved p (referent_of program p s1) (pos offset)) s1) (λ q s2. h (machine (with_temp ptr (Pointer q) temps) s2)))
    perform_adds (load_at to ptr space) code stack rest temps s =
        adds_next s (held_pointer ptr temps s) _ (adds_pointer ptr temps s)
        (λ p s1. adds_next s1 (read program (pointer_access program space to.bytes p s1) s1) _
        (adds_read program (pointer_access program space to.bytes p s1) s1)
        (λ x s2. g (place code stack rest) (machine (with_temp to x temps) s2)))
    perform_adds (store_at ptr space from) code stack rest temps s =
        adds_next s (held_pointer ptr temps s) _ (adds_pointer ptr temps s)
        (λ p s1. adds_next s1 (put program (pointer_access program space from.bytes p s1) from temps s1) _
        (adds_put program (pointer_access program space from.bytes p s1) from temps s1)
        (λ x s2. g (place code stack rest) (machine temps s2)))
    perform_adds (load_object t o offset) code stack rest temps s =
        adds_next s (read program (object_access program None o offset s) s) _
        (adds_read program (object_access program None o offset s) s) (λ x s1. g (place code stack rest) (machine (with_temp t x temps) s1))
    perform_adds (store_object o offset t) code stack rest temps s =
        adds_next s (put_object program (active program.main stack) o offset t temps s) _
        (adds_put_object program (active program.main stack) o offset t temps s) (λ x s1. g (place code stack rest) (machine temps s1))
    perform_adds (binary_op op ty mode to a aty b bty) code stack rest temps s =
        adds_next s (held_as program aty a temps s) _ (adds_held_as program aty a temps s)
        (λ x s1. adds_next s1 (held_as program bty b temps s1) _ (adds_held_as program bty b temps s1)
        (λ y s2. adds_next s2
        (given (binary_result op ty mode (operand_of program aty x s2) (operand_of program bty y s2)) s2) _
        (adds_given (binary_result op ty mode (operand_of program aty x s2) (operand_of program bty y s2)) s2)
        (λ v s3. h (machine (with_temp to v temps) s3))))
    perform_adds (unary_op op ty mode to a) code stack rest temps s =
        adds_next s (held_as program ty a temps s) _ (adds_held_as program ty a temps s)
        (λ x s1. adds_next s1 (given (unary_result op ty mode x) s1) _ (adds_given (unary_result op ty mode x) s1)
        (λ v s2. h (machine (with_temp to v temps) s2)))
    perform_adds (conversion to ty mode a aty) code stack rest temps s =
        adds_next s (held_as program aty a temps s) _ (adds_held_as program aty a temps s)
        (λ x s1. adds_next s1 (given (conversion_result ty mode (operand_of program aty x s1)) s1) _
        (adds_given (conversion_result ty mode (operand_of program aty x s1)) s1) (λ v s2. h (machine (with_temp to v temps) s2)))
    perform_adds (label l) code stack rest temps s = h (machine temps s)
    perform_adds (jump l) code stack rest temps s = jump_adds (find l code) code stack (machine temps s)
    perform_adds (branch_zero t l) code stack rest temps s =
        adds_next s (held t temps s) _ (adds_held t temps s)
        (λ content s1. branch_adds (is_zero content) (jump_to (find l code) go code stack (machine temps s1))
        (go (place code stack rest) (machine temps s1)) s1 (jump_adds (find l code) code stack (machine temps s1))
        (g (place code stack rest) (machine temps s1)))
    perform_adds (call_function f to) code stack rest temps s =
        adds_kept program (f ∷ active program.main stack) s _
        (enter_adds (slice_get functions f) (record { code = code; rest = rest; temps = temps; to = to; called = f } ∷ stack)
        (machine no_temps (kept_for program (f ∷ active program.main stack) s)))
    perform_adds (return_from from) code stack rest temps s =
        adds_next s (returned from (machine temps s)) _ (adds_returned from (machine temps s)) (λ result s1. leave_adds stack result s1)
    perform_adds (port_in to port index width) code stack rest temps s =
        adds_next s (element_of_port port width index (machine temps s)) _ (adds_element port width index (machine temps s))
        (λ at s1. adds_next s1 (port_read inputs at width s1) _
        (adds_ports at width (λ s2. got (Number (pos (number_read inputs width at s2))) (bytes_read inputs width at s2)) s1
        (adds_bytes_read inputs width at (Number (pos (number_read inputs width at s1))) s1))
        (λ v s2. g (place code stack rest) (machine (with_temp to v temps) s2)))
    perform_adds (port_out from port index width) code stack rest temps s =
        adds_next s (element_of_port port width index (machine temps s)) _ (adds_element port width index (machine temps s))
        (λ at s1. adds_next s1 (held_number from temps s1) _ (adds_number from temps s1)
        (λ low s2. adds_next s2 (port_written at width low s2) _
        (adds_ports at width (λ s3. got (Number (pos low)) (bytes_written width at low s3)) s2
        (adds_bytes_written width at low (Number (pos low)) s2)) (λ v s3. g (place code stack rest) (machine temps s3))))
    perform_adds (load_cell to cell) code stack rest temps s =
        adds_next s (based (chosen cell s) s) _ (adds_based (chosen cell s) s)
        (λ b s1. g (place code stack rest) (machine (with_temp to (Number (pos b)) temps) s1))
    perform_adds (store_cell cell from) code stack rest temps s =
        adds_next s (held_number from temps s) _ (adds_number from temps s)
        (λ low s1. adds_after s1 (with_choice cell low s1) _ (begin_itself s1.events)
        (g (place code stack rest) (machine temps (with_choice cell low s1))))
    perform_adds (cell_port true to cell offset index width) code stack rest temps s =
        adds_next s (element_of_cell cell offset width index (machine temps s)) _
        (adds_cell_element cell offset width index (machine temps s))
        (λ at s1. adds_next s1 (port_read inputs at width s1) _
        (adds_ports at width (λ s2. got (Number (pos (number_read inputs width at s2))) (bytes_read inputs width at s2)) s1
        (adds_bytes_read inputs width at (Number (pos (number_read inputs width at s1))) s1))
        (λ v s2. g (place code stack rest) (machine (with_temp to v temps) s2)))
    perform_adds (cell_port false from cell offset index width) code stack rest temps s =
        adds_next s (element_of_cell cell offset width index (machine temps s)) _
        (adds_cell_element cell offset width index (machine temps s))
        (λ at s1. adds_next s1 (held_number from temps s1) _ (adds_number from temps s1)
        (λ low s2. adds_next s2 (port_written at width low s2) _
        (adds_ports at width (λ s3. got (Number (pos low)) (bytes_written width at low s3)) s2
        (adds_bytes_written width at low (Number (pos low)) s2)) (λ v s3. g (place code stack rest) (machine temps s3))))

  checked_adds : (b : Bool) (o : Outcome Value) (s : State) → Adds s o → Adds s (if b then o else undefined NoAccess s)
  checked_adds true o s h = h
  checked_adds false o s h = stays {A = Value} s (undefined NoAccess s) refl

  pub run_adds : (n : ℕ) (code : List PlainIr) (stack : List Frame) (rest : List PlainIr) (m : Mach)
      → Adds m.state (checked_on functions program inputs n code stack rest m)
  run_adds zero code stack rest m = stays {A = Value} m.state (more m.state) refl
  run_adds (suc n) code stack [] m = stays {A = Value} m.state (undefined NoAccess m.state) refl
  run_adds (suc n) code stack (i ∷ rest) m =
      checked_adds (is_known code (i ∷ rest) m) (performed functions program inputs n code stack i rest m) m.state
      (adds_after m.state (worked (op_steps i) m.state) _ (begin_itself m.state.events)
      (perform_adds (λ u. checked_on functions program inputs (suc n) code stack rest u)
      (λ p u. checked_on functions program inputs n p.code p.stack p.rest u)
      (λ u. run_adds (suc n) code stack rest u) (λ p u. run_adds n p.code p.stack p.rest u) i code stack rest m.temps
      (worked (op_steps i) m.state)))
