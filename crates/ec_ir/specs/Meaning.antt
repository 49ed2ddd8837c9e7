-- What an intermediate program does. Its objects have one home each: they are those of a program's state, in their only
-- instance, and a pointer tells an object and an offset. The parameters and locals of a function live, in its frame,
-- while it is active: main is, and each function that was called and has not returned. All other objects live
-- throughout. Where an operation fails, the run has no meaning.
use Rattle.std.specs.Prelude.{ℕ, zero, suc, ◌+◌, ◌*◌, ◌==◌, nat_le, Bool, true, false, ◌&&◌, ◌||◌, if◌then◌else◌, ℤ, pos}
use Rattle.std.specs.Prelude.{List, [], ◌∷◌, map, replicate}
use Rattle.std.specs.Prelude.{Option, Some, None, option_map, option_and_then, unwrap_or, slice_get}
use Rattle.std.specs.List.{position_from}
use Rattle.ec_runs.specs.Behaviours.{Behaviour}
use Rattle.ec_space.specs.declared.space.SpaceId.{SpaceId}
use Rattle.ec_space.specs.Spaces.{holds}
use Rattle.ec_core.specs.declared.values.Undefined.{Undefined}
use Rattle.ec_core.specs.declared.values.Undefined.TheVariants.{Access as NoAccess, BufferIndex, ConstWrite, NoResult}
use Rattle.ec_core.specs.declared.values.Undefined.TheVariants.{Unset}
use Rattle.ec_core.specs.declared.values.Value.{Value}
use Rattle.ec_core.specs.declared.values.Value.TheVariants.{Number, Pointer}
use Rattle.ec_core.specs.Accesses.{referent_of, operand_of, leaf_count, Access, read, first_write, is_read_only}
use Rattle.ec_core.specs.Layout.{scalar_size, leaves_of_type}
use Rattle.ec_core.specs.Meaning.{initial_object, behaviour_of, state_of}
use Rattle.ec_core.specs.Operators.{unary_result, binary_result, conversion_result, unsuited}
use Rattle.ec_core.specs.Plain.{PlainType, void, PlainStorage, static, local, param, register, PlainObject}
use Rattle.ec_core.specs.Plain.{PlainProgram}
use Rattle.ec_core.specs.Pointers.{Pointer as PointerValue, moved}
use Rattle.ec_core.specs.PortAccesses.{number_read, bytes_read, bytes_written}
use Rattle.ec_core.specs.State.{Inputs, Event, ObjectState, State, worked, with_choice, chosen, Outcome, got}
use Rattle.ec_core.specs.State.{more, undefined, next, given}
use Rattle.ec_core.specs.Typing.{int}
use Rattle.ec_ir.specs.Costs.{op_steps}
use Rattle.ec_ir.specs.Operations.{PlainIr, constant, copy, address, field, load_at, store_at, load_object}
use Rattle.ec_ir.specs.Operations.{store_object, binary_op, unary_op, conversion, label, jump, branch_zero}
use Rattle.ec_ir.specs.Operations.{call_function, return_from, port_in, port_out, load_cell, store_cell, cell_port}
use Rattle.ec_ir.specs.Operations.{PlainIrFunction, PlainIrProgram}
use Rattle.ec_ir.specs.Operations.{data_of}
use Rattle.ec_ir.specs.Temporaries.{Content, bits, points, value_in, value_of_type, is_zero, Held, Temps, no_temps}
use Rattle.ec_ir.specs.Temporaries.{with_held, with_content, with_temp, held}
use Rattle.ec_ir.specs.declared.operations.Temp.{Temp}

-- ---- machines: the temporaries of the active function, and a program's state, whose work counts steps

pub record Mach : Type 0 where
  pub temps : Temps
  pub state : State

abbrev pub machine : Temps → State → Mach
machine temps s = record { temps = temps; state = s }

-- the value of a type that a temporary holds
abbrev pub held_as : PlainProgram → PlainType → Temp → Temps → State → Outcome Value
held_as program ty t temps s = next (held t temps s) (λ content s1. given (value_of_type program ty content) s1)

-- the pointer that it holds
abbrev pub pointer_in : Content → State → Outcome PointerValue
pointer_in (bits zero) s = got None s
pointer_in (bits (suc low)) s = given unsuited s
pointer_in (points p) s = got (Some p) s

abbrev pub held_pointer : Temp → Temps → State → Outcome PointerValue
held_pointer t temps s = next (held t temps s) pointer_in

-- the number that the bytes make that it holds
abbrev pub number_in : Content → State → Outcome ℕ
number_in (bits low) s = got low s
number_in (points p) s = given unsuited s

abbrev pub held_number : Temp → Temps → State → Outcome ℕ
held_number t temps s = next (held t temps s) number_in

-- ---- the objects of functions

-- a function is among some
abbrev pub is_among : List ℕ → ℕ → Bool
is_among [] f = false
is_among (g ∷ fs) f = g == f || is_among fs f

-- an object of no function, or of one among some
abbrev pub is_kept : List ℕ → PlainStorage → Bool
is_kept fs (static inits) = true
is_kept fs (local f) = is_among fs f
is_kept fs (param f) = is_among fs f
is_kept fs (register r) = true

abbrev pub standing : ObjectState → ObjectState
standing x = record { serial = 0; live = true; leaves = x.leaves }

-- its bytes are those of another frame, or of none
abbrev pub given_up : ObjectState → ObjectState
given_up x = record { serial = 0; live = false; leaves = map (λ v. None) x.leaves }

abbrev pub kept_in : List ℕ → List PlainObject → List ObjectState → List ObjectState
kept_in fs [] xs = xs
kept_in fs (o ∷ os) [] = []
kept_in fs (o ∷ os) (x ∷ xs) = (if is_kept fs o.storage then standing x else given_up x) ∷ kept_in fs os xs

-- frames stand for these functions alone
abbrev pub kept_for : PlainProgram → List ℕ → State → State
kept_for program fs s = record {
  objects = kept_in fs program.objects s.objects;
  groups = s.groups;
  events = s.events;
  work = s.work;
}

-- where an argument is stored to a parameter, beside the frames of active functions that of the function stands which
-- is going to be called
abbrev pub before_store : PlainProgram → List ℕ → Option PlainStorage → State → State
before_store program fs (Some (param g)) s = kept_for program (g ∷ fs) s
before_store program fs storage s = s

-- ---- objects

-- a pointer to an object, whose only instance is number 0
abbrev pub pointer_at : ℕ → ℕ → Value
pointer_at o offset = Pointer (Some (record { object = o; instance = 0; offset = offset }))

-- the number of the leaf that begins at an offset in an object
abbrev pub leaf_from : PlainProgram → PlainObject → ℕ → Option ℕ
leaf_from program o offset = position_from (λ leaf. leaf.at == offset) 0 (leaves_of_type program.structs o.ty)

abbrev pub access_at : Option SpaceId → ℕ → PlainObject → ObjectState → ℕ → Access
access_at space o d x k =
    record { object = o; leaf = k; space = unwrap_or space d.space; declared = d; state = x }

-- an access of the leaf at an offset in an object, through a space or that of the object's declaration
abbrev pub object_access : PlainProgram → Option SpaceId → ℕ → ℕ → State → Option Access
object_access program space o offset s =
    option_and_then (λ d. option_and_then (λ x. option_map (access_at space o d x) (leaf_from program d offset))
    (slice_get s.objects o)) (slice_get program.objects o)

-- the type of an accessed leaf
abbrev pub accessed_type : PlainProgram → Option Access → PlainType
accessed_type program a =
    unwrap_or (option_and_then (λ x. option_map (λ leaf. leaf.ty)
    (slice_get (leaves_of_type program.structs x.declared.ty) x.leaf)) a) void

-- an access of so many bytes of a live object, through a space which its home is in
abbrev pub is_access_of : PlainProgram → SpaceId → (bytes : ℕ) → Access → Bool
is_access_of program space bytes a =
    a.state.live && (holds space a.declared.home && scalar_size (accessed_type program (Some a)) == bytes)

abbrev pub pointer_access : PlainProgram → SpaceId → (bytes : ℕ) → PointerValue → State → Option Access
pointer_access program space bytes to s =
    option_and_then (λ a. if is_access_of program space bytes a then Some a else None)
    (option_and_then (λ p. object_access program (Some space) p.object p.offset s) to)

-- a leaf gets a value: a const object's too, whose initialisation is a store, but none that is kept in flash
abbrev pub put_leaf : Option Access → Value → State → Outcome Value
put_leaf None v s = undefined NoAccess s
put_leaf (Some a) v s = if is_read_only a.declared.home then undefined ConstWrite s else first_write (Some a) v s

-- the value of the leaf's type that a temporary holds
abbrev pub put : PlainProgram → Option Access → Temp → Temps → State → Outcome Value
put program a t temps s = next (held_as program (accessed_type program a) t temps s) (λ v s1. put_leaf a v s1)

-- the leaf at an offset in an object that is named
abbrev pub put_named : PlainProgram → (o offset : ℕ) → Temp → Temps → State → Outcome Value
put_named program o offset t temps s = put program (object_access program None o offset s) t temps s

abbrev pub put_object : PlainProgram → List ℕ → (o offset : ℕ) → Temp → Temps → State → Outcome Value
put_object program fs o offset t temps s =
    put_named program o offset t temps
    (before_store program fs (option_map (λ d. d.storage) (slice_get program.objects o)) s)

-- ---- places in the code

-- a call that waits: the caller's operations, those to go on with, its temporaries, what gets the result, and the
-- function that was called
pub record Frame : Type 0 where
  pub code : List PlainIr
  pub rest : List PlainIr
  pub temps : Temps
  pub to : Option Temp
  pub called : ℕ

-- the active functions, the one that runs first
abbrev pub active : (main : ℕ) → List Frame → List ℕ
active main [] = main ∷ []
active main (f ∷ stack) = f.called ∷ active main stack

-- the operations of the active function, those from here on, and the calls that wait
pub record Place : Type 0 where
  pub code : List PlainIr
  pub rest : List PlainIr
  pub stack : List Frame

abbrev pub place : List PlainIr → List Frame → List PlainIr → Place
place code stack rest = record { code = code; rest = rest; stack = stack }

-- the operations behind a label
abbrev pub find : ℕ → List PlainIr → Option (List PlainIr)
find l [] = None
find l (label k ∷ code) = if k == l then Some code else find l code
find l (i ∷ code) = find l code

-- how a run goes on from a place
abbrev pub Go : Type 0
Go = Place → Mach → Outcome Value

abbrev pub jump_to : Option (List PlainIr) → Go → List PlainIr → List Frame → Mach → Outcome Value
jump_to None go code stack m = undefined NoAccess m.state
jump_to (Some rest) go code stack m = go (place code stack rest) m

-- the first operation of a function
abbrev pub enter : Option PlainIrFunction → Go → List Frame → Mach → Outcome Value
enter None go stack m = undefined NoAccess m.state
enter (Some f) go stack m = go (place f.code stack f.code) m

-- what a return hands on
abbrev pub returned : Option Temp → Mach → Outcome (Option Held)
returned None m = got None m.state
returned (Some t) m =
    next (held t m.temps m.state) (λ content s. got (Some (record { bytes = t.bytes; content = content })) s)

-- a call's temporary gets the result
abbrev pub resulted : Option Temp → Option Held → Temps → State → Outcome Temps
resulted None result temps s = got temps s
resulted (Some t) None temps s = undefined NoResult s
resulted (Some t) (Some result) temps s = got (with_held t.at result temps) s

-- main's result is an int, 0 where it gives none; another function's goes to the call that waits last, and frames
-- stand for the functions that are still active
abbrev pub leave : PlainProgram → List Frame → Option Held → Go → State → Outcome Value
leave program [] None go s = got (Number (pos 0)) s
leave program [] (Some result) go s = given (value_in int result.content) s
leave program (f ∷ stack) result go s =
    next (resulted f.to result f.temps s)
    (λ temps s1. go (place f.code stack f.rest) (machine temps (kept_for program (active program.main stack) s1)))

-- ---- ports

-- the first address of a port, or of its element with an index
abbrev pub element_of_port : ℕ → ℕ → Option Temp → Mach → Outcome ℕ
element_of_port port width None m = got port m.state
element_of_port port width (Some t) m =
    next (held_number t m.temps m.state) (λ i s. got (port + i * width) s)

-- the cell of a dynamic group, one byte, holds the base of its choice: that is what the state of operations has for the
-- choice. A cell without a base holds nothing
abbrev pub based : Option ℕ → State → Outcome ℕ
based None s = undefined Unset s
based (Some base) s = got base s

-- the first address of a port, or of its element with an index, that is so far behind what a cell holds
abbrev pub element_of_cell : (cell offset width : ℕ) → Option Temp → Mach → Outcome ℕ
element_of_cell cell offset width index m =
    next (based (chosen cell m.state) m.state)
    (λ base s. element_of_port (base + offset) width index (machine m.temps s))

-- so many bytes from an address on are port addresses
abbrev pub in_ports : ℕ → ℕ → (State → Outcome Value) → State → Outcome Value
in_ports port width go s = if nat_le (port + width) 256 then go s else undefined BufferIndex s

abbrev pub port_read : Inputs → ℕ → ℕ → State → Outcome Value
port_read inputs port width s =
    in_ports port width
    (λ s1. got (Number (pos (number_read inputs width port s1))) (bytes_read inputs width port s1)) s

abbrev pub port_written : ℕ → ℕ → ℕ → State → Outcome Value
port_written port width low s =
    in_ports port width (λ s1. got (Number (pos low)) (bytes_written width port low s1)) s

-- ---- operations

-- a program's functions, its objects and structs, and the inputs
module _ (functions : List PlainIrFunction) (program : PlainProgram) (inputs : Inputs) where
  -- what an operation does. One that only computes changes temporaries and goes on behind itself; it is no operation
  -- that counts. Any other counts as one
  abbrev pub perform :
      PlainIr → (on : Mach → Outcome Value) → Go → List PlainIr → List Frame → List PlainIr → Temps → State
      → Outcome Value
  perform (constant t n) on go code stack rest temps s = on (machine (with_temp t (Number n) temps) s)
  perform (copy to from) on go code stack rest temps s =
      next (held from temps s) (λ content s1. on (machine (with_content to content temps) s1))
  perform (address t o offset) on go code stack rest temps s = on (machine (with_temp t (pointer_at o offset) temps) s)
  perform (field ptr space offset) on go code stack rest temps s =
      next (held_pointer ptr temps s)
      (λ p s1. next (given (moved p (referent_of program p s1) (pos offset)) s1)
      (λ q s2. on (machine (with_temp ptr (Pointer q) temps) s2)))
  perform (binary_op op ty mode to a aty b bty) on go code stack rest temps s =
      next (held_as program aty a temps s)
      (λ x s1. next (held_as program bty b temps s1)
      (λ y s2. next (given (binary_result op ty mode (operand_of program aty x s2) (operand_of program bty y s2)) s2)
      (λ v s3. on (machine (with_temp to v temps) s3))))
  perform (unary_op op ty mode to a) on go code stack rest temps s =
      next (held_as program ty a temps s)
      (λ x s1. next (given (unary_result op ty mode x) s1) (λ v s2. on (machine (with_temp to v temps) s2)))
  perform (conversion to ty mode a aty) on go code stack rest temps s =
      next (held_as program aty a temps s)
      (λ x s1. next (given (conversion_result ty mode (operand_of program aty x s1)) s1)
      (λ v s2. on (machine (with_temp to v temps) s2)))
  perform (label l) on go code stack rest temps s = on (machine temps s)
  perform (load_at to ptr space) on go code stack rest temps s =
      next (held_pointer ptr temps s)
      (λ p s1. next (read program (pointer_access program space to.bytes p s1) s1)
      (λ x s2. go (place code stack rest) (machine (with_temp to x temps) s2)))
  perform (store_at ptr space from) on go code stack rest temps s =
      next (held_pointer ptr temps s)
      (λ p s1. next (put program (pointer_access program space from.bytes p s1) from temps s1)
      (λ x s2. go (place code stack rest) (machine temps s2)))
  perform (load_object t o offset) on go code stack rest temps s =
      next (read program (object_access program None o offset s) s)
      (λ x s1. go (place code stack rest) (machine (with_temp t x temps) s1))
  perform (store_object o offset t) on go code stack rest temps s =
      next (put_object program (active program.main stack) o offset t temps s)
      (λ x s1. go (place code stack rest) (machine temps s1))
  perform (jump l) on go code stack rest temps s = jump_to (find l code) go code stack (machine temps s)
  perform (branch_zero t l) on go code stack rest temps s =
      next (held t temps s)
      (λ content s1. if is_zero content then jump_to (find l code) go code stack (machine temps s1)
      else go (place code stack rest) (machine temps s1))
  perform (call_function f to) on go code stack rest temps s =
      enter (slice_get functions f) go
      (record { code = code; rest = rest; temps = temps; to = to; called = f } ∷ stack)
      (machine no_temps (kept_for program (f ∷ active program.main stack) s))
  perform (return_from from) on go code stack rest temps s =
      next (returned from (machine temps s)) (λ result s1. leave program stack result go s1)
  perform (port_in to port index width) on go code stack rest temps s =
      next (element_of_port port width index (machine temps s))
      (λ at s1. next (port_read inputs at width s1)
      (λ v s2. go (place code stack rest) (machine (with_temp to v temps) s2)))
  perform (port_out from port index width) on go code stack rest temps s =
      next (element_of_port port width index (machine temps s))
      (λ at s1. next (held_number from temps s1)
      (λ low s2. next (port_written at width low s2)
      (λ v s3. go (place code stack rest) (machine temps s3))))
  perform (load_cell to cell) on go code stack rest temps s =
      next (based (chosen cell s) s)
      (λ base s1. go (place code stack rest) (machine (with_temp to (Number (pos base)) temps) s1))
  perform (store_cell cell from) on go code stack rest temps s =
      next (held_number from temps s)
      (λ low s1. go (place code stack rest) (machine temps (with_choice cell low s1)))
  perform (cell_port true to cell offset index width) on go code stack rest temps s =
      next (element_of_cell cell offset width index (machine temps s))
      (λ at s1. next (port_read inputs at width s1)
      (λ v s2. go (place code stack rest) (machine (with_temp to v temps) s2)))
  perform (cell_port false from cell offset index width) on go code stack rest temps s =
      next (element_of_cell cell offset width index (machine temps s))
      (λ at s1. next (held_number from temps s1)
      (λ low s2. next (port_written at width low s2)
      (λ v s3. go (place code stack rest) (machine temps s3))))

  -- at most n operations that count, from some operations of a function on
  abbrev pub exec_from : ℕ → List PlainIr → List Frame → List PlainIr → Mach → Outcome Value
  exec_from zero code stack rest m = more m.state
  exec_from (suc n) code stack [] m = undefined NoAccess m.state
  exec_from (suc n) code stack (i ∷ rest) m =
      perform i (λ u. exec_from (suc n) code stack rest u) (λ p u. exec_from n p.code p.stack p.rest u) code stack rest
      m.temps (worked (op_steps i) m.state)

  abbrev pub exec : ℕ → Place → Mach → Outcome Value
  exec n p m = exec_from n p.code p.stack p.rest m

-- ---- the run

-- the objects with their initial values
abbrev pub start_state : PlainProgram → State
start_state program = record {
  objects = map (λ o. standing (initial_object (leaf_count program o.ty) o.storage)) program.objects;
  groups = record { acquired = []; choices = replicate 256 None };
  events = [];
  work = 0;
}

abbrev pub start : PlainProgram → Mach
start program = machine no_temps (kept_for program (active program.main []) (start_state program))

-- main's operations, of which at most n that count are made
abbrev pub run : PlainIrProgram → Inputs → ℕ → Outcome Value
run p inputs n =
    enter (slice_get p.functions p.main) (λ q m. exec p.functions (data_of p) inputs n q m) [] (start (data_of p))

abbrev pub meaning : PlainIrProgram → Inputs → ℕ → Behaviour Event ℤ Undefined
meaning p inputs n = behaviour_of (run p inputs n)

-- the steps that the operations made of a run may have taken
abbrev pub steps_of : PlainIrProgram → Inputs → ℕ → ℕ
steps_of p inputs n = (state_of (run p inputs n)).work
