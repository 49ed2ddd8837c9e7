-- Which programs have a place by a map.
use Rattle.std.specs.Prelude.{◌≡◌, ◌*◌, ◌≤◌, ⊤, None}
use Rattle.ec_asm.specs.declared.items.AsmProgram.{AsmProgram}
use Rattle.ec_check_recursion.specs.Rows.{rows_of_program}
use Rattle.ec_core.specs.Plain.{PlainProgram}
use Rattle.ec_core.specs.PortTable.{plain_table}
use Rattle.ec_core_shapes.specs.SharedWeight.{shared_weight}
use Rattle.ec_map.specs.declared.map.Map.{Map}
use Rattle.ec_locate.specs.Calls.{call_depth}
use Rattle.ec_locate.specs.Entries.{table_need, far_need, data_need, work_size}
use Rattle.ec_locate.specs.Needs.{stack_need}
use Rattle.ec_locate.specs.Placing.{scratch_needs, entries_by, without_object, clash, IsStop, IsMemory}
use Rattle.ec_locate.specs.declared.stop.PlaceStop.{PlaceStop}
use Rattle.ec_build.specs.declared.stop.BuildStop.{BuildStop}
use Rattle.ec_build.specs.declared.stop.BuildStop.TheVariants.{Place, NoMemory}

-- the regions have room for a program, and each object that the map places is there, and clashes with nothing
pub record Fits (p : PlainProgram) (m : Map) : Type 0 where
  pub tables : table_need (entries_by m p) ≤ m.tables.size
  pub far : far_need (entries_by m p) ≤ m.far.size
  pub vars : data_need (work_size m.io) (rows_of_program p) (entries_by m p) (scratch_needs p) ≤ m.vars.size
  pub stack : stack_need (call_depth p) ≤ m.stack.size
  pub code : 2 * shared_weight p (plain_table m.io) ≤ m.code.size
  pub there : without_object p m ≡ None
  pub free : clash p m ≡ None

-- why a program, whose code `asm` is, has no place
pub record HasNoPlace (p : PlainProgram) (m : Map) (asm : AsmProgram) (stop : PlaceStop) : Type 0 where
  pub against : IsStop p m asm stop
  pub told : ¬ IsMemory stop

-- the answer that tells why
abbrev pub StopsPlacing : PlainProgram → Map → AsmProgram → BuildStop → Type 0
StopsPlacing p m asm (Place stop) = HasNoPlace p m asm stop
StopsPlacing p m asm NoMemory = ⊤
StopsPlacing p m asm _ = ⊥
