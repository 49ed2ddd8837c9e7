-- The interpreter's values as those of the meaning.
use Rattle.std.specs.Prelude.{ℤ, ◌==◌, if◌then◌else◌, List, [], ◌∷◌, map, Option, Some, None}
use Rattle.ec_runs.specs.Behaviours.{Behaviour as BehaviourOf, Ended as EndedWith, Running as RunningAt, Failed}
use Rattle.ec_iohw.specs.declared.table.IoTable.{IoTable}
use Rattle.ec_core.specs.declared.expressions.Expr.{Expr}
use Rattle.ec_core.specs.declared.programs.Program.{Program}
use Rattle.ec_core.specs.declared.values.Undefined.{Undefined}
use Rattle.ec_core.specs.Layout.{AreStructs}
use Rattle.ec_core.specs.Meaning.{setting}
use Rattle.ec_core.specs.Plain.{plain_program, plain_struct, plain_expr, OptionPlainExpr, no_expr, an_expr}
use Rattle.ec_core.specs.PortTable.{plain_table}
use Rattle.ec_core.specs.State.{Inputs, Setting, Event as EventOf, ObjectState as ObjectStateOf, GroupStates}
use Rattle.ec_core.specs.State.{State as StateOf}
use Rattle.ec_core.specs.Statements.{Exit as ExitOf, at_end, by_break, by_continue, by_return}
use Rattle.ec_interp.specs.declared.behaviour.Behaviour.{Behaviour}
use Rattle.ec_interp.specs.declared.behaviour.Behaviour.TheVariants.{Ended, Running, MeetsUndefined}
use Rattle.ec_interp.specs.declared.behaviour.PortInput.{PortInput}
use Rattle.ec_interp.specs.declared.state.Exit.{Exit}
use Rattle.ec_interp.specs.declared.state.Exit.TheVariants.{AtEnd, ByBreak, ByContinue, ByReturn}
use Rattle.ec_interp.specs.declared.state.ObjectState.{ObjectState}
use Rattle.ec_interp.specs.declared.state.State.{State}
pub use Rattle.ec_interp.specs.Events.{seen_told, seen_event}

-- ---- what a run is given

-- the bytes that a port address gives: those of its first entry
abbrev pub inputs_of : List PortInput → Inputs
inputs_of [] port = []
inputs_of (i ∷ is) port = if i.port == port then i.bytes.items else inputs_of is port

abbrev pub setting_of : Program → IoTable → List PortInput → Setting
setting_of program io inputs = setting (plain_program program) (plain_table io) (inputs_of inputs)

-- the struct definitions have layouts
abbrev pub HasLayouts : Program → Type 0
HasLayouts program = AreStructs (map plain_struct program.structs.items)

-- an operand that may be absent
abbrev pub plain_optional : Option Expr → OptionPlainExpr
plain_optional None = no_expr
plain_optional (Some e) = an_expr (plain_expr e)

-- ---- states

abbrev pub seen_object : ObjectState → ObjectStateOf
seen_object x = record { serial = x.serial; live = x.live; leaves = x.leaves.items }

abbrev pub seen_groups : State → GroupStates
seen_groups s = record { acquired = s.acquired.items; choices = s.choices.items }

abbrev pub seen : State → StateOf
seen s =
    record {
      objects = map seen_object s.objects.items;
      groups = seen_groups s;
      events = s.events;
      work = s.work;
    }

abbrev pub seen_exit : Exit → ExitOf
seen_exit AtEnd = at_end
seen_exit ByBreak = by_break
seen_exit ByContinue = by_continue
seen_exit (ByReturn v) = by_return v

-- ---- behaviours

abbrev pub seen_behaviour : Behaviour → BehaviourOf EventOf ℤ Undefined
seen_behaviour (Ended events result) = EndedWith (map seen_event events.items) result
seen_behaviour (Running events) = RunningAt (map seen_event events.items)
seen_behaviour (MeetsUndefined point unit at events) = Failed point
