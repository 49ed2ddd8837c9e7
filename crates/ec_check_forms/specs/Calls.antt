-- Names, calls, operations on ports and groups, sizes and constants, and what these break (ISO/IEC 9899:1999, 6.4.4,
-- 6.5.1, 6.5.2.2 and 6.5.3.4; ISO/IEC TR 18037:2008, 6.2).
use Rattle.std.specs.Prelude.{ℕ, ◌+◌, ◌==◌, ℤ, pos, Bool, true, false, not, ◌&&◌, ◌||◌, if◌then◌else◌, is_some, is_none}
use Rattle.std.specs.Prelude.{Option, Some, None, option_map, List, [], ◌∷◌, slice_get, position}
use Rattle.ec_check_operands.specs.Faults.{Judgement, rule}
use Rattle.ec_fx.specs.declared.formats.FxKind.{FxKind}
use Rattle.ec_iohw.specs.declared.operations.IoOp.{IoOp}
use Rattle.ec_iohw.specs.declared.table.Choice.{Choice}
use Rattle.ec_iohw.specs.declared.table.Designator.{Designator}
use Rattle.ec_iohw.specs.declared.table.Designator.TheVariants as designators
use Rattle.ec_iohw.specs.declared.table.IoTable.{IoTable}
use Rattle.ec_iohw.specs.Names.{designated}
use Rattle.ec_core.specs.Layout.{size_of_type}
use Rattle.ec_core.specs.Operators.{same_bool}
use Rattle.ec_core.specs.Plain.{PlainType, void, integer, fixed, PlainStruct, PlainExpr, PlainNode, number, call, io}
use Rattle.ec_core.specs.Plain.{group, bind, dynamic_group}
use Rattle.ec_core.specs.Plain.{OptionPlainExpr, no_expr, an_expr, PlainExprs}
use Rattle.ec_core.specs.PortOperations.{PortOperation, port_operation, takes_value}
use Rattle.ec_core.specs.Typing.{unsigned_int, port_value, port_result}
use Rattle.ec_check_forms.specs.declared.calls.Meant.{Meant}
use Rattle.ec_check_forms.specs.declared.calls.Meant.TheVariants.{Undeclared, Undefined, Function}
use Rattle.ec_check_operands.specs.declared.operands.Modes.{Modes}
use Rattle.ec_check_forms.specs.declared.ports.Binding.{Binding}
use Rattle.ec_check_forms.specs.declared.ports.NamedGroup.{NamedGroup}
use Rattle.ec_check_forms.specs.declared.ports.NamedGroup.TheVariants.{Group, Dynamic}
use Rattle.ec_check_forms.specs.declared.ports.NamedPort.{NamedPort}
use Rattle.ec_check_operands.specs.Operands.{Operand, value, made, valued, with_one, with_both}

-- ---- names

-- 19, 20 and 21 of a name that is used where no call is
abbrev pub is_undefined : Meant → Bool
is_undefined Undefined = true
is_undefined what = false

abbrev pub is_undeclared : Meant → Bool
is_undeclared Undeclared = true
is_undeclared what = false

abbrev pub is_function : Meant → Bool
is_function Function = true
is_function what = false

abbrev pub name_rules : Meant → ℕ → List Judgement
name_rules what at =
    rule 19 (is_undefined what) at ∷ rule 20 (is_undeclared what) at ∷ rule 21 (is_function what) at ∷ []

-- ---- calls

-- 19 of a function that is called
abbrev pub function_rules : (defined : Bool) → ℕ → List Judgement
function_rules defined at = rule 19 (not defined) at ∷ []

-- 21 of what is called
abbrev pub callee_rules : (function : Bool) → ℕ → List Judgement
callee_rules function at = rule 21 (not function) at ∷ []

-- 22
abbrev pub call_rules : (params args : ℕ) → ℕ → List Judgement
call_rules params args at = rule 22 (not (params == args)) at ∷ []

-- a call with arguments that were brought to the types of the parameters
abbrev pub called : Modes → ℕ → PlainType → Option PlainExprs → Option Operand
called m f returns args = with_one args (λ es. valued (made m returns (call f es)))

-- ---- ports

-- the port with a name
abbrev pub port_at : IoTable → Designator → Option NamedPort
port_at table (designators.Port n) =
    option_map (λ p. record { number = n; width = p.width }) (slice_get table.ports.items n)
port_at table (designators.Group n) = None
port_at table (designators.Dynamic n) = None

abbrev pub port_named : IoTable → List ℕ → Option NamedPort
port_named table name = with_one (designated table name false) (port_at table)

-- how many operands an operation has besides its port: the index stands before the value
abbrev pub one_if : Bool → ℕ
one_if b = if b then 1 else 0

abbrev pub operand_count : PortOperation → ℕ
operand_count op = one_if op.indexed + one_if (takes_value op)

-- the type to which the operand with a number is brought
abbrev pub value_if : Bool → PortOperation → Option PlainType
value_if here op = if here && takes_value op then Some (port_value op) else None

abbrev pub operand_type : PortOperation → ℕ → Option PlainType
operand_type op k =
    if op.indexed then (if k == 0 then Some unsigned_int else value_if (k == 1) op) else value_if (k == 0) op

abbrev pub is_too_wide : PortOperation → NamedPort → Bool
is_too_wide op p = p.width == 4 && not op.long

-- 37
abbrev pub too_wide : PortOperation → Option NamedPort → Bool
too_wide op None = false
too_wide op (Some p) = is_too_wide op p

abbrev pub port_rules : IoOp → Option NamedPort → (count : ℕ) → ℕ → List Judgement
port_rules op port count at =
    rule 36 (is_none port || not (count == operand_count (port_operation op))) at
    ∷ rule 37 (too_wide (port_operation op) port) at ∷ []

abbrev pub optional : Option PlainExpr → OptionPlainExpr
optional None = no_expr
optional (Some e) = an_expr e

-- an operand stands there exactly where it is taken
abbrev pub fits : Bool → Option PlainExpr → Bool
fits taken e = same_bool taken (is_some e)

-- an operation with operands that were brought to their types
abbrev pub accessed : Modes → IoOp → Option PlainExpr → Option PlainExpr → NamedPort → Option Operand
accessed m op index v p =
    let form = port_operation op in
    if is_too_wide form p || not (fits form.indexed index && fits (takes_value form) v) then None
    else valued (made m (port_result form.action (port_value form)) (io op p.number (optional index) (optional v)))

-- ---- groups

-- the group or the dynamic group with a name
abbrev pub group_at : Designator → Option NamedGroup
group_at (designators.Port n) = None
group_at (designators.Group n) = Some (Group n)
group_at (designators.Dynamic n) = Some (Dynamic n)

abbrev pub group_named : IoTable → List ℕ → Option NamedGroup
group_named table name = with_one (designated table name true) group_at

abbrev pub group_rules : Option NamedGroup → (count : ℕ) → ℕ → List Judgement
group_rules g count at = rule 36 (is_none g || not (count == 0)) at ∷ []

abbrev pub group_node : (acquire : Bool) → NamedGroup → PlainNode
group_node acquire (Group n) = group acquire n
group_node acquire (Dynamic n) = dynamic_group acquire n

-- an acquire or a release
abbrev pub group_operation : Modes → (acquire : Bool) → Option NamedGroup → (count : ℕ) → Option Operand
group_operation m acquire g count =
    if count == 0 then with_one g (λ n. valued (made m void (group_node acquire n))) else None

-- ---- bindings

-- the first choice that is of a group
abbrev pub choice_of : List Choice → (group : ℕ) → Option ℕ
choice_of choices g = position (λ c. c.group == g) choices

abbrev pub bound_to : IoTable → NamedGroup → NamedGroup → Option Binding
bound_to table (Dynamic d) (Group g) =
    with_one (slice_get table.dynamics.items d) (λ x.
    option_map (λ c. record { dynamic = d; choice = c }) (choice_of x.choices.items g))
bound_to table d g = None

-- what is bound where a dynamic group with a name is mapped to the group with another
abbrev pub binding_named : IoTable → (dynamic group : List ℕ) → Option Binding
binding_named table d g = with_both (group_named table d) (group_named table g) (bound_to table)

abbrev pub binding_rules : Option Binding → ℕ → List Judgement
binding_rules b at = rule 36 (is_none b) at ∷ []

abbrev pub binding_operation : Modes → Option Binding → Option Operand
binding_operation m b = with_one b (λ x. valued (made m void (bind x.dynamic x.choice)))

-- ---- sizes and constants

abbrev pub size_value : Modes → List PlainStruct → PlainType → Operand
size_value m structs ty = value (made m unsigned_int (number (pos (size_of_type structs ty)))) false

-- an integer constant of value 0 is the null pointer constant
abbrev pub whole_constant : Modes → (signed : Bool) (bytes : ℕ) → ℕ → Operand
whole_constant m signed bytes n = value (made m (integer signed bytes) (number (pos n))) (n == 0)

abbrev pub fixed_constant : Modes → FxKind → ℤ → Operand
fixed_constant m kind n = value (made m (fixed kind false) (number n)) false
