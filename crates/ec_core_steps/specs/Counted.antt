-- Counted loops (our own profile): `for` loops whose number of turns is told by their text (ISO/IEC 9899:1999, 6.8.5.3),
-- as `for (i = A; i < B; i += C)`.
use Rattle.std.specs.Prelude.{ℕ, ◌+◌, ◌-◌, ◌/◌, ◌==◌, Bool, false, not, ◌&&◌, if◌then◌else◌, ℤ, pos, negsuc}
use Rattle.std.specs.Prelude.{◌+ℤ◌, ◌-ℤ◌, int_lt, int_le, unsigned_abs, Option, Some, None, option_map, option_and_then}
use Rattle.std.specs.Prelude.{slice_get, Result, Ok, Err}
use Rattle.ec_core.specs.declared.expressions.BinOp.{BinOp}
use Rattle.ec_core.specs.declared.expressions.BinOp.TheVariants.{Add, Sub, Lt, Gt, Le, Ge}
use Rattle.ec_core.specs.declared.values.Undefined.{Undefined}
use Rattle.ec_core.specs.Operators.{same_type, step_operator}
use Rattle.ec_core.specs.Plain.{PlainExpr, expression, load, binary, assign, compound, step, object}
use Rattle.ec_core.specs.Plain.{PlainExprs, last_expr, next_expr, PlainStmt, statement, evaluate, block, declare}
use Rattle.ec_core.specs.Plain.{OptionPlainStmt, a_stmt, PlainStmts, last_stmt, next_stmt, PlainStorage, static}
use Rattle.ec_core.specs.Plain.{local, param, register, PlainObject, PlainProgram}
use Rattle.ec_core.specs.Typing.{int, type_of_expr}
use Rattle.ec_check_constants.specs.Constants.{constant}
use Rattle.ec_check_constants.specs.Tests.{is_constant}
use Rattle.ec_core_steps.specs.declared.counted.Operands.{Operands}
use Rattle.ec_core_steps.specs.declared.counted.Update.{Update}
use Rattle.ec_core_steps.specs.declared.touches.Touch.TheVariants.{Address, Change}
use Rattle.ec_core_steps.specs.Touches.{optional_touches, stmt_touches, stmts_touch}

-- ---- numbers

-- how far a value is from the first one that is not in order with a bound; the other operators count for nothing
abbrev pub distance : BinOp → ℤ → ℤ → ℤ
distance Lt v bound = bound -ℤ v
distance Le v bound = (bound -ℤ v) +ℤ pos 1
distance Gt v bound = v -ℤ bound
distance Ge v bound = (v -ℤ bound) +ℤ pos 1
distance op v bound = pos 0

-- how many steps of this size there are in a distance, the last of which may reach further
abbrev pub steps_in : ℤ → ℕ → ℕ
steps_in d by = if int_lt (pos 0) d then (unsigned_abs d + by - 1) / by else 0

-- how many values from the first on, each so far from the one before, are in order with the bound
abbrev pub turns : BinOp → (first bound : ℤ) → (by : ℕ) → ℕ
turns op first bound by = steps_in (distance op first bound) by

-- the last value that is tested, where each is a step further than the one before: at most, or for a step down at least
abbrev pub last_tested : BinOp → (bound step : ℤ) → ℤ
last_tested Lt bound by = (bound -ℤ pos 1) +ℤ by
last_tested Le bound by = bound +ℤ by
last_tested Gt bound by = (bound +ℤ pos 1) +ℤ by
last_tested Ge bound by = bound +ℤ by
last_tested op bound by = pos 0

abbrev pub is_int : ℤ → Bool
is_int n = int_le (negsuc 32_767) n && int_le n (pos 32_767)

-- values go up to what they are to be less than, and down to what they are to be greater than
abbrev pub leads_to : BinOp → ℤ → Bool
leads_to Lt by = int_lt (pos 0) by
leads_to Le by = int_lt (pos 0) by
leads_to Gt by = int_lt by (pos 0)
leads_to Ge by = int_lt by (pos 0)
leads_to op by = false

-- a step by a constant from 1 to 32,767, up or down
abbrev pub is_step : ℤ → Bool
is_step n = int_le (pos 1) n && int_le n (pos 32_767)

abbrev pub signed_step : BinOp → ℤ → Option ℤ
signed_step Add n = if is_step n then Some n else None
signed_step Sub n = if is_step n then Some (pos 0 -ℤ n) else None
signed_step op n = None

-- ---- the parts of a loop

abbrev pub if_defined : Result ℤ Undefined → Option ℤ
if_defined (Ok n) = Some n
if_defined (Err point) = None

-- the value of a constant expression of type int
abbrev pub int_constant : PlainExpr → Option ℤ
int_constant e = if same_type (type_of_expr e) int && is_constant e then if_defined (constant e) else None

-- the object whose value an expression is
abbrev pub loaded : PlainExpr → Option ℕ
loaded (expression ty mode (load (object o))) = Some o
loaded e = None

-- an operator between the value of an object and a constant
abbrev pub joined : BinOp → PlainExpr → PlainExpr → Option Operands
joined op a b =
    option_and_then (λ o. option_map (λ n. record { op = op; object = o; value = n }) (int_constant b)) (loaded a)

-- the operator, the object that it begins with and the constant that it ends with
abbrev pub operands_of : PlainExpr → Option Operands
operands_of (expression ty mode (binary op a b)) = joined op a b
operands_of e = None

-- `i < B`, and so with each other operator
abbrev pub condition_of : Option PlainExpr → Option Operands
condition_of None = None
condition_of (Some e) = operands_of e

-- what is added to an object
abbrev pub update_by : ℕ → BinOp → ℤ → Option Update
update_by o op n = option_map (λ d. record { object = o; by = d }) (signed_step op n)

abbrev pub own_update : ℕ → Operands → Option Update
own_update o x = if x.object == o then update_by o x.op x.value else None

-- `i = i + C`, `i += C`, `i++`, `++i`, and the same with minus
abbrev pub update_of : Option PlainExpr → Option Update
update_of None = None
update_of (Some (expression ty mode (assign (object o) e))) =
    option_and_then (own_update o) (operands_of e)
update_of (Some (expression ty mode (compound op operation_mode (object o) e))) =
    option_and_then (update_by o op) (int_constant e)
update_of (Some (expression ty mode (step up prefix (object o)))) = update_by o (step_operator up) (pos 1)
update_of (Some e) = None

-- what an expression assigns to the object o
abbrev pub assigned : ℕ → PlainExpr → Option PlainExpr
assigned o (expression ty mode (assign (object q) e)) = if q == o then Some e else None
assigned o e = None

-- what a declaration of the object q gives the object o
abbrev pub initialiser : ℕ → ℕ → PlainExprs → Option PlainExpr
initialiser o q (next_expr e last_expr) = if q == o then Some e else None
initialiser o q values = None

abbrev pub declared_with : ℕ → PlainStmt → Option PlainExpr
declared_with o (statement unit at (declare q values)) = initialiser o q values
declared_with o s = None

-- what a statement gives the object o by its declaration, where the others that follow do not change it
abbrev pub declared_alone : ℕ → PlainStmt → PlainStmts → Option PlainExpr
declared_alone o s others = if stmts_touch Change o others then None else declared_with o s

-- what the only one of some statements that changes the object o gives it, by its declaration
abbrev pub declared_among : ℕ → PlainStmts → Option PlainExpr
declared_among o last_stmt = None
declared_among o (next_stmt s ss) =
    if stmt_touches Change o s then declared_alone o s ss else declared_among o ss

-- what the first part of a loop gives the object o: `i = A`, or declarations, of which one is that of i
abbrev pub start_of : ℕ → OptionPlainStmt → Option PlainExpr
start_of o (a_stmt (statement unit at (evaluate e))) = assigned o e
start_of o (a_stmt (statement unit at (declare q values))) = initialiser o q values
start_of o (a_stmt (statement unit at (block ss))) = declared_among o ss
start_of o first = None

-- ---- loops

abbrev pub is_local_of : ℕ → PlainStorage → Bool
is_local_of f (static inits) = false
is_local_of f (local g) = g == f
is_local_of f (param g) = false
is_local_of f (register r) = false

abbrev pub is_int_local : ℕ → Option PlainObject → Bool
is_int_local f None = false
is_int_local f (Some x) = same_type x.ty int && is_local_of f x.storage

-- the turns from a first value on, where each step leads towards the bound; the first and the last value that is tested
-- are ints
abbrev pub turns_by : Operands → Update → ℤ → Option ℕ
turns_by cond update first =
    if update.object == cond.object && leads_to cond.op update.by && is_int first
    && is_int (last_tested cond.op cond.value update.by)
    then Some (turns cond.op first cond.value (unsigned_abs update.by)) else None

-- the loop's object is a local of type int of the function f, whose body applies `&` nowhere to it; no other expression
-- or declaration in the loop changes it
abbrev pub is_counter : PlainProgram → ℕ → PlainStmt → ℕ → Option PlainExpr → PlainStmt → Bool
is_counter p f whole i c body =
    is_int_local f (slice_get p.objects i) && not (stmt_touches Address i whole)
    && not (optional_touches Change i c) && not (stmt_touches Change i body)

-- the turns of a loop of the function f with the body `whole`, where it is counted
abbrev pub turns_of : PlainProgram → ℕ → PlainStmt → OptionPlainStmt → (c last : Option PlainExpr) → PlainStmt
    → Option ℕ
turns_of p f whole first c last body =
    option_and_then (λ cond. option_and_then (λ update. option_and_then (λ e. option_and_then (λ a.
    if is_counter p f whole cond.object c body then turns_by cond update a else None) (int_constant e))
    (start_of cond.object first)) (update_of last)) (condition_of c)
