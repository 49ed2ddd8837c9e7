-- Small programs and what they do, by computation alone.
use Rattle.std.proofs.Common.{◌≡◌, ◌*◌, ℕ, zero, suc, ◌<◌, ◌≤◌, Bool, true, false, pos, negsuc, List, [], ◌∷◌, Some, None, refl, sym, subst}
use Rattle.std.proofs.Common.{inl, inr, arith}
use Rattle.std.specs.Prelude.{◌==◌, if◌then◌else◌, Contains, slice_get, slice_index_or}
use Rattle.std.proofs.lemmas.Int.{ints as integers}
use Rattle.ec_fx.specs.declared.formats.FxKind.TheVariants.{ShortFract, ShortAccum}
use Rattle.ec_fx.specs.declared.numbers.Mode.{Mode}
use Rattle.ec_iohw.specs.declared.operations.IoOp.TheVariants.{Read as PortRead, ReadBuffer as PortReadBuffer, Write as PortWrite}
use Rattle.ec_iohw.specs.declared.table.IoTable.{IoTable}
use Rattle.ec_iohw.specs.Valid.{ValidIo}
use Rattle.ec_core.specs.Layout.{IsIntegerSize}
use Rattle.ec_space.specs.declared.space.Home.TheVariants.{Data as DataHome}
use Rattle.ec_space.specs.declared.space.SpaceId.TheVariants.{Flash, Generic}
use Rattle.ec_runs.specs.Behaviours.{Running, Ended, Failed}
use Rattle.ec_core.specs.declared.expressions.BinOp.TheVariants.{Add, Sub, Div, Shl, Lt, Eq}
use Rattle.ec_core.specs.declared.programs.LeafInit.TheVariants.{Number as TheNumber, Address}
use Rattle.ec_core.specs.declared.values.Undefined.TheVariants.{ZeroDivisor, ShiftCount, FixedOverflow, WholePart, Access, Unset}
use Rattle.ec_core.specs.declared.values.Undefined.TheVariants.{ConstWrite, Narrowing, Unrelated, PointerUse, PointerRange, ClosedPort}
use Rattle.ec_core.specs.declared.values.Undefined.TheVariants.{BufferIndex, NoResult}
use Rattle.ec_core.specs.Plain.{PlainType, void, integer, fixed, pointer, array, struct, PlainStruct, PlainExpr, expression, PlainNode}
use Rattle.ec_core.specs.Plain.{number, load, address_of, binary, convert, assign, compound, step, call, io, group, object, deref, member}
use Rattle.ec_core.specs.Plain.{no_expr, an_expr, PlainExprs, last_expr, next_expr, PlainStmt, statement, PlainKind, empty, evaluate, block}
use Rattle.ec_core.specs.Plain.{declare, while_loop, for_loop, break_loop, return_value, no_stmt, a_stmt, PlainStmts, last_stmt, next_stmt}
use Rattle.ec_core.specs.Plain.{PlainStorage, static, local, param, register, PlainObject, PlainFunction, PlainProgram}
use Rattle.ec_core.specs.PortTable.{PlainTable}
use Rattle.ec_core.specs.State.{Event, In, Out, Read, Write}
use Rattle.ec_core.specs.Typing.{int, unsigned_int}
use Rattle.ec_core.specs.Meaning.{source, work}
use Rattle.ec_core.specs.Needs.{stmt_calls}
use Rattle.ec_core.specs.Weight.{weight}
use Rattle.ec_core.specs.Valid.{ShareNoRegister, HaveOwnNames, IsExprType, ValidExpr, ValidStmt, Reaches, calls, calls_through, Valid}

abbrev plain_mode : Mode
plain_mode = record { saturate = false }

abbrev typed : PlainType → PlainNode → PlainExpr
typed ty node = expression ty plain_mode node

abbrev num : ℕ → PlainExpr
num n = typed int (number (pos n))

abbrev of : ℕ → PlainExpr
of o = typed int (load (object o))

abbrev sum : PlainExpr → PlainExpr → PlainExpr
sum a b = typed int (binary Add a b)

abbrev set : ℕ → PlainExpr → PlainExpr
set o e = typed int (assign (object o) e)

abbrev does : PlainKind → PlainStmt
does kind = statement 0 0 kind

abbrev stmts : List PlainStmt → PlainStmts
stmts [] = last_stmt
stmts (s ∷ ss) = next_stmt s (stmts ss)

abbrev body : List PlainStmt → PlainStmt
body ss = does (block (stmts ss))

abbrev exprs : List PlainExpr → PlainExprs
exprs [] = last_expr
exprs (e ∷ es) = next_expr e (exprs es)

abbrev variable : PlainType → PlainStorage → PlainObject
variable ty storage = record {
  name = [];
  unit = 0;
  external = false;
  ty = ty;
  space = Generic;
  home = DataHome;
  const = false;
  storage = storage;
}

abbrev function : PlainType → List ℕ → List PlainStmt → PlainFunction
function ty params ss = record { name = []; unit = 0; returns = ty; params = params; body = body ss }

abbrev program : List PlainObject → List PlainFunction → PlainProgram
program objects functions = record { structs = []; objects = objects; functions = functions; main = 0 }

abbrev no_ports : PlainTable
no_ports = record { ports = []; groups = []; dynamics = [] }

abbrev silent : ℕ → List ℕ
silent port = []

-- int main(void) { int i; int s = 0; for (i = 0; i < 2; i = i + 1) s = s + i; return s; }
abbrev counting : PlainProgram
counting = program (variable int (local 0) ∷ variable int (local 0) ∷ [])
    (function int [] (
    does (declare 0 last_expr)
    ∷ does (declare 1 (exprs (num 0 ∷ [])))
    ∷ does (for_loop (a_stmt (does (evaluate (set 0 (num 0))))) (Some (typed int (binary Lt (of 0) (num 2))))
    (Some (set 0 (sum (of 0) (num 1)))) (does (evaluate (set 1 (sum (of 1) (of 0))))))
    ∷ does (return_value (Some (of 1)))
    ∷ []) ∷ [])

abbrev rd : ℕ → ℕ → Event
rd o n = Read o 0 Generic (TheNumber (pos n))

abbrev wr : ℕ → ℕ → Event
wr o n = Write o 0 Generic (TheNumber (pos n))

counting_ends : source counting no_ports silent 2 ≡ Ended (wr 1 0 ∷ wr 0 0 ∷ rd 0 0 ∷ rd 1 0 ∷ rd 0 0 ∷ wr 1 0 ∷ rd 0 0 ∷ wr 0 1 ∷ rd 0 1
    ∷ rd 1 0 ∷ rd 0 1 ∷ wr 1 1 ∷ rd 0 1 ∷ wr 0 2 ∷ rd 0 2 ∷ rd 1 1 ∷ []) (pos 1)
counting_ends = refl

counting_goes_on : source counting no_ports silent 1
    ≡ Running (wr 1 0 ∷ wr 0 0 ∷ rd 0 0 ∷ rd 1 0 ∷ rd 0 0 ∷ wr 1 0 ∷ rd 0 0 ∷ wr 0 1 ∷ rd 0 1 ∷ [])
counting_goes_on = refl

counting_work : work counting no_ports silent 1 ≡ 64 * 2560
counting_work = refl

counting_weight : weight counting no_ports ≡ 2180
counting_weight = refl

-- int main(void) { while (1) for (break; ; ) ; return 0; }, as a tree: how the first part was left is passed on
abbrev leaving : PlainProgram
leaving = program [] (function int [] (does (while_loop (num 1) (does (for_loop (a_stmt (does break_loop)) None None (does empty))))
    ∷ does (return_value (Some (num 0))) ∷ []) ∷ [])

leaving_ends : source leaving no_ports silent 1 ≡ Ended [] (pos 0)
leaving_ends = refl

-- int main(void) { int s = 1; s += (s = 3); return s; }: the old value is read before the right side
abbrev updating : PlainProgram
updating = program (variable int (local 0) ∷ [])
    (function int [] (
    does (declare 0 (exprs (num 1 ∷ [])))
    ∷ does (evaluate (typed int (compound Add plain_mode (object 0) (set 0 (num 3)))))
    ∷ does (return_value (Some (of 0)))
    ∷ []) ∷ [])

updating_reads_first : source updating no_ports silent 0 ≡ Ended (wr 0 1 ∷ rd 0 1 ∷ wr 0 3 ∷ wr 0 4 ∷ rd 0 4 ∷ []) (pos 4)
updating_reads_first = refl

-- ---- pointers

abbrev data_int : PlainType
data_int = pointer Generic false int

abbrev ints : PlainType
ints = array int 2

-- int main(void) { int a[2] = {1, 2}; int *p = a + k; return *p; }
abbrev pointing : ℕ → PlainProgram
pointing k = program (variable ints (local 0) ∷ variable data_int (local 0) ∷ [])
    (function int [] (
    does (declare 0 (exprs (num 1 ∷ num 2 ∷ [])))
    ∷ does (declare 1 (exprs (typed data_int (binary Add (typed data_int (address_of (object 0))) (num k)) ∷ [])))
    ∷ does (return_value (Some (typed int (load (deref (typed data_int (load (object 1))))))))
    ∷ []) ∷ [])

pointing_in : source (pointing 1) no_ports silent 0 ≡ Ended (wr 0 1 ∷ Write 0 1 Generic (TheNumber (pos 2))
    ∷ Write 1 0 Generic (Address 0 2) ∷ Read 1 0 Generic (Address 0 2) ∷ Read 0 1 Generic (TheNumber (pos 2)) ∷ []) (pos 2)
pointing_in = refl

pointing_at_end : source (pointing 2) no_ports silent 0 ≡ Failed Access
pointing_at_end = refl

pointing_out : source (pointing 3) no_ports silent 0 ≡ Failed PointerRange
pointing_out = refl

-- int main(void) { int *p; { int x = 1; p = &x; } return *p; }
abbrev dangling : PlainProgram
dangling = program (variable data_int (local 0) ∷ variable int (local 0) ∷ [])
    (function int [] (
    does (declare 0 last_expr)
    ∷ does (block (stmts (does (declare 1 (exprs (num 1 ∷ [])))
    ∷ does (evaluate (typed data_int (assign (object 0) (typed data_int (address_of (object 1)))))) ∷ [])))
    ∷ does (return_value (Some (typed int (load (deref (typed data_int (load (object 0))))))))
    ∷ []) ∷ [])

dangling_read : source dangling no_ports silent 0 ≡ Failed Unset
dangling_read = refl

-- ---- calls

-- int main(void) { return f(2) + f(3); }    int f(int x) { x += 1; return x; }  (or, ended early: int f(int x) { x += 1; })
abbrev calling : List PlainStmt → PlainProgram
calling rest = program (variable int (param 1) ∷ [])
    (function int []
    (does (return_value (Some (sum (typed int (call 1 (exprs (num 2 ∷ [])))) (typed int (call 1 (exprs (num 3 ∷ []))))))) ∷ [])
    ∷ function int (0 ∷ []) (does (evaluate (typed int (compound Add plain_mode (object 0) (num 1)))) ∷ rest) ∷ [])

calling_ends : source (calling (does (return_value (Some (of 0))) ∷ [])) no_ports silent 0
    ≡ Ended (wr 0 2 ∷ rd 0 2 ∷ wr 0 3 ∷ rd 0 3 ∷ wr 0 3 ∷ rd 0 3 ∷ wr 0 4 ∷ rd 0 4 ∷ []) (pos 7)
calling_ends = refl

no_result : source (calling []) no_ports silent 0 ≡ Failed NoResult
no_result = refl

-- ---- numbers

-- int main(void) { return n / d; }
abbrev dividing : ℕ → ℕ → PlainProgram
dividing n d = program [] (function int [] (does (return_value (Some (typed int (binary Div (num n) (num d))))) ∷ []) ∷ [])

dividing_well : source (dividing 7 2) no_ports silent 0 ≡ Ended [] (pos 3)
dividing_well = refl

dividing_by_zero : source (dividing 7 0) no_ports silent 0 ≡ Failed ZeroDivisor
dividing_by_zero = refl

-- int main(void) { char c = 127; return ++c; }    a step wraps in the type of its place
abbrev char : PlainType
char = integer true 1

abbrev stepping : PlainProgram
stepping = program (variable char (local 0) ∷ [])
    (function int [] (
    does (declare 0 (exprs (typed char (number (pos 127)) ∷ [])))
    ∷ does (return_value (Some (typed int (convert (typed char (step true true (object 0)))))))
    ∷ []) ∷ [])

stepping_wraps : source stepping no_ports silent 0
    ≡ Ended (wr 0 127 ∷ rd 0 127 ∷ Write 0 0 Generic (TheNumber (negsuc 127)) ∷ []) (negsuc 127)
stepping_wraps = refl

-- short _Fract x = 0.5hr; x += x;  overflows where the state does not saturate
abbrev saturating : Bool → Mode
saturating b = record { saturate = b }

abbrev doubling : Bool → PlainProgram
doubling saturates = program (variable (fixed ShortFract false) (local 0) ∷ [])
    (function int [] (
    does (declare 0 (exprs (typed (fixed ShortFract false) (number (pos 64)) ∷ [])))
    ∷ does (evaluate (expression (fixed ShortFract false) (saturating saturates)
    (compound Add (saturating saturates) (object 0) (typed (fixed ShortFract false) (load (object 0))))))
    ∷ []) ∷ [])

doubling_overflows : source (doubling false) no_ports silent 0 ≡ Failed FixedOverflow
doubling_overflows = refl

doubling_saturates : source (doubling true) no_ports silent 0 ≡ Ended (wr 0 64 ∷ rd 0 64 ∷ rd 0 64 ∷ wr 0 127 ∷ []) (pos 0)
doubling_saturates = refl

-- ---- ports

abbrev two_bytes : PlainTable
two_bytes = record { ports = record { address = 0x84; width = 2; count = 1; group = None; dynamic = None } ∷ []; groups = []; dynamics = [] }

abbrev some_bytes : ℕ → List ℕ
some_bytes port = if port == 0x84 then 0x34 ∷ [] else (if port == 0x85 then 0x12 ∷ 1 ∷ [] else [])

abbrev reading : PlainExpr
reading = typed unsigned_int (io PortRead 0 no_expr no_expr)

-- int main(void) { iowr(T, iord(T) + 1); return (int)iord(T); }
abbrev porting : PlainProgram
porting = program [] (function int [] (
    does (evaluate
    (typed void (io PortWrite 0 no_expr (an_expr (typed unsigned_int (binary Add reading (typed unsigned_int (number (pos 1)))))))))
    ∷ does (return_value (Some (typed int (convert reading))))
    ∷ []) ∷ [])

porting_ends : source porting two_bytes some_bytes 0
    ≡ Ended (In 0x84 0x34 ∷ In 0x85 0x12 ∷ Out 0x85 0x12 ∷ Out 0x84 0x35 ∷ In 0x84 0 ∷ In 0x85 1 ∷ []) (pos 256)
porting_ends = refl

abbrev grouped : PlainTable
grouped = record {
  ports = record { address = 0x84; width = 2; count = 1; group = Some 0; dynamic = None } ∷ [];
  groups = record { acquire = []; release = [] } ∷ [];
  dynamics = [];
}

porting_closed : source porting grouped some_bytes 0 ≡ Failed ClosedPort
porting_closed = refl

abbrev open_group : PlainTable
open_group = record {
  ports = record { address = 0x79; width = 1; count = 2; group = Some 0; dynamic = None } ∷ [];
  groups = record { acquire = record { port = 0x7A; byte = 0x80 } ∷ []; release = record { port = 0x7A; byte = 0 } ∷ [] } ∷ [];
  dynamics = [];
}

-- int main(void) { iogroup_acquire(ADC); iordbuf(SAMPLE, i); iogroup_release(ADC); iordbuf(SAMPLE, i); }
abbrev grouping : ℕ → PlainProgram
grouping i =
    let sampling : PlainStmt =
    does (evaluate (typed unsigned_int (io PortReadBuffer 0 (an_expr (typed unsigned_int (number (pos i)))) no_expr))) in
    program [] (function int [] (does (evaluate (typed void (group true 0))) ∷ sampling ∷ does (evaluate (typed void (group false 0)))
    ∷ does (return_value (Some (num 0))) ∷ []) ∷ [])

grouping_ends : source (grouping 1) open_group some_bytes 0 ≡ Ended (Out 0x7A 0x80 ∷ In 0x7A 0 ∷ Out 0x7A 0 ∷ []) (pos 0)
grouping_ends = refl

grouping_past : source (grouping 2) open_group some_bytes 0 ≡ Failed BufferIndex
grouping_past = refl

-- ---- the other undefined points

-- int main(void) { return 1 << n; }
abbrev shifting : ℕ → PlainProgram
shifting n = program [] (function int [] (does (return_value (Some (typed int (binary Shl (num 1) (num n))))) ∷ []) ∷ [])

shifting_well : source (shifting 15) no_ports silent 0 ≡ Ended [] (negsuc 32767)
shifting_well = refl

shifting_out : source (shifting 16) no_ports silent 0 ≡ Failed ShiftCount
shifting_out = refl

-- int main(void) { return (char)(200.0hk); }    in units of 2^-7
abbrev truncating : ℕ → PlainProgram
truncating n = program [] (function int []
    (does (return_value (Some (typed int (convert (typed char (convert (typed (fixed ShortAccum false) (number (pos n))))))))) ∷ []) ∷ [])

truncating_well : source (truncating 16000) no_ports silent 0 ≡ Ended [] (pos 125)
truncating_well = refl

truncating_out : source (truncating 25600) no_ports silent 0 ≡ Failed WholePart
truncating_out = refl

-- const int k = 1; int main(void) { *(int *)&k = 2; return 0; }
abbrev const_pointer : PlainType
const_pointer = pointer Generic true int

abbrev overwriting : PlainProgram
overwriting = program (record {
  name = [];
  unit = 0;
  external = true;
  ty = int;
  space = Generic;
  home = DataHome;
  const = true;
  storage = static (TheNumber (pos 1) ∷ []);
} ∷ [])
    (function int [] (
    does (evaluate (typed int (assign (deref (typed data_int (convert (typed const_pointer (address_of (object 0)))))) (num 2))))
    ∷ does (return_value (Some (num 0)))
    ∷ []) ∷ [])

overwriting_const : source overwriting no_ports silent 0 ≡ Failed ConstWrite
overwriting_const = refl

-- int x; int main(void) { return *(__flash int *)&x; }
abbrev narrowing : PlainProgram
narrowing = program (variable int (static (TheNumber (pos 0) ∷ [])) ∷ [])
    (function int [] (does (return_value
    (Some (typed int (load (deref (typed (pointer Flash true int) (convert (typed data_int (address_of (object 0)))))))))) ∷ []) ∷ [])

narrowing_out : source narrowing no_ports silent 0 ≡ Failed Narrowing
narrowing_out = refl

-- int x, y; int main(void) { return &x - &y; }    (or with the two pointers joined by ==, where &x + n stands for &x)
abbrev two : List PlainObject
two = variable int (static (TheNumber (pos 0) ∷ [])) ∷ variable int (static (TheNumber (pos 0) ∷ [])) ∷ []

abbrev address : ℕ → PlainExpr
address o = typed data_int (address_of (object o))

abbrev subtracting : PlainProgram
subtracting = program two (function int [] (does (return_value (Some (typed int (binary Sub (address 0) (address 1))))) ∷ []) ∷ [])

subtracting_apart : source subtracting no_ports silent 0 ≡ Failed Unrelated
subtracting_apart = refl

abbrev comparing : ℕ → PlainProgram
comparing n = program two (function int []
    (does (return_value (Some (typed int (binary Eq (typed data_int (binary Add (address 0) (num n))) (address 1))))) ∷ []) ∷ [])

comparing_apart : source (comparing 0) no_ports silent 0 ≡ Ended [] (pos 0)
comparing_apart = refl

comparing_past : source (comparing 1) no_ports silent 0 ≡ Failed PointerUse
comparing_past = refl

-- ---- members, and named registers

-- struct s { char a; int b; }; int main(void) { struct s x; x.b = 500; return x.b; }
abbrev pair : PlainStruct
pair = record { tag = []; members = record { name = []; ty = char } ∷ record { name = []; ty = int } ∷ [] }

abbrev picking : PlainProgram
picking = record {
  structs = pair ∷ [];
  objects = variable (struct 0) (local 0) ∷ [];
  functions = function int [] (does (declare 0 last_expr) ∷ does (evaluate (typed int (assign (member (object 0) 1) (num 500))))
      ∷ does (return_value (Some (typed int (load (member (object 0) 1))))) ∷ []) ∷ [];
  main = 0;
}

picking_ends : source picking no_ports silent 0
    ≡ Ended (Write 0 1 Generic (TheNumber (pos 500)) ∷ Read 0 1 Generic (TheNumber (pos 500)) ∷ []) (pos 500)
picking_ends = refl

-- register _R4 int r; int main(void) { r = 1; return r; }
abbrev registering : List PlainStmt → PlainProgram
registering first = program (variable int (register 4) ∷ []) (function int [] first ∷ [])

registering_ends : source (registering (does (evaluate (set 0 (num 1))) ∷ does (return_value (Some (of 0))) ∷ [])) no_ports silent 0
    ≡ Ended [] (pos 1)
registering_ends = refl

registering_unset : source (registering (does (return_value (Some (of 0))) ∷ [])) no_ports silent 0 ≡ Failed Unset
registering_unset = refl

-- int main(void) { for (;;) ; }
abbrev endless : PlainProgram
endless = program [] (function int [] (does (for_loop no_stmt None None (does empty)) ∷ []) ∷ [])

endless_runs : source endless no_ports silent 3 ≡ Running []
endless_runs = refl

-- ---- valid programs

of_int : IsIntegerSize 2
of_int = inr (inl refl)

num_valid : (p : PlainProgram) (io_table : IoTable) (f n : ℕ) → n ≤ 32_767 → ValidExpr p io_table f (num n)
num_valid p io_table f n h = (of_int, (of_int, record { low = omega (arith, integers); high = omega (arith, integers, h) }), tt)

-- a function that calls none is reached by none
alone : (p : PlainProgram)
    → ((f : ℕ) (function : PlainFunction) (g : ℕ) → slice_get p.functions f ≡ Some function → Contains (stmt_calls function.body []) g → ⊥)
    → (g f : ℕ) → Reaches p g f → ⊥
alone p h g reached (calls f function e c) = h f function g e c
alone p h g reached (calls_through f k function e c r) = h f function k e c

no_item : (g : ℕ) → Contains [] g → ⊥
no_item g c = absurd (omega (arith, c.1))

pointing_calls : (f : ℕ) (function : PlainFunction) (g : ℕ) → slice_get (pointing 1).functions f ≡ Some function
    → Contains (stmt_calls function.body []) g → ⊥
pointing_calls zero function g e c =
    let main : PlainFunction = slice_index_or (pointing 1).functions 0 function in
    let k : main ≡ function = cc in
    no_item g (subst (λ (z : PlainFunction). Contains (stmt_calls z.body []) g) (sym k) c)
pointing_calls (suc f) function g e c = cc

locals_apart : (i j : ℕ) (d : PlainObject) → i < j → j < 2
    → ShareNoRegister (pointing 1) (slice_index_or (pointing 1).objects i d) (slice_index_or (pointing 1).objects j d)
locals_apart zero zero d l m = absurd (omega (arith, l))
locals_apart zero (suc zero) d l m = tt
locals_apart zero (suc (suc j)) d l m = absurd (omega (arith, m))
locals_apart (suc i) zero d l m = absurd (omega (arith, l))
locals_apart (suc i) (suc zero) d l m = absurd (omega (arith, l))
locals_apart (suc i) (suc (suc j)) d l m = absurd (omega (arith, m))

locals_named : (i j : ℕ) (d : PlainObject) → i < j → j < 2
    → HaveOwnNames (slice_index_or (pointing 1).objects i d) (slice_index_or (pointing 1).objects j d)
locals_named zero zero d l m = absurd (omega (arith, l))
locals_named zero (suc zero) d l m = λ e f. cc
locals_named zero (suc (suc j)) d l m = absurd (omega (arith, m))
locals_named (suc i) zero d l m = absurd (omega (arith, l))
locals_named (suc i) (suc zero) d l m = absurd (omega (arith, l))
locals_named (suc i) (suc (suc j)) d l m = absurd (omega (arith, m))

-- the type of a pointer to an int
data_int_known : IsExprType (pointing 1) data_int
data_int_known = (record { names = tt; form = of_int }, omega arith)

pointing_valid : (io_table : IoTable) → ValidIo io_table → Valid (pointing 1) io_table
pointing_valid io_table v = record {
  ports = v;
  structs = record { earlier = tt; small = λ i. omega arith };
  objects = (
    record {
      ty = record { names = tt; form = (of_int, omega arith) };
      some = omega arith;
      small = omega arith;
      home = refl;
      storage = (omega arith, refl);
    },
    (
      record { ty = record { names = tt; form = tt }; some = omega arith; small = omega arith; home = refl; storage = (omega arith, refl) },
      tt,
    ),
  );
  registers = locals_apart;
  externals = locals_named;
  functions = (
    record {
      params = tt;
      distinct = λ i j d l m. absurd (omega (arith, m));
      returns = inl of_int;
      names = tt;
      body = (declared_ints, (declared_pointer, (returned, tt)));
      need = omega arith;
    },
    tt,
  );
  main = (refl, refl);
  no_recursion = λ f. alone (pointing 1) pointing_calls f f;
  object_count = omega arith;
  function_count = omega arith;
}
  where
    number : (n : ℕ) → n ≤ 32_767 → ValidExpr (pointing 1) io_table 0 (num n)
    number n h = num_valid (pointing 1) io_table 0 n h

    declared_ints : ValidStmt (pointing 1) io_table 0 int false (does (declare 0 (exprs (num 1 ∷ num 2 ∷ []))))
    declared_ints = ((refl, inr (refl, (refl, tt))), (number 1 (omega arith), (number 2 (omega arith), tt)))

    first : ValidExpr (pointing 1) io_table 0 (typed data_int (address_of (object 0)))
    first = (data_int_known, (refl, refl, inr refl), (refl, tt))

    declared_pointer : ValidStmt (pointing 1) io_table 0 int false
        (does (declare 1 (exprs (typed data_int (binary Add (typed data_int (address_of (object 0))) (num 1)) ∷ []))))
    declared_pointer = ((refl, inr (refl, tt)), ((data_int_known, (tt, refl), (first, number 1 (omega arith))), tt))

    pointer_read : ValidExpr (pointing 1) io_table 0 (typed data_int (load (object 1)))
    pointer_read = (data_int_known, (tt, refl), refl)

    returned : ValidStmt (pointing 1) io_table 0 int false
        (does (return_value (Some (typed int (load (deref (typed data_int (load (object 1)))))))))
    returned = (((λ e. cc), refl), (of_int, (of_int, refl), pointer_read))
