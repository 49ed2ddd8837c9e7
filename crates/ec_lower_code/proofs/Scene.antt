-- A program beside its operations: what is the same throughout a run, and what is the same throughout a call.
use Rattle.std.proofs.Common.{◌≡◌, ℕ, ◌+◌, ◌*◌, true, List, [], ◌∷◌, Some}
use Rattle.std.specs.Prelude.{⊤, slice_get}
use Rattle.ec_iohw.specs.declared.table.IoTable.{IoTable}
use Rattle.ec_core.specs.declared.values.Value.{Value}
use Rattle.ec_core.specs.Expressions.{Calls}
use Rattle.ec_core.specs.Layout.{IsScalar, scalar_size}
use Rattle.ec_core.specs.Meaning.{setting}
use Rattle.ec_core.specs.Plain.{PlainExprs, last_expr, next_expr, PlainFunction, PlainProgram}
use Rattle.ec_core.specs.PortTable.{PlainTable, plain_table}
use Rattle.ec_core.specs.State.{Inputs, Setting, State}
use Rattle.ec_core.specs.Statements.{calls_within}
use Rattle.ec_core.specs.Typing.{type_of_expr, AreArguments}
use Rattle.ec_core.specs.Words.{total_size}
use Rattle.ec_core.specs.Valid.{Valid}
use Rattle.ec_core.specs.ValueTypes.{HasType, IsTypedState, GiveBytes, ValuesHaveTheirTypes}
use Rattle.ec_core.proofs.Filled.{leaves_fill_their_types}
use Rattle.ec_core.proofs.TypedRuns.{types_are_kept}
use Rattle.ec_ir.specs.Meaning.{is_among, Mach, Frame}
use Rattle.ec_ir.specs.Operations.{PlainIr, call_function, data_of}
use Rattle.ec_ir.specs.Temporaries.{Temps}
use Rattle.ec_lower_code.specs.Code.{result_temp, params_code, lowered}
use Rattle.ec_lower_code.specs.Correct.{GroupsHaveBytes}
use Rattle.ec_lower_code.proofs.Callees.{IsOther}
use Rattle.ec_lower_code.proofs.Homes.{AreApart}
use Rattle.ec_lower_code.proofs.Ops.{to_rest, HasValue, Below}
use Rattle.ec_lower_code.proofs.Shown.{held_of, Match}
use Rattle.ec_lower_code.proofs.Steps.{Resolves, Spot, around, Runs}
use Rattle.ec_lower_code.proofs.Tables.{HaveFewChoices, few_choices}

pub record World : Type 0 where
  pub program : PlainProgram
  pub io : IoTable
  pub inputs : Inputs
  pub valid : Valid program io
  pub pairs : GroupsHaveBytes io
  pub bytes : GiveBytes inputs
  pub n : ℕ

module _ (x : World) where
  abbrev pub ports : PlainTable
  ports = plain_table x.io

  abbrev pub homes : PlainProgram
  homes = data_of (lowered x.program ports)

  abbrev pub set : Setting
  set = setting x.program (plain_table x.io) x.inputs

  abbrev pub calls_to : ℕ → Calls
  calls_to depth = calls_within set x.n depth

  -- the machine in a function with these operations, where these calls wait
  abbrev pub spot : List PlainIr → List Frame → Spot
  spot code stack = record {
    functions = (lowered x.program ports).functions;
    program = homes;
    table = ports;
    inputs = x.inputs;
    code = code;
    stack = stack;
  }

  pub law : ValuesHaveTheirTypes x.program x.io x.inputs
  law = types_are_kept x.program x.io x.inputs x.valid x.bytes

  pub few : HaveFewChoices ports
  few = few_choices x.io x.valid.ports x.pairs

  pub apart : AreApart homes
  apart o d k leaf e f = ((leaves_fill_their_types.objects x.program x.io o d x.valid e).each k leaf f).found

  -- arguments from t on, with their types
  abbrev pub AreHeld : PlainExprs → List Value → ℕ → Temps → Type 0
  AreHeld last_expr [] t temps = ⊤
  AreHeld last_expr (v ∷ vs) t temps = ⊥
  AreHeld (next_expr e es) [] t temps = ⊥
  AreHeld (next_expr e es) (v ∷ vs) t temps = (IsScalar (type_of_expr e) → temps t ≡ Some (held_of (type_of_expr e) v)) × HasType x.program
      (type_of_expr e) v × AreHeld es vs (t + 1) temps

  -- The operations of a call of a function other than main, from the arguments on, do what it does. It is paid by its row
  abbrev pub Callee : ℕ → Type 0
  Callee depth =
      (g : ℕ) (f : PlainFunction) → slice_get x.program.functions g ≡ Some f → IsOther x.program g
      → (code : List PlainIr) (stack : List Frame) (es : PlainExprs) (vs : List Value) (t d : ℕ) (b : Temps) (rest : List PlainIr)
      (s : State) (m : Mach)
      → AreArguments x.program f.params es → AreHeld es vs t m.temps → Match homes ports (around (spot code stack)) (d + (60 + 10 *
      (total_size
      es + scalar_size f.returns)))
      s m → IsTypedState x.program s → Below (spot code stack) t b m
      → Runs (spot code stack) x.n (params_code f.params es t (call_function g (result_temp t f.returns) ∷ rest)) m
      (to_rest (spot code stack) rest) (HasValue (spot code stack) f.returns t d b) (calls_to depth g vs s)

  pub record Scene : Type 0 where
    pub depth : ℕ
    pub f : ℕ
    pub code : List PlainIr
    pub resolves : Resolves code
    pub stack : List Frame
    pub runs : is_among (around (spot code stack)) f ≡ true
    pub callee : Callee depth
