-- The places where rules are judged, each with what is known of the operands there, and the token where a broken rule
-- is told. None stands for an operand that broke a rule itself and has no type.
use Rattle.std.specs.Prelude.{ℕ, Bool, Option, List, [], ◌∷◌}
use Rattle.ec_check_operands.specs.declared.faults.Fault.{Fault}
use Rattle.ec_check_operands.specs.Faults.{Judgement, all_judged}
use Rattle.ec_iohw.specs.declared.operations.IoOp.{IoOp}
use Rattle.ec_core.specs.declared.expressions.BinOp.{BinOp}
use Rattle.ec_core.specs.Plain.{PlainType, PlainStruct}
use Rattle.ec_check_forms.specs.declared.calls.Meant.{Meant}
use Rattle.ec_check_forms.specs.declared.ports.Binding.{Binding}
use Rattle.ec_check_forms.specs.declared.ports.NamedGroup.{NamedGroup}
use Rattle.ec_check_forms.specs.declared.ports.NamedPort.{NamedPort}
use Rattle.ec_check_forms.specs.declared.prefixes.PrefixOp.{PrefixOp}
use Rattle.ec_check_forms.specs.Calls.{name_rules, function_rules, callee_rules, call_rules, port_rules, group_rules}
use Rattle.ec_check_forms.specs.Calls.{binding_rules}
use Rattle.ec_check_forms.specs.Nodes.{use_rules, part_rules, condition_rules, prefix_rules, assignment_rules}
use Rattle.ec_check_forms.specs.Nodes.{compound_rules, step_rules}
use Rattle.ec_check_forms.specs.Accesses.{index_rules, member_rules}
use Rattle.ec_check_forms.specs.Choices.{logical_rules, choice_rules}
use Rattle.ec_check_forms.specs.Choices.{cast_rules}
use Rattle.ec_check_operands.specs.Operands.{Operand}
use Rattle.ec_check_operands.specs.Operators.{operation_rules}
use Rattle.ec_check_operands.specs.Passing.{passing_rules}

pub data Site : Type 0 where
  -- a name where no call is, at the name
  a_name : Meant → (at : ℕ) → Site
  -- the name of a function that is called and is defined or not, at the name
  a_function : (defined : Bool) → (at : ℕ) → Site
  -- what is called, which is the name of a function or not, at its first token
  a_callee : (function : Bool) → (at : ℕ) → Site
  -- a call by the numbers of parameters and arguments, at `(`
  a_call : (params args : ℕ) → (at : ℕ) → Site
  -- a value that is used, at its first token
  a_use : Option Operand → (at : ℕ) → Site
  -- a part of a comma, of an expression statement, or the first or last part of a `for`, at its first token
  a_part : Option Operand → (at : ℕ) → Site
  -- the condition of `if`, `while`, `do` or `for`, at that word
  a_condition : Option Operand → (at : ℕ) → Site
  -- a binary operator, at the operator
  an_operation : BinOp → Option Operand → Option Operand → (at : ℕ) → Site
  -- `&&` or `||`, at the operator
  a_logical : Option Operand → Option Operand → (at : ℕ) → Site
  -- a prefix operator, at the operator
  a_prefix : PrefixOp → Option Operand → (at : ℕ) → Site
  -- `++` or `--`, at the operator
  a_step : Option Operand → (at : ℕ) → Site
  -- a subscript, at `[`
  an_index : Option Operand → Option Operand → (at : ℕ) → Site
  -- `->` or `.`, at the operator, and the name of a member
  a_member : List PlainStruct → (name : List ℕ) → (arrow : Bool) → Option Operand → (at name_at : ℕ) → Site
  -- `=`, at `=`
  an_assignment : Option Operand → Option Operand → (at : ℕ) → Site
  -- a compound assignment, at its operator
  a_compound : BinOp → Option Operand → Option Operand → (at : ℕ) → Site
  -- an operand that is brought to a type, at the first token of an argument or an initialiser, or at `return`
  a_passing : Option Operand → Option PlainType → (at : ℕ) → Site
  -- `?:`, at `?`
  a_choice : Option Operand → Option Operand → Option Operand → (at : ℕ) → Site
  -- a cast to a type, at `(`
  a_cast : Option PlainType → Option Operand → (at : ℕ) → Site
  -- an operation on a port and with so many operands behind it, at the operation's name
  a_port : IoOp → Option NamedPort → (count : ℕ) → (at : ℕ) → Site
  -- an acquire or a release, alike
  a_group : Option NamedGroup → (count : ℕ) → (at : ℕ) → Site
  -- `iogroup_map` with what it binds, at the operation's name
  a_binding : Option Binding → (at : ℕ) → Site

-- the rules that are judged there
abbrev pub rules_at : Site → List Judgement
rules_at (a_name what at) = name_rules what at
rules_at (a_function defined at) = function_rules defined at
rules_at (a_callee function at) = callee_rules function at
rules_at (a_call params args at) = call_rules params args at
rules_at (a_use x at) = use_rules x at
rules_at (a_part x at) = part_rules x at
rules_at (a_condition x at) = condition_rules x at
rules_at (an_operation op x y at) = operation_rules op x y at
rules_at (a_logical x y at) = logical_rules x y at
rules_at (a_prefix op x at) = prefix_rules op x at
rules_at (a_step x at) = step_rules x at
rules_at (an_index x y at) = index_rules x y at
rules_at (a_member structs name arrow x at name_at) = member_rules structs name arrow x at name_at
rules_at (an_assignment x y at) = assignment_rules x y at
rules_at (a_compound op x y at) = compound_rules op x y at
rules_at (a_passing x to at) = passing_rules x to at
rules_at (a_choice c x y at) = choice_rules c x y at
rules_at (a_cast to x at) = cast_rules to x at
rules_at (a_port op port count at) = port_rules op port count at
rules_at (a_group g count at) = group_rules g count at
rules_at (a_binding b at) = binding_rules b at

-- the least fault of one that is known and those at some sites
abbrev pub told : Option Fault → List Site → Option Fault
told known [] = known
told known (s ∷ ss) = told (all_judged known (rules_at s)) ss
