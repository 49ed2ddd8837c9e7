-- The mode of each node of an expression (ISO/IEC TR 18037:2008, 4.1.3): a result of a fixed-point type saturates where
-- its type says so, or where the overflow state of its family at that place does; every other node has no such mode.
use Rattle.std.specs.Prelude.{◌≡◌, ◌||◌, if◌then◌else◌, false, ⊤}
use Rattle.ec_fx.specs.declared.numbers.Mode.{Mode}
use Rattle.ec_fx.specs.Formats.{format_of, is_fract}
use Rattle.ec_core.specs.Plain.{PlainType, fixed, PlainExpr, expression, PlainNode, number, null, load, address_of, unary}
use Rattle.ec_core.specs.Plain.{binary, convert, assign, compound, step, logical_not, logical_and, logical_or, conditional}
use Rattle.ec_core.specs.Plain.{comma, call, io, group, bind, dynamic_group, PlainPlace, object, deref, member}
use Rattle.ec_core.specs.Plain.{OptionPlainExpr, no_expr, an_expr, PlainExprs, last_expr, next_expr}
use Rattle.ec_core.specs.Typing.{type_of_expr}
use Rattle.ec_check_operands.specs.declared.operands.Modes.{Modes}
use Rattle.ec_check_operands.specs.Operands.{Operand, place, value}
use Rattle.ec_check_meanings.specs.Means.{IsOperationMode}

-- the mode that the states of a place say of a type
abbrev pub IsSaid : Modes → PlainType → Mode → Type 0
IsSaid m (fixed kind sat) mode = mode.saturate ≡ (sat || (if is_fract (format_of kind) then m.fract else m.accum))
IsSaid m ty mode = mode.saturate ≡ false

-- each node has the mode that the states say of its type; a compound assignment has it twice: its own is that of the
-- place's type, and that of the operation is said of the result of the place's type and the right side's
abbrev mutual
  pub AllNodesHave : Modes → PlainExpr → Type 0
  AllNodesHave m (expression ty mode node) = IsSaid m ty mode × NodeHas m ty node

  pub NodeHas : Modes → PlainType → PlainNode → Type 0
  NodeHas m ty (number n) = ⊤
  NodeHas m ty null = ⊤
  NodeHas m ty (load p) = PlaceHas m p
  NodeHas m ty (address_of p) = PlaceHas m p
  NodeHas m ty (unary op a) = AllNodesHave m a
  NodeHas m ty (binary op a b) = AllNodesHave m a × AllNodesHave m b
  NodeHas m ty (convert a) = AllNodesHave m a
  NodeHas m ty (assign p a) = PlaceHas m p × AllNodesHave m a
  NodeHas m ty (compound op mode p a) = PlaceHas m p × AllNodesHave m a × IsOperationMode m op ty (type_of_expr a) mode
  NodeHas m ty (step up prefix p) = PlaceHas m p
  NodeHas m ty (logical_not a) = AllNodesHave m a
  NodeHas m ty (logical_and a b) = AllNodesHave m a × AllNodesHave m b
  NodeHas m ty (logical_or a b) = AllNodesHave m a × AllNodesHave m b
  NodeHas m ty (conditional c a b) = AllNodesHave m c × AllNodesHave m a × AllNodesHave m b
  NodeHas m ty (comma a b) = AllNodesHave m a × AllNodesHave m b
  NodeHas m ty (call f args) = RowHas m args
  NodeHas m ty (io op port index contents) = OptionHas m index × OptionHas m contents
  NodeHas m ty (group acquire index) = ⊤
  NodeHas m ty (bind dynamic choice) = ⊤
  NodeHas m ty (dynamic_group acquire index) = ⊤

  pub PlaceHas : Modes → PlainPlace → Type 0
  PlaceHas m (object n) = ⊤
  PlaceHas m (deref a) = AllNodesHave m a
  PlaceHas m (member p i) = PlaceHas m p

  pub OptionHas : Modes → OptionPlainExpr → Type 0
  OptionHas m no_expr = ⊤
  OptionHas m (an_expr a) = AllNodesHave m a

  pub RowHas : Modes → PlainExprs → Type 0
  RowHas m last_expr = ⊤
  RowHas m (next_expr a rest) = AllNodesHave m a × RowHas m rest

-- so of an operand
abbrev pub OperandHas : Modes → Operand → Type 0
OperandHas m (place ty const space register p) = PlaceHas m p
OperandHas m (value e zero) = AllNodesHave m e
