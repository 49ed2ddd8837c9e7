-- The work of a program's parts in words (our own profile): a bound on the code of each part, and with the number of
-- times that a run comes to it, on the steps of the run.
use Rattle.std.specs.Prelude.{ℕ, ◌+◌, ◌*◌, max, Bool, List, [], ◌∷◌, length, Option, Some, None, option_map, unwrap_or}
use Rattle.std.specs.Prelude.{slice_get}
use Rattle.ec_iohw.specs.declared.table.Choice.{Choice}
use Rattle.ec_core.specs.Layout.{scalar_size}
use Rattle.ec_core.specs.Plain.{PlainType, PlainExpr, PlainNode, number, null, load, address_of, unary, binary, convert}
use Rattle.ec_core.specs.Plain.{assign, compound, step, logical_not, logical_and, logical_or, conditional, comma, call}
use Rattle.ec_core.specs.Plain.{io, group, bind, dynamic_group, PlainPlace, object, deref, member, PlainExprs}
use Rattle.ec_core.specs.Plain.{last_expr, next_expr}
use Rattle.ec_core.specs.PortAccesses.{pairs_of}
use Rattle.ec_core.specs.PortOperations.{PortAction, reads, writes, updates, port_operation}
use Rattle.ec_core.specs.PortTable.{PlainTable, choices_of}
use Rattle.ec_core.specs.Typing.{type_of_expr}

-- ---- sizes

-- the greatest number of bytes of some types, and at least 1
abbrev pub widest : List PlainType → ℕ
widest [] = 1
widest (ty ∷ tys) = max (scalar_size ty) (widest tys)

-- the types of the pointers in a place, before others
abbrev pub pointer_types : PlainPlace → List PlainType → List PlainType
pointer_types (object o) rest = rest
pointer_types (deref e) rest = type_of_expr e ∷ rest
pointer_types (member p i) rest = pointer_types p rest

-- the bytes of some values together
abbrev pub total_size : PlainExprs → ℕ
total_size last_expr = 0
total_size (next_expr e es) = scalar_size (type_of_expr e) + total_size es

-- ---- rows, for b bytes

abbrev pub simple_words : ℕ → ℕ
simple_words b = 30 + 10 * b

abbrev pub operation_words : ℕ → ℕ
operation_words b = 150 + 40 * b + 40 * (b * b)

abbrev pub update_words : ℕ → ℕ
update_words b = 360 + 100 * b + 80 * (b * b)

abbrev pub choice_words : ℕ → ℕ
choice_words b = 60 + 10 * b

abbrev pub return_words : ℕ → ℕ
return_words b = 40 + 10 * b

abbrev pub program_words : ℕ
program_words = 200

abbrev pub function_words : ℕ
function_words = 40

abbrev pub member_words : ℕ
member_words = 30

abbrev pub branch_words : ℕ
branch_words = 40

abbrev pub loop_words : ℕ
loop_words = 60

abbrev pub jump_words : ℕ
jump_words = 10

-- an operation on a port of some width
abbrev pub port_words : PortAction → ℕ → ℕ
port_words reads width = 80 + 40 * width
port_words writes width = 80 + 40 * width
port_words updates width = 160 + 80 * width

-- an acquire or release that writes so many bytes
abbrev pub group_words : ℕ → ℕ
group_words pairs = 20 + 10 * pairs

-- the bytes that an acquire or release of a group of the table writes
abbrev pub pair_count : PlainTable → Bool → (group : ℕ) → ℕ
pair_count table acquire g = unwrap_or (option_map (λ x. length (pairs_of acquire x)) (slice_get table.groups g)) 0

abbrev pub bind_words : ℕ
bind_words = 20

-- an acquire or release of a dynamic group compares what it is bound to with each of its choices
abbrev pub dynamic_words : PlainTable → Bool → List Choice → ℕ
dynamic_words table acquire [] = 0
dynamic_words table acquire (c ∷ cs) = 40 + 10 * pair_count table acquire c.group + dynamic_words table acquire cs

-- ---- nodes: b is the greatest number of bytes of the types of a node, of its operands and of the pointers in its
-- place

abbrev pub node_words : PlainTable → PlainType → PlainNode → ℕ
node_words table ty (number n) = simple_words (widest (ty ∷ []))
node_words table ty null = simple_words (widest (ty ∷ []))
node_words table ty (load p) = simple_words (widest (ty ∷ pointer_types p []))
node_words table ty (address_of p) = simple_words (widest (ty ∷ pointer_types p []))
node_words table ty (unary op e) = operation_words (widest (ty ∷ type_of_expr e ∷ []))
node_words table ty (binary op a b) = operation_words (widest (ty ∷ type_of_expr a ∷ type_of_expr b ∷ []))
node_words table ty (convert e) = operation_words (widest (ty ∷ type_of_expr e ∷ []))
node_words table ty (assign p e) = simple_words (widest (ty ∷ pointer_types p (type_of_expr e ∷ [])))
node_words table ty (compound op operation_mode p e) =
    update_words (widest (ty ∷ pointer_types p (type_of_expr e ∷ [])))
node_words table ty (step up prefix p) = update_words (widest (ty ∷ pointer_types p []))
node_words table ty (logical_not e) = choice_words (widest (ty ∷ type_of_expr e ∷ []))
node_words table ty (logical_and a b) = choice_words (widest (ty ∷ type_of_expr a ∷ type_of_expr b ∷ []))
node_words table ty (logical_or a b) = choice_words (widest (ty ∷ type_of_expr a ∷ type_of_expr b ∷ []))
node_words table ty (conditional c a b) =
    choice_words (widest (ty ∷ type_of_expr c ∷ type_of_expr a ∷ type_of_expr b ∷ []))
node_words table ty (comma a b) = 0
node_words table ty (call f args) = 60 + 10 * (total_size args + scalar_size ty)
node_words table ty (io op port index value) =
    port_words (port_operation op).action (unwrap_or (option_map (λ p. p.width) (slice_get table.ports port)) 0)
node_words table ty (group acquire g) = group_words (pair_count table acquire g)
node_words table ty (bind d choice) = bind_words
node_words table ty (dynamic_group acquire d) = dynamic_words table acquire (choices_of table d)

-- a return with a value or without one
abbrev pub return_of : Option PlainExpr → ℕ
return_of None = return_words 1
return_of (Some e) = return_words (widest (type_of_expr e ∷ []))

-- the initialisation of a leaf
abbrev pub leaf_words : PlainExpr → ℕ
leaf_words e = simple_words (widest (type_of_expr e ∷ []))
