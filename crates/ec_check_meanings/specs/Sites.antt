-- The places of an expression where constraints are judged, and what is seen of the operands there (ISO/IEC 9899:1999,
-- 6.5), by the meanings of its parts.
use Rattle.std.specs.Prelude.{ℕ, suc, ◌+◌, Bool, true, false, is_some, Option, Some, None, List, length, slice_get, ◌≡◌}
use Rattle.ec_iohw.specs.declared.operations.IoOp.{IoOp}
use Rattle.ec_grammar.specs.declared.Operation.{Operation}
use Rattle.ec_grammar.specs.declared.Operation.TheVariants as operations
use Rattle.ec_grammar.specs.declared.token.GroupOp.TheVariants as groups
use Rattle.ec_grammar.specs.Trees.{TypeName}
use Rattle.ec_core.specs.declared.expressions.BinOp.{BinOp}
use Rattle.ec_core.specs.Plain.{PlainType}
use Rattle.ec_core.specs.PortOperations.{port_operation}
use Rattle.ec_check_names.specs.Names.{a_function, found}
use Rattle.ec_check_operands.specs.Operands.{Operand}
use Rattle.ec_check_forms.specs.declared.ports.Binding.{Binding}
use Rattle.ec_check_forms.specs.declared.prefixes.PrefixOp.{PrefixOp}
use Rattle.ec_check_forms.specs.Calls.{operand_type, port_named, group_named}
use Rattle.ec_check_forms.specs.Sites.{a_name, a_callee, a_call, a_use, a_part, an_operation, a_logical, a_prefix, a_step}
use Rattle.ec_check_forms.specs.Sites.{an_index, a_member, an_assignment, a_compound, a_passing, a_choice, a_cast, a_port}
use Rattle.ec_check_forms.specs.Sites.{a_group, a_binding, a_function as a_function_name}
use Rattle.ec_check_expressions.specs.Known.{Known}
use Rattle.ec_check_expressions.specs.Names.{what_is_meant}
use Rattle.ec_check_expressions.specs.Sites.{Site, on, a_type_name}
use Rattle.ec_check_expressions.specs.TypeNames.{said_type}
use Rattle.ec_check_meanings.specs.Bindings.{SeesBinding}
use Rattle.ec_check_meanings.specs.Means.{Means, Uses, HasNone, IsName}
use Rattle.ec_check_meanings.specs.Terms as term
use Rattle.ec_check_meanings.specs.Terms.{Term, Terms, TakesValues, first}

-- ---- what is seen of a part

-- what it means, or that it means nothing
abbrev pub Sees : Known → Term → Option Operand → Type 0
Sees k x None = HasNone k x
Sees k x (Some o) = Means k x o

-- the same of a value that is used
abbrev pub SeesUsed : Known → Term → Option Operand → Type 0
SeesUsed k x None = (o : Operand) → ¬ Uses k x o
SeesUsed k x (Some o) = Uses k x o

-- ---- calls

-- what is called is the name of a function, which stands at a token
pub record Calls (k : Known) (x : Term) (at : ℕ) (number : Option ℕ) (params : Option (List PlainType)) : Type 0 where
  pub name : List ℕ
  pub returns : Option PlainType
  pub named : IsName at name x
  pub function : found name k.names ≡ Some (a_function number returns params)

abbrev pub CallsFunction : Known → Term → Type 0
CallsFunction k x = (at : ℕ) × (number : Option ℕ) × (params : Option (List PlainType)) × Calls k x at number params

-- ---- arguments

abbrev pub count : Terms → ℕ
count term.no_terms = 0
count (term.terms x ys) = count ys + 1

-- the argument with a number
pub data IsAt (x : Term) : ℕ → Terms → Type 0 where
  here : {ys : Terms} → IsAt x 0 (term.terms x ys)
  later : {i : ℕ} {y : Term} {ys : Terms} → IsAt x i ys → IsAt x (suc i) (term.terms y ys)

-- the type to which it is brought, as far as the parameters are known
abbrev pub type_at : Option (List PlainType) → ℕ → Option PlainType
type_at None i = None
type_at (Some tys) i = slice_get tys i

-- the type to which an operand of an operation is brought; those of groups have no operands
abbrev pub type_of_operand : Operation → ℕ → Option PlainType
type_of_operand (operations.Port op) i = operand_type (port_operation op) i
type_of_operand (operations.Group op) i = None

-- ---- parts

-- a part that is used as a value: each operand but the second and third of `?:`
pub data IsUsed (x : Term) : Term → Type 0 where
  operand : {at i : ℕ} {op : Operation} {n : List ℕ} {ys : Terms} → TakesValues op → IsAt x i ys
      → IsUsed x (term.operation at op n ys)
  before_index : {at : ℕ} {y : Term} → IsUsed x (term.index x at y)
  in_index : {at : ℕ} {y : Term} → IsUsed x (term.index y at x)
  argument : {at i : ℕ} {y : Term} {ys : Terms} → IsAt x i ys → IsUsed x (term.call y at ys)
  before_member : {at name_at : ℕ} {arrow : Bool} {n : List ℕ} → IsUsed x (term.member x at arrow name_at n)
  before_step : {at : ℕ} {up : Bool} → IsUsed x (term.stepped x at up)
  behind_step : {at : ℕ} {up : Bool} → IsUsed x (term.step at up x)
  behind_prefix : {at : ℕ} {op : PrefixOp} → IsUsed x (term.prefixed at op x)
  behind_cast : {at : ℕ} {n : TypeName} → IsUsed x (term.cast at n x)
  left_operand : {at : ℕ} {op : BinOp} {y : Term} → IsUsed x (term.binary x at op y)
  right_operand : {at : ℕ} {op : BinOp} {y : Term} → IsUsed x (term.binary y at op x)
  left_condition : {at : ℕ} {both : Bool} {y : Term} → IsUsed x (term.logical x at both y)
  right_condition : {at : ℕ} {both : Bool} {y : Term} → IsUsed x (term.logical y at both x)
  condition : {at : ℕ} {y z : Term} → IsUsed x (term.choice x at y z)
  assigned_place : {at : ℕ} {y : Term} → IsUsed x (term.assign x at y)
  assigned_value : {at : ℕ} {y : Term} → IsUsed x (term.assign y at x)
  changed_place : {at : ℕ} {op : BinOp} {y : Term} → IsUsed x (term.compound x at op y)
  changing_value : {at : ℕ} {op : BinOp} {y : Term} → IsUsed x (term.compound y at op x)
  before_comma : {at : ℕ} {y : Term} → IsUsed x (term.comma x at y)
  behind_comma : {at : ℕ} {y : Term} → IsUsed x (term.comma y at x)

-- a part that is looked into: what is called is so where it is no function's name
pub data IsLookedInto (k : Known) (x : Term) : Term → Type 0 where
  used : {y : Term} → IsUsed x y → IsLookedInto k x y
  in_parentheses : {at : ℕ} → IsLookedInto k x (term.parenthesised at x)
  first_branch : {at : ℕ} {y z : Term} → IsLookedInto k x (term.choice y at x z)
  second_branch : {at : ℕ} {y z : Term} → IsLookedInto k x (term.choice y at z x)
  called : {at : ℕ} {ys : Terms} → ¬ CallsFunction k x → IsLookedInto k x (term.call x at ys)

-- ---- sites

-- the sites of one operator, name or call, and of the values that it uses
pub data SiteOf (k : Known) : Term → Site → Type 0 where
  of_use : {x y : Term} {m : Option Operand} → IsUsed x y → Sees k x m → SiteOf k y (on (a_use m (first x)))
  of_name : {at : ℕ} {n : List ℕ} → SiteOf k (term.name at n) (on (a_name (what_is_meant (found n k.names)) at))
  of_port : {at : ℕ} {op : IoOp} {n : List ℕ} {ys : Terms}
      → SiteOf k (term.operation at (operations.Port op) n ys) (on (a_port op (port_named k.ports n) (count ys) at))
  of_acquire : {at : ℕ} {n : List ℕ} {ys : Terms}
      → SiteOf k (term.operation at (operations.Group groups.Acquire) n ys)
      (on (a_group (group_named k.ports n) (count ys) at))
  of_release : {at : ℕ} {n : List ℕ} {ys : Terms}
      → SiteOf k (term.operation at (operations.Group groups.Release) n ys)
      (on (a_group (group_named k.ports n) (count ys) at))
  of_map : {at : ℕ} {n : List ℕ} {ys : Terms} {b : Option Binding} → SeesBinding k.ports n ys b
      → SiteOf k (term.operation at (operations.Group groups.Map) n ys) (on (a_binding b at))
  of_operand : {at i : ℕ} {op : Operation} {n : List ℕ} {x : Term} {ys : Terms} {m : Option Operand} → TakesValues op
      → IsAt x i ys
      → SeesUsed k x m → SiteOf k (term.operation at op n ys) (on (a_passing m (type_of_operand op i) (first x)))
  of_callee : {at : ℕ} {x : Term} {ys : Terms} → CallsFunction k x
      → SiteOf k (term.call x at ys) (on (a_callee true (first x)))
  of_no_callee : {at : ℕ} {x : Term} {ys : Terms} → ¬ CallsFunction k x
      → SiteOf k (term.call x at ys) (on (a_callee false (first x)))
  of_function : {at name_at : ℕ} {x : Term} {ys : Terms} {number : Option ℕ} {params : Option (List PlainType)}
      → Calls k x name_at number params → SiteOf k (term.call x at ys) (on (a_function_name (is_some number) name_at))
  of_call : {at name_at : ℕ} {x : Term} {ys : Terms} {number : Option ℕ} {tys : List PlainType}
      → Calls k x name_at number (Some tys) → SiteOf k (term.call x at ys) (on (a_call (length tys) (count ys) at))
  of_argument : {at name_at i : ℕ} {x y : Term} {ys : Terms} {number : Option ℕ} {params : Option (List PlainType)}
      {m : Option Operand} → Calls k x name_at number params → IsAt y i ys → SeesUsed k y m
      → SiteOf k (term.call x at ys) (on (a_passing m (type_at params i) (first y)))
  of_other_argument : {at i : ℕ} {x y : Term} {ys : Terms} {m : Option Operand} → ¬ CallsFunction k x → IsAt y i ys
      → SeesUsed k y m → SiteOf k (term.call x at ys) (on (a_passing m None (first y)))
  of_index : {at : ℕ} {x y : Term} {m n : Option Operand} → SeesUsed k x m → SeesUsed k y n
      → SiteOf k (term.index x at y) (on (an_index m n at))
  of_member : {at name_at : ℕ} {arrow : Bool} {n : List ℕ} {x : Term} {m : Option Operand} → SeesUsed k x m
      → SiteOf k (term.member x at arrow name_at n) (on (a_member k.structs n arrow m at name_at))
  of_step_behind : {at : ℕ} {up : Bool} {x : Term} {m : Option Operand} → SeesUsed k x m
      → SiteOf k (term.stepped x at up) (on (a_step m at))
  of_step : {at : ℕ} {up : Bool} {x : Term} {m : Option Operand} → SeesUsed k x m
      → SiteOf k (term.step at up x) (on (a_step m at))
  of_prefix : {at : ℕ} {op : PrefixOp} {x : Term} {m : Option Operand} → SeesUsed k x m
      → SiteOf k (term.prefixed at op x) (on (a_prefix op m at))
  of_size : {at : ℕ} {n : TypeName} → SiteOf k (term.size at n) (a_type_name k.tags n)
  of_type : {at : ℕ} {n : TypeName} {x : Term} → SiteOf k (term.cast at n x) (a_type_name k.tags n)
  of_cast : {at : ℕ} {n : TypeName} {x : Term} {m : Option Operand} → SeesUsed k x m
      → SiteOf k (term.cast at n x) (on (a_cast (said_type k.tags n) m at))
  of_binary : {at : ℕ} {op : BinOp} {x y : Term} {m n : Option Operand} → SeesUsed k x m → SeesUsed k y n
      → SiteOf k (term.binary x at op y) (on (an_operation op m n at))
  of_logical : {at : ℕ} {both : Bool} {x y : Term} {m n : Option Operand} → SeesUsed k x m → SeesUsed k y n
      → SiteOf k (term.logical x at both y) (on (a_logical m n at))
  of_choice : {at : ℕ} {c x y : Term} {l m n : Option Operand} → SeesUsed k c l → Sees k x m → Sees k y n
      → SiteOf k (term.choice c at x y) (on (a_choice l m n at))
  of_assignment : {at : ℕ} {x y : Term} {m n : Option Operand} → SeesUsed k x m → SeesUsed k y n
      → SiteOf k (term.assign x at y) (on (an_assignment m n at))
  of_compound : {at : ℕ} {op : BinOp} {x y : Term} {m n : Option Operand} → SeesUsed k x m → SeesUsed k y n
      → SiteOf k (term.compound x at op y) (on (a_compound op m n at))
  of_left_part : {at : ℕ} {x y : Term} {m : Option Operand} → SeesUsed k x m
      → SiteOf k (term.comma x at y) (on (a_part m (first x)))
  of_right_part : {at : ℕ} {x y : Term} {m : Option Operand} → SeesUsed k y m
      → SiteOf k (term.comma x at y) (on (a_part m (first y)))

-- the sites of an expression: its own, and those of its parts
pub data SiteIn (k : Known) : Term → Site → Type 0 where
  own : {y : Term} {s : Site} → SiteOf k y s → SiteIn k y s
  inner : {x y : Term} {s : Site} → IsLookedInto k x y → SiteIn k x s → SiteIn k y s
