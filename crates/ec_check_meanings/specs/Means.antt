-- What an expression means where it stands (ISO/IEC 9899:1999, 6.5; ISO/IEC TR 18037:2008, 4.1, 5.1 and 6.2): a relation
-- between terms and operands of the program, with one constructor or a few for each operator. Each asks for a meaning
-- of its parts, so nothing around a part without a meaning has one.
use Rattle.std.specs.Prelude.{ℕ, ◌≡◌, ◌≢◌, ◌<◌, ℤ, pos, Bool, true, false, ⊤, Some, None, List, [], ◌∷◌, length}
use Rattle.ec_fx.specs.declared.formats.FxKind.{FxKind}
use Rattle.ec_fx.specs.declared.numbers.Mode.{Mode}
use Rattle.ec_iohw.specs.declared.operations.IoOp.{IoOp}
use Rattle.ec_space.specs.declared.space.SpaceId.{SpaceId}
use Rattle.ec_grammar.specs.declared.Constant.TheVariants as constants
use Rattle.ec_grammar.specs.declared.Operation.TheVariants as operations
use Rattle.ec_grammar.specs.declared.token.GroupOp.TheVariants as groups
use Rattle.ec_grammar.specs.Trees.{TypeName}
use Rattle.ec_core.specs.declared.arithmetic_types.Arithmetic.{Arithmetic}
use Rattle.ec_core.specs.declared.arithmetic_types.Arithmetic.TheVariants.{Integer}
use Rattle.ec_core.specs.declared.arithmetic_types.IntegerType.{IntegerType}
use Rattle.ec_core.specs.declared.expressions.BinOp.{BinOp}
use Rattle.ec_core.specs.declared.expressions.BinOp.TheVariants.{Add}
use Rattle.ec_core.specs.declared.expressions.UnOp.TheVariants as unary_operators
use Rattle.ec_core.specs.ArithmeticTypes.{type_of}
use Rattle.ec_core.specs.Layout.{NamesBelow, IsIntegerSize, size_of_type}
use Rattle.ec_core.specs.Operators.{promoted_type}
use Rattle.ec_core.specs.Plain.{PlainType, void, integer, fixed, pointer, struct, PlainExpr, PlainPlace, OptionPlainExpr}
use Rattle.ec_core.specs.Plain.{no_expr, an_expr, object, deref, member, number, address_of, unary, binary, assign}
use Rattle.ec_core.specs.Plain.{compound, step, logical_not, logical_and, logical_or, conditional, comma, call, io, group}
use Rattle.ec_core.specs.Plain.{bind, dynamic_group}
use Rattle.ec_core.specs.PortOperations.{PortOperation, port_operation, takes_value}
use Rattle.ec_core.specs.Typing.{int, unsigned_int, type_of_member, port_value, port_result}
use Rattle.ec_check_names.specs.Names.{an_object, a_function, found}
use Rattle.ec_check_operands.specs.declared.operands.Modes.{Modes}
use Rattle.ec_check_operands.specs.Operands.{Operand, place, value, made, mode_of, value_type, as_value}
use Rattle.ec_check_forms.specs.declared.ports.Binding.{Binding}
use Rattle.ec_check_forms.specs.declared.ports.NamedGroup.TheVariants as named_groups
use Rattle.ec_check_forms.specs.declared.ports.NamedPort.{NamedPort}
use Rattle.ec_check_forms.specs.declared.prefixes.PrefixOp.TheVariants as prefixes
use Rattle.ec_check_forms.specs.Accesses.{member_number}
use Rattle.ec_check_forms.specs.Calls.{port_named, group_named}
use Rattle.ec_check_forms.specs.Constraints.{IsInteger, IsPointer, IsScalar, IsStruct, IsAggregate, SuitsAlone, SuitTogether}
use Rattle.ec_check_forms.specs.Constraints.{CanBeCast}
use Rattle.ec_check_expressions.specs.Callees.{exprs_of}
use Rattle.ec_check_expressions.specs.Known.{Known}
use Rattle.ec_check_expressions.specs.TypeNames.{said_type, void_said}
use Rattle.ec_check_meanings.specs.Bindings.{Binds}
use Rattle.ec_check_meanings.specs.Conversions.{IsConverted, IsBrought, IsPassed, Results, IsOperation, IsChoice}
use Rattle.ec_check_meanings.specs.Terms as term

-- ---- names and types

-- a name that stands at a token, in parentheses or not
pub data IsName (at : ℕ) (n : List ℕ) : term.Term → Type 0 where
  bare : IsName at n (term.name at n)
  enclosed : {l : ℕ} {x : term.Term} → IsName at n x → IsName at n (term.parenthesised l x)

-- the type that a type name says, which says no void
pub record Says (k : Known) (n : TypeName) (ty : PlainType) : Type 0 where
  pub no_void : void_said k.tags n ≡ None
  pub said : said_type k.tags n ≡ Some ty

-- the types that a type name can say and an object can have: numbers, pointers, and the structs that are defined
abbrev pub HasSize : (structs : ℕ) → PlainType → Type 0
HasSize n (integer signed bytes) = IsIntegerSize bytes
HasSize n (fixed kind sat) = ⊤
HasSize n (pointer space const to) = NamesBelow n to
HasSize n (struct index) = index < n
HasSize n ty = ⊥

-- a member of a struct, by its name, with its number and its type
pub record IsMember (k : Known) (index : ℕ) (n : List ℕ) (number : ℕ) (ty : PlainType) : Type 0 where
  pub found : member_number k.structs n index ≡ Some number
  pub type : type_of_member k.structs (struct index) number ≡ Some ty

-- ---- operations on ports

-- the operands that an operation on a port takes behind it: an index, and then a value
pub data Takes (op : PortOperation) : List PlainType → List PlainExpr → (index contents : OptionPlainExpr) → Type 0 where
  neither : op.indexed ≡ false → takes_value op ≡ false → Takes op [] [] no_expr no_expr
  an_index : {i : PlainExpr} → op.indexed ≡ true → takes_value op ≡ false
      → Takes op (unsigned_int ∷ []) (i ∷ []) (an_expr i) no_expr
  a_value : {v : PlainExpr} → op.indexed ≡ false → takes_value op ≡ true
      → Takes op (port_value op ∷ []) (v ∷ []) no_expr (an_expr v)
  both : {i v : PlainExpr} → op.indexed ≡ true → takes_value op ≡ true
      → Takes op (unsigned_int ∷ port_value op ∷ []) (i ∷ v ∷ []) (an_expr i) (an_expr v)

-- a port of width 4 is accessed by the long operations only
abbrev pub Reaches : PortOperation → NamedPort → Type 0
Reaches op p = p.width ≡ 4 → op.long ≡ true

-- ---- casts

-- an operand that is cast to a type (6.5.4; TR 18037, 5.1.3)
pub record IsCast (m : Modes) (to : PlainType) (x : Operand) (e : PlainExpr) : Type 0 where
  pub castable : CanBeCast x to
  pub brought : IsBrought m to x e

-- ---- compound assignments

-- The mode of the operation in a compound assignment is found as that of any expression of its result's type; where a
-- pointer moves it says nothing.
pub data IsOperationMode (m : Modes) (op : BinOp) (a b : PlainType) : Mode → Type 0 where
  of_numbers : {s t result : Arithmetic} → a ≡ type_of s → b ≡ type_of t → Results op s t result
      → IsOperationMode m op a b (mode_of m (type_of result))
  of_pointer : IsPointer a → IsOperationMode m op a b (record { saturate = false })

-- ---- meanings

mutual
  pub data Means (k : Known) : term.Term → Operand → Type 0 where
    -- the name of an object is a place (6.5.1)
    named : {at number : ℕ} {n : List ℕ} {ty : PlainType} {const register : Bool} {s : SpaceId}
        → found n k.names ≡ Some (an_object (Some number) (Some ty) const s register)
        → Means k (term.name at n) (place ty const s register (object number))
    -- an integer constant of value 0 is the null pointer constant (6.3.2.3)
    null_constant : {at bytes : ℕ} {signed : Bool}
        → Means k (term.constant at (constants.Whole 0 signed bytes))
        (value (made k.modes (integer signed bytes) (number (pos 0))) true)
    whole_constant : {at n bytes : ℕ} {signed : Bool} → n ≢ 0
        → Means k (term.constant at (constants.Whole n signed bytes))
        (value (made k.modes (integer signed bytes) (number (pos n))) false)
    fixed_constant : {at : ℕ} {kind : FxKind} {n : ℤ}
        → Means k (term.constant at (constants.Fixed kind n)) (value (made k.modes (fixed kind false) (number n)) false)
    -- parentheses have no node of their own
    inside : {at : ℕ} {x : term.Term} {o : Operand} → Means k x o → Means k (term.parenthesised at x) o
    -- `a[i]` is `*(a + i)` (6.5.2.1)
    indexed : {at : ℕ} {x y : term.Term} {a b : Operand} {s : SpaceId} {const : Bool} {to : PlainType} → Uses k x a
        → Uses k y b → value_type a ≡ pointer s const to → IsInteger (value_type b)
        → Means k (term.index x at y)
        (place to const s false (deref (made k.modes (pointer s const to) (binary Add (as_value k.modes a) (as_value k.modes b)))))
    -- a function is called by its name (6.5.2.2)
    called : {at name_at f : ℕ} {n : List ℕ} {x : term.Term} {ys : term.Terms} {returns : PlainType} {params : List PlainType}
        {es : List PlainExpr} → IsName name_at n x → found n k.names ≡ Some (a_function (Some f) (Some returns) (Some params))
        → AreBrought k params ys es → Means k (term.call x at ys) (value (made k.modes returns (call f (exprs_of es))) false)
    -- `p->m` and `x.m` (6.5.2.3)
    reached : {at name_at index i : ℕ} {n : List ℕ} {x : term.Term} {a : Operand} {s : SpaceId} {const : Bool}
        {ty : PlainType} → Uses k x a → value_type a ≡ pointer s const (struct index) → IsMember k index n i ty
        → Means k (term.member x at true name_at n) (place ty const s false (member (deref (as_value k.modes a)) i))
    part : {at name_at index i : ℕ} {n : List ℕ} {x : term.Term} {s : SpaceId} {const register : Bool} {q : PlainPlace}
        {ty : PlainType} → Uses k x (place (struct index) const s register q) → IsMember k index n i ty
        → Means k (term.member x at false name_at n) (place ty const s register (member q i))
    -- `++` and `--` (6.5.2.4 and 6.5.3.1)
    stepped_behind : {at : ℕ} {up register : Bool} {x : term.Term} {ty : PlainType} {s : SpaceId} {q : PlainPlace}
        → Uses k x (place ty false s register q) → IsScalar ty
        → Means k (term.stepped x at up) (value (made k.modes ty (step up false q)) false)
    stepped_before : {at : ℕ} {up register : Bool} {x : term.Term} {ty : PlainType} {s : SpaceId} {q : PlainPlace}
        → Uses k x (place ty false s register q) → IsScalar ty
        → Means k (term.step at up x) (value (made k.modes ty (step up true q)) false)
    -- `&` and `*` (6.5.3.2)
    address : {at : ℕ} {x : term.Term} {ty : PlainType} {const : Bool} {s : SpaceId} {q : PlainPlace}
        → Uses k x (place ty const s false q)
        → Means k (term.prefixed at prefixes.Address x) (value (made k.modes (pointer s const ty) (address_of q)) false)
    pointed : {at : ℕ} {x : term.Term} {a : Operand} {s : SpaceId} {const : Bool} {to : PlainType} → Uses k x a
        → value_type a ≡ pointer s const to
        → Means k (term.prefixed at prefixes.Deref x) (place to const s false (deref (as_value k.modes a)))
    -- `+`, `-`, `~` and `!` (6.5.3.3): `+` is the promotion alone, and `!` promotes nothing
    plus : {at : ℕ} {x : term.Term} {a : Operand} {e : PlainExpr} (t : Arithmetic) → Uses k x a → value_type a ≡ type_of t
        → IsConverted k.modes (type_of (promoted_type t)) (as_value k.modes a) e
        → Means k (term.prefixed at prefixes.Plus x) (value e false)
    minus : {at : ℕ} {x : term.Term} {a : Operand} {e : PlainExpr} (t : Arithmetic) → Uses k x a → value_type a ≡ type_of t
        → IsConverted k.modes (type_of (promoted_type t)) (as_value k.modes a) e
        → Means k (term.prefixed at prefixes.Minus x)
        (value (made k.modes (type_of (promoted_type t)) (unary unary_operators.Minus e)) false)
    inverted : {at : ℕ} {x : term.Term} {a : Operand} {e : PlainExpr} (t : IntegerType) → Uses k x a
        → value_type a ≡ type_of (Integer t)
        → IsConverted k.modes (type_of (promoted_type (Integer t))) (as_value k.modes a) e
        → Means k (term.prefixed at prefixes.Invert x)
        (value (made k.modes (type_of (promoted_type (Integer t))) (unary unary_operators.Invert e)) false)
    negated : {at : ℕ} {x : term.Term} {a : Operand} → Uses k x a → IsScalar (value_type a)
        → Means k (term.prefixed at prefixes.Not x) (value (made k.modes int (logical_not (as_value k.modes a))) false)
    -- `sizeof` has type unsigned int (6.5.3.4)
    sized : {at : ℕ} {n : TypeName} {ty : PlainType} → Says k n ty → HasSize (length k.structs) ty
        → Means k (term.size at n) (value (made k.modes unsigned_int (number (pos (size_of_type k.structs ty)))) false)
    -- a cast (6.5.4)
    casted : {at : ℕ} {n : TypeName} {ty : PlainType} {x : term.Term} {a : Operand} {e : PlainExpr} → Says k n ty
        → Uses k x a → IsCast k.modes ty a e → Means k (term.cast at n x) (value e false)
    -- binary operators on values (6.5.5 to 6.5.12), and `&&` and `||`, which promote nothing (6.5.13 and 6.5.14)
    operated : {at : ℕ} {op : BinOp} {x y : term.Term} {a b : Operand} {e : PlainExpr} → Uses k x a → Uses k y b
        → IsOperation k.modes op a b e → Means k (term.binary x at op y) (value e false)
    both_true : {at : ℕ} {x y : term.Term} {a b : Operand} → Uses k x a → Uses k y b → IsScalar (value_type a)
        → IsScalar (value_type b)
        → Means k (term.logical x at true y)
        (value (made k.modes int (logical_and (as_value k.modes a) (as_value k.modes b))) false)
    one_true : {at : ℕ} {x y : term.Term} {a b : Operand} → Uses k x a → Uses k y b → IsScalar (value_type a)
        → IsScalar (value_type b)
        → Means k (term.logical x at false y)
        (value (made k.modes int (logical_or (as_value k.modes a) (as_value k.modes b))) false)
    -- `?:`, of which the second and third operands may be void (6.5.15)
    chosen : {at : ℕ} {c x y : term.Term} {w a b : Operand} {ty : PlainType} {e f : PlainExpr} → Uses k c w
        → IsScalar (value_type w) → Means k x a → Means k y b → IsChoice a b ty → IsBrought k.modes ty a e
        → IsBrought k.modes ty b f
        → Means k (term.choice c at x y) (value (made k.modes ty (conditional (as_value k.modes w) e f)) false)
    -- `=` (6.5.16.1)
    assigned : {at : ℕ} {x y : term.Term} {ty : PlainType} {register : Bool} {s : SpaceId} {q : PlainPlace} {b : Operand}
        {e : PlainExpr} → Uses k x (place ty false s register q) → ¬ IsAggregate ty → Uses k y b → IsPassed k.modes ty b e
        → Means k (term.assign x at y) (value (made k.modes ty (assign q e)) false)
    -- a compound assignment, whose right side is not converted (6.5.16.2; TR 18037, 4.1.4)
    compounded : {at : ℕ} {op : BinOp} {x y : term.Term} {ty : PlainType} {register : Bool} {s : SpaceId} {q : PlainPlace}
        {b : Operand} {mode : Mode} → Uses k x (place ty false s register q) → ¬ IsAggregate ty → Uses k y b
        → ¬ IsPointer (value_type b) → SuitsAlone op true ty → SuitsAlone op false (value_type b)
        → SuitTogether op ty (value_type b) → IsOperationMode k.modes op ty (value_type b) mode
        → Means k (term.compound x at op y) (value (made k.modes ty (compound op mode q (as_value k.modes b))) false)
    -- the comma (6.5.17)
    sequence : {at : ℕ} {x y : term.Term} {a b : Operand} → Uses k x a → ¬ IsStruct (value_type a) → Uses k y b
        → ¬ IsStruct (value_type b)
        → Means k (term.comma x at y)
        (value (made k.modes (value_type b) (comma (as_value k.modes a) (as_value k.modes b))) false)
    -- an operation on a port (TR 18037, 6.2)
    accessed : {at : ℕ} {op : IoOp} {n : List ℕ} {ys : term.Terms} {p : NamedPort} {tys : List PlainType}
        {es : List PlainExpr} {index contents : OptionPlainExpr} → port_named k.ports n ≡ Some p
        → Reaches (port_operation op) p → Takes (port_operation op) tys es index contents → AreBrought k tys ys es
        → Means k (term.operation at (operations.Port op) n ys)
        (value (made k.modes (port_result (port_operation op).action (port_value (port_operation op)))
        (io op p.number index contents)) false)
    -- operations on groups
    acquired : {at g : ℕ} {n : List ℕ} → group_named k.ports n ≡ Some (named_groups.Group g)
        → Means k (term.operation at (operations.Group groups.Acquire) n term.no_terms)
        (value (made k.modes void (group true g)) false)
    released : {at g : ℕ} {n : List ℕ} → group_named k.ports n ≡ Some (named_groups.Group g)
        → Means k (term.operation at (operations.Group groups.Release) n term.no_terms)
        (value (made k.modes void (group false g)) false)
    -- operations on dynamic groups
    acquired_choice : {at d : ℕ} {n : List ℕ} → group_named k.ports n ≡ Some (named_groups.Dynamic d)
        → Means k (term.operation at (operations.Group groups.Acquire) n term.no_terms)
        (value (made k.modes void (dynamic_group true d)) false)
    released_choice : {at d : ℕ} {n : List ℕ} → group_named k.ports n ≡ Some (named_groups.Dynamic d)
        → Means k (term.operation at (operations.Group groups.Release) n term.no_terms)
        (value (made k.modes void (dynamic_group false d)) false)
    mapped : {at : ℕ} {n : List ℕ} {ys : term.Terms} {b : Binding} → Binds k.ports n ys b
        → Means k (term.operation at (operations.Group groups.Map) n ys)
        (value (made k.modes void (bind b.dynamic b.choice)) false)

  -- a value that is used is not void
  pub data Uses (k : Known) : term.Term → Operand → Type 0 where
    not_void : {x : term.Term} {o : Operand} → Means k x o → value_type o ≢ void → Uses k x o

  -- as many values as there are types, each brought to its type
  pub data AreBrought (k : Known) : List PlainType → term.Terms → List PlainExpr → Type 0 where
    none : AreBrought k [] term.no_terms []
    more : {x : term.Term} {xs : term.Terms} {a : Operand} {ty : PlainType} {tys : List PlainType} {e : PlainExpr}
        {es : List PlainExpr} → Uses k x a → IsPassed k.modes ty a e → AreBrought k tys xs es
        → AreBrought k (ty ∷ tys) (term.terms x xs) (e ∷ es)

-- it means nothing there
abbrev pub HasNone : Known → term.Term → Type 0
HasNone k x = (o : Operand) → ¬ Means k x o
