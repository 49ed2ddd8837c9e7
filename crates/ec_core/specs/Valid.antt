-- Programs that keep the rules of the language, as a front end leaves them (ISO/IEC 9899:1999, 6.5 to 6.9; the limits
-- are this project's profile).
use Rattle.std.specs.Prelude.{◌≡◌, ◌≢◌, ◌⊎◌, ℕ, ◌+◌, ◌<◌, ◌≤◌, Bool, true, false, ⊤, IsTrue, IsSomeAnd, List, [], ◌∷◌}
use Rattle.std.specs.Prelude.{length, AllPairs, Contains, Option, Some, None, slice_get}
use Rattle.std.specs.List.{AllByRecursion}
use Rattle.ec_iohw.specs.declared.table.IoTable.{IoTable}
use Rattle.ec_iohw.specs.Valid.{ValidIo}
use Rattle.ec_space.specs.declared.space.Home.TheVariants.{Data as DataHome}
use Rattle.ec_space.specs.Spaces.{holds}
use Rattle.ec_core.specs.declared.programs.LeafInit.{LeafInit}
use Rattle.ec_core.specs.declared.programs.LeafInit.TheVariants.{Number, Null, Address}
use Rattle.ec_core.specs.ArithmeticTypes.{arithmetic_of}
use Rattle.ec_core.specs.ArithmeticValues.{HoldsNumber}
use Rattle.ec_core.specs.Layout.{NamesBelow, IsIntegerSize, IsScalar, IsObjectType, AreStructs, PlainLeaf, size_of_type}
use Rattle.ec_core.specs.Layout.{leaves_of_type}
use Rattle.ec_core.specs.Needs.{stmt_need, stmt_calls}
use Rattle.ec_core.specs.Plain.{PlainType, void, integer, fixed, pointer, array, struct, PlainExpr, expression}
use Rattle.ec_core.specs.Plain.{PlainNode, number, null, load, address_of, unary, binary, convert, assign, compound}
use Rattle.ec_core.specs.Plain.{step, logical_not, logical_and, logical_or, conditional, comma, call, io, group}
use Rattle.ec_core.specs.Plain.{bind, dynamic_group}
use Rattle.ec_core.specs.Plain.{PlainPlace, object, deref, member, OptionPlainExpr, no_expr, an_expr, PlainExprs}
use Rattle.ec_core.specs.Plain.{last_expr, next_expr, PlainStmt, statement, PlainKind, empty, evaluate, block, declare}
use Rattle.ec_core.specs.Plain.{branch, while_loop, do_loop, for_loop, break_loop, continue_loop, return_value}
use Rattle.ec_core.specs.Plain.{OptionPlainStmt, no_stmt, a_stmt, PlainStmts, last_stmt, next_stmt, PlainStorage}
use Rattle.ec_core.specs.Plain.{static, local, param, register, PlainObject, PlainFunction, PlainProgram}
use Rattle.ec_core.specs.Typing.{int, type_of_expr, IsTyped}

-- a fact holds of each item and its number, which are counted from n
abbrev pub EachFrom : {X : Type 0} → ℕ → (ℕ → X → Type 0) → List X → Type 0
EachFrom n P [] = ⊤
EachFrom n P (x ∷ xs) = P n x × EachFrom (n + 1) P xs

-- ---- objects

abbrev pub IsStatic : PlainStorage → Type 0
IsStatic (static leaves) = ⊤
IsStatic (local f) = ⊥
IsStatic (param f) = ⊥
IsStatic (register r) = ⊥

-- the initial value of a leaf: a number that its type holds, null, or a static object whose home is in the pointer's
-- space, with an offset from 0 to its size
abbrev pub IsInitialValue : PlainProgram → PlainType → LeafInit → Type 0
IsInitialValue p ty (Number n) = IsSomeAnd (arithmetic_of ty) (λ t. HoldsNumber t n)
IsInitialValue p (pointer s k t) Null = ⊤
IsInitialValue p (pointer s k t) (Address o offset) =
    IsSomeAnd (slice_get p.objects o)
    (λ x. IsStatic x.storage × IsTrue (holds s x.home) × (offset ≤ size_of_type p.structs x.ty))
IsInitialValue p ty init = ⊥

-- one initial value for each leaf
abbrev pub AreInitialValues : PlainProgram → List PlainLeaf → List LeafInit → Type 0
AreInitialValues p [] [] = ⊤
AreInitialValues p [] (init ∷ inits) = ⊥
AreInitialValues p (leaf ∷ leaves) [] = ⊥
AreInitialValues p (leaf ∷ leaves) (init ∷ inits) = IsInitialValue p leaf.ty init × AreInitialValues p leaves inits

-- a named register holds a number, in registers from 2 to 7
pub record IsRegisterObject (p : PlainProgram) (o : PlainObject) (first : ℕ) : Type 0 where
  pub arithmetic : IsSomeAnd (arithmetic_of o.ty) (λ t. ⊤)
  pub low : 2 ≤ first
  pub high : first + size_of_type p.structs o.ty ≤ 8
  pub home : o.home ≡ DataHome

-- a parameter is scalar; locals, parameters and named registers have the home data
abbrev pub IsStored : PlainProgram → PlainObject → PlainStorage → Type 0
IsStored p o (static inits) = AreInitialValues p (leaves_of_type p.structs o.ty) inits
IsStored p o (local f) = (f < length p.functions) × (o.home ≡ DataHome)
IsStored p o (param f) = (f < length p.functions) × (o.home ≡ DataHome) × IsScalar o.ty
IsStored p o (register first) = IsRegisterObject p o first

pub record IsObject (p : PlainProgram) (o : PlainObject) : Type 0 where
  pub ty : IsObjectType (length p.structs) o.ty
  pub some : 1 ≤ size_of_type p.structs o.ty
  pub small : size_of_type p.structs o.ty ≤ 32_767
  pub home : IsTrue (holds o.space o.home)
  pub storage : IsStored p o o.storage

-- so many registers from one on, and from another
abbrev pub AreApart : PlainStorage → PlainStorage → ℕ → ℕ → Type 0
AreApart (register r) (register q) m n = (r + m ≤ q) ⊎ (q + n ≤ r)
AreApart s t m n = ⊤

-- no register belongs to two objects
abbrev pub ShareNoRegister : PlainProgram → PlainObject → PlainObject → Type 0
ShareNoRegister p x y = AreApart x.storage y.storage (size_of_type p.structs x.ty) (size_of_type p.structs y.ty)

-- two external objects have different names
abbrev pub HaveOwnNames : PlainObject → PlainObject → Type 0
HaveOwnNames x y = IsTrue x.external → IsTrue y.external → x.name ≢ y.name

-- ---- expressions

-- a body names no parameter or local of another function
abbrev pub IsNamedIn : ℕ → PlainStorage → Type 0
IsNamedIn f (static inits) = ⊤
IsNamedIn f (local g) = g ≡ f
IsNamedIn f (param g) = g ≡ f
IsNamedIn f (register r) = ⊤

abbrev pub IsAddressable : PlainStorage → Type 0
IsAddressable (static inits) = ⊤
IsAddressable (local f) = ⊤
IsAddressable (param f) = ⊤
IsAddressable (register r) = ⊥

-- a named register has no address
abbrev pub HasAddress : PlainProgram → PlainPlace → Type 0
HasAddress p (object o) = IsSomeAnd (slice_get p.objects o) (λ x. IsAddressable x.storage)
HasAddress p (deref e) = ⊤
HasAddress p (member q i) = HasAddress p q

-- The type of an expression: void or scalar. A pointer is to what an object can be, of at least one byte (6.5.6 asks it
-- of arithmetic; there are no void pointers)
abbrev pub IsExprType : PlainProgram → PlainType → Type 0
IsExprType p void = ⊤
IsExprType p (integer signed bytes) = IsIntegerSize bytes
IsExprType p (fixed kind saturates) = ⊤
IsExprType p (pointer space const to) = IsObjectType (length p.structs) to × (1 ≤ size_of_type p.structs to)
IsExprType p (array of len) = ⊥
IsExprType p (struct index) = ⊥

-- the expressions and places of a body of the function with number f
module _ (p : PlainProgram) (table : IoTable) (f : ℕ) where
  abbrev mutual
    pub ValidExpr : PlainExpr → Type 0
    ValidExpr (expression ty mode node) = IsExprType p ty × IsTyped p table ty node × ValidParts node

    -- the expressions and places in a node
    pub ValidParts : PlainNode → Type 0
    ValidParts (number n) = ⊤
    ValidParts null = ⊤
    ValidParts (load place) = ValidPlace place
    ValidParts (address_of place) = ValidPlace place × HasAddress p place
    ValidParts (unary op e) = ValidExpr e
    ValidParts (binary op a b) = ValidExpr a × ValidExpr b
    ValidParts (convert e) = ValidExpr e
    ValidParts (assign place e) = ValidPlace place × ValidExpr e
    ValidParts (compound op mode place e) = ValidPlace place × ValidExpr e
    ValidParts (step up prefix place) = ValidPlace place
    ValidParts (logical_not e) = ValidExpr e
    ValidParts (logical_and a b) = ValidExpr a × ValidExpr b
    ValidParts (logical_or a b) = ValidExpr a × ValidExpr b
    ValidParts (conditional c a b) = ValidExpr c × ValidExpr a × ValidExpr b
    ValidParts (comma a b) = ValidExpr a × ValidExpr b
    ValidParts (call g args) = ValidExprs args
    ValidParts (io op port index value) = ValidOption index × ValidOption value
    ValidParts (group acquire g) = ⊤
    ValidParts (bind d choice) = ⊤
    ValidParts (dynamic_group acquire d) = ⊤

    pub ValidPlace : PlainPlace → Type 0
    ValidPlace (object o) = IsSomeAnd (slice_get p.objects o) (λ x. IsNamedIn f x.storage)
    ValidPlace (deref e) = ValidExpr e
    ValidPlace (member q i) = ValidPlace q

    pub ValidOption : OptionPlainExpr → Type 0
    ValidOption no_expr = ⊤
    ValidOption (an_expr e) = ValidExpr e

    pub ValidExprs : PlainExprs → Type 0
    ValidExprs last_expr = ⊤
    ValidExprs (next_expr e es) = ValidExpr e × ValidExprs es

  abbrev pub ValidOptional : Option PlainExpr → Type 0
  ValidOptional None = ⊤
  ValidOptional (Some e) = ValidExpr e

  abbrev pub ValidCondition : Option PlainExpr → Type 0
  ValidCondition None = ⊤
  ValidCondition (Some e) = ValidExpr e × IsScalar (type_of_expr e)

  -- ---- statements

  -- one expression of the leaf's type for each leaf
  abbrev pub AreLeafValues : List PlainLeaf → PlainExprs → Type 0
  AreLeafValues [] last_expr = ⊤
  AreLeafValues [] (next_expr e es) = ⊥
  AreLeafValues (leaf ∷ leaves) last_expr = ⊥
  AreLeafValues (leaf ∷ leaves) (next_expr e es) = (type_of_expr e ≡ leaf.ty) × AreLeafValues leaves es

  -- a local object of this function, with a value for each leaf, or none
  abbrev pub IsDeclared : PlainExprs → PlainObject → Type 0
  IsDeclared values x =
      (x.storage ≡ local f) × ((values ≡ last_expr) ⊎ AreLeafValues (leaves_of_type p.structs x.ty) values)

  -- a value of the result's type, exactly in a function with a result
  abbrev pub IsReturned : PlainType → Option PlainExpr → Type 0
  IsReturned ty None = ty ≡ void
  IsReturned ty (Some e) = (ty ≢ void) × (type_of_expr e ≡ ty)

  -- a statement of a function with that result, which stands in a loop or not
  abbrev mutual
    pub ValidStmt : PlainType → Bool → PlainStmt → Type 0
    ValidStmt returns in_loop (statement unit at kind) = ValidKind returns in_loop kind

    pub ValidKind : PlainType → Bool → PlainKind → Type 0
    ValidKind returns in_loop empty = ⊤
    ValidKind returns in_loop (evaluate e) = ValidExpr e
    ValidKind returns in_loop (block ss) = ValidStmts returns in_loop ss
    ValidKind returns in_loop (declare o values) =
        IsSomeAnd (slice_get p.objects o) (IsDeclared values) × ValidExprs values
    ValidKind returns in_loop (branch c a b) =
        ValidCondition (Some c) × ValidStmt returns in_loop a × ValidOptionStmt returns in_loop b
    ValidKind returns in_loop (while_loop c s) = ValidCondition (Some c) × ValidStmt returns true s
    ValidKind returns in_loop (do_loop s c) = ValidStmt returns true s × ValidCondition (Some c)
    ValidKind returns in_loop (for_loop i c n s) =
        ValidOptionStmt returns in_loop i × ValidCondition c × ValidOptional n × ValidStmt returns true s
    ValidKind returns in_loop break_loop = IsTrue in_loop
    ValidKind returns in_loop continue_loop = IsTrue in_loop
    ValidKind returns in_loop (return_value e) = IsReturned returns e × ValidOptional e

    pub ValidOptionStmt : PlainType → Bool → OptionPlainStmt → Type 0
    ValidOptionStmt returns in_loop no_stmt = ⊤
    ValidOptionStmt returns in_loop (a_stmt s) = ValidStmt returns in_loop s

    pub ValidStmts : PlainType → Bool → PlainStmts → Type 0
    ValidStmts returns in_loop last_stmt = ⊤
    ValidStmts returns in_loop (next_stmt s ss) = ValidStmt returns in_loop s × ValidStmts returns in_loop ss

-- ---- functions

abbrev pub IsScalarOrVoid : PlainType → Type 0
IsScalarOrVoid ty = IsScalar ty ⊎ (ty ≡ void)

-- the function with number f: its parameters are different parameter objects of it
pub record IsFunction (p : PlainProgram) (table : IoTable) (f : ℕ) (g : PlainFunction) : Type 0 where
  pub params : AllByRecursion (λ o. IsSomeAnd (slice_get p.objects o) (λ x. x.storage ≡ param f)) g.params
  pub distinct : AllPairs (λ o q. o ≢ q) g.params
  pub returns : IsScalarOrVoid g.returns
  pub names : NamesBelow (length p.structs) g.returns
  pub body : ValidStmt p table f g.returns false g.body
  pub need : stmt_need g.body ≤ 65_535

-- the function f calls g, itself or through others
pub data Reaches (p : PlainProgram) (g : ℕ) : ℕ → Type 0 where
  calls : (f : ℕ) (function : PlainFunction) → slice_get p.functions f ≡ Some function
      → Contains (stmt_calls function.body []) g → Reaches p g f
  calls_through : (f h : ℕ) (function : PlainFunction) → slice_get p.functions f ≡ Some function
      → Contains (stmt_calls function.body []) h → Reaches p g h → Reaches p g f

-- ---- programs

pub record Valid (p : PlainProgram) (table : IoTable) : Type 0 where
  pub ports : ValidIo table
  pub structs : AreStructs p.structs
  pub objects : AllByRecursion (IsObject p) p.objects
  pub registers : AllPairs (ShareNoRegister p) p.objects
  pub externals : AllPairs HaveOwnNames p.objects
  pub functions : EachFrom 0 (IsFunction p table) p.functions
  pub main : IsSomeAnd (slice_get p.functions p.main) (λ g. (g.params ≡ []) × (g.returns ≡ int))
  pub no_recursion : (f : ℕ) → ¬ Reaches p f f
  pub object_count : length p.objects ≤ 1_024
  pub function_count : length p.functions ≤ 256
