-- What walking the body of a function makes of a scope, and what the body means, where what is known suits a program.
use Rattle.std.specs.Prelude.{ℕ, ◌≡◌, ◌+◌, ◌<◌, ◌≤◌, Bool, true, false, Option, Some, None, IsSome, IfSome}
use Rattle.std.specs.Prelude.{IsSomeAnd, List, length, slice_get}
use Rattle.ec_iohw.specs.declared.table.IoTable.{IoTable}
use Rattle.ec_check_operands.specs.Faults.{Judgement}
use Rattle.ec_grammar.specs.Spelling as spelling
use Rattle.ec_grammar.specs.Trees as t
use Rattle.ec_grammar.specs.Trees.{Leaf}
use Rattle.ec_core.specs.Layout.{IsScalar, AreStructs}
use Rattle.ec_core.specs.Needs.{stmt_need}
use Rattle.ec_core.specs.Plain.{PlainType, struct, PlainStruct, PlainStorage, PlainProgram}
use Rattle.ec_core.specs.Valid.{IsNamedIn, IsAddressable, IsScalarOrVoid, ValidStmt}
use Rattle.ec_check_names.specs.declared.tags.TagState.TheVariants.{Struct}
use Rattle.ec_check_names.specs.Counts.{is_function, objects_in_statement}
use Rattle.ec_check_names.specs.Names.{closed}
use Rattle.ec_check_names.specs.Specifiers.{specified, specs_rules}
use Rattle.ec_check_names.specs.Tags.{Tags, tag_state}
use Rattle.ec_check_forms.specs.Constraints.{IsStruct}
use Rattle.ec_check_forms.specs.Validity.{IsUsable, IsPlaceType}
use Rattle.ec_check_expressions.specs.Known.{Known}
use Rattle.ec_check_expression_laws.specs.Laws.{AreUnbroken}
use Rattle.ec_check_expression_laws.specs.Suits.{AreHeld, Suits, IsWholeTag, HasTypes}
use Rattle.ec_check_declarations.specs.Declarators.{object_declared, object_sites, typed_declarator, typed_sites}
use Rattle.ec_check_declarations.specs.Functions.{returned, result_sites}
use Rattle.ec_check_declarations.specs.Params.{param_declared, param_sites}
use Rattle.ec_check_declarations.specs.Scopes.{Context, Scope, known_in, made_number, inner_object, with_inner}
use Rattle.ec_check_declarations.specs.Sites.{Site, told}
use Rattle.ec_check_statements.specs.Around.{Around}
use Rattle.ec_check_statements.specs.Statements.{body_of, after_body, body_sites}
use Rattle.ec_check_statements.specs.Objects.{IsDeclaredType, IsLocal, AreAppended, AreFirst}

-- ---- objects

-- the type that a declarator gives an object, where what is known suits a program
abbrev pub DeclaredTypesArePlaced : Type 0
DeclaredTypesArePlaced =
    (p : PlainProgram) (io : IoTable) (f : ℕ) (k : Known) (ss : t.Specs) (d : t.Declarator) (start : Option t.Start)
    → AreStructs p.structs → Suits p io f k
    → IfSome (object_declared k (specified k.tags ss) d start).ty (IsDeclaredType k.structs p.structs)

-- where specifiers break no rule, and nothing is told at the sites of a declarator of an object, it has a type
abbrev pub KeptObjectsHaveTypes : Type 0
KeptObjectsHaveTypes =
    (k : Known) (may_store may_have_space : Bool) (ss : t.Specs) (js : List Judgement) (stars : List t.Star)
    (n : t.Identifier) (shape : t.Shape) (start : Option t.Start) (rest : List Site) → HasTypes k
    → AreUnbroken (specs_rules k.tags may_store ss js) → is_function shape ≡ false
    → told None (object_sites k may_have_space (specified k.tags ss) (t.declarator stars n shape) start rest) ≡ None
    → IsSome (object_declared k (specified k.tags ss) (t.declarator stars n shape) start).ty × (told None rest ≡ None)

-- so has a member, whatever its bytes
abbrev pub KeptMembersHaveTypes : Type 0
KeptMembersHaveTypes =
    (k : Known) (ss : t.Specs) (js : List Judgement) (stars : List t.Star) (n : t.Identifier) (shape : t.Shape)
    (rest : List Site) → HasTypes k → AreUnbroken (specs_rules k.tags false ss js) → is_function shape ≡ false
    → told None (typed_sites k false (specified k.tags ss) (t.declarator stars n shape) None rest) ≡ None
    → IsSome (typed_declarator k (specified k.tags ss) (t.declarator stars n shape) None).ty × (told None rest ≡ None)

-- the types that declarators give parameters and results, where tags stand for structs of a program and n are known
pub record FunctionTypes (structs : List PlainStruct) (tags : Tags) (n : ℕ) : Type 0 where
  pub params : (x : t.Param) → IfSome (param_declared tags n x).ty (λ ty. IsPlaceType structs ty × IsScalar ty)
  pub results : (ss : t.Specs) (stars : List t.Star)
      → IfSome (returned n (specified tags ss) stars) (λ ty. IsScalarOrVoid ty × IsUsable structs ty)

abbrev pub FunctionTypesAreUsable : Type 0
FunctionTypesAreUsable =
    (structs : List PlainStruct) (tags : Tags)
    → ((n : List ℕ) (i : ℕ) → tag_state n tags ≡ Struct i → IsPlaceType structs (struct i)) → (n : ℕ)
    → FunctionTypes structs tags n

-- where nothing is told at the sites of a parameter or a result, it has a type; no result is a struct
pub record HaveFunctionTypes (n : ℕ) (tags : Tags) : Type 0 where
  pub params : (misnamed : Bool) (x : t.Param) (rest : List Site)
      → told None (param_sites tags misnamed x rest) ≡ None
      → IsSome (param_declared tags n x).ty × (told None rest ≡ None)
  pub results : (ss : t.Specs) (js : List Judgement) (stars : List t.Star) (at : ℕ) (rest : List Site)
      → AreUnbroken (specs_rules tags true ss js) → told None (result_sites (specified tags ss) stars at rest) ≡ None
      → IsSomeAnd (returned n (specified tags ss) stars) (λ ty. ¬ IsStruct ty) × (told None rest ≡ None)

abbrev pub KeptFunctionsHaveTypes : Type 0
KeptFunctionsHaveTypes =
    (n : ℕ) (tags : Tags) → ((name : List ℕ) → IsWholeTag n (tag_state name tags)) → HaveFunctionTypes n tags

-- An object of a function, a local one or a parameter, is declared: what is known behind its declarator suits a program
-- in which the object has its number, and has types; and where a number is left for it, it is the next one.
pub record InnerObjectSuits (c : Context) (unit : ℕ) (n : List ℕ) (ty : Option PlainType) (konst : Bool)
    (storage : PlainStorage) (s : Scope) : Type 0 where
  pub suits : (p : PlainProgram) (io : IoTable) (f : ℕ) → Suits p io f (known_in c s.names)
      → IfSome ty (IsPlaceType p.structs) → IsNamedIn f storage → IsAddressable storage → length p.objects < 65_536
      → AreFirst (with_inner unit n ty konst storage s).objects p.objects
      → Suits p io f (known_in c (with_inner unit n ty konst storage s).names)
  pub types : HasTypes (known_in c s.names) → IsSome ty
      → HasTypes (known_in c (with_inner unit n ty konst storage s).names)
  pub stay : AreFirst s.objects (with_inner unit n ty konst storage s).objects
  pub number : IsSome ty → length s.objects < 65_536 → made_number ty s.objects ≡ Some (length s.objects)
  pub counted : IsSome ty → length s.objects < 65_536
      → length (with_inner unit n ty konst storage s).objects ≡ length s.objects + 1
  pub stands : length s.objects < 65_536 → IfSome ty (λ ty.
      slice_get (with_inner unit n (Some ty) konst storage s).objects (length s.objects)
      ≡ Some (inner_object unit n konst storage ty))

abbrev pub InnerObjectsKeepSuiting : Type 0
InnerObjectsKeepSuiting =
    (c : Context) (unit : ℕ) (n : List ℕ) (ty : Option PlainType) (konst : Bool) (storage : PlainStorage) (s : Scope)
    → InnerObjectSuits c unit n ty konst storage s

-- ---- scopes

-- the objects before a body have the same numbers behind it
abbrev pub ObjectsStay : Type 0
ObjectsStay = (c : Context) (r : Around) (b : t.Compound) (s : Scope) → AreFirst s.objects (after_body c r b s).objects

-- the objects behind a body are those before it and its own
abbrev pub ObjectsAreAppended : Type 0
ObjectsAreAppended =
    (p : PlainProgram) (io : IoTable) (c : Context) (r : Around) (b : t.Compound) (s : Scope) → AreStructs p.structs
    → Suits p io r.function (known_in c s.names)
    → AreAppended (IsLocal p.structs r.unit r.function) s.objects (after_body c r b s).objects

-- the names behind a body are those that were known where its scope began, before the parameters
abbrev pub ScopesEnd : Type 0
ScopesEnd =
    (c : Context) (r : Around) (b : t.Compound) (s : Scope) → r.first ≤ length s.names.inside
    → (after_body c r b s).names ≡ closed r.first s.names

-- ---- validity

-- what is known where the body of a function begins suits a program, whose first objects are those behind the body; the
-- function has this result
pub record IsBodyOf (p : PlainProgram) (io : IoTable) (returns : PlainType) (c : Context) (r : Around) (b : t.Compound)
    (s : Scope) : Type 0 where
  pub structs : AreStructs p.structs
  pub known : Suits p io r.function (known_in c s.names)
  pub objects : AreFirst (after_body c r b s).objects p.objects
  pub room : length p.objects < 65_536
  pub result : r.result ≡ Some returns
  pub scalar : IsScalarOrVoid returns
  pub usable : IsUsable p.structs returns

-- What a body means is a statement as a valid program asks of the body of its function, where each constant in it
-- stands for a number of its type. Other tokens may follow, and the same is known of them
abbrev pub BodiesAreValid : Type 0
BodiesAreValid =
    (p : PlainProgram) (io : IoTable) (returns : PlainType) (c : Context) (r : Around) (b : t.Compound) (s : Scope)
    (rest : List Leaf) → IsBodyOf p io returns c r b s → AreHeld (spelling.of_compound b rest)
    → IfSome (body_of c r b s) (ValidStmt p io r.function returns r.in_loop) × AreHeld rest

-- ---- meanings

-- Nothing is told at the sites of a body, nor at those behind it; what is known where it begins was declared without a
-- broken rule; and the numbers of its objects have 16 bits
pub record IsKeptBody (returns : PlainType) (c : Context) (r : Around) (b : t.Compound) (s : Scope)
    (rest : List Site) : Type 0 where
  pub known : HasTypes (known_in c s.names)
  pub result : r.result ≡ Some returns
  pub room : length s.objects + objects_in_statement (t.block b) ≤ 65_536
  pub kept : told None (body_sites c r b s rest) ≡ None

-- the body has a meaning, and it adds as many objects as it declares, so that those behind it have the numbers that
-- were counted for them
pub record HasMeaning (c : Context) (r : Around) (b : t.Compound) (s : Scope) (rest : List Site) : Type 0 where
  pub meant : IsSome (body_of c r b s)
  pub counted : length (after_body c r b s).objects ≡ length s.objects + objects_in_statement (t.block b)
  pub told : told None rest ≡ None

abbrev pub KeptBodiesHaveMeanings : Type 0
KeptBodiesHaveMeanings =
    (returns : PlainType) (c : Context) (r : Around) (b : t.Compound) (s : Scope) (rest : List Site)
    → IsKeptBody returns c r b s rest → HasMeaning c r b s rest

-- ---- temporaries

-- what a body needs at once is no more than it has tokens; other tokens may follow
abbrev pub BodiesNeedTheirTokens : Type 0
BodiesNeedTheirTokens =
    (c : Context) (r : Around) (b : t.Compound) (s : Scope) (rest : List Leaf) → IfSome (body_of c r b s)
    (λ body. stmt_need body + length rest ≤ length (spelling.of_compound b rest))
