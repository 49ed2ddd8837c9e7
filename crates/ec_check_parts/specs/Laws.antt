-- What is told of parts of declarations is exactly what breaks a constraint there.
use Rattle.std.specs.Prelude.{ℕ, ◌≡◌, ◌↔◌, ◌⊎◌, Bool, true, false, Option, List, [], ◌∷◌, length}
use Rattle.ec_grammar.specs.declared.Qualifier.{Qualifier}
use Rattle.ec_grammar.specs.Trees.{Specs, Star, Params, Identifier, identifier, Shape, declarator, Start, Member, structure}
use Rattle.ec_grammar.specs.Trees.{register_object, init_declarator, Initialiser, Expression, Compound, Declaration}
use Rattle.ec_grammar.specs.Trees.{RegisterObject, Structure}
use Rattle.ec_grammar.specs.declared.Spot.{Spot}
use Rattle.ec_core.specs.Plain.{PlainType, PlainStorage}
use Rattle.ec_check_operands.specs.declared.faults.Fault.{Fault}
use Rattle.ec_check_operands.specs.Faults.{Judgement, rule}
use Rattle.ec_check_operands.specs.Laws.{IsTold}
use Rattle.ec_check_names.specs.Names.{Names}
use Rattle.ec_check_names.specs.Qualifiers.{qualifier_rules}
use Rattle.ec_check_names.specs.declared.specifiers.Specified.{Specified}
use Rattle.ec_check_names.specs.declared.specifiers.StorageWord.{StorageWord}
use Rattle.ec_check_names.specs.Specifiers.{specified, specs_rules, storages_of, void_at}
use Rattle.ec_check_names.specs.Stars.{star_rules}
use Rattle.ec_check_names.specs.Tags.{Tags}
use Rattle.ec_check_expressions.specs.Known.{Known}
use Rattle.ec_check_expressions.specs.TypeNames.{void_rules}
use Rattle.ec_check_initialisers.specs.Locals.{leaf_sites}
use Rattle.ec_check_initialisers.specs.Statics.{static_sites}
use Rattle.ec_check_declarations.specs.Declarators.{head_rules, misused_in_result, object_sites}
use Rattle.ec_check_declarations.specs.Functions.{FunctionDeclared, function_sites}
use Rattle.ec_check_declarations.specs.Registers.{register_sites}
use Rattle.ec_check_declarations.specs.Scopes.{Context, Scope, known_in, with_inner}
use Rattle.ec_check_declarations.specs.Sites.{Site, on, initialiser_in}
use Rattle.ec_check_declarations.specs.Structures.{structure_sites}
use Rattle.ec_check_least.specs.Told.{IsToldAt}
use Rattle.ec_check_file_scope.specs.FileFunctions.{function_link, function_name, named_function_sites}
use Rattle.ec_check_file_scope.specs.FileNames.{FileName}
use Rattle.ec_check_file_scope.specs.FileObjects.{is_started, extern_rules, name_rules, shares_register}
use Rattle.ec_check_file_scope.specs.FileObjects.{after_register, file_register_sites}
use Rattle.ec_check_file_scope.specs.FileScope.{after_declaration, declaration_sites}
use Rattle.ec_check_file_scope.specs.States.{Setting, State, known_of}
use Rattle.ec_check_statements.specs.Around.{Around}
use Rattle.ec_check_statements.specs.Kinds.{left_sites}
use Rattle.ec_check_statements.specs.Locals.{declarator_sites, storage_rules}
use Rattle.ec_check_statements.specs.Parts.{test_sites, evaluation_sites, return_sites}
use Rattle.ec_check_statements.specs.Statements.{after_body, body_sites}
use Rattle.ec_check_parts.specs.Readings.{walked}
use Rattle.ec_check_parts.specs.Words.{words_of}
use Rattle.ec_check_parts.specs.Specifiers.{BreakQualifiers, BreakSpecifiers}
use Rattle.ec_check_parts.specs.Heads.{Role, file_object, block_object, result, type_name, BreakHead}
use Rattle.ec_check_parts.specs.Functions.{BreakFunction}
use Rattle.ec_check_parts.specs.Objects.{BreakObject}
use Rattle.ec_check_parts.specs.Structures.{IsFunction, BreakStructure, BreakRegister}
use Rattle.ec_check_parts.specs.Initialisers.{BreakInitialiser, BreakStatic}
use Rattle.ec_check_parts.specs.Blocks.{BreakBlockSpecifiers, BreakBlockObject}
use Rattle.ec_check_parts.specs.Statements.{BreakCondition, BreakEvaluation, BreakReturn, BreakLeaving}
use Rattle.ec_check_parts.specs.FileNames.{IsNoFunction, BreakExtern, BreakName, BreakFunctionName, BreakSharing}
use Rattle.ec_check_parts.specs.Parts.{specifiers, OneBreaks}
use Rattle.ec_check_parts.specs.Places.{Inside, with_object, behind_body, Surroundings, StandsInBody}
use Rattle.ec_check_parts.specs.Units.{Outside, behind_declaration, behind_register, StandsInDeclaration, StandsInRegister}
use Rattle.ec_check_parts.specs.Units.{StandsInStructure}

-- rules tell a fault exactly where it breaks a constraint, or what follows them tells it
abbrev pub Tell : (List Judgement → List Judgement) → (Fault → Type 0) → Type 0
Tell rules Breaks = (rest : List Judgement) (f : Fault) → IsTold (rules rest) f ↔ (Breaks f ⊎ IsTold rest f)

pub record SpecifiersAreJudged : Type 0 where
  -- the qualifiers of a star
  pub qualifiers : (qs : List Qualifier) → Tell (qualifier_rules qs) (BreakQualifiers (words_of qs))
  pub specifiers : (tags : Tags) (may_store : Bool) (ss : Specs)
      → Tell (specs_rules tags may_store ss) (BreakSpecifiers tags may_store ss)

-- the rules of specifiers and stars that stand before a name in a role
abbrev pub rules_of_head : Role → Specified → List Star → List Judgement
rules_of_head file_object s stars = head_rules true (void_at s.types) s stars
rules_of_head result s stars = head_rules false (misused_in_result (void_at s.types) stars) s stars
rules_of_head type_name s stars = star_rules stars (void_rules (void_at s.types) [])
rules_of_head role s stars = head_rules false (void_at s.types) s stars

abbrev pub HeadsAreJudged : Type 0
HeadsAreJudged =
    (tags : Tags) (role : Role) (ss : Specs) (stars : List Star) (f : Fault)
    → IsTold (rules_of_head role (specified tags ss) stars) f ↔ BreakHead tags role ss stars f

-- at the places of a part a fault is told exactly where it breaks a constraint there, whatever places follow
pub record TellAt (sites : List Site → List Site) (Breaks : Fault → Type 0) : Type 0 where
  pub exactly : (rest : List Site) (f : Fault) → IsToldAt (sites rest) f ↔ (Breaks f ⊎ IsToldAt rest f)

abbrev pub FunctionsAreJudged : Type 0
FunctionsAreJudged =
    (tags : Tags) (defined : Bool) (ss : Specs) (stars : List Star) (at : ℕ) (ps : Params)
    → TellAt (function_sites tags defined (specified tags ss) stars at ps) (BreakFunction tags defined ss stars at ps)

pub record StructuresAreJudged : Type 0 where
  pub structures : (k : Known) (w : Spot) (at : Spot) (tag : List ℕ) (l : Spot) (first : Member) (more : List Member) (r e : Spot)
      → TellAt (structure_sites k (structure w (identifier at tag) l first more r e)) (BreakStructure k at.index tag first more)
  pub registers : (k : Known) (w : Spot) (at : Spot) (register : List ℕ) (ss : Specs) (name : Identifier) (e : Spot)
      → TellAt (register_sites k (register_object w (identifier at register) ss name e))
      (BreakRegister k at.index register ss)

-- no function is declared as an object at file scope
pub record ObjectsAreJudged : Type 0 where
  pub at_file_scope : (k : Known) (ss : Specs) (stars : List Star) (at : Spot) (n : List ℕ) (shape : Shape) (start : Option Start)
      → ¬ IsFunction shape
      → TellAt (object_sites k true (specified k.tags ss) (declarator stars (identifier at n) shape) start)
      (BreakObject k file_object ss stars at.index shape start)
  pub in_blocks : (k : Known) (ss : Specs) (stars : List Star) (at : Spot) (n : List ℕ) (shape : Shape) (start : Option Start)
      → TellAt (object_sites k false (specified k.tags ss) (declarator stars (identifier at n) shape) start)
      (BreakObject k block_object ss stars at.index shape start)

-- initialisers of objects of a type, in blocks and at file scope
pub record InitialisersAreJudged : Type 0 where
  pub locals : (k : Known) (i : Initialiser) (ty : Option PlainType)
      → TellAt (initialiser_in (leaf_sites k i ty [])) (BreakInitialiser k ty i)
  pub statics : (k : Known) (i : Initialiser) (ty : Option PlainType)
      → TellAt (initialiser_in (static_sites k i ty [])) (BreakStatic k ty i)

-- declarations in blocks
pub record BlocksAreJudged : Type 0 where
  pub specifiers : (tags : Tags) (ss : Specs)
      → TellAt (λ rest. on (specs_rules tags true ss (storage_rules (storages_of ss).first)) ∷ rest) (BreakBlockSpecifiers tags ss)
  pub declarators : (c : Context) (r : Around) (ss : Specs) (stars : List Star) (at : Spot) (n : List ℕ) (shape : Shape)
      (start : Option Start) (s : Scope)
      → TellAt
      (declarator_sites c r (specified c.tags ss) (init_declarator (declarator stars (identifier at n) shape) start) s)
      (BreakBlockObject (known_in c s.names) r.first ss stars at.index n shape start)

-- what stands in statements beside other statements and declarations
pub record StatementsAreJudged : Type 0 where
  pub conditions : (c : Context) (names : Names) (x : Expression) (word : ℕ)
      → TellAt (test_sites c names x word) (BreakCondition (known_in c names) x word)
  pub evaluations : (c : Context) (names : Names) (x : Expression)
      → TellAt (evaluation_sites c names x) (BreakEvaluation (known_in c names) x)
  pub returns : (c : Context) (r : Around) (names : Names) (x : Option Expression) (at : ℕ)
      → TellAt (return_sites c r names x at) (BreakReturn (known_in c names) r.result x at)
  pub leaving : (r : Around) (at : ℕ) → TellAt (left_sites r at) (BreakLeaving r.in_loop at)

-- names at file scope
pub record FileNamesAreJudged : Type 0 where
  pub externs : (ss : Specs) (start : Option Start)
      → TellAt (λ rest. on (extern_rules (is_started start) (storages_of ss).first) ∷ rest) (BreakExtern ss start)
  pub objects : (before : List FileName) (d : FileName) (word : Option StorageWord) (at : ℕ) → IsNoFunction d.kind
      → TellAt (λ rest. on (name_rules d before at) ∷ rest) (BreakName before d word at)
  pub functions : (r : Setting) (word : Option StorageWord) (n : List ℕ) (defined : Bool) (d : FunctionDeclared)
      (start : Option Start) (at : ℕ) (s : State)
      → TellAt (named_function_sites r word n defined d (is_started start) at s)
      (BreakFunctionName s.declared (function_name r n (function_link r word n s) defined d) word start at)
  pub sharing : (before : List FileName) (d : FileName) (at : ℕ)
      → TellAt (λ rest. on (rule 13 (shares_register d before) at ∷ []) ∷ rest) (BreakSharing before d at)

-- ---- bodies

abbrev pub inside_of : Scope → Inside
inside_of s = record { names = s.names; made = length s.objects }

abbrev pub surroundings_of : Around → Surroundings
surroundings_of r = record { in_loop = r.in_loop; result = r.result; first = r.first }

-- what is told of the body of a function is what breaks a constraint at one of the parts that stand in it; behind it and behind
-- the declaration of an object as many objects are known
pub record BodiesAreJudged : Type 0 where
  pub bodies : (c : Context) (r : Around) (b : Compound) (s : Scope)
      → TellAt (body_sites c r b s) (OneBreaks (StandsInBody walked c (surroundings_of r) b (inside_of s)))
  pub behind_bodies : (c : Context) (r : Around) (b : Compound) (s : Scope)
      → length (after_body c r b s).objects ≡ (behind_body walked c b (inside_of s)).made
  pub behind_objects : (unit : ℕ) (n : List ℕ) (ty : Option PlainType) (konst : Bool) (storage : PlainStorage) (s : Scope)
      → inside_of (with_inner unit n ty konst storage s) ≡ with_object n ty konst (inside_of s)

-- ---- file scope

abbrev pub outside_of : State → Outside
outside_of s =
    record {
      names = s.scope.names;
      tags = s.tags;
      structs = s.structs;
      modes = s.modes;
      declared = s.declared;
      made = length s.scope.objects;
    }

-- what is told of declarations and structs at file scope is what breaks a constraint at one of the parts that stand in them, and
-- behind them the same is known
pub record FileScopeIsJudged : Type 0 where
  pub specifiers : (tags : Tags) (ss : Specs)
      → TellAt (λ rest. on (specs_rules tags true ss []) ∷ rest) (OneBreaks (λ p. p ≡ specifiers tags ss))
  pub declarations : (r : Setting) (d : Declaration) (s : State)
      → TellAt (declaration_sites r d s) (OneBreaks (StandsInDeclaration walked r d (outside_of s)))
  pub registers : (r : Setting) (d : RegisterObject) (s : State)
      → TellAt (file_register_sites r d s) (OneBreaks (StandsInRegister walked r d (outside_of s)))
  pub structures : (r : Setting) (d : Structure) (s : State)
      → TellAt (structure_sites (known_of r.ports s) d) (OneBreaks (StandsInStructure walked r d (outside_of s)))
  pub behind_declarations : (r : Setting) (d : Declaration) (s : State)
      → outside_of (after_declaration r d s) ≡ behind_declaration walked r d (outside_of s)
  pub behind_registers : (r : Setting) (d : RegisterObject) (s : State)
      → outside_of (after_register r d s) ≡ behind_register walked r d (outside_of s)
