-- What each part of an expression means, where what is known suits a program, or was declared without a broken rule.
use Rattle.std.specs.Prelude.{ℕ, ◌≡◌, ◌+◌, ◌<◌, ◌≤◌, Bool, true, false, Option, Some, None, IsSomeAnd, IfSome, List, []}
use Rattle.std.specs.Prelude.{◌∷◌, length, slice_get}
use Rattle.std.specs.List.{AllByRecursion}
use Rattle.ec_check_operands.specs.Faults.{Judgement}
use Rattle.ec_iohw.specs.declared.table.IoTable.{IoTable}
use Rattle.ec_grammar.specs.Spelling as spelling
use Rattle.ec_grammar.specs.Trees as t
use Rattle.ec_grammar.specs.Trees.{Leaf}
use Rattle.ec_core.specs.Layout.{AreStructs}
use Rattle.ec_core.specs.Needs.{expr_need}
use Rattle.ec_core.specs.Plain.{PlainType, struct, PlainStruct, PlainProgram}
use Rattle.ec_core.specs.Valid.{ValidExpr}
use Rattle.ec_check_names.specs.declared.tags.TagState.TheVariants.{Struct}
use Rattle.ec_check_names.specs.Names.{Named, Names, with_outside, with_inside}
use Rattle.ec_check_names.specs.Specifiers.{specified, specs_rules, void_at}
use Rattle.ec_check_names.specs.Stars.{declared_by, behind}
use Rattle.ec_check_names.specs.Tables.{with_name}
use Rattle.ec_check_names.specs.Tags.{Tags, tag_state}
use Rattle.ec_check_forms.specs.Nodes.{condition}
use Rattle.ec_check_operands.specs.declared.operands.Modes.{Modes}
use Rattle.ec_check_operands.specs.Operands.{Operand, value_type, as_value}
use Rattle.ec_check_operands.specs.Passing.{passed}
use Rattle.ec_check_forms.specs.Constraints.{IsStruct}
use Rattle.ec_check_forms.specs.Meanings.{IsKept}
use Rattle.ec_check_forms.specs.Sites as operands
use Rattle.ec_check_forms.specs.Validity.{IsPlaceType, IsOperand, IsOptional}
use Rattle.ec_check_expressions.specs.Expressions as e
use Rattle.ec_check_expressions.specs.Known.{Known, is_sized}
use Rattle.ec_check_expressions.specs.Sites.{Site, on, told}
use Rattle.ec_check_expressions.specs.TypeNames.{said_type, void_said, meant_type}
use Rattle.ec_check_expression_laws.specs.Suits.{AreHeld, IsOf, Suits, IsProper, IsWhole, IsWholeTag, HasTypes}

-- ---- validity

-- What an expression means is an operand in a body of the function with number f, where each constant in it stands for
-- a number of its type. Other tokens may follow, and the same is known of them
pub record MeanOperands (p : PlainProgram) (io : IoTable) (f : ℕ) (k : Known) : Type 0 where
  pub expressions : (x : t.Expression) (rest : List Leaf) → AreHeld (spelling.of_expression x rest)
      → IsOptional p io f (e.of_expression k x) × AreHeld rest
  pub assignments : (x : t.Assignment) (rest : List Leaf) → AreHeld (spelling.of_assignment x rest)
      → IsOptional p io f (e.of_assignment k x) × AreHeld rest
  pub conditionals : (x : t.Conditional) (rest : List Leaf) → AreHeld (spelling.of_conditional x rest)
      → IsOptional p io f (e.of_conditional k x) × AreHeld rest
  pub binaries : (x : t.Binary) (rest : List Leaf) → AreHeld (spelling.of_binary x rest)
      → IsOptional p io f (e.of_binary k x) × AreHeld rest
  pub casts : (x : t.Cast) (rest : List Leaf) → AreHeld (spelling.of_cast x rest)
      → IsOptional p io f (e.of_cast k x) × AreHeld rest
  pub unaries : (x : t.Unary) (rest : List Leaf) → AreHeld (spelling.of_unary x rest)
      → IsOptional p io f (e.of_unary k x) × AreHeld rest
  pub postfixes : (x : t.Postfix) (rest : List Leaf) → AreHeld (spelling.of_postfix x rest)
      → IsOptional p io f (e.of_postfix k x) × AreHeld rest
  pub primaries : (x : t.Primary) (rest : List Leaf) → AreHeld (spelling.of_primary x rest)
      → IsOptional p io f (e.of_primary k x) × AreHeld rest

abbrev pub ExpressionsAreValid : Type 0
ExpressionsAreValid = (p : PlainProgram) (io : IoTable) (f : ℕ) (k : Known) → Suits p io f k → MeanOperands p io f k

-- the value of an operand is a valid expression, but for a struct's
abbrev pub ValuesAreValid : Type 0
ValuesAreValid =
    (p : PlainProgram) (io : IoTable) (f : ℕ) (m : Modes) (x : Operand) → IsOperand p io f x → ¬ IsStruct (value_type x)
    → ValidExpr p io f (as_value m x)

-- what is known with other names
abbrev pub naming : Known → Names → Known
naming k names =
    record { names = names; tags = k.tags; structs = k.structs; ports = k.ports; modes = k.modes }

-- what is known goes on to suit a program, and to have types, where one more name is declared that does: in a block, or
-- at file scope, where no block is open
pub record DeclarationsSuit (k : Known) (n : List ℕ) (what : Named) : Type 0 where
  pub inside : (p : PlainProgram) (io : IoTable) (f : ℕ) → Suits p io f k → IsOf p f what
      → Suits p io f (naming k (with_inside n what k.names))
  pub outside : (p : PlainProgram) (io : IoTable) (f : ℕ) → k.names.inside ≡ [] → Suits p io f k → IsOf p f what
      → Suits p io f (naming k (with_outside n what k.names))
  pub types_inside : HasTypes k → IsWhole what → HasTypes (naming k (with_inside n what k.names))
  pub types_outside : k.names.inside ≡ [] → HasTypes k → IsWhole what
      → HasTypes (naming k (with_outside n what k.names))

abbrev pub DeclarationsKeepSuiting : Type 0
DeclarationsKeepSuiting = (k : Known) (n : List ℕ) (what : Named) → DeclarationsSuit k n what

-- what is known with these structs, and with a tag that stands for the one with a number, or for none
abbrev pub defining : Known → List ℕ → (number : Option ℕ) → List PlainStruct → Known
defining k tag number structs =
    record { names = k.names; tags = with_name tag number k.tags; structs = structs; ports = k.ports; modes = k.modes }

-- the structs are those of the program with their numbers
abbrev pub AreStructsOf : PlainProgram → List PlainStruct → Type 0
AreStructsOf p structs =
    (i : ℕ) (s : PlainStruct) → slice_get structs i ≡ Some s → slice_get p.structs i ≡ Some s

-- what is known goes on to suit a program, and to have types, where the definition of a struct ends
pub record DefinitionsSuit (k : Known) (tag : List ℕ) (number : Option ℕ) (structs : List PlainStruct) : Type 0 where
  pub suits : (p : PlainProgram) (io : IoTable) (f : ℕ) → Suits p io f k → AreStructs structs → AreStructsOf p structs
      → IfSome number (λ i. IsPlaceType p.structs (struct i)) → Suits p io f (defining k tag number structs)
  pub types : HasTypes k → length k.structs ≤ length structs → IsSomeAnd number (λ i. i < length structs)
      → HasTypes (defining k tag number structs)

abbrev pub DefinitionsKeepSuiting : Type 0
DefinitionsKeepSuiting =
    (k : Known) (tag : List ℕ) (number : Option ℕ) (structs : List PlainStruct) → DefinitionsSuit k tag number structs

-- ---- meanings

-- Where nothing is told at the sites of an expression, nor at those behind it, it has a meaning, of which every form
-- means something where it breaks no rule
pub record HaveMeanings (k : Known) : Type 0 where
  pub expressions : (x : t.Expression) (rest : List Site) → told None (e.expression_sites k x rest) ≡ None
      → IsSomeAnd (e.of_expression k x) IsProper × (told None rest ≡ None)
  pub assignments : (x : t.Assignment) (rest : List Site) → told None (e.assignment_sites k x rest) ≡ None
      → IsSomeAnd (e.of_assignment k x) IsProper × (told None rest ≡ None)
  pub conditionals : (x : t.Conditional) (rest : List Site) → told None (e.conditional_sites k x rest) ≡ None
      → IsSomeAnd (e.of_conditional k x) IsProper × (told None rest ≡ None)
  pub binaries : (x : t.Binary) (rest : List Site) → told None (e.binary_sites k x rest) ≡ None
      → IsSomeAnd (e.of_binary k x) IsProper × (told None rest ≡ None)
  pub casts : (x : t.Cast) (rest : List Site) → told None (e.cast_sites k x rest) ≡ None
      → IsSomeAnd (e.of_cast k x) IsProper × (told None rest ≡ None)
  pub unaries : (x : t.Unary) (rest : List Site) → told None (e.unary_sites k x rest) ≡ None
      → IsSomeAnd (e.of_unary k x) IsProper × (told None rest ≡ None)
  pub postfixes : (x : t.Postfix) (rest : List Site) → told None (e.postfix_sites k x rest) ≡ None
      → IsSomeAnd (e.of_postfix k x) IsProper × (told None rest ≡ None)
  pub primaries : (x : t.Primary) (rest : List Site) → told None (e.primary_sites k x rest) ≡ None
      → IsSomeAnd (e.of_primary k x) IsProper × (told None rest ≡ None)

abbrev pub KeptExpressionsHaveMeanings : Type 0
KeptExpressionsHaveMeanings = (k : Known) → HasTypes k → HaveMeanings k

-- where nothing is told, no rule is broken at the first site, and nothing is told at the others
abbrev pub SitesAreKept : Type 0
SitesAreKept =
    (s : operands.Site) (rest : List Site) → told None (on s ∷ rest) ≡ None → IsKept s × (told None rest ≡ None)

-- ---- types that specifiers and stars say

-- the type that they say is that of a place, where it is not void and leads to none, and tags stand for such structs
abbrev pub SaidTypesArePlaced : Type 0
SaidTypesArePlaced =
    (structs : List PlainStruct) (tags : Tags)
    → ((n : List ℕ) (i : ℕ) → tag_state n tags ≡ Struct i → IsPlaceType structs (struct i)) → (x : t.TypeName)
    → IfSome (meant_type (void_said tags x) (said_type tags x)) (IsPlaceType structs)

abbrev pub AreUnbroken : List Judgement → Type 0
AreUnbroken js = AllByRecursion (λ j. j.broken ≡ false) js

-- where specifiers break no rule and do not name void, they say a type that has a size, and so they do behind stars
abbrev pub KeptTypesAreSaid : Type 0
KeptTypesAreSaid =
    (structs : ℕ) (tags : Tags) → ((n : List ℕ) → IsWholeTag structs (tag_state n tags)) → (may_store : Bool)
    (ss : t.Specs) (stars : List t.Star) (rest : List Judgement) → AreUnbroken (specs_rules tags may_store ss rest)
    → void_at (specified tags ss).types ≡ None
    → IsSomeAnd (behind (declared_by (specified tags ss)) stars).ty (λ ty. is_sized structs ty ≡ true)

-- ---- temporaries

-- the value of an expression needs no more temporaries than the expression has tokens; other tokens may follow
pub record NeedTheirTokens (m : Modes) (k : Known) : Type 0 where
  pub expressions : (x : t.Expression) (rest : List Leaf) → IfSome (e.of_expression k x)
      (λ o. expr_need (as_value m o) + length rest ≤ length (spelling.of_expression x rest))
  pub assignments : (x : t.Assignment) (rest : List Leaf) → IfSome (e.of_assignment k x)
      (λ o. expr_need (as_value m o) + length rest ≤ length (spelling.of_assignment x rest))
  pub conditionals : (x : t.Conditional) (rest : List Leaf) → IfSome (e.of_conditional k x)
      (λ o. expr_need (as_value m o) + length rest ≤ length (spelling.of_conditional x rest))
  pub binaries : (x : t.Binary) (rest : List Leaf) → IfSome (e.of_binary k x)
      (λ o. expr_need (as_value m o) + length rest ≤ length (spelling.of_binary x rest))
  pub casts : (x : t.Cast) (rest : List Leaf) → IfSome (e.of_cast k x)
      (λ o. expr_need (as_value m o) + length rest ≤ length (spelling.of_cast x rest))
  pub unaries : (x : t.Unary) (rest : List Leaf) → IfSome (e.of_unary k x)
      (λ o. expr_need (as_value m o) + length rest ≤ length (spelling.of_unary x rest))
  pub postfixes : (x : t.Postfix) (rest : List Leaf) → IfSome (e.of_postfix k x)
      (λ o. expr_need (as_value m o) + length rest ≤ length (spelling.of_postfix x rest))
  pub primaries : (x : t.Primary) (rest : List Leaf) → IfSome (e.of_primary k x)
      (λ o. expr_need (as_value m o) + length rest ≤ length (spelling.of_primary x rest))

-- nor does an operand that is brought to a type, or that is a condition, need more than its value; and tokens only come
-- before those that follow
pub record NeedsAreBounded : Type 0 where
  pub trees : (m : Modes) (k : Known) → NeedTheirTokens m k
  pub passed : (m : Modes) (to : PlainType) (x : Operand)
      → IfSome (passed m (Some to) (Some x)) (λ d. expr_need d ≤ expr_need (as_value m x))
  pub conditions : (m : Modes) (x : Operand)
      → IfSome (condition m (Some x)) (λ d. expr_need d ≤ expr_need (as_value m x))
  pub expressions : (x : t.Expression) (rest : List Leaf) → length rest ≤ length (spelling.of_expression x rest)
  pub assignments : (x : t.Assignment) (rest : List Leaf) → length rest ≤ length (spelling.of_assignment x rest)
  pub conditionals : (x : t.Conditional) (rest : List Leaf) → length rest ≤ length (spelling.of_conditional x rest)
