-- What declarators declare, in words (ISO/IEC 9899:1999, 6.7.5 and 6.9.1; named registers: ISO/IEC TR 18037:2008, 5.2.2; the greatest
-- sizes are this project's profile).
use Rattle.std.specs.Prelude.{ℕ, ◌+◌, ◌≤◌, ◌≡◌, Bool, pos, true, Option, Some, None, Ok, List, [], ◌∷◌, length}
use Rattle.ec_space.specs.declared.space.SpaceId.{SpaceId}
use Rattle.ec_grammar.specs.declared.Spot.{Spot}
use Rattle.ec_grammar.specs.Trees as t
use Rattle.ec_core.specs.Layout.{size_of_type}
use Rattle.ec_core.specs.Plain.{PlainType, void, array, PlainExpr}
use Rattle.ec_core.specs.Typing.{type_of_expr}
use Rattle.ec_check_constants.specs.Constants.{constant}
use Rattle.ec_check_constants.specs.Tests.{is_constant}
use Rattle.ec_check_operands.specs.Operands.{Operand, value}
use Rattle.ec_check_forms.specs.Constraints.{IsInteger, IsArithmetic, IsScalar}
use Rattle.ec_check_names.specs.Tags.{Tags}
use Rattle.ec_check_expressions.specs.Known.{Known}
use Rattle.ec_check_initialisers.specs.Locals.{items_count}
use Rattle.ec_check_meanings.specs.Means.{Uses, HasSize}
use Rattle.ec_check_meanings.specs.Terms.{term_of_conditional}
use Rattle.ec_check_parts.specs.ConstantForms.{IsConstantTerm}
use Rattle.ec_check_parts.specs.TypeWords.{Name}
use Rattle.ec_check_parts.specs.Types.{SaySpace, SaysConst, MeanType}
use Rattle.ec_check_parts.specs.Words.{words_among, own_words}

-- ---- types of objects

-- a type that an object can have, where there are so many structs: a number, a pointer, a struct, or an array of these
abbrev pub IsObject : (structs : ℕ) → PlainType → Type 0
IsObject n (array of len) = HasSize n of × (len ≤ 32_767)
IsObject n ty = HasSize n ty

-- ---- arrays

-- a value is a size: an integer from 1 to 32,767 that is known before a run
pub data IsSize : Operand → ℕ → Type 0 where
  a_size : {e : PlainExpr} {zero : Bool} {n : ℕ} → IsInteger (type_of_expr e) → is_constant e ≡ true → constant e ≡ Ok (pos n)
      → 1 ≤ n → n ≤ 32_767 → IsSize (value e zero) n

-- the size of an array: that of the constant expression in its `[ ]`, or where none stands there the number of items in the braces of
-- its initialiser (6.7.5.2 and 6.7.8)
pub data HasElements (k : Known) : Option t.Conditional → Option t.Start → ℕ → Type 0 where
  stated : {c : t.Conditional} {start : Option t.Start} {x : Operand} {n : ℕ} → IsConstantTerm k (term_of_conditional c)
      → Uses k (term_of_conditional c) x → IsSize x n → HasElements k (Some c) start n
  counted : {equals l r : Spot} {first : t.Initialiser} {more : t.Initialisers} {comma : Option Spot} → items_count more + 1 ≤ 32_767
      → HasElements k None (Some (t.start equals (t.braces l first more comma r))) (items_count more + 1)

-- ---- objects and members

-- the type that a declarator gives a name, where its initialiser is this or there is none
pub data DeclareType (k : Known) (ss : t.Specs) (stars : List t.Star) : t.Shape → Option t.Start → PlainType → Type 0 where
  alone : {start : Option t.Start} {ty : PlainType} → MeanType k.tags ss stars ty → IsObject (length k.structs) ty
      → DeclareType k ss stars t.object start ty
  in_array : {l r : Spot} {size : Option t.Conditional} {start : Option t.Start} {of : PlainType} {n : ℕ} → MeanType k.tags ss stars of
      → HasElements k size start n → IsObject (length k.structs) (array of n)
      → DeclareType k ss stars (t.array l size r) start (array of n)

-- the type of an object, which has at most 32,767 bytes
pub record DeclareObject (k : Known) (ss : t.Specs) (stars : List t.Star) (shape : t.Shape) (start : Option t.Start) (ty : PlainType)
    : Type 0 where
  pub typed : DeclareType k ss stars shape start ty
  pub small : size_of_type k.structs ty ≤ 32_767

-- what is declared itself is const or not, and in a space
abbrev pub IsConst : t.Specs → List t.Star → (konst : Bool) → Type 0
IsConst ss stars konst = SaysConst konst (own_words (words_among ss) stars)

abbrev pub IsInSpace : t.Specs → List t.Star → SpaceId → Type 0
IsInSpace ss stars space = SaySpace (own_words (words_among ss) stars) space

-- ---- functions

-- the type of a parameter
pub record DeclareParam (tags : Tags) (structs : ℕ) (ss : t.Specs) (stars : List t.Star) (ty : PlainType) : Type 0 where
  pub meant : MeanType tags ss stars ty
  pub scalar : IsScalar ty
  pub object : IsObject structs ty

-- the type of a result, which may be void
pub data DeclareResult (tags : Tags) (structs : ℕ) (ss : t.Specs) : List t.Star → PlainType → Type 0 where
  no_result : Name tags ss void → DeclareResult tags structs ss [] void
  a_result : {stars : List t.Star} {ty : PlainType} → DeclareParam tags structs ss stars ty → DeclareResult tags structs ss stars ty

-- ---- named registers

-- `_R2` to `_R7`
pub data NamesRegister : List ℕ → ℕ → Type 0 where
  by_digit : {n : ℕ} → 2 ≤ n → n ≤ 7 → NamesRegister (95 ∷ 82 ∷ (48 + n) ∷ []) n

-- an object in named registers, from the first one on, of which R7 is the last
pub record DeclareRegister (k : Known) (register : List ℕ) (ss : t.Specs) (first : ℕ) (ty : PlainType) : Type 0 where
  pub named : NamesRegister register first
  pub meant : MeanType k.tags ss [] ty
  pub number : IsArithmetic ty
  pub object : IsObject (length k.structs) ty
  pub inside : first + size_of_type k.structs ty ≤ 8
