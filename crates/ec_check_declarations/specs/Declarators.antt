-- What declarators declare (ISO/IEC 9899:1999, 6.7.5; ISO/IEC TR 18037:2008, 5.1.2), and the rules that they can break.
use Rattle.std.specs.Prelude.{ℕ, ◌+◌, Bool, is_none, pos, Option, Some, None, List, [], ◌∷◌, length, option_map}
use Rattle.ec_check_operands.specs.Faults.{Judgement, rule}
use Rattle.ec_grammar.specs.Trees as t
use Rattle.ec_space.specs.declared.space.SpaceId.{SpaceId}
use Rattle.ec_core.specs.Plain.{PlainType, plain_type, array, PlainStruct}
use Rattle.ec_check_names.specs.declared.specifiers.Specified.{Specified}
use Rattle.ec_check_names.specs.Qualifiers.{own_space_rules, space_in}
use Rattle.ec_check_names.specs.Specifiers.{void_at}
use Rattle.ec_check_names.specs.Stars.{Declared, declared_by, behind, star_rules}
use Rattle.ec_check_operands.specs.Operands.{with_both}
use Rattle.ec_check_expressions.specs.Known.{Known}
use Rattle.ec_check_expressions.specs.TypeNames.{meant_type, void_rules}
use Rattle.ec_check_initialisers.specs.Locals.{items_count}
use Rattle.ec_check_initialisers.specs.Sites.{size_sites}
use Rattle.ec_check_initialisers.specs.Sizes.{array_size, size_of_number}
use Rattle.ec_check_declarations.specs.declared.objects.ObjectDeclared as declared
use Rattle.ec_check_declarations.specs.ObjectTypes.{object_type, is_too_large, small_type}
use Rattle.ec_check_declarations.specs.Sites.{Site, on, initialiser_in}

-- ---- specifiers and stars

-- what stands behind specifiers and stars
abbrev pub head_of : Specified → List t.Star → Declared
head_of s stars = behind (declared_by s) stars

-- 2 and 4 of the stars; 3 of a space of what is declared itself; 7 where the word `void` stands in the place of a type
abbrev pub head_rules : (may_have_space : Bool) → (misused : Option ℕ) → Specified → List t.Star → List Judgement
head_rules may_have_space misused s stars =
    star_rules stars (own_space_rules may_have_space (head_of s stars).qualities.space (void_rules misused []))

-- 7: of a result, the word is misused behind stars alone
abbrev pub misused_in_result : Option ℕ → List t.Star → Option ℕ
misused_in_result at [] = None
misused_in_result at (first ∷ more) = at

abbrev pub misused_in : t.Shape → Option ℕ → List t.Star → Option ℕ
misused_in t.object at stars = at
misused_in (t.array l size r) at stars = at
misused_in (t.function_shape l ps r) at stars = misused_in_result at stars

-- ---- arrays

-- the size that is left out is the number of items in braces
abbrev pub given_size : Option t.Start → Option ℕ
given_size None = None
given_size (Some (t.start equals (t.initial_value a))) = None
given_size (Some (t.start equals (t.braces l first more c r))) = size_of_number (pos (items_count more + 1))

abbrev pub declared_size : Known → Option t.Conditional → Option t.Start → Option ℕ
declared_size k None start = given_size start
declared_size k (Some c) start = array_size k c

-- 8, at `[`
abbrev pub declared_size_sites : Known → Option t.Conditional → Option t.Start → ℕ → List Site → List Site
declared_size_sites k None start at rest = on (rule 8 (is_none (given_size start)) at ∷ []) ∷ rest
declared_size_sites k (Some c) start at rest = initialiser_in (size_sites k c at []) rest

-- the size of what a name is followed by
abbrev pub shape_size : Known → t.Shape → Option t.Start → Option ℕ
shape_size k t.object start = None
shape_size k (t.array l size r) start = declared_size k size start
shape_size k (t.function_shape l ps r) start = None

abbrev pub shape_sites : Known → t.Shape → Option t.Start → List Site → List Site
shape_sites k t.object start rest = rest
shape_sites k (t.array l size r) start rest = declared_size_sites k size start l.index rest
shape_sites k (t.function_shape l ps r) start rest = rest

-- the type of an object whose name is followed so, with an array's size; a function is no object
abbrev pub shaped : Option PlainType → t.Shape → Option ℕ → Option PlainType
shaped ty t.object size = ty
shaped ty (t.array l c r) size = with_both ty size (λ ty n. Some (array ty n))
shaped ty (t.function_shape l ps r) size = None

-- ---- objects and members

-- the type of an object or a member, if its declarator breaks no rule of types, whether it is const, and its space
pub record ObjectDeclared : Type 0 where
  pub ty : Option PlainType
  pub konst : Bool
  pub space : SpaceId

abbrev pub plain_declared_object : declared.ObjectDeclared → ObjectDeclared
plain_declared_object d = record { ty = option_map plain_type d.ty; konst = d.konst; space = d.space }

-- the type that is declared, with an array's size, whatever its bytes
abbrev pub type_declared : (structs : ℕ) → Specified → List t.Star → t.Shape → (size : Option ℕ) → Option PlainType
type_declared n s stars shape size =
    object_type n (shaped (meant_type (void_at s.types) (head_of s stars).ty) shape size)

abbrev pub typed_object : (structs : ℕ) → Specified → t.Declarator → (size : Option ℕ) → ObjectDeclared
typed_object n s (t.declarator stars name shape) size =
    record {
      ty = type_declared n s stars shape size;
      konst = (head_of s stars).qualities.konst;
      space = space_in (head_of s stars).qualities.space;
    }

-- what a declarator declares, where specifiers say so much before it, and its initialiser is this or there is none: a
-- member is no object, so it has its type whatever the bytes of that
abbrev pub typed_declarator : Known → Specified → t.Declarator → Option t.Start → ObjectDeclared
typed_declarator k s (t.declarator stars name shape) start =
    typed_object (length k.structs) s (t.declarator stars name shape) (shape_size k shape start)

-- so for an object, whose type has not more bytes than an object may have
abbrev pub sized : List PlainStruct → ObjectDeclared → ObjectDeclared
sized structs o = record { ty = small_type structs o.ty; konst = o.konst; space = o.space }

abbrev pub object_declared : Known → Specified → t.Declarator → Option t.Start → ObjectDeclared
object_declared k s (t.declarator stars name shape) start =
    sized k.structs (typed_declarator k s (t.declarator stars name shape) start)

-- the rules of stars, of a space and of `void`
abbrev pub typed_object_sites : (may_have_space : Bool) → Specified → t.Declarator → List Site → List Site
typed_object_sites may_have_space s (t.declarator stars name shape) rest =
    on (head_rules may_have_space (misused_in shape (void_at s.types) stars) s stars) ∷ rest

-- the rules of a declarator of an object or a member, whatever its bytes: 8 at `[`, and those above
abbrev pub typed_sites : Known → (may_have_space : Bool) → Specified → t.Declarator → Option t.Start → List Site
    → List Site
typed_sites k may_have_space s (t.declarator stars name shape) start rest =
    shape_sites k shape start (typed_object_sites may_have_space s (t.declarator stars name shape) rest)

-- 9, at the name of an object that declares so much
abbrev pub sized_sites : List PlainStruct → ObjectDeclared → (at : ℕ) → List Site → List Site
sized_sites structs o at rest = on (rule 9 (is_too_large structs o.ty) at ∷ []) ∷ rest

-- the rules of a declarator of an object
abbrev pub object_sites : Known → (may_have_space : Bool) → Specified → t.Declarator → Option t.Start → List Site
    → List Site
object_sites k may_have_space s (t.declarator stars (t.identifier at n) shape) start rest =
    typed_sites k may_have_space s (t.declarator stars (t.identifier at n) shape) start
    (sized_sites k.structs (typed_declarator k s (t.declarator stars (t.identifier at n) shape) start) at.index rest)
