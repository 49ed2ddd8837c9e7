-- Small units and lists of specifiers, and what the definitions make of them.
use Rattle.std.proofs.Common.{◌≡◌, refl, ℕ, true, false, [], ◌∷◌, Some, None}
use Rattle.ec_fx.specs.declared.formats.FxKind.TheVariants.{UnsignedLongAccum}
use Rattle.ec_core.specs.declared.arithmetic_types.Arithmetic.TheVariants.{Integer, Fixed}
use Rattle.ec_check_operands.specs.Faults.{rule}
use Rattle.ec_grammar.specs.declared.token.WordKind.{WordKind}
use Rattle.ec_grammar.specs.declared.token.WordKind.TheVariants.{Int, Long, Unsigned, Accum, Static, Extern, Const, Flash, Data}
use Rattle.ec_grammar.specs.declared.Spot.{Spot}
use Rattle.ec_grammar.specs.Trees as t
use Rattle.ec_check_names.specs.declared.linkage.Linkage.TheVariants.{Internal, External}
use Rattle.ec_check_names.specs.declared.numbering.Defined.TheVariants.{Object, Function}
use Rattle.ec_check_names.specs.declared.words.BaseType.TheVariants.{Number}
use Rattle.ec_check_names.specs.Counts.{objects_declared, functions_defined}
use Rattle.ec_check_names.specs.Definitions.{definitions, number_of}
use Rattle.ec_check_names.specs.Specifiers.{specified, base_of, names_type, specs_rules}
use Rattle.ec_check_names.specs.Spellings.{register_number}

abbrev spot : ℕ → Spot
spot n = record { index = n; at = n }

abbrev word : ℕ → WordKind → t.Spec
word n w = t.word_spec (spot n) w

-- ---- specifiers

-- unsigned long _Accum
an_accum : base_of (specified [] (t.specs (word 0 Unsigned) (word 1 Long ∷ word 2 Accum ∷ []))).types
    ≡ Some (Number (Fixed (record { kind = UnsignedLongAccum; sat = false })))
an_accum = refl

-- long unsigned, in either order
a_long : base_of (specified [] (t.specs (word 0 Long) (word 1 Unsigned ∷ []))).types
    ≡ Some (Number (Integer (record { signed = false; bytes = 4 })))
a_long = refl

-- long long names no type
no_long_long : names_type (specified [] (t.specs (word 0 Long) (word 1 Long ∷ []))).types ≡ false
no_long_long = refl

-- __flash const __data int: the second space breaks rule 2, at token 2
two_spaces : specs_rules [] true (t.specs (word 0 Flash) (word 1 Const ∷ word 2 Data ∷ word 3 Int ∷ [])) []
    ≡ rule 1 false 0 ∷ rule 2 false 0 ∷ rule 4 false 0 ∷ rule 2 false 1 ∷ rule 4 false 1 ∷ rule 2 true 2 ∷ rule 4 false 2 ∷ rule 2 false 3
    ∷ rule 4 false 3 ∷ []
two_spaces = refl

-- static __flash int of a parameter: rule 1 at the first specifier, rule 4 at the space
a_static_parameter : specs_rules [] false (t.specs (word 5 Static) (word 6 Flash ∷ word 7 Int ∷ [])) []
    ≡ rule 1 true 5 ∷ rule 2 false 5 ∷ rule 4 false 5 ∷ rule 2 false 6 ∷ rule 4 true 6 ∷ rule 2 false 7 ∷ rule 4 false 7 ∷ []
a_static_parameter = refl

-- ---- definitions

abbrev int : t.Specs
int = t.specs (word 0 Int) []

abbrev stored : WordKind → t.Specs
stored w = t.specs (word 0 w) (word 1 Int ∷ [])

abbrev named : ℕ → t.Identifier
named c = t.identifier (spot 0) (c ∷ [])

abbrev object : t.Specs → ℕ → t.Declaration
object ss c = t.declaration ss (t.init_declarator (t.declarator [] (named c) t.object) None) [] (spot 0)

-- int f(int x) { int y; }
abbrev a_function : t.Function
a_function =
    t.function (t.type_name int []) (named 102) (spot 0) (t.params (t.param (t.type_name int []) (Some (named 120))) []) (spot 0)
    (t.compound (spot 0) [] (t.items (t.declared (object int 121)) t.no_items) (spot 0))

-- int a; int f(int x) { int y; } extern int b; static int c;
abbrev first_unit : t.Tree
first_unit =
    t.tree
    (t.declaration_item (object int 97) ∷ t.function_item a_function ∷ t.declaration_item (object (stored Extern) 98)
    ∷ t.declaration_item (object (stored Static) 99) ∷ [])
    (spot 0)

-- static int c; int b;
abbrev second_unit : t.Tree
second_unit = t.tree (t.declaration_item (object (stored Static) 99) ∷ t.declaration_item (object int 98) ∷ []) (spot 0)

-- x and y are objects 1 and 2
five_definitions : definitions (first_unit ∷ second_unit ∷ [])
    ≡ record { name = 97 ∷ []; unit = 0; linkage = External; kind = Object; number = 0 }
    ∷ record { name = 102 ∷ []; unit = 0; linkage = External; kind = Function; number = 0 }
    ∷ record { name = 99 ∷ []; unit = 0; linkage = Internal; kind = Object; number = 3 }
    ∷ record { name = 99 ∷ []; unit = 1; linkage = Internal; kind = Object; number = 4 }
    ∷ record { name = 98 ∷ []; unit = 1; linkage = External; kind = Object; number = 5 } ∷ []
five_definitions = refl

-- the first unit's b is the second unit's, and each unit has its own c
found_b : number_of (98 ∷ []) 0 External false (definitions (first_unit ∷ second_unit ∷ [])) ≡ Some 5
found_b = refl

found_c : number_of (99 ∷ []) 1 Internal false (definitions (first_unit ∷ second_unit ∷ [])) ≡ Some 4
found_c = refl

-- the declaration of b in the first unit counts for the limit
seven_objects : objects_declared (first_unit ∷ second_unit ∷ []) ≡ 7
seven_objects = refl

one_function : functions_defined (first_unit ∷ second_unit ∷ []) ≡ 1
one_function = refl

-- ---- names

-- _R2, _R8 and _R2x
register_2 : register_number (95 ∷ 82 ∷ 50 ∷ []) ≡ Some 2
register_2 = refl

no_register_8 : register_number (95 ∷ 82 ∷ 56 ∷ []) ≡ None
no_register_8 = refl

no_register_with_more : register_number (95 ∷ 82 ∷ 50 ∷ 120 ∷ []) ≡ None
no_register_with_more = refl
