-- Small initialisers of static objects, and what the definitions make of them.
use Rattle.std.proofs.Common.{◌≡◌, ◌+◌, refl, ℕ, true, false, pos, List, [], ◌∷◌, Option, Some, None}
use Rattle.ec_check_operands.specs.declared.faults.Fault.{Fault}
use Rattle.ec_grammar.specs.declared.token.PunctKind.TheVariants.{Ampersand, Dot, Not, Slash}
use Rattle.ec_grammar.specs.declared.token.WordKind.TheVariants.{Int}
use Rattle.ec_grammar.specs.declared.Constant.TheVariants.{Whole}
use Rattle.ec_grammar.specs.declared.Spot.{Spot}
use Rattle.ec_grammar.specs.Trees as t
use Rattle.ec_iohw.specs.declared.table.IoTable.{IoTable}
use Rattle.ec_space.specs.declared.space.SpaceId.TheVariants.{Flash, Data, Generic}
use Rattle.ec_core.specs.declared.programs.LeafInit.{LeafInit}
use Rattle.ec_core.specs.declared.programs.LeafInit.TheVariants.{Number, Null, Address}
use Rattle.ec_core.specs.Plain.{PlainType, integer, pointer, array, struct, PlainStruct}
use Rattle.ec_core.specs.Typing.{int}
use Rattle.ec_check_names.specs.Names.{an_object}
use Rattle.ec_check_expressions.specs.Known.{Known}
use Rattle.ec_check_expressions.specs.TypeNames.{said_type, void_said, type_name_rules}
use Rattle.ec_check_initialisers.specs.Sites.{told, size_sites}
use Rattle.ec_check_initialisers.specs.Statics.{static_leaves, static_sites}

-- ---- names and trees

-- struct S { char a; int b; }
abbrev pair : PlainStruct
pair =
    record {
      tag = 83 ∷ [];
      members = record { name = 97 ∷ []; ty = integer true 1 } ∷ record { name = 98 ∷ []; ty = int } ∷ [];
    }

-- struct S s[2]; int t[3]; int x; extern int u; const __flash int f[2];
abbrev known : IoTable → Known
known ports =
    record {
      names = record {
        outside = (115 ∷ [], an_object (Some 3) (Some (array (struct 0) 2)) false Generic false)
            ∷ (116 ∷ [], an_object (Some 5) (Some (array int 3)) false Generic false)
            ∷ (120 ∷ [], an_object (Some 7) (Some int) false Generic false)
            ∷ (117 ∷ [], an_object None (Some int) false Generic false)
            ∷ (102 ∷ [], an_object (Some 8) (Some (array int 2)) true Flash false) ∷ [];
        inside = [];
      };
      tags = [];
      structs = pair ∷ [];
      ports = ports;
      modes = record { fract = false; accum = false };
    }

abbrev spot : ℕ → Spot
spot i = record { index = i; at = i }

abbrev name : ℕ → ℕ → t.Postfix
name i c = t.primary (t.name (t.identifier (spot i) (c ∷ [])))

abbrev number : ℕ → ℕ → t.Postfix
number i n = t.primary (t.constant (spot i) (Whole n true 2))

abbrev alone : t.Unary → t.Assignment
alone u = t.value (t.plain (t.operand (t.uncast u)))

abbrev element : t.Postfix → ℕ → ℕ → t.Postfix
element p i n = t.index p (spot i) (t.single (alone (t.postfix (number (i + 1) n)))) (spot (i + 2))

abbrev item : t.Postfix → t.Initialiser
item p = t.initial_value (alone (t.postfix p))

abbrev address : t.Postfix → t.Initialiser
address p = t.initial_value (alone (t.prefix (spot 0) Ampersand (t.uncast (t.postfix p))))

abbrev two : t.Initialiser → t.Initialiser → t.Initialiser
two x y = t.braces (spot 0) x (t.initialisers (spot 2) y t.no_initialisers) None (spot 9)

abbrev fault : ℕ → ℕ → Option Fault
fault at rule = Some (record { at = at; rule = rule })

module _ (ports : IoTable) where
  abbrev leaves : t.Initialiser → PlainType → Option (List LeafInit)
  leaves i ty = static_leaves (known ports) i (Some ty)

  abbrev faults : t.Initialiser → PlainType → Option Fault
  faults i ty = told None (static_sites (known ports) i (Some ty) [])

  abbrev to_int : PlainType
  to_int = pointer Generic false int

  -- ---- addresses

  -- &s[1].b: behind one pair and one char
  a_member : leaves (address (t.member (element (name 1 115) 2 1) (spot 5) Dot (t.identifier (spot 6) (98 ∷ [])))) to_int
      ≡ Some (Address 3 4 ∷ [])
  a_member = refl

  -- t is the address of its first element
  an_array : leaves (item (name 0 116)) to_int ≡ Some (Address 5 0 ∷ [])
  an_array = refl

  -- &t[3] is the end of t
  the_end : leaves (address (element (name 1 116) 2 3)) to_int ≡ Some (Address 5 6 ∷ [])
  the_end = refl

  -- &t[4] is past it
  past_the_end : leaves (address (element (name 1 116) 2 4)) to_int ≡ None
  past_the_end = refl

  past_is_told : faults (address (element (name 1 116) 2 4)) to_int ≡ fault 0 15
  past_is_told = refl

  -- &s[2].a is the end of s, and &s[2].b is past it
  end_of_pairs : leaves (address (t.member (element (name 1 115) 2 2) (spot 5) Dot (t.identifier (spot 6) (97 ∷ []))))
      (pointer Generic false (integer true 1)) ≡ Some (Address 3 6 ∷ [])
  end_of_pairs = refl

  past_pairs : leaves (address (t.member (element (name 1 115) 2 2) (spot 5) Dot (t.identifier (spot 6) (98 ∷ [])))) to_int ≡ None
  past_pairs = refl

  -- the value of x is known in a run only
  a_value : faults (item (name 0 120)) int ≡ fault 0 15
  a_value = refl

  -- a name that is not declared is no address constant
  undeclared : faults (address (name 1 122)) to_int ≡ fault 0 15
  undeclared = refl

  -- one that no unit defines is, and is told at the name
  undefined : faults (address (name 1 117)) to_int ≡ fault 1 19
  undefined = refl

  -- &f[1] is an address in flash, which a pointer into the data bank cannot hold
  in_flash : leaves (address (element (name 1 102) 2 1)) (pointer Generic true int) ≡ Some (Address 8 2 ∷ [])
  in_flash = refl

  not_in_data : faults (address (element (name 1 102) 2 1)) (pointer Data true int) ≡ fault 0 29
  not_in_data = refl

  -- ---- numbers and braces

  a_null : leaves (item (number 0 0)) to_int ≡ Some (Null ∷ [])
  a_null = refl

  -- { 1, 2 } of three
  some_numbers : leaves (two (item (number 1 1)) (item (number 3 2))) (array int 3)
      ≡ Some (Number (pos 1) ∷ Number (pos 2) ∷ Number (pos 0) ∷ [])
  some_numbers = refl

  -- too many
  too_many : faults (two (item (number 1 1)) (item (number 3 2))) (array int 1) ≡ fault 0 14
  too_many = refl

  -- a pair has braces
  no_braces : faults (item (number 0 1)) (struct 0) ≡ fault 0 14
  no_braces = refl

  -- 1 / 0
  no_number : faults (t.initial_value (t.value
      (t.plain (t.join (t.operand (t.uncast (t.postfix (number 0 1)))) (spot 1) Slash (t.operand (t.uncast (t.postfix (number 2 0))))))))
      int ≡ fault 0 15
  no_number = refl

  -- ---- casts to pointers

  abbrev null_pointer : ℕ → t.Cast
  null_pointer n =
      t.convert (spot 0) (t.type_name (t.specs (t.word_spec (spot 1) Int) []) (t.star (spot 2) [] ∷ [])) (spot 3)
      (t.uncast (t.postfix (number 4 n)))

  abbrev cast_item : t.Cast → t.Initialiser
  cast_item c = t.initial_value (t.value (t.plain (t.operand c)))

  -- int n = (int *)0; int n = !(int *)0;
  a_pointer : faults (cast_item (null_pointer 0)) int ≡ fault 0 15
  unfolding void_said said_type
  a_pointer = refl

  no_pointer : faults (cast_item (t.uncast (t.prefix (spot 9) Not (null_pointer 0)))) int ≡ fault 9 15
  unfolding void_said said_type
  no_pointer = refl

  -- (int *)1 has no type: it is told as a cast alone
  no_cast : faults (cast_item (null_pointer 1)) int ≡ fault 0 31
  unfolding void_said said_type type_name_rules
  no_cast = refl

  -- char a[(int *)0];
  no_size : told None (size_sites (known ports) (t.plain (t.operand (null_pointer 0))) 7 []) ≡ fault 7 8
  unfolding void_said said_type
  no_size = refl
