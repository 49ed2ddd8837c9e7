-- Definitions of structs (ISO/IEC 9899:1999, 6.7.2.1), and the rules that they can break.
use Rattle.std.specs.Prelude.{ℕ, ◌-◌, Bool, true, false, not, ◌&&◌, ◌||◌, if◌then◌else◌, nat_lt, nat_le}
use Rattle.std.specs.Prelude.{Option, Some, None, option_map, List, [], ◌∷◌, ◌++◌, length}
use Rattle.std.specs.Str.{bytes_eq}
use Rattle.ec_check_operands.specs.Faults.{Judgement, rule}
use Rattle.ec_grammar.specs.Trees as t
use Rattle.ec_core.specs.Layout.{members_layout, struct_layouts}
use Rattle.ec_core.specs.Plain.{PlainType, plain_type, PlainMember, PlainStruct}
use Rattle.ec_check_names.specs.declared.specifiers.Specified.{Specified}
use Rattle.ec_check_names.specs.Counts.{is_function}
use Rattle.ec_check_names.specs.Specifiers.{specified, specs_rules}
use Rattle.ec_check_names.specs.Structs.{struct_place}
use Rattle.ec_check_names.specs.Tags.{tag_state, is_undefined}
use Rattle.ec_check_operands.specs.Operands.{with_one}
use Rattle.ec_check_expressions.specs.Known.{Known}
use Rattle.ec_check_declarations.specs.declared.structures.MemberDeclared as declared
use Rattle.ec_check_declarations.specs.Declarators.{typed_declarator, typed_sites}
use Rattle.ec_check_declarations.specs.ObjectTypes.{is_object_type}
use Rattle.ec_check_declarations.specs.Sites.{Site, on, is_told}

-- ---- members

-- a member's name, and its type, if it breaks no rule of types
pub record MemberDeclared : Type 0 where
  pub name : List ℕ
  pub ty : Option PlainType

abbrev pub plain_member_declared : declared.MemberDeclared → MemberDeclared
plain_member_declared m = record { name = m.name.items; ty = option_map plain_type m.ty }

-- one of the members has this name
abbrev pub is_member : List ℕ → List MemberDeclared → Bool
is_member n [] = false
is_member n (m ∷ ms) = bytes_eq m.name n || is_member n ms

-- 5 and 11, at the member's name
abbrev pub member_rules : (again : Bool) → (konst : Bool) → (function : Bool) → ℕ → List Judgement
member_rules again konst function at = rule 5 again at ∷ rule 11 (konst || function) at ∷ []

-- the members with that of one declarator more
abbrev pub with_member : Known → Specified → t.Declarator → List MemberDeclared → List MemberDeclared
with_member k s (t.declarator stars (t.identifier at n) shape) ms =
    ms ++ record { name = n; ty = (typed_declarator k s (t.declarator stars (t.identifier at n) shape) None).ty } ∷ []

abbrev pub member_sites : Known → Specified → t.Declarator → List MemberDeclared → List Site → List Site
member_sites k s (t.declarator stars (t.identifier at n) shape) ms rest =
    typed_sites k false s (t.declarator stars (t.identifier at n) shape) None
    (on (member_rules (is_member n ms)
    (typed_declarator k s (t.declarator stars (t.identifier at n) shape) None).konst (is_function shape) at.index)
    ∷ rest)

abbrev pub with_more_members : Known → Specified → List t.NextDeclarator → List MemberDeclared → List MemberDeclared
with_more_members k s [] ms = ms
with_more_members k s (t.next_declarator comma d ∷ ds) ms = with_more_members k s ds (with_member k s d ms)

abbrev pub more_member_sites : Known → Specified → List t.NextDeclarator → List MemberDeclared → List Site → List Site
more_member_sites k s [] ms rest = rest
more_member_sites k s (t.next_declarator comma d ∷ ds) ms rest =
    member_sites k s d ms (more_member_sites k s ds (with_member k s d ms) rest)

-- those of a declaration of members
abbrev pub with_declared : Known → t.Member → List MemberDeclared → List MemberDeclared
with_declared k (t.members ss first more semicolon) ms =
    with_more_members k (specified k.tags ss) more (with_member k (specified k.tags ss) first ms)

abbrev pub declared_sites : Known → t.Member → List MemberDeclared → List Site → List Site
declared_sites k (t.members ss first more semicolon) ms rest =
    on (specs_rules k.tags false ss [])
    ∷ member_sites k (specified k.tags ss) first ms
    (more_member_sites k (specified k.tags ss) more (with_member k (specified k.tags ss) first ms) rest)

abbrev pub with_all_declared : Known → List t.Member → List MemberDeclared → List MemberDeclared
with_all_declared k [] ms = ms
with_all_declared k (d ∷ ds) ms = with_all_declared k ds (with_declared k d ms)

abbrev pub all_declared_sites : Known → List t.Member → List MemberDeclared → List Site → List Site
all_declared_sites k [] ms rest = rest
all_declared_sites k (d ∷ ds) ms rest = declared_sites k d ms (all_declared_sites k ds (with_declared k d ms) rest)

-- ---- structs

-- the members so far, and more, if all types are known
abbrev pub known_from : List PlainMember → List MemberDeclared → Option (List PlainMember)
known_from ks [] = Some ks
known_from ks (m ∷ ms) = with_one m.ty (λ ty. known_from (ks ++ record { name = m.name; ty = ty } ∷ []) ms)

abbrev pub known_members : List MemberDeclared → Option (List PlainMember)
known_members ms = known_from [] ms

-- each has the type of an object, where there are n structs
abbrev pub are_objects : ℕ → List PlainMember → Bool
are_objects n [] = true
are_objects n (m ∷ ms) = is_object_type n m.ty && are_objects n ms

-- the bytes of all of them, if all have such types
abbrev pub size_together : List PlainStruct → List PlainMember → Option ℕ
size_together structs ms =
    if are_objects (length structs) ms then Some (members_layout (struct_layouts structs) ms).size else None

-- what is left of 32,768 bytes
abbrev pub left_by : Option ℕ → Option ℕ
left_by size = option_map (λ n. 32_768 - n) size

abbrev pub is_over : Option ℕ → Bool
is_over None = false
is_over (Some size) = nat_lt 32_767 size

abbrev pub is_within : Option ℕ → Bool
is_within None = false
is_within (Some size) = nat_le size 32_767

-- 9: the members have more bytes than an object may have
abbrev pub is_too_large_together : List PlainStruct → Option (List PlainMember) → Bool
is_too_large_together structs None = false
is_too_large_together structs (Some ms) = is_over (size_together structs ms)

-- a struct of these members may stand behind others: they name only these, are not too large together, and have numbers
-- of 16 bits, and the struct one of 32 bits
abbrev pub may_follow : List PlainStruct → List PlainMember → Bool
may_follow structs ms =
    is_within (size_together structs ms) && nat_le (length ms) 65_536 && nat_lt (length structs) 4_294_967_296

abbrev pub struct_of : List PlainStruct → List ℕ → Option (List PlainMember) → Option PlainStruct
struct_of structs tag members =
    with_one members (λ ms. if may_follow structs ms then Some (record { tag = tag; members = ms }) else None)

abbrev pub member_list_sites : Known → t.Member → List t.Member → List Site → List Site
member_list_sites k first more rest =
    declared_sites k first [] (all_declared_sites k more (with_declared k first []) rest)

-- the members, where none breaks a rule
abbrev pub members_of : Known → t.Member → List t.Member → Option (List PlainMember)
members_of k first more =
    if is_told (member_list_sites k first more []) then None
    else known_members (with_all_declared k more (with_declared k first []))

-- the struct that is defined, or None where a member breaks a rule, or where it is too large
abbrev pub struct_defined : Known → t.Structure → Option PlainStruct
struct_defined k (t.structure w (t.identifier at tag) l first more r semicolon) =
    struct_of k.structs tag (members_of k first more)

-- 10, at the tag; the rules of the members; 9, at the tag
abbrev pub structure_sites : Known → t.Structure → List Site → List Site
structure_sites k (t.structure w (t.identifier at tag) l first more r semicolon) rest =
    on (rule 10 (not (is_undefined (tag_state tag k.tags))) at.index ∷ [])
    ∷ member_list_sites k first more
    (on (rule 9 (is_too_large_together k.structs (members_of k first more)) at.index ∷ []) ∷ rest)

-- ---- the program's structs

-- the place of a struct in the program's list: that of an equal one, or else the next
abbrev pub place_of : Option ℕ → ℕ → ℕ
place_of None n = n
place_of (Some i) n = i

abbrev pub struct_number : Option PlainStruct → List PlainStruct → Option ℕ
struct_number None structs = None
struct_number (Some s) structs = Some (place_of (struct_place s structs) (length structs))

abbrev pub appended : Option ℕ → PlainStruct → List PlainStruct → List PlainStruct
appended None s structs = structs ++ s ∷ []
appended (Some i) s structs = structs

-- the structs with one more, which stands there once
abbrev pub with_struct : Option PlainStruct → List PlainStruct → List PlainStruct
with_struct None structs = structs
with_struct (Some s) structs = appended (struct_place s structs) s structs
