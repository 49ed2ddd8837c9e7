-- Members, structs and objects in named registers, and the constraints on them, in words (ISO/IEC 9899:1999, 6.7.2.1 and
-- 6.7.2.3; ISO/IEC TR 18037:2008, 5.2.2).
use Rattle.std.specs.Prelude.{ℕ, ◌+◌, ◌<◌, ◌≤◌, ◌≡◌, ◌≢◌, ◌⊎◌, ⊤, false, None, List, [], ◌∷◌, ◌++◌, length}
use Rattle.ec_grammar.specs.declared.Spot.{Spot}
use Rattle.ec_grammar.specs.Trees as t
use Rattle.ec_core.specs.Layout.{members_layout, size_of_type, struct_layouts}
use Rattle.ec_core.specs.Plain.{PlainType, PlainMember, PlainStruct}
use Rattle.ec_check_operands.specs.declared.faults.Fault.{Fault}
use Rattle.ec_check_forms.specs.Constraints.{IsArithmetic}
use Rattle.ec_check_names.specs.Tables.{at_name}
use Rattle.ec_check_expressions.specs.Known.{Known}
use Rattle.ec_check_parts.specs.Declared.{IsObject, DeclareType, NamesRegister}
use Rattle.ec_check_parts.specs.Words.{words_among, own_words, IsConstWord, HasOne}
use Rattle.ec_check_parts.specs.Specifiers.{BreakSpecifiers}
use Rattle.ec_check_parts.specs.Heads.{Role, member, register_object, result, BreakHead}
use Rattle.ec_check_parts.specs.Sizes.{BreakShape}
use Rattle.ec_check_parts.specs.Types.{SayType, MeanType}

-- ---- declarators

-- the role of what a declarator declares: a function's is that of its result
abbrev pub role_of : Role → t.Shape → Role
role_of role t.object = role
role_of role (t.array l size r) = role
role_of role (t.function_shape l ps r) = result

abbrev pub IsFunction : t.Shape → Type 0
IsFunction (t.function_shape l ps r) = ⊤
IsFunction shape = ⊥

-- what is declared is const itself
abbrev pub SayConst : t.Specs → List t.Star → Type 0
SayConst ss stars = HasOne IsConstWord (own_words (words_among ss) stars)

-- one of some names is this
abbrev pub IsAmong : List ℕ → List (List ℕ) → Type 0
IsAmong n [] = ⊥
IsAmong n (m ∷ ms) = (m ≡ n) ⊎ IsAmong n ms

-- ---- members

-- the declarator of a member, with its name at a token, behind those of these names
pub data BreakMember (k : Known) (before : List (List ℕ)) (ss : t.Specs) (stars : List t.Star) (at : ℕ) (n : List ℕ)
    (shape : t.Shape) (f : Fault) : Type 0 where
  -- the size in its `[ ]`
  member_sized : BreakShape k shape None f → BreakMember k before ss stars at n shape f
  member_headed : BreakHead k.tags (role_of member shape) ss stars f → BreakMember k before ss stars at n shape f
  member_again : f.rule ≡ 5 → f.at ≡ at → IsAmong n before → BreakMember k before ss stars at n shape f
  const_member : f.rule ≡ 11 → f.at ≡ at → SayConst ss stars → BreakMember k before ss stars at n shape f
  function_member : f.rule ≡ 11 → f.at ≡ at → IsFunction shape → BreakMember k before ss stars at n shape f

abbrev pub declarators_behind : List t.NextDeclarator → List t.Declarator
declarators_behind [] = []
declarators_behind (t.next_declarator comma d ∷ ds) = d ∷ declarators_behind ds

-- declarators of one declaration, and the names behind them
abbrev pub BreakDeclarators : Known → (before : List (List ℕ)) → t.Specs → List t.Declarator → Fault → Type 0
BreakDeclarators k before ss [] f = ⊥
BreakDeclarators k before ss (t.declarator stars (t.identifier at n) shape ∷ ds) f =
    BreakMember k before ss stars at.index n shape f ⊎ BreakDeclarators k (n ∷ before) ss ds f

abbrev pub names_behind : (before : List (List ℕ)) → List t.Declarator → List (List ℕ)
names_behind before [] = before
names_behind before (t.declarator stars (t.identifier at n) shape ∷ ds) = names_behind (n ∷ before) ds

-- declarations of members
abbrev pub BreakMembers : Known → (before : List (List ℕ)) → List t.Member → Fault → Type 0
BreakMembers k before [] f = ⊥
BreakMembers k before (t.members ss first more e ∷ ds) f =
    BreakSpecifiers k.tags false ss f
    ⊎ (BreakDeclarators k before ss (first ∷ declarators_behind more) f
    ⊎ BreakMembers k (names_behind before (first ∷ declarators_behind more)) ds f)

-- ---- structs

-- the members that declarators of one declaration declare, in order
pub data AreMembers (k : Known) (ss : t.Specs) : List t.Declarator → List PlainMember → Type 0 where
  no_member : AreMembers k ss [] []
  more_members : {stars : List t.Star} {at : Spot} {n : List ℕ} {shape : t.Shape} {ty : PlainType} {ds : List t.Declarator}
      {ms : List PlainMember} → DeclareType k ss stars shape None ty → AreMembers k ss ds ms
      → AreMembers k ss (t.declarator stars (t.identifier at n) shape ∷ ds) (record { name = n; ty = ty } ∷ ms)

-- and declarations of members
pub data AreAllMembers (k : Known) : List t.Member → List PlainMember → Type 0 where
  none_declared : AreAllMembers k [] []
  more_declared : {ss : t.Specs} {first : t.Declarator} {more : List t.NextDeclarator} {e : Spot} {ds : List t.Member}
      {ms ns : List PlainMember} → AreMembers k ss (first ∷ declarators_behind more) ms → AreAllMembers k ds ns
      → AreAllMembers k (t.members ss first more e ∷ ds) (ms ++ ns)

-- the members of a struct, none of which breaks a constraint, and the bytes of all of them
pub record HasMembers (k : Known) (first : t.Member) (more : List t.Member) (ms : List PlainMember) (bytes : ℕ) : Type 0 where
  pub unbroken : (f : Fault) → ¬ BreakMembers k [] (first ∷ more) f
  pub members : AreAllMembers k (first ∷ more) ms
  pub sized : bytes ≡ (members_layout (struct_layouts k.structs) ms).size

-- a definition declares a struct of at most 32,767 bytes and 65,536 members, for which a number of 32 bits is left (6.7.2.1)
pub data DeclareStruct (k : Known) : t.Structure → PlainStruct → Type 0 where
  a_struct : {w l r semicolon at : Spot} {tag : List ℕ} {first : t.Member} {more : List t.Member} {ms : List PlainMember} {bytes : ℕ}
      → HasMembers k first more ms bytes → bytes ≤ 32_767 → length ms ≤ 65_536 → length k.structs < 4_294_967_296
      → DeclareStruct k (t.structure w (t.identifier at tag) l first more r semicolon) (record { tag = tag; members = ms })

-- the definition of a struct, with its tag at a token
pub data BreakStructure (k : Known) (at : ℕ) (tag : List ℕ) (first : t.Member) (more : List t.Member) (f : Fault) : Type 0 where
  -- a definition of the tag has ended before
  defined_again : f.rule ≡ 10 → f.at ≡ at → at_name tag k.tags ≢ None → BreakStructure k at tag first more f
  in_members : BreakMembers k [] (first ∷ more) f → BreakStructure k at tag first more f
  -- its members, none of which breaks a constraint, have more bytes than an object may have
  too_large : f.rule ≡ 9 → f.at ≡ at → (ms : List PlainMember) (bytes : ℕ) → HasMembers k first more ms bytes → 32_767 < bytes
      → BreakStructure k at tag first more f

-- ---- named registers

-- the declaration of an object in a named register, which is named at a token
pub data BreakRegister (k : Known) (at : ℕ) (register : List ℕ) (ss : t.Specs) (f : Fault) : Type 0 where
  register_specified : BreakSpecifiers k.tags false ss f → BreakRegister k at register ss f
  register_headed : BreakHead k.tags register_object ss [] f → BreakRegister k at register ss f
  no_register : f.rule ≡ 12 → f.at ≡ at → ((first : ℕ) → ¬ NamesRegister register first) → BreakRegister k at register ss f
  -- its type is neither an integer's nor a fixed-point one
  no_number : f.rule ≡ 12 → f.at ≡ at → (ty : PlainType) → SayType k.tags ss [] ty → ¬ IsArithmetic ty
      → BreakRegister k at register ss f
  -- it has bytes behind the last register
  passes_last_register : f.rule ≡ 12 → f.at ≡ at → (first : ℕ) → NamesRegister register first → (ty : PlainType)
      → MeanType k.tags ss [] ty → IsObject (length k.structs) ty → 8 < first + size_of_type k.structs ty
      → BreakRegister k at register ss f
