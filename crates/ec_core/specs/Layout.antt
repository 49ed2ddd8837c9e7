-- How a type lies in memory: its scalar leaves with their byte offsets, members and elements in order, without padding
-- (ISO/IEC 9899:1999, 6.2.5 and 6.7.2.1, leaves padding to the implementation; this project has none).
use Rattle.std.specs.Prelude.{ℕ, zero, suc, ◌+◌, ◌/◌, ◌<◌, ◌≤◌, ◌≡◌, ◌⊎◌, ◌==◌, if◌then◌else◌, ⊤, List, [], ◌∷◌, ◌++◌}
use Rattle.std.specs.List.{AllByRecursion}
use Rattle.ec_fx.specs.Formats.{format_of}
use Rattle.ec_space.specs.Spaces.{width}
use Rattle.ec_core.specs.declared.layout.Leaf.{Leaf}
use Rattle.ec_core.specs.Plain.{PlainType, void, integer, fixed, pointer, array, struct, plain_type, PlainMember}
use Rattle.ec_core.specs.Plain.{PlainStruct}

-- ---- layouts

-- a scalar at a byte offset
pub record PlainLeaf : Type 0 where
  pub ty : PlainType
  pub at : ℕ

abbrev pub plain_leaf : Leaf → PlainLeaf
plain_leaf leaf = record { ty = plain_type leaf.ty; at = leaf.at }

-- how many bytes something takes, and the leaves of it where it stands at an offset
pub record Layout : Type 0 where
  pub size : ℕ
  pub leaves_at : ℕ → List PlainLeaf

abbrev pub empty_layout : Layout
empty_layout = record { size = 0; leaves_at = λ at. [] }

-- two things, the second right behind the first
abbrev pub followed_by : Layout → Layout → Layout
followed_by a b = record { size = a.size + b.size; leaves_at = λ at. a.leaves_at at ++ b.leaves_at (at + a.size) }

-- so many of them in a row
abbrev pub repeated : ℕ → Layout → Layout
repeated zero a = empty_layout
repeated (suc n) a = followed_by (repeated n a) a

-- ---- of types

-- the bytes of a scalar type
abbrev pub scalar_size : PlainType → ℕ
scalar_size void = 0
scalar_size (integer signed bytes) = bytes
scalar_size (fixed kind saturates) = (format_of kind).bits / 8
scalar_size (pointer space const to) = width space
scalar_size (array of len) = 0
scalar_size (struct index) = 0

abbrev pub scalar_layout : PlainType → Layout
scalar_layout ty = record { size = scalar_size ty; leaves_at = λ at. record { ty = ty; at = at } ∷ [] }

-- the layout of a type, given that of each struct
abbrev pub type_layout : (ℕ → Layout) → PlainType → Layout
type_layout structs void = empty_layout
type_layout structs (integer signed bytes) = scalar_layout (integer signed bytes)
type_layout structs (fixed kind saturates) = scalar_layout (fixed kind saturates)
type_layout structs (pointer space const to) = scalar_layout (pointer space const to)
type_layout structs (array of len) = repeated len (type_layout structs of)
type_layout structs (struct index) = structs index

abbrev pub members_layout : (ℕ → Layout) → List PlainMember → Layout
members_layout structs [] = empty_layout
members_layout structs (m ∷ ms) = followed_by (type_layout structs m.ty) (members_layout structs ms)

-- the layouts of all structs, where those below n are given, and the definitions from number n on follow
abbrev pub layouts_from : (ℕ → Layout) → ℕ → List PlainStruct → ℕ → Layout
layouts_from earlier n [] = earlier
layouts_from earlier n (s ∷ ss) =
    layouts_from (λ i. if i == n then members_layout earlier s.members else earlier i) (n + 1) ss

abbrev pub struct_layouts : List PlainStruct → ℕ → Layout
struct_layouts structs = layouts_from (λ i. empty_layout) 0 structs

-- the size of a type and its leaves, given the struct definitions
abbrev pub size_of_type : List PlainStruct → PlainType → ℕ
size_of_type structs ty = (type_layout (struct_layouts structs) ty).size

abbrev pub leaves_of_type : List PlainStruct → PlainType → List PlainLeaf
leaves_of_type structs ty = (type_layout (struct_layouts structs) ty).leaves_at 0

-- ---- the types that have a layout

-- the type names only structs below n, behind pointers too
abbrev pub NamesBelow : ℕ → PlainType → Type 0
NamesBelow n void = ⊤
NamesBelow n (integer signed bytes) = ⊤
NamesBelow n (fixed kind saturates) = ⊤
NamesBelow n (pointer space const to) = NamesBelow n to
NamesBelow n (array of len) = NamesBelow n of
NamesBelow n (struct index) = index < n

-- the integer types have 1, 2 or 4 bytes
abbrev pub IsIntegerSize : ℕ → Type 0
IsIntegerSize bytes = (bytes ≡ 1) ⊎ ((bytes ≡ 2) ⊎ (bytes ≡ 4))

abbrev pub IsScalar : PlainType → Type 0
IsScalar void = ⊥
IsScalar (integer signed bytes) = IsIntegerSize bytes
IsScalar (fixed kind saturates) = ⊤
IsScalar (pointer space const to) = ⊤
IsScalar (array of len) = ⊥
IsScalar (struct index) = ⊥

-- a scalar or a struct
abbrev pub IsElement : PlainType → Type 0
IsElement void = ⊥
IsElement (integer signed bytes) = IsIntegerSize bytes
IsElement (fixed kind saturates) = ⊤
IsElement (pointer space const to) = ⊤
IsElement (array of len) = ⊥
IsElement (struct index) = ⊤

-- a scalar, a struct, or an array of at most 32,767 scalars or structs
abbrev pub IsObjectForm : PlainType → Type 0
IsObjectForm void = ⊥
IsObjectForm (integer signed bytes) = IsIntegerSize bytes
IsObjectForm (fixed kind saturates) = ⊤
IsObjectForm (pointer space const to) = ⊤
IsObjectForm (array of len) = IsElement of × (len ≤ 32_767)
IsObjectForm (struct index) = ⊤

-- the type of an object, where the structs below n can be named
pub record IsObjectType (n : ℕ) (ty : PlainType) : Type 0 where
  pub names : NamesBelow n ty
  pub form : IsObjectForm ty

-- the members of each struct, the first of which has number n, name only earlier structs
abbrev pub NameEarlier : ℕ → List PlainStruct → Type 0
NameEarlier n [] = ⊤
NameEarlier n (s ∷ ss) = AllByRecursion (λ m. IsObjectType n m.ty) s.members × NameEarlier (n + 1) ss

-- struct definitions of a program: members name only earlier structs, and each struct has at most 32,767 bytes
pub record AreStructs (structs : List PlainStruct) : Type 0 where
  pub earlier : NameEarlier 0 structs
  pub small : (i : ℕ) → (struct_layouts structs i).size ≤ 32_767
