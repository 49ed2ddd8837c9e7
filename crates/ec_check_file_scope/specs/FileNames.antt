-- Declarations at file scope, of all units (ISO/IEC 9899:1999, 6.2.2 and 6.2.7; named registers: ISO/IEC TR 18037:2008,
-- 5.2.2), and how two of them conflict.
use Rattle.std.specs.Prelude.{ℕ, ◌+◌, ◌==◌, Bool, true, false, not, ◌&&◌, ◌||◌, if◌then◌else◌, Option, Some, None}
use Rattle.std.specs.Prelude.{option_map}
use Rattle.std.specs.Prelude.{List, [], ◌∷◌, map, length, slice_get}
use Rattle.std.specs.Str.{bytes_eq}
use Rattle.ec_space.specs.declared.space.SpaceId.{SpaceId}
use Rattle.ec_space.specs.declared.space.SpaceId.TheVariants.{Flash, FarFlash, Data, Generic}
use Rattle.ec_core.specs.Operators.{same_type}
use Rattle.ec_core.specs.Plain.{PlainType, plain_type}
use Rattle.ec_check_names.specs.declared.linkage.Linkage.{Linkage}
use Rattle.ec_check_names.specs.declared.linkage.Linkage.TheVariants.{External}
use Rattle.ec_check_names.specs.Definitions.{same_linkage}
use Rattle.ec_check_file_scope.specs.declared.file_names.FileKind as file_kind
use Rattle.ec_check_file_scope.specs.declared.file_names.FileKind.TheVariants as kinds
use Rattle.ec_check_file_scope.specs.declared.file_names.FileName as file_name

-- an object, an object in a named register, or a function with so many parameters; a type is None where its
-- declaration breaks a rule, and the types of parameters are where that of one does
pub data FileKind : Type 0 where
  an_object : Option PlainType → (konst : Bool) → SpaceId → FileKind
  a_register : (first : Option ℕ) → Option PlainType → (konst : Bool) → FileKind
  a_function : (returns : Option PlainType) → (count : ℕ) → (params : Option (List PlainType)) → FileKind

pub record FileName : Type 0 where
  pub name : List ℕ
  pub unit : ℕ
  pub linkage : Linkage
  pub defines : Bool
  pub kind : FileKind

abbrev pub plain_kind : file_kind.FileKind → FileKind
plain_kind (kinds.Object ty konst space) = an_object (option_map plain_type ty) konst space
plain_kind (kinds.Register first ty konst) = a_register first (option_map plain_type ty) konst
plain_kind (kinds.Function returns count params) =
    a_function (option_map plain_type returns) count (option_map (λ ts. map plain_type ts.items) params)

abbrev pub plain_file_name : file_name.FileName → FileName
plain_file_name d =
    record { name = d.name.items; unit = d.unit; linkage = d.linkage; defines = d.defines; kind = plain_kind d.kind }

-- ---- differences

-- two types, where both are known
abbrev pub differ : Option PlainType → Option PlainType → Bool
differ None b = false
differ (Some a) None = false
differ (Some a) (Some b) = not (same_type a b)

abbrev pub same_space : SpaceId → SpaceId → Bool
same_space Flash Flash = true
same_space FarFlash FarFlash = true
same_space Data Data = true
same_space Generic Generic = true
same_space a b = false

abbrev pub same_bool : Bool → Bool → Bool
same_bool true b = b
same_bool false b = not b

-- two registers, where both are known
abbrev pub other_register : Option ℕ → Option ℕ → Bool
other_register None b = false
other_register (Some a) None = false
other_register (Some a) (Some b) = not (a == b)

-- a type is the other one, if there is one
abbrev pub same_at : PlainType → Option PlainType → Bool
same_at a None = false
same_at a (Some b) = same_type a b

-- types from a place on are those with the same places in another list
abbrev pub same_from : (place : ℕ) → List PlainType → List PlainType → Bool
same_from i [] bs = true
same_from i (a ∷ more) bs = same_at a (slice_get bs i) && same_from (i + 1) more bs

abbrev pub same_types : List PlainType → List PlainType → Bool
same_types xs ys = (length xs == length ys) && same_from 0 xs ys

-- the types of all parameters, where both are known
abbrev pub other_types : Option (List PlainType) → Option (List PlainType) → Bool
other_types None q = false
other_types (Some p) None = false
other_types (Some p) (Some q) = not (same_types p q)

-- functions with m and n parameters differ where these are two numbers, also where a parameter of one breaks a rule; and
-- where the types of the parameters do
abbrev pub other_params : (m : ℕ) → Option (List PlainType) → (n : ℕ) → Option (List PlainType) → Bool
other_params m p n q = not (m == n) || other_types p q

-- another kind, type, space or register
abbrev pub other_kind : FileKind → FileKind → Bool
other_kind (an_object a c s) (an_object b d r) = differ a b || not (same_bool c d) || not (same_space s r)
other_kind (an_object a c s) (a_register q b d) = true
other_kind (an_object a c s) (a_function b n q) = true
other_kind (a_register p a c) (an_object b d r) = true
other_kind (a_register p a c) (a_register q b d) = differ a b || not (same_bool c d) || other_register p q
other_kind (a_register p a c) (a_function b n q) = true
other_kind (a_function a m p) (an_object b d r) = true
other_kind (a_function a m p) (a_register q b d) = true
other_kind (a_function a m p) (a_function b n q) = differ a b || other_params m p n q

abbrev pub is_register : FileKind → Bool
is_register (an_object a c s) = false
is_register (a_register p a c) = true
is_register (a_function a n p) = false

-- ---- 6

-- two names are one name: in one unit, or external in two
abbrev pub is_external : Linkage → Bool
is_external l = same_linkage l External

abbrev pub meet : FileName → FileName → Bool
meet a b = bytes_eq a.name b.name && (a.unit == b.unit || is_external a.linkage && is_external b.linkage)

-- both are definitions, but not of a register that two units declare
abbrev pub both_define : FileName → FileName → Bool
both_define a b =
    a.defines && b.defines && not (is_register a.kind && is_register b.kind && not (a.unit == b.unit))

abbrev pub conflict : FileName → FileName → Bool
conflict a b =
    meet a b
    && (other_kind a.kind b.kind || a.unit == b.unit && not (same_linkage a.linkage b.linkage) || both_define a b)

-- a declaration conflicts with one before it
abbrev pub conflicts : FileName → List FileName → Bool
conflicts d [] = false
conflicts d (e ∷ es) = conflict d e || conflicts d es

-- the linkage of the last declaration of a name in a unit
abbrev pub link_from : Option Linkage → List ℕ → (unit : ℕ) → List FileName → Option Linkage
link_from found n unit [] = found
link_from found n unit (d ∷ ds) =
    link_from (if bytes_eq d.name n && d.unit == unit then Some d.linkage else found) n unit ds

abbrev pub earlier_link : List ℕ → (unit : ℕ) → List FileName → Option Linkage
earlier_link n unit ds = link_from None n unit ds

-- a name is that of an object in a named register
abbrev pub is_registered : List ℕ → List FileName → Bool
is_registered n [] = false
is_registered n (d ∷ ds) = is_register d.kind && bytes_eq d.name n || is_registered n ds
