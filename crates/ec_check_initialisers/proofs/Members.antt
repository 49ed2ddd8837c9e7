-- Members of structs, and places of them.
use Rattle.std.proofs.Common.{◌≡◌, ◌∙◌, ℕ, zero, suc, sym, ap, subst, Option, Some, List, [], ◌∷◌, length, map, take, option_map, slice_get}
use Rattle.std.specs.List.{AllByRecursion}
use Rattle.std.proofs.lemmas.List.{take-map}
use Rattle.std.proofs.Math.ListN.{length-map}
use Rattle.std.proofs.lemmas.Option.{slice_get-map}
use Rattle.ec_core.specs.declared.types.Member.{Member}
use Rattle.ec_core.specs.declared.types.StructDef.{StructDef}
use Rattle.ec_core.specs.Layout.{members_layout, struct_layouts, IsObjectType, AreStructs}
use Rattle.ec_core.specs.Plain.{plain_type, plain_member, PlainMember, plain_struct, PlainStruct}
use Rattle.ec_core.specs.TypeLaws.{StructsAreLaidOut}
use Rattle.ec_check_initialisers.specs.declared.places.StaticAddress.{StaticAddress}
use Rattle.ec_check_forms.specs.Accesses.{struct_of}
use Rattle.ec_check_operands.specs.Operands.{with_one}
use Rattle.ec_check_initialisers.specs.Places.{StaticPlace, moved, member_at, member_in, member_of}
use Rattle.ec_check_initialisers.proofs.PartTypes.{each_at}

all_taken : {X : Type 0} (P : X → Type 0) (n : ℕ) (xs : List X) → AllByRecursion P xs → AllByRecursion P (take n xs)
all_taken P zero xs h = tt
all_taken P (suc n) [] h = tt
all_taken P (suc n) (x ∷ xs) h = (h.0, all_taken P n xs h.1)

-- what holds of all members holds of the first ones
pub first_known : (P : PlainMember → Type 0) (n : ℕ) (ms first : List Member) → first ≡ take n ms → AllByRecursion P (map plain_member ms)
    → AllByRecursion P (map plain_member first)
first_known P n ms first e h =
    subst (AllByRecursion P) (take-map plain_member n ms ∙ ap (map plain_member) (sym e)) (all_taken P n (map plain_member ms) h)

member_found : (ms : List Member) (i : ℕ) (m : Member) → Some m ≡ slice_get ms i → slice_get (map plain_member ms) i ≡ Some (plain_member m)
member_found ms i m e = slice_get-map plain_member ms i ∙ ap (option_map plain_member) (sym e)

pub member_known : (n : ℕ) (ms : List Member) (i : ℕ) (m : Member) → Some m ≡ slice_get ms i
    → AllByRecursion (λ m. IsObjectType n m.ty) (map plain_member ms)
    → IsObjectType n (plain_type m.ty)
member_known n ms i m e h = each_at (λ m. IsObjectType n m.ty) (map plain_member ms) i (plain_member m) h (member_found ms i m e)

pub member_is : (structs : List PlainStruct) (s : StaticPlace) (d : StructDef) (i : ℕ) (m : Member) (first : List Member)
    (address : Option StaticAddress)
    → Some m ≡ slice_get d.members.items i → first ≡ take i d.members.items
    → address ≡ moved s.size s.address (members_layout (struct_layouts structs) (map plain_member first)).size
    → Some (record { address = address; size = s.size; ty = plain_type m.ty }) ≡ member_at structs s (plain_struct d) i
member_is structs s d i m first address e f g =
    let layout = members_layout (struct_layouts structs) in
    let same : address ≡ moved s.size s.address (layout (take i (map plain_member d.members.items))).size =
    g ∙ ap (λ ms. moved s.size s.address (layout ms).size) (ap (map plain_member) f ∙ sym (take-map plain_member i d.members.items)) in
    ap (λ a. Some (record { address = a; size = s.size; ty = plain_type m.ty })) same
    ∙ sym
    (ap (option_map (λ m. record {
      address = moved s.size s.address (layout (take i (map plain_member d.members.items))).size;
      size = s.size;
      ty = m.ty;
    }))
    (member_found d.members.items i m e))

struct_found : (structs : List StructDef) (i : ℕ) (d : Option StructDef) → d ≡ slice_get structs i
    → slice_get (map plain_struct structs) i ≡ option_map plain_struct d
struct_found structs i d e = slice_get-map plain_struct structs i ∙ ap (option_map plain_struct) (sym e)

-- a member of the struct that stands at the type's number
pub member_by : (structs : List StructDef) (name : List ℕ) (s : StaticPlace) (i : ℕ) (d : Option StructDef) → Some i ≡ struct_of s.ty
    → d ≡ slice_get structs i
    → with_one (option_map plain_struct d) (member_in (map plain_struct structs) s name) ≡ member_of (map plain_struct structs) name s
member_by structs name s i d e f =
    ap (λ o. with_one o (member_in (map plain_struct structs) s name)) (sym (struct_found structs i d f))
    ∙ ap (λ o. with_one o (λ i. with_one (slice_get (map plain_struct structs) i) (member_in (map plain_struct structs) s name))) e

pub members_known : StructsAreLaidOut → (structs : List StructDef) (i : ℕ) (d : StructDef) → AreStructs (map plain_struct structs)
    → Some d ≡ slice_get structs i
    → AllByRecursion (λ m. IsObjectType (length structs) m.ty) (map plain_member d.members.items)
members_known law structs i d h e =
    subst (λ (n : ℕ). AllByRecursion (λ m. IsObjectType n m.ty) (map plain_member d.members.items)) (length-map structs plain_struct)
    (law.each (map plain_struct structs) i (plain_struct d) h (struct_found structs i (Some d) e)).known
