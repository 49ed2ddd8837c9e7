-- Members and sizes by the structs that are known are those by the structs of the program.
use Rattle.std.proofs.Common.{◌≡◌, ◌≤◌, ◌/◌, ℕ, Bool, true, false, ◌||◌, List, length, refl, subst, arith}
use Rattle.std.specs.Prelude.{◌==◌, Option, Some, None, option_map, option_and_then, position, slice_get}
use Rattle.std.specs.Str.{bytes_eq}
use Rattle.std.proofs.lemmas.Bool.{false≢true}
use Rattle.std.proofs.lemmas.Bool.Decides.{nat_tests}
use Rattle.ec_fx.specs.declared.formats.FxKind.{FxKind}
use Rattle.ec_fx.specs.declared.formats.FxKind.TheVariants.{ShortFract, Fract, LongFract, ShortAccum, Accum, LongAccum, UnsignedShortFract}
use Rattle.ec_fx.specs.declared.formats.FxKind.TheVariants.{UnsignedFract, UnsignedLongFract, UnsignedShortAccum, UnsignedAccum}
use Rattle.ec_fx.specs.declared.formats.FxKind.TheVariants.{UnsignedLongAccum}
use Rattle.ec_fx.specs.Formats.{format_of}
use Rattle.ec_iohw.specs.declared.table.IoTable.{IoTable}
use Rattle.ec_space.specs.declared.space.SpaceId.{SpaceId}
use Rattle.ec_space.specs.declared.space.SpaceId.TheVariants.{Flash, FarFlash, Data, Generic}
use Rattle.ec_space.specs.Spaces.{width}
use Rattle.ec_core.specs.Layout.{AreStructs, size_of_type}
use Rattle.ec_core.specs.Plain.{PlainType, void, integer, fixed, pointer, array, struct, PlainStruct, PlainProgram}
use Rattle.ec_core.specs.Typing.{type_of_member}
use Rattle.ec_check_forms.specs.Accesses.{base_of, member_number, reached, part_of, member_of}
use Rattle.ec_check_forms.specs.Calls.{size_value}
use Rattle.ec_check_operands.specs.declared.operands.Modes.{Modes}
use Rattle.ec_check_operands.specs.Operands.{Operand, value_type, with_one}
use Rattle.ec_check_forms.specs.Validity.{IsOptional, SizesAreValid}
use Rattle.ec_check_expressions.specs.Known.{is_sized}
use Rattle.ec_check_expressions.specs.TypeNames.{size_of_type_name}
use Rattle.ec_check_expression_laws.proofs.SaidTypes.{if_both}

-- ---- members

module _ (p : PlainProgram) (io : IoTable) (f : ℕ) (m : Modes) (structs : List PlainStruct)
    (known : (i : ℕ) (s : PlainStruct) → slice_get structs i ≡ Some s → slice_get p.structs i ≡ Some s)
    (name : List ℕ) (arrow : Bool) (x : Operand) where
  -- the member by the structs, where it stands in a struct with this number
  abbrev In : List PlainStruct → ℕ → Option Operand
  In ss i =
      with_one (member_number ss name i) (λ k.
      with_one (type_of_member ss (struct i) k) (λ part. with_one (reached m arrow x) (part_of part k)))

  module _ (i : ℕ) where
    -- in a struct
    abbrev Of : Option PlainStruct → Option Operand
    Of o =
        with_one (with_one o (λ s. position (λ d. bytes_eq d.name name) s.members)) (λ k.
        with_one (option_and_then (λ s. option_map (λ d. d.ty) (slice_get s.members k)) o)
        (λ part. with_one (reached m arrow x) (part_of part k)))

    member_kept_in : (o : Option PlainStruct) → slice_get structs i ≡ o → IsOptional p io f (In p.structs i) → IsOptional p io f (Of o)
    member_kept_in None e h = tt
    member_kept_in (Some s) e h = subst (λ (z : Option PlainStruct). IsOptional p io f (Of z)) (known i s e) h

  member_kept_at : (base : Option ℕ) → IsOptional p io f (with_one base (In p.structs)) → IsOptional p io f (with_one base (In structs))
  member_kept_at None h = tt
  member_kept_at (Some i) h = member_kept_in i (slice_get structs i) refl h

  pub member_kept : IsOptional p io f (member_of m p.structs name arrow x) → IsOptional p io f (member_of m structs name arrow x)
  member_kept h = member_kept_at (base_of arrow (value_type x)) h

pub members_kept : (p : PlainProgram) (io : IoTable) (f : ℕ) (m : Modes) (structs : List PlainStruct)
    → ((i : ℕ) (s : PlainStruct) → slice_get structs i ≡ Some s → slice_get p.structs i ≡ Some s)
    → (name : List ℕ) (arrow : Bool) (x : Option Operand) → IsOptional p io f (with_one x (member_of m p.structs name arrow))
    → IsOptional p io f (with_one x (member_of m structs name arrow))
members_kept p io f m structs known name arrow None h = tt
members_kept p io f m structs known name arrow (Some x) h = member_kept p io f m structs known name arrow x h

-- ---- sizes

few_bits : (kind : FxKind) → (format_of kind).bits / 8 ≤ 65_535
few_bits ShortFract = omega arith
few_bits Fract = omega arith
few_bits LongFract = omega arith
few_bits ShortAccum = omega arith
few_bits Accum = omega arith
few_bits LongAccum = omega arith
few_bits UnsignedShortFract = omega arith
few_bits UnsignedFract = omega arith
few_bits UnsignedLongFract = omega arith
few_bits UnsignedShortAccum = omega arith
few_bits UnsignedAccum = omega arith
few_bits UnsignedLongAccum = omega arith

few_bytes : (b : ℕ) (p q r : Bool) → (b == 1) ≡ p → (b == 2) ≡ q → (b == 4) ≡ r → (p || q || r) ≡ true → b ≤ 65_535
few_bytes b true q r e f g h = grind (arith, nat_tests, e)
few_bytes b false true r e f g h = grind (arith, nat_tests, f)
few_bytes b false false true e f g h = grind (arith, nat_tests, g)
few_bytes b false false false e f g h = absurd (false≢true h)

narrow : (s : SpaceId) → width s ≤ 65_535
narrow Flash = omega arith
narrow FarFlash = omega arith
narrow Data = omega arith
narrow Generic = omega arith

small_struct : (n : ℕ) → n ≤ 32_767 → n ≤ 65_535
small_struct n h = omega arith

small_size : (structs : List PlainStruct) (n : ℕ) (ty : PlainType) → AreStructs structs → is_sized n ty ≡ true
    → size_of_type structs ty ≤ 65_535
small_size structs n void h e = absurd (false≢true e)
small_size structs n (integer signed bytes) h e = few_bytes bytes (bytes == 1) (bytes == 2) (bytes == 4) refl refl refl e
small_size structs n (fixed kind sat) h e = few_bits kind
small_size structs n (pointer s k t) h e = narrow s
small_size structs n (array of len) h e = absurd (false≢true e)
small_size structs n (struct i) h e = small_struct (size_of_type structs (struct i)) (h.small i)

-- the value of `sizeof` is that of a number, whatever structs the program has
module _ (sizes : SizesAreValid) (p : PlainProgram) (io : IoTable) (f : ℕ) (m : Modes) (structs : List PlainStruct)
    (small : AreStructs structs) where
  size_valid : (ty : PlainType) → size_of_type structs ty ≤ 65_535 → IsOptional p io f (Some (size_value m structs ty))
  size_valid ty h =
      let v = sizes (record p { structs = structs }) io f m ty h in
      record { valid = v.valid; usable = v.usable; null = v.null }

  pub sizes_valid : (o : Option PlainType) → IsOptional p io f (size_of_type_name m structs o)
  sizes_valid None = tt
  sizes_valid (Some ty) =
      if_both (IsOptional p io f) (is_sized (length structs) ty) (Some (size_value m structs ty)) None
      (λ e. size_valid ty (small_size structs (length structs) ty small e)) (λ e. tt)
