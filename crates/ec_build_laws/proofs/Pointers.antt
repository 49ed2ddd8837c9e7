-- Pointers as initial values.
use Rattle.std.proofs.Common.{◌≡◌, inl, inr, ℕ, ◌+◌, ◌%◌, ◌^◌, ◌≤◌, pos, Option, Some, refl, sym, ap, ◌∙◌, subst}
use Rattle.std.proofs.Common.{arith}
use Rattle.std.specs.Prelude.{IsTrue, slice_get}
use native.Mathlib.Nat.{zero-mod}
use Rattle.ec_space.specs.declared.space.Bank.{Bank}
use Rattle.ec_space.specs.declared.space.Bank.TheVariants.{Flash as FlashBank, Data as DataBank}
use Rattle.ec_space.specs.declared.space.Place.{Place}
use Rattle.ec_space.specs.declared.space.SpaceId.{SpaceId}
use Rattle.ec_space.specs.declared.space.SpaceId.TheVariants.{Flash, FarFlash, Data, Generic}
use Rattle.ec_space.specs.Spaces.{bank_of, holds, reaches, width}
use Rattle.ec_asm.specs.Pieces.{value}
use Rattle.ec_core.specs.Layout.{size_of_type}
use Rattle.ec_core.specs.Meaning.{initial_value}
use Rattle.ec_core.specs.Plain.{PlainStorage, static, local, param, register, PlainObject, PlainProgram}
use Rattle.ec_core.specs.Valid.{IsStatic, IsAddressable}
use Rattle.ec_core.specs.declared.programs.LeafInit.{LeafInit}
use Rattle.ec_core.specs.declared.programs.LeafInit.TheVariants.{Number, Null, Address}
use Rattle.ec_core.proofs.Homes.{home_reached}
use Rattle.ec_ir.specs.Temporaries.{low_bytes}
use Rattle.ec_locate.specs.Image.{pointer_to}
use Rattle.ec_select_operations.specs.Pointers.{home_of, address_number, IsPointerSize}
use Rattle.ec_select_functions.specs.Relation.{number_told, HoldsLeaf}
use Rattle.ec_build_laws.proofs.Numbers.{AreBytesOf, of_pointer}

-- ---- numbers

width_is : (space : SpaceId) → IsPointerSize (width space)
width_is Flash = inl refl
width_is Data = inl refl
width_is FarFlash = inr refl
width_is Generic = inr refl

-- the number in the bytes of an initial value is the one of code
number_by_bank : (space : SpaceId) (bank : Bank) (p : PlainProgram) (place : ℕ → ℕ) (o offset at : ℕ) → IsTrue (reaches space bank)
    → home_of p o ≡ bank
    → place o ≡ at → at + offset ≤ 131072
    → pointer_to space (Some (record { bank = bank; offset = at })) offset % 256 ^ width space
    ≡ address_number p place (width space) o offset
number_by_bank Flash FlashBank p place o offset at in_space home there low = rw there (let n = at + offset in omega arith)
number_by_bank Data DataBank p place o offset at in_space home there low = rw there (let n = at + offset in omega arith)
number_by_bank FarFlash FlashBank p place o offset at in_space home there low =
    rw (home, there) (let n = at + offset in omega (arith, low))
number_by_bank Generic FlashBank p place o offset at in_space home there low =
    rw (home, there) (let n = at + offset in omega (arith, low))
number_by_bank Generic DataBank p place o offset at in_space home there low =
    rw (home, there) (let n = at + offset in omega (arith, low))
number_by_bank Flash DataBank p place o offset at in_space home there low = absurd cc
number_by_bank FarFlash DataBank p place o offset at in_space home there low = absurd cc
number_by_bank Data FlashBank p place o offset at in_space home there low = absurd cc

addressable : (s : PlainStorage) → IsStatic s → IsAddressable s
addressable (static inits) h = tt
addressable (local f) h = absurd h
addressable (param f) h = absurd h
addressable (register r) h = absurd h

-- where the object of a pointer is
pub record StandsAt (p : PlainProgram) (place : ℕ → ℕ) (o : ℕ) (declared : PlainObject) (q : Option Place) : Type 0 where
  pub is_object : slice_get p.objects o ≡ Some declared
  pub is_static : IsStatic declared.storage
  pub there : Place
  pub is_there : q ≡ Some there
  pub bank : there.bank ≡ bank_of declared.home
  pub at : place o ≡ there.offset
  pub room : place o + size_of_type p.structs declared.ty ≤ 131072

pub address_held : (p : PlainProgram) (place : ℕ → ℕ) (space : SpaceId) (o offset : ℕ) (d : PlainObject) (q : Option Place)
    (f : ℕ → ℕ) (a : ℕ) (s : StandsAt p place o d q) → IsTrue (holds space d.home) → offset ≤ size_of_type p.structs d.ty
    → AreBytesOf f a (width space) (pointer_to space q offset) → HoldsLeaf p place f a (width space) (initial_value (Address o offset))
address_held p place space o offset d q f a s in_space within bytes =
    let home : home_of p o ≡ bank_of d.home = rw s.is_object refl in
    let room = s.room in
    let at = s.at in
    let number =
    number_by_bank space (bank_of d.home) p place o offset s.there.offset (home_reached space d.home in_space) home s.at
    (omega (arith, room, at, within)) in
    let one : pointer_to space q offset ≡ pointer_to space (Some (record { bank = bank_of d.home; offset = s.there.offset })) offset =
    rw (s.is_there) (ap (λ b. pointer_to space (Some (record { bank = b; offset = s.there.offset })) offset) s.bank) in (
      of_pointer space f a (pointer_to space q offset) bytes ∙ ap (λ n. n % 256 ^ width space) one ∙ number,
      record {
        pointed = record {
          declared = d;
          is_object = s.is_object;
          addressable = addressable d.storage s.is_static;
          instance = refl;
          within = within;
        };
        size = width_is space;
        of = record { space = space; home = in_space; bytes = refl };
      },
    )

-- ---- what is told of initial values

address_is_low : (p : PlainProgram) (place : ℕ → ℕ) (n o offset : ℕ) → place o + offset ≤ 131072 → IsPointerSize n
    → low_bytes n (pos (address_number p place n o offset)) ≡ address_number p place n o offset
address_is_low p place n o offset low (inl q) =
    subst (λ k. low_bytes k (pos (address_number p place k o offset)) ≡ address_number p place k o offset) (sym q)
    (let x = place o + offset in omega arith)
address_is_low p place n o offset low (inr q) =
    subst (λ k. low_bytes k (pos (address_number p place k o offset)) ≡ address_number p place k o offset) (sym q)
    (by_bank (home_of p o) refl) where
      by_bank : (bank : Bank) → home_of p o ≡ bank
          → low_bytes 3 (pos (address_number p place 3 o offset)) ≡ address_number p place 3 o offset
      by_bank FlashBank home = rw home (let x = place o + offset in omega (arith, low))
      by_bank DataBank home = rw home (let x = place o + offset in omega (arith, low))

pub initial_is_told : (p : PlainProgram) (place : ℕ → ℕ) (f : ℕ → ℕ) (a n : ℕ) (init : LeafInit)
    → ((o : ℕ) (d : PlainObject) → slice_get p.objects o ≡ Some d → place o + size_of_type p.structs d.ty ≤ 131072)
    → HoldsLeaf p place f a n (initial_value init)
    → value f a n ≡ low_bytes n (number_told p place n init)
initial_is_told p place f a n (Number i) ends h = h
initial_is_told p place f a n Null ends h = h ∙ sym (zero-mod (256 ^ n))
initial_is_told p place f a n (Address o offset) ends h =
    let at = h.1.pointed in
    let end = ends o at.declared at.is_object in
    let within = at.within in
    h.0 ∙ sym (address_is_low p place n o offset (omega (arith, end, within)) h.1.size)
