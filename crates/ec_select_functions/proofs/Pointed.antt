-- What pointers point to, and the address in a pointer's bytes.
use Rattle.std.proofs.Common.{◌≡◌, ℕ, zero, suc, ◌+◌, ◌*◌, ◌%◌, ◌^◌, ◌<◌, ◌≤◌, ⊎_elim, true, false, Bool, Some, None}
use Rattle.std.proofs.Common.{Ok, refl, sym, ◌∙◌, subst, arith}
use Rattle.std.specs.Prelude.{if◌then◌else◌, slice_get}
use Rattle.ec_space.specs.declared.Core.TheVariants.{Large}
use Rattle.ec_space.specs.declared.space.Bank.{Bank}
use Rattle.ec_space.specs.declared.space.Bank.TheVariants.{Flash as FlashBank, Data as DataBank}
use Rattle.ec_space.specs.declared.space.Home.{Home}
use Rattle.ec_space.specs.Spaces.{bank_of}
use Rattle.ec_asm.specs.declared.pieces.Location.{Location}
use Rattle.ec_asm.specs.View.{View}
use Rattle.ec_asm.specs.Change.{Env, Object}
use Rattle.ec_asm.specs.Pieces.{value}
use Rattle.ec_asm.specs.PieceLaws.{AreHeld, HoldsNumbers}
use Rattle.ec_asm.proofs.Numbers.{value_below}
use Rattle.ec_core.specs.declared.values.ObjectPointer.{ObjectPointer}
use Rattle.ec_core.specs.declared.values.Value.{Value}
use Rattle.ec_core.specs.declared.values.Value.TheVariants.{Number, Pointer}
use Rattle.ec_core.specs.Layout.{scalar_size, size_of_type}
use Rattle.ec_core.specs.Operators.{unsuited}
use Rattle.ec_core.specs.Plain.{PlainType, void, integer, fixed, pointer, array, struct, PlainStorage, static, local}
use Rattle.ec_core.specs.Plain.{param}
use Rattle.ec_core.specs.Plain.{register, PlainObject, PlainProgram}
use Rattle.ec_core.specs.Valid.{IsAddressable}
use Rattle.ec_fx.specs.Formats.{format_of}
use Rattle.ec_ir.specs.declared.operations.Temp.{Temp}
use Rattle.ec_ir.specs.Temporaries.{Content, bits, points, value_of_type, is_in_space, low_bytes, number_of_bytes}
use Rattle.ec_select_operations.specs.Homes.{HasHome}
use Rattle.ec_select_operations.specs.Places.{kind_in}
use Rattle.ec_select_operations.specs.Pointers.{IsPointerSize, home_of, tag_of, tag_in, number_with}
use Rattle.ec_select_operations.specs.Pointers.{address_number, IsPointed, IsPointerIn}
use Rattle.ec_select_functions.specs.Relation.{HoldsContent, HoldsLeaf}
use Rattle.ec_select_functions.specs.Standing.{StandsInMemory, ObjectStands, address_end}
use Rattle.ec_select_functions.proofs.Setting.{Setting}
use Rattle.ec_select_functions.proofs.Match.{held_row}
use Rattle.ec_select_functions.proofs.PointerNumbers.{data_end, greatest_end}
use Rattle.ec_select_functions.proofs.Wrapped.{low_of_number, kept_below}

-- ---- objects that have an address

pub addressable_kind : (storage : PlainStorage) → IsAddressable storage → kind_in storage ≡ Object
addressable_kind (static inits) k = refl
addressable_kind (local f) k = refl
addressable_kind (param f) k = refl
addressable_kind (register first) k = absurd k

pub stands_in_memory : (e : Env) (o n a : ℕ) (storage : PlainStorage) → IsAddressable storage → ObjectStands e o n a storage
    → StandsInMemory e o n a
stands_in_memory e o n a (static inits) k x = x
stands_in_memory e o n a (local f) k x = x
stands_in_memory e o n a (param f) k x = x
stands_in_memory e o n a (register first) k x = absurd k

pub home_of_object : (p : PlainProgram) (o : ℕ) (d : PlainObject) → slice_get p.objects o ≡ Some d → home_of p o ≡ bank_of d.home
home_of_object p o d q = rw q refl

-- ---- the bytes of a pointer

pub tag_below : (bank : Bank) → tag_of bank ≤ 0x80
tag_below FlashBank = omega arith
tag_below DataBank = omega arith

-- the number of a pointer is one of its bytes
pub number_fits : (p : PlainProgram) (place : ℕ → ℕ) (n o offset : ℕ) → IsPointerSize n → place o + offset < 131_072
    → address_number p place n o offset < 256 ^ n
number_fits p place n o offset size low =
    ⊎_elim
    (λ (q : n ≡ 2). subst (λ (b : ℕ). address_number p place b o offset < 256 ^ b) (sym q) (in_two (place o + offset)))
    (λ (q : n ≡ 3). subst (λ (b : ℕ). address_number p place b o offset < 256 ^ b) (sym q)
    (in_three (place o + offset) (tag_of (home_of p o)) low (tag_below (home_of p o))))
    size
  where
    in_two : (x : ℕ) → x % 65536 < 65536
    in_two x = omega arith

    in_three : (x tag : ℕ) → x < 131_072 → tag ≤ 0x80 → x + tag * 65536 < 16777216
    in_three x tag l m = omega (arith, l, m)

-- its low two bytes are those of the address, and three bytes are the address and the bank's tag
pub record IsAddressedBy (f : ℕ → ℕ) (a bytes place : ℕ) (bank : Bank) : Type 0 where
  pub low : value f a 2 ≡ place % 65536
  pub whole : bytes ≡ 3 → value f a 3 ≡ place + tag_of bank * 65536

pub pointer_parts : (f : ℕ → ℕ) (a n place : ℕ) (bank : Bank) → IsPointerSize n → AreHeld f a n → place < 131_072
    → value f a n ≡ number_with place (tag_in n bank) % 256 ^ n → IsAddressedBy f a n place bank
pointer_parts f a n place bank size held small is =
    let done = λ (b : ℕ). AreHeld f a b → value f a b ≡ number_with place (tag_in b bank) % 256 ^ b → IsAddressedBy f a b place bank in
    ⊎_elim (λ (q : n ≡ 2). subst done (sym q) of_two held is) (λ (q : n ≡ 3). subst done (sym q) of_three held is) size
  where
    of_two : AreHeld f a 2 → value f a 2 ≡ place % 65536 % 65536 → IsAddressedBy f a 2 place bank
    of_two held is = record { low = omega (arith, is); whole = λ q. absurd (omega (arith, q)) }

    low_of : (v t tag : ℕ) → v < 65536 → v + t * 65536 ≡ place + tag * 65536 → v ≡ place % 65536
    low_of v t tag l q = omega (arith, l, q)

    of_three : AreHeld f a 3 → value f a 3 ≡ (place + tag_of bank * 65536) % 16777216 → IsAddressedBy f a 3 place bank
    of_three held is =
        let below : value f a 2 < 65536 = value_below f a 2 (λ j r. held j (omega arith)) in
        let tag = tag_below bank in
        let whole : value f a 3 ≡ place + tag_of bank * 65536 =
        is ∙ kept_below (place + tag_of bank * 65536) 16777216 (omega (arith, small, tag)) in
        record { low = low_of (value f a 2) (f (a + 2)) (tag_of bank) below whole; whole = λ q. whole }

-- ---- values of a type

-- the bytes of a content are those of the value of a type with so many bytes
pub typed_leaf : (p : PlainProgram) (place : ℕ → ℕ) → ((q : ObjectPointer) → IsPointed p q → place q.object + q.offset < 131_072)
    → (f : ℕ → ℕ) (a n : ℕ) (ty : PlainType) (c : Content) (u : Value)
    → scalar_size ty ≡ n → value_of_type p ty c ≡ Ok u → HoldsContent p place f a n n c → HoldsLeaf p place f a n u
typed_leaf p place low f a n ty c u size is h = by_type ty c size is h
  where
    as_number : (signed : Bool) (b low : ℕ) → b ≡ n → Number (number_of_bytes signed b low) ≡ u
        → (value f a n ≡ low % 256 ^ n) × (low < 256 ^ n) → HoldsLeaf p place f a n u
    as_number signed b low same is h =
        let number : value f a n ≡ low_bytes n (number_of_bytes signed n low) =
        h.0 ∙ kept_below low (256 ^ n) h.1 ∙ sym (low_of_number signed n low h.1) in
        subst (λ (x : Value). HoldsLeaf p place f a n x) is
        (subst (λ (k : ℕ). value f a n ≡ low_bytes n (number_of_bytes signed k low)) (sym same) number)

    as_pointer : (b : Bool) (q : ObjectPointer) → (if b then Ok (Pointer (Some q)) else unsuited) ≡ Ok u
        → (value f a n ≡ address_number p place n q.object q.offset % 256 ^ n) × IsPointerIn p n q → HoldsLeaf p place f a n u
    as_pointer true q is h =
        let same : Pointer (Some q) ≡ u = cc in
        let fits = number_fits p place n q.object q.offset h.1.size (low q h.1.pointed) in
        subst (λ (x : Value). HoldsLeaf p place f a n x) same
        (h.0 ∙ kept_below (address_number p place n q.object q.offset) (256 ^ n) fits, h.1)
    as_pointer false q is h = absurd (cc)

    by_type : (ty : PlainType) (c : Content) → scalar_size ty ≡ n → value_of_type p ty c ≡ Ok u
        → HoldsContent p place f a n n c → HoldsLeaf p place f a n u
    by_type void (bits low) size is h = absurd (cc)
    by_type void (points q) size is h = absurd (cc)
    by_type (integer signed bytes) (bits low) size is h =
        as_number signed bytes low size (let z : Ok (Number (number_of_bytes signed bytes low)) ≡ Ok u = is in cc) h
    by_type (integer signed bytes) (points q) size is h = absurd (cc)
    by_type (fixed kind saturates) (bits low) size is h =
        as_number (format_of kind).signed (scalar_size (fixed kind saturates)) low size
        (let z : Ok (Number (number_of_bytes (format_of kind).signed (scalar_size (fixed kind saturates)) low)) ≡ Ok u = is in cc) h
    by_type (fixed kind saturates) (points q) size is h = absurd (cc)
    by_type (pointer space const to) (bits zero) size is h =
        let same : Pointer None ≡ u = (let z : Ok (Pointer None) ≡ Ok u = is in cc) in
        subst (λ (x : Value). HoldsLeaf p place f a n x) same (h.0 ∙ kept_below 0 (256 ^ n) h.1)
    by_type (pointer space const to) (bits (suc low)) size is h = absurd (cc)
    by_type (pointer space const to) (points q) size is h = as_pointer (is_in_space p space q) q is h
    by_type (array of len) (bits low) size is h = absurd (cc)
    by_type (array of len) (points q) size is h = absurd (cc)
    by_type (struct index) (bits low) size is h = absurd (cc)
    by_type (struct index) (points q) size is h = absurd (cc)

module _ (p : PlainProgram) (e : Env) (slots : ℕ) (home : Temp → Location) (base : Temp → ℕ) (place : ℕ → ℕ)
    (y : Setting p e slots home base place) where
  -- An object with a home that has an address stands there, and its end has one too. The code has it modulo 65,536, and in
  -- the flash bank of the core `large` the whole address
  pub record HasRoom (kept : Home) (o n : ℕ) : Type 0 where
    pub end : place o + n < address_end e.core kept
    pub at : (i : ℕ) → i ≤ n → e.address_of o i ≡ (place o + i) % 65536
    pub far : e.core ≡ Large → bank_of kept ≡ FlashBank → (i : ℕ) → i ≤ n → e.far_of o i ≡ place o + i

  pub room_of : (o : ℕ) (d : PlainObject) → slice_get p.objects o ≡ Some d → IsAddressable d.storage
      → HasRoom d.home o (size_of_type p.structs d.ty)
  room_of o d is k = by_home (bank_of d.home) refl
    where
      by_home : (bank : Bank) → bank_of d.home ≡ bank → HasRoom d.home o (size_of_type p.structs d.ty)
      by_home FlashBank q =
          let s = y.tables_stand.each o d is q in
          record { end = s.end; at = s.at; far = λ large bank. s.far large }
      by_home DataBank q =
          let n = size_of_type p.structs d.ty in
          let s = stands_in_memory e o n (place o) d.storage k (y.objects_stand o d is q) in
          let end = s.end in
          record {
            end = subst (λ b. place o + n < b) (sym (data_end e.core d.home q)) end;
            at = λ i l. s.at i l ∙ sym (kept_below (place o + i) 65536 (omega (arith, end, l)));
            far = λ large bank. let no : FlashBank ≡ DataBank = sym bank ∙ q in absurd cc;
          }

  -- what a pointer points to has an address
  pub pointed_below : (q : ObjectPointer) → IsPointed p q → place q.object + q.offset < 131_072
  pointed_below q k =
      let room = (room_of q.object k.declared k.is_object k.addressable).end in
      let most = greatest_end e.core k.declared.home in
      let within = k.within in
      omega (arith, room, most, within)

  -- the address in a temporary that holds a pointer
  pub address_held : (v : View) (t : Temp) (q : ObjectPointer) → HoldsNumbers v → HasHome slots t
      → HoldsContent p place v.at (base t) t.bytes t.bytes (points q)
      → IsAddressedBy v.at (base t) t.bytes (place q.object + q.offset) (home_of p q.object)
  address_held v t q numbers it h =
      pointer_parts v.at (base t) t.bytes (place q.object + q.offset) (home_of p q.object) h.1.size
      (held_row v (base t) t.bytes (y.layout.temps_at t it).clear numbers) (pointed_below q h.1.pointed) h.0
