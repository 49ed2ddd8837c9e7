-- The laws of spaces: inclusion, and what pointers denote.
use Rattle.std.proofs.Common.{◌≡◌, ℕ, zero, suc, ◌+◌, ◌-◌, ◌^◌, ◌<◌, ◌≤◌, Bool, true, false, not, ◌&&◌, ◌||◌, List}
use Rattle.std.proofs.Common.{length, zero-add, refl, sym, ap, ◌∙◌, subst, arith, inl, inr}
use Rattle.std.specs.Prelude.{◌==◌, nat_lt, IsTrue, Option, Some, None, MatchOption, unwrap_or, option_and_then}
use Rattle.std.specs.Prelude.{if◌then◌else◌, ⊤}
use Rattle.std.specs.Cmp.Derive.{both_true}
use Rattle.std.proofs.lemmas.Bool.{cases_lt, ne_eqb, lt-ltb, le-ltb}
use Rattle.std.proofs.lemmas.Bool.Decides.{nat_tests}
use Rattle.ec_space.specs.ByteLaws.{number_of-little_endian, little_endian-number_of}
use Rattle.ec_space.specs.Bytes.{little_endian, number_of, AreBytes}
use Rattle.ec_space.specs.Spaces.{holds, end_in, Encloses, encloses, bank_number, pointer_number, IsPointerOf, Denotes, encoded}
use Rattle.ec_space.specs.Spaces.{pointer_in, pointer_of, denoted, is_pointer_of, converted, embedded, nothing}
use Rattle.ec_space.specs.declared.space.Bank.{Bank}
use Rattle.ec_space.specs.declared.space.Bank.TheVariants.{Flash as FlashBank, Data as DataBank}
use Rattle.ec_space.specs.declared.space.Home.{Home}
use Rattle.ec_space.specs.declared.space.Home.TheVariants.{Flash as FlashHome, Far as FarHome, Data as DataHome}
use Rattle.ec_space.specs.declared.space.Pointer.{Pointer}
use Rattle.ec_space.specs.declared.space.Pointer.TheVariants.{Null, At}
use Rattle.ec_space.specs.declared.space.SpaceId.{SpaceId}
use Rattle.ec_space.specs.declared.space.SpaceId.TheVariants.{Flash, FarFlash, Data, Generic}

-- ---- inclusion

implied : (a b : Bool) → IsTrue (not a || b) → IsTrue a → IsTrue b
implied true b test h = test
implied false b test h = cc

implies : (a b : Bool) → (IsTrue a → IsTrue b) → IsTrue (not a || b)
implies true b h = h refl
implies false b h = refl

left_true : (a b : Bool) → IsTrue (a && b) → IsTrue a
left_true true b h = refl
left_true false b h = h

right_true : (a b : Bool) → IsTrue (a && b) → IsTrue b
right_true true b h = h
right_true false b h = cc

pub Encloses-from_test : (outer inner : SpaceId) → IsTrue (encloses outer inner) → Encloses outer inner
Encloses-from_test outer inner test FlashHome =
    implied (holds inner FlashHome) (holds outer FlashHome) (left_true _ _ test)
Encloses-from_test outer inner test FarHome =
    implied (holds inner FarHome) (holds outer FarHome) (left_true _ _ (right_true _ _ test))
Encloses-from_test outer inner test DataHome =
    implied (holds inner DataHome) (holds outer DataHome) (right_true _ _ (right_true _ _ test))

pub test_from_Encloses : (outer inner : SpaceId) → Encloses outer inner → IsTrue (encloses outer inner)
test_from_Encloses outer inner h =
    both_true (implies (holds inner FlashHome) (holds outer FlashHome) (h FlashHome))
    (both_true (implies (holds inner FarHome) (holds outer FarHome) (h FarHome))
    (implies (holds inner DataHome) (holds outer DataHome) (h DataHome)))

pub flash_is_far : Encloses FarFlash Flash
flash_is_far FlashHome h = refl
flash_is_far FarHome h = refl
flash_is_far DataHome h = cc

-- ---- pointers and their numbers

-- an offset of a bank that a pointer can have
pointer_in-offset : (bank : Bank) (end offset : ℕ) → 0 < offset → offset < end
    → pointer_in bank end offset ≡ Some (At (record { bank = bank; offset = offset }))
pointer_in-offset bank end offset low high =
    let nonzero : (offset == 0) ≡ false = ne_eqb offset 0 (λ e. omega arith) in
    let small : nat_lt offset end ≡ true = lt-ltb offset end high in
    rw (nonzero, small) refl

pointer_of-at : (space : SpaceId) (bank : Bank) (offset : ℕ) → 0 < offset → offset < end_in space bank
    → pointer_of space (bank_number space bank + offset) ≡ Some (At (record { bank = bank; offset = offset }))
pointer_of-at Flash FlashBank offset low high = rw zero-add (pointer_in-offset FlashBank 65_536 offset low high)
pointer_of-at Flash DataBank offset low high = absurd (omega (arith, high))
pointer_of-at FarFlash FlashBank offset low high = rw zero-add (pointer_in-offset FlashBank 131_072 offset low high)
pointer_of-at FarFlash DataBank offset low high = absurd (omega (arith, high))
pointer_of-at Data FlashBank offset low high = absurd (omega (arith, high))
pointer_of-at Data DataBank offset low high = rw zero-add (pointer_in-offset DataBank 65_536 offset low high)
pointer_of-at Generic FlashBank offset low high =
    let flash : nat_lt 0x80_0000 offset ≡ false = le-ltb 0x80_0000 offset (omega arith) in
    rw (zero-add, flash) (pointer_in-offset FlashBank 131_072 offset low high)
pointer_of-at Generic DataBank offset low high =
    let in_data : nat_lt 0x80_0000 (0x80_0000 + offset) ≡ true = lt-ltb 0x80_0000 (0x80_0000 + offset) (omega arith) in
    let own : 0x80_0000 + offset - 0x80_0000 ≡ offset = omega arith in
    rw (in_data, own) (pointer_in-offset DataBank 65_536 offset low high)

-- a pointer of the space is the one whose bytes make its number
pub pointer_of-pointer_number : (space : SpaceId) (p : Pointer) → IsPointerOf space p
    → pointer_of space (pointer_number space p) ≡ Some p
pointer_of-pointer_number Flash Null h = refl
pointer_of-pointer_number FarFlash Null h = refl
pointer_of-pointer_number Data Null h = refl
pointer_of-pointer_number Generic Null h = refl
pointer_of-pointer_number space (At place) h = pointer_of-at space place.bank place.offset h.0 h.1

-- a pointer's number has three bytes
bank_number_fits : (space : SpaceId) (bank : Bank) → bank_number space bank ≤ 0x80_0000
bank_number_fits Flash bank = omega arith
bank_number_fits FarFlash bank = omega arith
bank_number_fits Data bank = omega arith
bank_number_fits Generic FlashBank = omega arith
bank_number_fits Generic DataBank = omega arith

-- so has an offset
end_in_fits : (space : SpaceId) (bank : Bank) → end_in space bank ≤ 131_072
end_in_fits Flash FlashBank = omega arith
end_in_fits Flash DataBank = omega arith
end_in_fits FarFlash FlashBank = omega arith
end_in_fits FarFlash DataBank = omega arith
end_in_fits Data FlashBank = omega arith
end_in_fits Data DataBank = omega arith
end_in_fits Generic FlashBank = omega arith
end_in_fits Generic DataBank = omega arith

pub pointer_number_fits : (space : SpaceId) (p : Pointer) → IsPointerOf space p → pointer_number space p < 256 ^ 3
pointer_number_fits space Null h = omega arith
pointer_number_fits space (At place) h = omega (arith, h.1, bank_number_fits space place.bank, end_in_fits space place.bank)

-- what `pointer_in` gives is a pointer of the space with the number n
pointer_in_tells : (space : SpaceId) (bank : Bank) (end offset n : ℕ) → end ≡ end_in space bank → 0 < offset
    → n ≡ bank_number space bank + offset
    → MatchOption (pointer_in bank end offset) ⊤ (λ p. IsPointerOf space p × (n ≡ pointer_number space p))
pointer_in_tells space bank end offset n is low same =
    let nonzero : (offset == 0) ≡ false = ne_eqb offset 0 (λ e. omega arith) in
    elim (cases_lt offset end) [
      | inl small ↦ let in_range : nat_lt offset end ≡ true = lt-ltb offset end small in
          rw (nonzero, in_range) ((low, subst (λ (k : ℕ). offset < k) is small), same)
      | inr large ↦ let out : nat_lt offset end ≡ false = le-ltb offset end large in rw (nonzero, out) tt
    ]

pointer_of_tells : (space : SpaceId) (n : ℕ)
    → MatchOption (pointer_of space n) ⊤ (λ p. IsPointerOf space p × (n ≡ pointer_number space p))
pointer_of_tells Flash zero = (tt, refl)
pointer_of_tells Flash (suc n) = pointer_in_tells Flash FlashBank 65_536 (suc n) (suc n) refl (omega arith) (omega arith)
pointer_of_tells FarFlash zero = (tt, refl)
pointer_of_tells FarFlash (suc n) =
    pointer_in_tells FarFlash FlashBank 131_072 (suc n) (suc n) refl (omega arith) (omega arith)
pointer_of_tells Data zero = (tt, refl)
pointer_of_tells Data (suc n) = pointer_in_tells Data DataBank 65_536 (suc n) (suc n) refl (omega arith) (omega arith)
pointer_of_tells Generic zero = (tt, refl)
pointer_of_tells Generic (suc n) = elim (cases_lt 0x80_0000 (suc n)) [
  | inl above ↦
      let in_data : nat_lt 0x80_0000 (suc n) ≡ true = lt-ltb 0x80_0000 (suc n) above in
      rw in_data (pointer_in_tells Generic DataBank 65_536 (suc n - 0x80_0000) (suc n) refl (omega arith) (omega arith))
  | inr below ↦
      let in_flash : nat_lt 0x80_0000 (suc n) ≡ false = le-ltb 0x80_0000 (suc n) below in
      rw in_flash (pointer_in_tells Generic FlashBank 131_072 (suc n) (suc n) refl (omega arith) (omega arith))
]

-- ---- what bytes denote

-- bytes denote at most one pointer, the one that `denoted` gives
pub denoted_from_Denotes : (space : SpaceId) (bytes : List ℕ) (p : Pointer) → Denotes space bytes p
    → denoted space bytes ≡ Some p
denoted_from_Denotes space bytes p d = rw d.number (pointer_of-pointer_number space p d.is_pointer)

-- and they denote what it gives
denoted_tells_at : (space : SpaceId) (bytes : List ℕ) (o : Option Pointer) → denoted space bytes ≡ o
    → MatchOption o ⊤ (λ p. IsPointerOf space p × (number_of bytes ≡ pointer_number space p))
    → MatchOption o ((p : Pointer) → ¬ Denotes space bytes p) (Denotes space bytes)
denoted_tells_at space bytes None same h = λ p d. let other = denoted_from_Denotes space bytes p d in cc
denoted_tells_at space bytes (Some p) same h = record { is_pointer = h.0; number = h.1 }

pub denoted_tells : (space : SpaceId) (bytes : List ℕ)
    → MatchOption (denoted space bytes) ((p : Pointer) → ¬ Denotes space bytes p) (Denotes space bytes)
denoted_tells space bytes =
    denoted_tells_at space bytes (denoted space bytes) refl (pointer_of_tells space (number_of bytes))

pub Denotes-encoded : (space : SpaceId) (p : Pointer) → IsPointerOf space p → Denotes space (encoded space p) p
Denotes-encoded space p h =
    record {
      is_pointer = h;
      number = number_of-little_endian 3 (pointer_number space p)
          (pointer_number_fits space p h);
    }

pub denoted-encoded : (space : SpaceId) (p : Pointer) → IsPointerOf space p → denoted space (encoded space p) ≡ Some p
denoted-encoded space p h = denoted_from_Denotes space (encoded space p) p (Denotes-encoded space p h)

-- ---- the same pointer in another space

-- a space that encloses another one tells all offsets that this tells
end_in-Encloses : (outer inner : SpaceId) (bank : Bank) → Encloses outer inner → end_in inner bank ≤ end_in outer bank
end_in-Encloses Flash Flash bank h = omega arith
end_in-Encloses FarFlash FarFlash bank h = omega arith
end_in-Encloses Data Data bank h = omega arith
end_in-Encloses Generic Generic bank h = omega arith
end_in-Encloses FarFlash Flash FlashBank h = omega arith
end_in-Encloses FarFlash Flash DataBank h = omega arith
end_in-Encloses Generic Flash FlashBank h = omega arith
end_in-Encloses Generic Flash DataBank h = omega arith
end_in-Encloses Generic FarFlash FlashBank h = omega arith
end_in-Encloses Generic FarFlash DataBank h = omega arith
end_in-Encloses Generic Data FlashBank h = omega arith
end_in-Encloses Generic Data DataBank h = omega arith
end_in-Encloses Flash FarFlash bank h = absurd (let no = h FarHome refl in cc)
end_in-Encloses Flash Data bank h = absurd (let no = h DataHome refl in cc)
end_in-Encloses Flash Generic bank h = absurd (let no = h DataHome refl in cc)
end_in-Encloses FarFlash Data bank h = absurd (let no = h DataHome refl in cc)
end_in-Encloses FarFlash Generic bank h = absurd (let no = h DataHome refl in cc)
end_in-Encloses Data Flash bank h = absurd (let no = h FlashHome refl in cc)
end_in-Encloses Data FarFlash bank h = absurd (let no = h FlashHome refl in cc)
end_in-Encloses Data Generic bank h = absurd (let no = h FlashHome refl in cc)

pub IsPointerOf-Encloses : (outer inner : SpaceId) (p : Pointer) → Encloses outer inner → IsPointerOf inner p
    → IsPointerOf outer p
IsPointerOf-Encloses outer inner Null h is = tt
IsPointerOf-Encloses outer inner (At place) h is =
    let further = end_in-Encloses outer inner place.bank h in
    (is.0, omega (arith, is.1, further))

is_pointer_of-true : (space : SpaceId) (p : Pointer) → IsPointerOf space p → is_pointer_of space p ≡ true
is_pointer_of-true space Null h = refl
is_pointer_of-true space (At place) h =
    rw (lt-ltb 0 place.offset h.0, lt-ltb place.offset (end_in space place.bank) h.1) refl

IsPointerOf-from_test : (space : SpaceId) (p : Pointer) → is_pointer_of space p ≡ true → IsPointerOf space p
IsPointerOf-from_test space Null h = tt
IsPointerOf-from_test space (At place) h = grind (arith, nat_tests)

-- bytes of one space that denote a pointer of the other become its bytes there
pub converted-Denotes : (from to : SpaceId) (bytes : List ℕ) (p : Pointer) → Denotes from bytes p → IsPointerOf to p
    → converted from to bytes ≡ Some (encoded to p)
converted-Denotes from to bytes p d h = rw (denoted_from_Denotes from bytes p d, is_pointer_of-true to p h) refl

-- what becomes of bytes that denote p in the one space, by the test whether p is a pointer of the other
converted_by_test : (from to : SpaceId) (bytes : List ℕ) (p : Pointer) → Denotes from bytes p → (test : Bool)
    → is_pointer_of to p ≡ test
    → MatchOption (if test then Some (encoded to p) else None)
    ((q : Pointer) → Denotes from bytes q → ¬ IsPointerOf to q)
    (λ new. (q : Pointer) × Denotes from bytes q × Denotes to new q)
converted_by_test from to bytes p d true same = (p, d, Denotes-encoded to p (IsPointerOf-from_test to p same))
converted_by_test from to bytes p d false same = λ q e h.
    let one = denoted_from_Denotes from bytes p d in
    let other = denoted_from_Denotes from bytes q e in
    let test = is_pointer_of-true to q h in
    cc

converted_tells_at : (from to : SpaceId) (bytes : List ℕ) (o : Option Pointer)
    → MatchOption o ((p : Pointer) → ¬ Denotes from bytes p) (Denotes from bytes)
    → MatchOption (option_and_then (λ p. if is_pointer_of to p then Some (encoded to p) else None) o)
    ((p : Pointer) → Denotes from bytes p → ¬ IsPointerOf to p)
    (λ new. (p : Pointer) × Denotes from bytes p × Denotes to new p)
converted_tells_at from to bytes None h = λ p d _. h p d
converted_tells_at from to bytes (Some p) h = converted_by_test from to bytes p h (is_pointer_of to p) refl

-- bytes become nothing exactly where they denote nothing, or no pointer of the other space
pub converted_tells : (from to : SpaceId) (bytes : List ℕ)
    → MatchOption (converted from to bytes) ((p : Pointer) → Denotes from bytes p → ¬ IsPointerOf to p)
    (λ new. (p : Pointer) × Denotes from bytes p × Denotes to new p)
converted_tells from to bytes = converted_tells_at from to bytes (denoted from bytes) (denoted_tells from bytes)

-- ---- a pointer of an inner space in an outer one

denoted-nothing : (space : SpaceId) → denoted space nothing ≡ None
denoted-nothing Flash = refl
denoted-nothing FarFlash = refl
denoted-nothing Data = refl
denoted-nothing Generic = refl

module _ (inner outer : SpaceId) (enclosed : Encloses outer inner) where
  embedded-Denotes : (bytes : List ℕ) (p : Pointer) → Denotes inner bytes p
      → embedded inner outer bytes ≡ encoded outer p
  embedded-Denotes bytes p d =
      ap (λ o. unwrap_or o nothing) (converted-Denotes inner outer bytes p d
      (IsPointerOf-Encloses outer inner p enclosed d.is_pointer))

  -- what the bytes denote is kept
  pub embedded_keeps : (bytes : List ℕ) (p : Pointer) → Denotes inner bytes p
      → Denotes outer (embedded inner outer bytes) p
  embedded_keeps bytes p d =
      rw (embedded-Denotes bytes p d)
      (Denotes-encoded outer p (IsPointerOf-Encloses outer inner p enclosed d.is_pointer))

  embedded_adds_nothing_at : (bytes : List ℕ) (o : Option Pointer) → denoted inner bytes ≡ o
      → MatchOption o ((p : Pointer) → ¬ Denotes inner bytes p) (Denotes inner bytes)
      → (p : Pointer) → Denotes outer (embedded inner outer bytes) p → Denotes inner bytes p
  embedded_adds_nothing_at bytes None same h p d =
      let none : embedded inner outer bytes ≡ nothing = rw same refl in
      let some = rw none at (denoted_from_Denotes outer (embedded inner outer bytes) p d) in
      let not = denoted-nothing outer in
      cc
  embedded_adds_nothing_at bytes (Some q) same h p d =
      let one = denoted_from_Denotes outer (embedded inner outer bytes) q (embedded_keeps bytes q h) in
      let other = denoted_from_Denotes outer (embedded inner outer bytes) p d in
      let equal : q ≡ p = cc in
      subst (λ x. Denotes inner bytes x) equal h

  -- and nothing else
  pub embedded_adds_nothing : (bytes : List ℕ) (p : Pointer) → Denotes outer (embedded inner outer bytes) p
      → Denotes inner bytes p
  embedded_adds_nothing bytes = embedded_adds_nothing_at bytes (denoted inner bytes) refl (denoted_tells inner bytes)

  -- the way back gives the bytes that were embedded
  pub converted-embedded : (bytes : List ℕ) (p : Pointer) → length bytes ≡ 3 → AreBytes bytes → Denotes inner bytes p
      → converted outer inner (embedded inner outer bytes) ≡ Some bytes
  converted-embedded bytes p len are d =
      let in_outer = Denotes-encoded outer p (IsPointerOf-Encloses outer inner p enclosed d.is_pointer) in
      let back = converted-Denotes outer inner (encoded outer p) p in_outer d.is_pointer in
      let number : encoded inner p ≡ little_endian 3 (number_of bytes) = ap (little_endian 3) (sym d.number) in
      let own : little_endian 3 (number_of bytes)
      ≡ bytes = subst (λ k. little_endian k (number_of bytes) ≡ bytes) len (little_endian-number_of bytes are) in
      rw (embedded-Denotes bytes p d) (back ∙ ap (λ new. Some new) (number ∙ own))
