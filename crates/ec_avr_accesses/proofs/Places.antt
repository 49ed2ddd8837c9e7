-- Writes below the SRAM, and what a store leaves in it.
use Rattle.std.proofs.Common.{◌≡◌, ◌≢◌, ℕ, ◌+◌, ◌/◌, ◌%◌, ◌<◌, ◌≤◌, Bool, true, false, not, refl, ◌∙◌, length}
use Rattle.std.proofs.Common.{nat_lt, arith}
use Rattle.std.specs.Prelude.{if◌then◌else◌}
use Rattle.std.proofs.lemmas.Bool.{and_parts, ltb-true}
use Rattle.std.proofs.lemmas.List.{get_or-set_other, get_or-set_same}
use Rattle.std.proofs.Math.ListN.{length-set}
use Rattle.ec_avr.specs.State.{State, byte_at, with_byte, with_pair, with_sreg, is_port, is_core_register, passed}
use Rattle.ec_avr.specs.Effects.{stored}

-- all bytes of the SRAM stay
abbrev pub SramStays : State → State → Type 0
SramStays s t = (at : ℕ) → 256 ≤ at → byte_at t at ≡ byte_at s at

pub through : (s t u : State) → SramStays s t → SramStays t u → SramStays s u
through s t u f g at high = g at high ∙ f at high

pub low_byte : (s : State) (place byte : ℕ) → place < 256 → SramStays s (with_byte s place byte)
low_byte s place byte low at high = get_or-set_other s.mem.data place at byte 0 (omega arith)

pub low_pair : (s : State) (place n : ℕ) → place < 255 → SramStays s (with_pair s place n)
low_pair s place n low =
    let first = with_byte s place (n % 256) in
    through s first (with_byte first (place + 1) (n / 256)) (low_byte s place (n % 256) (omega arith))
    (low_byte first (place + 1) (n / 256) (omega arith))

-- a register and SREG
pub low_result : (s : State) (d byte flags : ℕ) → d < 32 → SramStays s (with_sreg (with_byte s d byte) flags)
low_result s d byte flags low =
    through s (with_byte s d byte) (with_byte (with_byte s d byte) 0x5F flags) (low_byte s d byte (omega arith)) (low_byte
    (with_byte s d byte) 0x5F flags (omega arith))

pub low_pair_result : (s : State) (d n flags : ℕ) → d < 32 → SramStays s (with_sreg (with_pair s d n) flags)
low_pair_result s d n flags low =
    through s (with_pair s d n) (with_byte (with_pair s d n) 0x5F flags) (low_pair s d n (omega arith)) (low_byte
    (with_pair s d n) 0x5F flags (omega arith))

-- ---- stores

-- a byte stands at an address where that is in the SRAM, and all others of the SRAM stay
pub record IsStored (s : State) (at byte : ℕ) (t : State) : Type 0 where
  pub here : 256 ≤ at → byte_at t at ≡ byte
  pub others : (a : ℕ) → 256 ≤ a → a ≢ at → byte_at t a ≡ byte_at s a

pub stores : (s : State) (at byte : ℕ) → at < length s.mem.data → IsStored s at byte (stored s at byte)
stores s at byte inside = by_port (is_port s.core at) refl
  where
    by_port : (b : Bool) → is_port s.core at ≡ b → IsStored s at byte (if b then s else with_byte s at byte)
    by_port true e =
        record {
          here = λ high. let low = ltb-true at 256 (and_parts (nat_lt at 256) (not (is_core_register s.core at)) e).0 in absurd (omega arith);
          others = λ a high apart. refl;
        }
    by_port false e =
        record {
          here = λ high. get_or-set_same s.mem.data at byte 0 inside;
          others = λ a high apart. get_or-set_other s.mem.data at a byte 0 apart;
        }

-- the program counter is no part of it
pub and_passed : (s t : State) (at byte words : ℕ) → IsStored s at byte t → IsStored s at byte (passed t words)
and_passed s t at byte words h = record { here = h.here; others = h.others }

-- a pointer is moved after the store, or before it
pub and_moved : (s t : State) (at byte pointer n : ℕ) → pointer < 32 → IsStored s at byte t → IsStored s at byte (with_pair t pointer n)
and_moved s t at byte pointer n low h =
    let stays = low_pair t pointer n (omega arith) in
    record { here = λ high. stays at high ∙ h.here high; others = λ a high apart. stays a high ∙ h.others a high apart }

pub moved_before : (s moved t : State) (at byte : ℕ) → SramStays s moved → IsStored moved at byte t → IsStored s at byte t
moved_before s moved t at byte stays h =
    record { here = h.here; others = λ a high apart. h.others a high apart ∙ stays a high }

pub kept_size : (s : State) (pointer n : ℕ) → length (with_pair s pointer n).mem.data ≡ length s.mem.data
kept_size s pointer n =
    length-set (with_byte s pointer (n % 256)).mem.data (pointer + 1) (n / 256) ∙ length-set s.mem.data pointer (n % 256)
