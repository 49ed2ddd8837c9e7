-- The machine as proofs about code see it.
use Rattle.std.specs.Prelude.{ℕ, ◌+◌, ◌*◌, ◌/◌, ◌%◌, ◌==◌, Bool, ◌||◌, if◌then◌else◌, List, slice_index}
use Rattle.std.specs.Int.{bit_at}
use Rattle.ec_avr.specs.declared.machine.Access.{Access}
use Rattle.ec_avr.specs.Machine.{Inputs}

-- The flags that code looks at, each 0 or 1. No code looks at H and I
pub record Flags : Type 0 where
  pub c : ℕ
  pub z : ℕ
  pub n : ℕ
  pub v : ℕ
  pub s : ℕ
  pub t : ℕ

-- Every data byte but SREG and the one at 0x5B by its address, the flags by name, the byte at 0x5B, which is RAMPZ on the
-- core `large` and a port's on `small`, what the ports are going to give, and the accesses that were noted. `safe` tells
-- that no access was one that is barred
pub record View : Type 0 where
  pub at : ℕ → ℕ
  pub flags : Flags
  pub page : ℕ
  pub inputs : Inputs
  pub seen : List Access
  pub safe : Bool

abbrev pub put : (ℕ → ℕ) → ℕ → ℕ → ℕ → ℕ
put f a x k = if k == a then x else f k

-- the addresses of RAMPZ and SREG, which the view has apart
abbrev pub is_apart : ℕ → Bool
is_apart a = a == 0x5B || a == 0x5F

-- every other byte, and those two as 0
abbrev pub bytes_of : List ℕ → ℕ → ℕ
bytes_of bytes a = if is_apart a then 0 else slice_index bytes a

abbrev pub flags_of : ℕ → Flags
flags_of sreg = record {
  c = bit_at sreg 0;
  z = bit_at sreg 1;
  n = bit_at sreg 2;
  v = bit_at sreg 3;
  s = bit_at sreg 4;
  t = bit_at sreg 6;
}

-- two neighbouring bytes as a number, the low one first
abbrev pub pair : (ℕ → ℕ) → ℕ → ℕ
pair f a = f a + 256 * f (a + 1)

abbrev pub put_pair : (ℕ → ℕ) → ℕ → ℕ → ℕ → ℕ
put_pair f a n = put (put f a (n % 256)) (a + 1) (n / 256)
