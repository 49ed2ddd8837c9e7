-- The formats of instructions: where the bits of the fields stand in the first word, the values that the fields may
-- have, and whether a second word follows (Microchip AVR Instruction Set Manual, the "16-bit Opcode" of each
-- instruction). The bits stand from 15 to 0. A dot is a bit of the opcode, which is 0 in the part that is added here.
use Rattle.std.specs.Prelude.{ℕ, suc, ◌+◌, ◌-◌, ◌*◌, ◌/◌, ◌%◌, Bool, true, not, ◌&&◌, ◌==◌, nat_lt, nat_le, ℤ, pos}
use Rattle.std.specs.Prelude.{negsuc, Option, Some, None, if◌then◌else◌}
use Rattle.ec_isa.specs.declared.instructions.Words.{Words}

-- a row of the table, at some values of its fields
pub record Row : Type 0 where
  -- the fields are in the row's ranges, and it is none of the forms that are left out
  pub in_range : Bool
  pub first : ℕ
  pub second : Option ℕ

-- the words of a row
abbrev pub words_of : Row → Option Words
words_of row = if row.in_range then Some (record { first = row.first; second = row.second }) else None

-- a number of a register, R0 to R31
abbrev pub is_register : ℕ → Bool
is_register d = nat_lt d 32

-- a signed number from -half to half - 1
abbrev pub is_signed : ℕ → ℤ → Bool
is_signed half (pos k) = nat_lt k half
is_signed half (negsuc k) = nat_lt k half

-- a signed number as a field of that many values holds it, in two's complement
abbrev pub twos_complement : ℕ → ℤ → ℕ
twos_complement values (pos k) = k
twos_complement values (negsuc k) = values - suc k

-- no fields
abbrev pub bare : ℕ → Row
bare opcode = record { in_range = true; first = opcode; second = None }

-- .... .... dddd rrrr, at even registers, halved
abbrev pub register_pairs : ℕ → ℕ → ℕ → Row
register_pairs opcode d r = record {
  in_range = is_register d && is_register r && (d % 2 == 0) && (r % 2 == 0);
  first = opcode + d / 2 * 16 + r / 2;
  second = None;
}

-- .... ..rd dddd rrrr
abbrev pub two_registers : ℕ → ℕ → ℕ → Row
two_registers opcode d r = record {
  in_range = is_register d && is_register r;
  first = opcode + r / 16 * 512 + d * 16 + r % 16;
  second = None;
}

-- .... KKKK dddd KKKK, at R16 to R31, less 16
abbrev pub immediate : ℕ → ℕ → ℕ → Row
immediate opcode d k = record {
  in_range = nat_le 16 d && is_register d && nat_lt k 256;
  first = opcode + k / 16 * 256 + (d - 16) * 16 + k % 16;
  second = None;
}

-- ..q. qq.d dddd .qqq
abbrev pub displacement : ℕ → ℕ → ℕ → Row
displacement opcode d q = record {
  in_range = is_register d && nat_lt q 64;
  first = opcode + q / 32 * 8192 + q / 8 % 4 * 1024 + d * 16 + q % 8;
  second = None;
}

-- .... ...d dddd ....
abbrev pub register : ℕ → ℕ → Row
register opcode d = record { in_range = is_register d; first = opcode + d * 16; second = None }

-- .... ...d dddd .... beside a pointer that changes: d is none of the pointer's two registers
abbrev pub register_beside : ℕ → ℕ → ℕ → Row
register_beside pointer opcode d = record {
  in_range = is_register d && not (d == pointer) && not (d == pointer + 1);
  first = opcode + d * 16;
  second = None;
}

-- .... ...d dddd ...., then kkkk kkkk kkkk kkkk
abbrev pub register_and_address : ℕ → ℕ → ℕ → Row
register_and_address opcode d k = record {
  in_range = is_register d && nat_lt k 65536;
  first = opcode + d * 16;
  second = Some k;
}

-- .... .... .sss ....
abbrev pub flag : ℕ → ℕ → Row
flag opcode s = record { in_range = nat_lt s 8; first = opcode + s * 16; second = None }

-- no fields, then kkkk kkkk kkkk kkkk
abbrev pub address : ℕ → ℕ → Row
address opcode k = record { in_range = nat_lt k 65536; first = opcode; second = Some k }

-- .... .... KKdd KKKK, at 24, 26, 28 and 30, as 0 to 3
abbrev pub pair_immediate : ℕ → ℕ → ℕ → Row
pair_immediate opcode d k = record {
  in_range = nat_le 24 d && nat_lt d 31 && (d % 2 == 0) && nat_lt k 64;
  first = opcode + k / 16 * 64 + (d - 24) / 2 * 16 + k % 16;
  second = None;
}

-- .... .AAd dddd AAAA
abbrev pub port : ℕ → ℕ → ℕ → Row
port opcode d a = record {
  in_range = is_register d && nat_lt a 64;
  first = opcode + a / 16 * 512 + d * 16 + a % 16;
  second = None;
}

-- .... kkkk kkkk kkkk
abbrev pub relative : ℕ → ℤ → Row
relative opcode k = record {
  in_range = is_signed 2048 k;
  first = opcode + twos_complement 4096 k;
  second = None;
}

-- .... ..kk kkkk ksss
abbrev pub branch : ℕ → ℕ → ℤ → Row
branch opcode s k = record {
  in_range = nat_lt s 8 && is_signed 64 k;
  first = opcode + twos_complement 128 k * 8 + s;
  second = None;
}

-- .... ...d dddd .bbb
abbrev pub register_bit : ℕ → ℕ → ℕ → Row
register_bit opcode d b = record {
  in_range = is_register d && nat_lt b 8;
  first = opcode + d * 16 + b;
  second = None;
}
