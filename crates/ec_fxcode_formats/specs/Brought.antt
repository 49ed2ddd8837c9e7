-- Code that brings a number from one number of bits behind the point to another: it drops bits, or adds some.
use Rattle.std.specs.Prelude.{ℕ, ◌+◌, ◌-◌, ◌/◌, ◌%◌, ◌==◌, nat_le, nat_lt, Bool, ◌&&◌, ◌||◌, if◌then◌else◌, List}
use Rattle.ec_asm.specs.declared.items.AsmItem.{AsmItem}
use Rattle.ec_asm.specs.declared.pieces.Location.{Location}
use Rattle.ec_fxcode_formats.specs.Cuts.{bytes_below, cut_code}
use Rattle.ec_fxcode_formats.specs.Raises.{spare, raise_code}

-- whole bytes, or 7 bits more
abbrev pub is_step : ℕ → Bool
is_step d = d % 8 == 0 || d % 8 == 7

-- the row has room for the magnitude of m bytes, and for n bytes of it above d bits
abbrev pub can_cut : (m n d : ℕ) → Bool
can_cut m n d = is_step d && (nat_le m 6 && nat_le (bytes_below d + n) 6)

-- the row has room for the bytes of n bytes above u bits, of which there is one at least
abbrev pub can_raise : (n u : ℕ) → Bool
can_raise n u = is_step u && (nat_lt (u / 8) n && nat_le (spare u + (n - u / 8)) 6)

-- there is code that brings m bytes with f bits behind the point to n bytes with r of them
abbrev pub can_bring : (m n f r : ℕ) → Bool
can_bring m n f r = if nat_lt f r then can_raise n (r - f) else can_cut m n (f - r)

abbrev pub bring_code : (signed : Bool) → (p q : Location) → (m n f r : ℕ) → List AsmItem
bring_code signed p q m n f r =
    if nat_lt f r then raise_code signed p q m n (r - f) else cut_code signed p q m n (f - r)
