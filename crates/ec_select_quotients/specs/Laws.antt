-- Laws of the code of division.
use Rattle.std.specs.Prelude.{◌≡◌, ◌≢◌, ℕ, suc, ◌+◌, ◌*◌, ◌/◌, ◌%◌, ◌<◌, ◌≤◌, Bool, false}
use Rattle.ec_asm.specs.declared.pieces.Location.{Location}
use Rattle.ec_asm.specs.View.{View}
use Rattle.ec_asm.specs.Change.{Env, Own}
use Rattle.ec_asm.specs.Items.{HasAt}
use Rattle.ec_asm.specs.Pieces.{StandsFrom, Outside, value}
use Rattle.ec_asm.specs.PieceLaws.{HoldsNumbers}
use Rattle.ec_asm.specs.Takes.{Goes}
use Rattle.ec_select_quotients.specs.Quotients.{divisor_register, number_of, divide_code}

-- the bytes in the divisor's registers
abbrev pub divisor_bytes : View → ℕ → ℕ
divisor_bytes v i = v.at (divisor_register i)

-- the rows are laid out: the remainder is 0, the divisor is not, and R30 has the bits of the number
pub record IsReady (n divisor : ℕ) (v : View) : Type 0 where
  pub some : 1 ≤ divisor
  pub divisor_is : number_of (divisor_bytes v) n ≡ divisor
  pub remainder_is : value v.at 8 n ≡ 0
  pub count : v.at 30 ≡ 8 * n
  pub numbers : HoldsNumbers v

-- a run from one word to another, of at most so many steps, that leaves the remainder in R8 and above, and the quotient,
-- where not the remainder alone is wanted, in n bytes from an address. It keeps all else but R0, R1, the bytes of the
-- remainder, R30 and the flags
pub record Divides (r : Bool) (e : Env) (most pc : ℕ) (v : View) (end a n number divisor : ℕ) : Type 0 where
  pub steps : ℕ
  pub at_most : steps ≤ most
  pub last : View
  pub goes : Goes e steps pc v end last
  pub quotient : r ≡ false → value last.at a n ≡ number / divisor
  pub remainder : value last.at 8 n ≡ number % divisor
  pub numbers : HoldsNumbers last
  pub same : (k : ℕ) → k ≢ 0 → k ≢ 1 → k ≢ 30 → Outside 8 n k → Outside a n k → last.at k ≡ v.at k
  pub inputs : last.inputs ≡ v.inputs
  pub safe : last.safe ≡ v.safe
  pub seen : last.seen ≡ v.seen

-- a number of one to four bytes that stands apart from the work registers
abbrev pub DivisionIsRight : Type 0
DivisionIsRight =
    (r : Bool) (e : Env) (p : Location) (n a divisor pc end : ℕ) (v : View) → StandsFrom e p (suc n) a Own → suc n ≤ 4
    → (a < 8 → a + suc n ≤ 8) → (8 ≤ a → 14 ≤ a) → (a < 26 → a + suc n ≤ 26) → (26 ≤ a → 32 ≤ a)
    → IsReady (suc n) divisor v → HasAt e (divide_code r p (suc n)) pc end
    → Divides r e (8 * suc n * (7 * suc n + 6)) pc v end a (suc n) (value v.at a (suc n)) divisor
