-- Laws of the code of quotients and remainders with signs.
use Rattle.std.specs.Prelude.{◌≡◌, ◌≢◌, ℕ, suc, ◌+◌, ◌<◌, ◌≤◌, Bool}
use Rattle.ec_asm.specs.declared.pieces.Location.{Location}
use Rattle.ec_asm.specs.View.{View}
use Rattle.ec_asm.specs.Change.{Env, Own}
use Rattle.ec_asm.specs.Items.{HasAt}
use Rattle.ec_asm.specs.Pieces.{StandsFrom, Outside, value}
use Rattle.ec_asm.specs.PieceLaws.{HoldsNumbers}
use Rattle.ec_asm.specs.Takes.{Goes}
use Rattle.ec_select_quotients.specs.Signs.{quotient_of, quotient_code}

-- n bytes from a stand apart from R8 to R13 and R26 to R31
pub record IsClearOf (a n : ℕ) : Type 0 where
  pub low : a < 8 → a + n ≤ 8
  pub above_low : 8 ≤ a → 14 ≤ a
  pub high : a < 26 → a + n ≤ 26
  pub above_high : 26 ≤ a → 32 ≤ a

-- a run from one word to another, of at most so many steps, that leaves a number in n bytes from an address, and keeps
-- all else but R0, R1, R8 to R13, R26, R27, R30, R31 and the flags: so it keeps Y
pub record Leads (e : Env) (most pc : ℕ) (v : View) (end a n number : ℕ) : Type 0 where
  pub steps : ℕ
  pub at_most : steps ≤ most
  pub last : View
  pub goes : Goes e steps pc v end last
  pub number_is : value last.at a n ≡ number
  pub numbers : HoldsNumbers last
  pub same : (k : ℕ) → k ≢ 0 → k ≢ 1 → Outside 8 6 k → Outside 26 2 k → Outside 30 2 k → Outside a n k
      → last.at k ≡ v.at k
  pub inputs : last.inputs ≡ v.inputs
  pub safe : last.safe ≡ v.safe
  pub seen : last.seen ≡ v.seen

-- numbers of one to four bytes, of which the second one is not 0
abbrev pub QuotientsAreRight : Type 0
QuotientsAreRight =
    (r signed : Bool) (e : Env) (p q : Location) (top a b pc end : ℕ) (v : View) → StandsFrom e p (suc top) a Own
    → StandsFrom e q (suc top) b Own → suc top ≤ 4 → IsClearOf a (suc top) → IsClearOf b (suc top) → HoldsNumbers v
    → 1 ≤ value v.at b (suc top) → HasAt e (quotient_code r signed p q top) pc end
    → Leads e 1200 pc v end a (suc top)
    (quotient_of r signed top (value v.at a (suc top)) (value v.at b (suc top)))
