-- Laws of the code of products.
use Rattle.std.specs.Prelude.{◌≡◌, ◌≢◌, ℕ, ◌+◌, ◌*◌, ◌%◌, ◌^◌, ◌≤◌, Bool}
use Rattle.ec_asm.specs.declared.pieces.Location.{Location}
use Rattle.ec_asm.specs.View.{View}
use Rattle.ec_asm.specs.Change.{Env, Own}
use Rattle.ec_asm.specs.Items.{HasAt, code_words}
use Rattle.ec_asm.specs.Pieces.{StandsFrom, Outside, value}
use Rattle.ec_asm.specs.PieceLaws.{HoldsNumbers}
use Rattle.ec_asm.specs.Takes.{Goes}
use Rattle.ec_select_products.specs.Products.{product_of, product_code}

-- a run from one word to another, of at most so many steps, that leaves a number in n bytes from an address, and keeps
-- all else but R0, R1, R30, R31 and the flags
pub record Leads (e : Env) (most pc : ℕ) (v : View) (end a n number : ℕ) : Type 0 where
  pub steps : ℕ
  pub at_most : steps ≤ most
  pub last : View
  pub goes : Goes e steps pc v end last
  pub number_is : value last.at a n ≡ number
  pub numbers : HoldsNumbers last
  pub same : (k : ℕ) → k ≢ 0 → k ≢ 1 → Outside 30 2 k → Outside a n k → last.at k ≡ v.at k
  pub inputs : last.inputs ≡ v.inputs
  pub safe : last.safe ≡ v.safe
  pub seen : last.seen ≡ v.seen

-- two bytes at a and b, where neither stands in R30 or R31
abbrev pub ProductsAreRight : Type 0
ProductsAreRight =
    (left right : Bool) (e : Env) (p q to : Location) (n a b c pc end : ℕ) (v : View) → StandsFrom e p 1 a Own
    → StandsFrom e q 1 b Own → StandsFrom e to n c Own → n ≤ 2 → Outside 30 2 a → Outside 30 2 b → HoldsNumbers v
    → HasAt e (product_code left right p q to n) pc end
    → Leads e (9 + n) pc v end c n (product_of left right (v.at a) (v.at b) % 256 ^ n)

abbrev pub ProductsHaveWords : Type 0
ProductsHaveWords =
    (left right : Bool) (p q to : Location) (n : ℕ) → code_words (product_code left right p q to n) ≤ 9 + 2 * n
