-- Laws of the pieces of code.
use Rattle.std.specs.Prelude.{◌≡◌, ℕ, suc, ◌+◌, ◌-◌, ◌*◌, ◌<◌, ◌≤◌, ◌==◌, Bool, true}
use Rattle.std.specs.Int.{from_bool}
use Rattle.ec_asm.specs.declared.pieces.Location.{Location}
use Rattle.ec_asm.specs.View.{View}
use Rattle.ec_asm.specs.Change.{Env, Own}
use Rattle.ec_asm.specs.Items.{block, all_straight, code_steps, code_words}
use Rattle.ec_asm.specs.Pieces.{StandsFrom, Outside, Keeps, KeepsAll, value}
use Rattle.ec_asm.specs.PieceLaws.{HoldsNumbers}
use Rattle.ec_select_bytes.specs.Values.{constant_code, ConstantTo, test_code, extend_code, fill_of}

-- a constant stands where it was put, R30 being no byte of that place
abbrev pub ConstantsAreRight : Type 0
ConstantsAreRight =
    (e : Env) (p : Location) (n a number : ℕ) (v : View) → StandsFrom e p n a Own → Outside a n 30
    → ConstantTo v a number n (block e (constant_code p number n) v)

-- after the test of at least one byte Z tells whether the number is 0
abbrev pub TestsTellZero : Type 0
TestsTellZero =
    (e : Env) (p : Location) (n a : ℕ) (v : View) → StandsFrom e p (suc n) a Own → HoldsNumbers v
    → (block e (test_code p (suc n)) v).flags.z ≡ from_bool (value v.at a (suc n) == 0)

abbrev pub TestsKeep : Type 0
TestsKeep =
    (e : Env) (p : Location) (n a : ℕ) (v : View) → StandsFrom e p n a Own → HoldsNumbers v
    → KeepsAll v (block e (test_code p n) v)

-- the bytes above a number of m + 1 bytes, up to n bytes: 0, or 255 where the number is signed and negative
pub record Extends (v0 : View) (signed : Bool) (a m n : ℕ) (v : View) : Type 0 where
  pub there : (j : ℕ) → suc m ≤ j → j < n → v.at (a + j) ≡ fill_of signed (v0.at (a + m))
  pub keeps : Keeps v0 v (a + suc m) (n - suc m)

abbrev pub ExtensionsAreRight : Type 0
ExtensionsAreRight =
    (signed : Bool) (e : Env) (p : Location) (m n a : ℕ) (v : View) → StandsFrom e p n a Own → suc m ≤ n
    → HoldsNumbers v → Extends v signed a m n (block e (extend_code signed p (suc m) n) v)

-- the code is straight
abbrev pub ValuesAreStraight : Type 0
ValuesAreStraight =
    (p : Location) (number m n : ℕ)
    → (all_straight (constant_code p number n) ≡ true) × (all_straight (test_code p n) ≡ true)
    × ((signed : Bool) → all_straight (extend_code signed p m n) ≡ true)

-- the steps that it takes at most
abbrev pub ValuesTake : Type 0
ValuesTake =
    (p : Location) (number m n : ℕ)
    → (code_steps (constant_code p number n) ≤ 2 * n) × (code_steps (test_code p n) ≤ 1 + 2 * n)
    × ((signed : Bool) → code_steps (extend_code signed p m n) ≤ 3 + n)

-- and the words that it has at most
abbrev pub ValuesHave : Type 0
ValuesHave =
    (p : Location) (number m n : ℕ)
    → (code_words (constant_code p number n) ≤ 3 * n) × (code_words (test_code p n) ≤ 1 + 3 * n)
    × ((signed : Bool) → code_words (extend_code signed p m n) ≤ 4 + 2 * n)
