-- Laws of the code of complement and negation.
use Rattle.std.specs.Prelude.{◌≡◌, ℕ, ◌+◌, ◌-◌, ◌*◌, ◌%◌, ◌^◌, ◌<◌, ◌≤◌, true}
use Rattle.ec_asm.specs.declared.pieces.Location.{Location}
use Rattle.ec_asm.specs.View.{View}
use Rattle.ec_asm.specs.Change.{Env, Own}
use Rattle.ec_asm.specs.Items.{block, all_straight, code_steps, code_words}
use Rattle.ec_asm.specs.Pieces.{StandsFrom, Keeps, value}
use Rattle.ec_asm.specs.PieceLaws.{HoldsNumbers, AreHeld}
use Rattle.ec_select_bytes.specs.Complements.{complement_code, negation_code}

-- n bytes from an address hold a number, and all else is kept but R0, R1 and the flags
pub record Leaves (v : View) (a n number : ℕ) (w : View) : Type 0 where
  pub number_is : value w.at a n ≡ number
  pub numbers : AreHeld w.at a n
  pub keeps : Keeps v w a n

-- all bits are turned
abbrev pub ComplementsAreRight : Type 0
ComplementsAreRight =
    (e : Env) (p : Location) (n a : ℕ) (v : View) → StandsFrom e p n a Own → HoldsNumbers v
    → Leaves v a n (256 ^ n - 1 - value v.at a n) (block e (complement_code p n) v)

-- what is missing to 256 ^ n, modulo 256 ^ n
abbrev pub NegationsAreRight : Type 0
NegationsAreRight =
    (e : Env) (p : Location) (n a : ℕ) (v : View) → StandsFrom e p n a Own → HoldsNumbers v
    → Leaves v a n ((256 ^ n - value v.at a n) % 256 ^ n) (block e (negation_code p n) v)

abbrev pub ComplementsAreStraight : Type 0
ComplementsAreStraight =
    (p : Location) (n : ℕ)
    → (all_straight (complement_code p n) ≡ true) × (all_straight (negation_code p n) ≡ true)

abbrev pub ComplementsTake : Type 0
ComplementsTake =
    (p : Location) (n : ℕ) → (code_steps (complement_code p n) ≤ 3 * n) × (code_steps (negation_code p n) ≤ 1 + 6 * n)

abbrev pub ComplementsHave : Type 0
ComplementsHave =
    (p : Location) (n : ℕ) → (code_words (complement_code p n) ≤ 5 * n) × (code_words (negation_code p n) ≤ 1 + 10 * n)
