-- What the pieces of code do.
use Rattle.std.specs.Prelude.{◌≡◌, ◌≢◌, ℕ, suc, ◌+◌, ◌-◌, ◌*◌, ◌%◌, ◌^◌, ◌<◌, ◌≤◌, ◌==◌, nat_lt, Bool, true}
use Rattle.std.specs.Int.{from_bool}
use Rattle.ec_asm.specs.declared.pieces.Location.{Location}
use Rattle.ec_asm.specs.View.{View}
use Rattle.ec_asm.specs.Change.{Env, Own}
use Rattle.ec_asm.specs.Items.{block, all_straight, code_steps, code_words}
use Rattle.ec_asm.specs.Pieces.{StandsFrom, Outside, value, bitwise}
use Rattle.ec_asm.specs.PieceLaws.{HoldsNumbers, moved_up}
use Rattle.ec_select_bytes.specs.Values.{byte_of}
use Rattle.ec_select_numbers.specs.declared.operators.ByNumber.{ByNumber}
use Rattle.ec_select_numbers.specs.declared.operators.ByNumber.TheVariants.{Subtract}
use Rattle.ec_select_numbers.specs.ByNumber.{as_operator, put_code, changed_code, added_code, compared_code}

-- only R30, the flags and n bytes from a have changed, all bytes are below 256, and nothing was seen
pub record KeepsOthers (v0 v : View) (a n : ℕ) : Type 0 where
  pub same : (k : ℕ) → k ≢ 0 → k ≢ 1 → k ≢ 30 → Outside a n k → v.at k ≡ v0.at k
  pub bytes : HoldsNumbers v
  pub inputs : v.inputs ≡ v0.inputs
  pub safe : v.safe ≡ v0.safe
  pub seen : v.seen ≡ v0.seen

-- only R30, R31, the flags and n bytes from a have changed, all bytes are below 256, and nothing was seen
pub record KeepsBeside (v0 v : View) (a n : ℕ) : Type 0 where
  pub same : (k : ℕ) → k ≢ 0 → k ≢ 1 → k ≢ 30 → k ≢ 31 → Outside a n k → v.at k ≡ v0.at k
  pub bytes : HoldsNumbers v
  pub inputs : v.inputs ≡ v0.inputs
  pub safe : v.safe ≡ v0.safe
  pub seen : v.seen ≡ v0.seen

-- n bytes from a are those of a number, and all else is kept but R30 and R31
pub record IsPut (v0 v : View) (a number n : ℕ) : Type 0 where
  pub there : (j : ℕ) → j < n → v.at (a + j) ≡ byte_of number j
  pub bytes : HoldsNumbers v0 → HoldsNumbers v
  pub same : (k : ℕ) → k ≢ 30 → k ≢ 31 → Outside a n k → v.at k ≡ v0.at k
  pub flags : v.flags ≡ v0.flags
  pub inputs : v.inputs ≡ v0.inputs
  pub safe : v.safe ≡ v0.safe
  pub seen : v.seen ≡ v0.seen

-- the lowest bytes of a number are put to a place
abbrev pub NumbersArePut : Type 0
NumbersArePut =
    (e : Env) (p : Location) (number n a : ℕ) (v : View) → StandsFrom e p n a Own → Outside a n 30
    → IsPut v (block e (put_code p number n) v) a number n

-- the difference, modulo 256 ^ n
abbrev pub NumbersAreSubtracted : Type 0
NumbersAreSubtracted =
    (e : Env) (p : Location) (number n a : ℕ) (v : View) → StandsFrom e p n a Own → Outside a n 30 → HoldsNumbers v
    → let w = block e (changed_code Subtract p number n) v in
    KeepsBeside v w a n × (value w.at a n ≡ (value v.at a n + 256 ^ n - number % 256 ^ n) % 256 ^ n)

-- the sum of up to 16 bytes
abbrev pub NumbersAreAdded : Type 0
NumbersAreAdded =
    (e : Env) (p : Location) (number n a : ℕ) (v : View) → n ≤ 16 → number < 256 ^ 16 → StandsFrom e p n a Own
    → Outside a n 30 → HoldsNumbers v → let w = block e (added_code p number n) v in
    KeepsBeside v w a n × (value w.at a n ≡ (value v.at a n + number) % 256 ^ n)

-- AND and OR of each byte
abbrev pub NumbersChangeBits : Type 0
NumbersChangeBits =
    (op : ByNumber) (e : Env) (p : Location) (number n a : ℕ) (v : View) → op ≢ Subtract → StandsFrom e p n a Own
    → Outside a n 30 → HoldsNumbers v → let w = block e (changed_code op p number n) v in
    KeepsBeside v w a n
    × ((j : ℕ) → j < n → w.at (a + j) ≡ bitwise (as_operator op) (v.at (a + j)) (byte_of number j))

-- After the comparison of at least one byte C tells which number is less, S which is less in two's complement, and Z
-- whether they are equal. All else is kept but R0 and R30
pub record ComparesWith (e : Env) (p : Location) (number n a : ℕ) (v w : View) : Type 0 where
  pub less : w.flags.c ≡ from_bool (nat_lt (value v.at a (suc n)) (number % 256 ^ suc n))
  pub less_signed : w.flags.s
      ≡ from_bool (nat_lt (moved_up (suc n) (value v.at a (suc n))) (moved_up (suc n) (number % 256 ^ suc n)))
  pub equal : w.flags.z ≡ from_bool (value v.at a (suc n) == number % 256 ^ suc n)
  pub keeps : KeepsOthers v w a 0

abbrev pub NumbersAreCompared : Type 0
NumbersAreCompared =
    (e : Env) (p : Location) (number n a : ℕ) (v : View) → StandsFrom e p (suc n) a Own → Outside a (suc n) 30
    → HoldsNumbers v → ComparesWith e p number n a v (block e (compared_code p number (suc n)) v)

-- the code is straight, and has at most so many steps and words
pub record IsShort (straight : Bool) (steps words most_steps most_words : ℕ) : Type 0 where
  pub is_straight : straight ≡ true
  pub few_steps : steps ≤ most_steps
  pub few_words : words ≤ most_words

abbrev pub NumbersAreStraight : Type 0
NumbersAreStraight =
    (op : ByNumber) (p : Location) (number n : ℕ) → let c = changed_code op p number n in
    let d = compared_code p number n in
    IsShort (all_straight c) (code_steps c) (code_words c) (3 * n) (5 * n)
    × IsShort (all_straight d) (code_steps d) (code_words d) (3 * n) (4 * n)

abbrev pub PutsAreStraight : Type 0
PutsAreStraight =
    (p : Location) (number n : ℕ) → let c = put_code p number n in
    IsShort (all_straight c) (code_steps c) (code_words c) (2 * n) (3 * n)
