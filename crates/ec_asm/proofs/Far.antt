-- Pieces of code for bytes that are code's own stand in their long forms.
use Rattle.std.proofs.Common.{◌≡◌, ℕ, ◌-◌, ◌<◌, Bool, true, refl, arith}
use Rattle.ec_asm.specs.declared.pieces.Location.{Location}
use Rattle.ec_asm.specs.declared.pieces.Location.TheVariants.{InRegisters, InMemory}
use Rattle.ec_asm.specs.declared.pieces.Operator.{Operator}
use Rattle.ec_isa.specs.declared.instructions.Instr.{Instr}
use Rattle.ec_asm.specs.Change.{Env, Own}
use Rattle.ec_asm.specs.Pieces.{StandsFrom, instruction, binary_byte, operate_byte, operate_code, compare_byte, compare_code}
use Rattle.ec_asm.specs.Pieces.{halve_byte, halve_code}
use Rattle.ec_asm.proofs.ItemWords.{all_far, chain_far, own_far}

binary_far : (e : Env) (op : ℕ → ℕ → Instr) (p q : Location) (i n a b : ℕ) → StandsFrom e p n a Own → StandsFrom e q n b Own → i < n
    → all_far e (binary_byte op p q i) ≡ true
binary_far e op (InRegisters r) (InRegisters s) i n a b sp sq l = refl
binary_far e op (InMemory o k) (InRegisters s) i n a b sp sq l = rw (own_far e o k i n a sp l) refl
binary_far e op (InRegisters r) (InMemory o k) i n a b sp sq l = rw (own_far e o k i n b sq l) refl
binary_far e op (InMemory o k) (InMemory u j) i n a b sp sq l = rw (own_far e o k i n a sp l, own_far e u j i n b sq l) refl

pub operate_far : (e : Env) (op : Operator) (p q : Location) (n a b : ℕ) → StandsFrom e p n a Own → StandsFrom e q n b Own
    → all_far e (operate_code op p q n) ≡ true
operate_far e op p q n a b sp sq =
    chain_far e (operate_byte op p q) n (λ i l. binary_far e (instruction op i) p q i n a b sp sq l)

compared_far : (e : Env) (p q : Location) (i n a b : ℕ) → StandsFrom e p n a Own → StandsFrom e q n b Own → i < n
    → all_far e (compare_byte p q i) ≡ true
compared_far e (InRegisters r) (InRegisters s) i n a b sp sq l = refl
compared_far e (InMemory o k) (InRegisters s) i n a b sp sq l = rw (own_far e o k i n a sp l) refl
compared_far e (InRegisters r) (InMemory o k) i n a b sp sq l = rw (own_far e o k i n b sq l) refl
compared_far e (InMemory o k) (InMemory u j) i n a b sp sq l = rw (own_far e o k i n a sp l, own_far e u j i n b sq l) refl

pub compare_far : (e : Env) (p q : Location) (n a b : ℕ) → StandsFrom e p n a Own → StandsFrom e q n b Own
    → all_far e (compare_code p q n) ≡ true
compare_far e p q n a b sp sq = chain_far e (compare_byte p q) n (λ i l. compared_far e p q i n a b sp sq l)

halved_far : (e : Env) (signed : Bool) (p : Location) (n k a : ℕ) → StandsFrom e p n a Own → k < n
    → all_far e (halve_byte signed p n k) ≡ true
halved_far e signed (InRegisters r) n k a sp l = refl
halved_far e signed (InMemory o j) n k a sp l = rw (own_far e o j (n - 1 - k) n a sp (omega (arith, l))) refl

pub halve_far : (e : Env) (signed : Bool) (p : Location) (n a : ℕ) → StandsFrom e p n a Own
    → all_far e (halve_code signed p n) ≡ true
halve_far e signed p n a sp = chain_far e (halve_byte signed p n) n (λ k l. halved_far e signed p n k a sp l)
