-- What tests and comparisons leave in a flag, and what a branch over a jump makes of it.
use Rattle.std.proofs.Common.{◌≡◌, ℕ, zero, suc, ◌+◌, ◌-◌, ◌≤◌, Bool, true, false, not, [], ◌∷◌, None, Some, refl, sym, ap, ◌∙◌, arith}
use Rattle.std.specs.Prelude.{◌==◌, ◌++◌, nat_le, if◌then◌else◌}
use Rattle.std.specs.Int.{from_bool}
use Rattle.std.proofs.lemmas.Bool.{eqb-true, false≢true}
use Rattle.ec_isa.specs.declared.instructions.Instr.TheVariants.{Cpi, Ldi}
use Rattle.ec_asm.specs.declared.items.AsmItem.TheVariants.{Plain}
use Rattle.ec_asm.specs.declared.pieces.Location.{Location}
use Rattle.ec_asm.specs.declared.pieces.Location.TheVariants.{InRegisters, InMemory}
use Rattle.ec_asm.specs.Change.{flag_at}
use Rattle.ec_asm.specs.Items.{code_steps, chain}
use Rattle.ec_asm.specs.Pieces.{compares}
use Rattle.ec_asm.specs.Takes.{if_bit}
use Rattle.ec_asm.specs.View.{View}
use Rattle.ec_asm.proofs.Hoare.{steps-append}
use Rattle.ec_select_bytes.specs.Values.{byte_of, byte_test, first_byte, join_code, test_code}
use Rattle.ec_select_numbers.specs.ByNumber.{compared_byte, compared_code}
use Rattle.ec_select_order.specs.declared.relations.Relation.{Relation}
use Rattle.ec_select_order.specs.declared.relations.Relation.TheVariants.{Less, NotLess, Equal, NotEqual}
use Rattle.ec_select_order.specs.Relations.{flag_of, is_set}
use Rattle.ec_select_operations.specs.declared.families.Told.{Told}
use Rattle.ec_select_operations.specs.declared.families.Told.TheVariants.{Operands, InZ, Index}
use Rattle.ec_select_operations.specs.Code.{opposite, turned}
use Rattle.ec_select_functions.proofs.Truth.{not_not}

-- ---- what a flag tells

-- whether operands stand so
pub record FlagTells (truth : Bool) (r : Relation) (s : Bool) (v : View) : Type 0 where
  pub holds : truth ≡ true → flag_at v.flags (flag_of r s) ≡ if_bit (is_set r)
  pub fails : truth ≡ false → flag_at v.flags (flag_of r s) ≡ if_bit (not (is_set r))

-- no flag tells anything of a pointer or an index in Z
abbrev pub TellsTruth : (truth : Bool) → Told → View → Type 0
TellsTruth truth (Operands r s) v = FlagTells truth r s v
TellsTruth truth (InZ offset) v = ⊥
TellsTruth truth Index v = ⊥

-- Z tells whether a number is 0
pub zero_told : (b : Bool) (v : View) → v.flags.z ≡ from_bool b → TellsTruth b (turned None) v
zero_told true v q = record { holds = λ z. q; fails = λ z. absurd (false≢true (sym z)) }
zero_told false v q = record { holds = λ z. absurd (false≢true z); fails = λ z. q }

-- the flag that tells whether operands stand so tells whether they do not
opposite_flag : (r : Relation) (s : Bool) → flag_of (opposite r) s ≡ flag_of r s
opposite_flag Less true = refl
opposite_flag Less false = refl
opposite_flag NotLess true = refl
opposite_flag NotLess false = refl
opposite_flag Equal s = refl
opposite_flag NotEqual s = refl

opposite_set : (r : Relation) → is_set (opposite r) ≡ not (is_set r)
opposite_set Less = refl
opposite_set NotLess = refl
opposite_set Equal = refl
opposite_set NotEqual = refl

pub turned_told : (truth : Bool) (told : Told) (v : View) → TellsTruth truth told v → TellsTruth (not truth) (turned (Some told)) v
turned_told true (Operands r s) v h = record {
  holds = λ z. absurd (false≢true z);
  fails = λ z. ap (flag_at v.flags) (opposite_flag r s) ∙ h.holds refl
      ∙ ap if_bit (sym (ap not (opposite_set r) ∙ not_not (is_set r)));
}
turned_told false (Operands r s) v h = record {
  holds = λ z. ap (flag_at v.flags) (opposite_flag r s) ∙ h.fails refl ∙ ap if_bit (sym (opposite_set r));
  fails = λ z. absurd (false≢true (sym z));
}
turned_told truth (InZ offset) v h = absurd h
turned_told truth Index v h = absurd h

-- ---- at least one step

-- a test of a number of some bytes
pub test_some : (p : Location) (n : ℕ) → 1 ≤ n → 1 ≤ code_steps (test_code p n)
test_some p n some = by_bytes p (n == 0) (n == 1) (λ q. let z = eqb-true n 0 q in absurd (omega (arith, some, z)))
  where
    by_bytes : (p : Location) (none one : Bool) → (none ≡ true → ⊥)
        → 1 ≤ code_steps (if none then [] else (if one then byte_test p else first_byte p ++ join_code p (n - 1)))
    by_bytes p true one h = absurd (h refl)
    by_bytes (InRegisters r) false true h = omega arith
    by_bytes (InMemory o k) false true h = omega arith
    by_bytes (InRegisters r) false false h =
        omega (arith, steps-append (first_byte (InRegisters r)) (join_code (InRegisters r) (n - 1)))
    by_bytes (InMemory o k) false false h =
        omega (arith, steps-append (first_byte (InMemory o k)) (join_code (InMemory o k) (n - 1)))

byte_some : (p : Location) (k i : ℕ) → 1 ≤ code_steps (compared_byte p k i)
byte_some (InRegisters r) k zero = by_place (nat_le 16 r)
  where
    by_place : (b : Bool) → 1 ≤ code_steps
        (if b then Plain (Cpi r k) ∷ [] else Plain (Ldi 30 k) ∷ Plain (compares zero (r + zero) 30) ∷ [])
    by_place true = omega arith
    by_place false = omega arith
byte_some (InRegisters r) k (suc i) = omega arith
byte_some (InMemory o j) k i = omega arith

-- a comparison with a number
pub comparison_some : (p : Location) (number n : ℕ) → 1 ≤ code_steps (compared_code p number (suc n))
comparison_some p number n =
    let here = byte_some p (byte_of number n) n in
    omega (arith, here, steps-append (chain (λ i. compared_byte p (byte_of number i) i) n) (compared_byte p (byte_of number n) n))
