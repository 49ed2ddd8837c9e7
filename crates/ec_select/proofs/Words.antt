-- The words of pieces of code.
use Rattle.std.proofs.Common.{◌≡◌, ℕ, zero, suc, ◌+◌, ◌*◌, ◌/◌, ◌%◌, ◌≤◌, Bool, true, false, List, [], ◌∷◌, ◌++◌, refl}
use Rattle.std.proofs.Common.{arith}
use Rattle.std.specs.Prelude.{◌==◌, ◌&&◌, nat_lt, if◌then◌else◌}
use Rattle.std.proofs.lemmas.List.Sums.{sum_by-append}
use Rattle.ec_isa.specs.declared.instructions.Instr.TheVariants.{Movw, Ldi}
use Rattle.ec_asm.specs.declared.items.AsmItem.{AsmItem}
use Rattle.ec_asm.specs.declared.items.AsmItem.TheVariants.{Plain}
use Rattle.ec_asm.specs.declared.pieces.Location.{Location}
use Rattle.ec_asm.specs.declared.pieces.Location.TheVariants.{InRegisters, InMemory}
use Rattle.ec_asm.specs.declared.pieces.Operator.{Operator}
use Rattle.ec_asm.specs.declared.pieces.Operator.TheVariants.{Sum, Difference, BitAnd, BitOr, BitXor}
use Rattle.ec_asm.specs.Change.{words}
use Rattle.ec_asm.specs.Items.{chain, code_words, item_words}
use Rattle.ec_asm.specs.Pieces.{copy_byte, copy_code, instruction, operate_byte, operate_code, compares}
use Rattle.ec_select_quotients.specs.Quotients.{remainder_row, divisor_register, rotate_byte, rotate_code, test_byte}
use Rattle.ec_select_quotients.specs.Quotients.{test_code, rows_code, bring_code, less_byte, less_code, note_code, take_code}
use Rattle.ec_select_quotients.specs.Quotients.{skip_code, count_code, divide_code}
use Rattle.ec_select_quotients.specs.Signs.{fetch_byte, fetch_pairs, fetch_code, spread_code, top_code, divisor_top_code}
use Rattle.ec_select_quotients.specs.Signs.{turn_byte, turn_code, turn_divisor_byte, turn_divisor_code, cross_code}
use Rattle.ec_select_quotients.specs.Signs.{number_sign_code, divisor_sign_code, signs_code, clear_byte, clear_code, start_code}
use Rattle.ec_select_quotients.specs.Signs.{put_pairs, put_code, result_code, sign_code, finish_code, divided_code, quotient_code}
use Rattle.ec_select_operations.specs.Code.{pair_code, odd_code, pairs_code, transfer_code}

pub joined_words : (a b : List AsmItem) → code_words (a ++ b) ≡ code_words a + code_words b
joined_words a b = sum_by-append item_words a b

pub chained_words : (body : ℕ → List AsmItem) (n k : ℕ) → ((i : ℕ) → code_words (body i) ≤ k)
    → code_words (chain body n) ≤ k * n
chained_words body zero k h = omega arith
chained_words body (suc n) k h =
    let r = chained_words body n k h in let b = h n in omega (arith, joined_words (chain body n) (body n), r, b)

-- ---- copies, operators, comparisons

copy_byte_words : (p q : Location) (i : ℕ) → code_words (copy_byte p q i) ≤ 4
copy_byte_words (InRegisters a) (InRegisters b) i = omega arith
copy_byte_words (InMemory o k) (InRegisters b) i = omega arith
copy_byte_words (InRegisters a) (InMemory o k) i = omega arith
copy_byte_words (InMemory o k) (InMemory p j) i = omega arith

pub copy_words_most : (p q : Location) (n : ℕ) → code_words (copy_code p q n) ≤ 4 * n
copy_words_most p q n = chained_words (copy_byte p q) n 4 (copy_byte_words p q)

pairs_words : (r t n : ℕ) → code_words (pairs_code r t n) ≤ 4 * n
pairs_words r t n =
    omega (
      arith,
      joined_words (chain (pair_code r t) (n / 2)) (odd_code r t n),
      chained_words (pair_code r t) (n / 2) 1 (λ i. omega arith),
      by_count (n % 2 == 0) refl,
    )
  where
    some_odd : (n : ℕ) → (n % 2 == 0) ≡ false → 1 ≤ n
    some_odd zero h = cc
    some_odd (suc n) h = omega arith

    by_count : (even : Bool) → (n % 2 == 0) ≡ even
        → code_words (if even then [] else copy_byte (InRegisters r) (InRegisters t) (n / 2 * 2)) ≤ n
    by_count true h = omega arith
    by_count false h = some_odd n h

pub transfer_words_most : (p q : Location) (n : ℕ) → code_words (transfer_code p q n) ≤ 4 * n
transfer_words_most (InRegisters r) (InRegisters t) n = by_evenness (r % 2 == 0 && t % 2 == 0)
  where
    by_evenness : (even : Bool)
        → code_words (if even then pairs_code r t n else copy_code (InRegisters r) (InRegisters t) n) ≤ 4 * n
    by_evenness true = pairs_words r t n
    by_evenness false = copy_words_most (InRegisters r) (InRegisters t) n
transfer_words_most (InRegisters r) (InMemory o k) n = copy_words_most (InRegisters r) (InMemory o k) n
transfer_words_most (InMemory o k) (InRegisters t) n = copy_words_most (InMemory o k) (InRegisters t) n
transfer_words_most (InMemory o k) (InMemory o' k') n = copy_words_most (InMemory o k) (InMemory o' k') n

pub save_words_most : (r o k n : ℕ) → code_words (copy_code (InRegisters r) (InMemory o k) n) ≤ 2 * n
save_words_most r o k n = chained_words (copy_byte (InRegisters r) (InMemory o k)) n 2 (λ i. omega arith)

pub load_words_most : (o k r n : ℕ) → code_words (copy_code (InMemory o k) (InRegisters r) n) ≤ 2 * n
load_words_most o k r n = chained_words (copy_byte (InMemory o k) (InRegisters r)) n 2 (λ i. omega arith)

instruction_words : (op : Operator) (i d r : ℕ) → words (instruction op i d r) ≡ 1
instruction_words Sum zero d r = refl
instruction_words Sum (suc i) d r = refl
instruction_words Difference zero d r = refl
instruction_words Difference (suc i) d r = refl
instruction_words BitAnd i d r = refl
instruction_words BitOr i d r = refl
instruction_words BitXor i d r = refl

operate_byte_words : (op : Operator) (p q : Location) (i : ℕ) → code_words (operate_byte op p q i) ≤ 7
operate_byte_words op (InRegisters a) (InRegisters b) i = let w = instruction_words op i (b + i) (a + i) in rw w (omega arith)
operate_byte_words op (InMemory o k) (InRegisters b) i = let w = instruction_words op i (b + i) 0 in rw w (omega arith)
operate_byte_words op (InRegisters a) (InMemory o k) i = let w = instruction_words op i 0 (a + i) in rw w (omega arith)
operate_byte_words op (InMemory o k) (InMemory p j) i = let w = instruction_words op i 0 1 in rw w (omega arith)

pub operate_words_most : (op : Operator) (p q : Location) (n : ℕ) → code_words (operate_code op p q n) ≤ 7 * n
operate_words_most op p q n = chained_words (operate_byte op p q) n 7 (operate_byte_words op p q)

compares_words : (i d r : ℕ) → words (compares i d r) ≡ 1
compares_words zero d r = refl
compares_words (suc i) d r = refl

-- ---- quotients

test_words_most : (n : ℕ) → code_words (test_code n) ≤ 1 * n
test_words_most n = chained_words test_byte n 1 (λ i. let z = compares_words i (8 + i) (divisor_register i) in rw z (omega arith))

less_words_most : (n : ℕ) → code_words (less_code n) ≤ 1 * n
less_words_most n =
    chained_words less_byte n 1 (λ i. let z = instruction_words Difference i (8 + i) (divisor_register i) in rw z (omega arith))

bring_words_most : (p : Location) (n : ℕ) → code_words (bring_code p n) ≤ 9 * n
bring_words_most p n =
    let a = operate_words_most Sum p p n in
    let b = chained_words rotate_byte n 1 (λ i. omega arith) in
    let c = test_words_most n in
    omega (arith, joined_words (operate_code Sum p p n) (rows_code n), joined_words (rotate_code n) (test_code n), a, b, c)

note_words_most : (r : Bool) (p : Location) → code_words (note_code r p) ≤ 5
note_words_most true p = omega arith
note_words_most false (InRegisters r) = omega arith
note_words_most false (InMemory o k) = omega arith

divide_words_most : (r : Bool) (p : Location) (n : ℕ) → code_words (divide_code r p n) ≤ 10 * n + 8
divide_words_most r p n =
    let a = bring_words_most p n in
    let b = less_words_most n in
    let c = note_words_most r p in
    omega (
      arith,
      joined_words (bring_code p n) (skip_code r p n ++ (take_code r p n ++ count_code r p n)),
      joined_words (skip_code r p n) (take_code r p n ++ count_code r p n),
      joined_words (take_code r p n) (count_code r p n),
      joined_words (less_code n) (note_code r p),
      a,
      b,
      c,
    )

fetch_byte_words : (p : Location) (i : ℕ) → code_words (fetch_byte p i) ≤ 2
fetch_byte_words (InRegisters r) i = omega arith
fetch_byte_words (InMemory o k) i = omega arith

fetch_bytes_words : (p : Location) (n : ℕ) → code_words (chain (fetch_byte p) n) ≤ 2 * n
fetch_bytes_words p n = chained_words (fetch_byte p) n 2 (fetch_byte_words p)

fetch_words : (p : Location) (top : ℕ) → code_words (fetch_code p top) ≤ 2 * suc top
fetch_words (InRegisters r) top = by_evenness (r % 2 == 0)
  where
    by_size : (few : Bool) → code_words (if few then Plain (Movw 12 r) ∷ [] else Plain (Movw 12 r) ∷ Plain (Movw 26 (r + 2)) ∷ []) ≤ 2
    by_size true = omega arith
    by_size false = omega arith

    by_evenness : (even : Bool)
        → code_words (if even then fetch_pairs r top else chain (fetch_byte (InRegisters r)) (suc top)) ≤ 2 * suc top
    by_evenness true = let z = by_size (nat_lt top 2) in omega (arith, z)
    by_evenness false = fetch_bytes_words (InRegisters r) (suc top)
fetch_words (InMemory o k) top = fetch_bytes_words (InMemory o k) (suc top)

top_words : (p : Location) (top : ℕ) → code_words (top_code p top) ≤ 2
top_words (InRegisters r) top = omega arith
top_words (InMemory o k) top = omega arith

turn_byte_words : (p : Location) (i : ℕ) → code_words (turn_byte p i) ≤ 6
turn_byte_words (InRegisters r) i = rw (instruction_words Difference i (r + i) 31) (omega arith)
turn_byte_words (InMemory o k) i = rw (instruction_words Difference i 0 31) (omega arith)

turn_words : (p : Location) (n : ℕ) → code_words (turn_code p n) ≤ 6 * n
turn_words p n = chained_words (turn_byte p) n 6 (turn_byte_words p)

turn_divisor_words : (n : ℕ) → code_words (turn_divisor_code n) ≤ 2 * n
turn_divisor_words n =
    chained_words turn_divisor_byte n 2 (λ i. let z = instruction_words Difference i (divisor_register i) 1 in rw z (omega arith))

cross_words : (r : Bool) → code_words (cross_code r) ≤ 1
cross_words true = omega arith
cross_words false = omega arith

signs_words : (r signed : Bool) (p : Location) (top : ℕ) → code_words (signs_code r signed p top) ≤ 8 * suc top + 8
signs_words r false p top = omega arith
signs_words r true p top =
    let n = suc top in
    let a = top_words p top in
    let b = turn_words p n in
    let c = turn_divisor_words n in
    let d = cross_words r in
    omega (
      arith,
      joined_words (number_sign_code p top) (divisor_sign_code r top),
      joined_words (top_code p top) (spread_code 31 ++ turn_code p n),
      joined_words (spread_code 31) (turn_code p n),
      joined_words (divisor_top_code top) (spread_code 1 ++ (turn_divisor_code n ++ cross_code r)),
      joined_words (spread_code 1) (turn_divisor_code n ++ cross_code r),
      joined_words (turn_divisor_code n) (cross_code r),
      a,
      b,
      c,
      d,
    )

start_words : (n : ℕ) → code_words (start_code n) ≤ n + 1
start_words n =
    let a = chained_words clear_byte n 1 (λ i. omega arith) in
    omega (arith, joined_words (Plain (Ldi 30 (8 * n)) ∷ []) (clear_code n), a)

put_pairs_words : (r n : ℕ) → code_words (put_pairs r n) ≤ 4 * n
put_pairs_words r zero = omega arith
put_pairs_words r (suc zero) = omega arith
put_pairs_words r (suc (suc zero)) = omega arith
put_pairs_words r (suc (suc (suc zero))) = omega arith
put_pairs_words r (suc (suc (suc (suc n)))) = omega arith

put_words : (p : Location) (n : ℕ) → code_words (put_code p n) ≤ 4 * n
put_words (InRegisters r) n = by_evenness (r % 2 == 0)
  where
    by_evenness : (even : Bool)
        → code_words (if even then put_pairs r n else copy_code remainder_row (InRegisters r) n) ≤ 4 * n
    by_evenness true = put_pairs_words r n
    by_evenness false = copy_words_most remainder_row (InRegisters r) n
put_words (InMemory o k) n = copy_words_most remainder_row (InMemory o k) n

result_words : (r : Bool) (p : Location) (n : ℕ) → code_words (result_code r p n) ≤ 4 * n
result_words true p n = put_words p n
result_words false p n = omega arith

sign_words : (signed : Bool) (p : Location) (n : ℕ) → code_words (sign_code signed p n) ≤ 6 * n
sign_words true p n = turn_words p n
sign_words false p n = omega arith

pub quotient_words : (r signed : Bool) (p q : Location) (top : ℕ)
    → code_words (quotient_code r signed p q top) ≤ 31 * suc top + 17
quotient_words r signed p q top =
    let n = suc top in
    let a = fetch_words q top in
    let b = signs_words r signed p top in
    let c = start_words n in
    let d = divide_words_most r p n in
    let e = result_words r p n in
    let f = sign_words signed p n in
    omega (
      arith,
      joined_words (fetch_code q top) (divided_code r signed p top),
      joined_words (signs_code r signed p top) (start_code n ++ finish_code r signed p n),
      joined_words (start_code n) (finish_code r signed p n),
      joined_words (divide_code r p n) (result_code r p n ++ sign_code signed p n),
      joined_words (result_code r p n) (sign_code signed p n),
      a,
      b,
      c,
      d,
      e,
      f,
    )
