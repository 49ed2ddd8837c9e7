-- How long the generated texts are.
use Rattle.std.proofs.Common.{arith, ◌≡◌, refl, ◌≤◌, ◌*◌, ◌%◌, ◌++◌, ℕ, zero, suc, length}
use Rattle.std.specs.Fmt.{decimal}
use Rattle.std.proofs.lemmas.Fmt.{length-decimal-le}
use Rattle.std.proofs.lemmas.List.{length-append}
use Rattle.std.proofs.lemmas.Nat.{mod_below}
use Rattle.ec_generate.specs.Generated.{comma_behind, table_values, table_name, table_start, table_end, table_line, loop_start, loop_end}
use Rattle.ec_generate.specs.Generated.{loop_line, include_line, first_lines, last_lines, generated, map_text}

comma_fits : (i : ℕ) → length (comma_behind i) ≤ 1
comma_fits zero = omega arith
comma_fits (suc i) = omega arith

values_fit : (i : ℕ) → length (table_values i) ≤ 2 * i
values_fit zero = omega arith
values_fit (suc i) =
    let all = length-append (table_values i) (comma_behind i ++ decimal (i % 10)) in
    let last = length-append (comma_behind i) (decimal (i % 10)) in
    let below = mod_below i 10 (omega arith) in
    let digit = length-decimal-le 1 (i % 10) (omega arith) below (omega (arith, below)) in
    omega (arith, all, last, digit, comma_fits i, values_fit i)

number_fits : (n : ℕ) → n ≤ 2000 → length (decimal n) ≤ 4
number_fits n most = length-decimal-le 4 n (omega arith) (omega (arith, most)) (omega (arith, most))

table_fits : (n : ℕ) → n ≤ 2000 → length (table_line n) ≤ 4100
table_fits n most =
    let all = length-append table_name (decimal n ++ (table_start ++ (table_values n ++ table_end))) in
    let behind = length-append (decimal n) (table_start ++ (table_values n ++ table_end)) in
    let values = length-append table_start (table_values n ++ table_end) in
    let last = length-append (table_values n) table_end in
    let a : length table_name ≡ 20 = refl in
    let b : length table_start ≡ 5 = refl in
    let c : length table_end ≡ 3 = refl in
    omega (arith, most, all, behind, values, last, a, b, c, number_fits n most, values_fit n)

loop_fits : (n : ℕ) → n ≤ 2000 → length (loop_line n) ≤ 100
loop_fits n most =
    let all = length-append loop_start (decimal n ++ loop_end) in
    let behind = length-append (decimal n) loop_end in
    let a : length loop_start ≡ 18 = refl in
    let b : length loop_end ≡ 15 = refl in
    omega (arith, all, behind, a, b, number_fits n most)

-- the text of a program is within the limit of a source
pub text_fits : (n : ℕ) → n ≤ 2000 → length (generated n) ≤ 65536
text_fits n most =
    let all = length-append include_line (table_line n ++ (first_lines ++ (loop_line n ++ last_lines))) in
    let behind = length-append (table_line n) (first_lines ++ (loop_line n ++ last_lines)) in
    let second = length-append first_lines (loop_line n ++ last_lines) in
    let third = length-append (loop_line n) last_lines in
    let a : length include_line ≡ 18 = refl in
    let b : length first_lines ≡ 63 = refl in
    let c : length last_lines ≡ 97 = refl in
    omega (arith, all, behind, second, third, a, b, c, table_fits n most, loop_fits n most)

pub map_fits : length map_text ≤ 16384
map_fits = let a : length map_text ≡ 333 = refl in omega (arith, a)
