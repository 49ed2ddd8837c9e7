-- The command of a row of words.
use Rattle.std.proofs.Common.{◌≡◌, ◌∙◌, ◌≤◌, ℕ, Bool, true, false, List, [], ◌∷◌, Some, None, length, refl, sym, ap, subst}
use Rattle.std.specs.Prelude.{◌==◌, ⊤, ℤ, Option, nat_lt, nat_le, if◌then◌else◌, bytes_eq, codes}
use Rattle.std.proofs.lemmas.Bool.{and_from, and_parts, leb-true, le-leb, ltb-true, lt-ltb, eqb-true}
use Rattle.std.specs.List.{list_all}
use Rattle.std.specs.Char.{digit_value}
use Rattle.std.specs.Str.Parse.{AllDigits, digits_value, signed_digits_value}
use Rattle.std.specs.Cmp.Lexicographic.{same_text}
use Rattle.ec_space.specs.declared.Core.{Core}
use Rattle.ec_emu_watch.specs.declared.compare.Compare.{Compare}
use Rattle.ec_emu_watch.specs.declared.compare.CompareOp.{CompareOp}
use Rattle.ec_commands.specs.Command.{is_number, number, build_row, run_by, run_row, exec_by, exec_row, gen_by, gen_row, list_by, list_row}
use Rattle.ec_commands.specs.Command.{assemble_by, assemble_row, bound_row, is_value, value, watch_by, watch_row}
use Rattle.ec_commands.specs.Command.{row_of, command_of, IsRow, IsNoCommand, IsRowOf, RowsAreCommands}
use Rattle.ec_commands.specs.Words.{Words, word, core_named, compare_named, without_minus, IsNumber, IsValue}
use Rattle.ec_commands.specs.Words.{is_build, is_bound, IsRun, IsExecRow, IsGen, IsList, IsAssemble, IsWatchRow}
use Rattle.ec_commands.specs.declared.words.Command.{Command}
use Rattle.ec_commands.specs.declared.words.Command.TheVariants.{Build, Run, Exec, Gen, List as ListImage, Assemble, Bound}
use Rattle.ec_commands.specs.declared.words.Command.TheVariants.{Watch, NoCommand}

-- ---- numbers

digits_told : (digits : List ℕ) → list_all (λ c. nat_lt (digit_value c) 10) digits ≡ true → AllDigits 10 digits
digits_told [] e = tt
digits_told (c ∷ cs) e =
    let h = and_parts (nat_lt (digit_value c) 10) (list_all (λ d. nat_lt (digit_value d) 10) cs) e in
    (ltb-true (digit_value c) 10 h.0, digits_told cs h.1)

digits_test : (digits : List ℕ) → AllDigits 10 digits → list_all (λ c. nat_lt (digit_value c) 10) digits ≡ true
digits_test [] h = refl
digits_test (c ∷ cs) h =
    and_from (nat_lt (digit_value c) 10) (list_all (λ d. nat_lt (digit_value d) 10) cs) (lt-ltb (digit_value c) 10 h.0) (digits_test cs h.1)

number_is : (digits : List ℕ) (most n : ℕ) → IsNumber digits most n → number digits most ≡ Some n
number_is digits most n h =
    let test : is_number digits most ≡ true =
    and_from (nat_lt 0 (length digits)) _ (lt-ltb 0 (length digits) h.numeral.0) (and_from
    (list_all (λ c. nat_lt (digit_value c) 10) digits) _ (digits_test digits h.numeral.1) (and_from
    (nat_le (length digits) 10) _ (le-leb (length digits) 10 h.short) (le-leb (digits_value 10 digits) most (rw h.value h.small)))) in
    rw test (ap Some h.value)

module _ {A : Type 0} where
  held : (b : Bool) (v n : A) → (if b then Some v else None) ≡ Some n → (b ≡ true) × (v ≡ n)
  held true v n e = (refl, cc)
  held false v n e = cc

number_told : (digits : List ℕ) (most n : ℕ) → number digits most ≡ Some n → IsNumber digits most n
number_told digits most n e =
    let h = held (is_number digits most) (digits_value 10 digits) n e in
    let some = and_parts (nat_lt 0 (length digits)) _ h.0 in
    let all = and_parts (list_all (λ c. nat_lt (digit_value c) 10) digits) _ some.1 in
    let short = and_parts (nat_le (length digits) 10) _ all.1 in
    record {
      numeral = (ltb-true 0 (length digits) some.0, digits_told digits all.0);
      short = leb-true (length digits) 10 short.0;
      value = h.1;
      small = subst (λ m. m ≤ most) h.1 (leb-true (digits_value 10 digits) most short.1);
    }

value_is : (text : List ℕ) (v : ℤ) → IsValue text v → value text ≡ Some v
value_is text v h =
    let digits : List ℕ = without_minus text in
    let test : is_value text ≡ true =
    and_from (nat_lt 0 (length digits)) _ (lt-ltb 0 (length digits) h.numeral.0)
    (and_from (list_all (λ c. nat_lt (digit_value c) 10) digits) _ (digits_test digits h.numeral.1) (le-leb (length digits) 20 h.short)) in
    rw test (ap Some h.value)

value_told : (text : List ℕ) (v : ℤ) → value text ≡ Some v → IsValue text v
value_told text v e =
    let digits : List ℕ = without_minus text in
    let h = held (is_value text) (signed_digits_value 10 text) v e in
    let some = and_parts (nat_lt 0 (length digits)) _ h.0 in
    let all = and_parts (list_all (λ c. nat_lt (digit_value c) 10) digits) _ some.1 in
    record {
      numeral = (ltb-true 0 (length digits) some.0, digits_told digits all.0);
      short = leb-true (length digits) 20 all.1;
      value = h.1;
    }

-- ---- the row of a command is read as it

row_at : (words : Words) (name : List ℕ) (c : Command) → bytes_eq (word words 0) name ≡ true → row_of name words ≡ c → command_of words ≡ c
row_at words name c named e = ap (λ (w : List ℕ). row_of w words) (same_text (word words 0) name (sym named)) ∙ e

row_read : (words : Words) (c : Command) → IsRow c words → command_of words ≡ c
row_read words Build h =
    let parts = and_parts (nat_le 4 (length words)) (bytes_eq (word words 0) (codes "build")) h in
    row_at words (codes "build") Build parts.1 (rw parts.0 refl)
row_read words (Run steps fill) h =
    row_at words (codes "run") (Run steps fill) h.row
    (rw (h.five, number_is (word words 3) 4294967295 steps h.steps_word, number_is (word words 4) 255 fill h.fill_word) refl)
row_read words (Exec steps) h =
    row_at words (codes "exec") (Exec steps) h.row
    (rw (le-leb 5 (length words) h.five, number_is (word words 3) 4294967295 steps h.steps_word) refl)
row_read words (Gen n) h =
    row_at words (codes "gen") (Gen n) h.row
    (rw (h.two, number_is (word words 1) 2000 n h.number_word, lt-ltb 0 n h.some) refl)
row_read words (ListImage core) h = row_at words (codes "list") (ListImage core) h.row (rw (h.three, h.core_word) refl)
row_read words (Assemble core) h = row_at words (codes "assemble") (Assemble core) h.row (rw (h.four, h.core_word) refl)
row_read words Bound h =
    let parts = and_parts (nat_le 3 (length words)) (bytes_eq (word words 0) (codes "bound")) h in
    row_at words (codes "bound") Bound parts.1 (rw parts.0 refl)
row_read words (Watch steps leaf rule) h =
    row_at words (codes "watch") (Watch steps leaf rule) h.row
    (rw (
      le-leb 9 (length words) h.nine,
      number_is (word words 3) 4294967295 steps h.steps_word,
      number_is (word words 5) 9999999999 leaf h.leaf_word,
      h.op_word,
      value_is (word words 7) rule.value h.value_word,
    ) refl)
row_read words NoCommand h = absurd h

-- ---- what is read is the row of what it is read as

-- the words are the row of the command, or it is none
abbrev IsRead : Words → Command → Type 0
IsRead words Build = IsRow Build words
IsRead words (Run steps fill) = IsRow (Run steps fill) words
IsRead words (Exec steps) = IsRow (Exec steps) words
IsRead words (Gen n) = IsRow (Gen n) words
IsRead words (ListImage core) = IsRow (ListImage core) words
IsRead words (Assemble core) = IsRow (Assemble core) words
IsRead words Bound = IsRow Bound words
IsRead words (Watch steps leaf rule) = IsRow (Watch steps leaf rule) words
IsRead words NoCommand = ⊤

build_told : (words : Words) (long : Bool) → nat_le 4 (length words) ≡ long → bytes_eq (word words 0) (codes "build") ≡ true
    → IsRead words (if long then Build else NoCommand)
build_told words true e named = and_from (nat_le 4 (length words)) (bytes_eq (word words 0) (codes "build")) e named
build_told words false e named = tt

run_by_told : (words : Words) (steps fill : Option ℕ) → length words ≡ 5 → bytes_eq (word words 0) (codes "run") ≡ true
    → number (word words 3) 4294967295 ≡ steps → number (word words 4) 255 ≡ fill → IsRead words (run_by steps fill)
run_by_told words (Some steps) (Some fill) five named s f = record {
  five = five;
  row = named;
  steps_word = number_told (word words 3) 4294967295 steps s;
  fill_word = number_told (word words 4) 255 fill f;
}
run_by_told words (Some steps) None five named s f = tt
run_by_told words None fill five named s f = tt

run_told : (words : Words) (five : Bool) → (length words == 5) ≡ five → bytes_eq (word words 0) (codes "run") ≡ true
    → IsRead words (if five then run_by (number (word words 3) 4294967295) (number (word words 4) 255) else NoCommand)
run_told words true e named = run_by_told words _ _ (eqb-true (length words) 5 e) named refl refl
run_told words false e named = tt

exec_by_told : (words : Words) (steps : Option ℕ) → 5 ≤ length words → bytes_eq (word words 0) (codes "exec") ≡ true
    → number (word words 3) 4294967295 ≡ steps → IsRead words (exec_by steps)
exec_by_told words (Some steps) five named s =
    record { five = five; row = named; steps_word = number_told (word words 3) 4294967295 steps s }
exec_by_told words None five named s = tt

exec_told : (words : Words) (five : Bool) → nat_le 5 (length words) ≡ five → bytes_eq (word words 0) (codes "exec") ≡ true
    → IsRead words (if five then exec_by (number (word words 3) 4294967295) else NoCommand)
exec_told words true e named = exec_by_told words _ (leb-true 5 (length words) e) named refl
exec_told words false e named = tt

gen_some_told : (words : Words) (n : ℕ) (some : Bool) → length words ≡ 2 → bytes_eq (word words 0) (codes "gen") ≡ true
    → number (word words 1) 2000 ≡ Some n → nat_lt 0 n ≡ some → IsRead words (if some then Gen n else NoCommand)
gen_some_told words n true two named s e =
    record { two = two; row = named; number_word = number_told (word words 1) 2000 n s; some = ltb-true 0 n e }
gen_some_told words n false two named s e = tt

gen_by_told : (words : Words) (n : Option ℕ) → length words ≡ 2 → bytes_eq (word words 0) (codes "gen") ≡ true
    → number (word words 1) 2000 ≡ n → IsRead words (gen_by n)
gen_by_told words (Some n) two named s = gen_some_told words n (nat_lt 0 n) two named s refl
gen_by_told words None two named s = tt

gen_told : (words : Words) (two : Bool) → (length words == 2) ≡ two → bytes_eq (word words 0) (codes "gen") ≡ true
    → IsRead words (if two then gen_by (number (word words 1) 2000) else NoCommand)
gen_told words true e named = gen_by_told words _ (eqb-true (length words) 2 e) named refl
gen_told words false e named = tt

list_by_told : (words : Words) (core : Option Core) → length words ≡ 3 → bytes_eq (word words 0) (codes "list") ≡ true
    → core_named (word words 1) ≡ core → IsRead words (list_by core)
list_by_told words (Some core) three named s = record { three = three; row = named; core_word = s }
list_by_told words None three named s = tt

list_told : (words : Words) (three : Bool) → (length words == 3) ≡ three → bytes_eq (word words 0) (codes "list") ≡ true
    → IsRead words (if three then list_by (core_named (word words 1)) else NoCommand)
list_told words true e named = list_by_told words _ (eqb-true (length words) 3 e) named refl
list_told words false e named = tt

assemble_by_told : (words : Words) (core : Option Core) → length words ≡ 4 → bytes_eq (word words 0) (codes "assemble") ≡ true
    → core_named (word words 1) ≡ core → IsRead words (assemble_by core)
assemble_by_told words (Some core) four named s = record { four = four; row = named; core_word = s }
assemble_by_told words None four named s = tt

assemble_told : (words : Words) (four : Bool) → (length words == 4) ≡ four → bytes_eq (word words 0) (codes "assemble") ≡ true
    → IsRead words (if four then assemble_by (core_named (word words 1)) else NoCommand)
assemble_told words true e named = assemble_by_told words _ (eqb-true (length words) 4 e) named refl
assemble_told words false e named = tt

bound_told : (words : Words) (long : Bool) → nat_le 3 (length words) ≡ long → bytes_eq (word words 0) (codes "bound") ≡ true
    → IsRead words (if long then Bound else NoCommand)
bound_told words true e named = and_from (nat_le 3 (length words)) (bytes_eq (word words 0) (codes "bound")) e named
bound_told words false e named = tt

watch_by_told : (words : Words) (steps leaf : Option ℕ) (op : Option CompareOp) (v : Option ℤ) → 9 ≤ length words
    → bytes_eq (word words 0) (codes "watch") ≡ true → number (word words 3) 4294967295 ≡ steps
    → number (word words 5) 9999999999 ≡ leaf → compare_named (word words 6) ≡ op → value (word words 7) ≡ v
    → IsRead words (watch_by steps leaf op v)
watch_by_told words (Some steps) (Some leaf) (Some op) (Some v) nine named s l o e = record {
  nine = nine;
  row = named;
  steps_word = number_told (word words 3) 4294967295 steps s;
  leaf_word = number_told (word words 5) 9999999999 leaf l;
  op_word = o;
  value_word = value_told (word words 7) v e;
}
watch_by_told words (Some steps) (Some leaf) (Some op) None nine named s l o e = tt
watch_by_told words (Some steps) (Some leaf) None v nine named s l o e = tt
watch_by_told words (Some steps) None op v nine named s l o e = tt
watch_by_told words None leaf op v nine named s l o e = tt

watch_told : (words : Words) (long : Bool) → nat_le 9 (length words) ≡ long → bytes_eq (word words 0) (codes "watch") ≡ true
    → IsRead words (if long then watch_by (number (word words 3) 4294967295) (number (word words 5) 9999999999)
    (compare_named (word words 6)) (value (word words 7)) else NoCommand)
watch_told words true e named = watch_by_told words _ _ _ _ (leb-true 9 (length words) e) named refl refl refl refl
watch_told words false e named = tt

-- a row by its name, or another
by_name : (P : Command → Type 0) (named : Bool) (c d : Command) → (named ≡ true → P c) → P d → P (if named then c else d)
by_name P true c d one other = one refl
by_name P false c d one other = other

read_told : (words : Words) → IsRead words (command_of words)
read_told words =
    by_name (IsRead words) (bytes_eq (word words 0) (codes "build")) (build_row words) _ (build_told words _ refl)
    (by_name (IsRead words) (bytes_eq (word words 0) (codes "run")) (run_row words) _ (run_told words _ refl)
    (by_name (IsRead words) (bytes_eq (word words 0) (codes "exec")) (exec_row words) _ (exec_told words _ refl)
    (by_name (IsRead words) (bytes_eq (word words 0) (codes "gen")) (gen_row words) _ (gen_told words _ refl)
    (by_name (IsRead words) (bytes_eq (word words 0) (codes "list")) (list_row words) _ (list_told words _ refl)
    (by_name (IsRead words) (bytes_eq (word words 0) (codes "assemble")) (assemble_row words) _ (assemble_told words _ refl)
    (by_name (IsRead words) (bytes_eq (word words 0) (codes "bound")) (bound_row words) _ (bound_told words _ refl)
    (by_name (IsRead words) (bytes_eq (word words 0) (codes "watch")) (watch_row words) _ (watch_told words _ refl) tt)))))))

-- ---- both

none_left : (words : Words) (c : Command) → IsNoCommand words → IsRead words c → c ≡ NoCommand
none_left words Build against h = absurd (against Build h)
none_left words (Run steps fill) against h = absurd (against (Run steps fill) h)
none_left words (Exec steps) against h = absurd (against (Exec steps) h)
none_left words (Gen n) against h = absurd (against (Gen n) h)
none_left words (ListImage core) against h = absurd (against (ListImage core) h)
none_left words (Assemble core) against h = absurd (against (Assemble core) h)
none_left words Bound against h = absurd (against Bound h)
none_left words (Watch steps leaf rule) against h = absurd (against (Watch steps leaf rule) h)
none_left words NoCommand against h = refl

pub command_is : (words : Words) (c : Command) → IsRowOf c words → command_of words ≡ c
command_is words Build h = row_read words Build h
command_is words (Run steps fill) h = row_read words (Run steps fill) h
command_is words (Exec steps) h = row_read words (Exec steps) h
command_is words (Gen n) h = row_read words (Gen n) h
command_is words (ListImage core) h = row_read words (ListImage core) h
command_is words (Assemble core) h = row_read words (Assemble core) h
command_is words Bound h = row_read words Bound h
command_is words (Watch steps leaf rule) h = row_read words (Watch steps leaf rule) h
command_is words NoCommand h = none_left words (command_of words) h (read_told words)

row_told : (words : Words) (c : Command) → command_of words ≡ c → IsRead words c → IsRowOf c words
row_told words Build e h = h
row_told words (Run steps fill) e h = h
row_told words (Exec steps) e h = h
row_told words (Gen n) e h = h
row_told words (ListImage core) e h = h
row_told words (Assemble core) e h = h
row_told words Bound e h = h
row_told words (Watch steps leaf rule) e h = h
row_told words NoCommand e h = λ c row. subst (λ d. IsRow d words) (sym (row_read words c row) ∙ e) row

-- the words are the row of no command: of none of these
pub record NoRow (words : Words) : Type 0 where
  pub build : is_build words ≡ false
  pub run : (steps fill : ℕ) → ¬ (IsRun words steps fill)
  pub exec : (steps : ℕ) → ¬ (IsExecRow words steps)
  pub gen : (n : ℕ) → ¬ (IsGen words n)
  pub list : (core : Core) → ¬ (IsList words core)
  pub assemble : (core : Core) → ¬ (IsAssemble words core)
  pub bound : is_bound words ≡ false
  pub watch : (steps leaf : ℕ) (rule : Compare) → ¬ (IsWatchRow words steps leaf rule)

pub no_command : (words : Words) → NoRow words → (c : Command) → ¬ (IsRow c words)
no_command words none Build = λ h. let e = sym none.build ∙ h in cc
no_command words none (Run steps fill) = none.run steps fill
no_command words none (Exec steps) = none.exec steps
no_command words none (Gen n) = none.gen n
no_command words none (ListImage core) = none.list core
no_command words none (Assemble core) = none.assemble core
no_command words none Bound = λ h. let e = sym none.bound ∙ h in cc
no_command words none (Watch steps leaf rule) = none.watch steps leaf rule
no_command words none NoCommand = λ h. h

pub rows_are_commands : RowsAreCommands
rows_are_commands words c = (
  λ e. row_told words c e (subst (λ d. IsRead words d) e (read_told words)),
  λ h. command_is words c h,
)
