-- The words of the code before `main`.
use Rattle.std.proofs.Common.{◌≡◌, ℕ, ◌+◌, ◌*◌, ◌/◌, ◌%◌, ◌≤◌, Bool, true, false, List, [], ◌∷◌, ◌++◌, length, refl, arith, leb-true}
use Rattle.std.specs.Prelude.{nat_le}
use Rattle.std.proofs.lemmas.List.Sums.{sum_by-append}
use Rattle.ec_asm.specs.declared.items.AsmItem.{AsmItem}
use Rattle.ec_asm.specs.Items.{code_words, item_words}
use Rattle.ec_asm.proofs.ItemWords.{chain_words}
use Rattle.ec_select_startup.specs.declared.spans.Filling.{Filling}
use Rattle.ec_select_startup.specs.declared.spans.Filling.TheVariants.{Copied, Cleared}
use Rattle.ec_select_startup.specs.declared.spans.Span.{Span}
use Rattle.ec_select_startup.specs.Startup.{address_code, stack_code, source_code, store_code, next_code, row_code, count_code}
use Rattle.ec_select_startup.specs.Startup.{end_code, byte_words, loop_code, bytes_a_turn, turns_code, stores_code}
use Rattle.ec_select_startup.specs.Startup.{most_stores, bytes_by, bytes_code, span_code, is_cleared, spans_code, main_code}
use Rattle.ec_select_startup.specs.Laws.{StartupHasWords}
use Rattle.ec_select_startup.proofs.PerTurn.{is_turn}

joined : (a b : List AsmItem) → code_words (a ++ b) ≡ code_words a + code_words b
joined a b = sum_by-append item_words a b

next_words : (filling : Filling) → code_words (next_code filling) ≡ byte_words filling
next_words Copied = refl
next_words Cleared = refl

row_words : (filling : Filling) (n : ℕ) → code_words (row_code filling n) ≡ byte_words filling * n
row_words filling n = chain_words (λ i. next_code filling) n (byte_words filling) (λ i. next_words filling)

count_words : (small : Bool) (turns : ℕ) → code_words (count_code small turns) ≤ 2
count_words true turns = omega arith
count_words false turns = omega arith

end_words : (small : Bool) (words : ℕ) → code_words (end_code small words) ≡ 2
end_words true words = refl
end_words false words = refl

loop_words : (filling : Filling) (small : Bool) (bytes turns : ℕ)
    → code_words (loop_code filling small bytes turns) ≤ 4 + byte_words filling * bytes
loop_words filling small bytes turns =
    let tail = end_code small (byte_words filling * bytes) in
    let row = row_code filling bytes in
    let a = count_words small turns in
    omega (
      arith,
      a,
      joined (count_code small turns) (row ++ tail),
      joined row tail,
      row_words filling bytes,
      end_words small (byte_words filling * bytes),
    )

whole_words : (filling : Filling) (bytes n : ℕ)
    → code_words (turns_code filling bytes n) ≤ 4 + byte_words filling * bytes + byte_words filling * (n % bytes)
whole_words filling bytes n =
    let small = nat_le (n / bytes) 255 in
    let a = loop_words filling small bytes (n / bytes) in
    omega (arith, a, joined (loop_code filling small bytes (n / bytes)) (row_code filling (n % bytes)), row_words filling (n % bytes))

abbrev source_words : Filling → ℕ
source_words Copied = 2
source_words Cleared = 1

source_has_words : (clear : Bool) (filling : Filling) (from : ℕ) → code_words (source_code clear filling from) ≤ source_words filling
source_has_words clear Copied from = omega arith
source_has_words true Cleared from = omega arith
source_has_words false Cleared from = omega arith

turns_words : (filling : Filling) (n : ℕ)
    → source_words filling + code_words (turns_code filling (bytes_a_turn filling n) n) ≤ 13
turns_words Copied n =
    let w = (is_turn Copied n).words in let a = whole_words Copied (bytes_a_turn Copied n) n in omega (arith, w, a)
turns_words Cleared n =
    let w = (is_turn Cleared n).words in let a = whole_words Cleared (bytes_a_turn Cleared n) n in omega (arith, w, a)

store_words : (filling : Filling) (to k : ℕ) → code_words (store_code filling to k) ≡ byte_words filling + 1
store_words Copied to k = refl
store_words Cleared to k = refl

stores_words : (filling : Filling) (to n : ℕ) → n ≤ most_stores filling
    → source_words filling + code_words (stores_code filling to n) ≤ 20
stores_words Copied to n l = omega (arith, l, chain_words (store_code Copied to) n 3 (store_words Copied to))
stores_words Cleared to n l = omega (arith, l, chain_words (store_code Cleared to) n 2 (store_words Cleared to))

bytes_words : (filling : Filling) (few : Bool) (to n : ℕ) → nat_le n (most_stores filling) ≡ few
    → source_words filling + code_words (bytes_by filling few to n) ≤ 20
bytes_words filling true to n q = stores_words filling to n (leb-true n (most_stores filling) q)
bytes_words filling false to n q =
    let a = turns_words filling n in
    omega (arith, a, joined (address_code 26 to) (turns_code filling (bytes_a_turn filling n) n))

spans_words : (clear : Bool) (spans : List Span) → code_words (spans_code clear spans) ≤ 20 * length spans
spans_words clear [] = omega arith
spans_words clear (s ∷ ss) =
    let source = source_code clear s.filling s.from in
    let bytes = bytes_code s.filling s.to s.bytes in
    let a = bytes_words s.filling (nat_le s.bytes (most_stores s.filling)) s.to s.bytes refl in
    let c = source_has_words clear s.filling s.from in
    let b = spans_words (is_cleared s.filling) ss in
    omega (arith, joined (span_code clear s) (spans_code (is_cleared s.filling) ss), joined source bytes, a, b, c)

pub startup_has_words : StartupHasWords
startup_has_words spans main =
    let finish = main_code main in
    let a = spans_words false spans in
    omega (arith, joined stack_code (spans_code false spans ++ finish), joined (spans_code false spans) finish, a)
