-- Runs of written bytes.
use Rattle.std.specs.Prelude.{Option, if◌then◌else◌, ◌==◌}
use Rattle.std.proofs.Common.{◌≡◌, ◌+◌, ◌*◌, ◌/◌, ◌%◌, ◌≤◌, ◌<◌, max, ℕ, zero, suc, Bool, true, false, List, [], ◌∷◌, ◌++◌, length, drop, get_or}
use Rattle.std.proofs.Common.{Some, None, refl, sym, ap, ◌∙◌, arith, length-append, append_assoc}
use Rattle.std.proofs.lemmas.List.{drop_all}
use Rattle.ec_hex.specs.Bytes.{digits_of}
use Rattle.ec_hex.specs.Text.{checksum, contents, fields, record_line, base_line, word_bytes, more_at, run, text_from}
use Rattle.ec_hex.specs.declared.line.RecordType.{RecordType}
use Rattle.ec_hex.specs.declared.line.RecordType.TheVariants.{Data, EndOfFile, LinearBase}
use Rattle.ec_hex.proofs.Bytes.{length-digits_of}
use Rattle.ec_hex.specs.Steps.{run_lines, base_behind}

pub length-contents : (bytes : List ℕ) (written : List Bool) → length written ≡ length bytes
    → length (contents bytes written) ≡ length bytes
length-contents [] written same = refl
length-contents (byte ∷ bytes) [] same = absurd (omega (arith, same))
length-contents (byte ∷ bytes) (flag ∷ written) same = omega (arith, length-contents bytes written (omega (arith, same)))

pub drop-contents : (bytes : List ℕ) (written : List Bool) (k : ℕ) → k < length bytes → length written ≡ length bytes
    → drop k (contents bytes written)
    ≡ (if get_or written k false then Some (get_or bytes k 0) else None) ∷ drop (suc k) (contents bytes written)
drop-contents [] written k below same = absurd (omega (arith, below))
drop-contents (byte ∷ bytes) [] k below same = absurd (omega (arith, same))
drop-contents (byte ∷ bytes) (flag ∷ written) zero below same = refl
drop-contents (byte ∷ bytes) (flag ∷ written) (suc k) below same =
    drop-contents bytes written k (omega (arith, below)) (omega (arith, same))

pub length-run : (most : ℕ) (cells : List (Option ℕ)) → length (run most cells) ≤ most
length-run most [] = omega arith
length-run most (None ∷ cells) = omega arith
length-run zero (Some byte ∷ cells) = omega arith
length-run (suc most) (Some byte ∷ cells) = omega (arith, length-run most cells)

pub length-run_within : (most : ℕ) (cells : List (Option ℕ)) → length (run most cells) ≤ length cells
length-run_within most [] = omega arith
length-run_within most (None ∷ cells) = omega arith
length-run_within zero (Some byte ∷ cells) = omega arith
length-run_within (suc most) (Some byte ∷ cells) = omega (arith, length-run_within most cells)

pub run-zero : (cells : List (Option ℕ)) → run 0 cells ≡ []
run-zero [] = refl
run-zero (None ∷ cells) = refl
run-zero (Some byte ∷ cells) = refl

one_further : (at n : ℕ) → at + 1 + n ≡ at + suc n
one_further at n = omega arith

-- what a run has put out is passed over
pub text_from-run : (base at most : ℕ) (cells : List (Option ℕ))
    → text_from base at most cells ≡ text_from base (at + length (run most cells)) 0 (drop (length (run most cells)) cells)
text_from-run base at most [] = refl
text_from-run base at most (None ∷ cells) = ap (λ (a : ℕ). text_from base (a + 1) 0 cells) (omega arith)
text_from-run base at zero (Some byte ∷ cells) = ap (λ (a : ℕ). text_from base a 0 (Some byte ∷ cells)) (omega arith)
text_from-run base at (suc most) (Some byte ∷ cells) =
    text_from-run base (at + 1) most cells
    ∙ ap (λ (a : ℕ). text_from base a 0 (drop (length (run most cells)) cells)) (one_further at (length (run most cells)))

-- a run in parts: some of its bytes, and the run behind them
pub run-ended : (bytes : List ℕ) (written : List Bool) (k most : ℕ) → k < length bytes → length written ≡ length bytes
    → get_or written k false ≡ false → run most (drop k (contents bytes written)) ≡ []
run-ended bytes written k most below same unwritten =
    ap (λ (cells : List (Option ℕ)). run most cells) (drop-contents bytes written k below same
    ∙ ap (λ (flag : Bool). (if flag then Some (get_or bytes k 0) else None) ∷ drop (suc k) (contents bytes written)) unwritten)

pub run-more : (bytes : List ℕ) (written : List Bool) (k most : ℕ) → k < length bytes → length written ≡ length bytes
    → get_or written k false ≡ true
    → run (suc most) (drop k (contents bytes written)) ≡ get_or bytes k 0 ∷ run most (drop (suc k) (contents bytes written))
run-more bytes written k most below same is_written =
    ap (λ (cells : List (Option ℕ)). run (suc most) cells) (drop-contents bytes written k below same
    ∙ ap (λ (flag : Bool). (if flag then Some (get_or bytes k 0) else None) ∷ drop (suc k) (contents bytes written)) is_written)

-- behind 16 bytes, and at the end of flash, nothing is left of a run
pub run-full : (bytes : List ℕ) (written : List Bool) (k most : ℕ) → (0 < most → length bytes ≤ k) → length written ≡ length bytes
    → run most (drop k (contents bytes written)) ≡ []
run-full bytes written k zero ended same = run-zero (drop k (contents bytes written))
run-full bytes written k (suc most) ended same =
    ap (λ (cells : List (Option ℕ)). run (suc most) cells)
    (drop_all k (contents bytes written) (omega (arith, ended (omega arith), length-contents bytes written same)))

pub length-record_line : (kind : RecordType) (at : ℕ) (bytes : List ℕ) → length (record_line kind at bytes) ≡ 12 + 2 * length bytes
length-record_line kind at bytes =
    let all : List ℕ = fields kind at bytes ++ checksum (fields kind at bytes) ∷ [] in
    length-append (58 ∷ digits_of all) (10 ∷ [])
    ∙ omega (arith, length-digits_of all, length-append (fields kind at bytes) (checksum (fields kind at bytes) ∷ []))

pub length-base_line : (base at : ℕ) → length (base_line base at) ≤ 16
length-base_line base at = by_test (at / 65536 == base)
  where
    by_test : (b : Bool) → length (if b then [] else record_line LinearBase 0 (word_bytes (at / 65536))) ≤ 16
    by_test true = omega arith
    by_test false = omega (arith, length-record_line LinearBase 0 (word_bytes (at / 65536)))

pub length-run_lines : (base at : ℕ) (bytes : List ℕ) → length bytes ≤ 16 → length (run_lines base at bytes) ≤ 60 * max (length bytes) 1
length-run_lines base at [] short = omega arith
length-run_lines base at (byte ∷ bytes) short =
    omega (
      arith,
      length-append (base_line base at) (record_line Data (at % 65536) (byte ∷ bytes)),
      length-base_line base at,
      length-record_line Data (at % 65536) (byte ∷ bytes),
    )

-- the lines of a run that has bytes
pub run_lines-some : (base at : ℕ) (bytes : List ℕ) → 0 < length bytes
    → run_lines base at bytes ≡ base_line base at ++ record_line Data (at % 65536) bytes
run_lines-some base at [] some = absurd (omega (arith, some))
run_lines-some base at (byte ∷ bytes) some = refl

pub run_lines-none : (base at : ℕ) (bytes : List ℕ) → length bytes ≡ 0 → run_lines base at bytes ≡ []
run_lines-none base at [] none = refl
run_lines-none base at (byte ∷ bytes) none = absurd (omega (arith, none))

pub base_behind-some : (base at : ℕ) (bytes : List ℕ) → 0 < length bytes → base_behind base at bytes ≡ at / 65536
base_behind-some base at [] some = absurd (omega (arith, some))
base_behind-some base at (byte ∷ bytes) some = refl

pub base_behind-none : (base at : ℕ) (bytes : List ℕ) → length bytes ≡ 0 → base_behind base at bytes ≡ base
base_behind-none base at [] none = refl
base_behind-none base at (byte ∷ bytes) none = absurd (omega (arith, none))

pub length-end_line : length (record_line EndOfFile 0 []) ≡ 12
length-end_line = refl

above_one : (n : ℕ) → suc n ≡ max (suc n) 1
above_one n = omega arith

-- the run at an address
abbrev pub front : ℕ → List (Option ℕ) → List ℕ
front at cells = run (suc (more_at at)) cells

-- the next lines and the text behind them
pub text_from-step : (base at : ℕ) (cells : List (Option ℕ)) → 0 < length cells
    → text_from base at 0 cells ≡ run_lines base at (front at cells)
    ++ text_from (base_behind base at (front at cells)) (at + max (length (front at cells)) 1) 0
    (drop (max (length (front at cells)) 1) cells)
text_from-step base at [] some = absurd (omega (arith, some))
text_from-step base at (None ∷ cells) some = refl
text_from-step base at (Some byte ∷ cells) some =
    let bytes : List ℕ = run (more_at at) cells in
    let n : ℕ = length bytes in
    let half : ℕ = at / 65536 in
    ap (λ (text : List ℕ). base_line base at ++ (record_line Data (at % 65536) (byte ∷ bytes) ++ text))
    (text_from-run half (at + 1) (more_at at) cells
    ∙ ap (λ (a : ℕ). text_from half a 0 (drop (suc n) (Some byte ∷ cells))) (one_further at n)
    ∙ ap (λ (m : ℕ). text_from half (at + m) 0 (drop m (Some byte ∷ cells))) (above_one n))
    ∙ sym (append_assoc (base_line base at) (record_line Data (at % 65536) (byte ∷ bytes))
    (text_from half (at + max (suc n) 1) 0 (drop (max (suc n) 1) (Some byte ∷ cells))))
