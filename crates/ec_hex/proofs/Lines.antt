-- A written line reads as the record that it was written for.
use Rattle.std.specs.Prelude.{option_map, nat_le, ◌==◌, map, slice_index}
use Rattle.std.specs.Char.{digit_value, is_digit}
use Rattle.std.specs.List.{AllByRecursion, slice_split}
use Rattle.std.specs.Str.Lines.{lines, lines_of_parts, strip_carriage_return}
use Rattle.std.proofs.lemmas.List.Splits.{slice_split_at, length-slice_split}
use Rattle.std.proofs.lemmas.List.Elements.{All-from_recursion, All-weaker, All-get_or}
use Rattle.std.proofs.Math.Seq.{take-append_seam}
use Rattle.std.proofs.Common.{◌≡◌, ◌+◌, ◌-◌, ◌*◌, ◌/◌, ◌%◌, ◌≤◌, ◌<◌, ℕ, true, false, List, [], ◌∷◌, ◌++◌, length, Some, refl, ap, ◌∙◌}
use Rattle.std.proofs.Common.{arith, length-append, append_assoc}
use Rattle.ec_hex.specs.Bytes.{digit, digits_of, bytes_of, total}
use Rattle.ec_hex.specs.Record.{Record, Data, Base, Reading, Sound, word_of, reading_of_bytes, reading_of}
use Rattle.ec_hex.specs.Denotes.{records_of, records_in}
use Rattle.ec_hex.specs.Text.{checksum, fields, word_bytes, record_line}
use Rattle.ec_hex.specs.declared.line.RecordType.{RecordType}
use Rattle.ec_hex.specs.declared.line.RecordType.TheVariants as kind
use Rattle.ec_hex.proofs.Bytes.{total-append}

-- numbers that a byte can hold
abbrev pub AreBytes : List ℕ → Type 0
AreBytes bytes = AllByRecursion (λ byte. byte < 256) bytes

-- characters from the space on
abbrev ArePlain : List ℕ → Type 0
ArePlain text = AllByRecursion (λ c. 32 ≤ c) text

digit_value-digit : (n : ℕ) → n < 16 → digit_value (digit n) ≡ n
digit_value-digit n below = grind arith

is_digit-digit : (n : ℕ) → n < 16 → is_digit (digit n) 16 ≡ true
is_digit-digit n below = rw (digit_value-digit n below) (grind arith)

digit_plain : (n : ℕ) → 32 ≤ digit n
digit_plain n = grind arith

join-digits : (byte : ℕ) → 16 * (byte / 16) + byte % 16 ≡ byte
join-digits byte = omega arith

pub bytes_of-digits_of : (bytes : List ℕ) → AreBytes bytes → bytes_of (digits_of bytes) ≡ Some bytes
bytes_of-digits_of [] all = refl
bytes_of-digits_of (byte ∷ bytes) all =
    rw (
      is_digit-digit (byte / 16) (omega (arith, all.0)),
      is_digit-digit (byte % 16) (omega arith),
      bytes_of-digits_of bytes all.1,
      digit_value-digit (byte / 16) (omega (arith, all.0)),
      digit_value-digit (byte % 16) (omega arith),
    )
    (ap (λ (n : ℕ). Some (n ∷ bytes)) (join-digits byte))

digits_plain : (bytes : List ℕ) → ArePlain (digits_of bytes)
digits_plain [] = tt
digits_plain (byte ∷ bytes) = (digit_plain (byte / 16), (digit_plain (byte % 16), digits_plain bytes))

bytes-append : (xs ys : List ℕ) → AreBytes xs → AreBytes ys → AreBytes (xs ++ ys)
bytes-append [] ys h k = k
bytes-append (x ∷ xs) ys h k = (h.0, bytes-append xs ys h.1 k)

-- the bytes of a record
abbrev whole : RecordType → ℕ → List ℕ → List ℕ
whole k at bytes = fields k at bytes ++ checksum (fields k at bytes) ∷ []

sum_is_zero : (n : ℕ) → ((n + ((256 - n % 256) % 256)) % 256 == 0) ≡ true
sum_is_zero n = grind arith

total-whole : (bytes : List ℕ) → (total (bytes ++ checksum bytes ∷ []) % 256 == 0) ≡ true
total-whole bytes =
    ap (λ (n : ℕ). n % 256 == 0) (total-append bytes (checksum bytes ∷ []) ∙ omega arith) ∙ sum_is_zero (total bytes)

counted : (bytes : List ℕ) (check : ℕ) → (length (bytes ++ check ∷ []) == length bytes + 1) ≡ true
counted bytes check = grind (arith, length-append)

within : (n : ℕ) → n ≤ 65536 → nat_le n 65536 ≡ true
within n h = grind arith

join-address : (at : ℕ) → 256 * (at / 256) + at % 256 ≡ at
join-address at = omega arith

reading_of_bytes-whole : (at : ℕ) (bytes : List ℕ) → at + length bytes ≤ 65536 → reading_of_bytes (whole kind.Data at bytes) ≡ Sound (Data at bytes)
reading_of_bytes-whole at bytes fits =
    rw (
      counted bytes _,
      total-whole (fields kind.Data at bytes),
      join-address at,
      within (at + length bytes) fits,
      take-append_seam bytes _,
    ) refl

whole_bytes : (at : ℕ) (bytes : List ℕ) → at < 65536 → length bytes < 256 → AreBytes bytes → AreBytes (whole kind.Data at bytes)
whole_bytes at bytes low short all =
    bytes-append (fields kind.Data at bytes) (checksum (fields kind.Data at bytes) ∷ [])
    (short, (omega (arith, low), (omega arith, (omega arith, all)))) (omega arith, tt)

reading_of-data : (at : ℕ) (bytes : List ℕ) → at < 65536 → length bytes < 256 → AreBytes bytes → at + length bytes ≤ 65536
    → reading_of (58 ∷ digits_of (whole kind.Data at bytes)) ≡ Sound (Data at bytes)
reading_of-data at bytes low short all fits =
    rw (bytes_of-digits_of (whole kind.Data at bytes) (whole_bytes at bytes low short all)) (reading_of_bytes-whole at bytes fits)

-- the record of a base
base_of_bytes : (bytes : List ℕ) → length bytes ≡ 2
    → reading_of_bytes (whole kind.LinearBase 0 bytes) ≡ Sound (Base (65536 * word_of bytes))
base_of_bytes (high ∷ low ∷ []) two = rw (total-whole (fields kind.LinearBase 0 (high ∷ low ∷ []))) refl
base_of_bytes [] two = absurd (omega (arith, two))
base_of_bytes (high ∷ []) two = absurd (omega (arith, two))
base_of_bytes (high ∷ low ∷ more ∷ rest) two = absurd (omega (arith, two))

reading_of-base : (half : ℕ) → half < 65536
    → reading_of (58 ∷ digits_of (whole kind.LinearBase 0 (word_bytes half))) ≡ Sound (Base (65536 * half))
reading_of-base half small =
    let all : AreBytes (word_bytes half) = (omega (arith, small), (omega arith, tt)) in
    let bytes = bytes-append (fields kind.LinearBase 0 (word_bytes half)) (checksum (fields kind.LinearBase 0 (word_bytes half)) ∷ [])
    (omega arith, (omega arith, (omega arith, (omega arith, all)))) (omega arith, tt) in
    rw (bytes_of-digits_of (whole kind.LinearBase 0 (word_bytes half)) bytes)
    (base_of_bytes (word_bytes half) refl ∙ ap (λ (n : ℕ). Sound (Base (65536 * n))) (join-address half))

no_newline : (c : ℕ) → 32 ≤ c → (c == 10) ≡ false
no_newline c h = grind arith

no_return : (c : ℕ) → 32 ≤ c → (c == 13) ≡ false
no_return c h = grind arith

strip-plain : (c : ℕ) (text : List ℕ) → ArePlain (c ∷ text) → strip_carriage_return (c ∷ text) ≡ c ∷ text
strip-plain c text plain =
    rw (no_return (slice_index (c ∷ text) (length (c ∷ text) - 1))
    (All-get_or (λ d. 32 ≤ d) (c ∷ text) (length (c ∷ text) - 1) 0 (omega arith) (All-from_recursion _ (c ∷ text) plain))) refl

pub parts-more : (text : List ℕ) (parts : List (List ℕ)) → 0 < length parts
    → lines_of_parts (text ∷ parts) ≡ strip_carriage_return text ∷ lines_of_parts parts
parts-more text [] some = absurd (omega (arith, some))
parts-more text (part ∷ parts) some = refl

lines-more : (c : ℕ) (text rest : List ℕ) → ArePlain (c ∷ text) → lines ((c ∷ text) ++ 10 ∷ rest) ≡ (c ∷ text) ∷ lines rest
lines-more c text rest plain =
    ap lines_of_parts (slice_split_at (λ b. b == 10) (c ∷ text) 10 rest
    (All-weaker (λ d. 32 ≤ d) (λ d. (d == 10) ≡ false) no_newline (c ∷ text) (All-from_recursion _ (c ∷ text) plain)) refl)
    ∙ parts-more (c ∷ text) (slice_split (λ b. b == 10) rest) (omega (arith, length-slice_split (λ b. b == 10) rest))
    ∙ ap (λ (line : List ℕ). line ∷ lines rest) (strip-plain c text plain)

-- a record's line puts the record before those of the rest
records_in-line : (k : RecordType) (at : ℕ) (bytes rest : List ℕ) (what : Record)
    → reading_of (58 ∷ digits_of (whole k at bytes)) ≡ Sound what
    → records_in (record_line k at bytes ++ rest) ≡ records_of (Sound what ∷ map reading_of (lines rest))
records_in-line k at bytes rest what is =
    ap (λ (text : List (List ℕ)). records_of (map reading_of text))
    (ap lines (append_assoc (58 ∷ digits_of (whole k at bytes)) (10 ∷ []) rest)
    ∙ lines-more 58 (digits_of (whole k at bytes)) rest (omega arith, digits_plain (whole k at bytes)))
    ∙ ap (λ (reading : Reading). records_of (reading ∷ map reading_of (lines rest))) is

pub records_in-data : (at : ℕ) (bytes rest : List ℕ) → at < 65536 → length bytes < 256 → AreBytes bytes → at + length bytes ≤ 65536
    → records_in (record_line kind.Data at bytes ++ rest) ≡ option_map (λ records. Data at bytes ∷ records) (records_in rest)
records_in-data at bytes rest low short all fits =
    records_in-line kind.Data at bytes rest (Data at bytes) (reading_of-data at bytes low short all fits)

pub records_in-base : (half : ℕ) (rest : List ℕ) → half < 65536
    → records_in (record_line kind.LinearBase 0 (word_bytes half) ++ rest)
    ≡ option_map (λ records. Base (65536 * half) ∷ records) (records_in rest)
records_in-base half rest small =
    records_in-line kind.LinearBase 0 (word_bytes half) rest (Base (65536 * half)) (reading_of-base half small)

pub records_in-end : records_in (record_line kind.EndOfFile 0 []) ≡ Some []
records_in-end = refl
