-- How long the text of an image is.
use Rattle.std.proofs.Common.{◌≡◌, ◌+◌, ◌-◌, ◌*◌, ◌/◌, ◌%◌, ◌≤◌, ◌<◌, true, false, refl, ℕ, zero, suc, Bool, List, [], ◌∷◌, ◌++◌, ◌≢◌, length, Some, None, arith, length-append}
use Rattle.std.specs.Prelude.{Option, ◌==◌, if◌then◌else◌}
use Rattle.std.proofs.lemmas.Bool.{eqb-true, eq-eqb}
use Rattle.ec_avr.specs.Flash.{flash_size}
use Rattle.ec_avr.specs.declared.image.Image.{Image}
use Rattle.ec_hex.specs.Bytes.{digits_of}
use Rattle.ec_hex.specs.Text.{fields, checksum, record_line, base_line, word_bytes, more_at, contents, run, text_from, TextsAreShort}
use Rattle.ec_hex.specs.declared.line.RecordType.{RecordType}
use Rattle.ec_hex.specs.declared.line.RecordType.TheVariants.{Data, EndOfFile, LinearBase}
use Rattle.ec_hex.proofs.Bytes.{length-digits_of}

length_record : (kind : RecordType) (offset : ℕ) (bytes : List ℕ) → length (record_line kind offset bytes) ≡ 2 * length bytes + 12
length_record kind offset bytes =
    let check : List ℕ = checksum (fields kind offset bytes) ∷ [] in
    let all : List ℕ = fields kind offset bytes ++ check in
    omega (
      arith,
      length-append (digits_of all) (10 ∷ []),
      length-digits_of all,
      length-append (fields kind offset bytes) check,
    )

-- a new base is a greater one
base_within : (base at : ℕ) → base ≤ at / 65536 → length (base_line base at) + 16 * base ≤ 16 * (at / 65536)
base_within base at low = by_test (at / 65536 == base) refl
  where
    by_test : (b : Bool) → (at / 65536 == base) ≡ b
        → length (if b then [] else record_line LinearBase 0 (word_bytes (at / 65536))) + 16 * base ≤ 16 * (at / 65536)
    by_test true e = omega (arith, low)
    by_test false e =
        let other : at / 65536 ≢ base = λ same. cc (eq-eqb (at / 65536) base same, e) in
        omega (arith, low, other, length_record LinearBase 0 (word_bytes (at / 65536)))

-- what is put out already costs nothing more
text_within : (top base at out : ℕ) (cells : List (Option ℕ)) → base ≤ at / 65536 → base ≤ top → at + length cells ≤ 65536 * top + 65536
    → length (text_from base at out cells) + 14 * length (run out cells) + 16 * base ≤ 14 * length cells + 16 * top + 12
text_within top base at out [] low under fits = omega (arith, under, length_record EndOfFile 0 [])
text_within top base at out (None ∷ cells) low under fits =
    omega (arith, text_within top base (at + 1) 0 cells (omega (arith, low)) under (omega (arith, fits)))
text_within top base at zero (Some byte ∷ cells) low under fits =
    let half : ℕ = at / 65536 in
    let line : List ℕ = record_line Data (at % 65536) (byte ∷ run (more_at at) cells) in
    let rest : List ℕ = text_from half (at + 1) (more_at at) cells in
    omega (
      arith,
      length-append (base_line base at) (line ++ rest),
      length-append line rest,
      base_within base at low,
      length_record Data (at % 65536) (byte ∷ run (more_at at) cells),
      text_within top half (at + 1) (more_at at) cells (omega arith) (omega (arith, fits)) (omega (arith, fits)),
    )
text_within top base at (suc out) (Some byte ∷ cells) low under fits =
    omega (arith, text_within top base (at + 1) out cells (omega (arith, low)) under (omega (arith, fits)))

contents_within : (bytes : List ℕ) (written : List Bool) → length (contents bytes written) ≤ length bytes
contents_within [] written = omega arith
contents_within (byte ∷ bytes) [] = omega arith
contents_within (byte ∷ bytes) (flag ∷ written) = omega (arith, contents_within bytes written)

pub texts_are_short : TextsAreShort
texts_are_short image =
    let size : ℕ = flash_size image.core in
    let within = contents_within image.bytes.items image.written.items in
    let sized = image.sized in
    omega (
      arith,
      text_within ((size - 1) / 65536) 0 0 0 (contents image.bytes.items image.written.items) (omega arith) (omega arith)
          (omega (arith, within, sized)),
      within,
      sized,
    )
