-- The text of an image denotes it.
use Rattle.std.specs.Prelude.{Option, IsSomeAnd, option_map, is_some, unwrap_or, ◌==◌, if◌then◌else◌, All, AllPairs}
use Rattle.std.specs.List.{AllByRecursion}
use Rattle.std.proofs.lemmas.List.{same_lists}
use Rattle.std.proofs.lemmas.List.Elements.{All-from_recursion}
use Rattle.std.proofs.lemmas.Option.{slice_get-get_or, get_or_from_slice_get}
use Rattle.std.proofs.Common.{◌≡◌, ◌≢◌, ◌+◌, ◌*◌, ◌/◌, ◌%◌, ◌≤◌, ◌<◌, ℕ, zero, suc, Bool, true, false, List, [], ◌∷◌, ◌++◌, length, get_or, Some, None}
use Rattle.std.proofs.Common.{refl, sym, ap, ◌∙◌, arith, zero-add}
use Rattle.ec_space.specs.declared.Core.{Core}
use Rattle.ec_space.specs.declared.Core.TheVariants.{Small, Large}
use Rattle.std.proofs.lemmas.Bool.{eqb-true}
use Rattle.ec_avr.specs.Flash.{flash_size, IsBlankElsewhere}
use Rattle.ec_hex.specs.Record.{Record, Data, Base}
use Rattle.ec_hex.specs.Denotes.{records_in, addressed, data_of, byte_at, HoldsJust, Denotes}
use Rattle.ec_hex.specs.Text.{base_line, contents, more_at, record_line, run, text_from, hex_text, word_bytes}
use Rattle.ec_hex.specs.declared.line.RecordType.TheVariants as kind
use Rattle.ec_hex.proofs.Lines.{AreBytes, records_in-data, records_in-base, records_in-end}
use Rattle.ec_hex.proofs.Runs.{length-contents, length-run, length-run_within}

-- the record of the base of an address before others, where another base is in force
abbrev based : ℕ → ℕ → List Record → List Record
based base at more = if at / 65536 == base then more else Base (65536 * (at / 65536)) ∷ more

-- the records of a text from an address on
abbrev data_records : ℕ → ℕ → ℕ → List (Option ℕ) → List Record
data_records base at out [] = []
data_records base at out (None ∷ cells) = data_records base (at + 1) 0 cells
data_records base at zero (Some byte ∷ cells) =
    based base at (Data (at % 65536) (byte ∷ run (more_at at) cells) ∷ data_records (at / 65536) (at + 1) (more_at at) cells)
data_records base at (suc out) (Some byte ∷ cells) = data_records base (at + 1) out cells

-- the written bytes beside their addresses
abbrev shown : ℕ → List (Option ℕ) → List (ℕ × ℕ)
shown at [] = []
shown at (None ∷ cells) = shown (at + 1) cells
shown at (Some byte ∷ cells) = (at, byte) ∷ shown (at + 1) cells

abbrev CellsAreBytes : List (Option ℕ) → Type 0
CellsAreBytes [] = Unit {0}
CellsAreBytes (None ∷ cells) = CellsAreBytes cells
CellsAreBytes (Some byte ∷ cells) = (byte < 256) × CellsAreBytes cells

run_bytes : (most : ℕ) (cells : List (Option ℕ)) → CellsAreBytes cells → AreBytes (run most cells)
run_bytes most [] all = tt
run_bytes most (None ∷ cells) all = tt
run_bytes zero (Some byte ∷ cells) all = tt
run_bytes (suc most) (Some byte ∷ cells) all = (all.0, run_bytes most cells all.1)

map_same : (o : Option (List Record)) → o ≡ option_map (λ more. more) o
map_same None = refl
map_same (Some records) = refl

-- the line of a base puts its record before those of the rest
records_in-based : (base at : ℕ) (rest : List ℕ) → at / 65536 < 65536
    → records_in (base_line base at ++ rest) ≡ option_map (based base at) (records_in rest)
records_in-based base at rest small = by_test (at / 65536 == base)
  where
    by_test : (b : Bool)
        → records_in ((if b then [] else record_line kind.LinearBase 0 (word_bytes (at / 65536))) ++ rest)
        ≡ option_map (λ more. if b then more else Base (65536 * (at / 65536)) ∷ more) (records_in rest)
    by_test true = map_same (records_in rest)
    by_test false = records_in-base (at / 65536) rest small

records_in-text_from : (base at out : ℕ) (cells : List (Option ℕ)) → CellsAreBytes cells → at + length cells ≤ 4294967296
    → records_in (text_from base at out cells) ≡ Some (data_records base at out cells)
records_in-text_from base at out [] all fits = records_in-end
records_in-text_from base at out (None ∷ cells) all fits = records_in-text_from base (at + 1) 0 cells all (omega (arith, fits))
records_in-text_from base at zero (Some byte ∷ cells) all fits =
    let bytes : List ℕ = run (more_at at) cells in
    let rest : List ℕ = text_from (at / 65536) (at + 1) (more_at at) cells in
    let short = length-run (more_at at) cells in
    records_in-based base at (record_line kind.Data (at % 65536) (byte ∷ bytes) ++ rest) (omega (arith, fits))
    ∙ ap (λ (records : Option (List Record)). option_map (based base at) records)
    (records_in-data (at % 65536) (byte ∷ bytes) rest (omega arith) (omega (arith, short))
    (all.0, run_bytes (more_at at) cells all.1) (omega (arith, short))
    ∙ ap (λ (records : Option (List Record)). option_map (λ more. Data (at % 65536) (byte ∷ bytes) ∷ more) records)
    (records_in-text_from (at / 65536) (at + 1) (more_at at) cells all.1 (omega (arith, fits))))
records_in-text_from base at (suc out) (Some byte ∷ cells) all fits =
    records_in-text_from base (at + 1) out cells all.1 (omega (arith, fits))

-- a record stands from its address on, whichever base was in force before
data_of-based : (base at : ℕ) (bytes : List ℕ) (more : List Record)
    → data_of (65536 * base) (based base at (Data (at % 65536) bytes ∷ more)) ≡ addressed at bytes ++ data_of (65536 * (at / 65536)) more
data_of-based base at bytes more = by_test (at / 65536 == base) refl
  where
    here : 65536 * (at / 65536) + at % 65536 ≡ at
    here = omega arith

    by_test : (b : Bool) → (at / 65536 == base) ≡ b
        → data_of (65536 * base) (if b then Data (at % 65536) bytes ∷ more else Base (65536 * (at / 65536)) ∷ Data (at % 65536) bytes ∷ more)
        ≡ addressed at bytes ++ data_of (65536 * (at / 65536)) more
    by_test true e =
        ap (λ (b : ℕ). addressed (65536 * b + at % 65536) bytes ++ data_of (65536 * b) more) (sym (eqb-true (at / 65536) base e))
        ∙ ap (λ (a : ℕ). addressed a bytes ++ data_of (65536 * (at / 65536)) more) here
    by_test false e = ap (λ (a : ℕ). addressed a bytes ++ data_of (65536 * (at / 65536)) more) here

data_of-records : (base at out : ℕ) (cells : List (Option ℕ))
    → addressed at (run out cells) ++ data_of (65536 * base) (data_records base at out cells) ≡ shown at cells
data_of-records base at out [] = refl
data_of-records base at out (None ∷ cells) = from_none at cells (data_of-records base (at + 1) 0 cells)
  where
    from_none : (at : ℕ) (cells : List (Option ℕ))
        → addressed (at + 1) (run 0 cells) ++ data_of (65536 * base) (data_records base (at + 1) 0 cells) ≡ shown (at + 1) cells
        → data_of (65536 * base) (data_records base (at + 1) 0 cells) ≡ shown (at + 1) cells
    from_none at [] h = h
    from_none at (None ∷ cells) h = h
    from_none at (Some byte ∷ cells) h = h
data_of-records base at zero (Some byte ∷ cells) =
    data_of-based base at (byte ∷ run (more_at at) cells) (data_records (at / 65536) (at + 1) (more_at at) cells)
    ∙ ap (λ (more : List (ℕ × ℕ)). (at, byte) ∷ more) (data_of-records (at / 65536) (at + 1) (more_at at) cells)
data_of-records base at (suc out) (Some byte ∷ cells) =
    ap (λ (more : List (ℕ × ℕ)). (at, byte) ∷ more) (data_of-records base (at + 1) out cells)

data_of-first : (cells : List (Option ℕ)) → data_of 0 (data_records 0 0 0 cells) ≡ shown 0 cells
data_of-first [] = refl
data_of-first (None ∷ cells) = data_of-records 0 0 0 (None ∷ cells)
data_of-first (Some byte ∷ cells) = data_of-records 0 0 0 (Some byte ∷ cells)

shown_below : (at size : ℕ) (cells : List (Option ℕ)) → at + length cells ≤ size → AllByRecursion (λ cell. cell.0 < size) (shown at cells)
shown_below at size [] fits = tt
shown_below at size (None ∷ cells) fits = shown_below (at + 1) size cells (omega (arith, fits))
shown_below at size (Some byte ∷ cells) fits = (omega (arith, fits), shown_below (at + 1) size cells (omega (arith, fits)))

shown_past : (low at : ℕ) (cells : List (Option ℕ)) → low < at → AllByRecursion (λ cell. low ≢ cell.0) (shown at cells)
shown_past low at [] above = tt
shown_past low at (None ∷ cells) above = shown_past low (at + 1) cells (omega (arith, above))
shown_past low at (Some byte ∷ cells) above = ((λ same. omega (arith, above, same)), shown_past low (at + 1) cells (omega (arith, above)))

AllPairs-cons : {X : Type 0} (R : X → X → Type 0) (x : X) (xs : List X) → All (R x) xs → AllPairs R xs → AllPairs R (x ∷ xs)
AllPairs-cons R x xs first rest zero zero d before below = absurd (omega (arith, before))
AllPairs-cons R x xs first rest zero (suc j) d before below = first j d (omega (arith, below))
AllPairs-cons R x xs first rest (suc i) zero d before below = absurd (omega (arith, before))
AllPairs-cons R x xs first rest (suc i) (suc j) d before below = rest i j d (omega (arith, before)) (omega (arith, below))

shown_once : (at : ℕ) (cells : List (Option ℕ)) → AllPairs (λ cell other. cell.0 ≢ other.0) (shown at cells)
shown_once at [] = λ i j d before below. absurd (omega (arith, before, below))
shown_once at (None ∷ cells) = shown_once (at + 1) cells
shown_once at (Some byte ∷ cells) =
    AllPairs-cons (λ cell other. cell.0 ≢ other.0) (at, byte) (shown (at + 1) cells)
    (All-from_recursion (λ other. at ≢ other.0) (shown (at + 1) cells) (shown_past at (at + 1) cells (omega arith)))
    (shown_once (at + 1) cells)

-- a byte where it is written
abbrev shown_at : List ℕ → List Bool → ℕ → Option ℕ
shown_at bytes written i = if get_or written i false then Some (get_or bytes i 255) else None

differ : (a b : ℕ) → a ≢ b → (a == b) ≡ false
differ a b ne = grind arith

equal : (a b : ℕ) → a ≡ b → (a == b) ≡ true
equal a b same = grind arith

byte_at-past : (at k : ℕ) (cells : List (Option ℕ)) → k < at → byte_at k (shown at cells) ≡ None
byte_at-past at k [] above = refl
byte_at-past at k (None ∷ cells) above = byte_at-past (at + 1) k cells (omega (arith, above))
byte_at-past at k (Some byte ∷ cells) above =
    rw (differ at k (λ same. omega (arith, above, same))) (byte_at-past (at + 1) k cells (omega (arith, above)))

byte_at-shown : (at k i : ℕ) (bytes : List ℕ) (written : List Bool) → k ≡ at + i → length written ≡ length bytes
    → byte_at k (shown at (contents bytes written)) ≡ shown_at bytes written i
byte_at-shown at k i [] [] place same = refl
byte_at-shown at k i [] (flag ∷ written) place same = absurd (omega (arith, same))
byte_at-shown at k i (byte ∷ bytes) [] place same = absurd (omega (arith, same))
byte_at-shown at k zero (byte ∷ bytes) (true ∷ written) place same = rw (equal at k (omega (arith, place))) refl
byte_at-shown at k zero (byte ∷ bytes) (false ∷ written) place same =
    byte_at-past (at + 1) k (contents bytes written) (omega (arith, place))
byte_at-shown at k (suc i) (byte ∷ bytes) (true ∷ written) place same =
    rw (differ at k (λ here. omega (arith, place, here)))
    (byte_at-shown (at + 1) k i bytes written (omega (arith, place)) (omega (arith, same)))
byte_at-shown at k (suc i) (byte ∷ bytes) (false ∷ written) place same =
    byte_at-shown (at + 1) k i bytes written (omega (arith, place)) (omega (arith, same))

cells_are_bytes : (bytes : List ℕ) (written : List Bool) → ((k : ℕ) → get_or bytes k 0 < 256) → CellsAreBytes (contents bytes written)
cells_are_bytes [] written all = tt
cells_are_bytes (byte ∷ bytes) [] all = tt
cells_are_bytes (byte ∷ bytes) (true ∷ written) all = (all 0, cells_are_bytes bytes written (λ k. all (suc k)))
cells_are_bytes (byte ∷ bytes) (false ∷ written) all = cells_are_bytes bytes written (λ k. all (suc k))

flash_fits : (core : Core) → flash_size core ≤ 4294967296
flash_fits Small = omega arith
flash_fits Large = omega arith

flag_is : (flag : Bool) (byte : ℕ) → flag ≡ is_some (if flag then Some byte else None)
flag_is true byte = refl
flag_is false byte = refl

byte_is : (flag : Bool) (byte : ℕ) → (flag ≡ false → byte ≡ 255) → byte ≡ unwrap_or (if flag then Some byte else None) 255
byte_is true byte blank = refl
byte_is false byte blank = blank refl

pub denotes-hex_text : (core : Core) (bytes : List ℕ) (written : List Bool) → length bytes ≡ flash_size core
    → length written ≡ flash_size core
    → ((k : ℕ) → get_or bytes k 0 < 256) → IsBlankElsewhere bytes written → Denotes core (hex_text bytes written) bytes written
denotes-hex_text core bytes written sized flagged all blank =
    let same : length written ≡ length bytes = flagged ∙ sym sized in
    let cells : List (Option ℕ) = contents bytes written in
    let long : length cells ≡ flash_size core = length-contents bytes written same ∙ sized in
    rw (records_in-text_from 0 0 0 cells (cells_are_bytes bytes written all) (omega (arith, long, flash_fits core)), data_of-first cells)
    (record {
      in_flash = All-from_recursion (λ cell. cell.0 < flash_size core) (shown 0 cells)
          (shown_below 0 (flash_size core) cells (omega (arith, long)));
      once = shown_once 0 cells;
      sized = sized;
      flagged = flagged;
      bytes_are = λ k below. rw (byte_at-shown 0 k k bytes written (omega arith) same)
          (slice_get-get_or bytes k 255 (omega (arith, sized, below)) ∙ ap Some (byte_is (get_or written k false) (get_or bytes k 255)
          (λ unwritten. get_or_from_slice_get bytes k 255 255
          (blank k (slice_get-get_or written k false (omega (arith, flagged, below)) ∙ ap Some unwritten)))));
      flags_are = λ k below. rw (byte_at-shown 0 k k bytes written (omega arith) same)
          (slice_get-get_or written k false (omega (arith, flagged, below))
          ∙ ap Some (flag_is (get_or written k false) (get_or bytes k 255)));
    })

-- a text denotes one image at most
pub one_image : (core : Core) (text bytes others : List ℕ) (written flags : List Bool)
    → Denotes core text bytes written → Denotes core text others flags → (bytes ≡ others) × (written ≡ flags)
one_image core text bytes others written flags = by_records (records_in text)
  where
    by_records : (records : Option (List Record))
        → IsSomeAnd records (λ found. HoldsJust core (data_of 0 found) bytes written)
        → IsSomeAnd records (λ found. HoldsJust core (data_of 0 found) others flags)
        → (bytes ≡ others) × (written ≡ flags)
    by_records None one other = absurd one
    by_records (Some found) one other = (
      same_lists bytes others (one.sized ∙ sym other.sized) (λ k d below.
          let inside : k < flash_size core = omega (arith, below, one.sized) in
          get_or_from_slice_get bytes k _ d (one.bytes_are k inside) ∙ sym (get_or_from_slice_get others k _ d (other.bytes_are k inside))),
      same_lists written flags (one.flagged ∙ sym other.flagged) (λ k d below.
          let inside : k < flash_size core = omega (arith, below, one.flagged) in
          get_or_from_slice_get written k _ d (one.flags_are k inside)
          ∙ sym (get_or_from_slice_get flags k _ d (other.flags_are k inside))),
    )
