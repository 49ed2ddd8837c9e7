-- A text stops the reading at one line at most, and in one way; and one that denotes an image stops it in none.
use Rattle.std.specs.Prelude.{Option, IsSomeAnd, slice_get, option_map, All, ◌⊎◌}
use Rattle.std.specs.List.{AllByRecursion}
use Rattle.std.proofs.lemmas.Bool.{cases_lt, cases_order}
use Rattle.std.proofs.lemmas.List.{get_or_append_left, take-append-drop, take-take, take_all, take_more, length-take}
use Rattle.std.proofs.lemmas.List.Elements.{All-from_recursion, recursion_from_All}
use Rattle.std.proofs.lemmas.Option.{slice_get_within, slice_get_past, slice_get-get_or, get_or_from_slice_get}
use Rattle.std.proofs.Common.{◌≡◌, ◌≢◌, ◌+◌, ◌≤◌, ◌<◌, ℕ, zero, suc, Bool, true, false, List, [], ◌∷◌, ◌++◌, length, take, drop, Some, None}
use Rattle.std.proofs.Common.{refl, sym, ap, ◌∙◌, subst, arith, inl, inr, get_or-take, append_assoc, append-nil, length-append}
use Rattle.ec_space.specs.declared.Core.{Core}
use Rattle.ec_avr.specs.Flash.{flash_size}
use Rattle.ec_hex.specs.Record.{Record, Data, EndOfFile, Base, Start, Reading, Empty, NoRecord, WrongSum, Sound}
use Rattle.ec_hex.specs.Denotes.{addressed, data_of, records_of, records_in, HoldsJust, Denotes}
use Rattle.ec_hex.specs.Reading.{base_after}
use Rattle.ec_hex.specs.Stops.{readings_of, told, data_in, is_passed, AreInFlash, AreOnce, IsClear, StopsIn, HasStop}
use Rattle.ec_hex.specs.declared.read.HexStop.{HexStop}
use Rattle.ec_hex.specs.declared.read.HexStop.TheVariants.{BadRecord, BadSum, OutOfFlash, Twice, NoEnd, NoMemory}

-- ---- lines in two parts

pub told-append : (xs ys : List Reading) → told (xs ++ ys) ≡ told xs ++ told ys
told-append [] ys = refl
told-append (Empty ∷ xs) ys = told-append xs ys
told-append (NoRecord ∷ xs) ys = told-append xs ys
told-append (WrongSum ∷ xs) ys = told-append xs ys
told-append (Sound what ∷ xs) ys = ap (λ (more : List Record). what ∷ more) (told-append xs ys)

pub base_after-append : (base : ℕ) (xs ys : List Record) → base_after base (xs ++ ys) ≡ base_after (base_after base xs) ys
base_after-append base [] ys = refl
base_after-append base (Data offset bytes ∷ xs) ys = base_after-append base xs ys
base_after-append base (EndOfFile ∷ xs) ys = base_after-append base xs ys
base_after-append base (Base next ∷ xs) ys = base_after-append next xs ys
base_after-append base (Start ∷ xs) ys = base_after-append base xs ys

data_of-append : (base : ℕ) (xs ys : List Reading) → AllByRecursion (λ reading. is_passed reading ≡ true) xs
    → data_of base (told (xs ++ ys)) ≡ data_of base (told xs) ++ data_of (base_after base (told xs)) (told ys)
data_of-append base [] ys all = refl
data_of-append base (Empty ∷ xs) ys all = data_of-append base xs ys all.1
data_of-append base (NoRecord ∷ xs) ys all = cc all.0
data_of-append base (WrongSum ∷ xs) ys all = cc all.0
data_of-append base (Sound (Data offset bytes) ∷ xs) ys all =
    ap (λ (more : List (ℕ × ℕ)). addressed (base + offset) bytes ++ more) (data_of-append base xs ys all.1)
    ∙ sym (append_assoc (addressed (base + offset) bytes) (data_of base (told xs)) (data_of (base_after base (told xs)) (told ys)))
data_of-append base (Sound EndOfFile ∷ xs) ys all = cc all.0
data_of-append base (Sound (Base next) ∷ xs) ys all = data_of-append next xs ys all.1
data_of-append base (Sound Start ∷ xs) ys all = data_of-append base xs ys all.1

-- the data of a front is a prefix of the data
data_of-front : (base : ℕ) (xs ys : List Reading)
    → (more : List (ℕ × ℕ)) × (data_of base (told (xs ++ ys)) ≡ data_of base (told xs) ++ more)
data_of-front base [] ys = (data_of base (told ys), refl)
data_of-front base (Empty ∷ xs) ys = data_of-front base xs ys
data_of-front base (NoRecord ∷ xs) ys = data_of-front base xs ys
data_of-front base (WrongSum ∷ xs) ys = data_of-front base xs ys
data_of-front base (Sound (Data offset bytes) ∷ xs) ys =
    let rest = data_of-front base xs ys in (
      rest.0,
      ap (λ (more : List (ℕ × ℕ)). addressed (base + offset) bytes ++ more) rest.1
          ∙ sym (append_assoc (addressed (base + offset) bytes) (data_of base (told xs)) rest.0),
    )
data_of-front base (Sound EndOfFile ∷ xs) ys = ([], refl)
data_of-front base (Sound (Base next) ∷ xs) ys = data_of-front next xs ys
data_of-front base (Sound Start ∷ xs) ys = data_of-front base xs ys

All-front : {X : Type 0} (P : X → Type 0) (xs ys : List X) → All P (xs ++ ys) → All P xs
All-front P xs ys all k d below = subst P (get_or_append_left xs ys d k below) (all k d (omega (arith, length-append xs ys, below)))

once_front : (xs ys : List (ℕ × ℕ)) → AreOnce (xs ++ ys) → AreOnce xs
once_front xs ys all i j d before below same =
    all i j d before (omega (arith, length-append xs ys, below))
    (ap (λ (cell : ℕ × ℕ). cell.0) (get_or_append_left xs ys d i (omega (arith, before, below))) ∙ same
    ∙ ap (λ (cell : ℕ × ℕ). cell.0) (sym (get_or_append_left xs ys d j below)))

clear_front : (core : Core) (xs ys : List Reading) → IsClear core (xs ++ ys) → IsClear core xs
clear_front core xs ys clear =
    let told_front = data_of-front 0 xs ys in
    record {
      passed = All-front (λ reading. is_passed reading ≡ true) xs ys clear.passed;
      in_flash = All-front (λ cell. cell.0 < flash_size core) (data_in xs) told_front.0
          (subst (λ (cells : List (ℕ × ℕ)). AreInFlash core cells) told_front.1 clear.in_flash);
      once = once_front (data_in xs) told_front.0 (subst (λ (cells : List (ℕ × ℕ)). AreOnce cells) told_front.1 clear.once);
    }

pub clear_take : (core : Core) (readings : List Reading) (m n : ℕ) → m ≤ n → IsClear core (take n readings) → IsClear core (take m readings)
clear_take core readings m n le clear =
    let split : take n readings ≡ take m readings ++ drop m (take n readings) =
    sym (take-append-drop m (take n readings))
    ∙ ap (λ (front : List Reading). front ++ drop m (take n readings)) (take-take m n readings le) in
    clear_front core (take m readings) (drop m (take n readings)) (subst (λ (lines : List Reading). IsClear core lines) split clear)

-- one more line
pub next_lines : (readings : List Reading) (n : ℕ) (reading : Reading) → slice_get readings n ≡ Some reading
    → take (n + 1) readings ≡ take n readings ++ reading ∷ []
next_lines readings n reading at =
    take_more readings n reading (slice_get_within readings n reading at)
    ∙ ap (λ (r : Reading). take n readings ++ r ∷ []) (get_or_from_slice_get readings n reading reading at)

pub data_in-next : (readings : List Reading) (n : ℕ) (reading : Reading) → slice_get readings n ≡ Some reading
    → All (λ r. is_passed r ≡ true) (take n readings)
    → data_in (take (n + 1) readings) ≡ data_in (take n readings) ++ data_of (base_after 0 (told (take n readings))) (told (reading ∷ []))
data_in-next readings n reading at passed =
    ap data_in (next_lines readings n reading at)
    ∙ data_of-append 0 (take n readings) (reading ∷ []) (recursion_from_All (λ r. is_passed r ≡ true) (take n readings) passed)

pub base_after-next : (readings : List Reading) (n : ℕ) (reading : Reading) → slice_get readings n ≡ Some reading
    → base_after 0 (told (take (n + 1) readings)) ≡ base_after (base_after 0 (told (take n readings))) (told (reading ∷ []))
base_after-next readings n reading at =
    ap (λ (lines : List Reading). base_after 0 (told lines)) (next_lines readings n reading at)
    ∙ ap (λ (records : List Record). base_after 0 records) (told-append (take n readings) (reading ∷ []))
    ∙ base_after-append 0 (told (take n readings)) (told (reading ∷ []))

-- ---- where reading halts

-- no line follows, or one that tells no data; a data byte past the flash; an address that occurs twice
data Halt : Type 0 where
  At : (reading : Option Reading) → Halt
  Out : Halt
  Again : Halt

abbrev halts : Option Reading → Bool
halts None = true
halts (Some Empty) = false
halts (Some NoRecord) = true
halts (Some WrongSum) = true
halts (Some (Sound (Data offset bytes))) = false
halts (Some (Sound EndOfFile)) = true
halts (Some (Sound (Base base))) = false
halts (Some (Sound Start)) = false

abbrev Why : Core → List Reading → ℕ → Halt → Type 0
Why core readings n (At reading) = (slice_get readings n ≡ reading) × (halts reading ≡ true)
Why core readings n Out = AreInFlash core (data_in (take (n + 1) readings)) → ⊥
Why core readings n Again = AreInFlash core (data_in (take (n + 1) readings)) × (AreOnce (data_in (take (n + 1) readings)) → ⊥)

record HaltsAt (core : Core) (readings : List Reading) (n : ℕ) (halt : Halt) : Type 0 where
  within : n ≤ length readings
  clear : IsClear core (take n readings)
  why : Why core readings n halt

past_end : (readings : List Reading) (n : ℕ) → length readings ≤ n → take (n + 1) readings ≡ take n readings
past_end readings n past = take_all (n + 1) readings (omega (arith, past)) ∙ sym (take_all n readings past)

-- a line at which reading halts tells no data
same_data : (readings : List Reading) (n : ℕ) (reading : Option Reading) → slice_get readings n ≡ reading → halts reading ≡ true
    → All (λ r. is_passed r ≡ true) (take n readings) → data_in (take (n + 1) readings) ≡ data_in (take n readings)
same_data readings n None at halt passed = either (cases_lt n (length readings))
  where
    either : (n < length readings) ⊎ (length readings ≤ n) → data_in (take (n + 1) readings) ≡ data_in (take n readings)
    either (inl below) = cc (slice_get-get_or readings n Empty below, at)
    either (inr past) = ap data_in (past_end readings n past)
same_data readings n (Some Empty) at halt passed = cc
same_data readings n (Some NoRecord) at halt passed = data_in-next readings n NoRecord at passed ∙ append-nil _
same_data readings n (Some WrongSum) at halt passed = data_in-next readings n WrongSum at passed ∙ append-nil _
same_data readings n (Some (Sound (Data offset bytes))) at halt passed = cc
same_data readings n (Some (Sound EndOfFile)) at halt passed = data_in-next readings n (Sound EndOfFile) at passed ∙ append-nil _
same_data readings n (Some (Sound (Base base))) at halt passed = cc
same_data readings n (Some (Sound Start)) at halt passed = cc

passed_at : (core : Core) (readings : List Reading) (n : ℕ) (reading : Reading) → slice_get readings n ≡ Some reading
    → IsClear core (take (n + 1) readings) → is_passed reading ≡ true
passed_at core readings n reading at clear =
    let below : n < length readings = slice_get_within readings n reading at in
    ap is_passed (sym (get_or_from_slice_get readings n reading reading at) ∙ sym (get_or-take (n + 1) readings n reading (omega arith)))
    ∙ clear.passed n reading (omega (arith, length-take (n + 1) readings, below))

-- no clear lines go on past a halt
stuck : (core : Core) (readings : List Reading) (n m : ℕ) (halt : Halt) → HaltsAt core readings n halt → n < m → m ≤ length readings
    → IsClear core (take m readings) → ⊥
stuck core readings n m (At None) h below within clear = cc (slice_get-get_or readings n Empty (omega (arith, below, within)), h.why.0)
stuck core readings n m (At (Some Empty)) h below within clear = cc h.why.1
stuck core readings n m (At (Some NoRecord)) h below within clear =
    cc (passed_at core readings n NoRecord h.why.0 (clear_take core readings (n + 1) m (omega (arith, below)) clear))
stuck core readings n m (At (Some WrongSum)) h below within clear =
    cc (passed_at core readings n WrongSum h.why.0 (clear_take core readings (n + 1) m (omega (arith, below)) clear))
stuck core readings n m (At (Some (Sound (Data offset bytes)))) h below within clear = cc h.why.1
stuck core readings n m (At (Some (Sound EndOfFile))) h below within clear =
    cc (passed_at core readings n (Sound EndOfFile) h.why.0 (clear_take core readings (n + 1) m (omega (arith, below)) clear))
stuck core readings n m (At (Some (Sound (Base base)))) h below within clear = cc h.why.1
stuck core readings n m (At (Some (Sound Start))) h below within clear = cc h.why.1
stuck core readings n m Out h below within clear = h.why (clear_take core readings (n + 1) m (omega (arith, below)) clear).in_flash
stuck core readings n m Again h below within clear = h.why.1 (clear_take core readings (n + 1) m (omega (arith, below)) clear).once

same_place : (core : Core) (readings : List Reading) (n m : ℕ) (halt other : Halt) → HaltsAt core readings n halt
    → HaltsAt core readings m other → n ≡ m
same_place core readings n m halt other h k = either (cases_order n m)
  where
    either : (n ≡ m) ⊎ ((n < m) ⊎ (m < n)) → n ≡ m
    either (inl same) = same
    either (inr (inl below)) = absurd (stuck core readings n m halt h below k.within k.clear)
    either (inr (inr below)) = absurd (stuck core readings m n other k below h.within h.clear)

no_out : (core : Core) (readings : List Reading) (n : ℕ) (reading : Option Reading) → HaltsAt core readings n (At reading)
    → AreInFlash core (data_in (take (n + 1) readings))
no_out core readings n reading h =
    subst (λ (cells : List (ℕ × ℕ)). AreInFlash core cells)
    (sym (same_data readings n reading h.why.0 h.why.1 h.clear.passed)) h.clear.in_flash

no_again : (core : Core) (readings : List Reading) (n : ℕ) (reading : Option Reading) → HaltsAt core readings n (At reading)
    → AreOnce (data_in (take (n + 1) readings))
no_again core readings n reading h =
    subst (λ (cells : List (ℕ × ℕ)). AreOnce cells) (sym (same_data readings n reading h.why.0 h.why.1 h.clear.passed)) h.clear.once

same_halt : (core : Core) (readings : List Reading) (n : ℕ) (halt other : Halt) → HaltsAt core readings n halt
    → HaltsAt core readings n other → halt ≡ other
same_halt core readings n (At reading) (At next) h k = ap At (sym h.why.0 ∙ k.why.0)
same_halt core readings n (At reading) Out h k = absurd (k.why (no_out core readings n reading h))
same_halt core readings n (At reading) Again h k = absurd (k.why.1 (no_again core readings n reading h))
same_halt core readings n Out (At reading) h k = absurd (h.why (no_out core readings n reading k))
same_halt core readings n Out Out h k = refl
same_halt core readings n Out Again h k = absurd (h.why k.why.0)
same_halt core readings n Again (At reading) h k = absurd (h.why.1 (no_again core readings n reading k))
same_halt core readings n Again Out h k = absurd (k.why h.why.0)
same_halt core readings n Again Again h k = refl

abbrev stop_at : ℕ → Halt → HexStop
stop_at n (At None) = NoEnd
stop_at n (At (Some Empty)) = NoMemory
stop_at n (At (Some NoRecord)) = BadRecord (n + 1)
stop_at n (At (Some WrongSum)) = BadSum (n + 1)
stop_at n (At (Some (Sound what))) = NoMemory
stop_at n Out = OutOfFlash (n + 1)
stop_at n Again = Twice (n + 1)

record Halts (core : Core) (readings : List Reading) (stop : HexStop) : Type 0 where
  n : ℕ
  halt : Halt
  at : HaltsAt core readings n halt
  is : stop ≡ stop_at n halt

same_stop : (core : Core) (readings : List Reading) (stop other : HexStop) → Halts core readings stop
    → Halts core readings other → stop ≡ other
same_stop core readings stop other h k =
    let place : h.n ≡ k.n = same_place core readings h.n k.n h.halt k.halt h.at k.at in
    let at : HaltsAt core readings h.n k.halt = subst (λ (n : ℕ). HaltsAt core readings n k.halt) (sym place) k.at in
    h.is ∙ ap (λ (halt : Halt). stop_at h.n halt) (same_halt core readings h.n h.halt k.halt h.at at)
    ∙ ap (λ (n : ℕ). stop_at n k.halt) place ∙ sym k.is

inside : (core : Core) (readings : List Reading) (n : ℕ) → IsClear core (take n readings) → (IsClear core (take (n + 1) readings) → ⊥)
    → n ≤ length readings
inside core readings n clear not_more = either (cases_lt (length readings) n)
  where
    either : (length readings < n) ⊎ (n ≤ length readings) → n ≤ length readings
    either (inl past) =
        absurd (not_more (subst (λ (lines : List Reading). IsClear core lines) (sym (past_end readings n (omega (arith, past)))) clear))
    either (inr within) = within

halted : (core : Core) (readings : List Reading) (stop : HexStop) → StopsIn core readings stop → stop ≢ NoMemory → Halts core readings stop
halted core readings (BadRecord line) h some = record {
  n = h.0;
  halt = At (Some NoRecord);
  is = ap BadRecord h.1.0;
  at = record { within = omega (arith, slice_get_within readings h.0 NoRecord h.1.1.1); clear = h.1.1.0; why = (h.1.1.1, refl) };
}
halted core readings (BadSum line) h some = record {
  n = h.0;
  halt = At (Some WrongSum);
  is = ap BadSum h.1.0;
  at = record { within = omega (arith, slice_get_within readings h.0 WrongSum h.1.1.1); clear = h.1.1.0; why = (h.1.1.1, refl) };
}
halted core readings (OutOfFlash line) h some = record {
  n = h.0;
  halt = Out;
  is = ap OutOfFlash h.1.0;
  at = record { within = inside core readings h.0 h.1.1.0 (λ clear. h.1.1.1 clear.in_flash); clear = h.1.1.0; why = h.1.1.1 };
}
halted core readings (Twice line) h some = record {
  n = h.0;
  halt = Again;
  is = ap Twice h.1.0;
  at = record { within = inside core readings h.0 h.1.1.0 (λ clear. h.1.1.1.1 clear.once); clear = h.1.1.0; why = h.1.1.1 };
}
halted core readings NoEnd h some = record {
  n = length readings;
  halt = At None;
  is = refl;
  at = record {
    within = omega arith;
    clear = subst (λ (lines : List Reading). IsClear core lines) (sym (take_all (length readings) readings (omega arith))) h;
    why = (slice_get_past readings (length readings) (omega arith), refl);
  };
}
halted core readings NoMemory h some = absurd (some refl)

-- ---- the end record

cons_of : (what : Record) (more : Option (List Record)) (found : List Record) → option_map (λ records. what ∷ records) more ≡ Some found
    → (rest : List Record) × ((more ≡ Some rest) × (what ∷ rest ≡ found))
cons_of what None found e = cc
cons_of what (Some rest) found e = (rest, (refl, cc))

record Ends (readings : List Reading) (found : List Record) : Type 0 where
  n : ℕ
  at : slice_get readings n ≡ Some (Sound EndOfFile)
  passed : AllByRecursion (λ reading. is_passed reading ≡ true) (take n readings)
  records : told (take n readings) ≡ found

ended : (readings : List Reading) (found : List Record) → records_of readings ≡ Some found → Ends readings found
ended [] found e = cc
ended (Empty ∷ more) found e =
    let rest = ended more found e in
    record { n = suc rest.n; at = rest.at; passed = (refl, rest.passed); records = rest.records }
ended (NoRecord ∷ more) found e = cc
ended (WrongSum ∷ more) found e = cc
ended (Sound EndOfFile ∷ more) found e = record { n = 0; at = refl; passed = tt; records = cc }
ended (Sound (Data offset bytes) ∷ more) found e =
    let parts = cons_of (Data offset bytes) (records_of more) found e in
    let rest = ended more parts.0 parts.1.0 in
    record {
      n = suc rest.n;
      at = rest.at;
      passed = (refl, rest.passed);
      records = ap (λ (l : List Record). Data offset bytes ∷ l) rest.records ∙ parts.1.1;
    }
ended (Sound (Base base) ∷ more) found e =
    let parts = cons_of (Base base) (records_of more) found e in
    let rest = ended more parts.0 parts.1.0 in
    record {
      n = suc rest.n;
      at = rest.at;
      passed = (refl, rest.passed);
      records = ap (λ (l : List Record). Base base ∷ l) rest.records ∙ parts.1.1;
    }
ended (Sound Start ∷ more) found e =
    let parts = cons_of Start (records_of more) found e in
    let rest = ended more parts.0 parts.1.0 in
    record {
      n = suc rest.n;
      at = rest.at;
      passed = (refl, rest.passed);
      records = ap (λ (l : List Record). Start ∷ l) rest.records ∙ parts.1.1;
    }

-- lines that are passed, and then the end record, tell their records
pub records-ended : (readings : List Reading) (n : ℕ) → slice_get readings n ≡ Some (Sound EndOfFile)
    → AllByRecursion (λ reading. is_passed reading ≡ true) (take n readings) → records_of readings ≡ Some (told (take n readings))
records-ended [] n at passed = cc
records-ended (Empty ∷ more) zero at passed = cc
records-ended (NoRecord ∷ more) zero at passed = cc
records-ended (WrongSum ∷ more) zero at passed = cc
records-ended (Sound EndOfFile ∷ more) zero at passed = refl
records-ended (Sound (Data offset bytes) ∷ more) zero at passed = cc
records-ended (Sound (Base base) ∷ more) zero at passed = cc
records-ended (Sound Start ∷ more) zero at passed = cc
records-ended (Empty ∷ more) (suc n) at passed = records-ended more n at passed.1
records-ended (NoRecord ∷ more) (suc n) at passed = cc passed.0
records-ended (WrongSum ∷ more) (suc n) at passed = cc passed.0
records-ended (Sound EndOfFile ∷ more) (suc n) at passed = cc passed.0
records-ended (Sound (Data offset bytes) ∷ more) (suc n) at passed =
    ap (λ (o : Option (List Record)). option_map (λ records. Data offset bytes ∷ records) o) (records-ended more n at passed.1)
records-ended (Sound (Base base) ∷ more) (suc n) at passed =
    ap (λ (o : Option (List Record)). option_map (λ records. Base base ∷ records) o) (records-ended more n at passed.1)
records-ended (Sound Start ∷ more) (suc n) at passed =
    ap (λ (o : Option (List Record)). option_map (λ records. Start ∷ records) o) (records-ended more n at passed.1)

pub denotes_at : (core : Core) (text : List ℕ) (n : ℕ) (bytes : List ℕ) (written : List Bool)
    → slice_get (readings_of text) n ≡ Some (Sound EndOfFile) → All (λ reading. is_passed reading ≡ true) (take n (readings_of text))
    → HoldsJust core (data_in (take n (readings_of text))) bytes written → Denotes core text bytes written
denotes_at core text n bytes written at passed holds =
    rw (records-ended (readings_of text) n at (recursion_from_All (λ reading. is_passed reading ≡ true) (take n (readings_of text)) passed))
    holds

denoted : (core : Core) (text bytes : List ℕ) (written : List Bool) → Denotes core text bytes written
    → Halts core (readings_of text) NoMemory
denoted core text bytes written h = by_records (records_in text) refl h
  where
    by_records : (records : Option (List Record)) → records_of (readings_of text) ≡ records
        → IsSomeAnd records (λ found. HoldsJust core (data_of 0 found) bytes written) → Halts core (readings_of text) NoMemory
    by_records None e holds = absurd holds
    by_records (Some found) e holds =
        let end = ended (readings_of text) found e in
        record {
          n = end.n;
          halt = At (Some (Sound EndOfFile));
          is = refl;
          at = record {
            within = omega (arith, slice_get_within (readings_of text) end.n (Sound EndOfFile) end.at);
            clear = record {
              passed = All-from_recursion (λ reading. is_passed reading ≡ true) (take end.n (readings_of text)) end.passed;
              in_flash = subst (λ (records : List Record). AreInFlash core (data_of 0 records)) (sym end.records) holds.in_flash;
              once = subst (λ (records : List Record). AreOnce (data_of 0 records)) (sym end.records) holds.once;
            };
            why = (end.at, refl);
          };
        }

-- ---- the answers

memory_or_not : (stop : HexStop) → (stop ≡ NoMemory) ⊎ (stop ≢ NoMemory)
memory_or_not (BadRecord line) = inr (λ e. cc)
memory_or_not (BadSum line) = inr (λ e. cc)
memory_or_not (OutOfFlash line) = inr (λ e. cc)
memory_or_not (Twice line) = inr (λ e. cc)
memory_or_not NoEnd = inr (λ e. cc)
memory_or_not NoMemory = inl refl

pub no_image : (core : Core) (text : List ℕ) (stop : HexStop) → HasStop core text stop → (bytes : List ℕ) (written : List Bool)
    → Denotes core text bytes written → stop ≡ NoMemory
no_image core text stop h bytes written image = either (memory_or_not stop)
  where
    either : (stop ≡ NoMemory) ⊎ (stop ≢ NoMemory) → stop ≡ NoMemory
    either (inl same) = same
    either (inr some) =
        same_stop core (readings_of text) stop NoMemory (halted core (readings_of text) stop h some) (denoted core text bytes written image)

pub only_stop : (core : Core) (text : List ℕ) (stop : HexStop) → HasStop core text stop → (other : HexStop) → HasStop core text other
    → other ≢ NoMemory
    → (stop ≡ other) ⊎ (stop ≡ NoMemory)
only_stop core text stop h other k some = either (memory_or_not stop)
  where
    either : (stop ≡ NoMemory) ⊎ (stop ≢ NoMemory) → (stop ≡ other) ⊎ (stop ≡ NoMemory)
    either (inl same) = inr same
    either (inr here) = inl (same_stop core (readings_of text) stop other (halted core (readings_of text) stop h here)
        (halted core (readings_of text) other k some))
