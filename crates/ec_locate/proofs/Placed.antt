-- What is at hand of a program where its regions have room.
use Rattle.std.proofs.Common.{◌≡◌, ⊎_elim, ◌+◌, ◌<◌, ℕ, List, length, Option, None, sym, ap, ◌∙◌, arith}
use Rattle.std.specs.List.{All}
use Rattle.std.specs.Prelude.{slice_index}
use Rattle.std.proofs.lemmas.Bool.{cases_lt}
use Rattle.std.proofs.lemmas.List.{length-map}
use Rattle.ec_space.specs.Listed.{Listed}
use Rattle.ec_asm.specs.Items.{code_words}
use Rattle.ec_asm.specs.declared.items.AsmProgram.{AsmProgram}
use Rattle.ec_check_recursion.specs.Rows.{plain_rows, rows_of_program}
use Rattle.ec_core.specs.Plain.{PlainProgram}
use Rattle.ec_core.specs.Valid.{Valid}
use Rattle.ec_map.specs.Maps.{ValidMap}
use Rattle.ec_map.specs.declared.map.Map.{Map}
use Rattle.ec_locate.specs.Areas.{IsKeptBelow}
use Rattle.ec_locate.specs.Calls.{chains, call_depth}
use Rattle.ec_locate.specs.Entries.{entry_of, flash_sizes, far_sizes, initial_sizes}
use Rattle.ec_locate.specs.Layout.{work_area}
use Rattle.ec_locate.specs.Needs.{first_shortage}
use Rattle.ec_locate.specs.Placing.{entries_by, needs, shortage, without_object, clash, IsShort, IsWithoutObject, IsClash, IsStop}
use Rattle.ec_locate.specs.declared.entries.Entry.{Entry}
use Rattle.ec_locate.specs.declared.needs.Needs.{Needs}
use Rattle.ec_locate.specs.declared.needs.Shortage.{Shortage}
use Rattle.ec_locate.specs.declared.stop.PlaceStop.{PlaceStop}
use Rattle.ec_locate.specs.declared.stop.PlaceStop.TheVariants.{TooSmall, NoSuchObject, Clash, NoMemory}
use Rattle.ec_locate.proofs.CodeStand.{AllFit, all_fit}
use Rattle.ec_locate.proofs.Ends.{flash_home_low, far_home_low, data_low, code_is_short}
use Rattle.ec_locate.proofs.Kept.{all_below}

pub few_entries : (p : PlainProgram) (m : Map) → Valid p m.io → (es : List Entry) → es ≡ entries_by m p → length es < 4096
few_entries p m valid es same =
    let long = length-map p.objects (entry_of p.structs m.places.items) in
    let e = ap length same in
    let few = valid.object_count in
    omega (arith, long, e, few)

pub as_many : (p : PlainProgram) (rows : List (Listed ℕ)) → plain_rows rows ≡ rows_of_program p → length rows ≡ length p.functions
as_many p rows same = sym (length-map rows (λ row. row.items)) ∙ ap length same ∙ length-map p.functions _

pub known_entries : (p : PlainProgram) (m : Map) → Valid p m.io → All (λ e. IsKeptBelow (length p.functions) e.kept) (entries_by m p)
known_entries p m valid = all_below p m.places.items p.objects valid.objects

fit : (p : PlainProgram) (m : Map) (asm : AsmProgram) → shortage p m asm ≡ None
    → AllFit m (needs p m.io (entries_by m p) asm.frames.items asm.items.items)
fit p m asm fits = all_fit m (needs p m.io (entries_by m p) asm.frames.items asm.items.items) fits

pub flash_room : (p : PlainProgram) (m : Map) (asm : AsmProgram) → ValidMap m → shortage p m asm ≡ None
    → m.tables.first + flash_sizes (entries_by m p) + initial_sizes (entries_by m p) < 4294967296
flash_room p m asm valid fits =
    let need = (fit p m asm fits).tables in
    let ends = valid.regions_valid.tables.ends in
    let low = flash_home_low m.core in
    omega (arith, need, ends, low)

-- where the region `far` has no bytes, nothing stands there
pub far_room : (p : PlainProgram) (m : Map) (asm : AsmProgram) → ValidMap m → shortage p m asm ≡ None
    → m.far.first < 4294967296 → m.far.first + far_sizes (entries_by m p) < 4294967296
far_room p m asm valid fits low =
    let need = (fit p m asm fits).far in
    let most = far_home_low m.core in
    ⊎_elim (λ none. omega (arith, need, none, low))
    (λ some. let ends = (valid.regions_valid.far some).lies.ends in omega (arith, need, ends, most))
    (cases_lt m.far.size 1)

pub ram_room : (p : PlainProgram) (m : Map) (asm : AsmProgram) → ValidMap m → shortage p m asm ≡ None
    → work_area m (rows_of_program p) (entries_by m p) asm.frames.items < 4294967296
ram_room p m asm valid fits =
    let need = (fit p m asm fits).vars in
    let ends = valid.regions_valid.vars.ends in
    let low = data_low m.core in
    omega (arith, need, ends, low)

pub shortage_is : (p : PlainProgram) (m : Map) (asm : AsmProgram) (es : List Entry) (n : Needs) → es ≡ entries_by m p
    → n ≡ needs p m.io es asm.frames.items asm.items.items → first_shortage m n ≡ shortage p m asm
shortage_is p m asm es n same is =
    ap (first_shortage m) (is ∙ ap (λ xs. needs p m.io xs asm.frames.items asm.items.items) same)

pub code_room : (p : PlainProgram) (m : Map) (asm : AsmProgram) → ValidMap m → shortage p m asm ≡ None
    → code_words asm.items.items < 65536
code_room p m asm valid fits =
    let need = (fit p m asm fits).code in
    let short = code_is_short m valid in
    omega (arith, need, short)

-- ---- refusals

pub short_stop : (p : PlainProgram) (m : Map) (asm : AsmProgram) (stop : PlaceStop) (s : Option Shortage) → s ≡ shortage p m asm
    → IsShort s stop → IsStop p m asm stop
short_stop p m asm (TooSmall region needed available) s same h = sym same ∙ h
short_stop p m asm (NoSuchObject name) s same h = absurd h
short_stop p m asm (Clash name other) s same h = absurd h
short_stop p m asm NoMemory s same h = tt

pub missing_stop : (p : PlainProgram) (m : Map) (asm : AsmProgram) (stop : PlaceStop) → shortage p m asm ≡ None
    → IsWithoutObject (without_object p m) stop → IsStop p m asm stop
missing_stop p m asm (TooSmall region needed available) fits h = absurd h
missing_stop p m asm (NoSuchObject name) fits h = (fits, h)
missing_stop p m asm (Clash name other) fits h = absurd h
missing_stop p m asm NoMemory fits h = tt

pub clash_stop : (p : PlainProgram) (m : Map) (asm : AsmProgram) (stop : PlaceStop) → shortage p m asm ≡ None
    → without_object p m ≡ None → IsClash m.places.items (clash p m) stop → IsStop p m asm stop
clash_stop p m asm (TooSmall region needed available) fits there h = absurd h
clash_stop p m asm (NoSuchObject name) fits there h = absurd h
clash_stop p m asm (Clash name other) fits there h = (fits, there, h)
clash_stop p m asm NoMemory fits there h = tt

pub depth_is : (p : PlainProgram) (rows : List (Listed ℕ)) (depth : ℕ) → plain_rows rows ≡ rows_of_program p
    → depth ≡ slice_index (chains (length rows) (plain_rows rows)) p.main → depth ≡ call_depth p
depth_is p rows depth same is =
    let long : length rows ≡ length (rows_of_program p) = sym (length-map rows (λ row. row.items)) ∙ ap length same in
    is ∙ (λ j. slice_index (chains (long j) (same j)) p.main)
