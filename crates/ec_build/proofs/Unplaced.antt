-- A program that fits its map has a place.
use Rattle.std.proofs.Common.{◌≡◌, ◌≢◌, ℕ, ◌*◌, ◌≤◌, List, Option, Some, None, refl, sym, subst, ap, ◌∙◌, arith, IsSomeAnd}
use Rattle.std.specs.Prelude.{option_map}
use Rattle.std.proofs.lemmas.Bool.{le-ltb}
use Rattle.ec_asm.specs.Items.{code_words}
use Rattle.ec_asm.specs.declared.items.AsmProgram.{AsmProgram}
use Rattle.ec_asm_based.specs.declared.reach.Reach.{Reach}
use Rattle.ec_check_recursion.specs.Rows.{rows_of_program}
use Rattle.ec_core.specs.Plain.{PlainProgram}
use Rattle.ec_core.specs.PortTable.{plain_table}
use Rattle.ec_core_shapes.specs.SharedWeight.{shared_weight}
use Rattle.ec_map.specs.declared.map.Map.{Map}
use Rattle.ec_map.specs.declared.region.Region.{Region}
use Rattle.ec_locate.specs.Entries.{data_need, work_size}
use Rattle.ec_locate.specs.Needs.{shortage_of, or_else, first_shortage}
use Rattle.ec_locate.specs.Fixed.{place_name, neighbour_name}
use Rattle.ec_locate.specs.Placing.{needs, entries_by, scratch_needs, shortage, without_object, clash, IsLocated}
use Rattle.ec_locate.specs.declared.placing.Located.{Located}
use Rattle.ec_locate.specs.declared.needs.Needs.{Needs}
use Rattle.ec_locate.specs.declared.needs.Shortage.{Shortage}
use Rattle.ec_locate.specs.declared.stop.RegionName.{RegionName}
use Rattle.ec_locate.specs.declared.stop.RegionName.TheVariants.{Code, Tables, Far, Data, Stack}
use Rattle.ec_locate.specs.declared.stop.PlaceStop.{PlaceStop}
use Rattle.ec_locate.specs.declared.stop.PlaceStop.TheVariants.{TooSmall, NoSuchObject, Clash, NoMemory}
use Rattle.ec_build.specs.Code.{AreReaches}
use Rattle.ec_build.specs.Places.{Fits, HasNoPlace, StopsPlacing}
use Rattle.ec_build.specs.declared.stop.BuildStop.{BuildStop}
use Rattle.ec_build.specs.declared.stop.BuildStop.TheVariants.{Map as MapFault, Lex, Parse, Check, Place, NoMemory as NoMemoryToBuild}

-- a region that is large enough is not told
no_shortage : (name : RegionName) (region : Region) (need : ℕ) → need ≤ region.size → shortage_of name region need ≡ None
no_shortage name region need h =
    rw (le-ltb region.size need h)

all_fit : (m : Map) (n : Needs) → n.tables ≤ m.tables.size → n.far ≤ m.far.size → n.vars ≤ m.vars.size → n.stack ≤ m.stack.size
    → n.code ≤ m.code.size → first_shortage m n ≡ None
all_fit m n a e b c d =
    let tables = no_shortage Tables m.tables n.tables a in
    let far = no_shortage Far m.far n.far e in
    let vars = no_shortage Data m.vars n.vars b in
    let stack = no_shortage Stack m.stack n.stack c in
    let code = no_shortage Code m.code n.code d in
    rw (tables, far, vars, stack, code)

pub fits_whole : (p : PlainProgram) (m : Map) (asm : AsmProgram) → Fits p m → asm.frames.items ≡ scratch_needs p
    → code_words asm.items.items ≤ shared_weight p (plain_table m.io) → shortage p m asm ≡ None
fits_whole p m asm fits frames small =
    let vars : data_need (work_size m.io) (rows_of_program p) (entries_by m p) asm.frames.items ≤ m.vars.size =
    subst (λ f. data_need (work_size m.io) (rows_of_program p) (entries_by m p) f ≤ m.vars.size) (sym frames) fits.vars in
    let code : 2 * code_words asm.items.items ≤ m.code.size = omega (arith, small, fits.code) in
    all_fit m (needs p m.io (entries_by m p) asm.frames.items asm.items.items) fits.tables fits.far vars fits.stack code

nothing_there : {A : Type 0} (o : Option A) (P : A → Type 0) → o ≡ None → IsSomeAnd o P → ⊥
nothing_there None P e h = h
nothing_there (Some x) P e h = cc

pub not_unplaced : (p : PlainProgram) (m : Map) (asm : AsmProgram) (stop : PlaceStop) → Fits p m → asm.frames.items ≡ scratch_needs p
    → code_words asm.items.items ≤ shared_weight p (plain_table m.io) → ¬ HasNoPlace p m asm stop
not_unplaced p m asm (TooSmall region needed available) fits frames small why =
    let room = fits_whole p m asm fits frames small in
    let told = why.against in
    cc
not_unplaced p m asm (NoSuchObject name) fits frames small why =
    let there = fits.there in
    let named = why.against.1 in
    let e : option_map (λ q. q.name.items) (without_object p m) ≡ None = ap (option_map (λ q. q.name.items)) there in
    cc
not_unplaced p m asm (Clash name other) fits frames small why =
    nothing_there (clash p m)
    (λ found. (name.items ≡ place_name m.places.items found.0) ×
    (other.items ≡ neighbour_name m.places.items found.0 found.1)) fits.free why.against.2
not_unplaced p m asm NoMemory fits frames small why = why.told tt

-- ---- an outline

both_none : (a b : Option Shortage) → or_else a b ≡ None → (a ≡ None) × (b ≡ None)
both_none None b h = (refl, h)
both_none (Some x) b h = absurd cc

-- where code has a place, no more of it than a label lacks no room
outline_fits : (p : PlainProgram) (m : Map) (asm outline : AsmProgram) → outline.frames.items ≡ asm.frames.items
    → code_words outline.items.items ≡ 0 → shortage p m asm ≡ None → shortage p m outline ≡ None
outline_fits p m asm outline frames none room =
    let n = needs p m.io (entries_by m p) asm.frames.items asm.items.items in
    let tables = shortage_of Tables m.tables n.tables in
    let vars = shortage_of Data m.vars n.vars in
    let stack = shortage_of Stack m.stack n.stack in
    let far = shortage_of Far m.far n.far in
    let a = both_none tables (or_else far (or_else vars (or_else stack (shortage_of Code m.code n.code)))) room in
    let d = both_none far (or_else vars (or_else stack (shortage_of Code m.code n.code))) a.1 in
    let b = both_none vars (or_else stack (shortage_of Code m.code n.code)) d.1 in
    let c = both_none stack (shortage_of Code m.code n.code) b.1 in
    let code : shortage_of Code m.code (2 * code_words outline.items.items) ≡ None =
    no_shortage Code m.code (2 * code_words outline.items.items) (omega (arith, none)) in
    let same_vars : shortage_of Data m.vars (data_need (work_size m.io) (rows_of_program p) (entries_by m p) outline.frames.items) ≡ None =
    subst (λ f. shortage_of Data m.vars (data_need (work_size m.io) (rows_of_program p) (entries_by m p) f) ≡ None) (sym frames) b.0 in
    rw (a.0, d.0, same_vars, c.0, code) refl

-- so it is refused for nothing but memory
pub outline_placed : (p : PlainProgram) (m : Map) (asm outline : AsmProgram) (l : Located) (stop : PlaceStop)
    → outline.frames.items ≡ scratch_needs p → code_words outline.items.items ≡ 0 → IsLocated p m asm l → ¬ HasNoPlace p m outline stop
outline_placed p m asm outline l (TooSmall region needed available) frames none located why =
    let room = outline_fits p m asm outline (frames ∙ sym located.scratch) none located.fits in
    let told = why.against in
    cc
outline_placed p m asm outline l (NoSuchObject name) frames none located why =
    let named = why.against.1 in
    let e : option_map (λ q. q.name.items) (without_object p m) ≡ None = ap (option_map (λ q. q.name.items)) located.there in
    cc
outline_placed p m asm outline l (Clash name other) frames none located why =
    nothing_there (clash p m)
    (λ found. (name.items ≡ place_name m.places.items found.0) ×
    (other.items ≡ neighbour_name m.places.items found.0 found.1)) located.free why.against.2
outline_placed p m asm outline l NoMemory frames none located why = why.told tt

pub outline_refused : (p : PlainProgram) (m : Map) (reaches : List Reach) (outline : AsmProgram) (stop : BuildStop) → stop ≢ NoMemoryToBuild
    → StopsPlacing p m outline stop → outline.frames.items ≡ scratch_needs p → code_words outline.items.items ≡ 0
    → AreReaches p m reaches
outline_refused p m reaches outline (Place stop) other why frames none asm l located =
    absurd (outline_placed p m asm outline l stop frames none located why)
outline_refused p m reaches outline NoMemoryToBuild other why frames none asm l located = absurd (other refl)
outline_refused p m reaches outline (MapFault stop) other why frames none asm l located = absurd why
outline_refused p m reaches outline (Lex unit stop) other why frames none asm l located = absurd why
outline_refused p m reaches outline (Parse unit stop) other why frames none asm l located = absurd why
outline_refused p m reaches outline (Check stop) other why frames none asm l located = absurd why
