-- What stands in a region stands in a row.
use Rattle.std.proofs.Common.{◌≡◌, ◌+◌, ℕ, Bool, true, false, List, [], ◌∷◌, Option, Some, None, add-zero}
use Rattle.std.proofs.Common.{refl, subst, arith}
use Rattle.std.specs.Prelude.{sum_by, if◌then◌else◌, position}
use Rattle.std.proofs.lemmas.List.Sums.{sum_by-cons}
use Rattle.ec_space.specs.declared.space.Home.{Home}
use Rattle.ec_space.specs.declared.space.Home.TheVariants.{Flash, Far, Data}
use Rattle.ec_map.specs.declared.map.Map.{Map}
use Rattle.ec_locate.specs.declared.entries.Entry.{Entry}
use Rattle.ec_locate.specs.declared.entries.Kept.{Kept}
use Rattle.ec_locate.specs.declared.entries.Kept.TheVariants.{Register, Fixed, Packed, InFrame}
use Rattle.ec_locate.specs.declared.fixed.Block.{Block}
use Rattle.ec_locate.specs.declared.fixed.Neighbour.{Neighbour}
use Rattle.ec_locate.specs.declared.fixed.Neighbour.TheVariants.{BankEnd}
use Rattle.ec_locate.specs.declared.stop.RegionName.{RegionName}
use Rattle.ec_locate.specs.Entries.{packed_flash, packed_far, packed_data, initial_bytes, flash_size, far_size, data_size, initial_size}
use Rattle.ec_locate.specs.Entries.{flash_sizes, far_sizes, data_sizes, initial_sizes}
use Rattle.ec_locate.specs.Fixed.{is_in_bank, region_met, region_or_later, overlaps, clash_of, or_next, first_clash}
use Rattle.ec_locate.specs.Layout.{place_by, places_from, initial_at, initials_from}
use Rattle.ec_locate.specs.Apart.{Span, InOrder, add_where, is_packed_in, objects_in, has_initial, initial_spans, AreFree}

at_zero : (at : ℕ) (ss : List Span) (to : ℕ) → InOrder (at + 0) ss to → InOrder at ss to
at_zero at ss to h = subst (λ n. InOrder n ss to) (add-zero at) h

-- the sum of one entry and the others
behind : {X : Type 0} (f : X → ℕ) (x : X) (xs : List X) (at : ℕ) (ss : List Span) (to : ℕ)
    → InOrder (at + sum_by f (x ∷ xs)) ss to
    → InOrder (at + f x + sum_by f xs) ss to
behind f x xs at ss to h =
    let q = sum_by-cons f x xs in
    let e : at + sum_by f (x ∷ xs) ≡ at + f x + sum_by f xs = omega (arith, q) in
    subst (λ n. InOrder n ss to) e h

-- ---- data objects

data_step : (k : Kept) (home : Home) (size flash far at : ℕ) (frame : ℕ → ℕ) (ss : List Span) (to : ℕ)
    → InOrder (at + packed_data k home size) ss to
    → InOrder at (add_where (is_packed_in Data k home)
    (record { from = (place_by k home flash far at frame).offset; size = size }) ss) to
data_step Packed Data size flash far at frame ss to h = (omega arith, h)
data_step Packed Flash size flash far at frame ss to h = at_zero at ss to h
data_step Packed Far size flash far at frame ss to h = at_zero at ss to h
data_step (Register r) Data size flash far at frame ss to h = at_zero at ss to h
data_step (Register r) Flash size flash far at frame ss to h = at_zero at ss to h
data_step (Register r) Far size flash far at frame ss to h = at_zero at ss to h
data_step (Fixed there) Data size flash far at frame ss to h = at_zero at ss to h
data_step (Fixed there) Flash size flash far at frame ss to h = at_zero at ss to h
data_step (Fixed there) Far size flash far at frame ss to h = at_zero at ss to h
data_step (InFrame f) Data size flash far at frame ss to h = at_zero at ss to h
data_step (InFrame f) Flash size flash far at frame ss to h = at_zero at ss to h
data_step (InFrame f) Far size flash far at frame ss to h = at_zero at ss to h

pub data_in_order : (es : List Entry) (flash far at : ℕ) (frame : ℕ → ℕ → ℕ) (i : ℕ) (ss : List Span) (to : ℕ)
    → InOrder (at + data_sizes es) ss to
    → InOrder at (objects_in Data (places_from flash far at frame i es) es ss) to
data_in_order [] flash far at frame i ss to h = at_zero at ss to h
data_in_order (e ∷ es) flash far at frame i ss to h =
    data_step e.kept e.home e.size flash far at (λ f. frame f i) _ to
    (data_in_order es (flash + flash_size e) (far + far_size e) (at + data_size e) frame (i + 1) ss to
    (behind data_size e es at ss to h))

-- ---- objects of home flash

flash_step : (k : Kept) (home : Home) (size flash far at : ℕ) (frame : ℕ → ℕ) (ss : List Span) (to : ℕ)
    → InOrder (flash + packed_flash k home size) ss to
    → InOrder flash (add_where (is_packed_in Flash k home)
    (record { from = (place_by k home flash far at frame).offset; size = size }) ss) to
flash_step Packed Data size flash far at frame ss to h = at_zero flash ss to h
flash_step Packed Flash size flash far at frame ss to h = (omega arith, h)
flash_step Packed Far size flash far at frame ss to h = at_zero flash ss to h
flash_step (Register r) Data size flash far at frame ss to h = at_zero flash ss to h
flash_step (Register r) Flash size flash far at frame ss to h = at_zero flash ss to h
flash_step (Register r) Far size flash far at frame ss to h = at_zero flash ss to h
flash_step (Fixed there) Data size flash far at frame ss to h = at_zero flash ss to h
flash_step (Fixed there) Flash size flash far at frame ss to h = at_zero flash ss to h
flash_step (Fixed there) Far size flash far at frame ss to h = at_zero flash ss to h
flash_step (InFrame f) Data size flash far at frame ss to h = at_zero flash ss to h
flash_step (InFrame f) Flash size flash far at frame ss to h = at_zero flash ss to h
flash_step (InFrame f) Far size flash far at frame ss to h = at_zero flash ss to h

pub flash_in_order : (es : List Entry) (flash far at : ℕ) (frame : ℕ → ℕ → ℕ) (i : ℕ) (ss : List Span) (to : ℕ)
    → InOrder (flash + flash_sizes es) ss to
    → InOrder flash (objects_in Flash (places_from flash far at frame i es) es ss) to
flash_in_order [] flash far at frame i ss to h = at_zero flash ss to h
flash_in_order (e ∷ es) flash far at frame i ss to h =
    flash_step e.kept e.home e.size flash far at (λ f. frame f i) _ to
    (flash_in_order es (flash + flash_size e) (far + far_size e) (at + data_size e) frame (i + 1) ss to
    (behind flash_size e es flash ss to h))

-- ---- objects of home far

far_step : (k : Kept) (home : Home) (size flash far at : ℕ) (frame : ℕ → ℕ) (ss : List Span) (to : ℕ)
    → InOrder (far + packed_far k home size) ss to
    → InOrder far (add_where (is_packed_in Far k home)
    (record { from = (place_by k home flash far at frame).offset; size = size }) ss) to
far_step Packed Data size flash far at frame ss to h = at_zero far ss to h
far_step Packed Flash size flash far at frame ss to h = at_zero far ss to h
far_step Packed Far size flash far at frame ss to h = (omega arith, h)
far_step (Register r) Data size flash far at frame ss to h = at_zero far ss to h
far_step (Register r) Flash size flash far at frame ss to h = at_zero far ss to h
far_step (Register r) Far size flash far at frame ss to h = at_zero far ss to h
far_step (Fixed there) Data size flash far at frame ss to h = at_zero far ss to h
far_step (Fixed there) Flash size flash far at frame ss to h = at_zero far ss to h
far_step (Fixed there) Far size flash far at frame ss to h = at_zero far ss to h
far_step (InFrame f) Data size flash far at frame ss to h = at_zero far ss to h
far_step (InFrame f) Flash size flash far at frame ss to h = at_zero far ss to h
far_step (InFrame f) Far size flash far at frame ss to h = at_zero far ss to h

pub far_in_order : (es : List Entry) (flash far at : ℕ) (frame : ℕ → ℕ → ℕ) (i : ℕ) (ss : List Span) (to : ℕ)
    → InOrder (far + far_sizes es) ss to
    → InOrder far (objects_in Far (places_from flash far at frame i es) es ss) to
far_in_order [] flash far at frame i ss to h = at_zero far ss to h
far_in_order (e ∷ es) flash far at frame i ss to h =
    far_step e.kept e.home e.size flash far at (λ f. frame f i) _ to
    (far_in_order es (flash + flash_size e) (far + far_size e) (at + data_size e) frame (i + 1) ss to
    (behind far_size e es far ss to h))

-- ---- initial bytes

initial_step : (static : Bool) (home : Home) (size first at : ℕ) (ss : List Span) (to : ℕ)
    → InOrder (at + initial_bytes static home size) ss to
    → InOrder at (add_where (has_initial static home) (record { from = initial_at static home first at; size = size }) ss) to
initial_step true Data size first at ss to h = (omega arith, h)
initial_step true Flash size first at ss to h = at_zero at ss to h
initial_step true Far size first at ss to h = at_zero at ss to h
initial_step false Data size first at ss to h = at_zero at ss to h
initial_step false Flash size first at ss to h = at_zero at ss to h
initial_step false Far size first at ss to h = at_zero at ss to h

pub initial_in_order : (es : List Entry) (first at : ℕ) (ss : List Span) (to : ℕ) → InOrder (at + initial_sizes es) ss to
    → InOrder at (initial_spans (initials_from first at es) es ss) to
initial_in_order [] first at ss to h = at_zero at ss to h
initial_in_order (e ∷ es) first at ss to h =
    initial_step e.is_static e.home e.size first at _ to
    (initial_in_order es first (at + initial_size e) ss to (behind initial_size e es at ss to h))

-- ---- fixed places

neither_next : (i : ℕ) (o : Option Neighbour) (next : Option (ℕ × Neighbour)) → or_next i o next ≡ None
    → (o ≡ None) × (next ≡ None)
neither_next i None next h = (refl, h)
neither_next i (Some x) next h = cc

neither_met : (o : Option RegionName) (later : Option ℕ) → region_or_later o later ≡ None → (o ≡ None) × (later ≡ None)
neither_met (Some name) later h = cc
neither_met None (Some k) h = cc
neither_met None None h = (refl, refl)

free_where : (b : Bool) (o : Option RegionName) (later : Option ℕ) → (if b then region_or_later o later else Some BankEnd) ≡ None
    → (b ≡ true) × (o ≡ None) × (later ≡ None)
free_where true o later h = let (met, clear) = neither_met o later h in (refl, met, clear)
free_where false o later h = cc

pub places_free : (m : Map) (i : ℕ) (bs : List Block) → first_clash m i bs ≡ None → AreFree m bs
places_free m i [] h = tt
places_free m i (b ∷ bs) h =
    let (here, next) = neither_next i (clash_of m b bs) (first_clash m (i + 1) bs) h in
    let (inside, met, clear) = free_where (is_in_bank m.core b) (region_met m b) (position (overlaps b) bs) here in
    (inside, met, clear, places_free m (i + 1) bs next)
