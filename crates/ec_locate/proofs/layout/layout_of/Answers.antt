use Rattle.std.proofs.Common.{◌≡◌, ◌∙◌, ◌+◌, ◌<◌, ℕ, List, length, map, get_or, zero-add, refl, sym, ap}
use Rattle.std.proofs.Common.{arith}
use Rattle.std.specs.Prelude.{slice_index}
use Rattle.std.proofs.lemmas.List.{get_or_default, length-map}
use Rattle.ec_check_recursion.specs.Rows.{plain_rows}
use Rattle.ec_overlay.specs.Frames.{begin_of, need_of}
use Rattle.ec_overlay.specs.Objects.{bytes_before}
use Rattle.ec_locate.specs.Entries.{data_sizes, owned_of, local_size, scratch_size}
use Rattle.ec_locate.specs.Layout.{places_from, initials_from, frames_from, initials_by, scratch_area, work_area, local_at}
use Rattle.ec_locate.proofs.FrameBytes.{places_same, frames_same}
use Rattle.ec_locate.proofs.layout.layout_of.Goals as goal

pub places_from-requires-clause-frames_fit : goal.places_from-requires-clause-frames_fit
places_from-requires-clause-frames_fit c f l =
    let rows = plain_rows c.args.rows.now in
    let es = c.args.entries.now in
    let areas = c.requires.areas in
    let value = c.deref_mut.ensures.value in
    let count = areas.locals.count in
    let same = ap length value in
    let less : f < length rows = omega (arith, l, same, count) in
    let begin : slice_index c.deref_mut.result.now f ≡ begin_of rows (local_size es) f =
    ap (λ (xs : List ℕ). slice_index xs f) value ∙ areas.locals.each f less in
    let within = (c.frames_are_overlaid.ensures rows (local_size es) c.requires.never).within f less in
    let sizes = c.data_sizes.ensures.value in
    let ram : c.args.map.now.vars.first + data_sizes es + need_of rows (local_size es) + need_of rows (scratch_size c.args.frames.now)
    < 4294967296 = c.requires.ram in
    omega (arith, begin, within, sizes, ram)

pub places_from-requires-clause-far_fits : goal.places_from-requires-clause-far_fits
places_from-requires-clause-far_fits c =
    let first = c.first_of-far.ensures in
    let far = c.requires.far (omega (arith, first.value, first.fits)) in
    omega (arith, first.value, far)

pub frames_from-requires : goal.frames_from-requires
frames_from-requires c k d l =
    let rows = plain_rows c.args.rows.now in
    let es = c.args.entries.now in
    let size = scratch_size c.args.frames.now in
    let areas = c.requires.areas in
    let value = c.deref.ensures.value in
    let count = areas.scratch.count in
    let long = ap length value in
    let less : k < length rows = omega (arith, l, long, count) in
    let same = get_or_default c.deref.result.now k d 0 l in
    let begin : get_or c.deref.result.now k 0 ≡ begin_of rows size k =
    ap (λ (xs : List ℕ). get_or xs k 0) value ∙ areas.scratch.each k less in
    let within = (c.frames_are_overlaid.ensures rows size c.requires.never).within k less in
    let sizes = c.data_sizes.ensures.value in
    let locals = areas.locals.bytes in
    let ram : c.args.map.now.vars.first + data_sizes es + need_of rows (local_size es) + need_of rows size < 4294967296 =
    c.requires.ram in
    omega (arith, same, begin, within, sizes, locals, ram)

pub returns : goal.returns
returns c =
    let rows = plain_rows c.args.rows.now in
    let es = c.args.entries.now in
    let m = c.args.map.now in
    let frames = c.args.frames.now in
    let areas = c.requires.areas in
    let sizes = c.data_sizes.ensures.value in
    let flash = c.flash_sizes.ensures.value in
    let need = areas.locals.bytes in
    let scratch_need = areas.scratch.bytes in
    let value = c.deref_mut.ensures.value in
    let scratch_value = c.deref.ensures.value in
    let long : length rows ≡ length c.args.rows.now = length-map c.args.rows.now _ in
    let count = areas.locals.count in
    let scratch_count = areas.scratch.count in
    let scratch_long = ap length scratch_value in
    let functions = c.requires.functions in
    let agree : (f i : ℕ) → f < length c.args.rows.now
    → c.args.map.now.vars.first + c.data_sizes.result
    + (slice_index c.deref_mut.result.now f + bytes_before f i (map owned_of es)) ≡ local_at m rows es f i =
    (λ f i l.
    let begin : slice_index c.deref_mut.result.now f ≡ begin_of rows (local_size es) f =
    ap (λ (xs : List ℕ). slice_index xs f) value ∙ areas.locals.each f (omega (arith, l, long)) in
    let goes : local_at m rows es f i
    ≡ m.vars.first + data_sizes es + (begin_of rows (local_size es) f + bytes_before f i (map owned_of es)) = refl in
    omega (arith, begin, sizes, goes)) in
    let places : c.in_ok-places.places.items ≡ places_from m.tables.first m.far.first m.vars.first (local_at m rows es) 0 es =
    c.in_ok-places.ensures
    ∙ places_same (length c.args.rows.now) es m.tables.first c.first_of-far.result m.vars.first _ (local_at m rows es) 0 c.requires.known
    agree
    ∙ ap (λ n. places_from m.tables.first n m.vars.first (local_at m rows es) 0 es) c.first_of-far.ensures.value in
    let initials : c.in_ok-initials.initials.items ≡ initials_by m es =
    c.in_ok-initials.ensures ∙ ap (λ n. initials_from m.tables.first (m.tables.first + n) es) flash in
    let area : c.args.map.now.vars.first + c.data_sizes.result + c.args.areas.locals.need ≡ scratch_area m rows es =
    omega (arith, sizes, need) in
    let begins : c.in_ok-frames.frames.items ≡ frames_from (scratch_area m rows es) (begin_of rows (scratch_size frames)) 0 frames =
    c.in_ok-frames.ensures ∙ ap (λ n. map (λ begin. n + begin) c.deref.result.now) area
    ∙ frames_same (scratch_area m rows es) (begin_of rows (scratch_size frames)) 0 c.deref.result.now frames
    (omega (arith, scratch_long, scratch_count, long, functions))
    (λ i l. ap (λ (xs : List ℕ). slice_index xs i) scratch_value ∙ areas.scratch.each i (omega (arith, l, scratch_long, scratch_count))
    ∙ ap (begin_of rows (scratch_size frames)) (sym (zero-add i))) in
    let work : c.args.map.now.vars.first + c.data_sizes.result + c.args.areas.locals.need + c.args.areas.scratch.need
    ≡ work_area m rows es frames = omega (arith, sizes, need, scratch_need) in
    λ j. record { places = places j; initials = initials j; frames = begins j; work = work j }
