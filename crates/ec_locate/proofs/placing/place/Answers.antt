use Rattle.std.proofs.Common.{◌≡◌, ◌∙◌, length, sym, ap, arith}
use Rattle.std.specs.Prelude.{IsTrue}
use Rattle.std.proofs.lemmas.List.{length-map}
use Rattle.std.proofs.lemmas.Result.{err_from_is_err_and}
use Rattle.ec_asm.specs.Valid.{sizes_of, is_valid_item}
use Rattle.ec_check_recursion.specs.Rows.{rows_of_program}
use Rattle.ec_core.specs.Plain.{plain_program, plain_struct}
use Rattle.ec_map.proofs.Made.{all_passing}
use Rattle.ec_overlay.proofs.Programs.{nothing_recurs}
use Rattle.ec_locate.specs.Areas.{AreAreas}
use Rattle.ec_locate.specs.Code.{has_words}
use Rattle.ec_locate.specs.Entries.{work_size}
use Rattle.ec_locate.specs.Needs.{first_shortage}
use Rattle.ec_locate.specs.Placing.{object_sizes, scratch_needs, entries_by}
use Rattle.ec_locate.proofs.Objects.{objects_typed}
use Rattle.ec_locate.proofs.Placed.{few_entries, as_many, known_entries, flash_room, far_room, ram_room, code_room, shortage_is, depth_is}
use Rattle.ec_locate.proofs.Placed.{short_stop, missing_stop, clash_stop}
use Rattle.ec_locate.proofs.Words.{valid_words}
use Rattle.ec_locate.proofs.placing.place.Goals as goal

pub areas_of-requires-clause-entries : goal.areas_of-requires-clause-entries
areas_of-requires-clause-entries c =
    few_entries (plain_program c.args.program.now) c.args.map.now c.requires.program c.as_slice-3.result.now
    (c.as_slice-3.ensures ∙ rw c.as_slice.ensures at c.in_ok-entries.ensures)

pub areas_of-requires-clause-functions : goal.areas_of-requires-clause-functions
areas_of-requires-clause-functions c =
    let many = as_many (plain_program c.args.program.now) c.as_slice-2.result.now (rw c.as_slice-2.ensures c.in_ok-rows.ensures) in
    let few = c.requires.program.function_count in
    omega (arith, many, few)

pub areas_of-requires-clause-frames : goal.areas_of-requires-clause-frames
areas_of-requires-clause-frames c =
    let p = plain_program c.args.program.now in
    let many = as_many p c.as_slice-2.result.now (rw c.as_slice-2.ensures c.in_ok-rows.ensures) in
    let long : length (scratch_needs p) ≡ length p.functions = length-map p.functions _ in
    let frames = ap length (c.as_slice-frames.ensures ∙ c.requires.frames) in
    omega (arith, many, long, frames)

pub call_depth-requires : goal.call_depth-requires
call_depth-requires c =
    let many = as_many (plain_program c.args.program.now) c.as_slice-4.result.now (rw c.as_slice-4.ensures c.in_ok-rows.ensures) in
    let few = c.requires.program.function_count in
    omega (arith, many, few)

pub needs_of-needs-requires-clause-objects : goal.needs_of-needs-requires-clause-objects
needs_of-needs-requires-clause-objects c =
    few_entries (plain_program c.args.program.now) c.args.map.now c.requires.program c.as_slice-5.result.now
    (c.as_slice-5.ensures ∙ rw c.as_slice.ensures at c.in_ok-entries.ensures)

pub locate-requires-clause-objects : goal.locate-requires-clause-objects
locate-requires-clause-objects c =
    let program = c.args.program.now in
    objects_typed (plain_program program) (length program.structs.items) program.objs.items c.requires.program.objects
    (length-map program.structs.items plain_struct)

pub locate-requires-clause-words : goal.locate-requires-clause-words
locate-requires-clause-words c =
    let sizes = sizes_of (object_sizes (plain_program c.args.program.now)) c.args.asm.now.frames.items (work_size c.args.map.now.io) in
    all_passing (λ item. IsTrue (has_words item)) (is_valid_item sizes) (valid_words sizes) c.args.asm.now.items.items c.requires.asm.items

pub locate-requires-clause-few : goal.locate-requires-clause-few
locate-requires-clause-few c =
    few_entries (plain_program c.args.program.now) c.args.map.now c.requires.program c.as_slice-9.result.now
    (c.as_slice-9.ensures ∙ rw c.as_slice.ensures at c.in_ok-entries.ensures)

pub locate-requires-clause-functions : goal.locate-requires-clause-functions
locate-requires-clause-functions c =
    let p = plain_program c.args.program.now in
    let many = as_many p c.as_slice-8.result.now (rw c.as_slice-8.ensures c.in_ok-rows.ensures) in
    let long : length (scratch_needs p) ≡ length p.functions = length-map p.functions _ in
    let frames = ap length c.requires.frames in
    omega (arith, many, long, frames)

pub locate-requires-clause-known : goal.locate-requires-clause-known
locate-requires-clause-known c =
    let p = plain_program c.args.program.now in
    let many = as_many p c.as_slice-8.result.now (rw c.as_slice-8.ensures c.in_ok-rows.ensures) in
    let placed : c.as_slice-9.result.now ≡ entries_by c.args.map.now p =
    c.as_slice-9.ensures ∙ rw c.as_slice.ensures at c.in_ok-entries.ensures in
    rw (many, placed) (known_entries p c.args.map.now c.requires.program)

pub locate-requires-clause-never : goal.locate-requires-clause-never
locate-requires-clause-never c =
    rw (c.as_slice-8.ensures, c.in_ok-rows.ensures) (nothing_recurs (plain_program c.args.program.now) c.requires.program.no_recursion)

pub locate-requires-clause-areas : goal.locate-requires-clause-areas
locate-requires-clause-areas c =
    rw (c.as_slice-8.ensures, c.as_slice-9.ensures)
    (rw (c.as_slice-2.ensures, c.as_slice-3.ensures, c.as_slice-frames.ensures) at c.in_ok-areas.ensures.areas)

pub locate-requires-clause-room : goal.locate-requires-clause-room
locate-requires-clause-room c =
    let p = plain_program c.args.program.now in
    let m = c.args.map.now in
    let all = rw c.as_slice.ensures at c.in_ok-entries.ensures in
    let areas : AreAreas (rows_of_program p) c.as_slice-5.result.now c.args.asm.now.frames.items c.in_ok-areas.areas =
    rw c.as_slice-5.ensures
    (rw (c.as_slice-2.ensures, c.in_ok-rows.ensures, c.as_slice-3.ensures, c.as_slice-frames.ensures) at c.in_ok-areas.ensures.areas) in
    let deep =
    depth_is p c.as_slice-4.result.now c.in_ok-depth.depth (rw c.as_slice-4.ensures c.in_ok-rows.ensures) c.in_ok-depth.ensures in
    let short = shortage_is p m c.args.asm.now c.as_slice-5.result.now c.needs_of-needs.result (c.as_slice-5.ensures ∙ all)
    (c.needs_of-needs.ensures p areas deep) in
    let fits = sym short ∙ c.in_ok-refuse_short.ensures.ok in
    code_room p m c.args.asm.now c.requires.map fits

pub locate-requires-clause-flash : goal.locate-requires-clause-flash
locate-requires-clause-flash c =
    let p = plain_program c.args.program.now in
    let m = c.args.map.now in
    let all = rw c.as_slice.ensures at c.in_ok-entries.ensures in
    let areas : AreAreas (rows_of_program p) c.as_slice-5.result.now c.args.asm.now.frames.items c.in_ok-areas.areas =
    rw c.as_slice-5.ensures
    (rw (c.as_slice-2.ensures, c.in_ok-rows.ensures, c.as_slice-3.ensures, c.as_slice-frames.ensures) at c.in_ok-areas.ensures.areas) in
    let deep =
    depth_is p c.as_slice-4.result.now c.in_ok-depth.depth (rw c.as_slice-4.ensures c.in_ok-rows.ensures) c.in_ok-depth.ensures in
    let short = shortage_is p m c.args.asm.now c.as_slice-5.result.now c.needs_of-needs.result (c.as_slice-5.ensures ∙ all)
    (c.needs_of-needs.ensures p areas deep) in
    let fits = sym short ∙ c.in_ok-refuse_short.ensures.ok in
    let placed : c.as_slice-9.result.now ≡ entries_by m p = c.as_slice-9.ensures ∙ all in
    rw placed (flash_room p m c.args.asm.now c.requires.map fits)

pub locate-requires-clause-far : goal.locate-requires-clause-far
locate-requires-clause-far c =
    let p = plain_program c.args.program.now in
    let m = c.args.map.now in
    let all = rw c.as_slice.ensures at c.in_ok-entries.ensures in
    let areas : AreAreas (rows_of_program p) c.as_slice-5.result.now c.args.asm.now.frames.items c.in_ok-areas.areas =
    rw c.as_slice-5.ensures
    (rw (c.as_slice-2.ensures, c.in_ok-rows.ensures, c.as_slice-3.ensures, c.as_slice-frames.ensures) at c.in_ok-areas.ensures.areas) in
    let deep =
    depth_is p c.as_slice-4.result.now c.in_ok-depth.depth (rw c.as_slice-4.ensures c.in_ok-rows.ensures) c.in_ok-depth.ensures in
    let short = shortage_is p m c.args.asm.now c.as_slice-5.result.now c.needs_of-needs.result (c.as_slice-5.ensures ∙ all)
    (c.needs_of-needs.ensures p areas deep) in
    let fits = sym short ∙ c.in_ok-refuse_short.ensures.ok in
    let placed : c.as_slice-9.result.now ≡ entries_by m p = c.as_slice-9.ensures ∙ all in
    rw placed (far_room p m c.args.asm.now c.requires.map fits)

pub locate-requires-clause-ram : goal.locate-requires-clause-ram
locate-requires-clause-ram c =
    let p = plain_program c.args.program.now in
    let m = c.args.map.now in
    let all = rw c.as_slice.ensures at c.in_ok-entries.ensures in
    let areas : AreAreas (rows_of_program p) c.as_slice-5.result.now c.args.asm.now.frames.items c.in_ok-areas.areas =
    rw c.as_slice-5.ensures
    (rw (c.as_slice-2.ensures, c.in_ok-rows.ensures, c.as_slice-3.ensures, c.as_slice-frames.ensures) at c.in_ok-areas.ensures.areas) in
    let deep =
    depth_is p c.as_slice-4.result.now c.in_ok-depth.depth (rw c.as_slice-4.ensures c.in_ok-rows.ensures) c.in_ok-depth.ensures in
    let short = shortage_is p m c.args.asm.now c.as_slice-5.result.now c.needs_of-needs.result (c.as_slice-5.ensures ∙ all)
    (c.needs_of-needs.ensures p areas deep) in
    let fits = sym short ∙ c.in_ok-refuse_short.ensures.ok in
    let placed : c.as_slice-9.result.now ≡ entries_by m p = c.as_slice-9.ensures ∙ all in
    rw (placed, c.as_slice-8.ensures, c.in_ok-rows.ensures) (ram_room p m c.args.asm.now c.requires.map fits)

pub returns-clause-located : goal.returns-clause-located
returns-clause-located c =
    let m = c.args.map.now in
    let p = plain_program c.args.program.now in
    let all = rw c.as_slice.ensures at c.in_ok-entries.ensures in
    let areas : AreAreas (rows_of_program p) c.as_slice-5.result.now c.args.asm.now.frames.items c.in_ok-areas.areas =
    rw c.as_slice-5.ensures
    (rw (c.as_slice-2.ensures, c.in_ok-rows.ensures, c.as_slice-3.ensures, c.as_slice-frames.ensures) at c.in_ok-areas.ensures.areas) in
    let deep =
    depth_is p c.as_slice-4.result.now c.in_ok-depth.depth (rw c.as_slice-4.ensures c.in_ok-rows.ensures) c.in_ok-depth.ensures in
    let short = shortage_is p m c.args.asm.now c.as_slice-5.result.now c.needs_of-needs.result (c.as_slice-5.ensures ∙ all)
    (c.needs_of-needs.ensures p areas deep) in
    let fits = sym short ∙ c.in_ok-refuse_short.ensures.ok in
    let judged : c.as_slice-7.result.now ≡ entries_by m p = c.as_slice-7.ensures ∙ all in
    let placed : c.as_slice-9.result.now ≡ entries_by m p = c.as_slice-9.ensures ∙ all in
    let made = c.in_ok-located.ensures in
    record {
      scratch = c.requires.frames;
      fits = fits;
      there = rw (c.as_slice-objs.ensures, c.as_slice-6.ensures) at c.in_ok-refuse_missing.ensures.ok;
      free = rw (judged, c.as_slice-objs.ensures) at c.in_ok-refuse_clash.ensures.ok;
      places = rw (placed, c.as_slice-8.ensures, c.in_ok-rows.ensures) at made.places;
      frames = rw (placed, c.as_slice-8.ensures, c.in_ok-rows.ensures) at made.frames;
      work = rw (placed, c.as_slice-8.ensures, c.in_ok-rows.ensures) at made.work;
      code_bytes = made.code_bytes;
      core = made.core;
      flash = rw (placed, c.as_slice-8.ensures, c.in_ok-rows.ensures) at made.flash;
    }

pub returns-in_err-refuse_short-clause-stopped : goal.returns-in_err-refuse_short-clause-stopped
returns-in_err-refuse_short-clause-stopped c =
    let p = plain_program c.args.program.now in
    let m = c.args.map.now in
    let all = rw c.as_slice.ensures at c.in_ok-entries.ensures in
    let areas : AreAreas (rows_of_program p) c.as_slice-5.result.now c.args.asm.now.frames.items c.in_ok-areas.areas =
    rw c.as_slice-5.ensures
    (rw (c.as_slice-2.ensures, c.in_ok-rows.ensures, c.as_slice-3.ensures, c.as_slice-frames.ensures) at c.in_ok-areas.ensures.areas) in
    let deep =
    depth_is p c.as_slice-4.result.now c.in_ok-depth.depth (rw c.as_slice-4.ensures c.in_ok-rows.ensures) c.in_ok-depth.ensures in
    let short = shortage_is p m c.args.asm.now c.as_slice-5.result.now c.needs_of-needs.result (c.as_slice-5.ensures ∙ all)
    (c.needs_of-needs.ensures p areas deep) in
    let told = err_from_is_err_and c.from_residual-in_err-refuse_short.result c.from_residual-in_err-refuse_short.ensures.1 in
    rw (told.1, told.2)
    (short_stop p m c.args.asm.now c.in_err-refuse_short.field-0.0 (first_shortage m c.needs_of-needs.result) short
    c.in_err-refuse_short.ensures.stop)

pub returns-in_err-refuse_missing-clause-stopped : goal.returns-in_err-refuse_missing-clause-stopped
returns-in_err-refuse_missing-clause-stopped c =
    let p = plain_program c.args.program.now in
    let m = c.args.map.now in
    let all = rw c.as_slice.ensures at c.in_ok-entries.ensures in
    let areas : AreAreas (rows_of_program p) c.as_slice-5.result.now c.args.asm.now.frames.items c.in_ok-areas.areas =
    rw c.as_slice-5.ensures
    (rw (c.as_slice-2.ensures, c.in_ok-rows.ensures, c.as_slice-3.ensures, c.as_slice-frames.ensures) at c.in_ok-areas.ensures.areas) in
    let deep =
    depth_is p c.as_slice-4.result.now c.in_ok-depth.depth (rw c.as_slice-4.ensures c.in_ok-rows.ensures) c.in_ok-depth.ensures in
    let short = shortage_is p m c.args.asm.now c.as_slice-5.result.now c.needs_of-needs.result (c.as_slice-5.ensures ∙ all)
    (c.needs_of-needs.ensures p areas deep) in
    let fits = sym short ∙ c.in_ok-refuse_short.ensures.ok in
    let told = err_from_is_err_and c.from_residual-in_err-refuse_missing.result c.from_residual-in_err-refuse_missing.ensures.1 in
    rw (told.1, told.2)
    (missing_stop p m c.args.asm.now c.in_err-refuse_missing.field-0.0 fits
    (rw (c.as_slice-objs.ensures, c.as_slice-6.ensures) at c.in_err-refuse_missing.ensures.stop))

pub returns-in_err-refuse_clash-clause-stopped : goal.returns-in_err-refuse_clash-clause-stopped
returns-in_err-refuse_clash-clause-stopped c =
    let p = plain_program c.args.program.now in
    let m = c.args.map.now in
    let all = rw c.as_slice.ensures at c.in_ok-entries.ensures in
    let areas : AreAreas (rows_of_program p) c.as_slice-5.result.now c.args.asm.now.frames.items c.in_ok-areas.areas =
    rw c.as_slice-5.ensures
    (rw (c.as_slice-2.ensures, c.in_ok-rows.ensures, c.as_slice-3.ensures, c.as_slice-frames.ensures) at c.in_ok-areas.ensures.areas) in
    let deep =
    depth_is p c.as_slice-4.result.now c.in_ok-depth.depth (rw c.as_slice-4.ensures c.in_ok-rows.ensures) c.in_ok-depth.ensures in
    let short = shortage_is p m c.args.asm.now c.as_slice-5.result.now c.needs_of-needs.result (c.as_slice-5.ensures ∙ all)
    (c.needs_of-needs.ensures p areas deep) in
    let fits = sym short ∙ c.in_ok-refuse_short.ensures.ok in
    let judged : c.as_slice-7.result.now ≡ entries_by m p = c.as_slice-7.ensures ∙ all in
    let there = rw (c.as_slice-objs.ensures, c.as_slice-6.ensures) at c.in_ok-refuse_missing.ensures.ok in
    let told = err_from_is_err_and c.from_residual-in_err-refuse_clash.result c.from_residual-in_err-refuse_clash.ensures.1 in
    rw (told.1, told.2)
    (clash_stop p m c.args.asm.now c.in_err-refuse_clash.field-0.0 fits there
    (rw (judged, c.as_slice-objs.ensures) at c.in_err-refuse_clash.ensures.stop))
