use Rattle.std.proofs.Common.{◌≡◌, ◌∙◌, length, refl, sym, ap, subst}
use Rattle.ec_space.specs.Memory.{flash_size, data_size, IsFilled}
use Rattle.ec_avr.proofs.Reset.{overwrite-all, slice_range-all, filled, reset_with_is_reset}
use Rattle.ec_avr.proofs.machine.Machine.with_image.Goals as goal

pub returns-clause-value : goal.returns-clause-value
returns-clause-value c =
    let core = c.args.image.now.core in
    let memory = c.in_ok-memory.memory in
    let flash : length memory.flash ≡ flash_size core = c.in_ok-memory.ensures.flash.len in
    let zeros : IsFilled (data_size core) 0 memory.data = c.in_ok-memory.ensures.data in
    let flash_window =
    c.window_mut.ensures.value
    ∙ slice_range-all memory.flash c.flash_size.result (flash ∙ sym c.flash_size.ensures) in
    let data_window =
    c.window_mut-2.ensures.value
    ∙ slice_range-all memory.data c.data_size.result (zeros.len ∙ sym c.data_size.ensures) in
    let bytes =
    filled core (data_size core) c.args.fill c.window_mut-2.result.now c.fill_memory.new.bytes
    (subst (IsFilled (data_size core) 0) (sym data_window) zeros) c.fill_memory.auto.bytes c.fill_memory.ensures in
    let image =
    overwrite-all memory.flash c.copy_from_slice.new.self (c.copy_from_slice.ensures.len ∙ ap length flash_window) in
    let rest = overwrite-all memory.data c.fill_memory.new.bytes (c.fill_memory.auto.bytes ∙ ap length data_window) in
    rw (image, rest, bytes, c.copy_from_slice.ensures.after, c.as_slice.ensures) refl

pub returns-clause-reset : goal.returns-clause-reset
returns-clause-reset c =
    reset_with_is_reset c.args.image.now.core c.args.image.now.bytes.items c.args.fill _ c.ranges.fill.fits (returns-clause-value c)
