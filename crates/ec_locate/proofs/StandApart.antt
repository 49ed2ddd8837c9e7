-- What a placed program keeps stands apart: the whole.
use Rattle.std.proofs.Common.{◌+◌, [], arith}
use Rattle.ec_check_recursion.specs.Rows.{rows_of_program}
use Rattle.ec_map.specs.Regions.{end_of}
use Rattle.ec_locate.specs.Apart.{InOrder, area_spans, PlacedStandApart}
use Rattle.ec_locate.specs.Entries.{flash_sizes, far_sizes, data_sizes, initial_sizes}
use Rattle.ec_locate.specs.Fixed.{blocks}
use Rattle.ec_locate.specs.Layout.{local_at}
use Rattle.ec_locate.specs.Placing.{entries_by, needs}
use Rattle.ec_locate.proofs.CodeStand.{all_fit}
use Rattle.ec_locate.proofs.InOrders.{data_in_order, flash_in_order, far_in_order, initial_in_order, places_free}
use Rattle.ec_locate.proofs.Longest.{chains-are-counted}

pub stand-apart : PlacedStandApart
stand-apart p m asm l valid located =
    let es = entries_by m p in
    let rows = rows_of_program p in
    let frames = asm.frames.items in
    let n = needs p m.io es frames asm.items.items in
    let fits = all_fit m n located.fits in
    let tables = fits.tables in
    let vars = fits.vars in
    let code = fits.code in
    let stack = fits.stack in
    let work = located.work in
    let areas : InOrder (m.vars.first + data_sizes es) (area_spans p m asm l) (end_of m.vars) =
    (omega arith, (omega arith, (omega (arith, work), omega (arith, work, vars)))) in
    let ram = data_in_order es m.tables.first m.far.first m.vars.first (local_at m rows es) 0 (area_spans p m asm l) (end_of m.vars)
    areas in
    let values : InOrder (m.tables.first + flash_sizes es + initial_sizes es) [] (end_of m.tables) = omega (arith, tables) in
    let flash = flash_in_order es m.tables.first m.far.first m.vars.first (local_at m rows es) 0 _ (end_of m.tables)
    (initial_in_order es m.tables.first (m.tables.first + flash_sizes es) [] (end_of m.tables) values) in
    let no_more : InOrder (m.far.first + far_sizes es) [] (end_of m.far) = omega (arith, fits.far) in
    let far = far_in_order es m.tables.first m.far.first m.vars.first (local_at m rows es) 0 [] (end_of m.far) no_more in
    record {
      ram = rw located.places ram;
      flash = rw located.places flash;
      far = rw located.places far;
      code = omega (arith, code);
      stack = λ program fs chain. let deep = (chains-are-counted p m.io program).most fs chain in omega (arith, deep, stack);
      fixed = places_free m 0 (blocks es p.objects m.places.items) located.free;
    }
