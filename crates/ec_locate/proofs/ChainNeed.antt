-- The need of region `data` is that of the chains of calls.
use Rattle.std.proofs.Common.{refl}
use Rattle.ec_check_recursion.specs.Rows.{rows_of_program}
use Rattle.ec_overlay.specs.Frames.{need_of, FramesAreOverlaid}
use Rattle.ec_overlay.proofs.Programs.{nothing_recurs}
use Rattle.ec_locate.specs.ChainNeed.{DataNeedIsOfChains}
use Rattle.ec_locate.specs.Entries.{local_size, scratch_size}
use Rattle.ec_locate.specs.Placing.{entries_by, scratch_needs}

pub data-need-is-of-chains : FramesAreOverlaid → DataNeedIsOfChains
data-need-is-of-chains overlaid p m valid =
    let rows = rows_of_program p in
    let never = nothing_recurs p valid.no_recursion in
    record {
      locals = need_of rows (local_size (entries_by m p));
      scratch = need_of rows (scratch_size (scratch_needs p));
      are_locals = (overlaid rows (local_size (entries_by m p)) never).need;
      are_scratch = (overlaid rows (scratch_size (scratch_needs p)) never).need;
      sum = refl;
    }
