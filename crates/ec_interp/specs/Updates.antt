-- The interpreter's compound assignments and steps as those of the meaning.
use Rattle.ec_core.specs.Expressions.{Update as UpdateOf}
use Rattle.ec_core.specs.Plain.{plain_type, plain_place}
use Rattle.ec_interp.specs.declared.run.Update.{Update}

abbrev pub seen_update : Update → UpdateOf
seen_update u =
    record {
      op = u.op;
      operation_mode = u.operation_mode;
      write_mode = u.write_mode;
      ty = plain_type u.ty.now;
      place = plain_place u.place.now;
      new = u.new;
    }
