use Rattle.std.proofs.Common.{inl, inr, subst}
use Rattle.std.specs.Prelude.{IsErrOf}
use Rattle.ec_io.specs.declared.read.ReadStop.{ReadStop}
use Rattle.ec_where.proofs.Files.{too_long}
use Rattle.ec_where.proofs.explain.explain.Goals as goal

pub returns-in-Err-ReadFault : goal.returns-in-Err-ReadFault
returns-in-Err-ReadFault g c = record {
  found = tt;
  absent = λ _. inr (c.read_file.ensures.fault
      (subst (λ (stop : ReadStop). IsErrOf c.read_file.result stop) c.in-Err-ReadFault.field-0-is c.in-Err-ReadFault.is));
}

pub returns-in-Err-TooLong : goal.returns-in-Err-TooLong
returns-in-Err-TooLong g c = record {
  found = tt;
  absent = λ _. inl (too_long (g.S.Store.disk c.args.store.now) (g.S.Store.disk c.read_file.new.store) c.args.fault.now.name.now
      c.args.fault.now.fault c.read_file.result c.in-Err-TooLong.field-0-0 c.read_file.ensures.told
      (subst (λ (stop : ReadStop). IsErrOf c.read_file.result stop) c.in-Err-TooLong.field-0-is c.in-Err-TooLong.is));
}
