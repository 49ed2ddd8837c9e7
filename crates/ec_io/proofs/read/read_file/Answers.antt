use Rattle.std.proofs.Common.{◌≡◌, ◌≤◌, ◌+◌, ◌++◌, ℕ, List, length, take, ◌∙◌, ap, arith, refl, sym, subst}
use Rattle.std.proofs.lemmas.List.{take-append-le, length-take}
use Rattle.ec_io.proofs.Reading.{ReadSoFar, read_more, length-more}
use Rattle.ec_io.proofs.Counting.{counted_more}
use Rattle.ec_io.proofs.read.read_file.Goals as goal

pub more-preserved : goal.more-preserved
more-preserved g c =
    let i = c.more.invariant in
    let fits : c.in-Ok.n ≤ length c.read.new.buf = c.in-Ok.ensures.bound.0 in
    let room : length c.read.new.buf ≤ c.min-room.result = omega (arith, c.read.auto.buf, length-take c.min-room.result c.more.buf) in
    let grown : c.extend_from_slice.new.self.items ≡ c.more.bytes.items ++ take c.in-Ok.n c.read.new.buf =
    c.in-Ok-extend_from_slice.ensures.ok
    ∙ ap (λ (xs : List ℕ). c.more.bytes.items ++ xs) (take-append-le c.in-Ok.n c.read.new.buf _ fits) in
    let long : length c.extend_from_slice.new.self.items ≡ length c.more.bytes.items + c.in-Ok.n =
    ap length grown ∙ length-more c.more.bytes.items c.read.new.buf c.in-Ok.n fits in
    record {
      within = omega (arith, c.if-is_too_long.ensures);
      told = subst (λ xs. ReadSoFar c.args.name.now (g.S.Store.disk c.args.store.now) (g.S.Store.disk c.read.new.self) xs) (sym grown)
          (read_more _ _ _ _ _ _ _ fits i.told c.in-Ok.ensures.disk);
      received = counted_more _ _ _ _ _ _ i.received c.in-Ok.ensures.received (sym long);
      later = omega arith;
      write_faults = c.read.ensures.other_faults ∙ i.write_faults;
      writing = c.read.ensures.writing ∙ i.writing;
      reading = c.read.ensures.reading ∙ i.reading;
      calm = λ names made room calm named.
          let before = i.calm names made room calm named in
          let after = c.in-Ok.ensures.calm names made room before.1 (rw i.reading refl) in
          (after.0.same ∙ before.0, after.1);
    }

pub returns-in-Err-extend_from_slice-clause-received : goal.returns-in-Err-extend_from_slice-clause-received
returns-in-Err-extend_from_slice-clause-received g c =
    let fits : c.in-Ok.n ≤ length c.read.new.buf = c.in-Ok.ensures.bound.0 in
    let room : length c.read.new.buf ≤ c.min-room.result = omega (arith, c.read.auto.buf, length-take c.min-room.result c.more.buf) in (
      length c.more.bytes.items + c.in-Ok.n,
      (omega (arith, c.if-is_too_long.ensures), counted_more _ _ _ _ _ _ c.more.invariant.received c.in-Ok.ensures.received refl),
    )
