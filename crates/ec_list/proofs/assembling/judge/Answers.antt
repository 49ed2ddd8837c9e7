use Rattle.std.proofs.Common.{inl, inr, refl}
use Rattle.ec_list.proofs.Taking.{no_line, the_line}
use Rattle.ec_list.proofs.assembling.judge.Goals as goal

pub returns-in-None : goal.returns-in-None
returns-in-None c = (refl, inl (refl, no_line c.args.text.now c.in_ok-line.field-0 c.in_ok-line.ensures.value c.in-None.is))

pub suits-requires-clause-range : goal.suits-requires-clause-range
suits-requires-clause-range c = (the_line c.args.text.now c.in_ok-line.field-0 c.in-Some.line c.in_ok-line.ensures.value c.in-Some.is).range

pub suits-requires-clause-address : goal.suits-requires-clause-address
suits-requires-clause-address c = (the_line c.args.text.now c.in_ok-line.field-0 c.in-Some.line c.in_ok-line.ensures.value
    c.in-Some.is).address

pub returns-then-not-suits : goal.returns-then-not-suits
returns-then-not-suits c =
    let line = the_line c.args.text.now c.in_ok-line.field-0 c.in-Some.line c.in_ok-line.ensures.value c.in-Some.is in
    (refl, inr (inl (refl, (c.in-Some.line, (line, c.if-not-suits.ensures)))))

pub returns-then-line-from : goal.returns-then-line-from
returns-then-line-from c =
    let line = the_line c.args.text.now c.in_ok-line.field-0 c.in-Some.line c.in_ok-line.ensures.value c.in-Some.is in
    (refl, inr (inr (refl, (c.in-Some.line, (line, (c.if-not-suits.ensures, c.if-line-from.true))))))

pub returns : goal.returns
returns c = record {
  is_line = the_line c.args.text.now c.in_ok-line.field-0 c.in-Some.line c.in_ok-line.ensures.value c.in-Some.is;
  suits = c.if-not-suits.ensures;
  order = c.if-line-from.false;
}
