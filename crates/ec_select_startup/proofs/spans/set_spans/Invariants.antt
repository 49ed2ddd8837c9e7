use Rattle.std.proofs.Common.{◌≡◌, ◌++◌, drop, false}
use Rattle.ec_runs.specs.Behaviours.{BeginWith}
use Rattle.ec_select_startup.specs.Startup.{spans_code}
use Rattle.ec_select_startup.proofs.spans.set_spans.Given as goal

abbrev pub invariant-loop-span : goal.invariant-loop-span
invariant-loop-span l = record {
  rest : l.out.items ++ spans_code l.clear (drop l.span-index l.spans) ≡ l.fn.out.items ++ spans_code false l.spans;
  begins : BeginWith l.fn.out.items l.out.items;
}
