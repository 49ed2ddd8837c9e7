use Rattle.std.proofs.Common.{◌≡◌, ◌%◌, ◌<◌, ℕ, List, ◌++◌, length, sym, ap, ◌∙◌, subst, arith}
use Rattle.ec_hex.specs.Steps.{WritesOn, run_lines}
use Rattle.ec_hex.specs.Text.{base_line}
use Rattle.ec_hex.proofs.Runs.{run_lines-some}
use Rattle.ec_hex.proofs.Sending.{writes-both}
use Rattle.ec_hex.proofs.write.put_run.Goals as goal

pub returns-in-Ok-clause-written : goal.returns-in-Ok-clause-written
returns-in-Ok-clause-written g c =
    let some : 0 < length c.args.run.now = grind (arith, c.is_empty.ensures, c.if-is_empty.false) in
    let second : List ℕ = c.as_slice-in-Ok.result.now in
    let lines : c.as_slice.result.now ++ second ≡ run_lines c.args.base c.args.at c.args.run.now =
    ap (λ (first : List ℕ). first ++ second) (c.as_slice.ensures ∙ c.base_line-first.ensures)
    ∙ ap (λ (line : List ℕ). base_line c.args.base c.args.at ++ line) (c.as_slice-in-Ok.ensures ∙ c.record_line-line.ensures)
    ∙ sym (run_lines-some c.args.base c.args.at c.args.run.now some) in
    subst (λ (text : List ℕ).
    WritesOn c.args.done (g.O.Sink.written c.args.sink.now) (g.O.Sink.written c.put_line-in-Ok.new.sink) c.put_line-in-Ok.result text) lines
    (writes-both c.args.done c.in-Ok.after _ _ _ _ _ _ c.in-Ok.ensures.written c.put_line-in-Ok.ensures.written)
