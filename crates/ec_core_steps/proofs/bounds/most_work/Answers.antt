use Rattle.std.proofs.Common.{◌≡◌, ◌∙◌, sym, ap, length}
use Rattle.std.proofs.lemmas.List.{length-map}
use Rattle.ec_core.specs.Plain.{plain_function, plain_program}
use Rattle.ec_core.specs.PortTable.{plain_table}
use Rattle.ec_core_steps.specs.Costs.{call_cost, costs_within}
use Rattle.ec_core_steps.proofs.Capped.{work_is}
use Rattle.ec_core_steps.proofs.bounds.most_work.Goals as goal

pub returns : goal.returns
returns c =
    let p = plain_program c.args.program.now in
    let table = plain_table c.args.io.now in
    let count : c.len.result ≡ length p.functions = c.len.ensures ∙ sym (length-map c.args.program.now.funcs.items plain_function) in
    let words : c.call_cost-words.result ≡ call_cost (costs_within table p (length p.functions)) p.main =
    c.call_cost-words.ensures
    ∙ ap (λ costs. call_cost costs p.main) (c.as_slice.ensures ∙ c.in_ok-costs.ensures ∙ ap (costs_within table p) count) in
    c.held.ensures ∙ work_is p table (length p.functions) c.call_cost-words.result words
