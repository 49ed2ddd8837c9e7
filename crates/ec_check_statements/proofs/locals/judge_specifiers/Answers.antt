use Rattle.std.proofs.Common.{◌∙◌, ap}
use Rattle.ec_check_operands.specs.Faults.{all_judged}
use Rattle.ec_grammar.specs.Views.{view_specs}
use Rattle.ec_check_names.specs.Specifiers.{storages_of}
use Rattle.ec_check_declarations.specs.Sites.{told}
use Rattle.ec_check_statements.specs.Locals.{storage_rules}
use Rattle.ec_check_statements.proofs.locals.judge_specifiers.Goals as goal

pub returns-clause-noted : goal.returns-clause-noted
returns-clause-noted c =
    λ rest. ap (λ z. told z rest)
    (c.judge_storage.ensures
    ∙ ap (λ s. all_judged c.judge_specs-said.new.faults.least (storage_rules s.first)) c.storages_of.ensures
    ∙ c.judge_specs-said.ensures.judged (storage_rules (storages_of (view_specs c.args.d.now.specs)).first))
