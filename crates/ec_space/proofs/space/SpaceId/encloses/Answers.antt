use Rattle.std.proofs.Common.{sym, ◌∙◌}
use Rattle.ec_space.specs.SpaceLaws.{Encloses-from_test, test_from_Encloses}
use Rattle.ec_space.proofs.space.SpaceId.encloses.Goals as goal

pub returns-clause-inclusion : goal.returns-clause-inclusion
returns-clause-inclusion c =
    let value = c.has_all.ensures in
    (λ h. Encloses-from_test c.args.self c.args.inner (sym value ∙ h), λ h. value ∙ test_from_Encloses c.args.self c.args.inner h)
