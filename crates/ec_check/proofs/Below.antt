-- The laws of the crates below that the validity of a checked program stands on.
use Rattle.ec_core.specs.TypeLaws.{StructsAreLaidOut}
use Rattle.ec_check_names.specs.Laws.{EqualStructsAreOne}
use Rattle.ec_check_expression_laws.specs.Laws.{SaidTypesArePlaced}
use Rattle.ec_check_initialisers.specs.Laws.{SizesAreValues, InitialValuesSuit}
use Rattle.ec_check_statements.specs.Laws.{FunctionTypesAreUsable, ObjectsStay, InnerObjectsKeepSuiting, ObjectsAreAppended, BodiesAreValid}
use Rattle.ec_check_statements.specs.Laws.{BodiesNeedTheirTokens}

pub record Laws : Type 0 where
  pub layouts : StructsAreLaidOut
  pub said : SaidTypesArePlaced
  pub sizes : SizesAreValues
  pub usable : FunctionTypesAreUsable
  pub one : EqualStructsAreOne
  pub inner : InnerObjectsKeepSuiting
  pub stay : ObjectsStay
  pub append : ObjectsAreAppended
  pub bodies : BodiesAreValid
  pub needs : BodiesNeedTheirTokens
  pub values : InitialValuesSuit
