use Rattle.ec_list.proofs.OneReading.{lists_one_image, lists_shortly}
use Rattle.ec_list.proofs.laws.texts_list_one_image.Goals as goal

pub returns-clause-one : goal.returns-clause-one
returns-clause-one c = lists_one_image

pub returns-clause-short : goal.returns-clause-short
returns-clause-short c = lists_shortly
