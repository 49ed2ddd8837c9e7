use Rattle.ec_asm.proofs.Signed.{comparisons_tell_signed}
use Rattle.ec_asm.proofs.Results.{comparisons_tell_less, comparisons_tell_equal, comparisons_keep}
use Rattle.ec_asm.proofs.laws.comparisons_are_right.Goals as goal

pub returns : goal.returns
returns c = record {
  less = comparisons_tell_less;
  equal = comparisons_tell_equal;
  signed = comparisons_tell_signed;
  keep = comparisons_keep;
}
