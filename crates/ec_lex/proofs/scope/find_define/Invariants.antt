use Rattle.std.proofs.Common.{◌≡◌, map, drop}
use Rattle.ec_lex.specs.Words.{look_up}
use Rattle.ec_lex.specs.Views.{view_define}
use Rattle.ec_lex.proofs.scope.find_define.Given as goal

abbrev pub invariant-loop-define : goal.invariant-loop-define
invariant-loop-define l = look_up l.name (map view_define (drop l.define-index l.defines)) ≡ look_up l.name (map view_define l.defines)
