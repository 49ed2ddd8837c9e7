use Rattle.std.proofs.Common.{ap, sym, subst, length}
use Rattle.std.proofs.lemmas.Result.{on_ok_weaker}
use Rattle.std.specs.List.{AllByRecursion}
use Rattle.ec_check_names.specs.Names.{Named, Names, plain_named}
use Rattle.ec_check_names.specs.Tables.{Table}
use Rattle.ec_check_initialisers.specs.Places.{IsNamedObject}
use Rattle.ec_check_file_scope.specs.States.{plain_state}
use Rattle.ec_check_file_scope.proofs.Sound.{named_with}
use Rattle.ec_check_file_scope.proofs.states.State.declare.Goals as goal

pub returns-clause-sound : goal.returns-clause-sound
returns-clause-sound c =
    let s = plain_state c.args.self.now in
    let n = length s.structs in
    on_ok_weaker c.declare_outside-named.result (λ names.
    let outside = ap (λ (ns : Names). ns.outside) names in
    record {
      structs = c.requires.sound.structs;
      counted = c.requires.sound.counted;
      named =
          subst (λ (es : Table Named). AllByRecursion (λ e. IsNamedObject n e.1) es) (sym outside)
          (named_with (IsNamedObject n) c.in-Ok.name.items
          (plain_named c.args.what) s.scope.names.outside c.requires.named c.requires.sound.named);
    }) c.declare_outside-named.ensures
