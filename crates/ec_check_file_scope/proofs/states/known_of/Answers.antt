use Rattle.std.specs.Prelude.{ℕ, List, IfSome, map}
use Rattle.std.proofs.Common.{length, subst, sym}
use Rattle.ec_core.specs.Plain.{plain_struct}
use Rattle.ec_check_names.specs.Tables.{at_name}
use Rattle.ec_check_initialisers.specs.Places.{IsNamedObject}
use Rattle.ec_check_file_scope.specs.States.{plain_state}
use Rattle.ec_check_file_scope.proofs.Sound.{named_at}
use Rattle.ec_check_file_scope.proofs.states.known_of.Goals as goal

pub returns-clause-named : goal.returns-clause-named
returns-clause-named c =
    let s = plain_state c.args.state.now in
    subst (λ structs. (n : List ℕ) → IfSome (at_name n s.scope.names.outside) (IsNamedObject (length (map plain_struct structs.items))))
    (sym c.list.ensures) (named_at (IsNamedObject (length s.structs)) s.scope.names.outside c.requires.sound.named)
