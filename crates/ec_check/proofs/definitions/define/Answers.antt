use Rattle.std.proofs.Common.{◌∙◌, sym, subst, map, length}
use Rattle.std.specs.List.{AllByRecursion}
use Rattle.ec_check_names.specs.Names.{Named}
use Rattle.ec_check_names.specs.Tables.{Table}
use Rattle.ec_check_initialisers.specs.Places.{IsNamedObject}
use Rattle.ec_check_declarations.specs.Params.{plain_param}
use Rattle.ec_check_declarations.specs.Scopes.{plain_scope}
use Rattle.ec_check_file_scope.specs.States.{plain_state}
use Rattle.ec_check.proofs.Outside.{params_keep, body_keeps}
use Rattle.ec_check.proofs.definitions.define.Goals as goal

pub add_function-requires : goal.add_function-requires
add_function-requires c =
    let s = plain_state c.args.state.now in
    let ps = map plain_param c.deref.result.now in
    let params = params_keep c.args.setting.now.unit c.number_in-function.result ps s.scope
    (plain_scope c.declare_params-numbers.new.scope) c.in-Ok.ensures.scope in
    let body = body_keeps _ _ _ _ _ c.in-Ok-body.ensures.scope in
    record {
      structs = c.requires.sound.structs;
      counted = c.requires.sound.counted;
      named = subst (λ (es : Table Named). AllByRecursion (λ e. IsNamedObject (length s.structs) e.1) es)
          (sym (body ∙ params)) c.requires.sound.named;
    }
