use Rattle.std.proofs.Common.{◌∙◌, ap}
use Rattle.std.specs.Prelude.{ℕ, Option, option_map}
use Rattle.ec_core.specs.Plain.{PlainType, plain_type, local}
use Rattle.ec_check_declarations.specs.Declarators.{ObjectDeclared}
use Rattle.ec_check_declarations.specs.Scopes.{plain_scope, made_number, with_inner}
use Rattle.ec_check_statements.specs.Locals.{LocalObject, local_made, with_local}
use Rattle.ec_check_statements.proofs.locals.declare.Goals as goal

abbrev local_object : Option PlainType → Option ℕ → LocalObject
local_object ty number = record { ty = ty; number = number }

pub returns-clause-walked : goal.returns-clause-walked
unfolding local_made with_local
returns-clause-walked c =
    let s = plain_scope c.args.scope.now in
    let name = c.args.d.now.declarator.name.name.items in
    let walked = c.in_ok-o.ensures.walked in
    record {
      meant =
          ap (local_object (option_map plain_type c.in_ok-o.o.ty)) c.in_ok-number.ensures.number
          ∙ ap (λ (o : ObjectDeclared). local_object o.ty (made_number o.ty s.objects)) walked.meant;
      scope =
          c.in_ok-number.ensures.scope
          ∙ ap
          (λ (o : ObjectDeclared). with_inner c.args.around.now.unit name o.ty o.konst (local c.args.around.now.function) s) walked.meant;
      noted = walked.noted;
    }
