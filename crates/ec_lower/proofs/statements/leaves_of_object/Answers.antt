use Rattle.std.proofs.Common.{◌∙◌, sym, subst, ℕ, length}
use Rattle.std.proofs.lemmas.List.{length-map}
use Rattle.std.proofs.lemmas.Result.{IfOk-weaker}
use Rattle.ec_core.specs.Layout.{IsObjectType}
use Rattle.ec_core.specs.Plain.{plain_object, plain_program, plain_struct}
use Rattle.ec_lower.proofs.Lists.{object_at}
use Rattle.ec_lower.proofs.Steps.{seen_at, leaves_some, leaves_absent}
use Rattle.ec_lower.proofs.statements.leaves_of_object.Goals as goal

pub leaves-requires-clause-object : goal.leaves-requires-clause-object
leaves-requires-clause-object c =
    let program = plain_program c.args.program.now in
    let o = object_at (λ x. IsObjectType (length program.structs) x.ty) c.args.program.now.objs.items c.args.o c.in-Some.object.now
    c.in-Some.ensures c.requires.objects in
    subst (λ (n : ℕ). IsObjectType n (plain_object c.in-Some.object.now).ty) (length-map c.args.program.now.structs.items plain_struct) o

pub returns-in-None : goal.returns-in-None
returns-in-None c =
    let e = leaves_absent (plain_program c.args.program.now) c.args.o
    (seen_at plain_object c.args.program.now.objs.items c.args.o _ c.in-None.ensures) in
    rw (c.new.ensures) (sym e)

pub returns-in-Some : goal.returns-in-Some
returns-in-Some c =
    let e = leaves_some (plain_program c.args.program.now) c.args.o (plain_object c.in-Some.object.now)
    (seen_at plain_object c.args.program.now.objs.items c.args.o _ c.in-Some.ensures) in
    IfOk-weaker c.leaves.result _ _ (λ leaves h. h ∙ sym e) c.leaves.ensures
