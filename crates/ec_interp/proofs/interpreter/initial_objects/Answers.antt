use Rattle.std.proofs.Common.{◌∙◌, ◌∷◌, ◌+◌, ℕ, List, rules, ap, arith, drop, map, subst, sym}
use Rattle.std.proofs.lemmas.List.{length-map}
use Rattle.std.specs.List.{AllByRecursion}
use Rattle.ec_core.specs.declared.programs.Obj.{Obj}
use Rattle.ec_core.specs.Accesses.{leaf_count}
use Rattle.ec_core.specs.Layout.{IsObjectType}
use Rattle.ec_core.specs.Meaning.{initial_object}
use Rattle.ec_core.specs.Plain.{PlainObject, plain_object, plain_program, plain_struct}
use Rattle.ec_core.specs.State.{ObjectState}
use Rattle.ec_core.specs.Valid.{IsObject}
use Rattle.ec_interp.specs.Views.{seen_object}
use Rattle.ec_interp.proofs.Rows.{one_more_seen}
use Rattle.ec_interp.proofs.Steps.{list_next}
use Rattle.ec_interp.proofs.interpreter.initial_objects.Goals as goal

pub loop-o-preserved : goal.loop-o-preserved
loop-o-preserved c =
    let program = plain_program c.args.f.now.program.now in
    let first : PlainObject → ObjectState = λ o. initial_object (leaf_count program o.ty) o.storage in
    let rest = map first (map plain_object (drop (c.loop-o.o-index + 1) c.args.objs.now)) in
    let next = list_next c.args.objs.now c.loop-o.o-index c.o-item.result (omega (arith, c.loop-o-test.true)) c.o-item.is in (
      λ h. (subst (λ (xs : List Obj). AllByRecursion (IsObject program) (map plain_object xs)) next (c.loop-o.invariant.0 h)).1,
      one_more_seen seen_object c.loop-o.objects.items c.push.new.items.items c.in_ok-x.x _ rest c.in_ok-push.ensures.ok
          (ap (λ xs. map first (map plain_object xs)) next
          ∙ ap (λ (x : ObjectState). x ∷ rest) (sym c.in_ok-x.ensures.object)) ∙ c.loop-o.invariant.1,
    )

pub returns-in_err-x-clause-answered : goal.returns-in_err-x-clause-answered
returns-in_err-x-clause-answered c =
    let program = plain_program c.args.f.now.program.now in
    let next = list_next c.args.objs.now c.loop-o.o-index c.o-item.result (omega (arith, c.loop-o-test.true)) c.o-item.is in
    λ h. (let o = (subst (λ (xs : List Obj). AllByRecursion (IsObject program) (map plain_object xs)) next (c.loop-o.invariant.0 h)).0 in
    let ty = subst (λ (n : ℕ). IsObjectType n (plain_object c.o-item.result).ty)
    (length-map c.args.f.now.program.now.structs.items plain_struct) o.ty in
    let a = c.in_err-x.ensures.answered ty in
    search rules)
