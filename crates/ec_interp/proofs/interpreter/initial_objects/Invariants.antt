use Rattle.std.proofs.Common.{◌≡◌, ◌++◌, drop, map}
use Rattle.std.specs.List.{AllByRecursion}
use Rattle.ec_core.specs.Accesses.{leaf_count}
use Rattle.ec_core.specs.Meaning.{initial_object}
use Rattle.ec_core.specs.Plain.{PlainObject, plain_object, plain_program}
use Rattle.ec_core.specs.State.{ObjectState}
use Rattle.ec_core.specs.Valid.{IsObject}
use Rattle.ec_interp.specs.Views.{seen_object}
use Rattle.ec_interp.proofs.interpreter.initial_objects.Given as goal

abbrev pub invariant-loop-o : goal.invariant-loop-o
invariant-loop-o l =
    let first : PlainObject → ObjectState = λ o. initial_object (leaf_count (plain_program l.f.program.now) o.ty) o.storage in
    (AllByRecursion (IsObject (plain_program l.f.program.now)) (map plain_object l.objs)
    → AllByRecursion (IsObject (plain_program l.f.program.now)) (map plain_object (drop l.o-index l.objs)))
    × (map seen_object l.objects.items ++ map first (map plain_object (drop l.o-index l.objs)) ≡ map first (map plain_object l.objs))
