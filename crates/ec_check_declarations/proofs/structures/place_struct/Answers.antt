use Rattle.std.proofs.Common.{◌∙◌, ◌∷◌, [], ap, sym, subst, List, map, arith}
use Rattle.std.proofs.lemmas.List.{map-append}
use Rattle.ec_core.specs.Layout.{AreStructs}
use Rattle.ec_core.specs.Plain.{PlainStruct, plain_struct}
use Rattle.ec_check_forms.specs.Accesses.{AreCounted}
use Rattle.ec_check_declarations.proofs.Structs.{one_more, counted_more, place_fits}
use Rattle.ec_check_declarations.proofs.structures.place_struct.Goals as goal

pub overflow_cast-result : goal.overflow_cast-result
overflow_cast-result c =
    let structs = map plain_struct c.args.structs.now.items in
    let below =
    place_fits structs (plain_struct c.args.def) c.in-Some.i c.requires.follows (sym c.place.ensures ∙ c.in-Some.is) in
    omega (arith, below)

pub returns-in_ok-push-in-None-clause-structs : goal.returns-in_ok-push-in-None-clause-structs
returns-in_ok-push-in-None-clause-structs c =
    let structs = map plain_struct c.args.structs.now.items in
    let pushed = ap (map plain_struct) c.in_ok-push-in-None.ensures
    ∙ map-append plain_struct c.args.structs.now.items (c.args.def ∷ []) in
    subst (λ (xs : List PlainStruct). AreStructs xs) (sym pushed)
    (one_more c.structs_are_laid_out.ensures structs (plain_struct c.args.def) c.requires.structs c.requires.follows)

pub returns-in_ok-push-in-None-clause-counted : goal.returns-in_ok-push-in-None-clause-counted
returns-in_ok-push-in-None-clause-counted c =
    let structs = map plain_struct c.args.structs.now.items in
    let pushed = ap (map plain_struct) c.in_ok-push-in-None.ensures
    ∙ map-append plain_struct c.args.structs.now.items (c.args.def ∷ []) in
    subst (λ (xs : List PlainStruct). AreCounted xs) (sym pushed)
    (counted_more structs (plain_struct c.args.def) c.requires.counted c.requires.follows)
