use Rattle.std.proofs.Common.{◌∙◌, ◌++◌, ◌∷◌, [], ◌+◌, append_assoc, ap, refl, sym, take, map, drop, arith}
use Rattle.std.proofs.Math.ListN.{drop_of_length-le}
use Rattle.std.proofs.lemmas.List.{append-nil}
use Rattle.ec_grammar.specs.Views.{view_param, view_next_param}
use Rattle.ec_check_names.specs.Tags.{plain_tags}
use Rattle.ec_check_declarations.specs.Params.{plain_param, next_declared, param_declared, is_misnamed, param_sites, more_params_sites}
use Rattle.ec_check_declarations.specs.Sites.{told}
use Rattle.ec_check_declarations.proofs.Lists.{taken, here}
use Rattle.ec_check_declarations.proofs.Named.{first_named, param_named}
use Rattle.ec_check_declarations.proofs.params.add_params.Goals as goal

pub loop-p-init : goal.loop-p-init
loop-p-init c =
    record {
      names = first_named c.new-names.result.keys c.note_param.new.names.keys (view_param c.args.first.now) c.new-names.ensures.empty
          c.in_ok-note_param.ensures;
      values = refl;
      noted = λ others. refl;
    }

pub loop-p-preserved : goal.loop-p-preserved
loop-p-preserved c =
    let ts = plain_tags c.args.tags.now in
    let more = c.args.more.now in
    let all = map view_next_param more in
    let i = c.loop-p.p-index in
    let x = c.p-item.result in
    let p = view_param x.param in
    let first = view_param c.args.first.now in
    let defined = c.args.defined in
    let rest = map view_next_param (drop (i + 1) more) in
    let next = here more i x c.loop-p-test.true c.p-item.is in
    let so_far = map plain_param c.loop-p.params.items in
    let misnamed = c.is_misnamed-misnamed.ensures first (map view_next_param (take i more)) c.loop-p.invariant.names
    ∙ ap (λ b. is_misnamed defined first b p) (taken view_next_param i more) in
    record {
      names = param_named c.loop-p.names.keys c.note_param-in-loop-p.new.names.keys first more (drop (i + 1) more) i x next
          c.in_ok-note_param-2.ensures c.loop-p.invariant.names;
      values =
          ap (λ z. z ++ map (next_declared ts c.args.structs) rest) c.in_ok-add_param.ensures.meant
          ∙ append_assoc so_far (param_declared ts c.args.structs p ∷ []) (map (next_declared ts c.args.structs) rest)
          ∙ sym (ap (λ ys. so_far ++ map (next_declared ts c.args.structs) (map view_next_param ys)) next)
          ∙ c.loop-p.invariant.values;
      noted = λ others.
          c.in_ok-add_param.ensures.noted (more_params_sites ts defined first all (i + 1) rest others)
          ∙ ap (λ m. told c.loop-p.faults.least (param_sites ts m p (more_params_sites ts defined first all (i + 1) rest others))) misnamed
          ∙ sym (ap (λ ys. told c.loop-p.faults.least (more_params_sites ts defined first all i (map view_next_param ys) others)) next)
          ∙ c.loop-p.invariant.noted others;
    }

pub returns : goal.returns
returns c =
    let ts = plain_tags c.args.tags.now in
    let all = map view_next_param c.args.more.now in
    let none = sym (drop_of_length-le c.args.more.now (omega (arith, c.loop-p-test.false))) in
    record {
      meant =
          sym (append-nil (map plain_param c.loop-p.params.items))
          ∙ ap (λ xs. map plain_param c.loop-p.params.items ++ map (next_declared ts c.args.structs) (map view_next_param xs)) none
          ∙ c.loop-p.invariant.values;
      noted = λ rest. ap (λ xs. told c.loop-p.faults.least (more_params_sites ts c.args.defined (view_param c.args.first.now) all
          c.loop-p.p-index (map view_next_param xs) rest)) none ∙ c.loop-p.invariant.noted rest;
    }
