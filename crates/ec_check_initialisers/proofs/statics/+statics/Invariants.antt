use Rattle.std.proofs.Common.{◌≡◌, ◌+◌, List, drop}
use Rattle.std.specs.Prelude.{option_map}
use Rattle.ec_core.specs.Plain.{plain_type}
use Rattle.ec_grammar.specs.Views.{views_initialisers}
use Rattle.ec_check_expressions.specs.Known.{plain_known}
use Rattle.ec_check_initialisers.specs.Sites.{Site, told}
use Rattle.ec_check_initialisers.specs.Statics.{with_static_items, static_items_sites}
use Rattle.ec_check_initialisers.proofs.statics.+statics.Given as goal

abbrev pub invariant-static_items-loop-i : goal.invariant-static_items-loop-i
invariant-static_items-loop-i l =
    let k = plain_known l.known in
    let t = option_map plain_type l.ty in
    record {
      values : with_static_items k t (option_map (λ v. v.items) l.es) (l.i + 1) (views_initialisers (drop l.i l.more))
          ≡ with_static_items k t (option_map (λ v. v.items) l.fn.es) 1 (views_initialisers l.more);
      noted : (rest : List Site) → told l.faults.least (static_items_sites k t (l.i + 1) (views_initialisers (drop l.i l.more)) rest)
          ≡ told l.fn.faults.least (static_items_sites k t 1 (views_initialisers l.more) rest);
    }
