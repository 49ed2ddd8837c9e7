use Rattle.std.proofs.Common.{◌≡◌, ◌+◌, List, drop, map}
use Rattle.std.specs.Prelude.{option_map}
use Rattle.ec_core.specs.Plain.{plain_type, plain_expr}
use Rattle.ec_grammar.specs.Views.{views_initialisers}
use Rattle.ec_check_expressions.specs.Known.{plain_known}
use Rattle.ec_check_initialisers.specs.Locals.{with_items, items_sites}
use Rattle.ec_check_initialisers.specs.Sites.{Site, told}
use Rattle.ec_check_initialisers.proofs.locals.+locals.Given as goal

abbrev pub invariant-local_items-loop-i : goal.invariant-local_items-loop-i
invariant-local_items-loop-i l =
    let k = plain_known l.known in
    let t = option_map plain_type l.ty in
    record {
      values : with_items k t (option_map (λ v. map plain_expr v.items) l.es) (l.i + 1) (views_initialisers (drop l.i l.more))
          ≡ with_items k t (option_map (λ v. map plain_expr v.items) l.fn.es) 1 (views_initialisers l.more);
      noted : (rest : List Site) → told l.faults.least (items_sites k t (l.i + 1) (views_initialisers (drop l.i l.more)) rest)
          ≡ told l.fn.faults.least (items_sites k t 1 (views_initialisers l.more) rest);
    }
