use Rattle.std.proofs.Common.{◌≡◌, rules, arith, ◌∙◌, ap, sym, subst, ℕ, ◌+◌, ◌∷◌}
use Rattle.std.specs.Prelude.{option_map}
use Rattle.std.proofs.Math.ListN.{drop_of_length-le}
use Rattle.ec_grammar.specs.declared.Arguments.TheViews as views
use Rattle.ec_grammar.specs.declared.Arguments.TheViews.{the_lemmas}
use Rattle.ec_grammar.specs.Views.{views_further, view_cast, view_type_name}
use Rattle.ec_check_names.specs.Firsts.{first_cast}
use Rattle.ec_check_forms.specs.Nodes.{used}
use Rattle.ec_check_forms.specs.Choices.{cast}
use Rattle.ec_check_operands.specs.Operands.{plain_operand, with_both}
use Rattle.ec_check_forms.specs.Sites.{a_use, a_cast}
use Rattle.ec_grammar.proofs.Backwards.{further_row}
use Rattle.ec_check_expressions.specs.Types.{meant_type}
use Rattle.ec_check_expressions.specs.Arguments.{plain_wanted, plain_passed}
use Rattle.ec_check_expressions.specs.Expressions.{passed_further, further_sites}
use Rattle.ec_check_expressions.specs.Known.{plain_known}
use Rattle.ec_check_expressions.specs.Sites.{on, a_type_name, told, Walked}
use Rattle.ec_check_expressions.specs.TypeNames.{said_type, void_said}
use Rattle.ec_check_expressions.proofs.Walks.{then}
use Rattle.ec_check_expressions.proofs.walk.+walk.Goals as goal

pub arguments-returns-in_ok-passing-in-Some : goal.arguments-returns-in_ok-passing-in-Some
arguments-returns-in_ok-passing-in-Some t c = search (rules, the_lemmas, further_row)

pub primary-returns-in-Operation : goal.primary-returns-in-Operation
primary-returns-in-Operation t c = search (rules, the_lemmas, further_row)

pub further-returns : goal.further-returns
further-returns t c =
    let k = plain_known c.args.known.now in
    let w = plain_wanted c.args.wanted.now in
    let none = sym (drop_of_length-le c.args.more.now (omega (arith, c.loop-i-test.false))) in
    record {
      meant = ap (λ xs. passed_further k w (plain_passed c.loop-i.args) (c.loop-i.i + 1) (views_further xs)) none
          ∙ c.loop-i.invariant.passed;
      noted = λ rest. ap (λ xs. told c.loop-i.faults.least (further_sites k w (c.loop-i.i + 1) (views_further xs) rest)) none
          ∙ c.loop-i.invariant.noted rest;
    }

pub cast-returns-in_ok-z-in-Convert : goal.cast-returns-in_ok-z-in-Convert
cast-returns-in_ok-z-in-Convert t c =
    let k = plain_known c.args.known.now in
    let n = view_type_name c.deref-in-Convert-2.result.now in
    let x = option_map plain_operand c.in_ok-x-in-Convert.x in
    let first = c.first_cast.ensures ∙ ap (λ u. first_cast (view_cast u)) (c.deref-in-Convert.ensures ∙ sym c.deref.ensures) in
    let taken = subst (λ (at : ℕ). Walked c.cast.new.faults.least c.take_first-p.new.faults.least (λ rest. on (a_use x at) ∷ rest)
    (option_map plain_operand c.take_first-p.result) (used x)) first c.take_first-p.ensures in
    rw (c.in-Convert.is, ← c.deref.ensures, ← c.deref-in-Convert-2.ensures)
    (then (λ v rest. a_type_name k.tags n ∷ on (a_cast (said_type k.tags n) v c.in-Convert.l.index) ∷ rest)
    (λ v. with_both (meant_type (void_said k.tags n) (said_type k.tags n)) v (cast k.modes)) (then (λ v rest.
    on (a_use v (first_cast (view_cast c.deref.result.now))) ∷ rest) used c.in_ok-x-in-Convert.ensures taken) c.in_ok-z-in-Convert.ensures)

pub primary-operation-requires : goal.primary-operation-requires
primary-operation-requires t c =
    let row = c.in-Operation in
    let deep = ap views.size-Primary row.is ∙ views.sized-Operation row.s row.op row.field-2 row.n row.more row.field-5 in
    let same : c.deref-in-Operation-2.result.now ≡ row.more.items = c.deref-in-Operation-2.ensures.value in
    (rw same (omega (arith, deep, c.decreases)), c.requires)
