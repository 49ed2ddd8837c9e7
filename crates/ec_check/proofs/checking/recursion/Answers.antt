use Rattle.std.proofs.Common.{◌≡◌, ◌∙◌, ℕ, ap, sym, subst}
use Rattle.std.specs.Prelude.{Option, Some, None, IsSomeAnd, option_map, slice_get}
use Rattle.std.proofs.lemmas.Option.{slice_get-map}
use Rattle.ec_core.specs.Plain.{PlainFunction, plain_function, PlainProgram, plain_program}
use Rattle.ec_core.specs.Valid.{Reaches, calls, calls_through}
use Rattle.ec_check.proofs.checking.recursion.Goals as goal

pub returns-in-Ok-name-clause-recurs : goal.returns-in-Ok-name-clause-recurs
returns-in-Ok-name-clause-recurs c =
    let name = c.in-Ok-name.name.items in
    let f = c.in-Some.f in
    let found = slice_get-map plain_function c.args.p.funcs.items f ∙ ap (option_map plain_function) (sym c.in-Some-get.ensures) in
    record {
      function = f;
      first = (c.in-Ok.ensures.found f).0 c.in-Some.is;
      named = subst (λ (o : Option PlainFunction). IsSomeAnd o (λ g. g.name ≡ name)) (sym found) (sym c.in-Ok-name.ensures);
    }

-- what calls a function is a function
no_function : (o : Option PlainFunction) (function : PlainFunction) → o ≡ Some function → o ≡ None → ⊥
no_function None function e n = nothing e
  where
    nothing : ◌≡◌ {A = Option PlainFunction} None (Some function) → ⊥
    nothing e = cc
no_function (Some g) function e n = something n
  where
    something : ◌≡◌ {A = Option PlainFunction} (Some g) None → ⊥
    something e = cc

is_function : (p : PlainProgram) (g f : ℕ) → Reaches p g f → slice_get p.functions f ≡ None → ⊥
is_function p g _ (calls f function e c) n = no_function (slice_get p.functions f) function e n
is_function p g _ (calls_through f h function e c r) n = no_function (slice_get p.functions f) function e n

pub unreachable-requires : goal.unreachable-requires
unreachable-requires c =
    let f = c.in-Some.f in
    let first = (c.in-Ok.ensures.found f).0 c.in-Some.is in
    is_function (plain_program c.args.p) f f first.reaches
    (slice_get-map plain_function c.args.p.funcs.items f ∙ ap (option_map plain_function) (sym c.in_default-get.ensures))
