use Rattle.std.proofs.Common.{◌∙◌, [], replicate, false, ap, sym, refl}
use Rattle.std.proofs.lemmas.Bool.{eqb-true}
use Rattle.std.proofs.lemmas.List.{nil_from_length}
use Rattle.std.specs.Prelude.{length}
use Rattle.ec_space.specs.declared.Core.{Core}
use Rattle.ec_avr.specs.Flash.{flash_size}
use Rattle.ec_list.specs.declared.assembling.AsmStop.TheVariants.{Line}
use Rattle.ec_list.proofs.OneReading.{lists_one_image, not_both}
use Rattle.ec_list.proofs.Taking.{nothing_taken, taken_on, taken_whole, stopped_at, stopped_open, only_memory, one_err, never_stops}
use Rattle.ec_list.proofs.Taking.{count_small}
use Rattle.ec_list.proofs.assembling.assemble.Goals as goal

pub lines-init : goal.lines-init
lines-init c = record {
  core = c.in_ok-new.ensures.core;
  taken = record {
    lines = [];
    text_is = sym c.as_slice-rest.ensures;
    taken = nothing_taken _
        (c.in_ok-new.ensures.bytes ∙ ap (λ (core : Core). replicate (flash_size core) 255) (sym c.in_ok-new.ensures.core))
        (c.in_ok-new.ensures.written ∙ ap (λ (core : Core). replicate (flash_size core) false) (sym c.in_ok-new.ensures.core)) refl refl;
  };
}

pub take-requires-clause-few : goal.take-requires-clause-few
take-requires-clause-few c =
    let t = c.lines.invariant.taken.taken in (count_small _ c.lines.invariant.taken.lines _ _ t.are_lines t.count t.end).0

pub take-requires-clause-end : goal.take-requires-clause-end
take-requires-clause-end c =
    let t = c.lines.invariant.taken.taken in (count_small _ c.lines.invariant.taken.lines _ _ t.are_lines t.count t.end).1

pub lines-preserved : goal.lines-preserved
lines-preserved c = record {
  core = c.take.ensures.core ∙ c.lines.invariant.core;
  taken = taken_on _ _ _ _ _ _ c.lines.invariant.taken c.in-Some.ensures.some.0 c.in-Ok.ensures.takes;
}

pub returns-in-None-clause-stopped : goal.returns-in-None-clause-stopped
returns-in-None-clause-stopped c =
    stopped_open _ _ _ _ _ c.lines.invariant.core c.lines.invariant.taken (sym c.is_empty.ensures ∙ c.lines-test.true)
    c.in-None.ensures.none refl

pub returns-in-None-clause-image : goal.returns-in-None-clause-image
returns-in-None-clause-image c = λ image written lists.
    absurd (not_both _ _ image written _ 1 lists
    (stopped_open _ _ _ _ _ c.lines.invariant.core c.lines.invariant.taken (sym c.is_empty.ensures ∙ c.lines-test.true)
    c.in-None.ensures.none refl))

pub returns-in-None-clause-stop : goal.returns-in-None-clause-stop
returns-in-None-clause-stop c = λ stop stops some.
    one_err c.args.core c.args.bytes.now.items (Line c.lines.assembler.line 1) stop
    (stopped_open _ _ _ _ _ c.lines.invariant.core c.lines.invariant.taken (sym c.is_empty.ensures ∙ c.lines-test.true)
    c.in-None.ensures.none refl)
    stops some

pub returns-in-Err-clause-stopped : goal.returns-in-Err-clause-stopped
returns-in-Err-clause-stopped c =
    stopped_at _ _ _ _ _ _ _ c.lines.invariant.core c.lines.invariant.taken c.in-Some.ensures.some.1 c.in-Some.ensures.some.0
    c.in-Err.ensures.takes

pub returns-in-Err-clause-image : goal.returns-in-Err-clause-image
returns-in-Err-clause-image c = λ image written lists. (
  only_memory _ _ image written _
      (stopped_at _ _ _ _ _ _ _ c.lines.invariant.core c.lines.invariant.taken c.in-Some.ensures.some.1 c.in-Some.ensures.some.0
      c.in-Err.ensures.takes) lists,
  tt,
)

pub returns-in-Err-clause-stop : goal.returns-in-Err-clause-stop
returns-in-Err-clause-stop c = λ stop stops some.
    one_err _ _ _ stop
    (stopped_at _ _ _ _ _ _ _ c.lines.invariant.core c.lines.invariant.taken c.in-Some.ensures.some.1 c.in-Some.ensures.some.0
    c.in-Err.ensures.takes)
    stops some

pub returns-clause-image : goal.returns-clause-image
returns-clause-image c = λ image written lists. (
  tt,
  lists_one_image _ _ _ image _ written
      (taken_whole _ _ _ _ c.lines.invariant.core
      (nil_from_length c.lines.rest.now (eqb-true (length c.lines.rest.now) 0 (sym c.is_empty.ensures ∙ c.lines-test.false)))
      c.lines.invariant.taken)
      lists,
)

pub returns-clause-stop : goal.returns-clause-stop
returns-clause-stop c = λ stop stops some.
    absurd (never_stops _ _ _ _ stop
    (taken_whole _ _ _ _ c.lines.invariant.core
    (nil_from_length c.lines.rest.now (eqb-true (length c.lines.rest.now) 0 (sym c.is_empty.ensures ∙ c.lines-test.false)))
    c.lines.invariant.taken)
    stops some)
