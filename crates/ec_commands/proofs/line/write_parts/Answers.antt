use Rattle.std.proofs.Common.{true, false, ◌≡◌, ◌+◌, ◌-◌, ◌∙◌, ◌≤◌, ℕ, ◌<◌, List, length, take, ap, sym, subst, refl, arith}
use Rattle.std.specs.Prelude.{flat_map, get_or}
use Rattle.std.specs.Io.KnownBytes.{Appends}
use Rattle.std.proofs.lemmas.List.{length-append, take_all}
use Rattle.std.proofs.lemmas.List.Folds.{length-flat_map-take}
use Rattle.ec_commands.specs.declared.line.Part.{Part}
use Rattle.ec_commands.specs.Lines.{bytes_of, line}
use Rattle.ec_commands.proofs.Lines.{appends_both, line_is_flat, blank, line_more, begins_line}
use Rattle.ec_commands.proofs.line.write_parts.Goals as goal

less_twice : (a b c : ℕ) → a - b - c ≡ a - (b + c)
less_twice a b c = omega arith

taken : (parts : List Part) (n : ℕ) → n < length parts
    → length (flat_map bytes_of (take (n + 1) parts)) ≡ length (flat_map bytes_of (take n parts)) + length (bytes_of (get_or parts n blank))
taken parts n inside = ap length (line_more parts n inside)
    ∙ length-append (flat_map bytes_of (take n parts)) (bytes_of (get_or parts n blank))

pub loop-part-preserved : goal.loop-part-preserved
loop-part-preserved g c =
    let i = c.loop-part.invariant in
    let w = c.write_part.ensures in
    let parts = c.args.parts.now in
    let n = c.loop-part.part-index in
    let before : ℕ = length (flat_map bytes_of (take n parts)) in
    let part : ℕ = length (bytes_of (get_or parts n blank)) in
    record {
      written = subst (λ xs. Appends (g.O.Sink.written c.args.out.now) (g.O.Sink.written c.write_part.new.out) xs)
          (sym (line_more parts n c.loop-part-test.true)) (appends_both _ _ _ _ _ i.written c.in-Ok.ensures.written);
      rest = w.rest ∙ i.rest;
      later = omega (arith, i.later, w.cause.later);
      calm = λ room calm fits.
          let so_far = i.calm room calm fits in
          let inside = length-flat_map-take bytes_of parts n blank c.loop-part-test.true in
          let after = w.calm (room - before) so_far.1 (omega (arith, inside, fits)) in (
            after.0.same ∙ so_far.0,
            subst (λ left. g.O.Sink.calm c.write_part.new.out left)
                (less_twice room before part ∙ ap (λ (l : ℕ). room - l) (sym (taken parts n c.loop-part-test.true))) after.1,
          );
    }

pub returns-in-Err-clause-written : goal.returns-in-Err-clause-written
returns-in-Err-clause-written g c =
    begins_line _ _ _ c.args.parts.now c.loop-part.part-index _ c.loop-part-test.true c.loop-part.invariant.written
    c.in-Err.ensures.written.1

no_ok : {A : Type 0} → false ≡ true → A
no_ok e = cc

pub returns-in-Err-clause-calm : goal.returns-in-Err-clause-calm
returns-in-Err-clause-calm g c room calm fits =
    let parts = c.args.parts.now in
    let n = c.loop-part.part-index in
    let whole : length (flat_map bytes_of parts) ≤ room = subst (λ (l : List ℕ). length l ≤ room) (line_is_flat parts) fits in
    let so_far = c.loop-part.invariant.calm room calm whole in
    let inside = length-flat_map-take bytes_of parts n blank c.loop-part-test.true in
    no_ok (c.in-Err.ensures.calm (room - length (flat_map bytes_of (take n parts))) so_far.1 (omega (arith, inside, whole))).0.ok

all_taken : (parts : List Part) (n : ℕ) → length parts ≤ n → flat_map bytes_of (take n parts) ≡ line parts
all_taken parts n over = ap (flat_map bytes_of) (take_all n parts over) ∙ sym (line_is_flat parts)

pub returns-clause-written : goal.returns-clause-written
returns-clause-written g c =
    subst (λ xs. Appends (g.O.Sink.written c.args.out.now) (g.O.Sink.written c.loop-part.out) xs)
    (all_taken c.args.parts.now c.loop-part.part-index (omega (arith, c.loop-part-test.false))) c.loop-part.invariant.written

pub returns-clause-calm : goal.returns-clause-calm
returns-clause-calm g c room calm fits =
    let whole : length (flat_map bytes_of c.args.parts.now) ≤ room =
    subst (λ (l : List ℕ). length l ≤ room) (line_is_flat c.args.parts.now) fits in
    record { ok = refl; same = (c.loop-part.invariant.calm room calm whole).0 }
