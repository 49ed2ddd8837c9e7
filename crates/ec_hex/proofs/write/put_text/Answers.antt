use Rattle.std.specs.Prelude.{Option}
use Rattle.std.proofs.lemmas.Bool.{false≢true}
use Rattle.std.proofs.Common.{◌≡◌, ◌+◌, ◌-◌, ◌≤◌, ◌<◌, max, ◌++◌, ℕ, suc, List, Bool, [], length, length-drop, drop, ap, sym, ◌∙◌, subst, arith}
use Rattle.std.proofs.Common.{append-nil, refl}
use Rattle.std.proofs.lemmas.List.{drop-drop, drop_all}
use Rattle.ec_hex.specs.Text.{contents, hex_text, more_at, record_line, run, text_from}
use Rattle.ec_hex.specs.Steps.{run_lines, base_behind}
use Rattle.ec_hex.specs.declared.line.RecordType.TheVariants.{EndOfFile}
use Rattle.ec_hex.proofs.Runs.{front, length-contents, length-run, length-run_lines, length-run_within, text_from-step}
use Rattle.ec_hex.proofs.Sending.{Sent, sent-on, sent-fits, sent-front, sent-all, sent-length}
use Rattle.ec_hex.proofs.write.put_text.Goals as goal

-- what is left at an address below the end of flash: the line of the run there, and the text behind it
at_run : (old now : Option (List ℕ)) (done base at : ℕ) (bytes : List ℕ) (written : List Bool) (here whole : List ℕ)
    → at < length bytes → length written ≡ length bytes → here ≡ front at (drop at (contents bytes written))
    → Sent old now done (text_from base at 0 (drop at (contents bytes written))) whole
    → Sent old now done
    (run_lines base at here ++ text_from (base_behind base at here) (at + max (length here) 1) 0
    (drop (at + max (length here) 1) (contents bytes written))) whole
at_run old now done base at bytes written here whole below same is sent =
    let cells : List (Option ℕ) = drop at (contents bytes written) in
    record {
      out = sent.out;
      split =
          sent.split
          ∙ text_from-step base at cells (omega (arith, length-drop at (contents bytes written), length-contents bytes written same))
          ∙ ap (λ (f : List ℕ).
          run_lines base at f ++ text_from (base_behind base at f) (at + max (length f) 1) 0 (drop (max (length f) 1) cells)) (sym is)
          ∙ ap (λ (rest : List (Option ℕ)).
          run_lines base at here ++ text_from (base_behind base at here) (at + max (length here) 1) 0 rest)
          (drop-drop (max (length here) 1) at (contents bytes written));
    }

-- at the end of flash the end record is left
at_end : (old now : Option (List ℕ)) (done base at : ℕ) (bytes : List ℕ) (written : List Bool) (line whole : List ℕ)
    → length bytes ≤ at → length written ≡ length bytes → line ≡ record_line EndOfFile 0 []
    → Sent old now done (text_from base at 0 (drop at (contents bytes written))) whole → Sent old now done (line ++ []) whole
at_end old now done base at bytes written line whole past same is sent = record {
  out = sent.out;
  split = sent.split
      ∙ ap (λ (cells : List (Option ℕ)). text_from base at 0 cells)
      (drop_all at (contents bytes written) (omega (arith, length-contents bytes written same)))
      ∙ sym (append-nil line ∙ is);
}

less_twice : (a b c d : ℕ) → d ≡ b + c → a - b - c ≡ a - d
less_twice a b c d e = omega arith

pub put_run-requires-clause-short : goal.put_run-requires-clause-short
put_run-requires-clause-short g c =
    omega (
      arith,
      ap length c.run_at-run.ensures,
      length-run (suc (more_at c.runs.at)) (drop c.runs.at (contents c.args.bytes.now c.args.written.now)),
    )

pub runs-preserved : goal.runs-preserved
runs-preserved g c =
    let i = c.runs.invariant in
    let at : ℕ = c.runs.at in
    let cells : List (Option ℕ) = drop at (contents c.args.bytes.now c.args.written.now) in
    let here : List ℕ = c.run_at-run.result.now in
    let most : ℕ = suc (more_at at) in
    let before =
    at_run _ _ _ c.runs.base at c.args.bytes.now c.args.written.now here _ c.runs-test.true c.requires.flagged c.run_at-run.ensures i.sent in
    let went = c.in-Ok.ensures.written in
    let short : length here ≤ 16 = omega (arith, ap length c.run_at-run.ensures, length-run most cells) in
    let inside : length here ≤ length cells = omega (arith, ap length c.run_at-run.ensures, length-run_within most cells) in
    record {
      within = omega (
        arith,
        c.max-at.ensures,
        inside,
        c.runs-test.true,
        length-drop at (contents c.args.bytes.now c.args.written.now),
        length-contents c.args.bytes.now c.args.written.now c.requires.flagged,
      );
      few = omega (arith, c.max-at.ensures, went.0, i.few, length-run_lines c.runs.base at here short);
      sent = rw (went.0, c.max-at.ensures, c.base_behind-base.ensures) (sent-on _ _ _ _ _ _ _ before went.1);
      rest = c.put_run.ensures.rest ∙ i.rest;
      later = omega (arith, i.later, c.put_run.ensures.cause.later);
      calm = λ room calm fits.
          let so_far = i.calm room calm fits in
          let after = c.in-Ok.ensures.calm (room - c.runs.done) so_far.1 (sent-fits _ _ _ room _ _ _ before fits) in (
            after.0.same ∙ so_far.0,
            subst (λ left. g.O.Sink.calm c.put_run.new.sink left)
                (less_twice room c.runs.done (length (run_lines c.runs.base at here)) c.in-Ok.after went.0) after.1,
          );
    }

pub returns-in-Err-clause-written : goal.returns-in-Err-clause-written
returns-in-Err-clause-written g c =
    let before = at_run _ _ _ c.runs.base c.runs.at c.args.bytes.now c.args.written.now _ _ c.runs-test.true c.requires.flagged c.run_at-run.ensures
    c.runs.invariant.sent in
    let went = c.in-Err.ensures.written in
    rw went.1 (sent-front _ _ _ _ went.0 _ _ _ before went.2 went.3)

pub returns-in-Err-clause-calm : goal.returns-in-Err-clause-calm
returns-in-Err-clause-calm g c = λ room calm fits.
    let before = at_run _ _ _ c.runs.base c.runs.at c.args.bytes.now c.args.written.now _ _ c.runs-test.true c.requires.flagged c.run_at-run.ensures
    c.runs.invariant.sent in
    absurd (false≢true
    (c.in-Err.ensures.calm (room - c.runs.done) (c.runs.invariant.calm room calm fits).1 (sent-fits _ _ _ room _ _ _ before fits)).0.ok)

pub returns-in-Ok-put_line-clause-written : goal.returns-in-Ok-put_line-clause-written
returns-in-Ok-put_line-clause-written g c =
    let before = at_end _ _ _ c.runs.base c.runs.at c.args.bytes.now c.args.written.now _ _ c.runs-test.false c.requires.flagged
    (c.as_slice.ensures ∙ c.record_line-line.ensures) c.runs.invariant.sent in
    sent-all _ _ _ _ (sent-on _ _ _ _ _ _ _ before c.in-Ok-put_line.ensures.written.1)

pub returns-in-Ok-put_line-clause-calm : goal.returns-in-Ok-put_line-clause-calm
returns-in-Ok-put_line-clause-calm g c = λ room calm fits.
    let before = at_end _ _ _ c.runs.base c.runs.at c.args.bytes.now c.args.written.now _ _ c.runs-test.false c.requires.flagged
    (c.as_slice.ensures ∙ c.record_line-line.ensures) c.runs.invariant.sent in
    let so_far = c.runs.invariant.calm room calm fits in
    let after = c.in-Ok-put_line.ensures.calm (room - c.runs.done) so_far.1 (sent-fits _ _ _ room _ _ _ before fits) in (
      record { ok = refl; same = after.0.same ∙ so_far.0 },
      subst (λ left. g.O.Sink.calm c.put_line.new.sink left)
          (less_twice room c.runs.done (length c.as_slice.result.now) (length (hex_text c.args.bytes.now c.args.written.now))
          (sent-length _ _ _ _ _ before (omega (arith, ap length (c.as_slice.ensures ∙ c.record_line-line.ensures))))) after.1,
    )

pub returns-in-Err-put_line-clause-written : goal.returns-in-Err-put_line-clause-written
returns-in-Err-put_line-clause-written g c =
    let before = at_end _ _ _ c.runs.base c.runs.at c.args.bytes.now c.args.written.now _ _ c.runs-test.false c.requires.flagged
    (c.as_slice.ensures ∙ c.record_line-line.ensures) c.runs.invariant.sent in
    let went = c.in-Err-put_line.ensures.written in
    rw went.1 (sent-front _ _ _ _ went.0 _ _ _ before went.2 went.3)

pub returns-in-Err-put_line-clause-calm : goal.returns-in-Err-put_line-clause-calm
returns-in-Err-put_line-clause-calm g c = λ room calm fits.
    let before = at_end _ _ _ c.runs.base c.runs.at c.args.bytes.now c.args.written.now _ _ c.runs-test.false c.requires.flagged
    (c.as_slice.ensures ∙ c.record_line-line.ensures) c.runs.invariant.sent in
    absurd (false≢true (c.in-Err-put_line.ensures.calm (room - c.runs.done) (c.runs.invariant.calm room calm fits).1
    (sent-fits _ _ _ room _ _ _ before fits)).0.ok)
