use Rattle.std.proofs.Common.{◌≡◌, ◌+◌, ◌∙◌, ◌∷◌, ◌++◌, ◌==◌, [], ℕ, Bool, true, List, length, take, drop, map, not, Some, Err, refl, sym}
use Rattle.std.proofs.Common.{ap, arith, subst, inl}
use Rattle.std.proofs.lemmas.Bool.{eqb-true}
use Rattle.std.proofs.lemmas.List.{drop-drop, nil_from_length}
use Rattle.std.specs.Prelude.{slice_get, ◌||◌}
use Rattle.std.specs.List.{list_all}
use Rattle.ec_emu.specs.declared.read.ScriptStop.{ScriptStop}
use Rattle.ec_emu.specs.declared.script.ScriptLine.{ScriptLine}
use Rattle.ec_emu.specs.Forms.{Form as LineForm, form_of}
use Rattle.ec_emu.specs.Views.{form_view}
use Rattle.ec_emu.specs.Script.{AreKept, BreaksAt, Entry, entries, entry_of, forms_of, broken, is_passed}
use Rattle.ec_emu.proofs.Rules.{entries-append, begun_on, next_form, kept_on, no_break, only_stop, no_stop, first_of, all_of}
use Rattle.ec_emu.proofs.read.read_script.Goals as goal
use Rattle.ec_emu.proofs.read.read_script.Goals.{After-broken, After-lines}

-- the lines that are left
left : (c : After-broken) → drop c.lines.line (forms_of c.args.bytes.now.items)
    ≡ form_of c.first_line.result.0.now ∷ forms_of c.first_line.result.1.now
left c = c.lines.invariant.left ∙ ap (λ (ls : List (List ℕ)). map form_of ls) c.first_line.ensures.value

at : (c : After-broken)
    → slice_get (forms_of c.args.bytes.now.items) c.lines.line ≡ Some (form_of c.first_line.result.0.now)
at c = first_of (forms_of c.args.bytes.now.items) c.lines.line _ _ (left c)

-- the rule that the line breaks
rule : (c : After-broken) → c.broken.result
    ≡ broken c.args.core (take c.lines.line (forms_of c.args.bytes.now.items)) (form_of c.first_line.result.0.now)
rule c =
    c.broken.ensures (take c.lines.line (forms_of c.args.bytes.now.items))
    (ap (λ (ls : List ScriptLine). map entry_of ls) c.as_slice.ensures ∙ c.lines.invariant.listed) c.lines.invariant.begun
    ∙ ap (λ (form : LineForm). broken c.args.core (take c.lines.line (forms_of c.args.bytes.now.items)) form) c.in_ok-form.ensures

breaks : (c : After-broken) (rule_is : ℕ) → c.broken.result ≡ Some rule_is
    → BreaksAt c.args.core (forms_of c.args.bytes.now.items) (c.lines.line + 1) rule_is
breaks c rule_is is = record {
  n = c.lines.line;
  place = refl;
  before = c.lines.invariant.kept;
  form = form_of c.first_line.result.0.now;
  at = at c;
  breaks = sym (rule c) ∙ is;
}

pub lines-preserved : goal.lines-preserved
lines-preserved c =
    let s = (goal.at.lines-preserved c).After-broken in
    let forms = forms_of c.args.bytes.now.items in
    let form = form_of c.first_line.result.0.now in
    let next : take (c.lines.line + 1) forms ≡ take c.lines.line forms ++ form ∷ [] = next_form forms c.lines.line form (at s) in
    record {
      counted = omega (arith, c.first_line.ensures.shorter);
      left = sym (drop-drop 1 c.lines.line forms) ∙ ap (λ (fs : List LineForm). drop 1 fs) (left s);
      kept = kept_on c.args.core forms c.lines.line form (at s) c.lines.invariant.kept (sym (rule s) ∙ c.in-None.is);
      listed = c.in_ok-put.ensures ∙ ap (λ (es : List Entry). es ++ entries (form_view c.in_ok-form.form ∷ [])) c.lines.invariant.listed
          ∙ ap (λ (f : LineForm). entries (take c.lines.line forms) ++ entries (f ∷ [])) c.in_ok-form.ensures
          ∙ sym (entries-append (take c.lines.line forms) (form ∷ [])) ∙ ap entries (sym next);
      begun = c.begins-begun.ensures ∙ ap (λ (b : Bool). b || not (is_passed (form_view c.in_ok-form.form))) c.lines.invariant.begun
          ∙ ap (λ (f : LineForm). not (list_all is_passed (take c.lines.line forms)) || not (is_passed f)) c.in_ok-form.ensures
          ∙ sym (begun_on (take c.lines.line forms) form) ∙ ap (λ (fs : List LineForm). not (list_all is_passed fs)) (sym next);
    }

pub returns-in-Some-clause-stopped : goal.returns-in-Some-clause-stopped
returns-in-Some-clause-stopped c = breaks (goal.at.returns-in-Some-clause-stopped c).After-broken c.in-Some.rule c.in-Some.is

pub returns-in-Some-clause-script : goal.returns-in-Some-clause-script
returns-in-Some-clause-script c = λ kept.
    absurd (no_break _ _ _ _ (breaks (goal.at.returns-in-Some-clause-script c).After-broken c.in-Some.rule c.in-Some.is) kept)

pub returns-in-Some-clause-stop : goal.returns-in-Some-clause-stop
returns-in-Some-clause-stop c = λ stop stops some.
    inl (ap (λ (e : ScriptStop). Err e) (only_stop c.args.core c.args.bytes.now.items (c.lines.line + 1) c.in-Some.rule
    (breaks (goal.at.returns-in-Some-clause-stop c).After-broken c.in-Some.rule c.in-Some.is) stop stops some))

-- all lines were looked at
whole : (c : After-lines) → (length c.lines.rest.now == 0) ≡ true
    → take c.lines.line (forms_of c.args.bytes.now.items) ≡ forms_of c.args.bytes.now.items
whole c empty =
    let none : c.lines.rest.now ≡ [] = nil_from_length c.lines.rest.now (eqb-true (length c.lines.rest.now) 0 empty) in
    all_of (forms_of c.args.bytes.now.items) c.lines.line (c.lines.invariant.left ∙ ap forms_of none)

pub returns-clause-kept : goal.returns-clause-kept
returns-clause-kept c =
    subst (λ (fs : List LineForm). AreKept c.args.core fs)
    (whole (goal.at.returns-clause-kept c).After-lines (sym c.is_empty.ensures ∙ c.lines-test.false)) c.lines.invariant.kept

pub returns-clause-lines : goal.returns-clause-lines
returns-clause-lines c =
    rw c.new.ensures
    (c.lines.invariant.listed
    ∙ ap entries (whole (goal.at.returns-clause-lines c).After-lines (sym c.is_empty.ensures ∙ c.lines-test.false)))

pub returns-clause-stop : goal.returns-clause-stop
returns-clause-stop c = λ stop stops some.
    absurd (no_stop c.args.core c.args.bytes.now.items
    (subst (λ (fs : List LineForm). AreKept c.args.core fs)
    (whole (goal.at.returns-clause-stop c).After-lines (sym c.is_empty.ensures ∙ c.lines-test.false)) c.lines.invariant.kept)
    stop stops some)
