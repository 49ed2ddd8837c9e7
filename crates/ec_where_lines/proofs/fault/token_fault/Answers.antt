use Rattle.std.proofs.Common.{◌≡◌, ℕ, List, sym, ap, ◌∙◌, get_or}
use Rattle.std.specs.Prelude.{Bool, Option, Some, None, IfSome, bytes_eq, codes, ◌==◌, drop}
use Rattle.std.specs.Option.{option_or}
use Rattle.std.proofs.lemmas.Bool.{both_ways, true≢false}
use Rattle.std.proofs.lemmas.Slice.Eq.{bytes_eq-Decides}
use Rattle.ec_where_lines.specs.declared.fault.TokenFault.{TokenFault}
use Rattle.ec_where_lines.specs.declared.fault.TokenFault.TheVariants.{Syntax, Constraint, Uncounted, Undefined}
use Rattle.ec_where_lines.specs.Parts.{number_of}
use Rattle.ec_where_lines.specs.Fault.{AreTokenWords}
use Rattle.ec_where_lines.proofs.fault.token_fault.Goals as goal

abbrev begins_u : List ℕ → Bool
begins_u l = get_or l 0 0 == 117

one_number : (ds es : List ℕ) (n m : ℕ) → ds ≡ es → number_of ds ≡ Some n → number_of es ≡ Some m → n ≡ m
one_number ds es n m same a b = (
    let both : Some n ≡ Some m = sym a ∙ ap number_of same ∙ b in
    cc)

-- words that tell an undefined point tell nothing else
only_undefined : (words : List ℕ) (point : ℕ) (f : TokenFault) → AreTokenWords words f → AreTokenWords words (Undefined point)
    → f ≡ Undefined point
only_undefined words point Syntax g h = absurd (true≢false (sym (ap begins_u (sym g ∙ h.4))))
only_undefined words point (Constraint rule) g h = absurd (true≢false (sym (ap begins_u (sym g.4 ∙ h.4))))
only_undefined words point Uncounted g h = absurd (true≢false (sym (ap begins_u (sym g ∙ h.4))))
only_undefined words point (Undefined other) g h =
    ap Undefined (one_number g.0 h.0 other point (ap (drop 10) (sym g.4 ∙ h.4)) g.1 h.1)

or_undefined : (words : List ℕ) (point : ℕ) (a b : Option TokenFault) → IfSome a (AreTokenWords words)
    → AreTokenWords words (Undefined point) → b ≡ Some (Undefined point) → option_or a b ≡ Some (Undefined point)
or_undefined words point None b found h e = e
or_undefined words point (Some f) b found h e = ap Some (only_undefined words point f found h)

pub returns-else-eq-2-clause-all : goal.returns-else-eq-2-clause-all
returns-else-eq-2-clause-all c fault =
    elim fault as (λ f. AreTokenWords c.args.words.now f → c.or.result ≡ Some f) [
      | Syntax ↦ λ h. absurd (both_ways (bytes_eq c.args.words.now (codes "syntax")) (sym c.if-eq.ensures)
          ((bytes_eq-Decides c.args.words.now (codes "syntax")).1 h))
      | Constraint rule ↦ λ h. c.or.ensures ∙ ap (λ o. option_or o c.undefined.result) (c.constraint.ensures.all rule h)
      | Uncounted ↦ λ h. absurd (both_ways (bytes_eq c.args.words.now (codes "loop not counted")) (sym c.if-eq-2.ensures)
          ((bytes_eq-Decides c.args.words.now (codes "loop not counted")).1 h))
      | Undefined point ↦ λ h. c.or.ensures ∙ or_undefined c.args.words.now point c.constraint.result c.undefined.result
          c.constraint.ensures.found h (c.undefined.ensures.all point h)
    ]
