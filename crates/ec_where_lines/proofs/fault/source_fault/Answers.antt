use Rattle.std.proofs.Common.{◌≡◌, ℕ, List, [], refl, ap, arith, get_or}
use Rattle.std.specs.Prelude.{IsSomeAnd, codes, ◌==◌}
use Rattle.std.proofs.lemmas.Bool.{true≢false}
use Rattle.ec_where_lines.specs.declared.fault.Fault.{Fault}
use Rattle.ec_where_lines.specs.declared.fault.Fault.TheVariants.{Byte, Token}
use Rattle.ec_where_lines.specs.Fault.{Marks, Names, byte_words}
use Rattle.ec_where_lines.proofs.Cuts.{missed_free}
use Rattle.ec_where_lines.proofs.Lines.{one_mark}
use Rattle.ec_where_lines.proofs.fault.source_fault.Goals as goal

-- no line has both marks
apart : (line name name' words words' : List ℕ) (n n' : ℕ) → Marks (codes "byte") line name n words
    → Marks (codes "token") line name' n' words' → ⊥
apart line name name' words words' n n' m m' =
    let same = one_mark (codes "byte") (codes "token") line name name' words words' n n'
    (missed_free 32 (codes "byte") refl) (missed_free 32 (codes "token") refl) m m' in
    true≢false (ap (λ (l : List ℕ). get_or l 0 0 == 98) same)

pub returns-in-Some-clause-all : goal.returns-in-Some-clause-all
returns-in-Some-clause-all c name fault =
    elim fault as (λ f. Names c.args.line.now name f → (c.in-Some.name.now ≡ name) × (Byte c.in-Some.offset c.in-Some.fault ≡ f)) [
      | Byte n f ↦ λ m. (
          let parts = c.in-Some.ensures.all name n f m in
          let number = parts.1 in
          let what = parts.2 in
          (parts.0, cc))
      | Token k f ↦ λ m. absurd (apart c.args.line.now c.in-Some.name.now name (byte_words c.in-Some.fault) m.0 c.in-Some.offset k
          c.in-Some.ensures.found m.2)
    ]

pub returns-in_err-name-clause-all : goal.returns-in_err-name-clause-all
returns-in_err-name-clause-all c name fault =
    elim fault as (λ f. Names c.args.line.now name f → IsSomeAnd c.from_residual.result (λ x. (x.name.now ≡ name) × (x.fault ≡ f))) [
      | Byte n f ↦ λ m. absurd (c.in_default.ensures.all name n f m)
      | Token k f ↦ λ m. absurd (c.in_err-name.ensures.all name k f m)
    ]

pub returns-clause-all : goal.returns-clause-all
returns-clause-all c name fault =
    elim fault as (λ f. Names c.args.line.now name f → (c.in_ok-name.name.now ≡ name) × (Token c.in_ok-name.index c.in_ok-name.fault ≡ f)) [
      | Byte n f ↦ λ m. absurd (c.in_default.ensures.all name n f m)
      | Token k f ↦ λ m. (
          let parts = c.in_ok-name.ensures.all name k f m in
          let number = parts.1 in
          let what = parts.2 in
          (parts.0, cc))
    ]
