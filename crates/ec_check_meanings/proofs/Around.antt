-- Nothing around a part without a meaning has one.
use Rattle.std.proofs.Common.{◌≡◌, List}
use Rattle.ec_grammar.specs.declared.Operation.TheVariants as operations
use Rattle.ec_grammar.specs.declared.token.GroupOp.TheVariants as groups
use Rattle.ec_core.specs.Laws.{TypesAreTold}
use Rattle.ec_core.specs.Plain.{PlainType, PlainExpr}
use Rattle.ec_check_operands.specs.Operands.{Operand}
use Rattle.ec_check_expressions.specs.Known.{Known}
use Rattle.ec_check_meanings.specs.Laws.{BrokenPartsBreakAll}
use Rattle.ec_check_meanings.specs.Means.{Means, Uses, not_void, AreBrought}
use Rattle.ec_check_meanings.specs.Parts as p
use Rattle.ec_check_meanings.specs.Parts.{IsAmong, IsPart}
use Rattle.ec_check_meanings.specs.Terms as term
use Rattle.ec_check_meanings.proofs.Meanings.{shown}
use Rattle.ec_check_meanings.proofs.Parts.{more_in}

module _ (told : TypesAreTold) (k : Known) where
  abbrev HasMeaning : term.Term → Type 0
  HasMeaning x = (a : Operand) × Means k x a

  of_use : (x : term.Term) (a : Operand) → Uses k x a → HasMeaning x
  of_use x a (not_void h n) = (a, h)

  of_argument : (x : term.Term) (ys : term.Terms) → IsAmong x ys → (tys : List PlainType) (es : List PlainExpr) → AreBrought k tys ys es
      → HasMeaning x
  of_argument x _ (p.here {ys = ys}) tys es b = let g = more_in k x ys tys es b in of_use x g.operand g.uses
  of_argument x _ (p.later {y = y} {ys = ys} i) tys es b =
      let g = more_in k y ys tys es b in of_argument x ys i g.others g.rest g.brought

  no_argument : (x : term.Term) (ys : term.Terms) → IsAmong x ys → ys ≡ term.no_terms → ⊥
  no_argument x _ (p.here {ys = ys}) q = let z : term.terms x ys ≡ term.no_terms = q in cc
  no_argument x _ (p.later {y = y} {ys = ys} i) q = let z : term.terms y ys ≡ term.no_terms = q in cc

  of_part : (x y : term.Term) → IsPart x y → (o : Operand) → Means k y o → HasMeaning x
  of_part x _ (p.in_parentheses {at = at}) o h = (o, shown told k (term.parenthesised at x) o h)
  of_part x _ (p.operand {at = at} {op = operations.Port op} {n = n} {ys = ys} v i) o h =
      let s = shown told k (term.operation at (operations.Port op) n ys) o h in of_argument x ys i s.tys s.es s.brought
  of_part x _ (p.operand {at = at} {op = operations.Group groups.Acquire} {n = n} {ys = ys} v i) o h =
      let s = shown told k (term.operation at (operations.Group groups.Acquire) n ys) o h in absurd (no_argument x ys i s.none)
  of_part x _ (p.operand {at = at} {op = operations.Group groups.Release} {n = n} {ys = ys} v i) o h =
      let s = shown told k (term.operation at (operations.Group groups.Release) n ys) o h in absurd (no_argument x ys i s.none)
  of_part x _ (p.operand {op = operations.Group groups.Map} v i) o h = absurd v
  of_part x _ (p.before_index {at = at} {y = y}) o h = let s = shown told k (term.index x at y) o h in of_use x s.0 s.2
  of_part x _ (p.in_index {at = at} {y = y}) o h = let s = shown told k (term.index y at x) o h in of_use x s.1 s.3
  of_part x _ (p.argument {at = at} {y = y} {ys = ys} i) o h =
      let s = shown told k (term.call y at ys) o h in of_argument x ys i s.params s.es s.brought
  of_part x _ (p.before_member {at = at} {name_at = name_at} {arrow = arrow} {n = n}) o h =
      let s = shown told k (term.member x at arrow name_at n) o h in of_use x s.0 s.1
  of_part x _ (p.before_step {at = at} {up = up}) o h = let s = shown told k (term.stepped x at up) o h in of_use x s.0 s.1
  of_part x _ (p.behind_step {at = at} {up = up}) o h = let s = shown told k (term.step at up x) o h in of_use x s.0 s.1
  of_part x _ (p.behind_prefix {at = at} {op = op}) o h = let s = shown told k (term.prefixed at op x) o h in of_use x s.0 s.1
  of_part x _ (p.behind_cast {at = at} {n = n}) o h = let s = shown told k (term.cast at n x) o h in of_use x s.2.0 s.2.1
  of_part x _ (p.left_operand {at = at} {op = op} {y = y}) o h = let s = shown told k (term.binary x at op y) o h in of_use x s.0 s.2
  of_part x _ (p.right_operand {at = at} {op = op} {y = y}) o h = let s = shown told k (term.binary y at op x) o h in of_use x s.1 s.3
  of_part x _ (p.left_condition {at = at} {both = both} {y = y}) o h =
      let s = shown told k (term.logical x at both y) o h in of_use x s.0 s.2
  of_part x _ (p.right_condition {at = at} {both = both} {y = y}) o h =
      let s = shown told k (term.logical y at both x) o h in of_use x s.1 s.3
  of_part x _ (p.condition {at = at} {y = y} {z = z}) o h = let s = shown told k (term.choice x at y z) o h in of_use x s.0 s.3
  of_part x _ (p.first_branch {at = at} {y = y} {z = z}) o h = let s = shown told k (term.choice y at x z) o h in (s.1, s.4)
  of_part x _ (p.second_branch {at = at} {y = y} {z = z}) o h = let s = shown told k (term.choice y at z x) o h in (s.2, s.5)
  of_part x _ (p.assigned_place {at = at} {y = y}) o h = let s = shown told k (term.assign x at y) o h in of_use x s.0 s.2
  of_part x _ (p.assigned_value {at = at} {y = y}) o h = let s = shown told k (term.assign y at x) o h in of_use x s.1 s.3
  of_part x _ (p.changed_place {at = at} {op = op} {y = y}) o h = let s = shown told k (term.compound x at op y) o h in of_use x s.0 s.2
  of_part x _ (p.changing_value {at = at} {op = op} {y = y}) o h = let s = shown told k (term.compound y at op x) o h in of_use x s.1 s.3
  of_part x _ (p.before_comma {at = at} {y = y}) o h = let s = shown told k (term.comma x at y) o h in of_use x s.0 s.2
  of_part x _ (p.behind_comma {at = at} {y = y}) o h = let s = shown told k (term.comma y at x) o h in of_use x s.1 s.3

pub broken_parts_break_all : TypesAreTold → BrokenPartsBreakAll
broken_parts_break_all told k x y part none o h = let g = of_part told k x y part o h in none g.0 g.1
