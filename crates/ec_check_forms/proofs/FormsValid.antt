-- Every form of valid operands is valid.
use Rattle.std.proofs.Common.{◌≡◌, ℕ, Bool, false}
use Rattle.std.specs.Prelude.{List, Option, Some, None}
use Rattle.ec_iohw.specs.declared.table.IoTable.{IoTable}
use Rattle.ec_core.specs.declared.expressions.BinOp.{BinOp}
use Rattle.ec_core.specs.ArithmeticValues.{is_comparison}
use Rattle.ec_core.specs.Laws.{TypesAreTold}
use Rattle.ec_core.specs.Plain.{PlainProgram}
use Rattle.ec_core.specs.TypeLaws.{UsualConversions}
use Rattle.ec_check_operands.specs.declared.operands.Modes.{Modes}
use Rattle.ec_check_forms.specs.Nodes.{condition, prefixed, stepped, assigned, compounded}
use Rattle.ec_check_forms.specs.Accesses.{indexed, member_of}
use Rattle.ec_check_forms.specs.Choices.{cast}
use Rattle.ec_check_operands.specs.Operands.{Operand, with_one, with_both}
use Rattle.ec_check_forms.specs.Validity.{IsOperand, IsOptional, FormsAreOperands, FormsStayValid, NamesAreValid}
use Rattle.ec_check_forms.proofs.ValidChoices.{choice_valid, names_are_operands}
use Rattle.ec_check_forms.proofs.ValidForms.{prefixed_valid, assigned_valid, stepped_valid, compounded_valid, indexed_valid}
use Rattle.ec_check_forms.proofs.ValidForms.{member_of_valid, logical_valid, sequence_valid, cast_valid}
use Rattle.ec_check_forms.proofs.ValidOperands.{passed_valid, condition_valid}
use Rattle.ec_check_forms.proofs.ValidOperations.{operated_valid}

of_one : (p : PlainProgram) (table : IoTable) (f : ℕ) (x : Option Operand) (g : Operand → Option Operand) → IsOptional p table f x
    → ((a : Operand) → IsOperand p table f a → IsOptional p table f (g a)) → IsOptional p table f (with_one x g)
of_one p table f None g v h = tt
of_one p table f (Some a) g v h = h a v

of_both : (p : PlainProgram) (table : IoTable) (f : ℕ) (x y : Option Operand) (g : Operand → Operand → Option Operand)
    → IsOptional p table f x → IsOptional p table f y
    → ((a b : Operand) → IsOperand p table f a → IsOperand p table f b → IsOptional p table f (g a b))
    → IsOptional p table f (with_both x y g)
of_both p table f None y g v w h = tt
of_both p table f (Some a) None g v w h = tt
of_both p table f (Some a) (Some b) g v w h = h a b v w

pub forms_stay_valid : TypesAreTold → UsualConversions → FormsStayValid
forms_stay_valid told usual p table f m x y v w = record {
  conditions = condition_valid p table f m x v;
  passed = λ to s u. passed_valid told p table f m to x v s u;
  operations = λ op. operated_valid told usual p table f m op x y v w;
  prefixes = λ op. of_one p table f x (prefixed m op) v (λ a h. prefixed_valid told usual p table f m op a h);
  steps = λ up prefix. of_one p table f x (stepped m up prefix) v (λ a h. stepped_valid told usual p table f m up prefix a h);
  assignments = of_both p table f x y (assigned m) v w (λ a b h k. assigned_valid told usual p table f m a b h k);
  compounds = λ op c. of_both p table f x y (compounded m op) v w (λ a b h k. compounded_valid told usual p table f m op a b c h k);
  subscripts = of_both p table f x y (indexed m) v w (λ a b h k. indexed_valid told usual p table f m a b h k);
  members = λ name arrow members. of_one p table f x (member_of m p.structs name arrow) v
      (λ a h. member_of_valid told usual p table f m name arrow a members h);
  logicals = λ both. logical_valid told usual p table f m both (condition m x) (condition m y) (condition_valid p table f m x v)
      (condition_valid p table f m y w);
  sequences = sequence_valid told usual p table f m x y v w;
  choices = λ c u. choice_valid told usual p table f m c x y u v w;
  casts = λ to u. of_one p table f x (λ a. cast m to a) v (λ a h. cast_valid told usual p table f m to a u h);
}

pub names_are_valid : NamesAreValid
names_are_valid p table f = names_are_operands p table f
