-- Operations by calls of their routines: which operations have none, and what a call finds.
use Rattle.std.proofs.Common.{◌≡◌, ℕ, ◌-◌, ◌<◌, ◌≤◌, Bool, true, false, ◌||◌, List, Option, Some, None, refl, sym, ap, ◌∙◌, subst}
use Rattle.std.proofs.Common.{arith, ℤ, ◌&&◌}
use Rattle.std.specs.Prelude.{IsSomeAnd, if◌then◌else◌, not}
use Rattle.ec_space.specs.declared.space.SpaceId.{SpaceId}
use Rattle.ec_asm.specs.declared.items.AsmItem.{AsmItem}
use Rattle.ec_asm.specs.declared.pieces.Location.{Location}
use Rattle.ec_asm.specs.View.{View}
use Rattle.ec_asm.specs.Change.{Env}
use Rattle.ec_fx.specs.declared.numbers.Mode.{Mode}
use Rattle.ec_core.specs.declared.expressions.BinOp.{BinOp}
use Rattle.ec_core.specs.declared.expressions.BinOp.TheVariants.{Div, Rem}
use Rattle.ec_core.specs.declared.expressions.UnOp.{UnOp}
use Rattle.ec_core.specs.Layout.{scalar_size}
use Rattle.ec_core.specs.Plain.{PlainType, integer, fixed, pointer, array, struct, void, PlainProgram}
use Rattle.ec_core.specs.Typing.{int, HavePointerTypes, HaveOffsetTypes, IsAdd}
use Rattle.ec_ir.specs.declared.operations.Temp.{Temp}
use Rattle.ec_ir.specs.Meaning.{Mach}
use Rattle.ec_ir.specs.Operations.{binary_op, unary_op, conversion}
use Rattle.ec_ir_known.specs.declared.known.RightNumber.{RightNumber}
use Rattle.ec_routines.specs.Routines.{CanPush}
use Rattle.ec_select_routines.specs.Codes.{unary_body, conversion_body}
use Rattle.ec_select_routines.specs.Laws.{HasWork, HasRoutine, IsOperandAt}
use Rattle.ec_select_operations.specs.declared.families.Family.{Family}
use Rattle.ec_select_operations.specs.declared.families.Family.TheVariants.{Divided}
use Rattle.ec_select_operations.specs.Code.{family_of, told_by}
use Rattle.ec_select_operations.specs.Homes.{HasHome}
use Rattle.ec_select_operations.specs.Needs.{Need, is_fixed, number_taken, takes_known}
use Rattle.ec_select_operations.specs.Routines.{HasRoutineOf, body_by, division_body}
use Rattle.ec_select_functions.specs.Covered.{IsUnary, AreConverted, IsPointerBinary, IsPointerConversion}
use Rattle.ec_select_functions.specs.Relation.{Matches}
use Rattle.ec_select_functions.proofs.FixedRuns.{as_apart, pointer_is, below_is}
use Rattle.ec_select_functions.proofs.PointerSteps.{no_count}
use Rattle.ec_select_functions.proofs.Setting.{Setting}

-- ---- operations that have no routine

-- an operator that can take two pointers is no division
apart_of_two : (op : BinOp) (same : Type 0) (signed : Bool) (n : ℕ) (P : List AsmItem → Type 0) → HavePointerTypes op same
    → IsSomeAnd (division_body (family_of op) signed n) P → ⊥
apart_of_two Div same signed n P have routine = absurd have
apart_of_two Rem same signed n P have routine = absurd have
apart_of_two op same signed n P have routine = absurd routine

-- nor is one that can take a pointer and an integer
apart_of_first : (op : BinOp) (count : PlainType) (signed : Bool) (n : ℕ) (P : List AsmItem → Type 0) → HaveOffsetTypes op count
    → IsSomeAnd (division_body (family_of op) signed n) P → ⊥
apart_of_first Div count signed n P have routine = absurd have
apart_of_first Rem count signed n P have routine = absurd have
apart_of_first op count signed n P have routine = absurd routine

apart_of_second : (op : BinOp) (signed : Bool) (n : ℕ) (P : List AsmItem → Type 0) → IsAdd op
    → IsSomeAnd (division_body (family_of op) signed n) P → ⊥
apart_of_second Div signed n P have routine = absurd have
apart_of_second Rem signed n P have routine = absurd have
apart_of_second op signed n P have routine = absurd routine

abbrev HasNone : (p : PlainProgram) (e : Env) (slots l : ℕ) → BinOp → PlainType → Mode → (t a : Temp) → PlainType → Temp → PlainType
    → Type 0
HasNone p e slots l op ty mode t a aty b bty =
    IsPointerBinary p slots op t a b ty aty bty → HasRoutineOf e l (binary_op op ty mode t a aty b bty) → ⊥

-- so an operator with a pointer has none
pub pointers_have_none : (p : PlainProgram) (e : Env) (slots l : ℕ) (op : BinOp) (ty : PlainType) (mode : Mode) (t a : Temp)
    (aty : PlainType) (b : Temp) (bty : PlainType) → IsPointerBinary p slots op t a b ty aty bty
    → HasRoutineOf e l (binary_op op ty mode t a aty b bty) → ⊥
pointers_have_none p e slots l op ty mode t a aty b bty = by_types aty bty
  where
    first : (space : SpaceId) (const : Bool) (to z : PlainType) → HasNone p e slots l op ty mode t a (pointer space const to) b z
    first space const to (pointer space2 const2 to2) k routine =
        apart_of_two op ((space ≡ space2) × (to ≡ to2) × (ty ≡ int)) false (scalar_size (pointer space const to)) (HasRoutine e l)
        k.types routine
    first space const to (integer signed bytes) k routine =
        apart_of_first op (integer signed bytes) false (scalar_size (pointer space const to)) (HasRoutine e l) k.types.0 routine
    first space const to (fixed kind saturates) k routine = absurd (no_count op (fixed kind saturates) (λ i. i) k.types.0)
    first space const to void k routine = absurd (no_count op void (λ i. i) k.types.0)
    first space const to (array of len) k routine = absurd (no_count op (array of len) (λ i. i) k.types.0)
    first space const to (struct index) k routine = absurd (no_count op (struct index) (λ i. i) k.types.0)

    by_types : (x z : PlainType) → HasNone p e slots l op ty mode t a x b z
    by_types (pointer space const to) z k routine = first space const to z k routine
    by_types (integer signed bytes) (pointer space const to) k routine =
        apart_of_second op signed bytes (HasRoutine e l) k.types.0 routine
    by_types (fixed kind saturates) (pointer space const to) k routine = absurd k.types.1
    by_types void (pointer space const to) k routine = absurd k.types.1
    by_types (array of len) (pointer space const to) k routine = absurd k.types.1
    by_types (struct index) (pointer space const to) k routine = absurd k.types.1
    by_types x z k routine = absurd (let g = k.pointer in cc)

-- nor has a conversion of a pointer
pub converted_pointers_have_none : (e : Env) (slots l : ℕ) (t : Temp) (ty : PlainType) (mode : Mode) (a : Temp) (aty : PlainType)
    → IsPointerConversion slots t a ty aty → HasRoutineOf e l (conversion t ty mode a aty) → ⊥
converted_pointers_have_none e slots l t (pointer s c u) mode a (pointer r d w) k routine = absurd routine
converted_pointers_have_none e slots l t (integer signed bytes) mode a (pointer r d w) k routine = absurd k.types
converted_pointers_have_none e slots l t (fixed kind saturates) mode a (pointer r d w) k routine = absurd k.types
converted_pointers_have_none e slots l t void mode a (pointer r d w) k routine = absurd k.types
converted_pointers_have_none e slots l t (array of len) mode a (pointer r d w) k routine = absurd k.types
converted_pointers_have_none e slots l t (struct index) mode a (pointer r d w) k routine = absurd k.types
converted_pointers_have_none e slots l t ty mode a aty k routine = absurd (let g = k.pointer in cc)

-- nor have a conversion and a unary operator of integers
pub conversions_have_none : (e : Env) (slots l : ℕ) (t : Temp) (ty : PlainType) (mode : Mode) (a : Temp) (aty : PlainType)
    → AreConverted slots t a ty aty → HasRoutineOf e l (conversion t ty mode a aty) → ⊥
conversions_have_none e slots l t ty mode a aty k routine =
    let both : (is_fixed ty || is_fixed aty) ≡ false = ap (λ x. is_fixed x || is_fixed aty) k.result_type ∙ ap is_fixed k.from_type in
    subst (λ x. IsSomeAnd (body_by x (Some (conversion_body ty aty mode)) None) (HasRoutine e l)) both routine

pub unaries_have_none : (e : Env) (slots l : ℕ) (op : UnOp) (ty : PlainType) (mode : Mode) (t a : Temp) → IsUnary slots t a ty
    → HasRoutineOf e l (unary_op op ty mode t a) → ⊥
unaries_have_none e slots l op ty mode t a k routine =
    subst (λ x. IsSomeAnd (body_by x (Some (unary_body op ty mode)) None) (HasRoutine e l)) (ap is_fixed k.result_type) routine

-- ---- divisions

-- a division takes no number
pub divided_number : (op : BinOp) (r : Bool) → family_of op ≡ Divided r → (known : Option RightNumber) → number_taken known false op ≡ None
divided_number Div r q None = refl
divided_number Div r q (Some k) = by_number k.number k.in_byte
  where
    by_number : (x : Option ℤ) (z : Bool) → (if not false && takes_known x z Div then Some k else None) ≡ None
    by_number None true = refl
    by_number None false = refl
    by_number (Some n) z = refl
divided_number Rem r q None = refl
divided_number Rem r q (Some k) = by_number k.number k.in_byte
  where
    by_number : (x : Option ℤ) (z : Bool) → (if not false && takes_known x z Rem then Some k else None) ≡ None
    by_number None true = refl
    by_number None false = refl
    by_number (Some n) z = refl
divided_number op r q known = absurd cc

-- and tells nothing
pub divided_untold : (r only apart signed : Bool) → (if only then told_by apart (Divided r) signed else None) ≡ None
divided_untold r false apart signed = refl
divided_untold r true true signed = refl
divided_untold r true false signed = refl

-- nor does an operator that leaves its result as a number
pub untold_by : (only apart : Bool) (f : Family) (signed : Bool) → apart ≡ true → (if only then told_by apart f signed else None) ≡ None
untold_by false apart f signed q = refl
untold_by true apart f signed q = ap (λ x. told_by x f signed) q

-- ---- what a call finds

module _ (p : PlainProgram) (e : Env) (slots : ℕ) (home : Temp → Location) (base : Temp → ℕ) (place : ℕ → ℕ)
    (y : Setting p e slots home base place) where
  pub has_work : HasWork e y.work
  has_work =
      let w = y.work_stands in record { high = w.high; at = λ i l. w.at i (omega arith); kind = λ i l. w.kind i (omega arith) }

  pub operand_at : (t : Temp) (n : ℕ) → HasHome slots t → t.bytes ≡ n → IsOperandAt e (home t) n (base t) y.work
  operand_at t n it same =
      subst (λ k. IsOperandAt e (home t) k (base t) y.work) same
      (record {
        some = it.some;
        most = it.most;
        stands = y.layout.temps_at t it;
        apart = as_apart (base t) t.bytes y.work 64 (y.temps_work t it);
      })

  pub can_push : (need : Need) (m : Mach) (v : View)
      → Matches p e y.inputs slots base place y.aside y.stands y.active y.called need m v → CanPush e v
  can_push need m v h =
      let pointer = pointer_is p e slots home base place y need m v h in
      let below = below_is p e slots home base place y need m v h in
      record {
        low = subst (λ (s : ℕ). 257 ≤ s) (sym pointer) y.stack_high;
        high = subst (λ (s : ℕ). s < 65536) (sym pointer) y.stack_below;
        first = ap e.kind pointer ∙ y.stacked y.stack (omega arith) (omega arith);
        second = ap e.kind below ∙ y.stacked (y.stack - 1) (omega arith) (omega arith);
      }
