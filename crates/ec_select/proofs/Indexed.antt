-- Pointers that are moved by an index which is told, and loads that tell it.
use Rattle.std.proofs.Common.{◌≡◌, ◌⊎◌, ℕ, zero, suc, ◌+◌, ◌*◌, ◌≤◌, Bool, true, false, not, List, [], ◌∷◌, refl, sym, ap, ◌∙◌}
use Rattle.std.proofs.Common.{arith, inl, inr, leb-true}
use Rattle.std.specs.Prelude.{◌&&◌, ◌||◌, Option, Some, None}
use Rattle.std.proofs.lemmas.Bool.{and_parts, false≢true}
use Rattle.ec_space.specs.declared.Core.{Core}
use Rattle.ec_space.specs.declared.Core.TheVariants.{Small, Large}
use Rattle.ec_space.specs.declared.space.Home.{Home}
use Rattle.ec_space.specs.declared.space.Home.TheVariants.{Flash as FlashHome, Far as FarHome, Data as DataHome}
use Rattle.ec_asm.specs.declared.items.AsmItem.{AsmItem}
use Rattle.ec_asm.specs.Items.{code_words}
use Rattle.ec_asm.specs.Valid.{Sizes}
use Rattle.ec_core.specs.declared.expressions.BinOp.{BinOp}
use Rattle.ec_core.specs.Plain.{PlainType, void, integer, fixed, pointer, array, struct, PlainObject, PlainProgram}
use Rattle.ec_core_shapes.specs.Shapes.{Shape}
use Rattle.ec_fx.specs.declared.numbers.Mode.{Mode}
use Rattle.ec_ir.specs.declared.operations.Temp.{Temp}
use Rattle.ec_ir.specs.Operations.{binary_op}
use Rattle.ec_ir_shapes.specs.Costs.{op_shapes}
use Rattle.ec_select_places.specs.Steps.{z_pair}
use Rattle.ec_select_operations.specs.declared.families.Told.{Told}
use Rattle.ec_select_operations.specs.declared.families.Told.TheVariants.{Operands, InZ, Index}
use Rattle.ec_select_operations.specs.Code.{family_of, by_kind, is_index, load_index_code}
use Rattle.ec_select_operations.specs.Needs.{is_whole, is_sum_or_difference, moves_pointer}
use Rattle.ec_select_operations.specs.Places.{object_location}
use Rattle.ec_select_operations.specs.Pointers.{is_pointer}
use Rattle.ec_select_functions.specs.Covered.{IsBinary, IsFixedBinary, IsPointerBinary}
use Rattle.ec_select_functions.proofs.Taken.{fixed_unmoved}
use Rattle.ec_select.proofs.Fitting.{Fit}
use Rattle.ec_select.proofs.PointerTypes.{no_pointer}
use Rattle.ec_select.proofs.Words.{copy_words_most}

-- an index has one byte or two
pub index_few : (told : Option Told) (n : ℕ) → is_index told n ≡ true → n ≤ 2
index_few (Some Index) n q = leb-true n 2 q
index_few (Some (Operands r signed)) n q = absurd (false≢true q)
index_few (Some (InZ offset)) n q = absurd (false≢true q)
index_few None n q = absurd (false≢true q)

-- what moves a pointer has one operand that is a pointer, the first one
not_whole : (x : PlainType) → not (is_whole x) ≡ true → is_pointer x ≡ false
not_whole (pointer space const to) q = absurd (false≢true q)
not_whole (integer signed bytes) q = refl
not_whole (fixed kind saturates) q = refl
not_whole void q = refl
not_whole (array of len) q = refl
not_whole (struct index) q = refl

pub first_moved : (op : BinOp) (aty bty : PlainType) → moves_pointer op aty bty ≡ true → is_pointer aty ≡ true
first_moved op aty bty q = (and_parts (is_pointer aty) (not (is_whole bty) && is_sum_or_difference op) q).0

pub second_moved : (op : BinOp) (aty bty : PlainType) → moves_pointer op aty bty ≡ true → is_pointer bty ≡ false
second_moved op aty bty q =
    let parts = and_parts (is_pointer aty) (not (is_whole bty) && is_sum_or_difference op) q in
    not_whole bty (and_parts (not (is_whole bty)) (is_sum_or_difference op) parts.1).0

-- and is no operator on others
pub moves_pointers : (p : PlainProgram) (slots : ℕ) (op : BinOp) (to a b : Temp) (ty aty bty : PlainType)
    → IsBinary (family_of op) slots to a b ty aty bty
    ⊎ (IsFixedBinary slots op to a b ty aty bty ⊎ IsPointerBinary p slots op to a b ty aty bty)
    → moves_pointer op aty bty ≡ true → IsPointerBinary p slots op to a b ty aty bty
moves_pointers p slots op to a b ty aty bty (inl i) q =
    absurd (false≢true (sym (no_pointer (family_of op) slots to a b ty aty bty i)
    ∙ ap (λ x. x || is_pointer bty) (first_moved op aty bty q)))
moves_pointers p slots op to a b ty aty bty (inr (inl i)) q =
    absurd (false≢true (sym (fixed_unmoved op aty bty i.types.fixed) ∙ q))
moves_pointers p slots op to a b ty aty bty (inr (inr i)) q = i

-- its code may not stand once
pub moved_shape : (p : PlainProgram) (slots : ℕ) (op : BinOp) (mode : Mode) (to a b : Temp) (ty aty bty : PlainType) (s : Shape)
    → IsPointerBinary p slots op to a b ty aty bty → moves_pointer op aty bty ≡ true
    → op_shapes (binary_op op ty mode to a aty b bty) ≡ s ∷ [] → ⊥
moved_shape p slots op mode to a b ty aty bty s i = by_types aty bty i
  where
    Shown : (aty bty : PlainType) → Type 0
    Shown aty bty =
        IsPointerBinary p slots op to a b ty aty bty → moves_pointer op aty bty ≡ true
        → op_shapes (binary_op op ty mode to a aty b bty) ≡ s ∷ [] → ⊥

    none : (ty aty bty : PlainType) → ty ≡ aty → op_shapes (binary_op op aty mode to a aty b bty) ≡ []
        → op_shapes (binary_op op ty mode to a aty b bty) ≡ s ∷ [] → ⊥
    none ty aty bty same empty e =
        let own : [] ≡ s ∷ [] = sym empty ∙ ap (λ z. op_shapes (binary_op op z mode to a aty b bty)) (sym same) ∙ e in
        cc

    by_types : (x z : PlainType) → Shown x z
    by_types (pointer space const to1) (integer signed bytes) i q e =
        none ty (pointer space const to1) (integer signed bytes) i.types.1 refl e
    by_types (pointer space const to1) void i q e = none ty (pointer space const to1) void i.types.1 refl e
    by_types (pointer space const to1) (array of len) i q e = none ty (pointer space const to1) (array of len) i.types.1 refl e
    by_types (pointer space const to1) (struct index) i q e = none ty (pointer space const to1) (struct index) i.types.1 refl e
    by_types (pointer space const to1) (fixed kind saturates) i q e = absurd cc
    by_types (pointer space const to1) (pointer space2 const2 to2) i q e = absurd cc
    by_types x z i q e = absurd cc

-- ---- code of one kind or of another one

pub kind_words : (k : Bool) (a b : List AsmItem) (most : ℕ) → (k ≡ true → code_words a ≤ most) → code_words b ≤ most
    → code_words (by_kind k a b) ≤ most
kind_words true a b most f h = f refl
kind_words false a b most f h = h

pub kind_fits : (sizes : Sizes) (k : Bool) (a b : List AsmItem) → (k ≡ true → Fit sizes a) → Fit sizes b → Fit sizes (by_kind k a b)
kind_fits sizes true a b f h = f refl
kind_fits sizes false a b f h = h

-- an index that is loaded
pub index_most : (core : Core) (kept : Home) (objects : List PlainObject) (o offset n : ℕ) → 1 ≤ n → n ≤ 2
    → code_words (load_index_code core kept objects o offset n) ≤ 2 + 5 * n
index_most core DataHome objects o offset n some few =
    let x = copy_words_most (object_location objects o offset) z_pair n in omega (arith, x)
index_most core FlashHome objects o offset (suc zero) some few = omega arith
index_most core FlashHome objects o offset (suc (suc zero)) some few = omega arith
index_most Small FarHome objects o offset (suc zero) some few = omega arith
index_most Small FarHome objects o offset (suc (suc zero)) some few = omega arith
index_most Large FarHome objects o offset (suc zero) some few = omega arith
index_most Large FarHome objects o offset (suc (suc zero)) some few = omega arith
index_most core kept objects o offset zero some few = absurd (omega arith)
index_most core kept objects o offset (suc (suc (suc n))) some few = absurd (omega arith)
