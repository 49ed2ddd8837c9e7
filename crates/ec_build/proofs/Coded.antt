-- The code of a program that was lowered and selected.
use Rattle.std.proofs.Common.{◌≡◌, ℕ, ◌+◌, ◌<◌, ◌≤◌, ◌^◌, true, List, [], ◌∷◌, length, map, refl, sym, ap, ◌∙◌, subst, arith}
use Rattle.std.specs.List.{list_all}
use Rattle.std.proofs.lemmas.Bool.{eq-eqb}
use Rattle.ec_space.specs.declared.Core.{Core}
use Rattle.ec_iohw.specs.declared.table.IoTable.{IoTable}
use Rattle.ec_asm.specs.Items.{code_words}
use Rattle.ec_asm.specs.Valid.{sizes_of, is_valid_item, used_label, stands_once, is_placed, ValidAsm}
use Rattle.ec_asm.specs.declared.items.AsmItem.TheVariants.{Label}
use Rattle.ec_asm.specs.declared.items.AsmProgram.{AsmProgram}
use Rattle.ec_asm_based.specs.declared.reach.Reach.{Reach}
use Rattle.ec_core.specs.Needs.{stmt_need}
use Rattle.ec_core.specs.Plain.{PlainFunction, PlainProgram}
use Rattle.ec_core.specs.PortTable.{PlainTable, plain_table}
use Rattle.ec_core.specs.Valid.{Valid}
use Rattle.ec_core.specs.Weight.{objects_weight}
use Rattle.ec_core.specs.Words.{program_words}
use Rattle.ec_ir_shapes.specs.Costs.{functions_words_by_shapes}
use Rattle.ec_ir.specs.Operations.{PlainIrProgram}
use Rattle.ec_lower_code.specs.Code.{lowered, lowered_function}
use Rattle.ec_lower_shapes.specs.Laws.{CountsByShapes}
use Rattle.ec_lower_code.specs.Correct.{GroupsHaveBytes, IsMadeOf}
use Rattle.ec_build_laws.specs.Laws.{LoweredProgramsHaveCode}
use Rattle.ec_build_laws.specs.Shortened.{IsShortened, ShortenedIsValid}
use Rattle.ec_locate.specs.Entries.{work_size}
use Rattle.ec_locate.specs.Placing.{object_sizes as placed_sizes, scratch_needs}
use Rattle.ec_select.specs.InPlace.{AreInPlace}
use Rattle.ec_select.specs.Laws.{object_sizes, CanBePlaced}
use Rattle.ec_select.specs.Selected.{IsSelection}
use Rattle.ec_build.specs.Code.{IsCodeOf, IsShortCodeOf, IsOutlineOf}

-- the places of temporaries are those that the expressions need
slots_are : (p : PlainProgram) (table : PlainTable) (fs : List PlainFunction)
    → map (λ g. g.slots) (map (lowered_function p table) fs) ≡ map (λ f. stmt_need f.body) fs
slots_are p table [] = refl
slots_are p table (f ∷ fs) = ap (λ slots. stmt_need f.body ∷ slots) (slots_are p table fs)

-- one label stands once
stands_alone : (l : ℕ) → stands_once (Label l ∷ []) l ≡ true
stands_alone l = rw (eq-eqb l l refl) refl

-- what a selection of the operations is for the program
coded : (core : Core) (p : PlainProgram) (io : IoTable) (asm : AsmProgram) → LoweredProgramsHaveCode → Valid p io → GroupsHaveBytes io
    → IsMadeOf p io (lowered p (plain_table io)) → IsSelection core (lowered p (plain_table io)) asm
    → ValidAsm (object_sizes (lowered p (plain_table io))) (work_size io) asm
    → (AreInPlace (lowered p (plain_table io)) → code_words asm.items.items
    ≤ program_words + objects_weight (lowered p (plain_table io)).objects + functions_words_by_shapes (lowered p (plain_table io)).functions)
    → CountsByShapes p io (lowered p (plain_table io)) → IsCodeOf core p io asm
coded core p io asm have valid groups made selection valid_asm words within =
    let has = have p io valid groups in
    let counted = words has.in_place in
    record {
      groups = groups;
      code = has.code;
      selection = selection;
      frames = selection.frames ∙ slots_are p (plain_table io) p.functions;
      small = omega (arith, counted, within);
      valid = valid_asm;
    }

pub code_made : (core : Core) (p : PlainProgram) (io : IoTable) (asm : AsmProgram) (ir : PlainIrProgram) → ir ≡ lowered p (plain_table io)
    → LoweredProgramsHaveCode → Valid p io → GroupsHaveBytes io → IsMadeOf p io ir → IsSelection core ir asm
    → CanBePlaced ir asm
    → (AreInPlace ir → code_words asm.items.items ≤ program_words + objects_weight ir.objects + functions_words_by_shapes ir.functions)
    → CountsByShapes p io ir → IsCodeOf core p io asm
code_made core p io asm ir is have valid groups made selection valid_asm words within =
    coded core p io asm have valid groups (subst (λ x. IsMadeOf p io x) is made) (subst (λ x. IsSelection core x asm) is selection)
    (subst (λ x. ValidAsm (object_sizes x) (work_size io) asm) is (valid_asm (length io.dynamics.items) made.valid))
    (subst (λ x. AreInPlace x
    → code_words asm.items.items ≤ program_words + objects_weight x.objects + functions_words_by_shapes x.functions) is words)
    (subst (λ x. CountsByShapes p io x) is within)

-- shortened it is code of the program still
pub short_code : ShortenedIsValid → (core : Core) (p : PlainProgram) (io : IoTable) (reaches : List Reach) (long short : AsmProgram)
    → IsCodeOf core p io long → IsShortened reaches long short → IsShortCodeOf core p io reaches short
short_code laws core p io reaches long short code h =
    let made = laws (placed_sizes p) (work_size io) reaches long short h code.valid in
    let fewer = made.1 in
    let within = code.small in
    record {
      long = long;
      code = code;
      shortened = h;
      frames = h.frames ∙ code.frames;
      small = omega (arith, fewer, within);
      valid = made.0;
    }

-- so is no more than its label, to be placed
pub outline_is_valid : (core : Core) (p : PlainProgram) (io : IoTable) (asm outline : AsmProgram) → IsCodeOf core p io asm → IsOutlineOf asm outline
    → ValidAsm (placed_sizes p) (work_size io) outline × (outline.frames.items ≡ scratch_needs p) × (length outline.items.items < 2 ^ 32)
outline_is_valid core p io asm outline code h =
    let frames : outline.frames.items ≡ scratch_needs p = h.frames ∙ code.frames in
    let few = code.valid.functions in
    let as_many = ap length h.frames in
    let one : length outline.items.items ≡ 1 = ap length h.items in (
      record {
        items = subst (λ is. list_all (is_valid_item (sizes_of (placed_sizes p) outline.frames.items (work_size io))) is ≡ true)
            (sym h.items) refl;
        labels = subst (λ is. list_all (λ i. is_placed is (used_label i)) is ≡ true) (sym h.items) refl;
        entry = subst (λ is. stands_once is outline.entry ≡ true) (sym h.items)
            (subst (λ n. stands_once (Label asm.entry ∷ []) n ≡ true) (sym h.entry) (stands_alone asm.entry));
        functions = omega (arith, few, as_many);
      },
      frames,
      omega (arith, one),
    )
