-- Builds of the same sources by the same map have one image.
use Rattle.std.proofs.Common.{◌≡◌, ℕ, List, length, Option, Some, None, sym, ap, ◌∙◌, subst}
use Rattle.ec_space.specs.declared.Core.{Core}
use Rattle.ec_asm.specs.declared.items.AsmProgram.{AsmProgram}
use Rattle.ec_core.specs.Plain.{PlainProgram, plain_program}
use Rattle.ec_core.specs.PortTable.{PlainTable, plain_table}
use Rattle.ec_check.specs.Laws.{ProgramsAreTyped}
use Rattle.ec_check.specs.Units.{program_of}
use Rattle.ec_check_recursion.specs.Rows.{rows_of_program}
use Rattle.ec_check_ports.specs.Ports.{ProgramsGoByNames}
use Rattle.ec_lower_code.specs.Code.{lowered}
use Rattle.ec_lower_code.specs.Correct.{LoweredIsMadeOf}
use Rattle.ec_map.specs.declared.map.Map.{Map}
use Rattle.ec_locate.specs.Image.{flash_of, image}
use Rattle.ec_locate.specs.Layout.{layout}
use Rattle.ec_locate.specs.Placing.{entries_by, last_of, scratch_needs}
use Rattle.ec_select.specs.Selected.{IsSelection}
use Rattle.ec_asm_based.specs.Based.{based_items}
use Rattle.ec_asm_near.specs.Near.{near_items}
use Rattle.ec_build_laws.specs.Shortened.{reaches_of}
use Rattle.ec_select_operations.specs.Written.{NeededFunctionsAreWritten}
use Rattle.ec_select_live.specs.Laws.{ValidOperationsHavePlaces}
use Rattle.ec_build.specs.Builds.{IsChecked, IsImageOf}
use Rattle.ec_locate.specs.declared.placing.Located.{Located}
use Rattle.ec_build.specs.Images.{BuildsHaveOneImage}
use Rattle.ec_build.proofs.OneCode.{items_same}
use Rattle.ec_build.proofs.OneMap.{SameMaps, maps_same, look_alike, tables_same}
use Rattle.ec_build.proofs.OnePlace.{places_same, image_same}

pub record Laws : Type 0 where
  pub typed : ProgramsAreTyped
  pub programs : ProgramsGoByNames
  pub lowered : LoweredIsMadeOf
  pub places : ValidOperationsHavePlaces
  pub written : NeededFunctionsAreWritten

program_in : PlainProgram → Option PlainProgram → PlainProgram
program_in p None = p
program_in p (Some q) = q

-- ---- the program

programs_same : Laws → (sources : List (List ℕ)) (text : List ℕ) (m n : Map) (p q : PlainProgram) → SameMaps m n
    → IsChecked sources text m p → IsChecked sources text n q → p ≡ q
unfolding program_in
programs_same laws sources text m n p q same a b =
    let units : b.units ≡ a.units = a.read.only b.units b.read.trees in
    ap (program_in p)
    (sym ((laws.typed.walked a.units m.io p).0 a.program.typed) ∙ laws.programs a.units m.io n.io (look_alike m n same)
    ∙ (λ j. program_of (sym units j) n.io) ∙ (laws.typed.walked b.units n.io q).0 b.program.typed)

-- ---- the image of a program

module _ (laws : Laws) (m n : Map) (same : SameMaps m n) (p : PlainProgram) (asm bsm : AsmProgram) (k l : Located)
    (a : IsImageOf p m asm k) (b : IsImageOf p n bsm l) where
  selected_are : a.translated.selected.items.items ≡ b.translated.selected.items.items
  selected_are =
      items_same (record { places = laws.places; written = laws.written }) m.core (length m.io.dynamics.items)
      (lowered p (plain_table m.io))
      (laws.lowered p m.io a.translated.valid a.translated.groups).valid a.translated.selected b.translated.selected a.translated.selection
      (subst (λ (c : Core). IsSelection c (lowered p (plain_table m.io)) b.translated.selected) (sym same.core_same)
      (subst (λ (t : PlainTable). IsSelection n.core (lowered p t) b.translated.selected) (sym (tables_same m n same)) b.translated.selection))

  places_are : k.places.items ≡ l.places.items
  places_are = a.translated.located.places ∙ places_same m n same p (scratch_needs p) ∙ sym b.translated.located.places

  items_are : asm.items.items ≡ bsm.items.items
  items_are =
      a.translated.shortened.items
      ∙ (λ j. near_items (based_items (reaches_of p (places_are j)) (selected_are j)))
      ∙ sym b.translated.shortened.items

  flash_is : flash_of k.image ≡ flash_of l.image
  flash_is =
      a.translated.located.flash
      ∙ (λ j. image m.core p (layout m (rows_of_program p) (entries_by m p) (a.frames j)) (last_of m) (items_are j))
      ∙ image_same m n same p (scratch_needs p) bsm.items.items
      ∙ (λ j. image n.core p (layout n (rows_of_program p) (entries_by n p) (sym b.frames j)) (last_of n) bsm.items.items)
      ∙ sym b.translated.located.flash

-- ---- builds

pub builds_have_one_image : Laws → BuildsHaveOneImage
builds_have_one_image laws sources text a b x y =
    let same = maps_same text a.map b.map x.checked.read.map y.checked.read.map in
    let one : plain_program a.program ≡ plain_program b.program =
    programs_same laws sources text a.map b.map (plain_program a.program) (plain_program b.program) same x.checked y.checked in
    record {
      program = one;
      core = x.image.translated.located.core ∙ same.core_same ∙ sym y.image.translated.located.core;
      flash =
          flash_is laws a.map b.map same (plain_program a.program) x.asm y.asm a.located b.located x.image
          (subst (λ (p : PlainProgram). IsImageOf p b.map y.asm b.located) (sym one) y.image);
    }
