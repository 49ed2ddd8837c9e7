-- The image of a program that was placed.
use Rattle.std.proofs.Common.{◌≡◌, List, sym, ap, ◌∙◌, subst, arith}
use Rattle.ec_space.specs.Bytes.{AreBytes}
use Rattle.ec_asm.specs.declared.items.AsmProgram.{AsmProgram}
use Rattle.ec_asm_based.specs.declared.reach.Reach.{Reach}
use Rattle.ec_core.specs.Plain.{PlainProgram}
use Rattle.ec_core.specs.Valid.{Valid}
use Rattle.ec_map.specs.Maps.{ValidMap}
use Rattle.ec_map.specs.declared.map.Map.{Map}
use Rattle.ec_locate.specs.Placing.{IsLocated}
use Rattle.ec_locate.specs.declared.placing.Located.{Located}
use Rattle.ec_build_laws.specs.Shortened.{reaches_of, IsShortened}
use Rattle.ec_build_laws.specs.Translation.{IsTranslated}
use Rattle.ec_build_laws.specs.Whole.{ProgramsShowTheirSources}
use Rattle.ec_build.specs.Builds.{IsImageOf}
use Rattle.ec_build.specs.Code.{IsShortCodeOf, AreReaches}

translated : (p : PlainProgram) (m : Map) (reaches : List Reach) (asm : AsmProgram) (l : Located) → Valid p m.io → ValidMap m
    → IsShortCodeOf m.core p m.io reaches asm → reaches ≡ reaches_of p l.places.items → IsLocated p m asm l → AreBytes l.image.bytes.items
    → IsTranslated p m asm l
translated p m reaches asm l valid map code same located bytes = record {
  valid = valid;
  map = map;
  groups = code.code.groups;
  code = code.code.code;
  selected = code.long;
  selection = code.code.selection;
  shortened = subst (λ r. IsShortened r code.long asm) same code.shortened;
  located = located;
  bytes = bytes;
}

pub image_made : (p : PlainProgram) (m : Map) (reaches : List Reach) (asm : AsmProgram) (l : Located) → ProgramsShowTheirSources
    → Valid p m.io → ValidMap m → IsShortCodeOf m.core p m.io reaches asm → AreReaches p m reaches → IsLocated p m asm l
    → AreBytes l.image.bytes.items → IsImageOf p m asm l
image_made p m reaches asm l shows valid map code are located bytes =
    let is = translated p m reaches asm l valid map code (are asm l located) located bytes in
    let count = located.code_bytes in
    let small = code.small in
    record {
      translated = is;
      frames = code.frames;
      small = omega (arith, count, small);
      shows = λ s inputs reset give. shows p m asm l s inputs is reset give;
    }

-- the objects of a program stand where they stand with other items
pub reaches_are : (p : PlainProgram) (m : Map) (reaches : List Reach) (outline : AsmProgram) (there : Located)
    → reaches ≡ reaches_of p there.places.items → IsLocated p m outline there → AreReaches p m reaches
reaches_are p m reaches outline there is placed asm l located =
    is ∙ ap (reaches_of p) (placed.places ∙ sym located.places)
