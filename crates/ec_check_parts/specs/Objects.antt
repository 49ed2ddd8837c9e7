-- Declarators of objects, and the constraints on them, in words (ISO/IEC 9899:1999, 6.7.5; the greatest size is this
-- project's profile).
use Rattle.std.specs.Prelude.{ℕ, ◌<◌, ◌≡◌, Option, List}
use Rattle.ec_grammar.specs.Trees as t
use Rattle.ec_core.specs.Layout.{size_of_type}
use Rattle.ec_core.specs.Plain.{PlainType}
use Rattle.ec_check_operands.specs.declared.faults.Fault.{Fault}
use Rattle.ec_check_expressions.specs.Known.{Known}
use Rattle.ec_check_parts.specs.Declared.{DeclareType}
use Rattle.ec_check_parts.specs.Heads.{Role, BreakHead}
use Rattle.ec_check_parts.specs.Sizes.{BreakShape}
use Rattle.ec_check_parts.specs.Structures.{role_of}

-- the declarator of an object in a role, with its name at a token, and with this initialiser or none
pub data BreakObject (k : Known) (role : Role) (ss : t.Specs) (stars : List t.Star) (at : ℕ) (shape : t.Shape)
    (start : Option t.Start) (f : Fault) : Type 0 where
  object_sized : BreakShape k shape start f → BreakObject k role ss stars at shape start f
  object_headed : BreakHead k.tags (role_of role shape) ss stars f → BreakObject k role ss stars at shape start f
  -- it has more bytes than an object may have
  object_too_large : f.rule ≡ 9 → f.at ≡ at → (ty : PlainType) → DeclareType k ss stars shape start ty
      → 32_767 < size_of_type k.structs ty → BreakObject k role ss stars at shape start f
