-- The weight of a program by shapes in words (our own profile): of the operators and conversions of one shape each
-- counts by itself, or one whole and a call for each, whichever is less; each other part counts as often as it stands
-- there.
use Rattle.std.specs.Prelude.{◌≡◌, ℕ, ◌+◌, ◌≤◌, List, [], ◌∷◌}
use Rattle.ec_core.specs.Plain.{PlainProgram}
use Rattle.ec_core.specs.PortTable.{PlainTable}
use Rattle.ec_core.specs.Weight.{objects_weight, weight}
use Rattle.ec_core.specs.Words.{program_words}
use Rattle.ec_shapes.specs.Shapes.{total, by_shapes}
use Rattle.ec_core_shapes.specs.Parts.{Part, alone, shaped, functions_parts}
use Rattle.ec_core_shapes.specs.Shapes.{Shape, same_shape, shape_words, shape_row}

abbrev pub program_parts : PlainProgram → PlainTable → List Part
program_parts program table = functions_parts table program.functions

-- the words of the parts without shapes
abbrev pub alone_words : Part → ℕ
alone_words (alone words) = words
alone_words (shaped s) = 0

abbrev pub shapes_in : List Part → List Shape
shapes_in [] = []
shapes_in (alone words ∷ parts) = shapes_in parts
shapes_in (shaped s ∷ parts) = s ∷ shapes_in parts

abbrev pub shared_words : List Part → ℕ
shared_words parts = total alone_words parts + by_shapes same_shape shape_row (shapes_in parts)

abbrev pub shared_weight : PlainProgram → PlainTable → ℕ
shared_weight program table =
    program_words + objects_weight program.objects + shared_words (program_parts program table)

-- ---- laws

-- the words of a part by itself
abbrev pub part_words : Part → ℕ
part_words (alone words) = words
part_words (shaped s) = shape_words s

-- the weight is the sum of the words of the parts
abbrev pub WeightCountsParts : Type 0
WeightCountsParts =
    (program : PlainProgram) (table : PlainTable)
    → weight program table ≡ program_words + objects_weight program.objects + total part_words (program_parts program table)

abbrev pub SharedWeightIsNoMore : Type 0
SharedWeightIsNoMore = (program : PlainProgram) (table : PlainTable) → shared_weight program table ≤ weight program table
