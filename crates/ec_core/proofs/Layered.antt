-- A layer behind others is around what is inside.
use Rattle.std.proofs.Common.{◌≡◌, List, [], ◌∷◌, ◌++◌, refl, ap}
use Rattle.ec_core.specs.declared.layers.Layer.{Layer}
use Rattle.ec_core.specs.Layers.{around, within}
use Rattle.ec_core.specs.Plain.{PlainType}

pub within_last : (ls : List Layer) (l : Layer) (ty : PlainType) → within (ls ++ l ∷ []) ty ≡ within ls (around l ty)
within_last [] l ty = refl
within_last (m ∷ ls) l ty = ap (around m) (within_last ls l ty)
