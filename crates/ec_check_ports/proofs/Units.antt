-- Units by two tables whose ports have the same names.
use Rattle.std.specs.Prelude.{ℕ, List, [], ◌∷◌}
use Rattle.ec_check_declarations.specs.Functions.{FunctionDeclared}
use Rattle.ec_check_file_scope.specs.States.{Setting, State, context_of, with_scope, in_unit}
use Rattle.ec_check.specs.Definitions.{function_made, with_function, params_in, numbers_in, body_in, defined_in, definition_declared}
use Rattle.ec_check.specs.Definitions.{named_definition, with_definition, after_definition}
use Rattle.ec_iohw.specs.declared.table.IoTable.{IoTable}
use Rattle.ec_check.specs.Units.{after_external, after_externals, after_unit}
use Rattle.std.proofs.Common.{◌≡◌, refl}
use Rattle.ec_check_ports.specs.Ports.{LookAlike}
use Rattle.ec_check_ports.proofs.Tables.{setting_by}
use Rattle.ec_check_ports.proofs.Statements.{body_of_same, after_body_same}
use Rattle.ec_check_ports.proofs.FileScope.{after_register_same, after_declaration_same, after_structure_same}
use Rattle.ec_grammar.specs.Trees as t

module _ (here there : IoTable) (same : LookAlike here there) where
  pub defined_in_same : (r : Setting) (n : List ℕ) (f : FunctionDeclared) (body : t.Compound) (s : State)
      → defined_in (setting_by here r) n f body s ≡ defined_in (setting_by there r) n f body s
  defined_in_same r n f body s =
      λ j. with_function (function_made r.unit n f.returns (numbers_in r f s) (body_of_same here there same (context_of r.ports s)
      (body_in r f s) body (params_in r f s) j)) (with_scope (after_body_same here there same (context_of r.ports s) (body_in r f s)
      body (params_in r f s) j) s)

  pub with_definition_same : (r : Setting) (function : t.Function) (s : State) (f : FunctionDeclared)
      → with_definition (setting_by here r) function s f ≡ with_definition (setting_by there r) function s f
  with_definition_same r (t.function ty (t.identifier at n) l ps e body) s f =
      λ j. defined_in_same r n f body (named_definition r (t.function ty (t.identifier at n) l ps e body) s f) j

  pub after_definition_same : (r : Setting) (f : t.Function) (s : State)
      → after_definition (setting_by here r) f s ≡ after_definition (setting_by there r) f s
  after_definition_same r f s = λ j. with_definition_same r f s (definition_declared f s) j

  pub after_external_same : (r : Setting) (external : t.External) (s : State)
      → after_external (setting_by here r) external s ≡ after_external (setting_by there r) external s
  after_external_same r (t.pragma_item p) s = refl
  after_external_same r (t.structure_item d) s = λ j. after_structure_same here there same r d s j
  after_external_same r (t.register_item d) s = λ j. after_register_same here there same r d s j
  after_external_same r (t.declaration_item d) s = λ j. after_declaration_same here there same r d s j
  after_external_same r (t.function_item f) s = λ j. after_definition_same r f s j

  pub after_externals_same : (r : Setting) (externals : List t.External) (s : State)
      → after_externals (setting_by here r) externals s ≡ after_externals (setting_by there r) externals s
  after_externals_same r [] s = refl
  after_externals_same r (x ∷ xs) s = λ j. after_externals_same r xs (after_external_same r x s j) j

  pub after_unit_same : (r : Setting) (tree : t.Tree) (s : State)
      → after_unit (setting_by here r) tree s ≡ after_unit (setting_by there r) tree s
  after_unit_same r (t.tree xs end) s = λ j. after_externals_same r xs (in_unit s) j
