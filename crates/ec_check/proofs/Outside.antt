-- Parameters and bodies leave the names of file scope as they are.
use Rattle.std.proofs.Common.{◌≡◌, ◌∙◌, ℕ, refl, ap, List, [], ◌∷◌}
use Rattle.std.specs.Prelude.{Option, Some, None}
use Rattle.ec_grammar.specs.Trees as t
use Rattle.ec_check_names.specs.declared.specifiers.Specified.{Specified}
use Rattle.ec_check_declarations.specs.Params.{ParamDeclared}
use Rattle.ec_check_declarations.specs.Scopes.{Context, Scope}
use Rattle.ec_check_statements.specs.Around.{Around, looping, within, under}
use Rattle.ec_check_statements.specs.Headings.{after_first, after_heading}
use Rattle.ec_check_statements.specs.Locals.{local_declared, with_local, with_locals, after_declaration}
use Rattle.ec_check_statements.specs.Statements.{after, after_item, after_items, after_body}
use Rattle.ec_check.specs.Definitions.{with_param, with_params}

-- the second scope has the names of file scope that the first one has
abbrev SameOutside : Scope → Scope → Type 0
SameOutside s v = v.names.outside ≡ s.names.outside

-- ---- parameters

with_param_keeps : (unit function : ℕ) (n : Option (List ℕ)) (p : ParamDeclared) (s : Scope)
    → SameOutside s (with_param unit function n p s)
with_param_keeps unit function None p s = refl
with_param_keeps unit function (Some n) p s = refl

with_params_keep : (unit function : ℕ) (ps : List ParamDeclared) (s : Scope) → SameOutside s (with_params unit function ps s)
with_params_keep unit function [] s = refl
with_params_keep unit function (p ∷ ps) s =
    with_params_keep unit function ps (with_param unit function p.name p s) ∙ with_param_keeps unit function p.name p s

pub params_keep : (unit function : ℕ) (ps : List ParamDeclared) (s v : Scope) → v ≡ with_params unit function ps s → SameOutside s v
params_keep unit function ps s v e = ap (λ (u : Scope). u.names.outside) e ∙ with_params_keep unit function ps s

-- ---- statements

local_keeps : (c : Context) (r : Around) (said : Specified) (d : t.InitDeclarator) (s : Scope) → SameOutside s (with_local c r said d s)
unfolding with_local local_declared
local_keeps c r said (t.init_declarator (t.declarator stars (t.identifier at n) shape) start) s = refl

locals_keep : (c : Context) (r : Around) (said : Specified) (ds : List t.NextInitDeclarator) (s : Scope)
    → SameOutside s (with_locals c r said ds s)
locals_keep c r said [] s = refl
locals_keep c r said (t.next_init_declarator comma d ∷ ds) s =
    locals_keep c r said ds (with_local c r said d s) ∙ local_keeps c r said d s

declaration_keeps : (c : Context) (r : Around) (d : t.Declaration) (s : Scope) → SameOutside s (after_declaration c r d s)
unfolding after_declaration
declaration_keeps c r (t.declaration ss first more e) s = locals_keep c r _ more (with_local c r _ first s) ∙ local_keeps c r _ first s

first_keeps : (c : Context) (r : Around) (x : t.First) (s : Scope) → SameOutside s (after_first c r x s)
unfolding after_first
first_keeps c r (t.first_declared d) s = declaration_keeps c r d s
first_keeps c r (t.first_evaluated x e) s = refl

heading_keeps : (c : Context) (r : Around) (x : t.Heading) (s : Scope) → SameOutside s (after_heading c r x s)
unfolding after_heading
heading_keeps c r (t.heading l first x semicolon y e) s = first_keeps c r first s

mutual
  statement_keeps : (c : Context) (r : Around) (x : t.Statement) (s : Scope) → SameOutside s (after c r x s)
  statement_keeps c r (t.block (t.compound l ps xs e)) s = items_keep (under ps c) (within r s.names) xs s
  statement_keeps c r (t.simple x e) s = refl
  statement_keeps c r (t.if_then at x a) s = statement_keeps c r a s
  statement_keeps c r (t.if_else at x a e b) s = statement_keeps c r b (after c r a s) ∙ statement_keeps c r a s
  statement_keeps c r (t.while_loop at x a) s = statement_keeps c (looping r) a s
  statement_keeps c r (t.do_loop at a w x e) s = statement_keeps c (looping r) a s
  statement_keeps c r (t.for_loop at x a) s =
      statement_keeps c (looping (within r s.names)) a (after_heading c (within r s.names) x s) ∙ heading_keeps c (within r s.names) x s
  statement_keeps c r (t.break_loop at e) s = refl
  statement_keeps c r (t.continue_loop at e) s = refl
  statement_keeps c r (t.return_value at x e) s = refl

  item_keeps : (c : Context) (r : Around) (x : t.Item) (s : Scope) → SameOutside s (after_item c r x s)
  item_keeps c r (t.declared d) s = declaration_keeps c r d s
  item_keeps c r (t.stated x) s = statement_keeps c r x s

  items_keep : (c : Context) (r : Around) (xs : t.Items) (s : Scope) → SameOutside s (after_items c r xs s)
  items_keep c r t.no_items s = refl
  items_keep c r (t.items x xs) s = items_keep c r xs (after_item c r x s) ∙ item_keeps c r x s

after_body_keeps : (c : Context) (r : Around) (x : t.Compound) (s : Scope) → SameOutside s (after_body c r x s)
unfolding after_body
after_body_keeps c r (t.compound l ps xs e) s = items_keep (under ps c) r xs s

pub body_keeps : (c : Context) (r : Around) (x : t.Compound) (s v : Scope) → v ≡ after_body c r x s → SameOutside s v
body_keeps c r x s v e = ap (λ (u : Scope). u.names.outside) e ∙ after_body_keeps c r x s
