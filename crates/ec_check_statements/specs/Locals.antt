-- Declarations in blocks (ISO/IEC 9899:1999, 6.7 and 6.8.2): each declarator of an object is a statement of its own,
-- which gives the object its initial value. Its name is known from the end of the declarator on (6.2.1).
use Rattle.std.specs.Prelude.{ℕ, true, false, Option, Some, None, option_map, List, [], ◌∷◌}
use Rattle.ec_check_operands.specs.Faults.{Judgement, rule}
use Rattle.ec_grammar.specs.Trees as t
use Rattle.ec_core.specs.Plain.{PlainType, plain_type, PlainExprs, last_expr, PlainStmt, statement, declare}
use Rattle.ec_core.specs.Plain.{PlainStmts, local}
use Rattle.ec_check_names.specs.declared.specifiers.Specified.{Specified}
use Rattle.ec_check_names.specs.declared.specifiers.Storage.{Storage}
use Rattle.ec_check_names.specs.Counts.{is_function}
use Rattle.ec_check_names.specs.Firsts.{first_identifier}
use Rattle.ec_check_names.specs.Names.{Names, is_declared_since}
use Rattle.ec_check_names.specs.Specifiers.{specified, specs_rules, storages_of}
use Rattle.ec_check_operands.specs.Operands.{with_both}
use Rattle.ec_check_expressions.specs.Callees.{exprs_of}
use Rattle.ec_check_initialisers.specs.Locals.{leaf_values, leaf_sites}
use Rattle.ec_check_declarations.specs.Declarators.{ObjectDeclared, object_declared, object_sites}
use Rattle.ec_check_declarations.specs.Scopes.{Context, Scope, known_in, made_number, with_inner}
use Rattle.ec_check_declarations.specs.Sites.{Site, on, initialiser_in}
use Rattle.ec_check_statements.specs.declared.locals.LocalObject as local_object
use Rattle.ec_check_statements.specs.Around.{Around}
use Rattle.ec_check_statements.specs.Walks.{followed}

-- ---- one declarator

-- its first token
abbrev pub first_declarator : t.Declarator → ℕ
first_declarator (t.declarator [] n shape) = first_identifier n
first_declarator (t.declarator (t.star at qs ∷ stars) n shape) = at.index

-- the object that it declares
unfoldable pub local_declared : Context → Names → Specified → t.InitDeclarator → ObjectDeclared
local_declared c names said (t.init_declarator d start) = object_declared (known_in c names) said d start

-- behind the declarator its name is known
unfoldable pub with_local : Context → Around → Specified → t.InitDeclarator → Scope → Scope
with_local c r said (t.init_declarator (t.declarator stars (t.identifier at n) shape) start) s =
    with_inner r.unit n
    (local_declared c s.names said (t.init_declarator (t.declarator stars (t.identifier at n) shape) start)).ty
    (local_declared c s.names said (t.init_declarator (t.declarator stars (t.identifier at n) shape) start)).konst
    (local r.function) s

-- the values of all leaves, if it has an initialiser
unfoldable pub initial_values : Context → Names → Option t.Start → Option PlainType → Option PlainExprs
initial_values c names None ty = Some last_expr
initial_values c names (Some (t.start equals i)) ty = option_map exprs_of (leaf_values (known_in c names) i ty)

unfoldable pub initial_sites : Context → Names → Option t.Start → Option PlainType → List Site → List Site
initial_sites c names None ty rest = rest
initial_sites c names (Some (t.start equals i)) ty rest =
    initialiser_in (leaf_sites (known_in c names) i ty []) rest

-- the type of an object that is declared, and its number, if its type is known
pub record LocalObject : Type 0 where
  pub ty : Option PlainType
  pub number : Option ℕ

abbrev pub plain_local : local_object.LocalObject → LocalObject
plain_local o = record { ty = option_map plain_type o.ty; number = o.number }

unfoldable pub local_made : Context → Specified → t.InitDeclarator → Scope → LocalObject
local_made c said d s =
    record {
      ty = (local_declared c s.names said d).ty;
      number = made_number (local_declared c s.names said d).ty s.objects;
    }

-- the statement of a declarator whose object is this, where these names are known behind it
unfoldable pub started : Context → Around → t.InitDeclarator → LocalObject → Names → Option PlainStmt
started c r (t.init_declarator d start) o names =
    with_both o.number (initial_values c names start o.ty) (λ n values.
    Some (statement r.unit (first_declarator d) (declare n values)))

unfoldable pub local_statement : Context → Around → Specified → t.InitDeclarator → Scope → Option PlainStmt
local_statement c r said d s = started c r d (local_made c said d s) (with_local c r said d s).names

-- 5: the name stands in its scope again; 16: a function is declared in a block; both at the name
abbrev pub local_name_rules : Around → t.Declarator → Names → List Judgement
local_name_rules r (t.declarator stars (t.identifier at n) shape) names =
    rule 5 (is_declared_since r.first n names) at.index ∷ rule 16 (is_function shape) at.index ∷ []

unfoldable pub declarator_sites : Context → Around → Specified → t.InitDeclarator → Scope → List Site → List Site
declarator_sites c r said (t.init_declarator d start) s rest =
    object_sites (known_in c s.names) false said d start (on (local_name_rules r d s.names) ∷ rest)

unfoldable pub started_sites : Context → t.InitDeclarator → LocalObject → Names → List Site → List Site
started_sites c (t.init_declarator d start) o names rest = initial_sites c names start o.ty rest

unfoldable pub local_sites : Context → Around → Specified → t.InitDeclarator → Scope → List Site → List Site
local_sites c r said d s rest =
    declarator_sites c r said d s (started_sites c d (local_made c said d s) (with_local c r said d s).names rest)

-- ---- those behind the first one

abbrev pub with_locals : Context → Around → Specified → List t.NextInitDeclarator → Scope → Scope
with_locals c r said [] s = s
with_locals c r said (t.next_init_declarator comma d ∷ ds) s = with_locals c r said ds (with_local c r said d s)

-- their statements, and then others
abbrev pub locals_before : Context → Around → Specified → List t.NextInitDeclarator → Scope → Option PlainStmts
    → Option PlainStmts
locals_before c r said [] s rest = rest
locals_before c r said (t.next_init_declarator comma d ∷ ds) s rest =
    followed (local_statement c r said d s) (locals_before c r said ds (with_local c r said d s) rest)

abbrev pub locals_sites : Context → Around → Specified → List t.NextInitDeclarator → Scope → List Site → List Site
locals_sites c r said [] s rest = rest
locals_sites c r said (t.next_init_declarator comma d ∷ ds) s rest =
    local_sites c r said d s (locals_sites c r said ds (with_local c r said d s) rest)

-- ---- declarations

unfoldable pub after_declaration : Context → Around → t.Declaration → Scope → Scope
after_declaration c r (t.declaration ss first more e) s =
    with_locals c r (specified c.tags ss) more (with_local c r (specified c.tags ss) first s)

-- its statements, and then others
unfoldable pub declaration_before : Context → Around → t.Declaration → Scope → Option PlainStmts → Option PlainStmts
declaration_before c r (t.declaration ss first more e) s rest =
    followed (local_statement c r (specified c.tags ss) first s)
    (locals_before c r (specified c.tags ss) more (with_local c r (specified c.tags ss) first s) rest)

-- 16: a storage word stands in a block
abbrev pub storage_rules : Option Storage → List Judgement
storage_rules None = []
storage_rules (Some word) = rule 16 true word.at ∷ []

unfoldable pub declaration_sites : Context → Around → t.Declaration → Scope → List Site → List Site
declaration_sites c r (t.declaration ss first more e) s rest =
    on (specs_rules c.tags true ss (storage_rules (storages_of ss).first))
    ∷ local_sites c r (specified c.tags ss) first s
    (locals_sites c r (specified c.tags ss) more (with_local c r (specified c.tags ss) first s) rest)
