-- The parts of a function before its body.
use Rattle.std.specs.Prelude.{◌≡◌, List, Option, Some, None, Result, Ok, Err}
use Rattle.ec_grammar.specs.declared.Spot.{Spot}
use Rattle.ec_grammar.specs.declared.Specs.{Specs}
use Rattle.ec_grammar.specs.declared.Declarator.{Declarator}
use Rattle.ec_grammar.specs.Trees as t
use Rattle.ec_grammar.specs.Trees.{Leaf}
use Rattle.ec_grammar.specs.Views.{view_type_name, view_identifier, view_params, view_specs, view_declarator}
use Rattle.ec_parse_laws.specs.Reading.{Depth, Read, ◌>>=◌, begun, is_brace, declared_by, register_by}
use Rattle.ec_parse.specs.declared.units.Head.{Head}

abbrev pub HeadParts : Type 0
HeadParts = t.TypeName × t.Identifier × Spot × t.Params × Spot

abbrev pub view_head : Head → HeadParts
view_head h = (view_type_name h.result, view_identifier h.name, h.opening, view_params h.params, h.closing)

-- The parts, or the specifiers and the declarator again.
abbrev pub IsHead : t.Specs → t.Declarator → Result Head (Specs × Declarator) → Option HeadParts → Type 0
IsHead s d (Ok h) parts = parts ≡ Some (view_head h)
IsHead s d (Err again) parts = (parts ≡ None) × (view_specs again.0 ≡ s) × (view_declarator again.1 ≡ d)

-- the function of these parts that has this body
abbrev pub function_with : HeadParts → t.Compound → t.External
function_with f b = t.function_item (t.function f.0 f.1 f.2 f.3 f.4 b)

-- the function of these parts whose body begins here
abbrev pub function_by : Depth → HeadParts → List Leaf → Read t.External
function_by inner f ts = begun is_brace inner ts (λ i. i.compound i.limit ts >>= λ b. Ok (function_with f b.0, b.1))

-- a declaration behind its first declarator, and a named register, as parts of a unit
abbrev pub declared_item_by : Depth → t.Specs → t.Declarator → List Leaf → Read t.External
declared_item_by inner s d ts = declared_by inner s d ts >>= λ x. Ok (t.declaration_item x.0, x.1)

abbrev pub register_item_by : Spot → List Leaf → Read t.External
register_item_by s ts = register_by s ts >>= λ x. Ok (t.register_item x.0, x.1)
