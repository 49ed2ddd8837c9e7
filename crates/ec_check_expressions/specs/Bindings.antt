-- What `iogroup_map` binds: the name of a dynamic group and then, as a bare identifier, that of a group among its choices
-- (ISO/IEC TR 18037:2008, 6.2). Both are names of the map, whatever the text declares.
use Rattle.std.specs.Prelude.{ℕ, Option, Some, None, List}
use Rattle.ec_grammar.specs.Trees as t
use Rattle.ec_iohw.specs.declared.table.IoTable.{IoTable}
use Rattle.ec_check_forms.specs.declared.ports.Binding.{Binding}
use Rattle.ec_check_forms.specs.Calls.{binding_named}

-- the name that an argument is, without parentheses
abbrev pub bare_in_primary : t.Primary → Option t.Identifier
bare_in_primary (t.name n) = Some n
bare_in_primary (t.constant s c) = None
bare_in_primary (t.parenthesised l e r) = None
bare_in_primary (t.operation s op l n more r) = None

abbrev pub bare_in_postfix : t.Postfix → Option t.Identifier
bare_in_postfix (t.primary p) = bare_in_primary p
bare_in_postfix (t.index p l e r) = None
bare_in_postfix (t.call p l a r) = None
bare_in_postfix (t.member p s op n) = None
bare_in_postfix (t.stepped p s op) = None

abbrev pub bare_in_unary : t.Unary → Option t.Identifier
bare_in_unary (t.postfix p) = bare_in_postfix p
bare_in_unary (t.step s op u) = None
bare_in_unary (t.prefix s op c) = None
bare_in_unary (t.size s l ty r) = None

abbrev pub bare_in_cast : t.Cast → Option t.Identifier
bare_in_cast (t.uncast u) = bare_in_unary u
bare_in_cast (t.convert l ty r c) = None

abbrev pub bare_in_binary : t.Binary → Option t.Identifier
bare_in_binary (t.operand c) = bare_in_cast c
bare_in_binary (t.join a s op b) = None

abbrev pub bare_in_conditional : t.Conditional → Option t.Identifier
bare_in_conditional (t.plain b) = bare_in_binary b
bare_in_conditional (t.choose b q e s c) = None

abbrev pub bare_name : t.Assignment → Option t.Identifier
bare_name (t.value c) = bare_in_conditional c
bare_name (t.assign u s op a) = None

-- what is bound to the group with a name, where there is one
abbrev pub bound_by : IoTable → (dynamic : List ℕ) → Option t.Identifier → Option Binding
bound_by table d None = None
bound_by table d (Some (t.identifier s n)) = binding_named table d n

-- what is bound by the arguments behind the first one
abbrev pub binding_of : IoTable → (dynamic : List ℕ) → t.Further → Option Binding
binding_of table d t.no_further = None
binding_of table d (t.further s a t.no_further) = bound_by table d (bare_name a)
binding_of table d (t.further s a (t.further r b more)) = None
