-- How many objects and functions are numbered: no more objects than are declared, and all functions that are defined.
use Rattle.std.proofs.Common.{◌≡◌, ◌≤◌, ◌+◌, ℕ, Bool, true, false, List, [], ◌∷◌, arith}
use Rattle.std.specs.Prelude.{Option}
use Rattle.ec_grammar.specs.Trees as t
use Rattle.ec_check_names.specs.declared.linkage.Linkage.{Linkage}
use Rattle.ec_check_names.specs.declared.specifiers.StorageWord.{StorageWord}
use Rattle.ec_check_names.specs.Counts.{objects_in_declarator, objects_in_more, objects_in_declaration, objects_in_external}
use Rattle.ec_check_names.specs.Counts.{functions_in_external}
use Rattle.ec_check_names.specs.Definitions.{Numbering, is_defined, declared_as, link_in, storage_of, is_registered, registered_as}
use Rattle.ec_check_names.specs.Definitions.{numbered_declarator, numbered_more, numbered_declaration, numbered_external}

-- from one numbering to another there are at most so many objects more, and so many functions more
pub record Counts (before after : Numbering) (o f : ℕ) : Type 0 where
  pub objects : after.objects ≤ before.objects + o
  pub functions : after.functions ≡ before.functions + f

declared_counts : (b : Bool) (unit : ℕ) (name : List ℕ) (l : Linkage) (n : Numbering) → Counts n (declared_as b unit name l n) 1 0
declared_counts true unit name l n = record { objects = omega arith; functions = omega arith }
declared_counts false unit name l n = record { objects = omega arith; functions = omega arith }

pub declarator_counts : (unit : ℕ) (storage : Option StorageWord) (d : t.InitDeclarator) (n : Numbering)
    → Counts n (numbered_declarator unit storage d n) (objects_in_declarator d) 0
declarator_counts unit storage (t.init_declarator (t.declarator stars (t.identifier at name) t.object) start) n =
    declared_counts (is_defined storage false) unit name (link_in storage false name n) n
declarator_counts unit storage (t.init_declarator (t.declarator stars (t.identifier at name) (t.array l size r)) start) n =
    declared_counts (is_defined storage false) unit name (link_in storage false name n) n
declarator_counts unit storage (t.init_declarator (t.declarator stars (t.identifier at name) (t.function_shape l ps r)) start) n =
    record { objects = omega arith; functions = omega arith }

pub more_counts : (unit : ℕ) (storage : Option StorageWord) (ds : List t.NextInitDeclarator) (n : Numbering)
    → Counts n (numbered_more unit storage ds n) (objects_in_more ds) 0
more_counts unit storage [] n = record { objects = omega arith; functions = omega arith }
more_counts unit storage (t.next_init_declarator comma d ∷ ds) n =
    let a = declarator_counts unit storage d n in
    let b = more_counts unit storage ds (numbered_declarator unit storage d n) in
    record { objects = omega (arith, a.objects, b.objects); functions = omega (arith, a.functions, b.functions) }

declaration_counts : (unit : ℕ) (d : t.Declaration) (n : Numbering) → Counts n (numbered_declaration unit d n) (objects_in_declaration d) 0
declaration_counts unit (t.declaration ss first more semicolon) n =
    let a = declarator_counts unit (storage_of ss) first n in
    let b = more_counts unit (storage_of ss) more (numbered_declarator unit (storage_of ss) first n) in
    record { objects = omega (arith, a.objects, b.objects); functions = omega (arith, a.functions, b.functions) }

registered_counts : (b : Bool) (unit : ℕ) (name : List ℕ) (n : Numbering) → Counts n (registered_as b unit name n) 1 0
registered_counts true unit name n = record { objects = omega arith; functions = omega arith }
registered_counts false unit name n = record { objects = omega arith; functions = omega arith }

pub external_counts : (unit : ℕ) (x : t.External) (n : Numbering)
    → Counts n (numbered_external unit x n) (objects_in_external x) (functions_in_external x)
external_counts unit (t.pragma_item p) n = record { objects = omega arith; functions = omega arith }
external_counts unit (t.structure_item d) n = record { objects = omega arith; functions = omega arith }
external_counts unit (t.register_item (t.register_object w reg ss (t.identifier at name) semicolon)) n =
    registered_counts (is_registered name n.definitions) unit name n
external_counts unit (t.declaration_item d) n = declaration_counts unit d n
external_counts unit (t.function_item (t.function (t.type_name ss stars) (t.identifier at name) l ps r body)) n =
    record { objects = omega arith; functions = omega arith }
