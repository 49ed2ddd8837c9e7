-- The numbers of definitions.
use Rattle.std.proofs.Common.{◌≡◌, ◌≤◌, ◌+◌, ℕ, Bool, true, false, List, [], ◌∷◌, ◌++◌, Option, refl, arith}
use Rattle.ec_grammar.specs.Trees.{InitDeclarator, init_declarator, declarator, identifier, NextInitDeclarator}
use Rattle.ec_grammar.specs.Trees.{next_init_declarator, Declaration, declaration, Shape, object, array, function_shape}
use Rattle.ec_grammar.specs.Trees.{RegisterObject, register_object, Function, function, type_name, External}
use Rattle.ec_grammar.specs.Trees.{pragma_item, structure_item, register_item, declaration_item, function_item, Tree, tree}
use Rattle.ec_check_names.specs.declared.linkage.Linkage.{Linkage}
use Rattle.ec_check_names.specs.declared.numbering.Defined.{Defined}
use Rattle.ec_check_names.specs.declared.numbering.Defined.TheVariants.{Object, Register, Function as FunctionKind}
use Rattle.ec_check_names.specs.declared.specifiers.StorageWord.{StorageWord}
use Rattle.ec_check_names.specs.Counts.{objects_in_shape, objects_in_declarator, objects_in_more, objects_in_declaration}
use Rattle.ec_check_names.specs.Counts.{objects_in_function, objects_in_external, objects_in_externals, objects_in_unit, objects_declared}
use Rattle.ec_check_names.specs.Counts.{functions_in_external, functions_in_externals, functions_in_unit, functions_defined, is_function}
use Rattle.ec_check_names.specs.Definitions.{Definition, Numbering, nothing_numbered, with_link, with_object, with_function, is_defined}
use Rattle.ec_check_names.specs.Definitions.{declared_as, link_in, storage_of}
use Rattle.ec_check_names.specs.Definitions.{numbered_declarator, numbered_more, numbered_declaration, is_registered, registered_as}
use Rattle.ec_check_names.specs.Definitions.{numbered_register, numbered_function}
use Rattle.ec_check_names.specs.Definitions.{numbered_external, numbered_externals, unlinked, numbered_unit, numbered_from}
use Rattle.ec_check_names.specs.Laws.{IsNext, objects_behind, functions_behind, AreNumbered, DefinitionsAreNumbered}

-- ---- lists of definitions

last : (k : Defined) (o f o' f' o'' f'' n : ℕ) → o ≤ o' → f ≡ f' → IsNext k o' f' n → objects_behind k o' n ≤ o''
    → functions_behind k f' ≡ f''
    → IsNext k o f n × (objects_behind k o n ≤ o'') × (functions_behind k f ≡ f'')
last Object o f o' f' o'' f'' n a b c d e = (omega arith, omega arith, omega arith)
last Register o f o' f' o'' f'' n a b c d e = (omega arith, omega arith, omega arith)
last FunctionKind o f o' f' o'' f'' n a b c d e = (omega arith, omega arith, omega arith)

one_more : (ds : List Definition) (d : Definition) (o f o' f' o'' f'' : ℕ) → AreNumbered o f ds o' f' → IsNext d.kind o' f' d.number
    → objects_behind d.kind o' d.number ≤ o'' → functions_behind d.kind f' ≡ f'' → AreNumbered o f (ds ++ d ∷ []) o'' f''
one_more [] d o f o' f' o'' f'' h c a e =
    let r = last d.kind o f o' f' o'' f'' d.number h.0 h.1 c a e in (r.0, (r.1, r.2))
one_more (x ∷ xs) d o f o' f' o'' f'' h c a e =
    (h.0, one_more xs d (objects_behind x.kind o x.number) (functions_behind x.kind f) o' f' o'' f'' h.1 c a e)

loosened : (ds : List Definition) (o f o' f' o'' f'' : ℕ) → o' ≤ o'' → f' ≡ f'' → AreNumbered o f ds o' f' → AreNumbered o f ds o'' f''
loosened [] o f o' f' o'' f'' a e h = (omega (arith, h.0), omega (arith, h.1))
loosened (x ∷ xs) o f o' f' o'' f'' a e h =
    (h.0, loosened xs (objects_behind x.kind o x.number) (functions_behind x.kind f) o' f' o'' f'' a e h.1)

-- ---- what a part of a tree does

abbrev IsInOrder : Numbering → Type 0
IsInOrder s = AreNumbered 0 0 s.definitions s.objects s.functions

-- from one numbering to another there are at most so many more objects, and so many more functions
record Leads (s r : Numbering) (o f : ℕ) : Type 0 where
  order : IsInOrder s → IsInOrder r
  objects : r.objects ≤ s.objects + o
  functions : r.functions ≡ s.functions + f

nothing : (s : Numbering) → Leads s s 0 0
nothing s = record { order = λ h. h; objects = omega arith; functions = omega arith }

through : {s r t : Numbering} {o f p g : ℕ} → Leads s r o f → Leads r t p g → Leads s t (o + p) (f + g)
through a b = record {
  order = λ h. b.order (a.order h);
  objects = omega (arith, a.objects, b.objects);
  functions = omega (arith, a.functions, b.functions);
}

linked : (n : List ℕ) (l : Linkage) (s : Numbering) → Leads s (with_link n l s) 0 0
linked n l s = record { order = λ h. h; objects = omega arith; functions = omega arith }

an_object : (u : ℕ) (n : List ℕ) (l : Linkage) (s : Numbering) → Leads s (with_object u n l Object s) 1 0
an_object u n l s =
    record {
      order = λ h. one_more s.definitions _ 0 0 s.objects s.functions (s.objects + 1) s.functions h (omega arith) (omega arith) refl;
      objects = omega arith;
      functions = omega arith;
    }

a_register : (u : ℕ) (n : List ℕ) (l : Linkage) (s : Numbering) → Leads s (with_object u n l Register s) 1 0
a_register u n l s =
    record {
      order = λ h. one_more s.definitions _ 0 0 s.objects s.functions (s.objects + 1) s.functions h (omega arith) (omega arith) refl;
      objects = omega arith;
      functions = omega arith;
    }

a_function : (u : ℕ) (n : List ℕ) (l : Linkage) (k : ℕ) (s : Numbering) → Leads s (with_function u n l k s) k 1
a_function u n l k s =
    record {
      order = λ h. one_more s.definitions _ 0 0 s.objects s.functions (s.objects + k) (s.functions + 1) h refl (omega arith) refl;
      objects = omega arith;
      functions = omega arith;
    }

as_many : {s r : Numbering} {o f p g : ℕ} → o ≡ p → f ≡ g → Leads s r o f → Leads s r p g
as_many h k a = record { order = a.order; objects = omega (arith, a.objects); functions = omega (arith, a.functions) }

-- at most as many objects are counted
wider : {s r : Numbering} {o f : ℕ} (p : ℕ) → o ≤ p → Leads s r o f → Leads s r p f
wider p h a = record { order = a.order; objects = omega (arith, a.objects); functions = a.functions }

defined_or_not : (b : Bool) (u : ℕ) (n : List ℕ) (l : Linkage) (s : Numbering) → Leads s (declared_as b u n l s) 1 0
defined_or_not true u n l s = through (linked n l s) (an_object u n l (with_link n l s))
defined_or_not false u n l s = wider 1 (omega arith) (linked n l s)

by_shape : (u : ℕ) (storage : Option StorageWord) (shape : Shape) (n : List ℕ) (l : Linkage) (s : Numbering)
    → Leads s (declared_as (is_defined storage (is_function shape)) u n l s) (objects_in_shape shape) 0
by_shape u storage object n l s = defined_or_not (is_defined storage false) u n l s
by_shape u storage (array b size r) n l s = defined_or_not (is_defined storage false) u n l s
by_shape u storage (function_shape b ps r) n l s = linked n l s

of_declarator : (u : ℕ) (storage : Option StorageWord) (d : InitDeclarator) (s : Numbering)
    → Leads s (numbered_declarator u storage d s) (objects_in_declarator d) 0
of_declarator u storage (init_declarator (declarator stars (identifier at n) shape) start) s =
    by_shape u storage shape n (link_in storage (is_function shape) n s) s

of_more : (u : ℕ) (storage : Option StorageWord) (ds : List NextInitDeclarator) (s : Numbering)
    → Leads s (numbered_more u storage ds s) (objects_in_more ds) 0
of_more u storage [] s = nothing s
of_more u storage (next_init_declarator comma d ∷ ds) s =
    through (of_declarator u storage d s) (of_more u storage ds (numbered_declarator u storage d s))

of_declaration : (u : ℕ) (d : Declaration) (s : Numbering) → Leads s (numbered_declaration u d s) (objects_in_declaration d) 0
of_declaration u (declaration ss first more semicolon) s =
    through (of_declarator u (storage_of ss) first s) (of_more u (storage_of ss) more (numbered_declarator u (storage_of ss) first s))

first_or_not : (b : Bool) (u : ℕ) (n : List ℕ) (s : Numbering) → Leads s (registered_as b u n s) 1 0
first_or_not true u n s = wider 1 (omega arith) (nothing s)
first_or_not false u n s = a_register u n _ s

of_register : (u : ℕ) (r : RegisterObject) (s : Numbering) → Leads s (numbered_register u r s) 1 0
of_register u (register_object w register ss (identifier at n) semicolon) s = first_or_not (is_registered n s.definitions) u n s

of_function : (u : ℕ) (f : Function) (s : Numbering) → Leads s (numbered_function u f s) (objects_in_function f) 1
of_function u (function (type_name ss stars) (identifier at n) l ps r body) s =
    let link = link_in (storage_of ss) true n s in
    as_many (omega arith) refl (through (linked n link s)
    (a_function u n link (objects_in_function (function (type_name ss stars) (identifier at n) l ps r body)) (with_link n link s)))

of_external : (u : ℕ) (x : External) (s : Numbering) → Leads s (numbered_external u x s) (objects_in_external x) (functions_in_external x)
of_external u (pragma_item p) s = nothing s
of_external u (structure_item d) s = nothing s
of_external u (register_item r) s = of_register u r s
of_external u (declaration_item d) s = of_declaration u d s
of_external u (function_item f) s = of_function u f s

of_externals : (u : ℕ) (xs : List External) (s : Numbering)
    → Leads s (numbered_externals u xs s) (objects_in_externals xs) (functions_in_externals xs)
of_externals u [] s = nothing s
of_externals u (x ∷ xs) s = through (of_external u x s) (of_externals u xs (numbered_external u x s))

not_linked : (s : Numbering) → Leads s (unlinked s) 0 0
not_linked s = record { order = λ h. h; objects = omega arith; functions = omega arith }

of_unit : (u : ℕ) (t : Tree) (s : Numbering) → Leads s (numbered_unit u t s) (objects_in_unit t) (functions_in_unit t)
of_unit u (tree xs end) s = as_many (omega arith) (omega arith) (through (not_linked s) (of_externals u xs (unlinked s)))

of_units : (u : ℕ) (us : List Tree) (s : Numbering) → Leads s (numbered_from u us s) (objects_declared us) (functions_defined us)
of_units u [] s = nothing s
of_units u (t ∷ us) s = through (of_unit u t s) (of_units (u + 1) us (numbered_unit u t s))

pub definitions_are_numbered : DefinitionsAreNumbered
definitions_are_numbered us =
    let all = of_units 0 us nothing_numbered in
    loosened _ 0 0 _ _ (objects_declared us) (functions_defined us) (omega (arith, all.objects)) (omega (arith, all.functions))
    (all.order (omega arith, refl))
