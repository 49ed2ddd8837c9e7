-- Declarations of objects at file scope (ISO/IEC 9899:1999, 6.7.8 and 6.9.2; named registers: ISO/IEC TR 18037:2008,
-- 5.2.2), and the rules that they can break.
use Rattle.std.specs.Prelude.{ℕ, ◌+◌, ◌/◌, nat_lt, Bool, true, false, not, ◌&&◌, ◌||◌, if◌then◌else◌}
use Rattle.std.specs.Prelude.{Option, Some, None, option_map, List, [], ◌∷◌, ◌++◌}
use Rattle.std.specs.Str.{bytes_eq}
use Rattle.ec_check_operands.specs.Faults.{Judgement, rule}
use Rattle.ec_fx.specs.Formats.{format_of}
use Rattle.ec_grammar.specs.Trees as t
use Rattle.ec_space.specs.declared.space.Home.{Home}
use Rattle.ec_space.specs.declared.space.Home.TheVariants.{Flash as FlashHome, Far as FarHome, Data as DataHome}
use Rattle.ec_space.specs.declared.space.SpaceId.{SpaceId}
use Rattle.ec_space.specs.declared.space.SpaceId.TheVariants.{Flash, FarFlash, Data, Generic}
use Rattle.ec_core.specs.declared.programs.LeafInit.{LeafInit}
use Rattle.ec_core.specs.Plain.{PlainType, void, integer, fixed, pointer, array, struct, PlainObject, static, register}
use Rattle.ec_check_names.specs.declared.linkage.Linkage.{Linkage}
use Rattle.ec_check_names.specs.declared.linkage.Linkage.TheVariants.{External}
use Rattle.ec_check_names.specs.declared.specifiers.Specified.{Specified}
use Rattle.ec_check_names.specs.declared.specifiers.Storage.{Storage}
use Rattle.ec_check_names.specs.declared.specifiers.StorageWord.{StorageWord}
use Rattle.ec_check_names.specs.declared.specifiers.StorageWord.TheVariants.{Extern, Static}
use Rattle.ec_check_names.specs.Definitions.{is_defined, number_of}
use Rattle.ec_check_names.specs.Linkage.{linkage_of}
use Rattle.ec_check_names.specs.Names as names
use Rattle.ec_check_names.specs.Spellings.{is_main}
use Rattle.ec_check_expressions.specs.Known.{Known}
use Rattle.ec_check_initialisers.specs.Items.{zero_leaves}
use Rattle.ec_check_initialisers.specs.Statics.{static_leaves, static_sites}
use Rattle.ec_check_declarations.specs.Declarators.{ObjectDeclared, object_declared, object_sites}
use Rattle.ec_check_declarations.specs.Registers.{RegisterDeclared, register_declared, register_sites}
use Rattle.ec_check_declarations.specs.Scopes.{has_room}
use Rattle.ec_check_declarations.specs.Sites.{Site, on, initialiser_in}
use Rattle.ec_check_file_scope.specs.FileNames.{FileKind, an_object, a_register, FileName, conflicts}
use Rattle.ec_check_file_scope.specs.FileNames.{earlier_link}
use Rattle.ec_check_file_scope.specs.FileNames.{is_external, is_registered, differ, other_register}
use Rattle.ec_check_file_scope.specs.States.{Setting, State, known_of, with_scope, broken, with_name}

-- ---- the program's objects

-- one object more, if it is known, and a number of 16 bits is left for it; otherwise not all has a meaning
abbrev pub with_object : Option PlainObject → State → State
with_object None s = broken s
with_object (Some o) s =
    if has_room s.scope.objects
    then with_scope (record { names = s.scope.names; objects = s.scope.objects ++ o ∷ [] }) s else broken s

abbrev pub with_defined : (defined : Bool) → Option PlainObject → State → State
with_defined false o s = s
with_defined true o s = with_object o s

-- ---- declarators of objects

abbrev pub object_name : Setting → List ℕ → Linkage → (defined : Bool) → ObjectDeclared → FileName
object_name r n linkage defined o =
    record { name = n; unit = r.unit; linkage = linkage; defines = defined; kind = an_object o.ty o.konst o.space }

abbrev pub object_named : Setting → List ℕ → Linkage → ObjectDeclared → names.Named
object_named r n linkage o =
    names.an_object (number_of n r.unit linkage false r.definitions) o.ty o.konst o.space false

-- the home of an object by its space
abbrev pub home_of : SpaceId → Home
home_of Flash = FlashHome
home_of FarFlash = FarHome
home_of Data = DataHome
home_of Generic = DataHome

-- the initial values of all leaves: zero where there is no initialiser
abbrev pub initial_leaves : Known → Option t.Start → Option PlainType → Option (List LeafInit)
initial_leaves k None ty = option_map (zero_leaves k.structs) ty
initial_leaves k (Some (t.start equals i)) ty = static_leaves k i ty

abbrev pub initial_sites : Known → Option t.Start → Option PlainType → List Site → List Site
initial_sites k None ty rest = rest
initial_sites k (Some (t.start equals i)) ty rest = initialiser_in (static_sites k i ty []) rest

-- the object of a definition, if its type and initial values are known
abbrev pub object_made : Setting → List ℕ → Linkage → ObjectDeclared → Option PlainType → Option (List LeafInit)
    → Option PlainObject
object_made r n linkage o None leaves = None
object_made r n linkage o (Some ty) None = None
object_made r n linkage o (Some ty) (Some leaves) =
    Some
    (record {
      name = n;
      unit = r.unit;
      external = is_external linkage;
      ty = ty;
      space = o.space;
      home = home_of o.space;
      const = o.konst;
      storage = static leaves;
    })

-- ---- rules of objects

-- 16, at the storage word: an extern declaration has an initialiser
abbrev pub extern_rules_by : (initialised : Bool) → StorageWord → ℕ → List Judgement
extern_rules_by initialised Extern at = rule 16 initialised at ∷ []
extern_rules_by initialised Static at = []

abbrev pub extern_rules : (initialised : Bool) → Option Storage → List Judgement
extern_rules initialised None = []
extern_rules initialised (Some s) = extern_rules_by initialised s.word s.at

-- 6, and 18 of what is no function, at the name
abbrev pub name_rules : FileName → List FileName → ℕ → List Judgement
name_rules d declared at = rule 6 (conflicts d declared) at ∷ rule 18 (is_main d.name) at ∷ []

-- ---- whole declarators

abbrev pub word_of : Option Storage → Option StorageWord
word_of storage = option_map (λ s. s.word) storage

-- the declarator of an object with this name, where it declares so much and its linkage is this: the name is known
-- in its initialiser
abbrev pub named_in : Setting → List ℕ → Linkage → (defined : Bool) → ObjectDeclared → State → State
named_in r n linkage defined o s =
    with_name n (object_named r n linkage o) (object_name r n linkage defined o) s

abbrev pub initialised_in : Setting → List ℕ → Linkage → (defined : Bool) → ObjectDeclared → Option t.Start → State
    → State
initialised_in r n linkage defined o start s =
    with_defined defined (object_made r n linkage o o.ty (initial_leaves (known_of r.ports s) start o.ty)) s

abbrev pub link_of : Setting → Option StorageWord → List ℕ → State → Linkage
link_of r word n s = linkage_of word false (earlier_link n r.unit s.declared)

abbrev pub is_started : Option t.Start → Bool
is_started None = false
is_started (Some i) = true

-- the state behind a declarator that declares so much
abbrev pub with_declared : Setting → Option Storage → t.InitDeclarator → State → ObjectDeclared → State
with_declared r storage (t.init_declarator (t.declarator stars (t.identifier at n) shape) start) s o =
    initialised_in r n (link_of r (word_of storage) n s) (is_defined (word_of storage) false) o start
    (named_in r n (link_of r (word_of storage) n s) (is_defined (word_of storage) false) o s)

abbrev pub declared_sites : Setting → Option Storage → t.InitDeclarator → State → ObjectDeclared → List Site → List Site
declared_sites r storage (t.init_declarator (t.declarator stars (t.identifier at n) shape) start) s o rest =
    on (extern_rules (is_started start) storage)
    ∷ on (name_rules (object_name r n (link_of r (word_of storage) n s) (is_defined (word_of storage) false) o)
    s.declared at.index)
    ∷ initial_sites
    (known_of r.ports (named_in r n (link_of r (word_of storage) n s) (is_defined (word_of storage) false) o s)) start
    o.ty rest

abbrev pub object_of : Setting → Specified → t.InitDeclarator → State → ObjectDeclared
object_of r said (t.init_declarator d start) s = object_declared (known_of r.ports s) said d start

abbrev pub sites_of_object : Setting → Specified → t.InitDeclarator → State → List Site → List Site
sites_of_object r said (t.init_declarator d start) s rest = object_sites (known_of r.ports s) true said d start rest

abbrev pub after_object : Setting → Specified → Option Storage → t.InitDeclarator → State → State
after_object r said storage d s = with_declared r storage d s (object_of r said d s)

-- the rules of the declarator; 16 at `extern`; 6 and 18 at the name; those of the initialiser
abbrev pub file_object_sites : Setting → Specified → Option Storage → t.InitDeclarator → State → List Site → List Site
file_object_sites r said storage d s rest =
    sites_of_object r said d s (declared_sites r storage d s (object_of r said d s) rest)

-- ---- named registers

-- the bytes of a number
abbrev pub number_size : PlainType → ℕ
number_size void = 0
number_size (integer signed bytes) = bytes
number_size (fixed kind saturates) = (format_of kind).bits / 8
number_size (pointer space konst to) = 0
number_size (array of len) = 0
number_size (struct index) = 0

-- two objects lie in one register: the first begins before the second ends, and the second before the first ends
abbrev pub overlap : ℕ → PlainType → ℕ → PlainType → Bool
overlap p a q b = nat_lt p (q + number_size b) && nat_lt q (p + number_size a)

abbrev pub share_of : Option ℕ → Option PlainType → Option ℕ → Option PlainType → Bool
share_of None a q b = false
share_of (Some p) None q b = false
share_of (Some p) (Some a) None b = false
share_of (Some p) (Some a) (Some q) None = false
share_of (Some p) (Some a) (Some q) (Some b) = overlap p a q b

abbrev pub share : FileKind → FileKind → Bool
share (a_register p a c) (a_register q b d) = share_of p a q b
share x y = false

abbrev pub same_register : FileKind → FileKind → Bool
same_register (a_register p a c) (a_register q b d) = not (differ a b) && not (other_register p q)
same_register x y = false

-- 13: a register is that of an object before it, which has another name, type or first register
abbrev pub shares_register : FileName → List FileName → Bool
shares_register d [] = false
shares_register d (e ∷ es) =
    share d.kind e.kind && not (bytes_eq d.name e.name && same_register d.kind e.kind) || shares_register d es

abbrev pub register_name : Setting → List ℕ → RegisterDeclared → FileName
register_name r n o =
    record { name = n; unit = r.unit; linkage = External; defines = true; kind = a_register o.first o.ty o.konst }

abbrev pub register_named : Setting → List ℕ → RegisterDeclared → names.Named
register_named r n o = names.an_object (number_of n r.unit External false r.definitions) o.ty o.konst Generic true

abbrev pub register_made : Setting → List ℕ → RegisterDeclared → Option ℕ → Option PlainType → Option PlainObject
register_made r n o None ty = None
register_made r n o (Some first) None = None
register_made r n o (Some first) (Some ty) =
    Some
    (record {
      name = n;
      unit = r.unit;
      external = true;
      ty = ty;
      space = Generic;
      home = DataHome;
      const = o.konst;
      storage = register first;
    })

-- the state behind a declaration that declares so much: the object stands once, however many units declare it
abbrev pub with_register : Setting → t.RegisterObject → State → RegisterDeclared → State
with_register r (t.register_object w reg ss (t.identifier at n) semicolon) s o =
    with_defined (not (is_registered n s.declared)) (register_made r n o o.first o.ty)
    (with_name n (register_named r n o) (register_name r n o) s)

abbrev pub register_name_sites : Setting → t.RegisterObject → State → RegisterDeclared → List Site → List Site
register_name_sites r (t.register_object w (t.identifier at reg) ss (t.identifier name_at n) semicolon) s o rest =
    on (rule 13 (shares_register (register_name r n o) s.declared) at.index ∷ [])
    ∷ on (name_rules (register_name r n o) s.declared name_at.index) ∷ rest

abbrev pub after_register : Setting → t.RegisterObject → State → State
after_register r d s = with_register r d s (register_declared (known_of r.ports s) d)

-- the rules of the declaration; 13 at the register; 6 and 18 at the name
abbrev pub file_register_sites : Setting → t.RegisterObject → State → List Site → List Site
file_register_sites r d s rest =
    register_sites (known_of r.ports s) d
    (register_name_sites r d s (register_declared (known_of r.ports s) d) rest)
