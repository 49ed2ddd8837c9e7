-- Each unit is read again from its tokens, or told too deep in time.
use Rattle.std.proofs.Common.{◌≡◌, ℕ, ◌≤◌, List, [], ◌∷◌, length, Ok, Err, None, refl, ap, ◌∙◌, arith, inl, inr, ◌⊎◌}
use Rattle.ec_grammar.specs.declared.token.PunctKind.TheVariants.{LeftBrace, RightBrace, Semicolon}
use Rattle.ec_grammar.specs.declared.Spot.{Spot}
use Rattle.ec_grammar.specs.Tokens as tokens
use Rattle.ec_grammar.specs.Tokens.{Placed}
use Rattle.ec_grammar.specs.Trees as t
use Rattle.ec_grammar.specs.Trees.{Leaf}
use Rattle.ec_grammar.specs.Spelling.{leaf, mark, of_list, of_option, of_identifier, of_specs, of_declarator, of_start}
use Rattle.ec_grammar.specs.Spelling.{of_next_init_declarator, of_declaration, of_member, of_compound, of_function, of_external, of_tree}
use Rattle.ec_grammar.specs.Grammar.{Every, Is_specs, Is_member, Is_declaration, Is_function, Is_external, Is_tree, Derives}
use Rattle.ec_grammar.specs.Nesting as nest
use Rattle.ec_grammar.specs.Nesting.{NestsIn}
use Rattle.ec_parse_laws.specs.Reading.{too_deep, leaf_if, taken, within, is_brace, members_at, structure_at, structure_by, register_by}
use Rattle.ec_parse_laws.specs.Reading.{function_at, defined_by, external_at, unit_by, read}
use Rattle.ec_parse_laws.specs.Laws.{tree_of}
use Rattle.ec_parse_laws.specs.Passing.{PassesList, PassesOption, PassesStart, PassesNextInitDeclarator, PassesDeclarator}
use Rattle.ec_parse_laws.specs.Passing.{PassesDeclaration, PassesMember, PassesCompound, PassesExternal, PassesTree}
use Rattle.ec_parse_laws.proofs.Past.{past_length, specs_past, identifier_past, member_long, external_long, statement_long}
use Rattle.ec_parse_laws.proofs.Lists.{specs_read, specs_start}
use Rattle.ec_parse_laws.proofs.Declarations.{declarator_no_spec, started_closed}
use Rattle.ec_parse_laws.proofs.Statements.{specs_no_pragma}
use Rattle.ec_parse_laws.proofs.Units.{no_member, specs_no_register, specs_no_structure, declarator_no_brace, started_no_brace}
use Rattle.ec_parse_laws.proofs.Units.{register_read, no_external}
use Rattle.ec_parse_laws.proofs.Told.{Told, FitsIn, told_part, every_fits, ToldAt, ToldItems, told_ok, told_map, told_wide, told_bind}
use Rattle.ec_parse_laws.proofs.Told.{told_then, told_skip, told_begun, told_many}
use Rattle.ec_parse_laws.proofs.ToldDeclarations.{declarator_told, declared_told, declarator_first, member_told, member_at_told}
use Rattle.ec_parse_laws.proofs.ToldStatements.{tells_compound}

abbrev FitsExternal : ℕ → ℕ → t.External → Type 0
FitsExternal limit n x = FitsIn limit n (nest.height_external x) (nest.opens_external x)

-- ---- struct definitions

member_items : (limit n : ℕ) (ms : List t.Member) (rest : List Leaf) → Every Is_member ms → ToldItems (members_at
    (within limit n)) of_member (PassesMember limit n) (λ m. FitsIn limit n (nest.height_member m) (nest.opens_member m)) ms rest
member_items limit n [] rest is = tt
member_items limit n (m ∷ ms) rest is = (member_at_told limit n m (of_list of_member ms rest) is.0, member_items limit n ms rest is.1)

structure_told : (limit n : ℕ) (s : Spot) (tag : t.Identifier) (l : Spot) (m : t.Member) (more : List t.Member) (r e : Spot)
    (rest : List Leaf) → Is_member m → Every Is_member more
    → Told (length (of_member m (of_list of_member more (mark r RightBrace ∷ mark e Semicolon ∷ rest))))
    (FitsExternal limit n (t.structure_item (t.structure s tag l m more r e)))
    (λ q. PassesExternal limit n (t.structure_item (t.structure s tag l m more r e)) rest q)
    (structure_by (within limit n) s tag l (of_member m (of_list of_member more (mark r RightBrace ∷ mark e Semicolon ∷ rest))))
    (t.structure s tag l m more r e) rest
unfolding structure_by leaf_if
structure_told limit n s tag l m more r e rest is_m is_more =
    let end : List Leaf = mark r RightBrace ∷ mark e Semicolon ∷ rest in
    let x : t.Structure = t.structure s tag l m more r e in
    told_bind _ _ m (of_list of_member more end) x rest
    (told_part (λ f. (omega (arith, f.0), omega (arith, f.1))) (member_told limit n m (of_list of_member more end) is_m))
    (told_then _ _ more end x rest (told_many (members_at (within limit n)) of_member (PassesMember limit n) _ member_long more end
    (λ f. every_fits nest.height_member nest.opens_member limit n more (omega (arith, f.0), omega (arith, f.1)))
    (member_items limit n more end is_more) (no_member limit n r (mark e Semicolon ∷ rest))) refl (omega arith)) (omega arith)

-- ---- declarations and functions

declared_external : (limit n : ℕ) (d : t.Declaration) (rest : List Leaf) → Is_declaration d
    → Told (length (of_declaration d rest)) (FitsExternal limit n (t.declaration_item d)) (λ q. PassesDeclaration limit n d rest q)
    (defined_by (within limit n) (of_declaration d rest)) (t.declaration_item d) rest
unfolding defined_by function_at
declared_external limit n (t.declaration s (t.init_declarator d i) more e) rest is =
    let x : t.Declaration = t.declaration s (t.init_declarator d i) more e in
    let after : List Leaf = of_list of_next_init_declarator more (mark e Semicolon ∷ rest) in
    let started : List Leaf = of_option of_start i after in
    told_skip _ _ s (of_declarator d started) (t.declaration_item x) rest
    (specs_read s (of_declarator d started) is.0 (declarator_no_spec d started))
    (told_map (length (of_declarator d started)) _ _ _ (t.declaration_item x) rest
    (declarator_first (λ q. PassesDeclarator limit n d started q) (λ q. PassesOption (λ x. PassesStart limit n x after q) i)
    (λ q. PassesList of_next_init_declarator (PassesNextInitDeclarator limit n) more (mark e Semicolon ∷ rest) q))
    (told_bind {c = length started} _ _ d started (t.declaration_item x) rest
    (told_part (λ f. (omega (arith, f.0), omega (arith, f.1))) (declarator_told limit n d started is.1.0 (started_closed i more e rest)))
    (rw (started_no_brace i more e rest)
    (told_then _ _ x rest (t.declaration_item x) rest (declared_told limit n s d i more e rest is.1.1 is.2) refl (omega arith)))
    (omega arith)))
    (past_length _ _ (specs_past s (of_declarator d started)))

function_external : (limit n : ℕ) (f : t.Function) (rest : List Leaf) → Is_function f
    → Told (length (of_function f rest)) (FitsExternal limit n (t.function_item f)) (λ q. PassesExternal limit n (t.function_item f) rest q)
    (defined_by (within limit n) (of_function f rest)) (t.function_item f) rest
unfolding defined_by function_at leaf_if
function_external limit n (t.function (t.type_name s stars) x l p r (t.compound a pragmas b c)) rest is =
    let f : t.Function = t.function (t.type_name s stars) x l p r (t.compound a pragmas b c) in
    let d : t.Declarator = t.declarator stars x (t.function_shape l p r) in
    let body : List Leaf = of_compound (t.compound a pragmas b c) rest in
    told_skip _ _ s (of_declarator d body) (t.function_item f) rest (specs_read s (of_declarator d body) is.0.0 (declarator_no_spec d body))
    (told_bind {c = length body} _ _ d body (t.function_item f) rest
    (told_part (λ f. (omega (arith, f.0), omega (arith, f.1))) (declarator_told limit n d body (is.0.1, is.1) (omega arith)))
    (told_begun (λ m q. PassesCompound limit m (t.compound a pragmas b c) rest q) is_brace limit n body _ (t.function_item f) rest refl
    (λ f. omega (arith, f.1))
    (λ m deep. told_then _ _ (t.compound a pragmas b c) rest (t.function_item f) rest (told_part (λ f. (
      omega (arith, f.0),
      omega (arith, f.1, deep),
    )) (tells_compound (t.compound a pragmas b c) limit m limit rest (omega arith) is.2)) refl (omega arith)) (omega arith)
    (statement_long (t.block (t.compound a pragmas b c)) rest)) (omega arith))
    (past_length _ _ (specs_past s (of_declarator d body)))

-- what begins with specifiers is no pragma, no struct definition and no named register
defined_at : {F : Type 0} {Q : ℕ → Type 0} (limit n : ℕ) (s : t.Specs) (ts : List Leaf) (x : t.External) (rest : List Leaf)
    → Is_specs s → taken LeftBrace ts ≡ None → Told (length (of_specs s ts)) F Q (defined_by (within limit n) (of_specs s ts)) x rest
    → ToldAt (length (of_specs s ts)) F Q (external_at (within limit n) (of_specs s ts)) x rest
unfolding external_at
defined_at limit n s ts x rest is no_brace h = (
  defined_by (within limit n) (of_specs s ts),
  rw (specs_no_pragma s ts, specs_no_structure s ts is no_brace, specs_no_register s ts is, (specs_start s ts is).1) refl,
  h,
)

external_told : (limit n : ℕ) (x : t.External) (rest : List Leaf) → Is_external x → ToldAt (length (of_external x rest))
    (FitsExternal limit n x) (λ q. PassesExternal limit n x rest q) (external_at (within limit n) (of_external x rest)) x rest
unfolding external_at structure_at leaf_if
external_told limit n (t.pragma_item p) rest is = (_, refl, told_ok _ _ (t.pragma_item p) rest refl (omega arith))
external_told limit n (t.structure_item (t.structure s (t.identifier k a) l m more r e)) rest is =
    let x : t.Structure = t.structure s (t.identifier k a) l m more r e in
    let ts : List Leaf = of_member m (of_list of_member more (mark r RightBrace ∷ mark e Semicolon ∷ rest)) in (
      _,
      refl,
      told_then _ _ x rest (t.structure_item x) rest (told_wide (length ts) _ _ (structure_by (within limit n) s (t.identifier k a) l ts) x
          rest (omega arith) (structure_told limit n s (t.identifier k a) l m more r e rest is.0 is.1)) refl (omega arith),
    )
external_told limit n (t.register_item (t.register_object s k sp x e)) rest is =
    let o : t.RegisterObject = t.register_object s k sp x e in (
      _,
      refl,
      told_then _ _ o rest (t.register_item o) rest
          (told_ok _ (register_by s (of_identifier k (of_specs sp (of_identifier x (mark e Semicolon ∷ rest))))) o rest
          (register_read s k sp x e rest is)
          (omega (
            arith,
            past_length _ _ (identifier_past x (mark e Semicolon ∷ rest)),
            past_length _ _ (specs_past sp (of_identifier x (mark e Semicolon ∷ rest))),
            past_length _ _ (identifier_past k (of_specs sp (of_identifier x (mark e Semicolon ∷ rest)))),
          ))) refl (omega arith),
    )
external_told limit n (t.declaration_item (t.declaration s (t.init_declarator d i) more e)) rest is =
    defined_at limit n s (of_declarator d (of_option of_start i (of_list of_next_init_declarator more (mark e Semicolon ∷ rest))))
    (t.declaration_item (t.declaration s (t.init_declarator d i) more e)) rest is.0 (declarator_no_brace d _)
    (declared_external limit n (t.declaration s (t.init_declarator d i) more e) rest is)
external_told limit n (t.function_item (t.function (t.type_name s stars) x l p r b)) rest is =
    defined_at limit n s (of_declarator (t.declarator stars x (t.function_shape l p r)) (of_compound b rest))
    (t.function_item (t.function (t.type_name s stars) x l p r b)) rest is.0.0
    (declarator_no_brace (t.declarator stars x (t.function_shape l p r)) _)
    (function_external limit n (t.function (t.type_name s stars) x l p r b) rest is)

-- ---- units

external_items : (limit n : ℕ) (xs : List t.External) (rest : List Leaf) → Every Is_external xs
    → ToldItems (external_at (within limit n)) of_external (PassesExternal limit n) (FitsExternal limit n) xs rest
external_items limit n [] rest is = tt
external_items limit n (x ∷ xs) rest is = (external_told limit n x (of_list of_external xs rest) is.0, external_items limit n xs rest is.1)

unit_told : (limit : ℕ) (u : t.Tree) → Is_tree u
    → Told (length (of_tree u [])) (NestsIn limit u) (λ q. PassesTree limit u q) (unit_by (within limit limit) (of_tree u [])) u []
unfolding unit_by leaf_if
unit_told limit (t.tree all s) is =
    let end : List Leaf = leaf s tokens.end ∷ [] in
    told_then _ _ all end (t.tree all s) [] (told_many (external_at (within limit limit)) of_external (PassesExternal limit limit)
    _ external_long all end (λ nests. every_fits nest.height_external nest.opens_external limit limit all nests)
    (external_items limit limit all end is) (no_external limit limit s [])) refl (omega arith)

-- every derivation is read whole; or it is told too deep, and then nests deeper than the limit
pub read_again : (limit : ℕ) (u : t.Tree) → Is_tree u
    → (read limit (of_tree u []) ≡ Ok u) ⊎ ((place : ℕ) × (read limit (of_tree u []) ≡ Err (too_deep place)) × (NestsIn limit u → ⊥))
unfolding read
read_again limit u is = elim (unit_told limit u is).answer [ inl e ↦ inl (rw e.0 refl) | inr e ↦ inr (e.0, rw e.1 refl, e.4) ]

read_tells : (limit : ℕ) (u : t.Tree) → Is_tree u → (place : ℕ) → PassesTree limit u place
    → (p : ℕ) × (read limit (of_tree u []) ≡ Err (too_deep p)) × (place ≤ p)
unfolding read
read_tells limit u is place passes = elim (unit_told limit u is).answer [
  | inl e ↦ absurd (e.1 place passes)
  | inr e ↦ (e.0, rw e.1 refl, e.3 place passes)
]

-- a token at which nesting passes the limit is told too deep, or an earlier one is
pub tells_in_time : (limit : ℕ) (tokens : List Placed) (u : t.Tree) (place : ℕ) → Derives tokens u → PassesTree limit u place
    → (p : ℕ) × (tree_of limit tokens ≡ Err (too_deep p)) × (place ≤ p)
tells_in_time limit tokens u place derives passes =
    let found = read_tells limit u derives.1 place passes in
    (found.0, ap (read limit) derives.0 ∙ found.1, found.2)
