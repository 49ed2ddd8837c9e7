-- No reader of a unit looks at a token past the one at which it stops.
use Rattle.std.proofs.Common.{◌≡◌, ℕ, zero, suc, List, [], ◌∷◌, length, true, Ok, Err, Option, Some, None, refl, ◌∙◌, inl, inr, ◌⊎◌, subst}
use Rattle.ec_grammar.specs.declared.token.WordKind.TheVariants as words
use Rattle.ec_grammar.specs.declared.token.PunctKind.{PunctKind}
use Rattle.ec_grammar.specs.declared.token.PunctKind.TheVariants.{LeftBrace}
use Rattle.ec_grammar.specs.declared.Spot.{Spot}
use Rattle.ec_grammar.specs.Tokens as tokens
use Rattle.ec_grammar.specs.Tokens.{Lexeme}
use Rattle.ec_grammar.specs.Trees as t
use Rattle.ec_grammar.specs.Trees.{Leaf}
use Rattle.ec_grammar.specs.Spelling.{leaf, word}
use Rattle.ec_parse_laws.specs.Reading.{syntax, Read, ◌>>=◌, when, leaf_if, word_if, name_of, taken, taken_word, starts_specs, many, Depth}
use Rattle.ec_parse_laws.specs.Reading.{begun, spec_at, specs_by, declarator_by, declared_by, structure_at, structure_by, register_by}
use Rattle.ec_parse_laws.specs.Reading.{heading_of, function_at, is_brace, defined_by, external_at, opened_at, within}
use Rattle.ec_parse_laws.proofs.Basics.{no_some, some_is, inner_at}
use Rattle.ec_parse_laws.proofs.Local.{Local, Behind, behind, local_bind, local_give, local_fail, local_same, local_take, local_seen}
use Rattle.ec_parse_laws.proofs.Local.{local_needed, local_begun}
use Rattle.ec_parse_laws.proofs.LocalItems.{Eats, LocalItem, local_many, item_none, item_some, item_leaf, item_seen, item_heads, eats_first}
use Rattle.ec_parse_laws.proofs.LocalExpressions.{LocalInner, LocalIn, local_identifier, item_spec, local_specs, local_expression}
use Rattle.ec_parse_laws.proofs.LocalExpressions.{local_assignment, local_conditional, local_cast, local_unary, when_when}
use Rattle.ec_parse_laws.proofs.LocalDeclarations.{local_declarator, local_declared, local_initialiser, local_declaration, local_members}
use Rattle.ec_parse_laws.proofs.LocalDeclarations.{item_members, eats_specs}
use Rattle.ec_parse_laws.proofs.LocalStatements.{local_statement, eats_statement, local_compound}

-- ---- the readers inside a construct

pub local_within : (limit n : ℕ) → LocalIn (within limit n)
unfolding opened_at
local_within limit zero i e = absurd (no_some i e)
local_within limit (suc n) i e = subst LocalInner (some_is (inner_at limit n) i e) (record {
  expression = λ room. local_expression (within limit n) (local_within limit n) room;
  assignment = λ room. local_assignment (within limit n) (local_within limit n) room;
  conditional = λ room. local_conditional (within limit n) (local_within limit n) room;
  cast = λ room. local_cast (within limit n) (local_within limit n) room;
  unary = λ room. local_unary (within limit n) (local_within limit n) room;
  initialiser = λ room. local_initialiser (within limit n) (local_within limit n) room;
  declaration = local_declaration (within limit n) (local_within limit n);
  statement = λ room. local_statement (within limit n) (local_within limit n) room;
  statement_eats = λ room. eats_statement (within limit n) (local_within limit n) room;
  compound = λ room. local_compound (within limit n) (local_within limit n) room;
})

-- ---- structures and registers

local_structure : (inner : Depth) → LocalIn inner → (s : Spot) (tag : t.Identifier) (l : Spot) → Local (structure_by inner s tag l)
unfolding structure_by
local_structure inner h s tag l = local_bind _ _ (local_members inner h) (λ m. local_bind _ _ (local_many _ (item_members inner h))
    (λ more. local_needed _ _ refl (λ r. behind _ (local_needed _ _ refl (λ e. behind _ (local_give _))))))

local_register : (s : Spot) → Local (register_by s)
unfolding register_by
local_register s = local_bind _ _ local_identifier
    (λ r. local_bind _ _ local_specs (λ sp. local_bind _ _ local_identifier (λ n. local_needed _ _ refl (λ e. behind _ (local_give _)))))

-- ---- functions and declarations

abbrev defined_as : Depth → t.Specs → t.Declarator × List Leaf → Read t.External
defined_as inner s d = when (function_at s d.0 d.1)
    (λ f. begun is_brace inner d.1 (λ i. i.compound i.limit d.1 >>= λ b. Ok (t.function_item (t.function f.0 f.1 f.2 f.3 f.4 b.0), b.1)))
    (declared_by inner s d.0 d.1 >>= λ x. Ok (t.declaration_item x.0, x.1))

abbrev defined_after : Depth → t.Specs × List Leaf → Read t.External
defined_after inner s = declarator_by inner s.1 >>= defined_as inner s.0

when_none : {A B C : Type 0} (o : Option A) (f : B → C) (g : C) → when (when o (λ w. None) None) f g ≡ g
when_none (Some w) f g = refl
when_none None f g = refl

local_defined_as : (inner : Depth) → LocalIn inner → (s : t.Specs) (d : t.Declarator) → Local (λ ts. defined_as inner s (d, ts))
unfolding function_at
local_defined_as inner h s d = go (heading_of s d)
  where
    declared : Local (λ ts. declared_by inner s d ts >>= λ x. Ok (t.declaration_item x.0, x.1))
    declared = local_bind _ _ (local_declared inner h s d) (λ x. local_give _)

    go : (o : Option (t.TypeName × t.Identifier × Spot × t.Params × Spot)) → Local (λ ts. when (when (taken LeftBrace ts) (λ l. o) None)
        (λ f. begun is_brace inner ts (λ i. i.compound i.limit ts >>= λ b. Ok (t.function_item (t.function f.0 f.1 f.2 f.3 f.4 b.0), b.1)))
        (declared_by inner s d ts >>= λ x. Ok (t.declaration_item x.0, x.1)))
    go (Some f) = local_same _ _ (λ ts. when_when (taken LeftBrace ts) f _ _) (local_seen _ _ _ refl
        (local_begun is_brace inner _ (λ i is. local_bind _ _ ((h i is).compound i.limit) (λ b. local_give _))) declared)
    go None = local_same _ _ (λ ts. when_none (taken LeftBrace ts) _ _) declared

local_defined_after : (inner : Depth) → LocalIn inner → (s : t.Specs) → Local (λ ts. defined_after inner (s, ts))
local_defined_after inner h s = local_bind _ (defined_as inner s) (local_declarator inner h) (λ d. local_defined_as inner h s d)

local_defined : (inner : Depth) → LocalIn inner → Local (defined_by inner)
unfolding defined_by
local_defined inner h = local_bind _ (defined_after inner) local_specs (λ s. local_defined_after inner h s)

eats_defined : (inner : Depth) → LocalIn inner → Eats (defined_by inner)
unfolding defined_by
eats_defined inner h = eats_first _ (defined_after inner) eats_specs (λ s. local_defined_after inner h s)

-- ---- what begins with `struct`

-- the specifiers that `struct` and a tag begin
abbrev struct_specs : Spot → t.Identifier × List Leaf → Read t.Specs
struct_specs s n = many spec_at n.1 >>= λ more. Ok (t.specs (t.struct_spec s n.0) more.0, more.1)

abbrev structure_open : Depth → Spot → t.Identifier → Spot × PunctKind × List Leaf → Read t.External
structure_open inner s n l = structure_by inner s n l.0 l.2 >>= λ x. Ok (t.structure_item x.0, x.1)

-- what follows `struct` and a tag
abbrev after_tag : Depth → Spot → t.Identifier × List Leaf → Read t.External
after_tag inner s n = when (taken LeftBrace n.1) (structure_open inner s n.0) (struct_specs s n >>= defined_after inner)

abbrev named : Spot × List ℕ × List Leaf → t.Identifier × List Leaf
named x = (t.identifier x.0 x.1, x.2)

-- what follows `struct`
abbrev after_struct : Depth → Spot → List Leaf → Read t.External
after_struct inner s ts = when (leaf_if name_of ts) (λ x. after_tag inner s (named x)) (Err (syntax (length ts)))

local_after_tag : (inner : Depth) → LocalIn inner → (s : Spot) (n : t.Identifier) → Local (λ ts. after_tag inner s (n, ts))
local_after_tag inner h s n =
    local_take _ (structure_open inner s n) _ refl (λ l p. local_bind _ _ (local_structure inner h s n l) (λ x. local_give _))
    (local_bind _ (defined_after inner) (local_bind _ _ (local_many _ item_spec) (λ more. local_give _))
    (λ sp. local_defined_after inner h sp))

local_after_struct : (inner : Depth) → LocalIn inner → (s : Spot) → Local (after_struct inner s)
local_after_struct inner h s =
    local_take _ (λ x. after_tag inner s (named x)) _ refl (λ i n. local_after_tag inner h s (t.identifier i n)) (local_fail true)

-- an item that begins with a word that begins specifiers
abbrev specified_at : Depth → List Leaf → Option (Read t.External)
specified_at inner ts = when (leaf_if (word_if starts_specs) ts) (λ w. Some (defined_by inner ts)) None

abbrev registered_at : Depth → List Leaf → Option (Read t.External)
registered_at inner ts =
    when (taken_word words.Register ts) (λ r. Some (register_by r.0 r.2 >>= λ x. Ok (t.register_item x.0, x.1))) (specified_at inner ts)

abbrev Head : Type 0
Head = Spot × t.Identifier × Spot × List Leaf

abbrev structure_from : Depth → Head → Option (Read t.External)
structure_from inner s = Some (structure_by inner s.0 s.1 s.2 s.3 >>= λ x. Ok (t.structure_item x.0, x.1))

abbrev structured_at : Depth → List Leaf → Option (Read t.External)
structured_at inner ts = when (structure_at ts) (structure_from inner) (registered_at inner ts)

item_registered : (inner : Depth) → LocalIn inner → LocalItem (registered_at inner)
item_registered inner h = item_leaf _ _ _ refl (λ s w. behind _ (local_bind _ _ (local_register s) (λ x. local_give _)))
    (item_seen _ _ _ refl (item_some _ (local_defined inner h) (eats_defined inner h)) item_none)

abbrev head_of : Spot → t.Identifier → Spot × PunctKind × List Leaf → Option Head
head_of s n l = Some (s, n, l.0, l.2)

abbrev head_at : Spot → t.Identifier × List Leaf → Option Head
head_at s n = when (taken LeftBrace n.1) (head_of s n.0) None

struct_named : (inner : Depth) (s : Spot) (n : t.Identifier) (ts : List Leaf)
    → when (head_at s (n, ts)) (structure_from inner) (Some (struct_specs s (n, ts) >>= defined_after inner))
    ≡ Some (after_tag inner s (n, ts))
struct_named inner s n ts = go (taken LeftBrace ts)
  where
    go : (o : Option (Spot × PunctKind × List Leaf))
        → when (when o (head_of s n) None) (structure_from inner) (Some (struct_specs s (n, ts) >>= defined_after inner))
        ≡ Some (when o (structure_open inner s n) (struct_specs s (n, ts) >>= defined_after inner))
    go (Some l) = refl
    go None = refl

abbrev some_named : Spot × List ℕ × List Leaf → Option (t.Identifier × List Leaf)
some_named x = Some (named x)

abbrev ok_named : Spot × List ℕ × List Leaf → Read t.Identifier
ok_named x = Ok (named x)

abbrev tagged : Spot → t.Identifier × List Leaf → Read t.Spec
tagged s n = Ok (t.struct_spec s n.0, n.1)

abbrev specs_from : t.Spec × List Leaf → Read t.Specs
specs_from sp = many spec_at sp.1 >>= λ more. Ok (t.specs sp.0 more.0, more.1)

-- `struct`, where this is what its tag is
abbrev struct_at : Depth → Spot → Option (Spot × List ℕ × List Leaf) → List Leaf → Option (Read t.External)
struct_at inner s o ts = when (when (when o some_named None) (head_at s) None) (structure_from inner)
    (Some (((when o ok_named (Err (syntax (length ts))) >>= tagged s) >>= specs_from) >>= defined_after inner))

struct_either : (inner : Depth) (s : Spot) (o : Option (Spot × List ℕ × List Leaf)) (ts : List Leaf)
    → struct_at inner s o ts ≡ Some (when o (λ x. after_tag inner s (named x)) (Err (syntax (length ts))))
struct_either inner s (Some x) ts = struct_named inner s (t.identifier x.0 x.1) x.2
struct_either inner s None ts = refl

struct_is : (inner : Depth) (s : Spot) (ts : List Leaf)
    → structured_at inner (word s words.Struct ∷ ts) ≡ struct_at inner s (leaf_if name_of ts) ts
unfolding structure_at defined_by specs_by spec_at leaf_if
struct_is inner s ts = refl

structured_heads : (inner : Depth) → LocalIn inner → (s : Spot) (x : Lexeme)
    → ((other : List Leaf → Option (Read t.External)) × LocalItem other
    × ((ts : List Leaf) → structured_at inner (leaf s x ∷ ts) ≡ other (leaf s x ∷ ts))) ⊎ ((x ≡ tokens.end → ⊥)
    × (f : List Leaf → Read t.External) × Behind f × ((ts : List Leaf) → structured_at inner (leaf s x ∷ ts) ≡ Some (f ts)))
unfolding structure_at leaf_if
structured_heads inner h s (tokens.word words.Struct) = inr (
  λ is. cc,
  after_struct inner s,
  behind _ (local_after_struct inner h s),
  λ ts. struct_is inner s ts ∙ struct_either inner s (leaf_if name_of ts) ts,
)
structured_heads inner h s (tokens.word _) = inl (registered_at inner, item_registered inner h, λ ts. refl)
structured_heads inner h s _ = inl (registered_at inner, item_registered inner h, λ ts. refl)

item_structured : (inner : Depth) → LocalIn inner → LocalItem (structured_at inner)
unfolding structure_at leaf_if
item_structured inner h =
    item_heads (structured_at inner) ((item_registered inner h).eats []) (λ x. structured_heads inner h x.spot x.lexeme)

pub item_external : (inner : Depth) → LocalIn inner → LocalItem (external_at inner)
unfolding external_at
item_external inner h = item_leaf _ _ (structured_at inner) refl (λ s p. behind _ (local_give _)) (item_structured inner h)
