-- Each declaration is read again from its tokens, or told too deep in time.
use Rattle.std.proofs.Common.{ℕ, suc, ◌≤◌, List, [], ◌∷◌, length, Ok, Option, Some, None, refl, sym, arith, inl, inr, ◌⊎◌, subst}
use Rattle.std.specs.Prelude.{max}
use Rattle.ec_grammar.specs.declared.token.PunctKind.TheVariants.{LeftBrace, RightBrace, LeftParenthesis, RightParenthesis, LeftBracket}
use Rattle.ec_grammar.specs.declared.token.PunctKind.TheVariants.{RightBracket, Comma, Semicolon, Assign}
use Rattle.ec_grammar.specs.declared.Spot.{Spot}
use Rattle.ec_grammar.specs.Trees as t
use Rattle.ec_grammar.specs.Trees.{Leaf}
use Rattle.ec_grammar.specs.Spelling.{mark, of_list, of_option, of_identifier, of_star, of_conditional, of_assignment, of_params, of_shape}
use Rattle.ec_grammar.specs.Spelling.{of_declarator, of_comma, of_initialiser, of_initialisers, of_start, of_init_declarator}
use Rattle.ec_grammar.specs.Spelling.{of_next_init_declarator, of_declaration, of_next_declarator, of_member}
use Rattle.ec_grammar.specs.Grammar.{Every, Given, Is_conditional, Is_shape, Is_declarator, Is_initialiser, Are_initialisers, Is_start}
use Rattle.ec_grammar.specs.Grammar.{Is_init_declarator, Is_next_init_declarator, Is_declaration, Is_next_declarator, Is_member}
use Rattle.ec_grammar.specs.Nesting as nest
use Rattle.ec_grammar.specs.Nesting.{height_option}
use Rattle.ec_parse_laws.specs.Reading.{leaf_if, many, behind_comma, within, array_by, shape_by, declarator_by, initialiser_at, braces_by}
use Rattle.ec_parse_laws.specs.Reading.{initialiser_by, start_by, init_declarator_by, declared_by, declaration_by, members_by, members_at}
use Rattle.ec_parse_laws.specs.Passing.{PassesOption, PassesList, PassesConditional, PassesShape, PassesDeclarator, PassesInitialiser}
use Rattle.ec_parse_laws.specs.Passing.{PassesInitialisers, PassesStart, PassesInitDeclarator, PassesNextInitDeclarator, PassesDeclaration}
use Rattle.ec_parse_laws.specs.Passing.{PassesNextDeclarator, PassesMember}
use Rattle.ec_parse_laws.proofs.Basics.{inner_at}
use Rattle.ec_parse_laws.proofs.Follow.{Closed, no_punct, taken_self, conditional_starts, assignment_starts, not_taken}
use Rattle.ec_parse_laws.proofs.Past.{past_length, list_past, option_past, star_past, specs_past, conditional_past, params_past}
use Rattle.ec_parse_laws.proofs.Past.{initialiser_past, initialisers_past, comma_past, next_init_declarator_long, next_declarator_long}
use Rattle.ec_parse_laws.proofs.Lists.{specs_read, stars_read, specs_start, after_type_name}
use Rattle.ec_parse_laws.proofs.Declarations.{params_read, declarator_no_spec, of_initial_pair, initial_pairs, initialisers_pairs}
use Rattle.ec_parse_laws.proofs.Declarations.{of_initial_pairs, initial_long, no_initialiser, initialiser_no_close, initialisers_closed}
use Rattle.ec_parse_laws.proofs.Declarations.{comma_read, start_closed, init_closed, no_init, started_closed, declarators_closed}
use Rattle.ec_parse_laws.proofs.Declarations.{no_declarator}
use Rattle.ec_parse_laws.proofs.Fits.{fits_initialiser}
use Rattle.ec_parse_laws.proofs.Told.{Told, FitsIn, told_part, every_fits, ToldAt, ToldItems, Either, told_ok, told_map, told_wide}
use Rattle.ec_parse_laws.proofs.Told.{told_bind, told_then, told_skip, told_ended, told_high, told_inside, told_many, told_comma}
use Rattle.ec_parse_laws.proofs.ToldExpressions.{tells_assignment, tells_conditional}

-- ---- declarators

array_told : (limit m : ℕ) (l : Spot) (c : Option t.Conditional) (r : Spot) (rest : List Leaf) → Given Is_conditional c
    → Told (length (of_option of_conditional c (mark r RightBracket ∷ rest)))
    (FitsIn limit m (height_option nest.height_conditional c) (height_option nest.opens_conditional c))
    (λ q. PassesOption (λ x. PassesConditional limit m x (mark r RightBracket ∷ rest) q) c)
    (array_by (inner_at limit m) l (of_option of_conditional c (mark r RightBracket ∷ rest))) (t.array l c r) rest
unfolding array_by leaf_if
array_told limit m l None r rest is = told_ok _ _ (t.array l None r) rest refl (omega arith)
array_told limit m l (Some c) r rest is =
    let end : List Leaf = mark r RightBracket ∷ rest in
    rw (not_taken RightBracket (of_conditional c end) refl (conditional_starts c end is))
    (told_then _ _ c end (t.array l (Some c) r) rest
    (tells_conditional c limit m limit end (omega arith) is (omega arith)) refl (omega arith))

shape_told : (limit n : ℕ) (s : t.Shape) (rest : List Leaf) → Is_shape s → Closed 1 rest → Told (length (of_shape s rest)) (FitsIn limit n
    (nest.height_shape s) (nest.opens_shape s)) (λ q. PassesShape limit n s rest q) (shape_by (within limit n) (of_shape s rest)) s rest
unfolding shape_by leaf_if
shape_told limit n t.object rest is c = told_ok _ _ t.object rest
    (rw (no_punct 1 LeftBracket rest (omega arith) c, no_punct 1 LeftParenthesis rest (omega arith) c) refl) (omega arith)
shape_told limit n (t.array l k r) rest is c =
    let end : List Leaf = mark r RightBracket ∷ rest in
    told_inside (λ m q. PassesOption (λ x. PassesConditional limit m x end q) k) limit n (of_option of_conditional k end) _ (t.array l k r)
    rest (λ f. omega (arith, f.1)) (λ m deep. told_part (λ f. (f.0, omega (arith, f.1, deep))) (array_told limit m l k r rest is))
    (omega arith) (omega (arith, past_length _ _ (option_past of_conditional conditional_past k end)))
shape_told limit n (t.function_shape l p r) rest is c =
    let end : List Leaf = mark r RightParenthesis ∷ rest in
    told_inside (λ m q. ⊥) limit n (of_params p end) _ (t.function_shape l p r) rest (λ f. omega (arith, f.1))
    (λ m deep. told_skip _ _ p end (t.function_shape l p r) rest (params_read p r rest is)
    (told_ok (length rest) _ (t.function_shape l p r) rest refl (omega arith)) (omega (arith, past_length _ _ (params_past p end))))
    (omega arith) (omega (arith, past_length _ _ (params_past p end)))

pub declarator_told : (limit n : ℕ) (d : t.Declarator) (rest : List Leaf) → Is_declarator d → Closed 1 rest
    → Told (length (of_declarator d rest)) (FitsIn limit n (nest.height_declarator d) (nest.opens_declarator d))
    (λ q. PassesDeclarator limit n d rest q) (declarator_by (within limit n) (of_declarator d rest)) d rest
unfolding declarator_by leaf_if
declarator_told limit n (t.declarator stars (t.identifier s x) shape) rest is c =
    let named : List Leaf = of_identifier (t.identifier s x) (of_shape shape rest) in
    let after = after_type_name (t.identifier s x) (of_shape shape rest) in
    told_skip _ _ stars named (t.declarator stars (t.identifier s x) shape) rest (stars_read stars named is.0 (after.1, after.2))
    (told_then _ _ shape rest (t.declarator stars (t.identifier s x) shape) rest (shape_told limit n shape rest is.1 c) refl (omega arith))
    (omega (arith, past_length _ _ (list_past of_star star_past stars named)))

-- ---- initialisers

abbrev pub TellsInitialiser : t.Initialiser → Type 0
TellsInitialiser i = (limit n room : ℕ) (rest : List Leaf) → room ≤ limit → Is_initialiser i → Closed 13 rest
    → Told (length (of_initialiser i rest)) (FitsIn room n (nest.height_initialiser i) (nest.opens_initialiser i))
    (λ q. PassesInitialiser limit n i rest q) (initialiser_by (within limit n) room (of_initialiser i rest)) i rest

abbrev PassesInitial : ℕ → ℕ → Spot × t.Initialiser → List Leaf → ℕ → Type 0
PassesInitial limit m x rest q = PassesInitialiser limit m x.1 rest q

abbrev FitsInitial : ℕ → ℕ → Spot × t.Initialiser → Type 0
FitsInitial limit m x = FitsIn limit m (nest.height_initialiser x.1) (nest.opens_initialiser x.1)

abbrev FitsInitialisers : ℕ → ℕ → t.Initialisers → Type 0
FitsInitialisers limit m more = FitsIn limit m (nest.height_initialisers more) (nest.opens_initialisers more)

initials_fit : (limit m : ℕ) (more : t.Initialisers) → FitsInitialisers limit m more → Every (FitsInitial limit m) (initial_pairs more)
initials_fit limit m t.no_initialisers f = tt
initials_fit limit m (t.initialisers s i more) f = (
  (omega (arith, f.0), omega (arith, f.1)),
  initials_fit limit m more (omega (arith, f.0), omega (arith, f.1)),
)

abbrev TellsInitialisers : t.Initialisers → Type 0
TellsInitialisers more = (limit m : ℕ) (c : Option Spot) (r : Spot) (rest : List Leaf) → Are_initialisers more
    → ToldItems (initialiser_at (inner_at limit m)) of_initial_pair (PassesInitial limit m) (FitsInitial limit m) (initial_pairs more)
    (of_option of_comma c (mark r RightBrace ∷ rest))

initials_pass : (limit m : ℕ) (more : t.Initialisers) (rest : List Leaf) (q : ℕ) → PassesInitialisers limit m more rest q
    → PassesList of_initial_pair (PassesInitial limit m) (initial_pairs more) rest q
initials_pass limit m t.no_initialisers rest q h = h
initials_pass limit m (t.initialisers s i more) rest q (inl h) =
    inl (subst (λ z. PassesInitialiser limit m i z q) (sym (of_initial_pairs more rest)) h)
initials_pass limit m (t.initialisers s i more) rest q (inr h) = inr (initials_pass limit m more rest q h)

initialisers_none : TellsInitialisers t.no_initialisers
initialisers_none limit m c r rest is = tt

initialisers_more : (s : Spot) (i : t.Initialiser) (more : t.Initialisers) → TellsInitialiser i → TellsInitialisers more
    → TellsInitialisers (t.initialisers s i more)
unfolding initialiser_at
initialisers_more s i more tells others limit m c r rest is =
    let after : List Leaf = of_initialisers more (of_option of_comma c (mark r RightBrace ∷ rest)) in (
      subst (λ z. ToldAt (length (of_initial_pair (s, i) z)) (FitsInitial limit m (s, i)) (λ q. PassesInitialiser limit m i z q)
          (initialiser_at (inner_at limit m) (mark s Comma ∷ of_initialiser i z)) (s, i) z)
          (sym (of_initial_pairs more (of_option of_comma c (mark r RightBrace ∷ rest)))) (
            _,
            rw (taken_self Comma s (of_initialiser i after), initialiser_no_close i after is.0) refl,
            told_then (initialiser_by (within limit m) limit (of_initialiser i after)) (λ x. Ok ((s, x.0), x.1)) i after (s, i) after
                (told_wide (length (of_initialiser i after)) _ _ _ i after (omega arith)
                (tells limit m limit after (omega arith) is.0 (initialisers_closed more c r rest))) refl (omega arith),
          ),
      others limit m c r rest is.1,
    )

braces_told : (l : Spot) (i : t.Initialiser) (more : t.Initialisers) (c : Option Spot) (r : Spot) → TellsInitialiser i
    → TellsInitialisers more → (limit m room : ℕ) (rest : List Leaf) → room ≤ limit → Is_initialiser (t.braces l i more c r)
    → Told (length (of_initialiser i (of_initialisers more (of_option of_comma c (mark r RightBrace ∷ rest)))))
    (FitsIn room (suc m) (nest.height_initialiser (t.braces l i more c r)) (nest.opens_initialiser (t.braces l i more c r)))
    (λ q. PassesInitialiser limit m i (of_initialisers more (of_option of_comma c (mark r RightBrace ∷ rest))) q
    ⊎ PassesInitialisers limit m more (of_option of_comma c (mark r RightBrace ∷ rest)) q)
    (braces_by (inner_at limit m) room l (of_initialiser i (of_initialisers more (of_option of_comma c (mark r RightBrace ∷ rest)))))
    (t.braces l i more c r) rest
unfolding braces_by leaf_if
braces_told l i more c r tells others limit m room rest le is =
    let end : List Leaf = of_option of_comma c (mark r RightBrace ∷ rest) in
    let past : length rest ≤ length end = omega (arith, past_length _ _ (option_past of_comma comma_past c (mark r RightBrace ∷ rest))) in
    let all = told_many (initialiser_at (inner_at limit m)) of_initial_pair (PassesInitial limit m) (FitsInitial limit m) initial_long
    (initial_pairs more) end (initials_fit limit m more) (others limit m c r rest is.1) (no_initialiser limit m c r rest) in
    let here : Told (length (of_initialisers more end)) (FitsInitialisers limit m more)
    (λ q. PassesList of_initial_pair (PassesInitial limit m) (initial_pairs more) end q)
    (many (initialiser_at (inner_at limit m)) (of_initialisers more end)) (initial_pairs more) end =
    subst (λ ts. Told (length ts) (FitsInitialisers limit m more) (λ q. PassesList of_initial_pair (PassesInitial limit m)
    (initial_pairs more) end q) (many (initialiser_at (inner_at limit m)) ts) (initial_pairs more) end) (of_initial_pairs more end) all in
    told_bind _ _ i (of_initialisers more end) (t.braces l i more c r) rest (told_part (λ f. (omega (arith, f.0, le), omega (arith, f.1)))
    (tells limit m limit (of_initialisers more end) (omega arith) is.0 (initialisers_closed more c r rest)))
    (told_map (length (of_initialisers more end)) (λ q. PassesInitialisers limit m more end q)
    (λ q. PassesList of_initial_pair (PassesInitial limit m) (initial_pairs more) end q) _ (t.braces l i more c r) rest
    (initials_pass limit m more end)
    (told_ended room (suc (max (nest.height_initialiser i) (nest.height_initialisers more)))
    (many (initialiser_at (inner_at limit m)) (of_initialisers more end)) _ (initial_pairs more) end (t.braces l i more c r) rest (λ f. f.0)
    (told_part (λ f. (omega (arith, f.0, le), omega (arith, f.1))) here) (rw (comma_read c r rest, initialisers_pairs more) refl) past))
    (omega arith)

initialiser_braces : (l : Spot) (i : t.Initialiser) (more : t.Initialisers) (c : Option Spot) (r : Spot) → TellsInitialiser i
    → TellsInitialisers more → TellsInitialiser (t.braces l i more c r)
unfolding initialiser_by leaf_if
initialiser_braces l i more c r tells others limit n room rest le is cl =
    let end : List Leaf = of_option of_comma c (mark r RightBrace ∷ rest) in
    let x : t.Initialiser = t.braces l i more c r in
    told_high limit (nest.height_initialiser x) _ _ _ x rest
    (λ e. omega (arith, (fits_initialiser limit n room le (of_initialiser x rest) (x, rest) e).0, le))
    (told_inside (λ m q. PassesInitialiser limit m i (of_initialisers more end) q ⊎ PassesInitialisers limit m more end q) limit n
    (of_initialiser i (of_initialisers more end)) _ x rest (λ f. omega (arith, f.1))
    (λ m deep. told_part (λ f. (f.0, omega (arith, f.1, deep))) (braces_told l i more c r tells others limit m room rest le is))
    (omega arith) (omega (
      arith,
      past_length _ _ (initialiser_past i (of_initialisers more end)),
      past_length _ _ (initialisers_past more end),
      past_length _ _ (option_past of_comma comma_past c (mark r RightBrace ∷ rest)),
    )))

initialiser_value : (a : t.Assignment) → TellsInitialiser (t.initial_value a)
unfolding initialiser_by
initialiser_value a limit n room rest le is cl =
    rw (not_taken LeftBrace (of_assignment a rest) refl (assignment_starts a rest is))
    (told_then _ _ a rest (t.initial_value a) rest (tells_assignment a limit n room rest le is cl) refl (omega arith))

mutual
  pub tells_initialiser : (i : t.Initialiser) → TellsInitialiser i
  tells_initialiser (t.initial_value a) = initialiser_value a
  tells_initialiser (t.braces l i more c r) = initialiser_braces l i more c r (tells_initialiser i) (tells_initialisers more)

  tells_initialisers : (more : t.Initialisers) → TellsInitialisers more
  tells_initialisers t.no_initialisers = initialisers_none
  tells_initialisers (t.initialisers s i more) = initialisers_more s i more (tells_initialiser i) (tells_initialisers more)

-- ---- declarations

start_told : (limit n : ℕ) (i : Option t.Start) (rest : List Leaf) → Given Is_start i → Closed 13 rest
    → Told (length (of_option of_start i rest)) (FitsIn limit n (height_option nest.height_start i) (height_option nest.opens_start i))
    (λ q. PassesOption (λ x. PassesStart limit n x rest q) i) (start_by (within limit n) (of_option of_start i rest)) i rest
unfolding start_by leaf_if
start_told limit n None rest is c = told_ok _ _ None rest (rw (no_punct 13 Assign rest (omega arith) c) refl) (omega arith)
start_told limit n (Some (t.start s i)) rest is c =
    told_then _ _ i rest (Some (t.start s i)) rest
    (told_wide (length (of_initialiser i rest)) _ _ _ i rest (omega arith) (tells_initialiser i limit n limit rest (omega arith) is c)) refl
    (omega arith)

init_declarator_told : (limit n : ℕ) (d : t.InitDeclarator) (rest : List Leaf) → Is_init_declarator d → Closed 13 rest
    → Told (length (of_init_declarator d rest)) (FitsIn limit n (nest.height_init_declarator d) (nest.opens_init_declarator d))
    (λ q. PassesInitDeclarator limit n d rest q) (init_declarator_by (within limit n) (of_init_declarator d rest)) d rest
unfolding init_declarator_by
init_declarator_told limit n (t.init_declarator d i) rest is c =
    told_bind _ _ d (of_option of_start i rest) (t.init_declarator d i) rest (told_part (λ f. (omega (arith, f.0), omega (arith, f.1)))
    (declarator_told limit n d (of_option of_start i rest) is.0 (start_closed i rest c)))
    (told_then _ _ i rest (t.init_declarator d i) rest
    (told_part (λ f. (omega (arith, f.0), omega (arith, f.1))) (start_told limit n i rest is.1 c)) refl (omega arith)) (omega arith)

init_items : (limit n : ℕ) (more : List t.NextInitDeclarator) (e : Spot) (rest : List Leaf) → Every Is_next_init_declarator more → ToldItems
    (behind_comma t.next_init_declarator (init_declarator_by (within limit n))) of_next_init_declarator (PassesNextInitDeclarator limit n)
    (λ x. FitsIn limit n (nest.height_next_init_declarator x) (nest.opens_next_init_declarator x)) more (mark e Semicolon ∷ rest)
init_items limit n [] e rest is = tt
init_items limit n (t.next_init_declarator s d ∷ more) e rest is =
    let after : List Leaf = of_list of_next_init_declarator more (mark e Semicolon ∷ rest) in (
      told_comma t.next_init_declarator (init_declarator_by (within limit n)) s (of_init_declarator d after) d after
          (init_declarator_told limit n d after is.0 (init_closed more e rest)),
      init_items limit n more e rest is.1,
    )

pub declared_told : (limit n : ℕ) (s : t.Specs) (d : t.Declarator) (i : Option t.Start) (more : List t.NextInitDeclarator) (e : Spot)
    (rest : List Leaf) → Given Is_start i → Every Is_next_init_declarator more
    → Told (length (of_option of_start i (of_list of_next_init_declarator more (mark e Semicolon ∷ rest))))
    (FitsIn limit n (nest.height_declaration (t.declaration s (t.init_declarator d i) more e))
    (nest.opens_declaration (t.declaration s (t.init_declarator d i) more e)))
    (λ q. PassesOption (λ x. PassesStart limit n x (of_list of_next_init_declarator more (mark e Semicolon ∷ rest)) q) i
    ⊎ PassesList of_next_init_declarator (PassesNextInitDeclarator limit n) more (mark e Semicolon ∷ rest) q)
    (declared_by (within limit n) s d (of_option of_start i (of_list of_next_init_declarator more (mark e Semicolon ∷ rest))))
    (t.declaration s (t.init_declarator d i) more e) rest
unfolding declared_by leaf_if
declared_told limit n s d i more e rest is_i is_more =
    let after : List Leaf = of_list of_next_init_declarator more (mark e Semicolon ∷ rest) in
    let x : t.Declaration = t.declaration s (t.init_declarator d i) more e in
    told_bind _ _ i after x rest
    (told_part (λ f. (omega (arith, f.0), omega (arith, f.1))) (start_told limit n i after is_i (init_closed more e rest)))
    (told_then _ _ more (mark e Semicolon ∷ rest) x rest
    (told_many (behind_comma t.next_init_declarator (init_declarator_by (within limit n))) of_next_init_declarator
    (PassesNextInitDeclarator limit n) _ next_init_declarator_long more (mark e Semicolon ∷ rest)
    (λ f. every_fits nest.height_next_init_declarator nest.opens_next_init_declarator limit n more (omega (arith, f.0), omega (arith, f.1)))
    (init_items limit n more e rest is_more) (no_init limit n e rest)) refl (omega arith))
    (omega arith)

-- the first declarator and what follows it
pub declarator_first : (P Q R : ℕ → Type 0) (q : ℕ) → Either (Either P Q) R q → Either P (Either Q R) q
declarator_first P Q R q (inl (inl h)) = inl h
declarator_first P Q R q (inl (inr h)) = inr (inl h)
declarator_first P Q R q (inr h) = inr (inr h)

pub declaration_told : (limit n : ℕ) (d : t.Declaration) (rest : List Leaf) → Is_declaration d
    → Told (length (of_declaration d rest)) (FitsIn limit n (nest.height_declaration d) (nest.opens_declaration d))
    (λ q. PassesDeclaration limit n d rest q) (declaration_by (within limit n) (of_declaration d rest)) d rest
unfolding declaration_by
declaration_told limit n (t.declaration s (t.init_declarator d i) more e) rest is =
    let after : List Leaf = of_list of_next_init_declarator more (mark e Semicolon ∷ rest) in
    let started : List Leaf = of_option of_start i after in
    let x : t.Declaration = t.declaration s (t.init_declarator d i) more e in
    told_skip _ _ s (of_declarator d started) x rest (specs_read s (of_declarator d started) is.0 (declarator_no_spec d started))
    (told_map (length (of_declarator d started)) _ _ _ x rest
    (declarator_first (λ q. PassesDeclarator limit n d started q) (λ q. PassesOption (λ x. PassesStart limit n x after q) i)
    (λ q. PassesList of_next_init_declarator (PassesNextInitDeclarator limit n) more (mark e Semicolon ∷ rest) q))
    (told_bind _ _ d started x rest
    (told_part (λ f. (omega (arith, f.0), omega (arith, f.1))) (declarator_told limit n d started is.1.0 (started_closed i more e rest)))
    (declared_told limit n s d i more e rest is.1.1 is.2) (omega arith)))
    (past_length _ _ (specs_past s (of_declarator d started)))

-- ---- members

declarator_items : (limit n : ℕ) (more : List t.NextDeclarator) (e : Spot) (rest : List Leaf) → Every Is_next_declarator more
    → ToldItems (behind_comma t.next_declarator (declarator_by (within limit n))) of_next_declarator (PassesNextDeclarator limit n)
    (λ x. FitsIn limit n (nest.height_next_declarator x) (nest.opens_next_declarator x)) more (mark e Semicolon ∷ rest)
declarator_items limit n [] e rest is = tt
declarator_items limit n (t.next_declarator s d ∷ more) e rest is =
    let after : List Leaf = of_list of_next_declarator more (mark e Semicolon ∷ rest) in (
      told_comma t.next_declarator (declarator_by (within limit n)) s (of_declarator d after) d after
          (declarator_told limit n d after is.0 (declarators_closed more e rest)),
      declarator_items limit n more e rest is.1,
    )

pub member_told : (limit n : ℕ) (m : t.Member) (rest : List Leaf) → Is_member m
    → Told (length (of_member m rest)) (FitsIn limit n (nest.height_member m) (nest.opens_member m)) (λ q. PassesMember limit n m rest q)
    (members_by (within limit n) (of_member m rest)) m rest
unfolding members_by leaf_if
member_told limit n (t.members s d more e) rest is =
    let after : List Leaf = of_list of_next_declarator more (mark e Semicolon ∷ rest) in
    let x : t.Member = t.members s d more e in
    told_skip _ _ s (of_declarator d after) x rest (specs_read s (of_declarator d after) is.0 (declarator_no_spec d after))
    (told_bind _ _ d after x rest
    (told_part (λ f. (omega (arith, f.0), omega (arith, f.1))) (declarator_told limit n d after is.1 (declarators_closed more e rest)))
    (told_then _ _ more (mark e Semicolon ∷ rest) x rest (told_many (behind_comma t.next_declarator (declarator_by (within limit n)))
    of_next_declarator (PassesNextDeclarator limit n) _ next_declarator_long more (mark e Semicolon ∷ rest)
    (λ f. every_fits nest.height_next_declarator nest.opens_next_declarator limit n more (omega (arith, f.0), omega (arith, f.1)))
    (declarator_items limit n more e rest is.2) (no_declarator limit n e rest)) refl (omega arith)) (omega arith))
    (past_length _ _ (specs_past s (of_declarator d after)))

pub member_at_told : (limit n : ℕ) (m : t.Member) (rest : List Leaf) → Is_member m
    → ToldAt (length (of_member m rest)) (FitsIn limit n (nest.height_member m) (nest.opens_member m)) (λ q. PassesMember limit n m rest q)
    (members_at (within limit n) (of_member m rest)) m rest
unfolding members_at
member_at_told limit n (t.members s d more e) rest is = (
  members_by (within limit n) (of_member (t.members s d more e) rest),
  rw (specs_start s _ is.0).1 refl,
  member_told limit n (t.members s d more e) rest is,
)
