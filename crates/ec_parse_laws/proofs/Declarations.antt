-- Parameters are read again, and how the parts of declarations begin and end.
use Rattle.std.proofs.Common.{◌≡◌, ℕ, ◌<◌, List, [], ◌∷◌, length, Bool, true, false, Ok, Option, Some, None, refl, ap, arith, subst}
use Rattle.std.proofs.lemmas.Bool.{true≢false}
use Rattle.ec_grammar.specs.declared.token.WordKind.{WordKind}
use Rattle.ec_grammar.specs.declared.token.WordKind.TheVariants as words
use Rattle.ec_grammar.specs.declared.token.PunctKind.TheVariants.{RightBrace, RightParenthesis, Comma, Semicolon}
use Rattle.ec_grammar.specs.declared.Spot.{Spot}
use Rattle.ec_grammar.specs.Trees as t
use Rattle.ec_grammar.specs.Trees.{Leaf}
use Rattle.ec_grammar.specs.Spelling.{mark, word, of_list, of_option, of_identifier, of_star, of_spec, of_assignment, of_param}
use Rattle.ec_grammar.specs.Spelling.{of_next_param, of_params, of_shape, of_declarator, of_comma, of_initialiser, of_initialisers}
use Rattle.ec_grammar.specs.Spelling.{of_start, of_next_init_declarator, of_next_declarator}
use Rattle.ec_grammar.specs.Grammar.{Every, lone_void, Is_param, Is_next_param, Are_params, Is_initialiser}
use Rattle.ec_parse_laws.specs.Codes.{same_word}
use Rattle.ec_parse_laws.specs.Reading.{Read, leaf_if, name_of, taken, behind_comma, within, spec_at, param_by, void_at, params_by}
use Rattle.ec_parse_laws.specs.Reading.{declarator_by, initialisers_of, initialiser_at, comma_at, init_declarator_by}
use Rattle.ec_parse_laws.proofs.Basics.{reads_bind, inner_at, same_words}
use Rattle.ec_parse_laws.proofs.Follow.{Closed, closed_down, assignment_starts, not_taken}
use Rattle.ec_parse_laws.proofs.Past.{initialiser_past, past_length, next_param_long}
use Rattle.ec_parse_laws.proofs.Lists.{ReadsAt, ReadsItems, reads_many, AfterType, stars_no_spec, type_name_read, after_type_close}
use Rattle.ec_parse_laws.proofs.Lists.{after_type_comma, after_type_name}

-- an item behind a comma
pub comma_item : {A B : Type 0} (make : Spot → A → B) (item : List Leaf → Read A) (s : Spot) (ts : List Leaf) (x : A) (rest : List Leaf)
    → item ts ≡ Ok (x, rest) → ReadsAt (behind_comma make item (mark s Comma ∷ ts)) (make s x) rest
unfolding leaf_if
comma_item make item s ts x rest h = (_, refl, reads_bind (item ts) (λ y. Ok (make s y.0, y.1)) x rest (make s x) rest h (refl))

-- ---- parameters

-- what stands after a parameter
abbrev AfterParam : List Leaf → Type 0
AfterParam rest = AfterType rest × (leaf_if name_of rest ≡ None)

param_read : (p : t.Param) (rest : List Leaf) → Is_param p → AfterParam rest → param_by (of_param p rest) ≡ Ok (p, rest)
unfolding param_by leaf_if
param_read (t.param ty None) rest is after =
    reads_bind _ _ ty rest (t.param ty None) rest (type_name_read ty rest is.0 after.0) (rw after.1 (rw is.1 (refl)))
param_read (t.param ty (Some (t.identifier s n))) rest is after =
    reads_bind _ _ ty (of_identifier (t.identifier s n) rest) (t.param ty (Some (t.identifier s n))) rest
    (type_name_read ty (of_identifier (t.identifier s n) rest) is.0 (after_type_name (t.identifier s n) rest)) (rw is.1 (refl))

after_param : (more : List t.NextParam) (r : Spot) (rest : List Leaf)
    → AfterParam (of_list of_next_param more (mark r RightParenthesis ∷ rest))
unfolding leaf_if
after_param [] r rest = (after_type_close r rest, refl)
after_param (t.next_param s p ∷ more) r rest = (after_type_comma s _, refl)

param_items : (more : List t.NextParam) (r : Spot) (rest : List Leaf) → Every Is_next_param more
    → ReadsItems (behind_comma t.next_param param_by) of_next_param more (mark r RightParenthesis ∷ rest)
param_items [] r rest is = tt
param_items (t.next_param s p ∷ more) r rest is = (
  comma_item t.next_param param_by s _ p (of_list of_next_param more (mark r RightParenthesis ∷ rest))
      (param_read p (of_list of_next_param more (mark r RightParenthesis ∷ rest)) is.0 (after_param more r rest)),
  param_items more r rest is.1,
)

no_param : (r : Spot) (rest : List Leaf) → behind_comma t.next_param param_by (mark r RightParenthesis ∷ rest) ≡ None
unfolding leaf_if
no_param r rest = refl

-- after the word `void` of a parameter there is more
void_then : (s : Spot) (more : List t.Spec) (stars : List t.Star) (n : Option t.Identifier) (rest : List Leaf)
    → lone_void (t.type_name (t.specs (t.word_spec s words.Void) more) stars) n ≡ false
    → taken RightParenthesis (of_list of_spec more (of_list of_star stars (of_option of_identifier n rest))) ≡ None
unfolding leaf_if
void_then s (t.word_spec k w ∷ more) stars n rest e = refl
void_then s (t.struct_spec k tag ∷ more) stars n rest e = refl
void_then s [] (t.star k q ∷ stars) n rest e = refl
void_then s [] [] (Some (t.identifier k x)) rest e = refl
void_then s [] [] None rest e = absurd (true≢false e)

word_no_void : (s : Spot) (w : WordKind) (more : List t.Spec) (stars : List t.Star) (n : Option t.Identifier) (rest : List Leaf)
    → lone_void (t.type_name (t.specs (t.word_spec s w) more) stars) n ≡ false
    → void_at (word s w ∷ of_list of_spec more (of_list of_star stars (of_option of_identifier n rest))) ≡ None
unfolding void_at leaf_if
word_no_void s w more stars n rest e = go (same_word w words.Void) refl
  where
    go : (b : Bool) → same_word w words.Void ≡ b
        → void_at (word s w ∷ of_list of_spec more (of_list of_star stars (of_option of_identifier n rest))) ≡ None
    go false other = rw other refl
    go true same = rw (
      same,
      void_then s more stars n rest
          (subst (λ v. lone_void (t.type_name (t.specs (t.word_spec s v) more) stars) n ≡ false) (same_words w words.Void same) e),
    ) refl

param_no_void : (p : t.Param) (rest : List Leaf) → Is_param p → void_at (of_param p rest) ≡ None
unfolding void_at leaf_if
param_no_void (t.param (t.type_name (t.specs (t.word_spec s w) more) stars) n) rest is = word_no_void s w more stars n rest is.1
param_no_void (t.param (t.type_name (t.specs (t.struct_spec s tag) more) stars) n) rest is = refl

pub params_read : (p : t.Params) (r : Spot) (rest : List Leaf) → Are_params p
    → params_by (of_params p (mark r RightParenthesis ∷ rest)) ≡ Ok (p, mark r RightParenthesis ∷ rest)
unfolding params_by void_at leaf_if
params_read (t.void_params s) r rest is = refl
params_read (t.params p more) r rest is =
    let after : List Leaf = of_list of_next_param more (mark r RightParenthesis ∷ rest) in
    rw (param_no_void p after is.0)
    (reads_bind _ _ p after (t.params p more) (mark r RightParenthesis ∷ rest) (param_read p after is.0 (after_param more r rest))
    (reads_bind _ _ more (mark r RightParenthesis ∷ rest) (t.params p more) (mark r RightParenthesis ∷ rest)
    (reads_many (behind_comma t.next_param param_by) of_next_param next_param_long more (mark r RightParenthesis ∷ rest)
    (param_items more r rest is.1) (no_param r rest)) (refl)))

-- ---- declarators

pub declarator_no_spec : (d : t.Declarator) (rest : List Leaf) → spec_at (of_declarator d rest) ≡ None
declarator_no_spec (t.declarator stars n shape) rest =
    stars_no_spec stars (of_identifier n (of_shape shape rest)) (after_type_name n (of_shape shape rest)).0

-- ---- initialisers

abbrev pub of_initial_pair : Spot × t.Initialiser → List Leaf → List Leaf
of_initial_pair x rest = mark x.0 Comma ∷ of_initialiser x.1 rest

abbrev pub initial_pairs : t.Initialisers → List (Spot × t.Initialiser)
initial_pairs t.no_initialisers = []
initial_pairs (t.initialisers s i more) = (s, i) ∷ initial_pairs more

pub initialisers_pairs : (more : t.Initialisers) → initialisers_of (initial_pairs more) ≡ more
initialisers_pairs t.no_initialisers = refl
initialisers_pairs (t.initialisers s i more) = ap (t.initialisers s i) (initialisers_pairs more)

pub of_initial_pairs : (more : t.Initialisers) (rest : List Leaf)
    → of_list of_initial_pair (initial_pairs more) rest ≡ of_initialisers more rest
of_initial_pairs t.no_initialisers rest = refl
of_initial_pairs (t.initialisers s i more) rest = ap (λ z. mark s Comma ∷ of_initialiser i z) (of_initial_pairs more rest)

pub initial_long : (x : Spot × t.Initialiser) (rest : List Leaf) → length rest < length (of_initial_pair x rest)
initial_long x rest = omega (arith, past_length rest (of_initialiser x.1 rest) (initialiser_past x.1 rest))

pub no_initialiser : (limit m : ℕ) (c : Option Spot) (r : Spot) (rest : List Leaf)
    → initialiser_at (inner_at limit m) (of_option of_comma c (mark r RightBrace ∷ rest)) ≡ None
unfolding initialiser_at leaf_if
no_initialiser limit m None r rest = refl
no_initialiser limit m (Some s) r rest = refl

pub initialiser_no_close : (i : t.Initialiser) (rest : List Leaf) → Is_initialiser i → taken RightBrace (of_initialiser i rest) ≡ None
unfolding leaf_if
initialiser_no_close (t.initial_value a) rest is = not_taken RightBrace (of_assignment a rest) refl (assignment_starts a rest is)
initialiser_no_close (t.braces l i more c r) rest is = refl

pub initialisers_closed : (more : t.Initialisers) (c : Option Spot) (r : Spot) (rest : List Leaf)
    → Closed 13 (of_initialisers more (of_option of_comma c (mark r RightBrace ∷ rest)))
initialisers_closed t.no_initialisers None r rest = omega arith
initialisers_closed t.no_initialisers (Some s) r rest = omega arith
initialisers_closed (t.initialisers s i more) c r rest = omega arith

pub comma_read : (c : Option Spot) (r : Spot) (rest : List Leaf)
    → comma_at (of_option of_comma c (mark r RightBrace ∷ rest)) ≡ Ok (c, mark r RightBrace ∷ rest)
unfolding leaf_if
comma_read None r rest = refl
comma_read (Some s) r rest = refl

-- ---- declarations

pub start_closed : (i : Option t.Start) (rest : List Leaf) → Closed 13 rest → Closed 1 (of_option of_start i rest)
start_closed None rest c = closed_down 1 13 rest (omega arith) c
start_closed (Some (t.start s i)) rest c = omega arith

pub init_closed : (more : List t.NextInitDeclarator) (e : Spot) (rest : List Leaf)
    → Closed 13 (of_list of_next_init_declarator more (mark e Semicolon ∷ rest))
init_closed [] e rest = omega arith
init_closed (t.next_init_declarator s d ∷ more) e rest = omega arith

pub no_init : (limit n : ℕ) (e : Spot) (rest : List Leaf)
    → behind_comma t.next_init_declarator (init_declarator_by (within limit n)) (mark e Semicolon ∷ rest) ≡ None
unfolding leaf_if
no_init limit n e rest = refl

pub started_closed : (i : Option t.Start) (more : List t.NextInitDeclarator) (e : Spot) (rest : List Leaf)
    → Closed 1 (of_option of_start i (of_list of_next_init_declarator more (mark e Semicolon ∷ rest)))
started_closed i more e rest = start_closed i (of_list of_next_init_declarator more (mark e Semicolon ∷ rest)) (init_closed more e rest)

-- ---- members

pub declarators_closed : (more : List t.NextDeclarator) (e : Spot) (rest : List Leaf)
    → Closed 1 (of_list of_next_declarator more (mark e Semicolon ∷ rest))
declarators_closed [] e rest = omega arith
declarators_closed (t.next_declarator s d ∷ more) e rest = omega arith

pub no_declarator : (limit n : ℕ) (e : Spot) (rest : List Leaf)
    → behind_comma t.next_declarator (declarator_by (within limit n)) (mark e Semicolon ∷ rest) ≡ None
unfolding leaf_if
no_declarator limit n e rest = refl
