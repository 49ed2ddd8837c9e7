-- Declarations in blocks are what the walk makes of them.
use Rattle.std.proofs.Common.{◌≡◌, ◌∙◌, ◌+◌, ℕ, Bool, true, false, List, [], ◌∷◌, ◌++◌, length, append_assoc, refl, sym, ap, subst, arith}
use Rattle.std.specs.Prelude.{if◌then◌else◌, option_map, Option, Some, None, unwrap_or}
use Rattle.std.proofs.lemmas.Bool.Decides.{Decides-ltb}
use Rattle.std.proofs.lemmas.List.{append-nil}
use Rattle.ec_space.specs.declared.space.SpaceId.TheVariants.{Generic}
use Rattle.ec_grammar.specs.declared.Spot.{Spot}
use Rattle.ec_grammar.specs.Trees as t
use Rattle.ec_core.specs.Plain.{PlainType, PlainExprs, PlainStmt, statement, declare, PlainStmts, PlainObject, PlainStorage, local}
use Rattle.ec_check_operands.specs.Options.{with_one, with_both}
use Rattle.ec_check_names.specs.declared.specifiers.Specified.{Specified}
use Rattle.ec_check_names.specs.Names.{Names, an_object, with_inside}
use Rattle.ec_check_names.specs.Specifiers.{specified}
use Rattle.ec_check_declarations.specs.Declarators.{object_declared}
use Rattle.ec_check_declarations.specs.Scopes.{Context, Scope, known_in, has_room, made_number, with_inner, inner_object}
use Rattle.ec_check_statements.specs.Around.{Around}
use Rattle.ec_check_statements.specs.Locals.{first_declarator, local_declared, with_local, initial_values, local_made, started, local_statement}
use Rattle.ec_check_statements.specs.Locals.{with_locals, locals_before}
use Rattle.ec_check_statements.specs.Walks.{followed}
use Rattle.ec_check_meanings.proofs.Options.{inside, nothing_there, with_given, with_granted}
use Rattle.ec_check_parts.specs.Laws.{inside_of}
use Rattle.ec_check_parts.specs.Places.{Inside}
use Rattle.ec_check_parts.specs.Said.{DeclaratorsAreSaid}
use Rattle.ec_check_parts.proofs.Types.{same_const}
use Rattle.ec_check_typed.specs.Laws.{InitialisersAreSaid, around, AreAdded}
use Rattle.ec_check_typed.specs.Statements.{Enclosing, declaring, local_object, IsLocal, one_local, AreLocals, no_local, more_locals, others}
use Rattle.ec_check_typed.specs.Statements.{followed_by}

-- ---- scopes

pub one_longer : {A : Type 0} → (xs : List A) (x : A) → length (xs ++ x ∷ []) ≡ length xs + 1
one_longer [] x = refl
one_longer (y ∷ xs) x = let h = one_longer xs x in omega (arith, h)

pub longer : {A : Type 0} → (xs ys : List A) → length (xs ++ ys) ≡ length xs + length ys
longer [] ys = omega arith
longer (x ∷ xs) ys = let h = longer xs ys in omega (arith, h)

-- what is known behind a part, and the objects that it adds
pub record Behind (os : List PlainObject) (s behind : Scope) (i : Inside) : Type 0 where
  pub known : inside_of behind ≡ i
  pub added : AreAdded os s behind

pub nothing_behind : (s : Scope) → Behind [] s s (inside_of s)
nothing_behind s = record { known = refl; added = sym (append-nil s.objects) }

pub added_then : (os us : List PlainObject) (a b c : Scope) → AreAdded os a b → AreAdded us b c → AreAdded (os ++ us) a c
added_then os us a b c h g = g ∙ ap (λ z. z ++ us) h ∙ append_assoc a.objects os us

pub declaring_both : (os us : List PlainObject) (i : Inside) → declaring (os ++ us) i ≡ declaring us (declaring os i)
declaring_both [] us i = refl
declaring_both (o ∷ os) us i = declaring_both os us (declaring (o ∷ []) i)

-- ---- one declarator

-- the scope behind an object of a function
abbrev declared_as : (unit : ℕ) → List ℕ → PlainType → (konst : Bool) → PlainStorage → Scope → Scope
declared_as unit n ty konst storage s =
    record {
      names = with_inside n (an_object (Some (length s.objects)) (Some ty) konst Generic false) s.names;
      objects = s.objects ++ inner_object unit n konst storage ty ∷ [];
    }

-- where a number is left for it
pub inner_as : (unit : ℕ) (n : List ℕ) (ty : PlainType) (konst : Bool) (storage : PlainStorage) (s : Scope) → has_room s.objects ≡ true
    → with_inner unit n (Some ty) konst storage s ≡ declared_as unit n ty konst storage s
inner_as unit n ty konst storage s h = ap (λ (b : Bool). by b) h
  where
    by : Bool → Scope
    by b =
        record {
          names = with_inside n (an_object (Some (unwrap_or (if b then Some (length s.objects) else None) 0)) (Some ty) konst Generic false) s.names;
          objects = if b then s.objects ++ inner_object unit n konst storage ty ∷ [] else s.objects;
        }

-- what is known behind it
pub inner_behind : (unit : ℕ) (n : List ℕ) (ty : PlainType) (konst : Bool) (storage : PlainStorage) (s : Scope) → has_room s.objects ≡ true
    → Behind (inner_object unit n konst storage ty ∷ []) s (with_inner unit n (Some ty) konst storage s)
    (declaring (inner_object unit n konst storage ty ∷ []) (inside_of s))
inner_behind unit n ty konst storage s h =
    subst (λ (z : Scope). Behind (inner_object unit n konst storage ty ∷ []) s z
    (declaring (inner_object unit n konst storage ty ∷ []) (inside_of s))) (sym (inner_as unit n ty konst storage s h)) there
  where
    there : Behind (inner_object unit n konst storage ty ∷ []) s (declared_as unit n ty konst storage s)
        (declaring (inner_object unit n konst storage ty ∷ []) (inside_of s))
    there = record {
      known =
          ap (λ (m : ℕ). record { names = (declared_as unit n ty konst storage s).names; made = m })
          (one_longer s.objects (inner_object unit n konst storage ty));
      added = refl;
    }

-- so of an object that is declared in a block
abbrev with_declared : Enclosing → List ℕ → PlainType → (konst : Bool) → Scope → Scope
with_declared w n ty konst s = declared_as w.unit n ty konst (local w.function) s

inner_at : (w : Enclosing) (n : List ℕ) (ty : PlainType) (konst : Bool) (s : Scope) → has_room s.objects ≡ true
    → with_inner w.unit n (Some ty) konst (local w.function) s ≡ with_declared w n ty konst s
inner_at w n ty konst s h = inner_as w.unit n ty konst (local w.function) s h

declared_behind : (w : Enclosing) (n : List ℕ) (ty : PlainType) (konst : Bool) (s : Scope)
    → Behind (local_object w n ty konst ∷ []) s (with_declared w n ty konst s) (declaring (local_object w n ty konst ∷ []) (inside_of s))
declared_behind w n ty konst s = record {
  known =
      ap (λ (m : ℕ). record { names = (with_declared w n ty konst s).names; made = m }) (one_longer s.objects (local_object w n ty konst));
  added = refl;
}

-- the laws that this stands on
pub record LocalLaws : Type 0 where
  pub initialisers : InitialisersAreSaid
  pub declarators : DeclaratorsAreSaid

module _ (laws : LocalLaws) (w : Enclosing) (c : Context) (in_loop : Bool) (first : ℕ) (ss : t.Specs) where
  abbrev said : Specified
  said = specified c.tags ss

  abbrev r : Around
  r = around w in_loop first

  -- one declarator, in a scope
  module _ (stars : List t.Star) (at : Spot) (n : List ℕ) (shape : t.Shape) (start : Option t.Start) (s : Scope) where
    abbrev d : t.Declarator
    d = t.declarator stars (t.identifier at n) shape

    abbrev ty_of : Option PlainType
    ty_of = (object_declared (known_in c s.names) said d start).ty

    abbrev konst_of : Bool
    konst_of = (object_declared (known_in c s.names) said d start).konst

    abbrev behind_as : Option PlainType → Bool → Scope
    behind_as ty konst = with_inner w.unit n ty konst (local w.function) s

    abbrev statement_with : ℕ → PlainExprs → Option PlainStmt
    statement_with m values = Some (statement w.unit (first_declarator d) (declare m values))

    abbrev statement_as : Option PlainType → Names → Option PlainStmt
    statement_as ty names = with_both (made_number ty s.objects) (initial_values c names start ty) statement_with

    scope_is : with_local c r said (t.init_declarator d start) s ≡ behind_as ty_of konst_of
    unfolding with_local local_declared
    scope_is = refl

    statement_is : local_statement c r said (t.init_declarator d start) s ≡ statement_as ty_of (behind_as ty_of konst_of).names
    unfolding local_statement local_made started with_local local_declared
    statement_is = refl

    -- where its type is known and a number is left
    module _ (ty : PlainType) (typed : ty_of ≡ Some ty) (room : has_room s.objects ≡ true) where
      scope_at : with_local c r said (t.init_declarator d start) s ≡ with_declared w n ty konst_of s
      scope_at = scope_is ∙ ap (λ z. behind_as z konst_of) typed ∙ inner_at w n ty konst_of s room

      statement_at : local_statement c r said (t.init_declarator d start) s
          ≡ with_one (initial_values c (with_declared w n ty konst_of s).names start (Some ty)) (statement_with (length s.objects))
      statement_at =
          statement_is
          ∙ ap (λ z. statement_as z (behind_as z konst_of).names) typed
          ∙ ap (λ (z : Scope). statement_as (Some ty) z.names) (inner_at w n ty konst_of s room)
          ∙ ap (λ (b : Bool). with_both (if b then Some (length s.objects) else None)
          (initial_values c (with_declared w n ty konst_of s).names start (Some ty)) statement_with) room

      behind_at : Behind (local_object w n ty konst_of ∷ []) s (with_local c r said (t.init_declarator d start) s)
          (declaring (local_object w n ty konst_of ∷ []) (inside_of s))
      behind_at =
          subst (λ (z : Scope). Behind (local_object w n ty konst_of ∷ []) s z (declaring (local_object w n ty konst_of ∷ []) (inside_of s)))
          (sym scope_at) (declared_behind w n ty konst_of s)

    -- a statement is given where the type is known and a number is left
    given_where : (x : PlainStmt) → local_statement c r said (t.init_declarator d start) s ≡ Some x
        → (ty : PlainType) × (ty_of ≡ Some ty) × (has_room s.objects ≡ true)
    given_where x q = by ty_of refl (sym statement_is ∙ q)
      where
        numbered : (b : Bool) (ty : PlainType) (m : Option PlainExprs) → has_room s.objects ≡ b → ty_of ≡ Some ty
            → with_both (if b then Some (length s.objects) else None) m statement_with ≡ Some x
            → (ty : PlainType) × (ty_of ≡ Some ty) × (has_room s.objects ≡ true)
        numbered true ty m e f q = (ty, f, e)
        numbered false ty m e f q = absurd (nothing_there x q)

        by : (z : Option PlainType) → ty_of ≡ z → statement_as z (behind_as z konst_of).names ≡ Some x
            → (ty : PlainType) × (ty_of ≡ Some ty) × (has_room s.objects ≡ true)
        by None e q = absurd (nothing_there x q)
        by (Some ty) e q =
            numbered (has_room s.objects) ty (initial_values c (behind_as (Some ty) konst_of).names start (Some ty)) refl e q

  -- the statement and the object of a declarator
  pub record IsMade (s : Scope) (d : t.InitDeclarator) (x : PlainStmt) (o : PlainObject) : Type 0 where
    pub stated : local_statement c r said d s ≡ Some x
    pub behind : Behind (o ∷ []) s (with_local c r said d s) (declaring (o ∷ []) (inside_of s))

  pub local_to : (s : Scope) (d : t.InitDeclarator) (x : PlainStmt) (o : PlainObject) → IsLocal w c ss (inside_of s) d x o → IsMade s d x o
  local_to s _ _ _ (one_local {stars = stars} {at = at} {n = n} {shape = shape} {start = start} {ty = ty} {konst = konst} {values = values}
      room says qualified h) =
      let d = t.declarator stars (t.identifier at n) shape in
      let typed = (laws.declarators.objects (known_in c s.names) ss stars (t.identifier at n) shape start ty).1 says in
      let const =
      same_const (konst_of stars at n shape start s) konst
      (laws.declarators.constness (known_in c s.names) ss stars (t.identifier at n) shape start) qualified in
      let left = (Decides-ltb (length s.objects) 65_536).1 room in
      let names = (with_declared w n ty konst s).names in
      let x = statement w.unit (first_declarator d) (declare (length s.objects) values) in
      record {
        stated =
            statement_at stars at n shape start s ty typed left
            ∙ ap (λ (z : Bool). with_one (initial_values c (with_declared w n ty z s).names start (Some ty))
            (statement_with stars at n shape start s (length s.objects))) const
            ∙ with_granted (initial_values c names start (Some ty)) (statement_with stars at n shape start s (length s.objects)) values x
            ((laws.initialisers.locals c names ty start values).0 h) refl;
        behind =
            subst (λ (z : Bool). Behind (local_object w n ty z ∷ []) s (with_local c r said (t.init_declarator d start) s)
            (declaring (local_object w n ty z ∷ []) (inside_of s))) const (behind_at stars at n shape start s ty typed left);
      }

  pub to_local : (s : Scope) (d : t.InitDeclarator) (x : PlainStmt) → local_statement c r said d s ≡ Some x
      → (o : PlainObject) × IsLocal w c ss (inside_of s) d x o × IsMade s d x o
  to_local s (t.init_declarator (t.declarator stars (t.identifier at n) shape) start) x q =
      let g = given_where stars at n shape start s x q in
      let konst = konst_of stars at n shape start s in
      let names = (with_declared w n g.0 konst s).names in
      let h = with_given (initial_values c names start (Some g.0)) (statement_with stars at n shape start s (length s.objects)) x
      (sym (statement_at stars at n shape start s g.0 g.1 g.2) ∙ q) in (
        local_object w n g.0 konst,
        subst (λ (z : PlainStmt). IsLocal w c ss (inside_of s)
            (t.init_declarator (t.declarator stars (t.identifier at n) shape) start) z (local_object w n g.0 konst))
            (inside h.2)
            (one_local ((Decides-ltb (length s.objects) 65_536).0 g.2)
            ((laws.declarators.objects (known_in c s.names) ss stars (t.identifier at n) shape start g.0).0 g.1)
            (laws.declarators.constness (known_in c s.names) ss stars (t.identifier at n) shape start) ((laws.initialisers.locals c names g.0 start h.0).1 h.1)),
        record { stated = q; behind = behind_at stars at n shape start s g.0 g.1 g.2 },
      )

  -- ---- some declarators

  none_in : (i : Inside) (xs : List PlainStmt) (os : List PlainObject) → AreLocals w c ss i [] xs os → (xs ≡ []) × (os ≡ [])
  none_in i _ _ no_local = (refl, refl)

  record IsMore (i : Inside) (d : t.InitDeclarator) (ds : List t.InitDeclarator) (xs : List PlainStmt) (os : List PlainObject) : Type 0 where
    pub x : PlainStmt
    pub o : PlainObject
    pub ys : List PlainStmt
    pub us : List PlainObject
    pub stmts : xs ≡ x ∷ ys
    pub objects : os ≡ o ∷ us
    pub first_one : IsLocal w c ss i d x o
    pub more : AreLocals w c ss (declaring (o ∷ []) i) ds ys us

  more_in : (i : Inside) (d : t.InitDeclarator) (ds : List t.InitDeclarator) (xs : List PlainStmt) (os : List PlainObject)
      → AreLocals w c ss i (d ∷ ds) xs os → IsMore i d ds xs os
  more_in _ _ _ _ _ (more_locals {x = x} {xs = xs} {o = o} {os = os} h m) = record {
    x = x;
    o = o;
    ys = xs;
    us = os;
    stmts = refl;
    objects = refl;
    first_one = h;
    more = m;
  }

  -- what some declarators make, before other statements
  pub record AreMade (s : Scope) (ds : List t.NextInitDeclarator) (xs : List PlainStmt) (os : List PlainObject) : Type 0 where
    pub stated : (rest : Option PlainStmts) → locals_before c r said ds s rest ≡ option_map (followed_by xs) rest
    pub behind : Behind os s (with_locals c r said ds s) (declaring os (inside_of s))

  nothing_made : (s : Scope) → AreMade s [] [] []
  nothing_made s = record { stated = same; behind = nothing_behind s }
    where
      same : (rest : Option PlainStmts) → rest ≡ option_map (followed_by []) rest
      same None = refl
      same (Some qs) = refl

  followed_both : (x : PlainStmt) (xs : List PlainStmt) (rest : Option PlainStmts)
      → followed (Some x) (option_map (followed_by xs) rest) ≡ option_map (followed_by (x ∷ xs)) rest
  followed_both x xs None = refl
  followed_both x xs (Some qs) = refl

  made_then : (s : Scope) (comma : Spot) (d : t.InitDeclarator) (ds : List t.NextInitDeclarator) (x : PlainStmt) (o : PlainObject)
      (xs : List PlainStmt) (os : List PlainObject) → IsMade s d x o → AreMade (with_local c r said d s) ds xs os
      → AreMade s (t.next_init_declarator comma d ∷ ds) (x ∷ xs) (o ∷ os)
  made_then s comma d ds x o xs os h g =
      let next = with_local c r said d s in
      record {
        stated = λ rest.
            ap (followed (local_statement c r said d s)) (g.stated rest)
            ∙ ap (λ z. followed z (option_map (followed_by xs) rest)) h.stated
            ∙ followed_both x xs rest;
        behind = record {
          known = g.behind.known ∙ ap (declaring os) h.behind.known;
          added = added_then (o ∷ []) os s next (with_locals c r said ds next) h.behind.added g.behind.added;
        };
      }

  pub locals_to : (ds : List t.NextInitDeclarator) (s : Scope) (i : Inside) (xs : List PlainStmt) (os : List PlainObject) → inside_of s ≡ i
      → AreLocals w c ss i (others ds) xs os → AreMade s ds xs os
  locals_to [] s i xs os e h =
      let g = none_in i xs os h in
      subst (λ (z : List PlainStmt). AreMade s [] z os) (sym g.0) (subst (λ (z : List PlainObject). AreMade s [] [] z) (sym g.1) (nothing_made s))
  locals_to (t.next_init_declarator comma d ∷ ds) s i xs os e h =
      let g = more_in i d (others ds) xs os h in
      let made = local_to s d g.x g.o (subst (λ (z : Inside). IsLocal w c ss z d g.x g.o) (sym e) g.first_one) in
      let all = made_then s comma d ds g.x g.o g.ys g.us made
      (locals_to ds (with_local c r said d s) (declaring (g.o ∷ []) i) g.ys g.us (made.behind.known ∙ ap (declaring (g.o ∷ [])) e) g.more) in
      subst (λ (z : List PlainStmt). AreMade s (t.next_init_declarator comma d ∷ ds) z os) (sym g.stmts)
      (subst (λ (z : List PlainObject). AreMade s (t.next_init_declarator comma d ∷ ds) (g.x ∷ g.ys) z) (sym g.objects) all)

  followed_given : (x : Option PlainStmt) (rest : Option PlainStmts) (qs : PlainStmts) → followed x rest ≡ Some qs
      → (y : PlainStmt) × (ys : PlainStmts) × (x ≡ Some y) × (rest ≡ Some ys)
  followed_given None rest qs q = absurd (nothing_there qs q)
  followed_given (Some y) None qs q = absurd (nothing_there qs q)
  followed_given (Some y) (Some ys) qs q = (y, ys, refl, refl)

  pub to_locals : (ds : List t.NextInitDeclarator) (s : Scope) (rest : Option PlainStmts) (qs : PlainStmts)
      → locals_before c r said ds s rest ≡ Some qs
      → (xs : List PlainStmt) × (os : List PlainObject) × AreLocals w c ss (inside_of s) (others ds) xs os × AreMade s ds xs os
  to_locals [] s rest qs q = ([], [], no_local, nothing_made s)
  to_locals (t.next_init_declarator comma d ∷ ds) s rest qs q =
      let next = with_local c r said d s in
      let g = followed_given (local_statement c r said d s) (locals_before c r said ds next rest) qs q in
      let h = to_local s d g.0 g.2 in
      let m = to_locals ds next rest g.1 g.3 in (
        g.0 ∷ m.0,
        h.0 ∷ m.1,
        more_locals h.1 (subst (λ (z : Inside). AreLocals w c ss z (others ds) m.0 m.1) h.2.behind.known m.2),
        made_then s comma d ds g.0 h.0 m.0 m.1 h.2 m.3,
      )
