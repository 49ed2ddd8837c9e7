-- What units add to the program is what the walk adds, so the program of the relation is that of the walk.
use Rattle.std.proofs.Common.{◌≡◌, ◌∙◌, ◌+◌, ◌<◌, ◌≤◌, ℕ, Bool, true, false, ◌&&◌, List, [], ◌∷◌, ◌++◌, length, append_assoc, refl, sym, ap}
use Rattle.std.proofs.Common.{subst, arith}
use Rattle.std.specs.Prelude.{if◌then◌else◌, nat_le, Option, Some, None, map}
use Rattle.std.proofs.lemmas.Bool.{false≢true}
use Rattle.std.proofs.lemmas.Bool.Decides.{Decides-ltb, nat_tests}
use Rattle.std.proofs.lemmas.List.{append-nil}
use Rattle.ec_grammar.specs.declared.Pragma.{Pragma}
use Rattle.ec_grammar.specs.declared.Spot.{Spot}
use Rattle.ec_grammar.specs.Trees as t
use Rattle.ec_iohw.specs.declared.table.IoTable.{IoTable}
use Rattle.ec_core.specs.Plain.{PlainType, PlainStmt, PlainObject, param, PlainFunction, PlainProgram}
use Rattle.ec_check_names.specs.Definitions.{Definition, definitions}
use Rattle.ec_check_names.specs.Tags.{Tags}
use Rattle.ec_check_declarations.specs.Functions.{FunctionDeclared}
use Rattle.ec_check_declarations.specs.Params.{ParamDeclared, param_declared, next_declared, params_declared}
use Rattle.ec_check_declarations.specs.Scopes.{Context, Scope, has_room, made_number, with_inner}
use Rattle.ec_check_statements.specs.Around.{Around}
use Rattle.ec_check_statements.specs.Statements.{body_of, after_body}
use Rattle.ec_check_file_scope.specs.States.{Setting, State, context_of, with_scope, broken, in_unit, nothing_declared}
use Rattle.ec_check_parts.specs.Readings.{Reading, walked}
use Rattle.ec_check_parts.specs.Declared.{DeclareResult}
use Rattle.ec_check_parts.specs.Functions.{params_behind, params_in}
use Rattle.ec_check_parts.specs.Laws.{inside_of, outside_of}
use Rattle.ec_check_parts.specs.Places.{Inside}
use Rattle.ec_check_parts.specs.Said.{DeclaratorsAreSaid}
use Rattle.ec_check_parts.specs.Units.{Outside, function_at, behind_external, behind_unit}
use Rattle.ec_check_parts.proofs.Mains.{mains_are_found}
use Rattle.ec_check_parts.proofs.Types.{same_const}
use Rattle.ec_check_typed.specs.Laws.{AreAdded, place_of, IsFurther, IsSaid, StatementsAreSaid, FileScopeIsSaid}
use Rattle.ec_check_typed.specs.Statements.{Enclosing, declaring, IsBody}
use Rattle.ec_check_typed.specs.Units as units
use Rattle.ec_check_typed.specs.Units.{Added, nothing, both, Place, past, param_object, AreParams, IsFunction, Adds, AddAll, begins}
use Rattle.ec_check_typed.specs.Units.{UnitsAdd, first_place, Typed}
use Rattle.ec_check_typed.proofs.FileScope.{nothing_further, further_then, place_behind}
use Rattle.ec_check_typed.proofs.Locals.{Behind, nothing_behind, added_then, inner_behind, longer}
use Rattle.ec_check.specs.Broken.{LeastIsFound}
use Rattle.ec_check.specs.Laws.{ProgramsAreTyped, ProgramsExist}
use Rattle.ec_check.specs.Definitions.{with_param, param_number, with_params, next_numbers, param_numbers, has_number, number_in}
use Rattle.ec_check.specs.Definitions.{function_made, with_function, named_definition, after_definition}
use Rattle.ec_check.specs.Units.{main_of, after_external, after_externals, after_unit, setting_of, after_units, program_by, program_of}
use Rattle.ec_check.proofs.Judged.{PartLaws, external_is, unit_is}

inside : {A : Type 0} {x y : A} → ◌≡◌ {A = Option A} (Some x) (Some y) → x ≡ y
inside q = cc

nothing_there : {A : Type 0} → (o : A) → ◌≡◌ {A = Option A} None (Some o) → ⊥
nothing_there o q = cc

-- ---- parameters

-- a parameter that is declared
param_behind : (unit function : ℕ) (p : ParamDeclared) (n : List ℕ) (ty : PlainType) (s : Scope) → p.name ≡ Some n → p.ty ≡ Some ty
    → has_room s.objects ≡ true
    → Behind (param_object unit function n ty p.konst ∷ []) s (with_param unit function p.name p s)
    (declaring (param_object unit function n ty p.konst ∷ []) (inside_of s))
param_behind unit function p n ty s named typed room =
    subst (λ (z : Scope). Behind (param_object unit function n ty p.konst ∷ []) s z
    (declaring (param_object unit function n ty p.konst ∷ []) (inside_of s)))
    (sym
    (ap (λ z. with_param unit function z p s) named
    ∙ ap (λ z. with_inner unit n z p.konst (param function) s) typed))
    (inner_behind unit n ty p.konst (param function) s room)

numbered : (p : ParamDeclared) (n : List ℕ) (ty : PlainType) (s : Scope) → p.name ≡ Some n → p.ty ≡ Some ty → has_room s.objects ≡ true
    → param_number p.name p s ≡ Some (length s.objects)
numbered p n ty s named typed room =
    ap (λ z. param_number z p s) named
    ∙ ap (λ z. made_number z s.objects) typed
    ∙ ap (λ (b : Bool). if b then Some (length s.objects) else None) room

-- what parameters make
record AreMade (unit function : ℕ) (ps : List ParamDeclared) (s : Scope) (ns : List ℕ) (os : List PlainObject) : Type 0 where
  pub numbers : (found : List ℕ) → param_numbers unit function ps s (Some found) ≡ Some (found ++ ns)
  pub behind : Behind os s (with_params unit function ps s) (declaring os (inside_of s))

made_then : (unit function : ℕ) (p : ParamDeclared) (ps : List ParamDeclared) (s : Scope) (n : List ℕ) (ty : PlainType) (ns : List ℕ)
    (os : List PlainObject) → p.name ≡ Some n → p.ty ≡ Some ty → has_room s.objects ≡ true
    → AreMade unit function ps (with_param unit function p.name p s) ns os
    → AreMade unit function (p ∷ ps) s (length s.objects ∷ ns) (param_object unit function n ty p.konst ∷ os)
made_then unit function p ps s n ty ns os named typed room h =
    let next = with_param unit function p.name p s in
    let one = param_behind unit function p n ty s named typed room in
    record {
      numbers = λ found.
          ap (λ z. param_numbers unit function ps next (next_numbers (Some found) z)) (numbered p n ty s named typed room)
          ∙ h.numbers (found ++ length s.objects ∷ [])
          ∙ ap Some (append_assoc found (length s.objects ∷ []) ns);
      behind = record {
        known = h.behind.known ∙ ap (declaring os) one.known;
        added = added_then (param_object unit function n ty p.konst ∷ []) os s next (with_params unit function ps next) one.added
            h.behind.added;
      };
    }

-- the parameters of trees
module _ (declarators : DeclaratorsAreSaid) (tags : Tags) (structs unit function : ℕ) where
  abbrev declared : t.Param → ParamDeclared
  declared p = param_declared tags structs p

  params_to : (i : Inside) (ps : List t.Param) (ns : List ℕ) (os : List PlainObject) → AreParams tags structs unit function i ps ns os
      → (s : Scope) → inside_of s ≡ i → AreMade unit function (map declared ps) s ns os
  params_to _ _ _ _ units.no_param = λ s e. record {
    numbers = λ found. ap Some (sym (append-nil found));
    behind = nothing_behind s;
  }
  params_to _ _ _ _ (units.more_params {i = i} {ss = ss} {stars = stars} {at = at} {n = n} {ps = ps} {ty = ty} {konst = konst} {ns = ns}
      {os = os} says qualified room h) =
      λ s e.
      let q = t.param (t.type_name ss stars) (Some (t.identifier at n)) in
      let p = declared q in
      let typed = (declarators.params tags structs ss stars (Some (t.identifier at n)) ty).1 says in
      let const = same_const p.konst konst (declarators.constness_of_params tags structs ss stars (Some (t.identifier at n))) qualified in
      let left = (Decides-ltb (length s.objects) 65_536).1 (subst (λ (z : Inside). z.made < 65_536) (sym e) room) in
      let one = param_behind unit function p n ty s refl typed left in
      let m = params_to (declaring (param_object unit function n ty konst ∷ []) i) ps ns os h (with_param unit function p.name p s)
      (one.known ∙ ap (declaring (param_object unit function n ty p.konst ∷ [])) e
      ∙ ap (λ (z : Bool). declaring (param_object unit function n ty z ∷ []) i) const) in
      subst (λ (z : Bool). AreMade unit function (map declared (q ∷ ps)) s (i.made ∷ ns) (param_object unit function n ty z ∷ os)) const
      (subst (λ (z : ℕ). AreMade unit function (map declared (q ∷ ps)) s (z ∷ ns) (param_object unit function n ty p.konst ∷ os))
      (ap (λ (z : Inside). z.made) e) (made_then unit function p (map declared ps) s n ty ns os refl typed left m))

no_numbers : (unit function : ℕ) (ps : List ParamDeclared) (s : Scope) → param_numbers unit function ps s None ≡ None
no_numbers unit function [] s = refl
no_numbers unit function (p ∷ ps) s = no_numbers unit function ps (with_param unit function p.name p s)

next_given : (unit function : ℕ) (ps : List ParamDeclared) (s : Scope) (found all : List ℕ) (n : Option ℕ)
    → param_numbers unit function ps s (next_numbers (Some found) n) ≡ Some all
    → (m : ℕ) × (n ≡ Some m) × (param_numbers unit function ps s (Some (found ++ m ∷ [])) ≡ Some all)
next_given unit function ps s found all None q = absurd (nothing_there all (sym (no_numbers unit function ps s) ∙ q))
next_given unit function ps s found all (Some m) q = (m, refl, q)

-- a parameter with a number has a type, and a number is left for it
number_given : (ty : Option PlainType) (s : Scope) (m : ℕ) → made_number ty s.objects ≡ Some m
    → (u : PlainType) × (ty ≡ Some u) × (has_room s.objects ≡ true) × (length s.objects ≡ m)
number_given None s m q = absurd (nothing_there m q)
number_given (Some ty) s m q = by (has_room s.objects) refl q
  where
    by : (b : Bool) → has_room s.objects ≡ b → (if b then Some (length s.objects) else None) ≡ Some m
        → (u : PlainType) × (Some ty ≡ Some u) × (has_room s.objects ≡ true) × (length s.objects ≡ m)
    by true e q = (ty, refl, e, inside q)
    by false e q = absurd (nothing_there m q)

module _ (declarators : DeclaratorsAreSaid) (tags : Tags) (structs unit function : ℕ) where
  abbrev all_declared : List t.Param → List ParamDeclared
  all_declared ps = map (param_declared tags structs) ps

  abbrev FoundParams : List t.Param → (s : Scope) (found all : List ℕ) → Type 0
  FoundParams ps s found all =
      (ns : List ℕ) × (os : List PlainObject) × AreParams tags structs unit function (inside_of s) ps ns os
      × AreMade unit function (all_declared ps) s ns os × (found ++ ns ≡ all)

  to_params : (ps : List t.Param) (s : Scope) (found all : List ℕ)
      → param_numbers unit function (all_declared ps) s (Some found) ≡ Some all → FoundParams ps s found all
  to_params [] s found all q = (
    [],
    [],
    units.no_param,
    record { numbers = λ found. ap Some (sym (append-nil found)); behind = nothing_behind s },
    append-nil found ∙ inside q,
  )
  to_params (t.param (t.type_name ss stars) None ∷ ps) s found all q =
      let p = param_declared tags structs (t.param (t.type_name ss stars) None) in
      absurd (nothing_there all (sym (no_numbers unit function (all_declared ps) (with_param unit function p.name p s)) ∙ q))
  to_params (t.param (t.type_name ss stars) (Some (t.identifier at n)) ∷ ps) s found all q =
      let p = param_declared tags structs (t.param (t.type_name ss stars) (Some (t.identifier at n))) in
      let next = with_param unit function p.name p s in
      let g = next_given unit function (all_declared ps) next found all (param_number p.name p s) q in
      let h = number_given p.ty s g.0 g.1 in
      let m = to_params ps next (found ++ g.0 ∷ []) all g.2 in
      let one = param_behind unit function p n h.0 s refl h.1 h.2 in (
        length s.objects ∷ m.0,
        param_object unit function n h.0 p.konst ∷ m.1,
        units.more_params ((declarators.params tags structs ss stars (Some (t.identifier at n)) h.0).0 h.1)
            (declarators.constness_of_params tags structs ss stars (Some (t.identifier at n)))
            ((Decides-ltb (length s.objects) 65_536).0 h.2)
            (subst (λ (z : Inside). AreParams tags structs unit function z ps m.0 m.1) one.known m.2),
        made_then unit function p (all_declared ps) s n h.0 m.0 m.1 refl h.1 h.2 m.3,
        sym (append_assoc found (length s.objects ∷ []) m.0) ∙ ap (λ (z : ℕ). (found ++ z ∷ []) ++ m.0) h.3 ∙ m.4,
      )

-- the parameters of a function, one behind the other
more_declared : (tags : Tags) (n : ℕ) (ps : List t.NextParam)
    → map (next_declared tags n) ps ≡ map (param_declared tags n) (params_behind ps)
more_declared tags n [] = refl
more_declared tags n (t.next_param comma p ∷ ps) = ap (λ zs. param_declared tags n p ∷ zs) (more_declared tags n ps)

all_params : (tags : Tags) (n : ℕ) (ps : t.Params) → params_declared tags n ps ≡ map (param_declared tags n) (params_in ps)
all_params tags n (t.void_params s) = refl
all_params tags n (t.params first more) = ap (λ zs. param_declared tags n first ∷ zs) (more_declared tags n more)

-- ---- functions

-- where all has a meaning behind a function, it is there
function_there : (x : Option PlainFunction) (s : State) → (with_function x s).whole ≡ true
    → (g : PlainFunction) × (x ≡ Some g) × (has_number s.functions ≡ true)
function_there None s h = absurd (false≢true h)
function_there (Some g) s h = by (has_number s.functions) refl h
  where
    by : (b : Bool) → has_number s.functions ≡ b
        → (if b then record s { functions = s.functions ++ g ∷ [] } else broken s).whole ≡ true
        → (f : PlainFunction) × (Some g ≡ Some f) × (has_number s.functions ≡ true)
    by true e h = (g, refl, e)
    by false e h = absurd (false≢true h)

function_further : (g : PlainFunction) (s v : State) (os : List PlainObject) → has_number s.functions ≡ true → v.whole ≡ s.whole
    → v.structs ≡ s.structs → v.functions ≡ s.functions → v.scope.objects ≡ s.scope.objects ++ os
    → IsFurther (record { structs = []; objects = os; functions = g ∷ [] }) s (with_function (Some g) v)
function_further g s v os room whole structs functions objects =
    subst (λ (b : Bool). IsFurther (record { structs = []; objects = os; functions = g ∷ [] }) s
    (if b then record v { functions = v.functions ++ g ∷ [] } else broken v))
    (sym (ap has_number functions ∙ room)) there
  where
    there : IsFurther (record { structs = []; objects = os; functions = g ∷ [] }) s (record v { functions = v.functions ++ g ∷ [] })
    there = record {
      whole = whole;
      structs = structs ∙ sym (append-nil s.structs);
      objects = objects;
      functions = ap (λ z. z ++ g ∷ []) functions;
    }

-- the laws of functions
pub record FunctionLaws : Type 0 where
  pub statements : StatementsAreSaid
  pub declarators : DeclaratorsAreSaid

module _ (bodies : FunctionLaws) (r : Setting) (ss : t.Specs) (stars : List t.Star) (at : Spot) (n : List ℕ) (l : Spot)
    (ps : t.Params) (e : Spot) (b : t.Compound) (s : State) where
  abbrev f : t.Function
  f = t.function (t.type_name ss stars) (t.identifier at n) l ps e b

  abbrev d : FunctionDeclared
  d = function_at walked ss stars ps (outside_of s)

  abbrev named : State
  named = named_definition r f s d

  abbrev c : Context
  c = context_of r.ports named

  abbrev params : ℕ → Scope
  params m = with_params r.unit m d.params named.scope

  abbrev around_as : ℕ → Option PlainType → Around
  around_as m returns =
      record { function = m; unit = r.unit; in_loop = false; result = returns; first = length named.scope.names.inside }

  abbrev behind_as : ℕ → Option PlainType → State
  behind_as m returns = with_scope (after_body c (around_as m returns) b (params m)) named

  abbrev made_as : ℕ → Option PlainType → Option PlainFunction
  made_as m returns =
      function_made r.unit n returns (param_numbers r.unit m d.params named.scope (Some []))
      (body_of c (around_as m returns) b (params m))

  abbrev result_as : ℕ → Option PlainType → State
  result_as m returns = with_function (made_as m returns) (behind_as m returns)

  definition_as : after_definition r f s ≡ result_as (number_in named.functions) d.returns
  definition_as = refl

  number_as : has_number s.functions ≡ true → number_in named.functions ≡ length s.functions
  number_as h = ap (λ (z : Bool). if z then length s.functions else 0) h

  -- the objects of the parameters and of the body
  module _ (returns : PlainType) (os us : List PlainObject) (body : PlainStmt) (ns : List ℕ)
      (made : AreMade r.unit (length s.functions) d.params named.scope ns os)
      (meant : body_of c (around_as (length s.functions) (Some returns)) b (params (length s.functions)) ≡ Some body)
      (added : AreAdded us (params (length s.functions))
      (after_body c (around_as (length s.functions) (Some returns)) b (params (length s.functions))))
      (typed : d.returns ≡ Some returns) (room : has_number s.functions ≡ true) where
    abbrev g : PlainFunction
    g = record { name = n; unit = r.unit; returns = returns; params = ns; body = body }

    made_is : made_as (length s.functions) (Some returns) ≡ Some g
    made_is =
        ap (λ z. function_made r.unit n (Some returns) z (body_of c (around_as (length s.functions) (Some returns)) b
        (params (length s.functions)))) (made.numbers [])
        ∙ ap (λ z. function_made r.unit n (Some returns) (Some ns) z) meant

    definition_is : after_definition r f s ≡ with_function (Some g) (behind_as (length s.functions) (Some returns))
    definition_is =
        definition_as
        ∙ ap (λ m. result_as m d.returns) (number_as room)
        ∙ ap (λ z. result_as (length s.functions) z) typed
        ∙ ap (λ z. with_function z (behind_as (length s.functions) (Some returns))) made_is

    definition_further : IsFurther (record { structs = []; objects = os ++ us; functions = g ∷ [] }) s (after_definition r f s)
    definition_further =
        subst (λ (z : State). IsFurther (record { structs = []; objects = os ++ us; functions = g ∷ [] }) s z) (sym definition_is)
        (function_further g s (behind_as (length s.functions) (Some returns)) (os ++ us) room refl refl refl
        (added_then os us named.scope (params (length s.functions))
        (after_body c (around_as (length s.functions) (Some returns)) b (params (length s.functions))) made.behind.added added))

  abbrev w : PlainType → Enclosing
  w returns = record { unit = r.unit; function = length s.functions; result = returns }

  abbrev Params : List ℕ → List PlainObject → Type 0
  Params ns os = AreParams s.tags (length s.structs) r.unit (length s.functions) (inside_of named.scope) (params_in ps) ns os

  -- what parameters make, in the place of what they declare
  params_are : (ns : List ℕ) (os : List PlainObject)
      → AreMade r.unit (length s.functions) (map (param_declared s.tags (length s.structs)) (params_in ps)) named.scope ns os
      → AreMade r.unit (length s.functions) d.params named.scope ns os
  params_are ns os h =
      subst (λ (z : List ParamDeclared). AreMade r.unit (length s.functions) z named.scope ns os)
      (sym (all_params s.tags (length s.structs) ps)) h

  definition_to : (returns : PlainType) (ns : List ℕ) (os us : List PlainObject) (body : PlainStmt) → length s.functions < 65_536
      → DeclareResult s.tags (length s.structs) ss stars returns → Params ns os
      → IsBody (w returns) c (declaring os (inside_of named.scope)) b body us
      → IsFurther
      (record {
        structs = [];
        objects = os ++ us;
        functions = record { name = n; unit = r.unit; returns = returns; params = ns; body = body } ∷ [];
      }) s (after_definition r f s)
  definition_to returns ns os us body room says h m =
      let typed = (bodies.declarators.results s.tags (length s.structs) ss stars ps returns).1 says in
      let made =
      params_are ns os
      (params_to bodies.declarators s.tags (length s.structs) r.unit (length s.functions) (inside_of named.scope) (params_in ps) ns os h
      named.scope refl) in
      let meant = (bodies.statements.bodies (w returns) c (length named.scope.names.inside) b (params (length s.functions)) body us).0
      (subst (λ (z : Inside). IsBody (w returns) c z b body us) (sym made.behind.known) m) in
      definition_further returns os us body ns made meant.0 meant.1 typed ((Decides-ltb (length s.functions) 65_536).1 room)

  abbrev FoundFunction : Type 0
  FoundFunction = (g : PlainFunction) × (os : List PlainObject) × IsFunction walked r (place_of s) f g os

  to_definition : (after_definition r f s).whole ≡ true → FoundFunction
  to_definition h = numbered_so (function_there (made_as (number_in named.functions) d.returns)
      (behind_as (number_in named.functions) d.returns) h)
    where
      bodied : (returns : PlainType) (ns : List ℕ) → has_number s.functions ≡ true → d.returns ≡ Some returns
          → param_numbers r.unit (length s.functions) d.params named.scope (Some []) ≡ Some ns → (body : PlainStmt)
          → body_of c (around_as (length s.functions) (Some returns)) b (params (length s.functions)) ≡ Some body → FoundFunction
      bodied returns ns room typed q body meant =
          let g =
          to_params bodies.declarators s.tags (length s.structs) r.unit (length s.functions) (params_in ps) named.scope [] ns
          (ap (λ (z : List ParamDeclared). param_numbers r.unit (length s.functions) z named.scope (Some []))
          (sym (all_params s.tags (length s.structs) ps)) ∙ q) in
          let m = bodies.statements.given (w returns) c (length named.scope.names.inside) b (params (length s.functions)) body meant in (
            record { name = n; unit = r.unit; returns = returns; params = g.0; body = body },
            g.1 ++ m.0,
            units.a_function ((Decides-ltb (length s.functions) 65_536).0 room)
                ((bodies.declarators.results s.tags (length s.structs) ss stars ps returns).0 typed) g.2
                (subst (λ (z : Inside). IsBody (w returns) c z b body m.0) (params_are g.0 g.1 g.3).behind.known m.1),
          )

      made_from : (returns : Option PlainType) (ns : Option (List ℕ)) (body : Option PlainStmt) (g : PlainFunction)
          → function_made r.unit n returns ns body ≡ Some g
          → (ty : PlainType) × (ms : List ℕ) × (stmt : PlainStmt) × (returns ≡ Some ty) × (ns ≡ Some ms) × (body ≡ Some stmt)
      made_from None ns body g q = absurd (nothing_there g q)
      made_from (Some ty) None body g q = absurd (nothing_there g q)
      made_from (Some ty) (Some ms) None g q = absurd (nothing_there g q)
      made_from (Some ty) (Some ms) (Some stmt) g q = (ty, ms, stmt, refl, refl, refl)

      found : has_number s.functions ≡ true → (g : PlainFunction) → made_as (number_in named.functions) d.returns ≡ Some g → FoundFunction
      found room g q =
          let x = made_from d.returns (param_numbers r.unit (length s.functions) d.params named.scope (Some []))
          (body_of c (around_as (length s.functions) d.returns) b (params (length s.functions))) g
          (sym (ap (λ m. made_as m d.returns) (number_as room)) ∙ q) in
          let meant = sym (ap (λ z. body_of c (around_as (length s.functions) z) b (params (length s.functions))) x.3) ∙ x.5 in
          bodied x.0 x.1 room x.3 x.4 x.2 meant

      numbered_so : (g : PlainFunction) × (made_as (number_in named.functions) d.returns ≡ Some g)
          × (has_number named.functions ≡ true) → FoundFunction
      numbered_so g = found g.2 g.0 g.1

-- ---- external declarations

module _ (parts : PartLaws) (file : FileScopeIsSaid) (bodies : FunctionLaws) where
  function_added : (r : Setting) (f : t.Function) (s : State) (a : Added) → Adds walked r (place_of s) (t.function_item f) a
      → IsFurther a s (after_definition r f s)
  function_added r _ s _ (units.by_function {f = f} {g = g} {os = os} h) = by f g os h
    where
      by : (f : t.Function) (g : PlainFunction) (os : List PlainObject) → IsFunction walked r (place_of s) f g os
          → IsFurther (record { structs = []; objects = os; functions = g ∷ [] }) s (after_definition r f s)
      by _ _ _ (units.a_function {ss = ss} {stars = stars} {at = at} {l = l} {e = e} {n = n} {ps = ps} {b = b} {returns = returns} {ns = ns}
          {os = os} {us = us} {body = body} room typed h m) =
          definition_to bodies r ss stars at n l ps e b s returns ns os us body room typed h m

  function_said : (r : Setting) (f : t.Function) (s : State) → (after_definition r f s).whole ≡ true
      → (a : Added) × Adds walked r (place_of s) (t.function_item f) a
  function_said r (t.function (t.type_name ss stars) (t.identifier at n) l ps e b) s h =
      let g = to_definition bodies r ss stars at n l ps e b s h in
      (record { structs = []; objects = g.1; functions = g.0 ∷ [] }, units.by_function g.2)

  pragma_added : (r : Setting) (q : Pragma) (s : State) (a : Added) → Adds walked r (place_of s) (t.pragma_item q) a
      → IsFurther a s (after_external r (t.pragma_item q) s)
  pragma_added r q s _ units.by_pragma = record {
    whole = refl;
    structs = sym (append-nil s.structs);
    objects = sym (append-nil s.scope.objects);
    functions = sym (append-nil s.functions);
  }

  external_said : (r : Setting) (x : t.External) (s : State) → IsSaid (Adds walked r (place_of s) x) s (after_external r x s)
  external_said r (t.pragma_item q) s = record { added = pragma_added r q s; there = λ h. (nothing, units.by_pragma) }
  external_said r (t.structure_item d) s = file.structures r d s
  external_said r (t.register_item d) s = file.registers r d s
  external_said r (t.declaration_item d) s = file.declarations r d s
  external_said r (t.function_item f) s = record { added = function_added r f s; there = function_said r f s }

  next_place : (r : Setting) (x : t.External) (s : State) (a : Added) → IsFurther a s (after_external r x s)
      → place_of (after_external r x s) ≡ past a (behind_external walked r x (outside_of s)) (place_of s)
  next_place r x s a h =
      place_behind s (after_external r x s) (behind_external walked r x (outside_of s)) a (external_is parts r x s) h

  externals_to : (r : Setting) (p : Place) (xs : List t.External) (a : Added) → AddAll walked r p xs a → (s : State) → place_of s ≡ p
      → IsFurther a s (after_externals r xs s)
  externals_to r _ _ _ units.no_external = λ s e. nothing_further s
  externals_to r _ _ _ (units.more_externals {p = p} {x = x} {xs = xs} {a = a} {b = b} h m) =
      λ s e.
      let next = after_external r x s in
      let one = (external_said r x s).added a (subst (λ (z : Place). Adds walked r z x a) (sym e) h) in
      further_then a b s next (after_externals r xs next) one
      (externals_to r (past a (behind_external walked r x p.known) p) xs b m next
      (next_place r x s a one ∙ ap (λ (z : Place). past a (behind_external walked r x z.known) z) e))

  external_whole : (r : Setting) (x : t.External) (s : State) → (after_external r x s).whole ≡ true → s.whole ≡ true
  external_whole r x s h =
      let g = (external_said r x s).there h in sym ((external_said r x s).added g.0 g.1).whole ∙ h

  externals_whole : (r : Setting) (xs : List t.External) (s : State) → (after_externals r xs s).whole ≡ true → s.whole ≡ true
  externals_whole r [] s h = h
  externals_whole r (x ∷ xs) s h = external_whole r x s (externals_whole r xs (after_external r x s) h)

  externals_there : (r : Setting) (xs : List t.External) (s : State) → (after_externals r xs s).whole ≡ true
      → (a : Added) × AddAll walked r (place_of s) xs a
  externals_there r [] s h = (nothing, units.no_external)
  externals_there r (x ∷ xs) s h =
      let next = after_external r x s in
      let g = (external_said r x s).there (externals_whole r xs next h) in
      let one = (external_said r x s).added g.0 g.1 in
      let m = externals_there r xs next h in
      (both g.0 m.0, units.more_externals g.1 (subst (λ (z : Place). AddAll walked r z xs m.0) (next_place r x s g.0 one) m.1))

  -- ---- units

  from_start : (s v : State) (a : Added) → IsFurther a (in_unit s) v → IsFurther a s v
  from_start s v a h = record { whole = h.whole; structs = h.structs; objects = h.objects; functions = h.functions }

  unit_place : (r : Setting) (xs : List t.External) (e : Spot) (s : State) (a : Added) → IsFurther a s (after_unit r (t.tree xs e) s)
      → place_of (after_unit r (t.tree xs e) s) ≡ past a (behind_unit walked r (t.tree xs e) (outside_of s)) (place_of s)
  unit_place r xs e s a h =
      place_behind s (after_unit r (t.tree xs e) s) (behind_unit walked r (t.tree xs e) (outside_of s)) a (unit_is parts r (t.tree xs e) s) h

  units_to : (ds : List Definition) (io : IoTable) (n : ℕ) (p : Place) (us : List t.Tree) (a : Added) → UnitsAdd walked ds io n p us a
      → (s : State) → place_of s ≡ p → IsFurther a s (after_units ds io n us s)
  units_to ds io _ _ _ _ units.no_unit = λ s e. nothing_further s
  units_to ds io _ _ _ _ (units.more_units {unit = n} {p = p} {xs = xs} {e = z} {us = us} {a = a} {b = b} h m) =
      λ s e.
      let r = setting_of ds io n in
      let next = after_unit r (t.tree xs z) s in
      let one = from_start s next a (externals_to r (begins p) xs a h (in_unit s) (ap begins e)) in
      further_then a b s next (after_units ds io (n + 1) us next) one
      (units_to ds io (n + 1) (past a (behind_unit walked r (t.tree xs z) p.known) p) us b m next
      (unit_place r xs z s a one ∙ ap (λ (q : Place). past a (behind_unit walked r (t.tree xs z) q.known) q) e))

  units_whole : (ds : List Definition) (io : IoTable) (n : ℕ) (us : List t.Tree) (s : State)
      → (after_units ds io n us s).whole ≡ true → s.whole ≡ true
  units_whole ds io n [] s h = h
  units_whole ds io n (t.tree xs z ∷ us) s h =
      externals_whole (setting_of ds io n) xs (in_unit s)
      (units_whole ds io (n + 1) us (after_unit (setting_of ds io n) (t.tree xs z) s) h)

  units_there : (ds : List Definition) (io : IoTable) (n : ℕ) (us : List t.Tree) (s : State)
      → (after_units ds io n us s).whole ≡ true → (a : Added) × UnitsAdd walked ds io n (place_of s) us a
  units_there ds io n [] s h = (nothing, units.no_unit)
  units_there ds io n (t.tree xs z ∷ us) s h =
      let r = setting_of ds io n in
      let next = after_unit r (t.tree xs z) s in
      let g = externals_there r xs (in_unit s) (units_whole ds io (n + 1) us next h) in
      let one = from_start s next g.0 (externals_to r (begins (place_of s)) xs g.0 g.1 (in_unit s) refl) in
      let m = units_there ds io (n + 1) us next h in
      (both g.0 m.0, units.more_units g.1 (subst (λ (q : Place). UnitsAdd walked ds io (n + 1) q us m.0) (unit_place r xs z s g.0 one) m.1))

-- ---- how many functions there are

abbrev FewFunctions : Place → Added → Type 0
FewFunctions p a = p.functions ≤ 65_536 → p.functions + length a.functions ≤ 65_536

few_both : (p : Place) (o : Outside) (a b : Added) → FewFunctions p a → FewFunctions (past a o p) b → FewFunctions p (both a b)
few_both p o a b h m le =
    let there = longer a.functions b.functions in
    let two = m (h le) in
    omega (arith, there, two)

few_added : (r : Setting) (p : Place) (x : t.External) (a : Added) → Adds walked r p x a → FewFunctions p a
few_added r p _ _ units.by_pragma = λ le. omega (arith, le)
few_added r p _ _ (units.by_struct h) = λ le. omega (arith, le)
few_added r p _ _ (units.by_register h) = λ le. omega (arith, le)
few_added r p _ _ (units.by_declaration h) = λ le. omega (arith, le)
few_added r p _ _ (units.by_function {f = f} {g = g} {os = os} h) = by f g os h
  where
    by : (f : t.Function) (g : PlainFunction) (os : List PlainObject) → IsFunction walked r p f g os → p.functions ≤ 65_536
        → p.functions + 1 ≤ 65_536
    by _ _ _ (units.a_function room typed h m) le = omega (arith, room)

few_externals : (r : Setting) (p : Place) (xs : List t.External) (a : Added) → AddAll walked r p xs a → FewFunctions p a
few_externals r _ _ _ (units.no_external {p = p}) = λ le. omega (arith, le)
few_externals r _ _ _ (units.more_externals {p = p} {x = x} {xs = xs} {a = a} {b = b} h m) =
    few_both p (behind_external walked r x p.known) a b (few_added r p x a h)
    (few_externals r (past a (behind_external walked r x p.known) p) xs b m)

few_units : (ds : List Definition) (io : IoTable) (n : ℕ) (p : Place) (us : List t.Tree) (a : Added) → UnitsAdd walked ds io n p us a
    → FewFunctions p a
few_units ds io _ _ _ _ (units.no_unit {p = p}) = λ le. omega (arith, le)
few_units ds io _ _ _ _ (units.more_units {unit = n} {p = p} {xs = xs} {e = z} {us = us} {a = a} {b = b} h m) =
    let r = setting_of ds io n in
    few_both p (behind_unit walked r (t.tree xs z) p.known) a b (few_externals r (begins p) xs a h)
    (few_units ds io (n + 1) (past a (behind_unit walked r (t.tree xs z) p.known) p) us b m)

-- ---- programs

module _ (parts : PartLaws) (file : FileScopeIsSaid) (bodies : FunctionLaws) (us : List t.Tree) (io : IoTable) where
  abbrev behind : State
  behind = after_units (definitions us) io 0 us nothing_declared

  program_at : (a : Added) (start : ℕ) → main_of (definitions us) ≡ Some start → UnitsAdd walked (definitions us) io 0 first_place us a
      → program_of us io
      ≡ Some (record { structs = a.structs; objects = a.objects; functions = a.functions; main = start })
  program_at a start e h =
      let g = units_to parts file bodies (definitions us) io 0 first_place us a h nothing_declared refl in
      let added = few_units (definitions us) io 0 first_place us a h (omega arith) in
      let few : length a.functions ≤ 65_536 = omega (arith, added) in
      let count : length behind.functions ≤ 65_536 = subst (λ z. length z ≤ 65_536) (sym g.functions) few in
      let fits : nat_le (length behind.functions) 65_536 ≡ true = grind (arith, nat_tests, count) in
      ap (λ z. program_by z behind) e
      ∙ ap (λ (b : Bool). if b && nat_le (length behind.functions) 65_536 then Some (made start) else None) g.whole
      ∙ ap (λ (b : Bool). if b then Some (made start) else None) fits
      ∙ ap (λ z. Some (record { structs = z; objects = behind.scope.objects; functions = behind.functions; main = start })) g.structs
      ∙ ap (λ z. Some (record { structs = a.structs; objects = z; functions = behind.functions; main = start })) g.objects
      ∙ ap (λ z. Some (record { structs = a.structs; objects = a.objects; functions = z; main = start })) g.functions
    where
      made : ℕ → PlainProgram
      made start =
          record { structs = behind.structs; objects = behind.scope.objects; functions = behind.functions; main = start }

  typed_to : (p : PlainProgram) → Typed us io p → program_of us io ≡ Some p
  typed_to _ (units.typed {q = q} {a = a} {start = start} r h e) =
      program_at a start ((mains_are_found (definitions us) start).1 e)
      (subst (λ (z : Reading). UnitsAdd z (definitions us) io 0 first_place us a) ((parts.one q).0 r) h)

  to_typed : (p : PlainProgram) → program_of us io ≡ Some p → Typed us io p
  to_typed p q = by (main_of (definitions us)) refl q
    where
      whole : (start : ℕ) (b c : Bool) → behind.whole ≡ b → main_of (definitions us) ≡ Some start
          → (if b && c then Some (record { structs = behind.structs; objects = behind.scope.objects; functions = behind.functions; main = start }) else None) ≡ Some p
          → Typed us io p
      whole start true c w e f =
          let g = units_there parts file bodies (definitions us) io 0 us nothing_declared w in
          subst (λ (z : PlainProgram). Typed us io z) (inside (sym (program_at g.0 start e g.1) ∙ q)) (units.typed ((parts.one walked).1 refl) g.1 ((mains_are_found (definitions us) start).0 e))
      whole start false c w e f = absurd (nothing_there p f)

      by : (start : Option ℕ) → main_of (definitions us) ≡ start → program_by start behind ≡ Some p → Typed us io p
      by None e f = absurd (nothing_there p f)
      by (Some start) e f = whole start behind.whole (nat_le (length behind.functions) 65_536) refl e f

-- the laws of programs
pub programs_are_typed : PartLaws → FileScopeIsSaid → FunctionLaws → LeastIsFound → ProgramsExist → ProgramsAreTyped
programs_are_typed parts file bodies least exist = record {
  walked = λ us io p. (typed_to parts file bodies us io p, to_typed parts file bodies us io p);
  only = λ us io p q h g. inside (sym (typed_to parts file bodies us io p h) ∙ typed_to parts file bodies us io q g);
  exists = λ us io some limits few unbroken.
      let g = exist us io some limits few (least.nothing us io unbroken) in
      (g.0, to_typed parts file bodies us io g.0 g.1.typed);
}
