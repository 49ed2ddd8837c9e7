-- Definitions of functions agree with what is numbered.
use Rattle.std.proofs.Common.{◌≡◌, ◌∙◌, ◌<◌, ◌≤◌, ◌+◌, ◌++◌, ℕ, true, List, [], ◌∷◌, length, refl, sym, ap, subst, arith}
use Rattle.std.specs.Prelude.{Option, Some, None, IsSome, IsSomeAnd, Contains}
use Rattle.std.proofs.lemmas.Bool.{false≢true}
use Rattle.std.proofs.lemmas.List.{length-map}
use Rattle.std.proofs.lemmas.List.Elements.{Contains-push}
use Rattle.ec_grammar.specs.Trees as t
use Rattle.ec_core.specs.Plain.{PlainType, PlainStmt, PlainFunction}
use Rattle.ec_check_names.specs.declared.linkage.Linkage.{Linkage}
use Rattle.ec_check_names.specs.declared.numbering.Defined.TheVariants.{Function as FunctionKind}
use Rattle.ec_check_names.specs.Counts.{objects_in_params, objects_in_items, objects_in_statement, objects_in_function}
use Rattle.ec_check_names.specs.Definitions as numbering
use Rattle.ec_check_names.specs.Definitions.{Definition, Numbering, with_link, numbered_function}
use Rattle.ec_check_names.specs.Names.{Entry, Names, closed}
use Rattle.ec_check_names.specs.Tables.{Table}
use Rattle.ec_check_names.specs.Tags.{Tags}
use Rattle.ec_check_forms.specs.Constraints.{IsStruct}
use Rattle.ec_check_expression_laws.specs.Laws.{DeclarationsKeepSuiting}
use Rattle.ec_check_declarations.specs.Functions.{FunctionDeclared, param_types}
use Rattle.ec_check_declarations.specs.Params.{next_declared, params_declared}
use Rattle.ec_check_declarations.specs.Scopes.{Context, Scope}
use Rattle.ec_check_declarations.specs.Sites.{Site, told}
use Rattle.ec_check_statements.specs.Around.{Around}
use Rattle.ec_check_statements.specs.Statements.{body_of, after_body}
use Rattle.ec_check_statements.specs.Laws.{KeptFunctionsHaveTypes, InnerObjectsKeepSuiting, ObjectsStay, ScopesEnd, KeptBodiesHaveMeanings}
use Rattle.ec_check_statements.proofs.Choices.{if_both}
use Rattle.ec_check_statements.proofs.Unbroken.{AreKept, kept_of, told_of}
use Rattle.ec_check_file_scope.specs.FileNames.{a_function}
use Rattle.ec_check_file_scope.specs.FileFunctions.{function_link, function_name}
use Rattle.ec_check_file_scope.specs.States.{Setting, State, context_of, with_scope, broken}
use Rattle.ec_check.specs.Agreement.{IsFileFunction, IsMade, IsDefined, Agrees}
use Rattle.ec_check.specs.Definitions.{has_number, number_in, function_made, with_function, params_in, numbers_in, body_in, defined_in}
use Rattle.ec_check.specs.Definitions.{definition_declared, definition_sites}
use Rattle.ec_check.specs.Definitions.{definition_word, named_definition, body_sites_in, definition_body_sites, after_definition}
use Rattle.ec_check.proofs.Grown.{types_kept}
use Rattle.ec_check.proofs.KeptFunctions.{IsWholeFunction, function_named_agrees, function_there}
use Rattle.ec_check.proofs.Made.{AreMade, params_made, with_body, IsBehind, function_agrees}
use Rattle.ec_check.proofs.Outside.{params_keep}
use Rattle.ec_check.proofs.Standing.{at_last}

-- ---- the scope behind a body

closed_all : (n : ℕ) (inside : List Entry) (outside : Table _) (names : Names) → inside ≡ [] → n ≡ length inside → names.outside ≡ outside
    → closed n names ≡ record { outside = outside; inside = inside }
closed_all n inside outside names e m o =
    ap (λ (k : ℕ). closed k names) (m ∙ ap (λ (es : List Entry). length es) e)
    ∙ ap (λ (z : Table _). record { outside = z; inside = [] }) o
    ∙ ap (λ (es : List Entry). record { outside = outside; inside = es }) (sym e)

-- a body of a function whose name is known and which has this result
module _ (inner : InnerObjectsKeepSuiting) (stays : ObjectsStay) (ends : ScopesEnd) (bodies : KeptBodiesHaveMeanings) (r : Setting)
    (f : FunctionDeclared) (b : t.Compound)
    (s : State) where
  abbrev c : Context
  c = context_of r.ports s

  abbrev around : Around
  around = body_in r f s

  abbrev params : Scope
  params = params_in r f s

  abbrev behind : Scope
  behind = after_body c around b params

  scope_ends : s.scope.names.inside ≡ [] → behind.names ≡ s.scope.names
  scope_ends e =
      let zero : length s.scope.names.inside ≡ 0 = ap (λ (es : List Entry). length es) e in
      ends c around b params (omega (arith, zero))
      ∙ closed_all around.first s.scope.names.inside s.scope.names.outside params.names e refl
      (params_keep r.unit (number_in s.functions) f.params s.scope params refl)

  is_behind : s.scope.names.inside ≡ [] → (m : AreMade c r.unit (number_in s.functions) f.params s.scope) (k : ℕ)
      → length behind.objects ≡ length params.objects + k
      → IsBehind s.scope behind (length f.params + k)
  is_behind e m k count =
      let params_count = m.counted in
      record {
        names = scope_ends e;
        stay = λ i x h. stays c around b params i x (m.stay i x h);
        counted = omega (arith, count, params_count);
      }

-- ---- the function

-- what is made where all parts are known
made_by : (P : Option PlainFunction → Type 0) (unit : ℕ) (name : List ℕ) (returns : PlainType) (o : Option PlainType) (numbers : List ℕ)
    (ns : Option (List ℕ))
    (body : Option PlainStmt) → o ≡ Some returns → ns ≡ Some numbers → IsSome body
    → ((x : PlainStmt) → P (Some (record { name = name; unit = unit; returns = returns; params = numbers; body = x })))
    → P (function_made unit name o ns body)
made_by P unit name returns o numbers ns None e g h k = absurd (false≢true h)
made_by P unit name returns o numbers ns (Some x) e g h k =
    subst (λ (z : Option PlainType). P (function_made unit name z ns (Some x))) (sym e)
    (subst (λ (z : Option (List ℕ)). P (function_made unit name (Some returns) z (Some x))) (sym g) (k x))

some_by : {A : Type 0} (P : A → Type 0) (Q : Type 0) (o : Option A) → IsSomeAnd o P → ((x : A) → o ≡ Some x → P x → Q) → Q
some_by P Q None h k = absurd h
some_by P Q (Some x) h k = k x refl h

module _ (inner : InnerObjectsKeepSuiting) (stays : ObjectsStay) (ends : ScopesEnd) (bodies : KeptBodiesHaveMeanings) (r : Setting)
    (name : List ℕ) (l : Linkage)
    (f : FunctionDeclared) (b : t.Compound) (n : Numbering) (s : State) (h : Agrees r.ports r.unit n s) (before : State)
    (declared : s.declared ≡ before.declared ++ function_name r name l true f ∷ []) where
  abbrev made : Type 0
  made = AreMade (context_of r.ports s) r.unit (number_in s.functions) f.params s.scope

  is_defined : (returns : PlainType) → f.returns ≡ Some returns → (m : made) (k : ℕ)
      → IsBehind s.scope (behind inner stays ends bodies r f b s) k → (x : PlainStmt)
      → IsDefined (with_body (record { name = name; unit = r.unit; returns = returns; params = m.numbers; body = x })
      (behind inner stays ends bodies r f b s) s)
      (record { name = name; unit = r.unit; linkage = l; kind = FunctionKind; number = n.functions })
  is_defined returns e m k w x =
      let g : PlainFunction = record { name = name; unit = r.unit; returns = returns; params = m.numbers; body = x } in
      let d : Definition = record { name = name; unit = r.unit; linkage = l; kind = FunctionKind; number = n.functions } in
      let scope = behind inner stays ends bodies r f b s in
      let v = with_body g scope s in
      let there = at_last (IsFileFunction scope.objects d returns m.types) s.functions g n.functions h.functions
      (record {
        name = refl;
        unit = refl;
        returned = refl;
        typed = types_kept (params inner stays ends bodies r f b s).objects scope.objects
            (stays (context_of r.ports s) (body_in r f s) b (params inner stays ends bodies r f b s)) m.numbers m.types m.each;
      }) in
      let named = function_name r name l true f in (
        named,
        (
          subst (λ ds. Contains ds named) (sym declared) (Contains-push before.declared named),
          record {
            defines = refl;
            name = refl;
            unit = refl;
            linkage = refl;
            made = subst (λ (o : Option PlainType). IsMade v d FunctionKind (a_function o (length f.params) (param_types f.params))) (sym e)
                (subst (λ (o : Option (List PlainType)). IsMade v d FunctionKind (a_function (Some returns) (length f.params) o))
                (sym (m.typed [])) there);
          },
        ),
      )

  body_agrees : (returns : PlainType) → f.returns ≡ Some returns → (m : made) (k : ℕ)
      → IsBehind s.scope (behind inner stays ends bodies r f b s) k
      → n.functions < 65_536 → IsSome (body_of (context_of r.ports s) (body_in r f s) b (params_in r f s))
      → Agrees r.ports r.unit (numbering.with_function r.unit name l k n) (defined_in r name f b s)
  body_agrees returns e m k w room there =
      made_by (λ o. Agrees r.ports r.unit (numbering.with_function r.unit name l k n)
      (with_function o (with_scope (behind inner stays ends bodies r f b s) s)))
      r.unit name returns f.returns m.numbers (numbers_in r f s) (body_of (context_of r.ports s) (body_in r f s) b (params_in r f s)) e
      (m.numbered []) there
      (λ x.
      function_agrees r.ports r.unit n s h (behind inner stays ends bodies r f b s) k w room
      (record { name = name; unit = r.unit; returns = returns; params = m.numbers; body = x }) name l (is_defined returns e m k w x))

  -- the parameters and the body
  pub defined_agrees : IsWholeFunction true f → (k : ℕ) → objects_in_statement (t.block b) ≡ k
      → length s.scope.objects + (length f.params + k) ≤ 65_536 → n.functions < 65_536
      → (rest : List Site) → told None (body_sites_in r f b s rest) ≡ None
      → Agrees r.ports r.unit (numbering.with_function r.unit name l (length f.params + k) n) (defined_in r name f b s)
      × (told None rest ≡ None)
  defined_agrees whole k same room few rest q =
      let c = context_of r.ports s in
      let m : made = params_made inner c r.unit (number_in s.functions) f.params s.scope whole.params h.types (omega (arith, room)) in
      let count = m.counted in
      some_by (λ ty. ¬ IsStruct ty)
      (Agrees r.ports r.unit (numbering.with_function r.unit name l (length f.params + k) n) (defined_in r name f b s)
      × (told None rest ≡ None)) f.returns whole.returns
      (λ returns e p.
      let g = bodies returns c (body_in r f s) b (params_in r f s) rest
      (record { known = m.known; result = e; room = omega (arith, room, count, same); kept = q }) in
      let counted = g.counted ∙ ap (λ (z : ℕ). length (params_in r f s).objects + z) same in
      (body_agrees returns e m (length f.params + k) (is_behind inner stays ends bodies r f b s h.closed m k counted) few g.meant, g.told))

-- ---- a definition

params_counted : (tags : Tags) (n : ℕ) (ps : t.Params) → length (params_declared tags n ps) ≡ objects_in_params ps
params_counted tags n (t.void_params s) = refl
params_counted tags n (t.params p more) = let same = length-map more (next_declared tags n) in omega (arith, same)

pub record DefinitionGoesOn (r : Setting) (n : Numbering) (before after : State) (rest : List Site) : Type 0 where
  pub agrees : Agrees r.ports r.unit n after
  pub structs : after.structs ≡ before.structs
  pub kept : AreKept rest

function_keeps : (o : Option PlainFunction) (s : State) → (with_function o s).structs ≡ s.structs
function_keeps None s = refl
function_keeps (Some g) s =
    if_both (λ (v : State). v.structs ≡ s.structs) (has_number s.functions) (record s { functions = s.functions ++ g ∷ [] }) (broken s)
    (λ q. refl) (λ q. refl)

defined_keeps : (r : Setting) (name : List ℕ) (f : FunctionDeclared) (b : t.Compound) (s : State)
    → (defined_in r name f b s).structs ≡ s.structs
defined_keeps r name f b s =
    let scope = after_body (context_of r.ports s) (body_in r f s) b (params_in r f s) in
    function_keeps
    (function_made r.unit name f.returns (numbers_in r f s) (body_of (context_of r.ports s) (body_in r f s) b (params_in r f s)))
    (with_scope scope s)

pub definition_goes_on : KeptFunctionsHaveTypes → InnerObjectsKeepSuiting → ObjectsStay → ScopesEnd → KeptBodiesHaveMeanings
    → DeclarationsKeepSuiting
    → (r : Setting) (x : t.Function) (n : Numbering) (s : State) (rest : List Site) → Agrees r.ports r.unit n s
    → n.objects + objects_in_function x ≤ 65_536
    → n.functions < 65_536 → told None (definition_sites r x s rest) ≡ None
    → DefinitionGoesOn r (numbered_function r.unit x n) s (after_definition r x s) rest
definition_goes_on types inner stays ends bodies keep r
    (t.function (t.type_name ss stars) (t.identifier at name) l ps e (t.compound lb pragmas all rb)) n s rest h room few q =
    let body = t.compound lb pragmas all rb in
    let x = t.function (t.type_name ss stars) (t.identifier at name) l ps e body in
    let f = definition_declared x s in
    let w = definition_word x in
    let link = function_link r w name s in
    let tail = definition_body_sites r x s f rest in
    let u = kept_of (definition_sites r x s rest) q in
    let a = function_there types r n s h true ss stars at.index ps tail u.0 u.1 in
    let next = named_definition r x s f in
    let named = function_named_agrees keep r name link true f n s h a.0 a.1.0.0 in
    let params = params_counted s.tags (length s.structs) ps in
    let before = h.objects in
    let d =
    defined_agrees inner stays ends bodies r name link f body (with_link name link n) next named s refl a.0 (objects_in_items all) refl
    (omega (arith, room, params, before)) few rest (told_of (body_sites_in r f body next rest) a.1.1) in
    let v = defined_in r name f body next in
    let counted = subst (λ (k : ℕ).
    Agrees r.ports r.unit (numbering.with_function r.unit name link (k + objects_in_items all) (with_link name link n)) v) params d.0 in
    record {
      agrees = subst
          (λ (z : Linkage). Agrees r.ports r.unit (numbering.with_function r.unit name z (objects_in_function x) (with_link name z n)) v)
          (sym (h.links w true name)) counted;
      structs = defined_keeps r name f body next;
      kept = kept_of rest d.1;
    }
