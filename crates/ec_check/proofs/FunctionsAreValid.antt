-- Functions are as a valid program asks.
use Rattle.std.proofs.Common.{◌≡◌, ◌+◌, ◌≤◌, ◌<◌, ◌++◌, ℕ, Bool, true, false, List, [], ◌∷◌, length, refl, sym, ap, subst, inl, inr, arith}
use Rattle.std.specs.Prelude.{if◌then◌else◌, Option, Some, None, IfSome, slice_get}
use Rattle.std.proofs.lemmas.Bool.{false≢true}
use Rattle.std.proofs.lemmas.Option.{slice_get_within}
use Rattle.ec_iohw.specs.declared.table.IoTable.{IoTable}
use Rattle.ec_grammar.specs.Spelling.{of_compound}
use Rattle.ec_grammar.specs.Trees as t
use Rattle.ec_grammar.specs.Trees.{Leaf}
use Rattle.ec_core.specs.Layout.{NamesBelow, AreStructs}
use Rattle.ec_core.specs.Needs.{stmt_need}
use Rattle.ec_core.specs.Plain.{PlainType, void, integer, fixed, pointer, array, struct, PlainStruct, PlainStmt, PlainFunction}
use Rattle.ec_core.specs.Plain.{PlainProgram}
use Rattle.ec_core.specs.Valid.{IsFunction, ValidStmt}
use Rattle.ec_check_expression_laws.specs.Suits.{Suits}
use Rattle.ec_check_declarations.specs.Functions.{FunctionDeclared}
use Rattle.ec_check_declarations.specs.Scopes.{Context, Scope, known_in}
use Rattle.ec_check_statements.specs.Around.{Around}
use Rattle.ec_check_statements.specs.Statements.{body_of, after_body}
use Rattle.ec_check_statements.specs.Laws.{InnerObjectsKeepSuiting, ObjectsStay, ObjectsAreAppended, BodiesAreValid, BodiesNeedTheirTokens}
use Rattle.ec_check_statements.specs.Objects.{IsLocal}
use Rattle.ec_check_file_scope.specs.States.{Setting, State, context_of, with_scope, broken}
use Rattle.ec_check.specs.Definitions.{has_number, number_in, function_made, with_function, params_in, numbers_in, body_in, defined_in}
use Rattle.ec_check.proofs.Growing.{AreValid}
use Rattle.ec_check.proofs.Inner.{IsParam, IsInner, param_inner, local_inner, valid_more, AreParamsOf, all_params, no_params}
use Rattle.ec_check.proofs.Firsts.{First, at_end, all_weaker, each_and}
use Rattle.ec_check.proofs.Meanings.{IsResult}
use Rattle.ec_check.proofs.Placed.{AreParams}
use Rattle.ec_check.proofs.Steps.{HasTokens}

-- ---- parts that have a meaning

pub record IsMadeOf (unit : ℕ) (n : List ℕ) (returns : Option PlainType) (params : Option (List ℕ)) (body : Option PlainStmt)
    (g : PlainFunction) : Type 0 where
  pub returned : returns ≡ Some g.returns
  pub numbers : params ≡ Some g.params
  pub meant : body ≡ Some g.body

made_of : (unit : ℕ) (n : List ℕ) (returns : Option PlainType) (params : Option (List ℕ)) (body : Option PlainStmt) (g : PlainFunction)
    → function_made unit n returns params body ≡ Some g → IsMadeOf unit n returns params body g
made_of unit n None params body g e = cc
made_of unit n (Some a) None body g e = cc
made_of unit n (Some a) (Some ps) None g e = cc
made_of unit n (Some a) (Some ps) (Some b) g e =
    let same : record { name = n; unit = unit; returns = a; params = ps; body = b } ≡ g = cc in
    record {
      returned = ap (λ (g : PlainFunction). Some g.returns) same;
      numbers = ap (λ (g : PlainFunction). Some g.params) same;
      meant = ap (λ (g : PlainFunction). Some g.body) same;
    }

-- one function more, where all has a meaning
pub record IsAdded (o : Option PlainFunction) (s : State) : Type 0 where
  pub g : PlainFunction
  pub made : o ≡ Some g
  pub number : has_number s.functions ≡ true
  pub added : with_function o s ≡ record s { functions = s.functions ++ g ∷ [] }

added_by : (o : Option PlainFunction) (s : State) → (with_function o s).whole ≡ true → IsAdded o s
added_by None s e = absurd (false≢true e)
added_by (Some g) s e = by (has_number s.functions) refl where
  by : (b : Bool) → has_number s.functions ≡ b → IsAdded (Some g) s
  by true q = record {
    g = g;
    made = refl;
    number = q;
    added = ap (λ b. if b then record s { functions = s.functions ++ g ∷ [] } else broken s) q;
  }
  by false q = absurd (false≢true (subst (λ b. (if b then record s { functions = s.functions ++ g ∷ [] } else broken s).whole ≡ true) q e))

number_is : (fs : List PlainFunction) → has_number fs ≡ true → number_in fs ≡ length fs
number_is fs e = ap (λ b. if b then length fs else 0) e

-- ---- results

result_names : (structs : List PlainStruct) (ty : PlainType) → IsResult structs ty → NamesBelow (length structs) ty
result_names structs void h = tt
result_names structs (integer signed bytes) h = tt
result_names structs (fixed kind sat) h = tt
result_names structs (pointer s c to) h = h.1.0.names
result_names structs (array of len) (inl h, k) = absurd h
result_names structs (array of len) (inr h, k) = let z : ◌≡◌ {A = PlainType} (array of len) void = h in cc
result_names structs (struct i) (inl h, k) = absurd h
result_names structs (struct i) (inr h, k) = let z : ◌≡◌ {A = PlainType} (struct i) void = h in cc

-- ---- definitions

module _ (inner : InnerObjectsKeepSuiting) (stay : ObjectsStay) (append : ObjectsAreAppended) (bodies : BodiesAreValid)
    (needs : BodiesNeedTheirTokens)
    (p : PlainProgram) (io : IoTable) (whole : AreStructs p.structs) (room : length p.objects < 65_536)
    (r : Setting) (n : List ℕ) (d : FunctionDeclared) (b : t.Compound) (rest : List Leaf) (m : State) where
  abbrev f : ℕ
  f = number_in m.functions

  abbrev c : Context
  c = context_of r.ports m

  abbrev around : Around
  around = body_in r d m

  abbrev start : Scope
  start = params_in r d m

  abbrev v : Scope
  v = after_body c around b start

  abbrev function : Option PlainFunction
  function = function_made r.unit n d.returns (numbers_in r d m) (body_of c around b start)

  module _ (suits : Suits p io f (known_in c m.scope.names)) (fits : AreParams p.structs d.params)
      (result : IfSome d.returns (IsResult p.structs))
      (tokens : HasTokens b rest) (objects : First v.objects p.objects)
      (functions : First (with_function function (with_scope v m)).functions p.functions)
      (kept : (with_function function (with_scope v m)).whole ≡ true) where
    added : IsAdded function (with_scope v m)
    added = added_by function (with_scope v m) kept

    abbrev g : PlainFunction
    g = added.g

    parts : IsMadeOf r.unit n d.returns (numbers_in r d m) (body_of c around b start) g
    parts = made_of r.unit n d.returns (numbers_in r d m) (body_of c around b start) g added.made

    last : slice_get p.functions (length m.functions) ≡ Some g
    last =
        functions (length m.functions) g
        (subst (λ (z : State). slice_get z.functions (length m.functions) ≡ Some g) (sym added.added) (at_end m.functions g))

    number : f ≡ length m.functions
    number = number_is m.functions added.number

    below : f < length p.functions
    below = let q = slice_get_within p.functions (length m.functions) g last in omega (arith, number, q)

    begun : First start.objects p.objects
    begun = λ i x e. objects i x (stay c around b start i x e)

    params : AreParamsOf inner stay p io c r.unit f room m.scope start g.params
    params =
        all_params inner stay p io c r.unit f room m.scope d.params g.params fits m.scope [] begun parts.numbers
        (no_params inner stay p io c r.unit f room m.scope suits)

    is_result : IsResult p.structs g.returns
    is_result = subst (λ o. IfSome o (IsResult p.structs)) parts.returned result

    valid_body : ValidStmt p io f g.returns false g.body
    valid_body =
        subst (λ o. IfSome o (ValidStmt p io f g.returns false)) parts.meant
        (bodies p io g.returns c around b start rest
        (record {
          structs = whole;
          known = params.suits;
          objects = objects;
          room = room;
          result = parts.returned;
          scalar = is_result.0;
          usable = is_result.1;
        }) tokens.held).0

    need : stmt_need g.body ≤ 65_535
    need =
        let q = subst (λ o. IfSome o (λ body. stmt_need body + length rest ≤ length (of_compound b rest))) parts.meant
        (needs c around b start rest) in
        let few = tokens.few in omega (arith, q, few)

    is_function : IsFunction p io f g
    is_function = record {
      params = params.stand;
      distinct = params.distinct;
      returns = is_result.0;
      names = result_names p.structs g.returns is_result;
      body = valid_body;
      need = need;
    }

    valid_objects : AreValid p io m → AreValid p io (with_scope v m)
    valid_objects h =
        let locals = append p io c around b start whole params.suits in
        valid_more p io (with_scope start m) v locals.declared locals.whole
        (all_weaker (IsLocal p.structs r.unit f) (IsInner p) (local_inner p f below r.unit) locals.declared locals.each)
        (valid_more p io m start params.appended.declared params.appended.whole
        (all_weaker (IsParam p.structs f) (IsInner p) (param_inner p f below) params.appended.declared params.appended.each) h)

    with_more : AreValid p io (with_scope v m) → AreValid p io (record (with_scope v m) { functions = m.functions ++ g ∷ [] })
    with_more h = record {
      objects = h.objects;
      declared = h.declared;
      registers = h.registers;
      externals = h.externals;
      functions = each_and (IsFunction p io) 0 m.functions g h.functions
          (let z : f ≡ 0 + length m.functions = omega (arith, number) in subst (λ n. IsFunction p io n g) z is_function);
    }

    pub definition_valid : AreValid p io m → AreValid p io (defined_in r n d b m)
    definition_valid h = subst (AreValid p io) (sym added.added) (with_more (valid_objects h))
