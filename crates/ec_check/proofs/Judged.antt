-- What the walk tells in units is what breaks a constraint at one of the parts that stand there.
use Rattle.std.proofs.Common.{◌≡◌, ◌∙◌, ◌+◌, ◌≤◌, ◌++◌, ℕ, zero, suc, Bool, true, false, ◌&&◌, List, [], ◌∷◌, length, refl, sym, ap}
use Rattle.std.proofs.Common.{subst, inl, inr}
use Rattle.std.proofs.Common.{arith}
use Rattle.std.specs.Prelude.{◌⊎◌, ◌↔◌, if◌then◌else◌, is_none, unwrap_or, Option, Some, None, slice_get}
use Rattle.std.specs.Bool.{Decides}
use Rattle.std.proofs.lemmas.Bool.Decides.{Decides-and}
use Rattle.ec_space.specs.declared.space.SpaceId.TheVariants.{Generic}
use Rattle.ec_grammar.specs.Trees as t
use Rattle.ec_iohw.specs.declared.table.IoTable.{IoTable}
use Rattle.ec_core.specs.Plain.{PlainFunction, param}
use Rattle.ec_check_operands.specs.declared.faults.Fault.{Fault}
use Rattle.ec_check_operands.specs.Faults.{rule}
use Rattle.ec_check_operands.specs.Laws.{IsTold}
use Rattle.ec_check_names.specs.Definitions.{Definition, definitions}
use Rattle.ec_check_names.specs.Laws.{BlocksEnd}
use Rattle.ec_check_names.specs.Names.{Names, an_object}
use Rattle.ec_check_names.specs.Specifiers.{specified, specs_rules}
use Rattle.ec_check_declarations.specs.Functions.{FunctionDeclared, function_sites}
use Rattle.ec_check_declarations.specs.Params.{ParamDeclared}
use Rattle.ec_check_declarations.specs.Scopes.{Context, Scope, made_number}
use Rattle.ec_check_declarations.specs.Sites.{Site, on}
use Rattle.ec_check_statements.specs.Around.{Around}
use Rattle.ec_check_statements.specs.Laws.{ScopesEnd}
use Rattle.ec_check_statements.specs.Statements.{after_body, body_of, body_sites}
use Rattle.ec_check_statements.proofs.Growth.{NamesAdded, no_names_added, names_added_then, block_ended}
use Rattle.ec_check_file_scope.specs.FileFunctions.{named_function_sites}
use Rattle.ec_check_file_scope.specs.States.{Setting, State, context_of, with_scope, broken, in_unit, nothing_declared}
use Rattle.ec_check_least.specs.Told.{IsToldAt}
use Rattle.ec_check_parts.specs.Readings.{Reading, walked, OneReads}
use Rattle.ec_check_parts.specs.Mains.{HasNoMain}
use Rattle.ec_check_parts.specs.Parts.{Part, specifiers, function, function_name, end, Breaks, OneBreaks}
use Rattle.ec_check_parts.specs.Places.{Inside, behind_body, StandsInBody}
use Rattle.ec_check_parts.specs.Units.{Outside, inside_at, behind_params, function_at, function_name_at, word_in}
use Rattle.ec_check_parts.specs.Units.{behind_definition, behind_external, behind_externals, behind_unit, unit_begins, nothing_known}
use Rattle.ec_check_parts.specs.Units.{context_at, surroundings, StandsInDefinition, StandsInExternal, StandsInExternals, StandsInUnit}
use Rattle.ec_check_parts.specs.Units.{StandsAmong, Stands}
use Rattle.ec_check_parts.specs.Units as parts
use Rattle.ec_check_parts.specs.Laws.{TellAt, FunctionsAreJudged, FileNamesAreJudged, BodiesAreJudged, FileScopeIsJudged}
use Rattle.ec_check_parts.specs.Laws.{inside_of, outside_of, surroundings_of}
use Rattle.ec_check_parts.proofs.Mains.{no_main_told}
use Rattle.ec_check_parts.proofs.Joined.{at_one, like}
use Rattle.ec_check_parts.proofs.Standing.{stands_nowhere, stands_alone, stand_both}
use Rattle.ec_check.specs.Broken.{sites_from, sites_of}
use Rattle.ec_check.specs.Definitions.{with_param, with_params, number_in, has_number, with_function, params_in, body_in}
use Rattle.ec_check.specs.Definitions.{function_made, numbers_in}
use Rattle.ec_check.specs.Definitions.{definition_declared, named_definition, definition_sites, after_definition}
use Rattle.ec_check.specs.Units.{main_of, after_external, external_sites, after_externals, externals_sites, after_unit, unit_sites}
use Rattle.ec_check.specs.Units.{setting_of, is_last}

-- what holds of the parts of units, and of the scopes of bodies
pub record PartLaws : Type 0 where
  pub functions : FunctionsAreJudged
  pub names : FileNamesAreJudged
  pub bodies : BodiesAreJudged
  pub file : FileScopeIsJudged
  pub one : OneReads
  pub scopes : ScopesEnd
  pub blocks : BlocksEnd

-- ---- lists of places

-- the fault is told at one of the places of the list with a number
pub record IsToldIn (lists : List (List Site)) (i : ℕ) (f : Fault) : Type 0 where
  pub places : List Site
  pub stand : slice_get lists i ≡ Some places
  pub tells : IsToldAt places f

-- what is told in the first list, or in the others
abbrev pub IsSplit : List Site → List (List Site) → ℕ → Fault → Type 0
IsSplit ss more zero g = IsToldAt ss g
IsSplit ss more (suc j) g = IsToldIn more j g

pub split : (ss : List Site) (more : List (List Site)) (j : ℕ) (g : Fault) → IsToldIn (ss ∷ more) j g → IsSplit ss more j g
split ss more zero g h = subst (λ x. IsToldAt x g) (same h.places h.stand) h.tells
  where
    same : (x : List Site) → ◌≡◌ {A = Option (List Site)} (Some ss) (Some x) → x ≡ ss
    same x e = cc
split ss more (suc j) g h = record { places = h.places; stand = h.stand; tells = h.tells }

-- ---- parameters

param_added : (unit number : ℕ) (n : Option (List ℕ)) (p : ParamDeclared) (s : Scope)
    → NamesAdded s.names (with_param unit number n p s).names
param_added unit number None p s = no_names_added s.names
param_added unit number (Some n) p s = record {
  declared = record { name = n; what = an_object (Some (unwrap_or (made_number p.ty s.objects) 0)) p.ty p.konst Generic false } ∷ [];
  whole = refl;
}

params_added : (unit number : ℕ) (ps : List ParamDeclared) (s : Scope) → NamesAdded s.names (with_params unit number ps s).names
params_added unit number [] s = no_names_added s.names
params_added unit number (p ∷ ps) s =
    names_added_then s.names (with_param unit number p.name p s).names (with_params unit number (p ∷ ps) s).names
    (param_added unit number p.name p s) (params_added unit number ps (with_param unit number p.name p s))

longer : {X : Type 0} → (xs ys : List X) → length xs ≤ length (xs ++ ys)
longer [] ys = omega arith
longer (x ∷ xs) ys = let h = longer xs ys in omega (arith, h)

no_fewer : (a b : Names) → NamesAdded a b → length a.inside ≤ length b.inside
no_fewer a b h = subst (λ (z : Names). length a.inside ≤ length z.inside) (sym h.whole) (longer a.inside h.declared)

module _ (laws : PartLaws) where
  param_is : (unit number : ℕ) (n : Option (List ℕ)) (p : ParamDeclared) (s : Scope)
      → inside_of (with_param unit number n p s) ≡ parts.behind_param n p (inside_of s)
  param_is unit number None p s = refl
  param_is unit number (Some n) p s = laws.bodies.behind_objects unit n p.ty p.konst (param number) s

  params_are : (unit number : ℕ) (ps : List ParamDeclared) (s : Scope)
      → inside_of (with_params unit number ps s) ≡ behind_params ps (inside_of s)
  params_are unit number [] s = refl
  params_are unit number (p ∷ ps) s =
      params_are unit number ps (with_param unit number p.name p s) ∙ ap (behind_params ps) (param_is unit number p.name p s)

  -- ---- definitions of functions

  function_kept : (x : Option PlainFunction) (s : State) → outside_of (with_function x s) ≡ outside_of s
  function_kept None s = refl
  function_kept (Some f) s = by (has_number s.functions)
    where
      by : (b : Bool) → outside_of (if b then record s { functions = s.functions ++ f ∷ [] } else broken s) ≡ outside_of s
      by true = refl
      by false = refl

  -- with a body behind, where this function is declared and its name is known
  module _ (r : Setting) (d : FunctionDeclared) (b : t.Compound) (s : State) where
    abbrev c : Context
    c = context_of r.ports s

    abbrev around : Around
    around = body_in r d s

    abbrev params : Scope
    params = params_in r d s

    added : NamesAdded s.scope.names params.names
    added = params_added r.unit (number_in s.functions) d.params s.scope

    names_kept : (after_body c around b params).names ≡ s.scope.names
    names_kept =
        laws.scopes c around b params (no_fewer s.scope.names params.names added)
        ∙ block_ended laws.blocks s.scope.names params.names added

    abbrev with_both : Names → ℕ → Outside
    with_both names made = record (outside_of s) { names = names; made = made }

    known : inside_of params ≡ behind_params d.params (inside_at (outside_of s))
    known = params_are r.unit (number_in s.functions) d.params s.scope

    body_is : outside_of (with_scope (after_body c around b params) s)
        ≡ with_both s.scope.names (behind_body walked c b (behind_params d.params (inside_at (outside_of s)))).made
    body_is =
        ap (λ (z : Names). with_both z (length (after_body c around b params).objects)) names_kept
        ∙ ap (with_both s.scope.names) (laws.bodies.behind_bodies c around b params)
        ∙ ap (λ (z : Inside). with_both s.scope.names (behind_body walked c b z).made) known

    body_stands : TellAt (body_sites c around b params)
        (OneBreaks (StandsInBody walked c (surroundings d (outside_of s)) b (behind_params d.params (inside_at (outside_of s)))))
    body_stands =
        subst (λ (z : Inside). TellAt (body_sites c around b params) (OneBreaks (StandsInBody walked c (surroundings_of around) b z))) known
        (laws.bodies.bodies c around b params)

  definition_is : (r : Setting) (f : t.Function) (s : State) → outside_of (after_definition r f s) ≡ behind_definition walked r f (outside_of s)
  definition_is r (t.function (t.type_name ss stars) (t.identifier at n) l ps e body) s =
      let f = t.function (t.type_name ss stars) (t.identifier at n) l ps e body in
      let d = definition_declared f s in
      let named = named_definition r f s d in
      let made = function_made r.unit n d.returns (numbers_in r d named)
      (body_of (context_of r.ports named) (body_in r d named) body (params_in r d named)) in
      function_kept made (with_scope (after_body (context_of r.ports named) (body_in r d named) body (params_in r d named)) named)
      ∙ body_is r d body named

  definition_stands : (r : Setting) (f : t.Function) (s : State)
      → TellAt (definition_sites r f s) (OneBreaks (StandsInDefinition walked r f (outside_of s)))
  definition_stands r (t.function (t.type_name ss stars) (t.identifier at n) l ps e body) s =
      let f = t.function (t.type_name ss stars) (t.identifier at n) l ps e body in
      let o = outside_of s in
      let d = function_at walked ss stars ps o in
      let word = word_in ss in
      let named = named_definition r f s d in
      let words = on (specs_rules s.tags true ss []) in
      let functions = function_sites s.tags true (specified s.tags ss) stars at.index ps in
      let names = named_function_sites r word n true d false at.index s in
      let bodies = body_sites (context_of r.ports named) (body_in r d named) body (params_in r d named) in
      let Words = (λ (p : Part). p ≡ specifiers s.tags ss) in
      let Function = (λ (p : Part). p ≡ function s.tags true ss stars at.index ps) in
      let name = function_name s.declared (function_name_at walked r ss n true d o) word None at.index in
      let Body = StandsInBody walked (context_at r (outside_of named)) (surroundings d (outside_of named)) body
      (behind_params d.params (inside_at (outside_of named))) in
      stand_both (λ rest. words ∷ rest) (λ rest. functions (names (bodies rest))) Words (λ p. Function p ⊎ ((p ≡ name) ⊎ Body p))
      (laws.file.specifiers s.tags ss)
      (stand_both functions (λ rest. names (bodies rest)) Function (λ p. (p ≡ name) ⊎ Body p)
      (stands_alone functions (function s.tags true ss stars at.index ps) (laws.functions s.tags true ss stars at.index ps))
      (stand_both names bodies (λ p. p ≡ name) Body
      (stands_alone names name (laws.names.functions r word n true d None at.index s)) (body_stands r d body named)))

  -- ---- external declarations

  pub external_is : (r : Setting) (x : t.External) (s : State) → outside_of (after_external r x s) ≡ behind_external walked r x (outside_of s)
  external_is r (t.pragma_item p) s = refl
  external_is r (t.structure_item (t.structure w (t.identifier at tag) l first more e semicolon)) s = refl
  external_is r (t.register_item d) s = laws.file.behind_registers r d s
  external_is r (t.declaration_item d) s = laws.file.behind_declarations r d s
  external_is r (t.function_item f) s = definition_is r f s

  external_stands : (r : Setting) (x : t.External) (s : State)
      → TellAt (external_sites r x s) (OneBreaks (StandsInExternal walked r x (outside_of s)))
  external_stands r (t.pragma_item p) s = stands_nowhere
  external_stands r (t.structure_item d) s = laws.file.structures r d s
  external_stands r (t.register_item d) s = laws.file.registers r d s
  external_stands r (t.declaration_item d) s = laws.file.declarations r d s
  external_stands r (t.function_item f) s = definition_stands r f s

  externals_are : (r : Setting) (xs : List t.External) (s : State)
      → outside_of (after_externals r xs s) ≡ behind_externals walked r xs (outside_of s)
  externals_are r [] s = refl
  externals_are r (x ∷ xs) s = externals_are r xs (after_external r x s) ∙ ap (behind_externals walked r xs) (external_is r x s)

  externals_stand : (r : Setting) (xs : List t.External) (s : State) (o : Outside) → outside_of s ≡ o
      → TellAt (externals_sites r xs s) (OneBreaks (StandsInExternals walked r xs o))
  externals_stand r [] s o e = stands_nowhere
  externals_stand r (x ∷ xs) s o e =
      subst (λ (z : Outside). TellAt (externals_sites r (x ∷ xs) s) (OneBreaks (StandsInExternals walked r (x ∷ xs) z))) e
      (stand_both (external_sites r x s) (externals_sites r xs (after_external r x s)) (StandsInExternal walked r x (outside_of s))
      (StandsInExternals walked r xs (behind_external walked r x (outside_of s))) (external_stands r x s)
      (externals_stand r xs (after_external r x s) (behind_external walked r x (outside_of s)) (external_is r x s)))

  -- ---- units

  -- what is told at the end of a unit
  abbrev IsEnd : List Definition → (last : Bool) → (at : ℕ) → Fault → Type 0
  IsEnd ds last at f = (f.rule ≡ 18) × (f.at ≡ at) × ((last ≡ true) × HasNoMain ds)

  end_told : (ds : List Definition) (last : Bool) → Decides (last && is_none (main_of ds)) ((last ≡ true) × HasNoMain ds)
  end_told ds last = Decides-and last (is_none (main_of ds)) (λ e. e, λ e. e) (no_main_told ds)

  end_there : (ds : List Definition) (last : Bool) (at : ℕ) (f : Fault)
      → IsTold (rule 18 (last && is_none (main_of ds)) at ∷ []) f → IsEnd ds last at f
  end_there ds last at f (inl (b, a, q)) = (q, a, (end_told ds last).0 b)
  end_there ds last at f (inr h) = absurd h

  of_end : (ds : List Definition) (last : Bool) (at : ℕ) (f : Fault) → last ≡ true → Breaks (end ds at) f → IsEnd ds last at f
  of_end ds last at f e b = (b.0, b.1, (e, b.2))

  end_stands : (ds : List Definition) (last : Bool) (at : ℕ)
      → TellAt (λ rest. on (rule 18 (last && is_none (main_of ds)) at ∷ []) ∷ rest)
      (OneBreaks (λ p. (last ≡ true) × (p ≡ end ds at)))
  end_stands ds last at =
      like (λ rest. on (rule 18 (last && is_none (main_of ds)) at ∷ []) ∷ rest) (IsEnd ds last at)
      (OneBreaks (λ p. (last ≡ true) × (p ≡ end ds at)))
      (λ f h. (end ds at, (h.2.0, refl), (h.0, h.1, h.2.1)))
      (λ f h. of_end ds last at f h.1.0 (subst (λ (z : Part). Breaks z f) h.1.1 h.2))
      (at_one (rule 18 (last && is_none (main_of ds)) at ∷ []) (IsEnd ds last at)
      (λ f. (end_there ds last at f, λ h. inl ((end_told ds last).1 h.2, h.1, h.0))))

  unit_stands : (r : Setting) (last : Bool) (u : t.Tree) (s : State)
      → TellAt (unit_sites r last u s) (OneBreaks (StandsInUnit walked r last u (outside_of s)))
  unit_stands r last (t.tree xs e) s =
      let ends = (λ (rest : List Site). on (rule 18 (last && is_none (main_of r.definitions)) e.index ∷ []) ∷ rest) in
      stand_both (externals_sites r xs (in_unit s)) ends (StandsInExternals walked r xs (unit_begins (outside_of s)))
      (λ p. (last ≡ true) × (p ≡ end r.definitions e.index))
      (externals_stand r xs (in_unit s) (unit_begins (outside_of s)) refl) (end_stands r.definitions last e.index)

  pub unit_is : (r : Setting) (u : t.Tree) (s : State) → outside_of (after_unit r u s) ≡ behind_unit walked r u (outside_of s)
  unit_is r (t.tree xs e) s = externals_are r xs (in_unit s)

  last_is : (us : List t.Tree) → parts.is_last us ≡ is_last us
  last_is [] = refl
  last_is (u ∷ us) = refl

  -- a fault of the unit with a number among some, before which this is known
  abbrev IsFault : List Definition → IoTable → (first : ℕ) → List t.Tree → Outside → (unit : ℕ) → Fault → Type 0
  IsFault ds io first us o unit f = OneBreaks (StandsAmong walked ds io first us o unit) f

  first_judged : (r : Setting) (us : List t.Tree) (u : t.Tree) (s : State) (o : Outside) → outside_of s ≡ o
      → TellAt (unit_sites r (is_last us) u s) (OneBreaks (StandsInUnit walked r (parts.is_last us) u o))
  first_judged r us u s o q =
      subst (λ (z : Outside). TellAt (unit_sites r (is_last us) u s) (OneBreaks (StandsInUnit walked r (parts.is_last us) u z))) q
      (subst (λ (b : Bool). TellAt (unit_sites r (is_last us) u s) (OneBreaks (StandsInUnit walked r b u (outside_of s)))) (sym (last_is us))
      (unit_stands r (is_last us) u s))

  alone : (B : Fault → Type 0) (f : Fault) → B f ⊎ ⊥ → B f
  alone B f (inl h) = h
  alone B f (inr h) = absurd h

  no_list : (ss : List Site) → ◌≡◌ {A = Option (List Site)} None (Some ss) → ⊥
  no_list ss e = cc

  further : (places : List Site) (more : List (List Site)) (unit : ℕ) (f : Fault) → IsToldIn more unit f
      → IsToldIn (places ∷ more) (suc unit) f
  further places more unit f h = record { places = h.places; stand = h.stand; tells = h.tells }

  among_told : (ds : List Definition) (io : IoTable) (first : ℕ) (us : List t.Tree) (s : State) (o : Outside) → outside_of s ≡ o
      → (unit : ℕ) (f : Fault) → IsToldIn (sites_from ds io first us s) unit f ↔ IsFault ds io first us o unit f
  among_told ds io first [] s o q unit f = (λ h. absurd (no_list h.places h.stand), λ h. absurd h.1)
  among_told ds io first (u ∷ us) s o q zero f =
      let r = setting_of ds io first in
      let places = unit_sites r (is_last us) u s [] in
      let more = sites_from ds io (first + 1) us (after_unit r u s) in
      let judged = (first_judged r us u s o q).exactly [] f in (
        λ h. alone (OneBreaks (StandsInUnit walked r (parts.is_last us) u o)) f (judged.0 (split places more zero f h)),
        λ h. record { places = places; stand = refl; tells = judged.1 (inl h) },
      )
  among_told ds io first (u ∷ us) s o q (suc unit) f =
      let r = setting_of ds io first in
      let places = unit_sites r (is_last us) u s [] in
      let more = sites_from ds io (first + 1) us (after_unit r u s) in
      let rest = among_told ds io (first + 1) us (after_unit r u s) (behind_unit walked r u o) (unit_is r u s ∙ ap (behind_unit walked r u) q) unit f in
      (λ h. rest.0 (split places more (suc unit) f h), λ h. further places more unit f (rest.1 h))

  -- a part stands in the unit with a number, by a reading
  abbrev StandsBy : List t.Tree → IoTable → (unit : ℕ) → Reading → Part → Type 0
  StandsBy us io unit q p = StandsAmong q (definitions us) io 0 us nothing_known unit p

  pub unit_told : (us : List t.Tree) (io : IoTable) (unit : ℕ) (f : Fault)
      → IsToldIn (sites_of us io) unit f ↔ OneBreaks (Stands us io unit) f
  unit_told us io unit f = (λ h. to_stand (judged.0 h), λ h. judged.1 (of_stand h))
    where
      judged : IsToldIn (sites_of us io) unit f ↔ OneBreaks (StandsBy us io unit walked) f
      judged = among_told (definitions us) io 0 us nothing_declared nothing_known refl unit f

      to_stand : OneBreaks (StandsBy us io unit walked) f → OneBreaks (Stands us io unit) f
      to_stand (p, h, b) = (p, (walked, (laws.one walked).1 refl, h), b)

      of_stand : OneBreaks (Stands us io unit) f → OneBreaks (StandsBy us io unit walked) f
      of_stand (p, (q, r, h), b) = (p, subst (λ (z : Reading). StandsBy us io unit z p) ((laws.one q).0 r) h, b)
