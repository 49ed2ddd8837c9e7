-- The functions of a program stand in the order of their definitions.
use Rattle.std.proofs.Common.{◌≡◌, ◌+◌, ℕ, Bool, true, false, ◌&&◌, List, [], ◌∷◌, ◌++◌, length, refl, sym, ap, subst}
use Rattle.std.specs.Prelude.{Option, Some, None, if◌then◌else◌, nat_le}
use Rattle.std.proofs.lemmas.Bool.{false≢true}
use Rattle.ec_grammar.specs.Trees as t
use Rattle.ec_iohw.specs.declared.table.IoTable.{IoTable}
use Rattle.ec_core.specs.Plain.{PlainType, PlainStruct, PlainStmt, PlainFunction, PlainProgram}
use Rattle.ec_check_names.specs.declared.numbering.Defined.{Defined}
use Rattle.ec_check_names.specs.declared.numbering.Defined.TheVariants.{Object, Register, Function}
use Rattle.ec_check_names.specs.declared.specifiers.StorageWord.{StorageWord}
use Rattle.ec_check_names.specs.declared.specifiers.StorageWord.TheVariants.{Extern, Static}
use Rattle.ec_check_names.specs.Definitions.{Definition, definitions}
use Rattle.ec_check_statements.specs.Statements.{body_of, after_body}
use Rattle.ec_check_file_scope.specs.States.{Setting, State, context_of, with_scope, broken, nothing_declared}
use Rattle.ec_check_file_scope.specs.States as states
use Rattle.ec_check.specs.Laws.{ProgramsAreTyped}
use Rattle.ec_check.specs.Definitions.{has_number, function_made, with_function, params_in, numbers_in, body_in, definition_declared}
use Rattle.ec_check.specs.Definitions.{named_definition, after_definition}
use Rattle.ec_check.specs.Units.{after_external, after_externals, after_unit, setting_of, after_units, main_of, program_by}
use Rattle.ec_check_tokens.specs.Definers.{Definer, word_of, unless_extern, in_declarator, in_declarators, in_external, in_externals}
use Rattle.ec_check_tokens.specs.Definers.{definers_from, Make, made, other, function, FunctionsAreInOrder}
use Rattle.ec_check_tokens.proofs.Programs.{Leaves, declaration_leaves, register_leaves, structure_leaves}

no_object : ◌≡◌ {A = Defined} Object Function → ⊥
no_object e = cc

no_register : ◌≡◌ {A = Defined} Register Function → ⊥
no_register e = cc

-- a function that is made has the name and the unit of its definition
made_named : (unit : ℕ) (n : List ℕ) (returns : Option PlainType) (params : Option (List ℕ)) (body : Option PlainStmt) (f : PlainFunction)
    → function_made unit n returns params body ≡ Some f → (f.name ≡ n) × (f.unit ≡ unit)
made_named unit n None params body f e = absurd (let q : ◌≡◌ {A = Option PlainFunction} None (Some f) = e in nothing f q)
  where
    nothing : (f : PlainFunction) → ◌≡◌ {A = Option PlainFunction} None (Some f) → ⊥
    nothing f q = cc
made_named unit n (Some returns) None body f e = absurd (nothing f e)
  where
    nothing : (f : PlainFunction) → ◌≡◌ {A = Option PlainFunction} None (Some f) → ⊥
    nothing f q = cc
made_named unit n (Some returns) (Some params) None f e = absurd (nothing f e)
  where
    nothing : (f : PlainFunction) → ◌≡◌ {A = Option PlainFunction} None (Some f) → ⊥
    nothing f q = cc
made_named unit n (Some returns) (Some params) (Some body) f e =
    let g : PlainFunction = record { name = n; unit = unit; returns = returns; params = params; body = body } in
    let same : f ≡ g = cc in
    (ap (λ (f : PlainFunction). f.name) same, ap (λ (f : PlainFunction). f.unit) same)

module _ (all : List PlainFunction) where
  -- behind the functions so far these give the others
  abbrev Give : State → List (Definer Defined) → Type 0
  Give s ds = Make all s.functions ds

  object_passed : (word : Option StorageWord) (unit at : ℕ) (n : List ℕ) (fs : List PlainFunction) (ds : List (Definer Defined))
      → Make all fs ds → Make all fs (unless_extern word (record { unit = unit; at = at; name = n; kind = Object }) ds)
  object_passed None unit at n fs ds h = other no_object h
  object_passed (Some Static) unit at n fs ds h = other no_object h
  object_passed (Some Extern) unit at n fs ds h = h

  declarator_passed : (word : Option StorageWord) (unit : ℕ) (d : t.InitDeclarator) (fs : List PlainFunction) (ds : List (Definer Defined))
      → Make all fs ds → Make all fs (in_declarator unit word d ds)
  declarator_passed word unit (t.init_declarator (t.declarator stars (t.identifier at n) (t.function_shape l ps r)) i) fs ds h = h
  declarator_passed word unit (t.init_declarator (t.declarator stars (t.identifier at n) t.object) i) fs ds h =
      object_passed word unit at.index n fs ds h
  declarator_passed word unit (t.init_declarator (t.declarator stars (t.identifier at n) (t.array l c r)) i) fs ds h =
      object_passed word unit at.index n fs ds h

  declarators_passed : (word : Option StorageWord) (unit : ℕ) (xs : List t.NextInitDeclarator) (fs : List PlainFunction) (ds : List (Definer Defined))
      → Make all fs ds → Make all fs (in_declarators unit word xs ds)
  declarators_passed word unit [] fs ds h = h
  declarators_passed word unit (t.next_init_declarator at d ∷ xs) fs ds h =
      declarator_passed word unit d fs _ (declarators_passed word unit xs fs ds h)

  -- ---- definitions of functions

  function_gives : (unit at : ℕ) (n : List ℕ) (o : Option PlainFunction) (s : State) (ds : List (Definer Defined))
      → ((f : PlainFunction) → o ≡ Some f → (f.name ≡ n) × (f.unit ≡ unit)) → (with_function o s).whole ≡ true
      → Give (with_function o s) ds → (s.whole ≡ true) × Give s (record { unit = unit; at = at; name = n; kind = Function } ∷ ds)
  function_gives unit at n None s ds own w h = absurd (false≢true w)
  function_gives unit at n (Some f) s ds own w h = by (has_number s.functions) w h
    where
      by : (b : Bool) → (if b then record s { functions = s.functions ++ f ∷ [] } else broken s).whole ≡ true
          → Give (if b then record s { functions = s.functions ++ f ∷ [] } else broken s) ds
          → (s.whole ≡ true) × Give s (record { unit = unit; at = at; name = n; kind = Function } ∷ ds)
      by true w h = (w, function f refl (own f refl).0 (own f refl).1 h)
      by false w h = absurd (false≢true w)

  definition_gives : (r : Setting) (x : t.Function) (s : State) (ds : List (Definer Defined)) → (after_definition r x s).whole ≡ true
      → Give (after_definition r x s) ds → (s.whole ≡ true) × Give s (in_external r.unit (t.function_item x) ds)
  definition_gives r (t.function ty (t.identifier at n) l ps e b) s ds w h =
      let d = definition_declared (t.function ty (t.identifier at n) l ps e b) s in
      let m = named_definition r (t.function ty (t.identifier at n) l ps e b) s d in
      let v = after_body (context_of r.ports m) (body_in r d m) b (params_in r d m) in
      let body = body_of (context_of r.ports m) (body_in r d m) b (params_in r d m) in
      function_gives r.unit at.index n (function_made r.unit n d.returns (numbers_in r d m) body) (with_scope v m) ds
      (made_named r.unit n d.returns (numbers_in r d m) body) w h

  -- ---- units

  like : (s z : State) (ds es : List (Definer Defined)) → Leaves s z → z.whole ≡ true → (Make all s.functions ds → Make all s.functions es)
      → Give z ds → (s.whole ≡ true) × Give s es
  like s z ds es l w go h = (l.whole w, go (subst (λ (fs : List PlainFunction). Make all fs ds) l.functions h))

  external_gives : (r : Setting) (x : t.External) (s : State) (ds : List (Definer Defined)) → (after_external r x s).whole ≡ true
      → Give (after_external r x s) ds → (s.whole ≡ true) × Give s (in_external r.unit x ds)
  external_gives r (t.pragma_item p) s ds w h = (w, h)
  external_gives r (t.structure_item d) s ds w h = like s _ ds ds (structure_leaves r d s) w (λ z. z) h
  external_gives r (t.register_item (t.register_object z reg ss (t.identifier at n) e)) s ds w h =
      like s _ ds _ (register_leaves r (t.register_object z reg ss (t.identifier at n) e) s) w (λ z. other no_register z) h
  external_gives r (t.declaration_item (t.declaration ss first more e)) s ds w h =
      like s _ ds _ (declaration_leaves r (t.declaration ss first more e) s) w
      (λ z. declarator_passed (word_of ss) r.unit first s.functions _ (declarators_passed (word_of ss) r.unit more s.functions ds z)) h
  external_gives r (t.function_item x) s ds w h = definition_gives r x s ds w h

  externals_give : (r : Setting) (xs : List t.External) (s : State) (ds : List (Definer Defined)) → (after_externals r xs s).whole ≡ true
      → Give (after_externals r xs s) ds → (s.whole ≡ true) × Give s (in_externals r.unit xs ds)
  externals_give r [] s ds w h = (w, h)
  externals_give r (x ∷ xs) s ds w h =
      let more = externals_give r xs (after_external r x s) ds w h in
      external_gives r x s (in_externals r.unit xs ds) more.0 more.1

  units_give : (ds : List Definition) (io : IoTable) (unit : ℕ) (us : List t.Tree) (s : State) → (after_units ds io unit us s).whole ≡ true
      → (after_units ds io unit us s).functions ≡ all → (s.whole ≡ true) × Give s (definers_from unit us)
  units_give ds io unit [] s w e = (w, subst (λ (fs : List PlainFunction). Make all fs []) (sym e) made)
  units_give ds io unit (t.tree xs z ∷ us) s w e =
      let more = units_give ds io (unit + 1) us (after_unit (setting_of ds io unit) (t.tree xs z) s) w e in
      externals_give (setting_of ds io unit) xs (states.in_unit s) (definers_from (unit + 1) us) more.0 more.1

functions_of : Option PlainProgram → List PlainFunction
functions_of None = []
functions_of (Some p) = p.functions

-- a program is made where all has a meaning, and has these functions and structs
structs_of : Option PlainProgram → List PlainStruct
structs_of None = []
structs_of (Some p) = p.structs

pub program_has : (main : Option ℕ) (z : State) (p : PlainProgram) → program_by main z ≡ Some p
    → (z.whole ≡ true) × (z.functions ≡ p.functions) × (z.structs ≡ p.structs)
unfolding functions_of structs_of
program_has None z p e = absurd (nothing e)
  where
    nothing : ◌≡◌ {A = Option PlainProgram} None (Some p) → ⊥
    nothing e = cc
program_has (Some main) z p e = by z.whole (nat_le (length z.functions) 65_536) refl e
  where
    by : (a b : Bool) → z.whole ≡ a
        → (if a && b then Some (record { structs = z.structs; objects = z.scope.objects; functions = z.functions; main = main }) else None)
        ≡ Some p → (z.whole ≡ true) × (z.functions ≡ p.functions) × (z.structs ≡ p.structs)
    by true true w e = (w, ap functions_of e, ap structs_of e)
    by true false w e = absurd (nothing e)
      where
        nothing : ◌≡◌ {A = Option PlainProgram} None (Some p) → ⊥
        nothing e = cc
    by false b w e = absurd (nothing e)
      where
        nothing : ◌≡◌ {A = Option PlainProgram} None (Some p) → ⊥
        nothing e = cc

pub functions_are_in_order : ProgramsAreTyped → FunctionsAreInOrder
functions_are_in_order typed us io p said =
    let e = (typed.walked us io p).0 said in
    let z = after_units (definitions us) io 0 us nothing_declared in
    let has = program_has (main_of (definitions us)) z p e in
    (units_give p.functions (definitions us) io 0 us nothing_declared has.0 has.1).1
