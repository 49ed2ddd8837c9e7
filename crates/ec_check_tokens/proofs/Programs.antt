-- Each node of a program has the mode that the tokens before its statement say.
use Rattle.std.proofs.Common.{◌≡◌, ◌∙◌, ◌+◌, ℕ, suc, Bool, true, false, not, ◌&&◌, List, [], ◌∷◌, ◌++◌, length, refl, sym, subst, arith}
use Rattle.std.specs.Prelude.{Option, Some, None, IfSome, slice_get, ⊤, nat_le}
use Rattle.std.specs.List.{AllByRecursion}
use Rattle.std.proofs.lemmas.Bool.{false≢true}
use Rattle.ec_grammar.specs.declared.Spot.{Spot}
use Rattle.ec_grammar.specs.Grammar as g
use Rattle.ec_grammar.specs.Spelling as of
use Rattle.ec_grammar.specs.Tokens as tokens
use Rattle.ec_grammar.specs.Tokens.{Placed}
use Rattle.ec_grammar.specs.Trees as t
use Rattle.ec_grammar.specs.Trees.{Leaf}
use Rattle.ec_iohw.specs.declared.table.IoTable.{IoTable}
use Rattle.ec_core.specs.Plain.{PlainType, PlainObject, PlainStmt, PlainFunction, PlainProgram}
use Rattle.ec_check_names.specs.declared.specifiers.Specified.{Specified}
use Rattle.ec_check_names.specs.declared.specifiers.Storage.{Storage}
use Rattle.ec_check_names.specs.Definitions.{Definition, definitions, is_defined}
use Rattle.ec_check_names.specs.Specifiers.{specified, storages_of}
use Rattle.ec_check_operands.specs.declared.operands.Modes.{Modes}
use Rattle.ec_check_declarations.specs.Registers.{register_declared}
use Rattle.ec_check_declarations.specs.Scopes.{has_room}
use Rattle.ec_check_statements.specs.Statements.{body_of, after_body}
use Rattle.ec_check_statements.proofs.Choices.{if_both}
use Rattle.ec_check_file_scope.specs.FileNames.{is_registered}
use Rattle.ec_check_file_scope.specs.FileObjects.{with_object, with_defined, named_in, link_of, word_of, object_of, object_made}
use Rattle.ec_check_file_scope.specs.FileObjects.{initial_leaves, after_object, register_name, register_named, register_made}
use Rattle.ec_check_file_scope.specs.FileObjects.{after_register}
use Rattle.ec_check_file_scope.specs.FileScope.{after_declarator, after_more, after_declaration, after_structure}
use Rattle.ec_check_file_scope.specs.States.{Setting, State, known_of, context_of, with_scope, with_name, broken, nothing_declared, in_unit}
use Rattle.ec_check.specs.Answers.{IsWalked}
use Rattle.ec_check.specs.Laws.{ProgramsAreTyped}
use Rattle.ec_check.specs.Definitions.{has_number, function_made, with_function, params_in, numbers_in, body_in, definition_declared}
use Rattle.ec_check.specs.Definitions.{named_definition, after_definition}
use Rattle.ec_check.specs.Units.{after_external, after_externals, after_unit, setting_of, after_units, main_of, program_by}
use Rattle.ec_check_tokens.specs.Laws.{AreTexts, TokensSayModes}
use Rattle.ec_check_tokens.specs.NodeStates.{StatementKeeps}
use Rattle.ec_check_tokens.proofs.Bodies.{body_has}
use Rattle.ec_check_tokens.proofs.Inside.{pragma_is}
use Rattle.ec_check_tokens.proofs.Passed as passed
use Rattle.ec_check_tokens.proofs.Reached.{Reached, begins}
use Rattle.ec_check_tokens.proofs.Values.{ExpressionLaws, all_append}

-- ---- declarations

-- a declaration leaves the states and the functions as they are
pub record Leaves (s z : State) : Type 0 where
  pub modes : z.modes ≡ s.modes
  pub functions : z.functions ≡ s.functions
  pub whole : z.whole ≡ true → s.whole ≡ true

object_leaves : (o : Option PlainObject) (s : State) → Leaves s (with_object o s)
object_leaves None s = record { modes = refl; functions = refl; whole = λ w. absurd (false≢true w) }
object_leaves (Some o) s =
    if_both (Leaves s) (has_room s.scope.objects)
    (with_scope (record { names = s.scope.names; objects = s.scope.objects ++ o ∷ [] }) s) (broken s)
    (λ q. record { modes = refl; functions = refl; whole = λ w. w })
    (λ q. record { modes = refl; functions = refl; whole = λ w. absurd (false≢true w) })

defined_leaves : (b : Bool) (o : Option PlainObject) (s : State) → Leaves s (with_defined b o s)
defined_leaves false o s = record { modes = refl; functions = refl; whole = λ w. w }
defined_leaves true o s = object_leaves o s

-- behind a name
behind_name : (s m z : State) → Leaves s m → Leaves m z → Leaves s z
behind_name s m z h l = record { modes = l.modes ∙ h.modes; functions = l.functions ∙ h.functions; whole = λ w. h.whole (l.whole w) }

object_declarator_leaves : (r : Setting) (said : Specified) (word : Option Storage) (stars : List t.Star) (at : Spot) (n : List ℕ)
    (shape : t.Shape) (start : Option t.Start) (s : State)
    → Leaves s (after_object r said word (t.init_declarator (t.declarator stars (t.identifier at n) shape) start) s)
object_declarator_leaves r said word stars at n shape start s =
    let o = object_of r said (t.init_declarator (t.declarator stars (t.identifier at n) shape) start) s in
    let link = link_of r (word_of word) n s in
    let defined = is_defined (word_of word) false in
    let m = named_in r n link defined o s in
    behind_name s m _ (record { modes = refl; functions = refl; whole = λ w. w })
    (defined_leaves defined (object_made r n link o o.ty (initial_leaves (known_of r.ports m) start o.ty)) m)

declarator_leaves : (r : Setting) (said : Specified) (word : Option Storage) (d : t.InitDeclarator) (s : State)
    → Leaves s (after_declarator r said word d s)
declarator_leaves r said word (t.init_declarator (t.declarator stars (t.identifier at n) t.object) start) s =
    object_declarator_leaves r said word stars at n t.object start s
declarator_leaves r said word (t.init_declarator (t.declarator stars (t.identifier at n) (t.array l c e)) start) s =
    object_declarator_leaves r said word stars at n (t.array l c e) start s
declarator_leaves r said word (t.init_declarator (t.declarator stars (t.identifier at n) (t.function_shape l ps e)) start) s =
    record { modes = refl; functions = refl; whole = λ w. w }

more_leave : (r : Setting) (said : Specified) (word : Option Storage) (ds : List t.NextInitDeclarator) (s : State)
    → Leaves s (after_more r said word ds s)
more_leave r said word [] s = record { modes = refl; functions = refl; whole = λ w. w }
more_leave r said word (t.next_init_declarator comma d ∷ ds) s =
    let one = declarator_leaves r said word d s in
    behind_name s (after_declarator r said word d s) _ one
    (more_leave r said word ds (after_declarator r said word d s))

pub declaration_leaves : (r : Setting) (d : t.Declaration) (s : State) → Leaves s (after_declaration r d s)
declaration_leaves r (t.declaration ss first more e) s =
    let said = specified s.tags ss in
    let word = (storages_of ss).first in
    let one = declarator_leaves r said word first s in
    behind_name s (after_declarator r said word first s) _ one
    (more_leave r said word more (after_declarator r said word first s))

pub register_leaves : (r : Setting) (d : t.RegisterObject) (s : State) → Leaves s (after_register r d s)
register_leaves r (t.register_object w reg ss (t.identifier at n) e) s =
    let o = register_declared (known_of r.ports s) (t.register_object w reg ss (t.identifier at n) e) in
    let m = with_name n (register_named r n o) (register_name r n o) s in
    behind_name s m _ (record { modes = refl; functions = refl; whole = λ w. w })
    (defined_leaves (not (is_registered n s.declared)) (register_made r n o o.first o.ty) m)

pub structure_leaves : (r : Setting) (d : t.Structure) (s : State) → Leaves s (after_structure r d s)
structure_leaves r (t.structure w (t.identifier at tag) l first more e semicolon) s =
    record { modes = refl; functions = refl; whole = λ w. w }

module _ (texts : ℕ → List Placed) (laws : ExpressionLaws) where
  abbrev Kept : List PlainFunction → Type 0
  Kept fs = AllByRecursion (λ f. StatementKeeps texts f.body) fs

  -- ---- functions

  made_keeps : (unit : ℕ) (n : List ℕ) (returns : Option PlainType) (params : Option (List ℕ)) (body : Option PlainStmt)
      → IfSome body (StatementKeeps texts) → IfSome (function_made unit n returns params body) (λ f. StatementKeeps texts f.body)
  made_keeps unit n None params body h = tt
  made_keeps unit n (Some returns) None body h = tt
  made_keeps unit n (Some returns) (Some params) None h = tt
  made_keeps unit n (Some returns) (Some params) (Some body) h = h

  -- what one more function leaves, where the states are these
  record Adds (m : Modes) (z : State) : Type 0 where
    modes : z.modes ≡ m
    kept : Kept z.functions

  function_adds : (f : Option PlainFunction) (s : State) → Kept s.functions → IfSome f (λ f. StatementKeeps texts f.body)
      → Adds s.modes (with_function f s)
  function_adds None s k h = record { modes = refl; kept = k }
  function_adds (Some f) s k h =
      if_both (Adds s.modes) (has_number s.functions) (record s { functions = s.functions ++ f ∷ [] }) (broken s)
      (λ q. record { modes = refl; kept = all_append (λ f. StatementKeeps texts f.body) s.functions (f ∷ []) k (h, tt) })
      (λ q. record { modes = refl; kept = k })

  definition_adds : (r : Setting) (x : t.Function) (s : State) (rest : List Leaf) → g.Is_function x
      → Reached (texts r.unit) (of.of_function x rest) (s.modes ∷ []) → Kept s.functions → Adds s.modes (after_definition r x s)
  definition_adds r (t.function ty (t.identifier at n) l ps e b) s rest h q k =
      let d = definition_declared (t.function ty (t.identifier at n) l ps e b) s in
      let m = named_definition r (t.function ty (t.identifier at n) l ps e b) s d in
      let v = after_body (context_of r.ports m) (body_in r d m) b (params_in r d m) in
      function_adds
      (function_made r.unit n d.returns (numbers_in r d m) (body_of (context_of r.ports m) (body_in r d m) b (params_in r d m)))
      (with_scope v m) k
      (made_keeps r.unit n d.returns (numbers_in r d m) (body_of (context_of r.ports m) (body_in r d m) b (params_in r d m))
      (body_has texts laws (context_of r.ports m) (body_in r d m) [] b (params_in r d m) rest h.2
      (passed.past_function_head (texts r.unit) s.modes ty (t.identifier at n) l ps e _ q)))

  -- ---- external declarations

  like : (s z : State) → Leaves s z → Kept s.functions → Adds s.modes z
  like s z l k = record { modes = l.modes; kept = subst Kept (sym l.functions) k }

  external_adds : (r : Setting) (x : t.External) (s : State) (rest : List Leaf) → g.Is_external x
      → Reached (texts r.unit) (of.of_external x rest) (s.modes ∷ []) → Kept s.functions
      → Adds (passed.behind_one x s.modes) (after_external r x s)
  external_adds r (t.pragma_item p) s rest h q k = record { modes = sym (pragma_is p.which p.state s.modes); kept = k }
  external_adds r (t.structure_item d) s rest h q k = like s _ (structure_leaves r d s) k
  external_adds r (t.register_item d) s rest h q k = like s _ (register_leaves r d s) k
  external_adds r (t.declaration_item d) s rest h q k = like s _ (declaration_leaves r d s) k
  external_adds r (t.function_item x) s rest h q k = definition_adds r x s rest h q k

  externals_keep : (r : Setting) (xs : List t.External) (s : State) (rest : List Leaf) → g.Every g.Is_external xs
      → Reached (texts r.unit) (of.of_list of.of_external xs rest) (s.modes ∷ []) → Kept s.functions
      → Kept (after_externals r xs s).functions
  externals_keep r [] s rest h q k = k
  externals_keep r (x ∷ xs) s rest h q k =
      let one = external_adds r x s _ h.0 q k in
      externals_keep r xs (after_external r x s) rest h.1
      (subst (λ (m : Modes). Reached (texts r.unit) (of.of_list of.of_external xs rest) (m ∷ [])) (sym one.modes)
      (passed.past_external (texts r.unit) s.modes x _ h.0 q)) one.kept

  -- ---- units

  unit_keeps : (r : Setting) (u : t.Tree) (s : State) → g.Derives (texts r.unit) u → Kept s.functions → Kept (after_unit r u s).functions
  unit_keeps r (t.tree xs z) s h k =
      externals_keep r xs (in_unit s) (of.leaf z tokens.end ∷ []) h.1 (begins (texts r.unit) _ h.0) k

  -- the units from one on
  abbrev AreTextsFrom : ℕ → List t.Tree → Type 0
  AreTextsFrom first [] = ⊤
  AreTextsFrom first (u ∷ us) = g.Derives (texts first) u × AreTextsFrom (first + 1) us

  units_keep : (ds : List Definition) (io : IoTable) (first : ℕ) (us : List t.Tree) (s : State) → AreTextsFrom first us
      → Kept s.functions → Kept (after_units ds io first us s).functions
  units_keep ds io first [] s h k = k
  units_keep ds io first (u ∷ us) s h k =
      units_keep ds io (first + 1) us (after_unit (setting_of ds io first) u s) h.1 (unit_keeps (setting_of ds io first) u s h.0 k)

  are_texts_from : (first : ℕ) (us : List t.Tree) → ((n : ℕ) (u : t.Tree) → slice_get us n ≡ Some u → g.Derives (texts (first + n)) u)
      → AreTextsFrom first us
  are_texts_from first [] h = tt
  are_texts_from first (u ∷ us) h =
      let here : first + 0 ≡ first = omega arith in (
        subst (λ (n : ℕ). g.Derives (texts n) u) here (h 0 u refl),
        are_texts_from (first + 1) us (λ n v e.
            let next : first + suc n ≡ first + 1 + n = omega arith in
            subst (λ (n : ℕ). g.Derives (texts n) v) next (h (suc n) v e)),
      )

  -- ---- programs

  functions_in : Option PlainProgram → List PlainFunction
  functions_in None = []
  functions_in (Some p) = p.functions

  program_keeps : (main : Option ℕ) (s : State) → Kept s.functions → IfSome (program_by main s) (λ p. Kept p.functions)
  program_keeps None s k = tt
  program_keeps (Some main) s k =
      if_both (λ o. IfSome o (λ (p : PlainProgram). Kept p.functions)) (s.whole && nat_le (length s.functions) 65_536)
      (Some (record { structs = s.structs; objects = s.scope.objects; functions = s.functions; main = main })) None (λ q. k) (λ q. tt)

  tokens_say : (us : List t.Tree) (io : IoTable) (p : PlainProgram) → AreTexts texts us → IsWalked us io p → Kept p.functions
  tokens_say us io p h e =
      let s = after_units (definitions us) io 0 us nothing_declared in
      subst (λ (o : Option PlainProgram). IfSome o (λ p. Kept p.functions)) e
      (program_keeps (main_of (definitions us)) s
      (units_keep (definitions us) io 0 us nothing_declared
      (are_texts_from 0 us (λ n u e. let here : n ≡ 0 + n = omega arith in subst (λ (n : ℕ). g.Derives (texts n) u) here (h n u e))) tt))

pub tokens_say_modes : ExpressionLaws → ProgramsAreTyped → TokensSayModes
tokens_say_modes laws typed us io p texts h e = tokens_say texts laws us io p h ((typed.walked us io p).0 e)
