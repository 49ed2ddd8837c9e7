-- What is known where a part stands at file scope has the states that the tokens before it say.
use Rattle.std.proofs.Common.{◌≡◌, ◌+◌, ℕ, zero, suc, Bool, List, [], ◌∷◌, refl, sym, ap, subst, inl, inr}
use Rattle.std.specs.Prelude.{Option, Some, None, slice_get}
use Rattle.ec_grammar.specs.Grammar as g
use Rattle.ec_grammar.specs.Spelling as s
use Rattle.ec_grammar.specs.Tokens as tokens
use Rattle.ec_grammar.specs.Tokens.{Placed}
use Rattle.ec_grammar.specs.Trees as t
use Rattle.ec_grammar.specs.Trees.{Leaf}
use Rattle.ec_iohw.specs.declared.table.IoTable.{IoTable}
use Rattle.ec_core.specs.Plain.{PlainType}
use Rattle.ec_check_operands.specs.declared.operands.Modes.{Modes}
use Rattle.ec_check_names.specs.Definitions.{Definition, definitions}
use Rattle.ec_check_expressions.specs.Known.{Known}
use Rattle.ec_check_file_scope.specs.States.{Setting}
use Rattle.ec_check_parts.specs.Readings.{Reading, walked, OneReads}
use Rattle.ec_check_parts.specs.Parts.{Part}
use Rattle.ec_check_parts.specs.Structures.{declarators_behind}
use Rattle.ec_check_parts.specs.Units as unit
use Rattle.ec_check_parts.specs.Units.{Outside, context_at, known_at}
use Rattle.ec_check_tokens.specs.Laws.{TokensSayStates}
use Rattle.ec_check_tokens.specs.Parts.{InDeclarators, InMembers, PartKnowsStates}
use Rattle.ec_check_tokens.proofs.Reached.{Reached, past, begins}
use Rattle.ec_check_tokens.proofs.Passed as passed
use Rattle.ec_check_tokens.proofs.Inside.{this, pragma_is, declarator_knows, initialiser_knows, body_knows}

-- ---- members

module _ (ts : List Placed) (k : Known) (outer : List Modes) where
  next_declarators_know : (xs : List t.NextDeclarator) (rest : List Leaf) → g.Every g.Is_next_declarator xs
      → Reached ts (s.of_list s.of_next_declarator xs rest) (k.modes ∷ outer) → InDeclarators ts k (declarators_behind xs)
  next_declarators_know [] rest h q = tt
  next_declarators_know (t.next_declarator at (t.declarator stars n shape) ∷ xs) rest h q =
      let inner = past ts _ _ (k.modes ∷ outer) q in (
        declarator_knows ts k outer stars n shape _ inner,
        next_declarators_know xs rest h.1 (passed.past_declarator ts (k.modes ∷ outer) (t.declarator stars n shape) _ h.0 inner),
      )

  members_know : (xs : List t.Member) (rest : List Leaf) → g.Every g.Is_member xs
      → Reached ts (s.of_list s.of_member xs rest) (k.modes ∷ outer) → InMembers ts k xs
  members_know [] rest h q = tt
  members_know (t.members ss (t.declarator stars n shape) more e ∷ xs) rest h q =
      let inner = passed.past_specs ts (k.modes ∷ outer) ss _ q in (
        (
          declarator_knows ts k outer stars n shape _ inner,
          next_declarators_know more _ h.0.2
              (passed.past_declarator ts (k.modes ∷ outer) (t.declarator stars n shape) _ h.0.1 inner),
        ),
        members_know xs rest h.1 (passed.past_member ts k.modes outer (t.members ss (t.declarator stars n shape) more e) _ h.0 q),
      )

-- ---- declarations

-- no declaration changes the states
declarator_keeps : (r : Setting) (ss : t.Specs) (d : t.InitDeclarator) (o : Outside)
    → (unit.behind_declarator walked r ss d o).modes ≡ o.modes
declarator_keeps r ss (t.init_declarator (t.declarator stars (t.identifier at n) (t.function_shape l ps e)) start) o = refl
declarator_keeps r ss (t.init_declarator (t.declarator stars (t.identifier at n) t.object) start) o = refl
declarator_keeps r ss (t.init_declarator (t.declarator stars (t.identifier at n) (t.array l c e)) start) o = refl

module _ (ts : List Placed) (r : Setting) where
  abbrev Here : Outside → List Leaf → Type 0
  Here o left = Reached ts left (o.modes ∷ [])

  start_knows : (k : Known) (x : Option t.Start) (ty : Option PlainType) (p : Part) (rest : List Leaf) → g.Given g.Is_start x
      → Reached ts (s.of_option s.of_start x rest) (k.modes ∷ []) → unit.StandsInStart k x ty p → PartKnowsStates ts p
  start_knows k None ty p rest h q e = absurd e
  start_knows k (Some (t.start at i)) ty p rest h q e =
      this ts _ p e (initialiser_knows ts k [] i rest h (past ts _ _ (k.modes ∷ []) q))

  object_knows : (ss : t.Specs) (stars : List t.Star) (n : t.Identifier) (shape : t.Shape) (start : Option t.Start) (o : Outside) (p : Part)
      (rest : List Leaf) → g.Is_init_declarator (t.init_declarator (t.declarator stars n shape) start)
      → Here o (s.of_init_declarator (t.init_declarator (t.declarator stars n shape) start) rest)
      → unit.StandsInObject walked r ss (t.declarator stars n shape) start o p → PartKnowsStates ts p
  object_knows ss stars (t.identifier at n) shape start o p rest h q (inl e) =
      this ts _ p e (declarator_knows ts (known_at r o) [] stars (t.identifier at n) shape _ q)
  object_knows ss stars (t.identifier at n) shape start o p rest h q (inr (inl e)) = this ts _ p e tt
  object_knows ss stars (t.identifier at n) shape start o p rest h q (inr (inr (inl e))) = this ts _ p e tt
  object_knows ss stars (t.identifier at n) shape start o p rest h q (inr (inr (inr e))) =
      start_knows _ start _ p rest h.1
      (passed.past_declarator ts (o.modes ∷ []) (t.declarator stars (t.identifier at n) shape) _ h.0 q) e

  declarator_stands : (ss : t.Specs) (d : t.InitDeclarator) (o : Outside) (p : Part) (rest : List Leaf) → g.Is_init_declarator d
      → Here o (s.of_init_declarator d rest) → unit.StandsInDeclarator walked r ss d o p → PartKnowsStates ts p
  declarator_stands ss (t.init_declarator (t.declarator stars (t.identifier at n) (t.function_shape l ps z)) start) o p rest h q (inl e) =
      this ts _ p e tt
  declarator_stands ss (t.init_declarator (t.declarator stars (t.identifier at n) (t.function_shape l ps z)) start) o p rest h q
      (inr (inl e)) = this ts _ p e tt
  declarator_stands ss (t.init_declarator (t.declarator stars (t.identifier at n) (t.function_shape l ps z)) start) o p rest h q
      (inr (inr e)) = this ts _ p e tt
  declarator_stands ss (t.init_declarator (t.declarator stars (t.identifier at n) t.object) start) o p rest h q e =
      object_knows ss stars (t.identifier at n) t.object start o p rest h q e
  declarator_stands ss (t.init_declarator (t.declarator stars (t.identifier at n) (t.array l c z)) start) o p rest h q e =
      object_knows ss stars (t.identifier at n) (t.array l c z) start o p rest h q e

  -- behind a declarator
  further : (ss : t.Specs) (d : t.InitDeclarator) (o : Outside) (rest : List Leaf) → g.Is_init_declarator d
      → Here o (s.of_init_declarator d rest) → Here (unit.behind_declarator walked r ss d o) rest
  further ss d o rest h q =
      subst (λ (m : Modes). Reached ts rest (m ∷ [])) (sym (declarator_keeps r ss d o))
      (passed.past_init_declarator ts o.modes [] d rest h q)

  declarators_stand : (ss : t.Specs) (ds : List t.NextInitDeclarator) (o : Outside) (p : Part) (rest : List Leaf)
      → g.Every g.Is_next_init_declarator ds → Here o (s.of_list s.of_next_init_declarator ds rest)
      → unit.StandsInDeclarators walked r ss ds o p → PartKnowsStates ts p
  declarators_stand ss [] o p rest h q e = absurd e
  declarators_stand ss (t.next_init_declarator comma d ∷ ds) o p rest h q (inl e) =
      declarator_stands ss d o p _ h.0 (past ts _ _ (o.modes ∷ []) q) e
  declarators_stand ss (t.next_init_declarator comma d ∷ ds) o p rest h q (inr e) =
      declarators_stand ss ds _ p rest h.1 (further ss d o _ h.0 (past ts _ _ (o.modes ∷ []) q)) e

  declaration_stands : (d : t.Declaration) (o : Outside) (p : Part) (rest : List Leaf) → g.Is_declaration d
      → Here o (s.of_declaration d rest) → unit.StandsInDeclaration walked r d o p → PartKnowsStates ts p
  declaration_stands (t.declaration ss first more z) o p rest h q (inl e) = this ts _ p e tt
  declaration_stands (t.declaration ss first more z) o p rest h q (inr (inl e)) =
      declarator_stands ss first o p _ h.1 (passed.past_specs ts (o.modes ∷ []) ss _ q) e
  declaration_stands (t.declaration ss first more z) o p rest h q (inr (inr e)) =
      declarators_stand ss more _ p _ h.2 (further ss first o _ h.1 (passed.past_specs ts (o.modes ∷ []) ss _ q)) e

  -- ---- external declarations

  external_stands : (x : t.External) (o : Outside) (p : Part) (rest : List Leaf) → g.Is_external x → Here o (s.of_external x rest)
      → unit.StandsInExternal walked r x o p → PartKnowsStates ts p
  external_stands (t.pragma_item w) o p rest h q e = absurd e
  external_stands (t.structure_item (t.structure at (t.identifier tag_at tag) l first more z semicolon)) o p rest h q e =
      this ts _ p e
      (members_know ts (known_at r o) (o.modes ∷ []) (first ∷ more) _ h
      (past ts _ _ (o.modes ∷ [])
      (passed.past_identifier ts (o.modes ∷ []) (t.identifier tag_at tag) _ (past ts _ _ (o.modes ∷ []) q))))
  external_stands (t.register_item (t.register_object at (t.identifier register_at register) ss (t.identifier n_at n) z)) o p rest h q
      (inl e) = this ts _ p e tt
  external_stands (t.register_item (t.register_object at (t.identifier register_at register) ss (t.identifier n_at n) z)) o p rest h q
      (inr (inl e)) = this ts _ p e tt
  external_stands (t.register_item (t.register_object at (t.identifier register_at register) ss (t.identifier n_at n) z)) o p rest h q
      (inr (inr e)) = this ts _ p e tt
  external_stands (t.declaration_item d) o p rest h q e = declaration_stands d o p rest h q e
  external_stands (t.function_item (t.function (t.type_name ss stars) (t.identifier at n) l ps z b)) o p rest h q (inl e) =
      this ts _ p e tt
  external_stands (t.function_item (t.function (t.type_name ss stars) (t.identifier at n) l ps z b)) o p rest h q (inr (inl e)) =
      this ts _ p e tt
  external_stands (t.function_item (t.function (t.type_name ss stars) (t.identifier at n) l ps z b)) o p rest h q
      (inr (inr (inl e))) = this ts _ p e tt
  external_stands (t.function_item (t.function (t.type_name ss stars) (t.identifier at n) l ps z b)) o p rest h q
      (inr (inr (inr e))) =
      body_knows ts _ _ [] b _ p rest h.2
      (passed.past_function_head ts o.modes (t.type_name ss stars) (t.identifier at n) l ps z _ q) e

-- the states behind an external declaration
declarators_keep : (r : Setting) (ss : t.Specs) (ds : List t.NextInitDeclarator) (o : Outside)
    → (unit.behind_declarators walked r ss ds o).modes ≡ o.modes
declarators_keep r ss [] o = refl
declarators_keep r ss (t.next_init_declarator comma d ∷ ds) o =
    rw (declarators_keep r ss ds (unit.behind_declarator walked r ss d o)) (declarator_keeps r ss d o)

external_is : (r : Setting) (x : t.External) (o : Outside) → passed.behind_one x o.modes ≡ (unit.behind_external walked r x o).modes
external_is r (t.pragma_item p) o = pragma_is p.which p.state o.modes
external_is r (t.structure_item (t.structure at (t.identifier tag_at tag) l first more z semicolon)) o = refl
external_is r (t.register_item (t.register_object at register ss (t.identifier n_at n) z)) o = refl
external_is r (t.declaration_item (t.declaration ss first more z)) o =
    sym (rw (declarators_keep r ss more (unit.behind_declarator walked r ss first o)) (declarator_keeps r ss first o))
external_is r (t.function_item (t.function (t.type_name ss stars) (t.identifier at n) l ps z b)) o = refl

externals_stand : (ts : List Placed) (r : Setting) (xs : List t.External) (o : Outside) (p : Part) (rest : List Leaf)
    → g.Every g.Is_external xs → Reached ts (s.of_list s.of_external xs rest) (o.modes ∷ []) → unit.StandsInExternals walked r xs o p
    → PartKnowsStates ts p
externals_stand ts r [] o p rest h q e = absurd e
externals_stand ts r (x ∷ xs) o p rest h q (inl e) = external_stands ts r x o p _ h.0 q e
externals_stand ts r (x ∷ xs) o p rest h q (inr e) =
    externals_stand ts r xs _ p rest h.1
    (subst (λ (m : Modes). Reached ts (s.of_list s.of_external xs rest) (m ∷ [])) (external_is r x o)
    (passed.past_external ts o.modes x _ h.0 q)) e

-- ---- units

unit_stands : (ts : List Placed) (r : Setting) (last : Bool) (u : t.Tree) (o : Outside) (p : Part) → g.Derives ts u
    → unit.StandsInUnit walked r last u o p → PartKnowsStates ts p
unit_stands ts r last (t.tree xs z) o p h (inl e) =
    externals_stand ts r xs (unit.unit_begins o) p (s.leaf z tokens.end ∷ []) h.1 (begins ts _ h.0) e
unit_stands ts r last (t.tree xs z) o p h (inr e) = this ts _ p e.1 tt

-- what an option holds
held : t.Tree → Option t.Tree → t.Tree
held d None = d
held d (Some u) = u

units_stand : (ds : List Definition) (io : IoTable) (first : ℕ) (us : List t.Tree) (o : Outside) (n : ℕ) (u : t.Tree)
    (ts : List Placed) (p : Part) → slice_get us n ≡ Some u → g.Derives ts u → unit.StandsAmong walked ds io first us o n p
    → PartKnowsStates ts p
unfolding held
units_stand ds io first [] o n u ts p e h w = absurd w
units_stand ds io first (v ∷ us) o zero u ts p e h w =
    unit_stands ts _ _ v o p (subst (g.Derives ts) (sym (ap (held v) e)) h) w
units_stand ds io first (v ∷ us) o (suc n) u ts p e h w = units_stand ds io (first + 1) us _ n u ts p e h w

pub tokens_say_states : OneReads → TokensSayStates
tokens_say_states one us io n u ts p e h (q, r, w) =
    units_stand (definitions us) io 0 us unit.nothing_known n u ts p e h
    (subst (λ (z : Reading). unit.StandsAmong z (definitions us) io 0 us unit.nothing_known n p) ((one q).0 r) w)
