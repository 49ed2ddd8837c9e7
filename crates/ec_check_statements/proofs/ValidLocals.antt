-- The statements of objects that a block declares are valid, and behind them what is known goes on to suit the program.
use Rattle.std.proofs.Common.{◌≡◌, ◌∙◌, ◌<◌, ◌≤◌, ◌++◌, ℕ, suc, Bool, true, false, List, [], ◌∷◌, length, map, refl, sym, ap, subst, inl}
use Rattle.std.proofs.Common.{inr, arith}
use Rattle.std.specs.Prelude.{if◌then◌else◌, nat_lt, Option, Some, None, IsSomeAnd, IfSome, option_map, slice_get, unwrap_or}
use Rattle.std.proofs.lemmas.Bool.{false≢true}
use Rattle.std.proofs.lemmas.Bool.Decides.{nat_tests}
use Rattle.ec_iohw.specs.declared.table.IoTable.{IoTable}
use Rattle.ec_space.specs.declared.space.SpaceId.TheVariants.{Generic}
use Rattle.ec_grammar.specs.Spelling as spelling
use Rattle.ec_grammar.specs.Trees as t
use Rattle.ec_grammar.specs.Trees.{Leaf}
use Rattle.ec_core.specs.Layout.{PlainLeaf, AreStructs, leaves_of_type}
use Rattle.ec_core.specs.Plain.{PlainType, PlainExpr, PlainExprs, last_expr, PlainStmt, statement, declare, PlainStmts, PlainObject}
use Rattle.ec_core.specs.Plain.{PlainProgram, local}
use Rattle.ec_core.specs.TypeLaws.{StructsAreLaidOut}
use Rattle.ec_core.specs.Valid.{ValidExprs, ValidStmt, ValidStmts, IsDeclared}
use Rattle.ec_check_names.specs.Laws.{BlocksEnd}
use Rattle.ec_check_names.specs.Names.{Names, an_object, with_inside}
use Rattle.ec_check_names.specs.Specifiers.{specified}
use Rattle.ec_check_operands.specs.Operands.{with_one, with_both}
use Rattle.ec_check_forms.specs.Validity.{FormsStayValid}
use Rattle.ec_check_expressions.specs.Callees.{exprs_of}
use Rattle.ec_check_expression_laws.specs.Laws.{ExpressionsAreValid, SaidTypesArePlaced, DeclarationsKeepSuiting}
use Rattle.ec_check_expression_laws.specs.Suits.{AreHeld, IsObjectKnown, IsOf, Suits}
use Rattle.ec_check_initialisers.specs.Laws.{SizesAreValues, ValuesHaveLeafTypes}
use Rattle.ec_check_initialisers.specs.Locals.{leaf_values}
use Rattle.ec_check_declarations.specs.Declarators.{object_declared}
use Rattle.ec_check_declarations.specs.Scopes.{Context, Scope, known_in, has_room, inner_object, made_number, with_object}
use Rattle.ec_check_statements.specs.Around.{Around}
use Rattle.ec_check_statements.specs.Locals.{first_declarator, local_declared, with_local, initial_values, local_made, started}
use Rattle.ec_check_statements.specs.Locals.{local_statement, with_locals, locals_before, after_declaration, declaration_before}
use Rattle.ec_check_statements.specs.Walks.{followed}
use Rattle.ec_check_statements.specs.Objects.{IsDeclaredType, AreFirst}
use Rattle.ec_check_statements.proofs.Growth.{first_before}
use Rattle.ec_check_statements.proofs.Layouts.{leaves_agree}
use Rattle.ec_check_statements.proofs.DeclaredTypes.{object_placed}
use Rattle.ec_check_statements.proofs.Scopes.{TypesSuit, P, local_grows, locals_grow}
use Rattle.ec_check_statements.proofs.Tokens.{past_specs, past_declarator}
use Rattle.ec_check_statements.proofs.ValidInitialisers.{AreValid, exprs_valid, leaf_values_are, initialiser_valid}

-- ---- the first objects of a program

pub at_end : (os : List PlainObject) (x : PlainObject) → slice_get (os ++ x ∷ []) (length os) ≡ Some x
at_end [] x = refl
at_end (o ∷ os) x = at_end os x

pub no_longer : (some all : List PlainObject) → AreFirst some all → length some ≤ length all
no_longer [] all h = omega arith
no_longer (x ∷ xs) [] h = absurd (let q : ◌≡◌ {A = Option PlainObject} None (Some x) = h 0 x refl in cc)
no_longer (x ∷ xs) (y ∷ ys) h = let q = no_longer xs ys (λ i z e. h (suc i) z e) in omega arith

pub room_left : (n m : ℕ) → n ≤ m → m < 65_536 → nat_lt n 65_536 ≡ true
room_left n m h k = grind (arith, nat_tests, h, k)

pub types_suit : (p : PlainProgram) (io : IoTable) (f : ℕ) (c : Context) (names : Names) → Suits p io f (known_in c names) → TypesSuit p c
types_suit p io f c names s = record { tags = s.tags; structs = s.structs; small = s.small }

module _ (law : StructsAreLaidOut) (said : SaidTypesArePlaced) (sizes : SizesAreValues) (leaf_law : ValuesHaveLeafTypes) (ends : BlocksEnd)
    (expressions : ExpressionsAreValid) (forms : FormsStayValid) (keep : DeclarationsKeepSuiting)
    (p : PlainProgram) (io : IoTable) (all : AreStructs p.structs) (room : length p.objects < 65_536) (returns : PlainType)
    (in_loop : Bool) where
  -- statements that are put before others are valid; behind them what is known suits the program
  pub record ValidBefore (c : Context) (f : ℕ) (names : Names) (before : Option PlainStmts → Option PlainStmts)
      (rest : List Leaf) : Type 0 where
    pub valid : (tail : Option PlainStmts) → IfSome tail (ValidStmts p io f returns in_loop)
        → IfSome (before tail) (ValidStmts p io f returns in_loop)
    pub suits : Suits p io f (known_in c names)
    pub held : AreHeld rest

  pub record ValidThen (c : Context) (f : ℕ) (names : Names) (s : Option PlainStmt) (rest : List Leaf) : Type 0 where
    pub valid : IfSome s (ValidStmt p io f returns in_loop)
    pub suits : Suits p io f (known_in c names)
    pub held : AreHeld rest

  pub followed_valid : (f : ℕ) (s : Option PlainStmt) (tail : Option PlainStmts) → IfSome s (ValidStmt p io f returns in_loop)
      → IfSome tail (ValidStmts p io f returns in_loop) → IfSome (followed s tail) (ValidStmts p io f returns in_loop)
  followed_valid f None tail h k = tt
  followed_valid f (Some s) None h k = tt
  followed_valid f (Some s) (Some ss) h k = (h, k)

  -- ---- one object

  module _ (c : Context) (r : Around) (known : TypesSuit p c) (n : List ℕ) (konst : Bool) (os : List PlainObject)
      (fits : length os ≤ length p.objects) where
    abbrev IsType : PlainType → Type 0
    IsType ty = IsDeclaredType c.structs p.structs ty

    abbrev object : PlainType → PlainObject
    object ty = inner_object r.unit n konst (local r.function) ty

    placed : (ty : PlainType) (b : Bool) → b ≡ true → AreFirst (if b then os ++ object ty ∷ [] else os) p.objects
        → slice_get p.objects (length os) ≡ Some (object ty)
    placed ty true e first = first (length os) (object ty) (at_end os (object ty))
    placed ty false e first = absurd (false≢true e)

    is_known : (ty : PlainType) → IsType ty → (b : Bool) → b ≡ true → slice_get p.objects (length os) ≡ Some (object ty)
        → IsSomeAnd (slice_get p.objects (unwrap_or (if b then Some (length os) else None) 0))
        (IsObjectKnown p r.function ty konst Generic false)
    is_known ty h true e q =
        subst (λ (o : Option PlainObject). IsSomeAnd o (IsObjectKnown p r.function ty konst Generic false)) (sym q)
        (record { typed = refl; constness = refl; spaced = refl; kind = h.placed; nameable = refl; addressed = inl tt })
    is_known ty h false e q = absurd (false≢true e)

    is_of : (ty : Option PlainType) → IfSome ty IsType → AreFirst (with_object ty object os) p.objects
        → IsOf p r.function (an_object (Some (unwrap_or (made_number ty os) 0)) ty konst Generic false)
    is_of None h first = tt
    is_of (Some ty) h first =
        let e = room_left (length os) (length p.objects) fits room in
        is_known ty h (has_room os) e (placed ty (has_room os) e first)

    -- its statement, where its values are these
    module _ (at : ℕ) (values : Option PlainType → Option PlainExprs)
        (good : (ty : PlainType) → IsType ty
        → IfSome (values (Some ty)) (λ es. ValidExprs p io r.function es × IsDeclared p io r.function es (object ty))) where
      declared_in : (ty : PlainType) → slice_get p.objects (length os) ≡ Some (object ty) → (v : Option PlainExprs)
          → IfSome v (λ es. ValidExprs p io r.function es × IsDeclared p io r.function es (object ty))
          → IfSome (with_one v (λ es. Some (statement r.unit at (declare (length os) es)))) (ValidStmt p io r.function returns in_loop)
      declared_in ty q None h = tt
      declared_in ty q (Some es) h = (subst (λ (o : Option PlainObject). IsSomeAnd o (IsDeclared p io r.function es)) (sym q) h.1, h.0)

      by_room : (ty : PlainType) (b : Bool) → slice_get p.objects (length os) ≡ Some (object ty)
          → IfSome (values (Some ty)) (λ es. ValidExprs p io r.function es × IsDeclared p io r.function es (object ty))
          → IfSome (with_both (if b then Some (length os) else None) (values (Some ty)) (λ i es. Some (statement r.unit at (declare i es))))
          (ValidStmt p io r.function returns in_loop)
      by_room ty true q h = declared_in ty q (values (Some ty)) h
      by_room ty false q h = tt

      statement_valid : (ty : Option PlainType) → IfSome ty IsType → AreFirst (with_object ty object os) p.objects
          → IfSome (with_both (made_number ty os) (values ty) (λ i es. Some (statement r.unit at (declare i es))))
          (ValidStmt p io r.function returns in_loop)
      statement_valid None h first = tt
      statement_valid (Some ty) h first =
          by_room ty (has_room os) (placed ty (has_room os) (room_left (length os) (length p.objects) fits room) first) (good ty h)

    -- the values of its leaves
    given_values : (names : Names) (i : t.Initialiser) (ty : PlainType) → IsType ty → (v : Option (List PlainExpr))
        → leaf_values (known_in c names) i (Some ty) ≡ v
        → IfSome v (AreValid p io r.function c.modes)
        → IfSome (option_map exprs_of v) (λ es. ValidExprs p io r.function es × IsDeclared p io r.function es (object ty))
    given_values names i ty h None e g = tt
    given_values names i ty h (Some es) e g = (
      exprs_valid p io r.function c.modes es g,
      (
        refl,
        inr (leaf_values_are p io r.function c.modes (leaves_of_type p.structs ty) es
            (leaf_law (known_in c names) i ty es known.small h.known e
            ∙ ap (λ (leaves : List PlainLeaf). map (λ leaf. leaf.ty) leaves)
            (leaves_agree law c.structs p.structs known.small all known.structs ty h.known.names))),
      ),
    )

  abbrev pub Local : Around → PlainObject → Type 0
  Local r x = P law said sizes ends p all r.unit r.function x

  -- ---- declarators

  module _ (c : Context) (r : Around) where
    pub local_valid : (ss : t.Specs) (d : t.InitDeclarator) (s : Scope) (rest : List Leaf) → Suits p io r.function (known_in c s.names)
        → AreFirst (with_local c r (specified c.tags ss) d s).objects p.objects → AreHeld (spelling.of_init_declarator d rest)
        → ValidThen c r.function (with_local c r (specified c.tags ss) d s).names (local_statement c r (specified c.tags ss) d s) rest
    unfolding with_local local_declared local_statement local_made started initial_values
    local_valid ss (t.init_declarator (t.declarator stars (t.identifier at n) shape) None) s rest suits first held =
        let x = t.declarator stars (t.identifier at n) shape in
        let k = known_in c s.names in
        let o = object_declared k (specified c.tags ss) x None in
        let g = types_suit p io r.function c s.names suits in
        let placed = object_placed law c.structs p.structs g.small all g.structs said sizes c.tags g.tags k refl ss x None in
        let fits = no_longer s.objects p.objects
        (first_before (Local r) s.objects (with_object o.ty (inner_object r.unit n o.konst (local r.function)) s.objects) p.objects
        (local_grows law said sizes ends p all c r g ss (t.init_declarator x None) s).objects first) in
        record {
          valid =
              statement_valid c r g n o.konst s.objects fits (first_declarator x) (λ ty. Some last_expr)
              (λ ty h. (tt, (refl, inl refl))) o.ty placed first;
          suits =
              (keep k n (an_object (Some (unwrap_or (made_number o.ty s.objects) 0)) o.ty o.konst Generic false)).inside p io
              r.function suits
              (is_of c r g n o.konst s.objects fits o.ty placed first);
          held = past_declarator (λ z more h. ((expressions p io r.function k suits).conditionals z more h).1) x rest held;
        }
    local_valid ss (t.init_declarator (t.declarator stars (t.identifier at n) shape) (Some (t.start equals i))) s rest suits first held =
        let x = t.declarator stars (t.identifier at n) shape in
        let k = known_in c s.names in
        let o = object_declared k (specified c.tags ss) x (Some (t.start equals i)) in
        let g = types_suit p io r.function c s.names suits in
        let placed =
        object_placed law c.structs p.structs g.small all g.structs said sizes c.tags g.tags k refl ss x (Some (t.start equals i)) in
        let fits = no_longer s.objects p.objects
        (first_before (Local r) s.objects (with_object o.ty (inner_object r.unit n o.konst (local r.function)) s.objects) p.objects
        (local_grows law said sizes ends p all c r g ss (t.init_declarator x (Some (t.start equals i))) s).objects first) in
        let what = an_object (Some (unwrap_or (made_number o.ty s.objects) 0)) o.ty o.konst Generic false in
        let next = with_inside n what s.names in
        let there = (keep k n what).inside p io r.function suits (is_of c r g n o.konst s.objects fits o.ty placed first) in
        let ops = expressions p io r.function (known_in c next) there in
        let values = past_declarator (λ z more h. ((expressions p io r.function k suits).conditionals z more h).1) x _ held in
        record {
          valid =
              statement_valid c r g n o.konst s.objects fits (first_declarator x)
              (λ ty. option_map exprs_of (leaf_values (known_in c next) i ty))
              (λ ty h. given_values c r g n o.konst s.objects fits next i ty h (leaf_values (known_in c next) i (Some ty)) refl
              (initialiser_valid law forms p io r.function (known_in c next) all there ops i (Some ty)
              (record { known = h.known; placed = h.placed }) rest values.1).0)
              o.ty placed first;
          suits = there;
          held = (initialiser_valid law forms p io r.function (known_in c next) all there ops i None tt rest values.1).1;
        }

    locals_valid : (ss : t.Specs) (ds : List t.NextInitDeclarator) (s : Scope) (rest : List Leaf)
        → Suits p io r.function (known_in c s.names)
        → AreFirst (with_locals c r (specified c.tags ss) ds s).objects p.objects
        → AreHeld (spelling.of_list spelling.of_next_init_declarator ds rest)
        → ValidBefore c r.function (with_locals c r (specified c.tags ss) ds s).names (locals_before c r (specified c.tags ss) ds s) rest
    locals_valid ss [] s rest suits first held = record { valid = λ tail h. h; suits = suits; held = held }
    locals_valid ss (t.next_init_declarator comma d ∷ ds) s rest suits first held =
        let next = with_local c r (specified c.tags ss) d s in
        let g = types_suit p io r.function c s.names suits in
        let a = local_valid ss d s _ suits
        (first_before (Local r) next.objects (with_locals c r (specified c.tags ss) ds next).objects p.objects
        (locals_grow law said sizes ends p all c r g ss ds next).objects first) held.1 in
        let b = locals_valid ss ds next rest a.suits first a.held in
        record {
          valid = λ tail h. followed_valid r.function (local_statement c r (specified c.tags ss) d s)
              (locals_before c r (specified c.tags ss) ds next tail) a.valid (b.valid tail h);
          suits = b.suits;
          held = b.held;
        }

    pub declaration_valid : (d : t.Declaration) (s : Scope) (rest : List Leaf) → Suits p io r.function (known_in c s.names)
        → AreFirst (after_declaration c r d s).objects p.objects → AreHeld (spelling.of_declaration d rest)
        → ValidBefore c r.function (after_declaration c r d s).names (declaration_before c r d s) rest
    unfolding after_declaration declaration_before
    declaration_valid (t.declaration ss d more e) s rest suits first held =
        let next = with_local c r (specified c.tags ss) d s in
        let g = types_suit p io r.function c s.names suits in
        let a = local_valid ss d s _ suits
        (first_before (Local r) next.objects (with_locals c r (specified c.tags ss) more next).objects p.objects
        (locals_grow law said sizes ends p all c r g ss more next).objects first)
        (past_specs ss _ held) in
        let b = locals_valid ss more next _ a.suits first a.held in
        record {
          valid = λ tail h. followed_valid r.function (local_statement c r (specified c.tags ss) d s)
              (locals_before c r (specified c.tags ss) more next tail) a.valid (b.valid tail h);
          suits = b.suits;
          held = b.held.1;
        }
