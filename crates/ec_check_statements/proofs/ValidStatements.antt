-- What statements mean is as a valid program asks, statement by statement.
use Rattle.std.proofs.Common.{◌≡◌, ◌<◌, ℕ, Bool, true, List, [], ◌∷◌, length, sym, subst}
use Rattle.std.specs.Prelude.{Option, Some, None, IfSome, option_map}
use Rattle.ec_iohw.specs.declared.table.IoTable.{IoTable}
use Rattle.ec_grammar.specs.declared.Pragma.{Pragma}
use Rattle.ec_grammar.specs.Spelling as spelling
use Rattle.ec_grammar.specs.Trees as t
use Rattle.ec_grammar.specs.Trees.{Leaf}
use Rattle.ec_core.specs.Layout.{AreStructs}
use Rattle.ec_core.specs.Plain.{PlainType, PlainExpr, PlainStmt, statement, PlainKind, evaluate, block, break_loop, continue_loop}
use Rattle.ec_core.specs.Plain.{PlainStmts, last_stmt, PlainObject, PlainProgram}
use Rattle.ec_core.specs.TypeLaws.{StructsAreLaidOut}
use Rattle.ec_core.specs.Valid.{ValidExpr, ValidOptional, ValidCondition, ValidStmt, ValidKind, ValidOptionStmt, ValidStmts, IsScalarOrVoid}
use Rattle.ec_check_names.specs.Firsts.{first_specs, first_expression}
use Rattle.ec_check_names.specs.Laws.{BlocksEnd}
use Rattle.ec_check_names.specs.Names.{Names}
use Rattle.ec_check_names.specs.Specifiers.{specified}
use Rattle.ec_check_forms.specs.Validity.{IsUsable, FormsStayValid}
use Rattle.ec_check_expression_laws.specs.Laws.{ExpressionsAreValid, SaidTypesArePlaced, DeclarationsKeepSuiting, ValuesAreValid}
use Rattle.ec_check_expression_laws.specs.Suits.{AreHeld, Suits}
use Rattle.ec_check_initialisers.specs.Laws.{SizesAreValues, ValuesHaveLeafTypes}
use Rattle.ec_check_declarations.specs.Scopes.{Context, Scope, known_in}
use Rattle.ec_check_statements.specs.Around.{Around, looping, within, under}
use Rattle.ec_check_statements.specs.Kinds.{one_branch, branches, while_of, do_of, left}
use Rattle.ec_check_statements.specs.Headings.{ForHeading, optional_stmt, declared_first, first_part, after_first, heading_of, for_heading}
use Rattle.ec_check_statements.specs.Headings.{after_heading}
use Rattle.ec_check_statements.specs.Locals.{local_statement, after_declaration, declaration_before}
use Rattle.ec_check_statements.specs.Parts.{tested, optional_test, evaluated, optional_evaluation}
use Rattle.ec_check_statements.specs.Statements.{stated, for_of, after, after_item, after_items, kind_of, item_before, items_of, body_of}
use Rattle.ec_check_statements.specs.Statements.{after_body}
use Rattle.ec_check_statements.specs.Laws.{BodiesAreValid}
use Rattle.ec_check_statements.specs.Objects.{AreFirst}
use Rattle.ec_check_statements.proofs.Choices.{if_both}
use Rattle.ec_check_statements.proofs.Growth.{first_before}
use Rattle.ec_check_statements.proofs.Scopes.{statement_stays, items_grow}
use Rattle.ec_check_statements.proofs.Tokens.{past_specs, past_pragmas}
use Rattle.ec_check_statements.proofs.ValidLocals.{types_suit, Local, ValidBefore, followed_valid, local_valid, declaration_valid}
use Rattle.ec_check_statements.proofs.ValidParts.{tested_valid, optional_test_valid, evaluated_valid, optional_evaluation_valid}
use Rattle.ec_check_statements.proofs.ValidParts.{evaluation_valid, returned_valid}

-- ---- what is made of valid parts

module _ (p : PlainProgram) (io : IoTable) (f : ℕ) (returns : PlainType) (in_loop : Bool) where
  abbrev Good : Option PlainKind → Type 0
  Good k = IfSome k (ValidKind p io f returns in_loop)

  stated_valid : (b : Bool) (r : Around) (x : t.Statement) (k : Option PlainKind) → IfSome k (ValidKind p io f returns b)
      → IfSome (stated r x k) (ValidStmt p io f returns b)
  stated_valid b r x None h = tt
  stated_valid b r x (Some k) h = h

  block_valid : (ss : Option PlainStmts) → IfSome ss (ValidStmts p io f returns in_loop) → Good (option_map block ss)
  block_valid None h = tt
  block_valid (Some ss) h = h

  one_branch_valid : (x : Option PlainExpr) (a : Option PlainStmt) → ValidCondition p io f x → IfSome a (ValidStmt p io f returns in_loop)
      → Good (one_branch x a)
  one_branch_valid None a h k = tt
  one_branch_valid (Some x) None h k = tt
  one_branch_valid (Some x) (Some a) h k = (h, k, tt)

  branches_valid : (x : Option PlainExpr) (a b : Option PlainStmt) → ValidCondition p io f x → IfSome a (ValidStmt p io f returns in_loop)
      → IfSome b (ValidStmt p io f returns in_loop) → Good (branches x a b)
  branches_valid None a b h k l = tt
  branches_valid (Some x) None b h k l = tt
  branches_valid (Some x) (Some a) None h k l = tt
  branches_valid (Some x) (Some a) (Some b) h k l = (h, k, l)

  while_valid : (x : Option PlainExpr) (a : Option PlainStmt) → ValidCondition p io f x → IfSome a (ValidStmt p io f returns true)
      → Good (while_of x a)
  while_valid None a h k = tt
  while_valid (Some x) None h k = tt
  while_valid (Some x) (Some a) h k = (h, k)

  do_valid : (a : Option PlainStmt) (x : Option PlainExpr) → IfSome a (ValidStmt p io f returns true) → ValidCondition p io f x
      → Good (do_of a x)
  do_valid None x h k = tt
  do_valid (Some a) None h k = tt
  do_valid (Some a) (Some x) h k = (h, k)

  -- the parts of a `for`
  abbrev IsHeading : ForHeading → Type 0
  IsHeading h = ValidOptionStmt p io f returns in_loop h.first × ValidCondition p io f h.condition × ValidOptional p io f h.last

  for_valid : (h : Option ForHeading) (a : Option PlainStmt) → IfSome h IsHeading → IfSome a (ValidStmt p io f returns true)
      → Good (for_of h a)
  for_valid None a k l = tt
  for_valid (Some h) None k l = tt
  for_valid (Some h) (Some a) k l = (k.0, k.1, k.2, l)

  heading_valid : (first : Option (Option PlainStmt)) (condition last : Option (Option PlainExpr))
      → IfSome first (λ s. ValidOptionStmt p io f returns in_loop (optional_stmt s))
      → IfSome condition (ValidCondition p io f) → IfSome last (ValidOptional p io f) → IfSome (heading_of first condition last) IsHeading
  heading_valid None condition last h k l = tt
  heading_valid (Some a) None last h k l = tt
  heading_valid (Some a) (Some b) None h k l = tt
  heading_valid (Some a) (Some b) (Some e) h k l = (h, k, l)

  first_stmt_valid : (s : Option PlainStmt) → IfSome s (ValidStmt p io f returns in_loop)
      → IfSome (option_map Some s) (λ s. ValidOptionStmt p io f returns in_loop (optional_stmt s))
  first_stmt_valid None h = tt
  first_stmt_valid (Some s) h = h

  placed_valid : (unit at : ℕ) (k : Option PlainKind) → Good k
      → IfSome (option_map (statement unit at) k) (ValidStmt p io f returns in_loop)
  placed_valid unit at None h = tt
  placed_valid unit at (Some k) h = h

  block_stmt_valid : (unit at : ℕ) (ss : Option PlainStmts) → IfSome ss (ValidStmts p io f returns in_loop)
      → IfSome (option_map (λ all. statement unit at (block all)) ss) (ValidStmt p io f returns in_loop)
  block_stmt_valid unit at None h = tt
  block_stmt_valid unit at (Some ss) h = h

  evaluation_stmt_valid : (unit at : ℕ) (e : Option PlainExpr) → IfSome e (ValidExpr p io f)
      → IfSome (option_map (λ v. statement unit at (evaluate v)) e) (ValidStmt p io f returns in_loop)
  evaluation_stmt_valid unit at None h = tt
  evaluation_stmt_valid unit at (Some e) h = h

left_valid : (p : PlainProgram) (io : IoTable) (returns : PlainType) (r : Around) (k : PlainKind)
    → (r.in_loop ≡ true → ValidKind p io r.function returns r.in_loop k)
    → IfSome (left r k) (ValidKind p io r.function returns r.in_loop)
left_valid p io returns r k h = if_both (λ o. IfSome o (ValidKind p io r.function returns r.in_loop)) r.in_loop (Some k) None h (λ e. tt)

suits_under : (p : PlainProgram) (io : IoTable) (f : ℕ) (ps : List Pragma) (c : Context) (names : Names) → Suits p io f (known_in c names)
    → Suits p io f (known_in (under ps c) names)
suits_under p io f ps c names s = record {
  names = s.names;
  tags = s.tags;
  structs = s.structs;
  small = s.small;
  members = s.members;
  ports = s.ports;
}

module _ (law : StructsAreLaidOut) (said : SaidTypesArePlaced) (sizes : SizesAreValues) (leaf_law : ValuesHaveLeafTypes) (ends : BlocksEnd)
    (expressions : ExpressionsAreValid) (forms : FormsStayValid) (keep : DeclarationsKeepSuiting) (values : ValuesAreValid)
    (p : PlainProgram) (io : IoTable) (all : AreStructs p.structs) (room : length p.objects < 65_536) (returns : PlainType)
    (scalar : IsScalarOrVoid returns) (usable : IsUsable p.structs returns) where
  abbrev Before : Bool → Context → ℕ → Names → (Option PlainStmts → Option PlainStmts) → List Leaf → Type 0
  Before b c f names before rest =
      ValidBefore law said sizes leaf_law ends expressions forms keep p io all room returns b c f names before rest

  abbrev LocalOf : Around → PlainObject → Type 0
  LocalOf r x = Local law said sizes leaf_law ends expressions forms keep p io all room returns r.in_loop r x

  -- what is known behind a statement is what was known before it
  suits_behind : (c : Context) (r : Around) (x : t.Statement) (s : Scope) → Suits p io r.function (known_in c s.names)
      → Suits p io r.function (known_in c (after c r x s).names)
  suits_behind c r x s suits =
      subst (λ (names : Names). Suits p io r.function (known_in c names))
      (sym (statement_stays law said sizes ends p all c r (types_suit p io r.function c s.names suits) x s).names) suits

  -- ---- headings

  first_valid : (c : Context) (r : Around) (x : t.First) (s : Scope) (rest : List Leaf) → Suits p io r.function (known_in c s.names)
      → AreFirst (after_first c r x s).objects p.objects → AreHeld (spelling.of_first x rest)
      → IfSome (first_part c r x s) (λ s. ValidOptionStmt p io r.function returns r.in_loop (optional_stmt s))
      × Suits p io r.function (known_in c (after_first c r x s).names) × AreHeld rest
  unfolding first_part after_first declared_first after_declaration
  first_valid c r (t.first_declared (t.declaration ss d [] e)) s rest suits first held =
      let a = local_valid law said sizes leaf_law ends expressions forms keep p io all room returns r.in_loop c r ss d s _ suits first
      (past_specs ss _ held) in
      (first_stmt_valid p io r.function returns r.in_loop (local_statement c r (specified c.tags ss) d s) a.valid, a.suits, a.held.1)
  first_valid c r (t.first_declared (t.declaration ss d (more ∷ ds) e)) s rest suits first held =
      let a = declaration_valid law said sizes leaf_law ends expressions forms keep p io all room returns r.in_loop c r
      (t.declaration ss d (more ∷ ds) e) s rest suits first held in (
        first_stmt_valid p io r.function returns r.in_loop
            (option_map (λ all. statement r.unit (first_specs ss) (block all))
            (declaration_before c r (t.declaration ss d (more ∷ ds) e) s (Some last_stmt)))
            (block_stmt_valid p io r.function returns r.in_loop r.unit (first_specs ss)
            (declaration_before c r (t.declaration ss d (more ∷ ds) e) s (Some last_stmt))
            (a.valid (Some last_stmt) tt)),
        a.suits,
        a.held,
      )
  first_valid c r (t.first_evaluated None e) s rest suits first held = (tt, suits, held.1)
  first_valid c r (t.first_evaluated (Some x) e) s rest suits first held =
      let a = evaluated_valid forms values p io r.function c s.names (expressions p io r.function (known_in c s.names) suits) x _ held in (
        first_stmt_valid p io r.function returns r.in_loop
            (option_map (λ v. statement r.unit (first_expression x) (evaluate v)) (evaluated c s.names x))
            (evaluation_stmt_valid p io r.function returns r.in_loop r.unit (first_expression x) (evaluated c s.names x) a.0),
        suits,
        a.1.1,
      )

  parts_valid : (c : Context) (r : Around) (x : t.Heading) (s : Scope) (rest : List Leaf) → Suits p io r.function (known_in c s.names)
      → AreFirst (after_heading c r x s).objects p.objects → AreHeld (spelling.of_heading x rest)
      → IfSome (for_heading c r x s) (IsHeading p io r.function returns r.in_loop)
      × Suits p io r.function (known_in c (after_heading c r x s).names) × AreHeld rest
  unfolding for_heading after_heading
  parts_valid c r (t.heading l first x semicolon y e) s rest suits objects held =
      let a = first_valid c r first s _ suits objects held.1 in
      let names = (after_first c r first s).names in
      let ops = expressions p io r.function (known_in c names) a.1 in
      let b = optional_test_valid forms values p io r.function c names ops x _ a.2 in
      let d = optional_evaluation_valid forms values p io r.function c names ops y _ b.1.1 in (
        heading_valid p io r.function returns r.in_loop (first_part c r first s) (optional_test c names x)
            (optional_evaluation c names y) a.0 b.0 d.0,
        a.1,
        d.1.1,
      )

  -- ---- statements

  mutual
    kind_valid : (c : Context) (r : Around) → r.result ≡ Some returns → (x : t.Statement) (s : Scope) (rest : List Leaf)
        → Suits p io r.function (known_in c s.names)
        → AreFirst (after c r x s).objects p.objects → AreHeld (spelling.of_statement x rest)
        → IfSome (kind_of c r x s) (ValidKind p io r.function returns r.in_loop) × AreHeld rest
    kind_valid c r e (t.block (t.compound l ps xs z)) s rest suits first held =
        let a = items_valid (under ps c) (within r s.names) e xs s _ (suits_under p io r.function ps c s.names suits) first
        (past_pragmas ps _ held.1) in
        (block_valid p io r.function returns r.in_loop (items_of (under ps c) (within r s.names) xs s) a.0, a.1.1)
    kind_valid c r e (t.simple x z) s rest suits first held =
        let a = evaluation_valid forms values p io r.function c s.names
        (expressions p io r.function (known_in c s.names) suits) returns r.in_loop x _ held in
        (a.0, a.1.1)
    kind_valid c r e (t.if_then at (t.condition l x z) a) s rest suits first held =
        let g = tested_valid forms values p io r.function c s.names (expressions p io r.function (known_in c s.names) suits) x _ held.1.1 in
        let h = kind_valid c r e a s rest suits first g.1.1 in (
          one_branch_valid p io r.function returns r.in_loop (tested c s.names x) (stated r a (kind_of c r a s)) g.0
              (stated_valid p io r.function returns r.in_loop r.in_loop r a (kind_of c r a s) h.0),
          h.1,
        )
    kind_valid c r e (t.if_else at (t.condition l x z) a w b) s rest suits first held =
        let next = after c r a s in
        let g = tested_valid forms values p io r.function c s.names (expressions p io r.function (known_in c s.names) suits) x _ held.1.1 in
        let types = types_suit p io r.function c s.names suits in
        let h = kind_valid c r e a s _ suits
        (first_before (LocalOf r) next.objects (after c r b next).objects p.objects
        (statement_stays law said sizes ends p all c r types b next).objects first) g.1.1 in
        let k = kind_valid c r e b next rest (suits_behind c r a s suits) first h.1.1 in (
          branches_valid p io r.function returns r.in_loop (tested c s.names x) (stated r a (kind_of c r a s))
              (stated r b (kind_of c r b next)) g.0
              (stated_valid p io r.function returns r.in_loop r.in_loop r a (kind_of c r a s) h.0)
              (stated_valid p io r.function returns r.in_loop r.in_loop r b (kind_of c r b next) k.0),
          k.1,
        )
    kind_valid c r e (t.while_loop at (t.condition l x z) a) s rest suits first held =
        let g = tested_valid forms values p io r.function c s.names (expressions p io r.function (known_in c s.names) suits) x _ held.1.1 in
        let h = kind_valid c (looping r) e a s rest suits first g.1.1 in (
          while_valid p io r.function returns r.in_loop (tested c s.names x) (stated r a (kind_of c (looping r) a s)) g.0
              (stated_valid p io r.function returns r.in_loop true r a (kind_of c (looping r) a s) h.0),
          h.1,
        )
    kind_valid c r e (t.do_loop at a w (t.condition l x z) y) s rest suits first held =
        let next = after c (looping r) a s in
        let h = kind_valid c (looping r) e a s _ suits first held.1 in
        let then_suits = suits_behind c (looping r) a s suits in
        let g = tested_valid forms values p io r.function c next.names
        (expressions p io r.function (known_in c next.names) then_suits) x _ h.1.1.1 in (
          do_valid p io r.function returns r.in_loop (stated r a (kind_of c (looping r) a s)) (tested c next.names x)
              (stated_valid p io r.function returns r.in_loop true r a (kind_of c (looping r) a s) h.0) g.0,
          g.1.1.1,
        )
    kind_valid c r e (t.for_loop at x a) s rest suits first held =
        let q = within r s.names in
        let next = after_heading c q x s in
        let types = types_suit p io r.function c s.names suits in
        let g = parts_valid c q x s _ suits
        (first_before (LocalOf r) next.objects (after c (looping q) a next).objects p.objects
        (statement_stays law said sizes ends p all c (looping q) types a next).objects first) held.1 in
        let h = kind_valid c (looping q) e a next rest g.1 first g.2 in (
          for_valid p io r.function returns r.in_loop (for_heading c q x s) (stated r a (kind_of c (looping q) a next)) g.0
              (stated_valid p io r.function returns r.in_loop true r a (kind_of c (looping q) a next) h.0),
          h.1,
        )
    kind_valid c r e (t.break_loop at z) s rest suits first held = (left_valid p io returns r break_loop (λ h. h), held.1.1)
    kind_valid c r e (t.continue_loop at z) s rest suits first held = (left_valid p io returns r continue_loop (λ h. h), held.1.1)
    kind_valid c r e (t.return_value at x z) s rest suits first held =
        let g = returned_valid forms values p io r.function c s.names
        (expressions p io r.function (known_in c s.names) suits) returns r.in_loop r e scalar usable x _ held.1 in
        (g.0, g.1.1)

    item_valid : (c : Context) (r : Around) → r.result ≡ Some returns → (x : t.Item) (s : Scope) (rest : List Leaf)
        → Suits p io r.function (known_in c s.names)
        → AreFirst (after_item c r x s).objects p.objects → AreHeld (spelling.of_item x rest)
        → Before r.in_loop c r.function (after_item c r x s).names (item_before c r x s) rest
    item_valid c r e (t.declared d) s rest suits first held =
        declaration_valid law said sizes leaf_law ends expressions forms keep p io all room returns r.in_loop c r d s rest suits first held
    item_valid c r e (t.stated x) s rest suits first held =
        let g = kind_valid c r e x s rest suits first held in
        record {
          valid = λ tail h. followed_valid law said sizes leaf_law ends expressions forms keep p io all room returns r.in_loop r.function
              (stated r x (kind_of c r x s)) tail
              (stated_valid p io r.function returns r.in_loop r.in_loop r x (kind_of c r x s) g.0) h;
          suits = suits_behind c r x s suits;
          held = g.1;
        }

    items_valid : (c : Context) (r : Around) → r.result ≡ Some returns → (xs : t.Items) (s : Scope) (rest : List Leaf)
        → Suits p io r.function (known_in c s.names)
        → AreFirst (after_items c r xs s).objects p.objects → AreHeld (spelling.of_items xs rest)
        → IfSome (items_of c r xs s) (ValidStmts p io r.function returns r.in_loop) × AreHeld rest
    items_valid c r e t.no_items s rest suits first held = (tt, held)
    items_valid c r e (t.items x xs) s rest suits first held =
        let next = after_item c r x s in
        let types = types_suit p io r.function c s.names suits in
        let g = item_valid c r e x s _ suits
        (first_before (LocalOf r) next.objects (after_items c r xs next).objects p.objects
        (items_grow law said sizes ends p all c r types xs next).objects first) held in
        let h = items_valid c r e xs next rest g.suits first g.held in
        (g.valid (items_of c r xs next) h.0, h.1)

  pub body_valid : (c : Context) (r : Around) → r.result ≡ Some returns → (b : t.Compound) (s : Scope) (rest : List Leaf)
      → Suits p io r.function (known_in c s.names)
      → AreFirst (after_body c r b s).objects p.objects → AreHeld (spelling.of_compound b rest)
      → IfSome (body_of c r b s) (ValidStmt p io r.function returns r.in_loop) × AreHeld rest
  unfolding body_of after_body
  body_valid c r e (t.compound l ps xs z) s rest suits first held =
      let a = items_valid (under ps c) r e xs s _ (suits_under p io r.function ps c s.names suits) first (past_pragmas ps _ held.1) in (
        placed_valid p io r.function returns r.in_loop r.unit l.index (option_map block (items_of (under ps c) r xs s))
            (block_valid p io r.function returns r.in_loop (items_of (under ps c) r xs s) a.0),
        a.1.1,
      )

pub bodies_are_valid : StructsAreLaidOut → SaidTypesArePlaced → SizesAreValues → ValuesHaveLeafTypes → BlocksEnd → ExpressionsAreValid
    → FormsStayValid
    → DeclarationsKeepSuiting → ValuesAreValid → BodiesAreValid
bodies_are_valid law said sizes leaf_law ends expressions forms keep values p io returns c r b s rest h held =
    body_valid law said sizes leaf_law ends expressions forms keep values p io h.structs h.room returns h.scalar h.usable c r h.result b s
    rest h.known h.objects held
