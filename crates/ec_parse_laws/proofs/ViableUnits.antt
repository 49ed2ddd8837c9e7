-- A fault in a unit, completed.
use Rattle.std.proofs.Common.{◌≡◌, ℕ, zero, suc, List, [], ◌∷◌, Bool, true, false, cond, Ok, Err, Some, None, refl, sym, ap, ◌∙◌, arith}
use Rattle.std.proofs.Common.{inl, inr, subst}
use Rattle.std.proofs.lemmas.Bool.{true≢false}
use Rattle.ec_grammar.specs.declared.token.WordKind.TheVariants as words
use Rattle.ec_grammar.specs.declared.token.PunctKind.TheVariants.{LeftBrace, RightBrace, LeftParenthesis, RightParenthesis, Semicolon}
use Rattle.ec_grammar.specs.declared.Spot.{Spot}
use Rattle.ec_grammar.specs.Tokens as tokens
use Rattle.ec_grammar.specs.Tokens.{Lexeme}
use Rattle.ec_grammar.specs.Trees as t
use Rattle.ec_grammar.specs.Trees.{Leaf}
use Rattle.ec_grammar.specs.Spelling.{leaf, mark, word, of_list, of_identifier, of_specs, of_type_name, of_params, of_member, of_external}
use Rattle.ec_grammar.specs.Spelling.{of_tree}
use Rattle.ec_grammar.specs.Grammar.{Is_member, Is_type_name, Are_params, Is_external, Is_tree}
use Rattle.ec_parse_laws.specs.Codes.{same_punct}
use Rattle.ec_parse_laws.specs.Reading.{Fault, ◌>>=◌, leaf_if, word_if, pragma_of, end_of, taken_word, needed, expected, identifier}
use Rattle.ec_parse_laws.specs.Reading.{starts_specs, many, begun, is_some, is_brace, specs_by, declarator_by, declared_by, members_by}
use Rattle.ec_parse_laws.specs.Reading.{members_at, compound_by, structure_at, structure_by, register_by, function_at, defined_by}
use Rattle.ec_parse_laws.specs.Reading.{external_at, unit_by, opened_at, within, whole, read}
use Rattle.ec_parse_laws.specs.Passing.{PassesExternal, PassesList}
use Rattle.ec_parse_laws.proofs.Basics.{some_is, when_some, taken_word_is, expected_is, identifier_is, same_puncts, many_is}
use Rattle.ec_parse_laws.proofs.Sound.{specs_are}
use Rattle.ec_parse_laws.proofs.SoundUnits.{sound_within, declarator_is, member_is, member_item_is, structure_open_is, function_heading_is}
use Rattle.ec_parse_laws.proofs.SoundUnits.{external_is, unit_is}
use Rattle.ec_parse_laws.proofs.Agreeing.{Agree, from_here, past, past_identifier, past_list, past_type_name, past_specs, past_params}
use Rattle.ec_parse_laws.proofs.Agreeing.{past_member, past_external}
use Rattle.ec_parse_laws.proofs.Completing.{err_is, not_err, bind_fault, when_fault, needed_fault, expected_fault, identifier_fault}
use Rattle.ec_parse_laws.proofs.Completing.{spot_at, Kind, Viable, FaultsAt, at, stop, opens, put_in, many_viable}
use Rattle.ec_parse_laws.proofs.Shortest.{Faulty, Below, member_kind, externals, some_name, name_leaf, int_leaf, int_specs, begun_fault}
use Rattle.ec_parse_laws.proofs.ViableTypes.{specs_faults}
use Rattle.ec_parse_laws.proofs.ViableOperators.{unary_faults, cast_faults, conditional_faults, assignment_faults, expression_faults}
use Rattle.ec_parse_laws.proofs.ViableDeclarations.{declarator_faults, initialiser_faults, declared_faults, declaration_faults}
use Rattle.ec_parse_laws.proofs.ViableDeclarations.{members_faults, members_item_faults}
use Rattle.ec_parse_laws.proofs.ViableStatements.{compound_faults, statement_faults}

-- ---- all that stands inside a construct

pub below_at : (first limit n : ℕ) → Below first limit n
below_at first limit zero m e = absurd (omega (arith, e))
below_at first limit (suc n) m e =
    let same : n ≡ m = omega (arith, e) in
    subst (Faulty first limit) same (record {
      expression = λ room ts f le g. expression_faults first limit n (below_at first limit n) room ts f le g;
      assignment = λ room ts f le g. assignment_faults first limit n (below_at first limit n) room ts f le g;
      conditional = λ room ts f le g. conditional_faults first limit n (below_at first limit n) room ts f le g;
      cast = λ room ts f le g. cast_faults first limit n (below_at first limit n) room ts f le g;
      unary = λ room ts f le g. unary_faults first limit n (below_at first limit n) room ts f le g;
      initialiser = λ room ts f le g. initialiser_faults first limit n (below_at first limit n) room ts f le g;
      declaration = λ ts f g. declaration_faults first limit n (below_at first limit n) ts f g;
      statement = λ room ts f le g. statement_faults first limit n (below_at first limit n) room ts f le g;
      compound = λ room ts f le g. compound_faults first limit n (below_at first limit n) room ts f g;
    })

-- ---- structures and registers

structure_faults : (first limit n : ℕ) (s : Spot) (tag : t.Identifier) (l : Spot) (ts : List Leaf) (f : Fault)
    → structure_by (within limit n) s tag l ts ≡ Err f
    → Viable (externals limit n) first limit limit (word s words.Struct ∷ of_identifier tag (mark l LeftBrace ∷ ts)) f
unfolding structure_by
structure_faults first limit n s tag l ts f e =
    bind_fault (members_by (within limit n) ts) _ f e
    (λ b. let v = members_faults first limit n (below_at first limit n) ts f b in
    put_in v (t.structure_item (t.structure s tag l v.tree [] (spot_at v.count) (spot_at (suc v.count)))) (suc (suc v.count))
    (λ rest. mark (spot_at v.count) RightBrace ∷ mark (spot_at (suc v.count)) Semicolon ∷ rest) (v.is, tt) (λ rest q. (refl, (refl, q)))
    (λ rest. past _ (past_identifier tag (past _ (v.agree _)))) (λ rest place h. inl h))
    (λ m ok g.
    let one = member_is (within limit n) (sound_within limit n) ts m ok in
    let sound = member_item_is (within limit n) (sound_within limit n) in
    at (ap (λ z. word s words.Struct ∷ of_identifier tag (mark l LeftBrace ∷ z)) one.0)
    (bind_fault (many (members_at (within limit n)) m.1) _ f g
    (λ b. let v = many_viable (member_kind limit n) first limit (members_at (within limit n)) (λ x a c us vs g. past_member x g) sound
    (members_item_faults first limit n (below_at first limit n)) m.1 f b in
    put_in v (t.structure_item (t.structure s tag l m.0 v.tree (spot_at v.count) (spot_at (suc v.count)))) (suc (suc v.count))
    (λ rest. mark (spot_at v.count) RightBrace ∷ mark (spot_at (suc v.count)) Semicolon ∷ rest) (one.1, v.is) (λ rest q. (refl, (refl, q)))
    (λ rest. past _ (past_identifier tag (past _ (past_member m.0 (v.agree _))))) (λ rest place h. inr h))
    (λ more k h.
    let others = many_is of_member Is_member (members_at (within limit n)) sound m.1 more k in
    let front = λ (a b us vs : List Leaf) (g : Agree a b us vs). past_list of_member (λ x a c us vs g. past_member x g) more.0 g in
    at (ap (λ z. word s words.Struct ∷ of_identifier tag (mark l LeftBrace ∷ of_member m.0 z)) others.0)
    (bind_fault (expected RightBrace more.1) _ f h
    (λ b.
    stop (expected_fault RightBrace more.1 f b) (t.structure_item (t.structure s tag l m.0 more.0 (spot_at first) (spot_at (suc first))))
    (suc (suc first)) (λ rest. mark (spot_at first) RightBrace ∷ mark (spot_at (suc first)) Semicolon ∷ rest) (one.1, others.1)
    (λ rest q. (refl, (refl, q))) (λ rest. past _ (past_identifier tag (past _ (past_member m.0 (front _ _ _ _ from_here))))))
    (λ r is i. at (ap (λ z. word s words.Struct ∷ of_identifier tag (mark l LeftBrace ∷ of_member m.0 (of_list of_member more.0 z)))
    (expected_is RightBrace more.1 r is))
    (bind_fault (expected Semicolon r.1) _ f i
    (λ b. stop (expected_fault Semicolon r.1 f b) (t.structure_item (t.structure s tag l m.0 more.0 r.0 (spot_at first))) (suc first)
    (λ rest. mark (spot_at first) Semicolon ∷ rest) (one.1, others.1)
    (λ rest q. (refl, q)) (λ rest. past _ (past_identifier tag (past _ (past_member m.0 (front _ _ _ _ (past _ from_here)))))))
    (λ c j z. absurd (not_err _ _ z))))))))

register_faults : (first limit n : ℕ) (s : Spot) (ts : List Leaf) (f : Fault) → register_by s ts ≡ Err f
    → Viable (externals limit n) first limit limit (word s words.Register ∷ ts) f
unfolding register_by
register_faults first limit n s ts f e =
    bind_fault (identifier ts) _ f e
    (λ b. stop (identifier_fault ts f b) (t.register_item (t.register_object s (some_name first) (int_specs (suc first))
    (some_name (suc (suc first))) (spot_at (suc (suc (suc first)))))) (suc (suc (suc (suc first))))
    (λ rest. name_leaf first ∷ int_leaf (suc first) ∷ name_leaf (suc (suc first)) ∷ mark (spot_at (suc (suc (suc first)))) Semicolon ∷ rest)
    (refl, tt) (λ rest q. (refl, (refl, (refl, (refl, q))))) (λ rest. past _ from_here))
    (λ r is g. at (ap (λ z. word s words.Register ∷ z) (identifier_is ts r is)) (bind_fault (specs_by r.1) _ f g
    (λ b. let v = specs_faults first limit r.1 f b in
    put_in v (t.register_item (t.register_object s r.0 v.tree (some_name v.count) (spot_at (suc v.count)))) (suc (suc v.count))
    (λ rest. name_leaf v.count ∷ mark (spot_at (suc v.count)) Semicolon ∷ rest) v.is (λ rest q. (refl, (refl, q)))
    (λ rest. past _ (past_identifier r.0 (v.agree _))) (λ rest place h. absurd h))
    (λ sp ok h.
    let made = specs_are r.1 sp ok in
    at (ap (λ z. word s words.Register ∷ of_identifier r.0 z) made.0) (bind_fault (identifier sp.1) _ f h
    (λ b. stop (identifier_fault sp.1 f b) (t.register_item (t.register_object s r.0 sp.0 (some_name first) (spot_at (suc first))))
    (suc (suc first)) (λ rest. name_leaf first ∷ mark (spot_at (suc first)) Semicolon ∷ rest) made.1 (λ rest q. (refl, (refl, q)))
    (λ rest. past _ (past_identifier r.0 (past_specs sp.0 from_here))))
    (λ x there i. at (ap (λ z. word s words.Register ∷ of_identifier r.0 (of_specs sp.0 z)) (identifier_is sp.1 x there))
    (bind_fault (expected Semicolon x.1) _ f i
    (λ b. stop (expected_fault Semicolon x.1 f b) (t.register_item (t.register_object s r.0 sp.0 x.0 (spot_at first))) (suc first)
    (λ rest. mark (spot_at first) Semicolon ∷ rest) made.1 (λ rest q. (refl, q))
    (λ rest. past _ (past_identifier r.0 (past_specs sp.0 (past_identifier x.0 from_here)))))
    (λ c k j. absurd (not_err _ _ j))))))))

-- ---- functions and declarations

brace_is : (l : Lexeme) → is_brace l ≡ true → l ≡ tokens.punct LeftBrace
brace_is (tokens.punct p) e = go (same_punct p LeftBrace) refl e
  where
    go : (b : Bool) → same_punct p LeftBrace ≡ b → is_some (cond b (Some p) None) ≡ true → tokens.punct p ≡ tokens.punct LeftBrace
    go true is e = ap (λ q. tokens.punct q) (same_puncts p LeftBrace is)
    go false is e = absurd (true≢false (sym e))
brace_is _ e = absurd (true≢false (sym e))

-- what stands before the body, and the body
body_faults : (first limit n : ℕ) (ty : t.TypeName) (name : t.Identifier) (l : Spot) (p : t.Params) (r : Spot) (ts : List Leaf) (f : Fault)
    → Is_type_name ty → Are_params p
    → begun is_brace (within limit n) ts (λ i. i.compound i.limit ts >>= λ b. Ok (t.function_item (t.function ty name l p r b.0), b.1))
    ≡ Err f
    → Viable (externals limit n) first limit limit
    (of_type_name ty (of_identifier name (mark l LeftParenthesis ∷ of_params p (mark r RightParenthesis ∷ ts)))) f
unfolding opened_at
body_faults first limit zero ty name l p r ts f is_ty is_p e = elim (begun_fault is_brace ts f e) [
  | inl d ↦ stop d (t.function_item (t.function ty name l p r (t.compound (spot_at first) [] t.no_items (spot_at (suc first)))))
      (suc (suc first)) (λ rest. mark (spot_at first) LeftBrace ∷ mark (spot_at (suc first)) RightBrace ∷ rest) (is_ty, is_p, tt)
      (λ rest q. (refl, (refl, q))) (λ rest. past_type_name ty (past_identifier name (past _ (past_params p (past _ from_here)))))
  | inr d ↦
      let x : Leaf = d.0 in
      let same : leaf x.spot x.lexeme ≡ mark x.spot LeftBrace = ap (λ z. leaf x.spot z) (brace_is x.lexeme d.3) in
      at (ap (λ z. of_type_name ty (of_identifier name (mark l LeftParenthesis ∷ of_params p (mark r RightParenthesis ∷ z))))
      (d.2 ∙ ap (λ z. z ∷ d.1) same))
      (opens d.4 (t.function_item (t.function ty name l p r (t.compound x.spot [] t.no_items (spot_at first)))) (suc first)
      (λ rest. mark (spot_at first) RightBrace ∷ rest) (is_ty, is_p, tt) (λ rest q. (refl, q))
      (λ rest. past_type_name ty (past_identifier name (past _ (past_params p (past _ from_here))))) (λ rest. inr refl))
]
body_faults first limit (suc m) ty name l p r ts f is_ty is_p e =
    bind_fault (compound_by (within limit m) limit ts) _ f e
    (λ b. let v = compound_faults first limit m (below_at first limit m) limit ts f b in
    put_in v (t.function_item (t.function ty name l p r v.tree)) v.count (λ rest. rest) (is_ty, is_p, v.is) (λ rest q. q)
    (λ rest. past_type_name ty (past_identifier name (past _ (past_params p (past _ (v.agree rest)))))) (λ rest place h. inr h))
    (λ b k g. absurd (not_err _ _ g))

defined_faults : (first limit n : ℕ) (ts : List Leaf) (f : Fault) → defined_by (within limit n) ts ≡ Err f
    → Viable (externals limit n) first limit limit ts f
unfolding defined_by
defined_faults first limit n ts f e =
    bind_fault (specs_by ts) _ f e
    (λ b. let v = specs_faults first limit ts f b in
    put_in v (t.declaration_item
    (t.declaration v.tree (t.init_declarator (t.declarator [] (some_name v.count) t.object) None) [] (spot_at (suc v.count))))
    (suc (suc v.count)) (λ rest. name_leaf v.count ∷ mark (spot_at (suc v.count)) Semicolon ∷ rest)
    (v.is, ((tt, tt), tt), tt) (λ rest q. (refl, (refl, q))) (λ rest. v.agree _) (λ rest place h. absurd h))
    (λ s ok g.
    let one = specs_are ts s ok in
    at one.0
    (bind_fault (declarator_by (within limit n) s.1) _ f g
    (λ b. let v = declarator_faults first limit n (below_at first limit n) s.1 f b in
    put_in v (t.declaration_item (t.declaration s.0 (t.init_declarator v.tree None) [] (spot_at v.count))) (suc v.count)
    (λ rest. mark (spot_at v.count) Semicolon ∷ rest) (one.1, (v.is, tt), tt) (λ rest q. (refl, q)) (λ rest. past_specs s.0 (v.agree _))
    (λ rest place h. inl (inl h)))
    (λ d k h.
    let two = declarator_is (within limit n) (sound_within limit n) s.1 d k in
    at (ap (of_specs s.0) two.0)
    (when_fault (function_at s.0 d.0 d.1) _ _ _ h
    (λ a o i.
    let head = function_heading_is s.0 d.0 d.1 a o in
    let is = head.1 one.1 two.1 in
    at (head.0 d.1) (body_faults first limit n a.0 a.1 a.2 a.3 a.4 d.1 f is.0 is.1 i))
    (λ o i. bind_fault (declared_by (within limit n) s.0 d.0 d.1) _ f i
    (λ b. let v = declared_faults first limit n (below_at first limit n) s.0 d.0 d.1 f one.1 two.1 b in
    put_in v (t.declaration_item v.tree) v.count (λ rest. rest) v.is (λ rest q. q) (λ rest. v.agree rest) (λ rest place h. h))
    (λ x j z. absurd (not_err _ _ z)))))))

external_faults : (first limit n : ℕ) → FaultsAt (externals limit n) first limit (external_at (within limit n))
unfolding external_at
external_faults first limit n ts r f o b =
    when_fault (leaf_if pragma_of ts) _ _ _ o (λ p o g. absurd (not_err _ _ (some_is _ _ g ∙ b)))
    (λ o g. when_fault (structure_at ts) _ _ _ g
    (λ s o h. at (structure_open_is ts s o) (bind_fault (structure_by (within limit n) s.0 s.1 s.2 s.3) _ f (some_is _ _ h ∙ b)
    (λ d. structure_faults first limit n s.0 s.1 s.2 s.3 f d) (λ x k i. absurd (not_err _ _ i))))
    (λ o h. when_fault (taken_word words.Register ts) _ _ _ h
    (λ w o i. at (taken_word_is words.Register ts w o) (bind_fault (register_by w.0 w.2) _ f (some_is _ _ i ∙ b)
    (λ d. register_faults first limit n w.0 w.2 f d) (λ x k j. absurd (not_err _ _ j))))
    (λ o i. let w = when_some (leaf_if (word_if starts_specs) ts) _ _ i in defined_faults first limit n ts f (some_is _ _ w.2 ∙ b))))

-- ---- units

abbrev pub PassesAll : ℕ → ℕ → t.Tree → List Leaf → ℕ → Type 0
PassesAll limit left (t.tree all s) rest place = PassesList of_external (PassesExternal limit left) all (leaf s tokens.end ∷ rest) place

abbrev pub trees : ℕ → ℕ → Kind t.Tree
trees limit left = record { spell = of_tree; Is = Is_tree; height = λ u. 0; passes = PassesAll limit left }

past_externals : (xs : List t.External) {more other ts us : List Leaf} → Agree more other ts us
    → Agree more other (of_list of_external xs ts) (of_list of_external xs us)
past_externals xs g = past_list of_external (λ x a b us vs g. past_external x g) xs g

past_tree : (u : t.Tree) {more other ts us : List Leaf} → Agree more other ts us → Agree more other (of_tree u ts) (of_tree u us)
past_tree (t.tree all s) g = past_externals all (past _ g)

unit_faults : (first limit n : ℕ) (ts : List Leaf) (f : Fault) → unit_by (within limit n) ts ≡ Err f
    → Viable (trees limit n) first limit limit ts f
unfolding unit_by
unit_faults first limit n ts f e =
    bind_fault (many (external_at (within limit n)) ts) _ f e
    (λ b. let v = many_viable (externals limit n) first limit (external_at (within limit n)) (λ x a c us vs g. past_external x g)
    (external_is (within limit n) (sound_within limit n)) (external_faults first limit n) ts f b in
    put_in v (t.tree v.tree (spot_at v.count)) (suc v.count) (λ rest. leaf (spot_at v.count) tokens.end ∷ rest) v.is (λ rest q. (refl, q))
    (λ rest. v.agree _) (λ rest place h. h))
    (λ u ok g.
    let all =
    many_is of_external Is_external (external_at (within limit n)) (external_is (within limit n) (sound_within limit n)) ts u ok in
    at all.0 (bind_fault (needed (leaf_if end_of u.1) u.1) _ f g
    (λ b. stop (needed_fault (leaf_if end_of u.1) u.1 f b) (t.tree u.0 (spot_at first)) (suc first)
    (λ rest. leaf (spot_at first) tokens.end ∷ rest) all.1 (λ rest q. (refl, q)) (λ rest. past_externals u.0 from_here))
    (λ w k h. absurd (not_err _ _ h))))

-- what is left after a unit
left_faults : (first limit n : ℕ) (y : t.Tree × List Leaf) (f : Fault) → Is_tree y.0 → whole y ≡ Err f
    → Viable (trees limit n) first limit limit (of_tree y.0 y.1) f
left_faults first limit n (u, []) f is e = absurd (not_err _ _ e)
left_faults first limit n (u, x ∷ xs) f is e = stop (err_is _ _ e) u first (λ rest. rest) is (λ rest q. q) (λ rest. past_tree u from_here)

pub read_faults : (first limit : ℕ) (ts : List Leaf) (f : Fault) → read limit ts ≡ Err f → Viable (trees limit limit) first limit limit ts f
unfolding read
read_faults first limit ts f e =
    bind_fault (unit_by (within limit limit) ts) _ f e (λ b. unit_faults first limit limit ts f b)
    (λ y ok g. let made = unit_is (within limit limit) (sound_within limit limit) ts y ok in
    at made.0 (left_faults first limit limit y f made.1 g))
