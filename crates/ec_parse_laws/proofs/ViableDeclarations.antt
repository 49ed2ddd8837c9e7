-- A fault in a declarator, an initialiser or a declaration, completed.
use Rattle.std.proofs.Common.{◌≡◌, ℕ, zero, suc, ◌≤◌, List, [], ◌∷◌, length, Bool, true, false, cond, Ok, Err, Option, Some, None, refl}
use Rattle.std.proofs.Common.{sym, ap, ◌∙◌, arith, inl, inr}
use Rattle.std.specs.Prelude.{max}
use Rattle.std.proofs.lemmas.Bool.{true≢false}
use Rattle.ec_grammar.specs.declared.token.PunctKind.TheVariants.{LeftBrace, RightBrace, LeftParenthesis, RightParenthesis, LeftBracket}
use Rattle.ec_grammar.specs.declared.token.PunctKind.TheVariants.{RightBracket, Semicolon, Comma, Assign}
use Rattle.ec_grammar.specs.declared.token.WordKind.TheVariants as words
use Rattle.ec_grammar.specs.declared.Spot.{Spot}
use Rattle.ec_grammar.specs.Trees as t
use Rattle.ec_grammar.specs.Trees.{Leaf}
use Rattle.ec_grammar.specs.Spelling.{mark, word, of_list, of_option, of_star, of_specs, of_type_name, of_param, of_next_param}
use Rattle.ec_grammar.specs.Spelling.{of_declarator, of_comma, of_initialiser, of_initialisers, of_start, of_init_declarator}
use Rattle.ec_grammar.specs.Spelling.{of_next_init_declarator, of_next_declarator}
use Rattle.ec_grammar.specs.Grammar.{lone_void, Is_star, Is_specs, Is_type_name, Is_param, Is_next_param, Is_declarator, Is_init_declarator}
use Rattle.ec_grammar.specs.Grammar.{Is_next_init_declarator, Is_next_declarator}
use Rattle.ec_grammar.specs.Nesting as nest
use Rattle.ec_parse_laws.specs.Reading.{Fault, syntax, Read, ◌>>=◌, leaf_if, word_if, name_of, taken, expected, identifier, starts_specs}
use Rattle.ec_parse_laws.specs.Reading.{many, behind_comma, inside, star_at, specs_by, type_name_by, name_at, param_by, void_at, params_by}
use Rattle.ec_parse_laws.specs.Reading.{array_by, shape_by, declarator_by, initialisers_of, initialiser_at, comma_at, braces_by}
use Rattle.ec_parse_laws.specs.Reading.{initialiser_by, start_by, init_declarator_by, declared_by, declaration_by, members_by, members_at}
use Rattle.ec_parse_laws.specs.Reading.{conditional_by, assignment_by, opened_at, within}
use Rattle.ec_parse_laws.proofs.Basics.{ok_is, some_is, no_some, bind_ok, when_some, taken_is, expected_is, identifier_is, many_is}
use Rattle.ec_parse_laws.proofs.Basics.{inner_at}
use Rattle.ec_parse_laws.proofs.Declarations.{of_initial_pair}
use Rattle.ec_parse_laws.proofs.Sound.{comma_item_is, star_is, specs_are, type_name_is, conditional_is}
use Rattle.ec_parse_laws.proofs.SoundUnits.{sound_within, Is_initial_pair, of_initialisers_of, are_initialisers_of, initialiser_item_is}
use Rattle.ec_parse_laws.proofs.SoundUnits.{comma_is, param_is, params_are, declarator_is, initialiser_is, start_is, init_declarator_is}
use Rattle.ec_parse_laws.proofs.Fitting.{KeepsAt, gives, many_keeps}
use Rattle.ec_parse_laws.proofs.Fits.{fits_initialiser}
use Rattle.ec_parse_laws.proofs.Agreeing.{Agree, from_here, past, past_identifier, past_stars, past_specs, past_type_name, past_conditional}
use Rattle.ec_parse_laws.proofs.Agreeing.{past_option, past_list, past_param, past_params, past_declarator, past_initialiser}
use Rattle.ec_parse_laws.proofs.Agreeing.{past_initialisers, past_start, past_next_init_declarator, past_next_declarator}
use Rattle.ec_parse_laws.proofs.Completing.{bad, good, err_is, not_err, bind_fault, when_fault, expected_fault, identifier_fault, spot_at}
use Rattle.ec_parse_laws.proofs.Completing.{Kind, Viable, FaultsAt, Row, at, stop, opens, ended, put_in, become, row_viable, many_viable}
use Rattle.ec_parse_laws.proofs.Completing.{comma_faults}
use Rattle.ec_parse_laws.proofs.Shortest.{Faulty, Below, params_kind, param_kind, shapes, declarators, initialisers, later_initialisers}
use Rattle.ec_parse_laws.proofs.Shortest.{initial_pairs, starts_kind, init_declarators, next_init_declarators, declarations}
use Rattle.ec_parse_laws.proofs.Shortest.{next_declarators, member_kind, some_name, name_leaf, zero_leaf, zero_assignment}
use Rattle.ec_parse_laws.proofs.ViableTypes.{none_passes, stars_faultless, specs_faults, type_name_faults}
use Rattle.ec_parse_laws.proofs.ViableOperators.{assignment_faults}

-- ---- parameters

-- with a name it is no lone `void`
named : (ty : t.TypeName) (n : t.Identifier) → lone_void ty (Some n) ≡ false
named (t.type_name (t.specs (t.word_spec s w) []) []) n = refl
named _ n = refl

cond_fault : {A : Type 0} (b : Bool) (c : Fault) (x : A) (f : Fault) → cond b (bad c) (good x) ≡ Err f → (b ≡ true) × (c ≡ f)
cond_fault {A = A} true c x f e = (refl, err_is {A = A} _ _ e)
cond_fault false c x f e = absurd (not_err _ _ e)

name_faultless : (ts : List Leaf) (f : Fault) → name_at ts ≡ Err f → ⊥
name_faultless ts f e = when_fault (leaf_if name_of ts) _ _ _ e (λ x o g. not_err _ _ g) (λ o g. not_err _ _ g)

abbrev param_of : t.TypeName → Option t.Identifier × List Leaf → Read t.Param
param_of ty n = cond (lone_void ty n.0) (Err (syntax (length n.1))) (Ok (t.param ty n.0, n.1))

-- `void` alone wants a name
void_faults : (first limit : ℕ) (ty : t.TypeName) (ts : List Leaf) (f : Fault) → Is_type_name ty → (name_at ts >>= param_of ty) ≡ Err f
    → Viable param_kind first limit limit (of_type_name ty ts) f
void_faults first limit ty ts f is e =
    bind_fault (name_at ts) _ f e (λ b. absurd (name_faultless ts f b))
    (λ n ok g.
    let void = cond_fault (lone_void ty n.0) (syntax (length n.1)) _ f g in
    when_fault (leaf_if name_of ts) _ _ _ ok
    (λ x o h. absurd (true≢false
    (sym void.0 ∙ sym (ap (λ (z : Option t.Identifier × List Leaf). lone_void ty z.0) (ok_is _ _ h)) ∙ named ty (t.identifier x.0 x.1))))
    (λ o h. stop (ap (λ (z : Option t.Identifier × List Leaf). syntax (length z.1)) (ok_is _ _ h) ∙ void.1) (t.param ty
    (Some (some_name first))) (suc first) (λ rest. name_leaf first ∷ rest) (is, named ty (some_name first)) (λ rest q. (refl, q))
    (λ rest. past_type_name ty from_here)))

param_faults : (first limit : ℕ) (ts : List Leaf) (f : Fault) → param_by ts ≡ Err f → Viable param_kind first limit limit ts f
unfolding param_by
param_faults first limit ts f e =
    bind_fault (type_name_by ts) _ f e
    (λ b. let v = type_name_faults first limit ts f b in
    put_in v (t.param v.tree (Some (some_name v.count))) (suc v.count) (λ rest. name_leaf v.count ∷ rest)
    (v.is, named v.tree (some_name v.count)) (λ rest q. (refl, q)) (λ rest. v.agree _) (λ rest place h. h))
    (λ ty ok g. let made = type_name_is ts ty ok in at made.0 (void_faults first limit ty.0 ty.1 f made.1 g))

abbrev next_params : Kind t.NextParam
next_params = record { spell = of_next_param; Is = Is_next_param; height = λ x. 0; passes = λ x rest place. ⊥ }

params_faults : (first limit : ℕ) (ts : List Leaf) (f : Fault) → params_by ts ≡ Err f → Viable params_kind first limit limit ts f
unfolding params_by
params_faults first limit ts f e =
    when_fault (void_at ts) _ _ _ e (λ v o g. absurd (not_err _ _ g))
    (λ o g. bind_fault (param_by ts) _ f g
    (λ b. let v = param_faults first limit ts f b in
    put_in v (t.params v.tree []) v.count (λ rest. rest) (v.is, tt) (λ rest q. q) (λ rest. v.agree rest) (λ rest place h. h))
    (λ p ok h. bind_fault (many (behind_comma t.next_param param_by) p.1) _ f h
    (λ b.
    let made = param_is ts p ok in
    let v = many_viable next_params first limit (behind_comma t.next_param param_by) past_next
    (comma_item_is t.next_param param_by of_param Is_param of_next_param Is_next_param param_is (λ s x rest. refl) (λ s x is. is))
    (comma_faults param_kind next_params first limit t.next_param param_by (λ us d i. param_faults first limit us d i) (λ s x is. is)
    (λ s x rest. refl) (λ s x rest place h. h)) p.1 f b in
    at made.0 (put_in v (t.params p.0 v.tree) v.count (λ rest. rest) (made.1, v.is) (λ rest q. q) (λ rest. past_param p.0 (v.agree rest))
    (λ rest place h. none_passes of_next_param v.tree rest place h)))
    (λ xs k l. absurd (not_err _ _ l))))
  where
    past_next : (x : t.NextParam) (a b us vs : List Leaf) → Agree a b us vs → Agree a b (of_next_param x us) (of_next_param x vs)
    past_next (t.next_param s p) a b us vs g = past _ (past_param p g)

-- ---- declarators

bracket_faults : (first limit n : ℕ) → Below first limit n → (l : Spot) (ts : List Leaf) (f : Fault)
    → inside (within limit n) ts (λ i. array_by i l ts) ≡ Err f → Viable (shapes limit n) first limit limit (mark l LeftBracket ∷ ts) f
unfolding array_by opened_at
bracket_faults first limit zero below l ts f e =
    opens (err_is _ _ e) (t.array l None (spot_at first)) (suc first) (λ rest. mark (spot_at first) RightBracket ∷ rest) tt
    (λ rest q. (refl, q)) (λ rest. from_here) (λ rest. refl)
bracket_faults first limit (suc m) below l ts f e =
    when_fault (taken RightBracket ts) _ _ _ e (λ r o g. absurd (not_err _ _ g))
    (λ o g. bind_fault (conditional_by (within limit m) limit ts) _ f g
    (λ b. let v = (below m refl).conditional limit ts f (omega arith) b in
    put_in v (t.array l (Some v.tree) (spot_at v.count)) (suc v.count) (λ rest. mark (spot_at v.count) RightBracket ∷ rest) v.is
    (λ rest q. (refl, q)) (λ rest. past _ (v.agree _)) (λ rest place h. h))
    (λ c ok h.
    let made = conditional_is (within limit m) (sound_within limit m) limit ts c ok in
    bind_fault (expected RightBracket c.1) _ f h
    (λ b. at (ap (λ z. mark l LeftBracket ∷ z) made.0)
    (stop (expected_fault RightBracket c.1 f b) (t.array l (Some c.0) (spot_at first)) (suc first)
    (λ rest. mark (spot_at first) RightBracket ∷ rest) made.1 (λ rest q. (refl, q)) (λ rest. past _ (past_conditional c.0 from_here))))
    (λ r k i. absurd (not_err _ _ i))))

function_faults : (first limit n : ℕ) (l : Spot) (ts : List Leaf) (f : Fault) → inside (within limit n) ts
    (λ i. params_by ts >>= λ p. expected RightParenthesis p.1 >>= λ r. Ok (t.function_shape l p.0 r.0, r.1)) ≡ Err f
    → Viable (shapes limit n) first limit limit (mark l LeftParenthesis ∷ ts) f
unfolding opened_at
function_faults first limit zero l ts f e =
    opens (err_is _ _ e) (t.function_shape l (t.void_params (spot_at first)) (spot_at (suc first))) (suc (suc first))
    (λ rest. word (spot_at first) words.Void ∷ mark (spot_at (suc first)) RightParenthesis ∷ rest) tt (λ rest q. (refl, (refl, q)))
    (λ rest. from_here) (λ rest. refl)
function_faults first limit (suc m) l ts f e =
    bind_fault (params_by ts) _ f e
    (λ b. let v = params_faults first limit ts f b in
    put_in v (t.function_shape l v.tree (spot_at v.count)) (suc v.count) (λ rest. mark (spot_at v.count) RightParenthesis ∷ rest) v.is
    (λ rest q. (refl, q)) (λ rest. past _ (v.agree _)) (λ rest place h. absurd h))
    (λ p ok g.
    let made = params_are ts p ok in
    bind_fault (expected RightParenthesis p.1) _ f g
    (λ b. at (ap (λ z. mark l LeftParenthesis ∷ z) made.0)
    (stop (expected_fault RightParenthesis p.1 f b) (t.function_shape l p.0 (spot_at first)) (suc first)
    (λ rest. mark (spot_at first) RightParenthesis ∷ rest) made.1 (λ rest q. (refl, q)) (λ rest. past _ (past_params p.0 from_here))))
    (λ r k i. absurd (not_err _ _ i)))

shape_faults : (first limit n : ℕ) → Below first limit n → (ts : List Leaf) (f : Fault) → shape_by (within limit n) ts ≡ Err f
    → Viable (shapes limit n) first limit limit ts f
unfolding shape_by
shape_faults first limit n below ts f e =
    when_fault (taken LeftBracket ts) _ _ _ e (λ l o g. at (taken_is LeftBracket ts l o) (bracket_faults first limit n below l.0 l.2 f g))
    (λ o g. when_fault (taken LeftParenthesis ts) _ _ _ g
    (λ l o h. at (taken_is LeftParenthesis ts l o) (function_faults first limit n l.0 l.2 f h))
    (λ o h. absurd (not_err _ _ h)))

pub declarator_faults : (first limit n : ℕ) → Below first limit n → (ts : List Leaf) (f : Fault) → declarator_by (within limit n) ts ≡ Err f
    → Viable (declarators limit n) first limit limit ts f
unfolding declarator_by
declarator_faults first limit n below ts f e =
    bind_fault (many star_at ts) _ f e (λ b. absurd (stars_faultless ts f b))
    (λ stars ok g.
    let one = many_is of_star Is_star star_at star_is ts stars ok in
    at one.0
    (bind_fault (identifier stars.1) _ f g
    (λ b. stop (identifier_fault stars.1 f b) (t.declarator stars.0 (some_name first) t.object) (suc first) (λ rest. name_leaf first ∷ rest)
    (one.1, tt) (λ rest q. (refl, q)) (λ rest. past_stars stars.0 from_here))
    (λ x is h. at (ap (of_list of_star stars.0) (identifier_is stars.1 x is))
    (bind_fault (shape_by (within limit n) x.1) _ f h
    (λ b. let v = shape_faults first limit n below x.1 f b in
    put_in v (t.declarator stars.0 x.0 v.tree) v.count (λ rest. rest) (one.1, v.is) (λ rest q. q)
    (λ rest. past_stars stars.0 (past_identifier x.0 (v.agree rest))) (λ rest place h. h))
    (λ s k i. absurd (not_err _ _ i))))))

-- ---- initialisers

initial_row : (limit m : ℕ) → Row (initial_pairs limit m) (later_initialisers limit m)
initial_row limit m = record {
  nil = t.no_initialisers;
  cons = λ x xs. t.initialisers x.0 x.1 xs;
  is_nil = tt;
  is_cons = λ x xs a b. (a, b);
  spell_nil = λ rest. refl;
  spell_cons = λ x xs rest. refl;
  one = λ x rest place h. inl h;
  others = λ x xs rest place h. inr h;
}

initial_faults : (first limit m : ℕ) → Faulty first limit m
    → FaultsAt (initial_pairs limit m) first limit (initialiser_at (inner_at limit m))
unfolding initialiser_at
initial_faults first limit m below ts r f o b =
    let c = when_some (taken Comma ts) _ _ o in
    when_fault (taken RightBrace c.0.2) _ _ _ c.2 (λ k o g. absurd (no_some _ g))
    (λ o g. at (taken_is Comma ts c.0 c.1) (bind_fault (initialiser_by (within limit m) limit c.0.2) _ f (some_is _ _ g ∙ b)
    (λ d. let v = below.initialiser limit c.0.2 f (omega arith) d in
    put_in v (c.0.0, v.tree) v.count (λ rest. rest) v.is (λ rest q. q) (λ rest. past _ (v.agree rest)) (λ rest place h. h))
    (λ x k h. absurd (not_err _ _ h))))

comma_faultless : (ts : List Leaf) (f : Fault) → comma_at ts ≡ Err f → ⊥
comma_faultless ts f e = when_fault (taken Comma ts) _ _ _ e (λ x o g. not_err _ _ g) (λ o g. not_err _ _ g)

abbrev initial_height : Spot × t.Initialiser → ℕ
initial_height x = nest.height_initialiser x.1

initials_height : (xs : List (Spot × t.Initialiser)) → nest.height_initialisers (initialisers_of xs) ≡ nest.height_list initial_height xs
initials_height [] = refl
initials_height (x ∷ xs) = ap (max (nest.height_initialiser x.1)) (initials_height xs)

initial_low : (limit m : ℕ) → KeepsAt initial_height (λ x. nest.opens_initialiser x.1) limit m (initialiser_at (inner_at limit m))
unfolding initialiser_at
initial_low limit m ts r y o ok =
    let c = when_some (taken Comma ts) _ _ o in
    when_fault (taken RightBrace c.0.2) _ _ _ c.2 (λ k o g. absurd (no_some _ g))
    (λ o g.
    let x = bind_ok (initialiser_by (within limit m) limit c.0.2) _ _ (some_is _ _ g ∙ ok) in
    let kept = fits_initialiser limit m limit (omega arith) c.0.2 x.0 x.1 in
    gives initial_height (λ x. nest.opens_initialiser x.1) limit m _ _ y x.2 kept.0 kept.1)

braces_faults : (first limit n : ℕ) → Below first limit n → (room : ℕ) (l : Spot) (ts : List Leaf) (f : Fault)
    → inside (within limit n) ts (λ i. braces_by i room l ts) ≡ Err f
    → Viable (initialisers limit n) first limit room (mark l LeftBrace ∷ ts) f
unfolding braces_by opened_at
braces_faults first limit zero below room l ts f e =
    opens (err_is _ _ e) (t.braces l (t.initial_value (zero_assignment first)) t.no_initialisers None (spot_at (suc first)))
    (suc (suc first)) (λ rest. zero_leaf first ∷ mark (spot_at (suc first)) RightBrace ∷ rest) (tt, tt) (λ rest q. (refl, (refl, q)))
    (λ rest. from_here) (λ rest. inl refl)
braces_faults first limit (suc m) below room l ts f e =
    bind_fault (initialiser_by (within limit m) limit ts) _ f e
    (λ b. let v = (below m refl).initialiser limit ts f (omega arith) b in
    put_in v (t.braces l v.tree t.no_initialisers None (spot_at v.count)) (suc v.count) (λ rest. mark (spot_at v.count) RightBrace ∷ rest)
    (v.is, tt) (λ rest q. (refl, q)) (λ rest. past _ (v.agree _)) (λ rest place h. inl (inl h)))
    (λ x ok g.
    let made = initialiser_is (within limit m) (sound_within limit m) limit ts x ok in
    let kept = fits_initialiser limit m limit (omega arith) ts x ok in
    let sound = initialiser_item_is (inner_at limit m) (sound_within limit (suc m) (inner_at limit m) refl) in
    at (ap (λ z. mark l LeftBrace ∷ z) made.0)
    (bind_fault (many (initialiser_at (inner_at limit m)) x.1) _ f g
    (λ b. let v = row_viable (initial_pairs limit m) (later_initialisers limit m) (initial_row limit m) first limit (initialiser_at
    (inner_at limit m)) (λ y a b us vs g. past _ (past_initialiser y.1 g)) sound (initial_faults first limit m (below m refl)) x.1 f b in
    put_in v (t.braces l x.0 v.tree None (spot_at v.count)) (suc v.count) (λ rest. mark (spot_at v.count) RightBrace ∷ rest) (made.1, v.is)
    (λ rest q. (refl, q)) (λ rest. past _ (past_initialiser x.0 (v.agree _))) (λ rest place h. inl (inr h)))
    (λ more k h.
    let others = many_is of_initial_pair Is_initial_pair (initialiser_at (inner_at limit m)) sound x.1 more k in
    let low = many_keeps initial_height (λ x. nest.opens_initialiser x.1) limit m (initialiser_at (inner_at limit m))
    (initial_low limit m) x.1 more k in
    let are = are_initialisers_of more.0 others.1 in
    at (ap (λ z. mark l LeftBrace ∷ of_initialiser x.0 z) (others.0 ∙ of_initialisers_of more.0 more.1))
    (bind_fault (comma_at more.1) _ f h (λ b. absurd (comma_faultless more.1 f b))
    (λ c j i. at (ap (λ z. mark l LeftBrace ∷ of_initialiser x.0 (of_initialisers (initialisers_of more.0) z)) (comma_is more.1 c j))
    (bind_fault (expected RightBrace c.1) _ f i
    (λ b. stop (expected_fault RightBrace c.1 f b) (t.braces l x.0 (initialisers_of more.0) c.0 (spot_at first)) (suc first)
    (λ rest. mark (spot_at first) RightBrace ∷ rest) (made.1, are) (λ rest q. (refl, q))
    (λ rest. past _
    (past_initialiser x.0 (past_initialisers (initialisers_of more.0) (past_option of_comma (λ s a b us vs g. past _ g) c.0 from_here)))))
    (λ r is z. at (ap (λ y. mark l LeftBrace ∷ of_initialiser x.0 (of_initialisers (initialisers_of more.0) (of_option of_comma c.0 y)))
    (expected_is RightBrace c.1 r is))
    (ended (t.braces l x.0 (initialisers_of more.0) c.0 r.0) r.1 z (made.1, are)
    (λ rest. past _
    (past_initialiser x.0 (past_initialisers (initialisers_of more.0) (past_option of_comma (λ s a b us vs g. past _ g) c.0 from_here))))
    (omega (arith, kept.0, low.0, initials_height more.0)) (λ rest place h. inr h)))))))))

pub initialiser_faults : (first limit n : ℕ) → Below first limit n → (room : ℕ) (ts : List Leaf) (f : Fault) → room ≤ limit
    → initialiser_by (within limit n) room ts ≡ Err f → Viable (initialisers limit n) first limit room ts f
unfolding initialiser_by
initialiser_faults first limit n below room ts f le e =
    when_fault (taken LeftBrace ts) _ _ _ e (λ l o g. at (taken_is LeftBrace ts l o) (braces_faults first limit n below room l.0 l.2 f g))
    (λ o g. bind_fault (assignment_by (within limit n) room ts) _ f g
    (λ b. let v = assignment_faults first limit n below room ts f le b in
    become v (t.initial_value v.tree) v.is (λ rest. v.agree rest) refl (λ rest place h. h))
    (λ a k h. absurd (not_err _ _ h)))

-- ---- declarations

start_faults : (first limit n : ℕ) → Below first limit n → (ts : List Leaf) (f : Fault) → start_by (within limit n) ts ≡ Err f
    → Viable (starts_kind limit n) first limit limit ts f
unfolding start_by
start_faults first limit n below ts f e =
    when_fault (taken Assign ts) _ _ _ e
    (λ q o g. at (taken_is Assign ts q o) (bind_fault (initialiser_by (within limit n) limit q.2) _ f g
    (λ b. let v = initialiser_faults first limit n below limit q.2 f (omega arith) b in
    put_in v (Some (t.start q.0 v.tree)) v.count (λ rest. rest) v.is (λ rest s. s) (λ rest. past _ (v.agree rest)) (λ rest place h. h))
    (λ x k h. absurd (not_err _ _ h))))
    (λ o g. absurd (not_err _ _ g))

init_declarator_faults : (first limit n : ℕ) → Below first limit n → (ts : List Leaf) (f : Fault)
    → init_declarator_by (within limit n) ts ≡ Err f → Viable (init_declarators limit n) first limit limit ts f
unfolding init_declarator_by
init_declarator_faults first limit n below ts f e =
    bind_fault (declarator_by (within limit n) ts) _ f e
    (λ b. let v = declarator_faults first limit n below ts f b in
    put_in v (t.init_declarator v.tree None) v.count (λ rest. rest) (v.is, tt) (λ rest q. q) (λ rest. v.agree rest) (λ rest place h. inl h))
    (λ d ok g. bind_fault (start_by (within limit n) d.1) _ f g
    (λ b.
    let made = declarator_is (within limit n) (sound_within limit n) ts d ok in
    let v = start_faults first limit n below d.1 f b in
    at made.0 (put_in v (t.init_declarator d.0 v.tree) v.count (λ rest. rest) (made.1, v.is) (λ rest q. q)
    (λ rest. past_declarator d.0 (v.agree rest)) (λ rest place h. inr h)))
    (λ s k h. absurd (not_err _ _ h)))

pub declared_faults : (first limit n : ℕ) → Below first limit n → (s : t.Specs) (d : t.Declarator) (ts : List Leaf) (f : Fault) → Is_specs s
    → Is_declarator d → declared_by (within limit n) s d ts ≡ Err f
    → Viable (declarations limit n) first limit limit (of_specs s (of_declarator d ts)) f
unfolding declared_by
declared_faults first limit n below s d ts f is_s is_d e =
    bind_fault (start_by (within limit n) ts) _ f e
    (λ b. let v = start_faults first limit n below ts f b in
    put_in v (t.declaration s (t.init_declarator d v.tree) [] (spot_at v.count)) (suc v.count)
    (λ rest. mark (spot_at v.count) Semicolon ∷ rest) (is_s, (is_d, v.is), tt) (λ rest q. (refl, q))
    (λ rest. past_specs s (past_declarator d (v.agree _))) (λ rest place h. inl (inr h)))
    (λ x ok g.
    let started = start_is (within limit n) (sound_within limit n) ts x ok in
    let sound = comma_item_is t.next_init_declarator
    (init_declarator_by (within limit n)) of_init_declarator Is_init_declarator of_next_init_declarator Is_next_init_declarator
    (init_declarator_is (within limit n) (sound_within limit n)) (λ s x rest. refl) (λ s x is. is) in
    at (ap (λ z. of_specs s (of_declarator d z)) started.0)
    (bind_fault (many (behind_comma t.next_init_declarator (init_declarator_by (within limit n))) x.1) _ f g
    (λ b. let v = many_viable (next_init_declarators limit n) first limit
    (behind_comma t.next_init_declarator (init_declarator_by (within limit n))) past_next_init_declarator sound
    (comma_faults (init_declarators limit n) (next_init_declarators limit n) first limit t.next_init_declarator
    (init_declarator_by (within limit n)) (λ us c h. init_declarator_faults first limit n below us c h) (λ s x is. is) (λ s x rest. refl)
    (λ s x rest place h. h)) x.1 f b in
    put_in v (t.declaration s (t.init_declarator d x.0) v.tree (spot_at v.count)) (suc v.count)
    (λ rest. mark (spot_at v.count) Semicolon ∷ rest) (is_s, (is_d, started.1), v.is) (λ rest q. (refl, q))
    (λ rest. past_specs s (past_declarator d (past_option of_start (λ x a b us vs g. past_start x g) x.0 (v.agree _))))
    (λ rest place h. inr h))
    (λ more k h.
    let others = many_is of_next_init_declarator Is_next_init_declarator
    (behind_comma t.next_init_declarator (init_declarator_by (within limit n))) sound x.1 more k in
    bind_fault (expected Semicolon more.1) _ f h
    (λ b. at (ap (λ z. of_specs s (of_declarator d (of_option of_start x.0 z))) others.0)
    (stop (expected_fault Semicolon more.1 f b) (t.declaration s (t.init_declarator d x.0) more.0 (spot_at first)) (suc first)
    (λ rest. mark (spot_at first) Semicolon ∷ rest) (is_s, (is_d, started.1), others.1) (λ rest q. (refl, q))
    (λ rest. past_specs s (past_declarator d (past_option of_start (λ x a b us vs g. past_start x g) x.0
    (past_list of_next_init_declarator past_next_init_declarator more.0 from_here))))))
    (λ c j i. absurd (not_err _ _ i)))))

pub declaration_faults : (first limit n : ℕ) → Below first limit n → (ts : List Leaf) (f : Fault)
    → declaration_by (within limit n) ts ≡ Err f → Viable (declarations limit n) first limit limit ts f
unfolding declaration_by
declaration_faults first limit n below ts f e =
    bind_fault (specs_by ts) _ f e
    (λ b. let v = specs_faults first limit ts f b in
    put_in v (t.declaration v.tree (t.init_declarator (t.declarator [] (some_name v.count) t.object) None) [] (spot_at (suc v.count)))
    (suc (suc v.count)) (λ rest. name_leaf v.count ∷ mark (spot_at (suc v.count)) Semicolon ∷ rest) (v.is, ((tt, tt), tt), tt)
    (λ rest q. (refl, (refl, q))) (λ rest. v.agree _) (λ rest place h. absurd h))
    (λ s ok g.
    let one = specs_are ts s ok in
    at one.0
    (bind_fault (declarator_by (within limit n) s.1) _ f g
    (λ b. let v = declarator_faults first limit n below s.1 f b in
    put_in v (t.declaration s.0 (t.init_declarator v.tree None) [] (spot_at v.count)) (suc v.count)
    (λ rest. mark (spot_at v.count) Semicolon ∷ rest) (one.1, (v.is, tt), tt) (λ rest q. (refl, q)) (λ rest. past_specs s.0 (v.agree _))
    (λ rest place h. inl (inl h)))
    (λ d k h.
    let two = declarator_is (within limit n) (sound_within limit n) s.1 d k in
    at (ap (of_specs s.0) two.0) (declared_faults first limit n below s.0 d.0 d.1 f one.1 two.1 h))))

-- ---- members

pub members_faults : (first limit n : ℕ) → Below first limit n → (ts : List Leaf) (f : Fault) → members_by (within limit n) ts ≡ Err f
    → Viable (member_kind limit n) first limit limit ts f
unfolding members_by
members_faults first limit n below ts f e =
    bind_fault (specs_by ts) _ f e
    (λ b. let v = specs_faults first limit ts f b in
    put_in v (t.members v.tree (t.declarator [] (some_name v.count) t.object) [] (spot_at (suc v.count))) (suc (suc v.count))
    (λ rest. name_leaf v.count ∷ mark (spot_at (suc v.count)) Semicolon ∷ rest) (v.is, (tt, tt), tt) (λ rest q. (refl, (refl, q)))
    (λ rest. v.agree _) (λ rest place h. absurd h))
    (λ s ok g.
    let one = specs_are ts s ok in
    at one.0
    (bind_fault (declarator_by (within limit n) s.1) _ f g
    (λ b. let v = declarator_faults first limit n below s.1 f b in
    put_in v (t.members s.0 v.tree [] (spot_at v.count)) (suc v.count) (λ rest. mark (spot_at v.count) Semicolon ∷ rest) (one.1, v.is, tt)
    (λ rest q. (refl, q)) (λ rest. past_specs s.0 (v.agree _)) (λ rest place h. inl h))
    (λ d k h.
    let two = declarator_is (within limit n) (sound_within limit n) s.1 d k in
    let sound = comma_item_is t.next_declarator (declarator_by (within limit n)) of_declarator Is_declarator of_next_declarator
    Is_next_declarator (declarator_is (within limit n) (sound_within limit n)) (λ s x rest. refl) (λ s x is. is) in
    at (ap (of_specs s.0) two.0)
    (bind_fault (many (behind_comma t.next_declarator (declarator_by (within limit n))) d.1) _ f h
    (λ b. let v = many_viable (next_declarators limit n) first limit
    (behind_comma t.next_declarator (declarator_by (within limit n))) past_next_declarator sound
    (comma_faults (declarators limit n) (next_declarators limit n) first limit t.next_declarator (declarator_by (within limit n))
    (λ us c g. declarator_faults first limit n below us c g) (λ s x is. is) (λ s x rest. refl) (λ s x rest place h. h)) d.1 f b in
    put_in v (t.members s.0 d.0 v.tree (spot_at v.count)) (suc v.count) (λ rest. mark (spot_at v.count) Semicolon ∷ rest)
    (one.1, two.1, v.is) (λ rest q. (refl, q)) (λ rest. past_specs s.0 (past_declarator d.0 (v.agree _))) (λ rest place h. inr h))
    (λ more j i.
    let others =
    many_is of_next_declarator Is_next_declarator (behind_comma t.next_declarator (declarator_by (within limit n))) sound d.1 more j in
    bind_fault (expected Semicolon more.1) _ f i
    (λ b. at (ap (λ z. of_specs s.0 (of_declarator d.0 z)) others.0)
    (stop (expected_fault Semicolon more.1 f b) (t.members s.0 d.0 more.0 (spot_at first)) (suc first)
    (λ rest. mark (spot_at first) Semicolon ∷ rest) (one.1, two.1, others.1) (λ rest q. (refl, q))
    (λ rest. past_specs s.0 (past_declarator d.0 (past_list of_next_declarator past_next_declarator more.0 from_here)))))
    (λ c y z. absurd (not_err _ _ z)))))))

pub members_item_faults : (first limit n : ℕ) → Below first limit n
    → FaultsAt (member_kind limit n) first limit (members_at (within limit n))
unfolding members_at
members_item_faults first limit n below ts r f o b =
    let w = when_some (leaf_if (word_if starts_specs) ts) _ _ o in
    members_faults first limit n below ts f (some_is _ _ w.2 ∙ b)
