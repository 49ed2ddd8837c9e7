-- A fault in an expression, completed.
use Rattle.std.proofs.Common.{◌≡◌, ℕ, zero, suc, ◌+◌, ◌<◌, ◌≤◌, List, ◌∷◌, length, true, Ok, Err, Some, refl, ap, ◌∙◌, arith, inl, inr, ◌⊎◌}
use Rattle.std.proofs.Common.{subst}
use Rattle.ec_grammar.specs.declared.token.PunctKind.{PunctKind}
use Rattle.ec_grammar.specs.declared.token.PunctKind.TheVariants.{LeftParenthesis, RightParenthesis, LeftBracket, RightBracket}
use Rattle.ec_grammar.specs.declared.Spot.{Spot}
use Rattle.ec_grammar.specs.declared.Operation.{Operation}
use Rattle.ec_grammar.specs.Tokens as tokens
use Rattle.ec_grammar.specs.Trees as t
use Rattle.ec_grammar.specs.Trees.{Leaf}
use Rattle.ec_grammar.specs.Spelling.{leaf, mark, of_identifier, of_expression, of_assignment, of_postfix, of_arguments, of_further}
use Rattle.ec_grammar.specs.Spelling.{lexeme_of_operation}
use Rattle.ec_grammar.specs.Grammar.{is_step, is_access, Is_postfix}
use Rattle.ec_grammar.specs.Nesting as nest
use Rattle.ec_parse_laws.specs.Reading.{Fault, Read, ◌>>=◌, leaf_if, punct_if, name_of, constant_of, operation_of, taken, expected}
use Rattle.ec_parse_laws.specs.Reading.{identifier, many, ends, inside, chain, pair, argument_at, further_by, arguments_by, operation_by}
use Rattle.ec_parse_laws.specs.Reading.{primary_by, index_by, call_by, member_by, suffix_by, suffixes_by, postfix_by, assignment_by}
use Rattle.ec_parse_laws.specs.Reading.{expression_by, opened_at, within}
use Rattle.ec_parse_laws.specs.Passing.{Opened, High, PassesFurther, PassesPrimary, PassesPostfix}
use Rattle.ec_parse_laws.proofs.Basics.{some_is, when_some, ends_ok, bind_ok, punct_is, taken_is, expected_is, name_is, identifier_is}
use Rattle.ec_parse_laws.proofs.Basics.{constant_is, operation_is, inner_at}
use Rattle.ec_parse_laws.proofs.Expressions.{of_pair}
use Rattle.ec_parse_laws.proofs.Sound.{Is_pair, comma_item_is, further_is, arguments_are, primary_is, suffix_is, assignment_is}
use Rattle.ec_parse_laws.proofs.Sound.{expression_is}
use Rattle.ec_parse_laws.proofs.SoundUnits.{sound_within}
use Rattle.ec_parse_laws.proofs.Fitting.{inside_within, further_keeps, arguments_keep, primary_keeps, suffix_keeps}
use Rattle.ec_parse_laws.proofs.Fits.{fits_below}
use Rattle.ec_parse_laws.proofs.Agreeing.{Agree, from_here, past, past_identifier, past_expression, past_assignment, past_postfix}
use Rattle.ec_parse_laws.proofs.Agreeing.{past_arguments, past_further}
use Rattle.ec_parse_laws.proofs.Completing.{err_is, not_err, bind_fault, when_fault, expected_fault, identifier_fault, spot_at, Viable, Row}
use Rattle.ec_parse_laws.proofs.Completing.{at, stop, opens, ended, put_in, become, row_viable, comma_faults}
use Rattle.ec_parse_laws.proofs.Shortest.{Faulty, Below, assignments, postfixes, arguments_kind, further_kind, pairs, primaries, some_name}
use Rattle.ec_parse_laws.proofs.Shortest.{name_leaf, zero_leaf, zero_expression}

-- ---- arguments

further_row : (limit m : ℕ) → Row (pairs limit m) (further_kind limit m)
further_row limit m = record {
  nil = t.no_further;
  cons = λ x xs. t.further x.0 x.1 xs;
  is_nil = tt;
  is_cons = λ x xs a b. (a, b);
  spell_nil = λ rest. refl;
  spell_cons = λ x xs rest. refl;
  one = λ x rest place p. inl p;
  others = λ x xs rest place p. inr p;
}

further_faults : (first limit m : ℕ) → Faulty first limit m → (ts : List Leaf) (f : Fault) → further_by (inner_at limit m) ts ≡ Err f
    → Viable (further_kind limit m) first limit limit ts f
unfolding further_by
further_faults first limit m below ts f e =
    bind_fault (many (argument_at (inner_at limit m)) ts) _ f e
    (λ b. row_viable (pairs limit m) (further_kind limit m) (further_row limit m) first limit (argument_at (inner_at limit m))
    (λ x a b us vs g. past _ (past_assignment x.1 g))
    (comma_item_is pair (assignment_by (within limit m) limit) of_assignment _ of_pair Is_pair
    (λ us y g. assignment_is (within limit m) (sound_within limit m) limit us y g) (λ s x rest. refl) (λ s x is. is))
    (comma_faults (assignments limit m) (pairs limit m) first limit pair (assignment_by (within limit m) limit)
    (λ us d g. below.assignment limit us d (omega arith) g) (λ s x is. is) (λ s x rest. refl) (λ s x rest place p. p)) ts f b)
    (λ xs k g. absurd (not_err _ _ g))

arguments_faults : (first limit m : ℕ) → Faulty first limit m → (ts : List Leaf) (f : Fault) → arguments_by (inner_at limit m) ts ≡ Err f
    → Viable (arguments_kind limit m) first limit limit ts f
unfolding arguments_by
arguments_faults first limit m below ts f e =
    when_fault (taken RightParenthesis ts) _ _ _ e (λ r o g. absurd (not_err _ _ g))
    (λ o g. bind_fault (assignment_by (within limit m) limit ts) _ f g
    (λ b. let v = below.assignment limit ts f (omega arith) b in
    put_in v (t.arguments v.tree t.no_further) v.count (λ rest. rest) (v.is, tt) (λ rest q. q) (λ rest. v.agree rest)
    (λ rest place p. inl p))
    (λ a ok h. bind_fault (further_by (inner_at limit m) a.1) _ f h
    (λ b.
    let made = assignment_is (within limit m) (sound_within limit m) limit ts a ok in
    let v = further_faults first limit m below a.1 f b in
    at made.0 (put_in v (t.arguments a.0 v.tree) v.count (λ rest. rest) (made.1, v.is) (λ rest q. q)
    (λ rest. past_assignment a.0 (v.agree rest)) (λ rest place p. inr p)))
    (λ xs k l. absurd (not_err _ _ l))))

-- ---- primary expressions

operation_passes : (limit left : ℕ) (s : Spot) (op : Operation) (l : Spot) (n : t.Identifier) (more : t.Further) (r : Spot)
    (rest : List Leaf) (place : ℕ)
    → Opened left (suc (length (of_identifier n (of_further more (mark r RightParenthesis ∷ rest))))) place
    (λ m. PassesFurther limit m more (mark r RightParenthesis ∷ rest) place) ⊎ High limit (suc (nest.height_further more)) rest place
    → PassesPrimary limit left (t.operation s op l n more r) rest place
operation_passes limit left s op l (t.identifier i n) more r rest place p = p

-- what follows the parenthesis of an operation on ports
operation_inside : (first limit n : ℕ) → Below first limit n
    → (room : ℕ) (s : Spot) (op : Operation) (l : Spot) (ts : List Leaf) (f : Fault)
    → inside (within limit n) ts (λ i. identifier ts >>= λ n. further_by i n.1 >>= λ more. expected RightParenthesis more.1
    >>= λ r. ends room (suc (nest.height_further more.0)) (t.operation s op l n.0 more.0 r.0) r.1) ≡ Err f
    → Viable (primaries limit n) first limit room (leaf s (lexeme_of_operation op) ∷ mark l LeftParenthesis ∷ ts) f
unfolding opened_at
operation_inside first limit zero below room s op l ts f e =
    opens (err_is _ _ e) (t.operation s op l (some_name first) t.no_further (spot_at (suc first))) (suc (suc first))
    (λ rest. name_leaf first ∷ mark (spot_at (suc first)) RightParenthesis ∷ rest) tt (λ rest q. (refl, (refl, q)))
    (λ rest. past _ from_here) (λ rest. inl refl)
operation_inside first limit (suc m) below room s op l ts f e =
    bind_fault (identifier ts) _ f e
    (λ b. stop (identifier_fault ts f b) (t.operation s op l (some_name first) t.no_further (spot_at (suc first))) (suc (suc first))
    (λ rest. name_leaf first ∷ mark (spot_at (suc first)) RightParenthesis ∷ rest) tt (λ rest q. (refl, (refl, q)))
    (λ rest. past _ (past _ from_here)))
    (λ x named g. at (ap (λ z. leaf s (lexeme_of_operation op) ∷ mark l LeftParenthesis ∷ z) (identifier_is ts x named))
    (bind_fault (further_by (inner_at limit m) x.1) _ f g
    (λ b. let v = further_faults first limit m (below m refl) x.1 f b in
    put_in v (t.operation s op l x.0 v.tree (spot_at v.count)) (suc v.count) (λ rest. mark (spot_at v.count) RightParenthesis ∷ rest) v.is
    (λ rest q. (refl, q)) (λ rest. past _ (past _ (past_identifier x.0 (v.agree _))))
    (λ rest place p. operation_passes limit (suc m) s op l x.0 v.tree (spot_at v.count) rest place (inl p)))
    (λ more ok h.
    let made = further_is (inner_at limit m) (sound_within limit (suc m) (inner_at limit m) refl) x.1 more ok in
    let kept = further_keeps limit m (fits_below limit (suc m) m refl) x.1 more ok in
    at (ap (λ z. leaf s (lexeme_of_operation op) ∷ mark l LeftParenthesis ∷ of_identifier x.0 z) made.0)
    (bind_fault (expected RightParenthesis more.1) _ f h
    (λ b. stop (expected_fault RightParenthesis more.1 f b) (t.operation s op l x.0 more.0 (spot_at first))
    (suc first) (λ rest. mark (spot_at first) RightParenthesis ∷ rest) made.1 (λ rest q. (refl, q))
    (λ rest. past _ (past _ (past_identifier x.0 (past_further more.0 from_here)))))
    (λ r is k. at (ap (λ z. leaf s (lexeme_of_operation op) ∷ mark l LeftParenthesis ∷ of_identifier x.0 (of_further more.0 z))
    (expected_is RightParenthesis more.1 r is))
    (ended (t.operation s op l x.0 more.0 r.0) r.1 k made.1 (λ rest. past _ (past _ (past_identifier x.0 (past_further more.0 from_here))))
    (omega (arith, kept.0)) (λ rest place p. operation_passes limit (suc m) s op l x.0 more.0 r.0 rest place (inr p))))))))

operation_faults : (first limit n : ℕ) → Below first limit n
    → (room : ℕ) (s : Spot) (op : Operation) (ts : List Leaf) (f : Fault) → operation_by (within limit n) room s op ts ≡ Err f
    → Viable (primaries limit n) first limit room (leaf s (lexeme_of_operation op) ∷ ts) f
unfolding operation_by
operation_faults first limit n below room s op ts f e =
    bind_fault (expected LeftParenthesis ts) _ f e
    (λ b. stop (expected_fault LeftParenthesis ts f b)
    (t.operation s op (spot_at first) (some_name (suc first)) t.no_further (spot_at (suc (suc first)))) (suc (suc (suc first)))
    (λ rest. mark (spot_at first) LeftParenthesis ∷ name_leaf (suc first) ∷ mark (spot_at (suc (suc first))) RightParenthesis ∷ rest) tt
    (λ rest q. (refl, (refl, (refl, q)))) (λ rest. past _ from_here))
    (λ l is g. at (ap (λ z. leaf s (lexeme_of_operation op) ∷ z) (expected_is LeftParenthesis ts l is))
    (operation_inside first limit n below room s op l.0 l.1 f g))

paren_faults : (first limit n : ℕ) → Below first limit n → (room : ℕ) (l : Spot) (ts : List Leaf) (f : Fault)
    → inside (within limit n) ts (λ i. i.expression i.limit ts
    >>= λ e. expected RightParenthesis e.1 >>= λ r. ends room (suc (nest.height_expression e.0)) (t.parenthesised l e.0 r.0) r.1) ≡ Err f
    → Viable (primaries limit n) first limit room (mark l LeftParenthesis ∷ ts) f
unfolding opened_at
paren_faults first limit zero below room l ts f e =
    opens (err_is _ _ e) (t.parenthesised l (zero_expression first) (spot_at (suc first))) (suc (suc first))
    (λ rest. zero_leaf first ∷ mark (spot_at (suc first)) RightParenthesis ∷ rest) tt (λ rest q. (refl, (refl, q))) (λ rest. from_here)
    (λ rest. inl refl)
paren_faults first limit (suc m) below room l ts f e =
    bind_fault (expression_by (within limit m) limit ts) _ f e
    (λ b. let v = (below m refl).expression limit ts f (omega arith) b in
    put_in v (t.parenthesised l v.tree (spot_at v.count)) (suc v.count) (λ rest. mark (spot_at v.count) RightParenthesis ∷ rest) v.is
    (λ rest q. (refl, q)) (λ rest. past _ (v.agree _)) (λ rest place p. inl p))
    (λ x ok g.
    let made = expression_is (within limit m) (sound_within limit m) limit ts x ok in
    let kept = (fits_below limit (suc m) m refl).expression limit ts x ok in
    at (ap (λ z. mark l LeftParenthesis ∷ z) made.0)
    (bind_fault (expected RightParenthesis x.1) _ f g
    (λ b. stop (expected_fault RightParenthesis x.1 f b) (t.parenthesised l x.0 (spot_at first)) (suc first)
    (λ rest. mark (spot_at first) RightParenthesis ∷ rest) made.1 (λ rest q. (refl, q)) (λ rest. past _ (past_expression x.0 from_here)))
    (λ r is h. at (ap (λ z. mark l LeftParenthesis ∷ of_expression x.0 z) (expected_is RightParenthesis x.1 r is))
    (ended (t.parenthesised l x.0 r.0) r.1 h made.1 (λ rest. past _ (past_expression x.0 from_here)) (omega (arith, kept.0))
    (λ rest place p. inr p)))))

primary_faults : (first limit n : ℕ) → Below first limit n → (room : ℕ) (ts : List Leaf) (f : Fault)
    → primary_by (within limit n) room ts ≡ Err f → Viable (primaries limit n) first limit room ts f
unfolding primary_by
primary_faults first limit n below room ts f e =
    when_fault (taken LeftParenthesis ts) _ _ _ e
    (λ l o g. at (taken_is LeftParenthesis ts l o) (paren_faults first limit n below room l.0 l.2 f g))
    (λ o g. when_fault (leaf_if operation_of ts) _ _ _ g
    (λ x o h. at (operation_is ts x o) (operation_faults first limit n below room x.0 x.1 x.2 f h))
    (λ o h. when_fault (leaf_if constant_of ts) _ _ _ h
    (λ k o i. at (constant_is ts k o) (ended (t.constant k.0 k.1) k.2 i tt (λ rest. from_here) (omega arith) (λ rest place p. p)))
    (λ o i. when_fault (leaf_if name_of ts) _ _ _ i
    (λ x o j. at (name_is ts x o) (ended (t.name (t.identifier x.0 x.1)) x.2 j tt (λ rest. from_here) (omega arith) (λ rest place p. p)))
    (λ o j. stop (err_is _ _ j) (t.name (some_name first)) (suc first) (λ rest. name_leaf first ∷ rest) tt (λ rest q. (refl, q))
    (λ rest. from_here)))))

-- ---- postfix expressions

-- what a fault in a suffix is put behind
index_faults : (first limit n : ℕ) → Below first limit n → (room : ℕ) (p : t.Postfix) (l : Spot) (ts : List Leaf) (f : Fault) → Is_postfix p
    → nest.height_postfix p ≤ limit → index_by (within limit n) room p l ts ≡ Err f
    → Viable (postfixes limit n) first limit room (of_postfix p (mark l LeftBracket ∷ ts)) f
unfolding index_by opened_at
index_faults first limit zero below room p l ts f is_p low e =
    opens (err_is _ _ e) (t.index p l (zero_expression first) (spot_at (suc first))) (suc (suc first))
    (λ rest. zero_leaf first ∷ mark (spot_at (suc first)) RightBracket ∷ rest) (is_p, tt) (λ rest q. (refl, (refl, q)))
    (λ rest. past_postfix p from_here) (λ rest. inr (inl refl))
index_faults first limit (suc m) below room p l ts f is_p low e =
    bind_fault (expression_by (within limit m) limit ts) _ f e
    (λ b. let v = (below m refl).expression limit ts f (omega arith) b in
    put_in v (t.index p l v.tree (spot_at v.count)) (suc v.count) (λ rest. mark (spot_at v.count) RightBracket ∷ rest) (is_p, v.is)
    (λ rest q. (refl, q)) (λ rest. past_postfix p (past _ (v.agree _))) (λ rest place h. inr (inl h)))
    (λ x ok g.
    let made = expression_is (within limit m) (sound_within limit m) limit ts x ok in
    let kept = (fits_below limit (suc m) m refl).expression limit ts x ok in
    at (ap (λ z. of_postfix p (mark l LeftBracket ∷ z)) made.0)
    (bind_fault (expected RightBracket x.1) _ f g
    (λ b. stop (expected_fault RightBracket x.1 f b) (t.index p l x.0 (spot_at first)) (suc first)
    (λ rest. mark (spot_at first) RightBracket ∷ rest) (is_p, made.1) (λ rest q. (refl, q))
    (λ rest. past_postfix p (past _ (past_expression x.0 from_here))))
    (λ r is h. at (ap (λ z. of_postfix p (mark l LeftBracket ∷ of_expression x.0 z)) (expected_is RightBracket x.1 r is))
    (ended (t.index p l x.0 r.0) r.1 h (is_p, made.1) (λ rest. past_postfix p (past _ (past_expression x.0 from_here)))
    (omega (arith, kept.0, low)) (λ rest place h. inr (inr h))))))

call_faults : (first limit n : ℕ) → Below first limit n → (room : ℕ) (p : t.Postfix) (l : Spot) (ts : List Leaf) (f : Fault) → Is_postfix p
    → nest.height_postfix p ≤ limit → call_by (within limit n) room p l ts ≡ Err f
    → Viable (postfixes limit n) first limit room (of_postfix p (mark l LeftParenthesis ∷ ts)) f
unfolding call_by opened_at
call_faults first limit zero below room p l ts f is_p low e =
    opens (err_is _ _ e) (t.call p l t.no_arguments (spot_at first)) (suc first) (λ rest. mark (spot_at first) RightParenthesis ∷ rest)
    (is_p, tt) (λ rest q. (refl, q)) (λ rest. past_postfix p from_here) (λ rest. inr (inl refl))
call_faults first limit (suc m) below room p l ts f is_p low e =
    bind_fault (arguments_by (inner_at limit m) ts) _ f e
    (λ b. let v = arguments_faults first limit m (below m refl) ts f b in
    put_in v (t.call p l v.tree (spot_at v.count)) (suc v.count) (λ rest. mark (spot_at v.count) RightParenthesis ∷ rest) (is_p, v.is)
    (λ rest q. (refl, q)) (λ rest. past_postfix p (past _ (v.agree _))) (λ rest place h. inr (inl h)))
    (λ x ok g.
    let made = arguments_are (inner_at limit m) (sound_within limit (suc m) (inner_at limit m) refl) ts x ok in
    let kept = arguments_keep limit m (fits_below limit (suc m) m refl) ts x ok in
    at (ap (λ z. of_postfix p (mark l LeftParenthesis ∷ z)) made.0)
    (bind_fault (expected RightParenthesis x.1) _ f g
    (λ b. stop (expected_fault RightParenthesis x.1 f b) (t.call p l x.0 (spot_at first)) (suc first)
    (λ rest. mark (spot_at first) RightParenthesis ∷ rest) (is_p, made.1) (λ rest q. (refl, q))
    (λ rest. past_postfix p (past _ (past_arguments x.0 from_here))))
    (λ r is h. at (ap (λ z. of_postfix p (mark l LeftParenthesis ∷ of_arguments x.0 z)) (expected_is RightParenthesis x.1 r is))
    (ended (t.call p l x.0 r.0) r.1 h (is_p, made.1) (λ rest. past_postfix p (past _ (past_arguments x.0 from_here)))
    (omega (arith, kept.0, low)) (λ rest place h. inr (inr h))))))

member_passes : (limit left : ℕ) (p : t.Postfix) (s : Spot) (op : PunctKind) (n : t.Identifier) (rest : List Leaf) (place : ℕ)
    → High limit (suc (nest.height_postfix p)) rest place → PassesPostfix limit left (t.member p s op n) rest place
member_passes limit left p s op (t.identifier i n) rest place h = inr h

-- the leaf of a name
abbrev leaf_of : t.Identifier → Leaf
leaf_of (t.identifier s n) = leaf s (tokens.name n)

named_last : (n : t.Identifier) {more other : List Leaf}
    → Agree (leaf_of n ∷ more) (leaf_of n ∷ other) (of_identifier n more) (of_identifier n other)
named_last (t.identifier s n) = from_here

member_faults : (first limit n room : ℕ) (p : t.Postfix) (s : Spot) (op : PunctKind) (ts : List Leaf) (f : Fault) → Is_postfix p
    → is_access op ≡ true → nest.height_postfix p ≤ limit → member_by room p s op ts ≡ Err f
    → Viable (postfixes limit n) first limit room (of_postfix p (mark s op ∷ ts)) f
unfolding member_by
member_faults first limit n room p s op ts f is_p is_op low e =
    bind_fault (identifier ts) _ f e
    (λ b. stop (identifier_fault ts f b) (t.member p s op (some_name first)) (suc first) (λ rest. name_leaf first ∷ rest) (is_p, is_op)
    (λ rest q. (refl, q)) (λ rest. past_postfix p (past _ from_here)))
    (λ x named g. at (ap (λ z. of_postfix p (mark s op ∷ z)) (identifier_is ts x named))
    (ended (t.member p s op x.0) x.1 g (is_p, is_op) (λ rest. past_postfix p (past _ (named_last x.0))) (omega (arith, low))
    (λ rest place h. member_passes limit n p s op x.0 rest place h)))

suffix_faults : (first limit n : ℕ) → Below first limit n → (room : ℕ) (p : t.Postfix) (ts : List Leaf) (r : Read t.Postfix) (f : Fault)
    → Is_postfix p → nest.height_postfix p ≤ limit → suffix_by (within limit n) room p ts ≡ Some r → r ≡ Err f
    → Viable (postfixes limit n) first limit room (of_postfix p ts) f
unfolding suffix_by
suffix_faults first limit n below room p ts r f is_p low e b =
    when_fault (taken LeftBracket ts) _ _ _ e (λ l o g.
    at (ap (of_postfix p) (taken_is LeftBracket ts l o)) (index_faults first limit n below room p l.0 l.2 f is_p low (some_is _ _ g ∙ b)))
    (λ o g. when_fault (taken LeftParenthesis ts) _ _ _ g (λ l o h. at (ap (of_postfix p) (taken_is LeftParenthesis ts l o))
    (call_faults first limit n below room p l.0 l.2 f is_p low (some_is _ _ h ∙ b)))
    (λ o h. when_fault (leaf_if (punct_if is_access) ts) _ _ _ h
    (λ d o i. let found = punct_is is_access ts d o in
    at (ap (of_postfix p) found.0) (member_faults first limit n room p d.0 d.1 d.2 f is_p found.1 low (some_is _ _ i ∙ b)))
    (λ o i.
    let d = when_some (leaf_if (punct_if is_step) ts) _ _ i in
    let found = punct_is is_step ts d.0 d.1 in
    at (ap (of_postfix p) found.0) (ended (t.stepped p d.0.0 d.0.1) d.0.2 (some_is _ _ d.2 ∙ b) (is_p, found.1)
    (λ rest. past_postfix p from_here) (omega (arith, low)) (λ rest place h. inr h)))))

-- a suffix makes an expression higher
higher_than : (p : t.Postfix) (q : t.Postfix) (y : t.Postfix × List Leaf) (rest : List Leaf) → (q, rest) ≡ y
    → nest.height_postfix p < nest.height_postfix q → nest.height_postfix p < nest.height_postfix y.0
higher_than p q y rest e lt = subst (λ (y : t.Postfix × List Leaf). nest.height_postfix p < nest.height_postfix y.0) e lt

suffix_grows : (limit n room : ℕ) (p : t.Postfix) (ts : List Leaf) (r : Read t.Postfix) (y : t.Postfix × List Leaf)
    → suffix_by (within limit n) room p ts ≡ Some r → r ≡ Ok y → nest.height_postfix p < nest.height_postfix y.0
unfolding suffix_by index_by call_by member_by
suffix_grows limit n room p ts r y e ok =
    when_fault (taken LeftBracket ts) _ _ _ e
    (λ l o g.
    let i = inside_within limit n l.2 _ _ (some_is _ _ g ∙ ok) in
    let x = bind_ok (expression_by (within limit i.0) limit l.2) _ _ i.2 in
    let k = bind_ok (expected RightBracket x.0.1) _ _ x.2 in
    higher_than p _ y _ (ends_ok _ _ _ _ _ k.2) (omega arith))
    (λ o g. when_fault (taken LeftParenthesis ts) _ _ _ g
    (λ l o h.
    let i = inside_within limit n l.2 _ _ (some_is _ _ h ∙ ok) in
    let x = bind_ok (arguments_by (inner_at limit i.0) l.2) _ _ i.2 in
    let k = bind_ok (expected RightParenthesis x.0.1) _ _ x.2 in
    higher_than p _ y _ (ends_ok _ _ _ _ _ k.2) (omega arith))
    (λ o h. when_fault (leaf_if (punct_if is_access) ts) _ _ _ h
    (λ d o i.
    let x = bind_ok (identifier d.2) _ _ (some_is _ _ i ∙ ok) in
    higher_than p _ y _ (ends_ok _ _ _ _ _ x.2) (omega arith))
    (λ o i.
    let d = when_some (leaf_if (punct_if is_step) ts) _ _ i in
    higher_than p _ y _ (ends_ok _ _ _ _ _ (some_is _ _ d.2 ∙ ok)) (omega arith))))

suffixes_fault : (first limit n : ℕ) → Below first limit n → (room k : ℕ) (p : t.Postfix) (ts : List Leaf) (f : Fault) → room ≤ limit
    → Is_postfix p → nest.height_postfix p ≤ room → nest.opens_postfix p ≤ n → suc (suc limit) ≤ k + nest.height_postfix p
    → suffixes_by (within limit n) room k p ts ≡ Err f → Viable (postfixes limit n) first limit room (of_postfix p ts) f
unfolding suffixes_by
suffixes_fault first limit n below room zero p ts f le is_p low few many e = absurd (omega (arith, le, low, many))
suffixes_fault first limit n below room (suc k) p ts f le is_p low few many e =
    when_fault (suffix_by (within limit n) room p ts) _ _ _ e
    (λ r o g. bind_fault r _ f g
    (λ b. suffix_faults first limit n below room p ts r f is_p (omega (arith, low, le)) o b)
    (λ q ok h.
    let made = suffix_is (within limit n) (sound_within limit n) room p ts r q is_p o ok in
    let kept = suffix_keeps limit n (fits_below limit n) room p few ts r q o ok in
    at made.0 (suffixes_fault first limit n below room k q.0 q.1 f le made.1 kept.0 kept.1
    (omega (arith, many, suffix_grows limit n room p ts r q o ok)) h)))
    (λ o g. absurd (not_err _ _ g))

pub postfix_faults : (first limit n : ℕ) → Below first limit n → (room : ℕ) (ts : List Leaf) (f : Fault) → room ≤ limit
    → postfix_by (within limit n) room ts ≡ Err f → Viable (postfixes limit n) first limit room ts f
unfolding postfix_by
postfix_faults first limit n below room ts f le e =
    bind_fault (primary_by (within limit n) room ts) _ f e
    (λ b. let v = primary_faults first limit n below room ts f b in
    become v (t.primary v.tree) v.is (λ rest. v.agree rest) refl (λ rest place p. p))
    (λ p ok g.
    let made = primary_is (within limit n) (sound_within limit n) room ts p ok in
    let kept = primary_keeps limit n (fits_below limit n) room ts p ok in
    at made.0
    (suffixes_fault first limit n below room (chain (within limit n)) (t.primary p.0) p.1 f le made.1 kept.0 kept.1 (omega arith) g))
