-- A fault in an expression, completed: from unary expressions to commas.
use Rattle.std.proofs.Common.{◌≡◌, ℕ, zero, suc, ◌-◌, ◌+◌, ◌≤◌, List, ◌∷◌, length, true, Ok, Err, refl, ap, ◌∙◌, arith, inl, inr, subst}
use Rattle.std.specs.Prelude.{max}
use Rattle.std.proofs.lemmas.Bool.{eqb-true}
use Rattle.ec_grammar.specs.declared.token.WordKind.TheVariants as words
use Rattle.ec_grammar.specs.declared.token.PunctKind.{PunctKind}
use Rattle.ec_grammar.specs.declared.token.PunctKind.TheVariants.{LeftParenthesis, RightParenthesis, Comma, Question, Colon}
use Rattle.ec_grammar.specs.declared.Spot.{Spot}
use Rattle.ec_grammar.specs.Trees as t
use Rattle.ec_grammar.specs.Trees.{Leaf}
use Rattle.ec_grammar.specs.Spelling.{mark, word, of_type_name, of_expression, of_conditional, of_binary, of_unary}
use Rattle.ec_grammar.specs.Grammar.{level_of, rank, is_assign, is_step, is_prefix, Is_expression, Is_conditional, Is_binary, Is_unary}
use Rattle.ec_grammar.specs.Nesting as nest
use Rattle.ec_parse_laws.specs.Reading.{Fault, ◌>>=◌, leaf_if, punct_if, taken, taken_word, expected, starts_lexeme, ends, inside}
use Rattle.ec_parse_laws.specs.Reading.{room_after, chain, at_level, type_name_by, postfix_by, size_by, unary_by, cast_at, cast_by}
use Rattle.ec_parse_laws.specs.Reading.{joins_by, binary_by, choice_by, conditional_by, unary_of, assigned_by, assignment_by, commas_by}
use Rattle.ec_parse_laws.specs.Reading.{expression_by, opened_at, within}
use Rattle.ec_parse_laws.proofs.Basics.{punct_is, taken_is, taken_word_is, expected_is, after_le}
use Rattle.ec_parse_laws.proofs.Sound.{type_name_is, cast_open_is, binary_is, conditional_is, unary_of_is, assignment_is, expression_is}
use Rattle.ec_parse_laws.proofs.SoundUnits.{sound_within}
use Rattle.ec_parse_laws.proofs.Fitting.{after_room, assignment_high, binary_high}
use Rattle.ec_parse_laws.proofs.Fits.{fits_expression, fits_assignment, fits_conditional, fits_binary}
use Rattle.ec_parse_laws.proofs.Agreeing.{Agree, from_here, past, past_type_name, past_expression, past_binary, past_unary}
use Rattle.ec_parse_laws.proofs.Completing.{err_is, not_err, bind_fault, when_fault, expected_fault, spot_at, Viable, at, stop, opens}
use Rattle.ec_parse_laws.proofs.Completing.{ended, put_in, become, put_last, behind_grows}
use Rattle.ec_parse_laws.proofs.Shortest.{Below, expressions, assignments, conditionals, binaries, casts, unaries, int_leaf, int_type}
use Rattle.ec_parse_laws.proofs.Shortest.{zero_leaf, zero_cast, zero_unary, zero_conditional, zero_assignment, zero_expression}
use Rattle.ec_parse_laws.proofs.Shortest.{begun_assignment, begun_expression, begun_fault}
use Rattle.ec_parse_laws.proofs.ViableTypes.{type_name_faults}
use Rattle.ec_parse_laws.proofs.ViableExpressions.{postfix_faults}

-- ---- unary expressions

size_inside : (first limit n room : ℕ) (s l : Spot) (ts : List Leaf) (f : Fault)
    → inside (within limit n) ts
    (λ i. type_name_by ts >>= λ ty. expected RightParenthesis ty.1 >>= λ r. ends room 1 (t.size s l ty.0 r.0) r.1) ≡ Err f
    → Viable (unaries limit n) first limit room (word s words.Sizeof ∷ mark l LeftParenthesis ∷ ts) f
unfolding opened_at
size_inside first limit zero room s l ts f e =
    opens (err_is _ _ e) (t.size s l (int_type first) (spot_at (suc first))) (suc (suc first))
    (λ rest. int_leaf first ∷ mark (spot_at (suc first)) RightParenthesis ∷ rest) ((refl, tt), tt) (λ rest q. (refl, (refl, q)))
    (λ rest. past _ from_here) (λ rest. inl refl)
size_inside first limit (suc m) room s l ts f e =
    bind_fault (type_name_by ts) _ f e
    (λ b. let v = type_name_faults first limit ts f b in
    put_in v (t.size s l v.tree (spot_at v.count)) (suc v.count) (λ rest. mark (spot_at v.count) RightParenthesis ∷ rest) v.is
    (λ rest q. (refl, q)) (λ rest. past _ (past _ (v.agree _))) (λ rest place h. absurd h))
    (λ ty ok g.
    let made = type_name_is ts ty ok in
    at (ap (λ z. word s words.Sizeof ∷ mark l LeftParenthesis ∷ z) made.0)
    (bind_fault (expected RightParenthesis ty.1) _ f g
    (λ b. stop (expected_fault RightParenthesis ty.1 f b) (t.size s l ty.0 (spot_at first)) (suc first) (λ rest.
    mark (spot_at first) RightParenthesis ∷ rest) made.1 (λ rest q. (refl, q)) (λ rest. past _ (past _ (past_type_name ty.0 from_here))))
    (λ r is h. at (ap (λ z. word s words.Sizeof ∷ mark l LeftParenthesis ∷ of_type_name ty.0 z) (expected_is RightParenthesis ty.1 r is))
    (ended (t.size s l ty.0 r.0) r.1 h made.1 (λ rest. past _ (past _ (past_type_name ty.0 from_here))) (omega arith)
    (λ rest place h. inr h)))))

size_faults : (first limit n room : ℕ) (s : Spot) (ts : List Leaf) (f : Fault) → size_by (within limit n) room s ts ≡ Err f
    → Viable (unaries limit n) first limit room (word s words.Sizeof ∷ ts) f
unfolding size_by
size_faults first limit n room s ts f e =
    bind_fault (expected LeftParenthesis ts) _ f e
    (λ b. stop (expected_fault LeftParenthesis ts f b) (t.size s (spot_at first) (int_type (suc first)) (spot_at (suc (suc first))))
    (suc (suc (suc first)))
    (λ rest. mark (spot_at first) LeftParenthesis ∷ int_leaf (suc first) ∷ mark (spot_at (suc (suc first))) RightParenthesis ∷ rest)
    ((refl, tt), tt) (λ rest q. (refl, (refl, (refl, q)))) (λ rest. past _ from_here))
    (λ l is g. at (ap (λ z. word s words.Sizeof ∷ z) (expected_is LeftParenthesis ts l is)) (size_inside first limit n room s l.0 l.1 f g))

prefix_faults : (first limit n : ℕ) → Below first limit n → (room : ℕ) (s : Spot) (op : PunctKind) (ts : List Leaf) (f : Fault)
    → room ≤ limit → is_prefix op ≡ true
    → inside (within limit n) ts (λ i. i.cast (room - 1) ts >>= λ c. Ok (t.prefix s op c.0, c.1)) ≡ Err f
    → Viable (unaries limit n) first limit room (mark s op ∷ ts) f
unfolding opened_at
prefix_faults first limit zero below room s op ts f le is_op e =
    opens (err_is _ _ e) (t.prefix s op (zero_cast first)) (suc first) (λ rest. zero_leaf first ∷ rest) (is_op, tt) (λ rest q. (refl, q))
    (λ rest. from_here) (λ rest. inl refl)
prefix_faults first limit (suc m) below room s op ts f le is_op e =
    bind_fault (cast_by (within limit m) (room - 1) ts) _ f e
    (λ b. let v = (below m refl).cast (room - 1) ts f (omega (arith, le)) b in
    put_last v (t.prefix s op v.tree) (is_op, v.is) (λ rest. past _ (v.agree rest)) (λ lt. omega (arith, lt)) (omega arith)
    (λ rest place h. inl h) (λ rest place h. inr h))
    (λ c k g. absurd (not_err _ _ g))

step_faults : (first limit n : ℕ) → Below first limit n → (room : ℕ) (s : Spot) (op : PunctKind) (ts : List Leaf) (f : Fault) → room ≤ limit
    → is_step op ≡ true
    → inside (within limit n) ts (λ i. i.unary (room - 1) ts >>= λ u. Ok (t.step s op u.0, u.1)) ≡ Err f
    → Viable (unaries limit n) first limit room (mark s op ∷ ts) f
unfolding opened_at
step_faults first limit zero below room s op ts f le is_op e =
    opens (err_is _ _ e) (t.step s op (zero_unary first)) (suc first) (λ rest. zero_leaf first ∷ rest) (is_op, tt) (λ rest q. (refl, q))
    (λ rest. from_here) (λ rest. inl refl)
step_faults first limit (suc m) below room s op ts f le is_op e =
    bind_fault (unary_by (within limit m) (room - 1) ts) _ f e
    (λ b. let v = (below m refl).unary (room - 1) ts f (omega (arith, le)) b in
    put_last v (t.step s op v.tree) (is_op, v.is) (λ rest. past _ (v.agree rest)) (λ lt. omega (arith, lt)) (omega arith)
    (λ rest place h. inl h) (λ rest place h. inr h))
    (λ c k g. absurd (not_err _ _ g))

pub unary_faults : (first limit n : ℕ) → Below first limit n → (room : ℕ) (ts : List Leaf) (f : Fault) → room ≤ limit
    → unary_by (within limit n) room ts ≡ Err f → Viable (unaries limit n) first limit room ts f
unfolding unary_by
unary_faults first limit n below room ts f le e =
    when_fault (leaf_if (punct_if is_prefix) ts) _ _ _ e
    (λ op o g. let found = punct_is is_prefix ts op o in at found.0 (prefix_faults first limit n below room op.0 op.1 op.2 f le found.1 g))
    (λ o g. when_fault (leaf_if (punct_if is_step) ts) _ _ _ g
    (λ op o h. let found = punct_is is_step ts op o in at found.0 (step_faults first limit n below room op.0 op.1 op.2 f le found.1 h))
    (λ o h. when_fault (taken_word words.Sizeof ts) _ _ _ h
    (λ s o i. at (taken_word_is words.Sizeof ts s o) (size_faults first limit n room s.0 s.2 f i))
    (λ o i. bind_fault (postfix_by (within limit n) room ts) _ f i
    (λ b. let v = postfix_faults first limit n below room ts f le b in
    become v (t.postfix v.tree) v.is (λ rest. v.agree rest) refl (λ rest place h. h))
    (λ p k j. absurd (not_err _ _ j)))))

-- ---- casts

convert_faults : (first limit n : ℕ) → Below first limit n → (room : ℕ) (l : Spot) (ts : List Leaf) (f : Fault) → room ≤ limit
    → inside (within limit n) ts (λ i. type_name_by ts >>= λ ty. expected RightParenthesis ty.1 >>= λ r. i.cast (room - 1) r.1
    >>= λ c. Ok (t.convert l ty.0 r.0 c.0, c.1)) ≡ Err f → Viable (casts limit n) first limit room (mark l LeftParenthesis ∷ ts) f
unfolding opened_at
convert_faults first limit zero below room l ts f le e =
    opens (err_is _ _ e) (t.convert l (int_type first) (spot_at (suc first)) (zero_cast (suc (suc first)))) (suc (suc (suc first)))
    (λ rest. int_leaf first ∷ mark (spot_at (suc first)) RightParenthesis ∷ zero_leaf (suc (suc first)) ∷ rest)
    (((refl, tt), tt), tt) (λ rest q. (refl, (refl, (refl, q)))) (λ rest. from_here) (λ rest. inl refl)
convert_faults first limit (suc m) below room l ts f le e =
    bind_fault (type_name_by ts) _ f e
    (λ b. let v = type_name_faults first limit ts f b in
    put_in v (t.convert l v.tree (spot_at v.count) (zero_cast (suc v.count))) (suc (suc v.count))
    (λ rest. mark (spot_at v.count) RightParenthesis ∷ zero_leaf (suc v.count) ∷ rest) (v.is, tt) (λ rest q. (refl, (refl, q)))
    (λ rest. past _ (v.agree _)) (λ rest place h. absurd h))
    (λ ty ok g.
    let made = type_name_is ts ty ok in
    at (ap (λ z. mark l LeftParenthesis ∷ z) made.0)
    (bind_fault (expected RightParenthesis ty.1) _ f g
    (λ b. stop (expected_fault RightParenthesis ty.1 f b) (t.convert l ty.0 (spot_at first) (zero_cast (suc first))) (suc (suc first))
    (λ rest. mark (spot_at first) RightParenthesis ∷ zero_leaf (suc first) ∷ rest) (made.1, tt) (λ rest q. (refl, (refl, q)))
    (λ rest. past _ (past_type_name ty.0 from_here)))
    (λ r is h. at (ap (λ z. mark l LeftParenthesis ∷ of_type_name ty.0 z) (expected_is RightParenthesis ty.1 r is))
    (bind_fault (cast_by (within limit m) (room - 1) r.1) _ f h
    (λ b. let v = (below m refl).cast (room - 1) r.1 f (omega (arith, le)) b in
    put_last v (t.convert l ty.0 r.0 v.tree) (made.1, v.is) (λ rest. past _ (past_type_name ty.0 (past _ (v.agree rest))))
    (λ lt. omega (arith, lt)) (omega arith) (λ rest place h. inl h) (λ rest place h. inr h))
    (λ c k i. absurd (not_err _ _ i))))))

pub cast_faults : (first limit n : ℕ) → Below first limit n → (room : ℕ) (ts : List Leaf) (f : Fault) → room ≤ limit
    → cast_by (within limit n) room ts ≡ Err f → Viable (casts limit n) first limit room ts f
unfolding cast_by
cast_faults first limit n below room ts f le e =
    when_fault (cast_at ts) _ _ _ e (λ l o g. at (cast_open_is ts l o) (convert_faults first limit n below room l.0 l.2 f le g))
    (λ o g. bind_fault (unary_by (within limit n) room ts) _ f g
    (λ b. let v = unary_faults first limit n below room ts f le b in
    become v (t.uncast v.tree) v.is (λ rest. v.agree rest) refl (λ rest place h. h))
    (λ u k h. absurd (not_err _ _ h)))

-- ---- binary operators

joins_faults : (first limit n level : ℕ) → ((room : ℕ) (ts : List Leaf) (f : Fault) → room ≤ limit
    → binary_by (within limit n) level room ts ≡ Err f → Viable (binaries limit n level) first limit room ts f)
    → (room k : ℕ) (a : t.Binary) (ts : List Leaf) (f : Fault) → room ≤ limit → Is_binary a → rank a ≤ suc level
    → nest.height_binary a ≤ room → suc (suc limit) ≤ k + nest.height_binary a
    → joins_by (binary_by (within limit n) level) (suc level) room k a ts ≡ Err f
    → Viable (binaries limit n (suc level)) first limit room (of_binary a ts) f
unfolding joins_by
joins_faults first limit n level operand room zero a ts f le is rank_a low many e = absurd (omega (arith, le, low, many))
joins_faults first limit n level operand room (suc k) a ts f le is rank_a low many e =
    when_fault (leaf_if (punct_if (at_level (suc level))) ts) _ _ _ e
    (λ op o g.
    let found = punct_is (at_level (suc level)) ts op o in
    let is_level : level_of op.1 ≡ suc level = eqb-true _ _ found.1 in
    let small = room_after room (nest.height_binary a) in
    let fits : small ≤ limit = after_le room (nest.height_binary a) limit le in
    at (ap (of_binary a) found.0)
    (bind_fault (binary_by (within limit n) level small op.2) _ f g
    (λ b. let v = operand small op.2 f fits b in
    put_last v (t.join a op.0 op.1 v.tree)
    ((is, v.is.0, omega (arith, is_level, rank_a), omega (arith, is_level, v.is.1)), omega (arith, is_level))
    (λ rest. past_binary a (past _ (v.agree rest)))
    (λ lt. behind_grows room (nest.height_binary a) (nest.height_binary v.tree) lt) (omega (arith, low, le)) (λ rest place h. inr (inl h))
    (λ rest place h. inr (inr h)))
    (λ b ok h.
    let made = binary_is (within limit n) (sound_within limit n) level small op.2 b ok in
    let kept = fits_binary limit n small fits level op.2 b ok in
    at (ap (λ z. of_binary a (mark op.0 op.1 ∷ z)) made.0)
    (joins_faults first limit n level operand room k (t.join a op.0 op.1 b.0) b.1 f le
    (is, made.1, omega (arith, is_level, rank_a), omega (arith, is_level, made.2)) (omega (arith, is_level))
    (after_room room (nest.height_binary a) (nest.height_binary b.0) (binary_high b.0) kept.0) (omega (arith, many)) h))))
    (λ o g. absurd (not_err _ _ g))

binary_faults : (first limit n : ℕ) → Below first limit n → (level room : ℕ) (ts : List Leaf) (f : Fault) → room ≤ limit
    → binary_by (within limit n) level room ts ≡ Err f → Viable (binaries limit n level) first limit room ts f
unfolding binary_by
binary_faults first limit n below zero room ts f le e =
    bind_fault (cast_by (within limit n) room ts) _ f e
    (λ b. let v = cast_faults first limit n below room ts f le b in
    become v (t.operand v.tree) (v.is, omega arith) (λ rest. v.agree rest) refl (λ rest place h. h))
    (λ c k g. absurd (not_err _ _ g))
binary_faults first limit n below (suc level) room ts f le e =
    bind_fault (binary_by (within limit n) level room ts) _ f e
    (λ b. let v = binary_faults first limit n below level room ts f le b in
    become v v.tree (v.is.0, omega (arith, v.is.1)) (λ rest. v.agree rest) refl (λ rest place h. h))
    (λ a ok g.
    let made = binary_is (within limit n) (sound_within limit n) level room ts a ok in
    let kept = fits_binary limit n room le level ts a ok in
    at made.0 (joins_faults first limit n level (λ room ts f le e. binary_faults first limit n below level room ts f le e) room
    (chain (within limit n)) a.0 a.1 f le made.1 (omega (arith, made.2)) kept.0 (omega arith) g))

-- ---- conditionals

choice_faults : (first limit n : ℕ) → Below first limit n → (room : ℕ) (b : t.Binary) (q : Spot) (ts : List Leaf) (f : Fault) → room ≤ limit
    → Is_binary b → nest.height_binary b ≤ room → choice_by (within limit n) room b q ts ≡ Err f
    → Viable (conditionals limit n) first limit room (of_binary b (mark q Question ∷ ts)) f
unfolding choice_by opened_at
choice_faults first limit zero below room b q ts f le is low e = elim (begun_fault starts_lexeme ts f e) [
  | inl d ↦ stop d (t.choose b q (zero_expression first) (spot_at (suc first)) (zero_conditional (suc (suc first)))) (suc (suc (suc first)))
      (λ rest. zero_leaf first ∷ mark (spot_at (suc first)) Colon ∷ zero_leaf (suc (suc first)) ∷ rest) (is, tt, tt)
      (λ rest s. (refl, (refl, (refl, s)))) (λ rest. past_binary b (past _ from_here))
  | inr d ↦
      let v = begun_expression limit zero first d.0 d.3 in
      at (ap (λ z. of_binary b (mark q Question ∷ z)) d.2)
      (opens d.4 (t.choose b q v.tree (spot_at v.count) (zero_conditional (suc v.count))) (suc (suc v.count))
      (λ rest. v.end (mark (spot_at v.count) Colon ∷ zero_leaf (suc v.count) ∷ rest)) (is, v.is, tt) (λ rest s. v.spots _ (refl, (refl, s)))
      (λ rest. subst (λ z. Agree (d.0 ∷ d.1) (d.0 ∷ v.end (mark (spot_at v.count) Colon ∷ zero_leaf (suc v.count) ∷ rest))
      (of_binary b (mark q Question ∷ d.0 ∷ d.1)) (of_binary b (mark q Question ∷ z))) (v.spelled _) (past_binary b (past _ from_here)))
      (λ rest. inr (inl (ap length (v.spelled _)))))
]
choice_faults first limit (suc m) below room b q ts f le is low e =
    bind_fault (expression_by (within limit m) limit ts) _ f e
    (λ d. let v = (below m refl).expression limit ts f (omega arith) d in
    put_in v (t.choose b q v.tree (spot_at v.count) (zero_conditional (suc v.count))) (suc (suc v.count))
    (λ rest. mark (spot_at v.count) Colon ∷ zero_leaf (suc v.count) ∷ rest) (is, v.is, tt) (λ rest s. (refl, (refl, s)))
    (λ rest. past_binary b (past _ (v.agree _))) (λ rest place h. inr (inl (inl h))))
    (λ x ok g.
    let made = expression_is (within limit m) (sound_within limit m) limit ts x ok in
    let kept = fits_expression limit m limit (omega arith) ts x ok in
    at (ap (λ z. of_binary b (mark q Question ∷ z)) made.0)
    (bind_fault (expected Colon x.1) _ f g
    (λ d. stop (expected_fault Colon x.1 f d) (t.choose b q x.0 (spot_at first) (zero_conditional (suc first))) (suc (suc first))
    (λ rest. mark (spot_at first) Colon ∷ zero_leaf (suc first) ∷ rest) (is, made.1, tt) (λ rest s. (refl, (refl, s)))
    (λ rest. past_binary b (past _ (past_expression x.0 from_here))))
    (λ k is_k h.
    let before = max (nest.height_binary b) (nest.height_expression x.0) in
    at (ap (λ z. of_binary b (mark q Question ∷ of_expression x.0 z)) (expected_is Colon x.1 k is_k))
    (bind_fault (conditional_by (within limit m) (room_after room before) k.1) _ f h
    (λ d. let v = (below m refl).conditional (room_after room before) k.1 f (after_le room before limit le) d in
    put_last v (t.choose b q x.0 k.0 v.tree) (is, made.1, v.is)
    (λ rest. past_binary b (past _ (past_expression x.0 (past _ (v.agree rest)))))
    (λ lt. behind_grows room before (nest.height_conditional v.tree) lt) (omega (arith, low, le, kept.0))
    (λ rest place h. inr (inl (inr h))) (λ rest place h. inr (inr h)))
    (λ c j i. absurd (not_err _ _ i))))))

pub conditional_faults : (first limit n : ℕ) → Below first limit n → (room : ℕ) (ts : List Leaf) (f : Fault) → room ≤ limit
    → conditional_by (within limit n) room ts ≡ Err f → Viable (conditionals limit n) first limit room ts f
unfolding conditional_by
conditional_faults first limit n below room ts f le e =
    bind_fault (binary_by (within limit n) 10 room ts) _ f e
    (λ d. let v = binary_faults first limit n below 10 room ts f le d in
    become v (t.plain v.tree) v.is.0 (λ rest. v.agree rest) refl (λ rest place h. h))
    (λ b ok g.
    let made = binary_is (within limit n) (sound_within limit n) 10 room ts b ok in
    let kept = fits_binary limit n room le 10 ts b ok in
    at made.0 (when_fault (taken Question b.1) _ _ _ g
    (λ q o h. at (ap (of_binary b.0) (taken_is Question b.1 q o)) (choice_faults first limit n below room b.0 q.0 q.2 f le made.1 kept.0 h))
    (λ o h. absurd (not_err _ _ h))))

-- ---- assignments

assigned_faults : (first limit n : ℕ) → Below first limit n
    → (room : ℕ) (u : t.Unary) (s : Spot) (op : PunctKind) (ts : List Leaf) (f : Fault) → room ≤ limit → Is_unary u → is_assign op ≡ true
    → nest.height_unary u ≤ room → assigned_by (within limit n) room u s op ts ≡ Err f
    → Viable (assignments limit n) first limit room (of_unary u (mark s op ∷ ts)) f
unfolding assigned_by opened_at
assigned_faults first limit zero below room u s op ts f le is is_op low e = elim (begun_fault starts_lexeme ts f e) [
  | inl d ↦ stop d (t.assign u s op (zero_assignment first)) (suc first) (λ rest. zero_leaf first ∷ rest) (is, is_op, tt)
      (λ rest q. (refl, q)) (λ rest. past_unary u (past _ from_here))
  | inr d ↦
      let v = begun_assignment limit zero first d.0 d.3 in
      at (ap (λ z. of_unary u (mark s op ∷ z)) d.2)
      (opens d.4 (t.assign u s op v.tree) v.count v.end (is, is_op, v.is) v.spots
      (λ rest. subst (λ z. Agree (d.0 ∷ d.1) (d.0 ∷ v.end rest) (of_unary u (mark s op ∷ d.0 ∷ d.1)) (of_unary u (mark s op ∷ z)))
      (v.spelled rest) (past_unary u (past _ from_here)))
      (λ rest. inr (inl (ap length (v.spelled rest)))))
]
assigned_faults first limit (suc m) below room u s op ts f le is is_op low e =
    let small = room_after room (nest.height_unary u) in
    bind_fault (assignment_by (within limit m) small ts) _ f e
    (λ d. let v = (below m refl).assignment small ts f (after_le room (nest.height_unary u) limit le) d in
    put_last v (t.assign u s op v.tree) (is, is_op, v.is) (λ rest. past_unary u (past _ (v.agree rest)))
    (λ lt. behind_grows room (nest.height_unary u) (nest.height_assignment v.tree) lt) (omega (arith, low, le))
    (λ rest place h. inr (inl h)) (λ rest place h. inr (inr h)))
    (λ a k g. absurd (not_err _ _ g))

pub assignment_faults : (first limit n : ℕ) → Below first limit n → (room : ℕ) (ts : List Leaf) (f : Fault) → room ≤ limit
    → assignment_by (within limit n) room ts ≡ Err f → Viable (assignments limit n) first limit room ts f
unfolding assignment_by
assignment_faults first limit n below room ts f le e =
    bind_fault (conditional_by (within limit n) room ts) _ f e
    (λ d. let v = conditional_faults first limit n below room ts f le d in
    become v (t.value v.tree) v.is (λ rest. v.agree rest) refl (λ rest place h. h))
    (λ c ok g.
    let made = conditional_is (within limit n) (sound_within limit n) room ts c ok in
    let kept = fits_conditional limit n room le ts c ok in
    when_fault (leaf_if (punct_if is_assign) c.1) _ _ _ g
    (λ op o h. when_fault (unary_of c.0) _ _ _ h
    (λ u alone i.
    let found = punct_is is_assign c.1 op o in
    let same = unary_of_is c.0 u alone in
    let is : Is_conditional (t.plain (t.operand (t.uncast u))) = subst Is_conditional same made.1 in
    let low : nest.height_conditional (t.plain (t.operand (t.uncast u))) ≤ room =
    subst (λ (d : t.Conditional). nest.height_conditional d ≤ room) same kept.0 in
    at (made.0 ∙ ap (λ (d : t.Conditional). of_conditional d c.1) same ∙ ap (of_unary u) found.0)
    (assigned_faults first limit n below room u op.0 op.1 op.2 f le is found.1 low i))
    (λ o i. absurd (not_err _ _ i)))
    (λ o h. absurd (not_err _ _ h)))

-- ---- commas

commas_faults : (first limit n : ℕ) → Below first limit n → (room k : ℕ) (x : t.Expression) (ts : List Leaf) (f : Fault)
    → room ≤ limit → Is_expression x → nest.height_expression x ≤ room → suc (suc limit) ≤ k + nest.height_expression x
    → commas_by (within limit n) room k x ts ≡ Err f
    → Viable (expressions limit n) first limit room (of_expression x ts) f
unfolding commas_by
commas_faults first limit n below room zero x ts f le is low many e = absurd (omega (arith, le, low, many))
commas_faults first limit n below room (suc k) x ts f le is low many e =
    when_fault (taken Comma ts) _ _ _ e
    (λ c o g.
    let small = room_after room (nest.height_expression x) in
    let fits : small ≤ limit = after_le room (nest.height_expression x) limit le in
    at (ap (of_expression x) (taken_is Comma ts c o))
    (bind_fault (assignment_by (within limit n) small c.2) _ f g
    (λ d. let v = assignment_faults first limit n below small c.2 f fits d in
    put_last v (t.comma x c.0 v.tree) (is, v.is) (λ rest. past_expression x (past _ (v.agree rest)))
    (λ lt. behind_grows room (nest.height_expression x) (nest.height_assignment v.tree) lt) (omega (arith, low, le))
    (λ rest place h. inr (inl h)) (λ rest place h. inr (inr h)))
    (λ a ok h.
    let made = assignment_is (within limit n) (sound_within limit n) small c.2 a ok in
    let kept = fits_assignment limit n small fits c.2 a ok in
    at (ap (λ z. of_expression x (mark c.0 Comma ∷ z)) made.0)
    (commas_faults first limit n below room k (t.comma x c.0 a.0) a.1 f le (is, made.1)
    (after_room room (nest.height_expression x) (nest.height_assignment a.0) (assignment_high a.0) kept.0) (omega (arith, many)) h))))
    (λ o g. absurd (not_err _ _ g))

pub expression_faults : (first limit n : ℕ) → Below first limit n → (room : ℕ) (ts : List Leaf) (f : Fault) → room ≤ limit
    → expression_by (within limit n) room ts ≡ Err f → Viable (expressions limit n) first limit room ts f
unfolding expression_by
expression_faults first limit n below room ts f le e =
    bind_fault (assignment_by (within limit n) room ts) _ f e
    (λ d. let v = assignment_faults first limit n below room ts f le d in
    become v (t.single v.tree) v.is (λ rest. v.agree rest) refl (λ rest place h. h))
    (λ a ok g.
    let made = assignment_is (within limit n) (sound_within limit n) room ts a ok in
    let kept = fits_assignment limit n room le ts a ok in
    at made.0 (commas_faults first limit n below room (chain (within limit n)) (t.single a.0) a.1 f le made.1 kept.0 (omega arith) g))
