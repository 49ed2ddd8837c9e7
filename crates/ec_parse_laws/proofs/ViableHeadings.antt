-- A fault in the condition or the heading of a statement, completed; and statements that begin with a given token.
use Rattle.std.proofs.Common.{◌≡◌, ℕ, zero, suc, ◌≤◌, List, [], ◌∷◌, Bool, true, false, cond, Ok, Err, Option, Some, None, refl, sym, ap}
use Rattle.std.proofs.Common.{arith, inl, inr, subst}
use Rattle.std.proofs.lemmas.Bool.{true≢false}
use Rattle.ec_grammar.specs.declared.token.WordKind.{WordKind}
use Rattle.ec_grammar.specs.declared.token.WordKind.TheVariants as words
use Rattle.ec_grammar.specs.declared.token.PunctKind.{PunctKind}
use Rattle.ec_grammar.specs.declared.token.PunctKind.TheVariants.{LeftBrace, RightBrace, LeftParenthesis, RightParenthesis, Semicolon}
use Rattle.ec_grammar.specs.declared.Spot.{Spot}
use Rattle.ec_grammar.specs.Tokens as tokens
use Rattle.ec_grammar.specs.Tokens.{Lexeme}
use Rattle.ec_grammar.specs.Trees as t
use Rattle.ec_grammar.specs.Trees.{Leaf}
use Rattle.ec_grammar.specs.Spelling.{leaf, mark, word, of_option, of_expression, of_first}
use Rattle.ec_grammar.specs.Grammar.{Given, Is_expression}
use Rattle.ec_grammar.specs.Nesting as nest
use Rattle.ec_parse_laws.specs.Codes.{same_punct, same_word}
use Rattle.ec_parse_laws.specs.Reading.{Fault, ◌>>=◌, leaf_if, word_if, taken, expected, starts_specs, starts_punct, starts_lexeme}
use Rattle.ec_parse_laws.specs.Reading.{starts_statement, keyword_of_word, is_some, inside, expression_by, declaration_by, condition_by}
use Rattle.ec_parse_laws.specs.Reading.{optional_by, first_by, heading_by, opened_at, within}
use Rattle.ec_parse_laws.specs.Passing.{PassesOptional}
use Rattle.ec_parse_laws.proofs.Basics.{expected_is, same_puncts, inner_at}
use Rattle.ec_parse_laws.proofs.Sound.{expression_is}
use Rattle.ec_parse_laws.proofs.SoundUnits.{sound_within, optional_is, first_part_is}
use Rattle.ec_parse_laws.proofs.Agreeing.{from_here, past, past_expression, past_optional, past_first}
use Rattle.ec_parse_laws.proofs.Completing.{err_is, not_err, bind_fault, when_fault, expected_fault, spot_at, Kind, Viable, at, stop, opens}
use Rattle.ec_parse_laws.proofs.Completing.{put_in}
use Rattle.ec_parse_laws.proofs.Shortest.{Faulty, Below, expressions, conditions, first_kind, headings, statements, zero_leaf}
use Rattle.ec_parse_laws.proofs.Shortest.{zero_expression, Begun, begun_expression}

-- ---- an expression or none

abbrev pub optionals : ℕ → ℕ → PunctKind → Kind (Option t.Expression × Spot)
optionals limit left p = record {
  spell = λ o rest. of_option of_expression o.0 (mark o.1 p ∷ rest);
  Is = λ o. Given Is_expression o.0;
  height = λ o. nest.height_option nest.height_expression o.0;
  passes = λ o rest place. PassesOptional limit left o.0 (mark o.1 p ∷ rest) place;
}

pub optional_faults : (first limit n : ℕ) → ((room : ℕ) (ts : List Leaf) (f : Fault) → room ≤ limit
    → expression_by (within limit n) room ts ≡ Err f → Viable (expressions limit n) first limit room ts f)
    → (p : PunctKind) (ts : List Leaf) (f : Fault) → optional_by (expression_by (within limit n) limit) p ts ≡ Err f
    → Viable (optionals limit n p) first limit limit ts f
unfolding optional_by
optional_faults first limit n faults p ts f e =
    when_fault (taken p ts) _ _ _ e (λ s o g. absurd (not_err _ _ g))
    (λ o g. bind_fault (expression_by (within limit n) limit ts) _ f g
    (λ b. let v = faults limit ts f (omega arith) b in
    put_in v (Some v.tree, spot_at v.count) (suc v.count) (λ rest. mark (spot_at v.count) p ∷ rest) v.is (λ rest q. (refl, q))
    (λ rest. v.agree _) (λ rest place h. h))
    (λ x ok h.
    let made = expression_is (within limit n) (sound_within limit n) limit ts x ok in
    bind_fault (expected p x.1) _ f h
    (λ b. at made.0 (stop (expected_fault p x.1 f b) (Some x.0, spot_at first) (suc first) (λ rest. mark (spot_at first) p ∷ rest) made.1
    (λ rest q. (refl, q)) (λ rest. past_expression x.0 from_here)))
    (λ s k i. absurd (not_err _ _ i))))

-- ---- conditions

condition_inside : (first limit n : ℕ) → Below first limit n → (l : Spot) (ts : List Leaf) (f : Fault) → inside (within limit n) ts
    (λ i. i.expression i.limit ts >>= λ e. expected RightParenthesis e.1 >>= λ r. Ok (t.condition l e.0 r.0, r.1)) ≡ Err f
    → Viable (conditions limit n) first limit limit (mark l LeftParenthesis ∷ ts) f
unfolding opened_at
condition_inside first limit zero below l ts f e =
    opens (err_is _ _ e) (t.condition l (zero_expression first) (spot_at (suc first))) (suc (suc first))
    (λ rest. zero_leaf first ∷ mark (spot_at (suc first)) RightParenthesis ∷ rest) tt (λ rest q. (refl, (refl, q)))
    (λ rest. from_here) (λ rest. refl)
condition_inside first limit (suc m) below l ts f e =
    bind_fault (expression_by (within limit m) limit ts) _ f e
    (λ b. let v = (below m refl).expression limit ts f (omega arith) b in
    put_in v (t.condition l v.tree (spot_at v.count)) (suc v.count) (λ rest. mark (spot_at v.count) RightParenthesis ∷ rest) v.is
    (λ rest q. (refl, q)) (λ rest. past _ (v.agree _)) (λ rest place h. h))
    (λ x ok g.
    let made = expression_is (within limit m) (sound_within limit m) limit ts x ok in
    bind_fault (expected RightParenthesis x.1) _ f g
    (λ b. at (ap (λ z. mark l LeftParenthesis ∷ z) made.0)
    (stop (expected_fault RightParenthesis x.1 f b) (t.condition l x.0 (spot_at first)) (suc first)
    (λ rest. mark (spot_at first) RightParenthesis ∷ rest) made.1 (λ rest q. (refl, q)) (λ rest. past _ (past_expression x.0 from_here))))
    (λ r k h. absurd (not_err _ _ h)))

pub condition_faults : (first limit n : ℕ) → Below first limit n → (ts : List Leaf) (f : Fault) → condition_by (within limit n) ts ≡ Err f
    → Viable (conditions limit n) first limit limit ts f
unfolding condition_by
condition_faults first limit n below ts f e =
    bind_fault (expected LeftParenthesis ts) _ f e
    (λ b. stop (expected_fault LeftParenthesis ts f b)
    (t.condition (spot_at first) (zero_expression (suc first)) (spot_at (suc (suc first)))) (suc (suc (suc first)))
    (λ rest. mark (spot_at first) LeftParenthesis ∷ zero_leaf (suc first) ∷ mark (spot_at (suc (suc first))) RightParenthesis ∷ rest) tt
    (λ rest q. (refl, (refl, (refl, q)))) (λ rest. from_here))
    (λ l is g. at (expected_is LeftParenthesis ts l is) (condition_inside first limit n below l.0 l.1 f g))

-- ---- headings

first_faults : (first limit m : ℕ) → Faulty first limit m → (ts : List Leaf) (f : Fault) → first_by (inner_at limit m) ts ≡ Err f
    → Viable (first_kind limit m) first limit limit ts f
unfolding first_by
first_faults first limit m faults ts f e =
    when_fault (leaf_if (word_if starts_specs) ts) _ _ _ e
    (λ w o g. bind_fault (declaration_by (within limit m) ts) _ f g
    (λ b. let v = faults.declaration ts f b in
    put_in v (t.first_declared v.tree) v.count (λ rest. rest) v.is (λ rest q. q) (λ rest. v.agree rest) (λ rest place h. h))
    (λ d k h. absurd (not_err _ _ h)))
    (λ o g. bind_fault (optional_by (expression_by (within limit m) limit) Semicolon ts) _ f g
    (λ b. let v = optional_faults first limit m faults.expression Semicolon ts f b in
    put_in v (t.first_evaluated v.tree.0 v.tree.1) v.count (λ rest. rest) v.is (λ rest q. q) (λ rest. v.agree rest) (λ rest place h. h))
    (λ d k h. absurd (not_err _ _ h)))

heading_inside : (first limit n : ℕ) → Below first limit n → (l : Spot) (ts : List Leaf) (f : Fault)
    → inside (within limit n) ts (λ i. first_by i ts >>= λ a. optional_by (i.expression i.limit) Semicolon a.1
    >>= λ c. optional_by (i.expression i.limit) RightParenthesis c.1 >>= λ e. Ok (t.heading l a.0 c.0.0 c.0.1 e.0.0 e.0.1, e.1)) ≡ Err f
    → Viable (headings limit n) first limit limit (mark l LeftParenthesis ∷ ts) f
unfolding opened_at
heading_inside first limit zero below l ts f e =
    opens (err_is _ _ e) (t.heading l (t.first_evaluated None (spot_at first)) None (spot_at (suc first)) None (spot_at (suc (suc first))))
    (suc (suc (suc first)))
    (λ rest. mark (spot_at first) Semicolon ∷ mark (spot_at (suc first)) Semicolon ∷ mark (spot_at (suc (suc first))) RightParenthesis
    ∷ rest) (tt, tt, tt) (λ rest q. (refl, (refl, (refl, q)))) (λ rest. from_here) (λ rest. refl)
heading_inside first limit (suc m) below l ts f e =
    bind_fault (first_by (inner_at limit m) ts) _ f e
    (λ b. let v = first_faults first limit m (below m refl) ts f b in
    put_in v (t.heading l v.tree None (spot_at v.count) None (spot_at (suc v.count))) (suc (suc v.count))
    (λ rest. mark (spot_at v.count) Semicolon ∷ mark (spot_at (suc v.count)) RightParenthesis ∷ rest) (v.is, tt, tt)
    (λ rest q. (refl, (refl, q)))
    (λ rest. past _ (v.agree _)) (λ rest place h. inl h))
    (λ a ok g.
    let one = first_part_is (inner_at limit m) (sound_within limit (suc m) (inner_at limit m) refl) ts a ok in
    let sound = λ (room : ℕ). expression_is (within limit m) (sound_within limit m) room in
    at (ap (λ z. mark l LeftParenthesis ∷ z) one.0)
    (bind_fault (optional_by (expression_by (within limit m) limit) Semicolon a.1) _ f g
    (λ b. let v = optional_faults first limit m (below m refl).expression Semicolon a.1 f b in
    put_in v (t.heading l a.0 v.tree.0 v.tree.1 None (spot_at v.count)) (suc v.count)
    (λ rest. mark (spot_at v.count) RightParenthesis ∷ rest) (one.1, v.is, tt) (λ rest q. (refl, q))
    (λ rest. past _ (past_first a.0 (v.agree _))) (λ rest place h. inr (inl h)))
    (λ c k h.
    let two = optional_is (expression_by (within limit m) limit) (sound limit) Semicolon a.1 c k in
    at (ap (λ z. mark l LeftParenthesis ∷ of_first a.0 z) two.0)
    (bind_fault (optional_by (expression_by (within limit m) limit) RightParenthesis c.1) _ f h
    (λ b. let v = optional_faults first limit m (below m refl).expression RightParenthesis c.1 f b in
    put_in v (t.heading l a.0 c.0.0 c.0.1 v.tree.0 v.tree.1) v.count (λ rest. rest) (one.1, two.1, v.is) (λ rest q. q)
    (λ rest. past _ (past_first a.0 (past_optional c.0.0 (past _ (v.agree rest))))) (λ rest place h. inr (inr h)))
    (λ x j i. absurd (not_err _ _ i))))))

pub heading_faults : (first limit n : ℕ) → Below first limit n → (ts : List Leaf) (f : Fault) → heading_by (within limit n) ts ≡ Err f
    → Viable (headings limit n) first limit limit ts f
unfolding heading_by
heading_faults first limit n below ts f e =
    bind_fault (expected LeftParenthesis ts) _ f e
    (λ b. stop (expected_fault LeftParenthesis ts f b) (t.heading (spot_at first) (t.first_evaluated None (spot_at (suc first))) None
    (spot_at (suc (suc first))) None (spot_at (suc (suc (suc first))))) (suc (suc (suc (suc first))))
    (λ rest. mark (spot_at first) LeftParenthesis ∷ mark (spot_at (suc first)) Semicolon ∷ mark (spot_at (suc (suc first))) Semicolon
    ∷ mark (spot_at (suc (suc (suc first)))) RightParenthesis ∷ rest) (tt, tt, tt) (λ rest q. (refl, (refl, (refl, (refl, q)))))
    (λ rest. from_here))
    (λ l is g. at (expected_is LeftParenthesis ts l is) (heading_inside first limit n below l.0 l.1 f g))

-- ---- statements that begin with a given token

abbrev pub empty_statement : ℕ → t.Statement
empty_statement k = t.simple None (spot_at k)

abbrev pub zero_condition : ℕ → t.Condition
zero_condition k = t.condition (spot_at k) (zero_expression (suc k)) (spot_at (suc (suc k)))

abbrev empty_heading : ℕ → t.Heading
empty_heading k =
    t.heading (spot_at k) (t.first_evaluated None (spot_at (suc k))) None (spot_at (suc (suc k))) None (spot_at (suc (suc (suc k))))

-- the parentheses of a condition, and what stands after them
abbrev pub in_parentheses : ℕ → List Leaf → List Leaf
in_parentheses k rest = mark (spot_at k) LeftParenthesis ∷ zero_leaf (suc k) ∷ mark (spot_at (suc (suc k))) RightParenthesis ∷ rest

abbrev in_heading : ℕ → List Leaf → List Leaf
in_heading k rest = mark (spot_at k) LeftParenthesis ∷ mark (spot_at (suc k)) Semicolon ∷ mark (spot_at (suc (suc k))) Semicolon
    ∷ mark (spot_at (suc (suc (suc k)))) RightParenthesis ∷ rest

begun_simple : (limit left first : ℕ) (x : Leaf) → starts_lexeme x.lexeme ≡ true → Begun (statements limit left) first x
begun_simple limit left first x e = let b = begun_expression limit left first x e in
    record {
      tree = t.simple (Some b.tree) (spot_at b.count);
      count = suc b.count;
      end = λ rest. b.end (mark (spot_at b.count) Semicolon ∷ rest);
      is = b.is;
      spots = λ rest q. b.spots _ (refl, q);
      spelled = λ rest. b.spelled _;
    }

begun_word : (limit left first : ℕ) (s : Spot) (w : WordKind) → cond (is_some (keyword_of_word w)) true (same_word w words.Sizeof) ≡ true
    → Begun (statements limit left) first (word s w)
begun_word limit left first s words.If e = record {
  tree = t.if_then s (zero_condition first) (empty_statement (suc (suc (suc first))));
  count = suc (suc (suc (suc first)));
  end = λ rest. in_parentheses first (mark (spot_at (suc (suc (suc first)))) Semicolon ∷ rest);
  is = (tt, tt);
  spots = λ rest q. (refl, (refl, (refl, (refl, q))));
  spelled = λ rest. refl;
}
begun_word limit left first s words.While e = record {
  tree = t.while_loop s (zero_condition first) (empty_statement (suc (suc (suc first))));
  count = suc (suc (suc (suc first)));
  end = λ rest. in_parentheses first (mark (spot_at (suc (suc (suc first)))) Semicolon ∷ rest);
  is = (tt, tt);
  spots = λ rest q. (refl, (refl, (refl, (refl, q))));
  spelled = λ rest. refl;
}
begun_word limit left first s words.Do e = record {
  tree = t.do_loop s (empty_statement first) (spot_at (suc first)) (zero_condition (suc (suc first)))
      (spot_at (suc (suc (suc (suc (suc first))))));
  count = suc (suc (suc (suc (suc (suc first)))));
  end = λ rest. mark (spot_at first) Semicolon ∷ word (spot_at (suc first)) words.While
      ∷ in_parentheses (suc (suc first)) (mark (spot_at (suc (suc (suc (suc (suc first)))))) Semicolon ∷ rest);
  is = (tt, tt);
  spots = λ rest q. (refl, (refl, (refl, (refl, (refl, (refl, q))))));
  spelled = λ rest. refl;
}
begun_word limit left first s words.For e = record {
  tree = t.for_loop s (empty_heading first) (empty_statement (suc (suc (suc (suc first)))));
  count = suc (suc (suc (suc (suc first))));
  end = λ rest. in_heading first (mark (spot_at (suc (suc (suc (suc first))))) Semicolon ∷ rest);
  is = ((tt, tt, tt), tt);
  spots = λ rest q. (refl, (refl, (refl, (refl, (refl, q)))));
  spelled = λ rest. refl;
}
begun_word limit left first s words.Break e = record {
  tree = t.break_loop s (spot_at first);
  count = suc first;
  end = λ rest. mark (spot_at first) Semicolon ∷ rest;
  is = tt;
  spots = λ rest q. (refl, q);
  spelled = λ rest. refl;
}
begun_word limit left first s words.Continue e = record {
  tree = t.continue_loop s (spot_at first);
  count = suc first;
  end = λ rest. mark (spot_at first) Semicolon ∷ rest;
  is = tt;
  spots = λ rest q. (refl, q);
  spelled = λ rest. refl;
}
begun_word limit left first s words.Return e = record {
  tree = t.return_value s None (spot_at first);
  count = suc first;
  end = λ rest. mark (spot_at first) Semicolon ∷ rest;
  is = tt;
  spots = λ rest q. (refl, q);
  spelled = λ rest. refl;
}
begun_word limit left first s words.Sizeof e = begun_simple limit left first (word s words.Sizeof) refl
begun_word limit left first s _ e = absurd (true≢false (sym e))

begun_mark : (limit left first : ℕ) (s : Spot) (p : PunctKind)
    → cond (same_punct p LeftBrace) true (cond (same_punct p Semicolon) true (starts_punct p)) ≡ true
    → Begun (statements limit left) first (mark s p)
begun_mark limit left first s p e = go (same_punct p LeftBrace) refl (same_punct p Semicolon) refl e
  where
    go : (b : Bool) → same_punct p LeftBrace ≡ b → (c : Bool) → same_punct p Semicolon ≡ c
        → cond b true (cond c true (starts_punct p)) ≡ true → Begun (statements limit left) first (mark s p)
    go true is c _ e = subst (λ q. Begun (statements limit left) first (mark s q)) (sym (same_puncts p LeftBrace is)) (record {
      tree = t.block (t.compound s [] t.no_items (spot_at first));
      count = suc first;
      end = λ rest. mark (spot_at first) RightBrace ∷ rest;
      is = tt;
      spots = λ rest q. (refl, q);
      spelled = λ rest. refl;
    })
    go false _ true is e = subst (λ q. Begun (statements limit left) first (mark s q)) (sym (same_puncts p Semicolon is))
        (record { tree = t.simple None s; count = first; end = λ rest. rest; is = tt; spots = λ rest q. q; spelled = λ rest. refl })
    go false _ false _ e = begun_simple limit left first (mark s p) e

begun_other : (limit left first : ℕ) (s : Spot) (l : Lexeme) → starts_statement l ≡ true → Begun (statements limit left) first (leaf s l)
begun_other limit left first s (tokens.word w) e = begun_word limit left first s w e
begun_other limit left first s (tokens.punct p) e = begun_mark limit left first s p e
begun_other limit left first s l e = begun_simple limit left first (leaf s l) e

pub begun_statement : (limit left first : ℕ) (x : Leaf) → starts_statement x.lexeme ≡ true → Begun (statements limit left) first x
begun_statement limit left first x e = begun_other limit left first x.spot x.lexeme e
