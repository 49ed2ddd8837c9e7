-- What may follow a tree, and how trees begin.
use Rattle.std.proofs.Common.{◌≡◌, ℕ, suc, ◌<◌, ◌≤◌, List, [], ◌∷◌, Bool, true, false, Option, Some, None, refl, sym, ap, ◌∙◌, arith, inl}
use Rattle.std.proofs.Common.{inr, ◌⊎◌, subst}
use Rattle.std.proofs.lemmas.Bool.{ne_eqb, true≢false}
use Rattle.ec_grammar.specs.declared.token.WordKind.{WordKind}
use Rattle.ec_grammar.specs.declared.token.WordKind.TheVariants as words
use Rattle.ec_grammar.specs.declared.token.PunctKind.{PunctKind}
use Rattle.ec_grammar.specs.declared.token.PunctKind.TheVariants.{LeftParenthesis, RightParenthesis, LeftBracket, Comma, Dot, Arrow}
use Rattle.ec_grammar.specs.declared.token.PunctKind.TheVariants.{Increment, Decrement, Ampersand, Star, Plus, Minus, Tilde, Not, Slash}
use Rattle.ec_grammar.specs.declared.token.PunctKind.TheVariants.{Percent, ShiftLeft, ShiftRight, Less, Greater, LessEqual, GreaterEqual}
use Rattle.ec_grammar.specs.declared.token.PunctKind.TheVariants.{Equal, NotEqual, Caret, Bar, AndAnd, OrOr, Question, Assign, StarAssign}
use Rattle.ec_grammar.specs.declared.token.PunctKind.TheVariants.{SlashAssign, PercentAssign, PlusAssign, MinusAssign, ShiftLeftAssign}
use Rattle.ec_grammar.specs.declared.token.PunctKind.TheVariants.{ShiftRightAssign, AmpersandAssign, CaretAssign, BarAssign}
use Rattle.ec_grammar.specs.declared.Spot.{Spot}
use Rattle.ec_grammar.specs.declared.Constant.TheVariants as constants
use Rattle.ec_grammar.specs.declared.Operation.TheVariants as operations
use Rattle.ec_grammar.specs.Tokens as tokens
use Rattle.ec_grammar.specs.Tokens.{Lexeme}
use Rattle.ec_grammar.specs.Trees as t
use Rattle.ec_grammar.specs.Trees.{Leaf}
use Rattle.ec_grammar.specs.Spelling.{leaf, mark, word, of_expression, of_assignment, of_conditional, of_binary, of_cast, of_unary}
use Rattle.ec_grammar.specs.Spelling.{of_postfix, of_primary}
use Rattle.ec_grammar.specs.Grammar.{level_of, is_assign, is_step, is_prefix, is_access, Is_expression, Is_assignment, Is_conditional}
use Rattle.ec_grammar.specs.Grammar.{Is_binary, Is_cast, Is_unary, Is_postfix, Is_primary}
use Rattle.ec_parse_laws.specs.Codes.{same_punct}
use Rattle.ec_parse_laws.specs.Reading.{leaf_if, punct_if, word_if, keyword_of, keyword_of_word, taken, taken_word, at_level, starts_punct}
use Rattle.ec_parse_laws.specs.Reading.{starts_lexeme, starts_specs, first_is, cast_at}
use Rattle.ec_parse_laws.proofs.Basics.{same_puncts, same_words, self_punct}

-- how loosely a punctuator goes on with the expression before it: by a suffix (1), an operator of level n (n + 1), a conditional (12), an
-- assignment (13), a comma (14), or not at all
abbrev pub looseness : PunctKind → ℕ
looseness LeftBracket = 1
looseness LeftParenthesis = 1
looseness Dot = 1
looseness Arrow = 1
looseness Increment = 1
looseness Decrement = 1
looseness Star = 2
looseness Slash = 2
looseness Percent = 2
looseness Plus = 3
looseness Minus = 3
looseness ShiftLeft = 4
looseness ShiftRight = 4
looseness Less = 5
looseness Greater = 5
looseness LessEqual = 5
looseness GreaterEqual = 5
looseness Equal = 6
looseness NotEqual = 6
looseness Ampersand = 7
looseness Caret = 8
looseness Bar = 9
looseness AndAnd = 10
looseness OrOr = 11
looseness Question = 12
looseness Assign = 13
looseness StarAssign = 13
looseness SlashAssign = 13
looseness PercentAssign = 13
looseness PlusAssign = 13
looseness MinusAssign = 13
looseness ShiftLeftAssign = 13
looseness ShiftRightAssign = 13
looseness AmpersandAssign = 13
looseness CaretAssign = 13
looseness BarAssign = 13
looseness Comma = 14
looseness _ = 15

abbrev pub looseness_of : Lexeme → ℕ
looseness_of (tokens.punct p) = looseness p
looseness_of _ = 15

-- nothing that is at most so loose stands first
abbrev pub Closed : ℕ → List Leaf → Type 0
Closed n [] = n < 15
Closed n (x ∷ xs) = n < looseness_of x.lexeme

pub closed_down : (m n : ℕ) (ts : List Leaf) → m ≤ n → Closed n ts → Closed m ts
closed_down m n [] le c = omega arith
closed_down m n (x ∷ xs) le c = omega arith

none_first : (n : ℕ) (test : PunctKind → Bool) → ((p : PunctKind) → n < looseness p → test p ≡ false)
    → (s : Spot) (l : Lexeme) (xs : List Leaf) → n < looseness_of l → leaf_if (punct_if test) (leaf s l ∷ xs) ≡ None
unfolding leaf_if
none_first n test not s (tokens.punct p) xs c = rw (not p c) refl
none_first n test not s _ xs c = refl

-- no punctuator that is at most so loose stands first
pub none_at : (n : ℕ) (test : PunctKind → Bool) → ((p : PunctKind) → n < looseness p → test p ≡ false) → (ts : List Leaf) → Closed n ts
    → leaf_if (punct_if test) ts ≡ None
unfolding leaf_if
none_at n test not [] c = refl
none_at n test not (x ∷ xs) c = none_first n test not x.spot x.lexeme xs c

not_access : (p : PunctKind) → 1 < looseness p → is_access p ≡ false
not_access Dot lt = absurd (omega (arith, lt))
not_access Arrow lt = absurd (omega (arith, lt))
not_access _ lt = refl

not_step : (p : PunctKind) → 1 < looseness p → is_step p ≡ false
not_step Increment lt = absurd (omega (arith, lt))
not_step Decrement lt = absurd (omega (arith, lt))
not_step _ lt = refl

operator_is : (p : PunctKind) → (level_of p ≡ 0) ⊎ (looseness p ≡ suc (level_of p))
operator_is Star = inr refl
operator_is Slash = inr refl
operator_is Percent = inr refl
operator_is Plus = inr refl
operator_is Minus = inr refl
operator_is ShiftLeft = inr refl
operator_is ShiftRight = inr refl
operator_is Less = inr refl
operator_is Greater = inr refl
operator_is LessEqual = inr refl
operator_is GreaterEqual = inr refl
operator_is Equal = inr refl
operator_is NotEqual = inr refl
operator_is Ampersand = inr refl
operator_is Caret = inr refl
operator_is Bar = inr refl
operator_is AndAnd = inr refl
operator_is OrOr = inr refl
operator_is _ = inl refl

not_level : (level : ℕ) → 0 < level → (p : PunctKind) → suc level < looseness p → at_level level p ≡ false
not_level level lt p c = elim (operator_is p) [
  | inl e ↦ ne_eqb (level_of p) level (omega arith)
  | inr e ↦ ne_eqb (level_of p) level (omega arith)
]

not_assign : (p : PunctKind) → 13 < looseness p → is_assign p ≡ false
not_assign p lt = go (is_assign p) refl
  where
    loose : (q : PunctKind) → is_assign q ≡ true → looseness q ≡ 13
    loose Assign e = refl
    loose StarAssign e = refl
    loose SlashAssign e = refl
    loose PercentAssign e = refl
    loose PlusAssign e = refl
    loose MinusAssign e = refl
    loose ShiftLeftAssign e = refl
    loose ShiftRightAssign e = refl
    loose AmpersandAssign e = refl
    loose CaretAssign e = refl
    loose BarAssign e = refl
    loose _ e = absurd (true≢false (sym e))

    go : (b : Bool) → is_assign p ≡ b → b ≡ false
    go true e = absurd (omega (arith, lt, loose p e))
    go false e = refl

not_same : (n : ℕ) (q : PunctKind) → looseness q ≤ n → (p : PunctKind) → n < looseness p → same_punct p q ≡ false
not_same n q le p lt = go (same_punct p q) refl
  where
    go : (b : Bool) → same_punct p q ≡ b → b ≡ false
    go true s = absurd (omega (arith, lt, le, ap looseness (same_puncts p q s)))
    go false s = refl

pub no_punct : (n : ℕ) (q : PunctKind) (ts : List Leaf) → looseness q ≤ n → Closed n ts → taken q ts ≡ None
no_punct n q ts le c = none_at n (λ p. same_punct p q) (not_same n q le) ts c

pub no_access : (ts : List Leaf) → Closed 1 ts → leaf_if (punct_if is_access) ts ≡ None
no_access ts c = none_at 1 is_access not_access ts c

pub no_step : (ts : List Leaf) → Closed 1 ts → leaf_if (punct_if is_step) ts ≡ None
no_step ts c = none_at 1 is_step not_step ts c

pub no_operator : (level : ℕ) (ts : List Leaf) → 0 < level → Closed (suc level) ts → leaf_if (punct_if (at_level level)) ts ≡ None
no_operator level ts lt c = none_at (suc level) (at_level level) (not_level level lt) ts c

pub no_assign : (ts : List Leaf) → Closed 13 ts → leaf_if (punct_if is_assign) ts ≡ None
no_assign ts c = none_at 13 is_assign not_assign ts c

-- an operator goes on more loosely than all that is tighter
pub operator_closed : (p : PunctKind) (level : ℕ) (s : Spot) (rest : List Leaf) → level_of p ≡ suc level
    → Closed (suc level) (mark s p ∷ rest)
operator_closed p level s rest e = elim (operator_is p) [ inl z ↦ absurd (omega (arith, z, e)) | inr l ↦ omega (arith, l, e) ]

pub access_closed : (p : PunctKind) (n : ℕ) → is_access p ≡ true → is_step p ≡ false
access_closed Dot n e = refl
access_closed Arrow n e = refl
access_closed _ n e = absurd (true≢false (sym e))

-- an assignment operator goes on more loosely than a conditional
pub assign_closed : (p : PunctKind) (n : ℕ) (s : Spot) (rest : List Leaf) → is_assign p ≡ true → n < 13 → Closed n (mark s p ∷ rest)
assign_closed Assign n s rest e lt = lt
assign_closed StarAssign n s rest e lt = lt
assign_closed SlashAssign n s rest e lt = lt
assign_closed PercentAssign n s rest e lt = lt
assign_closed PlusAssign n s rest e lt = lt
assign_closed MinusAssign n s rest e lt = lt
assign_closed ShiftLeftAssign n s rest e lt = lt
assign_closed ShiftRightAssign n s rest e lt = lt
assign_closed AmpersandAssign n s rest e lt = lt
assign_closed CaretAssign n s rest e lt = lt
assign_closed BarAssign n s rest e lt = lt
assign_closed _ n s rest e lt = absurd (true≢false (sym e))

-- ---- a token that is there is taken

pub taken_self : (p : PunctKind) (s : Spot) (rest : List Leaf) → taken p (mark s p ∷ rest) ≡ Some (s, p, rest)
unfolding leaf_if
taken_self p s rest = rw (self_punct p) refl

pub taken_if_self : (test : PunctKind → Bool) (p : PunctKind) (s : Spot) (rest : List Leaf) → test p ≡ true
    → leaf_if (punct_if test) (mark s p ∷ rest) ≡ Some (s, p, rest)
unfolding leaf_if
taken_if_self test p s rest e = rw e refl

pub word_if_self : (test : WordKind → Bool) (w : WordKind) (s : Spot) (rest : List Leaf) → test w ≡ true
    → leaf_if (word_if test) (word s w ∷ rest) ≡ Some (s, w, rest)
unfolding leaf_if
word_if_self test w s rest e = rw e refl

-- ---- how an expression begins

prefix_starts : (p : PunctKind) → is_prefix p ≡ true → starts_punct p ≡ true
prefix_starts Ampersand e = refl
prefix_starts Star e = refl
prefix_starts Plus e = refl
prefix_starts Minus e = refl
prefix_starts Tilde e = refl
prefix_starts Not e = refl
prefix_starts _ e = absurd (true≢false (sym e))

step_starts : (p : PunctKind) → is_step p ≡ true → starts_punct p ≡ true
step_starts Increment e = refl
step_starts Decrement e = refl
step_starts _ e = absurd (true≢false (sym e))

primary_starts : (p : t.Primary) (rest : List Leaf) → first_is starts_lexeme (of_primary p rest) ≡ true
primary_starts (t.name (t.identifier s n)) rest = refl
primary_starts (t.constant s (constants.Whole value signed bytes)) rest = refl
primary_starts (t.constant s (constants.Fixed kind n)) rest = refl
primary_starts (t.parenthesised l e r) rest = refl
primary_starts (t.operation s (operations.Port op) l n more r) rest = refl
primary_starts (t.operation s (operations.Group op) l n more r) rest = refl

postfix_starts : (p : t.Postfix) (rest : List Leaf) → first_is starts_lexeme (of_postfix p rest) ≡ true
postfix_starts (t.primary p) rest = primary_starts p rest
postfix_starts (t.index p l e r) rest = postfix_starts p _
postfix_starts (t.call p l a r) rest = postfix_starts p _
postfix_starts (t.member p s op n) rest = postfix_starts p _
postfix_starts (t.stepped p s op) rest = postfix_starts p _

pub unary_starts : (u : t.Unary) (rest : List Leaf) → Is_unary u → first_is starts_lexeme (of_unary u rest) ≡ true
unary_starts (t.postfix p) rest is = postfix_starts p rest
unary_starts (t.step s op u) rest is = step_starts op is.0
unary_starts (t.prefix s op c) rest is = prefix_starts op is.0
unary_starts (t.size s l ty r) rest is = refl

cast_starts : (c : t.Cast) (rest : List Leaf) → Is_cast c → first_is starts_lexeme (of_cast c rest) ≡ true
cast_starts (t.uncast u) rest is = unary_starts u rest is
cast_starts (t.convert l ty r c) rest is = refl

binary_starts : (b : t.Binary) (rest : List Leaf) → Is_binary b → first_is starts_lexeme (of_binary b rest) ≡ true
binary_starts (t.operand c) rest is = cast_starts c rest is
binary_starts (t.join a s op b) rest is = binary_starts a _ is.0

pub conditional_starts : (c : t.Conditional) (rest : List Leaf) → Is_conditional c → first_is starts_lexeme (of_conditional c rest) ≡ true
conditional_starts (t.plain b) rest is = binary_starts b rest is
conditional_starts (t.choose b q e k c) rest is = binary_starts b _ is.0

pub assignment_starts : (a : t.Assignment) (rest : List Leaf) → Is_assignment a → first_is starts_lexeme (of_assignment a rest) ≡ true
assignment_starts (t.value c) rest is = conditional_starts c rest is
assignment_starts (t.assign u s op a) rest is = unary_starts u _ is.0

pub expression_starts : (e : t.Expression) (rest : List Leaf) → Is_expression e → first_is starts_lexeme (of_expression e rest) ≡ true
expression_starts (t.single a) rest is = assignment_starts a rest is
expression_starts (t.comma e s a) rest is = expression_starts e _ is.0

-- a list that begins with one of some tokens begins with none of others
pub no_leaf : {B : Type 0} (test : Lexeme → Bool) (value : Lexeme → Option B) → ((l : Lexeme) → test l ≡ true → value l ≡ None)
    → (ts : List Leaf) → first_is test ts ≡ true → leaf_if value ts ≡ None
unfolding leaf_if
no_leaf test value other [] e = refl
no_leaf test value other (x ∷ xs) e = rw (other x.lexeme e) refl

not_punct : (p : PunctKind) → starts_punct p ≡ false → (l : Lexeme) → starts_lexeme l ≡ true → punct_if (λ q. same_punct q p) l ≡ None
not_punct p not_p (tokens.punct q) e = go (same_punct q p) refl
  where
    go : (b : Bool) → same_punct q p ≡ b → punct_if (λ q. same_punct q p) (tokens.punct q) ≡ None
    go true same = absurd (true≢false (sym e ∙ ap starts_punct (same_puncts q p same) ∙ not_p))
    go false other = rw other refl
not_punct p not_p _ e = refl

-- an expression begins with no other punctuator
pub not_taken : (p : PunctKind) (ts : List Leaf) → starts_punct p ≡ false → first_is starts_lexeme ts ≡ true → taken p ts ≡ None
not_taken p ts not_p e = no_leaf starts_lexeme _ (not_punct p not_p) ts e

not_word : (test : WordKind → Bool) → test words.Sizeof ≡ false → (l : Lexeme) → starts_lexeme l ≡ true → word_if test l ≡ None
not_word test no_size (tokens.word w) e = rw (subst (λ v. test v ≡ false) (sym (same_words w words.Sizeof e)) no_size) refl
not_word test no_size _ e = refl

-- an expression begins with no word but `sizeof`
pub no_word : (test : WordKind → Bool) (ts : List Leaf) → test words.Sizeof ≡ false → first_is starts_lexeme ts ≡ true
    → leaf_if (word_if test) ts ≡ None
no_word test ts no_size e = no_leaf starts_lexeme _ (not_word test no_size) ts e

not_keyword : (l : Lexeme) → starts_lexeme l ≡ true → keyword_of l ≡ None
not_keyword (tokens.word w) e = ap keyword_of_word (same_words w words.Sizeof e)
not_keyword _ e = refl

pub no_keyword : (ts : List Leaf) → first_is starts_lexeme ts ≡ true → leaf_if keyword_of ts ≡ None
no_keyword ts e = no_leaf starts_lexeme keyword_of not_keyword ts e

-- ---- a postfix expression begins with no operator and no `sizeof`, and with no cast

primary_no_operator : (test : PunctKind → Bool) (p : t.Primary) (rest : List Leaf) → test LeftParenthesis ≡ false
    → leaf_if (punct_if test) (of_primary p rest) ≡ None
unfolding leaf_if
primary_no_operator test (t.name (t.identifier s n)) rest e = refl
primary_no_operator test (t.constant s (constants.Whole value signed bytes)) rest e = refl
primary_no_operator test (t.constant s (constants.Fixed kind n)) rest e = refl
primary_no_operator test (t.parenthesised l x r) rest e = rw e refl
primary_no_operator test (t.operation s (operations.Port op) l n more r) rest e = refl
primary_no_operator test (t.operation s (operations.Group op) l n more r) rest e = refl

pub postfix_no_operator : (test : PunctKind → Bool) (p : t.Postfix) (rest : List Leaf) → test LeftParenthesis ≡ false
    → leaf_if (punct_if test) (of_postfix p rest) ≡ None
postfix_no_operator test (t.primary p) rest e = primary_no_operator test p rest e
postfix_no_operator test (t.index p l x r) rest e = postfix_no_operator test p _ e
postfix_no_operator test (t.call p l a r) rest e = postfix_no_operator test p _ e
postfix_no_operator test (t.member p s op n) rest e = postfix_no_operator test p _ e
postfix_no_operator test (t.stepped p s op) rest e = postfix_no_operator test p _ e

primary_no_size : (p : t.Primary) (rest : List Leaf) → taken_word words.Sizeof (of_primary p rest) ≡ None
unfolding leaf_if
primary_no_size (t.name (t.identifier s n)) rest = refl
primary_no_size (t.constant s (constants.Whole value signed bytes)) rest = refl
primary_no_size (t.constant s (constants.Fixed kind n)) rest = refl
primary_no_size (t.parenthesised l e r) rest = refl
primary_no_size (t.operation s (operations.Port op) l n more r) rest = refl
primary_no_size (t.operation s (operations.Group op) l n more r) rest = refl

pub postfix_no_size : (p : t.Postfix) (rest : List Leaf) → taken_word words.Sizeof (of_postfix p rest) ≡ None
postfix_no_size (t.primary p) rest = primary_no_size p rest
postfix_no_size (t.index p l e r) rest = postfix_no_size p _
postfix_no_size (t.call p l a r) rest = postfix_no_size p _
postfix_no_size (t.member p s op n) rest = postfix_no_size p _
postfix_no_size (t.stepped p s op) rest = postfix_no_size p _

primary_no_cast : (p : t.Primary) (rest : List Leaf) → Is_primary p → cast_at (of_primary p rest) ≡ None
unfolding leaf_if cast_at
primary_no_cast (t.name (t.identifier s n)) rest is = refl
primary_no_cast (t.constant s (constants.Whole value signed bytes)) rest is = refl
primary_no_cast (t.constant s (constants.Fixed kind n)) rest is = refl
primary_no_cast (t.parenthesised l e r) rest is =
    rw (no_word starts_specs (of_expression e (mark r RightParenthesis ∷ rest)) refl (expression_starts e _ is)) refl
primary_no_cast (t.operation s (operations.Port op) l n more r) rest is = refl
primary_no_cast (t.operation s (operations.Group op) l n more r) rest is = refl

postfix_no_cast : (p : t.Postfix) (rest : List Leaf) → Is_postfix p → cast_at (of_postfix p rest) ≡ None
postfix_no_cast (t.primary p) rest is = primary_no_cast p rest is
postfix_no_cast (t.index p l e r) rest is = postfix_no_cast p _ is.0
postfix_no_cast (t.call p l a r) rest is = postfix_no_cast p _ is.0
postfix_no_cast (t.member p s op n) rest is = postfix_no_cast p _ is.0
postfix_no_cast (t.stepped p s op) rest is = postfix_no_cast p _ is.0

operator_no_cast : (test : PunctKind → Bool) (s : Spot) (op : PunctKind) (rest : List Leaf) → test LeftParenthesis ≡ false → test op ≡ true
    → cast_at (mark s op ∷ rest) ≡ None
unfolding leaf_if cast_at
operator_no_cast test s op rest none e = go (same_punct op LeftParenthesis) refl
  where
    go : (b : Bool) → same_punct op LeftParenthesis ≡ b → cast_at (mark s op ∷ rest) ≡ None
    go true same = absurd (true≢false (sym e ∙ ap test (same_puncts op LeftParenthesis same) ∙ none))
    go false other = rw other refl

pub unary_no_cast : (u : t.Unary) (rest : List Leaf) → Is_unary u → cast_at (of_unary u rest) ≡ None
unfolding leaf_if cast_at
unary_no_cast (t.postfix p) rest is = postfix_no_cast p rest is
unary_no_cast (t.step s op u) rest is = operator_no_cast is_step s op _ refl is.0
unary_no_cast (t.prefix s op c) rest is = operator_no_cast is_prefix s op _ refl is.0
unary_no_cast (t.size s l ty r) rest is = refl
