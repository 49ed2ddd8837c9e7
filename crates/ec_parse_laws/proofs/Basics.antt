-- Facts on readers in general: what an answer tells, and how answers follow one another.
use Rattle.std.proofs.Common.{◌≡◌, ℕ, zero, suc, ◌-◌, ◌<◌, ◌≤◌, List, [], ◌∷◌, length, Bool, true, false, cond, Result, Ok, Err, Option}
use Rattle.std.proofs.Common.{Some, None, refl, sym, ap, ◌∙◌, arith, inl, inr, ◌⊎◌, subst}
use Rattle.std.specs.Prelude.{nat_lt, max}
use Rattle.std.proofs.lemmas.Bool.{lt-ltb, eqb-true, eq-eqb, true≢false}
use Rattle.ec_grammar.specs.declared.token.WordKind.{WordKind}
use Rattle.ec_grammar.specs.declared.token.WordKind.TheVariants as words
use Rattle.ec_grammar.specs.declared.token.PunctKind.{PunctKind}
use Rattle.ec_grammar.specs.declared.token.PunctKind.TheVariants as puncts
use Rattle.ec_grammar.specs.declared.Spot.{Spot}
use Rattle.ec_grammar.specs.declared.Constant.{Constant}
use Rattle.ec_grammar.specs.declared.Operation.{Operation}
use Rattle.ec_grammar.specs.declared.Pragma.{Pragma}
use Rattle.ec_grammar.specs.Tokens as tokens
use Rattle.ec_grammar.specs.Tokens.{Lexeme}
use Rattle.ec_grammar.specs.Trees as t
use Rattle.ec_grammar.specs.Trees.{Leaf}
use Rattle.ec_grammar.specs.Spelling.{leaf, mark, word, of_list, of_identifier, lexeme_of_constant, lexeme_of_operation, of_pragma}
use Rattle.ec_grammar.specs.Grammar.{Every}
use Rattle.ec_parse_laws.specs.Codes.{code_of_punct, code_of_word, same_punct, same_word}
use Rattle.ec_parse_laws.specs.Reading.{Fault, Read, ◌>>=◌, when, leaf_if, punct_if, word_if, name_of, constant_of, operation_of, pragma_of}
use Rattle.ec_parse_laws.specs.Reading.{end_of, taken, taken_word, needed, expected, expected_word, identifier, Keyword, if_word}
use Rattle.ec_parse_laws.specs.Reading.{while_word, do_word, for_word, break_word, continue_word, return_word, keyword_of_word, keyword_of}
use Rattle.ec_parse_laws.specs.Reading.{many_up_to, many, ends, Inner, Depth, inside_of, inside, begun_of, begun, room_after, within}
use Rattle.ec_parse_laws.specs.Reading.{expression_by, assignment_by, conditional_by, cast_by, unary_by, initialiser_by, declaration_by}
use Rattle.ec_parse_laws.specs.Reading.{statement_by, compound_by}

abbrev pub done : {A : Type 0} → A → Result A Fault
done x = Ok x

abbrev pub there : {A : Type 0} → A → Option A
there x = Some x

pub ok_is : {A : Type 0} (x y : A) → done x ≡ done y → x ≡ y
ok_is x y e = cc

pub some_is : {A : Type 0} (x y : A) → there x ≡ there y → x ≡ y
some_is x y e = cc

pub no_some : {A : Type 0} (x : A) → None ≡ there x → ⊥
no_some x e = cc

pub no_ok : {A : Type 0} (f : Fault) (x : A) → Err f ≡ done x → ⊥
no_ok f x e = cc

pub bind_ok : {A B : Type 0} (r : Result A Fault) (f : A → Result B Fault) (y : B) → (r >>= f) ≡ Ok y → (x : A) × (r ≡ Ok x) × (f x ≡ Ok y)
bind_ok (Ok x) f y e = (x, refl, e)
bind_ok (Err d) f y e = absurd cc

pub when_is : {A B : Type 0} (o : Option A) (f : A → B) (g : B) (y : B) → when o f g ≡ y
    → ((x : A) × (o ≡ Some x) × (f x ≡ y)) ⊎ ((o ≡ None) × (g ≡ y))
when_is (Some x) f g y e = inl (x, refl, e)
when_is None f g y e = inr (refl, e)

-- where only a value leads to an answer
pub when_some : {A B : Type 0} (o : Option A) (f : A → Option B) (y : B) → when o f None ≡ Some y → (x : A) × (o ≡ Some x) × (f x ≡ Some y)
when_some (Some x) f y e = (x, refl, e)
when_some None f y e = absurd (no_some _ e)

pub cond_some : {A : Type 0} (b : Bool) (x y : A) → cond b (Some x) None ≡ Some y → (b ≡ true) × (x ≡ y)
cond_some true x y e = (refl, cc)
cond_some false x y e = absurd cc

pub cond_ok : {A : Type 0} (b : Bool) (f : Fault) (x : Result A Fault) (y : A) → cond b (Err f) x ≡ Ok y → (b ≡ false) × (x ≡ Ok y)
cond_ok true f x y e = absurd (no_ok _ _ e)
cond_ok false f x y e = (refl, e)

pub ends_ok : {A : Type 0} (room height : ℕ) (x : A) (rest : List Leaf) (y : A × List Leaf) → ends room height x rest ≡ Ok y → (x, rest) ≡ y
ends_ok room height x rest y e = ok_is _ _ (cond_ok (nat_lt room height) _ _ y e).1

inside_of_ok : {A : Type 0} (o : Option Inner) (ts : List Leaf) (f : Inner → Read A) (y : A × List Leaf) → inside_of o ts f ≡ Ok y
    → (i : Inner) × (o ≡ Some i) × (f i ≡ Ok y)
inside_of_ok (Some i) ts f y e = (i, refl, e)
inside_of_ok None ts f y e = absurd (no_ok _ _ e)

pub inside_ok : {A : Type 0} (inner : Depth) (ts : List Leaf) (f : Inner → Read A) (y : A × List Leaf) → inside inner ts f ≡ Ok y
    → (i : Inner) × (inner.opened ≡ Some i) × (f i ≡ Ok y)
inside_ok inner ts f y e = inside_of_ok inner.opened ts f y e

begun_of_ok : {A : Type 0} (starts : Lexeme → Bool) (o : Option Inner) (ts : List Leaf) (f : Inner → Read A) (y : A × List Leaf)
    → begun_of starts o ts f ≡ Ok y → (i : Inner) × (o ≡ Some i) × (f i ≡ Ok y)
begun_of_ok starts (Some i) ts f y e = (i, refl, e)
begun_of_ok starts None ts f y e = absurd (no_ok _ _ e)

pub begun_ok : {A : Type 0} (starts : Lexeme → Bool) (inner : Depth) (ts : List Leaf) (f : Inner → Read A) (y : A × List Leaf)
    → begun starts inner ts f ≡ Ok y → (i : Inner) × (inner.opened ≡ Some i) × (f i ≡ Ok y)
begun_ok starts inner ts f y e = begun_of_ok starts inner.opened ts f y e

not_lower : (a b : ℕ) → nat_lt a b ≡ false → a < b → ⊥
not_lower a b e lt = true≢false (sym (lt-ltb a b lt) ∙ e)

-- ---- words and punctuators by their numbers

abbrev nth : {A : Type 0} → A → List A → ℕ → A
nth other [] n = other
nth other (x ∷ xs) zero = x
nth other (x ∷ xs) (suc n) = nth other xs n

abbrev punct_named : ℕ → PunctKind
punct_named n = nth puncts.Comma (puncts.LeftBrace ∷ puncts.RightBrace ∷ puncts.LeftParenthesis ∷ puncts.RightParenthesis
    ∷ puncts.LeftBracket ∷ puncts.RightBracket ∷ puncts.Semicolon ∷ puncts.Comma ∷ puncts.Dot ∷ puncts.Arrow ∷ puncts.Increment
    ∷ puncts.Decrement ∷ puncts.Ampersand ∷ puncts.Star ∷ puncts.Plus ∷ puncts.Minus ∷ puncts.Tilde ∷ puncts.Not ∷ puncts.Slash
    ∷ puncts.Percent ∷ puncts.ShiftLeft ∷ puncts.ShiftRight ∷ puncts.Less ∷ puncts.Greater ∷ puncts.LessEqual ∷ puncts.GreaterEqual
    ∷ puncts.Equal ∷ puncts.NotEqual ∷ puncts.Caret ∷ puncts.Bar ∷ puncts.AndAnd ∷ puncts.OrOr ∷ puncts.Question ∷ puncts.Colon
    ∷ puncts.Assign ∷ puncts.StarAssign ∷ puncts.SlashAssign ∷ puncts.PercentAssign ∷ puncts.PlusAssign ∷ puncts.MinusAssign
    ∷ puncts.ShiftLeftAssign ∷ puncts.ShiftRightAssign ∷ puncts.AmpersandAssign ∷ puncts.CaretAssign ∷ puncts.BarAssign ∷ []) n

abbrev word_named : ℕ → WordKind
word_named n = nth words.If (words.Break ∷ words.Char ∷ words.Const ∷ words.Continue ∷ words.Do ∷ words.Else ∷ words.Extern ∷ words.For
    ∷ words.If ∷ words.Int ∷ words.Long ∷ words.Register ∷ words.Return ∷ words.Short ∷ words.Signed ∷ words.Sizeof ∷ words.Static
    ∷ words.Struct ∷ words.Unsigned ∷ words.Void ∷ words.While ∷ words.Fract ∷ words.Accum ∷ words.Sat ∷ words.Flash
    ∷ words.FarFlash ∷ words.Data ∷ words.Int8 ∷ words.Uint8 ∷ words.Int16 ∷ words.Uint16 ∷ words.Int32 ∷ words.Uint32 ∷ []) n

punct_code : (p : PunctKind) → punct_named (code_of_punct p) ≡ p
punct_code puncts.LeftBrace = refl
punct_code _ = refl

word_code : (w : WordKind) → word_named (code_of_word w) ≡ w
word_code words.Break = refl
word_code _ = refl

pub same_puncts : (p q : PunctKind) → same_punct p q ≡ true → p ≡ q
same_puncts p q e = sym (punct_code p) ∙ ap punct_named (eqb-true _ _ e) ∙ punct_code q

pub same_words : (v w : WordKind) → same_word v w ≡ true → v ≡ w
same_words v w e = sym (word_code v) ∙ ap word_named (eqb-true _ _ e) ∙ word_code w

pub self_punct : (p : PunctKind) → same_punct p p ≡ true
self_punct p = eq-eqb (code_of_punct p) (code_of_punct p) refl

pub self_word : (w : WordKind) → same_word w w ≡ true
self_word w = eq-eqb (code_of_word w) (code_of_word w) refl

-- ---- a leaf that was taken

pub leaf_is : {B : Type 0} (value : Lexeme → Option B) (ts : List Leaf) (y : Spot × B × List Leaf) → leaf_if value ts ≡ Some y
    → (x : Lexeme) × (ts ≡ leaf y.0 x ∷ y.2) × (value x ≡ Some y.1)
unfolding leaf_if
leaf_is {B = B} value [] y e = absurd (no_some _ e)
leaf_is {B = B} value (x ∷ xs) y e =
    let b = when_some (value x.lexeme) _ y e in
    subst (λ (y : Spot × B × List Leaf). (z : Lexeme) × ((x ∷ xs) ≡ leaf y.0 z ∷ y.2) × (value z ≡ Some y.1)) (some_is _ _ b.2)
    (x.lexeme, refl, b.1)

punct_lexeme : (test : PunctKind → Bool) (x : Lexeme) (p : PunctKind) → punct_if test x ≡ Some p → (x ≡ tokens.punct p) × (test p ≡ true)
punct_lexeme test (tokens.punct q) p e =
    let both = cond_some (test q) q p e in
    (ap (λ r. tokens.punct r) both.1, subst (λ r. test r ≡ true) both.1 both.0)
punct_lexeme test _ p e = absurd (no_some _ e)

word_lexeme : (test : WordKind → Bool) (x : Lexeme) (w : WordKind) → word_if test x ≡ Some w → (x ≡ tokens.word w) × (test w ≡ true)
word_lexeme test (tokens.word v) w e =
    let both = cond_some (test v) v w e in
    (ap (λ r. tokens.word r) both.1, subst (λ r. test r ≡ true) both.1 both.0)
word_lexeme test _ w e = absurd (no_some _ e)

pub punct_is : (test : PunctKind → Bool) (ts : List Leaf) (y : Spot × PunctKind × List Leaf) → leaf_if (punct_if test) ts ≡ Some y
    → (ts ≡ mark y.0 y.1 ∷ y.2) × (test y.1 ≡ true)
punct_is test ts y e =
    let x = leaf_is (punct_if test) ts y e in
    let both = punct_lexeme test x.0 y.1 x.2 in
    (x.1 ∙ ap (λ z. leaf y.0 z ∷ y.2) both.0, both.1)

pub word_is : (test : WordKind → Bool) (ts : List Leaf) (y : Spot × WordKind × List Leaf) → leaf_if (word_if test) ts ≡ Some y
    → (ts ≡ word y.0 y.1 ∷ y.2) × (test y.1 ≡ true)
word_is test ts y e =
    let x = leaf_is (word_if test) ts y e in
    let both = word_lexeme test x.0 y.1 x.2 in
    (x.1 ∙ ap (λ z. leaf y.0 z ∷ y.2) both.0, both.1)

pub taken_is : (p : PunctKind) (ts : List Leaf) (y : Spot × PunctKind × List Leaf) → taken p ts ≡ Some y → ts ≡ mark y.0 p ∷ y.2
taken_is p ts y e = let found = punct_is (λ q. same_punct q p) ts y e in found.0 ∙ ap (λ q. mark y.0 q ∷ y.2) (same_puncts y.1 p found.1)

pub taken_word_is : (w : WordKind) (ts : List Leaf) (y : Spot × WordKind × List Leaf) → taken_word w ts ≡ Some y → ts ≡ word y.0 w ∷ y.2
taken_word_is w ts y e = let found = word_is (λ v. same_word v w) ts y e in found.0 ∙ ap (λ v. word y.0 v ∷ y.2) (same_words y.1 w found.1)

pub needed_is : {A : Type 0} (o : Option (Spot × A × List Leaf)) (ts : List Leaf) (y : Spot × List Leaf) → needed o ts ≡ Ok y
    → (x : Spot × A × List Leaf) × (o ≡ Some x) × ((x.0, x.2) ≡ y)
needed_is (Some x) ts y e = (x, refl, ok_is _ _ e)
needed_is None ts y e = absurd (no_ok _ _ e)

pub expected_is : (p : PunctKind) (ts : List Leaf) (y : Spot × List Leaf) → expected p ts ≡ Ok y → ts ≡ mark y.0 p ∷ y.1
expected_is p ts y e = let x = needed_is (taken p ts) ts y e in taken_is p ts x.0 x.1 ∙ ap (λ (z : Spot × List Leaf). mark z.0 p ∷ z.1) x.2

pub expected_word_is : (w : WordKind) (ts : List Leaf) (y : Spot × List Leaf) → expected_word w ts ≡ Ok y → ts ≡ word y.0 w ∷ y.1
expected_word_is w ts y e =
    let x = needed_is (taken_word w ts) ts y e in
    taken_word_is w ts x.0 x.1 ∙ ap (λ (z : Spot × List Leaf). word z.0 w ∷ z.1) x.2

name_lexeme : (x : Lexeme) (n : List ℕ) → name_of x ≡ Some n → x ≡ tokens.name n
name_lexeme (tokens.name k) n e = ap (λ r. tokens.name r) (some_is _ _ e)
name_lexeme _ n e = absurd (no_some _ e)

pub name_is : (ts : List Leaf) (y : Spot × List ℕ × List Leaf) → leaf_if name_of ts ≡ Some y → ts ≡ of_identifier (t.identifier y.0 y.1) y.2
name_is ts y e = let x = leaf_is name_of ts y e in x.1 ∙ ap (λ z. leaf y.0 z ∷ y.2) (name_lexeme x.0 y.1 x.2)

pub identifier_is : (ts : List Leaf) (y : t.Identifier × List Leaf) → identifier ts ≡ Ok y → ts ≡ of_identifier y.0 y.1
identifier_is ts y e = elim (when_is (leaf_if name_of ts) _ _ _ e) [
  | inl x ↦ name_is ts x.0 x.1 ∙ ap (λ (z : t.Identifier × List Leaf). of_identifier z.0 z.1) (ok_is _ _ x.2)
  | inr x ↦ absurd (no_ok _ _ x.1)
]

constant_lexeme : (x : Lexeme) (k : Constant) → constant_of x ≡ Some k → x ≡ lexeme_of_constant k
constant_lexeme (tokens.whole value signed bytes) k e = ap lexeme_of_constant (some_is _ _ e)
constant_lexeme (tokens.fixed kind n) k e = ap lexeme_of_constant (some_is _ _ e)
constant_lexeme _ k e = absurd (no_some _ e)

pub constant_is : (ts : List Leaf) (y : Spot × Constant × List Leaf) → leaf_if constant_of ts ≡ Some y
    → ts ≡ leaf y.0 (lexeme_of_constant y.1) ∷ y.2
constant_is ts y e = let x = leaf_is constant_of ts y e in x.1 ∙ ap (λ z. leaf y.0 z ∷ y.2) (constant_lexeme x.0 y.1 x.2)

operation_lexeme : (x : Lexeme) (k : Operation) → operation_of x ≡ Some k → x ≡ lexeme_of_operation k
operation_lexeme (tokens.io_name op) k e = ap lexeme_of_operation (some_is _ _ e)
operation_lexeme (tokens.group_name op) k e = ap lexeme_of_operation (some_is _ _ e)
operation_lexeme _ k e = absurd (no_some _ e)

pub operation_is : (ts : List Leaf) (y : Spot × Operation × List Leaf) → leaf_if operation_of ts ≡ Some y
    → ts ≡ leaf y.0 (lexeme_of_operation y.1) ∷ y.2
operation_is ts y e = let x = leaf_is operation_of ts y e in x.1 ∙ ap (λ z. leaf y.0 z ∷ y.2) (operation_lexeme x.0 y.1 x.2)

pragma_lexeme : (s : Spot) (x : Lexeme) (make : Spot → Pragma) → pragma_of x ≡ Some make → x ≡ tokens.pragma (make s).which (make s).state
pragma_lexeme s (tokens.pragma which state) make e = ap (λ (f : Spot → Pragma). tokens.pragma (f s).which (f s).state) (some_is _ _ e)
pragma_lexeme s _ make e = absurd (no_some _ e)

pragma_spot : (s : Spot) (x : Lexeme) (make : Spot → Pragma) → pragma_of x ≡ Some make → s ≡ (make s).spot
pragma_spot s (tokens.pragma which state) make e = ap (λ (f : Spot → Pragma). (f s).spot) (some_is _ _ e)
pragma_spot s _ make e = absurd (no_some _ e)

pub pragma_is : (ts : List Leaf) (y : Spot × (Spot → Pragma) × List Leaf) → leaf_if pragma_of ts ≡ Some y → ts ≡ of_pragma (y.1 y.0) y.2
pragma_is ts y e =
    let x = leaf_is pragma_of ts y e in
    x.1 ∙ ap (λ z. leaf y.0 z ∷ y.2) (pragma_lexeme y.0 x.0 y.1 x.2)
    ∙ ap (λ s. leaf s (tokens.pragma (y.1 y.0).which (y.1 y.0).state) ∷ y.2) (pragma_spot y.0 x.0 y.1 x.2)

end_lexeme : (x : Lexeme) (k : ℕ) → end_of x ≡ Some k → x ≡ tokens.end
end_lexeme tokens.end k e = refl
end_lexeme _ k e = absurd (no_some _ e)

pub end_is : (ts : List Leaf) (y : Spot × ℕ × List Leaf) → leaf_if end_of ts ≡ Some y → ts ≡ leaf y.0 tokens.end ∷ y.2
end_is ts y e = let x = leaf_is end_of ts y e in x.1 ∙ ap (λ z. leaf y.0 z ∷ y.2) (end_lexeme x.0 y.1 x.2)

abbrev pub word_of_keyword : Keyword → WordKind
word_of_keyword if_word = words.If
word_of_keyword while_word = words.While
word_of_keyword do_word = words.Do
word_of_keyword for_word = words.For
word_of_keyword break_word = words.Break
word_of_keyword continue_word = words.Continue
word_of_keyword return_word = words.Return

keyword_word : (w : WordKind) (k : Keyword) → keyword_of_word w ≡ Some k → w ≡ word_of_keyword k
keyword_word words.If k e = ap word_of_keyword (some_is _ _ e)
keyword_word words.While k e = ap word_of_keyword (some_is _ _ e)
keyword_word words.Do k e = ap word_of_keyword (some_is _ _ e)
keyword_word words.For k e = ap word_of_keyword (some_is _ _ e)
keyword_word words.Break k e = ap word_of_keyword (some_is _ _ e)
keyword_word words.Continue k e = ap word_of_keyword (some_is _ _ e)
keyword_word words.Return k e = ap word_of_keyword (some_is _ _ e)
keyword_word _ k e = absurd (no_some _ e)

keyword_lexeme : (x : Lexeme) (k : Keyword) → keyword_of x ≡ Some k → x ≡ tokens.word (word_of_keyword k)
keyword_lexeme (tokens.word w) k e = ap (λ v. tokens.word v) (keyword_word w k e)
keyword_lexeme _ k e = absurd (no_some _ e)

pub keyword_is : (ts : List Leaf) (y : Spot × Keyword × List Leaf) → leaf_if keyword_of ts ≡ Some y
    → ts ≡ word y.0 (word_of_keyword y.1) ∷ y.2
keyword_is ts y e = let x = leaf_is keyword_of ts y e in x.1 ∙ ap (λ z. leaf y.0 z ∷ y.2) (keyword_lexeme x.0 y.1 x.2)

-- ---- what is read is spelled so

abbrev pub Spelled : {A : Type 0} → (A → List Leaf → List Leaf) → (A → Type 0) → List Leaf → A × List Leaf → Type 0
Spelled of_one Is ts y = (ts ≡ of_one y.0 y.1) × Is y.0

abbrev pub Sound : {A : Type 0} → (A → List Leaf → List Leaf) → (A → Type 0) → (List Leaf → Read A) → Type 0
Sound of_one Is reader = (ts : List Leaf) (y : _) → reader ts ≡ Ok y → Spelled of_one Is ts y

abbrev pub SoundAt : {A : Type 0} → (A → List Leaf → List Leaf) → (A → Type 0) → (List Leaf → Option (Read A)) → Type 0
SoundAt of_one Is reader = (ts : List Leaf) (r : _) (y : _) → reader ts ≡ Some r → r ≡ Ok y → Spelled of_one Is ts y

pub many_up_to_is : {A : Type 0} (of_one : A → List Leaf → List Leaf) (Is : A → Type 0) (item : List Leaf → Option (Read A))
    → SoundAt of_one Is item → (n : ℕ) → Sound (of_list of_one) (Every Is) (many_up_to item n)
unfolding many_up_to
many_up_to_is of_one Is item sound zero ts y e = subst (Spelled (of_list of_one) (Every Is) ts) (ok_is _ _ e) (refl, tt)
many_up_to_is of_one Is item sound (suc n) ts y e =
    elim (when_is (item ts) _ _ _ e) [
      | inl r ↦
          let x = bind_ok r.0 _ _ r.2 in
          let xs = bind_ok (many_up_to item n x.0.1) _ _ x.2 in
          let one = sound ts r.0 x.0 r.1 x.1 in
          let more = many_up_to_is of_one Is item sound n x.0.1 xs.0 xs.1 in
          subst (Spelled (of_list of_one) (Every Is) ts) (ok_is _ _ xs.2) (one.0 ∙ ap (of_one x.0.0) more.0, (one.1, more.1))
      | inr k ↦ subst (Spelled (of_list of_one) (Every Is) ts) (ok_is _ _ k.1) (refl, tt)
    ]

pub many_is : {A : Type 0} (of_one : A → List Leaf → List Leaf) (Is : A → Type 0) (item : List Leaf → Option (Read A))
    → SoundAt of_one Is item → Sound (of_list of_one) (Every Is) (many item)
many_is of_one Is item sound ts y e = many_up_to_is of_one Is item sound (length ts) ts y e

-- ---- what follows what is read, what stands inside a construct, and what stands last in one

pub reads_bind : {A B : Type 0} (r : Read A) (f : A × List Leaf → Read B) (x : A) (rest : List Leaf) (y : B) (after : List Leaf)
    → r ≡ Ok (x, rest) → f (x, rest) ≡ Ok (y, after) → (r >>= f) ≡ Ok (y, after)
reads_bind r f x rest y after e h = rw e h

-- the readers inside a construct, where n more may be opened
abbrev pub inner_at : ℕ → ℕ → Inner
inner_at limit n = record {
  limit = limit;
  expression = expression_by (within limit n);
  assignment = assignment_by (within limit n);
  conditional = conditional_by (within limit n);
  cast = cast_by (within limit n);
  unary = unary_by (within limit n);
  initialiser = initialiser_by (within limit n);
  declaration = declaration_by (within limit n);
  statement = statement_by (within limit n);
  compound = compound_by (within limit n);
}

-- what stands last behind parts of such a height
pub after_fits : (room first last : ℕ) → suc (max first last) ≤ room → last ≤ room_after room first
after_fits room first last le = go (nat_lt first room) refl
  where
    go : (b : Bool) → nat_lt first room ≡ b → last ≤ cond b (room - 1) 0
    go true e = omega (arith, le)
    go false e = absurd (not_lower first room e (omega (arith, le)))

pub after_le : (room first limit : ℕ) → room ≤ limit → room_after room first ≤ limit
after_le room first limit le = go (nat_lt first room)
  where
    go : (b : Bool) → cond b (room - 1) 0 ≤ limit
    go true = omega (arith, le)
    go false = omega arith
