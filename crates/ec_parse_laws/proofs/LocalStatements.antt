-- No reader of a statement looks at a token past the one at which it stops.
use Rattle.std.proofs.Common.{◌≡◌, ℕ, List, [], ◌∷◌, length, Bool, true, false, cond, Ok, Err, Option, Some, None, refl, sym, arith, inl}
use Rattle.std.proofs.Common.{inr, subst}
use Rattle.ec_grammar.specs.declared.token.PunctKind.{PunctKind}
use Rattle.ec_grammar.specs.declared.token.PunctKind.TheVariants.{RightParenthesis, Semicolon}
use Rattle.ec_grammar.specs.declared.Spot.{Spot}
use Rattle.ec_grammar.specs.Tokens as tokens
use Rattle.ec_grammar.specs.Tokens.{Lexeme}
use Rattle.ec_grammar.specs.Trees as t
use Rattle.ec_grammar.specs.Trees.{Leaf}
use Rattle.ec_parse_laws.specs.Reading.{syntax, too_deep, Read, ◌>>=◌, when, leaf_if, taken, expected, needed, first_is, Inner, Depth}
use Rattle.ec_parse_laws.specs.Reading.{begun_of, Keyword, if_word, while_word, do_word, for_word, break_word, continue_word, return_word}
use Rattle.ec_parse_laws.specs.Reading.{starts_statement, condition_by, optional_by, first_by, heading_by, substatement, item_at, pragma_at}
use Rattle.ec_parse_laws.specs.Reading.{compound_by, else_by, if_by, while_by, do_by, for_by, return_by, worded_by, simple_by, statement_by}
use Rattle.ec_parse_laws.proofs.Local.{Within, Local, Behind, behind, local_bind, local_give, local_same, leaf_heads, leaf_none, local_leaf}
use Rattle.ec_parse_laws.proofs.Local.{local_take, local_seen, local_needed, needed_then, behind_ends, behind_inside, local_begun}
use Rattle.ec_parse_laws.proofs.LocalItems.{Eats, Eaten, LocalItem, local_many, item_none, item_some, item_leaf, item_seen, eats_first}
use Rattle.ec_parse_laws.proofs.LocalItems.{within_eaten}
use Rattle.ec_parse_laws.proofs.LocalExpressions.{LocalInner, LocalIn, local_expression, bind_bind}
use Rattle.ec_parse_laws.proofs.LocalDeclarations.{local_declaration, eats_declaration}

-- ---- what eats

eats_same : {A : Type 0} (r q : List Leaf → Read A) → ((ts : List Leaf) → r ts ≡ q ts) → Eats q → Eats r
eats_same r q e h ts = subst (Eaten (length ts)) (sym (e ts)) (h ts)

eaten_when : {A B : Type 0} (n : ℕ) (o : Option B) (x y : Read A) → Eaten n x → Eaten n y → Eaten n (when o (λ w. x) y)
eaten_when n (Some w) x y hx hy = hx
eaten_when n None x y hx hy = hy

eats_seen : {A B : Type 0} (value : Lexeme → Option B) (f g : List Leaf → Read A) → Eats f → Eats g
    → Eats (λ ts. when (leaf_if value ts) (λ w. f ts) (g ts))
eats_seen value f g hf hg ts = eaten_when (length ts) (leaf_if value ts) (f ts) (g ts) (hf ts) (hg ts)

eats_leaf : {A B : Type 0} (value : Lexeme → Option B) (f : Spot × B × List Leaf → Read A) (g : List Leaf → Read A)
    → value tokens.end ≡ None → ((s : Spot) (b : B) → Behind (λ ts. f (s, b, ts))) → Eats g → Eats (λ ts. when (leaf_if value ts) f (g ts))
eats_leaf value f g no_end hf hg [] = rw (leaf_none value) (hg [])
eats_leaf value f g no_end hf hg (x ∷ ts) = elim (leaf_heads value x no_end) [
  | inl c ↦ rw (c.2 ts) (within_eaten (length ts) (f (x.spot, c.1, ts)) ((hf x.spot c.1).bounded ts))
  | inr c ↦ rw (c ts) (hg (x ∷ ts))
]

eats_needed : {A B : Type 0} (value : Lexeme → Option B) (f : Spot × List Leaf → Read A) → value tokens.end ≡ None
    → ((s : Spot) → Behind (λ ts. f (s, ts))) → Eats (λ ts. needed (leaf_if value ts) ts >>= f)
eats_needed value f no_end hf = eats_same _ _ (λ ts. needed_then (leaf_if value ts) ts f)
    (eats_leaf value (λ x. f (x.0, x.2)) (λ ts. Err (syntax (length ts))) no_end (λ s b. hf s) (λ ts. omega arith))

eaten_last : {A B : Type 0} (n : ℕ) (r : Read A) (f : A × List Leaf → Read B) → Within 0 n r → ((a : A) → Eats (λ ts. f (a, ts)))
    → Eaten n (r >>= f)
eaten_last n (Ok y) f h hf = go (f y) (hf y.0 y.1)
  where
    go : {B : Type 0} (q : Read B) → Eaten (length y.1) q → Eaten n q
    go (Ok z) k = omega (arith, h, k)
    go (Err e) k = omega (arith, h, k)
eaten_last n (Err e) f h hf = omega (arith, h)

eats_last : {A B : Type 0} (r : List Leaf → Read A) (f : A × List Leaf → Read B) → Local r → ((a : A) → Eats (λ ts. f (a, ts)))
    → Eats (λ ts. r ts >>= f)
eats_last r f hr hf ts = eaten_last (length ts) (r ts) f (hr.bounded ts) hf

-- ---- optional expressions

local_optional : (expression : List Leaf → Read t.Expression) (p : PunctKind) → Local expression → Local (optional_by expression p)
unfolding optional_by
local_optional expression p h =
    local_take _ _ _ refl (λ s q. local_give _) (local_bind _ _ h (λ e. local_needed _ _ refl (λ s. behind _ (local_give _))))

abbrev Optional : Type 0
Optional = Option t.Expression × Spot

optional_then : {A : Type 0} (expression : List Leaf → Read t.Expression) (p : PunctKind) (f : Optional × List Leaf → Read A)
    (ts : List Leaf)
    → (optional_by expression p ts >>= f)
    ≡ when (taken p ts) (λ s. f ((None, s.0), s.2)) (expression ts >>= λ e. expected p e.1 >>= λ s. f ((Some e.0, s.0), s.1))
unfolding optional_by
optional_then {A = A} expression p f ts = go (taken p ts) (expression ts)
  where
    go : (o : Option (Spot × PunctKind × List Leaf)) (r : Read t.Expression)
        → ((when {B = Read Optional} o (λ s. Ok ((None, s.0), s.2)) (r >>= λ e. expected p e.1 >>= λ s. Ok ((Some e.0, s.0), s.1))) >>= f)
        ≡ when o (λ s. f ((None, s.0), s.2)) (r >>= λ e. expected p e.1 >>= λ s. f ((Some e.0, s.0), s.1))
    go (Some s) r = refl
    go None (Ok e) = bind_bind (expected p e.1) _ _
    go None (Err e) = refl

local_optional_then : {A : Type 0} (expression : List Leaf → Read t.Expression) (p : PunctKind) (f : Optional × List Leaf → Read A)
    → Local expression → ((o : Optional) → Behind (λ ts. f (o, ts))) → Local (λ ts. optional_by expression p ts >>= f)
local_optional_then expression p f h hf = local_same _ _ (optional_then expression p f)
    (local_leaf _ (λ s. f ((None, s.0), s.2)) _ refl (λ s q. hf (None, s))
    (local_bind _ _ h (λ e. local_needed _ (λ s. f ((Some e, s.0), s.1)) refl (λ s. hf (Some e, s)))))

eats_optional_then : {A : Type 0} (expression : List Leaf → Read t.Expression) (p : PunctKind) (f : Optional × List Leaf → Read A)
    → Local expression → ((o : Optional) → Behind (λ ts. f (o, ts))) → Eats (λ ts. optional_by expression p ts >>= f)
eats_optional_then expression p f h hf = eats_same _ _ (optional_then expression p f)
    (eats_leaf _ (λ s. f ((None, s.0), s.2)) _ refl (λ s q. hf (None, s))
    (eats_last _ _ h (λ e. eats_needed _ (λ s. f ((Some e, s.0), s.1)) refl (λ s. hf (Some e, s)))))

-- ---- conditions and headings

local_condition : (inner : Depth) → LocalIn inner → Local (condition_by inner)
unfolding condition_by
local_condition inner h = local_needed _ _ refl (λ l. behind_inside inner _
    (λ i is. local_bind _ _ ((h i is).expression i.limit) (λ e. local_needed _ _ refl (λ r. behind _ (local_give _)))))

local_first : (i : Inner) → LocalInner i → Local (first_by i)
unfolding first_by
local_first i h = local_seen _ _ _ refl (local_bind _ _ h.declaration (λ d. local_give _))
    (local_bind _ _ (local_optional (i.expression i.limit) Semicolon (h.expression i.limit)) (λ o. local_give _))

local_heading : (inner : Depth) → LocalIn inner → Local (heading_by inner)
unfolding heading_by
local_heading inner h = local_needed _ _ refl (λ l. behind_inside inner _ (λ i is. local_bind _ _ (local_first i (h i is)) (λ f.
    local_bind _ _ (local_optional (i.expression i.limit) Semicolon ((h i is).expression i.limit)) (λ c.
    local_bind _ _ (local_optional (i.expression i.limit) RightParenthesis ((h i is).expression i.limit)) (λ e. local_give _)))))

-- ---- statements

local_substatement : (inner : Depth) → LocalIn inner → (room : ℕ) → Local (substatement inner room)
local_substatement inner h room = local_begun _ inner _ (λ i is. (h i is).statement room)

eats_substatement : (inner : Depth) → LocalIn inner → (room : ℕ) → Eats (substatement inner room)
eats_substatement inner h room ts = go inner.opened h
  where
    fails : (b : Bool) → Eaten {A = t.Statement} (length ts) (Err (cond b (too_deep (length ts)) (syntax (length ts))))
    fails true = omega arith
    fails false = omega arith

    go : (o : Option Inner) → ((i : Inner) → o ≡ Some i → LocalInner i)
        → Eaten (length ts) (begun_of starts_statement o ts (λ i. i.statement room ts))
    go (Some i) h = (h i refl).statement_eats room ts
    go None h = fails (first_is starts_statement ts)

item_item : (inner : Depth) → LocalIn inner → LocalItem (item_at inner)
unfolding item_at
item_item inner h =
    item_seen _ _ _ refl (item_some _ (local_bind _ (λ d. Ok (t.declared d.0, d.1)) (local_declaration inner h) (λ d. local_give _))
    (eats_first _ (λ d. Ok (t.declared d.0, d.1)) (eats_declaration inner h) (λ d. local_give _)))
    (item_seen _ _ _ refl item_none
    (item_some _ (local_bind _ (λ s. Ok (t.stated s.0, s.1)) (local_substatement inner h inner.limit) (λ s. local_give _))
    (eats_first _ (λ s. Ok (t.stated s.0, s.1)) (eats_substatement inner h inner.limit) (λ s. local_give _))))

item_pragma : LocalItem pragma_at
item_pragma = item_leaf _ _ _ refl (λ s p. behind _ (local_give _)) item_none

pub local_compound : (inner : Depth) → LocalIn inner → (room : ℕ) → Local (compound_by inner room)
unfolding compound_by
local_compound inner h room = local_needed _ _ refl (λ l. behind _ (local_bind _ _ (local_many _ item_pragma)
    (λ p. local_bind _ _ (local_many _ (item_item inner h)) (λ b. local_needed _ _ refl (λ r. behind_ends _ _ _)))))

eats_compound : (inner : Depth) → LocalIn inner → (room : ℕ) → Eats (compound_by inner room)
unfolding compound_by
eats_compound inner h room = eats_needed _ _ refl (λ l. behind _ (local_bind _ _ (local_many _ item_pragma)
    (λ p. local_bind _ _ (local_many _ (item_item inner h)) (λ b. local_needed _ _ refl (λ r. behind_ends _ _ _)))))

local_else : (inner : Depth) → LocalIn inner → (room : ℕ) (s : Spot) (c : t.Condition) (b : t.Statement) → Local (else_by inner room s c b)
unfolding else_by
local_else inner h room s c b =
    local_take _ _ _ refl (λ e w. local_bind _ _ (local_substatement inner h _) (λ o. local_give _)) (local_give _)

local_worded : (inner : Depth) → LocalIn inner → (room : ℕ) (s : Spot) (k : Keyword) → Local (worded_by inner room s k)
unfolding if_by while_by do_by for_by return_by
local_worded inner h room s if_word =
    local_bind _ _ (local_condition inner h) (λ c. local_bind _ _ (local_substatement inner h _) (λ b. local_else inner h room s c b))
local_worded inner h room s while_word =
    local_bind _ _ (local_condition inner h) (λ c. local_bind _ _ (local_substatement inner h _) (λ b. local_give _))
local_worded inner h room s do_word = local_bind _ _ (local_substatement inner h inner.limit) (λ b.
    local_needed _ _ refl (λ w. behind _ (local_bind _ _ (local_condition inner h) (λ c. local_needed _ _ refl (λ e. behind_ends _ _ _)))))
local_worded inner h room s for_word =
    local_bind _ _ (local_heading inner h) (λ c. local_bind _ _ (local_substatement inner h _) (λ b. local_give _))
local_worded inner h room s break_word = local_needed _ _ refl (λ e. behind_ends _ _ _)
local_worded inner h room s continue_word = local_needed _ _ refl (λ e. behind_ends _ _ _)
local_worded inner h room s return_word = local_optional_then _ _ _ (local_expression inner h inner.limit) (λ o. behind_ends _ _ _)

local_simple : (inner : Depth) → LocalIn inner → (room : ℕ) → Local (simple_by inner room)
unfolding simple_by
local_simple inner h room = local_optional_then _ _ _ (local_expression inner h inner.limit) (λ o. behind_ends _ _ _)

eats_simple : (inner : Depth) → LocalIn inner → (room : ℕ) → Eats (simple_by inner room)
unfolding simple_by
eats_simple inner h room = eats_optional_then _ _ _ (local_expression inner h inner.limit) (λ o. behind_ends _ _ _)

pub local_statement : (inner : Depth) → LocalIn inner → (room : ℕ) → Local (statement_by inner room)
unfolding statement_by
local_statement inner h room = local_take _ _ _ refl (λ s k. local_worded inner h room s k)
    (local_seen _ _ _ refl (local_bind _ _ (local_compound inner h room) (λ c. local_give _)) (local_simple inner h room))

pub eats_statement : (inner : Depth) → LocalIn inner → (room : ℕ) → Eats (statement_by inner room)
unfolding statement_by
eats_statement inner h room = eats_leaf _ _ _ refl (λ s k. behind _ (local_worded inner h room s k))
    (eats_seen _ _ _ (eats_first _ _ (eats_compound inner h room) (λ c. local_give _)) (eats_simple inner h room))
