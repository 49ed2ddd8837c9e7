-- No reader of an expression looks at a token past the one at which it stops.
use Rattle.std.proofs.Common.{◌≡◌, ℕ, zero, suc, ◌-◌, List, [], ◌∷◌, length, true, false, Result, Ok, Err, Option, Some, None, refl, ap}
use Rattle.std.proofs.Common.{◌∙◌, inl, inr}
use Rattle.ec_grammar.specs.declared.token.PunctKind.{PunctKind}
use Rattle.ec_grammar.specs.declared.token.PunctKind.TheVariants.{LeftParenthesis, RightParenthesis}
use Rattle.ec_grammar.specs.declared.Spot.{Spot}
use Rattle.ec_grammar.specs.declared.Operation.{Operation}
use Rattle.ec_grammar.specs.Tokens as tokens
use Rattle.ec_grammar.specs.Tokens.{Lexeme}
use Rattle.ec_grammar.specs.Trees as t
use Rattle.ec_grammar.specs.Trees.{Leaf}
use Rattle.ec_grammar.specs.Spelling.{leaf, mark}
use Rattle.ec_grammar.specs.Grammar.{is_assign}
use Rattle.ec_grammar.specs.Nesting as nest
use Rattle.ec_parse_laws.specs.Reading.{Fault, too_deep, Read, ◌>>=◌, when, leaf_if, punct_if, word_if, expected, identifier, starts_specs}
use Rattle.ec_parse_laws.specs.Reading.{ends, Inner, Depth, inside_of, inside, chain, qualifier_at, star_at, spec_at, specs_by}
use Rattle.ec_parse_laws.specs.Reading.{type_name_by, pair, further_by, arguments_by, operation_by, primary_by, index_by, call_by}
use Rattle.ec_parse_laws.specs.Reading.{member_by, suffix_by, suffixes_by, postfix_by, size_by, unary_by, cast_at, cast_by, joins_by}
use Rattle.ec_parse_laws.specs.Reading.{binary_by, choice_by, conditional_by, unary_of, assigned_by, assignment_by, commas_by}
use Rattle.ec_parse_laws.specs.Reading.{expression_by}
use Rattle.ec_parse_laws.proofs.Local.{Local, Behind, behind, local_bind, local_give, local_fail, behind_fail, behind_same, Heads}
use Rattle.ec_parse_laws.proofs.Local.{local_heads, local_leaf, local_take, local_seen, local_needed, local_named, behind_ends}
use Rattle.ec_parse_laws.proofs.Local.{behind_inside, local_begun}
use Rattle.ec_parse_laws.proofs.LocalItems.{Eats, LocalItem, local_item, local_many, item_none, item_leaf, item_comma}

-- what is read inside a construct is read so
pub record LocalInner (i : Inner) : Type 0 where
  pub expression : (room : ℕ) → Local (i.expression room)
  pub assignment : (room : ℕ) → Local (i.assignment room)
  pub conditional : (room : ℕ) → Local (i.conditional room)
  pub cast : (room : ℕ) → Local (i.cast room)
  pub unary : (room : ℕ) → Local (i.unary room)
  pub initialiser : (room : ℕ) → Local (i.initialiser room)
  pub declaration : Local i.declaration
  pub statement : (room : ℕ) → Local (i.statement room)
  pub statement_eats : (room : ℕ) → Eats (i.statement room)
  pub compound : (room : ℕ) → Local (i.compound room)

abbrev pub LocalIn : Depth → Type 0
LocalIn inner = (i : Inner) → inner.opened ≡ Some i → LocalInner i

-- ---- specifiers and type names

pub local_identifier : Local identifier
local_identifier = local_take _ _ _ refl (λ s n. local_give _) (local_fail true)

item_qualifier : LocalItem qualifier_at
item_qualifier = item_leaf _ _ _ refl (λ s w. behind _ (local_give _)) item_none

pub item_star : LocalItem star_at
unfolding star_at
item_star = item_leaf _ _ _ refl (λ s p. behind _ (local_bind _ _ (local_many _ item_qualifier) (λ q. local_give _))) item_none

pub item_spec : LocalItem spec_at
unfolding spec_at
item_spec = item_leaf _ _ _ refl (λ s w. behind _ (local_give _))
    (item_leaf _ _ _ refl (λ s w. behind _ (local_bind _ _ local_identifier (λ n. local_give _))) item_none)

pub local_specs : Local specs_by
unfolding specs_by
local_specs = local_item _ _ _ item_spec (λ s. local_bind _ _ (local_many _ item_spec) (λ more. local_give _)) (local_fail true)

pub local_type_name : Local type_name_by
unfolding type_name_by
local_type_name = local_bind _ _ local_specs (λ s. local_bind _ _ (local_many _ item_star) (λ stars. local_give _))

-- ---- arguments

pub local_further : (i : Inner) → LocalInner i → Local (further_by i)
unfolding further_by
local_further i h = local_bind _ _ (local_many _ (item_comma pair (i.assignment i.limit) (h.assignment i.limit))) (λ more. local_give _)

local_arguments : (i : Inner) → LocalInner i → Local (arguments_by i)
unfolding arguments_by
local_arguments i h = local_seen _ _ _ refl (local_give _)
    (local_bind _ _ (h.assignment i.limit) (λ a. local_bind _ _ (local_further i h) (λ more. local_give _)))

-- ---- primary and postfix expressions

local_operation : (inner : Depth) → LocalIn inner → (room : ℕ) (s : Spot) (op : Operation) → Local (operation_by inner room s op)
unfolding operation_by
local_operation inner h room s op = local_needed _ _ refl (λ l. behind_inside inner _ (λ i is. local_bind _ _ local_identifier
    (λ n. local_bind _ _ (local_further i (h i is)) (λ more. local_needed _ _ refl (λ r. behind_ends _ _ _)))))

-- what a parenthesis holds
local_parenthesised : (i : Inner) → LocalInner i → (room : ℕ) (s : Spot)
    → Local (λ ts. i.expression i.limit ts
    >>= λ e. expected RightParenthesis e.1 >>= λ r. ends room (suc (nest.height_expression e.0)) (t.parenthesised s e.0 r.0) r.1)
local_parenthesised i h room s = local_bind _ _ (h.expression i.limit) (λ e. local_needed _ _ refl (λ r. behind_ends _ _ _))

local_primary : (inner : Depth) → LocalIn inner → (room : ℕ) → Local (primary_by inner room)
unfolding primary_by
local_primary inner h room = local_leaf _ _ _ refl (λ s p. behind_inside inner _ (λ i is. local_parenthesised i (h i is) room s))
    (local_take _ _ _ refl (λ s op. local_operation inner h room s op)
    (local_leaf _ _ _ refl (λ s k. behind_ends _ _ _)
    (local_leaf _ _ _ refl (λ s n. behind_ends _ _ _) (local_fail true))))

local_index : (inner : Depth) → LocalIn inner → (room : ℕ) (p : t.Postfix) (l : Spot) → Behind (index_by inner room p l)
unfolding index_by
local_index inner h room p l =
    behind_inside inner _ (λ i is. local_bind _ _ ((h i is).expression i.limit) (λ e. local_needed _ _ refl (λ r. behind_ends _ _ _)))

local_call : (inner : Depth) → LocalIn inner → (room : ℕ) (p : t.Postfix) (l : Spot) → Behind (call_by inner room p l)
unfolding call_by
local_call inner h room p l =
    behind_inside inner _ (λ i is. local_bind _ _ (local_arguments i (h i is)) (λ a. local_needed _ _ refl (λ r. behind_ends _ _ _)))

local_member : (room : ℕ) (p : t.Postfix) (s : Spot) (op : PunctKind) → Local (member_by room p s op)
unfolding member_by
local_member room p s op = local_named _ (λ n. behind_ends _ _ _)

item_suffix : (inner : Depth) → LocalIn inner → (room : ℕ) (p : t.Postfix) → LocalItem (suffix_by inner room p)
unfolding suffix_by
item_suffix inner h room p = item_leaf _ _ _ refl (λ l q. local_index inner h room p l)
    (item_leaf _ _ _ refl (λ l q. local_call inner h room p l)
    (item_leaf _ _ _ refl (λ s op. behind _ (local_member room p s op))
    (item_leaf _ _ _ refl (λ s op. behind_ends _ _ _) item_none)))

local_suffixes : (inner : Depth) → LocalIn inner → (room k : ℕ) (p : t.Postfix) → Local (suffixes_by inner room k p)
unfolding suffixes_by
local_suffixes inner h room zero p = local_fail false
local_suffixes inner h room (suc k) p = local_item _ _ _ (item_suffix inner h room p) (λ q. local_suffixes inner h room k q) (local_give _)

local_postfix : (inner : Depth) → LocalIn inner → (room : ℕ) → Local (postfix_by inner room)
unfolding postfix_by
local_postfix inner h room = local_bind _ _ (local_primary inner h room) (λ p. local_suffixes inner h room (chain inner) (t.primary p))

-- ---- unary expressions and casts

local_size : (inner : Depth) → LocalIn inner → (room : ℕ) (s : Spot) → Local (size_by inner room s)
unfolding size_by
local_size inner h room s = local_needed _ _ refl
    (λ l. behind_inside inner _ (λ i is. local_bind _ _ local_type_name (λ ty. local_needed _ _ refl (λ r. behind_ends _ _ _))))

pub local_unary : (inner : Depth) → LocalIn inner → (room : ℕ) → Local (unary_by inner room)
unfolding unary_by
local_unary inner h room =
    local_leaf _ _ _ refl (λ s op. behind_inside inner _ (λ i is. local_bind _ _ ((h i is).cast (room - 1)) (λ c. local_give _)))
    (local_leaf _ _ _ refl (λ s op. behind_inside inner _ (λ i is. local_bind _ _ ((h i is).unary (room - 1)) (λ u. local_give _)))
    (local_take _ _ _ refl (λ s w. local_size inner h room s)
    (local_bind _ _ (local_postfix inner h room) (λ p. local_give _))))

local_uncast : (inner : Depth) → LocalIn inner → (room : ℕ) → Local (λ ts. unary_by inner room ts >>= λ u. Ok (t.uncast u.0, u.1))
local_uncast inner h room = local_bind _ _ (local_unary inner h room) (λ u. local_give _)

pub bind_bind : {A B C : Type 0} (r : Result A Fault) (f : A → Result B Fault) (g : B → Result C Fault)
    → ((r >>= f) >>= g) ≡ (r >>= λ x. f x >>= g)
bind_bind (Ok x) f g = refl
bind_bind (Err e) f g = refl

when_same : {A B : Type 0} (o : Option A) (y : B) → when o (λ w. y) y ≡ y
when_same (Some x) y = refl
when_same None y = refl

pub when_when : {A B C : Type 0} (o : Option A) (x : B) (f : B → C) (g : C) → when (when o (λ w. Some x) None) f g ≡ when o (λ w. f x) g
when_when (Some w) x f g = refl
when_when None x f g = refl

-- one of two readers inside a construct, by the first token in it
behind_either : {A B C : Type 0} (value : Lexeme → Option C) (o : Option Inner) (f : List Leaf → Inner → Read A) (g : List Leaf → Inner
    → Read B) (k : B × List Leaf → Read A) → value tokens.end ≡ None
    → ((i : Inner) → o ≡ Some i → Local (λ ts. f ts i)) → ((i : Inner) → o ≡ Some i → Local (λ ts. g ts i))
    → ((b : B) → Local (λ ts. k (b, ts)))
    → Behind (λ ts. when (leaf_if value ts) (λ w. inside_of o ts (f ts)) (inside_of o ts (g ts) >>= k))
behind_either value (Some i) f g k no_end hf hg hk = behind _ (local_seen value _ _ no_end (hf i refl) (local_bind _ k (hg i refl) hk))
behind_either value None f g k no_end hf hg hk =
    behind_same _ (λ ts. Err (too_deep (suc (length ts)))) (λ ts. when_same (leaf_if value ts) _) (behind_fail false)

abbrev convert_inside : ℕ → Spot → List Leaf → Inner → Read t.Cast
convert_inside room s ts i =
    type_name_by ts >>= λ ty. expected RightParenthesis ty.1 >>= λ r. i.cast (room - 1) r.1 >>= λ c. Ok (t.convert s ty.0 r.0 c.0, c.1)

abbrev held_inside : ℕ → Spot → List Leaf → Inner → Read t.Primary
held_inside room s ts i = i.expression i.limit ts
    >>= λ e. expected RightParenthesis e.1 >>= λ r. ends room (suc (nest.height_expression e.0)) (t.parenthesised s e.0 r.0) r.1

abbrev unary_after : Depth → ℕ → t.Primary × List Leaf → Read t.Unary
unary_after inner room p = suffixes_by inner room (chain inner) (t.primary p.0) p.1 >>= λ q. Ok (t.postfix q.0, q.1)

abbrev cast_after : Depth → ℕ → t.Primary × List Leaf → Read t.Cast
cast_after inner room p = unary_after inner room p >>= λ u. Ok (t.uncast u.0, u.1)

-- behind a parenthesis that opens: a cast, or what a parenthesis holds and what follows it
cast_open : (inner : Depth) → LocalIn inner → (room : ℕ) (s : Spot)
    → Behind (λ ts. when (leaf_if (word_if starts_specs) ts) (λ w. inside inner ts (convert_inside room s ts))
    (inside inner ts (held_inside room s ts) >>= cast_after inner room))
cast_open inner h room s = behind_either _ inner.opened (convert_inside room s) (held_inside room s) (cast_after inner room) refl
    (λ i is. local_bind _ _ local_type_name
    (λ ty. local_needed _ _ refl (λ r. behind _ (local_bind _ _ ((h i is).cast (room - 1)) (λ c. local_give _)))))
    (λ i is. local_parenthesised i (h i is) room s)
    (λ p. local_bind _ _ (local_bind _ _ (local_suffixes inner h room (chain inner) (t.primary p)) (λ q. local_give _)) (λ u. local_give _))

cast_opens : (inner : Depth) (room : ℕ) (s : Spot) (ts : List Leaf)
    → cast_by inner room (mark s LeftParenthesis ∷ ts) ≡ when (leaf_if (word_if starts_specs) ts)
    (λ w. inside inner ts (convert_inside room s ts)) (inside inner ts (held_inside room s ts) >>= cast_after inner room)
unfolding cast_by cast_at unary_by postfix_by primary_by leaf_if
cast_opens inner room s ts = when_when (leaf_if (word_if starts_specs) ts) _ _ _
    ∙ ap (λ z. when (leaf_if (word_if starts_specs) ts) (λ w. inside inner ts (convert_inside room s ts)) z)
    (ap (λ z. z >>= λ u. Ok (t.uncast u.0, u.1)) (bind_bind (inside inner ts (held_inside room s ts)) _ _)
    ∙ bind_bind (inside inner ts (held_inside room s ts)) _ _)

cast_heads : (inner : Depth) → LocalIn inner → (room : ℕ) (s : Spot) (x : Lexeme) → Heads (cast_by inner room) (leaf s x)
unfolding cast_by cast_at leaf_if
cast_heads inner h room s (tokens.punct LeftParenthesis) = inr (λ is. cc, _, cast_open inner h room s, λ ts. cast_opens inner room s ts)
cast_heads inner h room s (tokens.punct _) = inl (_, local_uncast inner h room, λ ts. refl)
cast_heads inner h room s _ = inl (_, local_uncast inner h room, λ ts. refl)

pub local_cast : (inner : Depth) → LocalIn inner → (room : ℕ) → Local (cast_by inner room)
unfolding cast_by cast_at leaf_if
local_cast inner h room =
    local_heads (cast_by inner room) ((local_uncast inner h room).bounded []) (λ x. cast_heads inner h room x.spot x.lexeme)

-- ---- operators

local_joins : (operand : ℕ → List Leaf → Read t.Binary) → ((room : ℕ) → Local (operand room)) → (level room k : ℕ) (a : t.Binary)
    → Local (joins_by operand level room k a)
unfolding joins_by
local_joins operand h level room zero a = local_fail false
local_joins operand h level room (suc k) a =
    local_take _ _ _ refl (λ s op. local_bind _ _ (h _) (λ b. local_joins operand h level room k (t.join a s op b))) (local_give _)

local_binary : (inner : Depth) → LocalIn inner → (level room : ℕ) → Local (binary_by inner level room)
unfolding binary_by
local_binary inner h zero room = local_bind _ _ (local_cast inner h room) (λ c. local_give _)
local_binary inner h (suc level) room = local_bind _ _ (local_binary inner h level room)
    (λ a. local_joins (binary_by inner level) (λ r. local_binary inner h level r) (suc level) room (chain inner) a)

local_choice : (inner : Depth) → LocalIn inner → (room : ℕ) (b : t.Binary) (q : Spot) → Local (choice_by inner room b q)
unfolding choice_by
local_choice inner h room b q = local_begun _ inner _ (λ i is. local_bind _ _ ((h i is).expression i.limit)
    (λ e. local_needed _ _ refl (λ k. behind _ (local_bind _ _ ((h i is).conditional _) (λ c. local_give _)))))

pub local_conditional : (inner : Depth) → LocalIn inner → (room : ℕ) → Local (conditional_by inner room)
unfolding conditional_by
local_conditional inner h room =
    local_bind _ _ (local_binary inner h 10 room) (λ b. local_take _ _ _ refl (λ q p. local_choice inner h room b q) (local_give _))

local_assigned : (inner : Depth) → LocalIn inner → (room : ℕ) (u : t.Unary) (s : Spot) (op : PunctKind)
    → Local (assigned_by inner room u s op)
unfolding assigned_by
local_assigned inner h room u s op = local_begun _ inner _ (λ i is. local_bind _ _ ((h i is).assignment _) (λ a. local_give _))

pub local_assignment : (inner : Depth) → LocalIn inner → (room : ℕ) → Local (assignment_by inner room)
unfolding assignment_by
local_assignment inner h room = local_bind _ _ (local_conditional inner h room) (λ c. go c (unary_of c))
  where
    go : (c : t.Conditional) (o : Option t.Unary) → Local (λ ts. when (leaf_if (punct_if is_assign) ts)
        (λ op. when o (λ u. assigned_by inner room u op.0 op.1 op.2) (Ok (t.value c, ts))) (Ok (t.value c, ts)))
    go c (Some u) = local_take _ _ _ refl (λ s op. local_assigned inner h room u s op) (local_give _)
    go c None = local_seen _ _ _ refl (local_give _) (local_give _)

local_commas : (inner : Depth) → LocalIn inner → (room k : ℕ) (e : t.Expression) → Local (commas_by inner room k e)
unfolding commas_by
local_commas inner h room zero e = local_fail false
local_commas inner h room (suc k) e = local_take _ _ _ refl
    (λ c p. local_bind _ _ (local_assignment inner h _) (λ a. local_commas inner h room k (t.comma e c a))) (local_give _)

pub local_expression : (inner : Depth) → LocalIn inner → (room : ℕ) → Local (expression_by inner room)
unfolding expression_by
local_expression inner h room = local_bind _ _ (local_assignment inner h room) (λ a. local_commas inner h room (chain inner) (t.single a))
