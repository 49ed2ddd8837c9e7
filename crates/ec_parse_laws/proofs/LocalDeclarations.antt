-- No reader of a declarator, an initialiser or a declaration looks at a token past the one at which it stops.
use Rattle.std.proofs.Common.{◌≡◌, ℕ, zero, suc, ◌+◌, ◌<◌, ◌≤◌, List, [], ◌∷◌, ◌++◌, length, Bool, true, false, cond, Ok, Err, Option, Some}
use Rattle.std.proofs.Common.{None, refl, ap, ◌∙◌, arith, inl, inr}
use Rattle.std.specs.Prelude.{max}
use Rattle.ec_grammar.specs.declared.token.WordKind.TheVariants as words
use Rattle.ec_grammar.specs.declared.token.PunctKind.{PunctKind}
use Rattle.ec_grammar.specs.declared.token.PunctKind.TheVariants.{RightBrace, RightParenthesis, Semicolon, Comma}
use Rattle.ec_grammar.specs.declared.Spot.{Spot}
use Rattle.ec_grammar.specs.Tokens as tokens
use Rattle.ec_grammar.specs.Tokens.{Lexeme}
use Rattle.ec_grammar.specs.Trees as t
use Rattle.ec_grammar.specs.Trees.{Leaf}
use Rattle.ec_grammar.specs.Spelling.{leaf, word}
use Rattle.ec_grammar.specs.Grammar.{lone_void}
use Rattle.ec_grammar.specs.Nesting as nest
use Rattle.ec_parse_laws.specs.Reading.{syntax, Read, ◌>>=◌, when, leaf_if, punct_if, taken, expected, many_up_to, many, behind_comma, ends}
use Rattle.ec_parse_laws.specs.Reading.{Inner, Depth, spec_at, specs_by, type_name_by, name_at, param_by, void_at, params_by, array_by}
use Rattle.ec_parse_laws.specs.Reading.{shape_by, declarator_by, initialisers_of, initialiser_at, comma_at, braces_by, initialiser_by}
use Rattle.ec_parse_laws.specs.Reading.{start_by, init_declarator_by, declared_by, declaration_by, members_by, members_at}
use Rattle.ec_parse_laws.specs.Codes.{same_punct}
use Rattle.ec_parse_laws.proofs.Local.{Within, Local, Behind, behind, local_bind, local_give, local_fail, Heads, local_heads, leaf_heads}
use Rattle.ec_parse_laws.proofs.Local.{local_leaf, local_take, local_seen, local_needed, behind_ends, behind_inside}
use Rattle.ec_parse_laws.proofs.LocalItems.{Eats, Eaten, EatenAt, LocalItem, local_many, item_none, item_some, item_seen, item_comma}
use Rattle.ec_parse_laws.proofs.LocalItems.{eats_first, eaten_bind, within_eaten}
use Rattle.ec_parse_laws.proofs.LocalExpressions.{LocalInner, LocalIn, local_identifier, item_star, item_spec, local_specs, local_type_name}
use Rattle.ec_parse_laws.proofs.LocalExpressions.{local_assignment, bind_bind, when_when}

pub local_cond : {A : Type 0} (b : Bool) (f g : List Leaf → Read A) → Local f → Local g → Local (λ ts. cond b (f ts) (g ts))
local_cond true f g hf hg = hf
local_cond false f g hf hg = hg

-- ---- parameters

local_name_at : Local name_at
local_name_at = local_take _ _ _ refl (λ s n. local_give _) (local_give _)

abbrev param_after : t.TypeName × List Leaf → Read t.Param
param_after ty = name_at ty.1 >>= λ n. cond (lone_void ty.0 n.0) (Err (syntax (length n.1))) (Ok (t.param ty.0 n.0, n.1))

local_param_after : (ty : t.TypeName) → Local (λ ts. param_after (ty, ts))
local_param_after ty = local_bind _ _ local_name_at (λ n. local_cond (lone_void ty n) _ _ (local_fail true) (local_give _))

local_param : Local param_by
unfolding param_by
local_param = local_bind _ _ local_type_name (λ ty. local_param_after ty)

abbrev params_after : t.Param × List Leaf → Read t.Params
params_after p = many (behind_comma t.next_param param_by) p.1 >>= λ more. Ok (t.params p.0 more.0, more.1)

local_params_after : (p : t.Param) → Local (λ ts. params_after (p, ts))
local_params_after p = local_bind _ _ (local_many _ (item_comma t.next_param param_by local_param)) (λ more. local_give _)

local_params_first : Local (λ ts. param_by ts >>= params_after)
local_params_first = local_bind _ params_after local_param local_params_after

-- a parameter that begins with `void`
local_void : (s : Spot) → Local (λ ts. param_by (word s words.Void ∷ ts))
unfolding param_by type_name_by specs_by spec_at leaf_if
local_void s = local_bind _ param_after (local_bind _ _ (local_bind _ _ (local_many _ item_spec) (λ more. local_give _))
    (λ s. local_bind _ _ (local_many _ item_star) (λ stars. local_give _))) (λ ty. local_param_after ty)

params_heads : (s : Spot) (x : Lexeme) → Heads params_by (leaf s x)
unfolding params_by void_at leaf_if
params_heads s (tokens.word words.Void) = inr (
  λ is. cc,
  _,
  behind _ (local_seen _ _ _ refl (local_give _) (local_bind _ params_after (local_void s) local_params_after)),
  λ ts. when_when (taken RightParenthesis ts) _ _ _,
)
params_heads s (tokens.word _) = inl (_, local_params_first, λ ts. refl)
params_heads s _ = inl (_, local_params_first, λ ts. refl)

local_params : Local params_by
unfolding params_by void_at leaf_if
local_params = local_heads params_by (local_params_first.bounded []) (λ x. params_heads x.spot x.lexeme)

-- ---- declarators

local_array : (i : Inner) → LocalInner i → (l : Spot) → Local (array_by i l)
unfolding array_by
local_array i h l = local_take _ _ _ refl (λ r p. local_give _)
    (local_bind _ _ (h.conditional i.limit) (λ c. local_needed _ _ refl (λ r. behind _ (local_give _))))

local_shape : (inner : Depth) → LocalIn inner → Local (shape_by inner)
unfolding shape_by
local_shape inner h = local_leaf _ _ _ refl (λ l p. behind_inside inner _ (λ i is. local_array i (h i is) l))
    (local_leaf _ _ _ refl
    (λ l p. behind_inside inner _ (λ i is. local_bind _ _ local_params (λ ps. local_needed _ _ refl (λ r. behind _ (local_give _)))))
    (local_give _))

pub local_declarator : (inner : Depth) → LocalIn inner → Local (declarator_by inner)
unfolding declarator_by
local_declarator inner h = local_bind _ _ (local_many _ item_star)
    (λ stars. local_bind _ _ local_identifier (λ n. local_bind _ _ (local_shape inner h) (λ s. local_give _)))

-- ---- initialisers

-- the items that follow one
abbrev going : {A : Type 0} → (List Leaf → Option (Read A)) → ℕ → A × List Leaf → Read (List A)
going item n y = many_up_to item n y.1 >>= λ xs. Ok (y.0 ∷ xs.0, xs.1)

up_to_none : {A : Type 0} (item : List Leaf → Option (Read A)) (n : ℕ) (ts : List Leaf) → item ts ≡ None
    → many_up_to item (suc n) ts ≡ Ok ([], ts)
unfolding many_up_to
up_to_none item n ts e = rw e refl

up_to_some : {A : Type 0} (item : List Leaf → Option (Read A)) (n : ℕ) (ts : List Leaf) (r : Read A) → item ts ≡ Some r
    → many_up_to item (suc n) ts ≡ (r >>= going item n)
unfolding many_up_to
up_to_some item n ts r e = rw e refl

-- more counts than tokens do not matter, where items eat and there is none at the end of the list
up_to_enough : {A : Type 0} (item : List Leaf → Option (Read A)) → item [] ≡ None → ((ts : List Leaf) → EatenAt (length ts) (item ts))
    → (n m : ℕ) (ts : List Leaf) → length ts ≤ n → length ts ≤ m → many_up_to item n ts ≡ many_up_to item m ts
unfolding many_up_to
up_to_enough item none eats zero zero ts le_n le_m = refl
up_to_enough item none eats zero (suc m) [] le_n le_m = rw none refl
up_to_enough item none eats zero (suc m) (x ∷ ts) le_n le_m = absurd (omega (arith, le_n))
up_to_enough item none eats (suc n) zero [] le_n le_m = rw none refl
up_to_enough item none eats (suc n) zero (x ∷ ts) le_n le_m = absurd (omega (arith, le_m))
up_to_enough {A = A} item none eats (suc n) (suc m) ts le_n le_m =
    go (item ts) (eats ts) (λ us short. up_to_enough item none eats n m us (omega (arith, short, le_n)) (omega (arith, short, le_m)))
  where
    next : (r : Read A) → Eaten (length ts) r → ((us : List Leaf) → length us < length ts → many_up_to item n us ≡ many_up_to item m us)
        → (r >>= going item n) ≡ (r >>= going item m)
    next (Ok y) short on = rw (on y.1 short) refl
    next (Err e) short on = refl

    go : (o : Option (Read A)) → EatenAt (length ts) o
        → ((us : List Leaf) → length us < length ts → many_up_to item n us ≡ many_up_to item m us)
        → when o (λ r. r >>= going item n) (Ok ([], ts)) ≡ when o (λ r. r >>= going item m) (Ok ([], ts))
    go (Some r) short on = next r short on
    go None short on = refl

abbrev Inits : Type 0
Inits = List (Spot × t.Initialiser)

-- the comma that may stand before the brace that closes, the brace, and what follows
abbrev closing : {A : Type 0} → (Option Spot → Spot → List Leaf → Read A) → List Leaf → Read A
closing f ts = comma_at ts >>= λ c. expected RightBrace c.1 >>= λ r. f c.0 r.0 r.1

-- initialisers, each behind a comma, and what closes them
abbrev tail_by : {A : Type 0} → Inner → ℕ → (Inits → Option Spot → Spot → List Leaf → Read A) → List Leaf → Read A
tail_by i n f ts = many_up_to (initialiser_at i) n ts >>= λ more. closing (f more.0) more.1

local_comma_at : Local comma_at
local_comma_at = local_take _ _ _ refl (λ c p. local_give _) (local_give _)

local_closing : {A : Type 0} (f : Option Spot → Spot → List Leaf → Read A) → ((c : Option Spot) (r : Spot) → Behind (f c r))
    → Local (closing f)
local_closing f hf = local_bind _ _ local_comma_at (λ c. local_needed _ _ refl (λ r. hf c r))

abbrev behind_one : {A : Type 0} → Inner → ℕ → Spot → (Inits → Option Spot → Spot → List Leaf → Read A) → t.Initialiser × List Leaf → Read A
behind_one i n s f x = tail_by i n (λ more. f ((s, x.0) ∷ more)) x.1

-- an initialiser after its comma
abbrev next_one : Inner → Spot → List Leaf → Read (Spot × t.Initialiser)
next_one i s ts = i.initialiser i.limit ts >>= λ x. Ok ((s, x.0), x.1)

tail_one : {A : Type 0} (i : Inner) (n : ℕ) (s : Spot) (ts : List Leaf) (f : Inits → Option Spot → Spot → List Leaf → Read A)
    → ((next_one i s ts >>= going (initialiser_at i) n) >>= λ more. closing (f more.0) more.1)
    ≡ (i.initialiser i.limit ts >>= behind_one i n s f)
tail_one {A = A} i n s ts f = go (i.initialiser i.limit ts)
  where
    go : (r : Read t.Initialiser) → (((r >>= λ x. Ok ((s, x.0), x.1)) >>= going (initialiser_at i) n) >>= λ more. closing (f more.0) more.1)
        ≡ (r >>= behind_one i n s f)
    go (Ok x) = bind_bind (many_up_to (initialiser_at i) n x.1) _ _
    go (Err e) = refl

none_before_brace : (i : Inner) (h : Leaf) (ts : List Leaf) (p : PunctKind) (r : Spot × PunctKind × List Leaf)
    → taken Comma (h ∷ ts) ≡ Some (h.spot, p, ts) → taken RightBrace ts ≡ Some r → initialiser_at i (h ∷ ts) ≡ None
unfolding initialiser_at
none_before_brace i h ts p r e brace = rw (e, brace) refl

some_otherwise : (i : Inner) (h : Leaf) (ts : List Leaf) (p : PunctKind) → taken Comma (h ∷ ts) ≡ Some (h.spot, p, ts)
    → taken RightBrace ts ≡ None → initialiser_at i (h ∷ ts) ≡ Some (next_one i h.spot ts)
unfolding initialiser_at
some_otherwise i h ts p e brace = rw (e, brace) refl

none_without_comma : (i : Inner) (h : Leaf) (ts : List Leaf) → taken Comma (h ∷ ts) ≡ None → initialiser_at i (h ∷ ts) ≡ None
unfolding initialiser_at
none_without_comma i h ts e = rw e refl

closing_comma : {A : Type 0} (h : Leaf) (ts : List Leaf) (f : Option Spot → Spot → List Leaf → Read A) (p : PunctKind) (r : Spot × PunctKind
    × List Leaf) → taken Comma (h ∷ ts) ≡ Some (h.spot, p, ts) → taken RightBrace ts ≡ Some r
    → closing f (h ∷ ts) ≡ f (Some h.spot) r.0 r.2
closing_comma h ts f p r e brace = rw (e, brace) refl

tail_comma : {A : Type 0} (i : Inner) (n : ℕ) (h : Leaf) (ts : List Leaf) (f : Inits → Option Spot → Spot → List Leaf
    → Read A) (p : PunctKind) → taken Comma (h ∷ ts) ≡ Some (h.spot, p, ts)
    → tail_by i (suc n) f (h ∷ ts)
    ≡ when (taken RightBrace ts) (λ r. f [] (Some h.spot) r.0 r.2) (i.initialiser i.limit ts >>= behind_one i n h.spot f)
tail_comma {A = A} i n h ts f p e = go (taken RightBrace ts) refl
  where
    go : (o : Option (Spot × PunctKind × List Leaf)) → taken RightBrace ts ≡ o
        → tail_by i (suc n) f (h ∷ ts) ≡ when o (λ r. f [] (Some h.spot) r.0 r.2) (i.initialiser i.limit ts >>= behind_one i n h.spot f)
    go (Some r) brace =
        ap (λ z. z >>= λ more. closing (f more.0) more.1) (up_to_none (initialiser_at i) n (h ∷ ts) (none_before_brace i h ts p r e brace))
        ∙ closing_comma h ts (f []) p r e brace
    go None brace = ap (λ z. z >>= λ more. closing (f more.0) more.1)
        (up_to_some (initialiser_at i) n (h ∷ ts) (next_one i h.spot ts) (some_otherwise i h ts p e brace)) ∙ tail_one i n h.spot ts f

tail_other : {A : Type 0} (i : Inner) (n : ℕ) (h : Leaf) (ts : List Leaf) (f : Inits → Option Spot → Spot → List Leaf → Read A)
    → taken Comma (h ∷ ts) ≡ None → tail_by i (suc n) f (h ∷ ts) ≡ closing (f []) (h ∷ ts)
tail_other i n h ts f e =
    ap (λ z. z >>= λ more. closing (f more.0) more.1) (up_to_none (initialiser_at i) n (h ∷ ts) (none_without_comma i h ts e))

local_tail : {A : Type 0} (i : Inner) → LocalInner i → (n : ℕ) (f : Inits → Option Spot → Spot → List Leaf → Read A)
    → ((more : Inits) (c : Option Spot) (r : Spot) → Behind (f more c r)) → Local (tail_by i n f)
unfolding many_up_to initialiser_at leaf_if
local_tail i h zero f hf = local_closing (f []) (hf [])
local_tail i h (suc n) f hf = local_heads (tail_by i (suc n) f) ((local_closing (f []) (hf [])).bounded [])
    (λ x. elim (leaf_heads (punct_if (λ q. same_punct q Comma)) x refl) [
      | inl c ↦ inr (
        c.0,
        _,
        behind _
            (local_leaf _ (λ r. f [] (Some x.spot) r.0 r.2) _ refl (λ r p. hf [] (Some x.spot) r) (local_bind _ (behind_one i n x.spot f)
            (h.initialiser i.limit) (λ a. local_tail i h n (λ more. f ((x.spot, a) ∷ more)) (λ more. hf ((x.spot, a) ∷ more))))),
        λ ts. tail_comma i n x ts f c.1 (c.2 ts),
      )
      | inr c ↦ inl (closing (f []), local_closing (f []) (hf []), λ ts. tail_other i n x ts f (c ts))
    ])

initialiser_eats : (i : Inner) → LocalInner i → (ts : List Leaf) → EatenAt (length ts) (initialiser_at i ts)
unfolding initialiser_at leaf_if
initialiser_eats i h [] = omega arith
initialiser_eats i h (x ∷ ts) = elim (leaf_heads (punct_if (λ q. same_punct q Comma)) x refl) [
  | inl c ↦ rw (c.2 ts) (go x.spot (taken RightBrace ts))
  | inr c ↦ rw (c ts) (omega arith)
]
  where
    go : (s : Spot) (o : Option (Spot × PunctKind × List Leaf)) → EatenAt (suc (length ts)) (when o (λ r. None) (Some (next_one i s ts)))
    go s (Some r) = omega arith
    go s None = within_eaten (length ts) _
        ((behind _ (local_bind _ (λ y. Ok ((s, y.0), y.1)) (h.initialiser i.limit) (λ a. local_give (s, a)))).bounded ts)

local_initialisers : {A : Type 0} (i : Inner) → LocalInner i → (f : Inits → Option Spot → Spot → List Leaf → Read A)
    → ((more : Inits) (c : Option Spot) (r : Spot) → Behind (f more c r)) → Local (λ ts. tail_by i (length ts) f ts)
unfolding initialiser_at leaf_if
local_initialisers {A = A} i h f hf = record {
  bounded = λ ts. (local_tail i h (length ts) f hf).bounded ts;
  same = λ x more other pre.
      let n : ℕ = length (pre ++ x ∷ more) + length (pre ++ x ∷ other) in
      rw (enough n (pre ++ x ∷ more) (omega arith), enough n (pre ++ x ∷ other) (omega arith))
      ((local_tail i h n f hf).same x more other pre);
}
  where
    enough : (n : ℕ) (ts : List Leaf) → length ts ≤ n → tail_by i (length ts) f ts ≡ tail_by i n f ts
    enough n ts le = ap (λ z. z >>= λ more. closing (f more.0) more.1)
        (up_to_enough (initialiser_at i) refl (initialiser_eats i h) (length ts) n ts (omega arith) le)

local_braces : (i : Inner) → LocalInner i → (room : ℕ) (l : Spot) → Local (braces_by i room l)
unfolding braces_by
local_braces i h room l = local_bind _ _ (h.initialiser i.limit) (λ x. local_initialisers i h
    (λ more c r ts. ends room (suc (max (nest.height_initialiser x) (nest.height_initialisers (initialisers_of more))))
    (t.braces l x (initialisers_of more) c r) ts) (λ more c r. behind_ends _ _ _))

pub local_initialiser : (inner : Depth) → LocalIn inner → (room : ℕ) → Local (initialiser_by inner room)
unfolding initialiser_by
local_initialiser inner h room = local_leaf _ _ _ refl (λ l p. behind_inside inner _ (λ i is. local_braces i (h i is) room l))
    (local_bind _ _ (local_assignment inner h room) (λ a. local_give _))

-- ---- declarations

local_start : (inner : Depth) → LocalIn inner → Local (start_by inner)
unfolding start_by
local_start inner h =
    local_take _ _ _ refl (λ q p. local_bind _ _ (local_initialiser inner h inner.limit) (λ x. local_give _)) (local_give _)

local_init_declarator : (inner : Depth) → LocalIn inner → Local (init_declarator_by inner)
unfolding init_declarator_by
local_init_declarator inner h = local_bind _ _ (local_declarator inner h) (λ d. local_bind _ _ (local_start inner h) (λ s. local_give _))

pub local_declared : (inner : Depth) → LocalIn inner → (s : t.Specs) (d : t.Declarator) → Local (declared_by inner s d)
unfolding declared_by
local_declared inner h s d = local_bind _ _ (local_start inner h)
    (λ x. local_bind _ _ (local_many _ (item_comma t.next_init_declarator (init_declarator_by inner) (local_init_declarator inner h)))
    (λ more. local_needed _ _ refl (λ e. behind _ (local_give _))))

eaten_item : {A B : Type 0} (n : ℕ) (o : Option (Read A)) (f : A × List Leaf → Read B) (g : Read B) → EatenAt n o
    → ((a : A) (ts : List Leaf) → Within 0 (length ts) (f (a, ts))) → Eaten n g → Eaten n (when o (λ r. r >>= f) g)
eaten_item n (Some r) f g h hf hg = eaten_bind n r f h hf
eaten_item n None f g h hf hg = hg

pub eats_specs : Eats specs_by
unfolding specs_by
eats_specs ts = eaten_item (length ts) (spec_at ts) _ (Err (syntax (length ts))) (item_spec.eats ts)
    (λ s us. (local_bind _ (λ more. Ok (t.specs s more.0, more.1)) (local_many _ item_spec) (λ more. local_give _)).bounded us)
    (omega arith)

abbrev declaration_after : Depth → t.Specs × List Leaf → Read t.Declaration
declaration_after inner s = declarator_by inner s.1 >>= λ d. declared_by inner s.0 d.0 d.1

local_declaration_after : (inner : Depth) → LocalIn inner → (s : t.Specs) → Local (λ ts. declaration_after inner (s, ts))
local_declaration_after inner h s = local_bind _ _ (local_declarator inner h) (λ d. local_declared inner h s d)

pub local_declaration : (inner : Depth) → LocalIn inner → Local (declaration_by inner)
unfolding declaration_by
local_declaration inner h = local_bind _ (declaration_after inner) local_specs (λ s. local_declaration_after inner h s)

pub eats_declaration : (inner : Depth) → LocalIn inner → Eats (declaration_by inner)
unfolding declaration_by
eats_declaration inner h = eats_first _ (declaration_after inner) eats_specs (λ s. local_declaration_after inner h s)

abbrev members_after : Depth → t.Specs × List Leaf → Read t.Member
members_after inner s = declarator_by inner s.1 >>= λ d. many (behind_comma t.next_declarator (declarator_by inner)) d.1
    >>= λ more. expected Semicolon more.1 >>= λ e. Ok (t.members s.0 d.0 more.0 e.0, e.1)

local_members_after : (inner : Depth) → LocalIn inner → (s : t.Specs) → Local (λ ts. members_after inner (s, ts))
local_members_after inner h s = local_bind _ _ (local_declarator inner h)
    (λ d. local_bind _ _ (local_many _ (item_comma t.next_declarator (declarator_by inner) (local_declarator inner h)))
    (λ more. local_needed _ _ refl (λ e. behind _ (local_give _))))

pub local_members : (inner : Depth) → LocalIn inner → Local (members_by inner)
unfolding members_by
local_members inner h = local_bind _ (members_after inner) local_specs (λ s. local_members_after inner h s)

eats_members : (inner : Depth) → LocalIn inner → Eats (members_by inner)
unfolding members_by
eats_members inner h = eats_first _ (members_after inner) eats_specs (λ s. local_members_after inner h s)

pub item_members : (inner : Depth) → LocalIn inner → LocalItem (members_at inner)
unfolding members_at
item_members inner h = item_seen _ _ _ refl (item_some _ (local_members inner h) (eats_members inner h)) item_none
