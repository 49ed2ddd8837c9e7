-- Where reading the tokens of a unit has come: those that are left, and the overflow states there.
use Rattle.std.proofs.Common.{◌≡◌, ◌<◌, ◌∙◌, ℕ, suc, true, false, List, [], ◌∷◌, ◌++◌, length, refl, sym, ap, subst, arith}
use Rattle.std.specs.Prelude.{take, slice_get, Option, Some, ⊤}
use Rattle.ec_core.specs.Plain.{PlainKind}
use Rattle.ec_grammar.specs.declared.token.PunctKind.{PunctKind}
use Rattle.ec_grammar.specs.declared.token.PunctKind.TheVariants.{LeftBrace, RightBrace}
use Rattle.ec_grammar.specs.Grammar.{leaves_from, is_assign, is_step, is_prefix, is_access, level_of}
use Rattle.ec_grammar.specs.Tokens.{Lexeme, punct, Placed}
use Rattle.ec_grammar.specs.Trees.{Leaf}
use Rattle.ec_check_operands.specs.declared.operands.Modes.{Modes}
use Rattle.ec_check_tokens.specs.States.{at_first, behind_token, behind_tokens, innermost, state_at}
use Rattle.ec_check_tokens.specs.FirstTokens.{BeginsAt}
use Rattle.ec_check_tokens.specs.NodeStates.{Begins, StandsAt}

-- these leaves are left of the tokens, and behind those before them these are the states
pub record Reached (tokens : List Placed) (left : List Leaf) (states : List Modes) : Type 0 where
  pub before : List Placed
  pub behind : List Placed
  pub whole : tokens ≡ before ++ behind
  pub leaves : left ≡ leaves_from (length before) behind
  pub now : behind_tokens before (at_first ∷ []) ≡ states

pub begins : (tokens : List Placed) (left : List Leaf) → leaves_from 0 tokens ≡ left → Reached tokens left (at_first ∷ [])
begins tokens left e = record { before = []; behind = tokens; whole = refl; leaves = sym e; now = refl }

joined : (xs : List Placed) (x : Placed) (ys : List Placed) → xs ++ x ∷ ys ≡ (xs ++ x ∷ []) ++ ys
joined [] x ys = refl
joined (w ∷ xs) x ys = ap (λ (l : List Placed). w ∷ l) (joined xs x ys)

longer : (xs : List Placed) (x : Placed) → length (xs ++ x ∷ []) ≡ suc (length xs)
longer [] x = refl
longer (w ∷ xs) x = ap suc (longer xs x)

one_more : (xs : List Placed) (x : Placed) (states : List Modes)
    → behind_tokens (xs ++ x ∷ []) states ≡ behind_token x.lexeme (behind_tokens xs states)
one_more [] x states = refl
one_more (w ∷ xs) x states = one_more xs x (behind_token w.lexeme states)

taken : (xs ys : List Placed) → take (length xs) (xs ++ ys) ≡ xs
taken [] ys = refl
taken (x ∷ xs) ys = ap (λ (l : List Placed). x ∷ l) (taken xs ys)

-- parts of leaves that are equal
head_or : Leaf → List Leaf → Leaf
head_or d [] = d
head_or d (x ∷ xs) = x

tail_of : List Leaf → List Leaf
tail_of [] = []
tail_of (x ∷ xs) = xs

IsMore : List Leaf → Type 0
IsMore [] = ⊥
IsMore (x ∷ xs) = ⊤

-- one token further
pub past : (tokens : List Placed) (x : Leaf) (xs : List Leaf) (states : List Modes) → Reached tokens (x ∷ xs) states
    → Reached tokens xs (behind_token x.lexeme states)
unfolding head_or tail_of IsMore
past tokens x xs states r = by r.before r.behind r.whole r.leaves r.now
  where
    by : (before behind : List Placed) → tokens ≡ before ++ behind → x ∷ xs ≡ leaves_from (length before) behind
        → behind_tokens before (at_first ∷ []) ≡ states → Reached tokens xs (behind_token x.lexeme states)
    by before [] whole leaves now = absurd (subst IsMore leaves tt)
    by before (y ∷ ys) whole leaves now =
        record {
          before = before ++ y ∷ [];
          behind = ys;
          whole = whole ∙ joined before y ys;
          leaves = ap tail_of leaves ∙ ap (λ (n : ℕ). leaves_from n ys) (sym (longer before y));
          now =
              one_more before y (at_first ∷ []) ∙ ap (behind_token y.lexeme) now
              ∙ ap (λ (l : Leaf). behind_token l.lexeme states) (sym (ap (head_or x) leaves));
        }

-- the state at the token that is next
pub state_there : (tokens : List Placed) (left : List Leaf) (states : List Modes) (n : ℕ) → Reached tokens left states
    → BeginsAt left n → innermost states ≡ state_at tokens n
unfolding head_or IsMore
state_there tokens [] states n r h = absurd h
state_there tokens (x ∷ xs) states n r h = by r.before r.behind r.whole r.leaves r.now
  where
    by : (before behind : List Placed) → tokens ≡ before ++ behind → x ∷ xs ≡ leaves_from (length before) behind
        → behind_tokens before (at_first ∷ []) ≡ states → innermost states ≡ state_at tokens n
    by before [] whole leaves now = absurd (subst IsMore leaves tt)
    by before (y ∷ ys) whole leaves now =
        let index : length before ≡ n = sym (ap (λ (l : Leaf). l.spot.index) (ap (head_or x) leaves)) ∙ h in
        let read : take n tokens ≡ before =
        ap (take n) whole ∙ ap (λ (k : ℕ). take k (before ++ y ∷ ys)) (sym index) ∙ taken before (y ∷ ys)
        in ap innermost (sym now) ∙ ap (λ (l : List Placed). innermost (behind_tokens l (at_first ∷ []))) (sym read)

-- what stands at a place of a list behind others
found : (before : List Placed) (y : Placed) (ys : List Placed) → slice_get (before ++ y ∷ ys) (length before) ≡ Some y
found [] y ys = refl
found (x ∷ before) y ys = found before y ys

-- the first token holds for a statement of a kind
abbrev pub HeadBegins : List Leaf → PlainKind → Type 0
HeadBegins [] kind = ⊥
HeadBegins (x ∷ xs) kind = Begins x.lexeme kind

-- the token that is next stands there
pub stands_there : (tokens : List Placed) (left : List Leaf) (states : List Modes) (n : ℕ) (kind : PlainKind)
    → Reached tokens left states → BeginsAt left n → HeadBegins left kind → StandsAt (slice_get tokens n) kind
unfolding head_or IsMore
stands_there tokens [] states n kind r h k = absurd h
stands_there tokens (x ∷ xs) states n kind r h k = by r.before r.behind r.whole r.leaves
  where
    by : (before behind : List Placed) → tokens ≡ before ++ behind → x ∷ xs ≡ leaves_from (length before) behind
        → StandsAt (slice_get tokens n) kind
    by before [] whole leaves = absurd (subst IsMore leaves tt)
    by before (y ∷ ys) whole leaves =
        let index : length before ≡ n = sym (ap (λ (l : Leaf). l.spot.index) (ap (head_or x) leaves)) ∙ h in
        let read : slice_get tokens n ≡ Some y =
        ap (λ (l : List Placed). slice_get l n) whole ∙ ap (λ (k : ℕ). slice_get (before ++ y ∷ ys) k) (sym index)
        ∙ found before y ys
        in subst (λ (o : Option Placed). StandsAt o kind) (sym read)
        (subst (λ (z : Lexeme). Begins z kind) (ap (λ (l : Leaf). l.lexeme) (ap (head_or x) leaves)) k)

-- ---- operators are no braces

-- an operator changes no state
abbrev pub Keeps : PunctKind → Type 0
Keeps op = (states : List Modes) → behind_token (punct op) states ≡ states

truth : false ≡ true → ⊥
truth h = subst (λ b. elim b as (λ _. Type 0) [ true ↦ ⊥ | false ↦ ⊤ ]) h tt

pub assigns_keep : (op : PunctKind) → is_assign op ≡ true → Keeps op
assigns_keep LeftBrace h = absurd (truth h)
assigns_keep RightBrace h = absurd (truth h)
assigns_keep op h = λ states. refl

pub steps_keep : (op : PunctKind) → is_step op ≡ true → Keeps op
steps_keep LeftBrace h = absurd (truth h)
steps_keep RightBrace h = absurd (truth h)
steps_keep op h = λ states. refl

pub prefixes_keep : (op : PunctKind) → is_prefix op ≡ true → Keeps op
prefixes_keep LeftBrace h = absurd (truth h)
prefixes_keep RightBrace h = absurd (truth h)
prefixes_keep op h = λ states. refl

pub accesses_keep : (op : PunctKind) → is_access op ≡ true → Keeps op
accesses_keep LeftBrace h = absurd (truth h)
accesses_keep RightBrace h = absurd (truth h)
accesses_keep op h = λ states. refl

pub operators_keep : (op : PunctKind) (n : ℕ) → n < level_of op → Keeps op
operators_keep LeftBrace n h = absurd (omega (arith, h))
operators_keep RightBrace n h = absurd (omega (arith, h))
operators_keep op n h = λ states. refl
