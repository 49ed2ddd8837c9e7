-- Taking pieces from the front on gives exactly the tokens of a text, or its first fault.
use Rattle.std.proofs.Common.{◌≡◌, ℕ, zero, suc, ◌-◌, ◌+◌, ◌<◌, ◌≤◌, ◌==◌, List, [], ◌∷◌, ◌++◌, length, drop, Bool, true, false, Option}
use Rattle.std.proofs.Common.{Some, None, Result, Ok, Err, refl, sym, ap, ◌∙◌, arith, inl, inr, ◌⊎◌, subst, if◌then◌else◌, IsSome}
use Rattle.std.specs.List.{list_any}
use Rattle.std.proofs.lemmas.Bool.{true≢false}
use Rattle.std.proofs.lemmas.List.{length-append, length-map, append-nil}
use Rattle.ec_space.specs.Listed.{Listed}
use Rattle.ec_grammar.specs.declared.token.Token.{Token}
use Rattle.ec_grammar.specs.declared.token.TokenKind.{TokenKind}
use Rattle.ec_grammar.specs.Tokens.{Lexeme, end, Placed, view_kind, view_tokens}
use Rattle.ec_lex.specs.declared.stop.Cause.{Cause}
use Rattle.ec_lex.specs.declared.stop.Cause.TheVariants.{BadByte, BadNumber, Unclosed, BadDirective}
use Rattle.ec_lex.specs.declared.stop.LexStop.{LexStop}
use Rattle.ec_lex.specs.declared.stop.LexStop.TheVariants as lex_stops
use Rattle.ec_lex.specs.declared.stop.Refusal.{Refusal}
use Rattle.ec_lex.specs.declared.stop.Refusal.TheVariants as stops
use Rattle.ec_lex.specs.declared.pieces.Form.{Form}
use Rattle.ec_lex.specs.declared.pieces.Form.TheVariants.{Space, LineComment, Comment, OpenComment, Identifier, Number, Character, Quote}
use Rattle.ec_lex.specs.declared.pieces.Form.TheVariants.{Punctuator, Directive}
use Rattle.ec_lex.specs.Pieces.{Is}
use Rattle.ec_lex.specs.Words.{Known}
use Rattle.ec_lex.specs.Directives.{Directed}
use Rattle.ec_lex.specs.Text.{nothing_known, Effect, passed, taken, fault, line_of, Does, space, line_comment, comment, open_comment}
use Rattle.ec_lex.specs.Text.{identifier, number, bad_number, character, bad_character, open_character, punctuator, directive}
use Rattle.ec_lex.specs.Text.{bad_directive, Steps, piece, stray, place, placed, Reads, here, pass, token, Tokens, IsFault, IsTooLong}
use Rattle.ec_lex.specs.Text.{IsRefused, Shows, IsFound}
use Rattle.ec_lex.specs.Reading.{piece_at, before, constant_of, directive_of, numbered, directed, does, step_by, step, Gives, told, IsAt}
use Rattle.ec_lex.proofs.Tables.{some_is}
use Rattle.ec_lex.proofs.LongestLaws.{longest-read, nothing-read, read-nothing, read-longest}
use Rattle.ec_lex.proofs.ConstantLaws.{constant-read, constant-given}
use Rattle.ec_lex.proofs.DirectiveLaws.{directive-read, directive-given}

-- ---- what a piece does

number_does : (s : Known) (t rest : List ℕ) (o : Option Lexeme) → constant_of t ≡ o → Does s rest Number t (numbered s o)
number_does s t rest None is = bad_number (λ k c. let e : None ≡ Some k = sym is ∙ constant-given t k c in cc)
number_does s t rest (Some k) is = number (constant-read t k is)

quote_does : (s : Known) (t rest : List ℕ) (v : Bool) → list_any (λ b. b == 39) (line_of rest) ≡ v
    → Does s rest Quote t (fault (if v then BadByte else Unclosed))
quote_does s t rest true is = bad_character is
quote_does s t rest false is = open_character is

directive_does : (s : Known) (line rest : List ℕ) (o : Option Directed) → directive_of s line ≡ o
    → Does s rest Directive (35 ∷ line) (directed s o)
directive_does s line rest None is = bad_directive (λ d c. let e : None ≡ Some d = sym is ∙ directive-given s line d c in cc)
directive_does s line rest (Some d) is = directive (directive-read s line d is)

does-read : (s : Known) (f : Form) (t rest : List ℕ) → Is s.line_start f t → Does s rest f t (does s f t rest)
unfolding does
does-read s Space t rest is = space
does-read s LineComment t rest is = line_comment
does-read s Comment t rest is = comment
does-read s OpenComment t rest is = open_comment
does-read s Identifier t rest is = identifier
does-read s Number t rest is = number_does s t rest (constant_of t) refl
does-read s (Character v) t rest is = character
does-read s Quote t rest is = quote_does s t rest (list_any (λ b. b == 39) (line_of rest)) refl
does-read s (Punctuator p) t rest is = punctuator
does-read s Directive t rest is = subst (λ (w : List ℕ). Does s rest Directive w (directed s (directive_of s (drop 1 w)))) (sym is.1)
    (directive_does s is.0 rest (directive_of s is.0) refl)

does-given : (s : Known) (f : Form) (t rest : List ℕ) (e : Effect) → Does s rest f t e → does s f t rest ≡ e
unfolding does
does-given s f t rest e space = refl
does-given s f t rest e line_comment = refl
does-given s f t rest e comment = refl
does-given s f t rest e open_comment = refl
does-given s f t rest e identifier = refl
does-given s f t rest e (number {k = k} c) = ap (numbered s) (constant-given t k c)
does-given s f t rest e (bad_number fails) = go (constant_of t) refl
  where
    go : (o : Option Lexeme) → constant_of t ≡ o → numbered s o ≡ fault BadNumber
    go None is = refl
    go (Some k) is = absurd (fails k (constant-read t k is))
does-given s f t rest e character = refl
does-given s f t rest e (bad_character is) = rw is refl
does-given s f t rest e (open_character is) = rw is refl
does-given s f t rest e punctuator = refl
does-given s f t rest e (directive {line = line} {d = d} c) = ap (directed s) (directive-given s line d c)
does-given s f t rest e (bad_directive {line = line} fails) = go (directive_of s line) refl
  where
    go : (o : Option Directed) → directive_of s line ≡ o → directed s o ≡ fault BadDirective
    go None is = refl
    go (Some d) is = absurd (fails d (directive-read s line d is))

-- ---- one step

steps_by : (s : Known) (b : ℕ) (bs : List ℕ) (o : Option (Form × List ℕ)) → piece_at s.line_start (b ∷ bs) ≡ o
    → Steps s (b ∷ bs) (step_by s (b ∷ bs) o).0 (step_by s (b ∷ bs) o).1
steps_by s b bs None is = stray (nothing-read s.line_start (b ∷ bs) is)
steps_by s b bs (Some x) is = let l = longest-read s.line_start (b ∷ bs) x is in piece l (does-read s x.0 (before (b ∷ bs) x.1) x.1 l.is)

steps-read : (s : Known) (b : ℕ) (bs : List ℕ) → Steps s (b ∷ bs) (step s (b ∷ bs)).0 (step s (b ∷ bs)).1
unfolding step
steps-read s b bs = steps_by s b bs (piece_at s.line_start (b ∷ bs)) refl

steps-given : (s : Known) (bs : List ℕ) (e : Effect) (rest : List ℕ) → Steps s bs e rest → step s bs ≡ (e, rest)
unfolding step
steps-given s bs e rest (piece {t = t} {f = f} l d) =
    let r = read-longest s.line_start bs f t rest l in
    rw r.0 (ap (λ (x : Effect). (x, rest)) (ap (λ (w : List ℕ). does s f w rest) (sym r.1) ∙ does-given s f t rest e d))
steps-given s bs e rest (stray {b = b} {bs = cs} nothing) = rw (read-nothing s.line_start (b ∷ cs) nothing) refl

no_steps : (s : Known) (e : Effect) (rest : List ℕ) → Steps s [] e rest → ⊥
unfolding piece_at
no_steps s e rest (piece {t = t} {f = f} l d) = let r = read-longest s.line_start [] f t rest l in let e : None ≡ Some (f, rest) = r.0 in cc

-- what a step on bytes that were left is
step_is : (s : Known) (rest : List ℕ) (e : Effect) (next : List ℕ) → 0 < length rest → (step s rest).0 ≡ e → (step s rest).1 ≡ next
    → Steps s rest e next
step_is s [] e next some h left = absurd (omega arith)
step_is s (b ∷ bs) e next some h left =
    subst (Steps s (b ∷ bs) e) left (subst (λ (x : Effect). Steps s (b ∷ bs) x (step s (b ∷ bs)).1) h (steps-read s b bs))

-- ---- one piece more

reads_pass : (size : ℕ) (s after final : Known) (bs rest next : List ℕ) (ts : List Placed) → Reads size s bs ts after rest
    → Steps after rest (passed final) next → Reads size s bs ts final next
reads_pass size s after final bs rest next ts here st = pass st here
reads_pass size s after final bs rest next ts (pass {s' = s'} {next = n} first r) st =
    pass first (reads_pass size s' after final n rest next ts r st)
reads_pass size s after final bs rest next ts (token {s' = s'} {next = n} {ts = more} first r) st =
    token first (reads_pass size s' after final n rest next more r st)

reads_token : (size : ℕ) (s after final : Known) (bs rest next : List ℕ) (ts : List Placed) (k : Lexeme) → Reads size s bs ts after rest
    → Steps after rest (taken k final) next → Reads size s bs (ts ++ placed size rest k ∷ []) final next
reads_token size s after final bs rest next ts k here st = token st here
reads_token size s after final bs rest next ts k (pass {s' = s'} {next = n} first r) st =
    pass first (reads_token size s' after final n rest next ts k r st)
reads_token size s after final bs rest next ts k (token {s' = s'} {next = n} {ts = more} first r) st =
    token first (reads_token size s' after final n rest next more k r st)

pub reads_more : (size : ℕ) (s after final : Known) (bs rest next : List ℕ) (ts : List Placed) (kind : Option TokenKind) (at : ℕ)
    → Reads size s bs ts after rest → 0 < length rest
    → Gives (Ok kind) final (step after rest).0 → (step after rest).1 ≡ next → at ≡ place size rest
    → Reads size s bs (ts ++ told at kind) final next
reads_more size s after final bs rest next ts None at r some h left is_at =
    rw append-nil (reads_pass size s after final bs rest next ts r (step_is after rest (passed final) next some h left))
reads_more size s after final bs rest next ts (Some k) at r some h left is_at = rw is_at
    (reads_token size s after final bs rest next ts (view_kind k) r (step_is after rest (taken (view_kind k) final) next some h left))

-- ---- where reading ends

-- the end of the text, a fault, or the first token too many
data Outcome : Type 0 where
  listed : List Placed → Outcome
  failed : Cause → ℕ → Outcome
  too_many : Outcome

put : Placed → Outcome → Outcome
put t (listed ts) = listed (t ∷ ts)
put t (failed cause at) = failed cause at
put t too_many = too_many

put_all : List Placed → Outcome → Outcome
put_all [] o = o
put_all (t ∷ ts) o = put t (put_all ts o)

-- with room for so many tokens more
data Leads (size : ℕ) : ℕ → Known → List ℕ → Outcome → Type 0 where
  ended : {room : ℕ} {s : Known} → Leads size room s [] (listed (placed size [] end ∷ []))
  goes : {room : ℕ} {s s' : Known} {b : ℕ} {bs next : List ℕ} {o : Outcome} → step s (b ∷ bs) ≡ (passed s', next)
      → Leads size room s' next o → Leads size room s (b ∷ bs) o
  takes : {room : ℕ} {s s' : Known} {b : ℕ} {bs next : List ℕ} {k : Lexeme} {o : Outcome} → step s (b ∷ bs) ≡ (taken k s', next)
      → Leads size room s' next o → Leads size (suc room) s (b ∷ bs) (put (placed size (b ∷ bs) k) o)
  full : {s s' : Known} {b : ℕ} {bs next : List ℕ} {k : Lexeme} → step s (b ∷ bs) ≡ (taken k s', next) → Leads size zero s (b ∷ bs) too_many
  faults : {room : ℕ} {s : Known} {b : ℕ} {bs next : List ℕ} {cause : Cause} → step s (b ∷ bs) ≡ (fault cause, next)
      → Leads size room s (b ∷ bs) (failed cause (place size (b ∷ bs)))

effects : (s : Known) (bs : List ℕ) (e e' : Effect) (n n' : List ℕ) → step s bs ≡ (e, n) → step s bs ≡ (e', n') → (e ≡ e') × (n ≡ n')
effects s bs e e' n n' h h' = (ap (λ (x : Effect × List ℕ). x.0) (sym h ∙ h'), ap (λ (x : Effect × List ℕ). x.1) (sym h ∙ h'))

passed_is : (s s' : Known) → passed s ≡ passed s' → s ≡ s'
passed_is s s' e = cc

taken_is : (k k' : Lexeme) (s s' : Known) → taken k s ≡ taken k' s' → (k ≡ k') × (s ≡ s')
taken_is k k' s s' e = (cc, cc)

fault_is : (c c' : Cause) → fault c ≡ fault c' → c ≡ c'
fault_is c c' e = cc

one_outcome : (size room : ℕ) (s : Known) (bs : List ℕ) (o o' : Outcome) → Leads size room s bs o → Leads size room s bs o' → o ≡ o'
unfolding put
one_outcome size room s bs o o' ended ended = refl
one_outcome size room s bs o o' (goes {s' = s1} {b = b} {bs = cs} {next = n1} e r) (goes {s' = s2} {next = n2} e' r') =
    let x = effects s (b ∷ cs) (passed s1) (passed s2) n1 n2 e e' in
    let y = passed_is s1 s2 x.0 in
    one_outcome size room s1 n1 o o' r
    (subst (λ (k : Known). Leads size room k n1 o') (sym y) (subst (λ (n : List ℕ). Leads size room s2 n o') (sym x.1) r'))
one_outcome size room s bs o o' (goes {s' = s1} {b = b} {bs = cs} {next = n1} e r) (takes {s' = s2} {next = n2} {k = k2} e' r') =
    let x = effects s (b ∷ cs) (passed s1) (taken k2 s2) n1 n2 e e' in
    let z : passed s1 ≡ taken k2 s2 = x.0 in
    cc
one_outcome size room s bs o o' (goes {s' = s1} {b = b} {bs = cs} {next = n1} e r) (full {s' = s2} {next = n2} {k = k2} e') =
    let x = effects s (b ∷ cs) (passed s1) (taken k2 s2) n1 n2 e e' in
    let z : passed s1 ≡ taken k2 s2 = x.0 in
    cc
one_outcome size room s bs o o' (goes {s' = s1} {b = b} {bs = cs} {next = n1} e r) (faults {next = n2} {cause = c2} e') =
    let x = effects s (b ∷ cs) (passed s1) (fault c2) n1 n2 e e' in
    let z : passed s1 ≡ fault c2 = x.0 in
    cc
one_outcome size room s bs o o' (takes {s' = s1} {b = b} {bs = cs} {next = n1} {k = k1} e r) (goes {s' = s2} {next = n2} e' r') =
    let x = effects s (b ∷ cs) (taken k1 s1) (passed s2) n1 n2 e e' in
    let z : taken k1 s1 ≡ passed s2 = x.0 in
    cc
one_outcome size room s bs o o' (takes {room = m} {s' = s1} {b = b} {bs = cs} {next = n1} {k = k1} {o = p} e r)
    (takes {s' = s2} {next = n2} {k = k2} {o = p'} e' r') =
    let x = effects s (b ∷ cs) (taken k1 s1) (taken k2 s2) n1 n2 e e' in
    let y = taken_is k1 k2 s1 s2 x.0 in
    let same : p ≡ p' = one_outcome size m s1 n1 p p' r
    (subst (λ (k : Known). Leads size m k n1 p') (sym y.1) (subst (λ (n : List ℕ). Leads size m s2 n p') (sym x.1) r')) in
    rw (y.0, same) refl
one_outcome size room s bs o o' (takes {s' = s1} {b = b} {bs = cs} {next = n1} {k = k1} e r) (faults {next = n2} {cause = c2} e') =
    let x = effects s (b ∷ cs) (taken k1 s1) (fault c2) n1 n2 e e' in
    let z : taken k1 s1 ≡ fault c2 = x.0 in
    cc
one_outcome size room s bs o o' (full {s' = s1} {b = b} {bs = cs} {next = n1} {k = k1} e) (goes {s' = s2} {next = n2} e' r') =
    let x = effects s (b ∷ cs) (taken k1 s1) (passed s2) n1 n2 e e' in
    let z : taken k1 s1 ≡ passed s2 = x.0 in
    cc
one_outcome size room s bs o o' (full e) (full e') = refl
one_outcome size room s bs o o' (full {s' = s1} {b = b} {bs = cs} {next = n1} {k = k1} e) (faults {next = n2} {cause = c2} e') =
    let x = effects s (b ∷ cs) (taken k1 s1) (fault c2) n1 n2 e e' in
    let z : taken k1 s1 ≡ fault c2 = x.0 in
    cc
one_outcome size room s bs o o' (faults {b = b} {bs = cs} {next = n1} {cause = c1} e) (goes {s' = s2} {next = n2} e' r') =
    let x = effects s (b ∷ cs) (fault c1) (passed s2) n1 n2 e e' in
    let z : fault c1 ≡ passed s2 = x.0 in
    cc
one_outcome size room s bs o o' (faults {b = b} {bs = cs} {next = n1} {cause = c1} e) (takes {s' = s2} {next = n2} {k = k2} e' r') =
    let x = effects s (b ∷ cs) (fault c1) (taken k2 s2) n1 n2 e e' in
    let z : fault c1 ≡ taken k2 s2 = x.0 in
    cc
one_outcome size room s bs o o' (faults {b = b} {bs = cs} {next = n1} {cause = c1} e) (full {s' = s2} {next = n2} {k = k2} e') =
    let x = effects s (b ∷ cs) (fault c1) (taken k2 s2) n1 n2 e e' in
    let z : fault c1 ≡ taken k2 s2 = x.0 in
    cc
one_outcome size room s bs o o' (faults {b = b} {bs = cs} {next = n1} {cause = c1} e) (faults {next = n2} {cause = c2} e') =
    let x = effects s (b ∷ cs) (fault c1) (fault c2) n1 n2 e e' in
    ap (λ (c : Cause). failed c (place size (b ∷ cs))) (fault_is c1 c2 x.0)

first_step : (size room : ℕ) (s : Known) (bs : List ℕ) (e : Effect) (next : List ℕ) → Steps s bs e next
    → (b : ℕ) × (cs : List ℕ) × (bs ≡ b ∷ cs)
first_step size room s [] e next st = absurd (no_steps s e next st)
first_step size room s (b ∷ bs) e next st = (b, bs, refl)

goes_on : (size room : ℕ) (s s' : Known) (bs next : List ℕ) (o : Outcome) → Steps s bs (passed s') next → Leads size room s' next o
    → Leads size room s bs o
goes_on size room s s' [] next o st l = absurd (no_steps s (passed s') next st)
goes_on size room s s' (b ∷ bs) next o st l = goes (steps-given s (b ∷ bs) (passed s') next st) l

takes_one : (size room : ℕ) (s s' : Known) (bs next : List ℕ) (k : Lexeme) (o : Outcome) → Steps s bs (taken k s') next
    → Leads size room s' next o → Leads size (suc room) s bs (put (placed size bs k) o)
takes_one size room s s' [] next k o st l = absurd (no_steps s (taken k s') next st)
takes_one size room s s' (b ∷ bs) next k o st l = takes (steps-given s (b ∷ bs) (taken k s') next st) l

is_full : (size : ℕ) (s s' : Known) (bs next : List ℕ) (k : Lexeme) → Steps s bs (taken k s') next → Leads size zero s bs too_many
is_full size s s' [] next k st = absurd (no_steps s (taken k s') next st)
is_full size s s' (b ∷ bs) next k st = full (steps-given s (b ∷ bs) (taken k s') next st)

at_fault : (size room : ℕ) (s : Known) (bs next : List ℕ) (cause : Cause) → Steps s bs (fault cause) next
    → Leads size room s bs (failed cause (place size bs))
at_fault size room s [] next cause st = absurd (no_steps s (fault cause) next st)
at_fault size room s (b ∷ bs) next cause st = faults (steps-given s (b ∷ bs) (fault cause) next st)

-- where the rest leads, the whole leads, with the tokens before it
reads_lead : (size n room : ℕ) (s after : Known) (bs rest : List ℕ) (ts : List Placed) (o : Outcome) → Reads size s bs ts after rest
    → n ≡ length ts + room → Leads size room after rest o → Leads size n s bs (put_all ts o)
unfolding put_all
reads_lead size n room s after bs rest ts o here e l = let same : n ≡ room = omega arith in rw same l
reads_lead size n room s after bs rest ts o (pass {s' = s'} {next = next} st r) e l =
    goes_on size n s s' bs next (put_all ts o) st (reads_lead size n room s' after next rest ts o r e l)
reads_lead size zero room s after bs rest ts o (token {ts = more} st r) e l = absurd (omega arith)
reads_lead size (suc n) room s after bs rest ts o (token {s' = s'} {next = next} {ts = more} {k = k} st r) e l =
    takes_one size n s s' bs next k (put_all more o) st (reads_lead size n room s' after next rest more o r (omega arith) l)

-- more tokens than there is room for
reads_full : (size room : ℕ) (s after : Known) (bs rest : List ℕ) (ts : List Placed) → Reads size s bs ts after rest → room < length ts
    → Leads size room s bs too_many
unfolding put
reads_full size room s after bs rest ts here many = absurd (omega arith)
reads_full size room s after bs rest ts (pass {s' = s'} {next = next} st r) many =
    goes_on size room s s' bs next too_many st (reads_full size room s' after next rest ts r many)
reads_full size zero s after bs rest ts (token {s' = s'} {next = next} {k = k} st r) many = is_full size s s' bs next k st
reads_full size (suc room) s after bs rest ts (token {s' = s'} {next = next} {ts = more} {k = k} st r) many =
    takes_one size room s s' bs next k too_many st (reads_full size room s' after next rest more r (omega arith))

put_all-listed : (ts more : List Placed) → put_all ts (listed more) ≡ listed (ts ++ more)
unfolding put put_all
put_all-listed [] more = refl
put_all-listed (t ∷ ts) more = ap (put t) (put_all-listed ts more)

put_all-failed : (ts : List Placed) (cause : Cause) (at : ℕ) → put_all ts (failed cause at) ≡ failed cause at
unfolding put put_all
put_all-failed [] cause at = refl
put_all-failed (t ∷ ts) cause at = ap (put t) (put_all-failed ts cause at)

abbrev Comes : List ℕ → Outcome → Type 0
Comes bytes o = Leads (length bytes) 65_535 nothing_known bytes o

tokens_come : (bytes : List ℕ) (list : List Placed) → Tokens bytes list → length list ≤ 65_536 → Comes bytes (listed list)
tokens_come bytes list t few =
    let n = length t.tokens in
    let short : n + 1 ≤ 65_536 = omega (arith, ap length t.ended, length-append t.tokens (placed (length bytes) [] end ∷ [])) in
    let l = reads_lead (length bytes) 65_535 (65_535 - n) nothing_known t.known bytes [] t.tokens
    (listed (placed (length bytes) [] end ∷ [])) t.reads (omega arith) ended in
    subst (Comes bytes) (put_all-listed t.tokens (placed (length bytes) [] end ∷ []) ∙ ap listed (sym t.ended)) l

fault_comes : (bytes : List ℕ) (cause : Cause) (at : ℕ) → IsFault bytes cause at → Comes bytes (failed cause at)
fault_comes bytes cause at f =
    let n = length f.tokens in
    let l = reads_lead (length bytes) 65_535 (65_535 - n) nothing_known f.known bytes f.rest f.tokens
    (failed cause (place (length bytes) f.rest)) f.reads (omega (arith, f.few))
    (at_fault (length bytes) (65_535 - n) f.known f.rest f.next cause f.stands) in
    subst (Comes bytes) (put_all-failed f.tokens cause (place (length bytes) f.rest) ∙ ap (failed cause) (sym f.is_at)) l

many_come : (bytes : List ℕ) → IsTooLong bytes → Comes bytes too_many
many_come bytes m = reads_full (length bytes) 65_535 nothing_known m.known bytes m.rest m.tokens m.reads (omega (arith, m.many))

-- the answer for an outcome
stop_of : Outcome → Option LexStop
stop_of (listed ts) = None
stop_of (failed BadByte at) = Some (lex_stops.BadByte at)
stop_of (failed BadNumber at) = Some (lex_stops.BadNumber at)
stop_of (failed Unclosed at) = Some (lex_stops.Unclosed at)
stop_of (failed BadDirective at) = Some (lex_stops.BadDirective at)
stop_of too_many = Some lex_stops.TooManyTokens

refusal_comes : (bytes : List ℕ) (stop : LexStop) → IsRefused bytes stop → (o : Outcome) × Comes bytes o × (stop_of o ≡ Some stop)
unfolding stop_of
refusal_comes bytes (lex_stops.BadByte at) f = (failed BadByte at, fault_comes bytes BadByte at f, refl)
refusal_comes bytes (lex_stops.BadNumber at) f = (failed BadNumber at, fault_comes bytes BadNumber at f, refl)
refusal_comes bytes (lex_stops.Unclosed at) f = (failed Unclosed at, fault_comes bytes Unclosed at f, refl)
refusal_comes bytes (lex_stops.BadDirective at) f = (failed BadDirective at, fault_comes bytes BadDirective at f, refl)
refusal_comes bytes lex_stops.TooManyTokens m = (too_many, many_come bytes m, refl)
refusal_comes bytes lex_stops.NoMemory f = absurd f

tokens_not_refused : (bytes : List ℕ) (list : List Placed) (stop : LexStop) → Tokens bytes list → length list ≤ 65_536
    → IsRefused bytes stop → ⊥
unfolding stop_of
tokens_not_refused bytes list stop t few f =
    let r = refusal_comes bytes stop f in
    let same : listed list ≡ r.0 =
    one_outcome (length bytes) 65_535 nothing_known bytes (listed list) r.0 (tokens_come bytes list t few) r.1 in
    let e : None ≡ Some stop = ap stop_of same ∙ r.2 in
    cc

listed_is : (ts us : List Placed) → listed ts ≡ listed us → ts ≡ us
listed_is ts us e = cc

-- ---- what was answered is the only answer

pub only_tokens : (bytes : List ℕ) (r : Result (Listed Token) LexStop) → IsFound bytes r → (list : List Placed) → Tokens bytes list
    → length list ≤ 65_536 → Shows list r
only_tokens bytes (Ok answer) found list t few =
    let short : length (view_tokens answer.items) ≤ 65_536 = simp length-map found.1 in
    listed_is (view_tokens answer.items) list (one_outcome (length bytes) 65_535 nothing_known bytes (listed (view_tokens answer.items))
    (listed list) (tokens_come bytes (view_tokens answer.items) found.0 short) (tokens_come bytes list t few))
only_tokens bytes (Err stop) (inl e) list t few = e
only_tokens bytes (Err stop) (inr f) list t few = absurd (tokens_not_refused bytes list stop t few f)

pub only_refused : (bytes : List ℕ) (r : Result (Listed Token) LexStop) → IsFound bytes r → (stop : LexStop) → IsRefused bytes stop
    → (r ≡ Err stop) ⊎ (r ≡ Err lex_stops.NoMemory)
only_refused bytes (Ok answer) found stop f =
    let short : length (view_tokens answer.items) ≤ 65_536 = simp length-map found.1 in
    absurd (tokens_not_refused bytes (view_tokens answer.items) stop found.0 short f)
only_refused bytes (Err other) (inl e) stop f = inr (ap (λ (x : LexStop). Err x) e)
only_refused bytes (Err other) (inr g) stop f =
    let one = refusal_comes bytes other g in
    let two = refusal_comes bytes stop f in
    let same : one.0 ≡ two.0 = one_outcome (length bytes) 65_535 nothing_known bytes one.0 two.0 one.1 two.1 in
    inl (ap (λ (x : LexStop). Err x) (some_is other stop (sym one.2 ∙ ap stop_of same ∙ two.2)))

-- ---- the answers of the loop

pub ended_tokens : (bytes : List ℕ) (ts : List Placed) (known : Known) (rest : List ℕ)
    → Reads (length bytes) nothing_known bytes ts known rest → length rest ≡ 0
    → Tokens bytes (ts ++ record { at = length bytes; lexeme = end } ∷ [])
ended_tokens bytes ts known [] r none = record {
  tokens = ts;
  known = known;
  reads = r;
  ended = ap (λ (n : ℕ). ts ++ record { at = n; lexeme = end } ∷ []) (omega arith);
}
ended_tokens bytes ts known (b ∷ rest) r none = absurd (omega arith)

pub stopped : (bytes : List ℕ) (ts : List Placed) (known known' : Known) (rest : List ℕ) (stop : Refusal) (at : ℕ) (answer : LexStop)
    → Reads (length bytes) nothing_known bytes ts known rest → length ts ≤ 65_535 → 0 < length rest
    → Gives (Err stop) known' (step known rest).0 → at ≡ place (length bytes) rest → IsAt stop at answer
    → (answer ≡ lex_stops.NoMemory) ⊎ IsRefused bytes answer
stopped bytes ts known known' rest stops.NoMemory at answer r few some h is_at e = inl e
stopped bytes ts known known' rest (stops.Fault cause) at answer r few some h is_at e = inr (go cause (record {
  tokens = ts;
  known = known;
  rest = rest;
  next = (step known rest).1;
  reads = r;
  few = few;
  stands = step_is known rest (fault cause) (step known rest).1 some h refl;
  is_at = is_at;
}) e)
  where
    go : (c : Cause) → IsFault bytes c at → IsAt (stops.Fault c) at answer → IsRefused bytes answer
    go BadByte f e = subst (IsRefused bytes) (sym e) f
    go BadNumber f e = subst (IsRefused bytes) (sym e) f
    go Unclosed f e = subst (IsRefused bytes) (sym e) f
    go BadDirective f e = subst (IsRefused bytes) (sym e) f

pub too_long : (bytes : List ℕ) (ts : List Placed) (known known' : Known) (rest next : List ℕ) (kind : Option TokenKind) (at : ℕ)
    → Reads (length bytes) nothing_known bytes ts known rest → 0 < length rest
    → Gives (Ok kind) known' (step known rest).0 → (step known rest).1 ≡ next → at ≡ place (length bytes) rest → IsSome kind
    → length ts ≡ 65_535 → IsTooLong bytes
too_long bytes ts known known' rest next None at r some h left is_at is_some at_most = absurd (true≢false (sym is_some))
too_long bytes ts known known' rest next (Some k) at r some h left is_at is_some at_most =
    record {
      tokens = ts ++ told at (Some k);
      known = known';
      rest = next;
      reads = reads_more (length bytes) nothing_known known known' bytes rest next ts (Some k) at r some h left is_at;
      many = omega (arith, length-append ts (told at (Some k)), at_most);
    }

pub starts : (bytes : List ℕ) (ts : List Placed) (known : Known) → ts ≡ [] → known ≡ nothing_known
    → Reads (length bytes) nothing_known bytes ts known bytes
starts bytes ts known none nothing = subst (λ (us : List Placed). Reads (length bytes) nothing_known bytes us known bytes) (sym none)
    (subst (λ (k : Known). Reads (length bytes) nothing_known bytes [] k bytes) (sym nothing) here)

pub some_left : (bs : List ℕ) → (length bs == 0) ≡ false → 0 < length bs
some_left [] h = absurd (true≢false h)
some_left (b ∷ bs) h = omega arith

pub not_noted : (bytes : List ℕ) (stop : LexStop) (kind : Option TokenKind) (items : List Token)
    → (IsSome kind → length (view_tokens items) ≡ 65_535 → IsTooLong bytes)
    → (stop ≡ lex_stops.NoMemory) ⊎ ((stop ≡ lex_stops.TooManyTokens) × IsSome kind × (length items ≡ 65_535))
    → (stop ≡ lex_stops.NoMemory) ⊎ IsRefused bytes stop
not_noted bytes stop kind items long (inl e) = inl e
not_noted bytes stop kind items long (inr e) = inr (subst (IsRefused bytes) (sym e.0) (long e.1 (simp length-map e.2)))
