-- Trying one kind of token after the other.
use Rattle.std.proofs.Common.{◌≡◌, ◌↔◌, inl, inr, ℕ, suc, ◌<◌, ◌+◌, List, [], ◌∷◌, ◌++◌}
use Rattle.std.proofs.Common.{length, take, get_or, set, refl, sym, ◌∙◌, ap, subst, arith, length-append}
use Rattle.std.specs.Prelude.{Bool, true, false, Some, None}
use Rattle.std.proofs.lemmas.List.{take-take, take-append-le, take-set, set-append_left, map-set, get_or_append_left}
use Rattle.std.proofs.Math.Seq.{take-suc-set, get_or-append_seam}
use Rattle.std.proofs.Math.ListN.{length-set}
use Rattle.std.proofs.lemmas.Option.{none-some}
use Rattle.std.proofs.lemmas.List.{map-append}
use Rattle.ec_grammar.specs.declared.token.Token.{Token}
use Rattle.ec_grammar.specs.declared.token.TokenKind.{TokenKind}
use Rattle.ec_grammar.specs.Tokens.{Lexeme, Placed, view_kind, view_token, view_tokens}
use Rattle.ec_grammar.specs.Tokens as tokens
use Rattle.ec_parse_laws.specs.Passing.{BeginsProgram, PassesAtLast}
use Rattle.ec_parse_laws.specs.Refusals.{EndsWithEnd, StopsBehind}
use Rattle.ec_where_expected.specs.declared.candidates.Candidate.{Candidate}
use Rattle.ec_where_expected.specs.Expected.{IsGoodFront, MayStand, TellFirst, candidate_at, lexeme_of, placed}
use Rattle.ec_where_expected.proofs.Fronts.{lt_or_le}

-- after so many kinds the flags tell of these, and the tokens that are tried are those of the text up to the place
pub record IsTried (k n : ℕ) (text tried : List Placed) (flags : List Bool) : Type 0 where
  pub count : length flags ≡ n
  pub tell : TellFirst (take k text) flags
  pub same : take k tried ≡ take k text
  pub longer : length tried ≡ length text + 1
  pub ended : EndsWithEnd tried

pub tried_first : (k : ℕ) (text : List Placed) (x : Placed) → k < length text → x.lexeme ≡ tokens.end → IsTried k 0 text (text ++ x ∷ []) []
tried_first k text x l e = record {
  count = refl;
  tell = λ i c below. absurd (omega arith);
  same = take-append-le k text (x ∷ []) (omega arith);
  longer = length-append text (x ∷ []);
  ended = (text, x, refl, e);
}

-- a token before the end is exchanged
ended_set : (k : ℕ) (all : List Placed) (x : Placed) → suc k < length all → EndsWithEnd all → EndsWithEnd (set all k x)
ended_set k all x l (before, last, e, is) =
    let size : length all ≡ length before + 1 = ap length e ∙ length-append before (last ∷ []) in
    (set before k x, last, ap (λ l. set l k x) e ∙ set-append_left before (last ∷ []) k x (omega arith), is)

tell_more : (front : List Placed) (flags : List Bool) (n : ℕ) (b : Bool) (c : Candidate) → length flags ≡ n → TellFirst front flags
    → candidate_at n ≡ Some c → (b ≡ true) ↔ MayStand front c → TellFirst front (flags ++ b ∷ [])
tell_more front flags n b c count tell here is i d below at =
    let size : length (flags ++ b ∷ []) ≡ length flags + 1 = length-append flags (b ∷ []) in
    elim (lt_or_le i (length flags)) as (λ _. (get_or (flags ++ b ∷ []) i false ≡ true) ↔ MayStand front d) [
      | inl less ↦
          let flag = get_or_append_left flags (b ∷ []) false i less in
          subst (λ (v : Bool). (v ≡ true) ↔ MayStand front d) (sym flag) (tell i d less at)
      | inr more ↦
          let last : i ≡ length flags = omega arith in
          let flag : get_or (flags ++ b ∷ []) i false ≡ b =
          ap (λ j. get_or (flags ++ b ∷ []) j false) last ∙ get_or-append_seam flags b [] false in
          let kind : Some c ≡ Some d = sym here ∙ ap candidate_at (sym (last ∙ count)) ∙ at in
          let same : c ≡ d = cc in
          subst (λ (v : Bool). (v ≡ true) ↔ MayStand front d) (sym flag) (subst (λ (x : Candidate). (b ≡ true) ↔ MayStand front x) same is)
    ]

good_same : (k : ℕ) (a b : List Placed) → take k a ≡ take k b → IsGoodFront k b → IsGoodFront k a
good_same k a b e good = (
  subst BeginsProgram (sym e) good.0,
  λ j below passes. good.1 j below (subst (PassesAtLast 64)
      (sym (take-take (suc j) k a (omega arith)) ∙ ap (take (suc j)) e ∙ take-take (suc j) k b (omega arith)) passes),
)

good_first : (k : ℕ) (text : List Placed) → StopsBehind 64 k text → IsGoodFront k text
good_first k text stops = (stops.1, stops.3)

-- the list with the next kind at the place can be judged
pub set_ended : (k n : ℕ) (text tried : List Placed) (flags : List Bool) (x : Placed) → k < length text → IsTried k n text tried flags
    → EndsWithEnd (set tried k x)
set_ended k n text tried flags x l h = let size = h.longer in ended_set k tried x (omega arith) h.ended

pub set_good : (k n : ℕ) (text tried : List Placed) (flags : List Bool) (x : Placed) → StopsBehind 64 k text → IsTried k n text tried flags
    → IsGoodFront k (set tried k x)
set_good k n text tried flags x stops h =
    good_same k (set tried k x) text (take-set tried k x ∙ h.same) (good_first k text stops)

pub tried_more : (k n : ℕ) (text tried : List Placed) (flags : List Bool) (b : Bool) (c : Candidate) → k < length text
    → IsTried k n text tried flags → candidate_at n ≡ Some c
    → (b ≡ true) ↔ BeginsProgram (take (suc k) (set tried k (placed c))) → IsTried k (n + 1) text (set tried k (placed c)) (flags ++ b ∷ [])
tried_more k n text tried flags b c l h at is =
    let size = h.longer in
    let front : take (suc k) (set tried k (placed c)) ≡ take k text ++ placed c ∷ [] =
    take-suc-set tried k (placed c) (omega arith) ∙ ap (λ l. l ++ placed c ∷ []) h.same in
    let counted = h.count in
    let grown : length (flags ++ b ∷ []) ≡ length flags + 1 = length-append flags (b ∷ []) in
    let kept : length (set tried k (placed c)) ≡ length tried = length-set tried k (placed c) in
    record {
      count = omega arith;
      tell = tell_more (take k text) flags n b c h.count h.tell at (subst (λ l. (b ≡ true) ↔ BeginsProgram l) front is);
      same = take-set tried k (placed c) ∙ h.same;
      longer = omega arith;
      ended = ended_set k tried (placed c) (omega arith) h.ended;
    }

-- where there is no such kind, nothing is tried
tell_none : (front : List Placed) (flags : List Bool) (n : ℕ) → length flags ≡ n → TellFirst front flags → candidate_at n ≡ None
    → TellFirst front (flags ++ false ∷ [])
tell_none front flags n count tell none i d below at =
    let size : length (flags ++ false ∷ []) ≡ length flags + 1 = length-append flags (false ∷ []) in
    elim (lt_or_le i (length flags)) as (λ _. (get_or (flags ++ false ∷ []) i false ≡ true) ↔ MayStand front d) [
      | inl less ↦
          let flag = get_or_append_left flags (false ∷ []) false i less in
          subst (λ (v : Bool). (v ≡ true) ↔ MayStand front d) (sym flag) (tell i d less at)
      | inr more ↦
          let last : i ≡ n = omega (arith, count) in
          absurd (none-some d (sym none ∙ ap candidate_at (sym last) ∙ at))
    ]

pub tried_none : (k n : ℕ) (text tried : List Placed) (flags : List Bool) → IsTried k n text tried flags → candidate_at n ≡ None
    → IsTried k (n + 1) text tried (flags ++ false ∷ [])
tried_none k n text tried flags h none =
    let counted = h.count in
    let grown : length (flags ++ false ∷ []) ≡ length flags + 1 = length-append flags (false ∷ []) in
    record {
      count = omega arith;
      tell = tell_none (take k text) flags n h.count h.tell none;
      same = h.same;
      longer = h.longer;
      ended = h.ended;
    }

-- ---- the same of lists of tokens

pub push_view : (old new : List Token) (x : Token) → new ≡ old ++ x ∷ [] → view_tokens new ≡ view_tokens old ++ view_token x ∷ []
push_view old new x e = ap view_tokens e ∙ map-append view_token old (x ∷ [])

pub put_view : (old new : List Token) (k : ℕ) (kind : TokenKind) (c : Candidate) → new ≡ set old k (record { at = 0; kind = kind })
    → view_kind kind ≡ lexeme_of c → view_tokens new ≡ set (view_tokens old) k (placed c)
put_view old new k kind c e same =
    ap view_tokens e ∙ map-set view_token old k (record { at = 0; kind = kind })
    ∙ ap (λ (x : Lexeme). set (view_tokens old) k (record { at = 0; lexeme = x })) same
