-- Reading a directive gives exactly what it says.
use Rattle.std.proofs.Common.{◌≡◌, ℕ, zero, suc, ◌+◌, ◌<◌, ◌≤◌, ◌==◌, ◌&&◌, ◌||◌, List, [], ◌∷◌, ◌++◌, length, take, drop, Bool, true}
use Rattle.std.proofs.Common.{false, Option, Some, None, option_map, is_some, refl, sym, ap, ◌∙◌, arith, inl, inr, ◌⊎◌, subst, add-one}
use Rattle.std.proofs.Common.{if◌then◌else◌, nat_eq}
use Rattle.std.specs.Prelude.{codes}
use Rattle.std.specs.List.{prefix_len}
use Rattle.std.proofs.lemmas.Bool.{eqb-true, and_parts, cond_both, cond-true, cond-false, true≢false, or_parts}
use Rattle.std.proofs.lemmas.Bool.Decides.{nat_tests}
use Rattle.std.proofs.lemmas.List.{length-drop, take_at, drop_at, take-append-drop}
use Rattle.ec_grammar.specs.Tokens.{Lexeme}
use Rattle.ec_lex.specs.declared.stop.Header.{Header}
use Rattle.ec_lex.specs.declared.pieces.Form.{Form}
use Rattle.ec_lex.specs.declared.pieces.Form.TheVariants.{Space, LineComment, Comment, OpenComment, Identifier, Number, Character, Quote}
use Rattle.ec_lex.specs.declared.pieces.Form.TheVariants.{Punctuator, Directive}
use Rattle.ec_lex.specs.Bytes.{is_space, is_letter, is_digit, is_word, begins}
use Rattle.ec_lex.specs.Pieces.{comment_end, Pass, Lists, Is, Longest}
use Rattle.ec_lex.specs.Words.{Known, same, look_up, known_word}
use Rattle.ec_lex.specs.Directives.{Directed, include, define, set, ignored, headers, pragmas, states_of, Gap, none, space, comment, Ends}
use Rattle.ec_lex.specs.Directives.{Word, Value, Quiet, done, line_comment, comment as quiet_comment, other, IsDirective, includes, defines}
use Rattle.ec_lex.specs.Directives.{sets, passes}
use Rattle.ec_lex.specs.Reading.{after_comment, after_blank_at, after_byte_at, skip, is_quiet, is_end, identifier_at, header_at}
use Rattle.ec_lex.specs.Reading.{pragma_named, state_named, before, value_of, value_at, include_of, is_taken, define_of, set_of, pragma_by}
use Rattle.ec_lex.specs.Reading.{pragma_of, directive_of, piece_at, constant_of}
use Rattle.ec_lex.proofs.Runs.{prefix_passes}
use Rattle.ec_lex.proofs.Tables.{some_is, same_bytes, first_prefix-found}
use Rattle.ec_lex.proofs.Gaps.{skip_more, skip_stays, quiet_at_end, quiet_more, quiet_open}
use Rattle.ec_lex.proofs.LongestLaws.{longest-read, read-longest}
use Rattle.ec_lex.proofs.ConstantLaws.{Each, each_then, each_map, prefix_exact, constant-read, constant-given}

same_is : (a b : List ℕ) → same a b ≡ true → a ≡ b
same_is [] [] h = refl
same_is [] (y ∷ ys) h = cc
same_is (x ∷ xs) [] h = cc
same_is (x ∷ xs) (y ∷ ys) h =
    let parts = and_parts (nat_eq x y) (same xs ys) h in
    let head : x ≡ y = eqb-true x y parts.0 in
    rw head (ap (λ (t : List ℕ). y ∷ t) (same_is xs ys parts.1))

-- ---- gaps

after_comment_is : (bs r : List ℕ) → after_comment bs ≡ Some r → (n : ℕ) × (comment_end bs ≡ Some n) × (r ≡ drop n bs)
after_comment_is bs r h = go (comment_end bs) refl h
  where
    go : (o : Option ℕ) → comment_end bs ≡ o → option_map (λ n. drop n bs) o ≡ Some r
        → (n : ℕ) × (comment_end bs ≡ Some n) × (r ≡ drop n bs)
    go None is e = cc
    go (Some n) is e = (n, is, sym (some_is (drop n bs) r e))

at_block : (b : ℕ) (bs : List ℕ) → ((b == 47) && begins (λ c. c == 42) bs) ≡ true → (rest : List ℕ) × (b ≡ 47) × (bs ≡ 42 ∷ rest)
at_block b [] h = let parts = and_parts (b == 47) false h in cc
at_block b (c ∷ bs) h =
    let parts = and_parts (b == 47) (c == 42) h in
    (bs, eqb-true b 47 parts.0, ap (λ (n : ℕ). n ∷ bs) (eqb-true c 42 parts.1))

block_gap : (bs r rest : List ℕ) → after_comment bs ≡ Some r → Gap r rest → Gap (47 ∷ 42 ∷ bs) rest
block_gap bs r rest h g = let a = after_comment_is bs r h in comment a.1 (subst (λ (w : List ℕ). Gap w rest) a.2 g)

blank_gap : (bs r rest : List ℕ) → after_blank_at bs ≡ Some r → Gap r rest → Gap bs rest
blank_gap [] r rest h g = cc
blank_gap (b ∷ bs) r rest h g = go (is_space b) refl
  where
    no_space : (v : Bool) → ((b == 47) && begins (λ c. c == 42) bs) ≡ v → (if v then after_comment (drop 1 bs) else None) ≡ Some r
        → Gap (b ∷ bs) rest
    no_space true is e =
        let a = at_block b bs is in
        let inside : after_comment a.0 ≡ Some r = subst (λ (w : List ℕ). after_comment (drop 1 w) ≡ Some r) a.2 e in
        rw (a.1, a.2) (block_gap a.0 r rest inside g)
    no_space false is e = cc

    go : (v : Bool) → is_space b ≡ v → Gap (b ∷ bs) rest
    go true is =
        let e : bs ≡ r = some_is bs r (sym (cond-true (is_space b) (Some bs) _ is) ∙ h) in
        space is (subst (λ (w : List ℕ). Gap w rest) (sym e) g)
    go false is = no_space ((b == 47) && begins (λ c. c == 42) bs) refl (sym (cond-false (is_space b) (Some bs) _ is) ∙ h)

comment_shorter : (bs r : List ℕ) → after_comment (drop 1 bs) ≡ Some r → length r < suc (length bs)
comment_shorter bs r h =
    let a = after_comment_is (drop 1 bs) r h in
    omega (arith, ap length a.2, length-drop a.0 (drop 1 bs), length-drop 1 bs)

blank_shorter : (bs r : List ℕ) → after_blank_at bs ≡ Some r → length r < length bs
blank_shorter [] r h = cc
blank_shorter (b ∷ bs) r h = go (is_space b) refl
  where
    no_space : (v : Bool) → (if v then after_comment (drop 1 bs) else None) ≡ Some r → length r < suc (length bs)
    no_space true e = comment_shorter bs r e
    no_space false e = cc

    go : (v : Bool) → is_space b ≡ v → length r < suc (length bs)
    go true is = let e : bs ≡ r = some_is bs r (sym (cond-true (is_space b) (Some bs) _ is) ∙ h) in omega (arith, ap length e)
    go false is = no_space ((b == 47) && begins (λ c. c == 42) bs) (sym (cond-false (is_space b) (Some bs) _ is) ∙ h)

-- what is skipped is a gap
gap_by : (n : ℕ) (bs : List ℕ) → length bs ≤ n → Gap bs (skip bs)
gap_by zero bs fits = stop (after_blank_at bs) refl
  where
    stop : (o : Option (List ℕ)) → after_blank_at bs ≡ o → Gap bs (skip bs)
    stop None is = subst (Gap bs) (skip_stays bs (sym is)) none
    stop (Some r) is = absurd (omega (arith, blank_shorter bs r is))
gap_by (suc n) bs fits = go (λ r. gap_by n r) (after_blank_at bs) refl
  where
    go : ((r : List ℕ) → length r ≤ n → Gap r (skip r)) → (o : Option (List ℕ)) → after_blank_at bs ≡ o → Gap bs (skip bs)
    go more None is = subst (Gap bs) (skip_stays bs (sym is)) none
    go more (Some r) is =
        blank_gap bs r (skip bs) is (subst (Gap r) (skip_more bs r (sym is)) (more r (omega (arith, blank_shorter bs r is))))

gap_skip : (bs : List ℕ) → Gap bs (skip bs)
gap_skip bs = gap_by (length bs) bs (omega arith)

-- and each gap is skipped
gap_skips : (bs r : List ℕ) → Gap bs r → skip bs ≡ skip r
gap_skips bs r none = refl
gap_skips bs r (space {b = b} {bs = cs} is g) = sym (skip_more (b ∷ cs) cs (sym (cond-true (is_space b) (Some cs) _ is))) ∙ gap_skips cs r g
gap_skips bs r (comment {n = n} {bs = cs} is g) = sym (skip_more (47 ∷ 42 ∷ cs) (drop n cs) (rw is refl)) ∙ gap_skips (drop n cs) r g

-- ---- the end of a line

end_is : (bs : List ℕ) → is_end bs ≡ true → (bs ≡ []) ⊎ ((body : List ℕ) × (bs ≡ 47 ∷ 47 ∷ body))
end_is [] h = inl refl
end_is (b ∷ []) h = let parts = and_parts (b == 47) false h in cc
end_is (b ∷ c ∷ bs) h =
    let parts = and_parts (b == 47) (c == 47) h in
    let first : b ≡ 47 = eqb-true b 47 parts.0 in
    let second : c ≡ 47 = eqb-true c 47 parts.1 in
    inr (bs, rw (first, second) refl)

ends_read : (bs : List ℕ) → is_end (skip bs) ≡ true → Ends bs
ends_read bs h = record { rest = skip bs; gap = gap_skip bs; end = end_is (skip bs) h }

end_stays : (r : List ℕ) → (r ≡ []) ⊎ ((body : List ℕ) × (r ≡ 47 ∷ 47 ∷ body)) → is_end (skip r) ≡ true
end_stays r (inl e) =
    subst (λ (w : List ℕ). is_end (skip w) ≡ true) (sym e) (subst (λ (w : List ℕ). is_end w ≡ true) (skip_stays [] refl) refl)
end_stays r (inr e) = subst (λ (w : List ℕ). is_end (skip w) ≡ true) (sym e.1)
    (subst (λ (w : List ℕ). is_end w ≡ true) (skip_stays (47 ∷ 47 ∷ e.0) refl) refl)

ends_given : (bs : List ℕ) → Ends bs → is_end (skip bs) ≡ true
ends_given bs e = subst (λ (w : List ℕ). is_end w ≡ true) (sym (gap_skips bs e.rest e.gap)) (end_stays e.rest e.end)

-- ---- words

prefix_stops : (test : ℕ → Bool) (bs : List ℕ) → begins test (drop (prefix_len test bs) bs) ≡ false
prefix_stops test [] = refl
prefix_stops test (b ∷ bs) = go (prefix_stops test bs) (test b) refl
  where
    go : begins test (drop (prefix_len test bs) bs) ≡ false → (v : Bool) → test b ≡ v
        → begins test (drop (prefix_len test (b ∷ bs)) (b ∷ bs)) ≡ false
    go more true is = let k : prefix_len test (b ∷ bs) ≡ suc (prefix_len test bs) = rw is (omega arith) in rw k more
    go more false is = let k : prefix_len test (b ∷ bs) ≡ 0 = rw is refl in rw k is

word_read : (bs : List ℕ) (x : List ℕ × List ℕ) → identifier_at bs ≡ Some x → Word x.0 bs x.1
word_read [] x h = cc
word_read (b ∷ bs) x h = go (is_letter b) refl h
  where
    go : (v : Bool) → is_letter b ≡ v
        → (if v then Some (take (prefix_len is_word bs + 1) (b ∷ bs), drop (prefix_len is_word bs) bs) else None) ≡ Some x
        → Word x.0 (b ∷ bs) x.1
    go true letter e =
        let n = prefix_len is_word bs in
        let is = some_is (take (n + 1) (b ∷ bs), drop n bs) x e in
        let w : b ∷ take n bs ≡ x.0 = (rw add-one refl) ∙ ap (λ (y : List ℕ × List ℕ). y.0) is in
        let r : drop n bs ≡ x.1 = ap (λ (y : List ℕ × List ℕ). y.1) is in
        let here : Word (b ∷ take n bs) (b ∷ bs) (drop n bs) = record {
          is = (letter, prefix_passes is_word bs);
          front = ap (λ (t : List ℕ). b ∷ t) (sym (take-append-drop n bs));
          whole_word = prefix_stops is_word bs;
        } in
        subst (λ (t : List ℕ). Word t (b ∷ bs) x.1) w (subst (Word (b ∷ take n bs) (b ∷ bs)) r here)
    go false letter e = cc

word_prefix : (b : ℕ) (u rest : List ℕ) → is_letter b ≡ true → Pass is_word u → begins is_word rest ≡ false
    → identifier_at (b ∷ u ++ rest) ≡ Some (b ∷ u, rest)
word_prefix b u rest letter pass ends =
    let n : prefix_len is_word (u ++ rest) ≡ length u = prefix_exact is_word u rest pass ends in
    cond-true (is_letter b) _ _ letter ∙ rw (n, add-one, take_at u rest (length u) refl, drop_at u rest (length u) refl) refl

letter_solid : (b : ℕ) → is_letter b ≡ true → (is_space b ≡ false) × ((b == 47) ≡ false)
letter_solid b h = (grind (arith, nat_tests), grind (arith, nat_tests))

-- bytes that begin so are not skipped
solid : (b : ℕ) (bs : List ℕ) → is_space b ≡ false → (b == 47) ≡ false → skip (b ∷ bs) ≡ b ∷ bs
solid b bs no_space no_slash = sym (skip_stays (b ∷ bs) (rw (no_space, no_slash) refl))

word_stays : (w bs rest : List ℕ) → Word w bs rest → (skip bs ≡ bs) × (identifier_at bs ≡ Some (w, rest))
word_stays [] bs rest w = absurd w.is
word_stays (b ∷ u) bs rest w =
    let k = letter_solid b w.is.0 in (
      subst (λ (t : List ℕ). skip t ≡ t) (sym w.front) (solid b (u ++ rest) k.0 k.1),
      subst (λ (t : List ℕ). identifier_at t ≡ Some (b ∷ u, rest)) (sym w.front) (word_prefix b u rest w.is.0 w.is.1 w.whole_word),
    )

word_after : (line a w b : List ℕ) → Gap line a → Word w a b → identifier_at (skip line) ≡ Some (w, b)
word_after line a w b g word =
    let s = word_stays w a b word in
    ap identifier_at (gap_skips line a g ∙ s.0) ∙ s.1

-- ---- headers and values

header_read : (c : List ℕ) (x : Header × List ℕ) → header_at c ≡ Some x
    → (spelling : List ℕ) × Lists headers spelling x.0 × (c ≡ spelling ++ x.1)
unfolding header_at
header_read c x h = first_prefix-found c headers x.0 x.1 h

header_given : (spelling c d : List ℕ) (h : Header) → Lists headers spelling h → c ≡ spelling ++ d
    → (skip c ≡ c) × (header_at c ≡ Some (h, d))
unfolding header_at
header_given spelling c d h (inl is) e =
    let front : c ≡ codes "<stdint.h>" ++ d = e ∙ ap (λ (w : List ℕ). w ++ d) is.0 in
    (subst (λ (w : List ℕ). skip w ≡ w) (sym front) (solid _ _ refl refl), rw (front, is.1) refl)
header_given spelling c d h (inr (inl is)) e =
    let front : c ≡ codes "<stdfix.h>" ++ d = e ∙ ap (λ (w : List ℕ). w ++ d) is.0 in
    (subst (λ (w : List ℕ). skip w ≡ w) (sym front) (solid _ _ refl refl), rw (front, is.1) refl)
header_given spelling c d h (inr (inr (inl is))) e =
    let front : c ≡ codes "<iohw.h>" ++ d = e ∙ ap (λ (w : List ℕ). w ++ d) is.0 in
    (subst (λ (w : List ℕ). skip w ≡ w) (sym front) (solid _ _ refl refl), rw (front, is.1) refl)
header_given spelling c d h (inr (inr (inr is))) e = absurd is

value_of_read : (bs : List ℕ) (f : Form) (t rest : List ℕ) → Longest false bs f t rest → Each (λ y. Value y.0 bs y.1) (value_of f t rest)
value_of_read bs Number t rest l =
    each_map (λ y. Value y.0 bs y.1) (λ (k : Lexeme). (k, rest)) (constant_of t) (λ k h. inl (t, l, constant-read t k h))
value_of_read bs (Character v) t rest l = inr (v, t, l, refl)
value_of_read bs Space t rest l = tt
value_of_read bs LineComment t rest l = tt
value_of_read bs Comment t rest l = tt
value_of_read bs OpenComment t rest l = tt
value_of_read bs Identifier t rest l = tt
value_of_read bs Quote t rest l = tt
value_of_read bs (Punctuator p) t rest l = tt
value_of_read bs Directive t rest l = tt

value_read : (bs : List ℕ) → Each (λ y. Value y.0 bs y.1) (value_at bs)
unfolding value_at
value_read bs = each_then (λ y. Value y.0 bs y.1) (λ x. value_of x.0 (before bs x.1) x.1) (piece_at false bs)
    (λ x h. value_of_read bs x.0 (before bs x.1) x.1 (longest-read false bs x h))

digit_solid : (b : ℕ) → is_digit b ≡ true → (is_space b ≡ false) × ((b == 47) ≡ false)
digit_solid b h = (grind (arith, nat_tests), grind (arith, nat_tests))

number_solid : (t rest : List ℕ) → Is false Number t → skip (t ++ rest) ≡ t ++ rest
number_solid [] rest (inl is) = absurd is
number_solid (b ∷ t) rest (inl is) = let k = digit_solid b is.0 in solid b (t ++ rest) k.0 k.1
number_solid t rest (inr is) = subst (λ (w : List ℕ). skip (w ++ rest) ≡ w ++ rest) (sym is.1) (solid 46 (is.0 ++ rest) refl refl)

character_solid : (t rest : List ℕ) (v : ℕ) → Is false (Character v) t → skip (t ++ rest) ≡ t ++ rest
character_solid t rest v (inl is) = subst (λ (w : List ℕ). skip (w ++ rest) ≡ w ++ rest) (sym is.0) (solid 39 _ refl refl)
character_solid t rest v (inr is) = subst (λ (w : List ℕ). skip (w ++ rest) ≡ w ++ rest) (sym is.1) (solid 39 _ refl refl)

value_given : (k : Lexeme) (bs rest : List ℕ) → Value k bs rest → (skip bs ≡ bs) × (value_at bs ≡ Some (k, rest))
unfolding value_at
value_given k bs rest (inl v) =
    let r = read-longest false bs Number v.0 rest v.1 in
    let c : constant_of (before bs rest) ≡ Some k = subst (λ (t : List ℕ). constant_of t ≡ Some k) r.1 (constant-given v.0 k v.2) in
    (subst (λ (w : List ℕ). skip w ≡ w) (sym v.1.front) (number_solid v.0 rest v.1.is), rw (r.0, c) refl)
value_given k bs rest (inr v) =
    let r = read-longest false bs (Character v.0) v.1 rest v.2 in
    (subst (λ (w : List ℕ). skip w ≡ w) (sym v.2.front) (character_solid v.1 rest v.0 v.2.is), rw (r.0, v.3) refl)

-- ---- what is passed over

no_comment : (b : ℕ) (bs : List ℕ) → is_end (b ∷ bs) ≡ false → ((b == 47) && begins (λ c. c == 42) bs) ≡ false
    → ((b == 47) && begins (λ c. (c == 47) || (c == 42)) bs) ≡ false
no_comment b [] line block = block
no_comment b (c ∷ bs) line block = go (b == 47) (c == 47) (c == 42) line block
  where
    go : (x y z : Bool) → (x && y) ≡ false → (x && z) ≡ false → (x && (y || z)) ≡ false
    go false y z p q = refl
    go true true z p q = absurd (true≢false p)
    go true false z p q = q

byte_quiet : (bs r : List ℕ) → is_end bs ≡ false → after_byte_at bs ≡ Some r → Quiet r → Quiet bs
byte_quiet [] r line h q = cc
byte_quiet (b ∷ bs) r line h q = go ((b == 47) && begins (λ c. c == 42) bs) refl h
  where
    go : (v : Bool) → ((b == 47) && begins (λ c. c == 42) bs) ≡ v → (if v then after_comment (drop 1 bs) else Some bs) ≡ Some r
        → Quiet (b ∷ bs)
    go true is e =
        let a = at_block b bs is in
        let inside : after_comment a.0 ≡ Some r = subst (λ (w : List ℕ). after_comment (drop 1 w) ≡ Some r) a.2 e in
        let n = after_comment_is a.0 r inside in
        rw (a.1, a.2) (quiet_comment n.1 (subst Quiet n.2 q))
    go false is e = other (no_comment b bs line is) (subst Quiet (sym (some_is bs r e)) q)

byte_shorter : (bs r : List ℕ) → after_byte_at bs ≡ Some r → length r < length bs
byte_shorter [] r h = cc
byte_shorter (b ∷ bs) r h = go ((b == 47) && begins (λ c. c == 42) bs) h
  where
    go : (v : Bool) → (if v then after_comment (drop 1 bs) else Some bs) ≡ Some r → length r < suc (length bs)
    go true e = comment_shorter bs r e
    go false e = omega (arith, ap length (some_is bs r e))

end_quiet : (bs : List ℕ) → is_end bs ≡ true → Quiet bs
end_quiet bs h = go (end_is bs h)
  where
    go : (bs ≡ []) ⊎ ((body : List ℕ) × (bs ≡ 47 ∷ 47 ∷ body)) → Quiet bs
    go (inl e) = subst Quiet (sym e) done
    go (inr e) = subst Quiet (sym e.1) line_comment

quiet_by : (n : ℕ) (bs : List ℕ) → length bs ≤ n → is_quiet bs ≡ true → Quiet bs
quiet_by zero bs fits h = stop bs fits
  where
    stop : (bs : List ℕ) → length bs ≤ zero → Quiet bs
    stop [] f = done
    stop (b ∷ bs) f = absurd (omega arith)
quiet_by (suc n) bs fits h = go (λ r. quiet_by n r) (is_end bs) refl
  where
    further : ((r : List ℕ) → length r ≤ n → is_quiet r ≡ true → Quiet r) → is_end bs ≡ false → (o : Option (List ℕ))
        → after_byte_at bs ≡ o → Quiet bs
    further more line None is = absurd (true≢false (sym h ∙ sym (quiet_open bs line (sym is))))
    further more line (Some r) is =
        byte_quiet bs r line is (more r (omega (arith, byte_shorter bs r is)) (quiet_more bs r line (sym is) ∙ h))

    go : ((r : List ℕ) → length r ≤ n → is_quiet r ≡ true → Quiet r) → (v : Bool) → is_end bs ≡ v → Quiet bs
    go more true is = end_quiet bs is
    go more false is = further more is (after_byte_at bs) refl

quiet_read : (bs : List ℕ) → is_quiet bs ≡ true → Quiet bs
quiet_read bs h = quiet_by (length bs) bs (omega arith) h

quiet_given : (bs : List ℕ) → Quiet bs → is_quiet bs ≡ true
quiet_given bs done = sym (quiet_at_end [] refl)
quiet_given bs (line_comment {bs = cs}) = sym (quiet_at_end (47 ∷ 47 ∷ cs) refl)
quiet_given bs (quiet_comment {n = n} {bs = cs} is q) =
    sym (quiet_more (47 ∷ 42 ∷ cs) (drop n cs) refl (rw is refl)) ∙ quiet_given (drop n cs) q
quiet_given bs (other {b = b} {bs = cs} is q) = go (quiet_given cs q) (is_end (b ∷ cs)) refl
  where
    apart : (x : Bool) (rest : List ℕ) → (x && begins (λ c. (c == 47) || (c == 42)) rest) ≡ false
        → ((x && begins (λ c. c == 47) rest) ≡ false) × ((x && begins (λ c. c == 42) rest) ≡ false)
    apart false rest h = (refl, refl)
    apart true [] h = (refl, refl)
    apart true (c ∷ rest) h = or_parts (c == 47) (c == 42) h

    go : is_quiet cs ≡ true → (v : Bool) → is_end (b ∷ cs) ≡ v → is_quiet (b ∷ cs) ≡ true
    go more true e = sym (quiet_at_end (b ∷ cs) e)
    go more false e =
        sym (quiet_more (b ∷ cs) cs e (sym (cond-false ((b == 47) && begins (λ c. c == 42) cs) _ _ (apart (b == 47) cs is).1))) ∙ more

-- ---- what is read is a directive

module _ (s : Known) (line a b : List ℕ) (gap : Gap line a) where
  include_read : Word (codes "include") a b → Each (IsDirective s line) (include_of b)
  unfolding include_of
  include_read w = each_then (IsDirective s line) _ (header_at (skip b)) (λ x h.
      let spelled = header_read (skip b) x h in
      cond_both (is_end (skip x.1)) (Some (include x.0)) None (λ o. Each (IsDirective s line) o)
      (λ end. includes gap w (gap_skip b) spelled.1 spelled.2 (ends_read x.1 end)) (λ no_end. tt))

  define_read : Word (codes "define") a b → Each (IsDirective s line) (define_of s b)
  unfolding define_of
  define_read w = each_then (IsDirective s line) _ (identifier_at (skip b)) (λ x h.
      cond_both (is_taken s x.0) None _ (λ o. Each (IsDirective s line) o) (λ is. tt) (λ free.
      let frees = or_parts (is_some (known_word s x.0)) (is_some (look_up x.0 s.defines)) free in
      each_then (IsDirective s line) _ (value_at (skip x.1)) (λ y v.
      cond_both (is_end (skip y.1)) (Some (define x.0 y.0)) None (λ o. Each (IsDirective s line) o)
      (λ end. defines gap w (gap_skip b) (word_read (skip b) x h) (none_is _ frees.0) (none_is _ frees.1) (gap_skip x.1)
      (subst (Each (λ z. Value z.0 (skip x.1) z.1)) v (value_read (skip x.1))) (ends_read y.1 end))
      (λ no_end. tt))))
    where
      none_is : {A : Type 0} (o : Option A) → is_some o ≡ false → o ≡ None
      none_is None e = refl
      none_is (Some z) e = absurd (true≢false e)

  set_read : (d : List ℕ) → Word (codes "pragma") a b → Word (codes "STDC") (skip b) d → Each (IsDirective s line) (set_of d)
  unfolding set_of pragma_named state_named
  set_read d w stdc = each_then (IsDirective s line) _ (identifier_at (skip d)) (λ x h.
      each_then (IsDirective s line) _ (look_up x.0 pragmas) (λ which hw.
      each_then (IsDirective s line) _ (identifier_at (skip x.1)) (λ y h'.
      each_then (IsDirective s line) _ (look_up y.0 (states_of which)) (λ state hs.
      cond_both (is_end (skip y.1)) (Some (set which state)) None (λ o. Each (IsDirective s line) o)
      (λ end. sets gap w (gap_skip b) stdc (gap_skip d) (word_read (skip d) x h) hw (gap_skip x.1) (word_read (skip x.1) y h') hs
      (ends_read y.1 end))
      (λ no_end. tt)))))

  passed_read : Word (codes "pragma") a b → ((c d : List ℕ) → Gap b c → Word (codes "STDC") c d → ⊥)
      → Each (IsDirective s line) (if is_quiet b then Some ignored else None)
  passed_read w no_stdc = cond_both (is_quiet b) (Some ignored) None (λ o. Each (IsDirective s line) o)
      (λ quiet. passes gap w no_stdc (quiet_read b quiet)) (λ loud. tt)

  pragma_by_read : Word (codes "pragma") a b → (o : Option (List ℕ × List ℕ)) → identifier_at (skip b) ≡ o
      → Each (IsDirective s line) (pragma_by b o)
  pragma_by_read w None is =
      passed_read w (λ c d g word. let e : identifier_at (skip b) ≡ Some (codes "STDC", d) = word_after b c (codes "STDC") d g word in
      let f : None ≡ Some (codes "STDC", d) = sym is ∙ e in
      cc)
  pragma_by_read w (Some x) is = cond_both (same x.0 (codes "STDC")) (set_of x.1) _ (λ o. Each (IsDirective s line) o)
      (λ e. let name : x.0 ≡ codes "STDC" = same_is x.0 (codes "STDC") e in
      set_read x.1 w (subst (λ (n : List ℕ). Word n (skip b) x.1) name (word_read (skip b) x is)))
      (λ differs. passed_read w (λ c d g word.
      let e : identifier_at (skip b) ≡ Some (codes "STDC", d) = word_after b c (codes "STDC") d g word in
      let name : x.0 ≡ codes "STDC" = ap (λ (y : List ℕ × List ℕ). y.0) (some_is x (codes "STDC", d) (sym is ∙ e)) in
      true≢false (sym (same_bytes (codes "STDC")) ∙ subst (λ (n : List ℕ). same n (codes "STDC") ≡ false) name differs)))

  pragma_read : Word (codes "pragma") a b → Each (IsDirective s line) (pragma_of b)
  unfolding pragma_of
  pragma_read w = pragma_by_read w (identifier_at (skip b)) refl

named : (w : List ℕ) (x : List ℕ × List ℕ) (bs : List ℕ) → same x.0 w ≡ true → Word x.0 bs x.1 → Word w bs x.1
named w x bs e h = subst (λ (n : List ℕ). Word n bs x.1) (same_is x.0 w e) h

directive_read : (s : Known) (line : List ℕ) → Each (IsDirective s line) (directive_of s line)
unfolding directive_of
directive_read s line = each_then (IsDirective s line) _ (identifier_at (skip line)) (λ x h.
    let word = word_read (skip line) x h in
    let P : Option Directed → Type 0 = λ o. Each (IsDirective s line) o in
    cond_both (same x.0 (codes "include")) (include_of x.1) _ P
    (λ e. include_read s line (skip line) x.1 (gap_skip line) (named (codes "include") x (skip line) e word)) (λ not_include.
    cond_both (same x.0 (codes "define")) (define_of s x.1) _ P
    (λ e. define_read s line (skip line) x.1 (gap_skip line) (named (codes "define") x (skip line) e word)) (λ not_define.
    cond_both (same x.0 (codes "pragma")) (pragma_of x.1) None P
    (λ e. pragma_read s line (skip line) x.1 (gap_skip line) (named (codes "pragma") x (skip line) e word)) (λ not_pragma. tt))))

pub directive-read : (s : Known) (line : List ℕ) (d : Directed) → directive_of s line ≡ Some d → IsDirective s line d
directive-read s line d h = subst (Each (IsDirective s line)) h (directive_read s line)

-- ---- and each directive is read

pub directive-given : (s : Known) (line : List ℕ) (d : Directed) → IsDirective s line d → directive_of s line ≡ Some d
unfolding directive_of include_of define_of pragma_of set_of pragma_named state_named
directive-given s line d (includes {a = a} {b = b} {c = c} {d = e} {spelling = spelling} {h = h} gap w gap' listed front ends) =
    let k = header_given spelling c e h listed front in
    rw (word_after line a (codes "include") b gap w, gap_skips b c gap', k.0, k.1, ends_given e ends) refl
directive-given s line d
    (defines {a = a} {b = b} {c = c} {d = e} {e = f} {f = g} {name = name} {k = k} gap w gap' word unknown undefined gap'' value ends) =
    let v = value_given k f g value in
    rw (
      word_after line a (codes "define") b gap w,
      word_after b c name e gap' word,
      unknown,
      undefined,
      gap_skips e f gap'',
      v.0,
      v.1,
      ends_given g ends,
    ) refl
directive-given s line d (sets {a = a} {b = b} {c = c} {d = e} {e = f} {f = g} {g = g'} {i = i} {u = u} {v = v} {which = which}
    {state = state} gap w gap1 stdc gap2 word hw gap3 word' hs ends) =
    rw (
      word_after line a (codes "pragma") b gap w,
      word_after b c (codes "STDC") e gap1 stdc,
      word_after e f u g gap2 word,
      hw,
      word_after g g' v i gap3 word',
      hs,
      ends_given i ends,
    ) refl
directive-given s line d (passes {a = a} {b = b} gap w no_stdc quiet) =
    rw (word_after line a (codes "pragma") b gap w) (go (identifier_at (skip b)) refl)
  where
    go : (o : Option (List ℕ × List ℕ)) → identifier_at (skip b) ≡ o → pragma_by b o ≡ Some ignored
    go None is = rw (quiet_given b quiet) refl
    go (Some x) is = named_so (same x.0 (codes "STDC")) refl
      where
        named_so : (v : Bool) → same x.0 (codes "STDC") ≡ v → pragma_by b (Some x) ≡ Some ignored
        named_so true e = absurd (no_stdc (skip b) x.1 (gap_skip b) (named (codes "STDC") x (skip b) e (word_read (skip b) x is)))
        named_so false e = rw (e, quiet_given b quiet) refl
