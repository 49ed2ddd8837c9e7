-- What reading a piece gives is the longest form at the front, and the only one.
use Rattle.std.proofs.Common.{◌≡◌, ℕ, ◌≤◌, ◌==◌, ◌&&◌, not, List, [], ◌∷◌, ◌++◌, length, take, drop, Bool, true, false, Option, Some, None}
use Rattle.std.proofs.Common.{option_map, refl, sym, ap, ◌∙◌, arith, inl, inr, subst, if◌then◌else◌}
use Rattle.std.specs.List.{prefix_len}
use Rattle.std.proofs.lemmas.Bool.{true≢false, eqb-true, and_parts, not-true, cond-true, cond-false}
use Rattle.std.proofs.lemmas.Bool.Decides.{nat_tests}
use Rattle.std.proofs.lemmas.List.{length-drop, length-append, drop_all, take-append-drop, append-nil, append_assoc, length-take-le}
use Rattle.ec_grammar.specs.declared.token.PunctKind.{PunctKind}
use Rattle.ec_lex.specs.declared.pieces.Form.{Form}
use Rattle.ec_lex.specs.declared.pieces.Form.TheVariants.{Space, LineComment, Comment, OpenComment, Identifier, Number, Character, Quote}
use Rattle.ec_lex.specs.declared.pieces.Form.TheVariants.{Punctuator, Directive}
use Rattle.ec_lex.specs.Bytes.{is_space, is_in_line, is_letter, is_digit, is_word, is_run, begins}
use Rattle.ec_lex.specs.Pieces.{punctuators, comment_end, is_plain, escaped, Pass, Begins, Lists, Is}
use Rattle.ec_lex.specs.Reading.{punctuator_at, escaped_at, character_at, quoted, commented, piece_at}
use Rattle.ec_lex.proofs.Runs.{pass_whole, run_left, end_append, end_past, end_within, end_taken}
use Rattle.ec_lex.proofs.Tables.{some_is, punctuator-alone, punctuator-longest, punctuator-found, each_passes}

-- ---- the classes of first bytes

letter_class : (b : ℕ) → is_letter b ≡ true → is_space b ≡ false
letter_class b h = grind (arith, nat_tests)

digit_class : (b : ℕ) → is_digit b ≡ true → (is_space b ≡ false) × (is_letter b ≡ false)
digit_class b h = (grind (arith, nat_tests), grind (arith, nat_tests))

-- the first byte of a punctuator is of no other class
abbrev is_mark : ℕ → Bool
is_mark b = not (is_space b) && (not (is_letter b) && (not (is_digit b) && (not (b == 39) && not (b == 35))))

-- the second byte of a punctuator makes neither a number nor a comment of it
abbrev is_apart : List ℕ → Bool
is_apart [] = true
is_apart (b ∷ []) = true
is_apart (b ∷ c ∷ w) = not ((b == 46) && is_digit c) && (not ((b == 47) && (c == 47)) && not ((b == 47) && (c == 42)))

record Marks (b : ℕ) : Type 0 where
  no_space : is_space b ≡ false
  no_letter : is_letter b ≡ false
  no_digit : is_digit b ≡ false
  no_quote : (b == 39) ≡ false
  no_hash : (b == 35) ≡ false

marks : (b : ℕ) → is_mark b ≡ true → Marks b
marks b h =
    let a = and_parts (not (is_space b)) _ h in
    let c = and_parts (not (is_letter b)) _ a.1 in
    let d = and_parts (not (is_digit b)) _ c.1 in
    let e = and_parts (not (b == 39)) _ d.1 in
    record {
      no_space = not-true _ a.0;
      no_letter = not-true _ c.0;
      no_digit = not-true _ d.0;
      no_quote = not-true _ e.0;
      no_hash = not-true _ e.1;
    }

-- ---- where a form stands at the front, what is read is no shorter

abbrev pub NoShorter : List ℕ → Option (Form × List ℕ) → Type 0
NoShorter other None = ⊥
NoShorter other (Some x) = length x.1 ≤ length other

-- The first byte b is a mark. What follows it is read so.
mark_piece : (s : Bool) (b : ℕ) (bs : List ℕ) → Marks b → piece_at s (b ∷ bs) ≡
    (if (b == 46) && begins is_digit bs then Some (Number, drop (prefix_len is_run bs) bs)
    else if (b == 47) && begins (λ c. c == 47) bs then Some (LineComment, drop (prefix_len is_in_line bs) bs)
    else if (b == 47) && begins (λ c. c == 42) bs then Some (commented (drop 1 bs) (comment_end (drop 1 bs)))
    else option_map (λ x. (Punctuator x.0, x.1)) (punctuator_at (b ∷ bs)))
unfolding piece_at
mark_piece s b bs m = rw (m.no_space, m.no_letter, m.no_digit, m.no_quote, m.no_hash) refl

mark_found : (s : Bool) (b : ℕ) (w other : List ℕ) (p : PunctKind) → Lists punctuators (b ∷ w) p
    → NoShorter other (option_map (λ x. (Punctuator x.0, x.1)) (punctuator_at (b ∷ w ++ other)))
mark_found s b w other p listed = let m = punctuator-longest (b ∷ w) other p listed in rw m.2 m.3

comment_left : (bs : List ℕ) (o : Option ℕ) → NoShorter bs (Some (commented (drop 1 bs) o))
comment_left bs None = simp (length-drop) (omega arith)
comment_left bs (Some n) = simp (length-drop) (omega arith)

mark_alone : (s : Bool) (b : ℕ) (other : List ℕ) (p : PunctKind) → Marks b → Lists punctuators (b ∷ []) p
    → NoShorter other (piece_at s (b ∷ other))
mark_alone s b other p m listed = rw (mark_piece s b other m) (number ((b == 46) && begins is_digit other) refl)
  where
    comment : (v : Bool) → NoShorter other (if v then Some (commented (drop 1 other) (comment_end (drop 1 other)))
        else option_map (λ x. (Punctuator x.0, x.1)) (punctuator_at (b ∷ other)))
    comment true = comment_left other (comment_end (drop 1 other))
    comment false = mark_found s b [] other p listed

    line : (v : Bool) → NoShorter other (if v then Some (LineComment, drop (prefix_len is_in_line other) other)
        else if (b == 47) && begins (λ c. c == 42) other then Some (commented (drop 1 other) (comment_end (drop 1 other)))
        else option_map (λ x. (Punctuator x.0, x.1)) (punctuator_at (b ∷ other)))
    line true = simp (length-drop) (omega arith)
    line false = comment ((b == 47) && begins (λ c. c == 42) other)

    number : (v : Bool) → ((b == 46) && begins is_digit other) ≡ v
        → NoShorter other (if v then Some (Number, drop (prefix_len is_run other) other) else if (b == 47) && begins (λ c. c == 47) other
        then Some (LineComment, drop (prefix_len is_in_line other) other) else if (b == 47) && begins (λ c. c == 42) other then Some
        (commented (drop 1 other) (comment_end (drop 1 other))) else option_map (λ x. (Punctuator x.0, x.1)) (punctuator_at (b ∷ other)))
    number true is = simp (length-drop) (omega arith)
    number false is = line ((b == 47) && begins (λ c. c == 47) other)

mark_pair : (s : Bool) (b c : ℕ) (bs : List ℕ) → Marks b → is_apart (b ∷ c ∷ bs) ≡ true
    → piece_at s (b ∷ c ∷ bs) ≡ option_map (λ x. (Punctuator x.0, x.1)) (punctuator_at (b ∷ c ∷ bs))
mark_pair s b c bs m h =
    let a = and_parts (not ((b == 46) && is_digit c)) _ h in
    let d = and_parts (not ((b == 47) && (c == 47))) _ a.1 in
    rw (mark_piece s b (c ∷ bs) m)
    (rw (not-true ((b == 46) && is_digit c) a.0, not-true ((b == 47) && (c == 47)) d.0, not-true ((b == 47) && (c == 42)) d.1) refl)

punctuator_longest : (s : Bool) (p : PunctKind) (u other : List ℕ) → Lists punctuators u p → begins is_mark u ≡ true → is_apart u ≡ true
    → NoShorter other (piece_at s (u ++ other))
punctuator_longest s p [] other listed mark apart = absurd (true≢false (sym mark))
punctuator_longest s p (b ∷ []) other listed mark apart = mark_alone s b other p (marks b mark) listed
punctuator_longest s p (b ∷ c ∷ w) other listed mark apart =
    rw (mark_pair s b c (w ++ other) (marks b mark) apart) (mark_found s b (c ∷ w) other p listed)

shorter_character : (bs : List ℕ) (o : Option (ℕ × List ℕ)) → character_at bs ≡ o → NoShorter bs (Some (quoted bs o))
shorter_character bs None is = omega arith
shorter_character [] (Some x) is = cc
shorter_character (b ∷ []) (Some x) is = cc
shorter_character (b ∷ c ∷ bs) (Some x) is = go (b == 92) refl
  where
    in_escape : (o : Option ℕ) → option_map (λ v. (v, drop 1 bs)) o ≡ Some x → length x.1 ≤ length (b ∷ c ∷ bs)
    in_escape None e = cc
    in_escape (Some v) e =
        let same : drop 1 bs ≡ x.1 = ap (λ (y : ℕ × List ℕ). y.1) (some_is (v, drop 1 bs) x e) in
        omega (arith, length-drop 1 bs, ap length same)

    escape : (v : Bool) → (if v then option_map (λ v. (v, drop 1 bs)) (escaped c) else None) ≡ Some x → length x.1 ≤ length (b ∷ c ∷ bs)
    escape true e = in_escape (escaped c) e
    escape false e = cc

    plain : (v : Bool) → (if v then Some (b, bs) else None) ≡ Some x → length x.1 ≤ length (b ∷ c ∷ bs)
    plain true e = let same : bs ≡ x.1 = ap (λ (y : ℕ × List ℕ). y.1) (some_is (b, bs) x e) in omega (arith, ap length same)
    plain false e = cc

    go : (v : Bool) → (b == 92) ≡ v → length x.1 ≤ length (b ∷ c ∷ bs)
    go true e = escape (begins (λ d. d == 39) bs)
        (sym (cond-true (b == 92) (escaped_at c bs) (if (c == 39) && is_plain b then Some (b, bs) else None) e) ∙ is)
    go false e = plain ((c == 39) && is_plain b)
        (sym (cond-false (b == 92) (escaped_at c bs) (if (c == 39) && is_plain b then Some (b, bs) else None) e) ∙ is)

identifier_longest : (s : Bool) (u other : List ℕ) → Begins is_letter is_word u → NoShorter other (piece_at s (u ++ other))
unfolding piece_at
identifier_longest s [] other h = absurd h
identifier_longest s (b ∷ w) other h = rw (letter_class b h.0, h.0) (run_left is_word w other h.1)

digits_longest : (s : Bool) (u other : List ℕ) → Begins is_digit is_run u → NoShorter other (piece_at s (u ++ other))
unfolding piece_at
digits_longest s [] other h = absurd h
digits_longest s (b ∷ w) other h = let k = digit_class b h.0 in rw (k.0, k.1, h.0) (run_left is_run w other h.1)

digit_runs : (b : ℕ) → is_digit b ≡ true → is_run b ≡ true
digit_runs b h = grind (arith, nat_tests)

point_piece : (s : Bool) (b : ℕ) (bs : List ℕ) → is_digit b ≡ true
    → piece_at s (46 ∷ b ∷ bs) ≡ Some (Number, drop (prefix_len is_run (b ∷ bs)) (b ∷ bs))
unfolding piece_at
point_piece s b bs h = cond-true (is_digit b) (Some (Number, drop (prefix_len is_run (b ∷ bs)) (b ∷ bs))) _ h

point_longest : (s : Bool) (u other : List ℕ) → Begins is_digit is_run u → NoShorter other (piece_at s (46 ∷ u ++ other))
point_longest s [] other h = absurd h
point_longest s (b ∷ w) other h = rw (point_piece s b (w ++ other) h.0) (run_left is_run (b ∷ w) other (digit_runs b h.0, h.1))

plain_character : (v : ℕ) (other : List ℕ) → is_plain v ≡ true → character_at (v ∷ 39 ∷ other) ≡ Some (v, other)
plain_character v other h =
    let not_backslash : (v == 92) ≡ false = grind (arith, nat_tests) in
    cond-false (v == 92) _ _ not_backslash ∙ cond-true (is_plain v) _ _ h

escaped_character : (b v : ℕ) (other : List ℕ) → escaped b ≡ Some v → character_at (92 ∷ b ∷ 39 ∷ other) ≡ Some (v, other)
escaped_character b v other h = rw h refl

line_longest : (s : Bool) (body other : List ℕ) → Pass is_in_line body → NoShorter other (piece_at s (47 ∷ 47 ∷ body ++ other))
unfolding piece_at
line_longest s body other h = run_left is_in_line (47 ∷ body) other (refl, h)

comment_longest : (s : Bool) (body other : List ℕ) → comment_end body ≡ Some (length body)
    → NoShorter other (piece_at s (47 ∷ 42 ∷ body ++ other))
unfolding piece_at
comment_longest s body other h =
    rw (end_append body other (length body) h) (omega (arith, length-drop (length body) (body ++ other), length-append body other))

open_longest : (s : Bool) (body other : List ℕ) → comment_end body ≡ None → NoShorter other (piece_at s (47 ∷ 42 ∷ body ++ other))
unfolding piece_at
open_longest s body other h = go (comment_end (body ++ other)) refl
  where
    go : (o : Option ℕ) → comment_end (body ++ other) ≡ o → NoShorter other (Some (commented (body ++ other) o))
    go None is = simp (length-drop, length-append) (omega arith)
    go (Some n) is = simp (length-drop, length-append) (omega (arith, end_past body other n h is))

directive_longest : (s : Bool) (body other : List ℕ) → Pass is_in_line body → s ≡ true → NoShorter other (piece_at s (35 ∷ body ++ other))
unfolding piece_at
directive_longest s body other h start = rw start (run_left is_in_line body other h)

quote_longest : (s : Bool) (other : List ℕ) → NoShorter other (piece_at s (39 ∷ other))
unfolding piece_at
quote_longest s other = shorter_character other (character_at other) refl

plain_longest : (s : Bool) (v : ℕ) (other : List ℕ) → is_plain v ≡ true → NoShorter other (piece_at s (39 ∷ v ∷ 39 ∷ other))
unfolding piece_at
plain_longest s v other h = rw (plain_character v other h) (omega arith)

escaped_longest : (s : Bool) (b v : ℕ) (other : List ℕ) → escaped b ≡ Some v → NoShorter other (piece_at s (39 ∷ 92 ∷ b ∷ 39 ∷ other))
unfolding piece_at
escaped_longest s b v other h = rw (escaped_character b v other h) (omega arith)

space_longest : (s : Bool) (b : ℕ) (other : List ℕ) → is_space b ≡ true → NoShorter other (piece_at s (b ∷ other))
unfolding piece_at
space_longest s b other h = rw h (omega arith)

-- at u, for what was shown at its spelling
at_front : (s : Bool) (u w other : List ℕ) → u ≡ w → NoShorter other (piece_at s (w ++ other)) → NoShorter other (piece_at s (u ++ other))
at_front s u w other e h = subst (λ (v : List ℕ). NoShorter other (piece_at s (v ++ other))) (sym e) h

pub piece-longest : (s : Bool) (g : Form) (u other : List ℕ) → Is s g u → NoShorter other (piece_at s (u ++ other))
piece-longest s Space u other is = at_front s u (is.0 ∷ []) other is.1 (space_longest s is.0 other is.2)
piece-longest s LineComment u other is = at_front s u (47 ∷ 47 ∷ is.0) other is.1 (line_longest s is.0 other is.2)
piece-longest s Comment u other is = at_front s u (47 ∷ 42 ∷ is.0) other is.1 (comment_longest s is.0 other is.2)
piece-longest s OpenComment u other is = at_front s u (47 ∷ 42 ∷ is.0) other is.1 (open_longest s is.0 other is.2)
piece-longest s Identifier u other is = identifier_longest s u other is
piece-longest s Number u other (inl is) = digits_longest s u other is
piece-longest s Number u other (inr is) = at_front s u (46 ∷ is.0) other is.1 (point_longest s is.0 other is.2)
piece-longest s (Character v) u other (inl is) = at_front s u (39 ∷ v ∷ 39 ∷ []) other is.0 (plain_longest s v other is.1)
piece-longest s (Character v) u other (inr is) = at_front s u (39 ∷ 92 ∷ is.0 ∷ 39 ∷ []) other is.1 (escaped_longest s is.0 v other is.2)
piece-longest s Quote u other is = at_front s u (39 ∷ []) other is (quote_longest s other)
piece-longest s (Punctuator p) u other is =
    punctuator_longest s p u other is (each_passes (begins is_mark) punctuators u p refl is) (each_passes is_apart punctuators u p refl is)
piece-longest s Directive u other is = at_front s u (35 ∷ is.0) other is.1 (directive_longest s is.0 other is.2 is.3)

-- ---- a form alone is read whole, as itself

line_alone : (s : Bool) (body : List ℕ) → Pass is_in_line body → piece_at s (47 ∷ 47 ∷ body) ≡ Some (LineComment, [])
unfolding piece_at
line_alone s body h = ap (λ (r : List ℕ). Some (LineComment, r)) (pass_whole is_in_line (47 ∷ body) (refl, h))

comment_alone : (s : Bool) (body : List ℕ) → comment_end body ≡ Some (length body) → piece_at s (47 ∷ 42 ∷ body) ≡ Some (Comment, [])
unfolding piece_at
comment_alone s body h = rw h (ap (λ (r : List ℕ). Some (Comment, r)) (drop_all (length body) body (omega arith)))

open_alone : (s : Bool) (body : List ℕ) → comment_end body ≡ None → piece_at s (47 ∷ 42 ∷ body) ≡ Some (OpenComment, [])
unfolding piece_at
open_alone s body h = rw h (ap (λ (r : List ℕ). Some (OpenComment, r)) (drop_all (length body) body (omega arith)))

identifier_alone : (s : Bool) (u : List ℕ) → Begins is_letter is_word u → piece_at s u ≡ Some (Identifier, [])
unfolding piece_at
identifier_alone s [] h = absurd h
identifier_alone s (b ∷ w) h = rw (letter_class b h.0, h.0) (ap (λ (r : List ℕ). Some (Identifier, r)) (pass_whole is_word w h.1))

digits_alone : (s : Bool) (u : List ℕ) → Begins is_digit is_run u → piece_at s u ≡ Some (Number, [])
unfolding piece_at
digits_alone s [] h = absurd h
digits_alone s (b ∷ w) h = let k = digit_class b h.0 in rw (k.0, k.1, h.0) (ap (λ (r : List ℕ). Some (Number, r)) (pass_whole is_run w h.1))

point_alone : (s : Bool) (u : List ℕ) → Begins is_digit is_run u → piece_at s (46 ∷ u) ≡ Some (Number, [])
point_alone s [] h = absurd h
point_alone s (b ∷ w) h = point_piece s b w h.0 ∙ ap (λ (r : List ℕ). Some (Number, r)) (pass_whole is_run (b ∷ w) (digit_runs b h.0, h.1))

plain_alone : (s : Bool) (v : ℕ) → is_plain v ≡ true → piece_at s (39 ∷ v ∷ 39 ∷ []) ≡ Some (Character v, [])
unfolding piece_at
plain_alone s v h = ap (λ (o : Option (ℕ × List ℕ)). Some (quoted (v ∷ 39 ∷ []) o)) (plain_character v [] h)

escaped_alone : (s : Bool) (b v : ℕ) → escaped b ≡ Some v → piece_at s (39 ∷ 92 ∷ b ∷ 39 ∷ []) ≡ Some (Character v, [])
unfolding piece_at
escaped_alone s b v h = ap (λ (o : Option (ℕ × List ℕ)). Some (quoted (92 ∷ b ∷ 39 ∷ []) o)) (escaped_character b v [] h)

quote_alone : (s : Bool) → piece_at s (39 ∷ []) ≡ Some (Quote, [])
unfolding piece_at
quote_alone s = refl

space_alone : (s : Bool) (b : ℕ) → is_space b ≡ true → piece_at s (b ∷ []) ≡ Some (Space, [])
unfolding piece_at
space_alone s b h = rw h refl

directive_alone : (s : Bool) (body : List ℕ) → Pass is_in_line body → s ≡ true → piece_at s (35 ∷ body) ≡ Some (Directive, [])
unfolding piece_at
directive_alone s body h start = rw start (ap (λ (r : List ℕ). Some (Directive, r)) (pass_whole is_in_line body h))

false_right : (v : Bool) → (v && false) ≡ false
false_right true = refl
false_right false = refl

mark_piece_alone : (s : Bool) (b : ℕ) → Marks b → piece_at s (b ∷ []) ≡ option_map (λ x. (Punctuator x.0, x.1)) (punctuator_at (b ∷ []))
mark_piece_alone s b m = mark_piece s b [] m ∙ rw (false_right (b == 46), false_right (b == 47)) refl

punctuator_alone : (s : Bool) (p : PunctKind) (u : List ℕ) → Lists punctuators u p → begins is_mark u ≡ true → is_apart u ≡ true
    → piece_at s u ≡ Some (Punctuator p, [])
punctuator_alone s p [] listed mark apart = absurd (true≢false (sym mark))
punctuator_alone s p (b ∷ []) listed mark apart = mark_piece_alone s b (marks b mark)
    ∙ ap (λ (o : Option (PunctKind × List ℕ)). option_map (λ x. (Punctuator x.0, x.1)) o) (punctuator-alone (b ∷ []) p listed)
punctuator_alone s p (b ∷ c ∷ w) listed mark apart = mark_pair s b c w (marks b mark) apart
    ∙ ap (λ (o : Option (PunctKind × List ℕ)). option_map (λ x. (Punctuator x.0, x.1)) o) (punctuator-alone (b ∷ c ∷ w) p listed)

as_read : (s : Bool) (u w : List ℕ) (f : Form) → u ≡ w → piece_at s w ≡ Some (f, []) → piece_at s u ≡ Some (f, [])
as_read s u w f e h = ap (λ (v : List ℕ). piece_at s v) e ∙ h

pub piece-alone : (s : Bool) (g : Form) (u : List ℕ) → Is s g u → piece_at s u ≡ Some (g, [])
piece-alone s Space u is = as_read s u (is.0 ∷ []) Space is.1 (space_alone s is.0 is.2)
piece-alone s LineComment u is = as_read s u (47 ∷ 47 ∷ is.0) LineComment is.1 (line_alone s is.0 is.2)
piece-alone s Comment u is = as_read s u (47 ∷ 42 ∷ is.0) Comment is.1 (comment_alone s is.0 is.2)
piece-alone s OpenComment u is = as_read s u (47 ∷ 42 ∷ is.0) OpenComment is.1 (open_alone s is.0 is.2)
piece-alone s Identifier u is = identifier_alone s u is
piece-alone s Number u (inl is) = digits_alone s u is
piece-alone s Number u (inr is) = as_read s u (46 ∷ is.0) Number is.1 (point_alone s is.0 is.2)
piece-alone s (Character v) u (inl is) = as_read s u (39 ∷ v ∷ 39 ∷ []) (Character v) is.0 (plain_alone s v is.1)
piece-alone s (Character v) u (inr is) = as_read s u (39 ∷ 92 ∷ is.0 ∷ 39 ∷ []) (Character v) is.1 (escaped_alone s is.0 v is.2)
piece-alone s Quote u is = as_read s u (39 ∷ []) Quote is (quote_alone s)
piece-alone s (Punctuator p) u is =
    punctuator_alone s p u is (each_passes (begins is_mark) punctuators u p refl is) (each_passes is_apart punctuators u p refl is)
piece-alone s Directive u is = as_read s u (35 ∷ is.0) Directive is.1 (directive_alone s is.0 is.2 is.3)

-- ---- what is read is of the form read

abbrev pub IsRead : Bool → List ℕ → Option (Form × List ℕ) → Type 0
IsRead s bs None = Unit {0}
IsRead s bs (Some x) = (t : List ℕ) × Is s x.0 t × (bs ≡ t ++ x.1)

pub run_read : (s : Bool) (f : Form) (test : ℕ → Bool) (front bs : List ℕ) → Is s f (front ++ take (prefix_len test bs) bs)
    → IsRead s (front ++ bs) (Some (f, drop (prefix_len test bs) bs))
run_read s f test front bs is = (
  front ++ take (prefix_len test bs) bs,
  is,
  rw append_assoc (ap (λ (r : List ℕ). front ++ r) (sym (take-append-drop (prefix_len test bs) bs))),
)

pub comment_read : (s : Bool) (inside : List ℕ) (o : Option ℕ) → comment_end inside ≡ o
    → IsRead s (47 ∷ 42 ∷ inside) (Some (commented inside o))
comment_read s inside None is = (
  47 ∷ 42 ∷ inside,
  (inside, refl, is),
  ap (λ (r : List ℕ). 47 ∷ 42 ∷ r) (sym (rw (drop_all (length inside) inside (omega arith)) (append-nil inside))),
)
comment_read s inside (Some n) is =
    let whole : length (take n inside) ≡ n = length-take-le n inside (end_within inside n is) in (
      47 ∷ 42 ∷ take n inside,
      (take n inside, refl, rw whole (end_taken inside n is)),
      ap (λ (r : List ℕ). 47 ∷ 42 ∷ r) (sym (take-append-drop n inside)),
    )

pub quote_read : (s : Bool) (bs : List ℕ) (o : Option (ℕ × List ℕ)) → character_at bs ≡ o → IsRead s (39 ∷ bs) (Some (quoted bs o))
quote_read s bs None is = (39 ∷ [], refl, refl)
quote_read s [] (Some x) is = cc
quote_read s (b ∷ []) (Some x) is = cc
quote_read s (b ∷ c ∷ bs) (Some x) is = go (b == 92) refl
  where
    in_escape : (rest : List ℕ) (o : Option ℕ) → escaped c ≡ o → b ≡ 92 → bs ≡ 39 ∷ rest → option_map (λ v. (v, rest)) o ≡ Some x
        → IsRead s (39 ∷ b ∷ c ∷ bs) (Some (Character x.0, x.1))
    in_escape rest None is_none eb es e = cc
    in_escape rest (Some v) is_some eb es e =
        let same = some_is (v, rest) x e in
        let value : v ≡ x.0 = ap (λ (y : ℕ × List ℕ). y.0) same in
        let left : rest ≡ x.1 = ap (λ (y : ℕ × List ℕ). y.1) same in
        (39 ∷ 92 ∷ c ∷ 39 ∷ [], inr (c, refl, is_some ∙ ap (λ (n : ℕ). Some n) value), rw (eb, es, left) refl)

    closed : (rest : List ℕ) → bs ≡ rest → b ≡ 92 → (v : Bool) → begins (λ d. d == 39) rest ≡ v
        → (if v then option_map (λ v. (v, drop 1 rest)) (escaped c) else None) ≡ Some x
        → IsRead s (39 ∷ b ∷ c ∷ bs) (Some (Character x.0, x.1))
    closed [] eb e true is e' = cc
    closed (d ∷ rest) es eb true is e = let quote : d ≡ 39 = eqb-true d 39 is in in_escape rest (escaped c) refl eb (rw quote at es) e
    closed rest es eb false is e = cc

    plain : (v : Bool) → ((c == 39) && is_plain b) ≡ v → (if v then Some (b, bs) else None) ≡ Some x
        → IsRead s (39 ∷ b ∷ c ∷ bs) (Some (Character x.0, x.1))
    plain true tests e =
        let same = some_is (b, bs) x e in
        let value : b ≡ x.0 = ap (λ (y : ℕ × List ℕ). y.0) same in
        let left : bs ≡ x.1 = ap (λ (y : ℕ × List ℕ). y.1) same in
        let parts = and_parts (c == 39) (is_plain b) tests in
        let quote : c ≡ 39 = eqb-true c 39 parts.0 in
        (39 ∷ b ∷ 39 ∷ [], inl (ap (λ (n : ℕ). 39 ∷ n ∷ 39 ∷ []) value, rw value at parts.1), rw (quote, left) refl)
    plain false tests e = cc

    go : (v : Bool) → (b == 92) ≡ v → IsRead s (39 ∷ b ∷ c ∷ bs) (Some (Character x.0, x.1))
    go true e = closed bs refl (eqb-true b 92 e) (begins (λ d. d == 39) bs) refl
        (sym (cond-true (b == 92) (escaped_at c bs) (if (c == 39) && is_plain b then Some (b, bs) else None) e) ∙ is)
    go false e = plain ((c == 39) && is_plain b) refl
        (sym (cond-false (b == 92) (escaped_at c bs) (if (c == 39) && is_plain b then Some (b, bs) else None) e) ∙ is)

pub punctuator_read : (s : Bool) (bs : List ℕ) (o : Option (PunctKind × List ℕ)) → punctuator_at bs ≡ o
    → IsRead s bs (option_map (λ x. (Punctuator x.0, x.1)) o)
punctuator_read s bs None is = tt
punctuator_read s bs (Some x) is = let f = punctuator-found bs x.0 x.1 is in (f.0, f.1, f.2)
