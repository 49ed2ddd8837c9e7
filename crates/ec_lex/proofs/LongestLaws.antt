-- Reading a piece gives exactly the longest form at the front.
use Rattle.std.proofs.Common.{◌≡◌, ℕ, suc, ◌-◌, ◌≤◌, ◌==◌, ◌&&◌, List, [], ◌∷◌, ◌++◌, length, take, drop, Bool, true, false, Option, Some}
use Rattle.std.proofs.Common.{None, refl, sym, ap, ◌∙◌, arith, inl, inr, subst, if◌then◌else◌}
use Rattle.std.specs.List.{prefix_len}
use Rattle.std.proofs.lemmas.Bool.{eqb-true, and_parts, cond_both}
use Rattle.std.proofs.lemmas.Bool.Decides.{nat_tests}
use Rattle.std.proofs.lemmas.List.{length-append, take_at, drop_at}
use Rattle.ec_lex.specs.declared.pieces.Form.{Form}
use Rattle.ec_lex.specs.declared.pieces.Form.TheVariants.{LineComment, Identifier, Number, Directive}
use Rattle.ec_lex.specs.Bytes.{is_space, is_in_line, is_letter, is_digit, is_word, is_run, begins}
use Rattle.ec_lex.specs.Pieces.{comment_end, Begins, Is, Longest}
use Rattle.ec_lex.specs.Reading.{punctuator_at, character_at, quoted, commented, piece_at, before}
use Rattle.ec_lex.proofs.Runs.{prefix_passes}
use Rattle.ec_lex.proofs.Tables.{some_is}
use Rattle.ec_lex.proofs.Front.{NoShorter, IsRead, piece-longest, piece-alone, run_read, comment_read, quote_read, punctuator_read}

pub taken_more : (test : ℕ → Bool) (b : ℕ) (bs : List ℕ) → test b ≡ true
    → take (prefix_len test (b ∷ bs)) (b ∷ bs) ≡ b ∷ take (prefix_len test bs) bs
taken_more test b bs h = let k : prefix_len test (b ∷ bs) ≡ suc (prefix_len test bs) = rw h (omega arith) in rw k refl

run_begins : (bs : List ℕ) → begins is_digit bs ≡ true → Begins is_digit is_run (take (prefix_len is_run bs) bs)
run_begins [] h = cc
run_begins (d ∷ ds) h =
    let runs : is_run d ≡ true = grind (arith, nat_tests) in
    subst (Begins is_digit is_run) (sym (taken_more is_run d ds runs)) (h, prefix_passes is_run ds)

point_read : (s : Bool) (b : ℕ) (bs : List ℕ) → ((b == 46) && begins is_digit bs) ≡ true
    → IsRead s (b ∷ bs) (Some (Number, drop (prefix_len is_run bs) bs))
point_read s b bs h =
    let parts = and_parts (b == 46) (begins is_digit bs) h in
    let is_point : b ≡ 46 = eqb-true b 46 parts.0 in
    subst (λ (n : ℕ). IsRead s (n ∷ bs) (Some (Number, drop (prefix_len is_run bs) bs))) (sym is_point)
    (run_read s Number is_run (46 ∷ []) bs (inr (take (prefix_len is_run bs) bs, refl, run_begins bs parts.1)))

line_read : (s : Bool) (b : ℕ) (bs : List ℕ) → ((b == 47) && begins (λ c. c == 47) bs) ≡ true
    → IsRead s (b ∷ bs) (Some (LineComment, drop (prefix_len is_in_line bs) bs))
line_read s b [] h = let parts = and_parts (b == 47) false h in cc
line_read s b (c ∷ bs) h =
    let parts = and_parts (b == 47) (c == 47) h in
    let first : b ≡ 47 = eqb-true b 47 parts.0 in
    let second : c ≡ 47 = eqb-true c 47 parts.1 in
    rw (first, second) (run_read s LineComment is_in_line (47 ∷ []) (47 ∷ bs)
    (take (prefix_len is_in_line bs) bs, ap (λ (r : List ℕ). 47 ∷ r) (taken_more is_in_line 47 bs refl), prefix_passes is_in_line bs))

block_read : (s : Bool) (b : ℕ) (bs : List ℕ) → ((b == 47) && begins (λ c. c == 42) bs) ≡ true
    → IsRead s (b ∷ bs) (Some (commented (drop 1 bs) (comment_end (drop 1 bs))))
block_read s b [] h = let parts = and_parts (b == 47) false h in cc
block_read s b (c ∷ bs) h =
    let parts = and_parts (b == 47) (c == 42) h in
    let first : b ≡ 47 = eqb-true b 47 parts.0 in
    let second : c ≡ 42 = eqb-true c 42 parts.1 in
    rw (first, second) (comment_read s bs (comment_end bs) refl)

first_read : (s : Bool) (b c : ℕ) (bs : List ℕ) (o : Option (Form × List ℕ)) → (b == c) ≡ true → IsRead s (c ∷ bs) o → IsRead s (b ∷ bs) o
first_read s b c bs o h r = subst (λ (n : ℕ). IsRead s (n ∷ bs) o) (sym (eqb-true b c h)) r

directive_read : (s : Bool) (bs : List ℕ) → IsRead s (35 ∷ bs) (if s then Some (Directive, drop (prefix_len is_in_line bs) bs) else None)
directive_read true bs =
    run_read true Directive is_in_line (35 ∷ []) bs (take (prefix_len is_in_line bs) bs, refl, prefix_passes is_in_line bs, refl)
directive_read false bs = tt

piece_read : (s : Bool) (bs : List ℕ) → IsRead s bs (piece_at s bs)
unfolding piece_at
piece_read s [] = tt
piece_read s (b ∷ bs) =
    let P : Option (Form × List ℕ) → Type 0 = λ o. IsRead s (b ∷ bs) o in
    cond_both (is_space b) _ _ P (λ h. (b ∷ [], (b, refl, h), refl)) (λ not_space.
    cond_both (is_letter b) _ _ P (λ h. run_read s Identifier is_word (b ∷ []) bs (h, prefix_passes is_word bs)) (λ not_letter.
    cond_both (is_digit b) _ _ P (λ h. run_read s Number is_run (b ∷ []) bs (inl (h, prefix_passes is_run bs))) (λ not_digit.
    cond_both ((b == 46) && begins is_digit bs) _ _ P (λ h. point_read s b bs h) (λ not_point.
    cond_both (b == 39) _ _ P
    (λ h. first_read s b 39 bs (Some (quoted bs (character_at bs))) h (quote_read s bs (character_at bs) refl)) (λ not_quote.
    cond_both (b == 35) _ _ P (λ h. first_read s b 35 bs _ h (directive_read s bs)) (λ not_hash.
    cond_both ((b == 47) && begins (λ c. c == 47) bs) _ _ P (λ h. line_read s b bs h) (λ not_line.
    cond_both ((b == 47) && begins (λ c. c == 42) bs) _ _ P (λ h. block_read s b bs h) (λ not_block.
    punctuator_read s (b ∷ bs) (punctuator_at (b ∷ bs)) refl))))))))

-- ---- and it is the longest

no_shorter : (s : Bool) (bs u other : List ℕ) (g : Form) (x : Form × List ℕ) → piece_at s bs ≡ Some x → Is s g u → bs ≡ u ++ other
    → length x.1 ≤ length other
no_shorter s bs u other g x h is e =
    let at : NoShorter other (piece_at s bs) =
    subst (λ (w : List ℕ). NoShorter other (piece_at s w)) (sym e) (piece-longest s g u other is) in
    subst (NoShorter other) h at

before_is : (bs t rest : List ℕ) → bs ≡ t ++ rest → t ≡ before bs rest
before_is bs t rest e =
    let n : length t ≡ length bs - length rest = omega (arith, ap length e, length-append t rest) in
    sym (ap (λ (w : List ℕ). take (length bs - length rest) w) e ∙ take_at t rest (length bs - length rest) n)

pub longest-read : (s : Bool) (bs : List ℕ) (x : Form × List ℕ) → piece_at s bs ≡ Some x → Longest s bs x.0 (before bs x.1) x.1
longest-read s bs x h =
    let r = subst (IsRead s bs) h (piece_read s bs) in
    subst (λ (t : List ℕ). Longest s bs x.0 t x.1) (before_is bs r.0 x.1 r.2) (record {
      is = r.1;
      front = r.2;
      most = λ g u other is e.
          omega (arith, no_shorter s bs u other g x h is e, ap length r.2, ap length e, length-append r.0 x.1, length-append u other);
    })

-- nothing is of a form at the front where nothing is read
pub nothing-read : (s : Bool) (bs : List ℕ) → piece_at s bs ≡ None → (g : Form) (u other : List ℕ) → Is s g u → bs ≡ u ++ other → ⊥
nothing-read s bs h g u other is e =
    let at : NoShorter other (piece_at s bs) =
    subst (λ (w : List ℕ). NoShorter other (piece_at s w)) (sym e) (piece-longest s g u other is) in
    subst (NoShorter other) h at

pub read-nothing : (s : Bool) (bs : List ℕ) → ((g : Form) (u other : List ℕ) → Is s g u → bs ≡ u ++ other → ⊥) → piece_at s bs ≡ None
read-nothing s bs none = go (piece_at s bs) refl
  where
    go : (o : Option (Form × List ℕ)) → piece_at s bs ≡ o → o ≡ None
    go None is = refl
    go (Some x) is = let r = subst (IsRead s bs) is (piece_read s bs) in absurd (none x.0 r.0 x.1 r.1 r.2)

-- one list has one front of a length
same_split : (a b c d : List ℕ) → a ++ b ≡ c ++ d → length a ≡ length c → (a ≡ c) × (b ≡ d)
same_split a b c d e n = (
  sym (take_at a b (length a) refl) ∙ ap (λ (w : List ℕ). take (length a) w) e ∙ take_at c d (length a) (sym n),
  sym (drop_at a b (length a) refl) ∙ ap (λ (w : List ℕ). drop (length a) w) e ∙ drop_at c d (length a) (sym n),
)

pub read-longest : (s : Bool) (bs : List ℕ) (f : Form) (t rest : List ℕ) → Longest s bs f t rest
    → (piece_at s bs ≡ Some (f, rest)) × (t ≡ before bs rest)
read-longest s bs f t rest l = (go (piece_at s bs) refl, before_is bs t rest l.front)
  where
    go : (o : Option (Form × List ℕ)) → piece_at s bs ≡ o → o ≡ Some (f, rest)
    go None is = absurd (nothing-read s bs is f t rest l.is l.front)
    go (Some x) is =
        let r = subst (IsRead s bs) is (piece_read s bs) in
        let shorter : length x.1 ≤ length rest = no_shorter s bs t rest f x is l.is l.front in
        let longer : length r.0 ≤ length t = l.most x.0 r.0 x.1 r.1 r.2 in
        let n : length r.0 ≡ length t = omega (arith, ap length r.2, ap length l.front, length-append r.0 x.1, length-append t rest) in
        let split = same_split r.0 x.1 t rest (sym r.2 ∙ l.front) n in
        let one : piece_at s t ≡ Some (x.0, []) =
        subst (λ (w : List ℕ). piece_at s w ≡ Some (x.0, [])) split.0 (piece-alone s x.0 r.0 r.1) in
        let other : piece_at s t ≡ Some (f, []) = piece-alone s f t l.is in
        let form : x.0 ≡ f = ap (λ (y : Form × List ℕ). y.0) (some_is (x.0, []) (f, []) (sym one ∙ other)) in
        rw (form, split.1) refl
