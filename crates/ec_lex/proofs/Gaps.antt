-- White space and comments at the front of a line.
use Rattle.std.proofs.Common.{◌≡◌, ℕ, ◌+◌, ◌==◌, ◌&&◌, List, [], ◌∷◌, drop, Bool, true, false, Option, Some, None, option_map, unwrap_or}
use Rattle.std.proofs.Common.{refl, ◌∙◌, add-one}
use Rattle.ec_lex.specs.Bytes.{is_space}
use Rattle.ec_lex.specs.Pieces.{comment_end}
use Rattle.ec_lex.specs.Reading.{after_comment, after_blank_at, after_byte_at, skip, skip_comment, is_quiet, is_quiet_after, is_end}
use Rattle.ec_lex.proofs.Tables.{some_is}

and_false : (b : Bool) → (b && false) ≡ false
and_false true = refl
and_false false = refl

-- after a comment that ends, what follows it is read
pub skip_comment_end : (bs : List ℕ) → skip_comment bs ≡ option_map (λ n. skip (drop n bs)) (comment_end bs)
unfolding skip
skip_comment_end [] = refl
skip_comment_end (b ∷ []) = rw (and_false (b == 42)) refl
skip_comment_end (b ∷ c ∷ bs) = go (skip_comment_end (c ∷ bs)) ((b == 42) && (c == 47)) refl
  where
    one_more : (o : Option ℕ)
        → option_map (λ n. skip (drop n (c ∷ bs))) o ≡ option_map (λ n. skip (drop n (b ∷ c ∷ bs))) (option_map (λ n. n + 1) o)
    one_more None = refl
    one_more (Some n) = rw add-one refl

    go : skip_comment (c ∷ bs) ≡ option_map (λ n. skip (drop n (c ∷ bs))) (comment_end (c ∷ bs)) → (v : Bool) → ((b == 42) && (c == 47)) ≡ v
        → skip_comment (b ∷ c ∷ bs) ≡ option_map (λ n. skip (drop n (b ∷ c ∷ bs))) (comment_end (b ∷ c ∷ bs))
    go more true is = rw is refl
    go more false is = rw is (more ∙ one_more (comment_end (c ∷ bs)))

pub is_quiet_after_end : (bs : List ℕ) → is_quiet_after bs ≡ unwrap_or (option_map (λ n. is_quiet (drop n bs)) (comment_end bs)) false
unfolding is_quiet
is_quiet_after_end [] = refl
is_quiet_after_end (b ∷ []) = rw (and_false (b == 42)) refl
is_quiet_after_end (b ∷ c ∷ bs) = go (is_quiet_after_end (c ∷ bs)) ((b == 42) && (c == 47)) refl
  where
    one_more : (o : Option ℕ) → unwrap_or (option_map (λ n. is_quiet (drop n (c ∷ bs))) o) false
        ≡ unwrap_or (option_map (λ n. is_quiet (drop n (b ∷ c ∷ bs))) (option_map (λ n. n + 1) o)) false
    one_more None = refl
    one_more (Some n) = rw add-one refl

    go : is_quiet_after (c ∷ bs) ≡ unwrap_or (option_map (λ n. is_quiet (drop n (c ∷ bs))) (comment_end (c ∷ bs))) false
        → (v : Bool) → ((b == 42) && (c == 47)) ≡ v
        → is_quiet_after (b ∷ c ∷ bs) ≡ unwrap_or (option_map (λ n. is_quiet (drop n (b ∷ c ∷ bs))) (comment_end (b ∷ c ∷ bs))) false
    go more true is = rw is refl
    go more false is = rw is (more ∙ one_more (comment_end (c ∷ bs)))

pub skip_more : (bs r : List ℕ) → Some r ≡ after_blank_at bs → skip r ≡ skip bs
unfolding skip
skip_more [] r h = cc
skip_more (b ∷ []) r h = go (is_space b) refl
  where
    go : (v : Bool) → is_space b ≡ v → skip r ≡ skip (b ∷ [])
    go true is = let e : Some r ≡ Some [] = rw is at h in let same : r ≡ [] = some_is r [] e in rw (is, same) refl
    go false is = let e : Some r ≡ None = rw (is, and_false (b == 47)) at h in cc
skip_more (b ∷ c ∷ bs) r h = go (is_space b) refl
  where
    at_comment : (o : Option ℕ) → comment_end bs ≡ o → Some r ≡ option_map (λ n. drop n bs) o
        → skip r ≡ unwrap_or (skip_comment bs) (b ∷ c ∷ bs)
    at_comment None is e = cc
    at_comment (Some n) is e = let same : r ≡ drop n bs = some_is r (drop n bs) e in rw (skip_comment_end bs, is, same) refl

    no_space : (v : Bool) → ((b == 47) && (c == 42)) ≡ v → is_space b ≡ false → skip r ≡ skip (b ∷ c ∷ bs)
    no_space true is not_space =
        let e : Some r ≡ after_comment bs = rw (not_space, is) at h in
        rw (not_space, is) (at_comment (comment_end bs) refl e)
    no_space false is not_space = let e : Some r ≡ None = rw (not_space, is) at h in cc

    go : (v : Bool) → is_space b ≡ v → skip r ≡ skip (b ∷ c ∷ bs)
    go true is = let e : Some r ≡ Some (c ∷ bs) = rw is at h in let same : r ≡ c ∷ bs = some_is r (c ∷ bs) e in rw (is, same) refl
    go false is = no_space ((b == 47) && (c == 42)) refl is

pub skip_stays : (bs : List ℕ) → None ≡ after_blank_at bs → bs ≡ skip bs
unfolding skip
skip_stays [] h = refl
skip_stays (b ∷ []) h = go (is_space b) refl
  where
    go : (v : Bool) → is_space b ≡ v → b ∷ [] ≡ skip (b ∷ [])
    go true is = let e : None ≡ Some [] = rw is at h in cc
    go false is = rw is refl
skip_stays (b ∷ c ∷ bs) h = go (is_space b) refl
  where
    at_comment : (o : Option ℕ) → comment_end bs ≡ o → None ≡ option_map (λ n. drop n bs) o
        → b ∷ c ∷ bs ≡ unwrap_or (skip_comment bs) (b ∷ c ∷ bs)
    at_comment None is e = rw (skip_comment_end bs, is) refl
    at_comment (Some n) is e = cc

    no_space : (v : Bool) → ((b == 47) && (c == 42)) ≡ v → is_space b ≡ false → b ∷ c ∷ bs ≡ skip (b ∷ c ∷ bs)
    no_space true is not_space =
        let e : None ≡ after_comment bs = rw (not_space, is) at h in
        rw (not_space, is) (at_comment (comment_end bs) refl e)
    no_space false is not_space = rw (not_space, is) refl

    go : (v : Bool) → is_space b ≡ v → b ∷ c ∷ bs ≡ skip (b ∷ c ∷ bs)
    go true is = let e : None ≡ Some (c ∷ bs) = rw is at h in cc
    go false is = no_space ((b == 47) && (c == 42)) refl is

pub quiet_at_end : (bs : List ℕ) → is_end bs ≡ true → true ≡ is_quiet bs
unfolding is_quiet
quiet_at_end [] h = refl
quiet_at_end (b ∷ []) h = refl
quiet_at_end (b ∷ c ∷ bs) h = let e : ((b == 47) && (c == 47)) ≡ true = h in rw e refl

pub quiet_more : (bs r : List ℕ) → is_end bs ≡ false → Some r ≡ after_byte_at bs → is_quiet r ≡ is_quiet bs
unfolding is_quiet
quiet_more [] r end h = cc
quiet_more (b ∷ []) r end h = let e : Some r ≡ Some [] = rw (and_false (b == 47)) at h in let same : r ≡ [] = some_is r [] e in rw same refl
quiet_more (b ∷ c ∷ bs) r end h = go ((b == 47) && (c == 42)) refl
  where
    at_comment : (o : Option ℕ) → comment_end bs ≡ o → Some r ≡ option_map (λ n. drop n bs) o → is_quiet r ≡ is_quiet_after bs
    at_comment None is e = cc
    at_comment (Some n) is e = let same : r ≡ drop n bs = some_is r (drop n bs) e in rw (is_quiet_after_end bs, is, same) refl

    go : (v : Bool) → ((b == 47) && (c == 42)) ≡ v → is_quiet r ≡ is_quiet (b ∷ c ∷ bs)
    go true is =
        let no_line : ((b == 47) && (c == 47)) ≡ false = end in
        let e : Some r ≡ after_comment bs = rw is at h in
        rw (no_line, is) (at_comment (comment_end bs) refl e)
    go false is =
        let no_line : ((b == 47) && (c == 47)) ≡ false = end in
        let e : Some r ≡ Some (c ∷ bs) = rw is at h in
        let same : r ≡ c ∷ bs = some_is r (c ∷ bs) e in
        rw (no_line, is, same) refl

pub quiet_open : (bs : List ℕ) → is_end bs ≡ false → None ≡ after_byte_at bs → false ≡ is_quiet bs
unfolding is_quiet
quiet_open [] end h = cc
quiet_open (b ∷ []) end h = let e : None ≡ Some [] = rw (and_false (b == 47)) at h in cc
quiet_open (b ∷ c ∷ bs) end h = go ((b == 47) && (c == 42)) refl
  where
    at_comment : (o : Option ℕ) → comment_end bs ≡ o → None ≡ option_map (λ n. drop n bs) o → false ≡ is_quiet_after bs
    at_comment None is e = rw (is_quiet_after_end bs, is) refl
    at_comment (Some n) is e = cc

    go : (v : Bool) → ((b == 47) && (c == 42)) ≡ v → false ≡ is_quiet (b ∷ c ∷ bs)
    go true is =
        let no_line : ((b == 47) && (c == 47)) ≡ false = end in
        let e : None ≡ after_comment bs = rw is at h in
        rw (no_line, is) (at_comment (comment_end bs) refl e)
    go false is = let e : None ≡ Some (c ∷ bs) = rw is at h in cc
