-- Runs of bytes that pass a test, and the ends of comments.
use Rattle.std.proofs.Common.{◌≡◌, ℕ, zero, suc, ◌+◌, ◌≤◌, ◌==◌, ◌&&◌, List, [], ◌∷◌, ◌++◌, length, take, drop, Bool, true, false, Option}
use Rattle.std.proofs.Common.{Some, None, option_map, refl, sym, ◌∙◌, arith, subst, add-one, if◌then◌else◌}
use Rattle.std.specs.List.{prefix_len}
use Rattle.std.proofs.lemmas.Bool.{true≢false}
use Rattle.std.proofs.lemmas.List.{length-drop, length-append, drop_all, append-nil}
use Rattle.ec_lex.specs.Bytes.{begins}
use Rattle.ec_lex.specs.Pieces.{comment_end, Pass}
use Rattle.ec_lex.proofs.Tables.{some_is}

-- ---- runs of bytes

-- bytes that pass are within the longest front that passes
pub pass_le : (test : ℕ → Bool) (w r : List ℕ) → Pass test w → length w ≤ prefix_len test (w ++ r)
pass_le test [] r h = omega arith
pass_le test (b ∷ w) r h = rw h.0 (omega (arith, pass_le test w r h.1))

pub prefix_passes : (test : ℕ → Bool) (bs : List ℕ) → Pass test (take (prefix_len test bs) bs)
prefix_passes test [] = tt
prefix_passes test (b ∷ bs) = go (prefix_passes test bs) (test b) refl
  where
    go : Pass test (take (prefix_len test bs) bs) → (v : Bool) → test b ≡ v → Pass test (take (prefix_len test (b ∷ bs)) (b ∷ bs))
    go more true e =
        let k : prefix_len test (b ∷ bs) ≡ suc (prefix_len test bs) = rw e (omega arith) in
        subst (λ (n : ℕ). Pass test (take n (b ∷ bs))) (sym k) (e, more)
    go more false e = rw e tt

pub pass_whole : (test : ℕ → Bool) (w : List ℕ) → Pass test w → drop (prefix_len test w) w ≡ []
pass_whole test w h =
    let e : length w ≤ prefix_len test (w ++ []) = pass_le test w [] h in
    drop_all (prefix_len test w) w (rw append-nil at e)

-- what is left of a run is no longer than what stood behind these bytes of it
pub run_left : (test : ℕ → Bool) (w other : List ℕ) → Pass test w → length (drop (prefix_len test (w ++ other)) (w ++ other)) ≤ length other
run_left test w other h = simp (length-drop, length-append) (omega (arith, pass_le test w other h))

-- ---- the end of a comment

pub end_append : (body other : List ℕ) (n : ℕ) → comment_end body ≡ Some n → comment_end (body ++ other) ≡ Some n
end_append [] other n h = cc
end_append (b ∷ []) other n h = absurd (none (b == 42) h)
  where
    none : (v : Bool) → (if v && false then Some 2 else None) ≡ Some n → ⊥
    none true e = cc
    none false e = cc
end_append (b ∷ c ∷ bs) other n h = go (λ m. end_append (c ∷ bs) other m) ((b == 42) && (c == 47)) refl
  where
    one_more : (o : Option ℕ) → comment_end (c ∷ bs) ≡ o
        → ((m : ℕ) → comment_end (c ∷ bs) ≡ Some m → comment_end ((c ∷ bs) ++ other) ≡ Some m) → option_map (λ m. m + 1) o ≡ Some n
        → option_map (λ m. m + 1) (comment_end ((c ∷ bs) ++ other)) ≡ Some n
    one_more None is more e = cc
    one_more (Some m) is more e = rw (more m is) e

    go : ((m : ℕ) → comment_end (c ∷ bs) ≡ Some m → comment_end ((c ∷ bs) ++ other) ≡ Some m) → (v : Bool) → ((b == 42) && (c == 47)) ≡ v
        → comment_end ((b ∷ c ∷ bs) ++ other) ≡ Some n
    go more true is = rw is (rw is at h)
    go more false is = rw is (one_more (comment_end (c ∷ bs)) refl more (rw is at h))

-- where no end stands in the front, the first end is past it
pub end_past : (body other : List ℕ) (n : ℕ) → comment_end body ≡ None → comment_end (body ++ other) ≡ Some n → length body ≤ n
end_past [] other n none h = omega arith
end_past (b ∷ bs) other n none h =
    go (λ m. end_past bs other m) ((b == 42) && begins (λ c. c == 47) bs) refl ((b == 42) && begins (λ c. c == 47) (bs ++ other)) refl
  where
    no_more : (o : Option ℕ) → option_map (λ m. m + 1) o ≡ None → o ≡ None
    no_more None e = refl
    no_more (Some m) e = cc

    one_more : (o : Option ℕ) → comment_end (bs ++ other) ≡ o
        → ((m : ℕ) → comment_end bs ≡ None → comment_end (bs ++ other) ≡ Some m → length bs ≤ m) → comment_end bs ≡ None
        → option_map (λ m. m + 1) o ≡ Some n → suc (length bs) ≤ n
    one_more None is more e f = cc
    one_more (Some m) is more e f = let same : m + 1 ≡ n = some_is (m + 1) n f in omega (arith, more m e is)

    short : (rest : List ℕ) → bs ≡ rest → ((b == 42) && begins (λ c. c == 47) rest) ≡ false
        → ((b == 42) && begins (λ c. c == 47) (rest ++ other)) ≡ true → Some 2 ≡ Some n → suc (length rest) ≤ n
    short [] is fails passes f = let same : 2 ≡ n = some_is 2 n f in omega arith
    short (c ∷ rest) is fails passes f = absurd (true≢false (sym passes ∙ fails))

    go : ((m : ℕ) → comment_end bs ≡ None → comment_end (bs ++ other) ≡ Some m → length bs ≤ m) → (v : Bool)
        → ((b == 42) && begins (λ c. c == 47) bs) ≡ v → (w : Bool) → ((b == 42) && begins (λ c. c == 47) (bs ++ other)) ≡ w
        → suc (length bs) ≤ n
    go more true is w is' = let e : Some 2 ≡ None = rw is at none in cc
    go more false is true is' = short bs refl is is' (rw is' at h)
    go more false is false is' = one_more (comment_end (bs ++ other)) refl more (no_more (comment_end bs) (rw is at none)) (rw is' at h)

pub end_within : (bs : List ℕ) (n : ℕ) → comment_end bs ≡ Some n → n ≤ length bs
end_within [] n h = cc
end_within (b ∷ bs) n h = go (λ m. end_within bs m) ((b == 42) && begins (λ c. c == 47) bs) refl
  where
    two : (rest : List ℕ) → bs ≡ rest → ((b == 42) && begins (λ c. c == 47) rest) ≡ true → 2 ≤ suc (length rest)
    two [] is e = absurd (false_right (b == 42) e)
      where
        false_right : (v : Bool) → (v && false) ≡ true → ⊥
        false_right true e = cc
        false_right false e = cc
    two (c ∷ rest) is e = omega arith

    one_more : (o : Option ℕ) → comment_end bs ≡ o → ((m : ℕ) → comment_end bs ≡ Some m → m ≤ length bs)
        → option_map (λ m. m + 1) o ≡ Some n → n ≤ suc (length bs)
    one_more None is more e = cc
    one_more (Some m) is more e = let same : m + 1 ≡ n = some_is (m + 1) n e in omega (arith, more m is)

    go : ((m : ℕ) → comment_end bs ≡ Some m → m ≤ length bs) → (v : Bool) → ((b == 42) && begins (λ c. c == 47) bs) ≡ v
        → n ≤ suc (length bs)
    go more true is = let e : Some 2 ≡ Some n = rw is at h in let same : 2 ≡ n = some_is 2 n e in omega (arith, two bs refl is)
    go more false is = one_more (comment_end bs) refl more (rw is at h)

-- a comment's own bytes have its end at their end
pub end_taken : (bs : List ℕ) (n : ℕ) → comment_end bs ≡ Some n → comment_end (take n bs) ≡ Some n
end_taken [] n h = cc
end_taken (b ∷ bs) n h = go (λ m. end_taken bs m) ((b == 42) && begins (λ c. c == 47) bs) refl
  where
    two : (rest : List ℕ) → ((b == 42) && begins (λ c. c == 47) rest) ≡ true → comment_end (take 2 (b ∷ rest)) ≡ Some 2
    two [] e = absurd (false_right (b == 42) e)
      where
        false_right : (v : Bool) → (v && false) ≡ true → ⊥
        false_right true e = cc
        false_right false e = cc
    two (c ∷ rest) e = rw e refl

    head : (rest : List ℕ) (m : ℕ) → comment_end (take m rest) ≡ Some m → ((b == 42) && begins (λ c. c == 47) rest) ≡ false
        → comment_end (b ∷ take m rest) ≡ Some (m + 1)
    head [] m same is = head_end (take m []) same (nil m)
      where
        nil : (k : ℕ) → take {A = ℕ} k [] ≡ []
        nil zero = refl
        nil (suc k) = refl

        head_end : (t : List ℕ) → comment_end t ≡ Some m → t ≡ [] → comment_end (b ∷ t) ≡ Some (m + 1)
        head_end t f e = let g : comment_end [] ≡ Some m = rw e at f in cc
    head (c ∷ rest) zero same is = cc
    head (c ∷ rest) (suc m) same is = rw is (rw same refl)

    one_more : (o : Option ℕ) → comment_end bs ≡ o → ((m : ℕ) → comment_end bs ≡ Some m → comment_end (take m bs) ≡ Some m)
        → ((b == 42) && begins (λ c. c == 47) bs) ≡ false → option_map (λ m. m + 1) o ≡ Some n → comment_end (take n (b ∷ bs)) ≡ Some n
    one_more None is more fails e = cc
    one_more (Some m) is more fails e =
        let same : m + 1 ≡ n = some_is (m + 1) n e in
        subst (λ (k : ℕ). comment_end (take k (b ∷ bs)) ≡ Some k) same (rw add-one (rw add-one at (head bs m (more m is) fails)))

    go : ((m : ℕ) → comment_end bs ≡ Some m → comment_end (take m bs) ≡ Some m) → (v : Bool) → ((b == 42) && begins (λ c. c == 47) bs) ≡ v
        → comment_end (take n (b ∷ bs)) ≡ Some n
    go more true is =
        let e : Some 2 ≡ Some n = rw is at h in
        let same : 2 ≡ n = some_is 2 n e in
        subst (λ (k : ℕ). comment_end (take k (b ∷ bs)) ≡ Some k) same (two bs is)
    go more false is = one_more (comment_end bs) refl more is (rw is at h)
