-- Where comments end (ISO/IEC 9899:1999, 6.4.9). A byte is its ASCII code.
use Rattle.std.specs.Prelude.{ℕ, ◌+◌, ◌==◌, ◌&&◌, List, [], ◌∷◌, Bool, false, Option, Some, None, option_map}
use Rattle.std.specs.Prelude.{if◌then◌else◌}

-- whether the bytes begin with one that passes
abbrev pub begins : (ℕ → Bool) → List ℕ → Bool
begins test [] = false
begins test (b ∷ bs) = test b

-- how many bytes there are up to the end of the first `*/`
abbrev pub comment_end : List ℕ → Option ℕ
comment_end [] = None
comment_end (b ∷ bs) =
    if (b == 42) && begins (λ c. c == 47) bs then Some 2 else option_map (λ n. n + 1) (comment_end bs)
