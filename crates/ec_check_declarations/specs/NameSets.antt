-- Names that stood before, as a set that finds them has them.
use Rattle.std.specs.Prelude.{◌≡◌, ℕ, Bool, ◌||◌, List}
use Rattle.std.specs.List.{list_any}
use Rattle.std.specs.Str.{bytes_eq}
use Rattle.ec_grammar.specs.Trees as t
use Rattle.ec_space.specs.Listed.{Listed}
use Rattle.ec_check_declarations.specs.Params.{has_name, is_name_of}
use Rattle.ec_check_declarations.specs.Structures.{MemberDeclared, is_member}

-- one of the names is this one
abbrev pub is_among : List ℕ → List (Listed ℕ) → Bool
is_among n names = list_any (λ k. bytes_eq n k.items) names

-- the names of one set are those of another one, and this one
abbrev pub AddsName : List ℕ → List (Listed ℕ) → List (Listed ℕ) → Type 0
AddsName name old new = (n : List ℕ) → is_among n new ≡ (is_among n old || bytes_eq name n)

-- the names are those of these members
abbrev pub AreMemberNames : List (Listed ℕ) → List MemberDeclared → Type 0
AreMemberNames names ms = (n : List ℕ) → is_among n names ≡ is_member n ms

-- the names are those of these parameters
abbrev pub AreParamNames : List (Listed ℕ) → (first : t.Param) → (before : List t.NextParam) → Type 0
AreParamNames names first before = (n : List ℕ) → is_among n names ≡ (has_name n first || is_name_of n before)
