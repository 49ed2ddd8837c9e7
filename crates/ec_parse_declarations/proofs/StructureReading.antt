-- Steps of reading definitions of structs that the search does not find.
use Rattle.std.proofs.Common.{◌≡◌, List, Ok, Err, refl, ◌∙◌}
use Rattle.ec_grammar.specs.declared.token.PunctKind.TheVariants.{RightBrace, Semicolon}
use Rattle.ec_grammar.specs.declared.Spot.{Spot}
use Rattle.ec_grammar.specs.Trees as t
use Rattle.ec_grammar.specs.Trees.{Leaf}
use Rattle.ec_parse_laws.specs.Reading.{Depth, Read, ◌>>=◌, expected, many, members_by, members_at, structure_by}
use Rattle.ec_parse_tokens.specs.declared.stop.ReadError.{ReadError}
use Rattle.ec_parse_tokens.specs.declared.stop.ReadError.TheVariants as errors
use Rattle.ec_parse_tokens.specs.Reads.{Fails}
use Rattle.ec_parse_declarations.specs.Structures.{ended_by, structure_end}

-- what is made of the two tokens at the end
abbrev with_end : {A : Type 0} → (Spot → Spot → A) → Spot → Spot → List Leaf → Read A
with_end f r e ts = Ok (f r e, ts)

-- what stands behind the members, read at once
end_at_once : {A : Type 0} (f : Spot → Spot → A) (q : Read Spot)
    → (q >>= λ r. expected Semicolon r.1 >>= λ e. with_end f r.0 e.0 e.1)
    ≡ ((q >>= λ r. expected Semicolon r.1 >>= λ e. ended_by r.0 e.0 e.1) >>= λ x. with_end f x.0.0 x.0.1 x.1)
end_at_once f (Err e) = refl
end_at_once f (Ok r) = semicolon (expected Semicolon r.1)
  where
    semicolon : (p : Read Spot)
        → (p >>= λ e. with_end f r.0 e.0 e.1) ≡ ((p >>= λ e. ended_by r.0 e.0 e.1) >>= λ x. with_end f x.0.0 x.0.1 x.1)
    semicolon (Err e) = refl
    semicolon (Ok e) = refl

structure_up : (inner : Depth) (s : Spot) (tag : t.Identifier) (l : Spot) (ts : List Leaf) (m : t.Member) (after : List Leaf)
    (more : List t.Member) (rest : List Leaf)
    → members_by inner ts ≡ Ok (m, after) → many (members_at inner) after ≡ Ok (more, rest)
    → structure_by inner s tag l ts ≡ (structure_end rest >>= λ x. with_end (t.structure s tag l m more) x.0.0 x.0.1 x.1)
unfolding structure_by
structure_up inner s tag l ts m after more rest one others =
    rw (one, others) (end_at_once (t.structure s tag l m more) (expected RightBrace rest))

pub structure_reads : (inner : Depth) (s : Spot) (tag : t.Identifier) (l : Spot) (ts : List Leaf) (m : t.Member) (after : List Leaf)
    (more : List t.Member) (rest : List Leaf) (r e : Spot) (left : List Leaf)
    → members_by inner ts ≡ Ok (m, after) → many (members_at inner) after ≡ Ok (more, rest) → structure_end rest ≡ Ok ((r, e), left)
    → structure_by inner s tag l ts ≡ Ok (t.structure s tag l m more r e, left)
structure_reads inner s tag l ts m after more rest r e left one others end =
    structure_up inner s tag l ts m after more rest one others ∙ rw end refl

fails_behind : {A : Type 0} (f : Spot → Spot → A) (stop : ReadError) (q : Read (Spot × Spot)) → Fails stop q
    → Fails stop (q >>= λ x. with_end f x.0.0 x.0.1 x.1)
fails_behind f errors.NoMemory q h = tt
fails_behind f (errors.Syntax n) q h = rw h refl
fails_behind f (errors.TooDeep n) q h = rw h refl

pub structure_fails : (inner : Depth) (s : Spot) (tag : t.Identifier) (l : Spot) (ts : List Leaf) (m : t.Member) (after : List Leaf)
    (more : List t.Member) (rest : List Leaf) (stop : ReadError)
    → members_by inner ts ≡ Ok (m, after) → many (members_at inner) after ≡ Ok (more, rest) → Fails stop (structure_end rest)
    → Fails stop (structure_by inner s tag l ts)
structure_fails inner s tag l ts m after more rest stop one others h =
    rw (structure_up inner s tag l ts m after more rest one others) (fails_behind (t.structure s tag l m more) stop (structure_end rest) h)
