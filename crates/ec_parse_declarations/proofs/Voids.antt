-- `void` alone.
use Rattle.std.proofs.Common.{◌≡◌, ◌==◌, List, [], ◌∷◌, length, map, true, false, Option, Some, None, refl, arith}
use Rattle.std.proofs.lemmas.Bool.{eqb-true}
use Rattle.ec_grammar.specs.declared.Spec.{Spec}
use Rattle.ec_grammar.specs.declared.Spec.TheVariants as spec_kinds
use Rattle.ec_grammar.specs.declared.Star.{Star}
use Rattle.ec_grammar.specs.Trees as t
use Rattle.ec_grammar.specs.Grammar.{lone_void}
use Rattle.ec_grammar.specs.Views.{view_spec, view_star}
use Rattle.ec_parse_declarations.specs.Parts.{is_void_spec}

pub named_void : (first : t.Spec) (more : List t.Spec) (stars : List t.Star) (n : t.Identifier)
    → lone_void (t.type_name (t.specs first more) stars) (Some n) ≡ false
named_void (t.word_spec s w) [] [] n = refl
named_void (t.word_spec s w) [] (x ∷ xs) n = refl
named_void (t.word_spec s w) (x ∷ xs) stars n = refl
named_void (t.struct_spec s tag) more stars n = refl

pub starred_void : (first : t.Spec) (more : List t.Spec) (stars : List Star) (n : Option t.Identifier) → (length stars == 0) ≡ false
    → lone_void (t.type_name (t.specs first more) (map view_star stars)) n ≡ false
starred_void first more [] n e = absurd cc
starred_void (t.word_spec s w) [] (x ∷ xs) n e = refl
starred_void (t.word_spec s w) (y ∷ ys) (x ∷ xs) n e = refl
starred_void (t.struct_spec s tag) more (x ∷ xs) n e = refl

pub several_void : (first : t.Spec) (more : List Spec) (stars : List t.Star) (n : Option t.Identifier) → (length more == 0) ≡ false
    → lone_void (t.type_name (t.specs first (map view_spec more)) stars) n ≡ false
several_void first [] stars n e = absurd cc
several_void (t.word_spec s w) (x ∷ xs) stars n e = refl
several_void (t.struct_spec s tag) (x ∷ xs) stars n e = refl

pub alone_void : (first : Spec) (more : List Spec) (stars : List Star) → (length more == 0) ≡ true → (length stars == 0) ≡ true
    → lone_void (t.type_name (t.specs (view_spec first) (map view_spec more)) (map view_star stars)) None ≡ is_void_spec first
alone_void (spec_kinds.Word s w) [] [] a b = refl
alone_void (spec_kinds.Struct s tag) [] [] a b = refl
alone_void first (x ∷ xs) stars a b = absurd (omega (arith, eqb-true (length (x ∷ xs)) 0 a))
alone_void first [] (x ∷ xs) a b = absurd (omega (arith, eqb-true (length (x ∷ xs)) 0 b))

pub ruleset voids = (named_void, starred_void, several_void, alone_void)
