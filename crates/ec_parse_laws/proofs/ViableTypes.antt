-- A fault in a type name or in its specifiers, completed.
use Rattle.std.proofs.Common.{◌≡◌, ℕ, suc, List, [], ◌∷◌, Err, Some, refl, ◌∙◌, inl, inr}
use Rattle.ec_grammar.specs.declared.token.WordKind.TheVariants as words
use Rattle.ec_grammar.specs.declared.token.PunctKind.TheVariants.{Star}
use Rattle.ec_grammar.specs.declared.Qualifier.{Qualifier}
use Rattle.ec_grammar.specs.Trees as t
use Rattle.ec_grammar.specs.Trees.{Leaf}
use Rattle.ec_grammar.specs.Spelling.{of_spec}
use Rattle.ec_grammar.specs.Grammar.{is_qualifier, is_spec_word}
use Rattle.ec_parse_laws.specs.Reading.{Fault, Read, leaf_if, word_if, taken, taken_word, identifier, many, qualifier_at, star_at, spec_at}
use Rattle.ec_parse_laws.specs.Reading.{specs_by, type_name_by}
use Rattle.ec_parse_laws.specs.Passing.{PassesList}
use Rattle.ec_parse_laws.proofs.Basics.{some_is, when_some, taken_word_is}
use Rattle.ec_parse_laws.proofs.Sound.{spec_is}
use Rattle.ec_parse_laws.proofs.Agreeing.{from_here, past, past_spec}
use Rattle.ec_parse_laws.proofs.Completing.{err_is, not_err, bind_fault, when_fault, identifier_fault, Viable, FaultsAt, at, stop, put_in}
use Rattle.ec_parse_laws.proofs.Completing.{many_viable, many_no_fault}
use Rattle.ec_parse_laws.proofs.Shortest.{spec_kind, specs_kind, type_names, some_name, name_leaf, int_leaf, int_specs}

pub none_passes : {A : Type 0} (of_one : A → List Leaf → List Leaf) (xs : List A) (rest : List Leaf) (place : ℕ)
    → PassesList of_one (λ x rest place. ⊥) xs rest place → ⊥
none_passes of_one [] rest place p = p
none_passes of_one (x ∷ xs) rest place (inl p) = p
none_passes of_one (x ∷ xs) rest place (inr p) = none_passes of_one xs rest place p

qualifier_faultless : (ts : List Leaf) (r : Read Qualifier) (f : Fault) → qualifier_at ts ≡ Some r → r ≡ Err f → ⊥
qualifier_faultless ts r f o b = let w = when_some (leaf_if (word_if is_qualifier) ts) _ _ o in not_err _ _ (some_is _ _ w.2 ∙ b)

star_faultless : (ts : List Leaf) (r : Read t.Star) (f : Fault) → star_at ts ≡ Some r → r ≡ Err f → ⊥
unfolding star_at
star_faultless ts r f o b =
    let s = when_some (taken Star ts) _ _ o in
    bind_fault (many qualifier_at s.0.2) _ f (some_is _ _ s.2 ∙ b) (λ e. many_no_fault qualifier_at qualifier_faultless s.0.2 f e)
    (λ q k e. not_err _ _ e)

pub stars_faultless : (ts : List Leaf) (f : Fault) → many star_at ts ≡ Err f → ⊥
stars_faultless ts f e = many_no_fault star_at star_faultless ts f e

spec_faults : (first limit : ℕ) → FaultsAt spec_kind first limit spec_at
unfolding spec_at
spec_faults first limit ts r f o b =
    when_fault (leaf_if (word_if is_spec_word) ts) _ _ _ o
    (λ w p g. absurd (not_err _ _ (some_is _ _ g ∙ b)))
    (λ p g.
    let s = when_some (taken_word words.Struct ts) _ _ g in
    bind_fault (identifier s.0.2) _ f (some_is _ _ s.2 ∙ b)
    (λ e. at (taken_word_is words.Struct ts s.0 s.1) (stop (identifier_fault s.0.2 f e) (t.struct_spec s.0.0 (some_name first)) (suc first)
    (λ rest. name_leaf first ∷ rest) tt (λ rest q. (refl, q)) (λ rest. past _ from_here)))
    (λ n k e. absurd (not_err _ _ e)))

pub specs_faults : (first limit : ℕ) (ts : List Leaf) (f : Fault) → specs_by ts ≡ Err f → Viable specs_kind first limit limit ts f
unfolding specs_by
specs_faults first limit ts f e =
    when_fault (spec_at ts) _ _ _ e
    (λ r o g. bind_fault r _ f g
    (λ b. let v = spec_faults first limit ts r f o b in
    put_in v (t.specs v.tree []) v.count (λ rest. rest) (v.is, tt) (λ rest q. q) (λ rest. v.agree rest) (λ rest place p. p))
    (λ s ok h. bind_fault (many spec_at s.1) _ f h
    (λ b.
    let made = spec_is ts r s o ok in
    let v = many_viable spec_kind first limit spec_at (λ x m n us vs g. past_spec x g) spec_is (spec_faults first limit) s.1 f b in
    at made.0 (put_in v (t.specs s.0 v.tree) v.count (λ rest. rest) (made.1, v.is) (λ rest q. q) (λ rest. past_spec s.0 (v.agree rest))
    (λ rest place p. none_passes of_spec v.tree rest place p)))
    (λ m k l. absurd (not_err _ _ l))))
    (λ o g.
    stop (err_is _ _ g) (int_specs first) (suc first) (λ rest. int_leaf first ∷ rest) (refl, tt) (λ rest q. (refl, q)) (λ rest. from_here))

pub type_name_faults : (first limit : ℕ) (ts : List Leaf) (f : Fault) → type_name_by ts ≡ Err f → Viable type_names first limit limit ts f
unfolding type_name_by
type_name_faults first limit ts f e =
    bind_fault (specs_by ts) _ f e
    (λ b. let v = specs_faults first limit ts f b in
    put_in v (t.type_name v.tree []) v.count (λ rest. rest) (v.is, tt) (λ rest q. q) (λ rest. v.agree rest) (λ rest place p. p))
    (λ s ok g. bind_fault (many star_at s.1) _ f g (λ b. absurd (stars_faultless s.1 f b)) (λ m k h. absurd (not_err _ _ h)))
