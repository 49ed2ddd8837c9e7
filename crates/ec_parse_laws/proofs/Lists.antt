-- Lists of items are read again, and type names with them.
use Rattle.std.proofs.Common.{◌≡◌, ℕ, zero, suc, ◌<◌, ◌≤◌, List, [], ◌∷◌, length, Ok, Option, Some, None, refl, arith}
use Rattle.std.specs.Prelude.{⊤}
use Rattle.ec_grammar.specs.declared.token.WordKind.{WordKind}
use Rattle.ec_grammar.specs.declared.token.PunctKind.TheVariants.{RightParenthesis, Comma}
use Rattle.ec_grammar.specs.declared.Spot.{Spot}
use Rattle.ec_grammar.specs.declared.Qualifier.{Qualifier}
use Rattle.ec_grammar.specs.Trees as t
use Rattle.ec_grammar.specs.Trees.{Leaf}
use Rattle.ec_grammar.specs.Spelling.{mark, of_list, of_identifier, of_qualifier, of_star, of_spec, of_specs, of_type_name}
use Rattle.ec_grammar.specs.Grammar.{Every, is_qualifier, Is_qualifier, Is_star, Is_spec, Is_specs, Is_type_name}
use Rattle.ec_parse_laws.specs.Reading.{Read, ◌>>=◌, leaf_if, word_if, many_up_to, many, qualifier_at, star_at, spec_at, specs_by}
use Rattle.ec_parse_laws.specs.Reading.{type_name_by, starts_specs}
use Rattle.ec_parse_laws.proofs.Basics.{reads_bind}
use Rattle.ec_parse_laws.proofs.Follow.{word_if_self}
use Rattle.ec_parse_laws.proofs.Past.{list_long, qualifier_long, star_long, spec_long}

-- an item is there, and is read
abbrev pub ReadsAt : {A : Type 0} → Option (Read A) → A → List Leaf → Type 0
ReadsAt {A = A} o x rest = (r : Read A) × (o ≡ Some r) × (r ≡ Ok (x, rest))

-- each item of a list is read before those that follow it
abbrev pub ReadsItems : {A : Type 0} → (List Leaf → Option (Read A)) → (A → List Leaf → List Leaf) → List A → List Leaf → Type 0
ReadsItems item of_one [] rest = ⊤
ReadsItems item of_one (x ∷ xs) rest =
    ReadsAt (item (of_one x (of_list of_one xs rest))) x (of_list of_one xs rest) × ReadsItems item of_one xs rest

pub reads_up_to : {A : Type 0} (item : List Leaf → Option (Read A)) (of_one : A → List Leaf
    → List Leaf) (xs : List A) (rest : List Leaf) (n : ℕ) → length xs ≤ n → ReadsItems item of_one xs rest → item rest ≡ None
    → many_up_to item n (of_list of_one xs rest) ≡ Ok (xs, rest)
unfolding many_up_to
reads_up_to item of_one [] rest zero le all stop = refl
reads_up_to item of_one [] rest (suc n) le all stop = rw stop refl
reads_up_to item of_one (x ∷ xs) rest zero le all stop = absurd (omega (arith, le))
reads_up_to item of_one (x ∷ xs) rest (suc n) le all stop =
    let more = reads_bind (many_up_to item n (of_list of_one xs rest)) (λ ys. Ok (x ∷ ys.0, ys.1)) xs rest (x ∷ xs) rest
    (reads_up_to item of_one xs rest n (omega (arith, le)) all.1 stop) (refl) in
    let both =
    reads_bind all.0.0 (λ y. many_up_to item n y.1 >>= λ ys. Ok (y.0 ∷ ys.0, ys.1)) x (of_list of_one xs rest) (x ∷ xs) rest all.0.2 more in
    rw all.0.1 both

pub reads_many : {A : Type 0} (item : List Leaf → Option (Read A)) (of_one : A → List Leaf → List Leaf)
    → ((x : A) (rest : List Leaf) → length rest < length (of_one x rest)) → (xs : List A) (rest : List Leaf)
    → ReadsItems item of_one xs rest → item rest ≡ None
    → many item (of_list of_one xs rest) ≡ Ok (xs, rest)
reads_many item of_one long xs rest all stop =
    reads_up_to item of_one xs rest (length (of_list of_one xs rest)) (list_long of_one long xs rest) all stop

-- ---- qualifiers, stars and specifiers

qualifier_items : (qs : List Qualifier) (rest : List Leaf) → Every Is_qualifier qs → ReadsItems qualifier_at of_qualifier qs rest
qualifier_items [] rest is = tt
qualifier_items (q ∷ qs) rest is = (
  (_, rw (word_if_self is_qualifier q.word q.spot (of_list of_qualifier qs rest) is.0) refl, refl),
  qualifier_items qs rest is.1,
)

-- what stands after stars is no star and no qualifier
abbrev pub AfterStars : List Leaf → Type 0
AfterStars rest = (star_at rest ≡ None) × (qualifier_at rest ≡ None)

stars_no_qualifier : (stars : List t.Star) (rest : List Leaf) → qualifier_at rest ≡ None → qualifier_at (of_list of_star stars rest) ≡ None
unfolding leaf_if
stars_no_qualifier [] rest e = e
stars_no_qualifier (t.star s q ∷ stars) rest e = refl

star_items : (stars : List t.Star) (rest : List Leaf) → Every Is_star stars → qualifier_at rest ≡ None
    → ReadsItems star_at of_star stars rest
unfolding star_at leaf_if
star_items [] rest is e = tt
star_items (t.star s q ∷ stars) rest is e = (
  (
    _,
    refl,
    reads_bind _ _ q (of_list of_star stars rest) (t.star s q) (of_list of_star stars rest)
        (reads_many qualifier_at of_qualifier qualifier_long q (of_list of_star stars rest) (qualifier_items q _ is.0)
        (stars_no_qualifier stars rest e)) (refl),
  ),
  star_items stars rest is.1 e,
)

pub stars_read : (stars : List t.Star) (rest : List Leaf) → Every Is_star stars → AfterStars rest
    → many star_at (of_list of_star stars rest) ≡ Ok (stars, rest)
stars_read stars rest is after = reads_many star_at of_star star_long stars rest (star_items stars rest is after.1) after.0

spec_item : (s : t.Spec) (rest : List Leaf) → Is_spec s → ReadsAt (spec_at (of_spec s rest)) s rest
unfolding spec_at leaf_if
spec_item (t.word_spec s w) rest is = (_, rw is refl, refl)
spec_item (t.struct_spec s (t.identifier k n)) rest is = (_, refl, refl)

spec_items : (ss : List t.Spec) (rest : List Leaf) → Every Is_spec ss → ReadsItems spec_at of_spec ss rest
spec_items [] rest is = tt
spec_items (s ∷ ss) rest is = (spec_item s _ is.0, spec_items ss rest is.1)

pub specs_read : (s : t.Specs) (rest : List Leaf) → Is_specs s → spec_at rest ≡ None → specs_by (of_specs s rest) ≡ Ok (s, rest)
unfolding specs_by
specs_read (t.specs s more) rest is stop =
    let first = spec_item s (of_list of_spec more rest) is.0 in
    let others = reads_bind (many spec_at (of_list of_spec more rest)) (λ m. Ok (t.specs s m.0, m.1)) more rest (t.specs s more) rest
    (reads_many spec_at of_spec spec_long more rest (spec_items more rest is.1) stop) (refl) in
    let both = reads_bind first.0 (λ x. many spec_at x.1 >>= λ m. Ok (t.specs x.0 m.0, m.1)) s (of_list of_spec more rest)
    (t.specs s more) rest first.2 others in
    rw first.1 both

pub stars_no_spec : (stars : List t.Star) (rest : List Leaf) → spec_at rest ≡ None → spec_at (of_list of_star stars rest) ≡ None
unfolding spec_at leaf_if
stars_no_spec [] rest e = e
stars_no_spec (t.star s q ∷ stars) rest e = refl

-- what stands after a type name
abbrev pub AfterType : List Leaf → Type 0
AfterType rest = (spec_at rest ≡ None) × (star_at rest ≡ None) × (qualifier_at rest ≡ None)

pub type_name_read : (ty : t.TypeName) (rest : List Leaf) → Is_type_name ty → AfterType rest
    → type_name_by (of_type_name ty rest) ≡ Ok (ty, rest)
unfolding type_name_by
type_name_read (t.type_name s stars) rest is after =
    reads_bind _ _ s (of_list of_star stars rest) (t.type_name s stars) rest
    (specs_read s (of_list of_star stars rest) is.0 (stars_no_spec stars rest after.0))
    (reads_bind _ _ stars rest (t.type_name s stars) rest (stars_read stars rest is.1 (after.1, after.2)) (refl))

-- a parenthesis that closes, a comma and a name stand after type names
pub after_type_close : (s : Spot) (rest : List Leaf) → AfterType (mark s RightParenthesis ∷ rest)
unfolding spec_at star_at leaf_if
after_type_close s rest = (refl, refl, refl)

pub after_type_comma : (s : Spot) (rest : List Leaf) → AfterType (mark s Comma ∷ rest)
unfolding spec_at star_at leaf_if
after_type_comma s rest = (refl, refl, refl)

pub after_type_name : (n : t.Identifier) (rest : List Leaf) → AfterType (of_identifier n rest)
unfolding spec_at star_at leaf_if
after_type_name (t.identifier s n) rest = (refl, refl, refl)

-- specifiers begin with a word of theirs
spec_starts : (s : t.Spec) (rest : List Leaf) → Is_spec s
    → (w : Spot × WordKind × List Leaf) × (leaf_if (word_if starts_specs) (of_spec s rest) ≡ Some w)
unfolding leaf_if
spec_starts (t.word_spec s w) rest is = ((s, w, rest), rw is refl)
spec_starts (t.struct_spec s n) rest is = (_, refl)

pub specs_start : (s : t.Specs) (rest : List Leaf) → Is_specs s
    → (w : Spot × WordKind × List Leaf) × (leaf_if (word_if starts_specs) (of_specs s rest) ≡ Some w)
specs_start (t.specs s more) rest is = spec_starts s (of_list of_spec more rest) is.0

pub type_name_starts : (ty : t.TypeName) (rest : List Leaf) → Is_type_name ty
    → (w : Spot × WordKind × List Leaf) × (leaf_if (word_if starts_specs) (of_type_name ty rest) ≡ Some w)
type_name_starts (t.type_name s stars) rest is = specs_start s _ is.0
