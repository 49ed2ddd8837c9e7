-- A struct definition leaves what is known suiting.
use Rattle.std.proofs.Common.{◌≡◌, ◌≤◌, ◌<◌, ◌∙◌, ℕ, Bool, true, false, List, [], ◌∷◌, length, map, refl, sym, ap, subst, arith}
use Rattle.std.specs.Prelude.{if◌then◌else◌, Option, Some, None, IsSomeAnd, IfSome, option_map}
use Rattle.std.specs.Str.{bytes_eq}
use Rattle.ec_space.specs.declared.space.SpaceId.TheVariants.{Generic}
use Rattle.ec_core.specs.Plain.{struct, PlainStruct}
use Rattle.ec_check_names.specs.declared.tags.TagState.{TagState}
use Rattle.ec_check_names.specs.declared.tags.TagState.TheVariants.{Undefined, Broken, Struct}
use Rattle.ec_check_names.specs.Laws.{OuterNamesAreKnown}
use Rattle.ec_check_names.specs.Names.{Named, an_object, a_function, Names}
use Rattle.ec_check_names.specs.Tables.{Table, at_name, with_name}
use Rattle.ec_check_names.specs.Tags.{Tags, state_by, tag_state}
use Rattle.ec_check_forms.specs.Validity.{IsPlaceType}
use Rattle.ec_check_expression_laws.specs.Laws.{DefinitionsKeepSuiting}
use Rattle.ec_check_expression_laws.specs.Suits.{IsWholeTag}
use Rattle.ec_check_expression_laws.proofs.SaidTypes.{if_both}

-- ---- tags are found as names are: a tag's number is seen as that of an object

abbrev seen : Option ℕ → Named
seen number = an_object number None false Generic false

abbrev number_of : Named → Option ℕ
number_of (an_object number ty konst space register) = number
number_of (a_function number returns params) = number

abbrev seen_all : Tags → Table Named
seen_all ts = map (λ e. (e.0, seen e.1)) ts

one_found : (b : Bool) (e : Option ℕ) (x : Option Named) (y : Option (Option ℕ)) → x ≡ option_map seen y
    → (if b then Some (seen e) else x) ≡ option_map seen (if b then Some e else y)
one_found true e x y h = refl
one_found false e x y h = h

found_seen : (n : List ℕ) (ts : Tags) → at_name n (seen_all ts) ≡ option_map seen (at_name n ts)
found_seen n [] = refl
found_seen n (e ∷ es) = one_found (bytes_eq n e.0) e.1 (at_name n (seen_all es)) (at_name n es) (found_seen n es)

one_put : (b : Bool) (y : Option ℕ) (e : List ℕ × Option ℕ) (es fs : Tags) (ns : Table Named) → seen_all fs ≡ ns
    → seen_all (if b then (e.0, y) ∷ es else e ∷ fs) ≡ (if b then (e.0, seen y) ∷ seen_all es else (e.0, seen e.1) ∷ ns)
one_put true y e es fs ns h = refl
one_put false y e es fs ns h = ap (λ (ms : Table Named). (e.0, seen e.1) ∷ ms) h

put_seen : (n : List ℕ) (y : Option ℕ) (ts : Tags) → seen_all (with_name n y ts) ≡ with_name n (seen y) (seen_all ts)
put_seen n y [] = refl
put_seen n y (e ∷ es) = one_put (bytes_eq n e.0) y e es (with_name n y es) (with_name n (seen y) (seen_all es)) (put_seen n y es)

abbrev unseen : Option Named → Option (Option ℕ)
unseen o = option_map number_of o

unseen_seen : (o : Option (Option ℕ)) → unseen (option_map seen o) ≡ o
unseen_seen None = refl
unseen_seen (Some n) = refl

either : (b : Bool) (y : Option ℕ) (x : Option Named) (z : Option (Option ℕ)) → unseen x ≡ z
    → unseen (if b then Some (seen y) else x) ≡ (if b then Some y else z)
either true y x z h = refl
either false y x z h = h

tag_put : OuterNamesAreKnown → (m n : List ℕ) (y : Option ℕ) (ts : Tags)
    → at_name m (with_name n y ts) ≡ (if bytes_eq m n then Some y else at_name m ts)
tag_put outer m n y ts =
    let names : Names = record { outside = seen_all ts; inside = [] } in
    let put : at_name m (with_name n (seen y) (seen_all ts)) ≡ (if bytes_eq m n then Some (seen y) else at_name m (seen_all ts)) =
    outer names m n (seen y) refl in
    sym (unseen_seen (at_name m (with_name n y ts)))
    ∙ ap unseen (sym (found_seen m (with_name n y ts)) ∙ ap (at_name m) (put_seen n y ts) ∙ put)
    ∙ either (bytes_eq m n) y (at_name m (seen_all ts)) (at_name m ts) (ap unseen (found_seen m ts) ∙ unseen_seen (at_name m ts))

-- ---- what is known

broken_none : (i : ℕ) → ◌≡◌ {A = TagState} Broken (Struct i) → ⊥
broken_none i e = cc

placed : (structs : List PlainStruct) (number : Option ℕ) (i : ℕ) → IfSome number (λ j. IsPlaceType structs (struct j))
    → state_by (Some number) ≡ Struct i → IsPlaceType structs (struct i)
placed structs None i h e = absurd (broken_none i e)
placed structs (Some j) i h e = let same : j ≡ i = cc in subst (λ (n : ℕ). IsPlaceType structs (struct n)) same h

wider : (n m : ℕ) (s : TagState) → n ≤ m → IsWholeTag n s → IsWholeTag m s
wider n m Undefined le h = tt
wider n m Broken le h = h
wider n m (Struct i) le h = omega arith

numbered : (m : ℕ) (number : Option ℕ) → IsSomeAnd number (λ i. i < m) → IsWholeTag m (state_by (Some number))
numbered m None h = h
numbered m (Some i) h = h

pub definitions_keep_suiting : OuterNamesAreKnown → DefinitionsKeepSuiting
definitions_keep_suiting outer k tag number structs = record {
  suits = λ p io f h small known place. record {
    names = h.names;
    tags = λ n i. subst (λ (o : Option (Option ℕ)). state_by o ≡ Struct i → IsPlaceType p.structs (struct i))
        (sym (tag_put outer n tag number k.tags))
        (if_both (λ o. state_by o ≡ Struct i → IsPlaceType p.structs (struct i)) (bytes_eq n tag) (Some number) (at_name n k.tags)
        (λ e. placed p.structs number i place) (λ e. h.tags n i));
    structs = known;
    small = small;
    members = h.members;
    ports = h.ports;
  };
  types = λ h le below. record {
    names = h.names;
    tags = λ n. subst (λ (o : Option (Option ℕ)). IsWholeTag (length structs) (state_by o)) (sym (tag_put outer n tag number k.tags))
        (if_both (λ o. IsWholeTag (length structs) (state_by o)) (bytes_eq n tag) (Some number) (at_name n k.tags)
        (λ e. numbered (length structs) number below) (λ e. wider (length k.structs) (length structs) (tag_state n k.tags) le (h.tags n)));
  };
}
