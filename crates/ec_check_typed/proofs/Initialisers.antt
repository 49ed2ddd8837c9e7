-- What initialisers give is what the walk gives.
use Rattle.std.proofs.Common.{◌≡◌, ◌∙◌, ◌+◌, ℕ, Bool, true, List, [], ◌∷◌, ◌++◌, length, append_assoc, refl, sym, ap, subst}
use Rattle.std.specs.Prelude.{◌↔◌, if◌then◌else◌, nat_lt, option_map, option_and_then, Option, Some, None, map, drop, slice_get}
use Rattle.std.proofs.lemmas.Bool.Decides.{Decides-ltb}
use Rattle.std.proofs.lemmas.List.{append-nil}
use Rattle.ec_grammar.specs.declared.Spot.{Spot}
use Rattle.ec_grammar.specs.Trees as t
use Rattle.ec_core.specs.Layout.{PlainLeaf, leaves_of_type}
use Rattle.ec_core.specs.Plain.{PlainType, void, integer, fixed, pointer, array, struct, PlainMember, PlainStruct}
use Rattle.ec_check_operands.specs.Sorts.{is_aggregate}
use Rattle.ec_check_forms.specs.Constraints.{IsAggregate}
use Rattle.ec_check_forms.proofs.Decided.{aggregates}
use Rattle.ec_check_initialisers.specs.Parts.{part_type, part_of, whole_by, filled_by, joined}
use Rattle.ec_check_meanings.proofs.Options.{inside, nothing_there, given, granted}
use Rattle.ec_check_typed.specs.Initialisers.{IsPart, element, member, AreZero, no_leaf, a_leaf, Gives, one_value, in_braces}
use Rattle.ec_check_typed.specs.Initialisers.{GiveFrom, no_item, an_item}

-- ---- parts

abbrev member_type : Option PlainMember → Option PlainType
member_type m = option_map (λ m. m.ty) m

-- what a walk over initialisers is, where `item` is the value of an item, and `zero` that of a leaf that is left
pub record IsWalk {A : Type 0} (structs : List PlainStruct) (zero : PlainType → A) (item : Option PlainType → t.Assignment → Option A)
    (walk : t.Initialiser → Option PlainType → Option (List A))
    (walk_items : Option PlainType → Option (List A) → ℕ → t.Initialisers → Option (List A)) : Type 0 where
  pub one : (ty : Option PlainType) (a : t.Assignment) → walk (t.initial_value a) ty ≡ option_map (λ v. v ∷ []) (item ty a)
  pub all : (ty : Option PlainType) (l : _) (first : t.Initialiser) (more : t.Initialisers) (c : _) (r : _)
      → walk (t.braces l first more c r) ty
      ≡ whole_by zero structs ty (walk_items ty (joined (Some []) (walk first (part_of structs ty 0))) 1 more)
  pub none : (ty : Option PlainType) (es : Option (List A)) (i : ℕ) → walk_items ty es i t.no_initialisers ≡ es
  pub some : (ty : Option PlainType) (es : Option (List A)) (i : ℕ) (s : _) (x : t.Initialiser) (more : t.Initialisers)
      → walk_items ty es i (t.initialisers s x more) ≡ walk_items ty (joined es (walk x (part_of structs ty i))) (i + 1) more

module _ (structs : List PlainStruct) where
  member_is : (index i : ℕ) (p : PlainType) (s : Option PlainStruct) (m : Option PlainMember) → slice_get structs index ≡ s
      → (option_and_then (λ s. slice_get s.members i) s) ≡ m → option_and_then (λ s. option_map (λ m. m.ty) (slice_get s.members i)) s ≡ Some p
      → IsPart structs (struct index) i p
  member_is index i p None m e f q = absurd (nothing_there p q)
  member_is index i p (Some s) None e f q = absurd (nothing_there p (sym (ap (λ z. option_map (λ m. m.ty) z) f) ∙ q))
  member_is index i p (Some s) (Some m) e f q =
      subst (λ (z : PlainType). IsPart structs (struct index) i z) (inside (sym (ap (λ z. option_map (λ m. m.ty) z) f) ∙ q)) (member e f)

  pub part_is : (ty : PlainType) (i : ℕ) (p : PlainType) → part_type structs ty i ≡ Some p → IsPart structs ty i p
  part_is void i p q = absurd (nothing_there p q)
  part_is (integer signed bytes) i p q = absurd (nothing_there p q)
  part_is (fixed kind saturates) i p q = absurd (nothing_there p q)
  part_is (pointer space const to) i p q = absurd (nothing_there p q)
  part_is (array of len) i p q =
      let g = given (nat_lt i len) of p q in
      subst (λ (z : PlainType). IsPart structs (array of len) i z) g.1 (element ((Decides-ltb i len).0 g.0))
  part_is (struct index) i p q = member_is index i p (slice_get structs index) _ refl refl q

  pub is_part : (ty : PlainType) (i : ℕ) (p : PlainType) → IsPart structs ty i p → part_type structs ty i ≡ Some p
  is_part _ i _ (element {of = of} {len = len} h) = granted (nat_lt i len) of of ((Decides-ltb i len).1 h) refl
  is_part _ i _ (member {index = index} e f) =
      ap (λ z. option_and_then (λ s. option_map (λ m. m.ty) (slice_get s.members i)) z) e ∙ ap (λ z. option_map (λ m. m.ty) z) f

-- ---- leaves that are left

module _ {A : Type 0} (Zero : PlainType → A → Type 0) (zero : PlainType → A)
    (zero_is : (ty : PlainType) (v : A) → Zero ty v ↔ (zero ty ≡ v)) where
  pub zeros_to : (leaves : List PlainLeaf) (vs : List A) → AreZero Zero leaves vs → map (λ (leaf : PlainLeaf). zero leaf.ty) leaves ≡ vs
  zeros_to _ _ no_leaf = refl
  zeros_to _ _ (a_leaf {leaf = leaf} {leaves = leaves} {v = v} {vs = vs} h more) =
      ap (λ z. z ∷ map (λ (leaf : PlainLeaf). zero leaf.ty) leaves) ((zero_is leaf.ty v).0 h) ∙ ap (λ zs. v ∷ zs) (zeros_to leaves vs more)

  pub zeros_are : (leaves : List PlainLeaf) → AreZero Zero leaves (map (λ (leaf : PlainLeaf). zero leaf.ty) leaves)
  zeros_are [] = no_leaf
  zeros_are (leaf ∷ leaves) = a_leaf ((zero_is leaf.ty (zero leaf.ty)).1 refl) (zeros_are leaves)

-- ---- initialisers

module _ {A : Type 0} (Item : PlainType → t.Assignment → A → Type 0) (Zero : PlainType → A → Type 0) (structs : List PlainStruct)
    (zero : PlainType → A) (item : Option PlainType → t.Assignment → Option A)
    (walk : t.Initialiser → Option PlainType → Option (List A))
    (walk_items : Option PlainType → Option (List A) → ℕ → t.Initialisers → Option (List A))
    (w : IsWalk structs zero item walk walk_items)
    (zero_is : (ty : PlainType) (v : A) → Zero ty v ↔ (zero ty ≡ v))
    (item_is : (ty : Option PlainType) (a : t.Assignment) (v : A)
    → (item ty a ≡ Some v) ↔ ((to : PlainType) × (ty ≡ Some to) × (¬ IsAggregate to) × Item to a v)) where
  abbrev Given : PlainType → t.Initialiser → List A → Type 0
  Given ty x vs = Gives Item Zero structs ty x vs

  abbrev GivenFrom : PlainType → ℕ → t.Initialisers → List A → Type 0
  GivenFrom ty i more vs = GiveFrom Item Zero structs ty i more vs

  -- braces give what the items give, and zeros
  abbrev whole : PlainType → List A → List A
  whole ty vs = filled_by zero structs ty vs

  whole_same : (ty : PlainType) (us vs ws : List A) → us ≡ vs → whole ty us ≡ ws → whole ty vs ≡ ws
  whole_same ty us vs ws e h = ap (whole ty) (sym e) ∙ h

  whole_is : (ty : PlainType) (es : Option (List A)) (vs : List A) → whole_by zero structs (Some ty) es ≡ Some vs
      → (us : List A) × (es ≡ Some us) × (is_aggregate ty ≡ true) × (whole ty us ≡ vs)
  whole_is ty None vs q = absurd (nothing_there vs q)
  whole_is ty (Some us) vs q = let g = given (is_aggregate ty) (whole ty us) vs q in (us, refl, g.0, g.1)

  first_is : (m : Option (List A)) (ws : List A) → joined (Some []) m ≡ Some ws → m ≡ Some ws
  first_is None ws q = absurd (nothing_there ws q)
  first_is (Some us) ws q = q

  none_left : (ty : Option PlainType) (i : ℕ) (more : t.Initialisers) → walk_items ty None i more ≡ None
  none_left ty i t.no_initialisers = w.none ty None i
  none_left ty i (t.initialisers s x more) = w.some ty None i s x more ∙ none_left ty (i + 1) more

  -- what is joined to others is there
  next_is : (ty : Option PlainType) (us ws : List A) (i : ℕ) (m : Option (List A)) (more : t.Initialisers)
      → walk_items ty (joined (Some us) m) i more ≡ Some ws → (vs : List A) × (m ≡ Some vs) × (walk_items ty (Some (us ++ vs)) i more ≡ Some ws)
  next_is ty us ws i None more q = absurd (nothing_there ws (sym (none_left ty i more) ∙ q))
  next_is ty us ws i (Some vs) more q = (vs, refl, q)

  abbrev FoundIn : Option PlainType → (PlainType → Type 0) → Type 0
  FoundIn ty P = (to : PlainType) × (ty ≡ Some to) × P to

  part_found : (ty : PlainType) (i : ℕ) (p : PlainType) → part_of structs (Some ty) i ≡ Some p → IsPart structs ty i p
  part_found ty i p e = part_is structs ty i p e

  braces_give : (ty part : PlainType) (l : Spot) (first : t.Initialiser) (more : t.Initialisers) (c : Option Spot) (r : Spot) (us vs : List A)
      → IsAggregate ty → IsPart structs ty 0 part → Given part first us → GivenFrom ty 1 more vs
      → Given ty (t.braces l first more c r) (whole ty (us ++ vs))
  braces_give ty part l first more c r us vs agg p h m =
      in_braces agg p h m (zeros_are Zero zero zero_is (drop (length (us ++ vs)) (leaves_of_type structs ty)))

  item_gives : (ty part : PlainType) (i : ℕ) (comma : Spot) (x : t.Initialiser) (more : t.Initialisers) (us vs : List A)
      → IsPart structs ty i part → Given part x us → GivenFrom ty (i + 1) more vs → GivenFrom ty i (t.initialisers comma x more) (us ++ vs)
  item_gives ty part i comma x more us vs p h m = an_item p h m

  mutual
    gives_is : (x : t.Initialiser) (ty : Option PlainType) (vs : List A) → walk x ty ≡ Some vs → FoundIn ty (λ to. Given to x vs)
    gives_is (t.initial_value a) ty vs q = by (item ty a) refl (sym (w.one ty a) ∙ q)
      where
        by : (m : Option A) → item ty a ≡ m → option_map (λ v. v ∷ []) m ≡ Some vs → FoundIn ty (λ to. Given to (t.initial_value a) vs)
        by None e f = absurd (nothing_there vs f)
        by (Some v) e f =
            let g = (item_is ty a v).0 e in
            (g.0, g.1, subst (λ (z : List A). Given g.0 (t.initial_value a) z) (inside f) (one_value g.2 g.3))
    gives_is (t.braces l first more c r) None vs q = absurd (nothing_there vs (sym (w.all None l first more c r) ∙ q))
    gives_is (t.braces l first more c r) (Some ty) vs q =
        let g = whole_is ty (walk_items (Some ty) (joined (Some []) (walk first (part_of structs (Some ty) 0))) 1 more) vs
        (sym (w.all (Some ty) l first more c r) ∙ q) in
        let h = next_is (Some ty) [] g.0 1 (walk first (part_of structs (Some ty) 0)) more g.1 in
        let p = gives_is first (part_of structs (Some ty) 0) h.0 h.1 in
        let m = from_is more ty 1 h.0 g.0 h.2 in (
          ty,
          refl,
          subst (λ (z : List A). Given ty (t.braces l first more c r) z) {x = whole ty (h.0 ++ m.0)} (whole_same ty g.0 (h.0 ++ m.0) vs m.2 g.3)
              (braces_give ty p.0 l first more c r h.0 m.0 ((aggregates ty).0 g.2) (part_found ty 0 p.0 p.1) p.2 m.1),
        )

    from_is : (more : t.Initialisers) (ty : PlainType) (i : ℕ) (us ws : List A) → walk_items (Some ty) (Some us) i more ≡ Some ws
        → (vs : List A) × GivenFrom ty i more vs × (ws ≡ us ++ vs)
    from_is t.no_initialisers ty i us ws q =
        ([], no_item, inside (sym q ∙ w.none (Some ty) (Some us) i) ∙ sym (append-nil us))
    from_is (t.initialisers s x more) ty i us ws q =
        let h = next_is (Some ty) us ws (i + 1) (walk x (part_of structs (Some ty) i)) more (sym (w.some (Some ty) (Some us) i s x more) ∙ q) in
        let p = gives_is x (part_of structs (Some ty) i) h.0 h.1 in
        let m = from_is more ty (i + 1) (us ++ h.0) ws h.2 in
        (h.0 ++ m.0, item_gives ty p.0 i s x more h.0 m.0 (part_found ty i p.0 p.1) p.2 m.1, m.2 ∙ append_assoc us h.0 m.0)

  mutual
    gives_to : (ty : PlainType) (x : t.Initialiser) (vs : List A) → Given ty x vs → walk x (Some ty) ≡ Some vs
    gives_to ty _ _ (one_value {a = a} {v = v} n h) =
        w.one (Some ty) a ∙ ap (option_map (λ v. v ∷ [])) ((item_is (Some ty) a v).1 (ty, refl, n, h))
    gives_to ty _ _ (in_braces {part = part} {l = l} {r = r} {first = first} {more = more} {comma = comma} {us = us} {vs = vs}
        {zeros = zeros} agg p h m z) =
        w.all (Some ty) l first more comma r
        ∙ ap (λ (o : Option PlainType). whole_by zero structs (Some ty) (walk_items (Some ty) (joined (Some []) (walk first o)) 1 more))
        (is_part structs ty 0 part p)
        ∙ ap (λ (o : Option (List A)). whole_by zero structs (Some ty) (walk_items (Some ty) (joined (Some []) o) 1 more))
        (gives_to part first us h)
        ∙ ap (whole_by zero structs (Some ty)) (from_to ty 1 more us vs m)
        ∙ ap (λ (b : Bool). if b then Some (whole ty (us ++ vs)) else None) ((aggregates ty).1 agg)
        ∙ ap (λ (zs : List A). Some ((us ++ vs) ++ zs))
        (zeros_to Zero zero zero_is (drop (length (us ++ vs)) (leaves_of_type structs ty)) zeros z)

    from_to : (ty : PlainType) (i : ℕ) (more : t.Initialisers) (us vs : List A) → GivenFrom ty i more vs
        → walk_items (Some ty) (Some us) i more ≡ Some (us ++ vs)
    from_to ty i _ us _ no_item = w.none (Some ty) (Some us) i ∙ ap Some (sym (append-nil us))
    from_to ty i _ us _ (an_item {part = part} {comma = comma} {x = x} {more = more} {us = vs} {vs = ws} p h m) =
        w.some (Some ty) (Some us) i comma x more
        ∙ ap (λ (o : Option PlainType). walk_items (Some ty) (joined (Some us) (walk x o)) (i + 1) more) (is_part structs ty i part p)
        ∙ ap (λ (o : Option (List A)). walk_items (Some ty) (joined (Some us) o) (i + 1) more) (gives_to part x vs h)
        ∙ from_to ty (i + 1) more (us ++ vs) ws m
        ∙ ap Some (append_assoc us vs ws)

  pub given_both : (ty : PlainType) (x : t.Initialiser) (vs : List A) → Given ty x vs ↔ walk x (Some ty) ≡ Some vs
  given_both ty x vs = (gives_to ty x vs, back)
    where
      back : walk x (Some ty) ≡ Some vs → Given ty x vs
      back q = let g = gives_is x (Some ty) vs q in subst (λ (z : PlainType). Given z x vs) (sym (inside g.1)) g.2
