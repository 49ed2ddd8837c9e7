-- The ports, groups and dynamic groups of a valid table, as operations name them.
use Rattle.std.proofs.Common.{◌≡◌, ◌⊎◌, ℕ, ◌+◌, ◌*◌, ◌<◌, ◌≤◌, Bool, true, false, List, [], length, Option, Some, None}
use Rattle.std.proofs.Common.{refl, sym, ap, ◌∙◌, subst, inl, inr, arith, get_or}
use Rattle.std.specs.Prelude.{All, IfSome, IsTrue, IsSomeAnd, slice_get, map, option_map, unwrap_or, if◌then◌else◌}
use Rattle.std.specs.List.{AllByRecursion}
use Rattle.std.proofs.lemmas.List.{length-map}
use Rattle.std.proofs.lemmas.Bool.{cases_order}
use Rattle.std.proofs.lemmas.Option.{slice_get-map, slice_get_within, slice_get_cases, get_or_from_slice_get}
use Rattle.ec_iohw.specs.declared.table.Choice.{Choice}
use Rattle.ec_iohw.specs.declared.table.Dynamic.{Dynamic}
use Rattle.ec_iohw.specs.declared.table.IoTable.{IoTable}
use Rattle.ec_iohw.specs.declared.table.Port.{Port}
use Rattle.ec_iohw.specs.declared.table.PortGroup.{PortGroup}
use Rattle.ec_iohw.specs.Valid.{bases_of, LiesFrom, IsPort, IsDynamic, ValidIo}
use Rattle.ec_core.specs.Layout.{scalar_size}
use Rattle.ec_core.specs.PortAccesses.{pairs_of}
use Rattle.ec_core.specs.PortTable.{PlainPort, PlainGroup, PlainDynamic, PlainTable, plain_port, plain_group, plain_dynamic, plain_table}
use Rattle.ec_core.specs.PortTable.{choices_of}
use Rattle.ec_core.specs.Typing.{unsigned_int, unsigned_long}
use Rattle.ec_core.proofs.TypedValues.{some_and}
use Rattle.ec_lower_code.specs.Correct.{IsBytePair, HasBytePairs, HasByteBase, HasByteBases, GroupsHaveBytes}
use Rattle.ec_lower_code.proofs.Facts.{all_at}

all_got : {A : Type 0} (P : A → Type 0) (xs : List A) (i : ℕ) (x : A) → All P xs → slice_get xs i ≡ Some x → P x
all_got P xs i x h e = subst P (get_or_from_slice_get xs i x x e) (h i x (slice_get_within xs i x e))

item_at : {A : Type 0} (xs : List A) (i : ℕ) → i < length xs → (x : A) × (slice_get xs i ≡ Some x)
item_at {A} xs i lt = by_place ((slice_get_cases xs i).1)
  where
    by_place : ((x : A) × (i < length xs) × (slice_get xs i ≡ Some x) × (get_or xs i x ≡ x)) ⊎ ((length xs ≤ i) × (slice_get xs i ≡ None))
        → (x : A) × (slice_get xs i ≡ Some x)
    by_place (inl h) = (h.0, h.2)
    by_place (inr h) = let le = h.0 in absurd (omega (arith, lt, le))

-- ---- dynamic groups

-- the choices of a dynamic group of the table, where there is one
pub choices_are : (io : IoTable) (d : ℕ) (x : Dynamic) → slice_get io.dynamics.items d ≡ Some x
    → choices_of (plain_table io) d ≡ x.choices.items
choices_are io d x e =
    ap (λ (o : Option PlainDynamic). unwrap_or (option_map (λ y. y.choices) o) [])
    (slice_get-map plain_dynamic io.dynamics.items d ∙ ap (option_map plain_dynamic) e)

pub no_choices : (io : IoTable) (d : ℕ) → slice_get io.dynamics.items d ≡ None → choices_of (plain_table io) d ≡ []
no_choices io d e =
    ap (λ (o : Option PlainDynamic). unwrap_or (option_map (λ y. y.choices) o) [])
    (slice_get-map plain_dynamic io.dynamics.items d ∙ ap (option_map plain_dynamic) e)

-- the bases of choices tell them apart
abbrev pub HaveOwnBases : List Choice → Type 0
HaveOwnBases cs =
    (i j : ℕ) (a b : Choice) → slice_get cs i ≡ Some a → slice_get cs j ≡ Some b → a.base ≡ b.base → i ≡ j

-- the choices of a dynamic group
pub record AreChoices (cs : List Choice) : Type 0 where
  pub few : length cs ≤ 8
  pub own : HaveOwnBases cs
  pub bytes : AllByRecursion HasByteBase cs

no_choice : AreChoices []
no_choice = record { few = omega arith; own = λ i j a b e f g. cc; bytes = tt }

own_bases : (groups : ℕ) (x : Dynamic) → IsDynamic groups x → HaveOwnBases x.choices.items
own_bases groups x v i j a b e f g =
    by_order (cases_order i j)
  where
    at_i : get_or x.choices.items i a ≡ a
    at_i = get_or_from_slice_get x.choices.items i a a e

    at_j : get_or x.choices.items j a ≡ b
    at_j = get_or_from_slice_get x.choices.items j b a f

    by_order : (i ≡ j) ⊎ ((i < j) ⊎ (j < i)) → i ≡ j
    by_order (inl same) = same
    by_order (inr (inl lt)) =
        let apart = v.apart i j a lt (slice_get_within x.choices.items j b f) in
        absurd (apart.bases (ap (λ (c : Choice). c.base) at_i ∙ g ∙ sym (ap (λ (c : Choice). c.base) at_j)))
    by_order (inr (inr lt)) =
        let apart = v.apart j i a lt (slice_get_within x.choices.items i a e) in
        absurd (apart.bases (ap (λ (c : Choice). c.base) at_j ∙ sym g ∙ sym (ap (λ (c : Choice). c.base) at_i)))

pub are_choices : (io : IoTable) → ValidIo io → GroupsHaveBytes io → (d : ℕ) → AreChoices (choices_of (plain_table io) d)
are_choices io valid bytes d = by_group (slice_get io.dynamics.items d) refl
  where
    by_group : (o : Option Dynamic) → slice_get io.dynamics.items d ≡ o → AreChoices (choices_of (plain_table io) d)
    by_group None e = subst AreChoices (sym (no_choices io d e)) no_choice
    by_group (Some x) e =
        let v : IsDynamic (length io.groups.items) x = all_got (IsDynamic (length io.groups.items)) io.dynamics.items d x
        valid.each_dynamic e in
        subst AreChoices (sym (choices_are io d x e)) (record {
          few = v.most;
          own = own_bases (length io.groups.items) x v;
          bytes = all_at HasByteBases io.dynamics.items d x bytes.1 e;
        })

-- the dynamic groups of a table have at most eight choices each
abbrev pub HaveFewChoices : PlainTable → Type 0
HaveFewChoices table = (d : ℕ) → length (choices_of table d) ≤ 8

pub few_choices : (io : IoTable) → ValidIo io → GroupsHaveBytes io → HaveFewChoices (plain_table io)
few_choices io valid bytes d = (are_choices io valid bytes d).few

-- a dynamic group with a choice is one of the table's
pub group_within : (io : IoTable) (d k : ℕ) (c : Choice) → slice_get (choices_of (plain_table io) d) k ≡ Some c
    → d < length io.dynamics.items
group_within io d k c e = by_group (slice_get io.dynamics.items d) refl
  where
    by_group : (o : Option Dynamic) → slice_get io.dynamics.items d ≡ o → d < length io.dynamics.items
    by_group None f = let no : slice_get [] k ≡ Some c = subst (λ (cs : List Choice). slice_get cs k ≡ Some c) (no_choices io d f) e in cc
    by_group (Some x) f = slice_get_within io.dynamics.items d x f

-- ---- ports

-- from an address on, the bytes of all elements of a port are at 0xFF or below
abbrev pub LiesAt : PlainPort → (address : ℕ) → Type 0
LiesAt p address = address + p.width * p.count ≤ 0x100

-- wherever its dynamic group is bound, if it has one
abbrev pub LiesFromAll : PlainTable → PlainPort → (dynamic : Option ℕ) → Type 0
LiesFromAll table p None = LiesAt p p.address
LiesFromAll table p (Some d) =
    (k : ℕ) (c : Choice) → slice_get (choices_of table d) k ≡ Some c → LiesAt p (c.base + p.address)

-- a port that an operation with long values, or with others, may name
pub record IsOperated (table : PlainTable) (long : Bool) (p : PlainPort) : Type 0 where
  pub width : (p.width ≡ 1) ⊎ ((p.width ≡ 2) ⊎ (p.width ≡ 4))
  pub some : 1 ≤ p.count
  pub last : LiesFromAll table p p.dynamic
  pub address : p.address < 0x100
  pub dynamic : IfSome p.dynamic (λ d. d < length table.dynamics)
  pub four : p.width ≡ 4 → IsTrue long

-- of a port of the table, where there is one
abbrev pub AreOperated : PlainTable → Bool → Option PlainPort → Type 0
AreOperated table long port = (x : PlainPort) → port ≡ Some x → IsOperated table long x

module _ (io : IoTable) (valid : ValidIo io) (p : Port) (i : IsPort (length io.groups.items) io.dynamics.items p) where
  -- a number of bytes that is not 0
  some_bytes : 1 ≤ p.width * p.count
  some_bytes = by_width i.width
    where
      by_width : (p.width ≡ 1) ⊎ ((p.width ≡ 2) ⊎ (p.width ≡ 4)) → 1 ≤ p.width * p.count
      by_width (inl e) = let g = ap (λ (z : ℕ). z * p.count) e in let s = i.some in omega (arith, g, s)
      by_width (inr (inl e)) = let g = ap (λ (z : ℕ). z * p.count) e in let s = i.some in omega (arith, g, s)
      by_width (inr (inr e)) = let g = ap (λ (z : ℕ). z * p.count) e in let s = i.some in omega (arith, g, s)

  -- the base of each choice is one that its address counts from
  from_choice : (d k : ℕ) (x : Dynamic) (c : Choice) → slice_get io.dynamics.items d ≡ Some x → slice_get x.choices.items k ≡ Some c
      → All (LiesFrom p) (bases_of io.dynamics.items (Some d)) → LiesFrom p c.base
  from_choice d k x c e f h =
      let bases = map (λ (y : Choice). y.base) x.choices.items in
      let is : bases_of io.dynamics.items (Some d) ≡ bases = ap (λ (o : Option Dynamic). unwrap_or (option_map (λ y. map (λ c. c.base)
      y.choices.items) o) []) e in
      all_got (LiesFrom p) bases k c.base (subst (All (LiesFrom p)) is h)
      (slice_get-map (λ (y : Choice). y.base) x.choices.items k ∙ ap (option_map (λ (y : Choice). y.base)) f)

  lies_from_all : (dynamic : Option ℕ) → All (LiesFrom p) (bases_of io.dynamics.items dynamic)
      → LiesFromAll (plain_table io) (plain_port p) dynamic
  lies_from_all None h = let l = h 0 0 (omega arith) in omega (arith, l)
  lies_from_all (Some d) h = λ k c e. by_group k c e (slice_get io.dynamics.items d) refl
    where
      by_group : (k : ℕ) (c : Choice) → slice_get (choices_of (plain_table io) d) k ≡ Some c → (o : Option Dynamic)
          → slice_get io.dynamics.items d ≡ o → LiesAt (plain_port p) (c.base + p.address)
      by_group k c e None f =
          let no : slice_get [] k ≡ Some c = subst (λ (cs : List Choice). slice_get cs k ≡ Some c) (no_choices io d f) e in cc
      by_group k c e (Some x) f =
          from_choice d k x c f (subst (λ (cs : List Choice). slice_get cs k ≡ Some c) (choices_are io d x f) e) h

  -- its address alone lies there too
  own_address : (dynamic : Option ℕ) → IfSome dynamic (λ d. d < length io.dynamics.items)
      → All (LiesFrom p) (bases_of io.dynamics.items dynamic) → p.address < 0x100
  own_address None lt h = let l = h 0 0 (omega arith) in let s = some_bytes in omega (arith, l, s)
  own_address (Some d) lt h =
      let x = item_at io.dynamics.items d lt in
      let v : IsDynamic (length io.groups.items) x.0 = all_got (IsDynamic (length io.groups.items)) io.dynamics.items d x.0
      valid.each_dynamic x.1 in
      let c = item_at x.0.choices.items 0 v.some in
      let l = from_choice d 0 x.0 c.0 x.1 c.1 h in let s = some_bytes in omega (arith, l, s)

  plain_dynamics : (dynamic : Option ℕ) → IfSome dynamic (λ d. d < length io.dynamics.items)
      → IfSome dynamic (λ d. d < length (plain_table io).dynamics)
  plain_dynamics None lt = tt
  plain_dynamics (Some d) lt = let e = length-map io.dynamics.items plain_dynamic in omega (arith, lt, e)

pub port_operated : (io : IoTable) → ValidIo io → (n : ℕ) (long : Bool)
    → IsSomeAnd (slice_get io.ports.items n) (λ p. (p.width ≡ 4) → IsTrue long)
    → AreOperated (plain_table io) long (slice_get (plain_table io).ports n)
port_operated io valid n long h x e =
    let p = some_and (slice_get io.ports.items n) _ h in
    let f : Some (plain_port p.0) ≡ Some x = sym (ap (option_map plain_port) p.1) ∙ (sym (slice_get-map plain_port io.ports.items n) ∙ e) in
    let is : plain_port p.0 ≡ x = cc in
    let i : IsPort (length io.groups.items) io.dynamics.items p.0 =
    all_got (IsPort (length io.groups.items) io.dynamics.items) io.ports.items n p.0 valid.each p.1 in
    subst (IsOperated (plain_table io) long) is (record {
      width = i.width;
      some = i.some;
      last = lies_from_all io valid p.0 i p.0.dynamic i.last;
      address = own_address io valid p.0 i p.0.dynamic i.dynamic i.last;
      dynamic = plain_dynamics io valid p.0 i p.0.dynamic i.dynamic;
      four = p.2;
    })

-- ---- groups

-- the bytes of the pairs of a group of the table, where there is one
abbrev pub ArePairs : Option PlainGroup → Type 0
ArePairs group = (x : PlainGroup) → group ≡ Some x → (acquire : Bool) → AllByRecursion IsBytePair (pairs_of acquire x)

pub group_pairs : (io : IoTable) → GroupsHaveBytes io → (g : ℕ) → ArePairs (slice_get (plain_table io).groups g)
group_pairs io bytes g x e = by_group (slice_get io.groups.items g) refl (sym (slice_get-map plain_group io.groups.items g) ∙ e)
  where
    both : (q : PortGroup) → HasBytePairs q → (acquire : Bool) → AllByRecursion IsBytePair (pairs_of acquire (plain_group q))
    both q h true = h.0
    both q h false = h.1

    by_group : (q : Option PortGroup) → slice_get io.groups.items g ≡ q → option_map plain_group q ≡ Some x → (acquire : Bool)
        → AllByRecursion IsBytePair (pairs_of acquire x)
    by_group None f k acquire = cc
    by_group (Some q) f k acquire =
        let is : plain_group q ≡ x = cc in
        subst (λ (z : PlainGroup). AllByRecursion IsBytePair (pairs_of acquire z)) is
        (both q (all_at HasBytePairs io.groups.items g q bytes.0 f) acquire)

-- ---- widths

-- the values of an operation have room for the port's bytes
pub fits_in : (long : Bool) (p : PlainPort) → ((p.width ≡ 1) ⊎ ((p.width ≡ 2) ⊎ (p.width ≡ 4))) → (p.width ≡ 4 → IsTrue long)
    → p.width ≤ scalar_size (if long then unsigned_long else unsigned_int)
fits_in true p (inl e) four = omega (arith, e)
fits_in true p (inr (inl e)) four = omega (arith, e)
fits_in true p (inr (inr e)) four = omega (arith, e)
fits_in false p (inl e) four = omega (arith, e)
fits_in false p (inr (inl e)) four = omega (arith, e)
fits_in false p (inr (inr e)) four = let f : false ≡ true = four e in cc

-- an element with an index below the count is at 0xFF or below
pub element_within : (p : PlainPort) (address : ℕ) → ((p.width ≡ 1) ⊎ ((p.width ≡ 2) ⊎ (p.width ≡ 4))) → LiesAt p address
    → (k : ℕ) → k < p.count → address + k * p.width + p.width ≤ 0x100
element_within p address width h k lt = by_width width h
  where
    scaled : (w : ℕ) → p.width ≡ w → (p.width * p.count ≡ w * p.count) × (k * p.width ≡ k * w)
    scaled w e = (ap (λ (z : ℕ). z * p.count) e, ap (λ (z : ℕ). k * z) e)

    by_width : (p.width ≡ 1) ⊎ ((p.width ≡ 2) ⊎ (p.width ≡ 4)) → address + p.width * p.count ≤ 0x100
        → address + k * p.width + p.width ≤ 0x100
    by_width (inl e) h = let g = scaled 1 e in omega (arith, e, g.0, g.1, lt, h)
    by_width (inr (inl e)) h = let g = scaled 2 e in omega (arith, e, g.0, g.1, lt, h)
    by_width (inr (inr e)) h = let g = scaled 4 e in omega (arith, e, g.0, g.1, lt, h)

-- and so is the first one
pub first_within : (p : PlainPort) (address : ℕ) → ((p.width ≡ 1) ⊎ ((p.width ≡ 2) ⊎ (p.width ≡ 4))) → 1 ≤ p.count → LiesAt p address
    → address + p.width ≤ 0x100
first_within p address width some h = let g = element_within p address width h 0 (omega (arith, some)) in omega (arith, g)
