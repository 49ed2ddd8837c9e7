-- Names that were declared or defined, where one more is: linkages, registers and conflicts.
use Rattle.std.proofs.Common.{◌≡◌, ◌∙◌, ◌<◌, ◌≤◌, ◌+◌, ◌++◌, ◌==◌, ℕ, zero, suc, Bool, true, false, not, ◌&&◌, ◌||◌, List, [], ◌∷◌, length}
use Rattle.std.proofs.Common.{get_or, refl, sym, ap, subst, inl, inr, arith}
use Rattle.std.specs.Prelude.{◌⊎◌, if◌then◌else◌, Option, Some, None, AllPairs}
use Rattle.std.specs.List.{AllByRecursion}
use Rattle.std.specs.Str.{bytes_eq}
use Rattle.std.proofs.lemmas.Bool.{both_ways, and_parts, and_cases, and_from, or_parts, or_left, false≢true}
use Rattle.std.proofs.lemmas.Bool.Decides.{nat_tests}
use Rattle.std.proofs.lemmas.List.Quantifiers.{all_pairs_push}
use Rattle.std.proofs.lemmas.Slice.Eq.{bytes_eq-Decides}
use Rattle.ec_check_names.specs.declared.linkage.Linkage.{Linkage}
use Rattle.ec_check_names.specs.declared.linkage.Linkage.TheVariants.{Internal, External}
use Rattle.ec_check_names.specs.declared.specifiers.StorageWord.{StorageWord}
use Rattle.ec_check_names.specs.declared.specifiers.StorageWord.TheVariants.{Extern, Static}
use Rattle.ec_check_names.specs.Definitions as numbering
use Rattle.ec_check_names.specs.Definitions.{Definition, same_linkage}
use Rattle.ec_check_names.specs.Linkage.{linkage_of}
use Rattle.ec_check_file_scope.specs.FileNames.{FileName, is_register, other_kind, both_define, meet, is_external, conflict, conflicts}
use Rattle.ec_check_file_scope.specs.FileNames.{link_from, earlier_link, is_registered}
use Rattle.ec_check_statements.proofs.Choices.{if_both}

-- ---- names

pub same_name : (a b : List ℕ) → bytes_eq a b ≡ true → a ≡ b
same_name a b e = (bytes_eq-Decides a b).0 e

pub itself : (n : List ℕ) → bytes_eq n n ≡ true
itself n = (bytes_eq-Decides n n).1 refl

turned_true : (a b : List ℕ) → bytes_eq a b ≡ true → bytes_eq b a ≡ true
turned_true a b e = (bytes_eq-Decides b a).1 (sym (same_name a b e))

pub turned : (a b : List ℕ) → bytes_eq a b ≡ bytes_eq b a
turned a b = by (bytes_eq a b) (bytes_eq b a) refl refl
  where
    by : (p q : Bool) → bytes_eq a b ≡ p → bytes_eq b a ≡ q → p ≡ q
    by true true e f = refl
    by true false e f = absurd (both_ways (bytes_eq b a) f (turned_true a b e))
    by false true e f = absurd (both_ways (bytes_eq a b) e (turned_true b a f))
    by false false e f = refl

pub same_number : (n : ℕ) → (n == n) ≡ true
same_number n = grind (arith, nat_tests)

-- ---- earlier linkages

link_push : (found : Option Linkage) (n : List ℕ) (unit : ℕ) (ds : List FileName) (d : FileName)
    → link_from found n unit (ds ++ d ∷ []) ≡ (if bytes_eq d.name n && d.unit == unit then Some d.linkage else link_from found n unit ds)
link_push found n unit [] d = refl
link_push found n unit (e ∷ es) d = link_push (if bytes_eq e.name n && e.unit == unit then Some e.linkage else found) n unit es d

-- a name of the unit, by the test of the name alone
here : (b : Bool) (unit : ℕ) → (b && unit == unit) ≡ b
here true unit = same_number unit
here false unit = refl

-- the last linkage of a name, where one more is declared in the unit
pub linkage_behind : (n : List ℕ) (unit : ℕ) (ds : List FileName) (d : FileName) → d.unit ≡ unit
    → earlier_link n unit (ds ++ d ∷ []) ≡ (if bytes_eq n d.name then Some d.linkage else earlier_link n unit ds)
linkage_behind n unit ds d e =
    link_push None n unit ds d
    ∙ ap (λ (u : ℕ). if bytes_eq d.name n && u == unit then Some d.linkage else earlier_link n unit ds) e
    ∙ ap (λ (b : Bool). if b then Some d.linkage else earlier_link n unit ds) (here (bytes_eq d.name n) unit ∙ turned d.name n)

-- in the next unit no name has one
unit_below : (n m : ℕ) → n ≤ m → (n == m + 1) ≡ false
unit_below n m h = grind (arith, nat_tests, h)

none_here : (b : Bool) (x : Bool) → x ≡ false → (b && x) ≡ false
none_here true x e = e
none_here false x e = refl

pub no_link : (n : List ℕ) (unit : ℕ) (ds : List FileName) → AllByRecursion (λ d. d.unit ≤ unit) ds → earlier_link n (unit + 1) ds ≡ None
no_link n unit [] h = refl
no_link n unit (d ∷ ds) h =
    ap (λ (b : Bool). link_from (if b then Some d.linkage else None) n (unit + 1) ds)
    (none_here (bytes_eq d.name n) (d.unit == unit + 1) (unit_below d.unit unit h.0))
    ∙ no_link n unit ds h.1

-- ---- registers

or_nothing : (b : Bool) → (b || false) ≡ b
or_nothing true = refl
or_nothing false = refl

or_grouped : (p q r : Bool) → (p || (q || r)) ≡ (p || q || r)
or_grouped true q r = refl
or_grouped false q r = refl

pub registered_behind : (n : List ℕ) (ds : List FileName) (d : FileName)
    → is_registered n (ds ++ d ∷ []) ≡ (is_registered n ds || is_register d.kind && bytes_eq d.name n)
registered_behind n [] d = or_nothing (is_register d.kind && bytes_eq d.name n)
registered_behind n (e ∷ es) d =
    ap (λ (b : Bool). is_register e.kind && bytes_eq e.name n || b) (registered_behind n es d)
    ∙ or_grouped (is_register e.kind && bytes_eq e.name n) (is_registered n es) (is_register d.kind && bytes_eq d.name n)

pub numbered_behind : (n : List ℕ) (ds : List Definition) (d : Definition)
    → numbering.is_registered n (ds ++ d ∷ []) ≡ (numbering.is_registered n ds || numbering.is_register d.kind && bytes_eq d.name n)
numbered_behind n [] d = or_nothing (numbering.is_register d.kind && bytes_eq d.name n)
numbered_behind n (e ∷ es) d =
    ap (λ (b : Bool). numbering.is_register e.kind && bytes_eq e.name n || b) (numbered_behind n es d)
    ∙ or_grouped (numbering.is_register e.kind && bytes_eq e.name n) (numbering.is_registered n es)
    (numbering.is_register d.kind && bytes_eq d.name n)

-- what is no register adds none
pub as_registered : (n : List ℕ) (ds : List FileName) (d : FileName) → is_register d.kind ≡ false
    → is_registered n (ds ++ d ∷ []) ≡ is_registered n ds
as_registered n ds d e =
    registered_behind n ds d
    ∙ ap (λ (b : Bool). is_registered n ds || b && bytes_eq d.name n) e
    ∙ or_nothing (is_registered n ds)

pub as_numbered : (n : List ℕ) (ds : List Definition) (d : Definition) → numbering.is_register d.kind ≡ false
    → numbering.is_registered n (ds ++ d ∷ []) ≡ numbering.is_registered n ds
as_numbered n ds d e =
    numbered_behind n ds d
    ∙ ap (λ (b : Bool). numbering.is_registered n ds || b && bytes_eq d.name n) e
    ∙ or_nothing (numbering.is_registered n ds)

-- a name that is a register's already
or_again : (b t : Bool) → (t ≡ true → b ≡ true) → (b || t) ≡ b
or_again true t h = refl
or_again false true h = sym (h refl)
or_again false false h = refl

pub registered_again : (n m : List ℕ) (ds : List FileName) → is_registered m ds ≡ true
    → (is_registered n ds || bytes_eq m n) ≡ is_registered n ds
registered_again n m ds h =
    or_again (is_registered n ds) (bytes_eq m n) (λ e. subst (λ (k : List ℕ). is_registered k ds ≡ true) (same_name m n e) h)

-- ---- conflicts

conflict_at : (d : FileName) (es : List FileName) → conflicts d es ≡ false → (k : ℕ) (x : FileName) → k < length es
    → conflict d (get_or es k x) ≡ false
conflict_at d [] h k x below = absurd (omega arith)
conflict_at d (e ∷ es) h zero x below = (or_parts (conflict d e) (conflicts d es) h).0
conflict_at d (e ∷ es) h (suc k) x below = conflict_at d es (or_parts (conflict d e) (conflicts d es) h).1 k x (omega arith)

pub clear_behind : (d : FileName) (es : List FileName) → AllPairs (λ e d. conflict d e ≡ false) es → conflicts d es ≡ false
    → AllPairs (λ e d. conflict d e ≡ false) (es ++ d ∷ [])
clear_behind d es h c = all_pairs_push (λ e d. conflict d e ≡ false) es d h (λ k x below. conflict_at d es c k x below)

-- ---- a register's linkage is that of a name that was not declared

abbrev IsFree : Option Linkage → Type 0
IsFree o = (o ≡ None) ⊎ (o ≡ Some External)

external_from : (l : Linkage) → not (same_linkage External l) ≡ false → Some l ≡ Some External
external_from Internal e = cc
external_from External e = refl

met : (d e : FileName) → bytes_eq e.name d.name ≡ true → (e.unit == d.unit) ≡ true → (meet d e ≡ true) × ((d.unit == e.unit) ≡ true)
met d e n u =
    let same : (d.unit == e.unit) ≡ true = grind (arith, nat_tests, u) in (
      and_from (bytes_eq d.name e.name) (d.unit == e.unit || is_external d.linkage && is_external e.linkage) (turned d.name e.name ∙ n)
          (or_left (d.unit == e.unit) (is_external d.linkage && is_external e.linkage) same),
      same,
    )

same_link : (b : Bool) (l : Linkage) → b ≡ true → (b && not (same_linkage External l)) ≡ false → Some l ≡ Some External
same_link true l e h = external_from l h
same_link false l e h = absurd (false≢true e)

free_by : (d e : FileName) → d.linkage ≡ External → conflict d e ≡ false → (bytes_eq e.name d.name && e.unit == d.unit) ≡ true
    → Some e.linkage ≡ Some External
free_by d e l h q =
    let n = and_parts (bytes_eq e.name d.name) (e.unit == d.unit) q in
    let m = met d e n.0 n.1 in
    let rest = other_kind d.kind e.kind || d.unit == e.unit && not (same_linkage d.linkage e.linkage) || both_define d e in
    by (and_cases (meet d e) rest h) m
  where
    by : (meet d e ≡ false)
        ⊎ ((other_kind d.kind e.kind || d.unit == e.unit && not (same_linkage d.linkage e.linkage) || both_define d e) ≡ false)
        → (meet d e ≡ true) × ((d.unit == e.unit) ≡ true) → Some e.linkage ≡ Some External
    by (inl k) m = absurd (both_ways (meet d e) k m.0)
    by (inr k) m =
        let p = or_parts (other_kind d.kind e.kind || d.unit == e.unit && not (same_linkage d.linkage e.linkage)) (both_define d e) k in
        let q = or_parts (other_kind d.kind e.kind) (d.unit == e.unit && not (same_linkage d.linkage e.linkage)) p.0 in
        same_link (d.unit == e.unit) e.linkage m.1
        (subst (λ (x : Linkage). (d.unit == e.unit && not (same_linkage x e.linkage)) ≡ false) l q.1)

free_link : (d : FileName) → d.linkage ≡ External → (found : Option Linkage) → IsFree found → (es : List FileName) → conflicts d es ≡ false
    → IsFree (link_from found d.name d.unit es)
free_link d l found f [] c = f
free_link d l found f (e ∷ es) c =
    let p = or_parts (conflict d e) (conflicts d es) c in
    free_link d l (if bytes_eq e.name d.name && e.unit == d.unit then Some e.linkage else found)
    (if_both IsFree (bytes_eq e.name d.name && e.unit == d.unit) (Some e.linkage) found (λ q. inr (free_by d e l p.0 q)) (λ q. f)) es p.1

as_external : (storage : Option StorageWord) (callable : Bool)
    → linkage_of storage callable None ≡ linkage_of storage callable (Some External)
as_external (Some Static) callable = refl
as_external (Some Extern) callable = refl
as_external None true = refl
as_external None false = refl

as_free : (storage : Option StorageWord) (callable : Bool) (o : Option Linkage) → IsFree o
    → linkage_of storage callable o ≡ linkage_of storage callable (Some External)
as_free storage callable o (inl e) = ap (linkage_of storage callable) e ∙ as_external storage callable
as_free storage callable o (inr e) = ap (linkage_of storage callable) e

-- the next declaration of a name has the linkage that it has without a register that conflicts with no declaration
pub register_link : (storage : Option StorageWord) (callable : Bool) (n : List ℕ) (ds : List FileName) (d : FileName) → d.linkage ≡ External
    → conflicts d ds ≡ false
    → linkage_of storage callable (earlier_link n d.unit ds) ≡ linkage_of storage callable (earlier_link n d.unit (ds ++ d ∷ []))
register_link storage callable n ds d l c =
    by (bytes_eq n d.name) refl ∙ sym (ap (linkage_of storage callable) (linkage_behind n d.unit ds d refl))
  where
    by : (b : Bool) → bytes_eq n d.name ≡ b
        → linkage_of storage callable (earlier_link n d.unit ds)
        ≡ linkage_of storage callable (if b then Some d.linkage else earlier_link n d.unit ds)
    by true e =
        ap (λ (k : List ℕ). linkage_of storage callable (earlier_link k d.unit ds)) (same_name n d.name e)
        ∙ as_free storage callable (earlier_link d.name d.unit ds) (free_link d l None (inl refl) ds c)
        ∙ ap (λ (x : Linkage). linkage_of storage callable (Some x)) (sym l)
    by false e = refl
