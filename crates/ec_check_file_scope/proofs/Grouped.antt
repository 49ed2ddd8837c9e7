-- Groups of declarations tell of each name what all declarations tell, also behind one declaration more.
use Rattle.std.proofs.Common.{◌≡◌, ◌∙◌, ◌-◌, ℕ, suc, Bool, true, false, not, ◌&&◌, ◌||◌, cond, refl, ap, sym, subst, arith}
use Rattle.std.proofs.Common.{Option, Some, None, List, [], ◌∷◌, ◌++◌, length, map}
use Rattle.std.proofs.Common.{Result, Ok, Err, OnOk, OnErr}
use Rattle.std.specs.Prelude.{◌==◌, ◌≢◌, if◌then◌else◌, is_some, slice_get}
use Rattle.std.specs.Bool.{Decides}
use Rattle.std.specs.Str.{bytes_eq}
use Rattle.std.specs.Map.{lookup}
use Rattle.std.proofs.lemmas.Bool.{false≢true}
use Rattle.std.proofs.lemmas.Bool.Decides.{Decides-eqb}
use Rattle.std.proofs.lemmas.List.{map-append}
use Rattle.std.proofs.lemmas.Slice.Eq.{bytes_eq-Decides}
use Rattle.ec_core.specs.Laws.{TypesAreTold}
use Rattle.ec_space.specs.Listed.{Listed}
use Rattle.ec_check_file_scope.specs.declared.file_names.FileName as file_name
use Rattle.ec_check_names.specs.Definitions.{same_linkage}
use Rattle.ec_check_names.specs.declared.linkage.Linkage.{Linkage}
use Rattle.ec_check_file_scope.specs.FileNames.{FileKind, FileName, plain_file_name, other_kind, is_register, is_external, meet}
use Rattle.ec_check_file_scope.specs.FileNames.{both_define, conflict, conflicts, link_from, earlier_link, is_registered}
use Rattle.ec_check_file_scope.specs.Groups.{Groups, those_of, group_of, is_whole, says_all, says_all_by, ends_told, TellAll}
use Rattle.ec_check_file_scope.specs.Groups.{AreGrouped, KeepsGroups, Puts, AddsTo, TakesNote}
use Rattle.ec_check_file_scope.proofs.Conflicts.{linkages, same_kinds}

-- ---- tests

both : (a b : Bool) → (a && b) ≡ true → (a ≡ true) × (b ≡ true)
both true b h = (refl, h)
both false b h = absurd (false≢true h)

is_false : {P : Type 0} (b : Bool) → Decides b P → ¬ P → b ≡ false
is_false true d never = absurd (never (d.0 refl))
is_false false d never = refl

absorbs : (a c b : Bool) → (b ≡ true → c ≡ true) → (a || c) ≡ ((a || c) || b)
absorbs true c b h = refl
absorbs false true b h = refl
absorbs false false true h = h refl
absorbs false false false h = refl

nothing_more : (a b : Bool) → b ≡ false → a ≡ (a || b)
nothing_more true b h = refl
nothing_more false b h = sym h

defined_or_not : (p b : Bool) → (p || not b) ≡ true → b ≡ true → p ≡ true
defined_or_not true b h e = refl
defined_or_not false true h e = h
defined_or_not false false h e = absurd (false≢true e)

-- ---- one declaration more

conflicts_more : (x d : FileName) (ds : List FileName) → conflicts x (ds ++ d ∷ []) ≡ (conflicts x ds || conflict x d)
conflicts_more x d [] = at_end (conflict x d)
  where
    at_end : (b : Bool) → (b || false) ≡ (false || b)
    at_end true = refl
    at_end false = refl
conflicts_more x d (e ∷ es) = ap (λ b. conflict x e || b) (conflicts_more x d es) ∙ regroup (conflict x e) (conflicts x es) (conflict x d)
  where
    regroup : (a b c : Bool) → (a || (b || c)) ≡ ((a || b) || c)
    regroup true b c = refl
    regroup false b c = refl

linked_more : (found : Option Linkage) (n : List ℕ) (unit : ℕ) (d : FileName) (ds : List FileName)
    → link_from found n unit (ds ++ d ∷ [])
    ≡ (if bytes_eq d.name n && d.unit == unit then Some d.linkage else link_from found n unit ds)
linked_more found n unit d [] = refl
linked_more found n unit d (e ∷ es) =
    linked_more (if bytes_eq e.name n && e.unit == unit then Some e.linkage else found) n unit d es

registered_more : (n : List ℕ) (d : FileName) (ds : List FileName)
    → is_registered n (ds ++ d ∷ []) ≡ (is_registered n ds || (is_register d.kind && bytes_eq d.name n))
registered_more n d [] = at_end (is_register d.kind && bytes_eq d.name n)
  where
    at_end : (b : Bool) → (b || false) ≡ (false || b)
    at_end true = refl
    at_end false = refl
registered_more n d (e ∷ es) =
    ap (λ b. is_register e.kind && bytes_eq e.name n || b) (registered_more n d es)
    ∙ regroup (is_register e.kind && bytes_eq e.name n) (is_registered n es) (is_register d.kind && bytes_eq d.name n)
  where
    regroup : (a b c : Bool) → (a || (b || c)) ≡ ((a || b) || c)
    regroup true b c = refl
    regroup false b c = refl

-- ---- of another name

kept_link : (b : Bool) (l : Linkage) (found : Option Linkage) → b ≡ false → found ≡ (if b then Some l else found)
kept_link true l found h = absurd (false≢true (sym h))
kept_link false l found h = refl

no_end : (a b : Bool) → a ≡ false → (a && b) ≡ false
no_end true b h = absurd (false≢true (sym h))
no_end false b h = refl

no_name : (a b : Bool) → b ≡ false → (a && b) ≡ false
no_name true b h = h
no_name false b h = refl

other_name : (x d : FileName) → x.name ≢ d.name → conflict x d ≡ false
other_name x d h =
    no_end (meet x d) (other_kind x.kind d.kind || x.unit == d.unit && not (same_linkage x.linkage d.linkage) || both_define x d)
    (no_end (bytes_eq x.name d.name) (x.unit == d.unit || is_external x.linkage && is_external d.linkage)
    (is_false (bytes_eq x.name d.name) (bytes_eq-Decides x.name d.name) h))

of_others : (n : List ℕ) (d : FileName) (some ds : List FileName) → d.name ≢ n → TellAll n some ds
    → TellAll n some (ds ++ d ∷ [])
of_others n d some ds h t =
    let named : bytes_eq d.name n ≡ false = is_false (bytes_eq d.name n) (bytes_eq-Decides d.name n) h in
    record {
      conflicting = λ x e. t.conflicting x e
          ∙ (nothing_more (conflicts x ds) (conflict x d) (other_name x d (λ q. h (sym q ∙ e))) ∙ sym (conflicts_more x d ds));
      linked = λ unit. t.linked unit
          ∙ (kept_link (bytes_eq d.name n && d.unit == unit) d.linkage (earlier_link n unit ds)
          (no_end (bytes_eq d.name n) (d.unit == unit) named)
          ∙ sym (linked_more None n unit d ds));
      registered = t.registered
          ∙ (nothing_more (is_registered n ds) (is_register d.kind && bytes_eq d.name n)
          (no_name (is_register d.kind) (bytes_eq d.name n) named)
          ∙ sym (registered_more n d ds));
    }

-- ---- at the end of its group

link_again : (b : Bool) (l : Linkage) {o p : Option Linkage} → o ≡ p → (if b then Some l else o) ≡ (if b then Some l else p)
link_again b l e = ap (λ z. if b then Some l else z) e

of_one_more : (n : List ℕ) (d : FileName) (some ds : List FileName) → TellAll n some ds
    → TellAll n (some ++ d ∷ []) (ds ++ d ∷ [])
of_one_more n d some ds t =
    record {
      conflicting = λ x e. conflicts_more x d some ∙ (ap (λ b. b || conflict x d) (t.conflicting x e) ∙ sym (conflicts_more x d ds));
      linked = λ unit. linked_more None n unit d some
          ∙ (link_again (bytes_eq d.name n && d.unit == unit) d.linkage (t.linked unit) ∙ sym (linked_more None n unit d ds));
      registered = registered_more n d some
          ∙ (ap (λ b. b || (is_register d.kind && bytes_eq d.name n)) t.registered ∙ sym (registered_more n d ds));
    }

-- ---- told before

-- a declaration is another one, but that it may be a definition where the other is none
record Says (e d : FileName) : Type 0 where
  name : e.name ≡ d.name
  unit : e.unit ≡ d.unit
  linkage : e.linkage ≡ d.linkage
  kind : e.kind ≡ d.kind
  defines : d.defines ≡ true → e.defines ≡ true

says : TypesAreTold → (e d : FileName) → says_all e d ≡ true → Says e d
says told e d h =
    let whole = is_whole e.kind && is_whole d.kind in
    let kind = whole && not (other_kind e.kind d.kind) in
    let name = kind && bytes_eq e.name d.name in
    let unit = name && e.unit == d.unit in
    let a = both (unit && same_linkage e.linkage d.linkage) (e.defines || not d.defines) h in
    let b = both unit (same_linkage e.linkage d.linkage) a.0 in
    let c = both name (e.unit == d.unit) b.0 in
    let f = both kind (bytes_eq e.name d.name) c.0 in
    let g = both whole (not (other_kind e.kind d.kind)) f.0 in
    let w = both (is_whole e.kind) (is_whole d.kind) g.0 in
    record {
      name = (bytes_eq-Decides e.name d.name).0 f.1;
      unit = (Decides-eqb e.unit d.unit).0 c.1;
      linkage = (linkages e.linkage d.linkage).0 b.1;
      kind = same_kinds told e.kind d.kind w.0 w.1 g.1;
      defines = defined_or_not e.defines d.defines a.1;
    }

abbrev conflict_as : FileName → List ℕ → ℕ → Linkage → FileKind → Bool → Bool
conflict_as x n unit l k b = conflict x (record { name = n; unit = unit; linkage = l; defines = b; kind = k })

more_conflicts : (m o l x r b c : Bool) → (b ≡ true → c ≡ true)
    → (m && (o || l || x && b && r)) ≡ true → (m && (o || l || x && c && r)) ≡ true
more_conflicts false o l x r b c f h = absurd (false≢true h)
more_conflicts true true l x r b c f h = refl
more_conflicts true false true x r b c f h = refl
more_conflicts true false false false r b c f h = absurd (false≢true h)
more_conflicts true false false true r true c f h = subst (λ z. (z && r) ≡ true) (sym (f refl)) h
more_conflicts true false false true r false c f h = absurd (false≢true h)

also_conflicts : (x e d : FileName) → Says e d → conflict x d ≡ true → conflict x e ≡ true
also_conflicts x e d s h =
    more_conflicts (meet x e) (other_kind x.kind e.kind) (x.unit == e.unit && not (same_linkage x.linkage e.linkage)) x.defines
    (not (is_register x.kind && is_register e.kind && not (x.unit == e.unit))) d.defines e.defines s.defines
    (subst (λ n. conflict_as x n e.unit e.linkage e.kind d.defines ≡ true) (sym s.name)
    (subst (λ u. conflict_as x d.name u e.linkage e.kind d.defines ≡ true) (sym s.unit)
    (subst (λ (l : Linkage). conflict_as x d.name d.unit l e.kind d.defines ≡ true) (sym s.linkage)
    (subst (λ (k : FileKind). conflict_as x d.name d.unit d.linkage k d.defines ≡ true) (sym s.kind) h))))

told_link : (b : Bool) (l : Linkage) (o front : Option Linkage) → o ≡ (if b then Some l else front) → o ≡ (if b then Some l else o)
told_link true l o front h = h
told_link false l o front h = refl

of_told : (n : List ℕ) (e d : FileName) (front ds : List FileName) → Says e d → TellAll n (front ++ e ∷ []) ds
    → TellAll n (front ++ e ∷ []) (ds ++ d ∷ [])
of_told n e d front ds s t =
    let registers = is_register d.kind && bytes_eq d.name n in
    let same_registers : (is_register e.kind && bytes_eq e.name n) ≡ registers =
    subst (λ (k : FileKind). (is_register e.kind && bytes_eq e.name n) ≡ (is_register k && bytes_eq d.name n)) s.kind
    (ap (λ m. is_register e.kind && bytes_eq m n) s.name) in
    record {
      conflicting = λ x h. conflicts_more x e front
          ∙ (absorbs (conflicts x front) (conflict x e) (conflict x d) (also_conflicts x e d s)
          ∙ (ap (λ b. b || conflict x d) (sym (conflicts_more x e front) ∙ t.conflicting x h) ∙ sym (conflicts_more x d ds)));
      linked = λ unit. told_link (bytes_eq d.name n && d.unit == unit) d.linkage
          (earlier_link n unit (front ++ e ∷ [])) (earlier_link n unit front) (as_told unit)
          ∙ (link_again (bytes_eq d.name n && d.unit == unit) d.linkage (t.linked unit) ∙ sym (linked_more None n unit d ds));
      registered = registered_more n e front
          ∙ (ap (λ b. is_registered n front || b) same_registers
          ∙ (absorbs (is_registered n front) registers registers (λ h. h)
          ∙ (ap (λ b. b || registers) (ap (λ b. is_registered n front || b) (sym same_registers)
          ∙ (sym (registered_more n e front) ∙ t.registered)) ∙ sym (registered_more n d ds))));
    }
  where
    as_told : (unit : ℕ) → earlier_link n unit (front ++ e ∷ [])
        ≡ (if bytes_eq d.name n && d.unit == unit then Some d.linkage else earlier_link n unit front)
    as_told unit =
        linked_more None n unit e front
        ∙ (ap (λ m. if bytes_eq m n && e.unit == unit then Some e.linkage else earlier_link n unit front) s.name
        ∙ (ap (λ u. if bytes_eq d.name n && u == unit then Some e.linkage else earlier_link n unit front) s.unit
        ∙ ap (λ (l : Linkage). if bytes_eq d.name n && d.unit == unit then Some l else earlier_link n unit front) s.linkage))

-- ---- the last of a list

ends_with : {X : Type 0} (xs : List X) (e : X) → slice_get xs (length xs - 1) ≡ Some e → (front : List X) × (xs ≡ front ++ e ∷ [])
ends_with [] e h = absurd (clash h)
  where
    clash : None ≡ Some e → ⊥
    clash q = cc
ends_with (x ∷ []) e h =
    let first : length (x ∷ []) - 1 ≡ 0 = omega arith in
    ([], ap (λ z. z ∷ []) (only (subst (λ i. slice_get (x ∷ []) i ≡ Some e) first h)))
  where
    only : Some x ≡ Some e → x ≡ e
    only q = cc
ends_with (x ∷ y ∷ ys) e h =
    let shorter : suc (length (y ∷ ys)) - 1 ≡ suc (length (y ∷ ys) - 1) = omega arith in
    let rest = ends_with (y ∷ ys) e (subst (λ i. slice_get (x ∷ y ∷ ys) i ≡ Some e) shorter h) in
    (x ∷ rest.0, ap (λ zs. x ∷ zs) rest.1)

last_says : (o : Option FileName) (d : FileName) → says_all_by o d ≡ true → (e : FileName) × (o ≡ Some e) × (says_all e d ≡ true)
last_says None d h = absurd (false≢true h)
last_says (Some e) d h = (e, refl, h)

-- ---- all groups

by_name : (n : List ℕ) (d : FileName) (some new ds : List FileName) (b : Bool) → Decides b (d.name ≡ n) → TellAll n some ds
    → (d.name ≡ n → TellAll n new (ds ++ d ∷ [])) → TellAll n (if b then new else some) (ds ++ d ∷ [])
by_name n d some new ds true c t f = f (c.0 refl)
by_name n d some new ds false c t f = of_others n d some ds (λ q. false≢true (c.1 q)) t

-- the declaration stands at the end of the group of its name
pub note_added : (d : FileName) (es new : Groups) → AddsTo d es new → TakesNote d es new
note_added d es new added ds grouped n =
    subst (λ (some : List FileName). TellAll n some (ds ++ d ∷ [])) (sym (added n))
    (by_name n d (group_of n es) (group_of d.name es ++ d ∷ []) ds (bytes_eq d.name n) (bytes_eq-Decides d.name n) (grouped n)
    (λ q. subst (λ m. TellAll m (group_of d.name es ++ d ∷ []) (ds ++ d ∷ [])) q
    (of_one_more d.name d (group_of d.name es) ds (grouped d.name))))

same_if : {X : Type 0} (b : Bool) (x : X) → (if b then x else x) ≡ x
same_if true x = refl
same_if false x = refl

-- it is told by the group of its name
pub note_told : TypesAreTold → (d : FileName) (es : Groups) → ends_told (group_of d.name es) d ≡ true → TakesNote d es es
note_told told d es h ds grouped n =
    let last = last_says (slice_get (group_of d.name es) (length (group_of d.name es) - 1)) d h in
    let e = last.0 in
    let ends = ends_with (group_of d.name es) e last.1 in
    let s = says told e d last.2 in
    subst (λ (some : List FileName). TellAll n some (ds ++ d ∷ [])) (same_if (bytes_eq d.name n) (group_of n es))
    (by_name n d (group_of n es) (group_of n es) ds (bytes_eq d.name n) (bytes_eq-Decides d.name n) (grouped n)
    (λ q. subst (λ m. TellAll m (group_of m es) (ds ++ d ∷ [])) q
    (subst (λ (some : List FileName). TellAll d.name some (ds ++ d ∷ [])) (sym ends.1)
    (of_told d.name e d ends.0 ds s (subst (λ (some : List FileName). TellAll d.name some ds) ends.1 (grouped d.name))))))

pub kept : (ds : List FileName) (es new : Groups) → KeepsGroups es new → AreGrouped ds es → AreGrouped ds new
kept ds es new same grouped n = subst (λ (some : List FileName). TellAll n some ds) (sym (same n)) (grouped n)

-- ---- changes of the table

-- the equation of names, as the table has it
abbrev pub same_name : Listed ℕ → Listed ℕ → Bool
same_name v w = bytes_eq v.items w.items

-- what a table has at each name, where one name has another group
abbrev pub Updated : Listed ℕ → Listed file_name.FileName → Groups → Groups → Type 0
Updated name group es new =
    (q : Listed ℕ) → lookup (same_name q) new ≡ cond (same_name name q) (Some group) (lookup (same_name q) es)

those_by : (b : Bool) (group : Listed file_name.FileName) (o : Option (Listed file_name.FileName))
    → those_of (cond b (Some group) o) ≡ (if b then map plain_file_name group.items else those_of o)
those_by true group o = refl
those_by false group o = refl

pub puts_by : (name : Listed ℕ) (group : Listed file_name.FileName) (es new : Groups) → Updated name group es new
    → Puts name.items (map plain_file_name group.items) es new
puts_by name group es new updated m =
    let q : Listed ℕ = record { items = m; spare = 0 } in
    ap those_of (updated q) ∙ those_by (bytes_eq name.items m) group (lookup (same_name q) es)

pub begun : (d : FileName) (n : List ℕ) (some : List FileName) (es new : Groups) → n ≡ d.name → some ≡ d ∷ []
    → group_of d.name es ≡ [] → Puts n some es new → AddsTo d es new
begun d n some es new e f none puts =
    subst (λ (all : List FileName). Puts d.name all es new) (f ∙ ap (λ (front : List FileName). front ++ d ∷ []) (sym none))
    (subst (λ m. Puts m some es new) e puts)

pub grows : (d : FileName) (n : List ℕ) (some : List FileName) (es new : Groups) → n ≡ d.name
    → some ≡ group_of n es ++ d ∷ [] → Puts n some es new → AddsTo d es new
grows d n some es new e f puts =
    subst (λ m. Puts m (group_of m es ++ d ∷ []) es new) e (subst (λ (all : List FileName). Puts n all es new) f puts)

if_same : (b : Bool) (some none : List FileName) → (b ≡ true → some ≡ none) → (if b then some else none) ≡ none
if_same true some none h = h refl
if_same false some none h = refl

pub stays : (n : List ℕ) (some : List FileName) (es new : Groups) → some ≡ group_of n es → Puts n some es new → KeepsGroups es new
stays n some es new f puts m =
    puts m ∙ if_same (bytes_eq n m) some (group_of m es)
    (λ b. f ∙ ap (λ k. group_of k es) ((bytes_eq-Decides n m).0 b))

-- what a list is in both cases of a push
pub either : {T E : Type 0} (r : Result T E) {P Q C : Type 0} → OnOk r P → OnErr r Q → (P → C) → (Q → C) → C
either (Ok x) p q f g = f p
either (Err x) p q f g = g q

-- the group of a name behind one declaration more
pub one_more : (old new : List file_name.FileName) (d : file_name.FileName) → new ≡ old ++ d ∷ [] → {some : List FileName}
    → map plain_file_name old ≡ some → map plain_file_name new ≡ some ++ plain_file_name d ∷ []
one_more old new d e f =
    ap (map plain_file_name) e
    ∙ (map-append plain_file_name old (d ∷ []) ∙ ap (λ (front : List FileName). front ++ plain_file_name d ∷ []) f)

pub none_of : (o : Option (Listed file_name.FileName)) → is_some o ≡ false → those_of o ≡ []
none_of None h = refl
none_of (Some group) h = absurd (false≢true (sym h))

pub pushed : (old mid new : List file_name.FileName) (d : file_name.FileName) (es groups : Groups) → mid ≡ old
    → new ≡ mid ++ d ∷ [] → TakesNote (plain_file_name d) es groups → AreGrouped (map plain_file_name old) es
    → AreGrouped (map plain_file_name new) groups
pushed old mid new d es groups same e notes grouped =
    subst (λ (ds : List FileName). AreGrouped ds groups) (sym (one_more mid new d e (ap (map plain_file_name) same)))
    (notes (map plain_file_name old) grouped)

-- ---- what groups tell

pub conflicts_by : (d : FileName) (some ds : List FileName) (es : Groups) → some ≡ group_of d.name es → AreGrouped ds es
    → conflicts d some ≡ conflicts d ds
conflicts_by d some ds es e grouped = ap (conflicts d) e ∙ (grouped d.name).conflicting d refl

pub link_by : (n : List ℕ) (unit : ℕ) (some ds : List FileName) (es : Groups) → some ≡ group_of n es → AreGrouped ds es
    → earlier_link n unit some ≡ earlier_link n unit ds
link_by n unit some ds es e grouped = ap (earlier_link n unit) e ∙ (grouped n).linked unit

pub registered_by : (n : List ℕ) (some ds : List FileName) (es : Groups) → some ≡ group_of n es → AreGrouped ds es
    → is_registered n some ≡ is_registered n ds
registered_by n some ds es e grouped = ap (is_registered n) e ∙ (grouped n).registered

pub nothing_grouped : (es : Groups) → es ≡ [] → AreGrouped [] es
nothing_grouped es e n =
    subst (λ (gs : Groups). TellAll n (group_of n gs) []) (sym e)
    (record { conflicting = λ d h. refl; linked = λ unit. refl; registered = refl })
