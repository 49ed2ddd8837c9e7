-- Two types that are told to be the same are equal, and a change in a list is std's.
use Rattle.std.proofs.Common.{◌≡◌, ℕ, zero, suc, Bool, true, false, ◌&&◌, List, [], ◌∷◌, Option, Some, None, refl, sym, ap, ◌∙◌, eqb-true}
use Rattle.std.proofs.Common.{eq-eqb}
use Rattle.std.specs.Prelude.{◌==◌, find, slice_get, slice_set}
use Rattle.ec_fx.specs.declared.formats.Format.{Format}
use Rattle.ec_fx.specs.declared.formats.FxKind.{FxKind}
use Rattle.ec_fx.specs.declared.formats.FxKind.TheVariants.{ShortFract, Fract, LongFract, ShortAccum, Accum, LongAccum, UnsignedShortFract}
use Rattle.ec_fx.specs.declared.formats.FxKind.TheVariants.{UnsignedFract, UnsignedLongFract, UnsignedShortAccum, UnsignedAccum}
use Rattle.ec_fx.specs.declared.formats.FxKind.TheVariants.{UnsignedLongAccum}
use Rattle.ec_fx.specs.Formats.{format_of}
use Rattle.ec_space.specs.declared.space.SpaceId.{SpaceId}
use Rattle.ec_space.specs.declared.space.SpaceId.TheVariants.{Flash, FarFlash, Data, Generic}
use Rattle.ec_core.specs.Laws.{TypesAreTold}
use Rattle.ec_core.specs.Operators.{same_bool, same_space, same_kind, same_type}
use Rattle.ec_core.specs.Plain.{PlainType, void, integer, fixed, pointer, array, struct}
use Rattle.ec_core.specs.State.{changed_at}

pub and_true : (a b : Bool) → (a && b) ≡ true → (a ≡ true) × (b ≡ true)
and_true true b e = (refl, e)
and_true false b e = cc

pub true_and : (a b : Bool) → a ≡ true → b ≡ true → (a && b) ≡ true
true_and true b e f = f
true_and false b e f = cc

-- ---- told to be the same, and so equal

pub bool_true : (a b : Bool) → same_bool a b ≡ true → a ≡ b
bool_true true b e = sym e
bool_true false true e = cc
bool_true false false e = refl

space_true : (s t : SpaceId) → same_space s t ≡ true → s ≡ t
space_true Flash Flash e = refl
space_true Flash FarFlash e = cc
space_true Flash Data e = cc
space_true Flash Generic e = cc
space_true FarFlash Flash e = cc
space_true FarFlash FarFlash e = refl
space_true FarFlash Data e = cc
space_true FarFlash Generic e = cc
space_true Data Flash e = cc
space_true Data FarFlash e = cc
space_true Data Data e = refl
space_true Data Generic e = cc
space_true Generic Flash e = cc
space_true Generic FarFlash e = cc
space_true Generic Data e = cc
space_true Generic Generic e = refl

-- a kind is found by its format
kinds : List FxKind
kinds = ShortFract ∷ Fract ∷ LongFract ∷ ShortAccum ∷ Accum ∷ LongAccum ∷ UnsignedShortFract ∷ UnsignedFract ∷ UnsignedLongFract
    ∷ UnsignedShortAccum ∷ UnsignedAccum ∷ UnsignedLongAccum ∷ []

abbrev same_format : Format → Format → Bool
same_format f g = same_bool f.signed g.signed && f.bits == g.bits && f.frac == g.frac

abbrev kind_with : Format → Option FxKind
kind_with f = find (λ k. same_format (format_of k) f) kinds

kind_found : (k : FxKind) → kind_with (format_of k) ≡ Some k
unfolding kinds
kind_found ShortFract = refl
kind_found Fract = refl
kind_found LongFract = refl
kind_found ShortAccum = refl
kind_found Accum = refl
kind_found LongAccum = refl
kind_found UnsignedShortFract = refl
kind_found UnsignedFract = refl
kind_found UnsignedLongFract = refl
kind_found UnsignedShortAccum = refl
kind_found UnsignedAccum = refl
kind_found UnsignedLongAccum = refl

abbrev formed : Bool → ℕ → ℕ → Format
formed s m n = record { signed = s; bits = m; frac = n }

formed_same : (s t : Bool) (m n i j : ℕ) → s ≡ t → m ≡ n → i ≡ j → formed s m i ≡ formed t n j
formed_same s t m n i j e f g = ap (λ x. formed x m i) e ∙ ap (λ x. formed t x i) f ∙ ap (formed t n) g

kind_true : (a b : FxKind) → same_kind a b ≡ true → a ≡ b
kind_true a b e =
    let p = and_true (same_bool (format_of a).signed (format_of b).signed && (format_of a).bits == (format_of b).bits) _ e in
    let q = and_true (same_bool (format_of a).signed (format_of b).signed) _ p.0 in
    let s : (format_of a).signed ≡ (format_of b).signed = bool_true _ _ q.0 in
    let m : (format_of a).bits ≡ (format_of b).bits = eqb-true _ _ q.1 in
    let n : (format_of a).frac ≡ (format_of b).frac = eqb-true _ _ p.1 in
    let f : format_of a ≡ format_of b = formed_same (format_of a).signed (format_of b).signed (format_of a).bits (format_of b).bits
    (format_of a).frac (format_of b).frac s m n in
    let g : Some a ≡ Some b = sym (kind_found a) ∙ ap kind_with f ∙ kind_found b in
    cc

pub type_true : (a b : PlainType) → same_type a b ≡ true → a ≡ b
type_true void void e = refl
type_true void (integer t n) e = cc
type_true void (fixed b t) e = cc
type_true void (pointer t d b) e = cc
type_true void (array b n) e = cc
type_true void (struct n) e = cc
type_true (integer s m) void e = cc
type_true (integer s m) (integer t n) e =
    let p = and_true (same_bool s t) _ e in
    let f : s ≡ t = bool_true s t p.0 in
    let g : m ≡ n = eqb-true m n p.1 in
    cc
type_true (integer s m) (fixed b t) e = cc
type_true (integer s m) (pointer t d b) e = cc
type_true (integer s m) (array b n) e = cc
type_true (integer s m) (struct n) e = cc
type_true (fixed a s) void e = cc
type_true (fixed a s) (integer t n) e = cc
type_true (fixed a s) (fixed b t) e =
    let p = and_true (same_kind a b) _ e in
    let f : a ≡ b = kind_true a b p.0 in
    let g : s ≡ t = bool_true s t p.1 in
    cc
type_true (fixed a s) (pointer t d b) e = cc
type_true (fixed a s) (array b n) e = cc
type_true (fixed a s) (struct n) e = cc
type_true (pointer s c a) void e = cc
type_true (pointer s c a) (integer t n) e = cc
type_true (pointer s c a) (fixed b t) e = cc
type_true (pointer s c a) (pointer t d b) e =
    let p = and_true (same_space s t && same_bool c d) _ e in
    let q = and_true (same_space s t) _ p.0 in
    let f : s ≡ t = space_true s t q.0 in
    let g : c ≡ d = bool_true c d q.1 in
    let h : a ≡ b = type_true a b p.1 in
    cc
type_true (pointer s c a) (array b n) e = cc
type_true (pointer s c a) (struct n) e = cc
type_true (array a m) void e = cc
type_true (array a m) (integer t n) e = cc
type_true (array a m) (fixed b t) e = cc
type_true (array a m) (pointer t d b) e = cc
type_true (array a m) (array b n) e =
    let p = and_true (same_type a b) _ e in
    let f : a ≡ b = type_true a b p.0 in
    let g : m ≡ n = eqb-true m n p.1 in
    cc
type_true (array a m) (struct n) e = cc
type_true (struct m) void e = cc
type_true (struct m) (integer t n) e = cc
type_true (struct m) (fixed b t) e = cc
type_true (struct m) (pointer t d b) e = cc
type_true (struct m) (array b n) e = cc
type_true (struct m) (struct n) e = ap struct (eqb-true m n e)

-- ---- equal, and so told to be the same

bool_itself : (a : Bool) → same_bool a a ≡ true
bool_itself true = refl
bool_itself false = refl

space_itself : (s : SpaceId) → same_space s s ≡ true
space_itself Flash = refl
space_itself FarFlash = refl
space_itself Data = refl
space_itself Generic = refl

kind_itself : (k : FxKind) → same_kind k k ≡ true
kind_itself ShortFract = refl
kind_itself Fract = refl
kind_itself LongFract = refl
kind_itself ShortAccum = refl
kind_itself Accum = refl
kind_itself LongAccum = refl
kind_itself UnsignedShortFract = refl
kind_itself UnsignedFract = refl
kind_itself UnsignedLongFract = refl
kind_itself UnsignedShortAccum = refl
kind_itself UnsignedAccum = refl
kind_itself UnsignedLongAccum = refl

pub type_itself : (a : PlainType) → same_type a a ≡ true
type_itself void = refl
type_itself (integer s m) = true_and _ _ (bool_itself s) (eq-eqb m m refl)
type_itself (fixed k s) = true_and _ _ (kind_itself k) (bool_itself s)
type_itself (pointer s c a) = true_and _ _ (true_and _ _ (space_itself s) (bool_itself c)) (type_itself a)
type_itself (array a m) = true_and _ _ (type_itself a) (eq-eqb m m refl)
type_itself (struct m) = eq-eqb m m refl

pub types_are_told : TypesAreTold
types_are_told = record { same = type_true; itself = type_itself }

-- ---- changes

-- a change of the item that stands at a place
pub changed_at-set : {A : Type 0} (n : ℕ) (f : A → A) (xs : List A) (x : A) → slice_get xs n ≡ Some x
    → changed_at n f xs ≡ slice_set xs n (f x)
changed_at-set n f [] x e = refl
changed_at-set zero f (y ∷ xs) x e = let g : y ≡ x = cc in ap (λ z. f z ∷ xs) g
changed_at-set (suc n) f (y ∷ xs) x e = ap (λ l. y ∷ l) (changed_at-set n f xs x e)

-- a change where no item stands
pub changed_at-past : {A : Type 0} (n : ℕ) (f : A → A) (xs : List A) → slice_get xs n ≡ None → changed_at n f xs ≡ xs
changed_at-past n f [] e = refl
changed_at-past zero f (y ∷ xs) e = cc
changed_at-past (suc n) f (y ∷ xs) e = ap (λ l. y ∷ l) (changed_at-past n f xs e)
