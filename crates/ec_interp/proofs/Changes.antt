-- Lists with one item changed, and objects that end one after the other.
use Rattle.std.proofs.Common.{◌≡◌, ◌<◌, ◌≤◌, ◌+◌, ℕ, zero, suc, Bool, true, false, List, [], ◌∷◌, ◌++◌, length, map, get_or, refl, ap, sym}
use Rattle.std.proofs.Common.{◌∙◌, arith, append_assoc, length-append}
use Rattle.std.specs.Prelude.{if◌then◌else◌, slice_set}
use Rattle.ec_core.specs.Accesses.{ended, belongs_to, frame_ended_in, frame_ended}
use Rattle.ec_core.specs.Plain.{PlainObject, PlainProgram}
use Rattle.ec_core.specs.State.{ObjectState, State, changed_at, with_object}
use Rattle.ec_interp.specs.Lookups.{ended_from}

-- nothing is changed past the end
pub changed_past : {A : Type 0} (f : A → A) (xs : List A) (i : ℕ) → length xs ≤ i → changed_at i f xs ≡ xs
changed_past f [] i h = refl
changed_past f (x ∷ xs) zero h = absurd (omega arith)
changed_past f (x ∷ xs) (suc i) h = ap (λ ys. x ∷ ys) (changed_past f xs i (omega arith))

-- an item y in the place of x shows as the item of x changed
pub changed_set : {A B : Type 0} (g : A → B) (f : B → B) (xs : List A) (i : ℕ) (x y : A) → i < length xs → x ≡ get_or xs i x → g y ≡ f (g x)
    → map g (slice_set xs i y) ≡ changed_at i f (map g xs)
changed_set g f [] i x y h e k = absurd (omega arith)
changed_set g f (z ∷ xs) zero x y h e k = ap (λ b. b ∷ map g xs) (k ∙ ap (λ a. f (g a)) e)
changed_set g f (z ∷ xs) (suc i) x y h e k = ap (λ bs. g z ∷ bs) (changed_set g f xs i x y (omega arith) e k)

pub changed_past_map : {A B : Type 0} (g : A → B) (f : B → B) (xs : List A) (i : ℕ) → length xs ≤ i → map g xs ≡ changed_at i f (map g xs)
changed_past_map g f [] i h = refl
changed_past_map g f (x ∷ xs) zero h = absurd (omega arith)
changed_past_map g f (x ∷ xs) (suc i) h = ap (λ ys. g x ∷ ys) (changed_past_map g f xs i (omega arith))

-- the same where nothing is shown and the item becomes a given one
pub changed_set_to : {A : Type 0} (xs : List A) (i : ℕ) (y : A) → i < length xs → slice_set xs i y ≡ changed_at i (λ was. y) xs
changed_set_to [] i y h = absurd (omega arith)
changed_set_to (x ∷ xs) zero y h = refl
changed_set_to (x ∷ xs) (suc i) y h = ap (λ ys. x ∷ ys) (changed_set_to xs i y (omega arith))

pub changed_past_to : {A : Type 0} (xs : List A) (i : ℕ) (y : A) → length xs ≤ i → xs ≡ changed_at i (λ was. y) xs
changed_past_to xs i y h = sym (changed_past (λ was. y) xs i h)

-- ---- the objects of a function

changed_here : {A : Type 0} (f : A → A) (before behind : List A) (x : A) (i : ℕ) → i ≡ length before
    → changed_at i f (before ++ x ∷ behind) ≡ before ++ f x ∷ behind
changed_here f [] behind x zero h = refl
changed_here f [] behind x (suc i) h = absurd (omega (arith, h))
changed_here f (y ∷ before) behind x zero h = absurd (omega (arith, h))
changed_here f (y ∷ before) behind x (suc i) h = ap (λ ys. y ∷ ys) (changed_here f before behind x i (omega (arith, h)))

-- a state with these objects
abbrev with_objects : State → List ObjectState → State
with_objects s xs = record { objects = xs; groups = s.groups; events = s.events; work = s.work }

one_of : {A B : Type 0} (b : Bool) (g : A → B) (x y : A) (u v : B) → u ≡ g x → v ≡ g y → (if b then u else v) ≡ g (if b then x else y)
one_of true g x y u v p q = p
one_of false g x y u v p q = q

either_way : {A : Type 0} (b : Bool) (x y z : A) → x ≡ z → y ≡ z → (if b then x else y) ≡ z
either_way true x y z p q = p
either_way false x y z p q = q

ended_past : (f : ℕ) (os : List PlainObject) (i : ℕ) (s : State) → length s.objects ≤ i → ended_from f i os s ≡ s
ended_past f [] i s h = refl
ended_past f (o ∷ os) i s h =
    let same = ap (with_objects s) (changed_past ended s.objects i h) in
    ap (λ t. ended_from f (i + 1) os t) (either_way (belongs_to f o.storage) (with_object i ended s) s s same refl)
    ∙ ended_past f os (i + 1) s (omega (arith, h))

ended_behind : (f : ℕ) (os : List PlainObject) (before behind : List ObjectState) (i : ℕ) (s : State) → i ≡ length before
    → ended_from f i os (with_objects s (before ++ behind)) ≡ with_objects s (before ++ frame_ended_in f os behind)
ended_behind f [] before behind i s h = refl
ended_behind f (o ∷ os) before [] i s h =
    ended_past f (o ∷ os) i (with_objects s (before ++ [])) (omega (arith, h, length-append before []))
ended_behind f (o ∷ os) before (x ∷ behind) i s h =
    let changed = changed_here ended before behind x i h in
    let t = with_objects s (before ++ x ∷ behind) in
    let first = one_of (belongs_to f o.storage) (λ (z : ObjectState). with_objects s (before ++ z ∷ behind)) (ended x) x
    (with_object i ended t) t (ap (with_objects s) changed) refl in
    let y = if belongs_to f o.storage then ended x else x in
    let one : i + 1 ≡ length (before ++ y ∷ []) = omega (arith, h, length-append before (y ∷ [])) in
    let rest = ended_behind f os (before ++ y ∷ []) behind (i + 1) s one in
    let split = append_assoc before (y ∷ []) behind in
    let joined = append_assoc before (y ∷ []) (frame_ended_in f os behind) in
    ap (λ u. ended_from f (i + 1) os u) first
    ∙ (ap (λ xs. ended_from f (i + 1) os (with_objects s xs)) (sym split) ∙ (rest ∙ ap (with_objects s) joined))

pub ended_from-frame : (program : PlainProgram) (f : ℕ) (s : State) → ended_from f 0 program.objects s ≡ frame_ended program f s
ended_from-frame program f s = ended_behind f program.objects [] s.objects 0 s refl
