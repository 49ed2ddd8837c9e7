-- Loads and stores of objects.
use Rattle.std.proofs.Common.{◌≡◌, ◌≢◌, ℕ, zero, suc, ◌+◌, ◌-◌, ◌/◌, ◌%◌, ◌^◌, ◌<◌, ◌≤◌, ⊎_elim, inl, inr, true, pos, List}
use Rattle.std.proofs.Common.{[]}
use Rattle.std.proofs.Common.{◌∷◌, ◌++◌, Option, Some, None, refl, sym, ap, ◌∙◌, subst, arith, append-nil, append_assoc}
use Rattle.std.specs.Prelude.{Bool, false, ◌==◌, if◌then◌else◌, drop, slice_get, slice_index, option_and_then}
use Rattle.std.specs.List.{AllByRecursion, position_from}
use Rattle.std.proofs.lemmas.Bool.{cases_eq, cases_lt, eqb-true, eq-eqb}
use Rattle.ec_space.specs.declared.space.Bank.{Bank}
use Rattle.ec_space.specs.declared.space.Bank.TheVariants.{Flash as FlashBank, Data as DataBank}
use Rattle.ec_space.specs.declared.space.SpaceId.{SpaceId}
use Rattle.ec_space.specs.Spaces.{bank_of}
use Rattle.ec_avr.specs.declared.machine.Access.{Access as MachineAccess}
use Rattle.ec_avr.specs.declared.machine.Access.TheVariants.{Read as ByteRead, Write as ByteWrite}
use Rattle.ec_asm.specs.declared.pieces.Location.{Location}
use Rattle.ec_asm.specs.declared.pieces.Location.TheVariants.{InRegisters}
use Rattle.ec_asm.specs.View.{View}
use Rattle.ec_asm.specs.Change.{Env, Kind, Own, Object}
use Rattle.ec_asm.specs.Items.{block}
use Rattle.ec_asm.specs.Pieces.{StandsFrom, Outside, value, copy_code, copy_log, is_held}
use Rattle.ec_asm.specs.PieceLaws.{AreHeld, HoldsNumbers, IsReadFirst}
use Rattle.ec_asm.proofs.Compared.{copy_holds}
use Rattle.ec_asm.proofs.Numbers.{value_below, value_digit, value_mod}
use Rattle.ec_core.specs.declared.programs.LeafInit.{LeafInit}
use Rattle.ec_core.specs.declared.values.Value.{Value}
use Rattle.ec_core.specs.declared.values.Value.TheVariants.{Number, Pointer}
use Rattle.ec_core.specs.Accesses.{leaf_of, recorded, with_leaf}
use Rattle.ec_core.specs.Laws.{left_of}
use Rattle.ec_core.specs.Layout.{PlainLeaf, scalar_size, size_of_type, leaves_of_type}
use Rattle.ec_core.specs.Plain.{PlainStorage, static, local, param, register, PlainObject, PlainProgram}
use Rattle.ec_core.specs.State.{Inputs, Event, In, Out, Read, Write, reads_of, told, State, ObjectState, worked}
use Rattle.ec_core.specs.State.{with_event}
use Rattle.ec_core.specs.State.{with_object, changed_at}
use Rattle.ec_core.specs.Valid.{IsObject, IsStored}
use Rattle.ec_core.proofs.Filled.{leaves_fill_their_types}
use Rattle.ec_ir.specs.declared.operations.Temp.{Temp}
use Rattle.ec_ir.specs.Meaning.{is_kept, Mach, machine}
use Rattle.ec_ir.specs.Temporaries.{Content, bits, points, content_of, with_temp, low_bytes}
use Rattle.ec_select_bytes.specs.Values.{byte_of}
use Rattle.ec_select_pointers.specs.AccessLaws.{each, Brings}
use Rattle.ec_select_operations.specs.Stores.{store_number_code}
use Rattle.ec_select_operations.specs.Homes.{HasHome}
use Rattle.ec_select_functions.specs.Covered.{HasScalarAt}
use Rattle.ec_select_places.specs.Steps.{z_pair}
use Rattle.ec_select_operations.specs.Needs.{Need, wanted, without}
use Rattle.ec_select_operations.specs.Places.{location_in, kind_in, IsClear, ObjectLeaf, CanBeLiveTogether, AreDifferent}
use Rattle.ec_select_operations.specs.Pointers.{home_of, address_number}
use Rattle.ec_select_functions.proofs.Setting.{Setting, together}
use Rattle.ec_select_functions.specs.Relation.{byte_accesses, number_told, object_accesses, event_accesses, accesses}
use Rattle.ec_select_functions.specs.Relation.{HoldsContent, HoldsLeaf, FramesStand, Matches}
use Rattle.ec_select_functions.proofs.Cells.{memory_of, same_objects, same_groups}
use Rattle.ec_select_functions.proofs.Match.{wanted_most, kept_left, held_row, same_content, same_leaf, at_width}
use Rattle.ec_select_functions.proofs.Match.{written_wide}
use Rattle.ec_select_functions.proofs.Moves.{Frame, Wide, widened, row_kept_wide, numbers_kept, work_kept, copied, z_stands}
use Rattle.ec_select_functions.proofs.Moves.{work_outside}
use Rattle.ec_select_functions.proofs.Stores.{number_log, number_is_stored, byte_below}
use Rattle.ec_select_functions.proofs.Wrapped.{low_below, low_of_number}

-- ---- events

pub accesses-more : (p : PlainProgram) (place : ℕ → ℕ) (xs : List Event) (x : Event)
    → accesses p place (xs ++ x ∷ []) ≡ accesses p place xs ++ event_accesses p place x
accesses-more p place [] x = append-nil (event_accesses p place x)
accesses-more p place (z ∷ xs) x =
    ap (λ l. event_accesses p place z ++ l) (accesses-more p place xs x)
    ∙ sym (append_assoc (event_accesses p place z) (accesses p place xs) (event_accesses p place x))

-- the leaf that begins at an offset
abbrev pub leaf_with : (p : PlainProgram) (bank : Bank) (o offset bytes : ℕ) (h : HasScalarAt p o offset bytes)
    → bank_of h.declared.home ≡ bank → ObjectLeaf p bank
leaf_with p bank o offset bytes h q = record {
  object = o;
  number = h.number;
  declared = h.declared;
  ty = h.ty;
  bytes = bytes;
  at = offset;
  is_object = h.is_object;
  is_leaf = h.is_leaf;
  size = h.size;
  home = q;
}

-- the number that is seen of a leaf
abbrev pub seen_number : (p : PlainProgram) (place : ℕ → ℕ) (bytes : ℕ) → LeafInit → ℕ
seen_number p place bytes u = low_bytes bytes (number_told p place bytes u)

-- what is seen of an access of a leaf, by its kind
abbrev pub log_of : Kind → (ℕ → ℕ → MachineAccess) → (at number n : ℕ) → List MachineAccess
log_of Object make at number n = byte_accesses make at number n
log_of kind make at number n = []

leaf_seen : (p : PlainProgram) (bank : Bank) (place : ℕ → ℕ) (l : ObjectLeaf p bank) (make : ℕ → ℕ → MachineAccess) (u : LeafInit)
    → object_accesses p place make l.object l.number u
    ≡ byte_accesses make (place l.object + l.at) (seen_number p place l.bytes u) l.bytes
leaf_seen p bank place l make u = rw (l.is_object, l.is_leaf, l.size) refl

pub home_is : (p : PlainProgram) (bank : Bank) (l : ObjectLeaf p bank) → home_of p l.object ≡ bank
home_is p bank l = rw (l.is_object) l.home

recorded_memory : (storage : PlainStorage) (x : Event) (s : State) → memory_of (recorded storage x s) ≡ memory_of s
recorded_memory (static inits) x s = refl
recorded_memory (local f) x s = refl
recorded_memory (param f) x s = refl
recorded_memory (register first) x s = refl

pub recorded_work : (storage : PlainStorage) (x : Event) (s : State) → (recorded storage x s).work ≡ s.work
recorded_work (static inits) x s = refl
recorded_work (local f) x s = refl
recorded_work (param f) x s = refl
recorded_work (register first) x s = refl

-- accesses of objects take nothing from ports
reads_after : (port : ℕ) (es : List Event) (x : Event) → reads_of port (x ∷ []) ≡ 0
    → reads_of port (es ++ x ∷ []) ≡ reads_of port es
reads_after port [] x h = h
reads_after port (In q byte ∷ es) x h = by_port (q == port) (reads_after port es x h)
  where
    by_port : (b : Bool) → reads_of port (es ++ x ∷ []) ≡ reads_of port es
        → (if b then 1 + reads_of port (es ++ x ∷ []) else reads_of port (es ++ x ∷ []))
        ≡ (if b then 1 + reads_of port es else reads_of port es)
    by_port true q = ap (λ n. 1 + n) q
    by_port false q = q
reads_after port (Out q byte ∷ es) x h = reads_after port es x h
reads_after port (Read o k space i ∷ es) x h = reads_after port es x h
reads_after port (Write o k space i ∷ es) x h = reads_after port es x h

-- so what is left of the inputs stays
pub left_after : (inputs : Inputs) (port : ℕ) (x : Event) (s : State) → reads_of port (x ∷ []) ≡ 0
    → left_of inputs port (with_event x s) ≡ left_of inputs port s
left_after inputs port x s h = ap (λ n. drop n (inputs port)) (reads_after port s.events x h)

recorded_left : (inputs : Inputs) (port : ℕ) (storage : PlainStorage) (x : Event) (s : State)
    → reads_of port (x ∷ []) ≡ 0 → left_of inputs port (recorded storage x s) ≡ left_of inputs port s
recorded_left inputs port (static inits) x s h = left_after inputs port x s h
recorded_left inputs port (local f) x s h = left_after inputs port x s h
recorded_left inputs port (param f) x s h = left_after inputs port x s h
recorded_left inputs port (register first) x s h = refl

-- what is seen of a read of a leaf
read_seen : (p : PlainProgram) (bank : Bank) (place : ℕ → ℕ) (l : ObjectLeaf p bank) (space : SpaceId) (u : LeafInit) (s : State)
    (storage : PlainStorage)
    → accesses p place (recorded storage (Read l.object l.number space u) s).events
    ≡ accesses p place s.events
    ++ log_of (kind_in storage) (ByteRead bank) (place l.object + l.at) (seen_number p place l.bytes u) l.bytes
read_seen p bank place l space u s storage = by_storage storage
  where
    noted : object_accesses p place (ByteRead (home_of p l.object)) l.object l.number u
        ≡ byte_accesses (ByteRead bank) (place l.object + l.at) (seen_number p place l.bytes u) l.bytes
    noted =
        ap (λ b. object_accesses p place (ByteRead b) l.object l.number u) (home_is p bank l)
        ∙ leaf_seen p bank place l (ByteRead bank) u

    more : accesses p place (s.events ++ Read l.object l.number space u ∷ [])
        ≡ accesses p place s.events ++ byte_accesses (ByteRead bank) (place l.object + l.at) (seen_number p place l.bytes u) l.bytes
    more = accesses-more p place s.events _ ∙ ap (λ x. accesses p place s.events ++ x) noted

    by_storage : (storage : PlainStorage) → accesses p place (recorded storage (Read l.object l.number space u) s).events
        ≡ accesses p place s.events
        ++ log_of (kind_in storage) (ByteRead bank) (place l.object + l.at) (seen_number p place l.bytes u) l.bytes
    by_storage (static inits) = more
    by_storage (local f) = more
    by_storage (param f) = more
    by_storage (register first) = sym (append-nil (accesses p place s.events))

write_seen : (p : PlainProgram) (bank : Bank) (place : ℕ → ℕ) (l : ObjectLeaf p bank) (space : SpaceId) (u : LeafInit) (s : State)
    (storage : PlainStorage)
    → accesses p place (recorded storage (Write l.object l.number space u) s).events
    ≡ accesses p place s.events
    ++ log_of (kind_in storage) ByteWrite (place l.object + l.at) (seen_number p place l.bytes u) l.bytes
write_seen p bank place l space u s storage = by_storage storage
  where
    more : accesses p place (s.events ++ Write l.object l.number space u ∷ [])
        ≡ accesses p place s.events ++ byte_accesses ByteWrite (place l.object + l.at) (seen_number p place l.bytes u) l.bytes
    more =
        accesses-more p place s.events _
        ∙ ap (λ x. accesses p place s.events ++ x) (leaf_seen p bank place l ByteWrite u)

    by_storage : (storage : PlainStorage) → accesses p place (recorded storage (Write l.object l.number space u) s).events
        ≡ accesses p place s.events
        ++ log_of (kind_in storage) ByteWrite (place l.object + l.at) (seen_number p place l.bytes u) l.bytes
    by_storage (static inits) = more
    by_storage (local f) = more
    by_storage (param f) = more
    by_storage (register first) = sym (append-nil (accesses p place s.events))

-- ---- values of leaves

-- the number of a natural number's low bytes, where it has no more
low_of_small : (n x : ℕ) → x < 256 ^ n → low_bytes n (pos x) ≡ x
low_of_small n x l = low_of_number false n x l

-- what is told of a leaf's value is the number in its bytes
pub told_is : (p : PlainProgram) (place : ℕ → ℕ) (f : ℕ → ℕ) (a n : ℕ) (u : Value) → AreHeld f a n
    → HoldsLeaf p place f a n u → seen_number p place n (told u) ≡ value f a n
told_is p place f a n (Number i) held h = sym h
told_is p place f a n (Pointer None) held h =
    let below : value f a n < 256 ^ n = value_below f a n held in
    low_of_small n 0 (subst (λ x. x < 256 ^ n) h below) ∙ sym h
told_is p place f a n (Pointer (Some q)) held h =
    let below : value f a n < 256 ^ n = value_below f a n held in
    low_of_small n (address_number p place n q.object q.offset) (subst (λ x. x < 256 ^ n) h.0 below) ∙ sym h.0

-- each byte is one of that number
pub told_digit : (p : PlainProgram) (place : ℕ → ℕ) (f : ℕ → ℕ) (a n : ℕ) (u : Value) → AreHeld f a n
    → HoldsLeaf p place f a n u → (j : ℕ) → j < n → f (a + j) ≡ seen_number p place n (told u) / 256 ^ j % 256
told_digit p place f a n u held h j l =
    sym (value_digit f a n j held l) ∙ ap (λ b. b / 256 ^ j % 256) (sym (told_is p place f a n u held h))

-- a temporary with the bytes of a leaf holds its value
pub leaf_content : (p : PlainProgram) (place : ℕ → ℕ) (f : ℕ → ℕ) (a n k : ℕ) (u : Value) → k ≤ n → AreHeld f a n
    → HoldsLeaf p place f a n u → HoldsContent p place f a k n (content_of n u)
leaf_content p place f a n k (Number i) l held h =
    (sym (value_mod f a k n l held) ∙ ap (λ b. b % 256 ^ k) h, low_below n i)
leaf_content p place f a n k (Pointer None) l held h =
    (sym (value_mod f a k n l held) ∙ ap (λ b. b % 256 ^ k) h, subst (λ x. x < 256 ^ n) h (value_below f a n held))
leaf_content p place f a n k (Pointer (Some q)) l held h =
    (sym (value_mod f a k n l held) ∙ ap (λ b. b % 256 ^ k) h.0, h.1)

-- the same bytes at another place
pub moved_leaf : (p : PlainProgram) (place : ℕ → ℕ) (f g : ℕ → ℕ) (a b n : ℕ) (u : Value)
    → ((j : ℕ) → j < n → g (b + j) ≡ f (a + j)) → HoldsLeaf p place f a n u → HoldsLeaf p place g b n u
moved_leaf p place f g a b n u same h = by_value u h
  where
    moved : (n : ℕ) → ((j : ℕ) → j < n → g (b + j) ≡ f (a + j)) → value g b n ≡ value f a n
    moved zero h = refl
    moved (suc n) h =
        let x = moved n (λ j l. h j (omega arith)) in
        let z = h n (omega arith) in
        rw (x, z) refl

    by_value : (u : Value) → HoldsLeaf p place f a n u → HoldsLeaf p place g b n u
    by_value (Number i) h = moved n same ∙ h
    by_value (Pointer None) h = moved n same ∙ h
    by_value (Pointer (Some q)) h = (moved n same ∙ h.0, h.1)

-- ---- what a copy shows

pub storage_held : (storage : PlainStorage) → is_held (kind_in storage) ≡ true
storage_held (static inits) = refl
storage_held (local f) = refl
storage_held (param f) = refl
storage_held (register first) = refl

read_object : (a b n x : ℕ) (f : ℕ → ℕ) → ((i : ℕ) → i < n → f (a + i) ≡ x / 256 ^ i % 256)
    → copy_log Object Own a b f n ≡ byte_accesses (ByteRead DataBank) a x n
read_object a b zero x f h = refl
read_object a b (suc n) x f h =
    let p = read_object a b n x f (λ i l. h i (omega arith)) in
    let q = h n (omega arith) in
    rw (p, q) refl

write_object : (a b n x : ℕ) (f : ℕ → ℕ) → ((i : ℕ) → i < n → f (a + i) ≡ x / 256 ^ i % 256)
    → copy_log Own Object a b f n ≡ byte_accesses ByteWrite b x n
write_object a b zero x f h = refl
write_object a b (suc n) x f h =
    let p = write_object a b n x f (λ i l. h i (omega arith)) in
    let q = h n (omega arith) in
    rw (p, q) refl

quiet_log : (a b : ℕ) (f : ℕ → ℕ) (n : ℕ) → copy_log Own Own a b f n ≡ []
quiet_log a b f zero = refl
quiet_log a b f (suc n) = rw (quiet_log a b f n) refl

pub read_log : (storage : PlainStorage) (a b n x : ℕ) (f : ℕ → ℕ) → ((i : ℕ) → i < n → f (a + i) ≡ x / 256 ^ i % 256)
    → copy_log (kind_in storage) Own a b f n ≡ log_of (kind_in storage) (ByteRead DataBank) a x n
read_log (static inits) a b n x f h = read_object a b n x f h
read_log (local g) a b n x f h = read_object a b n x f h
read_log (param g) a b n x f h = read_object a b n x f h
read_log (register first) a b n x f h = quiet_log a b f n

write_log : (storage : PlainStorage) (a b n x : ℕ) (f : ℕ → ℕ) → ((i : ℕ) → i < n → f (a + i) ≡ x / 256 ^ i % 256)
    → copy_log Own (kind_in storage) a b f n ≡ log_of (kind_in storage) ByteWrite b x n
write_log (static inits) a b n x f h = write_object a b n x f h
write_log (local g) a b n x f h = write_object a b n x f h
write_log (param g) a b n x f h = write_object a b n x f h
write_log (register first) a b n x f h = quiet_log a b f n

-- what is seen of accesses one after another
each_log : (make : ℕ → ℕ → MachineAccess) (a n x : ℕ) (byte : ℕ → ℕ) → ((i : ℕ) → i < n → byte i ≡ x / 256 ^ i % 256)
    → each make a byte n ≡ byte_accesses make a x n
each_log make a zero x byte h = refl
each_log make a (suc n) x byte h =
    let p = each_log make a n x byte (λ i l. h i (omega arith)) in
    let q = h n (omega arith) in
    rw (p, q) refl

number_object : (b number n x : ℕ) → ((i : ℕ) → i < n → byte_of number i ≡ x / 256 ^ i % 256)
    → number_log Object b number n ≡ byte_accesses ByteWrite b x n
number_object b number zero x h = refl
number_object b number (suc n) x h =
    let p = number_object b number n x (λ i l. h i (omega arith)) in
    let q = h n (omega arith) in
    rw (p, q) refl

quiet_number : (b number n : ℕ) → number_log Own b number n ≡ []
quiet_number b number zero = refl
quiet_number b number (suc n) = rw (quiet_number b number n) refl

number_write_log : (storage : PlainStorage) (b number n x : ℕ) → ((i : ℕ) → i < n → byte_of number i ≡ x / 256 ^ i % 256)
    → number_log (kind_in storage) b number n ≡ log_of (kind_in storage) ByteWrite b x n
number_write_log (static inits) b number n x h = number_object b number n x h
number_write_log (local g) b number n x h = number_object b number n x h
number_write_log (param g) b number n x h = number_object b number n x h
number_write_log (register first) b number n x h = quiet_number b number n

-- ---- objects that changed

changed_here : {A : Type 0} (n : ℕ) (f : A → A) (xs : List A) (x : A) → slice_get (changed_at n f xs) n ≡ Some x
    → (z : A) × (slice_get xs n ≡ Some z) × (f z ≡ x)
changed_here n f [] x h = absurd (no_item n x h)
  where
    no_item : {A : Type 0} (n : ℕ) (x : A) → slice_get [] n ≡ Some x → ⊥
    no_item zero x h = cc
    no_item (suc n) x h = cc
changed_here zero f (z ∷ xs) x h = (z, refl, (let g : Some (f z) ≡ Some x = h in cc))
changed_here (suc n) f (z ∷ xs) x h = changed_here n f xs x h

changed_other : {A : Type 0} (n k : ℕ) (f : A → A) (xs : List A) → k ≢ n
    → slice_get (changed_at n f xs) k ≡ slice_get xs k
changed_other n k f [] q = refl
changed_other zero zero f (z ∷ xs) q = absurd (q refl)
changed_other zero (suc k) f (z ∷ xs) q = refl
changed_other (suc n) zero f (z ∷ xs) q = refl
changed_other (suc n) (suc k) f (z ∷ xs) q = changed_other n k f xs (λ e. q (ap suc e))

-- the leaf that was written, and the others of its object
leaf_here : (x : ObjectState) (k : ℕ) (u w : Value) → leaf_of (with_leaf k u x) k ≡ Some w → u ≡ w
leaf_here x k u w h = by_place x.leaves k h
  where
    by_place : (leaves : List (Option Value)) (k : ℕ)
        → option_and_then (λ v. v) (slice_get (changed_at k (λ was. Some u) leaves) k) ≡ Some w → u ≡ w
    by_place [] zero h = absurd (cc)
    by_place [] (suc k) h = absurd (cc)
    by_place (z ∷ leaves) zero h = cc
    by_place (z ∷ leaves) (suc k) h = by_place leaves k h

leaf_other : (x : ObjectState) (k j : ℕ) (u : Value) → j ≢ k → leaf_of (with_leaf k u x) j ≡ leaf_of x j
leaf_other x k j u q = ap (option_and_then (λ v. v)) (changed_other k j (λ was. Some u) x.leaves q)

-- ---- leaves of valid objects

item_of : {A : Type 0} (P : A → Type 0) (xs : List A) (k : ℕ) (x : A) → AllByRecursion P xs → slice_get xs k ≡ Some x → P x
item_of P [] zero x all q = absurd (cc)
item_of P [] (suc k) x all q = absurd (cc)
item_of P (z ∷ xs) zero x all q = (let g : Some z ≡ Some x = q in let i : z ≡ x = cc in subst P i all.0)
item_of P (z ∷ xs) (suc k) x all q = item_of P xs k x all.1 q

-- accesses of an object of the flash bank are noted
kind_of_table : (p : PlainProgram) (d : PlainObject) (storage : PlainStorage) → bank_of d.home ≡ FlashBank → IsStored p d storage
    → kind_in storage ≡ Object
kind_of_table p d (static inits) q s = refl
kind_of_table p d (local f) q s = refl
kind_of_table p d (param f) q s = refl
kind_of_table p d (register first) q s = absurd (let z : FlashBank ≡ DataBank = sym q ∙ ap bank_of s.home in cc)

-- the leaf that begins at an offset, where one is found
pub record IsLeafFrom (xs : List PlainLeaf) (offset k : ℕ) : Type 0 where
  pub leaf : PlainLeaf
  pub is : slice_get xs k ≡ Some leaf
  pub begins : leaf.at ≡ offset

pub leaf_found : (xs : List PlainLeaf) (offset k : ℕ) → position_from (λ (z : PlainLeaf). z.at == offset) 0 xs ≡ Some k
    → IsLeafFrom xs offset k
leaf_found xs offset k q =
    let r = there 0 xs k q in
    record { leaf = r.1; is = subst (λ (i : ℕ). slice_get xs i ≡ Some r.1) (let c = r.2 in omega arith) r.3; begins = r.4 }
  where
    there : (i : ℕ) (xs : List PlainLeaf) (k : ℕ) → position_from (λ (z : PlainLeaf). z.at == offset) i xs ≡ Some k
        → (n : ℕ) × (leaf : PlainLeaf) × (i + n ≡ k) × (slice_get xs n ≡ Some leaf) × (leaf.at ≡ offset)
    there i [] k q = absurd (cc)
    there i (z ∷ xs) k q = by_test (z.at == offset) refl q (λ r. there (i + 1) xs k r)
      where
        by_test : (b : Bool) → (z.at == offset) ≡ b
            → (if b then Some i else position_from (λ (z : PlainLeaf). z.at == offset) (i + 1) xs) ≡ Some k
            → (position_from (λ (z : PlainLeaf). z.at == offset) (i + 1) xs ≡ Some k
            → (n : ℕ) × (leaf : PlainLeaf) × (i + 1 + n ≡ k) × (slice_get xs n ≡ Some leaf) × (leaf.at ≡ offset))
            → (n : ℕ) × (leaf : PlainLeaf) × (i + n ≡ k) × (slice_get (z ∷ xs) n ≡ Some leaf) × (leaf.at ≡ offset)
        by_test true t e go = (0, z, (let g : i ≡ k = cc in omega arith), refl, eqb-true z.at offset t)
        by_test false t e go = let r = go e in (suc r.0, r.1, (let c = r.2 in omega arith), r.3, r.4)

module _ (p : PlainProgram) (e : Env) (slots : ℕ) (home : Temp → Location) (base : Temp → ℕ) (place : ℕ → ℕ)
    (y : Setting p e slots home base place) where
  abbrev A : Need → Mach → View → Type 0
  A need m v = Matches p e y.inputs slots base place y.aside y.stands y.active y.called need m v

  -- the bytes of a bank
  abbrev pub bytes_of : Bank → View → ℕ → ℕ
  bytes_of FlashBank v k = slice_index e.flash k
  bytes_of DataBank v k = v.at k

  pub object_valid : (bank : Bank) (l : ObjectLeaf p bank) → IsObject p l.declared
  object_valid bank l = item_of (IsObject p) p.objects l.object l.declared y.valid l.is_object

  -- a leaf lies in its object
  pub leaf_inside : (bank : Bank) (l : ObjectLeaf p bank) → l.at + l.bytes ≤ size_of_type p.structs l.declared.ty
  leaf_inside bank l =
      let f = leaves_fill_their_types.types p.structs l.declared.ty y.structs (object_valid bank l).ty in
      let k = f.each l.number (record { ty = l.ty; at = l.at }) l.is_leaf in
      subst (λ (n : ℕ). l.at + n ≤ size_of_type p.structs l.declared.ty) l.size k.inside

  pub table_kind : (l : ObjectLeaf p FlashBank) → kind_in l.declared.storage ≡ Object
  table_kind l = kind_of_table p l.declared l.declared.storage l.home (object_valid FlashBank l).storage

  -- a leaf stands in its bank, in bytes
  pub leaf_stands : (bank : Bank) (l : ObjectLeaf p bank) (need : Need) (m : Mach) (v : View) (x : ObjectState) (u : Value)
      → A need m v → slice_get m.state.objects l.object ≡ Some x → leaf_of x l.number ≡ Some u
      → HoldsLeaf p place (bytes_of bank v) (place l.object + l.at) l.bytes u
  leaf_stands FlashBank l need m v x u z q w = z.tables_hold l x u q w
  leaf_stands DataBank l need m v x u z q w = z.leaves_hold l x u q w

  pub leaf_bytes : (bank : Bank) (l : ObjectLeaf p bank) (v : View) → HoldsNumbers v
      → AreHeld (bytes_of bank v) (place l.object + l.at) l.bytes
  leaf_bytes FlashBank l v h = λ j r. y.tables_stand.bytes (place l.object + l.at + j)
  leaf_bytes DataBank l v h = held_row v (place l.object + l.at) l.bytes (y.layout.leaves_at l).clear h

  -- ---- loads

  -- the state after a read of a leaf
  abbrev pub after_read : (bank : Bank) → ObjectLeaf p bank → SpaceId → Value → State → State
  after_read bank l space u s = recorded l.declared.storage (Read l.object l.number space (told u)) s

  -- a leaf has been read, and what is needed of the temporary that gets its value is there
  pub was_read : (bank : Bank) (l : ObjectLeaf p bank) (space : SpaceId) (t : Temp) (need need0 : Need) (m : Mach) (v w : View)
      (c : ℕ) (u : Value) → HasHome slots t → A need0 m v → ((u : ℕ) → u ≢ t.at → need u ≤ need0 u)
      → HoldsContent p place w.at (base t) (wanted need t) t.bytes (content_of t.bytes u)
      → Wide v w (base t) t.bytes → HoldsNumbers w → w.inputs ≡ v.inputs → w.safe ≡ v.safe
      → w.seen ≡ v.seen
      ++ log_of (kind_in l.declared.storage) (ByteRead bank) (place l.object + l.at) (seen_number p place l.bytes (told u)) l.bytes
      → A need (machine (with_temp t u m.temps) (after_read bank l space u (worked c m.state))) w
  was_read bank l space t need need0 m v w c u it z more here frame numbers inputs safe seen =
      let storage = l.declared.storage in
      let s = worked c m.state in
      let s1 = after_read bank l space u s in
      let log = log_of (kind_in storage) (ByteRead bank) (place l.object + l.at) (seen_number p place l.bytes (told u)) l.bytes in
      let is_seen : w.seen ≡ accesses p place s1.events =
      seen ∙ ap (λ b. b ++ log) z.seen ∙ sym (read_seen p bank place l space (told u) s storage) in
      written_wide p e slots home base place y t (content_of t.bytes u) need need0 m s1 v w it z more frame here numbers
      (recorded_memory storage _ s) is_seen
      (λ port. kept_left y.inputs m.state v w inputs z.left port ∙ sym (recorded_left y.inputs port storage _ s refl)) (safe ∙ z.safe)

  -- the bytes of a leaf have been brought to a temporary
  pub loaded : (bank : Bank) (l : ObjectLeaf p bank) (space : SpaceId) (t : Temp) (need need0 : Need) (m : Mach) (v w : View)
      (c : ℕ) (u : Value) → HasHome slots t → l.bytes ≡ t.bytes → A need0 m v → ((u : ℕ) → u ≢ t.at → need u ≤ need0 u)
      → HoldsLeaf p place (bytes_of bank v) (place l.object + l.at) l.bytes u
      → ((j : ℕ) → j < l.bytes → w.at (base t + j) ≡ bytes_of bank v (place l.object + l.at + j))
      → Wide v w (base t) t.bytes → HoldsNumbers w → w.inputs ≡ v.inputs → w.safe ≡ v.safe
      → w.seen ≡ v.seen
      ++ log_of (kind_in l.declared.storage) (ByteRead bank) (place l.object + l.at) (seen_number p place l.bytes (told u)) l.bytes
      → A need (machine (with_temp t u m.temps) (after_read bank l space u (worked c m.state))) w
  loaded bank l space t need need0 m v w c u it size z more holds there frame numbers inputs safe seen =
      let held : AreHeld w.at (base t) l.bytes = λ j r. numbers (base t + j) (let k = (y.layout.temps_at t it).clear in omega arith) in
      let full : HoldsLeaf p place w.at (base t) l.bytes u =
      moved_leaf p place (bytes_of bank v) w.at (place l.object + l.at) (base t) l.bytes u there holds in
      let most = wanted_most need t in
      let part : HoldsContent p place w.at (base t) (wanted need t) l.bytes (content_of l.bytes u) =
      leaf_content p place w.at (base t) l.bytes (wanted need t) u (omega (arith, size)) held full in
      let here : HoldsContent p place w.at (base t) (wanted need t) t.bytes (content_of t.bytes u) =
      subst (λ (b : ℕ). HoldsContent p place w.at (base t) (wanted need t) b (content_of b u)) size part in
      was_read bank l space t need need0 m v w c u it z more here frame numbers inputs safe seen

  -- the bytes of a leaf have been brought to R30 and R31, and nothing is needed of the temporary
  pub loaded_aside : (bank : Bank) (l : ObjectLeaf p bank) (space : SpaceId) (t : Temp) (need : Need) (m : Mach) (v w : View)
      (c : ℕ) (u : Value) → HasHome slots t → l.bytes ≡ t.bytes → A (without t.at need) m v
      → HoldsLeaf p place (bytes_of bank v) (place l.object + l.at) l.bytes u
      → ((j : ℕ) → j < l.bytes → w.at (30 + j) ≡ bytes_of bank v (place l.object + l.at + j))
      → Wide v w (base t) t.bytes → HoldsNumbers w → w.inputs ≡ v.inputs → w.safe ≡ v.safe
      → w.seen ≡ v.seen
      ++ log_of (kind_in l.declared.storage) (ByteRead bank) (place l.object + l.at) (seen_number p place l.bytes (told u)) l.bytes
      → A (without t.at need) (machine (with_temp t u m.temps) (after_read bank l space u (worked c m.state))) w
      × HoldsContent p place w.at 30 t.bytes t.bytes (content_of t.bytes u)
  loaded_aside bank l space t need m v w c u it size z holds there frame numbers inputs safe seen =
      let storage = l.declared.storage in
      let s = worked c m.state in
      let s1 = after_read bank l space u s in
      let number = seen_number p place l.bytes (told u) in
      let log = log_of (kind_in storage) (ByteRead bank) (place l.object + l.at) number l.bytes in
      let is_seen : w.seen ≡ accesses p place s1.events =
      seen ∙ ap (λ b. b ++ log) z.seen ∙ sym (read_seen p bank place l space (told u) s storage) in (
        written_wide p e slots home base place y t (content_of t.bytes u) (without t.at need) (without t.at need) m s1 v w it z
            (λ b d. omega arith) frame here numbers (recorded_memory storage _ s) is_seen
            (λ port. kept_left y.inputs m.state v w inputs z.left port ∙ sym (recorded_left y.inputs port storage _ s refl))
            (safe ∙ z.safe),
        subst (λ (n : ℕ). HoldsContent p place w.at 30 n t.bytes (content_of t.bytes u)) size (part l.bytes (omega arith)),
      )
    where
      held : AreHeld w.at 30 l.bytes
      held j r = numbers (30 + j) (omega arith)

      part : (n : ℕ) → n ≤ l.bytes → HoldsContent p place w.at 30 n t.bytes (content_of t.bytes u)
      part n few =
          subst (λ (b : ℕ). HoldsContent p place w.at 30 n b (content_of b u)) size
          (leaf_content p place w.at 30 l.bytes n u few held
          (moved_leaf p place (bytes_of bank v) w.at (place l.object + l.at) 30 l.bytes u there holds))

      -- no byte of a content stands anywhere
      moved : (content : Content) → HoldsContent p place w.at 30 0 t.bytes content → HoldsContent p place w.at (base t) 0 t.bytes content
      moved (bits low) h = h
      moved (points q) h = h

      none_left : without t.at need t.at ≡ 0
      none_left = ap (λ (x : Bool). if x then 0 else need t.at) (eq-eqb t.at t.at refl)

      gone : wanted (without t.at need) t ≡ 0
      gone = omega (arith, none_left)

      here : HoldsContent p place w.at (base t) (wanted (without t.at need) t) t.bytes (content_of t.bytes u)
      here =
          subst (λ (n : ℕ). HoldsContent p place w.at (base t) n t.bytes (content_of t.bytes u)) (sym gone)
          (moved (content_of t.bytes u) (part 0 (omega arith)))

  -- R30 and R31 are work registers
  pub work_wide : (v w : View) (n b m : ℕ) → n ≤ 2 → ((k : ℕ) → k ≢ 0 → Outside 30 n k → w.at k ≡ v.at k) → Wide v w b m
  work_wide v w n b m few same k x0 x1 low high o = same k x0 (λ q. let z = high (omega arith) in omega (arith, z, few))

  -- by a copy
  pub load_aside_matches : (l : ObjectLeaf p DataBank) (space : SpaceId) (t : Temp) (need : Need) (m : Mach) (v : View)
      (c : ℕ) (u : Value) → HasHome slots t → l.bytes ≡ t.bytes → t.bytes ≤ 2 → A (without t.at need) m v
      → HoldsLeaf p place v.at (place l.object + l.at) l.bytes u
      → let w = block e (copy_code (location_in l.declared.storage l.object l.at) z_pair t.bytes) v in
      A (without t.at need) (machine (with_temp t u m.temps) (after_read DataBank l space u (worked c m.state))) w
      × HoldsContent p place w.at 30 t.bytes t.bytes (content_of t.bytes u)
  load_aside_matches l space t need m v c u it size few z holds =
      let storage = l.declared.storage in
      let a = place l.object + l.at in
      let n = t.bytes in
      let from = location_in storage l.object l.at in
      let v1 = block e (copy_code from z_pair n) v in
      let sa : StandsFrom e from n a (kind_in storage) =
      subst (λ (b : ℕ). StandsFrom e from b a (kind_in storage)) size (y.layout.leaves_at l) in
      let off : IsClear a n = subst (λ (b : ℕ). IsClear a b) size (y.layout.leaves_work l) in
      let far : IsReadFirst a 30 n =
      λ r. ⊎_elim (λ (q : a < 26). let z = off.high.left q in omega (arith, z))
      (λ (q : 26 ≤ a). let z = off.high.right q in absurd (omega (arith, z, r)))
      (cases_lt a 26) in
      let d = copy_holds e from z_pair n a 30 (kind_in storage) Own v sa (z_stands e n) (storage_held storage) refl far in
      let held = leaf_bytes DataBank l v z.bytes in
      let log =
      read_log storage a 30 l.bytes (seen_number p place l.bytes (told u)) v.at
      (told_digit p place v.at a l.bytes u held holds) in
      let frame : Frame v v1 30 n = λ b f g h r. d.same b f r in
      let work = work_kept v v1 a 30 n sa.clear z.bytes d.there d.same in
      let numbers = numbers_kept v v1 30 n z.bytes frame (λ j r. rw (d.there j r) (held j (omega (arith, size)))) work in
      loaded_aside DataBank l space t need m v v1 c u it size z holds (λ j r. d.there j (omega (arith, size)))
      (work_wide v v1 n (base t) n few (λ k f r. d.same k f r)) numbers d.inputs d.safe
      (d.seen ∙ ap (λ b. v.seen ++ b) (ap (λ (b : ℕ). copy_log (kind_in storage) Own a 30 v.at b) (sym size) ∙ log))

  -- by a copy
  pub load_matches : (l : ObjectLeaf p DataBank) (space : SpaceId) (t : Temp) (need need0 : Need) (m : Mach) (v : View)
      (c : ℕ) (u : Value) → HasHome slots t → l.bytes ≡ t.bytes → A need0 m v → ((u : ℕ) → u ≢ t.at → need u ≤ need0 u)
      → HoldsLeaf p place v.at (place l.object + l.at) l.bytes u
      → A need (machine (with_temp t u m.temps) (after_read DataBank l space u (worked c m.state)))
      (block e (copy_code (location_in l.declared.storage l.object l.at) (home t) t.bytes) v)
  load_matches l space t need need0 m v c u it size z more holds =
      let storage = l.declared.storage in
      let a = place l.object + l.at in
      let n = t.bytes in
      let from = location_in storage l.object l.at in
      let v1 = block e (copy_code from (home t) n) v in
      let sa : StandsFrom e from n a (kind_in storage) =
      subst (λ (b : ℕ). StandsFrom e from b a (kind_in storage)) size (y.layout.leaves_at l) in
      let far : IsReadFirst a (base t) n = λ r. (let q = (y.layout.leaf_temp l t it).left r in omega (arith, q, size)) in
      let d = copy_holds e from (home t) n a (base t) (kind_in storage) Own v sa (y.layout.temps_at t it) (storage_held storage) refl far in
      let held = leaf_bytes DataBank l v z.bytes in
      let log =
      read_log storage a (base t) l.bytes (seen_number p place l.bytes (told u)) v.at
      (told_digit p place v.at a l.bytes u held holds) in
      let frame : Frame v v1 (base t) n = λ b f g h r. d.same b f r in
      let work = work_kept v v1 a (base t) n sa.clear z.bytes d.there d.same in
      let numbers = numbers_kept v v1 (base t) n z.bytes frame (λ j r. rw (d.there j r) (held j (omega (arith, size)))) work in
      loaded DataBank l space t need need0 m v v1 c u it size z more holds (λ j r. d.there j (omega (arith, size)))
      (widened v v1 (base t) n frame) numbers d.inputs d.safe
      (d.seen ∙ ap (λ b. v.seen ++ b) (ap (λ (b : ℕ). copy_log (kind_in storage) Own a (base t) v.at b) (sym size) ∙ log))

  -- by code that brings its bytes from an address
  pub wide_of : (v w : View) (b n : ℕ) (byte : ℕ → ℕ) (log : List MachineAccess) → Brings v b n byte log w → Wide v w b n
  wide_of v w b n byte log d k x0 x1 low high o =
      d.same k x0 (λ q. let z = high (omega arith) in omega arith) (λ q. let z = high (omega arith) in omega arith) o

  pub load_brings : (bank : Bank) (l : ObjectLeaf p bank) (space : SpaceId) (t : Temp) (need need0 : Need) (m : Mach) (v w : View)
      (c : ℕ) (u : Value) → HasHome slots t → l.bytes ≡ t.bytes → kind_in l.declared.storage ≡ Object → A need0 m v
      → ((u : ℕ) → u ≢ t.at → need u ≤ need0 u)
      → HoldsLeaf p place (bytes_of bank v) (place l.object + l.at) l.bytes u
      → Brings v (base t) t.bytes (λ i. bytes_of bank v (place l.object + l.at + i))
      (each (ByteRead bank) (place l.object + l.at) (λ i. bytes_of bank v (place l.object + l.at + i)) t.bytes) w
      → A need (machine (with_temp t u m.temps) (after_read bank l space u (worked c m.state))) w
  load_brings bank l space t need need0 m v w c u it size kind z more holds d =
      let a = place l.object + l.at in
      let n = t.bytes in
      let byte = λ (i : ℕ). bytes_of bank v (a + i) in
      let number = seen_number p place l.bytes (told u) in
      let held = leaf_bytes bank l v z.bytes in
      let log : each (ByteRead bank) a byte l.bytes ≡ byte_accesses (ByteRead bank) a number l.bytes =
      each_log (ByteRead bank) a l.bytes number byte (told_digit p place (bytes_of bank v) a l.bytes u held holds) in
      let logged : each (ByteRead bank) a byte n ≡ log_of (kind_in l.declared.storage) (ByteRead bank) a number l.bytes =
      ap (each (ByteRead bank) a byte) (sym size) ∙ log ∙ ap (λ k. log_of k (ByteRead bank) a number l.bytes) (sym kind) in
      loaded bank l space t need need0 m v w c u it size z more holds (λ j r. d.there j (omega (arith, size)))
      (wide_of v w (base t) n byte _ d) (d.numbers z.bytes (λ j r. held j (omega (arith, size)))) d.inputs d.safe
      (d.seen ∙ ap (λ b. v.seen ++ b) logged)

  -- by such code to R26 and R27, and from there to R30 and R31
  pub load_aside_brings : (bank : Bank) (l : ObjectLeaf p bank) (space : SpaceId) (t : Temp) (need : Need) (m : Mach) (v w : View)
      (c : ℕ) (u : Value) → HasHome slots t → l.bytes ≡ t.bytes → t.bytes ≤ 2 → kind_in l.declared.storage ≡ Object
      → A (without t.at need) m v → HoldsLeaf p place (bytes_of bank v) (place l.object + l.at) l.bytes u
      → Brings v 26 t.bytes (λ i. bytes_of bank v (place l.object + l.at + i))
      (each (ByteRead bank) (place l.object + l.at) (λ i. bytes_of bank v (place l.object + l.at + i)) t.bytes) w
      → let w1 = block e (copy_code (InRegisters 26) z_pair t.bytes) w in
      A (without t.at need) (machine (with_temp t u m.temps) (after_read bank l space u (worked c m.state))) w1
      × HoldsContent p place w1.at 30 t.bytes t.bytes (content_of t.bytes u)
  load_aside_brings bank l space t need m v w c u it size few kind z holds d =
      let a = place l.object + l.at in
      let n = t.bytes in
      let byte = λ (i : ℕ). bytes_of bank v (a + i) in
      let number = seen_number p place l.bytes (told u) in
      let held = leaf_bytes bank l v z.bytes in
      let log : each (ByteRead bank) a byte l.bytes ≡ byte_accesses (ByteRead bank) a number l.bytes =
      each_log (ByteRead bank) a l.bytes number byte (told_digit p place (bytes_of bank v) a l.bytes u held holds) in
      let logged : each (ByteRead bank) a byte n ≡ log_of (kind_in l.declared.storage) (ByteRead bank) a number l.bytes =
      ap (each (ByteRead bank) a byte) (sym size) ∙ log ∙ ap (λ k. log_of k (ByteRead bank) a number l.bytes) (sym kind) in
      let numbers = d.numbers z.bytes (λ j r. held j (omega (arith, size))) in
      let stands : StandsFrom e (InRegisters 26) n 26 Own = record { at = λ i r. refl; kind = λ i r. refl; clear = omega arith } in
      let x = copied e (InRegisters 26) z_pair n 26 30 w stands (z_stands e n) (λ r. omega (arith, few)) numbers in
      let w1 = block e (copy_code (InRegisters 26) z_pair n) w in
      let brought : (j : ℕ) → j < n → w1.at (30 + j) ≡ byte j = λ j r. x.there j r ∙ d.there j r in
      let frame : Wide v w1 (base t) n =
      λ k f g low high o.
      let off : (i : ℕ) → 26 ≤ i → i + n ≤ 32 → Outside i n k = λ i r b q. (let y = high (omega (arith, r, q)) in omega (arith, y, b)) in
      x.frame k f g (λ q. let y = high (omega (arith, q)) in omega (arith, y, q)) (off 30 (omega arith) (omega (arith, few)))
      ∙ wide_of v w 26 n byte _ d k f g low high (off 26 (omega arith) (omega (arith, few))) in
      loaded_aside bank l space t need m v w1 c u it size z holds (λ j r. brought j (omega (arith, size, r))) frame
      (numbers_kept w w1 30 n numbers x.frame (λ j r. rw (brought j r) (held j (omega (arith, size, r)))) x.work)
      (x.quiet.inputs ∙ d.inputs) (x.quiet.safe ∙ d.safe) (x.quiet.seen ∙ d.seen ∙ ap (λ b. v.seen ++ b) logged)

  -- ---- stores

  -- a leaf that stands apart from the one that was written
  other_leaf : (l k : ObjectLeaf p DataBank) (v v1 : View) → AreDifferent p l k
      → CanBeLiveTogether y.program l.declared.storage k.declared.storage
      → Wide v v1 (place l.object + l.at) l.bytes → (j : ℕ) → j < k.bytes
      → v1.at (place k.object + k.at + j) ≡ v.at (place k.object + k.at + j)
  other_leaf l k v v1 other both f j r =
      row_kept_wide v v1 (place l.object + l.at) l.bytes (place k.object + k.at) k.bytes (y.layout.leaves_at k).clear
      (y.layout.leaves_work k) (y.layout.leaves_apart l k other both) f j r

  -- two leaves with the same numbers are one
  same_place : (l k : ObjectLeaf p DataBank) → l.object ≡ k.object → l.number ≡ k.number → (l.at ≡ k.at) × (l.bytes ≡ k.bytes)
  same_place l k q r =
      let a : slice_get p.objects k.object ≡ Some l.declared = subst (λ o. slice_get p.objects o ≡ Some l.declared) q l.is_object in
      let b : Some l.declared ≡ Some k.declared = sym a ∙ k.is_object in
      let d : l.declared ≡ k.declared = cc in
      let f : slice_get (leaves_of_type p.structs k.declared.ty) l.number ≡ Some (record { ty = l.ty; at = l.at }) =
      subst
      (λ (o : PlainObject). slice_get (leaves_of_type p.structs o.ty) l.number ≡ Some (record { ty = l.ty; at = l.at })) d l.is_leaf in
      let g : slice_get (leaves_of_type p.structs k.declared.ty) k.number ≡ Some (record { ty = l.ty; at = l.at }) =
      subst (λ o. slice_get (leaves_of_type p.structs k.declared.ty) o ≡ Some (record { ty = l.ty; at = l.at })) r f in
      let first : PlainLeaf = record { ty = l.ty; at = l.at } in
      let second : PlainLeaf = record { ty = k.ty; at = k.at } in
      let h : Some first ≡ Some second = sym g ∙ k.is_leaf in
      let i : first ≡ second = cc in
      (ap (λ (x : PlainLeaf). x.at) i, sym l.size ∙ ap (λ (x : PlainLeaf). scalar_size x.ty) i ∙ k.size)

  -- objects of different banks have different numbers
  other_object : (l : ObjectLeaf p DataBank) (k : ObjectLeaf p FlashBank) → k.object ≢ l.object
  other_object l k q =
      let a : slice_get p.objects l.object ≡ Some k.declared = subst (λ o. slice_get p.objects o ≡ Some k.declared) q k.is_object in
      let b : Some k.declared ≡ Some l.declared = sym a ∙ l.is_object in
      let d : k.declared ≡ l.declared = cc in
      let h : FlashBank ≡ DataBank = sym k.home ∙ ap (λ (x : PlainObject). bank_of x.home) d ∙ l.home in
      cc

  -- the state after a write of a leaf
  abbrev pub after_write : ObjectLeaf p DataBank → SpaceId → Value → State → State
  after_write l space u s =
      recorded l.declared.storage (Write l.object l.number space (told u)) (with_object l.object (with_leaf l.number u) s)

  -- frames stand for the function of a leaf, if it is of one
  abbrev pub IsStanding : (l : ObjectLeaf p DataBank) (need : Need) (m : Mach) (v : View) → A need m v → Type 0
  IsStanding l need m v z = is_kept z.frames.functions l.declared.storage ≡ true

  -- what came of the leaves
  stored_leaves : (l : ObjectLeaf p DataBank) (u : Value) (need : Need) (m : Mach) (v v1 : View) (z : A need m v) → IsStanding l need m v z
      → Wide v v1 (place l.object + l.at) l.bytes → HoldsLeaf p place v1.at (place l.object + l.at) l.bytes u
      → (k : ObjectLeaf p DataBank) (x : ObjectState) (n : Value)
      → slice_get (changed_at l.object (with_leaf l.number u) m.state.objects) k.object ≡ Some x
      → leaf_of x k.number ≡ Some n → HoldsLeaf p place v1.at (place k.object + k.at) k.bytes n
  stored_leaves l u need m v v1 z mine frame here k x n q w =
      ⊎_elim
      (λ object.
      let q1 : slice_get (changed_at l.object (with_leaf l.number u) m.state.objects) l.object ≡ Some x =
      subst (λ o. slice_get (changed_at l.object (with_leaf l.number u) m.state.objects) o ≡ Some x) object q in
      let c = changed_here l.object (with_leaf l.number u) m.state.objects x q1 in
      let before = c.0 in
      ⊎_elim
      (λ number.
      let w1 : leaf_of (with_leaf l.number u before) l.number ≡ Some n =
      subst (λ (s : ObjectState). leaf_of s l.number ≡ Some n) (sym c.2) (subst (λ i. leaf_of x i ≡ Some n) number w) in
      let same = leaf_here before l.number u n w1 in
      let where_it_is = same_place l k (sym object) (sym number) in
      let moved : HoldsLeaf p place v1.at (place k.object + l.at) l.bytes u =
      subst (λ o. HoldsLeaf p place v1.at (place o + l.at) l.bytes u) (sym object) here in
      subst (λ (i : Value). HoldsLeaf p place v1.at (place k.object + k.at) k.bytes i) same
      (subst (λ b. HoldsLeaf p place v1.at (place k.object + k.at) b u) where_it_is.1
      (subst (λ b. HoldsLeaf p place v1.at (place k.object + b) l.bytes u) where_it_is.0 moved)))
      (λ number.
      let other = leaf_other before l.number k.number u number in
      let w1 : leaf_of before k.number ≡ Some n = sym other ∙ subst (λ (s : ObjectState). leaf_of s k.number ≡ Some n) (sym c.2) w in
      let q2 : slice_get m.state.objects k.object ≡ Some before = subst (λ o. slice_get m.state.objects o ≡ Some before) (sym object) c.1 in
      same_leaf p place v.at v1.at (place k.object + k.at) k.bytes n
      (other_leaf l k v v1 (inr (λ r. number (sym r))) (both k before n q2 w1) frame)
      (z.leaves_hold k before n q2 w1))
      (cases_eq k.number l.number))
      (λ object.
      let q1 : slice_get m.state.objects k.object ≡ Some x =
      sym (changed_other l.object k.object (with_leaf l.number u) m.state.objects object) ∙ q in
      same_leaf p place v.at v1.at (place k.object + k.at) k.bytes n
      (other_leaf l k v v1 (inl (λ r. object (sym r))) (both k x n q1 w) frame)
      (z.leaves_hold k x n q1 w))
      (cases_eq k.object l.object)
    where
      both : (k : ObjectLeaf p DataBank) (x : ObjectState) (n : Value) → slice_get m.state.objects k.object ≡ Some x
          → leaf_of x k.number ≡ Some n → CanBeLiveTogether y.program l.declared.storage k.declared.storage
      both k x n q w =
          together p e slots home base place y z.frames.functions l.declared.storage k.declared.storage z.frames.are_frames mine
          (z.frames.valued k.object k.number k.declared x n k.is_object q w)

  -- frames stand as before
  stored_frames : (l : ObjectLeaf p DataBank) (u : Value) (need : Need) (m : Mach) (v : View) (z : A need m v) → IsStanding l need m v z
      → FramesStand p y.active y.called (changed_at l.object (with_leaf l.number u) m.state.objects)
  stored_frames l u need m v z mine = record {
    functions = z.frames.functions;
    are_frames = z.frames.are_frames;
    live = λ o d x r q k. by_object o d r (λ other. z.frames.live o d x r (sym (unchanged o other) ∙ q) k);
    valued = λ o i d x n r q k. by_object o d r (λ other. z.frames.valued o i d x n r (sym (unchanged o other) ∙ q) k);
  }
    where
      unchanged : (o : ℕ) → o ≢ l.object
          → slice_get (changed_at l.object (with_leaf l.number u) m.state.objects) o ≡ slice_get m.state.objects o
      unchanged o other = changed_other l.object o (with_leaf l.number u) m.state.objects other

      by_object : (o : ℕ) (d : PlainObject) → slice_get p.objects o ≡ Some d
          → (o ≢ l.object → is_kept z.frames.functions d.storage ≡ true) → is_kept z.frames.functions d.storage ≡ true
      by_object o d r f =
          ⊎_elim
          (λ (same : o ≡ l.object).
          let a : Some d ≡ Some l.declared = sym r ∙ ap (slice_get p.objects) same ∙ l.is_object in
          let b : d ≡ l.declared = cc in
          subst (λ (c : PlainObject). is_kept z.frames.functions c.storage ≡ true) (sym b) mine)
          f
          (cases_eq o l.object)

  -- the bytes of a leaf have been written
  pub stored : (l : ObjectLeaf p DataBank) (space : SpaceId) (need need0 : Need) (m : Mach) (v w : View) (c : ℕ) (u : Value)
      → (z : A need0 m v) → IsStanding l need0 m v z → ((i : ℕ) → need i ≤ need0 i) → Wide v w (place l.object + l.at) l.bytes
      → HoldsLeaf p place w.at (place l.object + l.at) l.bytes u → HoldsNumbers w → w.inputs ≡ v.inputs → w.safe ≡ v.safe
      → w.seen ≡ v.seen
      ++ log_of (kind_in l.declared.storage) ByteWrite (place l.object + l.at) (seen_number p place l.bytes (told u)) l.bytes
      → A need (machine m.temps (after_write l space u (worked c m.state))) w
  stored l space need need0 m v w c u z mine more frame here numbers inputs safe seen =
      let storage = l.declared.storage in
      let b = place l.object + l.at in
      let s0 = with_object l.object (with_leaf l.number u) (worked c m.state) in
      let s1 = after_write l space u (worked c m.state) in
      let log = log_of (kind_in storage) ByteWrite b (seen_number p place l.bytes (told u)) l.bytes in
      let is_seen : w.seen ≡ accesses p place s1.events =
      seen ∙ ap (λ f. f ++ log) z.seen ∙ sym (write_seen p DataBank place l space (told u) s0 storage) in
      let memory : memory_of s1 ≡ memory_of s0 = recorded_memory storage _ s0 in
      let objects : s1.objects ≡ changed_at l.object (with_leaf l.number u) m.state.objects = same_objects s1 s0 memory in
      let groups : s1.groups ≡ m.state.groups = same_groups s1 s0 memory in
      record {
        temps_hold = λ t h it r q. same_content p place v.at w.at (base t) (wanted need t) t.bytes h.content
            (λ j f. row_kept_wide v w b l.bytes (base t) t.bytes (y.layout.temps_at t it).clear (y.layout.temps_work t it)
            (y.layout.leaf_temp l t it) frame j (let most = wanted_most need t in omega arith))
            (at_width p e slots home base place y need0 m v t h (wanted need t) z it r q (let f = more t.at in omega (arith, f)));
        leaves_hold = λ f x n r q.
            stored_leaves l u need0 m v w z mine frame here f x n (ap (λ g. slice_get g f.object) (sym objects) ∙ r) q;
        tables_hold = λ f x n r q. z.tables_hold f x n
            (sym (changed_other l.object f.object (with_leaf l.number u) m.state.objects (other_object l f))
            ∙ ap (λ g. slice_get g f.object) (sym objects) ∙ r) q;
        frames = subst (λ g. FramesStand p y.active y.called g) (sym objects) (stored_frames l u need0 m v z mine);
        kept = λ f byte r q.
            (let i = y.high f r in frame f (omega arith) (omega arith) (λ o. omega arith) (λ o. omega arith) (y.leaves_aside l f r))
            ∙ z.kept f byte r (ap (λ g. y.stands g f) (sym groups) ∙ q);
        bytes = numbers;
        left = λ port. kept_left y.inputs m.state v w inputs z.left port ∙ sym (recorded_left y.inputs port storage _ s0 refl);
        seen = is_seen;
        safe = safe ∙ z.safe;
      }

  -- by a copy
  pub store_matches : (l : ObjectLeaf p DataBank) (space : SpaceId) (t : Temp) (need need0 : Need) (m : Mach) (v : View)
      (c : ℕ) (u : Value) → HasHome slots t → l.bytes ≡ t.bytes → (z : A need0 m v) → IsStanding l need0 m v z
      → ((i : ℕ) → need i ≤ need0 i) → HoldsLeaf p place v.at (base t) l.bytes u
      → A need (machine m.temps (after_write l space u (worked c m.state)))
      (block e (copy_code (home t) (location_in l.declared.storage l.object l.at) t.bytes) v)
  store_matches l space t need need0 m v c u it size z mine more holds =
      let storage = l.declared.storage in
      let b = place l.object + l.at in
      let a = base t in
      let n = l.bytes in
      let to = location_in storage l.object l.at in
      let v1 = block e (copy_code (home t) to n) v in
      let sb : StandsFrom e to n b (kind_in storage) = y.layout.leaves_at l in
      let sa : StandsFrom e (home t) n a Own = subst (λ (i : ℕ). StandsFrom e (home t) i a Own) (sym size) (y.layout.temps_at t it) in
      let far : IsReadFirst a b n = λ r. (let q = (y.layout.temp_leaf t l it).left r in omega (arith, q, size)) in
      let d = copy_holds e (home t) to n a b Own (kind_in storage) v sa sb refl (storage_held storage) far in
      let held = held_row v a n sa.clear z.bytes in
      let log = write_log storage a b n (seen_number p place n (told u)) v.at (told_digit p place v.at a n u held holds) in
      let frame : Frame v v1 b n = λ f g h j r. d.same f g r in
      let work = work_kept v v1 a b n sa.clear z.bytes d.there d.same in
      let numbers = numbers_kept v v1 b n z.bytes frame (λ j r. rw (d.there j r) (held j r)) work in
      let here : HoldsLeaf p place v1.at b n u = moved_leaf p place v.at v1.at a b n u d.there holds in
      subst (λ (i : ℕ). A need (machine m.temps (after_write l space u (worked c m.state))) (block e (copy_code (home t) to i) v)) size
      (stored l space need need0 m v v1 c u z mine more (widened v v1 b n frame) here numbers d.inputs d.safe
      (d.seen ∙ ap (λ f. v.seen ++ f) log))

  -- by a number that its bytes hold, wherever they stand
  pub number_store_matches : (l : ObjectLeaf p DataBank) (space : SpaceId) (need need0 : Need) (m : Mach) (v : View)
      (number c : ℕ) (u : Value) → 1 ≤ l.bytes → (z : A need0 m v) → IsStanding l need0 m v z → ((i : ℕ) → need i ≤ need0 i)
      → ((f : ℕ → ℕ) (a : ℕ) → ((j : ℕ) → j < l.bytes → f (a + j) ≡ byte_of number j) → HoldsLeaf p place f a l.bytes u)
      → A need (machine m.temps (after_write l space u (worked c m.state)))
      (block e (store_number_code (location_in l.declared.storage l.object l.at) number l.bytes) v)
  number_store_matches l space need need0 m v number c u some z mine more holds =
      let storage = l.declared.storage in
      let b = place l.object + l.at in
      let n = l.bytes in
      let to = location_in storage l.object l.at in
      let v1 = block e (store_number_code to number n) v in
      let far : Outside b n 30 = work_outside b n (y.layout.leaves_work l) in
      let d = number_is_stored e to n b number (kind_in storage) v (y.layout.leaves_at l) far (storage_held storage) in
      let here : HoldsLeaf p place v1.at b n u = holds v1.at b d.there in
      let held : AreHeld v1.at b n = λ j r. rw (d.there j r) (byte_below number j) in
      let digit : (i : ℕ) → i < n → byte_of number i ≡ seen_number p place n (told u) / 256 ^ i % 256 =
      λ i r. sym (d.there i r) ∙ told_digit p place v1.at b n u held here i r in
      let log = number_write_log storage b number n (seen_number p place n (told u)) digit in
      let frame : Frame v v1 b n = λ f g h j r. d.same f j r in
      let work : v1.at 30 < 256 = rw (d.work (n - 1) (omega (arith, some))) (byte_below number (n - 1)) in
      let numbers = numbers_kept v v1 b n z.bytes frame held work in
      stored l space need need0 m v v1 c u z mine more (widened v v1 b n frame) here numbers d.inputs d.safe
      (d.seen ∙ ap (λ f. v.seen ++ f) log)

  -- by code that brings its bytes to an address
  pub store_brings : (l : ObjectLeaf p DataBank) (space : SpaceId) (t : Temp) (need need0 : Need) (m : Mach) (v w : View)
      (c : ℕ) (u : Value) → HasHome slots t → l.bytes ≡ t.bytes → kind_in l.declared.storage ≡ Object
      → (z : A need0 m v) → IsStanding l need0 m v z
      → ((i : ℕ) → need i ≤ need0 i) → HoldsLeaf p place v.at (base t) l.bytes u
      → Brings v (place l.object + l.at) t.bytes (λ i. v.at (base t + i))
      (each ByteWrite (place l.object + l.at) (λ i. v.at (base t + i)) t.bytes) w
      → A need (machine m.temps (after_write l space u (worked c m.state))) w
  store_brings l space t need need0 m v w c u it size kind z mine more holds brings =
      let b = place l.object + l.at in
      let a = base t in
      let n = l.bytes in
      let byte = λ (i : ℕ). v.at (a + i) in
      let d : Brings v b n byte (each ByteWrite b byte n) w =
      subst (λ (i : ℕ). Brings v b i byte (each ByteWrite b byte i) w) (sym size) brings in
      let number = seen_number p place n (told u) in
      let held : AreHeld v.at a n = held_row v a n (y.layout.temps_at t it).clear z.bytes in
      let log : each ByteWrite b byte n ≡ byte_accesses ByteWrite b number n =
      each_log ByteWrite b n number byte (told_digit p place v.at a n u held holds) in
      let logged : each ByteWrite b byte n ≡ log_of (kind_in l.declared.storage) ByteWrite b number n =
      log ∙ ap (λ k. log_of k ByteWrite b number n) (sym kind) in
      let here : HoldsLeaf p place w.at b n u = moved_leaf p place v.at w.at a b n u d.there holds in
      stored l space need need0 m v w c u z mine more (wide_of v w b n byte _ d) here (d.numbers z.bytes held) d.inputs d.safe
      (d.seen ∙ ap (λ f. v.seen ++ f) logged)
