-- Rows of what is known, from operation to operation.
use Rattle.std.proofs.Common.{◌≡◌, ℕ, zero, suc, ◌+◌, ◌<◌, Bool, true, false, List, []}
use Rattle.std.proofs.Common.{◌∷◌, Option, Some, None}
use Rattle.std.proofs.Common.{refl, sym, ap, ◌∙◌, arith, length, map, drop, get_or, replicate}
use Rattle.std.specs.Prelude.{◌==◌, nat_lt, ◌&&◌, if◌then◌else◌, ℤ, pos}
use Rattle.std.proofs.lemmas.List.{drop_more, get_or-map, length-map}
use Rattle.ec_core.specs.Plain.{PlainType, void, integer, fixed, pointer, array, struct}
use Rattle.ec_ir.specs.declared.operations.Temp.{Temp}
use Rattle.ec_ir.specs.Operations.{PlainIr, constant, copy, address, field, load_at, store_at, load_object}
use Rattle.ec_ir.specs.Operations.{store_object, binary_op, unary_op, conversion, label, jump, branch_zero}
use Rattle.ec_ir.specs.Operations.{call_function, return_from, port_in, port_out, load_cell, store_cell, cell_port}
use Rattle.ec_ir_known.specs.declared.known.KnownNumber.{KnownNumber}
use Rattle.ec_ir_known.specs.declared.known.RightNumber.{RightNumber}
use Rattle.ec_ir_known.specs.Known.{Known, is_set, of_bytes, converted, operand_number, known_after, right_number, right_of}
use Rattle.ec_ir_known.specs.Known.{is_byte_of, bytes_left, number_in, byte_where, leaves_byte, is_low, is_wide_type, is_below}
use Rattle.ec_ir_known.specs.Known.{fits_byte, fits_second, is_wide, is_filled, is_filled_type, is_count_from, top_count}
use Rattle.ec_ir_known.specs.Known.{leaves_top, takes_alone}
use Rattle.ec_ir_known.specs.Known.{known_at, known_of, numbers_from, numbers_left, right_numbers, HaveResultPlaces}
use Rattle.ec_ir_known.proofs.Places.{Stands, known_next, next_stands, nothing_first, all_left}

pub places_drop : (s n : ℕ) (code : List PlainIr) → HaveResultPlaces s code → HaveResultPlaces s (drop n code)
places_drop s zero code h = h
places_drop s (suc n) [] h = h
places_drop s (suc n) (i ∷ code) h = places_drop s n code h.1

pub drop_next : {A B : Type 0} (f : A → B) (xs : List A) (k : ℕ) (x : A) → k < length xs → x ≡ get_or xs k x
    → drop k (map f xs) ≡ f x ∷ drop (k + 1) (map f xs)
drop_next f xs k x l e =
    let m : k < length (map f xs) = omega (arith, l, length-map xs f) in
    drop_more (map f xs) k (f x) m
    ∙ ap (λ y. y ∷ drop (k + 1) (map f xs)) (get_or-map f xs k x (f x) l ∙ ap f (sym e))

-- the same is known of all places
abbrev pub AreSame : Known → Known → Type 0
AreSame a b = (place : ℕ) → a place ≡ b place

set_same : (o : Option Temp) (x y : Option KnownNumber) (a b : Known) → x ≡ y → AreSame a b → (place : ℕ)
    → (if is_set o place then x else a place) ≡ (if is_set o place then y else b place)
set_same o x y a b e h place = by_test (is_set o place)
  where
    by_test : (z : Bool) → (if z then x else a place) ≡ (if z then y else b place)
    by_test true = e
    by_test false = h place

byte_same : (a b : Known) (t : Temp) (bytes : ℕ) → AreSame a b → is_byte_of bytes (a t.at) ≡ is_byte_of bytes (b t.at)
byte_same a b t bytes h = ap (is_byte_of bytes) (h t.at)

operand_same : (a b : Known) (t : Temp) (ty : PlainType) → AreSame a b → operand_number a t ty ≡ operand_number b t ty
operand_same a b t (integer s n) h = ap (λ (x : Option KnownNumber). if t.bytes == n then of_bytes t.bytes x else None) (h t.at)
operand_same a b t void h = refl
operand_same a b t (fixed kind saturates) h = refl
operand_same a b t (pointer space const to) h = refl
operand_same a b t (array of len) h = refl
operand_same a b t (struct index) h = refl

low_same : (a b : Known) (t : Temp) (ty : PlainType) → AreSame a b → is_low a t ty ≡ is_low b t ty
low_same a b t ty h = ap (λ (x : Option KnownNumber). is_wide_type ty && is_below t.bytes x) (h t.at)

filled_same : (a b : Known) (t : Temp) (ty : PlainType) → AreSame a b → is_filled_type a t ty ≡ is_filled_type b t ty
filled_same a b t (integer true n) h = refl
filled_same a b t (integer false n) h = ap (λ (x : Option KnownNumber). is_wide n && (t.bytes == n && is_filled n x)) (h t.at)
filled_same a b t void h = refl
filled_same a b t (fixed kind saturates) h = refl
filled_same a b t (pointer space const to) h = refl
filled_same a b t (array of len) h = refl
filled_same a b t (struct index) h = refl

top_same : (a b : Known) (c : Temp) (aty : PlainType) (d : Temp) (bty : PlainType) → AreSame a b
    → leaves_top a c aty d bty ≡ leaves_top b c aty d bty
top_same a b c aty d bty h =
    ap (λ (x : Bool). x && (is_wide_type bty && is_count_from (top_count c.bytes) (operand_number a d bty))) (filled_same a b c aty h)
    ∙ ap (λ (x : Option ℤ). is_filled_type b c aty && (is_wide_type bty && is_count_from (top_count c.bytes) x))
    (operand_same a b d bty h)

fits_same : (a b : Known) (t : Temp) → AreSame a b → fits_byte a t ≡ fits_byte b t
fits_same a b t h = ap (λ (x : Bool). nat_lt 1 t.bytes && x) (byte_same a b t t.bytes h)

pub after_same : (i : PlainIr) (a b : Known) → AreSame a b → AreSame (known_after i a) (known_after i b)
after_same (label l) a b h place = refl
after_same (constant t n) a b h place = set_same (Some t) _ _ a b refl h place
after_same (copy to from) a b h place = set_same (Some to) None None a b refl h place
after_same (address t o offset) a b h place = set_same (Some t) None None a b refl h place
after_same (field ptr space offset) a b h place = set_same (Some ptr) None None a b refl h place
after_same (load_at to ptr space) a b h place =
    set_same (Some to) (bytes_left to) (bytes_left to) a b refl h place
after_same (store_at ptr space from) a b h place = h place
after_same (load_object t o offset) a b h place =
    set_same (Some t) (bytes_left t) (bytes_left t) a b refl h place
after_same (store_object o offset t) a b h place = h place
after_same (binary_op op ty mode to c aty d bty) a b h place =
    set_same (Some to) (byte_where to (leaves_byte op ty (is_low a c aty) (is_low a d bty) (leaves_top a c aty d bty)))
    (byte_where to (leaves_byte op ty (is_low b c aty) (is_low b d bty) (leaves_top b c aty d bty))) a b
    (ap (λ (x : Bool). byte_where to (leaves_byte op ty x (is_low a d bty) (leaves_top a c aty d bty))) (low_same a b c aty h)
    ∙ ap (λ (x : Bool). byte_where to (leaves_byte op ty (is_low b c aty) x (leaves_top a c aty d bty))) (low_same a b d bty h)
    ∙ ap (λ (x : Bool). byte_where to (leaves_byte op ty (is_low b c aty) (is_low b d bty) x)) (top_same a b c aty d bty h)) h place
after_same (unary_op op ty mode to c) a b h place =
    set_same (Some to) (bytes_left to) (bytes_left to) a b refl h place
after_same (conversion to ty mode c aty) a b h place =
    set_same (Some to) (converted to ty aty (operand_number a c aty) (is_byte_of c.bytes (a c.at)))
    (converted to ty aty (operand_number b c aty) (is_byte_of c.bytes (b c.at))) a b
    (ap (λ (x : Option ℤ). converted to ty aty x (is_byte_of c.bytes (a c.at))) (operand_same a b c aty h)
    ∙ ap (λ (x : Bool). converted to ty aty (operand_number b c aty) x) (byte_same a b c c.bytes h)) h place
after_same (jump l) a b h place = h place
after_same (branch_zero t l) a b h place = h place
after_same (call_function f to) a b h place = set_same to None None a b refl h place
after_same (return_from from) a b h place = h place
after_same (port_in to port index width) a b h place =
    set_same (Some to) (bytes_left to) (bytes_left to) a b refl h place
after_same (port_out from port index width) a b h place = h place
after_same (load_cell to cell) a b h place =
    set_same (Some to) (bytes_left to) (bytes_left to) a b refl h place
after_same (store_cell cell from) a b h place = h place
after_same (cell_port true to cell offset index width) a b h place =
    set_same (Some to) (bytes_left to) (bytes_left to) a b refl h place
after_same (cell_port false from cell offset index width) a b h place = h place

right_same : (i : PlainIr) (a b : Known) → AreSame a b → right_number a i ≡ right_number b i
right_same (binary_op op ty mode to c aty d bty) a b h =
    ap (λ (x : Bool). right_of (takes_alone op to d) x (fits_second a d bty) (number_in a d)) (fits_same a b c h)
    ∙ ap (λ (x : Bool). right_of (takes_alone op to d) (fits_byte b c) (is_wide_type bty && x) (number_in a d)) (fits_same a b d h)
    ∙ ap (λ (x : Option KnownNumber). right_of (takes_alone op to d) (fits_byte b c) (fits_second b d bty) (of_bytes d.bytes x)) (h d.at)
right_same (label l) a b h = refl
right_same (constant t n) a b h = refl
right_same (copy to from) a b h = refl
right_same (address t o offset) a b h = refl
right_same (field ptr space offset) a b h = refl
right_same (load_at to ptr space) a b h = refl
right_same (store_at ptr space from) a b h = refl
right_same (load_object t o offset) a b h = refl
right_same (store_object o offset t) a b h =
    ap (λ (x : Option KnownNumber). right_of false false false (of_bytes t.bytes x)) (h t.at)
right_same (unary_op op ty mode to c) a b h = refl
right_same (conversion to ty mode c aty) a b h = refl
right_same (jump l) a b h = refl
right_same (branch_zero t l) a b h = ap (λ (x : Bool). right_of false x false (Some (pos 0))) (fits_same a b t h)
right_same (call_function f to) a b h = refl
right_same (return_from from) a b h = refl
right_same (port_in to port index width) a b h = refl
right_same (port_out from port index width) a b h = refl
right_same (load_cell to cell) a b h = refl
right_same (store_cell cell from) a b h = refl
right_same (cell_port read t cell offset index width) a b h = refl

pub numbers_same : (code : List PlainIr) (a b : Known) → AreSame a b → numbers_from a code ≡ numbers_from b code
numbers_same [] a b h = refl
numbers_same (i ∷ code) a b h =
    ap (λ (x : Option RightNumber). x ∷ numbers_from (known_after i a) code) (right_same i a b h)
    ∙ ap (λ (x : List (Option RightNumber)). right_number b i ∷ x)
    (numbers_same code (known_after i a) (known_after i b) (after_same i a b h))

-- ---- the numbers are those of what is known where each operation stands

numbers_are : (code rest : List PlainIr) → Stands code rest → numbers_from (known_at code rest) rest ≡ numbers_left code rest
numbers_are code [] w = refl
numbers_are code (i ∷ rest) w =
    ap (λ (k : Known). right_number (known_at code (i ∷ rest)) i ∷ numbers_from k rest) (sym (known_next code i rest w))
    ∙ ap (λ (xs : List (Option RightNumber)). right_number (known_at code (i ∷ rest)) i ∷ xs)
    (numbers_are code rest (next_stands code i rest w))

-- of new rows nothing is known
none_of : (slots place : ℕ) → known_of (replicate slots None) place ≡ None
none_of zero place = refl
none_of (suc slots) zero = refl
none_of (suc slots) (suc place) = none_of slots place

pub all_numbers : (slots : ℕ) (code : List PlainIr) → numbers_from (known_of (replicate slots None)) code ≡ right_numbers code
all_numbers slots code =
    numbers_same code (known_of (replicate slots None)) (known_at code code)
    (λ place. none_of slots place ∙ sym (nothing_first code place))
    ∙ numbers_are code code (all_left code)
