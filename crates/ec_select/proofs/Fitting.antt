-- Items that name no label, and have their fields in range.
use Rattle.std.proofs.Common.{◌≡◌, ℕ, zero, suc, ◌+◌, ◌<◌, ◌≤◌, Bool, true, false, List, [], ◌∷◌, ◌++◌, refl, ◌∙◌}
use Rattle.std.proofs.Common.{arith}
use Rattle.std.specs.Prelude.{nat_lt, ◌&&◌, count_by}
use Rattle.std.specs.List.{list_all}
use Rattle.std.proofs.lemmas.Bool.{false≢true, lt-ltb}
use Rattle.std.proofs.lemmas.List.Folds.{list_all-append}
use Rattle.ec_isa.specs.Table.{in_table}
use Rattle.ec_asm.specs.declared.items.AsmItem.{AsmItem}
use Rattle.ec_asm.specs.declared.items.AsmItem.TheVariants.{Plain, Label, JumpTo, CallTo, BranchTo, LoadPart, LoadObj}
use Rattle.ec_asm.specs.declared.items.AsmItem.TheVariants.{StoreObj}
use Rattle.ec_asm.specs.declared.pieces.Location.{Location}
use Rattle.ec_asm.specs.declared.pieces.Location.TheVariants.{InRegisters, InMemory}
use Rattle.ec_asm.specs.Items.{chain}
use Rattle.ec_asm.specs.Valid.{Sizes, is_offset, is_valid_item, used_label, is_label, is_placed}

-- ---- items

abbrev pub fits : Sizes → AsmItem → Bool
fits sizes (Plain i) = in_table i
fits sizes (Label l) = false
fits sizes (JumpTo l) = false
fits sizes (CallTo l) = false
fits sizes (BranchTo set flag l) = false
fits sizes (LoadPart d o k part) = is_valid_item sizes (LoadPart d o k part)
fits sizes (LoadObj d o k) = is_valid_item sizes (LoadObj d o k)
fits sizes (StoreObj o k r) = is_valid_item sizes (StoreObj o k r)

abbrev pub Fit : Sizes → List AsmItem → Type 0
Fit sizes items = list_all (fits sizes) items ≡ true

pub joined : (p : AsmItem → Bool) (a b : List AsmItem) → list_all p a ≡ true → list_all p b ≡ true
    → list_all p (a ++ b) ≡ true
joined p a b h k = list_all-append p a b ∙ rw (h, k) refl

pub chained : (p : AsmItem → Bool) (body : ℕ → List AsmItem) (n : ℕ) → ((i : ℕ) → i < n → list_all p (body i) ≡ true)
    → list_all p (chain body n) ≡ true
chained p body zero h = refl
chained p body (suc n) h = joined p (chain body n) (body n) (chained p body n (λ i l. h i (omega arith))) (h n (omega arith))

-- what each item that fits passes, a list of such items passes
pub and_first : (a b : Bool) → (a && b) ≡ true → a ≡ true
and_first true b h = refl
and_first false b h = h

pub and_second : (a b : Bool) → (a && b) ≡ true → b ≡ true
and_second true b h = h
and_second false b h = absurd (false≢true h)

pub passing : (sizes : Sizes) (p : AsmItem → Bool) → ((i : AsmItem) → fits sizes i ≡ true → p i ≡ true)
    → (items : List AsmItem) → Fit sizes items → list_all p items ≡ true
passing sizes p h [] f = refl
passing sizes p h (i ∷ is) f =
    let a = h i (and_first (fits sizes i) (list_all (fits sizes) is) f) in
    let b = passing sizes p h is (and_second (fits sizes i) (list_all (fits sizes) is) f) in
    rw (a, b) refl

pub valid_item : (sizes : Sizes) (i : AsmItem) → fits sizes i ≡ true → is_valid_item sizes i ≡ true
valid_item sizes (Plain i) h = h
valid_item sizes (Label l) h = refl
valid_item sizes (JumpTo l) h = refl
valid_item sizes (CallTo l) h = refl
valid_item sizes (BranchTo set flag l) h = absurd (false≢true h)
valid_item sizes (LoadPart d o k part) h = h
valid_item sizes (LoadObj d o k) h = h
valid_item sizes (StoreObj o k r) h = h

pub are_valid : (sizes : Sizes) (items : List AsmItem) → Fit sizes items → list_all (is_valid_item sizes) items ≡ true
are_valid sizes items f = passing sizes (is_valid_item sizes) (valid_item sizes) items f

pub placed_item : (sizes : Sizes) (all : List AsmItem) (i : AsmItem) → fits sizes i ≡ true
    → is_placed all (used_label i) ≡ true
placed_item sizes all (Plain i) h = refl
placed_item sizes all (Label l) h = refl
placed_item sizes all (JumpTo l) h = absurd (false≢true h)
placed_item sizes all (CallTo l) h = absurd (false≢true h)
placed_item sizes all (BranchTo set flag l) h = absurd (false≢true h)
placed_item sizes all (LoadPart d o k part) h = refl
placed_item sizes all (LoadObj d o k) h = refl
placed_item sizes all (StoreObj o k r) h = refl

pub are_placed : (sizes : Sizes) (all items : List AsmItem) → Fit sizes items
    → list_all (λ i. is_placed all (used_label i)) items ≡ true
are_placed sizes all items f = passing sizes (λ i. is_placed all (used_label i)) (placed_item sizes all) items f

pub no_label : (sizes : Sizes) (l : ℕ) (i : AsmItem) → fits sizes i ≡ true → is_label l i ≡ false
no_label sizes l (Plain i) h = refl
no_label sizes l (Label k) h = absurd (false≢true h)
no_label sizes l (JumpTo k) h = refl
no_label sizes l (CallTo k) h = refl
no_label sizes l (BranchTo set flag k) h = refl
no_label sizes l (LoadPart d o k part) h = refl
no_label sizes l (LoadObj d o k) h = refl
no_label sizes l (StoreObj o k r) h = refl

pub place_none : (sizes : Sizes) (l : ℕ) (items : List AsmItem) → Fit sizes items → count_by (is_label l) items ≡ 0
place_none sizes l [] f = refl
place_none sizes l (i ∷ is) f =
    let a = no_label sizes l i (and_first (fits sizes i) (list_all (fits sizes) is) f) in
    let b = place_none sizes l is (and_second (fits sizes i) (list_all (fits sizes) is) f) in
    rw (a, b) refl

-- ---- locations

-- a byte that code can name
abbrev pub ByteFits : Sizes → Location → ℕ → Type 0
ByteFits sizes (InRegisters r) i = r + i < 32
ByteFits sizes (InMemory o k) i = is_offset sizes o (k + i) ≡ true

abbrev pub BytesFit : Sizes → Location → ℕ → Type 0
BytesFit sizes p n = (i : ℕ) → i < n → ByteFits sizes p i

pub registers_fit : (sizes : Sizes) (r n : ℕ) → r + n ≤ 32 → BytesFit sizes (InRegisters r) n
registers_fit sizes r n h i l = omega arith

pub fewer_fit : (sizes : Sizes) (p : Location) (m n : ℕ) → m ≤ n → BytesFit sizes p n → BytesFit sizes p m
fewer_fit sizes p m n h f i l = f i (omega arith)

-- ---- instructions of registers

pub two_fit : (d r : ℕ) → d < 32 → r < 32 → (nat_lt d 32 && nat_lt r 32) ≡ true
two_fit d r a b = rw (lt-ltb d 32 a, lt-ltb r 32 b) refl

pub reg : (d : ℕ) → d < 32 → nat_lt d 32 ≡ true
reg d h = lt-ltb d 32 h
