-- The words of items, of code for each byte, and of straight code.
use Rattle.std.proofs.Common.{◌≡◌, ◌+◌, ◌*◌, ◌<◌, ◌≤◌, ℕ, zero, suc, Bool, true, false, not, ◌&&◌, List, [], ◌∷◌, ◌++◌, length, take}
use Rattle.std.proofs.Common.{get_or, refl, arith, ⊎_elim}
use Rattle.std.proofs.lemmas.Bool.{and_parts, and_from, false≢true}
use Rattle.std.proofs.lemmas.List.Sums.{sum_by_more, sum_by-append, sum_by-drop_more}
use Rattle.ec_isa.specs.declared.instructions.Instr.{Instr}
use Rattle.ec_isa.specs.declared.instructions.Instr.TheVariants.{Lds, Sts, Jmp, Call}
use Rattle.ec_asm.specs.declared.items.AsmItem.{AsmItem}
use Rattle.ec_asm.specs.declared.items.AsmItem.TheVariants.{Plain, Label, JumpTo, CallTo, BranchTo, LoadPart, LoadObj, StoreObj}
use Rattle.ec_asm.specs.declared.pieces.Location.TheVariants.{InRegisters, InMemory}
use Rattle.ec_asm.specs.declared.pieces.Operator.TheVariants.{Sum}
use Rattle.ec_asm.specs.Change.{Env, Kind, Own, Object, Port, Stacked, Page, Barred, words}
use Rattle.ec_asm.specs.Items.{HasAt, Stands, is_straight, all_straight, item_words, code_words, chain}
use Rattle.ec_asm.specs.Pieces.{StandsFrom, operate_byte}

words_below : (i : Instr) → words i ≤ 3
words_below (Lds d k) = omega arith
words_below (Sts k r) = omega arith
words_below (Jmp k) = omega arith
words_below (Call k) = omega arith
words_below _ = omega arith

pub item_below : (i : AsmItem) → item_words i ≤ 3
item_below (Plain i) = words_below i
item_below (Label l) = omega arith
item_below (JumpTo l) = omega arith
item_below (CallTo l) = omega arith
item_below (BranchTo set flag l) = omega arith
item_below (LoadPart d o k part) = omega arith
item_below (LoadObj d o k) = omega arith
item_below (StoreObj o k r) = omega arith

pub words_cons : (i : AsmItem) (is : List AsmItem) → code_words (i ∷ is) ≡ item_words i + code_words is
words_cons i is = sum_by-drop_more item_words (i ∷ is) 0 i (omega arith)

pub words_more : (items : List AsmItem) (i : ℕ) (d : AsmItem) → i < length items
    → code_words (take (i + 1) items) ≡ code_words (take i items) + item_words (get_or items i d)
words_more items i d l = sum_by_more item_words items i d l

-- one item more
pub code_step : (items : List AsmItem) (i sum more : ℕ) (d : AsmItem) → i < length items
    → sum ≡ code_words (take i items) → more ≡ item_words (get_or items i d)
    → (sum + more ≡ code_words (take (i + 1) items)) × (more ≤ 3)
code_step items i sum more d l h m =
    let q = words_more items i d l in
    let b = item_below (get_or items i d) in
    (omega arith, omega arith)

-- ---- code for each byte

pub chain_words : (body : ℕ → List AsmItem) (n k : ℕ) → ((i : ℕ) → code_words (body i) ≡ k)
    → code_words (chain body n) ≡ k * n
chain_words body zero k h = omega arith
chain_words body (suc n) k h =
    let r = chain_words body n k h in
    let b = h n in
    omega (arith, sum_by-append item_words (chain body n) (body n), r, b)

pub chain_words_below : (body : ℕ → List AsmItem) (n k : ℕ) → ((i : ℕ) → code_words (body i) ≤ k)
    → code_words (chain body n) ≤ n * k
chain_words_below body zero k h = omega arith
chain_words_below body (suc n) k h =
    let r = chain_words_below body n k h in
    let b = h n in
    omega (arith, sum_by-append item_words (chain body n) (body n), r, b)

pub sum_words : (r i : ℕ) → code_words (operate_byte Sum (InRegisters r) (InRegisters r) i) ≡ 1
sum_words r zero = refl
sum_words r (suc i) = refl

pub sum_words_far : (o k i : ℕ) → code_words (operate_byte Sum (InMemory o k) (InMemory o k) i) ≡ 7
sum_words_far o k zero = refl
sum_words_far o k (suc i) = refl

-- ---- straight code

-- a byte that is no object's is reached by its address alone
abbrev pub is_object : Kind → Bool
is_object Object = true
is_object _ = false

abbrev pub is_far : Env → AsmItem → Bool
is_far e (LoadObj d o k) = not (is_object (e.kind (e.address_of o k)))
is_far e (StoreObj o k r) = not (is_object (e.kind (e.address_of o k)))
is_far e i = true

abbrev pub all_far : Env → List AsmItem → Bool
all_far e [] = true
all_far e (i ∷ is) = is_far e i && all_far e is

pub far-append : (e : Env) (a b : List AsmItem) → all_far e a ≡ true → all_far e b ≡ true → all_far e (a ++ b) ≡ true
far-append e [] b p q = q
far-append e (i ∷ a) b p q =
    let r = and_parts (is_far e i) (all_far e a) p in and_from (is_far e i) (all_far e (a ++ b)) r.0 (far-append e a b r.1 q)

pub chain_far : (e : Env) (body : ℕ → List AsmItem) (n : ℕ) → ((i : ℕ) → i < n → all_far e (body i) ≡ true)
    → all_far e (chain body n) ≡ true
chain_far e body zero h = refl
chain_far e body (suc n) h =
    far-append e (chain body n) (body n) (chain_far e body n (λ i l. h i (omega (arith, l)))) (h n (omega arith))

-- a byte of code's own
pub own_far : (e : Env) (o k i n a : ℕ) → StandsFrom e (InMemory o k) n a Own → i < n
    → not (is_object (e.kind (e.address_of o (k + i)))) ≡ true
own_far e o k i n a s l = rw (s.at i l, s.kind i l) refl

not_near : (k : Kind) → not (is_object k) ≡ true → k ≡ Object → ⊥
not_near Own h q = cc
not_near Object h q = absurd (false≢true h)
not_near Port h q = cc
not_near Stacked h q = cc
not_near Page h q = cc
not_near Barred h q = cc

-- straight items in their long forms stand in as many words as they have
item_ends : (e : Env) (i : AsmItem) (pc end : ℕ) → is_straight i ≡ true → is_far e i ≡ true → Stands e i pc end
    → (end ≡ pc + item_words i) × (pc < 65536 → end < 65536)
item_ends e (Plain i) pc end h f a = (a.ends, λ l. a.room)
item_ends e (Label l) pc end h f a = let q = a.1 in (omega arith, λ m. omega arith)
item_ends e (JumpTo l) pc end h f a = absurd (false≢true h)
item_ends e (CallTo l) pc end h f a = absurd (false≢true h)
item_ends e (BranchTo set flag l) pc end h f a = absurd (false≢true h)
item_ends e (LoadPart d o k part) pc end h f a = (a.ends, λ l. a.room)
item_ends e (LoadObj d o k) pc end h f a =
    ⊎_elim (λ x. (x.ends, λ l. x.room)) (λ x. absurd (not_near (e.kind (e.address_of o k)) f x.2.object)) a
item_ends e (StoreObj o k r) pc end h f a =
    ⊎_elim (λ x. (x.ends, λ l. x.room)) (λ x. absurd (not_near (e.kind (e.address_of o k)) f x.2.object)) a

pub straight_room : (e : Env) (is : List AsmItem) (pc end : ℕ) → all_straight is ≡ true → all_far e is ≡ true → HasAt e is pc end
    → (end ≡ pc + code_words is) × (pc < 65536 → end < 65536)
straight_room e [] pc end h f at = (omega (arith, at), λ l. omega (arith, at))
straight_room e (i ∷ is) pc end h f at =
    let p = and_parts (is_straight i) (all_straight is) h in
    let q = and_parts (is_far e i) (all_far e is) f in
    let a = item_ends e i pc at.0 p.0 q.0 at.1 in
    let b = straight_room e is at.0 end p.1 q.1 at.2 in
    (omega (arith, a.0, b.0, words_cons i is), λ l. b.1 (a.1 l))

pub straight_ends : (e : Env) (is : List AsmItem) (pc end : ℕ) → all_straight is ≡ true → all_far e is ≡ true → HasAt e is pc end
    → end ≡ pc + code_words is
straight_ends e is pc end h f at = (straight_room e is pc end h f at).0
