-- The form of the code: straight code, and its steps and words.
use Rattle.std.proofs.Common.{ℕ, zero, suc, ◌+◌, ◌*◌, ◌%◌, ◌≤◌, ◌==◌, Bool, true, false, List, [], ◌∷◌}
use Rattle.std.proofs.Common.{◌++◌, refl, arith}
use Rattle.std.specs.Prelude.{if◌then◌else◌}
use Rattle.std.proofs.lemmas.List.Sums.{sum_by-append}
use Rattle.ec_isa.specs.declared.instructions.Instr.TheVariants.{Movw}
use Rattle.ec_asm.specs.declared.items.AsmItem.{AsmItem}
use Rattle.ec_asm.specs.declared.items.AsmItem.TheVariants.{Plain}
use Rattle.ec_asm.specs.declared.pieces.Location.{Location}
use Rattle.ec_asm.specs.declared.pieces.Location.TheVariants.{InRegisters, InMemory}
use Rattle.ec_asm.specs.declared.pieces.Operator.TheVariants.{Difference}
use Rattle.ec_asm.specs.Items.{item_words}
use Rattle.ec_asm.specs.Pieces.{copy_code, operate_code}
use Rattle.ec_asm.proofs.Hoare.{straight-append, steps-append}
use Rattle.ec_select_bytes.specs.Values.{extend_code}
use Rattle.ec_select_order.specs.Laws.{RelationsHaveWords}
use Rattle.ec_select_pointers.specs.Accesses.{point_code}
use Rattle.ec_select_places.specs.Steps.{z_pair, index_code, scale_code, advance_code, compared_bytes, is_in_z}
use Rattle.ec_select_places.specs.Steps.{to_z_code}
use Rattle.ec_select_places.specs.Conversions.{embed_code}
use Rattle.ec_select_places.specs.Distances.{halve_z, halvings_code, distance_code}
use Rattle.ec_select_places.specs.Form.{DistancesAreShort}
use Rattle.ec_select_places.proofs.Multiples.{of_each}
use Rattle.ec_select_places.specs.Form.{IsShort, StepsAreShort, ConversionsAreShort, OrdersHaveWords}

-- ---- lists of items

joined : (a b : List AsmItem) (i j k m l n : ℕ) → IsShort a i k l → IsShort b j m n
    → IsShort (a ++ b) (i + j) (k + m) (l + n)
joined a b i j k m l n p q =
    let x = p.at_least in
    let y = q.at_least in
    let s = p.at_most in
    let t = q.at_most in
    let u = p.words_are in
    let w = q.words_are in
    record {
      straight = straight-append a b p.straight q.straight;
      at_least = omega (arith, steps-append a b, x, y);
      at_most = omega (arith, steps-append a b, s, t);
      words_are = omega (arith, sum_by-append item_words a b, u, w);
    }

by_test : (b : Bool) (a c : List AsmItem) (j k l : ℕ) → IsShort a j k l → IsShort c j k l
    → IsShort (if b then a else c) j k l
by_test true a c j k l p q = p
by_test false a c j k l p q = q

pub within : (code : List AsmItem) (i j k m l n : ℕ) → i ≤ j → k ≤ m → l ≤ n → IsShort code j k l → IsShort code i m n
within code i j k m l n a b c h =
    let x = h.at_least in
    let y = h.at_most in
    let z = h.words_are in
    record { straight = h.straight; at_least = omega (arith, x, a); at_most = omega (arith, y, b); words_are = omega (arith, z, c) }

-- ---- pieces

copy_one : (p : Location) → IsShort (copy_code p z_pair 1) 1 2 4
copy_one (InRegisters r) = record { straight = refl; at_least = omega arith; at_most = omega arith; words_are = omega arith }
copy_one (InMemory o k) = record { straight = refl; at_least = omega arith; at_most = omega arith; words_are = omega arith }

copy_short : (p q : Location) → IsShort (copy_code p q 2) 2 4 8
copy_short (InRegisters r) (InRegisters s) =
    record { straight = refl; at_least = omega arith; at_most = omega arith; words_are = omega arith }
copy_short (InRegisters r) (InMemory o k) =
    record { straight = refl; at_least = omega arith; at_most = omega arith; words_are = omega arith }
copy_short (InMemory o k) (InRegisters s) =
    record { straight = refl; at_least = omega arith; at_most = omega arith; words_are = omega arith }
copy_short (InMemory o k) (InMemory u j) =
    record { straight = refl; at_least = omega arith; at_most = omega arith; words_are = omega arith }

point_short : (p : Location) → IsShort (point_code p) 1 4 8
point_short (InMemory o k) = within _ 1 2 4 4 8 8 (omega arith) (omega arith) (omega arith) (copy_short (InMemory o k) z_pair)
point_short (InRegisters r) =
    by_test (r % 2 == 0) (Plain (Movw 30 r) ∷ []) (copy_code (InRegisters r) z_pair 2) 1 4 8
    (record { straight = refl; at_least = omega arith; at_most = omega arith; words_are = omega arith })
    (within _ 1 2 4 4 8 8 (omega arith) (omega arith) (omega arith) (copy_short (InRegisters r) z_pair))

extend_short : (signed : Bool) → IsShort (extend_code signed z_pair 1 2) 0 5 8
extend_short true = record { straight = refl; at_least = omega arith; at_most = omega arith; words_are = omega arith }
extend_short false = record { straight = refl; at_least = omega arith; at_most = omega arith; words_are = omega arith }

none_short : (most words : ℕ) → IsShort [] 0 most words
none_short most words = record { straight = refl; at_least = omega arith; at_most = omega arith; words_are = omega arith }

to_z_one : (p : Location) → IsShort (to_z_code p 1) 0 2 4
to_z_one p =
    by_test (is_in_z p) [] (copy_code p z_pair 1) 0 2 4 (none_short 2 4)
    (within _ 0 1 2 2 4 4 (omega arith) (omega arith) (omega arith) (copy_one p))

to_z_short : (p : Location) → IsShort (to_z_code p 2) 0 4 8
to_z_short p =
    by_test (is_in_z p) [] (point_code p) 0 4 8 (none_short 4 8)
    (within _ 0 1 4 4 8 8 (omega arith) (omega arith) (omega arith) (point_short p))

index_short : (p : Location) (signed : Bool) (n : ℕ) → IsShort (index_code p signed n) 0 9 14
index_short p signed n =
    by_test (n == 1) (to_z_code p 1 ++ extend_code signed z_pair 1 2) (to_z_code p 2) 0 9 14
    (within _ 0 0 7 9 12 14 (omega arith) (omega arith) (omega arith)
    (joined (to_z_code p 1) (extend_code signed z_pair 1 2) 0 0 2 5 4 8 (to_z_one p) (extend_short signed)))
    (within _ 0 0 4 9 8 14 (omega arith) (omega arith) (omega arith) (to_z_short p))

scale_short : (size : ℕ) → IsShort (scale_code size) 0 10 10
scale_short size =
    of_each (λ (code : List AsmItem). IsShort code 0 10 10) size
    (record { straight = refl; at_least = omega arith; at_most = omega arith; words_are = omega arith })
    (record { straight = refl; at_least = omega arith; at_most = omega arith; words_are = omega arith })
    (record { straight = refl; at_least = omega arith; at_most = omega arith; words_are = omega arith })
    (record { straight = refl; at_least = omega arith; at_most = omega arith; words_are = omega arith })
    (λ l. record { straight = refl; at_least = omega arith; at_most = omega arith; words_are = omega arith })
    (record { straight = refl; at_least = omega arith; at_most = omega arith; words_are = omega arith })

advance_short : (minus : Bool) (q : Location) → IsShort (advance_code minus q) 2 8 14
advance_short true (InRegisters r) =
    record { straight = refl; at_least = omega arith; at_most = omega arith; words_are = omega arith }
advance_short true (InMemory o k) =
    record { straight = refl; at_least = omega arith; at_most = omega arith; words_are = omega arith }
advance_short false (InRegisters r) =
    record { straight = refl; at_least = omega arith; at_most = omega arith; words_are = omega arith }
advance_short false (InMemory o k) =
    record { straight = refl; at_least = omega arith; at_most = omega arith; words_are = omega arith }

embed_short : (to_data : Bool) (q : Location) → IsShort (embed_code to_data q) 1 10 10
embed_short true (InRegisters r) = record { straight = refl; at_least = omega arith; at_most = omega arith; words_are = omega arith }
embed_short true (InMemory o k) = record { straight = refl; at_least = omega arith; at_most = omega arith; words_are = omega arith }
embed_short false (InRegisters r) = record { straight = refl; at_least = omega arith; at_most = omega arith; words_are = omega arith }
embed_short false (InMemory o k) = record { straight = refl; at_least = omega arith; at_most = omega arith; words_are = omega arith }

difference_short : (c : Location) → IsShort (operate_code Difference c z_pair 2) 2 4 6
difference_short (InRegisters r) = record { straight = refl; at_least = omega arith; at_most = omega arith; words_are = omega arith }
difference_short (InMemory o k) = record { straight = refl; at_least = omega arith; at_most = omega arith; words_are = omega arith }

halvings_short : (n : ℕ) → IsShort (halvings_code n) (2 * n) (2 * n) (2 * n)
halvings_short zero = record { straight = refl; at_least = omega arith; at_most = omega arith; words_are = omega arith }
halvings_short (suc n) =
    let one : IsShort halve_z 2 2 2 =
    record { straight = refl; at_least = omega arith; at_most = omega arith; words_are = omega arith } in
    let j = joined (halvings_code n) halve_z (2 * n) 2 (2 * n) 2 (2 * n) 2 (halvings_short n) one in
    within (halvings_code (suc n)) (2 * suc n) (2 * n + 2) (2 * n + 2) (2 * suc n) (2 * n + 2) (2 * suc n) (omega arith)
    (omega arith) (omega arith) j

-- ---- laws

pub steps_are_short : StepsAreShort
steps_are_short p q signed minus n size =
    (joined (index_code p signed n) (scale_code size) 0 0 9 10 14 10 (index_short p signed n) (scale_short size), advance_short minus q)

pub conversions_are_short : ConversionsAreShort
conversions_are_short to_data p q = (embed_short to_data q, copy_short p q)

pub orders_have_words : RelationsHaveWords → OrdersHaveWords
orders_have_words words r left right n = words r false left right (compared_bytes r n)

pub distances_are_short : DistancesAreShort
distances_are_short p c q twos inverse =
    let t = joined (scale_code inverse) (copy_code z_pair q 2) 0 2 10 4 10 8 (scale_short inverse) (copy_short z_pair q) in
    let u = joined (halvings_code twos) _ (2 * twos) 2 (2 * twos) 14 (2 * twos) 18 (halvings_short twos) t in
    let x = joined (operate_code Difference c z_pair 2) _ 2 (2 * twos + 2) 4 (2 * twos + 14) 6 (2 * twos + 18) (difference_short c) u in
    let y = joined (copy_code p z_pair 2) _ 2 (2 + (2 * twos + 2)) 4 (4 + (2 * twos + 14)) 8 (6 + (2 * twos + 18))
    (copy_short p z_pair) x in
    within (distance_code p c q twos inverse) (6 + 2 * twos) (2 + (2 + (2 * twos + 2))) (4 + (4 + (2 * twos + 14)))
    (22 + 2 * twos) (8 + (6 + (2 * twos + 18))) (32 + 2 * twos) (omega arith) (omega arith) (omega arith) y
