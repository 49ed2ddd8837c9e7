-- The form of the code for pointers of three bytes with whole addresses.
use Rattle.std.proofs.Common.{◌≡◌, ◌+◌, Bool, true, false, refl, arith}
use Rattle.std.specs.List.{list_all}
use Rattle.std.proofs.lemmas.Bool.{lt-ltb}
use Rattle.ec_asm.specs.declared.pieces.Location.{Location}
use Rattle.ec_asm.specs.declared.pieces.Location.TheVariants.{InRegisters, InMemory}
use Rattle.ec_asm.specs.Valid.{is_valid_item}
use Rattle.ec_select_order.specs.Laws.{RelationsHaveWords}
use Rattle.ec_select_pointers.proofs.Valid.{is_plain}
use Rattle.ec_select_places.specs.Far.{advance_far_code, order_far_code}
use Rattle.ec_select_places.specs.FarForm.{FarStepsAreShort, FarOrdersHaveWords, FarStepsAreValid, FarOrdersAreValid}
use Rattle.ec_select_places.specs.FarForm.{FarPlacesHaveNoLabel}
use Rattle.ec_select_places.proofs.Valid.{order_passes, compare_valid, truth_valid, has_no_label, compare_plain, truth_plain}

pub far_steps_are_short : FarStepsAreShort
far_steps_are_short true (InRegisters r) =
    record { straight = refl; at_least = omega arith; at_most = omega arith; words_are = omega arith }
far_steps_are_short true (InMemory o k) =
    record { straight = refl; at_least = omega arith; at_most = omega arith; words_are = omega arith }
far_steps_are_short false (InRegisters r) =
    record { straight = refl; at_least = omega arith; at_most = omega arith; words_are = omega arith }
far_steps_are_short false (InMemory o k) =
    record { straight = refl; at_least = omega arith; at_most = omega arith; words_are = omega arith }

pub far_orders_have_words : RelationsHaveWords → FarOrdersHaveWords
far_orders_have_words words r left right n = words r false left right n

pub far_steps_are_valid : FarStepsAreValid
far_steps_are_valid sizes true (InRegisters r) h =
    rw (lt-ltb (r + 0) 32 (omega arith), lt-ltb (r + 1) 32 (omega arith), lt-ltb (r + 2) 32 (omega arith)) refl
far_steps_are_valid sizes false (InRegisters r) h =
    rw (lt-ltb (r + 0) 32 (omega arith), lt-ltb (r + 1) 32 (omega arith), lt-ltb (r + 2) 32 (omega arith)) refl
far_steps_are_valid sizes true (InMemory o k) h = rw (h 0 (omega arith), h 1 (omega arith), h 2 (omega arith)) refl
far_steps_are_valid sizes false (InMemory o k) h = rw (h 0 (omega arith), h 1 (omega arith), h 2 (omega arith)) refl

pub far_orders_are_valid : FarOrdersAreValid
far_orders_are_valid sizes r left right n hl hr =
    order_passes (is_valid_item sizes) r left right n (λ i l. compare_valid sizes right left n i hr hl l) (truth_valid sizes r)

advance_plain : (minus : Bool) (q : Location) → list_all is_plain (advance_far_code minus q) ≡ true
advance_plain true (InRegisters r) = refl
advance_plain false (InRegisters r) = refl
advance_plain true (InMemory o k) = refl
advance_plain false (InMemory o k) = refl

pub far_places_have_no_label : FarPlacesHaveNoLabel
far_places_have_no_label minus r p q n = (
  has_no_label (advance_far_code minus q) (advance_plain minus q),
  has_no_label (order_far_code r p q n) (order_passes is_plain r p q n (λ i l. compare_plain q p i) (truth_plain r)),
)
