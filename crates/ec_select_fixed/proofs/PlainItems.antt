-- The items of the code are valid, refer to no label, and are the place of none.
use Rattle.std.proofs.Common.{◌≡◌, ◌⊎◌, ⊎_elim, ℕ, ◌+◌, ◌-◌, ◌*◌, ◌/◌, ◌<◌, ◌≤◌, ◌==◌, Bool, true, false, List, [], ◌∷◌, ◌++◌, refl, sym}
use Rattle.std.proofs.Common.{ap, ◌∙◌, subst, arith}
use Rattle.std.specs.Prelude.{if◌then◌else◌, nat_lt, count_by, cond}
use Rattle.std.specs.List.{list_all}
use Rattle.std.proofs.lemmas.Bool.{lt-ltb, eqb-true}
use Rattle.std.proofs.lemmas.List.Folds.{sum_by-zero}
use Rattle.std.proofs.lemmas.List.Sums.{sum_by-append}
use Rattle.ec_fx.specs.declared.formats.Format.{Format}
use Rattle.ec_fx.specs.declared.numbers.Mode.{Mode}
use Rattle.ec_fx.specs.Formats.{format_of}
use Rattle.ec_fx.proofs.FormatLemmas.{IsFormat-format_of}
use Rattle.ec_asm.specs.declared.items.AsmItem.{AsmItem}
use Rattle.ec_asm.specs.declared.pieces.Location.{Location}
use Rattle.ec_asm.specs.declared.pieces.Location.TheVariants.{InRegisters, InMemory}
use Rattle.ec_asm.specs.Pieces.{copy_byte, copy_code}
use Rattle.ec_asm.specs.Valid.{Sizes, is_valid_item, used_label, is_label, is_placed}
use Rattle.ec_core.specs.declared.expressions.BinOp.{BinOp}
use Rattle.ec_core.specs.declared.expressions.BinOp.TheVariants.{Add, Sub, Mul, Div, Rem, And, Or, Xor, Lt, Gt, Le, Ge, Eq, Ne, Shl, Shr}
use Rattle.ec_core.specs.declared.expressions.UnOp.TheVariants.{Minus, Invert}
use Rattle.ec_core.specs.Layout.{scalar_size}
use Rattle.ec_core.specs.Operators.{same_type}
use Rattle.ec_core.specs.Plain.{PlainType, void, integer, fixed, pointer, array, struct}
use Rattle.ec_core.specs.Typing.{int}
use Rattle.ec_core.proofs.Sameness.{type_true}
use Rattle.ec_select_bytes.specs.Values.{extend_code}
use Rattle.ec_select_order.specs.declared.relations.Relation.{Relation}
use Rattle.ec_select_order.specs.declared.relations.Relation.TheVariants.{Less, NotLess, Equal, NotEqual}
use Rattle.ec_fxcode.specs.ClampLaws.{HasPlaces}
use Rattle.ec_fxcode.proofs.ValidItems.{both, chain_passes, copy_valid}
use Rattle.ec_fxcode_shifts.specs.Shifts.{shift_code}
use Rattle.ec_fxcode_shifts.specs.ShiftLaws.{ShiftsAreValid, ShiftsUseNoLabel, ShiftsPlaceNoLabel}
use Rattle.ec_fxcode_quotients.specs.QuotientLaws.{IsOperandFormat, QuotientsAreValid, QuotientsUseNoLabel, QuotientsPlaceNoLabel}
use Rattle.ec_fxcode_sums.specs.Orders.{order_code}
use Rattle.ec_fxcode_sums.specs.OrderLaws.{OrdersAreValid, OrdersUseNoLabel, OrdersPlaceNoLabel}
use Rattle.ec_fxcode_sums.specs.Sums.{sum_code}
use Rattle.ec_fxcode_sums.specs.SumLaws.{SumsAreValid, SumsUseNoLabel, SumsPlaceNoLabel, NegationsAreValid, NegationsUseNoLabel}
use Rattle.ec_fxcode_sums.specs.SumLaws.{NegationsPlaceNoLabel}
use Rattle.ec_fxcode_conversions.specs.ConversionLaws.{ConversionsAreValid, ConversionsUseNoLabel, ConversionsPlaceNoLabel, WholesAreValid}
use Rattle.ec_fxcode_conversions.specs.ConversionLaws.{WholesUseNoLabel, WholesPlaceNoLabel}
use Rattle.ec_fxcode_conversions.specs.ProductLaws.{ProductsAreValid, ProductsUseNoLabel, ProductsPlaceNoLabel}
use Rattle.ec_select_fixed.specs.declared.families.FixedFamily.TheVariants.{Added, Shifted}
use Rattle.ec_select_fixed.specs.Types.{format_in, IsFixedType, FormatsSuit, AreFixedOperands}
use Rattle.ec_select_fixed.specs.Codes.{truth_code, compared_code, converted_code, fixed_binary_code}
use Rattle.ec_select_fixed.specs.FixedLaws.{HasPlainItems, FixedBinariesArePlain, FixedUnariesArePlain, FixedConversionsArePlain}
use Rattle.ec_select_fixed.proofs.Formats.{kind_bits, kind_bytes, operand_format, operand_bits, operand_bytes, fixed_bytes}
use Rattle.ec_select_fixed.proofs.Operators.{fixed_bits}
use Rattle.ec_select_fixed.proofs.Suits.{AreSuited, operands_suit}
use Rattle.ec_select_fixed.proofs.Runs.{one_of_bits}
use Rattle.ec_select_fixed.proofs.Conversions.{AreConverted, converted_types, integer_width, fixed_format}

-- ---- pieces together

pub joined : (sizes : Sizes) (a b : List AsmItem) → HasPlainItems sizes a → HasPlainItems sizes b → HasPlainItems sizes (a ++ b)
joined sizes a b h k = record {
  valid = both (is_valid_item sizes) a b h.valid k.valid;
  uses = λ items. both (λ item. is_placed items (used_label item)) a b (h.uses items) (k.uses items);
  places = λ l.
      (let x = h.places l in
      let y = k.places l in
      sum_by-append (λ (item : AsmItem). cond (is_label l item) 1 0) a b ∙ rw (x, y) refl);
}

-- ---- copies

copy_uses : (items : List AsmItem) (p q : Location) (i : ℕ) → list_all (λ item. is_placed items (used_label item)) (copy_byte p q i) ≡ true
copy_uses items (InRegisters r) (InRegisters s) i = refl
copy_uses items (InRegisters r) (InMemory o k) i = refl
copy_uses items (InMemory o k) (InRegisters s) i = refl
copy_uses items (InMemory o k) (InMemory u j) i = refl

copy_places : (l : ℕ) (p q : Location) (i : ℕ) → list_all (λ (item : AsmItem). cond (is_label l item) 1 0 == 0) (copy_byte p q i) ≡ true
copy_places l (InRegisters r) (InRegisters s) i = refl
copy_places l (InRegisters r) (InMemory o k) i = refl
copy_places l (InMemory o k) (InRegisters s) i = refl
copy_places l (InMemory o k) (InMemory u j) i = refl

pub copy_plain : (sizes : Sizes) (p q : Location) (n : ℕ) → HasPlaces sizes p n → HasPlaces sizes q n
    → HasPlainItems sizes (copy_code p q n)
copy_plain sizes p q n hp hq = record {
  valid = chain_passes (is_valid_item sizes) (copy_byte p q) n (λ i l. copy_valid sizes p q n n i hp hq l l);
  uses = λ items. chain_passes (λ item. is_placed items (used_label item)) (copy_byte p q) n (λ i l. copy_uses items p q i);
  places = λ l.
      (let number : AsmItem → ℕ = λ item. cond (is_label l item) 1 0 in
      let none = chain_passes (λ (item : AsmItem). number item == 0) (copy_byte p q) n (λ i m. copy_places l p q i) in
      eqb-true (count_by (is_label l) (copy_code p q n)) 0 (sum_by-zero number (copy_code p q n) ∙ none));
}

-- ---- truth values

extension_plain : (sizes : Sizes) (q : Location) → HasPlaces sizes q 2 → HasPlainItems sizes (extend_code false q 1 2)
extension_plain sizes (InRegisters r) h = record {
  valid = (let x : r + 1 < 32 = omega arith in rw (lt-ltb (r + 1) 32 x) refl);
  uses = λ items. refl;
  places = λ l. refl;
}
extension_plain sizes (InMemory o k) h = record {
  valid = (let x = h 1 (omega arith) in rw x refl);
  uses = λ items. refl;
  places = λ l. refl;
}

fewer_places : (sizes : Sizes) (q : Location) → HasPlaces sizes q 2 → HasPlaces sizes q 1
fewer_places sizes (InRegisters r) h = omega arith
fewer_places sizes (InMemory o k) h = λ i l. h i (omega arith)

registers_there : (sizes : Sizes) → HasPlaces sizes (InRegisters 30) 1
registers_there sizes = omega arith

pub truth_plain : (sizes : Sizes) (q : Location) → HasPlaces sizes q 2 → HasPlainItems sizes (truth_code q)
truth_plain sizes q h =
    joined sizes (copy_code (InRegisters 30) q 1) (extend_code false q 1 2)
    (copy_plain sizes (InRegisters 30) q 1 (registers_there sizes) (fewer_places sizes q h)) (extension_plain sizes q h)

-- ---- binary operators

one_place : (sizes : Sizes) (q : Location) (n : ℕ) → n ≡ 1 → HasPlaces sizes q n → HasPlaces sizes q 1
one_place sizes q n e h = subst (HasPlaces sizes q) e h

-- what each family's code is
pub record FamiliesArePlain : Type 0 where
  pub sums : SumsAreValid × SumsUseNoLabel × SumsPlaceNoLabel
  pub products : ProductsAreValid × ProductsUseNoLabel × ProductsPlaceNoLabel
  pub quotients : QuotientsAreValid × QuotientsUseNoLabel × QuotientsPlaceNoLabel
  pub shifts : ShiftsAreValid × ShiftsUseNoLabel × ShiftsPlaceNoLabel
  pub orders : OrdersAreValid × OrdersUseNoLabel × OrdersPlaceNoLabel

module _ (law : FamiliesArePlain) where
  order_plain : (sizes : Sizes) (r : Relation) (f g : Format) (p c q w : Location) (a b : ℕ) → IsOperandFormat f → f.bits ≡ 8 * a
      → IsOperandFormat g
      → g.bits ≡ 8 * b → HasPlaces sizes p a → HasPlaces sizes c b → HasPlaces sizes q 2 → HasPlaces sizes w 40
      → HasPlainItems sizes (compared_code r f g p c q w a b)
  order_plain sizes r f g p c q w a b hf fb hg gb hp hc hq hw =
      joined sizes (order_code r f g p c w a b) (truth_code q)
      (record {
        valid = law.orders.0 sizes r f g p c w a b hf fb hg gb hp hc hw;
        uses = λ items. law.orders.1 items r f g p c w a b;
        places = λ l. law.orders.2 r f g p c w a b l;
      })
      (truth_plain sizes q hq)

  abbrev PlainFor : (op : BinOp) (ty aty bty : PlainType) → Type 0
  PlainFor op ty aty bty =
      (sizes : Sizes) (mode : Mode) (p c q w : Location) → AreSuited op ty aty bty → HasPlaces sizes p (scalar_size aty)
      → HasPlaces sizes c (scalar_size bty) → HasPlaces sizes q (scalar_size ty) → HasPlaces sizes w 40
      → HasPlainItems sizes (fixed_binary_code op ty aty bty mode p c q w)

  sum_plain : (minus : Bool) (op : BinOp) (ty aty bty : PlainType) → AreSuited op ty aty bty → IsFixedType ty
      → FormatsSuit (Added minus) (format_in aty) (format_in bty) (format_in ty) → (sizes : Sizes) (mode : Mode) (p c q w : Location)
      → HasPlaces sizes p (scalar_size aty) → HasPlaces sizes c (scalar_size bty) → HasPlaces sizes q (scalar_size ty)
      → HasPlaces sizes w 40
      → HasPlainItems sizes
      (sum_code minus (format_in aty) (format_in bty) (format_in ty) mode p c q w (scalar_size aty) (scalar_size bty) (scalar_size ty))
  sum_plain minus op ty aty bty u f h sizes mode p c q w hp hc hq hw =
      let a = scalar_size aty in
      let b = scalar_size bty in
      let k = scalar_size ty in
      let some = (fixed_bytes ty f).0 in
      record {
        valid = law.sums.0 sizes minus (format_in aty) (format_in bty) (format_in ty) mode p c q w a b k h.0 (operand_bits aty u.first) h.1
            (operand_bits bty u.second) h.2 (fixed_bits ty f) hp hc hq hw;
        uses = λ items. law.sums.1 items minus (format_in aty) (format_in bty) (format_in ty) mode p c q w a b k some;
        places = λ l. law.sums.2 minus (format_in aty) (format_in bty) (format_in ty) mode p c q w a b k l some;
      }

  shift_plain : (left : Bool) (op : BinOp) (ty aty bty : PlainType) → AreSuited op ty aty bty → ty ≡ aty
      → FormatsSuit (Shifted left) (format_in aty) (format_in bty) (format_in ty) → (sizes : Sizes) (mode : Mode) (p c q w : Location)
      → HasPlaces sizes p (scalar_size aty) → HasPlaces sizes c (scalar_size bty) → HasPlaces sizes q (scalar_size ty)
      → HasPlaces sizes w 40
      → HasPlainItems sizes (shift_code (format_in aty) left mode p c q w (scalar_size aty))
  shift_plain left op ty aty bty u same h sizes mode p c q w hp hc hq hw =
      let a = scalar_size aty in
      let b = scalar_size bty in
      let result = subst (λ (n : ℕ). HasPlaces sizes q n) (ap scalar_size same) hq in
      record {
        valid = law.shifts.0 sizes (format_in aty) left mode p c q w a b h.0 (operand_bits aty u.first)
            (operand_bytes bty u.second).0 hp hc result hw;
        uses = λ items. law.shifts.1 items (format_in aty) left mode p c q w a h.0 (operand_bits aty u.first);
        places = λ l. law.shifts.2 (format_in aty) left mode p c q w a l h.0 (operand_bits aty u.first);
      }

  straight : (r : Relation) (op : BinOp) (ty aty bty : PlainType) (sizes : Sizes) (p c q w : Location) → AreSuited op ty aty bty → ty ≡ int
      → HasPlaces sizes p (scalar_size aty) → HasPlaces sizes c (scalar_size bty) → HasPlaces sizes q (scalar_size ty)
      → HasPlaces sizes w 40
      → HasPlainItems sizes (compared_code r (format_in aty) (format_in bty) p c q w (scalar_size aty) (scalar_size bty))
      × HasPlainItems sizes (compared_code r (format_in bty) (format_in aty) c p q w (scalar_size bty) (scalar_size aty))
  straight r op ty aty bty sizes p c q w u two hp hc hq hw =
      let a = scalar_size aty in
      let b = scalar_size bty in
      let result = subst (λ (n : ℕ). HasPlaces sizes q n) (ap scalar_size two) hq in
      let fa = operand_format aty u.first in
      let fb = operand_format bty u.second in
      let ea = operand_bits aty u.first in
      let eb = operand_bits bty u.second in (
        order_plain sizes r (format_in aty) (format_in bty) p c q w a b fa ea fb eb hp hc result hw,
        order_plain sizes r (format_in bty) (format_in aty) c p q w b a fb eb fa ea hc hp result hw,
      )

  plain_for : (op : BinOp) (ty aty bty : PlainType) → PlainFor op ty aty bty
  plain_for Add ty aty bty =
      λ sizes mode p c q w u hp hc hq hw. sum_plain false Add ty aty bty u u.result u.formats sizes mode p c q w hp hc hq hw
  plain_for Sub ty aty bty =
      λ sizes mode p c q w u hp hc hq hw. sum_plain true Sub ty aty bty u u.result u.formats sizes mode p c q w hp hc hq hw
  plain_for Mul ty aty bty = λ sizes mode p c q w u hp hc hq hw.
      (let fs = u.formats.0 in
      let ea = one_of_bits (format_in aty).bits (scalar_size aty) fs.left_bits (operand_bits aty u.first) in
      let eb = one_of_bits (format_in bty).bits (scalar_size bty) fs.right_bits (operand_bits bty u.second) in
      let ek = one_of_bits (format_in ty).bits (scalar_size ty) u.formats.2 (fixed_bits ty u.result) in
      record {
        valid =
            law.products.0 sizes (format_in aty) (format_in bty) (format_in ty) mode p c q w fs (one_place sizes p (scalar_size aty) ea hp)
            (one_place sizes c (scalar_size bty) eb hc) (one_place sizes q (scalar_size ty) ek hq) hw;
        uses = λ items. law.products.1 items (format_in aty) (format_in bty) (format_in ty) mode p c q w fs;
        places = λ l. law.products.2 (format_in aty) (format_in bty) (format_in ty) mode p c q w l fs;
      })
  plain_for Div ty aty bty = λ sizes mode p c q w u hp hc hq hw.
      (let a = scalar_size aty in
      let b = scalar_size bty in
      let k = scalar_size ty in
      let some_a = (operand_bytes aty u.first).0 in
      let some_b = (operand_bytes bty u.second).0 in
      let some_k = (fixed_bytes ty u.result).0 in
      record {
        valid = law.quotients.0 sizes (format_in aty) (format_in bty) (format_in ty) mode p c q w a b k u.formats.0
            (operand_bits aty u.first) u.formats.1
            (operand_bits bty u.second) u.formats.2 (fixed_bits ty u.result) hp hc hq hw;
        uses = λ items. law.quotients.1 items (format_in aty) (format_in bty) (format_in ty) mode p c q w a b k some_a some_b some_k;
        places = λ l. law.quotients.2 (format_in aty) (format_in bty) (format_in ty) mode p c q w a b k l some_a some_b some_k;
      })
  plain_for Rem ty aty bty = λ sizes mode p c q w u hp hc hq hw. absurd u.formats
  plain_for Shl ty aty bty =
      λ sizes mode p c q w u hp hc hq hw. shift_plain true Shl ty aty bty u u.shift u.formats sizes mode p c q w hp hc hq hw
  plain_for Shr ty aty bty =
      λ sizes mode p c q w u hp hc hq hw. shift_plain false Shr ty aty bty u u.shift u.formats sizes mode p c q w hp hc hq hw
  plain_for And ty aty bty = λ sizes mode p c q w u hp hc hq hw. absurd u.formats
  plain_for Or ty aty bty = λ sizes mode p c q w u hp hc hq hw. absurd u.formats
  plain_for Xor ty aty bty = λ sizes mode p c q w u hp hc hq hw. absurd u.formats
  plain_for Lt ty aty bty = λ sizes mode p c q w u hp hc hq hw. (straight Less Lt ty aty bty sizes p c q w u u.result hp hc hq hw).0
  plain_for Gt ty aty bty = λ sizes mode p c q w u hp hc hq hw. (straight Less Gt ty aty bty sizes p c q w u u.result hp hc hq hw).1
  plain_for Le ty aty bty = λ sizes mode p c q w u hp hc hq hw. (straight NotLess Le ty aty bty sizes p c q w u u.result hp hc hq hw).1
  plain_for Ge ty aty bty = λ sizes mode p c q w u hp hc hq hw. (straight NotLess Ge ty aty bty sizes p c q w u u.result hp hc hq hw).0
  plain_for Eq ty aty bty = λ sizes mode p c q w u hp hc hq hw. (straight Equal Eq ty aty bty sizes p c q w u u.result hp hc hq hw).0
  plain_for Ne ty aty bty = λ sizes mode p c q w u hp hc hq hw. (straight NotEqual Ne ty aty bty sizes p c q w u u.result hp hc hq hw).0

  pub binaries_plain : FixedBinariesArePlain
  binaries_plain sizes op ty aty bty mode p c q w h hp hc hq hw =
      plain_for op ty aty bty sizes mode p c q w (operands_suit op ty aty bty h) hp hc hq hw

-- ---- negations

module _ (valid : NegationsAreValid) (uses : NegationsUseNoLabel) (places : NegationsPlaceNoLabel) where
  pub unaries_plain : FixedUnariesArePlain
  unaries_plain sizes op void mode p q w h hp hq hw = absurd h.fixed
  unaries_plain sizes op (integer signed bytes) mode p q w h hp hq hw = absurd h.fixed
  unaries_plain sizes Minus (fixed kind saturates) mode p q w h hp hq hw =
      let f = format_of kind in
      let k = f.bits / 8 in
      let some = (kind_bytes kind).0 in
      record {
        valid = valid sizes f mode p q w k (IsFormat-format_of kind) (kind_bits kind) hp hq hw;
        uses = λ items. uses items f mode p q w k some;
        places = λ l. places f mode p q w k l some;
      }
  unaries_plain sizes Invert (fixed kind saturates) mode p q w h hp hq hw = absurd h.types.0
  unaries_plain sizes op (pointer space const to) mode p q w h hp hq hw = absurd h.fixed
  unaries_plain sizes op (array of len) mode p q w h hp hq hw = absurd h.fixed
  unaries_plain sizes op (struct index) mode p q w h hp hq hw = absurd h.fixed

-- ---- conversions

pub record ConversionsArePlain : Type 0 where
  pub conversions : ConversionsAreValid × ConversionsUseNoLabel × ConversionsPlaceNoLabel
  pub wholes : WholesAreValid × WholesUseNoLabel × WholesPlaceNoLabel

module _ (law : ConversionsArePlain) where
  other_plain : (sizes : Sizes) (ty aty : PlainType) (mode : Mode) (p q w : Location) → AreConverted ty aty
      → IsFixedType ty ⊎ IsFixedType aty
      → HasPlaces sizes p (scalar_size aty) → HasPlaces sizes q (scalar_size ty) → HasPlaces sizes w 40
      → HasPlainItems sizes (converted_code ty aty mode p q w)
  other_plain sizes void aty mode p q w h f hp hq hw = absurd h.result
  other_plain sizes (integer signed bytes) aty mode p q w h f hp hq hw =
      let operand = ⊎_elim (λ (z : ⊥). absurd z) (λ (z : IsFixedType aty). z) f in
      let is = fixed_format aty operand in
      let width = integer_width bytes h.result in
      let some = operand_bits aty h.operand in
      record {
        valid = law.wholes.0 sizes (format_in aty) p q w (scalar_size aty) bytes is some width hp hq hw;
        uses = λ items. law.wholes.1 items (format_in aty) p q w (scalar_size aty) bytes is some width;
        places = λ l. law.wholes.2 (format_in aty) p q w (scalar_size aty) bytes l is some width;
      }
  other_plain sizes (fixed kind saturates) aty mode p q w h f hp hq hw =
      let is = operand_format aty h.operand in
      let some = operand_bits aty h.operand in
      let k = (format_of kind).bits / 8 in
      record {
        valid = law.conversions.0 sizes (format_in aty) (format_of kind) mode p q w (scalar_size aty) k is some (IsFormat-format_of kind)
            (kind_bits kind) hp hq hw;
        uses = λ items. law.conversions.1 items (format_in aty) (format_of kind) mode p q w (scalar_size aty) k is some
            (IsFormat-format_of kind) (kind_bits kind);
        places = λ l. law.conversions.2 (format_in aty) (format_of kind) mode p q w (scalar_size aty) k l is some (IsFormat-format_of kind)
            (kind_bits kind);
      }
  other_plain sizes (pointer space const to) aty mode p q w h f hp hq hw = absurd h.result
  other_plain sizes (array of len) aty mode p q w h f hp hq hw = absurd h.result
  other_plain sizes (struct index) aty mode p q w h f hp hq hw = absurd h.result

  pub conversions_plain : FixedConversionsArePlain
  conversions_plain sizes ty aty mode p q w h hp hq hw = by_sameness (same_type ty aty) refl
    where
      by_sameness : (b : Bool) → same_type ty aty ≡ b
          → HasPlainItems sizes (if b then copy_code p q (scalar_size ty) else converted_code ty aty mode p q w)
      by_sameness true e =
          copy_plain sizes p q (scalar_size ty) (subst (λ (n : ℕ). HasPlaces sizes p n) (ap scalar_size (sym (type_true ty aty e))) hp) hq
      by_sameness false e = other_plain sizes ty aty mode p q w (converted_types ty aty h) h.fixed hp hq hw
