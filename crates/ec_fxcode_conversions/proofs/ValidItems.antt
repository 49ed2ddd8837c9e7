-- The items of the code are valid, and have no labels.
use Rattle.std.proofs.Common.{◌≡◌, ℕ, zero, suc, ◌+◌, ◌-◌, ◌<◌, ◌≤◌, ◌==◌, inl, Bool, true, false, ◌||◌, List, [], ◌∷◌, ◌++◌, refl, ◌∙◌}
use Rattle.std.proofs.Common.{subst, arith}
use Rattle.std.specs.Prelude.{nat_lt, count_by, cond}
use Rattle.std.specs.List.{list_all}
use Rattle.std.proofs.lemmas.Bool.{lt-ltb, eqb-true}
use Rattle.std.proofs.lemmas.List.Folds.{sum_by-zero}
use Rattle.std.proofs.lemmas.List.Sums.{sum_by-append}
use Rattle.ec_isa.specs.declared.instructions.Instr.TheVariants.{Mul, Sbrc, Sub, Mov}
use Rattle.ec_asm.specs.declared.items.AsmItem.{AsmItem}
use Rattle.ec_asm.specs.declared.items.AsmItem.TheVariants.{Plain}
use Rattle.ec_asm.specs.declared.pieces.Location.{Location}
use Rattle.ec_asm.specs.declared.pieces.Location.TheVariants.{InRegisters, InMemory}
use Rattle.ec_asm.specs.Pieces.{copy_byte, copy_code}
use Rattle.ec_asm.specs.Valid.{Sizes, is_offset, is_valid_item, used_label, is_label, is_placed}
use Rattle.ec_select_products.specs.Products.{put_byte, less_code, factors_code, corrected_code, multiply_code as bytes_code, puts_code}
use Rattle.ec_select_products.specs.Products.{product_code}
use Rattle.ec_fxcode.specs.Clamps.{clamp_code}
use Rattle.ec_fxcode.specs.ClampLaws.{HasPlaces, ClampsAreValid, ClampsUseNoLabel, ClampsPlaceNoLabel}
use Rattle.ec_fxcode.proofs.ValidItems.{both, chain_passes, copy_valid, put_valid}
use Rattle.ec_fxcode_shifts.proofs.ValidItems.{part_places, PassesPlain}
use Rattle.ec_fxcode_quotients.specs.Quotients.{further}
use Rattle.ec_fxcode_scales.specs.Scales.{scale_code}
use Rattle.ec_fxcode_scales.specs.ScaleLaws.{IsScale, ScalesAreValid, ScalesUseNoLabel, ScalesPlaceNoLabel, CutsAreValid, CutsUseNoLabel}
use Rattle.ec_fxcode_scales.specs.ScaleLaws.{CutsPlaceNoLabel}
use Rattle.ec_fxcode_conversions.specs.Conversions.{scaled_bytes, cut_some, units_code, container, wrapping}
use Rattle.ec_fxcode_conversions.specs.Products.{exact_code}
use Rattle.ec_fxcode_conversions.specs.ConversionLaws.{ConversionsAreValid, WholesAreValid, ConversionsUseNoLabel, ConversionsPlaceNoLabel}
use Rattle.ec_fxcode_conversions.specs.ConversionLaws.{WholesUseNoLabel, WholesPlaceNoLabel}
use Rattle.ec_fxcode_conversions.specs.ProductLaws.{ProductsAreValid, ProductsUseNoLabel, ProductsPlaceNoLabel}
use Rattle.ec_fxcode_conversions.proofs.Converted.{roomy}
use Rattle.ec_fxcode_conversions.proofs.Numbers.{operand_step, format_step, scale_between}
use Rattle.ec_fxcode_conversions.proofs.Wholes.{whole_roomy}

-- ---- the product of two bytes

-- a test that each piece of the code passes
record Passes (t : AsmItem → Bool) (p c w : Location) : Type 0 where
  left : list_all t (copy_byte p (InRegisters 30) 0) ≡ true
  right : list_all t (copy_byte c (InRegisters 31) 0) ≡ true
  multiply : list_all t (Plain (Mul 30 31) ∷ []) ≡ true
  less : (r s : ℕ) → r < 32 → s < 32 → list_all t (Plain (Sbrc r 7) ∷ Plain (Sub 1 s) ∷ []) ≡ true
  put : (i : ℕ) → i < 2 → list_all t (put_byte w i) ≡ true

product_passes : (t : AsmItem → Bool) (left right : Bool) (p c w : Location) → Passes t p c w
    → list_all t (product_code left right p c w 2) ≡ true
product_passes t left right p c w h =
    both t (bytes_code left right p c) (puts_code w 2)
    (both t (factors_code p c) (corrected_code left right)
    (both t (copy_code p (InRegisters 30) 1) (copy_code c (InRegisters 31) 1 ++ Plain (Mul 30 31) ∷ []) h.left
    (both t (copy_code c (InRegisters 31) 1) (Plain (Mul 30 31) ∷ []) h.right h.multiply))
    (both t (less_code left 30 31) (less_code right 31 30) (less left 30 31 (omega arith) (omega arith))
    (less right 31 30 (omega arith) (omega arith))))
    (chain_passes t (put_byte w) 2 h.put)
  where
    less : (signed : Bool) (r s : ℕ) → r < 32 → s < 32 → list_all t (less_code signed r s) ≡ true
    less true r s l m = h.less r s l m
    less false r s l m = refl

-- ---- fields

further_places : (sizes : Sizes) (w : Location) (i n m : ℕ) → i + n ≤ m → HasPlaces sizes w m → HasPlaces sizes (further w i) n
further_places sizes (InRegisters r) i n m l h = omega (arith, h)
further_places sizes (InMemory o k) i n m l h =
    λ j x. subst (λ (y : ℕ). is_offset sizes o y ≡ true) (let e : k + (i + j) ≡ k + i + j = omega arith in e) (h (i + j) (omega arith))

product_put : (sizes : Sizes) (w : Location) (n i : ℕ) → nat_lt i 32 ≡ true → HasPlaces sizes w n → i < n
    → list_all (is_valid_item sizes) (put_byte w i) ≡ true
product_put sizes (InRegisters r) n i e h l = put_valid sizes i (InRegisters r) n i e h l
product_put sizes (InMemory o k) n i e h l = put_valid sizes i (InMemory o k) n i e h l

less_valid : (sizes : Sizes) (r s : ℕ) → r < 32 → s < 32
    → list_all (is_valid_item sizes) (Plain (Sbrc r 7) ∷ Plain (Sub 1 s) ∷ []) ≡ true
less_valid sizes r s l m = rw (lt-ltb r 32 l, lt-ltb s 32 m) refl

register_places : (sizes : Sizes) (r : ℕ) → r < 32 → HasPlaces sizes (InRegisters r) 1
register_places sizes r l = omega (arith, l)

product_valid : (sizes : Sizes) (left right : Bool) (p c w : Location) → HasPlaces sizes p 1 → HasPlaces sizes c 1
    → HasPlaces sizes w 40 → list_all (is_valid_item sizes) (product_code left right p c w 2) ≡ true
product_valid sizes left right p c w hp hc hw =
    product_passes (is_valid_item sizes) left right p c w
    (record {
      left = copy_valid sizes p (InRegisters 30) 1 1 0 hp (register_places sizes 30 (omega arith)) (omega arith) (omega arith);
      right = copy_valid sizes c (InRegisters 31) 1 1 0 hc (register_places sizes 31 (omega arith)) (omega arith) (omega arith);
      multiply = refl;
      less = less_valid sizes;
      put = λ i l. product_put sizes w 40 i (lt-ltb i 32 (omega (arith, l))) hw (omega (arith, l));
    })

module _ (scales : ScalesAreValid) (cuts : CutsAreValid) where
  cut_valid : (sizes : Sizes) (w : Location) (m down : ℕ) → 1 ≤ m → HasPlaces sizes w m
      → list_all (is_valid_item sizes) (cut_some w m down) ≡ true
  cut_valid sizes w m zero some h = refl
  cut_valid sizes w m (suc d) some h = cuts sizes w m (suc d) some h

  units_valid : (sizes : Sizes) (signed : Bool) (p w : Location) (a up down : ℕ) → IsScale up → 1 ≤ a → HasPlaces sizes p a
      → HasPlaces sizes w (scaled_bytes a up) → list_all (is_valid_item sizes) (units_code signed p w a up down) ≡ true
  units_valid sizes signed p w a up down is some hp hw =
      let m = scaled_bytes a up in
      both (is_valid_item sizes) (scale_code signed p w a m up) (cut_some w m down)
      (scales sizes signed p w a m up is some (omega arith) hp hw) (cut_valid sizes w m down (omega arith) hw)

  module _ (clamps : ClampsAreValid) where
    pub conversions_are_valid : ConversionsAreValid
    conversions_are_valid sizes f to mode p q w a k hf fb ht tb hp hq hw =
        let up = to.frac - f.frac in
        let down = f.frac - to.frac in
        let m = scaled_bytes a up in
        let room = roomy f to a k hf fb ht tb in
        let most = room.most in
        let places = part_places sizes w m 40 (omega (arith, most)) hw in
        both (is_valid_item sizes) (units_code f.signed p w a up down) (clamp_code to mode w q m k)
        (units_valid sizes f.signed p w a up down (scale_between to.frac f.frac (format_step to ht) (operand_step f hf)) room.some hp
        places)
        (clamps sizes to mode w q m k (omega arith) room.many places hq)

    pub wholes_are_valid : WholesAreValid
    wholes_are_valid sizes f p q w a k hf fb width hp hq hw =
        let m = scaled_bytes a 0 in
        let room = whole_roomy f a k hf fb width in
        let most = room.most in
        let places = part_places sizes w m 40 (omega (arith, most)) hw in
        both (is_valid_item sizes) (units_code f.signed p w a 0 f.frac) (clamp_code (container k) wrapping w q m k)
        (units_valid sizes f.signed p w a 0 f.frac (inl refl) room.some hp places)
        (clamps sizes (container k) wrapping w q m k (omega arith) room.many places hq)

    pub products_are_valid : ProductsAreValid
    products_are_valid sizes f g to mode p c q w factors hp hc hq hw =
        let down = f.frac + g.frac - to.frac in
        let signed = f.signed || g.signed in
        let x = further w 2 in
        let two = part_places sizes w 2 40 (omega arith) hw in
        let three = further_places sizes w 2 3 40 (omega arith) hw in
        both (is_valid_item sizes) (exact_code f g to p c w) (clamp_code to mode x q 3 1)
        (both (is_valid_item sizes) (product_code f.signed g.signed p c w 2) (units_code signed w x 2 0 down)
        (product_valid sizes f.signed g.signed p c w hp hc hw)
        (units_valid sizes signed w x 2 0 down (inl refl) (omega arith) two three))
        (clamps sizes to mode x q 3 1 (omega arith) (omega arith) three hq)

-- ---- labels

passes_plain : (t : AsmItem → Bool) (p c w : Location) → PassesPlain t → Passes t p c w
passes_plain t p c w h = record {
  left = copies p 30;
  right = copies c 31;
  multiply = rw (h.plain (Mul 30 31)) refl;
  less = λ r s l m. rw (h.plain (Sbrc r 7), h.plain (Sub 1 s)) refl;
  put = λ i l. puts w i;
}
  where
    copies : (p : Location) (r : ℕ) → list_all t (copy_byte p (InRegisters r) 0) ≡ true
    copies (InRegisters s) r = rw (h.plain (Mov (r + 0) (s + 0))) refl
    copies (InMemory o k) r = rw (h.load (r + 0) o (k + 0)) refl

    puts : (p : Location) (i : ℕ) → list_all t (put_byte p i) ≡ true
    puts (InRegisters r) i = rw (h.plain (Mov (r + i) i)) refl
    puts (InMemory o k) i = rw (h.store o (k + i) i) refl

module _ (scales : ScalesUseNoLabel) (cuts : CutsUseNoLabel) where
  cut_uses : (items : List AsmItem) (w : Location) (m down : ℕ)
      → list_all (λ item. is_placed items (used_label item)) (cut_some w m down) ≡ true
  cut_uses items w m zero = refl
  cut_uses items w m (suc d) = cuts items w m (suc d)

  units_use : (items : List AsmItem) (signed : Bool) (p w : Location) (a up down : ℕ)
      → list_all (λ item. is_placed items (used_label item)) (units_code signed p w a up down) ≡ true
  units_use items signed p w a up down =
      let m = scaled_bytes a up in
      both (λ item. is_placed items (used_label item)) (scale_code signed p w a m up) (cut_some w m down)
      (scales items signed p w a m up) (cut_uses items w m down)

  module _ (clamps : ClampsUseNoLabel) where
    pub conversions_use_no_label : ConversionsUseNoLabel
    conversions_use_no_label items f to mode p q w a k hf fb ht tb =
        let m = scaled_bytes a (to.frac - f.frac) in
        both (λ item. is_placed items (used_label item)) (units_code f.signed p w a (to.frac - f.frac) (f.frac - to.frac))
        (clamp_code to mode w q m k)
        (units_use items f.signed p w a (to.frac - f.frac) (f.frac - to.frac))
        (clamps items to mode w q m k (omega arith) ((roomy f to a k hf fb ht tb).many))

    pub wholes_use_no_label : WholesUseNoLabel
    wholes_use_no_label items f p q w a k hf fb width =
        let m = scaled_bytes a 0 in
        both (λ item. is_placed items (used_label item)) (units_code f.signed p w a 0 f.frac) (clamp_code (container k) wrapping w q m k)
        (units_use items f.signed p w a 0 f.frac)
        (clamps items (container k) wrapping w q m k (omega arith) ((whole_roomy f a k hf fb width).many))

    pub products_use_no_label : ProductsUseNoLabel
    products_use_no_label items f g to mode p c q w factors =
        let t = λ (item : AsmItem). is_placed items (used_label item) in
        let down = f.frac + g.frac - to.frac in
        let signed = f.signed || g.signed in
        let x = further w 2 in
        both t (exact_code f g to p c w) (clamp_code to mode x q 3 1)
        (both t (product_code f.signed g.signed p c w 2) (units_code signed w x 2 0 down)
        (product_passes t f.signed g.signed p c w
        (passes_plain t p c w (record { plain = λ i. refl; load = λ d o j. refl; store = λ o j r. refl })))
        (units_use items signed w x 2 0 down))
        (clamps items to mode x q 3 1 (omega arith) (omega arith))

-- two parts without a label are a whole without one
none_in : (l : ℕ) (a b : List AsmItem) → count_by (is_label l) a ≡ 0 → count_by (is_label l) b ≡ 0 → count_by (is_label l) (a ++ b) ≡ 0
none_in l a b h g = sum_by-append (λ (item : AsmItem). cond (is_label l item) 1 0) a b ∙ rw (h, g) refl

product_places : (left right : Bool) (p c w : Location) (l : ℕ) → count_by (is_label l) (product_code left right p c w 2) ≡ 0
product_places left right p c w l =
    let number : AsmItem → ℕ = λ item. cond (is_label l item) 1 0 in
    let t : AsmItem → Bool = λ item. number item == 0 in
    let none = product_passes t left right p c w
    (passes_plain t p c w (record { plain = λ i. refl; load = λ d o j. refl; store = λ o j r. refl })) in
    eqb-true (count_by (is_label l) (product_code left right p c w 2)) 0 (sum_by-zero number (product_code left right p c w 2) ∙ none)

module _ (scales : ScalesPlaceNoLabel) (cuts : CutsPlaceNoLabel) where
  cut_places : (w : Location) (m down l : ℕ) → count_by (is_label l) (cut_some w m down) ≡ 0
  cut_places w m zero l = refl
  cut_places w m (suc d) l = cuts w m (suc d) l

  units_place : (signed : Bool) (p w : Location) (a up down l : ℕ) → count_by (is_label l) (units_code signed p w a up down) ≡ 0
  units_place signed p w a up down l =
      let m = scaled_bytes a up in
      none_in l (scale_code signed p w a m up) (cut_some w m down) (scales signed p w a m up l) (cut_places w m down l)

  module _ (clamps : ClampsPlaceNoLabel) where
    pub conversions_place_no_label : ConversionsPlaceNoLabel
    conversions_place_no_label f to mode p q w a k l hf fb ht tb =
        let m = scaled_bytes a (to.frac - f.frac) in
        none_in l (units_code f.signed p w a (to.frac - f.frac) (f.frac - to.frac)) (clamp_code to mode w q m k)
        (units_place f.signed p w a (to.frac - f.frac) (f.frac - to.frac) l)
        (clamps to mode w q m k l (omega arith) ((roomy f to a k hf fb ht tb).many))

    pub wholes_place_no_label : WholesPlaceNoLabel
    wholes_place_no_label f p q w a k l hf fb width =
        let m = scaled_bytes a 0 in
        none_in l (units_code f.signed p w a 0 f.frac) (clamp_code (container k) wrapping w q m k)
        (units_place f.signed p w a 0 f.frac l)
        (clamps (container k) wrapping w q m k l (omega arith) ((whole_roomy f a k hf fb width).many))

    pub products_place_no_label : ProductsPlaceNoLabel
    products_place_no_label f g to mode p c q w l factors =
        let down = f.frac + g.frac - to.frac in
        let signed = f.signed || g.signed in
        let x = further w 2 in
        none_in l (exact_code f g to p c w) (clamp_code to mode x q 3 1)
        (none_in l (product_code f.signed g.signed p c w 2) (units_code signed w x 2 0 down) (product_places f.signed g.signed p c w l)
        (units_place signed w x 2 0 down l))
        (clamps to mode x q 3 1 l (omega arith) (omega arith))
