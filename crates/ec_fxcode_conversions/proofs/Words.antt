-- The words of the code.
use Rattle.std.proofs.Common.{◌≡◌, ℕ, zero, suc, ◌+◌, ◌-◌, ◌*◌, ◌%◌, ◌≤◌, ◌<◌, ◌==◌, ⊎_elim, inl, inr, [], Bool, true, false, ◌||◌}
use Rattle.std.proofs.Common.{if◌then◌else◌, refl, arith}
use Rattle.std.proofs.lemmas.Bool.{cases_lt}
use Rattle.std.proofs.lemmas.List.Sums.{sum_by-append}
use Rattle.ec_fx.specs.Conversions.{IsIntegerWidth}
use Rattle.ec_asm.specs.declared.pieces.Location.{Location}
use Rattle.ec_asm.specs.Items.{code_words, item_words}
use Rattle.ec_select_products.specs.Products.{product_code}
use Rattle.ec_select_products.specs.Laws.{ProductsHaveWords}
use Rattle.ec_fxcode.specs.Clamps.{clamp_code}
use Rattle.ec_fxcode_quotients.specs.Quotients.{further}
use Rattle.ec_fxcode_quotients.proofs.Sizes.{operand_sized, format_sized, bytes_of}
use Rattle.ec_fxcode_scales.specs.Scales.{scale_code}
use Rattle.ec_fxcode_scales.specs.ScaleLaws.{IsScale, ScalesHave, CutsHave, ClampsAreShort}
use Rattle.ec_fxcode_conversions.specs.Conversions.{scaled_bytes, cut_some, units_code, container, wrapping}
use Rattle.ec_fxcode_conversions.specs.Products.{exact_code}
use Rattle.ec_fxcode_conversions.specs.ConversionLaws.{ConversionsHave, WholesHave}
use Rattle.ec_fxcode_conversions.specs.ProductLaws.{ProductsHave}
use Rattle.ec_fxcode_conversions.proofs.Converted.{roomy}
use Rattle.ec_fxcode_conversions.proofs.Numbers.{operand_step, format_step, scale_between, step_scale}
use Rattle.ec_fxcode_conversions.proofs.Multiplied.{products_fit}
use Rattle.ec_fxcode_conversions.proofs.Wholes.{whole_roomy}

one_bit : (b : Bool) (m : ℕ) → (if b then 0 else 7 * m) ≤ 7 * m
one_bit true m = omega arith
one_bit false m = omega arith

module _ (scales : ScalesHave) (cuts : CutsHave) where
  -- where nothing is cut
  up_words : (signed : Bool) (p w : Location) (a up down : ℕ) → IsScale up → 1 ≤ a → down ≡ 0
      → code_words (units_code signed p w a up down) ≤ 8 + 11 * scaled_bytes a up
  up_words signed p w a up down is some none =
      let m = scaled_bytes a up in
      let x = scales signed p w a m up is some (omega arith) in
      let bit = one_bit (up % 8 == 0) m in
      rw none (omega (arith, sum_by-append item_words (scale_code signed p w a m up) [], x, bit))

  cut_words : (w : Location) (m down : ℕ) → IsScale down → code_words (cut_some w m down) ≤ 8 + 23 * m
  cut_words w m zero is = omega arith
  cut_words w m (suc d) is =
      let x = cuts w m (suc d) is in
      let bit = one_bit (suc d % 8 == 0) m in
      omega (arith, x, bit)

  -- where nothing is scaled up
  down_words : (signed : Bool) (p w : Location) (a up down : ℕ) → IsScale down → 1 ≤ a → up ≡ 0
      → code_words (units_code signed p w a up down) ≤ 43 + 27 * a
  down_words signed p w a up down is some none =
      let m = scaled_bytes a 0 in
      let x = scales signed p w a m 0 (inl refl) some (omega arith) in
      let y = cut_words w m down is in
      rw none (omega (arith, sum_by-append item_words (scale_code signed p w a m 0) (cut_some w m down), x, y))

  module _ (clamps : ClampsAreShort) where
    pub conversions_are_short : ConversionsHave
    conversions_are_short f to mode p q w a k hf fb ht tb =
        let up = to.frac - f.frac in
        let down = f.frac - to.frac in
        let m = scaled_bytes a up in
        let room = roomy f to a k hf fb ht tb in
        let some = room.some in
        let wide = room.wide in
        let most = (bytes_of f.bits f.frac a (operand_sized f hf) fb).1 in
        let more = (bytes_of to.bits to.frac k (format_sized to ht) tb).1 in
        let z = clamps to mode w q m k (omega arith) room.many in
        ⊎_elim
        (λ (cut : to.frac < f.frac).
        let none : up ≡ 0 = omega (arith, cut) in
        let x = down_words f.signed p w a up down (scale_between f.frac to.frac (operand_step f hf) (format_step to ht)) some none in
        omega (arith, sum_by-append item_words (units_code f.signed p w a up down) (clamp_code to mode w q m k), x, z, none, most, more))
        (λ (not_cut : f.frac ≤ to.frac).
        let x = up_words f.signed p w a up down (scale_between to.frac f.frac (format_step to ht) (operand_step f hf)) some
        (omega (arith, not_cut)) in
        omega (arith, sum_by-append item_words (units_code f.signed p w a up down) (clamp_code to mode w q m k), x, z, wide))
        (cases_lt to.frac f.frac)

    pub wholes_are_short : WholesHave
    wholes_are_short f p q w a k hf fb width =
        let m = scaled_bytes a 0 in
        let room = whole_roomy f a k hf fb width in
        let most = (bytes_of f.bits f.frac a (format_sized f hf) fb).1 in
        let x = down_words f.signed p w a 0 f.frac (step_scale f.frac (format_step f hf)) room.some refl in
        let z = clamps (container k) wrapping w q m k (omega arith) room.many in
        let few = few_bytes width in
        omega (
          arith,
          sum_by-append item_words (units_code f.signed p w a 0 f.frac) (clamp_code (container k) wrapping w q m k),
          x,
          z,
          most,
          few,
        )
      where
        few_bytes : IsIntegerWidth (8 * k) → k ≤ 8
        few_bytes (inl t) = omega (arith, t)
        few_bytes (inr (inl t)) = omega (arith, t)
        few_bytes (inr (inr t)) = omega (arith, t)

    pub products_are_short : ProductsHaveWords → ProductsHave
    products_are_short products f g to mode p c q w factors =
        let down = f.frac + g.frac - to.frac in
        let signed = f.signed || g.signed in
        let x = further w 2 in
        let one = products f.signed g.signed p c w 2 in
        let two = down_words signed w x 2 0 down ((products_fit f g to factors).scale) (omega arith) refl in
        let three = clamps to mode x q 3 1 (omega arith) (omega arith) in
        omega (
          arith,
          sum_by-append item_words (exact_code f g to p c w) (clamp_code to mode x q 3 1),
          sum_by-append item_words
              (product_code f.signed g.signed p c w 2) (units_code signed w x 2 0 down),
          one,
          two,
          three,
        )
