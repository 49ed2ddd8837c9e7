-- A number of some bytes in a type of another width.
use Rattle.std.proofs.Common.{◌≡◌, ◌≢◌, ℕ, zero, suc, ◌+◌, ◌-◌, ◌*◌, ◌/◌, ◌%◌, ◌^◌, ◌<◌, ◌≤◌, ⊎_elim, Bool, true}
use Rattle.std.proofs.Common.{false, pos, ◌+ℤ◌, ◌-ℤ◌, ◌++◌, Some, refl, sym, ap, ◌∙◌, subst, arith, min, leb-true}
use Rattle.std.proofs.Common.{leb-false, append-nil}
use Rattle.std.specs.Prelude.{nat_le}
use Rattle.std.proofs.lemmas.Int.{ints}
use Rattle.std.proofs.lemmas.Nat.{mul-le}
use Rattle.std.proofs.lemmas.Bool.{cases_Bool, cases_lt}
use Rattle.std.proofs.Math.Nat.{pow-le-pow_right}
use native.Mathlib.Nat.{pow-suc}
use Rattle.ec_asm.specs.declared.pieces.Location.{Location}
use Rattle.ec_asm.specs.View.{View}
use Rattle.ec_asm.specs.Change.{Env, Own}
use Rattle.ec_asm.specs.Items.{block}
use Rattle.ec_asm.specs.Pieces.{StandsFrom, Outside, value}
use Rattle.ec_asm.specs.PieceLaws.{HoldsNumbers, IsReadFirst}
use Rattle.ec_asm.proofs.Hoare.{block-append}
use Rattle.ec_asm.proofs.Numbers.{value_below, mod_less}
use Rattle.ec_asm.proofs.Sum.{value-same}
use Rattle.ec_core.specs.Plain.{PlainProgram}
use Rattle.ec_core.specs.State.{worked}
use Rattle.ec_ir.specs.declared.operations.Temp.{Temp}
use Rattle.ec_ir.specs.Meaning.{Mach, machine}
use Rattle.ec_ir.specs.Temporaries.{bits, with_content, low_bytes, number_of_bytes}
use Rattle.ec_select_operations.specs.Homes.{HasHome}
use Rattle.ec_select_bytes.specs.Values.{extend_code, fill_of}
use Rattle.ec_select_bytes.proofs.Extensions.{extensions_are_right}
use Rattle.ec_select_operations.specs.Code.{move_code, conversion_code}
use Rattle.ec_select_operations.specs.Needs.{Need, at_least, without, wanted}
use Rattle.ec_select_functions.proofs.Setting.{Setting}
use Rattle.ec_select_functions.specs.Relation.{Matches}
use Rattle.ec_select_functions.proofs.Computed.{work_after}
use Rattle.ec_select_functions.proofs.Match.{kept_left, wanted_most, least_here, least_other, without_other, at_width}
use Rattle.ec_select_functions.proofs.Match.{read_first, written}
use Rattle.ec_select_functions.proofs.Moves.{Frame, Quiet, wider_frame, numbers_kept, row_value, stands_less, Moves}
use Rattle.ec_select_functions.proofs.Moves.{move_holds}
use Rattle.ec_select_functions.proofs.Wrapped.{Lifts, low_of, lifts_number, low_below, low_part, kept_below}

-- ---- the bytes above a number

no_bytes : (f : ℕ → ℕ) (a n d low : ℕ) → value f a n ≡ low → ((j : ℕ) → n ≤ j → j < n + d → f (a + j) ≡ 0)
    → value f a (n + d) ≡ low
no_bytes f a n zero low h k = let e : n + 0 ≡ n = omega arith in subst (λ m. value f a m ≡ low) (sym e) h
no_bytes f a n (suc d) low h k =
    let x = no_bytes f a n d low h (λ j l m. k j l (omega arith)) in
    let z = k (n + d) (omega arith) (omega arith) in
    let e : n + suc d ≡ suc (n + d) = omega arith in
    subst (λ m. value f a m ≡ low) (sym e) (rw (x, z) (omega arith))

all_ones : (f : ℕ → ℕ) (a n d low : ℕ) → value f a n ≡ low → ((j : ℕ) → n ≤ j → j < n + d → f (a + j) ≡ 255)
    → value f a (n + d) + 256 ^ n ≡ low + 256 ^ (n + d)
all_ones f a n zero low h k = let e : n + 0 ≡ n = omega arith in rw (e, h) refl
all_ones f a n (suc d) low h k =
    let x = all_ones f a n d low h (λ j l m. k j l (omega arith)) in
    let z = k (n + d) (omega arith) (omega arith) in
    let e : n + suc d ≡ suc (n + d) = omega arith in
    let s : 256 ^ suc (n + d) ≡ 256 ^ (n + d) * 256 = pow-suc 256 (n + d) in
    rw (e, z, s) (omega (arith, x))

-- the top byte tells the sign
top_is_high : (r top p : ℕ) → r < p → p * 256 ≤ 2 * (r + top * p) → 128 ≤ top
top_is_high r top p l h =
    ⊎_elim
    (λ (g : top < 128). let m : top * p ≤ 127 * p = mul-le top p 127 p (omega arith) (omega arith) in absurd (omega (arith, m, h, l)))
    (λ (g : 128 ≤ top). g)
    (cases_lt top 128)

top_is_low : (r top p : ℕ) → 2 * (r + top * p) < p * 256 → top < 128
top_is_low r top p h =
    ⊎_elim
    (λ (g : top < 128). g)
    (λ (g : 128 ≤ top). let m : 128 * p ≤ top * p = mul-le 128 p top p (omega arith) (omega arith) in absurd (omega (arith, m, h)))
    (cases_lt top 128)

lift_far : (low p q : ℕ) → p ≤ q → (pos low -ℤ pos p) +ℤ pos (1 * q) ≡ pos (low + q - p)
lift_far low p q l = omega (arith, ints, l)

power_grows : (n w : ℕ) → n ≤ w → 256 ^ n ≤ 256 ^ w
power_grows n w l = pow-le-pow_right {n = 256} (omega arith) {i = n} {j = w} l

-- the number in w bytes, of which the low ones are there and the others are filled
filled : (signed : Bool) (f : ℕ → ℕ) (a m w low : ℕ) → suc m ≤ w → value f a (suc m) ≡ low
    → ((j : ℕ) → j < suc m → f (a + j) < 256) → ((j : ℕ) → suc m ≤ j → j < w → f (a + j) ≡ fill_of signed (f (a + m)))
    → value f a w ≡ low_bytes w (number_of_bytes signed (suc m) low)
filled signed f a m w low l here small there =
    let d = w - suc m in
    let e : suc m + d ≡ w = omega arith in
    let r = value f a m in
    let top = f (a + m) in
    let p = 256 ^ m in
    let s : 256 ^ suc m ≡ p * 256 = pow-suc 256 m in
    let below : r < p = value_below f a m (λ j q. small j (omega arith)) in
    let under : low < 256 ^ suc m = rw (sym here) (value_below f a (suc m) small) in
    let grows = power_grows (suc m) w l in
    let parts : r + top * p ≡ low = here in
    by_sign signed d e r top p s below under grows parts there
  where
    plain : (d : ℕ) → suc m + d ≡ w → low < 256 ^ suc m → 256 ^ suc m ≤ 256 ^ w → ((j : ℕ) → suc m ≤ j → j < w → f (a + j) ≡ 0)
        → value f a w ≡ low_bytes w (pos low)
    plain d e under grows k =
        let x = no_bytes f a (suc m) d low here (λ j q i. k j q (omega arith)) in
        let lift : Lifts (pos low) w low = record { k = 0; is = omega (arith, ints) } in
        subst (λ i. value f a i ≡ low) e x ∙ sym (low_of (pos low) w low lift ∙ kept_below low (256 ^ w) (omega arith))

    negative : (d : ℕ) → suc m + d ≡ w → low < 256 ^ suc m → 256 ^ suc m ≤ 256 ^ w → ((j : ℕ) → suc m ≤ j → j < w → f (a + j) ≡ 255)
        → value f a w ≡ low_bytes w (pos low -ℤ pos (256 ^ suc m))
    negative d e under grows k =
        let x = all_ones f a (suc m) d low here (λ j q i. k j q (omega arith)) in
        let x1 : value f a w + 256 ^ suc m ≡ low + 256 ^ w = subst (λ i. value f a i + 256 ^ suc m ≡ low + 256 ^ i) e x in
        let far = low + 256 ^ w - 256 ^ suc m in
        let lift : Lifts (pos low -ℤ pos (256 ^ suc m)) w far = record { k = 1; is = lift_far low (256 ^ suc m) (256 ^ w) grows } in
        let at : value f a w ≡ far = omega (arith, x1, under, grows) in
        at ∙ sym (low_of (pos low -ℤ pos (256 ^ suc m)) w far lift ∙ kept_below far (256 ^ w) (omega (arith, under, grows)))

    by_sign : (signed : Bool) (d : ℕ) → suc m + d ≡ w → (r top p : ℕ) → 256 ^ suc m ≡ p * 256 → r < p → low < 256 ^ suc m
        → 256 ^ suc m ≤ 256 ^ w → r + top * p ≡ low
        → ((j : ℕ) → suc m ≤ j → j < w → f (a + j) ≡ fill_of signed top)
        → value f a w ≡ low_bytes w (number_of_bytes signed (suc m) low)
    by_sign false d e r top p s below under grows parts k = plain d e under grows k
    by_sign true d e r top p s below under grows parts k =
        ⊎_elim
        (λ t.
        let g : 256 ^ suc m ≤ 2 * low = leb-true (256 ^ suc m) (2 * low) t in
        let high : 128 ≤ top = top_is_high r top p below (omega (arith, g, parts, s)) in
        let one : top < 256 = top_bound r top p under parts s in
        let z : 255 * (top / 128) ≡ 255 = omega (arith, high, one) in
        rw t (negative d e under grows (λ j q i. k j q i ∙ z)))
        (λ t.
        let g : 2 * low < 256 ^ suc m = leb-false (256 ^ suc m) (2 * low) t in
        let less : top < 128 = top_is_low r top p (omega (arith, g, parts, s)) in
        let z : 255 * (top / 128) ≡ 0 = omega (arith, less) in
        rw t (plain d e under grows (λ j q i. k j q i ∙ z)))
        (cases_Bool (nat_le (256 ^ suc m) (2 * low)))
      where
        top_bound : (r top p : ℕ) → low < 256 ^ suc m → r + top * p ≡ low → 256 ^ suc m ≡ p * 256 → top < 256
        top_bound r top p u q s =
            ⊎_elim
            (λ (g : top < 256). g)
            (λ (g : 256 ≤ top). let x : 256 * p ≤ top * p = mul-le 256 p top p (omega arith) (omega arith) in absurd
            (omega (arith, x, u, q, s)))
            (cases_lt top 256)

-- the low bytes of a number of n bytes
shortened : (signed : Bool) (n w low : ℕ) → w ≤ n → low % 256 ^ w ≡ low_bytes w (number_of_bytes signed n low)
shortened signed n w low l =
    let z = number_of_bytes signed n low in
    sym (mod_less low w n l) ∙ ap (λ t. t % 256 ^ w) (sym (low_of z n low (lifts_number signed n low))) ∙ low_part z w n l

module _ (p : PlainProgram) (e : Env) (slots : ℕ) (home : Temp → Location) (base : Temp → ℕ) (place : ℕ → ℕ)
    (y : Setting p e slots home base place) where
  abbrev C : Need → Mach → View → Type 0
  C need m v = Matches p e y.inputs slots base place y.aside y.stands y.active y.called need m v

  -- what a conversion leaves
  pub record Converted (signed : Bool) (t : Temp) (bytes n low : ℕ) (v w : View) : Type 0 where
    pub result : value w.at (base t) n ≡ low_bytes n (number_of_bytes signed bytes low)
    pub frame : Frame v w (base t) n
    pub numbers : HoldsNumbers w
    pub quiet : Quiet v w

  moved_numbers : (v v1 : View) (a b n : ℕ) → 2 ≤ a → HoldsNumbers v → Moves v v1 a b n → HoldsNumbers v1
  moved_numbers v v1 a b n some h k =
      numbers_kept v v1 b n h k.frame (λ j l. rw (k.there j l) (h (a + j) (omega arith))) k.work

  -- where no more bytes are wanted than there are, of m bytes at a location
  shorter : (signed : Bool) (t : Temp) (q : Location) (c m n low : ℕ) (v : View) → HasHome slots t
      → StandsFrom e q m c Own → IsReadFirst c (base t) n → n ≤ t.bytes → n ≤ m → HoldsNumbers v
      → value v.at c n ≡ low % 256 ^ n → Converted signed t m n low v (block e (move_code q (home t) n) v)
  shorter signed t q c m n low v it sq far lt la h is =
      let v1 = block e (move_code q (home t) n) v in
      let k =
      move_holds e q (home t) n c (base t) v (stands_less e q m n c Own la sq)
      (stands_less e (home t) t.bytes n (base t) Own lt (y.layout.temps_at t it)) far h in
      record {
        result = row_value v1.at v.at c (base t) n k.there ∙ is ∙ shortened signed m n low la;
        frame = k.frame;
        numbers = moved_numbers v v1 c (base t) n sq.clear h k;
        quiet = k.quiet;
      }

  -- where more are wanted
  longer : (signed : Bool) (t : Temp) (q : Location) (c m n low : ℕ) (v : View) → HasHome slots t
      → StandsFrom e q (suc m) c Own → IsReadFirst c (base t) (suc m) → n ≤ t.bytes → suc m ≤ n → HoldsNumbers v
      → value v.at c (suc m) ≡ low
      → Converted signed t (suc m) n low v
      (block e (extend_code signed (home t) (suc m) n) (block e (move_code q (home t) (suc m)) v))
  longer signed t q c m n low v it sq far lt l h is =
      let v1 = block e (move_code q (home t) (suc m)) v in
      let v2 = block e (extend_code signed (home t) (suc m) n) v1 in
      let st = (y.layout.temps_at t it).clear in
      let k =
      move_holds e q (home t) (suc m) c (base t) v sq
      (stands_less e (home t) t.bytes (suc m) (base t) Own (omega arith) (y.layout.temps_at t it)) far h in
      let numbers1 = moved_numbers v v1 c (base t) (suc m) sq.clear h k in
      let x =
      extensions_are_right signed e (home t) m n (base t) v1
      (stands_less e (home t) t.bytes n (base t) Own lt (y.layout.temps_at t it)) l numbers1 in
      let kept : (j : ℕ) → j < suc m → v2.at (base t + j) ≡ v1.at (base t + j) =
      λ j q. x.keeps.same (base t + j) (omega arith) (omega arith) (λ i. absurd (omega arith)) in
      let low1 : value v1.at (base t) (suc m) ≡ low = row_value v1.at v.at c (base t) (suc m) k.there ∙ is in
      let low2 : value v2.at (base t) (suc m) ≡ low = value-same v2.at v1.at (base t) (suc m) kept ∙ low1 in
      let small : (j : ℕ) → j < suc m → v2.at (base t + j) < 256 = λ j q. rw (kept j q) (numbers1 (base t + j) (omega arith)) in
      let top = kept m (omega arith) in
      let there : (j : ℕ) → suc m ≤ j → j < n → v2.at (base t + j) ≡ fill_of signed (v2.at (base t + m)) =
      λ j q i. x.there j q i ∙ ap (fill_of signed) (sym top) in
      let frame2 : (i : ℕ) → i ≢ 0 → i ≢ 1 → Outside (base t) n i → v2.at i ≡ v1.at i =
      λ i d f o. x.keeps.same i d f (inner (base t) (suc m) n i l o) in
      let bytes : (j : ℕ) → j < n → v2.at (base t + j) < 256 =
      λ j q. ⊎_elim (λ (i : j < suc m). small j i)
      (λ (i : suc m ≤ j). rw (there j i q) (fill_small signed (v2.at (base t + m)) (small m (omega arith)))) (cases_lt j (suc m)) in
      let work = work_after v1 v2 (base t) n numbers1 frame2 bytes in
      record {
        result = filled signed v2.at (base t) m n low l low2 small there;
        frame = λ i d f g o. frame2 i d f o ∙ wider_frame v v1 (base t) n (suc m) l k.frame i d f g o;
        numbers = numbers_kept v1 v2 (base t) n numbers1 (λ i d f g o. frame2 i d f o) bytes work;
        quiet = record { inputs = x.keeps.inputs ∙ k.quiet.inputs; safe = x.keeps.safe ∙ k.quiet.safe; seen = x.keeps.seen ∙ k.quiet.seen };
      }
    where
      inner : (b m n i : ℕ) → m ≤ n → Outside b n i → Outside (b + m) (n - m) i
      inner b m n i l o q = let z = o (omega arith) in omega arith

      fill_small : (signed : Bool) (top : ℕ) → top < 256 → fill_of signed top < 256
      fill_small true top q = omega arith
      fill_small false top q = omega arith

  rw_block : (signed : Bool) (t : Temp) (q : Location) (m n low : ℕ) (v : View)
      → Converted signed t (suc m) n low v (block e (extend_code signed (home t) (suc m) n) (block e (move_code q (home t) (suc m)) v))
      → Converted signed t (suc m) n low v (block e (move_code q (home t) (suc m) ++ extend_code signed (home t) (suc m) n) v)
  rw_block signed t q m n low v x =
      subst (λ w. Converted signed t (suc m) n low v w)
      (sym (block-append e (move_code q (home t) (suc m)) (extend_code signed (home t) (suc m) n) v)) x

  -- a number of some bytes at a location, of which no byte is overwritten before it is read
  pub converted : (signed : Bool) (t : Temp) (q : Location) (c bytes n low : ℕ) (v : View) → HasHome slots t → 1 ≤ bytes
      → StandsFrom e q bytes c Own → ((k : ℕ) → k ≤ bytes → IsReadFirst c (base t) k) → n ≤ t.bytes
      → low < 256 ^ bytes → HoldsNumbers v → value v.at c (min n bytes) ≡ low % 256 ^ min n bytes
      → Converted signed t bytes n low v (block e (conversion_code signed q (home t) bytes n) v)
  converted signed t q c bytes n low v it some sq far lt under h is =
      ⊎_elim
      (λ x.
      let g : n ≤ bytes = leb-true n bytes x in
      let k : min n bytes ≡ n = omega arith in
      let i : value v.at c n ≡ low % 256 ^ n = subst (λ j. value v.at c j ≡ low % 256 ^ j) k is in
      rw (k, x, append-nil (move_code q (home t) n)) (shorter signed t q c bytes n low v it sq (far n g) lt g h i))
      (λ x.
      let g : bytes < n = leb-false n bytes x in
      let m = bytes - 1 in
      let s : bytes ≡ suc m = omega arith in
      let k : min n bytes ≡ suc m = omega arith in
      let i : value v.at c (suc m) ≡ low % 256 ^ suc m = subst (λ j. value v.at c j ≡ low % 256 ^ j) k is in
      let u : low < 256 ^ suc m = subst (λ j. low < 256 ^ j) s under in
      let whole_low : value v.at c (suc m) ≡ low = i ∙ kept_below low (256 ^ suc m) u in
      let sq1 : StandsFrom e q (suc m) c Own = subst (λ j. StandsFrom e q j c Own) s sq in
      let x0 = longer signed t q c m n low v it sq1 (far (suc m) (omega arith)) lt (omega arith) h whole_low in
      let x1 = rw_block signed t q m n low v x0 in
      let x2 : Converted signed t bytes n low v (block e (move_code q (home t) (suc m) ++ extend_code signed (home t) bytes n) v) =
      subst (λ j. Converted signed t j n low v (block e (move_code q (home t) (suc m) ++ extend_code signed (home t) j n) v))
      (sym s) x1 in
      subst (λ j. Converted signed t bytes n low v (block e (move_code q (home t) j ++ extend_code signed (home t) bytes n) v)) (sym k) x2)
      (cases_Bool (nat_le n bytes))

  pub conversion_matches : (signed : Bool) (t a : Temp) (need : Need) (m : Mach) (v : View) (c low : ℕ) → HasHome slots t
      → HasHome slots a → m.temps a.at ≡ Some (record { bytes = a.bytes; content = bits low })
      → C (at_least a.at (wanted need t) (without t.at need)) m v
      → C need (machine (with_content t (bits (low_bytes t.bytes (number_of_bytes signed a.bytes low))) m.temps) (worked c m.state))
      (block e (conversion_code signed (home a) (home t) a.bytes (wanted need t)) v)
  conversion_matches signed t a need m v c low it ia q z =
      let n = wanted need t in
      let need0 = at_least a.at n (without t.at need) in
      let most : n ≤ t.bytes = wanted_most need t in
      let w = block e (conversion_code signed (home a) (home t) a.bytes n) v in
      let here = least_here a.at n (without t.at need) in
      let wide : min n a.bytes ≤ wanted need0 a = omega (arith, here) in
      let content = at_width p e slots home base place y need0 m v a _ (min n a.bytes) z ia q refl wide in
      let k =
      converted signed t (home a) (base a) a.bytes n low v it ia.some (y.layout.temps_at a ia)
      (λ j l. read_first p e slots home base place y t a j it ia l) most content.1 z.bytes content.0 in
      let number = number_of_bytes signed a.bytes low in
      let result : value w.at (base t) n ≡ low_bytes t.bytes number % 256 ^ n = k.result ∙ sym (low_part number n t.bytes most) in
      written p e slots home base place y t (bits (low_bytes t.bytes number)) need need0 m (worked c m.state) v w it z (λ i r. still i r)
      (wider_frame v w (base t) t.bytes n most k.frame) (result, low_below t.bytes number) k.numbers refl (k.quiet.seen ∙ z.seen)
      (kept_left y.inputs m.state v w (k.quiet.inputs) z.left) (k.quiet.safe ∙ z.safe)
    where
      still : (i : ℕ) → i ≢ t.at → need i ≤ at_least a.at (wanted need t) (without t.at need) i
      still i r =
          let d = without_other t.at i need r in
          let f = least_other a.at (wanted need t) i (without t.at need) in
          omega arith
