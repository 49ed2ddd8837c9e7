-- The code that puts an end of the range to its place.
use Rattle.std.specs.Prelude.{nat_le, if◌then◌else◌}
use Rattle.std.proofs.Common.{◌≡◌, ◌≢◌, ◌⊎◌, inl, inr, ⊎_elim, ℕ, zero, suc, ◌+◌, ◌-◌, ◌*◌, ◌^◌, ◌<◌, ◌≤◌, Bool, true, false}
use Rattle.std.proofs.Common.{List, ◌++◌, refl, sym, ap, ◌∙◌, subst, arith}
use Rattle.std.proofs.lemmas.Bool.{cases_eq, cases_lt, leb-true}
use Rattle.std.proofs.lemmas.List.Sums.{sum_by-append}
use Rattle.ec_avr.specs.Flags.{byte_difference}
use Rattle.ec_asm.specs.declared.items.AsmItem.{AsmItem}
use Rattle.ec_asm.specs.declared.pieces.Location.{Location}
use Rattle.ec_asm.specs.declared.pieces.Location.TheVariants.{InRegisters, InMemory}
use Rattle.ec_asm.specs.View.{View}
use Rattle.ec_asm.specs.Change.{Env, Own}
use Rattle.ec_asm.specs.Items.{block, all_straight, code_steps, code_words, item_words}
use Rattle.ec_asm.specs.Pieces.{address, StandsFrom, Outside, value}
use Rattle.ec_asm.proofs.Bytes.{put_here, put_other}
use Rattle.ec_asm.proofs.Hoare.{chain_holds, block-append, straight-append, chain_straight, steps-append, steps-chain}
use Rattle.ec_asm.proofs.ItemWords.{chain_words, all_far, far-append, chain_far, own_far}
use Rattle.ec_fxcode.specs.Clamps.{put_byte}
use Rattle.ec_fxcode.specs.ClampLaws.{IsClearOfEnds}
use Rattle.ec_fxcode.proofs.Alike.{zeros, ones}
use Rattle.ec_fxcode.proofs.Moves.{byte_is_put, clear_byte, part_stands}
use Rattle.ec_fxcode_limits.specs.Limits.{fill_code, fill_words, low_code, top_code, top_words, byte_words, made_code, made_words}
use Rattle.ec_fxcode_limits.specs.Limits.{aside_code, aside_words, end_code, end_words}

-- ---- its form

-- the end is made in the register of its highest byte, or through R31
pub each_end : (P : List AsmItem → ℕ → Type 0) (minus signed : Bool) (q : Location) (n : ℕ)
    → ((r : ℕ) → q ≡ InRegisters r → 16 ≤ r + n → P (made_code (r + n) minus signed q n) (made_words minus signed q n))
    → P (aside_code minus signed q n) (aside_words minus signed q n) → P (end_code minus signed q n) (end_words minus signed q n)
each_end P minus signed (InMemory o k) n there aside = aside
each_end P minus signed (InRegisters r) n there aside = by_reach (nat_le 16 (r + n)) refl
  where
    q : Location
    q = InRegisters r

    by_reach : (x : Bool) → nat_le 16 (r + n) ≡ x → P (if x then made_code (r + n) minus signed q n else aside_code minus signed q n)
        (if x then made_words minus signed q n else aside_words minus signed q n)
    by_reach true is = there r refl (leb-true 16 (r + n) is)
    by_reach false is = aside

fill_straight : (s : ℕ) (minus signed : Bool) → all_straight (fill_code s minus signed) ≡ true
fill_straight s false true = refl
fill_straight s true true = refl
fill_straight s false false = refl
fill_straight s true false = refl

top_straight : (s : ℕ) (signed : Bool) → all_straight (top_code s signed) ≡ true
top_straight s true = refl
top_straight s false = refl

put_straight : (s : ℕ) (q : Location) (i : ℕ) → all_straight (put_byte s q i) ≡ true
put_straight s (InRegisters r) i = refl
put_straight s (InMemory o k) i = refl

made_straight : (s : ℕ) (minus signed : Bool) (q : Location) (n : ℕ) → all_straight (made_code s minus signed q n) ≡ true
made_straight s minus signed q n =
    straight-append (fill_code s minus signed) (low_code s q n ++ top_code s signed) (fill_straight s minus signed)
    (straight-append (low_code s q n) (top_code s signed) (chain_straight (λ i. put_byte s q i) n (λ i. put_straight s q i))
    (top_straight s signed))

pub end_straight : (minus signed : Bool) (q : Location) (n : ℕ) → all_straight (end_code minus signed q n) ≡ true
end_straight minus signed q n =
    each_end (λ code words. all_straight code ≡ true) minus signed q n (λ r is reach. made_straight (r + n) minus signed q n)
    (straight-append (made_code 31 minus signed q n) (put_byte 31 q n) (made_straight 31 minus signed q n) (put_straight 31 q n))

fill_has : (s : ℕ) (minus signed : Bool) → code_words (fill_code s minus signed) ≡ fill_words minus signed
fill_has s false true = refl
fill_has s true true = refl
fill_has s false false = refl
fill_has s true false = refl

top_has : (s : ℕ) (signed : Bool) → code_words (top_code s signed) ≡ top_words signed
top_has s true = refl
top_has s false = refl

put_has : (s : ℕ) (q : Location) (i : ℕ) → code_words (put_byte s q i) ≡ byte_words q
put_has s (InRegisters r) i = refl
put_has s (InMemory o k) i = refl

made_has : (s : ℕ) (minus signed : Bool) (q : Location) (n : ℕ)
    → code_words (made_code s minus signed q n) ≡ made_words minus signed q n
made_has s minus signed q n =
    let fill = fill_code s minus signed in
    let low = low_code s q n in
    let top = top_code s signed in
    sum_by-append item_words fill (low ++ top) ∙ ap (λ k. code_words fill + k) (sum_by-append item_words low top)
    ∙ ap (λ k. k + (code_words low + code_words top)) (fill_has s minus signed)
    ∙ ap (λ k. fill_words minus signed + (k + code_words top)) (chain_words (λ i. put_byte s q i) n (byte_words q) (λ i. put_has s q i))
    ∙ ap (λ k. fill_words minus signed + (byte_words q * n + k)) (top_has s signed)

pub end_has : (minus signed : Bool) (q : Location) (n : ℕ) → code_words (end_code minus signed q n) ≡ end_words minus signed q n
end_has minus signed q n =
    let made = made_code 31 minus signed q n in
    each_end (λ code words. code_words code ≡ words) minus signed q n (λ r is reach. made_has (r + n) minus signed q n)
    (sum_by-append item_words made (put_byte 31 q n) ∙ ap (λ k. k + code_words (put_byte 31 q n)) (made_has 31 minus signed q n)
    ∙ ap (λ k. made_words minus signed q n + k) (put_has 31 q n))

fill_takes : (s : ℕ) (minus signed : Bool) → code_steps (fill_code s minus signed) ≤ 2
fill_takes s false true = omega arith
fill_takes s true true = omega arith
fill_takes s false false = omega arith
fill_takes s true false = omega arith

top_takes : (s : ℕ) (signed : Bool) → code_steps (top_code s signed) ≤ 1
top_takes s true = omega arith
top_takes s false = omega arith

put_takes : (s : ℕ) (q : Location) (i : ℕ) → code_steps (put_byte s q i) ≡ 1
put_takes s (InRegisters r) i = refl
put_takes s (InMemory o k) i = refl

made_takes : (s : ℕ) (minus signed : Bool) (q : Location) (n : ℕ) → code_steps (made_code s minus signed q n) ≤ 3 + n
made_takes s minus signed q n =
    let fill = fill_code s minus signed in
    let low = low_code s q n in
    let top = top_code s signed in
    let a = fill_takes s minus signed in
    let b = steps-chain (λ i. put_byte s q i) n 1 (λ i. put_takes s q i) in
    let c = top_takes s signed in
    omega (arith, steps-append fill (low ++ top), steps-append low top, a, b, c)

pub end_takes : (minus signed : Bool) (q : Location) (n : ℕ) → code_steps (end_code minus signed q n) ≤ 4 + n
end_takes minus signed q n =
    let made = made_code 31 minus signed q n in
    let a = made_takes 31 minus signed q n in
    let b = put_takes 31 q n in
    each_end (λ code words. code_steps code ≤ 4 + n) minus signed q n
    (λ r is reach. (let l = made_takes (r + n) minus signed q n in omega (arith, l)))
    (omega (arith, steps-append made (put_byte 31 q n), a, b))

-- all its bytes in memory are those of the place
fill_far : (e : Env) (s : ℕ) (minus signed : Bool) → all_far e (fill_code s minus signed) ≡ true
fill_far e s false true = refl
fill_far e s true true = refl
fill_far e s false false = refl
fill_far e s true false = refl

top_far : (e : Env) (s : ℕ) (signed : Bool) → all_far e (top_code s signed) ≡ true
top_far e s true = refl
top_far e s false = refl

put_far : (e : Env) (s : ℕ) (q : Location) (i n b : ℕ) → StandsFrom e q n b Own → i < n → all_far e (put_byte s q i) ≡ true
put_far e s (InRegisters r) i n b st l = refl
put_far e s (InMemory o k) i n b st l = rw (own_far e o k i n b st l) refl

made_far : (e : Env) (s : ℕ) (minus signed : Bool) (q : Location) (n b : ℕ) → StandsFrom e q (suc n) b Own
    → all_far e (made_code s minus signed q n) ≡ true
made_far e s minus signed q n b st =
    far-append e (fill_code s minus signed) (low_code s q n ++ top_code s signed) (fill_far e s minus signed)
    (far-append e (low_code s q n) (top_code s signed)
    (chain_far e (λ i. put_byte s q i) n (λ i l. put_far e s q i (suc n) b st (omega (arith, l)))) (top_far e s signed))

pub end_far : (e : Env) (minus signed : Bool) (q : Location) (n b : ℕ) → StandsFrom e q (suc n) b Own
    → all_far e (end_code minus signed q n) ≡ true
end_far e minus signed q n b st =
    each_end (λ code words. all_far e code ≡ true) minus signed q n (λ r is reach. made_far e (r + n) minus signed q n b st)
    (far-append e (made_code 31 minus signed q n) (put_byte 31 q n) (made_far e 31 minus signed q n b st)
    (put_far e 31 q n (suc n) b st (omega arith)))

-- ---- the bytes

-- a register has a byte, and else only the flags have changed
pub record Fills (s : ℕ) (v w : View) (byte : ℕ) : Type 0 where
  pub there : w.at s ≡ byte
  pub same : (k : ℕ) → k ≢ s → w.at k ≡ v.at k
  pub inputs : w.inputs ≡ v.inputs
  pub safe : w.safe ≡ v.safe
  pub seen : w.seen ≡ v.seen

-- all bits of a byte become the carry
spread_zero : (x : ℕ) → byte_difference x x 0 ≡ 0
spread_zero x = omega arith

spread_one : (x : ℕ) → byte_difference x x 1 ≡ 255
spread_one x = omega arith

spread : (x c byte : ℕ) → c ≤ 1 → byte ≡ 255 * c → byte_difference x x c ≡ byte
spread x zero byte l e = spread_zero x ∙ omega (arith, e)
spread x (suc zero) byte l e = spread_one x ∙ omega (arith, e)
spread x (suc (suc c)) byte l e = absurd (omega arith)

-- what a fill leaves, by the carry
abbrev pub fill_of : (minus signed : Bool) → (carry : ℕ) → ℕ
fill_of false true carry = 255 - 255 * carry
fill_of true true carry = 255 * carry
fill_of false false carry = 255
fill_of true false carry = 0

filled : (e : Env) (s : ℕ) (minus signed : Bool) (v : View) → v.flags.c ≤ 1
    → Fills s v (block e (fill_code s minus signed) v) (fill_of minus signed v.flags.c)
filled e s false true v l =
    let spread_here = put_here v.at s (byte_difference (v.at s) (v.at s) v.flags.c) s refl in
    record {
      there = put_here (λ j. (block e (fill_code s true true) v).at j) s _ s refl
          ∙ ap (λ k. 255 - k) (spread_here ∙ spread (v.at s) v.flags.c (255 * v.flags.c) l refl);
      same = λ k z. put_other (λ j. (block e (fill_code s true true) v).at j) s _ k z ∙ put_other v.at s _ k z;
      inputs = refl;
      safe = refl;
      seen = refl;
    }
filled e s true true v l = record {
  there = put_here v.at s _ s refl ∙ spread (v.at s) v.flags.c (255 * v.flags.c) l refl;
  same = λ k z. put_other v.at s _ k z;
  inputs = refl;
  safe = refl;
  seen = refl;
}
filled e s false false v l = record {
  there = put_here v.at s 255 s refl;
  same = λ k z. put_other v.at s 255 k z;
  inputs = refl;
  safe = refl;
  seen = refl;
}
filled e s true false v l = record {
  there = put_here v.at s 0 s refl;
  same = λ k z. put_other v.at s 0 k z;
  inputs = refl;
  safe = refl;
  seen = refl;
}

-- the highest byte
abbrev pub top_of : (signed : Bool) → (byte : ℕ) → ℕ
top_of true byte = byte_difference byte 128 0
top_of false byte = byte

topped : (e : Env) (s : ℕ) (signed : Bool) (v : View) (byte : ℕ) → v.at s ≡ byte
    → Fills s v (block e (top_code s signed) v) (top_of signed byte)
topped e s true v byte h = record {
  there = put_here v.at s _ s refl ∙ ap (λ k. byte_difference k 128 0) h;
  same = λ k z. put_other v.at s _ k z;
  inputs = refl;
  safe = refl;
  seen = refl;
}
topped e s false v byte h = record { there = h; same = λ k z. refl; inputs = refl; safe = refl; seen = refl }

-- the low bytes have the byte of the register
record Lows (s : ℕ) (u : View) (b byte i : ℕ) (v : View) : Type 0 where
  pub there : (j : ℕ) → j < i → v.at (b + j) ≡ byte
  pub from : v.at s ≡ byte
  pub same : (k : ℕ) → Outside b i k → v.at k ≡ u.at k
  pub inputs : v.inputs ≡ u.inputs
  pub safe : v.safe ≡ u.safe
  pub seen : v.seen ≡ u.seen

low_step : (e : Env) (s : ℕ) (q : Location) (n b byte : ℕ) (u : View) → StandsFrom e q n b Own
    → ((j : ℕ) → j < n → b + j ≢ s) → (i : ℕ) → i < n → (v : View) → Lows s u b byte i v
    → Lows s u b byte (suc i) (block e (put_byte s q i) v)
low_step e s q n b byte u st apart i l v h =
    let put = byte_is_put e s q i (b + i) v (st.at i l) (st.kind i l) in
    let one = put_other v.at (b + i) (v.at s) in
    rw put (record {
      there = λ j z. ⊎_elim (λ (t : j ≡ i). put_here v.at (b + i) (v.at s) (b + j) (omega arith) ∙ h.from)
          (λ (t : j ≢ i). one (b + j) (λ x. t (omega arith)) ∙ h.there j (omega arith)) (cases_eq j i);
      from = one s (λ x. apart i l (sym x)) ∙ h.from;
      same = λ k out. one k (λ x. let y = out (omega arith) in omega arith)
          ∙ h.same k (λ x. let y = out (omega arith) in omega arith);
      inputs = h.inputs;
      safe = h.safe;
      seen = h.seen;
    })

lows : (e : Env) (s : ℕ) (q : Location) (n b byte : ℕ) (v : View) → StandsFrom e q n b Own → ((j : ℕ) → j < n → b + j ≢ s)
    → v.at s ≡ byte → Lows s v b byte n (block e (low_code s q n) v)
lows e s q n b byte v st apart from =
    chain_holds e (λ i. put_byte s q i) (Lows s v b byte) n (λ i l u h. low_step e s q n b byte v st apart i l u h) v (record {
      there = λ j z. absurd (omega arith);
      from = from;
      same = λ k out. refl;
      inputs = refl;
      safe = refl;
      seen = refl;
    })

-- all bytes of the end but the highest stand at the place, and that one in the register
record Made (s : ℕ) (v w : View) (b n byte top : ℕ) : Type 0 where
  pub low : (j : ℕ) → j < n → w.at (b + j) ≡ byte
  pub there : w.at s ≡ top
  pub same : (k : ℕ) → k ≢ s → Outside b n k → w.at k ≡ v.at k
  pub inputs : w.inputs ≡ v.inputs
  pub safe : w.safe ≡ v.safe
  pub seen : w.seen ≡ v.seen

made : (e : Env) (s : ℕ) (minus signed : Bool) (q : Location) (n b byte : ℕ) (v : View) → StandsFrom e q n b Own
    → ((j : ℕ) → j < n → b + j ≢ s) → v.flags.c ≤ 1 → fill_of minus signed v.flags.c ≡ byte
    → Made s v (block e (made_code s minus signed q n) v) b n byte (top_of signed byte)
made e s minus signed q n b byte v st apart bit is =
    let fill = fill_code s minus signed in
    let low = low_code s q n in
    let top = top_code s signed in
    let v1 = block e fill v in
    let v2 = block e low v1 in
    let f = filled e s minus signed v bit in
    let g = lows e s q n b byte v1 st apart (f.there ∙ is) in
    let t = topped e s signed v2 byte g.from in
    rw (block-append e fill (low ++ top) v, block-append e low top v1) (record {
      low = λ j l. t.same (b + j) (apart j l) ∙ g.there j l;
      there = t.there;
      same = λ k z out. t.same k z ∙ g.same k out ∙ f.same k z;
      inputs = t.inputs ∙ g.inputs ∙ f.inputs;
      safe = t.safe ∙ g.safe ∙ f.safe;
      seen = t.seen ∙ g.seen ∙ f.seen;
    })

pub record Ends (v w : View) (b n byte top : ℕ) : Type 0 where
  pub low : (j : ℕ) → j < n → w.at (b + j) ≡ byte
  pub high : w.at (b + n) ≡ top
  pub work : (w.at 31 ≡ top) ⊎ (w.at 31 ≡ v.at 31)
  pub same : (k : ℕ) → k ≢ 0 → k ≢ 1 → k ≢ 31 → Outside b (suc n) k → w.at k ≡ v.at k
  pub inputs : w.inputs ≡ v.inputs
  pub safe : w.safe ≡ v.safe
  pub seen : w.seen ≡ v.seen

-- R31 is none of the bytes
not_there : (b n k : ℕ) → IsClearOfEnds b (suc n) → 2 ≤ b → k < suc n → b + k ≢ 31
not_there b n k clear two l = (clear_byte b (suc n) k clear two l).3

-- in the register of its highest byte
ends_there : (e : Env) (minus signed : Bool) (q : Location) (n b byte s : ℕ) (v : View) → StandsFrom e q (suc n) b Own
    → IsClearOfEnds b (suc n) → v.flags.c ≤ 1 → fill_of minus signed v.flags.c ≡ byte → s ≡ b + n
    → Ends v (block e (made_code s minus signed q n) v) b n byte (top_of signed byte)
ends_there e minus signed q n b byte s v st clear bit is at =
    let m = made e s minus signed q n b byte v (part_stands e q (suc n) n b (omega arith) st) (λ j l x. omega (arith, at, l, x)) bit is in
    let free = not_there b n in
    let two = st.clear in
    record {
      low = m.low;
      high = subst (λ (k : ℕ). (block e (made_code s minus signed q n) v).at k ≡ top_of signed byte) at m.there;
      work = inr (m.same 31 (λ x. free n clear two (omega arith) (omega (arith, x, at)))
          (λ x. ⊎_elim (λ (y : 31 < b + n). absurd (free (31 - b) clear two (omega (arith, x, y)) (omega (arith, x))))
          (λ (y : b + n ≤ 31). y) (cases_lt 31 (b + n))));
      same = λ k z o r out. m.same k (λ x. let y = out (omega (arith, x, at)) in omega (arith, x, y, at))
          (λ x. let y = out x in omega (arith, y));
      inputs = m.inputs;
      safe = m.safe;
      seen = m.seen;
    }

-- through R31
ends_aside : (e : Env) (minus signed : Bool) (q : Location) (n b byte : ℕ) (v : View) → StandsFrom e q (suc n) b Own
    → IsClearOfEnds b (suc n) → v.flags.c ≤ 1 → fill_of minus signed v.flags.c ≡ byte
    → Ends v (block e (aside_code minus signed q n) v) b n byte (top_of signed byte)
ends_aside e minus signed q n b byte v st clear bit is =
    let code = made_code 31 minus signed q n in
    let w = block e code v in
    let free = λ (j : ℕ) (l : j < suc n). not_there b n j clear st.clear l in
    let m = made e 31 minus signed q n b byte v (part_stands e q (suc n) n b (omega arith) st) (λ j l. free j (omega (arith, l))) bit is in
    let put = byte_is_put e 31 q n (b + n) w (st.at n (omega arith)) (st.kind n (omega arith)) in
    let one = put_other w.at (b + n) (w.at 31) in
    rw (block-append e code (put_byte 31 q n) v, put) (record {
      low = λ j l. one (b + j) (λ x. omega arith) ∙ m.low j l;
      high = put_here w.at (b + n) (w.at 31) (b + n) refl ∙ m.there;
      work = inl (one 31 (λ x. free n (omega arith) (sym x)) ∙ m.there);
      same = λ k z o r out. one k (λ x. let y = out (omega arith) in omega arith)
          ∙ m.same k r (λ x. let y = out (omega arith) in omega arith);
      inputs = m.inputs;
      safe = m.safe;
      seen = m.seen;
    })

pub ends : (e : Env) (minus signed : Bool) (q : Location) (n b byte : ℕ) (v : View) → StandsFrom e q (suc n) b Own
    → IsClearOfEnds b (suc n) → v.flags.c ≤ 1 → fill_of minus signed v.flags.c ≡ byte
    → Ends v (block e (end_code minus signed q n) v) b n byte (top_of signed byte)
ends e minus signed q n b byte v st clear bit is =
    each_end (λ code words. Ends v (block e code v) b n byte (top_of signed byte)) minus signed q n
    (λ r here reach. ends_there e minus signed q n b byte (r + n) v st clear bit is
    (subst (λ (p : Location). address e p n ≡ b + n) here (st.at n (omega arith))))
    (ends_aside e minus signed q n b byte v st clear bit is)

-- ---- the numbers

pub signed_top : (v w : View) (b n top : ℕ) → Ends v w b n 255 top → top ≡ 127 → value w.at b (suc n) + 1 ≡ 128 * 256 ^ n
signed_top v w b n top h e =
    let x = ones w.at b n h.low in
    let y : w.at (b + n) * 256 ^ n ≡ 127 * 256 ^ n = ap (λ k. k * 256 ^ n) (h.high ∙ e) in
    omega (arith, x, y)

pub signed_bottom : (v w : View) (b n top : ℕ) → Ends v w b n 0 top → top ≡ 128 → value w.at b (suc n) ≡ 128 * 256 ^ n
signed_bottom v w b n top h e =
    let x = zeros w.at b n h.low in
    let y : w.at (b + n) * 256 ^ n ≡ 128 * 256 ^ n = ap (λ k. k * 256 ^ n) (h.high ∙ e) in
    omega (arith, x, y)

pub plain_top : (v w : View) (b n : ℕ) → Ends v w b n 255 255 → value w.at b (suc n) + 1 ≡ 256 ^ n * 256
plain_top v w b n h =
    let x = ones w.at b n h.low in
    let y : w.at (b + n) * 256 ^ n ≡ 255 * 256 ^ n = ap (λ k. k * 256 ^ n) h.high in
    omega (arith, x, y)

pub plain_bottom : (v w : View) (b n : ℕ) → Ends v w b n 0 0 → value w.at b (suc n) ≡ 0
plain_bottom v w b n h =
    let x = zeros w.at b n h.low in
    let y : w.at (b + n) * 256 ^ n ≡ 0 * 256 ^ n = ap (λ k. k * 256 ^ n) h.high in
    omega (arith, x, y)
