-- A piece of code for each byte, one after another and in a loop of several a turn.
use Rattle.std.proofs.Common.{◌≡◌, ◌≢◌, ℕ, zero, suc, ◌+◌, ◌-◌, ◌*◌, ◌/◌, ◌%◌, ◌<◌, ◌≤◌, Bool, true, false, List, [], ◌∷◌, ◌++◌}
use Rattle.std.proofs.Common.{refl, sym, ap, ◌∙◌, subst, arith, negsuc, Some, ◌==◌}
use Rattle.std.specs.Int.{from_bool}
use Rattle.std.proofs.lemmas.Bool.{ne_eqb}
use Rattle.ec_isa.specs.declared.instructions.Instr.TheVariants.{Brbc}
use Rattle.ec_asm.specs.declared.items.AsmItem.{AsmItem}
use Rattle.ec_asm.specs.declared.items.AsmItem.TheVariants.{Plain}
use Rattle.ec_asm.specs.View.{View, put, pair}
use Rattle.ec_asm.specs.Change.{Env, change, goes_on}
use Rattle.ec_asm.specs.Run.{Running, act}
use Rattle.ec_asm.specs.Items.{At, HasAt, all_straight, block, chain, code_steps, code_words}
use Rattle.ec_asm.specs.Takes.{Goes}
use Rattle.ec_asm.proofs.Bytes.{put_other}
use Rattle.ec_asm.proofs.Hoare.{has_parts, block_goes, block-append, goes_on_to, one_goes, chain_straight, steps-chain}
use Rattle.ec_asm.proofs.ItemWords.{all_far, chain_far, chain_words, straight_ends}
use Rattle.ec_select_startup.specs.Startup.{count_code, down}
use Rattle.ec_select_startup.specs.Laws.{count_steps}
use Rattle.ec_select_startup.proofs.Bytes.{pair_is}

-- ---- the count

abbrev pub count_in : (small : Bool) → View → ℕ
count_in true v = v.at 24
count_in false v = pair v.at 24

abbrev pub most_turns : (small : Bool) → ℕ
most_turns true = 255
most_turns false = 65535

-- R25:R24 and flags may differ, and all else is as before
pub record IsCounted (v w : View) : Type 0 where
  pub same : (a : ℕ) → a ≢ 24 → a ≢ 25 → w.at a ≡ v.at a
  pub inputs : w.inputs ≡ v.inputs
  pub safe : w.safe ≡ v.safe
  pub seen : w.seen ≡ v.seen

count_set : (e : Env) (small : Bool) (turns : ℕ) (v : View) → IsCounted v (block e (count_code small turns) v)
count_set e true turns v = record {
  same = λ a n24 n25. put_other v.at 24 turns a n24;
  inputs = refl;
  safe = refl;
  seen = refl;
}
count_set e false turns v = record {
  same = λ a n24 n25. put_other (put v.at 24 (turns % 256)) 25 (turns / 256) a n25 ∙ put_other v.at 24 (turns % 256) a n24;
  inputs = refl;
  safe = refl;
  seen = refl;
}

count_is : (e : Env) (small : Bool) (turns : ℕ) (v : View) → count_in small (block e (count_code small turns) v) ≡ turns
count_is e true turns v = refl
count_is e false turns v = pair_is turns

count_goes : (e : Env) (small : Bool) (turns pc end : ℕ) (v : View) → HasAt e (count_code small turns) pc end
    → Goes e (count_steps small) pc v end (block e (count_code small turns) v)
count_goes e true turns pc end v at = block_goes e (count_code true turns) pc end v refl at
count_goes e false turns pc end v at = block_goes e (count_code false turns) pc end v refl at

-- one turn less is left
record CountsDown (e : Env) (small : Bool) (k : ℕ) (v w : View) : Type 0 where
  beside : IsCounted v w
  left : count_in small w ≡ k
  top : w.flags.z ≡ from_bool (k == 0)

down_counts : (e : Env) (small : Bool) (k : ℕ) (v : View) → suc k ≤ most_turns small → count_in small v ≡ suc k
    → CountsDown e small k v (change e (down small) v)
down_counts e true k v l c =
    let x = (v.at 24 + 255) % 256 in
    let less : x ≡ k = omega (arith, c, l) in
    record {
      beside = record {
        same = λ a n24 n25. put_other v.at 24 x a n24;
        inputs = refl;
        safe = refl;
        seen = refl;
      };
      left = less;
      top = ap (λ x. from_bool (x == 0)) less;
    }
down_counts e false k v l c =
    let x = (pair v.at 24 + 65536 - 1) % 65536 in
    let less : x ≡ k = omega (arith, c, l) in
    record {
      beside = record {
        same = λ a n24 n25. put_other (put v.at 24 (x % 256)) 25 (x / 256) a n25 ∙ put_other v.at 24 (x % 256) a n24;
        inputs = refl;
        safe = refl;
        seen = refl;
      };
      left = pair_is x ∙ less;
      top = ap (λ x. from_bool (x == 0)) less;
    }

down_goes_on : (small : Bool) → goes_on (down small) ≡ true
down_goes_on true = refl
down_goes_on false = refl

-- ---- the bytes

-- a run of so many steps to where something holds
pub record Reaches (e : Env) (P : View → Type 0) (steps pc : ℕ) (v : View) (end : ℕ) : Type 0 where
  pub last : View
  pub goes : Goes e steps pc v end last
  pub holds : P last

-- Code that takes what holds after i bytes to what holds after one more, for n bytes. It leaves R25:R24 alone, and what
-- holds does not speak of them
pub record IsByte (e : Env) (byte : List AsmItem) (width n : ℕ) (P : ℕ → View → Type 0) : Type 0 where
  pub straight : all_straight byte ≡ true
  pub far : all_far e byte ≡ true
  pub steps : code_steps byte ≡ width
  pub words : code_words byte ≡ width
  pub step : (i : ℕ) (v : View) → i < n → P i v → P (suc i) (block e byte v)
  pub low : (i : ℕ) (v : View) → i < n → P i v → (block e byte v).at 24 ≡ v.at 24
  pub high : (i : ℕ) (v : View) → i < n → P i v → (block e byte v).at 25 ≡ v.at 25
  pub beside : (i : ℕ) (v w : View) → IsCounted v w → P i v → P i w

module _ (e : Env) (byte : List AsmItem) (width n : ℕ) (P : ℕ → View → Type 0) (is : IsByte e byte width n P) where
  record Row (i c : ℕ) (v w : View) : Type 0 where
    holds : P (i + c) w
    low : w.at 24 ≡ v.at 24
    high : w.at 25 ≡ v.at 25

  -- ---- one after another

  row_holds : (i c : ℕ) (v : View) → i + c ≤ n → P i v → Row i c v (block e (chain (λ i. byte) c) v)
  row_holds i zero v l m =
      let none : i ≡ i + 0 = omega arith in record { holds = subst (λ j. P j v) none m; low = refl; high = refl }
  row_holds i (suc c) v l m =
      let code = chain (λ i. byte) c in
      let w = block e code v in
      let r = row_holds i c v (omega arith) m in
      let more : suc (i + c) ≡ i + suc c = omega arith in
      let s : Row i (suc c) v (block e byte w) = record {
        holds = subst (λ j. P j (block e byte w)) more (is.step (i + c) w (omega arith) r.holds);
        low = is.low (i + c) w (omega arith) r.holds ∙ r.low;
        high = is.high (i + c) w (omega arith) r.holds ∙ r.high;
      } in
      subst (λ w. Row i (suc c) v w) (sym (block-append e code byte v)) s

  row_goes : (c pc end : ℕ) (v : View) → HasAt e (chain (λ i. byte) c) pc end
      → Goes e (width * c) pc v end (block e (chain (λ i. byte) c) v)
  row_goes c pc end v at =
      let code = chain (λ i. byte) c in
      let sum : code_steps code ≡ width * c = omega (arith, steps-chain (λ i. byte) c width (λ i. is.steps)) in
      subst (λ j. Goes e j pc v end (block e code v)) sum
      (block_goes e code pc end v (chain_straight (λ i. byte) c (λ i. is.straight)) at)

  pub row_reaches : (i c pc end : ℕ) (v : View) → i + c ≤ n → P i v → HasAt e (chain (λ i. byte) c) pc end
      → Reaches e (P (i + c)) (width * c) pc v end
  row_reaches i c pc end v l m at = record {
    last = block e (chain (λ i. byte) c) v;
    goes = row_goes c pc end v at;
    holds = (row_holds i c v l m).holds;
  }

  row_ends : (c pc end : ℕ) → HasAt e (chain (λ i. byte) c) pc end → end ≡ pc + width * c
  row_ends c pc end at =
      straight_ends e (chain (λ i. byte) c) pc end (chain_straight (λ i. byte) c (λ i. is.straight))
      (chain_far e (λ i. byte) c (λ i l. is.far)) at
      ∙ ap (λ k. pc + k) (chain_words (λ i. byte) c width (λ i. is.words))

  count_kept : (small : Bool) (i c : ℕ) (v w : View) → Row i c v w → count_in small w ≡ count_in small v
  count_kept true i c v w r = r.low
  count_kept false i c v w r = ap (λ x. x + 256 * w.at 25) r.low ∙ ap (λ x. v.at 24 + 256 * x) r.high

  -- ---- in a loop

  module _ (small : Bool) (c start count back end : ℕ) (bytes : HasAt e (chain (λ i. byte) c) start count)
      (last : At e (down small) count back) (branch : At e (Brbc 1 (negsuc (width * c + 1))) back end) where
    passed : (v : View) → v.flags.z ≡ 1 → Goes e 1 back v end v
    passed v q =
        let m = branch.ends in
        let r = branch.room in
        let to : (back + 1) % 65536 ≡ end = omega arith in
        let b : act e (Some (Brbc 1 (negsuc (width * c + 1)))) back v ≡ Running ((back + 1) % 65536) v = rw q refl in
        record { by = ap (λ o. act e o back v) branch.is ∙ b ∙ ap (λ k. Running k v) to }

    taken : (v : View) → v.flags.z ≡ 0 → Goes e 1 back v start v
    taken v q =
        let m1 = row_ends c start count bytes in
        let m2 : back ≡ count + 1 = ends small last in
        let r = last.room in
        let to : (back + 65536 - (width * c + 1)) % 65536 ≡ start = omega (arith, m1, m2, r) in
        let b : act e (Some (Brbc 1 (negsuc (width * c + 1)))) back v
        ≡ Running ((back + 65536 - (width * c + 1)) % 65536) v = rw q refl in
        record { by = ap (λ o. act e o back v) branch.is ∙ b ∙ ap (λ k. Running k v) to }
      where
        ends : (small : Bool) → At e (down small) count back → back ≡ count + 1
        ends true a = a.ends
        ends false a = a.ends

    record Turned (i k : ℕ) (v w : View) : Type 0 where
      goes : Goes e (width * c + 1) start v back w
      holds : P (i + c) w
      left : count_in small w ≡ k
      top : w.flags.z ≡ from_bool (k == 0)

    -- the bytes of a turn, and one turn less is left
    turn : (i k : ℕ) (v : View) → i + c ≤ n → suc k ≤ most_turns small → P i v → count_in small v ≡ suc k
        → Turned i k v (change e (down small) (block e (chain (λ i. byte) c) v))
    turn i k v l u m q =
        let v1 = block e (chain (λ i. byte) c) v in
        let r = row_holds i c v l m in
        let d = down_counts e small k v1 u (count_kept small i c v v1 r ∙ q) in
        let w = change e (down small) v1 in
        record {
          goes = goes_on_to e (width * c) 1 start count back v v1 w (row_goes c start count v bytes)
              (one_goes e (down small) count back v1 (down_goes_on small) last);
          holds = is.beside (i + c) v1 w d.beside r.holds;
          left = d.left;
          top = d.top;
        }

    -- with so many turns left and one more
    loop : (k i : ℕ) (v : View) → i + c * suc k ≤ n → suc k ≤ most_turns small → P i v → count_in small v ≡ suc k
        → Reaches e (P (i + c * suc k)) ((width * c + 2) * suc k) start v end
    loop zero i v l u m q =
        let w = change e (down small) (block e (chain (λ i. byte) c) v) in
        let r = turn i zero v (omega (arith, l)) u m q in
        let done : i + c ≡ i + c * 1 = omega arith in
        let sum : width * c + 1 + 1 ≡ (width * c + 2) * 1 = omega arith in
        record {
          last = w;
          goes = subst (λ j. Goes e j start v end w) sum
              (goes_on_to e (width * c + 1) 1 start back end v w w r.goes (passed w r.top));
          holds = subst (λ j. P j w) done r.holds;
        }
    loop (suc k) i v l u m q =
        let w = change e (down small) (block e (chain (λ i. byte) c) v) in
        let more : c * suc (suc k) ≡ c + c * suc k = omega arith in
        let within : i + c ≤ n = omega (arith, l, more) in
        let rest : i + c + c * suc k ≤ n = omega (arith, l, more) in
        let r = turn i (suc k) v within u m q in
        let zero_clear : from_bool (suc k == 0) ≡ 0 = rw (ne_eqb (suc k) 0 (omega arith)) refl in
        let s = loop k (i + c) w rest (omega (arith, u)) r.holds r.left in
        let done : i + c + c * suc k ≡ i + c * suc (suc k) = omega (arith, more) in
        let one = width * c + 2 in
        let sum : width * c + 1 + 1 + one * suc k ≡ one * suc (suc k) = omega arith in
        record {
          last = s.last;
          goes = subst (λ j. Goes e j start v end s.last) sum
              (goes_on_to e (width * c + 1 + 1) (one * suc k) start start end v w s.last
              (goes_on_to e (width * c + 1) 1 start back start v w w r.goes (taken w (r.top ∙ zero_clear))) s.goes);
          holds = subst (λ j. P j s.last) done s.holds;
        }

  -- the count, and then so many turns
  pub loop_reaches : (small : Bool) (c turns pc end : ℕ) (v : View) → 1 ≤ turns → c * turns ≤ n → turns ≤ most_turns small → P 0 v
      → HasAt e (count_code small turns
      ++ (chain (λ i. byte) c ++ (Plain (down small) ∷ Plain (Brbc 1 (negsuc (width * c + 1))) ∷ []))) pc end
      → Reaches e (P (c * turns)) (count_steps small + (width * c + 2) * turns) pc v end
  loop_reaches small c zero pc end v some l u m at = absurd (omega (arith, some))
  loop_reaches small c (suc q) pc end v some l u m at =
      let code = count_code small (suc q) in
      let tail = Plain (down small) ∷ Plain (Brbc 1 (negsuc (width * c + 1))) ∷ [] in
      let parts = has_parts e code (chain (λ i. byte) c ++ tail) pc end at in
      let more = has_parts e (chain (λ i. byte) c) tail parts.0 end parts.2 in
      let rest = more.2 in
      let branch : At e (Brbc 1 (negsuc (width * c + 1))) rest.0 end =
      subst (λ i. At e (Brbc 1 (negsuc (width * c + 1))) rest.0 i) (sym rest.2.2) rest.2.1 in
      let v1 = block e code v in
      let none : 0 + c * suc q ≡ c * suc q = omega arith in
      let within : 0 + c * suc q ≤ n = omega (arith, l) in
      let s = loop small c parts.0 more.0 rest.0 end more.1 rest.1 branch q 0 v1 within u
      (is.beside 0 v v1 (count_set e small (suc q) v) m) (count_is e small (suc q) v) in
      record {
        last = s.last;
        goes = goes_on_to e (count_steps small) ((width * c + 2) * suc q) pc parts.0 end v v1 s.last
            (count_goes e small (suc q) pc parts.0 v parts.1) s.goes;
        holds = subst (λ j. P j s.last) none s.holds;
      }

  -- the turns, and what is left over
  pub turns_reach : (small : Bool) (c turns over pc end : ℕ) (v : View) → 1 ≤ turns → c * turns + over ≡ n
      → turns ≤ most_turns small → P 0 v
      → HasAt e ((count_code small turns
      ++ (chain (λ i. byte) c ++ (Plain (down small) ∷ Plain (Brbc 1 (negsuc (width * c + 1))) ∷ [])))
      ++ chain (λ i. byte) over) pc end
      → Reaches e (P n) (count_steps small + (width * c + 2) * turns + width * over) pc v end
  turns_reach small c turns over pc end v some sum u m at =
      let code = count_code small turns
      ++ (chain (λ i. byte) c ++ (Plain (down small) ∷ Plain (Brbc 1 (negsuc (width * c + 1))) ∷ [])) in
      let parts = has_parts e code (chain (λ i. byte) over) pc end at in
      let r = loop_reaches small c turns pc parts.0 v some (omega (arith, sum)) u m parts.1 in
      let s = row_reaches (c * turns) over parts.0 end r.last (omega (arith, sum)) r.holds parts.2 in
      record {
        last = s.last;
        goes = goes_on_to e (count_steps small + (width * c + 2) * turns) (width * over) pc parts.0 end v r.last s.last r.goes
            s.goes;
        holds = subst (λ j. P j s.last) sum s.holds;
      }
