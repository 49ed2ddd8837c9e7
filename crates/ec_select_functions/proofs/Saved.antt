-- What of registers is saved before a call, and loaded after it.
use Rattle.std.proofs.Common.{◌≡◌, ◌≢◌, ℕ, zero, suc, ◌+◌, ◌-◌, ◌*◌, ◌<◌, ◌≤◌, min, ⊎_elim, Bool, true, false, List}
use Rattle.std.proofs.Common.{refl, sym, ◌∙◌, subst, arith, append-nil, leb-true, suc-mul}
use Rattle.std.specs.Prelude.{nat_le, if◌then◌else◌}
use Rattle.std.proofs.lemmas.Bool.{cases_eq, cases_lt}
use Rattle.std.proofs.lemmas.Nat.{mul-le}
use Rattle.ec_asm.specs.declared.items.AsmItem.{AsmItem}
use Rattle.ec_asm.specs.declared.pieces.Location.TheVariants.{InRegisters}
use Rattle.ec_asm.specs.View.{View}
use Rattle.ec_asm.specs.Change.{Env, Own}
use Rattle.ec_asm.specs.Items.{block, chain, all_straight, code_steps}
use Rattle.ec_asm.specs.Pieces.{StandsFrom, Outside, CopiesTo}
use Rattle.ec_asm.specs.PieceLaws.{HoldsNumbers}
use Rattle.ec_asm.proofs.Compared.{copy_holds}
use Rattle.ec_asm.proofs.Hoare.{block-append, straight-append, steps-append}
use Rattle.ec_select_operations.specs.declared.homes.Homes.{Homes}
use Rattle.ec_select_operations.specs.Code.{place_register, kept_bytes, waiting_location, save_place, restore_place}
use Rattle.ec_select_operations.specs.Needs.{Need}
use Rattle.ec_select_functions.specs.Standing.{ScratchStands}
use Rattle.ec_select_functions.proofs.Moves.{Quiet, quiet_then, copy_straight, copy_steps, no_log}

-- ---- chains of short code

chain_straight : (f : ℕ → List AsmItem) (n : ℕ) → ((k : ℕ) → all_straight (f k) ≡ true) → all_straight (chain f n) ≡ true
chain_straight f zero h = refl
chain_straight f (suc n) h = straight-append (chain f n) (f n) (chain_straight f n h) (h n)

chain_most : (f : ℕ → List AsmItem) (n most : ℕ) → ((k : ℕ) → code_steps (f k) ≤ most) → code_steps (chain f n) ≤ n * most
chain_most f zero most h = omega arith
chain_most f (suc n) most h =
    let x = chain_most f n most h in
    let z = h n in
    let e : suc n * most ≡ n * most + most = suc_times n most in
    omega (arith, steps-append (chain f n) (f n), x, z, e)
  where
    suc_times : (n m : ℕ) → suc n * m ≡ n * m + m
    suc_times n m = suc-mul n m

-- a number from a row of them
number_of_row : (v w : View) (a b n : ℕ) → HoldsNumbers v → 2 ≤ a → ((j : ℕ) → j < n → w.at (b + j) ≡ v.at (a + j))
    → ((k : ℕ) → k ≢ 0 → Outside b n k → w.at k ≡ v.at k) → HoldsNumbers w
number_of_row v w a b n h some there same k u =
    ⊎_elim
    (λ (l : k < b). rw (same k (omega arith) (λ x. absurd (omega arith))) (h k u))
    (λ (l : b ≤ k).
    ⊎_elim
    (λ (m : k < b + n). let e : b + (k - b)
    ≡ k = omega arith in let z = h (a + (k - b)) (omega arith) in let t = there (k - b) (omega arith) in subst (λ i. w.at i < 256) e
    (rw t z))
    (λ (m : b + n ≤ k). rw (same k (omega arith) (λ x. m)) (h k u))
    (cases_lt k (b + n)))
    (cases_lt k b)

module _ (e : Env) (slots : ℕ) (h : Homes) (scratch : ℕ) (s : ScratchStands e slots h scratch) (need : Need) where
  abbrev pub kept : ℕ → ℕ
  kept place = kept_bytes h place (need place)

  abbrev pub register : ℕ → ℕ
  register place = place_register h place

  abbrev pub spare : ℕ → ℕ
  spare place = scratch + (16 * place + 8)

  abbrev pub saving : ℕ → List AsmItem
  saving place = save_place h place (need place)

  abbrev pub loading : ℕ → List AsmItem
  loading place = restore_place h place (need place)

  -- what is kept of a place
  pub record Kept (place : ℕ) : Type 0 where
    pub width : kept place ≤ h.width
    pub most : kept place ≤ 4
    pub deep : 1 ≤ kept place → h.width * (place + 1) ≤ 12

  width_most : h.width ≤ 4
  width_most = ⊎_elim (λ (q : h.width ≡ 2). omega arith) (λ (q : h.width ≡ 4). omega arith) s.width

  pub are_kept : (place : ℕ) → Kept place
  are_kept place =
      let r = by (nat_le (h.width * (place + 1)) 12) refl in
      record { width = r.0; most = r.1; deep = r.2 }
    where
      by : (b : Bool) → nat_le (h.width * (place + 1)) 12 ≡ b
          → ((if b then min (need place) h.width else 0) ≤ h.width) × ((if b then min (need place) h.width else 0) ≤ 4)
          × (1 ≤ (if b then min (need place) h.width else 0) → h.width * (place + 1) ≤ 12)
      by true q = let l = width_most in (omega arith, omega (arith, l), λ x. leb-true (h.width * (place + 1)) 12 q)
      by false q = (omega arith, omega arith, λ x. absurd (omega arith))

  -- where the registers of a place begin: they are below R26, and above those of a later place
  pub register_low : (place : ℕ) → place < 6 → 2 ≤ register place
  register_low place l =
      ⊎_elim (λ (q : h.width ≡ 2). rw q (omega arith)) (λ (q : h.width ≡ 4). rw q (omega arith)) s.width

  pub register_ends : (place : ℕ) → 1 ≤ kept place → (register place + kept place ≤ 26) × (14 ≤ register place)
  register_ends place some =
      let k = are_kept place in
      let w = k.width in
      let d = k.deep some in
      let m : h.width * 1 ≤ h.width * (place + 1) = mul-le h.width 1 h.width (place + 1) (omega arith) (omega arith) in
      (omega (arith, w, d, m), omega (arith, d))

  pub register_apart : (a b : ℕ) → a < b → 1 ≤ kept b → register b + kept b ≤ register a
  register_apart a b l some =
      let k = are_kept b in
      let w = k.width in
      let d = k.deep some in
      let m : h.width * (a + 1 + 1) ≤ h.width * (b + 1) = mul-le h.width (a + 1 + 1) h.width (b + 1) (omega arith) (omega arith) in
      omega (arith, w, d, m)

  in_scratch : (place : ℕ) → place < slots → StandsFrom e (waiting_location h place) (kept place) (spare place) Own
  in_scratch place l =
      let high = s.high in
      let most = (are_kept place).most in
      record {
        at = λ i q. s.at (16 * place + 8 + i) (omega (arith, most)) ∙ sym (joined i);
        kind = λ i q. subst (λ a. e.kind a ≡ Own) (sym (joined i)) (s.kind (16 * place + 8 + i) (omega (arith, most)));
        clear = omega arith;
      }
    where
      joined : (i : ℕ) → scratch + (16 * place + 8) + i ≡ scratch + (16 * place + 8 + i)
      joined i = omega arith

  in_registers : (place : ℕ) → place < 6 → StandsFrom e (InRegisters (register place)) (kept place) (register place) Own
  in_registers place l = record { at = λ i q. refl; kind = λ i q. refl; clear = register_low place l }

  -- ---- before a call

  -- the registers of the first n places are saved
  pub record Saves (v w : View) (n : ℕ) : Type 0 where
    pub there : (place i : ℕ) → place < n → i < kept place → w.at (spare place + i) ≡ v.at (register place + i)
    pub same : (k : ℕ) → k ≢ 0 → ((place : ℕ) → place < n → Outside (spare place) (kept place) k) → w.at k ≡ v.at k
    pub numbers : HoldsNumbers w
    pub quiet : Quiet v w

  pub saves : (v : View) → HoldsNumbers v → (n : ℕ) → n ≤ slots → n ≤ 6 → Saves v (block e (chain saving n) v) n
  saves v hv zero l m = record {
    there = λ place i q r. absurd (omega arith);
    same = λ k q r. refl;
    numbers = hv;
    quiet = record { inputs = refl; safe = refl; seen = refl };
  }
  saves v hv (suc n) l m =
      let before = block e (chain saving n) v in
      let after = block e (saving n) before in
      let ih = saves v hv n (omega arith) (omega arith) in
      let high = s.high in
      let most = (are_kept n).most in
      let low = register_low n (omega arith) in
      let below : register n ≤ 26 = omega arith in
      let c =
      copy_holds e (InRegisters (register n)) (waiting_location h n) (kept n) (register n) (spare n) Own Own before
      (in_registers n (omega arith)) (in_scratch n (omega arith)) refl refl (λ q. omega (arith, below, most, high)) in
      rw (block-append e (chain saving n) (saving n) v)
      (joined before after ih c low high most below)
    where
      joined : (before after : View) → Saves v before n → CopiesTo before (register n) (spare n) Own Own (kept n) after → 2 ≤ register n
          → 256 ≤ scratch → kept n ≤ 4 → register n ≤ 26 → Saves v after (suc n)
      joined before after ih c low high most below = record {
        there = λ place i q r.
            ⊎_elim
            (λ (x : place < n).
            let k = (are_kept place).most in
            c.same (spare place + i) (omega arith) (λ z. absurd (omega (arith, k, x))) ∙ ih.there place i x r)
            (λ (x : n ≤ place).
            let z : place ≡ n = omega arith in
            let r1 : i < kept n = subst (λ j. i < kept j) z r in
            let reg : before.at (register n + i) ≡ v.at (register n + i) =
            ih.same (register n + i) (omega arith) (λ j y u. absurd (omega (arith, below, most, high))) in
            subst (λ j. after.at (spare j + i) ≡ v.at (register j + i)) (sym z) (c.there i r1 ∙ reg))
            (cases_lt place n);
        same = λ k q r. c.same k q (r n (omega arith)) ∙ ih.same k q (λ place x. r place (omega arith));
        numbers = number_of_row before after (register n) (spare n) (kept n) ih.numbers low c.there (λ k q r. c.same k q r);
        quiet = quiet_then v before after ih.quiet
            (record {
              inputs = c.inputs;
              safe = c.safe;
              seen = c.seen
                  ∙ rw (no_log (register n) (spare n) before.at (kept n)) (append-nil before.seen);
            });
      }

  -- ---- after it

  pub record Restores (v w : View) (n : ℕ) : Type 0 where
    pub there : (place i : ℕ) → place < n → i < kept place → w.at (register place + i) ≡ v.at (spare place + i)
    pub same : (k : ℕ) → k ≢ 0 → ((place : ℕ) → place < n → Outside (register place) (kept place) k) → w.at k ≡ v.at k
    pub numbers : HoldsNumbers w
    pub quiet : Quiet v w

  pub restores : (v : View) → HoldsNumbers v → (n : ℕ) → n ≤ slots → n ≤ 6
      → Restores v (block e (chain loading n) v) n
  restores v hv zero l m = record {
    there = λ place i q r. absurd (omega arith);
    same = λ k q r. refl;
    numbers = hv;
    quiet = record { inputs = refl; safe = refl; seen = refl };
  }
  restores v hv (suc n) l m =
      let before = block e (chain loading n) v in
      let after = block e (loading n) before in
      let ih = restores v hv n (omega arith) (omega arith) in
      let high = s.high in
      let low = register_low n (omega arith) in
      let below : register n ≤ 26 = omega arith in
      let c =
      copy_holds e (waiting_location h n) (InRegisters (register n)) (kept n) (spare n) (register n) Own Own before
      (in_scratch n (omega arith)) (in_registers n (omega arith)) refl refl (λ q. absurd (omega (arith, below, high))) in
      rw (block-append e (chain loading n) (loading n) v)
      (joined before after ih c low high)
    where
      -- an address that is high is none of the registers
      none_high : (j k : ℕ) → 256 ≤ k → Outside (register j) (kept j) k
      none_high j k u q = let most = (are_kept j).most in let below : register j ≤ 26 = omega arith in omega (arith, most, below, u)

      earlier_kept : (place i : ℕ) → place < n → Outside (register n) (kept n) (register place + i)
      earlier_kept place i x q =
          ⊎_elim
          (λ (z : kept n ≡ 0). omega arith)
          (λ (z : kept n ≢ 0). let r = register_apart place n x (omega arith) in omega arith)
          (cases_eq (kept n) 0)

      joined : (before after : View) → Restores v before n → CopiesTo before (spare n) (register n) Own Own (kept n) after
          → 2 ≤ register n → 256 ≤ scratch → Restores v after (suc n)
      joined before after ih c low high = record {
        there = λ place i q r.
            ⊎_elim
            (λ (x : place < n).
            let some = register_low place (omega arith) in
            c.same (register place + i) (omega arith) (earlier_kept place i x) ∙ ih.there place i x r)
            (λ (x : n ≤ place).
            let z : place ≡ n = omega arith in
            let r1 : i < kept n = subst (λ j. i < kept j) z r in
            let reg : before.at (spare n + i) ≡ v.at (spare n + i) =
            ih.same (spare n + i) (omega arith) (λ j y. none_high j (spare n + i) (omega arith)) in
            subst (λ j. after.at (register j + i) ≡ v.at (spare j + i)) (sym z) (c.there i r1 ∙ reg))
            (cases_lt place n);
        same = λ k q r. c.same k q (r n (omega arith)) ∙ ih.same k q (λ place x. r place (omega arith));
        numbers = number_of_row before after (spare n) (register n) (kept n) ih.numbers (omega arith) c.there (λ k q r. c.same k q r);
        quiet = quiet_then v before after ih.quiet
            (record {
              inputs = c.inputs;
              safe = c.safe;
              seen = c.seen
                  ∙ rw (no_log (spare n) (register n) before.at (kept n)) (append-nil before.seen);
            });
      }

  -- ---- the form of the code

  pub save_form : (n : ℕ) → n ≤ 6
      → (all_straight (chain saving n) ≡ true) × (code_steps (chain saving n) ≤ 48)
  save_form n l =
      let x =
      chain_most saving n 8
      (λ k. let z = (copy_steps (InRegisters (register k)) (waiting_location h k) (kept k)).1 in let most = (are_kept k).most in omega
      (arith, z, most)) in
      (chain_straight saving n (λ k. copy_straight (InRegisters (register k)) (waiting_location h k) (kept k)), omega (arith, x))

  pub restore_form : (n : ℕ) → n ≤ 6
      → (all_straight (chain loading n) ≡ true) × (code_steps (chain loading n) ≤ 48)
  restore_form n l =
      let x =
      chain_most loading n 8
      (λ k. let z = (copy_steps (waiting_location h k) (InRegisters (register k)) (kept k)).1 in let most = (are_kept k).most in omega
      (arith, z, most)) in
      (chain_straight loading n (λ k. copy_straight (waiting_location h k) (InRegisters (register k)) (kept k)), omega (arith, x))
