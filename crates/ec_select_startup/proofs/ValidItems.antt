-- The items of the code before `main` are valid.
use Rattle.std.proofs.Common.{◌≡◌, ℕ, zero, suc, ◌+◌, ◌*◌, ◌/◌, ◌%◌, ◌<◌, ◌==◌, Bool, true, false, List, []}
use Rattle.std.proofs.Common.{◌≤◌, negsuc, ◌∷◌, ◌++◌, refl, ◌∙◌, arith, leb-true, get_or}
use Rattle.std.specs.Prelude.{nat_le, All, count_by, cond}
use Rattle.std.proofs.Math.Nat.{div-le_self}
use Rattle.std.specs.List.{list_all}
use Rattle.std.proofs.lemmas.Bool.{lt-ltb, eqb-true}
use Rattle.std.proofs.lemmas.List.Elements.{All-head, All-tail}
use Rattle.std.proofs.lemmas.List.Folds.{list_all-append, sum_by-zero}
use Rattle.ec_isa.specs.declared.instructions.Instr.TheVariants.{Brbc, Out as OutInstr}
use Rattle.ec_asm.specs.declared.items.AsmItem.{AsmItem}
use Rattle.ec_asm.specs.declared.items.AsmItem.TheVariants.{Plain}
use Rattle.ec_asm.specs.Valid.{is_offset, is_valid_item, used_label, is_label, is_placed}
use Rattle.ec_select_startup.specs.declared.spans.Filling.{Filling}
use Rattle.ec_select_startup.specs.declared.spans.Filling.TheVariants.{Copied, Cleared}
use Rattle.ec_select_startup.specs.declared.spans.Span.{Span}
use Rattle.ec_select_startup.specs.Startup.{address_code, stack_code, source_code, store_code, next_code, row_code, count_code}
use Rattle.ec_select_startup.specs.Startup.{end_code, byte_words, loop_code, bytes_a_turn, turns_code, stores_code}
use Rattle.ec_select_startup.specs.Startup.{most_stores, bytes_by, bytes_code, span_code, is_cleared, spans_code, main_code}
use Rattle.ec_select_startup.specs.Startup.{startup_code}
use Rattle.ec_select_startup.specs.Laws.{StartupIsValid, StartupUsesMain, StartupPlacesNoLabel}
use Rattle.ec_select_startup.proofs.PerTurn.{is_turn}

both : (p : AsmItem → Bool) (a b : List AsmItem) → list_all p a ≡ true → list_all p b ≡ true
    → list_all p (a ++ b) ≡ true
both p a b h k = list_all-append p a b ∙ rw (h, k) refl

-- a test that each part of the code passes. `N` are the bytes of objects whose addresses pass it, and `M` the numbers of
-- turns whose counts do
record Passes (p : AsmItem → Bool) (N : (object offset : ℕ) → Type 0) (M : ℕ → Type 0) (main : ℕ) : Type 0 where
  stack : (o : ℕ) → N o 0 → list_all p (address_code 24 o) ≡ true
  x : (o : ℕ) → N o 0 → list_all p (address_code 26 o) ≡ true
  source : (clear : Bool) (filling : Filling) (o : ℕ) → N o 0 → list_all p (source_code clear filling o) ≡ true
  out : list_all p (Plain (OutInstr 0x3E 25) ∷ Plain (OutInstr 0x3D 24) ∷ []) ≡ true
  next : (filling : Filling) → list_all p (next_code filling) ≡ true
  store : (filling : Filling) (o k : ℕ) → N o k → list_all p (store_code filling o k) ≡ true
  count : (turns : ℕ) → M turns → list_all p (count_code (nat_le turns 255) turns) ≡ true
  end : (small : Bool) (words : ℕ) → words ≤ 7 → list_all p (end_code small words) ≡ true
  finish : list_all p (main_code main) ≡ true

record IsNamed (N : (object offset : ℕ) → Type 0) (M : ℕ → Type 0) (s : Span) : Type 0 where
  from : N s.from 0
  to : (k : ℕ) → k ≤ s.bytes → N s.to k
  turns : M (s.bytes / bytes_a_turn s.filling s.bytes)

-- a turn has at most seven words of bytes
turn_small : (filling : Filling) (n : ℕ) → byte_words filling * bytes_a_turn filling n ≤ 7
turn_small filling n = let w = (is_turn filling n).words in omega (arith, w)

module _ (p : AsmItem → Bool) (N : (object offset : ℕ) → Type 0) (M : ℕ → Type 0) (main : ℕ) (h : Passes p N M main) where
  row_passes : (filling : Filling) (n : ℕ) → list_all p (row_code filling n) ≡ true
  row_passes filling zero = refl
  row_passes filling (suc n) = both p (row_code filling n) (next_code filling) (row_passes filling n) (h.next filling)

  stores_pass : (filling : Filling) (to n : ℕ) → ((k : ℕ) → k ≤ n → N to k) → list_all p (stores_code filling to n) ≡ true
  stores_pass filling to zero named = refl
  stores_pass filling to (suc n) named =
      both p (stores_code filling to n) (store_code filling to n)
      (stores_pass filling to n (λ k l. named k (omega (arith, l))))
      (h.store filling to n (named n (omega arith)))

  turns_pass : (filling : Filling) (n : ℕ) → M (n / bytes_a_turn filling n)
      → list_all p (turns_code filling (bytes_a_turn filling n) n) ≡ true
  turns_pass filling n m =
      let bytes = bytes_a_turn filling n in
      let turns = n / bytes in
      let small = nat_le turns 255 in
      let back = end_code small (byte_words filling * bytes) in
      let row = row_code filling bytes in
      let turn = both p row back (row_passes filling bytes) (h.end small (byte_words filling * bytes) (turn_small filling n)) in
      let loop = both p (count_code small turns) (row ++ back) (h.count turns m) turn in
      both p (loop_code filling small bytes turns) (row_code filling (n % bytes)) loop (row_passes filling (n % bytes))

  bytes_pass : (filling : Filling) (few : Bool) (to n : ℕ) → ((k : ℕ) → k ≤ n → N to k) → M (n / bytes_a_turn filling n)
      → list_all p (bytes_by filling few to n) ≡ true
  bytes_pass filling true to n named m = stores_pass filling to n named
  bytes_pass filling false to n named m =
      both p (address_code 26 to) (turns_code filling (bytes_a_turn filling n) n) (h.x to (named 0 (omega arith)))
      (turns_pass filling n m)

  span_passes : (clear : Bool) (s : Span) → IsNamed N M s → list_all p (span_code clear s) ≡ true
  span_passes clear s k =
      both p (source_code clear s.filling s.from) (bytes_code s.filling s.to s.bytes) (h.source clear s.filling s.from k.from)
      (bytes_pass s.filling (nat_le s.bytes (most_stores s.filling)) s.to s.bytes k.to k.turns)

  spans_pass : (clear : Bool) (spans : List Span) → All (IsNamed N M) spans → list_all p (spans_code clear spans) ≡ true
  spans_pass clear [] k = refl
  spans_pass clear (s ∷ ss) k =
      both p (span_code clear s) (spans_code (is_cleared s.filling) ss) (span_passes clear s (All-head (IsNamed N M) s ss k))
      (spans_pass (is_cleared s.filling) ss (All-tail (IsNamed N M) s ss k))

  startup_passes : (spans : List Span) → N 1281 0 → All (IsNamed N M) spans → list_all p (startup_code spans main) ≡ true
  startup_passes spans n k =
      let finish = main_code main in
      let stack = both p (address_code 24 1281) (Plain (OutInstr 0x3E 25) ∷ Plain (OutInstr 0x3D 24) ∷ []) (h.stack 1281 n) h.out in
      both p stack_code (spans_code false spans ++ finish) stack
      (both p (spans_code false spans) finish (spans_pass false spans k) h.finish)

-- ---- fields

pub startup_is_valid : StartupIsValid
startup_is_valid sizes spans main valid =
    startup_passes (is_valid_item sizes) (λ o k. is_offset sizes o k ≡ true) (λ n. n < 65536) main
    (record {
      stack = λ o q. rw q refl;
      x = λ o q. rw q refl;
      source = source_valid;
      out = refl;
      next = next_valid;
      store = store_valid;
      count = λ turns l. count_valid (nat_le turns 255) turns refl l;
      end = end_valid;
      finish = refl;
    })
    spans refl
    (λ k d l.
    let s = valid k d l in
    let at = get_or spans k d in
    let few = div-le_self at.bytes (bytes_a_turn at.filling at.bytes) in
    record { from = s.from; to = s.to; turns = omega (arith, s.bytes, few) })
  where
    source_valid : (clear : Bool) (filling : Filling) (o : ℕ) → is_offset sizes o 0 ≡ true
        → list_all (is_valid_item sizes) (source_code clear filling o) ≡ true
    source_valid clear Copied o q = rw q refl
    source_valid true Cleared o q = refl
    source_valid false Cleared o q = refl

    next_valid : (filling : Filling) → list_all (is_valid_item sizes) (next_code filling) ≡ true
    next_valid Copied = refl
    next_valid Cleared = refl

    store_valid : (filling : Filling) (o k : ℕ) → is_offset sizes o k ≡ true
        → list_all (is_valid_item sizes) (store_code filling o k) ≡ true
    store_valid Copied o k q = rw q refl
    store_valid Cleared o k q = rw q refl

    count_valid : (small : Bool) (turns : ℕ) → nat_le turns 255 ≡ small → turns < 65536
        → list_all (is_valid_item sizes) (count_code small turns) ≡ true
    count_valid true turns q l = let few = leb-true turns 255 q in rw (lt-ltb turns 256 (omega (arith, few))) refl
    count_valid false turns q l =
        rw (lt-ltb (turns % 256) 256 (omega arith), lt-ltb (turns / 256) 256 (omega (arith, l))) refl

    branch_valid : (words : ℕ) → words ≤ 7 → is_valid_item sizes (Plain (Brbc 1 (negsuc (words + 1)))) ≡ true
    branch_valid words l = rw (lt-ltb (words + 1) 64 (omega (arith, l))) refl

    end_valid : (small : Bool) (words : ℕ) → words ≤ 7 → list_all (is_valid_item sizes) (end_code small words) ≡ true
    end_valid true words l = rw (branch_valid words l) refl
    end_valid false words l = rw (branch_valid words l) refl

-- ---- labels

any_span : (spans : List Span) → All (IsNamed (λ o k. Unit {0}) (λ n. Unit {0})) spans
any_span spans k d l = record { from = tt; to = λ k l. tt; turns = tt }

pub startup_uses_main : StartupUsesMain
startup_uses_main items spans main placed =
    startup_passes (λ item. is_placed items (used_label item)) (λ o k. Unit {0}) (λ n. Unit {0}) main
    (record {
      stack = λ o q. refl;
      x = λ o q. refl;
      source = source_used;
      out = refl;
      next = next_used;
      store = store_used;
      count = λ turns l. count_used (nat_le turns 255) turns;
      end = λ small words l. refl;
      finish = rw placed refl;
    })
    spans tt (any_span spans)
  where
    is_used : AsmItem → Bool
    is_used item = is_placed items (used_label item)

    source_used : (clear : Bool) (filling : Filling) (o : ℕ) → Unit {0} → list_all is_used (source_code clear filling o) ≡ true
    source_used clear Copied o q = refl
    source_used true Cleared o q = refl
    source_used false Cleared o q = refl

    next_used : (filling : Filling) → list_all is_used (next_code filling) ≡ true
    next_used Copied = refl
    next_used Cleared = refl

    store_used : (filling : Filling) (o k : ℕ) → Unit {0} → list_all is_used (store_code filling o k) ≡ true
    store_used Copied o k q = refl
    store_used Cleared o k q = refl

    count_used : (small : Bool) (turns : ℕ) → list_all is_used (count_code small turns) ≡ true
    count_used true turns = refl
    count_used false turns = refl

pub startup_places_no_label : StartupPlacesNoLabel
startup_places_no_label spans main l =
    let number = λ (item : AsmItem). cond (is_label l item) 1 0 in
    let none = startup_passes (λ item. number item == 0) (λ o k. Unit {0}) (λ n. Unit {0}) main
    (record {
      stack = λ o q. refl;
      x = λ o q. refl;
      source = source_places;
      out = refl;
      next = next_places;
      store = store_places;
      count = λ turns l. count_places (nat_le turns 255) turns;
      end = λ small words l. refl;
      finish = refl;
    })
    spans tt (any_span spans) in
    eqb-true (count_by (is_label l) (startup_code spans main)) 0 (sum_by-zero number (startup_code spans main) ∙ none)
  where
    is_none : AsmItem → Bool
    is_none item = cond (is_label l item) 1 0 == 0

    source_places : (clear : Bool) (filling : Filling) (o : ℕ) → Unit {0} → list_all is_none (source_code clear filling o) ≡ true
    source_places clear Copied o q = refl
    source_places true Cleared o q = refl
    source_places false Cleared o q = refl

    next_places : (filling : Filling) → list_all is_none (next_code filling) ≡ true
    next_places Copied = refl
    next_places Cleared = refl

    store_places : (filling : Filling) (o k : ℕ) → Unit {0} → list_all is_none (store_code filling o k) ≡ true
    store_places Copied o k q = refl
    store_places Cleared o k q = refl

    count_places : (small : Bool) (turns : ℕ) → list_all is_none (count_code small turns) ≡ true
    count_places true turns = refl
    count_places false turns = refl
