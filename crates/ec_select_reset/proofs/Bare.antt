-- The environment in which all of memory is noted and no byte is the stack's: where the startup code makes no barred
-- access there, it makes no accesses but those that are noted.
use Rattle.std.proofs.Common.{◌≡◌, ⊎_elim, inl, inr, ℕ, zero, suc, ◌+◌, ◌<◌, ◌≤◌, Bool, true, false, not, ◌&&◌, List, [], ◌∷◌}
use Rattle.std.proofs.Common.{◌++◌, All, length, refl, sym, ap, ◌∙◌, subst, arith, append_assoc}
use Rattle.std.specs.Prelude.{◌==◌, ◌||◌, nat_lt, nat_le, if◌then◌else◌}
use Rattle.std.specs.List.{AllByRecursion}
use Rattle.std.proofs.lemmas.Bool.{and_parts, or_cases, false≢true, le-ltb, ltb-false, leb-true, le-leb}
use Rattle.std.proofs.lemmas.List.Elements.{All-head, All-tail}
use Rattle.ec_space.specs.declared.space.Bank.TheVariants.{Flash as FlashBank, Data as DataBank}
use Rattle.ec_isa.specs.declared.instructions.Instr.{Instr}
use Rattle.ec_space.specs.declared.Core.{Core}
use Rattle.ec_avr.specs.State.{is_core_register}
use Rattle.ec_avr.specs.declared.machine.Access.{Access}
use Rattle.ec_avr.specs.declared.machine.Access.TheVariants.{Silent, In, Out, Read, Write, Stack}
use Rattle.ec_asm.specs.declared.items.AsmItem.{AsmItem}
use Rattle.ec_asm.specs.declared.items.AsmItem.TheVariants.{Plain, Label, JumpTo, CallTo, BranchTo, LoadPart, LoadObj, StoreObj}
use Rattle.ec_asm.specs.View.{is_apart}
use Rattle.ec_asm.specs.Change.{Env, Kind, Own, Object, Port, Stacked, Page, Barred}
use Rattle.ec_asm.specs.Items.{At, IsNear, JumpsAt, CallsAt, BranchesAt, Stands, HasAt}
use Rattle.ec_asm.specs.Pieces.{is_held}
use Rattle.ec_asm.specs.Shows.{Fits, may_be, in_flash, noted, noted_all}
use Rattle.ec_asm_accesses.specs.Allowed.{IsAllowed}
use Rattle.ec_select_startup.specs.declared.spans.Filling.{Filling}
use Rattle.ec_select_startup.specs.declared.spans.Filling.TheVariants.{Copied, Cleared}
use Rattle.ec_select_startup.specs.declared.spans.Span.{Span}
use Rattle.ec_select_startup.specs.Laws.{source, target, CanBeSet, HasStack, byte_accesses, accesses, span_accesses, all_accesses}
use Rattle.ec_select_reset.specs.Laws.{all_but_silent}

-- a register that is looked at by its address: neither RAMPZ nor SREG, and none of Y's
abbrev pub is_seen : Core → ℕ → Bool
is_seen core a = is_core_register core a && not (is_apart a) && not (a == 28 || a == 29)

abbrev pub bare_kind : Core → (size a : ℕ) → Kind
bare_kind core size a =
    if nat_lt a 256 then (if is_seen core a then Own else Barred)
    else if nat_lt a size then Object else Barred

abbrev pub bare_table : (size a : ℕ) → Kind
bare_table size a = if nat_lt a size then Object else Barred

abbrev pub bare : Env → ℕ → Env
bare e size = record {
  core = e.core;
  flash = e.flash;
  word_of = e.word_of;
  address_of = e.address_of;
  far_of = e.far_of;
  base = e.base;
  kind = bare_kind e.core size;
  table = bare_table (length e.flash);
}

-- ---- bytes that are held lie in memory

core_is_low : (core : Core) (a : ℕ) → is_core_register core a ≡ true → a < 256
core_is_low core a h = grind arith

held_below : (core : Core) (k : Kind) (size a : ℕ) → 256 ≤ a → is_held k ≡ true → may_be core k size a ≡ true → nat_lt a size ≡ true
held_below core Own size a high held may =
    ⊎_elim
    (λ c. let low = core_is_low core a (and_parts (is_core_register core a) (not (is_apart a)) c).0 in absurd (omega (arith, low, high)))
    (λ c. (and_parts (nat_le 256 a) (nat_lt a size) c).1)
    (or_cases (is_core_register core a && not (is_apart a)) (nat_le 256 a && nat_lt a size) may)
held_below core Object size a high held may = (and_parts (nat_le 256 a) (nat_lt a size) may).1
held_below core Port size a high held may = absurd (false≢true held)
held_below core Stacked size a high held may = absurd (false≢true held)
held_below core Page size a high held may = absurd (false≢true held)
held_below core Barred size a high held may = absurd (false≢true held)

table_below : (k : Kind) (size a : ℕ) → is_held k ≡ true → in_flash k size a ≡ true → nat_lt a size ≡ true
table_below Own size a held may = may
table_below Object size a held may = may
table_below Port size a held may = absurd (false≢true held)
table_below Stacked size a held may = absurd (false≢true held)
table_below Page size a held may = absurd (false≢true held)
table_below Barred size a held may = absurd (false≢true held)

never_stacked : (core : Core) (size a : ℕ) → bare_kind core size a ≡ Stacked → ⊥
never_stacked core size a h = by_tests (nat_lt a 256) (is_seen core a) (nat_lt a size) h where
  by_tests : (b c d : Bool) → (if b then (if c then Own else Barred) else if d then Object else Barred) ≡ Stacked → ⊥
  by_tests true true d q = cc
  by_tests true false d q = cc
  by_tests false c true q = cc
  by_tests false c false q = cc

-- above the ports what is held is noted
held_is_object : (core : Core) (size a : ℕ) → 256 ≤ a → is_held (bare_kind core size a) ≡ true → bare_kind core size a ≡ Object
held_is_object core size a high held = rw (le-ltb a 256 high) (by_test (nat_lt a size) (rw (le-ltb a 256 high) at held)) where
  by_test : (b : Bool) → is_held (if b then Object else Barred) ≡ true → (if b then Object else Barred) ≡ Object
  by_test true h = refl
  by_test false h = absurd (false≢true h)

table_is_object : (size a : ℕ) → is_held (bare_table size a) ≡ true → bare_table size a ≡ Object
table_is_object size a held = by_test (nat_lt a size) held where
  by_test : (b : Bool) → is_held (if b then Object else Barred) ≡ true → (if b then Object else Barred) ≡ Object
  by_test true h = refl
  by_test false h = absurd (false≢true h)

module _ (e : Env) (size : ℕ) (fit : Fits e size) where
  -- ---- that it suits

  may_be_bare : (a : ℕ) → may_be e.core (bare_kind e.core size a) size a ≡ true
  may_be_bare a = by_tests (nat_lt a 256) (is_seen e.core a) (nat_lt a size) refl refl refl where
    by_tests : (b c d : Bool) → nat_lt a 256 ≡ b → is_seen e.core a ≡ c → nat_lt a size ≡ d
        → may_be e.core (if b then (if c then Own else Barred) else if d then Object else Barred) size a ≡ true
    by_tests true true d low core there =
        rw ((and_parts (is_core_register e.core a && not (is_apart a)) (not (a == 28 || a == 29)) core).0) refl
    by_tests true false d low core there = refl
    by_tests false c true low core there = rw (le-leb 256 a (ltb-false a 256 low), there) refl
    by_tests false c false low core there = refl

  in_flash_bare : (a : ℕ) → in_flash (bare_table (length e.flash) a) (length e.flash) a ≡ true
  in_flash_bare a = by_test (nat_lt a (length e.flash)) refl where
    by_test : (b : Bool) → nat_lt a (length e.flash) ≡ b → in_flash (if b then Object else Barred) (length e.flash) a ≡ true
    by_test true q = q
    by_test false q = refl

  pub bare_fits : Fits (bare e size) size
  bare_fits = record { ports = fit.ports; kinds = may_be_bare; table = in_flash_bare; code = fit.code; base = λ l. (refl, refl) }

  -- ---- that the startup code stands in it

  pub bare_stack : HasStack e → HasStack (bare e size)
  bare_stack h = record { low = refl; high = refl; room = h.room }

  noted_there : (a : ℕ) → 256 ≤ a → is_held (e.kind a) ≡ true → bare_kind e.core size a ≡ Object
  noted_there a high held = rw (le-ltb a 256 high, held_below e.core (e.kind a) size a high held (fit.kinds a)) refl

  noted_in_flash : (a : ℕ) → is_held (e.table a) ≡ true → bare_table (length e.flash) a ≡ Object
  noted_in_flash a held = rw (table_below (e.table a) (length e.flash) a held (fit.table a)) refl

  pub bare_set : (s : Span) → CanBeSet e s → CanBeSet (bare e size) s
  bare_set s can = record {
    source_room = can.source_room;
    target_room = can.target_room;
    above = can.above;
    address = can.address;
    table = λ k l. ap is_held (noted_in_flash (source e s + k) (can.table k l));
    kind = λ k l. let above = can.above in ap is_held (noted_there (target e s + k) (omega (arith, above)) (can.kind k l));
  }

  -- ---- what is noted there

  -- all accesses that are allowed, but the silent ones
  pub all_are_noted : (trace : List Access) → AllByRecursion (IsAllowed (bare e size)) trace
      → noted_all (bare e size) trace ≡ all_but_silent trace
  all_are_noted [] h = refl
  all_are_noted (Silent ∷ trace) h = all_are_noted trace h.1
  all_are_noted (In port byte ∷ trace) h = ap (λ z. In port byte ∷ z) (all_are_noted trace h.1)
  all_are_noted (Out port byte ∷ trace) h = ap (λ z. Out port byte ∷ z) (all_are_noted trace h.1)
  all_are_noted (Read DataBank at byte ∷ trace) h =
      rw (held_is_object e.core size at h.0.0 h.0.1) (ap (λ z. Read DataBank at byte ∷ z) (all_are_noted trace h.1))
  all_are_noted (Read FlashBank at byte ∷ trace) h =
      rw (table_is_object (length e.flash) at h.0) (ap (λ z. Read FlashBank at byte ∷ z) (all_are_noted trace h.1))
  all_are_noted (Write at byte ∷ trace) h =
      rw (held_is_object e.core size at h.0.0 h.0.1) (ap (λ z. Write at byte ∷ z) (all_are_noted trace h.1))
  all_are_noted (Stack ∷ trace) h = absurd (never_stacked e.core size h.0.0 h.0.1)

  noted-append : (a b : List Access) → noted_all (bare e size) (a ++ b) ≡ noted_all (bare e size) a ++ noted_all (bare e size) b
  noted-append [] b = refl
  noted-append (x ∷ a) b =
      ap (λ l. noted (bare e size) x ++ l) (noted-append a b)
      ∙ sym (append_assoc (noted (bare e size) x) (noted_all (bare e size) a) (noted_all (bare e size) b))

  -- all that sets the bytes of spans
  byte_noted : (filling : Filling) (from to k : ℕ) → bare_table (length e.flash) (from + k) ≡ Object
      → bare_kind e.core size (to + k) ≡ Object
      → noted_all (bare e size) (byte_accesses (bare e size) filling from to k) ≡ byte_accesses e filling from to k
  byte_noted Copied from to k table kind = rw (table, kind) refl
  byte_noted Cleared from to k table kind = rw kind refl

  bytes_noted : (filling : Filling) (from to n : ℕ) → ((k : ℕ) → k < n → bare_table (length e.flash) (from + k) ≡ Object)
      → ((k : ℕ) → k < n → bare_kind e.core size (to + k) ≡ Object)
      → noted_all (bare e size) (accesses (bare e size) filling from to n) ≡ accesses e filling from to n
  bytes_noted filling from to zero tables kinds = refl
  bytes_noted filling from to (suc n) tables kinds =
      let last = byte_accesses (bare e size) filling from to n in
      let before = bytes_noted filling from to n (λ k l. tables k (omega (arith, l))) (λ k l. kinds k (omega (arith, l))) in
      noted-append (accesses (bare e size) filling from to n) last
      ∙ ap (λ z. z ++ noted_all (bare e size) last) before
      ∙ ap (λ z. accesses e filling from to n ++ z) (byte_noted filling from to n (tables n (omega arith)) (kinds n (omega arith)))

  pub copies_are_noted : (spans : List Span) → All (CanBeSet e) spans
      → noted_all (bare e size) (all_accesses (bare e size) spans) ≡ all_accesses e spans
  copies_are_noted [] can = refl
  copies_are_noted (s ∷ ss) can =
      let mine = All-head (CanBeSet e) s ss can in
      let above = mine.above in
      let from = source e s in
      let to = target e s in
      noted-append (span_accesses (bare e size) s) (all_accesses (bare e size) ss)
      ∙ ap (λ z. z ++ noted_all (bare e size) (all_accesses (bare e size) ss))
      (bytes_noted s.filling from to s.bytes (λ k l. noted_in_flash (from + k) (mine.table k l))
      (λ k l. noted_there (to + k) (omega (arith, above)) (mine.kind k l)))
      ∙ ap (λ z. span_accesses e s ++ z) (copies_are_noted ss (All-tail (CanBeSet e) s ss can))

-- ---- items stand where they stood

module _ (e : Env) (size : ℕ) (fit : Fits e size) where
  same_at : (i : Instr) (pc end : ℕ) → At e i pc end → At (bare e size) i pc end
  same_at i pc end h = record { is = h.is; ends = h.ends; room = h.room }

  same_jump : (l pc end : ℕ) → JumpsAt e l pc end → JumpsAt (bare e size) l pc end
  same_jump l pc end h = ⊎_elim (λ t. inl (same_at _ pc end t.0, t.1)) (λ t. inr (t.0, same_at _ pc end t.1, t.2)) h

  same_call : (l pc end : ℕ) → CallsAt e l pc end → CallsAt (bare e size) l pc end
  same_call l pc end h = ⊎_elim (λ t. inl (same_at _ pc end t.0, t.1)) (λ t. inr (t.0, same_at _ pc end t.1, t.2)) h

  same_branch : (set : Bool) (flag l pc end : ℕ) → BranchesAt e set flag l pc end → BranchesAt (bare e size) set flag l pc end
  same_branch set flag l pc end h =
      ⊎_elim (λ t. inl (t.0, t.1, same_at _ pc t.0 t.2, same_jump l t.0 end t.3, t.4)) (λ t. inr (t.0, same_at _ pc end t.1, t.2)) h

  same_near : (q a : ℕ) → IsNear e q a → IsNear (bare e size) q a
  same_near q a h =
      let may = subst (λ (z : Kind). may_be e.core z size a ≡ true) h.object (fit.kinds a) in
      let high = leb-true 256 a (and_parts (nat_le 256 a) (nat_lt a size) may).0 in
      record { based = h.based; distance_is = h.distance_is; object = noted_there e size fit a high (ap is_held h.object) }

  same_item : (item : AsmItem) (pc end : ℕ) → Stands e item pc end → Stands (bare e size) item pc end
  same_item (Plain i) pc end h = same_at i pc end h
  same_item (Label l) pc end h = h
  same_item (JumpTo l) pc end h = same_jump l pc end h
  same_item (CallTo l) pc end h = same_call l pc end h
  same_item (BranchTo set flag l) pc end h = same_branch set flag l pc end h
  same_item (LoadPart d o k part) pc end h = same_at _ pc end h
  same_item (LoadObj d o k) pc end h = ⊎_elim (λ t. inl (same_at _ pc end t)) (λ t. inr (t.0, same_at _ pc end t.1, same_near t.0 _ t.2)) h
  same_item (StoreObj o k r) pc end h = ⊎_elim (λ t. inl (same_at _ pc end t)) (λ t. inr (t.0, same_at _ pc end t.1, same_near t.0 _ t.2)) h

  pub bare_stands : (items : List AsmItem) (pc end : ℕ) → HasAt e items pc end → HasAt (bare e size) items pc end
  bare_stands [] pc end h = h
  bare_stands (i ∷ is) pc end h = (h.0, same_item i pc h.0 h.1, bare_stands is h.0 end h.2)
