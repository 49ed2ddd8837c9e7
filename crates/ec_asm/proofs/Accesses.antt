-- Loads and stores, pushes and pops, as the view shows them.
use Rattle.std.proofs.Common.{◌≡◌, ◌≢◌, ℕ, ◌+◌, ◌/◌, ◌%◌, ◌<◌, ◌≤◌, ◌⊎◌, ⊎_elim, Bool, true, false, not, ◌&&◌, ◌||◌, ◌++◌, length, refl}
use Rattle.std.proofs.Common.{sym, ap, ◌∙◌, subst, arith, Option, None, append-nil, inl, inr, drop}
use Rattle.std.specs.Prelude.{slice_index, if◌then◌else◌, nat_lt, nat_le, ◌==◌, IsTrue}
use Rattle.std.proofs.lemmas.Bool.{and_parts, ltb-true, leb-true, eqb-true, lt-ltb, false≢true}
use Rattle.std.proofs.lemmas.Bool.Decides.{nat_tests}
use Rattle.std.proofs.lemmas.List.{get_or-drop}
use Rattle.ec_space.specs.declared.space.Bank.TheVariants.{Flash as FlashBank, Data as DataBank}
use Rattle.ec_space.specs.Memory.{Memory}
use Rattle.ec_space.specs.declared.Core.{Core}
use Rattle.ec_avr.specs.declared.machine.Access.TheVariants.{Silent, In, Out, Read, Write, Stack}
use Rattle.ec_avr.specs.declared.machine.Access.{Access}
use Rattle.ec_avr.specs.declared.machine.FaultKind.TheVariants.{DataOut, Unsupported}
use Rattle.ec_avr.specs.declared.machine.Stepped.TheVariants.{Ran}
use Rattle.ec_avr.specs.Effects.{After, load, store, if_rampz, push, pop, faulted}
use Rattle.ec_avr.specs.Machine.{State, answer_of, port_at}
use Rattle.ec_avr.specs.State.{has_rampz, is_core_register, is_port, is_sram, stack_pointer, raised, lowered, with_pair, with_register, passed}
use Rattle.ec_avr.specs.State.{with_far_pointer}
use Rattle.ec_asm.specs.View.{View, is_apart, put, put_pair}
use Rattle.ec_asm.specs.Change.{Env, Kind, Own, Object, Port, Stacked, Page, Barred, load_by, store_by, flash_by, push_by, pop_by, set, given}
use Rattle.ec_asm.specs.Change.{taken, sp, bar, move_to, move_far, by_rampz}
use Rattle.ec_asm.specs.Shows.{HoldsBase, Shows, Fits, Does, may_be, in_flash, if_object}
use Rattle.ec_asm.proofs.Shown.{with_data, shows_byte, shows_page, reads}

or_parts : (a b : Bool) → IsTrue (a || b) → IsTrue a ⊎ IsTrue b
or_parts true b h = inl refl
or_parts false b h = inr h

-- a byte that the core keeps itself and the view has among its bytes
record IsKeptByte (core : Core) (a : ℕ) : Type 0 where
  pub low : a < 256
  pub sreg : a ≢ 95
  pub rampz : a ≢ 91
  pub core_has : IsTrue (is_core_register core a)

core_low : (core : Core) (a : ℕ) → IsTrue (is_core_register core a && not (is_apart a)) → IsKeptByte core a
core_low core a h =
    let p = and_parts (is_core_register core a) (not (is_apart a)) h in
    record { low = low a p.0; sreg = no_sreg a p.1; rampz = no_rampz a p.1; core_has = p.0 }
  where
    low : (a : ℕ) → IsTrue (is_core_register core a) → a < 256
    low a c = grind (arith, nat_tests)

    no_sreg : (a : ℕ) → IsTrue (not (is_apart a)) → a ≢ 95
    no_sreg a n = grind (arith, nat_tests)

    no_rampz : (a : ℕ) → IsTrue (not (is_apart a)) → a ≢ 91
    no_rampz a n = grind (arith, nat_tests)

core_no_port : (core : Core) (a : ℕ) → IsTrue (is_core_register core a) → is_port core a ≡ false
core_no_port core a c = rw c (no (nat_lt a 256))
  where
    no : (b : Bool) → (b && false) ≡ false
    no true = refl
    no false = refl

sram_parts : (a size : ℕ) → IsTrue (nat_le 256 a && nat_lt a size) → (256 ≤ a) × (a < size)
sram_parts a size h = let p = and_parts (nat_le 256 a) (nat_lt a size) h in (leb-true 256 a p.0, ltb-true a size p.1)

sram_no_port : (core : Core) (a : ℕ) → 256 ≤ a → is_port core a ≡ false
sram_no_port core a h = grind (arith, nat_tests)

sram_no_core : (core : Core) (a : ℕ) → 256 ≤ a → is_core_register core a ≡ false
sram_no_core core a h = grind (arith, nat_tests)

high : (a : ℕ) → 256 ≤ a → nat_lt a 256 ≡ false
high a h = grind (arith, nat_tests)

port_parts : (core : Core) (a : ℕ) → IsTrue (is_port core a) → (a < 256) × (is_core_register core a ≡ false)
port_parts core a h =
    let p = and_parts (nat_lt a 256) (not (is_core_register core a)) h in
    (ltb-true a 256 p.0, off (is_core_register core a) p.1)
  where
    off : (b : Bool) → IsTrue (not b) → b ≡ false
    off true h = cc
    off false h = refl

-- ---- the stack

module _ (e : Env) (size : ℕ) (fit : Fits e size) (s : State) (v : View) (h : Shows e size s.core s.mem v) where
  pub sp_shown : stack_pointer s ≡ sp v
  sp_shown =
      let p = reads e size s.mem v 93 h (omega arith) (omega arith) in
      let q = reads e size s.mem v 94 h (omega arith) (omega arith) in
      rw (p, q) refl

  pub stacked_at : (a : ℕ) → e.kind a ≡ Stacked → (256 ≤ a) × (a < size) × (is_sram s a ≡ true)
  stacked_at a q =
      let may = subst (λ (z : Kind). IsTrue (may_be e.core z size a)) q (fit.kinds a) in
      let p = sram_parts a size may in
      (p.0, p.1, rw h.sized may)

-- ---- where Y is free

module _ (e : Env) (size : ℕ) (free : 65536 ≤ e.base) (fit : Fits e size) (s : State) (v : View) (h : Shows e size s.core s.mem v) where
  no_base : (w : View) → HoldsBase e w
  no_base w l = absurd (omega (arith, free, l))

  has : (a : ℕ) → a < size → nat_lt a (length s.mem.data) ≡ true
  has a l = let q = h.sized in lt-ltb a (length s.mem.data) (omega arith)

  may_at : (a : ℕ) (k : Kind) → e.kind a ≡ k → IsTrue (may_be s.core k size a)
  may_at a k q =
      subst (λ (x : Kind). IsTrue (may_be s.core x size a)) q
      (subst (λ (core : Core). IsTrue (may_be core (e.kind a) size a)) (sym h.same) (fit.kinds a))

  -- a register that is loaded
  loaded_shows : (d x : ℕ) → d < 32 → x < 256 → Shows e size s.core (with_data s.mem d x) (set d x v)
  loaded_shows d x l b =
      let big = fit.ports in
      shows_byte e size free s.mem v d x h (omega arith) (omega arith) (omega arith) b

  load_own_core : (d a words : ℕ) → d < 32 → IsTrue (is_core_register s.core a && not (is_apart a))
      → Does e size s v (set d (v.at a) v) words (port_at s a) (load d a (answer_of v.inputs (port_at s a)) words s)
  load_own_core d a words l c =
      let p = core_low s.core a c in
      let big = fit.ports in
      let q = core_no_port s.core a p.core_has in
      let y = has a (omega (arith, p.low)) in
      let r = reads e size s.mem v a h p.sreg p.rampz in
      record {
        access = Silent;
        ran = rw (y, q, p.core_has) refl;
        pc = rw y refl;
        shows = rw (y, q, sym r) (loaded_shows d (slice_index s.mem.data a) l (h.bytes a));
        seen = sym (append-nil v.seen);
        inputs = rw q refl;
      }

  load_sram : (d a words : ℕ) (w : View) → d < 32 → 256 ≤ a → a < size → w.at ≡ put v.at d (v.at a) → w.flags ≡ v.flags
      → w.page ≡ v.page → w.inputs ≡ v.inputs → w.seen ≡ v.seen ++ if_object (e.kind a) (Read DataBank a (v.at a))
      → Does e size s v w words (port_at s a) (load d a (answer_of v.inputs (port_at s a)) words s)
  load_sram d a words w l c1 c2 wa wf wp wi ws =
      let big = fit.ports in
      let q = sram_no_port s.core a c1 in
      let y = has a c2 in
      let r = reads e size s.mem v a h (omega arith) (omega arith) in
      let k = loaded_shows d (slice_index s.mem.data a) l (h.bytes a) in
      record {
        access = Read DataBank a (v.at a);
        ran = rw (y, q, sram_no_core s.core a c1, high a c1, r) refl;
        pc = rw y refl;
        shows = rw (y, q) (record {
          same = k.same;
          flash = k.flash;
          sized = k.sized;
          bytes = k.bytes;
          at = wa ∙ rw (sym r) k.at;
          flags = wf ∙ k.flags;
          page = wp ∙ k.page;
          feeds = λ p n. rw wi (h.feeds p n);
          base = no_base w;
        });
        seen = ws;
        inputs = rw q wi;
      }

  feeds_later : (a p k : ℕ) → slice_index (taken v.inputs a p) k < 256
  feeds_later a p k = either (p == a)
    where
      either : (b : Bool) → slice_index (if b then drop 1 (v.inputs p) else v.inputs p) k < 256
      either true = rw (get_or-drop 1 (v.inputs p) k 0) (h.feeds p (1 + k))
      either false = h.feeds p k

  load_port : (d a words : ℕ) → d < 32 → IsTrue (is_port s.core a)
      → Does e size s v (load_by Port d a v) words (port_at s a) (load d a (answer_of v.inputs (port_at s a)) words s)
  load_port d a words l c =
      let big = fit.ports in
      let p = port_parts s.core a c in
      let y = has a (omega (arith, p.0)) in
      let low = lt-ltb a 256 p.0 in
      let k = loaded_shows d (given v a) l (h.feeds a 0) in
      record {
        access = In a (given v a);
        ran = rw (y, p.1, low) refl;
        pc = rw y refl;
        shows = rw (y, p.1, low)
            (record { same = k.same; flash = k.flash; sized = k.sized; bytes = k.bytes; at = k.at; flags = k.flags; page = k.page; feeds = feeds_later a; base = no_base (load_by Port d a v) });
        seen = refl;
        inputs = rw (p.1, low, y) refl;
      }

  -- a load, by what stands at the address
  pub load_does : (d a words : ℕ) (k : Kind) → e.kind a ≡ k → d < 32 → (load_by k d a v).safe ≡ true
      → Does e size s v (load_by k d a v) words (port_at s a) (load d a (answer_of v.inputs (port_at s a)) words s)
  load_does d a words Own q l safe =
      let may = may_at a Own q in
      ⊎_elim
      (λ c. load_own_core d a words l c)
      (λ c. let p = sram_parts a size c in load_sram d a words (set d (v.at a) v) l p.0 p.1 refl refl refl refl (rw q (sym (append-nil v.seen))))
      (or_parts _ _ may)
  load_does d a words Object q l safe =
      let may = may_at a Object q in
      let p = sram_parts a size may in
      load_sram d a words (load_by Object d a v) l p.0 p.1 refl refl refl refl (rw q refl)
  load_does d a words Port q l safe =
      load_port d a words l (may_at a Port q)
  load_does d a words Stacked q l safe = absurd (false≢true safe)
  load_does d a words Page q l safe = absurd (false≢true safe)
  load_does d a words Barred q l safe = absurd (false≢true safe)

  -- ---- stores

  store_own_core : (a x words : ℕ) → x < 256 → IsTrue (is_core_register s.core a && not (is_apart a))
      → Does e size s v (set a x v) words None (store a x words s)
  store_own_core a x words l c =
      let p = core_low s.core a c in
      let big = fit.ports in
      let q = core_no_port s.core a p.core_has in
      let y = has a (omega (arith, p.low)) in
      record {
        access = Silent;
        ran = rw (y, p.core_has) refl;
        pc = rw (y, q) refl;
        shows = rw (y, q) (shows_byte e size free s.mem v a x h (omega (arith, p.low)) p.sreg p.rampz l);
        seen = sym (append-nil v.seen);
        inputs = refl;
      }

  -- a store to RAMPZ
  store_page : (x words : ℕ) → x < 256 → has_rampz s.core ≡ true → Does e size s v (store_by Page 91 x v) words None (store 91 x words s)
  store_page x words l c =
      let big = fit.ports in
      let y = has 91 (omega arith) in
      record {
        access = Silent;
        ran = rw (y, c) refl;
        pc = rw (y, c) refl;
        shows = rw (y, c) (shows_page e size free s.mem v x h big l);
        seen = sym (append-nil v.seen);
        inputs = refl;
      }

  store_sram : (a x words : ℕ) (w : View) → x < 256 → 256 ≤ a → a < size → w.at ≡ put v.at a x → w.flags ≡ v.flags
      → w.page ≡ v.page → w.inputs ≡ v.inputs → w.seen ≡ v.seen ++ if_object (e.kind a) (Write a x)
      → Does e size s v w words None (store a x words s)
  store_sram a x words w l c1 c2 wa wf wp wi ws =
      let big = fit.ports in
      let q = sram_no_port s.core a c1 in
      let y = has a c2 in
      let k = shows_byte e size free s.mem v a x h c2 (omega arith) (omega arith) l in
      record {
        access = Write a x;
        ran = rw (y, sram_no_core s.core a c1, high a c1) refl;
        pc = rw (y, q) refl;
        shows = rw (y, q) (record {
          same = k.same;
          flash = k.flash;
          sized = k.sized;
          bytes = k.bytes;
          at = wa ∙ k.at;
          flags = wf ∙ k.flags;
          page = wp ∙ k.page;
          feeds = λ p n. rw wi (h.feeds p n);
          base = no_base w;
        });
        seen = ws;
        inputs = wi;
      }

  store_port : (a x words : ℕ) → x < 256 → IsTrue (is_port s.core a)
      → Does e size s v (store_by Port a x v) words None (store a x words s)
  store_port a x words l c =
      let big = fit.ports in
      let p = port_parts s.core a c in
      let y = has a (omega (arith, p.0)) in
      let low = lt-ltb a 256 p.0 in
      record {
        access = Out a x;
        ran = rw (y, p.1, low) refl;
        pc = rw (y, p.1, low) refl;
        shows =
            rw (y, p.1, low) (record { same = h.same; flash = h.flash; sized = h.sized; bytes = h.bytes; at = h.at; flags = h.flags; page = h.page; feeds = h.feeds; base = no_base (store_by Port a x v) });
        seen = refl;
        inputs = refl;
      }

  pub store_does : (a x words : ℕ) (k : Kind) → e.kind a ≡ k → x < 256 → (store_by k a x v).safe ≡ true
      → Does e size s v (store_by k a x v) words None (store a x words s)
  store_does a x words Own q l safe =
      let may = may_at a Own q in
      ⊎_elim
      (λ c. store_own_core a x words l c)
      (λ c. let p = sram_parts a size c in store_sram a x words (set a x v) l p.0 p.1 refl refl refl refl (rw q (sym (append-nil v.seen))))
      (or_parts _ _ may)
  store_does a x words Object q l safe =
      let may = may_at a Object q in
      let p = sram_parts a size may in
      store_sram a x words (store_by Object a x v) l p.0 p.1 refl refl refl refl (rw q refl)
  store_does a x words Port q l safe =
      store_port a x words l (may_at a Port q)
  store_does a x words Stacked q l safe = absurd (false≢true safe)
  store_does a x words Page q l safe =
      let p = and_parts (a == 0x5B) (has_rampz s.core) (may_at a Page q) in
      let at : a ≡ 91 = eqb-true a 91 p.0 in
      subst (λ (k : ℕ). Does e size s v (store_by Page k x v) words None (store k x words s)) (sym at) (store_page x words l p.1)
  store_does a x words Barred q l safe = absurd (false≢true safe)

  -- ---- flash

  -- the byte of the flash at an address is loaded, as LPM and ELPM do
  abbrev load_from : (d at : ℕ) → After
  load_from d at =
      let byte = slice_index s.mem.flash at in
      if nat_lt at (length s.mem.flash) then
      record { stepped = Ran (Read FlashBank at byte); state = passed (with_register s d byte) 1 }
      else faulted DataOut s

  flash_at : (d a at : ℕ) (w : View) → d < 32 → a < length e.flash → a ≡ at
      → w.at ≡ put v.at d (slice_index e.flash a) → w.flags ≡ v.flags → w.page ≡ v.page → w.inputs ≡ v.inputs
      → w.seen ≡ v.seen ++ if_object (e.table a) (Read FlashBank a (slice_index e.flash a))
      → Does e size s v w 1 None (load_from d at)
  flash_at d a at w l b q wa wf wp wi ws =
      let y = lt-ltb a (length e.flash) b in
      let k = loaded_shows d (slice_index e.flash a) l (fit.code a) in
      record {
        access = Read FlashBank a (slice_index e.flash a);
        ran = rw (sym q, h.flash, y) refl;
        pc = rw (sym q, h.flash, y) refl;
        shows = rw (sym q, h.flash, y) (record {
          same = k.same;
          flash = refl;
          sized = k.sized;
          bytes = k.bytes;
          at = wa ∙ k.at;
          flags = wf ∙ k.flags;
          page = wp ∙ k.page;
          feeds = λ p n. rw wi (h.feeds p n);
          base = no_base w;
        });
        seen = ws;
        inputs = wi;
      }

  pub flash_does : (d a at : ℕ) (k : Kind) → e.table a ≡ k → d < 32 → a ≡ at
      → (flash_by k d a (slice_index e.flash a) v).safe ≡ true
      → Does e size s v (flash_by k d a (slice_index e.flash a) v) 1 None (load_from d at)
  flash_does d a at Own q l p safe =
      let may = subst (λ (z : Kind). IsTrue (in_flash z (length e.flash) a)) q (fit.table a) in
      flash_at d a at (set d (slice_index e.flash a) v) l (ltb-true a (length e.flash) may) p refl refl refl refl (rw q (sym (append-nil v.seen)))
  flash_does d a at Object q l p safe =
      let may = subst (λ (z : Kind). IsTrue (in_flash z (length e.flash) a)) q (fit.table a) in
      flash_at d a at (flash_by Object d a (slice_index e.flash a) v) l (ltb-true a (length e.flash) may) p refl refl refl refl (rw q refl)
  flash_does d a at Port q l p safe = absurd (false≢true safe)
  flash_does d a at Stacked q l p safe = absurd (false≢true safe)
  flash_does d a at Page q l p safe = absurd (false≢true safe)
  flash_does d a at Barred q l p safe = absurd (false≢true safe)

  -- what needs RAMPZ, where the core has it
  pub rampz_does : (w : View) (x : State → After) → (by_rampz e.core w v).safe ≡ true → (w.safe ≡ true → Does e size s v w 1 None (x s))
      → Does e size s v (by_rampz e.core w v) 1 None (if_rampz x s)
  rampz_does w x safe does = by_test (has_rampz e.core) (has_rampz s.core) (ap has_rampz h.same) safe
    where
      by_test : (b c : Bool) → c ≡ b → (if b then w else bar v).safe ≡ true
          → Does e size s v (if b then w else bar v) 1 None (if c then x s else faulted Unsupported s)
      by_test true true q safe = does safe
      by_test true false q safe = absurd (false≢true q)
      by_test false c q safe = absurd (false≢true safe)

  -- ---- the stack

  pub sp_set : {core : Core} (m : Memory) (w : View) (n : ℕ) → Shows e size core m w → n < 65536
      → Shows e size core (with_data (with_data m 93 (n % 256)) 94 (n / 256)) (record w { at = put_pair w.at 93 n })
  sp_set m w n k l =
      let big = fit.ports in
      shows_byte e size free _ _ 94 (n / 256)
      (shows_byte e size free m w 93 (n % 256) k (omega arith) (omega arith) (omega arith) (omega arith)) (omega arith) (omega arith)
      (omega arith) (omega arith)

  pub push_does : (x : ℕ) (k : Kind) → e.kind (sp v) ≡ k → x < 256 → (push_by k x v).safe ≡ true
      → Does e size s v (push_by k x v) 1 None (push x s)
  push_does x Stacked q l safe =
      let a = stacked_at e size fit s v h (sp v) q in
      let p = sp_shown e size fit s v h in
      record {
        access = Stack;
        ran = rw (p, a.2) refl;
        pc = rw (p, a.2) refl;
        shows = rw (p, a.2)
            (sp_set _ _ (lowered (sp v))
            (shows_byte e size free s.mem v (sp v) x h a.1 (let g = a.0 in omega arith) (let g = a.0 in omega arith) l) (omega arith));
        seen = sym (append-nil v.seen);
        inputs = refl;
      }
  push_does x Own q l safe = absurd (false≢true safe)
  push_does x Object q l safe = absurd (false≢true safe)
  push_does x Port q l safe = absurd (false≢true safe)
  push_does x Page q l safe = absurd (false≢true safe)
  push_does x Barred q l safe = absurd (false≢true safe)

  pub pop_does : (d : ℕ) (k : Kind) → e.kind (raised (sp v)) ≡ k → d < 32 → (pop_by k d v).safe ≡ true
      → Does e size s v (pop_by k d v) 1 None (pop d s)
  pop_does d Stacked q l safe =
      let a = stacked_at e size fit s v h (raised (sp v)) q in
      let p = sp_shown e size fit s v h in
      let big = fit.ports in
      let r = reads e size s.mem v (raised (sp v)) h (let g = a.0 in omega arith) (let g = a.0 in omega arith) in
      record {
        access = Stack;
        ran = rw (p, a.2) refl;
        pc = rw (p, a.2) refl;
        shows = rw (p, a.2, sym r)
            (sp_set _ _ (raised (sp v)) (loaded_shows d (slice_index s.mem.data (raised (sp v))) l (h.bytes _)) (omega arith));
        seen = sym (append-nil v.seen);
        inputs = refl;
      }
  pop_does d Own q l safe = absurd (false≢true safe)
  pop_does d Object q l safe = absurd (false≢true safe)
  pop_does d Port q l safe = absurd (false≢true safe)
  pop_does d Page q l safe = absurd (false≢true safe)
  pop_does d Barred q l safe = absurd (false≢true safe)

  -- ---- pointers

  moved_shows : {core : Core} (m : Memory) (w : View) (pointer at : ℕ) → pointer < 31 → at < 65536 → Shows e size core m w
      → Shows e size core (with_data (with_data m pointer (at % 256)) (pointer + 1) (at / 256)) (move_to pointer at w)
  moved_shows m w pointer at l k shows =
      let big = fit.ports in
      shows_byte e size free _ _ (pointer + 1) (at / 256)
      (shows_byte e size free m w pointer (at % 256) shows (omega arith) (omega arith) (omega arith) (omega arith)) (omega arith)
      (omega arith) (omega arith) (omega arith)

  -- a pointer that moves after an access
  pub moved_does : (b : Bool) (a : Access) (t : State) (w : View) (port : Option ℕ) (pointer at : ℕ) → pointer < 31
      → at < 65536
      → Does e size s v w 1 port (if b then record { stepped = Ran a; state = passed t 1 } else faulted DataOut s)
      → Does e size s v (move_to pointer at w) 1 port
      (if b then record { stepped = Ran a; state = passed (with_pair t pointer at) 1 } else faulted DataOut s)
  moved_does true a t w port pointer at l k d =
      record {
        access = d.access;
        ran = d.ran;
        pc = d.pc;
        shows = moved_shows t.mem w pointer at l k d.shows;
        seen = d.seen;
        inputs = d.inputs;
      }
  moved_does false a t w port pointer at l k d = let q = d.ran in cc

  -- RAMPZ:Z that moves after an access
  pub far_moved_does : (b : Bool) (a : Access) (t : State) (w : View) (port : Option ℕ) (at : ℕ) → at < 16777216
      → Does e size s v w 1 port (if b then record { stepped = Ran a; state = passed t 1 } else faulted DataOut s)
      → Does e size s v (move_far at w) 1 port
      (if b then record { stepped = Ran a; state = passed (with_far_pointer t at) 1 } else faulted DataOut s)
  far_moved_does true a t w port at k d =
      record {
        access = d.access;
        ran = d.ran;
        pc = d.pc;
        shows = shows_page e size free _ _ (at / 65536) (moved_shows t.mem w 30 (at % 65536) (omega arith) (omega arith) d.shows) fit.ports
            (omega arith);
        seen = d.seen;
        inputs = d.inputs;
      }
  far_moved_does false a t w port at k d = let q = d.ran in cc
