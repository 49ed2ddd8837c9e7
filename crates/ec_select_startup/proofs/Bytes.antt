-- One byte of a span.
use Rattle.std.proofs.Common.{◌≡◌, ◌≢◌, ℕ, suc, ◌+◌, ◌*◌, ◌/◌, ◌%◌, ◌<◌, ◌≤◌, Bool, true, false, List, [], ◌∷◌, ◌++◌, refl, sym, ap}
use Rattle.std.proofs.Common.{◌∙◌, arith, ⊎_elim, subst, append-nil, append_assoc}
use Rattle.std.specs.Prelude.{slice_index}
use Rattle.std.proofs.lemmas.Bool.{cases_eq}
use Rattle.ec_space.specs.declared.space.Bank.TheVariants.{Flash as FlashBank}
use Rattle.ec_isa.specs.declared.instructions.Instr.TheVariants.{StXPlus}
use Rattle.ec_avr.specs.declared.machine.Access.{Access}
use Rattle.ec_avr.specs.declared.machine.Access.TheVariants.{Read, Write}
use Rattle.ec_avr.specs.State.{raised}
use Rattle.ec_asm.specs.declared.items.AsmItem.TheVariants.{Plain, StoreObj}
use Rattle.ec_asm.specs.View.{View, put, pair, put_pair}
use Rattle.ec_asm.specs.Change.{Env, Kind, Own, Object, Port, Stacked, Page, Barred, change, flash_by, store_by, move_to}
use Rattle.ec_asm.specs.Items.{block}
use Rattle.ec_asm.specs.Pieces.{Outside, is_held}
use Rattle.ec_asm.specs.Shows.{noted, noted_all, if_object}
use Rattle.ec_asm.proofs.Bytes.{put_here, put_other}
use Rattle.ec_asm.proofs.Hoare.{block-append}
use Rattle.ec_select_startup.specs.declared.spans.Filling.{Filling}
use Rattle.ec_select_startup.specs.declared.spans.Filling.TheVariants.{Copied, Cleared}
use Rattle.ec_select_startup.specs.declared.spans.Span.{Span}
use Rattle.ec_select_startup.specs.Startup.{byte_code, store_code, next_code, is_cleared}
use Rattle.ec_select_startup.specs.Laws.{source, target, CanBeSet, byte_of, initial_byte, reads, byte_accesses, accesses}

pub pair_is : (n : ℕ) → n % 256 + 256 * (n / 256) ≡ n
pair_is n = omega arith

pub outside_ne : (a n k j : ℕ) → Outside a n k → a ≤ j → j < a + n → k ≢ j
outside_ne a n k j o l m q = let b = o (omega arith) in omega arith

-- ---- a load and a store

record Puts (v w : View) (a x : ℕ) (more : List Access) : Type 0 where
  at : w.at ≡ put v.at a x
  inputs : w.inputs ≡ v.inputs
  safe : w.safe ≡ v.safe
  seen : w.seen ≡ v.seen ++ more

loads : (k : Kind) (a x : ℕ) (v : View) → is_held k ≡ true
    → Puts v (flash_by k 0 a x v) 0 x (if_object k (Read FlashBank a x))
loads Own a x v h = record { at = refl; inputs = refl; safe = refl; seen = sym (append-nil v.seen) }
loads Object a x v h = record { at = refl; inputs = refl; safe = refl; seen = refl }
loads Port a x v h = cc
loads Stacked a x v h = cc
loads Page a x v h = cc
loads Barred a x v h = cc

stores : (k : Kind) (b x : ℕ) (v : View) → is_held k ≡ true
    → Puts v (store_by k b x v) b x (if_object k (Write b x))
stores Own b x v h = record { at = refl; inputs = refl; safe = refl; seen = sym (append-nil v.seen) }
stores Object b x v h = record { at = refl; inputs = refl; safe = refl; seen = refl }
stores Port b x v h = cc
stores Stacked b x v h = cc
stores Page b x v h = cc
stores Barred b x v h = cc

-- ---- what is noted

pub noted-append : (e : Env) (a b : List Access) → noted_all e (a ++ b) ≡ noted_all e a ++ noted_all e b
noted-append e [] b = refl
noted-append e (x ∷ a) b =
    ap (λ l. noted e x ++ l) (noted-append e a b) ∙ sym (append_assoc (noted e x) (noted_all e a) (noted_all e b))

-- ---- a byte in R0

-- byte i can come there: Z points to it, or R0 is clear
abbrev pub IsReady : (from : ℕ) → Filling → (i : ℕ) → View → Type 0
IsReady f Copied i v = pair v.at 30 ≡ f + i
IsReady f Cleared i v = v.at 0 ≡ 0

-- what is known of R0 before the code of a span
abbrev pub IsClear : (clear : Bool) → View → Type 0
IsClear true v = v.at 0 ≡ 0
IsClear false v = Unit {0}

-- and behind it
pub clear_behind : (f : ℕ) (filling : Filling) (i : ℕ) (v : View) → IsReady f filling i v → IsClear (is_cleared filling) v
clear_behind f Copied i v p = tt
clear_behind f Cleared i v p = p

record Loaded (e : Env) (f : ℕ) (filling : Filling) (i : ℕ) (v w : View) : Type 0 where
  byte : w.at 0 ≡ byte_of e f filling i
  ready : IsReady f filling (suc i) w
  same : (a : ℕ) → a ≢ 0 → a ≢ 30 → a ≢ 31 → w.at a ≡ v.at a
  inputs : w.inputs ≡ v.inputs
  safe : w.safe ≡ v.safe
  seen : w.seen ≡ v.seen ++ noted_all e (reads e f filling i)

byte_loaded : (e : Env) (f : ℕ) (filling : Filling) (i : ℕ) (v : View) → suc (f + i) < 65536 → is_held (e.table (f + i)) ≡ true
    → IsReady f filling i v → Loaded e f filling i v (block e (byte_code filling) v)
byte_loaded e f Cleared i v l held p = record {
  byte = p;
  ready = p;
  same = λ a n0 n30 n31. refl;
  inputs = refl;
  safe = refl;
  seen = sym (append-nil v.seen);
}
byte_loaded e f Copied i v l held p =
    let a = pair v.at 30 in
    let x = slice_index e.flash a in
    let w = move_to 30 (raised a) (flash_by (e.table a) 0 a x v) in
    let load = loads (e.table a) a x v (ap (λ n. is_held (e.table n)) p ∙ held) in
    let h : w.at ≡ put_pair (put v.at 0 x) 30 (raised a) = ap (λ g. put_pair g 30 (raised a)) load.at in
    let g0 = put v.at 0 x in
    let next : raised a ≡ f + suc i = omega (arith, p, l) in
    record {
      byte = ap (λ g. g 0) h ∙ ap (λ n. slice_index e.flash n) p;
      ready = ap (λ g. pair g 30) h ∙ pair_is (raised a) ∙ next;
      same = λ b n0 n30 n31.
          ap (λ g. g b) h
          ∙ put_other (put g0 30 (raised a % 256)) 31 (raised a / 256) b n31
          ∙ put_other g0 30 (raised a % 256) b n30
          ∙ put_other v.at 0 x b n0;
      inputs = load.inputs;
      safe = load.safe;
      seen = load.seen
          ∙ ap (λ n. v.seen ++ if_object (e.table n) (Read FlashBank n (slice_index e.flash n))) p
          ∙ ap (λ z. v.seen ++ z) (sym (append-nil (if_object (e.table (f + i)) (Read FlashBank (f + i) (slice_index e.flash (f + i))))));
    }

-- ---- a byte in its place

-- X and a byte may differ
record Put (e : Env) (b x : ℕ) (v w : View) : Type 0 where
  here : w.at b ≡ x
  same : (a : ℕ) → a ≢ 26 → a ≢ 27 → a ≢ b → w.at a ≡ v.at a
  inputs : w.inputs ≡ v.inputs
  safe : w.safe ≡ v.safe
  seen : w.seen ≡ v.seen ++ noted_all e (Write b x ∷ [])

-- what a store of R0 tells of the byte that R0 holds
put_seen : (e : Env) (b' b x : ℕ) (v : View) (more : List Access) → b' ≡ b → v.at 0 ≡ x
    → more ≡ v.seen ++ if_object (e.kind b') (Write b' (v.at 0)) → more ≡ v.seen ++ noted_all e (Write b x ∷ [])
put_seen e b' b x v more q h m =
    m
    ∙ ap (λ n. v.seen ++ if_object (e.kind n) (Write n (v.at 0))) q
    ∙ ap (λ y. v.seen ++ if_object (e.kind b) (Write b y)) h
    ∙ ap (λ z. v.seen ++ z) (sym (append-nil (if_object (e.kind b) (Write b x))))

stored : (e : Env) (to k b x : ℕ) (v : View) → e.address_of to k ≡ b → is_held (e.kind b) ≡ true → v.at 0 ≡ x
    → Put e b x v (block e (StoreObj to k 0 ∷ []) v)
stored e to k b x v q held h =
    let b' = e.address_of to k in
    let store = stores (e.kind b') b' (v.at 0) v (ap (λ n. is_held (e.kind n)) q ∙ held) in
    record {
      here = ap (λ g. g b) store.at ∙ put_here v.at b' (v.at 0) b (sym q) ∙ h;
      same = λ a n26 n27 nb. ap (λ g. g a) store.at ∙ put_other v.at b' (v.at 0) a (λ z. nb (z ∙ q));
      inputs = store.inputs;
      safe = store.safe;
      seen = put_seen e b' b x v _ q h store.seen;
    }

-- by X, which goes on
pointed : (e : Env) (b x : ℕ) (v : View) → 256 ≤ b → pair v.at 26 ≡ b → is_held (e.kind b) ≡ true → v.at 0 ≡ x
    → Put e b x v (block e (Plain (StXPlus 0) ∷ []) v)
pointed e b x v l q held h =
    let b' = pair v.at 26 in
    let store = stores (e.kind b') b' (v.at 0) v (ap (λ n. is_held (e.kind n)) q ∙ held) in
    let g = put v.at b' (v.at 0) in
    let at = ap (λ f. put_pair f 26 (raised b')) store.at in
    record {
      here = ap (λ f. f b) at
          ∙ put_other (put g 26 (raised b' % 256)) 27 (raised b' / 256) b (omega (arith, l))
          ∙ put_other g 26 (raised b' % 256) b (omega (arith, l))
          ∙ put_here v.at b' (v.at 0) b (sym q)
          ∙ h;
      same = λ a n26 n27 nb.
          ap (λ f. f a) at
          ∙ put_other (put g 26 (raised b' % 256)) 27 (raised b' / 256) a n27
          ∙ put_other g 26 (raised b' % 256) a n26
          ∙ put_other v.at b' (v.at 0) a (λ z. nb (z ∙ q));
      inputs = store.inputs;
      safe = store.safe;
      seen = put_seen e b' b x v _ q h store.seen;
    }

-- ---- bytes of a span

-- i bytes of a span are set, and the next one can come
pub record Filled (e : Env) (s : Span) (i : ℕ) (v0 v : View) : Type 0 where
  pub ready : IsReady (source e s) s.filling i v
  pub here : (k : ℕ) → k < i → v.at (target e s + k) ≡ initial_byte e s k
  pub same : (a : ℕ) → a ≢ 0 → Outside 24 4 a → Outside 30 2 a → Outside (target e s) i a → v.at a ≡ v0.at a
  pub inputs : v.inputs ≡ v0.inputs
  pub safe : v.safe ≡ v0.safe
  pub seen : v.seen ≡ v0.seen ++ noted_all e (accesses e s.filling (source e s) (target e s) i)

-- what makes the next byte ready is not where a byte is put
still_ready : (f : ℕ) (filling : Filling) (i b : ℕ) (v w : View) → 256 ≤ b
    → ((a : ℕ) → a ≢ 26 → a ≢ 27 → a ≢ b → w.at a ≡ v.at a) → IsReady f filling i v → IsReady f filling i w
still_ready f Copied i b v w l same p =
    ap (λ x. x + 256 * w.at 31) (same 30 (omega arith) (omega arith) (omega (arith, l)))
    ∙ ap (λ x. v.at 30 + 256 * x) (same 31 (omega arith) (omega arith) (omega (arith, l)))
    ∙ p
still_ready f Cleared i b v w l same p = same 0 (omega arith) (omega arith) (omega (arith, l)) ∙ p

module _ (e : Env) (s : Span) (can : CanBeSet e s) where
  loaded : (i : ℕ) (v0 v : View) → i < s.bytes → Filled e s i v0 v
      → Loaded e (source e s) s.filling i v (block e (byte_code s.filling) v)
  loaded i v0 v l m =
      let room = can.source_room in
      byte_loaded e (source e s) s.filling i v (omega (arith, room, l)) (can.table i l) m.ready

  one_more : (i : ℕ) (v0 v w u : View) → i < s.bytes → Filled e s i v0 v → Loaded e (source e s) s.filling i v w
      → Put e (target e s + i) (initial_byte e s i) w u → Filled e s (suc i) v0 u
  one_more i v0 v w u l m a p =
      let f = source e s in
      let t = target e s in
      let above = can.above in
      let read = reads e f s.filling i in
      let write = Write (t + i) (initial_byte e s i) ∷ [] in
      let before = accesses e s.filling f t i in
      record {
        ready = still_ready f s.filling (suc i) (t + i) w u (omega (arith, above)) p.same a.ready;
        here = λ k less.
            ⊎_elim
            (λ (q : k ≡ i). rw q p.here)
            (λ (q : k ≢ i).
            p.same (t + k) (omega (arith, above)) (omega (arith, above)) (λ z. q (omega (arith, z)))
            ∙ a.same (t + k) (omega (arith, above)) (omega (arith, above)) (omega (arith, above))
            ∙ m.here k (omega (arith, less, q)))
            (cases_eq k i);
        same = λ k n0 o24 o30 o.
            p.same k (outside_ne 24 4 k 26 o24 (omega arith) (omega arith)) (outside_ne 24 4 k 27 o24 (omega arith) (omega arith))
            (outside_ne t (suc i) k (t + i) o (omega arith) (omega arith))
            ∙ a.same k n0 (outside_ne 30 2 k 30 o30 (omega arith) (omega arith)) (outside_ne 30 2 k 31 o30 (omega arith) (omega arith))
            ∙ m.same k n0 o24 o30 (λ h. let z = o h in omega arith);
        inputs = p.inputs ∙ a.inputs ∙ m.inputs;
        safe = p.safe ∙ a.safe ∙ m.safe;
        seen = p.seen
            ∙ ap (λ z. z ++ noted_all e write) (a.seen ∙ ap (λ z. z ++ noted_all e read) m.seen ∙ append_assoc v0.seen _ _)
            ∙ append_assoc v0.seen _ _
            ∙ ap (λ z. v0.seen ++ z)
            (append_assoc (noted_all e before) (noted_all e read) (noted_all e write)
            ∙ ap (λ z. noted_all e before ++ z) (sym (noted-append e read write))
            ∙ sym (noted-append e before (byte_accesses e s.filling f t i)));
      }

  -- ---- by its address

  pub store_fills : (i : ℕ) (v0 v : View) → i < s.bytes → Filled e s i v0 v
      → Filled e s (suc i) v0 (block e (store_code s.filling s.to i) v)
  store_fills i v0 v l m =
      let a = loaded i v0 v l m in
      let w = block e (byte_code s.filling) v in
      let p = stored e s.to i (target e s + i) (initial_byte e s i) w (can.address i l) (can.kind i l) a.byte in
      subst (λ u. Filled e s (suc i) v0 u) (sym (block-append e (byte_code s.filling) (StoreObj s.to i 0 ∷ []) v))
      (one_more i v0 v w (block e (StoreObj s.to i 0 ∷ []) w) l m a p)

  -- ---- by X

  pub record Pointed (i : ℕ) (v0 v : View) : Type 0 where
    pub filled : Filled e s i v0 v
    pub x : pair v.at 26 ≡ target e s + i

  record Next (i : ℕ) (v0 v w : View) : Type 0 where
    holds : Pointed (suc i) v0 w
    low : w.at 24 ≡ v.at 24
    high : w.at 25 ≡ v.at 25

  next : (i : ℕ) (v0 v : View) → i < s.bytes → Pointed i v0 v → Next i v0 v (block e (next_code s.filling) v)
  next i v0 v l m =
      let a = loaded i v0 v l m.filled in
      let w = block e (byte_code s.filling) v in
      let t = target e s in
      let above = can.above in
      let room = can.target_room in
      let x : pair w.at 26 ≡ t + i =
      ap (λ z. z + 256 * w.at 27) (a.same 26 (omega arith) (omega arith) (omega arith))
      ∙ ap (λ z. v.at 26 + 256 * z) (a.same 27 (omega arith) (omega arith) (omega arith))
      ∙ m.x in
      let p = pointed e (t + i) (initial_byte e s i) w (omega (arith, above)) x (can.kind i l) a.byte in
      let u = change e (StXPlus 0) w in
      let on : raised (pair w.at 26) ≡ t + suc i = omega (arith, x, l, room) in
      let moved : Next i v0 v u = record {
        holds = record { filled = one_more i v0 v w u l m.filled a p; x = pair_is (raised (pair w.at 26)) ∙ on };
        low = p.same 24 (omega arith) (omega arith) (omega (arith, above)) ∙ a.same 24 (omega arith) (omega arith) (omega arith);
        high = p.same 25 (omega arith) (omega arith) (omega (arith, above)) ∙ a.same 25 (omega arith) (omega arith) (omega arith);
      } in
      subst (λ z. Next i v0 v z) (sym (block-append e (byte_code s.filling) (Plain (StXPlus 0) ∷ []) v)) moved

  pub next_points : (i : ℕ) (v0 v : View) → i < s.bytes → Pointed i v0 v → Pointed (suc i) v0 (block e (next_code s.filling) v)
  next_points i v0 v l m = (next i v0 v l m).holds

  pub next_low : (i : ℕ) (v0 v : View) → i < s.bytes → Pointed i v0 v → (block e (next_code s.filling) v).at 24 ≡ v.at 24
  next_low i v0 v l m = (next i v0 v l m).low

  pub next_high : (i : ℕ) (v0 v : View) → i < s.bytes → Pointed i v0 v → (block e (next_code s.filling) v).at 25 ≡ v.at 25
  next_high i v0 v l m = (next i v0 v l m).high
