-- One byte of a copy and of an operation, wherever they stand.
use Rattle.std.proofs.Common.{◌≡◌, ◌≢◌, ℕ, ◌+◌, ◌≤◌, true, List, [], ◌++◌, refl, sym, ap, ◌∙◌, arith, append-nil, append_assoc}
use Rattle.std.proofs.lemmas.Bool.{ne_eqb, eq-eqb}
use Rattle.ec_isa.specs.declared.instructions.Instr.{Instr}
use Rattle.ec_asm.specs.View.{Flags, View, put}
use Rattle.ec_asm.specs.Change.{Env, Kind, Own, Object, Port, Stacked, Page, Barred, load_by, store_by, set, set_both}
use Rattle.ec_asm.specs.Items.{block}
use Rattle.ec_asm.specs.declared.pieces.Location.{Location}
use Rattle.ec_asm.specs.declared.pieces.Location.TheVariants.{InRegisters, InMemory}
use Rattle.ec_asm.specs.Pieces.{address, copy_byte, Copies, read_of, write_of, IsBinary, binary_byte, Operates, KindIs, is_held}

pub put_here : (f : ℕ → ℕ) (a x k : ℕ) → k ≡ a → put f a x k ≡ x
put_here f a x k h = rw (eq-eqb k a h) refl

pub put_other : (f : ℕ → ℕ) (a x k : ℕ) → k ≢ a → put f a x k ≡ f k
put_other f a x k h = rw (ne_eqb k a h) refl

copies_load : (k : Kind) (a b : ℕ) (v : View) → is_held k ≡ true → Copies v (load_by k b a v) a b k Own
copies_load Own a b v h = record {
  here = put_here v.at b (v.at a) b refl;
  same = λ k z n. put_other v.at b (v.at a) k n;
  flags = refl;
  inputs = refl;
  safe = refl;
  seen = sym (append-nil v.seen);
}
copies_load Object a b v h = record {
  here = put_here v.at b (v.at a) b refl;
  same = λ k z n. put_other v.at b (v.at a) k n;
  flags = refl;
  inputs = refl;
  safe = refl;
  seen = refl;
}
copies_load Port a b v h = cc
copies_load Stacked a b v h = cc
copies_load Page a b v h = cc
copies_load Barred a b v h = cc

copies_store : (k : Kind) (a b : ℕ) (v : View) → is_held k ≡ true → Copies v (store_by k b (v.at a) v) a b Own k
copies_store Own a b v h = record {
  here = put_here v.at b (v.at a) b refl;
  same = λ k z n. put_other v.at b (v.at a) k n;
  flags = refl;
  inputs = refl;
  safe = refl;
  seen = sym (append-nil v.seen);
}
copies_store Object a b v h = record {
  here = put_here v.at b (v.at a) b refl;
  same = λ k z n. put_other v.at b (v.at a) k n;
  flags = refl;
  inputs = refl;
  safe = refl;
  seen = refl;
}
copies_store Port a b v h = cc
copies_store Stacked a b v h = cc
copies_store Page a b v h = cc
copies_store Barred a b v h = cc

-- through R0
copies_both : (k l : Kind) (a b : ℕ) (v w u : View) → a ≢ 0 → b ≢ 0 → Copies v w a 0 k Own → Copies w u 0 b Own l
    → Copies v u a b k l
copies_both k l a b v w u x y p q = record {
  here = q.here ∙ p.here;
  same = λ j z n. q.same j z n ∙ p.same j z z;
  flags = q.flags ∙ p.flags;
  inputs = q.inputs ∙ p.inputs;
  safe = q.safe ∙ p.safe;
  seen = q.seen ∙ rw (p.seen, p.here) (ends v.seen (read_of k a (v.at a)) (write_of l b (v.at a)));
}
  where
    ends : {A : Type 0} (s r t : List A) → (s ++ (r ++ [])) ++ ([] ++ t) ≡ s ++ (r ++ t)
    ends s r t = ap (λ n. (s ++ n) ++ t) (append-nil r) ∙ append_assoc s r t

pub copy_byte_copies : (e : Env) (p q : Location) (i a b : ℕ) (ka kb : Kind) (v : View) → address e p i ≡ a
    → address e q i ≡ b → KindIs e p a ka → KindIs e q b kb → is_held ka ≡ true → is_held kb ≡ true → 2 ≤ a → 2 ≤ b
    → Copies v (block e (copy_byte p q i) v) a b ka kb
copy_byte_copies e (InRegisters x) (InRegisters y) i a b ka kb v p q ja jb ha hb za zb =
    rw (p, q, ja, jb) (copies_load Own a b v refl)
copy_byte_copies e (InMemory o k) (InRegisters y) i a b ka kb v p q ja jb ha hb za zb =
    rw (p, q, ja, jb) (copies_load ka a b v ha)
copy_byte_copies e (InRegisters x) (InMemory o k) i a b ka kb v p q ja jb ha hb za zb =
    rw (p, q, ja, jb) (copies_store kb a b v hb)
copy_byte_copies e (InMemory o k) (InMemory o' k') i a b ka kb v p q ja jb ha hb za zb =
    let w = load_by ka 0 a v in
    rw (p, q, ja, jb) (copies_both ka kb a b v w _ (omega arith) (omega arith) (copies_load ka a 0 v ha) (copies_store kb 0 b w hb))

-- ---- operations

-- through R0, where the place stands in memory
through : (f : ℕ → ℕ → Flags → ℕ) (g : ℕ → ℕ → Flags → Flags) (v v2 : View) (a b y : ℕ) → v2.at 0 ≡ v.at b
    → v2.at y ≡ v.at a → v2.flags ≡ v.flags → v2.inputs ≡ v.inputs → v2.safe ≡ v.safe → v2.seen ≡ v.seen
    → ((k : ℕ) → k ≢ 0 → k ≢ 1 → v2.at k ≡ v.at k) → let v3 =
    set_both 0 (f (v2.at 0) (v2.at y) v2.flags) (g (v2.at 0) (v2.at y) v2.flags) v2 in Operates f g v (set b (v3.at 0) v3) a b
through f g v v2 a b y h0 hy hf hi hs hn same =
    let x = f (v2.at 0) (v2.at y) v2.flags in
    let v3 = set_both 0 x (g (v2.at 0) (v2.at y) v2.flags) v2 in
    record {
      here = put_here v3.at b x b refl ∙ rw (h0, hy, hf) refl;
      flags = rw (h0, hy, hf) refl;
      same = λ k z o n. put_other v3.at b x k n ∙ put_other v2.at 0 x k z ∙ same k z o;
      inputs = hi;
      safe = hs;
      seen = hn;
    }

pub binary_operates : (op : ℕ → ℕ → Instr) (f : ℕ → ℕ → Flags → ℕ) (g : ℕ → ℕ → Flags → Flags) → IsBinary op f g
    → (e : Env) (p q : Location) (i a b : ℕ) (v : View) → address e p i ≡ a → address e q i ≡ b → KindIs e p a Own
    → KindIs e q b Own → 2 ≤ a → 2 ≤ b → Operates f g v (block e (binary_byte op p q i) v) a b
binary_operates op f g h e (InRegisters x) (InRegisters y) i a b v p q ka kb ua ub =
    rw (h.is e (y + i) (x + i) v, p, q) (record {
      here = put_here v.at b (f (v.at b) (v.at a) v.flags) b refl;
      flags = refl;
      same = λ k z o n. put_other v.at b (f (v.at b) (v.at a) v.flags) k n;
      inputs = refl;
      safe = refl;
      seen = refl;
    })
binary_operates op f g h e (InMemory o k) (InRegisters y) i a b v p q ka kb ua ub =
    let v1 = set 0 (v.at a) v in
    let d = put_other v.at 0 (v.at a) b (omega arith) in
    rw (p, ka, h.is e (y + i) 0 v1, q) (record {
      here = put_here v1.at b (f (v1.at b) (v.at a) v.flags) b refl ∙ ap (λ n. f n (v.at a) v.flags) d;
      flags = ap (λ n. g n (v.at a) v.flags) d;
      same = λ k z o n. put_other v1.at b (f (v1.at b) (v.at a) v.flags) k n ∙ put_other v.at 0 (v.at a) k z;
      inputs = refl;
      safe = refl;
      seen = refl;
    })
binary_operates op f g h e (InRegisters x) (InMemory o k) i a b v p q ka kb ua ub =
    let v1 = set 0 (v.at b) v in
    rw (q, kb, h.is e 0 (x + i) v1, p)
    (through f g v v1 a b a refl (put_other v.at 0 (v.at b) a (omega arith)) refl refl refl refl (λ k z o. put_other v.at 0 (v.at b) k z))
binary_operates op f g h e (InMemory o k) (InMemory o' k') i a b v p q ka kb ua ub =
    let v1 = set 1 (v.at a) v in
    let v2 = set 0 (v1.at b) v1 in
    rw (p, ka, q, kb, h.is e 0 1 v2) (through f g v v2 a b 1 (put_other v.at 1 (v.at a) b (omega arith)) refl refl refl refl refl
    (λ k z o. put_other v1.at 0 (v1.at b) k z ∙ put_other v.at 1 (v.at a) k o))
