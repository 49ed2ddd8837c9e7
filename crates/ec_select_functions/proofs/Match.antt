-- What an operation leaves matches what it means.
use Rattle.std.proofs.Common.{◌≡◌, ◌≢◌, ℕ, zero, suc, ◌+◌, ◌%◌, ◌^◌, ◌<◌, ◌≤◌, ◌⊎◌, inl, inr, ⊎_elim, Bool, true, false, List, [], ◌∷◌}
use Rattle.std.proofs.Common.{Option, Some, None, refl, sym, ap, ◌∙◌, subst, arith}
use Rattle.std.specs.Prelude.{◌==◌, if◌then◌else◌, map, slice_get, option_and_then}
use Rattle.std.proofs.lemmas.Bool.{cases_eq, eq-eqb, ne_eqb}
use Rattle.std.proofs.lemmas.Bool.Decides.{nat_tests}
use Rattle.ec_space.specs.declared.space.Bank.TheVariants.{Data as DataBank}
use Rattle.ec_asm.specs.declared.pieces.Location.{Location}
use Rattle.ec_asm.specs.View.{View}
use Rattle.ec_asm.specs.Change.{Env}
use Rattle.ec_asm.specs.Pieces.{value}
use Rattle.ec_asm.specs.PieceLaws.{HoldsNumbers, IsReadFirst, AreHeld}
use Rattle.ec_asm.proofs.Numbers.{value_mod, mod_less}
use Rattle.ec_asm.proofs.Sum.{value-same}
use Rattle.ec_core.specs.declared.values.Value.{Value}
use Rattle.ec_core.specs.declared.values.Value.TheVariants.{Number, Pointer}
use Rattle.ec_core.specs.Accesses.{leaf_of}
use Rattle.ec_core.specs.Plain.{PlainObject, PlainProgram}
use Rattle.ec_core.specs.State.{Inputs, ObjectState, GroupStates, State}
use Rattle.ec_ir.specs.declared.operations.Temp.{Temp}
use Rattle.ec_ir.specs.Meaning.{is_kept, standing, given_up, kept_in, kept_for, Mach, machine}
use Rattle.ec_ir.specs.Temporaries.{Content, bits, points, Held, Temps, with_content}
use Rattle.ec_select_operations.specs.Homes.{HasHome}
use Rattle.ec_select_operations.specs.Needs.{Need, at_least, without, wanted}
use Rattle.ec_select_operations.specs.Places.{ObjectLeaf, Apart}
use Rattle.ec_select_operations.specs.Pointers.{address_number}
use Rattle.ec_select_functions.proofs.Cells.{memory_of, same_objects, same_groups}
use Rattle.ec_select_functions.proofs.Setting.{Setting}
use Rattle.ec_select_functions.specs.Relation.{accesses, AreLeft, HoldsContent, HoldsLeaf, AreFrames, FramesStand, Matches}
use Rattle.ec_select_functions.proofs.Moves.{Frame, Wide, Quiet, widened, row_kept_wide}

-- ---- contents

-- fewer low bytes
pub less_value : (f : ℕ → ℕ) (a n m x : ℕ) → m ≤ n → AreHeld f a n → value f a n ≡ x % 256 ^ n → value f a m ≡ x % 256 ^ m
less_value f a n m x l held h = sym (value_mod f a m n l held) ∙ ap (λ t. t % 256 ^ m) h ∙ mod_less x m n l

pub less_content : (p : PlainProgram) (place : ℕ → ℕ) (f : ℕ → ℕ) (a n m bytes : ℕ) (c : Content) → m ≤ n → AreHeld f a n
    → HoldsContent p place f a n bytes c → HoldsContent p place f a m bytes c
less_content p place f a n m bytes (bits low) l held h = (less_value f a n m low l held h.0, h.1)
less_content p place f a n m bytes (points q) l held h =
    (less_value f a n m (address_number p place bytes q.object q.offset) l held h.0, h.1)

pub same_content : (p : PlainProgram) (place : ℕ → ℕ) (f g : ℕ → ℕ) (a n bytes : ℕ) (c : Content)
    → ((j : ℕ) → j < n → g (a + j) ≡ f (a + j)) → HoldsContent p place f a n bytes c → HoldsContent p place g a n bytes c
same_content p place f g a n bytes (bits low) s h = (value-same g f a n s ∙ h.0, h.1)
same_content p place f g a n bytes (points q) s h = (value-same g f a n s ∙ h.0, h.1)

pub same_leaf : (p : PlainProgram) (place : ℕ → ℕ) (f g : ℕ → ℕ) (a n : ℕ) (u : Value)
    → ((j : ℕ) → j < n → g (a + j) ≡ f (a + j)) → HoldsLeaf p place f a n u → HoldsLeaf p place g a n u
same_leaf p place f g a n (Number i) s h = value-same g f a n s ∙ h
same_leaf p place f g a n (Pointer None) s h = value-same g f a n s ∙ h
same_leaf p place f g a n (Pointer (Some q)) s h = (value-same g f a n s ∙ h.0, h.1)

abbrev temp_of : ℕ → ℕ → Temp
temp_of at bytes = record { at = at; bytes = bytes }

pub same_temp : (t u : Temp) → t.at ≡ u.at → t.bytes ≡ u.bytes → t ≡ u
same_temp t u p q = ap (λ a. temp_of a t.bytes) p ∙ ap (temp_of u.at) q

-- ---- needs

pub wanted_most : (need : Need) (t : Temp) → wanted need t ≤ t.bytes
wanted_most need t = omega arith

pub wanted_more : (a b : Need) (t : Temp) → a t.at ≤ b t.at → wanted a t ≤ wanted b t
wanted_more a b t l = omega arith

pub least_here : (at n : ℕ) (need : Need) → n ≤ at_least at n need at
least_here at n need = grind (arith, nat_tests)

pub least_other : (at n place : ℕ) (need : Need) → need place ≤ at_least at n need place
least_other at n place need = grind (arith, nat_tests)

pub without_other : (at place : ℕ) (need : Need) → place ≢ at → need place ≤ without at need place
without_other at place need q = grind (arith, nat_tests)

pub held_row : (v : View) (a n : ℕ) → 2 ≤ a → HoldsNumbers v → AreHeld v.at a n
held_row v a n some h j l = h (a + j) (omega arith)

-- where the inputs are kept
pub kept_left : (inputs : Inputs) (s : State) (v v1 : View) → v1.inputs ≡ v.inputs → AreLeft inputs s v
    → AreLeft inputs s v1
kept_left inputs s v v1 q h port = ap (λ f. f port) q ∙ h port

-- ---- what is kept

-- an object that has a value of those that are kept, has it
pub record HadValue (fs : List ℕ) (os : List PlainObject) (xs : List ObjectState) (o k : ℕ) (u : Value) : Type 0 where
  pub state : ObjectState
  pub is_state : slice_get xs o ≡ Some state
  pub leaf : leaf_of state k ≡ Some u

unset_none : (vs : List (Option Value)) (k : ℕ) (u : Value) → option_and_then (λ v. v) (slice_get (map (λ v. None) vs) k) ≡ Some u → ⊥
unset_none [] k u h = cc
unset_none (v ∷ vs) zero u h = cc
unset_none (v ∷ vs) (suc k) u h = unset_none vs k u h

pub had_value : (fs : List ℕ) (os : List PlainObject) (xs : List ObjectState) (o k : ℕ) (x : ObjectState) (u : Value)
    → slice_get (kept_in fs os xs) o ≡ Some x → leaf_of x k ≡ Some u → HadValue fs os xs o k u
had_value fs [] xs o k x u q w = record { state = x; is_state = q; leaf = w }
had_value fs (d ∷ os) [] o k x u q w = cc
had_value fs (d ∷ os) (z ∷ xs) zero k x u q w = by_test (is_kept fs d.storage) q
  where
    by_test : (b : Bool) → Some (if b then standing z else given_up z) ≡ Some x → HadValue fs (d ∷ os) (z ∷ xs) zero k u
    by_test true q =
        let i : standing z ≡ x = cc in record { state = z; is_state = refl; leaf = ap (λ (y : ObjectState). leaf_of y k) i ∙ w }
    by_test false q =
        let i : given_up z ≡ x = cc in
        absurd (unset_none z.leaves k u (ap (λ (y : ObjectState). leaf_of y k) i ∙ w))
had_value fs (d ∷ os) (z ∷ xs) (suc o) k x u q w =
    let r = had_value fs os xs o k x u q w in record { state = r.state; is_state = r.is_state; leaf = r.leaf }

-- and no other than those that are kept is live, or has a value
pub only_kept : (fs : List ℕ) (os : List PlainObject) (xs : List ObjectState) (o : ℕ) (d : PlainObject) (x : ObjectState)
    → slice_get os o ≡ Some d → slice_get (kept_in fs os xs) o ≡ Some x
    → (x.live ≡ true) ⊎ ((k : ℕ) × (u : Value) × (leaf_of x k ≡ Some u)) → is_kept fs d.storage ≡ true
only_kept fs [] xs o d x r q has = absurd cc
only_kept fs (c ∷ os) [] o d x r q has = absurd cc
only_kept fs (c ∷ os) (z ∷ xs) zero d x r q has =
    let i : c ≡ d = cc in
    subst (λ (y : PlainObject). is_kept fs y.storage ≡ true) i (by_test (is_kept fs c.storage) q)
  where
    by_test : (b : Bool) → Some (if b then standing z else given_up z) ≡ Some x → b ≡ true
    by_test true q = refl
    by_test false q =
        let i : given_up z ≡ x = cc in
        ⊎_elim
        (λ (live : x.live ≡ true). let l : false ≡ true = ap (λ (y : ObjectState). y.live) i ∙ live in absurd cc)
        (λ (value : (k : ℕ) × (u : Value) × (leaf_of x k ≡ Some u)).
        absurd (unset_none z.leaves value.0 value.1 (ap (λ (y : ObjectState). leaf_of y value.0) i ∙ value.2)))
        has
only_kept fs (c ∷ os) (z ∷ xs) (suc o) d x r q has = only_kept fs os xs o d x r q has

-- so frames stand for these functions
abbrev pub kept_frames : (p : PlainProgram) (active called fs : List ℕ) (s : State) → AreFrames active called fs
    → FramesStand p active called (kept_for p fs s).objects
kept_frames p active called fs s are = record {
  functions = fs;
  are_frames = are;
  live = λ o d x r q l. only_kept fs p.objects s.objects o d x r q (inl l);
  valued = λ o k d x u r q w. only_kept fs p.objects s.objects o d x r q (inr (k, u, w));
}

abbrev pub kept_matches : (p : PlainProgram) (e : Env) (inputs : Inputs) (slots : ℕ) (base : Temp → ℕ) (place : ℕ → ℕ) (aside : ℕ → Bool)
    (stands : GroupStates → ℕ → Option ℕ) (active called active1 called1 : List ℕ) (need : Need) (fs : List ℕ) (temps : Temps) (s : State)
    (v : View)
    → AreFrames active1 called1 fs
    → Matches p e inputs slots base place aside stands active called need (machine temps s) v
    → Matches p e inputs slots base place aside stands active1 called1 need (machine temps (kept_for p fs s)) v
kept_matches p e inputs slots base place aside stands active called active1 called1 need fs temps s v are z = record {
  temps_hold = z.temps_hold;
  leaves_hold = λ l x u q w. let r = had_value fs p.objects s.objects l.object l.number x u q w in
      z.leaves_hold l r.state u r.is_state r.leaf;
  tables_hold = λ l x u q w. let r = had_value fs p.objects s.objects l.object l.number x u q w in
      z.tables_hold l r.state u r.is_state r.leaf;
  frames = kept_frames p active1 called1 fs s are;
  kept = z.kept;
  bytes = z.bytes;
  left = z.left;
  seen = z.seen;
  safe = z.safe;
}

module _ (p : PlainProgram) (e : Env) (slots : ℕ) (home : Temp → Location) (base : Temp → ℕ) (place : ℕ → ℕ)
    (y : Setting p e slots home base place) where
  abbrev pub M : Need → Mach → View → Type 0
  M need m v = Matches p e y.inputs slots base place y.aside y.stands y.active y.called need m v

  -- fewer bytes of a temporary that is read
  pub at_width : (need : Need) (m : Mach) (v : View) (t : Temp) (h : Held) (n : ℕ) → M need m v → HasHome slots t
      → m.temps t.at ≡ Some h → h.bytes ≡ t.bytes → n ≤ wanted need t
      → HoldsContent p place v.at (base t) n t.bytes h.content
  at_width need m v t h n z it q w l =
      less_content p place v.at (base t) (wanted need t) n t.bytes h.content l
      (held_row v (base t) (wanted need t) (y.layout.temps_at t it).clear z.bytes) (z.temps_hold t h it q w)

  -- the whole of it
  pub whole : (need : Need) (m : Mach) (v : View) (t : Temp) (h : Held) → M (at_least t.at t.bytes need) m v
      → HasHome slots t → m.temps t.at ≡ Some h → h.bytes ≡ t.bytes → HoldsContent p place v.at (base t) t.bytes t.bytes h.content
  whole need m v t h z it q w =
      at_width (at_least t.at t.bytes need) m v t h t.bytes z it q w (let l = least_here t.at t.bytes need in omega (arith, l))

  pub weaker : (a b : Need) (m : Mach) (v : View) → M a m v → ((u : ℕ) → b u ≤ a u) → M b m v
  weaker a b m v z l = record {
    temps_hold = λ t h it q w. at_width a m v t h (wanted b t) z it q w (wanted_more b a t (l t.at));
    leaves_hold = z.leaves_hold;
    tables_hold = z.tables_hold;
    frames = z.frames;
    kept = z.kept;
    bytes = z.bytes;
    left = z.left;
    seen = z.seen;
    safe = z.safe;
  }

  -- a temporary that is read before another one is written, which is at another place or begins where it does
  pub read_first : (t u : Temp) (n : ℕ) → HasHome slots t → HasHome slots u → n ≤ u.bytes → IsReadFirst (base u) (base t) n
  read_first t u n it iu l q =
      ⊎_elim
      (λ same.
      ⊎_elim
      (λ (i : base u ≡ base t). absurd (omega arith))
      (λ (x : Apart (base u) u.bytes (base t) t.bytes). let z = x.left q in omega arith)
      (y.layout.temps_again u t iu it same))
      (λ other. let z = (y.layout.temps_apart u t iu it other).left q in omega arith)
      (cases_eq u.at t.at)

  pub temp_row : (t u : Temp) (v v1 : View) → HasHome slots t → HasHome slots u → t.at ≢ u.at
      → Wide v v1 (base t) t.bytes → (j : ℕ) → j < u.bytes → v1.at (base u + j) ≡ v.at (base u + j)
  temp_row t u v v1 it iu other f j l =
      row_kept_wide v v1 (base t) t.bytes (base u) u.bytes (y.layout.temps_at u iu).clear (y.layout.temps_work u iu)
      (y.layout.temps_apart t u it iu other) f j l

  pub leaf_row : (t : Temp) (k : ObjectLeaf p DataBank) (v v1 : View) → HasHome slots t → Wide v v1 (base t) t.bytes → (j : ℕ)
      → j < k.bytes → v1.at (place k.object + k.at + j) ≡ v.at (place k.object + k.at + j)
  leaf_row t k v v1 it f j l =
      row_kept_wide v v1 (base t) t.bytes (place k.object + k.at) k.bytes (y.layout.leaves_at k).clear (y.layout.leaves_work k)
      (y.layout.temp_leaf t k it) f j l

  -- bytes that are set aside
  aside_kept : (t : Temp) (v v1 : View) → HasHome slots t → Wide v v1 (base t) t.bytes → (k : ℕ) → y.aside k ≡ true
      → v1.at k ≡ v.at k
  aside_kept t v v1 it f k q =
      let u = y.high k q in
      f k (omega arith) (omega arith) (λ l. omega arith) (λ l. omega arith) (y.temps_aside t k it q)

  -- what came of the temporaries: t was written, and of the others no more is needed than before
  written_temp : (t : Temp) (c : Content) (need need0 : Need) (m : Mach) (v v1 : View) → HasHome slots t → M need0 m v
      → ((u : ℕ) → u ≢ t.at → need u ≤ need0 u) → Wide v v1 (base t) t.bytes
      → HoldsContent p place v1.at (base t) (wanted need t) t.bytes c → (u : Temp) (h : Held) → HasHome slots u
      → with_content t c m.temps u.at ≡ Some h → h.bytes ≡ u.bytes
      → HoldsContent p place v1.at (base u) (wanted need u) u.bytes h.content
  written_temp t c need need0 m v v1 it z more frame here u h iu q w =
      ⊎_elim
      (λ same.
      let b = eq-eqb u.at t.at same in
      let held : Held = record { bytes = t.bytes; content = c } in
      let g : (if u.at == t.at then Some held else m.temps u.at) ≡ Some h = q in
      let g1 : Some held ≡ Some h = (rw b at g) in
      let o : held ≡ h = cc in
      let s : t.bytes ≡ u.bytes = ap (λ (x : Held). x.bytes) o ∙ w in
      let i : t ≡ u = same_temp t u (sym same) s in
      subst (λ (x : Temp). HoldsContent p place v1.at (base x) (wanted need x) x.bytes h.content) i
      (subst (λ (x : Held). HoldsContent p place v1.at (base t) (wanted need t) t.bytes x.content) o here))
      (λ other.
      let b = ne_eqb u.at t.at other in
      let held : Held = record { bytes = t.bytes; content = c } in
      let g : (if u.at == t.at then Some held else m.temps u.at) ≡ Some h = q in
      let g1 : m.temps u.at ≡ Some h = (rw b at g) in
      let k = at_width need0 m v u h (wanted need u) z iu g1 w (wanted_more need need0 u (more u.at other)) in
      let most = wanted_most need u in
      same_content p place v.at v1.at (base u) (wanted need u) u.bytes h.content
      (λ j l. temp_row t u v v1 it iu (λ r. other (sym r)) frame j (omega arith)) k)
      (cases_eq u.at t.at)

  -- a temporary was written
  pub written_wide : (t : Temp) (c : Content) (need need0 : Need) (m : Mach) (s1 : State) (v v1 : View) → HasHome slots t
      → M need0 m v → ((u : ℕ) → u ≢ t.at → need u ≤ need0 u) → Wide v v1 (base t) t.bytes
      → HoldsContent p place v1.at (base t) (wanted need t) t.bytes c → HoldsNumbers v1 → memory_of s1 ≡ memory_of m.state
      → v1.seen ≡ accesses p place s1.events → AreLeft y.inputs s1 v1 → v1.safe ≡ true → M need (machine (with_content t c m.temps) s1) v1
  written_wide t c need need0 m s1 v v1 it z more frame here numbers memory seen left safe = record {
    temps_hold = written_temp t c need need0 m v v1 it z more frame here;
    leaves_hold = λ l x u q w. same_leaf p place v.at v1.at (place l.object + l.at) l.bytes u (leaf_row t l v v1 it frame)
        (z.leaves_hold l x u (ap (λ o. slice_get o l.object) (sym (same_objects s1 m.state memory)) ∙ q) w);
    tables_hold = λ l x u q w. z.tables_hold l x u (ap (λ o. slice_get o l.object) (sym (same_objects s1 m.state memory)) ∙ q) w;
    frames = subst (λ o. FramesStand p y.active y.called o) (sym (same_objects s1 m.state memory)) z.frames;
    kept = λ k byte q w. aside_kept t v v1 it frame k q
        ∙ z.kept k byte q (ap (λ g. y.stands g k) (sym (same_groups s1 m.state memory)) ∙ w);
    bytes = numbers;
    left = left;
    seen = seen;
    safe = safe;
  }

  -- a temporary has changed of which nothing is needed
  pub free_changed : (t : Temp) (need : Need) (m : Mach) (v v1 : View) → HasHome slots t → wanted need t ≡ 0 → M need m v
      → Wide v v1 (base t) t.bytes → HoldsNumbers v1 → Quiet v v1 → M need m v1
  free_changed t need m v v1 it none z frame numbers quiet = record {
    temps_hold = λ u h iu q w. same_content p place v.at v1.at (base u) (wanted need u) u.bytes h.content
        (λ j l.
        ⊎_elim
        (λ (same : u.at ≡ t.at).
        let needed : need u.at ≡ need t.at = ap need same in
        let some = it.some in
        absurd (omega (arith, needed, none, some, l)))
        (λ other. temp_row t u v v1 it iu (λ r. other (sym r)) frame j (omega arith))
        (cases_eq u.at t.at))
        (z.temps_hold u h iu q w);
    leaves_hold = λ l x u q w. same_leaf p place v.at v1.at (place l.object + l.at) l.bytes u (leaf_row t l v v1 it frame)
        (z.leaves_hold l x u q w);
    tables_hold = z.tables_hold;
    frames = z.frames;
    kept = λ k byte q w. aside_kept t v v1 it frame k q ∙ z.kept k byte q w;
    bytes = numbers;
    left = kept_left y.inputs m.state v v1 quiet.inputs z.left;
    seen = quiet.seen ∙ z.seen;
    safe = quiet.safe ∙ z.safe;
  }

  -- the same as where one was written, where of the work registers R30 alone has changed
  pub written : (t : Temp) (c : Content) (need need0 : Need) (m : Mach) (s1 : State) (v v1 : View) → HasHome slots t
      → M need0 m v → ((u : ℕ) → u ≢ t.at → need u ≤ need0 u) → Frame v v1 (base t) t.bytes
      → HoldsContent p place v1.at (base t) (wanted need t) t.bytes c → HoldsNumbers v1 → memory_of s1 ≡ memory_of m.state
      → v1.seen ≡ accesses p place s1.events → AreLeft y.inputs s1 v1 → v1.safe ≡ true → M need (machine (with_content t c m.temps) s1) v1
  written t c need need0 m s1 v v1 it z more frame here numbers memory seen left safe =
      written_wide t c need need0 m s1 v v1 it z more (widened v v1 (base t) t.bytes frame) here numbers memory seen left safe
