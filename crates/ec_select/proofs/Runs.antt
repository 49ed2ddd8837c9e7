-- What the code of a program does, from its first word on.
use Rattle.std.proofs.Common.{◌≡◌, ◌⊎◌, ℕ, zero, suc, ◌+◌, ◌-◌, ◌*◌, ◌<◌, ◌≤◌, Bool, true, false, List, []}
use Rattle.std.proofs.Common.{◌∷◌, ◌++◌, refl, sym, ◌∙◌, ap, subst, arith, length, inl, inr, ltb-true, replicate}
use Rattle.std.specs.Prelude.{if◌then◌else◌, ◌&&◌, nat_le, nat_lt, Option, Some, None, option_map, option_and_then}
use Rattle.std.specs.Prelude.{slice_get}
use Rattle.std.specs.Prelude.{slice_index, All, sum_by}
use Rattle.std.specs.List.{AllPairs}
use Rattle.std.proofs.lemmas.Bool.{false≢true}
use Rattle.std.proofs.lemmas.List.Sums.{sum_by-append}
use Rattle.std.proofs.lemmas.Option.{slice_get-map, slice_get_within}
use Rattle.ec_space.specs.declared.space.Bank.TheVariants.{Data as DataBank}
use Rattle.ec_space.specs.declared.space.Home.{Home}
use Rattle.ec_space.specs.declared.space.Home.TheVariants.{Data as DataHome, Flash as FlashHome, Far as FarHome}
use Rattle.ec_space.specs.Spaces.{bank_of}
use Rattle.ec_asm.specs.declared.items.AsmItem.{AsmItem}
use Rattle.ec_asm.specs.declared.items.AsmProgram.{AsmProgram}
use Rattle.ec_asm.specs.Change.{Env, Kind, Object}
use Rattle.ec_asm.specs.Items.{HasAt, chain}
use Rattle.ec_asm.specs.Laws.{PartsStand}
use Rattle.ec_asm.specs.Pieces.{value}
use Rattle.ec_asm.specs.Shows.{Shows, Fits, may_be}
use Rattle.ec_asm.specs.View.{View}
use Rattle.ec_avr.specs.Machine.{State}
use Rattle.ec_core.specs.declared.values.Value.{Value}
use Rattle.ec_core.specs.declared.values.Value.TheVariants.{Number, Pointer}
use Rattle.ec_core.specs.Accesses.{leaf_of, leaf_count}
use Rattle.ec_core.specs.Layout.{size_of_type}
use Rattle.ec_core.specs.Meaning.{initial_object}
use Rattle.ec_core.specs.Plain.{PlainStorage, static, local, param, register, PlainObject, PlainProgram, PlainStruct}
use Rattle.ec_core.specs.State.{Inputs, ObjectState}
use Rattle.ec_core.specs.Valid.{IsObject}
use Rattle.ec_core.proofs.Homes.{home_in_data}
use Rattle.ec_ir.specs.Meaning.{start_state, standing}
use Rattle.ec_ir.specs.Operations.{PlainIrFunction, PlainIrProgram, data_of}
use Rattle.ec_ir.specs.Valid.{ValidIr}
use Rattle.ec_select_reset.specs.Laws.{HasInitials, CanStart, ProgramsShowTheirOperations}
use Rattle.ec_select_functions.specs.Laws.{Made, IsSelected, AreSelected}
use Rattle.ec_select_operations.specs.Places.{ObjectLeaf, CanBeLiveTogether}
use Rattle.ec_select_functions.specs.Relation.{HoldsLeaf}
use Rattle.ec_select_functions.specs.Standing.{StandsInMemory, ObjectStands, ObjectsStand}
use Rattle.ec_select_startup.specs.declared.spans.Filling.{Filling}
use Rattle.ec_select_startup.specs.declared.spans.Filling.TheVariants.{Copied, Cleared}
use Rattle.ec_select_startup.specs.declared.spans.Span.{Span}
use Rattle.ec_select_startup.specs.Laws.{CanBeSet, IsBeside, IsSet, byte_of}
use Rattle.ec_select_startup.specs.Startup.{startup_code}
use Rattle.ec_select.specs.LaidOut.{initial_at, IsLaidOut, object_steps}
use Rattle.ec_select.specs.Labels.{function_label}
use Rattle.ec_select.specs.Laws.{RunsAsOperations, SelectionsRun}
use Rattle.ec_select.specs.Program.{has_initial_bytes, filling_of, span_of, spans_from, spans_of, made_with, code_of}
use Rattle.ec_select.specs.Program.{functions_code}
use Rattle.ec_select.specs.Program.{program_code}
use Rattle.ec_select.specs.Selected.{HasCode, IsSelection}
use Rattle.ec_select.specs.Sharing.{routine_of, routines_code}
use Rattle.ec_select.proofs.Added.{by_place}
use Rattle.ec_select.proofs.RoutinesStand.{routine_called, routine_stands}
use Rattle.ec_select.proofs.Setting.{all_at}
use Rattle.ec_select.proofs.SpanLists.{the_span, IsInitial, each_from, span_holds, pairs_from}
use Rattle.ec_select.proofs.Whole.{CodeLaws}
use Rattle.ec_select.proofs.Zeros.{cleared_holds}

-- what this rests on
pub record RunLaws : Type 0 where
  pub code : CodeLaws
  pub parts : PartsStand
  pub follows : ProgramsShowTheirOperations

-- ---- numbers of bytes that are the same

values_same : (f g : ℕ → ℕ) (a b n : ℕ) → ((i : ℕ) → i < n → f (a + i) ≡ g (b + i)) → value f a n ≡ value g b n
values_same f g a b zero h = refl
values_same f g a b (suc n) h =
    let r = values_same f g a b n (λ i l. h i (omega arith)) in let q = h n (omega arith) in rw (r, q) refl

leaf_same : (p : PlainProgram) (place f g : ℕ → ℕ) (a b n : ℕ) (u : Value) → ((i : ℕ) → i < n → f (a + i) ≡ g (b + i))
    → HoldsLeaf p place g b n u → HoldsLeaf p place f a n u
leaf_same p place f g a b n (Number i) h k = values_same f g a b n h ∙ k
leaf_same p place f g a b n (Pointer None) h k = values_same f g a b n h ∙ k
leaf_same p place f g a b n (Pointer (Some q)) h k = (values_same f g a b n h ∙ k.0, k.1)

none_set : (n k : ℕ) → option_and_then (λ (v : Option Value). v) (slice_get (replicate n None) k) ≡ None
none_set zero k = refl
none_set (suc n) zero = refl
none_set (suc n) (suc k) = none_set n k

-- ---- one of some pieces

pub piece_at : PartsStand → (e : Env) (body : ℕ → List AsmItem) (n pc end f : ℕ) → HasAt e (chain body n) pc end → f < n
    → (a : ℕ) × (b : ℕ) × HasAt e (body f) a b
piece_at parts e body zero pc end f h l = absurd (omega arith)
piece_at parts e body (suc n) pc end f h l =
    let two = parts e (chain body n) (body n) pc end h in
    at_place (by_place f n (omega arith)) two.0 two.1 two.2 (λ m. piece_at parts e body n pc two.0 f two.1 m) where
      at_place : ((f ≡ n) ⊎ (f < n)) → (mid : ℕ) → HasAt e (chain body n) pc mid → HasAt e (body n) mid end
          → (f < n → (a : ℕ) × (b : ℕ) × HasAt e (body f) a b) → (a : ℕ) × (b : ℕ) × HasAt e (body f) a b
      at_place (inl q) mid x y before = (mid, end, subst (λ (k : ℕ). HasAt e (body k) mid end) (sym q) y)
      at_place (inr m) mid x y before = before m

-- ---- static objects

static_home : (s : PlainStorage) (home : Home) → has_initial_bytes s home ≡ true → bank_of home ≡ DataBank
static_home (static inits) DataHome h = refl
static_home (static inits) FlashHome h = absurd (false≢true h)
static_home (static inits) FarHome h = absurd (false≢true h)
static_home (local f) home h = absurd (false≢true h)
static_home (param f) home h = absurd (false≢true h)
static_home (register r) home h = absurd (false≢true h)

static_stands : (e : Env) (o n at : ℕ) (s : PlainStorage) (home : Home) → has_initial_bytes s home ≡ true
    → ObjectStands e o n at s → StandsInMemory e o n at
static_stands e o n at (static inits) home h k = k
static_stands e o n at (local f) home h k = absurd (false≢true h)
static_stands e o n at (param f) home h k = absurd (false≢true h)
static_stands e o n at (register r) home h k = absurd (false≢true h)

-- static objects can be live together with all others
static_meets : (p : PlainIrProgram) (s t : PlainStorage) (home : Home) → has_initial_bytes s home ≡ true → CanBeLiveTogether p s t
static_meets p (static inits) t home h f g q r = absurd cc
static_meets p (local i) t home h f g q r = absurd (false≢true h)
static_meets p (param i) t home h f g q r = absurd (false≢true h)
static_meets p (register i) t home h f g q r = absurd (false≢true h)

and_second : (a b : Bool) → (a && b) ≡ true → b ≡ true
and_second true b h = h
and_second false b h = absurd (false≢true h)

-- ---- steps

span_steps : (structs : List PlainStruct) (o : ℕ) (ds : List PlainObject)
    → sum_by (λ (s : Span). 6 + 4 * s.bytes) (spans_from structs o ds) ≤ sum_by (object_steps structs) ds
span_steps structs o [] = omega arith
span_steps structs o (d ∷ ds) =
    let rest = span_steps structs (o + 1) ds in
    let a = sum_by-append (λ (s : Span). 6 + 4 * s.bytes) (span_of structs o d) (spans_from structs (o + 1) ds) in
    let b = sum_by-append (object_steps structs) (d ∷ []) ds in
    let c = one (has_initial_bytes d.storage d.home) in
    omega (arith, rest, a, b, c) where
      one : (kept : Bool) → sum_by (λ (s : Span). 6 + 4 * s.bytes) (if kept then the_span structs o d ∷ [] else [])
          ≤ (if kept then 40 + 20 * size_of_type structs d.ty else 0)
      one true = omega arith
      one false = omega arith

-- a byte of one of two numbers that stand apart
apart_at : (a b m n c d j : ℕ) → c ≡ a → d ≡ b → (a < b → a + m ≤ b) → (b ≤ a → b + n ≤ a) → j < m → d ≤ c + j
    → d + n ≤ c + j
apart_at a b m n c d j q r left right below above = grind arith

-- ---- the program

module _ (laws : RunLaws) (cells : ℕ) (p : PlainIrProgram) (asm : AsmProgram) (e : Env) (place scratch : ℕ → ℕ) (size low : ℕ)
    (valid : ValidIr cells p) (has : HasCode p) (h : IsSelection e.core p asm) (fits : Fits e size) (small : size < 65536)
    (laid : IsLaidOut cells p asm e place scratch low) where
  abbrev code : List AsmItem
  code = program_code e.core p h.tables

  abbrev start : List AsmItem
  start = startup_code (spans_of p) (function_label p.main)

  abbrev functions : List AsmItem
  functions = functions_code e.core p h.tables (length p.functions)

  abbrev routines : List AsmItem
  routines = routines_code e.core p h.tables

  stands : HasAt e code laid.code.begin laid.code.end
  stands = subst (λ (is : List AsmItem). HasAt e is laid.code.begin laid.code.end) h.items laid.code.stands

  rest_stands : HasAt e (start ++ (functions ++ routines)) laid.code.begin laid.code.end
  rest_stands = subst (λ (n : ℕ). HasAt e (start ++ (functions ++ routines)) n laid.code.end) stands.1.1 stands.2

  both_stand : (mid : ℕ) × HasAt e start laid.code.begin mid × HasAt e (functions ++ routines) mid laid.code.end
  both_stand = laws.parts e start (functions ++ routines) laid.code.begin laid.code.end rest_stands

  parts_stand : (mid : ℕ) × HasAt e functions both_stand.0 mid × HasAt e routines mid laid.code.end
  parts_stand = laws.parts e functions routines both_stand.0 laid.code.end both_stand.2

  -- ---- functions

  made_at : ℕ → Option PlainIrFunction → Made
  made_at f None = made_with p (routine_of e.core p h.tables) (h.tables f) f (record { code = []; slots = 0 })
  made_at f (Some g) = made_with p (routine_of e.core p h.tables) (h.tables f) f g

  is_selected : (f : ℕ) (g : PlainIrFunction) → slice_get p.functions f ≡ Some g
      → IsSelected p e place function_label has.results f g (made_at f (slice_get p.functions f)) (scratch f)
  unfolding made_at
  is_selected f g q =
      let both = both_stand in
      let two = parts_stand in
      let piece = piece_at laws.parts e (λ k. code_of e.core p (routine_of e.core p h.tables) (h.tables k) k (slice_get p.functions k))
      (length p.functions) both.0 two.0 f two.1 (slice_get_within p.functions f g q) in
      let here = subst (λ (o : Option PlainIrFunction). HasAt e
      (code_of e.core p (routine_of e.core p h.tables) (h.tables f) f o) piece.0 piece.1) q
      piece.2 in
      subst (λ (o : Option PlainIrFunction). IsSelected p e place function_label has.results f g (made_at f o) (scratch f)) (sym q)
      (record {
        pc = piece.0;
        end = piece.1;
        covered = has.functions f g q;
        live = h.are_tables.live f g (slice_get_within p.functions f g q) q;
        scratch_stands = laid.memory.stands f g q;
        objects_stand = laid.memory.objects f g q;
        stands = here;
        routines = λ i l there label. routine_stands laws.parts e.core p
            (cells, valid) has e h.tables f g q i l two.0 laid.code.end two.2 there label;
        callers = λ i l there label. routine_called laws.parts e.core p (cells, valid) has e h.tables f g q i l there label;
      })

  are_selected : AreSelected cells p e place function_label
  are_selected = record {
    results = has.results;
    made = λ f. made_at f (slice_get p.functions f);
    scratch = scratch;
    main_result = has.main_result;
    each = is_selected;
    apart = laid.memory.apart;
    tables = laid.tables;
    work = laid.work.work;
    work_stands = laid.work.stands;
    work_apart = laid.work.apart;
    page = laid.page;
  }

  -- ---- objects

  there : (fs : List PlainIrFunction) (c : ℕ) → c < length fs → (g : PlainIrFunction) × (slice_get fs c ≡ Some g)
  there [] c l = absurd (omega arith)
  there (g ∷ fs) zero l = (g, refl)
  there (g ∷ fs) (suc c) l = there fs c (omega arith)

  objects : (g : PlainIrFunction) × ObjectsStand p e g.slots (scratch p.main) place
  objects = let g = there p.functions p.main valid.main in (g.0, laid.memory.objects p.main g.0 g.1)

  stands_out : (o : ℕ) (d : PlainObject) → slice_get p.objects o ≡ Some d → IsInitial d
      → StandsInMemory e o (size_of_type p.structs d.ty) (place o)
  stands_out o d q i =
      static_stands e o (size_of_type p.structs d.ty) (place o) d.storage d.home i
      (objects.1.each o d q (static_home d.storage d.home i))

  some_bytes : (o : ℕ) (d : PlainObject) → slice_get p.objects o ≡ Some d → 1 ≤ size_of_type p.structs d.ty
  some_bytes o d q = (all_at (IsObject (data_of p)) p.objects o d valid.objects q).some

  target_is : (o : ℕ) (d : PlainObject) → slice_get p.objects o ≡ Some d → IsInitial d → e.address_of o 0 ≡ place o
  target_is o d q i =
      let s = some_bytes o d q in let z = (stands_out o d q i).at 0 (omega arith) in omega arith

  can_be_set : (o : ℕ) (d : PlainObject) → slice_get p.objects o ≡ Some d → IsInitial d
      → CanBeSet e (the_span p.structs o d)
  can_be_set o d q i =
      let s = some_bytes o d q in
      let n = size_of_type p.structs d.ty in
      let out = stands_out o d q i in
      let t = target_is o d q i in
      let high = out.high in
      let last = out.kind (n - 1) (omega arith) in
      let may : may_be e.core Object size (place o + (n - 1)) ≡ true =
      subst (λ (k : Kind). may_be e.core k size (place o + (n - 1)) ≡ true) last (fits.kinds (place o + (n - 1))) in
      let below : place o + (n - 1) < size =
      ltb-true (place o + (n - 1)) size (and_second (nat_le 256 (place o + (n - 1))) (nat_lt (place o + (n - 1)) size) may) in
      record {
        source_room = laid.initials.room o d q i;
        target_room = omega arith;
        above = omega arith;
        address = λ k l. let here = out.at k (omega (arith, l)) in omega (arith, here, t);
        table = laid.initials.table o d q i;
        kind = λ k l. rw t (rw (out.kind k l) refl);
      }

  are_beside : (o k : ℕ) (d x : PlainObject) → o < k → slice_get p.objects o ≡ Some d → slice_get p.objects k ≡ Some x
      → IsInitial d → IsInitial x → IsBeside e (the_span p.structs o d) (the_span p.structs k x)
  are_beside o k d x l q r i m =
      let t = target_is o d q i in
      let u = target_is k x r m in
      let apart =
      objects.1.apart o k d x q (static_home d.storage d.home i) r (static_home x.storage x.home m) (λ s. absurd (omega arith))
      (static_meets p d.storage x.storage d.home i) in
      let left = apart.left in
      let right = apart.right in
      λ j below above.
      apart_at (place o) (place k) (size_of_type p.structs d.ty) (size_of_type p.structs x.ty) (e.address_of o 0)
      (e.address_of k 0) j t u left right below above

  shifted : (o : ℕ) (d : PlainObject) → slice_get p.objects o ≡ Some d → slice_get p.objects (0 + o) ≡ Some d
  shifted o d q = let z : o ≡ 0 + o = omega arith in subst (λ (n : ℕ). slice_get p.objects n ≡ Some d) z q

  all_set : All (CanBeSet e) (spans_of p)
  all_set = each_from p.structs (CanBeSet e) 0 p.objects (λ j d q i. can_be_set (0 + j) d (shifted j d q) i)

  all_beside : AllPairs (IsBeside e) (spans_of p)
  all_beside =
      pairs_from p.structs (IsBeside e) 0 p.objects
      (λ j k d x l q r i m. are_beside (0 + j) (0 + k) d x (omega arith) (shifted j d q) (shifted k x r) i m)

  -- ---- initial values

  first_value : (l : ObjectLeaf (data_of p) DataBank) (x : ObjectState) (u : Value)
      → slice_get (start_state (data_of p)).objects l.object ≡ Some x → leaf_of x l.number ≡ Some u
      → leaf_of (standing (initial_object (leaf_count (data_of p) l.declared.ty) l.declared.storage)) l.number ≡ Some u
  first_value l x u q r =
      let all = slice_get-map (λ o. standing (initial_object (leaf_count (data_of p) o.ty) o.storage)) p.objects l.object in
      let one : Some (standing (initial_object (leaf_count (data_of p) l.declared.ty) l.declared.storage)) ≡ Some x =
      sym (all ∙ ap (option_map (λ o. standing (initial_object (leaf_count (data_of p) o.ty) o.storage))) l.is_object) ∙ q in
      let is : standing (initial_object (leaf_count (data_of p) l.declared.ty) l.declared.storage) ≡ x = cc in
      subst (λ (y : ObjectState). leaf_of y l.number ≡ Some u) (sym is) r

  is_initial : (l : ObjectLeaf (data_of p) DataBank) (x : ObjectState) (u : Value)
      → slice_get (start_state (data_of p)).objects l.object ≡ Some x → leaf_of x l.number ≡ Some u
      → IsInitial l.declared
  is_initial l x u q r =
      by_storage l.declared.storage l.declared.home (home_in_data l.declared.home l.home) (first_value l x u q r) where
        by_storage : (s : PlainStorage) (home : Home) → home ≡ DataHome
            → leaf_of (standing (initial_object (leaf_count (data_of p) l.declared.ty) s)) l.number ≡ Some u
            → has_initial_bytes s home ≡ true
        by_storage (static inits) home d set = rw d refl
        by_storage (local f) home d set =
            let none = none_set (leaf_count (data_of p) l.declared.ty) l.number in absurd (cc)
        by_storage (param f) home d set =
            let none = none_set (leaf_count (data_of p) l.declared.ty) l.number in absurd (cc)
        by_storage (register f) home d set =
            let none = none_set (leaf_count (data_of p) l.declared.ty) l.number in absurd (cc)

  inside : (l : ObjectLeaf (data_of p) DataBank) → l.at + l.bytes ≤ size_of_type p.structs l.declared.ty
  inside l =
      let d = all_at (IsObject (data_of p)) p.objects l.object l.declared valid.objects l.is_object in
      let all = laws.code.leaves.types p.structs l.declared.ty valid.structs d.ty in
      subst (λ (n : ℕ). l.at + n ≤ size_of_type p.structs l.declared.ty) l.size (all.each l.number _ l.is_leaf).inside

  initials : (v : View) → All (IsSet e v) (spans_of p) → HasInitials (data_of p) place v
  initials v sets l x u q r =
      let i = is_initial l x u q r in
      let z : 0 + l.object ≡ l.object = omega arith in
      let set : IsSet e v (the_span p.structs l.object l.declared) =
      subst (λ (n : ℕ). IsSet e v (the_span p.structs n l.declared)) z
      (span_holds p.structs (IsSet e v) 0 p.objects l.object l.declared sets l.is_object i) in
      let t = target_is l.object l.declared l.is_object i in
      let within = inside l in
      by_filling (filling_of l.declared.storage) refl
      (λ k b.
      let here = set (l.at + k) (omega (arith, within, b)) in
      let a : place l.object + l.at + k ≡ e.address_of l.object 0 + (l.at + k) = omega (arith, t) in
      ap v.at a ∙ here) where
        by_filling : (filling : Filling) → filling_of l.declared.storage ≡ filling
            → ((k : ℕ) → k < l.bytes → v.at (place l.object + l.at + k) ≡ byte_of e (initial_at e l.object) filling (l.at + k))
            → HoldsLeaf (data_of p) place v.at (place l.object + l.at) l.bytes u
        by_filling Copied f same =
            leaf_same (data_of p) place v.at (slice_index e.flash) (place l.object + l.at) (initial_at e l.object + l.at) l.bytes u
            (λ k b.
            let c : initial_at e l.object + (l.at + k) ≡ initial_at e l.object + l.at + k = omega arith in
            same k b ∙ ap (slice_index e.flash) c)
            (laid.initials.values l x u q r)
        by_filling Cleared f same =
            cleared_holds (data_of p) place v.at (place l.object + l.at) l.bytes (leaf_count (data_of p) l.declared.ty)
            l.declared.storage l.number u f (first_value l x u q r) same

  can_start : CanStart p e place function_label (spans_of p) low laid.code.begin
  can_start =
      let both = both_stand in
      record {
        end = both.0;
        stands = both.1;
        flash = laid.code.flash;
        can_be_set = all_set;
        beside = all_beside;
        initials = initials;
        pointer = laid.stack.pointer;
        high = laid.stack.high;
        stacked = laid.stack.stacked;
        room = laid.stack.room;
      }

  pub runs : (s : State) (v : View) (inputs : Inputs) → Shows e size s.core s.mem v → ((port : ℕ) → v.inputs port ≡ inputs port)
      → s.pc ≡ laid.code.begin → RunsAsOperations p place e v s inputs
  runs s v inputs shows feeds pc =
      let begun = subst (λ (n : ℕ). CanStart p e place function_label (spans_of p) low n) (sym pc) can_start in
      let shown = laws.follows cells p place function_label e (spans_of p) size low s v inputs valid fits shows feeds are_selected begun in
      let few = span_steps p.structs 0 p.objects in
      let most = shown.at_most in
      record { shows = shown; few = omega (arith, few, most) }

pub selections_run : RunLaws → SelectionsRun
selections_run laws cells p asm e place scratch size low s v inputs valid has h fits small shows feeds laid pc =
    runs laws cells p asm e place scratch size low valid has h fits small laid s v inputs shows feeds pc
