-- How statements are left, and the initialisation of objects.
use Rattle.std.proofs.Common.{◌≡◌, ◌≢◌, ℕ, suc, ◌+◌, ◌*◌, ◌≤◌, true, false, ◌&&◌, List, [], ◌∷◌, Option, Some, None, refl, sym, ap}
use Rattle.std.proofs.Common.{◌∙◌, subst, arith}
use Rattle.std.specs.Prelude.{⊤, slice_get, option_map, unwrap_or}
use Rattle.ec_space.specs.Spaces.{holds}
use Rattle.ec_core.specs.declared.values.Value.{Value}
use Rattle.ec_core.specs.Accesses.{leaf_count, Access, stored, own_access, first_write, initialised, begun, all_ended, ended, renewed}
use Rattle.ec_core.specs.Accesses.{frame_ended, is_read_only}
use Rattle.ec_core.specs.Layout.{scalar_size, IsScalar, PlainLeaf, leaves_of_type}
use Rattle.ec_core.specs.Plain.{PlainType, void, PlainExpr, PlainExprs, last_expr, next_expr, PlainObject}
use Rattle.ec_core.specs.State.{State, worked, with_object, Outcome, got, more, undefined, next}
use Rattle.ec_core.specs.Expressions.{condition}
use Rattle.ec_core.specs.Statements.{Exit, at_end, by_break, by_continue, by_return, ending, evaluated, initialising}
use Rattle.ec_core.specs.Typing.{type_of_expr}
use Rattle.ec_core.specs.Valid.{ValidExpr, ValidExprs, AreLeafValues}
use Rattle.ec_core.specs.ValueTypes.{HasType, IsTypedState, IsSoundOutcome}
use Rattle.ec_core.specs.Words.{leaf_words}
use Rattle.ec_core.proofs.Filled.{leaves_fill_their_types}
use Rattle.ec_core.proofs.Growth.{some_if, some_then, and_true}
use Rattle.ec_ir.specs.Costs.{op_steps}
use Rattle.ec_ir.specs.Meaning.{is_kept, Mach, machine, Frame, access_at, find}
use Rattle.ec_ir.specs.Operations.{PlainIr, store_object, return_from}
use Rattle.ec_ir.specs.Temporaries.{Temps}
use Rattle.ec_lower_code.specs.Code.{temp, expr_labels, expr_code, unread_code, init_code, Branch, branch_label, branch_code}
use Rattle.ec_lower_code.proofs.Callees.{IsOther, CallsOfExpr, CallsOfExprs}
use Rattle.ec_lower_code.proofs.Behind.{expr_behind}
use Rattle.ec_lower_code.proofs.Expressions.{W, value, Has, Leaves, Branches, expr_runs, unread_runs, branch_runs}
use Rattle.ec_lower_code.proofs.Homes.{HasLeaf}
use Rattle.ec_lower_code.proofs.Objects.{change_one, renew_one, end_one, frame_change, among_more}
use Rattle.ec_lower_code.proofs.Ops.{to_rest, storage_of, before_match, stored_in, store_match, store_comes}
use Rattle.ec_lower_code.proofs.Pays.{simple_pays, branch_cost}
use Rattle.ec_lower_code.proofs.Scene.{World, ports, homes, set, calls_to, spot, law, apart, Scene}
use Rattle.ec_lower_code.proofs.Shown.{held_of, Match}
use Rattle.ec_lower_code.proofs.Steps.{Target, at, Stands, behind, around, here, Comes, Does, stays, after, bind, ends, credited, less}
use Rattle.ec_lower_code.proofs.Steps.{spent_on}

-- what is beside the machine at the end of a function, is beside one where those functions are active that it returns to
abbrev pub Ends : (wd : World) (sc : Scene wd) (outer : List ℕ) (temps : Temps) (t : State) (u : Mach) → Type 0
Ends wd sc outer temps t u =
    (d : ℕ) (s : State) → Match (homes wd) (ports wd) (around (W wd sc)) d s (machine temps t)
    → Match (homes wd) (ports wd) outer d (frame_ended wd.program
    sc.f s) u

-- where the function returns to, which functions are active there, and what holds there
pub record Returns (wd : World) (sc : Scene wd) : Type 1 where
  pub returns : PlainType
  pub scalar : returns ≢ void → IsScalar returns
  pub outer : List ℕ
  pub back : Option Value → Target
  pub Back : Option Value → Mach → Type 0
  pub none : returns ≡ void → (rest : List PlainIr) (m : Mach)
      → (u : Mach) × Ends wd sc outer m.temps (worked (op_steps (return_from None)) m.state) u × Back None u × Comes (W wd sc)
      (here (W wd sc) (return_from None ∷ rest)) m (back None) u
  pub some : (v : Value) → IsScalar returns → HasType (homes wd) returns v → (rest : List PlainIr) (m : Mach)
      → m.temps 0 ≡ Some (held_of returns v)
      → (u : Mach) × Ends wd sc outer m.temps (worked (op_steps (return_from (Some (temp 0 returns)))) m.state) u × Back (Some v) u
      × Comes (W wd sc) (here (W wd sc) (return_from (Some (temp 0 returns)) ∷ rest)) m (back (Some v)) u

module _ (wd : World) (sc : Scene wd) (ret : Returns wd sc) where
  abbrev pub Back : Exit → Mach → Type 0
  Back at_end u = ⊤
  Back by_break u = ⊤
  Back by_continue u = ⊤
  Back (by_return v) u = ret.Back v u

  -- what is beside the machine: where the function has returned, its objects are no longer live
  abbrev pub Beside : ℕ → Exit → State → Mach → Type 0
  Beside d at_end s u = Match (homes wd) (ports wd) (around (W wd sc)) d s u
  Beside d by_break s u = Match (homes wd) (ports wd) (around (W wd sc)) d s u
  Beside d by_continue s u = Match (homes wd) (ports wd) (around (W wd sc)) d s u
  Beside d (by_return v) s u = Match (homes wd) (ports wd) ret.outer d (frame_ended wd.program sc.f s) u

  -- a statement was left
  pub record Left (d : ℕ) (e : Exit) (s : State) (u : Mach) : Type 0 where
    pub match : Beside d e s u
    pub back : Back e u

  pub record Kept (d : ℕ) (e : Exit) (s : State) (u : Mach) : Type 0 where
    pub left : Left d e s u
    pub state : IsTypedState wd.program s

  -- where it is left: at what follows it, behind the loop, at what goes on with the loop, or where the function returns to
  abbrev pub left_to : (rest out on : List PlainIr) → Exit → Target
  left_to rest out on at_end = at (here (W wd sc) rest)
  left_to rest out on by_break = at (here (W wd sc) out)
  left_to rest out on by_continue = at (here (W wd sc) on)
  left_to rest out on (by_return v) = ret.back v

  abbrev pub Way : ℕ → List PlainIr → Mach → (rest out on : List PlainIr) → ℕ → Outcome Exit → Type 0
  Way k p m rest out on d o = Does (W wd sc) k (here (W wd sc) p) m (left_to rest out on) (Left d) o

  abbrev pub Typed : ℕ → List PlainIr → Mach → (rest out on : List PlainIr) → ℕ → Outcome Exit → Type 0
  Typed k p m rest out on d o = Does (W wd sc) k (here (W wd sc) p) m (left_to rest out on) (Kept d) o

  pub typed_way : (P : Exit → Type 0) (k : ℕ) (p : List PlainIr) (m : Mach) (rest out on : List PlainIr) (d : ℕ) (o : Outcome Exit)
      → IsSoundOutcome wd.program P o → Way k p m rest out on d o → Typed k p m rest out on d o
  typed_way P k p m rest out on d (got e s) h r = (r.0, record { left = r.1; state = h.1 }, r.2)
  typed_way P k p m rest out on d (more s) h r = r
  typed_way P k p m rest out on d (undefined point s) h r = tt

  -- left at its end
  pub at_rest : (d : ℕ) (rest out on : List PlainIr) (k : ℕ) (s : State) (m : Mach) → Match (homes wd) (ports wd) (around (W wd sc)) d s m
      → Way k rest m rest out on d
      (got at_end s)
  at_rest d rest out on k s m h = (m, record { match = h; back = tt }, stays (W wd sc) (here (W wd sc) rest) m)

  less_left : (d e : ℕ) (x : Exit) (s : State) (u : Mach) → d ≤ e → Left e x s u → Left d x s u
  less_left d e at_end s u le h = record { match = less (homes wd) (ports wd) e d s u le h.match; back = tt }
  less_left d e by_break s u le h = record { match = less (homes wd) (ports wd) e d s u le h.match; back = tt }
  less_left d e by_continue s u le h = record { match = less (homes wd) (ports wd) e d s u le h.match; back = tt }
  less_left d e (by_return v) s u le h =
      record { match = less (homes wd) (ports wd) e d (frame_ended wd.program sc.f s) u le h.match; back = h.back }

  -- from where a statement was left
  pub bind_exit : (k e d : ℕ) (p : List PlainIr) (m : Mach) (r1 o1 c1 r2 o2 c2 : List PlainIr) (o : Outcome Exit) (go : Exit → State
      → Outcome Exit) → d ≤ e → ((v : Option Value) (s : State) → go (by_return v) s ≡ got (by_return v) s) → Typed k p m r1 o1 c1 e o
      → ((s : State) (u : Mach) → Match (homes wd) (ports wd) (around (W wd sc)) e s u → IsTypedState wd.program s
      → Way k r1 u r2 o2 c2 d (go at_end s))
      → ((s : State) (u : Mach) → Match (homes wd) (ports wd) (around (W wd sc)) e s u → IsTypedState wd.program s
      → Way k o1 u r2 o2 c2 d (go by_break s))
      → ((s : State) (u : Mach) → Match (homes wd) (ports wd) (around (W wd sc)) e s u → IsTypedState wd.program s
      → Way k c1 u r2 o2 c2 d (go by_continue s))
      → Way k p m r2 o2 c2 d (next o go)
  bind_exit k e d p m r1 o1 c1 r2 o2 c2 (got at_end s) go le ret2 h f g i = after (W wd sc) (left_to r2 o2 c2) (Left d) k (here (W wd sc) p)
      (here (W wd sc) r1) m h.0 (go at_end s) h.2 (f s h.0 h.1.left.match h.1.state)
  bind_exit k e d p m r1 o1 c1 r2 o2 c2 (got by_break s) go le ret2 h f g i = after (W wd sc) (left_to r2 o2 c2) (Left d) k
      (here (W wd sc) p) (here (W wd sc) o1) m h.0 (go by_break s) h.2 (g s h.0 h.1.left.match h.1.state)
  bind_exit k e d p m r1 o1 c1 r2 o2 c2 (got by_continue s) go le ret2 h f g i = after (W wd sc) (left_to r2 o2 c2) (Left d) k
      (here (W wd sc) p) (here (W wd sc) c1) m h.0 (go by_continue s) h.2 (i s h.0 h.1.left.match h.1.state)
  bind_exit k e d p m r1 o1 c1 r2 o2 c2 (got (by_return v) s) go le ret2 h f g i = subst (Way k p m r2 o2 c2 d) (sym (ret2 v s))
      (h.0, less_left d e (by_return v) s h.0 le h.1.left, h.2)
  bind_exit k e d p m r1 o1 c1 r2 o2 c2 (more s) go le ret2 h f g i = h
  bind_exit k e d p m r1 o1 c1 r2 o2 c2 (undefined point s) go le ret2 h f g i = tt

  -- a statement whose end leads on to another place
  pub joins : (k e d : ℕ) (p : List PlainIr) (m : Mach) (mid rest out on : List PlainIr) (o : Outcome Exit) → d ≤ e
      → Typed k p m mid out on e o → ((s : State) (u : Mach) → Match (homes wd) (ports wd) (around (W wd sc)) e s u
      → Way k mid u rest out on d (got at_end s))
      → Way k p m rest out on d o
  joins k e d p m mid rest out on (got at_end s) le h f = after (W wd sc) (left_to rest out on) (Left d) k (here (W wd sc) p)
      (here (W wd sc) mid) m h.0 (got at_end s) h.2 (f s h.0 h.1.left.match)
  joins k e d p m mid rest out on (got by_break s) le h f = (h.0, less_left d e by_break s h.0 le h.1.left, h.2)
  joins k e d p m mid rest out on (got by_continue s) le h f = (h.0, less_left d e by_continue s h.0 le h.1.left, h.2)
  joins k e d p m mid rest out on (got (by_return v) s) le h f = (h.0, less_left d e (by_return v) s h.0 le h.1.left, h.2)
  joins k e d p m mid rest out on (more s) le h f = h
  joins k e d p m mid rest out on (undefined point s) le h f = tt

  -- ---- objects that begin and end

  ended_match : (os : List ℕ) (d : ℕ) (s : State) (u : Mach) → Match (homes wd) (ports wd) (around (W wd sc)) d s u
      → Match (homes wd) (ports wd) (around (W wd sc)) d (all_ended os s) u
  ended_match [] d s u h = h
  ended_match (o ∷ os) d s u h = ended_match os d (with_object o ended s) u
      (record {
        objects = change_one (homes wd) (around (W wd sc)) (homes wd).objects s.objects u.state.objects o ended
            (λ n x y z e q. end_one (homes wd) (around (W wd sc)) n x.storage y z q) h.objects;
        cells = h.cells;
        events = h.events;
        spent = h.spent;
      })

  ended_after : (os : List ℕ) (d : ℕ) (s : State) (u : Mach) → Match (homes wd) (ports wd) ret.outer d (frame_ended wd.program sc.f s) u
      → Match (homes wd) (ports wd) ret.outer d (frame_ended wd.program sc.f (all_ended os s)) u
  ended_after [] d s u h = h
  ended_after (o ∷ os) d s u h = ended_after os d (with_object o ended s) u
      (record {
        objects = frame_change (homes wd) sc.f ret.outer (homes wd).objects s.objects u.state.objects o h.objects;
        cells = h.cells;
        events = h.events;
        spent = h.spent;
      })

  ended_beside : (os : List ℕ) (d : ℕ) (e : Exit) (s : State) (u : Mach) → Beside d e s u → Beside d e (all_ended os s) u
  ended_beside os d at_end s u h = ended_match os d s u h
  ended_beside os d by_break s u h = ended_match os d s u h
  ended_beside os d by_continue s u h = ended_match os d s u h
  ended_beside os d (by_return v) s u h = ended_after os d s u h

  pub ending_runs : (k d : ℕ) (p : List PlainIr) (m : Mach) (rest out on : List PlainIr) (os : List ℕ) (o : Outcome Exit)
      → Way k p m rest out on d o → Way k p m rest out on d (ending os o)
  ending_runs k d p m rest out on os (got x s) h = (h.0, record { match = ended_beside os d x s h.0 h.1.match; back = h.1.back }, h.2)
  ending_runs k d p m rest out on os (more s) h = h
  ending_runs k d p m rest out on os (undefined point s) h = tt

  -- an expression at the bottom of the temporaries
  pub whole_runs : (k : ℕ) (e : PlainExpr) (l d : ℕ) (s : State) (m : Mach) (rest : List PlainIr) → k ≤ wd.n
      → CallsOfExpr (IsOther wd.program) e → ValidExpr wd.program wd.io sc.f e → IsTypedState wd.program s
      → Stands sc.code (expr_code wd.program (ports wd) e l 0 rest) → Match (homes wd) (ports wd) (around (W wd sc)) d s m
      → Does (W wd sc) k (here (W wd sc) (expr_code wd.program (ports wd) e l 0 rest)) m (to_rest (W wd sc) rest)
      (Has wd sc (type_of_expr e) 0 d m.temps) (value wd sc e s)
  whole_runs k e l d s m rest le p v st stands h = expr_runs wd sc k e l 0 d m.temps s m rest le p v st stands h (λ i lt. refl)

  -- one that is a condition
  pub branch_whole : (k : ℕ) (c : PlainExpr) (l : ℕ) (to : Branch) (d : ℕ) (s : State) (m : Mach) (away rest : List PlainIr) → k ≤ wd.n
      → CallsOfExpr (IsOther wd.program) c → ValidExpr wd.program wd.io sc.f c → IsScalar (type_of_expr c) → IsTypedState wd.program s
      → Stands sc.code (branch_code wd.program (ports wd) c l 0 to rest) → find (branch_label to) sc.code ≡ Some away
      → Match (homes wd) (ports wd) (around (W wd sc)) d s m
      → Branches wd sc k (branch_code wd.program (ports wd) c l 0 to rest) m to away rest 0 d
      (branch_cost to (scalar_size (type_of_expr c))) m.temps (condition (set wd) c (value wd sc c s))
  branch_whole k c l to d s m away rest le p v i st stands f h =
      branch_runs wd sc k c l 0 to d m.temps s m away rest le p v i st stands f h (λ j lt. refl)

  -- and one whose value nobody reads
  pub unread_whole : (k : ℕ) (e : PlainExpr) (l d : ℕ) (s : State) (m : Mach) (rest : List PlainIr) → k ≤ wd.n
      → CallsOfExpr (IsOther wd.program) e → ValidExpr wd.program wd.io sc.f e → IsTypedState wd.program s
      → Stands sc.code (unread_code wd.program (ports wd) e l 0 rest) → Match (homes wd) (ports wd) (around (W wd sc)) d s m
      → Does (W wd sc) k (here (W wd sc) (unread_code wd.program (ports wd) e l 0 rest)) m (to_rest (W wd sc) rest)
      (Leaves wd sc 0 d m.temps) (value wd sc e s)
  unread_whole k e l d s m rest le p v st stands h = unread_runs wd sc k e l 0 d m.temps s m rest le p v st stands h (λ i lt. refl)

  pub done_runs : (k : ℕ) (e : PlainExpr) (l d : ℕ) (s : State) (m : Mach) (rest out on : List PlainIr) → k ≤ wd.n
      → CallsOfExpr (IsOther wd.program) e → ValidExpr wd.program wd.io sc.f e → IsTypedState wd.program s
      → Stands sc.code (unread_code wd.program (ports wd) e l 0 rest) → Match (homes wd) (ports wd) (around (W wd sc)) d s m
      → Way k (unread_code wd.program (ports wd) e l 0 rest) m rest out on d (evaluated (set wd) (calls_to wd sc.depth) (Some e) s)
  done_runs k e l d s m rest out on le p v st stands h =
      bind (W wd sc) k (here (W wd sc) (unread_code wd.program (ports wd) e l 0 rest)) m (to_rest (W wd sc) rest)
      (Leaves wd sc 0 d m.temps) (left_to rest out on) (Left d) (here (W wd sc) rest) (value wd sc e s) _ (λ z. refl)
      (unread_whole k e l d s m rest le p v st stands h) (λ x s1 u r. at_rest d rest out on k s1 u r.match)

-- an object that is kept begins
pub begun_match : (wd : World) {fs : List ℕ} (o d : ℕ) (s : State) (u : Mach) → ((x : PlainObject) → slice_get wd.program.objects o ≡ Some x
    → is_kept fs x.storage ≡ true) → Match (homes wd) (ports wd) fs d s u → Match (homes wd) (ports wd) fs d (begun wd.program o s) u
begun_match wd {fs = fs} o d s u kept h =
    let leaves = unwrap_or (option_map (λ x. leaf_count wd.program x.ty) (slice_get wd.program.objects o)) 0 in
    record {
      objects = change_one (homes wd) fs (homes wd).objects s.objects u.state.objects o (renewed leaves)
          (λ n x y z e q. renew_one (homes wd) fs leaves n x.storage y z (kept x e) q) h.objects;
      cells = h.cells;
      events = h.events;
      spent = h.spent;
    }

-- ---- the first write of a leaf

own_found : (wd : World) (o k : ℕ) (d : PlainObject) (leaf : PlainLeaf) (ty : PlainType) (s : State) (a : Access)
    → slice_get wd.program.objects o ≡ Some d → slice_get (leaves_of_type wd.program.structs d.ty) k ≡ Some leaf → leaf.ty ≡ ty
    → own_access wd.program o k s ≡ Some a → (l : HasLeaf (homes wd) (apart wd) None o leaf.at ty s a) × (l.d ≡ d)
own_found wd o k d leaf ty s a e i t h =
    let d1 = some_then (slice_get wd.program.objects o) _ a h in
    let x = some_then (slice_get s.objects o) _ a d1.2 in
    let c = some_if (x.0.live && holds d1.0.space d1.0.home) _ a x.2 in
    let is : access_at None o d1.0 x.0 k ≡ a = cc in
    let f : Some d ≡ Some d1.0 = sym e ∙ d1.1 in
    let g : d ≡ d1.0 = cc in
    let item : slice_get (leaves_of_type wd.program.structs d1.0.ty) k ≡ Some leaf =
    subst (λ (z : PlainObject). slice_get (leaves_of_type wd.program.structs z.ty) k ≡ Some leaf) g i in (
      record {
        d = d1.0;
        x = x.0;
        k = k;
        leaf = leaf;
        declared = d1.1;
        state = x.1;
        live = (and_true x.0.live (holds d1.0.space d1.0.home) c.0).0;
        item = item;
        begins = apart wd o d1.0 k leaf d1.1 item;
        typed = t;
        is = is;
        within = λ space f. cc;
      },
      sym g,
    )

abbrev leaf_cost : PlainType → ℕ
leaf_cost ty = 5 * scalar_size ty

-- a leaf that is not kept in flash gets its first value
pub own_store : (wd : World) {fs : List ℕ} (code : List PlainIr) (stack : List Frame) (n d o k t : ℕ) (x : PlainObject) (leaf : PlainLeaf)
    (ty : PlainType) (v : Value) (s : State) (u : Mach) (rest : List PlainIr) → slice_get wd.program.objects o ≡ Some x
    → slice_get (leaves_of_type wd.program.structs x.ty) k ≡ Some leaf → leaf.ty ≡ ty → is_read_only x.home ≡ false → IsScalar ty
    → HasType (homes wd) ty v
    → Match (homes wd) (ports wd) fs d s (machine u.temps (stored_in (spot wd code stack) (apart wd) o leaf.at (temp t ty) u))
    → u.temps t ≡ Some (held_of ty v) → (a : Option Access) → own_access wd.program o k s ≡ a
    → Does (spot wd code stack) n (here (spot wd code stack) (store_object o leaf.at (temp t ty) ∷ rest)) u
    (to_rest (spot wd code stack) rest) (λ y s1 u1. Match (homes wd) (ports wd) fs d s1 u1 × (u1.temps ≡ u.temps)) (first_write a v s)
own_store wd code stack n d o k t x leaf ty v s u rest f i g home sc vt h held None q = tt
own_store wd {fs = fs} code stack n d o k t x leaf ty v s u rest f i g home sc vt h held (Some a) q =
    let w = spot wd code stack in
    let l = own_found wd o k x leaf ty s a f i g q in
    let at_home : is_read_only l.0.d.home ≡ false = subst (λ (z : PlainObject). is_read_only z.home ≡ false) (sym l.1) home in
    ends w (to_rest w rest) (λ y s1 u1. Match (homes wd) (ports wd) fs d s1 u1 × (u1.temps ≡ u.temps)) n
    (here w (store_object o leaf.at (temp t ty) ∷ rest)) (here w rest) u _ v (stored a v s) refl
    (store_comes w (apart wd) o leaf.at ty t d s a u v rest l.0 sc vt at_home h held)
    (store_match w (apart wd) None d u.temps o leaf.at ty s a (stored_in w (apart wd) o leaf.at (temp t ty) u) v l.0 h, refl)

-- ---- the initialisation of a declared object

module _ (wd : World) (sc : Scene wd) (ret : Returns wd sc) where
  -- from the value of a leaf on
  init_store : (n d o k : ℕ) (x : PlainObject) (leaf : PlainLeaf) (ty : PlainType) (b : Temps) (v : Value) (s : State) (u : Mach)
      (more_code rest out on : List PlainIr) (go : Value → State → Outcome Exit) → slice_get wd.program.objects o ≡ Some x
      → slice_get (leaves_of_type wd.program.structs x.ty) k ≡ Some leaf → ty ≡ leaf.ty → is_read_only x.home ≡ false
      → Has wd sc ty 0 (d + leaf_cost ty) b v s u
      → ((s1 : State) (u1 : Mach) → Match (homes wd) (ports wd) (around (W wd sc)) d s1 u1 → IsTypedState wd.program s1
      → Way wd sc ret n more_code u1 rest out on d
      (go v s1))
      → Way wd sc ret n (store_object o leaf.at (temp 0 ty) ∷ more_code) u rest out on d (next (initialised wd.program o k v s) go)
  init_store n d o k x leaf ty b v s u more_code rest out on go f i t home h after_store = by_outcome (initialised wd.program o k v s)
      ((law wd).states.initialised o k x leaf v s f i (subst (λ (z : PlainType). HasType wd.program z v) t h.typed) h.state) stores
      (λ y s1 e. written (own_access wd.program o k s) y s1 e)
    where
      scalar : IsScalar ty
      scalar = subst IsScalar (sym t) ((leaves_fill_their_types.objects wd.program wd.io o x wd.valid f).each k leaf i).scalar.scalar

      stores : Does (W wd sc) n (here (W wd sc) (store_object o leaf.at (temp 0 ty) ∷ more_code)) u (to_rest (W wd sc) more_code)
          (λ y s1 u1. Match (homes wd) (ports wd) (around (W wd sc)) d s1 u1 × (u1.temps ≡ u.temps)) (initialised wd.program o k v s)
      stores = own_store wd sc.code sc.stack n d o k 0 x leaf ty v s u more_code f i (sym t) home scalar h.typed
          (before_match (W wd sc) (storage_of (W wd sc) o) (λ g q. among_more g (around (W wd sc))) d u.temps s _
          (spent_on (homes wd) (ports wd) (d + leaf_cost ty) d (store_object o leaf.at (temp 0 ty)) u.temps s u (omega arith) h.has.match))
          (h.has.value scalar) (own_access wd.program o k s) refl

      written : (a : Option Access) (y : Value) (s1 : State) → first_write a v s ≡ got y s1 → y ≡ v
      written None y s1 e = cc
      written (Some a) y s1 e = cc

      by_outcome : (z : Outcome Value) → IsSoundOutcome wd.program (HasType wd.program leaf.ty) z
          → Does (W wd sc) n (here (W wd sc) (store_object o leaf.at (temp 0 ty) ∷ more_code)) u (to_rest (W wd sc) more_code)
          (λ y s1 u1. Match (homes wd) (ports wd) (around (W wd sc)) d s1 u1 × (u1.temps ≡ u.temps)) z → ((y : Value) (s1 : State)
          → z ≡ got y s1
          → y ≡ v)
          → Way wd sc ret n (store_object o leaf.at (temp 0 ty) ∷ more_code) u rest out on d (next z go)
      by_outcome (got y s1) ts g e =
          after (W wd sc) (left_to wd sc ret rest out on) (Left wd sc ret d) n (here (W wd sc) (store_object o leaf.at (temp 0 ty)
          ∷ more_code)) (here (W wd sc) more_code) u g.0 (go y s1) g.2
          (subst (λ (z : Value). Way wd sc ret n more_code g.0 rest out on d (go z s1)) (sym (e y s1 refl)) (after_store s1 g.0 g.1.0 ts.1))
      by_outcome (more s1) ts g e = g
      by_outcome (undefined point s1) ts g e = tt

  -- the leaves from number i on
  pub init_runs : (d o i : ℕ) (x : PlainObject) (ls : List PlainLeaf) (es : PlainExprs) (l : ℕ) (rest out on : List PlainIr)
      → slice_get wd.program.objects o ≡ Some x → ((j : ℕ) (leaf : PlainLeaf) → slice_get ls j ≡ Some leaf
      → slice_get (leaves_of_type wd.program.structs x.ty) (i + j) ≡ Some leaf) → is_read_only x.home ≡ false
      → AreLeafValues wd.program wd.io sc.f ls es → CallsOfExprs (IsOther wd.program) es → ValidExprs wd.program wd.io sc.f es
      → Stands sc.code (init_code wd.program (ports wd) ls o es l rest)
      → (s : State) (m : Mach) → Match (homes wd) (ports wd) (around (W wd sc)) d s m → IsTypedState wd.program s
      → Way wd sc ret wd.n (init_code wd.program (ports wd) ls o es l rest) m rest out on d
      (initialising (set wd) (calls_to wd sc.depth) o i es s)
  init_runs d o i x [] last_expr l rest out on f g home ty p v stands s m h st = at_rest wd sc ret d rest out on wd.n s m h
  init_runs d o i x (leaf ∷ ls) last_expr l rest out on f g home ty p v stands s m h st = absurd ty
  init_runs d o i x [] (next_expr e es) l rest out on f g home ty p v stands s m h st = absurd ty
  init_runs d o i x (leaf ∷ ls) (next_expr e es) l rest out on f g home ty p v stands s m h st =
      let c = d + leaf_words e in
      let more_code = init_code wd.program (ports wd) ls o es (l + expr_labels e) rest in
      let op = store_object o leaf.at (temp 0 (type_of_expr e)) in
      let pays = simple_pays (scalar_size (type_of_expr e)) 1 in
      let after_value = expr_behind wd.program (ports wd) sc.code e l 0 (op ∷ more_code) stands in
      let item : slice_get (leaves_of_type wd.program.structs x.ty) i ≡ Some leaf = ap (slice_get (leaves_of_type wd.program.structs x.ty))
      (let z : i ≡ i + 0 = omega arith in z) ∙ g 0 leaf refl in
      bind (W wd sc) wd.n (here (W wd sc) (expr_code wd.program (ports wd) e l 0 (op ∷ more_code))) m (to_rest (W wd sc) (op ∷ more_code))
      (Has wd sc (type_of_expr e) 0 c m.temps) (left_to wd sc ret rest out on) (Left wd sc ret d) (here (W wd sc) (op ∷ more_code))
      (value wd sc e (worked (leaf_words e) s)) _ (λ z. refl)
      (whole_runs wd sc ret wd.n e l c (worked (leaf_words e) s) m (op ∷ more_code) (omega arith) p.0 v.0 st stands
      (credited (homes wd) (ports wd) (leaf_words e) d s m h))
      (λ y s1 u r. init_store wd.n d o i x leaf (type_of_expr e) m.temps y s1 u more_code rest out on
      (λ z s2. initialising (set wd) (calls_to wd sc.depth) o (i + 1) es s2) f item ty.0 home
      (record {
        has = record {
          match = less (homes wd) (ports wd) c (d + leaf_cost (type_of_expr e)) s1 u (omega (arith, pays)) r.has.match;
          value = r.has.value;
          same = r.has.same;
        };
        typed = r.typed;
        state = r.state;
      })
      (λ s2 u2 h2 st2. init_runs d o (i + 1) x ls es (l + expr_labels e) rest out on f
      (λ j z q. ap (slice_get (leaves_of_type wd.program.structs x.ty)) (let a : i + 1 + j ≡ i + suc j = omega arith in a) ∙ g (suc j) z q)
      home ty.1 p.1 v.1 (behind sc.code op more_code after_value) s2 u2 h2 st2))
