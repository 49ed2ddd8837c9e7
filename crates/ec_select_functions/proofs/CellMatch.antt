-- What the code of cells, and of the addresses of ports behind them, leaves matches what operations mean.
use Rattle.std.proofs.Common.{◌≡◌, ◌≢◌, ◌⊎◌, inl, inr, ⊎_elim, true, false, ℕ, ◌+◌, ◌*◌, ◌%◌, ◌^◌, ◌<◌, ◌≤◌, [], ◌∷◌, ◌++◌}
use Rattle.std.proofs.Common.{Option, Some, None, refl, sym, ap, ◌∙◌, subst, arith, pos}
use Rattle.std.specs.Prelude.{option_map}
use Rattle.std.proofs.lemmas.Bool.{cases_eq}
use Rattle.ec_isa.specs.declared.instructions.Instr.TheVariants.{Add}
use Rattle.ec_space.specs.declared.space.Bank.TheVariants.{Data as DataBank}
use Rattle.ec_asm.specs.declared.items.AsmItem.TheVariants.{Plain, LoadObj}
use Rattle.ec_asm.specs.declared.pieces.Location.{Location}
use Rattle.ec_asm.specs.declared.pieces.Location.TheVariants.{InRegisters}
use Rattle.ec_asm.specs.View.{View, pair}
use Rattle.ec_asm.specs.Change.{Env, Own, change, load_by, set}
use Rattle.ec_asm.specs.Items.{block, item_change}
use Rattle.ec_asm.specs.Pieces.{StandsFrom, Outside, value, copy_code}
use Rattle.ec_asm.specs.PieceLaws.{HoldsNumbers}
use Rattle.ec_asm.proofs.Bytes.{put_here, put_other}
use Rattle.ec_asm.proofs.Hoare.{block-append}
use Rattle.ec_core.specs.Plain.{PlainProgram}
use Rattle.ec_core.specs.State.{State, worked, with_choice, chosen}
use Rattle.ec_ir.specs.declared.operations.Temp.{Temp}
use Rattle.ec_ir.specs.Meaning.{Mach, machine}
use Rattle.ec_ir.specs.Temporaries.{bits, low_bytes, with_content}
use Rattle.ec_select_operations.specs.Homes.{HasHome}
use Rattle.ec_select_operations.specs.Needs.{Need, wanted, at_least, without}
use Rattle.ec_select_operations.specs.Places.{ObjectLeaf, Apart}
use Rattle.ec_select_operations.specs.Ports.{scale_code, first_cell, cell_place, pointed, further_code, cell_point_code}
use Rattle.ec_select_functions.specs.Covered.{HasIndex}
use Rattle.ec_select_functions.specs.Relation.{Matches}
use Rattle.ec_select_functions.proofs.Cells.{by_row, other_chosen, now_chosen}
use Rattle.ec_select_functions.proofs.Match.{kept_left, wanted_most, wanted_more, least_other, without_other}
use Rattle.ec_select_functions.proofs.Match.{same_content, same_leaf, at_width, whole, written}
use Rattle.ec_select_functions.proofs.Moves.{Moves, copied, numbers_kept, row_kept, work_outside, stands_less}
use Rattle.ec_select_functions.proofs.PortMatch.{NeedsIndex}
use Rattle.ec_select_functions.proofs.PortPoints.{IsElement, Changes, changes_then, Pointed, indexed, added, element_below}
use Rattle.ec_select_functions.proofs.PortPoints.{product_below}
use Rattle.ec_select_functions.proofs.Related.{one_byte}
use Rattle.ec_select_functions.proofs.Setting.{Setting}
use Rattle.ec_select_functions.proofs.Wrapped.{low_below, low_of_number}

-- a byte by itself
first_byte : (f : ℕ → ℕ) (a n x : ℕ) → n ≡ 1 → x < 256 ^ n → value f a n ≡ x % 256 ^ n → f a ≡ x
first_byte f a n x one below is =
    let l : x < 256 = subst (λ i. x < 256 ^ i) one below in
    let q : value f a 1 ≡ x % 256 = subst (λ i. value f a i ≡ x % 256 ^ i) one is in
    let r : a + 0 ≡ a = omega arith in
    sym (ap f r) ∙ omega (arith, q, l)

module _ (p : PlainProgram) (e : Env) (slots : ℕ) (home : Temp → Location) (base : Temp → ℕ) (place : ℕ → ℕ)
    (y : Setting p e slots home base place) where
  abbrev C : Need → Mach → View → Type 0
  C need m v = Matches p e y.inputs slots base place y.aside y.stands y.active y.called need m v

  -- where a cell is
  abbrev cell_at : ℕ → ℕ
  cell_at c = y.work + 64 + c

  cell_is : (c : ℕ) → c < y.cells → e.address_of 1280 (first_cell + c) ≡ cell_at c
  cell_is c l = let joined : y.work + (64 + c) ≡ cell_at c = omega arith in y.work_stands.at (64 + c) (omega arith) ∙ joined

  cell_kind : (c : ℕ) → c < y.cells → e.kind (cell_at c) ≡ Own
  cell_kind c l =
      let joined : y.work + (64 + c) ≡ cell_at c = omega arith in
      subst (λ j. e.kind j ≡ Own) joined (y.work_stands.kind (64 + c) (omega arith))

  cell_there : (c n : ℕ) → c < y.cells → n ≡ 1 → StandsFrom e (cell_place c) n (cell_at c) Own
  cell_there c n l one =
      let high = y.work_stands.high in
      record {
        at = λ i j. (let r : 0 ≡ i = omega arith in subst (λ k. e.address_of 1280 (first_cell + c + k) ≡ cell_at c + k) r (first c l));
        kind = λ i j. (let r : cell_at c ≡ cell_at c + i = omega arith in subst (λ k. e.kind k ≡ Own) r (cell_kind c l));
        clear = omega arith;
      }
    where
      first : (c : ℕ) → c < y.cells → e.address_of 1280 (first_cell + c + 0) ≡ cell_at c + 0
      first c l =
          let r : first_cell + c + 0 ≡ first_cell + c = omega arith in
          let s : cell_at c ≡ cell_at c + 0 = omega arith in
          ap (e.address_of 1280) r ∙ cell_is c l ∙ s

  -- what the state has for a cell stands there
  cell_byte : (c b : ℕ) (need : Need) (m : Mach) (v : View) → c < y.cells → chosen c m.state ≡ Some b → C need m v → v.at (cell_at c) ≡ b
  cell_byte c b need m v l bound h = h.kept (cell_at c) b (y.cells_aside c l) (y.cells_stand c m.state l ∙ bound)

  cell_below : (c b : ℕ) (need : Need) (m : Mach) (v : View) → c < y.cells → chosen c m.state ≡ Some b → C need m v → b < 256
  cell_below c b need m v l bound h =
      let high = y.work_stands.high in
      subst (λ k. k < 256) (cell_byte c b need m v l bound h) (h.bytes (cell_at c) (omega arith))

  -- ---- Z

  loaded : (d c b : ℕ) (v : View) → c < y.cells → v.at (cell_at c) ≡ b
      → item_change e (LoadObj d 1280 (first_cell + c)) v ≡ set d b v
  loaded d c b v l byte =
      ap (λ a. load_by (e.kind a) d a v) (cell_is c l) ∙ ap (λ k. load_by k d (cell_at c) v) (cell_kind c l)
      ∙ ap (λ x. set d x v) byte

  set_changes : (d b : ℕ) (v : View) → (d ≡ 30) ⊎ (d ≡ 31) → b < 256 → HoldsNumbers v → Changes e v (set d b v)
  set_changes d b v which small numbers = record {
    same = λ k q r s t. put_other v.at d b k
        (⊎_elim (λ (i : d ≡ 30). (λ j. s (j ∙ i))) (λ (i : d ≡ 31). (λ j. t (j ∙ i))) which);
    numbers = λ k l. ⊎_elim (λ (q : k ≡ d). by_place k q) (λ (q : k ≢ d). rw (put_other v.at d b k q) (numbers k l)) (cases_eq k d);
    quiet = record { inputs = refl; safe = refl; seen = refl };
  }
    where
      by_place : (k : ℕ) → k ≡ d → (set d b v).at k < 256
      by_place k q = rw (put_here v.at d b k q) small

  -- the cell's byte is added to R30
  cell_added : (c b n : ℕ) (v : View) → c < y.cells → v.at (cell_at c) ≡ b → b < 256 → v.at 30 ≡ n → n + b < 256 → HoldsNumbers v
      → let w = block e (LoadObj 31 1280 (first_cell + c) ∷ Plain (Add 30 31) ∷ []) v in (w.at 30 ≡ n + b) × Changes e v w
  cell_added c b n v l byte small here below numbers =
      subst (λ (u : View). ((change e (Add 30 31) u).at 30 ≡ n + b) × Changes e v (change e (Add 30 31) u)) (sym (loaded 31 c b v l byte)) (
        sum,
        changes_then e v v1 w x (record {
          same = λ k q r s t. put_other v1.at 30 _ k s;
          numbers = λ k m. ⊎_elim (λ (q : k ≡ 30). rw (q, sum) (omega (arith, below)))
              (λ (q : k ≢ 30). rw (put_other v1.at 30 _ k q) (x.numbers k m)) (cases_eq k 30);
          quiet = record { inputs = refl; safe = refl; seen = refl };
        }),
      )
    where
      v1 : View
      v1 = set 31 b v

      w : View
      w = change e (Add 30 31) v1

      x : Changes e v v1
      x = set_changes 31 b v (inr refl) small numbers

      sum : w.at 30 ≡ n + b
      sum = let q : w.at 30 ≡ (v.at 30 + b + 0) % 256 = refl in omega (arith, q, here, below)

  pub cell_points : (index : Option Temp) (cell offset b width at : ℕ) (need : Need) (m : Mach) (v : View) → HasIndex slots index
      → NeedsIndex p e slots home base place y index need → (width ≡ 1) ⊎ ((width ≡ 2) ⊎ (width ≡ 4)) → cell < y.cells
      → at + width ≤ 256 → 1 ≤ width → chosen cell m.state ≡ Some b → IsElement index (b + offset) width at m.temps → C need m v
      → Pointed e pointed 0 at v (block e (cell_point_code (option_map home index) cell offset width) v)
  cell_points None cell offset b width at need m v has needed cases l below some bound is h =
      subst (λ (u : View). Pointed e pointed 0 at v (block e (further_code offset) u)) (sym (loaded 30 cell b v l byte))
      (record { points = z.0 ∙ omega (arith, is); changes = changes_then e v v1 w x z.1 })
    where
      byte : v.at (cell_at cell) ≡ b
      byte = cell_byte cell b need m v l bound h

      small : b < 256
      small = cell_below cell b need m v l bound h

      v1 : View
      v1 = set 30 b v

      w : View
      w = block e (further_code offset) v1

      x : Changes e v v1
      x = set_changes 30 b v (inl refl) small h.bytes

      z : (pair w.at 30 ≡ offset + b) × Changes e v1 w
      z = added e offset b v1 refl (omega (arith, is, below, some)) x.numbers
  cell_points (Some t) cell offset b width at need m v has needed cases l below some bound is h =
      rw (
        block-append e (copy_code (home t) (InRegisters 30) 1)
            (scale_code width ++ LoadObj 31 1280 (first_cell + cell) ∷ Plain (Add 30 31) ∷ further_code offset) v,
        block-append e (scale_code width) (LoadObj 31 1280 (first_cell + cell) ∷ Plain (Add 30 31) ∷ further_code offset)
            (block e (copy_code (home t) (InRegisters 30) 1) v),
      )
      (record { points = z.0 ∙ sum; changes = changes_then e v v3 w (changes_then e v v2 v3 x.1 a.1) z.1 })
    where
      low : ℕ
      low = is.0

      n : ℕ
      n = low * width

      v2 : View
      v2 = block e (scale_code width) (block e (copy_code (home t) (InRegisters 30) 1) v)

      v3 : View
      v3 = block e (LoadObj 31 1280 (first_cell + cell) ∷ Plain (Add 30 31) ∷ []) v2

      w : View
      w = block e (further_code offset) v3

      byte : v.at (cell_at cell) ≡ b
      byte = cell_byte cell b need m v l bound h

      small : b < 256
      small = cell_below cell b need m v l bound h

      all : b + offset + n ≡ at
      all = is.2

      sum : offset + (n + b) ≡ at
      sum = omega (arith, all)

      below_all : at < 256
      below_all = omega (arith, below, some)

      index_byte : v.at (base t) ≡ low
      index_byte =
          let two = has.1 in
          let content = at_width p e slots home base place y need m v t _ 1 h has.0 is.1 refl (omega (arith, needed, two)) in
          let under = element_below e (b + offset) low width at is.2 below some in
          let first : base t + 0 ≡ base t = omega arith in
          ap v.at (sym first) ∙ (let c : value v.at (base t) 1 ≡ low % 256 = content.0 in omega (arith, c, under))

      x : (v2.at 30 ≡ n) × Changes e v v2
      x =
          let two = has.1 in
          indexed e (home t) (base t) low width v
          (stands_less e (home t) t.bytes 1 (base t) Own (omega (arith, two)) (y.layout.temps_at t has.0)) cases index_byte
          (product_below e (b + offset) n at all below_all) h.bytes

      still : v2.at (cell_at cell) ≡ b
      still =
          let high = y.work_stands.high in
          x.1.same (cell_at cell) (omega arith) (omega arith) (omega arith) (omega arith) ∙ byte

      a : (v3.at 30 ≡ n + b) × Changes e v2 v3
      a = cell_added cell b n v2 l still small x.0 (omega (arith, sum, below_all)) x.1.numbers

      z : (pair w.at 30 ≡ offset + (n + b)) × Changes e v3 w
      z = added e offset (n + b) v3 a.0 (omega (arith, sum, below_all)) a.1.numbers

  -- ---- a cell is read to a temporary

  pub cell_loaded : (t : Temp) (cell b c : ℕ) (need : Need) (m : Mach) (v : View) → HasHome slots t → t.bytes ≡ 1 → cell < y.cells
      → chosen cell m.state ≡ Some b → C (without t.at need) m v
      → C need (machine (with_content t (bits (low_bytes t.bytes (pos b))) m.temps) (worked c m.state))
      (block e (copy_code (cell_place cell) (home t) t.bytes) v)
  cell_loaded t cell b c need m v it one l bound h =
      written p e slots home base place y t (bits (low_bytes t.bytes (pos b))) need (without t.at need) m (worked c m.state) v v1 it h
      (λ u q. without_other t.at u need q) k.frame (result, low_below t.bytes (pos b)) numbers refl (k.quiet.seen ∙ h.seen)
      (kept_left y.inputs m.state v v1 k.quiet.inputs h.left) (k.quiet.safe ∙ h.safe)
    where
      v1 : View
      v1 = block e (copy_code (cell_place cell) (home t) t.bytes) v

      k : Moves v v1 (cell_at cell) (base t) t.bytes
      k =
          copied e (cell_place cell) (home t) t.bytes (cell_at cell) (base t) v (cell_there cell t.bytes l one) (y.layout.temps_at t it)
          (λ q. omega (arith, one)) h.bytes

      small : b < 256
      small = cell_below cell b (without t.at need) m v l bound h

      byte : v1.at (base t) ≡ b
      byte =
          let q : base t + 0 ≡ base t = omega arith in
          let r : cell_at cell + 0 ≡ cell_at cell = omega arith in
          sym (ap v1.at q) ∙ k.there 0 (omega (arith, one)) ∙ ap v.at r ∙ cell_byte cell b (without t.at need) m v l bound h

      fits : b < 256 ^ t.bytes
      fits = subst (λ i. b < 256 ^ i) (sym one) small

      low : low_bytes t.bytes (pos b) ≡ b
      low = low_of_number false t.bytes b fits

      result : value v1.at (base t) (wanted need t) ≡ low_bytes t.bytes (pos b) % 256 ^ wanted need t
      result =
          let most = wanted_most need t in
          rw low (one_byte v1.at (base t) b (wanted need t) (omega (arith, most, one)) byte small)

      numbers : HoldsNumbers v1
      numbers =
          numbers_kept v v1 (base t) t.bytes h.bytes k.frame
          (λ j i. rw (k.there j i) (let high = y.work_stands.high in h.bytes (cell_at cell + j) (omega arith))) k.work

  -- ---- a temporary is written to a cell

  -- what has to stand elsewhere is the same
  stands_still : (k cell low : ℕ) (s : State) → cell < y.cells → k ≢ cell_at cell
      → y.stands (with_choice cell low s).groups k ≡ y.stands s.groups k
  stands_still k cell low s l other =
      ⊎_elim
      (λ (c : (i : ℕ) × (i < y.cells) × (k ≡ y.work + 64 + i)).
      let different : c.0 ≢ cell = λ q. other (c.2 ∙ ap (λ i. y.work + 64 + i) q) in
      let s1 = with_choice cell low s in
      ap (y.stands s1.groups) c.2 ∙ y.cells_stand c.0 s1 c.1 ∙ other_chosen cell c.0 low s different ∙ sym (y.cells_stand c.0 s c.1)
      ∙ ap (y.stands s.groups) (sym c.2))
      (λ o. y.others_stand k (with_choice cell low s).groups o ∙ sym (y.others_stand k s.groups o))
      (by_row (y.work + 64) y.cells k)

  pub cell_stored : (t : Temp) (cell low c : ℕ) (need : Need) (m : Mach) (v : View) → HasHome slots t → t.bytes ≡ 1 → cell < y.cells
      → m.temps t.at ≡ Some (record { bytes = t.bytes; content = bits low }) → C (at_least t.at t.bytes need) m v
      → C need (machine m.temps (with_choice cell low (worked c m.state))) (block e (copy_code (home t) (cell_place cell) t.bytes) v)
  cell_stored t cell low c need m v it one l holds h = record {
    temps_hold = λ u x iu q r. (let most = wanted_most need u in same_content p place v.at v1.at (base u) (wanted need u) u.bytes
        x.content (λ j i. temp_row u iu j (omega arith))
        (at_width p e slots home base place y need0 m v u x (wanted need u) h iu q r
        (wanted_more need need0 u (least_other t.at t.bytes u.at need))));
    leaves_hold = λ x z u q r. same_leaf p place v.at v1.at (place x.object + x.at) x.bytes u (λ j i. leaf_row x j i) (h.leaves_hold x z u q r);
    tables_hold = h.tables_hold;
    frames = h.frames;
    kept = kept_there;
    bytes = numbers;
    left = kept_left y.inputs m.state v v1 k.quiet.inputs h.left;
    seen = k.quiet.seen ∙ h.seen;
    safe = k.quiet.safe ∙ h.safe;
  }
    where
      need0 : Need
      need0 = at_least t.at t.bytes need

      a : ℕ
      a = cell_at cell

      v1 : View
      v1 = block e (copy_code (home t) (cell_place cell) t.bytes) v

      k : Moves v v1 (base t) a t.bytes
      k =
          copied e (home t) (cell_place cell) t.bytes (base t) a v (y.layout.temps_at t it) (cell_there cell t.bytes l one)
          (λ q. omega (arith, one)) h.bytes

      content : (value v.at (base t) t.bytes ≡ low % 256 ^ t.bytes) × (low < 256 ^ t.bytes)
      content = whole p e slots home base place y need m v t _ h it holds refl

      byte : v1.at a ≡ low
      byte =
          let q : a + 0 ≡ a = omega arith in
          let r : base t + 0 ≡ base t = omega arith in
          sym (ap v1.at q) ∙ k.there 0 (omega (arith, one)) ∙ ap v.at r ∙ first_byte v.at (base t) t.bytes low one content.1 content.0

      apart : (b n : ℕ) → Outside b n a → Apart a t.bytes b n
      apart b n o = record { left = λ q. omega (arith, one, q); right = o }

      temp_row : (u : Temp) → HasHome slots u → (j : ℕ) → j < u.bytes → v1.at (base u + j) ≡ v.at (base u + j)
      temp_row u iu j i =
          row_kept v v1 a t.bytes (base u) u.bytes (y.layout.temps_at u iu).clear
          (work_outside (base u) u.bytes (y.layout.temps_work u iu))
          (apart (base u) u.bytes (y.temps_aside u a iu (y.cells_aside cell l))) k.frame j i

      leaf_row : (x : ObjectLeaf p DataBank) (j : ℕ) → j < x.bytes → v1.at (place x.object + x.at + j) ≡ v.at (place x.object + x.at + j)
      leaf_row x j i =
          row_kept v v1 a t.bytes (place x.object + x.at) x.bytes (y.layout.leaves_at x).clear
          (work_outside (place x.object + x.at) x.bytes (y.layout.leaves_work x))
          (apart (place x.object + x.at) x.bytes (y.leaves_aside x a (y.cells_aside cell l))) k.frame j i

      still : (i : ℕ) → 32 ≤ i → i ≢ a → v1.at i ≡ v.at i
      still i high other = k.frame i (omega arith) (omega arith) (omega arith) (λ q. omega (arith, one, q, other))

      kept_there : (i x : ℕ) → y.aside i ≡ true → y.stands (with_choice cell low m.state).groups i ≡ Some x → v1.at i ≡ x
      kept_there i x q r =
          ⊎_elim
          (λ (here : i ≡ a).
          let s1 = with_choice cell low m.state in
          let z : chosen cell s1 ≡ Some x = sym (y.cells_stand cell s1 l) ∙ ap (y.stands s1.groups) (sym here) ∙ r in
          ap v1.at here ∙ byte ∙ now_chosen cell low x m.state z)
          (λ (other : i ≢ a). still i (y.high i q) other ∙ h.kept i x q (sym (stands_still i cell low m.state l other) ∙ r))
          (cases_eq i a)

      numbers : HoldsNumbers v1
      numbers =
          numbers_kept v v1 a t.bytes h.bytes k.frame
          (λ j i. rw (k.there j i) (let some = (y.layout.temps_at t it).clear in h.bytes (base t + j) (omega arith))) k.work
