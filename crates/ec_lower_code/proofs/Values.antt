-- Operators on values, and on what the operations have of them.
use Rattle.std.proofs.Common.{◌≡◌, ℕ, ◌+◌, Bool, true, false, not, ◌&&◌, ℤ, pos, List, Option, Some, None, Result, Ok, Err, refl, sym}
use Rattle.std.proofs.Common.{ap, ◌∙◌, eqb-true, eq-eqb}
use Rattle.std.specs.Prelude.{◌==◌, if◌then◌else◌, ◌+ℤ◌, ◌-ℤ◌, int_le, unsigned_abs, slice_get, option_map, option_and_then, unwrap_or}
use Rattle.std.specs.Ordering.{nat_cmp}
use Rattle.ec_fx.specs.declared.numbers.Mode.{Mode}
use Rattle.ec_space.specs.declared.space.SpaceId.{SpaceId}
use Rattle.ec_space.specs.Spaces.{holds}
use Rattle.ec_core.specs.declared.expressions.BinOp.{BinOp}
use Rattle.ec_core.specs.declared.expressions.BinOp.TheVariants.{Add, Sub, Mul, Div, Rem, Shl, Shr, And, Or, Xor, Lt, Gt, Le, Ge, Eq, Ne}
use Rattle.ec_core.specs.declared.expressions.UnOp.{UnOp}
use Rattle.ec_core.specs.declared.values.ObjectPointer.{ObjectPointer}
use Rattle.ec_core.specs.declared.values.Referent.{Referent}
use Rattle.ec_core.specs.declared.values.Undefined.{Undefined}
use Rattle.ec_core.specs.declared.values.Undefined.TheVariants.{Narrowing, Unrelated, PointerRange}
use Rattle.ec_core.specs.declared.values.Value.{Value}
use Rattle.ec_core.specs.declared.values.Value.TheVariants.{Number, Pointer}
use Rattle.ec_core.specs.Accesses.{is_live_in, is_readable, nothing_known, referent_of, element_size, operand_of}
use Rattle.ec_core.specs.Operators.{as_number, as_pointer as pointer_result, offset_result, unary_result, binary_result, conversion_result}
use Rattle.ec_core.specs.Plain.{PlainType, void, integer, fixed, pointer, array, struct, PlainObject, PlainProgram}
use Rattle.ec_core.specs.ArithmeticValues.{is_comparison}
use Rattle.ec_core.specs.Integers.{compared}
use Rattle.ec_core.specs.Layout.{size_of_type}
use Rattle.ec_core.specs.Pointers.{Pointer as PointerValue, is_usable, used, displaced, moved, same_instance, in_elements}
use Rattle.ec_core.specs.Pointers.{elements_between, difference_of_pointers, ordered, is_at_end, apart, equality, as_truth}
use Rattle.ec_core.specs.Pointers.{compared_pointers, comparison_of_pointers, pointer_in_space}
use Rattle.ec_core.proofs.Growth.{and_true}
use Rattle.ec_core.specs.State.{told, ObjectState, State}
use Rattle.ec_lower_code.proofs.Objects.{shown_at}
use Rattle.ec_lower_code.proofs.Shown.{erased, shown, AreShown}

pub told_shown : (v : Value) → told (shown v) ≡ told v
told_shown (Number n) = refl
told_shown (Pointer None) = refl
told_shown (Pointer (Some p)) = refl

pub number_shown : (r : Result ℤ Undefined) (v : Value) → as_number r ≡ Ok v → as_number r ≡ Ok (shown v)
number_shown (Ok n) v e = let g : Number n ≡ v = cc in ap (λ (u : Value). Ok (shown u)) g
number_shown (Err point) v e = cc

pub unary_shown : (op : UnOp) (ty : PlainType) (mode : Mode) (x v : Value) → unary_result op ty mode x ≡ Ok v → unary_result op ty mode
    (shown x) ≡ Ok (shown v)
unary_shown op ty mode (Number n) v e = number_shown _ v e
unary_shown op ty mode (Pointer p) v e = cc

-- ---- pointers

abbrev known : PlainProgram → ObjectPointer → Option PlainObject → Option ObjectState → Referent
known program p d x = unwrap_or (option_and_then (λ o. option_map
    (λ x. record { live = is_live_in p x; size = size_of_type program.structs o.ty; home = o.home }) x) d) nothing_known

used_ok : {A : Type 0} (b : Bool) (r : Result A Undefined) (x : A) → used b r ≡ Ok x → (b ≡ true) × (r ≡ Ok x)
used_ok true r x e = (refl, e)
used_ok false r x e = cc

number_ok : (r : Result ℤ Undefined) (v : Value) → as_number r ≡ Ok v → (n : ℤ) × (r ≡ Ok n) × (Number n ≡ v)
number_ok (Ok n) v e = (n, refl, cc)
number_ok (Err point) v e = cc

displaced_shown : (p : ObjectPointer) (size : ℕ) (at : ℤ) (q : PointerValue) → displaced p size at ≡ Ok q
    → displaced (erased p) size at ≡ Ok (option_map erased q)
displaced_shown p size at q e = by_range (int_le (pos 0) at && int_le at (pos size)) e
  where
    by_range : (b : Bool) → (if b then Ok (Some (record { object = p.object; instance = p.instance; offset = unsigned_abs at }))
        else Err PointerRange) ≡ Ok q → (if b then Ok (Some (record { object = p.object; instance = 0; offset = unsigned_abs at }))
        else Err PointerRange) ≡ Ok (option_map erased q)
    by_range true f = let g : Some (record { object = p.object; instance = p.instance; offset = unsigned_abs at }) ≡ q = cc in
        ap (λ z. Ok (option_map erased z)) g
    by_range false f = cc

-- a pointer that is moved forward
pub moved_offset : (p : ObjectPointer) (of : Referent) (k : ℕ) (q : PointerValue) → moved (Some p) of (pos k) ≡ Ok q
    → q ≡ Some (record { object = p.object; instance = p.instance; offset = p.offset + k })
moved_offset p of k q e = let u = used_ok of.live (displaced p of.size (pos p.offset +ℤ pos k)) q e in
    by_range (int_le (pos 0) (pos p.offset +ℤ pos k) && int_le (pos p.offset +ℤ pos k) (pos of.size)) u.1
  where
    by_range : (b : Bool)
        → (if b then Ok (Some (record { object = p.object; instance = p.instance; offset = unsigned_abs (pos p.offset +ℤ pos k) }))
        else Err PointerRange) ≡ Ok q → q ≡ Some (record { object = p.object; instance = p.instance; offset = p.offset + k })
    by_range true f = let g : Some (record { object = p.object; instance = p.instance; offset = unsigned_abs (pos p.offset +ℤ pos k) })
        ≡ q = cc in sym g
    by_range false f = cc

-- a machine's objects beside those of a program
module _ (program : PlainProgram) (fs : List ℕ) (s t : State) (h : AreShown program fs program.objects s.objects t.objects) where
  known_shown : (p : ObjectPointer) (d : Option PlainObject) (x : Option ObjectState) → slice_get program.objects p.object ≡ d
      → slice_get s.objects p.object ≡ x → (known program p d x).live ≡ true → known program (erased p) d
      (slice_get t.objects p.object) ≡ known program p d x
  known_shown p None x e f l = cc
  known_shown p (Some d) None e f l = cc
  known_shown p (Some d) (Some x) e f l =
      let z = shown_at program fs program.objects s.objects t.objects p.object d x h e f in
      let y = z.0 in
      let stands = z.2.stands (z.2.kept (and_true x.live (x.serial == p.instance) l).0) in
      let live : is_live_in (erased p) y ≡ is_live_in p x = ap (λ b. b && y.serial == 0) stands ∙ ap (λ k. k == 0) z.2.serial ∙ sym l in
      ap (known program (erased p) (Some d)) z.1 ∙ ap (λ b. record { live = b; size = size_of_type program.structs d.ty; home = d.home })
      live

  pub referent_shown : (p : PointerValue) → is_usable p (referent_of program p s) ≡ true
      → referent_of program (option_map erased p) t ≡ referent_of program p s
  referent_shown None u = refl
  referent_shown (Some p) u = known_shown p (slice_get program.objects p.object) (slice_get s.objects p.object) refl refl u

  pub readable_shown : (v : Value) → is_readable program v s ≡ true → is_readable program (shown v) t ≡ true
  readable_shown (Number n) e = refl
  readable_shown (Pointer None) e = refl
  readable_shown (Pointer (Some p)) e = ap (λ r. r.live) (referent_shown (Some p) e) ∙ e

  pub moved_shown : (p : PointerValue) (bytes : ℤ) (q : PointerValue) → moved p (referent_of program p s) bytes ≡ Ok q
      → moved (option_map erased p) (referent_of program (option_map erased p) t) bytes ≡ Ok (option_map erased q)
  moved_shown None bytes q e = cc
  moved_shown (Some p) bytes q e =
      let u = used_ok (referent_of program (Some p) s).live _ q e in
      ap (λ r. moved (Some (erased p)) r bytes) (referent_shown (Some p) u.0)
      ∙ ap (λ b. used b (displaced (erased p) (referent_of program (Some p) s).size (pos p.offset +ℤ bytes))) u.0
      ∙ displaced_shown p (referent_of program (Some p) s).size (pos p.offset +ℤ bytes) q u.1

  -- live pointers into one object are into one instance
  instance_of : (p : ObjectPointer) (d : Option PlainObject) (x : Option ObjectState) → slice_get s.objects p.object ≡ x
      → (known program p d x).live ≡ true → (y : ObjectState) × (slice_get s.objects p.object ≡ Some y) × (y.serial ≡ p.instance)
  instance_of p None x e l = cc
  instance_of p (Some d) None e l = cc
  instance_of p (Some d) (Some x) e l = (x, e, eqb-true x.serial p.instance (and_true x.live (x.serial == p.instance) l).1)

  same_shown : (p q : ObjectPointer) → (referent_of program (Some p) s).live ≡ true → (referent_of program (Some q) s).live ≡ true
      → same_instance (erased p) (erased q) ≡ same_instance p q
  same_shown p q l k = by_object (p.object == q.object) refl
    where
      by_object : (b : Bool) → (p.object == q.object) ≡ b → (p.object == q.object && 0 == 0) ≡ (p.object == q.object
          && p.instance == q.instance)
      by_object false e = ap (λ c. c && 0 == 0) e ∙ sym (ap (λ c. c && p.instance == q.instance) e)
      by_object true e =
          let x = instance_of p (slice_get program.objects p.object) _ refl l in
          let y = instance_of q (slice_get program.objects q.object) _ refl k in
          let o : p.object ≡ q.object = eqb-true p.object q.object e in
          let z : Some x.0 ≡ Some y.0 = sym x.1 ∙ ap (slice_get s.objects) o ∙ y.1 in
          let w : x.0 ≡ y.0 = cc in
          let i : p.instance ≡ q.instance = sym x.2 ∙ ap (λ (c : ObjectState). c.serial) w ∙ y.2 in
          ap (λ c. p.object == q.object && c) (sym (eq-eqb p.instance q.instance i))

  equality_shown : (p q : PointerValue) (of into : Referent) → is_usable p (referent_of program p s) ≡ true
      → is_usable q (referent_of program q s) ≡ true → equality (option_map erased p) of (option_map erased q) into ≡ equality p of q into
  equality_shown None None of into l k = refl
  equality_shown None (Some q) of into l k = refl
  equality_shown (Some p) None of into l k = refl
  equality_shown (Some p) (Some q) of into l k = ap (λ b. if b then Ok (p.offset == q.offset) else apart (is_at_end p of)
      (is_at_end q into)) (same_shown p q l k)

  ordered_shown : (op : BinOp) (p q : PointerValue) → is_usable p (referent_of program p s) ≡ true
      → is_usable q (referent_of program q s) ≡ true → ordered op (option_map erased p) (option_map erased q) ≡ ordered op p q
  ordered_shown op None None l k = refl
  ordered_shown op None (Some q) l k = refl
  ordered_shown op (Some p) None l k = refl
  ordered_shown op (Some p) (Some q) l k = ap (λ b. if b then compared op (nat_cmp p.offset q.offset) else Err Unrelated)
      (same_shown p q l k)

  elements_shown : (size : ℕ) (p q : PointerValue) → is_usable p (referent_of program p s) ≡ true
      → is_usable q (referent_of program q s) ≡ true → elements_between size (option_map erased p) (option_map erased q) ≡ elements_between
      size p q
  elements_shown size None None l k = refl
  elements_shown size None (Some q) l k = refl
  elements_shown size (Some p) None l k = refl
  elements_shown size (Some p) (Some q) l k = ap (λ b. if b then in_elements size (pos p.offset -ℤ pos q.offset) else Err Unrelated)
      (same_shown p q l k)

  compared_shown : (op : BinOp) (p q : PointerValue) (of into : Referent) → is_usable p (referent_of program p s) ≡ true
      → is_usable q (referent_of program q s) ≡ true → compared_pointers op (option_map erased p) of
      (option_map erased q) into ≡ compared_pointers op p of q into
  compared_shown Eq p q of into l k = ap (as_truth (λ b. b)) (equality_shown p q of into l k)
  compared_shown Ne p q of into l k = ap (as_truth not) (equality_shown p q of into l k)
  compared_shown Add p q of into l k = ordered_shown Add p q l k
  compared_shown Sub p q of into l k = ordered_shown Sub p q l k
  compared_shown Mul p q of into l k = ordered_shown Mul p q l k
  compared_shown Div p q of into l k = ordered_shown Div p q l k
  compared_shown Rem p q of into l k = ordered_shown Rem p q l k
  compared_shown Shl p q of into l k = ordered_shown Shl p q l k
  compared_shown Shr p q of into l k = ordered_shown Shr p q l k
  compared_shown And p q of into l k = ordered_shown And p q l k
  compared_shown Or p q of into l k = ordered_shown Or p q l k
  compared_shown Xor p q of into l k = ordered_shown Xor p q l k
  compared_shown Lt p q of into l k = ordered_shown Lt p q l k
  compared_shown Gt p q of into l k = ordered_shown Gt p q l k
  compared_shown Le p q of into l k = ordered_shown Le p q l k
  compared_shown Ge p q of into l k = ordered_shown Ge p q l k

  -- usable pointers, by either kind of operation
  pointers_usable : (b c : Bool) (x y : Result ℤ Undefined) (n : ℤ) → (if b then used c x else used c y) ≡ Ok n → c ≡ true
  pointers_usable true c x y n e = (used_ok c x n e).0
  pointers_usable false c x y n e = (used_ok c y n e).0

  abbrev pointers_value : BinOp → ℕ → PointerValue → Referent → PointerValue → Referent → Result ℤ Undefined
  pointers_value op size p of q into = if is_comparison op then comparison_of_pointers op p of q into else difference_of_pointers size p of
      q into

  pointers_shown : (op : BinOp) (size : ℕ) (p q : PointerValue) (n : ℤ) → pointers_value op size p (referent_of program p s) q
      (referent_of program q s) ≡ Ok n → pointers_value op size (option_map erased p) (referent_of program (option_map erased p) t)
      (option_map erased q) (referent_of program (option_map erased q) t) ≡ Ok n
  pointers_shown op size p q n e =
      let of = referent_of program p s in let into = referent_of program q s in
      let u = pointers_usable (is_comparison op) (is_usable p of && is_usable q into) (compared_pointers op p of q into)
      (elements_between size p q) n e in
      let v = and_true (is_usable p of) (is_usable q into) u in
      ap (λ r. pointers_value op size (option_map erased p) r (option_map erased q) (referent_of program (option_map erased q) t))
      (referent_shown p v.0)
      ∙ ap (λ r. pointers_value op size (option_map erased p) of (option_map erased q) r) (referent_shown q v.1)
      ∙ ap (λ c. if is_comparison op then used c (compared_pointers op (option_map erased p) of (option_map erased q) into)
      else used c (elements_between size (option_map erased p) (option_map erased q))) (usable_shown p q of into)
      ∙ ap (λ r. if is_comparison op then used (is_usable p of && is_usable q into) r else used (is_usable p of && is_usable q into)
      (elements_between size (option_map erased p) (option_map erased q))) (compared_shown op p q of into v.0 v.1)
      ∙ ap (λ r. if is_comparison op then used (is_usable p of && is_usable q into) (compared_pointers op p of q into)
      else used (is_usable p of && is_usable q into) r) (elements_shown size p q v.0 v.1)
      ∙ e
    where
      one : (p : PointerValue) (of : Referent) → is_usable (option_map erased p) of ≡ is_usable p of
      one None of = refl
      one (Some p) of = refl

      usable_shown : (p q : PointerValue) (of into : Referent) → (is_usable (option_map erased p) of && is_usable
          (option_map erased q) into) ≡ (is_usable p of && is_usable q into)
      usable_shown p q of into = ap (λ b. b && is_usable (option_map erased q) into) (one p of) ∙ ap (λ b. is_usable p of && b) (one q into)

  -- a sum of a pointer and a number
  pub pointer_ok : (r : Result PointerValue Undefined) (v : Value) → pointer_result r ≡ Ok v
      → (q : PointerValue) × (r ≡ Ok q) × (Pointer q ≡ v)
  pointer_ok (Ok q) v e = (q, refl, cc)
  pointer_ok (Err point) v e = cc

  sum_shown : (p : PointerValue) (bytes : ℤ) (v : Value) → pointer_result (moved p (referent_of program p s) bytes) ≡ Ok v
      → pointer_result (moved (option_map erased p) (referent_of program (option_map erased p) t) bytes) ≡ Ok (shown v)
  sum_shown p bytes v e =
      let k = pointer_ok (moved p (referent_of program p s) bytes) v e in
      ap pointer_result (moved_shown p bytes k.0 k.1) ∙ ap (λ (u : Value). Ok (shown u)) k.2

  offset_shown : (op : BinOp) (ty : PlainType) (p : PointerValue) (n : ℤ) (v : Value)
      → offset_result op (operand_of program ty (Pointer p) s) p n ≡ Ok v → offset_result op (operand_of program ty (shown (Pointer p)) t)
      (option_map erased p) n ≡ Ok (shown v)
  offset_shown Add ty p n v e = sum_shown p _ v e
  offset_shown Sub ty p n v e = sum_shown p _ v e
  offset_shown Mul ty p n v e = cc
  offset_shown Div ty p n v e = cc
  offset_shown Rem ty p n v e = cc
  offset_shown Shl ty p n v e = cc
  offset_shown Shr ty p n v e = cc
  offset_shown And ty p n v e = cc
  offset_shown Or ty p n v e = cc
  offset_shown Xor ty p n v e = cc
  offset_shown Lt ty p n v e = cc
  offset_shown Gt ty p n v e = cc
  offset_shown Le ty p n v e = cc
  offset_shown Ge ty p n v e = cc
  offset_shown Eq ty p n v e = cc
  offset_shown Ne ty p n v e = cc

  pub binary_shown : (op : BinOp) (ty : PlainType) (mode : Mode) (a b : PlainType) (x y v : Value) → binary_result op ty mode
      (operand_of program a x s) (operand_of program b y s) ≡ Ok v → binary_result op ty mode (operand_of program a (shown x) t)
      (operand_of program b (shown y) t) ≡ Ok (shown v)
  binary_shown op ty mode a b (Number m) (Number n) v e = number_shown _ v e
  binary_shown op ty mode a b (Pointer p) (Number n) v e = offset_shown op a p n v e
  binary_shown op ty mode a b (Number m) (Pointer q) v e = offset_shown op b q m v e
  binary_shown op ty mode a b (Pointer p) (Pointer q) v e =
      let size = element_size program a in
      let k = number_ok (pointers_value op size p (referent_of program p s) q (referent_of program q s)) v e in
      ap as_number (pointers_shown op size p q k.0 k.1) ∙ ap (λ (u : Value). Ok (shown u)) k.2

  space_shown : (space : SpaceId) (p : PointerValue) (v : Value) → pointer_result (pointer_in_space space p (referent_of program p s)) ≡ Ok
      v → pointer_result (pointer_in_space space (option_map erased p) (referent_of program (option_map erased p) t)) ≡ Ok (shown v)
  space_shown space None v e = let g : Pointer None ≡ v = cc in ap (λ (u : Value). Ok (shown u)) g
  space_shown space (Some p) v e =
      let of = referent_of program (Some p) s in
      let k = pointer_ok (pointer_in_space space (Some p) of) v e in
      let u = used_ok of.live (if holds space of.home then Ok (Some p) else Err Narrowing) k.0 k.1 in
      ap (λ r. pointer_result (pointer_in_space space (Some (erased p)) r)) (referent_shown (Some p) u.0)
      ∙ ap (λ b. pointer_result (used b (if holds space of.home then Ok (Some (erased p)) else Err Narrowing))) u.0
      ∙ ap pointer_result (narrowed (holds space of.home) k.0 u.1) ∙ ap (λ (z : Value). Ok (shown z)) k.2
    where
      narrowed : (b : Bool) (q : PointerValue) → (if b then Ok (Some p) else Err Narrowing) ≡ Ok q
          → (if b then Ok (Some (erased p)) else Err Narrowing) ≡ Ok (option_map erased q)
      narrowed true q f = let g : Some p ≡ q = cc in ap (λ z. Ok (option_map erased z)) g
      narrowed false q f = cc

  pub conversion_shown : (ty : PlainType) (mode : Mode) (a : PlainType) (x v : Value) → conversion_result ty mode
      (operand_of program a x s) ≡ Ok v → conversion_result ty mode (operand_of program a (shown x) t) ≡ Ok (shown v)
  conversion_shown (pointer space c to) mode a (Pointer p) v e = space_shown space p v e
  conversion_shown (pointer space c to) mode a (Number n) v e = number_shown _ v e
  conversion_shown void mode a (Number n) v e = number_shown _ v e
  conversion_shown void mode a (Pointer p) v e = cc
  conversion_shown (integer g b) mode a (Number n) v e = number_shown _ v e
  conversion_shown (integer g b) mode a (Pointer p) v e = cc
  conversion_shown (fixed k g) mode a (Number n) v e = number_shown _ v e
  conversion_shown (fixed k g) mode a (Pointer p) v e = cc
  conversion_shown (array z n) mode a (Number m) v e = number_shown _ v e
  conversion_shown (array z n) mode a (Pointer p) v e = cc
  conversion_shown (struct i) mode a (Number n) v e = number_shown _ v e
  conversion_shown (struct i) mode a (Pointer p) v e = cc
