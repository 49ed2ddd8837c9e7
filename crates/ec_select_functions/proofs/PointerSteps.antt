-- Operators and conversions of pointers: what their code does for them.
use Rattle.std.proofs.Common.{◌≡◌, ◌≢◌, ℕ, zero, suc, ◌+◌, ◌-◌, ◌*◌, ◌%◌, ◌^◌, ◌<◌, ◌≤◌, inl, inr, ⊎_elim}
use Rattle.std.proofs.Common.{Bool, true, false, ◌&&◌, ◌||◌, ℤ, pos, ◌*ℤ◌, List, [], ◌∷◌, ◌++◌, Option, Some, None}
use Rattle.std.proofs.Common.{Result, Ok, Err, refl, sym, ap, ◌∙◌, subst, arith, append-nil, ◌⊎◌}
use Rattle.std.specs.Prelude.{◌==◌, nat_le, if◌then◌else◌, slice_get, not}
use Rattle.std.specs.Int.{from_bool}
use Rattle.std.proofs.lemmas.Bool.{cases_lt, eqb-true, leb-true, leb-false, cases_eq, false≢true, and_parts, eq-eqb}
use Rattle.std.proofs.lemmas.Nat.{mod_below}
use Rattle.ec_fx.specs.declared.numbers.Mode.{Mode}
use Rattle.ec_space.specs.declared.Core.{Core}
use Rattle.ec_space.specs.declared.Core.TheVariants.{Small, Large}
use Rattle.ec_space.specs.declared.space.Bank.{Bank}
use Rattle.ec_space.specs.declared.space.Bank.TheVariants.{Flash as FlashBank, Data as DataBank}
use Rattle.ec_space.specs.declared.space.SpaceId.{SpaceId}
use Rattle.ec_space.specs.declared.space.SpaceId.TheVariants.{Flash, FarFlash, Data, Generic}
use Rattle.ec_space.specs.Spaces.{bank_of, width}
use Rattle.ec_asm.specs.declared.items.AsmItem.{AsmItem}
use Rattle.ec_asm.specs.declared.pieces.Location.{Location}
use Rattle.ec_asm.specs.declared.pieces.Location.TheVariants.{InRegisters, InMemory}
use Rattle.ec_asm.specs.View.{View}
use Rattle.ec_asm.specs.Change.{Env, Own}
use Rattle.ec_asm.specs.Items.{HasAt, block, all_straight, code_steps}
use Rattle.ec_asm.specs.Pieces.{StandsFrom, Outside, Keeps, value}
use Rattle.ec_asm.specs.PieceLaws.{HoldsNumbers, AreHeld}
use Rattle.ec_asm.proofs.Hoare.{has_parts, block_goes, goes_on_to, block-append, straight-append, steps-append}
use Rattle.ec_asm.proofs.Numbers.{pow_pos, value_mod}
use Rattle.std.proofs.Common.{min, max}
use Rattle.ec_core.specs.declared.expressions.BinOp.{BinOp}
use Rattle.ec_core.specs.declared.expressions.BinOp.TheVariants.{Add, Sub, Lt}
use Rattle.ec_core.specs.declared.expressions.BinOp.TheVariants.{Gt, Le, Ge, Eq, Ne}
use Rattle.ec_core.specs.declared.values.ObjectPointer.{ObjectPointer}
use Rattle.ec_core.specs.declared.values.Undefined.{Undefined}
use Rattle.ec_core.specs.declared.values.Value.{Value}
use Rattle.ec_core.specs.declared.values.Value.TheVariants.{Pointer}
use Rattle.ec_core.specs.Accesses.{referent_of, operand_of}
use Rattle.ec_core.specs.ArithmeticValues.{is_comparison}
use Rattle.ec_core.specs.Layout.{scalar_size, size_of_type, IsIntegerSize}
use Rattle.ec_core.specs.Operators.{Operand, offset_result, same_type, as_number, as_pointer, unsuited}
use Rattle.ec_core.specs.Plain.{PlainType, void, integer, fixed, pointer, array, struct, PlainObject, PlainProgram}
use Rattle.ec_core.specs.Pointers.{Pointer as PointerValue, sum_of_pointer, difference_of_pointers}
use Rattle.ec_core.specs.Pointers.{comparison_of_pointers, pointer_in_space}
use Rattle.ec_core.specs.State.{State, worked, Outcome, next, given}
use Rattle.ec_core.specs.Typing.{IsIntegerType, HaveOffsetTypes}
use Rattle.ec_ir.specs.declared.operations.Temp.{Temp}
use Rattle.ec_core.specs.Words.{widest, operation_words}
use Rattle.ec_ir.specs.Costs.{op_steps, binary_words, conversion_words, is_bitwise, is_integer}
use Rattle.ec_ir.specs.Meaning.{Mach, machine, held_as, Frame as Call}
use Rattle.ec_ir.specs.Operations.{PlainIr, binary_op, conversion, PlainIrFunction}
use Rattle.ec_ir.specs.Valid.{HasPointersOf}
use Rattle.ec_ir_known.specs.declared.known.RightNumber.{RightNumber}
use Rattle.ec_ir.specs.Temporaries.{Content, bits, points, content_of, value_of_type, is_in_space, Held, Temps, held}
use Rattle.ec_ir.specs.Temporaries.{with_temp, with_content}
use Rattle.ec_ir.specs.Temporaries.{low_bytes, number_of_bytes}
use Rattle.ec_select_bytes.specs.Values.{extend_code}
use Rattle.ec_select_bytes.proofs.Straight.{values_are_straight, values_take}
use Rattle.ec_select_order.specs.declared.relations.Relation.{Relation}
use Rattle.ec_select_order.specs.declared.relations.Relation.TheVariants.{Less as IsBelow, NotLess, Equal as IsSame}
use Rattle.ec_select_order.specs.declared.relations.Relation.TheVariants.{NotEqual}
use Rattle.ec_select_places.specs.Numbers.{Place, number_of, IsPlace, places_stand}
use Rattle.ec_select_order.specs.Relations.{stand_so, relation_in_code}
use Rattle.ec_select_order.specs.Laws.{TellsIn}
use Rattle.ec_select_order.proofs.Truths.{relations_are_told_in}
use Rattle.ec_select_places.specs.Steps.{scale_index_code, advance_code, z_pair, compared_bytes as ordered_bytes}
use Rattle.ec_select_places.proofs.Advanced.{places_are_told}
use Rattle.ec_select_places.proofs.FarPlaces.{far_places_are_told}
use Rattle.ec_select_places.specs.Indexes.{is_addend, can_add, add_index_code}
use Rattle.ec_select_places.specs.IndexLaws.{Adds}
use Rattle.ec_select_places.specs.Far.{advance_far_code}
use Rattle.ec_select_places.specs.FarLaws.{IsFarPlace, MayRelate, LeavesWork, far_moved_by}
use Rattle.ec_select_places.specs.StepLaws.{LeavesZ, MayBeInZ, Scales, Advances, index_of, moved_by}
use Rattle.ec_select_pointers.specs.Addresses.{field_code}
use Rattle.ec_select_pointers.specs.AddressLaws.{HasPut as IsPut}
use Rattle.ec_select_pointers.specs.Far.{field_far_code}
use Rattle.ec_select_places.specs.DistanceLaws.{signed_number, IsFrom, Differs}
use Rattle.ec_select_places.specs.ConversionLaws.{HasPut}
use Rattle.ec_select_places.specs.Distances.{elements_code}
use Rattle.ec_select_places.specs.Conversions.{embedded, embed_code}
use Rattle.ec_select_operations.specs.declared.families.Told.TheVariants.{Index}
use Rattle.ec_select_operations.specs.declared.families.Family.{Family}
use Rattle.ec_select_operations.specs.declared.families.Family.TheVariants.{Compared}
use Rattle.ec_select_operations.specs.Code.{Linkage, own_code, needed_behind, tells_next, ops_code, family_of, by_kind}
use Rattle.ec_select_operations.specs.Code.{move_code, conversion_code, is_far, moved_code, offset_code, is_difference}
use Rattle.ec_select_operations.specs.Code.{truth_register, truth_at_code}
use Rattle.ec_select_operations.specs.Code.{takes_index, indexed_code}
use Rattle.ec_select_operations.specs.Code.{related_bytes, member_code, known_index, known_bytes, known_offset, known_offset_code}
use Rattle.ec_select_operations.specs.Code.{pointers_code}
use Rattle.ec_select_functions.specs.Covered.{IsPointerBinary, IsPointerConversion}
use Rattle.ec_select_operations.specs.Homes.{HasHome}
use Rattle.ec_select_operations.specs.Needs.{Need, Facts, is_fixed, is_whole, facts_of, before, needs, wanted, at_least}
use Rattle.ec_select_operations.specs.Needs.{without, all_or_none, first_wanted, second_wanted, compared_bytes}
use Rattle.ec_select_operations.specs.Needs.{number_taken, moves_pointer, right_taken, right_needed, number_known}
use Rattle.ec_select_operations.specs.Needs.{masked_bytes, joined_bytes, pointer_wanted, moved_wanted}
use Rattle.ec_select_operations.specs.Places.{Apart, IsClear}
use Rattle.ec_select_operations.specs.Pointers.{has_tables, is_into_data, IsPointerIn, IsPointerSize, home_of}
use Rattle.ec_select_functions.specs.Relation.{FramesStand, Matches, HoldsContent}
use Rattle.ec_select_functions.proofs.Checked.{checked_on, performed}
use Rattle.ec_select_functions.proofs.Follow.{Follows, after, from_held, next_next, held_is}
use Rattle.ec_select_functions.proofs.Going.{goes_past}
use Rattle.ec_select_functions.proofs.Match.{kept_left, wanted_most, read_first, at_width, written_wide, least_here}
use Rattle.ec_select_functions.proofs.Match.{less_value}
use Rattle.ec_select_functions.proofs.Match.{least_other}
use Rattle.ec_select_functions.proofs.Match.{without_other, held_row}
use Rattle.ec_select_functions.proofs.Moves.{Frame, Wide, numbers_kept, row_value, narrower, stands_less}
use Rattle.ec_select_functions.proofs.Moves.{move_straight, move_steps}
use Rattle.ec_select_functions.proofs.Moves.{move_brings, off_low_work, off_high_work, z_stands}
use Rattle.ec_select_functions.proofs.Transfers.{Brought}
use Rattle.ec_select_functions.proofs.Numeric.{from_numeric}
use Rattle.ec_select_functions.proofs.Ordered.{ArePlaces, first_of}
use Rattle.ec_select_functions.proofs.PointerNumbers.{HavePlaces, AreApartIn, objects_have_places, place_of, tag_byte}
use Rattle.ec_select_functions.proofs.PointerNumbers.{IsAddressed, IsIntoSpace}
use Rattle.ec_select_functions.proofs.PointerNumbers.{places_core, low_address, offset_small, is_place, is_far_place}
use Rattle.ec_select_functions.proofs.PointerNumbers.{address_is, number_below}
use Rattle.ec_select_functions.proofs.PointerNumbers.{MayCompare, compared_alike, converted_home, far_advanced_is}
use Rattle.ec_select_functions.proofs.PointerNumbers.{places_compare, comparison_is}
use Rattle.ec_select_functions.proofs.PointerNumbers.{Distance, difference_is, IsMoved, moved_is, IsIndex, index_is}
use Rattle.ec_select_functions.proofs.PointerNumbers.{moved_elements, offset_moves, far_offset_moves, known_index_is}
use Rattle.ec_select_functions.proofs.PointerNumbers.{advanced_is, advanced_low, in_space_is, low_numbers, low_is_offset, embedded_is}
use Rattle.ec_select_functions.proofs.Related.{tells_to, told_matches}
use Rattle.ec_select_functions.proofs.Setting.{Setting, together}
use Rattle.ec_select_functions.proofs.Taken.{TakenNumber, as_known, no_number, HasNumber, number_or_none}
use Rattle.ec_select_functions.proofs.Wrapped.{low_below, kept_below}

-- the code of one kind of operations
kind_is : (own : Bool) (code others : List AsmItem) → own ≡ true → by_kind own code others ≡ code
kind_is own code others q = ap (λ x. by_kind x code others) q

-- ---- bytes

-- n bytes that stand apart from the work registers are no work registers
off_work : (a n j : ℕ) → IsClear a n → j < n → Outside 8 6 (a + j) × Outside 26 6 (a + j)
off_work a n j c l = (low, high)
  where
    low : Outside 8 6 (a + j)
    low q = ⊎_elim (λ (x : a < 8). let z = c.low.left x in absurd (omega arith))
        (λ (x : 8 ≤ a). let z = c.low.right x in omega arith) (cases_lt a 8)

    high : Outside 26 6 (a + j)
    high q = ⊎_elim (λ (x : a < 26). let z = c.high.left x in absurd (omega arith))
        (λ (x : 26 ≤ a). let z = c.high.right x in omega arith) (cases_lt a 26)

-- nor are those of them R30 and R31
leaves_z : (a n m : ℕ) → m ≤ n → IsClear a n → LeavesZ a m
leaves_z a n m l c = record { low = below 30 (omega arith) (omega arith); high = below 31 (omega arith) (omega arith) }
  where
    below : (k : ℕ) → 30 ≤ k → k < 32 → Outside a m k
    below k u w q = ⊎_elim (λ (x : a < 26). let z = c.high.left x in omega arith)
        (λ (x : 26 ≤ a). let z = c.high.right x in absurd (omega arith)) (cases_lt a 26)

-- a pointer that is moved in its object is one of the same spaces
moved_pointer : (p : PlainProgram) (n : ℕ) (q : ObjectPointer) (bytes : ℤ) (z : PointerValue) → IsPointerIn p n q
    → (w : IsMoved p q bytes z) → IsPointerIn p n w.to
moved_pointer p n q bytes z i w =
    let declared : Some i.pointed.declared ≡ Some w.pointed.declared =
    sym i.pointed.is_object ∙ ap (slice_get p.objects) (sym w.object) ∙ w.pointed.is_object in
    let same : i.pointed.declared ≡ w.pointed.declared = cc in
    record {
      pointed = w.pointed;
      size = i.size;
      of = subst (λ (d : PlainObject). HasPointersOf d n) same i.of;
    }

-- a pointer with whole addresses of flash has three bytes
far_bytes : (core : Core) (bytes : ℕ) → is_far core bytes ≡ true → bytes ≡ 3
far_bytes Small bytes h = absurd cc
far_bytes Large bytes h = eqb-true bytes 3 h

-- and one of two bytes has none
two_near : (core : Core) → is_far core 2 ≡ false
two_near Small = refl
two_near Large = refl

-- ---- operands

module _ (p : PlainProgram) (place : ℕ → ℕ) (e : Env) where
  -- a temporary that holds a pointer into a space
  pub from_pointer : (space : SpaceId) (const : Bool) (to : PlainType) (t : Temp) (temps : Temps) (s : State)
      (go : Value → State → Outcome Value) (n w pc : ℕ) (v : View)
      → ((x : PointerValue) → temps t.at ≡ Some (record { bytes = t.bytes; content = content_of t.bytes (Pointer x) })
      → IsIntoSpace p space x → Follows p place e n w pc v (go (Pointer x) s))
      → Follows p place e n w pc v (next (held_as p (pointer space const to) t temps s) go)
  from_pointer space const to t temps s go n w pc v f =
      subst (λ o. Follows p place e n w pc v o) (sym (next_next (held t temps s) _ go))
      (from_held p place e t temps s (λ content s1. next (given (value_of_type p (pointer space const to) content)
      s1) go) n w pc v (λ h q r. by_content h q r h.content refl))
    where
      by_content : (h : Held) → temps t.at ≡ Some h → h.bytes ≡ t.bytes → (c : Content) → h.content ≡ c
          → Follows p place e n w pc v (next (given (value_of_type p (pointer space const to) c) s) go)
      by_content h q r (bits zero) i = f None (q ∙ ap Some (held_is p place e h t.bytes (bits 0) r i)) tt
      by_content h q r (bits (suc low)) i = tt
      by_content h q r (points x) i = by_space (is_in_space p space x) refl
        where
          by_space : (b : Bool) → is_in_space p space x ≡ b
              → Follows p place e n w pc v (next (given (if b then Ok (Pointer (Some x)) else unsuited) s) go)
          by_space true k = f (Some x) (q ∙ ap Some (held_is p place e h t.bytes (points x) r i)) k
          by_space false k = tt

module _ (p : PlainProgram) (e : Env) (slots : ℕ) (home : Temp → Location) (base : Temp → ℕ) (place : ℕ → ℕ)
    (y : Setting p e slots home base place) where
  abbrev Shown : Need → Mach → View → Type 0
  Shown need m v = Matches p e y.inputs slots base place y.aside y.stands y.active y.called need m v

  -- the objects have places
  pub have : HavePlaces p place
  have = objects_have_places p e place y.objects_stand y.tables_stand y.valid

  pub have_core : have.core ≡ e.core
  unfolding have
  have_core = places_core p e place y.objects_stand y.tables_stand y.valid

  -- those that are live at one moment stand apart
  pub are_apart : (s : State) → FramesStand p y.active y.called s.objects → AreApartIn p place s
  are_apart s frames o k d f x z od kf ox kz dx fz banks other = by_home (bank_of d.home) refl
    where
      by_home : (b : Bank) → bank_of d.home ≡ b → Apart (place o) (size_of_type p.structs d.ty) (place k) (size_of_type p.structs f.ty)
      by_home FlashBank q = y.tables_stand.apart o k d f od q kf (sym banks ∙ q) other
      by_home DataBank q =
          y.objects_apart o k d f od q kf (sym banks ∙ q) other
          (together p e slots home base place y frames.functions d.storage f.storage frames.are_frames (frames.live o d x od ox dx)
          (frames.live k f z kf kz fz))

  -- the low bytes of a pointer that a temporary holds
  pub pointer_low : (need : Need) (m : Mach) (v : View) (a : Temp) (x : PointerValue) (n : ℕ) → Shown need m v → HasHome slots a
      → m.temps a.at ≡ Some (record { bytes = a.bytes; content = content_of a.bytes (Pointer x) }) → n ≤ wanted need a
      → (value v.at (base a) n ≡ number_of (place_of p place a.bytes x) % 256 ^ n) × IsAddressed p a.bytes x
  pointer_low need m v a None n h ia q l = ((at_width p e slots home base place y need m v a _ n h ia q refl l).0, tt)
  pointer_low need m v a (Some x) n h ia q l =
      let g = at_width p e slots home base place y need m v a _ n h ia q refl l in
      (g.0 ∙ ap (λ k. k % 256 ^ n) (address_is p place have a.bytes x g.1), g.1)

  -- a pointer as the content of a temporary
  pub holds_pointer : (f : ℕ → ℕ) (a n bytes : ℕ) (x : PointerValue) → IsAddressed p bytes x
      → value f a n ≡ number_of (place_of p place bytes x) % 256 ^ n
      → HoldsContent p place f a n bytes (content_of bytes (Pointer x))
  holds_pointer f a n bytes None i q = (q, pow_pos bytes)
  holds_pointer f a n bytes (Some x) i q = (q ∙ ap (λ k. k % 256 ^ n) (sym (address_is p place have bytes x i)), i)

  -- ---- pointers that are moved

  -- a pointer that has been moved in its object stands at the place of a result
  moved_written : (t a : Temp) (c : ℕ) (q : ObjectPointer) (bytes : ℤ) (z : PointerValue) (need need0 : Need) (m : Mach) (v w : View)
      → HasHome slots t → t.bytes ≡ a.bytes → IsPointerIn p a.bytes q → (moves : IsMoved p q bytes z)
      → ((u : ℕ) → u ≢ t.at → need u ≤ need0 u) → Shown need0 m v
      → value w.at (base t) a.bytes ≡ number_of (place_of p place a.bytes (Some moves.to)) → HoldsNumbers w
      → Wide v w (base t) t.bytes → w.inputs ≡ v.inputs → w.safe ≡ v.safe → w.seen ≡ v.seen
      → Shown need (machine (with_content t (content_of t.bytes (Pointer z)) m.temps) (worked c m.state)) w
  moved_written t a c q bytes z need need0 m v w it same i moves more h number numbers frame inputs safe seen =
      subst (λ (x : PointerValue). Shown need (machine (with_content t (content_of t.bytes (Pointer x)) m.temps)
      (worked c m.state)) w) (sym moves.is)
      (written_wide p e slots home base place y t (points moves.to) need need0 m (worked c m.state) v w it h more
      frame held numbers refl (seen ∙ h.seen) (kept_left y.inputs m.state v w inputs h.left) (safe ∙ h.safe))
    where
      new_number : value w.at (base t) t.bytes ≡ number_of (place_of p place t.bytes (Some moves.to))
      new_number = subst (λ (n : ℕ). value w.at (base t) n ≡ number_of (place_of p place n (Some moves.to))) (sym same) number

      target : IsPointerIn p t.bytes moves.to
      target = subst (λ (n : ℕ). IsPointerIn p n moves.to) (sym same) (moved_pointer p a.bytes q bytes z i moves)

      held : HoldsContent p place w.at (base t) (wanted need t) t.bytes (points moves.to)
      held = holds_pointer w.at (base t) (wanted need t) t.bytes (Some moves.to) target
          (less_value w.at (base t) t.bytes (wanted need t) (number_of (place_of p place t.bytes (Some moves.to)))
          (wanted_most need t) (held_row w (base t) t.bytes (y.layout.temps_at t it).clear numbers)
          (new_number ∙ sym (kept_below (number_of (place_of p place t.bytes (Some moves.to))) (256 ^ t.bytes)
          (number_below p place have t.bytes (Some moves.to) target.size target))))

  -- a pointer without a whole address is moved by its low two bytes, and a third one stays
  near_number : (core : Core) → core ≡ e.core → (minus : Bool) (b bytes size taken : ℕ) (k : ℤ) (q : ObjectPointer) (z : PointerValue)
      (v w : View) → is_far core bytes ≡ false → 2 ≤ b → IsPointerIn p bytes q → IsIndex k taken
      → (moves : IsMoved p q (moved_elements minus k *ℤ pos size) z) → HoldsNumbers v
      → value v.at b bytes ≡ number_of (place_of p place bytes (Some q))
      → value w.at b 2 ≡ moved_by minus (value v.at b 2) (taken * (size % 65536) % 65536)
      → (bytes ≡ 3 → w.at (b + 2) ≡ v.at (b + 2)) → value w.at b bytes ≡ number_of (place_of p place bytes (Some moves.to))
  near_number core one_core minus b bytes size taken k q z v w is_near some i ix moves numbers before behind third_kept =
      ⊎_elim without_tag with_tag i.size
    where
      to_number : ℕ
      to_number = number_of (place_of p place bytes (Some moves.to))

      two : 2 ≤ bytes
      two = ⊎_elim (λ (r : bytes ≡ 2). omega arith) (λ (r : bytes ≡ 3). omega arith) i.size

      object : place moves.to.object ≡ place q.object
      object = ap place moves.object

      place_from : ℕ
      place_from = place q.object + q.offset

      small_from : place_from < 65536
      small_from = low_address p place have core bytes q (one_core ∙ sym have_core) i is_near

      small_to : place q.object + moves.to.offset < 65536
      small_to = subst (λ (n : ℕ). n + moves.to.offset < 65536) object
          (low_address p place have core bytes moves.to (one_core ∙ sym have_core)
          (moved_pointer p bytes q (moved_elements minus k *ℤ pos size) z i moves) is_near)

      -- the address before, and the address behind
      address_before : value v.at b 2 ≡ place_from
      address_before =
          less_value v.at b bytes 2 (number_of (place_of p place bytes (Some q))) two (held_row v b bytes some numbers)
          (before ∙ sym (kept_below (number_of (place_of p place bytes (Some q))) (256 ^ bytes)
          (number_below p place have bytes (Some q) i.size i)))
          ∙ low_is_offset p place have bytes q small_from

      address_behind : value w.at b 2 ≡ place q.object + moves.to.offset
      address_behind =
          behind ∙ ap (λ (n : ℕ). moved_by minus n (taken * (size % 65536) % 65536)) address_before
          ∙ advanced_is minus k taken (place q.object) q.offset moves.to.offset size ix moves.offset small_from small_to

      without_tag : bytes ≡ 2 → value w.at b bytes ≡ to_number
      without_tag r =
          subst (λ (n : ℕ). value w.at b n ≡ number_of (place_of p place n (Some moves.to))) (sym r)
          (address_behind ∙ ap (λ (o : ℕ). o + moves.to.offset) (sym object) ∙ omega arith)

      third : (x y z w a b t : ℕ) → x ≡ b → y ≡ w → z ≡ a → z + w * 65536 ≡ a + t * 65536 → x + y * 65536 ≡ b + t * 65536
      third x y z w a b t p q r s = omega (arith, p, q, r, s)

      with_tag : bytes ≡ 3 → value w.at b bytes ≡ to_number
      with_tag r =
          let full : value v.at b 3 ≡ number_of (place_of p place 3 (Some q)) =
          subst (λ (n : ℕ). value v.at b n ≡ number_of (place_of p place n (Some q))) r before in
          let tag3 : tag_byte 3 (home_of p moves.to.object) ≡ tag_byte 3 (home_of p q.object) =
          ap (λ (o : ℕ). tag_byte 3 (home_of p o)) moves.object in
          subst (λ (n : ℕ). value w.at b n ≡ number_of (place_of p place n (Some moves.to))) (sym r)
          (third (value w.at b 2) (w.at (b + 2)) (value v.at b 2) (v.at (b + 2))
          place_from (place q.object + moves.to.offset) (tag_byte 3 (home_of p q.object))
          address_behind (third_kept r) address_before full ∙ (rw (object, tag3) refl))

  -- a pointer of so many bytes that has been moved. All else is kept but R0, R1, R8 to R11 and the flags
  record IsAdvanced (v : View) (b n number : ℕ) (w : View) : Type 0 where
    number_is : value w.at b n ≡ number
    numbers : HoldsNumbers w
    same : (k : ℕ) → k ≢ 0 → k ≢ 1 → Outside 8 4 k → Outside b n k → w.at k ≡ v.at k
    inputs : w.inputs ≡ v.inputs
    safe : w.safe ≡ v.safe
    seen : w.seen ≡ v.seen

  -- the code moves a pointer by so many elements
  pub offset_matches : (core : Core) → core ≡ e.core → (minus signed : Bool) (t a : Temp) (l : Location) (from bytes size c low : ℕ) (k : ℤ)
      (q : ObjectPointer) (z : PointerValue) (need need0 : Need) (m : Mach) (v : View) → HasHome slots t → HasHome slots a
      → StandsFrom e l bytes from Own → MayBeInZ l from bytes → 1 ≤ bytes → t.bytes ≡ a.bytes
      → IsPointerIn p a.bytes q → value v.at (base a) a.bytes ≡ number_of (place_of p place a.bytes (Some q))
      → value v.at from bytes ≡ low → IsIndex k (index_of signed bytes low)
      → IsMoved p q (moved_elements minus k *ℤ pos size) z → ((u : ℕ) → u ≢ t.at → need u ≤ need0 u) → Shown need0 m v
      → Shown need (machine (with_content t (content_of t.bytes (Pointer z)) m.temps) (worked c m.state))
      (block e (scale_index_code l signed bytes (size % 65536)
      ++ (move_code (home a) (home t) a.bytes ++ moved_code core a.bytes minus (home t))) v)
  offset_matches core one_core minus signed t a l from bytes size c low k q z need need0 m v it ia il free some same i number index ix
      moves more h =
      subst (λ (x : View). Shown need (machine (with_content t (content_of t.bytes (Pointer z)) m.temps) (worked c m.state)) x)
      (sym whole_block)
      (moved_written t a c q (moved_elements minus k *ℤ pos size) z need need0 m v v3 it same i moves more h ad.number_is ad.numbers frame
      (ad.inputs ∙ mv.inputs ∙ sc.inputs) (ad.safe ∙ mv.safe ∙ sc.safe) (ad.seen ∙ mv.seen ∙ sc.seen))
    where
      scale : List AsmItem
      scale = scale_index_code l signed bytes (size % 65536)

      move : List AsmItem
      move = move_code (home a) (home t) a.bytes

      advance : List AsmItem
      advance = moved_code core a.bytes minus (home t)

      v1 : View
      v1 = block e scale v

      v2 : View
      v2 = block e move v1

      v3 : View
      v3 = block e advance v2

      whole_block : block e (scale ++ (move ++ advance)) v ≡ v3
      whole_block = block-append e scale (move ++ advance) v ∙ block-append e move advance v1

      two : 2 ≤ a.bytes
      two = ⊎_elim (λ (r : a.bytes ≡ 2). omega arith) (λ (r : a.bytes ≡ 3). omega arith) i.size

      clear_a : IsClear (base a) a.bytes
      clear_a = y.layout.temps_work a ia

      clear_t : IsClear (base t) t.bytes
      clear_t = y.layout.temps_work t it

      some_a : 2 ≤ base a
      some_a = (y.layout.temps_at a ia).clear

      some_t : 2 ≤ base t
      some_t = (y.layout.temps_at t it).clear

      to_stands : StandsFrom e (home t) a.bytes (base t) Own
      to_stands = subst (λ (n : ℕ). StandsFrom e (home t) n (base t) Own) same (y.layout.temps_at t it)

      sc : Scales v (index_of signed bytes (value v.at from bytes) * (size % 65536) % 65536) v1
      sc = y.pointers.scaled e l signed bytes (size % 65536) from v il free some (mod_below size 65536 (omega arith)) h.bytes

      mv : Brought v1 (base a) (base t) a.bytes v2
      mv = move_brings e (home a) (home t) a.bytes (base a) (base t) v1 (y.layout.temps_at a ia) to_stands
          (read_first p e slots home base place y t a a.bytes it ia (omega arith)) sc.numbers

      -- the pointer is there until it is brought to its place
      pointer_kept : (j : ℕ) → j < a.bytes → v1.at (base a + j) ≡ v.at (base a + j)
      pointer_kept j l =
          let w = off_work (base a) a.bytes j clear_a l in
          sc.same (base a + j) (omega (arith, some_a)) (omega (arith, some_a)) (λ u. let z = w.0 u in omega arith)
          (λ u. let z = w.1 (omega arith) in omega arith)

      brought : (j : ℕ) → j < a.bytes → v2.at (base t + j) ≡ v.at (base a + j)
      brought j l = mv.there j l ∙ pointer_kept j l

      -- R30 and R31 are kept meanwhile
      off_target : (k : ℕ) → 30 ≤ k → k < 32 → Outside (base t) a.bytes k
      off_target k u w = subst (λ (n : ℕ). Outside (base t) n k) same (off k u w)
        where
          off : (k : ℕ) → 30 ≤ k → k < 32 → Outside (base t) t.bytes k
          off k u w o = ⊎_elim (λ (x : base t < 26). let z = clear_t.high.left x in omega arith)
              (λ (x : 26 ≤ base t). let z = clear_t.high.right x in absurd (omega arith)) (cases_lt (base t) 26)

      z_kept : (j : ℕ) → j < 2 → v2.at (30 + j) ≡ v1.at (30 + j)
      z_kept j l = mv.same (30 + j) (omega arith) (off_target (30 + j) (omega arith) (omega arith))

      frame2 : Frame v1 v2 (base t) a.bytes
      frame2 k x z w o = mv.same k x o

      numbers2 : HoldsNumbers v2
      numbers2 = numbers_kept v1 v2 (base t) a.bytes sc.numbers frame2
          (λ j l. subst (λ (n : ℕ). n < 256) (sym (brought j l)) (held_row v (base a) a.bytes some_a h.bytes j l))
          (subst (λ (n : ℕ). n < 256) (sym (z_kept 0 (omega arith))) (sc.numbers 30 (omega arith)))

      index_there : value v2.at 30 2 ≡ index_of signed bytes low * (size % 65536) % 65536
      index_there =
          row_value v2.at v1.at 30 30 2 z_kept ∙ sc.number_is ∙ ap (λ (n : ℕ). index_of signed bytes n * (size % 65536) % 65536) index

      -- the pointer before, at its new place
      number_before : value v2.at (base t) a.bytes ≡ number_of (place_of p place a.bytes (Some q))
      number_before = row_value v2.at v.at (base a) (base t) a.bytes brought ∙ number

      -- the pointer that it becomes
      moved_in : IsPointerIn p a.bytes moves.to
      moved_in = moved_pointer p a.bytes q (moved_elements minus k *ℤ pos size) z i moves

      to_number : ℕ
      to_number = number_of (place_of p place a.bytes (Some moves.to))

      object : place moves.to.object ≡ place q.object
      object = ap place moves.object

      tag : tag_byte a.bytes (home_of p moves.to.object) ≡ tag_byte a.bytes (home_of p q.object)
      tag = ap (λ (o : ℕ). tag_byte a.bytes (home_of p o)) moves.object

      -- by its low two bytes
      near : is_far core a.bytes ≡ false → IsAdvanced v2 (base t) a.bytes to_number (block e (advance_code minus (home t)) v2)
      near is_near =
          record {
            number_is = near_number core one_core minus (base t) a.bytes size (index_of signed bytes low) k q z v2 w is_near some_t i ix
                moves numbers2 number_before (advances.number_is ∙ ap (moved_by minus (value v2.at (base t) 2)) index_there)
                (λ r. keeps.same (base t + 2) (omega (arith, some_t)) (omega (arith, some_t)) (λ o. omega arith));
            numbers = advances.numbers;
            same = λ k r0 r1 low_off o. keeps.same k r0 r1 (narrower (base t) a.bytes 2 k two o);
            inputs = keeps.inputs;
            safe = keeps.safe;
            seen = keeps.seen;
          }
        where
          w : View
          w = block e (advance_code minus (home t)) v2

          advances : Advances v2 (base t) (moved_by minus (value v2.at (base t) 2) (value v2.at 30 2)) w
          advances = y.pointers.advanced minus e (home t) (base t) v2 (stands_less e (home t) a.bytes 2 (base t) Own two to_stands)
              (leaves_z (base t) t.bytes 2 (omega (arith, two, same)) clear_t) numbers2

          keeps : Keeps v2 w (base t) 2
          keeps = advances.keeps

      -- by all three
      far : is_far core a.bytes ≡ true → IsAdvanced v2 (base t) a.bytes to_number (block e (advance_far_code minus (home t)) v2)
      far is_so =
          let three = three_bytes core a.bytes is_so in
          let limit : (n : ℕ) → n ≡ 3 → IsAdvanced v2 (base t) 3 (number_of (place_of p place n (Some moves.to))) w
          → IsAdvanced v2 (base t) n (number_of (place_of p place n (Some moves.to))) w =
          λ n r. subst (λ (j : ℕ). IsAdvanced v2 (base t) j (number_of (place_of p place n (Some moves.to))) w) (sym r) in
          limit a.bytes three (advanced three)
        where
          w : View
          w = block e (advance_far_code minus (home t)) v2

          three_bytes : (core : Core) (bytes : ℕ) → is_far core bytes ≡ true → bytes ≡ 3
          three_bytes Small bytes h = absurd cc
          three_bytes Large bytes h = eqb-true bytes 3 h

          start : ℕ
          start = place q.object + tag_byte a.bytes (home_of p q.object) * 65536

          work : a.bytes ≡ 3 → LeavesWork (base t) 3
          work three j l u =
              let inside : j < t.bytes = omega (arith, l, same, three) in
              let g = (off_work (base t) t.bytes j clear_t inside).0 u in
              omega (arith, g)

          advanced : a.bytes ≡ 3 → IsAdvanced v2 (base t) 3 to_number w
          advanced three =
              let stands : StandsFrom e (home t) 3 (base t) Own = subst (λ (n : ℕ). StandsFrom e (home t) n (base t) Own) three to_stands in
              let fa = y.pointers.far.advanced minus e (home t) (base t) v2 stands
              (leaves_z (base t) t.bytes 3 (omega (arith, same, three)) clear_t) (work three) numbers2 in
              let full : value v2.at (base t) 3 ≡ start + q.offset =
              subst (λ (n : ℕ). value v2.at (base t) n ≡ number_of (place_of p place a.bytes (Some q))) three number_before ∙ omega arith in
              let limit = subst (λ (n : ℕ). to_number < 256 ^ n) three
              (number_below p place have a.bytes (Some moves.to) i.size moved_in) in
              let is_to : start + moves.to.offset ≡ to_number = (rw (object, tag) (omega arith)) in
              let small : start + moves.to.offset < 16777216 = omega (arith, limit, is_to) in
              let behind : far_moved_by minus (start + q.offset) (index_of signed bytes low * (size % 65536) % 65536)
              ≡ start + moves.to.offset =
              far_advanced_is minus k (index_of signed bytes low) start q.offset moves.to.offset size ix moves.offset
              (offset_small p place have q i.pointed) (offset_small p place have moves.to moves.pointed) small in
              record {
                number_is = fa.number_is ∙ ap (λ (n : ℕ). far_moved_by minus n (value v2.at 30 2)) full
                    ∙ ap (far_moved_by minus (start + q.offset)) index_there ∙ behind ∙ is_to;
                numbers = fa.numbers;
                same = fa.same;
                inputs = fa.inputs;
                safe = fa.safe;
                seen = fa.seen;
              }

      ad : IsAdvanced v2 (base t) a.bytes to_number v3
      ad = by_core (is_far core a.bytes) refl
        where
          by_core : (b : Bool) → is_far core a.bytes ≡ b
              → IsAdvanced v2 (base t) a.bytes to_number
              (block e (if b then advance_far_code minus (home t) else advance_code minus (home t)) v2)
          by_core true q = far q
          by_core false q = near q

      frame : Wide v v3 (base t) t.bytes
      frame k r0 r1 low_off high_off o =
          ad.same k r0 r1 (λ u. let z = low_off u in omega arith) (subst (λ (n : ℕ). Outside (base t) n k) same o)
          ∙ mv.same k r0 (subst (λ (n : ℕ). Outside (base t) n k) same o)
          ∙ sc.same k r0 r1 (λ u. let z = low_off u in omega arith) (λ u. let z = high_off (omega arith) in omega arith)

  -- R26 is of no such bytes
  off_pair : (b n : ℕ) → IsClear b n → Outside b n 26
  off_pair b n clear o = ⊎_elim (λ (x : b < 26). let z = clear.high.left x in omega arith)
      (λ (x : 26 ≤ b). let z = clear.high.right x in absurd (omega arith)) (cases_lt b 26)

  -- an index that can be added to a temporary has not R26, and is none of the temporary's bytes
  pub record IsAside (t : Temp) (from bytes : ℕ) : Type 0 where
    pub off : Outside from bytes 26
    pub apart : (j : ℕ) → j < bytes → Outside (base t) t.bytes (from + j)

  pub temp_aside : (signed : Bool) (t b : Temp) (size : ℕ) → HasHome slots t → HasHome slots b
      → can_add signed (home b) (home t) b.bytes size ≡ true → IsAside t (base b) b.bytes
  temp_aside signed t b size it ib can = record { off = off_pair (base b) b.bytes (y.layout.temps_work b ib); apart = outside }
    where
      -- the index is none of the result's bytes
      apart : Apart (base t) t.bytes (base b) b.bytes
      apart = ⊎_elim
          (λ (r : t.at ≡ b.at). ⊎_elim
          (λ (x : base t ≡ base b). absurd (other_register (home b) (home t) (y.layout.temps_at b ib) (y.layout.temps_at t it) x can))
          (λ (x : Apart (base t) t.bytes (base b) b.bytes). x) (y.layout.temps_again t b it ib r))
          (λ (r : t.at ≢ b.at). y.layout.temps_apart t b it ib r)
          (cases_eq t.at b.at)
        where
          other_register : (p q : Location) → StandsFrom e p b.bytes (base b) Own → StandsFrom e q t.bytes (base t) Own → base t ≡ base b
              → can_add signed p q b.bytes size ≡ true → ⊥
          other_register (InRegisters r) (InRegisters d) sp sq x can =
              let z = sp.at 0 ib.some in
              let w = sq.at 0 it.some in
              let equal : r ≡ d = omega (arith, x, z, w) in
              false≢true (ap not (sym (eq-eqb r d equal)) ∙ (and_parts (not (r == d)) (is_addend signed b.bytes size) can).0)
          other_register (InRegisters r) (InMemory o k) sp sq x can = absurd cc
          other_register (InMemory o k) (InRegisters d) sp sq x can = absurd cc
          other_register (InMemory o k) (InMemory u j) sp sq x can = absurd cc

      outside : (j : ℕ) → j < b.bytes → Outside (base t) t.bytes (base b + j)
      outside j l o = ⊎_elim (λ (x : base t < base b). let z = apart.left x in omega arith)
          (λ (x : base b ≤ base t). let z = apart.right x in absurd (omega arith)) (cases_lt (base t) (base b))

  -- one in R30 and R31 is such an index
  pub z_aside : (t : Temp) (bytes : ℕ) → HasHome slots t → bytes ≤ 2 → IsAside t 30 bytes
  z_aside t bytes it few = record { off = λ o. omega arith; apart = outside }
    where
      clear : IsClear (base t) t.bytes
      clear = y.layout.temps_work t it

      outside : (j : ℕ) → j < bytes → Outside (base t) t.bytes (30 + j)
      outside j l o = ⊎_elim (λ (x : base t < 26). let z = clear.high.left x in omega arith)
          (λ (x : 26 ≤ base t). let z = clear.high.right x in absurd (omega (arith, few))) (cases_lt (base t) 26)

  -- the code moves a pointer by an index as it stands
  pub indexed_matches : (core : Core) → core ≡ e.core → (minus signed : Bool) (t a : Temp) (l : Location) (from bytes size c low : ℕ)
      (k : ℤ) (q : ObjectPointer) (z : PointerValue) (need need0 : Need) (m : Mach) (v : View) → HasHome slots t → HasHome slots a
      → StandsFrom e l bytes from Own → IsAside t from bytes → 1 ≤ bytes → t.bytes ≡ a.bytes
      → takes_index core signed l (home t) a.bytes bytes (size % 65536) ≡ true
      → IsPointerIn p a.bytes q → value v.at (base a) a.bytes ≡ number_of (place_of p place a.bytes (Some q))
      → value v.at from bytes ≡ low → IsIndex k (index_of signed bytes low)
      → IsMoved p q (moved_elements minus k *ℤ pos size) z → ((u : ℕ) → u ≢ t.at → need u ≤ need0 u) → Shown need0 m v
      → Shown need (machine (with_content t (content_of t.bytes (Pointer z)) m.temps) (worked c m.state))
      (block e (indexed_code minus (home a) l (home t) a.bytes bytes (size % 65536)) v)
  indexed_matches core one_core minus signed t a l from bytes size c low k q z need need0 m v it ia il aside some same takes i
      number index ix moves more h =
      subst (λ (x : View). Shown need (machine (with_content t (content_of t.bytes (Pointer z)) m.temps) (worked c m.state)) x)
      (sym (block-append e move add v))
      (moved_written t a c q (moved_elements minus k *ℤ pos size) z need need0 m v v2 it same i moves more h behind ad.numbers frame
      (ad.inputs ∙ mv.inputs) (ad.safe ∙ mv.safe) (ad.seen ∙ mv.seen))
    where
      move : List AsmItem
      move = move_code (home a) (home t) a.bytes

      add : List AsmItem
      add = add_index_code minus l (home t) bytes (size % 65536)

      v1 : View
      v1 = block e move v

      v2 : View
      v2 = block e add v1

      parts : (not (is_far core a.bytes) ≡ true) × (can_add signed l (home t) bytes (size % 65536) ≡ true)
      parts = and_parts (not (is_far core a.bytes)) (can_add signed l (home t) bytes (size % 65536)) takes

      is_near : is_far core a.bytes ≡ false
      is_near = not_true (is_far core a.bytes) parts.0
        where
          not_true : (x : Bool) → not x ≡ true → x ≡ false
          not_true true h = absurd cc
          not_true false h = refl

      two : 2 ≤ a.bytes
      two = ⊎_elim (λ (r : a.bytes ≡ 2). omega arith) (λ (r : a.bytes ≡ 3). omega arith) i.size

      clear_t : IsClear (base t) t.bytes
      clear_t = y.layout.temps_work t it

      some_a : 2 ≤ base a
      some_a = (y.layout.temps_at a ia).clear

      some_b : 2 ≤ from
      some_b = il.clear

      some_t : 2 ≤ base t
      some_t = (y.layout.temps_at t it).clear

      to_stands : StandsFrom e (home t) a.bytes (base t) Own
      to_stands = subst (λ (n : ℕ). StandsFrom e (home t) n (base t) Own) same (y.layout.temps_at t it)

      mv : Brought v (base a) (base t) a.bytes v1
      mv = move_brings e (home a) (home t) a.bytes (base a) (base t) v (y.layout.temps_at a ia) to_stands
          (read_first p e slots home base place y t a a.bytes it ia (omega arith)) h.bytes

      index_kept : (j : ℕ) → j < bytes → v1.at (from + j) ≡ v.at (from + j)
      index_kept j l =
          mv.same (from + j) (omega (arith, some_b)) (subst (λ (n : ℕ). Outside (base t) n (from + j)) same (aside.apart j l))

      numbers1 : HoldsNumbers v1
      numbers1 = numbers_kept v v1 (base t) a.bytes h.bytes (λ k x z w o. mv.same k x o)
          (λ j l. subst (λ (n : ℕ). n < 256) (sym (mv.there j l)) (held_row v (base a) a.bytes some_a h.bytes j l))
          (subst (λ (n : ℕ). n < 256) (sym (z_kept 30 (omega arith) (omega arith))) (h.bytes 30 (omega arith)))
        where
          z_kept : (k : ℕ) → 30 ≤ k → k < 32 → v1.at k ≡ v.at k
          z_kept k l u =
              let z = leaves_z (base t) t.bytes t.bytes (omega arith) clear_t in
              mv.same k (omega arith) (subst (λ (n : ℕ). Outside (base t) n k) same (off k l u))
            where
              off : (k : ℕ) → 30 ≤ k → k < 32 → Outside (base t) t.bytes k
              off k l u o = ⊎_elim (λ (x : base t < 26). let z = clear_t.high.left x in omega arith)
                  (λ (x : 26 ≤ base t). let z = clear_t.high.right x in absurd (omega arith)) (cases_lt (base t) 26)

      ad : Adds v1 (base t) (moved_by minus (value v1.at (base t) 2)
          (index_of signed bytes (value v1.at from bytes) * (size % 65536) % 65536)) v2
      ad = y.pointers.added minus signed e l (home t) bytes (size % 65536) from (base t) v1 il
          (stands_less e (home t) a.bytes 2 (base t) Own two to_stands) some aside.off
          (narrower (base t) t.bytes 2 26 (omega (arith, two, same)) (off_pair (base t) t.bytes clear_t))
          (λ j l. narrower (base t) t.bytes 2 (from + j) (omega (arith, two, same)) (aside.apart j l)) parts.1 numbers1

      number_before : value v1.at (base t) a.bytes ≡ number_of (place_of p place a.bytes (Some q))
      number_before = row_value v1.at v.at (base a) (base t) a.bytes mv.there ∙ number

      index_there : value v1.at from bytes ≡ low
      index_there = row_value v1.at v.at from from bytes index_kept ∙ index

      behind : value v2.at (base t) a.bytes ≡ number_of (place_of p place a.bytes (Some moves.to))
      behind = near_number core one_core minus (base t) a.bytes size (index_of signed bytes low) k q z v1 v2 is_near some_t i ix moves
          numbers1 number_before
          (ad.number_is
          ∙ ap (λ (n : ℕ). moved_by minus (value v1.at (base t) 2) (index_of signed bytes n * (size % 65536) % 65536)) index_there)
          (λ r. ad.same (base t + 2) (omega (arith, some_t)) (omega (arith, some_t)) (third_off r) (λ o. omega arith))
        where
          third_off : a.bytes ≡ 3 → base t + 2 ≢ 26
          third_off r x = let o = off_pair (base t) t.bytes clear_t in let z = o (omega (arith, x)) in omega (arith, z, r, same, x)

      frame : Wide v v2 (base t) t.bytes
      frame k r0 r1 low_off high_off o =
          ad.same k r0 r1 (λ (x : k ≡ 26). let z = high_off (omega (arith, x)) in omega (arith, z, x))
          (narrower (base t) t.bytes 2 k (omega (arith, two, same)) o)
          ∙ mv.same k r0 (subst (λ (n : ℕ). Outside (base t) n k) same o)

  -- ---- the two bytes of an address

  -- a pointer of which no more bytes are needed holds them
  holds_low : (f : ℕ → ℕ) (a n bytes : ℕ) (q : ObjectPointer) → n ≤ 2 → IsPointerIn p bytes q → AreHeld f a 2
      → value f a 2 ≡ (place q.object + q.offset) % 65536 → HoldsContent p place f a n bytes (points q)
  holds_low f a n bytes q l i held is =
      holds_pointer f a n bytes (Some q) i
      (less_value f a 2 n (number_of (place_of p place bytes (Some q))) l held (is ∙ omega arith))

  -- the code moves them by so many elements
  pub low_offset_matches : (core : Core) (minus signed : Bool) (t a : Temp) (l : Location) (from bytes size c low : ℕ) (k : ℤ)
      (q : ObjectPointer) (z : PointerValue) (need need0 : Need) (m : Mach) (v : View) → HasHome slots t → HasHome slots a
      → StandsFrom e l bytes from Own → MayBeInZ l from bytes → 1 ≤ bytes → t.bytes ≡ a.bytes
      → IsPointerIn p a.bytes q → wanted need t ≤ 2
      → value v.at (base a) 2 ≡ number_of (place_of p place a.bytes (Some q)) % 256 ^ 2
      → value v.at from bytes ≡ low → IsIndex k (index_of signed bytes low)
      → IsMoved p q (moved_elements minus k *ℤ pos size) z → ((u : ℕ) → u ≢ t.at → need u ≤ need0 u) → Shown need0 m v
      → Shown need (machine (with_content t (content_of t.bytes (Pointer z)) m.temps) (worked c m.state))
      (block e (scale_index_code l signed bytes (size % 65536)
      ++ (move_code (home a) (home t) 2 ++ moved_code core 2 minus (home t))) v)
  low_offset_matches core minus signed t a l from bytes size c low k q z need need0 m v it ia il free some same i few number index ix
      moves more h =
      subst (λ (x : PointerValue). Shown need (machine (with_content t (content_of t.bytes (Pointer x)) m.temps)
      (worked c m.state)) (block e (scale ++ (move ++ moved_code core 2 minus (home t))) v)) (sym moves.is)
      (subst (λ (x : View). Shown need (machine (with_content t (points moves.to) m.temps) (worked c m.state)) x) (sym whole_block)
      (written_wide p e slots home base place y t (points moves.to) need need0 m (worked c m.state) v v3 it h more
      frame held ad.numbers refl
      (ad.keeps.seen ∙ mv.seen ∙ sc.seen ∙ h.seen) (kept_left y.inputs m.state v v3 (ad.keeps.inputs ∙ mv.inputs ∙ sc.inputs)
      h.left) (ad.keeps.safe ∙ mv.safe ∙ sc.safe ∙ h.safe)))
    where
      scale : List AsmItem
      scale = scale_index_code l signed bytes (size % 65536)

      move : List AsmItem
      move = move_code (home a) (home t) 2

      advance : List AsmItem
      advance = advance_code minus (home t)

      v1 : View
      v1 = block e scale v

      v2 : View
      v2 = block e move v1

      v3 : View
      v3 = block e advance v2

      advance_is : moved_code core 2 minus (home t) ≡ advance
      advance_is = ap (λ (x : Bool). if x then advance_far_code minus (home t) else advance) (two_near core)

      whole_block : block e (scale ++ (move ++ moved_code core 2 minus (home t))) v ≡ v3
      whole_block =
          ap (λ code. block e (scale ++ (move ++ code)) v) advance_is ∙ block-append e scale (move ++ advance) v
          ∙ block-append e move advance v1

      two : 2 ≤ a.bytes
      two = ⊎_elim (λ (r : a.bytes ≡ 2). omega arith) (λ (r : a.bytes ≡ 3). omega arith) i.size

      two_t : 2 ≤ t.bytes
      two_t = omega (arith, two, same)

      clear_a : IsClear (base a) a.bytes
      clear_a = y.layout.temps_work a ia

      some_a : 2 ≤ base a
      some_a = (y.layout.temps_at a ia).clear

      some_t : 2 ≤ base t
      some_t = (y.layout.temps_at t it).clear

      from_stands : StandsFrom e (home a) 2 (base a) Own
      from_stands = stands_less e (home a) a.bytes 2 (base a) Own two (y.layout.temps_at a ia)

      to_stands : StandsFrom e (home t) 2 (base t) Own
      to_stands = stands_less e (home t) t.bytes 2 (base t) Own two_t (y.layout.temps_at t it)

      work : LeavesZ (base t) 2
      work = leaves_z (base t) t.bytes 2 two_t (y.layout.temps_work t it)

      sc : Scales v (index_of signed bytes (value v.at from bytes) * (size % 65536) % 65536) v1
      sc = y.pointers.scaled e l signed bytes (size % 65536) from v il free some (mod_below size 65536 (omega arith)) h.bytes

      mv : Brought v1 (base a) (base t) 2 v2
      mv = move_brings e (home a) (home t) 2 (base a) (base t) v1 from_stands to_stands
          (read_first p e slots home base place y t a 2 it ia two) sc.numbers

      -- the pointer is there until it is brought to its place
      brought : (j : ℕ) → j < 2 → v2.at (base t + j) ≡ v.at (base a + j)
      brought j l =
          let w = off_work (base a) a.bytes j clear_a (omega (arith, l, two)) in
          mv.there j l
          ∙ sc.same (base a + j) (omega (arith, some_a)) (omega (arith, some_a)) (λ u. let z = w.0 u in omega arith)
          (λ u. let z = w.1 (omega arith) in omega arith)

      -- R30 and R31 are kept meanwhile
      low_kept : v2.at (30 + 0) ≡ v1.at (30 + 0)
      low_kept = mv.same 30 (omega arith) work.low

      high_kept : v2.at (30 + 1) ≡ v1.at (30 + 1)
      high_kept = mv.same 31 (omega arith) work.high

      frame2 : Frame v1 v2 (base t) 2
      frame2 k x z w o = mv.same k x o

      numbers2 : HoldsNumbers v2
      numbers2 = numbers_kept v1 v2 (base t) 2 sc.numbers frame2
          (λ j l. subst (λ (n : ℕ). n < 256) (sym (brought j l)) (held_row v (base a) 2 some_a h.bytes j l))
          (subst (λ (n : ℕ). n < 256) (sym low_kept) (sc.numbers 30 (omega arith)))

      index_there : value v2.at 30 2 ≡ index_of signed bytes low * (size % 65536) % 65536
      index_there =
          (rw (low_kept, high_kept) refl) ∙ sc.number_is ∙ ap (λ (n : ℕ). index_of signed bytes n * (size % 65536) % 65536) index

      moved_in : IsPointerIn p a.bytes moves.to
      moved_in = moved_pointer p a.bytes q (moved_elements minus k *ℤ pos size) z i moves

      address_before : value v2.at (base t) 2 ≡ (place q.object + q.offset) % 65536
      address_before = row_value v2.at v.at (base a) (base t) 2 brought ∙ number ∙ omega arith

      ad : Advances v2 (base t) (moved_by minus (value v2.at (base t) 2) (value v2.at 30 2)) v3
      ad = y.pointers.advanced minus e (home t) (base t) v2 to_stands work numbers2

      address_behind : value v3.at (base t) 2 ≡ (place moves.to.object + moves.to.offset) % 65536
      address_behind =
          ad.number_is ∙ ap (λ (n : ℕ). moved_by minus n (value v2.at 30 2)) address_before
          ∙ ap (moved_by minus ((place q.object + q.offset) % 65536)) index_there
          ∙ advanced_low minus k (index_of signed bytes low) (place q.object) q.offset moves.to.offset size ix moves.offset
          ∙ ap (λ (o : ℕ). (place o + moves.to.offset) % 65536) (sym moves.object)

      target : IsPointerIn p t.bytes moves.to
      target = subst (λ (n : ℕ). IsPointerIn p n moves.to) (sym same) moved_in

      held : HoldsContent p place v3.at (base t) (wanted need t) t.bytes (points moves.to)
      held = holds_low v3.at (base t) (wanted need t) t.bytes moves.to few target (held_row v3 (base t) 2 some_t ad.numbers) address_behind

      frame : Wide v v3 (base t) t.bytes
      frame k r0 r1 low_off high_off o =
          ad.keeps.same k r0 r1 (narrower (base t) t.bytes 2 k two_t o)
          ∙ mv.same k r0 (narrower (base t) t.bytes 2 k two_t o)
          ∙ sc.same k r0 r1 (λ u. let z = low_off u in omega arith) (λ u. let z = high_off (omega arith) in omega arith)

  -- or by an index as it stands
  pub low_indexed_matches : (minus signed : Bool) (t a : Temp) (l : Location) (from bytes size c low : ℕ) (k : ℤ)
      (q : ObjectPointer) (z : PointerValue) (need need0 : Need) (m : Mach) (v : View) → HasHome slots t → HasHome slots a
      → StandsFrom e l bytes from Own → IsAside t from bytes → 1 ≤ bytes → t.bytes ≡ a.bytes
      → can_add signed l (home t) bytes (size % 65536) ≡ true
      → IsPointerIn p a.bytes q → wanted need t ≤ 2
      → value v.at (base a) 2 ≡ number_of (place_of p place a.bytes (Some q)) % 256 ^ 2
      → value v.at from bytes ≡ low → IsIndex k (index_of signed bytes low)
      → IsMoved p q (moved_elements minus k *ℤ pos size) z → ((u : ℕ) → u ≢ t.at → need u ≤ need0 u) → Shown need0 m v
      → Shown need (machine (with_content t (content_of t.bytes (Pointer z)) m.temps) (worked c m.state))
      (block e (indexed_code minus (home a) l (home t) 2 bytes (size % 65536)) v)
  low_indexed_matches minus signed t a l from bytes size c low k q z need need0 m v it ia il aside some same can i few number index ix moves
      more h =
      subst (λ (x : PointerValue). Shown need (machine (with_content t (content_of t.bytes (Pointer x)) m.temps)
      (worked c m.state)) (block e (move ++ add) v)) (sym moves.is)
      (subst (λ (x : View). Shown need (machine (with_content t (points moves.to) m.temps) (worked c m.state)) x)
      (sym (block-append e move add v))
      (written_wide p e slots home base place y t (points moves.to) need need0 m (worked c m.state) v v2 it h more
      frame held ad.numbers refl (ad.seen ∙ mv.seen ∙ h.seen) (kept_left y.inputs m.state v v2 (ad.inputs ∙ mv.inputs) h.left)
      (ad.safe ∙ mv.safe ∙ h.safe)))
    where
      move : List AsmItem
      move = move_code (home a) (home t) 2

      add : List AsmItem
      add = add_index_code minus l (home t) bytes (size % 65536)

      v1 : View
      v1 = block e move v

      v2 : View
      v2 = block e add v1

      two : 2 ≤ a.bytes
      two = ⊎_elim (λ (r : a.bytes ≡ 2). omega arith) (λ (r : a.bytes ≡ 3). omega arith) i.size

      two_t : 2 ≤ t.bytes
      two_t = omega (arith, two, same)

      some_a : 2 ≤ base a
      some_a = (y.layout.temps_at a ia).clear

      some_b : 2 ≤ from
      some_b = il.clear

      some_t : 2 ≤ base t
      some_t = (y.layout.temps_at t it).clear

      clear_t : IsClear (base t) t.bytes
      clear_t = y.layout.temps_work t it

      to_stands : StandsFrom e (home t) 2 (base t) Own
      to_stands = stands_less e (home t) t.bytes 2 (base t) Own two_t (y.layout.temps_at t it)

      off_target : Outside (base t) 2 30
      off_target = (leaves_z (base t) t.bytes 2 two_t clear_t).low

      apart : (j : ℕ) → j < bytes → Outside (base t) 2 (from + j)
      apart j u = narrower (base t) t.bytes 2 (from + j) two_t (aside.apart j u)

      mv : Brought v (base a) (base t) 2 v1
      mv = move_brings e (home a) (home t) 2 (base a) (base t) v
          (stands_less e (home a) a.bytes 2 (base a) Own two (y.layout.temps_at a ia))
          to_stands (read_first p e slots home base place y t a 2 it ia two) h.bytes

      index_kept : (j : ℕ) → j < bytes → v1.at (from + j) ≡ v.at (from + j)
      index_kept j u = mv.same (from + j) (omega (arith, some_b)) (apart j u)

      numbers1 : HoldsNumbers v1
      numbers1 = numbers_kept v v1 (base t) 2 h.bytes (λ j x z w o. mv.same j x o)
          (λ j u. subst (λ (n : ℕ). n < 256) (sym (mv.there j u)) (held_row v (base a) 2 some_a h.bytes j u))
          (subst (λ (n : ℕ). n < 256) (sym (mv.same 30 (omega arith) off_target)) (h.bytes 30 (omega arith)))

      ad : Adds v1 (base t) (moved_by minus (value v1.at (base t) 2)
          (index_of signed bytes (value v1.at from bytes) * (size % 65536) % 65536)) v2
      ad = y.pointers.added minus signed e l (home t) bytes (size % 65536) from (base t) v1 il to_stands some aside.off
          (narrower (base t) t.bytes 2 26 two_t (off_pair (base t) t.bytes clear_t)) apart can numbers1

      index_there : value v1.at from bytes ≡ low
      index_there = row_value v1.at v.at from from bytes index_kept ∙ index

      moved_in : IsPointerIn p a.bytes moves.to
      moved_in = moved_pointer p a.bytes q (moved_elements minus k *ℤ pos size) z i moves

      address_before : value v1.at (base t) 2 ≡ (place q.object + q.offset) % 65536
      address_before = row_value v1.at v.at (base a) (base t) 2 mv.there ∙ number ∙ omega arith

      address_behind : value v2.at (base t) 2 ≡ (place moves.to.object + moves.to.offset) % 65536
      address_behind =
          ad.number_is
          ∙ ap (λ (n : ℕ). moved_by minus (value v1.at (base t) 2) (index_of signed bytes n * (size % 65536) % 65536)) index_there
          ∙ ap (λ (n : ℕ). moved_by minus n (index_of signed bytes low * (size % 65536) % 65536)) address_before
          ∙ advanced_low minus k (index_of signed bytes low) (place q.object) q.offset moves.to.offset size ix moves.offset
          ∙ ap (λ (o : ℕ). (place o + moves.to.offset) % 65536) (sym moves.object)

      target : IsPointerIn p t.bytes moves.to
      target = subst (λ (n : ℕ). IsPointerIn p n moves.to) (sym same) moved_in

      held : HoldsContent p place v2.at (base t) (wanted need t) t.bytes (points moves.to)
      held = holds_low v2.at (base t) (wanted need t) t.bytes moves.to few target (held_row v2 (base t) 2 some_t ad.numbers) address_behind

      frame : Wide v v2 (base t) t.bytes
      frame j r0 r1 low_off high_off o =
          ad.same j r0 r1 (λ (x : j ≡ 26). let z = high_off (omega (arith, x)) in omega (arith, z, x))
          (narrower (base t) t.bytes 2 j two_t o)
          ∙ mv.same j r0 (narrower (base t) t.bytes 2 j two_t o)

  -- or by a known number of them
  pub low_known_matches : (core : Core) (minus signed : Bool) (t a : Temp) (bytes number size c : ℕ) (k : ℤ)
      (q : ObjectPointer) (z : PointerValue) (need need0 : Need) (m : Mach) (v : View) → HasHome slots t → HasHome slots a
      → t.bytes ≡ a.bytes → IsPointerIn p a.bytes q → wanted need t ≤ 2
      → value v.at (base a) 2 ≡ number_of (place_of p place a.bytes (Some q)) % 256 ^ 2
      → IsIndex k (known_index signed bytes number) → IsMoved p q (moved_elements minus k *ℤ pos size) z
      → ((u : ℕ) → u ≢ t.at → need u ≤ need0 u) → Shown need0 m v
      → Shown need (machine (with_content t (content_of t.bytes (Pointer z)) m.temps) (worked c m.state))
      (block e (move_code (home a) (home t) 2
      ++ member_code core 2 (home t) (known_offset minus (known_bytes signed bytes number size))) v)
  low_known_matches core minus signed t a bytes number_known size c k q z need need0 m v it ia same i few number ix moves more h =
      subst (λ (x : PointerValue). Shown need (machine (with_content t (content_of t.bytes (Pointer x)) m.temps)
      (worked c m.state)) (block e (move ++ member_code core 2 (home t) offset) v)) (sym moves.is)
      (subst (λ (x : View). Shown need (machine (with_content t (points moves.to) m.temps) (worked c m.state)) x) (sym whole_block)
      (written_wide p e slots home base place y t (points moves.to) need need0 m (worked c m.state) v v2 it h more
      frame held numbers2 refl (put.seen ∙ mv.seen ∙ h.seen)
      (kept_left y.inputs m.state v v2 (put.inputs ∙ mv.inputs) h.left) (put.safe ∙ mv.safe ∙ h.safe)))
    where
      taken : ℕ
      taken = known_index signed bytes number_known

      distance : ℕ
      distance = known_bytes signed bytes number_known size

      few_bytes : distance < 65536
      few_bytes = mod_below (taken * (size % 65536)) 65536 (omega arith)

      offset : ℕ
      offset = known_offset minus distance

      move : List AsmItem
      move = move_code (home a) (home t) 2

      member : List AsmItem
      member = field_code (home t) offset

      v1 : View
      v1 = block e move v

      v2 : View
      v2 = block e member v1

      member_is : member_code core 2 (home t) offset ≡ member
      member_is = ap (λ (x : Bool). if x then field_far_code (home t) offset else member) (two_near core)

      whole_block : block e (move ++ member_code core 2 (home t) offset) v ≡ v2
      whole_block = ap (λ l. block e (move ++ l) v) member_is ∙ block-append e move member v

      two : 2 ≤ a.bytes
      two = ⊎_elim (λ (r : a.bytes ≡ 2). omega arith) (λ (r : a.bytes ≡ 3). omega arith) i.size

      two_t : 2 ≤ t.bytes
      two_t = omega (arith, two, same)

      some_a : 2 ≤ base a
      some_a = (y.layout.temps_at a ia).clear

      some_t : 2 ≤ base t
      some_t = (y.layout.temps_at t it).clear

      to_stands : StandsFrom e (home t) 2 (base t) Own
      to_stands = stands_less e (home t) t.bytes 2 (base t) Own two_t (y.layout.temps_at t it)

      off_target : Outside (base t) 2 30
      off_target = (leaves_z (base t) t.bytes 2 two_t (y.layout.temps_work t it)).low

      mv : Brought v (base a) (base t) 2 v1
      mv = move_brings e (home a) (home t) 2 (base a) (base t) v
          (stands_less e (home a) a.bytes 2 (base a) Own two (y.layout.temps_at a ia))
          to_stands (read_first p e slots home base place y t a 2 it ia two) h.bytes

      frame1 : Frame v v1 (base t) 2
      frame1 j x z w o = mv.same j x o

      numbers1 : HoldsNumbers v1
      numbers1 = numbers_kept v v1 (base t) 2 h.bytes frame1
          (λ j l. subst (λ (n : ℕ). n < 256) (sym (mv.there j l)) (held_row v (base a) 2 some_a h.bytes j l))
          (subst (λ (n : ℕ). n < 256) (sym (mv.same 30 (omega arith) off_target)) (h.bytes 30 (omega arith)))

      moved_in : IsPointerIn p a.bytes moves.to
      moved_in = moved_pointer p a.bytes q (moved_elements minus k *ℤ pos size) z i moves

      put : IsPut v1 (base t) 2 ((value v1.at (base t) 2 + offset) % 65536) v2
      put = y.pointers.fields e (home t) offset (base t) v1 to_stands off_target numbers1

      numbers2 : HoldsNumbers v2
      numbers2 = put.numbers numbers1

      address_before : value v1.at (base t) 2 ≡ (place q.object + q.offset) % 65536
      address_before = row_value v1.at v.at (base a) (base t) 2 mv.there ∙ number ∙ omega arith

      address_behind : value v2.at (base t) 2 ≡ (place moves.to.object + moves.to.offset) % 65536
      address_behind =
          put.number_is ∙ ap (λ (n : ℕ). (n + offset) % 65536) address_before
          ∙ offset_moves minus ((place q.object + q.offset) % 65536) distance few_bytes
          ∙ advanced_low minus k taken (place q.object) q.offset moves.to.offset size ix moves.offset
          ∙ ap (λ (o : ℕ). (place o + moves.to.offset) % 65536) (sym moves.object)

      target : IsPointerIn p t.bytes moves.to
      target = subst (λ (n : ℕ). IsPointerIn p n moves.to) (sym same) moved_in

      held : HoldsContent p place v2.at (base t) (wanted need t) t.bytes (points moves.to)
      held = holds_low v2.at (base t) (wanted need t) t.bytes moves.to few target (held_row v2 (base t) 2 some_t numbers2) address_behind

      frame : Wide v v2 (base t) t.bytes
      frame k r0 r1 low_off high_off o =
          put.same k (off_low_work k high_off) (off_high_work k high_off) (narrower (base t) t.bytes 2 k two_t o)
          ∙ mv.same k r0 (narrower (base t) t.bytes 2 k two_t o)

  -- ---- pointers that are moved by known numbers

  -- the code moves a pointer by so many elements, of which an index of so many bytes is known to hold the number
  pub known_matches : (core : Core) → core ≡ e.core → (minus signed : Bool) (t a : Temp) (bytes number size c : ℕ) (k : ℤ)
      (q : ObjectPointer) (z : PointerValue) (need need0 : Need) (m : Mach) (v : View) → HasHome slots t → HasHome slots a
      → t.bytes ≡ a.bytes → IsPointerIn p a.bytes q
      → value v.at (base a) a.bytes ≡ number_of (place_of p place a.bytes (Some q))
      → IsIndex k (known_index signed bytes number) → IsMoved p q (moved_elements minus k *ℤ pos size) z
      → ((u : ℕ) → u ≢ t.at → need u ≤ need0 u) → Shown need0 m v
      → Shown need (machine (with_content t (content_of t.bytes (Pointer z)) m.temps) (worked c m.state))
      (block e (move_code (home a) (home t) a.bytes
      ++ member_code core a.bytes (home t) (known_offset minus (known_bytes signed bytes number size))) v)
  known_matches core one_core minus signed t a bytes number_known size c k q z need need0 m v it ia same i number ix moves more h =
      subst (λ (x : PointerValue). Shown need (machine (with_content t (content_of t.bytes (Pointer x)) m.temps)
      (worked c m.state)) (block e (move ++ member) v)) (sym moves.is)
      (subst (λ (x : View). Shown need (machine (with_content t (points moves.to) m.temps) (worked c m.state)) x)
      (sym (block-append e move member v))
      (written_wide p e slots home base place y t (points moves.to) need need0 m (worked c m.state) v v2 it h more
      frame held numbers2 refl (put.seen ∙ mv.seen ∙ h.seen)
      (kept_left y.inputs m.state v v2 (put.inputs ∙ mv.inputs) h.left) (put.safe ∙ mv.safe ∙ h.safe)))
    where
      taken : ℕ
      taken = known_index signed bytes number_known

      distance : ℕ
      distance = known_bytes signed bytes number_known size

      few : distance < 65536
      few = mod_below (taken * (size % 65536)) 65536 (omega arith)

      offset : ℕ
      offset = known_offset minus distance

      move : List AsmItem
      move = move_code (home a) (home t) a.bytes

      member : List AsmItem
      member = member_code core a.bytes (home t) offset

      v1 : View
      v1 = block e move v

      v2 : View
      v2 = block e member v1

      two : 2 ≤ a.bytes
      two = ⊎_elim (λ (r : a.bytes ≡ 2). omega arith) (λ (r : a.bytes ≡ 3). omega arith) i.size

      clear_t : IsClear (base t) t.bytes
      clear_t = y.layout.temps_work t it

      some_a : 2 ≤ base a
      some_a = (y.layout.temps_at a ia).clear

      some_t : 2 ≤ base t
      some_t = (y.layout.temps_at t it).clear

      to_stands : StandsFrom e (home t) a.bytes (base t) Own
      to_stands = subst (λ (n : ℕ). StandsFrom e (home t) n (base t) Own) same (y.layout.temps_at t it)

      off_target : (n : ℕ) → n ≤ a.bytes → Outside (base t) n 30
      off_target n l = (leaves_z (base t) t.bytes n (omega (arith, l, same)) clear_t).low

      mv : Brought v (base a) (base t) a.bytes v1
      mv = move_brings e (home a) (home t) a.bytes (base a) (base t) v (y.layout.temps_at a ia) to_stands
          (read_first p e slots home base place y t a a.bytes it ia (omega arith)) h.bytes

      frame1 : Frame v v1 (base t) a.bytes
      frame1 j x z w o = mv.same j x o

      numbers1 : HoldsNumbers v1
      numbers1 = numbers_kept v v1 (base t) a.bytes h.bytes frame1
          (λ j l. subst (λ (n : ℕ). n < 256) (sym (mv.there j l)) (held_row v (base a) a.bytes some_a h.bytes j l))
          (subst (λ (n : ℕ). n < 256) (sym (mv.same 30 (omega arith) (off_target a.bytes (omega arith)))) (h.bytes 30 (omega arith)))

      -- the pointer before, at its new place
      number_before : value v1.at (base t) a.bytes ≡ number_of (place_of p place a.bytes (Some q))
      number_before = row_value v1.at v.at (base a) (base t) a.bytes mv.there ∙ number

      -- the pointer that it becomes
      moved_in : IsPointerIn p a.bytes moves.to
      moved_in = moved_pointer p a.bytes q (moved_elements minus k *ℤ pos size) z i moves

      to_number : ℕ
      to_number = number_of (place_of p place a.bytes (Some moves.to))

      object : place moves.to.object ≡ place q.object
      object = ap place moves.object

      -- by its low two bytes
      near : is_far core a.bytes ≡ false → IsPut v1 (base t) a.bytes to_number (block e (field_code (home t) offset) v1)
      near is_near =
          record {
            number_is = ⊎_elim without_tag with_tag i.size;
            numbers = low.numbers;
            same = λ j work high o. low.same j work high (narrower (base t) a.bytes 2 j two o);
            inputs = low.inputs;
            safe = low.safe;
            seen = low.seen;
          }
        where
          w : View
          w = block e (field_code (home t) offset) v1

          low : IsPut v1 (base t) 2 ((value v1.at (base t) 2 + offset) % 65536) w
          low = y.pointers.fields e (home t) offset (base t) v1 (stands_less e (home t) a.bytes 2 (base t) Own two to_stands)
              (off_target 2 two) numbers1

          place_from : ℕ
          place_from = place q.object + q.offset

          small_from : place_from < 65536
          small_from = low_address p place have core a.bytes q (one_core ∙ sym have_core) i is_near

          small_to : place q.object + moves.to.offset < 65536
          small_to = subst (λ (n : ℕ). n + moves.to.offset < 65536) object
              (low_address p place have core a.bytes moves.to (one_core ∙ sym have_core) moved_in is_near)

          -- the address before, and the address behind
          address_before : value v1.at (base t) 2 ≡ place_from
          address_before =
              less_value v1.at (base t) a.bytes 2 (number_of (place_of p place a.bytes (Some q))) two
              (held_row v1 (base t) a.bytes some_t numbers1)
              (number_before ∙ sym (kept_below (number_of (place_of p place a.bytes (Some q))) (256 ^ a.bytes)
              (number_below p place have a.bytes (Some q) i.size i)))
              ∙ low_is_offset p place have a.bytes q small_from

          address_behind : value w.at (base t) 2 ≡ place q.object + moves.to.offset
          address_behind =
              low.number_is ∙ ap (λ (n : ℕ). (n + offset) % 65536) address_before ∙ offset_moves minus place_from distance few
              ∙ advanced_is minus k taken (place q.object) q.offset moves.to.offset size ix moves.offset small_from small_to

          without_tag : a.bytes ≡ 2 → value w.at (base t) a.bytes ≡ to_number
          without_tag r =
              subst (λ (n : ℕ). value w.at (base t) n ≡ number_of (place_of p place n (Some moves.to))) (sym r)
              (address_behind ∙ ap (λ (o : ℕ). o + moves.to.offset) (sym object) ∙ omega arith)

          third : (x y z w a b t : ℕ) → x ≡ b → y ≡ w → z ≡ a → z + w * 65536 ≡ a + t * 65536 → x + y * 65536 ≡ b + t * 65536
          third x y z w a b t p q r s = omega (arith, p, q, r, s)

          with_tag : a.bytes ≡ 3 → value w.at (base t) a.bytes ≡ to_number
          with_tag r =
              let outside = off_target 3 (omega (arith, r)) in
              let outside_high = (leaves_z (base t) t.bytes 3 (omega (arith, r, same)) clear_t).high in
              let other : base t + 2 ≢ 30 = λ s. let o = outside (omega (arith, s)) in omega (arith, o, s) in
              let high : base t + 2 ≢ 31 = λ s. let o = outside_high (omega (arith, s)) in omega (arith, o, s) in
              let last : w.at (base t + 2) ≡ v1.at (base t + 2) = low.same (base t + 2) other high (λ o. omega arith) in
              let full : value v1.at (base t) 3 ≡ number_of (place_of p place 3 (Some q)) =
              subst (λ (n : ℕ). value v1.at (base t) n ≡ number_of (place_of p place n (Some q))) r number_before in
              let tag3 : tag_byte 3 (home_of p moves.to.object) ≡ tag_byte 3 (home_of p q.object) =
              ap (λ (o : ℕ). tag_byte 3 (home_of p o)) moves.object in
              subst (λ (n : ℕ). value w.at (base t) n ≡ number_of (place_of p place n (Some moves.to))) (sym r)
              (third (value w.at (base t) 2) (w.at (base t + 2)) (value v1.at (base t) 2) (v1.at (base t + 2))
              place_from (place q.object + moves.to.offset) (tag_byte 3 (home_of p q.object))
              address_behind last address_before full ∙ (rw (object, tag3) refl))

      -- by all three
      far : is_far core a.bytes ≡ true → IsPut v1 (base t) a.bytes to_number (block e (field_far_code (home t) offset) v1)
      far is_so =
          let three = far_bytes core a.bytes is_so in
          let limit : (n : ℕ) → n ≡ 3 → IsPut v1 (base t) 3 (number_of (place_of p place n (Some moves.to))) w
          → IsPut v1 (base t) n (number_of (place_of p place n (Some moves.to))) w =
          λ n r. subst (λ (j : ℕ). IsPut v1 (base t) j (number_of (place_of p place n (Some moves.to))) w) (sym r) in
          limit a.bytes three (advanced three)
        where
          w : View
          w = block e (field_far_code (home t) offset) v1

          from : ℕ
          from = place q.object + tag_byte a.bytes (home_of p q.object) * 65536

          tag : tag_byte a.bytes (home_of p moves.to.object) ≡ tag_byte a.bytes (home_of p q.object)
          tag = ap (λ (o : ℕ). tag_byte a.bytes (home_of p o)) moves.object

          advanced : a.bytes ≡ 3 → IsPut v1 (base t) 3 to_number w
          advanced three =
              let stands : StandsFrom e (home t) 3 (base t) Own = subst (λ (n : ℕ). StandsFrom e (home t) n (base t) Own) three to_stands in
              let whole = y.pointers.far.fields e (home t) offset (base t) v1 stands (off_target 3 (omega (arith, three))) numbers1 in
              let full : value v1.at (base t) 3 ≡ from + q.offset =
              subst (λ (n : ℕ). value v1.at (base t) n ≡ number_of (place_of p place a.bytes (Some q))) three number_before ∙ omega arith in
              let limit = subst (λ (n : ℕ). to_number < 256 ^ n) three
              (number_below p place have a.bytes (Some moves.to) i.size moved_in) in
              let is_to : from + moves.to.offset ≡ to_number = (rw (object, tag) (omega arith)) in
              let small : from + moves.to.offset < 16777216 = omega (arith, limit, is_to) in
              let behind : far_moved_by minus (from + q.offset) distance ≡ from + moves.to.offset =
              far_advanced_is minus k taken from q.offset moves.to.offset size ix moves.offset
              (offset_small p place have q i.pointed) (offset_small p place have moves.to moves.pointed) small in
              let number : (value v1.at (base t) 3 + offset) % 16777216 ≡ to_number =
              ap (λ (n : ℕ). (n + offset) % 16777216) full ∙ far_offset_moves minus (from + q.offset) distance few ∙ behind ∙ is_to in
              subst (λ (n : ℕ). IsPut v1 (base t) 3 n w) number whole

      put : IsPut v1 (base t) a.bytes to_number v2
      put = by_core (is_far core a.bytes) refl
        where
          by_core : (b : Bool) → is_far core a.bytes ≡ b
              → IsPut v1 (base t) a.bytes to_number (block e (if b then field_far_code (home t) offset else field_code (home t) offset) v1)
          by_core true q = far q
          by_core false q = near q

      numbers2 : HoldsNumbers v2
      numbers2 = put.numbers numbers1

      new_number : value v2.at (base t) t.bytes ≡ number_of (place_of p place t.bytes (Some moves.to))
      new_number = subst (λ (n : ℕ). value v2.at (base t) n ≡ number_of (place_of p place n (Some moves.to))) (sym same) put.number_is

      target : IsPointerIn p t.bytes moves.to
      target = subst (λ (n : ℕ). IsPointerIn p n moves.to) (sym same) moved_in

      held : HoldsContent p place v2.at (base t) (wanted need t) t.bytes (points moves.to)
      held = holds_pointer v2.at (base t) (wanted need t) t.bytes (Some moves.to) target
          (less_value v2.at (base t) t.bytes (wanted need t) (number_of (place_of p place t.bytes (Some moves.to)))
          (wanted_most need t) (held_row v2 (base t) t.bytes some_t numbers2)
          (new_number ∙ sym (kept_below (number_of (place_of p place t.bytes (Some moves.to))) (256 ^ t.bytes)
          (number_below p place have t.bytes (Some moves.to) target.size target))))

      frame : Wide v v2 (base t) t.bytes
      frame j r0 r1 low_off high_off o =
          let off : Outside (base t) a.bytes j = subst (λ (n : ℕ). Outside (base t) n j) same o in
          put.same j (off_low_work j high_off) (off_high_work j high_off) off ∙ mv.same j r0 off

  -- ---- differences

  -- the code counts the elements between two pointers
  pub difference_matches : (t a b : Temp) (size c : ℕ) (x z : PointerValue) (k : ℤ) (need need0 : Need) (m : Mach) (v : View)
      → HasHome slots t → HasHome slots a → HasHome slots b → t.bytes ≡ 2 → b.bytes ≡ a.bytes → IsPointerSize a.bytes → 1 ≤ size
      → value v.at (base a) a.bytes ≡ number_of (place_of p place a.bytes x)
      → value v.at (base b) a.bytes ≡ number_of (place_of p place a.bytes z)
      → Distance size (number_of (place_of p place a.bytes x)) (number_of (place_of p place a.bytes z)) k
      → ((u : ℕ) → u ≢ t.at → need u ≤ need0 u) → Shown need0 m v
      → Shown need (machine (with_content t (bits (low_bytes t.bytes k)) m.temps) (worked c m.state))
      (block e (elements_code (home a) (home b) (home t) size) v)
  difference_matches t a b size c x z k need need0 m v it ia ib two same size_a some left right d more h =
      written_wide p e slots home base place y t (bits (low_bytes t.bytes k)) need need0 m (worked c m.state) v v1
      it h more frame (low, low_below t.bytes k) dif.numbers refl
      (dif.seen ∙ h.seen) (kept_left y.inputs m.state v v1 dif.inputs h.left) (dif.safe ∙ h.safe)
    where
      v1 : View
      v1 = block e (elements_code (home a) (home b) (home t) size) v

      stands : (u : Temp) → HasHome slots u → (n : ℕ) → n ≤ u.bytes → StandsFrom e (home u) n (base u) Own
      stands u iu n l = stands_less e (home u) u.bytes n (base u) Own l (y.layout.temps_at u iu)

      clear : (u : Temp) → HasHome slots u → (n : ℕ) → n ≤ u.bytes → LeavesZ (base u) n
      clear u iu n l = leaves_z (base u) u.bytes n l (y.layout.temps_work u iu)

      two_t : 2 ≤ t.bytes
      two_t = omega (arith, two)

      is_from : IsFrom d.negative (value v.at (base a) a.bytes) (value v.at (base b) a.bytes) (d.k * size)
      is_from = subst (λ (n : ℕ). IsFrom d.negative n (value v.at (base b) a.bytes) (d.k * size)) (sym left)
          (subst (λ (n : ℕ). IsFrom d.negative (number_of (place_of p place a.bytes x)) n (d.k * size)) (sym right) d.is)

      from_bytes : (n : ℕ) → a.bytes ≡ n → IsFrom d.negative (value v.at (base a) n) (value v.at (base b) n) (d.k * size)
      from_bytes n r = subst (λ (j : ℕ). IsFrom d.negative (value v.at (base a) j) (value v.at (base b) j) (d.k * size)) r is_from

      dif : Differs v (base t) (signed_number d.negative d.k) v1
      dif =
          ⊎_elim
          (λ (r : a.bytes ≡ 2). let la : 2 ≤ a.bytes = omega (arith, r) in let lb : 2 ≤ b.bytes = omega (arith, r, same) in
          y.pointers.elements d.negative e (home a) (home b) (home t) (base a) (base b) (base t) size d.k v
          (stands a ia 2 la) (clear a ia 2 la)
          (stands b ib 2 lb) (clear b ib 2 lb) (stands t it 2 two_t) (clear t it 2 two_t) h.bytes some (from_bytes 2 r))
          (λ (r : a.bytes ≡ 3). let la : 3 ≤ a.bytes = omega (arith, r) in let lb : 3 ≤ b.bytes = omega (arith, r, same) in
          y.pointers.far.elements d.negative e (home a) (home b) (home t) (base a) (base b) (base t) size d.k v
          (stands a ia 3 la) (clear a ia 3 la)
          (stands b ib 3 lb) (clear b ib 3 lb) (stands t it 2 two_t) (clear t it 2 two_t) h.bytes some (from_bytes 3 r))
          size_a

      whole : value v1.at (base t) t.bytes ≡ low_bytes t.bytes k
      whole = subst (λ (n : ℕ). value v1.at (base t) n ≡ low_bytes n k) (sym two) (dif.number_is ∙ sym d.number)

      low : value v1.at (base t) (wanted need t) ≡ low_bytes t.bytes k % 256 ^ wanted need t
      low = less_value v1.at (base t) t.bytes (wanted need t) (low_bytes t.bytes k) (wanted_most need t)
          (held_row v1 (base t) t.bytes (y.layout.temps_at t it).clear dif.numbers)
          (whole ∙ sym (kept_below (low_bytes t.bytes k) (256 ^ t.bytes) (low_below t.bytes k)))

      frame : Wide v v1 (base t) t.bytes
      frame i r0 r1 low_off high_off o =
          dif.same i r0 r1 (λ u. let w = low_off u in omega arith)
          (λ u. let w = high_off (omega arith) in omega arith) (narrower (base t) t.bytes 2 i two_t o)

  -- ---- conversions

  -- the code brings a pointer of as many bytes or more to its place
  pub moved_matches : (t a : Temp) (c : ℕ) (x : PointerValue) (need need0 : Need) (m : Mach) (v : View) → HasHome slots t → HasHome slots a
      → wanted need t ≤ a.bytes → IsPointerSize a.bytes → IsPointerSize t.bytes → IsAddressed p t.bytes x
      → value v.at (base a) (wanted need t) ≡ number_of (place_of p place a.bytes x) % 256 ^ wanted need t
      → ((u : ℕ) → u ≢ t.at → need u ≤ need0 u) → Shown need0 m v
      → Shown need (machine (with_content t (content_of t.bytes (Pointer x)) m.temps) (worked c m.state))
      (block e (move_code (home a) (home t) (wanted need t)) v)
  moved_matches t a c x need need0 m v it ia less size_a size_t i number more h =
      written_wide p e slots home base place y t (content_of t.bytes (Pointer x)) need need0 m (worked c m.state) v v1 it h more frame
      (holds_pointer v1.at (base t) w t.bytes x i (row_value v1.at v.at (base a) (base t) w mv.there ∙ number ∙ same_number))
      numbers refl (mv.seen ∙ h.seen) (kept_left y.inputs m.state v v1 mv.inputs h.left) (mv.safe ∙ h.safe)
    where
      w : ℕ
      w = wanted need t

      most : w ≤ t.bytes
      most = wanted_most need t

      v1 : View
      v1 = block e (move_code (home a) (home t) w) v

      mv : Brought v (base a) (base t) w v1
      mv = move_brings e (home a) (home t) w (base a) (base t) v (stands_less e (home a) a.bytes w (base a) Own
          less (y.layout.temps_at a ia))
          (stands_less e (home t) t.bytes w (base t) Own most (y.layout.temps_at t it))
          (read_first p e slots home base place y t a w it ia less) h.bytes

      -- where a third byte is brought, both have one
      same_size : 3 ≤ w → a.bytes ≡ t.bytes
      same_size l =
          ⊎_elim
          (λ (r : a.bytes ≡ 2). absurd (omega (arith, l, r, less)))
          (λ (r : a.bytes ≡ 3).
          ⊎_elim (λ (s : t.bytes ≡ 2). absurd (omega (arith, l, s, most))) (λ (s : t.bytes ≡ 3). r ∙ sym s) size_t)
          size_a

      same_number : number_of (place_of p place a.bytes x) % 256 ^ w ≡ number_of (place_of p place t.bytes x) % 256 ^ w
      same_number =
          ⊎_elim
          (λ (l : w < 3). low_numbers p place have a.bytes t.bytes w x (omega (arith, l)))
          (λ (l : 3 ≤ w). ap (λ (n : ℕ). number_of (place_of p place n x) % 256 ^ w) (same_size l))
          (cases_lt w 3)

      narrow : Frame v v1 (base t) w
      narrow k r0 r1 r30 o = mv.same k r0 o

      numbers : HoldsNumbers v1
      numbers = numbers_kept v v1 (base t) w h.bytes narrow
          (λ j l. subst (λ (n : ℕ). n < 256) (sym (mv.there j l))
          (held_row v (base a) a.bytes (y.layout.temps_at a ia).clear h.bytes j (omega (arith, l, less))))
          (subst (λ (n : ℕ). n < 256) (sym (mv.same 30 (omega arith)
          (thirty (base t) t.bytes w most (y.layout.temps_work t it)))) (h.bytes 30 (omega arith)))
        where
          thirty : (d n j : ℕ) → j ≤ n → IsClear d n → Outside d j 30
          thirty d n j l z = (leaves_z d n j l z).low

      frame : Wide v v1 (base t) t.bytes
      frame k r0 r1 low_off high_off o = mv.same k r0 (narrower (base t) t.bytes w k most o)

  -- the code brings a pointer of two bytes to its place, and gives it its third one there
  pub embedded_matches : (space : SpaceId) (const : Bool) (to : PlainType) (t a : Temp) (c : ℕ) (x : PointerValue)
      (need need0 : Need) (m : Mach) (v : View)
      → HasHome slots t → HasHome slots a → a.bytes ≡ 2 → t.bytes ≡ 3 → width space ≡ 2 → IsAddressed p a.bytes x → IsAddressed p t.bytes x
      → IsIntoSpace p space x → value v.at (base a) a.bytes ≡ number_of (place_of p place a.bytes x)
      → ((u : ℕ) → u ≢ t.at → need u ≤ need0 u) → Shown need0 m v
      → Shown need (machine (with_content t (content_of t.bytes (Pointer x)) m.temps) (worked c m.state))
      (block e (move_code (home a) (home t) a.bytes ++ embed_code (is_into_data (pointer space const to)) (home t)) v)
  embedded_matches space const to t a c x need need0 m v it ia two three narrow i j into number more h =
      subst (λ (x1 : View). Shown need (machine (with_content t (content_of t.bytes (Pointer x)) m.temps) (worked c m.state)) x1)
      (sym (block-append e move embed v))
      (written_wide p e slots home base place y t (content_of t.bytes (Pointer x)) need need0 m (worked c m.state) v v2 it h more frame
      (holds_pointer v2.at (base t) (wanted need t) t.bytes x j low) put.numbers refl (put.seen ∙ mv.seen ∙ h.seen)
      (kept_left y.inputs m.state v v2 (put.inputs ∙ mv.inputs) h.left) (put.safe ∙ mv.safe ∙ h.safe))
    where
      data_too : Bool
      data_too = is_into_data (pointer space const to)

      move : List AsmItem
      move = move_code (home a) (home t) a.bytes

      embed : List AsmItem
      embed = embed_code data_too (home t)

      v1 : View
      v1 = block e move v

      v2 : View
      v2 = block e embed v1

      less : a.bytes ≤ t.bytes
      less = omega (arith, two, three)

      mv : Brought v (base a) (base t) a.bytes v1
      mv = move_brings e (home a) (home t) a.bytes (base a) (base t) v (y.layout.temps_at a ia)
          (stands_less e (home t) t.bytes a.bytes (base t) Own less (y.layout.temps_at t it))
          (read_first p e slots home base place y t a a.bytes it ia (omega arith)) h.bytes

      work : LeavesZ (base t) a.bytes
      work = leaves_z (base t) t.bytes a.bytes less (y.layout.temps_work t it)

      frame1 : Frame v v1 (base t) a.bytes
      frame1 k r0 r1 r30 o = mv.same k r0 o

      numbers1 : HoldsNumbers v1
      numbers1 = numbers_kept v v1 (base t) a.bytes h.bytes frame1
          (λ k l. subst (λ (n : ℕ). n < 256) (sym (mv.there k l))
          (held_row v (base a) a.bytes (y.layout.temps_at a ia).clear h.bytes k l))
          (subst (λ (n : ℕ). n < 256) (sym (mv.same 30 (omega arith) work.low)) (h.bytes 30 (omega arith)))

      put : HasPut v1 (base t) 3 (embedded data_too (value v1.at (base t) 2)) v2
      put = y.pointers.embedded data_too e (home t) (base t) v1
          (subst (λ (n : ℕ). StandsFrom e (home t) n (base t) Own) three (y.layout.temps_at t it))
          (leaves_z (base t) t.bytes 3 (omega (arith, three)) (y.layout.temps_work t it)) numbers1

      brought : value v1.at (base t) 2 ≡ number_of (place_of p place 2 x)
      brought = subst (λ (n : ℕ). value v1.at (base t) n ≡ number_of (place_of p place n x)) two
          (row_value v1.at v.at (base a) (base t) a.bytes mv.there ∙ number)

      behind : value v2.at (base t) t.bytes ≡ number_of (place_of p place t.bytes x)
      behind = subst (λ (n : ℕ). value v2.at (base t) n ≡ number_of (place_of p place n x)) (sym three)
          (put.number_is ∙ ap (embedded data_too) brought ∙ embedded_is p place have space const to x narrow
          (subst (λ (n : ℕ). IsAddressed p n x) two i) into)

      low : value v2.at (base t) (wanted need t) ≡ number_of (place_of p place t.bytes x) % 256 ^ wanted need t
      low = less_value v2.at (base t) t.bytes (wanted need t) (number_of (place_of p place t.bytes x))
          (wanted_most need t) (held_row v2 (base t) t.bytes (y.layout.temps_at t it).clear put.numbers)
          (behind ∙ sym (kept_below (number_of (place_of p place t.bytes x)) (256 ^ t.bytes)
          (number_below p place have t.bytes x (inr three) j)))

      frame : Wide v v2 (base t) t.bytes
      frame k r0 r1 low_off high_off o =
          put.same k r0 r1 (λ u. let w = high_off (omega arith) in omega arith) (subst (λ (n : ℕ). Outside (base t) n k) three o)
          ∙ mv.same k r0 (narrower (base t) t.bytes a.bytes k less o)

-- ---- operations

-- two bytes are moved where no more are needed, and else all
two_bytes : (w : ℕ) → w < 3 → 2 ≡ max 2 w
two_bytes w few = omega (arith, few)

every_byte : (t a : Temp) (w : ℕ) → t.bytes ≡ a.bytes → IsPointerSize a.bytes → w ≤ t.bytes → 3 ≤ w → a.bytes ≡ max 2 w
every_byte t a w same size most l =
    ⊎_elim (λ (r : a.bytes ≡ 2). absurd (omega (arith, r, same, most, l))) (λ (r : a.bytes ≡ 3). omega (arith, r, same, most, l)) size

-- so many are needed of a pointer that is moved
pointer_some : (w : ℕ) → (w == 0) ≡ false → pointer_wanted w ≡ max 2 w
pointer_some zero q = absurd cc
pointer_some (suc w) q = refl

-- where some bytes are wanted, all are
all_when : (bytes k : ℕ) → (k == 0) ≡ false → all_or_none bytes k ≡ bytes
all_when bytes zero q = absurd cc
all_when bytes (suc k) q = refl

-- no less than are wanted
all_or_more : (bytes k : ℕ) → k ≤ bytes → k ≤ all_or_none bytes k
all_or_more bytes zero l = omega arith
all_or_more bytes (suc k) l = l

width_size : (space : SpaceId) → IsPointerSize (width space)
width_size Flash = inl refl
width_size Data = inl refl
width_size FarFlash = inr refl
width_size Generic = inr refl

pub pointer_size : (bytes : ℕ) (space : SpaceId) → bytes ≡ width space → IsPointerSize bytes
pointer_size bytes space q = subst IsPointerSize (sym q) (width_size space)

binary_room : (op : BinOp) (ty aty bty : PlainType) → 640 ≤ 64 * binary_words op ty aty bty
binary_room op ty aty bty = by_kind (is_bitwise op && is_integer ty)
  where
    by_kind : (x : Bool) → 640 ≤ 64 * (if x then 10 * widest (ty ∷ aty ∷ bty ∷ []) else operation_words (widest (ty ∷ aty ∷ bty ∷ [])))
    by_kind true = omega arith
    by_kind false = omega arith

conversion_room : (ty aty : PlainType) → 640 ≤ 64 * conversion_words ty aty
conversion_room ty aty = by_kind (same_type ty aty || (is_integer ty && is_integer aty))
  where
    by_kind : (x : Bool) → 640 ≤ 64 * (if x then 10 * widest (ty ∷ aty ∷ []) else 100 + 40 * widest (ty ∷ aty ∷ []))
    by_kind true = omega arith
    by_kind false = omega arith

tell_straight : (a t : Location) (n : ℕ) → all_straight (conversion_code false a t 1 n) ≡ true
tell_straight a t n = straight-append (move_code a t (min n 1)) (extend_code false t 1 n)
    (move_straight a t (min n 1)) ((values_are_straight t 0 1 n).2 false)

tell_steps : (a t : Location) (n : ℕ) → code_steps (conversion_code false a t 1 n) ≤ 3 + 3 * n
tell_steps a t n =
    let x = move_steps a t (min n 1) in
    let z = (values_take t 0 1 n).2 false in
    omega (arith, steps-append (move_code a t (min n 1)) (extend_code false t 1 n), x, z)

-- a pointer into another space, where it can be converted
resized : (p : PlainProgram) (space : SpaceId) (bytes other : ℕ) (x z : PointerValue) (s : State) → other ≡ width space
    → pointer_in_space space x (referent_of p x s) ≡ Ok z → IsAddressed p bytes x → IsAddressed p other x
resized p space bytes other None z s size is i = tt
resized p space bytes other (Some q) z s size is i = record {
  pointed = i.pointed;
  size = pointer_size other space size;
  of = record { space = space; home = converted_home p space q i.pointed s z is; bytes = size };
}

-- what is no integer is no number of elements
pub no_count : (op : BinOp) (count : PlainType) → (IsIntegerType count → ⊥) → HaveOffsetTypes op count → ⊥
no_count Add count none h = none h
no_count Sub count none h = none h
no_count op count none h = h

-- an operator with a pointer has no fixed-point operand
pub no_fixed_operand : (p : PlainProgram) (slots : ℕ) (op : BinOp) (t a b : Temp) (ty aty bty : PlainType)
    → IsPointerBinary p slots op t a b ty aty bty → (is_fixed aty || is_fixed bty) ≡ false
no_fixed_operand p slots op t a b ty aty bty k = by_types aty bty k
  where
    first : (space : SpaceId) (const : Bool) (to z : PlainType) → IsPointerBinary p slots op t a b ty (pointer space const to) z
        → (is_fixed (pointer space const to) || is_fixed z) ≡ false
    first space const to (pointer space2 const2 to2) k = refl
    first space const to (integer signed bytes) k = refl
    first space const to (fixed kind saturates) k = absurd (no_count op (fixed kind saturates) (λ i. i) k.types.0)
    first space const to void k = refl
    first space const to (array of len) k = refl
    first space const to (struct index) k = refl

    by_types : (x z : PlainType) → IsPointerBinary p slots op t a b ty x z → (is_fixed x || is_fixed z) ≡ false
    by_types (pointer space const to) z k = first space const to z k
    by_types (integer signed bytes) (pointer space const to) k = refl
    by_types (fixed kind saturates) (pointer space const to) k = absurd k.types.1
    by_types void (pointer space const to) k = refl
    by_types (array of len) (pointer space const to) k = refl
    by_types (struct index) (pointer space const to) k = refl
    by_types x z k = absurd (let g = k.pointer in cc)

module _ (p : PlainProgram) (functions : List PlainIrFunction) (e : Env) (slots : ℕ) (home : Temp → Location)
    (base : Temp → ℕ) (place : ℕ → ℕ) (y : Setting p e slots home base place) (labels : ℕ → Need) (all : List PlainIr)
    (end : ℕ) (results : ℕ → ℕ) (me : ℕ) (link : Linkage) (stack : List Call) where
  -- what the code of the function is made by
  abbrev at : Facts
  at = facts_of (has_tables p.objects) labels all

  abbrev M : Need → Mach → View → Type 0
  M need m v = Matches p e y.inputs slots base place y.aside y.stands y.active y.called need m v

  abbrev G : (n w pc : ℕ) → View → Outcome Value → Type 0
  G n w pc v o = Follows p place e n w pc v o

  abbrev items : List PlainIr → List AsmItem
  items code = ops_code p home link at None code

  -- an operation whose code stands at its use, and those behind it
  abbrev own_items : PlainIr → List PlainIr → List AsmItem
  own_items i rest =
      own_code p home link None (tells_next link.core p home at None i rest) (at.known (i ∷ rest))
      (needed_behind labels (needs at rest) i) i
      ++ ops_code p home link at (tells_next link.core p home at None i rest) rest

  -- its code, where it has been told nothing and tells nothing, and its second operand may be known to hold a number
  abbrev known_code : Option RightNumber → PlainIr → List PlainIr → List AsmItem
  known_code known i rest = own_code p home link None None known (needed_behind labels (needs at rest) i) i

  -- where it takes no number
  abbrev code_of : PlainIr → List PlainIr → List AsmItem
  code_of i rest = known_code None i rest

  -- what is needed before an operator that shifts no fixed-point number
  abbrev moving_needs : Option RightNumber → (op : BinOp) (t a : Temp) (aty : PlainType) (b : Temp) (bty : PlainType) → List PlainIr → Need
  moving_needs known op t a aty b bty rest =
      at_least a.at
      (moved_wanted (moves_pointer op aty bty) (wanted (needs at rest) t)
      (first_wanted (is_whole aty || is_whole bty) op
      (compared_bytes (number_taken known (is_whole aty || is_whole bty) op) a.bytes)
      (masked_bytes (number_taken known (is_whole aty || is_whole bty) op) op (wanted (needs at rest) t))))
      (right_needed (right_taken known (moves_pointer op aty bty) (is_whole aty || is_whole bty) op) b.at
      (moved_wanted (moves_pointer op bty aty) (wanted (needs at rest) t)
      (second_wanted (is_whole aty || is_whole bty) op
      (compared_bytes (number_taken known (is_whole aty || is_whole bty) op) b.bytes)
      (joined_bytes (number_taken known (is_whole aty || is_whole bty) op) (wanted (needs at rest) t))))
      (without t.at (needs at rest)))

  abbrev R : ℕ → List PlainIr → Mach → Outcome Value
  R n rest m = checked_on functions p y.inputs n all stack rest m

  -- an operation, and those behind it
  abbrev P : ℕ → PlainIr → List PlainIr → Mach → Outcome Value
  P n i rest m = performed functions p y.inputs n all stack i rest m

  abbrev Rest : ℕ → List PlainIr → Type 0
  Rest n rest = (pc : ℕ) (m : Mach) (v : View) → HasAt e (items rest) pc end → M (needs at rest) m v
      → G n m.state.work pc v (R n rest m)

  -- the machine of a result
  abbrev resulted : Temp → Content → ℕ → Mach → Mach
  resulted t content c m = machine (with_content t content m.temps) (worked c m.state)

  -- what a temporary of so many bytes can hold
  abbrev IsContent : ℕ → Content → Type 0
  IsContent bytes (bits low) = low < 256 ^ bytes
  IsContent bytes (points q) = IsPointerIn p bytes q

  none_holds : (f : ℕ → ℕ) (a bytes : ℕ) (content : Content) → IsContent bytes content → HoldsContent p place f a 0 bytes content
  none_holds f a bytes (bits low) i = (omega arith, i)
  none_holds f a bytes (points q) i = (omega arith, i)

  pointer_content : (bytes : ℕ) (x : PointerValue) → IsAddressed p bytes x → IsContent bytes (content_of bytes (Pointer x))
  pointer_content bytes None i = pow_pos bytes
  pointer_content bytes (Some q) i = i

  -- straight code of its own that leaves the result, and what comes after it
  own_passes : (own : List AsmItem) (i : PlainIr) (code : List AsmItem) (t : Temp) (content : Content) (rest : List PlainIr)
      (n pc : ℕ) (m : Mach) (v : View)
      → own ≡ code → all_straight code ≡ true → code_steps code ≤ 640 → 640 ≤ op_steps i
      → HasAt e (own ++ items rest) pc end
      → M (needs at rest) (resulted t content (op_steps i) m) (block e code v) → Rest (suc n) rest
      → G (suc n) m.state.work pc v (R (suc n) rest (resulted t content (op_steps i) m))
  own_passes own i code t content rest n pc m v is straight few room stands matches f =
      let m1 = resulted t content (op_steps i) m in
      let steps : code_steps own ≡ code_steps code = ap code_steps is in
      goes_past p functions e slots home base place y labels all end results me link stack own (items rest) (suc n) (suc n)
      m.state.work m1.state.work pc v (R (suc n) rest m1) stands
      (ap all_straight is ∙ straight) (omega arith) (omega (arith, steps, few, room))
      (λ mid u. f mid m1 _ u (subst (λ (w : List AsmItem). M (needs at rest) m1 (block e w v)) (sym is) matches))

  -- where it has been told nothing
  straight_passes : (known : Option RightNumber) (i : PlainIr) (code : List AsmItem) (t : Temp) (content : Content) (rest : List PlainIr)
      (n pc : ℕ) (m : Mach) (v : View)
      → known_code known i rest ≡ code → all_straight code ≡ true → code_steps code ≤ 640 → 640 ≤ op_steps i
      → HasAt e (known_code known i rest ++ items rest) pc end
      → M (needs at rest) (resulted t content (op_steps i) m) (block e code v) → Rest (suc n) rest
      → G (suc n) m.state.work pc v (R (suc n) rest (resulted t content (op_steps i) m))
  straight_passes known i code t content rest n pc m v is straight few room stands matches f =
      own_passes (known_code known i rest) i code t content rest n pc m v is straight few room stands matches f

  -- no code where no byte of the result is needed
  no_code_passes : (own : List AsmItem) (i : PlainIr) (t : Temp) (content : Content) (rest : List PlainIr) (n pc : ℕ) (need0 : Need)
      (m : Mach) (v : View)
      → HasHome slots t → own ≡ [] → (wanted (needs at rest) t == 0) ≡ true → IsContent t.bytes content
      → HasAt e (own ++ items rest) pc end → ((u : ℕ) → u ≢ t.at → needs at rest u ≤ need0 u) → M need0 m v
      → 640 ≤ op_steps i → Rest (suc n) rest → G (suc n) m.state.work pc v (R (suc n) rest (resulted t content (op_steps i) m))
  no_code_passes own i t content rest n pc need0 m v it empty none fits stands more h room f =
      let zero_wanted : wanted (needs at rest) t ≡ 0 = eqb-true (wanted (needs at rest) t) 0 none in
      let here = subst (λ (k : ℕ). HoldsContent p place v.at (base t) k t.bytes content) (sym zero_wanted)
      (none_holds v.at (base t) t.bytes content fits) in
      own_passes own i [] t content rest n pc m v empty refl (omega arith) room stands
      (written_wide p e slots home base place y t content (needs at rest) need0 m (worked (op_steps i) m.state) v v
      it h more (λ k a b c d o. refl) here h.bytes refl h.seen h.left h.safe) f

  nothing_passes : (known : Option RightNumber) (i : PlainIr) (t : Temp) (content : Content) (rest : List PlainIr) (n pc : ℕ) (need0 : Need)
      (m : Mach) (v : View)
      → HasHome slots t → known_code known i rest ≡ [] → (wanted (needs at rest) t == 0) ≡ true → IsContent t.bytes content
      → HasAt e (known_code known i rest ++ items rest) pc end → ((u : ℕ) → u ≢ t.at → needs at rest u ≤ need0 u) → M need0 m v
      → 640 ≤ op_steps i → Rest (suc n) rest → G (suc n) m.state.work pc v (R (suc n) rest (resulted t content (op_steps i) m))
  nothing_passes known i t content rest n pc need0 m v it empty none fits stands more h room f =
      no_code_passes (known_code known i rest) i t content rest n pc need0 m v it empty none fits stands more h room f

  -- what is needed before an operator
  abbrev operands_needed : (t a b : Temp) → ℕ → Need → Need
  operands_needed t a b w need = at_least a.at (all_or_none a.bytes w) (at_least b.at (all_or_none b.bytes w) (without t.at need))

  other_needed : (t a b : Temp) (w : ℕ) (need : Need) (u : ℕ) → u ≢ t.at → need u ≤ operands_needed t a b w need u
  other_needed t a b w need u d =
      let i = without_other t.at u need d in
      let j = least_other b.at (all_or_none b.bytes w) u (without t.at need) in
      let k = least_other a.at (all_or_none a.bytes w) u (at_least b.at (all_or_none b.bytes w) (without t.at need)) in
      omega arith

  first_there : (t a b : Temp) (w : ℕ) (need : Need) → (w == 0) ≡ false → a.bytes ≤ wanted (operands_needed t a b w need) a
  first_there t a b w need some =
      let all_bytes = all_when a.bytes w some in
      let l = least_here a.at (all_or_none a.bytes w) (at_least b.at (all_or_none b.bytes w) (without t.at need)) in
      omega (arith, all_bytes, l)

  second_there : (t a b : Temp) (w : ℕ) (need : Need) → (w == 0) ≡ false → b.bytes ≤ wanted (operands_needed t a b w need) b
  second_there t a b w need some =
      let all_bytes = all_when b.bytes w some in
      let l = least_here b.at (all_or_none b.bytes w) (without t.at need) in
      let k = least_other a.at (all_or_none a.bytes w) b.at (at_least b.at (all_or_none b.bytes w) (without t.at need)) in
      omega (arith, all_bytes, l, k)

  -- what is needed before a pointer is moved, which is the first operand or the second one
  abbrev sides_needed : (t a b : Temp) (i j : ℕ) → Need → Need
  sides_needed t a b i j need = at_least a.at i (at_least b.at j (without t.at need))

  sides_other : (t a b : Temp) (i j : ℕ) (need : Need) (u : ℕ) → u ≢ t.at → need u ≤ sides_needed t a b i j need u
  sides_other t a b i j need u d =
      let x = without_other t.at u need d in
      let z = least_other b.at j u (without t.at need) in
      let w = least_other a.at i u (at_least b.at j (without t.at need)) in
      omega arith

  sides_there : (t a b : Temp) (i j : ℕ) (need : Need) → (i ≤ sides_needed t a b i j need a.at) × (j ≤ sides_needed t a b i j need b.at)
  sides_there t a b i j need =
      let x = least_here b.at j (without t.at need) in
      let z = least_other a.at i b.at (at_least b.at j (without t.at need)) in
      (least_here a.at i (at_least b.at j (without t.at need)), omega (arith, x, z))

  two_within : (bytes w : ℕ) → IsPointerSize bytes → w ≤ bytes → max 2 w ≤ bytes
  two_within bytes w size l =
      ⊎_elim (λ (r : bytes ≡ 2). omega (arith, r, l)) (λ (r : bytes ≡ 3). omega (arith, r, l)) size

  abbrev first_moved : (t a b : Temp) → ℕ → Need → Need
  first_moved t a b w need = sides_needed t a b (pointer_wanted w) (all_or_none b.bytes w) need

  abbrev second_moved : (t a b : Temp) → ℕ → Need → Need
  second_moved t a b w need = sides_needed t a b (all_or_none a.bytes w) (pointer_wanted w) need

  -- a pointer that a temporary holds
  abbrev HoldsPointer : Mach → Temp → PointerValue → Type 0
  HoldsPointer m a x = m.temps a.at ≡ Some (record { bytes = a.bytes; content = content_of a.bytes (Pointer x) })

  addressed : (need : Need) (m : Mach) (v : View) (a : Temp) (x : PointerValue) → M need m v → HasHome slots a → HoldsPointer m a x
      → IsAddressed p a.bytes x
  addressed need m v a x h ia q = (pointer_low p e slots home base place y need m v a x 0 h ia q (omega arith)).1

  -- all its bytes
  whole_number : (need : Need) (m : Mach) (v : View) (a : Temp) (x : PointerValue) → M need m v → HasHome slots a → HoldsPointer m a x
      → IsPointerSize a.bytes → a.bytes ≤ wanted need a → value v.at (base a) a.bytes ≡ number_of (place_of p place a.bytes x)
  whole_number need m v a x h ia q s l =
      let g = pointer_low p e slots home base place y need m v a x a.bytes h ia q l in
      g.0 ∙ kept_below (number_of (place_of p place a.bytes x)) (256 ^ a.bytes)
      (number_below p place (have p e slots home base place y) a.bytes x s g.1)

  -- how a result goes on
  abbrev Onward : ℕ → List PlainIr → Temp → Mach → State → Result Value Undefined → Outcome Value
  Onward n rest t m st r = next (given r st) (λ u s3. R (suc n) rest (machine (with_temp t u m.temps) s3))

  -- ---- a pointer and a number of elements

  -- by an index that stands anywhere
  index_passes : (own : List AsmItem) (i : PlainIr) (minus signed : Bool) (t a : Temp) (l : Location) (from bytes size low : ℕ)
      (x : PointerValue) (rest : List PlainIr) (n pc : ℕ) (need0 : Need) (m : Mach) (v : View) → link.core ≡ e.core → HasHome slots t
      → HasHome slots a → StandsFrom e l bytes from Own → MayBeInZ l from bytes
      → (can_add signed l (home t) bytes (size % 65536) ≡ true → IsAside p e slots home base place y t from bytes)
      → 1 ≤ bytes → t.bytes ≡ a.bytes
      → IsPointerSize a.bytes → IsIntegerSize bytes
      → own ≡ offset_code link.core minus signed (home a) l (home t) (max 2 (wanted (needs at rest) t)) bytes size
      (wanted (needs at rest) t)
      → 640 ≤ op_steps i → HoldsPointer m a x
      → ((wanted (needs at rest) t == 0) ≡ false
      → (max 2 (wanted (needs at rest) t) ≤ wanted need0 a) × (value v.at from bytes ≡ low) × (low < 256 ^ bytes))
      → HasAt e (own ++ items rest) pc end → ((u : ℕ) → u ≢ t.at → needs at rest u ≤ need0 u) → M need0 m v → Rest (suc n) rest
      → G (suc n) m.state.work pc v (Onward n rest t m (worked (op_steps i) m.state)
      (as_pointer (sum_of_pointer x (referent_of p x (worked (op_steps i) m.state))
      (moved_elements minus (number_of_bytes signed bytes low)) size)))
  index_passes own i minus signed t a l from bytes size low x rest n pc need0 m v one_core it ia il free aside some same sa sb code_is
      room qa there stands more h f =
      by_pointer x qa (sum_of_pointer x (referent_of p x st) elements size) refl
    where
      st : State
      st = worked (op_steps i) m.state

      w : ℕ
      w = wanted (needs at rest) t

      elements : ℤ
      elements = moved_elements minus (number_of_bytes signed bytes low)

      scale : List AsmItem
      scale = scale_index_code l signed bytes (size % 65536)

      -- so many bytes are moved
      some_bytes : ℕ
      some_bytes = max 2 w

      moved : List AsmItem
      moved = moved_code link.core some_bytes minus (home t)

      code_of_bytes : ℕ → List AsmItem
      code_of_bytes bytes = scale ++ (move_code (home a) (home t) bytes ++ moved_code link.core bytes minus (home t))

      code : List AsmItem
      code = code_of_bytes some_bytes

      indexed : List AsmItem
      indexed = indexed_code minus (home a) l (home t) some_bytes bytes (size % 65536)

      takes : Bool
      takes = takes_index link.core signed l (home t) some_bytes bytes (size % 65536)

      moved_form : (all_straight moved ≡ true) × (code_steps moved ≤ 20)
      moved_form = by_far (is_far link.core some_bytes)
        where
          far : List AsmItem
          far = advance_far_code minus (home t)

          near : List AsmItem
          near = advance_code minus (home t)

          by_far : (b : Bool) → (all_straight (if b then far else near) ≡ true) × (code_steps (if b then far else near) ≤ 20)
          by_far true =
              let short = y.pointers.far.steps_short minus (home t) in
              let most = short.at_most in
              (short.straight, omega (arith, most))
          by_far false =
              let short = (y.pointers.steps_short l (home t) signed minus bytes (size % 65536)).1 in
              let most = short.at_most in
              (short.straight, omega (arith, most))

      by_pointer : (x : PointerValue) → HoldsPointer m a x → (r : Result PointerValue Undefined)
          → sum_of_pointer x (referent_of p x st) elements size ≡ r
          → G (suc n) m.state.work pc v (Onward n rest t m st (as_pointer r))
      by_pointer x q (Err point) u = tt
      by_pointer None q (Ok z) u = absurd cc
      by_pointer (Some o) q (Ok z) u = by_need (w == 0) refl
        where
          into : IsPointerIn p a.bytes o
          into = addressed need0 m v a (Some o) h ia q

          moves : IsMoved p o (elements *ℤ pos size) z
          moves = moved_is p o st (elements *ℤ pos size) z into.pointed u

          fits : IsContent t.bytes (content_of t.bytes (Pointer z))
          fits = subst (λ (k : PointerValue). IsContent t.bytes (content_of t.bytes (Pointer k))) (sym moves.is)
              (subst (λ (k : ℕ). IsPointerIn p k moves.to) (sym same) (moved_pointer p a.bytes o (elements *ℤ pos size) z into moves))

          by_need : (k : Bool) → (w == 0) ≡ k → G (suc n) m.state.work pc v
              (R (suc n) rest (resulted t (content_of t.bytes (Pointer z)) (op_steps i) m))
          by_need true k =
              no_code_passes own i t (content_of t.bytes (Pointer z)) rest n pc need0 m v it
              (code_is ∙ ap (λ j. if j then [] else (if takes then indexed else code)) k) k fits stands more h room f
          by_need false k = by_way takes refl
            where
              g : (some_bytes ≤ wanted need0 a) × (value v.at from bytes ≡ low) × (low < 256 ^ bytes)
              g = there k

              is_index : IsIndex (number_of_bytes signed bytes low) (index_of signed bytes low)
              is_index = index_is signed bytes low sb g.2

              move : List AsmItem
              move = move_code (home a) (home t) some_bytes

              done : List AsmItem → Type 0
              done items = M (needs at rest) (resulted t (content_of t.bytes (Pointer z)) (op_steps i) m) (block e items v)

              -- all bytes are moved, or the two of the address
              two_there : (few : w < 3) → value v.at (base a) 2 ≡ number_of (place_of p place a.bytes (Some o)) % 256 ^ 2
              two_there few =
                  let enough = g.0 in
                  (pointer_low p e slots home base place y need0 m v a (Some o) 2 h ia q (omega (arith, enough))).0

              all_there : a.bytes ≡ some_bytes → value v.at (base a) a.bytes ≡ number_of (place_of p place a.bytes (Some o))
              all_there all_bytes = let enough = g.0 in whole_number need0 m v a (Some o) h ia q sa (omega (arith, enough, all_bytes))

              scaled_done : done code
              scaled_done =
                  ⊎_elim
                  (λ (few : w < 3). subst (λ bytes. done (code_of_bytes bytes)) (two_bytes w few)
                  (low_offset_matches p e slots home base place y link.core minus signed t a l from bytes size (op_steps i) low
                  (number_of_bytes signed bytes low) o z (needs at rest) need0 m v
                  it ia il free some same into (omega (arith, few)) (two_there few) g.1 is_index moves more h))
                  (λ (all_three : 3 ≤ w).
                  let all_bytes = every_byte t a w same sa (wanted_most (needs at rest) t) all_three in
                  subst (λ bytes. done (code_of_bytes bytes)) all_bytes
                  (offset_matches p e slots home base place y link.core one_core minus signed t a l from bytes size (op_steps i) low
                  (number_of_bytes signed bytes low) o z (needs at rest) need0 m v
                  it ia il free some same into (all_there all_bytes) g.1 is_index moves more h))
                  (cases_lt w 3)

              indexed_done : takes ≡ true → done indexed
              indexed_done way =
                  let can = (and_parts (not (is_far link.core some_bytes)) (can_add signed l (home t) bytes (size % 65536)) way).1 in
                  ⊎_elim
                  (λ (few : w < 3). subst (λ n. done (indexed_code minus (home a) l (home t) n bytes (size % 65536))) (two_bytes w few)
                  (low_indexed_matches p e slots home base place y minus signed t a l from bytes size (op_steps i) low
                  (number_of_bytes signed bytes low) o z (needs at rest) need0 m v
                  it ia il (aside can) some same can into (omega (arith, few)) (two_there few) g.1 is_index moves more h))
                  (λ (all_three : 3 ≤ w).
                  let all_bytes = every_byte t a w same sa (wanted_most (needs at rest) t) all_three in
                  subst (λ n. done (indexed_code minus (home a) l (home t) n bytes (size % 65536))) all_bytes
                  (indexed_matches p e slots home base place y link.core one_core minus signed t a l from bytes size (op_steps i) low
                  (number_of_bytes signed bytes low) o z (needs at rest) need0 m v
                  it ia il (aside can) some same
                  (subst (λ n. takes_index link.core signed l (home t) n bytes (size % 65536) ≡ true) (sym all_bytes) way)
                  into (all_there all_bytes) g.1 is_index moves more h))
                  (cases_lt w 3)

              by_way : (way : Bool) → takes ≡ way → G (suc n) m.state.work pc v
                  (R (suc n) rest (resulted t (content_of t.bytes (Pointer z)) (op_steps i) m))
              by_way true way =
                  let can = (and_parts (not (is_far link.core some_bytes)) (can_add signed l (home t) bytes (size % 65536)) way).1 in
                  let add = add_index_code minus l (home t) bytes (size % 65536) in
                  let short = y.pointers.added_short minus signed l (home t) bytes (size % 65536) can in
                  let steps = steps-append move add in
                  let steps1 = move_steps (home a) (home t) some_bytes in
                  let most_add = short.at_most in
                  let most = it.most in
                  own_passes own i indexed t (content_of t.bytes (Pointer z)) rest n pc m v
                  (code_is ∙ ap (λ j. if j then [] else (if takes then indexed else code)) k ∙ ap (λ j. if j then indexed else code) way)
                  (straight-append move add (move_straight (home a) (home t) some_bytes) short.straight)
                  (omega (arith, steps, steps1, most_add, most)) room stands (indexed_done way) f
              by_way false way =
                  let short = y.pointers.steps_short l (home t) signed minus bytes (size % 65536) in
                  let behind = straight-append move moved (move_straight (home a) (home t) some_bytes) moved_form.0 in
                  let steps = steps-append scale (move ++ moved) in
                  let steps1 = steps-append move moved in
                  let steps2 = move_steps (home a) (home t) some_bytes in
                  let most_scale = short.0.at_most in
                  let most_advance = moved_form.1 in
                  let most = it.most in
                  own_passes own i code t (content_of t.bytes (Pointer z)) rest n pc m v
                  (code_is ∙ ap (λ j. if j then [] else (if takes then indexed else code)) k ∙ ap (λ j. if j then indexed else code) way)
                  (straight-append scale (move ++ moved) short.0.straight behind)
                  (omega (arith, steps, steps1, steps2, most_scale, most_advance, most)) room stands scaled_done f

  -- by one that stands where its temporary does
  offset_passes : (i : PlainIr) (minus signed : Bool) (t a b : Temp) (size low : ℕ) (x : PointerValue) (rest : List PlainIr) (n pc : ℕ)
      (need0 : Need) (m : Mach) (v : View) → link.core ≡ e.core → HasHome slots t → HasHome slots a → HasHome slots b → t.bytes ≡ a.bytes
      → IsPointerSize a.bytes → IsIntegerSize b.bytes
      → code_of i rest ≡ offset_code link.core minus signed (home a) (home b) (home t) (max 2 (wanted (needs at rest) t)) b.bytes size
      (wanted (needs at rest) t)
      → 640 ≤ op_steps i → HoldsPointer m a x → m.temps b.at ≡ Some (record { bytes = b.bytes; content = bits low })
      → ((wanted (needs at rest) t == 0) ≡ false → (max 2 (wanted (needs at rest) t) ≤ wanted need0 a) × (b.bytes ≤ wanted need0 b))
      → HasAt e (code_of i rest ++ items rest) pc end → ((u : ℕ) → u ≢ t.at → needs at rest u ≤ need0 u) → M need0 m v → Rest (suc n) rest
      → G (suc n) m.state.work pc v (Onward n rest t m (worked (op_steps i) m.state)
      (as_pointer (sum_of_pointer x (referent_of p x (worked (op_steps i) m.state))
      (moved_elements minus (number_of_bytes signed b.bytes low)) size)))
  offset_passes i minus signed t a b size low x rest n pc need0 m v one_core it ia ib same sa sb code_is room qa qb there stands more h f =
      index_passes (code_of i rest) i minus signed t a (home b) (base b) b.bytes size low x rest n pc need0 m v one_core it ia
      (y.layout.temps_at b ib) (inl (leaves_z (base b) b.bytes b.bytes (omega arith) (y.layout.temps_work b ib)))
      (λ can. temp_aside p e slots home base place y signed t b (size % 65536) it ib can) ib.some same sa sb
      code_is room qa held stands more h f
    where
      held : (wanted (needs at rest) t == 0) ≡ false
          → (max 2 (wanted (needs at rest) t) ≤ wanted need0 a) × (value v.at (base b) b.bytes ≡ low) × (low < 256 ^ b.bytes)
      held some =
          let l = there some in
          let g = at_width p e slots home base place y need0 m v b _ b.bytes h ib qb refl l.1 in
          (l.0, g.0 ∙ kept_below low (256 ^ b.bytes) g.1, g.1)

  -- the same where the number of elements is known, of which nothing is needed
  known_passes : (i : PlainIr) (minus signed : Bool) (t a b : Temp) (number : TakenNumber) (size low : ℕ) (x : PointerValue)
      (rest : List PlainIr) (n pc : ℕ) (need0 : Need) (m : Mach) (v : View) → link.core ≡ e.core → HasHome slots t → HasHome slots a
      → t.bytes ≡ a.bytes → IsPointerSize a.bytes → IsIntegerSize b.bytes → low ≡ low_bytes b.bytes number.number
      → known_code (Some (as_known number)) i rest
      ≡ known_offset_code link.core minus signed (home a) (home t) (max 2 (wanted (needs at rest) t)) b.bytes
      (low_bytes 16 number.number) size (wanted (needs at rest) t)
      → 640 ≤ op_steps i → HoldsPointer m a x → ((wanted (needs at rest) t == 0) ≡ false
      → max 2 (wanted (needs at rest) t) ≤ wanted need0 a)
      → HasAt e (known_code (Some (as_known number)) i rest ++ items rest) pc end → ((u : ℕ) → u ≢ t.at → needs at rest u ≤ need0 u)
      → M need0 m v → Rest (suc n) rest
      → G (suc n) m.state.work pc v (Onward n rest t m (worked (op_steps i) m.state)
      (as_pointer (sum_of_pointer x (referent_of p x (worked (op_steps i) m.state))
      (moved_elements minus (number_of_bytes signed b.bytes low)) size)))
  known_passes i minus signed t a b number size low x rest n pc need0 m v one_core it ia same sa sb is code_is room qa there stands more h f =
      by_pointer x qa (sum_of_pointer x (referent_of p x st) elements size) refl
    where
      st : State
      st = worked (op_steps i) m.state

      w : ℕ
      w = wanted (needs at rest) t

      elements : ℤ
      elements = moved_elements minus (number_of_bytes signed b.bytes low)

      bits_known : ℕ
      bits_known = low_bytes 16 number.number

      offset : ℕ
      offset = known_offset minus (known_bytes signed b.bytes bits_known size)

      -- so many bytes are moved
      some_bytes : ℕ
      some_bytes = max 2 w

      member : List AsmItem
      member = member_code link.core some_bytes (home t) offset

      code_of_bytes : ℕ → List AsmItem
      code_of_bytes bytes = move_code (home a) (home t) bytes ++ member_code link.core bytes (home t) offset

      code : List AsmItem
      code = code_of_bytes some_bytes

      member_form : (all_straight member ≡ true) × (code_steps member ≤ 9)
      member_form = by_far (is_far link.core some_bytes)
        where
          far : List AsmItem
          far = field_far_code (home t) offset

          near : List AsmItem
          near = field_code (home t) offset

          by_far : (b : Bool) → (all_straight (if b then far else near) ≡ true) × (code_steps (if b then far else near) ≤ 9)
          by_far true = ((y.pointers.far.straight 0 offset (home t) (home t) 0).1, (y.pointers.far.take 0 offset (home t) (home t) 0).1.1)
          by_far false =
              let take = (y.pointers.take 0 offset None (home t) (home t) 0).1.1 in
              ((y.pointers.straight 0 offset None (home t) (home t) 0).1, omega (arith, take))

      by_pointer : (x : PointerValue) → HoldsPointer m a x → (r : Result PointerValue Undefined)
          → sum_of_pointer x (referent_of p x st) elements size ≡ r
          → G (suc n) m.state.work pc v (Onward n rest t m st (as_pointer r))
      by_pointer x q (Err point) u = tt
      by_pointer None q (Ok z) u = absurd cc
      by_pointer (Some o) q (Ok z) u = by_need (w == 0) refl
        where
          into : IsPointerIn p a.bytes o
          into = addressed need0 m v a (Some o) h ia q

          moves : IsMoved p o (elements *ℤ pos size) z
          moves = moved_is p o st (elements *ℤ pos size) z into.pointed u

          fits : IsContent t.bytes (content_of t.bytes (Pointer z))
          fits = subst (λ (k : PointerValue). IsContent t.bytes (content_of t.bytes (Pointer k))) (sym moves.is)
              (subst (λ (k : ℕ). IsPointerIn p k moves.to) (sym same) (moved_pointer p a.bytes o (elements *ℤ pos size) z into moves))

          index : IsIndex (number_of_bytes signed b.bytes low) (known_index signed b.bytes bits_known)
          index = known_index_is signed b.bytes low number.number sb is

          by_need : (k : Bool) → (w == 0) ≡ k → G (suc n) m.state.work pc v
              (R (suc n) rest (resulted t (content_of t.bytes (Pointer z)) (op_steps i) m))
          by_need true k =
              nothing_passes (Some (as_known number)) i t (content_of t.bytes (Pointer z)) rest n pc need0 m v it
              (code_is ∙ ap (λ j. if j then [] else code) k) k fits stands more h room f
          by_need false k =
              let move = move_code (home a) (home t) some_bytes in
              let steps = steps-append move member in
              let steps1 = move_steps (home a) (home t) some_bytes in
              let steps2 = member_form.1 in
              let most = it.most in
              straight_passes (Some (as_known number)) i code t (content_of t.bytes (Pointer z)) rest n pc m v
              (code_is ∙ ap (λ j. if j then [] else code) k)
              (straight-append move member (move_straight (home a) (home t) some_bytes) member_form.0)
              (omega (arith, steps, steps1, steps2, most)) room stands (by_bytes (there k)) f
            where
              done : List AsmItem → Type 0
              done items = M (needs at rest) (resulted t (content_of t.bytes (Pointer z)) (op_steps i) m) (block e items v)

              -- all bytes, or the two of the address
              by_bytes : some_bytes ≤ wanted need0 a → done code
              by_bytes enough =
                  ⊎_elim
                  (λ (few : w < 3).
                  let number_at = (pointer_low p e slots home base place y need0 m v a (Some o) 2 h ia q (omega (arith, enough))).0 in
                  subst (λ bytes. done (code_of_bytes bytes)) (two_bytes w few)
                  (low_known_matches p e slots home base place y link.core minus signed t a b.bytes bits_known size (op_steps i)
                  (number_of_bytes signed b.bytes low) o z (needs at rest) need0 m v it ia same into (omega (arith, few)) number_at index
                  moves more h))
                  (λ (all_three : 3 ≤ w).
                  let all_bytes = every_byte t a w same sa (wanted_most (needs at rest) t) all_three in
                  let number_at = whole_number need0 m v a (Some o) h ia q sa (omega (arith, enough, all_bytes)) in
                  subst (λ bytes. done (code_of_bytes bytes)) all_bytes
                  (known_matches p e slots home base place y link.core one_core minus signed t a b.bytes bits_known size (op_steps i)
                  (number_of_bytes signed b.bytes low) o z (needs at rest) need0 m v it ia same into number_at index moves more h))
                  (cases_lt w 3)

  offset_is : (op : BinOp) (count : PlainType) → HaveOffsetTypes op count → (a : Operand) (x : PointerValue) (k : ℤ)
      → offset_result op a x k ≡ as_pointer (sum_of_pointer x a.of (moved_elements (is_difference op) k) a.element)
  offset_is Add count h a x k = refl
  offset_is Sub count h a x k = refl
  offset_is op count h a x k = absurd h

  pointer_first : (op : BinOp) (ty : PlainType) (mode : Mode) (t a : Temp) (space : SpaceId) (const : Bool)
      (to : PlainType) (b : Temp) (signed : Bool) (bytes : ℕ)
      (rest : List PlainIr) (n pc : ℕ) (m : Mach) (v : View)
      → IsPointerBinary p slots op t a b ty (pointer space const to) (integer signed bytes)
      → HasAt e (code_of (binary_op op ty mode t a (pointer space const to) b (integer signed bytes)) rest ++ items rest) pc end
      → M (first_moved t a b (wanted (needs at rest) t) (needs at rest)) m v
      → link.core ≡ e.core → Rest (suc n) rest → G (suc n) m.state.work pc v
      (P n (binary_op op ty mode t a (pointer space const to) b (integer signed bytes)) rest m)
  pointer_first op ty mode t a space const to b signed bytes rest n pc m v k stands h one_core f =
      from_pointer p place e space const to a m.temps st _ (suc n) m.state.work pc v
      (λ x qa into. from_numeric p place e (integer signed bytes) b m.temps st _ (suc n) m.state.work pc v tt (sym k.right_bytes)
      (λ low qb.
      subst (λ r. G (suc n) m.state.work pc v (Onward n rest t m st r))
      (sym (offset_is op (integer signed bytes) k.types.0 (operand_of p (pointer space const to) (Pointer x) st)
      x (number_of_bytes signed b.bytes low)))
      (offset_passes i (is_difference op) signed t a b (size_of_type p.structs to) low x rest n pc
      (first_moved t a b w (needs at rest)) m v one_core k.result k.left k.right
      same (pointer_size a.bytes space k.left_bytes) (subst IsIntegerSize (sym k.right_bytes) k.right_known) refl
      (binary_room op ty (pointer space const to) (integer signed bytes)) qa qb
      there stands
      (sides_other t a b (pointer_wanted w) (all_or_none b.bytes w) (needs at rest)) h f)))
    where
      i : PlainIr
      i = binary_op op ty mode t a (pointer space const to) b (integer signed bytes)

      st : State
      st = worked (op_steps i) m.state

      w : ℕ
      w = wanted (needs at rest) t

      same : t.bytes ≡ a.bytes
      same = k.result_bytes ∙ ap scalar_size k.types.1 ∙ sym k.left_bytes

      there : (w == 0) ≡ false → (max 2 w ≤ wanted (first_moved t a b w (needs at rest)) a)
          × (b.bytes ≤ wanted (first_moved t a b w (needs at rest)) b)
      there some =
          let moved = pointer_some w some in
          let all_bytes = all_when b.bytes w some in
          let l = sides_there t a b (pointer_wanted w) (all_or_none b.bytes w) (needs at rest) in
          let size = pointer_size a.bytes space k.left_bytes in
          let most = wanted_most (needs at rest) t in
          let few = two_within a.bytes w size (omega (arith, most, same)) in
          (omega (arith, moved, l.0, few), omega (arith, all_bytes, l.1))

  -- ---- a pointer that is told its index

  -- R30 and R31 hold what a temporary does
  abbrev pub HoldsIndex : Temp → Mach → View → Type 0
  HoldsIndex b m v = (x : Held) → m.temps b.at ≡ Some x → x.bytes ≡ b.bytes → HoldsContent p place v.at 30 b.bytes b.bytes x.content

  -- the code of an operation that has been told of an index
  abbrev pub told_code : Option RightNumber → PlainIr → List PlainIr → List AsmItem
  told_code known i rest = own_code p home link (Some Index) None known (needs at rest) i

  index_first : (own : List AsmItem) (op : BinOp) (ty : PlainType) (mode : Mode) (t a : Temp) (space : SpaceId) (const : Bool)
      (to : PlainType) (b : Temp) (signed : Bool) (bytes : ℕ) (rest : List PlainIr) (n pc : ℕ) (need0 : Need) (m : Mach) (v : View)
      → IsPointerBinary p slots op t a b ty (pointer space const to) (integer signed bytes) → b.bytes ≤ 2
      → own ≡ offset_code link.core (is_difference op) signed (home a) z_pair (home t) (max 2 (wanted (needs at rest) t)) b.bytes
      (size_of_type p.structs to) (wanted (needs at rest) t)
      → HasAt e (own ++ items rest) pc end → HoldsIndex b m v
      → pointer_wanted (wanted (needs at rest) t) ≤ need0 a.at
      → ((u : ℕ) → u ≢ t.at → needs at rest u ≤ need0 u) → M need0 m v → link.core ≡ e.core → Rest (suc n) rest
      → G (suc n) m.state.work pc v (P n (binary_op op ty mode t a (pointer space const to) b (integer signed bytes)) rest m)
  index_first own op ty mode t a space const to b signed bytes rest n pc need0 m v k few code_is stands held there more h one_core f =
      from_pointer p place e space const to a m.temps st _ (suc n) m.state.work pc v
      (λ x qa into. from_numeric p place e (integer signed bytes) b m.temps st _ (suc n) m.state.work pc v tt (sym k.right_bytes)
      (λ low qb.
      subst (λ r. G (suc n) m.state.work pc v (Onward n rest t m st r))
      (sym (offset_is op (integer signed bytes) k.types.0 (operand_of p (pointer space const to) (Pointer x) st)
      x (number_of_bytes signed b.bytes low)))
      (index_passes own i (is_difference op) signed t a z_pair 30 b.bytes (size_of_type p.structs to) low x rest n pc need0 m v one_core
      k.result k.left (z_stands e b.bytes) (inr (refl, few)) (λ can. z_aside p e slots home base place y t b.bytes k.result few)
      k.right.some same (pointer_size a.bytes space k.left_bytes)
      (subst IsIntegerSize (sym k.right_bytes) k.right_known) code_is
      (binary_room op ty (pointer space const to) (integer signed bytes)) qa
      (λ some. let g = held _ qb refl in (enough some, g.0 ∙ kept_below low (256 ^ b.bytes) g.1, g.1)) stands more h f)))
    where
      i : PlainIr
      i = binary_op op ty mode t a (pointer space const to) b (integer signed bytes)

      st : State
      st = worked (op_steps i) m.state

      same : t.bytes ≡ a.bytes
      same = k.result_bytes ∙ ap scalar_size k.types.1 ∙ sym k.left_bytes

      enough : (wanted (needs at rest) t == 0) ≡ false → max 2 (wanted (needs at rest) t) ≤ wanted need0 a
      enough some =
          let w = wanted (needs at rest) t in
          let moved = pointer_some w some in
          let most = wanted_most (needs at rest) t in
          let few = two_within a.bytes w (pointer_size a.bytes space k.left_bytes) (omega (arith, most, same)) in
          omega (arith, moved, there, few)

  -- what is needed before an operator that takes a number
  abbrev first_needed : (t a : Temp) → ℕ → Need → Need
  first_needed t a w need = at_least a.at (pointer_wanted w) (without t.at need)

  known_first : (op : BinOp) (number : TakenNumber) (ty : PlainType) (mode : Mode) (t a : Temp) (space : SpaceId) (const : Bool)
      (to : PlainType) (b : Temp) (signed : Bool) (bytes : ℕ)
      (rest : List PlainIr) (n pc : ℕ) (m : Mach) (v : View)
      → IsPointerBinary p slots op t a b ty (pointer space const to) (integer signed bytes)
      → ((low : ℕ) → m.temps b.at ≡ Some (record { bytes = b.bytes; content = bits low }) → low ≡ low_bytes b.bytes number.number)
      → HasAt e (known_code (Some (as_known number)) (binary_op op ty mode t a (pointer space const to) b (integer signed bytes)) rest
      ++ items rest) pc end
      → M (first_needed t a (wanted (needs at rest) t) (needs at rest)) m v
      → link.core ≡ e.core → Rest (suc n) rest → G (suc n) m.state.work pc v
      (P n (binary_op op ty mode t a (pointer space const to) b (integer signed bytes)) rest m)
  known_first op number ty mode t a space const to b signed bytes rest n pc m v k held stands h one_core f =
      from_pointer p place e space const to a m.temps st _ (suc n) m.state.work pc v
      (λ x qa into. from_numeric p place e (integer signed bytes) b m.temps st _ (suc n) m.state.work pc v tt (sym k.right_bytes)
      (λ low qb.
      subst (λ r. G (suc n) m.state.work pc v (Onward n rest t m st r))
      (sym (offset_is op (integer signed bytes) k.types.0 (operand_of p (pointer space const to) (Pointer x) st)
      x (number_of_bytes signed b.bytes low)))
      (known_passes i (is_difference op) signed t a b number (size_of_type p.structs to) low x rest n pc
      (first_needed t a w (needs at rest)) m v one_core k.result k.left
      same (pointer_size a.bytes space k.left_bytes) (subst IsIntegerSize (sym k.right_bytes) k.right_known) (held low qb) refl
      (binary_room op ty (pointer space const to) (integer signed bytes)) qa there stands more h f)))
    where
      i : PlainIr
      i = binary_op op ty mode t a (pointer space const to) b (integer signed bytes)

      st : State
      st = worked (op_steps i) m.state

      w : ℕ
      w = wanted (needs at rest) t

      same : t.bytes ≡ a.bytes
      same = k.result_bytes ∙ ap scalar_size k.types.1 ∙ sym k.left_bytes

      there : (w == 0) ≡ false → max 2 w ≤ wanted (first_needed t a w (needs at rest)) a
      there some =
          let moved = pointer_some w some in
          let l = least_here a.at (pointer_wanted w) (without t.at (needs at rest)) in
          let size = pointer_size a.bytes space k.left_bytes in
          let most = wanted_most (needs at rest) t in
          let few = two_within a.bytes w size (omega (arith, most, same)) in
          omega (arith, moved, l, few)

      more : (u : ℕ) → u ≢ t.at → needs at rest u ≤ first_needed t a w (needs at rest) u
      more u d =
          let r = without_other t.at u (needs at rest) d in
          let s = least_other a.at (pointer_wanted w) u (without t.at (needs at rest)) in
          omega arith

  pointer_second : (ty : PlainType) (mode : Mode) (t a : Temp) (signed : Bool) (bytes : ℕ) (b : Temp)
      (space : SpaceId) (const : Bool) (to : PlainType)
      (rest : List PlainIr) (n pc : ℕ) (m : Mach) (v : View)
      → IsPointerBinary p slots Add t a b ty (integer signed bytes) (pointer space const to)
      → HasAt e (code_of (binary_op Add ty mode t a (integer signed bytes) b (pointer space const to)) rest ++ items rest) pc end
      → M (second_moved t a b (wanted (needs at rest) t) (needs at rest)) m v
      → link.core ≡ e.core → Rest (suc n) rest → G (suc n) m.state.work pc v
      (P n (binary_op Add ty mode t a (integer signed bytes) b (pointer space const to)) rest m)
  pointer_second ty mode t a signed bytes b space const to rest n pc m v k stands h one_core f =
      from_numeric p place e (integer signed bytes) a m.temps st _ (suc n) m.state.work pc v tt (sym k.left_bytes)
      (λ low qa. from_pointer p place e space const to b m.temps st _ (suc n) m.state.work pc v
      (λ x qb into.
      offset_passes i false signed t b a (size_of_type p.structs to) low x rest n pc
      (second_moved t a b w (needs at rest)) m v one_core k.result k.right k.left
      same (pointer_size b.bytes space k.right_bytes) (subst IsIntegerSize (sym k.left_bytes) k.left_known) refl
      (binary_room Add ty (integer signed bytes) (pointer space const to)) qb qa
      there stands
      (sides_other t a b (all_or_none a.bytes w) (pointer_wanted w) (needs at rest)) h f))
    where
      i : PlainIr
      i = binary_op Add ty mode t a (integer signed bytes) b (pointer space const to)

      st : State
      st = worked (op_steps i) m.state

      w : ℕ
      w = wanted (needs at rest) t

      same : t.bytes ≡ b.bytes
      same = k.result_bytes ∙ ap scalar_size k.types.2 ∙ sym k.right_bytes

      there : (w == 0) ≡ false
          → (max 2 w ≤ wanted (second_moved t a b w (needs at rest)) b) × (a.bytes ≤ wanted (second_moved t a b w (needs at rest)) a)
      there some =
          let moved = pointer_some w some in
          let all_bytes = all_when a.bytes w some in
          let l = sides_there t a b (all_or_none a.bytes w) (pointer_wanted w) (needs at rest) in
          let size = pointer_size b.bytes space k.right_bytes in
          let most = wanted_most (needs at rest) t in
          let few = two_within b.bytes w size (omega (arith, most, same)) in
          (omega (arith, moved, l.1, few), omega (arith, all_bytes, l.0))

  -- ---- two pointers

  difference_follows : (ty : PlainType) (mode : Mode) (t a : Temp) (space : SpaceId) (const : Bool) (to : PlainType)
      (b : Temp) (space2 : SpaceId) (const2 : Bool) (to2 : PlainType)
      (rest : List PlainIr) (n pc : ℕ) (m : Mach) (v : View)
      → IsPointerBinary p slots Sub t a b ty (pointer space const to) (pointer space2 const2 to2)
      → HasAt e (code_of (binary_op Sub ty mode t a (pointer space const to) b (pointer space2 const2 to2)) rest ++ items rest) pc end
      → M (operands_needed t a b (wanted (needs at rest) t) (needs at rest)) m v
      → Rest (suc n) rest → G (suc n) m.state.work pc v
      (P n (binary_op Sub ty mode t a (pointer space const to) b (pointer space2 const2 to2)) rest m)
  difference_follows ty mode t a space const to b space2 const2 to2 rest n pc m v k stands h f =
      from_pointer p place e space const to a m.temps st _ (suc n) m.state.work pc v
      (λ x qa into. from_pointer p place e space2 const2 to2 b m.temps st _ (suc n) m.state.work pc v
      (λ z qb also. by_result x z qa qb (difference_of_pointers size x (referent_of p x st) z (referent_of p z st)) refl))
    where
      i : PlainIr
      i = binary_op Sub ty mode t a (pointer space const to) b (pointer space2 const2 to2)

      st : State
      st = worked (op_steps i) m.state

      w : ℕ
      w = wanted (needs at rest) t

      need0 : Need
      need0 = operands_needed t a b w (needs at rest)

      size : ℕ
      size = size_of_type p.structs to

      same : b.bytes ≡ a.bytes
      same = k.right_bytes ∙ ap width (sym k.types.0) ∙ sym k.left_bytes

      size_a : IsPointerSize a.bytes
      size_a = pointer_size a.bytes space k.left_bytes

      room : 640 ≤ op_steps i
      room = binary_room Sub ty (pointer space const to) (pointer space2 const2 to2)

      by_result : (x z : PointerValue) → HoldsPointer m a x → HoldsPointer m b z → (r : Result ℤ Undefined)
          → difference_of_pointers size x (referent_of p x st) z (referent_of p z st) ≡ r
          → G (suc n) m.state.work pc v (Onward n rest t m st (as_number r))
      by_result x z qa qb (Err point) u = tt
      by_result x z qa qb (Ok number) u = by_need (w == 0) refl
        where
          content : Content
          content = bits (low_bytes t.bytes number)

          by_need : (j : Bool) → (w == 0) ≡ j → G (suc n) m.state.work pc v (R (suc n) rest (resulted t content (op_steps i) m))
          by_need true j =
              nothing_passes None i t content rest n pc need0 m v k.result
              (ap (λ d. if d then [] else elements_code (home a) (home b) (home t) size) j) j
              (low_below t.bytes number) stands
              (other_needed t a b w (needs at rest)) h room f
          by_need false j =
              let ia = addressed need0 m v a x h k.left qa in
              let ib = addressed need0 m v b z h k.right qb in
              let far = difference_is p place (have p e slots home base place y) a.bytes size x z
              (referent_of p x st) (referent_of p z st) number k.left_known.1 ia
              (subst (λ (d : ℕ). IsAddressed p d z) same ib) u in
              let left = whole_number need0 m v a x h k.left qa size_a (first_there t a b w (needs at rest) j) in
              let right : value v.at (base b) a.bytes ≡ number_of (place_of p place a.bytes z) =
              subst (λ (d : ℕ). value v.at (base b) d ≡ number_of (place_of p place d z)) same
              (whole_number need0 m v b z h k.right qb (subst IsPointerSize (sym same) size_a) (second_there t a b w (needs at rest) j)) in
              let short = y.pointers.elements_short (home a) (home b) (home t) size in
              let most = short.at_most in
              straight_passes None i (elements_code (home a) (home b) (home t) size) t content rest n pc m v
              (ap (λ d. if d then [] else elements_code (home a) (home b) (home t) size) j)
              short.straight (omega (arith, most)) room stands
              (difference_matches p e slots home base place y t a b size (op_steps i) x z number (needs at rest)
              need0 m v k.result k.left k.right (k.result_bytes ∙ ap scalar_size k.types.2)
              same size_a k.left_known.1 left right far (other_needed t a b w (needs at rest)) h) f

  -- the code of a relation of two pointers, whose truth value is made in register d
  abbrev related_code : (d : ℕ) → Core → Relation → (l u : Location) → ℕ → List AsmItem
  related_code d core r l u bytes = relation_in_code d r false l u (related_bytes core r bytes)

  related : (d : ℕ) (core : Core) (r : Relation) (l u : Location) (bytes a b pc to : ℕ) (X Z : Place) (v : View)
      → IsPointerSize bytes → StandsFrom e l bytes a Own → StandsFrom e u bytes b Own → HoldsNumbers v → ArePlaces core r X Z
      → value v.at a bytes ≡ number_of X → value v.at b bytes ≡ number_of Z → HasAt e (related_code d core r l u bytes) pc to
      → TellsIn d e (3 + 3 * bytes) pc v to (places_stand r X Z)
  related d core r l u bytes a b pc to X Z v size left right numbers places xl zu stands =
      by_size (related_bytes core r bytes - 1) (let q = some core in omega arith)
    where
      two : 2 ≤ bytes
      two = ⊎_elim (λ (q : bytes ≡ 2). omega arith) (λ (q : bytes ≡ 3). omega arith) size

      order_some : (r : Relation) → 1 ≤ ordered_bytes r bytes
      order_some IsBelow = omega arith
      order_some NotLess = omega arith
      order_some IsSame = omega (arith, two)
      order_some NotEqual = omega (arith, two)

      order_few : (r : Relation) → ordered_bytes r bytes ≤ bytes
      order_few IsBelow = two
      order_few NotLess = two
      order_few IsSame = omega arith
      order_few NotEqual = omega arith

      some : (core : Core) → 1 ≤ related_bytes core r bytes
      some Small = order_some r
      some Large = omega (arith, two)

      few : (core : Core) → related_bytes core r bytes ≤ bytes
      few Small = order_few r
      few Large = omega arith

      told : (core : Core) → ArePlaces core r X Z
          → stand_so r false (related_bytes core r bytes) (value v.at a (related_bytes core r bytes))
          (value v.at b (related_bytes core r bytes)) ≡ places_stand r X Z
      told Small are = places_are_told value_mod r e l u bytes a b X Z v two left right numbers are.0 are.1 xl zu
      told Large are = far_places_are_told r bytes a b X Z v are.0 are.1 are.2 xl zu

      by_size : (m : ℕ) → related_bytes core r bytes ≡ suc m → TellsIn d e (3 + 3 * bytes) pc v to (places_stand r X Z)
      by_size m q =
          let within : suc m ≤ bytes = subst (λ j. j ≤ bytes) q (few core) in
          let truth : stand_so r false (suc m) (value v.at a (suc m)) (value v.at b (suc m)) ≡ places_stand r X Z =
          subst (λ j. stand_so r false j (value v.at a j) (value v.at b j) ≡ places_stand r X Z) q (told core places) in
          let k = relations_are_told_in d r false e l u m a b pc to v (stands_less e l bytes (suc m) a Own within left)
          (stands_less e u bytes (suc m) b Own within right) numbers
          (subst (λ j. HasAt e (relation_in_code d r false l u j) pc to) q stands) in
          let most = k.at_most in
          record {
            steps = k.steps;
            at_most = omega (arith, most, within);
            last = k.last;
            goes = k.goes;
            told = k.told ∙ ap from_bool truth;
            same = k.same;
            inputs = k.inputs;
            safe = k.safe;
            seen = k.seen;
          }

  -- and what comes after it
  related_passes : (r : Relation) (t l u : Temp) (bytes c : ℕ) (X Z : Place) (rest : List PlainIr) (n pc : ℕ)
      (need0 : Need) (m : Mach) (v : View)
      → HasHome slots t → HasHome slots l → HasHome slots u → l.bytes ≡ bytes → u.bytes ≡ bytes
      → IsPointerSize bytes → ArePlaces link.core r X Z
      → value v.at (base l) bytes ≡ number_of X → value v.at (base u) bytes ≡ number_of Z → 640 ≤ c
      → HasAt e ((related_code (truth_register (home t)) link.core r (home l) (home u) bytes ++ truth_at_code (home t)
      (wanted (needs at rest) t)) ++ items rest) pc end
      → ((k : ℕ) → k ≢ t.at → needs at rest k ≤ need0 k) → M need0 m v → Rest (suc n) rest
      → G (suc n) m.state.work pc v (R (suc n) rest (resulted t (bits (low_bytes t.bytes (pos (from_bool (places_stand r X Z))))) c m))
  related_passes r t l u bytes c X Z rest n pc need0 m v it il iu ql qu size places xl zu room stands more h f =
      let k = wanted (needs at rest) t in
      let relation = related_code (truth_register (home t)) link.core r (home l) (home u) bytes in
      let conversion = truth_at_code (home t) k in
      let s1 = has_parts e (relation ++ conversion) (items rest) pc end stands in
      let s2 = has_parts e relation conversion pc s1.0 s1.1 in
      let few : bytes ≤ 3 = ⊎_elim (λ (q : bytes ≡ 2). omega arith) (λ (q : bytes ≡ 3). omega arith) size in
      let left : StandsFrom e (home l) bytes (base l) Own = subst (λ (j : ℕ). StandsFrom e (home l) j (base l) Own)
      ql (y.layout.temps_at l il) in
      let right : StandsFrom e (home u) bytes (base u) Own =
      subst (λ (j : ℕ). StandsFrom e (home u) j (base u) Own) qu (y.layout.temps_at u iu) in
      let told = tells_to (truth_register (home t)) e (3 + 3 * bytes) pc v s2.0 _ h.bytes
      (related (truth_register (home t)) link.core r (home l) (home u) bytes (base l) (base u) pc s2.0 X Z v size left right
      h.bytes places xl zu s2.1) in
      let m1 = resulted t (bits (low_bytes t.bytes (pos (from_bool (places_stand r X Z))))) c m in
      let second = block_goes e conversion s2.0 s1.0 told.last (tell_straight (InRegisters (truth_register (home t))) (home t) k) s2.2 in
      let take = tell_steps (InRegisters (truth_register (home t))) (home t) k in
      let take1 = told.at_most in
      let most = wanted_most (needs at rest) t in
      let eight = it.most in
      let goes = goes_on_to e told.steps (code_steps conversion) pc s2.0 s1.0 v told.last (block e conversion told.last) told.goes second in
      let matches = told_matches p e slots home base place y (places_stand r X Z) (3 + 3 * bytes) pc s2.0 t
      (needs at rest) need0 m v c it told more h in
      after p place e (told.steps + code_steps conversion) (suc n) (suc n) m.state.work m1.state.work pc s1.0 v
      (block e conversion told.last) (R (suc n) rest m1) goes (omega arith)
      (omega (arith, take, take1, most, eight, few, room)) (f s1.0 m1 (block e conversion told.last) s1.2 matches)

  -- what is shown where such a relation holds, and where it does not
  abbrev pub Decided : BinOp → Relation → Bool → PlainType → Mode → (t a : Temp) → PlainType → Temp → PlainType → List PlainIr
      → (n pc : ℕ) → Need → Mach → View → Type 0
  Decided op r exchanged ty mode t a aty b bty rest n pc need0 m v =
      (X Z : Place) → ArePlaces link.core r (first_of exchanged X Z) (first_of exchanged Z X)
      → (a.bytes ≤ wanted need0 a → value v.at (base a) a.bytes ≡ number_of X)
      → (b.bytes ≤ wanted need0 b → value v.at (base b) a.bytes ≡ number_of Z)
      → G (suc n) m.state.work pc v (R (suc n) rest
      (resulted t (bits (low_bytes t.bytes (pos (from_bool (places_stand r (first_of exchanged X Z) (first_of exchanged Z X))))))
      (op_steps (binary_op op ty mode t a aty b bty)) m))

  pub comparison_decided : (op : BinOp) (r : Relation) (exchanged : Bool) → family_of op ≡ Compared r exchanged → is_comparison op ≡ true
      → ((X Z : Place) → places_compare op X Z ≡ places_stand r (first_of exchanged X Z) (first_of exchanged Z X))
      → ((X Z : Place) → MayCompare op X Z → MayRelate r (first_of exchanged X Z) (first_of exchanged Z X))
      → (ty : PlainType) (mode : Mode) (t a : Temp) (space : SpaceId) (const : Bool) (to : PlainType) (b : Temp)
      (space2 : SpaceId) (const2 : Bool) (to2 : PlainType)
      (rest : List PlainIr) (n pc : ℕ) (need0 : Need) (m : Mach) (v : View) → space ≡ space2
      → IsPointerBinary p slots op t a b ty (pointer space const to) (pointer space2 const2 to2) → M need0 m v → link.core ≡ e.core
      → Decided op r exchanged ty mode t a (pointer space const to) b (pointer space2 const2 to2) rest n pc need0 m v
      → G (suc n) m.state.work pc v
      (P n (binary_op op ty mode t a (pointer space const to) b (pointer space2 const2 to2)) rest m)
  comparison_decided op r exchanged is compares relates banks ty mode t a space const to b space2 const2 to2 rest n pc need0 m v
      one_space k h one_core onward =
      from_pointer p place e space const to a m.temps st _ (suc n) m.state.work pc v
      (λ x qa into. from_pointer p place e space2 const2 to2 b m.temps st _ (suc n) m.state.work pc v
      (λ z qb also.
      subst (λ (d : Bool). G (suc n) m.state.work pc v (Onward n rest t m st
      (as_number (if d then comparison_of_pointers op x (referent_of p x st) z (referent_of p z st) else
      difference_of_pointers (size_of_type p.structs to) x (referent_of p x st) z (referent_of p z st)))))
      (sym compares)
      (by_result x z qa qb into (subst (λ (s : SpaceId). IsIntoSpace p s z) (sym one_space) also)
      (comparison_of_pointers op x (referent_of p x st) z (referent_of p z st)) refl)))
    where
      i : PlainIr
      i = binary_op op ty mode t a (pointer space const to) b (pointer space2 const2 to2)

      st : State
      st = worked (op_steps i) m.state

      same : b.bytes ≡ a.bytes
      same = k.right_bytes ∙ ap width (sym one_space) ∙ sym k.left_bytes

      size_a : IsPointerSize a.bytes
      size_a = pointer_size a.bytes space k.left_bytes

      by_result : (x z : PointerValue) → HoldsPointer m a x → HoldsPointer m b z → IsIntoSpace p space x
          → IsIntoSpace p space z → (d : Result ℤ Undefined)
          → comparison_of_pointers op x (referent_of p x st) z (referent_of p z st) ≡ d
          → G (suc n) m.state.work pc v (Onward n rest t m st (as_number d))
      by_result x z qa qb into also (Err point) u = tt
      by_result x z qa qb into also (Ok number) u =
          subst (λ (d : ℤ). G (suc n) m.state.work pc v (R (suc n) rest
          (resulted t (bits (low_bytes t.bytes d)) (op_steps i) m))) (sym number_is) (onward X Z places left right)
        where
          X : Place
          X = place_of p place a.bytes x

          Z : Place
          Z = place_of p place a.bytes z

          ix : IsAddressed p a.bytes x
          ix = addressed need0 m v a x h k.left qa

          iz : IsAddressed p a.bytes z
          iz = subst (λ (d : ℕ). IsAddressed p d z) same (addressed need0 m v b z h k.right qb)

          number_is : number ≡ pos (from_bool (places_stand r (first_of exchanged X Z) (first_of exchanged Z X)))
          number_is =
              subst (λ (d : ℕ). IsAddressed p d x → IsAddressed p d z
              → number ≡ pos (from_bool (places_compare op (place_of p place d x) (place_of p place d z))))
              (sym k.left_bytes)
              (λ c d. comparison_is p place (have p e slots home base place y) op compares space x z st number
              (are_apart p e slots home base place y st h.frames) c d into also u) ix iz
              ∙ ap (λ (d : Bool). pos (from_bool d)) (relates X Z)

          left : a.bytes ≤ wanted need0 a → value v.at (base a) a.bytes ≡ number_of X
          left l = whole_number need0 m v a x h k.left qa size_a l

          right : b.bytes ≤ wanted need0 b → value v.at (base b) a.bytes ≡ number_of Z
          right l = subst (λ (d : ℕ). value v.at (base b) d ≡ number_of (place_of p place d z)) same
              (whole_number need0 m v b z h k.right qb (subst IsPointerSize (sym same) size_a) l)

          -- the relation may be told of them
          places : ArePlaces link.core r (first_of exchanged X Z) (first_of exchanged Z X)
          places = by_link link.core one_core
            where
              places_of : HavePlaces p place
              places_of = have p e slots home base place y

              is_small : Small ≡ e.core → places_of.core ≡ Small
              is_small small = have_core p e slots home base place y ∙ sym small

              both : (Q : Place → Type 0) → Q X → Q Z → (d : Bool) → Q (first_of d X Z) × Q (first_of d Z X)
              both Q x z true = (z, x)
              both Q x z false = (x, z)

              by_link : (core : Core) → core ≡ e.core → ArePlaces core r (first_of exchanged X Z) (first_of exchanged Z X)
              by_link Small small =
                  both IsPlace (is_place p place places_of a.bytes x ix (is_small small))
                  (is_place p place places_of a.bytes z iz (is_small small)) exchanged
              by_link Large large =
                  let far = both IsFarPlace (is_far_place p place places_of a.bytes x ix)
                  (is_far_place p place places_of a.bytes z iz) exchanged in (
                    far.0,
                    far.1,
                    banks X Z (compared_alike p place op compares a.bytes x z (referent_of p x st) (referent_of p z st) number u),
                  )

  comparison_follows : (op : BinOp) (r : Relation) (exchanged : Bool) → family_of op ≡ Compared r exchanged → is_comparison op ≡ true
      → ((X Z : Place) → places_compare op X Z ≡ places_stand r (first_of exchanged X Z) (first_of exchanged Z X))
      → ((X Z : Place) → MayCompare op X Z → MayRelate r (first_of exchanged X Z) (first_of exchanged Z X))
      → (ty : PlainType) (mode : Mode) (t a : Temp) (space : SpaceId) (const : Bool) (to : PlainType) (b : Temp)
      (space2 : SpaceId) (const2 : Bool) (to2 : PlainType)
      (rest : List PlainIr) (n pc : ℕ) (m : Mach) (v : View) → space ≡ space2
      → IsPointerBinary p slots op t a b ty (pointer space const to) (pointer space2 const2 to2)
      → HasAt e (code_of (binary_op op ty mode t a (pointer space const to) b (pointer space2 const2 to2)) rest ++ items rest) pc end
      → M (operands_needed t a b (wanted (needs at rest) t) (needs at rest)) m v
      → link.core ≡ e.core → Rest (suc n) rest → G (suc n) m.state.work pc v
      (P n (binary_op op ty mode t a (pointer space const to) b (pointer space2 const2 to2)) rest m)
  comparison_follows op r exchanged is compares relates banks ty mode t a space const to b space2 const2 to2 rest n pc m v
      one_space k stands h one_core f =
      comparison_decided op r exchanged is compares relates banks ty mode t a space const to b space2 const2 to2 rest n pc need0 m v
      one_space k h one_core (λ X Z places left right. by_need X Z places left right (w == 0) refl)
    where
      i : PlainIr
      i = binary_op op ty mode t a (pointer space const to) b (pointer space2 const2 to2)

      w : ℕ
      w = wanted (needs at rest) t

      need0 : Need
      need0 = operands_needed t a b w (needs at rest)

      same : b.bytes ≡ a.bytes
      same = k.right_bytes ∙ ap width (sym one_space) ∙ sym k.left_bytes

      size_a : IsPointerSize a.bytes
      size_a = pointer_size a.bytes space k.left_bytes

      room : 640 ≤ op_steps i
      room = binary_room op ty (pointer space const to) (pointer space2 const2 to2)

      size : ℕ
      size = size_of_type p.structs to

      code_is : code_of i rest ≡ pointers_code None link.core (Compared r exchanged) (home a) (home b) (home t) a.bytes size w
      code_is = ap (λ (d : Family). pointers_code None link.core d (home a) (home b) (home t) a.bytes size w) is

      by_need : (X Z : Place) → ArePlaces link.core r (first_of exchanged X Z) (first_of exchanged Z X)
          → (a.bytes ≤ wanted need0 a → value v.at (base a) a.bytes ≡ number_of X)
          → (b.bytes ≤ wanted need0 b → value v.at (base b) a.bytes ≡ number_of Z) → (j : Bool) → (w == 0) ≡ j
          → G (suc n) m.state.work pc v (R (suc n) rest
          (resulted t (bits (low_bytes t.bytes (pos (from_bool (places_stand r (first_of exchanged X Z) (first_of exchanged Z X))))))
          (op_steps i) m))
      by_need X Z places left right true j =
          let truth = places_stand r (first_of exchanged X Z) (first_of exchanged Z X) in
          nothing_passes None i t (bits (low_bytes t.bytes (pos (from_bool truth)))) rest n pc need0 m v k.result
          (code_is ∙ none exchanged) j (low_below t.bytes (pos (from_bool truth))) stands
          (other_needed t a b w (needs at rest)) h room f
        where
          none : (d : Bool) → pointers_code None link.core (Compared r d) (home a) (home b) (home t) a.bytes size w ≡ []
          none false = rw j refl
          none true = rw j refl
      by_need X Z places left right false j =
          by_side exchanged code_is places (left (first_there t a b w (needs at rest) j)) (right (second_there t a b w (needs at rest) j))
        where
          by_side : (d : Bool) → code_of i rest ≡ pointers_code None link.core (Compared r d) (home a) (home b) (home t) a.bytes size w
              → ArePlaces link.core r (first_of d X Z) (first_of d Z X)
              → value v.at (base a) a.bytes ≡ number_of X → value v.at (base b) a.bytes ≡ number_of Z
              → G (suc n) m.state.work pc v (R (suc n) rest
              (resulted t (bits (low_bytes t.bytes (pos (from_bool (places_stand r (first_of d X Z) (first_of d Z X)))))) (op_steps i) m))
          by_side false c places left right =
              let code : code_of i rest ≡ related_code (truth_register (home t)) link.core r (home a) (home b) a.bytes
              ++ truth_at_code (home t) w = c ∙ rw j refl in
              related_passes r t a b a.bytes (op_steps i) X Z rest n pc need0 m v k.result k.left k.right refl
              same size_a places left right room
              (subst (λ (d : List AsmItem). HasAt e (d ++ items rest) pc end) code stands) (other_needed t a b w (needs at rest)) h f
          by_side true c places left right =
              let code : code_of i rest ≡ related_code (truth_register (home t)) link.core r (home b) (home a) a.bytes
              ++ truth_at_code (home t) w = c ∙ rw j refl in
              related_passes r t b a a.bytes (op_steps i) Z X rest n pc need0 m v k.result k.right k.left same
              refl size_a places right left room
              (subst (λ (d : List AsmItem). HasAt e (d ++ items rest) pc end) code stands) (other_needed t a b w (needs at rest)) h f

  two_pointers : (op : BinOp) (ty : PlainType) (mode : Mode) (t a : Temp) (space : SpaceId) (const : Bool)
      (to : PlainType) (b : Temp) (space2 : SpaceId) (const2 : Bool) (to2 : PlainType)
      (rest : List PlainIr) (n pc : ℕ) (m : Mach) (v : View)
      → IsPointerBinary p slots op t a b ty (pointer space const to) (pointer space2 const2 to2)
      → HasAt e (code_of (binary_op op ty mode t a (pointer space const to) b (pointer space2 const2 to2)) rest ++ items rest) pc end
      → M (operands_needed t a b (wanted (needs at rest) t) (needs at rest)) m v
      → link.core ≡ e.core → Rest (suc n) rest → G (suc n) m.state.work pc v
      (P n (binary_op op ty mode t a (pointer space const to) b (pointer space2 const2 to2)) rest m)
  two_pointers Sub ty mode t a space const to b space2 const2 to2 rest n pc m v k stands h one_core f =
      difference_follows ty mode t a space const to b space2 const2 to2 rest n pc m v k stands h f
  two_pointers Lt ty mode t a space const to b space2 const2 to2 rest n pc m v k stands h one_core f =
      comparison_follows Lt IsBelow false refl refl (λ X Z. refl) (λ X Z c. c) ty mode t a space const to b space2 const2 to2
      rest n pc m v k.types.0 k stands h one_core f
  two_pointers Gt ty mode t a space const to b space2 const2 to2 rest n pc m v k stands h one_core f =
      comparison_follows Gt IsBelow true refl refl (λ X Z. refl) (λ X Z c. c) ty mode t a space const to b space2 const2 to2 rest
      n pc m v k.types.0 k stands h one_core f
  two_pointers Le ty mode t a space const to b space2 const2 to2 rest n pc m v k stands h one_core f =
      comparison_follows Le NotLess true refl refl (λ X Z. refl) (λ X Z c. c) ty mode t a space const to b space2 const2 to2 rest
      n pc m v k.types.0 k stands h one_core f
  two_pointers Ge ty mode t a space const to b space2 const2 to2 rest n pc m v k stands h one_core f =
      comparison_follows Ge NotLess false refl refl (λ X Z. refl) (λ X Z c. c) ty mode t a space const to b space2 const2 to2
      rest n pc m v k.types.0 k stands h one_core f
  two_pointers Eq ty mode t a space const to b space2 const2 to2 rest n pc m v k stands h one_core f =
      comparison_follows Eq IsSame false refl refl (λ X Z. refl) (λ X Z c. c) ty mode t a space const to b space2 const2 to2 rest
      n pc m v k.types.0 k stands h one_core f
  two_pointers Ne ty mode t a space const to b space2 const2 to2 rest n pc m v k stands h one_core f =
      comparison_follows Ne NotEqual false refl refl (λ X Z. refl) (λ X Z c. c) ty mode t a space const to b space2 const2 to2
      rest n pc m v k.types.0 k stands h one_core f
  two_pointers op ty mode t a space const to b space2 const2 to2 rest n pc m v k stands h one_core f = absurd k.types

  -- ---- all of them

  -- the second operand of a binary operator holds the number that it is known to hold
  abbrev HoldsKnown : Option RightNumber → Temp → Mach → Type 0
  HoldsKnown known b m =
      (number : ℤ) → number_known known ≡ Some number → (low : ℕ) → m.temps b.at ≡ Some (record { bytes = b.bytes; content = bits low })
      → low ≡ low_bytes b.bytes number

  -- what is shown of a binary operator
  abbrev IsShown : (known : Option RightNumber) (op : BinOp) (ty : PlainType) (mode : Mode) (t a : Temp) (aty : PlainType) (b : Temp)
      (bty : PlainType) (rest : List PlainIr) (n pc : ℕ) (m : Mach) (v : View) → Type 0
  IsShown known op ty mode t a aty b bty rest n pc m v =
      HoldsKnown known b m → IsPointerBinary p slots op t a b ty aty bty
      → HasAt e (known_code known (binary_op op ty mode t a aty b bty) rest ++ items rest) pc end
      → M (moving_needs known op t a aty b bty rest) m v
      → link.core ≡ e.core → Rest (suc n) rest → G (suc n) m.state.work pc v (P n (binary_op op ty mode t a aty b bty) rest m)

  -- two pointers, of which the second one is known to hold no number of elements
  both_follow : (known : Option RightNumber) (op : BinOp) (ty : PlainType) (mode : Mode) (t a : Temp) (space : SpaceId) (const : Bool)
      (to : PlainType) (b : Temp) (space2 : SpaceId) (const2 : Bool) (to2 : PlainType) (rest : List PlainIr) (n pc : ℕ) (m : Mach)
      (v : View)
      → IsShown known op ty mode t a (pointer space const to) b (pointer space2 const2 to2) rest n pc m v
  both_follow None op ty mode t a space const to b space2 const2 to2 rest n pc m v held k stands h one_core f =
      two_pointers op ty mode t a space const to b space2 const2 to2 rest n pc m v k stands h one_core f
  both_follow (Some x) op ty mode t a space const to b space2 const2 to2 rest n pc m v held k stands h one_core f =
      two_pointers op ty mode t a space const to b space2 const2 to2 rest n pc m v k stands h one_core f

  first_follows : (known : Option RightNumber) (op : BinOp) (ty : PlainType) (mode : Mode) (t a : Temp) (space : SpaceId) (const : Bool)
      (to : PlainType) (b : Temp) (signed : Bool) (bytes : ℕ) (rest : List PlainIr) (n pc : ℕ) (m : Mach) (v : View)
      → IsShown known op ty mode t a (pointer space const to) b (integer signed bytes) rest n pc m v
  first_follows None Add ty mode t a space const to b signed bytes rest n pc m v held k stands h one_core f =
      pointer_first Add ty mode t a space const to b signed bytes rest n pc m v k stands h one_core f
  first_follows None Sub ty mode t a space const to b signed bytes rest n pc m v held k stands h one_core f =
      pointer_first Sub ty mode t a space const to b signed bytes rest n pc m v k stands h one_core f
  first_follows None op ty mode t a space const to b signed bytes rest n pc m v held k stands h one_core f = absurd k.types.0
  first_follows (Some x) op ty mode t a space const to b signed bytes rest n pc m v held k stands h one_core f =
      by_number (number_or_none x) held k stands h one_core f
    where
      with_number : (op : BinOp) (x : TakenNumber)
          → IsShown (Some (as_known x)) op ty mode t a (pointer space const to) b (integer signed bytes) rest n pc m v
      with_number Add x held k stands h one_core f =
          known_first Add x ty mode t a space const to b signed bytes rest n pc m v k (held x.number refl) stands h one_core f
      with_number Sub x held k stands h one_core f =
          known_first Sub x ty mode t a space const to b signed bytes rest n pc m v k (held x.number refl) stands h one_core f
      with_number op x held k stands h one_core f = absurd k.types.0

      with_none : (op : BinOp) (byte : Bool)
          → IsShown (Some (no_number byte)) op ty mode t a (pointer space const to) b (integer signed bytes) rest n pc m v
      with_none Add byte held k stands h one_core f =
          pointer_first Add ty mode t a space const to b signed bytes rest n pc m v k stands h one_core f
      with_none Sub byte held k stands h one_core f =
          pointer_first Sub ty mode t a space const to b signed bytes rest n pc m v k stands h one_core f
      with_none op byte held k stands h one_core f = absurd k.types.0

      by_number : HasNumber x ⊎ (x ≡ no_number x.in_byte)
          → IsShown (Some x) op ty mode t a (pointer space const to) b (integer signed bytes) rest n pc m v
      by_number (inl y) =
          subst (λ z. IsShown (Some z) op ty mode t a (pointer space const to) b (integer signed bytes) rest n pc m v) (sym y.is)
          (with_number op y.taken)
      by_number (inr q) =
          subst (λ z. IsShown (Some z) op ty mode t a (pointer space const to) b (integer signed bytes) rest n pc m v) (sym q)
          (with_none op x.in_byte)

  second_follows : (known : Option RightNumber) (op : BinOp) (ty : PlainType) (mode : Mode) (t a : Temp) (signed : Bool) (bytes : ℕ)
      (b : Temp) (space : SpaceId) (const : Bool) (to : PlainType) (rest : List PlainIr) (n pc : ℕ) (m : Mach) (v : View)
      → IsShown known op ty mode t a (integer signed bytes) b (pointer space const to) rest n pc m v
  second_follows None Add ty mode t a signed bytes b space const to rest n pc m v held k stands h one_core f =
      pointer_second ty mode t a signed bytes b space const to rest n pc m v k stands h one_core f
  second_follows (Some x) Add ty mode t a signed bytes b space const to rest n pc m v held k stands h one_core f =
      pointer_second ty mode t a signed bytes b space const to rest n pc m v k stands h one_core f
  second_follows known op ty mode t a signed bytes b space const to rest n pc m v held k stands h one_core f = absurd k.types.0

  pub pointer_binary_follows : (known : Option RightNumber) (op : BinOp) (ty : PlainType) (mode : Mode) (t a : Temp) (aty : PlainType)
      (b : Temp) (bty : PlainType) (rest : List PlainIr) (n pc : ℕ) (m : Mach) (v : View) → HoldsKnown known b m
      → IsPointerBinary p slots op t a b ty aty bty
      → HasAt e (known_code known (binary_op op ty mode t a aty b bty) rest ++ items rest) pc end
      → M (moving_needs known op t a aty b bty rest) m v
      → link.core ≡ e.core → Rest (suc n) rest → G (suc n) m.state.work pc v (P n (binary_op op ty mode t a aty b bty) rest m)
  pointer_binary_follows known op ty mode t a aty b bty rest n pc m v = by_types aty bty
    where
      first : (space : SpaceId) (const : Bool) (to z : PlainType)
          → IsShown known op ty mode t a (pointer space const to) b z rest n pc m v
      first space const to (pointer space2 const2 to2) held k stands h one_core f =
          both_follow known op ty mode t a space const to b space2 const2 to2 rest n pc m v held k stands h one_core f
      first space const to (integer signed bytes) held k stands h one_core f =
          first_follows known op ty mode t a space const to b signed bytes rest n pc m v held k stands h one_core f
      first space const to (fixed kind saturates) held k stands h one_core f =
          absurd (no_count op (fixed kind saturates) (λ i. i) k.types.0)
      first space const to void held k stands h one_core f = absurd (no_count op void (λ i. i) k.types.0)
      first space const to (array of len) held k stands h one_core f = absurd (no_count op (array of len) (λ i. i) k.types.0)
      first space const to (struct index) held k stands h one_core f = absurd (no_count op (struct index) (λ i. i) k.types.0)

      by_types : (x z : PlainType) → IsShown known op ty mode t a x b z rest n pc m v
      by_types (pointer space const to) z held k stands h one_core f = first space const to z held k stands h one_core f
      by_types (integer signed bytes) (pointer space const to) held k stands h one_core f =
          second_follows known op ty mode t a signed bytes b space const to rest n pc m v held k stands h one_core f
      by_types (fixed kind saturates) (pointer space const to) held k stands h one_core f = absurd k.types.1
      by_types void (pointer space const to) held k stands h one_core f = absurd k.types.1
      by_types (array of len) (pointer space const to) held k stands h one_core f = absurd k.types.1
      by_types (struct index) (pointer space const to) held k stands h one_core f = absurd k.types.1
      by_types x z held k stands h one_core f = absurd (let g = k.pointer in cc)

  -- a pointer that is moved by an index in R30, which is told, and of which nothing is needed any more
  pub index_follows : (known : Option RightNumber) (op : BinOp) (ty : PlainType) (mode : Mode) (t a : Temp) (aty : PlainType) (b : Temp)
      (bty : PlainType) (rest : List PlainIr) (n pc : ℕ) (need0 : Need) (m : Mach) (v : View) → IsPointerBinary p slots op t a b ty aty bty
      → moves_pointer op aty bty ≡ true → nat_le b.bytes 2 ≡ true
      → HasAt e (told_code known (binary_op op ty mode t a aty b bty) rest ++ items rest) pc end → HoldsIndex b m v
      → pointer_wanted (wanted (needs at rest) t) ≤ need0 a.at
      → ((u : ℕ) → u ≢ t.at → needs at rest u ≤ need0 u) → M need0 m v → link.core ≡ e.core → Rest (suc n) rest
      → G (suc n) m.state.work pc v (P n (binary_op op ty mode t a aty b bty) rest m)
  index_follows known op ty mode t a aty b bty rest n pc need0 m v = by_types aty bty
    where
      Shown : (aty bty : PlainType) → Type 0
      Shown aty bty =
          IsPointerBinary p slots op t a b ty aty bty → moves_pointer op aty bty ≡ true → nat_le b.bytes 2 ≡ true
          → HasAt e (told_code known (binary_op op ty mode t a aty b bty) rest ++ items rest) pc end → HoldsIndex b m v
          → pointer_wanted (wanted (needs at rest) t) ≤ need0 a.at
          → ((u : ℕ) → u ≢ t.at → needs at rest u ≤ need0 u) → M need0 m v → link.core ≡ e.core → Rest (suc n) rest
          → G (suc n) m.state.work pc v (P n (binary_op op ty mode t a aty b bty) rest m)

      first : (space : SpaceId) (const : Bool) (to z : PlainType) → Shown (pointer space const to) z
      first space const to (integer signed bytes) k moves few stands held there more h one_core f =
          let i = binary_op op ty mode t a (pointer space const to) b (integer signed bytes) in
          let moved = offset_code link.core (is_difference op) signed (home a) z_pair (home t) (max 2 (wanted (needs at rest) t)) b.bytes
          (size_of_type p.structs to) (wanted (needs at rest) t) in
          index_first (told_code known i rest) op ty mode t a space const to b signed bytes rest n pc need0 m v k (leb-true b.bytes 2 few)
          (kind_is (nat_le b.bytes 2 && moves_pointer op (pointer space const to) (integer signed bytes)) moved _
          (ap (λ x. x && moves_pointer op (pointer space const to) (integer signed bytes)) few ∙ moves)) stands held there more h one_core f
      first space const to (pointer space2 const2 to2) k moves few stands held there more h one_core f = absurd cc
      first space const to (fixed kind saturates) k moves few stands held there more h one_core f = absurd cc
      first space const to void k moves few stands held there more h one_core f = absurd (no_count op void (λ i. i) k.types.0)
      first space const to (array of len) k moves few stands held there more h one_core f =
          absurd (no_count op (array of len) (λ i. i) k.types.0)
      first space const to (struct index) k moves few stands held there more h one_core f =
          absurd (no_count op (struct index) (λ i. i) k.types.0)

      by_types : (x z : PlainType) → Shown x z
      by_types (pointer space const to) z k moves few stands held there more h one_core f =
          first space const to z k moves few stands held there more h one_core f
      by_types x z k moves few stands held there more h one_core f = absurd cc

  -- ---- conversions

  pointer_converted : (t : Temp) (space : SpaceId) (const : Bool) (to : PlainType) (mode : Mode) (a : Temp)
      (from : SpaceId) (const2 : Bool) (to2 : PlainType)
      (rest : List PlainIr) (n pc : ℕ) (m : Mach) (v : View)
      → IsPointerConversion slots t a (pointer space const to) (pointer from const2 to2)
      → HasAt e (own_items (conversion t (pointer space const to) mode a (pointer from const2 to2)) rest) pc end
      → M (at_least a.at (wanted (needs at rest) t) (without t.at (needs at rest))) m v
      → Rest (suc n) rest → G (suc n) m.state.work pc v
      (P n (conversion t (pointer space const to) mode a (pointer from const2 to2)) rest m)
  pointer_converted t space const to mode a from const2 to2 rest n pc m v k stands h f =
      from_pointer p place e from const2 to2 a m.temps st _ (suc n) m.state.work pc v
      (λ x q into. by_result x q into (pointer_in_space space x (referent_of p x st)) refl)
    where
      i : PlainIr
      i = conversion t (pointer space const to) mode a (pointer from const2 to2)

      st : State
      st = worked (op_steps i) m.state

      w : ℕ
      w = wanted (needs at rest) t

      need0 : Need
      need0 = at_least a.at w (without t.at (needs at rest))

      more : (u : ℕ) → u ≢ t.at → needs at rest u ≤ need0 u
      more u d =
          let r = without_other t.at u (needs at rest) d in
          let s = least_other a.at w u (without t.at (needs at rest)) in
          omega arith

      there : w ≤ need0 a.at
      there = least_here a.at w (without t.at (needs at rest))

      room : 640 ≤ op_steps i
      room = conversion_room (pointer space const to) (pointer from const2 to2)

      size_a : IsPointerSize a.bytes
      size_a = pointer_size a.bytes from k.from_bytes

      size_t : IsPointerSize t.bytes
      size_t = pointer_size t.bytes space k.result_bytes

      move : ℕ → List AsmItem
      move k = move_code (home a) (home t) k

      embed : List AsmItem
      embed = embed_code (is_into_data (pointer from const2 to2)) (home t)

      by_result : (x : PointerValue) → HoldsPointer m a x → IsIntoSpace p from x → (r : Result PointerValue Undefined)
          → pointer_in_space space x (referent_of p x st) ≡ r → G (suc n) m.state.work pc v (Onward n rest t m st (as_pointer r))
      by_result x q into (Err point) u = tt
      by_result x q into (Ok z) u =
          subst (λ (d : PointerValue). G (suc n) m.state.work pc v
          (R (suc n) rest (resulted t (content_of t.bytes (Pointer d)) (op_steps i) m)))
          (sym (in_space_is space x (referent_of p x st) z u))
          (by_sizes (nat_le w a.bytes) refl)
        where
          content : Content
          content = content_of t.bytes (Pointer x)

          ix : IsAddressed p a.bytes x
          ix = addressed need0 m v a x h k.from q

          target : IsAddressed p t.bytes x
          target = resized p space a.bytes t.bytes x z st k.result_bytes u ix

          most : w ≤ t.bytes
          most = wanted_most (needs at rest) t

          by_sizes : (b : Bool) → nat_le w a.bytes ≡ b
              → G (suc n) m.state.work pc v (R (suc n) rest (resulted t content (op_steps i) m))
          by_sizes false b =
              let more_bytes = leb-false w a.bytes b in
              let sizes : (a.bytes ≡ 2) × (t.bytes ≡ 3) = embeds more_bytes in
              let all_bytes : min w a.bytes ≡ a.bytes = omega (arith, more_bytes) in
              let code_is : code_of i rest ≡ move a.bytes ++ embed =
              ap (λ (d : Bool). move (min w a.bytes) ++ (if d then [] else embed)) b ∙ ap (λ k. move k ++ embed) all_bytes in
              let number = whole_number need0 m v a x h k.from q size_a (omega (arith, more_bytes, there)) in
              let short = (y.pointers.embeddings_short (is_into_data (pointer from const2 to2)) (home t) (home t)).0 in
              let few = short.at_most in
              let steps = move_steps (home a) (home t) a.bytes in
              let both = steps-append (move a.bytes) embed in
              let two = sizes.0 in
              straight_passes None i (move a.bytes ++ embed) t content rest n pc m v code_is
              (straight-append (move a.bytes) embed (move_straight (home a) (home t) a.bytes) short.straight)
              (omega (arith, few, steps, both, two)) room stands
              (embedded_matches p e slots home base place y from const2 to2 t a (op_steps i) x (needs at rest)
              need0 m v k.result k.from two sizes.1 (sym k.from_bytes ∙ two) ix target into number more h) f
            where
              embeds : a.bytes < w → (a.bytes ≡ 2) × (t.bytes ≡ 3)
              embeds l =
                  ⊎_elim
                  (λ (r : a.bytes ≡ 2).
                  ⊎_elim (λ (s : t.bytes ≡ 2). absurd (omega (arith, l, r, s, most))) (λ (s : t.bytes ≡ 3). (r, s)) size_t)
                  (λ (r : a.bytes ≡ 3).
                  ⊎_elim (λ (s : t.bytes ≡ 2). absurd (omega (arith, l, r, s, most)))
                  (λ (s : t.bytes ≡ 3). absurd (omega (arith, l, r, s, most))) size_t)
                  size_a
          by_sizes true b =
              let less : w ≤ a.bytes = leb-true w a.bytes b in
              let all_bytes : min w a.bytes ≡ w = omega (arith, less) in
              let code_is : code_of i rest ≡ move w =
              ap (λ (d : Bool). move (min w a.bytes) ++ (if d then [] else embed)) b ∙ append-nil (move (min w a.bytes))
              ∙ ap move all_bytes in
              let number = (pointer_low p e slots home base place y need0 m v a x w h k.from q (omega (arith, there, less))).0 in
              let steps = move_steps (home a) (home t) w in
              let eight = k.result.most in
              straight_passes None i (move w) t content rest n pc m v code_is
              (move_straight (home a) (home t) w) (omega (arith, steps, most, eight)) room stands
              (moved_matches p e slots home base place y t a (op_steps i) x (needs at rest) need0 m v k.result
              k.from less size_a size_t target number more h) f

  pub pointer_conversion_follows : (t : Temp) (ty : PlainType) (mode : Mode) (a : Temp) (aty : PlainType) (rest : List PlainIr)
      (n pc : ℕ) (m : Mach) (v : View) → IsPointerConversion slots t a ty aty
      → HasAt e (own_items (conversion t ty mode a aty) rest) pc end → M (needs at (conversion t ty mode a aty ∷ rest)) m v
      → Rest (suc n) rest → G (suc n) m.state.work pc v (P n (conversion t ty mode a aty) rest m)
  pointer_conversion_follows t (pointer space const to) mode a (pointer from const2 to2) rest n pc m v k stands h f =
      pointer_converted t space const to mode a from const2 to2 rest n pc m v k stands h f
  pointer_conversion_follows t (integer signed bytes) mode a (pointer from const2 to2) rest n pc m v k stands h f = absurd k.types
  pointer_conversion_follows t (fixed kind saturates) mode a (pointer from const2 to2) rest n pc m v k stands h f = absurd k.types
  pointer_conversion_follows t void mode a (pointer from const2 to2) rest n pc m v k stands h f = absurd k.types
  pointer_conversion_follows t (array of len) mode a (pointer from const2 to2) rest n pc m v k stands h f = absurd k.types
  pointer_conversion_follows t (struct index) mode a (pointer from const2 to2) rest n pc m v k stands h f = absurd k.types
  pointer_conversion_follows t ty mode a aty rest n pc m v k stands h f = absurd (let g = k.pointer in cc)
