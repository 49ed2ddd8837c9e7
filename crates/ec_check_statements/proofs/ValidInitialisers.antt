-- The values of the leaves of a local object are valid expressions.
use Rattle.std.proofs.Common.{◌≡◌, ◌+◌, ◌*◌, ℕ, zero, suc, Bool, true, false, List, [], ◌∷◌, length, map, drop, refl, sym, subst, arith}
use Rattle.std.specs.Prelude.{nat_lt, pos, Option, Some, None, IfSome, option_map, option_and_then, slice_get}
use Rattle.std.specs.List.{AllByRecursion}
use Rattle.std.proofs.lemmas.Int.{ints}
use Rattle.ec_fx.specs.Formats.{format_of}
use Rattle.ec_fx.specs.Ranges.{IsWithin}
use Rattle.ec_iohw.specs.declared.table.IoTable.{IoTable}
use Rattle.ec_grammar.specs.declared.Spot.{Spot}
use Rattle.ec_grammar.specs.Spelling as spelling
use Rattle.ec_grammar.specs.Trees as t
use Rattle.ec_grammar.specs.Trees.{Leaf}
use Rattle.ec_core.specs.Layout.{PlainLeaf, IsScalar, IsObjectType, AreStructs, leaves_of_type}
use Rattle.ec_core.specs.Plain.{PlainType, void, integer, fixed, pointer, array, struct, PlainMember, PlainStruct, PlainExpr, PlainProgram}
use Rattle.ec_core.specs.Typing.{type_of_expr}
use Rattle.ec_core.specs.TypeLaws.{StructsAreLaidOut}
use Rattle.ec_core.specs.Valid.{ValidExpr, ValidExprs, AreLeafValues}
use Rattle.ec_check_operands.specs.declared.operands.Modes.{Modes}
use Rattle.ec_check_operands.specs.Operands.{Operand, value_type}
use Rattle.ec_check_operands.specs.Passing.{passed}
use Rattle.ec_check_operands.specs.Sorts.{is_void, is_aggregate}
use Rattle.ec_check_forms.specs.Nodes.{used}
use Rattle.ec_check_forms.specs.Validity.{IsUsable, IsPlaceType, IsOptional, IsOfType, FormsStayValid}
use Rattle.ec_check_expressions.specs.Callees.{exprs_of}
use Rattle.ec_check_expressions.specs.Expressions.{of_assignment}
use Rattle.ec_check_expressions.specs.Known.{Known}
use Rattle.ec_check_expression_laws.specs.Laws.{MeanOperands}
use Rattle.ec_check_expression_laws.specs.Suits.{AreHeld, Suits}
use Rattle.ec_check_initialisers.specs.Locals.{leaf_values, with_items}
use Rattle.ec_check_initialisers.specs.Parts.{part_type, part_of, zero_of, filled, whole_values, joined, one_value, scalar_value}
use Rattle.ec_check_initialisers.proofs.PartTypes.{each_at}
use Rattle.ec_check_statements.proofs.Choices.{if_both}
use Rattle.ec_check_statements.proofs.Layouts.{leaves_agree}
use Rattle.ec_check_statements.proofs.LeafTypes.{IsLeafType, element_known, element_placed, all_append, members_placed, leaves_usable}

-- ---- zeros

zero_within : (signed : Bool) (bits : ℕ) → IsWithin signed bits (pos 0)
zero_within true bits = record { low = omega (arith, ints); high = omega (arith, ints) }
zero_within false bits = record { low = omega (arith, ints); high = omega (arith, ints) }

module _ (p : PlainProgram) (io : IoTable) (f : ℕ) (m : Modes) where
  zero_valid : (ty : PlainType) → IsLeafType p.structs ty → ValidExpr p io f (zero_of m ty)
  zero_valid void h = absurd h.0
  zero_valid (integer signed bytes) h = (h.0, (h.0, zero_within signed (8 * bytes)), tt)
  zero_valid (fixed kind saturates) h = (tt, zero_within (format_of kind).signed (format_of kind).bits, tt)
  zero_valid (pointer space const to) h = ((h.1.0, h.1.1), tt, tt)
  zero_valid (array of len) h = absurd h.0
  zero_valid (struct index) h = absurd h.0

  abbrev pub AreValid : List PlainExpr → Type 0
  AreValid es = AllByRecursion (ValidExpr p io f) es

  zeros_valid : (n : ℕ) (leaves : List PlainLeaf) → AllByRecursion (λ leaf. IsLeafType p.structs leaf.ty) leaves
      → AreValid (map (λ leaf. zero_of m leaf.ty) (drop n leaves))
  zeros_valid zero [] h = tt
  zeros_valid (suc n) [] h = tt
  zeros_valid zero (leaf ∷ leaves) h = (zero_valid leaf.ty h.0, zeros_valid zero leaves h.1)
  zeros_valid (suc n) (leaf ∷ leaves) h = zeros_valid n leaves h.1

  joined_valid : (a b : Option (List PlainExpr)) → IfSome a AreValid → IfSome b AreValid → IfSome (joined a b) AreValid
  joined_valid None b h k = tt
  joined_valid (Some es) None h k = tt
  joined_valid (Some es) (Some fs) h k = all_append (ValidExpr p io f) es fs h k

  one_valid : (ty : PlainType) (e : Option PlainExpr) → IsOfType p io f ty e → IfSome (one_value e) AreValid
  one_valid ty None h = tt
  one_valid ty (Some e) h = (h.0, tt)

  pub exprs_valid : (es : List PlainExpr) → AreValid es → ValidExprs p io f (exprs_of es)
  exprs_valid [] h = tt
  exprs_valid (e ∷ es) h = (h.0, exprs_valid es h.1)

  pub used_valid : (x : Option Operand) → IsOptional p io f x → IsOptional p io f (used x)
  used_valid None h = tt
  used_valid (Some x) h = if_both (IsOptional p io f) (is_void (value_type x)) None (Some x) (λ e. tt) (λ e. h)

  pub leaf_values_are : (leaves : List PlainLeaf) (es : List PlainExpr) → map type_of_expr es ≡ map (λ leaf. leaf.ty) leaves
      → AreLeafValues p io f leaves (exprs_of es)
  leaf_values_are [] [] e = tt
  leaf_values_are [] (d ∷ es) e = cc
  leaf_values_are (leaf ∷ leaves) [] e = cc
  leaf_values_are (leaf ∷ leaves) (d ∷ es) e = (cc, leaf_values_are leaves es cc)

-- ---- parts

some_of : {X : Type 0} (P : X → Type 0) (o : Option X) → ((x : X) → o ≡ Some x → P x) → IfSome o P
some_of P None f = tt
some_of P (Some x) f = f x refl

module _ (law : StructsAreLaidOut) (forms : FormsStayValid) (p : PlainProgram) (io : IoTable) (f : ℕ) (k : Known)
    (all : AreStructs p.structs) (s : Suits p io f k)
    (ops : MeanOperands p io f k) where
  -- the type of an object, by the structs that are known and by those of the program
  pub record IsTypeOf (ty : PlainType) : Type 0 where
    pub known : IsObjectType (length k.structs) ty
    pub placed : IsPlaceType p.structs ty

  member_placed : (i j : ℕ) (d : PlainStruct) → slice_get k.structs i ≡ Some d → (o : Option PlainMember) → slice_get d.members j ≡ o
      → IfSome (option_map (λ m. m.ty) o) IsTypeOf
  member_placed i j d e None q = tt
  member_placed i j d e (Some m) q = record {
    known = each_at (λ m. IsObjectType (length k.structs) m.ty) d.members j m (law.each k.structs i d s.small e).known q;
    placed = each_at (λ m. IsPlaceType p.structs m.ty) d.members j m (members_placed law p.structs all s.members i d (s.structs i d e)) q;
  }

  struct_part : (i j : ℕ) (o : Option PlainStruct) → slice_get k.structs i ≡ o
      → IfSome (option_and_then (λ d. option_map (λ m. m.ty) (slice_get d.members j)) o) IsTypeOf
  struct_part i j None e = tt
  struct_part i j (Some d) e = member_placed i j d e (slice_get d.members j) refl

  part_placed : (ty : PlainType) (i : ℕ) → IsTypeOf ty → IfSome (part_type k.structs ty i) IsTypeOf
  part_placed void i h = tt
  part_placed (integer signed bytes) i h = tt
  part_placed (fixed kind saturates) i h = tt
  part_placed (pointer space const to) i h = tt
  part_placed (array of len) i h =
      if_both (λ o. IfSome o IsTypeOf) (nat_lt i len) (Some of) None
      (λ e. record { known = element_known (length k.structs) of len h.known; placed = element_placed p.structs of len h.placed }) (λ e. tt)
  part_placed (struct index) i h = struct_part index i (slice_get k.structs index) refl

  part_of_placed : (ty : Option PlainType) (i : ℕ) → IfSome ty IsTypeOf → IfSome (part_of k.structs ty i) IsTypeOf
  part_of_placed None i h = tt
  part_of_placed (Some ty) i h = part_placed ty i h

  -- ---- values

  abbrev Good : Option (List PlainExpr) → Type 0
  Good v = IfSome v (AreValid p io f k.modes)

  module _ (x : Option Operand)
      (bring : (to : PlainType) → IsScalar to → IsUsable p.structs to → IsOfType p io f to (passed k.modes (Some to) x)) where
    scalar_valid : (ty : Option PlainType) → IfSome ty IsTypeOf → Good (scalar_value k.modes ty x)
    scalar_valid None h = tt
    scalar_valid (Some void) h = absurd h.placed.object.form
    scalar_valid (Some (integer signed bytes)) h =
        one_valid p io f k.modes (integer signed bytes) (passed k.modes (Some (integer signed bytes)) x)
        (bring (integer signed bytes) h.placed.object.form h.placed.usable)
    scalar_valid (Some (fixed kind saturates)) h =
        one_valid p io f k.modes (fixed kind saturates) (passed k.modes (Some (fixed kind saturates)) x)
        (bring (fixed kind saturates) tt tt)
    scalar_valid (Some (pointer space const to)) h =
        one_valid p io f k.modes (pointer space const to) (passed k.modes (Some (pointer space const to)) x)
        (bring (pointer space const to) tt h.placed.usable)
    scalar_valid (Some (array of len)) h = tt
    scalar_valid (Some (struct index)) h = tt

  filled_valid : (ty : PlainType) → IsTypeOf ty → (es : List PlainExpr) → AreValid p io f k.modes es
      → AreValid p io f k.modes (filled k.modes k.structs ty es)
  filled_valid ty h es v =
      all_append (ValidExpr p io f) es (map (λ leaf. zero_of k.modes leaf.ty) (drop (length es) (leaves_of_type k.structs ty))) v
      (zeros_valid p io f k.modes (length es) (leaves_of_type k.structs ty)
      (subst (λ (leaves : List PlainLeaf). AllByRecursion (λ leaf. IsLeafType p.structs leaf.ty) leaves)
      (sym (leaves_agree law k.structs p.structs s.small all s.structs ty h.known.names))
      (leaves_usable law p.structs all s.members ty h.placed)))

  whole_valid : (ty : Option PlainType) → IfSome ty IsTypeOf → (v : Option (List PlainExpr)) → Good v
      → Good (whole_values k.modes k.structs ty v)
  whole_valid None h v g = tt
  whole_valid (Some ty) h None g = tt
  whole_valid (Some ty) h (Some es) g =
      if_both Good (is_aggregate ty) (Some (filled k.modes k.structs ty es)) None (λ e. filled_valid ty h es g) (λ e. tt)

  past_comma : (c : Option Spot) (rest : List Leaf) → AreHeld (spelling.of_option spelling.of_comma c rest) → AreHeld rest
  past_comma None rest h = h
  past_comma (Some c) rest h = h.1

  mutual
    pub initialiser_valid : (i : t.Initialiser) (ty : Option PlainType) → IfSome ty IsTypeOf → (rest : List Leaf)
        → AreHeld (spelling.of_initialiser i rest)
        → Good (leaf_values k i ty) × AreHeld rest
    initialiser_valid (t.initial_value a) ty h rest held =
        let g = ops.assignments a rest held in (
          scalar_valid (used (of_assignment k a))
              (forms p io f k.modes (used (of_assignment k a)) None (used_valid p io f k.modes (of_assignment k a) g.0) tt).passed ty h,
          g.1,
        )
    initialiser_valid (t.braces l first more c r) ty h rest held =
        let g = initialiser_valid first (part_of k.structs ty 0) (part_of_placed ty 0 h) _ held.1 in
        let j = items_valid more ty h 1 (joined (Some []) (leaf_values k first (part_of k.structs ty 0)))
        (joined_valid p io f k.modes (Some []) (leaf_values k first (part_of k.structs ty 0)) tt g.0) _ g.1 in (
          whole_valid ty h (with_items k ty (joined (Some []) (leaf_values k first (part_of k.structs ty 0))) 1 more) j.0,
          (past_comma c _ j.1).1,
        )

    items_valid : (more : t.Initialisers) (ty : Option PlainType) → IfSome ty IsTypeOf → (i : ℕ) (v : Option (List PlainExpr)) → Good v
        → (rest : List Leaf)
        → AreHeld (spelling.of_initialisers more rest) → Good (with_items k ty v i more) × AreHeld rest
    items_valid t.no_initialisers ty h i v g rest held = (g, held)
    items_valid (t.initialisers s x more) ty h i v g rest held =
        let a = initialiser_valid x (part_of k.structs ty i) (part_of_placed ty i h) _ held.1 in
        items_valid more ty h (i + 1) (joined v (leaf_values k x (part_of k.structs ty i)))
        (joined_valid p io f k.modes v (leaf_values k x (part_of k.structs ty i)) g a.0) rest a.1
