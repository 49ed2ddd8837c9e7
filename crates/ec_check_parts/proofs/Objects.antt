-- What is told of the declarator of an object breaks a constraint there, and the other way round.
use Rattle.std.proofs.Common.{◌≡◌, ◌<◌, ℕ, Bool, true, false, List, [], ◌∷◌, length, refl, subst, inl, inr}
use Rattle.std.specs.Prelude.{◌⊎◌, ◌↔◌, Option, Some, None}
use Rattle.std.specs.Bool.{Decides}
use Rattle.std.proofs.lemmas.Bool.{false≢true}
use Rattle.std.proofs.lemmas.Bool.Decides.{Decides-ltb}
use Rattle.ec_grammar.specs.declared.Spot.{Spot}
use Rattle.ec_grammar.specs.Trees as t
use Rattle.ec_core.specs.Layout.{size_of_type}
use Rattle.ec_core.specs.Plain.{PlainType, PlainStruct}
use Rattle.ec_check_operands.specs.declared.faults.Fault.{Fault}
use Rattle.ec_check_operands.specs.Faults.{rule}
use Rattle.ec_check_operands.specs.Laws.{IsTold}
use Rattle.ec_check_names.specs.Specifiers.{specified, void_at}
use Rattle.ec_check_names.specs.Tags.{Tags}
use Rattle.ec_check_expressions.specs.Known.{Known}
use Rattle.ec_check_declarations.specs.Declarators.{head_rules, misused_in, shape_size, shape_sites, type_declared, object_sites}
use Rattle.ec_check_declarations.specs.ObjectTypes.{is_too_large}
use Rattle.ec_check_declarations.specs.Sites.{on}
use Rattle.ec_check_parts.specs.Declared.{DeclareType}
use Rattle.ec_check_parts.specs.Heads.{Role, file_object, block_object, BreakHead}
use Rattle.ec_check_parts.specs.Objects.{BreakObject, object_sized, object_headed, object_too_large}
use Rattle.ec_check_parts.specs.Sizes.{BreakShape}
use Rattle.ec_check_parts.specs.Structures.{role_of, IsFunction}
use Rattle.ec_check_parts.specs.Laws.{TellAt, ObjectsAreJudged}
use Rattle.ec_check_parts.proofs.Heads.{heads_are_judged}
use Rattle.ec_check_parts.proofs.Joined.{at_one, both, like}
use Rattle.ec_check_parts.proofs.Declared.{type_declares}
use Rattle.ec_check_parts.proofs.Expressions.{ExpressionLaws, uses_conditional}
use Rattle.ec_check_parts.proofs.Sizes.{shape_judged}
use Rattle.ec_check_parts.proofs.Structures.{BreakOne, one_judged}

-- ---- bytes

abbrev IsLarge : List PlainStruct → Option PlainType → Type 0
IsLarge structs o = (ty : PlainType) × (o ≡ Some ty) × (32_767 < size_of_type structs ty)

large_told : (structs : List PlainStruct) (o : Option PlainType) → Decides (is_too_large structs o) (IsLarge structs o)
large_told structs None = (λ e. absurd (false≢true e), λ h. absurd (none h.0 h.1))
  where
    none : (ty : PlainType) → ◌≡◌ {A = Option PlainType} None (Some ty) → ⊥
    none ty e = cc
large_told structs (Some u) =
    let d = Decides-ltb 32_767 (size_of_type structs u) in
    (λ e. (u, refl, d.0 e), λ h. d.1 (moved h.0 h.1 h.2))
  where
    moved : (ty : PlainType) → ◌≡◌ {A = Option PlainType} (Some u) (Some ty) → 32_767 < size_of_type structs ty
        → 32_767 < size_of_type structs u
    moved ty e b = let same : ty ≡ u = cc in subst (λ z. 32_767 < size_of_type structs z) same b

-- ---- in a role

module _ (laws : ExpressionLaws) (k : Known) (role : Role) (ss : t.Specs) (stars : List t.Star) (at : Spot) (n : List ℕ)
    (shape : t.Shape) (start : Option t.Start)
    (may : Bool) where
  abbrev declared_type : Option PlainType
  declared_type = type_declared (length k.structs) (specified k.tags ss) stars shape (shape_size k shape start)

  declares : (ty : PlainType) → declared_type ≡ Some ty ↔ DeclareType k ss stars shape start ty
  declares ty = type_declares laws.meanings (uses_conditional laws) k ss stars shape start ty

  abbrev Parts : Fault → Type 0
  Parts f =
      BreakShape k shape start f
      ⊎ (BreakHead k.tags (role_of role shape) ss stars f ⊎ BreakOne 9 at.index (IsLarge k.structs declared_type) f)

  of_parts : (f : Fault) → Parts f → BreakObject k role ss stars at.index shape start f
  of_parts f (inl b) = object_sized b
  of_parts f (inr (inl b)) = object_headed b
  of_parts f (inr (inr (r, a, (ty, e, b)))) = object_too_large r a ty ((declares ty).0 e) b

  to_parts : (f : Fault) → BreakObject k role ss stars at.index shape start f → Parts f
  to_parts f (object_sized b) = inl b
  to_parts f (object_headed b) = inr (inl b)
  to_parts f (object_too_large r a ty e b) = inr (inr (r, a, (ty, (declares ty).1 e, b)))

  in_role : ((f : Fault)
      → IsTold (head_rules may (misused_in shape (void_at (specified k.tags ss).types) stars) (specified k.tags ss) stars) f
      ↔ BreakHead k.tags (role_of role shape) ss stars f)
      → TellAt (object_sites k may (specified k.tags ss) (t.declarator stars (t.identifier at n) shape) start)
      (BreakObject k role ss stars at.index shape start)
  in_role head =
      let heads = head_rules may (misused_in shape (void_at (specified k.tags ss).types) stars) (specified k.tags ss) stars in
      let large = rule 9 (is_too_large k.structs declared_type) at.index ∷ [] in
      let Large = BreakOne 9 at.index (IsLarge k.structs declared_type) in
      like (object_sites k may (specified k.tags ss) (t.declarator stars (t.identifier at n) shape) start) Parts
      (BreakObject k role ss stars at.index shape start) of_parts to_parts
      (both (shape_sites k shape start) (λ rest. on heads ∷ on large ∷ rest) (BreakShape k shape start)
      (λ f. BreakHead k.tags (role_of role shape) ss stars f ⊎ Large f) (shape_judged laws k shape start)
      (both (λ rest. on heads ∷ rest) (λ rest. on large ∷ rest) (BreakHead k.tags (role_of role shape) ss stars) Large
      (at_one heads (BreakHead k.tags (role_of role shape) ss stars) head)
      (at_one large Large (one_judged 9 (is_too_large k.structs declared_type) at.index (IsLarge k.structs declared_type)
      (large_told k.structs declared_type)))))

block_head : (tags : Tags) (ss : t.Specs) (stars : List t.Star) (shape : t.Shape) (f : Fault)
    → IsTold (head_rules false (misused_in shape (void_at (specified tags ss).types) stars) (specified tags ss) stars) f
    ↔ BreakHead tags (role_of block_object shape) ss stars f
block_head tags ss stars t.object f = heads_are_judged tags block_object ss stars f
block_head tags ss stars (t.array l size r) f = heads_are_judged tags block_object ss stars f
block_head tags ss stars (t.function_shape l ps r) f = heads_are_judged tags (role_of block_object (t.function_shape l ps r)) ss stars f

file_head : (tags : Tags) (ss : t.Specs) (stars : List t.Star) (shape : t.Shape) → ¬ IsFunction shape → (f : Fault)
    → IsTold (head_rules true (misused_in shape (void_at (specified tags ss).types) stars) (specified tags ss) stars) f
    ↔ BreakHead tags (role_of file_object shape) ss stars f
file_head tags ss stars t.object o f = heads_are_judged tags file_object ss stars f
file_head tags ss stars (t.array l size r) o f = heads_are_judged tags file_object ss stars f
file_head tags ss stars (t.function_shape l ps r) o f = absurd (o tt)

pub objects_are_judged : ExpressionLaws → ObjectsAreJudged
objects_are_judged laws = record {
  at_file_scope = λ k ss stars at n shape start o.
      in_role laws k file_object ss stars at n shape start true (file_head k.tags ss stars shape o);
  in_blocks = λ k ss stars at n shape start.
      in_role laws k block_object ss stars at n shape start false (block_head k.tags ss stars shape);
}
