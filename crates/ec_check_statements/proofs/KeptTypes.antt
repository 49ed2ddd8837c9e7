-- An object or a member has a type where its declarator and its specifiers break no rule.
use Rattle.std.proofs.Common.{◌≡◌, ◌≤◌, ◌+◌, ℕ, Bool, true, false, ◌&&◌, List, [], ◌∷◌, length, refl, sym, subst, arith}
use Rattle.std.specs.Prelude.{if◌then◌else◌, nat_le, pos, int_le, unsigned_abs, is_none, Option, Some, None, IsSome, IsSomeAnd, IfSome}
use Rattle.std.proofs.lemmas.Bool.{both_ways, and_parts, and_from, false≢true, true≢false}
use Rattle.std.proofs.lemmas.Bool.Decides.{nat_tests}
use Rattle.ec_check_operands.specs.Faults.{Judgement}
use Rattle.ec_grammar.specs.Trees as t
use Rattle.ec_core.specs.Plain.{PlainType, void, integer, fixed, pointer, array, struct}
use Rattle.ec_check_names.specs.declared.qualifiers.SpaceWord.{SpaceWord}
use Rattle.ec_check_names.specs.declared.specifiers.Specified.{Specified}
use Rattle.ec_check_names.specs.Counts.{is_function}
use Rattle.ec_check_names.specs.Qualifiers.{own_space_rules}
use Rattle.ec_check_names.specs.Specifiers.{specified, specs_rules, void_at}
use Rattle.ec_check_names.specs.Firsts.{first_conditional}
use Rattle.ec_check_initialisers.specs.Forms.{is_constant_conditional}
use Rattle.ec_check_forms.specs.Nodes.{used}
use Rattle.ec_check_operands.specs.Operands.{Operand, with_one, with_both}
use Rattle.ec_check_forms.specs.Sites.{a_use}
use Rattle.ec_check_expressions.specs.Expressions.{of_conditional, conditional_sites}
use Rattle.ec_check_expressions.specs.Known.{Known, is_sized}
use Rattle.ec_check_expressions.specs.Sites as e
use Rattle.ec_check_expressions.specs.TypeNames.{meant_type, void_rules}
use Rattle.ec_check_expression_laws.specs.Laws.{AreUnbroken, KeptExpressionsHaveMeanings, KeptTypesAreSaid}
use Rattle.ec_check_expression_laws.specs.Suits.{HasTypes}
use Rattle.ec_check_expression_laws.proofs.KeptTypes.{behind_stars, no_void}
use Rattle.ec_check_initialisers.specs.Laws.{SizesAreValues}
use Rattle.ec_check_initialisers.specs.Locals.{items_count}
use Rattle.ec_check_initialisers.specs.Sites as i
use Rattle.ec_check_initialisers.specs.Sizes.{array_size, size_of_number, size_of_operand, size_rules}
use Rattle.ec_check_declarations.specs.Declarators.{head_of, head_rules, given_size, declared_size, declared_size_sites, object_declared}
use Rattle.ec_check_declarations.specs.Declarators.{object_sites, typed_declarator, typed_sites, sized_sites}
use Rattle.ec_check_declarations.specs.ObjectTypes.{is_object_type, object_type, is_too_large, small_type}
use Rattle.ec_check_declarations.specs.Sites as d
use Rattle.ec_check_statements.specs.Laws.{KeptObjectsHaveTypes, KeptMembersHaveTypes}
use Rattle.ec_check_statements.proofs.Choices.{if_both}
use Rattle.ec_check_statements.proofs.KeptParts.{IsMeant, used_meant, conditional_meant}
use Rattle.ec_check_statements.proofs.Unbroken.{InInitialiser, AreKept, kept_of, told_of, kept_initialiser, kept_sites}

-- ---- rules behind others

pub behind_space : (allowed : Bool) (o : Option SpaceWord) (rest : List Judgement) → AreUnbroken (own_space_rules allowed o rest)
    → AreUnbroken rest
behind_space allowed None rest h = h
behind_space allowed (Some s) rest h = h.1

-- ---- sizes

few_number : (n : ℕ) → IfSome (size_of_number (pos n)) (λ m. m ≤ 32_767)
few_number n =
    if_both (λ o. IfSome o (λ m. m ≤ 32_767)) (int_le (pos 1) (pos n) && int_le (pos n) (pos 32_767)) (Some (unsigned_abs (pos n))) None
    (λ q. few n (and_parts (int_le (pos 1) (pos n)) (int_le (pos n) (pos 32_767)) q).1) (λ q. tt)
  where
    few : (n : ℕ) → int_le (pos n) (pos 32_767) ≡ true → n ≤ 32_767
    few n q = grind (arith, nat_tests, q)

given_few : (start : Option t.Start) → IfSome (given_size start) (λ m. m ≤ 32_767)
given_few None = tt
given_few (Some (t.start equals (t.initial_value a))) = tt
given_few (Some (t.start equals (t.braces l first more c r))) = few_number (items_count more + 1)

there : {X : Type 0} (P : X → Type 0) (o : Option X) → is_none o ≡ false → IfSome o P → IsSomeAnd o P
there P None q h = absurd (true≢false q)
there P (Some x) q h = h

abbrev IsFew : Option ℕ → Type 0
IsFew o = IsSomeAnd o (λ m. m ≤ 32_767)

module _ (meanings : KeptExpressionsHaveMeanings) (sizes : SizesAreValues) (k : Known) (h : HasTypes k) where
  operand_size : (x : Option Operand) (at : ℕ) → IsMeant x → AreUnbroken (size_rules true x at)
      → is_none (with_one x size_of_operand) ≡ false
  operand_size None at g u = absurd g
  operand_size (Some x) at g u = u.0

  said_few : (c : t.Conditional) (o : Option ℕ) → array_size k c ≡ o → IfSome o (λ m. m ≤ 32_767)
  said_few c None q = tt
  said_few c (Some m) q = (sizes k c m q).most

  size_there : (c : t.Conditional) (at : ℕ) → InInitialiser (i.size_sites k c at []) → is_none (array_size k c) ≡ false
  size_there c at u = by (is_constant_conditional k c) u
    where
      by : (b : Bool) → InInitialiser (if b
          then i.sites_in (conditional_sites k c (e.on (a_use (of_conditional k c) (first_conditional c)) ∷ []))
          (i.a_size true (used (of_conditional k c)) at ∷ [])
          else i.a_size false None at ∷ [])
          → is_none (if b then with_one (used (of_conditional k c)) size_of_operand else None) ≡ false
      by true u =
          let a = kept_sites (conditional_sites k c (e.on (a_use (of_conditional k c) (first_conditional c)) ∷ []))
          (i.a_size true (used (of_conditional k c)) at ∷ []) u in
          let g = conditional_meant meanings k h c (e.on (a_use (of_conditional k c) (first_conditional c)) ∷ []) a.0 in
          operand_size (used (of_conditional k c)) at (used_meant (of_conditional k c) (first_conditional c) g.0 g.1.0) a.1.0
      by false u = absurd (true≢false u.0.0)

  size_meant : (c : Option t.Conditional) (start : Option t.Start) (at : ℕ) (rest : List d.Site)
      → AreKept (declared_size_sites k c start at rest)
      → IsFew (declared_size k c start) × AreKept rest
  size_meant None start at rest u = (there (λ m. m ≤ 32_767) (given_size start) u.0.0 (given_few start), u.1)
  size_meant (Some c) start at rest u =
      let a = kept_initialiser (i.size_sites k c at []) rest u in
      (there (λ m. m ≤ 32_767) (array_size k c) (size_there c at a.0) (said_few c (array_size k c) refl), a.1)

  -- ---- types

  abbrev IsObject : PlainType → Type 0
  IsObject ty = is_object_type (length k.structs) ty ≡ true

  sized_object : (ty : PlainType) → is_sized (length k.structs) ty ≡ true → IsObject ty
  sized_object void q = absurd (false≢true q)
  sized_object (integer signed bytes) q = q
  sized_object (fixed kind sat) q = refl
  sized_object (pointer s c to) q = q
  sized_object (array of len) q = absurd (false≢true q)
  sized_object (struct index) q = q

  few_test : (n : ℕ) → n ≤ 32_767 → nat_le n 32_767 ≡ true
  few_test n q = grind (arith, nat_tests, q)

  array_object : (base : Option PlainType) (size : Option ℕ) → IsSomeAnd base (λ ty. is_sized (length k.structs) ty ≡ true) → IsFew size
      → IsSomeAnd (with_both base size (λ ty n. Some (array ty n))) IsObject
  array_object None size g f = absurd g
  array_object (Some ty) None g f = absurd f
  array_object (Some ty) (Some n) g f = and_from (is_sized (length k.structs) ty) (nat_le n 32_767) g (few_test n f)

  plain_object : (base : Option PlainType) → IsSomeAnd base (λ ty. is_sized (length k.structs) ty ≡ true) → IsSomeAnd base IsObject
  plain_object None g = absurd g
  plain_object (Some ty) g = sized_object ty g

  tested_some : (o : Option PlainType) → IsSomeAnd o IsObject → IsSome (object_type (length k.structs) o)
  tested_some None g = absurd g
  tested_some (Some ty) g =
      if_both IsSome (is_object_type (length k.structs) ty) (Some ty) None (λ q. refl)
      (λ q. absurd (both_ways (is_object_type (length k.structs) ty) q g))

  small_some : (o : Option PlainType) → is_too_large k.structs o ≡ false → IsSome o → IsSome (small_type k.structs o)
  small_some o q g = if_both IsSome (is_too_large k.structs o) None o (λ z. absurd (both_ways (is_too_large k.structs o) q z)) (λ z. g)

  -- what specifiers and stars say
  module _ (said : KeptTypesAreSaid) (store space : Bool) (ss : t.Specs) (js : List Judgement)
      (kept : AreUnbroken (specs_rules k.tags store ss js)) where
    abbrev s : Specified
    s = specified k.tags ss

    base_meant : (stars : List t.Star) → void_at s.types ≡ None
        → IsSomeAnd (meant_type (void_at s.types) (head_of s stars).ty) (λ ty. is_sized (length k.structs) ty ≡ true)
    base_meant stars q =
        subst (λ (v : Option ℕ). IsSomeAnd (meant_type v (head_of s stars).ty) (λ ty. is_sized (length k.structs) ty ≡ true)) (sym q)
        (said (length k.structs) k.tags h.tags store ss stars js kept q)

    head_unbroken : (misused : Option ℕ) (stars : List t.Star) → AreUnbroken (head_rules space misused s stars) → misused ≡ None
    head_unbroken misused stars u =
        no_void misused (behind_space space (head_of s stars).qualities.space (void_rules misused [])
        (behind_stars stars (own_space_rules space (head_of s stars).qualities.space (void_rules misused [])) u))

    tested_meant : (stars : List t.Star) (misused : Option ℕ) (o : Option PlainType) (rest : List d.Site)
        → AreKept (d.on (head_rules space misused s stars) ∷ rest)
        → (misused ≡ None → IsSomeAnd o IsObject) → IsSome (object_type (length k.structs) o)
    tested_meant stars misused o rest u g = tested_some o (g (head_unbroken misused stars u.0))

    -- the type that is declared, where the name is not followed by parameters; nothing is told at the sites behind it
    pub typed_meant : (stars : List t.Star) (n : t.Identifier) (shape : t.Shape) (start : Option t.Start) (rest : List d.Site)
        → AreKept (typed_sites k space s (t.declarator stars n shape) start rest)
        → (is_function shape ≡ false → IsSome (typed_declarator k s (t.declarator stars n shape) start).ty) × AreKept rest
    typed_meant stars n t.object start rest u = (
      λ q. tested_meant stars (void_at s.types) (meant_type (void_at s.types) (head_of s stars).ty) rest u
          (λ v. plain_object (meant_type (void_at s.types) (head_of s stars).ty) (base_meant stars v)),
      u.1,
    )
    typed_meant stars n (t.array l size r) start rest u =
        let a = size_meant size start l.index _ u in (
          λ q. tested_meant stars (void_at s.types) (with_both (meant_type (void_at s.types) (head_of s stars).ty)
              (declared_size k size start) (λ ty n. Some (array ty n))) rest a.1
              (λ v. array_object (meant_type (void_at s.types) (head_of s stars).ty) (declared_size k size start) (base_meant stars v) a.0),
          a.1.1,
        )
    typed_meant stars n (t.function_shape l ps r) start rest u = (λ q. absurd (true≢false q), u.1)

    -- so the type of an object
    pub object_meant : (stars : List t.Star) (n : t.Identifier) (shape : t.Shape) (start : Option t.Start) (rest : List d.Site)
        → AreKept (object_sites k space s (t.declarator stars n shape) start rest)
        → (is_function shape ≡ false → IsSome (object_declared k s (t.declarator stars n shape) start).ty) × AreKept rest
    object_meant stars (t.identifier at name) shape start rest u =
        let o = typed_declarator k s (t.declarator stars (t.identifier at name) shape) start in
        let a = typed_meant stars (t.identifier at name) shape start (sized_sites k.structs o at.index rest) u in
        (λ q. small_some o.ty a.1.0.0 (a.0 q), a.1.1)

pub kept_objects_have_types : KeptExpressionsHaveMeanings → SizesAreValues → KeptTypesAreSaid → KeptObjectsHaveTypes
kept_objects_have_types meanings sizes said k store space ss js stars n shape start rest h kept function q =
    let a = object_meant meanings sizes k h said store space ss js kept stars n shape start rest
    (kept_of (object_sites k space (specified k.tags ss) (t.declarator stars n shape) start rest) q) in
    (a.0 function, told_of rest a.1)

pub kept_members_have_types : KeptExpressionsHaveMeanings → SizesAreValues → KeptTypesAreSaid → KeptMembersHaveTypes
kept_members_have_types meanings sizes said k ss js stars n shape rest h kept function q =
    let a = typed_meant meanings sizes k h said false false ss js kept stars n shape None rest
    (kept_of (typed_sites k false (specified k.tags ss) (t.declarator stars n shape) None rest) q) in
    (a.0 function, told_of rest a.1)
