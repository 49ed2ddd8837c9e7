-- A declarator of an object or a member: its parts together.
use Rattle.std.proofs.Common.{◌≡◌, ◌∙◌, ap, ℕ, Bool, Option, List}
use Rattle.ec_check_operands.specs.declared.faults.Fault.{Fault}
use Rattle.ec_check_operands.specs.Faults.{all_judged}
use Rattle.ec_grammar.specs.Trees as t
use Rattle.ec_space.specs.declared.space.SpaceId.{SpaceId}
use Rattle.ec_core.specs.Plain.{PlainType}
use Rattle.ec_check_names.specs.declared.specifiers.Specified.{Specified}
use Rattle.ec_check_names.specs.Qualifiers.{space_in}
use Rattle.ec_check_names.specs.Specifiers.{void_at}
use Rattle.ec_check_names.specs.Stars.{Declared}
use Rattle.ec_check_expressions.specs.TypeNames.{meant_type}
use Rattle.ec_check_declarations.specs.Declarators.{head_of, head_rules, misused_in, shaped, type_declared, typed_object}
use Rattle.ec_check_declarations.specs.Declarators.{typed_object_sites}
use Rattle.ec_check_declarations.specs.ObjectTypes.{object_type}
use Rattle.ec_check_declarations.specs.Sites.{told, Walked}

pub typed : (n : ℕ) (may_have_space : Bool) (said : Specified) (stars : List t.Star) (name : t.Identifier)
    (shape : t.Shape) (size : Option ℕ)
    (f g : Option Fault) (d : Declared) (ty : Option PlainType) (space : SpaceId)
    → d ≡ head_of said stars
    → g ≡ all_judged f (head_rules may_have_space (misused_in shape (void_at said.types) stars) said stars)
    → ty ≡ object_type n (shaped (meant_type (void_at said.types) d.ty) shape size)
    → space ≡ space_in d.qualities.space
    → Walked f g (typed_object_sites may_have_space said (t.declarator stars name shape))
    (record { ty = ty; konst = d.qualities.konst; space = space })
    (typed_object n said (t.declarator stars name shape) size)
typed n may_have_space said stars name shape size f g d ty space hd hg ht hs =
    let D : Declared = head_of said stars in
    let T : Option PlainType = type_declared n said stars shape size in
    let e1 : ty ≡ T = ht ∙ ap (λ (u : Declared). object_type n (shaped (meant_type (void_at said.types) u.ty) shape size)) hd in
    let e2 : space ≡ space_in D.qualities.space = hs ∙ ap (λ (u : Declared). space_in u.qualities.space) hd in
    let e3 : d.qualities.konst ≡ D.qualities.konst = ap (λ (u : Declared). u.qualities.konst) hd in
    record {
      meant =
          ap (λ (u : Option PlainType). record { ty = u; konst = d.qualities.konst; space = space }) e1
          ∙ ap (λ (b : Bool). record { ty = T; konst = b; space = space }) e3
          ∙ ap (λ (s : SpaceId). record { ty = T; konst = D.qualities.konst; space = s }) e2;
      noted = λ rest. ap (λ z. told z rest) hg;
    }
