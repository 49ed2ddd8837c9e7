-- What the walk finds is the one reading of declarators.
use Rattle.std.proofs.Common.{◌≡◌, ◌∙◌, ℕ, Bool, true, false, ◌&&◌, ◌||◌, not, List, [], ◌∷◌, refl, sym, ap, subst, arith}
use Rattle.std.specs.Prelude.{◌↔◌, ◌==◌, if◌then◌else◌, Option, Some, None, map}
use Rattle.std.specs.Bool.{Decides}
use Rattle.std.specs.Str.{bytes_eq}
use Rattle.std.proofs.lemmas.Bool.{false≢true}
use Rattle.std.proofs.lemmas.Bool.Decides.{Decides-and, Decides-like, nat_tests}
use Rattle.std.proofs.lemmas.Slice.Eq.{bytes_eq-Decides}
use Rattle.ec_grammar.specs.Trees as t
use Rattle.ec_check_names.specs.declared.linkage.Linkage.{Linkage}
use Rattle.ec_check_names.specs.declared.linkage.Linkage.TheVariants.{Internal, External}
use Rattle.ec_check_names.specs.declared.numbering.Defined.{Defined}
use Rattle.ec_check_names.specs.declared.numbering.Defined.TheVariants.{Object, Register, Function}
use Rattle.ec_check_names.specs.declared.specifiers.StorageWord.{StorageWord}
use Rattle.ec_check_names.specs.Definitions.{Definition, same_linkage, is_internal, same_kind, defines, number_of}
use Rattle.ec_check_names.specs.Tags.{Tags}
use Rattle.ec_check_expressions.specs.Known.{Known}
use Rattle.ec_check_declarations.specs.Declarators.{ObjectDeclared}
use Rattle.ec_check_declarations.specs.Functions.{FunctionDeclared}
use Rattle.ec_check_declarations.specs.Params.{ParamDeclared, params_declared, next_declared}
use Rattle.ec_check_declarations.specs.Registers.{RegisterDeclared}
use Rattle.ec_check_file_scope.specs.FileNames.{FileName}
use Rattle.ec_check_meanings.proofs.Options.{inside, nothing_there}
use Rattle.ec_check_parts.specs.Functions.{params_behind, params_in}
use Rattle.ec_check_parts.specs.Linkages.{HasLinkage, LinkagesAreFound}
use Rattle.ec_check_parts.specs.Readings.{IsTheOne, Defines, HasNumber, at_first, behind, SaysParam, SayParams, no_param, more_params}
use Rattle.ec_check_parts.specs.Readings.{Reading, SaysObject, SaysFunction, SaysRegister, Reads, walked, OneReads}
use Rattle.ec_check_parts.specs.Said.{DeclaratorsAreSaid, StructsAreDeclared}
use Rattle.ec_check_parts.specs.Words.{words_among, own_words}
use Rattle.ec_check_parts.proofs.Declared.{register_named, register_types}
use Rattle.ec_check_parts.proofs.Types.{same_const, same_space}

-- ---- numbers

linkage_told : (a b : Linkage) → Decides (same_linkage a b) (a ≡ b)
linkage_told Internal Internal = (λ e. refl, λ e. refl)
linkage_told Internal External = (λ e. absurd (false≢true e), λ e. cc)
linkage_told External Internal = (λ e. absurd (false≢true e), λ e. cc)
linkage_told External External = (λ e. refl, λ e. refl)

kind_told : (function : Bool) (k : Defined) → Decides (same_kind function k) (function ≡ true ↔ (k ≡ Function))
kind_told true Object = (λ e. absurd (false≢true e), λ h. let q : ◌≡◌ {A = Defined} Object Function = h.0 refl in cc)
kind_told true Register = (λ e. absurd (false≢true e), λ h. let q : ◌≡◌ {A = Defined} Register Function = h.0 refl in cc)
kind_told true Function = (λ e. (λ q. refl, λ q. refl), λ h. refl)
kind_told false Object = (λ e. (λ q. absurd (false≢true q), λ q. cc), λ h. refl)
kind_told false Register = (λ e. (λ q. absurd (false≢true q), λ q. cc), λ h. refl)
kind_told false Function = (λ e. absurd (false≢true e), λ h. h.1 refl)

own_told : (l : Linkage) (a b : ℕ) → Decides (not (is_internal l) || a == b) (l ≡ Internal → a ≡ b)
own_told Internal a b = (λ e q. grind (arith, nat_tests, e), λ h. let q = h refl in grind (arith, nat_tests, q))
own_told External a b = (λ e q. cc, λ h. refl)

module _ (n : List ℕ) (unit : ℕ) (linkage : Linkage) (function : Bool) where
  definition_told : (d : Definition) → Decides (defines n unit linkage function d) (Defines n unit linkage function d)
  definition_told d =
      Decides-like
      (bytes_eq d.name n && same_linkage d.linkage linkage && same_kind function d.kind && (not (is_internal linkage) || d.unit == unit))
      there back
      (Decides-and (bytes_eq d.name n && same_linkage d.linkage linkage && same_kind function d.kind)
      (not (is_internal linkage) || d.unit == unit)
      (Decides-and (bytes_eq d.name n && same_linkage d.linkage linkage) (same_kind function d.kind)
      (Decides-and (bytes_eq d.name n) (same_linkage d.linkage linkage) (bytes_eq-Decides d.name n) (linkage_told d.linkage linkage))
      (kind_told function d.kind))
      (own_told linkage d.unit unit))
    where
      there : (((d.name ≡ n) × (d.linkage ≡ linkage)) × (function ≡ true ↔ (d.kind ≡ Function))) × (linkage ≡ Internal → d.unit ≡ unit)
          → Defines n unit linkage function d
      there (((a, b), c), e) = record { named = a; linked = b; kind = c; own = e }

      back : Defines n unit linkage function d
          → (((d.name ≡ n) × (d.linkage ≡ linkage)) × (function ≡ true ↔ (d.kind ≡ Function))) × (linkage ≡ Internal → d.unit ≡ unit)
      back h = (((h.named, h.linked), h.kind), h.own)

  abbrev number_in : List Definition → Option ℕ
  number_in ds = number_of n unit linkage function ds

  first_by : (d : Definition) (ds : List Definition) (m : ℕ) (b : Bool) → Decides b (Defines n unit linkage function d)
      → (number_in ds ≡ Some m → HasNumber n unit linkage function ds m) → (if b then Some d.number else number_in ds) ≡ Some m
      → HasNumber n unit linkage function (d ∷ ds) m
  first_by d ds m true h go e = subst (HasNumber n unit linkage function (d ∷ ds)) (inside e) (at_first (h.0 refl))
  first_by d ds m false h go e = behind (λ q. false≢true (h.1 q)) (go e)

  found : (ds : List Definition) (m : ℕ) → number_in ds ≡ Some m → HasNumber n unit linkage function ds m
  found [] m e = absurd (nothing_there m e)
  found (d ∷ ds) m e = first_by d ds m (defines n unit linkage function d) (definition_told d) (found ds m) e

  tested : (ds : List Definition) (m : ℕ) → HasNumber n unit linkage function ds m → number_in ds ≡ Some m
  tested _ _ (at_first {d = d} {ds = ds} h) = ap (λ (b : Bool). if b then Some d.number else number_in ds) ((definition_told d).1 h)
  tested _ m (behind {d = d} {ds = ds} q h) = passed (defines n unit linkage function d) (definition_told d) (tested ds m h)
    where
      passed : (b : Bool) → Decides b (Defines n unit linkage function d) → number_in ds ≡ Some m
          → (if b then Some d.number else number_in ds) ≡ Some m
      passed true h e = absurd (q (h.0 refl))
      passed false h e = e

-- ---- the walk reads

module _ (declarators : DeclaratorsAreSaid) (structs : StructsAreDeclared) (links : LinkagesAreFound) where
  more_said : (tags : Tags) (n : ℕ) (ps : List t.NextParam)
      → SayParams tags n (params_behind ps) (map (next_declared tags n) ps)
  more_said tags n [] = no_param
  more_said tags n (t.next_param comma (t.param (t.type_name ss stars) name) ∷ ps) =
      more_params
      (record {
        named = refl;
        typed = λ ty. declarators.params tags n ss stars name ty;
        const = declarators.constness_of_params tags n ss stars name;
      })
      (more_said tags n ps)

  params_said : (tags : Tags) (n : ℕ) (ps : t.Params) → SayParams tags n (params_in ps) (params_declared tags n ps)
  params_said tags n (t.void_params s) = no_param
  params_said tags n (t.params (t.param (t.type_name ss stars) name) more) =
      more_params
      (record {
        named = refl;
        typed = λ ty. declarators.params tags n ss stars name ty;
        const = declarators.constness_of_params tags n ss stars name;
      })
      (more_said tags n more)

  walk_reads : Reads walked
  walk_reads = record {
    objects = λ k ss stars name shape start.
        record {
          typed = λ ty. declarators.objects k ss stars name shape start ty;
          const = declarators.constness k ss stars name shape start;
          space = declarators.spaces k ss stars name shape start;
        };
    functions = λ tags n ss stars ps.
        record { result = λ ty. declarators.results tags n ss stars ps ty; params = params_said tags n ps };
    registers = λ k w at register ss name e.
        record {
          first = λ first. register_named register first;
          typed = λ ty. register_types k register ss ty;
          const = declarators.constness_of_registers k w at register ss name e;
        };
    structures = λ k d s. structs k d s;
    linkages = λ n unit before word function. (links n unit before word function _).1 refl;
    numbers = λ n unit linkage function ds m. (found n unit linkage function ds m, tested n unit linkage function ds m);
  }

  -- ---- and there is no other reading

  the_one : {X : Type 0} → (Is : X → Type 0) (a b : Option X) → IsTheOne Is a → IsTheOne Is b → a ≡ b
  the_one Is (Some x) b p r = sym ((r x).1 ((p x).0 refl))
  the_one Is None None p r = refl
  the_one Is None (Some y) p r = absurd (nothing_there y ((p y).1 ((r y).0 refl)))

  one_object : (k : Known) (ss : t.Specs) (stars : List t.Star) (shape : t.Shape) (start : Option t.Start) (a b : ObjectDeclared)
      → SaysObject k ss stars shape start a → SaysObject k ss stars shape start b → a ≡ b
  one_object k ss stars shape start a b p r =
      let ty = the_one _ a.ty b.ty p.typed r.typed in
      let konst = same_const a.konst b.konst p.const r.const in
      let space = same_space (own_words (words_among ss) stars) a.space b.space p.space r.space in
      λ i. record { ty = ty i; konst = konst i; space = space i }

  one_param : (tags : Tags) (n : ℕ) (ss : t.Specs) (stars : List t.Star) (name : Option t.Identifier) (a b : ParamDeclared)
      → SaysParam tags n ss stars name a → SaysParam tags n ss stars name b → a ≡ b
  one_param tags n ss stars name a b p r =
      let names = p.named ∙ sym r.named in
      let ty = the_one _ a.ty b.ty p.typed r.typed in
      let konst = same_const a.konst b.konst p.const r.const in
      λ i. record { name = names i; ty = ty i; konst = konst i }

  one_params : (tags : Tags) (n : ℕ) (ps : List t.Param) (xs : List ParamDeclared) → SayParams tags n ps xs → (ys : List ParamDeclared)
      → SayParams tags n ps ys → xs ≡ ys
  one_params tags n _ _ no_param = none
    where
      none : (ys : List ParamDeclared) → SayParams tags n [] ys → [] ≡ ys
      none _ no_param = refl
  one_params tags n _ _ (more_params {ss = ss} {stars = stars} {name = name} {ps = ps} {d = a} {ds = xs} p g) =
      λ ys h. more ys h (λ zs k. one_params tags n ps xs g zs k)
    where
      more : (ys : List ParamDeclared) → SayParams tags n (t.param (t.type_name ss stars) name ∷ ps) ys
          → ((zs : List ParamDeclared) → SayParams tags n ps zs → xs ≡ zs) → a ∷ xs ≡ ys
      more _ (more_params {d = b} {ds = zs} r k) go =
          let one = one_param tags n ss stars name a b p r in
          let others = go zs k in
          λ i. one i ∷ others i

  one_function : (tags : Tags) (n : ℕ) (ss : t.Specs) (stars : List t.Star) (ps : t.Params) (a b : FunctionDeclared)
      → SaysFunction tags n ss stars ps a → SaysFunction tags n ss stars ps b → a ≡ b
  one_function tags n ss stars ps a b p r =
      let result = the_one _ a.returns b.returns p.result r.result in
      let params = one_params tags n (params_in ps) a.params p.params b.params r.params in
      λ i. record { returns = result i; params = params i }

  one_register : (k : Known) (register : List ℕ) (ss : t.Specs) (a b : RegisterDeclared) → SaysRegister k register ss a
      → SaysRegister k register ss b → a ≡ b
  one_register k register ss a b p r =
      let first = the_one _ a.first b.first p.first r.first in
      let ty = the_one _ a.ty b.ty p.typed r.typed in
      let konst = same_const a.konst b.konst p.const r.const in
      λ i. record { first = first i; ty = ty i; konst = konst i }

  one_linkage : (n : List ℕ) (unit : ℕ) (before : List FileName) (word : Option StorageWord) (function : Bool) (a b : Linkage)
      → HasLinkage n unit before word function a → HasLinkage n unit before word function b → a ≡ b
  one_linkage n unit before word function a b p r =
      sym ((links n unit before word function a).0 p) ∙ (links n unit before word function b).0 r

  module _ (q : Reading) (r : Reads q) where
    objects_same : (k : Known) (ss : t.Specs) (d : t.Declarator) (start : Option t.Start) → q.object k ss d start ≡ walked.object k ss d start
    objects_same k ss (t.declarator stars name shape) start =
        one_object k ss stars shape start _ _ (r.objects k ss stars name shape start) (walk_reads.objects k ss stars name shape start)

    functions_same : (tags : Tags) (n : ℕ) (ss : t.Specs) (stars : List t.Star) (ps : t.Params)
        → q.function tags n ss stars ps ≡ walked.function tags n ss stars ps
    functions_same tags n ss stars ps =
        one_function tags n ss stars ps _ _ (r.functions tags n ss stars ps) (walk_reads.functions tags n ss stars ps)

    registers_same : (k : Known) (d : t.RegisterObject) → q.register k d ≡ walked.register k d
    registers_same k (t.register_object w (t.identifier at register) ss name e) =
        one_register k register ss _ _ (r.registers k w at register ss name e) (walk_reads.registers k w at register ss name e)

    same : q ≡ walked
    same =
        λ i.
        record {
          object = λ k ss d start. objects_same k ss d start i;
          function = λ tags n ss stars ps. functions_same tags n ss stars ps i;
          register = λ k d. registers_same k d i;
          structure = λ k d. the_one _ (q.structure k d) (walked.structure k d) (r.structures k d) (walk_reads.structures k d) i;
          linkage = λ n unit before word function.
              one_linkage n unit before word function _ _ (r.linkages n unit before word function)
              (walk_reads.linkages n unit before word function) i;
          number = λ n unit linkage function ds.
              the_one _ (q.number n unit linkage function ds) (walked.number n unit linkage function ds)
              (r.numbers n unit linkage function ds) (walk_reads.numbers n unit linkage function ds) i;
        }

  pub one_reads : OneReads
  one_reads q = (λ r. same q r, λ e. subst Reads (sym e) walk_reads)
