-- What is told of names at file scope breaks a constraint there, and the other way round.
use Rattle.std.proofs.Common.{◌≡◌, ◌+◌, ℕ, Bool, true, false, not, ◌&&◌, ◌||◌, List, [], ◌∷◌, length, refl, sym, subst, inl, inr}
use Rattle.std.specs.Prelude.{◌⊎◌, ◌↔◌, ◌≢◌, ◌==◌, nat_lt, Option, Some, None}
use Rattle.std.specs.Bool.{Decides}
use Rattle.std.specs.Str.{bytes_eq}
use Rattle.std.proofs.lemmas.Bool.{false≢true}
use Rattle.std.proofs.lemmas.Bool.Decides.{Decides-eqb, Decides-like, Decides-not, Decides-and, Decides-or, Decides-ltb}
use Rattle.std.proofs.lemmas.Slice.Eq.{bytes_eq-Decides}
use Rattle.ec_grammar.specs.Trees as t
use Rattle.ec_core.specs.Laws.{TypesAreTold}
use Rattle.ec_core.specs.Operators.{same_type}
use Rattle.ec_core.specs.Plain.{PlainType}
use Rattle.ec_core.specs.Typing.{int}
use Rattle.ec_check_operands.specs.declared.faults.Fault.{Fault}
use Rattle.ec_check_operands.specs.Faults.{rule}
use Rattle.ec_check_operands.specs.Laws.{IsTold}
use Rattle.ec_check_names.specs.declared.specifiers.Storage.{Storage}
use Rattle.ec_check_names.specs.declared.specifiers.StorageWord.{StorageWord}
use Rattle.ec_check_names.specs.declared.specifiers.StorageWord.TheVariants.{Extern, Static}
use Rattle.ec_check_names.specs.Specifiers.{storages_of}
use Rattle.ec_check_names.specs.Spellings.{is_main}
use Rattle.ec_check_declarations.specs.Functions.{FunctionDeclared, param_types}
use Rattle.ec_check_declarations.specs.Params.{ParamDeclared}
use Rattle.ec_check_file_scope.specs.FileFunctions.{function_link, function_name, has_params, is_other_result, is_static, is_other_main}
use Rattle.ec_check_file_scope.specs.FileFunctions.{function_rules}
use Rattle.ec_check_file_scope.specs.FileNames.{FileKind, an_object, a_register, a_function, FileName, differ, other_register}
use Rattle.ec_check_file_scope.specs.FileObjects.{is_started, extern_rules, name_rules, number_size, share, same_register}
use Rattle.ec_check_file_scope.specs.FileObjects.{shares_register}
use Rattle.ec_check_file_scope.specs.Laws.{AreTwo, ConflictsAreTold}
use Rattle.ec_check_parts.specs.FileNames.{IsStarted, BreakExtern, main, IsOtherMain, IsNoFunction, BreakName, conflict, other_main}
use Rattle.ec_check_parts.specs.FileNames.{BreakFunctionName, function_named, function_started, Overlap, AreAlike, SharesRegister}
use Rattle.ec_check_parts.specs.FileNames.{BreakSharing}
use Rattle.ec_check_parts.specs.Laws.{FileNamesAreJudged}
use Rattle.ec_check_parts.proofs.Joined.{at_one}
use Rattle.ec_check_parts.proofs.FirstStorages.{IsStored, IsExtern, extern_at}
use Rattle.ec_check_parts.proofs.Expressions.{no_some, same_some}
use Rattle.ec_check_parts.proofs.Structures.{one_judged}

no : {P : Type 0} → ¬ P → Decides false P
no n = (λ e. absurd (false≢true e), λ h. absurd (n h))

-- ---- initialisers

started_told : (start : Option t.Start) → Decides (is_started start) (IsStarted start)
started_told None = no (λ h. h)
started_told (Some i) = (λ e. tt, λ h. refl)

-- an initialiser stands behind a storage word at a token, which is `extern`
abbrev IsExternStart : Option t.Start → (at : ℕ) → StorageWord → Fault → Type 0
IsExternStart start at word f = (f.rule ≡ 16) × IsStarted start × IsStored IsExtern (Some (record { at = at; word = word })) f.at

word_told : (start : Option t.Start) (at : ℕ) (word : StorageWord) (f : Fault)
    → IsTold (extern_rules (is_started start) (Some (record { at = at; word = word }))) f ↔ IsExternStart start at word f
word_told start at Extern f = (there, λ h. inl ((started_told start).1 h.1, h.2.1, h.0))
  where
    there : IsTold (extern_rules (is_started start) (Some (record { at = at; word = Extern }))) f → IsExternStart start at Extern f
    there (inl (b, a, r)) = (r, (started_told start).0 b, (tt, a))
    there (inr h) = absurd h
word_told start at Static f = (λ h. absurd h, λ h. absurd h.2.0)

extern_told : (start : Option t.Start) (o : Option Storage) (f : Fault)
    → IsTold (extern_rules (is_started start) o) f ↔ ((f.rule ≡ 16) × IsStarted start × IsStored IsExtern o f.at)
extern_told start None f = (λ h. absurd h, λ h. absurd h.2)
extern_told start (Some s) f = word_told start s.at s.word f

externs : (ss : t.Specs) (start : Option t.Start) (f : Fault)
    → IsTold (extern_rules (is_started start) (storages_of ss).first) f ↔ BreakExtern ss start f
externs ss start f =
    let here = extern_told start (storages_of ss).first f in
    let at = extern_at ss f.at in
    (λ h. let g = here.0 h in (g.0, g.1, at.0 g.2), λ h. here.1 (h.0, h.1, at.1 h.2))

-- ---- `main`

module _ (told : TypesAreTold) where
  types : (a b : PlainType) → Decides (same_type a b) (a ≡ b)
  types a b = (told.same a b, λ e. subst (λ (z : PlainType). same_type a z ≡ true) e (told.itself a))

  result_told : (o : Option PlainType) → Decides (is_other_result o) ((ty : PlainType) × (o ≡ Some ty) × (ty ≢ int))
  result_told None = no (λ h. no_some h.0 h.1)
  result_told (Some u) = (λ e. (u, refl, d.0 e), λ h. d.1 (subst (λ z. z ≢ int) (sym (same_some u h.0 h.1)) h.2))
    where
      d : Decides (not (same_type u int)) (u ≢ int)
      d = Decides-not (same_type u int) (types u int)

  params_told : (ps : List ParamDeclared) → Decides (has_params ps) (length ps ≢ 0)
  params_told [] = no (λ h. h refl)
  params_told (p ∷ ps) = (λ e q. cc, λ h. refl)

  static_told : (word : Option StorageWord) → Decides (is_static word) (word ≡ Some Static)
  static_told None = no (λ e. cc)
  static_told (Some Extern) = no (λ e. cc)
  static_told (Some Static) = (λ e. refl, λ h. refl)

  abbrev IsOther : FunctionDeclared → Type 0
  IsOther d = (ty : PlainType) × (d.returns ≡ Some ty) × (ty ≢ int)

  other_told : (word : Option StorageWord) (d : FunctionDeclared)
      → Decides (is_other_main word d) (IsOtherMain word (a_function d.returns (length d.params) (param_types d.params)))
  other_told word d =
      Decides-like (is_other_main word d) there back
      (Decides-or (is_other_result d.returns || has_params d.params) (is_static word)
      (Decides-or (is_other_result d.returns) (has_params d.params) (result_told d.returns) (params_told d.params)) (static_told word))
    where
      there : (IsOther d ⊎ (length d.params ≢ 0)) ⊎ (word ≡ Some Static)
          → IsOtherMain word (a_function d.returns (length d.params) (param_types d.params))
      there (inl (inl h)) = inl h
      there (inl (inr h)) = inr (inl h)
      there (inr h) = inr (inr h)

      back : IsOtherMain word (a_function d.returns (length d.params) (param_types d.params))
          → (IsOther d ⊎ (length d.params ≢ 0)) ⊎ (word ≡ Some Static)
      back (inl h) = inl (inl h)
      back (inr (inl h)) = inl (inr h)
      back (inr (inr h)) = inr h

-- ---- names

module _ (conflicting : ConflictsAreTold) where
  module _ (before : List FileName) (d : FileName) (word : Option StorageWord) (at : ℕ) (f : Fault) where
    any_other : (x : FileKind) → IsNoFunction x → IsOtherMain word x
    any_other (an_object ty konst space) n = tt
    any_other (a_register first ty konst) n = tt
    any_other (a_function returns count params) n = absurd n

    object_told : IsNoFunction d.kind → IsTold (name_rules d before at) f ↔ BreakName before d word at f
    object_told n = (there, back)
      where
        there : IsTold (name_rules d before at) f → BreakName before d word at f
        there (inl (b, a, r)) = conflict r a ((conflicting d before).0 b)
        there (inr (inl (b, a, r))) = other_main r a ((bytes_eq-Decides d.name main).0 b) (any_other d.kind n)
        there (inr (inr h)) = absurd h

        back : BreakName before d word at f → IsTold (name_rules d before at) f
        back (conflict r a h) = inl ((conflicting d before).1 h, a, r)
        back (other_main r a e h) = inr (inl ((bytes_eq-Decides d.name main).1 e, a, r))

  module _ (told : TypesAreTold) (before : List FileName) (d : FileName) (word : Option StorageWord) (start : Option t.Start) (at : ℕ)
      (f : Fault) where
    function_told : (other : Bool) → Decides other (IsOtherMain word d.kind)
        → IsTold (function_rules d before (is_started start) other at) f ↔ BreakFunctionName before d word start at f
    function_told other o = (there, back)
      where
        main_told : Decides (is_main d.name && other) ((d.name ≡ main) × IsOtherMain word d.kind)
        main_told = Decides-and (is_main d.name) other (bytes_eq-Decides d.name main) o

        there : IsTold (function_rules d before (is_started start) other at) f → BreakFunctionName before d word start at f
        there (inl (b, a, r)) = function_named (conflict r a ((conflicting d before).0 b))
        there (inr (inl (b, a, r))) = function_started r a ((started_told start).0 b)
        there (inr (inr (inl (b, a, r)))) = let g = main_told.0 b in function_named (other_main r a g.0 g.1)
        there (inr (inr (inr h))) = absurd h

        back : BreakFunctionName before d word start at f → IsTold (function_rules d before (is_started start) other at) f
        back (function_named (conflict r a h)) = inl ((conflicting d before).1 h, a, r)
        back (function_named (other_main r a e h)) = inr (inr (inl (main_told.1 (e, h), a, r)))
        back (function_started r a h) = inr (inl ((started_told start).1 h, a, r))

-- ---- named registers

module _ (told : TypesAreTold) where
  two_types : (a b : Option PlainType) → Decides (differ a b) (AreTwo a b)
  two_types None b = no (λ h. h)
  two_types (Some a) None = no (λ h. h)
  two_types (Some a) (Some b) = Decides-not (same_type a b) (types told a b)

  two_registers : (p q : Option ℕ) → Decides (other_register p q) (AreTwo p q)
  two_registers None q = no (λ h. h)
  two_registers (Some a) None = no (λ h. h)
  two_registers (Some a) (Some b) = Decides-not (a == b) (Decides-eqb a b)

  overlap_told : (x y : FileKind) → Decides (share x y) (Overlap x y)
  overlap_told (an_object a c s) y = no (λ h. h)
  overlap_told (a_function a n ps) y = no (λ h. h)
  overlap_told (a_register None a c) (an_object b d r) = no (λ h. h)
  overlap_told (a_register None a c) (a_function b n ps) = no (λ h. h)
  overlap_told (a_register None a c) (a_register q b d) = no (λ h. h)
  overlap_told (a_register (Some p) None c) (an_object b d r) = no (λ h. h)
  overlap_told (a_register (Some p) None c) (a_function b n ps) = no (λ h. h)
  overlap_told (a_register (Some p) None c) (a_register q b d) = no (λ h. h)
  overlap_told (a_register (Some p) (Some a) c) (an_object b d r) = no (λ h. h)
  overlap_told (a_register (Some p) (Some a) c) (a_function b n ps) = no (λ h. h)
  overlap_told (a_register (Some p) (Some a) c) (a_register None b d) = no (λ h. h)
  overlap_told (a_register (Some p) (Some a) c) (a_register (Some q) None d) = no (λ h. h)
  overlap_told (a_register (Some p) (Some a) c) (a_register (Some q) (Some b) d) =
      Decides-and (nat_lt p (q + number_size b)) (nat_lt q (p + number_size a)) (Decides-ltb p (q + number_size b))
      (Decides-ltb q (p + number_size a))

  alike_told : (x y : FileKind) → Decides (same_register x y) (AreAlike x y)
  alike_told (an_object a c s) y = no (λ h. h)
  alike_told (a_function a n ps) y = no (λ h. h)
  alike_told (a_register p a c) (an_object b d r) = no (λ h. h)
  alike_told (a_register p a c) (a_function b n ps) = no (λ h. h)
  alike_told (a_register p a c) (a_register q b d) =
      Decides-and (not (differ a b)) (not (other_register p q)) (Decides-not (differ a b) (two_types a b))
      (Decides-not (other_register p q) (two_registers p q))

  sharing_told : (d : FileName) (es : List FileName) → Decides (shares_register d es) (SharesRegister d es)
  sharing_told d [] = no (λ h. h)
  sharing_told d (e ∷ es) =
      let one = bytes_eq d.name e.name && same_register d.kind e.kind in
      Decides-or (share d.kind e.kind && not one) (shares_register d es)
      (Decides-and (share d.kind e.kind) (not one) (overlap_told d.kind e.kind)
      (Decides-not one (Decides-and (bytes_eq d.name e.name) (same_register d.kind e.kind) (bytes_eq-Decides d.name e.name)
      (alike_told d.kind e.kind))))
      (sharing_told d es)

pub file_names_are_judged : TypesAreTold → ConflictsAreTold → FileNamesAreJudged
file_names_are_judged told conflicting = record {
  externs = λ ss start. at_one (extern_rules (is_started start) (storages_of ss).first) (BreakExtern ss start) (externs ss start);
  objects = λ before d word at n. at_one (name_rules d before at) (BreakName before d word at)
      (λ f. object_told conflicting before d word at f n);
  functions = λ r word n defined d start at s.
      let name = function_name r n (function_link r word n s) defined d in
      at_one (function_rules name s.declared (is_started start) (is_other_main word d) at)
      (BreakFunctionName s.declared name word start at)
      (λ f. function_told conflicting told s.declared name word start at f (is_other_main word d) (other_told told word d));
  sharing = λ before d at. at_one (rule 13 (shares_register d before) at ∷ []) (BreakSharing before d at)
      (one_judged 13 (shares_register d before) at (SharesRegister d before) (sharing_told told d before));
}
