-- The parameters of a function that is defined, and the function itself.
use Rattle.std.proofs.Common.{◌≡◌, ◌∙◌, ◌<◌, ◌≤◌, ◌+◌, ◌++◌, ℕ, Bool, true, List, [], ◌∷◌, length, map, append_assoc, refl, sym, ap, subst}
use Rattle.std.proofs.Common.{arith}
use Rattle.std.specs.Prelude.{nat_lt, Option, Some, None, IsSome, option_map, slice_get}
use Rattle.std.specs.List.{AllByRecursion}
use Rattle.std.proofs.lemmas.Bool.{false≢true}
use Rattle.std.proofs.lemmas.Bool.Decides.{nat_tests}
use Rattle.ec_iohw.specs.declared.table.IoTable.{IoTable}
use Rattle.ec_core.specs.Plain.{PlainType, PlainObject, param, PlainFunction}
use Rattle.ec_check_names.specs.declared.linkage.Linkage.{Linkage}
use Rattle.ec_check_names.specs.declared.numbering.Defined.TheVariants.{Function as FunctionKind}
use Rattle.ec_check_names.specs.Definitions as numbering
use Rattle.ec_check_names.specs.Definitions.{Definition, Numbering}
use Rattle.ec_check_names.specs.Names.{Names}
use Rattle.ec_check_expression_laws.specs.Suits.{HasTypes}
use Rattle.ec_check_initialisers.specs.Places.{IsNamedObject}
use Rattle.ec_check_declarations.specs.Functions.{types_from}
use Rattle.ec_check_declarations.specs.Params.{ParamDeclared}
use Rattle.ec_check_declarations.specs.Scopes.{Context, Scope, known_in, inner_object, with_inner}
use Rattle.ec_check_statements.specs.Laws.{InnerObjectsKeepSuiting}
use Rattle.ec_check_statements.specs.Objects.{AreFirst}
use Rattle.ec_check_file_scope.specs.States.{State, context_of, with_scope, broken}
use Rattle.ec_check.specs.Agreement.{IsDefined, Agrees}
use Rattle.ec_check.specs.Definitions.{with_params, next_numbers, param_numbers, has_number, with_function}
use Rattle.ec_check.proofs.Grown.{Grows, defined_kept}
use Rattle.ec_check.proofs.KeptFunctions.{IsWholeParam}
use Rattle.ec_check.proofs.Links.{as_numbered}
use Rattle.ec_check.proofs.Lists.{if_true, one_longer, all_push, all_through, stands_before}

-- ---- parameters

append_nothing : {X : Type 0} → (xs : List X) → xs ++ [] ≡ xs
append_nothing [] = refl
append_nothing (x ∷ xs) = ap (λ ys. x ∷ ys) (append_nothing xs)

-- parameters become objects with these numbers, of these types
pub record AreMade (c : Context) (unit function : ℕ) (ps : List ParamDeclared) (s : Scope) : Type 0 where
  pub types : List PlainType
  pub numbers : List ℕ
  pub typed : (ts : List PlainType) → types_from ts ps ≡ Some (ts ++ types)
  pub numbered : (found : List ℕ) → param_numbers unit function ps s (Some found) ≡ Some (found ++ numbers)
  pub each : map (λ o. option_map (λ x. x.ty) (slice_get (with_params unit function ps s).objects o)) numbers ≡ map Some types
  pub known : HasTypes (known_in c (with_params unit function ps s).names)
  pub counted : length (with_params unit function ps s).objects ≡ length s.objects + length ps
  pub stay : AreFirst s.objects (with_params unit function ps s).objects

module _ (inner : InnerObjectsKeepSuiting) (c : Context) (unit function : ℕ) where
  -- what is made of parameters behind some objects
  abbrev MakesMore : List ParamDeclared → Type 0
  MakesMore ps = (v : Scope) → HasTypes (known_in c v.names) → length v.objects + length ps ≤ 65_536 → AreMade c unit function ps v

  one_made : (name : List ℕ) (ty : PlainType) (konst : Bool) (ps : List ParamDeclared) (s : Scope) → MakesMore ps
      → HasTypes (known_in c s.names)
      → length s.objects + (length ps + 1) ≤ 65_536
      → AreMade c unit function (record { name = Some name; ty = Some ty; konst = konst } ∷ ps) s
  one_made name ty konst ps s more h room =
      let v = with_inner unit name (Some ty) konst (param function) s in
      let g = inner c unit name (Some ty) konst (param function) s in
      let low : length s.objects < 65_536 = omega (arith, room) in
      let count = g.counted refl low in
      let m = more v (g.types h refl) (omega (arith, count, room)) in
      let all = (with_params unit function ps v).objects in
      let rest = m.counted in
      let head : option_map (λ x. x.ty) (slice_get all (length s.objects)) ≡ Some ty =
      ap (λ (o : Option PlainObject). option_map (λ x. x.ty) o)
      (m.stay (length s.objects) (inner_object unit name konst (param function) ty) (g.stands low)) in
      record {
        types = ty ∷ m.types;
        numbers = length s.objects ∷ m.numbers;
        typed = λ ts. m.typed (ts ++ ty ∷ []) ∙ ap Some (append_assoc ts (ty ∷ []) m.types);
        numbered = λ found.
            ap (λ (o : Option ℕ). param_numbers unit function ps v (next_numbers (Some found) o)) (g.number refl low)
            ∙ m.numbered (found ++ length s.objects ∷ [])
            ∙ ap Some (append_assoc found (length s.objects ∷ []) m.numbers);
        each =
            ap (λ (o : Option PlainType). o ∷ map (λ o. option_map (λ x. x.ty) (slice_get all o)) m.numbers) head
            ∙ ap (λ (os : List (Option PlainType)). Some ty ∷ os) m.each;
        known = m.known;
        counted = omega (arith, rest, count);
        stay = λ i x e. m.stay i x (g.stay i x e);
      }

  either_made : (name : Option (List ℕ)) (ty : Option PlainType) (konst : Bool) (ps : List ParamDeclared) (s : Scope) → IsSome name
      → IsSome ty → MakesMore ps
      → HasTypes (known_in c s.names) → length s.objects + (length ps + 1) ≤ 65_536
      → AreMade c unit function (record { name = name; ty = ty; konst = konst } ∷ ps) s
  either_made None ty konst ps s p q more h room = absurd (false≢true p)
  either_made (Some name) None konst ps s p q more h room = absurd (false≢true q)
  either_made (Some name) (Some ty) konst ps s p q more h room = one_made name ty konst ps s more h room

  pub params_made : (ps : List ParamDeclared) (s : Scope) → AllByRecursion (IsWholeParam true) ps → HasTypes (known_in c s.names)
      → length s.objects + length ps ≤ 65_536 → AreMade c unit function ps s
  params_made [] s all h room = record {
    types = [];
    numbers = [];
    typed = λ ts. ap Some (sym (append_nothing ts));
    numbered = λ found. ap Some (sym (append_nothing found));
    each = refl;
    known = h;
    counted = omega arith;
    stay = λ i x e. e;
  }
  params_made (p ∷ ps) s all h room =
      either_made p.name p.ty p.konst ps s (all.0.1 refl) all.0.0 (λ v k low. params_made ps v all.1 k low) h (omega (arith, room))

-- ---- one more function

abbrev pub with_body : PlainFunction → Scope → State → State
with_body g w s = record (with_scope w s) { functions = s.functions ++ g ∷ [] }

-- a scope behind a body: the names are those before it, and there are so many objects more
pub record IsBehind (before after : Scope) (objects : ℕ) : Type 0 where
  pub names : after.names ≡ before.names
  pub stay : AreFirst before.objects after.objects
  pub counted : length after.objects ≡ length before.objects + objects

number_left : (n : ℕ) → n < 65_536 → nat_lt n 65_536 ≡ true
number_left n h = grind (arith, nat_tests, h)

pub body_grows : (s : State) (w : Scope) (k : ℕ) (g : PlainFunction) → IsBehind s.scope w k → Grows s (with_body g w s)
body_grows s w k g b = record {
  declared = λ e h. h;
  objects = b.stay;
  functions = λ i f e. stands_before s.functions (g ∷ []) i f e;
}

pub function_agrees : (io : IoTable) (unit : ℕ) (n : Numbering) (s : State) → Agrees io unit n s → (w : Scope) (k : ℕ)
    → IsBehind s.scope w k → n.functions < 65_536
    → (g : PlainFunction) (name : List ℕ) (l : Linkage)
    → IsDefined (with_body g w s) (record { name = name; unit = unit; linkage = l; kind = FunctionKind; number = n.functions })
    → Agrees io unit (numbering.with_function unit name l k n) (with_function (Some g) (with_scope w s))
function_agrees io unit n s h w k b room g name l defined =
    let d : Definition = record { name = name; unit = unit; linkage = l; kind = FunctionKind; number = n.functions } in
    let v = with_body g w s in
    let count = b.counted in
    let before = h.objects in
    if_true (λ v. Agrees io unit (numbering.with_function unit name l k n) v) (has_number s.functions) v (broken (with_scope w s))
    (subst (λ (m : ℕ). nat_lt m 65_536 ≡ true) (sym h.functions) (number_left n.functions room))
    (record {
      whole = h.whole;
      objects = omega (arith, count, before);
      functions = one_longer s.functions g ∙ ap (λ (m : ℕ). m + 1) h.functions;
      links = h.links;
      registered = λ m. as_numbered m n.definitions d refl ∙ h.registered m;
      made = all_push (IsDefined v) n.definitions d
          (all_through (IsDefined s) (IsDefined v) n.definitions (λ x. defined_kept s v (body_grows s w k g b) x) h.made) defined;
      clear = h.clear;
      units = h.units;
      types = subst (λ (names : Names). HasTypes (known_in (context_of io s) names)) (sym b.names) h.types;
      closed = ap (λ (names : Names). names.inside) b.names ∙ h.closed;
      sound = record {
        structs = h.sound.structs;
        counted = h.sound.counted;
        named =
            subst (λ (names : Names). AllByRecursion (λ e. IsNamedObject (length s.structs) e.1) names.outside) (sym b.names) h.sound.named;
      };
      filled = h.filled;
    })
