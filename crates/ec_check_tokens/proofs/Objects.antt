-- The objects of a program stand in the order of their declarators.
use Rattle.std.proofs.Common.{◌≡◌, ◌∙◌, ◌+◌, ℕ, Bool, true, false, ◌&&◌, ◌||◌, List, [], ◌∷◌, ◌++◌, append_assoc, refl, sym, ap, subst, inl, inr}
use Rattle.std.specs.Prelude.{◌⊎◌, Option, Some, None}
use Rattle.std.specs.Bool.{Decides}
use Rattle.std.specs.Str.{bytes_eq}
use Rattle.std.proofs.lemmas.Bool.{false≢true}
use Rattle.std.proofs.lemmas.Bool.Decides.{Decides-or}
use Rattle.std.proofs.lemmas.List.{append-nil}
use Rattle.std.proofs.lemmas.Slice.Eq.{bytes_eq-Decides}
use Rattle.ec_grammar.specs.declared.Spot.{Spot}
use Rattle.ec_grammar.specs.Spelling as s
use Rattle.ec_grammar.specs.Tokens as tokens
use Rattle.ec_grammar.specs.Trees as t
use Rattle.ec_grammar.specs.Trees.{Leaf}
use Rattle.ec_iohw.specs.declared.table.IoTable.{IoTable}
use Rattle.ec_core.specs.Plain.{PlainStmt, PlainStmts, OptionPlainStmt, PlainKind, PlainObject}
use Rattle.ec_core.specs.Plain.{PlainFunction, PlainProgram}
use Rattle.ec_check_names.specs.declared.specifiers.StorageWord.{StorageWord}
use Rattle.ec_check_names.specs.declared.specifiers.StorageWord.TheVariants.{Extern, Static}
use Rattle.ec_check_names.specs.Counts.{is_function}
use Rattle.ec_check_names.specs.Definitions.{Definition, definitions}
use Rattle.ec_check_names.specs.Tags.{Tags}
use Rattle.ec_check_declarations.specs.Scopes.{Context}
use Rattle.ec_check_file_scope.specs.FileNames.{FileName, is_register, is_registered}
use Rattle.ec_check_file_scope.specs.States.{Setting}
use Rattle.ec_check_parts.specs.Readings.{Reading, walked, OneReads}
use Rattle.ec_check_parts.specs.Functions.{params_behind, params_in}
use Rattle.ec_check_parts.specs.Places.{Inside}
use Rattle.ec_check_parts.specs.Units.{Outside, word_in, behind_declarator, behind_declarators, behind_external, behind_externals}
use Rattle.ec_check_parts.specs.Units.{behind_unit, setting_in}
use Rattle.ec_check_typed.specs.Statements as said
use Rattle.ec_check_typed.specs.Statements.{Enclosing, IsLocal, AreLocals, others, IsFirst, Says, IsStatement, AreItems, IsBody}
use Rattle.ec_check_typed.specs.Units as units
use Rattle.ec_check_typed.specs.Units.{Added, Place, past, IsExtern, IsObject, AreObjects, IsRegister, AreParams, IsFunction, Adds}
use Rattle.ec_check_typed.specs.Units.{AddAll, begins, UnitsAdd, first_place, Typed}
use Rattle.ec_check_tokens.specs.Definers.{Definer, word_of, StandInOrder, ended, passed, named}
use Rattle.ec_check_tokens.specs.Objects.{Kept, at_file_scope, in_register, as_parameter, in_block, local_in, locals_in, declared_in, first_in}
use Rattle.ec_check_tokens.specs.Objects.{statement_in, items_in, body_in, param_in, all_params_in, unless_extern, static_in, statics_in}
use Rattle.ec_check_tokens.specs.Objects.{external_in, externals_in, unit_in, objects_from, IsKept, IsObjectOf, HasRegister, MakeObjects}
use Rattle.ec_check_tokens.specs.Objects.{all_made, made_before, an_object, item_in, ObjectsAreInOrder}
use Rattle.ec_check_tokens.proofs.Definers.{word_is}
use Rattle.ec_check_tokens.proofs.Order as among

-- ---- named registers among objects

either_first : (n : List ℕ) (xs ys : List PlainObject) → HasRegister n xs → HasRegister n (xs ++ ys)
either_first n (x ∷ xs) ys (inl h) = inl h
either_first n (x ∷ xs) ys (inr h) = inr (either_first n xs ys h)
either_first n [] ys h = absurd h

either_last : (n : List ℕ) (xs ys : List PlainObject) → HasRegister n ys → HasRegister n (xs ++ ys)
either_last n [] ys h = h
either_last n (x ∷ xs) ys h = inr (either_last n xs ys h)

one_of : (n : List ℕ) (xs ys : List PlainObject) → HasRegister n (xs ++ ys) → HasRegister n xs ⊎ HasRegister n ys
one_of n [] ys h = inr h
one_of n (x ∷ xs) ys (inl h) = inl (inl h)
one_of n (x ∷ xs) ys (inr h) = deeper (one_of n xs ys h)
  where
    deeper : HasRegister n xs ⊎ HasRegister n ys → HasRegister n (x ∷ xs) ⊎ HasRegister n ys
    deeper (inl g) = inl (inr g)
    deeper (inr g) = inr g

-- none of some objects stands in registers
abbrev HaveNone : List PlainObject → Type 0
HaveNone os = (n : List ℕ) → ¬ HasRegister n os

none_both : (os us : List PlainObject) → HaveNone os → HaveNone us → HaveNone (os ++ us)
none_both os us h g n r = by (one_of n os us r)
  where
    by : HasRegister n os ⊎ HasRegister n us → ⊥
    by (inl q) = h n q
    by (inr q) = g n q

module _ (all : List PlainObject) where
  abbrev Give : List PlainObject → List (Definer Kept) → Type 0
  Give before ds = MakeObjects all before ds

  -- declarators, before others, give these objects, none of which stands in registers
  record Gives (os : List PlainObject) (defining : List (Definer Kept) → List (Definer Kept)) : Type 0 where
    pub gives : (before : List PlainObject) (rest : List (Definer Kept)) → Give (before ++ os) rest → Give before (defining rest)
    pub plain : HaveNone os

  nothing : Gives [] (λ rest. rest)
  nothing = record {
    gives = λ before rest h. subst (λ (z : List PlainObject). Give z rest) (append-nil before) h;
    plain = λ n h. h;
  }

  both : (os us : List PlainObject) (f g : List (Definer Kept) → List (Definer Kept)) → Gives os f → Gives us g
      → Gives (os ++ us) (λ rest. f (g rest))
  both os us f g h m = record {
    gives = λ before rest q.
        h.gives before (g rest)
        (m.gives (before ++ os) rest (subst (λ (z : List PlainObject). Give z rest) (sym (append_assoc before os us)) q));
    plain = none_both os us h.plain m.plain;
  }

  one : (x : PlainObject) (d : Definer Kept) → ¬ (d.kind ≡ in_register) → ¬ IsKept in_register x.storage → IsObjectOf d x
      → Gives (x ∷ []) (λ rest. d ∷ rest)
  one x d n s h = record {
    gives = λ before rest q. an_object x (λ e. absurd (n e)) h q;
    plain = none;
  }
    where
      none : HaveNone (x ∷ [])
      none m (inl q) = s q.1
      none m (inr q) = q

  in_a_block : ¬ (in_block ≡ in_register)
  in_a_block e = cc

  a_parameter : ¬ (as_parameter ≡ in_register)
  a_parameter e = cc

  at_the_file : ¬ (at_file_scope ≡ in_register)
  at_the_file e = cc

  -- ---- blocks

  local_gives : (w : Enclosing) (c : Context) (ss : t.Specs) (i : Inside) (d : t.InitDeclarator) (x : PlainStmt) (o : PlainObject)
      → IsLocal w c ss i d x o → Gives (o ∷ []) (local_in w.unit d)
  local_gives w c ss i _ _ _ (said.one_local {at = at} {n = n} {ty = ty} {konst = konst} room declared qualified h) =
      one (said.local_object w n ty konst) (record { unit = w.unit; at = at.index; name = n; kind = in_block }) in_a_block (λ q. q)
      (record { name = refl; unit = refl; kept = tt })

  locals_give : (w : Enclosing) (c : Context) (ss : t.Specs) (i : Inside) (ds : List t.InitDeclarator) (xs : List PlainStmt)
      (os : List PlainObject) → AreLocals w c ss i ds xs os → Gives os (locals_in w.unit ds)
  locals_give w c ss _ _ _ _ said.no_local = nothing
  locals_give w c ss _ _ _ _ (said.more_locals {i = i} {d = d} {ds = ds} {x = x} {xs = xs} {o = o} {os = os} h m) =
      both (o ∷ []) os (local_in w.unit d) (locals_in w.unit ds) (local_gives w c ss i d x o h)
      (locals_give w c ss (said.declaring (o ∷ []) i) ds xs os m)

  first_gives : (w : Enclosing) (c : Context) (i : Inside) (x : t.First) (p : OptionPlainStmt) (os : List PlainObject) → IsFirst w c i x p os
      → Gives os (first_in w.unit x)
  first_gives w c i _ _ _ (said.one_object {ss = ss} {d = d} {x = x} {o = o} h) = local_gives w c ss i d x o h
  first_gives w c i _ _ _ (said.several_objects {ss = ss} {d = d} {next = next} {ds = ds} {xs = xs} {os = os} h) =
      locals_give w c ss i (d ∷ others (next ∷ ds)) xs os h
  first_gives w c i _ _ _ said.nothing_first = nothing
  first_gives w c i _ _ _ (said.evaluated_first h) = nothing

  module _ (w : Enclosing) where
    mutual
      says_gives : (c : Context) (l : Bool) (i : Inside) (x : t.Statement) (kind : PlainKind) (os : List PlainObject)
          → Says w c l i x kind os → Gives os (statement_in w.unit x)
      says_gives _ _ _ _ _ _ (said.compounded {c = c} {in_loop = l} {i = i} {ps = ps} {xs = xs} {ss = ss} {os = os} h) =
          items_give _ l i xs ss os h
      says_gives _ _ _ _ _ _ said.nothing_said = nothing
      says_gives _ _ _ _ _ _ (said.expressed h) = nothing
      says_gives _ _ _ _ _ _ (said.selected {c = c} {in_loop = l} {i = i} {a = a} {p = p} {os = os} test h) = statement_gives c l i a p os h
      says_gives _ _ _ _ _ _ (said.chosen {c = c} {in_loop = l} {i = i} {a = a} {b = b} {p = p} {q = q} {os = os} {us = us} test h m) =
          both os us (statement_in w.unit a) (statement_in w.unit b) (statement_gives c l i a p os h) (statement_gives c l _ b q us m)
      says_gives _ _ _ _ _ _ (said.while_true {c = c} {i = i} {a = a} {p = p} {os = os} test h) = statement_gives c true i a p os h
      says_gives _ _ _ _ _ _ (said.done_while {c = c} {i = i} {a = a} {p = p} {os = os} h test) = statement_gives c true i a p os h
      says_gives _ _ _ _ _ _ (said.repeated {c = c} {i = i} {first = first} {a = a} {p = p} {q = q} {os = os} {us = us} f test last h) =
          both os us (first_in w.unit first) (statement_in w.unit a) (first_gives w c i first p os f) (statement_gives c true _ a q us h)
      says_gives _ _ _ _ _ _ said.broken_off = nothing
      says_gives _ _ _ _ _ _ said.continued = nothing
      says_gives _ _ _ _ _ _ (said.returned h) = nothing
      says_gives _ _ _ _ _ _ (said.value_returned n m p) = nothing

      statement_gives : (c : Context) (l : Bool) (i : Inside) (x : t.Statement) (p : PlainStmt) (os : List PlainObject)
          → IsStatement w c l i x p os → Gives os (statement_in w.unit x)
      statement_gives _ _ _ _ _ _ (said.at_first {c = c} {in_loop = l} {i = i} {x = x} {kind = kind} {os = os} h) =
          says_gives c l i x kind os h

      items_give : (c : Context) (l : Bool) (i : Inside) (xs : t.Items) (ps : PlainStmts) (os : List PlainObject)
          → AreItems w c l i xs ps os → Gives os (items_in w.unit xs)
      items_give _ _ _ _ _ _ said.no_item = nothing
      items_give _ _ _ _ _ _ (said.declared {c = c} {in_loop = l} {i = i} {ss = ss} {d = d} {ds = ds} {xs = xs} {ps = ps} {qs = qs} {os = os}
          {us = us} h m) =
          both os us (locals_in w.unit (d ∷ others ds)) (items_in w.unit xs) (locals_give w c ss i (d ∷ others ds) ps os h)
          (items_give c l _ xs qs us m)
      items_give _ _ _ _ _ _ (said.stated {c = c} {in_loop = l} {i = i} {x = x} {xs = xs} {p = p} {qs = qs} {os = os} {us = us} h m) =
          both os us (statement_in w.unit x) (items_in w.unit xs) (statement_gives c l i x p os h) (items_give c l _ xs qs us m)

    body_gives : (c : Context) (i : Inside) (b : t.Compound) (body : PlainStmt) (os : List PlainObject) → IsBody w c i b body os
        → Gives os (body_in w.unit b)
    body_gives c i _ _ _ (said.a_body {ps = ps} {xs = xs} {ss = ss} {os = os} h) = items_give _ false i xs ss os h

  -- ---- functions

  params_give : (tags : Tags) (structs unit function : ℕ) (i : Inside) (ps : List t.Param) (ns : List ℕ) (os : List PlainObject)
      → AreParams tags structs unit function i ps ns os → Gives os (all_params_in unit ps)
  params_give tags structs unit function _ _ _ _ units.no_param = nothing
  params_give tags structs unit function _ _ _ _ (units.more_params {at = at} {n = n} {ps = ps} {ty = ty} {konst = konst} {ns = ns} {os = os}
      declared qualified room h) =
      both (units.param_object unit function n ty konst ∷ []) os
      (λ rest. record { unit = unit; at = at.index; name = n; kind = as_parameter } ∷ rest) (all_params_in unit ps)
      (one (units.param_object unit function n ty konst) (record { unit = unit; at = at.index; name = n; kind = as_parameter }) a_parameter
      (λ q. q) (record { name = refl; unit = refl; kept = tt }))
      (params_give tags structs unit function _ ps ns os h)

  function_gives : (r : Setting) (p : Place) (f : t.Function) (g : PlainFunction) (os : List PlainObject) → IsFunction walked r p f g os
      → Gives os (external_in r.unit (t.function_item f))
  function_gives r p _ _ _ (units.a_function {ps = ps} {b = b} {ns = ns} {os = os} {us = us} {body = body} room declared h m) =
      both os us (all_params_in r.unit (params_in ps)) (body_in r.unit b) (params_give _ _ r.unit p.functions _ (params_in ps) ns os h)
      (body_gives _ _ _ b body us m)

  -- ---- objects at file scope

  passed_over : (word : Option StorageWord) → IsExtern word → (d : Definer Kept) (rest : List (Definer Kept)) → unless_extern word d rest ≡ rest
  passed_over (Some Extern) h d rest = refl
  passed_over (Some Static) h d rest = absurd h
  passed_over None h d rest = absurd h

  kept_in : (word : Option StorageWord) → ¬ IsExtern word → (d : Definer Kept) (rest : List (Definer Kept)) → unless_extern word d rest ≡ d ∷ rest
  kept_in (Some Extern) n d rest = absurd (n tt)
  kept_in (Some Static) n d rest = refl
  kept_in None n d rest = refl

  shaped : (unit : ℕ) (word : Option StorageWord) (stars : List t.Star) (at : Spot) (n : List ℕ) (shape : t.Shape) (start : Option t.Start)
      (rest : List (Definer Kept)) → is_function shape ≡ false
      → static_in unit word (t.init_declarator (t.declarator stars (t.identifier at n) shape) start) rest
      ≡ unless_extern word (record { unit = unit; at = at.index; name = n; kind = at_file_scope }) rest
  shaped unit word stars at n t.object start rest h = refl
  shaped unit word stars at n (t.array l size r) start rest h = refl
  shaped unit word stars at n (t.function_shape l ps r) start rest h = absurd (false≢true (sym h))

  like : (os : List PlainObject) (f g : List (Definer Kept) → List (Definer Kept)) → ((rest : List (Definer Kept)) → g rest ≡ f rest) → Gives os f
      → Gives os g
  like os f g same h = record {
    gives = λ before rest q. subst (Give before) (sym (same rest)) (h.gives before rest q);
    plain = h.plain;
  }

  object_gives : (r : Setting) (o : Outside) (ss : t.Specs) (d : t.InitDeclarator) (os : List PlainObject) → IsObject walked r o ss d os
      → Gives os (static_in r.unit (word_in ss) d)
  object_gives r o ss _ _ units.a_function_name = nothing
  object_gives r o ss _ _ (units.declared_only {stars = stars} {n = t.identifier at n} {shape = shape} {start = start} f e) =
      like [] (λ rest. rest) (static_in r.unit (word_in ss) (t.init_declarator (t.declarator stars (t.identifier at n) shape) start))
      (λ rest. shaped r.unit (word_in ss) stars at n shape start rest f ∙ passed_over (word_in ss) e _ rest) nothing
  object_gives r o ss _ _ (units.defined {stars = stars} {at = at} {n = n} {shape = shape} {start = start} {linkage = linkage} {ty = ty}
      {konst = konst} {space = space} {leaves = leaves} f e room link declared qualified spaced h) =
      like _ (λ rest. record { unit = r.unit; at = at.index; name = n; kind = at_file_scope } ∷ rest)
      (static_in r.unit (word_in ss) (t.init_declarator (t.declarator stars (t.identifier at n) shape) start))
      (λ rest. shaped r.unit (word_in ss) stars at n shape start rest f ∙ kept_in (word_in ss) e _ rest)
      (one (units.static_object r n linkage ty konst space leaves) (record { unit = r.unit; at = at.index; name = n; kind = at_file_scope })
      at_the_file (λ q. q) (record { name = refl; unit = refl; kept = tt }))

  objects_give : (r : Setting) (o : Outside) (ss : t.Specs) (ds : List t.InitDeclarator) (os : List PlainObject) → AreObjects walked r o ss ds os
      → Gives os (statics_in r.unit (word_in ss) ds)
  objects_give r _ _ _ _ units.no_object = nothing
  objects_give r _ _ _ _ (units.more_objects {o = o} {ss = ss} {d = d} {ds = ds} {os = os} {us = us} h m) =
      both os us (static_in r.unit (word_in ss) d) (statics_in r.unit (word_in ss) ds) (object_gives r o ss d os h)
      (objects_give r _ ss ds us m)

  -- ---- names of registers

  -- whether a name is that of an object in a register behind an external declaration
  abbrev behind_one : List ℕ → Bool → t.External → Bool
  behind_one n b (t.pragma_item p) = b
  behind_one n b (t.structure_item d) = b
  behind_one n b (t.register_item (t.register_object w reg ss (t.identifier at m) e)) = b || bytes_eq m n
  behind_one n b (t.declaration_item d) = b
  behind_one n b (t.function_item f) = b

  abbrev behind_all : List ℕ → Bool → List t.External → Bool
  behind_all n b [] = b
  behind_all n b (x ∷ xs) = behind_all n (behind_one n b x) xs

  or_none : (b : Bool) → (b || false) ≡ b
  or_none true = refl
  or_none false = refl

  one_more : (n : List ℕ) (xs : List FileName) (d : FileName)
      → is_registered n (xs ++ d ∷ []) ≡ (is_registered n xs || (is_register d.kind && bytes_eq d.name n))
  one_more n [] d = or_none (is_register d.kind && bytes_eq d.name n)
  one_more n (x ∷ xs) d =
      ap (λ b. is_register x.kind && bytes_eq x.name n || b) (one_more n xs d)
      ∙ grouped (is_register x.kind && bytes_eq x.name n) (is_registered n xs) (is_register d.kind && bytes_eq d.name n)
    where
      grouped : (a b c : Bool) → (a || (b || c)) ≡ ((a || b) || c)
      grouped true b c = refl
      grouped false b c = refl

  no_register : (n : List ℕ) (xs : List FileName) (d : FileName) → is_register d.kind ≡ false
      → is_registered n (xs ++ d ∷ []) ≡ is_registered n xs
  no_register n xs d e =
      one_more n xs d ∙ ap (λ b. is_registered n xs || (b && bytes_eq d.name n)) e ∙ or_none (is_registered n xs)

  declarator_behind : (n : List ℕ) (r : Setting) (ss : t.Specs) (d : t.InitDeclarator) (o : Outside)
      → is_registered n (behind_declarator walked r ss d o).declared ≡ is_registered n o.declared
  declarator_behind n r ss (t.init_declarator (t.declarator stars (t.identifier at m) (t.function_shape l ps e)) start) o =
      no_register n o.declared _ refl
  declarator_behind n r ss (t.init_declarator (t.declarator stars (t.identifier at m) t.object) start) o = no_register n o.declared _ refl
  declarator_behind n r ss (t.init_declarator (t.declarator stars (t.identifier at m) (t.array l size e)) start) o =
      no_register n o.declared _ refl

  declarators_behind : (n : List ℕ) (r : Setting) (ss : t.Specs) (ds : List t.NextInitDeclarator) (o : Outside)
      → is_registered n (behind_declarators walked r ss ds o).declared ≡ is_registered n o.declared
  declarators_behind n r ss [] o = refl
  declarators_behind n r ss (t.next_init_declarator comma d ∷ ds) o =
      declarators_behind n r ss ds (behind_declarator walked r ss d o) ∙ declarator_behind n r ss d o

  external_behind : (n : List ℕ) (r : Setting) (x : t.External) (o : Outside)
      → is_registered n (behind_external walked r x o).declared ≡ behind_one n (is_registered n o.declared) x
  external_behind n r (t.pragma_item p) o = refl
  external_behind n r (t.structure_item (t.structure w (t.identifier at tag) l first more e semicolon)) o = refl
  external_behind n r (t.register_item (t.register_object w reg ss (t.identifier at m) e)) o = one_more n o.declared _
  external_behind n r (t.declaration_item (t.declaration ss d ds e)) o =
      declarators_behind n r ss ds (behind_declarator walked r ss d o) ∙ declarator_behind n r ss d o
  external_behind n r (t.function_item (t.function (t.type_name ss stars) (t.identifier at m) l ps e b)) o = no_register n o.declared _ refl

  externals_behind : (n : List ℕ) (r : Setting) (xs : List t.External) (o : Outside)
      → is_registered n (behind_externals walked r xs o).declared ≡ behind_all n (is_registered n o.declared) xs
  externals_behind n r [] o = refl
  externals_behind n r (x ∷ xs) o =
      externals_behind n r xs (behind_external walked r x o) ∙ ap (λ b. behind_all n b xs) (external_behind n r x o)

  -- ---- external declarations

  -- the names that are registered are those of objects in registers
  abbrev Agree : (List ℕ → Bool) → List PlainObject → Type 0
  Agree seen before = (n : List ℕ) → Decides (seen n) (HasRegister n before)

  record Step (x : t.External) (seen : List ℕ → Bool) (unit : ℕ) (before os : List PlainObject) : Type 0 where
    pub gives : (rest : List (Definer Kept)) → Give (before ++ os) rest → Give before (external_in unit x rest)
    pub agrees : Agree (λ n. behind_one n (seen n) x) (before ++ os)

  plain_step : (x : t.External) (seen : List ℕ → Bool) (unit : ℕ) (before os : List PlainObject)
      → ((n : List ℕ) (b : Bool) → behind_one n b x ≡ b) → Gives os (external_in unit x) → Agree seen before
      → Step x seen unit before os
  plain_step x seen unit before os same g h = record {
    gives = g.gives before;
    agrees = λ n.
        subst (λ (b : Bool). Decides b (HasRegister n (before ++ os))) (sym (same n (seen n)))
        (λ e. either_first n before os ((h n).0 e), λ q. by n (one_of n before os q));
  }
    where
      by : (n : List ℕ) → HasRegister n before ⊎ HasRegister n os → seen n ≡ true
      by n (inl q) = (h n).1 q
      by n (inr q) = absurd (g.plain n q)

  register_step : (r : Setting) (p : Place) (d : t.RegisterObject) (os : List PlainObject) → IsRegister r p.known d os
      → (before : List PlainObject) → Agree (λ n. is_registered n p.known.declared) before
      → Step (t.register_item d) (λ n. is_registered n p.known.declared) r.unit before os
  register_step r p _ _ (units.declared_before {w = w} {e = e} {reg = reg} {at = at} {name = m} {ss = ss} q) = λ before h. record {
    gives = λ rest g.
        made_before refl ((h m).0 q) (subst (λ (z : List PlainObject). Give z rest) (append-nil before) g);
    agrees = λ n.
        subst (λ (z : List PlainObject). Decides (is_registered n p.known.declared || bytes_eq m n) (HasRegister n z)) (sym (append-nil before))
        (λ e. there before h n e, λ g. either (is_registered n p.known.declared) (bytes_eq m n) ((h n).1 g));
  }
    where
      either : (a b : Bool) → a ≡ true → (a || b) ≡ true
      either true b e = refl
      either false b e = absurd (false≢true e)

      there : (before : List PlainObject) → Agree (λ n. is_registered n p.known.declared) before → (n : List ℕ)
          → (is_registered n p.known.declared || bytes_eq m n) ≡ true → HasRegister n before
      there before h n e =
          by ((Decides-or (is_registered n p.known.declared) (bytes_eq m n) (h n) (bytes_eq-Decides m n)).0 e)
        where
          by : HasRegister n before ⊎ (m ≡ n) → HasRegister n before
          by (inl g) = g
          by (inr g) = subst (λ (z : List ℕ). HasRegister z before) g ((h m).0 q)
  register_step r p _ _ (units.first_declared {w = w} {e = e} {reg_at = reg_at} {at = at} {reg = reg} {name = m} {ss = ss} {konst = konst}
      {first = first} {ty = ty} q room declared qualified) = λ before h.
      let x = units.register_object r m konst first ty in record {
        gives = λ rest g. an_object x (λ e z. false≢true (sym q ∙ (h m).1 z)) (record { name = refl; unit = refl; kept = tt }) g;
        agrees = λ n. (
          λ e. there before h n ((Decides-or (is_registered n p.known.declared) (bytes_eq m n) (h n) (bytes_eq-Decides m n)).0 e),
          λ g. (Decides-or (is_registered n p.known.declared) (bytes_eq m n) (h n) (bytes_eq-Decides m n)).1
              (back before n (one_of n before (x ∷ []) g)),
        );
      }
    where
      there : (before : List PlainObject) → Agree (λ n. is_registered n p.known.declared) before → (n : List ℕ)
          → HasRegister n before ⊎ (m ≡ n) → HasRegister n (before ++ units.register_object r m konst first ty ∷ [])
      there before h n (inl g) = either_first n before (units.register_object r m konst first ty ∷ []) g
      there before h n (inr g) = either_last n before (units.register_object r m konst first ty ∷ []) (inl (g, tt))

      back : (before : List PlainObject) (n : List ℕ) → HasRegister n before ⊎ HasRegister n (units.register_object r m konst first ty ∷ [])
          → HasRegister n before ⊎ (m ≡ n)
      back before n (inl g) = inl g
      back before n (inr (inl g)) = inr g.0
      back before n (inr (inr g)) = absurd g

  external_step : (r : Setting) (p : Place) (x : t.External) (a : Added) → Adds walked r p x a → (before : List PlainObject)
      → Agree (λ n. is_registered n p.known.declared) before → Step x (λ n. is_registered n p.known.declared) r.unit before a.objects
  external_step r p _ _ (units.by_pragma {pragma = q}) = λ before h.
      plain_step (t.pragma_item q) (λ n. is_registered n p.known.declared) r.unit before [] (λ n b. refl) nothing h
  external_step r p _ _ (units.by_struct {d = d} s) = λ before h.
      plain_step (t.structure_item d) (λ n. is_registered n p.known.declared) r.unit before [] (λ n b. refl) nothing h
  external_step r p _ _ (units.by_register {d = d} {os = os} s) = register_step r p d os s
  external_step r p _ _ (units.by_declaration {ss = ss} {d = d} {ds = ds} {e = e} {os = os} s) = λ before h.
      plain_step (t.declaration_item (t.declaration ss d ds e)) (λ n. is_registered n p.known.declared) r.unit before os (λ n b. refl)
      (subst (λ (word : Option StorageWord). Gives os (statics_in r.unit word (d ∷ others ds))) (word_is ss)
      (objects_give r p.known ss (d ∷ others ds) os s)) h
  external_step r p _ _ (units.by_function {f = f} {g = g} {os = os} s) = λ before h.
      plain_step (t.function_item f) (λ n. is_registered n p.known.declared) r.unit before os (λ n b. refl) (function_gives r p f g os s) h

  abbrev Steps : (xs : List t.External) → (List ℕ → Bool) → (unit : ℕ) → (before os : List PlainObject) → Type 0
  Steps xs seen unit before os =
      ((rest : List (Definer Kept)) → Give (before ++ os) rest → Give before (externals_in unit xs rest))
      × Agree (λ n. behind_all n (seen n) xs) (before ++ os)

  externals_step : (r : Setting) (p : Place) (xs : List t.External) (a : Added) → AddAll walked r p xs a → (before : List PlainObject)
      → Agree (λ n. is_registered n p.known.declared) before → Steps xs (λ n. is_registered n p.known.declared) r.unit before a.objects
  externals_step r _ _ _ (units.no_external {p = p}) = λ before h. (
    λ rest g. subst (λ (z : List PlainObject). Give z rest) (append-nil before) g,
    subst (λ (z : List PlainObject). Agree (λ n. is_registered n p.known.declared) z) (sym (append-nil before)) h,
  )
  externals_step r _ _ _ (units.more_externals {p = p} {x = x} {xs = xs} {a = a} {b = b} s m) = λ before h.
      let one = external_step r p x a s before h in
      let next = past a (behind_external walked r x p.known) p in
      let rest_of = externals_step r next xs b m (before ++ a.objects)
      (λ n. subst (λ (z : Bool). Decides z (HasRegister n (before ++ a.objects))) (sym (external_behind n r x p.known)) (one.agrees n)) in (
        λ rest g.
            one.gives (externals_in r.unit xs rest)
            (rest_of.0 rest (subst (λ (z : List PlainObject). Give z rest) (sym (append_assoc before a.objects b.objects)) g)),
        λ n.
            subst (λ (z : List PlainObject). Decides (behind_all n (behind_one n (is_registered n p.known.declared) x) xs) (HasRegister n z))
            (append_assoc before a.objects b.objects)
            (subst (λ (z : Bool). Decides (behind_all n z xs) (HasRegister n ((before ++ a.objects) ++ b.objects)))
            (external_behind n r x p.known) (rest_of.1 n)),
      )

  -- ---- units

  units_give : (ds : List Definition) (io : IoTable) (unit : ℕ) (p : Place) (us : List t.Tree) (a : Added) → UnitsAdd walked ds io unit p us a
      → (before : List PlainObject) → Agree (λ n. is_registered n p.known.declared) before → before ++ a.objects ≡ all
      → Give before (objects_from unit us)
  units_give ds io _ _ _ _ (units.no_unit {p = p}) = λ before h e.
      subst (λ (z : List PlainObject). MakeObjects all z []) (sym (sym (append-nil before) ∙ e)) all_made
  units_give ds io _ _ _ _ (units.more_units {unit = unit} {p = p} {xs = xs} {e = z} {us = us} {a = a} {b = b} s m) = λ before h e.
      let r = setting_in ds io unit in
      let one = externals_step r (begins p) xs a s before h in
      let next = past a (behind_unit walked r (t.tree xs z) p.known) p in
      one.0 (objects_from (unit + 1) us)
      (units_give ds io (unit + 1) next us b m (before ++ a.objects)
      (λ n. subst (λ (y : Bool). Decides y (HasRegister n (before ++ a.objects)))
      (sym (externals_behind n r xs (begins p).known)) (one.1 n))
      (append_assoc before a.objects b.objects ∙ e))

pub objects_are_made : OneReads → (us : List t.Tree) (io : IoTable) (p : PlainProgram) → Typed us io p
    → MakeObjects p.objects [] (objects_from 0 us)
objects_are_made one us io _ (units.typed {q = q} {a = a} r h e) =
    units_give a.objects (definitions us) io 0 first_place us a
    (subst (λ (z : Reading). UnitsAdd z (definitions us) io 0 first_place us a) ((one q).0 r) h) []
    (λ n. (λ z. absurd (false≢true z), λ z. absurd z)) refl

-- ---- their order

-- what stands among tokens: a declarator in a block, and declarators
local_stands : (unit : ℕ) (d : t.InitDeclarator) (ds : List (Definer Kept)) (rest : List Leaf) → StandInOrder ds rest
    → StandInOrder (local_in unit d ds) (s.of_init_declarator d rest)
local_stands unit (t.init_declarator (t.declarator stars (t.identifier at n) f) i) ds rest h =
    let d : Definer Kept = record { unit = unit; at = at.index; name = n; kind = in_block } in
    among.each (d ∷ ds) s.of_star (among.star (d ∷ ds)) stars _
    (named refl refl (among.shape ds f _ (among.maybe ds s.of_start (among.start ds) i rest h)))

more_stand : (unit : ℕ) (xs : List t.NextInitDeclarator) (ds : List (Definer Kept)) (rest : List Leaf) → StandInOrder ds rest
    → StandInOrder (locals_in unit (others xs) ds) (s.of_list s.of_next_init_declarator xs rest)
more_stand unit [] ds rest h = h
more_stand unit (t.next_init_declarator at d ∷ xs) ds rest h = passed (local_stands unit d _ _ (more_stand unit xs ds rest h))

declared_stand : (unit : ℕ) (d : t.Declaration) (ds : List (Definer Kept)) (rest : List Leaf) → StandInOrder ds rest
    → StandInOrder (declared_in unit d ds) (s.of_declaration d rest)
declared_stand unit (t.declaration ss d more e) ds rest h =
    among.specs _ ss _ (local_stands unit d _ _ (more_stand unit more ds _ (passed h)))

first_stands : (unit : ℕ) (x : t.First) (ds : List (Definer Kept)) (rest : List Leaf) → StandInOrder ds rest
    → StandInOrder (first_in unit x ds) (s.of_first x rest)
first_stands unit (t.first_declared d) ds rest h = declared_stand unit d ds rest h
first_stands unit (t.first_evaluated x e) ds rest h = among.first ds (t.first_evaluated x e) rest h

mutual
  statement_stands : (unit : ℕ) (x : t.Statement) (ds : List (Definer Kept)) (rest : List Leaf) → StandInOrder ds rest
      → StandInOrder (statement_in unit x ds) (s.of_statement x rest)
  statement_stands unit (t.block (t.compound l ps xs r)) ds rest h =
      passed (among.each _ s.of_pragma (among.pragma _) ps _ (items_stand unit xs ds _ (passed h)))
  statement_stands unit (t.simple x e) ds rest h = among.statement ds (t.simple x e) rest h
  statement_stands unit (t.if_then at c a) ds rest h = passed (among.condition _ c _ (statement_stands unit a ds rest h))
  statement_stands unit (t.if_else at c a w b) ds rest h =
      passed (among.condition _ c _ (statement_stands unit a _ _ (passed (statement_stands unit b ds rest h))))
  statement_stands unit (t.while_loop at c a) ds rest h = passed (among.condition _ c _ (statement_stands unit a ds rest h))
  statement_stands unit (t.do_loop at a w c e) ds rest h =
      passed (statement_stands unit a ds _ (passed (among.condition ds c _ (passed h))))
  statement_stands unit (t.for_loop at (t.heading l f c k e r) a) ds rest h =
      passed (passed (first_stands unit f _ _ (among.maybe _ s.of_expression (among.expression _) c _
      (passed (among.maybe _ s.of_expression (among.expression _) e _ (passed (statement_stands unit a ds rest h)))))))
  statement_stands unit (t.break_loop at e) ds rest h = among.statement ds (t.break_loop at e) rest h
  statement_stands unit (t.continue_loop at e) ds rest h = among.statement ds (t.continue_loop at e) rest h
  statement_stands unit (t.return_value at x e) ds rest h = among.statement ds (t.return_value at x e) rest h

  item_stands : (unit : ℕ) (x : t.Item) (ds : List (Definer Kept)) (rest : List Leaf) → StandInOrder ds rest
      → StandInOrder (item_in unit x ds) (s.of_item x rest)
  item_stands unit (t.declared d) ds rest h = declared_stand unit d ds rest h
  item_stands unit (t.stated x) ds rest h = statement_stands unit x ds rest h

  items_stand : (unit : ℕ) (xs : t.Items) (ds : List (Definer Kept)) (rest : List Leaf) → StandInOrder ds rest
      → StandInOrder (items_in unit xs ds) (s.of_items xs rest)
  items_stand unit t.no_items ds rest h = h
  items_stand unit (t.items x xs) ds rest h = item_stands unit x _ _ (items_stand unit xs ds rest h)

-- parameters
param_stands : (unit : ℕ) (p : t.Param) (ds : List (Definer Kept)) (rest : List Leaf) → StandInOrder ds rest
    → StandInOrder (param_in unit p ds) (s.of_param p rest)
param_stands unit (t.param ty None) ds rest h = among.type_name ds ty _ h
param_stands unit (t.param ty (Some (t.identifier at n))) ds rest h = among.type_name _ ty _ (named refl refl h)

next_params_stand : (unit : ℕ) (ps : List t.NextParam) (ds : List (Definer Kept)) (rest : List Leaf) → StandInOrder ds rest
    → StandInOrder (all_params_in unit (params_behind ps) ds) (s.of_list s.of_next_param ps rest)
next_params_stand unit [] ds rest h = h
next_params_stand unit (t.next_param comma p ∷ ps) ds rest h = passed (param_stands unit p _ _ (next_params_stand unit ps ds rest h))

params_stand : (unit : ℕ) (ps : t.Params) (ds : List (Definer Kept)) (rest : List Leaf) → StandInOrder ds rest
    → StandInOrder (all_params_in unit (params_in ps) ds) (s.of_params ps rest)
params_stand unit (t.void_params at) ds rest h = passed h
params_stand unit (t.params p more) ds rest h = param_stands unit p _ _ (next_params_stand unit more ds rest h)

-- objects at file scope
static_word : (unit : ℕ) (word : Option StorageWord) (stars : List t.Star) (at : Spot) (n : List ℕ) (f : t.Shape) (i : Option t.Start)
    (ds : List (Definer Kept)) (rest : List Leaf) → StandInOrder ds rest
    → StandInOrder (unless_extern word (record { unit = unit; at = at.index; name = n; kind = at_file_scope }) ds)
    (s.of_init_declarator (t.init_declarator (t.declarator stars (t.identifier at n) f) i) rest)
static_word unit None stars at n f i ds rest h =
    let d : Definer Kept = record { unit = unit; at = at.index; name = n; kind = at_file_scope } in
    among.each (d ∷ ds) s.of_star (among.star (d ∷ ds)) stars _
    (named refl refl (among.shape ds f _ (among.maybe ds s.of_start (among.start ds) i rest h)))
static_word unit (Some Static) stars at n f i ds rest h =
    let d : Definer Kept = record { unit = unit; at = at.index; name = n; kind = at_file_scope } in
    among.each (d ∷ ds) s.of_star (among.star (d ∷ ds)) stars _
    (named refl refl (among.shape ds f _ (among.maybe ds s.of_start (among.start ds) i rest h)))
static_word unit (Some Extern) stars at n f i ds rest h =
    among.init_declarator ds (t.init_declarator (t.declarator stars (t.identifier at n) f) i) rest h

static_stands : (unit : ℕ) (word : Option StorageWord) (d : t.InitDeclarator) (ds : List (Definer Kept)) (rest : List Leaf)
    → StandInOrder ds rest → StandInOrder (static_in unit word d ds) (s.of_init_declarator d rest)
static_stands unit word (t.init_declarator (t.declarator stars n (t.function_shape l ps r)) i) ds rest h =
    among.init_declarator ds (t.init_declarator (t.declarator stars n (t.function_shape l ps r)) i) rest h
static_stands unit word (t.init_declarator (t.declarator stars (t.identifier at n) t.object) i) ds rest h =
    static_word unit word stars at n t.object i ds rest h
static_stands unit word (t.init_declarator (t.declarator stars (t.identifier at n) (t.array l c r)) i) ds rest h =
    static_word unit word stars at n (t.array l c r) i ds rest h

statics_stand : (unit : ℕ) (word : Option StorageWord) (xs : List t.NextInitDeclarator) (ds : List (Definer Kept)) (rest : List Leaf)
    → StandInOrder ds rest → StandInOrder (statics_in unit word (others xs) ds) (s.of_list s.of_next_init_declarator xs rest)
statics_stand unit word [] ds rest h = h
statics_stand unit word (t.next_init_declarator at d ∷ xs) ds rest h =
    passed (static_stands unit word d _ _ (statics_stand unit word xs ds rest h))

external_stands : (unit : ℕ) (x : t.External) (ds : List (Definer Kept)) (rest : List Leaf) → StandInOrder ds rest
    → StandInOrder (external_in unit x ds) (s.of_external x rest)
external_stands unit (t.pragma_item p) ds rest h = passed h
external_stands unit (t.structure_item d) ds rest h = among.structure ds d rest h
external_stands unit (t.register_item (t.register_object z register ss (t.identifier at n) e)) ds rest h =
    passed (among.name _ register _ (among.specs _ ss _ (named refl refl (passed h))))
external_stands unit (t.declaration_item (t.declaration ss d more e)) ds rest h =
    among.specs _ ss _ (static_stands unit (word_of ss) d _ _ (statics_stand unit (word_of ss) more ds _ (passed h)))
external_stands unit (t.function_item (t.function ty n l ps r (t.compound k qs xs z))) ds rest h =
    among.type_name _ ty _ (among.name _ n _ (passed (params_stand unit ps _ _ (passed (passed
    (among.each _ s.of_pragma (among.pragma _) qs _ (items_stand unit xs ds _ (passed h))))))))

externals_stand : (unit : ℕ) (xs : List t.External) (ds : List (Definer Kept)) (rest : List Leaf) → StandInOrder ds rest
    → StandInOrder (externals_in unit xs ds) (s.of_list s.of_external xs rest)
externals_stand unit [] ds rest h = h
externals_stand unit (x ∷ xs) ds rest h = external_stands unit x _ _ (externals_stand unit xs ds rest h)

unit_stands : (unit : ℕ) (u : t.Tree) → StandInOrder (unit_in unit u []) (s.of_tree u [])
unit_stands unit (t.tree xs e) = externals_stand unit xs [] (s.leaf e tokens.end ∷ []) ended

pub objects_are_in_order : OneReads → ObjectsAreInOrder
objects_are_in_order one = record {
  order = record {
    named = unit_stands;
    rising = λ ts unit u h. among.rise ts 0 (s.of_tree u []) (unit_in unit u []) (sym h.0) (unit_stands unit u);
  };
  objects = objects_are_made one;
}
