-- What is known at a place, by one table of ports or another, and what a name designates in both.
use Rattle.std.proofs.Common.{◌≡◌, ◌+◌, ℕ, Bool, not, List, [], ◌∷◌, map, refl, sym, ap, ◌∙◌, cond}
use Rattle.std.specs.Prelude.{◌==◌, Option, Some, None, option_map, position, slice_get}
use Rattle.std.specs.Option.{option_or}
use Rattle.std.specs.List.{prefix_len}
use Rattle.std.proofs.lemmas.List.{length-map}
use Rattle.std.specs.Str.{bytes_eq}
use Rattle.std.proofs.lemmas.Option.{slice_get-map}
use Rattle.ec_iohw.specs.declared.table.Designator.{Designator}
use Rattle.ec_iohw.specs.declared.table.Designator.TheVariants as designators
use Rattle.ec_iohw.specs.declared.table.IoTable.{IoTable}
use Rattle.ec_grammar.specs.Trees as t
use Rattle.ec_check_operands.specs.Operands.{with_one, with_both}
use Rattle.ec_check_forms.specs.Calls.{port_at, port_named, group_at, group_named, choice_of, bound_to, binding_named}
use Rattle.ec_check_forms.specs.declared.ports.Binding.{Binding}
use Rattle.ec_check_forms.specs.declared.ports.NamedGroup.{NamedGroup}
use Rattle.ec_check_forms.specs.declared.ports.NamedGroup.TheVariants as named_groups
use Rattle.ec_check_forms.specs.declared.ports.NamedPort.{NamedPort}
use Rattle.ec_check_expressions.specs.Bindings.{bare_name, bound_by, binding_of}
use Rattle.ec_check_expressions.specs.Known.{Known}
use Rattle.ec_check_declarations.specs.Scopes.{Context}
use Rattle.ec_check_file_scope.specs.States.{Setting}
use Rattle.ec_iohw.specs.declared.table.Choice.{Choice}
use Rattle.ec_iohw.specs.declared.table.Dynamic.{Dynamic}
use Rattle.ec_iohw.specs.declared.table.Port.{Port}
use Rattle.ec_check_ports.specs.Ports.{SeenPort, seen_port, group_name, SeenDynamic, seen_dynamic, LookAlike}

-- ---- by one table

abbrev pub known_by : IoTable → Known → Known
known_by io k = record { names = k.names; tags = k.tags; structs = k.structs; ports = io; modes = k.modes }

abbrev pub context_by : IoTable → Context → Context
context_by io c = record { tags = c.tags; structs = c.structs; ports = io; modes = c.modes }

abbrev pub setting_by : IoTable → Setting → Setting
setting_by io r = record { definitions = r.definitions; ports = io; unit = r.unit }

-- ---- names

prefix_len-map : {A B : Type 0} (f : A → B) (test : B → Bool) (xs : List A) → prefix_len test (map f xs) ≡ prefix_len (λ x. test (f x)) xs
prefix_len-map f test [] = refl
prefix_len-map f test (x ∷ xs) = ap (λ n. cond (test (f x)) (1 + n) 0) (prefix_len-map f test xs)

position-map : {A B : Type 0} (f : A → B) (test : B → Bool) (xs : List A) → position test (map f xs) ≡ position (λ x. test (f x)) xs
position-map f test xs = rw (prefix_len-map f (λ y. not (test y)) xs, length-map xs f) refl

-- the port with a name in a table that is seen so
seen_at : List SeenPort → Designator → Option NamedPort
seen_at ps (designators.Port n) = option_map (λ p. record { number = n; width = p.width }) (slice_get ps n)
seen_at ps (designators.Group n) = None
seen_at ps (designators.Dynamic n) = None

seen_named : List SeenPort → List ℕ → Option NamedPort
seen_named ps name = with_one (option_map designators.Port (position (λ p. bytes_eq p.name name) ps)) (seen_at ps)

width_of : (number : ℕ) (o : Option Port)
    → option_map (λ (p : SeenPort). let r : NamedPort = record { number = number; width = p.width } in r) (option_map seen_port o)
    ≡ option_map (λ (p : Port). let r : NamedPort = record { number = number; width = p.width } in r) o
width_of number None = refl
width_of number (Some p) = refl

seen_designated : (io : IoTable) (o : Option ℕ) → with_one (option_map designators.Port o) (seen_at (map seen_port io.ports.items))
    ≡ with_one (option_map designators.Port o) (port_at io)
unfolding seen_at
seen_designated io None = refl
seen_designated io (Some n) =
    ap (option_map (λ (p : SeenPort). let r : NamedPort = record { number = n; width = p.width } in r))
    (slice_get-map seen_port io.ports.items n)
    ∙ width_of n (slice_get io.ports.items n)

is_seen : (io : IoTable) (name : List ℕ) → port_named io name ≡ seen_named (map seen_port io.ports.items) name
unfolding seen_named
is_seen io name =
    let same = position-map seen_port (λ p. bytes_eq p.name name) io.ports.items in
    sym (seen_designated io (position (λ p. bytes_eq p.name.items name) io.ports.items))
    ∙ (λ j. with_one (option_map designators.Port (sym same j)) (seen_at (map seen_port io.ports.items)))

group_seen : List (List ℕ) → List SeenDynamic → List ℕ → Option NamedGroup
group_seen gs ds name =
    with_one (option_or (option_map designators.Group (position (λ g. bytes_eq g name) gs))
    (option_map designators.Dynamic (position (λ (d : SeenDynamic). bytes_eq d.name name) ds))) group_at

is_group_seen : (io : IoTable) (name : List ℕ)
    → group_named io name ≡ group_seen (map group_name io.groups.items) (map seen_dynamic io.dynamics.items) name
unfolding group_seen
is_group_seen io name =
    let a = position-map group_name (λ g. bytes_eq g name) io.groups.items in
    let b = position-map seen_dynamic (λ d. bytes_eq d.name name) io.dynamics.items in
    λ j. with_one (option_or (option_map designators.Group (sym a j)) (option_map designators.Dynamic (sym b j))) group_at

-- what is bound in a table that is seen so
bound_seen : List SeenDynamic → NamedGroup → NamedGroup → Option Binding
bound_seen ds (named_groups.Dynamic d) (named_groups.Group g) =
    with_one (slice_get ds d) (λ x. option_map (λ c. record { dynamic = d; choice = c }) (position (λ n. n == g) x.choices))
bound_seen ds d g = None

choice_seen : (d g : ℕ) (o : Option Dynamic)
    → with_one o (λ x. option_map (λ c. let r : Binding = record { dynamic = d; choice = c } in r) (choice_of x.choices.items g))
    ≡ with_one (option_map seen_dynamic o)
    (λ x. option_map (λ c. let r : Binding = record { dynamic = d; choice = c } in r) (position (λ n. n == g) x.choices))
choice_seen d g None = refl
choice_seen d g (Some x) =
    ap (option_map (λ (c : ℕ). let r : Binding = record { dynamic = d; choice = c } in r))
    (sym (position-map (λ (c : Choice). c.group) (λ n. n == g) x.choices.items))

is_bound_seen : (io : IoTable) (d g : NamedGroup) → bound_to io d g ≡ bound_seen (map seen_dynamic io.dynamics.items) d g
unfolding bound_seen
is_bound_seen io (named_groups.Group d) g = refl
is_bound_seen io (named_groups.Dynamic d) (named_groups.Dynamic g) = refl
is_bound_seen io (named_groups.Dynamic d) (named_groups.Group g) =
    let there = slice_get-map seen_dynamic io.dynamics.items d in
    choice_seen d g (slice_get io.dynamics.items d)
    ∙ ap (λ (o : Option SeenDynamic). with_one o
    (λ x. option_map (λ c. let r : Binding = record { dynamic = d; choice = c } in r) (position (λ n. n == g) x.choices))) (sym there)

module _ (here there : IoTable) (same : LookAlike here there) where
  pub port_named_same : (name : List ℕ) → port_named here name ≡ port_named there name
  port_named_same name = is_seen here name ∙ (λ j. seen_named (same.ports j) name) ∙ sym (is_seen there name)

  pub group_named_same : (name : List ℕ) → group_named here name ≡ group_named there name
  group_named_same name =
      is_group_seen here name ∙ (λ j. group_seen (same.groups j) (same.dynamics j) name) ∙ sym (is_group_seen there name)

  bound_to_same : (d g : NamedGroup) → bound_to here d g ≡ bound_to there d g
  bound_to_same d g = is_bound_seen here d g ∙ (λ j. bound_seen (same.dynamics j) d g) ∙ sym (is_bound_seen there d g)

  binding_named_same : (d g : List ℕ) → binding_named here d g ≡ binding_named there d g
  binding_named_same d g = λ j. with_both (group_named_same d j) (group_named_same g j) (λ x y. bound_to_same x y j)

  bound_by_same : (d : List ℕ) (o : Option t.Identifier) → bound_by here d o ≡ bound_by there d o
  bound_by_same d None = refl
  bound_by_same d (Some (t.identifier s n)) = binding_named_same d n

  pub binding_of_same : (d : List ℕ) (more : t.Further) → binding_of here d more ≡ binding_of there d more
  binding_of_same d t.no_further = refl
  binding_of_same d (t.further s a t.no_further) = bound_by_same d (bare_name a)
  binding_of_same d (t.further s a (t.further r b more)) = refl
