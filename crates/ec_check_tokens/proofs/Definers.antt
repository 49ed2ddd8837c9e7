-- The definitions of all units are those of the declarators that define.
use Rattle.std.proofs.Common.{◌≡◌, ◌∙◌, ◌+◌, ℕ, Bool, true, false, ◌&&◌, List, [], ◌∷◌, refl, sym, ap, subst}
use Rattle.std.specs.Prelude.{option_map, Option, Some, None}
use Rattle.std.specs.Bool.{Decides}
use Rattle.std.specs.Str.{bytes_eq}
use Rattle.std.proofs.lemmas.Bool.{false≢true}
use Rattle.std.proofs.lemmas.Bool.Decides.{Decides-and, Decides-or}
use Rattle.std.proofs.lemmas.Slice.Eq.{bytes_eq-Decides}
use Rattle.ec_grammar.specs.declared.Spot.{Spot}
use Rattle.ec_grammar.specs.declared.token.WordKind.{WordKind}
use Rattle.ec_grammar.specs.declared.token.WordKind.TheVariants as w
use Rattle.ec_grammar.specs.Trees as t
use Rattle.ec_check_names.specs.declared.linkage.Linkage.{Linkage}
use Rattle.ec_check_names.specs.declared.numbering.Defined.{Defined}
use Rattle.ec_check_names.specs.declared.numbering.Defined.TheVariants.{Object, Register, Function}
use Rattle.ec_check_names.specs.declared.specifiers.Storage.{Storage}
use Rattle.ec_check_names.specs.declared.specifiers.Storages.{Storages}
use Rattle.ec_check_names.specs.declared.specifiers.StorageWord.{StorageWord}
use Rattle.ec_check_names.specs.declared.specifiers.StorageWord.TheVariants.{Extern, Static}
use Rattle.ec_check_names.specs.Definitions as number
use Rattle.ec_check_names.specs.Definitions.{Definition, Numbering, nothing_numbered, storage_of, is_defined, declared_as, is_registered}
use Rattle.ec_check_names.specs.Definitions.{registered_as}
use Rattle.ec_check_names.specs.Specifiers.{storage_word, no_storage, first_storage, with_storage, storages_from}
use Rattle.ec_check_tokens.specs.Definers.{Definer, first_word, word_of, unless_extern, in_declarator, in_declarators}
use Rattle.ec_check_tokens.specs.Definers.{in_external, in_externals}
use Rattle.ec_check_tokens.specs.Definers.{definers_from, IsRegister, Define, done, again, defined, DefinersDefine}

-- ---- storage words

abbrev word_in : Option Storage → Option StorageWord
word_in o = option_map (λ (z : Storage). z.word) o

-- the first word that was found, or else the one among these
abbrev or_first : Option Storage → List t.Spec → Option StorageWord
or_first None xs = first_word xs
or_first (Some s) xs = Some s.word

abbrev first_with : Option Storage → ℕ → Option StorageWord → Option Storage
first_with o at None = o
first_with o at (Some word) = first_storage o at word

first_is : (s : Storages) (at : ℕ) (o : Option StorageWord) → (with_storage s at o).first ≡ first_with s.first at o
first_is s at None = refl
first_is s at (Some word) = refl

nothing_more : (o : Option Storage) → word_in o ≡ or_first o []
nothing_more None = refl
nothing_more (Some s) = refl

past_tag : (o : Option Storage) (spot : Spot) (tag : t.Identifier) (xs : List t.Spec)
    → or_first o xs ≡ or_first o (t.struct_spec spot tag ∷ xs)
past_tag None spot tag xs = refl
past_tag (Some s) spot tag xs = refl

past_word : (o : Option Storage) (spot : Spot) (k : WordKind) (xs : List t.Spec)
    → or_first (first_with o spot.index (storage_word k)) xs ≡ or_first o (t.word_spec spot k ∷ xs)
past_word None spot w.Extern xs = refl
past_word None spot w.Static xs = refl
past_word None spot k xs = refl
past_word (Some s) spot w.Extern xs = refl
past_word (Some s) spot w.Static xs = refl
past_word (Some s) spot k xs = refl

words_found : (s : Storages) (xs : List t.Spec) → word_in (storages_from s xs).first ≡ or_first s.first xs
words_found s [] = nothing_more s.first
words_found s (t.struct_spec spot tag ∷ xs) = words_found s xs ∙ past_tag s.first spot tag xs
words_found s (t.word_spec spot k ∷ xs) =
    words_found (with_storage s spot.index (storage_word k)) xs
    ∙ ap (λ (o : Option Storage). or_first o xs) (first_is s spot.index (storage_word k)) ∙ past_word s.first spot k xs

pub word_is : (ss : t.Specs) → storage_of ss ≡ word_of ss
word_is (t.specs first more) = words_found no_storage (first ∷ more)

-- ---- declarations

module _ (all : List Definition) where
  -- behind what is defined so far these give the others
  abbrev Give : Numbering → List (Definer Defined) → Type 0
  Give s ds = Define all s.definitions ds

  object_gives : (unit at : ℕ) (word : Option StorageWord) (n : List ℕ) (l : Linkage) (s : Numbering) (ds : List (Definer Defined))
      → Give (declared_as (is_defined word false) unit n l s) ds
      → Give s (unless_extern word (record { unit = unit; at = at; name = n; kind = Object }) ds)
  object_gives unit at None n l s ds h = defined _ (λ e. absurd (no_register e)) (record { name = refl; unit = refl; kind = refl }) h
    where
      no_register : ◌≡◌ {A = Defined} Object Register → ⊥
      no_register e = cc
  object_gives unit at (Some Static) n l s ds h =
      defined _ (λ e. absurd (no_register e)) (record { name = refl; unit = refl; kind = refl }) h
    where
      no_register : ◌≡◌ {A = Defined} Object Register → ⊥
      no_register e = cc
  object_gives unit at (Some Extern) n l s ds h = h

  declarator_gives : (unit : ℕ) (word : Option StorageWord) (d : t.InitDeclarator) (s : Numbering) (ds : List (Definer Defined))
      → Give (number.numbered_declarator unit word d s) ds → Give s (in_declarator unit word d ds)
  declarator_gives unit word (t.init_declarator (t.declarator stars (t.identifier at n) (t.function_shape l ps r)) start) s ds h = h
  declarator_gives unit word (t.init_declarator (t.declarator stars (t.identifier at n) t.object) start) s ds h =
      object_gives unit at.index word n (number.link_in word false n s) s ds h
  declarator_gives unit word (t.init_declarator (t.declarator stars (t.identifier at n) (t.array l c r)) start) s ds h =
      object_gives unit at.index word n (number.link_in word false n s) s ds h

  declarators_give : (unit : ℕ) (word : Option StorageWord) (xs : List t.NextInitDeclarator) (s : Numbering) (ds : List (Definer Defined))
      → Give (number.numbered_more unit word xs s) ds → Give s (in_declarators unit word xs ds)
  declarators_give unit word [] s ds h = h
  declarators_give unit word (t.next_init_declarator comma d ∷ xs) s ds h =
      declarator_gives unit word d s (in_declarators unit word xs ds)
      (declarators_give unit word xs (number.numbered_declarator unit word d s) ds h)

  declaration_gives : (unit : ℕ) (d : t.Declaration) (s : Numbering) (ds : List (Definer Defined))
      → Give (number.numbered_declaration unit d s) ds → Give s (in_external unit (t.declaration_item d) ds)
  declaration_gives unit (t.declaration ss first more e) s ds h =
      subst (λ (word : Option StorageWord). Give s (in_declarator unit word first (in_declarators unit word more ds))) (word_is ss)
      (declarator_gives unit (storage_of ss) first s (in_declarators unit (storage_of ss) more ds)
      (declarators_give unit (storage_of ss) more (number.numbered_declarator unit (storage_of ss) first s) ds h))

  -- ---- named registers

  kind_told : (k : Defined) → Decides (number.is_register k) (k ≡ Register)
  kind_told Object = (λ e. absurd (false≢true e), λ e. cc)
  kind_told Register = (λ e. refl, λ e. refl)
  kind_told Function = (λ e. absurd (false≢true e), λ e. cc)

  register_told : (n : List ℕ) (es : List Definition) → Decides (is_registered n es) (IsRegister n es)
  register_told n [] = (λ e. absurd (false≢true e), λ h. absurd h)
  register_told n (e ∷ es) =
      Decides-or (number.is_register e.kind && bytes_eq e.name n) (is_registered n es)
      (Decides-and (number.is_register e.kind) (bytes_eq e.name n) (kind_told e.kind) (bytes_eq-Decides e.name n)) (register_told n es)

  register_gives : (unit at : ℕ) (n : List ℕ) (s : Numbering) (ds : List (Definer Defined)) (b : Bool) → Decides b (IsRegister n s.definitions)
      → Give (registered_as b unit n s) ds → Give s (record { unit = unit; at = at; name = n; kind = Register } ∷ ds)
  register_gives unit at n s ds true d h = again refl (d.0 refl) h
  register_gives unit at n s ds false d h =
      defined _ (λ e r. false≢true (d.1 r)) (record { name = refl; unit = refl; kind = refl }) h

  -- ---- units

  external_gives : (unit : ℕ) (x : t.External) (s : Numbering) (ds : List (Definer Defined)) → Give (number.numbered_external unit x s) ds
      → Give s (in_external unit x ds)
  external_gives unit (t.pragma_item p) s ds h = h
  external_gives unit (t.structure_item d) s ds h = h
  external_gives unit (t.register_item (t.register_object z register ss (t.identifier at n) e)) s ds h =
      register_gives unit at.index n s ds (is_registered n s.definitions) (register_told n s.definitions) h
  external_gives unit (t.declaration_item d) s ds h = declaration_gives unit d s ds h
  external_gives unit (t.function_item (t.function (t.type_name ss stars) (t.identifier at n) l ps r body)) s ds h =
      defined _ (λ e. absurd (no_register e)) (record { name = refl; unit = refl; kind = refl }) h
    where
      no_register : ◌≡◌ {A = Defined} Function Register → ⊥
      no_register e = cc

  externals_give : (unit : ℕ) (xs : List t.External) (s : Numbering) (ds : List (Definer Defined)) → Give (number.numbered_externals unit xs s) ds
      → Give s (in_externals unit xs ds)
  externals_give unit [] s ds h = h
  externals_give unit (x ∷ xs) s ds h =
      external_gives unit x s (in_externals unit xs ds) (externals_give unit xs (number.numbered_external unit x s) ds h)

  units_give : (unit : ℕ) (us : List t.Tree) (s : Numbering) → (number.numbered_from unit us s).definitions ≡ all
      → Give s (definers_from unit us)
  units_give unit [] s e = subst (λ (ds : List Definition). Define all ds []) (sym e) done
  units_give unit (t.tree xs z ∷ us) s e =
      externals_give unit xs (number.unlinked s) (definers_from (unit + 1) us)
      (units_give (unit + 1) us (number.numbered_unit unit (t.tree xs z) s) e)

pub definers_define : DefinersDefine
definers_define us = units_give (number.definitions us) 0 us nothing_numbered refl
