-- What is told of declarations in blocks breaks a constraint there, and the other way round.
use Rattle.std.proofs.Common.{◌≡◌, ℕ, Bool, true, false, List, [], ◌∷◌, refl, inl, inr}
use Rattle.std.specs.Prelude.{◌⊎◌, ◌↔◌, if◌then◌else◌, is_some, drop, Option, Some, None}
use Rattle.std.specs.Bool.{Decides}
use Rattle.std.specs.Str.{bytes_eq}
use Rattle.std.proofs.lemmas.Bool.{false≢true}
use Rattle.std.proofs.lemmas.Slice.Eq.{bytes_eq-Decides}
use Rattle.ec_grammar.specs.declared.Spot.{Spot}
use Rattle.ec_grammar.specs.Trees as t
use Rattle.ec_check_operands.specs.declared.faults.Fault.{Fault}
use Rattle.ec_check_operands.specs.Faults.{Judgement, rule}
use Rattle.ec_check_operands.specs.Laws.{IsTold}
use Rattle.ec_check_names.specs.declared.specifiers.Storage.{Storage}
use Rattle.ec_check_names.specs.Counts.{is_function}
use Rattle.ec_check_names.specs.Names.{Named, Entry, Names, newest_from, is_declared_since}
use Rattle.ec_check_names.specs.Specifiers.{specified, specs_rules, storages_of}
use Rattle.ec_check_names.specs.Tags.{Tags}
use Rattle.ec_check_expressions.specs.Known.{Known}
use Rattle.ec_check_declarations.specs.Declarators.{object_sites}
use Rattle.ec_check_declarations.specs.Scopes.{Context, Scope, known_in}
use Rattle.ec_check_declarations.specs.Sites.{on}
use Rattle.ec_check_statements.specs.Around.{Around}
use Rattle.ec_check_statements.specs.Locals.{declarator_sites, storage_rules}
use Rattle.ec_check_parts.specs.Specifiers.{BreakSpecifiers}
use Rattle.ec_check_parts.specs.Heads.{block_object}
use Rattle.ec_check_parts.specs.Objects.{BreakObject}
use Rattle.ec_check_parts.specs.Structures.{IsFunction}
use Rattle.ec_check_parts.specs.Blocks.{BreakBlockSpecifiers, block_specified, stored_in_block, AreOfName, DeclaresName}
use Rattle.ec_check_parts.specs.Blocks.{BreakBlockObject, block_declared, name_again, function_in_block}
use Rattle.ec_check_parts.specs.Laws.{TellAt, BlocksAreJudged}
use Rattle.ec_check_parts.proofs.Joined.{at_one, both, like}
use Rattle.ec_check_parts.proofs.Specifiers.{specifiers_are_judged}
use Rattle.ec_check_parts.proofs.FirstStorages.{IsStored, AnyWord, stored_at}
use Rattle.ec_check_parts.proofs.Structures.{function_told}
use Rattle.ec_check_parts.proofs.Expressions.{ExpressionLaws}
use Rattle.ec_check_parts.proofs.Objects.{objects_are_judged}

-- ---- specifiers

word_told : (o : Option Storage) (f : Fault) → IsTold (storage_rules o) f ↔ ((f.rule ≡ 16) × IsStored AnyWord o f.at)
word_told None f = (λ h. absurd h, λ h. absurd h.1)
word_told (Some s) f = (there, λ h. inl (refl, h.1.1, h.0))
  where
    there : IsTold (storage_rules (Some s)) f → (f.rule ≡ 16) × IsStored AnyWord (Some s) f.at
    there (inl (b, a, r)) = (r, (tt, a))
    there (inr h) = absurd h

module _ (tags : Tags) (ss : t.Specs) (f : Fault) where
  abbrev words : List Judgement
  words = storage_rules (storages_of ss).first

  specifiers_there : BreakSpecifiers tags true ss f ⊎ IsTold words f → BreakBlockSpecifiers tags ss f
  specifiers_there (inl b) = block_specified b
  specifiers_there (inr h) = let g = (word_told (storages_of ss).first f).0 h in stored_in_block g.0 ((stored_at ss f.at).0 g.1)

  specifiers_back : BreakBlockSpecifiers tags ss f → BreakSpecifiers tags true ss f ⊎ IsTold words f
  specifiers_back (block_specified b) = inl b
  specifiers_back (stored_in_block r h) = inr ((word_told (storages_of ss).first f).1 (r, (stored_at ss f.at).1 h))

  specifiers_told : IsTold (specs_rules tags true ss words) f ↔ BreakBlockSpecifiers tags ss f
  specifiers_told =
      let law = specifiers_are_judged.specifiers tags true ss words f in
      (λ h. specifiers_there (law.0 h), λ b. law.1 (specifiers_back b))

-- ---- names

-- a name was found before, or is that of one of some entries
abbrev IsFound : Option Named → List ℕ → List Entry → Type 0
IsFound best n es = (is_some best ≡ true) ⊎ AreOfName n es

newest_step : (best : Option Named) (n : List ℕ) (e : Entry) (es : List Entry) (b : Bool) → Decides b (e.name ≡ n)
    → ((best : Option Named) → Decides (is_some (newest_from best n es)) (IsFound best n es))
    → Decides (is_some (newest_from (if b then Some e.what else best) n es)) (IsFound best n (e ∷ es))
newest_step best n e es true d rest = (λ q. inr (inl (d.0 refl)), λ h. (rest (Some e.what)).1 (inl refl))
newest_step best n e es false d rest = (λ q. there ((rest best).0 q), λ h. (rest best).1 (back h))
  where
    there : IsFound best n es → IsFound best n (e ∷ es)
    there (inl q) = inl q
    there (inr h) = inr (inr h)

    back : IsFound best n (e ∷ es) → IsFound best n es
    back (inl q) = inl q
    back (inr (inl q)) = absurd (false≢true (d.1 q))
    back (inr (inr h)) = inr h

newest_told : (best : Option Named) (n : List ℕ) (es : List Entry) → Decides (is_some (newest_from best n es)) (IsFound best n es)
newest_told best n [] = (λ e. inl e, back)
  where
    back : IsFound best n [] → is_some best ≡ true
    back (inl e) = e
    back (inr h) = absurd h
newest_told best n (e ∷ es) = newest_step best n e es (bytes_eq e.name n) (bytes_eq-Decides e.name n) (λ best. newest_told best n es)

pub again_told : (first : ℕ) (n : List ℕ) (names : Names) → Decides (is_declared_since first n names) (DeclaresName first n names)
again_told first n names =
    (λ q. there ((newest_told None n (drop first names.inside)).0 q), λ h. (newest_told None n (drop first names.inside)).1 (inr h))
  where
    there : IsFound None n (drop first names.inside) → AreOfName n (drop first names.inside)
    there (inl e) = absurd (false≢true e)
    there (inr h) = h

-- ---- declarators

module _ (laws : ExpressionLaws) (c : Context) (r : Around) (ss : t.Specs) (stars : List t.Star) (at : Spot) (n : List ℕ)
    (shape : t.Shape) (start : Option t.Start) (s : Scope) where
  abbrev k : Known
  k = known_in c s.names

  -- what is told of the name
  abbrev BreakRules : Fault → Type 0
  BreakRules f =
      ((f.rule ≡ 5) × (f.at ≡ at.index) × DeclaresName r.first n s.names) ⊎ ((f.rule ≡ 16) × (f.at ≡ at.index) × IsFunction shape)

  abbrev rules : List Judgement
  rules = rule 5 (is_declared_since r.first n s.names) at.index ∷ rule 16 (is_function shape) at.index ∷ []

  rules_told : (f : Fault) → IsTold rules f ↔ BreakRules f
  rules_told f = (there, back)
    where
      there : IsTold rules f → BreakRules f
      there (inl (b, a, q)) = inl (q, a, (again_told r.first n s.names).0 b)
      there (inr (inl (b, a, q))) = inr (q, a, (function_told shape).0 b)
      there (inr (inr h)) = absurd h

      back : BreakRules f → IsTold rules f
      back (inl (q, a, h)) = inl ((again_told r.first n s.names).1 h, a, q)
      back (inr (q, a, h)) = inr (inl ((function_told shape).1 h, a, q))

  abbrev Parts : Fault → Type 0
  Parts f = BreakObject k block_object ss stars at.index shape start f ⊎ BreakRules f

  of_parts : (f : Fault) → Parts f → BreakBlockObject k r.first ss stars at.index n shape start f
  of_parts f (inl b) = block_declared b
  of_parts f (inr (inl (q, a, h))) = name_again q a h
  of_parts f (inr (inr (q, a, h))) = function_in_block q a h

  to_parts : (f : Fault) → BreakBlockObject k r.first ss stars at.index n shape start f → Parts f
  to_parts f (block_declared b) = inl b
  to_parts f (name_again q a h) = inr (inl (q, a, h))
  to_parts f (function_in_block q a h) = inr (inr (q, a, h))

  abbrev whole : t.InitDeclarator
  whole = t.init_declarator (t.declarator stars (t.identifier at n) shape) start

  declarator_told : TellAt (declarator_sites c r (specified c.tags ss) whole s) (BreakBlockObject k r.first ss stars at.index n shape start)
  unfolding declarator_sites
  declarator_told =
      let objects = object_sites k false (specified c.tags ss) (t.declarator stars (t.identifier at n) shape) start in
      like (λ rest. objects (on rules ∷ rest)) Parts (BreakBlockObject k r.first ss stars at.index n shape start) of_parts to_parts
      (both objects (λ rest. on rules ∷ rest) (BreakObject k block_object ss stars at.index shape start) BreakRules
      ((objects_are_judged laws).in_blocks k ss stars at n shape start) (at_one rules BreakRules rules_told))

pub blocks_are_judged : ExpressionLaws → BlocksAreJudged
blocks_are_judged laws = record {
  specifiers = λ tags ss. at_one (specs_rules tags true ss (storage_rules (storages_of ss).first)) (BreakBlockSpecifiers tags ss)
      (specifiers_told tags ss);
  declarators = λ c r ss stars at n shape start s. declarator_told laws c r ss stars at n shape start s;
}
