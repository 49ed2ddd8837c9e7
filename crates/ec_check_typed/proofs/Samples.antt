-- Statements and declarations with what they are, by the relation alone: in an int context, where a and b are declared.
use Rattle.std.proofs.Common.{◌≡◌, ◌<◌, ◌≤◌, ◌+◌, ℕ, true, false, List, [], ◌∷◌, refl, inl, inr, arith}
use Rattle.std.specs.Prelude.{◌⊎◌, pos, Option, Some, None}
use Rattle.std.proofs.lemmas.Bool.{false≢true}
use Rattle.ec_grammar.specs.declared.Constant.TheVariants as constants
use Rattle.ec_grammar.specs.declared.Spot.{Spot}
use Rattle.ec_grammar.specs.declared.token.WordKind.{WordKind}
use Rattle.ec_grammar.specs.declared.token.WordKind.TheVariants as w
use Rattle.ec_grammar.specs.Trees as t
use Rattle.ec_core.specs.Plain.{void, array, number, last_expr, statement}
use Rattle.ec_core.specs.Plain.{block, declare, for_loop, break_loop, no_stmt, a_stmt, last_stmt, next_stmt}
use Rattle.ec_core.specs.Typing.{int}
use Rattle.ec_check_operands.specs.Operands.{made}
use Rattle.ec_check_expressions.specs.Known.{Known}
use Rattle.ec_check_declarations.specs.Scopes.{Context}
use Rattle.ec_check_meanings.specs.Conversions.{as_it_is, ordinary}
use Rattle.ec_check_meanings.specs.Means as means
use Rattle.ec_check_meanings.specs.Means.{not_void}
use Rattle.ec_check_parts.specs.Declared.{alone, DeclareObject, IsConst}
use Rattle.ec_check_parts.specs.Places.{Inside}
use Rattle.ec_check_parts.specs.TypeWords.{type_specifiers, Pick, the_first, a_later, AreWords, no_more, one_more}
use Rattle.ec_check_parts.specs.TypeWords.{no_sign, IsSet, nothing, an_integer, Name, by_words}
use Rattle.ec_check_parts.specs.TypeWords as words
use Rattle.ec_check_parts.specs.Types as type
use Rattle.ec_check_typed.specs.Initialisers.{element, no_leaf, a_leaf, Gives, one_value, in_braces, no_item, IsValue, passed, IsZero}
use Rattle.ec_check_typed.specs.Initialisers as initial
use Rattle.ec_check_typed.specs.Initialisers.{unset}
use Rattle.ec_check_typed.specs.Statements as said
use Rattle.ec_check_typed.specs.Statements.{Enclosing, local_object, Says, at_first, one_local, no_local, more_locals}

-- the token with an index
spot : ℕ → Spot
spot n = record { index = n; at = n }

abbrev constant_of : ℕ → t.Assignment
constant_of n =
    t.value
    (t.plain
    (t.operand (t.uncast (t.postfix (t.primary (t.constant (record { index = 0; at = 0 }) (constants.Whole n true 2)))))))

module _ (e : Enclosing) (c : Context) (i : Inside) (room : i.made < 65_000) where
  abbrev int_specs : t.Specs
  int_specs = t.specs (t.word_spec (record { index = 2; at = 2 }) w.Int) []

  abbrev object_a : t.InitDeclarator
  object_a = t.init_declarator (t.declarator [] (t.identifier (record { index = 3; at = 3 }) (97 ∷ [])) t.object) None

  abbrev object_b : t.InitDeclarator
  object_b = t.init_declarator (t.declarator [] (t.identifier (record { index = 5; at = 5 }) (98 ∷ [])) t.object) None

  -- `int` alone declares an int that is not const
  an_int : (k : Known) → DeclareObject k int_specs [] t.object None int
  an_int k = record {
    typed = alone (record { said = type.said an_int_set type.no_star; no_void = no_void }) (inr (inl refl));
    small = two;
  }
    where
      an_int_set : Name k.tags int_specs int
      an_int_set = by_words (an_integer (words.int no_sign)) (one_more the_first no_more)

      none_picked : (word : WordKind) (left : List WordKind) → Pick word [] left → ⊥
      none_picked word left p = elim p [ ]

      int_is_void : (left : List WordKind) → Pick w.Int (w.Void ∷ []) left → ⊥
      int_is_void _ (a_later {left = left} p) = none_picked w.Int left p

      no_set : (set : List WordKind) → AreWords set (type_specifiers int_specs) → IsSet set void → ⊥
      no_set _ (one_more {left = left} p h) nothing = int_is_void left p

      no_void : Name k.tags int_specs void → ⊥
      no_void (by_words {set = set} s h) = no_set set h s

      two : 2 ≤ 32_767
      two = omega arith

  not_const : IsConst int_specs [] false
  not_const = (λ e. absurd (false≢true e), none)
    where
      none : ⊥ ⊎ ⊥ → false ≡ true
      none (inl h) = absurd h
      none (inr h) = absurd h

  -- `for (;;) break;` has no condition, and its body stands at `break`
  endless : (s : Spot) (at : Spot)
      → Says e c false i (t.for_loop s (t.heading s (t.first_evaluated None s) None s None s) (t.break_loop at s))
      (for_loop no_stmt None None (statement e.unit at.index break_loop)) []
  endless s at = said.repeated said.nothing_first said.no_test said.no_evaluation (at_first said.broken_off)

  -- `for (int a, b; ; ) break;` declares two objects, whose statements stand in a block at `int`
  two_objects : (s : Spot) (at : Spot)
      → Says e c false i
      (t.for_loop s
      (t.heading s (t.first_declared (t.declaration int_specs object_a (t.next_init_declarator s object_b ∷ []) s)) None s None s)
      (t.break_loop at s))
      (for_loop
      (a_stmt
      (statement e.unit 2
      (block
      (next_stmt (statement e.unit 3 (declare i.made last_expr))
      (next_stmt (statement e.unit 5 (declare (i.made + 1) last_expr)) last_stmt)))))
      None None (statement e.unit at.index break_loop))
      (local_object e (97 ∷ []) int false ∷ (local_object e (98 ∷ []) int false ∷ []))
  two_objects s at =
      said.repeated
      (said.several_objects
      (more_locals (one_local (omega (arith, room)) (an_int _) not_const unset)
      (more_locals (one_local (omega (arith, room)) (an_int _) not_const unset) no_local)))
      said.no_test said.no_evaluation (at_first said.broken_off)

module _ (k : Known) where
  -- `{1}` gives an array of two ints 1 and 0
  rest_is_zero : (s : Spot)
      → Gives (IsValue k) (IsZero k.modes) k.structs (array int 2) (t.braces s (t.initial_value (constant_of 1)) t.no_initialisers None s)
      (made k.modes int (number (pos 1)) ∷ (made k.modes int (number (pos 0)) ∷ []))
  rest_is_zero s =
      in_braces tt (element (omega arith))
      (one_value (λ h. h)
      (passed (not_void (means.whole_constant (λ q. absurd (one_is_not_zero q))) (λ q. cc))
      (record {
        passes = inl (tt, tt);
        stays = λ h. h;
        keeps = λ h. h;
        brought = ordinary (λ h. h.1) (as_it_is refl);
      })))
      no_item (a_leaf (initial.zero_number (λ h. h)) no_leaf)
    where
      one_is_not_zero : ◌≡◌ {A = ℕ} 1 0 → ⊥
      one_is_not_zero q = omega (arith, q)
