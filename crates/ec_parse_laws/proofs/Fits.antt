-- What is read fits the limit of nesting.
use Rattle.std.proofs.Common.{◌≡◌, ℕ, zero, suc, ◌≤◌, List, Ok, ◌∙◌, arith, inl, inr, subst}
use Rattle.ec_grammar.specs.declared.token.WordKind.TheVariants as words
use Rattle.ec_grammar.specs.declared.token.PunctKind.{PunctKind}
use Rattle.ec_grammar.specs.declared.token.PunctKind.TheVariants.{RightBrace, Semicolon}
use Rattle.ec_grammar.specs.declared.Spot.{Spot}
use Rattle.ec_grammar.specs.Tokens.{Placed}
use Rattle.ec_grammar.specs.Trees as t
use Rattle.ec_grammar.specs.Trees.{Leaf}
use Rattle.ec_grammar.specs.Grammar.{leaves_from}
use Rattle.ec_grammar.specs.Nesting as nest
use Rattle.ec_grammar.specs.Nesting.{NestsIn}
use Rattle.ec_parse_laws.specs.Reading.{leaf_if, word_if, pragma_of, end_of, taken_word, needed, expected, starts_specs, many, within}
use Rattle.ec_parse_laws.specs.Reading.{specs_by, declarator_by, declared_by, start_by, init_declarator_by, declaration_by, members_by}
use Rattle.ec_parse_laws.specs.Reading.{members_at, initialiser_by, expression_by, assignment_by, conditional_by, cast_by, unary_by}
use Rattle.ec_parse_laws.specs.Reading.{binary_by, postfix_by, primary_by, suffix_by, further_by, arguments_by, shape_by, condition_by}
use Rattle.ec_parse_laws.specs.Reading.{optional_by, first_by, heading_by, item_at, substatement, statement_by, compound_by, structure_at}
use Rattle.ec_parse_laws.specs.Reading.{structure_by, register_by, is_brace, function_at, defined_by, external_at, unit_by, read}
use Rattle.ec_parse_laws.specs.Laws.{tree_of}
use Rattle.ec_parse_laws.proofs.Basics.{ok_is, some_is, bind_ok, when_is, when_some, inner_at}
use Rattle.ec_parse_laws.proofs.SoundUnits.{whole_is}
use Rattle.ec_parse_laws.proofs.Fitting.{Fitting, Keeps, KeepsAt, gives, begun_within, many_keeps, FitsAt, FitsBelow, further_keeps}
use Rattle.ec_parse_laws.proofs.Fitting.{arguments_keep, primary_keeps, suffix_keeps, postfix_keeps, unary_keeps, cast_keeps, binary_keeps}
use Rattle.ec_parse_laws.proofs.Fitting.{conditional_keeps, assignment_keeps, expression_keeps}
use Rattle.ec_parse_laws.proofs.FittingUnits.{shape_keeps, declarator_keeps, initialiser_keeps, start_keeps, init_declarator_keeps}
use Rattle.ec_parse_laws.proofs.FittingUnits.{declared_keeps, declaration_keeps, member_keeps, member_item_keeps, condition_keeps}
use Rattle.ec_parse_laws.proofs.FittingUnits.{optional_height, optional_opens, optional_keeps, first_keeps, heading_keeps}
use Rattle.ec_parse_laws.proofs.FittingUnits.{substatement_keeps, statement_keeps, compound_keeps, item_keeps}

-- ---- all readers, where n constructs may be opened

fits_with : (limit n : ℕ) → FitsBelow limit n → FitsAt limit n
fits_with limit n below = record {
  expression = λ room ts y f. expression_keeps limit n below room ts y f;
  assignment = λ room ts y f. assignment_keeps limit n below room ts y f;
  conditional = λ room ts y f. conditional_keeps limit n below room ts y f;
  cast = λ room ts y f. cast_keeps limit n below room ts y f;
  unary = λ room ts y f. unary_keeps limit n below room ts y f;
  initialiser = λ room ts y f. initialiser_keeps limit n below room ts y f;
  declaration = λ ts y f. declaration_keeps limit n below ts y f;
  statement = λ room ts y f. statement_keeps limit n below room ts y f;
  compound = λ room ts y f. compound_keeps limit n below room ts y f;
}

pub fits_below : (limit n : ℕ) → FitsBelow limit n
fits_below limit zero m e = absurd (omega (arith, e))
fits_below limit (suc n) m e = let same : n ≡ m = omega (arith, e) in subst (FitsAt limit) same (fits_with limit n (fits_below limit n))

pub fits_at : (limit n : ℕ) → FitsAt limit n
fits_at limit n = fits_with limit n (fits_below limit n)

-- ---- expressions, where there is such room

pub fits_expression : (limit n room : ℕ) → room ≤ limit
    → Keeps nest.height_expression nest.opens_expression room n (expression_by (within limit n) room)
fits_expression limit n room le = expression_keeps limit n (fits_below limit n) room

pub fits_assignment : (limit n room : ℕ) → room ≤ limit
    → Keeps nest.height_assignment nest.opens_assignment room n (assignment_by (within limit n) room)
fits_assignment limit n room le = assignment_keeps limit n (fits_below limit n) room

pub fits_conditional : (limit n room : ℕ) → room ≤ limit
    → Keeps nest.height_conditional nest.opens_conditional room n (conditional_by (within limit n) room)
fits_conditional limit n room le = conditional_keeps limit n (fits_below limit n) room

pub fits_binary : (limit n room : ℕ) → room ≤ limit → (level : ℕ)
    → Keeps nest.height_binary nest.opens_binary room n (binary_by (within limit n) level room)
fits_binary limit n room le level = binary_keeps limit n (fits_below limit n) level room

pub fits_cast : (limit n room : ℕ) → room ≤ limit → Keeps nest.height_cast nest.opens_cast room n (cast_by (within limit n) room)
fits_cast limit n room le = cast_keeps limit n (fits_below limit n) room

pub fits_unary : (limit n room : ℕ) → room ≤ limit → Keeps nest.height_unary nest.opens_unary room n (unary_by (within limit n) room)
fits_unary limit n room le = unary_keeps limit n (fits_below limit n) room

pub fits_postfix : (limit n room : ℕ) → room ≤ limit
    → Keeps nest.height_postfix nest.opens_postfix room n (postfix_by (within limit n) room)
fits_postfix limit n room le = postfix_keeps limit n (fits_below limit n) room

pub fits_primary : (limit n room : ℕ) → room ≤ limit
    → Keeps nest.height_primary nest.opens_primary room n (primary_by (within limit n) room)
fits_primary limit n room le = primary_keeps limit n (fits_below limit n) room

pub fits_suffix : (limit n room : ℕ) → room ≤ limit → (p : t.Postfix) → nest.opens_postfix p ≤ n
    → KeepsAt nest.height_postfix nest.opens_postfix room n (suffix_by (within limit n) room p)
fits_suffix limit n room le p few = suffix_keeps limit n (fits_below limit n) room p few

pub fits_further : (limit m : ℕ) → Keeps nest.height_further nest.opens_further limit m (further_by (inner_at limit m))
fits_further limit m = further_keeps limit m (fits_at limit m)

pub fits_arguments : (limit m : ℕ) → Keeps nest.height_arguments nest.opens_arguments limit m (arguments_by (inner_at limit m))
fits_arguments limit m = arguments_keep limit m (fits_at limit m)

-- ---- declarations

pub fits_shape : (limit n : ℕ) → Keeps nest.height_shape nest.opens_shape limit n (shape_by (within limit n))
fits_shape limit n = shape_keeps limit n (fits_below limit n)

pub fits_declarator : (limit n : ℕ) → Keeps nest.height_declarator nest.opens_declarator limit n (declarator_by (within limit n))
fits_declarator limit n = declarator_keeps limit n (fits_below limit n)

pub fits_initialiser : (limit n room : ℕ) → room ≤ limit
    → Keeps nest.height_initialiser nest.opens_initialiser room n (initialiser_by (within limit n) room)
fits_initialiser limit n room le = initialiser_keeps limit n (fits_below limit n) room

pub fits_start : (limit n : ℕ)
    → Keeps (nest.height_option nest.height_start) (nest.height_option nest.opens_start) limit n (start_by (within limit n))
fits_start limit n = start_keeps limit n (fits_below limit n)

pub fits_init_declarator : (limit n : ℕ)
    → Keeps nest.height_init_declarator nest.opens_init_declarator limit n (init_declarator_by (within limit n))
fits_init_declarator limit n = init_declarator_keeps limit n (fits_below limit n)

pub fits_declaration : (limit n : ℕ) → Keeps nest.height_declaration nest.opens_declaration limit n (declaration_by (within limit n))
fits_declaration limit n = declaration_keeps limit n (fits_below limit n)

pub fits_member : (limit n : ℕ) → Keeps nest.height_member nest.opens_member limit n (members_by (within limit n))
fits_member limit n = member_keeps limit n (fits_below limit n)

-- ---- statements; a statement and a compound are open themselves where these speak of them

pub fits_condition : (limit n : ℕ) → Keeps nest.height_condition nest.opens_condition limit n (condition_by (within limit n))
fits_condition limit n = condition_keeps limit n (fits_below limit n)

pub fits_first : (limit m : ℕ) → Keeps nest.height_first nest.opens_first limit m (first_by (inner_at limit m))
fits_first limit m = first_keeps limit m (fits_at limit m)

pub fits_heading : (limit n : ℕ) → Keeps nest.height_heading nest.opens_heading limit n (heading_by (within limit n))
fits_heading limit n = heading_keeps limit n (fits_below limit n)

pub fits_optional : (limit n : ℕ) (p : PunctKind)
    → Keeps optional_height optional_opens limit n (optional_by (expression_by (within limit n) limit) p)
fits_optional limit n p =
    optional_keeps limit n p (expression_by (within limit n) limit) (expression_keeps limit n (fits_below limit n) limit)

pub fits_substatement : (limit n room : ℕ) → room ≤ limit
    → Keeps nest.height_statement nest.opens_statement room n (substatement (within limit n) room)
fits_substatement limit n room le = substatement_keeps limit n (fits_below limit n) room

pub fits_statement : (limit n room : ℕ) → room ≤ limit
    → Keeps nest.height_statement nest.opens_statement room (suc n) (statement_by (within limit n) room)
fits_statement limit n room le = statement_keeps limit n (fits_below limit n) room

pub fits_compound : (limit n room : ℕ) → room ≤ limit
    → Keeps nest.height_compound nest.opens_compound room (suc n) (compound_by (within limit n) room)
fits_compound limit n room le = compound_keeps limit n (fits_below limit n) room

pub fits_item : (limit n : ℕ) → KeepsAt nest.height_item nest.opens_item limit n (item_at (within limit n))
fits_item limit n = item_keeps limit n (fits_below limit n)

-- ---- units

structure_keeps : (limit n : ℕ) (s : Spot) (tag : t.Identifier) (l : Spot) (ts : List Leaf) (y : t.Structure × List Leaf)
    → structure_by (within limit n) s tag l ts ≡ Ok y → Fitting nest.height_external nest.opens_external limit n (t.structure_item y.0, y.1)
unfolding structure_by
structure_keeps limit n s tag l ts y e =
    let m = bind_ok (members_by (within limit n) ts) _ _ e in
    let more = bind_ok (many (members_at (within limit n)) m.0.1) _ _ m.2 in
    let r = bind_ok (expected RightBrace more.0.1) _ _ more.2 in
    let c = bind_ok (expected Semicolon r.0.1) _ _ r.2 in
    let one = fits_member limit n ts m.0 m.1 in
    let others = many_keeps nest.height_member nest.opens_member limit n (members_at (within limit n))
    (member_item_keeps limit n (fits_below limit n)) m.0.1 more.0 more.1 in
    subst (λ (y : t.Structure × List Leaf). Fitting nest.height_external nest.opens_external limit n (t.structure_item y.0, y.1))
    (ok_is _ _ c.2) (omega (arith, one.0, others.0), omega (arith, one.1, others.1))

defined_keeps : (limit n : ℕ) → Keeps nest.height_external nest.opens_external limit n (defined_by (within limit n))
unfolding defined_by function_at
defined_keeps limit n ts y e =
    let s = bind_ok (specs_by ts) _ _ e in
    let d = bind_ok (declarator_by (within limit n) s.0.1) _ _ s.2 in
    let one = fits_declarator limit n s.0.1 d.0 d.1 in
    elim (when_is (function_at s.0.0 d.0.0 d.0.1) _ _ _ d.2) [
      | inl f ↦
          let i = begun_within is_brace limit n d.0.1 _ _ f.2 in
          let b = bind_ok (compound_by (within limit i.0) limit d.0.1) _ _ i.2 in
          let kept = fits_compound limit i.0 limit (omega arith) d.0.1 b.0 b.1 in
          gives nest.height_external nest.opens_external limit n _ _ y b.2 kept.0 (omega (arith, i.1, kept.1))
      | inr k ↦
          let x = bind_ok (declared_by (within limit n) s.0.0 d.0.0 d.0.1) _ _ k.1 in
          let kept = declared_keeps limit n (fits_below limit n) s.0.0 d.0.0 one d.0.1 x.0 x.1 in
          gives nest.height_external nest.opens_external limit n _ _ y x.2 kept.0 kept.1
    ]

pub fits_external : (limit n : ℕ) → KeepsAt nest.height_external nest.opens_external limit n (external_at (within limit n))
unfolding external_at
fits_external limit n ts r y e ok =
    elim (when_is (leaf_if pragma_of ts) _ _ _ e) [
      | inl p ↦ gives nest.height_external nest.opens_external limit n _ _ y (some_is _ _ p.2 ∙ ok) (omega arith) (omega arith)
      | inr a ↦ elim (when_is (structure_at ts) _ _ _ a.1) [
        | inl s ↦
            let x = bind_ok (structure_by (within limit n) s.0.0 s.0.1 s.0.2 s.0.3) _ _ (some_is _ _ s.2 ∙ ok) in
            let kept = structure_keeps limit n s.0.0 s.0.1 s.0.2 s.0.3 x.0 x.1 in
            gives nest.height_external nest.opens_external limit n _ _ y x.2 kept.0 kept.1
        | inr b ↦ elim (when_is (taken_word words.Register ts) _ _ _ b.1) [
          | inl w ↦
              let x = bind_ok (register_by w.0.0 w.0.2) _ _ (some_is _ _ w.2 ∙ ok) in
              gives nest.height_external nest.opens_external limit n _ _ y x.2 (omega arith) (omega arith)
          | inr c ↦ let w = when_some (leaf_if (word_if starts_specs) ts) _ _ c.1 in defined_keeps limit n ts y (some_is _ _ w.2 ∙ ok)
        ]
      ]
    ]

abbrev unit_height : t.Tree → ℕ
unit_height (t.tree all s) = nest.height_list nest.height_external all

abbrev unit_opens : t.Tree → ℕ
unit_opens (t.tree all s) = nest.height_list nest.opens_external all

pub fits_unit : (limit n : ℕ) → Keeps unit_height unit_opens limit n (unit_by (within limit n))
unfolding unit_by
fits_unit limit n ts y e =
    let u = bind_ok (many (external_at (within limit n)) ts) _ _ e in
    let w = bind_ok (needed (leaf_if end_of u.0.1) u.0.1) _ _ u.2 in
    let kept =
    many_keeps nest.height_external nest.opens_external limit n (external_at (within limit n)) (fits_external limit n) ts u.0 u.1 in
    gives unit_height unit_opens limit n _ _ y w.2 kept.0 kept.1

nests : (limit : ℕ) (u : t.Tree) → unit_height u ≤ limit → unit_opens u ≤ limit → NestsIn limit u
nests limit (t.tree all s) low few = (low, few)

-- what is read nests no deeper than the limit
pub fits_tree : (limit : ℕ) (tokens : List Placed) (u : t.Tree) → tree_of limit tokens ≡ Ok u → NestsIn limit u
unfolding read
fits_tree limit tokens u e =
    let y = bind_ok (unit_by (within limit limit) (leaves_from 0 tokens)) _ _ e in
    let kept = fits_unit limit limit (leaves_from 0 tokens) y.0 y.1 in
    subst (λ (z : t.Tree × List Leaf). NestsIn limit z.0) (whole_is y.0 u y.2) (nests limit y.0.0 kept.0 kept.1)
