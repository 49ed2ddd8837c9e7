-- A fault in a statement, completed.
use Rattle.std.proofs.Common.{◌≡◌, ℕ, zero, suc, ◌≤◌, List, [], ◌∷◌, length, true, Err, Some, None, refl, ap, ◌∙◌, arith, inl, inr, subst}
use Rattle.std.specs.Prelude.{max}
use Rattle.ec_grammar.specs.declared.token.WordKind.TheVariants as words
use Rattle.ec_grammar.specs.declared.token.WordKind.{WordKind}
use Rattle.ec_grammar.specs.declared.token.PunctKind.TheVariants.{LeftBrace, RightBrace, Semicolon}
use Rattle.ec_grammar.specs.declared.Pragma.{Pragma}
use Rattle.ec_grammar.specs.declared.Spot.{Spot}
use Rattle.ec_grammar.specs.Trees as t
use Rattle.ec_grammar.specs.Trees.{Leaf}
use Rattle.ec_grammar.specs.Spelling.{mark, word, of_list, of_pragma, of_condition, of_items, of_item, of_statement}
use Rattle.ec_grammar.specs.Grammar.{is_open, Is_condition, Is_item, Is_statement}
use Rattle.ec_grammar.specs.Nesting as nest
use Rattle.ec_parse_laws.specs.Reading.{Fault, Read, ◌>>=◌, leaf_if, word_if, pragma_of, taken, taken_word, expected, expected_word}
use Rattle.ec_parse_laws.specs.Reading.{starts_specs, starts_statement, Keyword, if_word, while_word, do_word, for_word, break_word}
use Rattle.ec_parse_laws.specs.Reading.{continue_word, return_word, keyword_of, many, ends, room_after, declaration_by, condition_by}
use Rattle.ec_parse_laws.specs.Reading.{expression_by, optional_by, heading_by, substatement, items_of, item_at, pragma_at, compound_by}
use Rattle.ec_parse_laws.specs.Reading.{else_by, if_by, while_by, do_by, for_by, return_by, worded_by, simple_by, statement_by, opened_at}
use Rattle.ec_parse_laws.specs.Reading.{within}
use Rattle.ec_parse_laws.specs.Passing.{High, PassesStatement}
use Rattle.ec_parse_laws.proofs.Basics.{some_is, no_some, when_some, taken_word_is, expected_is, expected_word_is, keyword_is}
use Rattle.ec_parse_laws.proofs.Basics.{word_of_keyword, many_is, after_le}
use Rattle.ec_parse_laws.proofs.Sound.{expression_is}
use Rattle.ec_parse_laws.proofs.SoundUnits.{sound_within, condition_is, optional_is, heading_is, substatement_is, else_closed, of_items_of}
use Rattle.ec_parse_laws.proofs.SoundUnits.{are_items_of, item_is, pragma_item_is}
use Rattle.ec_parse_laws.proofs.Fitting.{many_keeps}
use Rattle.ec_parse_laws.proofs.Fits.{fits_condition, fits_optional, fits_heading, fits_substatement, fits_item}
use Rattle.ec_parse_laws.proofs.Agreeing.{Agree, from_here, past, past_pragmas, past_condition, past_optional, past_heading, past_items}
use Rattle.ec_parse_laws.proofs.Agreeing.{past_item, past_statement}
use Rattle.ec_parse_laws.proofs.Completing.{not_err, bind_fault, when_fault, expected_fault, expected_word_fault, spot_at, Viable, FaultsAt}
use Rattle.ec_parse_laws.proofs.Completing.{Row, at, stop, opens, ended, put_in, become, put_last, behind_grows, row_viable, many_no_fault}
use Rattle.ec_parse_laws.proofs.Shortest.{Below, statements, substatements, compounds, item_kind, items_kind, begun_fault}
use Rattle.ec_parse_laws.proofs.ViableOperators.{expression_faults}
use Rattle.ec_parse_laws.proofs.ViableDeclarations.{declaration_faults}
use Rattle.ec_parse_laws.proofs.ViableHeadings.{optional_faults, condition_faults, heading_faults, empty_statement, zero_condition}
use Rattle.ec_parse_laws.proofs.ViableHeadings.{in_parentheses, begun_statement}

-- ---- statements inside others

substatement_faults : (first limit n : ℕ) → Below first limit n → (room : ℕ) (ts : List Leaf) (f : Fault) → room ≤ limit
    → substatement (within limit n) room ts ≡ Err f → Viable (substatements limit n) first limit room ts f
unfolding opened_at
substatement_faults first limit zero below room ts f le e = elim (begun_fault starts_statement ts f e) [
  | inl d ↦ stop d (empty_statement first) (suc first) (λ rest. mark (spot_at first) Semicolon ∷ rest) tt (λ rest q. (refl, q))
      (λ rest. from_here)
  | inr d ↦
      let v = begun_statement limit zero first d.0 d.3 in
      at d.2 (opens d.4 v.tree v.count v.end v.is v.spots (λ rest.
      subst (λ z. Agree (d.0 ∷ d.1) (d.0 ∷ v.end rest) (d.0 ∷ d.1) z) (v.spelled rest) from_here) (λ rest. ap length (v.spelled rest)))
]
substatement_faults first limit (suc m) below room ts f le e =
    let v = (below m refl).statement room ts f le e in
    become v v.tree v.is (λ rest. v.agree rest) refl (λ rest place h. h)

else_faults : (first limit n : ℕ) → Below first limit n
    → (room : ℕ) (s : Spot) (c : t.Condition) (b : t.Statement) (ts : List Leaf) (f : Fault) → room ≤ limit → Is_condition c
    → Is_statement b → (is_open b ≡ true → taken_word words.Else ts ≡ None)
    → nest.height_condition c ≤ limit → nest.height_statement b ≤ limit → else_by (within limit n) room s c b ts ≡ Err f
    → Viable (statements limit n) first limit room (word s words.If ∷ of_condition c (of_statement b ts)) f
unfolding else_by
else_faults first limit n below room s c b ts f le is_c is_b none low_c low_b e =
    when_fault (taken_word words.Else ts) _ _ _ e
    (λ w o g.
    let before = max (nest.height_condition c) (nest.height_statement b) in
    at (ap (λ z. word s words.If ∷ of_condition c (of_statement b z)) (taken_word_is words.Else ts w o))
    (bind_fault (substatement (within limit n) (room_after room before) w.2) _ f g
    (λ d. let v = substatement_faults first limit n below (room_after room before) w.2 f (after_le room before limit le) d in
    put_last v (t.if_else s c b w.0 v.tree) (is_c, is_b, else_closed b ts (is_open b) refl none w o, v.is)
    (λ rest. past _ (past_condition c (past_statement b (past _ (v.agree rest)))))
    (λ lt. behind_grows room before (nest.height_statement v.tree) lt) (omega (arith, low_c, low_b)) (λ rest place h. inr (inr (inl h)))
    (λ rest place h. inr (inr (inr h))))
    (λ x k h. absurd (not_err _ _ h))))
    (λ o g. absurd (not_err _ _ g))

if_faults : (first limit n : ℕ) → Below first limit n → (room : ℕ) (s : Spot) (ts : List Leaf) (f : Fault) → room ≤ limit
    → if_by (within limit n) room s ts ≡ Err f → Viable (statements limit n) first limit room (word s words.If ∷ ts) f
unfolding if_by
if_faults first limit n below room s ts f le e =
    bind_fault (condition_by (within limit n) ts) _ f e
    (λ d. let v = condition_faults first limit n below ts f d in
    put_in v (t.if_then s v.tree (empty_statement v.count)) (suc v.count) (λ rest. mark (spot_at v.count) Semicolon ∷ rest) (v.is, tt)
    (λ rest q. (refl, q)) (λ rest. past _ (v.agree _)) (λ rest place h. inl h))
    (λ c ok g.
    let one = condition_is (within limit n) (sound_within limit n) ts c ok in
    let low = fits_condition limit n ts c ok in
    let small = room_after room (nest.height_condition c.0) in
    let fits : small ≤ limit = after_le room (nest.height_condition c.0) limit le in
    at (ap (λ z. word s words.If ∷ z) one.0)
    (bind_fault (substatement (within limit n) small c.1) _ f g
    (λ d. let v = substatement_faults first limit n below small c.1 f fits d in
    put_last v (t.if_then s c.0 v.tree) (one.1, v.is) (λ rest. past _ (past_condition c.0 (v.agree rest)))
    (λ lt. behind_grows room (nest.height_condition c.0) (nest.height_statement v.tree) lt) (omega (arith, low.0))
    (λ rest place h. inr (inl h)) (λ rest place h. inr (inr h)))
    (λ b k h.
    let two = substatement_is (within limit n) (sound_within limit n) small c.1 b k in
    let kept = fits_substatement limit n small fits c.1 b k in
    at (ap (λ z. word s words.If ∷ of_condition c.0 z) two.0)
    (else_faults first limit n below room s c.0 b.0 b.1 f le one.1 two.1 two.2 low.0 (omega (arith, kept.0, fits)) h))))

while_faults : (first limit n : ℕ) → Below first limit n → (room : ℕ) (s : Spot) (ts : List Leaf) (f : Fault) → room ≤ limit
    → while_by (within limit n) room s ts ≡ Err f → Viable (statements limit n) first limit room (word s words.While ∷ ts) f
unfolding while_by
while_faults first limit n below room s ts f le e =
    bind_fault (condition_by (within limit n) ts) _ f e
    (λ d. let v = condition_faults first limit n below ts f d in
    put_in v (t.while_loop s v.tree (empty_statement v.count)) (suc v.count) (λ rest. mark (spot_at v.count) Semicolon ∷ rest) (v.is, tt)
    (λ rest q. (refl, q)) (λ rest. past _ (v.agree _)) (λ rest place h. inl h))
    (λ c ok g.
    let one = condition_is (within limit n) (sound_within limit n) ts c ok in
    let low = fits_condition limit n ts c ok in
    let small = room_after room (nest.height_condition c.0) in
    at (ap (λ z. word s words.While ∷ z) one.0)
    (bind_fault (substatement (within limit n) small c.1) _ f g
    (λ d. let v = substatement_faults first limit n below small c.1 f (after_le room (nest.height_condition c.0) limit le) d in
    put_last v (t.while_loop s c.0 v.tree) (one.1, v.is) (λ rest. past _ (past_condition c.0 (v.agree rest)))
    (λ lt. behind_grows room (nest.height_condition c.0) (nest.height_statement v.tree) lt) (omega (arith, low.0))
    (λ rest place h. inr (inl h)) (λ rest place h. inr (inr h)))
    (λ b k h. absurd (not_err _ _ h))))

do_faults : (first limit n : ℕ) → Below first limit n → (room : ℕ) (s : Spot) (ts : List Leaf) (f : Fault)
    → do_by (within limit n) room s ts ≡ Err f → Viable (statements limit n) first limit room (word s words.Do ∷ ts) f
unfolding do_by
do_faults first limit n below room s ts f e =
    bind_fault (substatement (within limit n) limit ts) _ f e
    (λ d. let v = substatement_faults first limit n below limit ts f (omega arith) d in
    put_in v (t.do_loop s v.tree (spot_at v.count) (zero_condition (suc v.count)) (spot_at (suc (suc (suc (suc v.count))))))
    (suc (suc (suc (suc (suc v.count)))))
    (λ rest. word (spot_at v.count) words.While
    ∷ in_parentheses (suc v.count) (mark (spot_at (suc (suc (suc (suc v.count))))) Semicolon ∷ rest)) (v.is, tt)
    (λ rest q. (refl, (refl, (refl, (refl, (refl, q)))))) (λ rest. past _ (v.agree _)) (λ rest place h. inl h))
    (λ b ok g.
    let one = substatement_is (within limit n) (sound_within limit n) limit ts b ok in
    let low = fits_substatement limit n limit (omega arith) ts b ok in
    at (ap (λ z. word s words.Do ∷ z) one.0)
    (bind_fault (expected_word words.While b.1) _ f g
    (λ d. stop (expected_word_fault words.While b.1 f d) (t.do_loop s b.0 (spot_at first) (zero_condition (suc first))
    (spot_at (suc (suc (suc (suc first)))))) (suc (suc (suc (suc (suc first)))))
    (λ rest. word (spot_at first) words.While ∷ in_parentheses (suc first) (mark (spot_at (suc (suc (suc (suc first))))) Semicolon ∷ rest))
    (one.1, tt) (λ rest q. (refl, (refl, (refl, (refl, (refl, q)))))) (λ rest. past _ (past_statement b.0 from_here)))
    (λ w is h. at (ap (λ z. word s words.Do ∷ of_statement b.0 z) (expected_word_is words.While b.1 w is))
    (bind_fault (condition_by (within limit n) w.1) _ f h
    (λ d. let v = condition_faults first limit n below w.1 f d in
    put_in v (t.do_loop s b.0 w.0 v.tree (spot_at v.count)) (suc v.count) (λ rest. mark (spot_at v.count) Semicolon ∷ rest) (one.1, v.is)
    (λ rest q. (refl, q)) (λ rest. past _ (past_statement b.0 (past _ (v.agree _)))) (λ rest place h. inr (inl h)))
    (λ c k i.
    let two = condition_is (within limit n) (sound_within limit n) w.1 c k in
    let kept = fits_condition limit n w.1 c k in
    at (ap (λ z. word s words.Do ∷ of_statement b.0 (word w.0 words.While ∷ z)) two.0)
    (bind_fault (expected Semicolon c.1) _ f i
    (λ d. stop (expected_fault Semicolon c.1 f d) (t.do_loop s b.0 w.0 c.0 (spot_at first))
    (suc first) (λ rest. mark (spot_at first) Semicolon ∷ rest) (one.1, two.1) (λ rest q. (refl, q))
    (λ rest. past _ (past_statement b.0 (past _ (past_condition c.0 from_here)))))
    (λ x y j. at (ap (λ z. word s words.Do ∷ of_statement b.0 (word w.0 words.While ∷ of_condition c.0 z)) (expected_is Semicolon c.1 x y))
    (ended (t.do_loop s b.0 w.0 c.0 x.0) x.1 j (one.1, two.1) (λ rest. past _ (past_statement b.0 (past _ (past_condition c.0 from_here))))
    (omega (arith, low.0, kept.0)) (λ rest place h. inr (inr h))))))))))

for_faults : (first limit n : ℕ) → Below first limit n → (room : ℕ) (s : Spot) (ts : List Leaf) (f : Fault) → room ≤ limit
    → for_by (within limit n) room s ts ≡ Err f → Viable (statements limit n) first limit room (word s words.For ∷ ts) f
unfolding for_by
for_faults first limit n below room s ts f le e =
    bind_fault (heading_by (within limit n) ts) _ f e
    (λ d. let v = heading_faults first limit n below ts f d in
    put_in v (t.for_loop s v.tree (empty_statement v.count)) (suc v.count) (λ rest. mark (spot_at v.count) Semicolon ∷ rest) (v.is, tt)
    (λ rest q. (refl, q)) (λ rest. past _ (v.agree _)) (λ rest place h. inl h))
    (λ c ok g.
    let one = heading_is (within limit n) (sound_within limit n) ts c ok in
    let low = fits_heading limit n ts c ok in
    let small = room_after room (nest.height_heading c.0) in
    at (ap (λ z. word s words.For ∷ z) one.0)
    (bind_fault (substatement (within limit n) small c.1) _ f g
    (λ d. let v = substatement_faults first limit n below small c.1 f (after_le room (nest.height_heading c.0) limit le) d in
    put_last v (t.for_loop s c.0 v.tree) (one.1, v.is) (λ rest. past _ (past_heading c.0 (v.agree rest)))
    (λ lt. behind_grows room (nest.height_heading c.0) (nest.height_statement v.tree) lt) (omega (arith, low.0))
    (λ rest place h. inr (inl h)) (λ rest place h. inr (inr h)))
    (λ b k h. absurd (not_err _ _ h))))

return_faults : (first limit n : ℕ) → Below first limit n → (room : ℕ) (s : Spot) (ts : List Leaf) (f : Fault)
    → return_by (within limit n) room s ts ≡ Err f → Viable (statements limit n) first limit room (word s words.Return ∷ ts) f
unfolding return_by
return_faults first limit n below room s ts f e =
    bind_fault (optional_by (expression_by (within limit n) limit) Semicolon ts) _ f e
    (λ d. let v = optional_faults first limit n (λ room us g le h. expression_faults first limit n below room us g le h) Semicolon ts f d in
    put_in v (t.return_value s v.tree.0 v.tree.1) v.count (λ rest. rest) v.is (λ rest q. q) (λ rest. past _ (v.agree rest))
    (λ rest place h. inl h))
    (λ o ok g.
    let one =
    optional_is (expression_by (within limit n) limit) (expression_is (within limit n) (sound_within limit n) limit) Semicolon ts o ok in
    let kept = fits_optional limit n Semicolon ts o ok in
    at (ap (λ z. word s words.Return ∷ z) one.0) (ended (t.return_value s o.0.0 o.0.1) o.1 g one.1
    (λ rest. past _ (past_optional o.0.0 from_here)) (omega (arith, kept.0)) (λ rest place h. inr h)))

-- a word and a semicolon
jump_faults : (first limit n room : ℕ) (w : WordKind) (s : Spot) (make : Spot → t.Statement) (ts : List Leaf) (f : Fault)
    → ((e : Spot) → Is_statement (make e))
    → ((e : Spot) (rest : List Leaf) → word s w ∷ mark e Semicolon ∷ rest ≡ of_statement (make e) rest)
    → ((e : Spot) → nest.height_statement (make e) ≡ 1)
    → ((e : Spot) (rest : List Leaf) (place : ℕ) → High limit (nest.height_statement (make e)) rest place
    → PassesStatement limit n (make e) rest place)
    → (expected Semicolon ts >>= λ e. ends room (nest.height_statement (make e.0)) (make e.0) e.1) ≡ Err f
    → Viable (statements limit n) first limit room (word s w ∷ ts) f
jump_faults first limit n room w s make ts f is spell one high e =
    bind_fault (expected Semicolon ts) _ f e
    (λ d. stop (expected_fault Semicolon ts f d) (make (spot_at first)) (suc first)
    (λ rest. mark (spot_at first) Semicolon ∷ rest) (is _) (λ rest q. (refl, q))
    (λ rest. subst (λ z. Agree ts (mark (spot_at first) Semicolon ∷ rest) (word s w ∷ ts) z) (spell _ rest) (past _ from_here)))
    (λ k there g. at (ap (λ z. word s w ∷ z) (expected_is Semicolon ts k there))
    (ended (make k.0) k.1 g (is _)
    (λ rest. subst (λ z. Agree (mark k.0 Semicolon ∷ k.1) (mark k.0 Semicolon ∷ rest) (word s w ∷ mark k.0 Semicolon ∷ k.1) z)
    (spell k.0 rest) (past _ from_here)) (omega (arith, one k.0)) (λ rest place h. high k.0 rest place h)))

worded_faults : (first limit n : ℕ) → Below first limit n → (room : ℕ) (s : Spot) (k : Keyword) (ts : List Leaf) (f : Fault) → room ≤ limit
    → worded_by (within limit n) room s k ts ≡ Err f → Viable (statements limit n) first limit room (word s (word_of_keyword k) ∷ ts) f
worded_faults first limit n below room s if_word ts f le e = if_faults first limit n below room s ts f le e
worded_faults first limit n below room s while_word ts f le e = while_faults first limit n below room s ts f le e
worded_faults first limit n below room s do_word ts f le e = do_faults first limit n below room s ts f e
worded_faults first limit n below room s for_word ts f le e = for_faults first limit n below room s ts f le e
worded_faults first limit n below room s break_word ts f le e =
    jump_faults first limit n room words.Break s (λ e. t.break_loop s e) ts f (λ e. tt) (λ e rest. refl) (λ e. refl) (λ e rest place h. h) e
worded_faults first limit n below room s continue_word ts f le e = jump_faults first limit n room words.Continue s
    (λ e. t.continue_loop s e) ts f (λ e. tt) (λ e rest. refl) (λ e. refl) (λ e rest place h. h) e
worded_faults first limit n below room s return_word ts f le e = return_faults first limit n below room s ts f e

simple_faults : (first limit n : ℕ) → Below first limit n → (room : ℕ) (ts : List Leaf) (f : Fault)
    → simple_by (within limit n) room ts ≡ Err f → Viable (statements limit n) first limit room ts f
unfolding simple_by
simple_faults first limit n below room ts f e =
    bind_fault (optional_by (expression_by (within limit n) limit) Semicolon ts) _ f e
    (λ d. let v = optional_faults first limit n (λ room us g le h. expression_faults first limit n below room us g le h) Semicolon ts f d in
    put_in v (t.simple v.tree.0 v.tree.1) v.count (λ rest. rest) v.is (λ rest q. q) (λ rest. v.agree rest) (λ rest place h. inl h))
    (λ o ok g.
    let one =
    optional_is (expression_by (within limit n) limit) (expression_is (within limit n) (sound_within limit n) limit) Semicolon ts o ok in
    let kept = fits_optional limit n Semicolon ts o ok in
    at one.0
    (ended (t.simple o.0.0 o.0.1) o.1 g one.1 (λ rest. past_optional o.0.0 from_here) (omega (arith, kept.0)) (λ rest place h. inr h)))

-- ---- compound statements

items_row : (limit n : ℕ) → Row (item_kind limit n) (items_kind limit n)
items_row limit n = record {
  nil = t.no_items;
  cons = λ x xs. t.items x xs;
  is_nil = tt;
  is_cons = λ x xs a b. (a, b);
  spell_nil = λ rest. refl;
  spell_cons = λ x xs rest. refl;
  one = λ x rest place h. inl h;
  others = λ x xs rest place h. inr h;
}

item_faults : (first limit n : ℕ) → Below first limit n → FaultsAt (item_kind limit n) first limit (item_at (within limit n))
unfolding item_at
item_faults first limit n below ts r f o b =
    when_fault (leaf_if (word_if starts_specs) ts) _ _ _ o
    (λ w o g. bind_fault (declaration_by (within limit n) ts) _ f (some_is _ _ g ∙ b)
    (λ d. let v = declaration_faults first limit n below ts f d in
    put_in v (t.declared v.tree) v.count (λ rest. rest) v.is (λ rest q. q) (λ rest. v.agree rest) (λ rest place h. h))
    (λ x k h. absurd (not_err _ _ h)))
    (λ o g. when_fault (taken RightBrace ts) _ _ _ g (λ x o h. absurd (no_some _ h))
    (λ o h. bind_fault (substatement (within limit n) limit ts) _ f (some_is _ _ h ∙ b)
    (λ d. let v = substatement_faults first limit n below limit ts f (omega arith) d in
    put_in v (t.stated v.tree) v.count (λ rest. rest) v.is (λ rest q. q) (λ rest. v.agree rest) (λ rest place h. h))
    (λ x k i. absurd (not_err _ _ i))))

pragma_faultless : (ts : List Leaf) (r : Read Pragma) (f : Fault) → pragma_at ts ≡ Some r → r ≡ Err f → ⊥
pragma_faultless ts r f o b = let w = when_some (leaf_if pragma_of ts) _ _ o in not_err _ _ (some_is _ _ w.2 ∙ b)

items_height : (xs : List t.Item) → nest.height_items (items_of xs) ≡ nest.height_list nest.height_item xs
items_height [] = refl
items_height (x ∷ xs) = ap (max (nest.height_item x)) (items_height xs)

pub compound_faults : (first limit n : ℕ) → Below first limit n → (room : ℕ) (ts : List Leaf) (f : Fault)
    → compound_by (within limit n) room ts ≡ Err f → Viable (compounds limit n) first limit room ts f
unfolding compound_by
compound_faults first limit n below room ts f e =
    bind_fault (expected LeftBrace ts) _ f e
    (λ b. stop (expected_fault LeftBrace ts f b) (t.compound (spot_at first) [] t.no_items (spot_at (suc first))) (suc (suc first)) (λ rest.
    mark (spot_at first) LeftBrace ∷ mark (spot_at (suc first)) RightBrace ∷ rest) tt (λ rest q. (refl, (refl, q))) (λ rest. from_here))
    (λ l is g. at (expected_is LeftBrace ts l is)
    (bind_fault (many pragma_at l.1) _ f g (λ b. absurd (many_no_fault pragma_at pragma_faultless l.1 f b))
    (λ p ok h.
    let pragmas = many_is of_pragma (λ (p : Pragma). Unit {0}) pragma_at pragma_item_is l.1 p ok in
    at (ap (λ z. mark l.0 LeftBrace ∷ z) pragmas.0)
    (bind_fault (many (item_at (within limit n)) p.1) _ f h
    (λ b. let v = row_viable (item_kind limit n) (items_kind limit n) (items_row limit n) first limit (item_at (within limit n))
    (λ x a b us vs g. past_item x g) (item_is (within limit n) (sound_within limit n)) (item_faults first limit n below) p.1 f b in
    put_in v (t.compound l.0 p.0 v.tree (spot_at v.count)) (suc v.count) (λ rest. mark (spot_at v.count) RightBrace ∷ rest) v.is
    (λ rest q. (refl, q)) (λ rest. past _ (past_pragmas p.0 (v.agree _))) (λ rest place h. inl h))
    (λ b k i.
    let two = many_is of_item Is_item (item_at (within limit n)) (item_is (within limit n) (sound_within limit n)) p.1 b k in
    let kept = many_keeps nest.height_item nest.opens_item limit n (item_at (within limit n)) (fits_item limit n) p.1 b k in
    let are = are_items_of b.0 two.1 in
    at (ap (λ z. mark l.0 LeftBrace ∷ of_list of_pragma p.0 z) (two.0 ∙ of_items_of b.0 b.1))
    (bind_fault (expected RightBrace b.1) _ f i
    (λ d. stop (expected_fault RightBrace b.1 f d) (t.compound l.0 p.0 (items_of b.0) (spot_at first))
    (suc first) (λ rest. mark (spot_at first) RightBrace ∷ rest) are (λ rest q. (refl, q))
    (λ rest. past _ (past_pragmas p.0 (past_items (items_of b.0) from_here))))
    (λ r there j. at (ap (λ z. mark l.0 LeftBrace ∷ of_list of_pragma p.0 (of_items (items_of b.0) z)) (expected_is RightBrace b.1 r there))
    (ended (t.compound l.0 p.0 (items_of b.0) r.0) r.1 j are (λ rest. past _ (past_pragmas p.0 (past_items (items_of b.0) from_here)))
    (omega (arith, kept.0, items_height b.0)) (λ rest place h. inr h)))))))))

pub statement_faults : (first limit n : ℕ) → Below first limit n → (room : ℕ) (ts : List Leaf) (f : Fault) → room ≤ limit
    → statement_by (within limit n) room ts ≡ Err f → Viable (statements limit n) first limit room ts f
unfolding statement_by
statement_faults first limit n below room ts f le e =
    when_fault (leaf_if keyword_of ts) _ _ _ e (λ k o g. at (keyword_is ts k o) (worded_faults first limit n below room k.0 k.1 k.2 f le g))
    (λ o g. when_fault (taken LeftBrace ts) _ _ _ g
    (λ l o h. bind_fault (compound_by (within limit n) room ts) _ f h
    (λ b. let v = compound_faults first limit n below room ts f b in
    become v (t.block v.tree) v.is (λ rest. v.agree rest) refl (λ rest place h. h))
    (λ c k i. absurd (not_err _ _ i)))
    (λ o h. simple_faults first limit n below room ts f h))
