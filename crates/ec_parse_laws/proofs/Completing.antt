-- What was read before a fault, completed to a tree: the form of the law, and how a fault in a part becomes one of the whole.
--
-- The tree's tokens are those before the fault, that at the fault where it is told too deep, and then some that are added. These have
-- their indices, counted from `first`, and no place in the text.
use Rattle.std.proofs.Common.{◌≡◌, ℕ, zero, suc, ◌-◌, ◌<◌, ◌≤◌, List, [], ◌∷◌, length, Bool, true, false, cond, Result, Ok, Err, Option}
use Rattle.std.proofs.Common.{Some, None, refl, sym, ap, ◌∙◌, arith, inl, inr, ◌⊎◌, subst}
use Rattle.std.specs.Prelude.{nat_lt, max, ⊤}
use Rattle.std.proofs.lemmas.Bool.{ltb-true, lt-ltb, cases_lt, true≢false}
use Rattle.ec_grammar.specs.declared.token.PunctKind.{PunctKind}
use Rattle.ec_grammar.specs.declared.token.PunctKind.TheVariants.{Comma}
use Rattle.ec_grammar.specs.declared.token.WordKind.{WordKind}
use Rattle.ec_grammar.specs.declared.Spot.{Spot}
use Rattle.ec_grammar.specs.Trees as t
use Rattle.ec_grammar.specs.Trees.{Leaf}
use Rattle.ec_grammar.specs.Spelling.{mark, of_list}
use Rattle.ec_grammar.specs.Grammar.{Every}
use Rattle.ec_grammar.specs.Nesting as nest
use Rattle.ec_parse_laws.specs.Reading.{Fault, syntax, too_deep, Read, ◌>>=◌, when, taken, taken_word, needed, expected, expected_word}
use Rattle.ec_parse_laws.specs.Reading.{identifier, leaf_if, name_of, many_up_to, many, behind_comma, ends, room_after}
use Rattle.ec_parse_laws.specs.Passing.{High, PassesList}
use Rattle.ec_parse_laws.proofs.Basics.{some_is, when_some, taken_is, SoundAt}
use Rattle.ec_parse_laws.proofs.Agreeing.{Agree, past, Agrees}

-- ---- answers that are faults

abbrev pub good : {A : Type 0} → A → Result A Fault
good x = Ok x

abbrev pub bad : {A : Type 0} → Fault → Result A Fault
bad d = Err d

pub err_is : {A : Type 0} (c d : Fault) → bad {A = A} c ≡ bad d → c ≡ d
err_is c d e = cc

pub not_err : {A : Type 0} (x : A) (d : Fault) → good x ≡ bad d → ⊥
not_err x d e = cc

-- one part and then the next
pub bind_fault : {A B V : Type 0} (r : Result A Fault) (g : A → Result B Fault) (f : Fault) → (r >>= g) ≡ Err f → (r ≡ Err f → V)
    → ((x : A) → r ≡ Ok x → g x ≡ Err f → V) → V
bind_fault (Ok x) g f e one two = two x refl e
bind_fault (Err d) g f e one two = one cc

pub when_fault : {A B V : Type 0} (o : Option A) (g : A → B) (h : B) (y : B) → when o g h ≡ y → ((x : A) → o ≡ Some x → g x ≡ y → V)
    → (o ≡ None → h ≡ y → V) → V
when_fault (Some x) g h y e one two = one x refl e
when_fault None g h y e one two = two refl e

pub needed_fault : {A : Type 0} (o : Option (Spot × A × List Leaf)) (ts : List Leaf) (f : Fault) → needed o ts ≡ Err f
    → syntax (length ts) ≡ f
needed_fault (Some x) ts f e = absurd (not_err _ _ e)
needed_fault None ts f e = err_is {A = Spot × List Leaf} _ _ e

pub expected_fault : (p : PunctKind) (ts : List Leaf) (f : Fault) → expected p ts ≡ Err f → syntax (length ts) ≡ f
expected_fault p ts f e = needed_fault (taken p ts) ts f e

pub expected_word_fault : (w : WordKind) (ts : List Leaf) (f : Fault) → expected_word w ts ≡ Err f → syntax (length ts) ≡ f
expected_word_fault w ts f e = needed_fault (taken_word w ts) ts f e

pub identifier_fault : (ts : List Leaf) (f : Fault) → identifier ts ≡ Err f → syntax (length ts) ≡ f
identifier_fault ts f e =
    when_fault (leaf_if name_of ts) _ _ _ e (λ x o g. absurd (not_err _ _ g)) (λ o g. err_is {A = t.Identifier × List Leaf} _ _ g)

pub ends_fault : {A : Type 0} (room height : ℕ) (x : A) (rest : List Leaf) (f : Fault) → ends room height x rest ≡ Err f
    → (room < height) × (too_deep (suc (length rest)) ≡ f)
ends_fault {A = A} room height x rest f e = go (nat_lt room height) refl e
  where
    go : (b : Bool) → nat_lt room height ≡ b → cond b (bad {A = A × List Leaf} (too_deep (suc (length rest)))) (good (x, rest)) ≡ Err f
        → (room < height) × (too_deep (suc (length rest)) ≡ f)
    go true is e = (ltb-true room height is, err_is {A = A × List Leaf} _ _ e)
    go false is e = absurd (not_err _ _ e)

-- ---- the law

-- the spot of an added token
abbrev pub spot_at : ℕ → Spot
spot_at k = record { index = k; at = 0 }

-- added tokens, the first of them at this index
abbrev pub Spotted : ℕ → List Leaf → Type 0
Spotted k [] = ⊤
Spotted k (x ∷ xs) = (x.spot ≡ spot_at k) × Spotted (suc k) xs

-- the trees of one type
pub record Kind (A : Type 0) : Type 1 where
  pub spell : A → List Leaf → List Leaf
  pub Is : A → Type 0
  pub height : A → ℕ
  -- the place at which nesting passes the limit, before some rest
  pub passes : A → List Leaf → ℕ → Type 0

-- so many tokens stand from the fault on; where it is told too deep, its token stands there in the tree too
abbrev pub Told : Fault → List Leaf → (List Leaf → List Leaf) → ((List Leaf → List Leaf) → Type 0) → Type 0
Told (syntax n) more close D = n ≡ length more
Told (too_deep n) more close D = (x : Leaf) × (m : List Leaf) × (c : List Leaf → List Leaf) × (more ≡ x ∷ m)
    × ((rest : List Leaf) → close rest ≡ x ∷ c rest) × (n ≡ suc (length m)) × D c

-- the token before those that `close` adds passes the limit, whatever follows
abbrev pub Passed : {A : Type 0} → Kind A → A → (List Leaf → List Leaf) → Type 0
Passed K x close = (rest : List Leaf) → K.passes x rest (suc (length (close rest)))

-- the token is the last of the tree, which is higher than its room
abbrev pub Tall : {A : Type 0} → Kind A → ℕ → ℕ → A → (List Leaf → List Leaf) → Type 0
Tall K limit room x close = ((rest : List Leaf) → close rest ≡ rest) × (room < K.height x)
    × ((rest : List Leaf) → limit < K.height x → K.passes x rest (suc (length rest)))

abbrev pub Deep : {A : Type 0} → Kind A → ℕ → ℕ → A → (List Leaf → List Leaf) → Type 0
Deep K limit room x close = Passed K x close ⊎ Tall K limit room x close

-- without the token at a fault that is told too deep
abbrev pub added : Fault → List Leaf → List Leaf
added (syntax n) ts = ts
added (too_deep n) [] = []
added (too_deep n) (x ∷ ts) = ts

-- what was read from these tokens before the fault, completed to a tree; `more` are the tokens from the fault on
pub record Viable {A : Type 0} (K : Kind A) (first limit room : ℕ) (ts : List Leaf) (f : Fault) : Type 0 where
  pub tree : A
  pub more : List Leaf
  -- what stands in their place in the tree, before a rest, and the index of the rest
  pub close : List Leaf → List Leaf
  pub count : ℕ
  pub is : K.Is tree
  pub agree : (rest : List Leaf) → Agree more (close rest) ts (K.spell tree rest)
  pub spots : (rest : List Leaf) → Spotted count rest → Spotted first (added f (close rest))
  pub told : Told f more close (Deep K limit room tree)

-- of a whole, of whose parts it is known; `end` stands after the part
told_map : (f : Fault) (more : List Leaf) (close end : List Leaf → List Leaf) (D E : (List Leaf → List Leaf) → Type 0)
    → ((c : List Leaf → List Leaf) → D c → E (λ rest. c (end rest))) → Told f more close D → Told f more (λ rest. close (end rest)) E
told_map (syntax n) more close end D E g h = h
told_map (too_deep n) more close end D E g h = (h.0, h.1, λ rest. h.2 (end rest), h.3, λ rest. h.4 (end rest), h.5, g h.2 h.6)

-- of another list that is the same
pub at : {A : Type 0} {K : Kind A} {first limit room : ℕ} {ts us : List Leaf} {f : Fault} → ts ≡ us → Viable K first limit room us f
    → Viable K first limit room ts f
at {K = K} {first = first} {limit = limit} {room = room} {f = f} e v = subst (λ z. Viable K first limit room z f) (sym e) v

-- where all the room is left, the token passes the limit
passed : {A : Type 0} (K : Kind A) (limit : ℕ) (x : A) (close : List Leaf → List Leaf) → Deep K limit limit x close → Passed K x close
passed K limit x close (inl p) = p
passed K limit x close (inr l) = λ rest. subst (λ z. K.passes x rest (suc (length z))) (sym (l.0 rest)) (l.2 rest l.1)

pub settled : {A : Type 0} {K : Kind A} {first limit : ℕ} {ts : List Leaf} {f : Fault} (v : Viable K first limit limit ts f)
    → Told f v.more v.close (Passed K v.tree)
settled {K = K} {limit = limit} {f = f} v =
    told_map f v.more v.close (λ rest. rest) (Deep K limit limit v.tree) (Passed K v.tree) (λ c d. passed K limit v.tree c d) v.told

-- a token is missing
pub stop : {A : Type 0} {K : Kind A} {first limit room : ℕ} {us more : List Leaf} {f : Fault} → syntax (length more) ≡ f
    → (x : A) (count : ℕ) (end : List Leaf → List Leaf) → K.Is x → ((rest : List Leaf) → Spotted count rest → Spotted first (end rest))
    → ((rest : List Leaf) → Agree more (end rest) us (K.spell x rest)) → Viable K first limit room us f
stop {K = K} {first = first} {limit = limit} {room = room} {us = us} {more = more} e x count end is spots agree =
    subst (λ f. Viable K first limit room us f) e
    (record { tree = x; more = more; close = end; count = count; is = is; agree = agree; spots = spots; told = refl })

-- the last token opens one construct too many
pub opens : {A : Type 0} {K : Kind A} {first limit room : ℕ} {us more : List Leaf} {f : Fault} {last : Leaf}
    → too_deep (suc (length more)) ≡ f → (x : A) (count : ℕ) (end : List Leaf → List Leaf) → K.Is x
    → ((rest : List Leaf) → Spotted count rest → Spotted first (end rest))
    → ((rest : List Leaf) → Agree (last ∷ more) (last ∷ end rest) us (K.spell x rest))
    → ((rest : List Leaf) → K.passes x rest (suc (length (end rest)))) → Viable K first limit room us f
opens {K = K} {first = first} {limit = limit} {room = room} {us = us} {more = more} {last = last} e x count end is spots agree passes =
    subst (λ f. Viable K first limit room us f) e (record {
      tree = x;
      more = last ∷ more;
      close = λ rest. last ∷ end rest;
      count = count;
      is = is;
      agree = agree;
      spots = spots;
      told = (last, more, end, refl, λ rest. refl, refl, inl passes);
    })

-- the last token ends a tree that is higher than its room
pub ended : {A : Type 0} {K : Kind A} {first limit room : ℕ} {us : List Leaf} {f : Fault} {last : Leaf} (x : A) (more : List Leaf)
    → ends room (K.height x) x more ≡ Err f → K.Is x → ((rest : List Leaf) → Agree (last ∷ more) (last ∷ rest) us (K.spell x rest))
    → K.height x ≤ suc limit → ((rest : List Leaf) (place : ℕ) → High limit (K.height x) rest place → K.passes x rest place)
    → Viable K first limit room us f
ended {K = K} {first = first} {limit = limit} {room = room} {us = us} {f = f} {last = last} x more e is agree low high =
    let d = ends_fault room (K.height x) x more f e in
    subst (λ f. Viable K first limit room us f) d.1 (record {
      tree = x;
      more = last ∷ more;
      close = λ rest. last ∷ rest;
      count = first;
      is = is;
      agree = agree;
      spots = λ rest s. s;
      told = (
        last,
        more,
        λ rest. rest,
        refl,
        λ rest. refl,
        refl,
        inr (λ rest. refl, d.0, λ rest lt. high rest _ (omega (arith, low, lt), refl)),
      );
    })

-- a part, and what ends the whole after it
pub put_in : {A B : Type 0} {K : Kind A} {L : Kind B} {first limit room : ℕ} {ts us : List Leaf} {f : Fault}
    (v : Viable K first limit limit ts f) (x : B) (count : ℕ) (end : List Leaf → List Leaf) → L.Is x
    → ((rest : List Leaf) → Spotted count rest → Spotted v.count (end rest))
    → ((rest : List Leaf) → Agree v.more (v.close (end rest)) us (L.spell x rest))
    → ((rest : List Leaf) (place : ℕ) → K.passes v.tree (end rest) place → L.passes x rest place) → Viable L first limit room us f
put_in {K = K} {L = L} {limit = limit} {room = room} {f = f} v x count end is spots agree passes = record {
  tree = x;
  more = v.more;
  close = λ rest. v.close (end rest);
  count = count;
  is = is;
  agree = agree;
  spots = λ rest s. v.spots (end rest) (spots rest s);
  told =
      told_map f v.more v.close end (Passed K v.tree) (Deep L limit room x) (λ c p. inl (λ rest. passes rest _ (p (end rest)))) (settled v);
}

-- a part that is the whole
pub become : {A B : Type 0} {K : Kind A} {L : Kind B} {first limit room : ℕ} {ts us : List Leaf} {f : Fault} (v : Viable K first limit room
    ts f) (x : B) → L.Is x → ((rest : List Leaf) → Agree v.more (v.close rest) us (L.spell x rest)) → K.height v.tree ≡ L.height x
    → ((rest : List Leaf) (place : ℕ) → K.passes v.tree rest place → L.passes x rest place) → Viable L first limit room us f
become {K = K} {L = L} {limit = limit} {room = room} {f = f} v x is agree same passes = record {
  tree = x;
  more = v.more;
  close = v.close;
  count = v.count;
  is = is;
  agree = agree;
  spots = v.spots;
  told = told_map f v.more v.close (λ rest. rest) (Deep K limit room v.tree) (Deep L limit room x) (λ c d. elim d [
    | inl p ↦ inl (λ rest. passes rest _ (p rest))
    | inr l ↦ inr (l.0, omega (arith, same, l.1), λ rest lt. passes rest _ (l.2 rest (omega (arith, same, lt))))
  ]) v.told;
}

-- a part that stands last
pub put_last : {A B : Type 0} {K : Kind A} {L : Kind B} {first limit room small : ℕ} {ts us : List Leaf} {f : Fault}
    (v : Viable K first limit small ts f) (x : B) → L.Is x → ((rest : List Leaf) → Agree v.more (v.close rest) us (L.spell x rest))
    → (small < K.height v.tree → room < L.height x) → L.height x ≤ suc (max limit (K.height v.tree))
    → ((rest : List Leaf) (place : ℕ) → K.passes v.tree rest place → L.passes x rest place)
    → ((rest : List Leaf) (place : ℕ) → High limit (L.height x) rest place → L.passes x rest place) → Viable L first limit room us f
put_last {K = K} {L = L} {limit = limit} {room = room} {small = small} {f = f} v x is agree grows low passes high = record {
  tree = x;
  more = v.more;
  close = v.close;
  count = v.count;
  is = is;
  agree = agree;
  spots = v.spots;
  told = told_map f v.more v.close (λ rest. rest) (Deep K limit small v.tree) (Deep L limit room x) (λ c d. elim d [
    | inl p ↦ inl (λ rest. passes rest _ (p rest))
    | inr l ↦ inr (
      l.0,
      grows l.1,
      λ rest lt. elim (cases_lt limit (K.height v.tree)) [
        | inl big ↦ passes rest _ (l.2 rest big)
        | inr le ↦ high rest _ (omega (arith, low, lt, le), refl)
      ],
    )
  ]) v.told;
}

-- the room of what stands behind parts of some height
pub behind_grows : (room a b : ℕ) → room_after room a < b → room < suc (max a b)
behind_grows room a b lt = go (nat_lt a room) refl
  where
    go : (c : Bool) → nat_lt a room ≡ c → room < suc (max a b)
    go true e = omega (arith, subst (λ c. cond c (room - 1) 0 < b) e lt)
    go false e = elim (cases_lt a room) [ inl less ↦ absurd (true≢false (sym (lt-ltb a room less) ∙ e)) | inr ge ↦ omega (arith, ge) ]

-- ---- lists

abbrev pub lists : {A : Type 0} → Kind A → Kind (List A)
lists K = record { spell = of_list K.spell; Is = Every K.Is; height = nest.height_list K.height; passes = PassesList K.spell K.passes }

abbrev pub FaultsAt : {A : Type 0} → Kind A → ℕ → ℕ → (List Leaf → Option (Read A)) → Type 0
FaultsAt K first limit item = (ts : List Leaf) (r : _) (f : Fault) → item ts ≡ Some r → r ≡ Err f → Viable K first limit limit ts f

-- how a list of parts is made: the empty one, and a part before others
pub record Row {A B : Type 0} (K : Kind A) (L : Kind B) : Type 0 where
  pub nil : B
  pub cons : A → B → B
  pub is_nil : L.Is nil
  pub is_cons : (x : A) (xs : B) → K.Is x → L.Is xs → L.Is (cons x xs)
  pub spell_nil : (rest : List Leaf) → rest ≡ L.spell nil rest
  pub spell_cons : (x : A) (xs : B) (rest : List Leaf) → K.spell x (L.spell xs rest) ≡ L.spell (cons x xs) rest
  pub one : (x : A) (rest : List Leaf) (place : ℕ) → K.passes x rest place → L.passes (cons x nil) rest place
  pub others : (x : A) (xs : B) (rest : List Leaf) (place : ℕ) → L.passes xs rest place → L.passes (cons x xs) rest place

many_up_to_viable : {A B : Type 0} (K : Kind A) (L : Kind B) → Row K L → (first limit : ℕ) (item : List Leaf → Option (Read A))
    → ((x : A) → Agrees (K.spell x)) → SoundAt K.spell K.Is item → FaultsAt K first limit item → (n : ℕ) (ts : List Leaf) (f : Fault)
    → many_up_to item n ts ≡ Err f
    → Viable L first limit limit ts f
unfolding many_up_to
many_up_to_viable K L row first limit item agrees sound faults zero ts f e = absurd (not_err _ _ e)
many_up_to_viable K L row first limit item agrees sound faults (suc n) ts f e =
    when_fault (item ts) _ _ _ e (λ r o g. bind_fault r _ f g
    (λ b.
    let v = faults ts r f o b in
    put_in v (row.cons v.tree row.nil) v.count (λ rest. rest) (row.is_cons v.tree row.nil v.is row.is_nil) (λ rest s. s)
    (λ rest. subst (λ z. Agree v.more (v.close rest) ts z) (ap (K.spell v.tree) (row.spell_nil rest) ∙ row.spell_cons v.tree row.nil rest)
    (v.agree rest)) (λ rest place p. row.one v.tree rest place p))
    (λ x ok h. bind_fault (many_up_to item n x.1) _ f h
    (λ b.
    let made = sound ts r x o ok in
    let v = many_up_to_viable K L row first limit item agrees sound faults n x.1 f b in
    at made.0 (put_in v (row.cons x.0 v.tree) v.count (λ rest. rest) (row.is_cons x.0 v.tree made.1 v.is) (λ rest s. s)
    (λ rest. subst (λ z. Agree v.more (v.close rest) (K.spell x.0 x.1) z) (row.spell_cons x.0 v.tree rest)
    (agrees x.0 _ _ _ _ (v.agree rest))) (λ rest place p. row.others x.0 v.tree rest place p)))
    (λ xs k l. absurd (not_err _ _ l))))
    (λ o g. absurd (not_err _ _ g))

-- many items, made a tree of another type
pub row_viable : {A B : Type 0} (K : Kind A) (L : Kind B) → Row K L → (first limit : ℕ) (item : List Leaf → Option (Read A))
    → ((x : A) → Agrees (K.spell x)) → SoundAt K.spell K.Is item → FaultsAt K first limit item → (ts : List Leaf) (f : Fault)
    → many item ts ≡ Err f
    → Viable L first limit limit ts f
row_viable K L row first limit item agrees sound faults ts f e =
    many_up_to_viable K L row first limit item agrees sound faults (length ts) ts f e

pub many_viable : {A : Type 0} (K : Kind A) (first limit : ℕ) (item : List Leaf → Option (Read A)) → ((x : A) → Agrees (K.spell x))
    → SoundAt K.spell K.Is item → FaultsAt K first limit item → (ts : List Leaf) (f : Fault) → many item ts ≡ Err f
    → Viable (lists K) first limit limit ts f
many_viable {A = A} K first limit item agrees sound faults ts f e = row_viable K (lists K) (record {
  nil = [];
  cons = λ x xs. x ∷ xs;
  is_nil = tt;
  is_cons = λ x xs a b. (a, b);
  spell_nil = λ rest. refl;
  spell_cons = λ x xs rest. refl;
  one = λ x rest place p. inl p;
  others = λ x xs rest place p. inr p;
}) first limit item agrees sound faults ts f e

-- items that have no fault
pub many_no_fault : {A : Type 0} (item : List Leaf → Option (Read A))
    → ((ts : List Leaf) (r : Read A) (f : Fault) → item ts ≡ Some r → r ≡ Err f → ⊥) → (ts : List Leaf) (f : Fault)
    → many item ts ≡ Err f → ⊥
unfolding many_up_to
many_no_fault {A = A} item none ts f e = go (length ts) ts f e
  where
    go : (n : ℕ) (ts : List Leaf) (f : Fault) → many_up_to item n ts ≡ Err f → ⊥
    go zero ts f e = absurd (not_err _ _ e)
    go (suc n) ts f e = when_fault (item ts) _ _ _ e (λ r o g. bind_fault r _ f g (λ b. none ts r f o b)
        (λ x ok h. bind_fault (many_up_to item n x.1) _ f h (λ b. go n x.1 f b) (λ xs k l. not_err _ _ l))) (λ o g. not_err _ _ g)

pub comma_faults : {A B : Type 0} (K : Kind A) (L : Kind B) (first limit : ℕ) (make : Spot → A → B) (item : List Leaf → Read A)
    → ((ts : List Leaf) (f : Fault) → item ts ≡ Err f → Viable K first limit limit ts f) → ((s : Spot) (x : A) → K.Is x → L.Is (make s x))
    → ((s : Spot) (x : A) (rest : List Leaf) → mark s Comma ∷ K.spell x rest ≡ L.spell (make s x) rest)
    → ((s : Spot) (x : A) (rest : List Leaf) (place : ℕ) → K.passes x rest place → L.passes (make s x) rest place)
    → FaultsAt L first limit (behind_comma make item)
comma_faults K L first limit make item faults is spell passes ts r f o b =
    let c = when_some (taken Comma ts) _ _ o in
    bind_fault (item c.0.2) _ f (some_is _ _ c.2 ∙ b)
    (λ e.
    let v = faults c.0.2 f e in
    at (taken_is Comma ts c.0 c.1)
    (put_in v (make c.0.0 v.tree) v.count (λ rest. rest) (is c.0.0 v.tree v.is) (λ rest s. s)
    (λ rest. subst (λ z. Agree v.more (v.close rest) (mark c.0.0 Comma ∷ c.0.2) z) (spell c.0.0 v.tree rest) (past _ (v.agree rest)))
    (λ rest place p. passes c.0.0 v.tree rest place p)))
    (λ x k e. absurd (not_err _ _ e))
