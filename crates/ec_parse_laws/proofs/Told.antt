-- Each tree is read again from its tokens, or told too deep, against the places at which it passes the limit: how answers follow
-- one another.
use Rattle.std.proofs.Common.{◌≡◌, ℕ, zero, suc, ◌+◌, ◌<◌, ◌≤◌, List, [], ◌∷◌, length, Bool, true, false, cond, Ok, Err, Option, Some, None}
use Rattle.std.proofs.Common.{refl, sym, ◌∙◌, arith, inl, inr, ◌⊎◌, subst}
use Rattle.std.specs.Prelude.{nat_lt, ⊤}
use Rattle.std.proofs.lemmas.Bool.{ltb-true, ltb-false}
use Rattle.ec_grammar.specs.declared.token.PunctKind.TheVariants.{Comma}
use Rattle.ec_grammar.specs.declared.Spot.{Spot}
use Rattle.ec_grammar.specs.Tokens.{Lexeme}
use Rattle.ec_grammar.specs.Trees.{Leaf}
use Rattle.ec_grammar.specs.Spelling.{mark, of_list}
use Rattle.ec_grammar.specs.Grammar.{Every}
use Rattle.ec_grammar.specs.Nesting.{height_list}
use Rattle.ec_parse_laws.specs.Reading.{too_deep, Read, ◌>>=◌, first_is, leaf_if, many_up_to, many, behind_comma, ends, Inner, inside}
use Rattle.ec_parse_laws.specs.Reading.{begun, opened_at, within}
use Rattle.ec_parse_laws.specs.Passing.{Opened, High, PassesList}
use Rattle.ec_parse_laws.proofs.Basics.{inner_at}
use Rattle.ec_parse_laws.proofs.Past.{list_long}

-- a reader whose tree stands before `rest` in a list of `cap` tokens, where nesting passes the limit at the places of `Q`: it reads the
-- tree, and there is no such place; or it tells one at the tree's tokens, none is before it, and the tree does not fit
pub record Told {A : Type 0} (cap : ℕ) (Fits : Type 0) (Q : ℕ → Type 0) (r : Read A) (x : A) (rest : List Leaf) : Type 0 where
  pub past : length rest ≤ cap
  pub bound : (q : ℕ) → Q q → q ≤ suc cap
  pub answer : ((r ≡ Ok (x, rest)) × ((q : ℕ) → Q q → ⊥))
      ⊎ ((p : ℕ) × (r ≡ Err (too_deep p)) × (length rest < p) × ((q : ℕ) → Q q → q ≤ p) × (Fits → ⊥))

-- a tree of such a height and with so many constructs open at once, where there is such room and n may be opened
abbrev pub FitsIn : ℕ → ℕ → ℕ → ℕ → Type 0
FitsIn room n height opens = (height ≤ room) × (opens ≤ n)

abbrev pub Never : ℕ → Type 0
Never q = ⊥

abbrev pub Either : (ℕ → Type 0) → (ℕ → Type 0) → ℕ → Type 0
Either P Q q = P q ⊎ Q q

pub told_ok : {A F : Type 0} (cap : ℕ) (r : Read A) (x : A) (rest : List Leaf) → r ≡ Ok (x, rest) → length rest ≤ cap
    → Told cap F Never r x rest
told_ok cap r x rest e le = record { past = le; bound = λ q h. absurd h; answer = inl (e, λ q h. h) }

-- another way to say the places, and the same answer
pub told_map : {A F : Type 0} (cap : ℕ) (P Q : ℕ → Type 0) (r : Read A) (x : A) (rest : List Leaf) → ((q : ℕ) → P q → Q q)
    → Told cap F Q r x rest → Told cap F P r x rest
told_map cap P Q r x rest f h = record {
  past = h.past;
  bound = λ q p. h.bound q (f q p);
  answer = elim h.answer [ inl e ↦ inl (e.0, λ q p. e.1 q (f q p)) | inr e ↦ inr (e.0, e.1, e.2, λ q p. e.3 q (f q p), e.4) ];
}

-- a part of what fits
pub told_part : {A F G : Type 0} {cap : ℕ} {Q : ℕ → Type 0} {r : Read A} {x : A} {rest : List Leaf} → (F → G) → Told cap G Q r x rest
    → Told cap F Q r x rest
told_part f h = record {
  past = h.past;
  bound = h.bound;
  answer = elim h.answer [ inl e ↦ inl e | inr e ↦ inr (e.0, e.1, e.2, e.3, λ p. e.4 (f p)) ];
}

pub told_wide : {A F : Type 0} (c cap : ℕ) (Q : ℕ → Type 0) (r : Read A) (x : A) (rest : List Leaf) → c ≤ cap → Told c F Q r x rest
    → Told cap F Q r x rest
told_wide c cap Q r x rest le h = record {
  past = omega (arith, le, h.past);
  bound = λ q p. omega (arith, le, h.bound q p);
  answer = h.answer;
}

-- one part after another
pub told_bind : {A B F : Type 0} {c cap : ℕ} {P Q : ℕ → Type 0} (r : Read A) (f : A × List Leaf → Read B) (x : A) (mid : List Leaf) (y : B)
    (rest : List Leaf) → Told cap F P r x mid → Told c F Q (f (x, mid)) y rest → c ≤ length mid → Told cap F (Either P Q) (r >>= f) y rest
told_bind {c = c} {cap = cap} {P = P} {Q = Q} r f x mid y rest h k le = record {
  past = omega (arith, h.past, k.past, le);
  bound = λ q p. elim p [ inl a ↦ h.bound q a | inr b ↦ omega (arith, k.bound q b, h.past, le) ];
  answer = elim h.answer [
    | inl e ↦ elim k.answer [
      | inl d ↦ inl (rw e.0 d.0, λ q p. elim p [ inl a ↦ e.1 q a | inr b ↦ d.1 q b ])
      | inr d ↦ inr (d.0, rw e.0 d.1, d.2, λ q p. elim p [ inl a ↦ absurd (e.1 q a) | inr b ↦ d.3 q b ], d.4)
    ]
    | inr e ↦ inr (
      e.0,
      rw e.1 refl,
      omega (arith, k.past, le, e.2),
      λ q p. elim p [ inl a ↦ e.3 q a | inr b ↦ omega (arith, k.bound q b, le, e.2) ],
      e.4,
    )
  ];
}

-- what follows is answered at once
pub told_then : {A B F : Type 0} {cap : ℕ} {Q : ℕ → Type 0} (r : Read A) (f : A × List Leaf → Read B) (x : A) (mid : List Leaf) (y : B)
    (rest : List Leaf) → Told cap F Q r x mid → f (x, mid) ≡ Ok (y, rest) → length rest ≤ length mid → Told cap F Q (r >>= f) y rest
told_then r f x mid y rest h e le = record {
  past = omega (arith, h.past, le);
  bound = h.bound;
  answer = elim h.answer [ inl d ↦ inl (rw d.0 e, d.1) | inr d ↦ inr (d.0, rw d.1 refl, omega (arith, le, d.2), d.3, d.4) ];
}

-- a part that is always read
pub told_skip : {A B F : Type 0} {c cap : ℕ} {Q : ℕ → Type 0} (r : Read A) (f : A × List Leaf → Read B) (x : A) (mid : List Leaf) (y : B)
    (rest : List Leaf) → r ≡ Ok (x, mid) → Told c F Q (f (x, mid)) y rest → c ≤ cap → Told cap F Q (r >>= f) y rest
told_skip {F = F} {c = c} {cap = cap} {Q = Q} r f x mid y rest e k le =
    told_wide c cap Q (r >>= f) y rest le (subst (λ z. Told c F Q (z >>= f) y rest) (sym e) k)

-- ---- heights

-- at the end of a node that is too high for its room, and whose own height is counted apart
pub told_ends : {A F : Type 0} (cap room height : ℕ) (x : A) (rest : List Leaf) → (F → height ≤ room) → length rest ≤ cap
    → Told cap F Never (ends room height x rest) x rest
told_ends {F = F} cap room height x rest fits le = go (nat_lt room height) refl
  where
    go : (b : Bool) → nat_lt room height ≡ b → Told cap F Never (cond b (Err (too_deep (suc (length rest)))) (Ok (x, rest))) x rest
    go true e = record {
      past = le;
      bound = λ q h. absurd h;
      answer = inr (suc (length rest), refl, omega arith, λ q h. absurd h, λ f. omega (arith, ltb-true room height e, fits f));
    }
    go false e = record { past = le; bound = λ q h. absurd h; answer = inl (refl, λ q h. h) }

-- a last part, and the end of the node
pub told_ended : {A B F : Type 0} {cap : ℕ} {Q : ℕ → Type 0} (room height : ℕ) (r : Read A) (f : A × List Leaf
    → Read B) (x : A) (mid : List Leaf) (y : B) (rest : List Leaf) → (F → height ≤ room) → Told cap F Q r x mid
    → f (x, mid) ≡ ends room height y rest → length rest ≤ length mid → Told cap F Q (r >>= f) y rest
told_ended {F = F} {cap = cap} {Q = Q} room height r f x mid y rest fits h e le =
    let last : Told (length rest) F Never (f (x, mid)) y rest =
    subst (λ z. Told (length rest) F Never z y rest) (sym e) (told_ends (length rest) room height y rest fits (omega arith)) in
    told_map cap Q (Either Q Never) (r >>= f) y rest (λ q p. inl p) (told_bind r f x mid y rest h last le)

-- the node's own last token
pub told_high : {A F : Type 0} (limit height cap : ℕ) (Q : ℕ → Type 0) (r : Read A) (x : A) (rest : List Leaf)
    → (r ≡ Ok (x, rest) → height ≤ limit) → Told cap F Q r x rest → Told cap F (Either Q (High limit height rest)) r x rest
told_high limit height cap Q r x rest low h = record {
  past = h.past;
  bound = λ q p. elim p [ inl a ↦ h.bound q a | inr b ↦ omega (arith, b.1, h.past) ];
  answer = elim h.answer [
    | inl e ↦ inl (e.0, λ q p. elim p [ inl a ↦ e.1 q a | inr b ↦ omega (arith, b.0, low e.0) ])
    | inr e ↦ inr (e.0, e.1, e.2, λ q p. elim p [ inl a ↦ e.3 q a | inr b ↦ omega (arith, b.1, e.2) ], e.4)
  ];
}

right_two : (P Q R : ℕ → Type 0) (q : ℕ) → Either P (Either Q R) q → Either (Either P Q) R q
right_two P Q R q (inl a) = inl (inl a)
right_two P Q R q (inr (inl b)) = inl (inr b)
right_two P Q R q (inr (inr c)) = inr c

-- behind two parts, and behind three
pub told_high_two : {A F : Type 0} (limit height cap : ℕ) (P Q : ℕ → Type 0) (r : Read A) (x : A) (rest : List Leaf)
    → (r ≡ Ok (x, rest) → height ≤ limit) → Told cap F (Either P Q) r x rest
    → Told cap F (Either P (Either Q (High limit height rest))) r x rest
told_high_two limit height cap P Q r x rest low h =
    told_map cap (Either P (Either Q (High limit height rest))) (Either (Either P Q) (High limit height rest)) r x rest
    (right_two P Q (High limit height rest)) (told_high limit height cap (Either P Q) r x rest low h)

right_three : (P Q R S : ℕ → Type 0) (q : ℕ) → Either P (Either Q (Either R S)) q → Either (Either P (Either Q R)) S q
right_three P Q R S q (inl a) = inl (inl a)
right_three P Q R S q (inr (inl b)) = inl (inr (inl b))
right_three P Q R S q (inr (inr (inl c))) = inl (inr (inr c))
right_three P Q R S q (inr (inr (inr d))) = inr d

pub told_high_three : {A F : Type 0} (limit height cap : ℕ) (P Q R : ℕ → Type 0) (r : Read A) (x : A) (rest : List Leaf)
    → (r ≡ Ok (x, rest) → height ≤ limit) → Told cap F (Either P (Either Q R)) r x rest
    → Told cap F (Either P (Either Q (Either R (High limit height rest)))) r x rest
told_high_three limit height cap P Q R r x rest low h =
    told_map cap (Either P (Either Q (Either R (High limit height rest)))) (Either (Either P (Either Q R)) (High limit height rest)) r x
    rest (right_three P Q R (High limit height rest)) (told_high limit height cap (Either P (Either Q R)) r x rest low h)

-- a node with no part that passes
pub told_leaf : {A F : Type 0} (cap limit room height : ℕ) (x : A) (rest : List Leaf) → (F → height ≤ room) → room ≤ limit
    → length rest ≤ cap → Told cap F (High limit height rest) (ends room height x rest) x rest
told_leaf {F = F} cap limit room height x rest fits low le = go (nat_lt room height) refl
  where
    go : (b : Bool) → nat_lt room height ≡ b
        → Told cap F (High limit height rest) (cond b (Err (too_deep (suc (length rest)))) (Ok (x, rest))) x rest
    go true e = record {
      past = le;
      bound = λ q h. omega (arith, h.1, le);
      answer = inr (suc (length rest), refl, omega arith, λ q h. omega (arith, h.1), λ f. omega (arith, ltb-true room height e, fits f));
    }
    go false e = record {
      past = le;
      bound = λ q h. omega (arith, h.1, le);
      answer = inl (refl, λ q h. omega (arith, h.0, low, ltb-false room height e));
    }

-- ---- constructs

pub told_inside : {A F : Type 0} {cap : ℕ} (Inside : ℕ → ℕ → Type 0) (limit n : ℕ) (ts : List Leaf) (f : Inner
    → Read A) (y : A) (rest : List Leaf) → (F → 0 < n) → ((m : ℕ) → n ≡ suc m → Told (length ts) F (Inside m) (f (inner_at limit m)) y rest)
    → length ts ≤ cap → length rest ≤ length ts
    → Told cap F (λ q. Opened n (suc (length ts)) q (λ m. Inside m q)) (inside (within limit n) ts f) y rest
unfolding opened_at
told_inside {cap = cap} Inside limit zero ts f y rest fits h le past = record {
  past = omega (arith, le, past);
  bound = λ q e. omega (arith, e, le);
  answer = inr (suc (length ts), refl, omega (arith, past), λ q e. omega (arith, e), λ p. omega (arith, fits p));
}
told_inside {cap = cap} Inside limit (suc m) ts f y rest fits h le past = told_wide (length ts) cap (Inside m) _ y rest le (h m refl)

pub told_begun : {A F : Type 0} {cap : ℕ} (Inside : ℕ → ℕ → Type 0) (starts : Lexeme
    → Bool) (limit n : ℕ) (ts : List Leaf) (f : Inner → Read A) (y : A) (rest : List Leaf) → first_is starts ts ≡ true → (F → 0 < n)
    → ((m : ℕ) → n ≡ suc m → Told (length ts) F (Inside m) (f (inner_at limit m)) y rest) → length ts ≤ cap → length rest < length ts
    → Told cap F (λ q. Opened n (length ts) q (λ m. Inside m q)) (begun starts (within limit n) ts f) y rest
unfolding opened_at
told_begun {cap = cap} Inside starts limit zero ts f y rest e fits h le past = record {
  past = omega (arith, le, past);
  bound = λ q same. omega (arith, same, le);
  answer = inr (length ts, rw e refl, past, λ q same. omega (arith, same), λ p. omega (arith, fits p));
}
told_begun {cap = cap} Inside starts limit (suc m) ts f y rest e fits h le past =
    told_wide (length ts) cap (Inside m) _ y rest le (h m refl)

-- ---- lists

abbrev pub ToldAt : {A : Type 0} → ℕ → Type 0 → (ℕ → Type 0) → Option (Read A) → A → List Leaf → Type 0
ToldAt {A = A} cap F Q o x rest = (r : Read A) × (o ≡ Some r) × Told cap F Q r x rest

-- an item behind a comma
pub told_comma : {A B F : Type 0} {Q : ℕ → Type 0} (make : Spot → A → B) (item : List Leaf
    → Read A) (s : Spot) (ts : List Leaf) (x : A) (rest : List Leaf) → Told (length ts) F Q (item ts) x rest
    → ToldAt (length (mark s Comma ∷ ts)) F Q (behind_comma make item (mark s Comma ∷ ts)) (make s x) rest
unfolding leaf_if
told_comma {Q = Q} make item s ts x rest h = (
  _,
  refl,
  told_then (item ts) (λ y. Ok (make s y.0, y.1)) x rest (make s x) rest
      (told_wide (length ts) _ Q (item ts) x rest (omega arith) h) refl (omega arith),
)

-- each item of a list is told before those that follow it
abbrev pub ToldItems : {A : Type 0} → (List Leaf → Option (Read A)) → (A → List Leaf → List Leaf) → (A → List Leaf → ℕ → Type 0)
    → (A → Type 0) → List A → List Leaf → Type 0
ToldItems item of_one passes fits [] rest = ⊤
ToldItems item of_one passes fits (x ∷ xs) rest =
    ToldAt (length (of_one x (of_list of_one xs rest))) (fits x) (λ q. passes x (of_list of_one xs rest) q)
    (item (of_one x (of_list of_one xs rest))) x (of_list of_one xs rest) × ToldItems item of_one passes fits xs rest

told_up_to : {A F : Type 0} (item : List Leaf → Option (Read A)) (of_one : A → List Leaf → List Leaf) (passes : A → List Leaf
    → ℕ → Type 0) (fits : A → Type 0) (xs : List A) (rest : List Leaf) (n : ℕ) → length xs ≤ n → (F → Every fits xs)
    → ToldItems item of_one passes fits xs rest → item rest ≡ None
    → Told (length (of_list of_one xs rest)) F (λ q. PassesList of_one passes xs rest q)
    (many_up_to item n (of_list of_one xs rest)) xs rest
unfolding many_up_to
told_up_to item of_one passes fits [] rest zero le every all stop = told_ok _ _ [] rest refl (omega arith)
told_up_to item of_one passes fits [] rest (suc n) le every all stop = told_ok _ _ [] rest (rw stop refl) (omega arith)
told_up_to item of_one passes fits (x ∷ xs) rest zero le every all stop = absurd (omega (arith, le))
told_up_to item of_one passes fits (x ∷ xs) rest (suc n) le every all stop =
    rw all.0.1
    (told_bind all.0.0 (λ y. many_up_to item n y.1 >>= λ ys. Ok (y.0 ∷ ys.0, ys.1)) x (of_list of_one xs rest) (x ∷ xs) rest
    (told_part (λ f. (every f).0) all.0.2)
    (told_then (many_up_to item n (of_list of_one xs rest)) (λ ys. Ok (x ∷ ys.0, ys.1)) xs rest (x ∷ xs) rest
    (told_up_to item of_one passes fits xs rest n (omega (arith, le)) (λ f. (every f).1) all.1 stop) refl (omega arith)) (omega arith))

-- where all items fit
pub told_many : {A F : Type 0} (item : List Leaf → Option (Read A)) (of_one : A → List Leaf → List Leaf) (passes : A → List Leaf → ℕ
    → Type 0) (fits : A → Type 0) → ((x : A) (rest : List Leaf) → length rest < length (of_one x rest)) → (xs : List A) (rest : List Leaf)
    → (F → Every fits xs) → ToldItems item of_one passes fits xs rest → item rest ≡ None
    → Told (length (of_list of_one xs rest)) F (λ q. PassesList of_one passes xs rest q) (many item (of_list of_one xs rest)) xs rest
told_many item of_one passes fits long xs rest every all stop =
    told_up_to item of_one passes fits xs rest (length (of_list of_one xs rest)) (list_long of_one long xs rest) every all stop

-- each item of a list keeps to the greatest height in it, and to the most constructs that are open
pub every_fits : {A : Type 0} (height opens : A → ℕ) (room n : ℕ) (xs : List A)
    → FitsIn room n (height_list height xs) (height_list opens xs) → Every (λ x. FitsIn room n (height x) (opens x)) xs
every_fits height opens room n [] f = tt
every_fits height opens room n (x ∷ xs) f = (
  (omega (arith, f.0), omega (arith, f.1)),
  every_fits height opens room n xs (omega (arith, f.0), omega (arith, f.1)),
)

-- ---- chains: read up to here and to be gone on with, or told too deep

pub record Chain {A : Type 0} (cap : ℕ) (Q : ℕ → Type 0) (Fits : Type 0) (limit height : ℕ) (r : Read A) (on : ℕ → Read A)
    (rest : List Leaf) : Type 0 where
  pub past : length rest ≤ cap
  pub bound : (q : ℕ) → Q q → q ≤ suc cap
  pub low : Fits → height ≤ limit
  -- the count that is left and the height that was read are more than the limit
  pub answer : ((k : ℕ) × (r ≡ on k) × (suc (suc limit) ≤ k + height) × Fits × ((q : ℕ) → Q q → ⊥))
      ⊎ ((p : ℕ) × (r ≡ Err (too_deep p)) × (length rest < p) × ((q : ℕ) → Q q → q ≤ p) × (Fits → ⊥))

pub chain_begin : {A B : Type 0} {cap : ℕ} {Q : ℕ → Type 0} (Fits : Type 0) (limit height : ℕ) (r : Read A) (f : A × List Leaf
    → Read B) (on : ℕ → Read B) (x : A) (rest : List Leaf) → Told cap Fits Q r x rest → (r ≡ Ok (x, rest) → Fits) → (Fits → height ≤ limit)
    → f (x, rest) ≡ on (suc (suc limit))
    → Chain cap Q Fits limit height (r >>= f) on rest
chain_begin Fits limit height r f on x rest h fits low e = record {
  past = h.past;
  bound = h.bound;
  low = low;
  answer = elim h.answer [
    | inl d ↦ inl (suc (suc limit), rw d.0 e, omega arith, fits d.0, d.1)
    | inr d ↦ inr (d.0, rw d.1 refl, d.2, d.3, d.4)
  ];
}

-- one part more, which makes a node
pub chain_step : {A B : Type 0} {c cap : ℕ} {P Q : ℕ → Type 0} {Fits Fits_one : Type 0} (Fits_two : Type 0) (limit height higher : ℕ)
    (r : Read B) (on next : ℕ → Read B) (mid : List Leaf) (s : Read A) (g : ℕ → A × List Leaf → Read B) (z : A) (rest : List Leaf)
    → Chain cap P Fits limit height r on mid → Told c Fits_one Q s z rest → c ≤ length mid → ((k : ℕ) → on (suc k) ≡ (s >>= g k))
    → ((k : ℕ) → g k (z, rest) ≡ next k) → (Fits → s ≡ Ok (z, rest) → Fits_two) → (Fits_two → higher ≤ limit) → suc height ≤ higher
    → (Fits_two → Fits) → (Fits_two → Fits_one)
    → Chain cap (Either P (Either Q (High limit higher rest))) Fits_two limit higher r next rest
chain_step {Fits = Fits} Fits_two limit height higher r on next mid s g z rest h t le go stop fits low more back last = record {
  past = omega (arith, h.past, t.past, le);
  bound = λ q p. elim p [
    | inl a ↦ h.bound q a
    | inr (inl b) ↦ omega (arith, t.bound q b, h.past, le)
    | inr (inr b) ↦ omega (arith, b.1, t.past, h.past, le)
  ];
  low = low;
  answer = elim h.answer [
    | inl (zero, e, few, fit, none) ↦ absurd (omega (arith, few, h.low fit))
    | inl (suc k, e, few, fit, none) ↦ elim t.answer [
      | inl d ↦
          let ends_well : Fits_two = fits fit d.0 in
          inl (
            k,
            e ∙ go k ∙ rw d.0 (stop k),
            omega (arith, few, more),
            ends_well,
            λ q p. elim p [ inl a ↦ none q a | inr (inl b) ↦ d.1 q b | inr (inr b) ↦ omega (arith, b.0, low ends_well) ],
          )
      | inr d ↦ inr (
        d.0,
        e ∙ go k ∙ rw d.1 refl,
        d.2,
        λ q p. elim p [ inl a ↦ absurd (none q a) | inr (inl b) ↦ d.3 q b | inr (inr b) ↦ omega (arith, b.1, d.2) ],
        λ f. d.4 (last f),
      )
    ]
    | inr e ↦ inr (
      e.0,
      e.1,
      omega (arith, t.past, le, e.2),
      λ q p. elim p [
        | inl a ↦ e.3 q a
        | inr (inl b) ↦ omega (arith, t.bound q b, le, e.2)
        | inr (inr b) ↦ omega (arith, b.1, t.past, le, e.2)
      ],
      λ f. e.4 (back f),
    )
  ];
}

pub chain_map : {A : Type 0} (cap : ℕ) (P Q : ℕ → Type 0) (Fits : Type 0) (limit height : ℕ) (r : Read A) (on : ℕ
    → Read A) (rest : List Leaf) → ((q : ℕ) → P q → Q q) → Chain cap Q Fits limit height r on rest → Chain cap P Fits limit height r on rest
chain_map cap P Q Fits limit height r on rest f h = record {
  past = h.past;
  bound = λ q p. h.bound q (f q p);
  low = h.low;
  answer = elim h.answer [
    | inl e ↦ inl (e.0, e.1, e.2, e.3, λ q p. e.4 q (f q p))
    | inr e ↦ inr (e.0, e.1, e.2, λ q p. e.3 q (f q p), e.4)
  ];
}

-- nothing goes on
pub chain_end : {A : Type 0} {cap : ℕ} {Q : ℕ → Type 0} {Fits : Type 0} (limit height : ℕ) (r : Read A) (on : ℕ → Read A) (x : A)
    (rest : List Leaf) → Chain cap Q Fits limit height r on rest → ((k : ℕ) → on (suc k) ≡ Ok (x, rest)) → Told cap Fits Q r x rest
chain_end limit height r on x rest h stop = record {
  past = h.past;
  bound = h.bound;
  answer = elim h.answer [
    | inl (zero, e, few, fit, none) ↦ absurd (omega (arith, few, h.low fit))
    | inl (suc k, e, few, fit, none) ↦ inl (e ∙ stop k, none)
    | inr e ↦ inr e
  ];
}
