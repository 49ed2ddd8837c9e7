-- Sites that are judged apart from what is known: the least fault there is then the lesser of both.
use Rattle.std.proofs.Common.{◌≡◌, ◌∙◌, refl, sym, ap, Bool, true, false, List, [], ◌∷◌, arith}
use Rattle.std.specs.Prelude.{if◌then◌else◌, is_some, Option, Some, None}
use Rattle.std.proofs.lemmas.Bool.Decides.{nat_tests}
use Rattle.ec_check_operands.specs.declared.faults.Fault.{Fault}
use Rattle.ec_check_operands.specs.Faults.{Judgement, is_before, lesser, judged, all_judged}
use Rattle.ec_check_declarations.specs.Sites.{Site, rules_at, told, is_told, Walked}

-- what is known with a fault that was told apart, if there was one
abbrev pub joined : Option Fault → Option Fault → Option Fault
joined known None = known
joined known (Some f) = lesser known f

before_chain : (x y k : Fault) → is_before x y ≡ true → is_before y k ≡ true → is_before x k ≡ true
before_chain x y k e h = grind (arith, nat_tests)

not_before_chain : (x y k : Fault) → is_before x y ≡ false → is_before y k ≡ false → is_before x k ≡ false
not_before_chain x y k e h = grind (arith, nat_tests)

chosen : (x k : Fault) (b : Bool) → is_before x k ≡ b → lesser (Some k) x ≡ (if b then Some x else Some k)
chosen x k b e = ap (λ (c : Bool). if c then Some x else Some k) e

-- the lesser of three, however they are joined
three : (k y x : Fault) (b c : Bool) → is_before y k ≡ b → is_before x y ≡ c
    → lesser (if b then Some y else Some k) x ≡ joined (Some k) (if c then Some x else Some y)
three k y x true true e h = chosen x y true h ∙ sym (chosen x k true (before_chain x y k h e))
three k y x true false e h = chosen x y false h ∙ sym (chosen y k true e)
three k y x false true e h = refl
three k y x false false e h = chosen x k false (not_before_chain x y k h e) ∙ sym (chosen y k false e)

two : (y x : Fault) (c : Bool) → (if c then Some x else Some y) ≡ joined None (if c then Some x else Some y)
two y x true = refl
two y x false = refl

lesser_joined : (known g : Option Fault) (x : Fault) → lesser (joined known g) x ≡ joined known (lesser g x)
lesser_joined known None x = refl
lesser_joined None (Some y) x = two y x (is_before x y)
lesser_joined (Some k) (Some y) x = three k y x (is_before y k) (is_before x y) refl refl

one_joined : (known g : Option Fault) (x : Fault) (b : Bool)
    → (if b then lesser (joined known g) x else joined known g) ≡ joined known (if b then lesser g x else g)
one_joined known g x true = lesser_joined known g x
one_joined known g x false = refl

all_joined : (known g : Option Fault) (js : List Judgement) → all_judged (joined known g) js ≡ joined known (all_judged g js)
all_joined known g [] = refl
all_joined known g (j ∷ js) =
    ap (λ z. all_judged z js) (one_joined known g (record { at = j.at; rule = j.rule }) j.broken) ∙ all_joined known (judged g j) js

told_joined : (known g : Option Fault) (ss : List Site) → told (joined known g) ss ≡ joined known (told g ss)
told_joined known g [] = refl
told_joined known g (s ∷ ss) =
    ap (λ z. told z ss) (all_joined known g (rules_at s)) ∙ told_joined known (all_judged g (rules_at s)) ss

module _ {A B : Type 0} {old new : Option Fault} {sites : List Site → List Site} {x v : A} (known : Option Fault) (f : A → Option B)
    (w : Walked old new sites x v) (fresh : old ≡ None) where
  noted_apart : (rest : List Site) → told (joined known new) rest ≡ told known (sites rest)
  noted_apart rest =
      told_joined known new rest
      ∙ ap (joined known) (w.noted rest ∙ ap (λ z. told z (sites rest)) fresh)
      ∙ sym (told_joined known None (sites rest))

  -- a fault was told exactly where one is told at the sites
  told_apart : is_told (sites []) ≡ is_some new
  told_apart = ap is_some (sym (w.noted [] ∙ ap (λ z. told z (sites [])) fresh))

  -- where nothing was told, what the part means stands
  pub unbroken_apart : (r : Option B) → new ≡ None → r ≡ f x → Walked known known sites r (if is_told (sites []) then None else f v)
  unbroken_apart r e h = record {
    meant = h ∙ ap f w.meant ∙ sym (ap (λ (b : Bool). if b then None else f v) (told_apart ∙ ap is_some e));
    noted = λ rest. sym (ap (λ z. told (joined known z) rest) e) ∙ noted_apart rest;
  }

  -- a fault is noted, and then nothing is meant
  pub broken_apart : (after : Option Fault) (fault : Fault) → new ≡ Some fault → after ≡ lesser known fault
      → Walked known after sites None (if is_told (sites []) then None else f v)
  broken_apart after fault e h = record {
    meant = sym (ap (λ (b : Bool). if b then None else f v) (told_apart ∙ ap is_some e));
    noted = λ rest. ap (λ z. told z rest) h ∙ sym (ap (λ z. told (joined known z) rest) e) ∙ noted_apart rest;
  }
