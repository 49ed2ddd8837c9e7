-- Walks one after another.
use Rattle.std.proofs.Common.{◌≡◌, ◌∙◌, ap, subst, List, ◌∷◌}
use Rattle.std.specs.Prelude.{Option, false}
use Rattle.ec_check_operands.specs.declared.faults.Fault.{Fault}
use Rattle.ec_check_operands.specs.Faults.{Judgement, all_judged}
use Rattle.ec_grammar.specs.Trees as t
use Rattle.ec_core.specs.Plain.{PlainStmt, PlainStmts}
use Rattle.ec_check_names.specs.declared.specifiers.Specified.{Specified}
use Rattle.ec_check_expressions.specs.Known.{Known}
use Rattle.ec_check_declarations.specs.Declarators.{ObjectDeclared, object_declared, object_sites}
use Rattle.ec_check_declarations.specs.Scopes.{Scope}
use Rattle.ec_check_declarations.specs.Sites.{Site, on, told, Walked}
use Rattle.ec_check_statements.specs.Walks.{WalkedThrough, WalkedOn}

-- a part, and then one that declares nothing
pub then : {A B : Type 0} {f g h : Option Fault} {first : List Site → List Site} {x v : A} {z : B} {s s' : Scope}
    (second : A → Scope → List Site → List Site)
    (form : A → Scope → B) → WalkedThrough f g first x v s s' → Walked g h (second x s) z (form x s)
    → WalkedThrough f h (λ rest. first (second v s' rest)) z (form v s') s s'
then {A} {B} {f} {g} {h} {first} {x} {v} {z} {s} {s'} second form a b =
    let c = subst (λ (y : A). Walked g h (second y s) z (form y s)) a.meant b in
    let d = subst (λ (u : Scope). Walked g h (second v u) z (form v u)) a.scope c in
    record { meant = d.meant; scope = a.scope; noted = λ rest. d.noted rest ∙ a.noted (second v s' rest) }

-- statements behind others, and then more
pub on_and_on : {f g h : Option Fault} {first : List Site → List Site} {a b d : Option (List PlainStmt)}
    {m : Option PlainStmts → Option PlainStmts} {p p' q : Scope}
    (second : Scope → List Site → List Site) (n : Scope → Option PlainStmts → Option PlainStmts) (next : Scope → Scope)
    → WalkedOn f g first a b m p p' → WalkedOn g h (second p) b d (n p) q (next p)
    → WalkedOn f h (λ rest. first (second p' rest)) a d (λ rest. m (n p' rest)) q (next p')
on_and_on {f} {g} {h} {first} {a} {b} {d} {m} {p} {p'} {q} second n next x y =
    let z = subst (λ (u : Scope). WalkedOn g h (second u) b d (n u) q (next u)) x.scope y in
    record { meant = λ rest. z.meant rest ∙ x.meant (n p' rest); scope = z.scope; noted = λ rest. z.noted rest ∙ x.noted (second p' rest) }

-- what was judged before, and statements behind others
pub judged_and_on : {f g h : Option Fault} {sites : List Site → List Site} {a b : Option (List PlainStmt)}
    {m : Option PlainStmts → Option PlainStmts} {p q : Scope}
    (js : List Judgement) → ((rest : List Site) → told g rest ≡ told f (on js ∷ rest)) → WalkedOn g h sites a b m p q
    → WalkedOn f h (λ rest. on js ∷ sites rest) a b m p q
judged_and_on {f} {g} {h} {sites} {a} {b} {m} {p} {q} js e w = record {
  meant = w.meant;
  scope = w.scope;
  noted = λ rest. w.noted rest ∙ e (sites rest);
}

-- the same of one part
pub judged_and_through : {A : Type 0} {f g h : Option Fault} {sites : List Site → List Site} {x v : A} {p q : Scope}
    (js : List Judgement) → ((rest : List Site) → told g rest ≡ told f (on js ∷ rest)) → WalkedThrough g h sites x v p q
    → WalkedThrough f h (λ rest. on js ∷ sites rest) x v p q
judged_and_through {A} {f} {g} {h} {sites} {x} {v} {p} {q} js e w = record {
  meant = w.meant;
  scope = w.scope;
  noted = λ rest. w.noted rest ∙ e (sites rest);
}

-- a declarator, and what is judged at its name
pub declared_and_named : {f g h : Option Fault} {k l : Known} {x : ObjectDeclared} (said : Specified) (d : t.Declarator)
    (start : Option t.Start) (js : List Judgement)
    → k ≡ l → Walked f g (object_sites k false said d start) x (object_declared k said d start) → h ≡ all_judged g js
    → Walked f h (λ rest. object_sites l false said d start (on js ∷ rest)) x (object_declared l said d start)
declared_and_named {f} {g} {h} {k} {l} {x} said d start js same w e =
    let v = subst (λ (k : Known). Walked f g (object_sites k false said d start) x (object_declared k said d start)) same w in
    record { meant = v.meant; noted = λ rest. ap (λ z. told z rest) e ∙ v.noted (on js ∷ rest) }

-- a part, and two that declare nothing
pub then_two : {A B C D : Type 0} {f g h i : Option Fault} {first : List Site → List Site} {x v : A} {y : B} {z : C} {w : D} {s s' : Scope}
    (second third : Scope → List Site → List Site) (b : Scope → B) (c : Scope → C) (form : A → B → C → D)
    → WalkedThrough f g first x v s s' → Walked g h (second s) y (b s) → Walked h i (third s) z (c s) → w ≡ form x y z
    → WalkedThrough f i (λ rest. first (second s' (third s' rest))) w (form v (b s') (c s')) s s'
then_two {A} {B} {C} {D} {f} {g} {h} {i} {first} {x} {v} {y} {z} {w} {s} {s'} second third b c form p q r e =
    let q' = subst (λ (u : Scope). Walked g h (second u) y (b u)) p.scope q in
    let r' = subst (λ (u : Scope). Walked h i (third u) z (c u)) p.scope r in
    record {
      meant = e ∙ ap (λ u. form u y z) p.meant ∙ ap (λ u. form v u z) q'.meant ∙ ap (form v (b s')) r'.meant;
      scope = p.scope;
      noted = λ rest. r'.noted rest ∙ q'.noted (third s' rest) ∙ p.noted (second s' (third s' rest));
    }
