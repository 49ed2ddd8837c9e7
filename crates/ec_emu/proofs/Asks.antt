-- What ports were asked, step by step.
use Rattle.std.specs.Prelude.{Option}
use Rattle.std.proofs.Common.{◌≡◌, List, [], ◌∷◌, ◌++◌, Some, None, inl, inr, refl, sym, ap, ◌∙◌, append_assoc, append-nil}
use Rattle.ec_avr.specs.declared.machine.Access.{Access}
use Rattle.ec_avr.specs.declared.machine.Access.TheVariants.{Silent, In, Out, Read, Write, Stack}
use Rattle.ec_emu.specs.Answers.{Answered, answered, ask_after, asks_after, asks_of, WereAsked}

pub asked_nothing : (old : Option (List Answered)) → WereAsked old old []
asked_nothing None = refl
asked_nothing (Some asks) = inr (ap Some (sym (append-nil asks)))

pub asked_more : (old mid new : Option (List Answered)) (first then : List Answered) → WereAsked old mid first
    → WereAsked mid new then → WereAsked old new (first ++ then)
asked_more None None new first then a b = b
asked_more None (Some mid) new first then a b = cc
asked_more (Some old) None new first then a b = inl b
asked_more (Some old) (Some mid) new first then (inl a) b = cc
asked_more (Some old) (Some mid) new first then (inr a) (inl b) = inl b
asked_more (Some old) (Some mid) new first then (inr a) (inr b) =
    let is : mid ≡ old ++ first = cc in
    inr (b ∙ ap (λ (l : List Answered). Some (l ++ then)) is ∙ ap Some (append_assoc old first then))

-- the asks of two traces
asks-append : (before xs ys : List Access) → asks_after before (xs ++ ys) ≡ asks_after before xs ++ asks_after (before ++ xs) ys
asks-append before [] ys = ap (λ (l : List Access). asks_after l ys) (sym (append-nil before))
asks-append before (Silent ∷ xs) ys = asks-append (before ++ Silent ∷ []) xs ys
    ∙ ap (λ (l : List Access). asks_after (before ++ Silent ∷ []) xs ++ asks_after l ys) (append_assoc before (Silent ∷ []) xs)
asks-append before (In p b ∷ xs) ys =
    ap (λ (l : List Answered). answered (ask_after before p) b ∷ l)
    (asks-append (before ++ In p b ∷ []) xs ys
    ∙ ap (λ (l : List Access). asks_after (before ++ In p b ∷ []) xs ++ asks_after l ys) (append_assoc before (In p b ∷ []) xs))
asks-append before (Out p b ∷ xs) ys = asks-append (before ++ Out p b ∷ []) xs ys
    ∙ ap (λ (l : List Access). asks_after (before ++ Out p b ∷ []) xs ++ asks_after l ys) (append_assoc before (Out p b ∷ []) xs)
asks-append before (Read bank at b ∷ xs) ys =
    asks-append (before ++ Read bank at b ∷ []) xs ys
    ∙ ap (λ (l : List Access). asks_after (before ++ Read bank at b ∷ []) xs ++ asks_after l ys)
    (append_assoc before (Read bank at b ∷ []) xs)
asks-append before (Write at b ∷ xs) ys =
    asks-append (before ++ Write at b ∷ []) xs ys
    ∙ ap (λ (l : List Access). asks_after (before ++ Write at b ∷ []) xs ++ asks_after l ys) (append_assoc before (Write at b ∷ []) xs)
asks-append before (Stack ∷ xs) ys = asks-append (before ++ Stack ∷ []) xs ys
    ∙ ap (λ (l : List Access). asks_after (before ++ Stack ∷ []) xs ++ asks_after l ys) (append_assoc before (Stack ∷ []) xs)

-- one access more
pub asks-on : (trace : List Access) (a : Access) → asks_of (trace ++ a ∷ []) ≡ asks_of trace ++ asks_after trace (a ∷ [])
asks-on trace a = asks-append [] trace (a ∷ [])
