-- How many bytes of ports events read, one more event at a time.
use Rattle.std.proofs.Common.{◌≡◌, ◌≢◌, ℕ, ◌+◌, ◌<◌, List, [], ◌∷◌, ◌++◌, Bool, true, false, map, length, refl, sym, ap, ◌∙◌, arith}
use Rattle.std.specs.Prelude.{◌==◌, if◌then◌else◌, slice_index, slice_set}
use Rattle.std.proofs.lemmas.Bool.{eqb-true, eqb-false}
use Rattle.std.proofs.lemmas.List.{get_or-set_other, map-append}
use Rattle.std.proofs.lemmas.Grind.{get_or-set_at}
use Rattle.ec_core.specs.State.{Event as EventOf, In as InOf, Out as OutOf, Read as ReadOf, Write as WriteOf, reads_of}
use Rattle.ec_interp.specs.declared.behaviour.Event.{Event}
use Rattle.ec_interp.specs.Events.{seen_event, AreCounted}

-- events and one more
reads_with : (port : ℕ) (es : List EventOf) (e : EventOf) → reads_of port (es ++ e ∷ []) ≡ reads_of port es + reads_of port (e ∷ [])
reads_with port [] e = omega arith
reads_with port (InOf p byte ∷ es) e =
    counted (p == port) (reads_of port (es ++ e ∷ [])) (reads_of port es) (reads_of port (e ∷ [])) (reads_with port es e)
  where
    counted : (c : Bool) (l m n : ℕ) → l ≡ m + n → (if c then 1 + l else l) ≡ (if c then 1 + m else m) + n
    counted true l m n same = omega arith
    counted false l m n same = same
reads_with port (OutOf p byte ∷ es) e = reads_with port es e
reads_with port (ReadOf o k space v ∷ es) e = reads_with port es e
reads_with port (WriteOf o k space v ∷ es) e = reads_with port es e

-- one more that reads no counted byte
pub counted_without : (reads : List ℕ) (all new : List Event) (e : Event) → AreCounted reads (map seen_event all)
    → new ≡ all ++ e ∷ [] → ((port : ℕ) → port < 256 → reads_of port (seen_event e ∷ []) ≡ 0) → AreCounted reads (map seen_event new)
counted_without reads all new e counted is none port small =
    let before = counted port small in
    let more = reads_with port (map seen_event all) (seen_event e) in
    let nothing = none port small in
    let whole : map seen_event new ≡ map seen_event all ++ seen_event e ∷ [] = ap (map seen_event) is ∙ map-append seen_event all (e ∷ []) in
    let sum : slice_index reads port ≡ reads_of port (map seen_event all ++ seen_event e ∷ []) = omega (arith, before, more, nothing) in
    sum ∙ ap (reads_of port) (sym whole)

-- one more that reads a byte
pub counted_with : (reads : List ℕ) (all new : List Event) (e : Event) (p byte count : ℕ) → AreCounted reads (map seen_event all)
    → new ≡ all ++ e ∷ [] → seen_event e ≡ InOf p byte → p < 256 → p < length reads → count ≡ slice_index reads p + 1
    → AreCounted (slice_set reads p count) (map seen_event new)
counted_with reads all new e p byte count counted is read below inside next port small =
    let whole : map seen_event new ≡ map seen_event all ++ InOf p byte ∷ [] =
    ap (map seen_event) is ∙ map-append seen_event all (e ∷ []) ∙ ap (λ x. map seen_event all ++ x ∷ []) read in
    by_address (p == port) refl ∙ ap (reads_of port) (sym whole)
  where
    by_address : (c : Bool) → (p == port) ≡ c
        → slice_index (slice_set reads p count) port ≡ reads_of port (map seen_event all ++ InOf p byte ∷ [])
    by_address true same =
        let here : p ≡ port = eqb-true p port same in
        let set : slice_index (slice_set reads p count) port ≡ count = get_or-set_at reads p port count 0 (sym here) inside in
        let before : slice_index reads p ≡ reads_of port (map seen_event all) =
        counted p below ∙ ap (λ q. reads_of q (map seen_event all)) here in
        let one : reads_of port (InOf p byte ∷ []) ≡ 1 = ap (λ c. if c then 1 + 0 else 0) same in
        let more = reads_with port (map seen_event all) (InOf p byte) in
        omega (arith, set, next, before, one, more)
    by_address false other =
        let there : p ≢ port = eqb-false p port other in
        let set : slice_index (slice_set reads p count) port ≡ slice_index reads port =
        get_or-set_other reads p port count 0 (λ q. there (sym q)) in
        let before = counted port small in
        let none : reads_of port (InOf p byte ∷ []) ≡ 0 = ap (λ c. if c then 1 + 0 else 0) other in
        let more = reads_with port (map seen_event all) (InOf p byte) in
        omega (arith, set, before, none, more)
