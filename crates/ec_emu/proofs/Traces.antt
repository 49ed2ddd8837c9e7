-- Traces in two parts.
use Rattle.std.specs.Prelude.{if◌then◌else◌, slice_get}
use Rattle.std.proofs.lemmas.Bool.{cases_order}
use Rattle.std.proofs.lemmas.List.{take-append-le, take_at}
use Rattle.std.proofs.lemmas.Option.{slice_get_within}
use Rattle.std.proofs.Common.{◌≡◌, ◌+◌, ◌≤◌, ◌<◌, ◌==◌, ◌⊎◌, ℕ, zero, suc, Bool, true, false, List, [], ◌∷◌, ◌++◌, length, take, Some, refl}
use Rattle.std.proofs.Common.{sym, ap, ◌∙◌, subst, arith, inl, inr, append_assoc, length-append}
use Rattle.ec_avr.specs.declared.machine.Access.{Access}
use Rattle.ec_avr.specs.declared.machine.Access.TheVariants.{Silent, In, Out, Read, Write, Stack}
use Rattle.ec_avr.specs.Inputs.{reads_of}
use Rattle.ec_emu.specs.declared.ask.Ask.{Ask}
use Rattle.ec_emu.specs.Answers.{last_written, ask_after, AreGiven, reads_in, writes_in}
use Rattle.ec_emu.specs.Lines.{port_line, port_lines}

pub reads_of-append : (port : ℕ) (xs ys : List Access) → reads_of port (xs ++ ys) ≡ reads_of port xs + reads_of port ys
reads_of-append port [] ys = omega arith
reads_of-append port (Silent ∷ xs) ys = reads_of-append port xs ys
reads_of-append port (In p byte ∷ xs) ys =
    more (p == port) (reads_of port (xs ++ ys)) (reads_of port xs) (reads_of port ys) (reads_of-append port xs ys)
  where
    more : (same : Bool) (n a b : ℕ) → n ≡ a + b → (if same then 1 + n else n) ≡ (if same then 1 + a else a) + b
    more true n a b e = omega (arith, e)
    more false n a b e = e
reads_of-append port (Out p byte ∷ xs) ys = reads_of-append port xs ys
reads_of-append port (Read bank at byte ∷ xs) ys = reads_of-append port xs ys
reads_of-append port (Write at byte ∷ xs) ys = reads_of-append port xs ys
reads_of-append port (Stack ∷ xs) ys = reads_of-append port xs ys

pub reads_of_within : (port : ℕ) (xs : List Access) → reads_of port xs ≤ length xs
reads_of_within port [] = omega arith
reads_of_within port (Silent ∷ xs) = omega (arith, reads_of_within port xs)
reads_of_within port (In p byte ∷ xs) = more (p == port) (reads_of port xs) (length xs) (reads_of_within port xs)
  where
    more : (same : Bool) (n m : ℕ) → n ≤ m → (if same then 1 + n else n) ≤ suc m
    more true n m le = omega (arith, le)
    more false n m le = omega (arith, le)
reads_of_within port (Out p byte ∷ xs) = omega (arith, reads_of_within port xs)
reads_of_within port (Read bank at byte ∷ xs) = omega (arith, reads_of_within port xs)
reads_of_within port (Write at byte ∷ xs) = omega (arith, reads_of_within port xs)
reads_of_within port (Stack ∷ xs) = omega (arith, reads_of_within port xs)

pub last_written-append : (byte port : ℕ) (xs ys : List Access)
    → last_written byte port (xs ++ ys) ≡ last_written (last_written byte port xs) port ys
last_written-append byte port [] ys = refl
last_written-append byte port (Silent ∷ xs) ys = last_written-append byte port xs ys
last_written-append byte port (In p b ∷ xs) ys = last_written-append byte port xs ys
last_written-append byte port (Out p b ∷ xs) ys = last_written-append (if p == port then b else byte) port xs ys
last_written-append byte port (Read bank at b ∷ xs) ys = last_written-append byte port xs ys
last_written-append byte port (Write at b ∷ xs) ys = last_written-append byte port xs ys
last_written-append byte port (Stack ∷ xs) ys = last_written-append byte port xs ys

pub reads_in-append : (xs ys : List Access) → reads_in (xs ++ ys) ≡ reads_in xs + reads_in ys
reads_in-append [] ys = omega arith
reads_in-append (Silent ∷ xs) ys = reads_in-append xs ys
reads_in-append (In p byte ∷ xs) ys = omega (arith, reads_in-append xs ys)
reads_in-append (Out p byte ∷ xs) ys = reads_in-append xs ys
reads_in-append (Read bank at byte ∷ xs) ys = reads_in-append xs ys
reads_in-append (Write at byte ∷ xs) ys = reads_in-append xs ys
reads_in-append (Stack ∷ xs) ys = reads_in-append xs ys

pub writes_in-append : (xs ys : List Access) → writes_in (xs ++ ys) ≡ writes_in xs + writes_in ys
writes_in-append [] ys = omega arith
writes_in-append (Silent ∷ xs) ys = writes_in-append xs ys
writes_in-append (In p byte ∷ xs) ys = writes_in-append xs ys
writes_in-append (Out p byte ∷ xs) ys = omega (arith, writes_in-append xs ys)
writes_in-append (Read bank at byte ∷ xs) ys = writes_in-append xs ys
writes_in-append (Write at byte ∷ xs) ys = writes_in-append xs ys
writes_in-append (Stack ∷ xs) ys = writes_in-append xs ys

pub reads_in_within : (xs : List Access) → reads_in xs ≤ length xs
reads_in_within [] = omega arith
reads_in_within (Silent ∷ xs) = omega (arith, reads_in_within xs)
reads_in_within (In p byte ∷ xs) = omega (arith, reads_in_within xs)
reads_in_within (Out p byte ∷ xs) = omega (arith, reads_in_within xs)
reads_in_within (Read bank at byte ∷ xs) = omega (arith, reads_in_within xs)
reads_in_within (Write at byte ∷ xs) = omega (arith, reads_in_within xs)
reads_in_within (Stack ∷ xs) = omega (arith, reads_in_within xs)

pub writes_in_within : (xs : List Access) → writes_in xs ≤ length xs
writes_in_within [] = omega arith
writes_in_within (Silent ∷ xs) = omega (arith, writes_in_within xs)
writes_in_within (In p byte ∷ xs) = omega (arith, writes_in_within xs)
writes_in_within (Out p byte ∷ xs) = omega (arith, writes_in_within xs)
writes_in_within (Read bank at byte ∷ xs) = omega (arith, writes_in_within xs)
writes_in_within (Write at byte ∷ xs) = omega (arith, writes_in_within xs)
writes_in_within (Stack ∷ xs) = omega (arith, writes_in_within xs)

pub port_lines-append : (xs ys : List Access) → port_lines (xs ++ ys) ≡ port_lines xs ++ port_lines ys
port_lines-append [] ys = refl
port_lines-append (a ∷ xs) ys =
    ap (λ (l : List ℕ). port_line a ++ l) (port_lines-append xs ys) ∙ sym (append_assoc (port_line a) (port_lines xs) (port_lines ys))

pub slice_get-front : {X : Type 0} (xs ys : List X) (n : ℕ) → n < length xs → slice_get (xs ++ ys) n ≡ slice_get xs n
slice_get-front [] ys n below = absurd (omega (arith, below))
slice_get-front (x ∷ xs) ys zero below = refl
slice_get-front (x ∷ xs) ys (suc n) below = slice_get-front xs ys n (omega (arith, below))

pub slice_get-seam : {X : Type 0} (xs : List X) (y : X) (ys : List X) → slice_get (xs ++ y ∷ ys) (length xs) ≡ Some y
slice_get-seam [] y ys = refl
slice_get-seam (x ∷ xs) y ys = slice_get-seam xs y ys

-- what one more access adds to the answers that may be given
abbrev pub IsNext : (Ask → ℕ → Type 0) → List Access → Access → Type 0
IsNext gives trace a = (port byte : ℕ) → a ≡ In port byte → gives (ask_after trace port) byte

pub given_on : (gives : Ask → ℕ → Type 0) (trace : List Access) (a : Access) → AreGiven gives trace → IsNext gives trace a
    → AreGiven gives (trace ++ a ∷ [])
given_on gives trace a given next n port byte at = either (cases_order n (length trace))
  where
    either : (n ≡ length trace) ⊎ ((n < length trace) ⊎ (length trace < n)) → gives (ask_after (take n (trace ++ a ∷ [])) port) byte
    either (inl same) =
        let here : a ≡ In port byte = cc (ap (λ (k : ℕ). slice_get (trace ++ a ∷ []) k) same, slice_get-seam trace a [], at) in
        let front : take n (trace ++ a ∷ []) ≡ trace = take_at trace (a ∷ []) n (sym same) in
        subst (λ (before : List Access). gives (ask_after before port) byte) (sym front) (next port byte here)
    either (inr (inl below)) =
        subst (λ (before : List Access). gives (ask_after before port) byte) (sym (take-append-le n trace (a ∷ []) (omega (arith, below))))
        (given n port byte (sym (slice_get-front trace (a ∷ []) n below) ∙ at))
    either (inr (inr above)) =
        absurd (omega (arith, above, slice_get_within (trace ++ a ∷ []) n (In port byte) at, length-append trace (a ∷ [])))
