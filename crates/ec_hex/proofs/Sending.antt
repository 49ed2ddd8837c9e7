-- A text that goes out in parts.
use Rattle.std.proofs.Math.Seq.{take-add}
use Rattle.std.proofs.lemmas.List.{take-append-le, take-append-drop, drop-drop, drop_at}
use Rattle.std.proofs.Common.{◌≡◌, ◌+◌, ◌-◌, ◌≤◌, ◌<◌, ℕ, List, [], ◌++◌, length, take, drop, Some, None, sym, ap, ◌∙◌, subst, refl, arith}
use Rattle.std.proofs.Common.{append_assoc, append-nil, length-append, length-drop}
use Rattle.std.proofs.Math.Seq.{take-append_seam}
use Rattle.std.specs.Prelude.{Option, Result, Ok, Err}
use Rattle.ec_io.specs.declared.write.Written.{Written}
use Rattle.ec_hex.specs.Steps.{WritesOn}
use Rattle.std.specs.Io.KnownBytes.{Appends}

-- so many bytes of the whole went out, and this is left
pub record Sent (old now : Option (List ℕ)) (done : ℕ) (left whole : List ℕ) : Type 0 where
  pub out : Appends old now (take done whole)
  pub split : drop done whole ≡ left

appends_more : (a b c : Option (List ℕ)) (xs ys : List ℕ) → Appends a b xs → Appends b c ys → Appends a c (xs ++ ys)
appends_more None b c xs ys first then = tt
appends_more (Some x) None c xs ys first then = absurd first
appends_more (Some x) (Some y) None xs ys first then = absurd then
appends_more (Some x) (Some y) (Some z) xs ys first then = rw (then, first) (append_assoc x xs ys)

pub sent-on : (old mid new : Option (List ℕ)) (done : ℕ) (line left whole : List ℕ)
    → Sent old mid done (line ++ left) whole → Appends mid new line → Sent old new (done + length line) left whole
sent-on old mid new done line left whole sent went =
    let front : take (done + length line) whole ≡ take done whole ++ line =
    take-add done (length line) whole ∙ ap (λ (xs : List ℕ). take done whole ++ take (length line) xs) sent.split
    ∙ ap (λ (xs : List ℕ). take done whole ++ xs) (take-append_seam line left) in
    record {
      out = subst (λ xs. Appends old new xs) (sym front) (appends_more old mid new (take done whole) line sent.out went);
      split = sym (drop-drop (length line) done whole) ∙ ap (λ (xs : List ℕ). drop (length line) xs) sent.split
          ∙ drop_at line left (length line) refl;
    }

pub sent-fits : (old now : Option (List ℕ)) (done room : ℕ) (line left whole : List ℕ)
    → Sent old now done (line ++ left) whole → length whole ≤ room → length line ≤ room - done
sent-fits old now done room line left whole sent fits =
    omega (arith, ap length sent.split, length-drop done whole, length-append line left)

-- a line that went out in part
pub sent-front : (old mid new : Option (List ℕ)) (done n : ℕ) (line left whole : List ℕ)
    → Sent old mid done (line ++ left) whole → n < length line → Appends mid new (take n line)
    → (done + n < length whole) × Appends old new (take (done + n) whole)
sent-front old mid new done n line left whole sent within went =
    let front : take (done + n) whole ≡ take done whole ++ take n line =
    take-add done n whole ∙ ap (λ (xs : List ℕ). take done whole ++ take n xs) sent.split
    ∙ ap (λ (xs : List ℕ). take done whole ++ xs) (take-append-le n line left (omega arith)) in (
      omega (arith, ap length sent.split, length-drop done whole, length-append line left),
      subst (λ xs. Appends old new xs) (sym front) (appends_more old mid new (take done whole) (take n line) sent.out went),
    )

pub sent-all : (old new : Option (List ℕ)) (done : ℕ) (whole : List ℕ) → Sent old new done [] whole → Appends old new whole
sent-all old new done whole sent =
    subst (λ xs. Appends old new xs) (sym (append-nil (take done whole)) ∙ ap (λ (xs : List ℕ). take done whole ++ xs) (sym sent.split)
    ∙ take-append-drop done whole) sent.out

pub sent-length : (old now : Option (List ℕ)) (done : ℕ) (line whole : List ℕ)
    → Sent old now done (line ++ []) whole → 0 < length line → length whole ≡ done + length line
sent-length old now done line whole sent some =
    omega (arith, ap length sent.split, length-drop done whole, length-append line [])

pub sent-none : (now : Option (List ℕ)) (whole : List ℕ) → Sent now now 0 whole whole
sent-none None whole = record { out = tt; split = refl }
sent-none (Some xs) whole = record { out = sym (append-nil xs); split = refl }

-- two lines that go out one after the other
pub writes-both : (done after : ℕ) (old mid new : Option (List ℕ)) (r : Result ℕ Written) (first second : List ℕ)
    → (after ≡ done + length first) × Appends old mid first → WritesOn after mid new r second → WritesOn done old new r (first ++ second)
writes-both done after old mid new (Ok end) first second went then = (
  omega (arith, went.0, then.0, length-append first second),
  appends_more old mid new first second went.1 then.1,
)
writes-both done after old mid new (Err e) first second went then =
    let (n, count, within, out) = then in
    let front : first ++ take n second ≡ take (length first + n) (first ++ second) =
    sym (take-add (length first) n (first ++ second) ∙ ap (λ (xs : List ℕ). xs ++ take n (drop (length first) (first ++ second)))
    (take-append_seam first second) ∙ ap (λ (xs : List ℕ). first ++ take n xs) (drop_at first second (length first) refl)) in (
      length first + n,
      omega (arith, went.0, count),
      omega (arith, within, length-append first second),
      subst (λ xs. Appends old new xs) front (appends_more old mid new first (take n second) went.1 out),
    )
