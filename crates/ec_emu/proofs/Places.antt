-- Where the line of a port stands.
use Rattle.std.proofs.Common.{◌≡◌, ◌∙◌, ◌==◌, ℕ, Bool, true, false, List, length, Some, None, not, refl, sym, ap, arith, cond}
use Rattle.std.proofs.lemmas.Bool.{ltb-false}
use Rattle.std.proofs.lemmas.List.Folds.{find_at}
use Rattle.std.proofs.lemmas.List.Sums.{prefix_len-le-length}
use Rattle.std.specs.Prelude.{nat_lt, slice_get, unwrap_or}
use Rattle.std.specs.List.{position_or_len}
use Rattle.ec_emu.specs.declared.script.ScriptLine.{ScriptLine}
use Rattle.ec_emu.specs.Scripted.{line_of, place_of}

place : {X : Type 0} → (p : X → Bool) (xs : List X) (found : Bool) → nat_lt (position_or_len p xs) (length xs) ≡ found
    → unwrap_or (cond found (Some (position_or_len p xs)) None) (length xs) ≡ position_or_len p xs
place p xs true is = refl
place p xs false is =
    let all : length xs ≡ position_or_len p xs =
    omega (arith, prefix_len-le-length (λ x. not (p x)) xs, ltb-false (position_or_len p xs) (length xs) is) in
    all

pub at_place : (port : ℕ) (lines : List ScriptLine) → slice_get lines (place_of port lines) ≡ line_of port lines
at_place port lines =
    ap (slice_get lines)
    (place (λ line. line.port == port) lines (nat_lt (position_or_len (λ line. line.port == port) lines) (length lines)) refl)
    ∙ sym (find_at (λ line. line.port == port) lines)
