-- Addresses that are moved.
use Rattle.std.proofs.Common.{◌≡◌, ◌+◌, ℕ, Bool, true, false, refl, sym, Option, Some, None, nat_lt, arith}
use Rattle.std.proofs.lemmas.Bool.Decides.{nat_tests}
use Rattle.ec_check_initialisers.specs.declared.places.StaticAddress.{StaticAddress}
use Rattle.ec_check_initialisers.specs.Places.{moved}

module _ (size : ℕ) (a : StaticAddress) (x y : ℕ) where
  stopped : (b c : Bool) → nat_lt size (a.offset + x) ≡ true → nat_lt size (a.offset + (x + y)) ≡ b → moved size (Some a) (x + y) ≡ None
  stopped true c h e = rw e refl
  stopped false c h e = grind (arith, nat_tests, h, e)

  onward : (b : Bool) → nat_lt size (a.offset + x) ≡ b → moved size (moved size (Some a) x) y ≡ moved size (Some a) (x + y)
  onward true e = rw e (sym (stopped (nat_lt size (a.offset + (x + y))) true e refl))
  onward false e =
      let same : a.offset + x + y ≡ a.offset + (x + y) = omega arith in
      rw (e, same) refl

-- a move behind a move
pub moved_moved : (size : ℕ) (a : Option StaticAddress) (x y : ℕ) → moved size (moved size a x) y ≡ moved size a (x + y)
moved_moved size None x y = refl
moved_moved size (Some a) x y = onward size a x y (nat_lt size (a.offset + x)) refl
