-- What two numbers of a placed program name can be live at one moment.
use Rattle.std.proofs.Common.{◌≡◌, inl, inr, ◌+◌, ◌<◌, ◌≤◌, ℕ, length, subst, arith}
use Rattle.std.specs.Prelude.{IsSomeAnd}
use Rattle.std.proofs.lemmas.Option.{slice_get_past}
use Rattle.ec_check_recursion.specs.Rows.{rows_of_program, LeadsTo}
use Rattle.ec_core.specs.Plain.{PlainObject, PlainProgram}
use Rattle.ec_overlay.specs.Objects.{AreOnChain}
use Rattle.ec_locate.specs.DataBank.{IsOwnedBy, IsLocalOf, CanBeLive}

module _ (p : PlainProgram) (count : length p.objects ≤ 1_024) where
  -- numbers from 1024 on are of no object
  no_local : (f n : ℕ) → 1024 ≤ n → IsLocalOf p f n → ⊥
  no_local f n high h =
      let none = slice_get_past p.objects n (omega (arith, high, count)) in
      subst (λ o. IsSomeAnd o (λ (x : PlainObject). IsOwnedBy f x.storage)) none h

  pub object_first : (o n : ℕ) → o < 1024 → 1024 ≤ n → CanBeLive p o n
  object_first o n low high = record {
    locals = λ f g a b. absurd (no_local g n high b);
    scratch = λ f g l r e z. absurd (omega (arith, low, e));
  }

  pub object_last : (n o : ℕ) → 1024 ≤ n → o < 1024 → CanBeLive p n o
  object_last n o high low = record {
    locals = λ f g a b. absurd (no_local f n high a);
    scratch = λ f g l r e z. absurd (omega (arith, low, z));
  }

  pub scratch_and_work : (f : ℕ) → length p.functions ≤ 256 → CanBeLive p (1024 + f) 1280
  scratch_and_work f few = record {
    locals = λ a b c d. absurd (no_local b 1280 (omega arith) d);
    scratch = λ a b l r e z. absurd (omega (arith, few, r, z));
  }

  pub scratch_on_chain : (f k : ℕ) → LeadsTo (rows_of_program p) k f → CanBeLive p (1024 + f) (1024 + k)
  scratch_on_chain f k leads = record {
    locals = λ a b c d. absurd (no_local a (1024 + f) (omega arith) c);
    scratch = λ a b l r e z.
        let mine : f ≡ a = omega (arith, e) in
        let other : k ≡ b = omega (arith, z) in
        subst (λ x. AreOnChain (rows_of_program p) a x) other
        (subst (λ x. AreOnChain (rows_of_program p) x k) mine (inr (inl leads)));
  }
