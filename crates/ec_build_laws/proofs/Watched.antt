-- Where all bytes are noted that are neither code's own nor the stack's.
use Rattle.std.proofs.Common.{◌≡◌, ◌≢◌, ℕ, ◌<◌, ◌≤◌, Bool, true, false, refl, sym, subst, length}
use Rattle.std.specs.Prelude.{nat_lt, ◌||◌, if◌then◌else◌}
use Rattle.std.proofs.lemmas.Bool.{lt-ltb, le-ltb, ltb-true, ltb-false}
use Rattle.ec_space.specs.Memory.{flash_size, data_size}
use Rattle.ec_asm.specs.Change.{Env, Kind, Own, Object, Port, Stacked, Page, Barred}
use Rattle.ec_asm.specs.Shows.{Fits, may_be, in_flash}
use Rattle.ec_asm.specs.declared.items.AsmProgram.{AsmProgram}
use Rattle.ec_core.specs.Plain.{PlainProgram}
use Rattle.ec_map.specs.declared.map.Map.{Map}
use Rattle.ec_locate.specs.declared.placing.Located.{Located}
use Rattle.ec_build_laws.specs.Kinds.{is_byte_of, is_of_objects, is_of_scratch, register_kind, memory_kind, kinds, environment_of}
use Rattle.ec_space.specs.declared.space.Bank.TheVariants.{Data}
use Rattle.ec_space.specs.Bytes.{AreBytes}
use Rattle.ec_locate.specs.Entries.{work_size}
use Rattle.ec_locate.specs.Placing.{IsLocated}
use Rattle.ec_build_laws.specs.Laws.{AreKinds, AreLaidOut}
use Rattle.ec_build_laws.specs.Translation.{IsTranslated}
use Rattle.ec_build_laws.proofs.ByAddress.{register_may_be, is_of_memory, memory_may_be, memory_is_so, flash_length}
use Rattle.ec_build_laws.proofs.Ends.{data_high}
use Rattle.ec_build_laws.proofs.Laid.{PlacedLaws, HasKinds, are_kinds_of, laid_out}

-- ---- kinds

abbrev pub if_barred : Kind → Kind
if_barred Barred = Object
if_barred kind = kind

-- what stands at each data address, where all bytes of memory are noted that are neither code's own nor the stack's
abbrev pub watched_kinds : PlainProgram → Map → AsmProgram → Located → ℕ → Kind
watched_kinds p m asm l a =
    if nat_lt a 256 then register_kind m.core a
    else if nat_lt a (data_size m.core) then if_barred (memory_kind p m asm l a) else Barred

-- and at each address of flash, where all bytes are noted
abbrev pub watched_tables : Map → ℕ → Kind
watched_tables m a = if nat_lt a (flash_size m.core) then Object else Barred

abbrev pub watched : PlainProgram → Map → AsmProgram → Located → Env
watched p m asm l = environment_of p m asm l (watched_kinds p m asm l) (watched_tables m)

stays : (x k : Kind) → x ≡ k → k ≢ Barred → if_barred x ≡ k
stays Own k q other = q
stays Object k q other = q
stays Port k q other = q
stays Stacked k q other = q
stays Page k q other = q
stays Barred k q other = absurd (other (sym q))

was : (x k : Kind) → if_barred x ≡ k → k ≢ Object → x ≡ k
was Own k q other = q
was Object k q other = q
was Port k q other = q
was Stacked k q other = q
was Page k q other = q
was Barred k q other = absurd (other (sym q))

never_barred : (x : Kind) → if_barred x ≡ Barred → ⊥
never_barred Own q = cc
never_barred Object q = cc
never_barred Port q = cc
never_barred Stacked q = cc
never_barred Page q = cc
never_barred Barred q = cc

module _ (p : PlainProgram) (m : Map) (asm : AsmProgram) (l : Located) where
  -- no byte of memory is barred
  pub none_barred : (a : ℕ) → 256 ≤ a → a < data_size m.core → watched_kinds p m asm l a ≡ Barred → ⊥
  none_barred a high low q =
      never_barred (memory_kind p m asm l a)
      (rw (le-ltb a 256 high, lt-ltb a (data_size m.core) low) at q)

  -- what is not barred stays as it is
  pub watched_as : (a : ℕ) (k : Kind) → kinds p m asm l a ≡ k → k ≢ Barred → watched_kinds p m asm l a ≡ k
  watched_as a k q other = by_tests (nat_lt a 256) (nat_lt a (data_size m.core)) q where
    by_tests : (b c : Bool) → (if b then register_kind m.core a else if c then memory_kind p m asm l a else Barred) ≡ k
        → (if b then register_kind m.core a else if c then if_barred (memory_kind p m asm l a) else Barred) ≡ k
    by_tests true c q = q
    by_tests false true q = stays (memory_kind p m asm l a) k q other
    by_tests false false q = q

  -- and what is no object's was so
  pub watched_was : (a : ℕ) (k : Kind) → watched_kinds p m asm l a ≡ k → k ≢ Object → kinds p m asm l a ≡ k
  watched_was a k q other = by_tests (nat_lt a 256) (nat_lt a (data_size m.core)) q where
    by_tests : (b c : Bool) → (if b then register_kind m.core a else if c then if_barred (memory_kind p m asm l a) else Barred) ≡ k
        → (if b then register_kind m.core a else if c then memory_kind p m asm l a else Barred) ≡ k
    by_tests true c q = q
    by_tests false true q = was (memory_kind p m asm l a) k q other
    by_tests false false q = q

  -- ---- that they suit

  stays_so : (x : Kind) → is_of_memory x ≡ true → is_of_memory (if_barred x) ≡ true
  stays_so Own n = n
  stays_so Object n = n
  stays_so Port n = n
  stays_so Stacked n = n
  stays_so Page n = n
  stays_so Barred n = refl

  watched_may_be : (a : ℕ) → may_be m.core (watched_kinds p m asm l a) (data_size m.core) a ≡ true
  watched_may_be a = by_tests (nat_lt a 256) (nat_lt a (data_size m.core)) refl refl where
    by_tests : (b c : Bool) → nat_lt a 256 ≡ b → nat_lt a (data_size m.core) ≡ c
        → may_be m.core (if b then register_kind m.core a else if c then if_barred (memory_kind p m asm l a) else Barred)
        (data_size m.core) a ≡ true
    by_tests true c q r = register_may_be m.core (data_size m.core) a (ltb-true a 256 q)
    by_tests false true q r =
        memory_may_be m.core (if_barred (memory_kind p m asm l a)) (data_size m.core) a
        (stays_so (memory_kind p m asm l a) (memory_is_so (is_of_objects Data p.structs p.objects l.places.items a)
        (is_of_scratch asm.frames.items l.frames.items a || is_byte_of l.work (work_size m.io) a)
        (is_byte_of m.stack.first m.stack.size a)))
        (ltb-false a 256 q) (ltb-true a (data_size m.core) r)
    by_tests false false q r = refl

  watched_in_flash : (n a : ℕ) → n ≡ flash_size m.core → in_flash (watched_tables m a) n a ≡ true
  watched_in_flash n a size = by_test (nat_lt a (flash_size m.core)) refl where
    by_test : (b : Bool) → nat_lt a (flash_size m.core) ≡ b → in_flash (if b then Object else Barred) n a ≡ true
    by_test true q = subst (λ k. nat_lt a k ≡ true) (sym size) q
    by_test false q = refl

  pub watched_fits : IsLocated p m asm l → AreBytes l.image.bytes.items → Fits (watched p m asm l) (data_size m.core)
  watched_fits located bytes = record {
    ports = data_high m.core;
    kinds = watched_may_be;
    table = λ a. watched_in_flash (length l.image.bytes.items) a (flash_length p m asm l located);
    code = bytes;
    base = λ below. (refl, refl);
  }

  -- ---- that code can stand

  pub watched_has_kinds : AreKinds p m asm l → HasKinds p m asm l (watched_kinds p m asm l) (watched_tables m)
  watched_has_kinds are = record {
    page = λ has. watched_as 0x5B Page (are.page has) (λ q. cc);
    registers = λ a core seen other. watched_as a Own (are.registers a core seen other) (λ q. cc);
    objects = λ a i o q h named. watched_as a Object (are.objects a i o q h named) (λ q. cc);
    scratch = λ f frame at a is there from below. watched_as a Own (are.scratch f frame at a is there from below) (λ q. cc);
    work = λ a from below. watched_as a Own (are.work a from below) (λ q. cc);
    stack = λ a low high. watched_as a Stacked (are.stack a low high) (λ q. cc);
    initials = λ a low told. rw (lt-ltb a (flash_size m.core) low) refl;
    tables = λ a i o q low b. rw (lt-ltb a (flash_size m.core) low) refl;
  }

pub watched_are_laid_out : PlacedLaws → (p : PlainProgram) (m : Map) (asm : AsmProgram) (l : Located) → (h : IsTranslated p m asm l)
    → AreLaidOut p m h.selected asm l (watched p m asm l)
watched_are_laid_out laws p m asm l h =
    laid_out laws p m asm l h (watched_kinds p m asm l) (watched_tables m) (watched_has_kinds p m asm l (are_kinds_of laws p m asm l h))
