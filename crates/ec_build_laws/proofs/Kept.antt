-- What is kept of a trace whose accesses are allowed is what is noted of it.
use Rattle.std.proofs.Common.{◌≡◌, ⊎_elim, ℕ, ◌≤◌, Bool, true, false, List, [], ◌∷◌, ◌++◌, map, refl, sym, ap, ◌∙◌}
use Rattle.std.proofs.Common.{subst, arith}
use Rattle.std.specs.Prelude.{nat_lt, if◌then◌else◌}
use Rattle.std.specs.List.{AllByRecursion}
use Rattle.std.proofs.lemmas.Bool.{or_cases, or_left, or_right, false_from_ne_true, false≢true}
use Rattle.ec_space.specs.Memory.{flash_size}
use Rattle.ec_space.specs.declared.space.Bank.TheVariants.{Flash as FlashBank, Data as DataBank}
use Rattle.ec_avr.specs.declared.machine.Access.{Access}
use Rattle.ec_avr.specs.declared.machine.Access.TheVariants.{Silent, In, Out, Read, Write, Stack}
use Rattle.ec_asm.specs.Change.{Kind, Own, Object, Port, Stacked, Page, Barred}
use Rattle.ec_asm.specs.Pieces.{is_held}
use Rattle.ec_asm.specs.Shows.{if_object, noted, noted_all}
use Rattle.ec_asm.specs.declared.items.AsmProgram.{AsmProgram}
use Rattle.ec_core.specs.Plain.{PlainFunction, PlainProgram}
use Rattle.ec_core.specs.Needs.{stmt_need}
use Rattle.ec_core.specs.PortTable.{plain_table}
use Rattle.ec_asm_accesses.specs.Allowed.{IsAllowed}
use Rattle.ec_ir.specs.Operations.{PlainIrFunction}
use Rattle.ec_lower_code.specs.Code.{lowered_function}
use Rattle.ec_map.specs.declared.map.Map.{Map}
use Rattle.ec_locate.specs.Entries.{work_size}
use Rattle.ec_locate.specs.Placing.{scratch_needs}
use Rattle.ec_locate.specs.declared.placing.Located.{Located}
use Rattle.ec_build_laws.specs.Kinds.{is_byte_of, is_of_scratch, kinds}
use Rattle.ec_build_laws.specs.Laws.{IsOwnByte, of_register, of_scratch, of_work, AreKinds}
use Rattle.ec_build_laws.specs.Translation.{IsTranslated}
use Rattle.ec_build_laws.specs.Whole.{is_own_byte, unless, kept_of, kept}
use Rattle.ec_build_laws.proofs.ByAddress.{byte_there, byte_told, scratch_there, scratch_told, core_is_low}
use Rattle.ec_build_laws.proofs.Watched.{watched_kinds, watched_tables, watched, watched_as, watched_was}

-- the scratch memory that code has is what its functions need
needs_are : (p : PlainProgram) (m : Map) (fs : List PlainFunction)
    → map (λ (g : PlainIrFunction). g.slots) (map (lowered_function p (plain_table m.io)) fs)
    ≡ map (λ (f : PlainFunction). stmt_need f.body) fs
needs_are p m [] = refl
needs_are p m (f ∷ fs) = ap (λ ns. stmt_need f.body ∷ ns) (needs_are p m fs)

pub frames_are_needs : (p : PlainProgram) (m : Map) (asm : AsmProgram) (l : Located) → IsTranslated p m asm l → asm.frames.items
    ≡ scratch_needs p
frames_are_needs p m asm l h = h.shortened.frames ∙ h.selection.frames ∙ needs_are p m p.functions

module _ (p : PlainProgram) (m : Map) (asm : AsmProgram) (l : Located) (are : AreKinds p m asm l)
    (frames : asm.frames.items ≡ scratch_needs p) where
  abbrev scratch : ℕ → Bool
  scratch a = is_of_scratch (scratch_needs p) l.frames.items a

  abbrev work : ℕ → Bool
  work a = is_byte_of l.work (work_size m.io) a

  -- ---- bytes that are code's own

  is_own : (a : ℕ) → 256 ≤ a → IsOwnByte m asm l a → is_own_byte p m l a ≡ true
  is_own a high (of_register b core other) = let low = core_is_low m.core a core in absurd (omega (arith, low, high))
  is_own a high (of_scratch b f frame at is there from below) =
      or_left (scratch a) (work a)
      (subst (λ ns. is_of_scratch ns l.frames.items a ≡ true) frames
      (scratch_there asm.frames.items l.frames.items a f frame at is there from below))
  is_own a high (of_work b from below) = or_right (scratch a) (work a) (byte_there l.work (work_size m.io) a from below)

  pub own_is : (a : ℕ) → is_own_byte p m l a ≡ true → kinds p m asm l a ≡ Own
  own_is a h =
      ⊎_elim
      (λ u. let f = scratch_told asm.frames.items l.frames.items a
      (subst (λ ns. is_of_scratch ns l.frames.items a ≡ true) (sym frames) u) in
      are.scratch f.f f.frame f.at a f.is f.there f.from_there f.below)
      (λ u. let w = byte_told l.work (work_size m.io) a u in are.work a w.0 w.1)
      (or_cases (scratch a) (work a) h)

  -- what is dropped
  pub dropped : (a : ℕ) → 256 ≤ a → watched_kinds p m asm l a ≡ Own → is_own_byte p m l a ≡ true
  dropped a high q = is_own a high (are.own_told a (watched_was p m asm l a Own q (λ z. cc)))

  -- and what is not
  pub stays : (a : ℕ) → watched_kinds p m asm l a ≡ Object → is_own_byte p m l a ≡ false
  stays a q =
      false_from_ne_true (is_own_byte p m l a)
      (λ own. let other = watched_as p m asm l a Own (own_is a own) (λ z. cc) in let no : Object ≡ Own = sym q ∙ other in cc)

  -- ---- traces

  in_memory : (x : Access) (a : ℕ) → 256 ≤ a → is_held (watched_kinds p m asm l a) ≡ true
      → if_object (watched_kinds p m asm l a) x ≡ unless (is_own_byte p m l a) x
  in_memory x a high held = by_kind (watched_kinds p m asm l a) refl held where
    by_kind : (k : Kind) → watched_kinds p m asm l a ≡ k → is_held k ≡ true → if_object k x ≡ unless (is_own_byte p m l a) x
    by_kind Own q h = rw (dropped a high q) refl
    by_kind Object q h = rw (stays a q) refl
    by_kind Port q h = absurd (false≢true h)
    by_kind Stacked q h = absurd (false≢true h)
    by_kind Page q h = absurd (false≢true h)
    by_kind Barred q h = absurd (false≢true h)

  in_flash : (x : Access) (a : ℕ) → is_held (watched_tables m a) ≡ true → if_object (watched_tables m a) x ≡ x ∷ []
  in_flash x a held = by_test (nat_lt a (flash_size m.core)) held where
    by_test : (b : Bool) → (let k : Kind = if b then Object else Barred in is_held k) ≡ true → if_object (if b then Object else Barred) x
        ≡ x ∷ []
    by_test true h = refl
    by_test false h = absurd (false≢true h)

  kept_one : (x : Access) → IsAllowed (watched p m asm l) x → noted (watched p m asm l) x ≡ kept_of p m l x
  kept_one Silent h = refl
  kept_one (In port byte) h = refl
  kept_one (Out port byte) h = refl
  kept_one (Read DataBank at byte) h = in_memory (Read DataBank at byte) at h.0 h.1
  kept_one (Read FlashBank at byte) h = in_flash (Read FlashBank at byte) at h
  kept_one (Write at byte) h = in_memory (Write at byte) at h.0 h.1
  kept_one Stack h = refl

  pub kept_is_noted : (trace : List Access) → AllByRecursion (IsAllowed (watched p m asm l)) trace
      → noted_all (watched p m asm l) trace ≡ kept p m l trace
  kept_is_noted [] h = refl
  kept_is_noted (x ∷ trace) h =
      ap (λ z. z ++ noted_all (watched p m asm l) trace) (kept_one x h.0) ∙ ap (λ z. kept_of p m l x ++ z) (kept_is_noted trace h.1)
