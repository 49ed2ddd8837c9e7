-- A run whose files are accepted, with no risen count, is made unless memory runs out.
use Rattle.std.proofs.Common.{◌≡◌, ◌≤◌, ◌<◌, ◌∙◌, ℕ, List, [], Some, None, Result, Ok, Err, refl, sym, ap, subst, arith, inl, inr, ◌⊎◌}
use Rattle.std.specs.Prelude.{Option, OnOk, IfErr, length, unwrap_or}
use Rattle.std.specs.FinMap.{get}
use Rattle.ec_io.specs.Causes.{Rose}
use Rattle.ec_io.specs.Disk.{Disk}
use Rattle.ec_avr.specs.declared.machine.Access.{Access}
use Rattle.ec_emu.specs.declared.run.EmuEnd.{EmuEnd}
use Rattle.ec_emu.specs.declared.run.EmuEnd.TheVariants as ends
use Rattle.ec_emu.specs.Forms.{Form}
use Rattle.ec_emu.specs.Script.{AreKept, BreaksAt, core_of_text, forms_of}
use Rattle.ec_hex.specs.Denotes.{Denotes}
use Rattle.ec_space.specs.declared.Core.{Core}
use Rattle.ec_io.specs.Views.{StoreView, SinkCall, store_view}
use Rattle.ec_commands.specs.Answers.{IsTold, IsLeft}
use Rattle.ec_commands.specs.Runs.{Gives, AcceptsRun, CanRun, StopsReadingInputs, HasTextFault, StopsLoading, StopsRunning, RunStops, Shows}
use Rattle.ec_commands.specs.Stops.{status_of}
use Rattle.ec_commands.specs.Words.{Words, IsNumber, hex_name, script_name}
use Rattle.ec_commands.specs.declared.stop.Limit.TheVariants.{HexBytes, ScriptBytes}
use Rattle.ec_commands.specs.declared.stop.CommandError.{CommandError}
use Rattle.ec_commands.specs.declared.stop.CommandError.TheVariants.{CannotRead, CannotWrite, TooMany, Fault, StepsOut}

pub same_number : (digits : List ℕ) (most n m : ℕ) → IsNumber digits most n → IsNumber digits most m → n ≡ m
same_number digits most n m a b = sym a.value ∙ b.value

-- ---- answers by status

pub by_status : {Stop : Type 0} (status_of : Stop → ℕ) (line_of : Stop → List ℕ) (P : ℕ → Type 0) (Q : Type 0) (err : SinkCall)
    (calm : ℕ → Type 0) (r : Result Unit Stop) (status : ℕ)
    → OnOk r ((status ≡ 0) × Q) → IfErr r (λ stop. IsTold (status_of stop) (line_of stop) err calm status)
    → IfErr r (λ stop. P (status_of stop)) → (status ≡ 0) ⊎ P status
by_status status_of line_of P Q err calm (Ok x) status zero told all = inl zero.0
by_status status_of line_of P Q err calm (Err stop) status zero told all = inr (subst P (sym told.is) all)

-- ---- no other stop

one_text : {A : Type 0} (found : Option A) (x y : A) → found ≡ Some x → found ≡ Some y → x ≡ y
one_text found x y a b = cc

not_past : (found : Option (List ℕ)) (text : List ℕ) (most : ℕ) → found ≡ Some text → length text ≤ most
    → most < length (unwrap_or found []) → ⊥
not_past None text most here fits past = omega (arith, past)
not_past (Some bytes) text most here fits past =
    let same : bytes ≡ text = cc in
    omega (arith, fits, past, ap (λ (b : List ℕ). length b) same)

no_reading_stop : (words : Words) (disk : Disk) (read written received : ℕ) (missed : Option (List ℕ)) (new : StoreView) (stop : CommandError)
    → AcceptsRun words disk.files → ¬ (Rose read new.read_faults)
    → StopsReadingInputs words (store_view (Some disk) read written received missed) new stop → ⊥
no_reading_stop words disk read written received missed new (CannotRead i) accepted calm (inl h) = calm h.1.rose
no_reading_stop words disk read written received missed new (CannotRead i) accepted calm (inr h) = calm h.1.rose
no_reading_stop words disk read written received missed new (TooMany HexBytes) accepted calm h =
    not_past (get disk.files (hex_name words)) accepted.text 1048576 accepted.hex accepted.hex_fits h.0
no_reading_stop words disk read written received missed new (TooMany ScriptBytes) accepted calm h =
    not_past (get disk.files (script_name words)) accepted.lines 65536 accepted.script accepted.script_fits h.0.1
no_reading_stop words disk read written received missed new _ accepted calm h = h

pub not_broken : (core : Core) (forms : List Form) (line rule : ℕ) → AreKept core forms → BreaksAt core forms line rule → ⊥
not_broken core forms line rule kept breaks = let e = sym (kept breaks.n breaks.form breaks.at) ∙ breaks.breaks in cc

no_text_fault : (words : Words) (disk : Disk) (text lines : List ℕ) (stop : CommandError) → (accepted : AcceptsRun words disk.files)
    → text ≡ accepted.text → lines ≡ accepted.lines
    → HasTextFault text lines stop → ⊥
no_text_fault words disk text lines stop accepted hex script (inl h) =
    h.none accepted.image.0 accepted.image.1.0
    (subst (λ (t : List ℕ). Denotes (core_of_text lines) t accepted.image.0 accepted.image.1.0) (sym hex)
    (subst (λ (l : List ℕ). Denotes (core_of_text l) accepted.text accepted.image.0 accepted.image.1.0) (sym script) accepted.image.1.1))
no_text_fault words disk text lines stop accepted hex script (inr h) =
    not_broken (core_of_text lines) (forms_of lines) h.1.line h.1.rule
    (subst (λ (l : List ℕ). AreKept (core_of_text l) (forms_of l)) (sym script) accepted.kept) h.1.fault

-- a stop that tells how a run ended
pub shown_stop : (old new : Option (List ℕ)) (end : EmuEnd) (trace : List Access) (stop : CommandError)
    → Shows old new end trace (Some stop)
    → (stop ≡ CannotWrite) ⊎ IsLeft (status_of stop)
shown_stop old new (ends.Ended n) trace CannotWrite h = inl refl
shown_stop old new (ends.Ended n) trace _ h = absurd h
shown_stop old new ends.WriteFault trace CannotWrite h = inl refl
shown_stop old new ends.WriteFault trace _ h = absurd h
shown_stop old new ends.StepsOut trace StepsOut h = inr (inr (inr refl))
shown_stop old new ends.StepsOut trace _ h = absurd h
shown_stop old new (ends.Fault kind pc) trace (Fault k p) h = inr (inr (inl refl))
shown_stop old new (ends.Fault kind pc) trace _ h = absurd h

left_loading : (words : Words) (disk : Disk) (read written received : ℕ) (missed : Option (List ℕ)) (new : StoreView) (stop : CommandError)
    → AcceptsRun words disk.files → ¬ (Rose read new.read_faults)
    → StopsLoading words (store_view (Some disk) read written received missed) new stop → IsLeft (status_of stop)
left_loading words disk read written received missed new stop accepted calm (inl e) = inl (ap status_of e)
left_loading words disk read written received missed new stop accepted calm (inr (inl h)) =
    absurd (no_reading_stop words disk read written received missed new stop accepted calm h)
left_loading words disk read written received missed new stop accepted calm (inr (inr h)) =
    absurd
    (no_text_fault words disk h.0 h.1 stop accepted (one_text (get disk.files (hex_name words)) h.0 accepted.text h.2.0.hex accepted.hex)
    (one_text (get disk.files (script_name words)) h.1 accepted.lines h.2.0.script accepted.script) h.2.1)

left_running : (words : Words) (steps fill : ℕ) (hooks : Gives) (disk : Option Disk) (out : SinkCall) (stop : CommandError)
    → ¬ (Rose out.faults_before out.faults_after)
    → StopsRunning words steps fill hooks disk out stop → IsLeft (status_of stop)
left_running words steps fill hooks disk out stop calm h = elim (shown_stop out.before out.after h.0.report.end h.0.trace stop h.0.shows) [
  | inl e ↦ absurd (calm (h.1 e))
  | inr left ↦ left
]

pub left_of : (words : Words) (steps fill : ℕ) (hooks : Gives) (disk : Option Disk) (read written received : ℕ) (missed : Option (List ℕ)) (new : StoreView)
    (out : SinkCall) (stop : CommandError) → CanRun words disk
    → ¬ (Rose read new.read_faults) → ¬ (Rose out.faults_before out.faults_after)
    → RunStops words steps fill hooks (store_view disk read written received missed) new out stop → IsLeft (status_of stop)
left_of words steps fill hooks None read written received missed new out stop accepted calm out_calm h = absurd accepted
left_of words steps fill hooks (Some disk) read written received missed new out stop accepted calm out_calm (inl h) =
    left_loading words disk read written received missed new stop accepted calm h.0
left_of words steps fill hooks (Some disk) read written received missed new out stop accepted calm out_calm (inr h) =
    left_running words steps fill hooks (Some disk) out stop out_calm h
