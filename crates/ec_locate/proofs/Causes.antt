-- Each refusal has its cause, and the first one is told.
use Rattle.std.proofs.Common.{◌≡◌, ◌⊎◌, inl, inr, Some, None, sym, ◌∙◌}
use Rattle.ec_asm.specs.declared.items.AsmProgram.{AsmProgram}
use Rattle.ec_core.specs.Plain.{PlainProgram}
use Rattle.ec_map.specs.declared.map.Fixed1.{Fixed1}
use Rattle.ec_map.specs.declared.map.Map.{Map}
use Rattle.ec_locate.specs.Placing.{shortage, without_object, clash, IsStop, IsMemory, IsShort, IsWithoutObject, StopsHaveCauses}
use Rattle.ec_locate.specs.declared.needs.Shortage.{Shortage}
use Rattle.ec_locate.specs.declared.stop.PlaceStop.{PlaceStop}
use Rattle.ec_locate.specs.declared.stop.PlaceStop.TheVariants.{TooSmall, NoSuchObject, Clash, NoMemory}

none : (p : PlainProgram) (m : Map) (asm : AsmProgram) (stop : PlaceStop) → IsStop p m asm stop
    → shortage p m asm ≡ None → without_object p m ≡ None → clash p m ≡ None → IsMemory stop
none p m asm (TooSmall region needed available) h a b c = cc
none p m asm (NoSuchObject name) h a b c = let told = rw b at h.1 in cc
none p m asm (Clash name other) h a b c = rw c at h.2
none p m asm NoMemory h a b c = tt

short : (p : PlainProgram) (m : Map) (asm : AsmProgram) (stop : PlaceStop) (s : Shortage) → IsStop p m asm stop
    → shortage p m asm ≡ Some s → IsMemory stop ⊎ IsShort (Some s) stop
short p m asm (TooSmall region needed available) s h a = inr (sym a ∙ h)
short p m asm (NoSuchObject name) s h a = let no = h.0 in cc
short p m asm (Clash name other) s h a = let no = h.0 in cc
short p m asm NoMemory s h a = inl tt

missed : (p : PlainProgram) (m : Map) (asm : AsmProgram) (stop : PlaceStop) (place : Fixed1) → IsStop p m asm stop
    → shortage p m asm ≡ None → without_object p m ≡ Some place → IsMemory stop ⊎ IsWithoutObject (Some place) stop
missed p m asm (TooSmall region needed available) place h a b = cc
missed p m asm (NoSuchObject name) place h a b = inr (rw b at h.1)
missed p m asm (Clash name other) place h a b = let no = h.1 in cc
missed p m asm NoMemory place h a b = inl tt

pub stops-have-causes : StopsHaveCauses
stops-have-causes = record { none = none; short = short; missed = missed }
