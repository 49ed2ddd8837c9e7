-- The causes of the parts are causes of the whole, and what is accepted has none.
use Rattle.std.proofs.Common.{◌≡◌, ℕ, List, refl, sym, subst, inl, inr}
use Rattle.ec_grammar.specs.Trees as t
use Rattle.ec_asm.specs.declared.items.AsmProgram.{AsmProgram}
use Rattle.ec_asm_based.specs.declared.reach.Reach.{Reach}
use Rattle.ec_core.specs.Plain.{PlainProgram}
use Rattle.ec_map.specs.declared.map.Map.{Map}
use Rattle.ec_build.specs.Accepted.{IsAccepted}
use Rattle.ec_build.specs.Builds.{IsRead, IsChecked}
use Rattle.ec_build.specs.MapTexts.{IsMapText, StopsMap}
use Rattle.ec_build.specs.Places.{StopsPlacing}
use Rattle.ec_build.specs.Placing.{HasCauseOfPlacing}
use Rattle.ec_build.specs.Causes.{StopsChecking, HasCause}
use Rattle.ec_build.specs.Code.{IsShortCodeOf}
use Rattle.ec_build.specs.Stops.{StopsReading}
use Rattle.ec_build.specs.declared.stop.BuildStop.{BuildStop}
use Rattle.ec_build.specs.declared.stop.BuildStop.TheVariants.{Map as MapFault, Lex, Parse, Check, Place, NoMemory}
use Rattle.ec_build.proofs.Refused.{map_not_refused, no_fault, no_unparsed}
use Rattle.ec_build.proofs.Unchecked.{not_unchecked}
use Rattle.ec_build.proofs.Unplaced.{not_unplaced}

pub map_cause : (sources : List (List ℕ)) (text : List ℕ) (stop : BuildStop) → StopsMap text stop → HasCause sources text stop
map_cause sources text (MapFault stop) h = h
map_cause sources text (Lex unit stop) h = absurd h
map_cause sources text (Parse unit stop) h = absurd h
map_cause sources text (Check stop) h = absurd h
map_cause sources text (Place stop) h = absurd h
map_cause sources text NoMemory h = tt

pub reading_cause : (sources : List (List ℕ)) (text : List ℕ) (m : Map) (stop : BuildStop) → IsMapText text m
    → StopsReading sources stop → HasCause sources text stop
reading_cause sources text m (MapFault stop) is h = absurd h
reading_cause sources text m (Lex unit stop) is h = ((m, is), h)
reading_cause sources text m (Parse unit stop) is h = ((m, is), h)
reading_cause sources text m (Check stop) is h = absurd h
reading_cause sources text m (Place stop) is h = absurd h
reading_cause sources text m NoMemory is h = tt

pub checking_cause : (sources : List (List ℕ)) (text : List ℕ) (m : Map) (units : List t.Tree) (stop : BuildStop)
    → IsRead sources text m units → StopsChecking units m.io stop → HasCause sources text stop
checking_cause sources text m units (MapFault stop) is h = absurd h
checking_cause sources text m units (Lex unit stop) is h = absurd h
checking_cause sources text m units (Parse unit stop) is h = absurd h
checking_cause sources text m units (Check stop) is h = record { map = m; units = units; read = is; against = h }
checking_cause sources text m units (Place stop) is h = absurd h
checking_cause sources text m units NoMemory is h = tt

pub placing_cause : (sources : List (List ℕ)) (text : List ℕ) (m : Map) (p : PlainProgram) (asm : AsmProgram) (stop : BuildStop)
    → (reaches : List Reach) → IsChecked sources text m p → IsShortCodeOf m.core p m.io reaches asm → StopsPlacing p m asm stop
    → HasCause sources text stop
placing_cause sources text m p asm (MapFault stop) reaches is code h = absurd h
placing_cause sources text m p asm (Lex unit stop) reaches is code h = absurd h
placing_cause sources text m p asm (Parse unit stop) reaches is code h = absurd h
placing_cause sources text m p asm (Check stop) reaches is code h = absurd h
placing_cause sources text m p asm (Place stop) reaches is code h = record {
  map = m;
  program = p;
  checked = is;
  asm = asm;
  selected = code.long;
  code = code.code.selection;
  reaches = reaches;
  shortened = code.shortened;
  frames = code.frames;
  small = code.small;
  against = h;
}
placing_cause sources text m p asm NoMemory reaches is code h = tt

pub placing_stops : (sources : List (List ℕ)) (text : List ℕ) (m : Map) (p : PlainProgram) (stop : BuildStop)
    → IsChecked sources text m p → HasCauseOfPlacing p m stop → HasCause sources text stop
placing_stops sources text m p stop is (inl same) = subst (HasCause sources text) (sym same) tt
placing_stops sources text m p stop is (inr why) = placing_cause sources text m p why.1 stop why.0 is why.2.0 why.2.1

-- what is accepted is told no cause
pub accepted_has_none : (sources : List (List ℕ)) (text : List ℕ) (stop : BuildStop) → IsAccepted sources text
    → HasCause sources text stop → stop ≡ NoMemory
accepted_has_none sources text (MapFault stop) ok why = absurd (map_not_refused text ok.map.0 stop ok.map.1 why)
accepted_has_none sources text (Lex unit stop) ok why = absurd (no_fault unit sources ok.units.0 stop ok.units.1 why.1.here)
accepted_has_none sources text (Parse unit stop) ok why = absurd (no_unparsed unit sources ok.units.0 stop ok.units.1 why.1.here)
accepted_has_none sources text (Check stop) ok why =
    absurd (not_unchecked why.units why.map.io stop (ok.limits why.units why.read.trees)
    (ok.unbroken why.map why.units why.read.map why.read.trees)
    (λ p typed. ok.loopless why.map why.units p why.read.map why.read.trees typed) why.against)
accepted_has_none sources text (Place stop) ok why =
    absurd (not_unplaced why.program why.map why.asm stop (ok.fits why.map why.program why.checked) why.frames why.small why.against)
accepted_has_none sources text NoMemory ok why = refl
