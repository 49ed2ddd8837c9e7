-- What contracts see of the code's own types.
use Rattle.ec_list.specs.Scanning.{Scan}
use Rattle.ec_list.specs.Texts as spec
use Rattle.ec_list.specs.declared.scanning.Scanned.{Scanned}
use Rattle.ec_list.specs.declared.texts.Text.{Text}

abbrev pub text_view : Text → spec.Text
text_view t = record { format = t.format; pattern = t.pattern.now; first = t.first; second = t.second }

abbrev pub scan_view : Scanned → Scan
scan_view s = record { pattern = s.pattern.items; first = s.first; second = s.second; later = s.later; inside = s.inside }
