-- What contracts see of the code's own types.
use Rattle.ec_emu.specs.Forms as forms
use Rattle.ec_emu.specs.declared.read.Form.{Form}
use Rattle.ec_emu.specs.declared.read.Form.TheVariants.{Passed, CoreName, Listed, NoForm}

abbrev pub form_view : Form → forms.Form
form_view Passed = forms.Passed
form_view (CoreName core) = forms.CoreName core
form_view (Listed line) = forms.Listed line.port line.hook line.bytes.items
form_view NoForm = forms.NoForm
