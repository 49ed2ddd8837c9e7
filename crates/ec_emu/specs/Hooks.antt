-- What a hook keeps, passed on.
use Rattle.std.specs.Prelude.{ℕ, Bool, IsTrue}
use Rattle.ec_emu.specs.declared.ask.Ask.{Ask}
use Rattle.ec_emu.specs.declared.hook.Hook.{Hook}
use Rattle.ec_emu.specs.Answers.{IsAsk}

abbrev pub rule_of : {F R : Type 0} → Hook F R → R
rule_of hook = hook.rule

abbrev pub function_of : {F R : Type 0} → Hook F R → F
function_of hook = hook.f

-- its function answers the byte, and its rule allows it
abbrev pub IsHooked : {F R : Type 0} → (F → Ask → ℕ → Type 0) → (R → Ask → ℕ → Bool) → Hook F R → Ask → ℕ → Type 0
IsHooked post allows hook ask byte = post (function_of hook) ask byte × IsTrue (allows (rule_of hook) ask byte)

-- its function may be called at each ask, and its rule allows what it answers
abbrev pub IsSound : {F R : Type 0} → (F → Ask → Type 0) → (F → Ask → ℕ → Type 0) → (R → Ask → ℕ → Bool) → Hook F R
    → Type 0
IsSound pre post allows hook =
    (ask : Ask) → IsAsk ask
    → pre (function_of hook) ask ×
    ((byte : ℕ) → post (function_of hook) ask byte → IsTrue (allows (rule_of hook) ask byte))
