-- Comparisons of numbers (ISO/IEC 9899:1999, 6.5.8 and 6.5.9).
use Rattle.std.specs.Prelude.{ℤ, Bool, not, ◌||◌, int_lt}
use Rattle.ec_emu_watch.specs.declared.compare.CompareOp.{CompareOp}
use Rattle.ec_emu_watch.specs.declared.compare.CompareOp.TheVariants.{Eq, Ne, Lt, Gt, Le, Ge}

-- two numbers differ
abbrev pub differ : ℤ → ℤ → Bool
differ x y = int_lt x y || int_lt y x

-- whether a number stands so to another
abbrev pub compares : CompareOp → ℤ → ℤ → Bool
compares Eq x y = not (differ x y)
compares Ne x y = differ x y
compares Lt x y = int_lt x y
compares Gt x y = int_lt y x
compares Le x y = not (int_lt y x)
compares Ge x y = not (int_lt x y)
