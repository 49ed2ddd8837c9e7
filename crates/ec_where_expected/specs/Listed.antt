-- The kinds of tokens that may stand at a place, in words: by rows, and by the classes of which all may stand.
use Rattle.std.specs.Prelude.{ℕ, zero, suc, Bool, true, false, not, ◌&&◌, ◌||◌, List, [], ◌∷◌, ◌++◌, map, slice_get, codes}
use Rattle.std.specs.Prelude.{Option, Some, None, if◌then◌else◌}
use Rattle.ec_where_expected.specs.declared.candidates.Class.{Class}
use Rattle.ec_where_expected.specs.declared.candidates.Class.TheVariants.{Operand, Operator, Assignment, Specifier, Statement}
use Rattle.ec_where_expected.specs.declared.candidates.Classes.{Classes}
use Rattle.ec_where_expected.specs.declared.candidates.TheConstants.{CLASSES, ROWS}

abbrev pub is_of : Classes → Class → Bool
is_of classes Operand = classes.operand
is_of classes Operator = classes.operator
is_of classes Assignment = classes.assignment
is_of classes Specifier = classes.specifier
is_of classes Statement = classes.statement

abbrev pub flag_at : Option Bool → Bool
flag_at None = false
flag_at (Some flag) = flag

-- the classes of a kind, and how it is told
unfoldable pub classes_at : ℕ → Option Classes
classes_at i = slice_get (map (λ row. row.2) ROWS) i

unfoldable pub name_at : ℕ → Option (List ℕ)
name_at i = slice_get (map (λ row. row.1.now) ROWS) i

-- a class, and how it is told
unfoldable pub class_at : ℕ → Option (Class × List ℕ)
class_at i = slice_get (map (λ row. (row.0, row.1.now)) CLASSES) i

-- the kind of a row may stand, or is not of the class
abbrev pub is_kept_row : List Bool → Class → ℕ → Option Classes → Bool
is_kept_row flags class i None = true
is_kept_row flags class i (Some classes) = flag_at (slice_get flags i) || not (is_of classes class)

abbrev pub is_kept : List Bool → Class → ℕ → Bool
is_kept flags class i = is_kept_row flags class i (classes_at i)

-- all kinds of a class may stand, of the first n rows
unfoldable pub whole_to : List Bool → Class → ℕ → Bool
whole_to flags class zero = true
whole_to flags class (suc n) = whole_to flags class n && is_kept flags class n

abbrev pub is_whole : List Bool → Class → Bool
is_whole flags class = whole_to flags class 85

-- a class of the kind is told as a whole
abbrev pub is_covered : List Bool → Classes → Bool
is_covered flags classes =
    (is_of classes Operand && is_whole flags Operand)
    || (is_of classes Operator && is_whole flags Operator)
    || (is_of classes Assignment && is_whole flags Assignment)
    || (is_of classes Specifier && is_whole flags Specifier)
    || (is_of classes Statement && is_whole flags Statement)

abbrev pub name_of_row : List Bool → ℕ → Option Classes → Option (List ℕ)
name_of_row flags i None = None
name_of_row flags i (Some classes) =
    if flag_at (slice_get flags i) && not (is_covered flags classes) then name_at i else None

-- how a row is told, where its kind may stand and no class tells it
abbrev pub row_name : List Bool → ℕ → Option (List ℕ)
row_name flags i = name_of_row flags i (classes_at i)

abbrev pub name_of_class : List Bool → Option (Class × List ℕ) → Option (List ℕ)
name_of_class flags None = None
name_of_class flags (Some x) = if is_whole flags x.0 then Some x.1 else None

-- how a class is told, where all its kinds may stand
abbrev pub class_name : List Bool → ℕ → Option (List ℕ)
class_name flags i = name_of_class flags (class_at i)

-- a name, where there is one, behind the names of a list
abbrev pub joined : List ℕ → List ℕ → List ℕ
joined [] name = name
joined (b ∷ text) name = (b ∷ text) ++ (codes ", " ++ name)

abbrev pub added : Option (List ℕ) → List ℕ → List ℕ
added None text = text
added (Some name) text = joined text name

-- the names of the first n rows, behind a text
unfoldable pub rows_text : List Bool → ℕ → List ℕ → List ℕ
rows_text flags zero text = text
rows_text flags (suc n) text = added (row_name flags n) (rows_text flags n text)

unfoldable pub classes_text : List Bool → ℕ → List ℕ → List ℕ
classes_text flags zero text = text
classes_text flags (suc n) text = added (class_name flags n) (classes_text flags n text)

-- all names
abbrev pub listed : List Bool → List ℕ
listed flags = classes_text flags 5 (rows_text flags 85 [])
