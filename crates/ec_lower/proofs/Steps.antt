-- The operations of parameters and of initial values, one item after another.
use Rattle.std.proofs.Common.{◌≡◌, ◌≤◌, ◌+◌, ℕ, length, zero, suc, List, [], ◌∷◌, drop, map, Option, Some, None, refl, ap, sym, ◌∙◌, arith}
use Rattle.std.proofs.lemmas.Option.{slice_get-map}
use Rattle.std.proofs.lemmas.Result.{on_ok_weaker}
use Rattle.std.specs.Prelude.{slice_get, option_map, unwrap_or, Result, OnOk}
use Rattle.ec_core.specs.declared.expressions.Expr.{Expr}
use Rattle.ec_core.specs.declared.layout.Leaf.{Leaf}
use Rattle.ec_core.specs.Layout.{PlainLeaf, plain_leaf, leaves_of_type}
use Rattle.ec_core.specs.Plain.{last_expr, plain_expr, plain_exprs, PlainFunction, PlainObject, PlainProgram}
use Rattle.ec_core.specs.PortTable.{PlainTable}
use Rattle.ec_core.specs.Typing.{type_of_expr}
use Rattle.ec_ir.specs.Operations.{PlainIr, store_object}
use Rattle.ec_lower_code.specs.Code.{temp, expr_labels, expr_code, params_of, params_code, leaves_of_object, init_code}

-- what a call says of its answer, said of a larger part
pub so : {T E P Q : Type 0} (r : Result T E) → OnOk r P → (P → Q) → OnOk r Q
so r h f = on_ok_weaker r f h

-- the item that is read at i, and the rest behind it
pub list_got : {A : Type 0} (xs : List A) (i : ℕ) (x : A) → Some x ≡ slice_get xs i → drop i xs ≡ x ∷ drop (i + 1) xs
list_got [] i x e = cc
list_got (y ∷ ys) zero x e = let s : y ≡ x = cc in ap (λ z. z ∷ ys) s
list_got (y ∷ ys) (suc i) x e = let n : suc (i + 1) ≡ suc i + 1 = omega arith in list_got ys i x e ∙ ap (λ k. x ∷ drop k (y ∷ ys)) n

pub params_none : (os : List ℕ) (t : ℕ) (rest : List PlainIr) → params_code os last_expr t rest ≡ rest
params_none [] t rest = refl
params_none (o ∷ os) t rest = refl

pub params_out : (os : List ℕ) (es : List Expr) (t : ℕ) (rest : List PlainIr) → es ≡ [] → params_code os (plain_exprs es) t rest ≡ rest
params_out os es t rest e = ap (λ xs. params_code os (plain_exprs xs) t rest) e ∙ params_none os t rest

pub init_none : (program : PlainProgram) (table : PlainTable) (leaves : List PlainLeaf) (o l : ℕ) (rest : List PlainIr)
    → init_code program table leaves o last_expr l rest ≡ rest
init_none program table [] o l rest = refl
init_none program table (leaf ∷ leaves) o l rest = refl

pub init_out : (program : PlainProgram) (table : PlainTable) (leaves : List PlainLeaf) (o : ℕ) (es : List Expr) (l : ℕ)
    (rest : List PlainIr) → es ≡ [] → init_code program table leaves o (plain_exprs es) l rest ≡ rest
init_out program table leaves o es l rest e =
    ap (λ xs. init_code program table leaves o (plain_exprs xs) l rest) e ∙ init_none program table leaves o l rest

pub init_step : (program : PlainProgram) (table : PlainTable) (leaves : List Leaf) (o i : ℕ) (es : List Expr) (leaf : Leaf) (e : Expr)
    (k : ℕ) (rest : List PlainIr) → drop i leaves ≡ leaf ∷ drop (i + 1) leaves → drop i es ≡ e ∷ drop (i + 1) es
    → init_code program table (map plain_leaf (drop i leaves)) o (plain_exprs (drop i es)) k rest
    ≡ expr_code program table (plain_expr e) k 0 (store_object o leaf.at (temp 0 (type_of_expr (plain_expr e)))
    ∷ init_code program table (map plain_leaf (drop (i + 1) leaves)) o (plain_exprs (drop (i + 1) es))
    (k + expr_labels (plain_expr e)) rest)
init_step program table leaves o i es leaf e k rest p q =
    ap (λ xs. init_code program table (map plain_leaf xs) o (plain_exprs (drop i es)) k rest) p
    ∙ ap (λ xs. init_code program table (plain_leaf leaf ∷ map plain_leaf (drop (i + 1) leaves)) o (plain_exprs xs) k rest) q

-- the plain item that is read at i
pub seen_at : {A B : Type 0} (f : A → B) (xs : List A) (i : ℕ) (x : Option A) → x ≡ slice_get xs i → slice_get (map f xs) i ≡ option_map f x
seen_at f xs i x e = slice_get-map f xs i ∙ ap (option_map f) (sym e)

pub params_some : (program : PlainProgram) (f : ℕ) (g : PlainFunction) → slice_get program.functions f ≡ Some g
    → params_of program f ≡ g.params
params_some program f g e = ap (λ (z : Option PlainFunction). unwrap_or (option_map (λ (h : PlainFunction). h.params) z) []) e

pub params_absent : (program : PlainProgram) (f : ℕ) → slice_get program.functions f ≡ None → params_of program f ≡ []
params_absent program f e = ap (λ (z : Option PlainFunction). unwrap_or (option_map (λ (h : PlainFunction). h.params) z) []) e

pub leaves_some : (program : PlainProgram) (o : ℕ) (x : PlainObject) → slice_get program.objects o ≡ Some x
    → leaves_of_object program o ≡ leaves_of_type program.structs x.ty
leaves_some program o x e =
    ap (λ (z : Option PlainObject). unwrap_or (option_map (λ (d : PlainObject). leaves_of_type program.structs d.ty) z) []) e

pub leaves_absent : (program : PlainProgram) (o : ℕ) → slice_get program.objects o ≡ None → leaves_of_object program o ≡ []
leaves_absent program o e =
    ap (λ (z : Option PlainObject). unwrap_or (option_map (λ (d : PlainObject). leaves_of_type program.structs d.ty) z) []) e

pub list_end : {A : Type 0} (xs : List A) (i : ℕ) → length xs ≤ i → drop i xs ≡ []
list_end [] zero h = refl
list_end [] (suc i) h = refl
list_end (y ∷ ys) zero h = absurd (omega arith)
list_end (y ∷ ys) (suc i) h = list_end ys i (omega arith)
