-- The rules of a script, line by line.
use Rattle.std.specs.Prelude.{slice_get, not, map, ◌||◌, ◌⊎◌}
use Rattle.std.specs.List.{list_all, list_any}
use Rattle.std.proofs.lemmas.Bool.{cases_order}
use Rattle.std.proofs.lemmas.List.{take-append-le, take_at, take-take, take_all, take_more, length-take}
use Rattle.std.proofs.lemmas.Option.{slice_get_within, slice_get-get_or, get_or_from_slice_get}
use Rattle.std.proofs.Common.{◌≡◌, ◌≢◌, ◌+◌, ◌<◌, ◌==◌, ℕ, zero, suc, Bool, true, false, ◌&&◌, List, [], ◌∷◌, ◌++◌, length, take, drop}
use Rattle.std.proofs.Common.{Some, None, refl, sym, ap, ◌∙◌, subst, arith, inl, inr, get_or-take, length-append, length-drop}
use Rattle.ec_space.specs.declared.Core.{Core}
use Rattle.ec_emu.specs.declared.read.ScriptStop.{ScriptStop}
use Rattle.ec_emu.specs.declared.read.ScriptStop.TheVariants.{Line, NoMemory}
use Rattle.ec_emu.specs.declared.script.ScriptLine.{ScriptLine}
use Rattle.ec_emu.specs.Forms.{Form, Passed, CoreName, Listed, NoForm}
use Rattle.ec_emu.specs.Script.{Entry, entries, entry_of, is_passed, broken, AreKept, BreaksAt, IsNoScript, forms_of}
use Rattle.ec_emu.proofs.Traces.{slice_get-front, slice_get-seam}

pub entries-append : (xs ys : List Form) → entries (xs ++ ys) ≡ entries xs ++ entries ys
entries-append [] ys = refl
entries-append (Passed ∷ xs) ys = entries-append xs ys
entries-append (CoreName core ∷ xs) ys = entries-append xs ys
entries-append (Listed port hook bytes ∷ xs) ys =
    ap (λ (more : List Entry). record { port = port; hook = hook; bytes = bytes } ∷ more) (entries-append xs ys)
entries-append (NoForm ∷ xs) ys = entries-append xs ys

and_assoc : (a b c : Bool) → (a && (b && c)) ≡ ((a && b) && c)
and_assoc true b c = refl
and_assoc false b c = refl

list_all-push : (p : Form → Bool) (xs : List Form) (y : Form) → list_all p (xs ++ y ∷ []) ≡ (list_all p xs && p y)
list_all-push p [] y = right (p y)
  where
    right : (b : Bool) → (b && true) ≡ b
    right true = refl
    right false = refl
list_all-push p (x ∷ xs) y = ap (λ (b : Bool). p x && b) (list_all-push p xs y) ∙ and_assoc (p x) (list_all p xs) (p y)

de_morgan : (a b : Bool) → not (a && b) ≡ (not a || not b)
de_morgan true b = refl
de_morgan false b = refl

pub begun_on : (xs : List Form) (y : Form) → not (list_all is_passed (xs ++ y ∷ [])) ≡ (not (list_all is_passed xs) || not (is_passed y))
begun_on xs y = ap not (list_all-push is_passed xs y) ∙ de_morgan (list_all is_passed xs) (is_passed y)

-- lines of ports as code has them, and as the lines of the text tell them
pub same_ports : (lines : List ScriptLine) (port : ℕ)
    → list_any (λ line. line.port == port) lines ≡ list_any (λ entry. entry.port == port) (map entry_of lines)
same_ports [] port = refl
same_ports (line ∷ lines) port = ap (λ (b : Bool). (line.port == port) || b) (same_ports lines port)

pub next_form : (forms : List Form) (n : ℕ) (form : Form) → slice_get forms n ≡ Some form → take (n + 1) forms ≡ take n forms ++ form ∷ []
next_form forms n form at =
    take_more forms n form (slice_get_within forms n form at)
    ∙ ap (λ (f : Form). take n forms ++ f ∷ []) (get_or_from_slice_get forms n form form at)

kept_push : (core : Core) (xs : List Form) (y : Form) → AreKept core xs → broken core xs y ≡ None → AreKept core (xs ++ y ∷ [])
kept_push core xs y kept keeps n form at = either (cases_order n (length xs))
  where
    either : (n ≡ length xs) ⊎ ((n < length xs) ⊎ (length xs < n)) → broken core (take n (xs ++ y ∷ [])) form ≡ None
    either (inl same) =
        let here : y ≡ form = cc (ap (λ (k : ℕ). slice_get (xs ++ y ∷ []) k) same, slice_get-seam xs y [], at) in
        rw (take_at xs (y ∷ []) n (sym same), ← here) keeps
    either (inr (inl below)) =
        rw (take-append-le n xs (y ∷ []) (omega (arith, below))) (kept n form (sym (slice_get-front xs (y ∷ []) n below) ∙ at))
    either (inr (inr above)) = absurd (omega (arith, above, slice_get_within (xs ++ y ∷ []) n form at, length-append xs (y ∷ [])))

pub kept_on : (core : Core) (forms : List Form) (n : ℕ) (form : Form) → slice_get forms n ≡ Some form → AreKept core (take n forms)
    → broken core (take n forms) form ≡ None
    → AreKept core (take (n + 1) forms)
kept_on core forms n form at kept keeps =
    subst (λ (fs : List Form). AreKept core fs) (sym (next_form forms n form at)) (kept_push core (take n forms) form kept keeps)

-- a line that breaks a rule is not among lines that keep all
slice_get-take : (forms : List Form) (n m : ℕ) (form : Form) → n < m → slice_get forms n ≡ Some form
    → slice_get (take m forms) n ≡ Some form
slice_get-take forms n m form below at =
    let within : n < length forms = slice_get_within forms n form at in
    slice_get-get_or (take m forms) n form (omega (arith, length-take m forms, within, below))
    ∙ ap Some (get_or-take m forms n form below ∙ get_or_from_slice_get forms n form form at)

not_kept : (core : Core) (forms : List Form) (line rule m : ℕ) (b : BreaksAt core forms line rule) → b.n < m → AreKept core (take m forms) → ⊥
not_kept core forms line rule m b below kept =
    let keeps : broken core (take b.n forms) b.form ≡ None =
    ap (λ (before : List Form). broken core before b.form) (sym (take-take b.n m forms (omega (arith, below))))
    ∙ kept b.n b.form (slice_get-take forms b.n m b.form below b.at) in
    cc (keeps, b.breaks)

pub no_break : (core : Core) (forms : List Form) (line rule : ℕ) → BreaksAt core forms line rule → AreKept core forms → ⊥
no_break core forms line rule b kept =
    not_kept core forms line rule (length forms) b (slice_get_within forms b.n b.form b.at)
    (subst (λ (fs : List Form). AreKept core fs) (sym (take_all (length forms) forms (omega arith))) kept)

pub one_break : (core : Core) (forms : List Form) (line rule other next : ℕ) → BreaksAt core forms line rule → BreaksAt core forms other next
    → (line ≡ other) × (rule ≡ next)
one_break core forms line rule other next a b = either (cases_order a.n b.n)
  where
    either : (a.n ≡ b.n) ⊎ ((a.n < b.n) ⊎ (b.n < a.n)) → (line ≡ other) × (rule ≡ next)
    either (inl same) =
        let form : a.form ≡ b.form = cc (ap (λ (n : ℕ). slice_get forms n) same, a.at, b.at) in
        let rules : Some rule ≡ Some next =
        sym a.breaks ∙ ap (λ (n : ℕ). broken core (take n forms) a.form) same ∙ ap (λ (f : Form). broken core (take b.n forms) f) form ∙ b.breaks in
        (a.place ∙ ap (λ (n : ℕ). n + 1) same ∙ sym b.place, cc rules)
    either (inr (inl below)) = absurd (not_kept core forms line rule b.n a below b.before)
    either (inr (inr below)) = absurd (not_kept core forms other next a.n b below a.before)

pub only_stop : (core : Core) (text : List ℕ) (line rule : ℕ) → BreaksAt core (forms_of text) line rule → (stop : ScriptStop)
    → IsNoScript core text stop → stop ≢ NoMemory
    → Line line rule ≡ stop
only_stop core text line rule b (Line other next) stops some =
    let same = one_break core (forms_of text) line rule other next b stops in
    ap (λ (l : ℕ). Line l rule) same.0 ∙ ap (λ (r : ℕ). Line other r) same.1
only_stop core text line rule b NoMemory stops some = absurd (some refl)

pub no_stop : (core : Core) (text : List ℕ) → AreKept core (forms_of text) → (stop : ScriptStop) → IsNoScript core text stop
    → stop ≢ NoMemory → ⊥
no_stop core text kept (Line line rule) stops some = no_break core (forms_of text) line rule stops kept
no_stop core text kept NoMemory stops some = some refl

-- what is left of a list
pub first_of : {X : Type 0} (xs : List X) (n : ℕ) (x : X) (more : List X) → drop n xs ≡ x ∷ more → slice_get xs n ≡ Some x
first_of [] zero x more e = cc
first_of [] (suc n) x more e = cc
first_of (y ∷ xs) zero x more e = cc
first_of (y ∷ xs) (suc n) x more e = first_of xs n x more e

pub all_of : {X : Type 0} (xs : List X) (n : ℕ) → drop n xs ≡ [] → take n xs ≡ xs
all_of xs n e = take_all n xs (omega (arith, length-drop n xs, ap length e))
