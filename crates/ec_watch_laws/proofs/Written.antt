-- Which byte was written last, among accesses of which some are left out.
use Rattle.std.proofs.Common.{◌≡◌, ℕ, zero, suc, ◌+◌, ◌/◌, ◌%◌, ◌^◌, ◌<◌, ◌⊎◌, inl, inr, Bool, true, false, List, [], ◌∷◌, ◌++◌}
use Rattle.std.proofs.Common.{refl, sym, ap, ◌∙◌, subst, arith, append_assoc, append-nil, ⊎_elim}
use Rattle.std.specs.Prelude.{◌==◌, if◌then◌else◌}
use Rattle.std.proofs.lemmas.Bool.{cases_Bool, eqb-true, eq-eqb}
use Rattle.ec_space.specs.declared.space.Bank.TheVariants.{Flash as FlashBank, Data as DataBank}
use Rattle.ec_avr.specs.declared.machine.Access.{Access}
use Rattle.ec_avr.specs.declared.machine.Access.TheVariants.{Silent, In, Out, Read, Write, Stack}
use Rattle.ec_avr_accesses.specs.Sram.{byte_after}
use Rattle.ec_core.specs.Plain.{PlainProgram}
use Rattle.ec_core.specs.State.{Event}
use Rattle.ec_map.specs.declared.map.Map.{Map}
use Rattle.ec_locate.specs.declared.placing.Located.{Located}
use Rattle.ec_select_functions.specs.Relation.{byte_accesses, event_accesses, accesses}
use Rattle.ec_build_laws.specs.Whole.{is_own_byte, unless, kept_of, kept}

-- ---- what is kept

pub kept-append : (p : PlainProgram) (m : Map) (l : Located) (xs ys : List Access) → kept p m l (xs ++ ys) ≡ kept p m l xs ++ kept p m l ys
kept-append p m l [] ys = refl
kept-append p m l (a ∷ xs) ys =
    ap (λ (z : List Access). kept_of p m l a ++ z) (kept-append p m l xs ys)
    ∙ sym (append_assoc (kept_of p m l a) (kept p m l xs) (kept p m l ys))

unless_one : (own : Bool) (a : Access) → (unless own a ≡ []) ⊎ (unless own a ≡ a ∷ [])
unless_one true a = inl refl
unless_one false a = inr refl

-- of one access nothing is kept, or itself
kept_one : (p : PlainProgram) (m : Map) (l : Located) (a : Access) → (kept_of p m l a ≡ []) ⊎ (kept_of p m l a ≡ a ∷ [])
kept_one p m l Silent = inl refl
kept_one p m l Stack = inl refl
kept_one p m l (In port byte) = inr refl
kept_one p m l (Out port byte) = inr refl
kept_one p m l (Read FlashBank at byte) = inr refl
kept_one p m l (Read DataBank at byte) = unless_one (is_own_byte p m l at) (Read DataBank at byte)
kept_one p m l (Write at byte) = unless_one (is_own_byte p m l at) (Write at byte)

-- where one access stands among those that are kept, it stands among all, and so does what is around it
pub record IsSplit (p : PlainProgram) (m : Map) (l : Located) (trace front : List Access) (a : Access) (more : List Access) : Type 0 where
  pub before : List Access
  pub behind : List Access
  pub is : trace ≡ before ++ a ∷ behind
  pub kept_before : kept p m l before ≡ front
  pub kept_here : kept_of p m l a ≡ a ∷ []

pub kept_split : (p : PlainProgram) (m : Map) (l : Located) (trace front : List Access) (a : Access) (more : List Access)
    → kept p m l trace ≡ front ++ a ∷ more → IsSplit p m l trace front a more
kept_split p m l [] [] a more e = cc
kept_split p m l [] (x ∷ front) a more e = cc
kept_split p m l (b ∷ trace) front a more e = by_one (kept_one p m l b) front e (λ f. kept_split p m l trace f a more)
  where
    later : (f : List Access) → kept_of p m l b ++ f ≡ front → IsSplit p m l trace f a more → IsSplit p m l (b ∷ trace) front a more
    later f g r = record {
      before = b ∷ r.before;
      behind = r.behind;
      is = ap (λ (z : List Access). b ∷ z) r.is;
      kept_before = ap (λ (z : List Access). kept_of p m l b ++ z) r.kept_before ∙ g;
      kept_here = r.kept_here;
    }

    by_front : kept_of p m l b ≡ b ∷ [] → (f : List Access) → f ≡ front → b ∷ kept p m l trace ≡ f ++ a ∷ more
        → ((g : List Access) → kept p m l trace ≡ g ++ a ∷ more → IsSplit p m l trace g a more) → IsSplit p m l (b ∷ trace) front a more
    by_front h [] same q ih =
        let here : b ≡ a = cc in
        record {
          before = [];
          behind = trace;
          is = ap (λ (z : Access). z ∷ trace) here;
          kept_before = same;
          kept_here = subst (λ (z : Access). kept_of p m l z ≡ z ∷ []) here h;
        }
    by_front h (x ∷ f) same q ih =
        let here : b ≡ x = cc in
        let rest : kept p m l trace ≡ f ++ a ∷ more = cc in
        later f (ap (λ (z : List Access). z ++ f) h ∙ ap (λ (z : Access). z ∷ f) here ∙ same) (ih f rest)

    by_one : (kept_of p m l b ≡ []) ⊎ (kept_of p m l b ≡ b ∷ []) → (f : List Access)
        → kept_of p m l b ++ kept p m l trace ≡ front ++ a ∷ more
        → ((g : List Access) → kept p m l trace ≡ g ++ a ∷ more → IsSplit p m l trace g a more) → IsSplit p m l (b ∷ trace) front a more
    by_one (inl h) f q ih =
        later front (ap (λ (z : List Access). z ++ front) h) (ih front (sym (ap (λ (z : List Access). z ++ kept p m l trace) h) ∙ q))
    by_one (inr h) f q ih = by_front h front refl (sym (ap (λ (z : List Access). z ++ kept p m l trace) h) ∙ q) ih

-- ---- the byte that was written last

pub byte_after-append : (at byte : ℕ) (xs ys : List Access) → byte_after at byte (xs ++ ys) ≡ byte_after at (byte_after at byte xs) ys
byte_after-append at byte [] ys = refl
byte_after-append at byte (Silent ∷ xs) ys = byte_after-append at byte xs ys
byte_after-append at byte (In port b ∷ xs) ys = byte_after-append at byte xs ys
byte_after-append at byte (Out port b ∷ xs) ys = byte_after-append at byte xs ys
byte_after-append at byte (Read bank from b ∷ xs) ys = byte_after-append at byte xs ys
byte_after-append at byte (Write to new ∷ xs) ys = byte_after-append at (if to == at then new else byte) xs ys
byte_after-append at byte (Stack ∷ xs) ys = byte_after-append at byte xs ys

-- where a byte is none of code's own, it is by what is kept
pub byte_after-kept : (p : PlainProgram) (m : Map) (l : Located) (at byte : ℕ) (trace : List Access) → is_own_byte p m l at ≡ false
    → byte_after at byte (kept p m l trace) ≡ byte_after at byte trace
byte_after-kept p m l at byte [] own = refl
byte_after-kept p m l at byte (Silent ∷ trace) own = byte_after-kept p m l at byte trace own
byte_after-kept p m l at byte (Stack ∷ trace) own = byte_after-kept p m l at byte trace own
byte_after-kept p m l at byte (In port b ∷ trace) own = byte_after-kept p m l at byte trace own
byte_after-kept p m l at byte (Out port b ∷ trace) own = byte_after-kept p m l at byte trace own
byte_after-kept p m l at byte (Read FlashBank from b ∷ trace) own = byte_after-kept p m l at byte trace own
byte_after-kept p m l at byte (Read DataBank from b ∷ trace) own =
    of_read (is_own_byte p m l from) ∙ byte_after-kept p m l at byte trace own
  where
    of_read : (c : Bool) → byte_after at byte (unless c (Read DataBank from b) ++ kept p m l trace) ≡ byte_after at byte (kept p m l trace)
    of_read true = refl
    of_read false = refl
byte_after-kept p m l at byte (Write to new ∷ trace) own =
    of_write (is_own_byte p m l to) refl ∙ byte_after-kept p m l at (if to == at then new else byte) trace own
  where
    other : is_own_byte p m l to ≡ true → (to == at) ≡ false
    other h = ⊎_elim
        (λ (t : (to == at) ≡ true). let same : true ≡ false = sym h ∙ ap (is_own_byte p m l) (eqb-true to at t) ∙ own in cc) (λ f. f)
        (cases_Bool (to == at))

    of_write : (c : Bool) → is_own_byte p m l to ≡ c → byte_after at byte (unless c (Write to new) ++ kept p m l trace)
        ≡ byte_after at (if to == at then new else byte) (kept p m l trace)
    of_write true h = ap (λ (z : Bool). byte_after at (if z then new else byte) (kept p m l trace)) (sym (other h))
    of_write false h = refl

at_end : (i n : ℕ) → i < suc n → (i ≡ n) ⊎ (i < n)
at_end i n h = grind (arith, h)

-- each byte of a number is the one that was written
pub bytes_written : (base number n i byte : ℕ) → i < n
    → byte_after (base + i) byte (byte_accesses Write base number n) ≡ number / 256 ^ i % 256
bytes_written base number zero i byte less = absurd (omega (arith, less))
bytes_written base number (suc n) i byte less =
    byte_after-append (base + i) byte (byte_accesses Write base number n) (Write (base + n) (number / 256 ^ n % 256) ∷ [])
    ∙ by_last (cases_Bool (base + n == base + i)) (λ (under : i < n). bytes_written base number n i byte under)
  where
    by_last : ((base + n == base + i) ≡ true) ⊎ ((base + n == base + i) ≡ false)
        → (i < n → byte_after (base + i) byte (byte_accesses Write base number n) ≡ number / 256 ^ i % 256)
        → (if base + n == base + i then number / 256 ^ n % 256 else byte_after (base + i) byte (byte_accesses Write base number n))
        ≡ number / 256 ^ i % 256
    by_last (inl t) ih =
        let same : n ≡ i = omega (arith, eqb-true (base + n) (base + i) t) in
        ap (λ (z : Bool). if z then number / 256 ^ n % 256 else byte_after (base + i) byte (byte_accesses Write base number n)) t
        ∙ ap (λ (z : ℕ). number / 256 ^ z % 256) same
    by_last (inr f) ih =
        ap (λ (z : Bool). if z then number / 256 ^ n % 256 else byte_after (base + i) byte (byte_accesses Write base number n)) f
        ∙ ih (under f)
      where
        under : (base + n == base + i) ≡ false → i < n
        under g = ⊎_elim (λ (e : i ≡ n). let t = eq-eqb (base + n) (base + i) (ap (λ z. base + z) (sym e)) in
            let no : true ≡ false = sym t ∙ g in cc) (λ h. h) (at_end i n less)

-- ---- the accesses of events

pub accesses-append : (p : PlainProgram) (place : ℕ → ℕ) (es fs : List Event)
    → accesses p place (es ++ fs) ≡ accesses p place es ++ accesses p place fs
accesses-append p place [] fs = refl
accesses-append p place (e ∷ es) fs =
    ap (λ (z : List Access). event_accesses p place e ++ z) (accesses-append p place es fs)
    ∙ sym (append_assoc (event_accesses p place e) (accesses p place es) (accesses p place fs))

pub accesses-last : (p : PlainProgram) (place : ℕ → ℕ) (es : List Event) (e : Event)
    → accesses p place (es ++ e ∷ []) ≡ accesses p place es ++ event_accesses p place e
accesses-last p place es e =
    accesses-append p place es (e ∷ []) ∙ ap (λ (z : List Access). accesses p place es ++ z) (append-nil (event_accesses p place e))
