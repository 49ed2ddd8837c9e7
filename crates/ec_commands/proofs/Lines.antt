-- A line that goes out in parts.
use Rattle.std.proofs.Common.{◌≡◌, ◌+◌, ◌/◌, ◌%◌, ◌^◌, ◌<◌, ◌≤◌, ◌∙◌, ℕ, List, [], ◌∷◌, ◌++◌, length, take, min, Some, None, refl, sym, ap}
use Rattle.std.proofs.Common.{subst, arith, append_assoc, append-nil, drop}
use Rattle.std.specs.Prelude.{Option, flat_map, get_or}
use Rattle.std.specs.Fmt.{decimal}
use Rattle.std.proofs.lemmas.Fmt.{decimal_digit, decimal_step}
use Rattle.std.proofs.lemmas.Grind.{flat_map-append}
use Rattle.std.proofs.lemmas.List.{take-append-le, take-append-drop, take_min, take_more}
use Rattle.std.proofs.Math.Seq.{take-add, take-append_seam, drop-append_seam}
use Rattle.std.specs.Io.KnownBytes.{Appends}
use Rattle.ec_commands.specs.declared.line.Part.{Part}
use Rattle.ec_commands.specs.declared.line.Part.TheVariants.{Text}
use Rattle.ec_commands.specs.Lines.{bytes_of, line}

-- known bytes in two steps
pub appends_both : (a b c : Option (List ℕ)) (xs ys : List ℕ) → Appends a b xs → Appends b c ys → Appends a c (xs ++ ys)
appends_both None b c xs ys h k = tt
appends_both (Some x) None c xs ys h k = absurd h
appends_both (Some x) (Some y) None xs ys h k = absurd k
appends_both (Some x) (Some y) (Some z) xs ys h k = rw (k, h) (append_assoc x xs ys)

-- a prefix of the first part is one of the whole
pub front_first : (old new : Option (List ℕ)) (first second : List ℕ) (n : ℕ) → Appends old new (take n first)
    → (m : ℕ) × Appends old new (take m (first ++ second))
front_first old new first second n h =
    (min n (length first), subst (λ xs. Appends old new xs) (sym (shorter first second n)) h) where
      shorter : (first second : List ℕ) (n : ℕ) → take (min n (length first)) (first ++ second) ≡ take n first
      shorter first second n = take-append-le (min n (length first)) first second (omega arith) ∙ take_min n first

-- so is the first part with a prefix of the second
pub front_second : (old mid new : Option (List ℕ)) (first second : List ℕ) (n : ℕ) → Appends old mid first → Appends mid new (take n second)
    → (m : ℕ) × Appends old new (take m (first ++ second))
front_second old mid new first second n h k =
    (length first + n, subst (λ xs. Appends old new xs) (sym (longer first second n)) (appends_both old mid new first (take n second) h k))
  where
    longer : (first second : List ℕ) (n : ℕ) → take (length first + n) (first ++ second) ≡ first ++ take n second
    longer first second n = rw (take-add, take-append_seam, drop-append_seam) refl

-- the parts of a line one behind the other, with nothing behind the last
pub line_is_flat : (parts : List Part) → line parts ≡ flat_map bytes_of parts
line_is_flat [] = refl
line_is_flat (part ∷ []) = sym (append-nil (bytes_of part))
line_is_flat (part ∷ next ∷ parts) = ap (λ (xs : List ℕ). bytes_of part ++ xs) (line_is_flat (next ∷ parts))

-- what stands for a part that is not there
abbrev pub blank : Part
blank = Text (record { ref_ptr = (0, 0); now = [] })

-- the parts before one, and that one
pub line_more : (parts : List Part) (n : ℕ) → n < length parts
    → flat_map bytes_of (take (n + 1) parts) ≡ flat_map bytes_of (take n parts) ++ bytes_of (get_or parts n blank)
line_more parts n inside =
    ap (flat_map bytes_of) (take_more parts n blank inside)
    ∙ flat_map-append bytes_of (take n parts) (get_or parts n blank ∷ [])
    ∙ ap (λ (l : List ℕ). flat_map bytes_of (take n parts) ++ l) (append-nil (bytes_of (get_or parts n blank)))

-- the parts before one, a prefix of that one, and nothing else are a prefix of the line
pub begins_line : (old mid new : Option (List ℕ)) (parts : List Part) (n k : ℕ) → n < length parts
    → Appends old mid (flat_map bytes_of (take n parts)) → Appends mid new (take k (bytes_of (get_or parts n blank)))
    → (m : ℕ) × Appends old new (take m (line parts))
begins_line old mid new parts n k inside before part =
    let so_far : List ℕ = flat_map bytes_of (take n parts) in
    let last : List ℕ = bytes_of (get_or parts n blank) in
    let rest : List ℕ = flat_map bytes_of (drop (n + 1) parts) in
    let whole : (so_far ++ last) ++ rest ≡ line parts =
    ap (λ (l : List ℕ). l ++ rest) (sym (line_more parts n inside))
    ∙ sym (flat_map-append bytes_of (take (n + 1) parts) (drop (n + 1) parts))
    ∙ ap (flat_map bytes_of) (take-append-drop (n + 1) parts) ∙ sym (line_is_flat parts) in
    let two = front_second old mid new so_far last k before part in
    let all = front_first old new (so_far ++ last) rest two.0 two.1 in
    (all.0, subst (λ (l : List ℕ). Appends old new (take all.0 l)) whole all.1)

one_more : (n : ℕ) (front : List ℕ) → 10 ≤ n → n < 2 ^ 64 → decimal (n / 10) ≡ front → decimal n ≡ front ++ (48 + n % 10) ∷ []
one_more n front tens fits e = decimal_step n tens fits ∙ ap (λ (ds : List ℕ). ds ++ (48 + n % 10) ∷ []) e

-- the greatest number of bytes of a source
pub decimal-65536 : decimal 65536 ≡ 54 ∷ 53 ∷ 53 ∷ 51 ∷ 54 ∷ []
decimal-65536 =
    one_more 65536 _ (omega arith) (omega arith) (one_more 6553 _ (omega arith) (omega arith)
    (one_more 655 _ (omega arith) (omega arith) (one_more 65 _ (omega arith) (omega arith) (decimal_digit 6 (omega arith)))))

-- the greatest number of bytes of a map
pub decimal-16384 : decimal 16384 ≡ 49 ∷ 54 ∷ 51 ∷ 56 ∷ 52 ∷ []
decimal-16384 =
    one_more 16384 _ (omega arith) (omega arith) (one_more 1638 _ (omega arith) (omega arith)
    (one_more 163 _ (omega arith) (omega arith) (one_more 16 _ (omega arith) (omega arith) (decimal_digit 1 (omega arith)))))
