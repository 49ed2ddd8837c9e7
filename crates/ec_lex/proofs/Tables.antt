-- What the front of a text is by a table.
use Rattle.std.proofs.Common.{◌≡◌, ℕ, ◌<◌, ◌≤◌, List, [], ◌∷◌, ◌++◌, length, take, drop, Bool, true, false, Some, refl, sym, ap, ◌∙◌, arith}
use Rattle.std.proofs.Common.{inl, inr, subst, nat_lt, nat_le, nat_eq, ◌&&◌}
use Rattle.std.specs.List.{starts_with, list_all}
use Rattle.std.specs.Cmp.Lexicographic.{pointwise}
use Rattle.std.proofs.lemmas.Bool.{true≢false, eqb-true, eq-eqb, leb-true, ltb-true}
use Rattle.std.proofs.lemmas.List.{length-drop, length-append, take_at}
use Rattle.ec_grammar.specs.declared.token.PunctKind.{PunctKind}
use Rattle.ec_lex.specs.Pieces.{Lists, punctuators}
use Rattle.ec_lex.specs.Reading.{first_prefix, punctuator_at}

pub both : (a b : Bool) → (a && b) ≡ true → (a ≡ true) × (b ≡ true)
both true b h = (refl, h)
both false b h = cc

pub some_is : {A : Type 0} (x y : A) → Some x ≡ Some y → x ≡ y
some_is x y h = cc

pub starts_with-true : (p bs : List ℕ) → starts_with nat_eq bs p ≡ true → bs ≡ p ++ drop (length p) bs
starts_with-true [] bs h = refl
starts_with-true (a ∷ p) [] h = cc
starts_with-true (a ∷ p) (b ∷ bs) h =
    let parts : (nat_eq a b ≡ true) × (starts_with nat_eq bs p ≡ true) = both (nat_eq a b) (starts_with nat_eq bs p) h in
    let head : a ≡ b = eqb-true a b parts.0 in
    let tail : bs ≡ p ++ drop (length p) bs = starts_with-true p bs parts.1 in
    rw head (ap (λ (t : List ℕ). b ∷ t) tail)

pub same_bytes : (bs : List ℕ) → pointwise nat_eq bs bs ≡ true
same_bytes [] = refl
same_bytes (b ∷ bs) = rw (eq-eqb b b refl) (same_bytes bs)

pub starts_with-append : (p bs : List ℕ) → starts_with nat_eq (p ++ bs) p ≡ true
starts_with-append p bs = let e : take (length p) (p ++ bs) ≡ p = take_at p bs (length p) refl in rw e (same_bytes p)

-- what was found is listed, and stands at the front
pub first_prefix-found : {K : Type 0} (bs : List ℕ) (table : List (List ℕ × K)) (k : K) (rest : List ℕ)
    → first_prefix bs table ≡ Some (k, rest) → (u : List ℕ) × Lists table u k × (bs ≡ u ++ rest)
first_prefix-found bs [] k rest h = absurd (cc)
first_prefix-found {K} bs (e ∷ es) k rest h = go (first_prefix-found bs es k rest) (starts_with nat_eq bs e.0) refl
  where
    go : (first_prefix bs es ≡ Some (k, rest) → (u : List ℕ) × Lists es u k × (bs ≡ u ++ rest)) → (v : Bool) → starts_with nat_eq bs e.0 ≡ v
        → (u : List ℕ) × Lists (e ∷ es) u k × (bs ≡ u ++ rest)
    go more true is =
        let found : Some (e.1, drop (length e.0) bs) ≡ Some (k, rest) = rw is at h in
        let pair = some_is (e.1, drop (length e.0) bs) (k, rest) found in
        let value : e.1 ≡ k = ap (λ (x : K × List ℕ). x.0) pair in
        let left : drop (length e.0) bs ≡ rest = ap (λ (x : K × List ℕ). x.1) pair in
        (e.0, inl (refl, sym value), rw left at (starts_with-true e.0 bs is))
    go more false is =
        let found : first_prefix bs es ≡ Some (k, rest) = rw is at h in
        let m = more found in
        (m.0, inr m.1, m.2)

-- no entry is longer than one before it
abbrev pub longest_first : {K : Type 0} → List (List ℕ × K) → Bool
longest_first [] = true
longest_first (e ∷ es) = list_all (λ other. nat_le (length other.0) (length e.0)) es && longest_first es

no_longer : {K : Type 0} (n : ℕ) (table : List (List ℕ × K)) (u : List ℕ) (k : K)
    → list_all (λ other. nat_le (length other.0) n) table ≡ true → Lists table u k → length u ≤ n
no_longer n [] u k all listed = absurd listed
no_longer n (e ∷ es) u k all (inl here) =
    let parts = both (nat_le (length e.0) n) (list_all (λ other. nat_le (length other.0) n) es) all in
    rw (here.0) (leb-true _ _ parts.0)
no_longer n (e ∷ es) u k all (inr more) =
    let parts = both (nat_le (length e.0) n) (list_all (λ other. nat_le (length other.0) n) es) all in
    no_longer n es u k parts.1 more

-- where an entry stands at the front, what is found is no shorter
abbrev pub AtLeast : {K : Type 0} → List (List ℕ × K) → List ℕ → List ℕ → Type 0
AtLeast {K} table u other = (k : K) × (rest : List ℕ) × (first_prefix (u ++ other) table ≡ Some (k, rest)) × (length rest ≤ length other)

pub first_prefix-longest : {K : Type 0} (table : List (List ℕ × K)) (u other : List ℕ) (g : K) → longest_first table ≡ true
    → Lists table u g → AtLeast table u other
first_prefix-longest [] u other g order listed = absurd listed
first_prefix-longest {K} (e ∷ es) u other g order listed =
    let parts = both (list_all (λ entry. nat_le (length entry.0) (length e.0)) es) (longest_first es) order in
    go parts.0 (λ more. first_prefix-longest es u other g parts.1 more) listed (starts_with nat_eq (u ++ other) e.0) refl
  where
    go : list_all (λ entry. nat_le (length entry.0) (length e.0)) es ≡ true → (Lists es u g → AtLeast es u other) → Lists (e ∷ es) u g
        → (v : Bool) → starts_with nat_eq (u ++ other) e.0 ≡ v → AtLeast (e ∷ es) u other
    go all later (inl here) true is = (
      e.1,
      drop (length e.0) (u ++ other),
      rw is refl,
      simp (length-drop, length-append) (omega (arith, ap length here.0)),
    )
    go all later (inr more) true is = (
      e.1,
      drop (length e.0) (u ++ other),
      rw is refl,
      simp (length-drop, length-append) (omega (arith, no_longer (length e.0) es u g all more)),
    )
    go all later (inl here) false is = absurd
        (true≢false (sym (subst (λ (w : List ℕ). starts_with nat_eq (u ++ other) w ≡ true) here.0 (starts_with-append u other)) ∙ is))
    go all later (inr more) false is = let m = later more in (m.0, m.1, rw is m.2, m.3)

-- the punctuators alone are found whole
abbrev EachAlone : {K : Type 0} → List (List ℕ × K) → List (List ℕ × K) → Type 0
EachAlone table [] = Unit {0}
EachAlone table (e ∷ es) = (first_prefix e.0 table ≡ Some (e.1, [])) × EachAlone table es

alone : {K : Type 0} (table entries : List (List ℕ × K)) (u : List ℕ) (k : K) → EachAlone table entries → Lists entries u k
    → first_prefix u table ≡ Some (k, [])
alone table [] u k each listed = absurd listed
alone table (e ∷ es) u k each (inl here) = rw (here.0, here.1) each.0
alone table (e ∷ es) u k each (inr more) = alone table es u k each.1 more

each_punctuator : EachAlone punctuators punctuators
each_punctuator = (
  refl,
  (
    refl,
    (
      refl,
      (
        refl,
        (
          refl,
          (
            refl,
            (
              refl,
              (
                refl,
                (
                  refl,
                  (
                    refl,
                    (
                      refl,
                      (
                        refl,
                        (
                          refl,
                          (
                            refl,
                            (
                              refl,
                              (
                                refl,
                                (
                                  refl,
                                  (
                                    refl,
                                    (
                                      refl,
                                      (
                                        refl,
                                        (
                                          refl,
                                          (
                                            refl,
                                            (
                                              refl,
                                              (
                                                refl,
                                                (
                                                  refl,
                                                  (
                                                    refl,
                                                    (
                                                      refl,
                                                      (
                                                        refl,
                                                        (
                                                          refl,
                                                          (
                                                            refl,
                                                            (
                                                              refl,
                                                              (
                                                                refl,
                                                                (
                                                                  refl,
                                                                  (
                                                                    refl,
                                                                    (
                                                                      refl,
                                                                      (
                                                                        refl,
                                                                        (
                                                                          refl,
                                                                          (
                                                                            refl,
                                                                            (refl, (refl, (refl, (refl, (refl, (refl, (refl, tt))))))),
                                                                          ),
                                                                        ),
                                                                      ),
                                                                    ),
                                                                  ),
                                                                ),
                                                              ),
                                                            ),
                                                          ),
                                                        ),
                                                      ),
                                                    ),
                                                  ),
                                                ),
                                              ),
                                            ),
                                          ),
                                        ),
                                      ),
                                    ),
                                  ),
                                ),
                              ),
                            ),
                          ),
                        ),
                      ),
                    ),
                  ),
                ),
              ),
            ),
          ),
        ),
      ),
    ),
  ),
)

pub punctuator-alone : (u : List ℕ) (p : PunctKind) → Lists punctuators u p → punctuator_at u ≡ Some (p, [])
unfolding punctuator_at
punctuator-alone u p listed = alone punctuators punctuators u p each_punctuator listed

pub punctuator-longest : (u other : List ℕ) (p : PunctKind) → Lists punctuators u p
    → (k : PunctKind) × (rest : List ℕ) × (punctuator_at (u ++ other) ≡ Some (k, rest)) × (length rest ≤ length other)
unfolding punctuator_at
punctuator-longest u other p listed = first_prefix-longest punctuators u other p refl listed

pub punctuator-found : (bs : List ℕ) (k : PunctKind) (rest : List ℕ) → punctuator_at bs ≡ Some (k, rest)
    → (u : List ℕ) × Lists punctuators u k × (bs ≡ u ++ rest)
unfolding punctuator_at
punctuator-found bs k rest h = first_prefix-found bs punctuators k rest h

-- a test that each entry of a table passes
pub each_passes : {K : Type 0} (test : List ℕ → Bool) (table : List (List ℕ × K)) (u : List ℕ) (k : K)
    → list_all (λ e. test e.0) table ≡ true → Lists table u k → test u ≡ true
each_passes test [] u k all listed = absurd listed
each_passes test (e ∷ es) u k all (inl here) = let parts = both (test e.0) (list_all (λ entry. test entry.0) es) all in rw (here.0) parts.0
each_passes test (e ∷ es) u k all (inr more) =
    let parts = both (test e.0) (list_all (λ entry. test entry.0) es) all in
    each_passes test es u k parts.1 more

-- a punctuator has a byte
pub punctuator-shorter : (bs : List ℕ) (k : PunctKind) (rest : List ℕ) → punctuator_at bs ≡ Some (k, rest) → length rest < length bs
punctuator-shorter bs k rest h =
    let f = punctuator-found bs k rest h in
    let some : 0 < length f.0 = ltb-true _ _ (each_passes (λ u. nat_lt 0 (length u)) punctuators f.0 k refl f.1) in
    omega (arith, length-append f.0 rest, ap length f.2)
