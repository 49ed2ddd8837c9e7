-- Objects in overlaid frames.
use Rattle.std.proofs.Common.{◌≡◌, ◌≢◌, ◌⊎◌, inl, inr, ⊎_elim, ℕ, zero, suc, ◌+◌, ◌<◌, ◌≤◌, List, []}
use Rattle.std.proofs.Common.{◌∷◌, length, refl, sym, ap, ◌∙◌, subst, arith}
use Rattle.std.specs.Prelude.{Some, slice_get}
use Rattle.std.proofs.lemmas.Bool.{eq-eqb, cases_lt}
use Rattle.ec_check_recursion.specs.Rows.{LeadsTo}
use Rattle.ec_overlay.specs.Frames.{begin_of, need_of, AreOverlaid}
use Rattle.ec_overlay.specs.Objects.{Owned, bytes_in, frame_bytes, frame_sizes, bytes_before, object_at, AreOnChain}
use Rattle.ec_overlay.specs.Objects.{OverlaidObjectsStandApart}
use Rattle.ec_overlay.proofs.Most.{most_at}
use Rattle.ec_overlay.proofs.Overlaid.{frames-are-overlaid}

own_bytes : (f : ℕ) (o : Owned) → o.owner ≡ Some f → bytes_in f o.owner o.size ≡ o.size
own_bytes f o e = rw (e, eq-eqb f f refl) refl

no_bytes : (f : ℕ) (os : List Owned) → bytes_before f 0 os ≡ 0
no_bytes f [] = refl
no_bytes f (x ∷ os) = refl

-- an object ends in its frame
ends_in : (f i : ℕ) (os : List Owned) (o : Owned) → slice_get os i ≡ Some o → o.owner ≡ Some f
    → bytes_before f i os + o.size ≤ frame_bytes f os
ends_in f i [] o is own = cc
ends_in f zero (x ∷ os) o is own =
    let same : x ≡ o = cc in
    let b : bytes_in f x.owner x.size ≡ o.size = ap (λ (y : Owned). bytes_in f y.owner y.size) same ∙ own_bytes f o own in
    omega (arith, b)
ends_in f (suc i) (x ∷ os) o is own = let rest = ends_in f i os o is own in omega (arith, rest)

-- and before the next one of its function
ends_before : (f i j : ℕ) (os : List Owned) (o p : Owned) → i < j → slice_get os i ≡ Some o → o.owner ≡ Some f
    → slice_get os j ≡ Some p
    → bytes_before f i os + o.size ≤ bytes_before f j os
ends_before f i j [] o p l is own there = cc
ends_before f i zero (x ∷ os) o p l is own there = absurd (omega arith)
ends_before f zero (suc j) (x ∷ os) o p l is own there =
    let same : x ≡ o = cc in
    let b : bytes_in f x.owner x.size ≡ o.size = ap (λ (y : Owned). bytes_in f y.owner y.size) same ∙ own_bytes f o own in
    omega (arith, b)
ends_before f (suc i) (suc j) (x ∷ os) o p l is own there =
    let rest = ends_before f i j os o p (omega (arith, l)) is own there in omega (arith, rest)

-- an object of a function that there is ends in the area
pub ends_in_need : (rows : List (List ℕ)) (os : List Owned) (i f : ℕ) (o : Owned) → slice_get os i ≡ Some o → o.owner ≡ Some f
    → f < length rows → object_at rows os f i + o.size ≤ need_of rows (frame_sizes os)
ends_in_need rows os i f o is own l =
    let a = ends_in f i os o is own in
    let b = most_at (λ g. begin_of rows (frame_sizes os) g + frame_sizes os g) (length rows) f l in
    omega (arith, a, b)

-- what stands before the next object
pub before_more : (f i : ℕ) (os : List Owned) (o : Owned) → slice_get os i ≡ Some o
    → bytes_before f (i + 1) os ≡ bytes_before f i os + bytes_in f o.owner o.size
before_more f i [] o is = cc
before_more f zero (x ∷ os) o is =
    let same : x ≡ o = cc in
    let n = no_bytes f os in
    rw same (omega (arith, n))
before_more f (suc i) (x ∷ os) o is =
    let rest = before_more f i os o is in
    let next : suc i + 1 ≡ suc (i + 1) = omega arith in
    let there : bytes_before f (suc i + 1) (x ∷ os) ≡ bytes_in f x.owner x.size + bytes_before f (i + 1) os =
    ap (λ n. bytes_before f n (x ∷ os)) next in
    omega (arith, rest, there)

-- and before the end
pub before_all : (f : ℕ) (os : List Owned) → bytes_before f (length os) os ≡ frame_bytes f os
before_all f [] = refl
before_all f (x ∷ os) = let rest = before_all f os in omega (arith, rest)

module _ (rows : List (List ℕ)) (os : List Owned) (over : AreOverlaid rows (frame_sizes os))
    (few : (i f : ℕ) (o : Owned) → slice_get os i ≡ Some o → o.owner ≡ Some f → f < length rows) where
  abbrev at : ℕ → ℕ → ℕ
  at f i = object_at rows os f i

  abbrev One : ℕ → ℕ → Owned → Type 0
  One i f o = (slice_get os i ≡ Some o) × (o.owner ≡ Some f)

  in_frame : (i f : ℕ) (o : Owned) → One i f o → at f i + o.size ≤ begin_of rows (frame_sizes os) f + frame_bytes f os
  in_frame i f o one =
      let a = ends_in f i os o one.0 one.1 in
      omega (arith, a)

  -- of a function that calls the other
  by_call : (i j f g : ℕ) (o p : Owned) → One i f o → One j g p → LeadsTo rows g f → at f i + o.size ≤ at g j
  by_call i j f g o p one other leads =
      let a = in_frame i f o one in
      let b = over.apart f g leads in
      omega (arith, a, b)

  same_frame : (i j f g : ℕ) (o p : Owned) → One i f o → One j g p → f ≡ g → i < j → at f i + o.size ≤ at g j
  same_frame i j f g o p one other same l =
      let a = ends_before f i j os o p l one.0 one.1 other.0 in
      subst (λ h. at f i + o.size ≤ at h j) same (omega (arith, a))

  stand_apart : (i j f g : ℕ) (o p : Owned) → One i f o → One j g p → i ≢ j → AreOnChain rows f g
      → (at f i + o.size ≤ at g j) ⊎ (at g j + p.size ≤ at f i)
  stand_apart i j f g o p one other different chain =
      ⊎_elim
      (λ (same : f ≡ g).
      ⊎_elim (λ (l : i < j). inl (same_frame i j f g o p one other same l))
      (λ (l : j ≤ i). inr (same_frame j i g f p o other one (sym same) (omega (arith, l, different)))) (cases_lt i j))
      (λ calls. ⊎_elim (λ to. inl (by_call i j f g o p one other to)) (λ back. inr (by_call j i g f p o other one back)) calls)
      chain

pub overlaid-objects-stand-apart : OverlaidObjectsStandApart
overlaid-objects-stand-apart rows os never few =
    let over = frames-are-overlaid rows (frame_sizes os) never in
    record {
      apart = λ i j f g o p is own there owner different chain.
          stand_apart rows os over few i j f g o p (is, own) (there, owner) different chain;
      within = ends_in_need rows os;
    }
