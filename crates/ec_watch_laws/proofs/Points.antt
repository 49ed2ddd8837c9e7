-- A prefix of the accesses of events that ends with a watched access ends with an event.
use Rattle.std.proofs.Common.{◌≡◌, Bool, true, false, List, [], ◌∷◌, ◌++◌, refl, sym, ap, ◌∙◌, subst, append_assoc, append-nil}
use Rattle.std.specs.List.{AllByRecursion}

true_false : (h : Bool) → h ≡ true → h ≡ false → ⊥
true_false true f g = cc
true_false false f g = cc

module _ {E A : Type 0} (bytes : E → List A) (watched : A → Bool) where
  -- all accesses of events
  abbrev pub expand : List E → List A
  expand [] = []
  expand (e ∷ es) = bytes e ++ expand es

  -- none of them is watched
  abbrev pub IsSilent : List A → Type 0
  IsSilent found = AllByRecursion (λ a. watched a ≡ false) found

  -- only the last access of this event is watched
  pub record IsPoint (e : E) : Type 0 where
    pub front : List A
    pub last : A
    pub is : bytes e ≡ front ++ last ∷ []
    pub silent : IsSilent front
    pub told : watched last ≡ true

  -- each event is one of these, or has no watched access
  pub data Kind (e : E) : Type 0 where
    point : IsPoint e → Kind e
    other : IsSilent (bytes e) → Kind e

  abbrev pub HaveKinds : List E → Type 0
  HaveKinds es = AllByRecursion Kind es

  -- the first accesses of events, up to a watched one, are all accesses of the first events, of which the last is a point
  pub record EndsAtEvent (es : List E) (found : List A) : Type 0 where
    pub before : List E
    pub at : E
    pub behind : List E
    pub events : es ≡ before ++ at ∷ behind
    pub all : found ≡ expand (before ++ at ∷ [])
    pub is_point : IsPoint at

  head_is : (x y : A) (xs ys : List A) → x ∷ xs ≡ y ∷ ys → (x ≡ y) × (xs ≡ ys)
  head_is x y xs ys e = let h : x ≡ y = cc in let t : xs ≡ ys = cc in (h, t)

  -- behind accesses that are not watched, the watched one stands in what follows
  past : (silent first : List A) (a : A) (more rest : List A) → IsSilent silent → watched a ≡ true → first ++ a ∷ more ≡ silent ++ rest
      → (left : List A) × ((first ≡ silent ++ left) × (left ++ a ∷ more ≡ rest))
  past [] first a more rest s w e = (first, (refl, e))
  past (x ∷ silent) [] a more rest s w e =
      let h = head_is a x more (silent ++ rest) e in absurd (true_false (watched x) (subst (λ y. watched y ≡ true) h.0 w) s.0)
  past (x ∷ silent) (y ∷ first) a more rest s w e =
      let h = head_is y x (first ++ a ∷ more) (silent ++ rest) e in
      let r = past silent first a more rest s.1 w h.1 in
      (r.0, (ap (λ z. z ∷ first) h.0 ∙ ap (λ t. x ∷ t) r.1.0, r.1.1))

  pub ends : (es : List E) (first : List A) (a : A) (more : List A) → HaveKinds es → first ++ a ∷ more ≡ expand es → watched a ≡ true
      → EndsAtEvent es (first ++ a ∷ [])
  ends [] [] a more k e w = cc
  ends [] (x ∷ first) a more k e w = cc
  ends (v ∷ es) first a more k e w = by_kind k.0 (λ left f. ends es left a more k.1 f w)
    where
      later : (left : List A) → first ≡ bytes v ++ left → EndsAtEvent es (left ++ a ∷ []) → EndsAtEvent (v ∷ es) (first ++ a ∷ [])
      later left f r = record {
        before = v ∷ r.before;
        at = r.at;
        behind = r.behind;
        events = ap (λ t. v ∷ t) r.events;
        all = ap (λ t. t ++ a ∷ []) f ∙ append_assoc (bytes v) left (a ∷ []) ∙ ap (λ t. bytes v ++ t) r.all;
        is_point = r.is_point;
      }

      by_left : (p : IsPoint v) → ((left : List A) → left ++ a ∷ more ≡ expand es → EndsAtEvent es (left ++ a ∷ [])) → (left : List A)
          → first ≡ p.front ++ left → left ++ a ∷ more ≡ p.last ∷ expand es → EndsAtEvent (v ∷ es) (first ++ a ∷ [])
      by_left p ih [] f g =
          let h = head_is a p.last more (expand es) g in
          record {
            before = [];
            at = v;
            behind = es;
            events = refl;
            all = ap (λ t. t ++ a ∷ []) f ∙ append_assoc p.front [] (a ∷ []) ∙ ap (λ y. p.front ++ y ∷ []) h.0 ∙ sym p.is
                ∙ sym (append-nil (bytes v));
            is_point = p;
          }
      by_left p ih (x ∷ left) f g =
          let h = head_is x p.last (left ++ a ∷ more) (expand es) g in
          later left (f ∙ ap (λ y. p.front ++ y ∷ left) h.0 ∙ sym (append_assoc p.front (p.last ∷ []) left)
          ∙ ap (λ t. t ++ left) (sym p.is)) (ih left h.1)

      by_kind : Kind v → ((left : List A) → left ++ a ∷ more ≡ expand es → EndsAtEvent es (left ++ a ∷ []))
          → EndsAtEvent (v ∷ es) (first ++ a ∷ [])
      by_kind (other s) ih = let r = past (bytes v) first a more (expand es) s w e in later r.0 r.1.0 (ih r.0 r.1.1)
      by_kind (point p) ih =
          let same : bytes v ++ expand es ≡ p.front ++ (p.last ∷ expand es) =
          ap (λ t. t ++ expand es) p.is ∙ append_assoc p.front (p.last ∷ []) (expand es) in
          let r = past p.front first a more (p.last ∷ expand es) p.silent w (e ∙ same) in
          by_left p ih r.0 r.1.0 r.1.1
