-- One more name that suits leaves what is known suiting.
use Rattle.std.proofs.Common.{◌≡◌, ℕ, List, [], sym, subst}
use Rattle.std.specs.Prelude.{Option, Some, IfSome}
use Rattle.std.specs.Str.{bytes_eq}
use Rattle.ec_iohw.specs.declared.table.IoTable.{IoTable}
use Rattle.ec_core.specs.Plain.{PlainProgram}
use Rattle.ec_check_names.specs.Laws.{InnerNamesHide, OuterNamesAreKnown}
use Rattle.ec_check_names.specs.Names.{Named, Names, found, with_outside, with_inside}
use Rattle.ec_check_expressions.specs.Known.{Known}
use Rattle.ec_check_expression_laws.specs.Laws.{naming, DeclarationsKeepSuiting}
use Rattle.ec_check_expression_laws.specs.Suits.{IsOf, Suits, IsWhole}
use Rattle.ec_check_expression_laws.proofs.SaidTypes.{if_both}

module _ (inner : InnerNamesHide) (outer : OuterNamesAreKnown) where
  -- what holds of the new name and of those that were known holds of all
  inside_holds : (P : Named → Type 0) (s : Names) (n : List ℕ) (what : Named) → ((m : List ℕ) → IfSome (found m s) P) → P what
      → (m : List ℕ) → IfSome (found m (with_inside n what s)) P
  inside_holds P s n what h k m =
      subst (λ (o : Option Named). IfSome o P) (sym (inner s m n what))
      (if_both (λ o. IfSome o P) (bytes_eq n m) (Some what) (found m s) (λ e. k) (λ e. h m))

  outside_holds : (P : Named → Type 0) (s : Names) (n : List ℕ) (what : Named) → s.inside ≡ []
      → ((m : List ℕ) → IfSome (found m s) P) → P what
      → (m : List ℕ) → IfSome (found m (with_outside n what s)) P
  outside_holds P s n what none h k m =
      subst (λ (o : Option Named). IfSome o P) (sym (outer s m n what none))
      (if_both (λ o. IfSome o P) (bytes_eq m n) (Some what) (found m s) (λ e. k) (λ e. h m))

  renamed : (p : PlainProgram) (io : IoTable) (f : ℕ) (k : Known) (s : Names) → Suits p io f k
      → ((m : List ℕ) → IfSome (found m s) (IsOf p f)) → Suits p io f (naming k s)
  renamed p io f k s h names = record {
    names = names;
    tags = h.tags;
    structs = h.structs;
    small = h.small;
    members = h.members;
    ports = h.ports;
  }

  pub declarations_keep_suiting : DeclarationsKeepSuiting
  declarations_keep_suiting k n what = record {
    inside = λ p io f h o. renamed p io f k (with_inside n what k.names) h (inside_holds (IsOf p f) k.names n what h.names o);
    outside = λ p io f none h o. renamed p io f k (with_outside n what k.names) h (outside_holds (IsOf p f) k.names n what none h.names o);
    types_inside = λ h o. record { names = inside_holds IsWhole k.names n what h.names o; tags = h.tags };
    types_outside = λ none h o. record { names = outside_holds IsWhole k.names n what none h.names o; tags = h.tags };
  }
