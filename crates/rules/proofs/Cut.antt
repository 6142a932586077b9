-- Why a row may be left: where nothing in it can pass, the search over it comes to nothing.
use mathlib.Core.Path.{◌≡◌}
use mathlib.Core.Bool.{Bool, true, false}
use mathlib.Core.List.{List, [], ◌∷◌}
use mathlib.Core.Option.{none}
use Prim.Native.Nat.{ℕ}
use Rattle.rules.specs.declared.Row.{Row}
use Rattle.rules.specs.Words.{fixes, at_zero, at_one}
use Rattle.rules.specs.Search.{smallest}
use Rattle.rules.proofs.Logic.{test, clash}
use Rattle.std.proofs.lemmas.Bool.{false_from_ne_true}

-- over any test `live` of a row: true where the row's value passes, and true of a row if it is true with one more variable fixed
module _ (P : ℕ → Bool) (live : Row → Bool) (leaf : (r : Row) → P r.value ≡ true → live r ≡ true)
    (less0 : (v : ℕ) (r : Row) → fixes r v ≡ false → live (at_zero v r) ≡ true → live r ≡ true)
    (less1 : (v : ℕ) (r : Row) → fixes r v ≡ false → live (at_one v r) ≡ true → live r ≡ true) where
  pub cut : (vs : List ℕ) (r : Row) → live r ≡ false → smallest P vs r ≡ none
  unfolding smallest
  cut [] r d = rw (false_from_ne_true (P r.value) (λ p. clash (leaf r p) d))
  cut (v ∷ vs) r d = test (fixes r v)
      (λ f. rw (f, cut vs r d))
      (λ f. rw (f, cut vs (at_zero v r) (false_from_ne_true _ (λ p. clash (less0 v r f p) d)), cut vs (at_one v r) (false_from_ne_true _ (λ p. clash (less1 v r f p) d))))
