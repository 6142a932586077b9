-- The next setting may be sought from the last one on.
use mathlib.Core.Path.{◌≡◌, refl, sym, ap, ◌∙◌}
use mathlib.Core.Bool.{Bool, true, false, not, ◌&&◌, ◌||◌, and-true}
use mathlib.Core.List.{List, [], ◌∷◌, ◌++◌}
use mathlib.Core.Option.{some}
use Prim.Native.Nat.{ℕ, ◌-◌}
use lib.IntN.{ℤ}
use Rattle.rules.specs.declared.Row.{Row}
use Rattle.rules.specs.Words.{is_one, before, smaller, dashes, in_some}
use Rattle.rules.specs.Sheets.{satisfies}
use Rattle.rules.specs.Search.{smallest, not_below}
use Rattle.rules.specs.Method.{next}
use Rattle.rules.proofs.Logic.{test}
use Rattle.std.proofs.lemmas.Bool.{and_parts, and_from, or_parts, not-true, not_from_false}
use Rattle.rules.proofs.Bits.{bit-zero}
use Rattle.rules.proofs.Rows.{dashes-row, in_some-append}
use Rattle.rules.proofs.Orders.{IsOrder}
use Rattle.rules.proofs.Smallest.{smallest-same, resume}
use Rattle.search.specs.Question.{good}

-- What is good for more rows.
pub good-append : (a b : List ℤ) (xs ys : List Row) (s : ℕ) → good a b (xs ++ ys) s ≡ (good a b xs s && not (in_some ys s))
unfolding good
good-append a b xs ys s = rw (in_some-append xs ys s) (go (satisfies a s) (satisfies b s) (in_some xs s) (in_some ys s))
  where
    go : (p q x y : Bool) → (p && (q && not (x || y))) ≡ ((p && (q && not x)) && not y)
    go true true true y = refl
    go true true false y = refl
    go true false x y = refl
    go false q x y = refl

-- No setting is smaller than the one with 0 at every place.
pub none_below : (order : List ℕ) (s : ℕ) → smaller order s 0 ≡ false
unfolding smaller
none_below [] s = refl
none_below (v ∷ vs) s =
    ap (λ (b : Bool). before (is_one v s) b (smaller vs s 0)) (bit-zero (v - 1))
    ∙ test (is_one v s) (λ e. ap (λ (b : Bool). before b false (smaller vs s 0)) e) (λ e. ap (λ (b : Bool). before b false (smaller vs s 0)) e ∙ none_below vs s)

-- On, and in no row so far.
abbrev pub unheld : (ℕ → Bool) → List Row → ℕ → Bool
unheld on rows s = on s && not (in_some rows s)

-- The next setting is the smallest not below `last`.
unfoldable pub Resumes : List ℕ → (ℕ → Bool) → ℕ → List Row → Type 0
Resumes order on last rows = next order on rows ≡ smallest (not_below order last (unheld on rows)) order dashes

module _ (n : ℕ) (order : List ℕ) (o : IsOrder n order) (on : ℕ → Bool) where
  pub resumes-first : Resumes order on 0 []
  unfolding Resumes next
  resumes-first =
      smallest-same n order o (unheld on []) dashes (dashes-row n) (not_below order 0 (unheld on []))
      (λ t l h. sym (and-true (unheld on [] t)) ∙ ap (λ (b : Bool). unheld on [] t && not b) (sym (none_below order t)))

  pub resumes-next : (rows : List Row) (r : Row) (s : ℕ) → next order on rows ≡ some s → Resumes order on s (rows ++ (r ∷ []))
  unfolding Resumes next
  resumes-next rows r s e =
      resume n order o (unheld on rows) (unheld on (rows ++ (r ∷ []))) s
      (λ t h. let a = and_parts (on t) (not (in_some (rows ++ (r ∷ [])) t)) h in
      let b = or_parts (in_some rows t) (in_some (r ∷ []) t) (sym (in_some-append rows (r ∷ []) t) ∙ not-true (in_some (rows ++ (r ∷ [])) t) a.1) in
      and_from _ _ a.0 (not_from_false _ b.0))
      e

-- The search's answer, as the method asks for it.
module _ (n : ℕ) (order : List ℕ) (o : IsOrder n order) (a : List ℤ) (barred : List Row) where
  pub next-found : (last : ℕ) (rows : List Row) → Resumes order (good a [] barred) last rows
      → smallest (not_below order last (good a [] (barred ++ rows))) order dashes ≡ next order (good a [] barred) rows
  unfolding Resumes
  next-found last rows h =
      smallest-same n order o (not_below order last (good a [] (barred ++ rows))) dashes (dashes-row n) (not_below order last (unheld (good a [] barred) rows))
      (λ t l k. ap (λ (b : Bool). b && not (smaller order t last)) (good-append a [] barred rows t))
      ∙ sym h
