-- Rows that stand one behind another in a run, and the marks of rows.
use mathlib.Core.Path.{◌≡◌, refl, ap, ◌∙◌, fun_ext}
use mathlib.Core.Bool.{Bool, cond}
use mathlib.Core.List.{List, [], ◌∷◌, ◌++◌, append_assoc}
use Prim.Native.Nat.{ℕ, suc, ◌+◌, ◌-◌}
use native.Mathlib.Omega.{arith}
use lib.ListN.{length, take, drop}
use lib.Seq.{take_at, drop_at}
use Rattle.rules.specs.declared.Row.{Row}
use Rattle.rules.specs.Sheets.{satisfies, every_clause}
use Rattle.rules.specs.Method.{marks_after, needed, all}
use Rattle.rules.specs.Words.{in_some}
use Rattle.search.specs.Question.{good}
use Rattle.method.specs.Lent.{behind}

-- with no clauses and no rows every setting counts
pub all-count : good [] [] [] ≡ all
unfolding good satisfies every_clause in_some
all-count = fun_ext (λ s. refl)

pub marks-length : (counts : ℕ → Bool) (order : List ℕ) (before rest : List Row) → length (marks_after counts order before rest) ≡ length rest
unfolding marks_after
marks-length counts order before [] = refl
marks-length counts order before (r ∷ rest) =
    let stays = needed counts order r (before ++ rest) in
    ap suc (marks-length counts order (cond stays (before ++ (r ∷ [])) before) rest)

-- a run that begins with rows: those first, and those behind them
module _ (first rows rest : List Row) (m : ℕ) (e : length first ≡ m) where
  pub front-rows : take m ((first ++ rows) ++ rest) ≡ first
  front-rows = ap (take m) (append_assoc first rows rest) ∙ take_at first (rows ++ rest) m e

  pub behind-rows : (k : ℕ) → length rows ≡ k → behind m k ((first ++ rows) ++ rest) ≡ rows
  behind-rows k f =
      ap (λ (all : List Row). take k (drop m all)) (append_assoc first rows rest)
      ∙ ap (take k) (drop_at first (rows ++ rest) m e)
      ∙ take_at rows rest k f

-- the k rows behind the first m are the run from m up to m + k
pub between-rows : (rows : List Row) (m k : ℕ) → take (m + k - m) (drop m rows) ≡ behind m k rows
between-rows rows m k = let s : m + k - m ≡ k = omega arith in ap (λ (n : ℕ). take n (drop m rows)) s
