-- One literal tried, and one place after another.
use mathlib.Core.Path.{◌≡◌, refl, ap, ◌∙◌}
use mathlib.Core.Bool.{Bool, true, false, cond}
use mathlib.Core.List.{List}
use Prim.Native.Nat.{ℕ, ◌+◌, ◌≤◌, ◌<◌}
use native.Mathlib.Numerals.{add-one}
use lib.ListN.{length, get_or, drop, drop_of_length-le}
use lib.Seq.{drop-cons}
use Rattle.std.specs.Prelude.{Option}
use Rattle.std.specs.Option.{is_some}
use Rattle.rules.specs.declared.Row.{Row}
use Rattle.rules.specs.declared.Setting.{Setting}
use Rattle.rules.specs.Words.{without}
use Rattle.rules.specs.Search.{found, smallest, holds_some}
use Rattle.rules.specs.Method.{widen_at}
use Rattle.search.specs.declared.question.Question.{Question}
use Rattle.search.specs.Question.{found_as}
use Rattle.search.specs.Good.{good_of}
use Rattle.search.proofs.Answered.{some-found}

-- `f`: what was found in the row without the literal of v
module _ (q : Question) (v : ℕ) (row wider : Row) (is : wider ≡ without v row) (f : Option Setting) (asked : found_as f ≡ smallest (good_of q) q.swift.now wider) where
  held : is_some f ≡ holds_some (good_of q) q.swift.now (without v row)
  held = some-found f ∙ ap found asked ∙ rw is refl

  pub literal-stays : true ≡ is_some f → row ≡ cond (holds_some (good_of q) q.swift.now (without v row)) row (without v row)
  literal-stays t = rw (← (t ∙ held))

  pub literal-goes : false ≡ is_some f → wider ≡ cond (holds_some (good_of q) q.swift.now (without v row)) row (without v row)
  literal-goes t = rw (← (t ∙ held)) is

module _ (order : List ℕ) (off : ℕ → Bool) (at : ℕ) (row : Row) where
  pub place-more : at < length order → (next : Row) → next ≡ cond (holds_some off order (without (get_or order at 0) row)) row (without (get_or order at 0) row)
      → widen_at (drop (at + 1) order) order off next ≡ widen_at (drop at order) order off row
  unfolding widen_at
  place-more h next n = rw (add-one, drop-cons order at 0 h, n)

  pub place_end : length order ≤ at → row ≡ widen_at (drop at order) order off row
  unfolding widen_at
  place_end h = rw (drop_of_length-le order h)
