-- What is good for a question, and what is live.
use Rattle.std.specs.Prelude.{Bool, ℕ}
use Rattle.rules.specs.declared.Row.{Row}
use Rattle.sheets.specs.Numbers.{numbers_of}
use Rattle.search.specs.declared.question.Question.{Question}
use Rattle.search.specs.Question.{good, live}

abbrev pub good_of : Question → ℕ → Bool
good_of q = good (numbers_of q.a.now) (numbers_of q.b.now) q.rows.now

abbrev pub live_of : Question → Row → Bool
live_of q = live (numbers_of q.a.now) (numbers_of q.b.now) q.rows.now
