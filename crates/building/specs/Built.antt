-- What list building is asked, and what it answers.
use Rattle.std.specs.Prelude.{◌≡◌, true, false, List, [], ℕ, Bool, length, take, drop, Result, Ok, Err}
use Rattle.std.proofs.Math.Option.{Option}
use Rattle.rules.specs.declared.Row.{Row}
use Rattle.rules.specs.declared.Refusal.{Refusal}
use Rattle.rules.specs.Method.{generated, complete}
use Rattle.rules.specs.Answers.{Verdict, given, refused, refusal_reply}
use Rattle.rules.specs.Search.{found}
use Rattle.rules.specs.Calls.{Partial, collision, listed, whole_for, partial_for}
use Rattle.method.specs.Blank.{solid}
use Rattle.method.specs.Lent.{asks, behind}
use Rattle.building.specs.declared.lent.Lent.{Lent}
use Rattle.building.specs.declared.build.Built.{Built}
use Rattle.method.specs.declared.generate.Generated.{Generated}

-- the rows that the other clauses of each sheet bar
abbrev pub off_rows : Lent → List Row
off_rows lent = take lent.offs lent.both.now

abbrev pub on_rows : Lent → List Row
on_rows lent = drop lent.offs lent.both.now

-- the count rows of a run that stand behind those that on's other clauses bar
abbrev pub generated_in : Lent → ℕ → List Row → List Row
generated_in lent count kept = behind (length (on_rows lent)) count kept

-- the settings that each sheet asks for
abbrev pub off_at : Lent → ℕ → Bool
off_at lent = asks lent.off.now (off_rows lent)

abbrev pub on_at : Lent → ℕ → Bool
on_at lent = asks lent.on.now (on_rows lent)

-- what the list calls give where only these settings are looked at, with room for so many rows
abbrev pub whole_of : Lent → ℕ → Verdict (List Row)
whole_of lent room = whole_for [] lent.order.now (on_at lent) (off_at lent) room

abbrev pub part_of : Lent → ℕ → ℕ → Verdict Partial
part_of lent k room = partial_for [] lent.order.now (on_at lent) (off_at lent) k room

-- the smallest setting that both ask for, and the first k generated rows
abbrev pub collision_of : Lent → Option ℕ
collision_of lent = collision lent.order.now (on_at lent) (off_at lent)

abbrev pub generated_of : Lent → ℕ → List Row
generated_of lent k = generated lent.order.now (on_at lent) (off_at lent) k

-- the sheets collide, and the refusal says at which setting
pub record Collides (lent : Lent) (f : Refusal) : Type 0 where
  pub met : found (collision_of lent) ≡ true
  pub reply : refusal_reply f ≡ record { number = 6; values = listed (collision_of lent) }

-- they do not; the rows are the first k generated ones, and it is told whether generation has no more
pub record Made (lent : Lent) (k : ℕ) (rows : List Row) (whole : Bool) : Type 0 where
  pub apart : found (collision_of lent) ≡ false
  pub rows_are : rows ≡ generated_of lent k
  pub whole_is : whole ≡ complete lent.order.now (on_at lent) (generated_of lent k)

-- an answer, and the run after it, as a verdict: the list is the generated rows that are no blanks
abbrev pub built_as : Lent → Result Built Refusal → List Row → Verdict (List Row)
built_as lent (Ok built) kept = given (solid (generated_in lent built.generated kept))
built_as lent (Err f) kept = refused (refusal_reply f)

abbrev pub part_as : Lent → Result Generated Refusal → List Row → Verdict Partial
part_as lent (Ok part) kept = given (record { rows = generated_in lent part.count kept; is_all = part.complete })
part_as lent (Err f) kept = refused (refusal_reply f)
