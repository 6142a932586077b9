-- The reader's verdict on a text whose length and header are in form.
use Rattle.std.specs.Prelude.{true, not, ◌&&◌, List, [], ◌∷◌, ℕ, min, eqb, ℤ, length}
use Rattle.std.proofs.Math.Option.{Option, none, some}
use Rattle.rules.specs.Sheets.{max_numbers, clauses, ends_closed}
use Rattle.rules.specs.Answers.{check, refusal, Verdict, refused, judge, after}
use Rattle.rules.specs.Calls.{Read, refusal15}
use Rattle.dimacs.specs.declared.header.Header.{Header}
use Rattle.dimacs.specs.Bodies.{numbers_of}

-- for V, C, the body's numbers (nothing where a token is not in form) and so many cells
unfoldable pub body_verdict : ℕ → ℕ → Option (List ℤ) → ℕ → Verdict Read
body_verdict v c none room = refused (refusal 12)
body_verdict v c (some zs) room =
    judge (check 13 (not (eqb (clauses zs) c && ends_closed true zs)) ∷ refusal15 (length zs) (min room max_numbers) ∷ [])
    (record { inputs = v; numbers = zs })

-- for a header that was read
abbrev pub verdict_for : Header → ℕ → Verdict Read
verdict_for h room = body_verdict h.body.inputs.count h.clauses (numbers_of h.body) room

-- the cells afterwards
abbrev pub cells_of : Verdict Read → List ℤ → List ℤ
cells_of r old = after (λ x. x.numbers) r old
