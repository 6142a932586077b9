-- The reader's verdict, by what was counted of the body, and by the header.
use Rattle.std.proofs.Common.{◌≡◌, refl, ap, ◌∙◌, true, not, ◌&&◌, cond, List, [], ◌∷◌, ℕ, min, eqb, ltb, ℤ, length, zero-add}
use Rattle.std.proofs.Math.Option.{Option, none, some, get_or}
use Rattle.rules.specs.Sheets.{max_numbers, clauses, ends_closed}
use Rattle.rules.specs.Search.{found}
use Rattle.rules.specs.Dimacs.{max_bytes, Header, header}
use Rattle.rules.specs.Answers.{Check, check, refusal, Verdict, given, refused, judge}
use Rattle.rules.specs.Calls.{Read, refusal15, read}
use Rattle.rules.proofs.Refusals.{read-judges}
use Rattle.dimacs.specs.declared.body.Tally.{Tally}
use Rattle.dimacs.specs.Bodies.{numbers_in, nothing, counted_all, judged, sheet_of}
use Rattle.dimacs.specs.Verdicts.{body_verdict}

-- 12 where nothing was counted; else 13 and 15 by the counts
abbrev pub told : ℕ → ℕ → List ℤ → ℕ → Option Tally → Verdict Read
told v c zs room none = refused (refusal 12)
told v c zs room (some t) =
    cond (not (eqb t.zeros c && t.closed)) (refused (refusal 13)) (cond (ltb (min room max_numbers) t.numbers) (refused (refusal 15)) (given (record { inputs = v; numbers = zs })))

pub body-told : (v c : ℕ) (b : Option (List ℤ)) (room : ℕ) → body_verdict v c b room ≡ told v c (sheet_of b) room (judged nothing b)
unfolding body_verdict judge judged counted_all
body-told v c none room = refl
body-told v c (some zs) room = rw (zero-add (length zs), zero-add (clauses zs))

-- what was counted is in form
abbrev pub Formed : Option (List ℤ) → Option Tally → Type 0
Formed b none = Unit {0}
Formed b (some t) = (b ≡ some (sheet_of b)) × (t.numbers ≡ length (sheet_of b))

pub formed : (b : Option (List ℤ)) → Formed b (judged nothing b)
unfolding judged counted_all
formed none = tt
formed (some zs) = (refl, zero-add (length zs))

pub ruleset verdicts = (body-told, formed)

-- 10 for a long text, 11 without a header, and else the verdict on the body
body_checks : ℕ → ℕ → Option (List ℤ) → ℕ → List Check
body_checks v c b room =
    check 12 (not (found b)) ∷ check 13 (not (eqb (clauses (sheet_of b)) c && ends_closed true (sheet_of b))) ∷ refusal15 (length (sheet_of b)) (min room max_numbers) ∷ []

by_body : (v c : ℕ) (b : Option (List ℤ)) (room : ℕ) → judge (body_checks v c b room) (record { inputs = v; numbers = sheet_of b }) ≡ body_verdict v c b room
unfolding body_checks body_verdict judge
by_body v c none room = refl
by_body v c (some zs) room = refl

abbrev pub headed : Option Header → ℕ → Verdict Read
headed none room = refused (refusal 11)
headed (some h) room = body_verdict h.inputs h.clauses (numbers_in h.inputs h.body) room

abbrev header_from : Option Header → Header
header_from o = get_or o (record { inputs = 0; clauses = 0; body = [] })

by_header : (n : ℕ) (o : Option Header) (room : ℕ)
    → let h = header_from o in let b = numbers_in h.inputs h.body in
    judge (check 10 (ltb max_bytes n) ∷ check 11 (not (found o)) ∷ body_checks h.inputs h.clauses b room) (record { inputs = h.inputs; numbers = sheet_of b })
    ≡ cond (ltb max_bytes n) (refused (refusal 10)) (headed o room)
unfolding judge
by_header n none room = refl
by_header n (some h) room = ap (λ later. cond (ltb max_bytes n) (refused (refusal 10)) later) (by_body h.inputs h.clauses (numbers_in h.inputs h.body) room)

pub read_told : (text : List ℕ) (room : ℕ) → read text room ≡ cond (ltb max_bytes (length text)) (refused (refusal 10)) (headed (header text) room)
unfolding body_checks numbers_in
read_told text room = (read-judges text room).judged ∙ by_header (length text) (header text) room
