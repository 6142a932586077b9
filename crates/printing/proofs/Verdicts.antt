-- What an answer says of the verdict behind it.
use Rattle.std.proofs.Common.{◌≡◌, refl, sym, ap, subst, ◌∙◌, true, ℕ, ◌≤◌, ◌<◌, List, [], ◌∷◌, ltb, ℤ, length, take, drop, length-append, Result, Ok, Err, arith}
use borrow.Author.Tests.{ltb-true}
use Rattle.rules.specs.declared.Refusal.{Refusal}
use Rattle.rules.specs.Words.{max_inputs}
use Rattle.rules.specs.Answers.{Reply, Check, Verdict, answered, given, refused, judge, refusal_reply, read_reply, write_reply, reply_of, after}
use Rattle.rules.specs.Calls.{Read, read, read_values, first}
use Rattle.rules.proofs.Logic.{test}
use Rattle.std.proofs.lemmas.Bool.{and_parts}
use Rattle.rules.proofs.Judged.{ascend_from, judge-none, judge-applies, judge-passes, given-not-refused, refused-inj, given-first}
use Rattle.rules.proofs.Refusals.{Judges, given-none, read_result, read-judges}
use Rattle.rules.proofs.ReadForm.{read-form}
use Rattle.printing.proofs.Lines.{kinds}

-- the number of a refusal that is judged is not 0
judged-number : {A : Type 0} (a : A) (k : ℕ) (cs : List Check) {r : Reply} → ascend_from k cs ≡ true → judge cs a ≡ refused r → k < r.number
judged-number a k [] up h = given-not-refused (judge-none a [] tt) h
judged-number {A} a k (c ∷ cs) {r} up h =
    let (low, more) = and_parts (ltb k c.reply.number) (ascend_from c.reply.number cs) up in
    let below = ltb-true k c.reply.number low in
    test c.applies
    (λ t. subst (λ x. k < x.number) (refused-inj {A = A} (sym (judge-applies a c cs t) ∙ h)) below)
    (λ f. let above = judged-number a c.reply.number cs more (sym (judge-passes a c cs f) ∙ h) in omega arith)

-- number 0 is the result's, and any other the refusal's
pub result-given : {A : Type 0} (v : Verdict A) {cs : List Check} {a : A} (values : A → List ℕ) {vs : List ℕ} → Judges v cs a → answered vs ≡ reply_of values v
    → (v ≡ given a) × (vs ≡ values a)
result-given (given b) values j says = let same = sym (given-none j refl).0 in (ap given same, ap (λ r. r.values) says ∙ ap values same)
result-given (refused r) {cs} {a} values j says =
    let above = judged-number a 0 cs j.ascends (sym j.judged) in let zero : 0 ≡ r.number = ap (λ x. x.number) says in absurd (omega arith)

pub refusal-refused : {A : Type 0} (v : Verdict A) (values : A → List ℕ) (f : Refusal) → refusal_reply f ≡ reply_of values v → v ≡ refused (refusal_reply f)
refusal-refused (given b) values f e = let above = (kinds f).0 in let zero = ap (λ r. r.number) e in absurd (omega arith)
refusal-refused (refused r) values f e = ap refused (sym e)

-- The reader's answer: so many of the numbers are the sheet, over so many inputs.
pub record Sheet (text : List ℕ) (room : ℕ) (numbers : List ℤ) (inputs count : ℕ) : Type 0 where
  pub few : inputs ≤ max_inputs
  pub within : count ≤ length numbers
  pub sheet : read text room ≡ given (record { inputs = inputs; numbers = take count numbers })

both : {a b c d : ℕ} → a ∷ b ∷ [] ≡ c ∷ d ∷ [] → (a ≡ c) × (b ≡ d)
both e = (cc, cc)

pub sheet-read : {text : List ℕ} {room : ℕ} {numbers : List ℤ} {inputs count : ℕ} (old : List ℤ) → read_reply (Ok (inputs, count)) ≡ reply_of read_values (read text room)
    → numbers ≡ after (λ (x : Read). x.numbers) (read text room) old → Sheet text room numbers inputs count
sheet-read {text} {room} {numbers} {inputs} {count} old says leaves =
    let x = read_result text in
    let (g, counts) = result-given (read text room) read_values (read-judges text room) says in
    let (i, k) = both counts in
    let cells : take count numbers ≡ x.numbers = rw (k, leaves) (given-first (λ (x : Read). x.numbers) g old).0 in
    record {
      few = rw i (read-form text room g).at_most;
      within = omega (arith, ap length leaves, ap (λ v. length (after (λ (x : Read). x.numbers) v old)) g, length-append x.numbers (drop (length x.numbers) old));
      sheet = rw (i, cells) g;
    }

-- The writer's answer, where the text is given.
pub text-answer : (answer : Result ℕ Refusal) {v : Verdict (List ℕ)} {text : List ℕ} → v ≡ given text → write_reply answer ≡ reply_of (λ t. length t ∷ []) v
    → answer ≡ Ok (length text)
text-answer (Ok size) g says = ap Ok (ap (λ r. first r.values) (says ∙ ap (reply_of (λ t. length t ∷ [])) g))
text-answer (Err f) g says = given-not-refused g (refusal-refused _ (λ t. length t ∷ []) f says)
