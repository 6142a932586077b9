-- What a writer has put: nothing, bytes and then bytes, and a character for each of some variables.
use Rattle.std.proofs.Common.{◌≡◌, refl, ℕ, suc, ◌+◌, ◌≤◌, List, [], ◌∷◌, ◌++◌, length, arith, ◌∙◌}
use Rattle.rules.specs.declared.Row.{Row}
use Rattle.rules.specs.Pla.{row_chars}
use Rattle.pla.specs.declared.writer.Writer.{Writer}
use Rattle.pla.specs.Written.{Writes, Each, WritesEach}
use Rattle.pla.proofs.Positions.{puts_none, positions}

pub writes_none : (writer : Writer) → writer.at ≤ length writer.text.now → Writes writer [] writer
writes_none writer l = record { same = refl; puts = puts_none writer.at writer.text.now l }

pub writes-then : {old between writer : Writer} {xs ys : List ℕ} → old.at ≤ length old.text.now → Writes old xs between → Writes between ys writer
    → Writes old (xs ++ ys) writer
writes-then l p q = grind (arith, positions)

module _ (is_for : ℕ → ℕ → Type 0) where
  pub each_none : (writer : Writer) → writer.at ≤ length writer.text.now → WritesEach is_for 0 writer writer
  each_none writer l = record { chars = []; size = refl; each = tt; writes = writes_none writer l }

  each-append : (v : ℕ) (chars : List ℕ) (ch : ℕ) → Each is_for v chars → is_for (v + length chars) ch → Each is_for v (chars ++ (ch ∷ []))
  each-append v [] ch p q = let here : v + 0 ≡ v = omega arith in (rw here at q, tt)
  each-append v (c ∷ chars) ch p q = let here : v + suc (length chars) ≡ suc v + length chars = omega arith in (p.0, each-append (suc v) chars ch p.1 (rw here at q))

  pub each_more : {old between writer : Writer} {k : ℕ} (ch : ℕ) → old.at ≤ length old.text.now → WritesEach is_for k old between → is_for (k + 1) ch
      → Writes between (ch ∷ []) writer → WritesEach is_for (k + 1) old writer
  each_more {k = k} ch l p here_is q =
      record {
        chars = p.chars ++ (ch ∷ []);
        size = grind (arith, positions);
        each = each-append 1 p.chars ch p.each (let here : 1 + length p.chars ≡ k + 1 = omega (arith, p.size) in rw here here_is);
        writes = writes-then l p.writes q;
      }

-- the characters of a run that has `of v k` for k variables from v on, where each one is the run's for its variable
module _ (of : ℕ → ℕ → List ℕ) (none : (v : ℕ) → of v 0 ≡ []) (next : (v k : ℕ) → of v (suc k) ≡ of v 1 ++ of (suc v) k) where
  each-is : {is_for : ℕ → ℕ → Type 0} → ((v ch : ℕ) → is_for v ch → ch ∷ [] ≡ of v 1) → (v : ℕ) (chars : List ℕ) → Each is_for v chars → of v (length chars) ≡ chars
  each-is so v [] p = none v
  each-is so v (ch ∷ chars) p = next v (length chars) ∙ rw (← so v ch p.0, each-is so (suc v) chars p.1)

  pub writes_run : {is_for : ℕ → ℕ → Type 0} {k : ℕ} {old writer : Writer} → ((v ch : ℕ) → is_for v ch → ch ∷ [] ≡ of v 1) → WritesEach is_for k old writer
      → Writes old (of 1 k) writer
  writes_run {old = old} {writer = writer} so p = rw (← p.size, each-is so 1 p.chars p.each) p.writes

pub writes-row : {is_for : ℕ → ℕ → Type 0} {k : ℕ} {old writer : Writer} (r : Row) → ((v ch : ℕ) → is_for v ch → ch ∷ [] ≡ row_chars v 1 r)
    → WritesEach is_for k old writer → Writes old (row_chars 1 k r) writer
unfolding row_chars
writes-row r so p = writes_run (λ v k. row_chars v k r) (λ v. refl) (λ v k. refl) so p
