-- A refusal's line: what stands in it, and its length.
use Rattle.std.proofs.Common.{◌≡◌, refl, ap, ℕ, zero, suc, ◌≤◌, ◌<◌, ◌⊎◌, inl, inr, List, [], ◌∷◌, ◌++◌, length, length-append, arith}
use Rattle.rules.specs.Words.{max_inputs}
use Rattle.rules.specs.declared.Refusal.{Refusal}
use Rattle.rules.specs.declared.Refusal.TheVariants.{Inputs, Order, OnSheet, OffSheet, Asked, Collision, TooManyRows, GivenList, GivenSetting, LongText, Header, Token, Clauses, OtherInputs, Room}
use Rattle.rules.specs.declared.Setting.{Setting}
use Rattle.rules.specs.Answers.{refusal_reply}
use Rattle.rules.specs.Dimacs.{ascii}
use Rattle.rules.specs.Pla.{digits, setting_chars}
use Rattle.rules.specs.Program.{settings_line, refusal_line}
use Rattle.rules.proofs.Lines.{digits-two}
use Rattle.rules.proofs.Logic.{either}
use Rattle.pla.specs.declared.writer.Writer.{Writer}
use Rattle.pla.specs.Written.{Writes, WritesEach}
use Rattle.pla.proofs.Positions.{positions}
use Rattle.pla.proofs.Writing.{writes_run}
use Rattle.printing.specs.Results.{settings_part}

-- a refusal's number is 1 to 15, and it returns its setting or nothing
pub kinds : (f : Refusal) → (0 < (refusal_reply f).number) × ((refusal_reply f).number ≤ 15) × (((refusal_reply f).values ≡ []) ⊎ ((s : Setting) × (f ≡ Collision s)))
kinds Inputs = (omega arith, omega arith, inl refl)
kinds Order = (omega arith, omega arith, inl refl)
kinds OnSheet = (omega arith, omega arith, inl refl)
kinds OffSheet = (omega arith, omega arith, inl refl)
kinds Asked = (omega arith, omega arith, inl refl)
kinds (Collision s) = (omega arith, omega arith, inr (s, refl))
kinds TooManyRows = (omega arith, omega arith, inl refl)
kinds GivenList = (omega arith, omega arith, inl refl)
kinds GivenSetting = (omega arith, omega arith, inl refl)
kinds LongText = (omega arith, omega arith, inl refl)
kinds Header = (omega arith, omega arith, inl refl)
kinds Token = (omega arith, omega arith, inl refl)
kinds Clauses = (omega arith, omega arith, inl refl)
kinds OtherInputs = (omega arith, omega arith, inl refl)
kinds Room = (omega arith, omega arith, inl refl)

pub setting-size : (v k s : ℕ) → length (setting_chars v k s) ≡ k
unfolding setting_chars
setting-size v zero s = refl
setting-size v (suc k) s = ap suc (setting-size (suc v) k s)

-- its end comes behind the setting
pub settings-end : (n : ℕ) (vs : List ℕ) → settings_line n vs ≡ settings_part n vs ++ ascii "\n"
settings-end n [] = refl
settings-end n (s ∷ more) = refl

-- the line has at most 35 bytes
one-digit : length (digits 6) ≡ 1
unfolding digits
one-digit = refl

pub line-most : (n : ℕ) (f : Refusal) → n ≤ max_inputs → length (refusal_line n (refusal_reply f)) ≤ 35
line-most n f l =
    let (some, few, kind) = kinds f in
    let two : length (digits (refusal_reply f).number) ≤ 2 = digits-two (refusal_reply f).number (omega arith) in
    either kind (λ e. rw e (omega (arith, two, length-append (digits (refusal_reply f).number) (ascii "\n"))))
    λ (s, e). rw e (omega (arith, one-digit, length-append (digits 6) (ascii " " ++ (setting_chars 1 n s.0 ++ ascii "\n")), length-append (setting_chars 1 n s.0) (ascii "\n"), setting-size 1 n s.0))

-- a setting's characters, where each one put is the setting's for its variable
pub writes-setting : {is_for : ℕ → ℕ → Type 0} {k : ℕ} {old writer : Writer} (s : ℕ) → ((v ch : ℕ) → is_for v ch → ch ∷ [] ≡ setting_chars v 1 s)
    → WritesEach is_for k old writer → Writes old (setting_chars 1 k s) writer
unfolding setting_chars
writes-setting s so p = writes_run (λ v k. setting_chars v k s) (λ v. refl) (λ v k. refl) so p

-- nothing is returned but by a collision
pub no-values : (f : Refusal) → ((s : Setting) → f ≡ Collision s → ⊥) → (refusal_reply f).values ≡ []
no-values f h = either (kinds f).2 (λ e. e) λ (s, e). absurd (h s e)

pub ruleset lines = (settings-end, setting-size, positions)
