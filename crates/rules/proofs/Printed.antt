-- Demand 3 of the program: what is printed for two texts that read as sheets over the same inputs.
use mathlib.Core.Path.{◌≡◌, sym, ap, ◌∙◌, subst}
use mathlib.Core.Bool.{true, false, not}
use mathlib.Core.List.{List, [], ◌∷◌}
use Prim.Native.Nat.{ℕ, ◌^◌, ◌<◌}
use lib.Dec.{eqb}
use borrow.Author.Tests.{eq-eqb}
use Rattle.rules.specs.declared.Row.{Row}
use Rattle.rules.specs.Words.{in_some, natural}
use Rattle.rules.specs.Sheets.{max_numbers, satisfies, well_formed}
use Rattle.rules.specs.Method.{max_rows}
use Rattle.rules.specs.Answers.{given, check}
use Rattle.rules.specs.Pla.{text_of, read_at}
use Rattle.rules.specs.Calls.{Read, lent, read, whole}
use Rattle.rules.specs.Program.{shown, list_output, output}
use Rattle.std.proofs.lemmas.Bool.{not_from_true}
use Rattle.rules.proofs.Judged.{judge-none}
use Rattle.rules.proofs.ReadForm.{read-form}
use Rattle.rules.proofs.Same.{Same}
use Rattle.rules.proofs.Demands.{text-reads-as-list, text-reads-on, text-reads-off, wording-is-nothing, Decides, equal-bytes-equal-settings}

-- Two texts that read as sheets over the same inputs.
pub record ReadAs (on_text off_text : List ℕ) (on off : Read) : Type 0 where
  pub on_read : read on_text max_numbers ≡ given on
  pub off_read : read off_text max_numbers ≡ given off
  pub same_inputs : on.inputs ≡ off.inputs

module _ (on_text off_text : List ℕ) (on off : Read) (reads : ReadAs on_text off_text on off) where
  -- The output is the list's text, or its refusal's line.
  pub output-is : output on_text off_text ≡ list_output on.inputs on off
  unfolding output
  output-is =
      let passed = judge-none on.inputs (check 14 (not (eqb on.inputs off.inputs)) ∷ []) (not_from_true _ (eq-eqb on.inputs off.inputs reads.same_inputs), tt) in
      rw (reads.on_read, reads.off_read, passed)

  -- An accepted pair: the whole list gives rows.
  module _ (rows : List Row) (accepted : whole on.inputs (lent (natural on.inputs)) (lent on.numbers) (lent off.numbers) max_rows ≡ given rows) where
    pub printed-text : output on_text off_text ≡ text_of on.inputs rows
    unfolding list_output
    printed-text = output-is ∙ rw accepted

    -- Read row by row, the output gives the list's value, 1 on each on setting and 0 on each off setting.
    pub printed-value : (s : ℕ) → s < 2 ^ on.inputs → read_at (output on_text off_text) s ≡ in_some rows s
    printed-value s l = ap (λ (t : List ℕ). read_at t s) printed-text ∙ text-reads-as-list on.inputs _ _ _ max_rows rows accepted s l

    pub printed-on : (s : ℕ) → s < 2 ^ on.inputs → satisfies on.numbers s ≡ true → read_at (output on_text off_text) s ≡ true
    printed-on s l h = ap (λ (t : List ℕ). read_at t s) printed-text ∙ text-reads-on on.inputs _ _ _ max_rows rows accepted s l h

    pub printed-off : (s : ℕ) → s < 2 ^ on.inputs → satisfies off.numbers s ≡ true → read_at (output on_text off_text) s ≡ false
    printed-off s l h = ap (λ (t : List ℕ). read_at t s) printed-text ∙ text-reads-off on.inputs _ _ _ max_rows rows accepted s l h

-- What is read is well formed over the inputs that its header names.
formed : (text : List ℕ) (x : Read) → read text max_numbers ≡ given x → well_formed x.inputs x.numbers ≡ true
formed text x e = (read-form text max_numbers e).sheet

module _ (on_text off_text on_text' off_text' : List ℕ) (on off on' off' : Read) (reads : ReadAs on_text off_text on off) (reads' : ReadAs on_text' off_text' on' off') where
  -- Equal inputs, on settings and off settings give equal bytes or the same refusal line, however the texts are worded.
  pub same-output : on.inputs ≡ on'.inputs → Same on.inputs (satisfies on.numbers) (satisfies on'.numbers)
      → Same on.inputs (satisfies off.numbers) (satisfies off'.numbers) → output on_text off_text ≡ output on_text' off_text'
  unfolding list_output
  same-output n a b =
      let k = on.inputs in
      let on_formed = not_from_true _ (formed on_text on reads.on_read) in
      let on_formed' = not_from_true _ (subst (λ m. well_formed m on'.numbers ≡ true) (sym n) (formed on_text' on' reads'.on_read)) in
      let off_formed = not_from_true _ (subst (λ m. well_formed m off.numbers ≡ true) (sym reads.same_inputs) (formed off_text off reads.off_read)) in
      let off_formed' = not_from_true _ (subst (λ m. well_formed m off'.numbers ≡ true) (sym (n ∙ reads'.same_inputs)) (formed off_text' off' reads'.off_read)) in
      let same = wording-is-nothing k (lent (natural k)) (lent on.numbers) (lent on'.numbers) (lent off.numbers) (lent off'.numbers) on_formed on_formed' off_formed off_formed' a b max_rows in
      output-is on_text off_text on off reads ∙ ap (λ v. shown k v (text_of k)) same ∙ ap (λ m. list_output m on' off') n
      ∙ sym (output-is on_text' off_text' on' off' reads')

  -- Where both pairs are accepted and decide every setting, equal bytes come only from equal on settings.
  pub same-settings : (xs ys : List Row) → whole on.inputs (lent (natural on.inputs)) (lent on.numbers) (lent off.numbers) max_rows ≡ given xs
      → whole on'.inputs (lent (natural on'.inputs)) (lent on'.numbers) (lent off'.numbers) max_rows ≡ given ys
      → Decides on.inputs (lent on.numbers) (lent off.numbers) → Decides on'.inputs (lent on'.numbers) (lent off'.numbers)
      → output on_text off_text ≡ output on_text' off_text' → (on.inputs ≡ on'.inputs) × Same on.inputs (satisfies on.numbers) (satisfies on'.numbers)
  same-settings xs ys a b d d' e =
      equal-bytes-equal-settings on.inputs on'.inputs _ _ _ _ _ _ max_rows max_rows xs ys a b d d'
      (sym (printed-text on_text off_text on off reads xs a) ∙ e ∙ printed-text on_text' off_text' on' off' reads' ys b)
