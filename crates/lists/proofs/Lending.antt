-- The rows that two sheets bar, one behind the other, and what is asked where they are lent in place of the sheets.
use mathlib.Core.Path.{◌≡◌, refl, sym, ap, ◌∙◌, subst, fun_ext}
use mathlib.Core.Bool.{true, not, not-not}
use mathlib.Core.List.{List, [], ◌++◌, append_assoc}
use Prim.Native.Nat.{ℕ, ◌+◌, ◌-◌, ◌≤◌}
use native.Mathlib.Omega.{arith}
use lib.Dec.{eqb}
use lib.IntN.{ℤ}
use lib.ListN.{length, take, drop, length-append}
use lib.Seq.{take-append_seam, drop-append_seam}
use Rattle.std.proofs.Math.Seq.{take-append-add}
use borrow.Author.Tests.{eqb-true}
use borrow.Rule.Slice.PartMut.{put_mid}
use Rattle.rules.specs.declared.Row.{Row}
use Rattle.rules.specs.Words.{max_inputs, each_once, is_order}
use Rattle.rules.specs.Sheets.{max_clauses, in_reach, satisfies, every_clause}
use Rattle.rules.specs.Answers.{over}
use Rattle.rules.specs.Calls.{are_rows}
use Rattle.std.proofs.lemmas.Bool.{and_parts, and_from}
use Rattle.sheets.specs.Barred.{barred}
use Rattle.sheets.proofs.Bars.{barred-is, barred-rows}
use Rattle.sheets.proofs.Clauses.{form-reach}
use Rattle.sheets.specs.Numbers.{numbers_of}
use Rattle.search.proofs.Queries.{rows-within, few-barred, few-clauses}
use Rattle.method.specs.Lent.{asks}
use Rattle.lists.specs.Formed.{InForm}
use Rattle.building.proofs.Asking.{numbers-none}
use Rattle.rules.proofs.GivenRows.{are_rows-append}
use Rattle.search.specs.Question.{good, cares_within, Asked}

-- A sheet asks for the settings that lie in none of its barred rows.
barred-asks : (sheet : List ℤ) → good [] [] (barred sheet) ≡ satisfies sheet
unfolding good satisfies every_clause
barred-asks sheet = fun_ext (λ s. ap not (barred-is sheet s) ∙ not-not (satisfies sheet s))

-- The first rows of a run, where others were written over those from `offs` on.
abbrev lent_rows : (offs ons : ℕ) (words after : List Row) → List Row
lent_rows offs ons words after = take (offs + ons) (put_mid offs (length words - offs) words after)

-- What is asked where off's barred rows stand over the first of a run, on's over the part behind them, and both are lent.
module _ (on off : List ℤ) (old words after : List Row) (offs ons : ℕ) (m : offs ≡ length (barred off)) (k : ons ≡ length (barred on))
    (h : words ≡ over (barred off) old) (g : after ≡ over (barred on) (take (length words - offs) (drop offs words))) where
  both-barred : lent_rows offs ons words after ≡ barred off ++ barred on
  both-barred =
      let front : take offs words ≡ barred off = rw (h, m) (take-append_seam (barred off) (drop (length (barred off)) old)) in
      rw (front, g, m, k, append_assoc (barred on) _ _, take-append-add (barred off) _ (length (barred on)), take-append_seam (barred on) _)

  on-rows : drop offs (lent_rows offs ons words after) ≡ barred on
  on-rows = rw (both-barred, m) (drop-append_seam (barred off) (barred on))

  off-rows : take offs (lent_rows offs ons words after) ≡ barred off
  off-rows = rw (both-barred, m) (take-append_seam (barred off) (barred on))

  pub on-lent : asks [] (drop offs (lent_rows offs ons words after)) ≡ satisfies on
  on-lent = rw (numbers-none, on-rows) (barred-asks on)

  pub off-lent : asks [] (take offs (lent_rows offs ons words after)) ≡ satisfies off
  off-lent = rw (numbers-none, off-rows) (barred-asks off)

  pub within-lent : offs ≤ length (lent_rows offs ons words after)
  within-lent = rw both-barred (simp length-append (omega arith))

  module _ (n : ℕ) (order : List ℕ) (f : InForm n order on off) where
    pub few-lent : length (drop offs (lent_rows offs ons words after)) ≤ max_clauses
    few-lent = rw on-rows (few-barred n on f.on_sheet)

    -- they are rows of n inputs
    pub lent-asked : n ≤ max_inputs → Asked order (numbers_of []) (numbers_of []) (lent_rows offs ons words after)
    unfolding in_reach is_order
    lent-asked few =
        let size : n ≡ length order = sym (eqb-true (length order) n (and_parts (eqb (length order) n) (each_once n order) f.ordered).0) in
        let rows : are_rows n (lent_rows offs ons words after) ≡ true =
        ap (are_rows n) both-barred ∙ are_rows-append n (barred off) (barred on)
        ∙ and_from _ _ (barred-rows n off (form-reach n off f.off_sheet)) (barred-rows n on (form-reach n on f.on_sheet)) in
        rw numbers-none (record {
          ordered = subst (λ k. is_order k order ≡ true) size f.ordered;
          size = subst (λ k. k ≤ max_inputs) size few;
          reach-a = refl;
          reach-b = refl;
          cares = subst (λ k. cares_within k (lent_rows offs ons words after) ≡ true) size (rows-within n _ rows);
        })

pub ruleset lending_steps = (few-clauses, few-barred, on-lent, off-lent, few-lent)
