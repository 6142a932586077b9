-- Where every setting is off no literal goes, so generation keeps each setting that it finds as the row of all its literals.
use mathlib.Core.Path.{◌≡◌, refl, sym, ap, ◌∙◌, fun_ext}
use mathlib.Core.Bool.{Bool, true, not, cond, not-not, and-true}
use mathlib.Core.List.{List, [], ◌∷◌, ◌++◌}
use mathlib.Core.Option.{Option, none, some}
use Prim.Native.Nat.{ℕ, ◌-◌, ◌*◌, ◌/◌, ◌≤◌}
use native.Mathlib.Omega.{arith}
use lib.IntN.{ℤ}
use lib.ListN.{length, take, drop, length-drop}
use lib.Seq.{take-append_seam, take_at, take_all}
use borrow.Rule.Slice.PartMut.{mid_of, put_mid}
use native.Mathlib.Nat.{sub-zero}
use Rattle.rules.specs.declared.Row.{Row}
use Rattle.rules.specs.Words.{is_inputs, is_order, fixes, at_zero, at_one, full, without, in_some}
use Rattle.rules.specs.Sheets.{satisfies, every_clause, in_reach, well_formed}
use Rattle.rules.specs.Search.{smallest, found, or_else, holds_some}
use Rattle.rules.specs.Method.{all, widen, widen_at, generated}
use Rattle.rules.specs.Answers.{over}
use Rattle.rules.proofs.Logic.{test}
use Rattle.rules.proofs.Orders.{is-order}
use Rattle.rules.proofs.Reach.{smallest-pass, smallest-try}
use Rattle.sheets.specs.Barred.{barred}
use Rattle.sheets.proofs.Bars.{barred-is}
use Rattle.sheets.proofs.Clauses.{form-reach}
use Rattle.search.specs.Question.{good, cares_within, Asked}
use Rattle.sheets.proofs.Over.{over-length}
use Rattle.search.proofs.Queries.{few-inputs, few-clauses, few-barred}
use Rattle.probe.specs.Phase.{pairs_of, settings}
use Rattle.probe.proofs.Pairs.{pairs-length, over-rest}

-- Every row holds a setting.
found_first : (a b : Option ℕ) → found a ≡ true → found (or_else a b) ≡ true
found_first none b h = absurd (let z : ◌≡◌ {A = ℕ} 0 1 = cc in let w : ⊥ = omega arith in w)
found_first (some s) b h = refl

holds-one : (vs : List ℕ) (r : Row) → holds_some all vs r ≡ true
unfolding smallest
holds-one [] r = refl
holds-one (v ∷ vs) r =
    test (fixes r v)
    (λ e. ap found (smallest-pass all v vs r e) ∙ holds-one vs r)
    (λ e. ap found (smallest-try all v vs r e) ∙ found_first (smallest all vs (at_zero v r)) (smallest all vs (at_one v r)) (holds-one vs (at_zero v r)))

none-goes : (vs order : List ℕ) (r : Row) → widen_at vs order all r ≡ r
unfolding widen_at
none-goes [] order r = refl
none-goes (v ∷ vs) order r =
    ap (λ (b : Bool). widen_at vs order all (cond b r (without v r))) (holds-one order (without v r)) ∙ none-goes vs order r

pub none-widens : (order : List ℕ) (s : ℕ) (r : Row) → r ≡ full (length order) s → r ≡ widen order all s
unfolding widen
none-widens order s r e = e ∙ sym (none-goes order order (full (length order) s))

-- A sheet in place asks for the settings that satisfy it.
pub asks-placed : (sheet : List ℤ) → good sheet [] [] ≡ satisfies sheet
unfolding good satisfies every_clause in_some
asks-placed sheet = fun_ext (λ s. and-true (satisfies sheet s))

pub placed-asked : (n : ℕ) (order : List ℕ) (sheet : List ℤ) → is_inputs n ≡ true → is_order n order ≡ true → well_formed n sheet ≡ true → Asked order sheet [] []
unfolding in_reach cares_within
placed-asked n order sheet i o w =
    let size = (is-order n order o).size in
    record {
      ordered = rw size o;
      size = rw size (few-inputs n i);
      reach-a = rw size (form-reach n sheet w);
      reach-b = refl;
      cares = refl;
    }

-- And one asks by the rows that it bars for those that lie in none of them.
pub asks-barred : (sheet : List ℤ) → good [] [] (barred sheet) ≡ satisfies sheet
unfolding good satisfies every_clause
asks-barred sheet = fun_ext (λ s. ap not (barred-is sheet s) ∙ not-not (satisfies sheet s))

-- The barred rows are written first, and what is asked by them behind them.
pub words-behind : (order : List ℕ) (sheet : List ℤ) (cells blank : List Row) (old run rest : List ℕ) (ons : ℕ)
    → cells ≡ over (barred sheet) blank → ons ≡ length (barred sheet) → 2 * ons ≤ length old → run ≡ over (pairs_of (take ons cells)) old
    → rest ≡ over (pairs_of (generated order (good [] [] (take ons cells)) all (length (mid_of (2 * ons) (length run - 2 * ons) run) / 2))) (mid_of (2 * ons) (length run - 2 * ons) run)
    → put_mid (2 * ons) (length run - 2 * ons) run rest ≡ over (pairs_of (barred sheet ++ settings order sheet (length old / 2 - length (barred sheet)))) old
words-behind order sheet cells blank old run rest ons c o l r e =
    let first : take ons cells ≡ barred sheet = ap (take ons) c ∙ take_at (barred sheet) _ ons (sym o) in
    let run_is : run ≡ over (pairs_of (barred sheet)) old = r ∙ ap (λ (rows : List Row). over (pairs_of rows) old) first in
    let p = pairs-length (barred sheet) in
    let size : length run ≡ length old = ap length run_is ∙ over-length (pairs_of (barred sheet)) old (omega arith) in
    let part = mid_of (2 * ons) (length run - 2 * ons) run in
    let d = length-drop (2 * ons) run in
    let whole : length part ≡ length (drop (2 * ons) run) = ap length (take_all (length run - 2 * ons) (drop (2 * ons) run) (omega arith)) in
    let count : length part / 2 ≡ length old / 2 - length (barred sheet) = omega arith in
    over-rest (barred sheet) (settings order sheet (length old / 2 - length (barred sheet))) old run rest (2 * ons) (ap (λ (m : ℕ). 2 * m) o) run_is
    (e ∙ ap (λ (rows : List Row). over (pairs_of rows) part)
    (ap (λ (rows : List Row). generated order (good [] [] rows) all (length part / 2)) first
    ∙ ap (λ (on : ℕ → Bool). generated order on all (length part / 2)) (asks-barred sheet)
    ∙ ap (λ (m : ℕ). generated order (satisfies sheet) all m) count))

pub ruleset in_place = (asks-placed, placed-asked, sub-zero)

pub ruleset behind_barred = (few-clauses, few-barred, asks-barred, take-append_seam)
