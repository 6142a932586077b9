-- What an answer says of the lent run: where it is no refusal, the list's rows, or the first generated ones, stand in it behind on's.
use mathlib.Core.Path.{◌≡◌, sym, ap}
use mathlib.Core.List.{List}
use Prim.Native.Nat.{ℕ}
use Rattle.std.specs.Prelude.{Ok}
use Rattle.rules.specs.declared.Row.{Row}
use Rattle.rules.specs.Method.{list_of}
use Rattle.rules.specs.Calls.{whole_for, partial_for}
use Rattle.rules.proofs.Judged.{judge-given}
use Rattle.method.specs.Blank.{solid}
use Rattle.building.specs.declared.lent.Lent.{Lent}
use Rattle.building.specs.declared.build.Built.{Built}
use Rattle.method.specs.declared.generate.Generated.{Generated}
use Rattle.building.specs.Built.{on_at, off_at, generated_in, generated_of, built_as, part_as, whole_of, part_of}

module _ (lent : Lent) (kept : List Row) (room : ℕ) where
  pub list-stands : (built : Built) → built_as lent (Ok built) kept ≡ whole_of lent room → solid (generated_in lent built.generated kept) ≡ list_of lent.order.now (on_at lent) (off_at lent)
  unfolding whole_for
  list-stands built e = sym (judge-given _ _ (sym e)).0

  pub part-stands : (part : Generated) (k : ℕ) → part_as lent (Ok part) kept ≡ part_of lent k room → generated_in lent part.count kept ≡ generated_of lent k
  unfolding partial_for
  part-stands part k e = sym (ap (λ p. p.rows) (judge-given _ _ (sym e)).0)
