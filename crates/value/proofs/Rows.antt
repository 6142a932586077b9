-- A list holds a setting exactly if some row of it does.
use Rattle.std.proofs.Common.{◌≡◌, refl, ℕ, List, [], ◌∷◌}
use Rattle.std.specs.List.{list_any}
use Rattle.rules.specs.declared.Row.{Row}
use Rattle.rules.specs.Words.{holds, in_some}

pub in_some-any : (rows : List Row) (s : ℕ) → in_some rows s ≡ list_any (λ r. holds r s) rows
unfolding in_some
in_some-any [] s = refl
in_some-any (r ∷ rows) s = rw (in_some-any rows s)
