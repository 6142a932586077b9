-- Signed numbers as literals, told apart from 0 by their bits.
use mathlib.Core.Path.{◌≡◌, refl, sym, ap, ◌∙◌}
use mathlib.Core.Bool.{true, false}
use Prim.Native.Nat.{◌≤◌}
use native.Mathlib.Nat.{pos_of_ne-zero}
use native.Mathlib.Omega.{arith}
use lib.IntN.{ℤ, pos, negsuc}
use mir.Syntax.{w32}
use mir.Val.{to_z, of_z, SFits}
use mir.Facts.{to_z-of_z}
use borrow.Author.Tests.{ne_eqb, eqb-false}
use Rattle.rules.specs.Sheets.{variable, closes}

-- 0 alone closes a clause
pub zero-closes : (z : ℤ) → SFits w32 z → of_z w32 z ≡ 0 → closes z ≡ true
zero-closes z f e = ap closes (sym (to_z-of_z f) ∙ ap (to_z w32) e)

pub other-closes : (z : ℤ) → (of_z w32 z ≡ 0 → ⊥) → closes z ≡ false
other-closes (pos n) f = ne_eqb n 0 f
other-closes (negsuc n) f = refl

-- every literal's variable is at least 1
pub variable-of : (z : ℤ) → closes z ≡ false → 1 ≤ variable z
variable-of (pos n) e = let h = eqb-false n 0 e in omega (arith, pos_of_ne-zero h)
variable-of (negsuc n) e = omega arith
