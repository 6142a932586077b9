-- The question: the smallest setting of a row that satisfies two sheets and lies in none of the kept rows.
use Rattle.std.specs.Prelude.{◌≡◌, Bool, true, false, not, cond, ◌&&◌, ◌||◌, List, [], ◌∷◌, ℕ, zero, suc, ◌+◌, ◌^◌, ◌<◌, ◌≤◌, eqb, ℤ, length, get_or, drop}
use Rattle.std.specs.Prelude.{Some, None, Option as Maybe}
use Rattle.std.proofs.Math.Option.{Option, none, some}
use Rattle.std.specs.Int.Bits.{bit_and}
use Rattle.rules.specs.declared.Row.{Row}
use Rattle.rules.specs.declared.Setting.{Setting}
use Rattle.rules.specs.Words.{max_inputs, is_order, fits, is_one, holds, is_row, dashes, at_one, in_some, fixed_at}
use Rattle.rules.specs.Sheets.{satisfies, every_clause, in_reach}
use Rattle.rules.specs.Search.{smallest}
use Rattle.rules.proofs.Bits.{bit}
use Rattle.rules.proofs.Orders.{has}
use Rattle.rules.proofs.From.{Free}
use Rattle.sheets.specs.Open.{is_open}

-- the setting satisfies both sheets and lies in none of the rows
unfoldable pub good : List ℤ → List ℤ → List Row → ℕ → Bool
good a b rows s = satisfies a s && (satisfies b s && not (in_some rows s))

-- the row c holds every setting of the partial setting r; some row does
abbrev pub covers : Row → Row → Bool
covers r c = eqb (bit_and c.care r.care) c.care && holds c r.value

unfoldable pub covers_some : Row → List Row → Bool
covers_some r [] = false
covers_some r (c ∷ rows) = covers r c || covers_some r rows

-- nothing shows yet that no setting of r is good: no clause is lost, and no row holds all of r
unfoldable pub live : List ℤ → List ℤ → List Row → Row → Bool
live a b rows r = every_clause (is_open r) false a && (every_clause (is_open r) false b && not (covers_some r rows))

-- what was found
abbrev pub found_as : Maybe Setting → Option ℕ
found_as (Some s) = some s.0
found_as None = none

-- no row cares for a variable above n
unfoldable pub cares_within : ℕ → List Row → Bool
cares_within n [] = true
cares_within n (r ∷ rows) = fits n r.care && cares_within n rows

-- what every search asks: an order of at most 24 variables, and sheets and rows of these
pub record Asked (order : List ℕ) (a b : List ℤ) (rows : List Row) : Type 0 where
  pub ordered : is_order (length order) order ≡ true
  pub size : length order ≤ max_inputs
  pub reach-a : in_reach (length order) a ≡ true
  pub reach-b : in_reach (length order) b ≡ true
  pub cares : cares_within (length order) rows ≡ true

-- the row fixes every variable before the place: each that is none of those left
abbrev pub Passed : List ℕ → ℕ → Row → Type 0
Passed order place r = (i : ℕ) → i < length order → has i (drop place order) ≡ false → bit i r.care ≡ true

-- from the place on, the variables up to the later place are in the care word, and the one there is not
pub record Skips (order : List ℕ) (place : ℕ) (care : ℕ) (later : ℕ) : Type 0 where
  pub onward : place ≤ later
  pub fixed : (k : ℕ) → place ≤ k → k < later → (k < length order) × (is_one (get_or order k 0) care ≡ true)
  pub stops : later < length order → is_one (get_or order later 0) care ≡ false

-- the row fixes the variables before the place, and no others
pub record Ahead (order : List ℕ) (place : ℕ) (r : Row) : Type 0 where
  pub formed : is_row (length order) r ≡ true
  pub passed : Passed order place r
  pub free : Free (drop place order) r

-- a setting of n inputs, in the row, that passes
pub record Met (passes : ℕ → Bool) (n : ℕ) (r : Row) (s : ℕ) : Type 0 where
  pub passed : passes s ≡ true
  pub held : holds r s ≡ true
  pub below : s < 2 ^ n

-- one place more is fixed, in a row that still holds a setting that passes, and the smallest such setting of it is the row's
pub record Lowers (passes : ℕ → Bool) (order : List ℕ) (place : ℕ) (r next : Row) (s : ℕ) : Type 0 where
  pub ahead : Ahead order (place + 1) next
  pub met : Met passes (length order) next s
  pub same : (t : ℕ) → some t ≡ smallest passes (drop (place + 1) order) next → some t ≡ smallest passes (drop place order) r

-- the row that fixes the variables at the first k places at the start's values
unfoldable pub followed : List ℕ → ℕ → ℕ → Row
followed order start zero = dashes
followed order start (suc k) = fixed_at (is_one (get_or order k 0) start) (get_or order k 0) (followed order start k)

-- the smallest setting of the row that passes and has 1 at the place where the start has 0
abbrev pub above_at : (ℕ → Bool) → List ℕ → ℕ → ℕ → Row → Option ℕ
above_at passes order start place r =
    cond (is_one (get_or order place 0) start) none (smallest passes (drop (place + 1) order) (at_one (get_or order place 0) r))
