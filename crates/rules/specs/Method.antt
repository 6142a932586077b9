-- The method: next setting, widening, generation, pruning. `on` and `off` say which settings the sheets ask for.
use mathlib.Core.{Bool.Bool, Bool.true, Bool.not, Bool.cond, Bool.◌&&◌, List.List, List.[], List.◌∷◌, List.◌++◌}
use mathlib.Core.{Option.Option, Option.none, Option.some}
use Rattle.std.specs.Prelude.{ℕ, zero, suc, length}
use Rattle.rules.specs.{declared.Row.Row, Words.dashes, Words.full, Words.without, Words.in_some, Search.found, Search.smallest, Search.holds_some}

-- A list has at most 256 rows.
abbrev pub max_rows : ℕ
max_rows = 256

-- The smallest on setting that lies in no row so far.
unfoldable pub next : List ℕ → (ℕ → Bool) → List Row → Option ℕ
next order on rows = smallest (λ s. on s && not (in_some rows s)) order dashes

-- At each of the places vs, first to last, the literal goes if the row without it holds no off setting.
unfoldable pub widen_at : List ℕ → List ℕ → (ℕ → Bool) → Row → Row
widen_at [] order off r = r
widen_at (v ∷ vs) order off r = widen_at vs order off (cond (holds_some off order (without v r)) r (without v r))

-- The row that a setting widens to, from the row of all n literals.
unfoldable pub widen : List ℕ → (ℕ → Bool) → ℕ → Row
widen order off s = widen_at order order off (full (length order) s)

-- The first k generated rows (all if fewer): the row of the next setting, while there is one, comes behind the others.
abbrev pub grown : List ℕ → (ℕ → Bool) → List Row → Option ℕ → List Row
grown order off rows none = rows
grown order off rows (some s) = rows ++ (widen order off s ∷ [])

unfoldable pub generated : List ℕ → (ℕ → Bool) → (ℕ → Bool) → ℕ → List Row
generated order on off zero = []
generated order on off (suc k) = let rows = generated order on off k in grown order off rows (next order on rows)

-- Generation has no more than these rows.
abbrev pub complete : List ℕ → (ℕ → Bool) → List Row → Bool
complete order on rows = not (found (next order on rows))

-- A row stays if some setting of it that counts lies in none of the others.
abbrev pub needed : (ℕ → Bool) → List ℕ → Row → List Row → Bool
needed counts order r others = holds_some (λ s. counts s && not (in_some others s)) order r

-- Which rows stay, in order: each is judged against the rows kept before it and all that come after it.
unfoldable pub marks_after : (ℕ → Bool) → List ℕ → List Row → List Row → List Bool
marks_after counts order kept [] = []
marks_after counts order kept (r ∷ rest) =
    let stays = needed counts order r (kept ++ rest) in
    stays ∷ marks_after counts order (cond stays (kept ++ (r ∷ [])) kept) rest

abbrev pub marks : (ℕ → Bool) → List ℕ → List Row → List Bool
marks counts order rows = marks_after counts order [] rows

-- What is marked as staying.
unfoldable pub picked : {A : Type 0} → List Bool → List A → List A
picked [] things = []
picked (stays ∷ more) [] = []
picked (stays ∷ more) (thing ∷ things) = let rest = picked more things in cond stays (thing ∷ rest) rest

unfoldable pub pruned : (ℕ → Bool) → List ℕ → List Row → List Row
pruned counts order rows = picked (marks counts order rows) rows

-- Every setting counts.
abbrev pub all : ℕ → Bool
all s = true

-- The whole list.
unfoldable pub list_of : List ℕ → (ℕ → Bool) → (ℕ → Bool) → List Row
list_of order on off = pruned all order (generated order on off max_rows)
