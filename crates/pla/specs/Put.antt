-- Bytes put at a position of a text.
use Rattle.std.specs.Prelude.{◌≡◌, List, ◌++◌, ℕ, ◌+◌, ◌≤◌, length, take, drop}

-- The text with the new bytes from `at` on; the others as they were.
unfoldable pub put : ℕ → List ℕ → List ℕ → List ℕ
put at new old = take at old ++ (new ++ drop (at + length new) old)

-- There is room for the new bytes from `at` on.
pub record Room (at : ℕ) (new old : List ℕ) : Type 0 where
  pub fits : at + length new ≤ length old

-- The new bytes are put at `at`, and `end` is the position after them.
pub record Puts (at : ℕ) (new old : List ℕ) (end : ℕ) (text : List ℕ) : Type 0 where
  pub next : end ≡ at + length new
  pub bytes : text ≡ put at new old
