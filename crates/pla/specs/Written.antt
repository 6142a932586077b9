-- What a writer of a text has put.
use Rattle.std.specs.Prelude.{◌≡◌, List, [], ◌∷◌, ℕ, suc, length, ⊤}
use Rattle.pla.specs.declared.writer.Writer.{Writer}
use Rattle.pla.specs.Put.{Room, Puts}

-- There is room for the new bytes where it stands.
abbrev pub HasRoom : Writer → List ℕ → Type 0
HasRoom writer new = Room writer.at new writer.text.now

-- The new bytes are put where it stood, into the same text, and it stands behind them.
pub record Writes (old : Writer) (new : List ℕ) (writer : Writer) : Type 0 where
  pub same : writer.text.ghost_name ≡ old.text.ghost_name
  pub puts : Puts old.at new old.text.now writer.at writer.text.now

-- Each character is one for its variable, from v on.
abbrev pub Each : (ℕ → ℕ → Type 0) → ℕ → List ℕ → Type 0
Each is_for v [] = ⊤
Each is_for v (ch ∷ chars) = is_for v ch × Each is_for (suc v) chars

-- So many characters are put, each one for its variable.
pub record WritesEach (is_for : ℕ → ℕ → Type 0) (count : ℕ) (old writer : Writer) : Type 0 where
  pub chars : List ℕ
  pub size : length chars ≡ count
  pub each : Each is_for 1 chars
  pub writes : Writes old chars writer
