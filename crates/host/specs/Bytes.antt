-- Words in bytes over the first of a run.
use Rattle.std.specs.Prelude.{◌≡◌, refl, List, [], ◌∷◌, ℕ, ◌*◌, ◌/◌, ◌≤◌, length}
use Rattle.std.proofs.Common.{ap, arith}
use Rattle.rules.specs.Answers.{over}
use Rattle.rules.specs.Calls.{bytes_of}
use Rattle.sheets.proofs.Over.{over-length}

pub bytes-length : (ws : List ℕ) → length (bytes_of ws) ≡ 4 * length ws
unfolding bytes_of
bytes-length [] = refl
bytes-length (w ∷ ws) = let e = bytes-length ws in omega arith

-- no words change nothing, and words for which there is room leave the room
pub none-written : (run : List ℕ) → over (bytes_of []) run ≡ run
unfolding bytes_of
none-written run = refl

pub room-left : (words run : List ℕ) → length words ≤ length run / 4 → length (over (bytes_of words) run) / 4 ≡ length run / 4
room-left words run l = ap (λ (n : ℕ). n / 4) (over-length (bytes_of words) run (omega (arith, bytes-length words)))
