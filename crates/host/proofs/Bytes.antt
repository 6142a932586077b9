-- A word more in bytes, behind those written.
use Rattle.std.proofs.Common.{◌≡◌, ◌∙◌, refl, sym, ℕ, ◌+◌, ◌-◌, ◌*◌, List, [], ◌∷◌, ◌++◌, length, arith}
use Rattle.std.specs.Int.{w32, to_le_bytes}
use borrow.Rule.Slice.PartMut.{put_mid}
use Rattle.rules.specs.Answers.{over}
use Rattle.rules.specs.Calls.{bytes_of}
use Rattle.pla.specs.Put.{put}
use Rattle.pla.proofs.Positions.{put_mid-put, put_then, put-over}
use Rattle.host.specs.Bytes.{bytes-length}

bytes-append : (xs ys : List ℕ) → bytes_of (xs ++ ys) ≡ bytes_of xs ++ bytes_of ys
unfolding bytes_of
bytes-append [] ys = refl
bytes-append (w ∷ xs) ys = rw (bytes-append xs ys)

one-word : (w : ℕ) → to_le_bytes w32 w ≡ bytes_of (w ∷ [])
unfolding bytes_of
one-word w = refl

pub word-more : (w k : ℕ) (words run bytes new : List ℕ) → new ≡ to_le_bytes w32 w → length words ≡ k → bytes ≡ over (bytes_of words) run
    → put_mid (4 * k) (4 * k + 4 - 4 * k) bytes new ≡ over (bytes_of (words ++ (w ∷ []))) run
word-more w k words run bytes new h l e =
    let size : 4 * k + 4 - 4 * k ≡ length (to_le_bytes w32 w) = omega arith in
    let at : 4 * k ≡ 0 + length (bytes_of words) = omega (arith, bytes-length words) in
    let begun : bytes ≡ put 0 (bytes_of words) run = e ∙ sym (put-over (bytes_of words) run) in
    rw (h, put_mid-put (4 * k) _ (to_le_bytes w32 w) bytes size, at, begun, one-word w, put_then 0 (bytes_of words) (bytes_of (w ∷ [])) run (omega arith), put-over _ run, bytes-append words (w ∷ []))
