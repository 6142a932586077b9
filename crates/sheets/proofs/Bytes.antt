-- Bytes as words and numbers, four at a time.
use mathlib.Core.Path.{◌≡◌, refl, sym, ap, ◌∙◌}
use mathlib.Core.List.{List, [], ◌∷◌, map, map-map}
use Prim.Native.Nat.{ℕ, suc, ◌+◌, ◌*◌, ◌/◌, ◌<◌}
use native.Mathlib.Omega.{arith}
use lib.IntN.{ℤ, pos}
use lib.ListN.{length, get_or, length-map}
use mir.Val.{to_z}
use mir.Syntax.{w32}
use Rattle.std.specs.Int.{from_le_bytes}
use Rattle.std.specs.Simd.{first_chunks}
use Rattle.std.proofs.lemmas.List.{get_or-map}
use Rattle.rules.specs.Calls.{words_of}
use Rattle.sheets.specs.Numbers.{numbers_of}

pub words-length : (bs : List ℕ) → length (words_of bs) ≡ length bs / 4
unfolding words_of
words-length [] = refl
words-length (a ∷ []) = refl
words-length (a ∷ b ∷ []) = refl
words-length (a ∷ b ∷ c ∷ []) = refl
words-length (a ∷ b ∷ c ∷ d ∷ bs) = let e = words-length bs in omega arith

-- the words, as chunks of four bytes
pub chunks-words : (bs : List ℕ) → map (from_le_bytes w32) (first_chunks 4 (length bs / 4) bs) ≡ words_of bs
unfolding words_of
chunks-words [] = refl
chunks-words (a ∷ []) = refl
chunks-words (a ∷ b ∷ []) = refl
chunks-words (a ∷ b ∷ c ∷ []) = refl
chunks-words (a ∷ b ∷ c ∷ d ∷ bs) =
    let e : length (a ∷ b ∷ c ∷ d ∷ bs) / 4 ≡ suc (length bs / 4) = omega arith in
    ap (λ (n : ℕ). map (from_le_bytes w32) (first_chunks 4 n (a ∷ b ∷ c ∷ d ∷ bs))) e
    ∙ ap (λ (ws : List ℕ). (a + b * 256 + c * 65536 + d * 16777216) ∷ ws) (chunks-words bs)

-- a run of chunks as the words and numbers of the bytes
module _ (bs : List ℕ) (chunks : List (List ℕ)) (e : chunks ≡ first_chunks 4 (length bs / 4) bs) where
  pub words-are : map (from_le_bytes w32) chunks ≡ words_of bs
  words-are = ap (map (from_le_bytes w32)) e ∙ chunks-words bs

  pub numbers-are : map (λ (b : List ℕ). to_z w32 (from_le_bytes w32 b)) chunks ≡ numbers_of bs
  numbers-are = sym (map-map (to_z w32) (from_le_bytes w32) chunks) ∙ ap (map (to_z w32)) words-are

  pub word-at : (k : ℕ) → k < length chunks → from_le_bytes w32 (get_or chunks k []) ≡ get_or (words_of bs) k 0
  word-at k h = sym (get_or-map (from_le_bytes w32) chunks k [] 0 h) ∙ ap (λ (ws : List ℕ). get_or ws k 0) words-are

  pub number-at : (k : ℕ) → k < length chunks → to_z w32 (from_le_bytes w32 (get_or chunks k [])) ≡ get_or (numbers_of bs) k (pos 0)
  number-at k h =
      sym (get_or-map (λ (b : List ℕ). to_z w32 (from_le_bytes w32 b)) chunks k [] (pos 0) h)
      ∙ ap (λ (zs : List ℤ). get_or zs k (pos 0)) numbers-are

  pub numbers-length : length (numbers_of bs) ≡ length chunks
  numbers-length = sym (ap length numbers-are) ∙ length-map chunks (λ (b : List ℕ). to_z w32 (from_le_bytes w32 b))
