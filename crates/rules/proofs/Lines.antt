-- The lines of a PLA text, and the digits of its numbers.
use mathlib.Core.Path.{◌≡◌, refl, ap, ◌∙◌}
use mathlib.Core.Bool.{Bool, true, false, not, ◌&&◌}
use mathlib.Core.List.{List, [], ◌∷◌, ◌++◌}
use mathlib.Core.Option.{Option, some}
use Prim.Native.Char.{code}
use Prim.Native.Nat.{ℕ, ◌+◌, ◌-◌, ◌*◌, ◌/◌, ◌%◌, ◌≤◌, ◌<◌}
use native.Mathlib.Omega.{arith}
use lib.Dec.{eqb, ltb}
use lib.ListN.{length}
use borrow.Author.Tests.{ne_eqb, le-leb, ltb-true, ltb-false}
use Rattle.rules.specs.Dimacs.{is_digit, digits_from}
use Rattle.rules.specs.Pla.{digit, digits, into_line, lines}
use Rattle.rules.proofs.Logic.{test}
use Rattle.std.proofs.lemmas.Bool.{and_parts, and_from, not-true, not_from_false}

-- the bytes hold no line feed
unfoldable pub plain : List ℕ → Bool
plain [] = true
plain (b ∷ t) = not (eqb b (code "\n")) && plain t

pub plain_more : (b : ℕ) (t : List ℕ) → eqb b (code "\n") ≡ false → plain t ≡ true → plain (b ∷ t) ≡ true
unfolding plain
plain_more b t p q = and_from _ _ (not_from_false _ p) q

plain-first : (b : ℕ) (t : List ℕ) → plain (b ∷ t) ≡ true → (eqb b (code "\n") ≡ false) × (plain t ≡ true)
unfolding plain
plain-first b t p = let h = and_parts (not (eqb b (code "\n"))) (plain t) p in (not-true (eqb b (code "\n")) h.0, h.1)

pub plain-append : (a b : List ℕ) → plain a ≡ true → plain b ≡ true → plain (a ++ b) ≡ true
plain-append [] b p q = q
plain-append (c ∷ a) b p q = let h = plain-first c a p in plain_more c (a ++ b) h.0 (plain-append a b h.1 q)

-- the first line of a text is all before its first line feed
pub lines-line : (a t : List ℕ) → plain a ≡ true → lines (a ++ (code "\n" ∷ t)) ≡ a ∷ lines t
unfolding lines
lines-line [] t p = refl
lines-line (b ∷ a) t p = let h = plain-first b a p in rw h.0 (ap (into_line b) (lines-line a t h.1))

-- a digit is 0 to 9
pub digit-plain : (d : ℕ) → eqb (digit d) (code "\n") ≡ false
digit-plain d = ne_eqb (digit d) 10 (omega arith)

pub digit-digit : (d : ℕ) → is_digit (digit d) ≡ true
digit-digit d = and_from _ _ (le-leb 48 (digit d) (omega arith)) (le-leb (digit d) 57 (omega arith))

-- a number has one digit, two or three
pub digits-cases {ℓ} : (P : List ℕ → Type ℓ) (m : ℕ) → (m < 10 → P (digit m ∷ [])) → (10 ≤ m → m < 100 → P (digit (m / 10) ∷ digit m ∷ []))
    → (100 ≤ m → P (digit (m / 100) ∷ digit (m / 10) ∷ digit m ∷ [])) → P (digits m)
unfolding digits
digits-cases P m f g h =
    test (ltb m 10) (λ p. rw p (f (ltb-true m 10 p))) λ p.
    test (ltb m 100) (λ q. rw (p, q) (g (ltb-false m 10 p) (ltb-true m 100 q))) (λ q. rw (p, q) (h (ltb-false m 100 q)))

pub digits-plain : (m : ℕ) → plain (digits m) ≡ true
unfolding plain
digits-plain m =
    let d : (x : ℕ) (t : List ℕ) → plain t ≡ true → plain (digit x ∷ t) ≡ true = λ x t p. plain_more (digit x) t (digit-plain x) p in
    digits-cases (λ t. plain t ≡ true) m (λ l. d m [] refl) (λ l k. d (m / 10) (digit m ∷ []) (d m [] refl))
    (λ l. d (m / 100) (digit (m / 10) ∷ digit m ∷ []) (d (m / 10) (digit m ∷ []) (d m [] refl)))

-- a digit more makes a number of ten times as much
read_more : (sum d : ℕ) (t : List ℕ) → digits_from sum (digit d ∷ t) ≡ digits_from (sum * 10 + d % 10) t
unfolding digits_from
read_more sum d t = let e : sum * 10 + (digit d - code "0") ≡ sum * 10 + d % 10 = omega arith in rw (digit-digit d, e)

read-end : (m k : ℕ) → k ≡ m → digits_from k [] ≡ some m
unfolding digits_from
read-end m k e = ap {B = Option ℕ} some e

-- below 1,000 the digits read as the number
pub digits-read : (m : ℕ) → m < 1000 → digits_from 0 (digits m) ≡ some m
digits-read m l =
    digits-cases (λ t. digits_from 0 t ≡ some m) m (λ a. read_more 0 m [] ∙ read-end m (0 * 10 + m % 10) (omega arith))
    (λ a b. read_more 0 (m / 10) (digit m ∷ []) ∙ read_more (0 * 10 + m / 10 % 10) m []
    ∙ read-end m ((0 * 10 + m / 10 % 10) * 10 + m % 10) (omega arith))
    (λ a. read_more 0 (m / 100) (digit (m / 10) ∷ digit m ∷ []) ∙ read_more (0 * 10 + m / 100 % 10) (m / 10) (digit m ∷ [])
    ∙ read_more ((0 * 10 + m / 100 % 10) * 10 + m / 10 % 10) m []
    ∙ read-end m (((0 * 10 + m / 100 % 10) * 10 + m / 10 % 10) * 10 + m % 10) (omega arith))

-- how many digits there are
pub digits-two : (m : ℕ) → m < 100 → length (digits m) ≤ 2
digits-two m l = digits-cases (λ t. length t ≤ 2) m (λ a. omega arith) (λ a b. omega arith) (λ a. omega arith)

pub digits-three : (m : ℕ) → length (digits m) ≤ 3
digits-three m = digits-cases (λ t. length t ≤ 3) m (λ a. omega arith) (λ a b. omega arith) (λ a. omega arith)
