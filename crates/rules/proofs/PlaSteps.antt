-- A PLA text piece by piece: a row's line by one character more, the lines of a given list by one row more, and the digits of a number.
use mathlib.Core.Path.{◌≡◌, refl, sym, ap, ◌∙◌}
use mathlib.Core.List.{List, [], ◌∷◌, ◌++◌, append_assoc}
use Prim.Native.Nat.{ℕ, zero, suc, ◌+◌, ◌-◌, ◌/◌, ◌≤◌, ◌<◌}
use native.Mathlib.Nat.{add_comm, add-sub_of_le}
use native.Mathlib.Omega.{arith}
use lib.ListN.{length, take, drop}
use lib.Seq.{take-add}
use borrow.Author.Tests.{lt-ltb, le-ltb}
use Rattle.rules.specs.declared.Row.{Row}
use Rattle.rules.specs.Calls.{rows_in}
use Rattle.rules.specs.Dimacs.{ascii}
use Rattle.rules.specs.Pla.{digit, digits, row_chars, row_lines}
use Rattle.rules.proofs.GivenRows.{row_at, rows_in-take}

-- one character more
row_chars-suc : (v k : ℕ) (r : Row) → row_chars v (suc k) r ≡ row_chars v k r ++ row_chars (v + k) 1 r
unfolding row_chars
row_chars-suc v zero r = let e : v + 0 ≡ v = omega arith in rw e
row_chars-suc v (suc k) r =
    let e : suc v + k ≡ v + suc k = omega arith in
    ap (λ l. row_chars v 1 r ++ l) (row_chars-suc (suc v) k r ∙ ap (λ w. row_chars (suc v) k r ++ row_chars w 1 r) e)

pub row_chars-more : (k : ℕ) (r : Row) → row_chars 1 (k + 1) r ≡ row_chars 1 k r ++ row_chars (k + 1) 1 r
row_chars-more k r = rw (add_comm k 1) (ap (λ m. row_chars 1 m r) e ∙ row_chars-suc 1 k r)
  where
    e : 1 + k ≡ suc k
    e = omega arith

-- the lines of two lists together, and of one row
pub row_lines-append : (n : ℕ) (xs ys : List Row) → row_lines n (xs ++ ys) ≡ row_lines n xs ++ row_lines n ys
unfolding row_lines
row_lines-append n [] ys = refl
row_lines-append n (x ∷ xs) ys = rw (row_lines-append n xs ys) (simp append_assoc)

pub row_lines-one : (n : ℕ) (r : Row) → row_lines n (r ∷ []) ≡ row_chars 1 n r ++ ascii " 1\n"
unfolding row_lines
row_lines-one n r = refl

-- one row more
pub row_lines-suc : (n : ℕ) (cs vs : List ℕ) (k : ℕ) → k < length cs → k < length vs
    → row_lines n (take (suc k) (rows_in cs vs)) ≡ row_lines n (take k (rows_in cs vs)) ++ row_lines n (row_at cs vs k ∷ [])
row_lines-suc n cs vs k a b = ap (row_lines n) (rows_in-take cs vs k a b) ∙ row_lines-append n (take k (rows_in cs vs)) (row_at cs vs k ∷ [])

-- the lines of the first k rows come first
pub row_lines-part : (n : ℕ) (rows : List Row) (k count : ℕ) → k ≤ count
    → row_lines n (take count rows) ≡ row_lines n (take k rows) ++ row_lines n (take (count - k) (drop k rows))
row_lines-part n rows k count l =
    ap (λ m. row_lines n (take m rows)) (sym (add-sub_of_le l))
    ∙ ap (row_lines n) (take-add k (count - k) rows)
    ∙ row_lines-append n (take k rows) (take (count - k) (drop k rows))

-- a number below 1,000 has one digit, two or three
pub one-digit : (m : ℕ) → m < 10 → digits m ≡ digit m ∷ []
unfolding digits
one-digit m l = rw (lt-ltb m 10 l)

pub two_digits : (m : ℕ) → 10 ≤ m → m < 100 → digits m ≡ digit (m / 10) ∷ digit m ∷ []
unfolding digits
two_digits m k l = rw (le-ltb m 10 k, lt-ltb m 100 l)

pub three-digits : (m : ℕ) → 100 ≤ m → digits m ≡ digit (m / 100) ∷ digit (m / 10) ∷ digit m ∷ []
unfolding digits
three-digits m k = let j : 10 ≤ m = omega arith in rw (le-ltb m 10 j, le-ltb m 100 k)
