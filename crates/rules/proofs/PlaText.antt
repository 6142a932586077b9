-- What a PLA text says, which inputs it names, and how long it is.
use mathlib.Core.Path.{◌≡◌, refl, ap, sym, ◌∙◌}
use mathlib.Core.Bool.{Bool, true, false, cond, ◌&&◌, ◌||◌}
use mathlib.Core.List.{List, [], ◌∷◌, ◌++◌, append_assoc}
use mathlib.Core.Option.{Option, some}
use Prim.Native.Char.{code}
use Prim.Native.Nat.{ℕ, zero, suc, ◌+◌, ◌-◌, ◌*◌, ◌^◌, ◌≤◌, ◌<◌}
use native.Mathlib.Nat.{suc-mul, mul-le-mul}
use native.Mathlib.Omega.{arith}
use lib.Bits.{bit_and}
use lib.Dec.{eqb, ltb}
use lib.ListN.{length, length-append}
use borrow.Author.Tests.{eqb-true, eqb-false, ltb-true, ltb-false}
use Rattle.rules.specs.declared.Row.{Row}
use Rattle.rules.specs.Words.{one, is_one, fits, holds, is_row, fixes, in_some}
use Rattle.rules.specs.Method.{max_rows}
use Rattle.rules.specs.Calls.{are_rows}
use Rattle.rules.specs.Dimacs.{ascii, digits_from}
use Rattle.rules.specs.Pla.{digits, bit_char, row_chars, row_lines, text_of, lines, agrees, line_holds, is_row_line, some_line, read_at, read_count, rows_among, rows_read}
use Rattle.rules.proofs.Logic.{test, clash, both_ways}
use Rattle.std.proofs.lemmas.Bool.{and_parts, and_from, not_from_false}
use Rattle.std.proofs.Math.Option.{some-injective}
use Rattle.rules.proofs.Bits.{bit, bit-and, bit_high}
use Rattle.rules.proofs.Rows.{holds-bits, bits-holds}
use Rattle.rules.proofs.PlaCount.{body, text-lines, text-count}
use Rattle.rules.proofs.Lines.{plain, plain_more, plain-append, lines-line, digits-plain, digits-read, digits-two, digits-three}

-- a row's character for a variable that it fixes or not, and at this value
abbrev row_char : Bool → Bool → ℕ
row_char fixed value = cond fixed (bit_char value) (code "-")

-- it is neither a line feed nor a space nor a dot
char-kinds : (c v : Bool) → (eqb (row_char c v) (code "\n") ≡ false) × (eqb (row_char c v) (code " ") ≡ false) × (eqb (row_char c v) (code ".") ≡ false)
char-kinds true true = (refl, refl, refl)
char-kinds true false = (refl, refl, refl)
char-kinds false v = (refl, refl, refl)

-- it agrees with a setting's variable exactly if the row does; a value is one only where the variable is fixed
char-agrees : (c v b : Bool) → (v && c) ≡ v → agrees (row_char c v) b ≡ true → (b && c) ≡ v
char-agrees true true true r h = refl
char-agrees true true false r h = h
char-agrees true false true r h = sym h
char-agrees true false false r h = refl
char-agrees false true b r h = clash r refl
char-agrees false false true r h = refl
char-agrees false false false r h = refl

agrees-char : (c v b : Bool) → (b && c) ≡ v → agrees (row_char c v) b ≡ true
agrees-char true true true h = refl
agrees-char true true false h = h
agrees-char true false true h = sym h
agrees-char true false false h = refl
agrees-char false v b h = refl

-- so a row's characters hold no line feed
row_chars-plain : (v k : ℕ) (r : Row) → plain (row_chars v k r) ≡ true
unfolding row_chars plain
row_chars-plain v zero r = refl
row_chars-plain v (suc k) r =
    plain_more (row_char (fixes r v) (is_one v r.value)) (row_chars (suc v) k r) (char-kinds (fixes r v) (is_one v r.value)).0 (row_chars-plain (suc v) k r)

-- variable i + 1 is bit i
is_one-bit : (i w : ℕ) → is_one (suc i) w ≡ bit i w
is_one-bit i w = let e : suc i - 1 ≡ i = omega arith in rw e

-- a row's line from bit i on, of k variables
abbrev line_from : ℕ → ℕ → Row → List ℕ
line_from i k r = row_chars (suc i) k r ++ ascii " 1"

-- row and setting agree at bit i; so does the character there
abbrev Agree : Row → ℕ → ℕ → Type 0
Agree r s i = (bit i s && bit i r.care) ≡ bit i r.value

abbrev char_agrees : Row → ℕ → ℕ → Bool
char_agrees r s i = agrees (row_char (bit i r.care) (bit i r.value)) (bit i s)

-- a line holds the setting if its first character agrees and so does the line from the next bit on
line_step : (i k : ℕ) (r : Row) (s : ℕ) → line_holds (suc i) (line_from i (suc k) r) s ≡ (char_agrees r s i && line_holds (suc (suc i)) (line_from (suc i) k r) s)
unfolding row_chars line_holds
line_step i k r s =
    rw (is_one-bit i r.care, is_one-bit i r.value, is_one-bit i s) (rw (char-kinds (bit i r.care) (bit i r.value)).1)

-- the bits from i on are bit i and those from i + 1 on
from_step : (P : ℕ → Type 0) (i k : ℕ) → P i → ((j : ℕ) → suc i ≤ j → j < suc i + k → P j) → (j : ℕ) → i ≤ j → j < i + suc k → P j
from_step P i k p f j a b = test (eqb i j) (λ q. rw (← eqb-true i j q) p) λ q. let n = eqb-false i j q in f j (omega arith) (omega arith)

-- a row's line holds a setting exactly if row and setting agree at each of its bits
line-agrees : (i k : ℕ) (r : Row) (s : ℕ) → ((j : ℕ) → (bit j r.value && bit j r.care) ≡ bit j r.value) → line_holds (suc i) (line_from i k r) s ≡ true
    → (j : ℕ) → i ≤ j → j < i + k → Agree r s j
line-agrees i zero r s u h j a b = let w : ⊥ = omega arith in absurd w
line-agrees i (suc k) r s u h j a b =
    let g = and_parts (char_agrees r s i) (line_holds (suc (suc i)) (line_from (suc i) k r) s) (sym (line_step i k r s) ∙ h) in
    from_step (Agree r s) i k (char-agrees (bit i r.care) (bit i r.value) (bit i s) (u i) g.0) (line-agrees (suc i) k r s u g.1) j a b

agrees-line : (i k : ℕ) (r : Row) (s : ℕ) → ((j : ℕ) → i ≤ j → j < i + k → Agree r s j) → line_holds (suc i) (line_from i k r) s ≡ true
unfolding row_chars line_holds
agrees-line i zero r s h = refl
agrees-line i (suc k) r s h =
    line_step i k r s
    ∙ and_from _ _ (agrees-char (bit i r.care) (bit i r.value) (bit i s) (h i (omega arith) (omega arith)))
    (agrees-line (suc i) k r s λ j a b. h j (omega arith) (omega arith))

-- a dash agrees with both values
dash-agrees : (c v b : Bool) → c ≡ false → (v && c) ≡ v → (b && c) ≡ v
dash-agrees true v b p r = clash refl p
dash-agrees false v b p r = char-agrees false v b r refl

-- a row's line agrees with a setting exactly if the row holds it
pub line-holds : (n : ℕ) (r : Row) (s : ℕ) → is_row n r ≡ true → line_holds 1 (row_chars 1 n r ++ ascii " 1") s ≡ holds r s
line-holds n r s h =
    let g = and_parts (fits n r.care) (eqb (bit_and r.value r.care) r.value) h in
    let u : (j : ℕ) → (bit j r.value && bit j r.care) ≡ bit j r.value =
    λ j. sym (bit-and j r.value r.care) ∙ ap (bit j) (eqb-true (bit_and r.value r.care) r.value g.1) in
    let high : (j : ℕ) → n ≤ j → bit j r.care ≡ false = λ j l. bit_high n j r.care (ltb-true r.care (2 ^ n) g.0) l in
    both_ways (line_holds 1 (line_from 0 n r) s) (holds r s)
    (λ q. bits-holds r s λ j.
    test (ltb j n) (λ l. let k = ltb-true j n l in line-agrees 0 n r s u q j (omega arith) (omega arith))
    (λ l. dash-agrees (bit j r.care) (bit j r.value) (bit j s) (high j (ltb-false j n l)) (u j)))
    (λ q. agrees-line 0 n r s λ j a b. holds-bits r s q j)

-- a line that begins with a dot says nothing
some-dot : (l t : List ℕ) (s : ℕ) → plain l ≡ true → some_line (lines ((code "." ∷ l) ++ (code "\n" ∷ t))) s ≡ some_line (lines t) s
unfolding some_line plain
some-dot l t s p = rw (lines-line (code "." ∷ l) t p)

-- a row's line begins with no dot
row-is_line : (n : ℕ) (r : Row) → 1 ≤ n → is_row_line (row_chars 1 n r ++ ascii " 1") ≡ true
unfolding row_chars
row-is_line zero r l = let w : ⊥ = omega arith in absurd w
row-is_line (suc k) r l = not_from_false _ (char-kinds (fixes r 1) (is_one 1 r.value)).2

-- such a line says what it holds; a row's line, what the row holds
some-line : (l : List ℕ) (ls : List (List ℕ)) (s : ℕ) → is_row_line l ≡ true → some_line (l ∷ ls) s ≡ (line_holds 1 l s || some_line ls s)
unfolding some_line
some-line l ls s p = rw p

some-row : (n : ℕ) (r : Row) (t : List ℕ) (s : ℕ) → 1 ≤ n → is_row n r ≡ true
    → some_line (lines (row_chars 1 n r ++ (ascii " 1\n" ++ t))) s ≡ (holds r s || some_line (lines t) s)
unfolding plain
some-row n r t s l h =
    let line = row_chars 1 n r ++ ascii " 1" in
    ap (λ x. some_line (lines x) s) (sym (append_assoc (row_chars 1 n r) (ascii " 1") (code "\n" ∷ t)))
    ∙ ap (λ x. some_line x s) (lines-line line t (plain-append (row_chars 1 n r) (ascii " 1") (row_chars-plain 1 n r) refl))
    ∙ some-line line (lines t) s (row-is_line n r l)
    ∙ ap (λ b. b || some_line (lines t) s) (line-holds n r s h)

-- the rows' lines say what the list says
some-rows : (n : ℕ) (rows : List Row) (s : ℕ) → 1 ≤ n → are_rows n rows ≡ true → some_line (lines (row_lines n rows ++ ascii ".e\n")) s ≡ in_some rows s
unfolding row_lines are_rows in_some lines some_line
some-rows n [] s l h = refl
some-rows n (r ∷ rows) s l h =
    let g = and_parts (is_row n r) (are_rows n rows) h in
    ap (λ x. some_line (lines x) s) (append_assoc (row_chars 1 n r) (ascii " 1\n" ++ row_lines n rows) (ascii ".e\n"))
    ∙ some-row n r (row_lines n rows ++ ascii ".e\n") s l g.0
    ∙ ap (λ b. holds r s || b) (some-rows n rows s l g.1)

-- a text read at a setting gives the list's value
pub text-reads : (n : ℕ) (rows : List Row) → 1 ≤ n → are_rows n rows ≡ true → (s : ℕ) → s < 2 ^ n → read_at (text_of n rows) s ≡ in_some rows s
unfolding read_at text_of plain
text-reads n rows l h s b =
    let body = row_lines n rows ++ ascii ".e\n" in
    let count = ascii "p " ++ digits (length rows) in
    some-dot (ascii "i " ++ digits n) (ascii ".o 1\n." ++ (count ++ (code "\n" ∷ body))) s (digits-plain n)
    ∙ some-dot (ascii "o 1") (ascii "." ++ (count ++ (code "\n" ∷ body))) s refl
    ∙ some-dot count body s (digits-plain (length rows))
    ∙ some-rows n rows s l h

-- a text's first line names its inputs, so equal texts have equal inputs
text-first : (n : ℕ) (rows : List Row) → (rest : List (List ℕ)) × (lines (text_of n rows) ≡ (ascii ".i " ++ digits n) ∷ rest)
unfolding text_of plain
text-first n rows =
    let rest = ascii ".o 1\n.p " ++ (digits (length rows) ++ (ascii "\n" ++ (row_lines n rows ++ ascii ".e\n"))) in
    (lines rest, lines-line (ascii ".i " ++ digits n) rest (digits-plain n))

pub text-inputs : (n m : ℕ) (xs ys : List Row) → n ≤ 24 → m ≤ 24 → text_of n xs ≡ text_of m ys → n ≡ m
text-inputs n m xs ys a b e =
    let same : digits n ≡ digits m = cc ((text-first n xs).1, (text-first m ys).1) in
    some-injective _ _ (sym (digits-read n (omega arith)) ∙ ap (digits_from 0) same ∙ digits-read m (omega arith))

-- a row's line is the first of a text that begins with it
row_first : (n : ℕ) (r : Row) (t : List ℕ) → lines (row_chars 1 n r ++ (ascii " 1\n" ++ t)) ≡ (row_chars 1 n r ++ ascii " 1") ∷ lines t
unfolding plain
row_first n r t =
    ap lines (sym (append_assoc (row_chars 1 n r) (ascii " 1") (code "\n" ∷ t)))
    ∙ lines-line (row_chars 1 n r ++ ascii " 1") t (plain-append (row_chars 1 n r) (ascii " 1") (row_chars-plain 1 n r) refl)

-- the rows' lines
body-rows : (n : ℕ) (rows : List Row) → 1 ≤ n → rows_among (lines (body n rows)) ≡ length rows
unfolding row_lines lines rows_among
body-rows n [] l = refl
body-rows n (r ∷ rows) l =
    let last : 1 + rows_among (lines (body n rows)) ≡ suc (length rows) = omega (arith, body-rows n rows l) in
    ap (λ t. rows_among (lines t)) (append_assoc (row_chars 1 n r) (ascii " 1\n" ++ row_lines n rows) (ascii ".e\n"))
    ∙ ap rows_among (row_first n r (body n rows))
    ∙ ap (λ b. one b + rows_among (lines (body n rows))) (row-is_line n r l)
    ∙ last

text-rows : (n : ℕ) (rows : List Row) → 1 ≤ n → rows_read (text_of n rows) ≡ length rows
unfolding rows_read rows_among
text-rows n rows l =
    let rest : 0 + (0 + (0 + rows_among (lines (body n rows)))) ≡ length rows = omega (arith, body-rows n rows l) in
    ap rows_among (text-lines n rows) ∙ rest

-- The number read is that of the lines which are rows, and that of the rows.
pub text-counts : (n : ℕ) (rows : List Row) → 1 ≤ n → length rows ≤ max_rows
    → (read_count (text_of n rows) ≡ some (rows_read (text_of n rows))) × (rows_read (text_of n rows) ≡ length rows)
text-counts n rows l few = let all = text-rows n rows l in (text-count n rows (omega arith) ∙ ap {B = Option ℕ} some (sym all), all)

-- the bytes of a row, of all rows, and of a text
pub row-size : (v k : ℕ) (r : Row) → length (row_chars v k r) ≡ k
unfolding row_chars
row-size v zero r = refl
row-size v (suc k) r = ap suc (row-size (suc v) k r)

pub rows-size : (n : ℕ) (rows : List Row) → length (row_lines n rows) ≡ length rows * (n + 3)
unfolding row_lines
rows-size n [] = omega arith
rows-size n (r ∷ rows) = simp (length-append, row-size) (omega (arith, rows-size n rows, suc-mul (length rows) (n + 3)))

pub text-size : (n : ℕ) (rows : List Row) → length (text_of n rows) ≡ 16 + length (digits n) + length (digits (length rows)) + length rows * (n + 3)
unfolding text_of
text-size n rows = simp length-append (omega (arith, rows-size n rows))

-- the longest text
pub text-most : (n : ℕ) (rows : List Row) → n ≤ 24 → length rows ≤ 256 → length (text_of n rows) ≤ 6933
text-most n rows a b =
    let most : length rows * (n + 3) ≤ 256 * 27 = mul-le-mul {m₂ = 27} b (omega arith) in
    omega (arith, text-size n rows, digits-two n (omega arith), digits-three (length rows))
