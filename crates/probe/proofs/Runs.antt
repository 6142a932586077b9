-- Records in three runs of words: what is built of them, and what pruning leaves.
use mathlib.Core.Path.{◌≡◌, refl, sym, ap, ◌∙◌}
use mathlib.Core.Bool.{Bool, true, not}
use mathlib.Core.List.{List, [], ◌∷◌, ◌++◌, map}
use Prim.Native.Nat.{ℕ, zero, suc, ◌+◌, ◌≤◌, ◌<◌}
use native.Mathlib.Omega.{arith}
use lib.ListN.{length, get_or, take, set, length-map}
use Rattle.std.proofs.lemmas.List.{take_all, take_more_set, take_more}
use Rattle.rules.specs.declared.Row.{Row}
use Rattle.rules.specs.Words.{is_inputs, natural}
use Rattle.rules.specs.Method.{marks, all}
use Rattle.rules.specs.Answers.{Verdict, given, refused, over, after}
use Rattle.rules.specs.Calls.{prune, rows_in}
use Rattle.rules.proofs.Logic.{test}
use Rattle.method.proofs.Standing.{marks-length}
use Rattle.given.specs.Given.{in_form}
use Rattle.given.proofs.InForm.{form-count}
use Rattle.records.specs.declared.cubes.Cube.{Cube}
use Rattle.records.specs.Marks.{row_of, with_mark, marked_by, marked}
use Rattle.records.proofs.Verdict.{refused-inputs, refused-list, pruned, first_count}
use Rattle.probe.specs.Cubes.{cube_of, cubes_in, cares_of, values_of, marks_of, set_marks, gone_marks}

-- Runs of one length.
abbrev pub Long : List ℕ → List ℕ → List ℕ → Type 0
Long cs vs ms = (length vs ≡ length cs) × (length ms ≡ length cs)

-- The records of such runs: how many, which, and read back.
pub cubes-length : (cs vs ms : List ℕ) → Long cs vs ms → length (cubes_in cs vs ms) ≡ length cs
unfolding cubes_in
cubes-length [] vs ms l = refl
cubes-length (c ∷ cs) [] ms l = absurd (omega arith)
cubes-length (c ∷ cs) (v ∷ vs) [] l = absurd (omega arith)
cubes-length (c ∷ cs) (v ∷ vs) (m ∷ ms) l = ap suc (cubes-length cs vs ms (omega arith, omega arith))

pub cube-at : (cs vs ms : List ℕ) (i : ℕ) (d : Cube) → Long cs vs ms → i < length cs → get_or (cubes_in cs vs ms) i d ≡ cube_of (get_or cs i 0) (get_or vs i 0) (get_or ms i 0)
unfolding cubes_in
cube-at [] vs ms i d l h = absurd (omega arith)
cube-at (c ∷ cs) [] ms i d l h = absurd (omega arith)
cube-at (c ∷ cs) (v ∷ vs) [] i d l h = absurd (omega arith)
cube-at (c ∷ cs) (v ∷ vs) (m ∷ ms) zero d l h = refl
cube-at (c ∷ cs) (v ∷ vs) (m ∷ ms) (suc i) d l h = cube-at cs vs ms i d (omega arith, omega arith) (omega arith)

-- one record more is built
pub built_more : (cs vs ms : List ℕ) (i : ℕ) (cells : List Cube) (cube : Cube) → Long cs vs ms → i < length cs → i < length cells
    → cube ≡ cube_of (get_or cs i 0) (get_or vs i 0) (get_or ms i 0) → take i cells ≡ take i (cubes_in cs vs ms)
    → take (i + 1) (set cells i cube) ≡ take (i + 1) (cubes_in cs vs ms)
built_more cs vs ms i cells cube l h here e before =
    take_more_set cells i cube here
    ∙ ap (λ (xs : List Cube). xs ++ (cube ∷ [])) before
    ∙ rw (e ∙ sym (cube-at cs vs ms i cube l h)) (sym (take_more (cubes_in cs vs ms) i cube (omega (arith, cubes-length cs vs ms l))))

-- and all of them are
pub built_all : (cs vs ms : List ℕ) (i : ℕ) (cells : List Cube) → Long cs vs ms → length cs ≤ i → length cells ≤ i → take i cells ≡ take i (cubes_in cs vs ms)
    → cells ≡ cubes_in cs vs ms
built_all cs vs ms i cells l a b e = sym (take_all i cells b) ∙ e ∙ take_all i (cubes_in cs vs ms) (omega (arith, cubes-length cs vs ms l))

pub record Back (cs vs ms : List ℕ) (records : List Cube) : Type 0 where
  pub rows : map row_of records ≡ rows_in cs vs
  pub cares : cares_of records ≡ cs
  pub values : values_of records ≡ vs
  pub marks : marks_of records ≡ set_marks ms

pub back : (cs vs ms : List ℕ) → Long cs vs ms → Back cs vs ms (cubes_in cs vs ms)
unfolding cubes_in rows_in
back [] [] [] l = record { rows = refl; cares = refl; values = refl; marks = refl }
back [] [] (m ∷ ms) l = absurd (omega arith)
back [] (v ∷ vs) ms l = absurd (omega arith)
back (c ∷ cs) [] ms l = absurd (omega arith)
back (c ∷ cs) (v ∷ vs) [] l = absurd (omega arith)
back (c ∷ cs) (v ∷ vs) (m ∷ ms) l =
    let b = back cs vs ms (omega arith, omega arith) in
    record { rows = rw b.rows; cares = rw b.cares; values = rw b.values; marks = rw b.marks }

-- Pruning leaves a record's words,
kept_by : (word : Cube → ℕ) → ((b : Bool) (c : Cube) → word (with_mark b c) ≡ word c) → (ds : List Bool) (ys : List Cube) → map word (marked_by ds ys) ≡ map word ys
unfolding marked_by
kept_by word same [] ys = refl
kept_by word same (d ∷ ds) [] = refl
kept_by word same (d ∷ ds) (y ∷ ys) = rw (same d y, kept_by word same ds ys)

pub kept : (word : Cube → ℕ) → ((b : Bool) (c : Cube) → word (with_mark b c) ≡ word c) → (v : Verdict (List Bool)) (ys : List Cube) → map word (marked v ys) ≡ map word ys
kept word same (given stays) ys = kept_by word same (map not stays) ys
kept word same (refused r) ys = refl

-- and sets the marks of the rows that go.
marks-over : (stays : List Bool) (ys : List Cube) → length stays ≤ length ys → marks_of (marked_by (map not stays) ys) ≡ over (gone_marks stays) (marks_of ys)
unfolding marked_by
marks-over [] ys l = refl
marks-over (s ∷ stays) [] l = absurd (omega arith)
marks-over (s ∷ stays) (y ∷ ys) l = ap (λ (x : List ℕ). gone_marks (s ∷ []) ++ x) (marks-over stays ys (omega arith))

module _ (n count : ℕ) (ys : List Cube) where
  abbrev rows : List Row
  rows = map row_of ys

  abbrev stays : List Bool
  stays = marks all (natural n) (take count rows)

  few : in_form n count rows ≡ true → length stays ≤ length ys
  few f =
      omega (arith, marks-length all (natural n) [] (take count rows), first_count n count rows f, form-count n count rows f, length-map ys row_of)

  pub marks-left : marks_of (marked (prune n count rows) ys) ≡ after gone_marks (prune n count rows) (marks_of ys)
  marks-left =
      test (is_inputs n)
      (λ i. test (in_form n count rows)
      (λ f. rw (pruned n count rows i f) (marks-over stays ys (few f)))
      (λ f. rw (refused-list n count rows i f)))
      (λ i. rw (refused-inputs n count rows i))
