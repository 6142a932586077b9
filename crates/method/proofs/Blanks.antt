-- Pruning by blanks leaves what pruning by marks picks.
use mathlib.Core.Path.{◌≡◌, refl, sym, ap, ◌∙◌}
use mathlib.Core.Bool.{Bool, true, false, cond, ◌||◌}
use mathlib.Core.List.{List, [], ◌∷◌, ◌++◌, append_assoc, append-nil}
use Prim.Native.Nat.{ℕ, suc, ◌≤◌, ◌<◌}
use native.Mathlib.Nat.{le_of_suc-le-suc, not-suc-le-zero}
use native.Mathlib.Numerals.{add-one}
use native.Mathlib.Omega.{arith}
use lib.Bits.{and_zero_r}
use lib.Dec.{eqb}
use lib.ListN.{length, take, drop, get_or, set, length-append, drop_of_length-le}
use lib.Seq.{drop-cons, take-suc, length-take-le}
use borrow.Author.Tests.{eqb-true, ne_eqb}
use Rattle.rules.specs.declared.Row.{Row}
use Rattle.rules.specs.Words.{holds, is_row, fits, in_some}
use Rattle.rules.specs.Method.{needed, marks_after, marks, picked}
use Rattle.rules.specs.Calls.{kept}
use Rattle.rules.proofs.Logic.{clash}
use Rattle.std.proofs.lemmas.Bool.{and_parts, false_from_ne_true}
use Rattle.rules.proofs.Generation.{All}
use Rattle.method.specs.Blank.{blank, is_blank, blanked, solid}

pub blank-holds : (s : ℕ) → holds blank s ≡ false
blank-holds s = ne_eqb _ 1 (λ e. let z : 0 ≡ 1 = sym (and_zero_r s) ∙ e in omega arith)

-- What the rows judged so far and the rest hold: the rows picked, and the rest.
pub blanked-holds : (m : List Bool) (rows : List Row) → length m ≤ length rows → (s : ℕ)
    → in_some (blanked m rows) s ≡ in_some (picked m (take (length m) rows) ++ drop (length m) rows) s
unfolding blanked picked in_some
blanked-holds [] rows l s = refl
blanked-holds (b ∷ m) [] l s = absurd (not-suc-le-zero l)
blanked-holds (b ∷ m) (r ∷ rows) l s = go b (blanked-holds m rows (le_of_suc-le-suc l) s)
  where
    go : (b : Bool) → in_some (blanked m rows) s ≡ in_some (picked m (take (length m) rows) ++ drop (length m) rows) s
        → (holds (cond b r blank) s || in_some (blanked m rows) s)
        ≡ in_some (cond b (r ∷ picked m (take (length m) rows)) (picked m (take (length m) rows)) ++ drop (length m) rows) s
    go true e = ap (λ (x : Bool). holds r s || x) e
    go false e = rw (blank-holds s) e

-- One row more is judged.
pub blanked-more : (m : List Bool) (b : Bool) (rows : List Row) → length m < length rows
    → blanked (m ++ (b ∷ [])) rows ≡ set (blanked m rows) (length m) (cond b (get_or rows (length m) blank) blank)
unfolding blanked
blanked-more [] b [] l = absurd (not-suc-le-zero l)
blanked-more [] b (r ∷ rows) l = refl
blanked-more (x ∷ m) b [] l = absurd (not-suc-le-zero l)
blanked-more (x ∷ m) b (r ∷ rows) l = ap (λ (y : List Row). cond x r blank ∷ y) (blanked-more m b rows (le_of_suc-le-suc l))

-- A row not judged yet stands as it was.
pub blanked-rest : (m : List Bool) (rows : List Row) → length m < length rows → (d : Row) → get_or (blanked m rows) (length m) d ≡ get_or rows (length m) d
unfolding blanked
blanked-rest [] rows l d = refl
blanked-rest (x ∷ m) [] l d = absurd (not-suc-le-zero l)
blanked-rest (x ∷ m) (r ∷ rows) l d = blanked-rest m rows (le_of_suc-le-suc l) d

pub blanked-length : (m : List Bool) (rows : List Row) → length (blanked m rows) ≡ length rows
unfolding blanked
blanked-length [] rows = refl
blanked-length (x ∷ m) [] = refl
blanked-length (x ∷ m) (r ∷ rows) = ap suc (blanked-length m rows)

-- The rows left are those picked.
pub row-solid : (n : ℕ) (r : Row) → is_row n r ≡ true → is_blank r ≡ false
row-solid n r w =
    let b = and_parts (fits n r.care) (holds r r.value) w in
    false_from_ne_true _ (λ h. let e = and_parts (eqb r.care 0) (eqb r.value 1) h in
    let c = eqb-true r.care 0 e.0 in
    let v = eqb-true r.value 1 e.1 in
    clash b.1 (ne_eqb _ r.value (λ q. let z : 0 ≡ 1 = sym (and_zero_r r.value) ∙ ap (λ (k : ℕ). lib.Bits.bit_and r.value k) (sym c) ∙ q ∙ v in omega arith)))

pub solid-all : (n : ℕ) (rows : List Row) → All (λ r. is_row n r ≡ true) rows → solid rows ≡ rows
unfolding solid
solid-all n [] w = refl
solid-all n (r ∷ rows) w = rw (row-solid n r w.0) (ap (λ (x : List Row). r ∷ x) (solid-all n rows w.1))

pub solid-blanked : (n : ℕ) (m : List Bool) (rows : List Row) → length m ≡ length rows → All (λ r. is_row n r ≡ true) rows → solid (blanked m rows) ≡ picked m rows
unfolding blanked solid picked
solid-blanked n [] [] l w = refl
solid-blanked n [] (r ∷ rows) l w = let z : ⊥ = omega arith in absurd z
solid-blanked n (b ∷ m) [] l w = let z : ⊥ = omega arith in absurd z
solid-blanked n (b ∷ m) (r ∷ rows) l w = go b (solid-blanked n m rows (ap Prim.Native.Nat.pred l) w.1)
  where
    go : (b : Bool) → solid (blanked m rows) ≡ picked m rows
        → cond (is_blank (cond b r blank)) (solid (blanked m rows)) (cond b r blank ∷ solid (blanked m rows)) ≡ cond b (r ∷ picked m rows) (picked m rows)
    go true e = rw (row-solid n r w.0) (ap (λ (x : List Row). r ∷ x) e)
    go false e = e

-- Judging row by row, first to last: `m` are the marks of the rows judged so far.
module _ (counts : ℕ → Bool) (order : List ℕ) (rows : List Row) where
  abbrev pub Judged : List Bool → Type 0
  Judged m = m ++ marks_after counts order (picked m (take (length m) rows)) (drop (length m) rows) ≡ marks counts order rows

  -- The rows that the next row is judged against.
  abbrev pub others : List Bool → List Row
  others m = picked m (take (length m) rows) ++ drop (suc (length m)) rows

  picked_more : (m : List Bool) (b : Bool) (xs : List Row) (r : Row) → length m ≡ length xs → picked (m ++ (b ∷ [])) (xs ++ (r ∷ [])) ≡ cond b (picked m xs ++ (r ∷ [])) (picked m xs)
  unfolding picked
  picked_more [] true [] r l = refl
  picked_more [] false [] r l = refl
  picked_more [] b (x ∷ xs) r l = let z : ⊥ = omega arith in absurd z
  picked_more (c ∷ m) b [] r l = let z : ⊥ = omega arith in absurd z
  picked_more (c ∷ m) b (x ∷ xs) r l = go c b (picked_more m b xs r (ap Prim.Native.Nat.pred l))
    where
      go : (c b : Bool) → picked (m ++ (b ∷ [])) (xs ++ (r ∷ [])) ≡ cond b (picked m xs ++ (r ∷ [])) (picked m xs)
          → cond c (x ∷ picked (m ++ (b ∷ [])) (xs ++ (r ∷ []))) (picked (m ++ (b ∷ [])) (xs ++ (r ∷ [])))
          ≡ cond b (cond c (x ∷ picked m xs) (picked m xs) ++ (r ∷ [])) (cond c (x ∷ picked m xs) (picked m xs))
      go true true e = ap (λ (y : List Row). x ∷ y) e
      go true false e = ap (λ (y : List Row). x ∷ y) e
      go false true e = e
      go false false e = e

  -- They hold what the rows with the next one blanked hold.
  pub others-hold : (m : List Bool) → length m < length rows → (s : ℕ) → in_some (set (blanked m rows) (length m) blank) s ≡ in_some (others m) s
  others-hold m l s =
      let k : ℕ = length m in
      let size : length (m ++ (false ∷ [])) ≡ suc k = length-append m (false ∷ []) ∙ add-one k in
      let front : length m ≡ length (take k rows) = sym (length-take-le k rows (omega arith)) in
      ap (λ (x : List Row). in_some x s) (sym (blanked-more m false rows l))
      ∙ blanked-holds (m ++ (false ∷ [])) rows (rw size l) s
      ∙ (rw (size, take-suc rows k blank l, picked_more m false (take k rows) (get_or rows k blank) front) refl)

  pub judged-none : Judged []
  judged-none = unfold picked in refl

  judged-step : (k : ℕ) (kept : List Row) (r : Row) (b : Bool) → drop k rows ≡ r ∷ drop (suc k) rows → needed counts order r (kept ++ drop (suc k) rows) ≡ b
      → marks_after counts order kept (drop k rows) ≡ b ∷ marks_after counts order (cond b (kept ++ (r ∷ [])) kept) (drop (suc k) rows)
  unfolding marks_after
  judged-step k kept r b c e =
      ap (marks_after counts order kept) c
      ∙ ap (λ (x : Bool). x ∷ marks_after counts order (cond x (kept ++ (r ∷ [])) kept) (drop (suc k) rows)) e

  pub judged-more : (m : List Bool) (b : Bool) (d : Row) → length m < length rows → Judged m
      → needed counts order (get_or rows (length m) d) (others m) ≡ b → Judged (m ++ (b ∷ []))
  judged-more m b d l j e =
      let k : ℕ = length m in
      let r : Row = get_or rows k d in
      let size : length (m ++ (b ∷ [])) ≡ suc k = length-append m (b ∷ []) ∙ add-one k in
      let front : length m ≡ length (take k rows) = sym (length-take-le k rows (omega arith)) in
      rw (size, take-suc rows k d l, picked_more m b (take k rows) r front, append_assoc)
      (ap (λ (x : List Bool). m ++ x) (sym (judged-step k (picked m (take k rows)) r b (drop-cons rows k d l) e)) ∙ j)

  pub judged-all : (m : List Bool) → length m ≡ length rows → Judged m → m ≡ marks counts order rows
  unfolding marks_after
  judged-all m l j =
      sym (append-nil m) ∙ ap (λ (x : List Row). m ++ marks_after counts order (picked m (take (length m) rows)) x) (sym (drop_of_length-le rows {i = length m} (omega arith))) ∙ j
