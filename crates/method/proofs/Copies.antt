-- The rows that are no blanks, copied one after another.
use mathlib.Core.Path.{◌≡◌, refl, sym, ap, ◌∙◌}
use mathlib.Core.Bool.{Bool, true, false, cond}
use mathlib.Core.List.{List, [], ◌∷◌, ◌++◌, append-nil, map, map-append}
use Prim.Native.Nat.{ℕ, suc, ◌+◌, ◌≤◌, ◌<◌}
use native.Mathlib.Numerals.{add-one}
use native.Mathlib.Omega.{arith}
use lib.ListN.{length, get_or, take, drop, length-append, length-map, take-append-drop}
use lib.Seq.{take-suc}
use Rattle.rules.specs.declared.Row.{Row}
use Rattle.method.specs.Blank.{is_blank, solid}

solid-append : (xs ys : List Row) → solid (xs ++ ys) ≡ solid xs ++ solid ys
unfolding solid
solid-append [] ys = refl
solid-append (r ∷ xs) ys = go (is_blank r) (solid-append xs ys)
  where
    go : (b : Bool) → solid (xs ++ ys) ≡ solid xs ++ solid ys → cond b (solid (xs ++ ys)) (r ∷ solid (xs ++ ys)) ≡ cond b (solid xs) (r ∷ solid xs) ++ solid ys
    go true e = e
    go false e = ap (λ (x : List Row). r ∷ x) e

solid-length : (rows : List Row) → length (solid rows) ≤ length rows
unfolding solid
solid-length [] = omega arith
solid-length (r ∷ rows) = go (is_blank r) (solid-length rows)
  where
    go : (b : Bool) → length (solid rows) ≤ length rows → length (cond b (solid rows) (r ∷ solid rows)) ≤ suc (length rows)
    go true l = omega arith
    go false l = omega arith

-- the i-th row of a list, and the rows taken before it
module _ (rows : List Row) (i : ℕ) (d : Row) (h : i < length rows) where
  more : solid (take (i + 1) rows) ≡ solid (take i rows) ++ solid (get_or rows i d ∷ [])
  more = ap solid (ap (λ (k : ℕ). take k rows) (add-one i) ∙ take-suc rows i d h) ∙ solid-append (take i rows) (get_or rows i d ∷ [])

  pub passed : is_blank (get_or rows i d) ≡ true → solid (take (i + 1) rows) ≡ solid (take i rows)
  unfolding solid
  passed b = more ∙ rw b (append-nil (solid (take i rows)))

  pub taken : is_blank (get_or rows i d) ≡ false → solid (take (i + 1) rows) ≡ solid (take i rows) ++ (get_or rows i d ∷ [])
  unfolding solid
  taken b = more ∙ rw b

  pub within : is_blank (get_or rows i d) ≡ false → length (solid (take i rows)) < length (solid rows)
  within b =
      let e = ap length (ap solid (sym (take-append-drop (i + 1) rows)) ∙ solid-append (take (i + 1) rows) (drop (i + 1) rows) ∙ ap (λ (x : List Row). x ++ solid (drop (i + 1) rows)) (taken b)) in
      let f = length-append (solid (take i rows) ++ (get_or rows i d ∷ [])) (solid (drop (i + 1) rows)) in
      let k = length-append (solid (take i rows)) (get_or rows i d ∷ []) in
      omega arith

  pub few : is_blank (get_or rows i d) ≡ false → length (solid (take i rows)) < length rows
  few b = let e = within b in let f = solid-length rows in omega arith

  -- one word more of the rows that were taken
  pub word-taken : (word : Row → ℕ) → is_blank (get_or rows i d) ≡ false
      → map word (solid (take i rows)) ++ (word (get_or rows i d) ∷ []) ≡ map word (solid (take (i + 1) rows))
  word-taken word b = sym (ap (map word) (taken b) ∙ map-append word (solid (take i rows)) (get_or rows i d ∷ []))

  -- for which a run has room, however it stands by then
  pub has_room : (room : List ℕ → ℕ) (with : List ℕ → List ℕ → List ℕ)
      → ((words run : List ℕ) → length words ≤ room run → room (with words run) ≡ room run)
      → (word : Row → ℕ) (run now : List ℕ) (count : ℕ) → is_blank (get_or rows i d) ≡ false → length (solid rows) ≤ room run
      → now ≡ with (map word (solid (take i rows))) run → count ≡ length (solid (take i rows)) → count < room now
  has_room room with same word run now count b m e c =
      let w = within b in
      let l = length-map (solid (take i rows)) word in
      let s = ap room e ∙ same (map word (solid (take i rows))) run (omega arith) in
      omega arith
