-- The sheets tried by hand, P1 to P12: what is asked, and what the paper says. Rows and settings show variable 1 first.
use Rattle.std.specs.Prelude.{List, [], ◌∷◌, map, ℕ, ℤ}
use Rattle.std.proofs.Math.Option.{get_or}
use Prim.Native.String.{String}
use Rattle.rules.specs.Words.{natural}
use Rattle.rules.specs.Answers.{Verdict, given, refused}
use Rattle.rules.specs.Dimacs.{ascii, tokens, numbers}
use Rattle.rules.specs.Pla.{row_chars, setting_chars}
use Rattle.rules.specs.Calls.{Run, lent, whole, partial, query, listed}
use Rattle.rules.specs.Program.{output}

-- The refusal's number, or 0; and the rows, or the setting.
pub record Outcome : Type 0 where
  pub number : ℕ
  pub lines : List (List ℕ)

abbrev pub says : ℕ → List String → Outcome
says k lines = record { number = k; lines = map ascii lines }

pub data Case : Type 0 where
  list : ℕ → List ℕ → String → String → Outcome → Case
  generates : ℕ → List ℕ → String → String → Outcome → Case
  smallest_from : ℕ → ℕ → String → Outcome → Case
  prints : String → String → String → Case

unfoldable pub table : List Case
table =
    list 3 (natural 3) "1 0 2 0 3 0" "-1 -2 -3 0" (says 0 ("111" ∷ []))
    ∷ list 3 (natural 3) "-1 -2 -3 0" "1 0 2 0 3 0" (says 0 ("--0" ∷ "-0-" ∷ "0--" ∷ []))
    ∷ list 3 (natural 3) "1 2 3 0 -1 -2 -3 0" "1 -2 0 2 -3 0 3 -1 0" (says 0 ("-01" ∷ "-10" ∷ "0-1" ∷ "1-0" ∷ []))
    ∷ list 3 (3 ∷ 2 ∷ 1 ∷ []) "1 2 3 0 -1 -2 -3 0" "1 -2 0 2 -3 0 3 -1 0" (says 0 ("10-" ∷ "01-" ∷ "1-0" ∷ "0-1" ∷ []))
    ∷ list 3 (natural 3) "-1 -2 0 1 -3 0" "-1 2 0 1 3 0" (says 0 ("0-0" ∷ "10-" ∷ []))
    ∷ generates 3 (natural 3) "-1 -2 0 1 -3 0" "-1 2 0 1 3 0" (says 0 ("-00" ∷ "0-0" ∷ "10-" ∷ []))
    ∷ list 3 (natural 3) "-1 0 -3 0" "1 -2 0 -1 2 0 1 3 0 -1 -3 0" (says 0 ("-00" ∷ "0-0" ∷ []))
    ∷ list 3 (natural 3) "0" "0" (says 0 [])
    ∷ list 3 (natural 3) "" "0" (says 0 ("---" ∷ []))
    ∷ list 3 (natural 3) "" "" (says 6 ("000" ∷ []))
    ∷ list 2 (natural 2) "1 0" "2 0" (says 6 ("11" ∷ []))
    ∷ list 1 (natural 1) "1 0" "-1 0" (says 0 ("1" ∷ []))
    ∷ smallest_from 3 0 "1 2 3 0 -1 -2 -3 0" (says 0 ("001" ∷ []))
    ∷ smallest_from 3 7 "1 2 3 0 -1 -2 -3 0" (says 0 [])
    ∷ prints "p cnf 3 2\n-1 -2 0\n1 -3 0\n" "p cnf 3 2\n-1 2 0\n1 3 0\n" ".i 3\n.o 1\n.p 2\n0-0 1\n10- 1\n.e\n"
    ∷ []

-- What the definitions say of a case, and what the paper says.
unfoldable pub sheet : ℕ → String → Run ℤ
sheet n text = lent (get_or (numbers n (tokens (ascii text))) [])

unfoldable pub outcome : {A : Type 0} → ℕ → (A → List (List ℕ)) → Verdict A → Outcome
outcome n lines (given a) = record { number = 0; lines = lines a }
outcome n lines (refused r) = record { number = r.number; lines = map (setting_chars 1 n) r.values }

unfoldable pub computed : Case → Outcome
computed (list n order on off stated) = outcome n (map (row_chars 1 n)) (whole n (lent order) (sheet n on) (sheet n off) 256)
computed (generates n order on off stated) = outcome n (λ p. map (row_chars 1 n) p.rows) (partial n (lent order) (sheet n on) (sheet n off) 256 256)
computed (smallest_from n start on stated) = outcome n (λ s. map (setting_chars 1 n) (listed s)) (query n (lent (natural n)) (sheet n on) start)
computed (prints on off stated) = record { number = 0; lines = output (ascii on) (ascii off) ∷ [] }

unfoldable pub stated : Case → Outcome
stated (list n order on off said) = said
stated (generates n order on off said) = said
stated (smallest_from n start on said) = said
stated (prints on off said) = says 0 (said ∷ [])
