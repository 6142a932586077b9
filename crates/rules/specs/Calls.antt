-- The calls: the outcome of each, its refusals in the order of their numbers, and what each lent run holds afterwards.
use mathlib.Core.{Bool.Bool, Bool.true, Bool.not, Bool.◌&&◌, List.List, List.[], List.◌∷◌, List.◌++◌, List.map}
use mathlib.Core.{Option.Option, Option.none, Option.some, Option.get_or}
use Rattle.std.specs.Prelude.{ℕ, ◌+◌, ◌*◌, ◌/◌, ◌%◌, min}
use lib.{Dec.eqb, Dec.leb, Dec.ltb, IntN.ℤ, ListN.length, ListN.take}
use mir.{Syntax.w32, Val.to_z}
use Rattle.rules.specs.{declared.Row.Row, Words.is_inputs, Words.is_order, Words.is_row, Words.fits, Words.dashes, Words.in_some, Words.natural}
use Rattle.rules.specs.{Words.one, Sheets.max_numbers, Sheets.well_formed, Sheets.satisfies, Sheets.clauses, Sheets.ends_closed, Search.smallest}
use Rattle.rules.specs.{Search.found, Search.not_below, Method.max_rows, Method.generated, Method.complete, Method.list_of, Method.marks, Method.all}
use Rattle.rules.specs.{Answers.Reply, Answers.Check, Answers.check, Answers.Verdict, Answers.given, Answers.refused, Answers.judge}
use Rattle.rules.specs.{Dimacs.max_bytes, Dimacs.header, Dimacs.numbers, Dimacs.tokens, Pla.text_of}

-- How a run is lent. Words stand as they are; in bytes a word is four, lowest first, and one to three may be left over. A number is
-- signed by its 32 bits.
pub record Run (A : Type 0) : Type 0 where
  pub items : List A
  pub is_whole : Bool

abbrev pub lent : {A : Type 0} → List A → Run A
lent xs = record { items = xs; is_whole = true }

unfoldable pub words_of : List ℕ → List ℕ
words_of [] = []
words_of (a ∷ []) = []
words_of (a ∷ b ∷ []) = []
words_of (a ∷ b ∷ c ∷ []) = []
words_of (a ∷ b ∷ c ∷ d ∷ bs) = (a + b * 256 + c * 65536 + d * 16777216) ∷ words_of bs

unfoldable pub bytes_of : List ℕ → List ℕ
bytes_of [] = []
bytes_of (w ∷ ws) = w % 256 ∷ w / 256 % 256 ∷ w / 65536 % 256 ∷ w / 16777216 % 256 ∷ bytes_of ws

abbrev pub none_left_over : List ℕ → Bool
none_left_over bs = eqb (length bs % 4) 0

abbrev pub lent_words : List ℕ → Run ℕ
lent_words bs = record { items = words_of bs; is_whole = none_left_over bs }

abbrev pub lent_numbers : List ℕ → Run ℤ
lent_numbers bs = record { items = map (to_z w32) (words_of bs); is_whole = none_left_over bs }

-- The refusals that several calls share, by number.
abbrev pub refusal1 : ℕ → Check
refusal1 n = check 1 (not (is_inputs n))

abbrev pub refusal2 : ℕ → Run ℕ → Check
refusal2 n order = check 2 (not (order.is_whole && is_order n order.items))

abbrev pub not_well_formed : ℕ → Run ℤ → Bool
not_well_formed n sheet = not (sheet.is_whole && well_formed n sheet.items)

abbrev pub refusal3 : ℕ → Run ℤ → Check
refusal3 n sheet = check 3 (not_well_formed n sheet)

abbrev pub refusal4 : ℕ → Run ℤ → Check
refusal4 n sheet = check 4 (not_well_formed n sheet)

-- Some setting satisfies both sheets; the smallest is returned.
unfoldable pub collision : List ℕ → (ℕ → Bool) → (ℕ → Bool) → Option ℕ
collision order on off = smallest (λ s. on s && off s) order dashes

abbrev pub listed : Option ℕ → List ℕ
listed none = []
listed (some s) = s ∷ []

abbrev pub refusal6 : List ℕ → (ℕ → Bool) → (ℕ → Bool) → Check
refusal6 order on off = record { applies = found (collision order on off); reply = record { number = 6; values = listed (collision order on off) } }

abbrev pub refusal7 : List ℕ → (ℕ → Bool) → (ℕ → Bool) → Check
refusal7 order on off = check 7 (not (complete order on (generated order on off max_rows)))

-- A given list stands in two runs of words, and is its first `count` rows.
unfoldable pub rows_in : List ℕ → List ℕ → List Row
rows_in [] values = []
rows_in (c ∷ cares) [] = []
rows_in (c ∷ cares) (v ∷ values) = record { care = c; value = v } ∷ rows_in cares values

unfoldable pub are_rows : ℕ → List Row → Bool
are_rows n [] = true
are_rows n (r ∷ rows) = is_row n r && are_rows n rows

abbrev pub refusal8 : ℕ → ℕ → List Row → Check
refusal8 n count rows = check 8 (not ((leb count (length rows) && leb count max_rows) && are_rows n (take count rows)))

abbrev pub refusal9 : ℕ → ℕ → Check
refusal9 n s = check 9 (not (fits n s))

abbrev pub refusal15 : ℕ → ℕ → Check
refusal15 size room = check 15 (ltb room size)

-- Whole list, for the settings that are on and off. `form`: the refusals that look at the input's form.
unfoldable pub whole_for : List Check → List ℕ → (ℕ → Bool) → (ℕ → Bool) → ℕ → Verdict (List Row)
whole_for form order on off room =
    let rows = list_of order on off in
    judge (form ++ (refusal6 order on off ∷ refusal7 order on off ∷ refusal15 (length rows) room ∷ [])) rows

abbrev pub form : ℕ → Run ℕ → Run ℤ → Run ℤ → List Check
form n order on off = refusal1 n ∷ refusal2 n order ∷ refusal3 n on ∷ refusal4 n off ∷ []

unfoldable pub whole : ℕ → Run ℕ → Run ℤ → Run ℤ → ℕ → Verdict (List Row)
whole n order on off room = whole_for (form n order on off) order.items (satisfies on.items) (satisfies off.items) room

-- Partial list: the first k generated rows, and whether generation has at most k.
pub record Partial : Type 0 where
  pub rows : List Row
  pub is_all : Bool

unfoldable pub partial_for : List Check → List ℕ → (ℕ → Bool) → (ℕ → Bool) → ℕ → ℕ → Verdict Partial
partial_for form order on off k room =
    let rows = generated order on off k in
    judge (form ++ (refusal6 order on off ∷ refusal15 (length rows) room ∷ [])) (record { rows = rows; is_all = complete order on rows })

unfoldable pub partial : ℕ → Run ℕ → Run ℤ → Run ℤ → ℕ → ℕ → Verdict Partial
partial n order on off k room =
    partial_for (form n order on off ++ (check 5 (ltb max_rows k) ∷ [])) order.items (satisfies on.items) (satisfies off.items) k room

-- Query: the smallest setting that satisfies the sheet and is not below the start.
unfoldable pub query : ℕ → Run ℕ → Run ℤ → ℕ → Verdict (Option ℕ)
query n order sheet start =
    judge (refusal1 n ∷ refusal2 n order ∷ refusal3 n sheet ∷ refusal9 n start ∷ [])
    (smallest (not_below order.items start (satisfies sheet.items)) order.items dashes)

-- Pruning of a given list: which of its rows stay.
unfoldable pub prune : ℕ → ℕ → List Row → Verdict (List Bool)
prune n count rows = judge (refusal1 n ∷ refusal8 n count rows ∷ []) (marks all (natural n) (take count rows))

-- Value of a given list at a setting.
unfoldable pub value : ℕ → ℕ → List Row → ℕ → Verdict Bool
value n count rows s = judge (refusal1 n ∷ refusal8 n count rows ∷ refusal9 n s ∷ []) (in_some (take count rows) s)

-- PLA writer: the text of a given list.
unfoldable pub write : ℕ → ℕ → List Row → ℕ → Verdict (List ℕ)
write n count rows room =
    let text = text_of n (take count rows) in
    judge (refusal1 n ∷ refusal8 n count rows ∷ refusal15 (length text) room ∷ []) text

-- DIMACS reader: the inputs that the header names, and the numbers. Where the text is not in form, 11 or 12 applies.
pub record Read : Type 0 where
  pub inputs : ℕ
  pub numbers : List ℤ

unfoldable pub read : List ℕ → ℕ → Verdict Read
read text room =
    let h = get_or (header text) (record { inputs = 0; clauses = 0; body = [] }) in
    let body = numbers h.inputs (tokens h.body) in
    let zs = get_or body [] in
    judge
    (check 10 (ltb max_bytes (length text))
    ∷ check 11 (not (found (header text)))
    ∷ check 12 (not (found body))
    ∷ check 13 (not (eqb (clauses zs) h.clauses && ends_closed true zs))
    ∷ refusal15 (length zs) (min room max_numbers)
    ∷ [])
    (record { inputs = h.inputs; numbers = zs })

-- The values of each result.
abbrev pub list_values : List Row → List ℕ
list_values rows = length rows ∷ []

abbrev pub partial_values : Partial → List ℕ
partial_values p = length p.rows ∷ one p.is_all ∷ []

unfoldable pub kept : List Bool → ℕ
kept [] = 0
kept (stays ∷ more) = one stays + kept more

abbrev pub read_values : Read → List ℕ
read_values r = r.inputs ∷ length r.numbers ∷ []

-- What list building leaves in its two runs, and their room: the shorter length.
abbrev pub cares : List Row → List ℕ
cares rows = map (λ r. r.care) rows

abbrev pub values : List Row → List ℕ
values rows = map (λ r. r.value) rows

abbrev pub room_in : List ℕ → List ℕ → ℕ
room_in care value = min (length care) (length value)

-- What pruning leaves in a lent run of records, by what writes a mark into one: each within the count is kept if its row stays, else
-- dropped, and those behind stay as they were. A refusal leaves all as it was.
unfoldable pub marked_by : {A : Type 0} → (Bool → A → A) → List Bool → List A → List A
marked_by mark [] records = records
marked_by mark (d ∷ ds) [] = []
marked_by mark (d ∷ ds) (c ∷ records) = mark d c ∷ marked_by mark ds records

abbrev pub marked : {A : Type 0} → (Bool → A → A) → Verdict (List Bool) → List A → List A
marked mark (given stays) records = marked_by mark (map not stays) records
marked mark (refused r) records = records

-- The C host lends bytes, and is answered the refusal's number times 2 ^ 32 plus the first value.
abbrev pub host_whole : ℕ → List ℕ → List ℕ → List ℕ → List ℕ → List ℕ → Verdict (List Row)
host_whole n order on off care value = whole n (lent_words order) (lent_numbers on) (lent_numbers off) (room_in (words_of care) (words_of value))

abbrev pub host_write : ℕ → ℕ → List ℕ → List ℕ → ℕ → Verdict (List ℕ)
host_write n count care value room = write n count (rows_in (words_of care) (words_of value)) room

abbrev pub first : List ℕ → ℕ
first [] = 0
first (v ∷ vs) = v

abbrev pub packed : Reply → ℕ
packed r = r.number * 4294967296 + first r.values
