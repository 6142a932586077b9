-- Words copied out of bytes, and an order among them.
use Rattle.std.proofs.Common.{◌≡◌, ◌≢◌, ◌∙◌, sym, ap, ℕ, ◌+◌, ◌*◌, ◌%◌, ◌/◌, ◌≤◌, ◌<◌, true, false, ◌&&◌, List, length, get_or, take, set, min, arith}
use Rattle.std.proofs.lemmas.List.{length-take, take_all, take_min, take_more, take_more_set}
use borrow.Author.Tests.{eq-eqb, eqb-true}
use Rattle.rules.specs.Words.{is_order}
use Rattle.rules.specs.Calls.{words_of, none_left_over}
use Rattle.rules.proofs.Logic.{test}
use Rattle.sheets.proofs.Bytes.{words-length}
use Rattle.sheets.proofs.Orders.{missized}

-- one word more is copied, and all of them are
pub ruleset copies = (words-length, length-take, take_min, take_more, take_more_set, take_all)

-- an order has four bytes for each input
pub other_length : (n : ℕ) (bs : List ℕ) → length bs ≢ 4 * n → (none_left_over bs && is_order n (words_of bs)) ≡ false
other_length n bs h = test (none_left_over bs) (λ t. rw t (sym (missized n (words_of bs) (λ e. h (omega (arith, eqb-true (length bs % 4) 0 t, words-length bs)))))) (λ f. rw f)

pub none-left : (bs : List ℕ) → length bs % 4 ≡ 0 → none_left_over bs ≡ true
none-left bs h = eq-eqb (length bs % 4) 0 h

pub all-words : (room : ℕ) (bs : List ℕ) → length bs / 4 ≤ room → take room (words_of bs) ≡ words_of bs
all-words room bs l = take_all room (words_of bs) (omega (arith, words-length bs))

pub ruleset orders = (other_length, none-left, all-words)
