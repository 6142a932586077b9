-- Bytes put at a position, and then more at the position after them, are all of them put at the first.
use mathlib.Core.Path.{◌≡◌, refl, sym, ap, ◌∙◌}
use mathlib.Core.List.{List, [], ◌∷◌, ◌++◌, append_assoc}
use Prim.Native.Nat.{ℕ, ◌+◌, ◌≤◌, ◌<◌}
use native.Mathlib.Nat.{add-zero, zero-add, add_assoc}
use native.Mathlib.Numerals.{add-one}
use native.Mathlib.Omega.{arith}
use lib.ListN.{length, take, drop, set, length-append, length-drop, take-append-drop}
use lib.Seq.{length-take-le, drop-drop, set_split}
use Rattle.std.proofs.lemmas.Slice.{take-put_mid, drop-put_mid}
use borrow.Rule.Slice.PartMut.{put_mid}
use Rattle.rules.specs.Answers.{over}
use Rattle.pla.specs.Put.{put, Room, Puts}

-- the text keeps its length
pub put-length : {at : ℕ} {new old : List ℕ} → Room at new old → length (put at new old) ≡ length old
unfolding put
put-length {at} {new} {old} room = simp (length-append, length-drop) (omega (arith, length-take-le at old (omega arith)))

pub length-put : (at : ℕ) (new old : List ℕ) → at + length new ≤ length old → length (put at new old) ≡ length old
length-put at new old l = put-length (record { fits = l })

-- no bytes
pub put_none : (at : ℕ) (old : List ℕ) → put at [] old ≡ old
unfolding put
put_none at old = rw (add-zero, take-append-drop)

pub puts_none : (at : ℕ) (old : List ℕ) → at ≤ length old → Puts at [] old at old
puts_none at old l = record { next = sym (add-zero at); bytes = sym (put_none at old) }

-- one byte
pub puts_one : (at b : ℕ) (old : List ℕ) → at < length old → Puts at (b ∷ []) old (at + 1) (set old at b)
unfolding put
puts_one at b old l = record { next = refl; bytes = rw add-one (set_split old at b l) }

-- bytes copied over a part of the text are put at its start
pub put_mid-put : (at k : ℕ) (new old : List ℕ) → k ≡ length new → put_mid at k old new ≡ put at new old
unfolding put
put_mid-put at k new old e = rw (e, drop-drop)

-- bytes, and then bytes
pub put_then : (at : ℕ) (xs ys old : List ℕ) → at ≤ length old → put (at + length xs) ys (put at xs old) ≡ put at (xs ++ ys) old
unfolding put
put_then at xs ys old l =
    let m = at + length xs in
    let part = put_mid-put at (length xs) xs old refl in
    let front : take m (put at xs old) ≡ take at old ++ xs = rw (← part) (take-put_mid at (length xs) old xs m refl l) in
    let back : drop (m + length ys) (put at xs old) ≡ drop (m + length ys) old = rw (← part) (drop-put_mid at (length xs) old xs (m + length ys) (omega arith) l refl) in
    rw (front, back, length-append, add_assoc) (simp append_assoc)

pub puts_then : {at : ℕ} {xs ys old : List ℕ} {end last : ℕ} {text result : List ℕ} → Room at (xs ++ ys) old → Puts at xs old end text
    → Puts end ys text last result → Puts at (xs ++ ys) old last result
puts_then {at} {xs} {ys} {old} room p q =
    record {
      next = q.next ∙ simp (p.next, length-append) (omega arith);
      bytes = q.bytes ∙ rw (p.next, p.bytes) (put_then at xs ys old (omega arith));
    }

-- room for all bytes is room for the first of them, and after these for the others
pub room-first : {at : ℕ} {old : List ℕ} (xs ys : List ℕ) → Room at (xs ++ ys) old → Room at xs old
room-first xs ys room = record { fits = omega (arith, length-append xs ys) }

pub room-then : {at : ℕ} {xs old : List ℕ} {end : ℕ} {text : List ℕ} (ys : List ℕ) → Room at (xs ++ ys) old → Puts at xs old end text → Room end ys text
room-then {xs} ys room p =
    let same = ap length p.bytes ∙ put-length (room-first xs ys room) in
    record { fits = omega (arith, p.next, same, length-append xs ys) }

-- one byte more
pub puts-next : {at : ℕ} {xs old : List ℕ} {end : ℕ} {text : List ℕ} (b : ℕ) → at + length xs < length old → Puts at xs old end text
    → Puts at (xs ++ (b ∷ [])) old (end + 1) (set text end b)
puts-next {at} {xs} {old} {end} {text} b l p =
    let room : Room at (xs ++ (b ∷ [])) old = record { fits = omega (arith, length-append xs (b ∷ [])) } in
    puts_then room p (puts_one end b text (omega (arith, (room-then (b ∷ []) room p).fits)))

-- bytes put at the start are over the first of the old ones
pub put-over : (new old : List ℕ) → put 0 new old ≡ over new old
unfolding put
put-over new old = ap (λ k. new ++ drop k old) (zero-add (length new))

pub puts-over : {new old : List ℕ} {end : ℕ} {text : List ℕ} → Puts 0 new old end text → (end ≡ length new) × (text ≡ over new old)
puts-over {new} {old} p = (p.next ∙ zero-add (length new), p.bytes ∙ put-over new old)

-- what follows from calls that put bytes, one after the other
pub ruleset positions = (put_then, length-put, put_mid-put, put-over, length-append)
