-- What is read after what stood there is what the reader gave after it.
use Rattle.std.proofs.Common.{◌≡◌, rules, sym, subst, ℕ, ◌+◌, ◌≤◌, List, ◌++◌, length, take}
use Rattle.std.specs.Io.KnownBytes.{Consumes}
use Rattle.std.proofs.KnownBytes.{Consumes-trans}
use Rattle.std.proofs.lemmas.List.{length-take-le, take-append-le}
use Rattle.std.proofs.Math.Seq.{take-append-add}
use borrow.Rule.Slice.PartMut.{put_mid, post_of}
use Rattle.running.proofs.fill.Goals as goal

read-more : (a k n : ℕ) (xs ys : List ℕ) → a ≤ length xs → n ≤ length ys → take (a + n) (put_mid a k xs ys) ≡ take a xs ++ take n ys
read-more a k n xs ys within fits =
    let parts = take-append-add (take a xs) (ys ++ post_of a k xs) n in
    rw (length-take-le a xs within, take-append-le n ys (post_of a k xs) fits) at parts

pub loop-n-preserved : goal.loop-n-preserved
loop-n-preserved g c =
    let read = c.in-Ok-1-to-max.ensures in
    let more = read-more _ _ _ _ _ c.loop-n.invariant.0 read.bound.0 in
    (search rules, subst (Consumes _ _) (sym more) (Consumes-trans _ _ _ _ _ c.loop-n.invariant.1 read.bytes.0))
