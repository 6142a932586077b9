-- What is counted of a body's numbers.
use Rattle.std.proofs.Common.{◌≡◌, refl, Bool, true, false, List, [], ◌+◌, ◌≤◌, suc, ℤ, pos, negsuc, ◌-◌, eqb, length, w32, of_z, arith, add-zero}
use Rattle.std.proofs.Math.Option.{Option, none, some}
use mir.Val.{SFits}
use borrow.Author.Tests.{ne_eqb}
use Rattle.rules.specs.Words.{one}
use Rattle.rules.specs.Sheets.{closes, clauses, ends_closed}
use Rattle.dimacs.specs.declared.body.Tally.{Tally}
use Rattle.dimacs.specs.Bodies.{prepend, counted, counted_all, judged}

-- a number closes a clause if its bits are 0
pub zero_bits : (z : ℤ) → SFits w32 z → eqb (of_z w32 z) 0 ≡ closes z
zero_bits (pos m) f = refl
zero_bits (negsuc m) f = let h = f.sfits in ne_eqb (4294967296 - suc m) 0 (λ e. omega arith)

-- no more zeros than numbers
one-most : (b : Bool) → one b ≤ 1
one-most true = omega arith
one-most false = omega arith

pub zeros-counted : (z : ℤ) (t : Tally) → t.zeros ≤ t.numbers → (counted z t).zeros ≤ (counted z t).numbers
unfolding counted
zeros-counted z t l = omega (arith, one-most (closes z))

pub numbers-counted : (z : ℤ) (t : Tally) → (counted z t).numbers ≡ t.numbers + 1
unfolding counted
numbers-counted z t = refl

-- number by number
pub judged-prepend : (t : Tally) (z : ℤ) (later : Option (List ℤ)) → judged t (prepend z later) ≡ judged (counted z t) later
unfolding judged prepend counted counted_all clauses ends_closed
judged-prepend t z none = refl
judged-prepend t z (some zs) =
    let n : t.numbers + suc (length zs) ≡ t.numbers + 1 + length zs = omega arith in
    let k : t.zeros + (one (closes z) + clauses zs) ≡ t.zeros + one (closes z) + clauses zs = omega arith in
    rw (n, k)

pub judged-end : (t : Tally) → judged t (some []) ≡ some t
unfolding judged counted_all clauses ends_closed
judged-end t = rw (add-zero t.numbers, add-zero t.zeros)

pub judged-bad : (t : Tally) → judged t none ≡ none
unfolding judged
judged-bad t = refl

pub ruleset tallies = (zeros-counted, numbers-counted, judged-prepend, judged-end, judged-bad)
