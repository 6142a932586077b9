-- The numbers of a body, written one by one over the first cells.
use Rattle.std.proofs.Common.{suc, ◌≡◌, refl, ap, sym, ◌∙◌, List, ◌++◌, ℕ, ◌+◌, ◌-◌, ℤ, length, take, drop, set, arith, append_assoc}
use Rattle.std.proofs.Math.Option.{Option, none, some}
use lib.ListN.{length-set}
use Rattle.std.proofs.lemmas.Grind.{take-set_at}
use lib.Seq.{drop-set-lt, drop-drop}
use Rattle.rules.specs.Answers.{over}
use Rattle.rules.proofs.Logic.{some-none}
use Rattle.dimacs.specs.Bodies.{prepend, sheet_of, HasRoom}

-- the cells from i on are to hold these, and then all are as they must be
pub record Written (body later : Option (List ℤ)) (old new : List ℤ) (i : ℕ) : Type 0 where
  pub room : HasRoom later (length new - i)
  pub same : over (sheet_of body) old ≡ take i new ++ over (sheet_of later) (drop i new)

pub written-next : (z : ℤ) {body later rest : Option (List ℤ)} {old new : List ℤ} {i : ℕ}
    → later ≡ prepend z rest → Written body later old new i → Written body rest old (set new i z) (i + 1)
unfolding prepend
written-next z {rest = none} e w = some-none w.room.form e
written-next z {rest = some zs} {new = new} {i} e w =
    let room = rw e at w.room.fits in
    let same = rw e at w.same in
    let front = take-set_at new i (i + 1) z refl (omega arith) in
    let n : i + 1 + length zs ≡ i + suc (length zs) = omega arith in
    let back : drop (length zs) (drop (i + 1) (set new i z)) ≡ drop (suc (length zs)) (drop i new) =
    ap (drop (length zs)) (drop-set-lt (i + 1) new i z (omega arith)) ∙ drop-drop (length zs) (i + 1) new ∙ ap (λ k. drop k new) n
    ∙ sym (drop-drop (suc (length zs)) i new) in
    record {
      room = record { form = refl; fits = rw (length-set new i z) (omega arith) };
      same = same ∙ rw (front, back, append_assoc);
    }
