-- An input that is not in form is refused alike by both list calls.
use mathlib.Core.Path.{◌≡◌, sym, ap, ◌∙◌}
use mathlib.Core.List.{List, [], ◌∷◌, ◌++◌, append_assoc}
use Prim.Native.Nat.{ℕ, ◌<◌, ◌≤◌}
use lib.Dec.{ltb}
use lib.IntN.{ℤ}
use borrow.Author.Tests.{lt-ltb, le-ltb}
use Rattle.rules.specs.Sheets.{satisfies}
use Rattle.rules.specs.Method.{max_rows}
use Rattle.rules.specs.Answers.{Reply, Check, check, given, refused, judge, refusal}
use Rattle.rules.specs.Calls.{lent, whole_for, whole, partial_for, partial}
use Rattle.rules.proofs.Judged.{judge-none, judge-given, judge-first, judge-refused, judge-append}
use Rattle.building.specs.declared.lent.Lent.{Lent}
use Rattle.building.specs.Built.{whole_of, part_of}
use Rattle.lists.specs.Formed.{form_of}
use Rattle.lists.specs.Lends.{Lends}

-- What some checks refuse is refused with others behind them, whatever the result; if they pass, the others are judged.
module _ {A B : Type 0} (a : A) (b : B) (cs more : List Check) where
  refused-first : {r : Reply} → judge cs a ≡ refused r → judge (cs ++ more) b ≡ refused r
  refused-first e =
      let f = judge-refused a cs e in
      ap (λ (x : List Check). judge (x ++ more) b) f.parts ∙ ap (λ (x : List Check). judge x b) (append_assoc f.before (f.check ∷ f.later) more)
      ∙ judge-first b f.before f.check (f.later ++ more) f.none f.applies ∙ ap refused f.reply

  passed : {g : A} → judge cs a ≡ given g → judge (cs ++ more) b ≡ judge more b
  passed e = rw (judge-append b cs more, judge-none b cs (judge-given a cs e).1)

module _ (n : ℕ) (order : List ℕ) (on off : List ℤ) where
  pub whole-refused : (room : ℕ) {r : Reply} → form_of n order on off ≡ refused r → whole n (lent order) (lent on) (lent off) room ≡ refused r
  unfolding form_of whole whole_for
  whole-refused room e = refused-first n _ _ _ e

  pub partial-refused : (k room : ℕ) {r : Reply} → form_of n order on off ≡ refused r → partial n (lent order) (lent on) (lent off) k room ≡ refused r
  unfolding form_of partial partial_for
  partial-refused k room e = refused-first n _ _ _ e

  module _ {m : ℕ} (e : form_of n order on off ≡ given m) where
    asked-first : (k room : ℕ) → partial n (lent order) (lent on) (lent off) k room ≡ partial_for (check 5 (ltb max_rows k) ∷ []) order (satisfies on) (satisfies off) k room
    unfolding form_of partial partial_for
    asked-first k room = passed n _ _ _ e

    -- more rows asked for than a list may have
    pub partial-asked : (k room : ℕ) → max_rows < k → partial n (lent order) (lent on) (lent off) k room ≡ refused (refusal 5)
    unfolding partial_for judge
    partial-asked k room h = asked-first k room ∙ rw (lt-ltb max_rows k h)

    -- what is built of what is lent
    module _ {l : Lent} (lends : Lends order on off l) where
      pub whole-lent : (room : ℕ) → whole_of l room ≡ whole n (lent order) (lent on) (lent off) room
      unfolding form_of whole whole_for
      whole-lent room = rw (lends.ordered, lends.on_asks, lends.off_asks) (sym (passed n _ _ _ e))

      pub partial-lent : (k room : ℕ) → k ≤ max_rows → part_of l k room ≡ partial n (lent order) (lent on) (lent off) k room
      unfolding partial_for judge
      partial-lent k room h = sym (asked-first k room ∙ rw (lends.ordered, lends.on_asks, lends.off_asks, le-ltb max_rows k h))

pub ruleset whole_steps = (whole-refused, whole-lent)

pub ruleset partial_steps = (partial-refused, partial-asked, partial-lent)
