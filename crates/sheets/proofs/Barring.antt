-- The loop that writes the barred rows: one literal more, one clause closed, all read.
use mathlib.Core.Path.{◌≡◌, sym, ap, ◌∙◌}
use mathlib.Core.Bool.{true, false}
use mathlib.Core.List.{List, [], ◌∷◌, ◌++◌, append-nil, append_assoc}
use Prim.Native.Nat.{ℕ, ◌+◌, ◌≤◌, ◌<◌}
use native.Mathlib.Omega.{arith}
use lib.IntN.{ℤ, pos}
use lib.ListN.{length, get_or, drop, set, length-append, drop_of_length-le}
use Rattle.std.specs.Prelude.{Option, Some, None}
use Rattle.rules.specs.declared.Row.{Row}
use Rattle.rules.specs.Sheets.{closes, clauses}
use Rattle.rules.specs.Answers.{over}
use Rattle.sheets.specs.Barred.{no_literals, with_literal, kept, barred_from, barred}
use Rattle.sheets.proofs.Over.{over-length, over-more}
use Rattle.sheets.proofs.Clauses.{clauses-turn, barred-turn}

-- what holds in the loop that has read k numbers: `done` are the rows written
pub record Barring (sheet : List ℤ) (old : List Row) (k : ℕ) (rows : List Row) (count : ℕ) (c : Option Row) : Type 0 where
  pub done : List Row
  pub counted : count ≡ length done
  pub written : rows ≡ over done old
  pub to_bar : done ++ barred_from c (drop k sheet) ≡ barred sheet
  pub room : count + clauses (drop k sheet) ≤ clauses sheet

-- a clause without literals, as it is made
pub is-empty : (r : Row) → (r.care ≡ 0) × (r.value ≡ 0) → Some r ≡ no_literals
is-empty r (c, v) = λ i. Some (record { care = c i; value = v i })

module _ (sheet : List ℤ) (old : List Row) (k : ℕ) (rows : List Row) (count : ℕ) (c : Option Row) (inv : Barring sheet old k rows count c) where
  pub finished : length sheet ≤ k → (rows ≡ over (barred sheet) old) × (count ≡ length (barred sheet))
  unfolding barred_from
  finished h =
      let e : inv.done ≡ barred sheet = sym (append-nil inv.done) ∙ ap (λ (l : List ℤ). inv.done ++ barred_from c l) (sym (drop_of_length-le sheet h)) ∙ inv.to_bar in
      (inv.written ∙ ap (λ (l : List Row). over l old) e, inv.counted ∙ ap length e)

  module _ (z : ℤ) (h : k < length sheet) (at : z ≡ get_or sheet k (pos 0)) where
    -- a literal
    pub literal-turn : closes z ≡ false → (d : Option Row) → d ≡ with_literal z c → Barring sheet old (k + 1) rows count d
    literal-turn f d q = record {
      done = inv.done;
      counted = inv.counted;
      written = inv.written;
      to_bar = rw q (ap (λ (l : List Row). inv.done ++ l) (sym (rw f at (barred-turn sheet k z h at c))) ∙ inv.to_bar);
      room = let b = rw f at (clauses-turn sheet k z h at) in let m = inv.room in omega arith;
    }

    -- the end of a clause: with both signs of a variable nothing is written, else the clause's row
    module _ (f : closes z ≡ true) (d : Option Row) (q : d ≡ no_literals) where
      fewer : clauses (drop k sheet) ≡ 1 + clauses (drop (k + 1) sheet)
      fewer = rw f at (clauses-turn sheet k z h at)

      closed : inv.done ++ kept c (barred_from d (drop (k + 1) sheet)) ≡ barred sheet
      closed = rw q (ap (λ (l : List Row). inv.done ++ l) (sym (rw f at (barred-turn sheet k z h at c))) ∙ inv.to_bar)

      pub has_room : clauses sheet ≤ length old → count < length rows
      has_room r =
          let b = fewer in
          let m = inv.room in
          let l = inv.counted in
          rw (inv.written, over-length inv.done old (omega arith)) (omega arith)

      pub skip-turn : c ≡ None → Barring sheet old (k + 1) rows count d
      skip-turn n = record {
        done = inv.done;
        counted = inv.counted;
        written = inv.written;
        to_bar = ap (λ (e : Option Row). inv.done ++ kept e (barred_from d (drop (k + 1) sheet))) (sym n) ∙ closed;
        room = let b = fewer in let m = inv.room in omega arith;
      }

      pub write-turn : (r : Row) → c ≡ Some r → clauses sheet ≤ length old → Barring sheet old (k + 1) (set rows count r) (count + 1) d
      write-turn r n g =
          let b = fewer in
          let m = inv.room in
          let l = inv.counted in record {
            done = inv.done ++ (r ∷ []);
            counted = ap (λ (j : ℕ). j + 1) inv.counted ∙ sym (length-append inv.done (r ∷ []));
            written = ap (λ (t : List Row). set t count r) inv.written ∙ over-more inv.done old r count inv.counted (omega arith);
            to_bar = append_assoc inv.done (r ∷ []) (barred_from d (drop (k + 1) sheet))
                ∙ ap (λ (e : Option Row). inv.done ++ kept e (barred_from d (drop (k + 1) sheet))) (sym n)
                ∙ closed;
            room = omega arith;
          }
