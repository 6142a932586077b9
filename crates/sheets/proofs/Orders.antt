-- Orders: the loop that tests each number.
use mathlib.Core.Path.{◌≡◌, sym, ap, ◌∙◌}
use mathlib.Core.Bool.{Bool, true, false, ◌&&◌}
use mathlib.Core.List.{List}
use Prim.Native.Nat.{ℕ, suc, ◌-◌, ◌≤◌, ◌<◌}
use native.Mathlib.Omega.{arith}
use lib.Dec.{eqb}
use lib.ListN.{length}
use borrow.Author.Tests.{eq-eqb, ne_eqb}
use Rattle.rules.specs.Words.{times, each_once, is_order}

-- the numbers from v down are left to test
module _ (n : ℕ) (order : List ℕ) (v : ℕ) (inv : each_once v order ≡ each_once n order) where
  split : 0 < v → each_once n order ≡ (eqb (times v order) 1 && each_once (v - 1) order)
  unfolding each_once
  split h = let e : v ≡ suc (v - 1) = omega arith in sym inv ∙ ap (λ (m : ℕ). each_once m order) e
      ∙ ap (λ (m : ℕ). eqb (times m order) 1 && each_once (v - 1) order) (sym e)

  pub once : 0 < v → (t : ℕ) → t ≡ times v order → t ≡ 1 → each_once (v - 1) order ≡ each_once n order
  once h t e o = sym (split h ∙ ap (λ (b : Bool). b && each_once (v - 1) order) (eq-eqb (times v order) 1 (sym e ∙ o)))

  pub not-once : 0 < v → (t : ℕ) → t ≡ times v order → (t ≡ 1 → ⊥) → false ≡ each_once n order
  not-once h t e o = sym (split h ∙ ap (λ (b : Bool). b && each_once (v - 1) order) (ne_eqb (times v order) 1 (λ q. o (e ∙ q))))

  pub tested : v ≤ 0 → true ≡ each_once n order
  unfolding each_once
  tested h = let e : 0 ≡ v = omega arith in ap (λ (m : ℕ). each_once m order) e ∙ inv

-- the length decides first
pub sized : (n : ℕ) (order : List ℕ) (r : Bool) → length order ≡ n → r ≡ each_once n order → r ≡ is_order n order
unfolding is_order
sized n order r e h = rw (eq-eqb (length order) n e) h

pub missized : (n : ℕ) (order : List ℕ) → (length order ≡ n → ⊥) → false ≡ is_order n order
unfolding is_order
missized n order e = rw (ne_eqb (length order) n e)
