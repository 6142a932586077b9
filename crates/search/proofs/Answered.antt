-- Whether a row holds a good setting, as an answer says it.
use mathlib.Core.Path.{◌≡◌, refl, sym, ap, ◌∙◌}
use mathlib.Core.Bool.{Bool, true, not, not-not}
use lib.ListN.{length}
use Rattle.std.specs.Prelude.{Option, Some, None}
use Rattle.std.specs.Option.{is_some}
use Rattle.rules.specs.declared.Row.{Row}
use Rattle.rules.specs.declared.Setting.{Setting}
use Rattle.rules.specs.Words.{is_row}
use Rattle.rules.specs.Search.{found, smallest, holds_some}
use Rattle.rules.proofs.Logic.{option, clash}
use Rattle.rules.proofs.Orders.{is-order}
use Rattle.rules.proofs.Smallest.{smallest-none}
use Rattle.search.specs.declared.question.Question.{Question}
use Rattle.search.specs.Question.{found_as}
use Rattle.search.specs.Good.{good_of}
use Rattle.search.proofs.Swift.{swift-met, swift-none}

pub some-found : (f : Option Setting) → is_some f ≡ found (found_as f)
some-found (Some s) = refl
some-found None = refl

pub none-found : (f : Option Setting) (none : Bool) → is_some f ≡ not none → none ≡ not (found (found_as f))
none-found f none e = sym (not-not none) ∙ ap not (sym e ∙ some-found f)

-- the order in which it is sought does not matter
module _ (q : Question) (r : Row) (w : is_row (length q.order.now) r ≡ true) where
  either-order : holds_some (good_of q) q.swift.now r ≡ holds_some (good_of q) q.order.now r
  either-order =
      option (smallest (good_of q) q.swift.now r)
      (λ e. rw (e, swift-none q.asked q.swift.now q.same (good_of q) r w 0 e))
      (λ t e. let m = swift-met q.asked q.swift.now q.same (good_of q) r w t e in
      option (smallest (good_of q) q.order.now r)
      (λ n. clash m.passed (smallest-none (length q.order.now) q.order.now (is-order _ _ (q.asked).ordered) (good_of q) r w n t m.below m.held))
      (λ u n. rw (e, n)))

  pub some-holds : (f : Option Setting) → found_as f ≡ smallest (good_of q) q.swift.now r → is_some f ≡ holds_some (good_of q) q.order.now r
  some-holds f e = some-found f ∙ ap found e ∙ either-order
