use mathlib.Core.Path.{refl, sym, ap, ◌∙◌}
use mathlib.Core.List.{List}
use Prim.Native.Nat.{ℕ, ◌+◌, ◌<◌}
use borrow.Author.Rules.{rules}
use lib.ListN.{length, length-map, length-append}
use Rattle.std.proofs.lemmas.List.{take_all}
use Rattle.rules.specs.declared.Row.{Row}
use Rattle.rules.specs.Calls.{cares, values}
use Rattle.method.specs.Blank.{solid}
use Rattle.method.proofs.Copies.{passed, taken, few, word-taken, has_room}
use Rattle.method.proofs.solid.hand_over.Goals as goal
use Rattle.method.proofs.solid.hand_over.Goals.{then-not-is_blank, else-not-is_blank}

pub loop-row-init : goal.loop-row-init
unfolding solid
loop-row-init g c =
    record { care_same = refl; care_is = sym (g.met.C.Cells.none _); value_same = refl; value_is = sym (g.met.V.Cells.none _); size = refl }

pub put-requires : goal.put-requires
put-requires g c =
    let i = c.loop-row.invariant in
    has_room _ _ _ c.loop-row-test.true _ _ g.met.C.Cells.size (λ r. r.care) _ _ _ (sym c.if-not-is_blank.ensures) c.requires.care_has_room i.care_is i.size

pub put-requires-then-not-is_blank : goal.put-requires-then-not-is_blank
put-requires-then-not-is_blank g c =
    let i = c.loop-row.invariant in
    has_room _ _ _ c.loop-row-test.true _ _ g.met.V.Cells.size (λ r. r.value) _ _ _ (sym c.if-not-is_blank.ensures) c.requires.value_has_room i.value_is i.size

pub overflow_add-count : goal.overflow_add-count
overflow_add-count g c =
    let e : c.loop-row.count < length c.args.rows.now = rw c.loop-row.invariant.size (few _ _ _ c.loop-row-test.true (sym c.if-not-is_blank.ensures)) in
    search (rules, e)

pub loop-row-preserved : goal.loop-row-preserved
loop-row-preserved g c =
    let i = c.loop-row.invariant in
    let h = c.loop-row-test.true in
    elim c.if-not-is_blank.branch [
      | then-not-is_blank w ↦
          let b = sym w.if-not-is_blank.ensures in
          let p = w.put.ensures in
          let q = w.put-then-not-is_blank.ensures in
          record {
            care_same = ap g.C.Cells.name w.care-is ∙ p.same ∙ i.care_same;
            care_is = ap g.C.Cells.now w.care-is
                ∙ p.written _ _ (length-map _ _ ∙ sym i.size) i.care_is
                ∙ ap (λ (words : List ℕ). g.C.Cells.with words (g.C.Cells.now c.args.care.now)) (word-taken _ _ _ h (λ r. r.care) b);
            value_same = ap g.V.Cells.name w.value-is ∙ q.same ∙ i.value_same;
            value_is = ap g.V.Cells.now w.value-is
                ∙ q.written _ _ (length-map _ _ ∙ sym i.size) i.value_is
                ∙ ap (λ (words : List ℕ). g.V.Cells.with words (g.V.Cells.now c.args.value.now)) (word-taken _ _ _ h (λ r. r.value) b);
            size = w.count-is ∙ ap (λ (k : ℕ). k + 1) i.size ∙ sym (ap length (taken _ _ _ h b) ∙ length-append _ _);
          }
      | else-not-is_blank w ↦
          let p = sym (passed _ _ _ h (sym w.if-not-is_blank.ensures)) in
          record {
            care_same = ap g.C.Cells.name w.care-is ∙ i.care_same;
            care_is = ap g.C.Cells.now w.care-is ∙ i.care_is ∙ ap (λ (rows : List Row). g.C.Cells.with (cares rows) (g.C.Cells.now c.args.care.now)) p;
            value_same = ap g.V.Cells.name w.value-is ∙ i.value_same;
            value_is = ap g.V.Cells.now w.value-is ∙ i.value_is ∙ ap (λ (rows : List Row). g.V.Cells.with (values rows) (g.V.Cells.now c.args.value.now)) p;
            size = w.count-is ∙ i.size ∙ ap length p;
          }
    ]

pub returns : goal.returns
returns g c =
    let i = c.loop-row.invariant in
    let e = ap solid (take_all _ _ c.loop-row-test.false) in
    record {
      care_same = i.care_same;
      care_after = i.care_is ∙ ap (λ (rows : List Row). g.C.Cells.with (cares rows) (g.C.Cells.now c.args.care.now)) e;
      value_same = i.value_same;
      value_after = i.value_is ∙ ap (λ (rows : List Row). g.V.Cells.with (values rows) (g.V.Cells.now c.args.value.now)) e;
      value = i.size ∙ ap length e;
    }
