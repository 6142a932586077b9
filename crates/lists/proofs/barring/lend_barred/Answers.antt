use Rattle.lists.proofs.Lending.{within-lent, lent-asked}
use Rattle.lists.proofs.barring.lend_barred.Goals as goal

pub invariant_of-result : goal.invariant_of-result
invariant_of-result c =
    let offs = c.bar-offs.ensures in
    let ons = c.bar-ons.ensures in
    record {
      asked = lent-asked _ _ _ _ _ _ _ offs.value ons.value offs.rows_after ons.rows_after _ _ c.requires.in_form c.args.n.few;
      within = within-lent _ _ _ _ _ _ _ offs.value ons.value offs.rows_after ons.rows_after;
    }
