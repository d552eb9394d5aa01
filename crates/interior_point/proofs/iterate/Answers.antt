use Rattle.std.proofs.Common.{ap, ◌∙◌, Some}
use Rattle.interior_point.proofs.Turns.{turned-lost, turned-stayed, turned-moved}
use Rattle.interior_point.proofs.iterate.Goals as goal

pub returns-in-None : goal.returns-in-None
returns-in-None c = let a = c.args in
    rw c.pivot_lost.ensures (turned-lost a.k a.y.now a.lam c.requires c.next_t-t.ensures c.step_at.ensures c.in-None.is)

pub returns-in-Some-Stayed : goal.returns-in-Some-Stayed
returns-in-Some-Stayed c = let a = c.args in
    turned-stayed a.k a.y.now a.lam c.requires c.next_t-t.ensures c.step_at.ensures c.settled.ensures (c.in-Some-Stayed.is ∙ ap Some c.in-Some-Stayed.field-0-is)

pub returns-in-Some-Moved : goal.returns-in-Some-Moved
returns-in-Some-Moved c = let a = c.args in
    turned-moved a.k a.y.now a.lam c.requires c.next_t-t.ensures c.step_at.ensures (c.in-Some-Moved.is ∙ ap Some c.in-Some-Moved.field-0-is) c.certify_inside-p.ensures c.settled-in-Some-Moved.ensures
