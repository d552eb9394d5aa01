use Rattle.std.proofs.Common.{◌-◌, arith, sym, ap, ◌∙◌, Ok}
use Rattle.records.proofs.Entries.{stands_end, stands_bad, stands_err, opens, kinded, found_unknown, other_size, of_kind}
use Rattle.records.proofs.record_at.Goals as goal

pub returns-in_err-r : goal.returns-in_err-r
returns-in_err-r c = stands_err c.args.s.now c.args.at _ c.from_residual.ensures.0 (stands_bad _ _ (sym c.in_err-r.was ∙ c.head_at.ensures))

pub returns-in_default : goal.returns-in_default
returns-in_default c = stands_end _ _ (sym (c.in_ok-r.was ∙ ap Ok c.in_default.is) ∙ c.head_at.ensures)

pub returns-in_err-kind : goal.returns-in_err-kind
returns-in_err-kind c =
    let o = opens _ _ (sym (c.in_ok-r.was ∙ ap Ok c.in-Some.is) ∙ c.head_at.ensures) in
    stands_err c.args.s.now c.args.at _ c.from_residual-in_err-kind.ensures.0 (found_unknown o (sym ((kinded c.in-Some.r.kind (c.in-Some.r.next - c.in-Some.r.body)).other (sym c.try_from.ensures ∙ c.in_err-kind.was))))

pub overflow_sub-r : goal.overflow_sub-r
overflow_sub-r c = omega (arith, (opens _ _ (sym (c.in_ok-r.was ∙ ap Ok c.in-Some.is) ∙ c.head_at.ensures)).more)

pub returns-then-r-size : goal.returns-then-r-size
returns-then-r-size c =
    let o = opens _ _ (sym (c.in_ok-r.was ∙ ap Ok c.in-Some.is) ∙ c.head_at.ensures) in
    other_size o (sym c.try_from.ensures ∙ c.in_ok-kind.was) (λ e. c.if-r-size.true (e ∙ sym c.size.ensures))

pub returns : goal.returns
returns c =
    let o = opens _ _ (sym (c.in_ok-r.was ∙ ap Ok c.in-Some.is) ∙ c.head_at.ensures) in
    of_kind o (sym c.try_from.ensures ∙ c.in_ok-kind.was) (c.if-r-size.false ∙ c.size.ensures)
