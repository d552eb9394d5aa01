use Rattle.std.proofs.Common.{◌≡◌, ◌∙◌, Bool, true, false, Option, Some, None, refl, sym, arith}
use mathlib.Core.Bool.{beq}
use Rattle.std.specs.Option.{option_eq, is_some, unwrap_or}
use Rattle.newton_system.specs.Rows.{data_of}
use Rattle.line_search.proofs.Lines.{begins, goes, stops, exhausted}
use Rattle.line_search.proofs.line_search.Goals as goal

-- whether a trial is accepted, as the code asks it
accepts : (r : Option Bool) → unwrap_or r false ≡ option_eq beq r (Some true)
accepts None = refl
accepts (Some true) = refl
accepts (Some false) = refl

pub loop-init : goal.loop-init
loop-init c = let a = c.args in begins (data_of a.k a.g a.dy.now a.lam a.inv_t) a.m a.b a.cap a.old a.s.now

pub returns-then-eq : goal.returns-then-eq
returns-then-eq c =
    let a = c.args in
    let l = c.loop in
    let r = c.attempt-trial.result in
    stops (data_of a.k a.g a.dy.now a.lam a.inv_t) a.m a.b a.cap a.old a.s.now l.s c.attempt-trial.new.s l.step l.inside l.counter l.invariant
    (is_some r) (unwrap_or r false) (omega arith) (omega arith) c.attempt-trial.ensures (accepts r ∙ sym c.eq.ensures ∙ c.if-eq.true)

pub loop-preserved : goal.loop-preserved
loop-preserved c =
    let a = c.args in
    let l = c.loop in
    let r = c.attempt-trial.result in
    rw c.is_some-inside.ensures
    (goes (data_of a.k a.g a.dy.now a.lam a.inv_t) a.m a.b a.cap a.old a.s.now l.s c.attempt-trial.new.s l.step l.inside l.counter l.invariant
    (is_some r) (unwrap_or r false) (omega arith) (omega arith) c.attempt-trial.ensures (accepts r ∙ sym c.eq.ensures ∙ c.if-eq.false))

pub returns : goal.returns
returns c =
    let a = c.args in
    let l = c.loop in
    let e : l.counter ≡ 20 = omega arith in
    exhausted (data_of a.k a.g a.dy.now a.lam a.inv_t) a.m a.b a.cap a.old a.s.now l.s l.step l.inside (rw e at l.invariant)
