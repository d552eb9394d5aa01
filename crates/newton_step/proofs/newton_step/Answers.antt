use borrow.Author.Tests.{not-true, not-false}
use Rattle.std.proofs.Common.{arith, inr, refl}
use Rattle.newton_step.proofs.Steps.{lost_step, stayed-step, moved-step}
use Rattle.newton_step.proofs.newton_step.Goals as goal

pub returns-then-not-w : goal.returns-then-not-w
returns-then-not-w c = lost_step c.newton_z-w.ensures (not-true _ c.if-not-w.true)

pub line_search-t-requires : goal.line_search-t-requires
line_search-t-requires c =
    let p = c.requires in
    record { order = p.order; after = omega arith; room = omega (arith, c.newton_z-w.ensures.kept.size, c.directions-cap.ensures.kept.size, p.room); dy = p.dy }

pub returns-then-not-t : goal.returns-then-not-t
returns-then-not-t c =
    stayed-step c.newton_z-w.ensures (not-false _ c.if-not-w.false) refl c.directions-cap.ensures c.sqrt-norm.ensures c.line_search-t.ensures (not-true _ c.if-not-t.true)

pub copy_within-requires : goal.copy_within-requires
copy_within-requires c =
    let n = c.requires.room in
    let size₁ = c.newton_z-w.ensures.kept.size in
    let size₂ = c.directions-cap.ensures.kept.size in
    let size₃ = c.line_search-t.ensures.kept.size in
    record { apart = inr (omega arith); first = omega arith; second = omega arith }

pub returns : goal.returns
returns c =
    moved-step c.newton_z-w.ensures (not-false _ c.if-not-w.false) refl c.directions-cap.ensures c.sqrt-norm.ensures c.line_search-t.ensures
    (not-false _ c.if-not-t.false) c.copy_within.ensures.0 c.copy_within.ensures.1
