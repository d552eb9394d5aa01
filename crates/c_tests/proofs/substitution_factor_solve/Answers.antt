use Rattle.std.proofs.Common.{arith, length, refl}
use Rattle.c_tests.specs.Answered.{Room, solved, pivot, refused}
use Rattle.c_tests.proofs.substitution_factor_solve.Goals as goal

pub returns-then-k-lt1 : goal.returns-then-k-lt1
returns-then-k-lt1 c = refused (λ (room : Room c.args.k c.args.m (length c.args.s.now)). omega arith) refl

pub returns-then-k-gt2 : goal.returns-then-k-gt2
returns-then-k-gt2 c = refused (λ (room : Room c.args.k c.args.m (length c.args.s.now)). omega arith) refl

pub returns-then-m-lt1 : goal.returns-then-m-lt1
returns-then-m-lt1 c = refused (λ (room : Room c.args.k c.args.m (length c.args.s.now)). omega arith) refl

pub returns-then-m-gt65536 : goal.returns-then-m-gt65536
returns-then-m-gt65536 c = refused (λ (room : Room c.args.k c.args.m (length c.args.s.now)). omega arith) refl

pub returns-then-s-m : goal.returns-then-s-m
returns-then-s-m c = refused (λ (room : Room c.args.k c.args.m (length c.args.s.now)). omega arith) refl

pub returns-then-factor_solve_at : goal.returns-then-factor_solve_at
returns-then-factor_solve_at c = solved
    (record { least = omega arith; most = omega arith; some = omega arith; few = omega arith; places = omega arith })
    (rw c.if-factor_solve_at.true at c.factor_solve_at.ensures)

pub returns : goal.returns
returns c = pivot
    (record { least = omega arith; most = omega arith; some = omega arith; few = omega arith; places = omega arith })
    (rw c.if-factor_solve_at.false at c.factor_solve_at.ensures)
