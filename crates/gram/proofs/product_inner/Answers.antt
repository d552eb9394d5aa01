use Rattle.std.proofs.Common.{◌≡◌, arith}
use Rattle.gram.proofs.Products.{product_1, product_2}
use Rattle.gram.proofs.product_inner.Goals as goal

pub returns-then-k-eq1 : goal.returns-then-k-eq1
returns-then-k-eq1 c = let e : c.args.k ≡ 1 = c.if-k-eq1.true in
    rw e (product_1 c.args.g c.args.z.now c.args.i (omega arith) (omega arith))

pub returns-else-k-eq1 : goal.returns-else-k-eq1
returns-else-k-eq1 c = let e : c.args.k ≡ 2 = omega arith in
    rw e (product_2 c.args.g c.args.z.now c.args.i (omega arith) (omega arith))
