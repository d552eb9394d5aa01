use Rattle.std.proofs.Common.{◌≡◌, ◌-◌, ◌<◌, ◌≤◌, ℕ, suc, true, arith, ap, ◌∙◌}
use borrow.Author.Tests.{lt-ltb, le-ltb}
use lib.Ieee.{binary64, of_int, round}
use Rattle.framing.specs.Bytes.{signed32}
use Rattle.framing.proofs.Floats.{round-neg}
use Rattle.framing.proofs.signed.Goals as goal

pub returns-then-x-lt2147483648 : goal.returns-then-x-lt2147483648
unfolding signed32
returns-then-x-lt2147483648 c = let h : c.args.x < 2147483648 = omega arith in simp (lt-ltb _ _ h)

pub returns-else-x-lt2147483648 : goal.returns-else-x-lt2147483648
unfolding signed32 of_int
returns-else-x-lt2147483648 c =
    let x = c.args.x in
    let h : 2147483648 ≤ x = omega arith in
    let e : 4294967296 - x ≡ suc (4294967295 - x) = omega arith in
    simp (le-ltb _ _ h)
    (round-neg binary64 (4294967296 - x) 1 ∙ ap (λ (k : ℕ). round binary64 true k 1) e)
