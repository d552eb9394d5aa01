use Rattle.std.proofs.Common.{◌≡◌, ℕ, ◌∙◌, ap₂, arith}
use Rattle.io.specs.Digits.{last_digits}
use Rattle.fields.specs.Fields.{hex_of}
use Rattle.fields.proofs.put_hex.Goals as goal

pub returns : goal.returns
unfolding hex_of
returns c =
    let e = c.hex-k.ensures in
    let w = c.put_all.ensures.wrote in
    let k : c.hex-k.result ≡ 16 = omega (arith, e.len.0, e.in_bounds) in
    record { wrote = rw (e.digits ∙ ap₂ (λ (k n : ℕ). last_digits 16 k n) k c.pattern.ensures) at w; short = omega (arith, w.next, e.in_bounds) }
