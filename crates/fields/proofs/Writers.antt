-- One writer after another writes the two texts joined. Assumes nothing.
use Prim.Native.Nat.{ℕ, ◌+◌, ◌≤◌}
use native.Mathlib.Omega.{arith}
use mathlib.Core.List.{List, ◌++◌}
use lib.ListN.{length}
use Rattle.vectors.specs.Parts.{Wrote}
use Rattle.vectors.proofs.Texts.{wrote_then}
use Rattle.fields.specs.Puts.{Puts}

pub puts : {d t e : List ℕ} {at r most : ℕ} → Wrote d at t e r → length t ≤ most → Puts d at t e r most
puts w h = record { wrote = w; short = omega (arith, w.next) }

pub puts_then : {d : List ℕ} {at : ℕ} {t e u f : List ℕ} {m r a b : ℕ} → Puts d at t e m a → Puts e m u f r b → Puts d at (t ++ u) f r (a + b)
puts_then v w = record { wrote = wrote_then v.wrote w.wrote; short = omega (arith, v.short, w.short) }
