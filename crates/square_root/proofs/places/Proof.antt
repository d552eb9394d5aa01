-- `square_root::places` meets its contract. The invariant: the count never passes 64, and t with s zeros after it is below 2 ^ 53.
-- Assumes nothing.
use mathlib.Core.Path.{◌≡◌, refl}
use Prim.Native.Nat.{ℕ, ◌<◌, ◌+◌, ◌*◌, ◌-◌, ◌%◌, ◌^◌}
use native.Mathlib.Nat.{pow-suc, mod-eq_of_lt}
use native.Mathlib.Numerals.{add-one}
use native.Mathlib.Omega.{arith}
use Rattle.square_root.proofs.Counter.{Counter}
use Rattle.square_root.proofs.Newton.{zeros-lt}
use Rattle.square_root.proofs.places.Statement.{statement}
use Rattle.square_root.proofs.places.Tie as tie

abbrev invariant-loop : tie.invariant-loop-s
invariant-loop t s₀ s = Counter s × (t * 2 ^ s < 2 ^ 53)

abbrev decreases-loop : tie.decreases-loop-s
decreases-loop t s₀ s = 65 - s

-- one zero more
again : (t s : ℕ) → t * 2 ^ (s + 1) ≡ t * 2 ^ s * 2
again t s = rw (add-one s, pow-suc 2 s) (omega arith)

module _ (c : tie.At-loop-s invariant-loop decreases-loop) where
  abbrev t : ℕ
  t = c.before.args.t

  abbrev s : ℕ
  s = c.loop-s.s

  -- the machine drops no digit
  whole : t * 2 ^ s % 2 ^ 64 ≡ t * 2 ^ s
  whole = mod-eq_of_lt (omega arith)

  few : s < 53
  few = zeros-lt t (t * 2 ^ s) s 53 c.before.requires.0 refl c.loop-s.invariant.1

loop-holds : tie.Need-loop-s-init invariant-loop decreases-loop
loop-holds c = (record { never_past_64 = omega arith }, omega arith)

shl-loop : tie.Need-overflow_shl-t invariant-loop decreases-loop
shl-loop c = omega (arith, few c)

loop-again : tie.Need-loop-s-preserved invariant-loop decreases-loop
loop-again c =
    let b = c.before in
    (record { never_past_64 = omega (arith, few b) }, omega (arith, again (t b) (s b), whole b))

returns : tie.Need-returns invariant-loop decreases-loop
returns c = let b = c.before in record { least = omega (arith, whole b); under = omega arith; few = omega (arith, few b) }

pub places_spec : {M : Type 1} → statement M
places_spec =
    tie.close
    (tie.spec invariant-loop decreases-loop loop-holds (λ c. omega arith) shl-loop (λ c. omega arith) (λ c. omega arith)
    loop-again (λ c. omega arith) returns)
