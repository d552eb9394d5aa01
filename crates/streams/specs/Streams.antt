-- What is known of reading an input: no contract can say which bytes the system moves. rest is what the input still holds, where that is known.
use Rattle.std.specs.Prelude.{ℕ, zero, suc, ◌+◌, ◌≤◌, ◌<◌, List, Bool, true, false, Option, Some, None, Result, Ok, Err}
use Rattle.std.specs.Io.KnownBytes.{IsAtEnd}
use Rattle.io.specs.Counts.{IsPrefixLen}
use Rattle.streams.specs.declared.Progress.{Progress}

-- how many bytes came: none at the end of the input alone
abbrev pub came : ℕ → Option ℕ
came zero = None
came (suc k) = Some (suc k)

-- what an answer of read says: that it failed, or how many bytes came
abbrev pub answered : {E : Type 0} → Result ℕ E → Result (Option ℕ) E
answered (Ok k) = Ok (came k)
answered (Err e) = Err e

-- whether it failed
abbrev pub failed : {E : Type 0} → Result (Option ℕ) E → Bool
failed (Ok g) = false
failed (Err e) = true

-- how the reading goes on after an answer, n bytes having come before it: how many came by now, and whether there may be more; a failure
-- stays one
abbrev pub read_on : {E : Type 0} → ℕ → Result (Option ℕ) E → Result Progress E
read_on n (Ok (Some k)) = Ok (record { bytes = n + k; more = true })
read_on n (Ok None) = Ok (record { bytes = n; more = false })
read_on n (Err e) = Err e

-- of n bytes that were lent at least one came, and no more than n
abbrev pub Within : {E : Type 0} → ℕ → Result (Option ℕ) E → Type 0
Within n (Ok (Some k)) = (1 ≤ k) × (k ≤ n)
Within n (Ok None) = Unit {0}
Within n (Err e) = Unit {0}

-- where no byte came, the input is at its end
abbrev pub Ends : {E : Type 0} → Result (Option ℕ) E → Option (List ℕ) → Type 0
Ends (Ok (Some k)) rest = Unit {0}
Ends (Ok None) rest = IsAtEnd rest
Ends (Err e) rest = Unit {0}

-- an input that was read whole is the first bytes of xs
abbrev pub Held : {E : Type 0} → List ℕ → Result ℕ E → Type 0
Held xs (Ok n) = IsPrefixLen n xs
Held xs (Err e) = Unit {0}

-- an input that was read whole, with room for n bytes, is at its end where it left room
abbrev pub Whole : {E : Type 0} → ℕ → Result ℕ E → Option (List ℕ) → Type 0
Whole n (Ok k) rest = k < n → IsAtEnd rest
Whole n (Err e) rest = Unit {0}
