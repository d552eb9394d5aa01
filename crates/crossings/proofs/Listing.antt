-- Laws of the questions of a listing. Assumes nothing.
use mathlib.Core.Path.{◌≡◌, refl}
use mathlib.Core.Bool.{false, ◌&&◌}
use mathlib.Core.List.{List}
use Prim.Native.Nat.{ℕ, ◌≤◌}
use lib.Dec.{leb, eqb}
use lib.ListN.{length}
use lib.Ieee.{Float}
use Rattle.std.specs.Prelude.{Err}
use borrow.Author.Tests.{leb-true}
use Rattle.float64.specs.Helpers.{is_finite}
use Rattle.vectors.proofs.Sums.{both}
use Rattle.questions.proofs.Laws.{past}
use Rattle.crossings.specs.declared.Refusal.{Refusal}
use Rattle.crossings.specs.declared.Refusal.TheVariants.{LevelNotFinite, WrongSize}
use Rattle.crossings.specs.Refusals.{refusal_number}
use Rattle.crossings.specs.Crossings.{unlisted, CrossingsListed}

-- a refusal's number is not 0
number_not_0 : (r : Refusal) → eqb (refusal_number r) 0 ≡ false
number_not_0 LevelNotFinite = refl
number_not_0 WrongSize = refl

-- a refusal, which leaves the list as found
pub listed_refused : (level : Float) (t : List Float) (b : List ℕ) (r : Refusal) → refusal_number r ≡ unlisted level (length t) (length b) → CrossingsListed level t (Err (refusal_number r)) b b
listed_refused level t b r e = record { answer = rw (← e, number_not_0); list = rw (← e, number_not_0) }

-- what is sure where none is refused
pub has_room : (level : Float) (n places : ℕ) → unlisted level n places ≡ 0 → (n ≤ places) × (n ≤ 65536)
unfolding unlisted
has_room level n places e =
    let q = past 17 (is_finite level) _ e in
    let r = both (leb n 65536) (leb n places) (past 18 (leb n 65536 && leb n places) 0 q.1).0 in
    (leb-true n places r.1, leb-true n 65536 r.0)
