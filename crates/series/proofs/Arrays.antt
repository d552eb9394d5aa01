-- Laws of slots as the code keeps them. Assumes nothing.
use mathlib.Core.Path.{◌≡◌, refl, ap}
use Prim.Native.Nat.{ℕ, suc, ◌<◌}
use mathlib.Core.List.{List, [], ◌∷◌}
use lib.ListN.{length, get_or}
use lib.Ieee.{Float}
use Rattle.std.specs.Prelude.{Option, Some, None, is_some}
use Rattle.std.specs.List.{filter}
use Rattle.std.proofs.lemmas.List.{get_or-map}
use Rattle.records.specs.Entries.{silent, hours_of}
use Rattle.series.specs.Inner.{slot_of, slots_in}

-- slot i
pub slot_at : (ts : List (Option Float)) (i : ℕ) → i < length ts → get_or (slots_in ts) i silent ≡ slot_of (get_or ts i None)
slot_at ts i h = get_or-map slot_of ts i None silent h

-- how many sound
pub count_sounding : (ts : List (Option Float)) → length (filter is_some ts) ≡ length (hours_of (slots_in ts))
unfolding hours_of
count_sounding [] = refl
count_sounding (None ∷ ts) = count_sounding ts
count_sounding (Some x ∷ ts) = ap suc (count_sounding ts)
