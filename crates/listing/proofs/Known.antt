-- Known listings: for each what is printed, and its bytes. One proof covers the table. Assumes nothing.
use mathlib.Core.Path.{◌≡◌, refl}
use mathlib.Core.Bool.{true, false}
use mathlib.Core.List.{List, [], ◌∷◌}
use Prim.Native.Nat.{ℕ}
use lib.Ieee
use lib.Ieee.{Float, binary64, of_bits}
use Rattle.search.specs.declared.Reason.TheVariants.{ClosedPath, LimitSpent}
use Rattle.fields.specs.Fields
use Rattle.lines.specs.Lines
use Rattle.lines.specs.Lines.{refused_line}
use Rattle.listing.specs.Shown.{shown_line, shown_listing}
use Rattle.listing.specs.declared.Shown.{Shown}

-- document 01's listing. The slices are longer than the week: what lies past it is not printed
abbrev first_fit : Shown
first_fit = record { n = 2; order = 1; penalty = 1; n_iter = 0; improvements = 0; converged = true; reason = ClosedPath; lam_max = of_bits binary64 0x40af_4000_0000_0000; gap = of_bits binary64 0; objective = of_bits binary64 0x416e_8480_0000_0000; knots = 0 }

abbrev level : Float
level = of_bits binary64 0x40af_4000_0000_0000

abbrev first_trend : List Float
first_trend = level ∷ level ∷ of_bits binary64 0 ∷ []

abbrev first_cycle : List Float
first_cycle = level ∷ of_bits binary64 0xc0af_4000_0000_0000 ∷ of_bits binary64 0 ∷ []

-- three hours at positions with gaps, with a NaN (two patterns), both infinities, −0, the least and the greatest double, and two knots: places 0 and 2
abbrev second_fit : Shown
second_fit = record { n = 3; order = 2; penalty = 1; n_iter = 18446744073709551615; improvements = 10; converged = false; reason = LimitSpent; lam_max = of_bits binary64 0x7ff0_0000_0000_0001; gap = of_bits binary64 0x7ff0_0000_0000_0000; objective = of_bits binary64 0x8000_0000_0000_0000; knots = 2 }

abbrev second_trend : List Float
second_trend = of_bits binary64 0x0000_0000_0000_0001 ∷ of_bits binary64 0xfff8_0000_0000_0000 ∷ of_bits binary64 0x7fef_ffff_ffff_ffff ∷ []

abbrev second_cycle : List Float
second_cycle = of_bits binary64 0xfff0_0000_0000_0000 ∷ of_bits binary64 0x3ff0_0000_0000_0000 ∷ of_bits binary64 0x0010_0000_0000_0000 ∷ []

table : List (List ℕ × List ℕ)
table =
    (shown_listing first_fit (0 ∷ 1 ∷ 2 ∷ []) first_trend first_cycle (7 ∷ []), 102 ∷ 105 ∷ 116 ∷ 32 ∷ 50 ∷ 32 ∷ 49 ∷ 32 ∷ 49 ∷ 32 ∷ 48 ∷ 32 ∷ 48 ∷ 32 ∷ 49 ∷ 32 ∷ 48 ∷ 10 ∷ 52 ∷ 48 ∷ 97 ∷ 102 ∷ 52 ∷ 48 ∷ 48 ∷ 48 ∷ 48 ∷ 48 ∷ 48 ∷ 48 ∷ 48 ∷ 48 ∷ 48 ∷ 48 ∷ 32 ∷ 48 ∷ 48 ∷ 48 ∷ 48 ∷ 48 ∷ 48 ∷ 48 ∷ 48 ∷ 48 ∷ 48 ∷ 48 ∷ 48 ∷ 48 ∷ 48 ∷ 48 ∷ 48 ∷ 32 ∷ 52 ∷ 49 ∷ 54 ∷ 101 ∷ 56 ∷ 52 ∷ 56 ∷ 48 ∷ 48 ∷ 48 ∷ 48 ∷ 48 ∷ 48 ∷ 48 ∷ 48 ∷ 48 ∷ 10 ∷ 104 ∷ 32 ∷ 48 ∷ 32 ∷ 52 ∷ 48 ∷ 97 ∷ 102 ∷ 52 ∷ 48 ∷ 48 ∷ 48 ∷ 48 ∷ 48 ∷ 48 ∷ 48 ∷ 48 ∷ 48 ∷ 48 ∷ 48 ∷ 32 ∷ 52 ∷ 48 ∷ 97 ∷ 102 ∷ 52 ∷ 48 ∷ 48 ∷ 48 ∷ 48 ∷ 48 ∷ 48 ∷ 48 ∷ 48 ∷ 48 ∷ 48 ∷ 48 ∷ 10 ∷ 104 ∷ 32 ∷ 49 ∷ 32 ∷ 52 ∷ 48 ∷ 97 ∷ 102 ∷ 52 ∷ 48 ∷ 48 ∷ 48 ∷ 48 ∷ 48 ∷ 48 ∷ 48 ∷ 48 ∷ 48 ∷ 48 ∷ 48 ∷ 32 ∷ 99 ∷ 48 ∷ 97 ∷ 102 ∷ 52 ∷ 48 ∷ 48 ∷ 48 ∷ 48 ∷ 48 ∷ 48 ∷ 48 ∷ 48 ∷ 48 ∷ 48 ∷ 48 ∷ 10 ∷ [])
    ∷ (shown_listing second_fit (3 ∷ 1012 ∷ 4294967295 ∷ []) second_trend second_cycle (0 ∷ 2 ∷ []), 102 ∷ 105 ∷ 116 ∷ 32 ∷ 51 ∷ 32 ∷ 50 ∷ 32 ∷ 49 ∷ 32 ∷ 49 ∷ 56 ∷ 52 ∷ 52 ∷ 54 ∷ 55 ∷ 52 ∷ 52 ∷ 48 ∷ 55 ∷ 51 ∷ 55 ∷ 48 ∷ 57 ∷ 53 ∷ 53 ∷ 49 ∷ 54 ∷ 49 ∷ 53 ∷ 32 ∷ 49 ∷ 48 ∷ 32 ∷ 48 ∷ 32 ∷ 50 ∷ 10 ∷ 55 ∷ 102 ∷ 102 ∷ 56 ∷ 48 ∷ 48 ∷ 48 ∷ 48 ∷ 48 ∷ 48 ∷ 48 ∷ 48 ∷ 48 ∷ 48 ∷ 48 ∷ 48 ∷ 32 ∷ 55 ∷ 102 ∷ 102 ∷ 48 ∷ 48 ∷ 48 ∷ 48 ∷ 48 ∷ 48 ∷ 48 ∷ 48 ∷ 48 ∷ 48 ∷ 48 ∷ 48 ∷ 48 ∷ 32 ∷ 56 ∷ 48 ∷ 48 ∷ 48 ∷ 48 ∷ 48 ∷ 48 ∷ 48 ∷ 48 ∷ 48 ∷ 48 ∷ 48 ∷ 48 ∷ 48 ∷ 48 ∷ 48 ∷ 10 ∷ 104 ∷ 32 ∷ 51 ∷ 32 ∷ 48 ∷ 48 ∷ 48 ∷ 48 ∷ 48 ∷ 48 ∷ 48 ∷ 48 ∷ 48 ∷ 48 ∷ 48 ∷ 48 ∷ 48 ∷ 48 ∷ 48 ∷ 49 ∷ 32 ∷ 102 ∷ 102 ∷ 102 ∷ 48 ∷ 48 ∷ 48 ∷ 48 ∷ 48 ∷ 48 ∷ 48 ∷ 48 ∷ 48 ∷ 48 ∷ 48 ∷ 48 ∷ 48 ∷ 10 ∷ 104 ∷ 32 ∷ 49 ∷ 48 ∷ 49 ∷ 50 ∷ 32 ∷ 55 ∷ 102 ∷ 102 ∷ 56 ∷ 48 ∷ 48 ∷ 48 ∷ 48 ∷ 48 ∷ 48 ∷ 48 ∷ 48 ∷ 48 ∷ 48 ∷ 48 ∷ 48 ∷ 32 ∷ 51 ∷ 102 ∷ 102 ∷ 48 ∷ 48 ∷ 48 ∷ 48 ∷ 48 ∷ 48 ∷ 48 ∷ 48 ∷ 48 ∷ 48 ∷ 48 ∷ 48 ∷ 48 ∷ 10 ∷ 104 ∷ 32 ∷ 52 ∷ 50 ∷ 57 ∷ 52 ∷ 57 ∷ 54 ∷ 55 ∷ 50 ∷ 57 ∷ 53 ∷ 32 ∷ 55 ∷ 102 ∷ 101 ∷ 102 ∷ 102 ∷ 102 ∷ 102 ∷ 102 ∷ 102 ∷ 102 ∷ 102 ∷ 102 ∷ 102 ∷ 102 ∷ 102 ∷ 102 ∷ 32 ∷ 48 ∷ 48 ∷ 49 ∷ 48 ∷ 48 ∷ 48 ∷ 48 ∷ 48 ∷ 48 ∷ 48 ∷ 48 ∷ 48 ∷ 48 ∷ 48 ∷ 48 ∷ 48 ∷ 10 ∷ 107 ∷ 110 ∷ 111 ∷ 116 ∷ 32 ∷ 51 ∷ 10 ∷ 107 ∷ 110 ∷ 111 ∷ 116 ∷ 32 ∷ 52 ∷ 50 ∷ 57 ∷ 52 ∷ 57 ∷ 54 ∷ 55 ∷ 50 ∷ 57 ∷ 53 ∷ 10 ∷ [])
    ∷ (refused_line 1, 114 ∷ 101 ∷ 102 ∷ 117 ∷ 115 ∷ 101 ∷ 100 ∷ 32 ∷ 49 ∷ 10 ∷ [])
    ∷ (refused_line 13, 114 ∷ 101 ∷ 102 ∷ 117 ∷ 115 ∷ 101 ∷ 100 ∷ 32 ∷ 49 ∷ 51 ∷ 10 ∷ [])
    ∷ []

printed : List (List ℕ × List ℕ) → List (List ℕ)
printed [] = []
printed (p ∷ ps) = p.0 ∷ printed ps

expected : List (List ℕ × List ℕ) → List (List ℕ)
expected [] = []
expected (p ∷ ps) = p.1 ∷ expected ps

known : printed table ≡ expected table
unfolding table printed expected Ieee.of_bits Ieee.to_bits Fields.decimal_in Fields.decimal Fields.hex_of Fields.field Fields.hex_field Lines.three Lines.fit_line Lines.numbers_line Lines.hour_line Lines.hour_lines Lines.knot_line Lines.knot_lines refused_line shown_line shown_listing
known = refl
