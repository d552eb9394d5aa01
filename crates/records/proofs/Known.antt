-- Known files: for each an input, and what `read_week` says of it as numbers. One proof covers the table. Assumes nothing.
use mathlib.Core.Path.{◌≡◌, refl, ◌∙◌}
use mathlib.Core.List.{List, [], ◌∷◌, ◌++◌}
use mathlib.Core.Option.{bind}
use Prim.Native.Nat.{ℕ, zero, suc, ◌*◌}
use native.Mathlib.Omega.{arith}
use lib.Ieee
use lib.Ieee.{binary64, to_bits}
use lib.ListN.{length, take, length-append}
use Rattle.vectors.specs.Vec.{list}
use Rattle.framing.specs.Bytes.{little_endian, signed32}
use Rattle.framing.specs.Frames.{records_past}
use Rattle.overrun.specs.Fractions.{euclid}
use Rattle.overrun.specs.Overrun.{overrun}
use Rattle.records.specs.Entries.{Slot, silent, sounding, settings_in, entry_of, entries, count_settings, hours_of}
use Rattle.records.specs.Corrections.{extended, names, named_from}
use Rattle.records.specs.Rates.{rates, rated}
use Rattle.records.specs.Week.{Reading, unread, read, read_week, ask_entries}
use Rattle.records.specs.Positions.{positions_from, positions_of}
use Rattle.records.proofs.Asking.{week_long}

-- no double's pattern: a silent hour's
abbrev pause : ℕ
pause = 0x1_0000_0000_0000_0000

-- the bits of each hour
patterns : List Slot → List ℕ
patterns [] = []
patterns (silent ∷ ws) = pause ∷ patterns ws
patterns (sounding x ∷ ws) = to_bits binary64 x ∷ patterns ws

-- a refusal is its number; a week that is taken is 0, its settings (doubles by their bits), its slots, how many hours it has, and their positions
numbers : Reading → List ℕ
numbers (unread k) = k ∷ []
numbers (read st ws) = 0 ∷ to_bits binary64 st.lam ∷ to_bits binary64 st.tol ∷ st.max_iter ∷ st.order ∷ st.penalty ∷ patterns ws ++ (length (hours_of ws) ∷ positions_of ws)

-- x, n times over
times : ℕ → List ℕ → List ℕ
times zero x = []
times (suc n) x = x ++ times n x

-- document 01's settings (lam 4000, order 1, penalty 1, tol 1e-8, max_iter 100), an hour of 8000 ms, of 0, of −1, of −2147483648, and a silent hour
abbrev settings : List ℕ
settings = 28 ∷ 0 ∷ 3 ∷ 0 ∷ 0 ∷ 0 ∷ 0 ∷ 0 ∷ 0 ∷ 64 ∷ 175 ∷ 64 ∷ 58 ∷ 140 ∷ 48 ∷ 226 ∷ 142 ∷ 121 ∷ 69 ∷ 62 ∷ 100 ∷ 0 ∷ 0 ∷ 0 ∷ 0 ∷ 0 ∷ 0 ∷ 0 ∷ 1 ∷ 1 ∷ []

abbrev hour : List ℕ
hour = 6 ∷ 0 ∷ 1 ∷ 0 ∷ 64 ∷ 31 ∷ 0 ∷ 0 ∷ []

abbrev punctual : List ℕ
punctual = 6 ∷ 0 ∷ 1 ∷ 0 ∷ 0 ∷ 0 ∷ 0 ∷ 0 ∷ []

abbrev early : List ℕ
early = 6 ∷ 0 ∷ 1 ∷ 0 ∷ 255 ∷ 255 ∷ 255 ∷ 255 ∷ []

abbrev earliest : List ℕ
earliest = 6 ∷ 0 ∷ 1 ∷ 0 ∷ 0 ∷ 0 ∷ 0 ∷ 128 ∷ []

abbrev quiet : List ℕ
quiet = 2 ∷ 0 ∷ 2 ∷ 0 ∷ []

-- a correction of position p, whose lower and upper byte are given, to 0 ms, and to −1
abbrev amended : ℕ → ℕ → List ℕ
amended p₀ p₁ = 8 ∷ 0 ∷ 4 ∷ 0 ∷ p₀ ∷ p₁ ∷ 0 ∷ 0 ∷ 0 ∷ 0 ∷ []

abbrev amended_early : ℕ → ℕ → List ℕ
amended_early p₀ p₁ = 8 ∷ 0 ∷ 4 ∷ 0 ∷ p₀ ∷ p₁ ∷ 255 ∷ 255 ∷ 255 ∷ 255 ∷ []

-- an hour of n frames, and the rates 25/1, 30000/1001, 0/1 and 1/0
abbrev frames : ℕ → List ℕ
frames n = 14 ∷ 0 ∷ 5 ∷ 0 ∷ n ∷ 0 ∷ 0 ∷ 0 ∷ []

abbrev whole_rate : List ℕ
whole_rate = 25 ∷ 0 ∷ 0 ∷ 0 ∷ 1 ∷ 0 ∷ 0 ∷ 0 ∷ []

abbrev odd_rate : List ℕ
odd_rate = 48 ∷ 117 ∷ 0 ∷ 0 ∷ 233 ∷ 3 ∷ 0 ∷ 0 ∷ []

abbrev zero_rate : List ℕ
zero_rate = 0 ∷ 0 ∷ 0 ∷ 0 ∷ 1 ∷ 0 ∷ 0 ∷ 0 ∷ []

abbrev no_rate : List ℕ
no_rate = 1 ∷ 0 ∷ 0 ∷ 0 ∷ 0 ∷ 0 ∷ 0 ∷ 0 ∷ []

-- settings whose lam and tol are patterns of a NaN, with the greatest max_iter, order 2 and penalty 255
abbrev odd_settings : List ℕ
odd_settings = 28 ∷ 0 ∷ 3 ∷ 0 ∷ 1 ∷ 0 ∷ 0 ∷ 0 ∷ 0 ∷ 0 ∷ 240 ∷ 127 ∷ 0 ∷ 0 ∷ 0 ∷ 0 ∷ 0 ∷ 0 ∷ 248 ∷ 255 ∷ 255 ∷ 255 ∷ 255 ∷ 255 ∷ 255 ∷ 255 ∷ 255 ∷ 255 ∷ 2 ∷ 255 ∷ []

-- the settings of document 01, as numbers
abbrev said : List ℕ
said = 0 ∷ 0x40af_4000_0000_0000 ∷ 0x3e45_798e_e230_8c3a ∷ 100 ∷ 1 ∷ 1 ∷ []

abbrev nan_pattern : ℕ
nan_pattern = 0x7ff8_0000_0000_0000

table : List (List ℕ × List ℕ)
table =
    ([], 12 ∷ [])
    -- document 01's file; a silent hour has its slot and is left out of the series, and later hours keep their positions; milliseconds are signed
    ∷ (settings ++ hour ++ punctual, said ++ (0x40bf_4000_0000_0000 ∷ 0 ∷ 2 ∷ 0 ∷ 1 ∷ []))
    ∷ (settings ++ hour ++ quiet ++ early ++ earliest, said ++ (0x40bf_4000_0000_0000 ∷ pause ∷ 0xbff0_0000_0000_0000 ∷ 0xc1e0_0000_0000_0000 ∷ 3 ∷ 0 ∷ 2 ∷ 3 ∷ []))
    ∷ (settings, said ++ (0 ∷ []))
    ∷ (odd_settings, 0 ∷ nan_pattern ∷ nan_pattern ∷ 18446744073709551615 ∷ 2 ∷ 255 ∷ 0 ∷ [])
    -- a record that the input cuts, a length of 0, an hour of another length, a kind that there is not
    ∷ (take 29 settings, 11 ∷ [])
    ∷ (settings ++ take 7 hour, 11 ∷ [])
    ∷ (settings ++ take 3 quiet, 11 ∷ [])
    ∷ (settings ++ (0 ∷ 0 ∷ 2 ∷ 0 ∷ []), 11 ∷ [])
    ∷ (settings ++ (5 ∷ 0 ∷ 1 ∷ 0 ∷ 0 ∷ 0 ∷ 0 ∷ []), 11 ∷ [])
    ∷ (settings ++ (2 ∷ 0 ∷ 6 ∷ 0 ∷ []), 11 ∷ [])
    -- the higher byte first
    ∷ (settings ++ (0 ∷ 2 ∷ 0 ∷ 2 ∷ []), 11 ∷ [])
    -- no settings, settings that are not the first record, settings twice
    ∷ (hour, 12 ∷ [])
    ∷ (hour ++ settings, 12 ∷ [])
    ∷ (settings ++ hour ++ settings, 12 ∷ [])
    -- a silent hour and 168 others; 169 hours
    ∷ (settings ++ quiet ++ times 168 hour, said ++ (pause ∷ []) ++ times 168 (0x40bf_4000_0000_0000 ∷ []) ++ (168 ∷ list 168 suc))
    ∷ (settings ++ times 169 hour, 13 ∷ [])
    -- an hour after as many silent ones as a file can have
    ∷ (settings ++ times 1014 quiet ++ punctual, said ++ times 1014 (pause ∷ []) ++ (0 ∷ 1 ∷ 1014 ∷ []))
    -- 11 comes before 12, and 12 before 13
    ∷ (hour ++ settings ++ take 3 quiet, 11 ∷ [])
    ∷ (settings ++ times 169 hour ++ settings, 12 ∷ [])
    -- a correction of an hour, of a silent one, and of each; of two for one hour the last counts, and a later hour keeps its position
    ∷ (settings ++ hour ++ amended 0 0, said ++ (0 ∷ 1 ∷ 0 ∷ []))
    ∷ (settings ++ quiet ++ hour ++ amended_early 0 0, said ++ (0xbff0_0000_0000_0000 ∷ 0x40bf_4000_0000_0000 ∷ 2 ∷ 0 ∷ 1 ∷ []))
    ∷ (settings ++ hour ++ amended 0 0 ++ quiet ++ amended_early 0 0 ++ hour, said ++ (0xbff0_0000_0000_0000 ∷ pause ∷ 0x40bf_4000_0000_0000 ∷ 2 ∷ 0 ∷ 2 ∷ []))
    -- the higher byte of a position counts 256
    ∷ (settings ++ times 257 quiet ++ amended 0 1, said ++ times 256 (pause ∷ []) ++ (0 ∷ 1 ∷ 256 ∷ []))
    -- a correction of another length; one ahead of its hour, one whose position is the count so far, and one with no hour
    ∷ (settings ++ hour ++ (7 ∷ 0 ∷ 4 ∷ 0 ∷ 0 ∷ 0 ∷ 0 ∷ 0 ∷ 0 ∷ []), 11 ∷ [])
    ∷ (settings ++ hour ++ amended 1 0 ++ hour, 17 ∷ [])
    ∷ (settings ++ hour ++ quiet ++ amended 2 0, 17 ∷ [])
    ∷ (settings ++ amended 0 0, 17 ∷ [])
    -- 12 comes before 17, and 17 before 13; 13 counts the hours once they are corrected
    ∷ (amended 0 0 ++ settings, 12 ∷ [])
    ∷ (settings ++ amended 0 0 ++ settings, 12 ∷ [])
    ∷ (settings ++ times 169 hour ++ amended 169 0, 17 ∷ [])
    ∷ (settings ++ times 168 hour ++ quiet ++ amended 168 0, 13 ∷ [])
    ∷ (settings ++ times 168 hour ++ amended 0 0 ++ amended 0 0, said ++ (0 ∷ []) ++ times 167 (0x40bf_4000_0000_0000 ∷ []) ++ (168 ∷ list 168 (λ i. i)))
    -- hours in frames among others: 3 at 30000/1001, none, and 200 at 25/1, which is 8000 ms
    ∷ (settings ++ quiet ++ frames 3 ++ odd_rate ++ frames 0 ++ odd_rate ++ hour ++ frames 200 ++ whole_rate, said ++ (pause ∷ 0x4059_0666_6666_6666 ∷ 0 ∷ 0x40bf_4000_0000_0000 ∷ 0x40bf_4000_0000_0000 ∷ 4 ∷ 1 ∷ 2 ∷ 3 ∷ 4 ∷ []))
    -- one that is corrected, and a zero in a rate, also of no frames and of an hour that is corrected; a shorter body
    ∷ (settings ++ frames 3 ++ odd_rate ++ amended_early 0 0, said ++ (0xbff0_0000_0000_0000 ∷ 1 ∷ 0 ∷ []))
    ∷ (settings ++ frames 0 ++ zero_rate, 22 ∷ [])
    ∷ (settings ++ frames 3 ++ no_rate ++ amended 0 0, 22 ∷ [])
    ∷ (settings ++ (10 ∷ 0 ∷ 5 ∷ 0 ∷ 0 ∷ 0 ∷ 0 ∷ 0 ∷ []) ++ take 4 whole_rate, 11 ∷ [])
    -- they count among the 168, and 13 comes before 22
    ∷ (settings ++ times 168 hour ++ frames 3 ++ zero_rate, 13 ∷ [])
    ∷ (settings ++ frames 3 ++ zero_rate ++ amended 1 0, 17 ∷ [])
    ∷ []

says : List (List ℕ × List ℕ) → List (List ℕ)
says [] = []
says (p ∷ ps) = numbers (read_week p.0) ∷ says ps

expected : List (List ℕ × List ℕ) → List (List ℕ)
expected [] = []
expected (p ∷ ps) = p.1 ∷ expected ps

known : says table ≡ expected table
unfolding euclid overrun rates rated list positions_from patterns numbers times says expected table read_week ask_entries bind entries entry_of settings_in extended names named_from count_settings hours_of records_past little_endian signed32 Ieee.of_bits Ieee.to_bits Ieee.of_int Ieee.round
known = refl

-- 4,098 bytes, all of them whole records, are too many; so are 4,097 of any kind
length_times : (n : ℕ) (x : List ℕ) → length (times n x) ≡ n * length x
unfolding times
length_times zero x = omega arith
length_times (suc n) x = length-append x (times n x) ∙ omega (arith, length_times n x)

known_long : read_week (settings ++ times 1017 quiet) ≡ unread 11
known_long = week_long (settings ++ times 1017 quiet) (omega (arith, length-append settings (times 1017 quiet), length_times 1017 quiet))

known_longer : read_week (times 4097 (0 ∷ [])) ≡ unread 11
known_longer = week_long (times 4097 (0 ∷ [])) (omega (arith, length_times 4097 (0 ∷ [])))
