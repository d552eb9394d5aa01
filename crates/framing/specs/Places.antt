-- What the code finds at a place of the bytes; proofs/Heads.antt says what that is in terms of records.
use Rattle.std.specs.Prelude.{ℕ, ◌+◌, ◌-◌, cond, List, length, ltb, leb, Option, Some, None, Result, Ok, Err}
use Rattle.framing.specs.Bytes.{number_at}
use Rattle.framing.specs.declared.Record.{Record}
use Rattle.framing.specs.declared.NoRecord.{NoRecord}

-- nothing, no whole record, or a record: its kind, where its body starts, and where the next record does
unfoldable pub head_at : List ℕ → ℕ → Result (Option Record) NoRecord
head_at s at =
    cond (leb (length s) at) (Ok None)
    (cond (ltb (length s - at) 4) (Err (record {}))
    (cond (ltb (number_at at 2 s) 2) (Err (record {}))
    (cond (ltb (length s - at) (2 + number_at at 2 s)) (Err (record {}))
    (Ok (Some (record { kind = number_at (at + 2) 2 s; body = at + 4; next = at + (2 + number_at at 2 s) }))))))
