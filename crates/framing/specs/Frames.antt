-- Document 01, "The weekly program": each record is a two-byte length (of kind and body), a two-byte kind, and a body.
use Rattle.std.specs.Prelude.{ℕ, zero, suc, ◌+◌, ◌*◌, ◌-◌, cond, List, [], ◌∷◌, take, ltb}
use Rattle.std.proofs.Math.Option.{Option, none, some, map}

-- a record: its kind and its body
pub data Rec : Type 0 where
  rec : ℕ → List ℕ → Rec

-- the records that the bytes past the first n spell; none where they do not split into whole records
unfoldable pub records_past : ℕ → List ℕ → Option (List Rec)
records_past (suc n) [] = none
records_past (suc n) (b ∷ s) = records_past n s
records_past zero [] = some []
records_past zero (l₀ ∷ []) = none
records_past zero (l₀ ∷ l₁ ∷ []) = none
records_past zero (l₀ ∷ l₁ ∷ k₀ ∷ []) = none
records_past zero (l₀ ∷ l₁ ∷ k₀ ∷ k₁ ∷ s) =
    cond (ltb (l₀ + 256 * l₁) 2) none
    (map (λ (rs : List Rec). rec (k₀ + 256 * k₁) (take (l₀ + 256 * l₁ - 2) s) ∷ rs) (records_past (l₀ + 256 * l₁ - 2) s))

-- the records that bytes spell
abbrev pub records : List ℕ → Option (List Rec)
records s = records_past 0 s
