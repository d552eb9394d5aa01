-- What `head_at` says of the records from a place on. Assumes nothing.
use mathlib.Core.Path.{◌≡◌, refl, ap, ap₂, ◌∙◌}
use mathlib.Core.Bool.{Bool, true, false, cond}
use Prim.Native.Nat.{ℕ, zero, suc, ◌+◌, ◌*◌, ◌-◌, ◌≤◌, ◌<◌}
use native.Mathlib.Omega.{arith}
use mathlib.Core.List.{List, [], ◌∷◌}
use mathlib.Core.Option.{Option, none, some, map}
use lib.ListN.{length, take, drop, length-drop, drop_of_length-le}
use lib.Seq.{drop-drop}
use lib.Dec.{leb, ltb}
use borrow.Author.Tests.{leb-true, leb-false, ltb-true, ltb-false}
use Rattle.std.specs.Prelude as P
use Rattle.framing.specs.Bytes.{little_endian, number_at}
use Rattle.framing.specs.Frames.{Rec, rec, records_past, records}
use Rattle.framing.specs.Places.{head_at}
use Rattle.framing.specs.declared.Record.{Record}
use Rattle.framing.specs.declared.NoRecord.{NoRecord}

-- a record of kind k stands at a place, its body from b up to n, where the next records start
pub record Opens (s : List ℕ) (at k b n : ℕ) : Type 0 where
  pub body : b ≡ at + 4
  pub more : b ≤ n
  pub inside : n ≤ length s
  pub rest : records (drop at s) ≡ map (λ (rs : List Rec). rec k (take (n - b) (drop b s)) ∷ rs) (records (drop n s))

-- the records from a place on, by what stands there
abbrev pub Heads : List ℕ → ℕ → P.Result (P.Option Record) NoRecord → Type 0
Heads s at (P.Ok P.None) = records (drop at s) ≡ some []
Heads s at (P.Ok (P.Some r)) = Opens s at r.kind r.body r.next
Heads s at (P.Err e) = records (drop at s) ≡ none

-- past the end, and within
past_short : (n : ℕ) (s : List ℕ) → length s < n → records_past n s ≡ none
unfolding records_past
past_short zero s h = absurd (omega arith)
past_short (suc n) [] h = refl
past_short (suc n) (b ∷ s) h = past_short n s (omega arith)

past_drop : (n : ℕ) (s : List ℕ) → n ≤ length s → records_past n s ≡ records (drop n s)
unfolding records_past
past_drop zero s h = refl
past_drop (suc n) [] h = absurd (omega arith)
past_drop (suc n) (b ∷ s) h = past_drop n s (omega arith)

-- fewer than four bytes, and four at least
few : (l : List ℕ) → 0 < length l → length l < 4 → records l ≡ none
unfolding records_past
few [] h k = absurd (omega arith)
few (a ∷ []) h k = refl
few (a ∷ b ∷ []) h k = refl
few (a ∷ b ∷ c ∷ []) h k = refl
few (a ∷ b ∷ c ∷ d ∷ l) h k = absurd (omega arith)

abbrev opened : ℕ → ℕ → List ℕ → Option (List Rec)
opened l k s = cond (ltb l 2) none (map (λ (rs : List Rec). rec k (take (l - 2) s) ∷ rs) (records_past (l - 2) s))

many : (l : List ℕ) → 4 ≤ length l → records l ≡ opened (number_at 0 2 l) (number_at 2 2 l) (drop 4 l)
unfolding records_past little_endian
many [] h = absurd (omega arith)
many (a ∷ []) h = absurd (omega arith)
many (a ∷ b ∷ []) h = absurd (omega arith)
many (a ∷ b ∷ c ∷ []) h = absurd (omega arith)
many (a ∷ b ∷ c ∷ d ∷ l) h =
    let e : a + 256 * b ≡ a + 256 * (b + 256 * 0) = omega arith in
    let f : c + 256 * d ≡ c + 256 * (d + 256 * 0) = omega arith in
    ap₂ (λ (x y : ℕ). opened x y l) e f

module _ (s : List ℕ) (at : ℕ) where
  at_least : 4 ≤ length s - at → records (drop at s) ≡ opened (number_at at 2 s) (number_at (at + 2) 2 s) (drop (at + 4) s)
  at_least h = many (drop at s) (omega (arith, length-drop at s)) ∙ rw (drop-drop 2 at s, drop-drop 4 at s)

  whole : (l : ℕ) → 2 ≤ l → 2 + l ≤ length s - at → at < length s → records_past (l - 2) (drop (at + 4) s) ≡ records (drop (at + (2 + l)) s)
  whole l h k m =
      let e : at + 4 + (l - 2) ≡ at + (2 + l) = omega arith in
      past_drop (l - 2) (drop (at + 4) s) (omega (arith, length-drop (at + 4) s)) ∙ ap records (drop-drop (l - 2) (at + 4) s ∙ ap (λ (j : ℕ). drop j s) e)

  tested : (t₁ t₂ t₃ t₄ : Bool)
      → leb (length s) at ≡ t₁ → ltb (length s - at) 4 ≡ t₂ → ltb (number_at at 2 s) 2 ≡ t₃ → ltb (length s - at) (2 + number_at at 2 s) ≡ t₄
      → Heads s at (cond t₁ (P.Ok P.None) (cond t₂ (P.Err (record {})) (cond t₃ (P.Err (record {})) (cond t₄ (P.Err (record {})) (P.Ok (P.Some (record { kind = number_at (at + 2) 2 s; body = at + 4; next = at + (2 + number_at at 2 s) })))))))
  unfolding records_past
  tested true t₂ t₃ t₄ e₁ e₂ e₃ e₄ = ap records (drop_of_length-le s (leb-true _ _ e₁))
  tested false true t₃ t₄ e₁ e₂ e₃ e₄ =
      let h : at < length s = leb-false _ _ e₁ in
      let k : length s - at < 4 = ltb-true _ _ e₂ in
      few (drop at s) (omega (arith, length-drop at s)) (omega (arith, length-drop at s))
  tested false false true t₄ e₁ e₂ e₃ e₄ = at_least (ltb-false _ _ e₂) ∙ rw e₃
  tested false false false true e₁ e₂ e₃ e₄ =
      let h : 2 ≤ number_at at 2 s = ltb-false _ _ e₃ in
      let k : length s - at < 2 + number_at at 2 s = ltb-true _ _ e₄ in
      let m : 4 ≤ length s - at = ltb-false _ _ e₂ in
      at_least m ∙ rw (e₃, past_short (number_at at 2 s - 2) (drop (at + 4) s) (omega (arith, length-drop (at + 4) s)))
  tested false false false false e₁ e₂ e₃ e₄ =
      let l = number_at at 2 s in
      let h : 2 ≤ l = ltb-false _ _ e₃ in
      let k : 2 + l ≤ length s - at = ltb-false _ _ e₄ in
      let i : at < length s = leb-false _ _ e₁ in
      let e : l - 2 ≡ at + (2 + l) - (at + 4) = omega arith in
      record {
        body = refl;
        more = omega arith;
        inside = omega arith;
        rest = at_least (ltb-false _ _ e₂) ∙ rw (e₃, whole l h k i, e);
      }

pub heads : (s : List ℕ) (at : ℕ) → Heads s at (head_at s at)
unfolding head_at
heads s at = tested s at _ _ _ _ refl refl refl refl
