-- A run of best gaps, each below 0.99 of the one before it: how far down it is, and how long it can be.
use mathlib.Core.Path.{◌≡◌, refl, sym, ap, ◌∙◌, subst}
use Prim.Native.Nat.{ℕ, zero, suc, ◌+◌, ◌-◌, ◌*◌, ◌^◌, ◌≤◌, ◌<◌, zero-le, suc-le-suc}
use native.Mathlib.Nat.{le_refl, le_trans, le_of_eq, lt_of_not-le, not-le_of_lt, lt_of_le_of_lt, zero-mul, one-mul, mul_comm, mul_assoc, mul_left_comm, mul-mul-mul_comm, mul-le-mul, mul-le-mul_right, mul-le-mul_left, mul-lt-mul_of_pos_right, pow-suc, pow-le-pow_left, one-le-pow}
use native.Mathlib.Omega.{arith}
use mathlib.Core.Bool.{Bool, true, false, not}
use lib.IntN.{pos, neg_ℤ, ◌*ℤ◌}
use lib.Signed.{◌≤ℤ◌, ≤ℤ_refl, le_z}
use lib.Dec.{T, ltb→lt, le→leb, lit≤, lit<}
use lib.Pow.{pow-add}
use lib.Ieee.{Float, nan, inf, fin, binary64, mul, lt, fits}
use lib.Ieee.Scale.{finite}
use lib.Ieee.Positive.{above, positive}
use lib.Ieee.Digits.{back}
use Rattle.float64.specs.Ops.{c0·99}
use Rattle.float64.specs.Helpers.{is_finite}
use Rattle.float64.specs.Units.{in_units}
use Rattle.float64.proofs.Doubles.{fit_of, units_under, units-pos}
use Rattle.search.specs.Bounds.{units}
use Rattle.search.proofs.Shrink.{shrinks}

-- b is reached from a by j improvements: each is below the rounded 0.99 of the one before, which was above zero, and all are doubles
pub data Falls (a : Float) : ℕ → Float → Type 0 where
  here : T (fits binary64 a) → Falls a 0 a
  lower : {j : ℕ} {b : Float} (g : Float) → Falls a j b → T (above b) → T (lt g (mul binary64 c0·99 b)) → T (fits binary64 g) → Falls a (suc j) g

-- the kit's word and ours for a finite double
pub finite_is : (x : Float) → is_finite x ≡ finite x
unfolding is_finite
finite_is nan = refl
finite_is (inf s) = refl
finite_is (fin s m e) = refl

pub finite_of : (x : Float) → is_finite x ≡ true → T (finite x)
finite_of x e = subst T (sym e ∙ finite_is x) tt

-- finite, and the sign is clear
abbrev pub plain : Float → Bool
plain nan = false
plain (inf s) = false
plain (fin s m e) = not s

pub falls_fits : {a : Float} {j : ℕ} {b : Float} → Falls a j b → T (fits binary64 b)
falls_fits (here f) = f
falls_fits (lower g p a l f) = f

-- ---- one improvement
step : (g b : Float) → T (plain g) → T (plain b) → T (fits binary64 g) → T (fits binary64 b) → T (lt g (mul binary64 c0·99 b)) → 100 * in_units g ≤ 99 * in_units b
step nan b p q f k t = absurd p
step (inf s) b p q f k t = absurd p
step (fin true n d) b p q f k t = absurd p
step (fin false n d) nan p q f k t = absurd q
step (fin false n d) (inf s) p q f k t = absurd q
step (fin false n d) (fin true m e) p q f k t = absurd q
step (fin false n d) (fin false m e) p q f k t = shrinks n d m e (fit_of binary64 false n d f) (fit_of binary64 false m e k) t

-- what is below something is no +infinity
not_top : (x : Float) → T (lt (inf false) x) → ⊥
unfolding lt
not_top nan t = t
not_top (inf s) t = t
not_top (fin s m e) t = t

not_nan : (x : Float) → T (lt nan x) → ⊥
unfolding lt
not_nan x t = t

-- from a finite one no +infinity is reached
falls_finite : {a : Float} {j : ℕ} {b : Float} → Falls a j b → T (finite a) → T (above b) → T (plain b)
falls_finite {b = b} (here f) h q = go b h q
  where
    go : (b : Float) → T (finite b) → T (above b) → T (plain b)
    go nan h q = h
    go (inf s) h q = h
    go (fin true m e) h q = q
    go (fin false m e) h q = tt
falls_finite (lower {b = b} g p a l f) h q = go g l q
  where
    go : (g : Float) → T (lt g (mul binary64 c0·99 b)) → T (above g) → T (plain g)
    go nan l q = q
    go (inf true) l q = q
    go (inf false) l q = absurd (not_top (mul binary64 c0·99 b) l)
    go (fin true m e) l q = q
    go (fin false m e) l q = tt

chain : (g b a x y : ℕ) → 100 * g ≤ 99 * b → b * x ≤ a * y → g * (x * 100) ≤ a * (y * 99)
chain g b a x y h k =
    let p : 100 * g * x ≤ 99 * b * x = mul-le-mul_right x h in
    let q : 99 * (b * x) ≤ 99 * (a * y) = mul-le-mul_left 99 k in
    let e : g * (x * 100) ≡ 100 * g * x = simp (mul_assoc, mul_comm, mul_left_comm) in
    let e' : 99 * b * x ≡ 99 * (b * x) = mul_assoc 99 b x in
    let e'' : a * (y * 99) ≡ 99 * (a * y) = simp (mul_comm, mul_left_comm) in
    le_trans (le_of_eq e) (le_trans p (le_trans (le_of_eq e') (le_trans q (le_of_eq (sym e'')))))

-- ---- how far down
pub fallen : {a : Float} {j : ℕ} {b : Float} → Falls a j b → T (finite a) → T (plain b) → T (plain a) × (in_units b * 100 ^ j ≤ in_units a * 99 ^ j)
fallen (here f) h q = (q, le_refl _)
fallen {a} (lower {j = j} {b = b} g p al l f) h q =
    let pb : T (plain b) = falls_finite p h al in
    let r = fallen p h pb in
    (r.0, le_trans (le_of_eq (ap (λ (x : ℕ). in_units g * x) (pow-suc 100 j))) (le_trans (chain (in_units g) (in_units b) (in_units a) (100 ^ j) (99 ^ j) (step g b q pb f (falls_fits p) l) r.1) (le_of_eq (ap (λ (x : ℕ). in_units a * x) (sym (pow-suc 99 j))))))

-- ---- the same of whole numbers with their signs
minus-le : (c k x : ℕ) → T (le_z (neg_ℤ (pos c) *ℤ pos k) (pos x))
minus-le zero k x = le→leb (0 * k) x (le_trans (le_of_eq (zero-mul k)) zero-le)
minus-le (suc c) k x = go (suc c * k)
  where
    go : (y : ℕ) → T (le_z (neg_ℤ (pos y)) (pos x))
    go zero = le→leb 0 x zero-le
    go (suc y) = tt

below_plain : (a b : Float) (j : ℕ) → T (finite b) → T (plain a) → (T (plain b) → in_units b * 100 ^ j ≤ in_units a * 99 ^ j) → (units b *ℤ pos (100 ^ j)) ≤ℤ (units a *ℤ pos (99 ^ j))
below_plain nan b j h q k = absurd q
below_plain (inf s) b j h q k = absurd q
below_plain (fin true m e) b j h q k = absurd q
below_plain (fin false m e) nan j h q k = absurd h
below_plain (fin false m e) (inf s) j h q k = absurd h
below_plain (fin false m e) (fin true n d) j h q k = record { le = minus-le (in_units (fin false n d)) (100 ^ j) (in_units (fin false m e) * 99 ^ j) }
below_plain (fin false m e) (fin false n d) j h q k = record { le = le→leb (in_units (fin false n d) * 100 ^ j) (in_units (fin false m e) * 99 ^ j) (k tt) }

pub falls_whole : {a : Float} {j : ℕ} {b : Float} → Falls a j b → T (finite a) → T (finite b) → (units b *ℤ pos (100 ^ j)) ≤ℤ (units a *ℤ pos (99 ^ j))
falls_whole {a} (here f) h q = ≤ℤ_refl (units a *ℤ pos 1)
falls_whole {a} (lower {j = j} {b = b} g p al l f) h q = below_plain a g (suc j) q (fallen p h (falls_finite p h al)).0 (λ (z : T (plain g)). (fallen (lower g p al l f) h z).1)

-- ---- powers: after 69 improvements the gap is halved
halved : 2 * 99 ^ 69 ≤ 100 ^ 69
halved = lit≤ tt

less : (j k : ℕ) → 69 * suc k ≤ j → 69 * k ≤ j - 69
less j k h = omega arith

at_least : (j k : ℕ) → 69 * suc k ≤ j → 69 ≤ j
at_least j k h = omega arith

pub powers : (k j : ℕ) → 69 * k ≤ j → 2 ^ k * 99 ^ j ≤ 100 ^ j
powers zero j h = le_trans (le_of_eq (one-mul (99 ^ j))) (pow-le-pow_left (lit≤ tt) j)
powers (suc k) j h =
    let i = j - 69 in
    let e : i + 69 ≡ j = back j 69 (at_least j k h) in
    subst (λ (x : ℕ). 2 ^ suc k * 99 ^ x ≤ 100 ^ x) e
    (le_trans (le_of_eq (ap (λ (x : ℕ). x * 99 ^ (i + 69)) (pow-suc 2 k) ∙ ap (λ (x : ℕ). 2 ^ k * 2 * x) (pow-add 99 i 69) ∙ mul-mul-mul_comm (2 ^ k) 2 (99 ^ i) (99 ^ 69)))
    (le_trans (mul-le-mul (powers k i (less j k h)) halved) (le_of_eq (sym (pow-add 100 i 69)))))

-- ---- how long
few : (j x y a b : ℕ) → 1 ≤ b → b * x ≤ a * y → a < 2 ^ 2098 → 0 < y → x < 2 ^ 2098 * y
few j x y a b h k l Y = lt_of_le_of_lt (le_trans (le_of_eq (sym (one-mul x))) (le_trans (mul-le-mul_right x h) k)) (mul-lt-mul_of_pos_right l Y)

in_range : (a : Float) → T (plain a) → T (fits binary64 a) → in_units a < 2 ^ 2098
in_range nan q f = absurd q
in_range (inf s) q f = absurd q
in_range (fin s m e) q f = units_under s m e (fit_of binary64 s m e f)

from_one : (b : Float) → T (positive b) → T (fits binary64 b) → 1 ≤ in_units b
from_one nan q f = absurd q
from_one (inf s) q f = absurd q
from_one (fin true m e) q f = absurd q
from_one (fin false m e) q f = units-pos false m e (fit_of binary64 false m e f) (ltb→lt 0 m q)

positive_plain : (b : Float) → T (positive b) → T (plain b)
positive_plain nan q = absurd q
positive_plain (inf s) q = absurd q
positive_plain (fin true m e) q = absurd q
positive_plain (fin false m e) q = tt

first_fits : {a : Float} {j : ℕ} {b : Float} → Falls a j b → T (fits binary64 a)
first_fits (here f) = f
first_fits (lower g p al l f) = first_fits p

pub from_finite : {a : Float} {j : ℕ} {b : Float} → Falls a j b → T (finite a) → T (positive b) → j < 144762
from_finite {a} {j} {b} p h q =
    let r = fallen p h (positive_plain b q) in
    lt_of_not-le (λ (g : 144762 ≤ j).
    not-le_of_lt (few j (100 ^ j) (99 ^ j) (in_units a) (in_units b) (from_one b q (falls_fits p)) r.1 (in_range a r.0 (first_fits p)) (one-le-pow j 99 (lit≤ tt))) (powers 2098 j g))

-- ---- from an infinite first gap: one improvement more
-- what stands after the first improvement
record Tail (j : ℕ) (b : Float) : Type 0 where
  second : Float
  under : Float
  below : T (lt second under)
  falls : Falls second j b

tail : {a : Float} (j : ℕ) {b : Float} → Falls a (suc j) b → Tail j b
tail {a} zero (lower g (here f) al l k) = record { second = g; under = mul binary64 c0·99 a; below = l; falls = here k }
tail (suc j) (lower g p al l k) = let t = tail j p in record { second = t.second; under = t.under; below = t.below; falls = lower g t.falls al l k }

-- nothing is reached from -infinity
no_bottom : {j : ℕ} {b : Float} → Falls (inf true) j b → T (above b) → ⊥
no_bottom (here f) q = q
no_bottom (lower g p al l f) q = no_bottom p al

positive_above : (b : Float) → T (positive b) → T (above b)
positive_above nan q = absurd q
positive_above (inf s) q = absurd q
positive_above (fin true m e) q = absurd q
positive_above (fin false m e) q = q

later : (c u : Float) (j : ℕ) (b : Float) → T (lt c u) → Falls c j b → T (positive b) → j < 144762
later nan u j b l p q = absurd (not_nan u l)
later (inf true) u j b l p q = absurd (no_bottom p (positive_above b q))
later (inf false) u j b l p q = absurd (not_top u l)
later (fin s m e) u j b l p q = from_finite p tt q

pub from_any : {a : Float} (j : ℕ) {b : Float} → Falls a j b → T (positive b) → j < 144763
from_any zero p q = lit< tt
from_any (suc j) {b} p q = let t = tail j p in suc-le-suc (later t.second t.under j b t.below t.falls q)

-- +infinity is no improvement
top_first : {a : Float} {j : ℕ} {b : Float} → Falls a j b → b ≡ inf false → j ≡ 0
top_first (here f) e = refl
top_first (lower {b = b} g p al l f) e = absurd (not_top (mul binary64 c0·99 b) (subst (λ (x : Float). T (lt x (mul binary64 c0·99 b))) e l))

last : {a : Float} (j : ℕ) (b : Float) → Falls a j b → T (above b) → suc j ≤ 144763
last j nan p q = absurd q
last j (inf true) p q = absurd q
last j (inf false) p q = subst (λ (x : ℕ). suc x ≤ 144763) (sym (top_first p refl)) (lit≤ tt)
last j (fin true m e) p q = absurd q
last j (fin false m e) p q = from_any j p q

pub few_improvements : {a : Float} {j : ℕ} {b : Float} → Falls a j b → j ≤ 144763
few_improvements (here f) = zero-le
few_improvements (lower {j = j} {b = b} g p al l f) = last j b p al
