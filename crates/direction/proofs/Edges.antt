-- Where mu is past an edge of the step it caps nothing, since rounding keeps the order of fractions of either sign. Assumes nothing.
use mathlib.Core.Path.{◌≡◌, refl, sym, ap, ap₂, ◌∙◌}
use mathlib.Core.Bool.{Bool, true, false, not, cond, true≢false}
use Prim.Native.Nat.{ℕ, zero, suc, ◌+◌, ◌*◌, ◌^◌, ◌≤◌, ◌<◌}
use native.Mathlib.Nat.{zero-mul, mul_assoc, mul_comm, mul_left_comm, mul-mul-mul_comm, mul-le-mul_right, le_of_mul-le-mul_right, mul-pos}
use native.Mathlib.Omega.{arith}
use borrow.Author.Tests.{ltb-true, ltb-false, le-ltb, ne_eqb}
use lib.IntN.{ℤ}
use lib.Dec.{T, ltb, eqb, lit≤}
use lib.Ieee.{Float, nan, inf, fin, Format, binary64, prec, emax, low, up, down, unlike, odd, units, round, neg, mul, div, below, lt, le, fits, is_nan, of_bits}
use lib.Ieee.Fits.{round_is, up_pos, down_pos}
use lib.Ieee.Order.{round_mono}
use lib.Ieee.Scale.{round_same}
use lib.Ieee.Positive.{first_pos, through}
use Rattle.float64.specs.Ops.{◌⊗◌, ◌⊘◌, c0, c0·99, infinity}
use Rattle.float64.specs.Helpers.{min_of}
use Rattle.float64.proofs.Clash.{clash}
use Rattle.float64.proofs.Doubles.{round_double}
use Rattle.float64.proofs.Order.{above_not-at_most}
use Rattle.direction.specs.Direction.{step_cap_by}
use Rattle.direction.specs.Places.{Edge}

-- ---- ±a and ±b

-- if ±a is below ±b, then ±b is not below ±a
below_turn : (s t : Bool) (a b : ℕ) → below s a t b ≡ true → below t b s a ≡ false
below_turn false false a b h = le-ltb b a (omega (arith, ltb-true a b h))
below_turn false true a b h = absurd (true≢false (sym h))
below_turn true false a b h = refl
below_turn true true a b h = le-ltb a b (omega (arith, ltb-true b a h))

-- the order stays, k times
below_times : (s t : Bool) (a b k : ℕ) → below s a t b ≡ false → below s (a * k) t (b * k) ≡ false
below_times false false a b k h = le-ltb (a * k) (b * k) (mul-le-mul_right k (ltb-false a b h))
below_times false true a b k h = refl
below_times true false a b k h =
    let z = ltb-false 0 (a + b) h in
    let x : a ≡ 0 = omega arith in
    let y : b ≡ 0 = omega arith in
    rw (x, y, zero-mul k)
below_times true true a b k h = le-ltb (b * k) (a * k) (mul-le-mul_right k (ltb-false b a h))

-- where a·k is 0, so is a·j
gone : (a k j : ℕ) → 0 < k → a * k ≤ 0 → a * j ≡ 0
gone a k j K h =
    let l : a * k ≤ 0 * k = omega arith in
    let z : a ≤ 0 = le_of_mul-le-mul_right l K in
    let e : a ≡ 0 = omega arith in
    rw e (zero-mul j)

-- ±z / r is at least ±y / q, and that at least ±x / p
below_through : (s t u : Bool) (x y z p q r : ℕ) → 0 < q → below s (z * q) t (y * r) ≡ false → below t (y * p) u (x * q) ≡ false → below s (z * p) u (x * r) ≡ false
below_through false t true x y z p q r Q h k = refl
below_through false false false x y z p q r Q h k = le-ltb (z * p) (x * r) (through x y z p q r Q (ltb-false (y * p) (x * q) k) (ltb-false (z * q) (y * r) h))
below_through false true false x y z p q r Q h k = le-ltb (z * p) (x * r) (omega (arith, gone x q r Q (omega (arith, ltb-false 0 (y * p + x * q) k))))
below_through true true true x y z p q r Q h k = le-ltb (x * r) (z * p) (through z y x r q p Q (ltb-false (y * r) (z * q) h) (ltb-false (x * q) (y * p) k))
below_through true false true x y z p q r Q h k = le-ltb (x * r) (z * p) (omega (arith, gone z q p Q (omega (arith, ltb-false 0 (z * q + y * r) h))))
below_through true false false x y z p q r Q h k =
    let o = ltb-false 0 (z * q + y * r) h in
    le-ltb 0 (z * p + x * r) (omega (arith, gone z q p Q (omega arith), through x y z p q r Q (ltb-false (y * p) (x * q) k) (omega arith)))
below_through true true false x y z p q r Q h k =
    let o = ltb-false 0 (y * p + x * q) k in
    le-ltb 0 (z * p + x * r) (omega (arith, gone x q r Q (omega arith), through z y x r q p Q (ltb-false (y * r) (z * q) h) (omega arith)))

-- ---- the order of the doubles

lowest : (x : Float) → lt x (inf true) ≡ false
unfolding lt
lowest nan = refl
lowest (inf true) = refl
lowest (inf false) = refl
lowest (fin s m e) = refl

highest : (x : Float) → lt (inf false) x ≡ false
unfolding lt
highest nan = refl
highest (inf s) = refl
highest (fin s m e) = refl

-- what is at most y is not above it
not_above : (x y : Float) → T (le x y) → lt y x ≡ false
not_above x y h = go (lt y x) refl
  where
    go : (b : Bool) → lt y x ≡ b → b ≡ false
    go true e = absurd (rw (above_not-at_most y x e) at h)
    go false e = refl

-- z is at least y, and that at least x
lt_through : (x y z : Float) → is_nan y ≡ false → lt y x ≡ false → lt z y ≡ false → lt z x ≡ false
unfolding lt is_nan
lt_through x y nan n l k = refl
lt_through x y (inf false) n l k = highest x
lt_through x nan (inf true) n l k = absurd (true≢false n)
lt_through x (inf true) (inf true) n l k = l
lt_through x (inf false) (inf true) n l k = absurd (true≢false k)
lt_through x (fin t b d) (inf true) n l k = absurd (true≢false k)
lt_through x nan (fin s a c) n l k = absurd (true≢false n)
lt_through nan (inf true) (fin s a c) n l k = refl
lt_through (inf u) (inf true) (fin s a c) n l k = l
lt_through (fin u m e) (inf true) (fin s a c) n l k = absurd (true≢false l)
lt_through x (inf false) (fin s a c) n l k = absurd (true≢false k)
lt_through nan (fin t b d) (fin s a c) n l k = refl
lt_through (inf u) (fin t b d) (fin s a c) n l k = l
lt_through (fin u m e) (fin t b d) (fin s a c) n l k = below_through s t u (m * up e) (b * up d) (a * up c) (down e) (down d) (down c) (down_pos d) k l

-- what something is at most is a number
number : (x y : Float) → le x y ≡ true → is_nan y ≡ false
unfolding le is_nan
number nan nan h = sym h
number (inf s) nan h = sym h
number (fin s m e) nan h = sym h
number x (inf t) h = refl
number x (fin t n d) h = refl

-- ---- rounding keeps the order

-- a double's size, with the sign s
abbrev signed : Bool → Float → Float
signed s nan = nan
signed s (inf t) = inf s
signed s (fin t m e) = fin s m e

odd_signed : (d : ℕ) (s : Bool) (q k l : ℕ) → odd d s q k l ≡ signed s (odd d false q k l)
unfolding odd
odd_signed d s zero k l = refl
odd_signed d s (suc q) k l = refl

units_signed : (f : Format) (s : Bool) (q k : ℕ) → units f s q k ≡ signed s (units f false q k)
unfolding units
units_signed f s q k = go (ltb (q * 2 ^ k) (2 ^ (low f + suc (emax f))))
  where
    go : (b : Bool) → cond b (odd (suc (prec f)) s q k (low f)) (inf s) ≡ signed s (cond b (odd (suc (prec f)) false q k (low f)) (inf false))
    go true = odd_signed (suc (prec f)) s q k (low f)
    go false = refl

round_signed : (s : Bool) (a c : ℕ) → round binary64 s a c ≡ signed s (round binary64 false a c)
round_signed s a c = round_is binary64 s a c ∙ units_signed binary64 s _ _ ∙ ap (signed s) (sym (round_is binary64 false a c))

-- with both signs turned the order turns
mirrored : (x y : Float) → lt (signed true x) (signed true y) ≡ lt (signed false y) (signed false x)
unfolding lt
mirrored nan nan = refl
mirrored nan (inf t) = refl
mirrored nan (fin t n d) = refl
mirrored (inf s) nan = refl
mirrored (inf s) (inf t) = refl
mirrored (inf s) (fin t n d) = refl
mirrored (fin s m e) nan = refl
mirrored (fin s m e) (inf t) = refl
mirrored (fin s m e) (fin t n d) = refl

-- no plus is below a minus
apart : (x y : Float) → lt (signed false x) (signed true y) ≡ false
unfolding lt
apart nan y = refl
apart (inf s) y = highest (signed true y)
apart (fin s m e) nan = refl
apart (fin s m e) (inf t) = refl
apart (fin s m e) (fin t n d) = refl

zeros : (c d : ℕ) → 0 < c → 0 < d → lt (round binary64 true 0 d) (round binary64 false 0 c) ≡ false
unfolding lt round
zeros c d C D = rw (round_same binary64 true 0 d 0 1 D (lit≤ tt) (sym (zero-mul d)), round_same binary64 false 0 c 0 1 C (lit≤ tt) (sym (zero-mul c)))

-- ±b / d is at least ±a / c, and stays so
round_keeps : (s t : Bool) (a c b d : ℕ) → 0 < c → 0 < d → below t (b * c) s (a * d) ≡ false → lt (round binary64 t b d) (round binary64 s a c) ≡ false
round_keeps false false a c b d C D h = not_above (round binary64 false a c) (round binary64 false b d) (round_mono binary64 a c b d C D (ltb-false (b * c) (a * d) h))
round_keeps true false a c b d C D h = ap₂ lt (round_signed false b d) (round_signed true a c) ∙ apart (round binary64 false b d) (round binary64 false a c)
round_keeps false true a c b d C D h =
    let z = ltb-false 0 (b * c + a * d) h in
    let x : a ≡ 0 = omega (arith, gone a d 1 D (omega arith)) in
    let y : b ≡ 0 = omega (arith, gone b c 1 C (omega arith)) in
    rw (x, y) (zeros c d C D)
round_keeps true true a c b d C D h =
    ap₂ lt (round_signed true b d) (round_signed true a c)
    ∙ mirrored (round binary64 false b d) (round binary64 false a c)
    ∙ ap₂ lt (sym (round_signed false a c)) (sym (round_signed false b d))
    ∙ not_above (round binary64 false b d) (round binary64 false a c) (round_mono binary64 b d a c D C (ltb-false (a * d) (b * c) h))

-- ---- 0.99 times a double

-- the sign of 0.99·x, of e·p and of -mu / -p
plain : (s : Bool) → (unlike false s ≡ s) × (unlike s false ≡ s) × (unlike (not s) true ≡ s)
plain true = (refl, refl, refl)
plain false = (refl, refl, refl)

scaled : (s t : Bool) (a c b d p q : ℕ) → below s (a * c) t (b * d) ≡ false → below s (p * a * (q * c)) t (p * b * (q * d)) ≡ false
scaled s t a c b d p q h = rw (mul-mul-mul_comm p a q c, mul-mul-mul_comm p b q d, mul_comm (p * q) (a * c), mul_comm (p * q) (b * d)) (below_times s t (a * c) (b * d) (p * q) h)

times_keeps : (s : Bool) (m : ℕ) (e : ℤ) (y : Float) → lt y (fin s m e) ≡ false → lt (c0·99 ⊗ y) (c0·99 ⊗ fin s m e) ≡ false
unfolding lt mul of_bits
times_keeps s m e nan h = refl
times_keeps s m e (inf true) h = absurd (true≢false h)
times_keeps s m e (inf false) h = highest (c0·99 ⊗ fin s m e)
times_keeps s m e (fin t n d) h =
    rw ((plain t).0, (plain s).0)
    (round_keeps s t (4458563631096791 * (m * up e)) (4503599627370496 * down e) (4458563631096791 * (n * up d)) (4503599627370496 * down d)
    (mul-pos (lit≤ tt) (down_pos e)) (mul-pos (lit≤ tt) (down_pos d)) (scaled t s (n * up d) (down e) (m * up e) (down d) 4458563631096791 4503599627370496 h))

-- ---- the quotient

no_top : (b : Bool) (x : Float) → lt (cond b nan (inf false)) x ≡ false
unfolding lt
no_top true x = refl
no_top false x = highest x

-- where e·p, rounded, is below mu, mu / p, rounded, is at least e
quotient : (s t : Bool) (m M n : ℕ) (j K k : ℤ) → 0 < n → T (fits binary64 (fin s m j)) → T (fits binary64 (fin t M K))
    → lt (round binary64 s (m * up j * (n * up k)) (down j * down k)) (fin t M K) ≡ true
    → lt (round binary64 t (M * up K * down k) (n * up k * down K)) (fin s m j) ≡ false
quotient s t m M n j K k N f g h = go (below s (m * up j * (n * up k) * down K) t (M * up K * (down j * down k))) refl
  where
    go : (b : Bool) → below s (m * up j * (n * up k) * down K) t (M * up K * (down j * down k)) ≡ b → lt (round binary64 t (M * up K * down k) (n * up k * down K)) (fin s m j) ≡ false
    go false b =
        let r = round_keeps t s (M * up K) (down K) (m * up j * (n * up k)) (down j * down k) (down_pos K) (mul-pos (down_pos j) (down_pos k)) b in
        absurd (clash h (rw (round_double t M K g) at r))
    go true b =
        let x : m * up j * (n * up k) * down K ≡ m * up j * (n * up k * down K) = mul_assoc (m * up j) (n * up k) (down K) in
        let y : M * up K * (down j * down k) ≡ M * up K * down k * down j = simp (mul_assoc, mul_comm, mul_left_comm) in
        let o : below t (M * up K * down k * down j) s (m * up j * (n * up k * down K)) ≡ false = rw (x, y) at (below_turn s t (m * up j * (n * up k) * down K) (M * up K * (down j * down k)) b) in
        let r = round_keeps s t (m * up j) (down j) (M * up K * down k) (n * up k * down K) (down_pos j) (mul-pos (mul-pos N (up_pos k)) (down_pos K)) o in
        rw (round_double s m j f) at r

-- the same for every mu
quotient_of_lem : (s : Bool) (m : ℕ) (j : ℤ) (mu : Float) (n : ℕ) (k : ℤ) → 0 < n → T (fits binary64 (fin s m j)) → T (fits binary64 mu)
    → lt (fin s m j ⊗ fin false n k) mu ≡ true → lt (neg mu ⊘ fin true n k) (fin s m j) ≡ false
unfolding lt neg mul div
quotient_of_lem s m j nan n k N f g h = refl
quotient_of_lem s m j (inf true) n k N f g h = absurd (clash h (lowest (fin s m j ⊗ fin false n k)))
quotient_of_lem s m j (inf false) n k N f g h = refl
quotient_of_lem s m j (fin t M K) n k N f g h =
    let z : eqb n 0 ≡ false = ne_eqb n 0 (λ e. omega arith) in
    rw (z, (plain t).2) (quotient s t m M n j K k N f g (rw (plain s).1 at h))

-- and for a dmu of -infinity: ±0 is not below what is at most 0
zero_quotient : (mu : Float) (m : ℕ) (j : ℤ) → lt (neg mu ⊘ inf true) (fin true m j) ≡ false
unfolding lt neg div
zero_quotient nan m j = refl
zero_quotient (inf t) m j = refl
zero_quotient (fin false M K) m j = refl
zero_quotient (fin true M K) m j = le-ltb (m * up j * 1) (0 * 1 * down j) (omega arith)

-- 0.99 times the quotient is at least 0.99·e
far : (e mu d : Float) → T (fits binary64 e) → T (fits binary64 mu) → lt d c0 ≡ true → lt (e ⊗ neg d) mu ≡ true → lt (c0·99 ⊗ (neg mu ⊘ d)) (c0·99 ⊗ e) ≡ false
unfolding lt neg mul of_bits
far e mu nan f g n h = absurd (true≢false (sym n))
far e mu (inf false) f g n h = absurd (true≢false (sym n))
far e mu (fin false i k) f g n h = absurd (omega (arith, ltb-true (i * up k * 1) (0 * down k) n))
far nan mu (inf true) f g n h = absurd (true≢false (sym h))
far nan mu (fin true i k) f g n h = absurd (true≢false (sym h))
far (inf true) mu (inf true) f g n h = lowest (c0·99 ⊗ (neg mu ⊘ inf true))
far (inf true) mu (fin true i k) f g n h = lowest (c0·99 ⊗ (neg mu ⊘ fin true i k))
far (inf false) mu (inf true) f g n h = absurd (clash h (highest mu))
far (inf false) mu (fin true i k) f g n h = absurd (clash h (no_top (eqb i 0) mu))
far (fin false m j) mu (inf true) f g n h = absurd (clash h (no_top (eqb m 0) mu))
far (fin true m j) mu (inf true) f g n h = times_keeps true m j (neg mu ⊘ inf true) (zero_quotient mu m j)
far (fin s m j) mu (fin true i k) f g n h =
    times_keeps s m j (neg mu ⊘ fin true i k) (quotient_of_lem s m j mu i k (first_pos i (up k) (omega (arith, ltb-true 0 (i * up k * 1 + 0 * down k) n))) f g h)

-- ---- THE LAW: past an edge of the step, mu caps nothing
pub uncapped : (step e mu d : Float) → T (fits binary64 e) → T (fits binary64 mu) → is_nan step ≡ false → Edge step e → lt (e ⊗ neg d) mu ≡ true → step ≡ step_cap_by step mu d
unfolding step_cap_by min_of
uncapped step e mu d f g n h k = go (lt d c0) refl
  where
    q : Float
    q = c0·99 ⊗ (neg mu ⊘ d)

    go : (b : Bool) → lt d c0 ≡ b → step ≡ cond b (cond (is_nan step) q (cond (lt q step) q step)) step
    go false o = refl
    go true o = rw (n, lt_through step (c0·99 ⊗ e) q (number step (c0·99 ⊗ e) h) (not_above step (c0·99 ⊗ e) (rw h tt)) (far e mu d f g o k))

-- infinity is an edge of every step
pub edge_top : (step : Float) → is_nan step ≡ false → Edge step infinity
unfolding le mul of_bits is_nan
edge_top nan n = absurd (true≢false n)
edge_top (inf true) n = refl
edge_top (inf false) n = refl
edge_top (fin s m e) n = refl
