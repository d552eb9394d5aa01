-- Values whose sign is clear, and NaN: products of two, sums of two and squares are such values. And where a gap is not at most tol times such a primal objective, the gap is a NaN or above zero.
use mathlib.Core.Path.{◌≡◌, sym, ap, ◌∙◌, subst}
use Prim.Native.Nat.{ℕ, zero, suc, ◌+◌, ◌*◌, ◌^◌, ◌≤◌}
use native.Mathlib.Nat.{zero-mul, zero-lt-suc}
use native.Mathlib.Omega.{arith}
use mathlib.Core.Bool.{Bool, true, false, not, ◌&&◌, ◌||◌, cond, true≢false}
use lib.Dec.{T, not_T, ltb, eqb, ltb→lt, nltb→le, lt→ltb, eqb→eq}
use lib.Ieee.{Float, nan, inf, fin, Format, prec, emax, low, unlike, up, down, odd, units, round, add, sub, mul, le, is_nan}
use lib.Ieee.Bits.{cond_no}
use lib.Ieee.Fits.{round_is, eq→eqb}
use lib.Ieee.Exact.{HasValue, odd_sign}
use lib.Ieee.Positive.{positive, above}
use Rattle.search.specs.Demand3.{clear}

-- clear, and not NaN
abbrev pub at_least0 : Float → Bool
at_least0 nan = false
at_least0 (inf s) = not s
at_least0 (fin s m e) = not s

pub weaken : (x : Float) → T (at_least0 x) → T (clear x)
weaken nan t = tt
weaken (inf s) t = t
weaken (fin s m e) t = t

of_value : (x : Float) (a c : ℕ) → HasValue x false a c → T (at_least0 x)
of_value nan a c h = h
of_value (inf s) a c h = absurd h
of_value (fin true m e) a c h = absurd (true≢false h.0)
of_value (fin false m e) a c h = tt

units-clear : (f : Format) (q k : ℕ) → T (at_least0 (units f false q k))
unfolding units
units-clear f q k = go (ltb (q * 2 ^ k) (2 ^ (low f + suc (emax f))))
  where
    go : (b : Bool) → T (at_least0 (cond b (odd (suc (prec f)) false q k (low f)) (inf false)))
    go true = of_value (odd (suc (prec f)) false q k (low f)) (q * 2 ^ k) (2 ^ low f) (odd_sign (suc (prec f)) false q k (low f))
    go false = tt

pub round-clear : (f : Format) (a c : ℕ) → T (at_least0 (round f false a c))
round-clear f a c = subst (λ (x : Float). T (at_least0 x)) (sym (round_is f false a c)) (units-clear f _ _)

cond-clear : (b : Bool) (x y : Float) → T (clear x) → T (clear y) → T (clear (cond b x y))
cond-clear true x y h k = h
cond-clear false x y h k = k

pub mul-clear : (f : Format) (x y : Float) → T (clear x) → T (clear y) → T (clear (mul f x y))
unfolding mul
mul-clear f nan y h k = tt
mul-clear f (inf true) y h k = absurd h
mul-clear f (inf false) nan h k = tt
mul-clear f (inf false) (inf true) h k = absurd k
mul-clear f (inf false) (inf false) h k = tt
mul-clear f (inf false) (fin true n d) h k = absurd k
mul-clear f (inf false) (fin false n d) h k = cond-clear (eqb n 0) nan (inf false) tt tt
mul-clear f (fin true m e) y h k = absurd h
mul-clear f (fin false m e) nan h k = tt
mul-clear f (fin false m e) (inf true) h k = absurd k
mul-clear f (fin false m e) (inf false) h k = cond-clear (eqb m 0) nan (inf false) tt tt
mul-clear f (fin false m e) (fin true n d) h k = absurd k
mul-clear f (fin false m e) (fin false n d) h k = weaken (round f false (m * up e * (n * up d)) (down e * down d)) (round-clear f (m * up e * (n * up d)) (down e * down d))

pub square_clear : (f : Format) (x : Float) → T (clear (mul f x x))
unfolding mul
square_clear f nan = tt
square_clear f (inf true) = tt
square_clear f (inf false) = tt
square_clear f (fin true m e) = weaken (round f false (m * up e * (m * up e)) (down e * down e)) (round-clear f (m * up e * (m * up e)) (down e * down e))
square_clear f (fin false m e) = weaken (round f false (m * up e * (m * up e)) (down e * down e)) (round-clear f (m * up e * (m * up e)) (down e * down e))

pub add-clear : (f : Format) (x y : Float) → T (clear x) → T (clear y) → T (clear (add f x y))
unfolding add
add-clear f nan y h k = tt
add-clear f (inf true) y h k = absurd h
add-clear f (inf false) nan h k = tt
add-clear f (inf false) (inf true) h k = absurd k
add-clear f (inf false) (inf false) h k = tt
add-clear f (inf false) (fin t n d) h k = tt
add-clear f (fin true m e) y h k = absurd h
add-clear f (fin false m e) nan h k = tt
add-clear f (fin false m e) (inf true) h k = absurd k
add-clear f (fin false m e) (inf false) h k = tt
add-clear f (fin false m e) (fin true n d) h k = absurd k
add-clear f (fin false m e) (fin false n d) h k = weaken (round f false (m * up e * down d + n * up d * down e) (down e * down d)) (round-clear f (m * up e * down d + n * up d * down e) (down e * down d))

-- ---- the stopping test
-- tol times an infinity is that infinity
pub infinite_product : (f : Format) (a : Float) (s : Bool) → T (positive a) → mul f a (inf s) ≡ inf (unlike false s)
unfolding mul
infinite_product f nan s p = absurd p
infinite_product f (inf t) s p = absurd p
infinite_product f (fin true m e) s p = absurd p
infinite_product f (fin false m e) s p = cond_no (eqb m 0) nan (inf (unlike false s)) (not_T (eqb m 0) (λ z. omega (arith, ltb→lt 0 m p, eqb→eq m 0 z)))

-- tol times a clear value that is no NaN is such a value
pub scaled : (f : Format) (tol P : Float) → T (positive tol) → T (at_least0 P) → T (at_least0 (mul f tol P))
unfolding mul
scaled f nan P p h = absurd p
scaled f (inf s) P p h = absurd p
scaled f (fin true m e) P p h = absurd p
scaled f (fin false m e) nan p h = h
scaled f (fin false m e) (inf true) p h = absurd h
scaled f (fin false m e) (inf false) p h = subst (λ (x : Float). T (at_least0 x)) (sym (infinite_product f (fin false m e) false p)) tt
scaled f (fin false m e) (fin true n d) p h = absurd h
scaled f (fin false m e) (fin false n d) p h = round-clear f (m * up e * (n * up d)) (down e * down d)

neither : (a b : Bool) → T (not (a || b)) → T (not a) × T (not b)
neither true b t = absurd t
neither false b t = (tt, t)

zero-sum : (a b : ℕ) → a + b ≤ 0 → (a ≡ 0) × (b ≡ 0)
zero-sum a b h = omega arith

and_no : (a b : Bool) → T a → T b → T (not (a && b)) → ⊥
and_no true true t u v = v
and_no true false t u v = u
and_no false b t u v = t

pub minus_below : (a b : ℕ) → T (not (ltb 0 (a + b) || (eqb a b && (false || eqb a 0)))) → ⊥
minus_below a b t =
    let n = neither (ltb 0 (a + b)) (eqb a b && (false || eqb a 0)) t in
    let z = zero-sum a b (nltb→le 0 (a + b) n.0) in
    and_no (eqb a b) (eqb a 0) (eq→eqb (z.0 ∙ sym z.1)) (eq→eqb z.0) n.1

zero_below : (a b : ℕ) → a ≡ 0 → T (not (ltb a b || (eqb a b && true))) → ⊥
zero_below a b e t =
    let n = neither (ltb a b) (eqb a b && true) t in
    let l : b ≤ a = nltb→le a b n.0 in
    let q : a ≡ b = omega arith in
    and_no (eqb a b) true (eq→eqb q) tt n.1

no_product : (u w : ℕ) → 0 * u * w ≡ 0
no_product u w = ap (λ (x : ℕ). x * w) (zero-mul u) ∙ zero-mul w

-- what is not at most a value that is not below 0 is a NaN or above 0
pub awake : (g x : Float) → T (at_least0 x) → T (not (le g x)) → T (is_nan g || above g)
unfolding le is_nan
awake nan x h t = tt
awake (inf true) nan h t = absurd h
awake (inf true) (inf true) h t = absurd h
awake (inf true) (inf false) h t = absurd t
awake (inf true) (fin s m e) h t = absurd t
awake (inf false) x h t = tt
awake (fin true m e) nan h t = absurd h
awake (fin true m e) (inf true) h t = absurd h
awake (fin true m e) (inf false) h t = absurd t
awake (fin true m e) (fin true n d) h t = absurd h
awake (fin true m e) (fin false n d) h t = absurd (minus_below (m * up e * down d) (n * up d * down e) t)
awake (fin false zero e) nan h t = absurd h
awake (fin false zero e) (inf true) h t = absurd h
awake (fin false zero e) (inf false) h t = absurd t
awake (fin false zero e) (fin true n d) h t = absurd h
awake (fin false zero e) (fin false n d) h t = absurd (zero_below (0 * up e * down d) (n * up d * down e) (no_product (up e) (down d)) t)
awake (fin false (suc m) e) x h t = lt→ltb 0 (suc m) (zero-lt-suc m)

-- a gap that does not stop the search is a NaN or above 0
pub goes_on : (f : Format) (tol P D : Float) → T (positive tol) → T (clear P) → T (not (le (sub f P D) (mul f tol P))) → T (is_nan (sub f P D) || above (sub f P D))
goes_on f tol nan D p h t = unfold sub is_nan in tt
goes_on f tol (inf s) D p h t = awake (sub f (inf s) D) (mul f tol (inf s)) (scaled f tol (inf s) p h) t
goes_on f tol (fin s m e) D p h t = awake (sub f (fin s m e) D) (mul f tol (fin s m e)) (scaled f tol (fin s m e) p h) t
