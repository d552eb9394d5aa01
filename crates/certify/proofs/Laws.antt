-- Laws of certify: a point inside the bounds, and the dual point and D y where the pass reads them. Assumes nothing.
use mathlib.Core.Path.{◌≡◌, refl, sym, ap, ap₂, ◌∙◌}
use mathlib.Core.Bool.{Bool, true, false}
use mathlib.Core.List.{List}
use Prim.Native.Nat.{ℕ, ◌+◌, ◌-◌, ◌*◌, ◌≤◌, min}
use native.Mathlib.Omega.{arith}
use borrow.Author.Tests.{le-ltb, ltb-true}
use lib.Dec.{ltb}
use lib.ListN.{length, take, drop, length-take}
use lib.Ieee.{Float, nan, inf, fin, lt, neg, below, up as scaled, down}
use Rattle.float64.specs.Ops.{◌⊕◌, ◌⊗◌, half}
use Rattle.float64.specs.Helpers.{abs_of, clamp_of}
use Rattle.float64.proofs.Clash.{clash}
use Rattle.vectors.specs.Vec.{at, put}
use Rattle.vectors.specs.Sums.{inside}
use Rattle.vectors.proofs.Laws.{list_ext, list_is}
use Rattle.vectors.proofs.Parts.{range_part, length_part, part_above}
use Rattle.vectors.proofs.Texts.{put_start}
use Rattle.vectors.proofs.Sums.{inside-at}
use Rattle.differences.specs.Diff.{diff_k}
use Rattle.differences.proofs.Laws.{length-diff_k}
use Rattle.certificate.specs.Certificate.{clamped, dual_value}
use Rattle.certificate.specs.Run.{dual_of, Beside, Summed, Certified}
use Rattle.certificate.specs.Ready.{Ready}
use Rattle.certificate.specs.declared.Sums.{Sums}
use Rattle.certificate.proofs.Laws.{length-clamped, certified}

-- ---- a point inside the bounds is its own clamped point

under : (s : Bool) (a b : ℕ) → ltb a b ≡ true → (below s a true b ≡ false) × (below false b s a ≡ false)
under true a b h = (le-ltb b a (omega (arith, ltb-true a b h)), refl)
under false a b h = (refl, le-ltb b a (omega (arith, ltb-true a b h)))

pub clamp_inside : (z lam : Float) → lt (abs_of z) lam ≡ true → clamp_of z lam ≡ z
unfolding lt abs_of clamp_of neg
clamp_inside nan lam h = absurd (clash h refl)
clamp_inside (inf s) nan h = absurd (clash h refl)
clamp_inside (inf s) (inf t) h = absurd (clash h refl)
clamp_inside (inf s) (fin t n d) h = absurd (clash h refl)
clamp_inside (fin s m e) nan h = absurd (clash h refl)
clamp_inside (fin s m e) (inf true) h = absurd (clash h refl)
clamp_inside (fin s m e) (inf false) h = refl
clamp_inside (fin s m e) (fin true n d) h = absurd (clash h refl)
clamp_inside (fin s m e) (fin false n d) h =
    let u = under s (m * scaled e * down d) (n * scaled d * down e) h in
    rw (u.0, u.1)

pub clamped-inside : (lam : Float) (z : List Float) → inside lam z ≡ true → clamped lam z ≡ z
unfolding clamped
clamped-inside lam z h =
    list_ext (length z) (λ i. clamp_of (at z i) lam) (at z) (λ i l. clamp_inside (at z i) lam (inside-at lam z (length z) i h l)) ∙ sym (list_is nan z)

-- the clamped z at the start of d, as a part that is lent
pub clamped_first : (lam : Float) (z d₀ d : List Float) → length z ≤ length d₀ → d ≡ put d₀ 0 (clamped lam z) → take (length z - 0) (drop 0 d) ≡ clamped lam z
clamped_first lam z d₀ d fits e =
    let h = put_start (length z) d₀ (clamped lam z) d e (length-clamped lam z) fits in
    let size = h.1.size in
    range_part 0 (length z) (length z) d (omega arith) (omega arith) ∙ h.0

-- ---- the whole certificate

-- a vector whose first m places are c has m places
room : (b c : List Float) (m : ℕ) → take m b ≡ c → length c ≡ m → m ≤ length b
room b c m e h = let l : min m (length b) ≡ m = sym (length-take m b) ∙ ap length e ∙ h in omega arith

-- D y has its places in dy
pub beside : {k places : ℕ} {y dy : List Float} → Ready k y dy (length y + (length y - k)) places → Beside k (length y) places (length dy)
beside {k} {y = y} {dy = dy} r = record { series = r.series; room = r.room; long = room dy (diff_k k y) (length y - k) r.known (length-diff_k k y) }

-- the trend has been written into s₀, with its sums c
module _ {k : ℕ} {y dy s₀ s : List Float} {c : Sums} (r : Ready k y dy (length y + (length y - k)) (length s₀)) (t : Summed k y dy s₀ s c) where
  -- the dual point after the trend, as a part that is lent
  pub point : take (length y + (length y - k) - length y) (drop (length y) s) ≡ dual_of k y s₀
  point =
      let size = t.kept.size in
      range_part (length y) (length y + (length y - k)) (length y - k) s refl (omega arith)
      ∙ part_above nan (length y) (length y - k) t.kept (omega arith)

  pub length-point : length (take (length y + (length y - k) - length y) (drop (length y) s)) ≡ length y - k
  length-point = ap length point ∙ length_part (length y) (length y - k) s₀

  -- a dual point that is its own clamped point, for which d₀ has room
  pub certified_inside : (lam : Float) (d₀ d : List Float) → length y - k ≤ length d₀ → {p : Float} → p ≡ half ⊗ c.squares ⊕ lam ⊗ c.dx → inside lam (dual_of k y s₀) ≡ true
      → d ≡ put d₀ 0 (take (length y + (length y - k) - length y) (drop (length y) s)) → Certified k y lam s₀ s d₀ d p (neg half ⊗ c.squares ⊕ c.dot)
  certified_inside lam d₀ d fits isp h e =
      let own = clamped-inside lam (dual_of k y s₀) h in
      certified r t lam d₀ d fits isp
      (ap₂ (λ (u v : Float). neg half ⊗ u ⊕ v) t.squared t.multiplied ∙ ap (dual_value k dy) (sym own))
      (e ∙ ap (put d₀ 0) (point ∙ sym own))
