-- The certificate that is kept after a polish. Assumes nothing.
use mathlib.Core.Path.{◌≡◌, refl, sym, ap, subst, ◌∙◌}
use mathlib.Core.Bool.{Bool, true, false, cond}
use mathlib.Core.List.{List}
use mathlib.Core.Option.{Option, none, some}
use Prim.Native.Nat.{ℕ, ◌≤◌}
use lib.ListN.{length}
use Rattle.std.specs.Prelude.{Option as Code, Some, None, unwrap_or, is_some as there_is}
use Rattle.float64.proofs.Clash.{impossible}
use lib.Ieee.{Float, nan}
use Rattle.vectors.specs.Vec.{put, KeptOf}
use Rattle.vectors.specs.Parts.{part}
use Rattle.vectors.proofs.Laws.{kept_none}
use Rattle.vectors.proofs.Texts.{put_start}
use Rattle.certificate.specs.Certificate.{Certificate, gap_of}
use Rattle.dual_point.specs.Lanes.{candidate_trend}
use Rattle.polish.specs.declared.Candidate.{Candidate}
use Rattle.polish.specs.Places.{is_some, Rated, wins}
use Rattle.questions.specs.Questions.{Asked}
use Rattle.fit.specs.Fit.{places, certificate_at, replaces, polished}

-- what is read of one of two certificates
choose : {A : Type 0} (f : Certificate → A) (b : Bool) (p c : Certificate) → cond b (f p) (f c) ≡ f (cond b p c)
choose f true p c = refl
choose f false p c = refl

-- the same of one of two candidates
pick : {A : Type 0} (f : Candidate → A) (b : Bool) (p c : Candidate) → f (cond b p c) ≡ cond b (f p) (f c)
pick f true p c = refl
pick f false p c = refl

-- the numbers of q if it won, and else the iterate's, i
abbrev pub end_of : Code Candidate → Candidate → Candidate
end_of q i = cond (wins q i.gap) (unwrap_or q i) i

-- gap, P, trend and clamped z of the certificate that is kept: q, s and d tell of the candidate, the others of the iterate's certificate c
pub record Kept (a : Asked) (c : Certificate) (q : Code Candidate) (s d : List Float) (i : Candidate) (x z : List Float) (o : Option (List Float)) : Type 0 where
  pub gap_is : (end_of q i).gap ≡ gap_of (polished a c o)
  pub primal_is : (end_of q i).primal ≡ (polished a c o).primal
  pub trend_is : cond (wins q i.gap) (part (candidate_trend (length a.y)) (length a.y) s) x ≡ (polished a c o).trend
  pub dual_is : cond (wins q i.gap) (part 0 (places a) d) z ≡ (polished a c o).zc

module _ (a : Asked) (c : Certificate) (s d : List Float) (i : Candidate) (x y : List Float)
    (eg : i.gap ≡ gap_of c) (ep : i.primal ≡ c.primal) (et : x ≡ c.trend) (ez : y ≡ c.zc) where
  pub kept_of_lem : (q : Code Candidate) (o : Option (List Float)) → there_is q ≡ is_some o
      → ((z : List Float) → o ≡ some z → (r : Candidate) → q ≡ Some r → Rated a.order a.y a.lam s d z r) → Kept a c q s d i x y o
  unfolding polished
  kept_of_lem None none e h = record { gap_is = eg; primal_is = ep; trend_is = et; dual_is = ez }
  kept_of_lem (Some r) none e h = impossible cc
  kept_of_lem None (some z) e h = impossible cc
  kept_of_lem (Some r) (some z) e h =
      let p = certificate_at a z in
      let k = h z refl r refl in
      let b : wins (Some r) i.gap ≡ replaces p c = rw (k.gap, eg) in
      record {
        gap_is = pick (λ t. t.gap) (wins (Some r) i.gap) r i ∙ rw (b, k.gap, eg) (choose gap_of (replaces p c) p c);
        primal_is = pick (λ t. t.primal) (wins (Some r) i.gap) r i ∙ rw (b, k.primal, ep) (choose (λ d. d.primal) (replaces p c) p c);
        trend_is = rw (b, k.trend, et) (choose (λ d. d.trend) (replaces p c) p c);
        dual_is = rw (b, k.dual, ez) (choose (λ d. d.zc) (replaces p c) p c);
      }

-- t at the start of d again, unless the candidate won
pub kept_dual : (b : Bool) (m : ℕ) (t d₀ d : List Float) → d ≡ cond b d₀ (put d₀ 0 t) → length t ≡ m → m ≤ length d₀ → (part 0 m d ≡ cond b (part 0 m d₀) t) × KeptOf nan 0 m d₀ d
kept_dual true m t d₀ d e l h = (ap (part 0 m) e, subst (KeptOf nan 0 m d₀) (sym e) (kept_none 0 m d₀))
kept_dual false m t d₀ d e l h = put_start m d₀ t d e l h
