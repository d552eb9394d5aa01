-- `square_root::rooted` meets its contract. Assumes nothing.
use mathlib.Core.Path.{sym, subst}
use Prim.Native.Nat.{ℕ}
use native.Mathlib.Omega.{arith}
use borrow.Author.Rules.{rules}
use Rattle.square_root.proofs.Root.{Root, isqrt_root}
use Rattle.square_root.proofs.Newton.{Ranges, ranges, last_up, last_stays}
use Rattle.square_root.proofs.rooted.Statement.{statement}
use Rattle.square_root.proofs.rooted.Tie as tie

module _ (c : tie.After-whole_root-s) where
  abbrev w : ℕ
  w = c.before.args.w

  abbrev s : ℕ
  s = c.whole_root-s.result

  is_root : Root w s
  is_root = subst (Root w) (sym c.whole_root-s.ensures) (isqrt_root w)

  fits : Ranges w s
  fits = ranges w s is_root (omega arith) (omega arith)

mul-t : tie.Need-overflow_mul-t
mul-t c = let k = fits c in omega arith

sub-t : tie.Need-overflow_sub-t
sub-t c = let k = fits c in omega arith

mul-t-2 : tie.Need-overflow_mul-t-2
mul-t-2 c = let k = fits c in omega arith

mul-q : tie.Need-overflow_mul-q
mul-q c = let k = fits c in omega arith

div-q : tie.Need-nonzero_div-q
div-q c = let k = fits c in omega arith

mul-v : tie.Need-overflow_mul-v
mul-v c = let k = fits c in omega arith

rem-v : tie.Need-nonzero_rem-v
rem-v c = let k = fits c in omega arith

mul-v-2 : tie.Need-overflow_mul-v-2
mul-v-2 c = let k = fits c in omega arith

mul-root : tie.Need-overflow_mul-root
mul-root c = let k = fits c in omega arith

add-root : tie.Need-overflow_add-root
add-root c = let k = fits c in omega arith

mul-if1 : tie.Need-overflow_mul-q-2
mul-if1 c = let k = fits c in omega arith

add-if1 : tie.Need-overflow_add-root-2
add-if1 c = let k = fits c in omega arith

add-result : tie.Need-overflow_add-result
add-result c = let k = fits c.before in omega arith

returns : tie.Need-returns-then-root-q
returns c = let d = c.before in last_up (w d) (s d) (is_root d) (omega arith) (omega arith) c.if-root-q.true

returns-2 : tie.Need-returns-else-root-q
returns-2 c = let d = c.before in last_stays (w d) (s d) (is_root d) (omega arith) (omega arith) c.if-root-q.false

pub rooted_spec : {M : Type 1} → statement M
rooted_spec =
    tie.close
    (tie.spec (λ c κs. search rules) mul-t sub-t mul-t-2 mul-q div-q mul-v rem-v mul-v-2 mul-root add-root mul-if1 add-if1
    add-result returns returns-2)
