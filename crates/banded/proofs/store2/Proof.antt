use borrow.Author.Rules.{rules}
use lib.ListN.{length-set}
use Rattle.banded.proofs.Storing.{stored_2}
use Rattle.banded.proofs.store2.Statement.{statement}
use Rattle.banded.proofs.store2.Tie as tie

slice-write-s-2 : tie.Need-bounds-s-p-2
slice-write-s-2 c = simp length-set (search rules)

slice-write-s-3 : tie.Need-bounds-s-p-3
slice-write-s-3 c = simp length-set (search rules)

slice-write-s-4 : tie.Need-bounds-s-q
slice-write-s-4 c = simp length-set (search rules)

returns : tie.Need-returns
returns c = let a = c.args in
    stored_2 a.m a.r a.s.now a.a a.b a.x a.c c.requires

pub store2_spec : {M : Type 1} → statement M
store2_spec =
    tie.close
    (tie.spec (λ c. search rules) (λ c. search rules) (λ c. search rules) (λ c. search rules) (λ c. search rules)
    (λ c. search rules) (λ c. search rules) slice-write-s-2 (λ c. search rules) (λ c. search rules)
    slice-write-s-3 (λ c. search rules) slice-write-s-4 (λ c. search rules) returns)
