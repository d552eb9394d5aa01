use borrow.Author.Rules.{rules}
use lib.ListN.{length-set}
use Rattle.banded.proofs.Storing.{stored_1}
use Rattle.banded.proofs.store1.Statement.{statement}
use Rattle.banded.proofs.store1.Tie as tie

slice-write-s-2 : tie.Need-bounds-s-p-2
slice-write-s-2 c = simp length-set (search rules)

slice-write-s-3 : tie.Need-bounds-s-q
slice-write-s-3 c = simp length-set (search rules)

returns : tie.Need-returns
returns c = let a = c.args in
    stored_1 a.m a.r a.s.now a.a a.b a.x c.requires

pub store1_spec : {M : Type 1} → statement M
store1_spec =
    tie.close
    (tie.spec (λ c. search rules) (λ c. search rules) (λ c. search rules) (λ c. search rules) (λ c. search rules)
    (λ c. search rules) (λ c. search rules) slice-write-s-2 (λ c. search rules) slice-write-s-3
    (λ c. search rules) returns)
