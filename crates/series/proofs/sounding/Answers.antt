use Rattle.std.proofs.Common.{rules, ◌∙◌, is_some}
use borrow.Author.Tests.{tests}
use Rattle.std.proofs.lemmas.Iterator.{YieldsList-from_slice}
use Rattle.std.proofs.lemmas.Iterator.Consumers.{count_from_yields_List, YieldsList-from_filter}
use Rattle.series.proofs.Arrays.{count_sounding}
use Rattle.series.proofs.sounding.Goals as goal

pub returns : goal.returns
returns c =
    count_from_yields_List c.filter.result c.count.result c.count.ensures.ran (YieldsList-from_filter _ is_some (YieldsList-from_slice c.args.slots.now cc) c.filter.ensures.closure (λ x r q k. search (rules, tests)))
    ∙ count_sounding c.args.slots.now
