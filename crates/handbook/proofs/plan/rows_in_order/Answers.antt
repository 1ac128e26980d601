use Rattle.std.proofs.Common.{length, arith}
use Rattle.std.proofs.lemmas.Iterator.{YieldsList-from_slice, YieldsList-from_any_map}
use Rattle.std.proofs.lemmas.Iterator.Adapters.{at_most_from_yields_List}
use Rattle.std.proofs.lemmas.Iterator.Consumers.{YieldsList-at}
use Rattle.families.specs.Tables.{plan_row}
use Rattle.forms.specs.Replies.{row_says}
use Rattle.forms.proofs.Rows.{length-records}
use Rattle.handbook.proofs.plan.rows_in_order.Goals as goal

-- four rows of 150 bytes
pub put_forms_from-requires-clause-room : goal.put_forms_from-requires-clause-room
put_forms_from-requires-clause-room g c =
    let four = at_most_from_yields_List {n = 4} (YieldsList-from_any_map _ (YieldsList-at c.map-rows.ensures.source (YieldsList-from_slice _ c.iter.ensures.rest))) (omega arith) in
    λ xs t y. omega (arith, four.runs xs t y, length-records (λ r f. row_says r f.item) plan_row xs)
