use Rattle.std.proofs.Common.{◌≡◌, ◌*◌, replicate, rules}
use Rattle.indexed.specs.Index.{empty_section}
use Rattle.indexed.proofs.Keeping.{Keeps-none}
use Rattle.indexed.proofs.index.Index.new.Goals as goal

pub returns-clause-tells : goal.returns-clause-tells
returns-clause-tells c = λ known.
    let sections : c.in_ok-from_elem.field-0.items ≡ replicate (2 * c.args.groups) (empty_section 0) = search rules in
    rw sections (Keeps-none (2 * c.args.groups) 0 c.in_ok-with_capacity.field-0 c.in_ok-with_capacity.ensures.empty)
