use Rattle.std.proofs.Common.{◌-◌, rules}
use Rattle.ledger.proofs.Closing.{front-rest}
use Rattle.ledger.proofs.table.calls.TableLedger.remove.Goals as goal

pub returns-clause-rest : goal.returns-clause-rest
returns-clause-rest c = let t = c.close_up-self in let all = c.args.self.now in front-rest all.entries.now t.new.entries _ (all.len - 0) t.result (search rules) t.ensures.rest t.ensures.bound t.auto.entries
