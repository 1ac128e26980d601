use Rattle.indexed.proofs.indexed.IndexedLedger.known_held.Goals as goal

pub returns : goal.returns
returns g c = c.held.ensures (g.L.Ledger.rows c.args.self.now.ledger) c.args.self.now.tells
