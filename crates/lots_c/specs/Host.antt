-- Two runs as a host program gets them. Assumes nothing.
use Rattle.lots.specs.Split.{Run, quantity, price}
use Rattle.lots_c.specs.declared.HostRuns.{HostRuns}

abbrev pub numbers : Run × Run → HostRuns
numbers r = record { first_quantity = quantity r.0; first_price = price r.0; second_quantity = quantity r.1; second_price = price r.1 }
