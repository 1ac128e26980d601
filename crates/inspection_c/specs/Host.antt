-- An entry as a host program gets it. Assumes nothing.
use Rattle.std.specs.Prelude.{Some, None, Option}
use Rattle.ledger.specs.declared.row.Entry.{Entry}
use Rattle.inspection_c.specs.declared.HostEntry.{HostEntry}

abbrev pub numbers : Option Entry → HostEntry
numbers (Some e) = record {
  found = 1;
  group = e.group;
  kind = e.kind;
  order_type = e.order_type;
  order_first = e.order.first;
  order_rest = e.order.rest;
  new_broker = e.new_broker;
  new_account = e.new_account;
  quantity = e.quantity;
  price = e.price;
  trade_number = e.trade_number;
  running_quantity = e.running_quantity;
  running_amount = e.running_amount;
  type_quantity = e.type_quantity;
  type_amount = e.type_amount;
}
numbers None = record {
  found = 0;
  group = 0;
  kind = 0;
  order_type = 0;
  order_first = 0;
  order_rest = 0;
  new_broker = 0;
  new_account = 0;
  quantity = 0;
  price = 0;
  trade_number = 0;
  running_quantity = 0;
  running_amount = 0;
  type_quantity = 0;
  type_amount = 0;
}
