-- What lines tell, part by part. Assumes nothing.
use Rattle.std.specs.Prelude.{ℕ, List}
use Rattle.layout.specs.Layouts.{told}
use Rattle.layout.specs.declared.field.Field.{Field}
use Rattle.layout.specs.declared.field.Item.TheVariants.{Account, Security, Side}
use Rattle.families.specs.declared.parts.GroupFields.{GroupFields}
use Rattle.families.specs.declared.parts.LineHeading.{LineHeading}
use Rattle.families.specs.declared.parts.FilingLine.{FilingLine}
use Rattle.families.specs.declared.parts.RetentionLine.{RetentionLine}

-- what names a group
pub record GroupParts : Type 0 where
  pub account : List ℕ
  pub security : List ℕ
  pub side : List ℕ

-- what names a line's broker, its group with the kind, and its day; of a deletion nothing else counts
pub record HeadingParts : Type 0 where
  pub broker : List ℕ
  pub group : GroupParts
  pub kind : List ℕ
  pub date : List ℕ

pub record FilingParts : Type 0 where
  pub heading : HeadingParts
  pub order : List ℕ
  pub new_broker : List ℕ
  pub new_account : List ℕ
  pub quantity : List ℕ
  pub amount : List ℕ
  pub order_type : List ℕ

pub record RetentionParts : Type 0 where
  pub broker : List ℕ
  pub account : List ℕ
  pub date : List ℕ
  pub new_account : List ℕ

-- what values of the code hold
abbrev pub group_by : GroupFields → GroupParts
group_by g = record { account = g.account.now; security = g.security.now; side = g.side.now }

abbrev pub heading_by : LineHeading → HeadingParts
heading_by h = record { broker = h.broker.now; group = group_by h.group; kind = h.kind.now; date = h.date.now }

abbrev pub filing_by : FilingLine → FilingParts
filing_by p = record {
  heading = heading_by p.heading;
  order = p.order.now;
  new_broker = p.new_broker.now;
  new_account = p.new_account.now;
  quantity = p.quantity.now;
  amount = p.amount.now;
  order_type = p.order_type.now;
}

abbrev pub retention_by : RetentionLine → RetentionParts
retention_by p = record { broker = p.broker.now; account = p.account.now; date = p.date.now; new_account = p.new_account.now }

-- what a record of a layout names
abbrev pub group_told : List Field → List ℕ → GroupParts
group_told fs l = record { account = told fs Account l; security = told fs Security l; side = told fs Side l }
