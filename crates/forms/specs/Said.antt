-- What a line tells: a filing, a deletion or a retention, with every part. Assumes nothing.
use Rattle.std.specs.Prelude.{ℕ, Bool, cond, ◌&&◌, List, length, Ok, Err, codes, Result, ◌==◌}
use Rattle.std.specs.Str.{bytes_eq}
use Rattle.layout.specs.Layouts.{told}
use Rattle.layout.specs.declared.field.Field.{Field}
use Rattle.layout.specs.declared.field.Item.TheVariants.{Broker, Account, Security, Kind, Date, Order, NewBroker, NewAccount, Quantity, Amount, OrderType, Code}
use Rattle.families.specs.Parts.{HeadingParts, FilingParts, RetentionParts, group_told, heading_by, filing_by, retention_by}
use Rattle.forms.specs.declared.telling.Told.{Told}
use Rattle.forms.specs.declared.telling.Told.TheVariants.{Filing, Deletion, Retention}
use Rattle.forms.specs.declared.telling.NotTold.{NotTold}
use Rattle.forms.specs.declared.telling.NotTold.TheVariants.{Length as WrongLength, Code as WrongCode}

-- a line by its parts
pub data Said : Type 0 where
  filing : FilingParts → Said
  deletion : HeadingParts → Said
  retention : RetentionParts → Said

-- what a value of the code holds
abbrev pub said_by : Result Told NotTold → Result Said NotTold
said_by (Err e) = Err e
said_by (Ok (Filing p)) = Ok (filing (filing_by p))
said_by (Ok (Deletion p)) = Ok (deletion (heading_by p))
said_by (Ok (Retention p)) = Ok (retention (retention_by p))

-- the parts of a line, by its layout
abbrev pub heading_in : List Field → List ℕ → HeadingParts
heading_in fs l = record { broker = told fs Broker l; group = group_told fs l; kind = told fs Kind l; date = told fs Date l }

abbrev pub filing_in : List Field → List ℕ → FilingParts
filing_in fs l = record {
  heading = heading_in fs l;
  order = told fs Order l;
  new_broker = told fs NewBroker l;
  new_account = told fs NewAccount l;
  quantity = told fs Quantity l;
  amount = told fs Amount l;
  order_type = told fs OrderType l;
}

abbrev pub retention_in : List Field → List ℕ → RetentionParts
retention_in fs l = record {
  broker = told fs Broker l;
  account = told fs Account l;
  date = told fs Date l;
  new_account = told fs NewAccount l;
}

-- code 2 deletes; code 1 retains where the family does and the security is ZZZZZZ, and files otherwise
abbrev pub said_in : List Field → Bool → List ℕ → Result Said NotTold
said_in fs retains l =
    cond (bytes_eq (told fs Code l) (codes "2")) (Ok (deletion (heading_in fs l)))
    (cond (bytes_eq (told fs Code l) (codes "1"))
    (cond (retains && bytes_eq (told fs Security l) (codes "ZZZZZZ"))
    (Ok (retention (retention_in fs l)))
    (Ok (filing (filing_in fs l))))
    (Err WrongCode))

-- a line of another length is told as such
abbrev pub said : List Field → ℕ → Bool → List ℕ → Result Said NotTold
said fs extent retains l = cond (length l == extent) (said_in fs retains l) (Err WrongLength)
