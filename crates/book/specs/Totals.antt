-- What comes of a total: the grounds on it, in the order of the checks, and what an accepted one does. Assumes nothing.
use Rattle.std.specs.Prelude.{ℕ, ◌*◌, Bool, false, cond, List, [], ◌∷◌, ◌++◌, length, is_some, unwrap_or, Some, None, Ok, Err, Option, ◌==◌}
use Rattle.octets.specs.Digits.{number_in}
use Rattle.octets.specs.Options.{and_then}
use Rattle.lots.specs.Units.{shares_to_unit}
use Rattle.lots.specs.declared.units.Kind.{Kind}
use Rattle.lots.specs.declared.units.Kind.TheVariants.{BoardLot}
use Rattle.lots.specs.declared.units.UnitSize.TheVariants.{One}
use Rattle.layout.specs.Layouts.{told}
use Rattle.layout.specs.declared.field.Item.TheVariants.{Broker, Kind as KindItem, Date, Quantity, Amount}
use Rattle.families.specs.Parts.{group_told}
use Rattle.families.specs.Tables.{total_row}
use Rattle.forms.specs.Totals.{kind_in, group_in}
use Rattle.forms.specs.declared.contents.GroupName.{GroupName}
use Rattle.groups.specs.Groups.{nobody}
use Rattle.groups.specs.declared.kept.Group.{Group}
use Rattle.groups.specs.declared.kept.Total.{Total}
use Rattle.judge.specs.Grounds.{first_of}
use Rattle.judge.specs.Heading.{of_broker, of_date, number_named}
use Rattle.judge.specs.Totals.{TotalAsked, total_terms, total_grounds, placed_grounds}
use Rattle.judge.specs.declared.grounds.Ground.{Ground}
use Rattle.judge.specs.declared.grounds.Ground.TheVariants.{LineLength}
use Rattle.judge.specs.declared.totals.TotalTerms.{TotalTerms}
use Rattle.book.specs.Book.{Book, Outcome, refused_alone}

-- a total by a row, with the shares in a trading unit beside it
abbrev pub row_terms : List ℕ → ℕ → Option TotalTerms
row_terms row unit =
    and_then (number_in (told total_row Quantity row)) (λ q.
    and_then (number_in (told total_row Amount row)) (λ m.
    total_terms unit q m))

abbrev pub asked_by_row : Book → List ℕ → ℕ → TotalAsked
asked_by_row b row unit = record {
  of_broker = of_broker b.opened (told total_row Broker row);
  of_date = of_date b.opened (told total_row Date row);
  group = group_told total_row row;
  kind = kind_in (told total_row KindItem row);
  terms = row_terms row unit;
}

-- What a total names and says, or something in its place where a ground refuses it anyway.
abbrev pub number_of_total : Book → TotalAsked → Option ℕ
number_of_total b a = number_named b.rules b.groups a.group

abbrev pub name_of_total : Book → TotalAsked → GroupName
name_of_total b a = elim (group_in b.rules a.group) [ Ok name ↦ name | Err bad ↦ nobody ]

abbrev pub kind_of_total : TotalAsked → Kind
kind_of_total a = unwrap_or a.kind BoardLot

abbrev pub terms_of_total : TotalAsked → TotalTerms
terms_of_total a = unwrap_or a.terms (record { size = One; quantity = 0; amount = record { count = 0 } })

abbrev pub total_grounds_in : Book → TotalAsked → List (Ground × Bool)
total_grounds_in b a =
    total_grounds b.opened b.rules b.groups a ++
    placed_grounds b.groups b.totals (number_of_total b a) (kind_of_total a) (terms_of_total a)

-- the number of its group: that which it has, or else the next
abbrev pub number_given : Book → TotalAsked → ℕ
number_given b a = unwrap_or (number_of_total b a) (length b.groups)

abbrev pub groups_with : Book → TotalAsked → List Group
groups_with b a = cond (is_some (number_of_total b a)) b.groups (b.groups ++ record { name = name_of_total b a; size = (terms_of_total a).size; retained = false } ∷ [])

abbrev pub total_kept : Book → TotalAsked → Total
total_kept b a = record {
  group = number_given b a;
  kind = kind_of_total a;
  quantity = (terms_of_total a).quantity;
  shares = record { count = (terms_of_total a).quantity * shares_to_unit (kind_of_total a) (terms_of_total a).size };
  amount = (terms_of_total a).amount;
}

abbrev pub totalled : Book → TotalAsked → Outcome
totalled b a = record {
  answer = Ok (number_given b a);
  book = record b { groups = groups_with b a; totals = b.totals ++ total_kept b a ∷ [] };
  replies = [];
}

-- accepted exactly when none of the grounds applies, and else refused by the first that does
abbrev pub total_outcome : Book → TotalAsked → Outcome
total_outcome b a = elim (first_of (total_grounds_in b a)) [ Some g ↦ refused_alone b g | None ↦ totalled b a ]

-- a row of totals has 80 bytes, here as in `total_in` of forms
abbrev pub total_row_outcome : Book → List ℕ → ℕ → Outcome
total_row_outcome b row unit = cond (length row == 80) (total_outcome b (asked_by_row b row unit)) (refused_alone b LineLength)
