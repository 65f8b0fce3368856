-- Amounts are a kind of span. Assumes nothing.
use Rattle.spans.specs.Kind.{Kind}
use Rattle.spans.specs.Amounts.{amount_admits, amount_size, no_amount, amount_meet}
use Rattle.spans.specs.AmountLaws.{amount_in_range, amount_same, meet_admits, amount_counts, least_admitted, least_first, none_admits}
use Rattle.spans.specs.declared.amount.Amount.{Amount}

abbrev pub amounts : Kind Amount
amounts = record {
  admits = amount_admits;
  meet = amount_meet;
  size = amount_size;
  least = λ a. a.floor;
  none = no_amount;
  within_range = amount_in_range;
  same = amount_same;
  meet_admits = meet_admits;
  size_counts = amount_counts;
  least_admitted = least_admitted;
  least_first = least_first;
  none_admits = none_admits;
}
