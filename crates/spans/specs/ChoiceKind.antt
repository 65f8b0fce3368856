-- Choices are a kind of span. Assumes nothing.
use Rattle.spans.specs.Kind.{Kind}
use Rattle.spans.specs.Choices.{choice_admits, choice_size, choice_least, no_choice, choice_meet}
use Rattle.spans.specs.ChoiceLaws.{choice_in_range, choice_same, choice_meet_admits, choice_counts, choice_least_admitted, choice_least_first, no_choice_admits}
use Rattle.spans.specs.declared.choice.Choice.{Choice}

abbrev pub choices : Kind Choice
choices = record {
  admits = choice_admits;
  meet = choice_meet;
  size = choice_size;
  least = choice_least;
  none = no_choice;
  within_range = choice_in_range;
  same = choice_same;
  meet_admits = choice_meet_admits;
  size_counts = choice_counts;
  least_admitted = choice_least_admitted;
  least_first = choice_least_first;
  none_admits = no_choice_admits;
}
