-- The laws of games and expansions, whole. Assumes nothing.
use Rattle.std.proofs.Common.{ℕ, List}
use Rattle.sheets.specs.declared.title.SpanKind.{SpanKind}
use Rattle.records.specs.Places.{Place}
use Rattle.readings.specs.Lines.{lines_of}
use Rattle.readings.specs.Laws.{GameLaw, ExpansionLaw}
use Rattle.readings.proofs.Firsts.{game_first, expansion_first}
use Rattle.readings.proofs.Rereading.{game_reads, game_unfaulted, expansion_reads, expansion_unfaulted}

pub game_law : (kind : SpanKind) (places rules : ℕ) (sheet : List ℕ) → GameLaw kind places rules sheet
game_law kind places rules sheet = record {
  reads = game_reads kind places rules sheet;
  unfaulted = game_unfaulted kind places rules sheet;
  first = game_first kind places rules (lines_of sheet);
}

pub expansion_law : (kind : SpanKind) (ps : List Place) (rules : ℕ) (sheet : List ℕ) → ExpansionLaw kind ps rules sheet
expansion_law kind ps rules sheet = record {
  reads = expansion_reads kind ps rules sheet;
  unfaulted = expansion_unfaulted kind ps rules sheet;
  first = expansion_first kind ps rules (lines_of sheet);
}
