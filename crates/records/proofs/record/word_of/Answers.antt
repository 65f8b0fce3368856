use Rattle.std.proofs.Common.{◌≡◌, codes, sym, ap, arith}
use Rattle.std.proofs.lemmas.Slice.Eq.{text_from_reads}
use Rattle.records.specs.Words.{word_of}
use Rattle.records.proofs.record.word_of.Goals as goal

pub returns-in-game-2 : goal.returns-in-game-2
returns-in-game-2 c =
    let text : c.args.field.now ≡ codes "expansion" = text_from_reads c.args.field.now (codes "expansion") (omega arith) (omega arith, (omega arith, (omega arith, (omega arith, (omega arith, (omega arith, (omega arith, (omega arith, (omega arith, tt))))))))) in
    sym (ap word_of text)

pub returns-in-game : goal.returns-in-game
returns-in-game c =
    let text : c.args.field.now ≡ codes "game" = text_from_reads c.args.field.now (codes "game") (omega arith) (omega arith, (omega arith, (omega arith, (omega arith, tt)))) in
    sym (ap word_of text)

pub returns-in-place : goal.returns-in-place
returns-in-place c =
    let text : c.args.field.now ≡ codes "place" = text_from_reads c.args.field.now (codes "place") (omega arith) (omega arith, (omega arith, (omega arith, (omega arith, (omega arith, tt))))) in
    sym (ap word_of text)

pub returns-in-apart : goal.returns-in-apart
returns-in-apart c =
    let text : c.args.field.now ≡ codes "apart" = text_from_reads c.args.field.now (codes "apart") (omega arith) (omega arith, (omega arith, (omega arith, (omega arith, (omega arith, tt))))) in
    sym (ap word_of text)
