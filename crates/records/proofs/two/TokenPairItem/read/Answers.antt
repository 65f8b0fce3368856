use Rattle.records.proofs.Pairing.{tokens_made}
use Rattle.records.proofs.two.TokenPairItem.read.Goals as goal

pub unwrap-requires : goal.unwrap-requires
unwrap-requires c = tokens_made c.args.at _ c.args.first.now c.args.second.now _ _ c.in_ok-first.ensures c.in_ok-second.ensures _ c.new.ensures
