-- `reasons::why::of_opened` meets its contract. Assumes nothing.
use lib.ListN.{replicate, length-replicate}
use Rattle.text.proofs.Base.{ℕ}
use Rattle.entry.proofs.RoomLaws.{full_room}
use Rattle.reasons.proofs.WhyLaws.{over_table}
use Rattle.reasons.proofs.why.of_opened.Goals as goal

pub returns : goal.returns
returns c = over_table c.args.source.now c.args.tree.now (replicate 32768 0) _ c.decode-n.result c.args.k c.decode-n.ensures (full_room c.args.tree.now (replicate 32768 0) (length-replicate {A = ℕ} 32768 0)) c.requires c.first.ensures c.why_at.ensures
