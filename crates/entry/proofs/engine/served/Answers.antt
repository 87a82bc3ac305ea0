-- `entry::engine::served` meets its contract. Assumes nothing.
use Rattle.text.proofs.Base.{ℕ}
use lib.ListN.{replicate, length-replicate}
use Rattle.lent.proofs.MadeLaws.{keeps}
use Rattle.entry.proofs.{RoomLaws.full_room, ServeLaws.serve_asked}
use Rattle.entry.proofs.engine.served.Goals as goal

pub shape_of-out : goal.shape_of-out
shape_of-out c = keeps c.asked.ensures

pub returns : goal.returns
returns c =
    serve_asked c.args.source.now c.args.tree.now (replicate 32768 0) _ c.decode-n.result c.decode-n.ensures (full_room c.args.tree.now (replicate 32768 0) (length-replicate {A = ℕ} 32768 0)) c.args.s c.args.out.now
    c.opening.ensures _ c.started-fmt.ensures c.lent.ensures c.first.ensures _ c.asked.ensures c.left.ensures
