-- `calls::comments` meets its contract. Assumes nothing.
use Rattle.text.proofs.Base.{refl}
use Rattle.calls.proofs.{CallLaws.by_comments, CallLaws.made_ready}
use Rattle.calls.proofs.comments.Goals as goal

pub returns : goal.returns
returns c =
    made_ready c.stops.ensures refl
    (by_comments c.from.ensures c.release.ensures)
