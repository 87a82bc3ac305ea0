-- `queue::release::release` meets its contract. Assumes nothing.
use Rattle.text.proofs.Base.{refl}
use Rattle.queue.proofs.{ReleaseLaws.release_idle}
use Rattle.queue.proofs.release.release.Goals as goal

pub returns-then-fmt-out : goal.returns-then-fmt-out
returns-then-fmt-out c = release_idle _ _ _ _ _ refl c.if-fmt-eq0.true refl c.if-fmt-out.true
