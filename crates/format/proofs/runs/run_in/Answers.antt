-- `format::runs::run_in` meets its contract. Assumes nothing.
use lib.ListN.{replicate, length-replicate}
use Rattle.entry.proofs.RoomLaws.{full_room, short_room}
use Rattle.steps.proofs.Rules.{ℕ}
use Rattle.format.proofs.runs.run_in.Goals as goal

pub run_over-requires : goal.run_over-requires
run_over-requires c = (short_room c.args.tree.now (replicate 2048 0) 512 c.if-tree-le-TINY.true (length-replicate {A = ℕ} 2048 0), c.requires)

pub returns-then-tree-le-TINY : goal.returns-then-tree-le-TINY
returns-then-tree-le-TINY c = c.run_over.ensures

pub run_over-requires-then-tree-le-SHORT : goal.run_over-requires-then-tree-le-SHORT
run_over-requires-then-tree-le-SHORT c = (short_room c.args.tree.now (replicate 8192 0) 2048 c.if-tree-le-SHORT.true (length-replicate {A = ℕ} 8192 0), c.requires)

pub returns-then-tree-le-SHORT : goal.returns-then-tree-le-SHORT
returns-then-tree-le-SHORT c = c.run_over-then-tree-le-SHORT.ensures

pub run_over-requires-2 : goal.run_over-requires-2
run_over-requires-2 c = (full_room c.args.tree.now (replicate 32768 0) (length-replicate {A = ℕ} 32768 0), c.requires)

pub returns : goal.returns
returns c = c.run_over-2.ensures
