-- `wire::state_bytes::write_state` meets its contract. Assumes nothing.
use Rattle.text.proofs.Base.{◌≡◌, length, rules, refl}
use Rattle.wire.proofs.WordLaws.{both_written, flags_in, second_long}
use Rattle.wire.proofs.state_bytes.write_state.Goals as goal

pub write-requires-2 : goal.write-requires-2
write-requires-2 c = second_long c.args.state.now _ _ c.args.queue.now c.requires.0 c.write.ensures refl (search rules)

pub returns : goal.returns
returns c =
    -- found before the places have names: they are more records than a search looks at
    let long : length c.args.queue.now ≡ 1024 = search rules in
    flags_in _ _ _ c.from.ensures c.from-2.ensures c.from-3.ensures c.from-4.ensures (both_written c.args.state.now _ _ c.args.queue.now c.requires.0 c.write.ensures refl long _ c.write-2.ensures)
