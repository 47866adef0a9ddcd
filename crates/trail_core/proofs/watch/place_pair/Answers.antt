use Rattle.trail_core.proofs.Placing.{second_room, place_room, place_gives}
use Rattle.trail_core.proofs.watch.place_pair.Goals as goal

pub push_number-requires-clause-within : goal.push_number-requires-clause-within
push_number-requires-clause-within c = c.requires.may.first

pub push_number-requires-clause-room : goal.push_number-requires-clause-room
push_number-requires-clause-room c = (second_room c.args.watches.now c.args.watches.now c.args.pair c.args.number c.requires.may).0

pub push_number-requires-2-clause-within : goal.push_number-requires-2-clause-within
push_number-requires-2-clause-within c = ((second_room c.args.watches.now c.push_number.new.watches c.args.pair c.args.number c.requires.may).1 c.push_number.ensures).0

pub push_number-requires-2-clause-room : goal.push_number-requires-2-clause-room
push_number-requires-2-clause-room c = ((second_room c.args.watches.now c.push_number.new.watches c.args.pair c.args.number c.requires.may).1 c.push_number.ensures).1

pub keep_pair-requires : goal.keep_pair-requires
keep_pair-requires c = place_room c.args.watches.now c.push_number.new.watches c.push_number-2.new.watches c.args.pair c.args.number c.push_number.ensures c.push_number-2.ensures c.requires.room

pub returns : goal.returns
returns c = place_gives c.args.watches.now c.push_number.new.watches c.push_number-2.new.watches c.keep_pair.new.watches c.args.number c.args.pair c.requires.may.apart c.push_number.ensures c.push_number-2.ensures c.keep_pair.ensures
