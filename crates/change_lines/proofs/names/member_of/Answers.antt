use Rattle.std.proofs.Common.{map, rules}
use Rattle.design_core.specs.Works.{suspect_has}
use Rattle.change_lines.specs.Telling.{places_in}
use Rattle.change_lines.proofs.MemberLaws.{first-member}
use Rattle.change_lines.proofs.names.member_of.Goals as goal

pub returns-then-has : goal.returns-then-has
returns-then-has c =
    first-member (suspect_has (map places_in c.args.groups.now) c.args.place) c.args.members.now c.loop-member.member-index c.loop-member-test.true
    (first_of (cc, search rules)) c.loop-member.invariant
