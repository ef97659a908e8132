use Rattle.std.proofs.Common.{◌∙◌}
use Rattle.tables.specs.Bytes.{part}
use Rattle.rules.specs.Messages.{tagged, from_slot}
use Rattle.tags.proofs.Held.{held_as, filled, held_none, emptied, finish_in, report_in, ghost_in, route_in}
use Rattle.tags.proofs.read.Goals as goal

pub returns-in_default-clause-held : goal.returns-in_default-clause-held
returns-in_default-clause-held c = held_none _ _ _ c.head_at.ensures.row c.requires c.head_at.ensures.there c.in_default.ensures.1

pub returns-in_default-clause-full : goal.returns-in_default-clause-full
returns-in_default-clause-full c = emptied _ _ _ c.head_at.ensures.row c.requires c.head_at.ensures.there c.in_default.ensures.1

pub new-finish-requires : goal.new-finish-requires
new-finish-requires c = finish_in _ _ _ c.head_at.ensures.row c.requires c.head_at.ensures.there c.in-Ok.tag c.in-Ok.ensures

pub new-requires : goal.new-requires
new-requires c = report_in _ _ _ c.head_at.ensures.row c.requires c.head_at.ensures.there c.in-Ok.tag c.in-Ok.ensures c.in-Report.is

pub new-requires-in-GhostEnded : goal.new-requires-in-GhostEnded
new-requires-in-GhostEnded c = ghost_in _ _ _ c.head_at.ensures.row c.requires c.head_at.ensures.there c.in-Ok.tag c.in-Ok.ensures c.in-GhostEnded.is

pub new-requires-in_default-tag : goal.new-requires-in_default-tag
new-requires-in_default-tag c = (route_in _ _ _ c.head_at.ensures.row c.requires c.head_at.ensures.there c.in-Ok.tag c.in-Ok.ensures c.in_default-tag.not-Publish c.in_default-tag.not-Published c.in_default-tag.not-Report c.in_default-tag.not-Release c.in_default-tag.not-GhostEnded).0

pub new-requires-in_default-tag-2 : goal.new-requires-in_default-tag-2
new-requires-in_default-tag-2 c = (route_in _ _ _ c.head_at.ensures.row c.requires c.head_at.ensures.there c.in-Ok.tag c.in-Ok.ensures c.in_default-tag.not-Publish c.in_default-tag.not-Published c.in_default-tag.not-Report c.in_default-tag.not-Release c.in_default-tag.not-GhostEnded).1

pub returns-in-Publish-clause-held : goal.returns-in-Publish-clause-held
unfolding tagged
returns-in-Publish-clause-held c = rw c.new-finish.ensures (rw c.in-Publish.is at (held_as _ _ _ c.head_at.ensures.row c.in-Ok.tag c.in-Ok.ensures))

pub returns-in-Publish-clause-full : goal.returns-in-Publish-clause-full
returns-in-Publish-clause-full c = filled _ _ _ c.head_at.ensures.row c.in-Ok.tag c.in-Ok.ensures

pub returns-in-Published-clause-held : goal.returns-in-Published-clause-held
unfolding tagged
returns-in-Published-clause-held c = rw c.new-finish.ensures (rw c.in-Published.is at (held_as _ _ _ c.head_at.ensures.row c.in-Ok.tag c.in-Ok.ensures))

pub returns-in-Published-clause-full : goal.returns-in-Published-clause-full
returns-in-Published-clause-full c = filled _ _ _ c.head_at.ensures.row c.in-Ok.tag c.in-Ok.ensures

pub returns-in-Report-clause-held : goal.returns-in-Report-clause-held
unfolding tagged
returns-in-Report-clause-held c = rw (c.new-finish.ensures, c.new.ensures, c.counts_at.ensures) (rw c.in-Report.is at (held_as _ _ _ c.head_at.ensures.row c.in-Ok.tag c.in-Ok.ensures))

pub returns-in-Report-clause-full : goal.returns-in-Report-clause-full
returns-in-Report-clause-full c = filled _ _ _ c.head_at.ensures.row c.in-Ok.tag c.in-Ok.ensures

pub returns-in-Release-clause-held : goal.returns-in-Release-clause-held
unfolding tagged
returns-in-Release-clause-held c = rw c.new-finish.ensures (rw c.in-Release.is at (held_as _ _ _ c.head_at.ensures.row c.in-Ok.tag c.in-Ok.ensures))

pub returns-in-Release-clause-full : goal.returns-in-Release-clause-full
returns-in-Release-clause-full c = filled _ _ _ c.head_at.ensures.row c.in-Ok.tag c.in-Ok.ensures

pub returns-in-GhostEnded-clause-held : goal.returns-in-GhostEnded-clause-held
unfolding tagged
returns-in-GhostEnded-clause-held c = rw (c.new-finish.ensures, c.new-in-GhostEnded.ensures) (rw c.in-GhostEnded.is at (held_as _ _ _ c.head_at.ensures.row c.in-Ok.tag c.in-Ok.ensures))

pub returns-in-GhostEnded-clause-full : goal.returns-in-GhostEnded-clause-full
returns-in-GhostEnded-clause-full c = filled _ _ _ c.head_at.ensures.row c.in-Ok.tag c.in-Ok.ensures

pub returns-in_default-tag : goal.returns-in_default-tag
returns-in_default-tag c = record {
  held = c.routed.ensures (part (from_slot c.args.t.now c.args.s) 8 8)
      ∙ rw (c.new-finish.ensures, c.new-in_default-tag.ensures, c.new-in_default-tag-2.ensures) (held_as _ _ _ c.head_at.ensures.row c.in-Ok.tag c.in-Ok.ensures);
  full = filled _ _ _ c.head_at.ensures.row c.in-Ok.tag c.in-Ok.ensures;
}
