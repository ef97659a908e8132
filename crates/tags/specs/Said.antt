-- A message as the code holds it, as the rules' message.
use Rattle.std.specs.Prelude.{Option, None, Some}
use Rattle.rules.specs.Messages as rules
use Rattle.tags.specs.declared.Message.{Message}
use Rattle.tags.specs.declared.Message.TheVariants.{Publish, Published, Transit, Granted, Denied, Task, Report, Release, GhostEnded, CountDropped, Dropped}

abbrev pub said : Message → rules.Message
said (Publish finish task) = rules.publish finish task
said (Published finish task) = rules.published finish task
said (Transit m) = rules.transit m.finish m.task m.from m.to
said (Granted m) = rules.granted m.finish m.task m.from m.to
said (Denied m) = rules.denied m.finish m.task m.from m.to
said (Task m) = rules.task m.finish m.task m.from m.to
said (Report finish from counts) = rules.report finish from counts
said (Release finish) = rules.release finish
said (GhostEnded finish ended) = rules.ghost_ended finish ended
said (CountDropped m number) = rules.count_dropped m.finish m.task m.from m.to number
said (Dropped m number) = rules.dropped m.finish m.task m.from m.to number

-- Tag 0 is empty.
abbrev pub found : Option Message → rules.Message
found None = rules.none
found (Some m) = said m
