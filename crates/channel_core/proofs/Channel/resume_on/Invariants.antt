-- The loop of `Channel::resume_on`: the channel after the Resume events before `pause`. Assumes nothing.
use Rattle.std.proofs.Common.{◌≡◌}
use Rattle.channel_core.proofs.Resumes.{resumed_before}
use Rattle.channel_core.proofs.Channel.resume_on.Given as goal

abbrev pub invariant-loop-pause : goal.invariant-loop-pause
invariant-loop-pause l = l.self ≡ resumed_before l.registers l.fn.self l.user l.code l.pause
