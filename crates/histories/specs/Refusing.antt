-- Document 01, 'A channel's life': "A refusal follows here from the refusal table, the call and this state, and changes nothing."
use Rattle.std.specs.Prelude.{◌≡◌, false, eqb}
use Rattle.channel_core.specs.Answers.{refused}
use Rattle.channel.specs.OneChannel.{ChannelCall, OneChannel, refusal_of, transition, response}

-- whatever the state and the call: refused, it leaves all as it was, and answers the refusal's number alone
abbrev pub RefusedChangesNothing : Type 0
RefusedChangesNothing =
    (o : OneChannel) (k : ChannelCall) → eqb (refusal_of o k) 0 ≡ false → (transition o k ≡ o) × (response o k ≡ refused (refusal_of o k))
