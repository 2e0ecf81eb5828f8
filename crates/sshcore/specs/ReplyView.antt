-- What a step sends, before any packet is made of it.

use Rattle.std.specs.Prelude.{◌∷◌, ◌++◌, Option, None, Some}
use Rattle.sshmsg.specs.MessageData.{NewKeys}
use Rattle.sshmsg.specs.Written.{written_message}
use Rattle.sshpacket.specs.Stream.{Units}
use Rattle.sshcore.specs.declared.reply.Reply as reply
use Rattle.sshcore.specs.declared.reply.Switch as switch
use Rattle.sshcore.specs.EndData.{EndData, Reply}

-- these answers, and where keys are switched NEWKEYS and what follows it (RFC 4253 section 7.3)
abbrev pub with_switch : Units → Option switch.Switch → Units
with_switch answers None = answers
with_switch answers (Some s) = answers ++ (written_message NewKeys ∷ s.answers)

-- all that is sent, in order
abbrev pub answers_of : reply.Reply → Units
answers_of r = with_switch r.answers r.switch

-- the reply of an endpoint that sends these answers and then stands so
abbrev pub replied : Units → EndData → Reply
replied answers end = record { answers = answers; end = end }
