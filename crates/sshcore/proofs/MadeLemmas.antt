-- What a payload that was made is as an answer.

use Rattle.std.proofs.Common.{◌≡◌, ℕ, ◌==◌, false, List, [], ◌∷◌, refl, ap, ◌∙◌}
use Rattle.sshmsg.specs.MessageData.{Debug, Disconnect, ExtInfo, Ignore, KexEcdhInit, KexEcdhReply, KexInit, KexdhInit, KexdhReply, MessageData, NewKeys, ServiceAccept, ServiceRequest, Unimplemented, UserauthBanner, UserauthFailure, UserauthPkOk, UserauthRequest, UserauthSuccess}
use Rattle.sshmsg.specs.Numbers.{message_number, number_of}
use Rattle.sshmsg.specs.Written.{written_message}
use Rattle.sshpacket.specs.Stream.{Units}
use Rattle.sshcore.specs.EndData.{EndData}
use Rattle.sshcore.specs.MadePayloads.{IsMade}
use Rattle.sshcore.specs.PlainPayload.{IsPlainPayload}
use Rattle.sshcore.specs.ReplyView.{replied}

-- one that is no NEWKEYS may be an answer
pub made_plain : (payload bytes : List ℕ) → IsMade payload bytes → (message_number payload == 21) ≡ false → IsPlainPayload bytes
made_plain payload bytes is quiet = record { fits = is.fits; quiet = ap (λ (p : List ℕ). message_number p == 21) is.same ∙ quiet }

-- it is the only answer, and so the endpoint stands
pub replied_made : (payload bytes : List ℕ) (answers : Units) (end other_end : EndData) → answers ≡ bytes ∷ [] → IsMade payload bytes → end ≡ other_end
    → replied answers end ≡ replied (payload ∷ []) other_end
replied_made payload bytes answers end other_end alone is ends =
    ap (λ (a : Units). replied a end) (alone ∙ ap (λ (p : List ℕ). p ∷ []) is.same) ∙ ap (replied (payload ∷ [])) ends

-- a message that is no NEWKEYS has another number as its payload's first byte
pub quiet_message : (c : MessageData) → (number_of c == 21) ≡ false → (message_number (written_message c) == 21) ≡ false
unfolding written_message
quiet_message (Disconnect reason description language) e = refl
quiet_message (Ignore bytes) e = refl
quiet_message (Unimplemented packet) e = refl
quiet_message (Debug display text language) e = refl
quiet_message (ServiceRequest service) e = refl
quiet_message (ServiceAccept service) e = refl
quiet_message (ExtInfo pairs) e = refl
quiet_message (KexInit offer) e = refl
quiet_message NewKeys e = absurd cc
quiet_message (KexdhInit share) e = refl
quiet_message (KexdhReply host_key share signature) e = refl
quiet_message (KexEcdhInit share) e = refl
quiet_message (KexEcdhReply host_key share signature) e = refl
quiet_message (UserauthRequest user service method) e = refl
quiet_message (UserauthFailure listed partial) e = refl
quiet_message UserauthSuccess e = refl
quiet_message (UserauthBanner text language) e = refl
quiet_message (UserauthPkOk algorithm key) e = refl
