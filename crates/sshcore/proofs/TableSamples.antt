-- The phase table, evaluated at all 256 numbers, as runs of one line each: 0, 1, 2 to 4, 5, 6, and so on.

use Rattle.std.proofs.Common.{◌≡◌, ℕ, zero, suc, Bool, true, false, List, [], ◌∷◌, ◌++◌, refl}
use Rattle.sshneg.specs.declared.side.Side.{Side}
use Rattle.sshneg.specs.declared.side.Side.TheVariants.{Client, Server}
use Rattle.sshcore.specs.declared.phase_table.Disposition.{Disposition}
use Rattle.sshcore.specs.declared.phase_table.Disposition.TheVariants as disposition
use Rattle.sshcore.specs.declared.phase_table.Phase.{Phase}
use Rattle.sshcore.specs.declared.phase_table.Phase.TheVariants as phase
use Rattle.sshcore.specs.Table.{disposition_by}

-- so many times the same line, and then these
repeated : ℕ → Disposition → List Disposition → List Disposition
repeated zero l after = after
repeated (suc n) l after = l ∷ repeated n l after

runs : List (ℕ × Disposition) → List Disposition
runs [] = []
runs (x ∷ xs) = repeated x.0 x.1 (runs xs)

-- the lines of the first so many numbers
lines_up_to : Side → Phase → Bool → Bool → Bool → ℕ → List Disposition
lines_up_to role p strict guess waits zero = []
lines_up_to role p strict guess waits (suc n) = lines_up_to role p strict guess waits n ++ disposition_by role p strict guess waits n ∷ []

all_lines : Side → Phase → Bool → Bool → Bool → List Disposition
all_lines role p strict guess waits = lines_up_to role p strict guess waits 256

-- phase kexinit, strict or not
kexinit_lines : (strict waits : Bool) → (all_lines Server phase.KexInit strict false waits ≡ runs ((1, disposition.Unexpected) ∷ (4, disposition.Reads) ∷ (3, disposition.Unexpected) ∷ (12, disposition.Unknown) ∷ (1, disposition.Reads) ∷ (1, disposition.Unexpected) ∷ (8, disposition.Unknown) ∷ (2, disposition.Unexpected) ∷ (18, disposition.Unknown) ∷ (4, disposition.Unexpected) ∷ (6, disposition.Unknown) ∷ (1, disposition.Unexpected) ∷ (19, disposition.Unknown) ∷ (176, disposition.Unexpected) ∷ [])) × (all_lines Client phase.KexInit strict false waits ≡ runs ((1, disposition.Unexpected) ∷ (4, disposition.Reads) ∷ (3, disposition.Unexpected) ∷ (12, disposition.Unknown) ∷ (1, disposition.Reads) ∷ (1, disposition.Unexpected) ∷ (8, disposition.Unknown) ∷ (2, disposition.Unexpected) ∷ (18, disposition.Unknown) ∷ (4, disposition.Unexpected) ∷ (6, disposition.Unknown) ∷ (1, disposition.Unexpected) ∷ (19, disposition.Unknown) ∷ (176, disposition.Unexpected) ∷ []))
unfolding disposition_by repeated runs lines_up_to all_lines
kexinit_lines strict waits = (refl, refl)

-- phase service, strict or not
service_lines : (strict waits : Bool) → (all_lines Server phase.Service strict false waits ≡ runs ((1, disposition.Unexpected) ∷ (5, disposition.Reads) ∷ (1, disposition.Unexpected) ∷ (1, disposition.Reads) ∷ (12, disposition.Unknown) ∷ (2, disposition.Unexpected) ∷ (8, disposition.Unknown) ∷ (2, disposition.Unexpected) ∷ (18, disposition.Unknown) ∷ (4, disposition.Unexpected) ∷ (6, disposition.Unknown) ∷ (1, disposition.Unexpected) ∷ (19, disposition.Unknown) ∷ (176, disposition.Unexpected) ∷ [])) × (all_lines Client phase.Service strict false waits ≡ runs ((1, disposition.Unexpected) ∷ (4, disposition.Reads) ∷ (1, disposition.Unexpected) ∷ (2, disposition.Reads) ∷ (12, disposition.Unknown) ∷ (2, disposition.Unexpected) ∷ (8, disposition.Unknown) ∷ (2, disposition.Unexpected) ∷ (18, disposition.Unknown) ∷ (4, disposition.Unexpected) ∷ (6, disposition.Unknown) ∷ (1, disposition.Unexpected) ∷ (19, disposition.Unknown) ∷ (176, disposition.Unexpected) ∷ []))
unfolding disposition_by repeated runs lines_up_to all_lines
service_lines strict waits = (refl, refl)

-- phase auth, strict or not: a PK_OK has a place at a client while a query waits, and nowhere else
auth_lines : (strict waits : Bool) → (all_lines Server phase.Auth strict false waits ≡ runs ((1, disposition.Unexpected) ∷ (4, disposition.Reads) ∷ (2, disposition.Unexpected) ∷ (1, disposition.Reads) ∷ (12, disposition.Unknown) ∷ (2, disposition.Unexpected) ∷ (8, disposition.Unknown) ∷ (2, disposition.Unexpected) ∷ (18, disposition.Unknown) ∷ (1, disposition.Reads) ∷ (3, disposition.Unexpected) ∷ (6, disposition.Unknown) ∷ (1, disposition.Unexpected) ∷ (19, disposition.Unknown) ∷ (176, disposition.Unexpected) ∷ [])) × (all_lines Client phase.Auth strict false false ≡ runs ((1, disposition.Unexpected) ∷ (4, disposition.Reads) ∷ (2, disposition.Unexpected) ∷ (1, disposition.Reads) ∷ (12, disposition.Unknown) ∷ (2, disposition.Unexpected) ∷ (8, disposition.Unknown) ∷ (2, disposition.Unexpected) ∷ (18, disposition.Unknown) ∷ (1, disposition.Unexpected) ∷ (3, disposition.Reads) ∷ (6, disposition.Unknown) ∷ (1, disposition.Unexpected) ∷ (19, disposition.Unknown) ∷ (176, disposition.Unexpected) ∷ [])) × (all_lines Client phase.Auth strict false true ≡ runs ((1, disposition.Unexpected) ∷ (4, disposition.Reads) ∷ (2, disposition.Unexpected) ∷ (1, disposition.Reads) ∷ (12, disposition.Unknown) ∷ (2, disposition.Unexpected) ∷ (8, disposition.Unknown) ∷ (2, disposition.Unexpected) ∷ (18, disposition.Unknown) ∷ (1, disposition.Unexpected) ∷ (3, disposition.Reads) ∷ (6, disposition.Unknown) ∷ (1, disposition.Reads) ∷ (19, disposition.Unknown) ∷ (176, disposition.Unexpected) ∷ []))
unfolding disposition_by repeated runs lines_up_to all_lines
auth_lines strict waits = (refl, refl, refl)

-- phase exchange, not strict
exchange_lines : (waits : Bool) → (all_lines Server phase.Exchange false false waits ≡ runs ((1, disposition.Unexpected) ∷ (4, disposition.Reads) ∷ (3, disposition.Unexpected) ∷ (12, disposition.Unknown) ∷ (2, disposition.Unexpected) ∷ (8, disposition.Unknown) ∷ (1, disposition.Reads) ∷ (1, disposition.Unexpected) ∷ (18, disposition.Unknown) ∷ (4, disposition.Unexpected) ∷ (6, disposition.Unknown) ∷ (1, disposition.Unexpected) ∷ (19, disposition.Unknown) ∷ (176, disposition.Unexpected) ∷ [])) × (all_lines Client phase.Exchange false false waits ≡ runs ((1, disposition.Unexpected) ∷ (4, disposition.Reads) ∷ (3, disposition.Unexpected) ∷ (12, disposition.Unknown) ∷ (2, disposition.Unexpected) ∷ (8, disposition.Unknown) ∷ (1, disposition.Unexpected) ∷ (1, disposition.Reads) ∷ (18, disposition.Unknown) ∷ (4, disposition.Unexpected) ∷ (6, disposition.Unknown) ∷ (1, disposition.Unexpected) ∷ (19, disposition.Unknown) ∷ (176, disposition.Unexpected) ∷ []))
unfolding disposition_by repeated runs lines_up_to all_lines
exchange_lines waits = (refl, refl)

-- phase exchange, strict
strict_exchange_lines : (waits : Bool) → (all_lines Server phase.Exchange true false waits ≡ runs ((1, disposition.Deviates) ∷ (1, disposition.Reads) ∷ (28, disposition.Deviates) ∷ (1, disposition.Reads) ∷ (225, disposition.Deviates) ∷ [])) × (all_lines Client phase.Exchange true false waits ≡ runs ((1, disposition.Deviates) ∷ (1, disposition.Reads) ∷ (29, disposition.Deviates) ∷ (1, disposition.Reads) ∷ (224, disposition.Deviates) ∷ []))
unfolding disposition_by repeated runs lines_up_to all_lines
strict_exchange_lines waits = (refl, refl)

-- phase newkeys, not strict
newkeys_lines : (waits : Bool) → (all_lines Server phase.NewKeys false false waits ≡ runs ((1, disposition.Unexpected) ∷ (4, disposition.Reads) ∷ (3, disposition.Unexpected) ∷ (12, disposition.Unknown) ∷ (1, disposition.Unexpected) ∷ (1, disposition.Reads) ∷ (8, disposition.Unknown) ∷ (2, disposition.Unexpected) ∷ (18, disposition.Unknown) ∷ (4, disposition.Unexpected) ∷ (6, disposition.Unknown) ∷ (1, disposition.Unexpected) ∷ (19, disposition.Unknown) ∷ (176, disposition.Unexpected) ∷ [])) × (all_lines Client phase.NewKeys false false waits ≡ runs ((1, disposition.Unexpected) ∷ (4, disposition.Reads) ∷ (3, disposition.Unexpected) ∷ (12, disposition.Unknown) ∷ (1, disposition.Unexpected) ∷ (1, disposition.Reads) ∷ (8, disposition.Unknown) ∷ (2, disposition.Unexpected) ∷ (18, disposition.Unknown) ∷ (4, disposition.Unexpected) ∷ (6, disposition.Unknown) ∷ (1, disposition.Unexpected) ∷ (19, disposition.Unknown) ∷ (176, disposition.Unexpected) ∷ []))
unfolding disposition_by repeated runs lines_up_to all_lines
newkeys_lines waits = (refl, refl)

-- phase newkeys, strict
strict_newkeys_lines : (waits : Bool) → (all_lines Server phase.NewKeys true false waits ≡ runs ((1, disposition.Deviates) ∷ (1, disposition.Reads) ∷ (19, disposition.Deviates) ∷ (1, disposition.Reads) ∷ (234, disposition.Deviates) ∷ [])) × (all_lines Client phase.NewKeys true false waits ≡ runs ((1, disposition.Deviates) ∷ (1, disposition.Reads) ∷ (19, disposition.Deviates) ∷ (1, disposition.Reads) ∷ (234, disposition.Deviates) ∷ []))
unfolding disposition_by repeated runs lines_up_to all_lines
strict_newkeys_lines waits = (refl, refl)

-- in the place of a wrong guess's packet, not strict and strict
guess_lines : (waits : Bool) → (all_lines Server phase.Exchange false true waits ≡ runs ((1, disposition.Drops) ∷ (1, disposition.Reads) ∷ (254, disposition.Drops) ∷ [])) × (all_lines Server phase.Exchange true true waits ≡ runs ((1, disposition.Deviates) ∷ (1, disposition.Reads) ∷ (28, disposition.Deviates) ∷ (20, disposition.Drops) ∷ (206, disposition.Deviates) ∷ [])) × (all_lines Client phase.Exchange false true waits ≡ runs ((1, disposition.Drops) ∷ (1, disposition.Reads) ∷ (254, disposition.Drops) ∷ [])) × (all_lines Client phase.Exchange true true waits ≡ runs ((1, disposition.Deviates) ∷ (1, disposition.Reads) ∷ (28, disposition.Deviates) ∷ (20, disposition.Drops) ∷ (206, disposition.Deviates) ∷ []))
unfolding disposition_by repeated runs lines_up_to all_lines
guess_lines waits = (refl, refl, refl, refl)
