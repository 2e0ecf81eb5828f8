-- What is true of an attempt is true in one way, so a struct can keep it.

use Rattle.std.proofs.Props.{props}
use Rattle.sshcore.specs.ConfigParts.{AttemptData, ByKey, ByNothing, ByPassword, CredentialData}
use Rattle.sshcore.specs.ConfigRules.{HasShortKey, HasShortPassword, IsAttempt, IsNamed}

IsNamed-prop : (p : CredentialData) → IsProp (IsNamed p)
IsNamed-prop ByNothing = Prim.hlevel props
IsNamed-prop (ByPassword password) = Prim.hlevel props
IsNamed-prop (ByKey algorithm secret ask) = Prim.hlevel props

HasShortPassword-prop : (p : CredentialData) → IsProp (HasShortPassword p)
HasShortPassword-prop ByNothing = Prim.hlevel props
HasShortPassword-prop (ByPassword password) = Prim.hlevel props
HasShortPassword-prop (ByKey algorithm secret ask) = Prim.hlevel props

HasShortKey-prop : (p : CredentialData) → IsProp (HasShortKey p)
HasShortKey-prop ByNothing = Prim.hlevel props
HasShortKey-prop (ByPassword password) = Prim.hlevel props
HasShortKey-prop (ByKey algorithm secret ask) = Prim.hlevel props

pub IsAttempt-prop : (a : AttemptData) → IsProp (IsAttempt a)
IsAttempt-prop a = Prim.hlevel (IsNamed-prop, HasShortPassword-prop, HasShortKey-prop, props)
