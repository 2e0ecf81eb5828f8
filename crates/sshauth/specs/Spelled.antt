-- What digits spell.

use Rattle.std.specs.Prelude.{ℕ, List, Option}
use Rattle.std.specs.Result.{result_ok}
use Rattle.base64.specs.Engines.{standard}
use Rattle.base64.specs.GeneralPurpose.{decode_of}

-- the bytes that digits of base64 spell (RFC 4648 section 4), if they spell some
abbrev pub spelled : List ℕ → Option (List ℕ)
spelled digits = result_ok (decode_of standard digits)
