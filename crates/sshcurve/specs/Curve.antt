-- The group of edwards25519 in affine coordinates: the points of -x^2 + y^2 = 1 + d x^2 y^2 modulo 2^255 - 19 (RFC 8032 section 5.1).

use Rattle.std.proofs.Common.{◌≡◌, ℕ, zero, suc, ◌<◌}
use Rattle.sshcurve.specs.EdwardsNumbers.{d_number}
use Rattle.sshcurve.specs.FieldNumbers.{field, minus, plus, reciprocal, times}

-- d, which is -121665/121666 modulo p (RFC 8032 section 5.1)
unfoldable pub curve_d : ℕ
curve_d = d_number

-- a point (x, y)
pub record Affine : Type 0 where
  pub x : ℕ
  pub y : ℕ

-- the point is on the curve: both numbers are below p, and -x^2 + y^2 is 1 + d x^2 y^2 (RFC 8032 section 5.1)
pub record OnCurve (p : Affine) : Type 0 where
  pub x_low : p.x < field
  pub y_low : p.y < field
  pub is : minus (times p.y p.y) (times p.x p.x) ≡ plus 1 (times (times curve_d (times p.x p.x)) (times p.y p.y))

-- the numerator of the x of a sum: x1 y2 + x2 y1 (RFC 8032 section 3)
abbrev pub e_of : Affine → Affine → ℕ
e_of p q = plus (times p.x q.y) (times p.y q.x)

-- the numerator of the y of a sum: y1 y2 + x1 x2 (RFC 8032 section 3)
abbrev pub h_of : Affine → Affine → ℕ
h_of p q = plus (times p.y q.y) (times p.x q.x)

-- d x1 x2 y1 y2, of both denominators (RFC 8032 section 3)
abbrev pub t_of : Affine → Affine → ℕ
t_of p q = times (times curve_d (times p.x q.x)) (times p.y q.y)

-- the denominator of the x of a sum: 1 + d x1 x2 y1 y2 (RFC 8032 section 3)
abbrev pub g_of : Affine → Affine → ℕ
g_of p q = plus 1 (t_of p q)

-- the denominator of the y of a sum: 1 - d x1 x2 y1 y2 (RFC 8032 section 3)
abbrev pub f_of : Affine → Affine → ℕ
f_of p q = minus 1 (t_of p q)

-- the sum of two points (RFC 8032 section 3)
unfoldable pub sum : Affine → Affine → Affine
sum p q = record { x = times (e_of p q) (reciprocal (g_of p q)); y = times (h_of p q) (reciprocal (f_of p q)) }

-- the neutral point (0, 1) (RFC 8032 section 3)
abbrev pub neutral : Affine
neutral = record { x = 0; y = 1 }

-- the opposite point (-x, y), whose sum with (x, y) is neutral (RFC 8032 section 3)
abbrev pub opposite : Affine → Affine
opposite p = record { x = minus 0 p.x; y = p.y }

-- [n]P: P added n times to the neutral point (RFC 8032 section 2)
unfoldable pub multiple : ℕ → Affine → Affine
multiple zero p = neutral
multiple (suc n) p = sum (multiple n p) p
