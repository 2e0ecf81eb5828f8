-- Points of the curve in expressions of polynomials. The variables are d, the coordinates of three points, and a square root of -1.

use Rattle.sshpolynomials.specs.Polynomials.{Expr, var, num, ◌⊕◌, ◌⊖◌, ◌⊗◌, Given, given}

abbrev pub d : Expr
d = var 0

abbrev pub x1 : Expr
x1 = var 1

abbrev pub y1 : Expr
y1 = var 2

abbrev pub x2 : Expr
x2 = var 3

abbrev pub y2 : Expr
y2 = var 4

abbrev pub x3 : Expr
x3 = var 5

abbrev pub y3 : Expr
y3 = var 6

abbrev pub i : Expr
i = var 7

-- both sides of the curve's equation: y^2 - x^2 is 1 + d x^2 y^2
abbrev pub curve_left : Expr → Expr → Expr
curve_left x y = y ⊗ y ⊖ x ⊗ x

abbrev pub curve_right : Expr → Expr → Expr
curve_right x y = num 1 ⊕ d ⊗ (x ⊗ x) ⊗ (y ⊗ y)

-- a point's equation with a cofactor
abbrev pub equation : Expr → Expr → Expr → Given
equation x y cofactor = given cofactor (curve_left x y) (curve_right x y)

-- the numerators and denominators of a sum: x is e / g, y is h / f
abbrev pub e_of : Expr → Expr → Expr → Expr → Expr
e_of x y u v = x ⊗ v ⊕ y ⊗ u

abbrev pub h_of : Expr → Expr → Expr → Expr → Expr
h_of x y u v = y ⊗ v ⊕ x ⊗ u

abbrev pub t_of : Expr → Expr → Expr → Expr → Expr
t_of x y u v = d ⊗ (x ⊗ u) ⊗ (y ⊗ v)

abbrev pub g_of : Expr → Expr → Expr → Expr → Expr
g_of x y u v = num 1 ⊕ t_of x y u v

abbrev pub f_of : Expr → Expr → Expr → Expr → Expr
f_of x y u v = num 1 ⊖ t_of x y u v

-- of the sum of the first point and the second
abbrev pub e12 : Expr
e12 = e_of x1 y1 x2 y2

abbrev pub h12 : Expr
h12 = h_of x1 y1 x2 y2

abbrev pub t12 : Expr
t12 = t_of x1 y1 x2 y2

abbrev pub g12 : Expr
g12 = g_of x1 y1 x2 y2

abbrev pub f12 : Expr
f12 = f_of x1 y1 x2 y2
