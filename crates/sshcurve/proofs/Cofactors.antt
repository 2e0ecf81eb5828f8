-- Cofactors of the curve's equation at each point, by which identities of points follow from it. `tools/write_certificates` writes this
-- file.

use Rattle.sshpolynomials.specs.Polynomials.{Expr, num, ◌⊕◌, ◌⊖◌, ◌⊗◌}
use Rattle.sshcurve.proofs.CurveTerms.{d, x1, y1, x2, y2, x3, y3}

abbrev pub closed_cofactor_1 : Expr
closed_cofactor_1 =
    d ⊗ d ⊗ d ⊗ x1 ⊗ x1 ⊗ y1 ⊗ y1 ⊗ x2 ⊗ x2 ⊗ x2 ⊗ x2 ⊗ y2 ⊗ y2 ⊗ y2 ⊗ y2 ⊕ d ⊗ d ⊗ y1 ⊗ y1 ⊗ x2 ⊗ x2 ⊗ x2 ⊗ x2 ⊗ y2 ⊗ y2 ⊗ y2 ⊗ y2
    ⊕ d ⊗ x1 ⊗ x1 ⊗ x2 ⊗ x2 ⊗ y2 ⊗ y2 ⊗ y2 ⊗ y2 ⊕ d ⊗ y1 ⊗ y1 ⊗ x2 ⊗ x2 ⊗ x2 ⊗ x2 ⊗ y2 ⊗ y2 ⊕ x2 ⊗ x2 ⊗ x2 ⊗ x2
    ⊕ num 2 ⊗ x2 ⊗ x2 ⊗ y2 ⊗ y2 ⊗ y2 ⊗ y2 ⊕ y2 ⊗ y2 ⊗ y2 ⊗ y2 ⊖ d ⊗ d ⊗ x1 ⊗ x1 ⊗ x2 ⊗ x2 ⊗ x2 ⊗ x2 ⊗ y2 ⊗ y2 ⊗ y2 ⊗ y2
    ⊖ d ⊗ d ⊗ x2 ⊗ x2 ⊗ x2 ⊗ x2 ⊗ y2 ⊗ y2 ⊗ y2 ⊗ y2 ⊖ d ⊗ x1 ⊗ x1 ⊗ x2 ⊗ x2 ⊗ x2 ⊗ x2 ⊗ y2 ⊗ y2 ⊖ d ⊗ y1 ⊗ y1 ⊗ x2 ⊗ x2 ⊗ y2 ⊗ y2 ⊗ y2 ⊗ y2
    ⊖ num 2 ⊗ d ⊗ x2 ⊗ x2 ⊗ x2 ⊗ x2 ⊗ y2 ⊗ y2 ⊗ y2 ⊗ y2 ⊖ num 2 ⊗ d ⊗ x2 ⊗ x2 ⊗ y2 ⊗ y2 ⊖ num 2 ⊗ x2 ⊗ x2 ⊗ x2 ⊗ x2 ⊗ y2 ⊗ y2
    ⊖ num 4 ⊗ x2 ⊗ x2 ⊗ y2 ⊗ y2

abbrev pub closed_cofactor_2 : Expr
closed_cofactor_2 =
    d ⊗ x1 ⊗ x1 ⊗ x1 ⊗ x1 ⊗ x2 ⊗ x2 ⊗ y2 ⊗ y2 ⊕ num 2 ⊗ d ⊗ x1 ⊗ x1 ⊗ x2 ⊗ x2 ⊗ y2 ⊗ y2 ⊕ d ⊗ y1 ⊗ y1 ⊗ y1 ⊗ y1 ⊗ x2 ⊗ x2 ⊗ y2 ⊗ y2
    ⊕ d ⊗ x2 ⊗ x2 ⊗ y2 ⊗ y2 ⊕ num 2 ⊗ x1 ⊗ x1 ⊗ x2 ⊗ x2 ⊗ y2 ⊗ y2 ⊕ x1 ⊗ x1 ⊗ y2 ⊗ y2 ⊕ y1 ⊗ y1 ⊗ x2 ⊗ x2 ⊕ num 2 ⊗ x2 ⊗ x2 ⊗ y2 ⊗ y2 ⊕ y2 ⊗ y2
    ⊕ num 1 ⊖ num 2 ⊗ d ⊗ y1 ⊗ y1 ⊗ x2 ⊗ x2 ⊗ y2 ⊗ y2 ⊖ x1 ⊗ x1 ⊗ x2 ⊗ x2 ⊖ num 2 ⊗ y1 ⊗ y1 ⊗ x2 ⊗ x2 ⊗ y2 ⊗ y2 ⊖ y1 ⊗ y1 ⊗ y2 ⊗ y2 ⊖ x2 ⊗ x2

abbrev pub difference_cofactor_1 : Expr
difference_cofactor_1 =
    num 4 ⊗ d ⊗ y1 ⊗ x2 ⊗ x2 ⊗ y2 ⊗ y2 ⊗ y2 ⊕ num 4 ⊗ y1 ⊗ x2 ⊗ x2 ⊗ y2

abbrev pub difference_cofactor_2 : Expr
difference_cofactor_2 =
    num 4 ⊗ y1 ⊗ y1 ⊗ y1 ⊗ y2 ⊖ num 4 ⊗ y1 ⊗ y2

abbrev pub x_cofactor_1 : Expr
x_cofactor_1 =
    d ⊗ d ⊗ y1 ⊗ x2 ⊗ x2 ⊗ x2 ⊗ x2 ⊗ y2 ⊗ y2 ⊗ y2 ⊗ x3 ⊗ y3 ⊗ y3 ⊕ d ⊗ d ⊗ y1 ⊗ x2 ⊗ x2 ⊗ x2 ⊗ y2 ⊗ y2 ⊗ y2 ⊗ y2 ⊗ x3 ⊗ x3 ⊗ y3
    ⊕ d ⊗ x1 ⊗ x2 ⊗ x2 ⊗ y2 ⊗ y2 ⊗ y2 ⊗ y3 ⊗ y3 ⊗ y3 ⊕ d ⊗ x1 ⊗ x2 ⊗ y2 ⊗ y2 ⊗ y2 ⊗ y2 ⊗ x3 ⊗ y3 ⊗ y3
    ⊕ d ⊗ y1 ⊗ x2 ⊗ x2 ⊗ x2 ⊗ x2 ⊗ y2 ⊗ x3 ⊗ y3 ⊗ y3 ⊕ d ⊗ y1 ⊗ x2 ⊗ x2 ⊗ x2 ⊗ y2 ⊗ y2 ⊗ y3 ⊗ y3 ⊗ y3
    ⊖ d ⊗ d ⊗ x1 ⊗ x2 ⊗ x2 ⊗ x2 ⊗ x2 ⊗ y2 ⊗ y2 ⊗ y2 ⊗ x3 ⊗ x3 ⊗ y3 ⊖ d ⊗ d ⊗ x1 ⊗ x2 ⊗ x2 ⊗ x2 ⊗ y2 ⊗ y2 ⊗ y2 ⊗ y2 ⊗ x3 ⊗ y3 ⊗ y3
    ⊖ d ⊗ x1 ⊗ x2 ⊗ x2 ⊗ x2 ⊗ x2 ⊗ y2 ⊗ x3 ⊗ x3 ⊗ y3 ⊖ d ⊗ x1 ⊗ x2 ⊗ x2 ⊗ x2 ⊗ y2 ⊗ y2 ⊗ x3 ⊗ x3 ⊗ x3 ⊖ d ⊗ x1 ⊗ x2 ⊗ x2 ⊗ x2 ⊗ y2 ⊗ y2 ⊗ x3
    ⊖ d ⊗ x1 ⊗ x2 ⊗ x2 ⊗ y2 ⊗ y2 ⊗ y2 ⊗ y3 ⊖ d ⊗ y1 ⊗ x2 ⊗ x2 ⊗ x2 ⊗ y2 ⊗ y2 ⊗ y3 ⊖ d ⊗ y1 ⊗ x2 ⊗ x2 ⊗ y2 ⊗ y2 ⊗ y2 ⊗ x3 ⊗ x3 ⊗ x3
    ⊖ d ⊗ y1 ⊗ x2 ⊗ x2 ⊗ y2 ⊗ y2 ⊗ y2 ⊗ x3 ⊖ d ⊗ y1 ⊗ x2 ⊗ y2 ⊗ y2 ⊗ y2 ⊗ y2 ⊗ x3 ⊗ x3 ⊗ y3

abbrev pub x_cofactor_2 : Expr
x_cofactor_2 =
    d ⊗ d ⊗ x1 ⊗ x1 ⊗ y1 ⊗ x2 ⊗ x2 ⊗ y2 ⊗ x3 ⊗ x3 ⊗ x3 ⊗ y3 ⊗ y3 ⊕ d ⊗ d ⊗ x1 ⊗ y1 ⊗ y1 ⊗ x2 ⊗ y2 ⊗ y2 ⊗ x3 ⊗ x3 ⊗ x3 ⊗ y3 ⊗ y3
    ⊕ d ⊗ x1 ⊗ x1 ⊗ x1 ⊗ x2 ⊗ x2 ⊗ y2 ⊗ x3 ⊗ x3 ⊗ y3 ⊕ d ⊗ x1 ⊗ x1 ⊗ x1 ⊗ x2 ⊗ y2 ⊗ y2 ⊗ x3 ⊗ y3 ⊗ y3
    ⊕ d ⊗ x1 ⊗ x1 ⊗ x1 ⊗ x2 ⊗ x3 ⊗ x3 ⊗ x3 ⊗ y3 ⊗ y3 ⊕ d ⊗ x1 ⊗ x1 ⊗ x1 ⊗ y2 ⊗ x3 ⊗ x3 ⊗ y3 ⊗ y3 ⊗ y3
    ⊕ d ⊗ x1 ⊗ x1 ⊗ y1 ⊗ x2 ⊗ x3 ⊗ x3 ⊗ y3 ⊗ y3 ⊗ y3 ⊕ d ⊗ x1 ⊗ x1 ⊗ y1 ⊗ y2 ⊗ x3 ⊗ x3 ⊗ x3 ⊗ y3 ⊗ y3 ⊕ d ⊗ x1 ⊗ x2 ⊗ x2 ⊗ y2 ⊗ x3 ⊗ x3 ⊗ y3
    ⊕ d ⊗ x1 ⊗ x2 ⊗ y2 ⊗ y2 ⊗ x3 ⊗ y3 ⊗ y3 ⊕ d ⊗ x1 ⊗ x2 ⊗ x3 ⊗ x3 ⊗ x3 ⊗ y3 ⊗ y3 ⊕ d ⊗ x1 ⊗ y2 ⊗ x3 ⊗ x3 ⊗ y3 ⊗ y3 ⊗ y3
    ⊕ d ⊗ y1 ⊗ y1 ⊗ y1 ⊗ x2 ⊗ x2 ⊗ y2 ⊗ x3 ⊗ y3 ⊗ y3 ⊕ d ⊗ y1 ⊗ y1 ⊗ y1 ⊗ x2 ⊗ y2 ⊗ y2 ⊗ x3 ⊗ x3 ⊗ y3 ⊕ d ⊗ y1 ⊗ x2 ⊗ x3 ⊗ x3 ⊗ y3 ⊗ y3 ⊗ y3
    ⊕ d ⊗ y1 ⊗ y2 ⊗ x3 ⊗ x3 ⊗ x3 ⊗ y3 ⊗ y3 ⊕ x1 ⊗ x1 ⊗ x1 ⊗ x2 ⊗ x3 ⊗ x3 ⊗ x3 ⊕ x1 ⊗ x1 ⊗ x1 ⊗ x2 ⊗ x3 ⊕ x1 ⊗ x1 ⊗ x1 ⊗ y2 ⊗ x3 ⊗ x3 ⊗ y3
    ⊕ x1 ⊗ x1 ⊗ x1 ⊗ y2 ⊗ y3 ⊕ x1 ⊗ x1 ⊗ y1 ⊗ x2 ⊗ x3 ⊗ x3 ⊗ y3 ⊕ x1 ⊗ x1 ⊗ y1 ⊗ x2 ⊗ y3 ⊕ x1 ⊗ x1 ⊗ y1 ⊗ y2 ⊗ x3 ⊗ x3 ⊗ x3
    ⊕ x1 ⊗ x1 ⊗ y1 ⊗ y2 ⊗ x3 ⊕ x1 ⊗ y1 ⊗ y1 ⊗ x2 ⊗ x3 ⊗ y3 ⊗ y3 ⊕ x1 ⊗ y1 ⊗ y1 ⊗ y2 ⊗ y3 ⊗ y3 ⊗ y3 ⊕ x1 ⊗ x2 ⊗ x3 ⊗ x3 ⊗ x3 ⊕ x1 ⊗ x2 ⊗ x3
    ⊕ x1 ⊗ y2 ⊗ x3 ⊗ x3 ⊗ y3 ⊕ x1 ⊗ y2 ⊗ y3 ⊕ y1 ⊗ y1 ⊗ y1 ⊗ x2 ⊗ y3 ⊗ y3 ⊗ y3 ⊕ y1 ⊗ y1 ⊗ y1 ⊗ y2 ⊗ x3 ⊗ y3 ⊗ y3 ⊕ y1 ⊗ x2 ⊗ x3 ⊗ x3 ⊗ y3
    ⊕ y1 ⊗ x2 ⊗ y3 ⊕ y1 ⊗ y2 ⊗ x3 ⊗ x3 ⊗ x3 ⊕ y1 ⊗ y2 ⊗ x3 ⊖ d ⊗ d ⊗ x1 ⊗ x1 ⊗ y1 ⊗ x2 ⊗ y2 ⊗ y2 ⊗ x3 ⊗ x3 ⊗ y3 ⊗ y3 ⊗ y3
    ⊖ d ⊗ d ⊗ x1 ⊗ y1 ⊗ y1 ⊗ x2 ⊗ x2 ⊗ y2 ⊗ x3 ⊗ x3 ⊗ y3 ⊗ y3 ⊗ y3 ⊖ d ⊗ x1 ⊗ x1 ⊗ y1 ⊗ x2 ⊗ x2 ⊗ y2 ⊗ x3 ⊗ y3 ⊗ y3
    ⊖ d ⊗ x1 ⊗ x1 ⊗ y1 ⊗ x2 ⊗ y2 ⊗ y2 ⊗ x3 ⊗ x3 ⊗ y3 ⊖ d ⊗ x1 ⊗ y1 ⊗ y1 ⊗ x2 ⊗ x2 ⊗ y2 ⊗ x3 ⊗ x3 ⊗ y3
    ⊖ d ⊗ x1 ⊗ y1 ⊗ y1 ⊗ x2 ⊗ y2 ⊗ y2 ⊗ x3 ⊗ y3 ⊗ y3 ⊖ d ⊗ x1 ⊗ y1 ⊗ y1 ⊗ x2 ⊗ x3 ⊗ x3 ⊗ x3 ⊗ y3 ⊗ y3
    ⊖ d ⊗ x1 ⊗ y1 ⊗ y1 ⊗ y2 ⊗ x3 ⊗ x3 ⊗ y3 ⊗ y3 ⊗ y3 ⊖ d ⊗ y1 ⊗ y1 ⊗ y1 ⊗ x2 ⊗ x3 ⊗ x3 ⊗ y3 ⊗ y3 ⊗ y3
    ⊖ d ⊗ y1 ⊗ y1 ⊗ y1 ⊗ y2 ⊗ x3 ⊗ x3 ⊗ x3 ⊗ y3 ⊗ y3 ⊖ d ⊗ y1 ⊗ x2 ⊗ x2 ⊗ y2 ⊗ x3 ⊗ y3 ⊗ y3 ⊖ d ⊗ y1 ⊗ x2 ⊗ y2 ⊗ y2 ⊗ x3 ⊗ x3 ⊗ y3
    ⊖ x1 ⊗ x1 ⊗ x1 ⊗ x2 ⊗ x3 ⊗ y3 ⊗ y3 ⊖ x1 ⊗ x1 ⊗ x1 ⊗ y2 ⊗ y3 ⊗ y3 ⊗ y3 ⊖ x1 ⊗ x1 ⊗ y1 ⊗ x2 ⊗ y3 ⊗ y3 ⊗ y3 ⊖ x1 ⊗ x1 ⊗ y1 ⊗ y2 ⊗ x3 ⊗ y3 ⊗ y3
    ⊖ x1 ⊗ y1 ⊗ y1 ⊗ x2 ⊗ x3 ⊗ x3 ⊗ x3 ⊖ x1 ⊗ y1 ⊗ y1 ⊗ x2 ⊗ x3 ⊖ x1 ⊗ y1 ⊗ y1 ⊗ y2 ⊗ x3 ⊗ x3 ⊗ y3 ⊖ x1 ⊗ y1 ⊗ y1 ⊗ y2 ⊗ y3
    ⊖ x1 ⊗ x2 ⊗ x3 ⊗ y3 ⊗ y3 ⊖ x1 ⊗ y2 ⊗ y3 ⊗ y3 ⊗ y3 ⊖ y1 ⊗ y1 ⊗ y1 ⊗ x2 ⊗ x3 ⊗ x3 ⊗ y3 ⊖ y1 ⊗ y1 ⊗ y1 ⊗ x2 ⊗ y3
    ⊖ y1 ⊗ y1 ⊗ y1 ⊗ y2 ⊗ x3 ⊗ x3 ⊗ x3 ⊖ y1 ⊗ y1 ⊗ y1 ⊗ y2 ⊗ x3 ⊖ y1 ⊗ x2 ⊗ y3 ⊗ y3 ⊗ y3 ⊖ y1 ⊗ y2 ⊗ x3 ⊗ y3 ⊗ y3

abbrev pub x_cofactor_3 : Expr
x_cofactor_3 =
    d ⊗ x1 ⊗ x1 ⊗ y1 ⊗ x2 ⊗ y2 ⊗ y2 ⊗ y3 ⊕ d ⊗ x1 ⊗ y1 ⊗ y1 ⊗ x2 ⊗ x2 ⊗ y2 ⊗ y3 ⊕ x1 ⊗ x1 ⊗ x1 ⊗ x2 ⊗ y2 ⊗ y2 ⊗ x3
    ⊕ x1 ⊗ x1 ⊗ x1 ⊗ y2 ⊗ y2 ⊗ y2 ⊗ y3 ⊕ x1 ⊗ x1 ⊗ y1 ⊗ x2 ⊗ y2 ⊗ y2 ⊗ y3 ⊕ x1 ⊗ x1 ⊗ y1 ⊗ y2 ⊗ y2 ⊗ y2 ⊗ x3 ⊕ x1 ⊗ y1 ⊗ y1 ⊗ x2 ⊗ x2 ⊗ x2 ⊗ x3
    ⊕ x1 ⊗ y1 ⊗ y1 ⊗ x2 ⊗ x2 ⊗ y2 ⊗ y3 ⊕ x1 ⊗ y1 ⊗ y1 ⊗ x2 ⊗ x3 ⊕ x1 ⊗ y1 ⊗ y1 ⊗ y2 ⊗ y3 ⊕ x1 ⊗ x2 ⊗ y2 ⊗ y2 ⊗ x3 ⊕ x1 ⊗ y2 ⊗ y2 ⊗ y2 ⊗ y3
    ⊕ y1 ⊗ y1 ⊗ y1 ⊗ x2 ⊗ x2 ⊗ x2 ⊗ y3 ⊕ y1 ⊗ y1 ⊗ y1 ⊗ x2 ⊗ x2 ⊗ y2 ⊗ x3 ⊕ y1 ⊗ y1 ⊗ y1 ⊗ x2 ⊗ y3 ⊕ y1 ⊗ y1 ⊗ y1 ⊗ y2 ⊗ x3
    ⊕ y1 ⊗ x2 ⊗ y2 ⊗ y2 ⊗ y3 ⊕ y1 ⊗ y2 ⊗ y2 ⊗ y2 ⊗ x3 ⊖ d ⊗ x1 ⊗ x1 ⊗ y1 ⊗ x2 ⊗ x2 ⊗ y2 ⊗ x3 ⊖ d ⊗ x1 ⊗ y1 ⊗ y1 ⊗ x2 ⊗ y2 ⊗ y2 ⊗ x3
    ⊖ x1 ⊗ x1 ⊗ x1 ⊗ x2 ⊗ x2 ⊗ x2 ⊗ x3 ⊖ x1 ⊗ x1 ⊗ x1 ⊗ x2 ⊗ x2 ⊗ y2 ⊗ y3 ⊖ x1 ⊗ x1 ⊗ x1 ⊗ x2 ⊗ x3 ⊖ x1 ⊗ x1 ⊗ x1 ⊗ y2 ⊗ y3
    ⊖ x1 ⊗ x1 ⊗ y1 ⊗ x2 ⊗ x2 ⊗ x2 ⊗ y3 ⊖ x1 ⊗ x1 ⊗ y1 ⊗ x2 ⊗ x2 ⊗ y2 ⊗ x3 ⊖ x1 ⊗ x1 ⊗ y1 ⊗ x2 ⊗ y3 ⊖ x1 ⊗ x1 ⊗ y1 ⊗ y2 ⊗ x3
    ⊖ x1 ⊗ y1 ⊗ y1 ⊗ x2 ⊗ y2 ⊗ y2 ⊗ x3 ⊖ x1 ⊗ y1 ⊗ y1 ⊗ y2 ⊗ y2 ⊗ y2 ⊗ y3 ⊖ x1 ⊗ x2 ⊗ x2 ⊗ x2 ⊗ x3 ⊖ x1 ⊗ x2 ⊗ x2 ⊗ y2 ⊗ y3 ⊖ x1 ⊗ x2 ⊗ x3
    ⊖ x1 ⊗ y2 ⊗ y3 ⊖ y1 ⊗ y1 ⊗ y1 ⊗ x2 ⊗ y2 ⊗ y2 ⊗ y3 ⊖ y1 ⊗ y1 ⊗ y1 ⊗ y2 ⊗ y2 ⊗ y2 ⊗ x3 ⊖ y1 ⊗ x2 ⊗ x2 ⊗ x2 ⊗ y3 ⊖ y1 ⊗ x2 ⊗ x2 ⊗ y2 ⊗ x3
    ⊖ y1 ⊗ x2 ⊗ y3 ⊖ y1 ⊗ y2 ⊗ x3

abbrev pub y_cofactor_1 : Expr
y_cofactor_1 =
    d ⊗ d ⊗ x1 ⊗ x2 ⊗ x2 ⊗ x2 ⊗ x2 ⊗ y2 ⊗ y2 ⊗ y2 ⊗ x3 ⊗ y3 ⊗ y3 ⊕ d ⊗ d ⊗ x1 ⊗ x2 ⊗ x2 ⊗ x2 ⊗ y2 ⊗ y2 ⊗ y2 ⊗ y2 ⊗ x3 ⊗ x3 ⊗ y3
    ⊕ d ⊗ x1 ⊗ x2 ⊗ x2 ⊗ x2 ⊗ x2 ⊗ y2 ⊗ x3 ⊗ y3 ⊗ y3 ⊕ d ⊗ x1 ⊗ x2 ⊗ x2 ⊗ x2 ⊗ y2 ⊗ y2 ⊗ y3 ⊗ y3 ⊗ y3
    ⊕ d ⊗ y1 ⊗ x2 ⊗ x2 ⊗ y2 ⊗ y2 ⊗ y2 ⊗ y3 ⊗ y3 ⊗ y3 ⊕ d ⊗ y1 ⊗ x2 ⊗ y2 ⊗ y2 ⊗ y2 ⊗ y2 ⊗ x3 ⊗ y3 ⊗ y3
    ⊖ d ⊗ d ⊗ y1 ⊗ x2 ⊗ x2 ⊗ x2 ⊗ x2 ⊗ y2 ⊗ y2 ⊗ y2 ⊗ x3 ⊗ x3 ⊗ y3 ⊖ d ⊗ d ⊗ y1 ⊗ x2 ⊗ x2 ⊗ x2 ⊗ y2 ⊗ y2 ⊗ y2 ⊗ y2 ⊗ x3 ⊗ y3 ⊗ y3
    ⊖ d ⊗ x1 ⊗ x2 ⊗ x2 ⊗ x2 ⊗ y2 ⊗ y2 ⊗ y3 ⊖ d ⊗ x1 ⊗ x2 ⊗ x2 ⊗ y2 ⊗ y2 ⊗ y2 ⊗ x3 ⊗ x3 ⊗ x3 ⊖ d ⊗ x1 ⊗ x2 ⊗ x2 ⊗ y2 ⊗ y2 ⊗ y2 ⊗ x3
    ⊖ d ⊗ x1 ⊗ x2 ⊗ y2 ⊗ y2 ⊗ y2 ⊗ y2 ⊗ x3 ⊗ x3 ⊗ y3 ⊖ d ⊗ y1 ⊗ x2 ⊗ x2 ⊗ x2 ⊗ x2 ⊗ y2 ⊗ x3 ⊗ x3 ⊗ y3
    ⊖ d ⊗ y1 ⊗ x2 ⊗ x2 ⊗ x2 ⊗ y2 ⊗ y2 ⊗ x3 ⊗ x3 ⊗ x3 ⊖ d ⊗ y1 ⊗ x2 ⊗ x2 ⊗ x2 ⊗ y2 ⊗ y2 ⊗ x3 ⊖ d ⊗ y1 ⊗ x2 ⊗ x2 ⊗ y2 ⊗ y2 ⊗ y2 ⊗ y3

abbrev pub y_cofactor_2 : Expr
y_cofactor_2 =
    d ⊗ d ⊗ x1 ⊗ x1 ⊗ y1 ⊗ x2 ⊗ x2 ⊗ y2 ⊗ x3 ⊗ x3 ⊗ y3 ⊗ y3 ⊗ y3 ⊕ d ⊗ d ⊗ x1 ⊗ y1 ⊗ y1 ⊗ x2 ⊗ y2 ⊗ y2 ⊗ x3 ⊗ x3 ⊗ y3 ⊗ y3 ⊗ y3
    ⊕ d ⊗ x1 ⊗ x1 ⊗ x1 ⊗ x2 ⊗ x3 ⊗ x3 ⊗ y3 ⊗ y3 ⊗ y3 ⊕ d ⊗ x1 ⊗ x1 ⊗ x1 ⊗ y2 ⊗ x3 ⊗ x3 ⊗ x3 ⊗ y3 ⊗ y3
    ⊕ d ⊗ x1 ⊗ x1 ⊗ y1 ⊗ x2 ⊗ x2 ⊗ y2 ⊗ x3 ⊗ x3 ⊗ y3 ⊕ d ⊗ x1 ⊗ x1 ⊗ y1 ⊗ x2 ⊗ y2 ⊗ y2 ⊗ x3 ⊗ y3 ⊗ y3
    ⊕ d ⊗ x1 ⊗ x1 ⊗ y1 ⊗ x2 ⊗ x3 ⊗ x3 ⊗ x3 ⊗ y3 ⊗ y3 ⊕ d ⊗ x1 ⊗ x1 ⊗ y1 ⊗ y2 ⊗ x3 ⊗ x3 ⊗ y3 ⊗ y3 ⊗ y3
    ⊕ d ⊗ x1 ⊗ y1 ⊗ y1 ⊗ x2 ⊗ x2 ⊗ y2 ⊗ x3 ⊗ y3 ⊗ y3 ⊕ d ⊗ x1 ⊗ y1 ⊗ y1 ⊗ x2 ⊗ y2 ⊗ y2 ⊗ x3 ⊗ x3 ⊗ y3 ⊕ d ⊗ x1 ⊗ x2 ⊗ x3 ⊗ x3 ⊗ y3 ⊗ y3 ⊗ y3
    ⊕ d ⊗ x1 ⊗ y2 ⊗ x3 ⊗ x3 ⊗ x3 ⊗ y3 ⊗ y3 ⊕ d ⊗ y1 ⊗ x2 ⊗ x2 ⊗ y2 ⊗ x3 ⊗ x3 ⊗ y3 ⊕ d ⊗ y1 ⊗ x2 ⊗ y2 ⊗ y2 ⊗ x3 ⊗ y3 ⊗ y3
    ⊕ d ⊗ y1 ⊗ x2 ⊗ x3 ⊗ x3 ⊗ x3 ⊗ y3 ⊗ y3 ⊕ d ⊗ y1 ⊗ y2 ⊗ x3 ⊗ x3 ⊗ y3 ⊗ y3 ⊗ y3 ⊕ x1 ⊗ x1 ⊗ x1 ⊗ x2 ⊗ x3 ⊗ x3 ⊗ y3 ⊕ x1 ⊗ x1 ⊗ x1 ⊗ x2 ⊗ y3
    ⊕ x1 ⊗ x1 ⊗ x1 ⊗ y2 ⊗ x3 ⊗ x3 ⊗ x3 ⊕ x1 ⊗ x1 ⊗ x1 ⊗ y2 ⊗ x3 ⊕ x1 ⊗ x1 ⊗ y1 ⊗ x2 ⊗ x3 ⊗ x3 ⊗ x3 ⊕ x1 ⊗ x1 ⊗ y1 ⊗ x2 ⊗ x3
    ⊕ x1 ⊗ x1 ⊗ y1 ⊗ y2 ⊗ x3 ⊗ x3 ⊗ y3 ⊕ x1 ⊗ x1 ⊗ y1 ⊗ y2 ⊗ y3 ⊕ x1 ⊗ y1 ⊗ y1 ⊗ x2 ⊗ y3 ⊗ y3 ⊗ y3 ⊕ x1 ⊗ y1 ⊗ y1 ⊗ y2 ⊗ x3 ⊗ y3 ⊗ y3
    ⊕ x1 ⊗ x2 ⊗ x3 ⊗ x3 ⊗ y3 ⊕ x1 ⊗ x2 ⊗ y3 ⊕ x1 ⊗ y2 ⊗ x3 ⊗ x3 ⊗ x3 ⊕ x1 ⊗ y2 ⊗ x3 ⊕ y1 ⊗ y1 ⊗ y1 ⊗ x2 ⊗ x3 ⊗ y3 ⊗ y3
    ⊕ y1 ⊗ y1 ⊗ y1 ⊗ y2 ⊗ y3 ⊗ y3 ⊗ y3 ⊕ y1 ⊗ x2 ⊗ x3 ⊗ x3 ⊗ x3 ⊕ y1 ⊗ x2 ⊗ x3 ⊕ y1 ⊗ y2 ⊗ x3 ⊗ x3 ⊗ y3 ⊕ y1 ⊗ y2 ⊗ y3
    ⊖ d ⊗ d ⊗ x1 ⊗ x1 ⊗ y1 ⊗ x2 ⊗ y2 ⊗ y2 ⊗ x3 ⊗ x3 ⊗ x3 ⊗ y3 ⊗ y3 ⊖ d ⊗ d ⊗ x1 ⊗ y1 ⊗ y1 ⊗ x2 ⊗ x2 ⊗ y2 ⊗ x3 ⊗ x3 ⊗ x3 ⊗ y3 ⊗ y3
    ⊖ d ⊗ x1 ⊗ x1 ⊗ x1 ⊗ x2 ⊗ x2 ⊗ y2 ⊗ x3 ⊗ y3 ⊗ y3 ⊖ d ⊗ x1 ⊗ x1 ⊗ x1 ⊗ x2 ⊗ y2 ⊗ y2 ⊗ x3 ⊗ x3 ⊗ y3
    ⊖ d ⊗ x1 ⊗ y1 ⊗ y1 ⊗ x2 ⊗ x3 ⊗ x3 ⊗ y3 ⊗ y3 ⊗ y3 ⊖ d ⊗ x1 ⊗ y1 ⊗ y1 ⊗ y2 ⊗ x3 ⊗ x3 ⊗ x3 ⊗ y3 ⊗ y3 ⊖ d ⊗ x1 ⊗ x2 ⊗ x2 ⊗ y2 ⊗ x3 ⊗ y3 ⊗ y3
    ⊖ d ⊗ x1 ⊗ x2 ⊗ y2 ⊗ y2 ⊗ x3 ⊗ x3 ⊗ y3 ⊖ d ⊗ y1 ⊗ y1 ⊗ y1 ⊗ x2 ⊗ x2 ⊗ y2 ⊗ x3 ⊗ x3 ⊗ y3 ⊖ d ⊗ y1 ⊗ y1 ⊗ y1 ⊗ x2 ⊗ y2 ⊗ y2 ⊗ x3 ⊗ y3 ⊗ y3
    ⊖ d ⊗ y1 ⊗ y1 ⊗ y1 ⊗ x2 ⊗ x3 ⊗ x3 ⊗ x3 ⊗ y3 ⊗ y3 ⊖ d ⊗ y1 ⊗ y1 ⊗ y1 ⊗ y2 ⊗ x3 ⊗ x3 ⊗ y3 ⊗ y3 ⊗ y3 ⊖ x1 ⊗ x1 ⊗ x1 ⊗ x2 ⊗ y3 ⊗ y3 ⊗ y3
    ⊖ x1 ⊗ x1 ⊗ x1 ⊗ y2 ⊗ x3 ⊗ y3 ⊗ y3 ⊖ x1 ⊗ x1 ⊗ y1 ⊗ x2 ⊗ x3 ⊗ y3 ⊗ y3 ⊖ x1 ⊗ x1 ⊗ y1 ⊗ y2 ⊗ y3 ⊗ y3 ⊗ y3 ⊖ x1 ⊗ y1 ⊗ y1 ⊗ x2 ⊗ x3 ⊗ x3 ⊗ y3
    ⊖ x1 ⊗ y1 ⊗ y1 ⊗ x2 ⊗ y3 ⊖ x1 ⊗ y1 ⊗ y1 ⊗ y2 ⊗ x3 ⊗ x3 ⊗ x3 ⊖ x1 ⊗ y1 ⊗ y1 ⊗ y2 ⊗ x3 ⊖ x1 ⊗ x2 ⊗ y3 ⊗ y3 ⊗ y3 ⊖ x1 ⊗ y2 ⊗ x3 ⊗ y3 ⊗ y3
    ⊖ y1 ⊗ y1 ⊗ y1 ⊗ x2 ⊗ x3 ⊗ x3 ⊗ x3 ⊖ y1 ⊗ y1 ⊗ y1 ⊗ x2 ⊗ x3 ⊖ y1 ⊗ y1 ⊗ y1 ⊗ y2 ⊗ x3 ⊗ x3 ⊗ y3 ⊖ y1 ⊗ y1 ⊗ y1 ⊗ y2 ⊗ y3
    ⊖ y1 ⊗ x2 ⊗ x3 ⊗ y3 ⊗ y3 ⊖ y1 ⊗ y2 ⊗ y3 ⊗ y3 ⊗ y3

abbrev pub y_cofactor_3 : Expr
y_cofactor_3 =
    d ⊗ x1 ⊗ x1 ⊗ y1 ⊗ x2 ⊗ y2 ⊗ y2 ⊗ x3 ⊕ d ⊗ x1 ⊗ y1 ⊗ y1 ⊗ x2 ⊗ x2 ⊗ y2 ⊗ x3 ⊕ x1 ⊗ x1 ⊗ x1 ⊗ x2 ⊗ y2 ⊗ y2 ⊗ y3
    ⊕ x1 ⊗ x1 ⊗ x1 ⊗ y2 ⊗ y2 ⊗ y2 ⊗ x3 ⊕ x1 ⊗ x1 ⊗ y1 ⊗ x2 ⊗ y2 ⊗ y2 ⊗ x3 ⊕ x1 ⊗ x1 ⊗ y1 ⊗ y2 ⊗ y2 ⊗ y2 ⊗ y3 ⊕ x1 ⊗ y1 ⊗ y1 ⊗ x2 ⊗ x2 ⊗ x2 ⊗ y3
    ⊕ x1 ⊗ y1 ⊗ y1 ⊗ x2 ⊗ x2 ⊗ y2 ⊗ x3 ⊕ x1 ⊗ y1 ⊗ y1 ⊗ x2 ⊗ y3 ⊕ x1 ⊗ y1 ⊗ y1 ⊗ y2 ⊗ x3 ⊕ x1 ⊗ x2 ⊗ y2 ⊗ y2 ⊗ y3 ⊕ x1 ⊗ y2 ⊗ y2 ⊗ y2 ⊗ x3
    ⊕ y1 ⊗ y1 ⊗ y1 ⊗ x2 ⊗ x2 ⊗ x2 ⊗ x3 ⊕ y1 ⊗ y1 ⊗ y1 ⊗ x2 ⊗ x2 ⊗ y2 ⊗ y3 ⊕ y1 ⊗ y1 ⊗ y1 ⊗ x2 ⊗ x3 ⊕ y1 ⊗ y1 ⊗ y1 ⊗ y2 ⊗ y3
    ⊕ y1 ⊗ x2 ⊗ y2 ⊗ y2 ⊗ x3 ⊕ y1 ⊗ y2 ⊗ y2 ⊗ y2 ⊗ y3 ⊖ d ⊗ x1 ⊗ x1 ⊗ y1 ⊗ x2 ⊗ x2 ⊗ y2 ⊗ y3 ⊖ d ⊗ x1 ⊗ y1 ⊗ y1 ⊗ x2 ⊗ y2 ⊗ y2 ⊗ y3
    ⊖ x1 ⊗ x1 ⊗ x1 ⊗ x2 ⊗ x2 ⊗ x2 ⊗ y3 ⊖ x1 ⊗ x1 ⊗ x1 ⊗ x2 ⊗ x2 ⊗ y2 ⊗ x3 ⊖ x1 ⊗ x1 ⊗ x1 ⊗ x2 ⊗ y3 ⊖ x1 ⊗ x1 ⊗ x1 ⊗ y2 ⊗ x3
    ⊖ x1 ⊗ x1 ⊗ y1 ⊗ x2 ⊗ x2 ⊗ x2 ⊗ x3 ⊖ x1 ⊗ x1 ⊗ y1 ⊗ x2 ⊗ x2 ⊗ y2 ⊗ y3 ⊖ x1 ⊗ x1 ⊗ y1 ⊗ x2 ⊗ x3 ⊖ x1 ⊗ x1 ⊗ y1 ⊗ y2 ⊗ y3
    ⊖ x1 ⊗ y1 ⊗ y1 ⊗ x2 ⊗ y2 ⊗ y2 ⊗ y3 ⊖ x1 ⊗ y1 ⊗ y1 ⊗ y2 ⊗ y2 ⊗ y2 ⊗ x3 ⊖ x1 ⊗ x2 ⊗ x2 ⊗ x2 ⊗ y3 ⊖ x1 ⊗ x2 ⊗ x2 ⊗ y2 ⊗ x3 ⊖ x1 ⊗ x2 ⊗ y3
    ⊖ x1 ⊗ y2 ⊗ x3 ⊖ y1 ⊗ y1 ⊗ y1 ⊗ x2 ⊗ y2 ⊗ y2 ⊗ x3 ⊖ y1 ⊗ y1 ⊗ y1 ⊗ y2 ⊗ y2 ⊗ y2 ⊗ y3 ⊖ y1 ⊗ x2 ⊗ x2 ⊗ x2 ⊗ x3 ⊖ y1 ⊗ x2 ⊗ x2 ⊗ y2 ⊗ y3
    ⊖ y1 ⊗ x2 ⊗ x3 ⊖ y1 ⊗ y2 ⊗ y3
