-- What holds of every point file, and of common denominators.
use Rattle.std.specs.Prelude.{◌≡◌, ℕ, ◌+◌, ◌≤◌, ◌<◌, ◌^◌, ℤ, pos, ◌<ℤ◌, ◌*ℤ◌, unsigned_abs, List, [], ◌∷◌, length, take, Ok}
use Rattle.std.specs.Int.{◌∣◌}
use Rattle.cgl_num.specs.Fraction.{Fraction}
use Rattle.cgl_model.specs.declared.mip.Model.{Model}
use Rattle.cgl_model.specs.Point.{Point}
use Rattle.cgl_where.specs.PointFile.{common_denominator, numerator_over, point_of, Values}
use Rattle.cgl_where.specs.Limits.{ArePositive}
use Rattle.cgl_where.specs.PointRead.{point_result}

abbrev pub AreSmall : List ℤ → Type 0
AreSmall [] = Unit {0}
AreSmall (n ∷ ns) = (unsigned_abs n < 2 ^ 100) × AreSmall ns

pub record IsWithin (x : Point) : Type 0 where
  pub positive : pos 0 <ℤ x.d
  pub denominator : unsigned_abs x.d ≤ 2 ^ 62
  pub numerators : AreSmall x.p

-- the point of a file has a denominator of at most 2^62 and numerators below 2^100
abbrev pub PointsAreWithin : Type 0
PointsAreWithin = (bytes : List ℕ) (m : Model) (x : Point) → point_of bytes m ≡ Values x → IsWithin x

-- what a point file is read as: a number for each column, within the limits
abbrev pub ResultsArePoints : Type 0
ResultsArePoints = (m : Model) (bytes : List ℕ) (x : Point) → point_result m bytes ≡ Ok x → (length x.p ≡ length m.cols) × IsWithin x

-- each denominator divides n
abbrev pub DivideAll : ℕ → List Fraction → Type 0
DivideAll n [] = Unit {0}
DivideAll n (f ∷ fs) = (unsigned_abs f.den ∣ n) × DivideAll n fs

-- the common denominator is a multiple of each denominator, and divides every other such multiple
abbrev pub DenominatorsAreLeast : Type 0
DenominatorsAreLeast =
    (fs : List Fraction) → ArePositive fs → DivideAll (common_denominator fs) fs × ((n : ℕ) → DivideAll n fs → common_denominator fs ∣ n)

-- each numerator over n, divided by n, is the fraction
abbrev pub AreOver : ℕ → List Fraction → Type 0
AreOver n [] = Unit {0}
AreOver n (f ∷ fs) = (numerator_over n f *ℤ f.den ≡ f.num *ℤ pos n) × AreOver n fs

abbrev pub ValuesAreKept : Type 0
ValuesAreKept = (fs : List Fraction) → ArePositive fs → AreOver (common_denominator fs) fs

-- no more than the first 2^30 + 1 bytes of a file count
abbrev pub FrontsMeanAll : Type 0
FrontsMeanAll = (bytes : List ℕ) (m : Model) → point_of (take (2 ^ 30 + 1) bytes) m ≡ point_of bytes m
